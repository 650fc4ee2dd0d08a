-- The variables that have a value from the first instant on by the form of the equations: those that are anchored, and those
-- that are surely defined.
use Rattle.std.specs.Prelude.{ℕ, Bool, true, false, ◌&&◌, List, [], ◌∷◌, ◌++◌, map, filter, Option, Some, None, is_some}
use Rattle.zl_ast.specs.declared.name.Name.{Name}
use Rattle.zl_ast.specs.declared.eqn.Eqn.{Eqn}
use Rattle.zl_ast.specs.declared.eqn.Arm.{Arm}
use Rattle.zl_ast.specs.declared.eqn.Body.{Body}
use Rattle.zl_ast.specs.declared.eqn.State.{State}
use Rattle.zl_ast.specs.declared.eqn.Eqn.TheOpen.{Eqn-F, Arm-F, Body-F, State-F}
use Rattle.zl_ast.specs.declared.eqn.Eqn.TheOpen as open_eqn
use Rattle.zl_ast.specs.declared.eqn.Eqn.TheFolds.{fold-Eqn, fold-Arm, fold-Body, fold-State}
use Rattle.zl_ast.specs.Names.{among, ids_of}

-- What equations give names, by their numbers.
pub record Given : Type 0 where
  -- the names that they surely define
  pub defined : List ℕ
  -- the names to which they give an `init`, in `reset` blocks at most
  pub started : List ℕ
  -- the locals of bodies inside that are anchored
  pub anchored : List ℕ
  -- the locals of bodies inside that are anchored or surely defined
  pub settled : List ℕ

-- what gives names nothing
abbrev pub nothing : Given
nothing = record { defined = []; started = []; anchored = []; settled = [] }

-- what two equations give names
abbrev pub both : Given → Given → Given
both g h = record { defined = g.defined ++ h.defined; started = g.started ++ h.started; anchored = g.anchored ++ h.anchored; settled = g.settled ++ h.settled }

-- equations of one list
abbrev pub together : List Given → Given
together [] = nothing
together (g ∷ gs) = both g (together gs)

-- the number is in each of the lists
abbrev pub in_each : List (List ℕ) → ℕ → Bool
in_each [] id = true
in_each (ids ∷ more) id = among ids id && in_each more id

-- the numbers that are in each of the lists
abbrev pub common : List (List ℕ) → List ℕ
common [] = []
common (ids ∷ more) = filter (in_each more) ids

-- the names that each of these surely defines
abbrev pub defined_ids : List Given → List (List ℕ)
defined_ids gs = map (λ g. g.defined) gs

-- bodies of which one at a time runs, where these names are surely defined
abbrev pub one_of : List ℕ → Given → Given
one_of ids g = record { defined = ids; started = []; anchored = g.anchored; settled = g.settled }

-- a body without which nothing is defined
abbrev pub other_given : Option Given → Given
other_given None = nothing
other_given (Some g) = g

-- the locals among these numbers
abbrev pub held : List Name → List ℕ → List ℕ
held locals ids = filter (among ids) (ids_of locals)

-- equations under the locals that their body declares
abbrev pub under : List Name → Given → Given
under locals g =
    record {
      defined = g.defined;
      started = g.started;
      anchored = g.anchored ++ held locals g.started;
      settled = g.settled ++ held locals (g.started ++ g.defined);
    }

-- `der x`, which defines x and gives it an `init` where it has an `init` part
abbrev pub der_given : Name → Bool → Given
der_given x true = record { defined = x.id ∷ []; started = x.id ∷ []; anchored = []; settled = [] }
der_given x false = nothing

-- ---- down the tree

abbrev pub eqn_step : Eqn-F Given Given Given Given → Given
eqn_step (open_eqn.Plain left right) = record { defined = ids_of left; started = []; anchored = []; settled = [] }
eqn_step (open_eqn.Der at x slope start resets) = der_given x (is_some start)
eqn_step (open_eqn.Start at x value) = record { defined = []; started = x.id ∷ []; anchored = []; settled = [] }
eqn_step (open_eqn.Present at arms other) =
    let o = other_given other in one_of (filter (in_each (defined_ids arms)) o.defined) (both o (together arms))
eqn_step (open_eqn.Automaton at states) = one_of (common (defined_ids states)) (together states)
eqn_step (open_eqn.Reset at eqs c) = together eqs

abbrev pub arm_step : Arm-F Given Given Given Given → Given
arm_step a = a.body

abbrev pub body_step : Body-F Given Given Given Given → Given
body_step b = under b.locals (together b.eqs)

abbrev pub state_step : State-F Given Given Given Given → Given
state_step s = s.body

unfoldable pub eqn_given : Eqn → Given
eqn_given = fold-Eqn Given Given Given Given eqn_step arm_step body_step state_step

unfoldable pub arm_given : Arm → Given
arm_given = fold-Arm Given Given Given Given eqn_step arm_step body_step state_step

unfoldable pub body_given : Body → Given
body_given = fold-Body Given Given Given Given eqn_step arm_step body_step state_step

unfoldable pub state_given : State → Given
state_given = fold-State Given Given Given Given eqn_step arm_step body_step state_step

-- a list of equations
abbrev pub eqns_given : List Eqn → Given
eqns_given es = together (map eqn_given es)

-- the body behind `else`, if there is one
abbrev pub other_body_given : Option Body → Given
other_body_given None = nothing
other_body_given (Some b) = body_given b

-- ---- of a declaration with these equations

-- the variables that are anchored: the body that declares them gives them an `init`, in `reset` blocks at most
abbrev pub anchored : List Eqn → List ℕ
anchored es = let g = eqns_given es in g.anchored ++ g.started

-- the variables that are anchored, or surely defined by the body that declares them
abbrev pub settled : List Eqn → List ℕ
settled es = let g = eqns_given es in g.settled ++ (g.started ++ g.defined)
