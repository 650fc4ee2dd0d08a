-- What the walk of equations makes.
use Rattle.std.specs.List.{position}
use Rattle.std.specs.Option.{option_map_or}
use Rattle.std.specs.Prelude.{ℕ, ◌+◌, Bool, true, false, if◌then◌else◌, nat_eq, is_some, List, [], ◌∷◌, map, length, Option, Some, None}
use Rattle.zl_value.specs.declared.position.Pos.{Pos}
use Rattle.zl_value.specs.declared.value.Ty.{Ty}
use Rattle.zl_value.specs.declared.value.Ty.TheVariants.{Bool as BoolTy, Int, Zero}
use Rattle.zl_ast.specs.declared.name.Name.{Name}
use Rattle.zl_ast.specs.declared.expr.Expr.{Expr}
use Rattle.zl_ast.specs.declared.eqn.Eqn.{Eqn}
use Rattle.zl_ast.specs.declared.eqn.Arm.{Arm}
use Rattle.zl_ast.specs.declared.eqn.Body.{Body}
use Rattle.zl_ast.specs.declared.eqn.State.{State}
use Rattle.zl_ast.specs.declared.eqn.Cond.{Cond}
use Rattle.zl_ast.specs.declared.eqn.Cond.TheVariants.{Event, Test}
use Rattle.zl_ast.specs.declared.eqn.Up.{Up}
use Rattle.zl_ast.specs.declared.eqn.ResetArm.{ResetArm}
use Rattle.zl_ast.specs.declared.eqn.Move.{Move}
use Rattle.zl_ast.specs.declared.eqn.Eqn.TheOpen.{Eqn-F, Arm-F, Body-F, State-F}
use Rattle.zl_ast.specs.declared.eqn.Eqn.TheOpen as open_eqn
use Rattle.zl_ast.specs.declared.eqn.Eqn.TheFolds.{fold-Eqn, fold-Arm, fold-Body, fold-State}
use Rattle.zl_meaning.specs.declared.block.BlockKind.TheVariants.{Arm as ArmOf, Guard, State as StateOf, Reset}
use Rattle.zl_meaning.specs.declared.block.AutoMove.{AutoMove}
use Rattle.zl_meaning.specs.declared.place.Definer.{Definer}
use Rattle.zl_meaning.specs.declared.place.Definer.TheVariants.{Plain, Der, Start}
use Rattle.zl_meaning.specs.declared.place.DerArm.{DerArm}
use Rattle.zl_meaning.specs.declared.occurrence.Form.TheVariants.{Up as UpOf, Fired}
use Rattle.zl_flat.specs.declared.variable.Variable.{Variable}
use Rattle.zl_flat.specs.declared.here.Here.{Here}
use Rattle.zl_flat.specs.declared.here.Root.{Root}
use Rattle.zl_flat.specs.declared.given.Given.{Given}
use Rattle.zl_flat.specs.Parts.{Parts, Counters, nothing, joined, one_block, one_place, some_definers, one_occ, one_hidden, one_site, one_choice, one_automaton, after, past_block, past_occ, past_hidden, past_site, past_choice, past_automaton}
use Rattle.zl_flat.specs.Variables.{variable_of, is_first}
use Rattle.zl_flat.specs.Instances.{Instance, in_body, in_block, inner_block, place_here, occ_here, site_here}
use Rattle.zl_flat.specs.Expressions.{Walk, Walked, expr_walk}

-- What is made here, with these numbers.
abbrev pub Making : Type 0
Making = Here → Counters → Parts

abbrev pub in_turn : List Making → Making
in_turn [] here s = nothing
in_turn (m ∷ ms) here s = joined (m here s) (in_turn ms here (after s (m here s)))

-- What is made for a condition or for `up`s, and the occurrences that these are.
pub record Tested : Type 0 where
  pub parts : Parts
  pub test : ℕ

pub record TestedAll : Type 0 where
  pub parts : Parts
  pub tests : List ℕ

abbrev pub Testing : Type 0
Testing = Here → Counters → Tested

abbrev pub test_all : List Testing → Here → Counters → TestedAll
test_all [] here s = record { parts = nothing; tests = [] }
test_all (t ∷ ts) here s =
    let first = t here s in
    let rest = test_all ts here (after s first.parts) in
    record { parts = joined first.parts rest.parts; tests = first.test ∷ rest.tests }

-- the place of the first `up` of an event
abbrev pub first_at : List Up → Pos
first_at [] = record { line = 0; column = 0 }
first_at (u ∷ us) = u.at

-- which of these numbers of names this one is, from 0
abbrev pub index_among : List ℕ → ℕ → ℕ
index_among ids id = option_map_or (λ n. n) (position (nat_eq id) ids) 0

-- ---- places and definers of variables

abbrev pub place_number : Option Variable → ℕ
place_number None = 0
place_number (Some v) = v.place

abbrev pub place_type : Option Variable → Ty
place_type None = Int
place_type (Some v) = v.ty

abbrev pub given : ℕ → Definer → Given
given place definer = record { place = place; definer = definer }

abbrev pub derivative : ℕ → ℕ → List DerArm → Definer
derivative block slope resets = Der block slope resets

-- definers of names by the occurrences of expressions, one by one
abbrev pub plain_definers : Instance → Here → List Name → List Root → List Given
plain_definers i here (x ∷ xs) (r ∷ rs) = given (place_number (variable_of i.variables x.id)) (Plain here.block r.occ) ∷ plain_definers i here xs rs
plain_definers i here _ _ = []

-- one name is defined by the expression, several names by the results of the call that it is
abbrev pub right_roots : List Name → Walked → List Root
right_roots (x ∷ []) e = e.root ∷ []
right_roots _ e = e.results

-- a state of an automaton: its name, and what is made for it as a state of this automaton, with this number, where these
-- are the numbers of the names of the states
pub record StateMade : Type 0 where
  pub parts : Parts
  pub moves : List AutoMove

pub record StateWalk : Type 0 where
  pub name : Name
  pub walk : ℕ → ℕ → List ℕ → Here → Counters → StateMade

pub record StatesMade : Type 0 where
  pub parts : Parts
  pub states : List (List AutoMove)

abbrev pub state_names : List StateWalk → List ℕ
state_names [] = []
state_names (w ∷ ws) = w.name.id ∷ state_names ws

abbrev pub states_made : List StateWalk → ℕ → ℕ → List ℕ → Here → Counters → StatesMade
states_made [] of number names here s = record { parts = nothing; states = [] }
states_made (w ∷ ws) of number names here s =
    let first = w.walk of number names here s in
    let rest = states_made ws of (number + 1) names here (after s first.parts) in
    record { parts = joined first.parts rest.parts; states = first.moves ∷ rest.states }

-- an arm of this choice, with this number
abbrev pub ArmWalk : Type 0
ArmWalk = ℕ → ℕ → Here → Counters → Tested

abbrev pub arms_made : List ArmWalk → ℕ → ℕ → Here → Counters → TestedAll
arms_made [] of number here s = record { parts = nothing; tests = [] }
arms_made (w ∷ ws) of number here s =
    let first = w of number here s in
    let rest = arms_made ws of (number + 1) here (after s first.parts) in
    record { parts = joined first.parts rest.parts; tests = first.test ∷ rest.tests }

-- a body of a choice: a block of its own, in which nothing flows
abbrev pub body_of_choice : Making → ℕ → ℕ → Making
body_of_choice body of number here s =
    joined (one_block (inner_block here (ArmOf of number) false)) (body (in_block s.blocks false here) (past_block s))

-- a reset arm of a `der`: its event and its value
pub record ResetWalk : Type 0 where
  pub event : Testing
  pub value : Walk

pub record ResetsMade : Type 0 where
  pub parts : Parts
  pub arms : List DerArm

-- the value of an `init` behind a `der`
pub record StartMade : Type 0 where
  pub parts : Parts
  pub value : Option ℕ

abbrev pub start_definers : ℕ → Here → Option ℕ → List Given
start_definers p here None = []
start_definers p here (Some occ) = given p (Start here.block occ) ∷ []

-- a move of a state
pub record MoveWalk : Type 0 where
  pub strong : Bool
  pub reset : Bool
  pub test : Testing
  pub target : Name

-- the condition of a move stands in the state's guard where the move is by `unless`, else in its body
abbrev pub condition_place : Bool → ℕ → ℕ → Here → Here
condition_place true guard body here = in_block guard here.hybrid here
condition_place false guard body here = in_block body here.hybrid here

module _ (base : ℕ) (names : List (List ℕ)) (i : Instance) where
  -- a name that is declared or defined: where it is the first of its variable, that gets its place
  abbrev pub name_made : Name → Making
  name_made x here s =
      if is_first i.infos x then one_place (place_here here (place_type (variable_of i.variables x.id)) x.id x.at) else nothing

  abbrev pub names_made : List Name → Making
  names_made xs = in_turn (map name_made xs)

  -- `up` of an expression: an occurrence, and a site with its number
  abbrev pub crossing : Pos → Walk → Testing
  crossing at argument here s =
      let arg = argument here (past_site (past_occ s)) in
      record {
        parts = joined (one_occ (occ_here here Zero at (UpOf s.sites))) (joined (one_site (site_here here arg.root.occ at)) arg.parts);
        test = s.occs;
      }

  -- an event: a hidden occurrence, before what stands inside it
  abbrev pub event : Pos → List Testing → Testing
  event at crossings here s =
      let ups = test_all crossings here (past_hidden s) in
      record { parts = joined (one_hidden (occ_here here BoolTy at (Fired ups.tests))) ups.parts; test = base + s.hidden }

  abbrev pub tested : Walk → Testing
  tested x here s = record { parts = (x here s).parts; test = (x here s).root.occ }

  abbrev pub up_walk : Up → Testing
  up_walk u = crossing u.at (expr_walk base names i u.arg)

  abbrev pub event_walk : List Up → Testing
  event_walk us = event (first_at us) (map up_walk us)

  abbrev pub cond_walk : Cond → Testing
  cond_walk (Event us) = event_walk us
  cond_walk (Test at x) = tested (expr_walk base names i x)

  -- `x = e`, `(x, y) = f(e)`
  abbrev pub plain : List Name → Walk → Making
  plain left right here s =
      let first = names_made left (in_body i here) s in
      let e = right here (after s first) in
      joined first (joined e.parts (some_definers (plain_definers i here left (right_roots left e))))

  -- ---- `der`, `init`

  abbrev pub resets_made : List ResetWalk → Here → Counters → ResetsMade
  resets_made [] here s = record { parts = nothing; arms = [] }
  resets_made (r ∷ rs) here s =
      let event = r.event here s in
      let value = r.value here (after s event.parts) in
      let rest = resets_made rs here (after (after s event.parts) value.parts) in
      record {
        parts = joined event.parts (joined value.parts rest.parts);
        arms = record { event = event.test; value = value.root.occ } ∷ rest.arms;
      }

  abbrev pub start_made : Option Walk → Here → Counters → StartMade
  start_made None here s = record { parts = nothing; value = None }
  start_made (Some x) here s = record { parts = (x here s).parts; value = Some (x here s).root.occ }

  abbrev pub der : Name → Walk → Option Walk → List ResetWalk → Making
  der x slope start resets here s =
      let first = name_made x (in_body i here) s in
      let p = place_number (variable_of i.variables x.id) in
      let e = slope here (after s first) in
      let begin = start_made start here (after (after s first) e.parts) in
      let arms = resets_made resets here (after (after (after s first) e.parts) begin.parts) in
      joined first (joined e.parts (joined begin.parts (joined arms.parts
      (some_definers (given p (derivative here.block e.root.occ arms.arms) ∷ start_definers p here begin.value)))))

  abbrev pub init : Name → Walk → Making
  init x value here s =
      let first = name_made x (in_body i here) s in
      let e = value here (after s first) in
      joined first (joined e.parts (some_definers (given (place_number (variable_of i.variables x.id)) (Start here.block e.root.occ) ∷ [])))

  abbrev pub reset_arm_walk : ResetArm → ResetWalk
  reset_arm_walk r = record { event = event_walk r.event; value = expr_walk base names i r.value }

  abbrev pub start_walk : Option Expr → Option Walk
  start_walk None = None
  start_walk (Some x) = Some (expr_walk base names i x)

  -- ---- `present`, `automaton`, `reset`

  abbrev pub other_made : Option Making → ℕ → ℕ → Making
  other_made None of number here s = nothing
  other_made (Some b) of number here s = body_of_choice b of number here s

  abbrev pub present : List ArmWalk → Option Making → Making
  present arms other here s =
      let bodies = arms_made arms s.choices 0 here (past_choice s) in
      let last_body = other_made other s.choices (length arms) here (after (past_choice s) bodies.parts) in
      joined (one_choice (record { block = here.block; conds = bodies.tests; other = is_some other })) (joined bodies.parts last_body)

  abbrev pub automaton : List StateWalk → Making
  automaton states here s =
      let made = states_made states s.automata 0 (state_names states) here (past_automaton s) in
      joined (one_automaton (record { block = here.block; states = made.states })) made.parts

  abbrev pub reset : List Making → Testing → Making
  reset eqs c here s =
      let inside = in_turn eqs (in_block s.blocks here.hybrid here) (past_block s) in
      let test = c here (after (past_block s) inside) in
      joined (one_block (inner_block here (Reset test.test) here.hybrid)) (joined inside test.parts)

  abbrev pub moves_made : List MoveWalk → ℕ → ℕ → List ℕ → Here → Counters → StateMade
  moves_made [] guard body states here s = record { parts = nothing; moves = [] }
  moves_made (m ∷ ms) guard body states here s =
      let test = m.test (condition_place m.strong guard body here) s in
      let rest = moves_made ms guard body states here (after s test.parts) in
      record {
        parts = joined test.parts rest.parts;
        moves = record { strong = m.strong; reset = m.reset; cond = test.test; target = index_among states m.target.id } ∷ rest.moves;
      }

  abbrev pub move_walk : Move → MoveWalk
  move_walk m = record { strong = m.strong; reset = m.reset; test = cond_walk m.cond; target = m.target }

  -- a state: the guard, and then the body
  abbrev pub state_made : Making → List MoveWalk → ℕ → ℕ → List ℕ → Here → Counters → StateMade
  state_made body moves of number states here s =
      let inside = body (in_block (s.blocks + 1) here.hybrid here) (past_block (past_block s)) in
      let rest = moves_made moves s.blocks (s.blocks + 1) states here (after (past_block (past_block s)) inside) in
      record {
        parts =
            joined (one_block (inner_block here (Guard of number) here.hybrid))
            (joined (one_block (inner_block here (StateOf of number) here.hybrid)) (joined inside rest.parts));
        moves = rest.moves;
      }

  -- an arm: its condition, and then the body
  abbrev pub arm_made : Testing → Making → ArmWalk
  arm_made c body of number here s =
      let test = c here s in
      record { parts = joined test.parts (body_of_choice body of number here (after s test.parts)); test = test.test }

  -- locals, and then equations
  abbrev pub body_made : List Name → List Making → Making
  body_made locals eqs here s =
      let first = names_made locals here s in
      joined first (in_turn eqs here (after s first))

  abbrev pub eqn_step : Eqn-F Making ArmWalk Making StateWalk → Making
  eqn_step (open_eqn.Plain left right) = plain left (expr_walk base names i right)
  eqn_step (open_eqn.Der at x slope start resets) = der x (expr_walk base names i slope) (start_walk start) (map reset_arm_walk resets)
  eqn_step (open_eqn.Start at x value) = init x (expr_walk base names i value)
  eqn_step (open_eqn.Present at arms other) = present arms other
  eqn_step (open_eqn.Automaton at states) = automaton states
  eqn_step (open_eqn.Reset at eqs c) = reset eqs (cond_walk c)

  abbrev pub arm_step : Arm-F Making ArmWalk Making StateWalk → ArmWalk
  arm_step a = arm_made (cond_walk a.cond) a.body

  abbrev pub body_step : Body-F Making ArmWalk Making StateWalk → Making
  body_step b = body_made b.locals b.eqs

  abbrev pub state_step : State-F Making ArmWalk Making StateWalk → StateWalk
  state_step s = record { name = s.name; walk = state_made s.body (map move_walk s.moves) }

  unfoldable pub eqn_walk : Eqn → Making
  eqn_walk = fold-Eqn Making ArmWalk Making StateWalk eqn_step arm_step body_step state_step

  unfoldable pub arm_walk : Arm → ArmWalk
  arm_walk = fold-Arm Making ArmWalk Making StateWalk eqn_step arm_step body_step state_step

  unfoldable pub body_walk : Body → Making
  body_walk = fold-Body Making ArmWalk Making StateWalk eqn_step arm_step body_step state_step

  unfoldable pub one_state_walk : State → StateWalk
  one_state_walk = fold-State Making ArmWalk Making StateWalk eqn_step arm_step body_step state_step

  abbrev pub eqns_walk : List Eqn → Making
  eqns_walk es = in_turn (map eqn_walk es)
