-- What equations declare and define, less what their locals hold, and the rules that they break by it.
use Rattle.std.specs.Prelude.{ℕ, Bool, true, false, not, ◌&&◌, if◌then◌else◌, List, [], ◌∷◌, ◌++◌, map, filter, Option, Some, None, is_some}
use Rattle.zl_value.specs.declared.rule.Rule.TheVariants as rule
use Rattle.zl_ast.specs.declared.name.Name.{Name}
use Rattle.zl_ast.specs.declared.scope.VarInfo.{VarInfo}
use Rattle.zl_ast.specs.declared.scope.VarClass.{VarClass}
use Rattle.zl_ast.specs.declared.scope.VarClass.TheVariants as class
use Rattle.zl_ast.specs.declared.eqn.Eqn.{Eqn}
use Rattle.zl_ast.specs.declared.eqn.Arm.{Arm}
use Rattle.zl_ast.specs.declared.eqn.Body.{Body}
use Rattle.zl_ast.specs.declared.eqn.State.{State}
use Rattle.zl_ast.specs.declared.eqn.Eqn.TheOpen.{Eqn-F, Arm-F, Body-F, State-F}
use Rattle.zl_ast.specs.declared.eqn.Eqn.TheOpen as open_eqn
use Rattle.zl_ast.specs.declared.eqn.Eqn.TheFolds.{fold-Eqn, fold-Arm, fold-Body, fold-State}
use Rattle.zl_ast.specs.Names.{Violation, broken_if, among, with_id, with_ids, ids_of, repeats, strangers}

-- What an equation declares and defines, in the order of the text.
pub record Outline : Type 0 where
  -- each name that stands behind a `local`, and each that is defined and that no local around it holds
  pub entries : List VarInfo
  -- the numbers of the defined names that are defined other than by `init`
  pub valued : List ℕ
  -- the numbers of the defined names that are given an `init`
  pub started : List ℕ
  pub broken : List Violation

abbrev pub entry : VarClass → Name → VarInfo
entry c x = record { name = x.id; at = x.at; class = c }

abbrev pub is_top : VarClass → Bool
is_top class.Top = true
is_top _ = false

-- the entry is a name that is defined
abbrev pub is_defined : VarInfo → Bool
is_defined v = is_top v.class

-- the numbers of the defined names, each once, behind these
abbrev pub with_defined : List ℕ → List VarInfo → List ℕ
with_defined ids [] = ids
with_defined ids (v ∷ vs) = with_defined (if is_defined v then with_id ids v.name else ids) vs

-- ---- two equations of one list

-- where a wanted name is first defined
abbrev pub first_places : List ℕ → List ℕ → List VarInfo → List Violation
first_places wanted seen [] = []
first_places wanted seen (v ∷ vs) =
    let here = is_defined v && (among wanted v.name && not (among seen v.name)) in
    broken_if here rule.DefinedTwice v.at ++ first_places wanted (if here then with_id seen v.name else seen) vs

-- the numbers that are in both lists, each once, behind these
abbrev pub with_shared : List ℕ → List ℕ → List ℕ → List ℕ
with_shared ids known [] = ids
with_shared ids known (id ∷ more) = with_shared (if among known id then with_id ids id else ids) known more

-- ---- outlines

abbrev pub nothing : Outline
nothing = record { entries = []; valued = []; started = []; broken = [] }

abbrev pub both : Outline → Outline → Outline
both o p = record { entries = o.entries ++ p.entries; valued = o.valued ++ p.valued; started = o.started ++ p.started; broken = o.broken ++ p.broken }

abbrev pub together : List Outline → Outline
together [] = nothing
together (o ∷ os) = both o (together os)

-- an outline with violations before its own, and with violations behind them
abbrev pub after : List Violation → Outline → Outline
after vs o = record { entries = o.entries; valued = o.valued; started = o.started; broken = vs ++ o.broken }

abbrev pub with_broken : Outline → List Violation → Outline
with_broken o vs = record { entries = o.entries; valued = o.valued; started = o.started; broken = o.broken ++ vs }

-- The numbers of the names that an equation defines other than by `init`, as equations before it do, and of those that it
-- gives an `init`, as equations before it do.
abbrev pub clashing : List ℕ → List ℕ → Outline → List ℕ
clashing valued started o = with_shared (with_shared [] valued o.valued) started o.started

-- Equations of one list, behind equations that define these numbers other than by `init` and give these an `init`. The
-- violation of two equations stands where the later one first defines the name.
abbrev pub list_from : List ℕ → List ℕ → List Outline → Outline
list_from valued started [] = nothing
list_from valued started (o ∷ os) =
    both (with_broken o (first_places (clashing valued started o) [] o.entries)) (list_from (with_ids valued o.valued) (with_ids started o.started) os)

-- what is left where locals hold these numbers
abbrev pub free_entries : List ℕ → List VarInfo → List VarInfo
free_entries held vs = filter (λ v. not (is_defined v && among held v.name)) vs

abbrev pub free_ids : List ℕ → List ℕ → List ℕ
free_ids held ids = filter (λ id. not (among held id)) ids

-- Equations under locals. A local that they don't define breaks a rule.
abbrev pub under : List Name → Outline → Outline
under locals o =
    let held = with_ids [] (ids_of locals) in
    record {
      entries = map (entry class.Local) locals ++ free_entries held o.entries;
      valued = free_ids held o.valued;
      started = free_ids held o.started;
      broken = o.broken ++ strangers rule.Undefined (with_defined [] o.entries) locals;
    }

-- ---- states

pub record StateOutline : Type 0 where
  pub name : Name
  pub targets : List Name
  pub outline : Outline

-- a state of an automaton whose states have these numbers: a move to another state breaks a rule
abbrev pub state_among : List ℕ → StateOutline → Outline
state_among ids s = after (strangers rule.Branch ids s.targets) s.outline

abbrev pub states_among : List ℕ → List StateOutline → Outline
states_among ids [] = nothing
states_among ids (s ∷ states) = both (state_among ids s) (states_among ids states)

abbrev pub state_names : List StateOutline → List Name
state_names [] = []
state_names (s ∷ states) = s.name ∷ state_names states

-- an automaton: two states of one name break a rule
abbrev pub automaton_outline : List StateOutline → Outline
automaton_outline states = after (repeats rule.Branch [] (state_names states)) (states_among (with_ids [] (ids_of (state_names states))) states)

-- ---- down the tree

abbrev pub id_if : Bool → ℕ → List ℕ
id_if true id = id ∷ []
id_if false id = []

-- a name that one equation alone defines, as a value or by an `init`
abbrev pub one_defined : Name → Bool → Bool → Outline
one_defined x is_valued is_started = record { entries = entry class.Top x ∷ []; valued = id_if is_valued x.id; started = id_if is_started x.id; broken = [] }

-- the left side of a plain equation
abbrev pub left_outline : List Name → Outline
left_outline left = record { entries = map (entry class.Top) left; valued = ids_of left; started = []; broken = repeats rule.DefinedTwice [] left }

abbrev pub other_outline : Option Outline → Outline
other_outline None = nothing
other_outline (Some o) = o

abbrev pub eqn_step : Eqn-F Outline Outline Outline StateOutline → Outline
eqn_step (open_eqn.Plain left right) = left_outline left
eqn_step (open_eqn.Der at x slope start resets) = one_defined x true (is_some start)
eqn_step (open_eqn.Start at x value) = one_defined x false true
eqn_step (open_eqn.Present at arms other) = both (together arms) (other_outline other)
eqn_step (open_eqn.Automaton at states) = automaton_outline states
eqn_step (open_eqn.Reset at eqs c) = list_from [] [] eqs

abbrev pub arm_step : Arm-F Outline Outline Outline StateOutline → Outline
arm_step a = a.body

abbrev pub body_step : Body-F Outline Outline Outline StateOutline → Outline
body_step b = under b.locals (list_from [] [] b.eqs)

abbrev pub state_step : State-F Outline Outline Outline StateOutline → StateOutline
state_step s = record { name = s.name; targets = map (λ m. m.target) s.moves; outline = s.body }

unfoldable pub eqn_outline : Eqn → Outline
eqn_outline = fold-Eqn Outline Outline Outline StateOutline eqn_step arm_step body_step state_step

unfoldable pub arm_outline : Arm → Outline
arm_outline = fold-Arm Outline Outline Outline StateOutline eqn_step arm_step body_step state_step

unfoldable pub body_outline : Body → Outline
body_outline = fold-Body Outline Outline Outline StateOutline eqn_step arm_step body_step state_step

unfoldable pub state_outline : State → StateOutline
state_outline = fold-State Outline Outline Outline StateOutline eqn_step arm_step body_step state_step

-- a list of equations
abbrev pub eqns_outline : List Eqn → Outline
eqns_outline es = list_from [] [] (map eqn_outline es)

abbrev pub body_or_none : Option Body → Outline
body_or_none None = nothing
body_or_none (Some b) = body_outline b
