-- The names that equations declare and define, one by one, with the numbers that their places have in a copy.
use Rattle.std.proofs.Common.{ℕ, ◌+◌, if◌then◌else◌, List, [], ◌∷◌, ◌++◌, map, Option, Some, None}
use Rattle.zl_value.specs.declared.position.Pos.{Pos}
use Rattle.zl_ast.specs.declared.name.Name.{Name}
use Rattle.zl_ast.specs.declared.scope.VarInfo.{VarInfo}
use Rattle.zl_ast.specs.declared.scope.VarClass.{VarClass}
use Rattle.zl_ast.specs.declared.scope.VarClass.TheVariants as class
use Rattle.zl_ast.specs.declared.eqn.Eqn.{Eqn}
use Rattle.zl_ast.specs.declared.eqn.Arm.{Arm}
use Rattle.zl_ast.specs.declared.eqn.Body.{Body}
use Rattle.zl_ast.specs.declared.eqn.State.{State}
use Rattle.zl_ast.specs.declared.eqn.Eqn.TheOpen.{Eqn-F, Arm-F, Body-F, State-F}
use Rattle.zl_ast.specs.declared.eqn.Eqn.TheOpen as open_eqn
use Rattle.zl_ast.specs.declared.eqn.Eqn.TheFolds.{fold-Eqn, fold-Arm, fold-Body, fold-State}
use Rattle.zl_ast.specs.NamesDefined.{entry}
use Rattle.zl_flat.specs.declared.size.Size.{Size}
use Rattle.zl_flat.specs.Variables.{is_first}
use Rattle.zl_flat.specs.Sizes.{expr_size, start_size, reset_arm_size, cond_size, move_size, name_size, total}

-- a name that is declared or defined, and the number of the place that is made there if the name is the first of its variable
pub record Mention : Type 0 where
  pub name : Name
  pub class : VarClass
  pub number : ℕ

-- these names, and the number of the next place
pub record Mentioned : Type 0 where
  pub all : List Mention
  pub next : ℕ

-- the mentions where this is the next place
abbrev pub Mentioning : Type 0
Mentioning = ℕ → Mentioned

-- none, both, and several in turn
abbrev pub no_mentions : Mentioning
no_mentions n = record { all = []; next = n }

abbrev pub both : Mentioning → Mentioning → Mentioning
both f g n = record { all = (f n).all ++ (g (f n).next).all; next = (g (f n).next).next }

abbrev pub in_turn : List Mentioning → Mentioning
in_turn [] n = no_mentions n
in_turn (f ∷ fs) n = both f (in_turn fs) n

-- what holds no variable of the declaration
abbrev pub of_calls : Size → Mentioning
of_calls s n = record { all = []; next = n + s.places }

module _ (vars : List VarInfo) (known : ℕ → Option Size) where
  -- a name, names, and what may be there or not
  abbrev pub of_name : VarClass → Name → Mentioning
  of_name c x n = record { all = record { name = x; class = c; number = n } ∷ []; next = n + (name_size vars known x).places }

  abbrev pub of_names : VarClass → List Name → Mentioning
  of_names c xs = in_turn (map (of_name c) xs)

  abbrev pub of_other : Option Mentioning → Mentioning
  of_other None = no_mentions
  of_other (Some b) = b

  -- the mentions in equations, in the order of the text
  abbrev pub eqn_step : Eqn-F Mentioning Mentioning Mentioning Mentioning → Mentioning
  eqn_step (open_eqn.Plain left right) = both (of_names class.Top left) (of_calls (expr_size vars known right))
  eqn_step (open_eqn.Der at x slope start resets) = both (of_name class.Top x) (both (of_calls (expr_size vars known slope)) (both (of_calls (start_size vars known start)) (of_calls (total (map (reset_arm_size vars known) resets)))))
  eqn_step (open_eqn.Start at x value) = both (of_name class.Top x) (of_calls (expr_size vars known value))
  eqn_step (open_eqn.Present at arms other) = both (in_turn arms) (of_other other)
  eqn_step (open_eqn.Automaton at states) = in_turn states
  eqn_step (open_eqn.Reset at eqs c) = both (in_turn eqs) (of_calls (cond_size vars known c))

  abbrev pub arm_step : Arm-F Mentioning Mentioning Mentioning Mentioning → Mentioning
  arm_step a = both (of_calls (cond_size vars known a.cond)) a.body

  abbrev pub body_step : Body-F Mentioning Mentioning Mentioning Mentioning → Mentioning
  body_step b = both (of_names class.Local b.locals) (in_turn b.eqs)

  abbrev pub state_step : State-F Mentioning Mentioning Mentioning Mentioning → Mentioning
  state_step s = both s.body (of_calls (total (map (move_size vars known) s.moves)))

  unfoldable pub eqn_mentions : Eqn → Mentioning
  eqn_mentions = fold-Eqn Mentioning Mentioning Mentioning Mentioning eqn_step arm_step body_step state_step

  unfoldable pub arm_mentions : Arm → Mentioning
  arm_mentions = fold-Arm Mentioning Mentioning Mentioning Mentioning eqn_step arm_step body_step state_step

  unfoldable pub body_mentions : Body → Mentioning
  body_mentions = fold-Body Mentioning Mentioning Mentioning Mentioning eqn_step arm_step body_step state_step

  unfoldable pub state_mentions : State → Mentioning
  state_mentions = fold-State Mentioning Mentioning Mentioning Mentioning eqn_step arm_step body_step state_step

-- ---- parts of the list

-- those that are the first of their variable
abbrev pub firsts : List VarInfo → List Mention → List Mention
firsts vars [] = []
firsts vars (m ∷ ms) = if is_first vars m.name then m ∷ firsts vars ms else firsts vars ms

-- their numbers
abbrev pub numbers : List Mention → List ℕ
numbers ms = map (λ (m : Mention). m.number) ms

-- the entries that they would be in the list of what an equation declares and defines
abbrev pub as_entry : Mention → VarInfo
as_entry m = entry m.class m.name

abbrev pub as_entries : List Mention → List VarInfo
as_entries ms = map as_entry ms

-- where they stand in the text
abbrev pub places_in_text : List Mention → List Pos
places_in_text ms = map (λ (m : Mention). m.name.at) ms
