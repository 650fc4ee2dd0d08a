-- Which places of a copy are those of the declaration's own variables.
use Rattle.std.specs.Prelude.{ℕ, ◌+◌, if◌then◌else◌, List, [], ◌∷◌, ◌++◌, map, Option, Some, None}
use Rattle.zl_ast.specs.declared.name.Name.{Name}
use Rattle.zl_ast.specs.declared.scope.VarInfo.{VarInfo}
use Rattle.zl_ast.specs.declared.eqn.Eqn.{Eqn}
use Rattle.zl_ast.specs.declared.eqn.Arm.{Arm}
use Rattle.zl_ast.specs.declared.eqn.Body.{Body}
use Rattle.zl_ast.specs.declared.eqn.State.{State}
use Rattle.zl_ast.specs.declared.eqn.Eqn.TheOpen.{Eqn-F, Arm-F, Body-F, State-F}
use Rattle.zl_ast.specs.declared.eqn.Eqn.TheOpen as open_eqn
use Rattle.zl_ast.specs.declared.eqn.Eqn.TheFolds.{fold-Eqn, fold-Arm, fold-Body, fold-State}
use Rattle.zl_ast.specs.declared.program.Decl.{Decl}
use Rattle.zl_flat.specs.declared.size.Size.{Size}
use Rattle.zl_flat.specs.Variables.{is_first}
use Rattle.zl_flat.specs.Sizes.{expr_size, exprs_size, start_size, reset_arm_size, cond_size, move_size, total}

-- the places of variables, and the next place
pub record Numbered : Type 0 where
  pub own : List ℕ
  pub next : ℕ

-- The numbers of the places of variables, where this is the next place.
abbrev pub Numbering : Type 0
Numbering = ℕ → Numbered

abbrev pub no_places : Numbering
no_places n = record { own = []; next = n }

abbrev pub both : Numbering → Numbering → Numbering
both f g n = record { own = (f n).own ++ (g (f n).next).own; next = (g (f n).next).next }

abbrev pub in_turn : List Numbering → Numbering
in_turn [] n = no_places n
in_turn (f ∷ fs) n = both f (in_turn fs) n

abbrev pub a_variable : Numbering
a_variable n = record { own = n ∷ []; next = n + 1 }

-- what holds no variable of the declaration: its places are those of calls
abbrev pub of_calls : Size → Numbering
of_calls s n = record { own = []; next = n + s.places }

module _ (vars : List VarInfo) (known : ℕ → Option Size) where
  abbrev pub of_name : Name → Numbering
  of_name x = if is_first vars x then a_variable else no_places

  abbrev pub of_names : List Name → Numbering
  of_names xs = in_turn (map of_name xs)

  abbrev pub of_other : Option Numbering → Numbering
  of_other None = no_places
  of_other (Some b) = b

  abbrev pub eqn_step : Eqn-F Numbering Numbering Numbering Numbering → Numbering
  eqn_step (open_eqn.Plain left right) = both (of_names left) (of_calls (expr_size vars known right))
  eqn_step (open_eqn.Der at x slope start resets) = both (of_name x) (both (of_calls (expr_size vars known slope)) (both (of_calls (start_size vars known start)) (of_calls (total (map (reset_arm_size vars known) resets)))))
  eqn_step (open_eqn.Start at x value) = both (of_name x) (of_calls (expr_size vars known value))
  eqn_step (open_eqn.Present at arms other) = both (in_turn arms) (of_other other)
  eqn_step (open_eqn.Automaton at states) = in_turn states
  eqn_step (open_eqn.Reset at eqs c) = both (in_turn eqs) (of_calls (cond_size vars known c))

  abbrev pub arm_step : Arm-F Numbering Numbering Numbering Numbering → Numbering
  arm_step a = both (of_calls (cond_size vars known a.cond)) a.body

  abbrev pub body_step : Body-F Numbering Numbering Numbering Numbering → Numbering
  body_step b = both (of_names b.locals) (in_turn b.eqs)

  abbrev pub state_step : State-F Numbering Numbering Numbering Numbering → Numbering
  state_step s = both s.body (of_calls (total (map (move_size vars known) s.moves)))

  unfoldable pub eqn_numbering : Eqn → Numbering
  eqn_numbering = fold-Eqn Numbering Numbering Numbering Numbering eqn_step arm_step body_step state_step

  unfoldable pub arm_numbering : Arm → Numbering
  arm_numbering = fold-Arm Numbering Numbering Numbering Numbering eqn_step arm_step body_step state_step

  unfoldable pub body_numbering : Body → Numbering
  body_numbering = fold-Body Numbering Numbering Numbering Numbering eqn_step arm_step body_step state_step

  unfoldable pub state_numbering : State → Numbering
  state_numbering = fold-State Numbering Numbering Numbering Numbering eqn_step arm_step body_step state_step

  -- a copy of the declaration's body: first the parameters, then the results, then the equations
  unfoldable pub decl_numbering : Decl → Numbering
  decl_numbering d =
      both (in_turn (map (λ p. a_variable) d.params)) (both (of_calls (exprs_size vars known d.results)) (in_turn (map eqn_numbering d.eqs)))
