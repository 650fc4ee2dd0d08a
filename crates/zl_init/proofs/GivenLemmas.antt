-- What an equation gives names, by its form.
use Rattle.std.proofs.Common.{◌≡◌, ℕ, List, [], ◌∷◌, ◌++◌, map, filter, is_some, Option, Some, None, sym, ap, ◌∙◌}
use Rattle.std.proofs.lemmas.Grind.{common_steps}
use Rattle.std.proofs.lemmas.List.{append-nil}
use Rattle.zl_value.specs.declared.position.Pos.{Pos}
use Rattle.zl_ast.specs.declared.name.Name.{Name}
use Rattle.zl_ast.specs.declared.expr.Expr.{Expr}
use Rattle.zl_ast.specs.declared.eqn.Eqn.{Eqn}
use Rattle.zl_ast.specs.declared.eqn.Eqn.TheVariants as eqn
use Rattle.zl_ast.specs.declared.eqn.Eqn.TheOpen as open_eqn
use Rattle.zl_ast.specs.declared.eqn.Eqn.TheFolds.{fold-roll-Eqn, fold_out-Arm, fold_out-Body, fold_out-State}
use Rattle.zl_ast.specs.declared.eqn.Cond.{Cond}
use Rattle.zl_ast.specs.declared.eqn.ResetArm.{ResetArm}
use Rattle.zl_ast.specs.declared.eqn.Arm.{Arm, out-Arm}
use Rattle.zl_ast.specs.declared.eqn.Body.{Body, out-Body}
use Rattle.zl_ast.specs.declared.eqn.State.{State, out-State}
use Rattle.zl_ast.specs.Names.{ids_of}
use Rattle.zl_ast.specs.Anchored.{Given, both, together, defined_ids, one_of, der_given, eqn_step, arm_step, body_step, state_step, eqn_given, arm_given, body_given, state_given, eqns_given, other_body_given}
use Rattle.zl_init.specs.Kept.{shared_with, shared_with_each, common_after}
use Rattle.zl_init.proofs.ListLemmas.{number_steps, common-lists}

-- the definition of equations under locals, by the words of the code
abbrev kept_under : List Name → Given → Given
kept_under locals g =
    record {
      defined = g.defined;
      started = g.started;
      anchored = g.anchored ++ shared_with g.started (ids_of locals);
      settled = g.settled ++ shared_with (g.started ++ g.defined) (ids_of locals);
    }

pub given-plain : (left : List Name) (right : Expr) → eqn_given (eqn.Plain left right) ≡ record { defined = ids_of left; started = []; anchored = []; settled = [] }
unfolding eqn_given state_given
given-plain left right = ap eqn_given (sym (eqn.rolls-Plain left right)) ∙ fold-roll-Eqn Given Given Given Given eqn_step arm_step body_step state_step (open_eqn.Plain left right)

pub given-der : (at : Pos) (x : Name) (slope : Expr) (start : Option Expr) (resets : List ResetArm) → eqn_given (eqn.Der at x slope start resets) ≡ der_given x (is_some start)
unfolding eqn_given state_given
given-der at x slope start resets = ap eqn_given (sym (eqn.rolls-Der at x slope start resets)) ∙ fold-roll-Eqn Given Given Given Given eqn_step arm_step body_step state_step (open_eqn.Der at x slope start resets)

pub given-start : (at : Pos) (x : Name) (value : Expr) → eqn_given (eqn.Start at x value) ≡ record { defined = []; started = x.id ∷ []; anchored = []; settled = [] }
unfolding eqn_given state_given
given-start at x value = ap eqn_given (sym (eqn.rolls-Start at x value)) ∙ fold-roll-Eqn Given Given Given Given eqn_step arm_step body_step state_step (open_eqn.Start at x value)

pub given-automaton : (at : Pos) (states : List State) → eqn_given (eqn.Automaton at states) ≡ one_of (common_after None (defined_ids (map state_given states))) (together (map state_given states))
unfolding eqn_given state_given
given-automaton at states = ap eqn_given (sym (eqn.rolls-Automaton at states)) ∙ fold-roll-Eqn Given Given Given Given eqn_step arm_step body_step state_step (open_eqn.Automaton at states) ∙ ap (λ ids. one_of ids (together (map state_given states))) (sym (common-lists (defined_ids (map state_given states))))

pub given-reset : (at : Pos) (eqs : List Eqn) (c : Cond) → eqn_given (eqn.Reset at eqs c) ≡ eqns_given eqs
unfolding eqn_given state_given
given-reset at eqs c = ap eqn_given (sym (eqn.rolls-Reset at eqs c)) ∙ fold-roll-Eqn Given Given Given Given eqn_step arm_step body_step state_step (open_eqn.Reset at eqs c)

pub given-present : (at : Pos) (arms : List Arm) (other : Option Body) → eqn_given (eqn.Present at arms other)
    ≡ one_of (shared_with_each (defined_ids (map arm_given arms)) (other_body_given other).defined) (both (other_body_given other) (together (map arm_given arms)))
unfolding eqn_given arm_given body_given shared_with_each
given-present at arms None = ap eqn_given (sym (eqn.rolls-Present at arms None)) ∙ fold-roll-Eqn Given Given Given Given eqn_step arm_step body_step state_step (open_eqn.Present at arms None)
given-present at arms (Some b) = ap eqn_given (sym (eqn.rolls-Present at arms (Some b))) ∙ fold-roll-Eqn Given Given Given Given eqn_step arm_step body_step state_step (open_eqn.Present at arms (Some b))

pub given-arm : (a : Arm) → arm_given a ≡ body_given (out-Arm a).body
unfolding arm_given body_given
given-arm a = fold_out-Arm Given Given Given Given eqn_step arm_step body_step state_step a

pub given-body : (b : Body) → body_given b ≡ kept_under (out-Body b).locals (eqns_given (out-Body b).eqs)
unfolding eqn_given body_given shared_with
given-body b = fold_out-Body Given Given Given Given eqn_step arm_step body_step state_step b

pub given-state : (s : State) → state_given s ≡ body_given (out-State s).body
unfolding state_given body_given
given-state s = fold_out-State Given Given Given Given eqn_step arm_step body_step state_step s

pub ruleset given_steps = (common_steps, append-nil, number_steps, given-present, given-arm, given-body, given-state, given-plain, given-der, given-start, given-automaton, given-reset)
