-- The outline of an equation, by its form.
use Rattle.std.proofs.Common.{◌≡◌, ℕ, Bool, true, false, List, [], ◌∷◌, ◌++◌, map, length, is_some, Option, Some, None, refl, sym, ap, ◌∙◌}
use Rattle.std.proofs.lemmas.Grind.{common_steps}
use Rattle.std.proofs.lemmas.List.{append-nil}
use Rattle.zl_value.specs.declared.position.Pos.{Pos}
use Rattle.zl_ast.specs.declared.name.Name.{Name}
use Rattle.zl_ast.specs.declared.expr.Expr.{Expr}
use Rattle.zl_ast.specs.declared.eqn.Eqn.{Eqn}
use Rattle.zl_ast.specs.declared.eqn.Eqn.TheVariants as eqn
use Rattle.zl_ast.specs.declared.eqn.Eqn.TheOpen as open_eqn
use Rattle.zl_ast.specs.declared.eqn.Eqn.TheFolds.{fold-roll-Eqn, fold_out-Arm, fold_out-Body, fold_out-State}
use Rattle.zl_ast.specs.declared.eqn.Cond.{Cond}
use Rattle.zl_ast.specs.declared.eqn.ResetArm.{ResetArm}
use Rattle.zl_ast.specs.declared.eqn.Arm.{Arm, out-Arm}
use Rattle.zl_ast.specs.declared.eqn.Body.{Body, out-Body}
use Rattle.zl_ast.specs.declared.eqn.State.{State, out-State}
use Rattle.zl_ast.specs.NamesDefined.{Outline, StateOutline, both, together, under, automaton_outline, left_outline, one_defined, eqn_step, arm_step, body_step, state_step, eqn_outline, arm_outline, body_outline, state_outline, eqns_outline, body_or_none, state_names}
use Rattle.zl_names.proofs.EarliestLemmas.{earliest-append, earliest-none}

pub outline-plain : (left : List Name) (right : Expr) → eqn_outline (eqn.Plain left right) ≡ left_outline left
unfolding eqn_outline state_outline
outline-plain left right = ap eqn_outline (sym (eqn.rolls-Plain left right)) ∙ fold-roll-Eqn Outline Outline Outline StateOutline eqn_step arm_step body_step state_step (open_eqn.Plain left right)

pub outline-der : (at : Pos) (x : Name) (slope : Expr) (start : Option Expr) (resets : List ResetArm) → eqn_outline (eqn.Der at x slope start resets) ≡ one_defined x true (is_some start)
unfolding eqn_outline state_outline
outline-der at x slope start resets = ap eqn_outline (sym (eqn.rolls-Der at x slope start resets)) ∙ fold-roll-Eqn Outline Outline Outline StateOutline eqn_step arm_step body_step state_step (open_eqn.Der at x slope start resets)

pub outline-start : (at : Pos) (x : Name) (value : Expr) → eqn_outline (eqn.Start at x value) ≡ one_defined x false true
unfolding eqn_outline state_outline
outline-start at x value = ap eqn_outline (sym (eqn.rolls-Start at x value)) ∙ fold-roll-Eqn Outline Outline Outline StateOutline eqn_step arm_step body_step state_step (open_eqn.Start at x value)

pub outline-automaton : (at : Pos) (states : List State) → eqn_outline (eqn.Automaton at states) ≡ automaton_outline (map state_outline states)
unfolding eqn_outline state_outline
outline-automaton at states = ap eqn_outline (sym (eqn.rolls-Automaton at states)) ∙ fold-roll-Eqn Outline Outline Outline StateOutline eqn_step arm_step body_step state_step (open_eqn.Automaton at states)

pub outline-reset : (at : Pos) (eqs : List Eqn) (c : Cond) → eqn_outline (eqn.Reset at eqs c) ≡ eqns_outline eqs
unfolding eqn_outline state_outline
outline-reset at eqs c = ap eqn_outline (sym (eqn.rolls-Reset at eqs c)) ∙ fold-roll-Eqn Outline Outline Outline StateOutline eqn_step arm_step body_step state_step (open_eqn.Reset at eqs c)

pub outline-present : (at : Pos) (arms : List Arm) (other : Option Body) → eqn_outline (eqn.Present at arms other) ≡ both (together (map arm_outline arms)) (body_or_none other)
unfolding eqn_outline arm_outline body_outline
outline-present at arms None = ap eqn_outline (sym (eqn.rolls-Present at arms None)) ∙ fold-roll-Eqn Outline Outline Outline StateOutline eqn_step arm_step body_step state_step (open_eqn.Present at arms None)
outline-present at arms (Some b) = ap eqn_outline (sym (eqn.rolls-Present at arms (Some b))) ∙ fold-roll-Eqn Outline Outline Outline StateOutline eqn_step arm_step body_step state_step (open_eqn.Present at arms (Some b))

pub outline-arm : (a : Arm) → arm_outline a ≡ body_outline (out-Arm a).body
unfolding arm_outline body_outline
outline-arm a = fold_out-Arm Outline Outline Outline StateOutline eqn_step arm_step body_step state_step a

pub outline-body : (b : Body) → body_outline b ≡ under (out-Body b).locals (eqns_outline (out-Body b).eqs)
unfolding eqn_outline body_outline
outline-body b = fold_out-Body Outline Outline Outline StateOutline eqn_step arm_step body_step state_step b

pub outline-state : (s : State) → state_outline s ≡ record { name = (out-State s).name; targets = map (λ m. m.target) (out-State s).moves; outline = body_outline (out-State s).body }
unfolding state_outline body_outline
outline-state s = fold_out-State Outline Outline Outline StateOutline eqn_step arm_step body_step state_step s

pub state_names-outlines : (states : List State) → state_names (map state_outline states) ≡ map (λ s. (out-State s).name) states
state_names-outlines [] = refl
state_names-outlines (s ∷ states) = ap (λ o. o.name ∷ state_names (map state_outline states)) (outline-state s) ∙ ap (λ xs. (out-State s).name ∷ xs) (state_names-outlines states)

pub ruleset outline_steps = (common_steps, earliest-append, earliest-none, append-nil, outline-plain, outline-der, outline-start, outline-present, outline-automaton, outline-reset, outline-arm, outline-body, outline-state, state_names-outlines)
