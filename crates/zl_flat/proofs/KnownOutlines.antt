-- What equations declare and define, part by part.
use Rattle.std.proofs.Common.{◌≡◌, List, [], ◌++◌, map, Option, None, ◌∙◌}
use Rattle.zl_value.specs.declared.position.Pos.{Pos}
use Rattle.zl_value.specs.declared.rule.Rule.TheVariants as rule
use Rattle.zl_ast.specs.declared.name.Name.{Name}
use Rattle.zl_ast.specs.declared.expr.Expr.{Expr}
use Rattle.zl_ast.specs.declared.eqn.Eqn.{Eqn}
use Rattle.zl_ast.specs.declared.eqn.Eqn.TheVariants as eqn
use Rattle.zl_ast.specs.declared.eqn.Eqn.TheOpen as open_eqn
use Rattle.zl_ast.specs.declared.eqn.Eqn.TheFolds.{fold-roll-Arm, fold-roll-Body, fold-roll-State}
use Rattle.zl_ast.specs.declared.eqn.Cond.{Cond}
use Rattle.zl_ast.specs.declared.eqn.ResetArm.{ResetArm}
use Rattle.zl_ast.specs.declared.eqn.Move.{Move}
use Rattle.zl_ast.specs.declared.eqn.Arm.{Arm}
use Rattle.zl_ast.specs.declared.eqn.Body.{Body}
use Rattle.zl_ast.specs.declared.eqn.State.{State}
use Rattle.zl_ast.specs.declared.program.Decl.{Decl}
use Rattle.zl_ast.specs.declared.scope.VarInfo.{VarInfo}
use Rattle.zl_ast.specs.Equations.{body, arm, state}
use Rattle.zl_ast.specs.Names.{Violation, broken_if, with_ids}
use Rattle.zl_ast.specs.NamesDefined.{Outline, StateOutline, list_from, first_places, eqn_step, arm_step, body_step, state_step, eqn_outline, arm_outline, body_outline, state_outline}
use Rattle.zl_ast.specs.NamesUsed.{Known as KnownNames}
use Rattle.zl_ast.specs.NamesRules.{is_declared, twice, variables_broken}
use Rattle.zl_ast.specs.Scopes.{param_ids, parameter, first_entries, variables}
use Rattle.zl_flat.proofs.Known.{Known, no_more, more}
use Rattle.zl_flat.proofs.TreeFolds.{fold-plain, fold-der, fold-start, fold-automaton, fold-reset, fold-present}

-- ---- equations

pub outline-plain : (left : List Name) (right : Expr) → eqn_outline (eqn.Plain left right) ≡ eqn_step (open_eqn.Plain left right)
unfolding eqn_outline arm_outline body_outline state_outline
outline-plain left right = fold-plain Outline Outline Outline StateOutline eqn_step arm_step body_step state_step left right

abbrev pub of_plain : (left : List Name) (right : Expr) → Known (eqn_outline (eqn.Plain left right))
of_plain left right = record { value = eqn_step (open_eqn.Plain left right); is = outline-plain left right }

pub outline-der : (at : Pos) (x : Name) (slope : Expr) (start : Option Expr) (resets : List ResetArm) → eqn_outline (eqn.Der at x slope start resets) ≡ eqn_step (open_eqn.Der at x slope start resets)
unfolding eqn_outline arm_outline body_outline state_outline
outline-der at x slope start resets = fold-der Outline Outline Outline StateOutline eqn_step arm_step body_step state_step at x slope start resets

abbrev pub of_der : (at : Pos) (x : Name) (slope : Expr) (start : Option Expr) (resets : List ResetArm) → Known (eqn_outline (eqn.Der at x slope start resets))
of_der at x slope start resets = record { value = eqn_step (open_eqn.Der at x slope start resets); is = outline-der at x slope start resets }

pub outline-init : (at : Pos) (x : Name) (value : Expr) → eqn_outline (eqn.Start at x value) ≡ eqn_step (open_eqn.Start at x value)
unfolding eqn_outline arm_outline body_outline state_outline
outline-init at x value = fold-start Outline Outline Outline StateOutline eqn_step arm_step body_step state_step at x value

abbrev pub of_init : (at : Pos) (x : Name) (value : Expr) → Known (eqn_outline (eqn.Start at x value))
of_init at x value = record { value = eqn_step (open_eqn.Start at x value); is = outline-init at x value }

pub outline-automaton : (at : Pos) (states : List State) → eqn_outline (eqn.Automaton at states) ≡ eqn_step (open_eqn.Automaton at (map state_outline states))
unfolding eqn_outline arm_outline body_outline state_outline
outline-automaton at states = fold-automaton Outline Outline Outline StateOutline eqn_step arm_step body_step state_step at states

abbrev pub of_automaton : (at : Pos) (states : List State) → Known (map state_outline states) → Known (eqn_outline (eqn.Automaton at states))
of_automaton at states k = record { value = eqn_step (open_eqn.Automaton at k.value); is = outline-automaton at states ∙ (λ j. eqn_step (open_eqn.Automaton at (k.is j))) }

pub outline-reset : (at : Pos) (eqs : List Eqn) (c : Cond) → eqn_outline (eqn.Reset at eqs c) ≡ eqn_step (open_eqn.Reset at (map eqn_outline eqs) c)
unfolding eqn_outline arm_outline body_outline state_outline
outline-reset at eqs c = fold-reset Outline Outline Outline StateOutline eqn_step arm_step body_step state_step at eqs c

abbrev pub of_reset : (at : Pos) (eqs : List Eqn) (c : Cond) → Known (map eqn_outline eqs) → Known (eqn_outline (eqn.Reset at eqs c))
of_reset at eqs c k = record { value = eqn_step (open_eqn.Reset at k.value c); is = outline-reset at eqs c ∙ (λ j. eqn_step (open_eqn.Reset at (k.is j) c)) }

pub outline-present : (at : Pos) (arms : List Arm) → eqn_outline (eqn.Present at arms None) ≡ eqn_step (open_eqn.Present at (map arm_outline arms) None)
unfolding eqn_outline arm_outline body_outline state_outline
outline-present at arms = fold-present Outline Outline Outline StateOutline eqn_step arm_step body_step state_step at arms

abbrev pub of_present : (at : Pos) (arms : List Arm) → Known (map arm_outline arms) → Known (eqn_outline (eqn.Present at arms None))
of_present at arms k = record { value = eqn_step (open_eqn.Present at k.value None); is = outline-present at arms ∙ (λ j. eqn_step (open_eqn.Present at (k.is j) None)) }

pub outline-arm : (c : Cond) (b : Body) → arm_outline (arm c b) ≡ arm_step (record { cond = c; body = body_outline b })
unfolding eqn_outline arm_outline body_outline state_outline
outline-arm c b = fold-roll-Arm Outline Outline Outline StateOutline eqn_step arm_step body_step state_step (record { cond = c; body = b })

abbrev pub of_arm : (c : Cond) (b : Body) → Known (body_outline b) → Known (arm_outline (arm c b))
of_arm c b k = record { value = arm_step (record { cond = c; body = k.value }); is = outline-arm c b ∙ (λ j. arm_step (record { cond = c; body = k.is j })) }

pub outline-body : (locals : List Name) (eqs : List Eqn) → body_outline (body locals eqs) ≡ body_step (record { locals = locals; eqs = map eqn_outline eqs })
unfolding eqn_outline arm_outline body_outline state_outline
outline-body locals eqs = fold-roll-Body Outline Outline Outline StateOutline eqn_step arm_step body_step state_step (record { locals = locals; eqs = eqs })

abbrev pub of_body : (locals : List Name) (eqs : List Eqn) → Known (map eqn_outline eqs) → Known (body_outline (body locals eqs))
of_body locals eqs k = record { value = body_step (record { locals = locals; eqs = k.value }); is = outline-body locals eqs ∙ (λ j. body_step (record { locals = locals; eqs = k.is j })) }

pub outline-state : (name : Name) (b : Body) (moves : List Move) → state_outline (state name b moves) ≡ state_step (record { name = name; body = body_outline b; moves = moves })
unfolding eqn_outline arm_outline body_outline state_outline
outline-state name b moves = fold-roll-State Outline Outline Outline StateOutline eqn_step arm_step body_step state_step (record { name = name; body = b; moves = moves })

abbrev pub of_state : (name : Name) (b : Body) (moves : List Move) → Known (body_outline b) → Known (state_outline (state name b moves))
of_state name b moves k = record { value = state_step (record { name = name; body = k.value; moves = moves }); is = outline-state name b moves ∙ (λ j. state_step (record { name = name; body = k.is j; moves = moves })) }

pub ruleset known_outlines = (no_more, more, of_plain, of_der, of_init, of_automaton, of_reset, of_present, of_arm, of_body, of_state)

-- ---- declarations

-- the variables of a declaration whose equations have these outlines
abbrev pub variables_by : Decl → List Outline → List VarInfo
variables_by d os = map parameter d.params ++ first_entries (with_ids [] (param_ids d.params)) (list_from [] [] os).entries

-- and the rules that it breaks by them
abbrev pub broken_by : KnownNames → Decl → List Outline → List Violation
broken_by k d os =
    let outline = list_from [] [] os in
    broken_if (is_declared k d.name.id) rule.NameTwice d.name.at
    ++ (outline.broken
    ++ (first_places (with_ids [] (param_ids d.params)) [] outline.entries
    ++ twice k.constants [] (variables_by d os)))

pub variables-by : (d : Decl) (k : Known (map eqn_outline d.eqs)) → variables d ≡ variables_by d k.value
unfolding variables
variables-by d k = λ j. variables_by d (k.is j)

pub broken-by : (names : KnownNames) (d : Decl) (k : Known (map eqn_outline d.eqs)) → variables_broken names d ≡ broken_by names d k.value
unfolding variables variables_broken
broken-by names d k = λ j. broken_by names d (k.is j)
