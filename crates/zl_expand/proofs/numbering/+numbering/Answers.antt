use Rattle.std.proofs.Common.{rules, ◌≡◌, OnOk, Some, map, sym, ap, ◌∙◌}
use Rattle.zl_ast.specs.declared.eqn.Eqn.TheVariants as eqn
use Rattle.zl_ast.specs.declared.eqn.Arm.{out-Arm}
use Rattle.zl_ast.specs.declared.eqn.Body.{out-Body}
use Rattle.zl_ast.specs.declared.eqn.State.{out-State}
use Rattle.zl_flat.specs.Sizes as sizes
use Rattle.zl_flat.specs.Numbering as spec
use Rattle.zl_expand.specs.Kept.{infos_in, known_in, NumbersWithin}
use Rattle.zl_flat.proofs.NumberingEnds.{ends-calls, turn-ends, eqn-ends, arm-ends, body-ends, state-ends}
use Rattle.zl_flat.proofs.NumberingSteps.{numbering-der, numbering-present_else, numbering-arm, numbering-body, numbering-state}
use Rattle.zl_expand.proofs.NumberingSums.{both-within, as-within, both-end, all-end, on-ok, turn-begins, turn-within, turn-made}
use Rattle.zl_expand.proofs.numbering.+numbering.Goals as goal

-- ---- lists

pub number_eqns-loop-eqn-init : goal.number_eqns-loop-eqn-init
number_eqns-loop-eqn-init t c = turn-begins (spec.eqn_numbering (infos_in c.args.known.now) (known_in c.args.known.now)) c.args.eqns.now c.args.places.now

pub number_eqns-returns : goal.number_eqns-returns
number_eqns-returns t c = turn-made (spec.eqn_numbering (infos_in c.args.known.now) (known_in c.args.known.now)) c.args.eqns.now c.loop-eqn.eqn-index c.args.places.now c.loop-eqn.places (search rules) c.loop-eqn.invariant

pub number_arms-loop-arm-init : goal.number_arms-loop-arm-init
number_arms-loop-arm-init t c = turn-begins (spec.arm_numbering (infos_in c.args.known.now) (known_in c.args.known.now)) c.args.arms.now c.args.places.now

pub number_arms-returns : goal.number_arms-returns
number_arms-returns t c = turn-made (spec.arm_numbering (infos_in c.args.known.now) (known_in c.args.known.now)) c.args.arms.now c.loop-arm.arm-index c.args.places.now c.loop-arm.places (search rules) c.loop-arm.invariant

pub number_states-loop-state-init : goal.number_states-loop-state-init
number_states-loop-state-init t c = turn-begins (spec.state_numbering (infos_in c.args.known.now) (known_in c.args.known.now)) c.args.states.now c.args.places.now

pub number_states-returns : goal.number_states-returns
number_states-returns t c = turn-made (spec.state_numbering (infos_in c.args.known.now) (known_in c.args.known.now)) c.args.states.now c.loop-state.state-index c.args.places.now c.loop-state.places (search rules) c.loop-state.invariant

pub number_eqns-loop-eqn-preserved : goal.number_eqns-loop-eqn-preserved
number_eqns-loop-eqn-preserved t c =
    let infos = infos_in c.args.known.now in
    let known = known_in c.args.known.now in
    let made : NumbersWithin c.loop-eqn.places c.number_eqn.new.places (spec.eqn_numbering infos known c.eqn-item.result) = search rules in
    turn-within (spec.eqn_numbering infos known) (sizes.eqn_size infos known) (eqn-ends infos known) c.args.eqns.now c.loop-eqn.eqn-index c.eqn-item.result c.args.places.now c.loop-eqn.places c.number_eqn.new.places made c.loop-eqn.invariant (search rules) (search rules)

pub number_arms-loop-arm-preserved : goal.number_arms-loop-arm-preserved
number_arms-loop-arm-preserved t c =
    let infos = infos_in c.args.known.now in
    let known = known_in c.args.known.now in
    let arm = c.arm-item.result in
    let cond = spec.of_calls (sizes.cond_size infos known (out-Arm arm).cond) in
    let body = spec.body_numbering infos known (out-Arm arm).body in
    let first : NumbersWithin c.loop-arm.places c.pass_cond.new.places cond = search rules in
    let then_body : NumbersWithin c.pass_cond.new.places c.number_body.new.places body = search rules in
    let made = as-within _ _ (spec.both cond body) (spec.arm_numbering infos known arm) (sym (numbering-arm infos known c.loop-arm.places.next arm)) (both-within _ _ _ cond body _ (body-ends infos known (out-Arm arm).body) first then_body) in
    turn-within (spec.arm_numbering infos known) (sizes.arm_size infos known) (arm-ends infos known) c.args.arms.now c.loop-arm.arm-index arm c.args.places.now c.loop-arm.places c.number_body.new.places made c.loop-arm.invariant (search rules) (search rules)

pub number_states-loop-state-preserved : goal.number_states-loop-state-preserved
number_states-loop-state-preserved t c =
    let infos = infos_in c.args.known.now in
    let known = known_in c.args.known.now in
    let state = c.state-item.result in
    let size = sizes.total (map (sizes.move_size infos known) (out-State state).moves) in
    let body = spec.body_numbering infos known (out-State state).body in
    let moves = spec.of_calls size in
    let first : NumbersWithin c.loop-state.places c.number_body.new.places body = search rules in
    let then_moves : NumbersWithin c.number_body.new.places c.pass_moves.new.places moves = search rules in
    let made = as-within _ _ (spec.both body moves) (spec.state_numbering infos known state) (sym (numbering-state infos known c.loop-state.places.next state)) (both-within _ _ _ body moves size (ends-calls size) first then_moves) in
    turn-within (spec.state_numbering infos known) (sizes.state_size infos known) (state-ends infos known) c.args.states.now c.loop-state.state-index state c.args.places.now c.loop-state.places c.pass_moves.new.places made c.loop-state.invariant (search rules) (search rules)

-- ---- bodies and equations

pub number_body-returns : goal.number_body-returns
number_body-returns t c =
    let infos = infos_in c.args.known.now in
    let known = known_in c.args.known.now in
    let body = out-Body c.args.body.now in
    let locals = spec.of_names infos known body.locals in
    let eqs = spec.in_turn (map (spec.eqn_numbering infos known) body.eqs) in
    let first : NumbersWithin c.args.places.now c.number_names.new.places locals = search rules in
    let then_eqs : OnOk c.number_eqns.result (NumbersWithin c.number_names.new.places c.number_eqns.new.places eqs) = search rules in
    on-ok c.number_eqns.result _ _ (λ q. as-within _ _ (spec.both locals eqs) (spec.body_numbering infos known c.args.body.now) (sym (numbering-body infos known c.args.places.now.next c.args.body.now)) (both-within _ _ _ locals eqs _ (turn-ends (spec.eqn_numbering infos known) (sizes.eqn_size infos known) (eqn-ends infos known) body.eqs) first q)) then_eqs

pub number_eqn-returns-in_ok-number_name-in-Der : goal.number_eqn-returns-in_ok-number_name-in-Der
number_eqn-returns-in_ok-number_name-in-Der t c =
    let infos = infos_in c.args.known.now in
    let known = known_in c.args.known.now in
    let d = c.in-Der in
    let n = c.args.places.now.next in
    let slope = sizes.expr_size infos known d.slope in
    let start = sizes.start_size infos known d.start in
    let resets = sizes.total (map (sizes.reset_arm_size infos known) d.resets) in
    let name = spec.of_name infos known d.name in
    let rest = spec.both (spec.of_calls slope) (spec.both (spec.of_calls start) (spec.of_calls resets)) in
    let first : NumbersWithin c.args.places.now c.number_name.new.places name = search rules in
    let second : NumbersWithin c.number_name.new.places c.pass_expr-in-Der.new.places (spec.of_calls slope) = search rules in
    let third : NumbersWithin c.pass_expr-in-Der.new.places c.pass_start.new.places (spec.of_calls start) = search rules in
    let fourth : NumbersWithin c.pass_start.new.places c.pass_resets.new.places (spec.of_calls resets) = search rules in
    let last = both-within _ _ _ (spec.of_calls start) (spec.of_calls resets) resets (ends-calls resets) third fourth in
    let behind = both-within _ _ _ (spec.of_calls slope) (spec.both (spec.of_calls start) (spec.of_calls resets)) _ (both-end start resets) second last in
    let same = sym (numbering-der infos known n d.at d.name d.slope d.start d.resets) ∙ ap (λ e. spec.eqn_numbering infos known e n) (sym d.is) in
    as-within _ _ (spec.both name rest) (spec.eqn_numbering infos known c.args.eqn.now) same (both-within _ _ _ name rest _ (all-end slope start resets) first behind)

pub number_eqn-returns-in-Some : goal.number_eqn-returns-in-Some
number_eqn-returns-in-Some t c =
    let infos = infos_in c.args.known.now in
    let known = known_in c.args.known.now in
    let d = c.in-Present in
    let b = c.in-Some.body in
    let n = c.args.places.now.next in
    let arms = spec.in_turn (map (spec.arm_numbering infos known) d.arms) in
    let body = spec.body_numbering infos known b in
    let is : Some b ≡ d.other = search rules in
    let first : NumbersWithin c.args.places.now c.number_arms.new.places arms = search rules in
    let then_body : OnOk c.number_body.result (NumbersWithin c.number_arms.new.places c.number_body.new.places body) = search rules in
    let same = sym (numbering-present_else infos known n d.at d.arms b) ∙ ap (λ o. spec.eqn_numbering infos known (eqn.Present d.at d.arms o) n) is ∙ ap (λ e. spec.eqn_numbering infos known e n) (sym d.is) in
    on-ok c.number_body.result _ _ (λ q. as-within _ _ (spec.both arms body) (spec.eqn_numbering infos known c.args.eqn.now) same (both-within _ _ _ arms body _ (body-ends infos known b) first q)) then_body
