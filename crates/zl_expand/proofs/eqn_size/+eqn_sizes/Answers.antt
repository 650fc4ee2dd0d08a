use Rattle.std.proofs.Common.{rules, ◌≡◌, map, refl, sym, ap, ◌∙◌}
use Rattle.zl_flat.specs.Sizes as spec
use Rattle.zl_flat.specs.Capped.{capped}
use Rattle.zl_expand.specs.KeptDecls.{infos_in, known_in}
use Rattle.zl_expand.proofs.SizeSums.{sizes, sum-step, chain-four}
use Rattle.zl_ast.specs.declared.eqn.State.{out-State}
use Rattle.zl_flat.proofs.SizeSteps.{size-der, size-state}
use Rattle.zl_expand.proofs.eqn_size.+eqn_sizes.Goals as goal

pub arms_size-loop-arm-preserved : goal.arms_size-loop-arm-preserved
arms_size-loop-arm-preserved t c = sum-step (spec.arm_size (infos_in c.args.known.now) (known_in c.args.known.now)) c.args.arms.now c.loop-arm.arm-index c.arm-item.result c.loop-arm.size (capped (spec.arm_size (infos_in c.args.known.now) (known_in c.args.known.now) c.arm-item.result)) c.plus-size.result _ (search rules) (search rules) refl (search (rules, sizes)) c.loop-arm.invariant.0

pub states_size-loop-state-preserved : goal.states_size-loop-state-preserved
states_size-loop-state-preserved t c =
    let infos = infos_in c.args.known.now in
    let known = known_in c.args.known.now in
    let state = c.state-item.result in
    let body : c.body_size.result ≡ capped (spec.body_size infos known (out-State state).body) = search rules in
    let moves : c.moves_size-moves.result ≡ capped (spec.total (map (spec.move_size infos known) (out-State state).moves)) = search rules in
    let one = chain-four spec.a_block spec.a_block (spec.body_size infos known (out-State state).body) (spec.total (map (spec.move_size infos known) (out-State state).moves)) c.block.ensures c.block-in-loop-state.ensures body moves c.plus-inside.ensures c.plus.ensures c.plus-in-loop-state.ensures in
    sum-step (spec.state_size infos known) c.args.states.now c.loop-state.state-index state c.loop-state.size c.plus-in-loop-state.result c.plus-size.result _ (search rules) (search rules) (one ∙ ap (λ z. capped z) (sym (size-state infos known state))) c.plus-size.ensures c.loop-state.invariant.0

pub eqn_size-returns-in-Der : goal.eqn_size-returns-in-Der
eqn_size-returns-in-Der t c =
    let infos = infos_in c.args.known.now in
    let known = known_in c.args.known.now in
    let d = c.in-Der in
    let resets : c.resets_size.result ≡ capped (spec.total (map (spec.reset_arm_size infos known) d.resets)) = search rules in
    let sum = chain-four (spec.name_size infos known d.name) (spec.expr_size infos known d.slope) (spec.start_size infos known d.start) (spec.total (map (spec.reset_arm_size infos known) d.resets)) c.name_size.ensures c.expr_size-in-Der.ensures c.start_size-start.ensures resets c.plus-inside.ensures c.plus-in-Der.ensures c.plus-in-Der-2.ensures in
    sum ∙ ap (λ z. capped z) (sym (size-der infos known d.at d.name d.slope d.start d.resets)) ∙ ap (λ e. capped (spec.eqn_size infos known e)) (sym d.is)
