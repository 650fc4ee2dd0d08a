use Rattle.std.proofs.Common.{rules, ◌<◌, length}
use Rattle.zl_flat.specs.Sizes.{a_place}
use Rattle.zl_flat.specs.Numbering.{a_variable}
use Rattle.zl_flat.proofs.NumberingEnds.{ends-variable}
use Rattle.zl_expand.proofs.NumberingSums.{something-there, turn-begins, turn-within, turn-made}
use Rattle.zl_expand.proofs.numbering.number_params.Goals as goal

pub loop-param-init : goal.loop-param-init
loop-param-init c = turn-begins (λ p. a_variable) c.args.params.now c.args.places.now

pub loop-param-preserved : goal.loop-param-preserved
loop-param-preserved c =
    let within : c.loop-param._param-index < length c.args.params.now = search rules in
    let there = something-there c.args.params.now c.loop-param._param-index within in
    turn-within (λ p. a_variable) (λ p. a_place) (λ p. ends-variable) c.args.params.now c.loop-param._param-index there.0 c.args.places.now c.loop-param.places c.take.new.self (search rules) c.loop-param.invariant within there.1

pub returns : goal.returns
returns c = turn-made (λ p. a_variable) c.args.params.now c.loop-param._param-index c.args.places.now c.loop-param.places (search rules) c.loop-param.invariant
