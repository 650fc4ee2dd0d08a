use Rattle.std.proofs.Common.{rules}
use Rattle.zl_flat.specs.Sizes.{name_size}
use Rattle.zl_flat.specs.Numbering.{of_name}
use Rattle.zl_flat.proofs.NumberingEnds.{ends-name}
use Rattle.zl_expand.specs.Kept.{infos_in, known_in}
use Rattle.zl_expand.proofs.NumberingSums.{turn-begins, turn-within, turn-made}
use Rattle.zl_expand.proofs.numbering.number_names.Goals as goal

pub loop-name-init : goal.loop-name-init
loop-name-init c = turn-begins (of_name (infos_in c.args.known.now) (known_in c.args.known.now)) c.args.names.now c.args.places.now

pub loop-name-preserved : goal.loop-name-preserved
loop-name-preserved c =
    let infos = infos_in c.args.known.now in
    let known = known_in c.args.known.now in
    turn-within (of_name infos known) (name_size infos known) (ends-name infos known) c.args.names.now c.loop-name.name-index _ c.args.places.now c.loop-name.places c.number_name.new.places c.in_ok-number_name.ensures c.loop-name.invariant (search rules) (search rules)

pub returns : goal.returns
returns c = turn-made (of_name (infos_in c.args.known.now) (known_in c.args.known.now)) c.args.names.now c.loop-name.name-index c.args.places.now c.loop-name.places (search rules) c.loop-name.invariant
