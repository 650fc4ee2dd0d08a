use Rattle.std.proofs.Common.{rules, ◌+◌}
use Rattle.zl_flat.specs.Equations.{eqns_walk}
use Rattle.zl_expand.specs.Kept.{counters, instance_in, names_in}
use Rattle.zl_expand.proofs.RoomLaws.{room-first, room-turn}
use Rattle.zl_expand.proofs.walker.Walker.walk_eqns.Goals as goal

pub walk_eqn-requires-clause-room : goal.walk_eqn-requires-clause-room
walk_eqn-requires-clause-room g c =
    let j = c.args.instance.now in
    let base = j.base in
    let names = names_in j in
    let i = instance_in j in
    let depth = c.args.self.now.depth + 1 in
    let out = c.loop-eqn.out in
    let all = room-turn depth base (λ ys. eqns_walk base names i ys c.args.here (counters out)) c.args.eqns.now c.loop-eqn.eqn-index c.eqn-item.result c.args.out.now out _ (search rules) (search rules) c.loop-eqn.invariant.0 c.loop-eqn.invariant.1 c.requires.room in
    room-first depth base out _ _ all
