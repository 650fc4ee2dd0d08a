use Rattle.std.proofs.Common.{rules, ◌+◌, map}
use Rattle.zl_flat.specs.Equations.{test_all, up_walk}
use Rattle.zl_expand.specs.Kept.{counters, instance_in, names_in}
use Rattle.zl_expand.proofs.RoomLaws.{room-first, room-turn}
use Rattle.zl_expand.proofs.walker.Walker.walk_ups.Goals as goal

pub walk_up-requires-clause-room : goal.walk_up-requires-clause-room
walk_up-requires-clause-room g c =
    let j = c.args.instance.now in
    let base = j.base in
    let names = names_in j in
    let i = instance_in j in
    let depth = c.args.self.now.depth + 1 in
    let out = c.loop-up.out in
    let all = room-turn depth base (λ ys. (test_all (map (up_walk base names i) ys) c.args.here (counters out)).parts) c.args.ups.now c.loop-up.up-index c.up-item.result c.args.out.now out _ (search rules) (search rules) c.loop-up.invariant.0 c.loop-up.invariant.2 c.requires.room in
    room-first depth base out _ _ all
