use Rattle.std.proofs.Common.{rules, ◌+◌, map}
use Rattle.zl_flat.specs.Equations.{moves_made, move_walk}
use Rattle.zl_expand.specs.Kept.{counters, instance_in, names_in}
use Rattle.zl_expand.proofs.RoomLaws.{room-first, room-turn}
use Rattle.zl_expand.proofs.walker.Walker.walk_moves.Goals as goal

pub walk_move-requires-clause-room : goal.walk_move-requires-clause-room
walk_move-requires-clause-room g c =
    let j = c.args.instance.now in
    let base = j.base in
    let names = names_in j in
    let i = instance_in j in
    let depth = c.args.self.now.depth + 1 in
    let out = c.loop-one.out in
    let all = room-turn depth base (λ ys. (moves_made base names i (map (move_walk base names i) ys) c.args.blocks.guard c.args.blocks.body c.args.names.now c.args.here (counters out)).parts) c.args.moves.now c.loop-one.one-index c.one-item.result c.args.out.now out _ (search rules) (search rules) c.loop-one.invariant.0 c.loop-one.invariant.2 c.requires.room in
    room-first depth base out _ _ all
