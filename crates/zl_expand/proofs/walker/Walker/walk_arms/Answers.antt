use Rattle.std.proofs.Common.{rules, ◌≡◌, ◌+◌, ◌<◌, length, map, arith}
use Rattle.zl_flat.specs.Equations.{arms_made, arm_walk}
use Rattle.zl_expand.specs.Kept.{counters, instance_in, names_in}
use Rattle.zl_expand.proofs.RoomCounts.{arms-counted}
use Rattle.zl_expand.proofs.RoomLaws.{room-first, room-turn}
use Rattle.zl_expand.proofs.walker.Walker.walk_arms.Goals as goal

pub walk_arm-requires-clause-room : goal.walk_arm-requires-clause-room
walk_arm-requires-clause-room g c =
    let j = c.args.instance.now in
    let base = j.base in
    let names = names_in j in
    let i = instance_in j in
    let depth = c.args.self.now.depth + 1 in
    let out = c.loop-arm.out in
    let all = room-turn depth base (λ ys. (arms_made (map (arm_walk base names i) ys) c.args.of c.loop-arm.number c.args.here (counters out)).parts) c.args.arms.now c.loop-arm.arm-index c.arm-item.result c.args.out.now out _ (search rules) (search rules) c.loop-arm.invariant.0 c.loop-arm.invariant.3 c.requires.room in
    room-first depth base out _ _ all

pub overflow_add-number : goal.overflow_add-number
overflow_add-number g c =
    let j = c.args.instance.now in
    let base = j.base in
    let names = names_in j in
    let i = instance_in j in
    let here = c.args.here in
    let lt : c.loop-arm.arm-index < length c.args.arms.now = search rules in
    let is : c.loop-arm.number ≡ c.loop-arm.arm-index = c.loop-arm.invariant.2 in
    let few = arms-counted base names i c.args.arms.now c.args.of 0 here (counters c.args.out.now) in
    let room = c.requires.room in
    omega (arith, lt, is, few, room)
