use Rattle.std.proofs.Common.{rules, ◌+◌, map}
use Rattle.zl_flat.specs.Expressions.{expr_walk, walk_all}
use Rattle.zl_expand.specs.Kept.{counters, instance_in, names_in}
use Rattle.zl_expand.proofs.RoomLaws.{room-first, room-turn}
use Rattle.zl_expand.proofs.walker.Walker.walk_exprs.Goals as goal

pub expr-requires-clause-room : goal.expr-requires-clause-room
expr-requires-clause-room g c =
    let j = c.args.instance.now in
    let base = j.base in
    let names = names_in j in
    let i = instance_in j in
    let depth = c.args.self.now.depth + 1 in
    let out = c.loop-expr.out in
    let all = room-turn depth base (λ ys. (walk_all (map (expr_walk base names i) ys) c.args.here (counters out)).parts) c.args.exprs.now c.loop-expr.expr-index c.expr-item.result c.args.out.now out _ (search rules) (search rules) c.loop-expr.invariant.0 c.loop-expr.invariant.2 c.requires.room in
    room-first depth base out _ _ all
