use Rattle.std.proofs.Common.{rules, ◌≡◌, map, sym, ap, ◌∙◌, subst}
use Rattle.zl_flat.specs.declared.here.Root.{Root}
use Rattle.zl_flat.specs.Parts.{Parts, Counters, joined, after}
use Rattle.zl_flat.specs.Expressions.{expr_walk, links, link_walk}
use Rattle.zl_expand.specs.Kept.{counters, instance_in, names_in}
use Rattle.zl_expand.specs.Room.{HasRoom}
use Rattle.zl_expand.proofs.PartsLaws.{counters-joined}
use Rattle.zl_expand.proofs.RoomCounts.{links-some}
use Rattle.zl_expand.proofs.RoomLaws.{room-first, room-second, room-deeper, room-turn}
use Rattle.zl_expand.proofs.walker.Walker.walk_chain.Goals as goal

pub expr-requires-clause-room : goal.expr-requires-clause-room
expr-requires-clause-room g c =
    let j = c.args.instance.now in
    let base = j.base in
    let names = names_in j in
    let i = instance_in j in
    let here = c.args.here in
    let out = c.args.out.now in
    let first = expr_walk base names i c.args.first.now here (counters out) in
    room-deeper c.args.self.now.depth base out first.parts _ (links-some base names i c.args.rest.now here first.root (after (counters out) first.parts) c.requires.linked) c.requires.room

pub walk_link-requires-clause-room : goal.walk_link-requires-clause-room
walk_link-requires-clause-room g c =
    let j = c.args.instance.now in
    let base = j.base in
    let names = names_in j in
    let i = instance_in j in
    let here = c.args.here in
    let out = c.args.out.now in
    let o1 = c.expr.new.out in
    let depth = c.args.self.now.depth in
    let first = expr_walk base names i c.args.first.now here (counters out) in
    let made : o1 ≡ joined out first.parts = c.in_ok-left.ensures.made in
    let left : c.in_ok-left.left ≡ first.root = c.in_ok-left.ensures.root in
    let at : counters o1 ≡ after (counters out) first.parts = ap counters made ∙ counters-joined out first.parts in
    let rest : Root → Counters → Parts = λ r s. (links (map (link_walk base names i) c.args.rest.now) here r s).parts in
    let same : rest first.root (after (counters out) first.parts) ≡ rest c.in_ok-left.left (counters o1) = λ t. rest (sym left t) (sym at t) in
    let room = subst (HasRoom depth base o1) same (room-second depth base out o1 first.parts _ made c.requires.room) in
    let now = c.loop-link.out in
    let all = room-turn depth base (λ ys. (links (map (link_walk base names i) ys) here c.loop-link.left (counters now)).parts) c.args.rest.now c.loop-link.link-index c.link-item.result o1 now _ (search rules) (search rules) c.loop-link.invariant.0 c.loop-link.invariant.2 room in
    room-first depth base now _ _ all
