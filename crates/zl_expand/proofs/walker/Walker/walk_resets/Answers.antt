use Rattle.std.proofs.Common.{rules, ◌≡◌, ◌+◌, map, sym, ap, ◌∙◌, subst}
use Rattle.zl_flat.specs.Parts.{joined, after}
use Rattle.zl_flat.specs.Expressions.{expr_walk}
use Rattle.zl_flat.specs.Equations.{event_walk, resets_made, reset_arm_walk}
use Rattle.zl_expand.specs.Kept.{counters, instance_in, names_in}
use Rattle.zl_expand.specs.Room.{HasRoom}
use Rattle.zl_expand.proofs.PartsLaws.{counters-joined}
use Rattle.zl_expand.proofs.RoomLaws.{room-first, room-second, room-turn}
use Rattle.zl_expand.proofs.walker.Walker.walk_resets.Goals as goal

pub walk_event-requires-clause-room : goal.walk_event-requires-clause-room
walk_event-requires-clause-room g c =
    let j = c.args.instance.now in
    let base = j.base in
    let names = names_in j in
    let i = instance_in j in
    let here = c.args.here in
    let depth = c.args.self.now.depth + 1 in
    let out = c.loop-reset.out in
    let reset = c.reset-item.result in
    let all = room-turn depth base (λ ys. (resets_made base names i (map (reset_arm_walk base names i) ys) here (counters out)).parts) c.args.resets.now c.loop-reset.reset-index reset c.args.out.now out _ (search rules) (search rules) c.loop-reset.invariant.0 c.loop-reset.invariant.2 c.requires.room in
    let ups : c.as_slice.result.now ≡ reset.event = search rules in
    subst (λ us. HasRoom depth base out (event_walk base names i us here (counters out)).parts) (sym ups) (room-first depth base out _ _ all)

pub expr-requires-clause-room : goal.expr-requires-clause-room
expr-requires-clause-room g c =
    let j = c.args.instance.now in
    let base = j.base in
    let names = names_in j in
    let i = instance_in j in
    let here = c.args.here in
    let depth = c.args.self.now.depth + 1 in
    let out = c.loop-reset.out in
    let reset = c.reset-item.result in
    let all = room-turn depth base (λ ys. (resets_made base names i (map (reset_arm_walk base names i) ys) here (counters out)).parts) c.args.resets.now c.loop-reset.reset-index reset c.args.out.now out _ (search rules) (search rules) c.loop-reset.invariant.0 c.loop-reset.invariant.2 c.requires.room in
    let ups : c.as_slice.result.now ≡ reset.event = search rules in
    let event = event_walk base names i reset.event here (counters out) in
    let o1 = c.walk_event.new.out in
    let made : o1 ≡ joined out event.parts = c.in_ok-event.ensures.made ∙ ap (λ us. joined out (event_walk base names i us here (counters out)).parts) ups in
    let at : counters o1 ≡ after (counters out) event.parts = ap counters made ∙ counters-joined out event.parts in
    subst (λ s. HasRoom depth base o1 (expr_walk base names i reset.value here s).parts) (sym at) (room-first depth base o1 _ _ (room-second depth base out o1 event.parts _ made all))
