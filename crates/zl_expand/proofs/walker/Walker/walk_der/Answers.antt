use Rattle.std.proofs.Common.{map, ap, ◌∙◌}
use Rattle.zl_flat.specs.Parts.{joined}
use Rattle.zl_flat.specs.Expressions.{expr_walk}
use Rattle.zl_flat.specs.Equations.{name_made, start_walk, reset_arm_walk}
use Rattle.zl_expand.specs.Kept.{counters, instance_in, names_in}
use Rattle.zl_expand.proofs.EqnMade.{IsDer, der-made}
use Rattle.std.proofs.Common.{arith}
use Rattle.zl_expand.proofs.PartsLaws.{counters-joined}
use Rattle.zl_expand.proofs.RoomLaws.{count-joined}
use Rattle.zl_expand.proofs.walker.Walker.walk_der.Goals as goal

pub returns : goal.returns
returns g c =
    let base = c.args.instance.now.base in
    let names = names_in c.args.instance.now in
    let i = instance_in c.args.instance.now in
    let slope = expr_walk base names i c.args.slope.now in
    let start = start_walk base names i c.args.start.now in
    let resets = map (reset_arm_walk base names i) c.args.resets.now in
    let w : IsDer base names i c.args.here c.args.name slope start resets c.args.out.now c.add_name.new.out c.expr.new.out c.walk_start.new.out c.walk_resets.new.out c.define_der.new.out c.in_ok-place.place c.in_ok-slope.slope.occ c.in_ok-start.start c.from_vec-arms.result = record {
      named = c.in_ok-add_name.ensures ∙ ap (λ h. joined c.args.out.now (name_made base names i c.args.name h (counters c.args.out.now))) c.in_body.ensures;
      placed = c.in_ok-place.ensures;
      sloped = c.in_ok-slope.ensures.made;
      slope_is = ap (λ r. r.occ) c.in_ok-slope.ensures.root;
      started = c.in_ok-start.ensures.made;
      start_is = c.in_ok-start.ensures.value;
      armed = c.in_ok-arms.ensures.made;
      arms_are = c.from_vec-arms.ensures ∙ c.in_ok-arms.ensures.arms;
    } in
    der-made base names i c.args.here c.args.name slope start resets c.args.out.now c.add_name.new.out c.expr.new.out c.walk_start.new.out c.walk_resets.new.out c.define_der.new.out c.in_ok-place.place c.in_ok-slope.slope.occ c.in_ok-start.start c.from_vec-arms.result w c.define_der.result c.define_der.ensures

pub walk_resets-requires-clause-room : goal.walk_resets-requires-clause-room
walk_resets-requires-clause-room g c = grind (arith, count-joined, counters-joined, c.in_ok-add_name.ensures, c.in_ok-slope.ensures.made, c.in_ok-start.ensures.made)
