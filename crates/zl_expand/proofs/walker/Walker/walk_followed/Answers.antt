use Rattle.zl_flat.specs.Expressions.{expr_walk}
use Rattle.zl_expand.specs.Kept.{instance_in, names_in}
use Rattle.zl_expand.proofs.FlowMade.{IsFollowed, followed-made}
use Rattle.zl_expand.proofs.StateLemmas.{hidden-room}
use Rattle.zl_expand.proofs.walker.Walker.walk_followed.Goals as goal

pub set_hidden-requires : goal.set_hidden-requires
set_hidden-requires g c = hidden-room c.leave_occ.new.self c.leave_hidden.new.self c.expr-2.new.out c.set_occ.new.self _ _ _ _ _ c.in_ok-hidden.ensures.number c.in_ok-hidden.ensures.made c.in_ok-right.ensures.made c.set_occ.ensures

pub returns-clause-made : goal.returns-clause-made
returns-clause-made g c =
    let base = c.args.instance.now.base in
    let names = names_in c.args.instance.now in
    let i = instance_in c.args.instance.now in
    let left = expr_walk base names i c.args.left.now in
    let right = expr_walk base names i c.args.right.now in
    let w : IsFollowed base names i c.args.here c.args.at left right c.args.out.now c.expr.new.out c.leave_occ.new.self c.leave_hidden.new.self c.expr-2.new.out c.set_occ.new.self c.set_hidden.new.self c.in_ok-left.left c.in_ok-right.right c.in_ok-occ.occ c.in_ok-hidden.hidden c.hidden_number-pre.result c.occ.result c.occ-2.result = record {
      left_made = c.in_ok-left.ensures.made;
      left_is = c.in_ok-left.ensures.root;
      occ_is = c.in_ok-occ.ensures.number;
      occ_left = c.in_ok-occ.ensures.made;
      hidden_is = c.in_ok-hidden.ensures.number;
      hidden_left = c.in_ok-hidden.ensures.made;
      right_made = c.in_ok-right.ensures.made;
      right_is = c.in_ok-right.ensures.root;
      pre_is = c.hidden_number-pre.ensures;
      arrow_is = c.occ.ensures;
      occ_set = c.set_occ.ensures;
      before_is = c.occ-2.ensures;
      hidden_set = c.set_hidden.ensures;
    } in
    followed-made base names i c.args.here c.args.at left right c.args.out.now c.expr.new.out c.leave_occ.new.self c.leave_hidden.new.self c.expr-2.new.out c.set_occ.new.self c.set_hidden.new.self c.in_ok-left.left c.in_ok-right.right c.in_ok-occ.occ c.in_ok-hidden.hidden c.hidden_number-pre.result c.occ.result c.occ-2.result w
