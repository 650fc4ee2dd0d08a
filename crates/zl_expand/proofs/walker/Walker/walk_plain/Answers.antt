use Rattle.std.proofs.Common.{rules, ◌≡◌, ap, ◌∙◌, arith}
use Rattle.zl_flat.specs.Parts.{joined}
use Rattle.zl_flat.specs.Equations.{names_made}
use Rattle.zl_flat.specs.Expressions.{expr_walk}
use Rattle.zl_expand.specs.Kept.{counters, instance_in, names_in}
use Rattle.zl_expand.proofs.EqnMade.{AreResults, results-define}
use Rattle.zl_expand.proofs.walker.Walker.walk_plain.Goals as goal

pub returns : goal.returns
returns g c =
    let base = c.args.instance.now.base in
    let names = names_in c.args.instance.now in
    let i = instance_in c.args.instance.now in
    let right = expr_walk base names i c.args.right.now in
    let results : c.as_slice.result.now ≡ c.in_ok-results.results.items = search rules in
    let w : AreResults base names i c.args.here c.args.left.now right c.args.out.now c.add_names.new.out c.walk_results.new.out c.define_names-2.new.out c.as_slice.result.now = record {
      named = c.in_ok-add_names.ensures ∙ ap (λ h. joined c.args.out.now (names_made base names i c.args.left.now h (counters c.args.out.now))) c.in_body.ensures;
      many = λ e. omega (arith, e, c.if-left-eq1.false);
      made = c.in_ok-results.ensures.made;
      results_are = results ∙ c.in_ok-results.ensures.results;
    } in
    results-define base names i c.args.here c.args.left.now right c.args.out.now c.add_names.new.out c.walk_results.new.out c.define_names-2.new.out c.as_slice.result.now c.define_names-2.result w c.define_names-2.ensures
