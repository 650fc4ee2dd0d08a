use Rattle.std.proofs.Common.{◌≡◌, ◌∙◌, true, false}
use Rattle.std.specs.Prelude.{pos, int_lt, ◌&&◌}
use Rattle.std.proofs.lemmas.Bool.{and_parts}
use Rattle.zl_value.specs.Times.{is_negative}
use Rattle.zl_value.proofs.FractionOrder.{below-zero, zero-below}
use Rattle.zl_crossing.proofs.LineRoots.{crosses_from_root, never_without_rise}
use Rattle.zl_crossing.proofs.crossing.root.Goals as goal

pub ratio-requires-clause-negative : goal.ratio-requires-clause-negative
ratio-requires-clause-negative c =
    let rises : (is_negative c.args.line.value && int_lt (pos 0) c.args.line.slope.num) ≡ true = cc in
    below-zero c.args.line.value ∙ (and_parts _ _ rises).0

pub ratio-requires-clause-positive : goal.ratio-requires-clause-positive
ratio-requires-clause-positive c =
    let rises : (is_negative c.args.line.value && int_lt (pos 0) c.args.line.slope.num) ≡ true = cc in
    zero-below c.args.line.slope ∙ (and_parts _ _ rises).1

pub returns-then-rises_from_below : goal.returns-then-rises_from_below
returns-then-rises_from_below c =
    let rises : (is_negative c.args.line.value && int_lt (pos 0) c.args.line.slope.num) ≡ true = cc in
    let parts = and_parts _ _ rises in
    let kept = c.rises_from_below.ensures in
    rw c.ratio.ensures.value (crosses_from_root c.args.line kept.value kept.slope parts.0 (zero-below c.args.line.slope ∙ parts.1))

pub returns : goal.returns
returns c =
    let none : (is_negative c.args.line.value && int_lt (pos 0) c.args.line.slope.num) ≡ false = cc in
    never_without_rise c.args.line c.rises_from_below.ensures.value c.rises_from_below.ensures.slope none
