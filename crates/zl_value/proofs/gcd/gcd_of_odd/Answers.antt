use Rattle.std.proofs.Common.{ap, ◌∙◌, ◌%◌}
use Rattle.std.specs.Int.{trailing_zeros, w64}
use Rattle.zl_value.proofs.Odd.{gcd_turn, min_odd}
use Rattle.zl_value.proofs.gcd.gcd_of_odd.Goals as goal

pub loop-x-preserved : goal.loop-x-preserved
loop-x-preserved c =
    let x = c.loop-x.x in
    let y = c.loop-x.y in
    let odd = min_odd x y c.loop-x.invariant.0 c.loop-x.invariant.1 in
    let turn = gcd_turn x y c.odd_part-y.result (trailing_zeros w64 c.abs_diff-difference.result) c.loop-x.invariant.0 c.loop-x.invariant.1 (cc) in
    (ap (λ t. t % 2) c.min-x.ensures ∙ odd, c.odd_part-y.ensures.odd, cc)
