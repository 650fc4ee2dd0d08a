use Rattle.std.proofs.Common.{sym}
use Rattle.zl_value.proofs.Divisors.{IsGcd-gcd}
use Rattle.zl_value.proofs.Fractions.{IsReduced-reduced, reduced-crossed, lowest-unique, reduced-same, reduced-lowest, fits-reduced}
use Rattle.zl_value.proofs.lowest.fractions_have_lowest_terms.Goals as goal

pub returns : goal.returns
returns c = record {
  gcd = IsGcd-gcd;
  lowest = IsReduced-reduced;
  equal = λ n d above. sym (reduced-crossed n d above);
  one = lowest-unique;
  same = reduced-same;
  kept = reduced-lowest;
  fits = fits-reduced;
}
