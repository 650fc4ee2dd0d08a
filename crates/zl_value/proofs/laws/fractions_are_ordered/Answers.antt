use Rattle.zl_value.proofs.FractionOrder.{below-self, below_cases, below_trans, below-add, below-mul}
use Rattle.zl_value.proofs.laws.fractions_are_ordered.Goals as goal

pub returns : goal.returns
returns c = record {
  below-self = below-self;
  below_cases = below_cases;
  below_trans = λ a b c p q r. below_trans a b c p.above q.above r.above;
  below-add = λ t d e o p q. below-add t d e o.above p.above q.above;
  below-mul = λ k a b o p q. below-mul k a b o.above p.above q.above;
}
