use Rattle.zl_value.proofs.FractionLaws.{IsReduced-whole, IsReduced-add, IsReduced-sub, IsReduced-mul, IsReduced-neg, IsReduced-div, add_comm, add_assoc, add-zero, add-neg, sub-self, sub-add, mul_comm, mul_assoc, mul-one, mul-add, mul-div, div-mul}
use Rattle.zl_value.proofs.laws.fractions_are_field.Goals as goal

pub returns : goal.returns
returns c = record {
  reduced-whole = IsReduced-whole;
  reduced-add = λ a b p q. IsReduced-add a b p.above q.above;
  reduced-sub = λ a b p q. IsReduced-sub a b p.above q.above;
  reduced-mul = λ a b p q. IsReduced-mul a b p.above q.above;
  reduced-neg = IsReduced-neg;
  reduced-div = λ a b p q apart. IsReduced-div a b p.above apart;
  add_comm = add_comm;
  add_assoc = λ a b c p q r. add_assoc a b c p.above q.above r.above;
  add-zero = add-zero;
  add-neg = add-neg;
  sub-self = λ a p. sub-self a p.above;
  sub-add = λ a b p q. sub-add a b p q.above;
  mul_comm = mul_comm;
  mul_assoc = λ a b c p q r. mul_assoc a b c p.above q.above r.above;
  mul-one = mul-one;
  mul-add = λ s a b o p q. mul-add s a b o.above p.above q.above;
  mul-div = λ a b p q apart. mul-div a b p q.above apart;
  div-mul = λ a b p q apart. div-mul a b p q.above apart;
}
