use Rattle.std.proofs.Common.{◌∙◌, ap, add-one}
use Rattle.zl_value.specs.Significand.{with_zeros}
use Rattle.zl_value.proofs.Significands.{with_zeros-suc}
use Rattle.zl_value.proofs.significand.Significand.with_zero.Goals as goal

pub returns-clause-value : goal.returns-clause-value
returns-clause-value c =
    ap (λ k. with_zeros c.args.self.number k) (add-one c.args.self.zeros) ∙ with_zeros-suc c.args.self.number c.args.self.zeros
