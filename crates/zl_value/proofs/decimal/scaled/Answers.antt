use Rattle.std.proofs.Common.{sym, ◌∙◌}
use Rattle.zl_value.proofs.ScaledNumbers.{accepted-zero}
use Rattle.zl_value.proofs.AcceptedNumbers.{result_ok-zero}
use Rattle.zl_value.proofs.decimal.scaled.Goals as goal

pub returns-then-number-eq0-clause-value : goal.returns-then-number-eq0-clause-value
returns-then-number-eq0-clause-value c =
    rw (c.ok.ensures.value, c.of_int.ensures.value)
    (result_ok-zero ∙ sym (accepted-zero (record { number = c.args.number; power = c.args.power }) c.if-number-eq0.true))
