use Rattle.std.proofs.Common.{◌+◌}
use Rattle.zl_value.proofs.quotients.+compare_remainders.Given as goal

abbrev pub decreases-compare_remainders : goal.decreases-compare_remainders
decreases-compare_remainders l = l.b + l.d
