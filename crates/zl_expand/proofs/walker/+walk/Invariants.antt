use Rattle.std.proofs.Common.{◌-◌, ◌^◌}
use Rattle.zl_expand.proofs.walker.+walk.Given as goal

abbrev pub decreases-walk_expr : goal.decreases-walk_expr
decreases-walk_expr l = 2 ^ 32 - l.depth

abbrev pub decreases-walk_eqns : goal.decreases-walk_eqns
decreases-walk_eqns l = 2 ^ 32 - l.depth
