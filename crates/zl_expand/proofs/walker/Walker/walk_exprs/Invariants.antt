use Rattle.std.proofs.Common.{◌≡◌, ◌≤◌, ◌++◌, drop, map}
use Rattle.zl_flat.specs.Parts.{joined}
use Rattle.zl_flat.specs.Expressions.{walk_all, expr_walk}
use Rattle.zl_flat.specs.Counted.{count}
use Rattle.zl_expand.specs.Kept.{counters, instance_in, names_in}
use Rattle.zl_expand.proofs.walker.Walker.walk_exprs.Given as goal

abbrev pub invariant-loop-expr : goal.invariant-loop-expr
invariant-loop-expr g l =
    (joined l.out (walk_all (map (expr_walk l.instance.base (names_in l.instance) (instance_in l.instance)) (drop l.expr-index l.exprs)) l.here (counters l.out)).parts ≡ joined l.initial.out (walk_all (map (expr_walk l.instance.base (names_in l.instance) (instance_in l.instance)) l.exprs) l.here (counters l.initial.out)).parts)
    × (l.roots.items ++ (walk_all (map (expr_walk l.instance.base (names_in l.instance) (instance_in l.instance)) (drop l.expr-index l.exprs)) l.here (counters l.out)).roots ≡ (walk_all (map (expr_walk l.instance.base (names_in l.instance) (instance_in l.instance)) l.exprs) l.here (counters l.initial.out)).roots)
    × (count l.initial.out ≤ count l.out)
