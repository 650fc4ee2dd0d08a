use Rattle.std.specs.Prelude.{pos}
use Rattle.zl_value.proofs.Fractions.{IsReduced-reduced}
use Rattle.zl_value.proofs.WideNumbers.{compare_reduced}
use Rattle.zl_value.proofs.wide.Wide.cmp.Goals as goal

pub returns-clause-value : goal.returns-clause-value
returns-clause-value c =
    let a = c.self.inside in
    let b = c.other.inside in
    let order = compare_reduced a.num a.den b.num b.den c.self.invariant.0 c.other.invariant.0 in
    cc

pub returns-clause-kept : goal.returns-clause-kept
returns-clause-kept c = rw (← c.self.view_is) (IsReduced-reduced (pos c.self.inside.num) c.self.inside.den c.self.invariant.0)

pub returns-clause-kept_other : goal.returns-clause-kept_other
returns-clause-kept_other c = rw (← c.other.view_is) (IsReduced-reduced (pos c.other.inside.num) c.other.inside.den c.other.invariant.0)
