-- A choice is taken whole, what else stands before the place as a statement.
use Rattle.std.specs.Prelude.{drop, ◌-◌}
use Rattle.zl_machine.proofs.decoding.take_before.Goals as goal

pub returns-in-Some-clause-taken : goal.returns-in-Some-clause-taken
returns-in-Some-clause-taken c b = c.in_ok-put.ensures (drop c.args.i c.args.stmts.now) (drop (c.args.i - 5) c.args.stmts.now) b (c.in-Some.ensures.1 c.args.b.now.lits.items)
