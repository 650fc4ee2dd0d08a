-- What has a value and a slope moves.
use Rattle.std.proofs.Common.{sym, ◌∙◌}
use Rattle.zl_machine.proofs.OperatorLemmas.{float_is}
use Rattle.zl_machine.proofs.Totals.{moves_by}
use Rattle.zl_machine.proofs.moving.move_one.Goals as goal

pub returns-in-Some-as_float-2 : goal.returns-in-Some-as_float-2
returns-in-Some-as_float-2 c =
    moves_by c.args.by c.args.rates.now c.args.mem.now c.args.mem.now.slope c.in-Some.r c.args.now.now c.in-Some-as_float-2.from c.in-Some-as_float.slope c.move_by.result c.in-Some.is (sym c.read.ensures ∙ float_is c.read.result c.in-Some-as_float.slope c.in-Some-as_float.ensures) (float_is c.args.now.now c.in-Some-as_float-2.from c.in-Some-as_float-2.ensures) (c.move_by.ensures c.args.mem.now.at)
