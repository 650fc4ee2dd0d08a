use Rattle.std.proofs.Common.{arith}
use Rattle.std.proofs.lemmas.Option.{slice_get-get_or}
use Rattle.zl_normal.proofs.Sweep.{one_more, in_list}
use Rattle.zl_normal.proofs.numbers.KeyTables.of_keys.Goals as goal

pub loop-i-preserved : goal.loop-i-preserved
loop-i-preserved c =
    one_more c.args.keys.now c.loop-i.tables c.put.new.self c.loop-i.i _ c.requires (slice_get-get_or c.args.keys.now c.loop-i.i _ c.loop-i-test.true) c.in_ok-put.ensures c.loop-i.invariant

pub returns : goal.returns
returns c = λ n key is. c.loop-i.invariant n key (in_list c.args.keys.now c.loop-i.i n key is (omega arith)) is
