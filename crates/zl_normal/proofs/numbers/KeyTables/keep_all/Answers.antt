use Rattle.std.proofs.Common.{arith}
use Rattle.std.proofs.lemmas.Option.{slice_get-get_or}
use Rattle.zl_normal.proofs.Keeping.{one_kept, none_kept, in_kept}
use Rattle.zl_normal.proofs.numbers.KeyTables.keep_all.Goals as goal

pub loop-i-init : goal.loop-i-init
loop-i-init c = none_kept c.args.self.now c.args.kept.now

pub loop-i-preserved : goal.loop-i-preserved
loop-i-preserved c =
    one_kept c.args.self.now c.loop-i.self c.keep_next.new.self c.args.kept.now c.loop-i.i _ c.requires (slice_get-get_or c.args.kept.now c.loop-i.i _ c.loop-i-test.true) c.in_ok-keep_next.ensures c.loop-i.invariant

pub returns-clause-memories : goal.returns-clause-memories
returns-clause-memories c = λ n kept is. c.loop-i.invariant.memories n kept (in_kept c.args.kept.now c.loop-i.i n kept is (omega arith)) is
