-- At first nothing is taken, at the end all.
use Rattle.std.specs.Prelude.{◌≡◌, drop, reverse}
use Rattle.std.proofs.Common.{arith, subst}
use Rattle.zl_machine.specs.Building.{IsBuilt}
use Rattle.zl_machine.proofs.Built.{built_start, built_whole}
use Rattle.zl_machine.proofs.decoding.decode.Goals as goal

pub loop-i-init : goal.loop-i-init
loop-i-init c = (omega arith, built_start c.new.result.items c.new-2.result.items c.args.stmts.now c.new-3.result.items c.new.ensures.items c.new-3.ensures.items)

pub returns : goal.returns
returns c =
    let none : c.loop-i.i ≡ 0 = omega (arith, c.loop-i-test.false) in
    let all = c.in_ok-link.ensures.linked c.args.stmts.now (subst (λ n. IsBuilt c.loop-i.b (drop n c.args.stmts.now)) none c.loop-i.invariant.1) in
    built_whole c.link.new.b.code.items c.link.new.b.lits.items c.args.stmts.now c.link.new.b.next (reverse c.link.new.b.frames.items) all.0 all.1
