-- A jump goes to what comes next.
use Rattle.std.specs.Prelude.{◌≡◌, length, reverse}
use Rattle.std.proofs.Common.{rules}
use Rattle.zl_machine.proofs.Built.{jump_by}
use Rattle.zl_machine.proofs.decoding.link.Goals as goal

pub returns-clause-linked : goal.returns-clause-linked
returns-clause-linked c stmts b =
    let len : c.len-b.result ≡ length c.push.new.self.items = search rules in
    jump_by c.args.b.now.code.items c.push.new.self.items c.args.b.now.lits.items stmts c.args.b.now.next c.in_ok-next.next c.len-b.result (reverse c.args.b.now.frames.items) b c.in_ok-next.ensures.narrowed c.in_ok-push.ensures.items len
