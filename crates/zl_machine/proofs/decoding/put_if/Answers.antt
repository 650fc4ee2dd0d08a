-- An `if` knows where its other part begins and what follows it.
use Rattle.std.specs.Prelude.{◌≡◌, length, reverse}
use Rattle.std.proofs.Common.{rules}
use Rattle.zl_machine.proofs.Built.{if_by}
use Rattle.zl_machine.proofs.decoding.put_if.Goals as goal

pub returns : goal.returns
returns c stmts b =
    let len : c.len-b.result ≡ length c.push.new.self.items = search rules in
    let linked = c.in_ok-link.ensures.linked stmts b in
    if_by c.link.new.b.code.items c.push.new.self.items c.link.new.b.lits.items stmts c.link.new.b.next c.len-b.result c.args.reg _ _ (reverse c.link.new.b.frames.items) (reverse c.pop-frame.new.frames.items) c.pop-frame.result linked.0 linked.1 c.pop-frame.ensures.top c.pop-frame.ensures.rest c.in_ok-other.ensures.narrowed c.in_ok-end.ensures.narrowed c.in_ok-push.ensures.items len
