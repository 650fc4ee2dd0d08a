-- An instruction before what comes next.
use Rattle.std.specs.Prelude.{◌≡◌, length, reverse}
use Rattle.std.proofs.Common.{rules, sym, subst}
use Rattle.zl_machine.specs.Building.{Leads}
use Rattle.zl_machine.proofs.Built.{put_by}
use Rattle.zl_machine.proofs.decoding.put.Goals as goal

pub returns : goal.returns
returns c old new b leads =
    let len : c.len-b.result ≡ length c.push.new.self.items = search rules in
    let linked = c.in_ok-link.ensures.linked old b in
    put_by c.link.new.b.code.items c.push.new.self.items c.link.new.b.lits.items old new c.link.new.b.next c.len-b.result (reverse c.link.new.b.frames.items) c.args.instr linked.0 linked.1 c.in_ok-push.ensures.items len (subst (λ lits. Leads lits c.args.instr old new) (sym c.in_ok-link.ensures.kept) leads)
