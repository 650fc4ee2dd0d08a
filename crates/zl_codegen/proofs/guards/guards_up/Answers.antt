-- One guard more.
use Rattle.std.proofs.Common.{rules, ◌∙◌}
use Rattle.zl_codegen.proofs.Chains.{guards_up_more}
use Rattle.zl_codegen.proofs.guards.guards_up.Goals as goal

pub loop-room-preserved-in-Some : goal.loop-room-preserved-in-Some
loop-room-preserved-in-Some c =
    guards_up_more c.args.wires.now c.loop-room.guards.items c.push.new.self.items c.loop-room.room c.in-Some.guard c.loop-room.next _ c.in-Some.is c.guard_of-next.ensures c.in_ok-push-in-Some.ensures.items (search rules)
    ∙ c.loop-room.invariant
