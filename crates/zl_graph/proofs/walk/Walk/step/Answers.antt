use Rattle.std.proofs.Common.{◌≡◌, inr, ◌-◌, ◌<◌, length, take, sym, subst, ap, ◌∙◌, arith}
use Rattle.zl_graph.specs.Walking.{Stage, IsWalk, IsNext, Moves}
use Rattle.zl_graph.proofs.Moves.{IsWaiting, waiting_by, passed_by, lowered_by}
use Rattle.zl_graph.proofs.walk.Walk.step.Goals as goal

pub at-requires : goal.at-requires
at-requires c =
    let links = c.args.graph.now.links.now in
    let s : Stage = record { marks = c.self.inside.marks; stack = c.self.inside.stack.items; waiting = c.self.inside.waiting.items; parts = c.self.inside.parts.items; count = c.self.inside.count } in
    let view : s ≡ c.args.self.now = c.self.view_is in
    let x = c.index-node.result.now in
    let walk : IsWalk links s = subst (IsWalk links) (sym view) c.requires.walk in
    let some : 0 < length s.parts = subst (λ (o : Stage). 0 < length o.parts) (sym view) c.requires.some in
    let w : IsWaiting links s x = waiting_by links s c.index.result.now x c.len.result c.len-3.result walk some (omega (arith, c.len.ensures)) c.index.ensures (omega (arith, c.len-3.ensures))
    (λ e. c.if-len-last.false (omega (arith, c.len-2.ensures, c.len-3.ensures, e))) c.index-node.ensures in
    w.within

pub enter-requires-clause-from : goal.enter-requires-clause-from
enter-requires-clause-from c =
    let links = c.args.graph.now.links.now in
    let s : Stage = record { marks = c.self.inside.marks; stack = c.self.inside.stack.items; waiting = c.self.inside.waiting.items; parts = c.self.inside.parts.items; count = c.self.inside.count } in
    let view : s ≡ c.args.self.now = c.self.view_is in
    let x = c.index-node.result.now in
    let walk : IsWalk links s = subst (IsWalk links) (sym view) c.requires.walk in
    let some : 0 < length s.parts = subst (λ (o : Stage). 0 < length o.parts) (sym view) c.requires.some in
    let w : IsWaiting links s x = waiting_by links s c.index.result.now x c.len.result c.len-3.result walk some (omega (arith, c.len.ensures)) c.index.ensures (omega (arith, c.len-3.ensures))
    (λ e. c.if-len-last.false (omega (arith, c.len-2.ensures, c.len-3.ensures, e))) c.index-node.ensures in
    inr (subst (λ (o : Stage). IsNext links o x) view w.next)

pub returns-in-Standing : goal.returns-in-Standing
returns-in-Standing c =
    let links = c.args.graph.now.links.now in
    let s : Stage = record { marks = c.self.inside.marks; stack = c.self.inside.stack.items; waiting = c.self.inside.waiting.items; parts = c.self.inside.parts.items; count = c.self.inside.count } in
    let view : s ≡ c.args.self.now = c.self.view_is in
    let x = c.index-node.result.now in
    let walk : IsWalk links s = subst (IsWalk links) (sym view) c.requires.walk in
    let some : 0 < length s.parts = subst (λ (o : Stage). 0 < length o.parts) (sym view) c.requires.some in
    let w : IsWaiting links s x = waiting_by links s c.index.result.now x c.len.result c.len-3.result walk some (omega (arith, c.len.ensures)) c.index.ensures (omega (arith, c.len-3.ensures))
    (λ e. c.if-len-last.false (omega (arith, c.len-2.ensures, c.len-3.ensures, e))) c.index-node.ensures in
    subst (λ (o : Stage). Moves links o (record s { waiting = c.pop.new.self.items; parts = c.lower.new.parts.items })) view
    (lowered_by links s x c.in-Standing.position c.pop.new.self.items c.lower.new.parts.items walk w c.in-Standing.ensures c.lower.ensures
    (c.pop.ensures.rest ∙ ap (λ n. take (n - 1) s.waiting) (omega (arith, c.len-3.ensures))))

pub returns-in-Done : goal.returns-in-Done
returns-in-Done c =
    let links = c.args.graph.now.links.now in
    let s : Stage = record { marks = c.self.inside.marks; stack = c.self.inside.stack.items; waiting = c.self.inside.waiting.items; parts = c.self.inside.parts.items; count = c.self.inside.count } in
    let view : s ≡ c.args.self.now = c.self.view_is in
    let x = c.index-node.result.now in
    let walk : IsWalk links s = subst (IsWalk links) (sym view) c.requires.walk in
    let some : 0 < length s.parts = subst (λ (o : Stage). 0 < length o.parts) (sym view) c.requires.some in
    let w : IsWaiting links s x = waiting_by links s c.index.result.now x c.len.result c.len-3.result walk some (omega (arith, c.len.ensures)) c.index.ensures (omega (arith, c.len-3.ensures))
    (λ e. c.if-len-last.false (omega (arith, c.len-2.ensures, c.len-3.ensures, e))) c.index-node.ensures in
    subst (λ (o : Stage). Moves links o (record s { waiting = c.pop-in-Done.new.self.items })) view
    (passed_by links s x c.in-Done.field-0 c.pop-in-Done.new.self.items walk w c.in-Done.ensures
    (c.pop-in-Done.ensures.rest ∙ ap (λ n. take (n - 1) s.waiting) (omega (arith, c.len-3.ensures))))
