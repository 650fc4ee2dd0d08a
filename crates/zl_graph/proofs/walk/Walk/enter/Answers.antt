use Rattle.std.proofs.Common.{◌≡◌, ◌⊎◌, length, slice_get, Some, sym, subst, arith}
use Rattle.zl_graph.specs.declared.marks.Mark.TheVariants.{New}
use Rattle.zl_graph.specs.Chains.{HasAdded}
use Rattle.zl_graph.specs.Walking.{Stage, IsWalk, IsNext, Moves}
use Rattle.zl_graph.proofs.Ways.{on_ok}
use Rattle.zl_graph.proofs.Moves.{entered_by, entered_by_met}
use Rattle.zl_graph.proofs.walk.Walk.enter.Goals as goal

pub returns-clause-moves : goal.returns-clause-moves
returns-clause-moves c =
    let links = c.args.graph.now.links.now in
    let v = c.args.node in
    let s : Stage = record { marks = c.self.inside.marks; stack = c.self.inside.stack.items; waiting = c.self.inside.waiting.items; parts = c.self.inside.parts.items; count = c.self.inside.count } in
    let t : Stage = record { marks = c.put.new.self; stack = c.push.new.self.items; waiting = c.add_next.new.nodes.items; parts = c.push-2.new.self.items; count = c.self.inside.count } in
    let view : s ≡ c.args.self.now = c.self.view_is in
    let walk : IsWalk links s = subst (IsWalk links) (sym view) c.requires.walk in
    let new : slice_get s.marks v ≡ Some New = subst (λ (o : Stage). slice_get o.marks v ≡ Some New) (sym view) c.requires.new in
    let from : (length s.stack ≡ 0) ⊎ IsNext links s v = subst (λ (o : Stage). (length o.stack ≡ 0) ⊎ IsNext links o v) (sym view) c.requires.from in
    on_ok c.add_next.result (HasAdded links v s.waiting t.waiting) (Moves links c.args.self.now t)
    (λ added. subst (λ (o : Stage). Moves links o t) view
    (entered_by links s v c.in_ok-first.first c.in_ok-waiting.waiting t.marks t.stack t.waiting t.parts walk new from
    (omega (arith, c.in_ok-first.ensures.same, c.len.ensures)) (omega (arith, c.in_ok-waiting.ensures.same, c.len-2.ensures))
    c.put.ensures c.in_ok-push.ensures.items c.in_ok-push-2.ensures.items added))
    c.add_next.ensures

pub returns-clause-met : goal.returns-clause-met
returns-clause-met c =
    let v = c.args.node in
    let new : slice_get c.self.inside.marks v ≡ Some New = subst (λ (o : Stage). slice_get o.marks v ≡ Some New) (sym c.self.view_is) c.requires.new in
    on_ok c.add_next.result (HasAdded c.args.graph.now.links.now v c.self.inside.waiting.items c.add_next.new.nodes.items) (slice_get c.put.new.self v ≡ Some New → ⊥)
    (λ _. entered_by_met c.self.inside.marks c.put.new.self v c.in_ok-first.first new c.put.ensures) c.add_next.ensures
