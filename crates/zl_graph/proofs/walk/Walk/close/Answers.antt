use Rattle.std.proofs.Common.{◌≡◌, ◌-◌, length, take, get_or, slice_get, Some, sym, ap, subst, ◌∙◌, arith}
use Rattle.std.proofs.lemmas.Option.{get_or_from_slice_get}
use Rattle.zl_graph.specs.declared.walk.Part.{Part}
use Rattle.zl_graph.specs.Walking.{Stage, IsWalk, IsOver, Moves}
use Rattle.zl_graph.proofs.Moves.{closed_by}
use Rattle.zl_graph.proofs.walk.Walk.close.Goals as goal

pub returns : goal.returns
returns c =
    let s : Stage = record { marks = c.self.inside.marks; stack = c.self.inside.stack.items; waiting = c.self.inside.waiting.items; parts = c.self.inside.parts.items; count = c.self.inside.count } in
    let view : s ≡ c.args.self.now = c.self.view_is in
    let over : IsOver s = subst IsOver (sym view) c.requires.over in
    let q : Part = c.index.result.now in
    let place : c.len.result - 1 ≡ over.number = omega (arith, c.len.ensures, over.last) in
    let is : q ≡ over.part = c.index.ensures ∙ ap (λ i. get_or s.parts i q) place ∙ get_or_from_slice_get s.parts over.number over.part q over.is in
    let last : slice_get s.parts over.number ≡ Some q = over.is ∙ ap (λ p. Some p) (sym is) in
    let done : length s.waiting ≡ q.waiting = over.over ∙ ap (λ (p : Part). p.waiting) (sym is) in
    let rest : c.pop.new.self.items ≡ take over.number s.parts = c.pop.ensures.rest ∙ ap (λ i. take i s.parts) (omega (arith, over.last)) in
    λ links w. subst (λ (o : Stage). Moves links o (record { marks = c.unstack.new.marks; stack = c.unstack.new.stack.items; waiting = s.waiting; parts = c.pop.new.self.items; count = c.in_ok-self-inside.field-0 })) view
    (closed_by links s over.number q c.unstack.new.marks c.unstack.new.stack.items c.pop.new.self.items c.in_ok-self-inside.field-0 (subst (IsWalk links) (sym view) w) over.last last done
    c.unstack.ensures.closed c.unstack.ensures.stack rest c.in_ok-self-inside.ensures.next)
