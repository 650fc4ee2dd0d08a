use Rattle.std.proofs.Common.{◌∙◌, ap, subst, length, List, ℕ}
use Rattle.std.proofs.lemmas.Result.{IfOk-weaker}
use Rattle.zl_graph.specs.declared.graph.Link.{Link}
use Rattle.zl_graph.specs.Circles.{AreCircles}
use Rattle.zl_kernel.specs.KernelForm.{KernelForm}
use Rattle.zl_kernel.specs.WireRanks.{AreWireRanks}
use Rattle.zl_normal.specs.WireLinks.{links_from, AreFirstNumbers}
use Rattle.zl_normal.proofs.WireGraph.{numbers_are_ranks}
use Rattle.zl_normal.proofs.wire_ranks.wire_ranks.Goals as goal

pub returns : goal.returns
returns c =
    let k = c.args.kernel.now in
    let numbers = c.in_ok-circles.circles.numbers in
    let marks = c.in_ok-circles.circles.marks in
    let circles : AreCircles (links_from 0 k.wires) numbers marks =
    subst (λ (links : List Link). AreCircles links numbers marks)
    (c.as_slice-2.ensures.value ∙ c.in_ok-links.ensures ∙ ap (λ wires. links_from 0 wires) (c.as_slice.ensures ∙ ap (λ (form : KernelForm). form.wires) c.kernel.view_is))
    c.in_ok-circles.ensures in
    IfOk-weaker c.first_numbers.result (λ ranks. AreFirstNumbers numbers c.len.result ranks.items) (λ ranks. AreWireRanks k ranks.items)
    (λ ranks first. numbers_are_ranks k c.requires.ranked.0 c.requires.ranked.1 numbers ranks.items marks circles
    (subst (λ (n : ℕ). AreFirstNumbers numbers n ranks.items) (c.len.ensures ∙ ap (λ (form : KernelForm). length form.wires) c.kernel.view_is) first))
    c.first_numbers.ensures
