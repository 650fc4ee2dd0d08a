use Rattle.std.proofs.Common.{◌∙◌, List, length, ap, subst}
use Rattle.std.proofs.lemmas.Result.{IfOk-weaker}
use Rattle.zl_meaning.specs.FlatForm.{FlatForm}
use Rattle.zl_meaning.specs.declared.block.Block.{Block}
use Rattle.zl_meaning.specs.declared.occurrence.Occ.{Occ}
use Rattle.zl_grade.specs.Marks.{AreMarks, HasMarks}
use Rattle.zl_grade.proofs.Marked.{are_marks}
use Rattle.zl_grade.proofs.graded.graded.Goals as goal

pub returns : goal.returns
returns c =
    let f = c.args.flat.now in
    let marks = c.in_ok-apart.apart.marks in
    let blocks = c.as_slice.ensures ∙ ap (λ (g : FlatForm). g.blocks) c.flat.view_is in
    let occs = c.as_slice-2.ensures ∙ ap (λ (g : FlatForm). g.occs) c.flat.view_is in
    IfOk-weaker c.marks_of.result (λ ms. HasMarks c.as_slice.result.now c.as_slice-2.result.now marks (length c.as_slice-2.result.now) ms.items) (λ ms. AreMarks f ms.items)
    (λ ms h. are_marks f marks c.in_ok-apart.ensures ms.items
    (subst (λ (os : List Occ). HasMarks f.blocks os marks (length os) ms.items) occs (subst (λ (bs : List Block). HasMarks bs c.as_slice-2.result.now marks (length c.as_slice-2.result.now) ms.items) blocks h)))
    c.marks_of.ensures
