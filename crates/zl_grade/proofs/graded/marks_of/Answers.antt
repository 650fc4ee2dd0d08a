use Rattle.std.proofs.Common.{◌≡◌, ◌<◌, ◌+◌, ◌++◌, ◌∷◌, [], ◌∙◌, length, refl, sym, ap, subst, arith}
use Rattle.std.proofs.lemmas.Option.{slice_get_read}
use Rattle.zl_grade.specs.Marks.{HasMarks}
use Rattle.zl_grade.proofs.Marked.{marks_none, marks_more}
use Rattle.zl_grade.proofs.graded.marks_of.Goals as goal

pub loop-k-init : goal.loop-k-init
loop-k-init c = subst (HasMarks c.args.blocks.now c.args.occs.now c.args.apart.now.marks 0) (sym c.new-marks.ensures.items) (marks_none c.args.blocks.now c.args.occs.now c.args.apart.now.marks)

pub loop-k-preserved : goal.loop-k-preserved
loop-k-preserved c =
    let occs = c.args.occs.now in
    let k = c.loop-k.k in
    let marks = c.loop-k.marks.items in
    let low : k < length occs = omega arith in
    let occ = c.index-occs-k.result in
    let pushed = c.in_ok-push.ensures.items ∙ ap (λ b. marks ++ b ∷ []) c.is_graded-mark.ensures in
    subst (HasMarks c.args.blocks.now occs c.args.apart.now.marks (k + 1)) (sym pushed)
    (marks_more c.args.blocks.now occs c.args.apart.now.marks k marks occ c.has.result (slice_get_read occs (length occs) k occ refl low c.index-occs-k.is) c.has.ensures c.loop-k.invariant)

pub returns : goal.returns
returns c =
    let all : c.loop-k.k ≡ length c.args.occs.now = omega arith in
    subst (λ n. HasMarks c.args.blocks.now c.args.occs.now c.args.apart.now.marks n c.loop-k.marks.items) all c.loop-k.invariant
