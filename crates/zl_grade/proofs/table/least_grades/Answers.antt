use Rattle.std.proofs.Common.{◌∙◌, ap, length}
use Rattle.zl_meaning.specs.FlatForm.{FlatForm}
use Rattle.zl_grade.proofs.TableLaws.{least_below}
use Rattle.zl_grade.proofs.table.least_grades.Goals as goal

pub returns : goal.returns
returns c =
    least_below c.args.flat.now c.args.marks.now (record { occs = c.in_ok-occs.occs.items; places = c.in_ok-places.places.items }) c.requires.marks.size c.in_ok-occs.ensures
    (c.in_ok-places.ensures.count ∙ c.len.ensures ∙ ap (λ (g : FlatForm). length g.places) c.flat.view_is) c.in_ok-places.ensures.zeros
