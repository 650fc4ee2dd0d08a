use Rattle.std.proofs.Common.{◌∙◌, subst, List}
use Rattle.std.specs.Prelude.{Option, None, Some, ℕ}
use Rattle.zl_meaning.proofs.GradesKept.Kept.{grades_are_kept}
use Rattle.zl_grade.specs.Graded.{grading_of}
use Rattle.zl_grade.specs.Needs.{IsFirst, needs_of}
use Rattle.zl_grade.specs.declared.needs.Need.{Need}
use Rattle.zl_grade.proofs.MarkLaws.{marks_closed}
use Rattle.zl_grade.proofs.OutcomeLaws.{allowed, over_there, over_found}
use Rattle.zl_grade.proofs.grading.outcome_by.Goals as goal

pub table-requires-clause-closed : goal.table-requires-clause-closed
table-requires-clause-closed c = marks_closed c.args.flat.now c.args.marks.now c.requires.marks c.is_well_formed.ensures c.requires.single c.requires.regular

pub returns-in-None : goal.returns-in-None
returns-in-None c =
    let f = c.args.flat.now in
    let marks = c.args.marks.now in
    let g = grading_of c.in_ok-grades.grades in
    let found : IsFirst g c.as_slice.result.now None = subst (λ (o : Option ℕ). IsFirst g c.as_slice.result.now o) c.in-None.is c.first_over.ensures in
    let none : IsFirst g (needs_of f marks) None = subst (λ (ns : List Need). IsFirst g ns None) (c.as_slice.ensures.value ∙ c.in_ok-needs.ensures) found in
    let fine = allowed f marks c.requires.marks g c.in_ok-grades.ensures none in (
      fine,
      grades_are_kept f g (record {
        formed = c.is_well_formed.ensures;
        single = c.requires.single;
        regular = c.requires.regular;
        hybrid = c.requires.hybrid;
        ranks = record { of_places = c.args.ranks.now.places.items; of_blocks = c.args.ranks.now.blocks.items; grow = c.requires.ranks };
      }) fine,
    )

pub position-requires : goal.position-requires
position-requires c =
    let f = c.args.flat.now in
    let marks = c.args.marks.now in
    let g = grading_of c.in_ok-grades.grades in
    let found : IsFirst g c.as_slice.result.now (Some c.in-Some.k) = subst (λ (o : Option ℕ). IsFirst g c.as_slice.result.now o) c.in-Some.is c.first_over.ensures in
    let first : IsFirst g (needs_of f marks) (Some c.in-Some.k) = subst (λ (ns : List Need). IsFirst g ns (Some c.in-Some.k)) (c.as_slice.ensures.value ∙ c.in_ok-needs.ensures) found in
    over_there f marks c.requires.marks g c.in_ok-grades.ensures c.is_well_formed.ensures c.requires.single c.requires.regular c.in-Some.k first

pub returns-in-Some : goal.returns-in-Some
returns-in-Some c =
    let f = c.args.flat.now in
    let marks = c.args.marks.now in
    let g = grading_of c.in_ok-grades.grades in
    let found : IsFirst g c.as_slice.result.now (Some c.in-Some.k) = subst (λ (o : Option ℕ). IsFirst g c.as_slice.result.now o) c.in-Some.is c.first_over.ensures in
    let first : IsFirst g (needs_of f marks) (Some c.in-Some.k) = subst (λ (ns : List Need). IsFirst g ns (Some c.in-Some.k)) (c.as_slice.ensures.value ∙ c.in_ok-needs.ensures) found in
    let low = over_there f marks c.requires.marks g c.in_ok-grades.ensures c.is_well_formed.ensures c.requires.single c.requires.regular c.in-Some.k first in
    over_found f marks c.requires.marks g c.in_ok-grades.ensures c.in-Some.k c.position.result low first c.position.ensures
