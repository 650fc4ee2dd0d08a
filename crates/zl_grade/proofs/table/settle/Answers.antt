use Rattle.std.proofs.Common.{◌<◌, ◌∙◌, List, Some, sym, subst, arith}
use Rattle.zl_meaning.specs.Grades.{Grading}
use Rattle.zl_grade.specs.Chains.{HasReaders}
use Rattle.zl_grade.specs.Equations.{with_grade}
use Rattle.zl_grade.specs.Graded.{grading_of}
use Rattle.zl_grade.specs.Links.{links_of}
use Rattle.zl_grade.specs.Table.{AreSettled, IsBelow, IsNext}
use Rattle.zl_grade.specs.declared.node.Link.{Link}
use Rattle.zl_grade.proofs.ReaderLaws.{node_there}
use Rattle.zl_grade.proofs.Rising.{left, left_less}
use Rattle.zl_grade.proofs.Rises.{rise_inside, rise_small, rise_below, rise_settled}
use Rattle.zl_grade.proofs.table.settle.Goals as goal

pub loop-rise-preserved : goal.loop-rise-preserved
loop-rise-preserved c =
    let f = c.args.flat.now in
    let marks = c.args.marks.now in
    let g = grading_of c.loop-rise.grades in
    let x = c.in-Some.rise in
    let next : IsNext f marks g c.next_rise.new.waiting.items (Some x) = subst (IsNext f marks g c.next_rise.new.waiting.items) c.in-Some.is c.next_rise.ensures in
    let b = c.loop-rise.invariant.below in
    let readers : HasReaders (links_of f) g x.node x.grade c.next_rise.new.waiting.items c.add.new.nodes.items =
    subst (λ (ls : List Link). HasReaders ls g x.node x.grade c.next_rise.new.waiting.items c.add.new.nodes.items) c.requires.readers.same c.in_ok-add.ensures in
    record {
      below = subst (λ (h : Grading). IsBelow f marks h) (sym c.put.ensures) (rise_below f marks c.requires.closed g b x.node x.grade next.0 next.1);
      settled = subst (λ (h : Grading). AreSettled f marks h c.add.new.nodes.items) (sym c.put.ensures)
          (rise_settled f marks c.requires.closed g b x.node x.grade next.0 next.1 c.next_rise.new.waiting.items c.add.new.nodes.items next.2 readers);
    }

pub add-requires-clause-within : goal.add-requires-clause-within
add-requires-clause-within c =
    let f = c.args.flat.now in
    let marks = c.args.marks.now in
    let g = grading_of c.loop-rise.grades in
    let x = c.in-Some.rise in
    let next : IsNext f marks g c.next_rise.new.waiting.items (Some x) = subst (IsNext f marks g c.next_rise.new.waiting.items) c.in-Some.is c.next_rise.ensures in
    let b = c.loop-rise.invariant.below in
    let inside = rise_inside f marks c.requires.closed g b x.node x.grade next.0 next.1 in
    node_there g c.args.readers.now.occs.items c.args.readers.now.places.items x.node (c.requires.readers.occs_length ∙ sym b.occs_length) (c.requires.readers.places_length ∙ sym b.places_length) inside

pub loop-rise-smaller : goal.loop-rise-smaller
loop-rise-smaller c =
    let f = c.args.flat.now in
    let marks = c.args.marks.now in
    let g = grading_of c.loop-rise.grades in
    let x = c.in-Some.rise in
    let next : IsNext f marks g c.next_rise.new.waiting.items (Some x) = subst (IsNext f marks g c.next_rise.new.waiting.items) c.in-Some.is c.next_rise.ensures in
    let b = c.loop-rise.invariant.below in
    let inside = rise_inside f marks c.requires.closed g b x.node x.grade next.0 next.1 in
    let small = rise_small f marks c.requires.closed g b x.node x.grade next.0 next.1 in
    let less : left (with_grade g x.node x.grade) < left g = left_less g x.node x.grade inside next.1 (omega (arith, small)) in
    subst (λ (h : Grading). left h < left g) (sym c.put.ensures) less
