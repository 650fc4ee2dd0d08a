use Rattle.std.proofs.Common.{sym, ◌∙◌, ap}
use Rattle.zl_ast.specs.Assignments.{side_type}
use Rattle.zl_types.proofs.ClassesModels.{meeting, clashing}
use Rattle.zl_types.proofs.classes.Classes.meet.Goals as goal

pub returns-in-Fixed-clause-met : goal.returns-in-Fixed-clause-met
returns-in-Fixed-clause-met c met =
    let n = c.in_ok-node.ensures in
    meeting c.args.equality.now _ c.args.self.now _ n.fits n.fits_back (λ a m. ap a n.here ∙ m ∙ ap (side_type a) c.in-Fixed.is) _
    (λ a p. sym (ap a n.here) ∙ p ∙ sym (ap (side_type a) c.in-Fixed.is)) (c.fix.ensures.narrows met)

pub returns-in-Fixed-clause-clashes : goal.returns-in-Fixed-clause-clashes
returns-in-Fixed-clause-clashes c clash =
    let n = c.in_ok-node.ensures in
    clashing c.args.equality.now _ c.args.self.now c.number.new.self n.fits n.fits_back (λ a m. ap a n.here ∙ m ∙ ap (side_type a) c.in-Fixed.is) (c.fix.ensures.excludes clash)

pub returns-in_ok-other-in-SameAs-clause-met : goal.returns-in_ok-other-in-SameAs-clause-met
returns-in_ok-other-in-SameAs-clause-met c met =
    let n = c.in_ok-node.ensures in
    let o = c.in_ok-other-in-SameAs.ensures in
    meeting c.args.equality.now _ c.args.self.now _ (λ a f. o.fits a (n.fits a f)) (λ a f. n.fits_back a (o.fits_back a f))
    (λ a m. ap a (o.places _ n.within ∙ n.here) ∙ m ∙ ap (side_type a) c.in-SameAs.is ∙ sym (ap a o.here)) _
    (λ a p. sym (ap a (o.places _ n.within ∙ n.here)) ∙ p ∙ ap a o.here ∙ sym (ap (side_type a) c.in-SameAs.is)) (c.join.ensures.narrows met)

pub returns-in_ok-other-in-SameAs-clause-clashes : goal.returns-in_ok-other-in-SameAs-clause-clashes
returns-in_ok-other-in-SameAs-clause-clashes c clash =
    let n = c.in_ok-node.ensures in
    let o = c.in_ok-other-in-SameAs.ensures in
    clashing c.args.equality.now _ c.args.self.now c.number-in-SameAs.new.self (λ a f. o.fits a (n.fits a f)) (λ a f. n.fits_back a (o.fits_back a f))
    (λ a m. ap a (o.places _ n.within ∙ n.here) ∙ m ∙ ap (side_type a) c.in-SameAs.is ∙ sym (ap a o.here)) (c.join.ensures.excludes clash)
