use Rattle.std.proofs.Common.{◌≡◌, ◌∙◌, ◌≤◌, ◌+◌, true, length, slice_get, Some, sym, subst, arith}
use Rattle.std.proofs.lemmas.Option.{slice_get_within}
use Rattle.zl_grade.specs.Reached.{Reach}
use Rattle.zl_grade.specs.Closed.{IsClosing}
use Rattle.zl_grade.proofs.Closing.{closing_none, closing_more, closing_end, none_there}
use Rattle.zl_grade.proofs.apart.close.Goals as goal

pub loop-index-init : goal.loop-index-init
loop-index-init c = closing_none c.args.children.now.occs.now c.args.reached.now c.requires.listed

pub add_to-requires-clause-within : goal.add_to-requires-clause-within
add_to-requires-clause-within c =
    let h = c.loop-index.invariant in
    let there : slice_get c.loop-index.reached.order c.loop-index.index ≡ Some c.in-Some.k = sym c.in-Some.ensures in
    omega (arith, slice_get_within c.loop-index.reached.marks c.in-Some.k true (h.listed.marked c.loop-index.index c.in-Some.k there), h.size, c.requires.count, c.requires.same)

pub loop-index-preserved : goal.loop-index-preserved
loop-index-preserved c =
    let occs = c.args.children.now.occs.now in
    let old = c.args.reached.now in
    let there : slice_get c.loop-index.reached.order c.loop-index.index ≡ Some c.in-Some.k = sym c.in-Some.ensures in
    subst (λ (r : Reach). IsClosing occs old r (c.loop-index.index + 1)) (sym c.in_ok-add_to.ensures) (closing_more occs old c.loop-index.reached c.loop-index.index c.in-Some.k there c.loop-index.invariant)

pub returns-in_default : goal.returns-in_default
returns-in_default c =
    closing_end c.args.children.now.occs.now c.args.reached.now c.loop-index.reached c.loop-index.index (none_there c.loop-index.reached.order c.loop-index.index (sym c.at.ensures ∙ c.in_default.is)) c.loop-index.invariant

pub returns : goal.returns
returns c =
    let h = c.loop-index.invariant in
    let all : length c.loop-index.reached.order ≤ c.loop-index.index = omega (arith, h.listed.count, h.size, c.requires.count) in
    closing_end c.args.children.now.occs.now c.args.reached.now c.loop-index.reached c.loop-index.index all h
