use Rattle.std.proofs.Common.{◌≡◌, ℕ, ◌<◌, true, false, List, [], ◌∷◌, ◌++◌, length, set, slice_get, get_or, Option, Some, None, refl, sym, ap, subst, ◌∙◌}
use Rattle.std.proofs.lemmas.Option.{slice_get_within, slice_get-get_or}
use Rattle.zl_normal.specs.Roots.{is_open, root_of, AreChained}
use Rattle.zl_normal.proofs.Chains.{fewer_open, IsChaining, chain_starts, chain_goes, chain_ends, chain_joins}
use Rattle.zl_normal.proofs.roots.mark_chain.Goals as goal

open_is : (o : Option (Option ℕ)) → is_open o ≡ true → o ≡ Some None
open_is None e = absurd (cc)
open_is (Some None) e = refl
open_is (Some (Some c)) e = absurd (cc)

closed_is : (o : Option (Option ℕ)) → is_open o ≡ false → o ≡ Some None → ⊥
closed_is o e g = let bad : true ≡ false = sym (ap is_open g) ∙ e in cc

link_is : (links marks : List (Option ℕ)) (at : ℕ) (link : Option ℕ) → length marks ≡ length links → slice_get marks at ≡ Some None → get_or links at None ≡ link → slice_get links at ≡ Some link
link_is links marks at link size mark e =
    let within : at < length links = subst (λ n. at < n) size (slice_get_within marks at None mark) in
    slice_get-get_or links at None within ∙ ap (λ (l : Option ℕ). Some l) e

pub loop-marks-init : goal.loop-marks-init
loop-marks-init c = subst (λ n. IsChaining c.args.links.now c.args.marks.now.items c.args.ends.now n) (sym c.requires.start) (chain_starts c.args.links.now c.args.marks.now.items c.args.ends.now c.requires.chained)

pub loop-marks-smaller : goal.loop-marks-smaller
loop-marks-smaller c =
    let mark = open_is (slice_get c.loop-marks.marks.items c.loop-marks.at) (ap (λ marks. is_open (slice_get marks c.loop-marks.at)) (sym c.as_slice.ensures.value) ∙ sym c.loop-marks-test.ensures.open) in
    fewer_open c.loop-marks.marks.items c.loop-marks.at c.args.start mark

pub loop-marks-preserved : goal.loop-marks-preserved
loop-marks-preserved c =
    let marks = c.loop-marks.marks.items in
    let at = c.loop-marks.at in
    let mark = open_is (slice_get marks at) (ap (λ marks. is_open (slice_get marks at)) (sym c.as_slice.ensures.value) ∙ sym c.loop-marks-test.ensures.open) in
    let link = link_is c.args.links.now marks at (Some c.in-Some.next) c.loop-marks.invariant.size mark (sym c.in-Some.ensures) in
    subst (λ n. IsChaining c.args.links.now (set marks at (Some n)) c.args.ends.now c.in-Some.next) (sym c.requires.start)
    (chain_goes c.args.links.now marks c.args.ends.now at c.loop-marks.invariant mark c.in-Some.next link)

pub returns-in-None : goal.returns-in-None
returns-in-None c =
    let marks = c.loop-marks.marks.items in
    let at = c.loop-marks.at in
    let mark = open_is (slice_get marks at) (ap (λ marks. is_open (slice_get marks at)) (sym c.as_slice.ensures.value) ∙ sym c.loop-marks-test.ensures.open) in
    let link = link_is c.args.links.now marks at None c.loop-marks.invariant.size mark (sym c.in-None.ensures) in
    subst (λ n. AreChained c.args.links.now (set marks at (Some n)) (c.args.ends.now ++ at ∷ [])) (sym c.requires.start)
    (chain_ends c.args.links.now marks c.args.ends.now at c.loop-marks.invariant mark link)

pub returns : goal.returns
returns c =
    let marks = c.loop-marks.marks.items in
    let at = c.loop-marks.at in
    let mark = closed_is (slice_get marks at) (ap (λ marks. is_open (slice_get marks at)) (sym c.as_slice.ensures.value) ∙ sym c.loop-marks-test.ensures.open) in
    let root = c.root_of.ensures ∙ ap (λ marks. root_of marks c.args.ends.now at) c.as_slice-2.ensures.value in
    subst (λ e. AreChained c.args.links.now marks (c.args.ends.now ++ e ∷ [])) (sym root)
    (chain_joins c.args.links.now marks c.args.ends.now at c.loop-marks.invariant mark (subst (λ n. n < length c.args.links.now) c.requires.start c.requires.within))
