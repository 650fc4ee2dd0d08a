use Rattle.std.proofs.Common.{◌≡◌, ◌+◌, ◌∙◌, ◌∷◌, ◌++◌, [], sym, ap, ap₂, subst, arith, get_or, length}
use Rattle.std.proofs.lemmas.Option.{slice_get-get_or}
use Rattle.zl_grade.specs.Chains.{start_of, occs_with, places_with, HasFirst}
use Rattle.zl_grade.specs.declared.node.Link.{Link}
use Rattle.zl_grade.specs.declared.node.Node.TheVariants.{Occ}
use Rattle.zl_grade.proofs.ChainLaws.{occs-same, places-same, chains_more}
use Rattle.zl_grade.proofs.readers.Readers.new.Goals as goal

pub loop-i-preserved : goal.loop-i-preserved
loop-i-preserved c =
    let d : Link = record { from = Occ 0; to = Occ 0 } in
    let links = c.args.links.now in
    let i = c.loop-i.i in
    let one : Link = get_or links i d in
    let h = c.loop-i.invariant in
    let occs = c.loop-i.of_occs.items in
    let places = c.loop-i.of_places.items in
    let before = c.loop-i.before.items in
    let read : c.start.result ≡ start_of occs places one.from = c.start.ensures ∙ ap₂ (λ os ps. start_of os ps one.from) c.as_slice.ensures.value c.as_slice-in-loop-i.ensures.value in
    let pushed : c.push.new.self.items ≡ before ++ start_of occs places one.from ∷ [] = c.in_ok-push.ensures.items ∙ ap (λ x. before ++ x ∷ []) read in
    let more = chains_more links i occs places before one h.first (slice_get-get_or links i d (omega arith)) in
    record {
      occs = ap length c.begin.ensures.occs ∙ occs-same occs one.from (i + 1) ∙ h.occs;
      places = ap length c.begin.ensures.places ∙ places-same places one.from (i + 1) ∙ h.places;
      first = subst (λ os. HasFirst links (i + 1) os c.begin.new.places.items c.push.new.self.items) (sym c.begin.ensures.occs)
          (subst (λ ps. HasFirst links (i + 1) (occs_with one.from (i + 1) occs) ps c.push.new.self.items) (sym c.begin.ensures.places)
          (subst (HasFirst links (i + 1) (occs_with one.from (i + 1) occs) (places_with one.from (i + 1) places)) (sym pushed) more));
    }
