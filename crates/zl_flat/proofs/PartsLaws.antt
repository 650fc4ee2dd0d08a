-- Laws of parts: what is made one behind the other, and the numbers that go on from there.
use Rattle.std.proofs.Common.{◌≡◌, ℕ, ◌+◌, List, [], ◌∷◌, ◌++◌, length, refl, ap, ◌∙◌, arith}
use Rattle.std.proofs.lemmas.List.{append_assoc, append-nil, length-append}
use Rattle.zl_meaning.specs.declared.block.Block.{Block}
use Rattle.zl_meaning.specs.declared.block.Choice.{Choice}
use Rattle.zl_meaning.specs.declared.block.Auto.{Auto}
use Rattle.zl_meaning.specs.declared.place.PlaceInfo.{PlaceInfo}
use Rattle.zl_meaning.specs.declared.occurrence.Occ.{Occ}
use Rattle.zl_meaning.specs.declared.occurrence.SiteInfo.{SiteInfo}
use Rattle.zl_flat.specs.declared.given.Given.{Given}
use Rattle.zl_flat.specs.Parts.{Parts, Counters, nothing, joined, one_block, one_place, some_places, some_definers, one_occ, one_hidden, one_site, one_choice, one_automaton, after, past_block, past_occ, past_hidden, past_site, past_choice, past_automaton}

pub parts-eq : {p q : Parts} → p.blocks ≡ q.blocks → p.places ≡ q.places → p.definers ≡ q.definers → p.occs ≡ q.occs → p.hidden ≡ q.hidden → p.sites ≡ q.sites → p.choices ≡ q.choices → p.automata ≡ q.automata → p ≡ q
parts-eq a b c d e f g h = λ i. record { blocks = a i; places = b i; definers = c i; occs = d i; hidden = e i; sites = f i; choices = g i; automata = h i }

pub counters-eq : {s t : Counters} → s.blocks ≡ t.blocks → s.places ≡ t.places → s.occs ≡ t.occs → s.hidden ≡ t.hidden → s.sites ≡ t.sites → s.choices ≡ t.choices → s.automata ≡ t.automata → s ≡ t
counters-eq a b c d e f g = λ i. record { blocks = a i; places = b i; occs = c i; hidden = d i; sites = e i; choices = f i; automata = g i }

pub joined-assoc : (p q r : Parts) → joined (joined p q) r ≡ joined p (joined q r)
unfolding joined
joined-assoc p q r = parts-eq (append_assoc p.blocks q.blocks r.blocks) (append_assoc p.places q.places r.places) (append_assoc p.definers q.definers r.definers) (append_assoc p.occs q.occs r.occs) (append_assoc p.hidden q.hidden r.hidden) (append_assoc p.sites q.sites r.sites) (append_assoc p.choices q.choices r.choices) (append_assoc p.automata q.automata r.automata)

pub joined-nothing : (p : Parts) → joined p nothing ≡ p
unfolding joined nothing
joined-nothing p = parts-eq (append-nil p.blocks) (append-nil p.places) (append-nil p.definers) (append-nil p.occs) (append-nil p.hidden) (append-nil p.sites) (append-nil p.choices) (append-nil p.automata)

pub nothing-joined : (p : Parts) → joined nothing p ≡ p
unfolding joined nothing
nothing-joined p = refl

pub some-no_definers : some_definers [] ≡ nothing
unfolding some_definers nothing
some-no_definers = refl

pub definers-joined : (xs ys : List Given) → joined (some_definers xs) (some_definers ys) ≡ some_definers (xs ++ ys)
unfolding joined some_definers
definers-joined xs ys = refl

pub more-definers : (p : Parts) (xs ys : List Given) → joined (joined p (some_definers xs)) (some_definers ys) ≡ joined p (some_definers (xs ++ ys))
more-definers p xs ys = joined-assoc p (some_definers xs) (some_definers ys) ∙ ap (joined p) (definers-joined xs ys)

pub places-joined : (x : PlaceInfo) (ys : List PlaceInfo) → joined (one_place x) (some_places ys) ≡ some_places (x ∷ ys)
unfolding joined one_place some_places
places-joined x ys = refl

pub more-places : (p : Parts) (x : PlaceInfo) (ys : List PlaceInfo) → joined (joined p (one_place x)) (some_places ys) ≡ joined p (some_places (x ∷ ys))
more-places p x ys = joined-assoc p (one_place x) (some_places ys) ∙ ap (joined p) (places-joined x ys)

pub some-no_places : some_places [] ≡ nothing
unfolding some_places nothing
some-no_places = refl

pub after-joined : (s : Counters) (p q : Parts) → after s (joined p q) ≡ after (after s p) q
unfolding joined after
after-joined s p q = counters-eq (step _ p.blocks q.blocks) (step _ p.places q.places) (step _ p.occs q.occs) (step _ p.hidden q.hidden) (step _ p.sites q.sites) (step _ p.choices q.choices) (step _ p.automata q.automata)
  where
    step : {X : Type 0} (n : ℕ) (xs ys : List X) → n + length (xs ++ ys) ≡ n + length xs + length ys
    step n xs ys = omega (arith, length-append xs ys)

plus_one : (n : ℕ) → n + 0 ≡ n
plus_one n = omega arith

pub after-nothing : (s : Counters) → after s nothing ≡ s
unfolding after nothing
after-nothing s = counters-eq (plus_one _) (plus_one _) (plus_one _) (plus_one _) (plus_one _) (plus_one _) (plus_one _)

pub after-definers : (s : Counters) (xs : List Given) → after s (some_definers xs) ≡ s
unfolding after some_definers
after-definers s xs = counters-eq (plus_one _) (plus_one _) (plus_one _) (plus_one _) (plus_one _) (plus_one _) (plus_one _)

pub after-block : (s : Counters) (x : Block) → after s (one_block x) ≡ past_block s
unfolding after one_block past_block
after-block s x = counters-eq refl (plus_one _) (plus_one _) (plus_one _) (plus_one _) (plus_one _) (plus_one _)

pub after-occ : (s : Counters) (x : Occ) → after s (one_occ x) ≡ past_occ s
unfolding after one_occ past_occ
after-occ s x = counters-eq (plus_one _) (plus_one _) refl (plus_one _) (plus_one _) (plus_one _) (plus_one _)

pub after-hidden : (s : Counters) (x : Occ) → after s (one_hidden x) ≡ past_hidden s
unfolding after one_hidden past_hidden
after-hidden s x = counters-eq (plus_one _) (plus_one _) (plus_one _) refl (plus_one _) (plus_one _) (plus_one _)

pub after-site : (s : Counters) (x : SiteInfo) → after s (one_site x) ≡ past_site s
unfolding after one_site past_site
after-site s x = counters-eq (plus_one _) (plus_one _) (plus_one _) (plus_one _) refl (plus_one _) (plus_one _)

pub after-choice : (s : Counters) (x : Choice) → after s (one_choice x) ≡ past_choice s
unfolding after one_choice past_choice
after-choice s x = counters-eq (plus_one _) (plus_one _) (plus_one _) (plus_one _) (plus_one _) refl (plus_one _)

pub after-automaton : (s : Counters) (x : Auto) → after s (one_automaton x) ≡ past_automaton s
unfolding after one_automaton past_automaton
after-automaton s x = counters-eq (plus_one _) (plus_one _) (plus_one _) (plus_one _) (plus_one _) (plus_one _) refl
