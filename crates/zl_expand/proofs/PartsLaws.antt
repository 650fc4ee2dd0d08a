-- Laws of parts as the code keeps them: their numbers, and parts that are set later.
use Rattle.std.proofs.Common.{◌≡◌, ℕ, ◌<◌, ◌∷◌, length, set, refl, ap, ◌∙◌, arith}
use Rattle.std.proofs.lemmas.Grind.{common_steps}
use Rattle.std.proofs.lemmas.List.{append_assoc, append-nil, length-append}
use Rattle.std.proofs.Math.Seq.{set-append_seam}
use Rattle.zl_meaning.specs.declared.block.Block.{Block}
use Rattle.zl_meaning.specs.declared.block.Choice.{Choice}
use Rattle.zl_meaning.specs.declared.block.Auto.{Auto}
use Rattle.zl_meaning.specs.declared.occurrence.Occ.{Occ}
use Rattle.zl_meaning.specs.declared.occurrence.SiteInfo.{SiteInfo}
use Rattle.zl_flat.specs.Parts.{Parts, joined, one_block, one_occ, one_hidden, one_site, one_choice, one_automaton, after}
use Rattle.zl_flat.proofs.PartsLaws.{parts-eq, counters-eq}
pub use Rattle.zl_flat.proofs.PartsLaws.{joined-assoc, joined-nothing, nothing-joined, some-no_definers, definers-joined, more-definers, places-joined, more-places, some-no_places, after-joined, after-nothing, after-definers, after-block, after-occ, after-hidden, after-site, after-choice, after-automaton}
use Rattle.zl_expand.specs.Kept.{counters, with_block, with_occ, with_hidden, with_site, with_choice, with_automaton}

pub counters-joined : (p q : Parts) → counters (joined p q) ≡ after (counters p) q
unfolding counters joined after
counters-joined p q = counters-eq (length-append p.blocks q.blocks) (length-append p.places q.places) (length-append p.occs q.occs) (length-append p.hidden q.hidden) (length-append p.sites q.sites) (length-append p.choices q.choices) (length-append p.automata q.automata)

-- ---- numbers

pub counters-blocks : (p : Parts) → (counters p).blocks ≡ length p.blocks
unfolding counters
counters-blocks p = refl

pub counters-places : (p : Parts) → (counters p).places ≡ length p.places
unfolding counters
counters-places p = refl

pub counters-occs : (p : Parts) → (counters p).occs ≡ length p.occs
unfolding counters
counters-occs p = refl

pub counters-hidden : (p : Parts) → (counters p).hidden ≡ length p.hidden
unfolding counters
counters-hidden p = refl

pub counters-sites : (p : Parts) → (counters p).sites ≡ length p.sites
unfolding counters
counters-sites p = refl

pub counters-choices : (p : Parts) → (counters p).choices ≡ length p.choices
unfolding counters
counters-choices p = refl

pub counters-automata : (p : Parts) → (counters p).automata ≡ length p.automata
unfolding counters
counters-automata p = refl

-- ---- parts that are set later

pub set-block : (p q : Parts) (x y : Block) (n : ℕ) → n ≡ length p.blocks → with_block (joined p (joined (one_block x) q)) n y ≡ joined p (joined (one_block y) q)
unfolding with_block joined one_block
set-block p q x y n e = ap (λ m. with_block (joined p (joined (one_block x) q)) m y) e ∙ parts-eq (set-append_seam p.blocks x q.blocks y) refl refl refl refl refl refl refl

pub room-block : (p q : Parts) (x : Block) (n : ℕ) → n ≡ length p.blocks → n < length (joined p (joined (one_block x) q)).blocks
unfolding joined one_block
room-block p q x n e = omega (arith, e, length-append p.blocks (x ∷ q.blocks))

pub set-occ : (p q : Parts) (x y : Occ) (n : ℕ) → n ≡ length p.occs → with_occ (joined p (joined (one_occ x) q)) n y ≡ joined p (joined (one_occ y) q)
unfolding with_occ joined one_occ
set-occ p q x y n e = ap (λ m. with_occ (joined p (joined (one_occ x) q)) m y) e ∙ parts-eq refl refl refl (set-append_seam p.occs x q.occs y) refl refl refl refl

pub room-occ : (p q : Parts) (x : Occ) (n : ℕ) → n ≡ length p.occs → n < length (joined p (joined (one_occ x) q)).occs
unfolding joined one_occ
room-occ p q x n e = omega (arith, e, length-append p.occs (x ∷ q.occs))

pub set-hidden : (p q : Parts) (x y : Occ) (n : ℕ) → n ≡ length p.hidden → with_hidden (joined p (joined (one_hidden x) q)) n y ≡ joined p (joined (one_hidden y) q)
unfolding with_hidden joined one_hidden
set-hidden p q x y n e = ap (λ m. with_hidden (joined p (joined (one_hidden x) q)) m y) e ∙ parts-eq refl refl refl refl (set-append_seam p.hidden x q.hidden y) refl refl refl

pub room-hidden : (p q : Parts) (x : Occ) (n : ℕ) → n ≡ length p.hidden → n < length (joined p (joined (one_hidden x) q)).hidden
unfolding joined one_hidden
room-hidden p q x n e = omega (arith, e, length-append p.hidden (x ∷ q.hidden))

pub set-site : (p q : Parts) (x y : SiteInfo) (n : ℕ) → n ≡ length p.sites → with_site (joined p (joined (one_site x) q)) n y ≡ joined p (joined (one_site y) q)
unfolding with_site joined one_site
set-site p q x y n e = ap (λ m. with_site (joined p (joined (one_site x) q)) m y) e ∙ parts-eq refl refl refl refl refl (set-append_seam p.sites x q.sites y) refl refl

pub room-site : (p q : Parts) (x : SiteInfo) (n : ℕ) → n ≡ length p.sites → n < length (joined p (joined (one_site x) q)).sites
unfolding joined one_site
room-site p q x n e = omega (arith, e, length-append p.sites (x ∷ q.sites))

pub set-choice : (p q : Parts) (x y : Choice) (n : ℕ) → n ≡ length p.choices → with_choice (joined p (joined (one_choice x) q)) n y ≡ joined p (joined (one_choice y) q)
unfolding with_choice joined one_choice
set-choice p q x y n e = ap (λ m. with_choice (joined p (joined (one_choice x) q)) m y) e ∙ parts-eq refl refl refl refl refl refl (set-append_seam p.choices x q.choices y) refl

pub room-choice : (p q : Parts) (x : Choice) (n : ℕ) → n ≡ length p.choices → n < length (joined p (joined (one_choice x) q)).choices
unfolding joined one_choice
room-choice p q x n e = omega (arith, e, length-append p.choices (x ∷ q.choices))

pub set-automaton : (p q : Parts) (x y : Auto) (n : ℕ) → n ≡ length p.automata → with_automaton (joined p (joined (one_automaton x) q)) n y ≡ joined p (joined (one_automaton y) q)
unfolding with_automaton joined one_automaton
set-automaton p q x y n e = ap (λ m. with_automaton (joined p (joined (one_automaton x) q)) m y) e ∙ parts-eq refl refl refl refl refl refl refl (set-append_seam p.automata x q.automata y)

pub room-automaton : (p q : Parts) (x : Auto) (n : ℕ) → n ≡ length p.automata → n < length (joined p (joined (one_automaton x) q)).automata
unfolding joined one_automaton
room-automaton p q x n e = omega (arith, e, length-append p.automata (x ∷ q.automata))

pub set-hidden-behind : (p q : Parts) (z x y : Occ) (n : ℕ) → n ≡ length p.hidden → with_hidden (joined p (joined (one_occ z) (joined (one_hidden x) q))) n y ≡ joined p (joined (one_occ z) (joined (one_hidden y) q))
unfolding with_hidden joined one_hidden one_occ
set-hidden-behind p q z x y n e = ap (λ m. with_hidden (joined p (joined (one_occ z) (joined (one_hidden x) q))) m y) e ∙ parts-eq refl refl refl refl (set-append_seam p.hidden x q.hidden y) refl refl refl

pub hidden-behind : (p : Parts) (z : Occ) → length (joined p (one_occ z)).hidden ≡ length p.hidden
unfolding joined one_occ
hidden-behind p z = ap length (append-nil p.hidden)

pub sites-behind : (p : Parts) (z : Occ) → length (joined p (one_occ z)).sites ≡ length p.sites
unfolding joined one_occ
sites-behind p z = ap length (append-nil p.sites)

pub occs-behind : (p : Parts) (z : SiteInfo) → length (joined p (one_site z)).occs ≡ length p.occs
unfolding joined one_site
occs-behind p z = ap length (append-nil p.occs)

pub ruleset parts_laws = (common_steps, more-definers, more-places, joined-assoc, joined-nothing, nothing-joined, some-no_definers, some-no_places, definers-joined, places-joined, counters-joined, after-joined, after-nothing, after-definers, after-block, after-occ, after-hidden, after-site, after-choice, after-automaton, counters-blocks, counters-places, counters-occs, counters-hidden, counters-sites, counters-choices, counters-automata, set-block, set-occ, set-hidden, set-site, set-choice, set-automaton, set-hidden-behind, hidden-behind, sites-behind, occs-behind, room-block, room-occ, room-hidden, room-site, room-choice, room-automaton)

pub ruleset appending = (common_steps, append-nil, append_assoc)
