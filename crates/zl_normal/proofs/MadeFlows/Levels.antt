-- Levels of the wires of the kernel that is made of a form, by the ranks of the form's entries.
use Rattle.std.specs.Prelude.{◌≡◌, ℕ, zero, suc, ◌+◌, ◌-◌, ◌*◌, ◌<◌, ◌≤◌, max, List, [], ◌∷◌, length, slice_get, Option, Some, None}
use Rattle.std.specs.List.{AllByRecursion}
use Rattle.std.proofs.Common.{sym, ap, arith, subst, ◌⊎◌, inl, inr}
use Rattle.std.proofs.lemmas.Bool.{cases_lt}
use Rattle.std.proofs.lemmas.Option.{slice_get_within}
use Rattle.zl_meaning.specs.FlatForm.{FlatForm}
use Rattle.zl_meaning.specs.State.{AtPlace, AtUsed, AtValue}
use Rattle.zl_meaning.specs.Reading.{HasNodeRanks}
use Rattle.zl_meaning.specs.declared.place.Definer.{Definer}
use Rattle.zl_meaning.specs.declared.place.Definer.TheVariants.{Der}
use Rattle.zl_meaning.specs.declared.place.DerArm.{DerArm}
use Rattle.zl_meaning.specs.declared.place.PlaceInfo.{PlaceInfo}
use Rattle.zl_meaning.specs.declared.occurrence.Form.{Form}
use Rattle.zl_meaning.specs.declared.occurrence.Form.TheVariants.{Lit, Pre, Fired}
use Rattle.zl_meaning.specs.declared.occurrence.Occ.{Occ}
use Rattle.zl_normal.specs.PlaceWires.{definer_of, start_of}
use Rattle.zl_normal.specs.declared.key.Key.{Key}
use Rattle.zl_normal.specs.declared.key.Key.TheVariants.{Value, Rest, Next, Other, Guard, Place, Taken, Passed, Chosen, Last, Again, Present, Slope}

-- the sum of the first numbers
pub total : (ℕ → ℕ) → ℕ → ℕ
total g zero = 0
total g (suc m) = total g m + g m

pub in_total : (g : ℕ → ℕ) (m j : ℕ) → j < m → g j ≤ total g m
unfolding total
in_total g zero j l = absurd (omega arith)
in_total g (suc m) j l = by (λ b. in_total g m j b) (cases_lt j m)
  where
    by : (j < m → g j ≤ total g m) → (j < m) ⊎ (m ≤ j) → g j ≤ total g m + g m
    by before (inl b) = let i = before b in omega (arith, i)
    by before (inr b) = let same : j ≡ m = omega arith in subst (λ j. g j ≤ total g m + g m) (sym same) (omega arith)

-- the greatest rank of the events of some arms
abbrev pub highest : (ℕ → ℕ) → List DerArm → ℕ
highest g [] = 0
highest g (arm ∷ arms) = max (g arm.event) (highest g arms)

pub below_highest : (g : ℕ → ℕ) (arms : List DerArm) (i : ℕ) (arm : DerArm) → slice_get arms i ≡ Some arm → g arm.event ≤ highest g arms
below_highest g [] i arm e = absurd cc
below_highest g (x ∷ arms) zero arm e = let same : x ≡ arm = cc in subst (λ arm. g arm.event ≤ max (g x.event) (highest g arms)) same (omega arith)
below_highest g (x ∷ arms) (suc i) arm e = let l = below_highest g arms i arm e in omega (arith, l)

pub highest_below : (g : ℕ → ℕ) (b : ℕ) (arms : List DerArm) → 0 < b → AllByRecursion (λ (arm : DerArm). g arm.event < b) arms → highest g arms < b
highest_below g b [] l all = l
highest_below g b (arm ∷ arms) l all = let r = highest_below g b arms l all.1 in let z = all.0 in omega (arith, r, z)

abbrev pub fired_count : Form → ℕ
fired_count (Fired ks) = length ks
fired_count form = 0

abbrev pub occ_count : Option Occ → ℕ
occ_count None = 0
occ_count (Some occ) = fired_count occ.form

abbrev pub der_arms : Option Definer → List DerArm
der_arms (Some (Der b j arms)) = arms
der_arms d = []

abbrev pub place_count : Option PlaceInfo → ℕ
place_count None = 0
place_count (Some place) = length (der_arms (definer_of place.definers))

-- no list of parts, arms or demands is longer
pub width : FlatForm → ℕ
width f = length f.again + total (λ j. occ_count (slice_get f.occs j)) (length f.occs) + total (λ p. place_count (slice_get f.places p)) (length f.places)

pub again_width : (f : FlatForm) → length f.again ≤ width f
unfolding width
again_width f = omega arith

pub fired_width : (f : FlatForm) (j : ℕ) (occ : Occ) → slice_get f.occs j ≡ Some occ → fired_count occ.form ≤ width f
unfolding width
fired_width f j occ is =
    let g = λ (j : ℕ). occ_count (slice_get f.occs j) in
    let l : occ_count (slice_get f.occs j) ≤ total g (length f.occs) = in_total g (length f.occs) j (slice_get_within f.occs j occ is) in
    let e : occ_count (slice_get f.occs j) ≡ fired_count occ.form = ap (λ o. occ_count o) is in
    omega (arith, l, e)

pub arms_width : (f : FlatForm) (p : ℕ) (place : PlaceInfo) → slice_get f.places p ≡ Some place → length (der_arms (definer_of place.definers)) ≤ width f
unfolding width
arms_width f p place is =
    let g = λ (p : ℕ). place_count (slice_get f.places p) in
    let l : place_count (slice_get f.places p) ≤ total g (length f.places) = in_total g (length f.places) p (slice_get_within f.places p place is) in
    let e : place_count (slice_get f.places p) ≡ length (der_arms (definer_of place.definers)) = ap (λ o. place_count o) is in
    omega (arith, l, e)

-- the wires of an entry of this rank stand on this level; there is room for others before the next
pub level : FlatForm → ℕ → ℕ
level f a = (width f + width f + 2) * a

times_more : (w a b : ℕ) → a < b → w * a + w ≤ w * b
times_more w a b l =
    let d = b - suc a in
    let e : b ≡ suc a + d = omega arith in
    rw e (omega arith)

pub climb : (f : FlatForm) (a b : ℕ) → a < b → level f a + width f + width f + 2 ≤ level f b
unfolding level
climb f a b l = let t = times_more (width f + width f + 2) a b l in omega (arith, t)

pub climb_even : (f : FlatForm) (a b : ℕ) → a ≤ b → level f a ≤ level f b
climb_even f a b l = by (cases_lt a b)
  where
    by : (a < b) ⊎ (b ≤ a) → level f a ≤ level f b
    by (inl less) = let c = climb f a b less in omega (arith, c)
    by (inr more) = let same : a ≡ b = omega arith in subst (λ b. level f a ≤ level f b) same (omega arith)

module _ (f : FlatForm) (entries : HasNodeRanks f) where
  abbrev pub V : ℕ → ℕ
  V j = entries.rank (AtValue j)

  abbrev pub U : ℕ → ℕ
  U j = entries.rank (AtUsed j)

  abbrev pub P : ℕ → ℕ
  P p = entries.rank (AtPlace p)

  -- above the ranks of all values
  pub top : ℕ
  top = total (λ j. entries.rank (AtValue j)) (length f.occs)

  pub below_top : (j : ℕ) (occ : Occ) → slice_get f.occs j ≡ Some occ → entries.rank (AtValue j) ≤ top
  unfolding top
  below_top j occ is = in_total (λ j. entries.rank (AtValue j)) (length f.occs) j (slice_get_within f.occs j occ is)

  abbrev pub form_rank : ℕ → Form → ℕ
  form_rank j (Lit v) = 0
  form_rank j form = level f (V j)

  abbrev pub occ_rank : ℕ → Option Occ → ℕ
  occ_rank j None = 0
  occ_rank j (Some occ) = form_rank j occ.form

  abbrev pub next_form : Form → ℕ
  next_form (Pre x) = level f (suc (V x))
  next_form form = 0

  abbrev pub next_rank : Option Occ → ℕ
  next_rank None = 0
  next_rank (Some occ) = next_form occ.form

  abbrev pub event_rank : Option PlaceInfo → ℕ
  event_rank None = 0
  event_rank (Some place) = highest (λ j. entries.rank (AtValue j)) (der_arms (definer_of place.definers))

  abbrev pub start_rank : Option ℕ → ℕ
  start_rank None = 0
  start_rank (Some j) = level f (V j) + width f + 1

  abbrev pub last_rank : Option PlaceInfo → ℕ
  last_rank None = 0
  last_rank (Some place) = start_rank (start_of place.definers)

  -- the rank of what stands for this
  abbrev pub key_rank : Key → ℕ
  key_rank (Value j) = occ_rank j (slice_get f.occs j)
  key_rank (Rest j i) = level f (V j) + (width f - i)
  key_rank (Next j) = next_rank (slice_get f.occs j)
  key_rank (Other j) = level f (U j)
  key_rank (Guard j) = level f (U j) + 1
  key_rank (Place p) = level f (P p) + width f + 1
  key_rank (Taken p i) = level f (event_rank (slice_get f.places p)) + width f + 1 + i
  key_rank (Passed p i) = level f (event_rank (slice_get f.places p)) + width f + 1 + i
  key_rank (Chosen p i) = level f (P p) + (width f - i)
  key_rank (Last p) = last_rank (slice_get f.places p)
  key_rank (Again i) = level f (suc top) + (width f - i)
  key_rank (Present j) = level f (suc (V j))
  key_rank (Slope j) = level f (suc (suc top)) + V j
  key_rank key = 0
