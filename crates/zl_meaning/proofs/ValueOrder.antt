-- The values of a form without circles can be ordered: a part before its whole, an `init` value before each `last` of its
-- place.
use Rattle.std.specs.Prelude.{◌≡◌, ◌⊎◌, ℕ, zero, suc, ◌<◌, ◌≤◌, Bool, true, false, List, [], ◌∷◌, length, slice_get, Option, Some, None}
use Rattle.std.proofs.Common.{refl, sym, ap, ◌∙◌, subst, inl, inr, ⊎_elim, arith}
use Rattle.std.proofs.lemmas.Option.{slice_get_within}
use Rattle.zl_value.specs.Lists.{Has, among}
use Rattle.zl_value.specs.Relations.{Leads, HasRanks, HasCycle}
use Rattle.zl_value.proofs.Acyclic.{ranks_or_cycle}
use Rattle.zl_meaning.specs.FlatForm.{FlatForm, HasForm, HasDefiner}
use Rattle.zl_meaning.specs.WellFormed.{IsWellFormed}
use Rattle.zl_meaning.specs.Depends.{read_parts, ReadsLast, Is, InPart, LeadsTo, AtOnce, Further}
use Rattle.zl_meaning.specs.declared.place.Definer.{Definer}
use Rattle.zl_meaning.specs.declared.place.Definer.TheVariants.{Input, Plain, Der, Start}
use Rattle.zl_meaning.specs.declared.place.PlaceInfo.{PlaceInfo}
use Rattle.zl_meaning.specs.declared.occurrence.Form.{Form}
use Rattle.zl_meaning.specs.declared.occurrence.Form.TheVariants.{Lit, Read, Last, Op as Apply, If, Arrow, Pre, Result, Up, Fired, Step}
use Rattle.zl_meaning.specs.declared.occurrence.Occ.{Occ}
use Rattle.zl_meaning.proofs.LevelsGrow.{start-stands}
use Rattle.zl_meaning.proofs.Members.{has-none, has-cases, has-later, among-has, has-among}
use Rattle.zl_meaning.proofs.Standing.{part-in, part-of-form, read-part}

-- the `init` values among these definers
abbrev pub starts_of : List Definer → List ℕ
starts_of [] = []
starts_of (Start b j ∷ ds) = j ∷ starts_of ds
starts_of (Input n ∷ ds) = starts_of ds
starts_of (Plain b j ∷ ds) = starts_of ds
starts_of (Der b slope arms ∷ ds) = starts_of ds

abbrev pub starts_in : Option PlaceInfo → List ℕ
starts_in None = []
starts_in (Some x) = starts_of x.definers

-- the occurrences whose values a value of this form is made of, beside the place that it names
abbrev pub made_of : FlatForm → Form → List ℕ
made_of f (Last p) = starts_in (slice_get f.places p)
made_of f form = read_parts form

-- the value of `k` is made of that of `j`
pub data Needs (f : FlatForm) (k j : ℕ) : Type 0 where
  OfPart : (form : Form) → HasForm f k form → Has (read_parts form) j → Needs f k j
  OfStart : (p b : ℕ) → HasForm f k (Last p) → HasDefiner f p (Start b j) → Needs f k j

start-among : (ds : List Definer) (j : ℕ) → Has (starts_of ds) j → (b : ℕ) × Has ds (Start b j)
start-among [] j h = absurd (has-none j h)
start-among (Start b i ∷ ds) j h =
    has-cases ((c : ℕ) × Has (Start b i ∷ ds) (Start c j)) i (starts_of ds) j h
    (λ e. (b, record { index = 0; is = ap (λ n. Some (Start b n)) e }))
    (λ more. let rest = start-among ds j more in (rest.0, has-later (Start b i) ds (Start rest.0 j) rest.1))
start-among (Input n ∷ ds) j h = let rest = start-among ds j h in (rest.0, has-later (Input n) ds (Start rest.0 j) rest.1)
start-among (Plain b k ∷ ds) j h = let rest = start-among ds j h in (rest.0, has-later (Plain b k) ds (Start rest.0 j) rest.1)
start-among (Der b k arms ∷ ds) j h = let rest = start-among ds j h in (rest.0, has-later (Der b k arms) ds (Start rest.0 j) rest.1)

among-starts : (ds : List Definer) (b j : ℕ) → Has ds (Start b j) → Has (starts_of ds) j
among-starts [] b j h = absurd (has-none (Start b j) h)
among-starts (Start c i ∷ ds) b j h =
    has-cases (Has (i ∷ starts_of ds) j) (Start c i) ds (Start b j) h (λ e. record { index = 0; is = ap (λ n. Some n) (same e) }) (λ more. has-later i (starts_of ds) j (among-starts ds b j more))
  where
    same : {a b i j : ℕ} → Start a i ≡ Start b j → i ≡ j
    same e = cc
among-starts (Input n ∷ ds) b j h = has-cases (Has (starts_of ds) j) (Input n) ds (Start b j) h (λ e. absurd (cc)) (λ more. among-starts ds b j more)
among-starts (Plain c k ∷ ds) b j h = has-cases (Has (starts_of ds) j) (Plain c k) ds (Start b j) h (λ e. absurd (cc)) (λ more. among-starts ds b j more)
among-starts (Der c k arms ∷ ds) b j h = has-cases (Has (starts_of ds) j) (Der c k arms) ds (Start b j) h (λ e. absurd (cc)) (λ more. among-starts ds b j more)

module _ (f : FlatForm) where
  -- what is made of the list, and the list of it
  pub needs-made : (k j : ℕ) (occ : Occ) → slice_get f.occs k ≡ Some occ → Has (made_of f occ.form) j → Needs f k j
  needs-made k j occ is h = by_form occ.form refl h
    where
      by_last : (p : ℕ) → occ.form ≡ Last p → (x : Option PlaceInfo) → slice_get f.places p ≡ x → Has (starts_in x) j → Needs f k j
      by_last p e None there h = absurd (has-none j h)
      by_last p e (Some x) there h = let s = start-among x.definers j h in OfStart p s.0 (occ, is, e) (x, there, s.1)

      by_form : (form : Form) → occ.form ≡ form → Has (made_of f form) j → Needs f k j
      by_form (Last p) e h = by_last p e (slice_get f.places p) refl h
      by_form (Lit x) e h = absurd (has-none j h)
      by_form (Read p) e h = absurd (has-none j h)
      by_form (Apply op ks) e h = OfPart (Apply op ks) (occ, is, e) h
      by_form (If c x y) e h = OfPart (If c x y) (occ, is, e) h
      by_form (Arrow x y) e h = OfPart (Arrow x y) (occ, is, e) h
      by_form (Pre x) e h = absurd (has-none j h)
      by_form (Result x) e h = OfPart (Result x) (occ, is, e) h
      by_form (Up site) e h = absurd (has-none j h)
      by_form (Fired ks) e h = OfPart (Fired ks) (occ, is, e) h
      by_form Step e h = absurd (has-none j h)

  part-made : (form : Form) (j : ℕ) → Has (read_parts form) j → Has (made_of f form) j
  part-made (Last p) j h = absurd (has-none j h)
  part-made (Lit x) j h = h
  part-made (Read p) j h = h
  part-made (Apply op ks) j h = h
  part-made (If c x y) j h = h
  part-made (Arrow x y) j h = h
  part-made (Pre x) j h = h
  part-made (Result x) j h = h
  part-made (Up site) j h = h
  part-made (Fired ks) j h = h
  part-made Step j h = h

  same-form : (k j : ℕ) (form : Form) (occ : Occ) → slice_get f.occs k ≡ Some occ → HasForm f k form → Has (made_of f form) j → Has (made_of f occ.form) j
  same-form k j form occ is there h = subst (λ x. Has (made_of f x) j) (equal there.0 there.1 there.2) h
    where
      equal : (other : Occ) → slice_get f.occs k ≡ Some other → other.form ≡ form → form ≡ occ.form
      equal other at e = cc

  pub made-needs : (k j : ℕ) (occ : Occ) → slice_get f.occs k ≡ Some occ → Needs f k j → Has (made_of f occ.form) j
  made-needs k j occ is (OfPart form there h) = same-form k j form occ is there (part-made form j h)
  made-needs k j occ is (OfStart p b there has) =
      same-form k j (Last p) occ is there (subst (λ x. Has (starts_in x) j) (sym has.1) (among-starts has.0.definers b j has.2))

  -- the same as a test
  abbrev needs_by : Option Occ → ℕ → Bool
  needs_by None j = false
  needs_by (Some occ) j = among j (made_of f occ.form)

  abbrev needs : ℕ → ℕ → Bool
  needs k j = needs_by (slice_get f.occs k) j

  needs-true : (k j : ℕ) → needs k j ≡ true → Needs f k j
  needs-true k j = by_occ (slice_get f.occs k) refl
    where
      by_occ : (o : Option Occ) → slice_get f.occs k ≡ o → needs_by o j ≡ true → Needs f k j
      by_occ None is t = absurd (cc)
      by_occ (Some occ) is t = needs-made k j occ is (has-among j (made_of f occ.form) t)

  pub has-form : (k j : ℕ) → Needs f k j → (occ : Occ) × (slice_get f.occs k ≡ Some occ)
  has-form k j (OfPart form there h) = (there.0, there.1)
  has-form k j (OfStart p b there has) = (there.0, there.1)

  true-needs : (k j : ℕ) → Needs f k j → needs k j ≡ true
  true-needs k j n = let o = has-form k j n in ap (λ x. needs_by x j) o.1 ∙ among-has j (made_of f o.0.form) (made-needs k j o.0 o.1 n)

  module _ (well : IsWellFormed f) where
    abbrev height : ℕ → ℕ
    height = well.heights.height

    -- `b` is a part of `a`, or stands in an `init` value that a `last` in `a` leads to
    abbrev Reaches : ℕ → ℕ → Type 0
    Reaches a b =
        ((height b < height a) × ((q : ℕ) → ReadsLast f b q → ReadsLast f a q))
        ⊎ ((p : ℕ) × ReadsLast f a p × ((q : ℕ) → ReadsLast f b q → LeadsTo f p q))

    step-reaches : (a b : ℕ) → Needs f a b → Reaches a b
    step-reaches a b (OfPart form there h) =
        let part = part-of-form f b a form there (read-part form b h) in
        inl (well.heights.parts a b part.occ part.is part.part, λ q reads. InPart a b q form there h reads)
    step-reaches a b (OfStart p c there has) = inr (p, Is a p there, λ q reads. AtOnce p q c b has reads)

    onward : (p q r : ℕ) → LeadsTo f p q → LeadsTo f q r → LeadsTo f p r
    onward p q r (AtOnce _ _ b k has reads) rest = Further p q r b k has reads rest
    onward p q r (Further _ x _ b k has reads leads) rest = Further p x r b k has reads (onward x q r leads rest)

    joined : (a c b : ℕ) → Reaches a c → Reaches c b → Reaches a b
    joined a c b (inl x) (inl y) = inl (let s = x.0 in let t = y.0 in omega (arith, s, t), λ q l. x.1 q (y.1 q l))
    joined a c b (inl x) (inr y) = inr (y.0, x.1 y.0 y.1, y.2)
    joined a c b (inr x) (inl y) = inr (x.0, x.1, λ q l. x.2 q (y.1 q l))
    joined a c b (inr x) (inr y) = inr (x.0, x.1, λ q l. onward x.0 y.0 q (x.2 y.0 y.1) (y.2 q l))

    leads-reaches : (m a b : ℕ) → Leads needs m a b → Reaches a b
    leads-reaches zero a b t = step-reaches a b (needs-true a b t)
    leads-reaches (suc m) a b l = joined a l.0 b (step-reaches a l.0 (needs-true a l.0 l.1)) (leads-reaches m l.0 b l.2)

    inside : (a b : ℕ) → Needs f a b → b < length f.occs
    inside a b (OfPart form there h) =
        let s = part-in f well b a (part-of-form f b a form there (read-part form b h)) in slice_get_within f.occs b s.1.occ s.1.is
    inside a b (OfStart p c there has) = let s = start-stands f well p c b has in slice_get_within f.occs b s.occ s.is

    -- numbers that grow from what a value is made of to the value, none greater than the number of occurrences
    pub record IsOrder : Type 0 where
      pub order : ℕ → ℕ
      pub grows : (k j : ℕ) → Needs f k j → order j < order k
      pub most : (k : ℕ) → order k ≤ length f.occs

    -- there are some, or the `init` values of a place lead back to it
    pub order-or-circle : IsOrder ⊎ ((p : ℕ) × LeadsTo f p p)
    order-or-circle =
        ⊎_elim (λ (r : HasRanks (length f.occs) needs). inl (record { order = r.rank; grows = λ k j n. r.ranks.lower k j (true-needs k j n); most = r.most }))
        (λ (c : HasCycle needs). ⊎_elim (λ x. let s = x.0 in absurd (omega (arith, s))) (λ y. inr (y.0, y.2 y.0 y.1)) (leads-reaches c.steps c.at c.at c.leads))
        (ranks_or_cycle needs (length f.occs) (record { within = λ a b t. inside a b (needs-true a b t) }))

    pub value-order : ((p : ℕ) → LeadsTo f p p → ⊥) → IsOrder
    value-order no_circle = ⊎_elim (λ order. order) (λ (c : (p : ℕ) × LeadsTo f p p). absurd (no_circle c.0 c.1)) order-or-circle
