-- The links of the entries of a list, one by one.
use Rattle.std.proofs.Common.{◌≡◌, ◌⊎◌, inl, inr, ℕ, zero, suc, ◌+◌, List, [], ◌∷◌, ◌++◌, length, slice_get, Some, refl, sym, subst, arith}
use Rattle.zl_value.specs.Lists.{Has}
use Rattle.zl_meaning.proofs.Members.{has-left, has-right, has-none, has-append_case}
use Rattle.zl_meaning.specs.declared.place.Definer.{Definer}
use Rattle.zl_meaning.specs.declared.place.PlaceInfo.{PlaceInfo}
use Rattle.zl_graph.specs.declared.graph.Link.{Link}
use Rattle.zl_causal.specs.FormLinks.{numbered, own_links, definer_links, definers_links, places_links}
use Rattle.zl_causal.specs.Edges.{all_definers}
use Rattle.zl_graph.proofs.Positions.{get-left}

pub numbered-has : {X : Type 0} (links : ℕ → X → List Link) (k i n : ℕ) (xs : List X) (x : X) (l : Link) → n ≡ k + i → slice_get xs i ≡ Some x → Has (links n x) l → Has (numbered links k xs) l
numbered-has links k i n [] x l e at has = absurd (cc)
numbered-has links k zero n (y ∷ xs) x l e at has =
    let same : x ≡ y = cc in
    let here : n ≡ k = omega (arith, e) in
    has-left (links k y) (numbered links (k + 1) xs) l (subst (λ m. Has (links m y) l) here (subst (λ z. Has (links n z) l) same has))
numbered-has links k (suc i) n (y ∷ xs) x l e at has =
    has-right (links k y) (numbered links (k + 1) xs) l (numbered-has links (k + 1) i n xs x l (omega (arith, e)) at has)

-- an entry of the list has this link
pub record FromEntry {X : Type 0} (links : ℕ → X → List Link) (k : ℕ) (xs : List X) (l : Link) : Type 0 where
  pub index : ℕ
  pub number : ℕ
  pub entry : X
  pub at : slice_get xs index ≡ Some entry
  pub is : number ≡ k + index
  pub has : Has (links number entry) l

pub numbered-from : {X : Type 0} (links : ℕ → X → List Link) (k : ℕ) (xs : List X) (l : Link) → Has (numbered links k xs) l → FromEntry links k xs l
numbered-from links k [] l h = absurd (has-none l h)
numbered-from {X = X} links k (x ∷ xs) l h = by_case (λ g. numbered-from links (k + 1) xs l g) (has-append_case (links k x) (numbered links (k + 1) xs) l h)
  where
    later : FromEntry links (k + 1) xs l → FromEntry links k (x ∷ xs) l
    later g = record { index = suc g.index; number = g.number; entry = g.entry; at = g.at; is = omega (arith, g.is); has = g.has }

    by_case : (Has (numbered links (k + 1) xs) l → FromEntry links (k + 1) xs l) → Has (links k x) l ⊎ Has (numbered links (k + 1) xs) l → FromEntry links k (x ∷ xs) l
    by_case rest (inl g) = record { index = 0; number = k; entry = x; at = refl; is = omega arith; has = g }
    by_case rest (inr g) = later (rest g)

-- ---- places, whose definers are numbered through

get-right : {X : Type 0} (xs ys : List X) (i n : ℕ) (x : X) → n ≡ length xs + i → slice_get ys i ≡ Some x → slice_get (xs ++ ys) n ≡ Some x
get-right [] ys i n x e at = let same : n ≡ i = omega (arith, e) in subst (λ m. slice_get ys m ≡ Some x) (sym same) at
get-right (z ∷ xs) ys i zero x e at = absurd (omega (arith, e))
get-right (z ∷ xs) ys i (suc n) x e at = get-right xs ys i n x (omega (arith, e)) at

-- a definer of all, with its place and its number
pub record OneOfAll (p d : ℕ) (places : List PlaceInfo) (m : ℕ) (definer : Definer) : Type 0 where
  pub index : ℕ
  pub place : PlaceInfo
  pub at : slice_get places index ≡ Some place
  pub among : Has place.definers definer
  pub number : ℕ
  pub is : number ≡ p + index
  pub has : (l : Link) → Has (definer_links number (d + m) definer) l → Has (places_links p d places) l

later_one : (p d : ℕ) (place : PlaceInfo) (places : List PlaceInfo) (m n : ℕ) (definer : Definer) → n ≡ length place.definers + m
    → OneOfAll (p + 1) (d + length place.definers) places m definer → OneOfAll p d (place ∷ places) n definer
later_one p d place places m n definer e g = record {
  index = suc g.index;
  place = g.place;
  at = g.at;
  among = g.among;
  number = g.number;
  is = omega (arith, g.is);
  has = λ l h. has-right (own_links p place ++ definers_links p d place.definers) (places_links (p + 1) (d + length place.definers) places) l
      (g.has l (subst (λ (k : ℕ). Has (definer_links g.number k definer) l) (omega (arith, e)) h));
}

first_one : (p d : ℕ) (place : PlaceInfo) (places : List PlaceInfo) (j : ℕ) (definer : Definer) → slice_get place.definers j ≡ Some definer → OneOfAll p d (place ∷ places) j definer
first_one p d place places j definer at = record {
  index = 0;
  place = place;
  at = refl;
  among = record { index = j; is = at };
  number = p;
  is = omega arith;
  has = λ l h. has-left (own_links p place ++ definers_links p d place.definers) (places_links (p + 1) (d + length place.definers) places) l
      (has-right (own_links p place) (definers_links p d place.definers) l (numbered-has (definer_links p) d j (d + j) place.definers definer l refl at h));
}

append-get : {X : Type 0} (xs ys : List X) (n : ℕ) (x : X) → slice_get (xs ++ ys) n ≡ Some x → (slice_get xs n ≡ Some x) ⊎ ((i : ℕ) × (n ≡ length xs + i) × (slice_get ys i ≡ Some x))
append-get [] ys n x e = inr (n, omega arith, e)
append-get (z ∷ xs) ys zero x e = inl e
append-get (z ∷ xs) ys (suc n) x e = later (append-get xs ys n x e)
  where
    later : (slice_get xs n ≡ Some x) ⊎ ((i : ℕ) × (n ≡ length xs + i) × (slice_get ys i ≡ Some x)) → (slice_get xs n ≡ Some x) ⊎ ((i : ℕ) × (suc n ≡ suc (length xs) + i) × (slice_get ys i ≡ Some x))
    later (inl h) = inl h
    later (inr h) = inr (h.0, omega (arith, h.1), h.2)

-- each of all definers, by its number
pub one_of_all : (p d : ℕ) (places : List PlaceInfo) (n : ℕ) (definer : Definer) → slice_get (all_definers places) n ≡ Some definer → OneOfAll p d places n definer
one_of_all p d [] n definer e = absurd (cc)
one_of_all p d (place ∷ places) n definer e = by_case (λ i g. one_of_all (p + 1) (d + length place.definers) places i definer g) (append-get place.definers (all_definers places) n definer e)
  where
    by_case : ((i : ℕ) → slice_get (all_definers places) i ≡ Some definer → OneOfAll (p + 1) (d + length place.definers) places i definer)
        → (slice_get place.definers n ≡ Some definer) ⊎ ((i : ℕ) × (n ≡ length place.definers + i) × (slice_get (all_definers places) i ≡ Some definer)) → OneOfAll p d (place ∷ places) n definer
    by_case rest (inl h) = first_one p d place places n definer h
    by_case rest (inr h) = later_one p d place places h.0 n definer h.1 (rest h.0 h.2)

-- a definer of a place, by its place
pub record OneOfPlace (p d : ℕ) (places : List PlaceInfo) (index : ℕ) (definer : Definer) : Type 0 where
  pub number : ℕ
  pub m : ℕ
  pub is : number ≡ p + index
  pub has : (l : Link) → Has (definer_links number m definer) l → Has (places_links p d places) l

pub one_of_place : (p d : ℕ) (places : List PlaceInfo) (i : ℕ) (place : PlaceInfo) (definer : Definer) → slice_get places i ≡ Some place → Has place.definers definer → OneOfPlace p d places i definer
unfolding first_one
one_of_place p d [] i place definer at has = absurd (cc)
one_of_place p d (first ∷ places) zero place definer at has =
    let same : place ≡ first = cc in
    let g = first_one p d first places has.index definer (subst (λ (x : PlaceInfo). slice_get x.definers has.index ≡ Some definer) same has.is) in
    record { number = p; m = d + has.index; is = omega arith; has = g.has }
one_of_place p d (first ∷ places) (suc i) place definer at has =
    let g = one_of_place (p + 1) (d + length first.definers) places i place definer at has in
    record { number = g.number; m = g.m; is = omega (arith, g.is); has = λ l h. has-right (own_links p first ++ definers_links p d first.definers) (places_links (p + 1) (d + length first.definers) places) l (g.has l h) }

pub own-has : (p d : ℕ) (places : List PlaceInfo) (i n : ℕ) (place : PlaceInfo) (l : Link) → n ≡ p + i → slice_get places i ≡ Some place → Has (own_links n place) l → Has (places_links p d places) l
own-has p d [] i n place l e at has = absurd (cc)
own-has p d (first ∷ places) zero n place l e at has =
    let same : place ≡ first = cc in
    let here : n ≡ p = omega (arith, e) in
    has-left (own_links p first ++ definers_links p d first.definers) (places_links (p + 1) (d + length first.definers) places) l
    (has-left (own_links p first) (definers_links p d first.definers) l (subst (λ m. Has (own_links m first) l) here (subst (λ (x : PlaceInfo). Has (own_links n x) l) same has)))
own-has p d (first ∷ places) (suc i) n place l e at has =
    has-right (own_links p first ++ definers_links p d first.definers) (places_links (p + 1) (d + length first.definers) places) l (own-has (p + 1) (d + length first.definers) places i n place l (omega (arith, e)) at has)

-- a place has this link, or a definer of it, which has number `m` of all
pub data FromPlace (p d : ℕ) (places : List PlaceInfo) (l : Link) : Type 0 where
  Own : (i n : ℕ) (place : PlaceInfo) → slice_get places i ≡ Some place → n ≡ p + i → Has (own_links n place) l → FromPlace p d places l
  OfDefiner : (i n m k : ℕ) (place : PlaceInfo) (definer : Definer) → slice_get places i ≡ Some place → n ≡ p + i → Has place.definers definer
      → slice_get (all_definers places) m ≡ Some definer → k ≡ d + m → Has (definer_links n k definer) l → FromPlace p d places l

pub places-from : (p d : ℕ) (places : List PlaceInfo) (l : Link) → Has (places_links p d places) l → FromPlace p d places l
places-from p d [] l h = absurd (has-none l h)
places-from p d (first ∷ places) l h =
    by_case (λ g. places-from (p + 1) (d + length first.definers) places l g)
    (has-append_case (own_links p first ++ definers_links p d first.definers) (places_links (p + 1) (d + length first.definers) places) l h)
  where
    later : FromPlace (p + 1) (d + length first.definers) places l → FromPlace p d (first ∷ places) l
    later (Own i n place at is has) = Own (suc i) n place at (omega (arith, is)) has
    later (OfDefiner i n m k place definer at is among all number has) =
        OfDefiner (suc i) n (length first.definers + m) k place definer at (omega (arith, is)) among (get-right first.definers (all_definers places) m (length first.definers + m) definer refl all) (omega (arith, number)) has

    here : Has (own_links p first) l ⊎ Has (definers_links p d first.definers) l → FromPlace p d (first ∷ places) l
    here (inl g) = Own 0 p first refl (omega arith) g
    here (inr g) =
        let e = numbered-from (definer_links p) d first.definers l g in
        OfDefiner 0 p e.index e.number first e.entry refl (omega arith) (record { index = e.index; is = e.at }) (get-left first.definers (all_definers places) e.index e.entry e.at) e.is e.has

    by_case : (Has (places_links (p + 1) (d + length first.definers) places) l → FromPlace (p + 1) (d + length first.definers) places l)
        → Has (own_links p first ++ definers_links p d first.definers) l ⊎ Has (places_links (p + 1) (d + length first.definers) places) l → FromPlace p d (first ∷ places) l
    by_case rest (inl g) = here (has-append_case (own_links p first) (definers_links p d first.definers) l g)
    by_case rest (inr g) = later (rest g)
