-- Ways along links, and what follows at once from what a walk keeps.
use Rattle.std.proofs.Common.{Result, Ok, Err, OnOk, ◌≡◌, ◌⊎◌, inl, inr, ℕ, ◌+◌, ◌<◌, ◌≤◌, List, length, take, slice_get, Some, sym, ap, ◌∙◌, subst, arith}
use Rattle.std.proofs.lemmas.Option.{slice_get_within}
use Rattle.std.proofs.lemmas.Bool.{cases_lt}
use Rattle.zl_graph.specs.declared.graph.Link.{Link}
use Rattle.zl_graph.specs.declared.walk.Part.{Part}
use Rattle.zl_graph.specs.Graph.{IsLinked, Reaches, Here, Along}
use Rattle.zl_graph.specs.Walking.{Stage, IsWalk}
use Rattle.zl_graph.proofs.Positions.{get-take_from}

pub Reaches-trans : (links : List Link) (a b c : ℕ) → Reaches links a b → Reaches links b c → Reaches links a c
Reaches-trans links a b c (Here d) way = way
Reaches-trans links a b c (Along d e f link rest) way = Along a e c link (Reaches-trans links e b c rest way)

-- a way, and one link more
pub Reaches-more : (links : List Link) (a b c : ℕ) → Reaches links a b → IsLinked links b c → Reaches links a c
Reaches-more links a b c way link = Reaches-trans links a b c way (Along b c c link (Here c))

-- the last of the parts is above each
pub below_last : (links : List Link) (s : Stage) (n : ℕ) (q : Part) → IsWalk links s → length s.parts ≡ n + 1 → slice_get s.parts n ≡ Some q
    → (i : ℕ) (p : Part) → slice_get s.parts i ≡ Some p → (p.first ≤ q.first) × (p.waiting ≤ q.waiting)
below_last links s n q w size last i p e = by_place (cases_lt i n)
  where
    by_place : (i < n) ⊎ (n ≤ i) → (p.first ≤ q.first) × (p.waiting ≤ q.waiting)
    by_place (inl less) = let h = w.order i n p q e last less in (omega (arith, h.0), h.1)
    by_place (inr more) =
        let within = slice_get_within s.parts i p e in
        let here : i ≡ n = omega (arith, within) in
        let same : Some p ≡ Some q = sym e ∙ ap (λ j. slice_get s.parts j) here ∙ last in
        let equal : p ≡ q = cc in
        subst (λ (r : Part). (p.first ≤ r.first) × (p.waiting ≤ r.waiting)) equal (omega arith, omega arith)

-- what holds of all parts but the last, and of that, holds of all
pub each_part : (s : Stage) (n : ℕ) (q : Part) (P : Part → Type 0) → length s.parts ≡ n + 1 → slice_get s.parts n ≡ Some q
    → ((i : ℕ) (p : Part) → slice_get (take n s.parts) i ≡ Some p → P p) → P q → (i : ℕ) (p : Part) → slice_get s.parts i ≡ Some p → P p
each_part s n q P size last before here i p e = by_place (cases_lt i n)
  where
    by_place : (i < n) ⊎ (n ≤ i) → P p
    by_place (inl less) = before i p (get-take_from n s.parts i p less e)
    by_place (inr more) =
        let within = slice_get_within s.parts i p e in
        let same : Some p ≡ Some q = sym e ∙ ap (λ j. slice_get s.parts j) (let there : i ≡ n = omega (arith, within) in there) ∙ last in
        let equal : q ≡ p = cc in
        subst P equal here

-- what follows in the case of an `Ok`
pub on_ok : {T E : Type 0} (r : Result T E) (P Q : Type 0) → (P → Q) → OnOk r P → OnOk r Q
on_ok (Ok x) P Q f h = f h
on_ok (Err e) P Q f h = h
