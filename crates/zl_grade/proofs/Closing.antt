-- How all that stands under occurrences is reached, one after the other.
use Rattle.std.proofs.Common.{◌≡◌, ◌≢◌, ◌⊎◌, inl, inr, ℕ, zero, suc, ◌+◌, ◌<◌, ◌≤◌, nat_eq, true, false, List, [], ◌∷◌, ◌++◌, length, get_or, slice_get, Some, None, refl, ap, ◌∙◌, subst, arith}
use Rattle.std.proofs.lemmas.Option.{slice_get_within, slice_get-get_or}
use Rattle.std.proofs.lemmas.Bool.{cases_lt}
use Rattle.std.proofs.lemmas.Bool.Decides.{eqb_tells}
use Rattle.zl_value.specs.Lists.{Has}
use Rattle.zl_meaning.specs.declared.occurrence.Occ.{Occ}
use Rattle.zl_grade.specs.Children.{children}
use Rattle.zl_grade.specs.Closed.{StandsUnder, Reached, Directly, IsClosed, IsClosing}
use Rattle.zl_grade.specs.Reached.{Reach, with_all, IsListed}
use Rattle.zl_grade.proofs.Reaching.{Adds, adds_all}

get-left : (xs ys : List ℕ) (i x : ℕ) → slice_get xs i ≡ Some x → slice_get (xs ++ ys) i ≡ Some x
get-left [] ys i x e = absurd (cc)
get-left (y ∷ xs) ys zero x e = e
get-left (y ∷ xs) ys (suc i) x e = get-left xs ys i x e

-- nothing stands at this position
pub none_there : (order : List ℕ) (n : ℕ) → slice_get order n ≡ None → length order ≤ n
none_there order n e = elim (cases_lt n (length order)) [ inl l ↦ absurd (let there = slice_get-get_or order n 0 l in cc) | inr ge ↦ ge ]

module _ (occs : List Occ) where
  pub closing_none : (r : Reach) → IsListed r → IsClosing occs r r 0
  closing_none r h = record {
    listed = h;
    size = refl;
    kept = λ k e. e;
    sound = λ k e. Reached k e;
    closed = λ i whole k l. absurd (omega arith);
  }

  -- one more in order
  pub closing_more : (old r : Reach) (n whole : ℕ) → slice_get r.order n ≡ Some whole → IsClosing occs old r n → IsClosing occs old (with_all r (children occs whole)) (n + 1)
  closing_more old r n whole at h = record {
    listed = add.listed h.listed;
    size = add.size ∙ h.size;
    kept = λ k e. add.kept k (h.kept k e);
    sound = λ k e. by_case k (add.from k e);
    closed = λ i other k l is has e. by_position i other k (eqb_tells i n) l (old_place i other l is) has e;
  }
    where
      add : Adds r (children occs whole) (with_all r (children occs whole))
      add = adds_all r (children occs whole)

      by_case : (k : ℕ) → (slice_get r.marks k ≡ Some true) ⊎ Has (children occs whole) k → StandsUnder occs old k
      by_case k (inl e) = h.sound k e
      by_case k (inr has) = Directly k whole has (h.sound whole (h.listed.marked n whole at))

      old_place : (i other : ℕ) → i < n + 1 → slice_get (with_all r (children occs whole)).order i ≡ Some other → slice_get r.order i ≡ Some other
      old_place i other l is =
          let there = slice_get-get_or r.order i 0 (omega (arith, slice_get_within r.order n whole at)) in
          let here : slice_get (with_all r (children occs whole)).order i ≡ Some (get_or r.order i 0) = ap (λ xs. slice_get xs i) add.order.1 ∙ get-left r.order add.order.0 i (get_or r.order i 0) there in
          cc

      by_position : (i other k : ℕ) → ((nat_eq i n ≡ true) × (i ≡ n)) ⊎ ((nat_eq i n ≡ false) × (i ≢ n)) → i < n + 1 → slice_get r.order i ≡ Some other → Has (children occs other) k
          → slice_get (with_all r (children occs whole)).marks k ≡ Some false → ⊥
      by_position i other k (inl same) l is has e =
          let here : slice_get r.order n ≡ Some other = subst (λ j. slice_get r.order j ≡ Some other) same.1 is in
          let equal : other ≡ whole = cc in
          add.met k (subst (λ o. Has (children occs o) k) equal has) e
      by_position i other k (inr apart) l is has e = h.closed i other k (omega (arith, apart.1)) is has (add.was k e)

  -- there are no more
  pub closing_end : (old r : Reach) (n : ℕ) → length r.order ≤ n → IsClosing occs old r n → IsClosed occs old r
  closing_end old r n all h = record {
    size = h.size;
    kept = h.kept;
    sound = h.sound;
    closed = λ whole k e has. let there = h.listed.listed whole e in h.closed there.index whole k (omega (arith, slice_get_within r.order there.index whole there.is)) there.is has;
  }
