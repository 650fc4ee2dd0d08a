-- Chains of entries, which are marked one entry at a time.
use Rattle.std.proofs.Common.{◌≡◌, ◌⊎◌, inl, inr, ℕ, zero, suc, ◌+◌, ◌<◌, ◌≤◌, List, [], ◌∷◌, ◌++◌, length, set, slice_get, get_or, Option, Some, None, refl, sym, ap, subst, ◌∙◌, arith, length-append}
use Rattle.std.proofs.lemmas.Bool.{cases_lt}
use Rattle.std.proofs.lemmas.List.{get_or_append_left}
use Rattle.std.proofs.Math.Seq.{get_or-append_seam}
use Rattle.zl_normal.specs.Roots.{root_by, root_of, HasEnd, Past, Found, IsEnded, AreChained}
use Rattle.zl_normal.proofs.Claims.Claiming.{set-case, set-other, set-own, set-size}

-- how many entries are in no chain yet
abbrev pub open_count : List (Option ℕ) → ℕ
open_count [] = 0
open_count (None ∷ marks) = suc (open_count marks)
open_count (Some c ∷ marks) = open_count marks

pub fewer_open : (marks : List (Option ℕ)) (at c : ℕ) → slice_get marks at ≡ Some None → open_count (set marks at (Some c)) < open_count marks
fewer_open [] at c is = absurd (cc)
fewer_open (None ∷ marks) zero c is = omega arith
fewer_open (Some d ∷ marks) zero c is = absurd (cc)
fewer_open (None ∷ marks) (suc at) c is = omega (arith, fewer_open marks at c is)
fewer_open (Some d ∷ marks) (suc at) c is = fewer_open marks at c is

set-none : {X : Type 0} (xs : List X) (i j : ℕ) (y : X) → slice_get xs j ≡ None → slice_get (set xs i y) j ≡ None
set-none [] i j y h = h
set-none (z ∷ xs) zero zero y h = absurd (cc)
set-none (z ∷ xs) zero (suc j) y h = h
set-none (z ∷ xs) (suc i) zero y h = h
set-none (z ∷ xs) (suc i) (suc j) y h = set-none xs i j y h

-- an entry of the chain that is being marked, which has come to `at`
pub record IsAhead (links marks : List (Option ℕ)) (ends : List ℕ) (at i : ℕ) : Type 0 where
  pub goes : slice_get links i ≡ Some None → ⊥
  pub next : (t : ℕ) → slice_get links i ≡ Some (Some t) → (slice_get marks t ≡ Some (Some (length ends))) ⊎ (t ≡ at)

abbrev pub IsMarked : List (Option ℕ) → ℕ → Type 0
IsMarked marks i = (c : ℕ) × (slice_get marks i ≡ Some (Some c))

pub record IsChaining (links marks : List (Option ℕ)) (ends : List ℕ) (at : ℕ) : Type 0 where
  pub size : length marks ≡ length links
  pub each : (i c : ℕ) → slice_get marks i ≡ Some (Some c) → ((c < length ends) × IsEnded links marks ends i (get_or ends c 0)) ⊎ ((c ≡ length ends) × IsAhead links marks ends at i)
  pub done : (i : ℕ) → i < length ends → IsMarked marks i
  pub start : (at ≡ length ends) ⊎ IsMarked marks (length ends)

pub chain_starts : (links marks : List (Option ℕ)) (ends : List ℕ) → AreChained links marks ends → IsChaining links marks ends (length ends)
chain_starts links marks ends chained = record { size = chained.size; each = λ i c is. inl (chained.each i c is); done = chained.done; start = inl refl }

more_length : (ends : List ℕ) (x : ℕ) → length (ends ++ x ∷ []) ≡ length ends + 1
more_length ends x = length-append ends (x ∷ [])

up_to : (i s : ℕ) → i < s + 1 → (i < s) ⊎ (i ≡ s)
up_to i s l = by_case (cases_lt i s)
  where
    by_case : (i < s) ⊎ (s ≤ i) → (i < s) ⊎ (i ≡ s)
    by_case (inl g) = inl g
    by_case (inr g) = inr (omega arith)

more_end : (marks : List (Option ℕ)) (ends : List ℕ) (x t e : ℕ) → HasEnd marks ends t e → HasEnd marks (ends ++ x ∷ []) t e
more_end marks ends x t e (Past none same) = Past none same
more_end marks ends x t e (Found c is l same) = Found c is (omega (arith, more_length ends x, l)) (get_or_append_left ends (x ∷ []) 0 c l ∙ same)

more_ended : (links marks : List (Option ℕ)) (ends : List ℕ) (x i c : ℕ) → c < length ends → IsEnded links marks ends i (get_or ends c 0) → (c < length (ends ++ x ∷ [])) × IsEnded links marks (ends ++ x ∷ []) i (get_or (ends ++ x ∷ []) c 0)
more_ended links marks ends x i c l ended =
    (omega (arith, more_length ends x, l), subst (λ e. IsEnded links marks (ends ++ x ∷ []) i e) (sym (get_or_append_left ends (x ∷ []) 0 c l)) more)
  where
    more : IsEnded links marks (ends ++ x ∷ []) i (get_or ends c 0)
    more = record { own = ended.own; next = λ t is. more_end marks ends x t (get_or ends c 0) (ended.next t is) }

module _ (links marks : List (Option ℕ)) (ends : List ℕ) (at : ℕ) (chaining : IsChaining links marks ends at) where
  abbrev s : ℕ
  s = length ends

  abbrev ended : List ℕ
  ended = ends ++ at ∷ []

  abbrev joined : List ℕ
  joined = ends ++ root_of marks ends at ∷ []

  this_less : (x : ℕ) → s < length (ends ++ x ∷ [])
  this_less x = omega (arith, more_length ends x)

  module _ (unmarked : slice_get marks at ≡ Some None) where
    abbrev after : List (Option ℕ)
    after = set marks at (Some s)

    own : slice_get after at ≡ Some (Some s)
    own = set-own marks at (Some s) None unmarked

    differ : (i c : ℕ) → slice_get marks i ≡ Some (Some c) → at ≡ i → ⊥
    differ i c is e = let o : Some None ≡ Some (Some c) = sym unmarked ∙ ap (λ k. slice_get marks k) e ∙ is in cc

    stays : (i c : ℕ) → slice_get marks i ≡ Some (Some c) → slice_get after i ≡ Some (Some c)
    stays i c is = set-other marks at i (Some s) (Some c) is (differ i c is)

    marked_end : (t e : ℕ) → HasEnd marks ends t e → HasEnd after ends t e
    marked_end t e (Past none same) = Past (set-none marks at t (Some s) none) same
    marked_end t e (Found c is l same) = Found c (stays t c is) l same

    marked_ended : (i e : ℕ) → IsEnded links marks ends i e → IsEnded links after ends i e
    marked_ended i e ended = record { own = ended.own; next = λ t is. marked_end t e (ended.next t is) }

    reached : (t : ℕ) → (slice_get marks t ≡ Some (Some s)) ⊎ (t ≡ at) → slice_get after t ≡ Some (Some s)
    reached t (inl m) = stays t s m
    reached t (inr e) = subst (λ k. slice_get after k ≡ Some (Some s)) (sym e) own

    first_marked : IsMarked after s
    first_marked = by_start chaining.start
      where
        by_start : (at ≡ s) ⊎ IsMarked marks s → IsMarked after s
        by_start (inl e) = (s, subst (λ k. slice_get after k ≡ Some (Some s)) e own)
        by_start (inr m) = (m.0, stays s m.0 m.1)

    -- one more entry is in the chain
    pub chain_goes : (t : ℕ) → slice_get links at ≡ Some (Some t) → IsChaining links after ends t
    chain_goes t link =
        record { size = set-size marks at (Some s) ∙ chaining.size; each = each; done = λ i l. let d = chaining.done i l in (d.0, stays i d.0 d.1); start = inr first_marked }
      where
        by_old : (i c : ℕ) → ((c < s) × IsEnded links marks ends i (get_or ends c 0)) ⊎ ((c ≡ s) × IsAhead links marks ends at i) → ((c < s) × IsEnded links after ends i (get_or ends c 0)) ⊎ ((c ≡ s) × IsAhead links after ends t i)
        by_old i c (inl g) = inl (g.0, marked_ended i (get_or ends c 0) g.1)
        by_old i c (inr g) = inr (g.0, record { goes = g.1.goes; next = λ u is. inl (reached u (g.1.next u is)) })

        same_number : (c : ℕ) → Some s ≡ Some c → c ≡ s
        same_number c e = cc

        same_next : (u : ℕ) → Some (Some t) ≡ Some (Some u) → u ≡ t
        same_next u e = cc

        nowhere : Some (Some t) ≡ Some None → ⊥
        nowhere e = cc

        by_new : (i c : ℕ) → at ≡ i → c ≡ s → ((c < s) × IsEnded links after ends i (get_or ends c 0)) ⊎ ((c ≡ s) × IsAhead links after ends t i)
        by_new i c e g =
            let here : slice_get links i ≡ Some (Some t) = ap (λ k. slice_get links k) (sym e) ∙ link in
            inr (g, record { goes = λ none. nowhere (sym here ∙ none); next = λ u is. inr (same_next u (sym here ∙ is)) })

        each : (i c : ℕ) → slice_get after i ≡ Some (Some c) → ((c < s) × IsEnded links after ends i (get_or ends c 0)) ⊎ ((c ≡ s) × IsAhead links after ends t i)
        each i c is = by_case (set-case marks at i (Some s) (Some c) is)
          where
            by_case : (slice_get marks i ≡ Some (Some c)) ⊎ ((at ≡ i) × (Some s ≡ Some c)) → ((c < s) × IsEnded links after ends i (get_or ends c 0)) ⊎ ((c ≡ s) × IsAhead links after ends t i)
            by_case (inl g) = by_old i c (chaining.each i c g)
            by_case (inr g) = by_new i c g.0 (same_number c g.1)

    -- the chain ends with an entry that leads nowhere
    pub chain_ends : slice_get links at ≡ Some None → AreChained links after (ends ++ at ∷ [])
    chain_ends link = record { size = set-size marks at (Some s) ∙ chaining.size; each = each; done = done }
      where
        by_old : (i c : ℕ) → ((c < s) × IsEnded links marks ends i (get_or ends c 0)) ⊎ ((c ≡ s) × IsAhead links marks ends at i) → (c < length ended) × IsEnded links after ended i (get_or ended c 0)
        by_old i c (inl g) = more_ended links after ends at i c g.0 (marked_ended i (get_or ends c 0) g.1)
        by_old i c (inr g) =
            (omega (arith, g.0, this_less at), record { own = λ none. absurd (g.1.goes none); next = λ u is. Found s (reached u (g.1.next u is)) (this_less at) (ap (λ k. get_or ended k 0) (sym g.0)) })

        same_number : (c : ℕ) → Some s ≡ Some c → c ≡ s
        same_number c e = cc

        nowhere : (u : ℕ) → None ≡ Some u → ⊥
        nowhere u e = cc

        by_new : (i c : ℕ) → at ≡ i → c ≡ s → (c < length ended) × IsEnded links after ended i (get_or ended c 0)
        by_new i c e g =
            let here : slice_get links i ≡ Some None = ap (λ k. slice_get links k) (sym e) ∙ link in
            (omega (arith, g, this_less at), record { own = λ none. ap (λ k. get_or ended k 0) g ∙ get_or-append_seam ends at [] 0 ∙ e; next = λ u is. let bad : Some None ≡ Some (Some u) = sym here ∙ is in absurd (cc) })

        each : (i c : ℕ) → slice_get after i ≡ Some (Some c) → (c < length ended) × IsEnded links after ended i (get_or ended c 0)
        each i c is = by_case (set-case marks at i (Some s) (Some c) is)
          where
            by_case : (slice_get marks i ≡ Some (Some c)) ⊎ ((at ≡ i) × (Some s ≡ Some c)) → (c < length ended) × IsEnded links after ended i (get_or ended c 0)
            by_case (inl g) = by_old i c (chaining.each i c g)
            by_case (inr g) = by_new i c g.0 (same_number c g.1)

        done : (i : ℕ) → i < length ended → IsMarked after i
        done i l = by_case (up_to i s (omega (arith, l, more_length ends at)))
          where
            by_case : (i < s) ⊎ (i ≡ s) → IsMarked after i
            by_case (inl g) = let d = chaining.done i g in (d.0, stays i d.0 d.1)
            by_case (inr g) = subst (IsMarked after) (sym g) first_marked

  -- the chain comes to one that has an end
  pub chain_joins : (slice_get marks at ≡ Some None → ⊥) → s < length links → AreChained links marks (ends ++ root_of marks ends at ∷ [])
  chain_joins found within = record { size = chaining.size; each = λ i c is. by_old i c (chaining.each i c is); done = done }
    where
      seam : get_or joined s 0 ≡ root_of marks ends at
      seam = get_or-append_seam ends (root_of marks ends at) [] 0

      less : s < length joined
      less = this_less (root_of marks ends at)

      at_end : (o : Option (Option ℕ)) → slice_get marks at ≡ o → HasEnd marks joined at (get_or joined s 0)
      at_end None e = Past e (sym (seam ∙ ap (root_by ends at) e))
      at_end (Some None) e = absurd (found e)
      at_end (Some (Some d)) e = by_chain (chaining.each at d e)
        where
          by_chain : ((d < s) × IsEnded links marks ends at (get_or ends d 0)) ⊎ ((d ≡ s) × IsAhead links marks ends at at) → HasEnd marks joined at (get_or joined s 0)
          by_chain (inl g) = Found d e (omega (arith, g.0, less)) (get_or_append_left ends (root_of marks ends at ∷ []) 0 d g.0 ∙ sym (seam ∙ ap (root_by ends at) e))
          by_chain (inr g) = Found d e (omega (arith, g.0, less)) (ap (λ k. get_or joined k 0) g.0)

      next_end : (c : ℕ) → c ≡ s → (u : ℕ) → (slice_get marks u ≡ Some (Some s)) ⊎ (u ≡ at) → HasEnd marks joined u (get_or joined c 0)
      next_end c g u (inl m) = Found s m less (ap (λ k. get_or joined k 0) (sym g))
      next_end c g u (inr e) = subst (λ k. HasEnd marks joined k (get_or joined c 0)) (sym e) (subst (λ k. HasEnd marks joined at (get_or joined k 0)) (sym g) (at_end (slice_get marks at) refl))

      by_old : (i c : ℕ) → ((c < s) × IsEnded links marks ends i (get_or ends c 0)) ⊎ ((c ≡ s) × IsAhead links marks ends at i) → (c < length joined) × IsEnded links marks joined i (get_or joined c 0)
      by_old i c (inl g) = more_ended links marks ends (root_of marks ends at) i c g.0 g.1
      by_old i c (inr g) = (omega (arith, g.0, less), record { own = λ none. absurd (g.1.goes none); next = λ u is. next_end c g.0 u (g.1.next u is) })

      there : (o : Option (Option ℕ)) → slice_get marks at ≡ o → at < length marks → IsMarked marks at
      there None e l = absurd (not_past marks at l e)
        where
          not_past : (xs : List (Option ℕ)) (i : ℕ) → i < length xs → slice_get xs i ≡ None → ⊥
          not_past [] i l e = omega arith
          not_past (x ∷ xs) zero l e = cc
          not_past (x ∷ xs) (suc i) l e = not_past xs i (omega arith) e
      there (Some None) e l = absurd (found e)
      there (Some (Some c)) e l = (c, e)

      first_marked : (at ≡ s) ⊎ IsMarked marks s → IsMarked marks s
      first_marked (inl e) = subst (IsMarked marks) e (there (slice_get marks at) refl (omega (arith, e, within, chaining.size)))
      first_marked (inr m) = m

      done : (i : ℕ) → i < length joined → IsMarked marks i
      done i l = by_case (up_to i s (omega (arith, l, more_length ends (root_of marks ends at))))
        where
          by_case : (i < s) ⊎ (i ≡ s) → IsMarked marks i
          by_case (inl g) = chaining.done i g
          by_case (inr g) = subst (IsMarked marks) (sym g) (first_marked chaining.start)
