-- How the chains of calls grow with the occurrences.
use Rattle.std.proofs.Common.{◌≡◌, ◌⊎◌, inl, inr, ℕ, suc, ◌+◌, ◌<◌, true, false, if◌then◌else◌, nat_eq, List, [], ◌∷◌, ◌++◌, length, set, get_or, Option, Some, None, refl, sym, ap, ◌∙◌, ◌≢◌, subst, arith, length-set, length-append, add-one}
use Rattle.std.proofs.lemmas.List.{get_or-set_same, get_or-set_other, get_or_append_left, get_or_push}
use Rattle.std.proofs.lemmas.Bool.Decides.{eqb_tells}
use Rattle.std.proofs.lemmas.Option.{slice_get_read, slice_get-get_or}
use Rattle.std.specs.Option.{option_and_then}
use Rattle.zl_meaning.specs.Uses.{parts}
use Rattle.zl_meaning.specs.declared.occurrence.Occ.{Occ}
use Rattle.zl_grade.specs.Children.{call_at, is_call, members, parts_at, children, IsLast, HasChains}

module _ (occs : List Occ) where
  -- the call of an occurrence as the code reads it
  pub call_read : (k : ℕ) (occ : Occ) (call : Option ℕ) → k < length occs → occ ≡ get_or occs k occ → occ.call ≡ call → call_at occs k ≡ call
  call_read k occ call low is e = ap (option_and_then (λ (x : Occ). x.call)) (slice_get_read occs (length occs) k occ refl low is) ∙ e

  -- one occurrence more, without this call
  last_other : (call n : ℕ) (at : Option ℕ) → is_call call (call_at occs n) ≡ false → IsLast occs call n at → IsLast occs call (suc n) at
  last_other call n at e h = record {
    members = ap (λ b. if b then n ∷ members occs call n else members occs call n) e ∙ h.members;
    within = λ k is. omega (arith, h.within k is);
    called = h.called;
  }

  -- one with it
  last_here : (call n : ℕ) → call_at occs n ≡ Some call → IsLast occs call (suc n) (Some n)
  last_here call n e = record {
    members = ap (λ b. if b then n ∷ members occs call n else members occs call n) (ap (is_call call) e ∙ same);
    within = λ k is. let here : n ≡ k = cc in omega arith;
    called = λ k is. let here : n ≡ k = cc in subst (λ j. call_at occs j ≡ Some call) here e;
  }
    where
      same : nat_eq call call ≡ true
      same = elim (eqb_tells call call) [ inl h ↦ h.0 | inr h ↦ absurd (h.1 refl) ]

  chains_more : (n : ℕ) (last more before : List (Option ℕ)) (x : Option ℕ) → HasChains occs n last before → length more ≡ length occs
      → ((call : ℕ) → call < length occs → IsLast occs call (suc n) (get_or more call None)) → ((call : ℕ) → call_at occs n ≡ Some call → IsLast occs call n x)
      → HasChains occs (n + 1) more (before ++ x ∷ [])
  chains_more n last more before x h size calls one = record {
    lasts = size;
    befores = omega (arith, h.befores, length-append before (x ∷ []));
    of_calls = λ call l. subst (λ m. IsLast occs call m (get_or more call None)) (sym (add-one n)) (calls call l);
    of_members = λ k call l e. by_number k call e (eqb_tells k n) l;
  }
    where
      by_number : (k call : ℕ) → call_at occs k ≡ Some call → ((nat_eq k n ≡ true) × (k ≡ n)) ⊎ ((nat_eq k n ≡ false) × (k ≢ n)) → k < n + 1
          → IsLast occs call k (get_or (before ++ x ∷ []) k None)
      by_number k call e (inl same) l =
          subst (λ m. IsLast occs call m (get_or (before ++ x ∷ []) m None)) (sym same.1)
          (subst (IsLast occs call n) (sym (get_or_push before x None n h.befores)) (one call (subst (λ m. call_at occs m ≡ Some call) same.1 e)))
      by_number k call e (inr apart) l =
          let low : k < length before = omega (arith, h.befores, apart.1) in
          subst (IsLast occs call k) (sym (get_or_append_left before (x ∷ []) None k low)) (h.of_members k call (omega (arith, apart.1)) e)

  -- one without a call
  pub chains_none : (n : ℕ) (last before : List (Option ℕ)) → call_at occs n ≡ None → HasChains occs n last before → HasChains occs (n + 1) last (before ++ None ∷ [])
  chains_none n last before e h =
      chains_more n last last before None h h.lasts (λ call l. last_other call n (get_or last call None) (ap (is_call call) e) (h.of_calls call l))
      (λ call is. absurd (cc))

  -- one with a call
  pub chains_some : (n call : ℕ) (last before : List (Option ℕ)) → call_at occs n ≡ Some call → call < length occs → HasChains occs n last before
      → HasChains occs (n + 1) (set last call (Some n)) (before ++ get_or last call None ∷ [])
  chains_some n call last before e low h =
      chains_more n last (set last call (Some n)) before (get_or last call None) h (length-set last call (Some n) ∙ h.lasts) (λ other l. by_call other l (eqb_tells call other))
      (λ other is. let same : call ≡ other = cc in subst (λ m. IsLast occs m n (get_or last call None)) same (h.of_calls call low))
    where
      by_call : (other : ℕ) → other < length occs → ((nat_eq call other ≡ true) × (call ≡ other)) ⊎ ((nat_eq call other ≡ false) × (call ≢ other)) → IsLast occs other (suc n) (get_or (set last call (Some n)) other None)
      by_call other l (inl same) =
          subst (λ m. IsLast occs m (suc n) (get_or (set last call (Some n)) m None)) same.1
          (subst (IsLast occs call (suc n)) (sym (get_or-set_same last call (Some n) None (omega (arith, h.lasts)))) (last_here call n e))
      by_call other l (inr apart) =
          subst (IsLast occs other (suc n)) (sym (get_or-set_other last call other (Some n) None (λ e. apart.1 (sym e)))) (last_other other n (get_or last other None) (ap (is_call other) e ∙ apart.0) (h.of_calls other l))

  -- what stands directly under an occurrence as the code reads it
  pub children_read : (k : ℕ) (other : Occ) → k < length occs → parts (get_or occs k other).form ++ members occs k (length occs) ≡ children occs k
  children_read k other low = ap (λ o. parts_at o ++ members occs k (length occs)) (sym (slice_get-get_or occs k other low))
