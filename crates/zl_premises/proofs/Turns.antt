-- Numbers of uses: each is after those of its whole and its call, and a branch after the weight of its condition.
use Rattle.std.specs.Prelude.{◌≡◌, ℕ, zero, suc, ◌+◌, ◌-◌, ◌<◌, ◌≤◌, max, List, [], ◌∷◌, length, slice_get, Option, Some, None}
use Rattle.std.specs.Option.{option_and_then}
use Rattle.std.proofs.Common.{refl, ap, ap₂, ◌∙◌, subst, ⊎_elim, arith}
use Rattle.std.proofs.lemmas.Option.{slice_get_within}
use Rattle.zl_value.specs.Lists.{Has}
use Rattle.zl_meaning.specs.FlatForm.{FlatForm, call_of}
use Rattle.zl_meaning.specs.Uses.{Use, PartOf, BranchOf, DefinerOf, SlopeOf, EventOf, StartOf, ResetOf, TestOf, ArgumentOf, AgainOf, IsUse, uses_of}
use Rattle.zl_meaning.specs.Branches.{IsPart}
use Rattle.zl_meaning.specs.Copies.{IsOfUnused, IsByDefiner, KeepsCopies}
use Rattle.zl_meaning.specs.WellFormed.{IsCalled, IsWellFormed}
use Rattle.zl_meaning.specs.declared.occurrence.Occ.{Occ}
use Rattle.zl_meaning.proofs.Greatest.{most_of, most_below, below-most, in-most, most-less}
use Rattle.zl_meaning.proofs.LevelTurns.{turns}
use Rattle.zl_meaning.proofs.Members.{has-later}
use Rattle.zl_meaning.proofs.UseCases.{listed-of-use, use-of-listed}
use Rattle.zl_meaning.proofs.GradesKept.UsesSay.{whole-of-part, whole-of-branch}

-- `below` has the numbers of other uses, `weigh` the weights of values; `floor` is below all
module _ (f : FlatForm) (weigh : ℕ → ℕ) (floor : ℕ) where
  abbrev pub base : (ℕ → ℕ) → Option ℕ → ℕ
  base below None = floor
  base below (Some c) = max floor (below c)

  abbrev pub after_use : (ℕ → ℕ) → Use → ℕ
  after_use below (PartOf whole) = suc (below whole)
  after_use below (BranchOf whole c side) = suc (suc (below whole + weigh c))
  after_use below (ResetOf call events arm) = 3 + (base below call + most_of weigh events)
  after_use below (DefinerOf call) = 0
  after_use below (SlopeOf call) = 0
  after_use below (EventOf call) = 0
  after_use below (StartOf call b) = 0
  after_use below TestOf = 0
  after_use below ArgumentOf = 0
  after_use below AgainOf = 0

  abbrev pub after_call : (ℕ → ℕ) → Option ℕ → ℕ
  after_call below None = 0
  after_call below (Some c) = suc (below c)

  abbrev pub number_of : (ℕ → ℕ) → ℕ → Option Occ → ℕ
  number_of below k None = 0
  number_of below k (Some occ) = max floor (max (after_call below occ.call) (most_of (after_use below) (uses_of f k)))

  abbrev pub number_step : (ℕ → ℕ) → ℕ → ℕ
  number_step below k = number_of below k (slice_get f.occs k)

  module _ (well : IsWellFormed f) (copies : KeepsCopies f) where
    abbrev pub highest : ℕ
    highest = most_below well.heights.height (length f.occs)

    abbrev pub depth : ℕ → ℕ
    depth k = highest - well.heights.height k

    -- the number of the use of an occurrence
    abbrev pub number : ℕ → ℕ
    number k = turns number_step (suc (depth k)) k

    pub deeper_part : (k whole : ℕ) → IsPart f k whole → depth whole < depth k
    deeper_part k whole part =
        let low = well.heights.parts whole k part.occ part.is part.part in
        let most = below-most well.heights.height (length f.occs) whole (slice_get_within f.occs whole part.occ part.is) in
        omega (arith, low, most)

    -- a call is there, and outwards
    pub record IsOuter (k call : ℕ) : Type 0 where
      pub occ : Occ
      pub is : slice_get f.occs call ≡ Some occ
      pub deeper : depth call < depth k

    pub own_call : (k : ℕ) (occ : Occ) → slice_get f.occs k ≡ Some occ → call_of f k ≡ occ.call
    own_call k occ is = ap (option_and_then (λ (o : Occ). o.call)) is

    pub outer_call : (k call : ℕ) → call_of f k ≡ Some call → IsOuter k call
    outer_call k call at = by (slice_get f.occs k) refl at
      where
        there : (occ : Occ) → slice_get f.occs k ≡ Some occ → occ.call ≡ Some call → IsOuter k call
        there occ is e =
            let stands : IsCalled f occ.block (Some call) = subst (IsCalled f occ.block) e (well.occs k occ is).call in
            let low = well.heights.calls k call occ is e in
            let most = below-most well.heights.height (length f.occs) call (slice_get_within f.occs call stands.0 stands.1) in
            record { occ = stands.0; is = stands.1; deeper = omega (arith, low, most) }

        by : (o : Option Occ) → slice_get f.occs k ≡ o → option_and_then (λ (occ : Occ). occ.call) o ≡ Some call → IsOuter k call
        by None is e = absurd cc
        by (Some occ) is e = there occ is e

    -- the call of what a definer names is outwards of it
    pub outer_definer : (k : ℕ) (of : Use) (call : ℕ) → IsUse f k of → IsByDefiner of (Some call) → IsOuter k call
    outer_definer k of call used by =
        ⊎_elim (λ e. outer_call k call e)
        (λ (u : IsOfUnused f (Some call) k).
        let inner = outer_call k u.whole u.of in
        let outer = outer_call u.whole call u.outer in
        let a = inner.deeper in
        let b = outer.deeper in
        record { occ = outer.occ; is = outer.is; deeper = omega (arith, a, b) })
        (copies.definers k of (Some call) used by)

    -- ---- the numbers are those that the others give

    most_same : {X : Type 0} (g h : X → ℕ) (xs : List X) → ((x : X) → Has xs x → g x ≡ h x) → most_of g xs ≡ most_of h xs
    most_same g h [] all = refl
    most_same g h (x ∷ xs) all = ap₂ (λ a b. max a b) (all x (record { index = 0; is = refl })) (most_same g h xs (λ y has. all y (has-later x xs y has)))

    module _ (k : ℕ) (g h : ℕ → ℕ) (same : (j : ℕ) → depth j < depth k → g j ≡ h j) where
      base_same : (of : Use) (call : Option ℕ) → IsUse f k of → IsByDefiner of call → base g call ≡ base h call
      base_same of None used by = refl
      base_same of (Some c) used by = ap (λ n. max floor n) (same c (outer_definer k of c used by).deeper)

      use_same : (of : Use) → IsUse f k of → after_use g of ≡ after_use h of
      use_same (PartOf whole) used = ap (λ n. suc n) (same whole (deeper_part k whole (whole-of-part f k whole used)))
      use_same (BranchOf whole c side) used = ap (λ n. suc (suc (n + weigh c))) (same whole (deeper_part k whole (whole-of-branch f k whole c side used)))
      use_same (ResetOf call events arm) used = ap (λ n. 3 + (n + most_of weigh events)) (base_same (ResetOf call events arm) call used refl)
      use_same (DefinerOf call) used = refl
      use_same (SlopeOf call) used = refl
      use_same (EventOf call) used = refl
      use_same (StartOf call b) used = refl
      use_same TestOf used = refl
      use_same ArgumentOf used = refl
      use_same AgainOf used = refl

      call_same : (call : Option ℕ) → call_of f k ≡ call → after_call g call ≡ after_call h call
      call_same None e = refl
      call_same (Some c) e = ap (λ n. suc n) (same c (outer_call k c e).deeper)

      of_same : (o : Option Occ) → slice_get f.occs k ≡ o → number_of g k o ≡ number_of h k o
      of_same None is = refl
      of_same (Some occ) is =
          ap₂ (λ a b. max floor (max a b)) (call_same occ.call (own_call k occ is)) (most_same (after_use g) (after_use h) (uses_of f k) (λ u has. use_same u (use-of-listed f k u has)))

    stable : (m n k : ℕ) → depth k < m → depth k < n → turns number_step m k ≡ turns number_step n k
    stable zero n k a b = absurd (omega (arith, a))
    stable (suc m) zero k a b = absurd (omega (arith, b))
    stable (suc m) (suc n) k a b = of_same k (turns number_step m) (turns number_step n) (λ j low. stable m n j (omega (arith, a, low)) (omega (arith, b, low))) (slice_get f.occs k) refl

    pub number_is : (k : ℕ) (occ : Occ) → slice_get f.occs k ≡ Some occ → number k ≡ max floor (max (after_call number occ.call) (most_of (after_use number) (uses_of f k)))
    number_is k occ is =
        of_same k (turns number_step (depth k)) number (λ j low. stable (depth k) (suc (depth j)) j low (omega arith)) (slice_get f.occs k) refl ∙ ap (λ o. number_of number k o) is

    -- what it is after
    pub above_use : (k : ℕ) (occ : Occ) → slice_get f.occs k ≡ Some occ → (u : Use) → IsUse f k u → after_use number u ≤ number k
    above_use k occ is u used = let e = number_is k occ is in let one = in-most (after_use number) (uses_of f k) u (listed-of-use f k u used) in omega (arith, e, one)

    pub above_call : (k : ℕ) (occ : Occ) → slice_get f.occs k ≡ Some occ → (call : ℕ) → occ.call ≡ Some call → suc (number call) ≤ number k
    above_call k occ is call at = let e = number_is k occ is in let same : after_call number occ.call ≡ suc (number call) = ap (λ c. after_call number c) at in omega (arith, e, same)

    pub above_floor : (k : ℕ) (occ : Occ) → slice_get f.occs k ≡ Some occ → floor ≤ number k
    above_floor k occ is = let e = number_is k occ is in omega (arith, e)

    -- and what it isn't after
    pub at_most : (k : ℕ) (occ : Occ) → slice_get f.occs k ≡ Some occ → (n : ℕ) → floor ≤ n → ((c : ℕ) → call_of f k ≡ Some c → suc (number c) ≤ n) → ((u : Use) → IsUse f k u → after_use number u ≤ n) → number k ≤ n
    at_most k occ is n low calls uses =
        let e = number_is k occ is in
        let a = by_call occ.call (own_call k occ is) in
        let b : most_of (after_use number) (uses_of f k) < suc n = most-less (after_use number) (uses_of f k) (suc n) (omega arith) (λ u has. let le = uses u (use-of-listed f k u has) in omega (arith, le)) in
        omega (arith, e, low, a, b)
      where
        by_call : (call : Option ℕ) → call_of f k ≡ call → after_call number call ≤ n
        by_call None q = omega arith
        by_call (Some c) q = calls c q
