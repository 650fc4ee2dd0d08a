-- The first claim on an occurrence of a single form is its role.
use Rattle.std.proofs.Common.{◌≡◌, ◌⊎◌, inl, inr, ℕ, Bool, true, false, List, [], ◌∷◌, Option, Some, refl, sym, ap, subst, ◌∙◌}
use Rattle.zl_value.specs.Lists.{Has}
use Rattle.zl_meaning.specs.FlatForm.{FlatForm, call_of}
use Rattle.zl_meaning.specs.Uses.{Use, PartOf, BranchOf, DefinerOf, uses_of}
use Rattle.zl_meaning.specs.Single.{IsOneUse, Unused as NoUse, Once, OfCall as CallUses, OfBranches}
use Rattle.zl_meaning.proofs.Members.{has-none, has-case}
use Rattle.zl_normal.specs.Roles.{IsPartAlone, Alone, OfCall}

-- a use that no other stands beside
abbrev IsLone : Use → Type 0
IsLone (PartOf whole) = ⊥
IsLone (BranchOf whole condition side) = ⊥
IsLone (DefinerOf call) = ⊥
IsLone of = Unit {0}

module _ (f : FlatForm) (j : ℕ) where
  pub lone : (us : List Use) (u : Use) → IsOneUse f j us → Has us u → IsLone u → us ≡ u ∷ []
  lone _ u NoUse h l = absurd (has-none u h)
  lone _ u (Once of) h l = by_case (has-case of [] u h)
    where
      by_case : (of ≡ u) ⊎ Has [] u → of ∷ [] ≡ u ∷ []
      by_case (inl e) = ap (λ v. v ∷ []) e
      by_case (inr g) = absurd (has-none u g)
  lone _ u (CallUses whole is unused) h l = by_case (has-case (PartOf whole) (DefinerOf (call_of f whole) ∷ []) u h)
    where
      R : Type 0
      R = PartOf whole ∷ DefinerOf (call_of f whole) ∷ [] ≡ u ∷ []

      by_second : (DefinerOf (call_of f whole) ≡ u) ⊎ Has [] u → R
      by_second (inl e) = absurd (subst IsLone (sym e) l)
      by_second (inr g) = absurd (has-none u g)

      by_case : (PartOf whole ≡ u) ⊎ Has (DefinerOf (call_of f whole) ∷ []) u → R
      by_case (inl e) = absurd (subst IsLone (sym e) l)
      by_case (inr g) = by_second (has-case (DefinerOf (call_of f whole)) [] u g)
  lone _ u (OfBranches whole condition p is) h l = by_case (has-case (BranchOf whole condition true) (BranchOf whole condition false ∷ []) u h)
    where
      R : Type 0
      R = BranchOf whole condition true ∷ BranchOf whole condition false ∷ [] ≡ u ∷ []

      by_second : (BranchOf whole condition false ≡ u) ⊎ Has [] u → R
      by_second (inl e) = absurd (subst IsLone (sym e) l)
      by_second (inr g) = absurd (has-none u g)

      by_case : (BranchOf whole condition true ≡ u) ⊎ Has (BranchOf whole condition false ∷ []) u → R
      by_case (inl e) = absurd (subst IsLone (sym e) l)
      by_case (inr g) = by_second (has-case (BranchOf whole condition false) [] u g)

  pub part-alone : (us : List Use) (w : ℕ) → uses_of f j ≡ us → IsOneUse f j us → Has us (PartOf w) → IsPartAlone f j w
  part-alone _ w e NoUse h = absurd (has-none (PartOf w) h)
  part-alone _ w e (Once of) h = by_case (has-case of [] (PartOf w) h)
    where
      by_case : (of ≡ PartOf w) ⊎ Has [] (PartOf w) → IsPartAlone f j w
      by_case (inl g) = Alone (e ∙ ap (λ v. v ∷ []) g)
      by_case (inr g) = absurd (has-none (PartOf w) g)
  part-alone _ w e (CallUses whole is unused) h = by_case (has-case (PartOf whole) (DefinerOf (call_of f whole) ∷ []) (PartOf w) h)
    where
      same : PartOf whole ≡ PartOf w → whole ≡ w
      same g = cc

      at_whole : IsPartAlone f j whole
      at_whole = OfCall e is unused

      by_second : (DefinerOf (call_of f whole) ≡ PartOf w) ⊎ Has [] (PartOf w) → IsPartAlone f j w
      by_second (inl g) = absurd (cc)
      by_second (inr g) = absurd (has-none (PartOf w) g)

      by_case : (PartOf whole ≡ PartOf w) ⊎ Has (DefinerOf (call_of f whole) ∷ []) (PartOf w) → IsPartAlone f j w
      by_case (inl g) = subst (λ k. IsPartAlone f j k) (same g) at_whole
      by_case (inr g) = by_second (has-case (DefinerOf (call_of f whole)) [] (PartOf w) g)
  part-alone _ w e (OfBranches whole condition p is) h = by_case (has-case (BranchOf whole condition true) (BranchOf whole condition false ∷ []) (PartOf w) h)
    where
      by_second : (BranchOf whole condition false ≡ PartOf w) ⊎ Has [] (PartOf w) → IsPartAlone f j w
      by_second (inl g) = absurd (cc)
      by_second (inr g) = absurd (has-none (PartOf w) g)

      by_case : (BranchOf whole condition true ≡ PartOf w) ⊎ Has (BranchOf whole condition false ∷ []) (PartOf w) → IsPartAlone f j w
      by_case (inl g) = absurd (cc)
      by_case (inr g) = by_second (has-case (BranchOf whole condition false) [] (PartOf w) g)

  -- the definer's use is alone where no whole has it as a part
  pub definition-alone : (us : List Use) (call : Option ℕ) → IsOneUse f j us → Has us (DefinerOf call) → ((w : ℕ) → Has us (PartOf w) → ⊥) → us ≡ DefinerOf call ∷ []
  definition-alone _ call NoUse h n = absurd (has-none (DefinerOf call) h)
  definition-alone _ call (Once of) h n = by_case (has-case of [] (DefinerOf call) h)
    where
      by_case : (of ≡ DefinerOf call) ⊎ Has [] (DefinerOf call) → of ∷ [] ≡ DefinerOf call ∷ []
      by_case (inl g) = ap (λ v. v ∷ []) g
      by_case (inr g) = absurd (has-none (DefinerOf call) g)
  definition-alone _ call (CallUses whole is unused) h n = absurd (n whole (record { index = 0; is = refl }))
  definition-alone _ call (OfBranches whole condition p is) h n = by_case (has-case (BranchOf whole condition true) (BranchOf whole condition false ∷ []) (DefinerOf call) h)
    where
      R : Type 0
      R = BranchOf whole condition true ∷ BranchOf whole condition false ∷ [] ≡ DefinerOf call ∷ []

      by_second : (BranchOf whole condition false ≡ DefinerOf call) ⊎ Has [] (DefinerOf call) → R
      by_second (inl g) = absurd (cc)
      by_second (inr g) = absurd (has-none (DefinerOf call) g)

      by_case : (BranchOf whole condition true ≡ DefinerOf call) ⊎ Has (BranchOf whole condition false ∷ []) (DefinerOf call) → R
      by_case (inl g) = absurd (cc)
      by_case (inr g) = by_second (has-case (BranchOf whole condition false) [] (DefinerOf call) g)

  pub branch-alone : (us : List Use) (w c : ℕ) (side : Bool) → IsOneUse f j us → Has us (BranchOf w c side) → (Has us (BranchOf w c true) → Has us (BranchOf w c false) → ⊥) → us ≡ BranchOf w c side ∷ []
  branch-alone _ w c side NoUse h n = absurd (has-none (BranchOf w c side) h)
  branch-alone _ w c side (Once of) h n = by_case (has-case of [] (BranchOf w c side) h)
    where
      by_case : (of ≡ BranchOf w c side) ⊎ Has [] (BranchOf w c side) → of ∷ [] ≡ BranchOf w c side ∷ []
      by_case (inl g) = ap (λ v. v ∷ []) g
      by_case (inr g) = absurd (has-none (BranchOf w c side) g)
  branch-alone _ w c side (CallUses whole is unused) h n = by_case (has-case (PartOf whole) (DefinerOf (call_of f whole) ∷ []) (BranchOf w c side) h)
    where
      R : Type 0
      R = PartOf whole ∷ DefinerOf (call_of f whole) ∷ [] ≡ BranchOf w c side ∷ []

      by_second : (DefinerOf (call_of f whole) ≡ BranchOf w c side) ⊎ Has [] (BranchOf w c side) → R
      by_second (inl g) = absurd (cc)
      by_second (inr g) = absurd (has-none (BranchOf w c side) g)

      by_case : (PartOf whole ≡ BranchOf w c side) ⊎ Has (DefinerOf (call_of f whole) ∷ []) (BranchOf w c side) → R
      by_case (inl g) = absurd (cc)
      by_case (inr g) = by_second (has-case (DefinerOf (call_of f whole)) [] (BranchOf w c side) g)
  branch-alone _ w c side (OfBranches whole condition p is) h n = by_case (has-case (BranchOf whole condition true) (BranchOf whole condition false ∷ []) (BranchOf w c side) h)
    where
      us : List Use
      us = BranchOf whole condition true ∷ BranchOf whole condition false ∷ []

      clash : whole ≡ w → condition ≡ c → ⊥
      clash e g =
          n (record { index = 0; is = let k : Some (BranchOf whole condition true) ≡ Some (BranchOf w c true) = cc in k })
          (record { index = 1; is = let k : Some (BranchOf whole condition false) ≡ Some (BranchOf w c false) = cc in k })

      of_whole : (s : Bool) → BranchOf whole condition s ≡ BranchOf w c side → whole ≡ w
      of_whole s g = cc

      of_condition : (s : Bool) → BranchOf whole condition s ≡ BranchOf w c side → condition ≡ c
      of_condition s g = cc

      by_second : (BranchOf whole condition false ≡ BranchOf w c side) ⊎ Has [] (BranchOf w c side) → BranchOf whole condition true ∷ BranchOf whole condition false ∷ [] ≡ BranchOf w c side ∷ []
      by_second (inl g) = absurd (clash (of_whole false g) (of_condition false g))
      by_second (inr g) = absurd (has-none (BranchOf w c side) g)

      by_case : (BranchOf whole condition true ≡ BranchOf w c side) ⊎ Has (BranchOf whole condition false ∷ []) (BranchOf w c side) → BranchOf whole condition true ∷ BranchOf whole condition false ∷ [] ≡ BranchOf w c side ∷ []
      by_case (inl g) = absurd (clash (of_whole true g) (of_condition true g))
      by_case (inr g) = by_second (has-case (BranchOf whole condition false) [] (BranchOf w c side) g)

  pub both-alone : (us : List Use) (w c : ℕ) → IsOneUse f j us → Has us (BranchOf w c true) → Has us (BranchOf w c false) → us ≡ BranchOf w c true ∷ BranchOf w c false ∷ []
  both-alone _ w c NoUse h n = absurd (has-none (BranchOf w c true) h)
  both-alone _ w c (Once of) h n = by_case (has-case of [] (BranchOf w c true) h) (has-case of [] (BranchOf w c false) n)
    where
      by_case : (of ≡ BranchOf w c true) ⊎ Has [] (BranchOf w c true) → (of ≡ BranchOf w c false) ⊎ Has [] (BranchOf w c false) → of ∷ [] ≡ BranchOf w c true ∷ BranchOf w c false ∷ []
      by_case (inl g) (inl k) = absurd (cc)
      by_case (inl g) (inr k) = absurd (has-none (BranchOf w c false) k)
      by_case (inr g) k = absurd (has-none (BranchOf w c true) g)
  both-alone _ w c (CallUses whole is unused) h n = by_case (has-case (PartOf whole) (DefinerOf (call_of f whole) ∷ []) (BranchOf w c true) h)
    where
      R : Type 0
      R = PartOf whole ∷ DefinerOf (call_of f whole) ∷ [] ≡ BranchOf w c true ∷ BranchOf w c false ∷ []

      by_second : (DefinerOf (call_of f whole) ≡ BranchOf w c true) ⊎ Has [] (BranchOf w c true) → R
      by_second (inl g) = absurd (cc)
      by_second (inr g) = absurd (has-none (BranchOf w c true) g)

      by_case : (PartOf whole ≡ BranchOf w c true) ⊎ Has (DefinerOf (call_of f whole) ∷ []) (BranchOf w c true) → R
      by_case (inl g) = absurd (cc)
      by_case (inr g) = by_second (has-case (DefinerOf (call_of f whole)) [] (BranchOf w c true) g)
  both-alone _ w c (OfBranches whole condition p is) h n = by_case (has-case (BranchOf whole condition true) (BranchOf whole condition false ∷ []) (BranchOf w c true) h)
    where
      by_second : (BranchOf whole condition false ≡ BranchOf w c true) ⊎ Has [] (BranchOf w c true) → BranchOf whole condition true ∷ BranchOf whole condition false ∷ [] ≡ BranchOf w c true ∷ BranchOf w c false ∷ []
      by_second (inl g) = absurd (cc)
      by_second (inr g) = absurd (has-none (BranchOf w c true) g)

      by_case : (BranchOf whole condition true ≡ BranchOf w c true) ⊎ Has (BranchOf whole condition false ∷ []) (BranchOf w c true) → BranchOf whole condition true ∷ BranchOf whole condition false ∷ [] ≡ BranchOf w c true ∷ BranchOf w c false ∷ []
      by_case (inl g) = cc
      by_case (inr g) = by_second (has-case (BranchOf whole condition false) [] (BranchOf w c true) g)
