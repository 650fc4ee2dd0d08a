-- The first occurrence that has a greater grade than is needed of it, among more and more that is needed.
use Rattle.std.proofs.Common.{◌≡◌, ◌⊎◌, inl, inr, ℕ, ◌≤◌, Bool, true, false, List, [], ◌∷◌, ◌++◌, refl, subst, arith, if◌then◌else◌}
use Rattle.std.specs.Prelude.{Option, Some, None, nat_lt}
use Rattle.std.proofs.lemmas.Bool.{ltb-true, ltb-false}
use Rattle.zl_value.specs.Lists.{Has}
use Rattle.zl_meaning.specs.Grades.{Grading}
use Rattle.zl_meaning.proofs.Members.{has-left, has-none, has-cases, has-last, has-append_case}
use Rattle.zl_grade.specs.Needs.{IsOver, IsFirstOver, IsFirst, least}
use Rattle.zl_grade.specs.declared.needs.Need.{Need}

module _ (g : Grading) (done : List Need) (one : Need) where
  -- what is on the longer list was there, or is the new one
  by_case : (P : Need → Type 0) → ((other : Need) → Has done other → P other) → P one → (other : Need) → Has (done ++ one ∷ []) other → P other
  by_case P old new other has = of_case (has-append_case done (one ∷ []) other has)
    where
      of_case : Has done other ⊎ Has (one ∷ []) other → P other
      of_case (inl h) = old other h
      of_case (inr h) = has-cases (P other) one [] other h (λ e. subst P e new) (λ n. absurd (has-none other n))

  -- one more that is over
  pub first_with : (first : Option ℕ) → IsFirst g done first → IsOver g one → IsFirst g (done ++ one ∷ []) (Some (least first one.occ))
  first_with None none over = record {
    one = one;
    is = has-last done one;
    number = refl;
    over = over;
    before = by_case (λ other. IsOver g other → one.occ ≤ other.occ) (λ other has o. absurd (none other has o)) (λ o. let l : one.occ ≤ one.occ = omega arith in l);
  }
  first_with (Some k) h over = by_less (nat_lt k one.occ) refl
    where
      by_less : (b : Bool) → nat_lt k one.occ ≡ b → IsFirstOver g (done ++ one ∷ []) (if b then k else one.occ)
      by_less true e = let l = ltb-true k one.occ e in record {
        one = h.one;
        is = has-left done (one ∷ []) h.one h.is;
        number = h.number;
        over = h.over;
        before = by_case (λ other. IsOver g other → k ≤ other.occ) h.before (λ o. let low : k ≤ one.occ = omega (arith, l) in low);
      }
      by_less false e = let l = ltb-false k one.occ e in record {
        one = one;
        is = has-last done one;
        number = refl;
        over = over;
        before = by_case (λ other. IsOver g other → one.occ ≤ other.occ) (λ other has o. let low = h.before other has o in let lower : one.occ ≤ other.occ = omega (arith, l, low) in lower) (λ o. let low : one.occ ≤ one.occ = omega arith in low);
      }

  -- one more that isn't
  pub first_without : (first : Option ℕ) → IsFirst g done first → (IsOver g one → ⊥) → IsFirst g (done ++ one ∷ []) first
  first_without None none not = by_case (λ other. IsOver g other → ⊥) none not
  first_without (Some k) h not = record {
    one = h.one;
    is = has-left done (one ∷ []) h.one h.is;
    number = h.number;
    over = h.over;
    before = by_case (λ other. IsOver g other → k ≤ other.occ) h.before (λ o. absurd (not o));
  }
