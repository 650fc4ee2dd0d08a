-- All that stands under an `init` value or a reset value is reached from these values.
use Rattle.std.specs.Option.{option_and_then}
use Rattle.std.proofs.Common.{◌≡◌, ◌⊎◌, inl, inr, ℕ, zero, suc, ◌<◌, Bool, true, false, List, [], ◌∷◌, length, slice_get, Option, Some, None, refl, ap, ◌∙◌, subst, arith}
use Rattle.std.proofs.lemmas.Option.{slice_get_within}
use Rattle.zl_value.specs.Lists.{Has}
use Rattle.zl_meaning.specs.FlatForm.{FlatForm}
use Rattle.zl_meaning.specs.Uses.{Use, StartOf, ResetOf, IsUse}
use Rattle.zl_meaning.specs.Branches.{Under, Is, Part, Called}
use Rattle.zl_meaning.specs.WellFormed.{IsWellFormed, IsCalled}
use Rattle.zl_meaning.specs.declared.occurrence.Occ.{Occ}
use Rattle.zl_grade.specs.Children.{call_at, HasCalls}
use Rattle.zl_grade.specs.Closed.{IsClosed}
use Rattle.zl_grade.specs.Reached.{Reach, IsListed}
use Rattle.zl_meaning.specs.Copies.{IsApart, InStart, InReset}
use Rattle.zl_grade.specs.Apart.{set_values, AreApart}
use Rattle.zl_grade.proofs.UnderValues.{child-part, child-called, apart-set, set-by-start, set-by-reset, apart-under}
use Rattle.zl_grade.proofs.Reaching.{Adds, unreached-all}

-- each mark is one or the other
marked_or : (marks : List Bool) (k : ℕ) → k < length marks → (slice_get marks k ≡ Some true) ⊎ (slice_get marks k ≡ Some false)
marked_or [] k low = absurd (omega arith)
marked_or (true ∷ marks) zero low = inl refl
marked_or (false ∷ marks) zero low = inr refl
marked_or (mark ∷ marks) (suc k) low = marked_or marks k (omega arith)

-- one that isn't unmarked is marked
marked_so : (marks : List Bool) (k : ℕ) → k < length marks → (slice_get marks k ≡ Some false → ⊥) → slice_get marks k ≡ Some true
marked_so marks k low not = elim (marked_or marks k low) [ inl e ↦ e | inr e ↦ absurd (not e) ]

-- none is reached at first
pub listed_none : (r : Reach) → ((k : ℕ) → slice_get r.marks k ≡ Some true → ⊥) → r.order ≡ [] → IsListed r
listed_none r none empty = record {
  listed = λ k e. absurd (none k e);
  marked = λ i k e. absurd (nothing i k (subst (λ xs. slice_get xs i ≡ Some k) empty e));
  count = omega (arith, ap length empty, unreached-all r.marks none);
}
  where
    nothing : (i k : ℕ) → slice_get [] i ≡ Some k → ⊥
    nothing i k e = cc

module _ (f : FlatForm) (w : IsWellFormed f) where
  -- a call is an occurrence
  call_is_there : (k : ℕ) (occ : Occ) (call : ℕ) → slice_get f.occs k ≡ Some occ → occ.call ≡ Some call → call < length f.occs
  call_is_there k occ call is e =
      let there = subst (λ o. IsCalled f occ.block o) e (w.occs k occ is).call in
      slice_get_within f.occs call there.0 there.1

  pub has_calls : HasCalls f.occs
  has_calls k call = by_entry (slice_get f.occs k) refl
    where
      by_entry : (o : Option Occ) → slice_get f.occs k ≡ o → option_and_then (λ (occ : Occ). occ.call) o ≡ Some call → call < length f.occs
      by_entry None is e = absurd (cc)
      by_entry (Some occ) is e = call_is_there k occ call is e

  -- what has a call is there
  has_call_there : (k call : ℕ) → call_at f.occs k ≡ Some call → k < length f.occs
  has_call_there k call = by_entry (slice_get f.occs k) refl
    where
      by_entry : (o : Option Occ) → slice_get f.occs k ≡ o → option_and_then (λ (occ : Occ). occ.call) o ≡ Some call → k < length f.occs
      by_entry None is e = absurd (cc)
      by_entry (Some occ) is e = slice_get_within f.occs k occ is

  module _ (first old new : Reach) (count : length first.marks ≡ length f.occs) (none : (k : ℕ) → slice_get first.marks k ≡ Some true → ⊥)
      (set : Adds first (set_values f.places) old) (closed : IsClosed f.occs old new) where
    size : length new.marks ≡ length f.occs
    size = closed.size ∙ set.size ∙ count

    -- the values are reached
    value_met : (k : ℕ) → Has (set_values f.places) k → slice_get new.marks k ≡ Some false → ⊥
    value_met k has e =
        let low : k < length old.marks = omega (arith, slice_get_within new.marks k false e, closed.size) in
        let marked = closed.kept k (marked_so old.marks k low (set.met k has)) in
        cc

    reached : (k : ℕ) → k < length f.occs → (slice_get new.marks k ≡ Some false → ⊥) → slice_get new.marks k ≡ Some true
    reached k low = marked_so new.marks k (omega (arith, low, size))

    -- and what stands under them
    under_met : (of : Use) → ((k : ℕ) → IsUse f k of → Has (set_values f.places) k) → (k : ℕ) → Under f of k → slice_get new.marks k ≡ Some false → ⊥
    under_met of values _ (Is k used) e = value_met k (values k used) e
    under_met of values _ (Part k whole part under) e =
        closed.closed whole k (reached whole (slice_get_within f.occs whole part.occ part.is) (under_met of values whole under)) (child-part f whole k part) e
    under_met of values _ (Called k call has under) e =
        closed.closed call k (reached call (has_calls k call has) (under_met of values call under)) (child-called f call k (has_call_there k call has) has) e

    apart_met : (k : ℕ) → IsApart f k → slice_get new.marks k ≡ Some false → ⊥
    apart_met k (InStart call b under) = under_met (StartOf call b) (set-by-start f call b) k under
    apart_met k (InReset call events arm under) = under_met (ResetOf call events arm) (set-by-reset f call events arm) k under

    known : (k : ℕ) → slice_get old.marks k ≡ Some true → IsApart f k
    known k e = elim (set.from k e) [ inl was ↦ absurd (none k was) | inr has ↦ apart-set f k has ]

    pub all_apart : AreApart f new.marks
    all_apart = record {
      size = size;
      sound = λ k e. apart-under f old known k (closed.sound k e);
      others = λ k e a. apart_met k a e;
    }
