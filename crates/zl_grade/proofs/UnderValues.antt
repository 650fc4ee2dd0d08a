-- What stands under an `init` value or a reset value is what such values lead to, by what stands directly under another.
use Rattle.std.specs.Option.{option_map}
use Rattle.std.specs.List.{AllByRecursion}
use Rattle.std.proofs.Common.{◌≡◌, ◌≢◌, ◌⊎◌, inl, inr, ℕ, zero, suc, ◌<◌, Bool, true, false, if◌then◌else◌, nat_eq, List, [], ◌∷◌, length, slice_get, Option, Some, None, map, refl, sym, ap, ◌∙◌, subst, arith}
use Rattle.std.proofs.lemmas.Bool.{eqb-true}
use Rattle.std.proofs.lemmas.Bool.Decides.{eqb_tells}
use Rattle.std.proofs.lemmas.Option.{slice_get-map}
use Rattle.zl_value.specs.Lists.{Has}
use Rattle.zl_meaning.specs.FlatForm.{FlatForm, HasDefiner, call_of, place_call}
use Rattle.zl_meaning.specs.Uses.{Use, StartOf, ResetOf, IsUse, AsStart, AsReset, events_of, parts}
use Rattle.zl_meaning.specs.Branches.{IsPart, Under, Is, Part, Called}
use Rattle.zl_meaning.specs.declared.occurrence.Occ.{Occ}
use Rattle.zl_meaning.specs.declared.place.Definer.{Definer}
use Rattle.zl_meaning.specs.declared.place.Definer.TheVariants.{Input, Plain, Der, Start}
use Rattle.zl_meaning.specs.declared.place.DerArm.{DerArm}
use Rattle.zl_meaning.specs.declared.place.PlaceInfo.{PlaceInfo}
use Rattle.zl_meaning.proofs.Members.{has-left, has-right, has-flat_map, all-has, all-append, all-flat_map, all-map, each-has}
use Rattle.zl_grade.specs.Children.{call_at, is_call, members, parts_at, children}
use Rattle.zl_grade.specs.Closed.{StandsUnder, Reached, Directly}
use Rattle.zl_grade.specs.Reached.{Reach}
use Rattle.zl_meaning.specs.Copies.{IsApart, InStart, InReset}
use Rattle.zl_grade.specs.Apart.{values_of, set_by, set_in, set_values}

-- ---- the members of a call

called-so : (call : ℕ) (o : Option ℕ) → is_call call o ≡ true → o ≡ Some call
called-so call None e = absurd (cc)
called-so call (Some c) e = ap (λ n. Some n) (eqb-true c call e)

so-called : (call : ℕ) (o : Option ℕ) → o ≡ Some call → is_call call o ≡ true
so-called call o e = ap (is_call call) e ∙ elim (eqb_tells call call) [ inl h ↦ h.0 | inr h ↦ absurd (h.1 refl) ]

module _ (occs : List Occ) (call : ℕ) where
  abbrev IsMember : ℕ → Type 0
  IsMember k = call_at occs k ≡ Some call

  members-have : (n : ℕ) → AllByRecursion IsMember (members occs call n)
  members-have zero = tt
  members-have (suc n) = by_test (members-have n) (is_call call (call_at occs n)) refl
    where
      by_test : AllByRecursion IsMember (members occs call n) → (b : Bool) → is_call call (call_at occs n) ≡ b → AllByRecursion IsMember (if b then n ∷ members occs call n else members occs call n)
      by_test before true e = (called-so call (call_at occs n) e, before)
      by_test before false e = before

  have-member : (n k : ℕ) → k < n → IsMember k → Has (members occs call n) k
  have-member zero k l is = absurd (omega arith)
  have-member (suc n) k l is = by_test (λ below. have-member n k below is) (is_call call (call_at occs n)) refl (eqb_tells k n)
    where
      by_test : (k < n → Has (members occs call n) k) → (b : Bool) → is_call call (call_at occs n) ≡ b → ((nat_eq k n ≡ true) × (k ≡ n)) ⊎ ((nat_eq k n ≡ false) × (k ≢ n)) → Has (if b then n ∷ members occs call n else members occs call n) k
      by_test before true e (inl h) = record { index = 0; is = ap (λ j. Some j) (sym h.1) }
      by_test before true e (inr h) = has-right (n ∷ []) (members occs call n) k (before (omega (arith, h.1)))
      by_test before false e (inl h) = let yes : is_call call (call_at occs n) ≡ true = so-called call (call_at occs n) (subst IsMember h.1 is) in absurd (cc)
      by_test before false e (inr h) = before (omega (arith, h.1))

-- of all of a map
all-of-map : {X Y : Type 0} (P : Y → Type 0) (g : X → Y) (xs : List X) → AllByRecursion (λ x. P (g x)) xs → AllByRecursion P (map g xs)
all-of-map P g [] h = tt
all-of-map P g (x ∷ xs) h = (h.0, all-of-map P g xs h.1)

module _ (f : FlatForm) where
  -- ---- what stands directly under an occurrence

  -- it is a part, or has it as its call
  abbrev IsBelow : ℕ → ℕ → Type 0
  IsBelow whole k = IsPart f k whole ⊎ (call_of f k ≡ Some whole)

  pub below-child : (whole k : ℕ) → Has (children f.occs whole) k → IsBelow whole k
  below-child whole k has =
      all-has (IsBelow whole) (children f.occs whole) k
      (all-append (IsBelow whole) (parts_at (slice_get f.occs whole)) (members f.occs whole (length f.occs)) (by_entry (slice_get f.occs whole) refl)
      (all-map (IsMember f.occs whole) (IsBelow whole) (λ j e. inr e) (members f.occs whole (length f.occs)) (members-have f.occs whole (length f.occs)))) has
    where
      by_entry : (o : Option Occ) → slice_get f.occs whole ≡ o → AllByRecursion (IsBelow whole) (parts_at o)
      by_entry None e = tt
      by_entry (Some occ) e = all-map (Has (parts occ.form)) (IsBelow whole) (λ j part. inl (record { occ = occ; is = e; part = part })) (parts occ.form) (each-has (parts occ.form))

  pub child-part : (whole k : ℕ) → IsPart f k whole → Has (children f.occs whole) k
  child-part whole k part =
      has-left (parts_at (slice_get f.occs whole)) (members f.occs whole (length f.occs)) k (subst (λ o. Has (parts_at o) k) (sym part.is) part.part)

  pub child-called : (whole k : ℕ) → k < length f.occs → call_of f k ≡ Some whole → Has (children f.occs whole) k
  child-called whole k low e = has-right (parts_at (slice_get f.occs whole)) (members f.occs whole (length f.occs)) k (have-member f.occs whole (length f.occs) k low e)

  -- ---- the values

  module _ (p : ℕ) (place : PlaceInfo) (is : slice_get f.places p ≡ Some place) where
    by-arm : (b slope : ℕ) (resets : List DerArm) → Has place.definers (Der b slope resets) → (arm : DerArm) → Has resets arm → IsApart f arm.value
    by-arm b slope resets has arm there =
        InReset (place_call f p) (events_of resets) there.index (Is arm.value (AsReset p b slope there.index resets arm (place_call f p) (place, is, has) there.is refl refl))

    by-definer : (definer : Definer) → Has place.definers definer → AllByRecursion (IsApart f) (set_by definer)
    by-definer (Input n) has = tt
    by-definer (Plain b k) has = tt
    by-definer (Der b slope resets) has = all-of-map (IsApart f) (λ (arm : DerArm). arm.value) resets (all-map (Has resets) (λ (arm : DerArm). IsApart f arm.value) (by-arm b slope resets has) resets (each-has resets))
    by-definer (Start b k) has = (InStart (place_call f p) b (Is k (AsStart p b (place_call f p) (place, is, has) refl)), tt)

    by-place : AllByRecursion (IsApart f) (set_in place)
    by-place = all-flat_map (IsApart f) set_by place.definers (all-map (Has place.definers) (λ d. AllByRecursion (IsApart f) (set_by d)) by-definer place.definers (each-has place.definers))

  pub apart-set : (k : ℕ) → Has (set_values f.places) k → IsApart f k
  apart-set k has =
      all-has (IsApart f) (set_values f.places) k
      (all-flat_map (IsApart f) set_in f.places (all-map (Has f.places) (λ place. AllByRecursion (IsApart f) (set_in place)) (λ place h. by-place h.index place h.is) f.places (each-has f.places))) has

  set-by : (p k : ℕ) (definer : Definer) → HasDefiner f p definer → Has (set_by definer) k → Has (set_values f.places) k
  set-by p k definer (place, is, has) h = has-flat_map set_in f.places place k (record { index = p; is = is }) (has-flat_map set_by place.definers definer k has h)

  pub set-by-start : (call : Option ℕ) (b k : ℕ) → IsUse f k (StartOf call b) → Has (set_values f.places) k
  set-by-start _ _ k (AsStart p b call has at) = set-by p k (Start b k) has (record { index = 0; is = refl })

  pub set-by-reset : (call : Option ℕ) (events : List ℕ) (arm k : ℕ) → IsUse f k (ResetOf call events arm) → Has (set_values f.places) k
  set-by-reset _ _ _ k (AsReset p b slope n resets arm call has there e at) =
      set-by p k (Der b slope resets) has (subst (λ j. Has (values_of resets) j) e (record { index = n; is = slice_get-map (λ (a : DerArm). a.value) resets n ∙ ap (option_map (λ (a : DerArm). a.value)) there }))

  -- ---- and what stands under them

  pub apart-under : (r : Reach) → ((k : ℕ) → slice_get r.marks k ≡ Some true → IsApart f k) → (k : ℕ) → StandsUnder f.occs r k → IsApart f k
  apart-under r known _ (Reached k e) = known k e
  apart-under r known _ (Directly k whole has under) = by_case (below-child whole k has) (apart-under r known whole under)
    where
      deeper : (of : Use) → IsBelow whole k → Under f of whole → Under f of k
      deeper of (inl part) above = Part k whole part above
      deeper of (inr e) above = Called k whole e above

      by_case : IsBelow whole k → IsApart f whole → IsApart f k
      by_case below (InStart call b above) = InStart call b (deeper (StartOf call b) below above)
      by_case below (InReset call events arm above) = InReset call events arm (deeper (ResetOf call events arm) below above)
