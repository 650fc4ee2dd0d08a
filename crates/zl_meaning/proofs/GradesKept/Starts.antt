-- What stands under an `init` value or under a reset value is used nowhere else.
use Rattle.std.specs.Option.{option_and_then}
use Rattle.std.proofs.Common.{◌≡◌, ◌⊎◌, inl, inr, ℕ, Bool, true, false, List, [], ◌∷◌, slice_get, Option, Some, None, refl, sym, ap, ◌∙◌, ⊎_elim, subst}
use Rattle.zl_value.specs.Lists.{Has}
use Rattle.zl_meaning.specs.FlatForm.{FlatForm, call_of}
use Rattle.zl_meaning.specs.Uses.{Use, PartOf, BranchOf, DefinerOf, SlopeOf, EventOf, StartOf, ResetOf, TestOf, ArgumentOf, AgainOf, IsUse, AsStart, AsReset, IsUnused, uses_of}
use Rattle.zl_meaning.specs.Branches.{IsPart, Under, Is, Part, Called}
use Rattle.zl_meaning.specs.Copies.{IsOfUnused, IsApart, InStart, InReset, KeepsCopies}
use Rattle.zl_meaning.specs.Single.{IsOneUse, Unused, Once, OfCall, OfBranches, IsSingle}
use Rattle.zl_meaning.specs.WellFormed.{IsWellFormed, named_in}
use Rattle.zl_meaning.specs.declared.place.Definer.TheVariants.{Der, Start}
use Rattle.zl_meaning.specs.declared.occurrence.Occ.{Occ}
use Rattle.zl_meaning.proofs.Members.{has-none, has-cases, has-later}
use Rattle.zl_meaning.proofs.Standing.{IsUsedIn, part-used, part-in, definer-in}
use Rattle.zl_meaning.proofs.LevelLists.{named-value}
use Rattle.zl_meaning.proofs.UseCases.{listed-of-use}
use Rattle.zl_meaning.proofs.WrittenForms.{some-same}
use Rattle.zl_meaning.proofs.GradesKept.UsedFlow.{NeverAsks, ByStart, ByReset, CallUnder, UseUnder, KeepsStarts, none_some}
use Rattle.zl_meaning.proofs.GradesKept.UsesSay.{whole-of-part, whole-of-branch}

-- it is an occurrence of the form
abbrev IsThere : FlatForm → ℕ → Type 0
IsThere f k = (occ : Occ) × (slice_get f.occs k ≡ Some occ)

-- the use is as a part of this occurrence, or as a branch of it
abbrev IsPartUse : ℕ → Use → Type 0
IsPartUse n (PartOf whole) = whole ≡ n
IsPartUse n (BranchOf whole condition side) = whole ≡ n
IsPartUse n _ = ⊥

-- all of a list with one entry are that one
has-one : (u v : Use) → Has (u ∷ []) v → u ≡ v
has-one u v h = has-cases (u ≡ v) u [] v h (λ e. e) (λ x. absurd (has-none v x))

module _ (f : FlatForm) (w : IsWellFormed f) (of : Use) (apart : NeverAsks of) where
  -- what stands under it is there
  named-there : (k : ℕ) (u : Use) → NeverAsks u → IsUse f k u → IsThere f k
  named-there k _ (ByStart call b) (AsStart p _ _ has at) =
      let stands = definer-in f w p k (Start b k) has (record { index = 0; is = refl }) in (stands.2.1.occ, stands.2.1.is)
  named-there k _ (ByReset call events arm) (AsReset p b slope _ arms the _ has is e at) =
      let stands = definer-in f w p the.value (Der b slope arms) has (has-later slope (named_in arms) the.value (named-value arms the (record { index = arm; is = is }))) in
      (stands.2.1.occ, ap (λ n. slice_get f.occs n) (sym e) ∙ stands.2.1.is)

  -- what has a call
  called-there : (k c : ℕ) → call_of f k ≡ Some c → IsThere f k
  called-there k c e = by_entry (slice_get f.occs k) refl e
    where
      by_entry : (o : Option Occ) → slice_get f.occs k ≡ o → option_and_then (λ (x : Occ). x.call) o ≡ Some c → IsThere f k
      by_entry None there e = absurd (none_some e)
      by_entry (Some occ) there e = (occ, there)

  -- all that stands under the use
  under-there : (k : ℕ) → Under f of k → IsThere f k
  under-there _ (Is k own) = named-there k of apart own
  under-there _ (Part k whole part under) = let stands = part-in f w k whole part in (stands.1.occ, stands.1.is)
  under-there _ (Called k c e under) = called-there k c e

  -- a part of what stands under it
  part-under : (whole : ℕ) → Under f of whole → (u : Use) → IsPartUse whole u → UseUnder f of u
  part-under whole under (PartOf n) e = subst (λ j. Under f of j) (sym e) under
  part-under whole under (BranchOf n c side) e = subst (λ j. Under f of j) (sym e) under
  part-under whole under _ e = absurd e

  -- what is there to know of something under it
  record IsUsedUnder (k : ℕ) : Type 0 where
    pub uses : (u : Use) → IsUse f k u → UseUnder f of u
    pub unused : IsUnused f k → CallUnder f of (call_of f k)

  module _ (keeps : KeepsCopies f) (single : IsSingle f) where
    -- a part: its use as one is the only one, but where it is the result of a call, or a name that is both branches
    by-part : (k whole : ℕ) → Under f of whole → IsUsedUnder whole → (p : Use) → IsPartUse whole p → (us : List Use) → IsOneUse f k us → Has us p → (u : Use) → Has us u → UseUnder f of u
    by-part k whole under above p part _ Unused h u g = absurd (has-none p h)
    by-part k whole under above p part _ (Once v) h u g = subst (λ x. UseUnder f of x) (sym (has-one v p h) ∙ has-one v u g) (part-under whole under p part)
    by-part k whole under above p part _ (OfCall n form unused) h u g =
        has-cases (UseUnder f of u) (PartOf n) (DefinerOf (call_of f n) ∷ []) u g
        (λ e. subst (λ x. UseUnder f of x) e (subst (λ j. Under f of j) (sym same) under))
        (λ later. subst (λ x. UseUnder f of x) (has-one (DefinerOf (call_of f n)) u later)
        (subst (λ j. CallUnder f of (call_of f j)) (sym same) (above.unused (subst (λ j. IsUnused f j) same unused))))
      where
        same : n ≡ whole
        same = has-cases (n ≡ whole) (PartOf n) (DefinerOf (call_of f n) ∷ []) p h (λ e. subst (λ x. IsPartUse whole x) (sym e) part)
            (λ later. absurd (subst (λ x. IsPartUse whole x) (sym (has-one (DefinerOf (call_of f n)) p later)) part))
    by-part k whole under above p part _ (OfBranches n c q form) h u g =
        has-cases (UseUnder f of u) (BranchOf n c true) (BranchOf n c false ∷ []) u g
        (λ e. subst (λ x. UseUnder f of x) e (subst (λ j. Under f of j) (sym same) under))
        (λ later. subst (λ x. UseUnder f of x) (has-one (BranchOf n c false) u later) (subst (λ j. Under f of j) (sym same) under))
      where
        same : n ≡ whole
        same = has-cases (n ≡ whole) (BranchOf n c true) (BranchOf n c false ∷ []) p h (λ e. subst (λ x. IsPartUse whole x) (sym e) part)
            (λ later. subst (λ x. IsPartUse whole x) (sym (has-one (BranchOf n c false) p later)) part)

    -- the value itself has no other use
    apart-not : (n c : ℕ) (call : Option ℕ) (u : Use) → NeverAsks u → (PartOf n ≡ u) ⊎ ((DefinerOf call ≡ u) ⊎ ((side : Bool) × (BranchOf n c side ≡ u))) → ⊥
    apart-not n c call _ (ByStart own b) (inl e) = cc
    apart-not n c call _ (ByStart own b) (inr (inl e)) = cc
    apart-not n c call _ (ByStart own b) (inr (inr (side, e))) = cc
    apart-not n c call _ (ByReset own events arm) (inl e) = cc
    apart-not n c call _ (ByReset own events arm) (inr (inl e)) = cc
    apart-not n c call _ (ByReset own events arm) (inr (inr (side, e))) = cc

    -- it stands under itself
    own-under : (u : Use) → NeverAsks u → UseUnder f of u
    own-under _ (ByStart call b) = tt
    own-under _ (ByReset call events arm) = tt

    -- the value as a whole
    by-itself : (k : ℕ) (us : List Use) → IsOneUse f k us → Has us of → (u : Use) → Has us u → UseUnder f of u
    by-itself k _ Unused h u g = absurd (has-none of h)
    by-itself k _ (Once v) h u g = subst (λ x. UseUnder f of x) (sym (has-one v of h) ∙ has-one v u g) (own-under of apart)
    by-itself k _ (OfCall n form unused) h u g =
        absurd (has-cases ⊥ (PartOf n) (DefinerOf (call_of f n) ∷ []) of h (λ e. apart-not n 0 (call_of f n) of apart (inl e)) (λ later. apart-not n 0 (call_of f n) of apart (inr (inl (has-one (DefinerOf (call_of f n)) of later)))))
    by-itself k _ (OfBranches n c q form) h u g =
        absurd (has-cases ⊥ (BranchOf n c true) (BranchOf n c false ∷ []) of h (λ e. apart-not n c None of apart (inr (inr (true, e)))) (λ later. apart-not n c None of apart (inr (inr (false, has-one (BranchOf n c false) of later)))))

    -- what stands in the copy of a call that is under it
    by-call : (k c : ℕ) (call : Option ℕ) → call_of f k ≡ Some c → Under f of c → (IsUnused f c → CallUnder f of (call_of f c)) → (call_of f k ≡ call) ⊎ IsOfUnused f call k → CallUnder f of call
    by-call k c call e under none (inl q) = subst (λ o. CallUnder f of o) (sym e ∙ q) under
    by-call k c call e under none (inr q) =
        let same : c ≡ q.whole = some-same (sym e ∙ q.of) in
        subst (λ o. CallUnder f of o) (ap (λ j. call_of f j) same ∙ q.outer) (none (subst (λ j. IsUnused f j) (sym same) q.unused))

    -- the whole of what stands in such a copy
    by-whole : (k c n : ℕ) → call_of f k ≡ Some c → Under f of c → IsPart f k n → Under f of n
    by-whole k c n e under part =
        ⊎_elim (λ q. Called n c (sym q ∙ e) under) (λ q. subst (λ j. Under f of j) (some-same (sym e ∙ q)) under) (keeps.parts k n part)

    -- by which use
    is-apart : (k : ℕ) (u : Use) → NeverAsks u → Under f u k → IsApart f k
    is-apart k _ (ByStart call b) under = InStart call b under
    is-apart k _ (ByReset call events arm) under = InReset call events arm under

    -- all uses of what stands in such a copy
    by-copy : (k c : ℕ) → call_of f k ≡ Some c → Under f of c → IsUsedUnder c → (u : Use) → IsUse f k u → UseUnder f of u
    by-copy k c e under above (PartOf n) is = by-whole k c n e under (whole-of-part f k n is)
    by-copy k c e under above (BranchOf n x side) is = by-whole k c n e under (whole-of-branch f k n x side is)
    by-copy k c e under above (DefinerOf call) is = by-call k c call e under above.unused (keeps.definers k (DefinerOf call) call is refl)
    by-copy k c e under above (SlopeOf call) is = by-call k c call e under above.unused (keeps.definers k (SlopeOf call) call is refl)
    by-copy k c e under above (EventOf call) is = by-call k c call e under above.unused (keeps.definers k (EventOf call) call is refl)
    by-copy k c e under above (StartOf call b) is = tt
    by-copy k c e under above (ResetOf call events arm) is = tt
    by-copy k c e under above TestOf is = tt
    by-copy k c e under above ArgumentOf is = absurd (keeps.sites k (is-apart k of apart (Called k c e under)) is)
    by-copy k c e under above AgainOf is = absurd (keeps.again k (is-apart k of apart (Called k c e under)) is)

    -- it has one use
    one-use : (k : ℕ) → IsThere f k → IsOneUse f k (uses_of f k)
    one-use k there = single.uses k there.0 there.1

    -- all uses of a part
    by-used-in : (k whole : ℕ) → Under f of whole → IsUsedUnder whole → IsThere f k → IsUsedIn f k whole → (u : Use) → IsUse f k u → UseUnder f of u
    by-used-in k whole under above there (inl is) u used = by-part k whole under above (PartOf whole) refl (uses_of f k) (one-use k there) (listed-of-use f k (PartOf whole) is) u (listed-of-use f k u used)
    by-used-in k whole under above there (inr (c, side, is)) u used = by-part k whole under above (BranchOf whole c side) refl (uses_of f k) (one-use k there) (listed-of-use f k (BranchOf whole c side) is) u (listed-of-use f k u used)

    -- a part is used
    is-used-in : (k whole : ℕ) → IsUsedIn f k whole → IsUnused f k → ⊥
    is-used-in k whole (inl is) none = none (PartOf whole) is
    is-used-in k whole (inr (c, side, is)) none = none (BranchOf whole c side) is

    -- what stands under it is used there
    used-under : (k : ℕ) → Under f of k → IsUsedUnder k
    used-under _ (Is k own) = record {
      uses = λ u is. by-itself k (uses_of f k) (one-use k (named-there k of apart own)) (listed-of-use f k of own) u (listed-of-use f k u is);
      unused = λ none. absurd (none of own);
    }
    used-under _ (Part k whole part under) = record {
      uses = λ u is. by-used-in k whole under (used-under whole under) (under-there k (Part k whole part under)) (part-used f k whole part) u is;
      unused = λ none. absurd (is-used-in k whole (part-used f k whole part) none);
    }
    used-under _ (Called k c e under) = record {
      uses = λ u is. by-copy k c e under (used-under c under) u is;
      unused = λ none. subst (λ o. CallUnder f of o) (sym e) under;
    }

-- so it is in a form that keeps copies
pub keeps-starts : (f : FlatForm) → IsWellFormed f → KeepsCopies f → IsSingle f → KeepsStarts f
keeps-starts f w keeps single = record {
  uses = λ of apart k under u is. (used-under f w of apart keeps single k under).uses u is;
  unused = λ of apart k under none. (used-under f w of apart keeps single k under).unused none;
}
