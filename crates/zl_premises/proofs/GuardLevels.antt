-- Levels in which the use of an occurrence is below its value, for a form of the main block alone.
use Rattle.std.specs.Prelude.{◌≡◌, ◌⊎◌, ℕ, suc, ◌+◌, ◌≤◌, max, Bool, true, false, List, [], ◌∷◌, slice_get, Option, Some, None}
use Rattle.std.proofs.Common.{refl, sym, ap, ◌∙◌, subst, ⊎_elim, inl, inr, arith}
use Rattle.zl_value.specs.Lists.{Has}
use Rattle.zl_meaning.specs.FlatForm.{FlatForm, call_of}
use Rattle.zl_meaning.specs.Uses.{Use, PartOf, BranchOf, DefinerOf, SlopeOf, EventOf, StartOf, ResetOf, TestOf, ArgumentOf, AgainOf, IsUse, IsUnused, uses_of}
use Rattle.zl_meaning.specs.Branches.{IsPart}
use Rattle.zl_meaning.specs.Copies.{IsOfUnused, IsByDefiner, KeepsCopies}
use Rattle.zl_meaning.specs.Levels.{HasLevels}
use Rattle.zl_meaning.specs.Single.{IsOneUse, Unused, Once, OfCall, OfBranches, IsSingle}
use Rattle.zl_meaning.specs.WellFormed.{IsWellFormed}
use Rattle.zl_meaning.specs.declared.occurrence.Occ.{Occ}
use Rattle.zl_meaning.proofs.Members.{has-none, has-cases}
use Rattle.zl_meaning.proofs.Standing.{part-used, part-in}
use Rattle.zl_meaning.proofs.UseCases.{listed-of-use}
use Rattle.zl_meaning.proofs.GradesKept.UsesSay.{whole-of-part}
use Rattle.zl_meaning.proofs.WrittenForms.{some-same}
use Rattle.zl_normal.specs.MainBlock.{IsMain}
use Rattle.zl_premises.proofs.Climbs.{weight}
use Rattle.zl_premises.proofs.Turns.{base, after_use, depth as depth_in, highest as highest_in, number as number_in, outer_call as outer_call_in, own_call as own_call_in, at_most as at_most_in, above_call as above_call_in, above_floor as above_floor_in}

-- the use is as a part of this occurrence, or as a branch of it
abbrev pub IsPartUse : ℕ → Use → Type 0
IsPartUse n (PartOf whole) = whole ≡ n
IsPartUse n (BranchOf whole condition side) = whole ≡ n
IsPartUse n (DefinerOf call) = ⊥
IsPartUse n (SlopeOf call) = ⊥
IsPartUse n (EventOf call) = ⊥
IsPartUse n (StartOf call b) = ⊥
IsPartUse n (ResetOf call events arm) = ⊥
IsPartUse n TestOf = ⊥
IsPartUse n ArgumentOf = ⊥
IsPartUse n AgainOf = ⊥

-- such a use, or that of a result
abbrev pub IsWithinUse : ℕ → Use → Type 0
IsWithinUse n u = IsPartUse n u ⊎ ((call : Option ℕ) × (u ≡ DefinerOf call))

pub has-one : (u v : Use) → Has (u ∷ []) v → u ≡ v
has-one u v h = has-cases (u ≡ v) u [] v h (λ e. e) (λ x. absurd (has-none v x))

module _ (f : FlatForm) (single : IsSingle f) (k : ℕ) where
  -- all uses of a part are as one, or as a result
  part-uses : (whole : ℕ) (us : List Use) → IsOneUse f k us → (p : Use) → Has us p → IsPartUse whole p → (u : Use) → Has us u → IsWithinUse whole u
  part-uses whole _ Unused p h e u g = absurd (has-none p h)
  part-uses whole _ (Once v) p h e u g = inl (subst (λ x. IsPartUse whole x) (sym (has-one v p h) ∙ has-one v u g) e)
  part-uses whole _ (OfCall n form unused) p h e u g =
      let same : n ≡ whole = has-cases (n ≡ whole) (PartOf n) (DefinerOf (call_of f n) ∷ []) p h (λ q. subst (λ x. IsPartUse whole x) (sym q) e) (λ q. absurd (subst (λ x. IsPartUse whole x) (sym (has-one (DefinerOf (call_of f n)) p q)) e)) in
      has-cases (IsWithinUse whole u) (PartOf n) (DefinerOf (call_of f n) ∷ []) u g (λ q. inl (subst (λ x. IsPartUse whole x) q same)) (λ q. inr (call_of f n, sym (has-one (DefinerOf (call_of f n)) u q)))
  part-uses whole _ (OfBranches n c q form) p h e u g =
      let same : n ≡ whole = has-cases (n ≡ whole) (BranchOf n c true) (BranchOf n c false ∷ []) p h (λ q. subst (λ x. IsPartUse whole x) (sym q) e) (λ q. subst (λ x. IsPartUse whole x) (sym (has-one (BranchOf n c false) p q)) e) in
      has-cases (IsWithinUse whole u) (BranchOf n c true) (BranchOf n c false ∷ []) u g (λ q. inl (subst (λ x. IsPartUse whole x) q same)) (λ q. inl (subst (λ x. IsPartUse whole x) (has-one (BranchOf n c false) u q) same))

  -- the other use of what a definer names is as the result of a call that nothing uses
  abbrev IsBeside : Option ℕ → Use → Type 0
  IsBeside call u = (n : ℕ) × (u ≡ PartOf n) × IsUnused f n × (call_of f n ≡ call)

  definer-uses : (of : Use) (call : Option ℕ) → IsByDefiner of call → (us : List Use) → IsOneUse f k us → Has us of → (u : Use) → Has us u → (u ≡ of) ⊎ IsBeside call u
  definer-uses of call by _ Unused h u g = absurd (has-none of h)
  definer-uses of call by _ (Once v) h u g = inl (sym (has-one v u g) ∙ has-one v of h)
  definer-uses of call by _ (OfCall n form unused) h u g =
      has-cases ((u ≡ of) ⊎ IsBeside call u) (PartOf n) (DefinerOf (call_of f n) ∷ []) of h (λ q. absurd (subst (λ x. IsByDefiner x call) (sym q) by))
      (λ q.
      let first : DefinerOf (call_of f n) ≡ of = has-one (DefinerOf (call_of f n)) of q in
      let own : call_of f n ≡ call = subst (λ x. IsByDefiner x call) (sym first) by in
      has-cases ((u ≡ of) ⊎ IsBeside call u) (PartOf n) (DefinerOf (call_of f n) ∷ []) u g (λ e. inr (n, sym e, unused, own)) (λ e. inl (sym (has-one (DefinerOf (call_of f n)) u e) ∙ first)))
  definer-uses of call by _ (OfBranches n c p form) h u g =
      absurd (has-cases ⊥ (BranchOf n c true) (BranchOf n c false ∷ []) of h (λ q. subst (λ x. IsByDefiner x call) (sym q) by) (λ q. subst (λ x. IsByDefiner x call) (sym (has-one (BranchOf n c false) of q)) by))

module _ (f : FlatForm) (well : IsWellFormed f) (main : IsMain f) (single : IsSingle f) (copies : KeepsCopies f) (v : HasLevels f) where
  abbrev pub top : ℕ
  top = highest_in f (λ k. 0) 0 well copies

  abbrev pub W : ℕ → ℕ
  W n = weight top n

  abbrev pub weigh : ℕ → ℕ
  weigh k = W (v.value k)

  abbrev pub floor : ℕ
  floor = suc (W (v.block 0))

  abbrev pub depth : ℕ → ℕ
  depth k = depth_in f weigh floor well copies k

  abbrev pub U : ℕ → ℕ
  U k = number_in f weigh floor well copies k

  abbrev pub V : ℕ → ℕ
  V k = U k + weigh k

  abbrev pub B : Option ℕ → ℕ
  B call = base f weigh floor U call

  -- a part isn't after more than its whole and the condition beside it
  pub part_at_most : (k whole : ℕ) → IsPart f k whole → (n : ℕ) → suc (U whole) ≤ n → ((c : ℕ) (side : Bool) → IsUse f k (BranchOf whole c side) → suc (suc (U whole + weigh c)) ≤ n) → U k ≤ n
  part_at_most k whole part n low branches =
      let s = (part-in f well k whole part).1 in
      let above = above_floor_in f weigh floor well copies whole part.occ part.is in
      at_most_in f weigh floor well copies k s.occ s.is n (omega (arith, above, low))
      (λ c at.
      ⊎_elim
      (λ (same : call_of f k ≡ call_of f whole).
      let up = above_call_in f weigh floor well copies whole part.occ part.is c (sym (own_call_in f weigh floor well copies whole part.occ part.is) ∙ sym same ∙ at) in
      omega (arith, up, low))
      (λ (inner : call_of f k ≡ Some whole). let e : U c ≡ U whole = ap (λ x. U x) (some-same (sym at ∙ inner)) in omega (arith, e, low))
      (copies.parts k whole part))
      (λ u used. ⊎_elim (λ (w : IsPartUse whole u). by_use u used w) (λ (w : (call : Option ℕ) × (u ≡ DefinerOf call)). let e : after_use f weigh floor U u ≡ 0 = ap (λ x. after_use f weigh floor U x) w.1 in omega (arith, e)) (all s.occ s.is u used))
    where
      all : (occ : Occ) → slice_get f.occs k ≡ Some occ → (u : Use) → IsUse f k u → IsWithinUse whole u
      all occ is u used =
          ⊎_elim (λ (p : IsUse f k (PartOf whole)). part-uses f single k whole (uses_of f k) (single.uses k occ is) (PartOf whole) (listed-of-use f k (PartOf whole) p) refl u (listed-of-use f k u used))
          (λ (p : (c : ℕ) × (side : Bool) × IsUse f k (BranchOf whole c side)). part-uses f single k whole (uses_of f k) (single.uses k occ is) (BranchOf whole p.0 p.1) (listed-of-use f k (BranchOf whole p.0 p.1) p.2) refl u (listed-of-use f k u used))
          (part-used f k whole part)

      by_use : (u : Use) → IsUse f k u → IsPartUse whole u → after_use f weigh floor U u ≤ n
      by_use (PartOf j) used e = let same : U j ≡ U whole = ap (λ x. U x) e in omega (arith, same, low)
      by_use (BranchOf j c side) used e = let same : U j ≡ U whole = ap (λ x. U x) e in let le = branches c side (subst (λ x. IsUse f k (BranchOf x c side)) e used) in omega (arith, same, le)
      by_use (DefinerOf call) used e = absurd e
      by_use (SlopeOf call) used e = absurd e
      by_use (EventOf call) used e = absurd e
      by_use (StartOf call b) used e = absurd e
      by_use (ResetOf call events arm) used e = absurd e
      by_use TestOf used e = absurd e
      by_use ArgumentOf used e = absurd e
      by_use AgainOf used e = absurd e

  floor_base : (call : Option ℕ) → floor ≤ B call
  floor_base None = omega arith
  floor_base (Some c) = omega arith

  call_base : (call : Option ℕ) (c : ℕ) → call ≡ Some c → U c ≤ B call
  call_base call c e = let same : B call ≡ max floor (U c) = ap (λ x. B x) e in omega (arith, same)

  -- what nothing uses is after its call alone
  unused_at_most : (k : ℕ) (occ : Occ) → slice_get f.occs k ≡ Some occ → IsUnused f k → (call : Option ℕ) → call_of f k ≡ call → U k ≤ suc (B call)
  unused_at_most k occ is unused call at =
      let low = floor_base call in
      at_most_in f weigh floor well copies k occ is (suc (B call)) (omega (arith, low)) (λ c e. let le = call_base call c (sym at ∙ e) in omega (arith, le)) (λ u used. absurd (unused u used))

  -- what a definer names is after the call of its place, by two at most, and what its own use asks for
  pub definer_at_most : (k : ℕ) (occ : Occ) → slice_get f.occs k ≡ Some occ → (of : Use) (call : Option ℕ) → IsUse f k of → IsByDefiner of call → (n : ℕ) → suc (suc (B call)) ≤ n → after_use f weigh floor U of ≤ n → U k ≤ n
  definer_at_most k occ is of call used by n low own =
      let base_low = floor_base call in
      at_most_in f weigh floor well copies k occ is n (omega (arith, base_low, low))
      (λ c at.
      ⊎_elim (λ (e : call_of f k ≡ call). let le = call_base call c (sym e ∙ at) in omega (arith, le, low))
      (λ (w : IsOfUnused f call k).
      let outer = outer_call_in f weigh floor well copies k w.whole w.of in
      let le = unused_at_most w.whole outer.occ outer.is w.unused call w.outer in
      let same : U c ≡ U w.whole = ap (λ x. U x) (some-same (sym at ∙ w.of)) in
      omega (arith, le, same, low))
      (copies.definers k of call used by))
      (λ u is_use.
      ⊎_elim (λ (e : u ≡ of). let same = ap (λ x. after_use f weigh floor U x) e in omega (arith, same, own))
      (λ (w : (j : ℕ) × (u ≡ PartOf j) × IsUnused f j × (call_of f j ≡ call)).
      let there = whole_there w.0 (subst (λ x. IsUse f k x) w.1 is_use) in
      let le = unused_at_most w.0 there.0 there.1 w.2 call w.3 in
      let same : after_use f weigh floor U u ≡ suc (U w.0) = ap (λ x. after_use f weigh floor U x) w.1 in
      omega (arith, le, same, low))
      (definer-uses f single k of call by (uses_of f k) (single.uses k occ is) (listed-of-use f k of used) u (listed-of-use f k u is_use)))
    where
      whole_there : (j : ℕ) → IsUse f k (PartOf j) → (o : Occ) × (slice_get f.occs j ≡ Some o)
      whole_there j u = let part = whole-of-part f k j u in (part.occ, part.is)
