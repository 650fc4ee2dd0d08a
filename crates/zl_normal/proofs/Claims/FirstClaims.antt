-- The roles that the claims of a form give.
use Rattle.std.proofs.Common.{◌≡◌, ◌⊎◌, inl, inr, ℕ, zero, suc, ◌+◌, ◌<◌, Bool, true, false, if◌then◌else◌, List, [], ◌∷◌, length, slice_get, Some, refl, sym, subst, ◌∙◌, arith}
use Rattle.std.specs.Option.{option_map}
use Rattle.zl_value.specs.Lists.{Has}
use Rattle.zl_meaning.specs.FlatForm.{FlatForm, HasForm, HasDefiner, place_call, kind_of}
use Rattle.zl_meaning.specs.WellFormed.{IsWellFormed}
use Rattle.zl_meaning.specs.Uses.{Use, PartOf, BranchOf, DefinerOf, SlopeOf, EventOf, StartOf, ResetOf, ArgumentOf, AgainOf, IsUse, AsBranch, AsDefiner, AsSlope, AsEvent, AsStart, AsReset, AsAgain, IsTest, OfChoice, OfReset, OfMove, uses_of, events_of}
use Rattle.zl_meaning.specs.Single.{IsOneUse}
use Rattle.zl_meaning.specs.declared.block.Block.{Block}
use Rattle.zl_meaning.specs.declared.block.BlockKind.{BlockKind}
use Rattle.zl_meaning.specs.declared.block.BlockKind.TheVariants.{Main, Arm, Reset as ResetBlock}
use Rattle.zl_meaning.specs.declared.place.Definer.TheVariants.{Start as Init}
use Rattle.zl_meaning.specs.declared.occurrence.Form.TheVariants.{If}
use Rattle.zl_meaning.proofs.Members.{all-has}
use Rattle.zl_meaning.proofs.UseCases.{use-of-listed, listed-of-use}
use Rattle.zl_normal.specs.declared.role.Role.{Role}
use Rattle.zl_normal.specs.declared.role.Role.TheVariants.{Unused, Part, Branch, Both, Definer, Slope, Event, Start, Reset, Argument, Again}
use Rattle.zl_normal.specs.MainBlock.{IsMain, InMain}
use Rattle.zl_normal.specs.Roles.{IsRole}
use Rattle.zl_normal.proofs.Claims.FormClaims.{Sound, IsOfWhole}
use Rattle.zl_normal.proofs.Claims.RoleCases.{lone, part-alone, definition-alone, branch-alone, both-alone}

module _ (f : FlatForm) (main : IsMain f) where
  -- there is the main block alone
  main-kind : (b : ℕ) (kind : BlockKind) → kind_of f b ≡ Some kind → kind ≡ Main
  main-kind b kind is = by_number b (subst (λ (blocks : List Block). option_map (λ (x : Block). x.kind) (slice_get blocks b) ≡ Some kind) main.blocks is)
    where
      the_same : Some main.block.kind ≡ Some kind → kind ≡ Main
      the_same e = let k : kind ≡ main.block.kind = cc in k ∙ main.kind

      by_number : (n : ℕ) → option_map (λ (x : Block). x.kind) (slice_get (main.block ∷ []) n) ≡ Some kind → kind ≡ Main
      by_number zero e = the_same e
      by_number (suc n) e = absurd (cc)

  pub no-test : IsWellFormed f → (j : ℕ) → IsTest f j → ⊥
  no-test well j (OfChoice of choice is has) =
      let body = (well.choices of choice is).bodies 0 (some choice.other (length choice.conds) (holds choice.conds has.index has.is)) in
      let bad : Arm of 0 ≡ Main = main-kind body.body (Arm of 0) body.is in
      absurd (cc)
    where
      holds : (ks : List ℕ) (n : ℕ) → slice_get ks n ≡ Some j → 0 < length ks
      holds [] n e = absurd (cc)
      holds (k ∷ ks) n e = omega arith

      some : (other : Bool) (n : ℕ) → 0 < n → 0 < (if other then n + 1 else n)
      some true n l = omega arith
      some false n l = l
  no-test well j (OfReset b is) = let bad : ResetBlock j ≡ Main = main-kind b (ResetBlock j) is in absurd (cc)
  no-test well j (OfMove of auto moves move is s m e) = nothing (subst (λ autos. slice_get autos of ≡ Some auto) main.automata is)
    where
      nothing : slice_get [] of ≡ Some auto → ⊥
      nothing g = cc

  start-main : (p b j : ℕ) → HasDefiner f p (Init b j) → b ≡ 0
  start-main p b j (place, is, has) = all-has InMain place.definers (Init b j) (main.places p place is).1 has

-- no list has what would be its head
pub none-of : {X : Type 0} (xs : List X) → ((x : X) → Has xs x → ⊥) → xs ≡ []
none-of [] n = refl
none-of (x ∷ xs) n = absurd (n x (record { index = 0; is = refl }))

same-branches : (f : FlatForm) (w c x y a b : ℕ) → HasForm f w (If c x y) → HasForm f w (If c a b) → (x ≡ a) × (y ≡ b)
same-branches f w c x y a b (o, is, e) (p, it, g) = (cc, cc)

module _ (f : FlatForm) (well : IsWellFormed f) (main : IsMain f) (j : ℕ) (one : IsOneUse f j (uses_of f j)) where
  listed : (u : Use) → IsUse f j u → Has (uses_of f j) u
  listed u used = listed-of-use f j u used

  -- one branch alone
  apart-branches : (w c x y : ℕ) → HasForm f w (If c x y) → (x ≡ y → ⊥) → Has (uses_of f j) (BranchOf w c true) → Has (uses_of f j) (BranchOf w c false) → ⊥
  apart-branches w c x y is apart h k = by_uses (use-of-listed f j (BranchOf w c true) h) (use-of-listed f j (BranchOf w c false) k)
    where
      by_uses : IsUse f j (BranchOf w c true) → IsUse f j (BranchOf w c false) → ⊥
      by_uses (AsBranch _ _ a b _ there e) (AsBranch _ _ a' b' _ there' e') =
          let first = same-branches f w c x y a b is there in
          let second = same-branches f w c x y a' b' is there' in
          apart (first.0 ∙ sym e ∙ e' ∙ sym second.1)

  -- a right claim is the role, if no whole has what a definer names
  pub role-of-sound : (role : Role) → Sound f j role → (IsOfWhole role ⊎ ((w : ℕ) → Has (uses_of f j) (PartOf w) → ⊥)) → IsRole f j role
  role-of-sound Unused s n = absurd s
  role-of-sound (Part w) s n = part-alone f j (uses_of f j) w refl one (listed (PartOf w) s)
  role-of-sound (Branch w c side) s n = branch-alone f j (uses_of f j) w c side one (listed (BranchOf w c side) (AsBranch w c s.x s.y side s.is s.one)) (apart-branches w c s.x s.y s.is s.apart)
  role-of-sound (Both w c) s n = both-alone f j (uses_of f j) w c one (listed (BranchOf w c true) (AsBranch w c j j true s refl)) (listed (BranchOf w c false) (AsBranch w c j j false s refl))
  role-of-sound (Definer p) s (inl n) = absurd n
  role-of-sound (Definer p) s (inr n) =
      record { block = s.0; has = s.1; uses = definition-alone f j (uses_of f j) (place_call f p) one (listed (DefinerOf (place_call f p)) (AsDefiner p s.0 (place_call f p) s.1 refl)) n }
  role-of-sound (Slope p) s n =
      record { block = s.0; resets = s.1; has = s.2; uses = lone f j (uses_of f j) (SlopeOf (place_call f p)) one (listed (SlopeOf (place_call f p)) (AsSlope p s.0 s.1 (place_call f p) s.2 refl)) tt }
  role-of-sound (Event p) s n =
      record {
        block = s.block;
        slope = s.slope;
        resets = s.resets;
        arm = s.arm;
        has = s.has;
        one = s.one;
        event = s.event;
        uses = lone f j (uses_of f j) (EventOf (place_call f p)) one (listed (EventOf (place_call f p)) (AsEvent p s.block s.slope s.resets s.arm (place_call f p) s.has s.one s.event refl)) tt;
      }
  role-of-sound (Start p) s n =
      let has : HasDefiner f p (Init 0 j) = subst (λ b. HasDefiner f p (Init b j)) (start-main f main p s.0 j s.1) s.1 in
      record { has = has; uses = lone f j (uses_of f j) (StartOf (place_call f p) 0) one (listed (StartOf (place_call f p) 0) (AsStart p 0 (place_call f p) has refl)) tt }
  role-of-sound (Reset p m) s n =
      record {
        block = s.block;
        slope = s.slope;
        resets = s.resets;
        arm = s.arm;
        has = s.has;
        is = s.is;
        value = s.value;
        uses =
            lone f j (uses_of f j) (ResetOf (place_call f p) (events_of s.resets) m) one
            (listed (ResetOf (place_call f p) (events_of s.resets) m) (AsReset p s.block s.slope m s.resets s.arm (place_call f p) s.has s.is s.value refl)) tt;
      }
  role-of-sound Argument s n = lone f j (uses_of f j) ArgumentOf one (listed ArgumentOf s) tt
  role-of-sound Again s n = lone f j (uses_of f j) AgainOf one (listed AgainOf (AsAgain s)) tt
