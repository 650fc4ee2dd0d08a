-- The claims of a form say how its occurrences are used, and each use is claimed.
use Rattle.std.proofs.Common.{◌≡◌, ◌⊎◌, inl, inr, ℕ, zero, suc, ◌+◌, Bool, true, false, if◌then◌else◌, nat_eq, List, [], ◌∷◌, ◌++◌, map, slice_get, Some, refl, sym, subst, ◌∙◌, arith}
use Rattle.std.proofs.lemmas.Bool.{eqb-true, eq-eqb}
use Rattle.zl_value.specs.Lists.{Has}
use Rattle.zl_meaning.specs.FlatForm.{FlatForm, HasForm, HasDefiner}
use Rattle.zl_meaning.specs.Uses.{PartOf, ArgumentOf, IsUse, AsPart, AsArgument, parts, steady_parts}
use Rattle.zl_meaning.specs.declared.place.Definer.{Definer as TheDefiner}
use Rattle.zl_meaning.specs.declared.place.Definer.TheVariants.{Input, Plain, Der, Start as Init}
use Rattle.zl_meaning.specs.declared.place.DerArm.{DerArm}
use Rattle.zl_meaning.specs.declared.occurrence.Form.{Form}
use Rattle.zl_meaning.specs.declared.occurrence.Form.TheVariants.{If}
use Rattle.zl_meaning.proofs.Members.{has-left, has-right, has-none, has-case, has-append_case, has-flat_map_from, has-map_from}
use Rattle.zl_normal.specs.declared.role.Role.{Role}
use Rattle.zl_normal.specs.declared.role.Role.TheVariants.{Unused, Part, Branch, Both, Definer, Slope, Event, Start, Reset, Argument, Again}
use Rattle.zl_normal.specs.Claims.{Claim, claim, is_free, numbered, part_claim, branch_claims, form_claims, occ_claims, occs_claims, arm_claims, arms_claims, definer_claims, place_claims, places_claims, site_claim, again_claim, other_claims}

pub record IsEventOf (f : FlatForm) (j p : ℕ) : Type 0 where
  pub block : ℕ
  pub slope : ℕ
  pub resets : List DerArm
  pub arm : DerArm
  pub has : HasDefiner f p (Der block slope resets)
  pub one : Has resets arm
  pub event : arm.event ≡ j

pub record IsResetOf (f : FlatForm) (j p n : ℕ) : Type 0 where
  pub block : ℕ
  pub slope : ℕ
  pub resets : List DerArm
  pub arm : DerArm
  pub has : HasDefiner f p (Der block slope resets)
  pub is : slice_get resets n ≡ Some arm
  pub value : arm.value ≡ j

pub record IsBranchOf (f : FlatForm) (j whole c : ℕ) (side : Bool) : Type 0 where
  pub x : ℕ
  pub y : ℕ
  pub is : HasForm f whole (If c x y)
  pub one : j ≡ (if side then x else y)
  pub apart : x ≡ y → ⊥

-- a claim is right
abbrev pub Sound : FlatForm → ℕ → Role → Type 0
Sound f j Unused = ⊥
Sound f j (Part w) = IsUse f j (PartOf w)
Sound f j (Branch w c side) = IsBranchOf f j w c side
Sound f j (Both w c) = HasForm f w (If c j j)
Sound f j (Definer p) = (b : ℕ) × HasDefiner f p (Plain b j)
Sound f j (Slope p) = (b : ℕ) × (arms : List DerArm) × HasDefiner f p (Der b j arms)
Sound f j (Event p) = IsEventOf f j p
Sound f j (Start p) = (b : ℕ) × HasDefiner f p (Init b j)
Sound f j (Reset p n) = IsResetOf f j p n
Sound f j Argument = IsUse f j ArgumentOf
Sound f j Again = Has f.again j

-- it says that the occurrence is used in a whole
abbrev pub IsOfWhole : Role → Type 0
IsOfWhole (Part w) = Unit {0}
IsOfWhole (Branch w c side) = Unit {0}
IsOfWhole (Both w c) = Unit {0}
IsOfWhole role = ⊥

pub sound-taken : (f : FlatForm) (j : ℕ) (role : Role) → Sound f j role → is_free (Some role) ≡ false
sound-taken f j Unused s = absurd s
sound-taken f j role s = refl

-- an entry of a numbered list
pub record Entry {X : Type 0} (g : ℕ → X → List Claim) (n : ℕ) (xs : List X) (c : Claim) : Type 0 where
  pub at : ℕ
  pub element : X
  pub is : slice_get xs at ≡ Some element
  pub has : Has (g (n + at) element) c

pub numbered-from : {X : Type 0} (g : ℕ → X → List Claim) (n : ℕ) (xs : List X) (c : Claim) → Has (numbered g n xs) c → Entry g n xs c
numbered-from g n [] c h = absurd (has-none c h)
numbered-from {X = X} g n (x ∷ xs) c h = by_case (λ k. numbered-from g (n + 1) xs c k) (has-append_case (g n x) (numbered g (n + 1) xs) c h)
  where
    none_more : n ≡ n + 0
    none_more = omega arith

    one_more : (i : ℕ) → (n + 1) + i ≡ n + suc i
    one_more i = omega arith

    later : Entry g (n + 1) xs c → Entry g n (x ∷ xs) c
    later e = record { at = suc e.at; element = e.element; is = e.is; has = subst (λ i. Has (g i e.element) c) (one_more e.at) e.has }

    by_case : (Has (numbered g (n + 1) xs) c → Entry g (n + 1) xs c) → Has (g n x) c ⊎ Has (numbered g (n + 1) xs) c → Entry g n (x ∷ xs) c
    by_case rest (inl k) = record { at = 0; element = x; is = refl; has = subst (λ i. Has (g i x) c) none_more k }
    by_case rest (inr k) = later (rest k)

pub numbered-has : {X : Type 0} (g : ℕ → X → List Claim) (n i m : ℕ) (xs : List X) (x : X) (c : Claim) → n + i ≡ m → slice_get xs i ≡ Some x → Has (g m x) c → Has (numbered g n xs) c
numbered-has g n i m [] x c e is h = absurd (cc)
numbered-has g n zero m (y ∷ xs) x c e is h = has-left (g n y) (numbered g (n + 1) xs) c (subst (λ k. Has (g k y) c) (same_number e) (subst (λ z. Has (g m z) c) (sym the_same) h))
  where
    the_same : y ≡ x
    the_same = cc

    same_number : n + 0 ≡ m → m ≡ n
    same_number e = omega (arith, e)
numbered-has g n (suc i) m (y ∷ xs) x c e is h = has-right (g n y) (numbered g (n + 1) xs) c (numbered-has g (n + 1) i m xs x c (one_more e) is h)
  where
    one_more : n + suc i ≡ m → (n + 1) + i ≡ m
    one_more e = omega (arith, e)

module _ (f : FlatForm) where
  abbrev pub SoundClaim : Claim → Type 0
  SoundClaim c = Sound f c.occ c.role

  part-sound : (w : ℕ) (form : Form) (c : Claim) → HasForm f w form → ((k : ℕ) → Has (parts form) k → Has (steady_parts form) k) → Has (map (part_claim w) (parts form)) c → SoundClaim c × IsOfWhole c.role
  part-sound w form c is steady h =
      let from_part = has-map_from (part_claim w) (parts form) c h in
      subst (λ (d : Claim). SoundClaim d × IsOfWhole d.role) from_part.2 (AsPart w form is (steady from_part.0 from_part.1), tt)

  branch-sound : (w x y cond : ℕ) (c : Claim) → HasForm f w (If cond x y) → (b : Bool) → nat_eq x y ≡ b → Has (if b then claim x (Both w cond) ∷ [] else claim x (Branch w cond true) ∷ claim y (Branch w cond false) ∷ []) c → SoundClaim c × IsOfWhole c.role
  branch-sound w x y cond c is true e h = by_case (has-case (claim x (Both w cond)) [] c h)
    where
      by_case : (claim x (Both w cond) ≡ c) ⊎ Has [] c → SoundClaim c × IsOfWhole c.role
      by_case (inl g) = subst (λ (d : Claim). SoundClaim d × IsOfWhole d.role) g (subst (λ z. HasForm f w (If cond x z)) (sym (eqb-true x y e)) is, tt)
      by_case (inr g) = absurd (has-none c g)
  branch-sound w x y cond c is false e h = by_case (has-case (claim x (Branch w cond true)) (claim y (Branch w cond false) ∷ []) c h)
    where
      differ : x ≡ y → ⊥
      differ g = let t : nat_eq x y ≡ true = eq-eqb x y g in let bad : true ≡ false = sym t ∙ e in cc

      by_second : (claim y (Branch w cond false) ≡ c) ⊎ Has [] c → SoundClaim c × IsOfWhole c.role
      by_second (inl g) = subst (λ (d : Claim). SoundClaim d × IsOfWhole d.role) g (record { x = x; y = y; is = is; one = refl; apart = differ }, tt)
      by_second (inr g) = absurd (has-none c g)

      by_case : (claim x (Branch w cond true) ≡ c) ⊎ Has (claim y (Branch w cond false) ∷ []) c → SoundClaim c × IsOfWhole c.role
      by_case (inl g) = subst (λ (d : Claim). SoundClaim d × IsOfWhole d.role) g (record { x = x; y = y; is = is; one = refl; apart = differ }, tt)
      by_case (inr g) = by_second (has-case (claim y (Branch w cond false)) [] c g)

  form-sound : (w : ℕ) (form : Form) (c : Claim) → HasForm f w form → Has (form_claims w form) c → SoundClaim c × IsOfWhole c.role
  form-sound w (If cond x y) c is h = by_case (has-case (part_claim w cond) (branch_claims w cond x y) c h)
    where
      by_case : (part_claim w cond ≡ c) ⊎ Has (branch_claims w cond x y) c → SoundClaim c × IsOfWhole c.role
      by_case (inl g) = subst (λ (d : Claim). SoundClaim d × IsOfWhole d.role) g (AsPart w (If cond x y) is (record { index = 0; is = refl }), tt)
      by_case (inr g) = branch-sound w x y cond c is (nat_eq x y) refl g
  form-sound w form c is h = part-sound w form c is (λ k g. g) h

  pub occs-sound : (c : Claim) → Has (occs_claims 0 f.occs) c → SoundClaim c × IsOfWhole c.role
  occs-sound c h = let e = numbered-from occ_claims 0 f.occs c h in form-sound e.at e.element.form c (e.element, e.is, refl) (subst (λ i. Has (occ_claims i e.element) c) (from_none e.at) e.has)
    where
      from_none : (n : ℕ) → 0 + n ≡ n
      from_none n = omega arith

  arm-sound : (p b slope n : ℕ) (arms : List DerArm) (arm : DerArm) (c : Claim) → HasDefiner f p (Der b slope arms) → slice_get arms n ≡ Some arm → Has (arm_claims p n arm) c → SoundClaim c
  arm-sound p b slope n arms arm c has is h = by_case (has-case (claim arm.event (Event p)) (claim arm.value (Reset p n) ∷ []) c h)
    where
      by_second : (claim arm.value (Reset p n) ≡ c) ⊎ Has [] c → SoundClaim c
      by_second (inl g) = subst SoundClaim g (record { block = b; slope = slope; resets = arms; arm = arm; has = has; is = is; value = refl })
      by_second (inr g) = absurd (has-none c g)

      by_case : (claim arm.event (Event p) ≡ c) ⊎ Has (claim arm.value (Reset p n) ∷ []) c → SoundClaim c
      by_case (inl g) = subst SoundClaim g (record { block = b; slope = slope; resets = arms; arm = arm; has = has; one = record { index = n; is = is }; event = refl })
      by_case (inr g) = by_second (has-case (claim arm.value (Reset p n)) [] c g)

  definer-sound : (p : ℕ) (definer : TheDefiner) (c : Claim) → HasDefiner f p definer → Has (definer_claims p definer) c → SoundClaim c
  definer-sound p (Input n) c has h = absurd (has-none c h)
  definer-sound p (Plain b k) c has h = by_case (has-case (claim k (Definer p)) [] c h)
    where
      by_case : (claim k (Definer p) ≡ c) ⊎ Has [] c → SoundClaim c
      by_case (inl g) = subst SoundClaim g (b, has)
      by_case (inr g) = absurd (has-none c g)
  definer-sound p (Der b slope arms) c has h = by_case (has-case (claim slope (Slope p)) (arms_claims p 0 arms) c h)
    where
      from_none : (n : ℕ) → 0 + n ≡ n
      from_none n = omega arith

      by_case : (claim slope (Slope p) ≡ c) ⊎ Has (arms_claims p 0 arms) c → SoundClaim c
      by_case (inl g) = subst SoundClaim g (b, arms, has)
      by_case (inr g) = let e = numbered-from (arm_claims p) 0 arms c g in arm-sound p b slope e.at arms e.element c has e.is (subst (λ i. Has (arm_claims p i e.element) c) (from_none e.at) e.has)
  definer-sound p (Init b k) c has h = by_case (has-case (claim k (Start p)) [] c h)
    where
      by_case : (claim k (Start p) ≡ c) ⊎ Has [] c → SoundClaim c
      by_case (inl g) = subst SoundClaim g (b, has)
      by_case (inr g) = absurd (has-none c g)

  places-sound : (c : Claim) → Has (places_claims 0 f.places) c → SoundClaim c
  places-sound c h =
      let e = numbered-from place_claims 0 f.places c h in
      let d = has-flat_map_from (definer_claims e.at) e.element.definers c (subst (λ i. Has (place_claims i e.element) c) (from_none e.at) e.has) in
      definer-sound e.at d.0 c (e.element, e.is, d.1) d.2
    where
      from_none : (n : ℕ) → 0 + n ≡ n
      from_none n = omega arith

  pub others-sound : (c : Claim) → Has (other_claims f) c → SoundClaim c
  others-sound c h = by_case (has-append_case (places_claims 0 f.places) (map site_claim f.sites ++ map again_claim f.again) c h)
    where
      by_again : Has (map site_claim f.sites) c ⊎ Has (map again_claim f.again) c → SoundClaim c
      by_again (inl g) = let s = has-map_from site_claim f.sites c g in subst SoundClaim s.2 (AsArgument s.1.index s.0 s.1.is refl)
      by_again (inr g) = let s = has-map_from again_claim f.again c g in subst SoundClaim s.2 s.1

      by_case : Has (places_claims 0 f.places) c ⊎ Has (map site_claim f.sites ++ map again_claim f.again) c → SoundClaim c
      by_case (inl g) = places-sound c g
      by_case (inr g) = by_again (has-append_case (map site_claim f.sites) (map again_claim f.again) c g)
