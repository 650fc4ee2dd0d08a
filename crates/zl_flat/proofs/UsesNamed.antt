-- What names an occurrence uses it, and what uses it names it.
use Rattle.std.proofs.Common.{◌≡◌, ◌⊎◌, inl, inr, ℕ, zero, suc, ◌+◌, Bool, true, false, ◌||◌, nat_eq, List, [], ◌∷◌, ◌++◌, slice_get, Option, Some, refl, sym, ap, subst, ◌∙◌, arith}
use Rattle.std.specs.List.{AllByRecursion, flat_map}
use Rattle.std.proofs.lemmas.Bool.{eqb-true, eq-eqb}
use Rattle.zl_value.specs.Lists.{Has, among, when}
use Rattle.zl_meaning.specs.FlatForm.{FlatForm}
use Rattle.zl_meaning.specs.Uses.{Use, PartOf, BranchOf, DefinerOf, SlopeOf, EventOf, StartOf, ResetOf, TestOf, ArgumentOf, AgainOf, IsUnused, parts, part_uses, uses_in_occs, events_of, arm_uses, definer_uses, place_uses, is_test, is_argument, uses_of}
use Rattle.zl_meaning.specs.WellFormed.{named_in, named_by}
use Rattle.zl_meaning.specs.Branches.{IsPart}
use Rattle.zl_meaning.specs.declared.place.Definer.{Definer}
use Rattle.zl_meaning.specs.declared.place.Definer.TheVariants.{Input, Plain, Der, Start}
use Rattle.zl_meaning.specs.declared.place.DerArm.{DerArm}
use Rattle.zl_meaning.specs.declared.place.PlaceInfo.{PlaceInfo}
use Rattle.zl_meaning.specs.declared.occurrence.Form.{Form}
use Rattle.zl_meaning.specs.declared.occurrence.Form.TheVariants.{If}
use Rattle.zl_meaning.specs.declared.occurrence.Occ.{Occ}
use Rattle.zl_meaning.proofs.UseCases.{use-of-listed, listed-of-use}
use Rattle.zl_flat.proofs.WellFormedParts.{AllFrom, all-stand, all-append}

-- ---- lists

-- what one list has, it has with more behind
pub has-left : {X : Type 0} (xs ys : List X) (x : X) → Has xs x → Has (xs ++ ys) x
has-left xs ys x h = record { index = h.index; is = longer xs ys h.index x h.is }
  where
    longer : {X : Type 0} (xs ys : List X) (n : ℕ) (x : X) → slice_get xs n ≡ Some x → slice_get (xs ++ ys) n ≡ Some x
    longer [] ys n x h = absurd (cc)
    longer (y ∷ xs) ys zero x h = h
    longer (y ∷ xs) ys (suc n) x h = longer xs ys n x h

-- and with one more before
pub has-later : {X : Type 0} (y : X) (ys : List X) (x : X) → Has ys x → Has (y ∷ ys) x
has-later y ys x h = record { index = suc h.index; is = h.is }

-- and with a list before
pub has-right : {X : Type 0} (xs ys : List X) (x : X) → Has ys x → Has (xs ++ ys) x
has-right [] ys x h = h
has-right (y ∷ xs) ys x h = has-later y (xs ++ ys) x (has-right xs ys x h)

-- no list without entries has any
pub has-none : {X : Type 0} (x : X) → Has [] x → ⊥
has-none x h = nothing_there h.index h.is
  where
    nothing_there : {X : Type 0} {x : X} (n : ℕ) → slice_get [] n ≡ Some x → ⊥
    nothing_there n e = cc

-- it is the first of them, or one of the others
pub has-case : {X : Type 0} (y : X) (ys : List X) (x : X) → Has (y ∷ ys) x → (y ≡ x) ⊎ Has ys x
has-case y ys x h = by_index h.index h.is
  where
    the_same : Some y ≡ Some x → y ≡ x
    the_same e = cc

    by_index : (n : ℕ) → slice_get (y ∷ ys) n ≡ Some x → (y ≡ x) ⊎ Has ys x
    by_index zero e = inl (the_same e)
    by_index (suc n) e = inr (record { index = n; is = e })

-- by case
pub has-cases : {X : Type 0} (R : Type 0) (y : X) (ys : List X) (x : X) → Has (y ∷ ys) x → (y ≡ x → R) → (Has ys x → R) → R
has-cases R y ys x h first later = by_case (has-case y ys x h)
  where
    by_case : (y ≡ x) ⊎ Has ys x → R
    by_case (inl e) = first e
    by_case (inr i) = later i

-- it is there, if the test holds
has-when : {X : Type 0} (b : Bool) (x : X) → b ≡ true → Has (when b x) x
has-when true x h = record { index = 0; is = refl }
has-when false x h = absurd (cc)

-- what holds of all holds of one
pub all-has : {X : Type 0} (P : X → Type 0) (xs : List X) (x : X) → AllByRecursion P xs → Has xs x → P x
all-has P [] x h i = absurd (has-none x i)
all-has P (y ∷ ys) x h i = has-cases (P x) y ys x i (λ e. subst P e h.0) (λ j. all-has P ys x h.1 j)

-- what is made of an entry
has-flat_map : {X Y : Type 0} (g : X → List Y) (xs : List X) (x : X) (y : Y) → Has xs x → Has (g x) y → Has (flat_map g xs) y
has-flat_map g [] x y h i = absurd (has-none x h)
has-flat_map g (z ∷ zs) x y h i =
    has-cases (Has (flat_map g (z ∷ zs)) y) z zs x h (λ e. has-left (g z) (flat_map g zs) y (subst (λ u. Has (g u) y) (sym e) i)) (λ j. has-right (g z) (flat_map g zs) y (has-flat_map g zs x y j i))

-- a list has each of its entries
pub each-has : {X : Type 0} (xs : List X) → AllByRecursion (Has xs) xs
each-has xs = later [] xs
  where
    behind : {X : Type 0} (xs : List X) (x : X) (ys : List X) → Has (xs ++ x ∷ ys) x
    behind xs x ys = has-right xs (x ∷ ys) x (record { index = 0; is = refl })

    regroup : {X : Type 0} (xs : List X) (x : X) (ys : List X) → (xs ++ x ∷ []) ++ ys ≡ xs ++ x ∷ ys
    regroup [] x ys = refl
    regroup (z ∷ xs) x ys = ap (λ zs. z ∷ zs) (regroup xs x ys)

    later : {X : Type 0} (xs ys : List X) → AllByRecursion (Has (xs ++ ys)) ys
    later xs [] = tt
    later xs (y ∷ ys) = (behind xs y ys, subst (λ zs. AllByRecursion (Has zs) ys) (regroup xs y ys) (later (xs ++ y ∷ []) ys))

-- of all that is made of all
all-flat_map : {X Y : Type 0} (P : Y → Type 0) (g : X → List Y) (xs : List X) → AllByRecursion (λ x. AllByRecursion P (g x)) xs → AllByRecursion P (flat_map g xs)
all-flat_map P g [] h = tt
all-flat_map P g (x ∷ xs) h = all-append P (g x) (flat_map g xs) h.0 (all-flat_map P g xs h.1)

-- what follows from what holds of all holds of all
pub all-map : {X : Type 0} (P Q : X → Type 0) → ((x : X) → P x → Q x) → (xs : List X) → AllByRecursion P xs → AllByRecursion Q xs
all-map P Q g [] h = tt
all-map P Q g (x ∷ xs) h = (g x h.0, all-map P Q g xs h.1)

-- of the one, if the test holds
all-when : {X : Type 0} (P : X → Type 0) (b : Bool) (x : X) → (b ≡ true → P x) → AllByRecursion P (when b x)
all-when P true x h = (h refl, tt)
all-when P false x h = tt

-- the second of two tests
or-true : (b c : Bool) → c ≡ true → (b || c) ≡ true
or-true true c h = refl
or-true false c h = h

-- a test of membership finds what is there
among-has : (k : ℕ) (ns : List ℕ) → Has ns k → among k ns ≡ true
among-has k [] h = absurd (has-none k h)
among-has k (n ∷ ns) h = has-cases (among k (n ∷ ns) ≡ true) n ns k h (λ e. ap (λ b. b || among k ns) (eq-eqb n k e)) (λ i. or-true (nat_eq n k) (among k ns) (among-has k ns i))

-- and nothing else
has-among : (k : ℕ) (ns : List ℕ) → among k ns ≡ true → Has ns k
has-among k [] h = absurd (cc)
has-among k (n ∷ ns) h = by_equal (nat_eq n k) refl h (has-among k ns)
  where
    by_equal : (b : Bool) → nat_eq n k ≡ b → (b || among k ns) ≡ true → (among k ns ≡ true → Has ns k) → Has (n ∷ ns) k
    by_equal true e g more = record { index = 0; is = ap (λ j. Some j) (eqb-true n k e) }
    by_equal false e g more = has-later n ns k (more g)

-- ---- what names it uses it

-- the use is as a part of this occurrence
abbrev pub IsPartUse : ℕ → Use → Type 0
IsPartUse n (PartOf whole) = whole ≡ n
IsPartUse n (BranchOf whole condition side) = whole ≡ n
IsPartUse n (DefinerOf call) = ⊥
IsPartUse n (SlopeOf call) = ⊥
IsPartUse n (EventOf call) = ⊥
IsPartUse n (StartOf call b) = ⊥
IsPartUse n (ResetOf call events arm) = ⊥
IsPartUse n TestOf = ⊥
IsPartUse n ArgumentOf = ⊥
IsPartUse n AgainOf = ⊥

-- the use is by a definer of a place with this call
abbrev pub IsDefinerUse : Option ℕ → Use → Type 0
IsDefinerUse c (PartOf whole) = ⊥
IsDefinerUse c (BranchOf whole condition side) = ⊥
IsDefinerUse c (DefinerOf call) = call ≡ c
IsDefinerUse c (SlopeOf call) = call ≡ c
IsDefinerUse c (EventOf call) = call ≡ c
IsDefinerUse c (StartOf call b) = call ≡ c
IsDefinerUse c (ResetOf call events arm) = call ≡ c
IsDefinerUse c TestOf = ⊥
IsDefinerUse c ArgumentOf = ⊥
IsDefinerUse c AgainOf = ⊥

-- one of these uses is such
pub record HasUse (uses : List Use) (P : Use → Type 0) : Type 0 where
  pub use_is : Use
  pub has : Has uses use_is
  pub holds : P use_is

-- a use that more uses have
use-in : (us vs : List Use) (P : Use → Type 0) → ((u : Use) → Has us u → Has vs u) → HasUse us P → HasUse vs P
use-in us vs P g h = record { use_is = h.use_is; has = g h.use_is h.has; holds = h.holds }

-- a use, if the test holds
when-use : (b : Bool) (u : Use) (P : Use → Type 0) → b ≡ true → P u → HasUse (when b u) P
when-use b u P e h = record { use_is = u; has = has-when b u e; holds = h }

module _ (k : ℕ) where
  -- a part of an occurrence that is no `if`
  of-part : (n : ℕ) (form : Form) → Has (parts form) k → HasUse (when (among k (parts form)) (PartOf n)) (IsPartUse n)
  of-part n form h = when-use (among k (parts form)) (PartOf n) (IsPartUse n) (among-has k (parts form) h) refl

  -- a part of an `if`
  of-if : (n c x y : ℕ) → Has (c ∷ x ∷ y ∷ []) k → HasUse (part_uses k n (If c x y)) (IsPartUse n)
  of-if n c x y h =
      by_first (has-case c (x ∷ y ∷ []) k h)
    where
      test : List Use
      test = when (nat_eq c k) (PartOf n)

      yes_branch : List Use
      yes_branch = when (nat_eq x k) (BranchOf n c true)

      no_branch : List Use
      no_branch = when (nat_eq y k) (BranchOf n c false)

      by_last : (y ≡ k) ⊎ Has [] k → HasUse (part_uses k n (If c x y)) (IsPartUse n)
      by_last (inl e) = use-in no_branch (test ++ yes_branch ++ no_branch) (IsPartUse n) (λ u i. has-right (test ++ yes_branch) no_branch u i) (when-use (nat_eq y k) (BranchOf n c false) (IsPartUse n) (eq-eqb y k e) refl)
      by_last (inr i) = absurd (has-none k i)

      by_second : (x ≡ k) ⊎ Has (y ∷ []) k → HasUse (part_uses k n (If c x y)) (IsPartUse n)
      by_second (inl e) = use-in yes_branch (test ++ yes_branch ++ no_branch) (IsPartUse n) (λ u i. has-left (test ++ yes_branch) no_branch u (has-right test yes_branch u i)) (when-use (nat_eq x k) (BranchOf n c true) (IsPartUse n) (eq-eqb x k e) refl)
      by_second (inr i) = by_last (has-case y [] k i)

      by_first : (c ≡ k) ⊎ Has (x ∷ y ∷ []) k → HasUse (part_uses k n (If c x y)) (IsPartUse n)
      by_first (inl e) = use-in test (test ++ yes_branch ++ no_branch) (IsPartUse n) (λ u i. has-left (test ++ yes_branch) no_branch u (has-left test yes_branch u i)) (when-use (nat_eq c k) (PartOf n) (IsPartUse n) (eq-eqb c k e) refl)
      by_first (inr i) = by_second (has-case x (y ∷ []) k i)

  -- a part of an occurrence
  of-form : (n : ℕ) (form : Form) → Has (parts form) k → HasUse (part_uses k n form) (IsPartUse n)
  of-form n (If c x y) h = of-if n c x y h
  of-form n form h = of-part n form h

  -- a use by one occurrence of many
  in-occs : (m n : ℕ) (occs : List Occ) (occ : Occ) (u : Use) → slice_get occs n ≡ Some occ → Has (part_uses k (m + n) occ.form) u → Has (uses_in_occs k m occs) u
  in-occs m n [] occ u is h = absurd (cc)
  in-occs m zero (x ∷ occs) occ u is h =
      has-left (part_uses k m x.form) (uses_in_occs k (suc m) occs) u (subst (λ j. Has (part_uses k j x.form) u) (no_more m) (subst (λ (o : Occ). Has (part_uses k (m + 0) o.form) u) (sym (the_same is)) h))
    where
      no_more : (m : ℕ) → m + 0 ≡ m
      no_more m = omega arith

      the_same : Some x ≡ Some occ → x ≡ occ
      the_same e = cc
  in-occs m (suc n) (x ∷ occs) occ u is h =
      has-right (part_uses k m x.form) (uses_in_occs k (suc m) occs) u (in-occs (suc m) n occs occ u is (subst (λ j. Has (part_uses k j occ.form) u) (one_more m n) h))
    where
      one_more : (m n : ℕ) → m + suc n ≡ suc m + n
      one_more m n = omega arith

  -- what reset arms name
  of-arms : (call : Option ℕ) (events : List ℕ) (n : ℕ) (arms : List DerArm) → Has (named_in arms) k → HasUse (arm_uses k call events n arms) (IsDefinerUse call)
  of-arms call events n [] h = absurd (has-none k h)
  of-arms call events n (a ∷ arms) h =
      let first = when (nat_eq a.event k) (EventOf call) in
      let second = when (nat_eq a.value k) (ResetOf call events n) in
      let rest = arm_uses k call events (suc n) arms in
      let Goal = HasUse (first ++ second ++ rest) (IsDefinerUse call) in
      has-cases Goal a.event (a.value ∷ named_in arms) k h
      (λ e. use-in first (first ++ second ++ rest) (IsDefinerUse call) (λ u i. has-left (first ++ second) rest u (has-left first second u i)) (when-use (nat_eq a.event k) (EventOf call) (IsDefinerUse call) (eq-eqb a.event k e) refl))
      (λ later. has-cases Goal a.value (named_in arms) k later
      (λ e. use-in second (first ++ second ++ rest) (IsDefinerUse call) (λ u i. has-left (first ++ second) rest u (has-right first second u i)) (when-use (nat_eq a.value k) (ResetOf call events n) (IsDefinerUse call) (eq-eqb a.value k e) refl))
      (λ i. use-in rest (first ++ second ++ rest) (IsDefinerUse call) (λ u j. has-right (first ++ second) rest u j) (of-arms call events (suc n) arms i)))

  -- what a definer names
  of-definer : (call : Option ℕ) (d : Definer) → Has (named_by d) k → HasUse (definer_uses k call d) (IsDefinerUse call)
  of-definer call (Input n) h = absurd (has-none k h)
  of-definer call (Plain b j) h = by_case (has-case j [] k h)
    where
      by_case : (j ≡ k) ⊎ Has [] k → HasUse (when (nat_eq j k) (DefinerOf call)) (IsDefinerUse call)
      by_case (inl e) = when-use (nat_eq j k) (DefinerOf call) (IsDefinerUse call) (eq-eqb j k e) refl
      by_case (inr i) = absurd (has-none k i)
  of-definer call (Der b slope resets) h = by_case (has-case slope (named_in resets) k h)
    where
      first : List Use
      first = when (nat_eq slope k) (SlopeOf call)

      by_case : (slope ≡ k) ⊎ Has (named_in resets) k → HasUse (first ++ arm_uses k call (events_of resets) 0 resets) (IsDefinerUse call)
      by_case (inl e) = use-in first (first ++ arm_uses k call (events_of resets) 0 resets) (IsDefinerUse call) (λ u i. has-left first (arm_uses k call (events_of resets) 0 resets) u i) (when-use (nat_eq slope k) (SlopeOf call) (IsDefinerUse call) (eq-eqb slope k e) refl)
      by_case (inr i) = use-in (arm_uses k call (events_of resets) 0 resets) (first ++ arm_uses k call (events_of resets) 0 resets) (IsDefinerUse call) (λ u j. has-right first (arm_uses k call (events_of resets) 0 resets) u j) (of-arms call (events_of resets) 0 resets i)
  of-definer call (Start b j) h = by_case (has-case j [] k h)
    where
      by_case : (j ≡ k) ⊎ Has [] k → HasUse (when (nat_eq j k) (StartOf call b)) (IsDefinerUse call)
      by_case (inl e) = when-use (nat_eq j k) (StartOf call b) (IsDefinerUse call) (eq-eqb j k e) refl
      by_case (inr i) = absurd (has-none k i)

module _ (f : FlatForm) (k : ℕ) where
  -- the uses by occurrences
  abbrev in_occs_uses : List Use
  in_occs_uses = uses_in_occs k 0 f.occs

  -- by definers
  abbrev in_places_uses : List Use
  in_places_uses = flat_map (place_uses k) f.places

  -- as a test
  abbrev test_uses : List Use
  test_uses = when (is_test f k) TestOf

  -- as an argument
  abbrev argument_uses : List Use
  argument_uses = when (is_argument f k) ArgumentOf

  -- as what is evaluated again
  abbrev again_uses : List Use
  again_uses = when (among k f.again) AgainOf

  -- a use by an occurrence is a use
  from-occs : (u : Use) → Has in_occs_uses u → Has (uses_of f k) u
  from-occs u h =
      has-left (in_occs_uses ++ in_places_uses ++ test_uses ++ argument_uses) again_uses u
      (has-left (in_occs_uses ++ in_places_uses ++ test_uses) argument_uses u
      (has-left (in_occs_uses ++ in_places_uses) test_uses u (has-left in_occs_uses in_places_uses u h)))

  -- a use by a definer is a use
  from-places : (u : Use) → Has in_places_uses u → Has (uses_of f k) u
  from-places u h =
      has-left (in_occs_uses ++ in_places_uses ++ test_uses ++ argument_uses) again_uses u
      (has-left (in_occs_uses ++ in_places_uses ++ test_uses) argument_uses u
      (has-left (in_occs_uses ++ in_places_uses) test_uses u (has-right in_occs_uses in_places_uses u h)))

  -- a part is used as one
  pub part-used : (n : ℕ) → IsPart f k n → HasUse (uses_of f k) (IsPartUse n)
  part-used n h = use-in (part_uses k n h.occ.form) (uses_of f k) (IsPartUse n)
      (λ u i. from-occs u (in-occs k 0 n f.occs h.occ u h.is (subst (λ j. Has (part_uses k j h.occ.form) u) (none_more n) i))) (of-form k n h.occ.form h.part)
    where
      none_more : (n : ℕ) → n ≡ 0 + n
      none_more n = omega arith

  -- a use by one definer of many
  in-place : (p : ℕ) (place : PlaceInfo) (d : Definer) → slice_get f.places p ≡ Some place → Has place.definers d → (u : Use) → Has (definer_uses k place.call d) u → Has (uses_of f k) u
  in-place p place d is has u h = from-places u (has-flat_map (place_uses k) f.places place u (record { index = p; is = is }) (has-flat_map (definer_uses k place.call) place.definers d u has h))

  -- what a definer names is used by it
  pub named-used : (p : ℕ) (place : PlaceInfo) (d : Definer) → slice_get f.places p ≡ Some place → Has place.definers d → Has (named_by d) k → HasUse (uses_of f k) (IsDefinerUse place.call)
  named-used p place d is has h = use-in (definer_uses k place.call d) (uses_of f k) (IsDefinerUse place.call) (in-place p place d is has) (of-definer k place.call d h)

  -- a test is used as one
  pub test-used : is_test f k ≡ true → Has (uses_of f k) TestOf
  test-used h =
      has-left (in_occs_uses ++ in_places_uses ++ test_uses ++ argument_uses) again_uses TestOf
      (has-left (in_occs_uses ++ in_places_uses ++ test_uses) argument_uses TestOf (has-right (in_occs_uses ++ in_places_uses) test_uses TestOf (has-when (is_test f k) TestOf h)))

-- a slope is used as one
pub slope-used : (f : FlatForm) (p : ℕ) (place : PlaceInfo) (b slope : ℕ) (resets : List DerArm) → slice_get f.places p ≡ Some place → Has place.definers (Der b slope resets) → Has (uses_of f slope) (SlopeOf place.call)
slope-used f p place b slope resets is has =
    in-place f slope p place (Der b slope resets) is has (SlopeOf place.call)
    (has-left (when (nat_eq slope slope) (SlopeOf place.call)) (arm_uses slope place.call (events_of resets) 0 resets) (SlopeOf place.call) (has-when (nat_eq slope slope) (SlopeOf place.call) (eq-eqb slope slope refl)))

-- ---- what uses it names it

-- a definer of a place with this call names the occurrence
pub record IsNamed (f : FlatForm) (k : ℕ) (call : Option ℕ) : Type 0 where
  pub number : ℕ
  pub place : PlaceInfo
  pub is : slice_get f.places number ≡ Some place
  pub call_is : place.call ≡ call
  pub definer : Definer
  pub has : Has place.definers definer
  pub named : Has (named_by definer) k

-- the derivative of a place with this call names the occurrence in its reset arms
pub record IsReset (f : FlatForm) (k : ℕ) (call : Option ℕ) : Type 0 where
  pub number : ℕ
  pub place : PlaceInfo
  pub is : slice_get f.places number ≡ Some place
  pub call_is : place.call ≡ call
  pub block : ℕ
  pub slope : ℕ
  pub resets : List DerArm
  pub has : Has place.definers (Der block slope resets)
  pub named : Has (named_in resets) k

-- what an occurrence that is used so is
abbrev pub Source : FlatForm → ℕ → Use → Type 0
Source f k (PartOf whole) = IsPart f k whole
Source f k (BranchOf whole condition side) = IsPart f k whole
Source f k (DefinerOf call) = IsNamed f k call
Source f k (SlopeOf call) = IsNamed f k call
Source f k (EventOf call) = IsReset f k call
Source f k (StartOf call b) = Unit {0}
Source f k (ResetOf call events arm) = Unit {0}
Source f k TestOf = Unit {0}
Source f k ArgumentOf = Unit {0}
Source f k AgainOf = ⊥

module _ (f : FlatForm) (k : ℕ) where
  -- uses by one occurrence
  sources-of-form : (n : ℕ) (occ : Occ) (form : Form) → slice_get f.occs n ≡ Some occ → occ.form ≡ form → AllByRecursion (Source f k) (part_uses k n form)
  sources-of-form n occ (If c x y) is e =
      all-append (Source f k) (when (nat_eq c k) (PartOf n) ++ when (nat_eq x k) (BranchOf n c true)) (when (nat_eq y k) (BranchOf n c false))
      (all-append (Source f k) (when (nat_eq c k) (PartOf n)) (when (nat_eq x k) (BranchOf n c true))
      (all-when (Source f k) (nat_eq c k) (PartOf n) (λ g. part 0 c refl g))
      (all-when (Source f k) (nat_eq x k) (BranchOf n c true) (λ g. part 1 x refl g)))
      (all-when (Source f k) (nat_eq y k) (BranchOf n c false) (λ g. part 2 y refl g))
    where
      part : (m j : ℕ) → slice_get (parts (If c x y)) m ≡ Some j → nat_eq j k ≡ true → IsPart f k n
      part m j there g = record { occ = occ; is = is; part = subst (λ form. Has (parts form) k) (sym e) (record { index = m; is = there ∙ ap (λ j. Some j) (eqb-true j k g) }) }
  sources-of-form n occ form is e = all-when (Source f k) (among k (parts form)) (PartOf n) (λ g. record { occ = occ; is = is; part = subst (λ form. Has (parts form) k) (sym e) (has-among k (parts form) g) })

  -- uses by occurrences
  sources-in-occs : (m : ℕ) (occs : List Occ) → AllFrom (λ n x. slice_get f.occs n ≡ Some x) m occs → AllByRecursion (Source f k) (uses_in_occs k m occs)
  sources-in-occs m [] h = tt
  sources-in-occs m (x ∷ occs) h =
      all-append (Source f k) (part_uses k m x.form) (uses_in_occs k (suc m) occs) (sources-of-form m x x.form h.0 refl)
      (sources-in-occs (suc m) occs (subst (λ n. AllFrom (λ n x. slice_get f.occs n ≡ Some x) n occs) (one_more m) h.1))
    where
      one_more : (m : ℕ) → m + 1 ≡ suc m
      one_more m = omega arith

  -- uses by reset arms
  sources-of-arms : (call : Option ℕ) (events : List ℕ) (n : ℕ) (arms : List DerArm) → (Has (named_in arms) k → IsReset f k call) → AllByRecursion (Source f k) (arm_uses k call events n arms)
  sources-of-arms call events n [] h = tt
  sources-of-arms call events n (a ∷ arms) h =
      all-append (Source f k) (when (nat_eq a.event k) (EventOf call) ++ when (nat_eq a.value k) (ResetOf call events n)) (arm_uses k call events (suc n) arms)
      (all-append (Source f k) (when (nat_eq a.event k) (EventOf call)) (when (nat_eq a.value k) (ResetOf call events n))
      (all-when (Source f k) (nat_eq a.event k) (EventOf call) (λ g. h (record { index = 0; is = ap (λ j. Some j) (eqb-true a.event k g) })))
      (all-when (Source f k) (nat_eq a.value k) (ResetOf call events n) (λ g. tt)))
      (sources-of-arms call events (suc n) arms (λ g. h (has-later a.event (a.value ∷ named_in arms) k (has-later a.value (named_in arms) k g))))

  -- uses by a definer
  sources-of-definer : (p : ℕ) (place : PlaceInfo) (d : Definer) → slice_get f.places p ≡ Some place → Has place.definers d → AllByRecursion (Source f k) (definer_uses k place.call d)
  sources-of-definer p place (Input n) is has = tt
  sources-of-definer p place (Plain b j) is has =
      all-when (Source f k) (nat_eq j k) (DefinerOf place.call) (λ g. record { number = p; place = place; is = is; call_is = refl; definer = Plain b j; has = has; named = record { index = 0; is = ap (λ n. Some n) (eqb-true j k g) } })
  sources-of-definer p place (Der b slope resets) is has =
      all-append (Source f k) (when (nat_eq slope k) (SlopeOf place.call)) (arm_uses k place.call (events_of resets) 0 resets)
      (all-when (Source f k) (nat_eq slope k) (SlopeOf place.call) (λ g. record { number = p; place = place; is = is; call_is = refl; definer = Der b slope resets; has = has; named = record { index = 0; is = ap (λ n. Some n) (eqb-true slope k g) } }))
      (sources-of-arms place.call (events_of resets) 0 resets (λ named. record { number = p; place = place; is = is; call_is = refl; block = b; slope = slope; resets = resets; has = has; named = named }))
  sources-of-definer p place (Start b j) is has = all-when (Source f k) (nat_eq j k) (StartOf place.call b) (λ g. tt)

  -- uses by the definers of places
  sources-in-places : (p : ℕ) (places : List PlaceInfo) → AllFrom (λ n x. slice_get f.places n ≡ Some x) p places → AllByRecursion (Source f k) (flat_map (place_uses k) places)
  sources-in-places p [] h = tt
  sources-in-places p (x ∷ places) h =
      all-append (Source f k) (place_uses k x) (flat_map (place_uses k) places)
      (all-flat_map (Source f k) (definer_uses k x.call) x.definers (all-map (Has x.definers) (λ d. AllByRecursion (Source f k) (definer_uses k x.call d)) (λ d has. sources-of-definer p x d h.0 has) x.definers (each-has x.definers)))
      (sources-in-places (p + 1) places h.1)

  -- each use has its source
  pub all-sources : f.again ≡ [] → AllByRecursion (Source f k) (uses_of f k)
  all-sources again =
      let us = uses_in_occs k 0 f.occs in
      let vs = flat_map (place_uses k) f.places in
      let ts = when (is_test f k) TestOf in
      let gs = when (is_argument f k) ArgumentOf in
      all-append (Source f k) (us ++ vs ++ ts ++ gs) (when (among k f.again) AgainOf)
      (all-append (Source f k) (us ++ vs ++ ts) gs
      (all-append (Source f k) (us ++ vs) ts
      (all-append (Source f k) us vs (sources-in-occs 0 f.occs (all-stand [] f.occs)) (sources-in-places 0 f.places (all-stand [] f.places)))
      (all-when (Source f k) (is_test f k) TestOf (λ g. tt)))
      (all-when (Source f k) (is_argument f k) ArgumentOf (λ g. tt)))
      (all-when (Source f k) (among k f.again) AgainOf (not_again f.again again))
    where
      not_again : (ks : List ℕ) → ks ≡ [] → among k ks ≡ true → ⊥
      not_again [] e g = cc
      not_again (j ∷ ks) e g = cc

-- ---- what nothing uses

-- an occurrence without entries in its list of uses isn't used
pub listed-unused : (f : FlatForm) (k : ℕ) → uses_of f k ≡ [] → IsUnused f k
listed-unused f k none of named = has-none of (subst (λ us. Has us of) none (listed-of-use f k of named))

-- and one that isn't used has no entry
pub unused-listed : (f : FlatForm) (k : ℕ) → IsUnused f k → uses_of f k ≡ []
unused-listed f k unused = by_uses (uses_of f k) refl
  where
    by_uses : (us : List Use) → uses_of f k ≡ us → us ≡ []
    by_uses [] e = refl
    by_uses (u ∷ us) e = absurd (unused u (use-of-listed f k u (subst (λ xs. Has xs u) (sym e) (record { index = 0; is = refl }))))
