-- What is listed among the wires and memories of the kernel that is made of a form belongs to an occurrence or a place.
use Rattle.std.specs.Prelude.{◌≡◌, ℕ, zero, suc, Bool, true, false, not, ◌||◌, nat_eq, List, [], ◌∷◌, ◌++◌, slice_get, get_or, Option, Some, None}
use Rattle.std.specs.List.{AllByRecursion}
use Rattle.std.proofs.Common.{refl, sym, ◌∙◌, arith, subst, ◌⊎◌, inl, inr}
use Rattle.zl_value.specs.Lists.{Has, when}
use Rattle.zl_meaning.specs.FlatForm.{FlatForm, place_call}
use Rattle.zl_meaning.specs.declared.place.Definer.{Definer}
use Rattle.zl_meaning.specs.declared.place.Definer.TheVariants.{Input, Plain, Der, Start}
use Rattle.zl_meaning.specs.declared.place.PlaceInfo.{PlaceInfo}
use Rattle.zl_meaning.specs.declared.occurrence.Form.{Form}
use Rattle.zl_meaning.specs.declared.occurrence.Form.TheVariants.{Lit, Read, Last as LastOf, Op as Apply, If, Arrow, Pre, Result, Up, Fired, Step as AtSteps}
use Rattle.zl_meaning.specs.declared.occurrence.Occ.{Occ}
use Rattle.zl_meaning.proofs.Members.{has-cases, has-none, has-append_case, all-has, all-append}
use Rattle.zl_normal.specs.PlaceWires.{definer_of, start_of}
use Rattle.zl_normal.specs.Tables.{Tables, is_guarded, is_free, is_computed, has_last, has_own_slope}
use Rattle.zl_normal.specs.Keys.{each, joints, value_keys, guard_keys, form_slope_keys, slope_keys, occ_keys, arm_keys, definer_keys, last_keys, place_keys, keys}
use Rattle.zl_normal.specs.declared.role.Role.{Role}
use Rattle.zl_normal.specs.declared.role.Role.TheVariants.{Unused, Part, Branch, Both, Definer as OfDefiner, Slope as OfSlope, Event as OfEvent, Start as OfStart, Reset as OfReset, Argument, Again as ForAgain}
use Rattle.zl_normal.specs.declared.key.Key.{Key}
use Rattle.zl_normal.specs.declared.key.Key.TheVariants.{Step, Fresh, No, Zero, Value, Rest, Next, Other, Guard, Place, Between, Taken, Passed, Chosen, Last, Remembered, Again, Present, Slope, Motion}
use Rattle.zl_normal.proofs.MadeFlows.Placed.{ByEntry, has-each}

-- the occurrence whose slope it is, or asks for; the place whose `last` it is
abbrev pub sloped : Key → Option ℕ
sloped (Present j) = Some j
sloped (Slope j) = Some j
sloped key = None

abbrev pub lasting : Key → Option ℕ
lasting (Last p) = Some p
lasting key = None

-- what holds of all wires of values and guards, of places
pub record ForOccs (P : Key → Type 0) : Type 0 where
  pub value : (j : ℕ) → P (Value j)
  pub rest : (j i : ℕ) → P (Rest j i)
  pub next : (j : ℕ) → P (Next j)
  pub other : (j : ℕ) → P (Other j)
  pub guard : (j : ℕ) → P (Guard j)

pub record ForPlaces (P : Key → Type 0) : Type 0 where
  pub place : (p : ℕ) → P (Place p)
  pub between : (p : ℕ) → P (Between p)
  pub motion : (p : ℕ) → P (Motion p)
  pub taken : (p i : ℕ) → P (Taken p i)
  pub passed : (p i : ℕ) → P (Passed p i)
  pub chosen : (p i : ℕ) → P (Chosen p i)

pub when_all : (P : Key → Type 0) (b : Bool) (key : Key) → P key → AllByRecursion P (when b key)
when_all P true key e = (e, tt)
when_all P false key e = tt

pub joints_all : (P : Key → Type 0) (key : ℕ → Key) → ((i : ℕ) → P (key i)) → (i : ℕ) (ks : List ℕ) → AllByRecursion P (joints key i ks)
joints_all P key h i [] = tt
joints_all P key h i (u ∷ []) = tt
joints_all P key h i (u ∷ v ∷ us) = (h i, joints_all P key h (suc i) (v ∷ us))

pub each_all : {X : Type 0} (P : Key → Type 0) (g : ℕ → X → List Key) → ((i : ℕ) (x : X) → AllByRecursion P (g i x)) → (i : ℕ) (xs : List X) → AllByRecursion P (each g i xs)
each_all P g h i [] = tt
each_all P g h i (x ∷ xs) = all-append P (g i x) (each g (suc i) xs) (h i x) (each_all P g h (suc i) xs)

-- what is picked is none of those that aren't
pub none_picked : (pick : Key → Option ℕ) (ks : List Key) → AllByRecursion (λ key. pick key ≡ None) ks → (key : Key) (j : ℕ) → Has ks key → pick key ≡ Some j → ⊥
none_picked pick ks all key j h e = let n : pick key ≡ None = all-has (λ key. pick key ≡ None) ks key all h in absurd cc

module _ (f : FlatForm) (grades : List ℕ) (t : Tables) where
  module _ (P : Key → Type 0) (o : ForOccs P) where
    value_all : (j : ℕ) (form : Form) → AllByRecursion P (value_keys f grades t j form)
    value_all j (Lit v) = when_all P (nat_eq (get_or t.firsts j 0) j) (Value j) (o.value j)
    value_all j (Read p) = tt
    value_all j (LastOf p) = tt
    value_all j (Apply op ks) = (o.value j, tt)
    value_all j (If c x y) = (o.value j, tt)
    value_all j (Arrow x y) = (o.value j, tt)
    value_all j (Pre x) = (o.value j, when_all P (not (is_guarded f t x)) (Next j) (o.next j))
    value_all j (Result x) = tt
    value_all j (Up s) = (o.value j, tt)
    value_all j (Fired ks) = joints_all P (Rest j) (λ i. o.rest j i) 0 ks
    value_all j AtSteps = tt

    guard_all : (j : ℕ) (role : Option Role) → AllByRecursion P (guard_keys f grades t j role)
    guard_all j None = tt
    guard_all j (Some Unused) = tt
    guard_all j (Some (Part whole)) = tt
    guard_all j (Some (Branch whole c true)) = when_all P (not (get_or t.free whole false || is_guarded f t c)) (Guard j) (o.guard j)
    guard_all j (Some (Branch whole c false)) = (o.guard j, tt)
    guard_all j (Some (Both whole c)) = (o.other j, (o.guard j, tt))
    guard_all j (Some (OfDefiner p)) = tt
    guard_all j (Some (OfSlope p)) = tt
    guard_all j (Some (OfEvent p)) = tt
    guard_all j (Some (OfStart p)) = when_all P (not (is_free t (place_call f p))) (Guard j) (o.guard j)
    guard_all j (Some (OfReset p arm)) = when_all P (not (is_free t (place_call f p))) (Guard j) (o.guard j)
    guard_all j (Some Argument) = tt
    guard_all j (Some ForAgain) = tt

    pub before_slope : (j : ℕ) (occ : Occ) → AllByRecursion P (value_keys f grades t j occ.form ++ guard_keys f grades t j (slice_get t.roles j))
    before_slope j occ = all-append P (value_keys f grades t j occ.form) (guard_keys f grades t j (slice_get t.roles j)) (value_all j occ.form) (guard_all j (slice_get t.roles j))

  pub definer_all : (P : Key → Type 0) → ForPlaces P → (p : ℕ) (call : Option ℕ) (d : Option Definer) → AllByRecursion P (definer_keys f grades t p call d)
  definer_all P o p call None = when_all P (not (is_free t call)) (Place p) (o.place p)
  definer_all P o p call (Some (Input i)) = (o.place p, tt)
  definer_all P o p call (Some (Plain b j)) = when_all P (not (is_free t call || is_guarded f t j)) (Place p) (o.place p)
  definer_all P o p call (Some (Der b j arms)) =
      (o.place p, (o.between p, (o.motion p, each_all P (arm_keys f grades t p) (λ i arm. (o.taken p i, (o.passed p i, (o.chosen p i, tt)))) 0 arms)))
  definer_all P o p call (Some (Start b j)) = tt

  -- where it stands in the list
  pub data Whence (key : Key) : Type 0 where
    OfFixed : Has (Step ∷ Fresh ∷ No ∷ Zero ∷ []) key → Whence key
    OfOcc : (j : ℕ) (occ : Occ) → slice_get f.occs j ≡ Some occ → Has (occ_keys f grades t j occ) key → Whence key
    OfPlace : (p : ℕ) (place : PlaceInfo) → slice_get f.places p ≡ Some place → Has (place_keys f grades t p place) key → Whence key
    OfAgain : Has (joints Again 0 f.again) key → Whence key

  pub whence : (key : Key) → Has (keys f grades t) key → Whence key
  whence key h = by_index h.index h.is
    where
      occ_entry : ByEntry (occ_keys f grades t) 0 f.occs key → Whence key
      occ_entry b =
          let same : b.number ≡ b.index = let c = b.counted in omega arith in
          OfOcc b.number b.entry (subst (λ i. slice_get f.occs i ≡ Some b.entry) (sym same) b.is) b.has

      place_entry : ByEntry (place_keys f grades t) 0 f.places key → Whence key
      place_entry b =
          let same : b.number ≡ b.index = let c = b.counted in omega arith in
          OfPlace b.number b.entry (subst (λ i. slice_get f.places i ≡ Some b.entry) (sym same) b.is) b.has

      within : Has (each (occ_keys f grades t) 0 f.occs) key ⊎ Has (each (place_keys f grades t) 0 f.places) key → Whence key
      within (inl o) = occ_entry (has-each (occ_keys f grades t) 0 f.occs key o)
      within (inr p) = place_entry (has-each (place_keys f grades t) 0 f.places key p)

      past : Has (each (occ_keys f grades t) 0 f.occs ++ each (place_keys f grades t) 0 f.places) key ⊎ Has (joints Again 0 f.again) key → Whence key
      past (inl front) = within (has-append_case (each (occ_keys f grades t) 0 f.occs) (each (place_keys f grades t) 0 f.places) key front)
      past (inr a) = OfAgain a

      by_index : (m : ℕ) → slice_get (keys f grades t) m ≡ Some key → Whence key
      by_index zero s = OfFixed (record { index = 0; is = s })
      by_index (suc zero) s = OfFixed (record { index = 1; is = s })
      by_index (suc (suc zero)) s = OfFixed (record { index = 2; is = s })
      by_index (suc (suc (suc zero))) s = OfFixed (record { index = 3; is = s })
      by_index (suc (suc (suc (suc m)))) s =
          past
          (has-append_case (each (occ_keys f grades t) 0 f.occs ++ each (place_keys f grades t) 0 f.places) (joints Again 0 f.again) key (record { index = m; is = s }))

  -- it belongs to occurrence number `j`, whose slope has a wire of its own
  pub record OfSloped (j : ℕ) (key : Key) : Type 0 where
    pub occ : Occ
    pub is : slice_get f.occs j ≡ Some occ
    pub own : has_own_slope f grades j occ ≡ true
    pub has : Has (form_slope_keys f grades t j occ.form) key

  slope_number : (i j : ℕ) (form : Form) (key : Key) → Has (form_slope_keys f grades t i form) key → sloped key ≡ Some j → i ≡ j
  slope_number i j form key h e =
      some_number (sym (all-has (λ key. sloped key ≡ Some i) (form_slope_keys f grades t i form) key (all form) h) ∙ e)
    where
      some_number : Some i ≡ Some j → i ≡ j
      some_number q = cc

      all : (form : Form) → AllByRecursion (λ key. sloped key ≡ Some i) (form_slope_keys f grades t i form)
      all (Apply op ks) = (refl, (refl, tt))
      all form = (refl, tt)

  in_slope : (i j : ℕ) (occ : Occ) (key : Key) → slice_get f.occs i ≡ Some occ → Has (slope_keys f grades t i occ) key → sloped key ≡ Some j → (b : Bool) → has_own_slope f grades i occ ≡ b → OfSloped j key
  in_slope i j occ key is h e true own =
      let has : Has (form_slope_keys f grades t i occ.form) key = rw own at h in
      let same : i ≡ j = slope_number i j occ.form key has e in
      subst (λ j. OfSloped j key) same (record { occ = occ; is = is; own = own; has = has })
  in_slope i j occ key is h e false own = let has : Has [] key = rw own at h in absurd (has-none key has)

  unsloped_occs : ForOccs (λ key. sloped key ≡ None)
  unsloped_occs = record { value = λ j. refl; rest = λ j i. refl; next = λ j. refl; other = λ j. refl; guard = λ j. refl }

  unsloped_places : ForPlaces (λ key. sloped key ≡ None)
  unsloped_places = record { place = λ p. refl; between = λ p. refl; motion = λ p. refl; taken = λ p i. refl; passed = λ p i. refl; chosen = λ p i. refl }

  in_occ : (i j : ℕ) (occ : Occ) (key : Key) → slice_get f.occs i ≡ Some occ → Has (occ_keys f grades t i occ) key → sloped key ≡ Some j → OfSloped j key
  in_occ i j occ key is h e = by (has-append_case (value_keys f grades t i occ.form ++ guard_keys f grades t i (slice_get t.roles i)) (slope_keys f grades t i occ) key h)
    where
      by : Has (value_keys f grades t i occ.form ++ guard_keys f grades t i (slice_get t.roles i)) key ⊎ Has (slope_keys f grades t i occ) key → OfSloped j key
      by (inl before) =
          absurd
          (none_picked sloped (value_keys f grades t i occ.form ++ guard_keys f grades t i (slice_get t.roles i)) (before_slope (λ key. sloped key ≡ None) unsloped_occs i occ) key j before e)
      by (inr at) = in_slope i j occ key is at e (has_own_slope f grades i occ) refl

  last_unsloped : (p : ℕ) (place : PlaceInfo) (b : Bool) → has_last t p place ≡ b → AllByRecursion (λ key. sloped key ≡ None) (last_keys f grades t p place)
  last_unsloped p place true e =
      let it : AllByRecursion (λ key. sloped key ≡ None) (Last p ∷ when (is_computed f (start_of place.definers)) (Remembered p)) = (refl, when_all (λ key. sloped key ≡ None) (is_computed f (start_of place.definers)) (Remembered p) refl) in
      rw e it
  last_unsloped p place false e = let it : AllByRecursion (λ key. sloped key ≡ None) [] = tt in rw e it

  -- a slope that has a wire, and the test that it asks for
  pub of_sloped : (key : Key) (j : ℕ) → Has (keys f grades t) key → sloped key ≡ Some j → OfSloped j key
  of_sloped key j h e = by (whence key h)
    where
      by : Whence key → OfSloped j key
      by (OfFixed h) = absurd (none_picked sloped (Step ∷ Fresh ∷ No ∷ Zero ∷ []) (refl, (refl, (refl, (refl, tt)))) key j h e)
      by (OfOcc i occ is h) = in_occ i j occ key is h e
      by (OfPlace p place is h) =
          absurd
          (none_picked sloped (place_keys f grades t p place)
          (all-append (λ key. sloped key ≡ None) (definer_keys f grades t p place.call (definer_of place.definers)) (last_keys f grades t p place) (definer_all (λ key. sloped key ≡ None) unsloped_places p place.call (definer_of place.definers)) (last_unsloped p place (has_last t p place) refl)) key j h e)
      by (OfAgain h) = absurd (none_picked sloped (joints Again 0 f.again) (joints_all (λ key. sloped key ≡ None) Again (λ i. refl) 0 f.again) key j h e)

  -- something asks for `last` of place number `p`
  pub record OfLast (p : ℕ) : Type 0 where
    pub place : PlaceInfo
    pub is : slice_get f.places p ≡ Some place
    pub own : has_last t p place ≡ true

  other_occs : ForOccs (λ key. lasting key ≡ None)
  other_occs = record { value = λ j. refl; rest = λ j i. refl; next = λ j. refl; other = λ j. refl; guard = λ j. refl }

  other_places : ForPlaces (λ key. lasting key ≡ None)
  other_places = record { place = λ p. refl; between = λ p. refl; motion = λ p. refl; taken = λ p i. refl; passed = λ p i. refl; chosen = λ p i. refl }

  slopes_other : (j : ℕ) (form : Form) → AllByRecursion (λ key. lasting key ≡ None) (form_slope_keys f grades t j form)
  slopes_other j (Apply op ks) = (refl, (refl, tt))
  slopes_other j form = (refl, tt)

  slope_other : (j : ℕ) (occ : Occ) (b : Bool) → has_own_slope f grades j occ ≡ b → AllByRecursion (λ key. lasting key ≡ None) (slope_keys f grades t j occ)
  slope_other j occ true e = let it = slopes_other j occ.form in rw e it
  slope_other j occ false e = let it : AllByRecursion (λ key. lasting key ≡ None) [] = tt in rw e it

  in_last : (q p : ℕ) (place : PlaceInfo) → slice_get f.places q ≡ Some place → Has (last_keys f grades t q place) (Last p) → (b : Bool) → has_last t q place ≡ b → OfLast p
  in_last q p place is h true own =
      let has : Has (Last q ∷ when (is_computed f (start_of place.definers)) (Remembered q)) (Last p) = rw own at h in
      has-cases (OfLast p) (Last q) (when (is_computed f (start_of place.definers)) (Remembered q)) (Last p) has
      (λ s. let same : q ≡ p = cc in subst (λ p. OfLast p) same (record { place = place; is = is; own = own }))
      (λ l. absurd (none_picked lasting (when (is_computed f (start_of place.definers)) (Remembered q)) (when_all (λ key. lasting key ≡ None) (is_computed f (start_of place.definers)) (Remembered q) refl) (Last p) p l refl))
  in_last q p place is h false own = let has : Has [] (Last p) = rw own at h in absurd (has-none (Last p) has)

  -- `last` of a place that has a wire
  pub of_last : (p : ℕ) → Has (keys f grades t) (Last p) → OfLast p
  of_last p h = by (whence (Last p) h)
    where
      in_place : (q : ℕ) (place : PlaceInfo) → slice_get f.places q ≡ Some place → Has (definer_keys f grades t q place.call (definer_of place.definers)) (Last p) ⊎ Has (last_keys f grades t q place) (Last p) → OfLast p
      in_place q place is (inl a) =
          absurd (none_picked lasting (definer_keys f grades t q place.call (definer_of place.definers)) (definer_all (λ key. lasting key ≡ None) other_places q place.call (definer_of place.definers)) (Last p) p a refl)
      in_place q place is (inr a) = in_last q p place is a (has_last t q place) refl

      by : Whence (Last p) → OfLast p
      by (OfFixed h) = absurd (none_picked lasting (Step ∷ Fresh ∷ No ∷ Zero ∷ []) (refl, (refl, (refl, (refl, tt)))) (Last p) p h refl)
      by (OfOcc i occ is h) =
          absurd
          (none_picked lasting (occ_keys f grades t i occ)
          (all-append (λ key. lasting key ≡ None) (value_keys f grades t i occ.form ++ guard_keys f grades t i (slice_get t.roles i)) (slope_keys f grades t i occ) (before_slope (λ key. lasting key ≡ None) other_occs i occ) (slope_other i occ (has_own_slope f grades i occ) refl)) (Last p) p h refl)
      by (OfPlace q place is h) = in_place q place is (has-append_case (definer_keys f grades t q place.call (definer_of place.definers)) (last_keys f grades t q place) (Last p) h)
      by (OfAgain h) = absurd (none_picked lasting (joints Again 0 f.again) (joints_all (λ key. lasting key ≡ None) Again (λ i. refl) 0 f.again) (Last p) p h refl)
