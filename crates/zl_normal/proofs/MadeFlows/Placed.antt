-- Where the wires of the kernel that is made of a form stand, by what they stand for.
use Rattle.std.specs.Prelude.{◌≡◌, ℕ, zero, suc, ◌+◌, Bool, true, false, List, [], ◌∷◌, ◌++◌, slice_get, Some}
use Rattle.std.proofs.Common.{refl, sym, arith, subst, ◌⊎◌, inl, inr}
use Rattle.zl_value.specs.Lists.{Has, when}
use Rattle.zl_meaning.specs.FlatForm.{FlatForm}
use Rattle.zl_meaning.specs.declared.place.PlaceInfo.{PlaceInfo}
use Rattle.zl_meaning.specs.declared.occurrence.Occ.{Occ}
use Rattle.zl_meaning.proofs.Members.{has-left, has-right, has-later, has-none, has-append_case, has-when}
use Rattle.zl_normal.specs.PlaceWires.{definer_of, start_of}
use Rattle.zl_normal.specs.Tables.{Tables, is_computed, has_last, has_own_slope}
use Rattle.zl_normal.specs.Keys.{each, joints, value_keys, guard_keys, form_slope_keys, slope_keys, occ_keys, definer_keys, last_keys, place_keys, keys}
use Rattle.zl_normal.specs.Layout.{AreNumbered}
use Rattle.zl_normal.specs.declared.key.Key.{Key}
use Rattle.zl_normal.specs.declared.key.Key.TheVariants.{Step, Fresh, No, Zero, Last, Remembered, Again, Present, Slope, Motion}

-- it is solved at instants: it is no slope, and not what a slope alone asks for
abbrev pub at_instants : Key → Bool
at_instants Zero = false
at_instants (Present j) = false
at_instants (Slope j) = false
at_instants (Motion p) = false
at_instants key = true

-- it can be named as a slope
abbrev pub as_slope : Key → Bool
as_slope Zero = true
as_slope (Slope j) = true
as_slope (Motion p) = true
as_slope key = false

-- wire number `m` stands for something of this kind
pub record StandsFor (kind : Key → Bool) (keys : List Key) (m : ℕ) : Type 0 where
  pub key : Key
  pub is : slice_get keys m ≡ Some key
  pub of_kind : kind key ≡ true

never_both : (key : Key) → at_instants key ≡ true → as_slope key ≡ true → ⊥
never_both Zero a b = let n = a in absurd cc
never_both (Slope j) a b = let n = a in absurd cc
never_both (Motion p) a b = let n = a in absurd cc
never_both key a b = absurd cc

-- what is solved at instants is named as no slope
pub apart : (ks : List Key) (m : ℕ) → StandsFor at_instants ks m → StandsFor as_slope ks m → ⊥
apart ks m a b = never_both a.key a.of_kind (subst (λ key. as_slope key ≡ true) same b.of_kind)
  where
    same : b.key ≡ a.key
    same = let x = a.is in let y = b.is in cc

-- what is listed stands where its number says
pub numbered : (ks : List Key) (number : Key → ℕ) → AreNumbered ks number → (key : Key) → Has ks key → slice_get ks (number key) ≡ Some key
numbered ks number are key h = subst (λ m. slice_get ks m ≡ Some key) (sym (are h.index key h.is)) h.is

pub stands_for : (kind : Key → Bool) (ks : List Key) (number : Key → ℕ) → AreNumbered ks number → (key : Key) → Has ks key → kind key ≡ true → StandsFor kind ks (number key)
stands_for kind ks number are key h e = record { key = key; is = numbered ks number are key h; of_kind = e }

-- entry number `j` gives it
pub record ByEntry {X Y : Type 0} (g : ℕ → X → List Y) (n : ℕ) (xs : List X) (y : Y) : Type 0 where
  pub index : ℕ
  pub number : ℕ
  pub entry : X
  pub is : slice_get xs index ≡ Some entry
  pub counted : number ≡ n + index
  pub has : Has (g number entry) y

pub each-has : {X Y : Type 0} (g : ℕ → X → List Y) (n : ℕ) (xs : List X) (y : Y) → ByEntry g n xs y → Has (each g n xs) y
each-has g n [] y b = let e = b.is in absurd cc
each-has {X = X} {Y = Y} g n (x ∷ xs) y b = go (λ c. each-has g (suc n) xs y c) b.index b.is b.counted
  where
    go : (ByEntry g (suc n) xs y → Has (each g (suc n) xs) y) → (i : ℕ) → slice_get (x ∷ xs) i ≡ Some b.entry → b.number ≡ n + i → Has (each g n (x ∷ xs)) y
    go rest zero e c =
        let same : b.entry ≡ x = cc in
        let first : b.number ≡ n = omega arith in
        has-left (g n x) (each g (suc n) xs) y (subst (λ m. Has (g m x) y) first (subst (λ z. Has (g b.number z) y) same b.has))
    go rest (suc i) e c =
        has-right (g n x) (each g (suc n) xs) y (rest (record { index = i; number = b.number; entry = b.entry; is = e; counted = omega arith; has = b.has }))

pub has-each : {X Y : Type 0} (g : ℕ → X → List Y) (n : ℕ) (xs : List X) (y : Y) → Has (each g n xs) y → ByEntry g n xs y
has-each g n [] y h = absurd (has-none y h)
has-each {X = X} {Y = Y} g n (x ∷ xs) y h = go (λ k. has-each g (suc n) xs y k) (has-append_case (g n x) (each g (suc n) xs) y h)
  where
    later : ByEntry g (suc n) xs y → ByEntry g n (x ∷ xs) y
    later b = record { index = suc b.index; number = b.number; entry = b.entry; is = b.is; counted = let c = b.counted in omega arith; has = b.has }

    go : (Has (each g (suc n) xs) y → ByEntry g (suc n) xs y) → Has (g n x) y ⊎ Has (each g (suc n) xs) y → ByEntry g n (x ∷ xs) y
    go rest (inl k) = record { index = 0; number = n; entry = x; is = refl; counted = omega arith; has = k }
    go rest (inr k) = later (rest k)

module _ (f : FlatForm) (grades : List ℕ) (t : Tables) where
  abbrev of_occs : List Key
  of_occs = each (occ_keys f grades t) 0 f.occs

  abbrev of_places : List Key
  of_places = each (place_keys f grades t) 0 f.places

  past_fixed : (key : Key) → Has (of_occs ++ of_places ++ joints Again 0 f.again) key → Has (keys f grades t) key
  past_fixed key h = record { index = suc (suc (suc (suc h.index))); is = h.is }

  -- what is made of an occurrence, of a place, has a wire
  pub of_occ : (j : ℕ) (occ : Occ) (key : Key) → slice_get f.occs j ≡ Some occ → Has (occ_keys f grades t j occ) key → Has (keys f grades t) key
  of_occ j occ key is h =
      past_fixed key (has-left (of_occs ++ of_places) (joints Again 0 f.again) key (has-left of_occs of_places key
      (each-has (occ_keys f grades t) 0 f.occs key (record { index = j; number = j; entry = occ; is = is; counted = omega arith; has = h }))))

  pub of_place : (p : ℕ) (place : PlaceInfo) (key : Key) → slice_get f.places p ≡ Some place → Has (place_keys f grades t p place) key → Has (keys f grades t) key
  of_place p place key is h =
      past_fixed key (has-left (of_occs ++ of_places) (joints Again 0 f.again) key (has-right of_occs of_places key
      (each-has (place_keys f grades t) 0 f.places key (record { index = p; number = p; entry = place; is = is; counted = omega arith; has = h }))))

  pub step_there : Has (keys f grades t) Step
  step_there = record { index = 0; is = refl }

  pub fresh_there : Has (keys f grades t) Fresh
  fresh_there = record { index = 1; is = refl }

  pub no_there : Has (keys f grades t) No
  no_there = record { index = 2; is = refl }

  pub zero_there : Has (keys f grades t) Zero
  zero_there = record { index = 3; is = refl }

  -- the value of an occurrence, its slope
  pub value_there : (j : ℕ) (occ : Occ) (key : Key) → slice_get f.occs j ≡ Some occ → Has (value_keys f grades t j occ.form) key → Has (keys f grades t) key
  value_there j occ key is h =
      of_occ j occ key is
      (has-left (value_keys f grades t j occ.form ++ guard_keys f grades t j (slice_get t.roles j)) (slope_keys f grades t j occ) key
      (has-left (value_keys f grades t j occ.form) (guard_keys f grades t j (slice_get t.roles j)) key h))

  pub guard_there : (j : ℕ) (occ : Occ) (key : Key) → slice_get f.occs j ≡ Some occ → Has (guard_keys f grades t j (slice_get t.roles j)) key → Has (keys f grades t) key
  guard_there j occ key is h =
      of_occ j occ key is
      (has-left (value_keys f grades t j occ.form ++ guard_keys f grades t j (slice_get t.roles j)) (slope_keys f grades t j occ) key
      (has-right (value_keys f grades t j occ.form) (guard_keys f grades t j (slice_get t.roles j)) key h))

  pub slope_there : (j : ℕ) (occ : Occ) (key : Key) → slice_get f.occs j ≡ Some occ → has_own_slope f grades j occ ≡ true → Has (form_slope_keys f grades t j occ.form) key → Has (keys f grades t) key
  slope_there j occ key is own h =
      let there : Has (slope_keys f grades t j occ) key = rw own h in
      of_occ j occ key is (has-right (value_keys f grades t j occ.form ++ guard_keys f grades t j (slice_get t.roles j)) (slope_keys f grades t j occ) key there)

  -- the value of a place, `last` of it
  pub definer_there : (p : ℕ) (place : PlaceInfo) (key : Key) → slice_get f.places p ≡ Some place → Has (definer_keys f grades t p place.call (definer_of place.definers)) key → Has (keys f grades t) key
  definer_there p place key is h = of_place p place key is (has-left (definer_keys f grades t p place.call (definer_of place.definers)) (last_keys f grades t p place) key h)

  pub last_there : (p : ℕ) (place : PlaceInfo) → slice_get f.places p ≡ Some place → has_last t p place ≡ true → Has (keys f grades t) (Last p)
  last_there p place is own =
      let first : Has (Last p ∷ when (is_computed f (start_of place.definers)) (Remembered p)) (Last p) = record { index = 0; is = refl } in
      let there : Has (last_keys f grades t p place) (Last p) = rw own first in
      of_place p place (Last p) is (has-right (definer_keys f grades t p place.call (definer_of place.definers)) (last_keys f grades t p place) (Last p) there)

  pub remembered_there : (p : ℕ) (place : PlaceInfo) → slice_get f.places p ≡ Some place → has_last t p place ≡ true → is_computed f (start_of place.definers) ≡ true → Has (keys f grades t) (Remembered p)
  remembered_there p place is own computed =
      let second : Has (Last p ∷ when (is_computed f (start_of place.definers)) (Remembered p)) (Remembered p) = has-later (Last p) (when (is_computed f (start_of place.definers)) (Remembered p)) (Remembered p) (has-when (is_computed f (start_of place.definers)) (Remembered p) computed) in
      let there : Has (last_keys f grades t p place) (Remembered p) = rw own second in
      of_place p place (Remembered p) is (has-right (definer_keys f grades t p place.call (definer_of place.definers)) (last_keys f grades t p place) (Remembered p) there)

  pub again_there : (key : Key) → Has (joints Again 0 f.again) key → Has (keys f grades t) key
  again_there key h = past_fixed key (has-right (of_occs ++ of_places) (joints Again 0 f.again) key h)
