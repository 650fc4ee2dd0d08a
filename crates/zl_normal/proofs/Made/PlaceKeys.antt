-- What is listed among the wires of the kernel that is made of a form belongs to a place that moves, or that asks for what it
-- had before.
use Rattle.std.specs.Prelude.{◌≡◌, ℕ, Bool, true, false, not, ◌||◌, List, [], ◌∷◌, ◌++◌, slice_get, Option, Some, None}
use Rattle.std.specs.List.{AllByRecursion}
use Rattle.std.proofs.Common.{refl, subst, ◌⊎◌, inl, inr}
use Rattle.zl_value.specs.Lists.{Has, when}
use Rattle.zl_meaning.specs.FlatForm.{FlatForm}
use Rattle.zl_meaning.specs.declared.place.Definer.{Definer}
use Rattle.zl_meaning.specs.declared.place.Definer.TheVariants.{Input, Plain, Der, Start}
use Rattle.zl_meaning.specs.declared.place.PlaceInfo.{PlaceInfo}
use Rattle.zl_meaning.specs.declared.occurrence.Form.{Form}
use Rattle.zl_meaning.specs.declared.occurrence.Form.TheVariants.{Op as Apply}
use Rattle.zl_meaning.specs.declared.occurrence.Occ.{Occ}
use Rattle.zl_meaning.proofs.Members.{all-has, all-append, has-none, has-append_case}
use Rattle.zl_normal.specs.PlaceWires.{definer_of, start_of}
use Rattle.zl_normal.specs.Tables.{Tables, is_guarded, is_free, is_computed, has_last, has_own_slope}
use Rattle.zl_normal.specs.Keys.{joints, value_keys, guard_keys, form_slope_keys, slope_keys, occ_keys, arm_keys, definer_keys, last_keys, place_keys, keys}
use Rattle.zl_normal.specs.declared.key.Key.{Key}
use Rattle.zl_normal.specs.declared.key.Key.TheVariants.{Step, Fresh, No, Zero, Place, Between, Last, Remembered, Again, Motion}
use Rattle.zl_normal.proofs.MadeFlows.Owners.{ForOccs, ForPlaces, when_all, joints_all, each_all, none_picked, before_slope, definer_all, Whence, OfFixed, OfOcc, OfPlace, OfAgain, whence}
use Rattle.zl_normal.proofs.MadeFlows.Memories.{OfMoving}

-- the place that moves, or that has remembered
abbrev moving : Key → Option ℕ
moving (Between p) = Some p
moving (Motion p) = Some p
moving key = None

abbrev remembering : Key → Option ℕ
remembering (Remembered p) = Some p
remembering key = None

abbrev either : Key → Option ℕ
either (Between p) = Some p
either (Motion p) = Some p
either (Remembered p) = Some p
either key = None

module _ (f : FlatForm) (grades : List ℕ) (t : Tables) where
  -- it is one of the keys of a place
  record OfPlaceKeys (p : ℕ) (key : Key) : Type 0 where
    place : PlaceInfo
    is : slice_get f.places p ≡ Some place
    has : Has (place_keys f grades t p place) key

  -- what a place lists is of that place
  abbrev OfThis : ℕ → Key → Type 0
  OfThis q key = (p : ℕ) → either key ≡ Some p → q ≡ p

  definer_this : (q : ℕ) (call : Option ℕ) (d : Option Definer) → AllByRecursion (λ key. (p : ℕ) → either key ≡ Some p → q ≡ p) (definer_keys f grades t q call d)
  definer_this q call None = when_all (OfThis q) (not (is_free t call)) (Place q) (λ p e. absurd cc)
  definer_this q call (Some (Input i)) = (λ p e. absurd cc, tt)
  definer_this q call (Some (Plain b j)) = when_all (OfThis q) (not (is_free t call || is_guarded f t j)) (Place q) (λ p e. absurd cc)
  definer_this q call (Some (Der b j arms)) =
      (λ p e. absurd cc, (λ p e. cc, (λ p e. cc, each_all (OfThis q) (arm_keys f grades t q) (λ i arm. (λ p e. absurd cc, (λ p e. absurd cc, (λ p e. absurd cc, tt)))) 0 arms)))
  definer_this q call (Some (Start b j)) = tt

  last_all : (P : Key → Type 0) (q : ℕ) (place : PlaceInfo) → P (Last q) → P (Remembered q) → (b : Bool) → has_last t q place ≡ b → AllByRecursion P (last_keys f grades t q place)
  last_all P q place l r true e = let it : AllByRecursion P (Last q ∷ when (is_computed f (start_of place.definers)) (Remembered q)) = (l, when_all P (is_computed f (start_of place.definers)) (Remembered q) r) in rw e it
  last_all P q place l r false e = let it : AllByRecursion P [] = tt in rw e it

  place_this : (q : ℕ) (place : PlaceInfo) → AllByRecursion (λ key. (p : ℕ) → either key ≡ Some p → q ≡ p) (place_keys f grades t q place)
  place_this q place =
      all-append (OfThis q) (definer_keys f grades t q place.call (definer_of place.definers)) (last_keys f grades t q place) (definer_this q place.call (definer_of place.definers))
      (last_all (OfThis q) q place (λ p e. absurd cc) (λ p e. cc) (has_last t q place) refl)

  other_occs : ForOccs (λ key. either key ≡ None)
  other_occs = record { value = λ j. refl; rest = λ j i. refl; next = λ j. refl; other = λ j. refl; guard = λ j. refl }

  slopes_other : (j : ℕ) (form : Form) → AllByRecursion (λ key. either key ≡ None) (form_slope_keys f grades t j form)
  slopes_other j (Apply op ks) = (refl, (refl, tt))
  slopes_other j form = (refl, tt)

  slope_other : (j : ℕ) (occ : Occ) (b : Bool) → has_own_slope f grades j occ ≡ b → AllByRecursion (λ key. either key ≡ None) (slope_keys f grades t j occ)
  slope_other j occ true e = let it = slopes_other j occ.form in rw e it
  slope_other j occ false e = let it : AllByRecursion (λ key. either key ≡ None) [] = tt in rw e it

  occ_other : (j : ℕ) (occ : Occ) → AllByRecursion (λ key. either key ≡ None) (occ_keys f grades t j occ)
  occ_other j occ =
      all-append (λ key. either key ≡ None) (value_keys f grades t j occ.form ++ guard_keys f grades t j (slice_get t.roles j)) (slope_keys f grades t j occ)
      (before_slope f grades t (λ key. either key ≡ None) other_occs j occ) (slope_other j occ (has_own_slope f grades j occ) refl)

  in_place : (key : Key) (p : ℕ) → Has (keys f grades t) key → either key ≡ Some p → OfPlaceKeys p key
  in_place key p h e = by (whence f grades t key h)
    where
      by : Whence f grades t key → OfPlaceKeys p key
      by (OfFixed h) = absurd (none_picked either (Step ∷ Fresh ∷ No ∷ Zero ∷ []) (refl, (refl, (refl, (refl, tt)))) key p h e)
      by (OfOcc j occ is h) = absurd (none_picked either (occ_keys f grades t j occ) (occ_other j occ) key p h e)
      by (OfPlace q place is h) =
          let same : q ≡ p = all-has (OfThis q) (place_keys f grades t q place) key (place_this q place) h p e in
          subst (λ p. OfPlaceKeys p key) same (record { place = place; is = is; has = h })
      by (OfAgain h) = absurd (none_picked either (joints Again 0 f.again) (joints_all (λ key. either key ≡ None) Again (λ i. refl) 0 f.again) key p h e)

  -- a place that moves
  still_definer : (p : ℕ) (call : Option ℕ) (d : Option Definer) → ((b j : ℕ) (arms : _) → d ≡ Some (Der b j arms) → ⊥) → AllByRecursion (λ key. moving key ≡ None) (definer_keys f grades t p call d)
  still_definer p call None other = when_all (λ key. moving key ≡ None) (not (is_free t call)) (Place p) refl
  still_definer p call (Some (Input i)) other = (refl, tt)
  still_definer p call (Some (Plain b j)) other = when_all (λ key. moving key ≡ None) (not (is_free t call || is_guarded f t j)) (Place p) refl
  still_definer p call (Some (Der b j arms)) other = absurd (other b j arms refl)
  still_definer p call (Some (Start b j)) other = tt

  of_definer : (key : Key) (p : ℕ) (place : PlaceInfo) → slice_get f.places p ≡ Some place → moving key ≡ Some p → (d : Option Definer) → definer_of place.definers ≡ d → Has (definer_keys f grades t p place.call d) key → OfMoving f grades t p
  of_definer key p place is e (Some (Der b j arms)) der h = record { place = place; is = is; block = b; slope = j; arms = arms; der = der }
  of_definer key p place is e None der h = absurd (none_picked moving (definer_keys f grades t p place.call None) (still_definer p place.call None (λ b j arms s. cc)) key p h e)
  of_definer key p place is e (Some (Input i)) der h = absurd (none_picked moving (definer_keys f grades t p place.call (Some (Input i))) (still_definer p place.call (Some (Input i)) (λ b j arms s. cc)) key p h e)
  of_definer key p place is e (Some (Plain b j)) der h = absurd (none_picked moving (definer_keys f grades t p place.call (Some (Plain b j))) (still_definer p place.call (Some (Plain b j)) (λ b j arms s. cc)) key p h e)
  of_definer key p place is e (Some (Start b j)) der h = absurd (has-none key h)

  moving_place : (key : Key) (p : ℕ) → moving key ≡ Some p → OfPlaceKeys p key → OfMoving f grades t p
  moving_place key p e o = by (has-append_case (definer_keys f grades t p o.place.call (definer_of o.place.definers)) (last_keys f grades t p o.place) key o.has)
    where
      by : Has (definer_keys f grades t p o.place.call (definer_of o.place.definers)) key ⊎ Has (last_keys f grades t p o.place) key → OfMoving f grades t p
      by (inl h) = of_definer key p o.place o.is e (definer_of o.place.definers) refl h
      by (inr h) = absurd (none_picked moving (last_keys f grades t p o.place) (last_all (λ key. moving key ≡ None) p o.place refl refl (has_last t p o.place) refl) key p h e)

  pub of_between : (p : ℕ) → Has (keys f grades t) (Between p) → OfMoving f grades t p
  of_between p h = moving_place (Between p) p refl (in_place (Between p) p h refl)

  pub of_motion : (p : ℕ) → Has (keys f grades t) (Motion p) → OfMoving f grades t p
  of_motion p h = moving_place (Motion p) p refl (in_place (Motion p) p h refl)

  -- a place that has remembered
  pub record OfRemembered (p : ℕ) : Type 0 where
    pub place : PlaceInfo
    pub is : slice_get f.places p ≡ Some place
    pub own : has_last t p place ≡ true

  other_places : ForPlaces (λ key. remembering key ≡ None)
  other_places = record { place = λ p. refl; between = λ p. refl; motion = λ p. refl; taken = λ p i. refl; passed = λ p i. refl; chosen = λ p i. refl }

  in_last : (p : ℕ) (place : PlaceInfo) → slice_get f.places p ≡ Some place → Has (last_keys f grades t p place) (Remembered p) → (b : Bool) → has_last t p place ≡ b → OfRemembered p
  in_last p place is h true own = record { place = place; is = is; own = own }
  in_last p place is h false own = let none : Has [] (Remembered p) = rw own at h in absurd (has-none (Remembered p) none)

  pub of_remembered : (p : ℕ) → Has (keys f grades t) (Remembered p) → OfRemembered p
  of_remembered p h = by (in_place (Remembered p) p h refl)
    where
      by : OfPlaceKeys p (Remembered p) → OfRemembered p
      by o = cases (has-append_case (definer_keys f grades t p o.place.call (definer_of o.place.definers)) (last_keys f grades t p o.place) (Remembered p) o.has)
        where
          cases : Has (definer_keys f grades t p o.place.call (definer_of o.place.definers)) (Remembered p) ⊎ Has (last_keys f grades t p o.place) (Remembered p) → OfRemembered p
          cases (inl a) =
              absurd
              (none_picked remembering (definer_keys f grades t p o.place.call (definer_of o.place.definers)) (definer_all f grades t (λ key. remembering key ≡ None) other_places p o.place.call (definer_of o.place.definers)) (Remembered p) p a refl)
          cases (inr a) = in_last p o.place o.is a (has_last t p o.place) refl
