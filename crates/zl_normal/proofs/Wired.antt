-- The tables of wires give what is asked of the numbers of a form.
use Rattle.std.proofs.Common.{◌≡◌, ◌⊎◌, inl, inr, ℕ, ◌<◌, ◌≤◌, ◌||◌, Bool, true, false, not, if◌then◌else◌, List, [], ◌∷◌, length, slice_get, get_or, Option, Some, None, refl, sym, ap, subst, ◌∙◌, arith}
use Rattle.std.proofs.lemmas.Bool.{cases_lt}
use Rattle.std.proofs.lemmas.Option.{slice_get_within, slice_get_past}
use Rattle.zl_value.specs.declared.value.Value.{Value as AValue}
use Rattle.zl_value.specs.declared.op.Op.{Op}
use Rattle.zl_value.specs.declared.op.Op.TheVariants.{AddFloat, SubFloat}
use Rattle.zl_meaning.specs.FlatForm.{FlatForm, HasForm, call_of, place_call}
use Rattle.zl_meaning.specs.declared.place.Definer.{Definer}
use Rattle.zl_meaning.specs.declared.place.Definer.TheVariants.{Plain, Der}
use Rattle.zl_meaning.specs.declared.place.PlaceInfo.{PlaceInfo}
use Rattle.zl_meaning.specs.declared.occurrence.Form.{Form}
use Rattle.zl_meaning.specs.declared.occurrence.Form.TheVariants.{Lit, Read, Last as LastOf, Op as Apply, If, Arrow, Result, Fired, Step as AtSteps}
use Rattle.zl_meaning.specs.declared.occurrence.Occ.{Occ}
use Rattle.zl_normal.specs.PlaceWires.{definer_of}
use Rattle.zl_normal.specs.Wiring.{call_guard}
use Rattle.zl_normal.specs.KernelOf.{Numbers}
use Rattle.zl_normal.specs.Layout.{IsValueAt, IsGuardAt, IsPlaceAt, taken_slope, IsSlopeAt, IsMotionAt, IsWired, IsFirst, AreTables}
use Rattle.zl_normal.specs.Tables.{Tables, is_guarded, is_free, is_still, is_blank_occ, moves, has_made_slope}
use Rattle.zl_normal.specs.NumberTables.{KeyTables, WireTables, numbers_of, wire_number}
use Rattle.zl_normal.specs.Table.{IsTable}
use Rattle.zl_normal.specs.Roots.{AreRoots}
use Rattle.zl_normal.specs.GuardRoots.{AreGuardRoots, guard_link, link_by, has_guard, is_free_root, own_guard, guard_by_root}
use Rattle.zl_normal.specs.HaveTables.{HaveTables}
use Rattle.zl_normal.specs.Joined.{IsFrom}
use Rattle.zl_normal.specs.Origins.{own, value_origin, place_origin, taken_origin, slope_origin, motion_origin, occ_value, occ_slope, place_value, place_motion, origin, AreFrom}
use Rattle.zl_normal.specs.declared.joined.Origin.{Origin}
use Rattle.zl_normal.specs.declared.joined.Origin.TheVariants.{Own, OfOcc, OfPlace}
use Rattle.zl_normal.specs.declared.wiring.Table.TheVariants.{Values, Places, Slopes, Motions}
use Rattle.zl_normal.specs.declared.key.Key.TheVariants.{Zero, Place, Slope}
use Rattle.zl_normal.specs.declared.role.Role.{Role}
use Rattle.zl_normal.specs.declared.role.Role.TheVariants.{Unused, Part, Branch, Both, Definer as OfDefiner, Slope as OfSlope, Event as OfEvent, Start as OfStart, Reset as OfReset, Argument, Again as OfAgain}
use Rattle.zl_normal.proofs.AreTables.{past, table_entry}

-- of two origins
from_if : (occs places : List ℕ) (b : Bool) (o p : Origin) (x m n : ℕ) → (IsFrom occs places o x → x ≡ m) → (IsFrom occs places p x → x ≡ n) → IsFrom occs places (if b then o else p) x → x ≡ (if b then m else n)
from_if occs places true o p x m n left right from = left from
from_if occs places false o p x m n left right from = right from

module _ (f : FlatForm) (grades : List ℕ) (t : Tables) (k : KeyTables) (n : WireTables) where
  abbrev numbers : Numbers
  numbers = numbers_of k n

  value_case : (j : ℕ) (form : Form) → IsFrom n.values n.places (value_origin f grades t k j form) (get_or n.values j 0) → IsValueAt f grades t numbers j form
  value_case j (Fired []) from = from
  value_case j (Fired (u ∷ [])) from = from
  value_case j (Fired (u ∷ v ∷ us)) from = from
  value_case j form from = from

  place_case : (p : ℕ) (call : Option ℕ) (definer : Option Definer) → IsFrom n.values n.places (place_origin f grades t k p call definer) (get_or n.places p 0) → IsPlaceAt f grades t numbers p call definer
  place_case p call None from = from_if n.values n.places (is_free t call) _ _ (get_or n.places p 0) _ _ (λ e. e) (λ e. e) from
  place_case p call (Some (Plain b j)) from = from_if n.values n.places (is_free t call || is_guarded f t j) (OfOcc j) (own f grades t k (Place p)) (get_or n.places p 0) (get_or n.values j 0) (wire_number k (Place p)) (λ e. e) (λ e. e) from
  place_case p call (Some definer) from = from

  taken_case : (op : Op) (ks : List ℕ) (x : ℕ) → IsFrom n.slopes n.motions (taken_origin f grades t k op ks) x → x ≡ taken_slope f grades t numbers op ks
  taken_case AddFloat (a ∷ b ∷ []) x from = from_if n.slopes n.motions (is_still grades b) (OfOcc a) (OfOcc b) x (get_or n.slopes a 0) (get_or n.slopes b 0) (λ e. e) (λ e. e) from
  taken_case AddFloat [] x from = from
  taken_case AddFloat (a ∷ []) x from = from
  taken_case AddFloat (a ∷ b ∷ c ∷ cs) x from = from
  taken_case SubFloat [] x from = from
  taken_case SubFloat (a ∷ []) x from = from
  taken_case SubFloat (a ∷ b ∷ []) x from = from
  taken_case SubFloat (a ∷ b ∷ c ∷ cs) x from = from
  taken_case op ks x from = from

  slope_case : (j : ℕ) (form : Form) → IsFrom n.slopes n.motions (slope_origin f grades t k j form) (get_or n.slopes j 0) → IsSlopeAt f grades t numbers j form
  slope_case j (Apply op ks) from =
      from_if n.slopes n.motions (has_made_slope grades op ks) (own f grades t k (Slope j)) (taken_origin f grades t k op ks) (get_or n.slopes j 0) (wire_number k (Slope j)) (taken_slope f grades t numbers op ks) (λ e. e)
      (taken_case op ks (get_or n.slopes j 0)) from
  slope_case j (If c x y) from =
      from_if n.slopes n.motions (is_blank_occ f (slice_get f.occs y)) (OfOcc x) (own f grades t k (Slope j)) (get_or n.slopes j 0) (get_or n.slopes x 0) (wire_number k (Slope j)) (λ e. e) (λ e. e) from
  slope_case j form from = from

  motion_case : (p : ℕ) (definer : Option Definer) → IsFrom n.slopes n.motions (motion_origin f grades t k p definer) (get_or n.motions p 0) → IsMotionAt f grades t numbers p definer
  motion_case p None from = from
  motion_case p (Some (Plain b j)) from = from
  motion_case p (Some definer) from = from

  module _ (found : List ℕ) (known : HaveTables f t found) (guards : IsTable n.guards (length f.occs) (guard_by_root f t k n.values found)) where
    abbrev rooted : AreGuardRoots f t.roles found
    rooted = known.roots

    size : length t.roles ≡ length f.occs
    size = known.roles.size

    abbrev G : ℕ → Option ℕ
    G j = get_or n.guards j None

    -- an occurrence has the guard of its root, and what is none has no guard
    by_root : (j : ℕ) → G j ≡ guard_by_root f t k n.values found j
    by_root j = by_case (cases_lt j (length f.occs))
      where
        by_case : (j < length f.occs) ⊎ (length f.occs ≤ j) → G j ≡ guard_by_root f t k n.values found j
        by_case (inl l) = table_entry n.guards (length f.occs) (guard_by_root f t k n.values found) guards j None l
        by_case (inr l) =
            let root : get_or found j j ≡ j = past found j j (slice_get_past found j (omega (arith, rooted.roots.size, rooted.table.size, size, l))) in
            let none : slice_get t.roles j ≡ None = slice_get_past t.roles j (omega (arith, size, l)) in
            past n.guards j None (slice_get_past n.guards j (omega (arith, guards.size, l))) ∙ sym (ap (λ r. own_guard f t k n.values r (slice_get t.roles r)) root ∙ ap (own_guard f t k n.values j) none)

    module _ (j : ℕ) (role : Role) (is : slice_get t.roles j ≡ Some role) where
      link : slice_get rooted.links j ≡ Some (guard_link f j role)
      link = rooted.table.each j (slice_get_within t.roles j role is) ∙ ap (λ r. Some (link_by f j r)) is

      lone : guard_link f j role ≡ None → G j ≡ own_guard f t k n.values j (Some role)
      lone e =
          let root : get_or found j j ≡ j = rooted.roots.own j (link ∙ ap (λ (l : Option ℕ). Some l) e) in
          by_root j ∙ ap (λ r. own_guard f t k n.values r (slice_get t.roles r)) root ∙ ap (own_guard f t k n.values j) is

      as_that : (to : ℕ) → guard_link f j role ≡ Some to → G j ≡ G to
      as_that to e = by_root j ∙ ap (λ r. own_guard f t k n.values r (slice_get t.roles r)) (rooted.roots.same j to (link ∙ ap (λ (l : Option ℕ). Some l) e)) ∙ sym (by_root to)

      by_call : (call : Option ℕ) → guard_link f j role ≡ call → own_guard f t k n.values j (Some role) ≡ None → G j ≡ call_guard numbers.wiring call
      by_call None e none = lone e ∙ none
      by_call (Some to) e none = as_that to e

    guard_case : (j : ℕ) (role : Role) → slice_get t.roles j ≡ Some role → IsGuardAt f grades t numbers j role
    guard_case j Unused is = by_call j Unused is (call_of f j) refl refl
    guard_case j (Part whole) is = as_that j (Part whole) is whole refl
    guard_case j (Branch whole c true) is = lone j (Branch whole c true) is refl
    guard_case j (Branch whole c false) is = lone j (Branch whole c false) is refl
    guard_case j (Both whole c) is = lone j (Both whole c) is refl
    guard_case j (OfDefiner p) is = by_call j (OfDefiner p) is (place_call f p) refl refl
    guard_case j (OfSlope p) is = by_call j (OfSlope p) is (place_call f p) refl refl
    guard_case j (OfEvent p) is = by_call j (OfEvent p) is (place_call f p) refl refl
    guard_case j (OfStart p) is = lone j (OfStart p) is refl
    guard_case j (OfReset p arm) is = lone j (OfReset p arm) is refl
    guard_case j Argument is = lone j Argument is refl
    guard_case j OfAgain is = lone j OfAgain is refl

    -- what is always evaluated has no guard
    free_has_none : (j : ℕ) → get_or t.free j false ≡ true → G j ≡ None
    free_has_none j e = by_root j ∙ by_role (get_or found j j) (slice_get t.roles (get_or found j j)) (by_case (cases_lt j (length t.roles)))
      where
        by_case : (j < length t.roles) ⊎ (length t.roles ≤ j) → not (has_guard (slice_get t.roles (get_or found j j))) ≡ true
        by_case (inl l) = sym (table_entry t.free (length t.roles) (is_free_root t.roles found) known.free j false l) ∙ e
        by_case (inr l) = let bad : false ≡ true = sym (past t.free j false (slice_get_past t.free j (omega (arith, known.free.size, l)))) ∙ e in absurd (cc)

        by_role : (r : ℕ) (o : Option Role) → not (has_guard o) ≡ true → own_guard f t k n.values r o ≡ None
        by_role r (Some (Branch whole c side)) g = absurd (cc)
        by_role r (Some (Both whole c)) g = absurd (cc)
        by_role r (Some (OfStart p)) g = absurd (cc)
        by_role r (Some (OfReset p arm)) g = absurd (cc)
        by_role r o g = refl

    pub tables_wire : AreFrom f grades t k Values Places n.values n.places → AreFrom f grades t k Slopes Motions n.slopes n.motions → IsWired f grades t numbers
    tables_wire values slopes = record {
      values = λ j occ is. value_case j occ.form (subst (λ o. IsFrom n.values n.places (occ_value f grades t k j o) (get_or n.values j 0)) is (values.each_occ j (slice_get_within f.occs j occ is)));
      guards = guard_case;
      places = λ p place is.
          place_case p place.call (definer_of place.definers)
          (subst (λ o. IsFrom n.values n.places (place_value f grades t k p o) (get_or n.places p 0)) is (values.each_place p (slice_get_within f.places p place is)));
      lasts = λ p. refl;
      slopes = λ j occ is m. slope_case j occ.form (subst (λ b. IsFrom n.slopes n.motions (if b then slope_origin f grades t k j occ.form else own f grades t k Zero) (get_or n.slopes j 0)) m (slope_at j occ is));
      stills = λ j occ is m. subst (λ b. IsFrom n.slopes n.motions (if b then slope_origin f grades t k j occ.form else own f grades t k Zero) (get_or n.slopes j 0)) m (slope_at j occ is);
      motions = λ p place is float.
          motion_case p (definer_of place.definers)
          (subst (λ o. IsFrom n.slopes n.motions (place_motion f grades t k p o) (get_or n.motions p 0)) is (slopes.each_place p (slice_get_within f.places p place is)));
      step = refl;
      fresh = refl;
      zero = refl;
      first = refl;
    }
      where
        slope_at : (j : ℕ) (occ : Occ) → slice_get f.occs j ≡ Some occ → IsFrom n.slopes n.motions (occ_slope f grades t k j (Some occ)) (get_or n.slopes j 0)
        slope_at j occ is = subst (λ o. IsFrom n.slopes n.motions (occ_slope f grades t k j o) (get_or n.slopes j 0)) is (slopes.each_occ j (slice_get_within f.occs j occ is))

    pub tables_right : AreTables f grades t numbers
    tables_right = record { firsts = firsts; free = free_has_none; lasts = known.lasts }
      where
        firsts : (j : ℕ) (v : AValue) → HasForm f j (Lit v) → IsFirst f t j v
        firsts j v has =
            let same : get_or t.firsts j 0 ≡ j = table_entry t.firsts (length f.occs) (λ i. i) known.firsts j 0 (slice_get_within f.occs j has.0 has.1) in
            record { literal = subst (λ i. HasForm f i (Lit v)) (sym same) has; itself = ap (λ i. get_or t.firsts i 0) same }
