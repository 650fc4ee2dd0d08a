-- A flow lasts one time: two durations of flows in which the sites have the same values are equal.
use Rattle.std.specs.Prelude.{◌≡◌, ℕ, pos, Bool, true, false, not, ◌&&◌, ◌||◌, List, [], ◌∷◌, Option, Some, None}
use Rattle.std.specs.List.{list_any, list_all}
use Rattle.std.proofs.Common.{refl, sym, ap, ap₂, ◌∙◌, ⊎_elim}
use Rattle.zl_value.specs.Fraction.{Fraction, IsReduced, add}
use Rattle.zl_value.specs.Order.{below}
use Rattle.zl_value.specs.Lists.{listed}
use Rattle.zl_value.specs.Times.{nought, is_same, is_negative, is_below, is_above}
use Rattle.zl_value.specs.Stops.{stops, is_stop}
use Rattle.zl_value.specs.Crossings.{SiteValues, is_reached, is_kept, any_reached, Lasts}
use Rattle.zl_value.specs.declared.value.Value.{Value}
use Rattle.zl_value.specs.declared.value.Value.TheVariants.{B, I, F}
use Rattle.zl_value.specs.declared.script.Script.{Script}
use Rattle.zl_value.proofs.FractionOrder.{below_cases, same_parts, below-zero, below-add, below-add_self, below_asym}
use Rattle.zl_value.proofs.FractionLaws.{IsReduced-whole}
use Rattle.std.proofs.lemmas.Bool.{and_parts}

not_both : (x y : Bool) → x ≡ true → y ≡ true → not (x && y) ≡ true → ⊥
not_both true true p q r = cc
not_both true false p q r = cc
not_both false y p q r = cc

-- a stop that is the same as `u`, with none between `a` and `b`
stops_clash : (xs : List Fraction) (u a b : Fraction) → list_any (is_same u) xs ≡ true → list_all (λ x. not (below a x && below x b)) xs ≡ true → below a u ≡ true → below u b ≡ true → ⊥
stops_clash [] u a b any all p q = cc
stops_clash (x ∷ xs) u a b any all p q =
    let parts = and_parts (not (below a x && below x b)) (list_all (λ y. not (below a y && below y b)) xs) all in
    go (is_same u x) refl any parts.0 (stops_clash xs u a b) parts.1
  where
    go : (t : Bool) → is_same u x ≡ t → (t || list_any (is_same u) xs) ≡ true → not (below a x && below x b) ≡ true → (list_any (is_same u) xs ≡ true → list_all (λ y. not (below a y && below y b)) xs ≡ true → below a u ≡ true → below u b ≡ true → ⊥) → list_all (λ y. not (below a y && below y b)) xs ≡ true → ⊥
    go true e any' first rest all' =
        let w = same_parts u x e in
        not_both (below a x) (below x b) (ap (λ v. below a v) (sym w) ∙ p) (ap (λ v. below v b) (sym w) ∙ q) first
    go false e any' first rest all' = rest any' all' p q

not_clash : (b : Bool) → b ≡ true → not b ≡ true → ⊥
not_clash true p q = cc
not_clash false p q = cc

below_above : (v : Option Value) → is_below v ≡ true → is_above v ≡ true → ⊥
below_above None p q = cc
below_above (Some (B b)) p q = cc
below_above (Some (I n)) p q = cc
below_above (Some (F a)) p q = not_clash (is_negative a) p q

or_right : (x y : Bool) → x ≡ true → (not x || y) ≡ true → y ≡ true
or_right true y p q = q
or_right false y p q = absurd cc

-- a site that is reached isn't kept
site_clash : (start now : Option Value) → (is_below start && is_above now) ≡ true → (not (is_below start) || is_below now) ≡ true → ⊥
site_clash start now p q =
    let parts = and_parts (is_below start) (is_above now) p in
    below_above now (or_right (is_below start) (is_below now) parts.0 q) parts.1

sites_clash : (x y : SiteValues) (d : Fraction) (ks : List ℕ) → ((k : ℕ) → x nought k ≡ y nought k) → ((k : ℕ) → x d k ≡ y d k) → list_any (is_reached x d) ks ≡ true → list_all (is_kept y d) ks ≡ true → ⊥
sites_clash x y d [] start now any all = cc
sites_clash x y d (k ∷ ks) start now any all =
    let parts = and_parts (is_kept y d k) (list_all (is_kept y d) ks) all in
    go (is_reached x d k) refl any parts.0 (sites_clash x y d ks start now) parts.1
  where
    go : (t : Bool) → is_reached x d k ≡ t → (t || list_any (is_reached x d) ks) ≡ true → is_kept y d k ≡ true → (list_any (is_reached x d) ks ≡ true → list_all (is_kept y d) ks ≡ true → ⊥) → list_all (is_kept y d) ks ≡ true → ⊥
    go true e any' first rest all' =
        site_clash (y nought k) (y d k) (ap₂ (λ u v. is_below u && is_above v) (sym (start k)) (sym (now k)) ∙ e) first
    go false e any' first rest all' = rest any' all'

-- two flows from time `t` in which the sites have the same values at all moments
module _ (script : Script) (x y : SiteValues) (n : ℕ) (t : Fraction) (at_reduced : IsReduced t) (same : (s : Fraction) → IsReduced s → is_negative s ≡ false → (k : ℕ) → x s k ≡ y s k) where
  not_shorter : (d e : Fraction) → Lasts script x n t d → Lasts script y n t e → below d e ≡ true → ⊥
  not_shorter d e p q less = go (is_stop script (add t d)) refl p.reached
    where
      after : is_negative d ≡ false
      after = sym (below-zero d) ∙ below_asym nought d p.positive

      go : (b : Bool) → is_stop script (add t d) ≡ b → (b || any_reached x n d) ≡ true → ⊥
      go true stop any =
          stops_clash (stops script) (add t d) t (add t e) stop q.clear
          (below-add_self t d at_reduced p.reduced.above ∙ p.positive)
          (below-add t d e at_reduced.above p.reduced.above q.reduced.above ∙ less)
      go false stop any =
          sites_clash x y d (listed n 0 (λ k. k)) (same nought (IsReduced-whole (pos 0)) refl) (same d p.reduced after) any
          (q.first d p.reduced after less)

-- they last equally long
pub one_duration : (script : Script) (x y : SiteValues) (n : ℕ) (t d e : Fraction) → IsReduced t → ((s : Fraction) → IsReduced s → is_negative s ≡ false → (k : ℕ) → x s k ≡ y s k) → Lasts script x n t d → Lasts script y n t e → d ≡ e
one_duration script x y n t d e r same p q =
    ⊎_elim (λ less. absurd (not_shorter script x y n t r same d e p q less))
    (λ o. ⊎_elim (λ equal. equal) (λ less. absurd (not_shorter script y x n t r (λ s a b k. sym (same s a b k)) e d q p less)) o)
    (below_cases d e p.reduced q.reduced)
