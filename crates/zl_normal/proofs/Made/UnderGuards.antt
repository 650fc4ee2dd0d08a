-- The wires of guards in the kernel that is made of a form: those of branches and of `init` values, and what holds something
-- under a guard.
use Rattle.std.specs.Prelude.{◌≡◌, ℕ, Bool, true, false, not, ◌||◌, if◌then◌else◌, List, slice_get, get_or, Option, Some, None}
use Rattle.std.proofs.Common.{refl, sym, ap, ◌∙◌, subst, ◌⊎◌, inl, inr}
use Rattle.zl_meaning.specs.FlatForm.{FlatForm, place_call}
use Rattle.zl_meaning.specs.Uses.{BranchOf, StartOf, IsUse, AsPart, AsBranch}
use Rattle.zl_meaning.specs.WellFormed.{IsForm}
use Rattle.zl_meaning.specs.declared.occurrence.Form.{Form}
use Rattle.zl_meaning.specs.declared.occurrence.Form.TheVariants.{Op as Apply, If, Arrow}
use Rattle.zl_meaning.specs.declared.occurrence.Occ.{Occ}
use Rattle.zl_meaning.proofs.Members.{has-when}
use Rattle.zl_kernel.specs.KernelForm.{KernelForm}
use Rattle.zl_kernel.specs.declared.wire.Def.{Def}
use Rattle.zl_normal.specs.Wiring.{call_guard}
use Rattle.zl_normal.specs.KernelParts.{IsWire}
use Rattle.zl_normal.specs.Guards.{InChain, Same, ByGuard, Implied, IsUnder, Chained, Copied, IsBut, Turned, IsEither, Made, IsGuarded, Free, Chained as ChainedTo}
use Rattle.zl_normal.specs.UseGuards.{IsBranch}
use Rattle.zl_normal.specs.Tables.{Tables, is_solved, is_solved_occ, is_guarded, is_free}
use Rattle.zl_normal.specs.KernelOf.{Numbers}
use Rattle.zl_normal.specs.Layout.{IsValueAt}
use Rattle.zl_normal.specs.declared.role.Role.{Role}
use Rattle.zl_normal.specs.declared.role.Role.TheVariants.{Branch, Both, Start, Reset}
use Rattle.zl_normal.specs.declared.key.Key.TheVariants.{Guard, Other, Taken}
use Rattle.zl_normal.proofs.Made.Wires.{IsMade, value_as, guard_as, other_as, has_first}
use Rattle.zl_normal.proofs.Made.Uses.{Fits, fits, HasRole, has_role, part_guard}

-- either, by a test
pub choose : (P : ℕ → Type 0) (b : Bool) (x y : ℕ) → (b ≡ true → P x) → (b ≡ false → P y) → P (if b then x else y)
choose P true x y g h = g refl
choose P false x y g h = h refl

-- what stands where one of two tests holds
pub or_either : (a b : Bool) → (a || b) ≡ true → (a ≡ true) ⊎ (b ≡ true)
or_either true b e = inl refl
or_either false b e = inr e

module _ (f : FlatForm) (grades : List ℕ) (t : Tables) (n : Numbers) (k : KernelForm) (made : IsMade f grades t n k) where
  -- a wire that has the guard of its occurrence
  pub record HasOwn (j : ℕ) : Type 0 where
    pub def : Def
    pub wire : IsWire k (n.wiring.w j) def (n.wiring.G j)

  own_by : (j : ℕ) (o : Option Occ) → slice_get f.occs j ≡ o → is_solved_occ o ≡ true → HasOwn j
  own_by j None is e = absurd cc
  own_by j (Some occ) is e = by_form occ.form refl e (made.layout.wired.values j occ is)
    where
      by_form : (form : Form) → occ.form ≡ form → is_solved_occ (Some (record occ { form = form })) ≡ true → IsValueAt f grades t n j form → HasOwn j
      by_form (Apply op ks) of e at = record { def = _; wire = value_as f grades t n k made j occ is (Apply op ks) of (has_first _ _) (n.wiring.w j) at }
      by_form (If c x y) of e at = record { def = _; wire = value_as f grades t n k made j occ is (If c x y) of (has_first _ _) (n.wiring.w j) at }
      by_form (Arrow x y) of e at = record { def = _; wire = value_as f grades t n k made j occ is (Arrow x y) of (has_first _ _) (n.wiring.w j) at }
      by_form form of e at = absurd cc

  pub own_wire : (j : ℕ) → is_solved f j ≡ true → HasOwn j
  own_wire j e = own_by j (slice_get f.occs j) refl e

  -- where its guard is `g`, an occurrence that needs none further implies it
  pub implied : (j : ℕ) (g : Option ℕ) → n.wiring.G j ≡ g → is_guarded f t j ≡ true → Implied k g (n.wiring.w j)
  implied j None e guarded = tt
  implied j (Some h) e guarded = by (or_either (get_or t.free j false) (is_solved f j) guarded)
    where
      by : (get_or t.free j false ≡ true) ⊎ (is_solved f j ≡ true) → InChain k h (n.wiring.w j)
      by (inl free) = let none : n.wiring.G j ≡ None = made.layout.tables.free j free in let clash = sym none ∙ e in absurd cc
      by (inr solved) =
          let own = own_wire j solved in
          ByGuard (n.wiring.w j) h own.def (subst (λ g. IsWire k (n.wiring.w j) own.def g) e own.wire) Same

  -- and its wire holds what it has under it
  pub guarded_alone : (j : ℕ) (g : Option ℕ) → n.wiring.G j ≡ g → is_guarded f t j ≡ true → IsGuarded k (n.wiring.w j) g (n.wiring.w j)
  guarded_alone j None e guarded = Free refl
  guarded_alone j (Some h) e guarded = by (or_either (get_or t.free j false) (is_solved f j) guarded)
    where
      by : (get_or t.free j false ≡ true) ⊎ (is_solved f j ≡ true) → IsGuarded k (n.wiring.w j) (Some h) (n.wiring.w j)
      by (inl free) = let none : n.wiring.G j ≡ None = made.layout.tables.free j free in let clash = sym none ∙ e in absurd cc
      by (inr solved) =
          let own = own_wire j solved in
          ChainedTo own.def h (subst (λ g. IsWire k (n.wiring.w j) own.def g) e own.wire) Same

  -- what stands in a call that is always evaluated has no guard
  pub free_call : (call : Option ℕ) → is_free t call ≡ true → call_guard n.wiring call ≡ None
  free_call None e = refl
  free_call (Some call) e = made.layout.tables.free call e

  -- the test of a branch, and the whole
  pub branch_of : (j whole c : ℕ) (side : Bool) → IsUse f j (BranchOf whole c side) → IsBranch f k n.wiring whole c
  branch_of j _ _ _ (AsBranch whole c x y side has e) =
      let test = (made.formed.occs whole has.0 has.1).form in
      let typed : IsForm f has.0.block has.0.ty (If c x y) = subst (λ form. IsForm f has.0.block has.0.ty form) has.2 test in
      record {
        there = (has.0, has.1);
        test = record {
          there = (typed.0.occ, typed.0.is);
          guard = part_guard f grades t n k made c typed.0.occ typed.0.is whole (AsPart whole (If c x y) has (has_first _ _));
        };
      }

  -- the guard of a branch: that of the `yes` side, of the `no` side, of both
  pub yes_guard : (j : ℕ) (occ : Occ) → slice_get f.occs j ≡ Some occ → (whole c : ℕ) → slice_get t.roles j ≡ Some (Branch whole c true) → IsBranch f k n.wiring whole c → IsUnder k (n.wiring.G whole) (n.wiring.w c) (n.wiring.G j)
  yes_guard j occ is whole c at branch =
      subst (λ g. IsUnder k (n.wiring.G whole) (n.wiring.w c) g) (sym (made.layout.wired.guards j (Branch whole c true) at))
      (choose (λ m. IsUnder k (n.wiring.G whole) (n.wiring.w c) (Some m)) (get_or t.free whole false || is_guarded f t c) (n.wiring.w c) (n.wire (Guard j)) alone own)
    where
      alone : (get_or t.free whole false || is_guarded f t c) ≡ true → IsUnder k (n.wiring.G whole) (n.wiring.w c) (Some (n.wiring.w c))
      alone e = by (or_either (get_or t.free whole false) (is_guarded f t c) e)
        where
          by : (get_or t.free whole false ≡ true) ⊎ (is_guarded f t c ≡ true) → IsUnder k (n.wiring.G whole) (n.wiring.w c) (Some (n.wiring.w c))
          by (inl free) = Chained (subst (λ g. Implied k g (n.wiring.w c)) (sym (made.layout.tables.free whole free)) tt)
          by (inr guarded) = Chained (implied c (n.wiring.G whole) branch.test.guard guarded)

      own : (get_or t.free whole false || is_guarded f t c) ≡ false → IsUnder k (n.wiring.G whole) (n.wiring.w c) (Some (n.wire (Guard j)))
      own e =
          Copied (n.wire (Guard j))
          (guard_as f grades t n k made j occ is (Branch whole c true) at (has-when _ (Guard j) (ap (λ b. not b) e)) (n.wire (Guard j)) refl)

  pub no_guard : (j : ℕ) (occ : Occ) → slice_get f.occs j ≡ Some occ → (whole c : ℕ) → slice_get t.roles j ≡ Some (Branch whole c false) → IsBut k (n.wiring.G whole) (n.wiring.w c) (n.wiring.G j)
  no_guard j occ is whole c at =
      subst (λ g. IsBut k (n.wiring.G whole) (n.wiring.w c) g) (sym (made.layout.wired.guards j (Branch whole c false) at))
      (Turned (n.wire (Guard j)) (guard_as f grades t n k made j occ is (Branch whole c false) at (has_first _ _) (n.wire (Guard j)) refl))

  pub both_guard : (j : ℕ) (occ : Occ) → slice_get f.occs j ≡ Some occ → (whole c : ℕ) → slice_get t.roles j ≡ Some (Both whole c) → IsEither k (n.wiring.G whole) (n.wiring.w c) (n.wiring.G j)
  both_guard j occ is whole c at =
      subst (λ g. IsEither k (n.wiring.G whole) (n.wiring.w c) g) (sym (made.layout.wired.guards j (Both whole c) at))
      (Made (n.wire (Guard j)) (n.wire (Other j)) (other_as f grades t n k made j occ is (Both whole c) at (has_first _ _) (n.wire (Other j)) refl)
      (guard_as f grades t n k made j occ is (Both whole c) at (record { index = 1; is = refl }) (n.wire (Guard j)) refl))

  -- that of an `init` value
  pub start_guard : (j : ℕ) (occ : Occ) → slice_get f.occs j ≡ Some occ → (p : ℕ) → slice_get t.roles j ≡ Some (Start p) → IsUnder k (call_guard n.wiring (place_call f p)) n.wiring.fresh (n.wiring.G j)
  start_guard j occ is p at =
      subst (λ g. IsUnder k (call_guard n.wiring (place_call f p)) n.wiring.fresh g) (sym (made.layout.wired.guards j (Start p) at))
      (choose (λ m. IsUnder k (call_guard n.wiring (place_call f p)) n.wiring.fresh (Some m)) (is_free t (place_call f p)) n.wiring.fresh (n.wire (Guard j))
      (λ free. Chained (subst (λ g. Implied k g n.wiring.fresh) (sym (free_call (place_call f p) free)) tt))
      (λ e. Copied (n.wire (Guard j)) (guard_as f grades t n k made j occ is (Start p) at (has-when _ (Guard j) (ap (λ b. not b) e)) (n.wire (Guard j)) refl)))

  -- that of the value of a reset arm
  pub reset_guard : (j : ℕ) (occ : Occ) → slice_get f.occs j ≡ Some occ → (p i : ℕ) → slice_get t.roles j ≡ Some (Reset p i) → IsUnder k (call_guard n.wiring (place_call f p)) (n.wire (Taken p i)) (n.wiring.G j)
  reset_guard j occ is p i at =
      subst (λ g. IsUnder k (call_guard n.wiring (place_call f p)) (n.wire (Taken p i)) g) (sym (made.layout.wired.guards j (Reset p i) at))
      (choose (λ m. IsUnder k (call_guard n.wiring (place_call f p)) (n.wire (Taken p i)) (Some m)) (is_free t (place_call f p)) (n.wire (Taken p i)) (n.wire (Guard j))
      (λ free. Chained (subst (λ g. Implied k g (n.wire (Taken p i))) (sym (free_call (place_call f p) free)) tt))
      (λ e. Copied (n.wire (Guard j)) (guard_as f grades t n k made j occ is (Reset p i) at (has-when _ (Guard j) (ap (λ b. not b) e)) (n.wire (Guard j)) refl)))

  pub start_under : (j : ℕ) (occ : Occ) → slice_get f.occs j ≡ Some occ → (call : Option ℕ) (b : ℕ) → IsUse f j (StartOf call b) → IsUnder k (call_guard n.wiring call) n.wiring.fresh (n.wiring.G j)
  start_under j occ is call b used = by r.role r.at (fits f j r.role r.is (StartOf call b) used)
    where
      r : HasRole f grades t n k made j
      r = has_role f grades t n k made j occ is

      by : (role : Role) → slice_get t.roles j ≡ Some role → Fits f j role (StartOf call b) → IsUnder k (call_guard n.wiring call) n.wiring.fresh (n.wiring.G j)
      by (Start p) at fit = subst (λ call. IsUnder k (call_guard n.wiring call) n.wiring.fresh (n.wiring.G j)) fit (start_guard j occ is p at)
      by role at fit = absurd fit
