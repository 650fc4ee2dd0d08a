-- The wires of occurrences in the kernel that is made of a form, by their forms.
use Rattle.std.specs.Prelude.{◌≡◌, ℕ, zero, suc, ◌+◌, Bool, true, false, not, if◌then◌else◌, nat_eq, List, [], ◌∷◌, map, drop, slice_get, get_or, Option, Some}
use Rattle.std.specs.List.{AllByRecursion}
use Rattle.std.proofs.Common.{refl, sym, ap, ◌∙◌, arith, subst}
use Rattle.std.proofs.lemmas.Bool.{eqb-true, eq-eqb}
use Rattle.zl_value.specs.Lists.{Has}
use Rattle.zl_value.specs.declared.value.Ty.TheVariants.{Zero as ZeroTy}
use Rattle.zl_meaning.specs.FlatForm.{FlatForm, HasForm}
use Rattle.zl_meaning.specs.Uses.{BranchOf, IsUse, AsPart, AsBranch, steady_parts, uses_of}
use Rattle.zl_meaning.specs.WellFormed.{Stands, IsForm}
use Rattle.zl_meaning.specs.declared.occurrence.Form.{Form}
use Rattle.zl_meaning.specs.declared.occurrence.Form.TheVariants.{Lit, Read, Last as LastOf, Op as Apply, If, Arrow, Pre, Result, Up, Fired, Step as AtSteps}
use Rattle.zl_meaning.specs.declared.occurrence.Occ.{Occ}
use Rattle.zl_meaning.proofs.Members.{has-later, has-when, all-has, all-map, each-has}
use Rattle.zl_meaning.proofs.UseCases.{use-of-listed}
use Rattle.zl_kernel.specs.KernelForm.{KernelForm}
use Rattle.zl_normal.specs.KernelParts.{IsWire}
use Rattle.zl_normal.specs.Guards.{IsGuarded, Copied, IsAny, NoneOf, OneOf, SomeOf}
use Rattle.zl_normal.specs.FormWires.{IsOcc, IsUp, IsPart, Made, AreBranches, Apart, Either, Made as MadeIf, IsFormWire}
use Rattle.zl_normal.specs.Tables.{Tables, is_guarded}
use Rattle.zl_normal.specs.Keys.{joints}
use Rattle.zl_normal.specs.KernelOf.{Numbers, joined, value_wire, pre_memory, memory_of}
use Rattle.zl_normal.specs.Layout.{IsFirst, IsValueAt}
use Rattle.zl_normal.specs.Roles.{IsRole}
use Rattle.zl_normal.specs.declared.role.Role.{Role}
use Rattle.zl_normal.specs.declared.role.Role.TheVariants.{Branch, Both}
use Rattle.zl_normal.specs.declared.key.Key.{Key}
use Rattle.zl_normal.specs.declared.key.Key.TheVariants.{No, Value, Rest, Next}
use Rattle.zl_normal.specs.declared.key.Kept.TheVariants.{Pre as OfPre}
use Rattle.zl_normal.proofs.Instants.Follows.{some_is}
use Rattle.zl_normal.proofs.MadeFlows.Placed.{no_there}
use Rattle.zl_normal.proofs.MadeFlows.SlopeRoots.{operand}
use Rattle.zl_normal.proofs.Made.Wires.{IsMade, has_first, as_wire, solved_as, memory_as, value_at, value_as, rest_as, next_as, occ_memory_there}
use Rattle.zl_normal.proofs.Made.Uses.{Fits, fits, HasRole, has_role, part_guard}
use Rattle.zl_normal.proofs.Made.UnderGuards.{choose, guarded_alone, branch_of, yes_guard, no_guard, both_guard}

-- what holds of each that is there holds of all
pub all_of : {X : Type 0} (P : X → Type 0) (xs : List X) → ((x : X) → Has xs x → P x) → AllByRecursion P xs
all_of P xs h = all-map (Has xs) P h xs (each-has xs)

none_left : {X : Type 0} (m : ℕ) (u : X) (vs : List X) → drop m [] ≡ u ∷ vs → ⊥
none_left zero u vs e = absurd cc
none_left (suc m) u vs e = absurd cc

pub drop_next : {X : Type 0} (m : ℕ) (xs : List X) (u : X) (vs : List X) → drop m xs ≡ u ∷ vs → drop (suc m) xs ≡ vs
drop_next m [] u vs e = absurd (none_left m u vs e)
drop_next zero (x ∷ xs) u vs e = cc
drop_next (suc m) (x ∷ xs) u vs e = drop_next m xs u vs e

pub drop_first : {X : Type 0} (m : ℕ) (xs : List X) (u : X) (vs : List X) → drop m xs ≡ u ∷ vs → slice_get xs m ≡ Some u
drop_first m [] u vs e = absurd (none_left m u vs e)
drop_first zero (x ∷ xs) u vs e = cc
drop_first (suc m) (x ∷ xs) u vs e = drop_first m xs u vs e

-- for each but the last there is a joint
pub joint_there : (key : ℕ → Key) (i m c : ℕ) (ks : List ℕ) (u v : ℕ) (us : List ℕ) → drop m ks ≡ u ∷ v ∷ us → c ≡ i + m → Has (joints key i ks) (key c)
joint_there key i m c [] u v us e s = absurd (none_left m u (v ∷ us) e)
joint_there key i zero c (x ∷ []) u v us e s = absurd cc
joint_there key i (suc m) c (x ∷ []) u v us e s = absurd (none_left m u (v ∷ us) e)
joint_there key i zero c (x ∷ y ∷ xs) u v us e s = let same : c ≡ i = omega (arith, s) in record { index = 0; is = ap (λ a. Some (key a)) (sym same) }
joint_there key i (suc m) c (x ∷ y ∷ xs) u v us e s = has-later (key i) (joints key (suc i) (y ∷ xs)) (key c) (joint_there key (suc i) m c (y ∷ xs) u v us e (omega (arith, s)))

-- wires that join these parts from one on
pub any_joined : (k : KernelForm) (w : ℕ → ℕ) (all : List ℕ) (rest : ℕ → ℕ) → ((m u v : ℕ) (us : List ℕ) → drop m all ≡ u ∷ v ∷ us → IsWire k (rest m) (joined w (rest (suc m)) (u ∷ v ∷ us)).def (joined w (rest (suc m)) (u ∷ v ∷ us)).guard) → (us : List ℕ) (m u v : ℕ) → drop m all ≡ u ∷ v ∷ us → IsAny k (map w (u ∷ v ∷ us)) (rest m)
any_joined k w all rest wires [] m u v e = SomeOf (w u) (w v) (rest m) (w v) [] (OneOf (w v)) (wires m u v [] e)
any_joined k w all rest wires (x ∷ us) m u v e =
    SomeOf (w u) (w v) (rest m) (rest (suc m)) (map w (x ∷ us)) (any_joined k w all rest wires us (suc m) v x (drop_next m all u (v ∷ x ∷ us) e)) (wires m u v (x ∷ us) e)

-- an occurrence has one form
one_form : (f : FlatForm) (j : ℕ) (a b : Form) → HasForm f j a → HasForm f j b → a ≡ b
one_form f j a b x y = sym x.2 ∙ ap (λ (occ : Occ). occ.form) (some_is x.0 y.0 (sym x.1 ∙ y.1)) ∙ y.2

module _ (f : FlatForm) (grades : List ℕ) (t : Tables) (n : Numbers) (k : KernelForm) (made : IsMade f grades t n k) where
  abbrev w : ℕ → ℕ
  w = n.wiring.w

  abbrev G : ℕ → Option ℕ
  G = n.wiring.G

  module _ (j : ℕ) (occ : Occ) (is : slice_get f.occs j ≡ Some occ) where
    a_part : (form : Form) → occ.form ≡ form → (x : ℕ) → Has (steady_parts form) x → IsOcc f x → IsPart f k n.wiring j x
    a_part form of x h there = record { there = there; guard = part_guard f grades t n k made x there.0 there.1 j (AsPart j form (occ, is, of) h) }

    parts : (form : Form) → occ.form ≡ form → (ks : List ℕ) → steady_parts form ≡ ks → ((x : ℕ) → Has ks x → IsOcc f x) → AllByRecursion (IsPart f k n.wiring j) ks
    parts form of ks e there = all_of (IsPart f k n.wiring j) ks (λ x h. a_part form of x (subst (λ l. Has l x) (sym e) h) (there x h))

    -- the branches of an `if`: apart, or one occurrence
    module _ (c x y : ℕ) (of : occ.form ≡ If c x y) (yes : IsOcc f x) (no : IsOcc f y) where
      abbrev Branches : Type 0
      Branches = AreBranches f k n.wiring j c x y

      yes_use : IsUse f x (BranchOf j c true)
      yes_use = AsBranch j c x y true (occ, is, of) refl

      no_use : IsUse f y (BranchOf j c false)
      no_use = AsBranch j c x y false (occ, is, of) refl

      whole_is : (i : ℕ) (side : Bool) → IsUse f i (BranchOf j c side) → i ≡ (if side then x else y)
      whole_is i _ (AsBranch _ _ a b side has e) = by side e
        where
          same : If c a b ≡ If c x y
          same = one_form f j (If c a b) (If c x y) has (occ, is, of)

          by : (side : Bool) → i ≡ (if side then a else b) → i ≡ (if side then x else y)
          by true e = let z : a ≡ x = cc in e ∙ z
          by false e = let z : b ≡ y = cc in e ∙ z

      role_at : (i : ℕ) (r s : Role) → slice_get t.roles i ≡ Some r → r ≡ s → slice_get t.roles i ≡ Some s
      role_at i r s at e = at ∙ ap (λ role. Some role) e

      -- its one use is this, if it isn't both branches
      alone : (i : ℕ) (there : IsOcc f i) (side : Bool) → IsUse f i (BranchOf j c side) → (x ≡ y → ⊥) → slice_get t.roles i ≡ Some (Branch j c side)
      alone i there side used apart = by r.role r.at r.is (fits f i r.role r.is (BranchOf j c side) used)
        where
          r : HasRole f grades t n k made i
          r = has_role f grades t n k made i there.0 there.1

          clash : (uses_of f i ≡ BranchOf j c true ∷ BranchOf j c false ∷ []) → ⊥
          clash e =
              let yes = use-of-listed f i (BranchOf j c true) (subst (λ l. Has l (BranchOf j c true)) (sym e) (record { index = 0; is = refl })) in
              let no = use-of-listed f i (BranchOf j c false) (subst (λ l. Has l (BranchOf j c false)) (sym e) (record { index = 1; is = refl })) in
              apart (sym (whole_is i true yes) ∙ whole_is i false no)

          by : (role : Role) → slice_get t.roles i ≡ Some role → IsRole f i role → Fits f i role (BranchOf j c side) → slice_get t.roles i ≡ Some (Branch j c side)
          by (Branch u d s) at is fit = let same : Branch u d s ≡ Branch j c side = let z = fit.0 in let z2 = fit.1 in let z3 = fit.2 in cc in role_at i _ _ at same
          by (Both u d) at is fit =
              let same : uses_of f i ≡ BranchOf j c true ∷ BranchOf j c false ∷ [] = let z = fit.0 in let z2 = fit.1 in is ∙ cc in
              absurd (clash same)
          by role at is fit = absurd fit

      both : x ≡ y → slice_get t.roles x ≡ Some (Both j c)
      both e = by r.role r.at (fits f x r.role r.is (BranchOf j c true) yes_use) (fits f x r.role r.is (BranchOf j c false) also)
        where
          r : HasRole f grades t n k made x
          r = has_role f grades t n k made x yes.0 yes.1

          also : IsUse f x (BranchOf j c false)
          also = AsBranch j c x y false (occ, is, of) e

          by : (role : Role) → slice_get t.roles x ≡ Some role → Fits f x role (BranchOf j c true) → Fits f x role (BranchOf j c false) → slice_get t.roles x ≡ Some (Both j c)
          by (Branch u d s) at fit other = let clash : true ≡ false = sym fit.2 ∙ other.2 in absurd cc
          by (Both u d) at fit other = let same : Both u d ≡ Both j c = let z = fit.0 in let z2 = fit.1 in cc in role_at x _ _ at same
          by role at fit other = absurd fit

      branches : AreBranches f k n.wiring j c x y
      branches = by (nat_eq x y) refl
        where
          by : (b : Bool) → nat_eq x y ≡ b → AreBranches f k n.wiring j c x y
          by true e = let same = eqb-true x y e in Either same (both_guard f grades t n k made x yes.0 yes.1 j c (both same))
          by false e =
              let apart : x ≡ y → ⊥ = λ s. let z = sym e ∙ eq-eqb x y s in absurd cc in
              Apart (yes_guard f grades t n k made x yes.0 yes.1 j c (alone x yes true yes_use apart) (branch_of f grades t n k made x j c true yes_use))
              (no_guard f grades t n k made y no.0 no.1 j c (alone y no false no_use apart))

    by_form : (form : Form) → occ.form ≡ form → IsForm f occ.block occ.ty form → IsValueAt f grades t n j form → IsFormWire f k n.wiring j occ form
    by_form (Lit v) of st at =
        let first : IsFirst f t j v = made.layout.tables.firsts j v (occ, is, of) in
        let i = get_or t.firsts j 0 in
        value_as f grades t n k made i first.literal.0 first.literal.1 (Lit v) first.literal.2 (has-when _ (Value i) (eq-eqb _ _ first.itself)) (w j) at
    by_form (Read p) of st at = ((st.place, st.is), at)
    by_form (LastOf p) of st at = at
    by_form (Apply op ks) of st at = (
      parts (Apply op ks) of ks refl (λ x h. let s = operand f occ.block _ ks st.0 h.index x h.is in (s.1.occ, s.1.is)),
      Made (as_wire k (w j) (value_wire f grades t n j occ (Apply op ks)) (value_at f grades t n k made j occ is (Apply op ks) of (has_first _ _) (w j) at)) refl refl,
    )
    by_form (If c x y) of st at = (
      a_part (If c x y) of c (has_first _ _) (st.0.occ, st.0.is),
      (st.1.occ, st.1.is),
      (st.2.occ, st.2.is),
      branches c x y of (st.1.occ, st.1.is) (st.2.occ, st.2.is),
      MadeIf (value_as f grades t n k made j occ is (If c x y) of (has_first _ _) (w j) at),
    )
    by_form (Arrow x y) of st at = (
      a_part (Arrow x y) of x (has_first _ _) (st.0.occ, st.0.is),
      a_part (Arrow x y) of y (record { index = 1; is = refl }) (st.1.occ, st.1.is),
      value_as f grades t n k made j occ is (Arrow x y) of (has_first _ _) (w j) at,
    )
    by_form (Pre x) of st at = (
      (st.occ, st.is),
      record {
        memory = n.memory (OfPre j);
        next = if is_guarded f t x then w x else n.wire (Next j);
        wire = value_as f grades t n k made j occ is (Pre x) of (has_first _ _) (w j) at;
        is = memory_as f grades t n k made (OfPre j) (occ_memory_there f grades t n k made j occ is (Pre x) of (OfPre j) (has_first _ _)) (pre_memory f grades t n j (Pre x) occ.ty) memory_is (n.memory (OfPre j)) refl;
        holds = choose (λ m. IsGuarded k (w x) (G x) m) (is_guarded f t x) (w x) (n.wire (Next j)) (λ e. guarded_alone f grades t n k made x (G x) refl e)
            (λ e. Copied (n.wire (Next j)) (next_as f grades t n k made j occ is (Pre x) of (has-later (Value j) _ (Next j) (has-when _ (Next j) (ap (λ b. not b) e))) (n.wire (Next j)) refl));
      },
    )
      where
        memory_is : memory_of f grades t n (OfPre j) ≡ pre_memory f grades t n j (Pre x) occ.ty
        memory_is = rw is (ap (λ form. pre_memory f grades t n j form occ.ty) of)
    by_form (Result x) of st at = (a_part (Result x) of x (has_first _ _) (st.occ, st.is), at)
    by_form (Up s) of st at = value_as f grades t n k made j occ is (Up s) of (has_first _ _) (w j) at
    by_form (Fired ks) of st at = (
      parts (Fired ks) of ks refl (λ x h. let s = all-has (Stands f occ.block ZeroTy) ks x st.0 h in (s.occ, s.is)),
      all_of (IsUp f) ks (λ x h. let s = all-has (Stands f occ.block ZeroTy) ks x st.0 h in let up = (made.formed.occs x s.occ s.is).crossing s.typed in (up.0, s.occ, s.is, up.1)),
      any ks of at,
    )
      where
        any : (ks : List ℕ) → occ.form ≡ Fired ks → IsValueAt f grades t n j (Fired ks) → IsAny k (map w ks) (w j)
        any [] of at = NoneOf (w j) (solved_as f grades t n k made No (no_there f grades t) refl _ refl (w j) at)
        any (u ∷ []) of at = subst (λ m. IsAny k (w u ∷ []) m) (sym at) (OneOf (w u))
        any (u ∷ v ∷ us) of at =
            subst (λ m. IsAny k (map w (u ∷ v ∷ us)) m) (sym at)
            (any_joined k w (u ∷ v ∷ us) (λ i. n.wire (Rest j i))
            (λ m a b vs e. subst (λ l. IsWire k (n.wire (Rest j m)) (joined w (n.wire (Rest j (suc m))) l).def (joined w (n.wire (Rest j (suc m))) l).guard) e
            (rest_as f grades t n k made j occ is (Fired (u ∷ v ∷ us)) of m (joint_there (Rest j) 0 m m (u ∷ v ∷ us) a b vs e (omega arith)) (n.wire (Rest j m)) refl))
            us 0 u v refl)
    by_form AtSteps of st at = at

    pub form_wire : IsFormWire f k n.wiring j occ occ.form
    form_wire = by_form occ.form refl (made.formed.occs j occ is).form (made.layout.wired.values j occ is)
