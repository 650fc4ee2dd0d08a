-- In the kernel that is made of a form all wires but those of slopes read what is solved at instants.
use Rattle.std.specs.Prelude.{◌≡◌, ℕ, zero, suc, ◌+◌, true, false, List, [], ◌∷◌, ◌++◌, map, drop, slice_get, Option, Some, None}
use Rattle.std.specs.List.{AllByRecursion}
use Rattle.std.proofs.Common.{refl, sym, ap, arith, subst}
use Rattle.std.proofs.Math.Seq.{drop-nil}
use Rattle.zl_value.specs.Lists.{Has}
use Rattle.zl_value.specs.OperatorTypes.{type_of}
use Rattle.std.specs.Option.{option_and_then}
use Rattle.zl_value.specs.declared.value.Ty.{Ty}
use Rattle.zl_value.specs.declared.value.Ty.TheVariants.{Zero as ZeroTy}
use Rattle.zl_meaning.specs.FlatForm.{FlatForm, HasDefiner, place_call}
use Rattle.zl_meaning.specs.Uses.{BranchOf}
use Rattle.zl_meaning.specs.WellFormed.{Stands, IsForm, IsCalled, IsWellFormed}
use Rattle.zl_meaning.specs.Single.{IsSingle}
use Rattle.zl_meaning.specs.Reading.{HasNodeRanks}
use Rattle.zl_meaning.specs.declared.place.Definer.{Definer}
use Rattle.zl_meaning.specs.declared.place.Definer.TheVariants.{Input, Plain, Der, Start}
use Rattle.zl_meaning.specs.declared.place.DerArm.{DerArm}
use Rattle.zl_meaning.specs.declared.place.PlaceInfo.{PlaceInfo}
use Rattle.zl_meaning.specs.declared.occurrence.Form.{Form}
use Rattle.zl_meaning.specs.declared.occurrence.Form.TheVariants.{Lit, Read, Last as LastOf, Op as Apply, If as IfOf, Arrow, Pre, Result, Up, Fired, Step as AtSteps}
use Rattle.zl_meaning.specs.declared.occurrence.Occ.{Occ}
use Rattle.zl_meaning.proofs.Members.{all-has, has-none}
use Rattle.zl_kernel.specs.FlowWires.{listed_in, reads}
use Rattle.zl_kernel.specs.declared.wire.Wire.{Wire}
use Rattle.zl_normal.specs.Wiring.{call_guard}
use Rattle.zl_normal.specs.PlaceWires.{definer_of, start_of}
use Rattle.zl_normal.specs.MainBlock.{IsMain}
use Rattle.zl_normal.specs.Tables.{Tables}
use Rattle.zl_normal.specs.Keys.{joints, value_keys, guard_keys, keys}
use Rattle.zl_normal.specs.KernelOf.{Numbers, arms_of, joined, value_wire, rest_wire, next_wire, other_wire, guard_wire}
use Rattle.zl_normal.specs.Layout.{IsLayout}
use Rattle.zl_normal.specs.Roles.{AreRoles}
use Rattle.zl_normal.specs.declared.role.Role.{Role}
use Rattle.zl_normal.specs.declared.role.Role.TheVariants.{Branch, Both, Start as OfStart, Reset as OfReset}
use Rattle.zl_normal.specs.declared.key.Key.{Key}
use Rattle.zl_normal.specs.declared.key.Key.TheVariants.{Step, Fresh, Rest, Other, Taken}
use Rattle.zl_normal.proofs.MadeFlows.Placed.{at_instants, StandsFor, step_there, fresh_there, value_there, guard_there}
use Rattle.zl_normal.proofs.MadeFlows.Roots.{value_solved}
use Rattle.zl_normal.proofs.MadeFlows.SlopeRoots.{operand}
use Rattle.zl_normal.proofs.MadeFlows.Guards.{GuardSolved, solved_as, arm_there, der_of, guard_solved, called_solved, occ_there, used, branch_whole, test_there}

-- what stands at a number, and from it on
pub dropped_here : (ks : List ℕ) (i u : ℕ) (us : List ℕ) → drop i ks ≡ u ∷ us → slice_get ks i ≡ Some u
dropped_here [] i u us e = let n : drop {A = ℕ} i [] ≡ [] = drop-nil i in absurd cc
dropped_here (x ∷ xs) zero u us e = cc
dropped_here (x ∷ xs) (suc i) u us e = dropped_here xs i u us e

pub dropped_next : {X : Type 0} (ks : List X) (i : ℕ) (u : X) (us : List X) → drop i ks ≡ u ∷ us → drop (suc i) ks ≡ us
dropped_next {X = X} [] i u us e = let n : drop {A = X} i [] ≡ [] = drop-nil i in absurd cc
dropped_next (x ∷ xs) zero u us e = cc
dropped_next (x ∷ xs) (suc i) u us e = dropped_next xs i u us e

pub arm_here : (arms : List DerArm) (i : ℕ) (arm : DerArm) (rest : List DerArm) → drop i arms ≡ arm ∷ rest → slice_get arms i ≡ Some arm
arm_here [] i arm rest e = let n : drop {A = DerArm} i [] ≡ [] = drop-nil i in absurd cc
arm_here (x ∷ xs) zero arm rest e = cc
arm_here (x ∷ xs) (suc i) arm rest e = arm_here xs i arm rest e

-- arm number `i` of a place with a `der`
pub record ArmAt (i : ℕ) (place : PlaceInfo) (arm : DerArm) : Type 0 where
  pub block : ℕ
  pub slope : ℕ
  pub arms : List DerArm
  pub der : definer_of place.definers ≡ Some (Der block slope arms)
  pub at : slice_get arms i ≡ Some arm

no_arm : (i : ℕ) (arm : DerArm) (rest : List DerArm) → drop i [] ≡ arm ∷ rest → ⊥
no_arm i arm rest e = let n : drop {A = DerArm} i [] ≡ [] = drop-nil i in cc

pub arm_at : (f : FlatForm) (grades : List ℕ) (t : Tables) (n : Numbers) (i : ℕ) (place : PlaceInfo) (d : Option Definer) → definer_of place.definers ≡ d → (arm : DerArm) (rest : List DerArm) → drop i (arms_of f grades t n d) ≡ arm ∷ rest → ArmAt i place arm
arm_at f grades t n i place None e arm rest q = absurd (no_arm i arm rest q)
arm_at f grades t n i place (Some (Input m)) e arm rest q = absurd (no_arm i arm rest q)
arm_at f grades t n i place (Some (Plain b j)) e arm rest q = absurd (no_arm i arm rest q)
arm_at f grades t n i place (Some (Start b j)) e arm rest q = absurd (no_arm i arm rest q)
arm_at f grades t n i place (Some (Der b j arms)) e arm rest q = record { block = b; slope = j; arms = arms; der = e; at = arm_here arms i arm rest q }

pub before_here : {X : Type 0} (xs : List X) (i : ℕ) (x : X) → slice_get xs (suc i) ≡ Some x → (y : X) × (slice_get xs i ≡ Some y)
before_here [] i x e = absurd cc
before_here (y ∷ ys) zero x e = (y, refl)
before_here (y ∷ ys) (suc i) x e = before_here ys i x e

pub joint_there : (key : ℕ → Key) (m : ℕ) (ks : List ℕ) (i u v : ℕ) (us : List ℕ) → drop i ks ≡ u ∷ v ∷ us → (o : ℕ) → o ≡ m + i → Has (joints key m ks) (key o)
joint_there key m [] i u v us e o q = let n : drop {A = ℕ} i [] ≡ [] = drop-nil i in absurd cc
joint_there key m (x ∷ []) zero u v us e o q = absurd cc
joint_there key m (x ∷ []) (suc i) u v us e o q = let n : drop {A = ℕ} i [] ≡ [] = drop-nil i in absurd cc
joint_there key m (x ∷ y ∷ ys) zero u v us e o q = let same : m ≡ o = omega arith in record { index = 0; is = ap (λ m. Some (key m)) same }
joint_there key m (x ∷ y ∷ ys) (suc i) u v us e o q = let h = joint_there key (suc m) (y ∷ ys) i u v us e o (omega arith) in record { index = suc h.index; is = h.is }

pub start_has : (definers : List Definer) (j : ℕ) → start_of definers ≡ Some j → (b : ℕ) × Has definers (Start b j)
start_has [] j e = absurd cc
start_has (Input i ∷ definers) j e = let h = start_has definers j e in (h.0, record { index = suc h.1.index; is = h.1.is })
start_has (Plain b i ∷ definers) j e = let h = start_has definers j e in (h.0, record { index = suc h.1.index; is = h.1.is })
start_has (Der b i arms ∷ definers) j e = let h = start_has definers j e in (h.0, record { index = suc h.1.index; is = h.1.is })
start_has (Start b i ∷ definers) j e = let same : i ≡ j = cc in (b, record { index = 0; is = ap (λ j. Some (Start b j)) same })

module _ (f : FlatForm) (grades : List ℕ) (t : Tables) (n : Numbers) (formed : IsWellFormed f) (main : IsMain f) (single : IsSingle f) (entries : HasNodeRanks f) (roles : AreRoles f t.roles) (layout : IsLayout f grades t n) where
  abbrev pub Solved : ℕ → Type 0
  Solved m = StandsFor at_instants (keys f grades t) m

  abbrev pub ReadsSolved : Wire → Type 0
  ReadsSolved wire = AllByRecursion Solved (reads wire)

  abbrev Guarded : Option ℕ → Type 0
  Guarded g = GuardSolved f grades t n formed main single entries roles layout g

  pub all_reads : (g : Option ℕ) (ms : List ℕ) → Guarded g → AllByRecursion Solved ms → AllByRecursion Solved (listed_in g ++ ms)
  all_reads None ms s all = all
  all_reads (Some g) ms s all = (s, all)

  pub value : (j : ℕ) (occ : Occ) → slice_get f.occs j ≡ Some occ → Solved (n.wiring.w j)
  value j occ is = value_solved f grades t n formed entries layout j occ is

  pub guard : (j : ℕ) (occ : Occ) → slice_get f.occs j ≡ Some occ → Guarded (n.wiring.G j)
  guard j occ is = guard_solved f grades t n formed main single entries roles layout j occ is

  pub key_solved : (key : Key) → Has (keys f grades t) key → at_instants key ≡ true → Solved (n.wire key)
  key_solved key h e = solved_as f grades t n formed main single entries roles layout key h e

  pub step : Solved n.wiring.step
  step = subst (λ m. Solved m) (sym layout.wired.step) (key_solved Step (step_there f grades t) refl)

  pub fresh : Solved n.wiring.fresh
  fresh = subst (λ m. Solved m) (sym layout.wired.fresh) (key_solved Fresh (fresh_there f grades t) refl)

  pub values : (ks : List ℕ) → ((i k : ℕ) → slice_get ks i ≡ Some k → (occ : Occ) × (slice_get f.occs k ≡ Some occ)) → AllByRecursion Solved (map n.wiring.w ks)
  values [] there = tt
  values (k ∷ ks) there = (value k (there 0 k refl).0 (there 0 k refl).1, values ks (λ i k e. there (suc i) k e))

  -- the wires of an occurrence
  pub value_reads : (j : ℕ) (occ : Occ) → slice_get f.occs j ≡ Some occ → (form : Form) → IsForm f occ.block occ.ty form → ReadsSolved (value_wire f grades t n j occ form)
  value_reads j occ is (Lit v) st = tt
  value_reads j occ is (Read p) st = tt
  value_reads j occ is (LastOf p) st = tt
  value_reads j occ is (Apply op ks) st =
      all_reads (n.wiring.G j) (map n.wiring.w ks) (guard j occ is) (values ks (λ i k e. let s = (operand f occ.block (type_of op).operands ks st.0 i k e).1 in (s.occ, s.is)))
  value_reads j occ is (IfOf c x y) st =
      all_reads (n.wiring.G j) (n.wiring.w c ∷ n.wiring.w x ∷ n.wiring.w y ∷ []) (guard j occ is) (value c st.0.occ st.0.is, (value x st.1.occ st.1.is, (value y st.2.occ st.2.is, tt)))
  value_reads j occ is (Arrow x y) st = all_reads (n.wiring.G j) (n.wiring.fresh ∷ n.wiring.w x ∷ n.wiring.w y ∷ []) (guard j occ is) (fresh, (value x st.0.occ st.0.is, (value y st.1.occ st.1.is, tt)))
  value_reads j occ is (Pre x) st = tt
  value_reads j occ is (Result x) st = tt
  value_reads j occ is (Up s) st = tt
  value_reads j occ is (Fired ks) st = tt
  value_reads j occ is AtSteps st = tt

  pub joined_reads : (rest : ℕ) (ks : List ℕ) → ((u : ℕ) → Has ks u → Solved (n.wiring.w u)) → ((u v x : ℕ) (us : List ℕ) → ks ≡ u ∷ v ∷ x ∷ us → Solved rest) → ReadsSolved (joined n.wiring.w rest ks)
  joined_reads rest [] each more = tt
  joined_reads rest (u ∷ []) each more = tt
  joined_reads rest (u ∷ v ∷ []) each more = (each u (record { index = 0; is = refl }), (each v (record { index = 1; is = refl }), tt))
  joined_reads rest (u ∷ v ∷ x ∷ us) each more = (each u (record { index = 0; is = refl }), (more u v x us refl, tt))

  pub dropped_has : (ks : List ℕ) (i u : ℕ) → Has (drop i ks) u → Has ks u
  dropped_has [] i u h = absurd (has-none u (subst (λ l. Has l u) (drop-nil i) h))
  dropped_has (x ∷ xs) zero u h = h
  dropped_has (x ∷ xs) (suc i) u h = let k = dropped_has xs i u h in record { index = suc k.index; is = k.is }

  pub rest_reads : (j i : ℕ) (occ : Occ) → slice_get f.occs j ≡ Some occ → (form : Form) → occ.form ≡ form → IsForm f occ.block occ.ty form → ReadsSolved (rest_wire f grades t n j i form)
  rest_reads j i occ is (Fired ks) e st =
      joined_reads (n.wire (Rest j (suc i))) (drop i ks)
      (λ u h. let s = all-has (Stands f occ.block ZeroTy) ks u st.0 (dropped_has ks i u h) in value u s.occ s.is)
      (λ u v x us q.
      key_solved (Rest j (suc i))
      (value_there f grades t j occ (Rest j (suc i)) is (subst (λ form. Has (value_keys f grades t j form) (Rest j (suc i))) (sym e) (joint_there (Rest j) 0 ks (suc i) v x us (dropped_next ks i u (v ∷ x ∷ us) q) (suc i) (omega arith))))
      refl)
  rest_reads j i occ is form e st = tt

  pub next_reads : (occ : Occ) (form : Form) → IsForm f occ.block occ.ty form → (ty : Ty) → ReadsSolved (next_wire f grades t n form ty)
  next_reads occ (Pre x) st ty = all_reads (n.wiring.G x) (n.wiring.w x ∷ []) (guard x st.occ st.is) (value x st.occ st.is, tt)
  next_reads occ form st ty = tt

  -- the wires of a guard
  call_of_place : (p : ℕ) (d : Definer) → HasDefiner f p d → Guarded (call_guard n.wiring (place_call f p))
  call_of_place p d has =
      let same : place_call f p ≡ has.0.call = ap (λ o. option_and_then (λ (place : PlaceInfo). place.call) o) has.1 in
      called_solved f grades t n formed main single entries roles layout has.0.block (place_call f p) (subst (λ call. IsCalled f has.0.block call) (sym same) (formed.places p has.0 has.1).call)

  pub other_reads : (j : ℕ) (role : Option Role) → slice_get t.roles j ≡ role → ReadsSolved (other_wire f grades t n role)
  other_reads j (Some (Both whole c)) at =
      let is_role = roles.each j (Both whole c) at in
      let u = used f j _ (BranchOf whole c true) is_role (record { index = 0; is = refl }) in
      let w = branch_whole f j whole c true u in
      let c_is = test_there f formed j whole c true u in
      all_reads (n.wiring.G whole) (n.wiring.w c ∷ []) (guard whole w.0 w.1) (value c c_is.0 c_is.1, tt)
  other_reads j role at = tt

  pub guard_reads : (j : ℕ) (role : Option Role) → slice_get t.roles j ≡ role → ReadsSolved (guard_wire f grades t n j role)
  guard_reads j (Some (Branch whole c true)) at =
      let u = used f j _ (BranchOf whole c true) (roles.each j (Branch whole c true) at) (record { index = 0; is = refl }) in
      let w = branch_whole f j whole c true u in
      let c_is = test_there f formed j whole c true u in
      all_reads (n.wiring.G whole) (n.wiring.w c ∷ []) (guard whole w.0 w.1) (value c c_is.0 c_is.1, tt)
  guard_reads j (Some (Branch whole c false)) at =
      let u = used f j _ (BranchOf whole c false) (roles.each j (Branch whole c false) at) (record { index = 0; is = refl }) in
      let w = branch_whole f j whole c false u in
      let c_is = test_there f formed j whole c false u in
      all_reads (n.wiring.G whole) (n.wiring.w c ∷ []) (guard whole w.0 w.1) (value c c_is.0 c_is.1, tt)
  guard_reads j (Some (Both whole c)) at =
      let u = used f j _ (BranchOf whole c true) (roles.each j (Both whole c) at) (record { index = 0; is = refl }) in
      let w = branch_whole f j whole c true u in
      let c_is = test_there f formed j whole c true u in
      let o = occ_there f t.roles roles j (Both whole c) at in
      let other : Solved (n.wire (Other j)) = key_solved (Other j) (guard_there f grades t j o.0 (Other j) o.1 (subst (λ r. Has (guard_keys f grades t j r) (Other j)) (sym at) (record { index = 0; is = refl }))) refl in
      all_reads (n.wiring.G whole) (n.wiring.w c ∷ n.wire (Other j) ∷ []) (guard whole w.0 w.1) (value c c_is.0 c_is.1, (other, tt))
  guard_reads j (Some (OfStart p)) at =
      let is_role = roles.each j (OfStart p) at in
      all_reads (call_guard n.wiring (place_call f p)) (n.wiring.fresh ∷ []) (call_of_place p (Start 0 j) is_role.has) (fresh, tt)
  guard_reads j (Some (OfReset p arm)) at =
      let is_role = roles.each j (OfReset p arm) at in
      let der = der_of f grades t n formed main single entries roles layout p is_role.block is_role.slope is_role.resets is_role.has in
      let there = arm_there f grades t n formed main single entries roles layout p is_role.has.0 is_role.has.1 is_role.block is_role.slope is_role.resets der arm is_role.arm is_role.is (Taken p arm) (record { index = 0; is = refl }) in
      all_reads (call_guard n.wiring (place_call f p)) (n.wire (Taken p arm) ∷ []) (call_of_place p (Der is_role.block is_role.slope is_role.resets) is_role.has) (key_solved (Taken p arm) there refl, tt)
  guard_reads j role at = tt
