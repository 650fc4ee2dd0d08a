-- The wires of occurrences and of their guards read what stands lower.
use Rattle.std.specs.Prelude.{◌≡◌, ℕ, suc, ◌+◌, ◌-◌, ◌<◌, ◌≤◌, Bool, true, false, List, [], ◌∷◌, ◌++◌, map, drop, length, slice_get, Option, Some, None, ⊤}
use Rattle.std.specs.List.{AllByRecursion}
use Rattle.std.specs.Option.{option_and_then}
use Rattle.std.proofs.Common.{refl, sym, ap, arith, subst}
use Rattle.std.proofs.lemmas.Option.{slice_get_within}
use Rattle.zl_value.specs.Lists.{Has}
use Rattle.zl_value.specs.OperatorTypes.{type_of}
use Rattle.zl_value.specs.declared.value.Ty.{Ty}
use Rattle.zl_value.specs.declared.value.Ty.TheVariants.{Zero as ZeroTy}
use Rattle.zl_meaning.specs.FlatForm.{FlatForm, HasDefiner, place_call}
use Rattle.zl_meaning.specs.State.{AtUsed, AtValue}
use Rattle.zl_meaning.specs.Uses.{Use, BranchOf, uses_of}
use Rattle.zl_meaning.specs.WellFormed.{Stands, IsForm, IsCalled, IsWellFormed}
use Rattle.zl_meaning.specs.Single.{IsSingle}
use Rattle.zl_meaning.specs.Reading.{ReadsValues, ReadsForm, ReadsCall, ReadsAsked}
use Rattle.zl_meaning.specs.declared.place.Definer.{Definer}
use Rattle.zl_meaning.specs.declared.place.Definer.TheVariants.{Der, Start}
use Rattle.zl_meaning.specs.declared.place.PlaceInfo.{PlaceInfo}
use Rattle.zl_meaning.specs.declared.occurrence.Form.{Form}
use Rattle.zl_meaning.specs.declared.occurrence.Form.TheVariants.{Lit, Read, Last as LastOf, Op as Apply, If as IfOf, Arrow, Pre, Result, Up, Fired, Step as AtSteps}
use Rattle.zl_meaning.specs.declared.occurrence.Occ.{Occ}
use Rattle.zl_meaning.proofs.Members.{all-has}
use Rattle.zl_kernel.specs.FlowWires.{listed_in, reads}
use Rattle.zl_normal.specs.Wiring.{call_guard}
use Rattle.zl_normal.specs.MainBlock.{IsMain}
use Rattle.zl_normal.specs.Evaluated.{HasGuardRanks}
use Rattle.zl_normal.specs.Tables.{Tables}
use Rattle.zl_normal.specs.Keys.{guard_keys, keys}
use Rattle.zl_normal.specs.KernelOf.{Numbers, joined, value_wire, rest_wire, next_wire, other_wire, guard_wire}
use Rattle.zl_normal.specs.Layout.{IsLayout}
use Rattle.zl_normal.specs.Roles.{AreRoles}
use Rattle.zl_normal.specs.declared.role.Role.{Role}
use Rattle.zl_normal.specs.declared.role.Role.TheVariants.{Branch, Both, Start as OfStart, Reset as OfReset}
use Rattle.zl_normal.specs.declared.key.Key.{Key}
use Rattle.zl_normal.specs.declared.key.Key.TheVariants.{Fresh, Rest, Other, Taken}
use Rattle.zl_normal.proofs.MadeFlows.Placed.{fresh_there, guard_there}
use Rattle.zl_normal.proofs.MadeFlows.SlopeRoots.{operand}
use Rattle.zl_normal.proofs.MadeFlows.Guards.{der_of, occ_there, used, branch_whole, test_there}
use Rattle.zl_normal.proofs.MadeFlows.Reads.{dropped_here, dropped_next, joint_there, dropped_has}
use Rattle.zl_normal.proofs.MadeFlows.Levels.{width, fired_count, fired_width, level, climb, form_rank, next_form, key_rank}
use Rattle.zl_normal.proofs.MadeFlows.LowRoots.{R as rank_of, form_key, value_low}
use Rattle.zl_normal.proofs.MadeFlows.LowGuards.{GuardLow, key_rank_is, taken_low, guard_low, called_low, used_reads, events_low}

module _ (f : FlatForm) (grades : List ℕ) (t : Tables) (n : Numbers) (formed : IsWellFormed f) (main : IsMain f) (single : IsSingle f) (ranks : HasGuardRanks f) (roles : AreRoles f t.roles) (layout : IsLayout f grades t n) where
  abbrev pub R : ℕ → ℕ
  R m = rank_of f grades t n formed ranks.entries layout m

  abbrev V : ℕ → ℕ
  V j = ranks.entries.rank (AtValue j)

  abbrev U : ℕ → ℕ
  U j = ranks.entries.rank (AtUsed j)

  -- all of these wires stand below this rank
  abbrev pub AllBelow : ℕ → List ℕ → Type 0
  AllBelow b ms = AllByRecursion (λ m. rank_of f grades t n formed ranks.entries layout m < b) ms

  abbrev Low : ℕ → Option ℕ → Type 0
  Low b g = GuardLow f grades t n formed main single ranks roles layout b g

  pub all_reads : (c b : ℕ) → c < b → (g : Option ℕ) (ms : List ℕ) → Low c g → AllBelow b ms → AllBelow b (listed_in g ++ ms)
  all_reads c b l None ms s all = all
  all_reads c b l (Some g) ms s all = (omega (arith, l, s), all)

  key_is : (key : Key) → Has (keys f grades t) key → (m : ℕ) → m ≡ n.wire key → R m ≡ key_rank f ranks.entries key
  key_is key h m e = key_rank_is f grades t n formed main single ranks roles layout key h m e

  -- a value of a lower rank, the guard of what stands here
  pub value : (j : ℕ) (occ : Occ) → slice_get f.occs j ≡ Some occ → (b : ℕ) → V j < b → R (n.wiring.w j) + 1 ≤ level f b
  value j occ is b l = let v = value_low f grades t n formed ranks.entries layout j occ is in let c = climb f (V j) b l in omega (arith, v, c)

  pub fresh : (b : ℕ) → 0 < b → R n.wiring.fresh < b
  fresh b l = let r = key_is Fresh (fresh_there f grades t) n.wiring.fresh layout.wired.fresh in omega (arith, r, l)

  values : (b : ℕ) (ks : List ℕ) → ((i k : ℕ) → slice_get ks i ≡ Some k → (occ : Occ) × (slice_get f.occs k ≡ Some occ)) → ReadsValues (λ a. ranks.entries.rank a < b) ks → AllBelow (level f b) (map n.wiring.w ks)
  values b [] there rd = tt
  values b (k ∷ ks) there rd = (let v = value k (there 0 k refl).0 (there 0 k refl).1 b rd.0 in omega (arith, v), values b ks (λ i k e. there (suc i) k e) rd.1)

  with_guard : (j : ℕ) (occ : Occ) → slice_get f.occs j ≡ Some occ → (ms : List ℕ) → AllBelow (level f (V j)) ms → AllBelow (level f (V j)) (listed_in (n.wiring.G j) ++ ms)
  with_guard j occ is ms all =
      let c = climb f (U j) (V j) (ranks.guards j) in
      all_reads (level f (U j) + 1) (level f (V j)) (omega (arith, c)) (n.wiring.G j) ms (guard_low f grades t n formed main single ranks roles layout j occ is) all

  -- the wires of an occurrence
  pub value_reads : (j : ℕ) (occ : Occ) → slice_get f.occs j ≡ Some occ → (form : Form) → IsForm f occ.block occ.ty form → ReadsForm f (λ a. ranks.entries.rank a < ranks.entries.rank (AtValue j)) (λ a. ⊤) occ.block form → AllBelow (form_rank f ranks.entries j form) (reads (value_wire f grades t n j occ form))
  value_reads j occ is (Lit v) st rd = tt
  value_reads j occ is (Read p) st rd = tt
  value_reads j occ is (LastOf p) st rd = tt
  value_reads j occ is (Apply op ks) st rd =
      with_guard j occ is (map n.wiring.w ks) (values (V j) ks (λ i k e. let s = (operand f occ.block (type_of op).operands ks st.0 i k e).1 in (s.occ, s.is)) rd)
  value_reads j occ is (IfOf c x y) st rd =
      let vc = value c st.0.occ st.0.is (V j) rd.0 in
      let vx = value x st.1.occ st.1.is (V j) rd.1 in
      let vy = value y st.2.occ st.2.is (V j) rd.2 in
      with_guard j occ is (n.wiring.w c ∷ n.wiring.w x ∷ n.wiring.w y ∷ []) (omega (arith, vc), (omega (arith, vx), (omega (arith, vy), tt)))
  value_reads j occ is (Arrow x y) st rd =
      let vx = value x st.0.occ st.0.is (V j) rd.1 in
      let vy = value y st.1.occ st.1.is (V j) rd.2 in
      let first = fresh (level f (V j)) (omega (arith, vx)) in
      with_guard j occ is (n.wiring.fresh ∷ n.wiring.w x ∷ n.wiring.w y ∷ []) (first, (omega (arith, vx), (omega (arith, vy), tt)))
  value_reads j occ is (Pre x) st rd = tt
  value_reads j occ is (Result x) st rd = tt
  value_reads j occ is (Up s) st rd = tt
  value_reads j occ is (Fired ks) st rd = tt
  value_reads j occ is AtSteps st rd = tt

  pub joined_reads : (b rest : ℕ) (ks : List ℕ) → ((u : ℕ) → Has ks u → R (n.wiring.w u) < b) → ((u v x : ℕ) (us : List ℕ) → ks ≡ u ∷ v ∷ x ∷ us → R rest < b) → AllBelow b (reads (joined n.wiring.w rest ks))
  joined_reads b rest [] each more = tt
  joined_reads b rest (u ∷ []) each more = tt
  joined_reads b rest (u ∷ v ∷ []) each more = (each u (record { index = 0; is = refl }), (each v (record { index = 1; is = refl }), tt))
  joined_reads b rest (u ∷ v ∷ x ∷ us) each more = (each u (record { index = 0; is = refl }), (more u v x us refl, tt))

  pub rest_reads : (j i : ℕ) (occ : Occ) → slice_get f.occs j ≡ Some occ → (form : Form) → occ.form ≡ form → IsForm f occ.block occ.ty form → ReadsForm f (λ a. ranks.entries.rank a < ranks.entries.rank (AtValue j)) (λ a. ⊤) occ.block form → AllBelow (level f (ranks.entries.rank (AtValue j)) + (width f - i)) (reads (rest_wire f grades t n j i form))
  rest_reads j i occ is (Fired ks) e st rd =
      joined_reads (level f (V j) + (width f - i)) (n.wire (Rest j (suc i))) (drop i ks)
      (λ u h.
      let has = dropped_has f grades t n formed main single ranks.entries roles layout ks i u h in
      let s = all-has (Stands f occ.block ZeroTy) ks u st.0 has in
      let v = value u s.occ s.is (V j) (all-has (λ k. ranks.entries.rank (AtValue k) < ranks.entries.rank (AtValue j)) ks u rd has) in
      omega (arith, v))
      (λ u v x us q.
      let next = dropped_next ks i u (v ∷ x ∷ us) q in
      let r = key_is (Rest j (suc i)) (form_key f grades t n formed ranks.entries layout j occ is (Fired ks) e (Rest j (suc i)) (joint_there (Rest j) 0 ks (suc i) v x us next (suc i) (omega arith))) (n.wire (Rest j (suc i))) refl in
      let inside = slice_get_within ks (suc i) v (dropped_here ks (suc i) v (x ∷ us) next) in
      let wide = fired_width f j occ is in
      let count : fired_count occ.form ≡ length ks = ap (λ form. fired_count form) e in
      omega (arith, r, inside, wide, count))
  rest_reads j i occ is form e st rd = tt

  pub next_reads : (occ : Occ) (form : Form) → IsForm f occ.block occ.ty form → (ty : Ty) → AllBelow (next_form f ranks.entries form) (reads (next_wire f grades t n form ty))
  next_reads occ (Pre x) st ty =
      let v = value x st.occ st.is (suc (V x)) (omega arith) in
      let c = climb f (U x) (suc (V x)) (let g = ranks.guards x in omega (arith, g)) in
      all_reads (level f (U x) + 1) (level f (suc (V x))) (omega (arith, c)) (n.wiring.G x) (n.wiring.w x ∷ []) (guard_low f grades t n formed main single ranks roles layout x st.occ st.is) (omega (arith, v), tt)
  next_reads occ form st ty = tt

  -- the wires of a guard
  call_of_place : (p : ℕ) (d : Definer) → HasDefiner f p d → (h : ℕ) → ReadsCall (λ a. ranks.entries.rank a < h) (place_call f p) → Low (level f h) (call_guard n.wiring (place_call f p))
  call_of_place p d has h rd =
      let same : place_call f p ≡ has.0.call = ap (λ o. option_and_then (λ (place : PlaceInfo). place.call) o) has.1 in
      called_low f grades t n formed main single ranks roles layout has.0.block (place_call f p) (subst (λ call. IsCalled f has.0.block call) (sym same) (formed.places p has.0 has.1).call) h rd

  asked : (j : ℕ) (role : Role) → slice_get t.roles j ≡ Some role → (us : List Use) → uses_of f j ≡ us → (occ : Occ) × ReadsAsked (λ a. ranks.entries.rank a < ranks.entries.rank (AtUsed j)) (λ a. ⊤) occ.call us
  asked j role at us e =
      let o = occ_there f t.roles roles j role at in
      (o.0, subst (λ us. ReadsAsked (λ a. ranks.entries.rank a < ranks.entries.rank (AtUsed j)) (λ a. ⊤) o.0.call us) e (used_reads f grades t n formed main single ranks roles layout j o.0 o.1))

  branch_reads : (j whole c : ℕ) (side : Bool) (us : List Use) → uses_of f j ≡ BranchOf whole c side ∷ us → ranks.entries.rank (AtUsed whole) < ranks.entries.rank (AtUsed j) → ranks.entries.rank (AtValue c) < ranks.entries.rank (AtUsed j) → (b : ℕ) → level f (U j) ≤ b → (ms : List ℕ) → AllBelow b ms → AllBelow b (listed_in (n.wiring.G whole) ++ (n.wiring.w c ∷ ms))
  branch_reads j whole c side us e below test b l ms all =
      let u = used f j (BranchOf whole c side ∷ us) (BranchOf whole c side) e (record { index = 0; is = refl }) in
      let w = branch_whole f j whole c side u in
      let c_is = test_there f formed j whole c side u in
      let v = value c c_is.0 c_is.1 (U j) test in
      let k = climb f (U whole) (U j) below in
      all_reads (level f (U whole) + 1) b (omega (arith, k, l)) (n.wiring.G whole) (n.wiring.w c ∷ ms) (guard_low f grades t n formed main single ranks roles layout whole w.0 w.1) (omega (arith, v, l), all)

  pub other_reads : (j : ℕ) (role : Option Role) → slice_get t.roles j ≡ role → AllBelow (level f (ranks.entries.rank (AtUsed j))) (reads (other_wire f grades t n role))
  other_reads j (Some (Both whole c)) at =
      let e = roles.each j (Both whole c) at in
      let a = (asked j (Both whole c) at _ e).1 in
      branch_reads j whole c true _ e a.0.0 a.0.1 (level f (U j)) (omega arith) [] tt
  other_reads j role at = tt

  pub guard_reads : (j : ℕ) (role : Option Role) → slice_get t.roles j ≡ role → AllBelow (level f (ranks.entries.rank (AtUsed j)) + 1) (reads (guard_wire f grades t n j role))
  guard_reads j (Some (Branch whole c true)) at =
      let e = roles.each j (Branch whole c true) at in
      let a = (asked j (Branch whole c true) at _ e).1 in
      branch_reads j whole c true _ e a.0.0 a.0.1 (level f (U j) + 1) (omega arith) [] tt
  guard_reads j (Some (Branch whole c false)) at =
      let e = roles.each j (Branch whole c false) at in
      let a = (asked j (Branch whole c false) at _ e).1 in
      branch_reads j whole c false _ e a.0.0 a.0.1 (level f (U j) + 1) (omega arith) [] tt
  guard_reads j (Some (Both whole c)) at =
      let e = roles.each j (Both whole c) at in
      let a = (asked j (Both whole c) at _ e).1 in
      let o = occ_there f t.roles roles j (Both whole c) at in
      let r = key_is (Other j) (guard_there f grades t j o.0 (Other j) o.1 (subst (λ r. Has (guard_keys f grades t j r) (Other j)) (sym at) (record { index = 0; is = refl }))) (n.wire (Other j)) refl in
      branch_reads j whole c true _ e a.0.0 a.0.1 (level f (U j) + 1) (omega arith) (n.wire (Other j) ∷ []) (omega (arith, r), tt)
  guard_reads j (Some (OfStart p)) at =
      let is_role = roles.each j (OfStart p) at in
      let a = (asked j (OfStart p) at _ is_role.uses).1 in
      all_reads (level f (U j)) (level f (U j) + 1) (omega arith) (call_guard n.wiring (place_call f p)) (n.wiring.fresh ∷ []) (call_of_place p (Start 0 j) is_role.has (U j) a.0.0) (fresh (level f (U j) + 1) (omega arith), tt)
  guard_reads j (Some (OfReset p arm)) at =
      let is_role = roles.each j (OfReset p arm) at in
      let a = (asked j (OfReset p arm) at _ is_role.uses).1 in
      let der = der_of f grades t n formed main single ranks.entries roles layout p is_role.block is_role.slope is_role.resets is_role.has in
      let l = taken_low f grades t n formed main single ranks roles layout p is_role.has.0 is_role.has.1 is_role.block is_role.slope is_role.resets der arm is_role.arm is_role.is (U j) (events_low f grades t n formed main single ranks roles layout (U j) is_role.resets a.0.1) in
      all_reads (level f (U j)) (level f (U j) + 1) (omega arith) (call_guard n.wiring (place_call f p)) (n.wire (Taken p arm) ∷ []) (call_of_place p (Der is_role.block is_role.slope is_role.resets) is_role.has (U j) a.0.0) (omega (arith, l), tt)
  guard_reads j role at = tt
