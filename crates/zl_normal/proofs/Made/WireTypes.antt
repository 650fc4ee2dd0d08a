-- All wires agree in types with what they are made from, in the kernel that is made of a form.
use Rattle.std.specs.Prelude.{◌≡◌, ℕ, suc, Bool, true, false, if◌then◌else◌, List, [], ◌∷◌, drop, slice_get, Some, None, pos}
use Rattle.std.proofs.Common.{refl, sym, arith, subst}
use Rattle.std.proofs.lemmas.Bool.{and_parts}
use Rattle.zl_value.specs.Lists.{Has}
use Rattle.zl_value.specs.OperatorTypes.{type_of}
use Rattle.zl_value.specs.Script.{IsOfType}
use Rattle.zl_value.specs.Fraction.{whole, fits}
use Rattle.zl_value.specs.declared.value.Ty.{Ty}
use Rattle.zl_value.specs.declared.value.Ty.TheVariants.{Bool as BoolTy, Float}
use Rattle.zl_value.specs.declared.value.Value.TheVariants.{F}
use Rattle.zl_value.specs.declared.op.Op.{Op}
use Rattle.zl_value.specs.declared.op.Op.TheVariants.{EqFloat, SubFloat, MulFloat, NegFloat}
use Rattle.zl_value.proofs.Fractions.{IsReduced-one}
use Rattle.zl_meaning.specs.FlatForm.{FlatForm}
use Rattle.zl_meaning.specs.WellFormed.{Stands, AllStand, IsForm, IsAgain}
use Rattle.zl_meaning.specs.Reading.{HasNodeRanks}
use Rattle.zl_meaning.specs.declared.place.PlaceInfo.{PlaceInfo}
use Rattle.zl_meaning.specs.declared.occurrence.Form.{Form}
use Rattle.zl_meaning.specs.declared.occurrence.Form.TheVariants.{Op as Apply, If as IfOf}
use Rattle.zl_meaning.specs.declared.occurrence.Occ.{Occ}
use Rattle.zl_meaning.proofs.Members.{all-has}
use Rattle.zl_kernel.specs.KernelForm.{KernelForm}
use Rattle.zl_kernel.specs.WellFormed.{HasWire, HasMemory, HasInput, IsDef, IsWire}
use Rattle.zl_kernel.specs.declared.wire.Def.TheVariants.{Step as AtSteps, Op as OpWire, If}
use Rattle.zl_kernel.specs.declared.wire.Wire.{Wire}
use Rattle.zl_normal.specs.PlaceWires.{definer_of, start_of}
use Rattle.zl_normal.specs.Tables.{Tables, is_float, is_still, moves, has_form_slope, has_own_slope}
use Rattle.zl_normal.specs.Keys.{keys, form_slope_keys, motion_memories}
use Rattle.zl_normal.specs.HasSlopes.{HasSlope, OfNegated, OfSum, OfDifference, OfProduct, OfQuotient, HasSlopes}
use Rattle.zl_normal.specs.KernelOf.{Numbers, joined, slope_def, slope_wire, wire_of, memory_of}
use Rattle.zl_normal.specs.declared.key.Key.{Key}
use Rattle.zl_normal.specs.declared.key.Key.TheVariants.{Step, Fresh, No, Zero, Value, Rest, Next, Other, Guard, Place, Between, Taken, Passed, Chosen, Last, Remembered, Again, Present, Slope, Motion}
use Rattle.zl_normal.specs.declared.key.Kept.{Kept}
use Rattle.zl_normal.specs.declared.key.Kept.TheVariants.{First, Moving, Derivative}
use Rattle.zl_normal.proofs.MadeFlows.Placed.{slope_there, again_there}
use Rattle.zl_normal.proofs.MadeFlows.SlopeRoots.{float_type}
use Rattle.zl_normal.proofs.MadeFlows.Owners.{OfSloped, of_sloped, OfLast, of_last}
use Rattle.zl_normal.proofs.MadeFlows.Memories.{OfMoving, motion_there}
use Rattle.zl_normal.proofs.MadeFlows.Named.{occ_case, place_case, occ_is, place_is}
use Rattle.zl_normal.proofs.Made.Wires.{IsMade, has_first}
use Rattle.zl_normal.proofs.Made.Forms.{joint_there, drop_next}
use Rattle.zl_normal.proofs.Made.Types.{typed_as, slope_typed, joined_type}
use Rattle.zl_normal.proofs.Made.ValueTypes.{bool_fits, float_fits, blank_fits, joined_fits, dropped_has, test_stands, number_stands, memory_typed, value_fits, rest_fits, next_fits}
use Rattle.zl_normal.proofs.Made.PlaceTypes.{other_fits, guard_fits, defined_fits, taken_fits, passed_fits, chosen_fits, remembered_fits, last_fits}
use Rattle.zl_normal.proofs.Made.PlaceKeys.{of_between, of_motion, OfRemembered, of_remembered}

-- nought is a number of the program
nought_is : IsOfType Float (F (whole (pos 0)))
unfolding fits
nought_is = record { reduced = IsReduced-one (pos 0); fits = refl }

module _ (f : FlatForm) (grades : List ℕ) (t : Tables) (n : Numbers) (k : KernelForm) (made : IsMade f grades t n k) (entries : HasNodeRanks f) where
  -- the slope of an operator
  slope_stands : (b : ℕ) (ty : Ty) (j : ℕ) → Stands f b ty j → HasWire k Float (n.wiring.S j)
  slope_stands b ty j s = slope_typed f grades t n k made entries j s.occ s.is

  number : (b j : ℕ) → Stands f b Float j → HasWire k Float (n.wiring.w j)
  number b j s = number_stands f grades t n k made entries b j s

  operator_typed : (b : ℕ) (op : Op) (ks : List ℕ) → HasSlope grades op ks → AllStand f b (type_of op).operands ks → IsDef k Float (slope_def f grades t n op ks)
  operator_typed b _ _ (OfNegated x) st = ((slope_stands b Float x st.0, tt), refl)
  operator_typed b _ _ (OfSum x y) st = ((slope_stands b Float x st.0, (slope_stands b Float y st.1.0, tt)), refl)
  operator_typed b _ _ (OfDifference x y) st = by (is_still grades x)
    where
      by : (s : Bool) → IsDef k Float (if s then OpWire NegFloat (n.wiring.S y ∷ []) else OpWire SubFloat (n.wiring.S x ∷ n.wiring.S y ∷ []))
      by true = ((slope_stands b Float y st.1.0, tt), refl)
      by false = ((slope_stands b Float x st.0, (slope_stands b Float y st.1.0, tt)), refl)
  operator_typed b _ _ (OfProduct x y still) st = by (is_still grades x)
    where
      by : (s : Bool) → IsDef k Float (if s then OpWire MulFloat (n.wiring.w x ∷ n.wiring.S y ∷ []) else OpWire MulFloat (n.wiring.S x ∷ n.wiring.w y ∷ []))
      by true = ((number b x st.0, (slope_stands b Float y st.1.0, tt)), refl)
      by false = ((slope_stands b Float x st.0, (number b y st.1.0, tt)), refl)
  operator_typed b _ _ (OfQuotient x y) st = ((slope_stands b Float x st.0, (number b y st.1.0, tt)), refl)

  module _ (has : HasSlopes f grades) (j : ℕ) (occ : Occ) (is : slice_get f.occs j ≡ Some occ) (moving : moves grades j occ ≡ true) (own : has_own_slope f grades j occ ≡ true) where
    present_typed : Has (form_slope_keys f grades t j occ.form) (Present j) → HasWire k BoolTy (n.wire (Present j))
    present_typed h = typed_as f grades t n k made entries (Present j) (slope_there f grades t j occ (Present j) is own h) BoolTy refl (n.wire (Present j)) refl

    slope_fits : (form : Form) → occ.form ≡ form → IsForm f occ.block occ.ty form → IsWire k (slope_wire f grades t n j occ form)
    slope_fits (Apply op ks) of st = record {
      value = λ e. cc;
      def = operator_typed occ.block op ks (has.operators j occ op ks is of moving) st.0;
      guard = present_typed (subst (λ form. Has (form_slope_keys f grades t j form) (Present j)) (sym of) (has_first (Present j) (Slope j ∷ [])));
      slope = tt;
    }
    slope_fits (IfOf c x y) of st =
        float_fits k (If (n.wiring.w c) (n.wiring.S x) (n.wiring.S y)) None
        (test_stands f grades t n k made entries occ.block c st.0, slope_stands occ.block occ.ty x st.1, slope_stands occ.block occ.ty y st.2) tt
    slope_fits form of st = blank_fits k

  -- the memories of a place that moves
  moved : (p : ℕ) (m : OfMoving f grades t p) (kept : Kept) → Has (Moving p ∷ Derivative p ∷ []) kept → (memory_of f grades t n kept).ty ≡ Float → HasMemory k Float (n.memory kept)
  moved p m kept h typed =
      memory_typed f grades t n k made entries kept (motion_there f grades t p m.place kept m.is (subst (λ d. Has (motion_memories f grades t p d) kept) (sym m.der) h)) Float typed

  between_type : (p : ℕ) (m : OfMoving f grades t p) → (memory_of f grades t n (Moving p)).ty ≡ Float
  between_type p m = let is = m.is in rw is refl

  derivative_type : (p : ℕ) (m : OfMoving f grades t p) → (memory_of f grades t n (Derivative p)).ty ≡ Float
  derivative_type p m = let is = m.is in let der = m.der in rw is (rw der refl)

  again_fits : (i : ℕ) → IsWire k (joined n.wiring.w (n.wire (Again (suc i))) (drop i f.again))
  again_fits i = joined_fits k n.wiring.w (n.wire (Again (suc i))) (drop i f.again) each more
    where
      each : (u : ℕ) → Has (drop i f.again) u → HasWire k BoolTy (n.wiring.w u)
      each u h =
          let a = all-has (IsAgain f) f.again u made.formed.again (dropped_has f.again i u h) in
          test_stands f grades t n k made entries a.occ.block u (record { occ = a.occ; is = a.is; block = refl; typed = a.typed })

      more : (u v x : ℕ) (us : List ℕ) → drop i f.again ≡ u ∷ v ∷ x ∷ us → HasWire k BoolTy (n.wire (Again (suc i)))
      more u v x us q =
          typed_as f grades t n k made entries (Again (suc i))
          (again_there f grades t (Again (suc i)) (joint_there Again 0 (suc i) (suc i) f.again v x us (drop_next i f.again u (v ∷ x ∷ us) q) (omega arith))) BoolTy
          (joined_type n.wiring.w (n.wire (Again (suc (suc i)))) (drop (suc i) f.again)) (n.wire (Again (suc i))) refl

  module _ (has : HasSlopes f grades) (inputs : (i p : ℕ) (place : PlaceInfo) → slice_get f.ins i ≡ Some p → slice_get f.places p ≡ Some place → HasInput k place.ty i) where
    abbrev Fits : Wire → Type 0
    Fits wire = IsWire k wire

    pub wire_fits : (key : Key) → Has (keys f grades t) key → IsWire k (wire_of f grades t n key)
    wire_fits Step h = bool_fits k AtSteps None refl tt
    wire_fits Fresh h = bool_fits k _ None (memory_typed f grades t n k made entries First (has_first _ _) BoolTy refl) tt
    wire_fits No h = blank_fits k
    wire_fits Zero h = float_fits k _ None nought_is tt
    wire_fits (Value j) h = occ_case f grades t n Fits _ j (blank_fits k) (λ occ is. value_fits f grades t n k made entries j occ is occ.form refl (made.formed.occs j occ is).form)
    wire_fits (Rest j i) h = occ_case f grades t n Fits _ j (blank_fits k) (λ occ is. rest_fits f grades t n k made entries j occ is i occ.form refl (made.formed.occs j occ is).form)
    wire_fits (Next j) h = occ_case f grades t n Fits _ j (blank_fits k) (λ occ is. next_fits f grades t n k made entries j occ is occ.form refl (made.formed.occs j occ is).form)
    wire_fits (Other j) h = other_fits f grades t n k made entries j (slice_get t.roles j) refl
    wire_fits (Guard j) h = guard_fits f grades t n k made entries j (slice_get t.roles j) refl
    wire_fits (Place p) h = place_case f grades t n Fits _ p (blank_fits k) (λ place is. defined_fits f grades t n k made entries p place is (λ i at. inputs i p place at is) (definer_of place.definers) refl)
    wire_fits (Between p) h = let m = of_between f grades t p h in float_fits k _ None (moved p m (Moving p) (has_first _ _) (between_type p m)) tt
    wire_fits (Taken p i) h = place_case f grades t n Fits _ p (blank_fits k) (λ place is. taken_fits f grades t n k made entries p place is i _ refl)
    wire_fits (Passed p i) h = place_case f grades t n Fits _ p (blank_fits k) (λ place is. passed_fits f grades t n k made entries p place is i _ refl)
    wire_fits (Chosen p i) h = place_case f grades t n Fits _ p (blank_fits k) (λ place is. chosen_fits f grades t n k made entries p place is i _ refl)
    wire_fits (Last p) h =
        let o : OfLast f grades t p = of_last f grades t p h in
        subst (λ wire. IsWire k wire) (sym (place_is f grades t n _ p o.place o.is)) (last_fits f grades t n k made entries p o.place o.is o.own (start_of o.place.definers) refl)
    wire_fits (Remembered p) h =
        let o : OfRemembered f grades t p = of_remembered f grades t p h in
        subst (λ wire. IsWire k wire) (sym (place_is f grades t n _ p o.place o.is)) (remembered_fits f grades t n k made entries p o.place o.is o.own)
    wire_fits (Again i) h = again_fits i
    wire_fits (Present j) h =
        let o : OfSloped f grades t j (Present j) = of_sloped f grades t (Present j) j h refl in
        let moving = (and_parts (moves grades j o.occ) (has_form_slope f grades o.occ.form) o.own).0 in
        let ty : o.occ.ty ≡ Float = float_type o.occ.ty (and_parts (is_float o.occ.ty) _ moving).0 in
        let s : HasWire k Float (n.wiring.w j) = number o.occ.block j (record { occ = o.occ; is = o.is; block = refl; typed = ty }) in
        bool_fits k (OpWire EqFloat (n.wiring.w j ∷ n.wiring.w j ∷ [])) None ((s, (s, tt)), refl) tt
    wire_fits (Slope j) h =
        let o : OfSloped f grades t j (Slope j) = of_sloped f grades t (Slope j) j h refl in
        let moving = (and_parts (moves grades j o.occ) (has_form_slope f grades o.occ.form) o.own).0 in
        subst (λ wire. IsWire k wire) (sym (occ_is f grades t n _ j o.occ o.is)) (slope_fits has j o.occ o.is moving o.own o.occ.form refl (made.formed.occs j o.occ o.is).form)
    wire_fits (Motion p) h = let m = of_motion f grades t p h in float_fits k _ None (moved p m (Derivative p) (record { index = 1; is = refl }) (derivative_type p m)) tt
