-- The operators that are solved at instants, in the kernel that is made of a form: those of its occurrences, `not` and `or`.
use Rattle.std.specs.Prelude.{◌≡◌, ℕ, suc, Bool, true, false, if◌then◌else◌, List, [], ◌∷◌, drop, slice_get, Option, Some, None}
use Rattle.std.specs.Option.{option_map}
use Rattle.std.proofs.Common.{refl, sym, ap, ◌∙◌, subst, ◌⊎◌, inl, inr}
use Rattle.std.proofs.lemmas.Option.{slice_get-map}
use Rattle.zl_value.specs.declared.value.Ty.{Ty}
use Rattle.zl_value.specs.declared.op.Op.{Op}
use Rattle.zl_value.specs.declared.op.Op.TheVariants.{Or, Not}
use Rattle.zl_meaning.specs.FlatForm.{FlatForm}
use Rattle.zl_meaning.specs.declared.place.Definer.{Definer}
use Rattle.zl_meaning.specs.declared.place.Definer.TheVariants.{Input, Plain, Der, Start}
use Rattle.zl_meaning.specs.declared.place.DerArm.{DerArm}
use Rattle.zl_meaning.specs.declared.place.PlaceInfo.{PlaceInfo}
use Rattle.zl_meaning.specs.declared.occurrence.Form.{Form}
use Rattle.zl_meaning.specs.declared.occurrence.Form.TheVariants.{Lit, Read, Last as LastOf, Op as Apply, If as IfOf, Arrow, Pre, Result, Up, Fired, Step as AtSteps}
use Rattle.zl_meaning.specs.declared.occurrence.Occ.{Occ}
use Rattle.zl_kernel.specs.KernelForm.{KernelForm}
use Rattle.zl_kernel.specs.FlowWires.{is_of_flows}
use Rattle.zl_kernel.specs.declared.wire.Def.TheVariants.{Mem, Op as OpWire, If}
use Rattle.zl_kernel.specs.declared.wire.Wire.{Wire}
use Rattle.zl_normal.specs.Normal.{IsOwn}
use Rattle.zl_normal.specs.PlaceWires.{definer_of, start_of}
use Rattle.zl_normal.specs.Tables.{Tables, is_literal}
use Rattle.zl_normal.specs.Keys.{keys}
use Rattle.zl_normal.specs.KernelOf.{Numbers, blank, plain, joined, value_wire, rest_wire, next_wire, other_wire, guard_wire, defined_wire, arms_of, taken_wire, passed_wire, chosen_wire, last_wire, of_occ, of_place, wire_of}
use Rattle.zl_normal.specs.Layout.{IsValueAt}
use Rattle.zl_normal.specs.declared.role.Role.{Role}
use Rattle.zl_normal.specs.declared.role.Role.TheVariants.{Branch, Both, Start as OfStart, Reset as OfReset}
use Rattle.zl_normal.specs.declared.key.Key.{Key}
use Rattle.zl_normal.specs.declared.key.Key.TheVariants.{Step, Fresh, No, Zero, Value, Rest, Next, Other, Guard, Place, Between, Taken, Passed, Chosen, Last, Remembered, Again, Present, Slope, Motion}
use Rattle.zl_normal.specs.declared.key.Kept.TheVariants.{Before}
use Rattle.zl_normal.proofs.Made.Wires.{IsMade}

-- it is solved in flows alone, and has an operator
abbrev pub of_slopes : Key → Bool
of_slopes (Present j) = true
of_slopes (Slope j) = true
of_slopes key = false

abbrev IsLogical : Op → Type 0
IsLogical op = (op ≡ Not) ⊎ (op ≡ Or)

module _ (f : FlatForm) (grades : List ℕ) (t : Tables) (n : Numbers) where
  -- what holds of each wire of an occurrence, of a place
  occ_case : (P : Wire → Type 0) (make : Occ → Wire) (j : ℕ) → P blank → ((occ : Occ) → slice_get f.occs j ≡ Some occ → P (make occ)) → P (of_occ f grades t n make j)
  occ_case P make j none some = by (slice_get f.occs j) refl
    where
      by : (o : Option Occ) → slice_get f.occs j ≡ o → P (of_occ f grades t n make j)
      by None e = rw e none
      by (Some occ) e = let it = some occ e in rw e it

  place_case : (P : Wire → Type 0) (make : PlaceInfo → Wire) (p : ℕ) → P blank → ((place : PlaceInfo) → slice_get f.places p ≡ Some place → P (make place)) → P (of_place f grades t n make p)
  place_case P make p none some = by (slice_get f.places p) refl
    where
      by : (o : Option PlaceInfo) → slice_get f.places p ≡ o → P (of_place f grades t n make p)
      by None e = rw e none
      by (Some place) e = let it = some place e in rw e it

  module _ (op : Op) (ns : List ℕ) where
    -- an operator in this wire is `not` or `or`
    abbrev Logical : Wire → Type 0
    Logical wire = wire.def ≡ OpWire op ns → (op ≡ Not) ⊎ (op ≡ Or)

    joined_logical : (w : ℕ → ℕ) (rest : ℕ) (ks : List ℕ) → (joined w rest ks).def ≡ OpWire op ns → (op ≡ Not) ⊎ (op ≡ Or)
    joined_logical w rest [] e = absurd cc
    joined_logical w rest (u ∷ []) e = absurd cc
    joined_logical w rest (u ∷ v ∷ []) e = inr cc
    joined_logical w rest (u ∷ v ∷ x ∷ us) e = inr cc

    rest_logical : (j i : ℕ) (form : Form) → (rest_wire f grades t n j i form).def ≡ OpWire op ns → (op ≡ Not) ⊎ (op ≡ Or)
    rest_logical j i (Fired ks) e = joined_logical n.wiring.w (n.wire (Rest j (suc i))) (drop i ks) e
    rest_logical j i form e = absurd cc

    next_logical : (form : Form) (ty : Ty) → (next_wire f grades t n form ty).def ≡ OpWire op ns → (op ≡ Not) ⊎ (op ≡ Or)
    next_logical (Pre x) ty e = absurd cc
    next_logical form ty e = absurd cc

    other_logical : (r : Option Role) → (other_wire f grades t n r).def ≡ OpWire op ns → (op ≡ Not) ⊎ (op ≡ Or)
    other_logical (Some (Both whole c)) e = inl cc
    other_logical r e = absurd cc

    guard_logical : (j : ℕ) (r : Option Role) → (guard_wire f grades t n j r).def ≡ OpWire op ns → (op ≡ Not) ⊎ (op ≡ Or)
    guard_logical j (Some (Branch whole c true)) e = absurd cc
    guard_logical j (Some (Branch whole c false)) e = inl cc
    guard_logical j (Some (Both whole c)) e = inr cc
    guard_logical j (Some (OfStart p)) e = absurd cc
    guard_logical j (Some (OfReset p i)) e = absurd cc
    guard_logical j r e = absurd cc

    defined_logical : (p : ℕ) (place : PlaceInfo) (d : Option Definer) → (defined_wire f grades t n p place d).def ≡ OpWire op ns → (op ≡ Not) ⊎ (op ≡ Or)
    defined_logical p place None e = absurd cc
    defined_logical p place (Some (Input i)) e = absurd cc
    defined_logical p place (Some (Plain b j)) e = absurd cc
    defined_logical p place (Some (Der b j arms)) e = absurd cc
    defined_logical p place (Some (Start b j)) e = absurd cc

    taken_logical : (p i : ℕ) (arms : List DerArm) → (taken_wire f grades t n p i arms).def ≡ OpWire op ns → (op ≡ Not) ⊎ (op ≡ Or)
    taken_logical p i [] e = absurd cc
    taken_logical p i (arm ∷ arms) e = absurd cc

    passed_logical : (p i : ℕ) (arms : List DerArm) → (passed_wire f grades t n p i arms).def ≡ OpWire op ns → (op ≡ Not) ⊎ (op ≡ Or)
    passed_logical p i [] e = absurd cc
    passed_logical p i (arm ∷ arms) e = inl cc

    chosen_logical : (p i : ℕ) (arms : List DerArm) → (chosen_wire f grades t n p i arms).def ≡ OpWire op ns → (op ≡ Not) ⊎ (op ≡ Or)
    chosen_logical p i [] e = absurd cc
    chosen_logical p i (arm ∷ arms) e = absurd cc

    last_logical : (p : ℕ) (place : PlaceInfo) (s : Option ℕ) → (last_wire f grades t n p place s).def ≡ OpWire op ns → (op ≡ Not) ⊎ (op ≡ Or)
    last_logical p place None e = absurd cc
    last_logical p place (Some j) e = by (is_literal f j) e
      where
        by : (b : Bool) → (if b then plain place.ty (Mem (n.memory (Before p))) None else plain place.ty (If n.wiring.fresh (n.wiring.w j) (n.wire (Remembered p))) None).def ≡ OpWire op ns → (op ≡ Not) ⊎ (op ≡ Or)
        by true e = absurd cc
        by false e = absurd cc

    -- the wire of a value is that of the operator of its occurrence
    value_own : (j : ℕ) (occ : Occ) → (form : Form) → occ.form ≡ form → (value_wire f grades t n j occ form).def ≡ OpWire op ns → (ks : List ℕ) × (occ.form ≡ Apply op ks) × ((value_wire f grades t n j occ form).ord ≡ j)
    value_own j occ (Lit v) of e = absurd cc
    value_own j occ (Read p) of e = absurd cc
    value_own j occ (LastOf p) of e = absurd cc
    value_own j occ (Apply o ks) of e = let same : o ≡ op = cc in (ks, of ∙ ap (λ o. Apply o ks) same, refl)
    value_own j occ (IfOf c x y) of e = absurd cc
    value_own j occ (Arrow x y) of e = absurd cc
    value_own j occ (Pre x) of e = absurd cc
    value_own j occ (Result x) of e = absurd cc
    value_own j occ (Up s) of e = absurd cc
    value_own j occ (Fired ks) of e = absurd cc
    value_own j occ AtSteps of e = absurd cc

    -- either, by what the wire stands for
    pub data Owned (m : ℕ) (wire : Wire) : Key → Type 0 where
      OfLogic : (key : Key) → (op ≡ Not) ⊎ (op ≡ Or) → Owned m wire key
      OfSlopes : (key : Key) → of_slopes key ≡ true → Owned m wire key
      OfValue : (j : ℕ) (occ : Occ) (ks : List ℕ) → slice_get f.occs j ≡ Some occ → occ.form ≡ Apply op ks → wire.ord ≡ j → Owned m wire (Value j)

    by_key : (m : ℕ) (key : Key) → (wire_of f grades t n key).def ≡ OpWire op ns → Owned m (wire_of f grades t n key) key
    by_key m Step e = absurd cc
    by_key m Fresh e = absurd cc
    by_key m No e = absurd cc
    by_key m Zero e = absurd cc
    by_key m (Value j) e =
        occ_case (λ wire. wire.def ≡ OpWire op ns → Owned m wire (Value j)) (λ occ. value_wire f grades t n j occ occ.form) j (λ d. absurd cc)
        (λ occ is d. let own = value_own j occ occ.form refl d in OfValue j occ own.0 is own.1 own.2) e
    by_key m (Rest j i) e = OfLogic (Rest j i) (occ_case (λ wire. Logical wire) (λ occ. rest_wire f grades t n j i occ.form) j (λ d. absurd cc) (λ occ is d. rest_logical j i occ.form d) e)
    by_key m (Next j) e = OfLogic (Next j) (occ_case (λ wire. Logical wire) (λ occ. next_wire f grades t n occ.form occ.ty) j (λ d. absurd cc) (λ occ is d. next_logical occ.form occ.ty d) e)
    by_key m (Other j) e = OfLogic (Other j) (other_logical (slice_get t.roles j) e)
    by_key m (Guard j) e = OfLogic (Guard j) (guard_logical j (slice_get t.roles j) e)
    by_key m (Place p) e =
        OfLogic (Place p) (place_case (λ wire. Logical wire) (λ place. defined_wire f grades t n p place (definer_of place.definers)) p (λ d. absurd cc) (λ place is d. defined_logical p place (definer_of place.definers) d) e)
    by_key m (Between p) e = absurd cc
    by_key m (Taken p i) e =
        OfLogic (Taken p i)
        (place_case (λ wire. Logical wire) (λ place. taken_wire f grades t n p i (drop i (arms_of f grades t n (definer_of place.definers)))) p (λ d. absurd cc) (λ place is d. taken_logical p i _ d) e)
    by_key m (Passed p i) e =
        OfLogic (Passed p i)
        (place_case (λ wire. Logical wire) (λ place. passed_wire f grades t n p i (drop i (arms_of f grades t n (definer_of place.definers)))) p (λ d. absurd cc) (λ place is d. passed_logical p i _ d) e)
    by_key m (Chosen p i) e =
        OfLogic (Chosen p i)
        (place_case (λ wire. Logical wire) (λ place. chosen_wire f grades t n p i (drop i (arms_of f grades t n (definer_of place.definers)))) p (λ d. absurd cc) (λ place is d. chosen_logical p i _ d) e)
    by_key m (Last p) e = OfLogic (Last p) (place_case (λ wire. Logical wire) (λ place. last_wire f grades t n p place (start_of place.definers)) p (λ d. absurd cc) (λ place is d. last_logical p place (start_of place.definers) d) e)
    by_key m (Remembered p) e = OfLogic (Remembered p) (place_case (λ wire. Logical wire) _ p (λ d. absurd cc) (λ place is d. absurd cc) e)
    by_key m (Again i) e = OfLogic (Again i) (joined_logical n.wiring.w (n.wire (Again (suc i))) (drop i f.again) e)
    by_key m (Present j) e = OfSlopes (Present j) refl
    by_key m (Slope j) e = OfSlopes (Slope j) refl
    by_key m (Motion p) e = absurd cc

  module _ (k : KernelForm) (made : IsMade f grades t n k) (alone : (number : ℕ) (key : Key) → slice_get (keys f grades t) number ≡ Some key → of_slopes key ≡ true → is_of_flows k number ≡ true) where
    owned : (m : ℕ) (op : Op) (ns : List ℕ) (wire : Wire) → is_of_flows k m ≡ false → (key : Key) → slice_get (keys f grades t) m ≡ Some key → Owned op ns m wire key → ((op ≡ Not) ⊎ (op ≡ Or)) ⊎ IsOwn f n.wiring m wire op
    owned m op ns wire solved _ at (OfLogic key l) = inl l
    owned m op ns wire solved _ at (OfSlopes key of) = let clash : false ≡ true = sym solved ∙ alone m key at of in absurd cc
    owned m op ns wire solved _ at (OfValue j occ ks is of ord) =
        let named : IsValueAt f grades t n j (Apply op ks) = subst (λ form. IsValueAt f grades t n j form) of (made.layout.wired.values j occ is) in
        inr
        (record {
          occ = occ;
          ks = ks;
          is = ap (λ i. slice_get f.occs i) ord ∙ is;
          form = of;
          same = ap (λ i. n.wiring.w i) ord ∙ named ∙ made.layout.wires m (Value j) at;
        })

    some_wire : (x y : Wire) → Some x ≡ Some y → x ≡ y
    some_wire x y e = cc

    pub faults : (m : ℕ) (wire : Wire) (op : Op) (ns : List ℕ) → slice_get k.wires m ≡ Some wire → is_of_flows k m ≡ false → wire.def ≡ OpWire op ns → ((op ≡ Not) ⊎ (op ≡ Or)) ⊎ IsOwn f n.wiring m wire op
    faults m wire op ns at solved def = by (slice_get (keys f grades t) m) refl there
      where
        there : option_map (wire_of f grades t n) (slice_get (keys f grades t) m) ≡ Some wire
        there = sym (slice_get-map (wire_of f grades t n) (keys f grades t) m) ∙ sym (ap (λ l. slice_get l m) made.wires) ∙ at

        by : (o : Option Key) → slice_get (keys f grades t) m ≡ o → option_map (wire_of f grades t n) o ≡ Some wire → ((op ≡ Not) ⊎ (op ≡ Or)) ⊎ IsOwn f n.wiring m wire op
        by None e listed = absurd cc
        by (Some key) e listed =
            let same : wire_of f grades t n key ≡ wire = some_wire _ _ listed in
            owned m op ns wire solved key e (subst (λ v. Owned op ns m v key) same (by_key op ns m key (ap (λ (v : Wire). v.def) same ∙ def)))
