-- A flow of a normal form has the fault of the form's flow: that of the first slope that isn't in the width.
use Rattle.std.specs.Prelude.{◌≡◌, ℕ, zero, suc, ◌<◌, ◌≤◌, ◌⊎◌, ◌+◌, nat_le, Bool, true, false, if◌then◌else◌, List, [], ◌∷◌, length, map, slice_get, get_or, Option, Some, None}
use Rattle.std.specs.List.{AllByRecursion}
use Rattle.std.specs.Option.{option_map, option_and_then}
use Rattle.std.proofs.Common.{refl, sym, ap, ap₂, ◌∙◌, arith, subst, inl, inr, ⊎_elim}
use Rattle.zl_value.specs.Fraction.{Fraction, sub, fits}
use Rattle.zl_value.specs.Times.{nought, unit, holds}
use Rattle.zl_value.specs.Widths.{first_wide}
use Rattle.zl_value.specs.Operators.{Nothing, answered}
use Rattle.zl_value.specs.declared.arith.Arith.TheVariants.{Range}
use Rattle.zl_value.specs.declared.position.Pos.{Pos}
use Rattle.zl_value.specs.declared.value.Fault.{Fault}
use Rattle.zl_value.specs.declared.value.Value.{Value}
use Rattle.zl_value.specs.declared.value.Value.TheVariants.{B, I, F}
use Rattle.zl_value.specs.declared.value.Ty.TheVariants.{Float}
use Rattle.zl_value.specs.declared.op.Op.{Op}
use Rattle.zl_value.specs.declared.op.Op.TheVariants.{EqFloat}
use Rattle.zl_meaning.specs.FlatForm.{FlatForm}
use Rattle.zl_meaning.specs.State.{AtUsed, AtValue}
use Rattle.zl_meaning.specs.Moment.{AtStep}
use Rattle.zl_meaning.specs.Occurrences.{gathered}
use Rattle.zl_meaning.specs.Solves.{fault_of, if_evaluated, or_later}
use Rattle.zl_meaning.specs.Slopes.{all_fine, sources, slope_test, slope_tests, slope_fault}
use Rattle.zl_meaning.specs.Grades.{Grading, grade_of, keeps_lines}
use Rattle.zl_meaning.specs.WellFormed.{IsForm, IsWellFormed}
use Rattle.zl_meaning.specs.Single.{IsSingle}
use Rattle.zl_meaning.specs.declared.occurrence.Form.TheVariants.{Op as Apply}
use Rattle.zl_meaning.specs.declared.occurrence.Occ.{Occ}
use Rattle.zl_meaning.proofs.WrittenForms.{at-start}
use Rattle.zl_meaning.proofs.GradesKept.OfTypes.{IsOf}
use Rattle.zl_kernel.specs.KernelForm.{KernelForm}
use Rattle.zl_kernel.specs.FlowWires.{is_of_flows}
use Rattle.zl_kernel.specs.Faults.{Ranked, ranked, fault_of as kernel_fault}
use Rattle.zl_kernel.specs.Wires.{held, is_open, wire_answer, answer as wire_says, gathered as collected, applied as worked}
use Rattle.zl_kernel.specs.System.{flow_moment}
use Rattle.zl_kernel.specs.declared.wire.Def.{Def}
use Rattle.zl_kernel.specs.declared.wire.Def.TheVariants.{Lit as LitWire, Op as OpWire}
use Rattle.zl_kernel.specs.declared.wire.Wire.{Wire}
use Rattle.zl_normal.specs.Evaluated.{HasGuardRanks}
use Rattle.zl_normal.specs.Starts.{IsRight}
use Rattle.zl_normal.specs.Wiring.{Wiring}
use Rattle.zl_normal.specs.FormWires.{AreParts, IsApplied, Made, Folded, IsFormWire}
use Rattle.zl_normal.specs.SlopeWires.{IsTested, IsSlopeMade, Negated, Sum, Difference, RightOfDifference, StillLeft, StillRight, Quotient, IsOwnSlope}
use Rattle.zl_normal.specs.Normal.{IsOwn, IsNormalAtInstants, IsNormalInFlows}
use Rattle.zl_normal.specs.MainBlock.{IsMain}
use Rattle.zl_normal.proofs.Instants.Follows.{some_is}
use Rattle.zl_normal.proofs.Wires.FirstFaults.{zero_more, first_none, clash, at_ord, ranked_is, first_from, WireOf, TurnOf, same_first}
use Rattle.zl_normal.proofs.Values.Entries.{applied_same}
use Rattle.zl_normal.proofs.Instants.Faults.{operators, not_right, or_right, gate_fault}
use Rattle.zl_normal.proofs.Slopes.FlowValues.{InFlowOf, some_f, V}
use Rattle.zl_normal.proofs.Slopes.Moving.{MovesTo}
use Rattle.zl_normal.proofs.Slopes.MovingPlaces.{moves}
use Rattle.zl_normal.proofs.Slopes.SlopeWires.{flow_wire_is, says_slope}
use Rattle.zl_normal.proofs.Slopes.SlopeOperators.{BesideFlow, Sloped, SaysSlope, made_says, present_is, open_is}
use Rattle.zl_normal.proofs.Slopes.NarrowSlopes.{HasOwn, narrow_same, narrow_form}
use Rattle.zl_normal.proofs.Slopes.AllSlopes.{slopes}
use Rattle.zl_normal.proofs.Slopes.WideSlopes.{wide_of_two, IsWide, wide_is, is_wide, float_of, eq_right, low_true, true_low, SaysWide, says_wide, wide_says, gate_open, used_value}

module _ (f : FlatForm) (g : Grading) (main : IsMain f) (formed : IsWellFormed f) (c : InFlowOf f g) (single : IsSingle f) (ranks : HasGuardRanks f) (k : KernelForm) (N : Wiring) (moving : IsNormalInFlows f g.occs k N) (d : BesideFlow f g main c k N) where
  -- the fault of an occurrence's slope
  abbrev pub slope_at : ℕ → Occ → Option Fault
  slope_at j occ = first_wide (slope_test f g.occs (c.at nought) (c.at unit) c.fine j occ)

  first_slope : (base : ℕ) (occs : List Occ) → first_from slope_at base occs ≡ first_wide (slope_tests f g.occs (c.at nought) (c.at unit) c.fine base occs)
  first_slope base [] = refl
  first_slope base (occ ∷ occs) = ap (λ x. or_later (slope_at base occ) x) (first_slope (suc base) occs) ∙ sym (wide_of_two (slope_test f g.occs (c.at nought) (c.at unit) c.fine base occ) (slope_tests f g.occs (c.at nought) (c.at unit) c.fine (suc base) occs))

  all_sloped : (ks : List ℕ) → AllByRecursion (Sloped f g main formed c single ranks k N moving d) ks
  all_sloped [] = tt
  all_sloped (j ∷ js) = (slopes f g main formed c single ranks k N moving d j, all_sloped js)

  -- an old occurrence of grade 0 or 1 has it among all grades too
  pub old_grade : (j : ℕ) → get_or g.occs j 3 ≤ 1 → grade_of c.whole j ≡ get_or g.occs j 3
  old_grade j l = c.form.old j (inside g.occs j l)
    where
      inside : (l : List ℕ) (n : ℕ) → get_or l n 3 ≤ 1 → n < length l
      inside [] n e = absurd (let z : 3 ≤ 1 = e in omega (arith, z))
      inside (m ∷ l) zero e = omega arith
      inside (m ∷ l) (suc n) e = let i = inside l n e in omega (arith, i)

  whole_low : (j : ℕ) → get_or g.occs j 3 ≤ 1 → grade_of c.whole j ≤ 1
  whole_low j l = subst (λ x. x ≤ 1) (sym (old_grade j l)) l

  -- what wire `n` has of a fault in the flow
  abbrev at_flow : ℕ → Wire → Option Ranked
  at_flow n wire = ranked wire (wire_answer k (flow_moment k d.i) (held d.y) n wire)

  says : (n : ℕ) (wire : Wire) (def : Def) (guard : Option ℕ) → wire.def ≡ def → wire.guard ≡ guard → at_flow n wire ≡ option_map (λ (x : Fault). record { ord = wire.ord; fault = x }) (if_evaluated (is_open (held d.y) guard) (fault_of wire.at (wire_says (flow_moment k d.i) (held d.y) def)))
  says n wire def guard e q =
      ranked_is wire (wire_answer k (flow_moment k d.i) (held d.y) n wire)
      ∙ ap₂ (λ o x. option_map (λ (x : Fault). record { ord = wire.ord; fault = x }) (fault_of wire.at (if is_open (held d.y) o then wire_says (flow_moment k d.i) (held d.y) x else Nothing))) q e
      ∙ ap (λ x. option_map (λ (x : Fault). record { ord = wire.ord; fault = x }) x) (gate_fault wire.at (is_open (held d.y) guard) (wire_says (flow_moment k d.i) (held d.y) def))

  silent : (n : ℕ) (wire : Wire) → (is_open (held d.y) wire.guard ≡ true → fault_of wire.at (wire_says (flow_moment k d.i) (held d.y) wire.def) ≡ None) → at_flow n wire ≡ None
  silent n wire none = says n wire wire.def wire.guard refl refl ∙ by (is_open (held d.y) wire.guard) none
    where
      by : (b : Bool) → (b ≡ true → fault_of wire.at (wire_says (flow_moment k d.i) (held d.y) wire.def) ≡ None) → at_ord wire.ord (if_evaluated b (fault_of wire.at (wire_says (flow_moment k d.i) (held d.y) wire.def))) ≡ None
      by true none = ap (λ x. at_ord wire.ord x) (none refl)
      by false none = refl

  -- an operator that has a slope of its own, and a number at the start
  record Own (j : ℕ) (occ : Occ) (op : Op) (ks : List ℕ) : Type 0 where
    is : slice_get f.occs j ≡ Some occ
    form : occ.form ≡ Apply op ks
    ty : occ.ty ≡ Float
    low : grade_of c.whole j ≤ 1
    on : V f g main c nought (AtUsed j) ≡ true
    a : Fraction
    b : Fraction
    start : V f g main c nought (AtValue j) ≡ Some (F a)
    end : V f g main c unit (AtValue j) ≡ Some (F b)

  module _ (j : ℕ) (occ : Occ) (op : Op) (ks : List ℕ) (o : Own j occ op ks) (made : IsSlopeMade f g.occs k N j occ op ks) where
    stands : IsForm f occ.block occ.ty (Apply op ks)
    stands = subst (λ w. IsForm f occ.block occ.ty w) o.form (formed.occs j occ o.is).form

    slope_says : SaysSlope f g main formed c single ranks k N moving d j occ o.is o.ty o.low o.on o.a o.b o.start o.end ks
    slope_says = made_says f g main formed c single ranks k N moving d j occ o.is o.ty o.low o.on o.a o.b o.start o.end op ks o.form stands.0 (c.form.operators j op ks occ o.is o.ty o.low o.form) (all_sloped ks) made

    -- the wire of its slope says so
    wire_is : at_flow (N.S j) slope_says.tested.made.wire.wire ≡ ranked slope_says.tested.made.wire.wire (says_slope (all_fine c.fine ks) (sub o.b o.a))
    wire_is =
        let t = slope_says.tested in
        let w = t.made.wire.wire in
        ap₂ (λ o x. ranked w (if is_open (held d.y) o then wire_says (flow_moment k d.i) (held d.y) x else Nothing)) t.made.wire.guard_is t.made.wire.def_is
        ∙ ap (λ v. ranked w (if holds v then worked slope_says.op (collected (held d.y) slope_says.ns) else Nothing))
        (present_is f g main formed c single ranks k N moving d j t.presence t.present o.a (open_is f g main formed c single ranks k N moving d j occ o.is o.on (F o.a) o.start))
        ∙ ap (λ x. ranked w x) slope_says.says

  -- operators whose slopes are made from those of their operands
  lines : (j : ℕ) (occ : Occ) (op : Op) (ks : List ℕ) → IsSlopeMade f g.occs k N j occ op ks → keeps_lines op ≡ true
  lines j occ _ _ (Negated x t) = refl
  lines j occ _ _ (Sum x y t) = refl
  lines j occ _ _ (Difference x y t) = refl
  lines j occ _ _ (RightOfDifference x y nil t) = refl
  lines j occ _ _ (StillLeft x y still t) = refl
  lines j occ _ _ (StillRight x y still t) = refl
  lines j occ _ _ (Quotient x y t) = refl

  sources_are : (j : ℕ) (occ : Occ) (op : Op) (ks : List ℕ) → occ.form ≡ Apply op ks → IsSlopeMade f g.occs k N j occ op ks → sources f (V f g main c nought) occ.form ≡ ks
  sources_are j occ op ks e made = ap (λ x. sources f (V f g main c nought) x) e ∙ ap (λ z. if z then ks else []) (lines j occ op ks made)

  -- a slope that isn't in the width is a fault of its wire
  to_wire : (j : ℕ) (occ : Occ) (fault : Fault) → slice_get f.occs j ≡ Some occ → slope_at j occ ≡ Some fault → WireOf k (flow_moment k d.i) (held d.y) (length f.occs + j) fault
  to_wire j occ fault is has =
      ⊎_elim
      (λ still. absurd (narrow (narrow_same f g main formed c single ranks k N moving d j occ is ty low on w.from w.to w.start w.end (some_f w.to there.b (sym w.end ∙ there.there) ∙ (there.still (old_zero still.0)).0))))
      (λ slope. by (narrow_form f g main formed c single ranks k N moving d j occ is ty low on w.from w.to w.start w.end occ.form refl (formed.occs j occ is).form slope w.made))
      (moving.slopes j occ is ty (inl (true_low _ w.graded)))
    where
      w : IsWide (V f g main c nought (AtUsed j)) (nat_le (get_or g.occs j 3) 1) (all_fine c.fine (sources f (V f g main c nought) occ.form)) (V f g main c nought (AtValue j)) (V f g main c unit (AtValue j)) occ.at fault
      w = wide_is _ _ _ _ _ occ.at fault has

      on : V f g main c nought (AtUsed j) ≡ true
      on = w.on

      ty : occ.ty ≡ Float
      ty = float_of occ.ty w.from (subst (λ x. IsOf occ.ty x) w.start (c.typed nought at-start (AtValue j) occ is))

      low : grade_of c.whole j ≤ 1
      low = whole_low j (true_low _ w.graded)

      there : MovesTo f g main formed c j w.from
      there = moves f g main formed c single ranks j occ is ty low on w.from w.start

      old_zero : get_or g.occs j 3 ≡ 0 → grade_of c.whole j ≡ 0
      old_zero e = old_grade j (omega (arith, e)) ∙ e

      narrow : fits (sub w.to w.from) ≡ true → ⊥
      narrow e = let z : true ≡ false = sym e ∙ w.wide in absurd cc

      by : (fits (sub w.to w.from) ≡ true) ⊎ HasOwn f g main formed c single ranks k N moving d j occ is ty low on w.from w.to w.start w.end occ.form → WireOf k (flow_moment k d.i) (held d.y) (length f.occs + j) fault
      by (inl e) = absurd (narrow e)
      by (inr o) =
          let own : Own j occ o.op o.ks = record { is = is; form = o.says; ty = ty; low = low; on = on; a = w.from; b = w.to; start = w.start; end = w.end } in
          let s = slope_says j occ o.op o.ks own o.made in
          record {
            n = N.S j;
            wire = s.tested.made.wire.wire;
            is = s.tested.made.wire.is;
            has =
                wire_is j occ o.op o.ks own o.made
                ∙ wide_says (all_fine c.fine o.ks) (sub w.to w.from) s.tested.made.wire.wire (sym (ap (λ l. all_fine c.fine l) (sources_are j occ o.op o.ks o.says o.made)) ∙ w.made) w.wide
                ∙ ap₂ (λ m p. Some (record { ord = m; fault = record { kind = Range; at = p } })) s.tested.made.ord s.tested.made.at
                ∙ ap (λ x. Some (record { ord = length f.occs + j; fault = x })) w.is;
          }

  module _ (normal : IsNormalAtInstants f k N) (starts : IsRight f (V f g main c nought)) where
    all_gathered : (whole : ℕ) (js : List ℕ) → AreParts f k N whole js → is_open (held d.y) (N.G whole) ≡ true → gathered (V f g main c nought) js ≡ collected (held d.y) (map N.w js)
    all_gathered whole [] parts o = refl
    all_gathered whole (j ∷ js) parts o =
        let x = d.same.values j parts.0.there (ap (λ g. is_open (held d.y) g) parts.0.guard ∙ o) in let y = all_gathered whole js parts.1 o in rw (x, y) refl

    -- the wire of an operator's value has no fault in the flow
    value_silent : (n : ℕ) (wire : Wire) (op : Op) (ns : List ℕ) → slice_get k.wires n ≡ Some wire → wire.def ≡ OpWire op ns → IsOwn f N n wire op → at_flow n wire ≡ None
    value_silent n wire op ns is e own = by fm.0 fm.1
      where
        fm : IsFormWire f k N wire.ord own.occ (Apply op own.ks)
        fm = subst (λ x. IsFormWire f k N wire.ord own.occ x) own.form (normal.forms wire.ord own.occ own.is)

        apart : (v : Value) → LitWire v ≡ OpWire op ns → ⊥
        apart v e = absurd cc

        by : AreParts f k N wire.ord own.ks → IsApplied f k N wire.ord own.occ op own.ks → at_flow n wire ≡ None
        by parts (Made made ord at) =
            let twin : made.wire ≡ wire = some_is made.wire wire (sym made.is ∙ ap (λ x. slice_get k.wires x) own.same ∙ is) in
            silent n wire (λ q.
            let open_it : is_open (held d.y) (N.G wire.ord) ≡ true = sym (ap (λ o. is_open (held d.y) o) (sym (ap (λ (w : Wire). w.guard) twin) ∙ made.guard_is)) ∙ q in
            ap₂ (λ p x. fault_of p (wire_says (flow_moment k d.i) (held d.y) x)) (sym (ap (λ (w : Wire). w.at) twin) ∙ at) (sym (ap (λ (w : Wire). w.def) twin) ∙ made.def_is)
            ∙ ap (λ x. fault_of own.occ.at (worked op x)) (sym (all_gathered wire.ord own.ks parts open_it))
            ∙ ap (λ x. fault_of own.occ.at x) (sym (applied_same AtStep op (gathered (V f g main c nought) own.ks) refl))
            ∙ starts wire.ord own.occ op own.ks own.is own.form (d.same.used wire.ord (own.occ, own.is) ∙ open_it))
        by parts (Folded v vs lits fits lit) =
            let twin : lit.wire ≡ wire = some_is lit.wire wire (sym lit.is ∙ ap (λ x. slice_get k.wires x) own.same ∙ is) in
            absurd (apart v (sym lit.def_is ∙ ap (λ (w : Wire). w.def) twin ∙ e))

    -- an own slope is tested
    record Testing (j : ℕ) (occ : Occ) : Type 0 where
      op : Op
      ns : List ℕ
      tested : IsTested f g.occs k N j occ op ns

    testing : (j : ℕ) (occ : Occ) (op : Op) (ks : List ℕ) → IsSlopeMade f g.occs k N j occ op ks → Testing j occ
    testing j occ _ _ (Negated x t) = record { op = _; ns = _; tested = t }
    testing j occ _ _ (Sum x y t) = record { op = _; ns = _; tested = t }
    testing j occ _ _ (Difference x y t) = record { op = _; ns = _; tested = t }
    testing j occ _ _ (RightOfDifference x y nil t) = record { op = _; ns = _; tested = t }
    testing j occ _ _ (StillLeft x y still t) = record { op = _; ns = _; tested = t }
    testing j occ _ _ (StillRight x y still t) = record { op = _; ns = _; tested = t }
    testing j occ _ _ (Quotient x y t) = record { op = _; ns = _; tested = t }

    -- a wire whose slope has a fault: its occurrence has a number
    numbered : (x : Option Value) → holds (answered (worked EqFloat (option_and_then (λ v. option_map (λ vs. v ∷ vs) (option_and_then (λ w. option_map (λ ws. w ∷ ws) (Some [])) x)) x))) ≡ true → (p : Fraction) × (x ≡ Some (F p))
    numbered None e = absurd cc
    numbered (Some (B b)) e = absurd cc
    numbered (Some (I b)) e = absurd cc
    numbered (Some (F b)) e = (b, refl)

    own_turn : (n : ℕ) (wire : Wire) (a : Ranked) → slice_get k.wires n ≡ Some wire → (own : IsOwnSlope f g.occs k N n) → at_flow n wire ≡ Some a → TurnOf k (flow_moment k d.i) (held d.y) slope_at f.occs (length f.occs) a
    own_turn n wire a is own has =
        record {
          j = own.j;
          occ = own.occ;
          is = own.is;
          ord = wide.ord ∙ s.tested.made.ord;
          has =
              is_wide (V f g main c nought (AtUsed own.j)) (nat_le (get_or g.occs own.j 3) 1) (all_fine c.fine (sources f (V f g main c nought) own.occ.form)) (V f g main c nought (AtValue own.j)) (V f g main c unit (AtValue own.j)) own.occ.at number.0 m.b
              on (low_true _ own.graded) (ap (λ l. all_fine c.fine l) (sources_are own.j own.occ own.op own.ks own.form own.made) ∙ wide.fine) start m.there wide.wide
              ∙ ap (λ p. Some (record { kind = Range; at = p })) (sym s.tested.made.at) ∙ ap (λ x. Some x) wide.is;
        }
      where
        t : Testing own.j own.occ
        t = testing own.j own.occ own.op own.ks own.made

        twin : (v w : Wire) → slice_get k.wires (N.S own.j) ≡ Some v → v ≡ wire
        twin v w e = some_is v wire (sym e ∙ ap (λ x. slice_get k.wires x) own.same ∙ is)

        present : holds (held d.y t.tested.presence) ≡ true
        present =
            sym (ap (λ o. is_open (held d.y) o) (sym (ap (λ (w : Wire). w.guard) (twin t.tested.made.wire.wire wire t.tested.made.wire.is)) ∙ t.tested.made.wire.guard_is))
            ∙ gate_open (is_open (held d.y) wire.guard) wire (wire_says (flow_moment k d.i) (held d.y) wire.def) a has

        number : (p : Fraction) × (held d.y (N.w own.j) ≡ Some (F p))
        number = numbered (held d.y (N.w own.j)) (sym (ap (λ x. holds x) (flow_wire_is k d.i d.y d.wired t.tested.presence _ None t.tested.present.wire)) ∙ present)

        open_it : is_open (held d.y) (N.G own.j) ≡ true
        open_it =
            used_value (is_open (held d.y) (N.G own.j)) _ (F number.0)
            (sym (flow_wire_is k d.i d.y d.wired (N.w own.j) _ (N.G own.j) (record { wire = own.value.wire; is = own.value.is; def_is = own.value.def_is; guard_is = own.value.guard_is })) ∙ number.1)

        on : V f g main c nought (AtUsed own.j) ≡ true
        on = d.same.used own.j (own.occ, own.is) ∙ open_it

        start : V f g main c nought (AtValue own.j) ≡ Some (F number.0)
        start = d.same.values own.j (own.occ, own.is) open_it ∙ number.1

        ty : own.occ.ty ≡ Float
        ty = float_of own.occ.ty number.0 (subst (λ x. IsOf own.occ.ty x) start (c.typed nought at-start (AtValue own.j) own.occ own.is))

        m : MovesTo f g main formed c own.j number.0
        m = moves f g main formed c single ranks own.j own.occ own.is ty (whole_low own.j own.graded) on number.0 start

        o : Own own.j own.occ own.op own.ks
        o = record { is = own.is; form = own.form; ty = ty; low = whole_low own.j own.graded; on = on; a = number.0; b = m.b; start = start; end = m.there }

        s : SaysSlope f g main formed c single ranks k N moving d own.j own.occ own.is ty (whole_low own.j own.graded) on number.0 m.b start m.there own.ks
        s = slope_says own.j own.occ own.op own.ks o own.made

        wide : SaysWide (all_fine c.fine own.ks) (sub m.b number.0) s.tested.made.wire.wire a
        wide = says_wide _ _ s.tested.made.wire.wire a (sym (wire_is own.j own.occ own.op own.ks o own.made) ∙ ap₂ (λ x w. at_flow x w) own.same (twin s.tested.made.wire.wire wire s.tested.made.wire.is) ∙ has)

    from_wire : (n : ℕ) (wire : Wire) (a : Ranked) → slice_get k.wires n ≡ Some wire → at_flow n wire ≡ Some a → TurnOf k (flow_moment k d.i) (held d.y) slope_at f.occs (length f.occs) a
    from_wire n wire a is has =
        ⊎_elim (λ o. by (is_of_flows k n) refl o.0 o.1 o.2) (λ none. absurd (clash a (sym (silent n wire (λ q. none wire.at)) ∙ has))) (operators (flow_moment k d.i) d.y wire.def)
      where
        quiet : (op : Op) (ns : List ℕ) → wire.def ≡ OpWire op ns → ((p : Pos) (vs : Option (List Value)) → fault_of p (worked op vs) ≡ None) → ⊥
        quiet op ns e none = clash a (sym (silent n wire (λ q. ap (λ x. fault_of wire.at (wire_says (flow_moment k d.i) (held d.y) x)) e ∙ none wire.at (collected (held d.y) ns))) ∙ has)

        by : (t : Bool) → is_of_flows k n ≡ t → (op : Op) (ns : List ℕ) → wire.def ≡ OpWire op ns → TurnOf k (flow_moment k d.i) (held d.y) slope_at f.occs (length f.occs) a
        by false kept op ns e =
            absurd
            (⊎_elim
            (λ neither. ⊎_elim (λ z. quiet op ns e (λ p vs. ap (λ x. fault_of p (worked x vs)) z ∙ not_right p vs)) (λ z. quiet op ns e (λ p vs. ap (λ x. fault_of p (worked x vs)) z ∙ or_right p vs)) neither)
            (λ own. clash a (sym (value_silent n wire op ns is e own) ∙ has))
            (normal.faults n wire op ns is kept e))
        by true alone op ns e =
            ⊎_elim
            (λ z. absurd (quiet op ns e (λ p vs. ap (λ x. fault_of p (worked x vs)) z ∙ eq_right p vs)))
            (λ own. own_turn n wire a is own has)
            (moving.faults n wire op ns is alone e)

    -- the fault of the flow is that of its first slope that isn't in the width
    pub same_slope_fault : slope_fault f g.occs (c.at nought) (c.at unit) c.fine ≡ kernel_fault k (flow_moment k d.i) d.y
    same_slope_fault = sym (same_first k (flow_moment k d.i) (held d.y) slope_at f.occs (length f.occs) to_wire from_wire ∙ first_slope 0 f.occs)

    -- where the flow has no fault, no slope has one
    pub no_slope_fault : slope_fault f g.occs (c.at nought) (c.at unit) c.fine ≡ None → (j : ℕ) (occ : Occ) → slice_get f.occs j ≡ Some occ → slope_at j occ ≡ None
    no_slope_fault none j occ is = ap (λ n. slope_at n occ) (sym (zero_more j)) ∙ first_none slope_at 0 f.occs (first_slope 0 f.occs ∙ none) j occ is
