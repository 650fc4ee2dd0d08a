use Rattle.std.specs.Prelude.{◌⊎◌, ◌≡◌, ℕ, ◌<◌, true, false, List, [], ◌∷◌, slice_get, pos, Option, Some, None}
use Rattle.std.proofs.Common.{refl, sym, ap, subst, arith, inl, inr, ⊎_elim}
use Rattle.zl_value.specs.Fraction.{whole}
use Rattle.zl_value.specs.declared.value.Value.{Value}
use Rattle.zl_value.specs.declared.value.Value.TheVariants.{F}
use Rattle.zl_value.specs.declared.value.Ty.TheVariants.{Float}
use Rattle.zl_value.specs.declared.op.Op.{Op}
use Rattle.zl_value.specs.declared.op.Op.TheVariants.{Not, Or, EqFloat}
use Rattle.zl_meaning.specs.Uses.{PartOf, SlopeOf, EventOf, StartOf, ResetOf, ArgumentOf, uses_of}
use Rattle.zl_meaning.specs.Worked.{at, place, reset_arm}
use Rattle.zl_meaning.specs.Worked.SawTooth.{form, grades}
use Rattle.zl_meaning.specs.declared.occurrence.Occ.{Occ}
use Rattle.zl_meaning.specs.declared.occurrence.Form.TheVariants.{Last, Op as Apply}
use Rattle.zl_meaning.specs.declared.place.PlaceInfo.{PlaceInfo}
use Rattle.zl_meaning.specs.declared.place.DerArm.{DerArm}
use Rattle.zl_meaning.specs.declared.place.Definer.{Definer}
use Rattle.zl_meaning.specs.declared.place.Definer.TheVariants.{Der, Start}
use Rattle.zl_kernel.specs.FlowWires.{is_of_flows}
use Rattle.zl_kernel.specs.Worked.SawTooth.{kernel}
use Rattle.zl_kernel.specs.declared.wire.Wire.{Wire}
use Rattle.zl_kernel.specs.declared.wire.Def.TheVariants.{Op as OpWire}
use Rattle.zl_kernel.specs.declared.memory.KMem.{KMem}
use Rattle.zl_normal.specs.KernelParts.{IsMemory}
use Rattle.zl_normal.specs.Guards.{Chained, Copied, Turned, OneOf, NoneOf}
use Rattle.zl_normal.specs.FormWires.{IsFormWire, Made, IsCall}
use Rattle.zl_normal.specs.UseGuards.{IsGuardBy, Unused, Once, Here}
use Rattle.zl_normal.specs.PlaceWires.{IsDefined, definer_of, start_of, IsLast, LitStart, Tested, Stays, IsDer}
use Rattle.zl_normal.specs.SiteWires.{IsSiteWire}
use Rattle.zl_normal.specs.SlopeWires.{Moves, IsSlope, LeftOfDifference, IsPlaceSlope, IsOwnSlope, Done, StillMemory, Moving}
use Rattle.zl_normal.specs.Normal.{IsOwn, IsNormalAtInstants, IsNormalInFlows}
use Rattle.zl_normal.specs.Worked.SawTooth.{wiring, SawToothIsNormal}
use Rattle.zl_normal.proofs.WorkedParts.{some_is, each, wired, remembered, of_op, within}
use Rattle.zl_normal.proofs.worked.saw_tooth_is_normal.Goals as goal

forms : (j : ℕ) (occ : Occ) → slice_get form.occs j ≡ Some occ → IsFormWire form kernel wiring j occ occ.form
unfolding is_of_flows wired
forms = each (λ j occ. IsFormWire form kernel wiring j occ occ.form) form.occs (((_, refl), refl), (wired kernel 3 _ refl refl, (wired kernel 4 _ refl refl, (wired kernel 5 _ refl refl, (((_, refl), refl), (((record { there = (_, refl); guard = refl }, (record { there = (_, refl); guard = refl }, tt)), Made (wired kernel 12 _ refl refl) refl refl), (wired kernel 3 _ refl refl, (wired kernel 4 _ refl refl, (((record { there = (_, refl); guard = refl }, tt), ((0, _, refl, refl), tt), OneOf 5), tt)))))))))

guards : (j : ℕ) (occ : Occ) → slice_get form.occs j ≡ Some occ → IsGuardBy form kernel wiring occ.call (wiring.G j) (uses_of form j)
unfolding is_of_flows
guards = each (λ j occ. IsGuardBy form kernel wiring occ.call (wiring.G j) (uses_of form j)) form.occs (Unused tt refl, (Once (SlopeOf None) (tt, refl), (Once (StartOf None 0) (refl, tt, Chained tt), (Once (PartOf 8) ((_, refl), refl), (Once (PartOf 5) ((_, refl), refl), (Once ArgumentOf refl, (Once (PartOf 5) ((_, refl), refl), (Once (ResetOf None (8 ∷ []) 0) (tt, (record { there = (_, refl); guard = refl }, tt), (6, Here 8 [] 0 6 (Copied 6 (wired kernel 6 _ refl refl)), Chained tt)), (Once (EventOf None) (tt, refl), tt)))))))))

last_x : IsLast form kernel wiring 0 None (Some 2) 9
unfolding is_of_flows
last_x = LitStart 2 9 2 _ (F (whole (pos 0))) refl refl (wired kernel 9 _ refl refl) (remembered kernel 2 _ refl)

places : (p : ℕ) (place : PlaceInfo) → slice_get form.places p ≡ Some place → IsCall form place.call × IsDefined form kernel wiring p place (definer_of place.definers)
unfolding is_of_flows
places = each (λ p place. IsCall form place.call × IsDefined form kernel wiring p place (definer_of place.definers)) form.places (
  (
    tt,
    record {
      at_step = 10;
      between = 8;
      memory = 1;
      slope = 13;
      last = last_x;
      reset = Tested _ [] 0 6 7 10 9 (record { there = (_, refl); guard = refl }) (Copied 6 (wired kernel 6 _ refl refl)) (Turned 7 (wired kernel 7 _ refl refl)) (_, refl) (Chained tt) (Stays 7) (wired kernel 10 _ refl refl);
      wire = wired kernel 11 _ refl refl;
      kept = wired kernel 8 _ refl refl;
      moves = remembered kernel 1 _ refl;
    },
  ),
  tt,
)

faults : (n : ℕ) (wire : Wire) (op : Op) (ns : List ℕ) → slice_get kernel.wires n ≡ Some wire → is_of_flows kernel n ≡ false → wire.def ≡ OpWire op ns → ((op ≡ Not) ⊎ (op ≡ Or)) ⊎ IsOwn form wiring n wire op
faults n wire op ns is kept e = each (λ n wire. (op : Op) (ns : List ℕ) → wire.def ≡ OpWire op ns → ((op ≡ Not) ⊎ (op ≡ Or)) ⊎ IsOwn form wiring n wire op) kernel.wires ((λ op ns e. absurd cc), ((λ op ns e. absurd cc), ((λ op ns e. absurd cc), ((λ op ns e. absurd cc), ((λ op ns e. absurd cc), ((λ op ns e. absurd cc), ((λ op ns e. absurd cc), ((λ op ns e. inl (inl (sym (of_op e)))), ((λ op ns e. absurd cc), ((λ op ns e. absurd cc), ((λ op ns e. absurd cc), ((λ op ns e. absurd cc), ((λ op ns e. inr (record { occ = _; ks = 4 ∷ 6 ∷ []; is = refl; form = ap (λ o. Apply o (4 ∷ 6 ∷ [])) (of_op e); same = refl })), ((λ op ns e. absurd cc), tt)))))))))))))) n wire is op ns e

lasts : (j : ℕ) (occ : Occ) → slice_get form.occs j ≡ Some occ → (p : ℕ) → occ.form ≡ Last p → (place : PlaceInfo) × (slice_get form.places p ≡ Some place) × IsLast form kernel wiring p place.call (start_of place.definers) (wiring.L p)
lasts = each (λ j occ. (p : ℕ) → occ.form ≡ Last p → (place : PlaceInfo) × (slice_get form.places p ≡ Some place) × IsLast form kernel wiring p place.call (start_of place.definers) (wiring.L p)) form.occs ((λ p e. absurd cc), ((λ p e. absurd cc), ((λ p e. absurd cc), ((λ p e. absurd cc), ((λ p e. absurd cc), ((λ p e. absurd cc), ((λ p e. absurd cc), ((λ p e. absurd cc), ((λ p e. absurd cc), tt)))))))))

abbrev variable : PlaceInfo
variable = place 0 None Float 0 (at 1 37) (Der 0 1 (reset_arm 8 7 ∷ []) ∷ Start 0 2 ∷ [])

ders : (p : ℕ) (place : PlaceInfo) → slice_get form.places p ≡ Some place → (b a n slope : ℕ) (arms : List DerArm) (start : Option Value) → definer_of place.definers ≡ Some (Der b a arms) → IsMemory kernel n start 11 (Some slope) → (slope ≡ 13) × IsDer form kernel wiring place a slope
ders = each (λ p place. (b a n slope : ℕ) (arms : List DerArm) (start : Option Value) → definer_of place.definers ≡ Some (Der b a arms) → IsMemory kernel n start 11 (Some slope) → (slope ≡ 13) × IsDer form kernel wiring place a slope) form.places
    ((λ b a n slope arms start definer mem. (sym (which n mem.mem mem.is slope mem.slope_is), subst (λ x. IsDer form kernel wiring variable a x) (which n mem.mem mem.is slope mem.slope_is) (subst (λ x. IsDer form kernel wiring variable x 13) (named definer) (record { wire = _; is = refl; m = 3; def = refl; free = refl; mem = remembered kernel 3 _ refl; there = (_, refl); guard = refl })))), tt)
  where
    named : {b a c e : ℕ} {x y : List DerArm} → Some (Der b a x) ≡ Some (Der c e y) → a ≡ e
    named {a = a} q = ap (λ o. slope_in o) q
      where
        slope_in : Option Definer → ℕ
        slope_in (Some (Der b e arms)) = e
        slope_in _ = a

    which : (n : ℕ) (mem : KMem) → slice_get kernel.mems n ≡ Some mem → (slope : ℕ) → mem.slope ≡ Some slope → 13 ≡ slope
    which = each (λ n mem. (slope : ℕ) → mem.slope ≡ Some slope → 13 ≡ slope) kernel.mems ((λ slope e. absurd cc), ((λ slope e. some_is 13 slope e), ((λ slope e. absurd cc), ((λ slope e. absurd cc), tt))))

instants : IsNormalAtInstants form kernel wiring
unfolding is_of_flows
instants = record {
  step = wired kernel 0 _ refl refl;
  fresh = wired kernel 1 _ refl refl;
  first = (2, wired kernel 2 _ refl refl, remembered kernel 0 _ refl);
  forms = forms;
  guards = guards;
  places = places;
  lasts = λ j p occ is e. lasts j occ is p e;
  faults = faults;
  site_count = refl;
  sites = each (λ n site. IsSiteWire form kernel wiring n site) form.sites (record { wires = _; is = refl; occ = _; argument = refl; guard = refl; value = refl; fresh = refl; slope = refl }, tt);
  again = (tt, NoneOf 2 (wired kernel 2 _ refl refl));
}

-- the slopes of the occurrences that have a grade; nothing was appended
few : (j : ℕ) (occ : Occ) → slice_get form.occs j ≡ Some occ → j < 9
few j occ is = within form.occs j occ is

slopes : (j : ℕ) (occ : Occ) → slice_get form.occs j ≡ Some occ → Moves form grades kernel wiring j → IsSlope form grades kernel wiring j occ
slopes = each (λ j occ. Moves form grades kernel wiring j → IsSlope form grades kernel wiring j occ) form.occs
    ((λ m. inr refl), ((λ m. inl (refl, refl)), ((λ m. absurd (omega (arith, m))), ((λ m. absurd (omega (arith, m))), ((λ m. inr refl), ((λ m. inr (LeftOfDifference 4 6 refl refl)), ((λ m. inl (refl, refl)), ((λ m. absurd (omega (arith, m))), ((λ m. absurd (omega (arith, m))), tt)))))))))

slope_faults : (n : ℕ) (wire : Wire) → slice_get kernel.wires n ≡ Some wire → (op : Op) (ns : List ℕ) → is_of_flows kernel n ≡ true → wire.def ≡ OpWire op ns → (op ≡ EqFloat) ⊎ IsOwnSlope form grades kernel wiring n
unfolding is_of_flows
slope_faults = each (λ n wire. (op : Op) (ns : List ℕ) → is_of_flows kernel n ≡ true → wire.def ≡ OpWire op ns → (op ≡ EqFloat) ⊎ IsOwnSlope form grades kernel wiring n) kernel.wires
    ((λ op ns k d. absurd cc), ((λ op ns k d. absurd cc), ((λ op ns k d. absurd cc), ((λ op ns k d. absurd cc), ((λ op ns k d. absurd cc), ((λ op ns k d. absurd cc), ((λ op ns k d. absurd cc), ((λ op ns k d. absurd cc), ((λ op ns k d. absurd cc), ((λ op ns k d. absurd cc), ((λ op ns k d. absurd cc), ((λ op ns k d. absurd cc), ((λ op ns k d. absurd cc), ((λ op ns k d. absurd cc), tt))))))))))))))

flows : IsNormalInFlows form grades kernel wiring
flows = record {
  zero = record { wire = _; is = refl; def_is = refl; guard_is = refl };
  slopes = λ j occ is ty which. ⊎_elim (λ moves. slopes j occ is moves) (λ appended. absurd (let low = few j occ is in omega (arith, low, appended))) which;
  place_slopes = λ p place is ty. each (λ p place. IsPlaceSlope form grades kernel wiring p (definer_of place.definers)) form.places (tt, tt) p place is;
  ders = λ p place b a n slope arms start is definer mem. ders p place is b a n slope arms start definer mem;
  motions = StillMemory _ _ _ _ refl (Moving _ _ _ _ _ _ _ _ refl refl refl refl (StillMemory _ _ _ _ refl (StillMemory _ _ _ _ refl (Done 1))));
  faults = λ n wire op ns is alone def. slope_faults n wire is op ns alone def;
}

saw_tooth : SawToothIsNormal
saw_tooth = record {
  instants = instants;
  flows = flows;
  ins = tt;
  outs = (record { place = _; is = refl; name = refl; wire = refl }, tt);
}

pub returns : goal.returns
returns c = saw_tooth
