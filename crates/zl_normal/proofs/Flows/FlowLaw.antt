-- A flow of a normal form has the fault of the form's flow, and its sites have the values that they have there.
use Rattle.std.specs.Prelude.{◌≡◌, ℕ, zero, suc, ◌<◌, ◌+◌, pos, Bool, true, false, ◌&&◌, ◌||◌, if◌then◌else◌, is_some, is_none, nat_eq, List, [], ◌∷◌, slice_get, length, Option, Some, None}
use Rattle.std.specs.List.{list_any}
use Rattle.std.proofs.Common.{refl, sym, ap, ap₂, ◌∙◌, arith, subst}
use Rattle.zl_value.specs.Fraction.{Fraction, sub, fits}
use Rattle.zl_value.specs.Times.{nought, unit}
use Rattle.zl_value.specs.Stops.{line_for}
use Rattle.zl_value.specs.Loop.{Ends, Steps, Flows, next_after}
use Rattle.zl_value.specs.Instants.{Instant, History, steps_at, steps_in, mark_of}
use Rattle.zl_value.specs.System.{Course, IsFlow, is_demanded, unless_lacking}
use Rattle.zl_value.specs.Runs.{FlowAfter}
use Rattle.zl_value.specs.Operators.{Answer, Gives, Faults, Nothing, exact, within as narrow, value_fits}
use Rattle.zl_value.specs.Script.{IsScriptFor}
use Rattle.zl_value.specs.declared.arith.Arith.TheVariants.{Range}
use Rattle.zl_value.specs.declared.position.Pos.{Pos}
use Rattle.zl_value.specs.declared.value.Fault.{Fault}
use Rattle.zl_value.specs.declared.value.Value.{Value}
use Rattle.zl_value.specs.declared.value.Value.TheVariants.{F}
use Rattle.zl_value.specs.declared.value.Ty.TheVariants.{Float}
use Rattle.zl_value.specs.declared.op.Op.{Op}
use Rattle.zl_value.specs.declared.script.Script.{Script}
use Rattle.zl_value.specs.declared.script.Mark.{Mark}
use Rattle.zl_value.specs.declared.script.Ending.TheVariants.{Bound}
use Rattle.zl_value.proofs.FractionLaws.{IsReduced-whole}
use Rattle.zl_value.proofs.LinearLaws.{line_at_zero}
use Rattle.zl_meaning.specs.FlatForm.{FlatForm}
use Rattle.zl_meaning.specs.Uses.{ArgumentOf, IsUse, AsArgument}
use Rattle.zl_meaning.specs.State.{Table, state_in, AtPlace, AtUsed, AtValue, if_used, value_in}
use Rattle.zl_meaning.specs.History.{state_of}
use Rattle.zl_meaning.specs.Moment.{AtStep, InFlow}
use Rattle.zl_meaning.specs.Places.{moved}
use Rattle.zl_meaning.specs.Occurrences.{gathered, applied}
use Rattle.zl_meaning.specs.Solves.{fault_of, instant_fault, argument_in}
use Rattle.zl_meaning.specs.Flow.{FlowTable, tables, flow_moment as form_moment}
use Rattle.zl_meaning.specs.System.{system_of}
use Rattle.zl_meaning.specs.Demand.{is_demanded as form_demanded}
use Rattle.zl_meaning.specs.Inputs.{input_types}
use Rattle.zl_meaning.specs.Run.{IsPrefix}
use Rattle.zl_meaning.specs.Grades.{Grading}
use Rattle.zl_meaning.specs.KeepsGrades.{IsMoment, KeepsGrades, on_line, value_along}
use Rattle.zl_meaning.specs.Single.{IsSingle}
use Rattle.zl_meaning.specs.WellFormed.{IsDefiner, IsWellFormed}
use Rattle.zl_meaning.specs.declared.place.Definer.TheVariants.{Der}
use Rattle.zl_meaning.specs.declared.place.DerArm.{DerArm}
use Rattle.zl_meaning.specs.declared.place.PlaceInfo.{PlaceInfo}
use Rattle.zl_meaning.specs.declared.occurrence.Occ.{Occ}
use Rattle.zl_meaning.proofs.Flows.{flow_tables, flow_fine}
use Rattle.zl_meaning.proofs.Members.{all-has}
use Rattle.zl_meaning.proofs.OneTable.{solves_each}
use Rattle.zl_meaning.proofs.WrittenForms.{at-start}
use Rattle.zl_meaning.proofs.GradesKept.OfTypes.{IsOf}
use Rattle.zl_meaning.proofs.GradesKept.TypedRuns.{TypedHistory, prefix_typed, flow_typed}
use Rattle.zl_meaning.proofs.GradesKept.UsesSay.{slope-used}
use Rattle.zl_kernel.specs.KernelForm.{KernelForm}
use Rattle.zl_kernel.specs.Wires.{Registers, held, is_open, turn, applied as worked}
use Rattle.zl_kernel.specs.Missing.{is_active, stands_still, flow_lacks}
use Rattle.zl_kernel.specs.Memories.{moved as moved_by}
use Rattle.zl_kernel.specs.System.{system_of_kernel, flow_moment, site_value, site_slope}
use Rattle.zl_kernel.specs.declared.site.KSite.{KSite}
use Rattle.zl_normal.specs.Wiring.{Wiring, call_guard}
use Rattle.zl_normal.specs.KernelParts.{IsMemory}
use Rattle.zl_normal.specs.PlaceWires.{definer_of, IsDefined}
use Rattle.zl_normal.specs.MainBlock.{IsMain}
use Rattle.zl_normal.specs.Evaluated.{HasGuardRanks}
use Rattle.zl_normal.specs.Starts.{StartsRight, HasNarrowDerivatives, GradesMoving}
use Rattle.zl_normal.specs.Normal.{IsNormalAtInstants, IsNormalInFlows}
use Rattle.zl_normal.proofs.Values.Entries.{blank_place}
use Rattle.zl_normal.proofs.Instants.Follows.{Follow, live_now, looks_back, place_home, same_steps_at}
use Rattle.zl_normal.proofs.Instants.Steps.{asks_same, fault_same, site_is, within, value_seen}
use Rattle.zl_normal.proofs.Flows.Beginnings.{slope_is, no_value, flow_agrees}
use Rattle.zl_normal.proofs.Slopes.FlowValues.{InFlowOf, some_f, is_number}
use Rattle.zl_normal.proofs.Slopes.Moving.{fine_of}
use Rattle.zl_normal.proofs.Slopes.MovingPlaces.{definer_has, moves}
use Rattle.zl_normal.proofs.Slopes.StillUsed.{stays}
use Rattle.zl_normal.proofs.Slopes.SlopeOperators.{BesideFlow}
use Rattle.zl_normal.proofs.Slopes.SlopeWires.{if_fine}
use Rattle.zl_normal.proofs.Slopes.AllSlopes.{slopes}
use Rattle.zl_normal.proofs.Slopes.SlopeFaults.{same_slope_fault, no_slope_fault}
use Rattle.zl_normal.proofs.Slopes.FineSlopes.{fine}
use Rattle.zl_normal.specs.SlopeWires.{AreMotions, Done, StillMemory, StillPlace, Moving}
use Rattle.zl_kernel.specs.declared.memory.KMem.{KMem}

-- a flow follows where there is no fault, nothing is missing and no step is demanded
pub record Flowing (fault : Option Fault) (lacks demanded : Bool) : Type 0 where
  pub right : fault ≡ None
  pub whole : lacks ≡ false
  pub over : demanded ≡ false

pub flowing : (script : Script) (time : Fraction) (mark : Mark) (fault : Option Fault) (lacks demanded : Bool) (made : ℕ) → unless_lacking lacks fault (next_after script time mark fault demanded made) ≡ Flows → Flowing fault lacks demanded
flowing script time mark None true demanded made e = absurd cc
flowing script time mark None false false made e = record { right = refl; whole = refl; over = refl }
flowing script time mark None false true made e = absurd (bound (nat_eq made script.steps) e)
  where
    bound : (b : Bool) → (if b then Ends Bound else Steps) ≡ Flows → ⊥
    bound true e = absurd cc
    bound false e = absurd cc
flowing script time mark (Some x) true demanded made e = absurd cc
flowing script time mark (Some x) false demanded made e = absurd cc

-- an exact result that has no fault is in the width
pub right_exact : (at : Pos) (op : Op) (vs : Option (List Value)) → fault_of at (applied AtStep op vs) ≡ None → applied InFlow op vs ≡ worked op vs
right_exact at op None e = refl
right_exact at op (Some vs) e = by (exact op vs) e
  where
    sized : (b : Bool) (v : Value) → fault_of at (if b then Gives v else Faults Range) ≡ None → Gives v ≡ (if b then Gives v else Faults Range)
    sized true v e = refl
    sized false v e = absurd cc

    by : (x : Answer) → fault_of at (narrow x) ≡ None → x ≡ narrow x
    by Nothing e = refl
    by (Faults kind) e = absurd cc
    by (Gives v) e = sized (value_fits v) v e

none_of : {X : Type 0} (p : X → Bool) (xs : List X) (n : ℕ) (x : X) → slice_get xs n ≡ Some x → list_any p xs ≡ false → p x ≡ false
none_of p [] n x is e = absurd cc
none_of p (y ∷ xs) zero x is e = first (p y) (list_any p xs) e (ap p (let z : Some y ≡ Some x = is in let g : y ≡ x = cc in g))
  where
    first : (a b : Bool) → (a || b) ≡ false → a ≡ p x → p x ≡ false
    first true b e q = absurd cc
    first false b e q = sym q
none_of p (y ∷ xs) (suc n) x is e = none_of p xs n x is (second (p y) (list_any p xs) e)
  where
    second : (a b : Bool) → (a || b) ≡ false → b ≡ false
    second true b e = absurd cc
    second false b e = e

pub all_false : {X : Type 0} (p : X → Bool) (xs : List X) → ((n : ℕ) (x : X) → slice_get xs n ≡ Some x → p x ≡ false) → list_any p xs ≡ false
all_false p [] each = refl
all_false p (x ∷ xs) each = ap₂ (λ a b. a || b) (each 0 x refl) (all_false p xs (λ n y is. each (suc n) y is))

pub inside : {X : Type 0} (xs : List X) (n : ℕ) (x : X) → slice_get xs n ≡ Some x → n < length xs
inside [] n x e = absurd cc
inside (y ∷ xs) zero x e = omega arith
inside (y ∷ xs) (suc n) x e = let l = inside xs n x e in omega (arith, l)

evaluated : (b : Bool) (o : Option Value) (v : Value) → if_used b o ≡ Some v → (b ≡ true) × (o ≡ Some v)
evaluated true o v e = (refl, e)
evaluated false o v e = absurd cc

module _ (f : FlatForm) (k : KernelForm) (N : Wiring) (main : IsMain f) (single : IsSingle f) (normal : IsNormalAtInstants f k N) (gr : Grading) (moving : IsNormalInFlows f gr.occs k N) (ranks : HasGuardRanks f) (formed : IsWellFormed f) (keeps : KeepsGrades f gr) (grades_move : GradesMoving f keeps.whole) (starts : StartsRight f gr.occs) (narrow_derivatives : HasNarrowDerivatives f gr.occs) (script : Script) (suits : IsScriptFor (input_types f) script) (h : History Registers) (g : History Table) (i : Instant Registers) (j : Instant Table) (e : Follow f k N (i ∷ h) (j ∷ g)) (prefix : IsPrefix f gr.occs script (j ∷ g)) (y : Course Registers) (after : FlowAfter (system_of_kernel k) script h i y) (flow : Course FlowTable) (is : IsFlow (system_of f gr.occs) g j flow) where
  follows_flow : Flowing ((system_of_kernel k).fault h i) ((system_of_kernel k).lacks i) (is_demanded (system_of_kernel k) script (i ∷ h))
  follows_flow = flowing script i.time (mark_of h i) ((system_of_kernel k).fault h i) ((system_of_kernel k).lacks i) (is_demanded (system_of_kernel k) script (i ∷ h)) (steps_in (i ∷ h)) after.due

  right : instant_fault f g j ≡ None
  right = fault_same f k N main normal gr.occs h g _ i j e.0 ∙ follows_flow.right

  over : form_demanded f script (j ∷ g) ≡ false
  over =
      ap₂ (λ a b. a || b) (asks_same f k N main normal gr.occs h g i j e follows_flow.whole)
      (ap (λ t. is_some (line_for script t (steps_at t (j ∷ g)))) e.0.time ∙ ap (λ n. is_some (line_for script i.time n)) (same_steps_at f k N i.time (i ∷ h) (j ∷ g) e))
      ∙ follows_flow.over

  history : TypedHistory f (j ∷ g)
  history = prefix_typed f script suits formed ranks.entries gr.occs (j ∷ g) prefix

  -- the flow of the form
  c : InFlowOf f gr
  c = record {
    h = g;
    j = j;
    at = tables flow;
    demanded = form_demanded f script (j ∷ g);
    whole = keeps.whole;
    fine = (flow nought).fine;
    solves = λ s m a. solves_each f (form_moment f g j s) (tables flow s) ((flow_tables f gr.occs g j flow is).table s m.reduced m.after) a;
    live = live_now f k N h g i j e;
    typed = λ s m. flow_typed f formed ranks.entries g j (tables flow) history (flow_tables f gr.occs g j flow is) s m;
    instant_typed = history.0;
    form = keeps.form;
    keeps = keeps.flows script g j (tables flow) suits prefix right (flow_tables f gr.occs g j flow is);
    moving = grades_move;
    fine_is = flow_fine f gr.occs g j flow is;
    derivatives = narrow_derivatives script g j suits prefix right;
  }

  -- a derivative of a place that has a value is a number in the width, which its wire holds
  derivative_there : (p : ℕ) (place : PlaceInfo) (b a n slope : ℕ) (arms : List DerArm) (s0 : Option Value) → slice_get f.places p ≡ Some place → definer_of place.definers ≡ Some (Der b a arms) → IsMemory k n s0 (N.P p) (Some slope) → (v : Value) → held i.table (N.P p) ≡ Some v → (d : Fraction) × (state_of j (AtValue a) ≡ Some (F d)) × (fits d ≡ true) × (held (y nought) slope ≡ Some (F d))
  derivative_there p place b a n slope arms s0 at definer mem v value =
      let m = moving.ders p place b a n slope arms s0 at definer mem in
      let der : IsDefined f k N p place (Some (Der b a arms)) = subst (λ x. IsDefined f k N p place x) definer (normal.places p place at).1 in
      let open_call : is_open (held i.table) (call_guard N place.call) ≡ true = opened (is_open (held i.table) (call_guard N place.call)) (λ q. none_value v (sym (no_value f k N main normal gr.occs moving ranks h g i j e (y nought) solved p place b a arms der q) ∙ value)) in
      let open_it = ap (λ o. is_open (held i.table) o) m.1.guard ∙ open_call in
      let used = e.0.says.used a m.1.there ∙ open_it in
      let narrow_one = narrow_derivatives script g j suits prefix right a place.call (slope-used f a p b place arms at (definer_has place.definers (Der b a arms) definer)) used in
      (narrow_one.0, narrow_one.1, narrow_one.2, slope_is f k N main normal gr.occs moving ranks h g i j e (y nought) solved place a slope m.1 ∙ sym (e.0.says.values a m.1.there open_it) ∙ narrow_one.1)
    where
      solved : y nought ≡ turn k (flow_moment k i) (y nought)
      solved = after.solves nought (IsReduced-whole (pos 0)) refl

      opened : (b : Bool) → (b ≡ false → ⊥) → b ≡ true
      opened true q = refl
      opened false q = absurd (q refl)

      none_value : (v : Value) → None ≡ Some v → ⊥
      none_value v q = absurd cc

  solved_flow : y nought ≡ turn k (flow_moment k i) (y nought)
  solved_flow = after.solves nought (IsReduced-whole (pos 0)) refl

  -- a place with a `der` is at moment 0 where it was
  starts_there : (p : ℕ) (place : PlaceInfo) (b a n slope : ℕ) (arms : List DerArm) (s0 : Option Value) → slice_get f.places p ≡ Some place → definer_of place.definers ≡ Some (Der b a arms) → IsMemory k n s0 (N.P p) (Some slope) → held i.table (N.P p) ≡ moved (state_of j (AtPlace p)) (state_of j (AtValue a)) nought
  starts_there p place b a n slope arms s0 at definer mem = by (held i.table (N.P p)) refl
    where
      -- the definer of the place, and so its type
      named : IsDefiner f p place (Der b a arms)
      named = all-has (IsDefiner f p place) place.definers (Der b a arms) (formed.places p place at).definers (definer_has place.definers (Der b a arms) definer)

      by : (x : Option Value) → held i.table (N.P p) ≡ x → held i.table (N.P p) ≡ moved (state_of j (AtPlace p)) (state_of j (AtValue a)) nought
      by None q = q ∙ sym (ap (λ x. moved x (state_of j (AtValue a)) nought) (e.0.says.places p (place, at) ∙ q) ∙ nowhere (state_of j (AtValue a)))
        where
          nowhere : (x : Option Value) → moved None x nought ≡ None
          nowhere x = refl
      by (Some v) q =
          let d = derivative_there p place b a n slope arms s0 at definer mem v q in
          let value = e.0.says.places p (place, at) ∙ q in
          let x = is_number (state_of j (AtPlace p)) v (subst (λ t. IsOf t (state_of j (AtPlace p))) named.1 (history.0 (AtPlace p) place at)) value in
          let slope_reduced = subst (λ z. IsOf Float z) d.1 (subst (λ t. IsOf t (state_of j (AtValue a))) named.2.typed (history.0 (AtValue a) named.2.occ named.2.is)) in
          sym (e.0.says.places p (place, at)) ∙ x.is ∙ ap (λ z. Some (F z)) (sym (line_at_zero x.number d.0 x.reduced slope_reduced)) ∙ sym (ap₂ (λ s r. moved s r nought) x.is d.1)

  -- the flow of the kernel
  d : BesideFlow f gr main c k N
  unfolding c
  d = record {
    i = i;
    y = y nought;
    wired = solved_flow;
    same =
        flow_agrees f k N main normal gr.occs moving ranks h g i j e (y nought) solved_flow starts_there (flow nought).table
        ((flow_tables f gr.occs g j flow is).table nought at-start.reduced at-start.after)
        (λ a occ op ks at form used. right_exact occ.at op (gathered (state_in (flow nought).table) ks) (starts script g j (tables flow) suits prefix right over (flow_tables f gr.occs g j flow is) a occ op ks at form used));
    ders = λ p b x place arms from slope at definer value derivative.
        let der : IsDefined f k N p place (Some (Der b x arms)) = subst (λ o. IsDefined f k N p place o) definer (normal.places p place at).1 in
        let m = moving.ders p place b x der.memory der.slope arms None at definer der.moves in
        let t = derivative_there p place b x der.memory der.slope arms None at definer der.moves (F from) (sym (e.0.says.places p (place, at)) ∙ value) in
        let equal = some_f t.0 slope (sym t.1 ∙ derivative) in
        (ap (λ n. held (y nought) n) (sym m.0) ∙ t.3 ∙ ap (λ z. Some (F z)) equal, ap (λ z. fits z) (sym equal) ∙ t.2);
    blank = λ p place at none. blank_place f main (form_moment f g j nought) (state_in (flow nought).table) (c.solves nought at-start) (λ q. c.live) p place at none (looks_back f k N main h g i j e (AtPlace p) (place_home f k N main p (place, at)) ∙ e.0.blank p place at none);
  }

  -- the fault is that of the form's flow
  pub slope_fault_same : (system_of f gr.occs).flow_fault g j flow ≡ (system_of_kernel k).flow_fault h i y
  unfolding c d
  slope_fault_same = same_slope_fault f gr main formed c single ranks k N moving d normal (starts script g j (tables flow) suits prefix right over (flow_tables f gr.occs g j flow is))

  -- the value of a site moves as its slope says, if that is there
  moves_along : (arg : ℕ) → IsUse f arg ArgumentOf → (is_some (value_along (tables flow) arg nought) ≡ true → is_none (held (y nought) (N.S arg)) ≡ false) → (s : Fraction) → (occ : Occ) → slice_get f.occs arg ≡ Some occ → occ.ty ≡ Float → (x : Option Value) → value_along (tables flow) arg nought ≡ x → moved_by x (held (y nought) (N.S arg)) s ≡ on_line x (value_along (tables flow) arg unit) s
  unfolding c d
  moves_along arg used sloped s occ at ty None q = refl
  moves_along arg used sloped s occ at ty (Some v) q =
      let u = evaluated (state_in (flow nought).table (AtUsed arg)) (state_in (flow nought).table (AtValue arg)) v q in
      let number = is_number (state_in (flow nought).table (AtValue arg)) v (subst (λ t. IsOf t (state_in (flow nought).table (AtValue arg))) ty (c.typed nought at-start (AtValue arg) occ at)) u.1 in
      let m = moves f gr main formed c single ranks arg occ at ty (c.form.sites arg used) u.0 number.number number.is in
      let later : value_along (tables flow) arg unit ≡ Some (F m.b) = ap₂ (λ b o. if_used b o) (stays f gr main formed c ranks arg occ at u.0) m.there in
      let wire = slopes f gr main formed c single ranks k N moving d arg occ at ty (c.form.sites arg used) u.0 number.number m.b number.is m.there in
      ap₂ (λ a b. moved_by a b s) (sym u.1 ∙ number.is) (wire ∙ fine_one (fine_of f gr main formed c arg) (sub m.b number.number) (sym (ap (λ o. is_none o) wire) ∙ sloped (ap (λ o. is_some o) q)))
      ∙ sym (ap₂ (λ a b. on_line a b s) (sym u.1 ∙ number.is) later)
    where
      fine_one : (b : Bool) (x : Fraction) → is_none (if_fine b x) ≡ false → if_fine b x ≡ Some (F x)
      fine_one true x e = refl
      fine_one false x e = absurd cc

  -- a site has the value that it has in the form's flow
  pub site_same : flow_lacks k i (y nought) ≡ false → (s : Fraction) → IsMoment s → (n : ℕ) → n < length k.sites → (system_of_kernel k).values i y s n ≡ (system_of f gr.occs).values j flow s n
  unfolding c d
  site_same whole s m n low =
      let site = within f.sites n (subst (λ x. n < x) normal.site_count low) in
      let w = normal.sites n site.0 site.1 in
      let arg = site.0.arg in
      let used : IsUse f arg ArgumentOf = AsArgument n site.0 site.1 refl in
      let typed = (formed.sites n site.0 site.1).argument in
      let value : site_value k i.table n ≡ value_along (tables flow) arg nought =
      site_is k (λ (x : KSite). x.value) i.table n w.wires w.is ∙ ap (λ x. held i.table x) w.value ∙ sym (value_seen f k N main normal gr.occs (state_of j) i.table e.0.says arg (w.occ, w.argument) w.guard) ∙ sym (c.keeps.arguments_start arg over used) in
      let slope : site_slope k (y nought) n ≡ held (y nought) (N.S arg) = site_is k (λ (x : KSite). x.slope) (y nought) n w.wires w.is ∙ ap (λ x. held (y nought) x) w.slope in
      let there = none_of (λ (x : KSite). is_active i.table x && is_none (held (y nought) x.slope)) k.sites n w.wires w.is (left_false _ _ whole) in
      ap₂ (λ a b. moved_by a b s) value slope
      ∙ moves_along arg used
      (λ q. ap (λ o. is_none o) (sym (ap (λ x. held (y nought) x) w.slope)) ∙ if_active (is_active i.table w.wires) (is_none (held (y nought) w.wires.slope)) (ap (λ o. is_some o) (sym (site_is k (λ (x : KSite). x.value) i.table n w.wires w.is) ∙ value) ∙ q) there)
      s typed.occ typed.is typed.typed (value_along (tables flow) arg nought) refl
      ∙ sym (c.keeps.arguments arg used s m)
      ∙ sym (ap (λ o. value_in (state_in (flow s).table) (argument_in o)) site.1)
    where
      left_false : (a b : Bool) → (a || b) ≡ false → a ≡ false
      left_false true b e = absurd cc
      left_false false b e = refl

      if_active : (a b : Bool) → a ≡ true → (a && b) ≡ false → b ≡ false
      if_active true b e q = q
      if_active false b e q = absurd cc

  module _ (none : (system_of_kernel k).flow_fault h i y ≡ None) where
    -- where the flow has no fault, an active site has a slope
    slope_held : (n : ℕ) (wires : KSite) → slice_get k.sites n ≡ Some wires → (v : Value) → held i.table wires.value ≡ Some v → is_none (held (y nought) wires.slope) ≡ false
    unfolding c d
    slope_held n wires at v value =
        let site = within f.sites n (subst (λ x. n < x) normal.site_count (inside k.sites n wires at)) in
        let w = normal.sites n site.0 site.1 in
        let arg = site.0.arg in
        let used : IsUse f arg ArgumentOf = AsArgument n site.0 site.1 refl in
        let typed = (formed.sites n site.0 site.1).argument in
        let twin : w.wires ≡ wires = same_one w.wires wires (sym w.is ∙ at) in
        let along : value_along (tables flow) arg nought ≡ Some v =
        c.keeps.arguments_start arg over used ∙ value_seen f k N main normal gr.occs (state_of j) i.table e.0.says arg (w.occ, w.argument) w.guard ∙ ap (λ x. held i.table x) (sym w.value) ∙ ap (λ (x : KSite). held i.table x.value) twin ∙ value in
        let u = evaluated (state_in (flow nought).table (AtUsed arg)) (state_in (flow nought).table (AtValue arg)) v along in
        let number = is_number (state_in (flow nought).table (AtValue arg)) v (subst (λ t. IsOf t (state_in (flow nought).table (AtValue arg))) typed.typed (c.typed nought at-start (AtValue arg) typed.occ typed.is)) u.1 in
        let m = moves f gr main formed c single ranks arg typed.occ typed.is typed.typed (c.form.sites arg used) u.0 number.number number.is in
        let silent = no_slope_fault f gr main formed c single ranks k N moving d normal (starts script g j (tables flow) suits prefix right over (flow_tables f gr.occs g j flow is)) (slope_fault_same ∙ none) in
        let good = fine f gr main formed c single ranks k N moving d silent arg typed.occ typed.is typed.typed (c.form.sites arg used) u.0 number.number number.is in
        ap (λ x. is_none x)
        (ap (λ (x : KSite). held (y nought) x.slope) (sym twin) ∙ ap (λ x. held (y nought) x) w.slope
        ∙ slopes f gr main formed c single ranks k N moving d arg typed.occ typed.is typed.typed (c.form.sites arg used) u.0 number.number m.b number.is m.there ∙ ap (λ b. if_fine b (sub m.b number.number)) good)
      where
        same_one : (x z : KSite) → Some x ≡ Some z → x ≡ z
        same_one x z q = cc

    site_there : (n : ℕ) (wires : KSite) → slice_get k.sites n ≡ Some wires → (is_active i.table wires && is_none (held (y nought) wires.slope)) ≡ false
    site_there n wires is = by (held i.table wires.value) refl
      where
        by : (o : Option Value) → held i.table wires.value ≡ o → (is_some (held i.table wires.value) && is_none (held (y nought) wires.slope)) ≡ false
        by None q = ap (λ o. is_some o && is_none (held (y nought) wires.slope)) q
        by (Some v) q = ap₂ (λ o b. is_some o && b) q (slope_held n wires is v q)

    -- and so has a memory that moves
    memory_there : (p : ℕ) (place : PlaceInfo) (b a : ℕ) (arms : List DerArm) → slice_get f.places p ≡ Some place → definer_of place.definers ≡ Some (Der b a arms) → (is_some (held i.table (N.P p)) && is_none (held (y nought) (N.D p))) ≡ false
    memory_there p place b a arms at definer = by (held i.table (N.P p)) refl
      where
        der : IsDefined f k N p place (Some (Der b a arms))
        der = subst (λ o. IsDefined f k N p place o) definer (normal.places p place at).1

        by : (o : Option Value) → held i.table (N.P p) ≡ o → (is_some (held i.table (N.P p)) && is_none (held (y nought) (N.D p))) ≡ false
        by None q = ap (λ o. is_some o && is_none (held (y nought) (N.D p))) q
        by (Some v) q =
            ap₂ (λ o x. is_some o && is_none x) q
            (ap (λ x. held (y nought) x) (sym (moving.ders p place b a der.memory der.slope arms None at definer der.moves).0) ∙ (derivative_there p place b a der.memory der.slope arms None at definer der.moves v q).3)

    memories_there : (mems : List KMem) (p : ℕ) (places : List PlaceInfo) → AreMotions f gr.occs k N mems p places → ((n : ℕ) (place : PlaceInfo) → slice_get places n ≡ Some place → slice_get f.places (p + n) ≡ Some place) → list_any (λ (mem : KMem). stands_still i.table (y nought) mem mem.slope) mems ≡ false
    memories_there _ _ _ (Done p) at = refl
    memories_there _ _ _ (StillMemory mem mems p places still rest) at = ap₂ (λ a b. a || b) (ap (λ s. stands_still i.table (y nought) mem s) still) (memories_there mems p places rest at)
    memories_there _ _ _ (StillPlace mems p place places none rest) at = memories_there mems (suc p) places rest (λ n q is. ap (λ m. slice_get f.places m) (omega arith) ∙ at (suc n) q is)
    memories_there _ _ _ (Moving mem mems p place places b a arms definer next slope stands rest) at =
        ap₂ (λ a b. a || b)
        (ap (λ s. stands_still i.table (y nought) mem s) slope ∙ ap (λ n. is_some (held i.table n) && is_none (held (y nought) (N.D p))) next
        ∙ memory_there p place b a arms (ap (λ m. slice_get f.places m) (omega arith) ∙ at 0 place refl) definer)
        (memories_there mems (suc p) places rest (λ n q is. ap (λ m. slice_get f.places m) (omega arith) ∙ at (suc n) q is))

    -- nothing is missing in the flow
    pub flow_whole : flow_lacks k i (y nought) ≡ false
    flow_whole = ap₂ (λ a b. a || b) (all_false _ k.sites site_there) (memories_there k.mems 0 f.places moving.motions (λ n place at. ap (λ m. slice_get f.places m) (omega arith) ∙ at))
