-- At an instant the wires of a normal form hold what the form's equations say.
use Rattle.std.specs.Prelude.{◌≡◌, ℕ, Bool, true, false, not, ◌&&◌, ◌||◌, if◌then◌else◌, List, [], ◌∷◌, slice_get, get_or, Option, Some, None}
use Rattle.std.specs.List.{AllByRecursion, list_any}
use Rattle.std.proofs.Common.{refl, sym, ap, ◌∙◌}
use Rattle.zl_value.specs.Times.{holds, fails}
use Rattle.zl_value.specs.Operators.{answered}
use Rattle.zl_value.specs.declared.value.Value.{Value}
use Rattle.zl_value.specs.declared.value.Value.TheVariants.{B, I, F}
use Rattle.zl_value.specs.declared.op.Op.{Op}
use Rattle.zl_meaning.specs.FlatForm.{FlatForm}
use Rattle.zl_meaning.specs.Uses.{uses_of}
use Rattle.zl_meaning.specs.State.{Node, AtControl, AtReset, AtLater, AtPlace, AtUsed, AtValue, State, Active, is_active, is_blank, if_used}
use Rattle.zl_meaning.specs.Moment.{Mode, AtStep, AtLeft, InFlow, Moment, is_at_step, is_in_flow, is_fresh, is_called}
use Rattle.zl_meaning.specs.Places.{has_blank_start, started, value_before, last_of, moved, der_value, defined, has_blank, place_of}
use Rattle.zl_meaning.specs.Occurrences.{applied, branch, answer, value_of, is_asked, used_of}
use Rattle.zl_meaning.specs.Equation.{equation}
use Rattle.zl_meaning.specs.declared.place.Definer.{Definer}
use Rattle.zl_meaning.specs.declared.place.Definer.TheVariants.{Input, Plain, Der, Start}
use Rattle.zl_meaning.specs.declared.place.DerArm.{DerArm}
use Rattle.zl_meaning.specs.declared.place.PlaceInfo.{PlaceInfo}
use Rattle.zl_meaning.specs.declared.occurrence.Occ.{Occ}
use Rattle.zl_kernel.specs.KernelForm.{KernelForm}
use Rattle.zl_kernel.specs.Wires.{Registers, held, is_open, turn, Moment as KernelMoment, Mode as KernelMode, AtStep as StepMode, AtLeft as LeftMode, InFlow as FlowMode, is_at_step as at_step, is_in_flow as in_flow, applied as worked}
use Rattle.zl_normal.specs.MainBlock.{InMain, IsMain}
use Rattle.zl_normal.specs.KernelParts.{IsMemory}
use Rattle.zl_normal.specs.Wiring.{Wiring}
use Rattle.zl_normal.specs.FormWires.{IsOcc, IsPlaceOf}
use Rattle.zl_normal.specs.PlaceWires.{definer_of, start_of}

-- the state of a form and the registers of its normal form say the same
pub record Agrees (f : FlatForm) (N : Wiring) (s : State) (r : Registers) : Type 0 where
  pub places : (p : ℕ) → IsPlaceOf f p → s (AtPlace p) ≡ held r (N.P p)
  pub used : (j : ℕ) → IsOcc f j → s (AtUsed j) ≡ is_open (held r) (N.G j)
  pub values : (j : ℕ) → IsOcc f j → is_open (held r) (N.G j) ≡ true → s (AtValue j) ≡ held r (N.w j)

abbrev pub mode_as : Mode → KernelMode
mode_as AtStep = StepMode
mode_as AtLeft = LeftMode
mode_as InFlow = FlowMode

-- what a form's equations and its normal form's wires read at an instant: `rp` are the registers at the instant before
pub record Together (f : FlatForm) (k : KernelForm) (N : Wiring) (m : Moment) (km : KernelMoment) (rp : Registers) (pm : KernelMoment) : Type 0 where
  pub mode : km.mode ≡ mode_as m.mode
  pub instant : is_in_flow m.mode ≡ true → m.live 0 ≡ true
  pub inputs : km.inputs ≡ m.inputs
  pub fired : km.fired ≡ m.fired
  pub none_first : m.live 0 ≡ false → m.fired ≡ []
  pub memories : (n : ℕ) (start : Option Value) (next : ℕ) → IsMemory k n start next None → held km.memories n ≡ (if m.live 0 then held rp next else start)
  pub before : m.live 0 ≡ true → Agrees f N m.before rp × (rp ≡ turn k pm rp) × (in_flow pm.mode ≡ false)
  pub blank : (p : ℕ) (place : PlaceInfo) → slice_get f.places p ≡ Some place → place.definers ≡ [] → m.before (AtPlace p) ≡ None
  pub moves : (p : ℕ) (place : PlaceInfo) (b j n slope : ℕ) (arms : List DerArm) (start : Option Value) → slice_get f.places p ≡ Some place → definer_of place.definers ≡ Some (Der b j arms) → IsMemory k n start (N.P p) (Some slope) → (m.mode ≡ AtStep → ⊥) → held km.memories n ≡ moved (m.start (AtPlace p)) (m.start (AtValue j)) m.passed

-- words on bools and optional values
pub if_same : (b : Bool) (x y : Option Value) → (b ≡ true → x ≡ y) → (if b then x else None) ≡ if_used b y
if_same true x y e = e refl
if_same false x y e = refl

pub used_same : (a b : Bool) (x y : Option Value) → a ≡ b → (b ≡ true → x ≡ y) → if_used a x ≡ if_used b y
used_same a true x y e q = rw e (q refl)
used_same a false x y e q = rw e refl

pub branch_same : (c x y u v : Option Value) → (holds c ≡ true → x ≡ u) → (fails c ≡ true → y ≡ v) → branch c x y ≡ branch c u v
branch_same (Some (B true)) x y u v p q = p refl
branch_same (Some (B false)) x y u v p q = q refl
branch_same (Some (I n)) x y u v p q = refl
branch_same (Some (F n)) x y u v p q = refl
branch_same None x y u v p q = refl

pub branch_none : (c x y : Option Value) → y ≡ None → branch c x y ≡ if_used (holds c) x
branch_none (Some (B true)) x y e = refl
branch_none (Some (B false)) x y e = e
branch_none (Some (I n)) x y e = refl
branch_none (Some (F n)) x y e = refl
branch_none None x y e = refl

pub applied_same : (mode : Mode) (op : Op) (vs : Option (List Value)) → is_in_flow mode ≡ false → applied mode op vs ≡ worked op vs
applied_same mode op None e = refl
applied_same AtStep op (Some vs) e = refl
applied_same AtLeft op (Some vs) e = refl
applied_same InFlow op (Some vs) e = absurd cc

pub and_same : (a b x y : Bool) → a ≡ b → (b ≡ true → x ≡ y) → (a && x) ≡ (b && y)
and_same a true x y e q = rw e (q refl)
and_same a false x y e q = rw e refl

pub and_both : (a b : Bool) → a ≡ true → b ≡ true → (a && b) ≡ true
and_both a b p q = rw (p, q) refl

pub mode_step : (mode : Mode) → at_step (mode_as mode) ≡ is_at_step mode
mode_step AtStep = refl
mode_step AtLeft = refl
mode_step InFlow = refl

pub mode_flow : (mode : Mode) → in_flow (mode_as mode) ≡ is_in_flow mode
mode_flow AtStep = refl
mode_flow AtLeft = refl
mode_flow InFlow = refl

pub holds_is : (x : Option Value) → holds x ≡ true → x ≡ Some (B true)
holds_is (Some (B true)) e = refl
holds_is (Some (B false)) e = absurd cc
holds_is (Some (I n)) e = absurd cc
holds_is (Some (F n)) e = absurd cc
holds_is None e = absurd cc

-- the state of a solved instant of a form that has the main block alone
module _ (f : FlatForm) (main : IsMain f) (m : Moment) (s : State) (solved : (a : Node) → s a ≡ equation f m s a) (instant : is_in_flow m.mode ≡ true → m.live 0 ≡ true) where
  pub active : s (AtControl 0) ≡ Active
  unfolding equation
  active = let e = solved (AtControl 0) in let b = main.blocks in let p = main.parent in let q = main.kind in cc

  pub kept : s (AtReset 0) ≡ false
  unfolding equation
  kept = let e = solved (AtReset 0) in let b = main.blocks in let p = main.parent in cc

  fresh_by : (flow live : Bool) → is_in_flow m.mode ≡ flow → m.live 0 ≡ live → is_fresh m s 0 ≡ not live
  fresh_by true true q e = ap (λ x. not x && (is_active (s (AtControl 0)) && (not (m.live 0) || s (AtReset 0)))) q
  fresh_by true false q e = absurd (let z : false ≡ true = sym e ∙ instant q in cc)
  fresh_by false true q e = let a = active in let c = kept in cc
  fresh_by false false q e = let a = active in let c = kept in cc

  pub fresh_is : is_fresh m s 0 ≡ not (m.live 0)
  fresh_is = fresh_by (is_in_flow m.mode) (m.live 0) refl refl

  abbrev pub started_by : Option ℕ → Option Value → Option Value
  started_by None other = other
  started_by (Some j) other = s (AtValue j)

  pub started_if : (b : Bool) → is_fresh m s 0 ≡ b → (definers : List Definer) → AllByRecursion InMain definers → (other : Option Value) → started m s definers other ≡ (if b then started_by (start_of definers) other else other)
  started_if true e [] a other = refl
  started_if false e [] a other = refl
  started_if b e (Input n ∷ definers) a other = started_if b e definers a.1 other
  started_if b e (Plain c j ∷ definers) a other = started_if b e definers a.1 other
  started_if b e (Der c j arms ∷ definers) a other = started_if b e definers a.1 other
  started_if true e (Start c j ∷ definers) a other = let z = a.0 in let w = ap (λ x. is_fresh m s x) z ∙ e in rw w refl
  started_if false e (Start c j ∷ definers) a other = let z = a.0 in let w = ap (λ x. is_fresh m s x) z ∙ e in rw w (started_if false e definers a.1 other)

  abbrev pub defined_by : ℕ → Option Definer → Option Value → Option Value
  defined_by p None last = last
  defined_by p (Some (Input n)) last = get_or m.inputs n None
  defined_by p (Some (Plain b j)) last = s (AtValue j)
  defined_by p (Some (Der b j arms)) last = der_value m s m.mode p j arms last
  defined_by p (Some (Start b j)) last = last

  pub defined_is : (p : ℕ) (definers : List Definer) → AllByRecursion InMain definers → (last : Option Value) → defined m s p definers last ≡ defined_by p (definer_of definers) last
  defined_is p [] a last = refl
  defined_is p (Input n ∷ definers) a last = refl
  defined_is p (Plain b j ∷ definers) a last = let z = a.0 in let w = ap (λ x. is_active (s (AtControl x))) z ∙ ap (λ c. is_active c) active in rw w refl
  defined_is p (Der b j arms ∷ definers) a last = let z = a.0 in let w = ap (λ x. is_active (s (AtControl x))) z ∙ ap (λ c. is_active c) active in rw w refl
  defined_is p (Start b j ∷ definers) a last = defined_is p definers a.1 last

  pub no_blank : (definers : List Definer) → AllByRecursion InMain definers → list_any (has_blank s) definers ≡ false
  no_blank [] a = refl
  no_blank (Input n ∷ definers) a = no_blank definers a.1
  no_blank (Plain b j ∷ definers) a = let w = ap (λ x. is_blank (s (AtControl x))) a.0 ∙ ap (λ c. is_blank c) active in rw w (no_blank definers a.1)
  no_blank (Der b j arms ∷ definers) a = let w = ap (λ x. is_blank (s (AtControl x))) a.0 ∙ ap (λ c. is_blank c) active in rw w (no_blank definers a.1)
  no_blank (Start b j ∷ definers) a = let w = ap (λ x. is_blank (s (AtControl x))) a.0 ∙ ap (λ c. is_blank c) active in rw w (no_blank definers a.1)

  pub no_blank_start : (definers : List Definer) → AllByRecursion InMain definers → list_any (has_blank_start s) definers ≡ false
  no_blank_start [] a = refl
  no_blank_start (Input n ∷ definers) a = no_blank_start definers a.1
  no_blank_start (Plain b j ∷ definers) a = no_blank_start definers a.1
  no_blank_start (Der b j arms ∷ definers) a = no_blank_start definers a.1
  no_blank_start (Start b j ∷ definers) a = let w = ap (λ x. is_blank (s (AtControl x))) a.0 ∙ ap (λ c. is_blank c) active in rw w (no_blank_start definers a.1)

  -- `last` of a place, and its value
  pub last_if : (p : ℕ) (place : PlaceInfo) → slice_get f.places p ≡ Some place → last_of m s p (Some place) ≡ (if not (m.live 0) then started_by (start_of place.definers) None else m.before (AtPlace p))
  last_if p place is =
      let a = main.places p place is in
      ap (λ b. if b then None else started m s place.definers (value_before m s p place)) (no_blank_start place.definers a.1)
      ∙ started_if (not (m.live 0)) fresh_is place.definers a.1 (value_before m s p place)
      ∙ ap (λ b. if not (m.live 0) then started_by (start_of place.definers) (if is_fresh m s b then None else m.before (AtPlace p)) else (if is_fresh m s b then None else m.before (AtPlace p))) a.0
      ∙ ap (λ b. if not (m.live 0) then started_by (start_of place.definers) (if b then None else m.before (AtPlace p)) else (if b then None else m.before (AtPlace p))) fresh_is
      ∙ settle (m.live 0) (start_of place.definers) (m.before (AtPlace p))
    where
      settle : (b : Bool) (j : Option ℕ) (x : Option Value) → (if not b then started_by j (if not b then None else x) else (if not b then None else x)) ≡ (if not b then started_by j None else x)
      settle true j x = refl
      settle false j x = refl

  pub place_if : (p : ℕ) (place : PlaceInfo) → slice_get f.places p ≡ Some place → s (AtPlace p) ≡ (if is_called s place.call then defined_by p (definer_of place.definers) (last_of m s p (Some place)) else None)
  unfolding equation
  place_if p place is =
      let a = main.places p place is in
      solved (AtPlace p)
      ∙ ap (λ x. place_of m s p x) is
      ∙ ap (λ b. if is_active (s (AtControl b)) && (is_called s place.call && not (list_any (has_blank s) place.definers)) then defined m s p place.definers (last_of m s p (Some place)) else None) a.0
      ∙ ap (λ c. if is_active c && (is_called s place.call && not (list_any (has_blank s) place.definers)) then defined m s p place.definers (last_of m s p (Some place)) else None) active
      ∙ ap (λ b. if is_called s place.call && not b then defined m s p place.definers (last_of m s p (Some place)) else None) (no_blank place.definers a.1)
      ∙ ap (λ b. if b then defined m s p place.definers (last_of m s p (Some place)) else None) (and_true_is (is_called s place.call))
      ∙ ap (λ x. if is_called s place.call then x else None) (defined_is p place.definers a.1 (last_of m s p (Some place)))
    where
      and_true_is : (b : Bool) → (b && true) ≡ b
      and_true_is true = refl
      and_true_is false = refl

  pub value_if : (j : ℕ) (occ : Occ) → slice_get f.occs j ≡ Some occ → s (AtValue j) ≡ answered (answer f m s 0 occ.form)
  unfolding equation
  value_if j occ is =
      let a = main.occs j occ is in
      solved (AtValue j)
      ∙ ap (λ x. value_of f m s x) is
      ∙ ap (λ b. if is_active (s (AtControl b)) then answered (answer f m s b occ.form) else None) a
      ∙ ap (λ c. if is_active c then answered (answer f m s 0 occ.form) else None) active

  pub used_if : (j : ℕ) (occ : Occ) → slice_get f.occs j ≡ Some occ → s (AtUsed j) ≡ is_asked m s occ.call (uses_of f j)
  unfolding equation
  used_if j occ is =
      let a = main.occs j occ is in
      solved (AtUsed j)
      ∙ ap (λ x. used_of f m s j x) is
      ∙ ap (λ b. is_active (s (AtControl b)) && is_asked m s occ.call (uses_of f j)) a
      ∙ ap (λ c. is_active c && is_asked m s occ.call (uses_of f j)) active

  pub later_is : s (AtLater 0) ≡ false
  unfolding equation
  later_is = let e = solved (AtLater 0) in let b = main.blocks in let p = main.parent in cc

  -- a place that is never defined has no value, if it had none before
  pub blank_place : (p : ℕ) (place : PlaceInfo) → slice_get f.places p ≡ Some place → place.definers ≡ [] → m.before (AtPlace p) ≡ None → s (AtPlace p) ≡ None
  blank_place p place is definers before =
      place_if p place is
      ∙ ap (λ x. if is_called s place.call then defined_by p (definer_of x) (last_of m s p (Some place)) else None) definers
      ∙ none_too (is_called s place.call) (last_of m s p (Some place))
      (last_if p place is ∙ ap (λ x. if not (m.live 0) then started_by (start_of x) None else m.before (AtPlace p)) definers ∙ none (m.live 0) (m.before (AtPlace p)) before)
    where
      none : (b : Bool) (x : Option Value) → x ≡ None → (if not b then None else x) ≡ None
      none true x e = e
      none false x e = refl

      none_too : (b : Bool) (x : Option Value) → x ≡ None → (if b then x else None) ≡ None
      none_too true x e = e
      none_too false x e = refl
