-- Steps of a normal form are steps of the form: the memories hold what the form looks back to.
use Rattle.std.specs.Prelude.{◌≡◌, ℕ, zero, suc, Bool, true, false, not, if◌then◌else◌, List, [], ◌∷◌, map, slice_get, get_or, Option, Some, None}
use Rattle.std.proofs.Common.{refl, sym, ap, ap₂, ◌∙◌}
use Rattle.zl_value.specs.Times.{holds}
use Rattle.zl_value.specs.declared.value.Value.{Value}
use Rattle.zl_meaning.specs.FlatForm.{FlatForm}
use Rattle.zl_meaning.specs.State.{Node, AtControl, AtReset, AtLater, AtPlace, AtUsed, AtValue, Active, is_active}
use Rattle.zl_meaning.specs.Moment.{AtStep, Moment, is_in_flow}
use Rattle.zl_meaning.specs.Places.{moved}
use Rattle.zl_meaning.specs.Occurrences.{gathered}
use Rattle.zl_normal.specs.Evaluated.{HasGuardRanks}
use Rattle.zl_meaning.specs.declared.place.Definer.TheVariants.{Der}
use Rattle.zl_meaning.specs.declared.place.DerArm.{DerArm}
use Rattle.zl_meaning.specs.declared.place.PlaceInfo.{PlaceInfo}
use Rattle.zl_meaning.specs.declared.occurrence.Form.TheVariants.{Last}
use Rattle.zl_meaning.specs.declared.occurrence.Occ.{Occ}
use Rattle.zl_kernel.specs.KernelForm.{KernelForm}
use Rattle.zl_normal.specs.MainBlock.{IsMain}
use Rattle.zl_normal.proofs.Values.Entries.{Agrees, mode_as, Together, applied_same, mode_flow, active, kept, later_is, blank_place}
use Rattle.std.specs.Prelude.{◌+◌}
use Rattle.zl_value.specs.Fraction.{Fraction}
use Rattle.zl_meaning.specs.State.{Table, empty_table, state_in}
use Rattle.zl_meaning.specs.History.{last_active, is_live}
use Rattle.zl_meaning.specs.Solves.{mode_of as old_mode, moment_of as old_moment, before_of, home, block_of_place, block_of_occ, state_at}
use Rattle.zl_meaning.specs.Equation.{turn as old_turn}
use Rattle.zl_meaning.proofs.OneTable.{some_table, solves_each}
use Rattle.zl_kernel.specs.Wires.{Registers, held, is_open, turn, Moment as KernelMoment, AtStep as StepMode, is_in_flow as in_flow}
use Rattle.zl_value.specs.Instants.{Kind, Step as StepKind, Left as LeftKind, Instant, History, is_step, latest_inputs, time_of, one_if, steps_in, steps_at}
use Rattle.zl_kernel.specs.System.{mode_of as kernel_mode, moment_of}
use Rattle.zl_normal.specs.PlaceWires.{definer_of}
use Rattle.zl_normal.specs.KernelParts.{IsMemory}
use Rattle.zl_normal.specs.Wiring.{Wiring, call_guard}
use Rattle.zl_normal.specs.FormWires.{IsOcc, IsPlaceOf}
use Rattle.zl_normal.specs.Normal.{IsNormalAtInstants}
use Rattle.zl_normal.proofs.Instants.Places.{fresh_wire}
use Rattle.zl_normal.proofs.Instants.OneMoment.{agrees}

pub some_is : {X : Type 0} (a b : X) → Some a ≡ Some b → a ≡ b
some_is {X = X} a b e = ap (λ x. or_else x) e
  where
    or_else : Option X → X
    or_else None = a
    or_else (Some y) = y

pub mode_same : (kind : Kind) → kernel_mode kind ≡ mode_as (old_mode kind)
mode_same StepKind = refl
mode_same LeftKind = refl

pub mode_instant : (kind : Kind) → is_in_flow (old_mode kind) ≡ false
mode_instant StepKind = refl
mode_instant LeftKind = refl

never_flows : (kind : Kind) → is_in_flow (old_mode kind) ≡ true → ⊥
never_flows kind e = let z : false ≡ true = sym (mode_instant kind) ∙ e in absurd (let y = z in cc)

abbrev pub is_begun : {X : Type 0} → History X → Bool
is_begun [] = false
is_begun (i ∷ h) = true

module _ (f : FlatForm) (k : KernelForm) (N : Wiring) where
  -- an instant of the kernel and one of the form that say the same
  pub record SameInstant (begun : Bool) (i : Instant Registers) (j : Instant Table) : Type 0 where
    pub kind : j.kind ≡ i.kind
    pub time : j.time ≡ i.time
    pub inputs : j.inputs ≡ i.inputs
    pub fired : j.fired ≡ i.fired
    pub says : Agrees f N (state_in j.table) i.table
    pub moment : KernelMoment
    pub instant : in_flow moment.mode ≡ false
    pub wired : i.table ≡ turn k moment i.table
    pub running : state_in j.table (AtControl 0) ≡ Active
    pub unreset : state_in j.table (AtReset 0) ≡ false
    pub later : state_in j.table (AtLater 0) ≡ false
    pub blank : (p : ℕ) (place : PlaceInfo) → slice_get f.places p ≡ Some place → place.definers ≡ [] → state_in j.table (AtPlace p) ≡ None
    pub fresh : begun ≡ true → holds (held i.table N.fresh) ≡ false

  abbrev pub Follow : History Registers → History Table → Type 0
  Follow [] [] = Unit {0}
  Follow (i ∷ h) (j ∷ g) = SameInstant (is_begun h) i j × Follow h g
  Follow _ _ = ⊥

  pub same_time : (h : History Registers) (g : History Table) → Follow h g → time_of g ≡ time_of h
  same_time [] [] e = refl
  same_time [] (j ∷ g) e = absurd e
  same_time (i ∷ h) [] e = absurd e
  same_time (i ∷ h) (j ∷ g) e = e.0.time

  pub same_inputs : (h : History Registers) (g : History Table) → Follow h g → latest_inputs g ≡ latest_inputs h
  same_inputs [] [] e = refl
  same_inputs [] (j ∷ g) e = absurd e
  same_inputs (i ∷ h) [] e = absurd e
  same_inputs (i ∷ h) (j ∷ g) e = e.0.inputs

  pub same_steps : (h : History Registers) (g : History Table) → Follow h g → steps_in g ≡ steps_in h
  same_steps [] [] e = refl
  same_steps [] (j ∷ g) e = absurd e
  same_steps (i ∷ h) [] e = absurd e
  same_steps (i ∷ h) (j ∷ g) e = let x = e.0.kind in let y = same_steps h g e.1 in ap₂ (λ a b. one_if (is_step a) + b) x y

  pub same_steps_at : (t : Fraction) (h : History Registers) (g : History Table) → Follow h g → steps_at t g ≡ steps_at t h
  same_steps_at t [] [] e = refl
  same_steps_at t [] (j ∷ g) e = absurd e
  same_steps_at t (i ∷ h) [] e = absurd e
  same_steps_at t (i ∷ h) (j ∷ g) e = let x = e.0.kind in let z = e.0.time in let y = same_steps_at t h g e.1 in cc

  -- what the form looks back to is the latest instant
  pub looks_back : (main : IsMain f) (h : History Registers) (g : History Table) (i : Instant Registers) (j : Instant Table) → Follow (i ∷ h) (j ∷ g) → (a : Node) → home f a ≡ 0 → before_of f (j ∷ g) a ≡ state_in j.table a
  looks_back main h g i j e a at =
      ap (λ b. state_at (last_active b (j ∷ g)) a) at
      ∙ ap (λ c. state_at (if is_active c then Some j else last_active 0 g) a) e.0.running

  pub live_now : (h : History Registers) (g : History Table) (i : Instant Registers) (j : Instant Table) → Follow (i ∷ h) (j ∷ g) → is_live 0 (j ∷ g) ≡ true
  live_now h g i j e = let x = e.0.later in let y = e.0.running in rw (x, y) refl

  pub mapped : {A : Type 0} (make : A → Option Value) (xs : List A) (n : ℕ) (x : A) → slice_get xs n ≡ Some x → get_or (map make xs) n None ≡ make x
  mapped make [] n x e = absurd cc
  mapped make (y ∷ xs) zero x e = ap make (some_is y x e)
  mapped make (y ∷ xs) (suc n) x e = mapped make xs n x e

  abbrev pub latest : History Registers → Registers
  latest [] = []
  latest (i ∷ h) = i.table

  -- the instant of the form that stands for one of the kernel
  abbrev pub beside : Instant Registers → Table → Instant Table
  beside i t = record { kind = i.kind; time = i.time; inputs = i.inputs; fired = i.fired; table = t }

  -- the kernel's memories before an instant: those without slope hold what their wires held, the others have moved
  pub record Remember (h : History Registers) (m : Moment) (memories : Registers) : Type 0 where
    pub still : (n : ℕ) (start : Option Value) (next : ℕ) → IsMemory k n start next None → held memories n ≡ (if is_begun h then held (latest h) next else start)
    pub moves : (p : ℕ) (place : PlaceInfo) (b j n slope : ℕ) (arms : List DerArm) (start : Option Value) → slice_get f.places p ≡ Some place → definer_of place.definers ≡ Some (Der b j arms) → IsMemory k n start (N.P p) (Some slope) → (m.mode ≡ AtStep → ⊥) → held memories n ≡ moved (m.start (AtPlace p)) (m.start (AtValue j)) m.passed

  abbrev pub first_moment : KernelMoment
  first_moment = record { mode = StepMode; inputs = []; fired = []; memories = [] }

  abbrev pub last_moment : (h : History Registers) (g : History Table) → Follow h g → KernelMoment
  last_moment [] [] e = first_moment
  last_moment [] (j ∷ g) e = first_moment
  last_moment (i ∷ h) [] e = first_moment
  last_moment (i ∷ h) (j ∷ g) e = e.0.moment

  pub place_home : (main : IsMain f) (p : ℕ) → IsPlaceOf f p → home f (AtPlace p) ≡ 0
  place_home main p there = ap (λ x. block_of_place x) there.1 ∙ (main.places p there.0 there.1).0

  pub occ_home : (main : IsMain f) (j : ℕ) → IsOcc f j → home f (AtUsed j) ≡ 0
  occ_home main j there = ap (λ x. block_of_occ x) there.1 ∙ main.occs j there.0 there.1

  pub together : (main : IsMain f) (h : History Registers) (g : History Table) (e : Follow h g) (i : Instant Registers) (t : Table) (passed : Fraction) (memories : Registers) → (is_begun h ≡ false → i.fired ≡ []) → Remember h (old_moment f g passed (beside i t)) memories → Together f k N (old_moment f g passed (beside i t)) (moment_of memories i) (latest h) (last_moment h g e)
  together main [] [] e i t passed memories none mem = record {
    mode = mode_same i.kind;
    instant = λ q. absurd (never_flows i.kind q);
    inputs = refl;
    fired = refl;
    none_first = λ q. none refl;
    memories = λ n start next is. mem.still n start next is;
    before = λ q. absurd cc;
    blank = λ p place is no_definers. refl;
    moves = mem.moves;
  }
  together main [] (j ∷ g) e i t passed memories none mem = absurd e
  together main (i0 ∷ h) [] e i t passed memories none mem = absurd e
  together main (i0 ∷ h) (j ∷ g) e i t passed memories none mem = record {
    mode = mode_same i.kind;
    instant = λ q. absurd (never_flows i.kind q);
    inputs = refl;
    fired = refl;
    none_first = λ q. let z : true ≡ false = sym (live_now h g i0 j e) ∙ q in absurd cc;
    memories = λ n start next is. mem.still n start next is ∙ sym (ap (λ b. if b then held i0.table next else start) (live_now h g i0 j e));
    before = λ q. (
      record {
        places = λ p there. looks_back main h g i0 j e (AtPlace p) (place_home main p there) ∙ e.0.says.places p there;
        used = λ a there. looks_back main h g i0 j e (AtUsed a) (occ_home main a there) ∙ e.0.says.used a there;
        values = λ a there o. looks_back main h g i0 j e (AtValue a) (occ_home main a there) ∙ e.0.says.values a there o;
      },
      e.0.wired,
      e.0.instant,
    );
    blank = λ p place is no_definers. looks_back main h g i0 j e (AtPlace p) (place_home main p (place, is)) ∙ e.0.blank p place is no_definers;
    moves = mem.moves;
  }

  -- a name behind `last` is evaluated only where the call of its place is; it matters at the first instant
  abbrev pub LastsCalled : Registers → Type 0
  LastsCalled r = (j p : ℕ) (occ : Occ) (place : PlaceInfo) → slice_get f.occs j ≡ Some occ → occ.form ≡ Last p → slice_get f.places p ≡ Some place → is_open (held r) (N.G j) ≡ true → is_open (held r) (call_guard N place.call) ≡ true

  -- an instant that the kernel solves stands for one that the form solves
  pub same_instant : (main : IsMain f) → IsNormalAtInstants f k N → HasGuardRanks f → (h : History Registers) (g : History Table) (e : Follow h g) (i : Instant Registers) (passed : Fraction) (memories : Registers) → (is_begun h ≡ false → i.fired ≡ []) → Remember h (old_moment f g passed (beside i empty_table)) memories → i.table ≡ turn k (moment_of memories i) i.table → (is_begun h ≡ false → LastsCalled i.table) → (t : Table) × (t ≡ old_turn f (old_moment f g passed (beside i t)) t) × SameInstant (is_begun h) i (beside i t)
  same_instant main normal ranks h g e i passed memories none mem wired lasts =
      let m = old_moment f g passed (beside i empty_table) in
      let some = some_table f m ranks.entries in
      let t = some.0 in
      let solved = solves_each f m t some.1 in
      let with = together main h g e i t passed memories none mem in (
        t,
        some.1,
        record {
          kind = refl;
          time = refl;
          inputs = refl;
          fired = refl;
          says = agrees f k N main normal m (moment_of memories i) (latest h) (last_moment h g e) with (state_in t) solved i.table wired (λ a occ op ks at form o. applied_same m.mode op (gathered (state_in t) ks) (mode_instant i.kind)) ranks (λ q. lasts (not_begun h g e q));
          moment = moment_of memories i;
          instant = ap (λ x. in_flow x) (mode_same i.kind) ∙ mode_flow (old_mode i.kind) ∙ mode_instant i.kind;
          wired = wired;
          running = active f main m (state_in t) solved (λ q. absurd (never_flows i.kind q));
          unreset = kept f main m (state_in t) solved (λ q. absurd (never_flows i.kind q));
          later = later_is f main m (state_in t) solved (λ q. absurd (never_flows i.kind q));
          blank = λ p place is definers. blank_place f main m (state_in t) solved (λ q. absurd (never_flows i.kind q)) p place is definers (with.blank p place is definers);
          fresh = λ b. ap (λ x. holds x) (fresh_wire f k N main normal m (moment_of memories i) (latest h) (last_moment h g e) with (state_in t) solved i.table wired (λ a occ op ks at form o. applied_same m.mode op (gathered (state_in t) ks) (mode_instant i.kind))) ∙ ap (λ x. not x) (begun_live h g e b);
        },
      )
    where
      begun_live : (h : History Registers) (g : History Table) → Follow h g → is_begun h ≡ true → is_live 0 g ≡ true
      begun_live [] g e b = absurd cc
      begun_live (i ∷ h) [] e b = absurd e
      begun_live (i ∷ h) (j ∷ g) e b = live_now h g i j e

      not_begun : (h : History Registers) (g : History Table) → Follow h g → is_live 0 g ≡ false → is_begun h ≡ false
      not_begun [] g e q = refl
      not_begun (i ∷ h) [] e q = absurd e
      not_begun (i ∷ h) (j ∷ g) e q = let z : true ≡ false = sym (live_now h g i j e) ∙ q in absurd (let w = z in cc)
