-- The flow after an instant: at moment 0 the wires hold what the form's equations say, and memories move as places do.
use Rattle.std.specs.Prelude.{◌≡◌, ℕ, Bool, true, false, if◌then◌else◌, List, ◌∷◌, slice_get, Option, Some, None}
use Rattle.std.proofs.Common.{refl, sym, ap, ap₂, ◌∙◌, subst}
use Rattle.zl_value.specs.Operators.{Nothing, answered}
use Rattle.zl_value.specs.declared.value.Value.{Value}
use Rattle.zl_value.specs.declared.value.Value.TheVariants.{B, I, F}
use Rattle.zl_value.specs.declared.op.Op.{Op}
use Rattle.zl_meaning.specs.FlatForm.{FlatForm}
use Rattle.zl_meaning.specs.State.{AtPlace, AtUsed, AtValue, if_used}
use Rattle.zl_meaning.specs.Moment.{InFlow, Moment}
use Rattle.zl_meaning.specs.Places.{moved}
use Rattle.zl_meaning.specs.History.{is_live}
use Rattle.zl_meaning.specs.Occurrences.{gathered, applied, branch}
use Rattle.zl_normal.specs.Evaluated.{HasGuardRanks}
use Rattle.zl_meaning.specs.declared.place.Definer.TheVariants.{Der}
use Rattle.zl_meaning.specs.declared.place.DerArm.{DerArm}
use Rattle.zl_meaning.specs.declared.place.PlaceInfo.{PlaceInfo}
use Rattle.zl_meaning.specs.declared.occurrence.Form.TheVariants.{Op as Apply}
use Rattle.zl_meaning.specs.declared.occurrence.Occ.{Occ}
use Rattle.zl_kernel.specs.KernelForm.{KernelForm}
use Rattle.zl_normal.proofs.Wires.Solved.{given_is, if_is}
use Rattle.zl_value.specs.Fraction.{Fraction}
use Rattle.zl_value.specs.Times.{nought}
use Rattle.zl_meaning.specs.State.{Table, state_in}
use Rattle.zl_meaning.specs.Equation.{turn as old_turn}
use Rattle.zl_meaning.proofs.OneTable.{solves_each}
use Rattle.zl_kernel.specs.Wires.{Registers, held, is_open, turn}
use Rattle.zl_kernel.specs.Memories.{starts, after}
use Rattle.zl_normal.specs.PlaceWires.{definer_of}
use Rattle.zl_normal.specs.KernelParts.{IsMemory}
use Rattle.zl_normal.specs.Wiring.{Wiring, call_guard}
use Rattle.zl_normal.specs.Normal.{IsNormalAtInstants, IsNormalInFlows}
use Rattle.zl_kernel.specs.declared.memory.KMem.{KMem}
use Rattle.zl_normal.proofs.Instants.OneMoment.{agrees}
use Rattle.zl_kernel.specs.Wires.{applied as worked}
use Rattle.zl_normal.specs.MainBlock.{IsMain}
use Rattle.zl_normal.proofs.Values.Entries.{Agrees}
use Rattle.zl_normal.proofs.Instants.Follows.{Follow, live_now, mapped}
use Rattle.zl_meaning.specs.Flow.{flow_moment as old_flow_moment}
use Rattle.zl_kernel.specs.Wires.{applied as worked, wire_value, answer as wire_says}
use Rattle.zl_kernel.specs.System.{flow_moment}
use Rattle.zl_value.specs.Instants.{Instant, History}
use Rattle.zl_normal.specs.PlaceWires.{IsDer, IsDefined}
use Rattle.zl_normal.proofs.Values.Entries.{Together}
use Rattle.zl_normal.proofs.Wires.Solved.{turned, given_is, if_is}
use Rattle.zl_normal.proofs.Instants.Follows.{looks_back, place_home, occ_home}

module _ (f : FlatForm) (k : KernelForm) (N : Wiring) (main : IsMain f) (normal : IsNormalAtInstants f k N) (grades : List ℕ) (moving : IsNormalInFlows f grades k N) (ranks : HasGuardRanks f) (h : History Registers) (g : History Table) (i : Instant Registers) (j : Instant Table) (e : Follow f k N (i ∷ h) (j ∷ g)) (y : Registers) (flows : y ≡ turn k (flow_moment k i) y) where
  -- the slope of a memory that moves is the derivative at the instant
  pub slope_is : (place : PlaceInfo) (a slope : ℕ) → IsDer f k N place a slope → held y slope ≡ held i.table (N.w a)
  slope_is place a slope is =
      ap (λ x. held x slope) flows
      ∙ turned k (flow_moment k i) y flows tt slope
      ∙ ap (λ w. wire_value k (flow_moment k i) (held y) slope w) is.is
      ∙ ap₂ (λ o d. answered (if is_open (held y) o then wire_says (flow_moment k i) (held y) d else Nothing)) is.free is.def
      ∙ given_is (held (after k i.table) is.m)
      ∙ mapped f k N (λ (mem : KMem). held i.table mem.next) k.mems is.m is.mem.mem is.mem.is
      ∙ ap (λ x. held i.table x) is.mem.next_is

  moved_none : (x : Option Value) (d : Fraction) → moved None x d ≡ None
  moved_none None d = refl
  moved_none (Some (B b)) d = refl
  moved_none (Some (I b)) d = refl
  moved_none (Some (F b)) d = refl

  -- a place with a `der` whose call isn't evaluated has no value
  pub no_value : (p : ℕ) (place : PlaceInfo) (b a : ℕ) (arms : List DerArm) → IsDefined f k N p place (Some (Der b a arms)) → is_open (held i.table) (call_guard N place.call) ≡ false → held i.table (N.P p) ≡ None
  no_value p place b a arms d q =
      if_is k e.0.moment i.table e.0.wired tt (N.P p) N.step d.at_step d.between (call_guard N place.call) d.wire ∙ ap (λ o. if_used o (branch (held i.table N.step) (held i.table d.at_step) (held i.table d.between))) q

  -- memories move as places do
  pub moves_same : (d : Fraction) (p : ℕ) (place : PlaceInfo) (b a n slope : ℕ) (arms : List DerArm) (start : Option Value) → slice_get f.places p ≡ Some place → definer_of place.definers ≡ Some (Der b a arms) → IsMemory k n start (N.P p) (Some slope) → moved (held i.table (N.P p)) (held y slope) d ≡ moved (state_in j.table (AtPlace p)) (state_in j.table (AtValue a)) d
  moves_same d p place b a n slope arms start at definer mem =
      let is = (moving.ders p place b a n slope arms start at definer mem).1 in
      ap (λ x. moved (held i.table (N.P p)) x d) (slope_is place a slope is)
      ∙ by (is_open (held i.table) (N.G a)) refl is
      ∙ ap (λ x. moved x (state_in j.table (AtValue a)) d) (sym (e.0.says.places p (place, at)))
    where
      by : (o : Bool) → is_open (held i.table) (N.G a) ≡ o → IsDer f k N place a slope → moved (held i.table (N.P p)) (held i.table (N.w a)) d ≡ moved (held i.table (N.P p)) (state_in j.table (AtValue a)) d
      by true q is = ap (λ x. moved (held i.table (N.P p)) x d) (sym (e.0.says.values a is.there q))
      by false q is =
          let none = no_value p place b a arms (subst (λ x. IsDefined f k N p place x) definer (normal.places p place at).1) (sym (ap (λ g. is_open (held i.table) g) is.guard) ∙ q) in
          ap (λ x. moved x (held i.table (N.w a)) d) none ∙ moved_none (held i.table (N.w a)) d
          ∙ sym (ap (λ x. moved x (state_in j.table (AtValue a)) d) none ∙ moved_none (state_in j.table (AtValue a)) d)

  -- what the wires of the flow read is what the equations of moment 0 read
  abbrev start : Moment
  start = old_flow_moment f g j nought

  -- a place that moves is at moment 0 where it was, if its derivative has a value
  abbrev pub StartsThere : Type 0
  StartsThere = (p : ℕ) (place : PlaceInfo) (b a n slope : ℕ) (arms : List DerArm) (s0 : Option Value) → slice_get f.places p ≡ Some place → definer_of place.definers ≡ Some (Der b a arms) → IsMemory k n s0 (N.P p) (Some slope) → held i.table (N.P p) ≡ moved (state_in j.table (AtPlace p)) (state_in j.table (AtValue a)) nought

  flow_together : StartsThere → Together f k N start (flow_moment k i) i.table e.0.moment
  flow_together starts = record {
    mode = refl;
    instant = λ q. live_now f k N h g i j e;
    inputs = sym e.0.inputs;
    fired = refl;
    none_first = λ q. refl;
    memories = λ n s0 next is.
        mapped f k N (λ (mem : KMem). held i.table mem.next) k.mems n is.mem is.is ∙ ap (λ x. held i.table x) is.next_is
        ∙ sym (ap (λ b. if b then held i.table next else s0) (live_now f k N h g i j e));
    before = λ q. (
      record {
        places = λ p there. looks_back f k N main h g i j e (AtPlace p) (place_home f k N main p there) ∙ e.0.says.places p there;
        used = λ a there. looks_back f k N main h g i j e (AtUsed a) (occ_home f k N main a there) ∙ e.0.says.used a there;
        values = λ a there o. looks_back f k N main h g i j e (AtValue a) (occ_home f k N main a there) ∙ e.0.says.values a there o;
      },
      e.0.wired,
      e.0.instant,
    );
    blank = λ p place is no_definers. looks_back f k N main h g i j e (AtPlace p) (place_home f k N main p (place, is)) ∙ e.0.blank p place is no_definers;
    moves = λ p place b a n slope arms s0 at definer is apart.
        mapped f k N (λ (mem : KMem). held i.table mem.next) k.mems n is.mem is.is ∙ ap (λ x. held i.table x) is.next_is ∙ starts p place b a n slope arms s0 at definer is;
  }

  -- at moment 0 the wires hold what the form's equations say, where each evaluated operator's exact result is in the width
  pub flow_agrees : StartsThere → (t : Table) → t ≡ old_turn f start t → ((a : ℕ) (occ : Occ) (op : Op) (ks : List ℕ) → slice_get f.occs a ≡ Some occ → occ.form ≡ Apply op ks → state_in t (AtUsed a) ≡ true → applied InFlow op (gathered (state_in t) ks) ≡ worked op (gathered (state_in t) ks)) → Agrees f N (state_in t) y
  flow_agrees starts t is exact =
      agrees f k N main normal start (flow_moment k i) i.table e.0.moment (flow_together starts) (state_in t) (solves_each f start t is) y flows exact ranks (λ q. absurd (apart q))
    where
      apart : is_live 0 (j ∷ g) ≡ false → ⊥
      apart q = let z : true ≡ false = sym (live_now f k N h g i j e) ∙ q in absurd (let w = z in cc)
