-- At an instant of a normal form the same sites fire as at the form's, the fault is the same, and the same is demanded.
use Rattle.std.specs.Prelude.{◌≡◌, ℕ, zero, suc, ◌<◌, nat_eq, Bool, true, false, not, ◌&&◌, ◌||◌, if◌then◌else◌, List, [], ◌∷◌, map, slice_get, length, Option, Some, None}
use Rattle.std.specs.List.{AllByRecursion, list_any}
use Rattle.std.specs.Option.{option_map, option_and_then}
use Rattle.std.proofs.Common.{refl, sym, ap, ap₂, ◌∙◌, arith}
use Rattle.zl_value.specs.Times.{holds}
use Rattle.zl_value.specs.Operators.{answered}
use Rattle.zl_value.specs.declared.value.Value.{Value}
use Rattle.zl_value.specs.declared.value.Value.TheVariants.{B, I, F}
use Rattle.zl_meaning.specs.FlatForm.{FlatForm}
use Rattle.zl_meaning.specs.State.{AtControl, AtReset, AtValue, State, is_active, if_used, value_in}
use Rattle.zl_meaning.specs.Moment.{AtStep, Moment}
use Rattle.zl_meaning.specs.declared.occurrence.Form.{Form}
use Rattle.zl_meaning.specs.declared.occurrence.Form.TheVariants.{Lit, Read, Last, Op as Apply, If, Arrow, Pre, Result, Up, Fired, Step as AtSteps}
use Rattle.zl_kernel.specs.KernelForm.{KernelForm}
use Rattle.zl_kernel.specs.declared.wire.Def.TheVariants.{Op as OpWire}
use Rattle.zl_normal.proofs.Wires.Solved.{wire_is, lit_is}
use Rattle.std.specs.Prelude.{◌+◌, is_none}
use Rattle.std.specs.List.{filter}
use Rattle.std.proofs.Common.{⊎_elim}
use Rattle.zl_value.specs.Lists.{listed}
use Rattle.zl_value.specs.Times.{nought}
use Rattle.zl_value.specs.Crossings.{fires}
use Rattle.zl_meaning.specs.State.{Table, state_in}
use Rattle.zl_meaning.specs.History.{is_live}
use Rattle.zl_meaning.specs.Solves.{mode_of as old_mode, moment_of as old_moment, site_value, site_fresh, instant_fault}
use Rattle.zl_kernel.specs.Wires.{Registers, held, is_open, turn, Moment as KernelMoment, is_in_flow as in_flow}
use Rattle.zl_kernel.specs.Faults.{fault_of as wire_fault}
use Rattle.zl_value.specs.Instants.{Instant, History, is_step}
use Rattle.zl_value.specs.System.{fired_after, asks}
use Rattle.zl_kernel.specs.Memories.{memories_of}
use Rattle.zl_kernel.specs.System.{moment_of, system_of_kernel}
use Rattle.zl_kernel.specs.Missing.{lacks}
use Rattle.zl_meaning.specs.System.{system_of}
use Rattle.zl_normal.specs.KernelParts.{IsMemory}
use Rattle.zl_normal.specs.Wiring.{Wiring}
use Rattle.zl_normal.specs.FormWires.{IsOcc}
use Rattle.zl_normal.specs.Normal.{IsNormalAtInstants}
use Rattle.zl_kernel.specs.declared.memory.KMem.{KMem}
use Rattle.zl_kernel.specs.declared.site.KSite.{KSite}
use Rattle.zl_normal.proofs.Instants.Faults.{same_fault}
use Rattle.std.proofs.lemmas.Bool.Decides.{eqb_tells}
use Rattle.zl_value.specs.declared.op.Op.TheVariants.{Or}
use Rattle.zl_meaning.specs.Solves.{argument_in, marked, marks_fresh, fresh_in}
use Rattle.zl_meaning.specs.Solves.{took_move, demands}
use Rattle.zl_meaning.specs.declared.occurrence.SiteInfo.{SiteInfo}
use Rattle.zl_normal.specs.SiteWires.{IsFresh}
use Rattle.zl_normal.specs.Guards.{IsAny, NoneOf, OneOf, SomeOf}
use Rattle.zl_kernel.specs.System.{in_site, site_wire}
use Rattle.zl_value.specs.System.{is_some_site}
use Rattle.zl_kernel.specs.Wires.{applied as worked}
use Rattle.zl_kernel.specs.declared.wire.Def.TheVariants.{Op as OpWire}
use Rattle.zl_normal.specs.MainBlock.{IsMain}
use Rattle.zl_normal.proofs.Values.Entries.{Agrees, mode_as}
use Rattle.zl_normal.proofs.Wires.Solved.{lit_is, wire_is}
use Rattle.zl_normal.proofs.Instants.Follows.{is_begun, mode_same, mode_instant, SameInstant, Follow, live_now, mapped, latest, Remember}

-- lists of numbers
filter_same : (n base : ℕ) (p q : ℕ → Bool) → ((j : ℕ) → j < n → p (base + j) ≡ q (base + j)) → filter p (listed n base (λ x. x)) ≡ filter q (listed n base (λ x. x))
filter_same zero base p q e = refl
filter_same (suc n) base p q e =
    let here : p base ≡ q base = let z : base + 0 ≡ base = omega arith in ap p (sym z) ∙ e 0 (omega arith) ∙ ap q z in
    let rest = filter_same n (suc base) p q (λ j low. let z : suc base + j ≡ base + suc j = omega arith in ap p z ∙ e (suc j) (omega arith) ∙ ap q (sym z)) in
    ap (λ b. if b then base ∷ filter p (listed n (suc base) (λ x. x)) else filter p (listed n (suc base) (λ x. x))) here
    ∙ ap (λ l. if q base then base ∷ l else l) rest

pub within : {A : Type 0} (xs : List A) (n : ℕ) → n < length xs → (x : A) × (slice_get xs n ≡ Some x)
within [] n low = absurd (omega (arith, low))
within (x ∷ xs) zero low = (x, refl)
within (x ∷ xs) (suc n) low = within xs n (omega (arith, low))

same_number : (x : ℕ) → nat_eq x x ≡ true
same_number x = ⊎_elim (λ yes. yes.0) (λ other. absurd (other.1 refl)) (eqb_tells x x)

other_number : (x y : ℕ) → (x ≡ y → ⊥) → nat_eq x y ≡ false
other_number x y apart = ⊎_elim (λ yes. absurd (apart yes.1)) (λ other. other.0) (eqb_tells x y)

pub site_is : (k : KernelForm) (wire : KSite → ℕ) (r : Registers) (n : ℕ) (site : KSite) → slice_get k.sites n ≡ Some site → site_wire wire k r n ≡ held r (wire site)
site_is k wire r n site is = ap (λ o. in_site wire r o) is

abbrev joined : Option Value → Option Value → Option (List Value)
joined x y = option_and_then (λ v. option_map (λ vs. v ∷ vs) (option_and_then (λ w. option_map (λ vs. w ∷ vs) (Some [])) y)) x

or_some : (x y : Option Value) → is_none (answered (worked Or (joined x y))) ≡ false → (is_none y ≡ false) × (holds (answered (worked Or (joined x y))) ≡ (holds x || holds y))
or_some (Some (B a)) (Some (B b)) e = (refl, refl)
or_some (Some (B a)) (Some (I b)) e = absurd cc
or_some (Some (B a)) (Some (F b)) e = absurd cc
or_some (Some (B a)) None e = absurd cc
or_some (Some (I a)) (Some y) e = absurd cc
or_some (Some (I a)) None e = absurd cc
or_some (Some (F a)) (Some y) e = absurd cc
or_some (Some (F a)) None e = absurd cc
or_some None y e = absurd cc

-- memories before a step
pub remember_step : (f : FlatForm) (k : KernelForm) (N : Wiring) (h : History Registers) (m : Moment) → m.mode ≡ AtStep → Remember f k N h m (memories_of k h)
remember_step f k N h m mode = record {
  still = λ n start next is. by h n start next is;
  moves = λ p place b j n slope arms start at definer is left. absurd (left mode);
}
  where
    by : (h : History Registers) (n : ℕ) (start : Option Value) (next : ℕ) → IsMemory k n start next None → held (memories_of k h) n ≡ (if is_begun h then held (latest f k N h) next else start)
    by [] n start next is = mapped f k N (λ (mem : KMem). mem.start) k.mems n is.mem is.is ∙ is.start_is
    by (i ∷ h) n start next is = mapped f k N (λ (mem : KMem). held i.table mem.next) k.mems n is.mem is.is ∙ ap (λ x. held i.table x) is.next_is

module _ (f : FlatForm) (k : KernelForm) (N : Wiring) (main : IsMain f) (normal : IsNormalAtInstants f k N) (grades : List ℕ) where
  -- the value of an occurrence without guard
  pub value_seen : (s : State) (r : Registers) → Agrees f N s r → (j : ℕ) → IsOcc f j → N.G j ≡ None → value_in s j ≡ held r (N.w j)
  value_seen s r same j there free =
      ap (λ b. if_used b (s (AtValue j))) (same.used j there ∙ ap (λ g. is_open (held r) g) free)
      ∙ same.values j there (ap (λ g. is_open (held r) g) free)

  -- sites
  value_same : (begun : Bool) (i : Instant Registers) (j : Instant Table) → SameInstant f k N begun i j → (n : ℕ) (site : SiteInfo) → slice_get f.sites n ≡ Some site → site_value f (state_in j.table) n ≡ site_wire (λ (site : KSite). site.value) k i.table n
  value_same begun i j same n site at =
      let is = normal.sites n site at in
      ap (λ x. value_in (state_in j.table) (argument_in x)) at
      ∙ value_seen (state_in j.table) i.table same.says site.arg (is.occ, is.argument) is.guard
      ∙ ap (λ x. held i.table x) (sym is.value)
      ∙ sym (site_is k (λ (site : KSite). site.value) i.table n is.wires is.is)

  fresh_same : (begun : Bool) (i : Instant Registers) (j : Instant Table) → begun ≡ true → SameInstant f k N begun i j → (h : History Table) → is_live 0 h ≡ true → (n : ℕ) (site : SiteInfo) → slice_get f.sites n ≡ Some site → site_fresh f h j n ≡ holds (site_wire (λ (site : KSite). site.fresh) k i.table n)
  fresh_same begun i j b same h live n site at =
      let is = normal.sites n site at in
      ap (λ x. fresh_in f h j x) at
      ∙ ap (λ x. (is_active (state_in j.table (AtControl x)) && (not (is_live x h) || state_in j.table (AtReset x))) || marks_fresh (state_in j.table) (slice_get f.occs site.arg)) (main.sites n site at)
      ∙ ap₂ (λ x y. (is_active (state_in j.table (AtControl 0)) && (not x || y)) || marks_fresh (state_in j.table) (slice_get f.occs site.arg)) live same.unreset
      ∙ ap (λ c. (is_active c && (not true || false)) || marks_fresh (state_in j.table) (slice_get f.occs site.arg)) same.running
      ∙ ap (λ x. marks_fresh (state_in j.table) x) is.argument
      ∙ by is.occ.form is.wires.fresh is.fresh
      ∙ ap (λ x. holds x) (sym (site_is k (λ (site : KSite). site.fresh) i.table n is.wires is.is))
    where
      unmarked : (n : ℕ) → n ≡ N.fresh → false ≡ holds (held i.table n)
      unmarked n e = sym (ap (λ x. holds (held i.table x)) e ∙ same.fresh b)

      by : (form : Form) (n : ℕ) → IsFresh f k N form n → marked (state_in j.table) form ≡ holds (held i.table n)
      by (Lit v) n e = unmarked n e
      by (Read p) n e = unmarked n e
      by (Last p) n e = unmarked n e
      by (Apply op ks) n e = unmarked n e
      by (Arrow x y) n e = unmarked n e
      by (Pre x) n e = unmarked n e
      by (Result x) n e = unmarked n e
      by (Up u) n e = unmarked n e
      by (Fired us) n e = unmarked n e
      by AtSteps n e = unmarked n e
      by (If c x y) n e =
          ⊎_elim
          (λ yes. ap (λ z. nat_eq x z && holds (state_in j.table (AtValue c))) (sym yes.0) ∙ ap (λ t. t && holds (state_in j.table (AtValue c))) (same_number x) ∙ ap (λ v. holds v) (same.says.values c yes.1 (ap (λ g. is_open (held i.table) g) yes.2)) ∙ ap (λ z. holds (held i.table z)) (sym yes.3))
          (λ other. ap (λ t. t && holds (state_in j.table (AtValue c))) (other_number x y other.0) ∙ unmarked n other.1) e

  -- what fires
  pub fired_same : (h : History Registers) (g : History Table) → Follow f k N h g → fired_after (system_of f grades) g ≡ fired_after (system_of_kernel k) h
  fired_same [] [] e = refl
  fired_same [] (j ∷ g) e = absurd e
  fired_same (i ∷ h) [] e = absurd e
  fired_same (i ∷ []) (j ∷ []) e = refl
  fired_same (i ∷ []) (j ∷ j1 ∷ g) e = absurd e.1
  fired_same (i ∷ i1 ∷ h) (j ∷ []) e = absurd e.1
  fired_same (i ∷ i1 ∷ h) (j ∷ j1 ∷ g) e =
      filter_same (length f.sites) 0 _ _
      (λ n low.
      let site = within f.sites n low in
      let z : n ≡ 0 + n = omega arith in
      let at : slice_get f.sites (0 + n) ≡ Some site.0 = ap (λ x. slice_get f.sites x) (sym z) ∙ site.1 in
      ap₂ (λ a b. fires a b (site_fresh f (j1 ∷ g) j (0 + n))) (value_same (is_begun h) i1 j1 e.1.0 (0 + n) site.0 at) (value_same true i j e.0 (0 + n) site.0 at)
      ∙ ap (λ b. fires (site_wire (λ (site : KSite). site.value) k i1.table (0 + n)) (site_wire (λ (site : KSite). site.value) k i.table (0 + n)) b) (fresh_same true i j refl e.0 (j1 ∷ g) (live_now f k N h g i1 j1 e.1) (0 + n) site.0 at))
      ∙ ap (λ c. filter (λ n. fires (site_wire (λ (site : KSite). site.value) k i1.table n) (site_wire (λ (site : KSite). site.value) k i.table n) (holds (site_wire (λ (site : KSite). site.fresh) k i.table n))) (listed c 0 (λ n. n))) (sym normal.site_count)

  -- the fault
  pub fault_same : (h : History Registers) (g : History Table) (begun : Bool) (i : Instant Registers) (j : Instant Table) → SameInstant f k N begun i j → instant_fault f g j ≡ wire_fault k (moment_of (memories_of k h) i) i.table
  fault_same h g begun i j same =
      sym
      (same_fault f k N main normal (old_moment f g nought j) (moment_of (memories_of k h) i)
      (mode_same i.kind ∙ ap (λ x. mode_as (old_mode x)) (sym same.kind)) (mode_instant j.kind) (state_in j.table) i.table same.moment same.instant same.wired same.says)

  -- what is demanded by `again`, where its wire has a value
  any_said : (kind : KernelMoment) (r : Registers) → in_flow kind.mode ≡ false → r ≡ turn k kind r → (us : List ℕ) (n : ℕ) → IsAny k us n → is_none (held r n) ≡ false → holds (held r n) ≡ list_any (λ u. holds (held r u)) us
  any_said km r instant wired _ _ (NoneOf n is) some = ap (λ x. holds x) (lit_is k km r wired tt n (B false) is)
  any_said km r instant wired _ _ (OneOf u) some = or_false (holds (held r u))
    where
      or_false : (b : Bool) → b ≡ (b || false)
      or_false true = refl
      or_false false = refl
  any_said km r instant wired _ _ (SomeOf u v n j us rest is) some =
      let e = wire_is k km r wired tt n (OpWire Or (u ∷ j ∷ [])) None is in
      let both = or_some (held r u) (held r j) (ap (λ x. is_none x) (sym e) ∙ some) in
      ap (λ x. holds x) e ∙ both.1 ∙ ap (λ b. holds (held r u) || b) (any_said km r instant wired (v ∷ us) j rest both.0)

  demands_same : (begun : Bool) (i : Instant Registers) (j : Instant Table) → SameInstant f k N begun i j → is_none (held i.table k.again) ≡ false → demands f (state_in j.table) ≡ holds (held i.table k.again)
  demands_same begun i j same some =
      ap (λ l. took_move f (state_in j.table) 0 l || list_any (λ a. holds (value_in (state_in j.table) a)) f.again) main.automata
      ∙ each f.again normal.again.0
      ∙ sym (any_said same.moment i.table same.instant same.wired (map N.w f.again) k.again normal.again.1 some)
    where
      each : (l : List ℕ) → AllByRecursion (λ a. IsOcc f a × (N.G a ≡ None)) l → list_any (λ a. holds (value_in (state_in j.table) a)) l ≡ list_any (λ u. holds (held i.table u)) (map N.w l)
      each [] all = refl
      each (a ∷ l) all = ap₂ (λ x y. holds x || y) (value_seen (state_in j.table) i.table same.says a all.0.0 all.0.1) (each l all.1)

  no_step : (b x y : Bool) → (b ≡ true → x ≡ y) → (b && x) ≡ (b && y)
  no_step true x y e = e refl
  no_step false x y e = refl

  -- a step is demanded in both, where nothing is missing
  pub asks_same : (h : History Registers) (g : History Table) (i : Instant Registers) (j : Instant Table) → Follow f k N (i ∷ h) (j ∷ g) → lacks k i ≡ false → asks (system_of f grades) (j ∷ g) ≡ asks (system_of_kernel k) (i ∷ h)
  asks_same h g i j e whole =
      ap (λ l. is_some_site l || (is_step j.kind && demands f (state_in j.table))) (fired_same (i ∷ h) (j ∷ g) e)
      ∙ ap (λ a. is_some_site (fired_after (system_of_kernel k) (i ∷ h)) || (is_step a && demands f (state_in j.table))) e.0.kind
      ∙ ap (λ a. is_some_site (fired_after (system_of_kernel k) (i ∷ h)) || a) (no_step (is_step i.kind) _ _ (λ st. demands_same (is_begun h) i j e.0 (has_again st)))
    where
      middle : (a b c d : Bool) → (a || (b && c) || d) ≡ false → b ≡ true → c ≡ false
      middle false true false d e q = refl
      middle false true true d e q = absurd cc
      middle false false c d e q = absurd cc
      middle true b c d e q = absurd cc

      has_again : is_step i.kind ≡ true → is_none (held i.table k.again) ≡ false
      has_again st = middle _ (is_step i.kind) (is_none (held i.table k.again)) _ whole st
