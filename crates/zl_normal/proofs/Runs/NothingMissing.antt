-- A run of a normal form doesn't end for want of a value.
use Rattle.std.specs.Prelude.{◌≡◌, ℕ, suc, ◌<◌, Bool, true, false, ◌&&◌, ◌||◌, if◌then◌else◌, is_some, is_none, nat_eq, List, [], ◌∷◌, map, slice_get, Option, Some, None}
use Rattle.std.specs.List.{AllByRecursion, list_any}
use Rattle.std.proofs.Common.{refl, sym, ap, ap₂, ◌∙◌, subst, ⊎_elim}
use Rattle.zl_value.specs.Operators.{answered}
use Rattle.zl_value.specs.Fraction.{Fraction}
use Rattle.zl_value.specs.Lists.{Has}
use Rattle.zl_value.specs.Times.{nought, is_same}
use Rattle.zl_value.specs.Loop.{Ends, Steps, Flows, next_after}
use Rattle.zl_value.specs.Instants.{Kind, Step, Left, Instant, History, is_step, steps_in, mark_of}
use Rattle.zl_value.specs.System.{is_demanded, unless_lacking}
use Rattle.zl_value.specs.Runs.{EndsInFlow, ByFault, ByLack, ByMove, IsPrefix, IsRun}
use Rattle.zl_value.specs.Script.{IsScriptFor}
use Rattle.zl_value.specs.declared.value.Fault.{Fault}
use Rattle.zl_value.specs.declared.value.Value.{Value}
use Rattle.zl_value.specs.declared.value.Value.TheVariants.{B, I, F}
use Rattle.zl_value.specs.declared.value.Ty.TheVariants.{Bool as BoolTy}
use Rattle.zl_value.specs.declared.script.Script.{Script}
use Rattle.zl_value.specs.declared.script.Mark.{Mark}
use Rattle.zl_value.specs.declared.script.Output.{Output}
use Rattle.zl_value.specs.declared.script.Ending.{Ending}
use Rattle.zl_value.specs.declared.script.Ending.TheVariants.{Bound, Horizon, Empty}
use Rattle.zl_value.specs.Correspondence.{Corresponds, PrefixBeside}
use Rattle.zl_meaning.specs.FlatForm.{FlatForm}
use Rattle.zl_meaning.specs.State.{Table, Node, AtPlace, AtValue, state_in}
use Rattle.zl_meaning.specs.History.{state_of}
use Rattle.zl_meaning.specs.Moment.{Moment, is_in_flow}
use Rattle.zl_meaning.specs.Occurrences.{branch, answer}
use Rattle.zl_meaning.specs.Equation.{equation}
use Rattle.zl_meaning.specs.Solves.{instant_fault, moment_of as form_moment}
use Rattle.zl_meaning.specs.System.{system_of}
use Rattle.zl_meaning.specs.Inputs.{input_types}
use Rattle.zl_meaning.specs.Run.{IsPrefix as IsFormPrefix}
use Rattle.zl_meaning.specs.Decided.{IsThere, HasOutputs, HasAgain}
use Rattle.zl_meaning.specs.Grades.{Grading}
use Rattle.zl_meaning.specs.Single.{IsSingle}
use Rattle.zl_meaning.specs.WellFormed.{IsAgain, IsWellFormed}
use Rattle.zl_meaning.specs.declared.occurrence.Form.{Form}
use Rattle.zl_meaning.specs.declared.occurrence.Form.TheVariants.{Lit, Read, Last, Op as Apply, If, Arrow, Pre, Result, Up, Fired, Step as AtSteps}
use Rattle.zl_meaning.specs.declared.occurrence.Occ.{Occ}
use Rattle.zl_meaning.proofs.OneTable.{solves_each}
use Rattle.zl_meaning.proofs.StraightLines.{answered-given}
use Rattle.zl_meaning.proofs.GradesKept.OfTypes.{IsOf}
use Rattle.zl_meaning.proofs.GradesKept.Typed.{IsTyped}
use Rattle.zl_meaning.proofs.GradesKept.TypedRuns.{prefix_typed}
use Rattle.zl_kernel.specs.KernelForm.{KernelForm}
use Rattle.zl_kernel.specs.Wires.{Registers, held, is_open, turn, Moment as KernelMoment}
use Rattle.zl_kernel.specs.Memories.{memories_of, memories_after, moved_if, moved_memory}
use Rattle.zl_kernel.specs.Missing.{is_active, lacks}
use Rattle.zl_kernel.specs.System.{system_of_kernel, moment_of}
use Rattle.zl_kernel.specs.declared.wire.Def.TheVariants.{Mem}
use Rattle.zl_kernel.specs.declared.memory.KMem.{KMem}
use Rattle.zl_kernel.specs.declared.site.KSite.{KSite}
use Rattle.zl_normal.specs.Wiring.{Wiring}
use Rattle.zl_normal.specs.FormWires.{IsOcc}
use Rattle.zl_normal.specs.SiteWires.{IsFresh}
use Rattle.zl_normal.specs.Interface.{AreOutputs}
use Rattle.zl_normal.specs.MainBlock.{IsMain}
use Rattle.zl_normal.specs.Evaluated.{HasGuardRanks, KeepsLasts}
use Rattle.zl_normal.specs.Starts.{KeepsFlows}
use Rattle.zl_normal.specs.Normal.{IsNormal}
use Rattle.zl_normal.specs.Laws.{same_sites}
use Rattle.zl_normal.proofs.Wires.Solved.{given_is, AreBools, wire_is, lit_is, any_is}
use Rattle.zl_normal.proofs.Values.Entries.{value_if}
use Rattle.zl_normal.proofs.Instants.Follows.{Follow, mapped, mode_instant}
use Rattle.zl_normal.proofs.Instants.Steps.{fault_same, within}
use Rattle.zl_normal.proofs.Runs.Corresponds.{Says, follows, some_course}
use Rattle.zl_normal.proofs.Flows.FlowLaw.{all_false, inside, flow_whole}
use Rattle.zl_normal.proofs.Runs.KeepsRuns.{law}

there : (o : Option Value) → is_some o ≡ true → is_none o ≡ false
there None e = absurd cc
there (Some v) e = refl

some_bool : (o : Option Value) → IsOf BoolTy o → is_some o ≡ true → (b : Bool) × (o ≡ Some (B b))
some_bool None of e = absurd cc
some_bool (Some (B b)) of e = (b, refl)
some_bool (Some (I b)) of e = absurd of
some_bool (Some (F b)) of e = absurd of

-- an `if` that has a value has a test
test_there : (t x y : Option Value) (v : Value) → branch t x y ≡ Some v → is_none t ≡ false
test_there None x y v e = absurd cc
test_there (Some t) x y v e = refl

step_kind : (kind : Kind) → is_step kind ≡ true → kind ≡ Step
step_kind Step e = refl
step_kind Left e = absurd cc

-- an end for want of a value
ends_empty : (script : Script) (time : Fraction) (mark : Mark) (fault : Option Fault) (missing demanded : Bool) (made : ℕ) → unless_lacking missing fault (next_after script time mark fault demanded made) ≡ Ends Empty → (fault ≡ None) × (missing ≡ true)
ends_empty script time mark None true demanded made e = (refl, refl)
ends_empty script time mark (Some x) true demanded made e = absurd cc
ends_empty script time mark (Some x) false demanded made e = absurd cc
ends_empty script time mark None false true made e = absurd (bound (nat_eq made script.steps) e)
  where
    bound : (b : Bool) → (if b then Ends Bound else Steps) ≡ Ends Empty → ⊥
    bound true e = absurd cc
    bound false e = absurd cc
ends_empty script time mark None false false made e = absurd (horizon (is_same time script.horizon) e)
  where
    horizon : (b : Bool) → (if b then Ends Horizon else Flows) ≡ Ends Empty → ⊥
    horizon true e = absurd cc
    horizon false e = absurd cc

module _ (f : FlatForm) (gr : Grading) (names : List (List ℕ)) (k : KernelForm) (N : Wiring) (script : Script) (main : IsMain f) (normal : IsNormal f gr.occs names k N) where
  -- the wire that is true at the first instant has a value
  fresh_of : (m : KernelMoment) (r : Registers) → r ≡ turn k m r → is_none (held m.memories N.first) ≡ false → is_none (held r N.fresh) ≡ false
  fresh_of m r wired some = ap (λ o. is_none o) (wire_is k m r wired tt N.fresh (Mem N.first) None normal.instants.fresh ∙ given_is (held m.memories N.first)) ∙ some

  fresh_there : (h : History Registers) (g : History Table) (i : Instant Registers) (j : Instant Table) → Follow f k N (i ∷ h) (j ∷ g) → IsPrefix (system_of_kernel k) script (i ∷ h) → is_none (held i.table N.fresh) ≡ false
  fresh_there [] g i j e step =
      let first = normal.instants.first.2 in
      fresh_of (moment_of (memories_of k []) i) i.table step.solves (ap (λ o. is_none o) (mapped f k N (λ (mem : KMem). mem.start) k.mems N.first first.mem first.is ∙ first.start_is))
  fresh_there (before ∷ h) [] i j e prefix = absurd e.1
  fresh_there (before ∷ h) (j0 ∷ g) i j e prefix =
      ⊎_elim
      (λ step. fresh_of (moment_of (memories_of k (before ∷ h)) i) i.table step.solves (ap (λ o. is_none o) (mapped f k N (λ (mem : KMem). held before.table mem.next) k.mems N.first normal.instants.first.2.mem normal.instants.first.2.is ∙ ap (λ n. held before.table n) normal.instants.first.2.next_is ∙ off)))
      (λ left.
      fresh_of (moment_of (memories_after k (before ∷ h) (left.flow nought) left.duration) i) i.table left.solves
      (ap (λ o. is_none o) (mapped f k N (moved_memory before.table (left.flow nought) left.duration) k.mems N.first normal.instants.first.2.mem normal.instants.first.2.is ∙ ap₂ (λ s w. moved_if s (left.flow nought) left.duration (held before.table w)) normal.instants.first.2.slope_is normal.instants.first.2.next_is ∙ off)))
      prefix.1
    where
      off : held before.table normal.instants.first.0 ≡ Some (B false)
      off = lit_is k e.1.0.moment before.table e.1.0.wired tt normal.instants.first.0 (B false) normal.instants.first.1

  -- what the form says of an instant
  record Solved (j : Instant Table) : Type 0 where
    m : Moment
    instant : is_in_flow m.mode ≡ false
    solves : (a : Node) → state_in j.table a ≡ equation f m (state_in j.table) a

  solved_at : (g : History Table) (j : Instant Table) (d : Fraction) → j.table ≡ (system_of f gr.occs).left g (λ s. record { table = j.table; fine = [] }) d j → Solved j
  solved_at g j d e = record { m = form_moment f g d j; instant = mode_instant j.kind; solves = solves_each f (form_moment f g d j) j.table e }

  solved_by : (g : History Table) (j : Instant Table) → IsFormPrefix f gr.occs script (j ∷ g) → Solved j
  solved_by [] j step = solved_at [] j nought step.solves
  solved_by (j0 ∷ g) j prefix = ⊎_elim (λ step. solved_at (j0 ∷ g) j nought step.solves) (λ left. solved_at (j0 ∷ g) j left.duration left.solves) prefix.1

  module _ (h : History Registers) (g : History Table) (i : Instant Registers) (j : Instant Table) (e : Follow f k N (i ∷ h) (j ∷ g)) (kernel_prefix : IsPrefix (system_of_kernel k) script (i ∷ h)) (prefix : IsFormPrefix f gr.occs script (j ∷ g)) where
    -- an active site is fresh or not
    marked_there : (arg n : ℕ) (occ : Occ) → slice_get f.occs arg ≡ Some occ → (form : Form) → occ.form ≡ form → IsFresh f k N form n → (v : Value) → state_in j.table (AtValue arg) ≡ Some v → is_none (held i.table n) ≡ false
    marked_there arg n occ at form q fresh v value = by form q fresh
      where
        unmarked : n ≡ N.fresh → is_none (held i.table n) ≡ false
        unmarked same = ap (λ x. is_none (held i.table x)) same ∙ fresh_there h g i j e kernel_prefix

        s : Solved j
        s = solved_by g j prefix

        apart : is_in_flow s.m.mode ≡ true → ⊥
        apart t = let z : false ≡ true = sym s.instant ∙ t in absurd (let u = z in cc)

        by : (form : Form) → occ.form ≡ form → IsFresh f k N form n → is_none (held i.table n) ≡ false
        by (Lit x) q fresh = unmarked fresh
        by (Read p) q fresh = unmarked fresh
        by (Last p) q fresh = unmarked fresh
        by (Apply op ks) q fresh = unmarked fresh
        by (Arrow x y) q fresh = unmarked fresh
        by (Pre x) q fresh = unmarked fresh
        by (Result x) q fresh = unmarked fresh
        by (Up u) q fresh = unmarked fresh
        by (Fired us) q fresh = unmarked fresh
        by AtSteps q fresh = unmarked fresh
        by (If c x y) q fresh =
            ⊎_elim
            (λ yes.
            ap (λ z. is_none (held i.table z)) yes.3
            ∙ ap (λ o. is_none o) (sym (e.0.says.values c yes.1 (ap (λ o. is_open (held i.table) o) yes.2)))
            ∙ test_there (state_in j.table (AtValue c)) (state_in j.table (AtValue x)) (state_in j.table (AtValue y)) v
            (sym (answered-given _) ∙ sym (value_if f main s.m (state_in j.table) s.solves (λ t. absurd (apart t)) arg occ at ∙ ap (λ o. answered (answer f s.m (state_in j.table) 0 o)) q) ∙ value))
            (λ other. unmarked other.1) fresh

    site_there : (n : ℕ) (wires : KSite) → slice_get k.sites n ≡ Some wires → (is_active i.table wires && is_none (held i.table wires.fresh)) ≡ false
    site_there n wires at = by (held i.table wires.value) refl
      where
        same_one : (x z : KSite) → Some x ≡ Some z → x ≡ z
        same_one x z q = cc

        by : (o : Option Value) → held i.table wires.value ≡ o → (is_some (held i.table wires.value) && is_none (held i.table wires.fresh)) ≡ false
        by None q = ap (λ o. is_some o && is_none (held i.table wires.fresh)) q
        by (Some v) q =
            let site = within f.sites n (subst (λ x. n < x) normal.instants.site_count (inside k.sites n wires at)) in
            let w = normal.instants.sites n site.0 site.1 in
            let twin : w.wires ≡ wires = same_one w.wires wires (sym w.is ∙ at) in
            let value = e.0.says.values site.0.arg (w.occ, w.argument) (ap (λ o. is_open (held i.table) o) w.guard) ∙ ap (λ x. held i.table x) (sym w.value) ∙ ap (λ (x : KSite). held i.table x.value) twin ∙ q in
            ap₂ (λ o b. is_some o && b) q (ap (λ (x : KSite). is_none (held i.table x.fresh)) (sym twin) ∙ marked_there site.0.arg w.wires.fresh w.occ w.argument w.occ.form refl w.fresh v value)

    -- each output has a value
    outs_there : (ps : List ℕ) (outs : List Output) → AreOutputs f names N ps outs → ((p : ℕ) → Has ps p → is_some (state_of j (AtPlace p)) ≡ true) → list_any (λ (out : Output). is_none (held i.table out.«from»)) outs ≡ false
    outs_there [] [] are has = refl
    outs_there [] (out ∷ outs) are has = absurd are
    outs_there (p ∷ ps) [] are has = absurd are
    outs_there (p ∷ ps) (out ∷ outs) are has =
        ap₂ (λ a b. a || b)
        (ap (λ n. is_none (held i.table n)) are.0.wire ∙ ap (λ o. is_none o) (sym (e.0.says.places p (are.0.place, are.0.is))) ∙ there _ (has p (record { index = 0; is = refl })))
        (outs_there ps outs are.1 (λ q at. has q (record { index = suc at.index; is = at.is })))

    -- and each occurrence of `again`
    bools_there : (l : List ℕ) → AllByRecursion (λ a. IsOcc f a × (N.G a ≡ None)) l → AllByRecursion (IsAgain f) l → IsTyped f (state_of j) → ((a : ℕ) → Has l a → IsThere (state_of j) a) → (bs : List Bool) × AreBools (held i.table) (map N.w l) bs
    bools_there [] all are typed has = ([], tt)
    bools_there (a ∷ l) all are typed has =
        let rest = bools_there l all.1 are.1 typed (λ b at. has b (record { index = suc at.index; is = at.is })) in
        let open_it = ap (λ o. is_open (held i.table) o) all.0.1 in
        let some = has a (record { index = 0; is = refl }) (e.0.says.used a all.0.0 ∙ open_it) in
        let b = some_bool (state_of j (AtValue a)) (subst (λ t. IsOf t (state_of j (AtValue a))) are.0.typed (typed (AtValue a) are.0.occ are.0.is)) some in
        (b.0 ∷ rest.0, (sym (e.0.says.values a all.0.0 open_it) ∙ b.1, rest.1))

    again_there : IsWellFormed f → IsTyped f (state_of j) → (j.kind ≡ Step → (a : ℕ) → Has f.again a → IsThere (state_of j) a) → (is_step i.kind && is_none (held i.table k.again)) ≡ false
    again_there formed typed has = by (is_step i.kind) refl
      where
        by : (b : Bool) → is_step i.kind ≡ b → (is_step i.kind && is_none (held i.table k.again)) ≡ false
        by false q = ap (λ b. b && is_none (held i.table k.again)) q
        by true q =
            let all = bools_there f.again normal.instants.again.0 formed.again typed (has (e.0.kind ∙ step_kind i.kind q)) in
            ap₂ (λ b o. b && is_none o) q (any_is k e.0.moment i.table e.0.wired tt (map N.w f.again) all.0 k.again normal.instants.again.1 all.1)

  module _ (single : IsSingle f) (ranks : HasGuardRanks f) (lasts : KeepsLasts f) (formed : IsWellFormed f) (keeps : KeepsFlows f gr) (suits : IsScriptFor (input_types f) script) (outputs : HasOutputs f gr.occs) (again : HasAgain f gr.occs) where
    whole_instant : (h : History Registers) (g : History Table) (i : Instant Registers) (j : Instant Table) → Follow f k N (i ∷ h) (j ∷ g) → IsPrefix (system_of_kernel k) script (i ∷ h) → IsFormPrefix f gr.occs script (j ∷ g) → instant_fault f g j ≡ None → lacks k i ≡ false
    whole_instant h g i j e kernel_prefix prefix none =
        ap₂ (λ a b. a || b)
        (ap₂ (λ a b. a || b) (outs_there h g i j e kernel_prefix prefix f.outs k.outs normal.outs (outputs script g j suits prefix none))
        (again_there h g i j e kernel_prefix prefix formed (prefix_typed f script suits formed ranks.entries gr.occs (j ∷ g) prefix).0 (again script g j suits prefix none)))
        (all_false _ k.sites (site_there h g i j e kernel_prefix prefix))

    in_flow : (h : History Registers) (g : History Table) (i : Instant Registers) (j : Instant Table) → Follow f k N (i ∷ h) (j ∷ g) → IsFormPrefix f gr.occs script (j ∷ g) → (ending : Ending) → EndsInFlow (system_of_kernel k) script h i ending → ending ≡ Empty → ⊥
    in_flow h g i j e prefix _ (ByFault y fault after has) empty = absurd cc
    in_flow h g i j e prefix _ (ByMove y d fault move has) empty = absurd cc
    in_flow h g i j e prefix _ (ByLack y after none lack) empty =
        let flow = some_course f gr.occs ranks g j in
        let whole = flow_whole f k N main single normal.instants gr normal.flows ranks formed keeps.grades keeps.moving keeps.starts keeps.derivatives script suits h g i j e prefix y after flow.0 flow.1 none in
        let z : true ≡ false = sym lack ∙ whole in absurd (let u = z in cc)

    pub lacks_nothing : (h : History Registers) (ending : Ending) → IsRun (system_of_kernel k) script h ending → ending ≡ Empty → ⊥
    lacks_nothing [] ending run empty = absurd run.instants
    lacks_nothing (i ∷ h) ending run empty = by b.history b.is b.corresponds
      where
        b : PrefixBeside (system_of_kernel k) (system_of f gr.occs) script same_sites (Says f k N) (i ∷ h)
        b = (law f gr names k N script main single ranks lasts normal formed keeps suits).prefixes (i ∷ h) run.instants

        by : (history : History Table) → IsFormPrefix f gr.occs script history → Corresponds (system_of_kernel k) (system_of f gr.occs) script same_sites (Says f k N) (i ∷ h) history → ⊥
        by [] prefix same = absurd same
        by (j ∷ g) prefix same =
            let e = follows f k N gr.occs script (i ∷ h) (j ∷ g) same in
            ⊎_elim
            (λ next.
            let s = ends_empty script i.time (mark_of h i) ((system_of_kernel k).fault h i) ((system_of_kernel k).lacks i) (is_demanded (system_of_kernel k) script (i ∷ h)) (steps_in (i ∷ h)) (next ∙ ap (λ x. Ends x) empty) in
            let z : true ≡ false = sym s.1 ∙ whole_instant h g i j e run.instants prefix (fault_same f k N main normal.instants gr.occs h g _ i j e.0 ∙ s.0) in
            absurd (let u = z in cc))
            (λ flow. in_flow h g i j e prefix ending flow empty) run.ends
