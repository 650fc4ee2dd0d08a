-- The runs of a normal form correspond to those of its form, if its flows say what the form's flows say.
use Rattle.std.specs.Prelude.{◌≡◌, ℕ, zero, suc, ◌+◌, ◌<◌, Bool, true, false, not, ◌&&◌, ◌||◌, List, [], ◌∷◌, slice_get, length, pos, Option, Some, None}
use Rattle.std.specs.List.{list_all, list_any}
use Rattle.std.proofs.Common.{refl, sym, ap, ap₂, ◌∙◌, arith, subst}
use Rattle.zl_value.specs.Fraction.{Fraction, IsReduced, add}
use Rattle.zl_value.specs.Lists.{listed}
use Rattle.zl_value.specs.Times.{nought, unit, is_negative, is_below, is_above}
use Rattle.zl_value.specs.Crossings.{SiteValues, is_reached, is_kept, Lasts}
use Rattle.zl_value.specs.Stops.{is_stop}
use Rattle.zl_value.specs.Widths.{first_wide}
use Rattle.zl_value.specs.Instants.{Instant, History}
use Rattle.zl_value.specs.System.{Course, IsFlow, move_tests, fired_after}
use Rattle.zl_value.specs.Runs.{StepAfter, FlowAfter, LeftAfter}
use Rattle.zl_value.specs.Correspondence.{IsWhole, Corresponds, AreReached, StepBeside, LeftBeside, SameInstant as AreSame, FlowBeside, Correspondence}
use Rattle.zl_value.specs.declared.value.Value.{Value}
use Rattle.zl_value.specs.declared.value.Value.TheVariants.{B, I, F}
use Rattle.zl_value.specs.declared.script.Script.{Script}
use Rattle.zl_value.proofs.FractionLaws.{IsReduced-whole}
use Rattle.zl_value.proofs.FractionOrder.{below-zero, below_asym}
use Rattle.zl_meaning.specs.FlatForm.{FlatForm}
use Rattle.zl_meaning.specs.State.{Table, empty_table, state_in, AtControl, AtPlace, AtValue, Active}
use Rattle.zl_meaning.specs.Places.{moved}
use Rattle.zl_meaning.specs.Solves.{mode_of as old_mode, moment_of as old_moment}
use Rattle.zl_meaning.specs.Equation.{turn as old_turn}
use Rattle.zl_meaning.specs.Flow.{FlowTable, flow_moment as old_flow_moment}
use Rattle.zl_meaning.specs.Single.{IsSingle}
use Rattle.zl_meaning.proofs.OneTable.{some_table, solves_each}
use Rattle.zl_meaning.proofs.OneFine.{some_fine}
use Rattle.zl_meaning.specs.System.{system_of}
use Rattle.zl_meaning.specs.declared.place.Definer.TheVariants.{Der}
use Rattle.zl_meaning.specs.declared.place.DerArm.{DerArm}
use Rattle.zl_meaning.specs.declared.place.PlaceInfo.{PlaceInfo}
use Rattle.zl_kernel.specs.KernelForm.{KernelForm}
use Rattle.zl_kernel.specs.Wires.{Registers, held}
use Rattle.zl_kernel.specs.Memories.{memories_of, memories_after, moved as moved_by, moved_if, moved_memory}
use Rattle.zl_kernel.specs.System.{system_of_kernel}
use Rattle.zl_normal.specs.Wiring.{Wiring}
use Rattle.zl_normal.specs.KernelParts.{IsMemory}
use Rattle.zl_normal.specs.PlaceWires.{definer_of}
use Rattle.zl_normal.specs.MainBlock.{IsMain}
use Rattle.zl_normal.specs.Normal.{IsNormalAtInstants, IsNormalInFlows}
use Rattle.zl_normal.proofs.Instants.Follows.{is_begun, SameInstant, Follow, live_now, mapped, beside, Remember, LastsCalled, same_instant}
use Rattle.zl_normal.specs.Laws.{same_sites}
use Rattle.zl_normal.specs.Evaluated.{HasGuardRanks, KeepsLasts}
use Rattle.zl_normal.proofs.Values.Lasts.{lasts_called}
use Rattle.zl_normal.proofs.Instants.Steps.{fired_same, fault_same, asks_same, remember_step}
use Rattle.zl_normal.proofs.Values.Entries.{active}
use Rattle.zl_normal.proofs.Flows.Beginnings.{moves_same}
use Rattle.zl_normal.proofs.Flows.Motions.{motions_same}

-- tests on the same numbers
any_same : (n base : ℕ) (p q : ℕ → Bool) → ((j : ℕ) → j < n → p (base + j) ≡ q (base + j)) → list_any p (listed n base (λ x. x)) ≡ list_any q (listed n base (λ x. x))
any_same zero base p q e = refl
any_same (suc n) base p q e =
    let z : base + 0 ≡ base = omega arith in
    ap₂ (λ a b. a || b) (ap p (sym z) ∙ e 0 (omega arith) ∙ ap q z) (any_same n (suc base) p q (λ j low. let w : suc base + j ≡ base + suc j = omega arith in ap p w ∙ e (suc j) (omega arith) ∙ ap q (sym w)))

all_same : (n base : ℕ) (p q : ℕ → Bool) → ((j : ℕ) → j < n → p (base + j) ≡ q (base + j)) → list_all p (listed n base (λ x. x)) ≡ list_all q (listed n base (λ x. x))
all_same zero base p q e = refl
all_same (suc n) base p q e =
    let z : base + 0 ≡ base = omega arith in
    ap₂ (λ a b. a && b) (ap p (sym z) ∙ e 0 (omega arith) ∙ ap q z) (all_same n (suc base) p q (λ j low. let w : suc base + j ≡ base + suc j = omega arith in ap p w ∙ e (suc j) (omega arith) ∙ ap q (sym w)))

-- a flow lasts as long as one whose sites have the same values
lasts_same : (script : Script) (v u : SiteValues) (count : ℕ) (t d : Fraction) → ((s : Fraction) → IsReduced s → is_negative s ≡ false → (n : ℕ) → n < count → v s n ≡ u s n) → is_negative d ≡ false → is_negative nought ≡ false → IsReduced nought → Lasts script v count t d → Lasts script u count t d
lasts_same script v u count t d e later zero_is whole_is lasts = record {
  reduced = lasts.reduced;
  positive = lasts.positive;
  reached =
      ap (λ b. is_stop script (add t d) || b)
      (sym (any_same count 0 (is_reached v d) (is_reached u d) (λ j low. let z : 0 + j ≡ j = omega arith in ap₂ (λ a b. is_below a && is_above b) (e nought whole_is zero_is (0 + j) (omega (arith, low))) (e d lasts.reduced later (0 + j) (omega (arith, low))))))
      ∙ lasts.reached;
  clear = lasts.clear;
  first = λ s r l low.
      sym (all_same count 0 (is_kept v s) (is_kept u s) (λ j less. ap₂ (λ a b. not (is_below a) || is_below b) (e nought whole_is zero_is (0 + j) (omega (arith, less))) (e s r l (0 + j) (omega (arith, less)))))
      ∙ lasts.first s r l low;
}

-- a memory moves as a place does
moved_is : (x y : Option Value) (d : Fraction) → moved_by x y d ≡ moved x y d
moved_is (Some (F a)) (Some (F b)) d = refl
moved_is (Some (F a)) (Some (B b)) d = refl
moved_is (Some (F a)) (Some (I b)) d = refl
moved_is (Some (F a)) None d = refl
moved_is (Some (B a)) y d = refl
moved_is (Some (I a)) y d = refl
moved_is None y d = refl

-- a flow of the form
moment_table : (f : FlatForm) → HasGuardRanks f → (g : History Table) (j : Instant Table) (s : Fraction) → (t : Table) × (t ≡ old_turn f (old_flow_moment f g j s) t)
moment_table f ranks g j s = some_table f (old_flow_moment f g j s) ranks.entries

pub some_course : (f : FlatForm) (grades : List ℕ) → HasGuardRanks f → (g : History Table) (j : Instant Table) → (flow : Course FlowTable) × IsFlow (system_of f grades) g j flow
some_course f grades ranks g j =
    let fine = some_fine f ranks.entries (moment_table f ranks g j nought).0 (moment_table f ranks g j unit).0 in (
      (λ s. record { table = (moment_table f ranks g j s).0; fine = fine.0 }),
      λ s a b. ap₂ (λ t l. let x : FlowTable = record { table = t; fine = l } in x) (moment_table f ranks g j s).1 fine.1,
    )

module _ (f : FlatForm) (k : KernelForm) (N : Wiring) where
  -- what stands at the latest instants of the kernel's run and of the form's says the same
  abbrev pub Says : History Registers → History Table → Type 0
  Says (i ∷ h) (j ∷ g) = SameInstant f k N (is_begun h) i j
  Says _ _ = ⊥

  module _ (grades : List ℕ) (script : Script) where
    abbrev pub Beside : History Registers → History Table → Type 0
    Beside h g = Corresponds (system_of_kernel k) (system_of f grades) script same_sites Says h g

    pub follows : (h : History Registers) (g : History Table) → Beside h g → Follow f k N h g
    follows [] [] e = tt
    follows [] (j ∷ g) e = absurd e
    follows (i ∷ h) [] e = absurd e
    follows (i ∷ h) (j ∷ g) e = (e.0.1, follows h g e.1)

    abbrev pub Reached : History Registers → History Table → Type 0
    Reached h g = AreReached (system_of_kernel k) (system_of f grades) script same_sites Says h g

    -- the flow `y` of the kernel says what the flow `flow` of the form says: the same slope has its fault first, and where none
    -- has the sites have the same values
    pub record FlowSays (h : History Registers) (g : History Table) (i : Instant Registers) (j : Instant Table) (y : Course Registers) (flow : Course FlowTable) : Type 0 where
      pub fault : (system_of f grades).flow_fault g j flow ≡ (system_of_kernel k).flow_fault h i y
      pub values : (system_of_kernel k).flow_fault h i y ≡ None → (s : Fraction) → IsReduced s → is_negative s ≡ false → (n : ℕ) → n < length k.sites → (system_of_kernel k).values i y s n ≡ (system_of f grades).values j flow s n

    -- each flow of the kernel says what the form's flow says, where nothing is missing in it
    abbrev pub FlowLaw : Type 0
    FlowLaw = (h : History Registers) (g : History Table) (i : Instant Registers) (j : Instant Table) (y : Course Registers) → Reached (i ∷ h) (j ∷ g) → FlowAfter (system_of_kernel k) script h i y → IsWhole ((system_of_kernel k).flow_fault h i y) ((system_of_kernel k).flow_lacks i y) → (flow : Course FlowTable) → IsFlow (system_of f grades) g j flow → FlowSays h g i j y flow

    module _ (main : IsMain f) (single : IsSingle f) (normal : IsNormalAtInstants f k N) (moving : IsNormalInFlows f grades k N) (ranks : HasGuardRanks f) (count : length k.ins ≡ length f.ins) (flows : FlowLaw) (lasts : KeepsLasts f) where
      none_yet : (h : History Registers) → is_begun h ≡ false → fired_after (system_of_kernel k) h ≡ []
      none_yet [] q = refl
      none_yet (i ∷ h) q = absurd cc

      first_lasts : (h : History Registers) (i : Instant Registers) → StepAfter (system_of_kernel k) script h i → is_begun h ≡ false → LastsCalled f k N i.table
      first_lasts [] i step q = lasts_called f k N normal _ i.table step.solves lasts
      first_lasts (i0 ∷ h) i step q = absurd cc

      step_beside : (h : History Registers) (g : History Table) → Reached h g → (i : Instant Registers) → StepAfter (system_of_kernel k) script h i → StepBeside (system_of_kernel k) (system_of f grades) script same_sites Says h g i
      step_beside h g reached i step =
          let e = follows h g reached.corresponds in
          let same = same_instant f k N main normal ranks h g e i nought (memories_of k h) (λ q. step.fired ∙ none_yet h q) (remember_step f k N h _ (ap (λ x. old_mode x) step.kind)) step.solves (first_lasts h i step) in
          record { table = same.0; solves = same.1; says = same.2 }

      right_too : (h : History Registers) (i : Instant Registers) → IsWhole ((system_of_kernel k).fault h i) ((system_of_kernel k).lacks i) → (system_of_kernel k).fault h i ≡ None → (system_of_kernel k).lacks i ≡ false
      right_too h i whole q = whole q

      instants_same : (h : History Registers) (g : History Table) (i : Instant Registers) (j : Instant Table) → Reached (i ∷ h) (j ∷ g) → IsWhole ((system_of_kernel k).fault h i) ((system_of_kernel k).lacks i) → AreSame (system_of_kernel k) (system_of f grades) script same_sites Says h g i j
      instants_same h g i j reached whole =
          let e = follows (i ∷ h) (j ∷ g) reached.corresponds in
          record {
            fault = fault_same f k N main normal grades h g (is_begun h) i j e.0;
            whole = λ q. refl;
            fired = λ q. fired_same f k N main normal grades (i ∷ h) (j ∷ g) e;
            demand = λ q. asks_same f k N main normal grades h g i j e (right_too h i whole q);
          }

      -- memories after a flow
      remember_left : (h : History Registers) (g : History Table) (i : Instant Registers) (j : Instant Table) (y : Registers) (d : Fraction) (next : Instant Registers) → ((p : ℕ) (place : PlaceInfo) (b a n slope : ℕ) (arms : List DerArm) (start : Option Value) → slice_get f.places p ≡ Some place → definer_of place.definers ≡ Some (Der b a arms) → IsMemory k n start (N.P p) (Some slope) → moved (held i.table (N.P p)) (held y slope) d ≡ moved (state_in j.table (AtPlace p)) (state_in j.table (AtValue a)) d) → Remember f k N (i ∷ h) (old_moment f (j ∷ g) d (beside f k N next empty_table)) (memories_after k (i ∷ h) y d)
      remember_left h g i j y d next moves = record {
        still = λ n start at is.
            mapped f k N (moved_memory i.table y d) k.mems n is.mem is.is
            ∙ ap₂ (λ s w. moved_if s y d (held i.table w)) is.slope_is is.next_is;
        moves = λ p place b a n slope arms start at definer is left.
            mapped f k N (moved_memory i.table y d) k.mems n is.mem is.is
            ∙ ap₂ (λ s w. moved_if s y d (held i.table w)) is.slope_is is.next_is
            ∙ moved_is (held i.table (N.P p)) (held y slope) d
            ∙ moves p place b a n slope arms start at definer is;
      }

      left_beside : (h : History Registers) (g : History Table) (i : Instant Registers) (j : Instant Table) (y : Course Registers) → Reached (i ∷ h) (j ∷ g) → FlowAfter (system_of_kernel k) script h i y → (w : Course FlowTable) (next : Instant Registers) (end : LeftAfter (system_of_kernel k) script h i next) → end.flow ≡ y → LeftBeside (system_of_kernel k) (system_of f grades) script same_sites Says (i ∷ h) (j ∷ g) w end.duration next
      left_beside h g i j y reached after w next end is =
          let e = follows (i ∷ h) (j ∷ g) reached.corresponds in
          let solved = after.solves nought (IsReduced-whole (pos 0)) refl in
          let same = same_instant f k N main normal ranks (i ∷ h) (j ∷ g) e next end.duration (memories_after k (i ∷ h) (end.flow nought) end.duration) (λ q. absurd (apart q))
          (remember_left h g i j (end.flow nought) end.duration next (λ p place b a n slope arms start at definer mem. ap (λ c. moved (held i.table (N.P p)) (held (c nought) slope) end.duration) is ∙ moves_same f k N main normal grades moving ranks h g i j e (y nought) solved end.duration p place b a n slope arms start at definer mem))
          end.solves (λ q. absurd (apart q)) in
          record { table = same.0; solves = same.1; says = same.2 }
        where
          apart : true ≡ false → ⊥
          apart q = absurd cc

      -- the main block is active in it
      running : (h : History Registers) (g : History Table) (i : Instant Registers) (j : Instant Table) → Follow f k N (i ∷ h) (j ∷ g) → (flow : Course FlowTable) → IsFlow (system_of f grades) g j flow → state_in (flow nought).table (AtControl 0) ≡ Active
      running h g i j e flow solves =
          let m = old_flow_moment f g j nought in
          active f main m (state_in (flow nought).table) (solves_each f m (flow nought).table (ap (λ (t : FlowTable). t.table) (solves nought (IsReduced-whole (pos 0)) refl))) (λ q. live_now f k N h g i j e)

      flow_beside : (h : History Registers) (g : History Table) (i : Instant Registers) (j : Instant Table) (y : Course Registers) → Reached (i ∷ h) (j ∷ g) → FlowAfter (system_of_kernel k) script h i y → IsWhole ((system_of_kernel k).flow_fault h i y) ((system_of_kernel k).flow_lacks i y) → FlowBeside (system_of_kernel k) (system_of f grades) script same_sites Says h g i j y
      flow_beside h g i j y reached after whole =
          let e = follows (i ∷ h) (j ∷ g) reached.corresponds in
          let some = some_course f grades ranks g j in
          let says = flows h g i j y reached after whole some.0 some.1 in
          let solved = after.solves nought (IsReduced-whole (pos 0)) refl in
          record {
            flow = some.0;
            solves = some.1;
            fault = says.fault;
            whole = λ q. refl;
            lasts = λ none d lasts.
                subst (λ c. Lasts script ((system_of f grades).values j some.0) c i.time d) normal.site_count
                (lasts_same script ((system_of_kernel k).values i y) ((system_of f grades).values j some.0) (length k.sites) i.time d (says.values none) (sym (below-zero d) ∙ below_asym nought d lasts.positive) refl (IsReduced-whole (pos 0)) lasts);
            moves = λ none d lasts.
                ap₂ (λ t ms. first_wide (move_tests t d ms)) e.0.time
                (motions_same f k N main single normal grades moving h g i j e (y nought) solved ranks (state_in (some.0 nought).table) (running h g i j e some.0 some.1));
            left = λ next end is. left_beside h g i j y reached after some.0 next end is;
          }

      -- the runs correspond
      pub corresponds : Correspondence (system_of_kernel k) (system_of f grades) script same_sites Says
      corresponds = record {
        inputs = sym count;
        nothing = refl;
        step = step_beside;
        instant = instants_same;
        flow = flow_beside;
      }
