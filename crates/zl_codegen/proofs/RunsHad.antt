-- Each run of a kernel is one of its code.
use Rattle.std.specs.Prelude.{◌≡◌, ℕ, ◌<◌, ◌+◌, pos, false, List, [], ◌∷◌, ◌++◌, length, map}
use Rattle.std.proofs.Common.{refl, sym, ap, ◌∙◌, arith, subst, ⊎_elim, inl, inr}
use Rattle.zl_value.specs.Fraction.{Fraction}
use Rattle.zl_value.specs.Lists.{among}
use Rattle.zl_value.specs.Times.{nought}
use Rattle.zl_value.specs.Crossings.{SiteValues, Lasts}
use Rattle.zl_value.specs.Lines.{ending_line}
use Rattle.zl_value.specs.Widths.{first_wide}
use Rattle.zl_value.specs.Instants.{Step, Left, Instant, History}
use Rattle.zl_value.specs.System.{Course, System, move_tests}
use Rattle.zl_value.specs.Runs.{StepAfter, FlowAfter, LeftAfter, EndsInFlow, ByFault, ByLack, ByMove, IsPrefix, IsEnd, IsRun}
use Rattle.zl_value.specs.Script.{IsScriptFor}
use Rattle.zl_value.specs.Correspondence.{IsWhole, Corresponds, AreReached, StepBeside, LeftBeside, SameInstant, FlowBeside, Correspondence, KeepsRuns}
use Rattle.zl_value.specs.declared.script.Script.{Script}
use Rattle.zl_value.specs.declared.script.Ending.{Ending}
use Rattle.zl_value.specs.declared.script.Ending.TheVariants.{Horizon, Bound, Empty, Fault as EndsInFault}
use Rattle.zl_value.proofs.FractionLaws.{IsReduced-whole}
use Rattle.zl_value.proofs.Correspondence.{keeps_runs}
use Rattle.zl_kernel.specs.KernelForm.{KernelForm}
use Rattle.zl_kernel.specs.WellFormed.{IsWellFormed}
use Rattle.zl_kernel.specs.Wires.{Registers, turn}
use Rattle.zl_kernel.specs.Faults.{fault_of as kernel_fault}
use Rattle.zl_kernel.specs.Memories.{memories_of, moved_memory}
use Rattle.zl_kernel.specs.Missing.{flow_lacks as kernel_flow_lacks}
use Rattle.zl_kernel.specs.Motions.{motions as kernel_motions}
use Rattle.zl_kernel.specs.System.{mode_of, moment_of, flow_moment}
use Rattle.zl_kernel.specs.WireRanks.{AreWireRanks}
use Rattle.zl_kernel.proofs.OneSolution.{has_one_registers, one_registers}
use Rattle.zl_code.specs.CodeForm.{CodeForm}
use Rattle.zl_code.specs.Method.{Doing}
use Rattle.zl_code.specs.System.{events_of, instant_of, flow_of, mems_after, all_moved, flow_lacks, motions, fault_of as code_fault}
use Rattle.zl_codegen.specs.Orders.{IsOrder}
use Rattle.zl_codegen.specs.CodeOf.{site_of, code_of}
use Rattle.zl_codegen.specs.RunLaws.{HoldsSame, SaysSame, same_sites, input_types, HasRunsOf, CodeHasRuns}
use Rattle.zl_codegen.proofs.AnyOrder.{length_map}
use Rattle.zl_codegen.proofs.FlowsAgree.{AtOneInstant, rates, flow_fault_same, flow_lacks_same, moves_same, values_same, left_same}
use Rattle.zl_codegen.proofs.InstantsAgree.{A, B, Pair, same_memories, fired_same, asks_same, lacks_same, instant_same, typed_so_far}
use Rattle.zl_codegen.proofs.Listed.{get-listed}
use Rattle.zl_codegen.proofs.RunsKept.{at_one}
use Rattle.zl_codegen.proofs.RunTypes.{memories_held, at_step}
use Rattle.zl_codegen.proofs.WholeRuns.{same_next, same_lines}

module _ (k : KernelForm) (ranks list : List ℕ) (well : IsWellFormed k) (are : AreWireRanks k ranks) (order : IsOrder k list) (script : Script) where
  abbrev code : System Doing Doing
  code = A k ranks list well are order

  abbrev kernel : System Registers Registers
  kernel = B k ranks list well are order

  abbrev c : CodeForm
  c = code_of k list

  -- the same, said from the kernel's side
  abbrev Says : History Registers → History Doing → Type 0
  Says g h = SaysSame k list h g

  abbrev Beside : History Doing → History Registers → Type 0
  Beside h g = Pair k ranks list well are order script h g

  turned : (g : History Registers) (h : History Doing) → Corresponds kernel code script same_sites Says g h → Beside h g
  turned [] [] e = tt
  turned [] (i ∷ h) e = absurd e
  turned (j ∷ g) [] e = absurd e
  turned (j ∷ g) (i ∷ h) e = ((record { kind = sym e.0.0.kind; time = sym e.0.0.time; inputs = sym e.0.0.inputs; fired = sym e.0.0.fired }, e.0.1), turned g h e.1)

  abbrev Reached : History Registers → History Doing → Type 0
  Reached g h = AreReached kernel code script same_sites Says g h

  instants_had : (g : History Registers) (h : History Doing) (j : Instant Registers) (i : Instant Doing) → Reached (j ∷ g) (i ∷ h) → IsWhole (kernel.fault g j) (kernel.lacks j) → SameInstant kernel code script same_sites Says g h j i
  instants_had g h j i at whole =
      let e = turned (j ∷ g) (i ∷ h) at.corresponds in
      record {
        fault = sym e.0.1.1;
        whole = λ none. sym (lacks_same k ranks list well are order i j e.0.0.kind e.0.1.0) ∙ whole none;
        fired = λ none. sym (fired_same k ranks list well are order script (i ∷ h) (j ∷ g) e);
        demand = λ none. sym (asks_same k ranks list well are order script h g i j e);
      }

  module _ (suits : IsScriptFor (input_types k) script) where
    step_had : (g : History Registers) (h : History Doing) → Reached g h → (j : Instant Registers) → StepAfter kernel script g j → StepBeside kernel code script same_sites Says g h j
    step_had g h at j step =
        let t = typed_so_far k ranks list well are order script suits g at.first in
        let u = instant_of c Step (mems_after c h) j.inputs (events_of c j.fired) in
        record {
          table = u;
          solves = refl;
          says =
              subst (λ d. HoldsSame k list j.kind d j.table × (kernel_fault k (moment_of (memories_of k g) j) j.table ≡ code_fault d))
              (ap (λ kind. instant_of c kind (mems_after c h) j.inputs (events_of c j.fired)) step.kind)
              (instant_same k ranks list well are order j.kind (mems_after c h) j.inputs (events_of c j.fired) j.fired (memories_of k g) j.table
              (same_memories k ranks list well are order script h g (turned g h at.corresponds))
              (λ site low stepping. get-listed (length c.sites) 0 (λ n. among n j.fired) false site (subst (λ n. site < n) (sym (length_map site_of k.sites)) low) ∙ ap (λ n. among n j.fired) (let z : 0 + site ≡ site = omega arith in z))
              (at_step k ranks well are script suits g j t step).1 (memories_held k ranks well are g t) step.solves);
        }

    module _ (g : History Registers) (h : History Doing) (j : Instant Registers) (i : Instant Doing) (e : Beside (i ∷ h) (j ∷ g)) (prefix : IsPrefix kernel script (j ∷ g)) where
      one : AtOneInstant k list i j
      one = at_one k ranks list well are order script suits h g i j e prefix

      -- what the code does in the flow
      abbrev does : Doing
      does = flow_of c i.table.mems i.inputs

      abbrev flow : Course Doing
      flow s = flow_of c i.table.mems i.inputs

      module _ (z : Course Registers) (after : FlowAfter kernel script g j z) where
        rates_are : rates k ranks list well are order i j one ≡ z nought
        rates_are = one_registers k (flow_moment k j) ranks are (rates k ranks list well are order i j one) (z nought) (has_one_registers k (flow_moment k j) ranks are).solves (after.solves nought (IsReduced-whole (pos 0)) refl)

        fault_too : code_fault does ≡ kernel.flow_fault g j z
        fault_too = sym (flow_fault_same k ranks list well are order i j one does refl) ∙ ap (λ r. kernel_fault k (flow_moment k j) r) rates_are

        lacks_too : flow_lacks c i.table.regs i.table.mems does.regs ≡ kernel.flow_lacks j z
        lacks_too = sym (flow_lacks_same k ranks list well are order i j one does refl) ∙ ap (λ r. kernel_flow_lacks k j r) rates_are

        moves_too : (d : Fraction) → first_wide (move_tests i.time d (motions does.regs c.mems i.table.mems)) ≡ first_wide (move_tests j.time d (kernel_motions j.table (z nought) k.mems))
        moves_too d = sym (moves_same k ranks list well are order i j one does refl d) ∙ ap (λ r. first_wide (move_tests j.time d (kernel_motions j.table r k.mems))) rates_are

        values_too : kernel.flow_lacks j z ≡ false → kernel.values j z ≡ code.values i flow
        values_too whole = sym (ap (λ r. kernel.values j (λ s. r)) rates_are) ∙ values_same k ranks list well are order i j one does refl (lacks_too ∙ whole)

      left_had : (next : Instant Registers) (end : LeftAfter kernel script g j next) → LeftBeside kernel code script same_sites Says (j ∷ g) (i ∷ h) flow end.duration next
      left_had next end =
          let after = end.move.flow in
          record {
            table = instant_of c Left (all_moved does.regs end.duration c.mems i.table.mems) next.inputs [];
            solves = refl;
            says =
                left_same k ranks list well are order i j one does refl (lacks_too end.flow after ∙ end.move.whole) end.duration end.move.lasts.reduced (moves_too end.flow after end.duration ∙ end.fits) next.kind end.kind next.inputs (end.inputs ∙ one.inputs) next.fired (memories_of k (j ∷ g)) next.table
                (end.solves
                ∙ ap (λ r. turn k (record { mode = mode_of next.kind; inputs = next.inputs; fired = next.fired; memories = map (moved_memory j.table r end.duration) k.mems }) next.table) (sym (rates_are end.flow after)));
          }

      flow_had : (z : Course Registers) → FlowAfter kernel script g j z → IsWhole (kernel.flow_fault g j z) (kernel.flow_lacks j z) → FlowBeside kernel code script same_sites Says g h j i z
      flow_had z after whole = record {
        flow = flow;
        solves = λ s low later. refl;
        fault = fault_too z after;
        whole = λ none. lacks_too z after ∙ whole none;
        lasts = λ none d lasts.
            subst (λ n. Lasts script (code.values i flow) n j.time d) (sym (length_map site_of k.sites))
            (subst (λ (v : SiteValues). Lasts script v (length k.sites) j.time d) (values_too z after (whole none)) lasts);
        moves = λ none d lasts. moves_too z after d;
        left = λ next end is. left_had next end;
      }

      by_lack : (ending : Ending) → EndsInFlow kernel script g j ending → ending ≡ Empty → EndsInFlow code script h i Empty
      by_lack _ (ByFault z fault after has) empty = absurd cc
      by_lack _ (ByMove z d fault move has) empty = absurd cc
      by_lack _ (ByLack z after none lack) empty =
          ByLack flow (record { due = sym (same_next k ranks list well are order script h g i j e) ∙ after.due; solves = λ s low later. refl }) (fault_too z after ∙ none) (lacks_too z after ∙ lack)

    corresponds : Correspondence kernel code script same_sites Says
    corresponds = record {
      inputs = refl;
      nothing = refl;
      step = step_had;
      instant = instants_had;
      flow = λ g h j i z at after whole. flow_had g h j i (turned (j ∷ g) (i ∷ h) at.corresponds) at.first z after whole;
    }

    law : KeepsRuns kernel code script same_sites Says
    law = keeps_runs kernel code script same_sites Says corresponds

    ends_too : (g : History Registers) (h : History Doing) → Beside h g → IsPrefix kernel script g → IsEnd kernel script g Empty → IsEnd code script h Empty
    ends_too [] h e prefix ends = absurd ends
    ends_too (j ∷ g) [] e prefix ends = absurd e
    ends_too (j ∷ g) (i ∷ h) e prefix ends =
        ⊎_elim (λ due. inl (sym (same_next k ranks list well are order script h g i j e) ∙ due)) (λ in'. inr (by_lack g h j i e prefix Empty in' refl)) ends

    -- a run of the code beside one of the kernel
    record Twin (g : History Registers) (ending : Ending) : Type 0 where
      history : History Doing
      run : IsRun code script history ending
      beside : Beside history g

    twin : (g : History Registers) (ending : Ending) → IsRun kernel script g ending → Twin g ending
    twin g Empty run =
        let b = law.prefixes g run.instants in
        let e = turned g b.history b.corresponds in
        record { history = b.history; run = record { instants = b.is; ends = ends_too g b.history e run.instants run.ends }; beside = e }
    twin g Horizon run = let b = law.runs g Horizon run (λ e. cc) in record { history = b.history; run = b.is; beside = turned g b.history b.corresponds }
    twin g Bound run = let b = law.runs g Bound run (λ e. cc) in record { history = b.history; run = b.is; beside = turned g b.history b.corresponds }
    twin g (EndsInFault fault time mark) run = let b = law.runs g (EndsInFault fault time mark) run (λ e. cc) in record { history = b.history; run = b.is; beside = turned g b.history b.corresponds }

    pub had : HasRunsOf k list script
    had = record {
      runs = law;
      traces = λ g ending run. let t = twin g ending run in (t.history, t.run, sym (ap (λ l. l ++ ending_line ending) (same_lines k ranks list well are order script t.history g t.beside)));
    }

pub code_has_runs : CodeHasRuns
code_has_runs k ranks list well are order script suits = had k ranks list well are order script suits
