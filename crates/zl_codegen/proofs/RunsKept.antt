-- The code of an order keeps the runs of its kernel.
use Rattle.std.specs.Prelude.{◌≡◌, ℕ, pos, List, ◌∷◌, length, map}
use Rattle.std.proofs.Common.{refl, sym, ◌∙◌, subst}
use Rattle.zl_value.specs.Times.{nought}
use Rattle.zl_value.specs.Crossings.{SiteValues, Lasts}
use Rattle.zl_value.specs.Instants.{Instant, History}
use Rattle.zl_value.specs.System.{Course, System}
use Rattle.zl_value.specs.Runs.{FlowAfter, LeftAfter}
use Rattle.zl_value.specs.Script.{IsScriptFor}
use Rattle.zl_value.specs.Correspondence.{IsWhole, IsSoFar, LeftBeside, FlowBeside, Correspondence, KeepsRuns}
use Rattle.zl_value.specs.declared.script.Script.{Script}
use Rattle.zl_value.proofs.FractionLaws.{IsReduced-whole}
use Rattle.zl_value.proofs.Correspondence.{keeps_runs}
use Rattle.zl_kernel.specs.KernelForm.{KernelForm}
use Rattle.zl_kernel.specs.WellFormed.{IsWellFormed}
use Rattle.zl_kernel.specs.Wires.{Registers, Moment}
use Rattle.zl_kernel.specs.Faults.{fault_of as kernel_fault}
use Rattle.zl_kernel.specs.Memories.{memories_of, moved_memory}
use Rattle.zl_kernel.specs.System.{mode_of, flow_moment}
use Rattle.zl_kernel.specs.WireRanks.{AreWireRanks}
use Rattle.zl_kernel.proofs.OneSolution.{has_one_registers}
use Rattle.zl_code.specs.CodeForm.{CodeForm}
use Rattle.zl_code.specs.Method.{Doing}
use Rattle.zl_code.specs.System.{flow_of, fault_of as code_fault}
use Rattle.zl_codegen.specs.Orders.{IsOrder}
use Rattle.zl_codegen.specs.CodeOf.{site_of, code_of}
use Rattle.zl_codegen.specs.RunLaws.{HoldsSame, SaysSame, same_sites, input_types}
use Rattle.zl_codegen.proofs.AnyOrder.{length_map}
use Rattle.zl_codegen.proofs.FlowsAgree.{AtOneInstant, rates, flow_fault_same, flow_lacks_same, moves_same, values_same, left_same}
use Rattle.zl_codegen.proofs.InstantsAgree.{A, B, Pair, Reached, instants_same, step_beside}
use Rattle.zl_codegen.proofs.RunTypes.{prefix_typed}

module _ (k : KernelForm) (ranks list : List ℕ) (well : IsWellFormed k) (are : AreWireRanks k ranks) (order : IsOrder k list) (script : Script) (suits : IsScriptFor (input_types k) script) where
  abbrev code : System Doing Doing
  code = A k ranks list well are order

  abbrev kernel : System Registers Registers
  kernel = B k ranks list well are order

  abbrev c : CodeForm
  c = code_of k list

  pub at_one : (h : History Doing) (g : History Registers) (i : Instant Doing) (j : Instant Registers) → Pair k ranks list well are order script (i ∷ h) (j ∷ g) → IsSoFar kernel script (j ∷ g) → AtOneInstant k list i j
  at_one h g i j e prefix =
      let t = prefix_typed k ranks well are script suits (j ∷ g) prefix in
      record { inputs = e.0.0.inputs; time = e.0.0.time; same = e.0.1.0; types = t.0; input_types = t.1 }

  module _ (h : History Doing) (g : History Registers) (i : Instant Doing) (j : Instant Registers) (at : Reached k ranks list well are order script (i ∷ h) (j ∷ g)) where
    one : AtOneInstant k list i j
    one = at_one h g i j at.corresponds at.second

    abbrev flow : Course Registers
    flow s = rates k ranks list well are order i j one

    start_is : (y : Course Doing) → FlowAfter code script h i y → y nought ≡ flow_of c i.table.mems i.inputs
    start_is y after = after.solves nought (IsReduced-whole (pos 0)) refl

    left_beside : (next : Instant Doing) (end : LeftAfter code script h i next) → LeftBeside code kernel script same_sites (SaysSame k list) (i ∷ h) (j ∷ g) flow end.duration next
    left_beside next end =
        let moment : Moment = record { mode = mode_of next.kind; inputs = next.inputs; fired = next.fired; memories = map (moved_memory j.table (flow nought) end.duration) k.mems } in
        let sol = has_one_registers k moment ranks are in
        record {
          table = sol.registers;
          solves = sol.solves;
          says =
              subst (λ x. HoldsSame k list next.kind x sol.registers × (kernel_fault k (record { mode = mode_of next.kind; inputs = next.inputs; fired = next.fired; memories = memories_of k (j ∷ g) }) sol.registers ≡ code_fault x)) (sym end.solves)
              (left_same k ranks list well are order i j one (end.flow nought) (start_is end.flow end.move.flow) end.move.whole end.duration end.move.lasts.reduced end.fits next.kind end.kind next.inputs end.inputs next.fired (memories_of k (j ∷ g)) sol.registers sol.solves);
        }

    flow_beside : (y : Course Doing) → FlowAfter code script h i y → IsWhole (code.flow_fault h i y) (code.flow_lacks i y) → FlowBeside code kernel script same_sites (SaysSame k list) h g i j y
    flow_beside y after whole =
        let start = start_is y after in
        record {
          flow = flow;
          solves = λ s low later. (has_one_registers k (flow_moment k j) ranks are).solves;
          fault = flow_fault_same k ranks list well are order i j one (y nought) start;
          whole = λ none. flow_lacks_same k ranks list well are order i j one (y nought) start ∙ whole none;
          lasts = λ none d lasts.
              subst (λ n. Lasts script (kernel.values j flow) n i.time d) (length_map site_of k.sites)
              (subst (λ (v : SiteValues). Lasts script v (length c.sites) i.time d) (sym (values_same k ranks list well are order i j one (y nought) start (whole none))) lasts);
          moves = λ none d lasts. moves_same k ranks list well are order i j one (y nought) start d;
          left = λ next end is. left_beside next end;
        }

  corresponds : Correspondence code kernel script same_sites (SaysSame k list)
  corresponds = record {
    inputs = refl;
    nothing = refl;
    step = step_beside k ranks list well are order script suits;
    instant = instants_same k ranks list well are order script;
    flow = λ h g i j y at after whole. flow_beside h g i j at y after whole;
  }

  pub law : KeepsRuns code kernel script same_sites (SaysSame k list)
  law = keeps_runs code kernel script same_sites (SaysSame k list) corresponds
