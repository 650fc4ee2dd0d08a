-- Each run of a code is one of its kernel, also one that ends for want of a value, and the same is printed of both.
use Rattle.std.specs.Prelude.{◌≡◌, ℕ, suc, ◌+◌, pos, ◌&&◌, ◌||◌, List, [], ◌∷◌, ◌++◌, slice_get, is_some, Option, Some, None}
use Rattle.std.specs.List.{filter_map}
use Rattle.std.specs.Option.{option_map}
use Rattle.std.proofs.Common.{refl, ap, ap₂, ◌∙◌, ⊎_elim, inl, inr}
use Rattle.zl_value.specs.Fraction.{Fraction}
use Rattle.zl_value.specs.Times.{nought, is_same}
use Rattle.zl_value.specs.Stops.{line_for}
use Rattle.zl_value.specs.Lines.{Shown, instant_line, ending_line}
use Rattle.zl_value.specs.Loop.{next_after}
use Rattle.zl_value.specs.Instants.{is_step, one_if, Instant, History, steps_in, steps_at, mark_of, mark_by}
use Rattle.zl_value.specs.System.{System, asks, is_demanded, unless_lacking, next}
use Rattle.zl_value.specs.Runs.{EndsInFlow, ByFault, ByLack, ByMove, IsPrefix, IsEnd, IsRun}
use Rattle.zl_value.specs.Script.{IsScriptFor}
use Rattle.zl_value.specs.Traces.{line_of, if_right, lines}
use Rattle.zl_value.specs.declared.script.Script.{Script}
use Rattle.zl_value.specs.declared.script.Output.{Output}
use Rattle.zl_value.specs.declared.script.Ending.{Ending}
use Rattle.zl_value.specs.declared.script.Ending.TheVariants.{Horizon, Bound, Empty, Fault as EndsInFault}
use Rattle.zl_value.proofs.FractionLaws.{IsReduced-whole}
use Rattle.zl_kernel.specs.KernelForm.{KernelForm}
use Rattle.zl_kernel.specs.WellFormed.{IsWellFormed}
use Rattle.zl_kernel.specs.Wires.{Registers, held}
use Rattle.zl_kernel.specs.Shown.{shown as kernel_shown, outputs as kernel_outputs}
use Rattle.zl_kernel.specs.System.{flow_moment}
use Rattle.zl_kernel.specs.WireRanks.{AreWireRanks}
use Rattle.zl_kernel.proofs.OneSolution.{has_one_registers}
use Rattle.zl_code.specs.Method.{Cells, cell, Doing}
use Rattle.zl_code.specs.Trace.{shown, outputs}
use Rattle.zl_codegen.specs.CodeOf.{code_of}
use Rattle.zl_codegen.specs.Orders.{IsOrder}
use Rattle.zl_codegen.specs.RunLaws.{input_types, KeepsRunsOf, CodeKeepsRuns}
use Rattle.zl_codegen.proofs.InstantsAgree.{A, B, Pair, out_is, lacks_same, asks_same}
use Rattle.zl_codegen.proofs.FlowsAgree.{rates, flow_fault_same, flow_lacks_same}
use Rattle.zl_codegen.proofs.RunsKept.{at_one, law}

shown_same : (regs : Cells) (r : Registers) (outs : List Output) → ((n : ℕ) (out : Output) → slice_get outs n ≡ Some out → held r out.«from» ≡ cell regs out.«from») → filter_map (kernel_shown r) outs ≡ filter_map (shown regs) outs
shown_same regs r [] e = refl
shown_same regs r (out ∷ outs) e =
    ap₂ (λ (o : Option Shown) l. joined o l)
    (ap (λ v. option_map (λ w. let x : Shown = record { name = out.name; value = w } in x) v) (e 0 out refl))
    (shown_same regs r outs (λ n o at. e (suc n) o at))
  where
    joined : Option Shown → List Shown → List Shown
    joined None l = l
    joined (Some x) l = x ∷ l

module _ (k : KernelForm) (ranks list : List ℕ) (well : IsWellFormed k) (are : AreWireRanks k ranks) (order : IsOrder k list) (script : Script) where
  abbrev code : System Doing Doing
  code = A k ranks list well are order

  abbrev kernel : System Registers Registers
  kernel = B k ranks list well are order

  abbrev Beside : History Doing → History Registers → Type 0
  Beside h g = Pair k ranks list well are order script h g

  same_steps : (h : History Doing) (g : History Registers) → Beside h g → steps_in g ≡ steps_in h
  same_steps [] [] e = refl
  same_steps [] (j ∷ g) e = absurd e
  same_steps (i ∷ h) [] e = absurd e
  same_steps (i ∷ h) (j ∷ g) e = ap₂ (λ a b. one_if (is_step a) + b) e.0.0.kind (same_steps h g e.1)

  same_steps_at : (t : Fraction) (h : History Doing) (g : History Registers) → Beside h g → steps_at t g ≡ steps_at t h
  same_steps_at t [] [] e = refl
  same_steps_at t [] (j ∷ g) e = absurd e
  same_steps_at t (i ∷ h) [] e = absurd e
  same_steps_at t (i ∷ h) (j ∷ g) e =
      ap₂ (λ a b. one_if (is_step a && is_same b t) + steps_at t g) e.0.0.kind e.0.0.time
      ∙ ap (λ n. one_if (is_step i.kind && is_same i.time t) + n) (same_steps_at t h g e.1)

  module _ (h : History Doing) (g : History Registers) (i : Instant Doing) (j : Instant Registers) (e : Beside (i ∷ h) (j ∷ g)) where
    same_mark : mark_of g j ≡ mark_of h i
    same_mark = ap₂ (λ a t. mark_by a (steps_at t g)) e.0.0.kind e.0.0.time ∙ ap (λ n. mark_by i.kind n) (same_steps_at i.time h g e.1)

    same_lacks : kernel.lacks j ≡ code.lacks i
    same_lacks = lacks_same k ranks list well are order i j e.0.0.kind e.0.1.0

    same_demanded : is_demanded kernel script (j ∷ g) ≡ is_demanded code script (i ∷ h)
    same_demanded =
        ap₂ (λ a t. a || is_some (line_for script t (steps_at t (j ∷ g)))) (asks_same k ranks list well are order script h g i j e) e.0.0.time
        ∙ ap (λ n. asks code (i ∷ h) || is_some (line_for script i.time n)) (same_steps_at i.time (i ∷ h) (j ∷ g) e)

    -- what follows is the same
    pub same_next : next kernel script (j ∷ g) ≡ next code script (i ∷ h)
    same_next =
        ap₂ (λ l f. unless_lacking l f (next_after script j.time (mark_of g j) f (is_demanded kernel script (j ∷ g)) (steps_in (j ∷ g)))) same_lacks e.0.1.1
        ∙ ap₂ (λ t m. unless_lacking (code.lacks i) (code.fault h i) (next_after script t m (code.fault h i) (is_demanded kernel script (j ∷ g)) (steps_in (j ∷ g)))) e.0.0.time same_mark
        ∙ ap₂ (λ d n. unless_lacking (code.lacks i) (code.fault h i) (next_after script i.time (mark_of h i) (code.fault h i) d n)) same_demanded (same_steps (i ∷ h) (j ∷ g) e)

    same_line : if_right (kernel.fault g j) (kernel.lacks j) (line_of (kernel_outputs k) g j) ≡ if_right (code.fault h i) (code.lacks i) (line_of (outputs (code_of k list)) h i)
    same_line =
        ap₂ (λ f l. if_right f l (line_of (kernel_outputs k) g j)) e.0.1.1 same_lacks
        ∙ ap₂ (λ t m. if_right (code.fault h i) (code.lacks i) (instant_line t m (kernel_outputs k j.table))) e.0.0.time same_mark
        ∙ ap (λ l. if_right (code.fault h i) (code.lacks i) (instant_line i.time (mark_of h i) l)) (shown_same i.table.regs j.table k.outs (out_is k ranks list well are order i.kind i.table j.table e.0.1.0))

  -- the same is printed
  pub same_lines : (h : History Doing) (g : History Registers) → Beside h g → lines kernel.fault kernel.lacks (kernel_outputs k) g ≡ lines code.fault code.lacks (outputs (code_of k list)) h
  same_lines [] [] e = refl
  same_lines [] (j ∷ g) e = absurd e
  same_lines (i ∷ h) [] e = absurd e
  same_lines (i ∷ h) (j ∷ g) e = ap₂ (λ a b. a ++ b) (same_lines h g e.1) (same_line h g i j e)

  module _ (suits : IsScriptFor (input_types k) script) where
    by_lack : (h : History Doing) (g : History Registers) (i : Instant Doing) (j : Instant Registers) → Beside (i ∷ h) (j ∷ g) → IsPrefix kernel script (j ∷ g) → (ending : Ending) → EndsInFlow code script h i ending → ending ≡ Empty → EndsInFlow kernel script g j Empty
    by_lack h g i j e prefix _ (ByFault y fault after has) empty = absurd cc
    by_lack h g i j e prefix _ (ByMove y d fault move has) empty = absurd cc
    by_lack h g i j e prefix _ (ByLack y after none lack) empty =
        let one = at_one k ranks list well are order script suits h g i j e prefix in
        let start = after.solves nought (IsReduced-whole (pos 0)) refl in
        ByLack (λ s. rates k ranks list well are order i j one)
        (record { due = same_next h g i j e ∙ after.due; solves = λ s low later. (has_one_registers k (flow_moment k j) ranks are).solves })
        (flow_fault_same k ranks list well are order i j one (y nought) start ∙ none) (flow_lacks_same k ranks list well are order i j one (y nought) start ∙ lack)

    ends_too : (h : History Doing) (g : History Registers) → Beside h g → IsPrefix kernel script g → IsEnd code script h Empty → IsEnd kernel script g Empty
    ends_too [] g e prefix ends = absurd ends
    ends_too (i ∷ h) [] e prefix ends = absurd e
    ends_too (i ∷ h) (j ∷ g) e prefix ends = ⊎_elim (λ due. inl (same_next h g i j e ∙ due)) (λ flow. inr (by_lack h g i j e prefix Empty flow refl)) ends

    -- a run of the kernel beside one of the code
    record Twin (h : History Doing) (ending : Ending) : Type 0 where
      history : History Registers
      run : IsRun kernel script history ending
      beside : Beside h history

    twin : (h : History Doing) (ending : Ending) → IsRun code script h ending → Twin h ending
    twin h Empty run =
        let b = (law k ranks list well are order script suits).prefixes h run.instants in
        record { history = b.history; run = record { instants = b.is; ends = ends_too h b.history b.corresponds b.is run.ends }; beside = b.corresponds }
    twin h Horizon run = let b = (law k ranks list well are order script suits).runs h Horizon run (λ e. cc) in record { history = b.history; run = b.is; beside = b.corresponds }
    twin h Bound run = let b = (law k ranks list well are order script suits).runs h Bound run (λ e. cc) in record { history = b.history; run = b.is; beside = b.corresponds }
    twin h (EndsInFault fault time mark) run = let b = (law k ranks list well are order script suits).runs h (EndsInFault fault time mark) run (λ e. cc) in record { history = b.history; run = b.is; beside = b.corresponds }

    pub kept : KeepsRunsOf k list script
    kept = record {
      runs = law k ranks list well are order script suits;
      traces = λ h ending run. let t = twin h ending run in (t.history, t.run, ap (λ l. l ++ ending_line ending) (same_lines h t.history t.beside));
    }

pub code_keeps_runs : CodeKeepsRuns
code_keeps_runs k ranks list well are order script suits = kept k ranks list well are order script suits
