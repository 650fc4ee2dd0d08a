-- With ranks a kernel has at most one run with a script.
use Rattle.std.specs.Prelude.{◌≡◌, ℕ, List, ◌∷◌, pos}
use Rattle.std.proofs.Common.{refl, sym, ap, ◌∙◌}
use Rattle.zl_value.specs.Times.{nought}
use Rattle.zl_value.specs.Widths.{first_wide}
use Rattle.zl_value.specs.Instants.{Instant, History}
use Rattle.zl_value.specs.System.{Course, IsFlow, move_tests}
use Rattle.zl_value.specs.Runs.{StepAfter, LeftAfter}
use Rattle.zl_value.specs.OneRun.{AreAlike, Determines, HasOneRun}
use Rattle.zl_value.specs.declared.script.Script.{Script}
use Rattle.zl_value.proofs.FractionLaws.{IsReduced-whole}
use Rattle.zl_value.proofs.OneRun.{has_one_run}
use Rattle.zl_kernel.specs.KernelForm.{KernelForm}
use Rattle.zl_kernel.specs.Wires.{Registers, turn}
use Rattle.zl_kernel.specs.Faults.{fault_of}
use Rattle.zl_kernel.specs.Memories.{memories_of, memories_after, moved}
use Rattle.zl_kernel.specs.Missing.{flow_lacks}
use Rattle.zl_kernel.specs.Motions.{motions}
use Rattle.zl_kernel.specs.System.{moment_of, flow_moment, site_value, site_slope, system_of_kernel}
use Rattle.zl_kernel.specs.WireRanks.{AreWireRanks}
use Rattle.zl_kernel.proofs.OneSolution.{one_registers}

-- two instants of one kind, with the same inputs and events, read the same beside their memories
moment_same : (memories : Registers) (i j : Instant Registers) → i.kind ≡ j.kind → i.inputs ≡ j.inputs → i.fired ≡ j.fired → moment_of memories i ≡ moment_of memories j
moment_same memories i j e p q = rw (e, p, q) refl

module _ (k : KernelForm) (ranks : List ℕ) (are : AreWireRanks k ranks) (script : Script) where
  same_table : (memories : Registers) (i j : Instant Registers) → i.kind ≡ j.kind → i.inputs ≡ j.inputs → i.fired ≡ j.fired → i.table ≡ turn k (moment_of memories i) i.table → j.table ≡ turn k (moment_of memories j) j.table → i.table ≡ j.table
  same_table memories i j e p q a b =
      one_registers k (moment_of memories i) ranks are i.table j.table a (b ∙ ap (λ m. turn k m j.table) (sym (moment_same memories i j e p q)))

  step_same : (h : History Registers) (i j : Instant Registers) → StepAfter (system_of_kernel k) script h i → StepAfter (system_of_kernel k) script h j → i.inputs ≡ j.inputs → i.fired ≡ j.fired → i.table ≡ j.table
  step_same h i j p q same fired = same_table (memories_of k h) i j (p.kind ∙ sym q.kind) same fired p.solves q.solves

  module _ (h : History Registers) (i : Instant Registers) (y z : Course Registers) (p : IsFlow (system_of_kernel k) h i y) (q : IsFlow (system_of_kernel k) h i z) where
    start_same : y nought ≡ z nought
    start_same =
        one_registers k (flow_moment k i) ranks are (y nought) (z nought) (p nought (IsReduced-whole (pos 0)) refl) (q nought (IsReduced-whole (pos 0)) refl)

    left_same : (a b : Instant Registers) (l : LeftAfter (system_of_kernel k) script h i a) (m : LeftAfter (system_of_kernel k) script h i b) → l.flow ≡ y → m.flow ≡ z → l.duration ≡ m.duration → a.inputs ≡ b.inputs → a.fired ≡ b.fired → a.table ≡ b.table
    left_same a b l m is_y is_z same inputs fired =
        same_table (memories_after k (i ∷ h) (l.flow nought) l.duration) a b (l.kind ∙ sym m.kind) inputs fired l.solves
        (m.solves ∙ ap (λ w. turn k (moment_of (memories_after k (i ∷ h) w m.duration) b) b.table) (ap (λ c. c nought) is_z ∙ sym start_same ∙ ap (λ c. c nought) (sym is_y))
        ∙ ap (λ d. turn k (moment_of (memories_after k (i ∷ h) (l.flow nought) d) b) b.table) (sym same))

    flow_same : AreAlike (system_of_kernel k) script h i y z
    flow_same = record {
      fault = ap (λ r. fault_of k (flow_moment k i) r) start_same;
      lacks = ap (λ r. flow_lacks k i r) start_same;
      values = λ s a b n. ap (λ r. moved (site_value k i.table n) (site_slope k r n) s) start_same;
      moves = λ d. ap (λ r. first_wide (move_tests i.time d (motions i.table r k.mems))) start_same;
      left = left_same;
    }

  determines : Determines (system_of_kernel k) script
  determines = record { step = step_same; flow = λ h i y z p q. flow_same h i y z p.solves q.solves }

  pub one_run : HasOneRun (system_of_kernel k) script
  one_run = has_one_run (system_of_kernel k) script determines
