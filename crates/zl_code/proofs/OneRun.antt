-- A code has at most one run with a script: an instant's method does one thing, and so does a flow's.
use Rattle.std.specs.Prelude.{◌≡◌, ℕ, pos, false, List, [], ◌∷◌}
use Rattle.std.proofs.Common.{refl, sym, ap, ap₂, ◌∙◌}
use Rattle.zl_value.specs.Fraction.{Fraction}
use Rattle.zl_value.specs.Times.{nought}
use Rattle.zl_value.specs.Widths.{first_wide}
use Rattle.zl_value.specs.Instants.{Step, Left, Instant, History}
use Rattle.zl_value.specs.System.{Course, IsFlow, move_tests}
use Rattle.zl_value.specs.Runs.{StepAfter, LeftAfter}
use Rattle.zl_value.specs.OneRun.{AreAlike, Determines}
use Rattle.zl_value.specs.declared.script.Script.{Script}
use Rattle.zl_value.proofs.FractionLaws.{IsReduced-whole}
use Rattle.zl_value.proofs.OneRun.{has_one_run}
use Rattle.zl_code.specs.CodeForm.{CodeForm}
use Rattle.zl_code.specs.Method.{Doing}
use Rattle.zl_code.specs.System.{events_of, instant_of, mems_after, all_moved, fault_of, flow_lacks, site_value, site_slope, moved_value, motions, system_of}
use Rattle.zl_code.specs.Laws.{HasOneRun}

module _ (c : CodeForm) (script : Script) where
  step_same : (h : History Doing) (i j : Instant Doing) → StepAfter (system_of c) script h i → StepAfter (system_of c) script h j → i.inputs ≡ j.inputs → i.fired ≡ j.fired → i.table ≡ j.table
  step_same h i j p q a b =
      p.solves ∙ ap₂ (λ u v. instant_of c Step (mems_after c h) u (events_of c v)) a b ∙ sym q.solves

  module _ (h : History Doing) (i : Instant Doing) (y z : Course Doing) (p : IsFlow (system_of c) h i y) (q : IsFlow (system_of c) h i z) where
    same : y nought ≡ z nought
    same = p nought (IsReduced-whole (pos 0)) refl ∙ sym (q nought (IsReduced-whole (pos 0)) refl)

    left_same : (a b : Instant Doing) (u : LeftAfter (system_of c) script h i a) (v : LeftAfter (system_of c) script h i b) → u.flow ≡ y → v.flow ≡ z → u.duration ≡ v.duration → a.inputs ≡ b.inputs → a.fired ≡ b.fired → a.table ≡ b.table
    left_same a b u v s t d e f =
        let F : Doing → Fraction → Doing = λ w x. instant_of c Left (all_moved w.regs x c.mems i.table.mems) a.inputs [] in
        let now : u.flow nought ≡ v.flow nought = ap (λ (w : Course Doing). w nought) s ∙ same ∙ sym (ap (λ (w : Course Doing). w nought) t) in
        u.solves ∙ ap₂ F now d
        ∙ ap (λ x. instant_of c Left (all_moved (v.flow nought).regs v.duration c.mems i.table.mems) x []) e
        ∙ sym v.solves

    alike : AreAlike (system_of c) script h i y z
    alike = record {
      fault = ap (λ w. fault_of w) same;
      lacks = ap (λ (w : Doing). flow_lacks c i.table.regs i.table.mems w.regs) same;
      values = λ s r l n. ap (λ (w : Doing). moved_value s (site_value c i.table.regs n) (site_slope c w.regs n)) same;
      moves = λ d. ap (λ (w : Doing). first_wide (move_tests i.time d (motions w.regs c.mems i.table.mems))) same;
      left = left_same;
    }

  determines : Determines (system_of c) script
  determines = record { step = step_same; flow = λ h i y z p q. alike h i y z p.solves q.solves }

pub one_run : HasOneRun
one_run c script = has_one_run (system_of c) script (determines c script)
