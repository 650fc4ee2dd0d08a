-- A pass keeps runs where the steps and flows of its result correspond to those of its argument.
use Rattle.std.specs.Prelude.{◌≡◌, ℕ, nat_eq, Bool, true, false, if◌then◌else◌, List, [], ◌∷◌, Option, Some, None}
use Rattle.std.proofs.Common.{refl, ap, ◌∙◌, ⊎_elim}
use Rattle.zl_value.specs.Fraction.{Fraction}
use Rattle.zl_value.specs.Loop.{Ends, Steps, Flows, next_after}
use Rattle.zl_value.specs.Instants.{steps_in, mark_of}
use Rattle.zl_value.specs.System.{is_demanded}
use Rattle.zl_value.specs.Times.{is_same}
use Rattle.zl_value.specs.Runs.{EndsInFlow, ByFault, ByLack, ByMove}
use Rattle.zl_value.specs.Script.{IsScriptFor}
use Rattle.zl_value.specs.Correspondence.{Correspondence, Corresponds}
use Rattle.zl_value.specs.Laws.{Relates}
use Rattle.zl_value.specs.declared.value.Fault.{Fault}
use Rattle.zl_value.specs.declared.script.Mark.{Mark}
use Rattle.zl_value.specs.declared.script.Script.{Script}
use Rattle.zl_value.specs.declared.script.Ending.{Ending}
use Rattle.zl_value.specs.declared.script.Ending.TheVariants.{Horizon, Bound, Empty}
use Rattle.zl_value.proofs.Correspondence.{keeps_runs}
use Rattle.zl_meaning.specs.FlatForm.{FlatForm}
use Rattle.zl_meaning.specs.History.{Instant, History}
use Rattle.zl_meaning.specs.Solves.{instant_fault}
use Rattle.zl_meaning.specs.System.{system_of}
use Rattle.zl_meaning.specs.Run.{IsPrefix, IsRun}
use Rattle.zl_meaning.specs.Inputs.{input_types}
use Rattle.zl_meaning.specs.KeepsRuns.{old_sites, AreSeenAs, HaveOneFault, KeepsRuns}
use Rattle.zl_meaning.specs.Laws.{SeesPlaces}

-- a run goes on, or ends by a fault, the bound or the horizon
not_empty : (script : Script) (time : Fraction) (mark : Mark) (fault : Option Fault) (demanded : Bool) (made : ℕ) → next_after script time mark fault demanded made ≡ Ends Empty → ⊥
not_empty script time mark (Some fault) demanded made e = cc
not_empty script time mark None true made e = bound (nat_eq made script.steps) e
  where
    bound : (b : Bool) → (if b then Ends Bound else Steps) ≡ Ends Empty → ⊥
    bound true e = cc
    bound false e = cc
not_empty script time mark None false made e = horizon (is_same time script.horizon) e
  where
    horizon : (b : Bool) → (if b then Ends Horizon else Flows) ≡ Ends Empty → ⊥
    horizon true e = cc
    horizon false e = cc

module _ (f : FlatForm) (grades : List ℕ) (script : Script) where
  flow_not_empty : (h : History) (i : Instant) (e : Ending) → EndsInFlow (system_of f grades) script h i e → e ≡ Empty → ⊥
  flow_not_empty h i _ (ByFault y fault flow is) same = cc
  flow_not_empty h i _ (ByLack y flow fine lacks) same = let clash : false ≡ true = lacks in cc
  flow_not_empty h i _ (ByMove y d fault move is) same = cc

  -- a form's run doesn't end for want of a value
  pub ends_somehow : (h : History) (e : Ending) → IsRun f grades script h e → e ≡ Empty → ⊥
  ends_somehow [] e run same = run.instants
  ends_somehow (i ∷ h) e run same =
      ⊎_elim
      (λ due. not_empty script i.time (mark_of h i) (instant_fault f h i) (is_demanded (system_of f grades) script (i ∷ h)) (steps_in (i ∷ h)) (due ∙ ap (λ x. Ends x) same))
      (λ within. flow_not_empty h i e within same) run.ends

module _ {W : Type 0} (f g : FlatForm) (grades : List ℕ) (first second : W → History) (each : (script : Script) → IsScriptFor (input_types f) script → Correspondence (system_of g grades) (system_of f grades) script (old_sites f) (Relates first second)) (places : SeesPlaces f first second) where
  seen : (script : Script) (h k : History) → Corresponds (system_of g grades) (system_of f grades) script (old_sites f) (Relates first second) h k → AreSeenAs f h k
  seen script [] [] c = tt
  seen script [] (old ∷ olds) c = absurd c
  seen script (new ∷ news) [] c = absurd c
  seen script (new ∷ news) (old ∷ olds) c = (
    record { kind = c.0.0.kind; time = c.0.0.time; inputs = c.0.0.inputs; fired = c.0.0.fired; places = places new old news olds c.0.1 },
    seen script news olds c.1,
  )

  one_fault : (script : Script) → IsScriptFor (input_types f) script → (h k : History) → IsPrefix g grades script h → IsPrefix f grades script k → Corresponds (system_of g grades) (system_of f grades) script (old_sites f) (Relates first second) h k → HaveOneFault f g h k
  one_fault script fits [] k p q c = absurd p
  one_fault script fits (new ∷ news) [] p q c = absurd q
  one_fault script fits (new ∷ news) (old ∷ olds) p q c =
      ((each script fits).instant news olds new old (record { first = p; second = q; corresponds = c }) (λ none. refl)).fault

  pub pass_keeps_runs : KeepsRuns f g grades
  pass_keeps_runs = record {
    prefixes = λ script h fits p.
        let b = (keeps_runs (system_of g grades) (system_of f grades) script (old_sites f) (Relates first second) (each script fits)).prefixes h p in
        (b.history, b.is, seen script h b.history b.corresponds, one_fault script fits h b.history p b.is b.corresponds);
    runs = λ script h ending fits run.
        let b = (keeps_runs (system_of g grades) (system_of f grades) script (old_sites f) (Relates first second) (each script fits)).runs h ending run (ends_somehow g grades script h ending run) in
        (b.history, b.is, seen script h b.history b.corresponds);
  }
