-- A form with ranks prints one text with a script.
use Rattle.std.specs.Prelude.{◌≡◌, ℕ, List}
use Rattle.std.proofs.Common.{sym, ap₂, ◌∙◌}
use Rattle.zl_value.specs.declared.script.Script.{Script}
use Rattle.zl_meaning.specs.FlatForm.{FlatForm}
use Rattle.zl_meaning.specs.Trace.{trace}
use Rattle.zl_meaning.specs.Reading.{HasNodeRanks}
use Rattle.zl_meaning.specs.Worked.{HasTrace}
use Rattle.zl_meaning.proofs.OneRun.{one_run}

pub one_trace : (f : FlatForm) → HasNodeRanks f → (grades : List ℕ) (names : List (List ℕ)) (script : Script) (x y : List ℕ) → HasTrace f grades names script x → HasTrace f grades names script y → x ≡ y
one_trace f r grades names script x y p q =
    let same = (one_run f r grades script).runs p.history q.history p.ending q.ending p.run q.run in
    sym p.trace ∙ ap₂ (λ h e. trace f names h e) same.0 same.1 ∙ q.trace
