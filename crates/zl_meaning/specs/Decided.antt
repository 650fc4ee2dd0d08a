-- Runs in which what has to be decided has a value.
use Rattle.std.specs.Prelude.{◌≡◌, ℕ, true, List, ◌∷◌, IsSome, Option, None}
use Rattle.zl_value.specs.Lists.{Has}
use Rattle.zl_value.specs.Instants.{Step}
use Rattle.zl_value.specs.Script.{IsScriptFor}
use Rattle.zl_value.specs.declared.script.Script.{Script}
use Rattle.zl_meaning.specs.FlatForm.{FlatForm}
use Rattle.zl_meaning.specs.Uses.{SlopeOf, TestOf, IsUse}
use Rattle.zl_meaning.specs.State.{State, AtPlace, AtUsed, AtValue}
use Rattle.zl_meaning.specs.History.{Instant, History, state_of}
use Rattle.zl_meaning.specs.Solves.{instant_fault}
use Rattle.zl_meaning.specs.Run.{IsPrefix}
use Rattle.zl_meaning.specs.Inputs.{input_types}

-- the occurrence has a value, if it is evaluated
abbrev pub IsThere : State → ℕ → Type 0
IsThere s k = s (AtUsed k) ≡ true → IsSome (s (AtValue k))

-- it holds of each instant without a fault of each beginning of a run, for all scripts
abbrev pub AtAllInstants : FlatForm → List ℕ → (Instant → Type 0) → Type 0
AtAllInstants f grades P = (script : Script) (h : History) (i : Instant) → IsScriptFor (input_types f) script → IsPrefix f grades script (i ∷ h) → instant_fault f h i ≡ None → P i

-- each test that is evaluated has a value; each derivative; each result of main
abbrev pub HasTests : FlatForm → List ℕ → Type 0
HasTests f grades = AtAllInstants f grades (λ i. (k : ℕ) → IsUse f k TestOf → IsThere (state_of i) k)

abbrev pub HasDerivatives : FlatForm → List ℕ → Type 0
HasDerivatives f grades = AtAllInstants f grades (λ i. (k : ℕ) (call : Option ℕ) → IsUse f k (SlopeOf call) → IsThere (state_of i) k)

abbrev pub HasOutputs : FlatForm → List ℕ → Type 0
HasOutputs f grades = AtAllInstants f grades (λ i. (p : ℕ) → Has f.outs p → IsSome (state_of i (AtPlace p)))

-- each occurrence of `again` that is evaluated at a step has a value
abbrev pub HasAgain : FlatForm → List ℕ → Type 0
HasAgain f grades = AtAllInstants f grades (λ i. i.kind ≡ Step → (k : ℕ) → Has f.again k → IsThere (state_of i) k)
