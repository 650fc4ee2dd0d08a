-- What levels are for: where a value must be, there is one.
use Rattle.std.specs.Prelude.{◌≡◌, ℕ, List, Option}
use Rattle.zl_meaning.specs.FlatForm.{FlatForm}
use Rattle.zl_meaning.specs.Uses.{StartOf, ResetOf, ArgumentOf, IsUse}
use Rattle.zl_meaning.specs.History.{state_of}
use Rattle.zl_meaning.specs.Decided.{IsThere, AtAllInstants, HasTests, HasDerivatives, HasOutputs, HasAgain}
use Rattle.zl_meaning.specs.Reading.{HasNodeRanks}
use Rattle.zl_meaning.specs.Regular.{IsRegular}
use Rattle.zl_meaning.specs.Single.{IsSingle}
use Rattle.zl_meaning.specs.WellFormed.{IsWellFormed}
use Rattle.zl_levels.specs.Levels.{Early, Levels, AreLevels}
use Rattle.zl_levels.specs.MainForm.{IsMainForm}
use Rattle.zl_levels.specs.Standing.{HasStandingCalls}

-- each `init` value that is evaluated has a value; each reset value; each argument of a site
abbrev pub HasStarts : FlatForm → List ℕ → Type 0
HasStarts f grades = AtAllInstants f grades (λ i. (k b : ℕ) (call : Option ℕ) → IsUse f k (StartOf call b) → IsThere (state_of i) k)

abbrev pub HasResetValues : FlatForm → List ℕ → Type 0
HasResetValues f grades = AtAllInstants f grades (λ i. (k arm : ℕ) (call : Option ℕ) (events : List ℕ) → IsUse f k (ResetOf call events arm) → IsThere (state_of i) k)

abbrev pub HasArguments : FlatForm → List ℕ → Type 0
HasArguments f grades = AtAllInstants f grades (λ i. (k : ℕ) → IsUse f k ArgumentOf → IsThere (state_of i) k)

-- each occurrence that is early by these levels has a value, if it is evaluated
abbrev pub HasEarly : FlatForm → Levels → List ℕ → Type 0
HasEarly f l grades = AtAllInstants f grades (λ i. (k : ℕ) → l.occ k ≡ Early → IsThere (state_of i) k)

-- what must have a value in the runs of the form has one
pub record IsInitialised (f : FlatForm) (l : Levels) (grades : List ℕ) : Type 0 where
  pub outputs : HasOutputs f grades
  pub tests : HasTests f grades
  pub starts : HasStarts f grades
  pub resets : HasResetValues f grades
  pub derivatives : HasDerivatives f grades
  pub arguments : HasArguments f grades
  pub again : HasAgain f grades
  pub early : HasEarly f l grades

-- a causal, single and regular form of the main block alone that has levels is initialised
abbrev pub LevelsInitialise : Type 0
LevelsInitialise = (f : FlatForm) (l : Levels) (grades : List ℕ) → IsWellFormed f → IsMainForm f → IsSingle f → (regular : IsRegular f) → HasStandingCalls f regular → HasNodeRanks f → AreLevels f l → IsInitialised f l grades
