-- What is proved of the definitions, for all forms.
use Rattle.std.specs.Prelude.{◌≡◌, ℕ, ◌<◌, Bool, true, List, ◌∷◌, length}
use Rattle.zl_value.specs.declared.script.Script.{Script}
use Rattle.zl_value.specs.Lists.{Has}
use Rattle.zl_value.specs.OneRun.{HasOneRun as HasOneRunOf}
use Rattle.zl_value.specs.Correspondence.{Correspondence}
use Rattle.zl_value.specs.Laws.{Relates}
use Rattle.zl_value.specs.Script.{IsScriptFor}
use Rattle.zl_meaning.specs.FlatForm.{FlatForm}
use Rattle.zl_meaning.specs.Uses.{Use, IsUse, uses_of}
use Rattle.zl_meaning.specs.State.{Table, Node, AtPlace, State}
use Rattle.zl_meaning.specs.Moment.{Moment}
use Rattle.zl_meaning.specs.Equation.{equation, turn}
use Rattle.zl_meaning.specs.History.{Instant, History, state_of}
use Rattle.zl_meaning.specs.System.{system_of}
use Rattle.zl_meaning.specs.Inputs.{input_types}
use Rattle.zl_meaning.specs.KeepsRuns.{old_sites, KeepsRuns}
use Rattle.zl_meaning.specs.Reading.{Reads, AreAlike, HasNodeRanks}

-- what is said to be read is all that is: an equation gives one value at two moments that agree on it. `p` holds of the
-- entries of the moment itself that are read, `q` of those of earlier instants
abbrev pub ReadsNoMore : Type 0
ReadsNoMore = (p q : Node → Bool) (f : FlatForm) (m n : Moment) (s t : State) → AreAlike (λ a. q a ≡ true) m n → ((a : Node) → p a ≡ true → s a ≡ t a) → (a : Node) → Reads f (λ b. p b ≡ true) (λ b. q b ≡ true) a → equation f m s a ≡ equation f n t a

-- exactly one table stands at the moment
pub record IsOneTable (f : FlatForm) (m : Moment) : Type 0 where
  pub table : Table
  pub solves : table ≡ turn f m table
  pub only : (t : Table) → t ≡ turn f m t → t ≡ table

-- at each moment of a form with ranks exactly one table stands
abbrev pub HasOneTable : Type 0
HasOneTable = (f : FlatForm) (m : Moment) → HasNodeRanks f → IsOneTable f m

-- a form with ranks has at most one run with a script, and so at most one trace
abbrev pub HasOneRun : Type 0
HasOneRun = (f : FlatForm) → HasNodeRanks f → (grades : List ℕ) (script : Script) → HasOneRunOf (system_of f grades) script

-- a use, by cases, is one of the list of uses, and each of the list is a use
abbrev pub UsesAreListed : Type 0
UsesAreListed = (f : FlatForm) (k : ℕ) (of : Use) → (IsUse f k of → Has (uses_of f k) of) × (Has (uses_of f k) of → IsUse f k of)

-- what stands beside each other has the same values at the places of `f`
abbrev pub SeesPlaces : {W : Type 0} → FlatForm → (W → History) → (W → History) → Type 0
SeesPlaces f first second = (new old : Instant) (news olds : History) → Relates first second (new ∷ news) (old ∷ olds) → (p : ℕ) → p < length f.places → state_of old (AtPlace p) ≡ state_of new (AtPlace p)

-- where each step and each flow of the result `g` corresponds to one of the argument `f`, and the old places have the same
-- values, the pass keeps runs; the pairs `W` say what stands beside what
abbrev pub CorrespondenceKeepsRuns : Type 0 → Type 0
CorrespondenceKeepsRuns W = (f g : FlatForm) (grades : List ℕ) (first second : W → History) → ((script : Script) → IsScriptFor (input_types f) script → Correspondence (system_of g grades) (system_of f grades) script (old_sites f) (Relates first second)) → SeesPlaces f first second → KeepsRuns f g grades
