-- What a pass keeps: each run of its result is a run of its argument, seen at the old places and sites.
use Rattle.std.specs.Prelude.{◌≡◌, ℕ, ◌<◌, nat_lt, List, [], ◌∷◌, length}
use Rattle.std.specs.List.{filter}
use Rattle.zl_value.specs.Script.{IsScriptFor}
use Rattle.zl_value.specs.declared.script.Script.{Script}
use Rattle.zl_value.specs.declared.script.Ending.{Ending}
use Rattle.zl_meaning.specs.FlatForm.{FlatForm}
use Rattle.zl_meaning.specs.State.{AtPlace}
use Rattle.zl_meaning.specs.History.{Instant, History, state_of}
use Rattle.zl_meaning.specs.Solves.{instant_fault}
use Rattle.zl_meaning.specs.Run.{IsPrefix, IsRun}
use Rattle.zl_meaning.specs.Inputs.{input_types}

-- of the sites that fire in the result, those that its argument has
abbrev pub old_sites : FlatForm → List ℕ → List ℕ
old_sites f fired = filter (λ n. nat_lt n (length f.sites)) fired

-- instant `new` of the result is instant `old` of the argument `f`: it has the same kind, time and inputs, and at the old
-- numbers the same fired sites and values of places
pub record IsSeenAs (f : FlatForm) (new old : Instant) : Type 0 where
  pub kind : old.kind ≡ new.kind
  pub time : old.time ≡ new.time
  pub inputs : old.inputs ≡ new.inputs
  pub fired : old.fired ≡ old_sites f new.fired
  pub places : (p : ℕ) → p < length f.places → state_of old (AtPlace p) ≡ state_of new (AtPlace p)

-- the same of each instant of a history
abbrev pub AreSeenAs : FlatForm → History → History → Type 0
AreSeenAs f [] [] = Unit {0}
AreSeenAs f (new ∷ news) (old ∷ olds) = IsSeenAs f new old × AreSeenAs f news olds
AreSeenAs f _ _ = ⊥

-- the latest instants have the same fault, or none
abbrev pub HaveOneFault : FlatForm → FlatForm → History → History → Type 0
HaveOneFault f g (new ∷ news) (old ∷ olds) = instant_fault f olds old ≡ instant_fault g news new
HaveOneFault f g _ _ = ⊥

-- each beginning of a run of the result `g` is one of the argument `f`, and each run one with the same end
pub record KeepsRuns (f g : FlatForm) (grades : List ℕ) : Type 0 where
  pub prefixes : (script : Script) (h : History) → IsScriptFor (input_types f) script → IsPrefix g grades script h → (k : History) × IsPrefix f grades script k × AreSeenAs f h k × HaveOneFault f g h k
  pub runs : (script : Script) (h : History) (ending : Ending) → IsScriptFor (input_types f) script → IsRun g grades script h ending → (k : History) × IsRun f grades script k ending × AreSeenAs f h k
