-- Which scripts fit the inputs of a program. This project's own.
use Rattle.std.specs.Prelude.{◌≡◌, ℕ, ◌<◌, ◌≤◌, pos, int_lt, true, false, List, [], ◌∷◌, length, slice_get, Some}
use Rattle.std.specs.List.{AllByRecursion}
use Rattle.zl_value.specs.Fraction.{Fraction, IsFrac, whole}
use Rattle.zl_value.specs.Order.{below}
use Rattle.zl_value.specs.Operators.{int_fits}
use Rattle.zl_value.specs.declared.value.Value.{Value}
use Rattle.zl_value.specs.declared.value.Value.TheVariants.{B, I, F}
use Rattle.zl_value.specs.declared.value.Ty.{Ty}
use Rattle.zl_value.specs.declared.value.Ty.TheVariants.{Bool as BoolTy, Int, Float}
use Rattle.zl_value.specs.declared.script.Script.{Script}
use Rattle.zl_value.specs.declared.script.ScriptLine.{ScriptLine}
use Rattle.zl_value.specs.declared.script.Set.{Set}

-- a value of this type, in the width; a fraction is in lowest terms
abbrev pub IsOfType : Ty → Value → Type 0
IsOfType BoolTy (B b) = Unit {0}
IsOfType Int (I n) = int_fits n ≡ true
IsOfType Float (F f) = IsFrac f
IsOfType _ _ = ⊥

-- a number of the program that isn't negative
pub record IsTime (t : Fraction) : Type 0 where
  pub number : IsFrac t
  pub start : int_lt t.num (pos 0) ≡ false

-- no two sets are of one input
abbrev pub AllOther : ℕ → List Set → Type 0
AllOther input sets = AllByRecursion (λ set. set.input ≡ input → ⊥) sets

abbrev pub AreOnce : List Set → Type 0
AreOnce [] = Unit {0}
AreOnce (set ∷ sets) = AllOther set.input sets × AreOnce sets

-- the set names an input and gives it a value of its type
abbrev pub IsSetFor : List Ty → Set → Type 0
IsSetFor types set = (ty : Ty) × (slice_get types set.input ≡ Some ty) × IsOfType ty set.value

-- a line of a script for inputs of these types
pub record IsLineFor (types : List Ty) (horizon : Fraction) (line : ScriptLine) : Type 0 where
  pub time : IsTime line.time
  pub inside : below horizon line.time ≡ false
  pub sets : AllByRecursion (IsSetFor types) line.sets
  pub once : AreOnce line.sets

-- each line is later than the one before it
abbrev pub AreAscending : List ScriptLine → Type 0
AreAscending [] = Unit {0}
AreAscending (a ∷ []) = Unit {0}
AreAscending (a ∷ b ∷ lines) = (below a.time b.time ≡ true) × AreAscending (b ∷ lines)

-- a set of this input stands in the list
abbrev pub IsSet : ℕ → List Set → Type 0
IsSet input sets = (k : ℕ) × (set : Set) × (slice_get sets k ≡ Some set) × (set.input ≡ input)

-- the first line is that of time 0, and sets this input
abbrev pub IsSetAtStart : ℕ → List ScriptLine → Type 0
IsSetAtStart input [] = ⊥
IsSetAtStart input (line ∷ lines) = (line.time ≡ whole (pos 0)) × IsSet input line.sets

-- a script for inputs of these types: times in order and up to the horizon, and each input given at time 0
pub record IsScriptFor (types : List Ty) (script : Script) : Type 0 where
  pub horizon : IsTime script.horizon
  pub some_step : 1 ≤ script.steps
  pub few_steps : script.steps ≤ 1000000
  pub lines : AllByRecursion (IsLineFor types script.horizon) script.lines
  pub ascending : AreAscending script.lines
  pub given : (input : ℕ) → input < length types → IsSetAtStart input script.lines
