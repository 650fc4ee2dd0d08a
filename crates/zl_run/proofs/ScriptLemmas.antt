-- What is asked of a script, as the steps of a run need it; and the inputs that its first line gives.
use Rattle.std.specs.Prelude.{◌≡◌, ℕ, zero, suc, ◌+◌, ◌<◌, false, true, if◌then◌else◌, cond, nat_eq, List, [], ◌∷◌, length, slice_get, get_or, map, Option, Some, None}
use Rattle.std.specs.List.{AllByRecursion}
use Rattle.std.proofs.Common.{sym, ap, ◌∙◌, ⊎_elim, arith}
use Rattle.std.proofs.lemmas.Bool.Decides.{eqb_tells}
use Rattle.std.proofs.lemmas.Option.{slice_get_cases}
use Rattle.zl_value.specs.Fraction.{Fraction, IsReduced}
use Rattle.zl_value.specs.Order.{below}
use Rattle.zl_value.specs.Times.{nought, is_same}
use Rattle.zl_value.specs.Script.{IsScriptFor, IsLineFor, IsSetFor, IsSet, IsSetAtStart}
use Rattle.zl_value.specs.Stops.{line_for, line_at, set_by, sets_of, inputs_after}
use Rattle.zl_value.specs.declared.value.Value.{Value}
use Rattle.zl_value.specs.declared.value.Ty.{Ty}
use Rattle.zl_value.specs.declared.script.Input.{Input}
use Rattle.zl_value.specs.declared.script.Set.{Set}
use Rattle.zl_value.specs.declared.script.Script.{Script}
use Rattle.zl_value.specs.declared.script.ScriptLine.{ScriptLine}
use Rattle.zl_value.proofs.FractionOrder.{same_parts-self}
use Rattle.zl_run.specs.Inputs.{AreWithin}
use Rattle.zl_run.specs.Laws.{IsOrdered}
use Rattle.zl_run.proofs.InputLemmas.{listed_same}

-- the types of a code's inputs
abbrev pub types_of : List Input → List Ty
types_of ins = map (λ (input : Input). input.ty) ins

pub ordered : (types : List Ty) (script : Script) → IsScriptFor types script → IsOrdered script
ordered types script is = record { horizon = is.horizon.number.reduced; lines = go script.lines is.lines; ascending = is.ascending }
  where
    go : (lines : List ScriptLine) → AllByRecursion (IsLineFor types script.horizon) lines
        → AllByRecursion (λ (line : ScriptLine). IsReduced line.time × (below script.horizon line.time ≡ false)) lines
    go [] all = tt
    go (line ∷ lines) all = ((all.0.time.number.reduced, all.0.inside), go lines all.1)

inside_from : {X : Type 0} (xs : List X) (i : ℕ) (x : X) → slice_get xs i ≡ Some x → i < length xs
inside_from xs i x found = ⊎_elim (λ p. p.1) (λ p. absurd cc) (slice_get_cases xs i).1

-- the sets of its lines are of inputs
pub are_within : (types : List Ty) (horizon : Fraction) (lines : List ScriptLine) (count : ℕ) → count ≡ length types → AllByRecursion (IsLineFor types horizon) lines → AllByRecursion (AreWithin count) lines
are_within types horizon [] count e all = tt
are_within types horizon (line ∷ lines) count e all = (sets line.sets all.0.sets, are_within types horizon lines count e all.1)
  where
    sets : (ss : List Set) → AllByRecursion (IsSetFor types) ss → AllByRecursion (λ (s : Set). s.input < count) ss
    sets [] all = tt
    sets (s ∷ ss) all = (rw e (inside_from types s.input all.0.0 all.0.1), sets ss all.1)

-- ---- the first line

-- an input that is set has the value of the set, whatever it had
set_alone : (n : ℕ) (sets : List Set) (a b : Option Value) → IsSet n sets → set_by n sets a ≡ set_by n sets b
set_alone n [] a b is = absurd (none is.0 is.2)
  where
    none : (k : ℕ) → slice_get [] k ≡ Some is.1 → ⊥
    none k e = cc
set_alone n (s ∷ sets) a b is =
    ⊎_elim (λ p. same p.0) (λ p. ap (λ t. if t then Some s.value else set_by n sets a) p.0 ∙ set_alone n sets a b (behind is.0 is.2 p.1) ∙ sym (ap (λ t. if t then Some s.value else set_by n sets b) p.0)) (eqb_tells s.input n)
  where
    same : nat_eq s.input n ≡ true → set_by n (s ∷ sets) a ≡ set_by n (s ∷ sets) b
    same e = ap (λ t. if t then Some s.value else set_by n sets a) e ∙ sym (ap (λ t. if t then Some s.value else set_by n sets b) e)

    behind : (k : ℕ) → slice_get (s ∷ sets) k ≡ Some is.1 → (s.input ≡ n → ⊥) → IsSet n sets
    behind zero e other = let here : s ≡ is.1 = cc in absurd (other (ap (λ (x : Set). x.input) here ∙ is.3))
    behind (suc k) e other = (k, is.1, e, is.3)

-- the first step has the inputs that the first line gives, whatever stood there before
pub first_inputs : (types : List Ty) (script : Script) (count : ℕ) (had other : List (Option Value)) → IsScriptFor types script → count ≡ length types
    → inputs_after count (line_for script nought 0) had ≡ inputs_after count (line_for script nought 0) other
first_inputs types script count had other is e =
    listed_same count 0 _ _ (λ n inside. at script.lines (0 + n) (is.given (0 + n) (omega (arith, inside, e))))
  where
    at : (lines : List ScriptLine) (n : ℕ) → IsSetAtStart n lines
        → set_by n (sets_of (line_for (record script { lines = lines }) nought 0)) (get_or had n None) ≡ set_by n (sets_of (line_for (record script { lines = lines }) nought 0)) (get_or other n None)
    at [] n given = absurd given
    at (line ∷ lines) n given =
        let same : is_same line.time nought ≡ true = ap (λ t. is_same t nought) given.0 ∙ same_parts-self nought in
        let first : line_for (record script { lines = line ∷ lines }) nought 0 ≡ Some line = ap (λ b. cond b (Some line) (line_at (record script { lines = lines }) nought)) same in
        rw first (set_alone n line.sets (get_or had n None) (get_or other n None) given.1)
