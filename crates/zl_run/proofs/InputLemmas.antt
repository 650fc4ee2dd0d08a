-- The inputs after a script line, as the machine has them and as a run says.
use Rattle.std.specs.Prelude.{◌≡◌, ℕ, zero, suc, ◌+◌, ◌<◌, if◌then◌else◌, List, [], ◌∷◌, length, get_or, set, map, Option, Some, None}
use Rattle.std.proofs.Common.{refl, sym, ap, ap₂, ◌∙◌, ⊎_elim, arith}
use Rattle.std.proofs.lemmas.Bool.Decides.{eqb_tells}
use Rattle.std.proofs.lemmas.List.{get_or-map, get_or-set_same, get_or-set_other, length-set, length-map}
use Rattle.zl_value.specs.Lists.{listed}
use Rattle.zl_value.specs.Stops.{set_by, inputs_after, sets_of}
use Rattle.zl_value.specs.declared.value.Value.{Value}
use Rattle.zl_value.specs.declared.script.Set.{Set}
use Rattle.zl_value.specs.declared.script.ScriptLine.{ScriptLine}
use Rattle.zl_run.specs.Inputs.{set_all}
use Rattle.zl_run.specs.Stopping.{sets_in}

-- ---- lists by their numbers

pub listed_same : {X : Type 0} (n k : ℕ) (f g : ℕ → X) → ((i : ℕ) → i < n → f (k + i) ≡ g (k + i)) → listed n k f ≡ listed n k g
listed_same zero k f g same = refl
listed_same (suc n) k f g same =
    ap₂ (λ x xs. x ∷ xs)
    (ap f {x = k} {y = k + 0} (omega arith) ∙ same 0 (omega arith) ∙ ap g {x = k + 0} {y = k} (omega arith))
    (listed_same n (suc k) f g (λ i inside.
    ap f {x = suc k + i} {y = k + suc i} (omega arith) ∙ same (suc i) (omega arith) ∙ ap g {x = k + suc i} {y = suc k + i} (omega arith)))

listed_shift : {X : Type 0} (n k : ℕ) (f : ℕ → X) → listed n (suc k) f ≡ listed n k (λ i. f (suc i))
listed_shift zero k f = refl
listed_shift (suc n) k f = ap (λ xs. f (suc k) ∷ xs) (listed_shift n (suc k) f)

-- a list is that of its elements
pub listed_all : {X : Type 0} (xs : List X) (d : X) → xs ≡ listed (length xs) 0 (λ n. get_or xs n d)
listed_all [] d = refl
listed_all (x ∷ xs) d =
    ap (λ ys. x ∷ ys) (listed_all xs d ∙ sym (listed_shift (length xs) 0 (λ n. get_or (x ∷ xs) n d)))

-- ---- sets

pub length-set_all : (sets : List Set) (inputs : List Value) → length (set_all sets inputs) ≡ length inputs
length-set_all [] inputs = refl
length-set_all (s ∷ sets) inputs = length-set (set_all sets inputs) s.input s.value ∙ length-set_all sets inputs

-- an input that is set, and one that isn't
set_at : (sets : List Set) (inputs : List Value) (n : ℕ) → n < length inputs
    → get_or (map Some (set_all sets inputs)) n None ≡ set_by n sets (get_or (map Some inputs) n None)
set_at [] inputs n inside = refl
set_at (s ∷ sets) inputs n inside =
    let ys = set_all sets inputs in
    let within : n < length ys = rw (length-set_all sets inputs) inside in
    let there : n < length (set ys s.input s.value) = rw (length-set ys s.input s.value) within in
    get_or-map Some (set ys s.input s.value) n s.value None there
    ∙ ⊎_elim
    (λ same.
    ap Some (ap (λ m. get_or (set ys s.input s.value) m s.value) (sym same.1) ∙ get_or-set_same ys s.input s.value s.value (rw same.1 within))
    ∙ ap (λ b. if b then Some s.value else set_by n sets (get_or (map Some inputs) n None)) (sym same.0))
    (λ other.
    ap Some (get_or-set_other ys s.input n s.value s.value (λ e. other.1 (sym e)))
    ∙ sym (get_or-map Some ys n s.value None within)
    ∙ set_at sets inputs n inside
    ∙ ap (λ b. if b then Some s.value else set_by n sets (get_or (map Some inputs) n None)) (sym other.0))
    (eqb_tells s.input n)

-- the inputs after a line, or after none
pub after_line : (count : ℕ) (line : Option ScriptLine) (inputs : List Value) → length inputs ≡ count
    → map Some (set_all (sets_in line) inputs) ≡ inputs_after count line (map Some inputs)
after_line count line inputs size =
    let all = map Some (set_all (sets_in line) inputs) in
    let full : length all ≡ count = length-map (set_all (sets_in line) inputs) Some ∙ length-set_all (sets_in line) inputs ∙ size in
    listed_all all None
    ∙ ap (λ m. listed m 0 (λ n. get_or all n None)) full
    ∙ listed_same count 0 (λ n. get_or all n None) (λ n. set_by n (sets_of line) (get_or (map Some inputs) n None)) (λ i inside. point line i (rw size inside))
  where
    point : (line : Option ScriptLine) (i : ℕ) → i < length inputs → get_or (map Some (set_all (sets_in line) inputs)) (0 + i) None ≡ set_by (0 + i) (sets_of line) (get_or (map Some inputs) (0 + i) None)
    point None i inside = refl
    point (Some line) i inside = set_at line.sets inputs (0 + i) (omega (arith, inside))
