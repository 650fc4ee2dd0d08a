-- Which script line stands at a time, by the lines that aren't passed.
use Rattle.std.specs.Prelude.{◌≡◌, ℕ, zero, suc, ◌+◌, ◌<◌, Bool, true, false, nat_eq, if◌then◌else◌, List, [], ◌∷◌, length, take, drop, get_or, cond, Option, Some, None}
use Rattle.std.specs.List.{AllByRecursion, find}
use Rattle.std.proofs.Common.{refl, sym, ap, ◌∙◌, ⊎_elim, arith}
use Rattle.std.proofs.lemmas.Bool.{both_ways}
use Rattle.std.proofs.Math.Seq.{drop-cons}
use Rattle.std.proofs.Math.Dec.{eqb-suc-zero}
use Rattle.zl_value.specs.Fraction.{Fraction, IsReduced}
use Rattle.zl_value.specs.Order.{below}
use Rattle.zl_value.specs.Times.{is_same}
use Rattle.zl_value.specs.Script.{AreAscending}
use Rattle.zl_value.specs.declared.script.ScriptLine.{ScriptLine}
use Rattle.zl_value.proofs.FractionOrder.{below-self, below_asym, below_cases, le_below_trans, same_parts, same_parts-self}
use Rattle.zl_run.specs.Stopping.{due_in}
use Rattle.zl_run.specs.Standing.{IsPassed, IsAhead}

-- ---- two times

false_from : (b : Bool) → (b ≡ true → ⊥) → b ≡ false
false_from true never = absurd (never refl)
false_from false never = refl

pub not_same : (a b : Fraction) → below a b ≡ true → is_same a b ≡ false
not_same a b e = false_from (is_same a b) (λ s. both_ways (below a b) (ap (λ x. below x b) (same_parts a b s) ∙ below-self b) e)

pub not_same_later : (a b : Fraction) → below b a ≡ true → is_same a b ≡ false
not_same_later a b e = false_from (is_same a b) (λ s. both_ways (below b a) (ap (below b) (same_parts a b s) ∙ below-self b) e)

-- what isn't earlier and isn't the same is later
pub later_by : (a b : Fraction) → IsReduced a → IsReduced b → below a b ≡ false → is_same a b ≡ false → below b a ≡ true
later_by a b p q e other =
    ⊎_elim (λ l. absurd (both_ways (below a b) e l))
    (λ o. ⊎_elim (λ s. absurd (both_ways (is_same a b) other (ap (is_same a) (sym s) ∙ same_parts-self a))) (λ l. l) o)
    (below_cases a b p q)

-- ---- lines in order

abbrev pub AreReduced : List ScriptLine → Type 0
AreReduced lines = AllByRecursion (λ (line : ScriptLine). IsReduced line.time) lines

-- all are later than `t`
abbrev pub AreLater : Fraction → List ScriptLine → Type 0
AreLater t lines = AllByRecursion (λ (line : ScriptLine). below t line.time ≡ true) lines

pub later_lines : (t : Fraction) (line : ScriptLine) (lines : List ScriptLine) → 0 < t.den → AreReduced (line ∷ lines) → AreAscending (line ∷ lines)
    → below line.time t ≡ false → AreLater t lines
later_lines t line [] above low up e = tt
later_lines t line (next ∷ lines) above low up e =
    let later : below t next.time ≡ true = le_below_trans t line.time next.time above low.0.above low.1.0.above e up.0 in
    (later, later_lines t next lines above low.1 up.1 (below_asym t next.time later))

ascending_rest : (line : ScriptLine) (lines : List ScriptLine) → AreAscending (line ∷ lines) → AreAscending lines
ascending_rest line [] up = tt
ascending_rest line (next ∷ lines) up = up.1

pub ascending_from : (n : ℕ) (lines : List ScriptLine) → AreAscending lines → AreAscending (drop n lines)
ascending_from zero lines up = up
ascending_from (suc n) [] up = up
ascending_from (suc n) (line ∷ lines) up = ascending_from n lines (ascending_rest line lines up)

pub reduced_from : (n : ℕ) (lines : List ScriptLine) → AreReduced lines → AreReduced (drop n lines)
reduced_from zero lines low = low
reduced_from (suc n) [] low = low
reduced_from (suc n) (line ∷ lines) low = reduced_from n lines low.1

-- ---- the line of a time

abbrev pub found : Fraction → List ScriptLine → Option ScriptLine
found t lines = find (λ (line : ScriptLine). is_same line.time t) lines

none_later : (t : Fraction) (lines : List ScriptLine) → AreLater t lines → found t lines ≡ None
none_later t [] later = refl
none_later t (line ∷ lines) later =
    ap (λ b. cond b (Some line) (found t lines)) (not_same_later line.time t later.0) ∙ none_later t lines later.1

passed_over : (t : Fraction) (n : ℕ) (lines : List ScriptLine) → AllByRecursion (IsPassed t 0) (take n lines) → found t lines ≡ found t (drop n lines)
passed_over t zero lines passed = refl
passed_over t (suc n) [] passed = refl
passed_over t (suc n) (line ∷ lines) passed =
    ap (λ b. cond b (Some line) (found t lines)) (not_same line.time t (passed.0.untaken refl)) ∙ passed_over t n lines passed.1

first_alone : (t : Fraction) (lines : List ScriptLine) → 0 < t.den → AreReduced lines → AreAscending lines → AllByRecursion (IsAhead t 0) lines → found t lines ≡ due_in lines t
first_alone t [] above low up ahead = refl
first_alone t (line ∷ lines) above low up ahead =
    ap (λ rest. cond (is_same line.time t) (Some line) rest) (none_later t lines (later_lines t line lines above low up ahead.0.later))

none_due : (t : Fraction) (here : ℕ) (lines : List ScriptLine) → 0 < here → AllByRecursion (IsAhead t here) lines → due_in lines t ≡ None
none_due t here [] some ahead = refl
none_due t here (line ∷ lines) some ahead =
    ap (λ b. if b then Some line else None) (not_same_later line.time t (ahead.0.taken some))

-- the line that the next step takes is the first that isn't passed, if that is of this time
pub due_is : (t : Fraction) (here n : ℕ) (lines : List ScriptLine) → 0 < t.den → AreReduced lines → AreAscending lines
    → AllByRecursion (IsPassed t here) (take n lines) → AllByRecursion (IsAhead t here) (drop n lines)
    → (if nat_eq here 0 then found t lines else None) ≡ due_in (drop n lines) t
due_is t zero n lines above low up passed ahead =
    passed_over t n lines passed ∙ first_alone t (drop n lines) above (reduced_from n lines low) (ascending_from n lines up) ahead
due_is t (suc here) n lines above low up passed ahead =
    ap (λ b. if b then found t lines else None) (eqb-suc-zero here) ∙ sym (none_due t (suc here) (drop n lines) (omega arith) ahead)

-- ---- after a step

pub passed_more : (t : Fraction) (here : ℕ) (lines : List ScriptLine) → AllByRecursion (IsPassed t here) lines → AllByRecursion (IsPassed t (1 + here)) lines
passed_more t here [] passed = tt
passed_more t here (line ∷ lines) passed =
    (record { earlier = passed.0.earlier; untaken = λ none. absurd (omega (arith, none)) }, passed_more t here lines passed.1)

pub ahead_later : (t : Fraction) (here : ℕ) (lines : List ScriptLine) → AreLater t lines → AllByRecursion (IsAhead t here) lines
ahead_later t here [] later = tt
ahead_later t here (line ∷ lines) later =
    (record { later = below_asym t line.time later.0; taken = λ some. later.0 }, ahead_later t here lines later.1)

-- ---- reading

-- the rest from a line on begins with it
pub drop_at : (lines : List ScriptLine) (n : ℕ) (line : ScriptLine) → n < length lines → line ≡ get_or lines n line → drop n lines ≡ line ∷ drop (n + 1) lines
drop_at lines n line inside is =
    drop-cons lines n line inside ∙ ap (λ x. x ∷ drop (suc n) lines) (sym is) ∙ ap (λ m. line ∷ drop m lines) {x = suc n} {y = n + 1} (omega arith)
