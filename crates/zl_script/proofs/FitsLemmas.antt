-- A script that is read fits the inputs.
use Rattle.std.proofs.Common.{◌≡◌, ℕ, zero, suc, ◌+◌, ◌<◌, pos, ◌*ℤ◌, Bool, true, false, not, ◌&&◌, ◌||◌, cond, List, [], ◌∷◌, length, map, Option, Some, None, is_some, option_map, Result, Ok, Err, IfOk, unsigned_abs, refl, sym, ap, ◌∙◌, arith}
use Rattle.std.specs.Prelude.{◌==◌, nat_le}
use Rattle.std.specs.Option.{option_or}
use Rattle.std.specs.List.{list_all, AllByRecursion}
use Rattle.std.proofs.lemmas.Bool.{eqb-true}
use Rattle.std.proofs.lemmas.List.{length-map}
use Rattle.zl_value.specs.Fraction.{Fraction, whole}
use Rattle.zl_value.specs.Lists.{listed}
use Rattle.zl_value.specs.Order.{below}
use Rattle.zl_value.specs.Script.{IsTime, IsLineFor, AreAscending, IsSet, IsSetAtStart, IsScriptFor}
use Rattle.zl_value.specs.declared.script.Input.{Input}
use Rattle.zl_value.specs.declared.script.Script.{Script}
use Rattle.zl_value.specs.declared.script.Set.{Set}
use Rattle.zl_value.proofs.FractionLaws.{IsReduced-whole}
use Rattle.zl_value.proofs.Fractions.{lowest-unique}
use Rattle.zl_value.proofs.Ring.{zero-times, zero_of_abs}
use Rattle.zl_script.specs.declared.answer.ScriptAnswer.{ScriptAnswer}
use Rattle.zl_script.specs.declared.answer.ScriptAnswer.TheVariants as answer
use Rattle.zl_script.specs.declared.at_line.AtLine.{AtLine}
use Rattle.zl_script.specs.declared.parsed.Parsed.{Parsed}
use Rattle.zl_script.specs.Answer.{longest_script, refusal, script_line, script_of, unless_refused, checked, reading, IsReading}
use Rattle.zl_script.specs.Faults.{is_later, out_of_order, input_fault, is_set, all_set, sets_all, is_start, missing_at}
use Rattle.zl_script.specs.Parsed.{parsed}
use Rattle.zl_script.proofs.LineLemmas.{IsAtLine, IsParsedFor, parsed_is}

and_both : (a b : Bool) → (a && b) ≡ true → (a ≡ true) × (b ≡ true)
and_both true true e = (refl, refl)
and_both true false e = absurd (cc)
and_both false b e = absurd (cc)

not_true : (b : Bool) → not b ≡ true → b ≡ false
not_true true e = absurd (cc)
not_true false e = refl

-- the first of the lines is in order, and so are the others behind it
record IsFirst (horizon : Fraction) (before : Option Fraction) (l : AtLine) (ls : List AtLine) : Type 0 where
  later : is_later before l.time ≡ true
  inside : below horizon l.time ≡ false
  rest : out_of_order horizon (Some l.time) ls ≡ None

first_in_order : (horizon : Fraction) (before : Option Fraction) (l : AtLine) (ls : List AtLine) → out_of_order horizon before (l ∷ ls) ≡ None → IsFirst horizon before l ls
unfolding out_of_order
first_in_order horizon before l ls e = go (is_later before l.time && not (below horizon l.time)) refl e
  where
    go : (b : Bool) → (is_later before l.time && not (below horizon l.time)) ≡ b → cond b (out_of_order horizon (Some l.time) ls) (Some l.line) ≡ None → IsFirst horizon before l ls
    go true h e =
        let parts = and_both (is_later before l.time) (not (below horizon l.time)) h in
        record { later = parts.0; inside = not_true (below horizon l.time) parts.1; rest = e }
    go false h e = absurd (cc)

ascending_from : (horizon : Fraction) (l : AtLine) (ls : List AtLine) → out_of_order horizon (Some l.time) ls ≡ None → AreAscending (script_line l ∷ map script_line ls)
ascending_from horizon l [] e = tt
ascending_from horizon l (m ∷ ls) e =
    let first = first_in_order horizon (Some l.time) m ls e in
    (first.later, ascending_from horizon m ls first.rest)

ascending : (horizon : Fraction) (ls : List AtLine) → out_of_order horizon None ls ≡ None → AreAscending (map script_line ls)
ascending horizon [] e = tt
ascending horizon (l ∷ ls) e = ascending_from horizon l ls (first_in_order horizon None l ls e).rest

-- the sets of the first line, if none is at fault
record HasSets (l : AtLine) (ls : List AtLine) : Type 0 where
  sets : List Set
  are : l.sets ≡ Some sets
  rest : input_fault ls ≡ None

first_sets : (l : AtLine) (ls : List AtLine) → input_fault (l ∷ ls) ≡ None → HasSets l ls
unfolding input_fault
first_sets l ls e = go l.sets refl e
  where
    go : (o : Option (List Set)) → l.sets ≡ o → cond (is_some o) (input_fault ls) (Some l.line) ≡ None → HasSets l ls
    go None h e = absurd (cc)
    go (Some sets) h e = record { sets = sets; are = h; rest = e }

line_fits : (inputs : List Input) (horizon : Fraction) (l : AtLine) (sets : List Set) → IsAtLine inputs l → below horizon l.time ≡ false → l.sets ≡ Some sets
    → IsLineFor (map (λ i. i.ty) inputs) horizon (script_line l)
line_fits inputs horizon l sets good inside are =
    let fine = good.sets sets are in
    rw are (record { time = good.time; inside = inside; sets = fine.all; once = fine.once })

lines_fit : (inputs : List Input) (horizon : Fraction) (before : Option Fraction) (ls : List AtLine) → AllByRecursion (IsAtLine inputs) ls → out_of_order horizon before ls ≡ None
    → input_fault ls ≡ None → AllByRecursion (IsLineFor (map (λ i. i.ty) inputs) horizon) (map script_line ls)
lines_fit inputs horizon before [] all e h = tt
lines_fit inputs horizon before (l ∷ ls) all e h =
    let first = first_in_order horizon before l ls e in
    let has = first_sets l ls h in
    (line_fits inputs horizon l has.sets all.0 first.inside has.are, lines_fit inputs horizon (Some l.time) ls all.1 first.rest has.rest)

-- ---- the inputs are given

all_at : (f : ℕ → Bool) (n start k : ℕ) → list_all f (listed n start (λ k. k)) ≡ true → k < n → f (start + k) ≡ true
all_at f zero start k e small = absurd (omega arith)
all_at f (suc n) start zero e small =
    let none : start + 0 ≡ start = omega arith in
    ap f none ∙ (and_both (f start) (list_all f (listed n (suc start) (λ k. k))) e).0
all_at f (suc n) start (suc k) e small =
    let next : start + suc k ≡ suc start + k = omega arith in
    ap f next ∙ all_at f n (suc start) k (and_both (f start) (list_all f (listed n (suc start) (λ k. k))) e).1 (omega arith)

set_there : (sets : List Set) (k : ℕ) → is_set sets k ≡ true → IsSet k sets
set_there [] k e = absurd (cc)
set_there (s ∷ sets) k e = go (s.input == k) refl e (set_there sets k)
  where
    go : (b : Bool) → (s.input == k) ≡ b → (b || is_set sets k) ≡ true → (is_set sets k ≡ true → IsSet k sets) → IsSet k (s ∷ sets)
    go true h e further = (0, s, refl, eqb-true s.input k h)
    go false h e further = let there = further e in (suc there.0, there.1, there.2, there.3)

at_zero : (t : Fraction) → IsTime t → is_start t ≡ true → t ≡ whole (pos 0)
at_zero t good e =
    let none : t.num ≡ pos 0 = zero_of_abs t.num (eqb-true (unsigned_abs t.num) 0 e) in
    lowest-unique t (whole (pos 0)) good.number.reduced (IsReduced-whole (pos 0))
    (ap (λ z. z *ℤ pos 1) none ∙ zero-times (pos 1) ∙ sym (zero-times (pos t.den)))

given_at : (inputs : List Input) (n line : ℕ) (ls : List AtLine) → AllByRecursion (IsAtLine inputs) ls → input_fault ls ≡ None → missing_at n line ls ≡ None
    → (k : ℕ) → k < n → IsSetAtStart k (map script_line ls)
given_at inputs n line [] all h e k small = none (n == 0) refl e
  where
    none : (b : Bool) → (n == 0) ≡ b → cond b None (Some line) ≡ None → ⊥
    none true j e = absurd (omega (arith, eqb-true n 0 j))
    none false j e = absurd (cc)
given_at inputs n line (l ∷ ls) all h e k small = go (is_start l.time) refl e
  where
    late : (b : Bool) → (n == 0) ≡ b → cond b None (Some line) ≡ None → ⊥
    late true j e = absurd (omega (arith, eqb-true n 0 j))
    late false j e = absurd (cc)

    at_start : (sets : List Set) → l.sets ≡ Some sets → is_start l.time ≡ true → (b : Bool) → sets_all l.sets n ≡ b → cond b None (Some l.line) ≡ None → IsSetAtStart k (map script_line (l ∷ ls))
    at_start sets are j true i e =
        let all_are : all_set sets n ≡ true = sym (ap (λ o. sets_all o n) are) ∙ i in
        let from : k ≡ 0 + k = omega arith in
        (at_zero l.time all.0.time j, rw are (set_there sets k (ap (is_set sets) from ∙ all_at (is_set sets) n 0 k all_are small)))
    at_start sets are j false i e = absurd (cc)

    go : (b : Bool) → is_start l.time ≡ b → cond b (cond (sets_all l.sets n) None (Some l.line)) (cond (n == 0) None (Some line)) ≡ None → IsSetAtStart k (map script_line (l ∷ ls))
    go true j e = let has = first_sets l ls h in at_start has.sets has.are j (sets_all l.sets n) refl e
    go false j e = absurd (late (n == 0) refl e)

-- nothing is at fault
record IsFaultless (n : ℕ) (p : Parsed) : Type 0 where
  order : out_of_order p.horizon None p.lines ≡ None
  input : input_fault p.lines ≡ None
  missing : missing_at n p.line p.lines ≡ None

faultless : (n : ℕ) (p : Parsed) → refusal n p ≡ None → IsFaultless n p
faultless n p e = go (out_of_order p.horizon None p.lines) refl (input_fault p.lines) refl (missing_at n p.line p.lines) refl e
  where
    go : (a : Option ℕ) → out_of_order p.horizon None p.lines ≡ a → (b : Option ℕ) → input_fault p.lines ≡ b → (c : Option ℕ) → missing_at n p.line p.lines ≡ c
        → option_or (option_map answer.Order a) (option_or (option_map answer.Input b) (option_map answer.Missing c)) ≡ None → IsFaultless n p
    go None h None i None j e = record { order = h; input = i; missing = j }
    go None h None i (Some c) j e = absurd (cc)
    go None h (Some b) i c j e = absurd (cc)
    go (Some a) h b i c j e = absurd (cc)

script_fits : (inputs : List Input) (p : Parsed) → IsParsedFor inputs p → IsFaultless (length inputs) p → IsScriptFor (map (λ i. i.ty) inputs) (script_of p)
script_fits inputs p good fine = record {
  horizon = good.horizon;
  some_step = good.some;
  few_steps = good.few;
  lines = lines_fit inputs p.horizon None p.lines good.lines fine.order fine.input;
  ascending = ascending p.horizon p.lines fine.order;
  given = λ k small. given_at inputs (length inputs) p.line p.lines good.lines fine.input fine.missing k (omega (arith, small, length-map inputs (λ (i : Input). i.ty)));
}

pub reading_fits : (inputs : List Input) (text : List ℕ) (s : Script) → reading inputs text ≡ Ok s → IsScriptFor (map (λ i. i.ty) inputs) s
unfolding reading
reading_fits inputs text s e = short (nat_le (length text) longest_script) e
  where
    unrefused : (p : Parsed) → parsed inputs text ≡ Ok p → (r : Option ScriptAnswer) → refusal (length inputs) p ≡ r → unless_refused p r ≡ Ok s → IsScriptFor (map (λ i. i.ty) inputs) s
    unrefused p h None j e =
        let is : script_of p ≡ s = cc in
        rw (← is) (script_fits inputs p (parsed_is inputs text p h) (faultless (length inputs) p j))
    unrefused p h (Some a) j e = absurd (cc)

    read : (r : Result Parsed ℕ) → parsed inputs text ≡ r → checked (length inputs) r ≡ Ok s → IsScriptFor (map (λ i. i.ty) inputs) s
    read (Err n) h e = absurd (cc)
    read (Ok p) h e = unrefused p h (refusal (length inputs) p) refl e

    short : (b : Bool) → cond b (checked (length inputs) (parsed inputs text)) (Err (answer.Size 1)) ≡ Ok s → IsScriptFor (map (λ i. i.ty) inputs) s
    short true e = read (parsed inputs text) refl e
    short false e = absurd (cc)

pub answer_fits : (inputs : List Input) (text : List ℕ) (result : Result Script ScriptAnswer) → IsReading (reading inputs text) result → IfOk result (IsScriptFor (map (λ i. i.ty) inputs))
answer_fits inputs text (Ok s) h = reading_fits inputs text s (sym h)
answer_fits inputs text (Err e) h = tt
