-- What is read from lines is as a script wants it.
use Rattle.std.proofs.Common.{◌≡◌, ℕ, zero, suc, ◌+◌, ◌≤◌, Bool, true, false, ◌&&◌, ◌||◌, cond, List, [], ◌∷◌, length, map, drop, take, codes, Option, Some, None, option_map, Result, Ok, Err, refl, ap, ap₂, ◌∙◌, arith}
use Rattle.std.specs.Prelude.{◌==◌, option_and_then, slice_get, nat_le}
use Rattle.std.specs.List.{list_any, AllByRecursion}
use Rattle.std.specs.Str.{bytes_eq, is_utf8}
use Rattle.std.proofs.lemmas.Bool.{or_parts, eqb-false, leb-true}
use Rattle.zl_lexer.specs.Words.{is_identifier}
use Rattle.zl_value.specs.Fraction.{Fraction}
use Rattle.zl_value.specs.Decimal.{unsigned_number}
use Rattle.zl_value.specs.Script.{IsTime, AllOther, AreOnce, IsSetFor}
use Rattle.zl_value.specs.declared.script.Input.{Input}
use Rattle.zl_value.specs.declared.script.Set.{Set}
use Rattle.zl_script.specs.declared.at_line.AtLine.{AtLine}
use Rattle.zl_script.specs.declared.literal.Literal.{Literal}
use Rattle.zl_script.specs.declared.parsed.Parsed.{Parsed}
use Rattle.zl_script.specs.Assignments.{Assignment, name_len, assignment_of, assignments_of, set_of, sets_of, has_twice}
use Rattle.zl_script.specs.Cut.{lines_of}
use Rattle.zl_script.specs.Faults.{is_set}
use Rattle.zl_script.specs.Grammar.{behind, single, horizon_of, steps_of, timed, behind_at, at_of}
use Rattle.zl_script.specs.Items.{Item, items}
use Rattle.zl_script.specs.Lists.{each}
use Rattle.zl_script.specs.Numbers.{time_of, if_allowed, step_count, most_steps, literal_of}
use Rattle.zl_script.specs.Parsed.{with_line, at_lines, made, with_steps, behind_horizon, with_horizon, parsed_items, parsed}
use Rattle.zl_script.proofs.ListLemmas.{each_first}
use Rattle.zl_script.proofs.NameLemmas.{set_parts, set_where_named}
use Rattle.zl_script.proofs.SetLemmas.{are_sets}
use Rattle.zl_script.proofs.TableLemmas.{bytes_eq_flip}
use Rattle.zl_script.proofs.TimeLemmas.{IsLiteral, time_is, literal_is, value_is}

slice_get-map : {X Y : Type 0} (f : X → Y) (xs : List X) (k : ℕ) (x : X) → slice_get xs k ≡ Some x → slice_get (map f xs) k ≡ Some (f x)
slice_get-map f [] k x e = absurd (cc)
slice_get-map f (y ∷ ys) zero x e = let is : y ≡ x = cc in ap (λ z. Some (f z)) is
slice_get-map f (y ∷ ys) (suc k) x e = slice_get-map f ys k x e

assignment_is : (word : List ℕ) (a : Assignment) → assignment_of word ≡ Some a → IsLiteral a.value
assignment_is word a e = go (is_utf8 (take (name_len word) word) && is_identifier (take (name_len word) word)) e
  where
    with_value : (v : Option Literal) → literal_of (drop (name_len word + 1) word) ≡ v
        → option_map (λ v. record { name = take (name_len word) word; value = v }) v ≡ Some a → IsLiteral a.value
    with_value None h e = absurd (cc)
    with_value (Some v) h e =
        let is : record { name = take (name_len word) word; value = v } ≡ a = cc in
        rw (← is) (literal_is (drop (name_len word + 1) word) v h)

    go : (b : Bool) → cond b (option_map (λ v. record { name = take (name_len word) word; value = v }) (literal_of (drop (name_len word + 1) word))) None ≡ Some a → IsLiteral a.value
    go true e = with_value (literal_of (drop (name_len word + 1) word)) refl e
    go false e = absurd (cc)

assigned_are : (words : List (List ℕ)) (given : List Assignment) → assignments_of words ≡ Some given → AllByRecursion (λ a. IsLiteral a.value) given
assigned_are [] given e = let none : given ≡ [] = cc in rw none tt
assigned_are (word ∷ words) given e =
    let parts = each_first assignment_of word words given e in
    rw parts.is (assignment_is word parts.first parts.at, assigned_are words parts.rest parts.others)

-- the sets of a line
pub record AreGood (inputs : List Input) (sets : List Set) : Type 0 where
  pub all : AllByRecursion (IsSetFor (map (λ i. i.ty) inputs)) sets
  pub once : AreOnce sets

all_good : (inputs : List Input) (given : List Assignment) (sets : List Set) → each (set_of inputs) given ≡ Some sets → AllByRecursion (λ a. IsLiteral a.value) given
    → AllByRecursion (IsSetFor (map (λ i. i.ty) inputs)) sets
all_good inputs [] sets e h = let none : sets ≡ [] = cc in rw none tt
all_good inputs (a ∷ given) sets e h =
    let parts = each_first (set_of inputs) a given sets e in
    let first = set_parts inputs a parts.first parts.at in
    rw parts.is (
      (first.item.ty, slice_get-map (λ i. i.ty) inputs parts.first.input first.item first.there, value_is first.item.ty a.value parts.first.value h.0 first.value),
      all_good inputs given parts.rest parts.others h.1,
    )

others_from : (sets : List Set) (k : ℕ) → is_set sets k ≡ false → AllOther k sets
others_from [] k e = tt
others_from (s ∷ sets) k e =
    let parts = or_parts (s.input == k) (is_set sets k) e in
    (eqb-false s.input k parts.0, others_from sets k parts.1)

any_flip : (name : List ℕ) (names : List (List ℕ)) → list_any (bytes_eq name) names ≡ list_any (λ other. bytes_eq other name) names
any_flip name [] = refl
any_flip name (n ∷ names) = ap₂ (λ a b. a || b) (bytes_eq_flip name n) (any_flip name names)

once_good : (inputs : List Input) (given : List Assignment) (sets : List Set) → each (set_of inputs) given ≡ Some sets → has_twice (map (λ a. a.name) given) ≡ false → AreOnce sets
once_good inputs [] sets e h = let none : sets ≡ [] = cc in rw none tt
once_good inputs (a ∷ given) sets e h =
    let parts = each_first (set_of inputs) a given sets e in
    let first = set_parts inputs a parts.first parts.at in
    let apart = or_parts (list_any (λ other. bytes_eq other a.name) (map (λ a. a.name) given)) (has_twice (map (λ a. a.name) given)) h in
    let unset : is_set parts.rest parts.first.input ≡ false =
    set_where_named inputs given parts.rest a.name parts.first.input parts.others first.number ∙ any_flip a.name (map (λ a. a.name) given) ∙ apart.0 in
    rw parts.is (others_from parts.rest parts.first.input unset, once_good inputs given parts.rest parts.others apart.1)

-- a line at a time
pub record IsAtLine (inputs : List Input) (l : AtLine) : Type 0 where
  pub time : IsTime l.time
  pub sets : (sets : List Set) → l.sets ≡ Some sets → AreGood inputs sets

at_is : (inputs : List Input) (n : ℕ) (words : List (List ℕ)) (l : AtLine) → at_of inputs n words ≡ Some l → IsAtLine inputs l
at_is inputs n words l e = go (behind (codes "at") words) e
  where
    assigned : (ws : List (List ℕ)) (t : Fraction) → IsTime t → (given : Option (List Assignment)) → assignments_of ws ≡ given
        → option_map (λ given. record { line = n; time = t; sets = sets_of inputs given }) given ≡ Some l → IsAtLine inputs l
    assigned ws t good None h e = absurd (cc)
    assigned ws t good (Some given) h e =
        let is : record { line = n; time = t; sets = sets_of inputs given } ≡ l = cc in
        rw (← is) (record {
          time = good;
          sets = λ sets k.
              let parts = are_sets inputs given sets k in
              record { all = all_good inputs given sets parts.made (assigned_are ws given h); once = once_good inputs given sets parts.made parts.once };
        })

    at_time : (ws : List (List ℕ)) (time : List ℕ) (t : Option Fraction) → time_of time ≡ t → option_and_then (timed inputs n ws) t ≡ Some l → IsAtLine inputs l
    at_time ws time None h e = absurd (cc)
    at_time ws time (Some t) h e = assigned ws t (time_is time t h) (assignments_of ws) refl e

    go : (rest : Option (List (List ℕ))) → option_and_then (behind_at inputs n) rest ≡ Some l → IsAtLine inputs l
    go None e = absurd (cc)
    go (Some []) e = absurd (cc)
    go (Some (time ∷ ws)) e = at_time ws time (time_of time) refl e

lines_are : (inputs : List Input) (is : List Item) (ls : List AtLine) → at_lines inputs is ≡ Ok ls → AllByRecursion (IsAtLine inputs) ls
unfolding at_lines
lines_are inputs [] ls e = let none : ls ≡ [] = cc in rw none tt
lines_are inputs (i ∷ is) ls e = go (at_of inputs i.line i.words) refl (at_lines inputs is) refl e (lines_are inputs is)
  where
    go : (o : Option AtLine) → at_of inputs i.line i.words ≡ o → (r : Result (List AtLine) ℕ) → at_lines inputs is ≡ r → with_line i.line o r ≡ Ok ls
        → ((ms : List AtLine) → at_lines inputs is ≡ Ok ms → AllByRecursion (IsAtLine inputs) ms) → AllByRecursion (IsAtLine inputs) ls
    go None h r k e further = absurd (cc)
    go (Some l) h (Err n) k e further = absurd (cc)
    go (Some l) h (Ok ms) k e further =
        let all : l ∷ ms ≡ ls = cc in
        rw (← all) (at_is inputs i.line i.words l h, further ms k)

-- what the lines of a text say
pub record IsParsedFor (inputs : List Input) (p : Parsed) : Type 0 where
  pub horizon : IsTime p.horizon
  pub some : 1 ≤ p.steps
  pub few : p.steps ≤ 1000000
  pub lines : AllByRecursion (IsAtLine inputs) p.lines

made_is : (inputs : List Input) (line : ℕ) (h : Fraction) (k : ℕ) (is : List Item) (p : Parsed) → IsTime h → 1 ≤ k → k ≤ 1000000
    → made line h k (at_lines inputs is) ≡ Ok p → IsParsedFor inputs p
made_is inputs line h k is p good some few e = go (at_lines inputs is) refl e
  where
    go : (r : Result (List AtLine) ℕ) → at_lines inputs is ≡ r → made line h k r ≡ Ok p → IsParsedFor inputs p
    go (Err n) j e = absurd (cc)
    go (Ok ls) j e =
        let all : record { line = line; horizon = h; steps = k; lines = ls } ≡ p = cc in
        rw (← all) (record { horizon = good; some = some; few = few; lines = lines_are inputs is ls j })

single_time : (o : Option (List ℕ)) (t : Fraction) → option_and_then time_of o ≡ Some t → IsTime t
single_time None t e = absurd (cc)
single_time (Some w) t e = time_is w t e

single_count : (o : Option (List ℕ)) (k : ℕ) → option_and_then step_count o ≡ Some k → (1 ≤ k) × (k ≤ 1000000)
single_count None k e = absurd (cc)
single_count (Some w) k e = go (unsigned_number w) e
  where
    bounds : (n : ℕ) (a : Bool) → nat_le 1 n ≡ a → (b : Bool) → nat_le n most_steps ≡ b → cond (a && b) (Some n) None ≡ Some k → (1 ≤ k) × (k ≤ 1000000)
    bounds n true h true j e = let is : n ≡ k = cc in rw (← is) (leb-true 1 n h, leb-true n most_steps j)
    bounds n true h false j e = absurd (cc)
    bounds n false h b j e = absurd (cc)

    go : (n : Option ℕ) → option_and_then if_allowed n ≡ Some k → (1 ≤ k) × (k ≤ 1000000)
    go None e = absurd (cc)
    go (Some n) e = bounds n (nat_le 1 n) refl (nat_le n most_steps) refl e

behind_is : (inputs : List Input) (line : ℕ) (h : Fraction) (is : List Item) (p : Parsed) → IsTime h → behind_horizon inputs line h is ≡ Ok p → IsParsedFor inputs p
unfolding at_lines
behind_is inputs line h [] p good e = made_is inputs line h most_steps [] p good (omega arith) (omega arith) e
behind_is inputs line h (i ∷ is) p good e = go (steps_of i.words) refl e
  where
    go : (k : Option ℕ) → steps_of i.words ≡ k → with_steps inputs line h i is k ≡ Ok p → IsParsedFor inputs p
    go None j e = made_is inputs line h most_steps (i ∷ is) p good (omega arith) (omega arith) e
    go (Some k) j e =
        let bounds = single_count (option_and_then single (behind (codes "steps") i.words)) k j in
        made_is inputs line h k is p good bounds.0 bounds.1 e

pub parsed_is : (inputs : List Input) (text : List ℕ) (p : Parsed) → parsed inputs text ≡ Ok p → IsParsedFor inputs p
unfolding parsed
parsed_is inputs text p e = go (items 1 (lines_of text)) e
  where
    at_horizon : (i : Item) (is : List Item) (h : Option Fraction) → horizon_of i.words ≡ h → with_horizon inputs i.line is h ≡ Ok p → IsParsedFor inputs p
    at_horizon i is None j e = absurd (cc)
    at_horizon i is (Some h) j e =
        behind_is inputs i.line h is p (single_time (option_and_then single (behind (codes "horizon") i.words)) h j) e

    go : (is : List Item) → parsed_items inputs (1 + length (lines_of text)) is ≡ Ok p → IsParsedFor inputs p
    go [] e = absurd (cc)
    go (i ∷ is) e = at_horizon i is (horizon_of i.words) refl e
