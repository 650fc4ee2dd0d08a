-- The faults of lines, line after line.
use Rattle.std.proofs.Common.{◌≡◌, ℕ, suc, ◌+◌, ◌<◌, ◌≤◌, Bool, true, false, not, ◌&&◌, ◌||◌, List, [], ◌∷◌, ◌++◌, length, take, drop, get_or, Option, Some, None, is_some, refl, sym, ap, ap₂, ◌∙◌, arith, ◌⊎◌, inl, inr, get_or-set_same, get_or-set_other}
use Rattle.std.specs.Prelude.{◌==◌, slice_set}
use Rattle.std.specs.List.{list_all}
use Rattle.std.proofs.lemmas.Bool.{cond-true, cond-false, cases_eq, eq-eqb, ne_eqb}
use Rattle.std.proofs.lemmas.List.{at_drop_more, at_drop_all, take_more, take_all, length-set}
use Rattle.std.proofs.lemmas.List.Folds.{list_any-append}
use Rattle.zl_value.specs.Fraction.{Fraction}
use Rattle.zl_value.specs.Lists.{listed}
use Rattle.zl_value.specs.Order.{below}
use Rattle.zl_value.specs.declared.script.Set.{Set}
use Rattle.zl_script.specs.declared.at_line.AtLine.{AtLine}
use Rattle.zl_script.specs.Faults.{is_later, out_of_order, input_fault, is_set, all_set}
use Rattle.zl_script.proofs.ListLemmas.{any_at}

abbrev in_order : Fraction → Option Fraction → Fraction → Bool
in_order horizon before time = is_later before time && not (below horizon time)

pub order_more : (horizon : Fraction) (before : Option Fraction) (lines : List AtLine) (i : ℕ) (l : AtLine) → i < length lines → l ≡ get_or lines i l
    → in_order horizon before l.time ≡ true → out_of_order horizon before (drop i lines) ≡ out_of_order horizon (Some l.time) (drop (i + 1) lines)
unfolding out_of_order
order_more horizon before lines i l within is e =
    at_drop_more (out_of_order horizon before) lines i l within
    ∙ ap (λ x. out_of_order horizon before (x ∷ drop (i + 1) lines)) (sym is)
    ∙ cond-true _ _ _ e

pub order_stop : (horizon : Fraction) (before : Option Fraction) (lines : List AtLine) (i : ℕ) (l : AtLine) → i < length lines → l ≡ get_or lines i l
    → in_order horizon before l.time ≡ false → out_of_order horizon before (drop i lines) ≡ Some l.line
unfolding out_of_order
order_stop horizon before lines i l within is e =
    at_drop_more (out_of_order horizon before) lines i l within
    ∙ ap (λ x. out_of_order horizon before (x ∷ drop (i + 1) lines)) (sym is)
    ∙ cond-false _ _ _ e

pub order_end : (horizon : Fraction) (before : Option Fraction) (lines : List AtLine) (i : ℕ) → length lines ≤ i → out_of_order horizon before (drop i lines) ≡ None
unfolding out_of_order
order_end horizon before lines i past = at_drop_all (out_of_order horizon before) lines i past

pub fault_more : (lines : List AtLine) (i : ℕ) (l : AtLine) → i < length lines → l ≡ get_or lines i l → is_some l.sets ≡ true → input_fault (drop i lines) ≡ input_fault (drop (i + 1) lines)
unfolding input_fault
fault_more lines i l within is e =
    at_drop_more input_fault lines i l within ∙ ap (λ x. input_fault (x ∷ drop (i + 1) lines)) (sym is) ∙ cond-true _ _ _ e

pub fault_stop : (lines : List AtLine) (i : ℕ) (l : AtLine) → i < length lines → l ≡ get_or lines i l → is_some l.sets ≡ false → input_fault (drop i lines) ≡ Some l.line
unfolding input_fault
fault_stop lines i l within is e =
    at_drop_more input_fault lines i l within ∙ ap (λ x. input_fault (x ∷ drop (i + 1) lines)) (sym is) ∙ cond-false _ _ _ e

pub fault_end : (lines : List AtLine) (i : ℕ) → length lines ≤ i → input_fault (drop i lines) ≡ None
unfolding input_fault
fault_end lines i past = at_drop_all input_fault lines i past

-- ---- marks

or_false : (b : Bool) → (b || false) ≡ b
or_false true = refl
or_false false = refl

-- the marks of the first sets
pub record AreMarks (count : ℕ) (sets : List Set) (given : List Bool) : Type 0 where
  pub room : length given ≡ count
  pub marks : (k : ℕ) → k < count → get_or given k false ≡ is_set sets k

pub marks_none : (count : ℕ) (given : List Bool) → length given ≡ count → ((k : ℕ) → get_or given k false ≡ false) → AreMarks count [] given
marks_none count given room none = record { room = room; marks = λ k _. none k }

pub marks_more : (count : ℕ) (sets : List Set) (given : List Bool) (i : ℕ) (d : Set) → i < length sets → AreMarks count (take i sets) given
    → AreMarks count (take (i + 1) sets) (slice_set given (get_or sets i d).input true)
marks_more count sets given i d within m = record {
  room = length-set given (get_or sets i d).input true ∙ m.room;
  marks = λ k small. at_input k small (cases_eq k (get_or sets i d).input);
}
  where
    more : (k : ℕ) → is_set (take (i + 1) sets) k ≡ is_set (take i sets ++ get_or sets i d ∷ []) k
    more k = ap (λ ss. is_set ss k) (take_more sets i d within)

    at_input : (k : ℕ) → k < count → (k ≡ (get_or sets i d).input) ⊎ (k ≡ (get_or sets i d).input → ⊥)
        → get_or (slice_set given (get_or sets i d).input true) k false ≡ is_set (take (i + 1) sets) k
    at_input k small (inl same) =
        ap (λ j. get_or (slice_set given (get_or sets i d).input true) j false) same
        ∙ get_or-set_same given (get_or sets i d).input true false (omega (arith, m.room, same))
        ∙ sym (any_at (λ s. s.input == k) (take i sets) (get_or sets i d) [] (eq-eqb (get_or sets i d).input k (sym same)))
        ∙ sym (more k)
    at_input k small (inr apart) =
        get_or-set_other given (get_or sets i d).input k true false apart
        ∙ m.marks k small
        ∙ sym (more k ∙ list_any-append (λ s. s.input == k) (take i sets) (get_or sets i d ∷ [])
        ∙ ap (λ b. is_set (take i sets) k || (b || false)) (ne_eqb (get_or sets i d).input k (λ e. apart (sym e)))
        ∙ or_false (is_set (take i sets) k))

all_from : (f : ℕ → Bool) (given : List Bool) (start : ℕ) → ((j : ℕ) → j < length given → get_or given j false ≡ f (start + j)) → list_all (λ b. b) given ≡ list_all f (listed (length given) start (λ k. k))
all_from f [] start same = refl
all_from f (b ∷ bs) start same =
    let none : start + 0 ≡ start = omega arith in
    let here : b ≡ f start = same 0 (omega arith) ∙ ap f none in
    ap₂ (λ x y. x && y) here
    (all_from f bs (suc start) (λ j small. let next : start + suc j ≡ suc start + j = omega arith in same (suc j) (omega arith) ∙ ap f next))

pub marks_all : (count : ℕ) (sets : List Set) (given : List Bool) (i : ℕ) → length sets ≤ i → AreMarks count (take i sets) given → list_all (λ b. b) given ≡ all_set sets count
marks_all count sets given i past m =
    all_from (is_set sets) given 0
    (λ j small. let from : j ≡ 0 + j = omega arith in m.marks j (omega (arith, m.room)) ∙ ap (λ ss. is_set ss j) (take_all i sets past) ∙ ap (is_set sets) from)
    ∙ ap (λ n. list_all (is_set sets) (listed n 0 (λ k. k))) m.room
