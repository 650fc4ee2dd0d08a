-- The assignments of a line read one after another.
use Rattle.std.proofs.Common.{◌≡◌, ℕ, ◌<◌, ◌≤◌, Bool, true, false, not, ◌&&◌, ◌||◌, cond, List, [], ◌∷◌, ◌++◌, length, map, Option, Some, None, option_map, IfSome, refl, sym, ap, ◌∙◌, subst, arith, append_assoc, ◌⊎◌, inl, inr, get_or-set_same, get_or-set_other}
use Rattle.std.specs.Prelude.{◌==◌, slice_index, slice_set, option_and_then}
use Rattle.std.specs.List.{list_any}
use Rattle.std.specs.Str.{bytes_eq}
use Rattle.std.proofs.lemmas.Bool.{cond-true, cond-false, cases_eq, cases_lt, eq-eqb, ne_eqb}
use Rattle.std.proofs.lemmas.List.{map-append, length-set, set_past}
use Rattle.std.proofs.lemmas.List.Folds.{list_any-append}
use Rattle.zl_value.specs.declared.script.Input.{Input}
use Rattle.zl_value.specs.declared.script.Set.{Set}
use Rattle.zl_script.specs.Assignments.{Assignment, assignment_of, assignments_of, set_of, sets_of, has_twice}
use Rattle.zl_script.specs.Faults.{is_set}
use Rattle.zl_script.specs.Lists.{each}
use Rattle.zl_script.specs.Marks.{is_first, with_set, marked}
use Rattle.zl_script.proofs.ListLemmas.{each_none, each_push, any_at}
use Rattle.zl_script.proofs.NameLemmas.{twice_at, twice_push, set_parts, set_where_named}

-- the words before `rest` are read: what they set, and for each input whether it is among that
pub record IsReadTo (inputs : List Input) (words rest : List (List ℕ)) (sets : List Set) (faultless : Bool) (last : List ℕ) (line : ℕ) : Type 0 where
  pub front : List Assignment
  pub words_are : assignments_of words ≡ option_map (λ given. front ++ given) (assignments_of rest)
  pub good : faultless ≡ true → sets_of inputs front ≡ Some sets
  pub bad : faultless ≡ false → (more : List Assignment) → sets_of inputs (front ++ more) ≡ None
  pub marked : faultless ≡ true → (k : ℕ) → k < length inputs → (slice_index last k == line) ≡ is_set sets k
  pub room : length last ≡ length inputs
  pub until : (k : ℕ) → slice_index last k ≤ line

-- ---- the sets of assignments

pub sets_twice : (inputs : List Input) (list : List Assignment) → has_twice (map (λ a. a.name) list) ≡ true → sets_of inputs list ≡ None
unfolding sets_of
sets_twice inputs list e = cond-true _ _ _ e

pub sets_none : (inputs : List Input) (list : List Assignment) → each (set_of inputs) list ≡ None → sets_of inputs list ≡ None
unfolding sets_of
sets_none inputs list e = go (has_twice (map (λ a. a.name) list))
  where
    go : (b : Bool) → cond b None (each (set_of inputs) list) ≡ None
    go true = refl
    go false = e

pub sets_made : (inputs : List Input) (list : List Assignment) (sets : List Set) → has_twice (map (λ a. a.name) list) ≡ false → each (set_of inputs) list ≡ Some sets → sets_of inputs list ≡ Some sets
unfolding sets_of
sets_made inputs list sets e h = cond-false _ _ _ e ∙ h

-- the sets of a line, and that no name stands twice
pub record AreSets (inputs : List Input) (list : List Assignment) (sets : List Set) : Type 0 where
  pub once : has_twice (map (λ a. a.name) list) ≡ false
  pub made : each (set_of inputs) list ≡ Some sets

pub are_sets : (inputs : List Input) (list : List Assignment) (sets : List Set) → sets_of inputs list ≡ Some sets → AreSets inputs list sets
unfolding sets_of
are_sets inputs list sets e = go (has_twice (map (λ a. a.name) list)) refl e
  where
    go : (b : Bool) → has_twice (map (λ a. a.name) list) ≡ b → cond b None (each (set_of inputs) list) ≡ Some sets → AreSets inputs list sets
    go true h e = absurd (cc)
    go false h e = record { once = h; made = e }

-- ---- one word more

map_again : {X : Type 0} (front : List X) (x : X) (o : Option (List X)) → option_map (λ given. front ++ given) (option_map (λ given. x ∷ given) o) ≡ option_map (λ given. (front ++ x ∷ []) ++ given) o
map_again front x None = refl
map_again front x (Some list) = ap Some (sym (append_assoc front (x ∷ []) list))

more_words : (words rest behind : List (List ℕ)) (word : List ℕ) (front : List Assignment) (a : Assignment) → assignments_of words ≡ option_map (λ given. front ++ given) (assignments_of rest)
    → rest ≡ word ∷ behind → assignment_of word ≡ Some a → assignments_of words ≡ option_map (λ given. (front ++ a ∷ []) ++ given) (assignments_of behind)
more_words words rest behind word front a e is h =
    e ∙ ap (λ r. option_map (λ given. front ++ given) (assignments_of r)) is
    ∙ ap (λ o. option_map (λ given. front ++ given) (option_and_then (λ y. option_map (λ ys. y ∷ ys) (assignments_of behind)) o)) h
    ∙ map_again front a (assignments_of behind)

more_bad : (inputs : List Input) (front : List Assignment) (a : Assignment) → ((more : List Assignment) → sets_of inputs (front ++ more) ≡ None) → (more : List Assignment) → sets_of inputs ((front ++ a ∷ []) ++ more) ≡ None
more_bad inputs front a bad more = ap (sets_of inputs) (append_assoc front (a ∷ []) more) ∙ bad (a ∷ more)

names_behind : (front : List Assignment) (a : Assignment) (more : List Assignment) → map (λ a. a.name) (front ++ a ∷ more) ≡ map (λ a. a.name) front ++ a.name ∷ map (λ a. a.name) more
names_behind front a more = map-append (λ a. a.name) front (a ∷ more)

-- nothing is read yet
pub read_none : (inputs : List Input) (words : List (List ℕ)) (last : List ℕ) (line : ℕ) → length last ≡ length inputs → ((k : ℕ) → slice_index last k < line)
    → IsReadTo inputs words words [] true last line
unfolding sets_of
read_none inputs words last line room before = record {
  front = [];
  words_are = same (assignments_of words);
  good = λ _. refl;
  bad = λ e. absurd (cc);
  marked = λ _ k h. ne_eqb (slice_index last k) line (λ e. absurd (omega (arith, before k, e)));
  room = room;
  until = λ k. omega (arith, before k);
}
  where
    same : (o : Option (List Assignment)) → o ≡ option_map (λ given. given) o
    same None = refl
    same (Some list) = refl

-- an assignment sets nothing
pub read_wrong : (inputs : List Input) (words rest behind : List (List ℕ)) (word : List ℕ) (a : Assignment) (sets : List Set) (faultless : Bool) (last : List ℕ) (line : ℕ)
    → IsReadTo inputs words rest sets faultless last line → rest ≡ word ∷ behind → assignment_of word ≡ Some a → set_of inputs a ≡ None
    → IsReadTo inputs words behind sets false last line
read_wrong inputs words rest behind word a sets faultless last line read is h none = record {
  front = read.front ++ a ∷ [];
  words_are = more_words words rest behind word read.front a read.words_are is h;
  good = λ e. absurd (cc);
  bad = λ _ more.
      ap (sets_of inputs) (append_assoc read.front (a ∷ []) more)
      ∙ sets_none inputs (read.front ++ a ∷ more) (each_none (set_of inputs) read.front a more none);
  marked = λ e. absurd (cc);
  room = read.room;
  until = read.until;
}

until_set : (last : List ℕ) (j line : ℕ) → ((k : ℕ) → slice_index last k ≤ line) → (k : ℕ) → slice_index (slice_set last j line) k ≤ line
until_set last j line until k =
    elim (cases_eq k j) [
      | inl e ↦ at_place (cases_lt j (length last)) e
      | inr apart ↦ rw (get_or-set_other last j k line 0 apart) (until k)
    ]
  where
    at_place : (j < length last) ⊎ (length last ≤ j) → k ≡ j → slice_index (slice_set last j line) k ≤ line
    at_place (inl within) e = let is : slice_index (slice_set last j line) k ≡ line = ap (slice_index (slice_set last j line)) e ∙ get_or-set_same last j line 0 within in omega arith
    at_place (inr past) e = let is : slice_set last j line ≡ last = set_past last j line past in rw is (until k)

-- an assignment sets an input that the line has set
pub read_twice : (inputs : List Input) (words rest behind : List (List ℕ)) (word : List ℕ) (a : Assignment) (set : Set) (sets : List Set) (faultless : Bool) (last : List ℕ) (line : ℕ)
    → IsReadTo inputs words rest sets faultless last line → rest ≡ word ∷ behind → assignment_of word ≡ Some a → set_of inputs a ≡ Some set
    → (slice_index last set.input == line) ≡ true → IsReadTo inputs words behind sets false (slice_set last set.input line) line
read_twice inputs words rest behind word a set sets faultless last line read is h some again = record {
  front = read.front ++ a ∷ [];
  words_are = more_words words rest behind word read.front a read.words_are is h;
  good = λ e. absurd (cc);
  bad = λ _ more. go faultless refl more;
  marked = λ e. absurd (cc);
  room = length-set last set.input line ∙ read.room;
  until = until_set last set.input line read.until;
}
  where
    go : (b : Bool) → faultless ≡ b → (more : List Assignment) → sets_of inputs ((read.front ++ a ∷ []) ++ more) ≡ None
    go false e more = more_bad inputs read.front a (read.bad e) more
    go true e more =
        let parts = set_parts inputs a set some in
        let named : list_any (bytes_eq a.name) (map (λ a. a.name) read.front) ≡ true =
        sym (set_where_named inputs read.front sets a.name set.input (are_sets inputs read.front sets (read.good e)).made parts.number)
        ∙ sym (read.marked e set.input parts.within) ∙ again in
        ap (sets_of inputs) (append_assoc read.front (a ∷ []) more)
        ∙ sets_twice inputs (read.front ++ a ∷ more)
        (ap has_twice (names_behind read.front a more) ∙ twice_at (map (λ a. a.name) read.front) a.name (map (λ a. a.name) more) named)

-- or one that the line hasn't set
pub read_more : (inputs : List Input) (words rest behind : List (List ℕ)) (word : List ℕ) (a : Assignment) (set : Set) (sets : List Set) (faultless : Bool) (last : List ℕ) (line : ℕ)
    → IsReadTo inputs words rest sets faultless last line → rest ≡ word ∷ behind → assignment_of word ≡ Some a → set_of inputs a ≡ Some set
    → (slice_index last set.input == line) ≡ false → IsReadTo inputs words behind (sets ++ set ∷ []) faultless (slice_set last set.input line) line
read_more inputs words rest behind word a set sets faultless last line read is h some first = record {
  front = read.front ++ a ∷ [];
  words_are = more_words words rest behind word read.front a read.words_are is h;
  good = λ e. made e;
  bad = λ e. more_bad inputs read.front a (read.bad e);
  marked = λ e k within. marks e k within;
  room = length-set last set.input line ∙ read.room;
  until = until_set last set.input line read.until;
}
  where
    made : faultless ≡ true → sets_of inputs (read.front ++ a ∷ []) ≡ Some (sets ++ set ∷ [])
    made e =
        let parts = set_parts inputs a set some in
        let before = are_sets inputs read.front sets (read.good e) in
        let named : list_any (bytes_eq a.name) (map (λ a. a.name) read.front) ≡ false =
        sym (set_where_named inputs read.front sets a.name set.input before.made parts.number)
        ∙ sym (read.marked e set.input parts.within) ∙ first in
        sets_made inputs (read.front ++ a ∷ []) (sets ++ set ∷ [])
        (ap has_twice (names_behind read.front a []) ∙ twice_push (map (λ a. a.name) read.front) a.name before.once named)
        (each_push (set_of inputs) read.front sets a set before.made some)

    marks : faultless ≡ true → (k : ℕ) → k < length inputs → (slice_index (slice_set last set.input line) k == line) ≡ is_set (sets ++ set ∷ []) k
    marks e k within =
        elim (cases_eq k set.input) [
          | inl same ↦ (
              let here : slice_index (slice_set last set.input line) k ≡ line =
              ap (slice_index (slice_set last set.input line)) same
              ∙ get_or-set_same last set.input line 0 (omega (arith, read.room, within, same)) in
              eq-eqb (slice_index (slice_set last set.input line) k) line here
              ∙ sym (any_at (λ s. s.input == k) sets set [] (eq-eqb set.input k (sym same))))
          | inr apart ↦ (
              ap (λ v. v == line) (get_or-set_other last set.input k line 0 apart)
              ∙ read.marked e k within
              ∙ sym (list_any-append (λ s. s.input == k) sets (set ∷ [])
              ∙ ap (λ b. is_set sets k || (b || false)) (ne_eqb set.input k (λ e. apart (sym e)))
              ∙ or_false (is_set sets k)))
        ]
      where
        or_false : (b : Bool) → (b || false) ≡ b
        or_false true = refl
        or_false false = refl

-- ---- whatever a word sets

moved : {inputs : List Input} {words behind : List (List ℕ)} {s t : List Set} {f g : Bool} {l m : List ℕ} {line : ℕ}
    → IsReadTo inputs words behind s f l line → s ≡ t → f ≡ g → l ≡ m → IsReadTo inputs words behind t g m line
moved {inputs} {words} {behind} {s} {t} {f} {g} {l} {m} {line} read e h k =
    subst (λ x. IsReadTo inputs words behind t g x line) k
    (subst (λ x. IsReadTo inputs words behind t x l line) h (subst (λ x. IsReadTo inputs words behind x f l line) e read))

and_false : (b : Bool) → false ≡ (b && false)
and_false true = refl
and_false false = refl

and_true : (b : Bool) → b ≡ (b && true)
and_true true = refl
and_true false = refl

pub read_word : (inputs : List Input) (words rest behind : List (List ℕ)) (word : List ℕ) (a : Assignment) (set : Option Set) (sets : List Set) (faultless : Bool) (last : List ℕ) (line : ℕ)
    (added : Bool) (new_sets : List Set) (new_last : List ℕ) → IsReadTo inputs words rest sets faultless last line → rest ≡ word ∷ behind → Some a ≡ assignment_of word
    → set ≡ set_of inputs a → added ≡ is_first last set line → new_sets ≡ with_set added sets set → new_last ≡ marked last set line
    → IsReadTo inputs words behind new_sets (faultless && added) new_last line
read_word inputs words rest behind word a None sets faultless last line added new_sets new_last read is h made added_is sets_is last_is =
    moved (read_wrong inputs words rest behind word a sets faultless last line read is (sym h) (sym made))
    (unset added added_is ∙ sym sets_is) (and_false faultless ∙ ap (λ b. faultless && b) (sym added_is)) (sym last_is)
  where
    unset : (b : Bool) → b ≡ false → sets ≡ with_set b sets None
    unset true e = refl
    unset false e = refl
read_word inputs words rest behind word a (Some s) sets faultless last line added new_sets new_last read is h made added_is sets_is last_is =
    go (slice_index last s.input == line) refl
  where
    go : (b : Bool) → (slice_index last s.input == line) ≡ b → IsReadTo inputs words behind new_sets (faultless && added) new_last line
    go true again =
        let none : added ≡ false = added_is ∙ ap not again in
        moved (read_twice inputs words rest behind word a s sets faultless last line read is (sym h) (sym made) again)
        (sym (sets_is ∙ ap (λ b. with_set b sets (Some s)) none)) (and_false faultless ∙ ap (λ b. faultless && b) (sym none)) (sym last_is)
    go false first =
        let some : added ≡ true = added_is ∙ ap not first in
        moved (read_more inputs words rest behind word a s sets faultless last line read is (sym h) (sym made) first)
        (sym (sets_is ∙ ap (λ b. with_set b sets (Some s)) some)) (and_true faultless ∙ ap (λ b. faultless && b) (sym some)) (sym last_is)

-- a set is of an input that is there
pub set_bound : (inputs : List Input) (a : Assignment) (set : Option Set) (n : ℕ) → set ≡ set_of inputs a → n ≡ length inputs → IfSome set (λ s. s.input < n)
set_bound inputs a None n e is = tt
set_bound inputs a (Some s) n e is = let parts = set_parts inputs a s (sym e) in omega (arith, parts.within)
