-- The assignments of a line, and the sets that they are for given inputs. This project's own.
use Rattle.std.specs.Prelude.{ℕ, ◌+◌, Bool, false, ◌&&◌, ◌||◌, ◌==◌, if◌then◌else◌, List, [], ◌∷◌, map, take, drop, Option, None, option_and_then, option_map, slice_get, position}
use Rattle.std.specs.List.{list_any, position_or_len}
use Rattle.std.specs.Str.{bytes_eq, is_utf8}
use Rattle.zl_lexer.specs.Words.{is_identifier}
use Rattle.zl_value.specs.declared.script.Input.{Input}
use Rattle.zl_value.specs.declared.script.Set.{Set}
use Rattle.zl_script.specs.declared.literal.Literal.{Literal}
use Rattle.zl_script.specs.Lists.{each}
use Rattle.zl_script.specs.Numbers.{literal_of, value_for}

-- a name, and what its value says
pub record Assignment : Type 0 where
  pub name : List ℕ
  pub value : Literal

-- how many bytes stand before the first `=`
abbrev pub name_len : List ℕ → ℕ
name_len word = position_or_len (λ c. c == 61) word

-- a name, `=` and a value, in one word
abbrev pub assignment_of : List ℕ → Option Assignment
assignment_of word =
    if is_utf8 (take (name_len word) word) && is_identifier (take (name_len word) word)
    then option_map (λ v. record { name = take (name_len word) word; value = v }) (literal_of (drop (name_len word + 1) word))
    else None

abbrev pub assignments_of : List (List ℕ) → Option (List Assignment)
assignments_of words = each assignment_of words

-- the number of the input of this name
abbrev pub input_of : List Input → List ℕ → Option ℕ
input_of inputs name = position (λ i. bytes_eq name i.name) inputs

-- what a value sets an input to, if it is one of the input's type
abbrev pub set_at : List Input → ℕ → Literal → Option Set
set_at inputs n value =
    option_and_then (λ i. option_map (λ v. record { input = n; value = v }) (value_for i.ty value)) (slice_get inputs n)

-- what an assignment sets, if its name is an input's and its value one of the input's type
abbrev pub set_of : List Input → Assignment → Option Set
set_of inputs a = option_and_then (λ n. set_at inputs n a.value) (input_of inputs a.name)

-- a name stands twice in a list
abbrev pub has_twice : List (List ℕ) → Bool
has_twice [] = false
has_twice (name ∷ names) = list_any (λ other. bytes_eq other name) names || has_twice names

-- the sets of a line, if no name stands twice in it and each assignment sets an input
unfoldable pub sets_of : List Input → List Assignment → Option (List Set)
sets_of inputs assignments =
    if has_twice (map (λ a. a.name) assignments) then None else each (set_of inputs) assignments
