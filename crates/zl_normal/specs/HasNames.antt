-- What a kernel asks of the names of a form's inputs and outputs.
use Rattle.std.specs.Prelude.{◌≡◌, ℕ, ◌<◌, List, [], length, slice_get, get_or, Option, Some, None}
use Rattle.std.specs.List.{AllByRecursion}
use Rattle.zl_lexer.specs.Words.{IsIdentifier}
use Rattle.zl_meaning.specs.FlatForm.{FlatForm}
use Rattle.zl_meaning.specs.declared.place.PlaceInfo.{PlaceInfo}

-- the name of a place among the names of the file
abbrev pub name_among : List (List ℕ) → Option PlaceInfo → List ℕ
name_among names None = []
name_among names (Some place) = get_or names place.name []

abbrev pub place_name : FlatForm → List (List ℕ) → ℕ → List ℕ
place_name f names p = name_among names (slice_get f.places p)

-- these names of the file suit a kernel
pub record HasNames (f : FlatForm) (names : List (List ℕ)) : Type 0 where
  -- the form has an output
  pub some : 0 < length f.outs
  -- its inputs and its outputs are named by identifiers
  pub ins : AllByRecursion (λ p. IsIdentifier (place_name f names p)) f.ins
  pub outs : AllByRecursion (λ p. IsIdentifier (place_name f names p)) f.outs
  -- no two inputs have one name
  pub differ : (m n p q : ℕ) → slice_get f.ins m ≡ Some p → slice_get f.ins n ≡ Some q → place_name f names p ≡ place_name f names q → m ≡ n
