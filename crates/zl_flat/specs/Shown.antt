-- What the flat forms of programs show outward: the names of their inputs and outputs.
use Rattle.std.specs.Prelude.{◌≡◌, ℕ, ◌<◌, List, [], length, slice_get, get_or, Some}
use Rattle.std.specs.List.{AllByRecursion}
use Rattle.zl_value.specs.declared.value.Ty.{Ty}
use Rattle.zl_ast.specs.declared.program.Program.{Program}
use Rattle.zl_ast.specs.Scopes.{scopes}
use Rattle.zl_meaning.specs.FlatForm.{FlatForm}
use Rattle.zl_meaning.specs.declared.place.PlaceInfo.{PlaceInfo}
use Rattle.zl_flat.specs.Checked.{IsChecked}
use Rattle.zl_flat.specs.Flat.{IsFlatOf}

-- place number `p` is in the form, and the number of its name is that of one of these names
pub record IsNamed (names : List (List ℕ)) (f : FlatForm) (p : ℕ) : Type 0 where
  pub place : PlaceInfo
  pub is : slice_get f.places p ≡ Some place
  pub named : place.name < length names

-- input number `n` is this place
pub record IsInputAt (f : FlatForm) (n : ℕ) (place : PlaceInfo) : Type 0 where
  pub number : ℕ
  pub input : slice_get f.ins n ≡ Some number
  pub is : slice_get f.places number ≡ Some place

-- The form can be shown, where these are the names of the file.
pub record ShowsOutward (names : List (List ℕ)) (f : FlatForm) : Type 0 where
  -- it has an output
  pub some : 0 < length f.outs
  -- its inputs and its outputs have names
  pub ins : AllByRecursion (IsNamed names f) f.ins
  pub outs : AllByRecursion (IsNamed names f) f.outs
  -- no two inputs have names of the same bytes
  pub differ : (m n : ℕ) (a b : PlaceInfo) → IsInputAt f m a → IsInputAt f n b → get_or names a.name [] ≡ get_or names b.name [] → m ≡ n

-- So can the flat form of each program that keeps the rules, with the names of its file.
abbrev pub FormsShowOutward : Type 0
FormsShowOutward = (p : Program) (types : List (List Ty)) (form : FlatForm) → IsChecked p types → IsFlatOf p (scopes p) types form → ShowsOutward p.names form
