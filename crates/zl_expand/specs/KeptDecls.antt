-- What the code keeps of the declarations, in the words of the definitions.
use Rattle.std.specs.Prelude.{◌≡◌, ℕ, ◌<◌, List, [], map, length, take, slice_get, Option, Some}
use Rattle.std.specs.Option.{option_map_or}
use Rattle.zl_value.specs.declared.value.Ty.{Ty}
use Rattle.zl_ast.specs.declared.scope.VarInfo.{VarInfo}
use Rattle.zl_ast.specs.declared.program.Program.{Program}
use Rattle.zl_flat.specs.declared.size.Size.{Size}
use Rattle.zl_expand.specs.declared.decls.Declared.{Declared}
use Rattle.zl_expand.specs.declared.decls.Known.{Known}
use Rattle.zl_expand.specs.declared.limits.Measured.{Measured}
use Rattle.zl_flat.specs.Capped.{capped}
use Rattle.zl_flat.specs.ScopedDecls.{Scoped, scoped, found, with_sizes, MainOf, main_of, main_size}

abbrev pub scoped_in : Declared → List Scoped
scoped_in d = scoped d.decls.now d.scopes.now d.types.now

-- the program of the declarations
abbrev pub program_in : Declared → Program
program_in d = record { decls = d.decls.now; names = d.names.now }

-- the variables of the declaration
abbrev pub infos_in : Known → List VarInfo
infos_in k = option_map_or (λ d. d.infos) (slice_get (scoped_in k.declared.now) k.number) []

-- and their types
abbrev pub types_in : Known → List Ty
types_in k = option_map_or (λ d. d.types) (slice_get (scoped_in k.declared.now) k.number) []

-- the sizes of the declarations before it
abbrev pub known_in : Known → ℕ → Option Size
known_in k = found (with_sizes [] (take k.number (scoped_in k.declared.now)))

-- `main` has this number, and what it expands to was counted.
pub record IsMeasured (d : Declared) (m : Measured) : Type 0 where
  pub of : MainOf
  pub is_main : main_of d.names.now (scoped_in d) ≡ Some of
  pub within : m.main < length d.decls.now
  pub is_there : slice_get (scoped_in d) m.main ≡ Some of.main
  pub is_behind : of.before ≡ take m.main (scoped_in d)
  pub sized : m.sizes.items ≡ map (λ x. capped x.what) (with_sizes [] of.before)
  pub counted : m.size ≡ capped (main_size of)
