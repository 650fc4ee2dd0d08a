-- The declarations of a program with their variables, `main` among them, and the counts of what it expands to.
use Rattle.std.specs.Prelude.{ℕ, if◌then◌else◌, nat_eq, List, [], ◌∷◌, ◌++◌, Option, Some, None}
use Rattle.zl_value.specs.declared.value.Ty.{Ty}
use Rattle.zl_ast.specs.declared.scope.VarInfo.{VarInfo}
use Rattle.zl_ast.specs.declared.program.Decl.{Decl}
use Rattle.zl_ast.specs.declared.program.Program.{Program}
use Rattle.zl_ast.specs.Names.{is_main}
use Rattle.zl_flat.specs.declared.size.Size.{Size}
use Rattle.zl_flat.specs.Sizes.{plus, a_block, decl_size}

-- a declaration with its variables and their types
pub record Scoped : Type 0 where
  pub decl : Decl
  pub infos : List VarInfo
  pub types : List Ty

abbrev pub scoped : List Decl → List (List VarInfo) → List (List Ty) → List Scoped
scoped (d ∷ ds) (vs ∷ vss) (ts ∷ tss) = record { decl = d; infos = vs; types = ts } ∷ scoped ds vss tss
scoped _ _ _ = []

-- what is known by the number of a name: the first of this name
pub record Named (A : Type 0) : Type 0 where
  pub name : ℕ
  pub what : A

abbrev pub found : {A : Type 0} → List (Named A) → ℕ → Option A
found [] id = None
found (x ∷ xs) id = if nat_eq x.name id then Some x.what else found xs id

abbrev pub with_name : {A : Type 0} → List (Named A) → ℕ → A → List (Named A)
with_name known id a = known ++ record { name = id; what = a } ∷ []

-- the sizes of declarations by name, behind those that are known
abbrev pub with_sizes : List (Named Size) → List Scoped → List (Named Size)
with_sizes known [] = known
with_sizes known (d ∷ ds) = with_sizes (with_name known d.decl.name.id (decl_size d.infos (found known) d.decl)) ds

-- ---- main

-- the first declaration of `main`, and the declarations before it
pub record MainOf : Type 0 where
  pub before : List Scoped
  pub main : Scoped

abbrev pub behind : Scoped → Option MainOf → Option MainOf
behind d None = None
behind d (Some m) = Some (record { before = d ∷ m.before; main = m.main })

abbrev pub main_of : List (List ℕ) → List Scoped → Option MainOf
main_of names [] = None
main_of names (d ∷ ds) = if is_main names d.decl.name.id then Some (record { before = []; main = d }) else behind d (main_of names ds)

-- the sizes of the declarations before `main`, and its own
abbrev pub sizes_of : MainOf → ℕ → Option Size
sizes_of m = found (with_sizes [] m.before)

-- the counts of what `main` expands to; its body is a block
unfoldable pub main_size : MainOf → Size
main_size m = plus a_block (decl_size m.main.infos (sizes_of m) m.main.decl)

-- a program's `main`, with its scopes and types
abbrev pub program_main : Program → List (List VarInfo) → List (List Ty) → Option MainOf
program_main p scopes types = main_of p.names (scoped p.decls scopes types)
