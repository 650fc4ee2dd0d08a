-- The variables of a declaration, and the scopes of a program.
use Rattle.std.specs.Prelude.{ℕ, ◌&&◌, if◌then◌else◌, List, [], ◌∷◌, ◌++◌, map}
use Rattle.zl_ast.specs.declared.scope.VarInfo.{VarInfo}
use Rattle.zl_ast.specs.declared.scope.VarClass.TheVariants as class
use Rattle.zl_ast.specs.declared.program.Decl.{Decl}
use Rattle.zl_ast.specs.declared.program.Param.{Param}
use Rattle.zl_ast.specs.declared.program.Program.{Program}
use Rattle.zl_ast.specs.Names.{among, with_id, with_ids}
use Rattle.zl_ast.specs.NamesDefined.{entry, is_defined, eqns_outline}

abbrev pub param_ids : List Param → List ℕ
param_ids params = map (λ p. p.name.id) params

-- The entries that are variables: each local, and each other name that isn't among those seen, where it is first defined.
abbrev pub first_entries : List ℕ → List VarInfo → List VarInfo
first_entries seen [] = []
first_entries seen (v ∷ vs) =
    (if is_defined v && among seen v.name then [] else v ∷ []) ++ first_entries (if is_defined v then with_id seen v.name else seen) vs

-- a parameter as a variable
abbrev pub parameter : Param → VarInfo
parameter p = entry class.Param p.name

-- The variables of a declaration, in the order of the text: its parameters, its locals, and each other name that an
-- equation of it defines.
unfoldable pub variables : Decl → List VarInfo
variables d = map parameter d.params ++ first_entries (with_ids [] (param_ids d.params)) (eqns_outline d.eqs).entries

-- the variables of each declaration
abbrev pub scopes : Program → List (List VarInfo)
scopes p = map variables p.decls
