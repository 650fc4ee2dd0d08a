-- From the typing of a program to the types of the flat form that its `main` expands to.
use Rattle.std.proofs.Common.{◌≡◌, List, [], ◌∷◌, map, Some, sym, subst}
use Rattle.std.specs.List.{AllByRecursion}
use Rattle.zl_value.specs.declared.value.Ty.{Ty}
use Rattle.zl_ast.specs.declared.constraint.Equality.{Equality}
use Rattle.zl_ast.specs.declared.program.Decl.{Decl}
use Rattle.zl_ast.specs.declared.program.Program.{Program}
use Rattle.zl_ast.specs.Scopes as scope
use Rattle.zl_ast.specs.Scopes.{scopes}
use Rattle.zl_ast.specs.Assignments.{Assignment, Solves, HaveTypesInEach, next_of_all, IsTyping}
use Rattle.zl_ast.specs.TypeEqualities.{before_all, decls_equalities, equalities}
use Rattle.zl_flat.specs.Expansion.{Scoped, scoped, MainOf, main_form, program_main}
use Rattle.zl_flat.proofs.WellFormedParts.{all-left, all-right}
use Rattle.zl_flat.proofs.WellFormedDecls.{IsMainKept}
use Rattle.zl_flat.proofs.WellFormedOrder.{scoped-decls}
use Rattle.zl_flat.proofs.WellFormedGrammar.{IsWritten, AllWritten, decl_written, decls_written}
use Rattle.zl_flat.proofs.WellFormedTypesScopes.{have-types}
use Rattle.zl_flat.proofs.WellFormedTypesSolution.{without_zero, without-zero, decls-free, solves-without}
use Rattle.zl_flat.proofs.WellFormedTypesDecls.{IsTypedDecl}
use Rattle.zl_flat.proofs.WellFormedTypesForm.{FormTypes}
use Rattle.zl_flat.proofs.WellFormedTypesMain.{IsTypedMain, PlacesFound, main-typed, typed-split}

-- declarations with their variables, and with types of them
abbrev pub with_types : List Decl → List (List Ty) → List Scoped
with_types ds tss = scoped ds (map scope.variables ds) tss

-- the variables of each declaration have the types that an assignment gives to their places
all-typed : (es : List Equality) (a : Assignment) (ds : List Decl) (tss : List (List Ty)) → Solves es a → HaveTypesInEach es (map scope.variables ds) tss → AllWritten (decls_written ds) → AllByRecursion (IsTypedDecl a) (with_types ds tss)
all-typed es a [] [] m h w = tt
all-typed es a [] (ts ∷ tss) m h w = elim h [ ]
all-typed es a (d ∷ ds) [] m h w = elim h [ ]
all-typed es a (d ∷ ds) (ts ∷ tss) m (next_of_all h hs) w =
    (record { types_of = have-types es a (scope.variables d) ts m h; written = all-left IsWritten (decl_written d) (decls_written ds) w }, all-typed es a ds tss m hs (all-right IsWritten (decl_written d) (decls_written ds) w))

module _ (p : Program) (types : List (List Ty)) (m : MainOf) (is : program_main p (scopes p) types ≡ Some m) (typing : IsTyping (equalities p) (scopes p) types) (written : AllWritten (decls_written p.decls)) where
  -- an assignment without the type of an `up` that meets the program's equalities
  abbrev pub assigned : Assignment
  assigned = without_zero typing.solution

  -- it meets the program's equalities
  pub assigned-met : Solves (equalities p) assigned
  assigned-met = solves-without typing.solution (equalities p) (decls-free (before_all p.names) p.decls written) typing.solves

  -- the variables of `main` and of the declarations before it have the types that it gives
  pub main-is-typed : IsTypedMain (before_all p.names) m assigned
  main-is-typed =
      typed-split p.names assigned (before_all p.names) (with_types p.decls types) m is
      (subst (λ ds. Solves (decls_equalities (before_all p.names) ds) assigned) (sym (scoped-decls (equalities p) p.decls types typing.types_of_variables)) assigned-met)
      (all-typed (equalities p) assigned p.decls types assigned-met typing.types_of_variables written)

  -- The form of the program's `main` keeps what a flat form keeps of types.
  pub program-types : IsMainKept p.names m → PlacesFound p.names m → FormTypes (main_form p.names m)
  program-types kept places = main-typed p.names m assigned (without-zero typing.solution) kept main-is-typed places
