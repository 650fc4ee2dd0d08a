-- The constraints of a program, declaration by declaration: from what its equations outline and give.
use Rattle.std.proofs.Common.{◌≡◌, ℕ, zero, suc, false, List, [], ◌∷◌, ◌++◌, map, None, ◌∙◌}
use Rattle.zl_ast.specs.declared.constraint.Requirement.{Requirement}
use Rattle.zl_ast.specs.declared.scope.VarInfo.{VarInfo}
use Rattle.zl_ast.specs.declared.program.Decl.{Decl}
use Rattle.zl_ast.specs.declared.program.DeclKind.TheVariants.{Constant}
use Rattle.zl_ast.specs.Names.{with_ids}
use Rattle.zl_ast.specs.NamesDefined.{Outline, with_defined, eqns_outline}
use Rattle.zl_ast.specs.NamesRules.{is_hybrid}
use Rattle.zl_ast.specs.Scopes.{param_ids, first_entries, parameter, variables}
use Rattle.zl_ast.specs.Anchored.{Given, eqns_given}
use Rattle.zl_ast.specs.Initialised.{Known, Setting, with_places, decl_parts, decl_requirements, decls_requirements}
use Rattle.zl_ast.specs.declared.constraint.Equality.{Equality}
use Rattle.zl_ast.specs.TypeEqualities.{before_all, with_variables, decl_equalities, decls_equalities}
use Rattle.zl_ast.specs.WorkedTrees.{name}

abbrev no_decl : Decl
no_decl = record { kind = Constant; name = name 0 0 0; params = []; results = []; eqs = [] }

-- a declaration by its number from 0
abbrev pub nth : ℕ → List Decl → Decl
nth i [] = no_decl
nth zero (d ∷ ds) = d
nth (suc i) (d ∷ ds) = nth i ds

-- those behind it
abbrev pub behind : ℕ → List Decl → List Decl
behind i [] = []
behind zero (d ∷ ds) = ds
behind (suc i) (d ∷ ds) = behind i ds

abbrev pub variables_by : Decl → Outline → List VarInfo
variables_by d o = map parameter d.params ++ first_entries (with_ids [] (param_ids d.params)) o.entries

abbrev known_by : List (List ℕ) → Decl → Outline → Given → Known
known_by names d o g = record {
  names = names;
  place = with_places (λ q. None) (variables_by d o);
  anchored = with_ids [] (g.anchored ++ g.started);
  settled = with_ids [] (g.settled ++ (g.started ++ g.defined));
}

abbrev setting_by : Decl → Outline → Setting
setting_by d o = record { hybrid = is_hybrid d.kind; handler = false; inside = []; own = with_defined [] (variables_by d o) }

by_parts : (names : List (List ℕ)) (d : Decl) (o : Outline) (g : Given) → eqns_outline d.eqs ≡ o → eqns_given d.eqs ≡ g
    → decl_requirements names d ≡ decl_parts (known_by names d o g) (setting_by d o) d
unfolding decl_requirements variables
by_parts names d o g e f = λ j. decl_parts (known_by names d (e j) (f j)) (setting_by d (e j)) d

-- a declaration's constraints, and then those of the declarations behind it
pub in_turn : (names : List (List ℕ)) (d : Decl) (ds : List Decl) (o : Outline) (g : Given) (part rest : List Requirement) → eqns_outline d.eqs ≡ o → eqns_given d.eqs ≡ g
    → decl_parts (known_by names d o g) (setting_by d o) d ≡ part → decls_requirements names ds ≡ rest → decls_requirements names (d ∷ ds) ≡ part ++ rest
in_turn names d ds o g part rest e f here behind = λ j. (by_parts names d o g e f ∙ here) j ++ behind j

-- the variables of a declaration
pub variables_are : (d : Decl) (o : Outline) → eqns_outline d.eqs ≡ o → variables d ≡ variables_by d o
unfolding variables
variables_are d o e = λ j. variables_by d (e j)

-- the equalities of a program with one declaration
pub equalities_by : (names : List (List ℕ)) (d : Decl) (o : Outline) (part : List Equality) → eqns_outline d.eqs ≡ o
    → decl_equalities (with_variables (before_all names) (variables_by d o)) d ≡ part → decls_equalities (before_all names) (d ∷ []) ≡ part ++ []
equalities_by names d o part e here = λ j. ((λ i. decl_equalities (with_variables (before_all names) (variables_are d o e i)) d) ∙ here) j ++ []
