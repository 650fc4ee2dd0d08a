-- The rules of names. Each is broken where its violations are, at the least of their places.
use Rattle.std.specs.Prelude.{◌≡◌, ℕ, ◌<◌, Bool, true, false, not, ◌||◌, if◌then◌else◌, is_some, nat_eq, List, [], ◌∷◌, ◌++◌, map, filter, length, Some, None, Contains}
use Rattle.std.specs.List.{list_any, AllByRecursion}
use Rattle.zl_value.specs.declared.position.Pos.{Pos}
use Rattle.zl_value.specs.declared.rule.Refusal.{Refusal}
use Rattle.zl_value.specs.declared.rule.Refusal.TheVariants.{Broken, Memory}
use Rattle.zl_value.specs.declared.rule.Rule.{Rule}
use Rattle.zl_value.specs.declared.rule.Rule.TheVariants as rule
use Rattle.zl_ast.specs.declared.scope.VarInfo.{VarInfo}
use Rattle.zl_ast.specs.declared.scope.VarClass.{VarClass}
use Rattle.zl_ast.specs.declared.scope.VarClass.TheVariants as class
use Rattle.zl_ast.specs.declared.expr.Expr.{Expr}
use Rattle.zl_ast.specs.declared.expr.Expr.TheOpen.{Expr-F, Link-F}
use Rattle.zl_ast.specs.declared.expr.Expr.TheOpen as open_expr
use Rattle.zl_ast.specs.declared.expr.Expr.TheFolds.{fold-Expr}
use Rattle.zl_ast.specs.declared.program.Decl.{Decl}
use Rattle.zl_ast.specs.declared.program.DeclKind.{DeclKind}
use Rattle.zl_ast.specs.declared.program.DeclKind.TheVariants as decl
use Rattle.zl_ast.specs.declared.program.Program.{Program}
use Rattle.zl_ast.specs.Parsed.{Before}
use Rattle.zl_ast.specs.Names.{Violation, broken_if, among, with_id, with_ids, is_main, is_built_in}
use Rattle.zl_ast.specs.NamesDefined.{first_places, eqns_outline}
use Rattle.zl_ast.specs.NamesUsed.{Signature, Known, values_uses, eqns_uses}
use Rattle.zl_ast.specs.Scopes.{param_ids, variables}

-- ---- what is declared before

abbrev pub is_constant : DeclKind → Bool
is_constant decl.Constant = true
is_constant _ = false

abbrev pub is_hybrid : DeclKind → Bool
is_hybrid decl.Hybrid = true
is_hybrid _ = false

abbrev pub signature_of : Decl → Signature
signature_of d = (length d.params, length d.results)

-- before the first declaration: the built-in functions, from one argument to one result
abbrev pub built_in : List (List ℕ) → Known
built_in names = record { constants = []; signature = λ id. if is_built_in names id then Some (1, 1) else None; parameters = [] }

abbrev pub with_constant : Known → ℕ → Known
with_constant k id = record { constants = with_id k.constants id; signature = k.signature; parameters = [] }

abbrev pub with_signature : Known → ℕ → Signature → Known
with_signature k id s = record { constants = k.constants; signature = λ q. if nat_eq id q then Some s else k.signature q; parameters = [] }

-- behind a declaration
abbrev pub declared_with : Known → Decl → Known
declared_with k d = if is_constant d.kind then with_constant k d.name.id else with_signature k d.name.id (signature_of d)

-- in a declaration
abbrev pub inside_of : Known → Decl → Known
inside_of k d = record { constants = k.constants; signature = k.signature; parameters = with_ids [] (param_ids d.params) }

-- ---- variables

-- the variables with the number of one before them, or of a constant declared before
abbrev pub twice : List ℕ → List ℕ → List VarInfo → List Violation
twice constants seen [] = []
twice constants seen (v ∷ vs) = broken_if (among seen v.name || among constants v.name) rule.NameTwice v.at ++ twice constants (with_id seen v.name) vs

abbrev pub is_local : VarClass → Bool
is_local class.Local = true
is_local _ = false

-- the variables that are visible in the whole declaration
abbrev pub with_visible : List ℕ → List VarInfo → List ℕ
with_visible ids [] = ids
with_visible ids (v ∷ vs) = with_visible (if not (is_local v.class) then with_id ids v.name else ids) vs

-- ---- main

abbrev pub last_place : Pos → List Pos → Pos
last_place p [] = p
last_place p (q ∷ qs) = last_place q qs

abbrev pub place_step : Expr-F Pos Pos → Pos
place_step (open_expr.Lit v at) = at
place_step (open_expr.Var x) = x.at
place_step (open_expr.Last x at) = at
place_step (open_expr.Call f args) = f.at
place_step (open_expr.Prefix op at x) = at
place_step (open_expr.Chain x ls) = last_place x ls
place_step (open_expr.Flow op at x y) = at
place_step (open_expr.If at c x y) = at

-- the place of a result: that of its outermost operator, or of its first token
unfoldable pub place_of : Expr → Pos
place_of = fold-Expr Pos Pos place_step (λ l. l.at)

abbrev pub variable_step : List ℕ → Expr-F Bool Bool → Bool
variable_step visible (open_expr.Var x) = among visible x.id
variable_step visible _ = false

-- the expression is a variable, one of these
unfoldable pub is_variable : List ℕ → Expr → Bool
is_variable visible = fold-Expr Bool Bool (variable_step visible) (λ l. false)

abbrev pub results_broken : List ℕ → List Expr → List Violation
results_broken visible [] = []
results_broken visible (x ∷ xs) = broken_if (not (is_variable visible x)) rule.Main (place_of x) ++ results_broken visible xs

abbrev pub main_broken : List ℕ → Decl → List Violation
main_broken visible d = broken_if (not (is_hybrid d.kind)) rule.Main d.name.at ++ results_broken visible d.results

-- ---- declarations

-- the name is that of an earlier declaration or of a built-in function
abbrev pub is_declared : Known → ℕ → Bool
is_declared k id = among k.constants id || is_some (k.signature id)

-- a declaration's name and variables
unfoldable pub variables_broken : Known → Decl → List Violation
variables_broken k d =
    let outline = eqns_outline d.eqs in
    broken_if (is_declared k d.name.id) rule.NameTwice d.name.at
    ++ (outline.broken
    ++ (first_places (with_ids [] (param_ids d.params)) [] outline.entries
    ++ twice k.constants [] (variables d)))

-- a declaration's uses of names, and whether it can be `main`
unfoldable pub uses_broken : List (List ℕ) → Known → Decl → List Violation
uses_broken names k d =
    let visible = with_visible [] (variables d) in
    values_uses k d.results visible ++ (eqns_uses k d.eqs visible ++ (if is_main names d.name.id then main_broken visible d else []))

-- A declaration, where this is known of earlier ones.
abbrev pub decl_broken : List (List ℕ) → Known → Decl → List Violation
decl_broken names k d = variables_broken k d ++ uses_broken names (inside_of k d) d

abbrev pub decls_broken : List (List ℕ) → Known → List Decl → List Violation
decls_broken names k [] = []
decls_broken names k (d ∷ ds) = decl_broken names k d ++ decls_broken names (declared_with k d) ds

abbrev pub has_main : List (List ℕ) → List Decl → Bool
has_main names ds = list_any (λ d. is_main names d.name.id) ds

-- the violations of the rules of names in a program
abbrev pub violations : Program → List Violation
violations p = decls_broken p.names (built_in p.names) p.decls ++ broken_if (not (has_main p.names p.decls)) rule.Main (record { line = 1; column = 1 })

-- ---- the first violation

-- the rules in the order in which they are tried
abbrev pub turn : Rule → ℕ
turn rule.NameUnknown = 0
turn rule.NameTwice = 1
turn rule.DefinedTwice = 2
turn rule.Undefined = 3
turn rule.Arity = 4
turn rule.Branch = 5
turn rule.Main = 6
turn rule.Last = 7
turn _ = 8

-- the places where a rule is broken
abbrev pub violations_of : Rule → Program → List Pos
violations_of r p = map (λ v. v.1) (filter (λ v. nat_eq (turn v.0) (turn r)) (violations p))

-- A program is refused by a rule at a place: there the rule is broken, at no place before, and no earlier rule is broken.
pub record IsRefusedAt (p : Program) (r : Rule) (at : Pos) : Type 0 where
  pub broken : Contains (violations_of r p) at
  pub least : AllByRecursion (λ other. Before other at → ⊥) (violations_of r p)
  pub earlier : (s : Rule) → turn s < turn r → violations_of s p ≡ []

-- What a refusal says of a program: nothing where memory ran out.
abbrev pub IsRefusedBy : Program → Refusal → Type 0
IsRefusedBy p (Broken r at) = IsRefusedAt p r at
IsRefusedBy p Memory = Unit {0}
