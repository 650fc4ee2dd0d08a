-- The flat form of a program, and its counts.
use Rattle.std.specs.Prelude.{ℕ, ◌+◌, if◌then◌else◌, nat_eq, List, [], ◌∷◌, ◌++◌, map, length, Option, None}
use Rattle.zl_value.specs.Lists.{listed}
use Rattle.zl_ast.specs.declared.expr.Expr.{Expr}
use Rattle.zl_ast.specs.declared.expr.Expr.TheOpen.{Expr-F, Link-F}
use Rattle.zl_ast.specs.declared.expr.Expr.TheOpen as open_expr
use Rattle.zl_ast.specs.declared.expr.Expr.TheFolds.{fold-Expr}
use Rattle.zl_ast.specs.declared.program.Decl.{Decl}
use Rattle.zl_ast.specs.declared.program.Param.{Param}
use Rattle.zl_ast.specs.NamesRules.{is_hybrid}
use Rattle.zl_meaning.specs.FlatForm.{FlatForm}
use Rattle.zl_meaning.specs.declared.block.Block.{Block}
use Rattle.zl_meaning.specs.declared.block.BlockKind.TheVariants.{Main}
use Rattle.zl_meaning.specs.declared.place.Definer.{Definer}
use Rattle.zl_meaning.specs.declared.place.Definer.TheVariants.{Input, Plain}
use Rattle.zl_meaning.specs.declared.place.PlaceInfo.{PlaceInfo}
use Rattle.zl_flat.specs.declared.variable.Variable.{Variable}
use Rattle.zl_flat.specs.declared.here.Here.{Here}
use Rattle.zl_flat.specs.declared.here.Root.{Root}
use Rattle.zl_flat.specs.declared.size.Size.{Size}
use Rattle.zl_flat.specs.declared.given.Given.{Given}
use Rattle.zl_flat.specs.Parts.{Parts, Counters, joined, one_block, some_places, some_definers, after, past_block, start}
use Rattle.zl_flat.specs.Variables.{variable_of, variables}
use Rattle.zl_flat.specs.Sizes.{decl_size}
pub use Rattle.zl_flat.specs.ScopedDecls.{Scoped, scoped, Named, found, with_name, with_sizes, MainOf, behind, main_of, sizes_of, program_main}
unfoldable pub use Rattle.zl_flat.specs.ScopedDecls.{main_size}
use Rattle.zl_flat.specs.Numbering.{decl_numbering}
use Rattle.zl_flat.specs.Instances.{Copy, Callee, Instance, place_here}
use Rattle.zl_flat.specs.Expressions.{exprs_walk}
use Rattle.zl_flat.specs.Equations.{given, place_number, place_type, eqns_walk}

-- ---- declarations

-- the places of the variables in a copy whose first place is this, where these are the sizes of the declarations before
abbrev pub variables_from : (ℕ → Option Size) → Scoped → ℕ → List Variable
variables_from sizes d n = variables d.infos d.types (decl_numbering d.infos sizes d.decl n).own

-- ---- parameters

-- each parameter is defined by its argument; the first has this place
abbrev pub argument_definers : Here → ℕ → List Param → List Root → List Given
argument_definers here n (p ∷ ps) (r ∷ rs) = given n (Plain here.block r.occ) ∷ argument_definers here (n + 1) ps rs
argument_definers here n _ _ = []

-- the parameters of `main` are inputs
abbrev pub input_definers : ℕ → List Param → List Given
input_definers n [] = []
input_definers n (p ∷ ps) = given n (Input n) ∷ input_definers (n + 1) ps

abbrev pub param_place : Instance → Here → Param → PlaceInfo
param_place i here p = place_here here (place_type (variable_of i.variables p.name.id)) p.name.id p.name.at

-- ---- copies

module _ (base : ℕ) (names : List (List ℕ)) where
  -- a copy of a declaration's body: the parameters, the results, the equations
  abbrev pub body_copy : Instance → Decl → List Given → Here → Counters → Copy
  body_copy i d definers here s =
      let params = joined (some_places (map (param_place i here) d.params)) (some_definers definers) in
      let results = exprs_walk base names i d.results here (after s params) in
      let eqs = eqns_walk base names i d.eqs here (after (after s params) results.parts) in
      record { parts = joined params (joined results.parts eqs); results = results.roots }

  -- a copy in this block, whose first place is this
  abbrev pub instance : (ℕ → Option Callee) → (ℕ → Option Size) → Scoped → ℕ → ℕ → Instance
  instance callees sizes d block n = record { block = block; infos = d.infos; variables = variables_from sizes d n; callees = callees }

  -- a declaration that can be called
  unfoldable pub decl_copy : (ℕ → Option Callee) → (ℕ → Option Size) → Scoped → Callee
  decl_copy callees sizes d here roots s = body_copy (instance callees sizes d here.block s.places) d.decl (argument_definers here s.places d.decl.params roots) here s

  -- the declarations that can be called, by name, behind those that are known
  abbrev pub with_callees : List (Named Callee) → List (Named Size) → List Scoped → List (Named Callee)
  with_callees callees sizes [] = callees
  with_callees callees sizes (d ∷ ds) =
      with_callees
      (with_name callees d.decl.name.id (decl_copy (found callees) (found sizes) d))
      (with_name sizes d.decl.name.id (decl_size d.infos (found sizes) d.decl))
      ds

  -- ---- main

  abbrev pub main_here : Decl → Here
  main_here d = record { block = 0; hybrid = is_hybrid d.kind; call = None }

  abbrev pub main_block : Decl → Block
  main_block d = record { parent = None; kind = Main; hybrid = is_hybrid d.kind }

  -- what the walk of `main` makes
  unfoldable pub main_parts : (ℕ → Option Callee) → (ℕ → Option Size) → Scoped → Parts
  main_parts callees sizes d =
      joined (one_block (main_block d.decl))
      (body_copy (instance callees sizes d 0 0) d.decl (input_definers 0 d.decl.params) (main_here d.decl) (past_block start)).parts

-- ---- the flat form

-- the definers that were given to a place, in the order of the walk
abbrev pub definers_of : ℕ → List Given → List Definer
definers_of p [] = []
definers_of p (g ∷ gs) = if nat_eq g.place p then g.definer ∷ definers_of p gs else definers_of p gs

abbrev pub with_definers : PlaceInfo → List Definer → PlaceInfo
with_definers x definers = record { block = x.block; call = x.call; ty = x.ty; name = x.name; at = x.at; definers = definers }

-- places with their definers, the first with this number
abbrev pub defined_places : List Given → ℕ → List PlaceInfo → List PlaceInfo
defined_places gs p [] = []
defined_places gs p (x ∷ xs) = with_definers x (definers_of p gs) ∷ defined_places gs (p + 1) xs

abbrev pub result_step : List Variable → Expr-F (List ℕ) (List ℕ) → List ℕ
result_step vs (open_expr.Var x) = place_number (variable_of vs x.id) ∷ []
result_step vs _ = []

-- the place of a result that is a variable
unfoldable pub result_place : List Variable → Expr → List ℕ
result_place vs = fold-Expr (List ℕ) (List ℕ) (result_step vs) (λ l. [])

abbrev pub result_places : List Variable → List Expr → List ℕ
result_places vs [] = []
result_places vs (x ∷ xs) = result_place vs x ++ result_places vs xs

abbrev pub form_of : Parts → (ins outs : List ℕ) → FlatForm
form_of p ins outs = record {
  blocks = p.blocks;
  places = defined_places p.definers 0 p.places;
  occs = p.occs ++ p.hidden;
  sites = p.sites;
  choices = p.choices;
  automata = p.automata;
  again = [];
  ins = ins;
  outs = outs;
}

-- what `main` expands to: its hidden occurrences are numbered behind the others
unfoldable pub main_form : List (List ℕ) → MainOf → FlatForm
main_form names m =
    form_of
    (main_parts (main_size m).occs names (found (with_callees (main_size m).occs names [] [] m.before)) (sizes_of m) m.main)
    (listed (length m.main.decl.params) 0 (λ n. n))
    (result_places (variables_from (sizes_of m) m.main 0) m.main.decl.results)
