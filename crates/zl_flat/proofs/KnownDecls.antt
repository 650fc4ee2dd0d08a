-- A declaration of which it is known, part by part, what it declares, what types it asks and what its walk makes.
use Rattle.std.proofs.Common.{ℕ, List, map}
use Rattle.zl_ast.specs.declared.program.Decl.{Decl}
use Rattle.zl_ast.specs.NamesDefined.{eqn_outline}
use Rattle.zl_ast.specs.NamesRules.{place_of}
use Rattle.zl_ast.specs.TypeEqualities.{Environment, expr_equalities, eqn_equalities}
use Rattle.zl_flat.specs.Instances.{Instance}
use Rattle.zl_flat.specs.Expressions.{expr_walk}
use Rattle.zl_flat.specs.Equations.{eqn_walk}
use Rattle.zl_flat.proofs.Known.{Known}

pub record KnownDecl (d : Decl) : Type 0 where
  pub outlines : Known (map eqn_outline d.eqs)
  pub places : Known (map place_of d.results)
  pub typed_results : (e : Environment) → Known (map (expr_equalities e) d.results)
  pub typed_eqs : (e : Environment) → Known (map (eqn_equalities e) d.eqs)
  pub results : (base : ℕ) (names : List (List ℕ)) (i : Instance) → Known (map (expr_walk base names i) d.results)
  pub eqs : (base : ℕ) (names : List (List ℕ)) (i : Instance) → Known (map (eqn_walk base names i) d.eqs)
