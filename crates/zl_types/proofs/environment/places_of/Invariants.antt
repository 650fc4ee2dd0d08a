use Rattle.std.proofs.Common.{◌≡◌, nat_eq, drop}
use Rattle.indexmap.specs.IndexMap.{get}
use Rattle.zl_ast.specs.TypeEqualities.{nothing, with_places}
use Rattle.zl_types.proofs.environment.places_of.Given as goal

abbrev pub invariant-loop-var : goal.invariant-loop-var
invariant-loop-var l = with_places (λ id. get nat_eq l.places id) (drop l.var-index l.vars) ≡ with_places nothing l.vars
