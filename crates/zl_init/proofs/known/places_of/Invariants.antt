use Rattle.std.proofs.Common.{◌≡◌, None, drop}
use Rattle.zl_ast.specs.Initialised.{with_places}
use Rattle.zl_init.specs.Kept.{place_in}
use Rattle.zl_init.proofs.known.places_of.Given as goal

abbrev pub invariant-loop-var : goal.invariant-loop-var
invariant-loop-var l = with_places (place_in l.places) (drop l.var-index l.vars) ≡ with_places (λ q. None) l.vars
