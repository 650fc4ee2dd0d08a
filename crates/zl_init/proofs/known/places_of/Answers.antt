use Rattle.std.proofs.Common.{ap, ◌∙◌}
use Rattle.zl_ast.specs.Initialised.{with_places}
use Rattle.zl_init.proofs.PlaceLemmas.{placed_more}
use Rattle.zl_init.proofs.known.places_of.Goals as goal

pub loop-var-init : goal.loop-var-init
loop-var-init c = ap (λ f. with_places f c.args.vars.now) c.new-places.ensures

pub loop-var-preserved : goal.loop-var-preserved
loop-var-preserved c = placed_more _ _ c.args.vars.now c.loop-var.var-index _ c.loop-var-test.true c.in_ok-insert.ensures ∙ c.loop-var.invariant
