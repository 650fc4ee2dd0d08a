use Rattle.zl_run.proofs.FiringLemmas.{noted}
use Rattle.zl_run.proofs.firing.note_firings.Goals as goal

pub loop-k-preserved : goal.loop-k-preserved
loop-k-preserved c =
    noted c.loop-k.events _ _ c.loop-k.k c.site_fires.result _ c.loop-k.invariant.0 c.loop-k.invariant.1 c.requires.events c.loop-k-test.true c.site_fires.ensures
