-- None of those up to here is.
use Rattle.std.specs.Prelude.{◌≡◌, drop}
use Rattle.std.specs.List.{list_any}
use Rattle.zl_run.proofs.firing.has_any.Given as goal

abbrev pub invariant-loop-k : goal.invariant-loop-k
invariant-loop-k l = list_any (λ event. event) (drop l.k l.events) ≡ list_any (λ event. event) l.events
