use Rattle.std.proofs.Common.{◌≡◌, drop}
use Rattle.zl_flat.specs.Parts.{joined}
use Rattle.zl_flat.specs.Equations.{names_made}
use Rattle.zl_expand.specs.Kept.{counters, instance_in, names_in}
use Rattle.zl_expand.proofs.eqns.add_names.Given as goal

abbrev pub invariant-loop-name : goal.invariant-loop-name
invariant-loop-name l = joined l.out (names_made l.instance.base (names_in l.instance) (instance_in l.instance) (drop l.name-index l.names) l.here (counters l.out)) ≡ joined l.initial.out (names_made l.instance.base (names_in l.instance) (instance_in l.instance) l.names l.here (counters l.initial.out))
