use Rattle.std.proofs.Common.{◌≡◌}
use Rattle.std.specs.Iterator.Adapters.{zip_first, zip_second}
use Rattle.std.specs.Slice.Iter.{iter_rest}
use Rattle.zl_flat.specs.Parts.{joined, some_definers}
use Rattle.zl_flat.specs.Equations.{plain_definers}
use Rattle.zl_expand.specs.Kept.{instance_in}
use Rattle.zl_expand.proofs.eqns.define_names.Given as goal

abbrev pub invariant-loop-name : goal.invariant-loop-name
invariant-loop-name l = joined l.out (some_definers (plain_definers (instance_in l.instance) l.here (iter_rest (zip_first l.name-iterator)) (iter_rest (zip_second l.name-iterator)))) ≡ joined l.initial.out (some_definers (plain_definers (instance_in l.instance) l.here l.names l.roots))
