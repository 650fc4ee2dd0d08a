use Rattle.std.proofs.Common.{◌≡◌, [], map, take}
use Rattle.zl_flat.specs.Capped.{capped}
use Rattle.zl_flat.specs.ScopedDecls.{with_sizes}
use Rattle.zl_expand.specs.KeptDecls.{scoped_in}
use Rattle.zl_expand.proofs.limits.sizes_before.Given as goal

abbrev pub invariant-loop-before : goal.invariant-loop-before
invariant-loop-before l =
    l.sizes.items ≡ map (λ x. capped x.what) (with_sizes [] (take l.before (scoped_in l.declared)))
