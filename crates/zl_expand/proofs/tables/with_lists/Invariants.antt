use Rattle.std.proofs.Common.{◌≡◌, ◌++◌, map}
use Rattle.std.specs.Vec.Iter.{into_iter_items}
use Rattle.zl_expand.specs.Tables.{with_lists}
use Rattle.zl_expand.proofs.tables.with_lists.Given as goal

abbrev pub invariant-loop-place : goal.invariant-loop-place
invariant-loop-place l = l.defined.items ++ with_lists (into_iter_items l.place-iterator) (map (λ ds. ds.items) (into_iter_items l.rest)) ≡ with_lists l.fn.places.items (map (λ ds. ds.items) l.fn.lists.items)
