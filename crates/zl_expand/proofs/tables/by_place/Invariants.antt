use Rattle.std.proofs.Common.{◌≡◌, [], map}
use Rattle.std.specs.Vec.Iter.{into_iter_items}
use Rattle.zl_value.specs.Lists.{listed}
use Rattle.zl_expand.proofs.TableLemmas.{give_all}
use Rattle.zl_expand.proofs.tables.by_place.Given as goal

abbrev pub invariant-loop-given : goal.invariant-loop-given
invariant-loop-given l = give_all (map (λ ds. ds.items) l.lists.items) (into_iter_items l.given-iterator) ≡ give_all (listed l.places 0 (λ p. [])) l.fn.definers.items
