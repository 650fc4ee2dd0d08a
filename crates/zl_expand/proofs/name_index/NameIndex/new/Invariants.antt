use Rattle.std.proofs.Common.{◌≡◌, ℕ, nat_eq, take}
use Rattle.std.specs.List.{position}
use Rattle.indexmap.specs.IndexMap.{get}
use Rattle.zl_expand.proofs.name_index.NameIndex.new.Given as goal

abbrev pub invariant-loop-place : goal.invariant-loop-place
invariant-loop-place l = (id : ℕ) → get nat_eq l.firsts id ≡ position (nat_eq id) (take l.place l.fn.ids.items)
