use Rattle.std.proofs.Common.{◌≡◌, ◌++◌, ◌-◌, [], map}
use Rattle.zl_value.specs.Lists.{listed}
use Rattle.zl_expand.proofs.tables.no_definers.Given as goal

abbrev pub invariant-loop-place : goal.invariant-loop-place
invariant-loop-place l = map (λ ds. ds.items) l.lists.items ++ listed (l.places - l._place) l._place (λ p. []) ≡ listed l.places 0 (λ p. [])
