use Rattle.std.proofs.Common.{◌≡◌, ◌++◌, drop, map}
use Rattle.zl_names.proofs.defined.targets_of.Given as goal

abbrev pub invariant-loop-one : goal.invariant-loop-one
invariant-loop-one l = l.targets.items ++ map (λ m. m.target) (drop l.one-index l.moves) ≡ map (λ m. m.target) l.moves
