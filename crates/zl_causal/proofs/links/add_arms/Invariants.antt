use Rattle.std.proofs.Common.{◌≡◌, ◌++◌, drop}
use Rattle.std.specs.List.{flat_map}
use Rattle.zl_causal.specs.FormLinks as spec
use Rattle.zl_causal.proofs.links.add_arms.Given as goal

abbrev pub invariant-loop-arm : goal.invariant-loop-arm
invariant-loop-arm l = l.links.items ++ flat_map (spec.arm_links l.p l.d) (drop l.arm-index l.arms) ≡ l.initial.links.items ++ flat_map (spec.arm_links l.p l.d) l.arms
