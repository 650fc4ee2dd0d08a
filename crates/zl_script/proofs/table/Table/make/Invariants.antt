use Rattle.std.proofs.Common.{◌≡◌, map, take}
use Rattle.zl_script.proofs.table.Table.make.Given as goal

abbrev pub invariant-loop-input : goal.invariant-loop-input
invariant-loop-input l = map (λ name. name.items) l.names.keys ≡ map (λ i. i.name) (take l.input-index l.inputs)
