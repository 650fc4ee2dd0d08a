-- What was found so far.
use Rattle.std.specs.Prelude.{◌≡◌}
use Rattle.zl_value.specs.Lists.{listed}
use Rattle.zl_codegen.specs.FlowTables.{is_found}
use Rattle.zl_codegen.proofs.flow_wires.all_found.Given as goal

abbrev pub invariant-loop-i : goal.invariant-loop-i
invariant-loop-i l =
    l.found.items ≡ listed l.i 0 (is_found l.slopes l.kept l.read l.otherwise)
