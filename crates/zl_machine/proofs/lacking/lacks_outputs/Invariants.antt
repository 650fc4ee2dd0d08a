-- Nothing is lacking so far.
use Rattle.std.specs.Prelude.{◌≡◌, drop}
use Rattle.std.specs.List.{list_any}
use Rattle.zl_code.specs.System.{lacks_output}
use Rattle.zl_machine.proofs.lacking.lacks_outputs.Given as goal

abbrev pub invariant-loop-i : goal.invariant-loop-i
invariant-loop-i l =
    list_any (lacks_output l.regs) (drop l.i l.outs) ≡ list_any (lacks_output l.regs) l.outs
