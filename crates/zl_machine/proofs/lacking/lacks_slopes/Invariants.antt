-- Nothing is lacking so far.
use Rattle.std.specs.Prelude.{◌≡◌, drop}
use Rattle.zl_code.specs.System.{lack_slopes}
use Rattle.zl_machine.proofs.lacking.lacks_slopes.Given as goal

abbrev pub invariant-loop-i : goal.invariant-loop-i
invariant-loop-i l =
    lack_slopes l.rates (drop l.i l.mems) (drop l.i l.now) ≡ lack_slopes l.rates l.mems l.now
