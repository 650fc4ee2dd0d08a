-- Nothing is lacking so far.
use Rattle.std.specs.Prelude.{◌≡◌, drop}
use Rattle.std.specs.List.{list_any}
use Rattle.zl_code.specs.System.{lacks_of}
use Rattle.zl_machine.proofs.lacking.lacks_rate.Given as goal

abbrev pub invariant-loop-i : goal.invariant-loop-i
invariant-loop-i l =
    list_any (lacks_of (λ site. site.slope) l.regs l.rates) (drop l.i l.sites) ≡ list_any (lacks_of (λ site. site.slope) l.regs l.rates) l.sites
