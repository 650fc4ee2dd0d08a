-- How a clock goes on.
use Rattle.std.specs.Prelude.{◌+◌}
use Rattle.zl_value.specs.Fraction.{Fraction}
use Rattle.zl_value.specs.declared.script.Mark.TheVariants.{Step, Left}
use Rattle.zl_run.specs.declared.clock.Clock.{Clock}

-- at a further step
abbrev pub stepped : Clock → Clock
stepped k = record { time = k.time; mark = Step k.here; made = k.made + 1; here = k.here + 1 }

-- at a left end at this time
abbrev pub moved_to : Clock → Fraction → Clock
moved_to k time = record { time = time; mark = Left; made = k.made; here = 0 }
