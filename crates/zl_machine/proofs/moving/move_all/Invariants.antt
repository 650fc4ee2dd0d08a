-- The fault is still that of the whole move, and the memories up to here are where they come to.
use Rattle.std.specs.Prelude.{◌≡◌, ◌++◌, drop, length, take, None}
use Rattle.zl_value.specs.Widths.{first_wide}
use Rattle.zl_value.specs.System.{increments, arrivals}
use Rattle.zl_code.specs.System.{all_moved, motions}
use Rattle.zl_machine.proofs.Totals.{total}
use Rattle.zl_machine.proofs.moving.move_all.Given as goal

abbrev pub invariant-loop-i : goal.invariant-loop-i
invariant-loop-i l = record {
  room : length l.next ≡ length l.mems;
  fault : total l.by l.late (motions l.rates (drop l.i l.mems) (drop l.i l.now)) ≡ first_wide (increments l.by (motions l.rates l.mems l.now) ++ arrivals l.by (motions l.rates l.mems l.now));
  there : l.late ≡ None → take l.i l.next ≡ take l.i (all_moved l.rates l.by l.mems l.now);
}
