use Rattle.std.proofs.Common.{◌≡◌, drop}
use Rattle.zl_grade.specs.Reached.{with_all}
use Rattle.zl_grade.specs.Apart.{set_values}
use Rattle.zl_grade.proofs.apart.add_places.Given as goal

abbrev pub invariant-loop-place : goal.invariant-loop-place
invariant-loop-place l = with_all l.reached (set_values (drop l.place-index l.places)) ≡ with_all l.fn.reached (set_values l.places)
