use Rattle.std.proofs.Common.{◌≡◌, drop}
use Rattle.std.specs.List.{flat_map}
use Rattle.zl_grade.specs.Reached.{with_all}
use Rattle.zl_grade.specs.Apart.{set_by}
use Rattle.zl_grade.proofs.apart.add_definers.Given as goal

abbrev pub invariant-loop-definer : goal.invariant-loop-definer
invariant-loop-definer l = with_all l.reached (flat_map set_by (drop l.definer-index l.definers)) ≡ with_all l.fn.reached (flat_map set_by l.definers)
