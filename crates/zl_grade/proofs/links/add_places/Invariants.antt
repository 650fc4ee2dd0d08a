use Rattle.std.proofs.Common.{◌≡◌, ◌++◌, drop}
use Rattle.zl_grade.specs.Numbered.{numbered}
use Rattle.zl_grade.specs.Links as spec
use Rattle.zl_grade.proofs.links.add_places.Given as goal

abbrev pub invariant-loop-p : goal.invariant-loop-p
invariant-loop-p l = l.links.items ++ numbered spec.place_links l.p (drop l.p l.places) ≡ l.initial.links.items ++ numbered spec.place_links 0 l.places
