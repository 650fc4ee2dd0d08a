use Rattle.std.proofs.Common.{◌≡◌, length}
use Rattle.zl_grade.specs.Chains.{HasFirst}
use Rattle.zl_grade.proofs.readers.Readers.new.Given as goal

abbrev pub invariant-loop-i : goal.invariant-loop-i
invariant-loop-i l = record {
  occs : length l.of_occs.items ≡ l.occs;
  places : length l.of_places.items ≡ l.places;
  first : HasFirst l.links l.i l.of_occs.items l.of_places.items l.before.items;
}
