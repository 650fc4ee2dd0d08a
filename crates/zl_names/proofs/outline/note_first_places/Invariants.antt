use Rattle.std.proofs.Common.{◌≡◌, [], drop}
use Rattle.zl_ast.specs.NamesDefined.{first_places}
use Rattle.zl_names.specs.Earliest.{earliest}
use Rattle.zl_names.proofs.outline.note_first_places.Given as goal

abbrev pub invariant-loop-entry : goal.invariant-loop-entry
invariant-loop-entry l =
    earliest l.first.found (first_places l.wanted l.seen (drop l.entry-index l.entries)) ≡ earliest l.initial.first.found (first_places l.wanted [] l.entries)
