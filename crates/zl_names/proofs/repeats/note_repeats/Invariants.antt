use Rattle.std.proofs.Common.{◌≡◌, [], drop}
use Rattle.zl_ast.specs.Names.{repeats, with_ids, ids_of}
use Rattle.zl_names.specs.Earliest.{earliest}
use Rattle.zl_names.proofs.repeats.note_repeats.Given as goal

abbrev pub invariant-loop-name : goal.invariant-loop-name
invariant-loop-name l =
    (earliest l.first.found (repeats l.rule l.seen (drop l.name-index l.names)) ≡ earliest l.initial.first.found (repeats l.rule [] l.names))
    × (with_ids l.seen (ids_of (drop l.name-index l.names)) ≡ with_ids [] (ids_of l.names))
