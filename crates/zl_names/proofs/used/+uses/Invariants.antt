use Rattle.std.proofs.Common.{◌≡◌, drop, map}
use Rattle.zl_ast.specs.NamesUsed.{values_uses, link_uses, all_uses}
use Rattle.zl_names.specs.Kept.{known_of}
use Rattle.zl_names.specs.Earliest.{earliest}
use Rattle.zl_names.proofs.used.+uses.Given as goal

abbrev pub invariant-note_exprs-loop-expr : goal.invariant-note_exprs-loop-expr
invariant-note_exprs-loop-expr l =
    earliest l.first.found (values_uses (known_of l.known) (drop l.expr-index l.exprs) l.visible)
    ≡ earliest l.initial.first.found (values_uses (known_of l.known) l.exprs l.visible)

abbrev pub invariant-note_links-loop-link : goal.invariant-note_links-loop-link
invariant-note_links-loop-link l =
    earliest l.first.found (all_uses (map (link_uses (known_of l.known)) (drop l.link-index l.links)) l.visible)
    ≡ earliest l.initial.first.found (all_uses (map (link_uses (known_of l.known)) l.links) l.visible)
