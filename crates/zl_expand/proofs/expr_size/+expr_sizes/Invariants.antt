use Rattle.std.proofs.Common.{◌≡◌, drop, map}
use Rattle.zl_flat.specs.Sizes as spec
use Rattle.zl_flat.specs.Capped.{capped}
use Rattle.zl_expand.specs.KeptDecls.{infos_in, known_in}
use Rattle.zl_expand.proofs.expr_size.+expr_sizes.Given as goal

abbrev pub invariant-exprs_size-loop-expr : goal.invariant-exprs_size-loop-expr
invariant-exprs_size-loop-expr l =
    (capped (spec.plus l.size (spec.total (map (spec.expr_size (infos_in l.known) (known_in l.known)) (drop l.expr-index l.exprs)))) ≡ capped (spec.total (map (spec.expr_size (infos_in l.known) (known_in l.known)) l.exprs)))
    × (l.size ≡ capped l.size)

abbrev pub invariant-links_size-loop-link : goal.invariant-links_size-loop-link
invariant-links_size-loop-link l =
    (capped (spec.plus l.size (spec.total (map (spec.link_size (infos_in l.known) (known_in l.known)) (drop l.link-index l.links)))) ≡ capped (spec.total (map (spec.link_size (infos_in l.known) (known_in l.known)) l.links)))
    × (l.size ≡ capped l.size)
