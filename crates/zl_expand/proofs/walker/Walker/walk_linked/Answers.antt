use Rattle.std.proofs.Common.{rules, ◌≡◌, ◌<◌, length, sym, ap, ◌∙◌, subst}
use Rattle.zl_expand.specs.Linked.{is_linked}
use Rattle.zl_expand.proofs.LinkedLemmas.{chain-some}
use Rattle.zl_expand.proofs.walker.Walker.walk_linked.Goals as goal

pub walk_chain-requires-clause-linked : goal.walk_chain-requires-clause-linked
walk_chain-requires-clause-linked g c =
    let same : c.as_slice-in-Chain.result.now ≡ c.in-Chain.rest = search rules in
    subst (λ ls. 0 < length ls) (sym same) (chain-some _ _ (ap is_linked (sym c.in-Chain.is) ∙ c.requires.linked))
