use Rattle.std.proofs.Common.{rules}
use Rattle.zl_types.proofs.ForestLemmas.{within, halved}
use Rattle.zl_types.proofs.forest.halve.Goals as goal

pub index-further-requires : goal.index-further-requires
index-further-requires c =
    let h = (within c.args.links.now.items c.args.node _ c.requires.forest c.requires.within c.index-next.ensures).2 in
    search (rules, h)

pub returns-clause-relinked : goal.returns-clause-relinked
returns-clause-relinked c = (halved c.args.links.now.items c.args.node _ _ c.requires.forest c.requires.within c.index-next.ensures c.index-further.ensures).relinked

pub returns-clause-same : goal.returns-clause-same
returns-clause-same c = (halved c.args.links.now.items c.args.node _ _ c.requires.forest c.requires.within c.index-next.ensures c.index-further.ensures).same

pub returns-clause-older : goal.returns-clause-older
returns-clause-older c = (halved c.args.links.now.items c.args.node _ _ c.requires.forest c.requires.within c.index-next.ensures c.index-further.ensures).older
