use Rattle.std.proofs.Common.{rules}
use Rattle.zl_types.proofs.ClassesLemmas.{known-read, learns_new, learns_same, never_other}
use Rattle.zl_types.proofs.classes.learn.Goals as goal

pub returns-in-None-clause-learns : goal.returns-in-None-clause-learns
returns-in-None-clause-learns c _ =
    learns_new c.args.known.now.items c.args.node c.args.ty c.requires (known-read _ _ _ _ c.requires c.index.ensures c.in-None.is)

pub returns-in-Some-clause-learns : goal.returns-in-Some-clause-learns
returns-in-Some-clause-learns c met =
    learns_same c.args.known.now.items c.args.node c.in-Some.other c.args.ty (known-read _ _ _ _ c.requires c.index.ensures c.in-Some.is) (search (rules, met))

pub returns-in-Some-clause-excludes : goal.returns-in-Some-clause-excludes
returns-in-Some-clause-excludes c clash =
    never_other c.args.known.now.items c.args.node c.in-Some.other c.args.ty (known-read _ _ _ _ c.requires c.index.ensures c.in-Some.is) (search (rules, clash))
