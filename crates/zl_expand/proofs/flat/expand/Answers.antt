use Rattle.zl_flat.proofs.CheckedPrograms.{flat_is_regular}
use Rattle.zl_expand.proofs.flat.expand.Goals as goal

pub returns-clause-regular : goal.returns-clause-regular
returns-clause-regular c = flat_is_regular c.args.program.now c.args.scopes.now.decls c.args.typing.now.decls _ c.requires.scopes c.requires.checked c.in_ok-tables.ensures.flat
