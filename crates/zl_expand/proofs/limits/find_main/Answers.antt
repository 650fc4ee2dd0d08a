use Rattle.std.proofs.Common.{sym}
use Rattle.std.proofs.lemmas.Iterator.Adapters.{position_from-zero}
use Rattle.zl_ast.specs.Names.{is_main}
use Rattle.zl_expand.proofs.limits.find_main.Goals as goal

pub loop-number-init : goal.loop-number-init
loop-number-init c = sym (position_from-zero (λ d. is_main c.args.declared.now.names.now d.name.id) c.args.declared.now.decls.now)
