use Rattle.std.proofs.Common.{◌≡◌, drop}
use Rattle.std.specs.List.{position, position_from}
use Rattle.zl_ast.specs.Names.{is_main}
use Rattle.zl_expand.proofs.limits.find_main.Given as goal

abbrev pub invariant-loop-number : goal.invariant-loop-number
invariant-loop-number l =
    position_from (λ d. is_main l.declared.names.now d.name.id) l.number (drop l.number l.declared.decls.now) ≡ position (λ d. is_main l.declared.names.now d.name.id) l.declared.decls.now
