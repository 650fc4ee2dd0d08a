use Rattle.std.proofs.Common.{◌≡◌, map, take}
use Rattle.zl_ast.specs.declared.expr.Expr.TheVariants as tree
use Rattle.zl_parser.proofs.decl.variables.Given as goal

abbrev pub invariant-loop-name : goal.invariant-loop-name
invariant-loop-name l = l.variables.items ≡ map tree.Var (take l.name-index l.names)
