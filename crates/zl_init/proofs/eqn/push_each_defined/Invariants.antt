use Rattle.std.proofs.Common.{◌≡◌, ◌++◌, drop}
use Rattle.zl_ast.specs.Initialised.{each_defined}
use Rattle.zl_init.specs.Kept.{known_of}
use Rattle.zl_init.proofs.eqn.push_each_defined.Given as goal

abbrev pub invariant-loop-name : goal.invariant-loop-name
invariant-loop-name l =
    l.out.items ++ each_defined (known_of l.known) l.own l.at l.right (drop l.name-index l.left)
    ≡ l.initial.out.items ++ each_defined (known_of l.known) l.own l.at l.right l.left
