use Rattle.std.proofs.Common.{◌≡◌, drop, map}
use Rattle.zl_ast.specs.Kinds.{all_misplaced, cond_misplaced}
use Rattle.zl_types.specs.Contexts.{context_of, declared_of}
use Rattle.zl_types.specs.ContextsFirst.{earliest}
use Rattle.zl_types.proofs.kind_eqn.note_moves.Given as goal

abbrev pub invariant-loop-one : goal.invariant-loop-one
invariant-loop-one l =
    earliest l.first.found (all_misplaced (map (λ m. cond_misplaced (declared_of l.declared) m.cond) (drop l.one-index l.moves)) (context_of l.context))
    ≡ earliest l.initial.first.found (all_misplaced (map (λ m. cond_misplaced (declared_of l.declared) m.cond) l.moves) (context_of l.context))
