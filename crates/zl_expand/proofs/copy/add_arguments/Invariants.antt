use Rattle.std.proofs.Common.{◌≡◌, ◌+◌, length}
use Rattle.std.specs.Iterator.Adapters.{zip_first, zip_second}
use Rattle.std.specs.Slice.Iter.{iter_rest}
use Rattle.zl_flat.specs.Parts.{joined, some_definers}
use Rattle.zl_flat.specs.Expansion.{argument_definers}
use Rattle.zl_expand.proofs.copy.add_arguments.Given as goal

abbrev pub invariant-loop-argument : goal.invariant-loop-argument
invariant-loop-argument l =
    (joined l.out (some_definers (argument_definers l.here l.place (iter_rest (zip_second l.argument-iterator)) (iter_rest (zip_first l.argument-iterator)))) ≡ joined l.initial.out (some_definers (argument_definers l.here l.first l.params l.arguments)))
    × (l.place + length (iter_rest (zip_second l.argument-iterator)) ≡ l.first + length l.params)
