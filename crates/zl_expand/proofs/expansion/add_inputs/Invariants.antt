use Rattle.std.proofs.Common.{◌≡◌, ◌++◌, drop, length}
use Rattle.zl_value.specs.Lists.{listed}
use Rattle.zl_flat.specs.Parts.{joined, some_definers}
use Rattle.zl_flat.specs.Expansion.{input_definers}
use Rattle.zl_expand.proofs.expansion.add_inputs.Given as goal

abbrev pub invariant-loop-param : goal.invariant-loop-param
invariant-loop-param l =
    (joined l.out (some_definers (input_definers l.n (drop l._param-index l.params))) ≡ joined l.initial.out (some_definers (input_definers 0 l.params)))
    × (l.ins.items ++ listed (length (drop l._param-index l.params)) l.n (λ n. n) ≡ listed (length l.params) 0 (λ n. n))
    × (l.n ≡ l._param-index)
