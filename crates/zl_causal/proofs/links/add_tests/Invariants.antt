use Rattle.std.proofs.Common.{◌≡◌, ◌++◌, drop}
use Rattle.std.specs.List.{flat_map}
use Rattle.zl_causal.specs.FormLinks as spec
use Rattle.zl_causal.proofs.links.add_tests.Given as goal

abbrev pub invariant-loop-test : goal.invariant-loop-test
invariant-loop-test l = l.links.items ++ flat_map (spec.test_links l.of) (drop l.test-index l.tests) ≡ l.initial.links.items ++ flat_map (spec.test_links l.of) l.tests
