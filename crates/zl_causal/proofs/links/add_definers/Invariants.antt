use Rattle.std.proofs.Common.{◌≡◌, ◌+◌, ◌++◌, drop}
use Rattle.zl_causal.specs.FormLinks as spec
use Rattle.zl_causal.proofs.links.add_definers.Given as goal

abbrev pub invariant-loop-definer : goal.invariant-loop-definer
invariant-loop-definer l = record {
  links : l.links.items ++ spec.definers_links l.p l.d (drop l.definer-index l.definers) ≡ l.initial.links.items ++ spec.definers_links l.p l.first l.definers;
  number : l.d ≡ l.first + l.definer-index;
}
