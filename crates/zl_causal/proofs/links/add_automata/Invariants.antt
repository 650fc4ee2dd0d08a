use Rattle.std.proofs.Common.{◌≡◌, ◌++◌, drop}
use Rattle.zl_causal.specs.FormLinks as spec
use Rattle.zl_causal.proofs.links.add_automata.Given as goal

abbrev pub invariant-loop-auto : goal.invariant-loop-auto
invariant-loop-auto l = l.links.items ++ spec.automata_links l.of (drop l.auto-index l.automata) ≡ l.initial.links.items ++ spec.automata_links 0 l.automata
