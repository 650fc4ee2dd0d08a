use Rattle.std.proofs.Common.{◌≡◌, ◌++◌, drop}
use Rattle.zl_causal.specs.FormLinks as spec
use Rattle.zl_causal.proofs.links.add_choices.Given as goal

abbrev pub invariant-loop-choice : goal.invariant-loop-choice
invariant-loop-choice l = l.links.items ++ spec.choices_links l.of (drop l.choice-index l.choices) ≡ l.initial.links.items ++ spec.choices_links 0 l.choices
