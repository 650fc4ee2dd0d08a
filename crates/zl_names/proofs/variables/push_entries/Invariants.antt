use Rattle.std.proofs.Common.{◌≡◌, ◌++◌, drop}
use Rattle.zl_ast.specs.Scopes.{first_entries}
use Rattle.zl_names.proofs.variables.push_entries.Given as goal

abbrev pub invariant-loop-entry : goal.invariant-loop-entry
invariant-loop-entry l = l.vars.items ++ first_entries l.seen (drop l.entry-index l.entries) ≡ l.initial.vars.items ++ first_entries l.initial.seen l.entries
