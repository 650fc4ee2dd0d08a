-- What was made so far.
use Rattle.std.specs.Prelude.{◌≡◌, map, take}
use Rattle.zl_codegen.specs.CodeOf.{site_of}
use Rattle.zl_codegen.proofs.generation.sites.Given as goal

abbrev pub invariant-loop-i : goal.invariant-loop-i
invariant-loop-i l = l.made.items ≡ map site_of (take l.i l.sites)
