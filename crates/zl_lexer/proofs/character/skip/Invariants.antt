use Rattle.std.proofs.Common.{◌≡◌, ◌-◌, drop, chars}
use denote.Text.{Utf8}
use denote.Shadow.{shadow}
use Rattle.zl_lexer.proofs.character.skip.Given as goal

abbrev pub invariant-loop-passed : goal.invariant-loop-passed
invariant-loop-passed l = shadow (Utf8 l.rest) × (drop (l.len - l._passed) (chars l.rest) ≡ drop l.fn.len (chars l.fn.text))
