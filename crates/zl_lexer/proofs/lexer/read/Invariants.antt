use Rattle.std.proofs.Common.{length, chars}
use denote.Text.{Utf8}
use denote.Shadow.{shadow}
use Rattle.zl_lexer.proofs.LoopLemmas.{IsReadTo}
use Rattle.zl_lexer.proofs.lexer.read.Given as goal

abbrev pub invariant-loop-tokens : goal.invariant-loop-tokens
invariant-loop-tokens l = shadow (Utf8 l.rest) × IsReadTo l.text l.place (chars l.rest) l.tokens.items l.names

abbrev pub decreases-loop-tokens : goal.decreases-loop-tokens
decreases-loop-tokens l = length (chars l.rest)
