use Rattle.std.proofs.Common.{◌<◌, length, chars}
use denote.Text.{Utf8}
use denote.Shadow.{shadow}
use Rattle.zl_lexer.proofs.CommentLemmas.{IsInside}
use Rattle.zl_lexer.proofs.comment.len_to_close.Given as goal

abbrev pub invariant-loop-first : goal.invariant-loop-first
invariant-loop-first l = shadow (Utf8 l.rest) × (0 < l.depth) × IsInside (chars l.text) l.depth l.passed (chars l.rest)

abbrev pub decreases-loop-first : goal.decreases-loop-first
decreases-loop-first l = length (chars l.rest)
