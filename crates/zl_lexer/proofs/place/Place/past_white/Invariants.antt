use Rattle.std.proofs.Common.{length, chars}
use denote.Text.{Utf8}
use denote.Shadow.{shadow}
use Rattle.std.specs.List.{prefix_len}
use Rattle.zl_lexer.specs.Positions.{is_white}
use Rattle.zl_lexer.proofs.PlaceLemmas.{IsPast}
use Rattle.zl_lexer.proofs.place.Place.past_white.Given as goal

abbrev pub invariant-loop-c : goal.invariant-loop-c
invariant-loop-c l =
    shadow (Utf8 l.rest)
    × IsPast l.fn.self (chars l.fn.text) (prefix_len is_white (chars l.fn.text)) (prefix_len is_white (chars l.rest)) l.place (chars l.rest)

abbrev pub decreases-loop-c : goal.decreases-loop-c
decreases-loop-c l = length (chars l.rest)
