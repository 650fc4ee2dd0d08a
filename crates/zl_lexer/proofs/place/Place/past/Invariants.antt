use Rattle.std.proofs.Common.{◌-◌, ◌≤◌, length, chars}
use denote.Text.{Utf8}
use denote.Shadow.{shadow}
use Rattle.zl_lexer.proofs.PlaceLemmas.{IsPast, by_rest}
use Rattle.zl_lexer.proofs.place.Place.past.Given as goal

abbrev pub invariant-loop-passed : goal.invariant-loop-passed
invariant-loop-passed l =
    shadow (Utf8 l.rest)
    × (length l.rest ≤ length l.fn.text)
    × (l.len - l._passed ≤ length (chars l.rest))
    × IsPast l.fn.self (chars l.fn.text) l.fn.len (l.len - l._passed) (by_rest l.fn.self.byte (length l.fn.text) (length l.rest) l.at) (chars l.rest)
