use Rattle.std.proofs.Common.{◌≡◌, length, take, chars, ap, ◌∙◌, arith, rules}
use Rattle.std.proofs.lemmas.Str.{encodes-chars, chars_from_encodes}
use Rattle.zl_lexer.specs.declared.place.Place.{Place}
use Rattle.zl_lexer.specs.Positions.{behind}
use Rattle.zl_lexer.proofs.PlaceLemmas.{end_is}
use Rattle.zl_lexer.proofs.place.end_of.Goals as goal

pub past-requires-clause-bytes : goal.past-requires-clause-bytes
past-requires-clause-bytes c =
    rw (encodes-chars c.args.text.now c.utf8.text, ap (λ (p : Place). p.byte) c.first.ensures) (omega arith)

pub returns : goal.returns
returns c =
    end_is (chars c.args.text.now) c.count-len.result c.past.result.0 (let e : c.count-len.result ≡ length (chars c.args.text.now) = search (rules, chars_from_encodes) in omega (arith, e))
    (c.past.ensures.place ∙ ap (λ p. behind p (take c.count-len.result (chars c.args.text.now))) c.first.ensures)

pub past-requires-clause-within : goal.past-requires-clause-within
past-requires-clause-within c = let e : c.count-len.result ≡ length (chars c.args.text.now) = search (rules, chars_from_encodes) in omega (arith, e)
