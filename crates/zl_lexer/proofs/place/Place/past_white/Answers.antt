use Rattle.std.proofs.Common.{chars, refl, sym, ◌∙◌, rules}
use Rattle.std.specs.List.{prefix_len}
use Rattle.zl_lexer.specs.Positions.{is_white}
use Rattle.zl_lexer.proofs.PlaceLemmas.{past_none, past_next, next_fits, past_all, past_end, white_more, white_ends}
use Rattle.zl_lexer.proofs.place.Place.past_white.Goals as goal

pub loop-c-init : goal.loop-c-init
loop-c-init c = (
  search rules,
  past_none c.args.self (chars c.args.text.now) (prefix_len is_white (chars c.args.text.now)) (prefix_len is_white (chars c.args.text.now)) refl
      c.requires.bytes c.requires.line c.requires.column,
)

pub returns-in_default-clause-place : goal.returns-in_default-clause-place
returns-in_default-clause-place c =
    let l = c.loop-c in (past_end c.args.self (chars c.args.text.now) (prefix_len is_white (chars c.args.text.now)) (prefix_len is_white (chars l.rest.now)) l.place (chars l.rest.now) l.invariant.1 c.in_default.ensures.characters).place

pub returns-in_default-clause-rest : goal.returns-in_default-clause-rest
returns-in_default-clause-rest c =
    let l = c.loop-c in (past_end c.args.self (chars c.args.text.now) (prefix_len is_white (chars c.args.text.now)) (prefix_len is_white (chars l.rest.now)) l.place (chars l.rest.now) l.invariant.1 c.in_default.ensures.characters).rest_is

pub returns-then-not-is_white-clause-place : goal.returns-then-not-is_white-clause-place
returns-then-not-is_white-clause-place c =
    let l = c.loop-c in
    (past_all c.args.self (chars c.args.text.now) (prefix_len is_white (chars c.args.text.now)) (prefix_len is_white (chars l.rest.now)) l.place (chars l.rest.now) l.invariant.1
    (white_ends (chars l.rest.now) c.in-Some.c (chars c.in-Some.further.now) c.in-Some.ensures.characters (sym c.is_white.ensures ∙ c.if-not-is_white.true))).place

pub returns-then-not-is_white-clause-rest : goal.returns-then-not-is_white-clause-rest
returns-then-not-is_white-clause-rest c =
    let l = c.loop-c in
    (past_all c.args.self (chars c.args.text.now) (prefix_len is_white (chars c.args.text.now)) (prefix_len is_white (chars l.rest.now)) l.place (chars l.rest.now) l.invariant.1
    (white_ends (chars l.rest.now) c.in-Some.c (chars c.in-Some.further.now) c.in-Some.ensures.characters (sym c.is_white.ensures ∙ c.if-not-is_white.true))).rest_is

pub after-place-requires-clause-bytes : goal.after-place-requires-clause-bytes
after-place-requires-clause-bytes c =
    let l = c.loop-c in
    next_fits c.args.self (chars c.args.text.now) (prefix_len is_white (chars c.args.text.now)) (prefix_len is_white (chars l.rest.now)) l.place (chars l.rest.now) c.in-Some.c (chars c.in-Some.further.now) l.invariant.1 c.in-Some.ensures.characters

pub after-place-requires-clause-line : goal.after-place-requires-clause-line
after-place-requires-clause-line c = c.loop-c.invariant.1.low.line

pub after-place-requires-clause-column : goal.after-place-requires-clause-column
after-place-requires-clause-column c = c.loop-c.invariant.1.low.column

pub loop-c-preserved : goal.loop-c-preserved
loop-c-preserved c =
    let l = c.loop-c in (
      search rules,
      past_next c.args.self (chars c.args.text.now) (prefix_len is_white (chars c.args.text.now)) (prefix_len is_white (chars l.rest.now)) (prefix_len is_white (chars c.in-Some.further.now)) l.place c.after-place.result (chars l.rest.now) c.in-Some.c (chars c.in-Some.further.now)
          l.invariant.1 c.in-Some.ensures.characters
          (white_more (chars l.rest.now) c.in-Some.c (chars c.in-Some.further.now) c.in-Some.ensures.characters (sym c.is_white.ensures ∙ c.if-not-is_white.false))
          c.after-place.ensures,
    )
