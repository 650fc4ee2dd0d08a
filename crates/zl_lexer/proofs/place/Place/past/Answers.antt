use Rattle.std.proofs.Common.{◌-◌, ◌+◌, length, chars, subst, ap, rules, arith}
use Rattle.zl_lexer.proofs.PlaceLemmas.{IsPast, by_rest, by_rest_first, char_bytes, place_by_rest, past_none, past_next, past_all}
use Rattle.zl_lexer.proofs.place.Place.past.Goals as goal

pub loop-passed-init : goal.loop-passed-init
loop-passed-init c = (
  search rules,
  omega arith,
  omega (arith, c.requires.within),
  subst (λ p. IsPast c.args.self (chars c.args.text.now) c.args.len (c.args.len - 0) p (chars c.args.text.now)) (by_rest_first c.args.self (length c.args.text.now))
      (past_none c.args.self (chars c.args.text.now) c.args.len (c.args.len - 0) (omega arith) c.requires.bytes c.requires.line c.requires.column),
)

pub pos_after-at-requires-clause-line : goal.pos_after-at-requires-clause-line
pos_after-at-requires-clause-line c = omega (arith, c.loop-passed.invariant.3.low.line, c.loop-passed.invariant.3.bytes)

pub pos_after-at-requires-clause-column : goal.pos_after-at-requires-clause-column
pos_after-at-requires-clause-column c = omega (arith, c.loop-passed.invariant.3.low.column, c.loop-passed.invariant.3.bytes)

pub loop-passed-preserved : goal.loop-passed-preserved
loop-passed-preserved c =
    let size = char_bytes c.loop-passed.rest.now c.in-Some.further.now c.in-Some.c c.in-Some.ensures.bytes in (
      search rules,
      omega (arith, size, c.loop-passed.invariant.1),
      omega (arith, c.loop-passed.invariant.2, ap length c.in-Some.ensures.characters, c.loop-passed-test.true),
      past_next c.args.self (chars c.args.text.now) c.args.len (c.args.len - c.loop-passed._passed) (c.args.len - (c.loop-passed._passed + 1))
          (by_rest c.args.self.byte (length c.args.text.now) (length c.loop-passed.rest.now) c.loop-passed.at)
          (by_rest c.args.self.byte (length c.args.text.now) (length c.in-Some.further.now) c.pos_after-at.result) (chars c.loop-passed.rest.now) c.in-Some.c (chars c.in-Some.further.now)
          c.loop-passed.invariant.3 c.in-Some.ensures.characters (omega (arith, c.loop-passed-test.true))
          (place_by_rest c.args.self.byte (length c.args.text.now) (length c.loop-passed.rest.now) (length c.in-Some.further.now) c.loop-passed.at c.pos_after-at.result c.in-Some.c
          size c.loop-passed.invariant.1 c.pos_after-at.ensures),
    )

pub unreachable-requires : goal.unreachable-requires
unreachable-requires c = omega (arith, c.loop-passed.invariant.2, ap length c.in_default.ensures.characters, c.loop-passed-test.true)

pub returns-clause-place : goal.returns-clause-place
returns-clause-place c =
    (past_all c.args.self (chars c.args.text.now) c.args.len (c.args.len - c.loop-passed._passed)
    (by_rest c.args.self.byte (length c.args.text.now) (length c.loop-passed.rest.now) c.loop-passed.at)
    (chars c.loop-passed.rest.now) c.loop-passed.invariant.3 (omega (arith, c.loop-passed-test.false))).place

pub returns-clause-rest : goal.returns-clause-rest
returns-clause-rest c =
    (past_all c.args.self (chars c.args.text.now) c.args.len (c.args.len - c.loop-passed._passed)
    (by_rest c.args.self.byte (length c.args.text.now) (length c.loop-passed.rest.now) c.loop-passed.at)
    (chars c.loop-passed.rest.now) c.loop-passed.invariant.3 (omega (arith, c.loop-passed-test.false))).rest_is
