use Rattle.std.proofs.Common.{◌-◌, drop, chars, rules}
use Rattle.zl_lexer.proofs.TextLemmas.{drop_next, drop_done, drop_ends}
use Rattle.zl_lexer.proofs.character.skip.Goals as goal

pub loop-passed-preserved : goal.loop-passed-preserved
loop-passed-preserved c = (
  search rules,
  drop_next c.args.len c.loop-passed._passed (chars c.loop-passed.rest.now) c.in-Some.field-0-0 (chars c.in-Some.further.now) (drop c.args.len (chars c.args.text.now))
      c.loop-passed.invariant.1 c.in-Some.ensures.characters c.loop-passed-test.true,
)

pub returns-after-loop-passed : goal.returns-after-loop-passed
returns-after-loop-passed c =
    drop_done c.args.len c.loop-passed._passed (chars c.loop-passed.rest.now) (drop c.args.len (chars c.args.text.now)) c.loop-passed.invariant.1 c.loop-passed-test.false

pub returns-in_default : goal.returns-in_default
returns-in_default c =
    drop_ends (c.args.len - c.loop-passed._passed) (chars c.loop-passed.rest.now) (drop c.args.len (chars c.args.text.now)) c.loop-passed.invariant.1 c.in_default.ensures.characters
