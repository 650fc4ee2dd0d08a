use Rattle.std.proofs.Common.{◌+◌, ◌-◌, chars, sym, ◌∙◌, rules, arith}
use Rattle.zl_lexer.proofs.CommentLemmas.{at_first, opened, closed, passed_one, unclosed, closed_first}
use Rattle.zl_lexer.proofs.TextLemmas.{chars_fit}
use Rattle.zl_lexer.proofs.comment.len_to_close.Goals as goal

pub loop-first-init : goal.loop-first-init
loop-first-init c = (search rules, omega arith, at_first (chars c.args.text.now))

pub returns-in_default-clause-value : goal.returns-in_default-clause-value
returns-in_default-clause-value c =
    let l = c.loop-first in
    unclosed (chars c.args.text.now) (chars l.rest.now) l.depth l.passed l.invariant.2 c.in_default.ensures.characters c.loop-first.invariant.1

pub overflow_add-depth : goal.overflow_add-depth
overflow_add-depth c = omega (arith, c.loop-first.invariant.2.few, c.loop-first.invariant.2.within, chars_fit c.args.text.now c.utf8.text)

pub overflow_add-passed : goal.overflow_add-passed
overflow_add-passed c = omega (arith, c.loop-first.invariant.2.within, chars_fit c.args.text.now c.utf8.text)

pub overflow_add-passed-then-closes_comment : goal.overflow_add-passed-then-closes_comment
overflow_add-passed-then-closes_comment c = omega (arith, c.loop-first.invariant.2.within, chars_fit c.args.text.now c.utf8.text)

pub overflow_add-passed-else-closes_comment : goal.overflow_add-passed-else-closes_comment
overflow_add-passed-else-closes_comment c = omega (arith, c.loop-first.invariant.2.within, chars_fit c.args.text.now c.utf8.text)

pub loop-first-preserved-then-opens_comment : goal.loop-first-preserved-then-opens_comment
loop-first-preserved-then-opens_comment c =
    let l = c.loop-first in (
      search rules,
      omega arith,
      opened (chars c.args.text.now) (chars l.rest.now) l.depth l.passed c.in-Some.first (chars c.in-Some.behind.now) (chars c.tail-rest.result.now)
          l.invariant.2 c.in-Some.ensures.characters c.loop-first.invariant.1 (sym c.opens_comment.ensures ∙ c.if-opens_comment.true) c.tail-rest.ensures,
    )

pub loop-first-preserved-else-depth-eq0 : goal.loop-first-preserved-else-depth-eq0
loop-first-preserved-else-depth-eq0 c =
    let l = c.loop-first in (
      search rules,
      omega (arith, c.if-depth-eq0.false),
      closed (chars c.args.text.now) (chars l.rest.now) l.depth l.passed c.in-Some.first (chars c.in-Some.behind.now) (chars c.tail-rest-then-closes_comment.result.now)
          l.invariant.2 c.in-Some.ensures.characters c.loop-first.invariant.1 (sym c.opens_comment.ensures ∙ c.if-opens_comment.false)
          (sym c.closes_comment.ensures ∙ c.if-closes_comment.true) c.tail-rest-then-closes_comment.ensures,
    )

pub loop-first-preserved : goal.loop-first-preserved
loop-first-preserved c =
    let l = c.loop-first in (
      search rules,
      c.loop-first.invariant.1,
      passed_one (chars c.args.text.now) (chars l.rest.now) l.depth l.passed c.in-Some.first (chars c.in-Some.behind.now)
          l.invariant.2 c.in-Some.ensures.characters c.loop-first.invariant.1 (sym c.opens_comment.ensures ∙ c.if-opens_comment.false)
          (sym c.closes_comment.ensures ∙ c.if-closes_comment.false),
    )

pub returns-then-depth-eq0-clause-value : goal.returns-then-depth-eq0-clause-value
returns-then-depth-eq0-clause-value c =
    let l = c.loop-first in
    closed_first (chars c.args.text.now) (chars c.tail-rest-then-closes_comment.result.now) (l.depth - 1) (l.passed + 2)
    (closed (chars c.args.text.now) (chars l.rest.now) l.depth l.passed c.in-Some.first (chars c.in-Some.behind.now) (chars c.tail-rest-then-closes_comment.result.now)
    l.invariant.2 c.in-Some.ensures.characters c.loop-first.invariant.1 (sym c.opens_comment.ensures ∙ c.if-opens_comment.false)
    (sym c.closes_comment.ensures ∙ c.if-closes_comment.true) c.tail-rest-then-closes_comment.ensures)
    c.if-depth-eq0.true

pub returns-then-depth-eq0-clause-within : goal.returns-then-depth-eq0-clause-within
returns-then-depth-eq0-clause-within c =
    let l = c.loop-first in
    let done = closed (chars c.args.text.now) (chars l.rest.now) l.depth l.passed c.in-Some.first (chars c.in-Some.behind.now) (chars c.tail-rest-then-closes_comment.result.now)
    l.invariant.2 c.in-Some.ensures.characters c.loop-first.invariant.1 (sym c.opens_comment.ensures ∙ c.if-opens_comment.false)
    (sym c.closes_comment.ensures ∙ c.if-closes_comment.true) c.tail-rest-then-closes_comment.ensures in
    omega (arith, done.within, chars_fit c.args.text.now c.utf8.text)
