use Rattle.std.proofs.Common.{length, chars, refl, sym, ap, subst, ◌∙◌, rules}
use Rattle.std.specs.Prelude.{IfSome}
use Rattle.std.specs.List.{prefix_len}
use Rattle.zl_lexer.specs.Positions.{is_white, behind}
use Rattle.zl_lexer.specs.Tokens.{IsLexed}
use Rattle.zl_lexer.specs.Facts.{AreTokens, IsKind}
use Rattle.zl_lexer.proofs.FrontLemmas.{passed_fits, token_fits}
use Rattle.zl_lexer.proofs.LoopLemmas.{ended, are_tokens, stopped}
use Rattle.zl_lexer.proofs.StepLemmas.{started, bytes_fit, passed_step, white_step, no_more, fewer, boundary_here, word_step, word_is, word_form, token_step, refused_step}
use Rattle.zl_lexer.proofs.lexer.read.Goals as goal

pub loop-tokens-init : goal.loop-tokens-init
loop-tokens-init c = (
  search rules,
  started c.args.text.now (chars c.args.text.now) c.first-place.result c.new-tokens.result.items c.new-names.result c.utf8.text refl
      c.first-place.ensures c.new-tokens.ensures.items c.new-names.ensures,
)

pub returns-in-End-clause-ok : goal.returns-in-End-clause-ok
returns-in-End-clause-ok c =
    let l = c.loop-tokens in
    subst (λ ts. IsLexed c.args.text.now ts l.names l.place.at) (sym c.from_vec.ensures)
    (ended c.args.text.now l.place (chars l.rest.now) l.tokens.items l.names l.invariant.1 c.in-End.ensures)

pub returns-in-End-clause-facts : goal.returns-in-End-clause-facts
returns-in-End-clause-facts c =
    let l = c.loop-tokens in
    subst (λ ts. AreTokens ts l.names l.place.at) (sym c.from_vec.ensures)
    (are_tokens c.args.text.now l.place (chars l.rest.now) l.tokens.items l.names l.invariant.1)

pub returns-in-Bad-clause-err : goal.returns-in-Bad-clause-err
returns-in-Bad-clause-err c =
    let l = c.loop-tokens in stopped c.args.text.now l.place (chars l.rest.now) l.tokens.items l.names l.invariant.1 c.in-Bad.ensures

pub past-requires-clause-within : goal.past-requires-clause-within
past-requires-clause-within c = (passed_fits (chars c.loop-tokens.rest.now) c.in-Passed.len c.in-Passed.ensures).within

pub past-requires-in-Token-clause-within : goal.past-requires-in-Token-clause-within
past-requires-in-Token-clause-within c = (token_fits (chars c.loop-tokens.rest.now) c.in-Token.len c.in-Token.form c.in-Token.ensures).within

pub past-requires-clause-bytes : goal.past-requires-clause-bytes
past-requires-clause-bytes c =
    let l = c.loop-tokens in bytes_fit c.args.text.now l.place (chars l.rest.now) l.tokens.items l.names l.invariant.1 c.requires

pub past_white-requires-clause-bytes : goal.past_white-requires-clause-bytes
past_white-requires-clause-bytes c =
    let l = c.loop-tokens in
    bytes_fit c.args.text.now c.past.result.0 (chars c.past.result.1.now) l.tokens.items l.names
    (passed_step c.args.text.now l.place c.past.result.0 (chars l.rest.now) (chars c.past.result.1.now) l.tokens.items l.names
    c.in-Passed.len l.invariant.1 c.in-Passed.ensures c.past.ensures.rest c.past.ensures.place) c.requires

pub past_white-requires-clause-line : goal.past_white-requires-clause-line
past_white-requires-clause-line c =
    let l = c.loop-tokens in
    (passed_step c.args.text.now l.place c.past.result.0 (chars l.rest.now) (chars c.past.result.1.now) l.tokens.items l.names
    c.in-Passed.len l.invariant.1 c.in-Passed.ensures c.past.ensures.rest c.past.ensures.place).low.line

pub past_white-requires-clause-column : goal.past_white-requires-clause-column
past_white-requires-clause-column c =
    let l = c.loop-tokens in
    (passed_step c.args.text.now l.place c.past.result.0 (chars l.rest.now) (chars c.past.result.1.now) l.tokens.items l.names
    c.in-Passed.len l.invariant.1 c.in-Passed.ensures c.past.ensures.rest c.past.ensures.place).low.column

pub loop-tokens-smaller-in-Passed : goal.loop-tokens-smaller-in-Passed
loop-tokens-smaller-in-Passed c =
    let fits = passed_fits (chars c.loop-tokens.rest.now) c.in-Passed.len c.in-Passed.ensures in
    no_more (chars c.loop-tokens.rest.now) (chars c.past.result.1.now) (chars c.past_white.result.1.now) (prefix_len is_white (chars c.past.result.1.now))
    (fewer (chars c.loop-tokens.rest.now) (chars c.past.result.1.now) c.in-Passed.len fits.some fits.within c.past.ensures.rest) c.past_white.ensures.rest

pub loop-tokens-preserved-in-Passed : goal.loop-tokens-preserved-in-Passed
loop-tokens-preserved-in-Passed c =
    let l = c.loop-tokens in (
      search rules,
      white_step c.args.text.now c.past.result.0 c.past_white.result.0 (chars c.past.result.1.now) (chars c.past_white.result.1.now) l.tokens.items l.names
          (passed_step c.args.text.now l.place c.past.result.0 (chars l.rest.now) (chars c.past.result.1.now) l.tokens.items l.names
          c.in-Passed.len l.invariant.1 c.in-Passed.ensures c.past.ensures.rest c.past.ensures.place) c.past_white.ensures.rest c.past_white.ensures.place,
    )

pub past-requires-in-Token-clause-bytes : goal.past-requires-in-Token-clause-bytes
past-requires-in-Token-clause-bytes c =
    let l = c.loop-tokens in bytes_fit c.args.text.now l.place (chars l.rest.now) l.tokens.items l.names l.invariant.1 c.requires

pub range-word-requires-clause-start_le_end : goal.range-word-requires-clause-start_le_end
range-word-requires-clause-start_le_end c =
    let l = c.loop-tokens in
    (word_step c.args.text.now l.place c.past-in-Token.result.0 (chars l.rest.now) l.tokens.items l.names c.in-Token.len c.in-Token.form
    l.invariant.1 c.in-Token.ensures c.past-in-Token.ensures.place).start

pub range-word-requires-clause-start_boundary : goal.range-word-requires-clause-start_boundary
range-word-requires-clause-start_boundary c =
    let l = c.loop-tokens in λ above. boundary_here c.args.text.now l.place (chars l.rest.now) l.tokens.items l.names l.invariant.1

pub range-word-requires-clause-end_boundary : goal.range-word-requires-clause-end_boundary
range-word-requires-clause-end_boundary c =
    let l = c.loop-tokens in
    (word_step c.args.text.now l.place c.past-in-Token.result.0 (chars l.rest.now) l.tokens.items l.names c.in-Token.len c.in-Token.form
    l.invariant.1 c.in-Token.ensures c.past-in-Token.ensures.place).end

pub token_kind-requires-clause-form : goal.token_kind-requires-clause-form
token_kind-requires-clause-form c =
    let l = c.loop-tokens in
    word_form c.args.text.now l.place c.past-in-Token.result.0 (chars l.rest.now) c.range-word.result.now c.in-Token.len c.in-Token.form
    (word_step c.args.text.now l.place c.past-in-Token.result.0 (chars l.rest.now) l.tokens.items l.names c.in-Token.len c.in-Token.form
    l.invariant.1 c.in-Token.ensures c.past-in-Token.ensures.place) c.range-word.ensures.value

pub returns-in_default-clause-err : goal.returns-in_default-clause-err
returns-in_default-clause-err c =
    let l = c.loop-tokens in
    let word = word_is c.args.text.now l.place c.past-in-Token.result.0 (chars l.rest.now) c.range-word.result.now c.in-Token.len c.in-Token.form
    (word_step c.args.text.now l.place c.past-in-Token.result.0 (chars l.rest.now) l.tokens.items l.names c.in-Token.len c.in-Token.form
    l.invariant.1 c.in-Token.ensures c.past-in-Token.ensures.place) c.range-word.ensures.value in
    refused_step c.args.text.now l.place (chars l.rest.now) (chars c.range-word.result.now) l.tokens.items l.names c.in-Token.len c.in-Token.form
    l.invariant.1 c.in-Token.ensures word (sym c.in_default.is ∙ c.in_ok-kind-in-Token.ensures.kind)

pub loop-tokens-smaller : goal.loop-tokens-smaller
loop-tokens-smaller c =
    let fits = token_fits (chars c.loop-tokens.rest.now) c.in-Token.len c.in-Token.form c.in-Token.ensures in
    fewer (chars c.loop-tokens.rest.now) (chars c.past-in-Token.result.1.now) c.in-Token.len fits.some fits.within c.past-in-Token.ensures.rest

pub loop-tokens-preserved : goal.loop-tokens-preserved
loop-tokens-preserved c =
    let l = c.loop-tokens in
    let word = word_is c.args.text.now l.place c.past-in-Token.result.0 (chars l.rest.now) c.range-word.result.now c.in-Token.len c.in-Token.form
    (word_step c.args.text.now l.place c.past-in-Token.result.0 (chars l.rest.now) l.tokens.items l.names c.in-Token.len c.in-Token.form
    l.invariant.1 c.in-Token.ensures c.past-in-Token.ensures.place) c.range-word.ensures.value in (
      search rules,
      token_step c.args.text.now l.place c.past-in-Token.result.0 (chars l.rest.now) (chars c.range-word.result.now) (chars c.past-in-Token.result.1.now)
          l.tokens.items c.push.new.self.items l.names c.token_kind.new.names c.in-Token.len c.in-Token.form c.in-Some.kind
          l.invariant.1 c.in-Token.ensures word c.past-in-Token.ensures.rest (c.past-in-Token.ensures.place ∙ ap (behind l.place) (sym word))
          (sym c.in-Some.is ∙ c.in_ok-kind-in-Token.ensures.kind) c.in_ok-kind-in-Token.ensures.names
          (subst (λ o. IfSome o (IsKind (length c.token_kind.new.names))) c.in-Some.is c.in_ok-kind-in-Token.ensures.kept)
          c.in_ok-push-in-Token.ensures.items,
    )
