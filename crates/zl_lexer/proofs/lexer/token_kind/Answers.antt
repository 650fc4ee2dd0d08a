use Rattle.std.proofs.Common.{Some, option_map, chars, sym, ap, ◌∙◌}
use Rattle.std.proofs.lemmas.Str.{encodes-chars}
use Rattle.zl_lexer.specs.Tokens.{numbered_kind, with_kind}
use Rattle.zl_lexer.proofs.AsciiLemmas.{int_kind_of, int_digits, float_kind_of, name_kind_of}
use Rattle.zl_lexer.proofs.lexer.token_kind.Goals as goal

pub int_kind-requires : goal.int_kind-requires
int_kind-requires c =
    int_digits c.args.form (chars c.args.text.now) c.as_bytes.result.now c.in-Int.is c.requires.form
    (c.as_bytes.ensures.value ∙ sym (encodes-chars c.args.text.now c.utf8.text))

pub returns-in-Int-clause-kind : goal.returns-in-Int-clause-kind
returns-in-Int-clause-kind c =
    int_kind_of c.args.names.now c.args.form (chars c.args.text.now) c.as_bytes.result.now c.int_kind.result c.in-Int.is c.requires.form
    (c.as_bytes.ensures.value ∙ sym (encodes-chars c.args.text.now c.utf8.text)) c.int_kind.ensures.value

pub returns-in-Float-clause-kind : goal.returns-in-Float-clause-kind
returns-in-Float-clause-kind c =
    float_kind_of c.args.names.now c.args.form (chars c.args.text.now) c.args.text.now c.float_kind.result c.in-Float.is c.requires.form
    (sym (encodes-chars c.args.text.now c.utf8.text)) c.float_kind.ensures.value

pub returns-in_ok-name_kind-in-Name-clause-kind : goal.returns-in_ok-name_kind-in-Name-clause-kind
returns-in_ok-name_kind-in-Name-clause-kind c =
    ap Some c.in_ok-name_kind-in-Name.ensures.kind
    ∙ ap (option_map (numbered_kind c.args.names.now))
    (name_kind_of c.args.form (chars c.args.text.now) c.args.text.now c.in-Name.is (sym (encodes-chars c.args.text.now c.utf8.text)))

pub returns-in_ok-name_kind-in-Name-clause-names : goal.returns-in_ok-name_kind-in-Name-clause-names
returns-in_ok-name_kind-in-Name-clause-names c =
    c.in_ok-name_kind-in-Name.ensures.names
    ∙ ap (with_kind c.args.names.now)
    (name_kind_of c.args.form (chars c.args.text.now) c.args.text.now c.in-Name.is (sym (encodes-chars c.args.text.now c.utf8.text)))
