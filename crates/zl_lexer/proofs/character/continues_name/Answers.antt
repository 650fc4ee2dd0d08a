use Rattle.std.proofs.Common.{◌||◌, ◌==◌, ap, sym, ◌∙◌, arith}
use Rattle.unicode_ident.proofs.IdentLemmas.{is_xid_continue-ascii}
use Rattle.zl_lexer.proofs.character.continues_name.Goals as goal

pub returns-then-is_ascii : goal.returns-then-is_ascii
returns-then-is_ascii c =
    ap (λ b. b || c.args.c == 95) c.is_ascii_alphanumeric.ensures.value ∙ sym (is_xid_continue-ascii c.args.c (grind (arith, c.is_ascii.ensures, c.if-is_ascii.true)))
