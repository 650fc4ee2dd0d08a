use Rattle.zl_lexer.proofs.AnswerLemmas.{gives_tokens, gives_refusal}
use Rattle.zl_lexer.proofs.lexer.lex.Goals as goal

pub returns-clause-only : goal.returns-clause-only
returns-clause-only c = gives_tokens c.args.text.now c.read.result c.read.ensures.ok c.read.ensures.err

pub returns-clause-stops : goal.returns-clause-stops
returns-clause-stops c = gives_refusal c.args.text.now c.read.result c.read.ensures.ok c.read.ensures.err
