use Rattle.std.proofs.Common.{length, Err, sym, ap, subst, ◌∙◌}
use Rattle.zl_ast.specs.Declarations.{nesting_limit}
use Rattle.zl_ast.specs.ReadingDeclarations.{read_program}
use Rattle.zl_parser.specs.Giving.{Fails}
use Rattle.zl_parser.specs.ParseAnswers.{IsAnswered, HasNoTree, StandsAt, ReadingStops, NoneGoesOn, IsWithin, answer_of}
use Rattle.zl_parser.proofs.Trees.{is_found, is_only, is_within, not_answered, has_no_tree, stands, stops, ends, is_parsed}
use Rattle.zl_parser.proofs.tree.parse.Goals as goal

pub returns-in-Ok-clause-found : goal.returns-in-Ok-clause-found
returns-in-Ok-clause-found c =
    is_found c.args.lexed.tokens c.in-Ok.decls (sym (ap (read_program nesting_limit) c.as_slice.ensures) ∙ c.in-Ok.ensures)

pub returns-in-Ok-clause-parsed : goal.returns-in-Ok-clause-parsed
returns-in-Ok-clause-parsed c =
    is_parsed c.args.lexed.tokens c.args.lexed.names c.args.lexed.end c.in-Ok.decls (sym (ap (read_program nesting_limit) c.as_slice.ensures) ∙ c.in-Ok.ensures)

pub returns-in-Ok-clause-only : goal.returns-in-Ok-clause-only
returns-in-Ok-clause-only c =
    λ p h. is_only c.args.lexed.tokens c.in-Ok.decls p.decls (sym (ap (read_program nesting_limit) c.as_slice.ensures) ∙ c.in-Ok.ensures) h

pub answer-requires : goal.answer-requires
answer-requires c =
    subst (λ ts. IsWithin c.in-Err.stop (length ts)) (sym c.as_slice-in-Err.ensures)
    (is_within c.args.lexed.tokens c.in-Err.stop (subst (λ ts. Fails c.in-Err.stop (read_program nesting_limit ts)) c.as_slice.ensures c.in-Err.ensures))

pub returns-clause-only : goal.returns-clause-only
returns-clause-only c =
    λ p h.
    subst (λ a. IsAnswered (Err a) p.decls) (sym (c.answer.ensures ∙ ap (λ ts. answer_of ts c.args.lexed.end c.in-Err.stop) c.as_slice-in-Err.ensures))
    (not_answered c.args.lexed.tokens c.in-Err.stop c.args.lexed.end p.decls (subst (λ ts. Fails c.in-Err.stop (read_program nesting_limit ts)) c.as_slice.ensures c.in-Err.ensures) h)

pub returns-clause-refused : goal.returns-clause-refused
returns-clause-refused c =
    subst (HasNoTree c.args.lexed.tokens) (sym (c.answer.ensures ∙ ap (λ ts. answer_of ts c.args.lexed.end c.in-Err.stop) c.as_slice-in-Err.ensures))
    (has_no_tree c.args.lexed.tokens c.in-Err.stop c.args.lexed.end (subst (λ ts. Fails c.in-Err.stop (read_program nesting_limit ts)) c.as_slice.ensures c.in-Err.ensures))

pub returns-clause-place : goal.returns-clause-place
returns-clause-place c =
    subst (StandsAt c.args.lexed.tokens c.args.lexed.end) (sym (c.answer.ensures ∙ ap (λ ts. answer_of ts c.args.lexed.end c.in-Err.stop) c.as_slice-in-Err.ensures))
    (stands c.args.lexed.tokens c.in-Err.stop c.args.lexed.end (subst (λ ts. Fails c.in-Err.stop (read_program nesting_limit ts)) c.as_slice.ensures c.in-Err.ensures))

pub returns-clause-stops : goal.returns-clause-stops
returns-clause-stops c =
    subst (ReadingStops c.args.lexed.tokens) (sym (c.answer.ensures ∙ ap (λ ts. answer_of ts c.args.lexed.end c.in-Err.stop) c.as_slice-in-Err.ensures))
    (stops c.args.lexed.tokens c.in-Err.stop c.args.lexed.end (subst (λ ts. Fails c.in-Err.stop (read_program nesting_limit ts)) c.as_slice.ensures c.in-Err.ensures))

pub returns-clause-ends : goal.returns-clause-ends
returns-clause-ends c =
    subst (NoneGoesOn c.args.lexed.tokens) (sym (c.answer.ensures ∙ ap (λ ts. answer_of ts c.args.lexed.end c.in-Err.stop) c.as_slice-in-Err.ensures))
    (ends c.args.lexed.tokens c.in-Err.stop c.args.lexed.end (subst (λ ts. Fails c.in-Err.stop (read_program nesting_limit ts)) c.as_slice.ensures c.in-Err.ensures))
