use Rattle.std.proofs.Common.{sym, subst}
use Rattle.zl_parser.specs.Giving.{Gives}
use Rattle.zl_parser.proofs.DeclSteps.{marked_fails, marked_is}
use Rattle.zl_parser.proofs.Stops.{stops}
use Rattle.zl_parser.proofs.decl.decl.Goals as goal

pub returns-in_err-name : goal.returns-in_err-name
returns-in_err-name c =
    stops _ c.from_residual-in_err-name.result c.in_err-name.field-0.0 _ c.from_residual-in_err-name.ensures.1
    (marked_fails c.args.depth c.args.tokens.now c.in_ok-rest.rest.now c.in_ok-rest.field-0-0 c.in-Some.field-0-1 c.in-Some.kind c.in-Some.rest.now c.in_ok-rest.ensures c.in-Some.ensures
    c.in_err-name.field-0.0 c.in_err-name.ensures)

pub returns-in-Some : goal.returns-in-Some
returns-in-Some c =
    subst (Gives _ c.function.result)
    (sym (marked_is c.args.depth c.args.tokens.now c.in_ok-rest.rest.now c.in_ok-rest.field-0-0 c.in-Some.field-0-1 c.in-Some.kind c.in-Some.rest.now c.in_ok-rest.ensures c.in-Some.ensures
    c.in_ok-name.name c.in_ok-name.rest.now c.in_ok-name.ensures)) c.function.ensures
