use Rattle.std.proofs.lemmas.Result.{err_from_is_err_and}
use Rattle.zl_types.proofs.SolveLemmas.{is_typing, is_untyped}
use Rattle.zl_types.proofs.solve.solve.Goals as goal

pub returns-in_err-classes-clause-refused : goal.returns-in_err-classes-clause-refused
returns-in_err-classes-clause-refused c =
    let p = err_from_is_err_and c.from_residual.result c.from_residual.ensures.1 in
    rw (p.1, p.2) (c.in_err-classes.ensures.refused c.args.scopes.now.decls)

pub returns-in_err-decls-clause-refused : goal.returns-in_err-decls-clause-refused
returns-in_err-decls-clause-refused c =
    let p = err_from_is_err_and c.from_residual-in_err-decls.result c.from_residual-in_err-decls.ensures.1 in
    rw (p.1, p.2) (is_untyped c.args.equalities.now c.args.scopes.now.decls _ (c.in_err-decls.ensures.refused c.args.equalities.now c.in_ok-classes.ensures.represents))

pub returns-clause-typed : goal.returns-clause-typed
returns-clause-typed c = is_typing _ _ _ _ _ c.in_ok-classes.ensures.sound c.in_ok-classes.ensures.represents c.in_ok-decls.ensures.typed
