use Rattle.std.proofs.Common.{sym, subst}
use Rattle.std.proofs.lemmas.Result.{err_from_is_err_and}
use Rattle.zl_ast.specs.Assignments.{HaveTypes, end}
use Rattle.zl_types.proofs.SolveLemmas.{have_more, has_type, represents_typed, refused_variable}
use Rattle.zl_types.proofs.solve.variable_types.Goals as goal

pub loop-var-init : goal.loop-var-init
loop-var-init c =
    record {
      sound = c.requires;
      represents = λ es r. r;
      have = λ es r. subst (HaveTypes es _) (sym c.new-types.ensures.items) end;
    }

pub returns-in_err-ty-clause-refused : goal.returns-in_err-ty-clause-refused
returns-in_err-ty-clause-refused c =
    let i = c.loop-var.invariant in
    let p = err_from_is_err_and c.from_residual.result c.from_residual.ensures.1 in
    rw (p.1, p.2) (λ es r. refused_variable es c.args.vars.now c.loop-var.var-index _ _ _ _ c.loop-var-test.true i.sound (i.represents es r) (i.have es r) c.in_err-ty.ensures.refused)

pub loop-var-preserved : goal.loop-var-preserved
loop-var-preserved c =
    let t = c.in_ok-ty.ensures.typed in
    let i = c.loop-var.invariant in
    record {
      sound = t.sound;
      represents = λ es r. represents_typed es _ _ _ _ t (i.represents es r);
      have = λ es r. subst (HaveTypes es _) (sym c.in-Ok.ensures.items)
          (have_more es c.args.vars.now c.loop-var.var-index _ _ _ c.loop-var-test.true (i.have es r) (has_type es _ _ _ _ t (i.represents es r)));
    }
