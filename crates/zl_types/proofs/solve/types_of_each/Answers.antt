use Rattle.std.proofs.Common.{◌≡◌, get_or, sym, subst}
use Rattle.std.proofs.lemmas.Result.{err_from_is_err_and}
use Rattle.zl_ast.specs.Assignments.{HaveTypesInEach, end_of_all, variable_places}
use Rattle.zl_types.specs.Solving.{IsOpenBy}
use Rattle.zl_types.proofs.SolveLemmas.{have_more_each, refused_declaration}
use Rattle.zl_types.proofs.solve.types_of_each.Goals as goal

pub loop-vars-init : goal.loop-vars-init
loop-vars-init c =
    record {
      sound = c.requires;
      represents = λ es r. r;
      have = λ es r. subst (HaveTypesInEach es _) (sym c.new-decls.ensures.items) end_of_all;
    }

pub returns-in_err-types-clause-refused : goal.returns-in_err-types-clause-refused
returns-in_err-types-clause-refused c =
    let i = c.loop-vars.invariant in
    let p = err_from_is_err_and c.from_residual.result c.from_residual.ensures.1 in
    rw (p.1, p.2) (λ es r. subst (λ vss. IsOpenBy es (variable_places vss) c.in_err-types.field-0.0) c.as_slice-vars-items.ensures
    (refused_declaration es c.as_slice-vars-items.result.now c.loop-vars.vars-index _ _ _ c.loop-vars-test.true
    (subst (λ vs. vs ≡ get_or c.as_slice-vars-items.result.now c.loop-vars.vars-index vs) (sym c.as_slice.ensures) c.vars-item.is)
    (i.have es r) (c.in_err-types.ensures.refused es (i.represents es r))))

pub loop-vars-preserved : goal.loop-vars-preserved
loop-vars-preserved c =
    let t = c.in_ok-types.ensures.typed in
    let i = c.loop-vars.invariant in
    record {
      sound = t.sound;
      represents = λ es r. t.represents es (i.represents es r);
      have = λ es r. subst (HaveTypesInEach es _) (sym c.in-Ok.ensures.items)
          (have_more_each es c.as_slice-vars-items.result.now c.loop-vars.vars-index _ _ _ c.loop-vars-test.true
          (subst (λ vs. vs ≡ get_or c.as_slice-vars-items.result.now c.loop-vars.vars-index vs) (sym c.as_slice.ensures) c.vars-item.is) (i.have es r) (t.have es (i.represents es r)));
    }
