use Rattle.std.proofs.Common.{ap}
use Rattle.zl_expand.proofs.LimitLemmas.{fits-capped, passes-capped, scoped-decl}
use Rattle.zl_expand.proofs.limits.refuse_too_large.Goals as goal

pub returns-then-passes_a_limit-clause-refused : goal.returns-then-passes_a_limit-clause-refused
returns-then-passes_a_limit-clause-refused c =
    let d = c.args.declared.now in
    let decl = scoped-decl d.decls.now d.scopes.now d.types.now c.args.measured.now.main c.requires.of.main c.requires.is_there in
    record {
      main = c.requires.of;
      is_main = c.requires.is_main;
      passes = passes-capped _ _ c.requires.counted (c.passes_a_limit.ensures.passes c.if-passes_a_limit.true);
      is = ap (λ d. d.name.at) (decl c.index-declared-measured.result);
    }

pub returns-clause-kept : goal.returns-clause-kept
returns-clause-kept c = record {
  main = c.requires.of;
  is_main = c.requires.is_main;
  fits = fits-capped _ _ c.requires.counted (c.passes_a_limit.ensures.fits c.if-passes_a_limit.false);
}
