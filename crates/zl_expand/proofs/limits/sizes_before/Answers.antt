use Rattle.std.proofs.Common.{rules, ◌≡◌, ◌∷◌, ◌++◌, [], ◌∙◌, arith}
use Rattle.zl_expand.specs.KeptDecls.{scoped_in}
use Rattle.zl_expand.proofs.LimitLemmas.{scoped-there, sizes-more, sizes-whole}
use Rattle.zl_expand.proofs.limits.sizes_before.Goals as goal

pub invariant_of-known : goal.invariant_of-known
invariant_of-known c =
    let same : c.as_slice.result.now ≡ c.loop-before.sizes.items = search rules in
    record { sized = sizes-whole (scoped_in c.args.declared.now) c.loop-before.before c.as_slice.result.now (same ∙ c.loop-before.invariant) }

pub loop-before-preserved : goal.loop-before-preserved
loop-before-preserved c =
    let d = c.args.declared.now in
    let there = scoped-there d.decls.now d.scopes.now d.types.now c.loop-before.before c.index-declared-before.result d.all_scoped d.all_typed (omega arith) in
    let pushed : c.push.new.self.items ≡ c.loop-before.sizes.items ++ c.decl_size-size.result ∷ [] = search rules in
    pushed ∙ sizes-more (scoped_in d) c.loop-before.before _ c.loop-before.sizes.items c.decl_size-size.result there c.loop-before.invariant c.decl_size-size.ensures
