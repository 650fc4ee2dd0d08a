use Rattle.std.proofs.Common.{rules, ◌≡◌, ◌<◌, length, take, Some, refl, ◌∙◌}
use Rattle.std.specs.List.{position}
use Rattle.zl_ast.specs.Names.{is_main}
use Rattle.zl_expand.specs.KeptDecls.{scoped_in}
use Rattle.zl_expand.proofs.LimitLemmas.{position-within, scoped-there, main-found, main-counted, sizes-whole}
use Rattle.zl_expand.proofs.limits.measure.Goals as goal

pub invariant_of-known : goal.invariant_of-known
invariant_of-known c =
    let same : c.as_slice.result.now ≡ c.in_ok-sizes.sizes.items = search rules in
    record { sized = sizes-whole (scoped_in c.args.declared.now) c.in-Some.main c.as_slice.result.now (same ∙ c.in_ok-sizes.ensures) }

pub returns : goal.returns
returns c =
    let d = c.args.declared.now in
    let n = c.in-Some.main in
    let place : position (λ d. is_main c.args.declared.now.names.now d.name.id) d.decls.now ≡ Some n = search rules in
    let within : n < length d.decls.now = position-within _ _ n place in
    let there = scoped-there d.decls.now d.scopes.now d.types.now n c.index-declared-main.result d.all_scoped d.all_typed within in
    record {
      of = record { before = take n (scoped_in d); main = there.one };
      is_main = main-found d.names.now d.decls.now d.scopes.now d.types.now n there.one d.all_scoped d.all_typed place there.there;
      within = within;
      is_there = there.there;
      is_behind = refl;
      sized = c.in_ok-sizes.ensures;
      counted = main-counted (scoped_in d) n _ c.block.result c.decl_size.result c.plus-size.result there c.block.ensures c.decl_size.ensures c.plus-size.ensures;
    }
