use Rattle.std.proofs.Common.{rules, ◌≡◌, subst, sym, ◌∙◌}
use Rattle.zl_ast.specs.Scopes.{scopes}
use Rattle.zl_flat.specs.Counted.{NumberingsEnd}
use Rattle.zl_flat.specs.ScopedDecls.{scoped}
use Rattle.zl_flat.proofs.CheckedPrograms.{places-are-numbered}
use Rattle.zl_expand.proofs.expansion.expand_tables.Goals as goal

pub new-requires-clause-numbered : goal.new-requires-clause-numbered
new-requires-clause-numbered c =
    let p = c.args.program.now in
    let decls : c.as_slice-decls.result.now ≡ p.decls = search rules in
    let kept : c.as_slice-scopes.result.now ≡ c.args.scopes.now.decls = search rules in
    let types : c.as_slice-types.result.now ≡ c.args.typing.now.decls = search rules in
    let its_scopes : c.as_slice-scopes.result.now ≡ scopes p = kept ∙ c.requires.scopes in
    let same : scoped c.as_slice-decls.result.now c.as_slice-scopes.result.now c.as_slice-types.result.now ≡ scoped p.decls (scopes p) c.args.typing.now.decls = λ t. scoped (decls t) (its_scopes t) (types t) in
    subst (NumberingsEnd p.names) (sym same) (places-are-numbered p c.args.typing.now.decls c.requires.checked)
