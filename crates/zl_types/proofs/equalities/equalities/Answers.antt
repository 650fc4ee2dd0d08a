use Rattle.std.proofs.Common.{◌≡◌, ◌+◌, map, sym, ap, ◌∙◌}
use Rattle.zl_ast.specs.Scopes.{variables}
use Rattle.zl_types.specs.Environments.{environment_of}
use Rattle.zl_types.proofs.DeclLemmas.{variables-at, decls-more}
use Rattle.zl_types.proofs.equalities.equalities.Goals as goal

pub loop-decl-preserved : goal.loop-decl-preserved
loop-decl-preserved c =
    let decls = c.as_slice-decl-items.result.now in
    let i = c.loop-decl.decl-index in
    let d = c.decl-item.result in
    let vars = c.vars.result.now in
    let scopes : c.args.scopes.now.decls ≡ map variables decls = c.requires.scopes ∙ ap (map variables) (sym c.as_slice-decl-items.ensures) in
    let are = variables-at decls c.args.scopes.now.decls i c.loop-decl.index d vars scopes c.loop-decl-test.true c.loop-decl.invariant.1 c.vars.ensures c.decl-item.is in (
      decls-more decls i d vars c.loop-decl.list c.push_next.new.list (environment_of c.loop-decl.env) (environment_of c.push_next.new.env) c.loop-decl-test.true c.decl-item.is are c.in_ok-push_next.ensures.list c.in_ok-push_next.ensures.env ∙ c.loop-decl.invariant.0,
      ap (λ n. n + 1) c.loop-decl.invariant.1,
    )
