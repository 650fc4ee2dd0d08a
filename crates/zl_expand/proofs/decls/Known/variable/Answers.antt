use Rattle.std.proofs.Common.{rules, ◌≡◌, nat_eq, Some, None, slice_get, length, refl, ap, ◌∙◌}
use Rattle.std.specs.List.{position}
use Rattle.std.proofs.lemmas.Option.{slice_get_past, slice_get_read}
use Rattle.zl_expand.proofs.KnownLemmas.{indexed, unindexed}
use Rattle.zl_expand.proofs.decls.Known.variable.Goals as goal

pub returns-in_err-index : goal.returns-in_err-index
returns-in_err-index c =
    let d = c.args.self.now.declared.now in
    let none : c.from_residual.result ≡ None = search rules in
    let same : d.vars.items ≡ c.deref.result.now = search rules in
    let past : slice_get d.vars.items c.args.self.now.number ≡ None = ap (λ xs. slice_get xs c.args.self.now.number) same ∙ slice_get_past c.deref.result.now c.args.self.now.number c.in_err-index.ensures.lookup.3 in
    none ∙ unindexed d.decls.now d.scopes.now d.types.now c.args.self.now.number c.args.id d.vars.items d.all_scoped d.all_typed d.of_vars past

pub returns : goal.returns
returns c =
    let d = c.args.self.now.declared.now in
    let same : d.vars.items ≡ c.deref.result.now = search rules in
    let there : slice_get d.vars.items c.args.self.now.number ≡ Some c.in_ok-index.index.now = ap (λ xs. slice_get xs c.args.self.now.number) same ∙ slice_get_read c.deref.result.now (length c.deref.result.now) c.args.self.now.number c.in_ok-index.index.now refl c.in_ok-index.ensures.lookup.3.0 c.in_ok-index.ensures.lookup.1 in
    c.find.ensures ∙ ap (λ ys. position (nat_eq c.args.id) ys) (indexed d.decls.now d.scopes.now d.types.now c.args.self.now.number d.vars.items c.in_ok-index.index.now d.all_scoped d.all_typed d.of_vars there)
