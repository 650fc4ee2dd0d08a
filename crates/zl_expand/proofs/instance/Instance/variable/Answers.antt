use Rattle.std.proofs.Common.{rules, ◌≡◌, Some, None, slice_get, length, refl, ap, sym, ◌∙◌}
use Rattle.std.proofs.lemmas.Option.{slice_get_past, slice_get_read}
use Rattle.zl_expand.specs.Kept.{infos_in, types_in, instance_in}
use Rattle.zl_expand.proofs.KnownLemmas.{its-types, no-types-there}
use Rattle.zl_expand.proofs.VariableLemmas.{variable-found, variable-none, variable-untyped, variable-unplaced}
use Rattle.zl_expand.proofs.instance.Instance.variable.Goals as goal

pub returns-in_err-k : goal.returns-in_err-k
unfolding instance_in
returns-in_err-k c =
    let i = c.args.self.now in
    let k = i.known.now in
    let d = k.declared.now in
    let none : c.from_residual.result ≡ None = search rules in
    let missing : None ≡ c.variable.result = search rules in
    none ∙ variable-none (infos_in k) (types_in k) i.own.now c.args.id (missing ∙ c.variable.ensures)

pub returns-in_err-types : goal.returns-in_err-types
unfolding instance_in
returns-in_err-types c =
    let i = c.args.self.now in
    let k = i.known.now in
    let d = k.declared.now in
    let none : c.from_residual-in_err-types.result ≡ None = search rules in
    let found : Some c.in_ok-k.k ≡ c.variable.result = search rules in
    let past : slice_get d.types.now k.number ≡ None = slice_get_past d.types.now k.number c.in_err-types.ensures.lookup.3 in
    none ∙ variable-untyped (infos_in k) (types_in k) i.own.now c.args.id c.in_ok-k.k (found ∙ c.variable.ensures) (ap (λ ts. slice_get ts c.in_ok-k.k) (no-types-there d.decls.now d.scopes.now d.types.now k.number d.all_scoped d.all_typed past))

pub returns-in_err-ty : goal.returns-in_err-ty
unfolding instance_in
returns-in_err-ty c =
    let i = c.args.self.now in
    let k = i.known.now in
    let d = k.declared.now in
    let none : c.from_residual-in_err-ty.result ≡ None = search rules in
    let found : Some c.in_ok-k.k ≡ c.variable.result = search rules in
    let there : slice_get d.types.now k.number ≡ Some c.in_ok-types.types.now = slice_get_read d.types.now (length d.types.now) k.number c.in_ok-types.types.now refl c.in_ok-types.ensures.lookup.3.0 c.in_ok-types.ensures.lookup.1 in
    let same = its-types d.decls.now d.scopes.now d.types.now k.number c.in_ok-types.types.now d.all_scoped d.all_typed there in
    let seen : c.as_slice.result.now ≡ c.in_ok-types.types.now = search rules in
    none ∙ variable-untyped (infos_in k) (types_in k) i.own.now c.args.id c.in_ok-k.k (found ∙ c.variable.ensures) (ap (λ ts. slice_get ts c.in_ok-k.k) (same ∙ sym seen) ∙ slice_get_past c.as_slice.result.now c.in_ok-k.k c.in_err-ty.ensures.lookup.3)

pub returns-in_err-place : goal.returns-in_err-place
unfolding instance_in
returns-in_err-place c =
    let i = c.args.self.now in
    let k = i.known.now in
    let d = k.declared.now in
    let none : c.from_residual-in_err-place.result ≡ None = search rules in
    let found : Some c.in_ok-k.k ≡ c.variable.result = search rules in
    none ∙ variable-unplaced (infos_in k) (types_in k) i.own.now c.args.id c.in_ok-k.k (found ∙ c.variable.ensures) (slice_get_past i.own.now c.in_ok-k.k c.in_err-place.ensures.lookup.3)

pub returns : goal.returns
unfolding instance_in
returns c =
    let i = c.args.self.now in
    let k = i.known.now in
    let d = k.declared.now in
    let found : Some c.in_ok-k.k ≡ c.variable.result = search rules in
    let there : slice_get d.types.now k.number ≡ Some c.in_ok-types.types.now = slice_get_read d.types.now (length d.types.now) k.number c.in_ok-types.types.now refl c.in_ok-types.ensures.lookup.3.0 c.in_ok-types.ensures.lookup.1 in
    let same = its-types d.decls.now d.scopes.now d.types.now k.number c.in_ok-types.types.now d.all_scoped d.all_typed there in
    let seen : c.as_slice.result.now ≡ c.in_ok-types.types.now = search rules in
    let item : slice_get c.as_slice.result.now c.in_ok-k.k ≡ Some c.in_ok-ty.ty.now = slice_get_read c.as_slice.result.now (length c.as_slice.result.now) c.in_ok-k.k c.in_ok-ty.ty.now refl c.in_ok-ty.ensures.lookup.3.0 c.in_ok-ty.ensures.lookup.1 in
    variable-found (infos_in k) (types_in k) i.own.now c.args.id c.in_ok-k.k c.in_ok-ty.ty.now c.in_ok-place.place.now (found ∙ c.variable.ensures) (ap (λ ts. slice_get ts c.in_ok-k.k) (same ∙ sym seen) ∙ item) (slice_get_read i.own.now (length i.own.now) c.in_ok-k.k c.in_ok-place.place.now refl c.in_ok-place.ensures.lookup.3.0 c.in_ok-place.ensures.lookup.1)
