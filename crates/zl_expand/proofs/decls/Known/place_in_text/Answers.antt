use Rattle.std.proofs.Common.{rules, ◌≡◌, Some, None, slice_get, length, refl, ap, sym, ◌∙◌}
use Rattle.std.proofs.lemmas.Option.{slice_get_past, slice_get_read}
use Rattle.zl_expand.specs.KeptDecls.{infos_in}
use Rattle.zl_flat.specs.FirstPlaces.{place_in_text}
use Rattle.zl_expand.proofs.KnownLemmas.{its-infos, no-infos, text-found, text-past, text-none}
use Rattle.zl_expand.proofs.decls.Known.place_in_text.Goals as goal

pub returns-in_err-k : goal.returns-in_err-k
returns-in_err-k c =
    let none : c.from_residual.result ≡ None = search rules in
    let missing : None ≡ c.variable.result = search rules in
    none ∙ text-none (infos_in c.args.self.now) c.args.id (missing ∙ c.variable.ensures)

pub returns-in_err-infos : goal.returns-in_err-infos
returns-in_err-infos c =
    let d = c.args.self.now.declared.now in
    let none : c.from_residual-in_err-infos.result ≡ None = search rules in
    let past : slice_get d.scopes.now c.args.self.now.number ≡ None = slice_get_past d.scopes.now c.args.self.now.number c.in_err-infos.ensures.lookup.3 in
    none ∙ ap (λ vs. place_in_text vs c.args.id) (sym (no-infos d.decls.now d.scopes.now d.types.now c.args.self.now.number d.all_scoped d.all_typed past))

pub returns-in_err-info : goal.returns-in_err-info
returns-in_err-info c =
    let d = c.args.self.now.declared.now in
    let none : c.from_residual-in_err-info.result ≡ None = search rules in
    let found : Some c.in_ok-k.k ≡ c.variable.result = search rules in
    let there : slice_get d.scopes.now c.args.self.now.number ≡ Some c.in_ok-infos.infos.now = slice_get_read d.scopes.now (length d.scopes.now) c.args.self.now.number c.in_ok-infos.infos.now refl c.in_ok-infos.ensures.lookup.3.0 c.in_ok-infos.ensures.lookup.1 in
    let seen : c.as_slice.result.now ≡ c.in_ok-infos.infos.now = search rules in
    let past : slice_get c.in_ok-infos.infos.now c.in_ok-k.k ≡ None = ap (λ vs. slice_get vs c.in_ok-k.k) (sym seen) ∙ slice_get_past c.as_slice.result.now c.in_ok-k.k c.in_err-info.ensures.lookup.3 in
    let same = its-infos d.decls.now d.scopes.now d.types.now c.args.self.now.number c.in_ok-infos.infos.now d.all_scoped d.all_typed there in
    none ∙ text-past (infos_in c.args.self.now) c.args.id c.in_ok-k.k (found ∙ c.variable.ensures) (ap (λ vs. slice_get vs c.in_ok-k.k) same ∙ past)

pub returns : goal.returns
returns c =
    let d = c.args.self.now.declared.now in
    let found : Some c.in_ok-k.k ≡ c.variable.result = search rules in
    let there : slice_get d.scopes.now c.args.self.now.number ≡ Some c.in_ok-infos.infos.now = slice_get_read d.scopes.now (length d.scopes.now) c.args.self.now.number c.in_ok-infos.infos.now refl c.in_ok-infos.ensures.lookup.3.0 c.in_ok-infos.ensures.lookup.1 in
    let seen : c.as_slice.result.now ≡ c.in_ok-infos.infos.now = search rules in
    let item : slice_get c.in_ok-infos.infos.now c.in_ok-k.k ≡ Some c.in_ok-info.info.now = ap (λ vs. slice_get vs c.in_ok-k.k) (sym seen) ∙ slice_get_read c.as_slice.result.now (length c.as_slice.result.now) c.in_ok-k.k c.in_ok-info.info.now refl c.in_ok-info.ensures.lookup.3.0 c.in_ok-info.ensures.lookup.1 in
    let same = its-infos d.decls.now d.scopes.now d.types.now c.args.self.now.number c.in_ok-infos.infos.now d.all_scoped d.all_typed there in
    text-found (infos_in c.args.self.now) c.args.id c.in_ok-k.k c.in_ok-info.info.now (found ∙ c.variable.ensures) (ap (λ vs. slice_get vs c.in_ok-k.k) same ∙ item)
