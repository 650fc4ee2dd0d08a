use Rattle.std.proofs.Common.{rules, ◌≡◌, ◌<◌, ◌≤◌, Some, None, slice_get, length, refl, ◌∙◌}
use Rattle.std.proofs.lemmas.Option.{slice_get_past, slice_get_read}
use Rattle.zl_expand.proofs.KnownLemmas.{called-found, called-past, called-later, called-none}
use Rattle.zl_expand.proofs.decls.Known.called_size.Goals as goal

pub returns-in_default : goal.returns-in_default
returns-in_default c =
    let d = c.args.self.now.declared.now in
    let missing : None ≡ c.find.result = search rules in
    c.none.ensures ∙ called-none d.decls.now d.scopes.now d.types.now c.args.self.now.number c.args.id d.all_scoped d.all_typed (missing ∙ c.find.ensures.is)

pub returns-then-callee-self : goal.returns-then-callee-self
returns-then-callee-self c =
    let d = c.args.self.now.declared.now in
    let found : Some c.in-Some.callee ≡ c.find.result = search rules in
    let later : c.args.self.now.number ≤ c.in-Some.callee = search rules in
    c.none-then-callee-self.ensures ∙ called-later d.decls.now d.scopes.now d.types.now c.args.self.now.number c.args.id d.all_scoped d.all_typed c.in-Some.callee (found ∙ c.find.ensures.is) later

pub returns-in-Some-get : goal.returns-in-Some-get
returns-in-Some-get c =
    let d = c.args.self.now.declared.now in
    let found : Some c.in-Some.callee ≡ c.find.result = search rules in
    let before : c.in-Some.callee < c.args.self.now.number = search rules in
    let there : slice_get c.args.self.now.sizes.now c.in-Some.callee ≡ Some c.in-Some-get.size.now = slice_get_read c.args.self.now.sizes.now (length c.args.self.now.sizes.now) c.in-Some.callee c.in-Some-get.size.now refl c.in-Some-get.ensures.lookup.3.0 c.in-Some-get.ensures.lookup.1 in
    c.called.ensures ∙ called-found d.decls.now d.scopes.now d.types.now c.args.self.now.number c.args.id d.all_scoped d.all_typed c.in-Some.callee c.args.self.now.sizes.now c.in-Some-get.size.now (found ∙ c.find.ensures.is) c.args.self.now.sized before there

pub returns-in-None : goal.returns-in-None
returns-in-None c =
    let d = c.args.self.now.declared.now in
    let found : Some c.in-Some.callee ≡ c.find.result = search rules in
    let before : c.in-Some.callee < c.args.self.now.number = search rules in
    let past : slice_get c.args.self.now.sizes.now c.in-Some.callee ≡ None = slice_get_past c.args.self.now.sizes.now c.in-Some.callee c.in-None.ensures.lookup.3 in
    c.none-in-None.ensures ∙ called-past d.decls.now d.scopes.now d.types.now c.args.self.now.number c.args.id d.all_scoped d.all_typed c.in-Some.callee c.args.self.now.sizes.now (found ∙ c.find.ensures.is) c.args.self.now.sized before past
