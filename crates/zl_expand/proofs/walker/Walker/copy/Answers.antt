use Rattle.std.proofs.Common.{rules, ◌≡◌, ◌+◌, ◌^◌, ◌<◌, ◌≤◌, map, length, Some, None, get_or, refl, sym, ap, ◌∙◌, subst, arith}
use Rattle.zl_flat.specs.Parts.{joined, some_places, some_definers}
use Rattle.zl_flat.specs.Expansion.{argument_definers, param_place}
use Rattle.zl_expand.specs.KeptDecls.{scoped_in}
use Rattle.zl_expand.specs.Kept.{instance_in}
use Rattle.zl_expand.proofs.CopyLemmas.{fewer-sized}
use Rattle.zl_expand.proofs.KnownLemmas.{uncut-none, uncut-later}
use Rattle.zl_expand.proofs.LimitLemmas.{HasScoped, scoped-there}
use Rattle.zl_expand.proofs.CopyMade.{IsCalled, IsMissing, instance-of, numbers-room, params-room, inside-room, made-ok, results-ok, missing-parts, missing-results}
use Rattle.zl_expand.proofs.walker.Walker.copy.Goals as goal

pub returns-in_default-clause-made : goal.returns-in_default-clause-made
returns-in_default-clause-made g c =
    let i = c.args.instance.now in
    let d = i.known.now.declared.now in
    let none : None ≡ c.find.result = search rules in
    let w : IsMissing i c.args.name = record { all_scoped = d.all_scoped; all_typed = d.all_typed; before_none = uncut-none i.known.now.number _ (none ∙ c.find.ensures.is) } in
    missing-parts i c.args.name c.args.here c.args.arguments.now c.args.out.now w

pub returns-in_default-clause-results : goal.returns-in_default-clause-results
returns-in_default-clause-results g c =
    let i = c.args.instance.now in
    let d = i.known.now.declared.now in
    let none : None ≡ c.find.result = search rules in
    let w : IsMissing i c.args.name = record { all_scoped = d.all_scoped; all_typed = d.all_typed; before_none = uncut-none i.known.now.number _ (none ∙ c.find.ensures.is) } in
    c.new.ensures.items ∙ missing-results i c.args.name c.args.here c.args.arguments.now c.args.out.now w

pub returns-then-number-instance-clause-made : goal.returns-then-number-instance-clause-made
returns-then-number-instance-clause-made g c =
    let i = c.args.instance.now in
    let d = i.known.now.declared.now in
    let found : Some c.in-Some.number ≡ c.find.result = search rules in
    let later : i.known.now.number ≤ c.in-Some.number = search rules in
    let w : IsMissing i c.args.name = record { all_scoped = d.all_scoped; all_typed = d.all_typed; before_none = uncut-later i.known.now.number c.in-Some.number _ (found ∙ c.find.ensures.is) later } in
    missing-parts i c.args.name c.args.here c.args.arguments.now c.args.out.now w

pub returns-then-number-instance-clause-results : goal.returns-then-number-instance-clause-results
returns-then-number-instance-clause-results g c =
    let i = c.args.instance.now in
    let d = i.known.now.declared.now in
    let found : Some c.in-Some.number ≡ c.find.result = search rules in
    let later : i.known.now.number ≤ c.in-Some.number = search rules in
    let w : IsMissing i c.args.name = record { all_scoped = d.all_scoped; all_typed = d.all_typed; before_none = uncut-later i.known.now.number c.in-Some.number _ (found ∙ c.find.ensures.is) later } in
    c.new-then-number-instance.ensures.items ∙ missing-results i c.args.name c.args.here c.args.arguments.now c.args.out.now w

pub invariant_of-known : goal.invariant_of-known
invariant_of-known g c =
    let k = c.args.instance.now.known.now in
    let before : c.in-Some.number < k.number = search rules in
    record { sized = fewer-sized (scoped_in k.declared.now) c.in-Some.number k.number k.sizes.now (omega (arith, before)) k.sized }

pub returns : goal.returns
returns g c =
    let i = c.args.instance.now in
    let d = i.known.now.declared.now in
    let before : c.in-Some.number < i.known.now.number = search rules in
    let found : Some c.in-Some.number ≡ c.find.result = search rules in
    let named = found ∙ c.find.ensures.is in
    let within : c.in-Some.number < length d.decls.now = search rules in
    let decl = c.index-decls-number.result in
    let read : get_or d.decls.now c.in-Some.number decl ≡ decl = search rules in
    let j = instance-of _ c.args.here c.as_slice-2.result.now c.args.out.now c.add_params.new.out c.in_ok-add_params.ensures in
    let owned : c.in_ok-own.own.items ≡ c.as_slice.result.now = search rules in
    let its_params : c.as_slice-2.result.now ≡ decl.params = search rules in
    let their_params : c.as_slice-3.result.now ≡ decl.params = search rules in
    let called : IsCalled i j c.args.name c.in-Some.number c.next_place-first.result decl c.args.here c.args.arguments.now c.args.out.now = record {
      same_declared = refl;
      number_is = refl;
      same_base = refl;
      block_is = refl;
      before = before;
      named = named;
      all_scoped = d.all_scoped;
      all_typed = d.all_typed;
      there = subst (λ y. HasScoped (scoped_in d) c.in-Some.number y) read (scoped-there d.decls.now d.scopes.now d.types.now c.in-Some.number decl d.all_scoped d.all_typed within);
      own_is = sym owned ∙ c.in_ok-own.ensures;
      first_is = c.next_place-first.ensures;
    } in
    let params : c.add_params.new.out ≡ joined c.args.out.now (some_places (map (param_place (instance_in j) c.args.here) decl.params)) = c.in_ok-add_params.ensures ∙ ap (λ ps. joined c.args.out.now (some_places (map (param_place (instance_in j) c.args.here) ps))) its_params in
    let given : c.add_arguments.new.out ≡ joined c.add_params.new.out (some_definers (argument_definers c.args.here c.next_place-first.result decl.params c.args.arguments.now)) = c.in_ok-add_arguments.ensures ∙ ap (λ ps. joined c.add_params.new.out (some_definers (argument_definers c.args.here c.next_place-first.result ps c.args.arguments.now))) their_params in
    let made = made-ok i j c.args.name c.in-Some.number c.next_place-first.result decl c.args.here c.args.arguments.now c.args.out.now called c.add_params.new.out c.add_arguments.new.out c.walk_body.new.out params given c.walk_body.result c.walk_body.ensures.made in
    let results = results-ok i j c.args.name c.in-Some.number c.next_place-first.result decl c.args.here c.args.arguments.now c.args.out.now called c.add_params.new.out c.add_arguments.new.out c.walk_body.new.out params given (λ v. v.items) c.walk_body.result c.walk_body.ensures.results in
    record { made = made; results = results }

pub own_places-requires : goal.own_places-requires
own_places-requires g c =
    let i = c.args.instance.now in
    let d = i.known.now.declared.now in
    let before : c.in-Some.number < i.known.now.number = search rules in
    let found : Some c.in-Some.number ≡ c.find.result = search rules in
    let within : c.in-Some.number < length d.decls.now = search rules in
    let decl = c.index-decls-number.result in
    let read : get_or d.decls.now c.in-Some.number decl ≡ decl = search rules in
    let there = subst (λ y. HasScoped (scoped_in d) c.in-Some.number y) read (scoped-there d.decls.now d.scopes.now d.types.now c.in-Some.number decl d.all_scoped d.all_typed within) in
    numbers-room i c.args.name c.in-Some.number c.next_place-first.result decl c.args.here c.args.arguments.now c.args.out.now (c.args.self.now.depth + 2) before (found ∙ c.find.ensures.is) there c.next_place-first.ensures c.requires.room

pub add_arguments-requires : goal.add_arguments-requires
add_arguments-requires g c =
    let i = c.args.instance.now in
    let d = i.known.now.declared.now in
    let before : c.in-Some.number < i.known.now.number = search rules in
    let found : Some c.in-Some.number ≡ c.find.result = search rules in
    let named = found ∙ c.find.ensures.is in
    let within : c.in-Some.number < length d.decls.now = search rules in
    let decl = c.index-decls-number.result in
    let read : get_or d.decls.now c.in-Some.number decl ≡ decl = search rules in
    let j = instance-of _ c.args.here c.as_slice-2.result.now c.args.out.now c.add_params.new.out c.in_ok-add_params.ensures in
    let owned : c.in_ok-own.own.items ≡ c.as_slice.result.now = search rules in
    let its_params : c.as_slice-2.result.now ≡ decl.params = search rules in
    let their_params : c.as_slice-3.result.now ≡ decl.params = search rules in
    let called : IsCalled i j c.args.name c.in-Some.number c.next_place-first.result decl c.args.here c.args.arguments.now c.args.out.now = record {
      same_declared = refl;
      number_is = refl;
      same_base = refl;
      block_is = refl;
      before = before;
      named = named;
      all_scoped = d.all_scoped;
      all_typed = d.all_typed;
      there = subst (λ y. HasScoped (scoped_in d) c.in-Some.number y) read (scoped-there d.decls.now d.scopes.now d.types.now c.in-Some.number decl d.all_scoped d.all_typed within);
      own_is = sym owned ∙ c.in_ok-own.ensures;
      first_is = c.next_place-first.ensures;
    } in
    subst (λ ps. c.next_place-first.result + length ps < 2 ^ 32) (sym their_params) (params-room i j c.args.name c.in-Some.number c.next_place-first.result decl c.args.here c.args.arguments.now c.args.out.now called (c.args.self.now.depth + 2) c.requires.room)

pub walk_body-requires-clause-room : goal.walk_body-requires-clause-room
walk_body-requires-clause-room g c =
    let i = c.args.instance.now in
    let d = i.known.now.declared.now in
    let before : c.in-Some.number < i.known.now.number = search rules in
    let found : Some c.in-Some.number ≡ c.find.result = search rules in
    let named = found ∙ c.find.ensures.is in
    let within : c.in-Some.number < length d.decls.now = search rules in
    let decl = c.index-decls-number.result in
    let read : get_or d.decls.now c.in-Some.number decl ≡ decl = search rules in
    let j = instance-of _ c.args.here c.as_slice-2.result.now c.args.out.now c.add_params.new.out c.in_ok-add_params.ensures in
    let owned : c.in_ok-own.own.items ≡ c.as_slice.result.now = search rules in
    let its_params : c.as_slice-2.result.now ≡ decl.params = search rules in
    let their_params : c.as_slice-3.result.now ≡ decl.params = search rules in
    let called : IsCalled i j c.args.name c.in-Some.number c.next_place-first.result decl c.args.here c.args.arguments.now c.args.out.now = record {
      same_declared = refl;
      number_is = refl;
      same_base = refl;
      block_is = refl;
      before = before;
      named = named;
      all_scoped = d.all_scoped;
      all_typed = d.all_typed;
      there = subst (λ y. HasScoped (scoped_in d) c.in-Some.number y) read (scoped-there d.decls.now d.scopes.now d.types.now c.in-Some.number decl d.all_scoped d.all_typed within);
      own_is = sym owned ∙ c.in_ok-own.ensures;
      first_is = c.next_place-first.ensures;
    } in
    let params : c.add_params.new.out ≡ joined c.args.out.now (some_places (map (param_place (instance_in j) c.args.here) decl.params)) = c.in_ok-add_params.ensures ∙ ap (λ ps. joined c.args.out.now (some_places (map (param_place (instance_in j) c.args.here) ps))) its_params in
    let given : c.add_arguments.new.out ≡ joined c.add_params.new.out (some_definers (argument_definers c.args.here c.next_place-first.result decl.params c.args.arguments.now)) = c.in_ok-add_arguments.ensures ∙ ap (λ ps. joined c.add_params.new.out (some_definers (argument_definers c.args.here c.next_place-first.result ps c.args.arguments.now))) their_params in
    inside-room i j c.args.name c.in-Some.number c.next_place-first.result decl c.args.here c.args.arguments.now c.args.out.now called c.add_params.new.out c.add_arguments.new.out c.add_arguments.new.out params given (c.args.self.now.depth + 2) c.requires.room
