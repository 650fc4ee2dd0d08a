use Rattle.std.proofs.Common.{rules, ◌≡◌, List, [], map, take, get_or, ap, ◌∙◌, refl}
use Rattle.zl_flat.specs.declared.size.Size.{Size}
use Rattle.zl_expand.specs.declared.decls.Declared.{Declared}
use Rattle.zl_expand.specs.declared.decls.Known.{Known}
use Rattle.zl_expand.specs.declared.limits.Measured.{Measured}
use Rattle.zl_flat.specs.Capped.{capped}
use Rattle.zl_flat.specs.ScopedDecls.{with_sizes}
use Rattle.zl_expand.specs.KeptDecls.{scoped_in, program_in, IsMeasured}
use Rattle.zl_flat.specs.Flat.{IsFlatOf}
use Rattle.zl_expand.proofs.LimitLemmas.{sizes-whole, scoped-decl}
use Rattle.zl_expand.proofs.ExpandLemmas.{is-flat, of-tables, small-occs, main-room, main-numbers}
use Rattle.zl_expand.proofs.expansion.expand_main.Goals as goal

-- the sizes that were measured are those of the declarations before `main`
its-sizes : (d : Declared) (m : Measured) (sizes : List Size) → IsMeasured d m → sizes ≡ m.sizes.items → take m.main sizes ≡ map (λ x. capped x.what) (with_sizes [] (take m.main (scoped_in d)))
its-sizes d m sizes h same = sizes-whole (scoped_in d) m.main sizes (same ∙ h.sized ∙ ap (λ ss. map (λ x. capped x.what) (with_sizes [] ss)) h.is_behind)

pub invariant_of-known : goal.invariant_of-known
invariant_of-known c =
    let same : c.as_slice.result.now ≡ c.args.measured.now.sizes.items = search rules in
    record { sized = its-sizes c.args.declared.now c.args.measured.now c.as_slice.result.now c.requires.measured same }

pub returns : goal.returns
returns c =
    let d = c.args.declared.now in
    let m = c.args.measured.now in
    let h = c.requires.measured in
    let same : c.as_slice.result.now ≡ c.args.measured.now.sizes.items = search rules in
    let base : c.number-base.result ≡ c.args.measured.now.size.occs = search rules in
    let k : Known = record { declared = c.args.declared; sizes = c.as_slice.result; number = m.main; sized = its-sizes d m c.as_slice.result.now h same } in
    let decl = scoped-decl d.decls.now d.scopes.now d.types.now m.main h.of.main h.is_there c.index-declared-measured.result in
    of-tables c.walk_main.result _ (IsFlatOf (program_in d) d.scopes.now d.types.now)
    (is-flat k m (get_or d.decls.now m.main c.index-declared-measured.result) c.number-base.result h refl decl base c.requires.fits)
    c.walk_main.ensures

pub number-base-requires : goal.number-base-requires
number-base-requires c = small-occs c.args.declared.now c.args.measured.now c.requires.measured c.requires.fits

pub walk_main-requires-clause-room : goal.walk_main-requires-clause-room
walk_main-requires-clause-room c =
    let d = c.args.declared.now in
    let m = c.args.measured.now in
    let h = c.requires.measured in
    let same : c.as_slice.result.now ≡ c.args.measured.now.sizes.items = search rules in
    let base : c.number-base.result ≡ c.args.measured.now.size.occs = search rules in
    let k : Known = record { declared = c.args.declared; sizes = c.as_slice.result; number = m.main; sized = its-sizes d m c.as_slice.result.now h same } in
    let decl = scoped-decl d.decls.now d.scopes.now d.types.now m.main h.of.main h.is_there c.index-declared-measured.result in
    main-room k m (get_or d.decls.now m.main c.index-declared-measured.result) c.number-base.result h refl decl base c.requires.fits c.requires.scopes c.requires.checked

pub walk_main-requires-clause-numbers : goal.walk_main-requires-clause-numbers
walk_main-requires-clause-numbers c =
    let d = c.args.declared.now in
    let m = c.args.measured.now in
    let h = c.requires.measured in
    let same : c.as_slice.result.now ≡ c.args.measured.now.sizes.items = search rules in
    let k : Known = record { declared = c.args.declared; sizes = c.as_slice.result; number = m.main; sized = its-sizes d m c.as_slice.result.now h same } in
    let decl = scoped-decl d.decls.now d.scopes.now d.types.now m.main h.of.main h.is_there c.index-declared-measured.result in
    main-numbers k m (get_or d.decls.now m.main c.index-declared-measured.result) h refl decl c.requires.fits
