-- What a call makes: the copy of the called body.
use Rattle.std.proofs.Common.{◌≡◌, ℕ, ◌+◌, ◌^◌, ◌<◌, subst, arith, List, [], map, length, take, Option, Some, None, slice_get, refl, sym, ap, ◌∙◌}
use Rattle.std.proofs.lemmas.List.{length-map}
use Rattle.std.specs.List.{position}
use Rattle.std.specs.Prelude.{nat_eq, OnOk, IfOk}
use Rattle.std.specs.declared.result.Result.{Result}
use Rattle.std.specs.Option.{option_map_or}
use Rattle.zl_ast.specs.declared.program.Decl.{Decl}
use Rattle.zl_ast.specs.declared.program.Param.{Param}
use Rattle.zl_flat.specs.declared.here.Here.{Here}
use Rattle.zl_flat.specs.declared.here.Root.{Root}
use Rattle.zl_flat.specs.declared.given.Given.{Given}
use Rattle.zl_expand.specs.declared.instance.Instance.{Instance as TheInstance}
use Rattle.zl_flat.specs.Parts.{Parts, Counters, joined, some_places, some_definers, after}
use Rattle.zl_flat.specs.ScopedDecls.{Scoped, found, with_sizes}
use Rattle.zl_flat.specs.Variables.{variables}
use Rattle.zl_flat.specs.Numbering.{decl_numbering}
use Rattle.zl_flat.specs.Instances.{Callee, Copy, Instance, callee}
use Rattle.zl_flat.specs.Expressions.{exprs_walk}
use Rattle.zl_flat.specs.Equations.{eqns_walk}
use Rattle.zl_flat.specs.Expansion.{decl_copy, with_callees, body_copy, instance, argument_definers, param_place}
use Rattle.zl_expand.specs.KeptDecls.{scoped_in, infos_in, types_in, known_in}
use Rattle.zl_expand.specs.Kept.{counters, instance_in, names_in, inside_in}
use Rattle.zl_flat.specs.Counted.{count}
use Rattle.zl_expand.specs.Room.{HasRoom}
use Rattle.zl_expand.proofs.RoomLaws.{count-joined, count-places, fewer-places, room-second}
use Rattle.zl_expand.proofs.LimitLemmas.{HasScoped}
use Rattle.zl_expand.proofs.PartsLaws.{joined-assoc, joined-nothing, counters-joined}
use Rattle.zl_expand.proofs.KnownLemmas.{cut_at}
use Rattle.zl_expand.proofs.CopyLemmas.{callee-there, callee-missing}
use Rattle.zl_expand.proofs.StateLemmas.{on-ok, if-ok}

-- ---- the parts of a copy, one behind the other

module _ (base : ℕ) (names : List (List ℕ)) (i : Instance) (d : Decl) (definers : List Given) (here : Here) where
  abbrev params : Parts
  params = joined (some_places (map (param_place i here) d.params)) (some_definers definers)

  abbrev inside : Counters → Copy
  inside s =
      let results = exprs_walk base names i d.results here s in
      let eqs = eqns_walk base names i d.eqs here (after s results.parts) in
      record { parts = joined results.parts eqs; results = results.roots }

  with-params : (out o1 o2 : Parts) → o1 ≡ joined out (some_places (map (param_place i here) d.params)) → o2 ≡ joined o1 (some_definers definers) → o2 ≡ joined out params
  with-params out o1 o2 e f = f ∙ ap (λ o. joined o (some_definers definers)) e ∙ joined-assoc out (some_places (map (param_place i here) d.params)) (some_definers definers)

  counted : (out o1 o2 : Parts) → o1 ≡ joined out (some_places (map (param_place i here) d.params)) → o2 ≡ joined o1 (some_definers definers) → counters o2 ≡ after (counters out) params
  counted out o1 o2 e f = ap counters (with-params out o1 o2 e f) ∙ counters-joined out params

  pub copy-parts : (out o1 o2 o3 : Parts) → o1 ≡ joined out (some_places (map (param_place i here) d.params)) → o2 ≡ joined o1 (some_definers definers) → o3 ≡ joined o2 (inside (counters o2)).parts → o3 ≡ joined out (body_copy base names i d definers here (counters out)).parts
  copy-parts out o1 o2 o3 e f g =
      g
      ∙ (λ t. joined (with-params out o1 o2 e f t) (inside (counted out o1 o2 e f t)).parts)
      ∙ joined-assoc out params (inside (after (counters out) params)).parts

  pub copy-results : (out o1 o2 : Parts) → o1 ≡ joined out (some_places (map (param_place i here) d.params)) → o2 ≡ joined o1 (some_definers definers) → (inside (counters o2)).results ≡ (body_copy base names i d definers here (counters out)).results
  copy-results out o1 o2 e f = λ t. (inside (counted out o1 o2 e f t)).results

-- ---- the numbers of its places

-- a copy with room has numbers for its places
pub numbers-room : (i : TheInstance) (id number first : ℕ) (decl : Decl) (here : Here) (roots : List Root) (out : Parts) (d : ℕ) → number < i.known.now.number → Some number ≡ position (nat_eq id) (map (λ d. d.name.id) i.known.now.declared.now.decls.now) → HasScoped (scoped_in i.known.now.declared.now) number decl → first ≡ length out.places → HasRoom d i.base out (callee ((instance_in i).callees id) here roots (counters out)).parts →
    (decl_numbering (option_map_or (λ d. d.infos) (slice_get (scoped_in i.known.now.declared.now) number) []) (found (with_sizes [] (take number (scoped_in i.known.now.declared.now)))) decl first).next < 2 ^ 32
unfolding instance_in counters
numbers-room i id number first decl here roots out d before named there first_is h =
    let declared = i.known.now.declared.now in
    let names = declared.names.now in
    let ss = scoped_in declared in
    let one = there.one in
    let sizes = found (with_sizes [] (take number ss)) in
    let same : (decl_numbering (option_map_or (λ d. d.infos) (slice_get ss number) []) sizes decl first).next ≡ (decl_numbering one.infos sizes one.decl (length out.places)).next = λ t. (decl_numbering (option_map_or (λ d. d.infos) (there.there t) []) sizes (sym there.is t) (first_is t)).next in
    let copy = decl_copy i.base names (found (with_callees i.base names [] [] (take number ss))) sizes one here roots (counters out) in
    let end : (decl_numbering one.infos sizes one.decl (length out.places)).next ≡ length out.places + length copy.parts.places = declared.numbered i.base number one there.there here roots (counters out) in
    let made : count (callee ((instance_in i).callees id) here roots (counters out)).parts ≡ count copy.parts = ap (λ o. count (callee o here roots (counters out)).parts) (callee-there i.base names declared.decls.now declared.scopes.now declared.types.now i.known.now.number number id one declared.all_scoped declared.all_typed before there.there named) in
    let few = fewer-places copy.parts in
    let so_far = fewer-places out in
    omega (arith, same, end, made, few, so_far, h)

-- ---- the declaration that is called

-- the instance whose parameters were made
abbrev pub instance-of : (j : TheInstance) (here : Here) (ps : List Param) (out o1 : Parts) → o1 ≡ joined out (some_places (map (param_place (instance_in j) here) ps)) → TheInstance
instance-of j here ps out o1 e = j

module _ (i j : TheInstance) (id number first : ℕ) (decl : Decl) (here : Here) (roots : List Root) (out : Parts) where
  -- a copy of the declaration with this number, which is the first of this name
  pub record IsCalled : Type 0 where
    pub same_declared : j.known.now.declared.now ≡ i.known.now.declared.now
    pub number_is : j.known.now.number ≡ number
    pub same_base : j.base ≡ i.base
    pub block_is : j.block ≡ here.block
    pub before : number < i.known.now.number
    pub named : Some number ≡ position (nat_eq id) (map (λ d. d.name.id) i.known.now.declared.now.decls.now)
    pub all_scoped : length i.known.now.declared.now.scopes.now ≡ length i.known.now.declared.now.decls.now
    pub all_typed : length i.known.now.declared.now.types.now ≡ length i.known.now.declared.now.decls.now
    pub there : HasScoped (scoped_in i.known.now.declared.now) number decl
    pub own_is : j.own.now ≡ (decl_numbering (infos_in j.known.now) (known_in j.known.now) decl first).own
    pub first_is : first ≡ length out.places

  abbrev ss : List Scoped
  ss = scoped_in i.known.now.declared.now

  abbrev callees_at : ℕ → ℕ → Option Callee
  callees_at n = found (with_callees i.base (names_in i) [] [] (take n ss))

  places-number : (p : Parts) → (counters p).places ≡ length p.places
  unfolding counters
  places-number p = refl

  module _ (w : IsCalled) where
    abbrev one : Scoped
    one = w.there.one

    -- the instance of the code is that of the definition
    same-instance : instance_in j ≡ instance i.base (names_in i) (callees_at number) (found (with_sizes [] (take number ss))) one here.block (counters out).places
    unfolding instance_in
    same-instance =
        let infos : infos_in j.known.now ≡ one.infos = (λ t. option_map_or (λ d. d.infos) (slice_get (scoped_in (w.same_declared t)) (w.number_is t)) []) ∙ ap (λ o. option_map_or (λ d. d.infos) o []) w.there.there in
        let types : types_in j.known.now ≡ one.types = (λ t. option_map_or (λ d. d.types) (slice_get (scoped_in (w.same_declared t)) (w.number_is t)) []) ∙ ap (λ o. option_map_or (λ d. d.types) o []) w.there.there in
        let sizes : known_in j.known.now ≡ found (with_sizes [] (take number ss)) = λ t. found (with_sizes [] (take (w.number_is t) (scoped_in (w.same_declared t)))) in
        let own : j.own.now ≡ (decl_numbering one.infos (found (with_sizes [] (take number ss))) one.decl (counters out).places).own =
        w.own_is ∙ (λ t. (decl_numbering (infos t) (sizes t) (sym w.there.is t) ((w.first_is ∙ sym (places-number out)) t)).own) in
        λ t. record {
          block = w.block_is t;
          infos = infos t;
          variables = variables (infos t) (types t) (own t);
          callees = found (with_callees (w.same_base t) (w.same_declared t).names.now [] [] (take (w.number_is t) (scoped_in (w.same_declared t))));
        }

    -- what is called by the name is the copy
    pub called-copy : callee ((instance_in i).callees id) here roots (counters out) ≡ body_copy i.base (names_in i) (instance_in j) decl (argument_definers here (counters out).places decl.params roots) here (counters out)
    unfolding instance_in decl_copy
    called-copy =
        ap (λ o. callee o here roots (counters out)) (callee-there i.base (names_in i) i.known.now.declared.now.decls.now i.known.now.declared.now.scopes.now i.known.now.declared.now.types.now i.known.now.number number id one w.all_scoped w.all_typed w.before w.there.there w.named)
        ∙ (λ t. body_copy i.base (names_in i) (sym same-instance t) (w.there.is t) (argument_definers here (counters out).places (w.there.is t).params roots) here (counters out))

    -- the parameters are among what the copy makes
    pub params-room : (d : ℕ) → HasRoom d i.base out (callee ((instance_in i).callees id) here roots (counters out)).parts → first + length decl.params < 2 ^ 32
    params-room d h =
        let k = instance_in j in
        let places = map (param_place k here) decl.params in
        let definers = argument_definers here (counters out).places decl.params roots in
        let ps = params i.base (names_in i) k decl definers here in
        let rest = inside i.base (names_in i) k decl definers here (after (counters out) ps) in
        let e = ap (λ c. count c.parts) called-copy in
        let f = count-joined ps rest.parts in
        let g = count-joined (some_places places) (some_definers definers) in
        let l = count-places places in
        let m = length-map decl.params (param_place k here) in
        let n = fewer-places out in
        let o = w.first_is in
        omega (arith, e, f, g, l, m, n, o, h)

    -- the copy is made in order
    module _ (o1 o2 o3 : Parts) (e : o1 ≡ joined out (some_places (map (param_place (instance_in j) here) decl.params))) (f : o2 ≡ joined o1 (some_definers (argument_definers here first decl.params roots))) where
      same-copy : body_copy j.base (names_in j) (instance_in j) decl (argument_definers here first decl.params roots) here (counters out) ≡ callee ((instance_in i).callees id) here roots (counters out)
      same-copy =
          (λ t. body_copy (w.same_base t) (w.same_declared t).names.now (instance_in j) decl (argument_definers here ((w.first_is ∙ sym (places-number out)) t) decl.params roots) here (counters out))
          ∙ sym called-copy

      pub called-parts : o3 ≡ joined o2 (inside_in j decl here (counters o2)).parts → o3 ≡ joined out (callee ((instance_in i).callees id) here roots (counters out)).parts
      called-parts g = copy-parts j.base (names_in j) (instance_in j) decl (argument_definers here first decl.params roots) here out o1 o2 o3 e f g ∙ ap (λ c. joined out c.parts) same-copy

      pub called-results : (inside_in j decl here (counters o2)).results ≡ (callee ((instance_in i).callees id) here roots (counters out)).results
      called-results = copy-results j.base (names_in j) (instance_in j) decl (argument_definers here first decl.params roots) here out o1 o2 e f ∙ ap (λ c. c.results) same-copy

      -- what stands in the copy has room
      pub inside-room : (d : ℕ) → HasRoom d i.base out (callee ((instance_in i).callees id) here roots (counters out)).parts → HasRoom d j.base o2 (inside_in j decl here (counters o2)).parts
      inside-room d h =
          let definers = argument_definers here first decl.params roots in
          let ps = params j.base (names_in j) (instance_in j) decl definers here in
          let k : HasRoom d i.base out (joined ps (inside_in j decl here (after (counters out) ps)).parts) = subst (HasRoom d i.base out) (sym (ap (λ c. c.parts) same-copy)) h in
          let r = room-second d i.base out o2 ps (inside_in j decl here (after (counters out) ps)).parts (with-params j.base (names_in j) (instance_in j) decl definers here out o1 o2 e f) k in
          subst (λ b. HasRoom d b o2 (inside_in j decl here (counters o2)).parts) (sym w.same_base)
          (subst (λ s. HasRoom d i.base o2 (inside_in j decl here s).parts) (sym (counted j.base (names_in j) (instance_in j) decl definers here out o1 o2 e f)) r)

      pub made-ok : {V E : Type 0} (r : Result V E) → OnOk r (o3 ≡ joined o2 (inside_in j decl here (counters o2)).parts) → OnOk r (o3 ≡ joined out (callee ((instance_in i).callees id) here roots (counters out)).parts)
      made-ok r h = on-ok r _ _ called-parts h

      pub results-ok : {V E : Type 0} (items : V → List Root) (r : Result V E) → IfOk r (λ v. items v ≡ (inside_in j decl here (counters o2)).results) → IfOk r (λ v. items v ≡ (callee ((instance_in i).callees id) here roots (counters out)).results)
      results-ok items r h = if-ok r (λ v. items v ≡ (inside_in j decl here (counters o2)).results) (λ v. items v ≡ (callee ((instance_in i).callees id) here roots (counters out)).results) (λ v g. g ∙ called-results) h

-- ---- what isn't declared before has no copy

module _ (i : TheInstance) (id : ℕ) where
  pub record IsMissing : Type 0 where
    pub all_scoped : length i.known.now.declared.now.scopes.now ≡ length i.known.now.declared.now.decls.now
    pub all_typed : length i.known.now.declared.now.types.now ≡ length i.known.now.declared.now.decls.now
    pub before_none : cut_at i.known.now.number (position (nat_eq id) (map (λ d. d.name.id) i.known.now.declared.now.decls.now)) ≡ None

  no-callee : IsMissing → (instance_in i).callees id ≡ None
  unfolding instance_in
  no-callee w = callee-missing i.base (names_in i) i.known.now.declared.now.decls.now i.known.now.declared.now.scopes.now i.known.now.declared.now.types.now i.known.now.number id w.all_scoped w.all_typed w.before_none

  module _ (here : Here) (roots : List Root) (out : Parts) where
    pub missing-parts : IsMissing → out ≡ joined out (callee ((instance_in i).callees id) here roots (counters out)).parts
    missing-parts w = sym (ap (λ o. joined out (callee o here roots (counters out)).parts) (no-callee w) ∙ joined-nothing out)

    pub missing-results : IsMissing → [] ≡ (callee ((instance_in i).callees id) here roots (counters out)).results
    missing-results w = sym (ap (λ o. (callee o here roots (counters out)).results) (no-callee w))
