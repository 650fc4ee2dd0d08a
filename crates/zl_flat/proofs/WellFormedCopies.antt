-- In each copy of a declaration's body the variables have their places, with their types.
use Rattle.std.proofs.Common.{◌≡◌, ℕ, ◌+◌, ◌<◌, Bool, true, false, if◌then◌else◌, nat_eq, List, [], ◌∷◌, ◌++◌, map, length, slice_get, Option, Some, refl, sym, ap, subst, ◌∙◌}
use Rattle.std.specs.List.{AllByRecursion}
use Rattle.std.proofs.lemmas.Bool.{eqb-true}
use Rattle.std.proofs.lemmas.List.{append-nil}
use Rattle.zl_value.specs.declared.rule.Rule.TheVariants as rule
use Rattle.zl_value.specs.declared.value.Ty.{Ty}
use Rattle.zl_ast.specs.declared.scope.VarInfo.{VarInfo}
use Rattle.zl_ast.specs.declared.scope.VarClass.{VarClass}
use Rattle.zl_ast.specs.declared.eqn.Eqn.{Eqn}
use Rattle.zl_ast.specs.declared.program.Decl.{Decl}
use Rattle.zl_ast.specs.declared.program.Param.{Param}
use Rattle.zl_ast.specs.Names.{with_ids, broken_if}
use Rattle.zl_ast.specs.NamesDefined.{first_places, eqns_outline}
use Rattle.zl_ast.specs.NamesUsed.{Known}
use Rattle.zl_ast.specs.NamesRules.{is_local, is_declared, inside_of, twice, variables_broken, uses_broken, decl_broken, decls_broken, declared_with}
use Rattle.zl_ast.specs.Scopes as scope
use Rattle.zl_ast.specs.Scopes.{param_ids}
use Rattle.zl_ast.specs.Spots.{decl_spots}
use Rattle.zl_ast.specs.Parsed.{Grow, places}
use Rattle.zl_meaning.specs.FlatForm.{FlatForm}
use Rattle.zl_meaning.specs.declared.place.PlaceInfo.{PlaceInfo}
use Rattle.zl_flat.specs.declared.here.Here.{Here}
use Rattle.zl_flat.specs.declared.variable.Variable.{Variable}
use Rattle.zl_flat.specs.declared.size.Size.{Size}
use Rattle.zl_flat.specs.declared.given.Given.{Given}
use Rattle.zl_flat.specs.Parts.{Counters, joined, some_places, some_definers, after}
use Rattle.zl_flat.specs.Variables.{variables, variable_of}
use Rattle.zl_flat.specs.Sizes.{exprs_size}
use Rattle.zl_flat.specs.Numbering.{decl_numbering}
use Rattle.zl_flat.specs.Instances.{Callee, Instance}
use Rattle.zl_flat.specs.Expressions.{exprs_walk}
use Rattle.zl_flat.specs.Equations.{place_type, eqn_walk, eqns_walk}
use Rattle.zl_flat.specs.Expansion.{Scoped, param_place, body_copy, instance}
use Rattle.zl_flat.proofs.WellFormedParts.{AllFrom, all-append, each-left, each-right, the_places}
use Rattle.zl_flat.proofs.WellFormedGround.{IsPlaceAt, standing, Sits}
use Rattle.zl_flat.proofs.RulesKept.{none-left, none-right}
use Rattle.zl_flat.proofs.WellFormedDecls.{IsCounted}
use Rattle.zl_flat.proofs.WellFormedSizes.{IsSized}
use Rattle.zl_flat.proofs.WellFormedSizesForm.{exprs-make}
use Rattle.zl_flat.proofs.WellFormedMentions.{Mention, eqn_mentions, firsts, as_entries}
use Rattle.zl_flat.proofs.WellFormedFirsts.{Distinct, twice-distinct, HasNumber, to-firsts}
use Rattle.zl_flat.proofs.WellFormedVariables.{length-map, param_mentions, behind_results, own_mentions, eqns_mentions, decl-entries, one-place-each, decl-numbers}
use Rattle.zl_flat.proofs.WellFormedPlaces.{MentionPlaced, FirstPlaced, MakingPlaces, next-places, eqn-next, eqn-places}

-- ---- declarations

-- A declaration with its own variables and a type for each. It stands in the order of the text, and has a result.
pub record IsInOrder (d : Scoped) : Type 0 where
  pub infos : d.infos ≡ scope.variables d.decl
  pub types : length d.types ≡ length d.infos
  pub in_text : Grow (places (decl_spots d.decl))
  pub some : 0 < length d.decl.results

-- the variables of a declaration that breaks no rule of names differ from each other and from constants
pub kept-twice : (names : List (List ℕ)) (k : Known) (d : Decl) → decl_broken names k d ≡ [] → twice k.constants [] (scope.variables d) ≡ []
unfolding variables_broken
kept-twice names k d h =
    let outline = eqns_outline d.eqs in
    let one = broken_if (is_declared k d.name.id) rule.NameTwice d.name.at in
    let three = first_places (with_ids [] (param_ids d.params)) [] outline.entries in
    let four = twice k.constants [] (scope.variables d) in
    let rest = outline.broken ++ (three ++ four) in
    none-right three four (none-right outline.broken (three ++ four) (none-right one rest (none-left (one ++ rest) (uses_broken names (inside_of k d) d) h)))

-- so they differ
pub kept-distinct : (names : List (List ℕ)) (k : Known) (d : Decl) → decl_broken names k d ≡ [] → Distinct (scope.variables d)
kept-distinct names k d h = twice-distinct k.constants [] (scope.variables d) (kept-twice names k d h)

-- the variables have a type and a place each
pub order-counted : (names : List (List ℕ)) (k : Known) (d : Scoped) → decl_broken names k d.decl ≡ [] → IsInOrder d → IsCounted d
order-counted names k d kept h = record {
  infos = h.infos;
  types = h.types;
  places = λ sizes n. one-place-each d.infos sizes d.decl n h.infos (subst Distinct (sym h.infos) (kept-distinct names k d.decl kept)) h.in_text;
  some = h.some;
}

-- so have those of each declaration
pub all-counted : (names : List (List ℕ)) (k : Known) (ds : List Scoped) → decls_broken names k (map (λ (d : Scoped). d.decl) ds) ≡ [] → AllByRecursion IsInOrder ds → AllByRecursion IsCounted ds
all-counted names k [] kept h = tt
all-counted names k (d ∷ ds) kept h =
    let one = decl_broken names k d.decl in
    let rest = decls_broken names (declared_with k d.decl) (map (λ (e : Scoped). e.decl) ds) in
    (order-counted names k d (none-left one rest kept) h.0, all-counted names (declared_with k d.decl) ds (none-right one rest kept) h.1)

-- ---- variables of a copy

-- the variable's place is in the form, with its type
pub record VariableStands (f : FlatForm) (v : Variable) : Type 0 where
  pub place : PlaceInfo
  pub is : slice_get f.places v.place ≡ Some place
  pub typed : place.ty ≡ v.ty

-- the variable of this name stands; where no `local` declares it, its place is in the block of the copy's body
pub record NameStands (f : FlatForm) (i : Instance) (id : ℕ) (c : VarClass) : Type 0 where
  pub variable : Variable
  pub is : variable_of i.variables id ≡ Some variable
  pub stands : VariableStands f variable
  pub block : is_local c ≡ false → stands.place.block ≡ i.block
  pub named : stands.place.name ≡ id

-- the variable of this entry stands
abbrev pub InfoStands : FlatForm → Instance → VarInfo → Type 0
InfoStands f i v = NameStands f i v.name v.class

name-stands : (f : FlatForm) (i : Instance) (call : Option ℕ) (m : Mention) → HasNumber i.variables m.name.id m.number → MentionPlaced f i call m → NameStands f i m.name.id m.class
name-stands f i call m h p =
    let is = subst (λ k. slice_get f.places k ≡ Some p.place) (sym h.place) p.is in
    let stands : VariableStands f h.variable = record { place = p.place; is = is; typed = p.typed ∙ ap place_type h.is } in
    record { variable = h.variable; is = h.is; stands = stands; block = p.block; named = p.named }

entries-stand : (f : FlatForm) (i : Instance) (call : Option ℕ) (ms : List Mention) → AllByRecursion (λ (m : Mention). HasNumber i.variables m.name.id m.number) ms → AllByRecursion (MentionPlaced f i call) ms → AllByRecursion (InfoStands f i) (as_entries ms)
entries-stand f i call [] h p = tt
entries-stand f i call (m ∷ ms) h p = (name-stands f i call m h.0 p.0, entries-stand f i call ms h.1 p.1)

-- a variable that is found is that of one of the infos
pub all-found-stand : (f : FlatForm) (i : Instance) (infos : List VarInfo) (types : List Ty) (own : List ℕ) → AllByRecursion (InfoStands f i) infos → (id : ℕ) (v : Variable) → variable_of (variables infos types own) id ≡ Some v →
    variable_of i.variables id ≡ Some v → VariableStands f v
all-found-stand f i [] types own h id v is found = absurd (cc)
all-found-stand f i (x ∷ infos) [] own h id v is found = absurd (cc)
all-found-stand f i (x ∷ infos) (ty ∷ types) [] h id v is found = absurd (cc)
all-found-stand f i (x ∷ infos) (ty ∷ types) (n ∷ own) h id v is found = by_equal (nat_eq x.name id) refl is (λ k. all-found-stand f i infos types own h.1 id v k found)
  where
    same : (a b : Variable) → Some a ≡ Some b → a ≡ b
    same a b e = cc

    by_equal : (b : Bool) → nat_eq x.name id ≡ b → (if b then Some (record { name = x.name; ty = ty; place = n }) else variable_of (variables infos types own) id) ≡ Some v →
        (variable_of (variables infos types own) id ≡ Some v → VariableStands f v) → VariableStands f v
    by_equal true e k more = let a = h.0 in subst (VariableStands f) (same a.variable v (sym a.is ∙ (ap (variable_of i.variables) (eqb-true x.name id e) ∙ found))) a.stands
    by_equal false e k more = more k

module _ (f : FlatForm) (base : ℕ) (names : List (List ℕ)) (i : Instance) (known : ℕ → Option Size) (sized : IsSized names i known) where
  eqns-placed : (es : List Eqn) → MakingPlaces f base names i known (eqns_mentions i.infos known es) (eqns_walk base names i es)
  eqns-placed [] here s n at sits = tt
  eqns-placed (e ∷ es) here s n at sits =
      let first = eqn_walk base names i e here s in
      let rest = eqns_walk base names i es here (after s first) in
      let next = (eqn_mentions i.infos known e n).next in
      all-append (FirstPlaced f base names i known here.call) (eqn_mentions i.infos known e n).all (eqns_mentions i.infos known es next).all
      (eqn-places f base names i known sized e here s n at (each-left (standing f base) s first rest sits))
      (eqns-placed es here (after s first) next (eqn-next f base names i known sized e here s n at) (each-right (standing f base) s first rest sits))

  params-placed : (ps : List Param) (here : Here) → here.block ≡ i.block → (n : ℕ) → AllFrom (IsPlaceAt f) n (map (param_place i here) ps) → AllByRecursion (MentionPlaced f i here.call) (param_mentions n ps)
  params-placed [] here inside n h = tt
  params-placed (p ∷ ps) here inside n h = let a = h.0 in (record { place = a.place; is = a.is; typed = a.typed; block = λ e. a.block ∙ inside; in_copy = a.call; named = a.named }, params-placed ps here inside (n + 1) h.1)

  -- where the places behind the parameters begin
  pub params-next : (s : Counters) (xs : List PlaceInfo) (definers : List Given) → (after s (joined (some_places xs) (some_definers definers))).places ≡ s.places + length xs
  unfolding after joined some_places some_definers
  params-next s xs definers = ap (λ ys. s.places + length ys) (append-nil xs)

  -- where those of the equations begin
  pub results-next : (d : Decl) (definers : List Given) (here : Here) (s : Counters) →
      (let params = joined (some_places (map (param_place i here) d.params)) (some_definers definers) in
      (after (after s params) (exprs_walk base names i d.results here (after s params)).parts).places ≡ behind_results i.infos known d s.places)
  results-next d definers here s =
      let xs = map (param_place i here) d.params in
      let params = joined (some_places xs) (some_definers definers) in
      next-places (after s params) (s.places + length d.params) (exprs_walk base names i d.results here (after s params)).parts (exprs_size i.infos known d.results) (behind_results i.infos known d s.places)
      (params-next s xs definers ∙ ap (λ n. s.places + n) (length-map (param_place i here) d.params)) (exprs-make base names i known sized d.results here (after s params)) refl

  -- the first mention of each variable has its place
  pub copy-placed : (d : Decl) (definers : List Given) (here : Here) (s : Counters) → here.block ≡ i.block → Sits f base s (body_copy base names i d definers here s).parts → AllByRecursion (MentionPlaced f i here.call) (own_mentions i.infos known d s.places)
  copy-placed d definers here s inside sits =
      let xs = map (param_place i here) d.params in
      let params = joined (some_places xs) (some_definers definers) in
      let t = after s params in
      let results = (exprs_walk base names i d.results here t).parts in
      let eqs = eqns_walk base names i d.eqs here (after t results) in
      let n = behind_results i.infos known d s.places in
      let all = (eqns_mentions i.infos known d.eqs n).all in
      let first = each-left (standing f base) s params (joined results eqs) sits in
      let behind = each-right (standing f base) t results eqs (each-right (standing f base) s params (joined results eqs) sits) in
      all-append (MentionPlaced f i here.call) (param_mentions s.places d.params) (firsts i.infos all)
      (params-placed d.params here inside s.places (the_places (standing f base) s xs (each-left (standing f base) s (some_places xs) (some_definers definers) first)))
      (to-firsts (MentionPlaced f i here.call) i.infos all (eqns-placed d.eqs here (after t results) n (results-next d definers here s) behind))

-- the variables of a copy stand, where its parts are those of the form
pub copy-variables : (f : FlatForm) (base : ℕ) (names : List (List ℕ)) (callees : ℕ → Option Callee) (sizes : ℕ → Option Size) (d : Scoped) (definers : List Given) (here : Here) (s : Counters) →
    (let i = instance base names callees sizes d here.block s.places in
    IsSized names i sizes → IsInOrder d → Distinct d.infos → Sits f base s (body_copy base names i d.decl definers here s).parts → AllByRecursion (InfoStands f i) d.infos)
copy-variables f base names callees sizes d definers here s sized order distinct sits =
    let i = instance base names callees sizes d here.block s.places in
    let ms = own_mentions d.infos sizes d.decl s.places in
    let numbers = decl-numbers d.infos d.types sizes d.decl s.places order.infos distinct order.in_text order.types in
    let placed = copy-placed f base names i sizes sized d.decl definers here s refl sits in
    subst (λ vs. AllByRecursion (InfoStands f i) vs) (decl-entries d.infos sizes d.decl s.places order.infos distinct order.in_text) (entries-stand f i here.call ms numbers placed)

-- so does each variable that is found in it
pub copy-variable : (f : FlatForm) (base : ℕ) (names : List (List ℕ)) (callees : ℕ → Option Callee) (sizes : ℕ → Option Size) (d : Scoped) (definers : List Given) (here : Here) (s : Counters) →
    (let i = instance base names callees sizes d here.block s.places in
    IsSized names i sizes → IsInOrder d → Distinct d.infos → Sits f base s (body_copy base names i d.decl definers here s).parts → (id : ℕ) (v : Variable) → variable_of i.variables id ≡ Some v → VariableStands f v)
copy-variable f base names callees sizes d definers here s sized order distinct sits id v is =
    let i = instance base names callees sizes d here.block s.places in
    all-found-stand f i d.infos d.types (decl_numbering d.infos sizes d.decl s.places).own (copy-variables f base names callees sizes d definers here s sized order distinct sits) id v is is
