-- What `main` expands to, as it is made step by step.
use Rattle.std.proofs.Common.{◌≡◌, ℕ, suc, ◌+◌, ◌^◌, ◌<◌, ◌≤◌, Bool, List, [], ◌∷◌, ◌++◌, map, length, drop, take, Option, Some, None, slice_get, Result, Ok, Err, IfOk, refl, sym, ap, ◌∙◌, subst, arith}
use Rattle.std.specs.Option.{option_map_or}
use Rattle.std.proofs.lemmas.Grind.{common_steps}
use Rattle.std.proofs.lemmas.List.{append_assoc, append-nil, drop_more, length-map}
use Rattle.zl_value.specs.Lists.{listed}
use Rattle.zl_ast.specs.NamesRules.{is_hybrid}
use Rattle.zl_ast.specs.declared.program.Decl.{Decl}
use Rattle.zl_ast.specs.declared.program.Param.{Param}
use Rattle.zl_meaning.specs.FlatForm.{FlatForm}
use Rattle.zl_meaning.specs.declared.block.Block.{Block}
use Rattle.zl_meaning.specs.declared.block.BlockKind.TheVariants.{Main}
use Rattle.zl_meaning.specs.declared.place.Definer.TheVariants.{Input}
use Rattle.zl_meaning.specs.declared.place.PlaceInfo.{PlaceInfo}
use Rattle.zl_flat.specs.declared.size.Size.{Size}
use Rattle.zl_flat.specs.declared.given.Given.{Given}
use Rattle.zl_expand.specs.declared.decls.Declared.{Declared}
use Rattle.zl_expand.specs.declared.decls.Known.{Known}
use Rattle.zl_expand.specs.declared.limits.Measured.{Measured}
use Rattle.zl_expand.specs.declared.instance.Instance.{Instance as TheInstance}
use Rattle.zl_flat.specs.Capped.{cap, capped}
use Rattle.zl_flat.specs.Limits.{Fits, FitsIn}
use Rattle.zl_flat.specs.Flat.{IsFlatOf}
use Rattle.zl_flat.specs.Parts.{Parts, Counters, nothing, joined, one_block, some_places, some_definers, after, past_block, start}
use Rattle.zl_flat.specs.Variables.{variables}
use Rattle.zl_flat.specs.Numbering.{decl_numbering}
use Rattle.zl_flat.specs.Instances.{Instance, Callee}
use Rattle.zl_flat.specs.Equations.{given, eqns_walk}
use Rattle.zl_flat.specs.Expressions.{exprs_walk}
use Rattle.zl_flat.specs.Counted.{count}
use Rattle.zl_flat.specs.Checked.{IsChecked}
use Rattle.zl_ast.specs.Scopes.{scopes}
use Rattle.zl_flat.specs.Sizes.{plus, a_block, decl_size}
use Rattle.zl_flat.proofs.CheckedPrograms.{count-is-small}
use Rattle.zl_flat.proofs.NumberingEnds.{decl-ends}
use Rattle.zl_expand.specs.Room.{HasRoom}
use Rattle.zl_expand.proofs.RoomLaws.{count-joined, count-places, count-nothing}
use Rattle.zl_flat.specs.Expansion.{Scoped, found, with_sizes, with_callees, MainOf, main_size, sizes_of, program_main, main_here, main_block, input_definers, param_place, body_copy, instance, variables_from, result_places, form_of, main_parts, main_form}
use Rattle.zl_expand.specs.KeptDecls.{scoped_in, infos_in, types_in, known_in, program_in, IsMeasured}
use Rattle.zl_expand.specs.Kept.{counters, instance_in, names_in, inside_in}
use Rattle.zl_expand.specs.declared.tables.Tables.{Tables}
use Rattle.zl_expand.specs.Tables.{form_in, scoped_as, main_in, parts_in}
use Rattle.zl_expand.proofs.PartsLaws.{parts_laws, more-definers, nothing-joined, joined-assoc, counters-joined}

-- ---- inputs

-- one input more
input-more : (ps : List Param) (i n : ℕ) → i < length ps → input_definers n (drop i ps) ≡ given n (Input n) ∷ input_definers (n + 1) (drop (i + 1) ps)
input-more [] i n h = absurd (omega arith)
input-more (p ∷ ps) i n h = ap (input_definers n) (drop_more (p ∷ ps) i p h)

pub inputs-step : (ps : List Param) (i n m : ℕ) (p q : Parts) → i < length ps → m ≡ n + 1 → q ≡ joined p (some_definers (given n (Input n) ∷ [])) → joined q (some_definers (input_definers m (drop (i + 1) ps))) ≡ joined p (some_definers (input_definers n (drop i ps)))
inputs-step ps i n m p q h g e =
    ap (λ k. joined q (some_definers (input_definers k (drop (i + 1) ps)))) g
    ∙ ap (λ r. joined r (some_definers (input_definers (n + 1) (drop (i + 1) ps)))) e
    ∙ more-definers p (given n (Input n) ∷ []) (input_definers (n + 1) (drop (i + 1) ps))
    ∙ ap (λ gs. joined p (some_definers gs)) (sym (input-more ps i n h))

succ-is : (n : ℕ) → suc n ≡ n + 1
succ-is n = omega arith

number-more : (ps : List Param) (i n : ℕ) → i < length ps → listed (length (drop i ps)) n (λ k. k) ≡ n ∷ listed (length (drop (i + 1) ps)) (n + 1) (λ k. k)
number-more [] i n h = absurd (omega arith)
number-more (p ∷ ps) i n h =
    ap (λ qs. listed (length qs) n (λ k. k)) (drop_more (p ∷ ps) i p h)
    ∙ ap (λ m. n ∷ listed (length (drop (i + 1) (p ∷ ps))) m (λ k. k)) (succ-is n)

pub numbers-step : (ps : List Param) (i n m : ℕ) (ns ms : List ℕ) → i < length ps → m ≡ n + 1 → ms ≡ ns ++ n ∷ [] → ms ++ listed (length (drop (i + 1) ps)) m (λ k. k) ≡ ns ++ listed (length (drop i ps)) n (λ k. k)
numbers-step ps i n m ns ms h g e =
    ap (λ k. ms ++ listed (length (drop (i + 1) ps)) k (λ k. k)) g
    ∙ ap (λ l. l ++ listed (length (drop (i + 1) ps)) (n + 1) (λ k. k)) e
    ∙ append_assoc ns (n ∷ []) (listed (length (drop (i + 1) ps)) (n + 1) (λ k. k))
    ∙ ap (λ l. ns ++ l) (sym (number-more ps i n h))

-- ---- what `main` makes

counters-block : (b : Block) → counters (one_block b) ≡ past_block start
unfolding counters one_block past_block
counters-block b = refl

-- the block, the places of the parameters, their definers, and the rest, which goes on from there
in-order : (b : Block) (xs : List PlaceInfo) (gs : List Given) (rest : Counters → Parts) (o1 o2 o3 o4 : Parts) → o1 ≡ joined nothing (one_block b) → o2 ≡ joined o1 (some_places xs) → o3 ≡ joined o2 (some_definers gs) → o4 ≡ joined o3 (rest (counters o3)) → o4 ≡ joined (one_block b) (joined (joined (some_places xs) (some_definers gs)) (rest (after (past_block start) (joined (some_places xs) (some_definers gs)))))
in-order b xs gs rest o1 o2 o3 o4 h1 h2 h3 h4 =
    let params = joined (some_places xs) (some_definers gs) in
    let made : o3 ≡ joined (one_block b) params =
    h3 ∙ ap (λ o. joined o (some_definers gs)) (h2 ∙ ap (λ o. joined o (some_places xs)) (h1 ∙ nothing-joined (one_block b))) ∙ joined-assoc (one_block b) (some_places xs) (some_definers gs) in
    let count : counters o3 ≡ after (past_block start) params = ap counters made ∙ counters-joined (one_block b) params ∙ ap (λ s. after s params) (counters-block b) in
    h4
    ∙ ap (λ o. joined o (rest (counters o3))) made
    ∙ joined-assoc (one_block b) params (rest (counters o3))
    ∙ ap (λ s. joined (one_block b) (joined params (rest s))) count

abbrev callees_in : Known → ℕ → ℕ → Option Callee
callees_in k base = found (with_callees base k.declared.now.names.now [] [] (take k.number (scoped_in k.declared.now)))

-- the copy of `main`, whose first place is the first of all
pub main-instance : (i : TheInstance) (d : Decl) → i.block ≡ 0 → i.own.now ≡ (decl_numbering (infos_in i.known.now) (known_in i.known.now) d 0).own → instance_in i ≡ instance i.base (names_in i) (callees_in i.known.now i.base) (known_in i.known.now) (scoped_as i.known.now d) 0 0
unfolding instance_in
main-instance i d b o = λ j. record { block = b j; infos = infos_in i.known.now; variables = variables (infos_in i.known.now) (types_in i.known.now) (o j); callees = callees_in i.known.now i.base }

abbrev main_walked : ℕ → List (List ℕ) → Instance → Decl → Bool → Parts
main_walked base names i d hybrid =
    joined (one_block (record { parent = None; kind = Main; hybrid = hybrid }))
    (body_copy base names i d (input_definers 0 d.params) (record { block = 0; hybrid = hybrid; call = None }) (past_block start)).parts

pub main-made : (i : TheInstance) (d : Decl) (hybrid : Bool) (o1 o2 o3 o4 : Parts) → i.block ≡ 0 → i.own.now ≡ (decl_numbering (infos_in i.known.now) (known_in i.known.now) d 0).own → hybrid ≡ is_hybrid d.kind → o1 ≡ joined nothing (one_block (record { parent = None; kind = Main; hybrid = hybrid })) → o2 ≡ joined o1 (some_places (map (param_place (instance_in i) (record { block = 0; hybrid = hybrid; call = None })) d.params)) → o3 ≡ joined o2 (some_definers (input_definers 0 d.params)) → o4 ≡ joined o3 (inside_in i d (record { block = 0; hybrid = hybrid; call = None }) (counters o3)).parts → o4 ≡ main_parts i.base (names_in i) (callees_in i.known.now i.base) (known_in i.known.now) (scoped_as i.known.now d)
unfolding main_parts
main-made i d hybrid o1 o2 o3 o4 b o h h1 h2 h3 h4 =
    in-order _ _ _ (λ s. (inside_in i d (record { block = 0; hybrid = hybrid; call = None }) s).parts) o1 o2 o3 o4 h1 h2 h3 h4
    ∙ (λ j. main_walked i.base (names_in i) (main-instance i d b o j) d (h j))

-- the parameters are among what `main` makes
main-params : (base : ℕ) (names : List (List ℕ)) (callees : ℕ → Option Callee) (sizes : ℕ → Option Size) (d : Scoped) → length d.decl.params ≤ count (main_parts base names callees sizes d)
unfolding main_parts
main-params base names callees sizes d =
    let i = instance base names callees sizes d 0 0 in
    let here = main_here base names d.decl in
    let places = map (param_place i here) d.decl.params in
    let definers = input_definers 0 d.decl.params in
    let b = one_block (main_block base names d.decl) in
    let ps = joined (some_places places) (some_definers definers) in
    let copy = body_copy base names i d.decl definers here (past_block start) in
    let results = exprs_walk base names i d.decl.results here (after (past_block start) ps) in
    let eqs = eqns_walk base names i d.decl.eqs here (after (after (past_block start) ps) results.parts) in
    let e = count-joined b copy.parts in
    let f = count-joined ps (joined results.parts eqs) in
    let g = count-joined (some_places places) (some_definers definers) in
    let l = count-places places in
    let m = length-map d.decl.params (param_place i here) in
    omega (arith, e, f, g, l, m)

pub params-in : (k : Known) (d : Decl) (base : ℕ) → length d.params ≤ count (parts_in k d base)
params-in k d base = main-params base k.declared.now.names.now (callees_in k base) (known_in k) (scoped_as k d)

-- what is left of the walk of `main` has room
pub rest-room : (d base : ℕ) (o rest whole : Parts) → joined o rest ≡ whole → HasRoom d base nothing whole → HasRoom d base o rest
rest-room d base o rest whole same h =
    let e = sym (count-joined o rest) ∙ ap count same in
    let f = count-nothing in
    omega (arith, e, f, h)

pub main-formed : (i : TheInstance) (d : Decl) (out : Parts) (ins outs : List ℕ) → i.block ≡ 0 → i.own.now ≡ (decl_numbering (infos_in i.known.now) (known_in i.known.now) d 0).own → out ≡ main_parts i.base (names_in i) (callees_in i.known.now i.base) (known_in i.known.now) (scoped_as i.known.now d) → ins ≡ listed (length d.params) 0 (λ n. n) → outs ≡ result_places (instance_in i).variables d.results → form_of out ins outs ≡ main_in i.known.now d i.base
main-formed i d out ins outs b o made h g =
    (λ j. form_of (made j) (h j) ((g ∙ ap (λ k. result_places k.variables d.results) (main-instance i d b o)) j))

-- tables of a form are those of one that is the same
pub same-form : {E : Type 0} (r : Result Tables E) (f g : FlatForm) → f ≡ g → IfOk r (λ t. form_in t ≡ f) → IfOk r (λ t. form_in t ≡ g)
same-form r f g e = subst (λ h. IfOk r (λ t. form_in t ≡ h)) e

-- ---- the declaration that is `main`

abbrev form_at : ℕ → List (List ℕ) → List Scoped → Scoped → FlatForm
form_at base names before m =
    form_of
    (main_parts base names (found (with_callees base names [] [] before)) (found (with_sizes [] before)) m)
    (listed (length m.decl.params) 0 (λ n. n))
    (result_places (variables_from (found (with_sizes [] before)) m 0) m.decl.results)

-- what is made for `main` is what the definitions say
pub same-parts : (k : Known) (decl : Decl) (base : ℕ) (of : MainOf) → of.before ≡ take k.number (scoped_in k.declared.now) → slice_get (scoped_in k.declared.now) k.number ≡ Some of.main → decl ≡ of.main.decl → base ≡ (main_size of).occs →
    parts_in k decl base ≡ main_parts (main_size of).occs k.declared.now.names.now (found (with_callees (main_size of).occs k.declared.now.names.now [] [] of.before)) (sizes_of of) of.main
same-parts k decl base of before there same count = λ j.
    main_parts (count j) k.declared.now.names.now (found (with_callees (count j) k.declared.now.names.now [] [] (sym before j))) (found (with_sizes [] (sym before j)))
    (record { decl = same j; infos = option_map_or (λ d. d.infos) (there j) []; types = option_map_or (λ d. d.types) (there j) [] })

pub flat-main : (k : Known) (decl : Decl) (base : ℕ) (of : MainOf) → of.before ≡ take k.number (scoped_in k.declared.now) → slice_get (scoped_in k.declared.now) k.number ≡ Some of.main → decl ≡ of.main.decl → base ≡ (main_size of).occs → main_in k decl base ≡ main_form k.declared.now.names.now of
unfolding main_form
flat-main k decl base of before there same count = λ j.
    form_at (count j) k.declared.now.names.now (sym before j)
    (record { decl = same j; infos = option_map_or (λ d. d.infos) (there j) []; types = option_map_or (λ d. d.types) (there j) [] })

small-cap : (n : ℕ) → n ≤ 262144 → cap n ≡ n
small-cap n h = omega (arith, h)

-- a count that keeps its limit is exact
pub occs-exact : (s t : Size) → s ≡ capped t → Fits t → s.occs ≡ t.occs
unfolding capped
occs-exact s t e h = ap (λ z. z.occs) e ∙ small-cap t.occs h.occs

abbrev main_at : Option MainOf → MainOf → MainOf
main_at o other = option_map_or (λ m. m) o other

-- what is measured is what keeps the limits
pub fits-measured : (d : Declared) (m : Measured) (h : IsMeasured d m) → FitsIn (program_in d) d.scopes.now d.types.now → Fits (main_size h.of)
fits-measured d m h f = subst (λ o. Fits (main_size o)) (ap (λ o. main_at o h.of) (sym f.is_main ∙ h.is_main)) f.fits

-- the form that is made for `main` is the flat form of the program
pub is-flat : (k : Known) (m : Measured) (decl : Decl) (base : ℕ) (h : IsMeasured k.declared.now m) → k.number ≡ m.main → decl ≡ h.of.main.decl → base ≡ m.size.occs → FitsIn (program_in k.declared.now) k.declared.now.scopes.now k.declared.now.types.now → IsFlatOf (program_in k.declared.now) k.declared.now.scopes.now k.declared.now.types.now (main_in k decl base)
is-flat k m decl base h n e b f =
    let ss = scoped_in k.declared.now in
    let fits = fits-measured k.declared.now m h f in
    record {
      main = h.of;
      is_main = h.is_main;
      fits = fits;
      is = flat-main k decl base h.of (h.is_behind ∙ ap (λ i. take i ss) (sym n)) (ap (λ i. slice_get ss i) n ∙ h.is_there) e (b ∙ occs-exact m.size (main_size h.of) h.counted fits);
    }

-- what holds of a form holds of the tables of this form
pub of-tables : {E : Type 0} (r : Result Tables E) (f : FlatForm) (P : FlatForm → Type 0) → P f → IfOk r (λ t. form_in t ≡ f) → IfOk r (λ t. P (form_in t))
of-tables (Ok t) f P p e = subst P (sym e) p
of-tables (Err x) f P p e = tt

-- there is room for `main` of a program that keeps the rules and the limits
pub main-room : (k : Known) (m : Measured) (decl : Decl) (base : ℕ) (h : IsMeasured k.declared.now m) → k.number ≡ m.main → decl ≡ h.of.main.decl → base ≡ m.size.occs → FitsIn (program_in k.declared.now) k.declared.now.scopes.now k.declared.now.types.now →
    k.declared.now.scopes.now ≡ scopes (program_in k.declared.now) → IsChecked (program_in k.declared.now) k.declared.now.types.now → HasRoom 2 base nothing (parts_in k decl base)
main-room k m decl base h n e b f scoped checked =
    let d = k.declared.now in
    let ss = scoped_in d in
    let fits = fits-measured d m h f in
    let exact = b ∙ occs-exact m.size (main_size h.of) h.counted fits in
    let is_main : program_main (program_in d) (scopes (program_in d)) d.types.now ≡ Some h.of = ap (λ vs. program_main (program_in d) vs d.types.now) (sym scoped) ∙ h.is_main in
    let small = count-is-small (program_in d) d.types.now checked h.of is_main fits in
    let same = ap count (same-parts k decl base h.of (h.is_behind ∙ ap (λ i. take i ss) (sym n)) (ap (λ i. slice_get ss i) n ∙ h.is_there) e exact) in
    let none = count-nothing in
    let few = fits.occs in
    omega (arith, small, same, none, few, exact)

main-places : (m : MainOf) → (main_size m).places ≡ (decl_size m.main.infos (sizes_of m) m.main.decl).places
unfolding main_size plus a_block
main-places m = omega arith

-- so are there numbers for the places of its copy
pub main-numbers : (k : Known) (m : Measured) (decl : Decl) (h : IsMeasured k.declared.now m) → k.number ≡ m.main → decl ≡ h.of.main.decl → FitsIn (program_in k.declared.now) k.declared.now.scopes.now k.declared.now.types.now → (decl_numbering (infos_in k) (known_in k) decl 0).next < 2 ^ 32
main-numbers k m decl h n e f =
    let ss = scoped_in k.declared.now in
    let of = h.of in
    let before = h.is_behind ∙ ap (λ i. take i ss) (sym n) in
    let there = ap (λ i. slice_get ss i) n ∙ h.is_there in
    let same : (decl_numbering (infos_in k) (known_in k) decl 0).next ≡ (decl_numbering of.main.infos (sizes_of of) of.main.decl 0).next = λ j. (decl_numbering (option_map_or (λ d. d.infos) (there j) []) (found (with_sizes [] (sym before j))) (e j) 0).next in
    let end = (decl-ends of.main.infos (sizes_of of) of.main.decl).next 0 in
    let size = main-places of in
    let few = (fits-measured k.declared.now m h f).places in
    omega (arith, same, end, size, few)

pub small-occs : (d : Declared) (m : Measured) → IsMeasured d m → FitsIn (program_in d) d.scopes.now d.types.now → m.size.occs < 2 ^ 32
small-occs d m h f =
    let fits = fits-measured d m h f in
    let e = occs-exact m.size (main_size h.of) h.counted fits in
    let few = fits.occs in
    omega (arith, e, few)

pub ruleset expanding = (common_steps, parts_laws, append-nil, append_assoc)
