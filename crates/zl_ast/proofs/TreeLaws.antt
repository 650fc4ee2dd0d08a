-- The laws of the grammar.
use Rattle.std.specs.Prelude.{if◌then◌else◌}
use Rattle.std.proofs.Common.{Bool, true, false, ◌≡◌, ℕ, ◌+◌, ◌<◌, List, [], ◌∷◌, ◌++◌, map, length, Option, Some, None, arith, refl, ap, subst}
use Rattle.std.specs.List.{AllByRecursion}
use Rattle.zl_lexer.specs.declared.token.Token.{Token}
use Rattle.zl_value.specs.declared.position.Pos.{Pos}
use Rattle.zl_ast.specs.declared.program.Program.{Program}
use Rattle.zl_ast.specs.Declarations.{nesting_limit}
use Rattle.zl_ast.specs.Spots.{Sort, occurrence, equation, Spot, Mark, token_mark, spot_mark, id_of, Sublist, end, keep, drop}
use Rattle.zl_ast.specs.Parsed.{Before, Grow, spots, places, same_sort, of_sort, with_id, spot_ids, token_ids, token_places, IsParsed}
use Rattle.zl_ast.specs.TreeLaws.{OneTree, Deeper, PlacesGrow, NamesKnown, ReadingIsExact, NoTreeAtAnyDepth, SomePlacesGrow, FaultsAreInside}
use Rattle.zl_ast.proofs.Sublists.{through}
use Rattle.zl_ast.proofs.TextTokens.{tokens_grow, tokens_known}
use Rattle.zl_ast.proofs.PassagesOfEquations.{decls_within}
use Rattle.zl_ast.proofs.AgreeingDeclarations.{one_tree_at, program_sound, program_complete}
use Rattle.zl_ast.proofs.Faults.{parse_fault, deep_fault}
use Rattle.zl_ast.proofs.Lift.{lift}
use Rattle.zl_ast.proofs.OneDeeperEquations.{parse_at_any_depth}

pub one_tree : OneTree
one_tree n m ts p q h k = one_tree_at (n + m) ts p.decls q.decls (lift n (n + m) ts p.decls (omega arith) h) (lift m (n + m) ts q.decls (omega arith) k)

pub deeper : Deeper
deeper n m ts p le h = lift n m ts p.decls le h

pub reading_is_exact : ReadingIsExact
reading_is_exact n ts ds = (program_sound n ts ds, program_complete n ts ds)

pub no_tree_at_any_depth : NoTreeAtAnyDepth
no_tree_at_any_depth n left ts e m ds h =
    let f = parse_at_any_depth m n ts left e in
    let g = program_complete (m + n) ts ds (lift m (m + n) ts ds (omega arith) h) in
    cc

-- ---- sublists

sublist_all : {A : Type 0} (P : A → Type 0) (xs ys : List A) → Sublist xs ys → AllByRecursion P ys → AllByRecursion P xs
sublist_all P _ _ end h = tt
sublist_all P _ _ (keep {xs = xs} {ys = ys} s) h = (h.0, sublist_all P xs ys s h.1)
sublist_all P _ _ (drop {xs = xs} {ys = ys} s) h = sublist_all P xs ys s h.1

sublist_grows : (ps qs : List Pos) → Sublist ps qs → Grow qs → Grow ps
sublist_grows _ _ end h = tt
sublist_grows _ _ (keep {x = p} {xs = ps} {ys = qs} s) h = (sublist_all (Before p) ps qs s h.0, sublist_grows ps qs s h.1)
sublist_grows _ _ (drop {xs = ps} {ys = qs} s) h = sublist_grows ps qs s h.1

sublist_map : {A B : Type 0} (f : A → B) (xs ys : List A) → Sublist xs ys → Sublist (map f xs) (map f ys)
sublist_map f _ _ end = end
sublist_map f _ _ (keep {xs = xs} {ys = ys} s) = keep (sublist_map f xs ys s)
sublist_map f _ _ (drop {xs = xs} {ys = ys} s) = drop (sublist_map f xs ys s)

either_way : (b : Bool) (xs ys zs : List Spot) → Sublist xs zs → Sublist ys zs → Sublist (if b then xs else ys) zs
either_way true xs ys zs h k = h
either_way false xs ys zs h k = k

of_sort_sublist : (s : Sort) (xs : List Spot) → Sublist (of_sort s xs) xs
of_sort_sublist s [] = end
of_sort_sublist s (x ∷ xs) = let h = of_sort_sublist s xs in either_way (same_sort s x.sort) _ _ (x ∷ xs) (keep h) (drop h)

append_none : {A : Type 0} (xs : List A) → xs ++ [] ≡ xs
append_none [] = refl
append_none (x ∷ xs) = ap (λ ys. x ∷ ys) (append_none xs)

-- the marks of a parsed tree are among those of its tokens
marks_kept : (p : Program) (h : IsParsed p) → Sublist (map spot_mark (spots p)) (map token_mark h.tokens)
marks_kept p h = subst (λ xs. Sublist xs (map token_mark h.tokens)) (append_none (map spot_mark (spots p))) (decls_within nesting_limit h.tokens p.decls h.is_program).is

abbrev mark_places : List Mark → List Pos
mark_places ms = map (λ m. m.at) ms

spot_mark_places : (xs : List Spot) → mark_places (map spot_mark xs) ≡ places xs
spot_mark_places [] = refl
spot_mark_places (x ∷ xs) = ap (λ ps. x.at ∷ ps) (spot_mark_places xs)

token_mark_places : (ts : List Token) → mark_places (map token_mark ts) ≡ token_places ts
token_mark_places [] = refl
token_mark_places (t ∷ ts) = ap (λ ps. t.at ∷ ps) (token_mark_places ts)

places_kept : (p : Program) (h : IsParsed p) → Sublist (places (spots p)) (token_places h.tokens)
places_kept p h =
    let a = spot_mark_places (spots p) in
    let b = token_mark_places h.tokens in
    subst (λ ps. Sublist ps (token_places h.tokens)) a (subst (λ qs. Sublist (mark_places (map spot_mark (spots p))) qs) b (sublist_map (λ m. m.at) _ _ (marks_kept p h)))

of_sort_grows : (s : Sort) (p : Program) (h : IsParsed p) → Grow (places (of_sort s (spots p)))
of_sort_grows s p h = sublist_grows _ _ (through (sublist_map (λ x. x.at) _ _ (of_sort_sublist s (spots p))) (places_kept p h)) (tokens_grow h.tokens h.end h.facts.in_order)

pub places_grow : PlacesGrow
places_grow p h = (sublist_grows _ _ (places_kept p h) (tokens_grow h.tokens h.end h.facts.in_order), of_sort_grows occurrence p h, of_sort_grows equation p h)

abbrev mark_ids : List Mark → List ℕ
mark_ids [] = []
mark_ids (m ∷ ms) = with_id m.id (mark_ids ms)

spot_mark_ids : (xs : List Spot) → mark_ids (map spot_mark xs) ≡ spot_ids xs
spot_mark_ids [] = refl
spot_mark_ids (x ∷ xs) = ap (with_id x.id) (spot_mark_ids xs)

token_mark_ids : (ts : List Token) → mark_ids (map token_mark ts) ≡ token_ids ts
token_mark_ids [] = refl
token_mark_ids (t ∷ ts) = ap (with_id (id_of t.kind)) (token_mark_ids ts)

with_id_keep : (o : Option ℕ) (xs ys : List ℕ) → Sublist xs ys → Sublist (with_id o xs) (with_id o ys)
with_id_keep None xs ys s = s
with_id_keep (Some id) xs ys s = keep s

with_id_drop : (o : Option ℕ) (xs ys : List ℕ) → Sublist xs ys → Sublist xs (with_id o ys)
with_id_drop None xs ys s = s
with_id_drop (Some id) xs ys s = drop s

ids_kept : (xs ys : List Mark) → Sublist xs ys → Sublist (mark_ids xs) (mark_ids ys)
ids_kept _ _ end = end
ids_kept _ _ (keep {x = m} {xs = xs} {ys = ys} s) = with_id_keep m.id _ _ (ids_kept xs ys s)
ids_kept _ _ (drop {y = m} {xs = xs} {ys = ys} s) = with_id_drop m.id _ _ (ids_kept xs ys s)

pub names_known : NamesKnown
names_known p h =
    let s = ids_kept _ _ (marks_kept p h) in
    let a = spot_mark_ids (spots p) in
    let b = token_mark_ids h.tokens in
    let k : Sublist (spot_ids (spots p)) (token_ids h.tokens) = subst (λ xs. Sublist xs (token_ids h.tokens)) a (subst (λ ys. Sublist (mark_ids (map spot_mark (spots p))) ys) b s) in
    sublist_all (λ id. id < length p.names) _ _ k (tokens_known (length p.names) h.tokens h.facts.kinds)

pub some_places_grow : SomePlacesGrow
some_places_grow = sublist_grows

pub faults_are_inside : FaultsAreInside
faults_are_inside n left ts = (parse_fault n left ts, deep_fault n left ts)
