-- The variables of a declaration are the first mentions of their names, and have their numbers in a copy.
use Rattle.std.proofs.Common.{◌≡◌, ℕ, suc, ◌+◌, Bool, true, false, ◌&&◌, if◌then◌else◌, List, [], ◌∷◌, ◌++◌, map, length, Option, refl, sym, ap, subst, ◌∙◌, arith}
use Rattle.std.specs.List.{AllByRecursion}
use Rattle.std.proofs.lemmas.List.{map-append}
use Rattle.zl_value.specs.declared.position.Pos.{Pos}
use Rattle.zl_value.specs.declared.value.Ty.{Ty}
use Rattle.zl_ast.specs.declared.scope.VarInfo.{VarInfo}
use Rattle.zl_ast.specs.declared.scope.VarClass.TheVariants as class
use Rattle.zl_ast.specs.declared.eqn.Eqn.{Eqn}
use Rattle.zl_ast.specs.declared.program.Decl.{Decl}
use Rattle.zl_ast.specs.declared.program.Param.{Param}
use Rattle.zl_ast.specs.Names.{among, with_id, with_ids}
use Rattle.zl_ast.specs.NamesDefined.{is_defined, list_from, eqn_outline, eqns_outline}
use Rattle.zl_ast.specs.Scopes as scope
use Rattle.zl_ast.specs.Scopes.{param_ids, first_entries, parameter}
use Rattle.zl_ast.specs.Spots.{Spot, all_spots, expr_spots, eqn_spots, param_spots, decl_spots, Sublist, end, keep, drop}
use Rattle.zl_ast.specs.Parsed.{Before, Grow, places}
use Rattle.zl_flat.specs.declared.size.Size.{Size}
use Rattle.zl_flat.specs.Variables.{variables}
use Rattle.zl_flat.specs.Sizes.{exprs_size, eqns_size}
use Rattle.zl_flat.specs.Numbering as number
use Rattle.zl_flat.specs.Numbering.{Numbering, eqn_numbering, decl_numbering}
use Rattle.zl_flat.proofs.WellFormedMentions as mention
use Rattle.zl_flat.proofs.WellFormedMentions.{Mention, Mentioning, eqn_mentions, firsts, numbers, as_entry, as_entries, places_in_text}
use Rattle.zl_flat.proofs.WellFormedNumbering.{sub-same, sub-none, sub-both, sub-through, AllFollow, follows-both, follows-none, eqn-follows}
use Rattle.zl_flat.proofs.WellFormedFirsts.{Distinct, Apart, sub-grows, later-differ, firsts-are, HasNumber, have-numbers}

-- the mentions in equations
abbrev pub eqns_mentions : List VarInfo → (ℕ → Option Size) → List Eqn → Mentioning
eqns_mentions vars known es = mention.in_turn (map (eqn_mentions vars known) es)

-- the parameters, each with its place; the first has this one
abbrev pub param_mentions : ℕ → List Param → List Mention
param_mentions n [] = []
param_mentions n (p ∷ ps) = record { name = p.name; class = class.Param; number = n } ∷ param_mentions (n + 1) ps

-- the number of the next place where a declaration's equations begin
abbrev pub behind_results : List VarInfo → (ℕ → Option Size) → Decl → ℕ → ℕ
behind_results vars known d n = n + length d.params + (exprs_size vars known d.results).places

-- the first mention of each variable
abbrev pub own_mentions : List VarInfo → (ℕ → Option Size) → Decl → ℕ → List Mention
own_mentions vars known d n = param_mentions n d.params ++ firsts vars (eqns_mentions vars known d.eqs (behind_results vars known d n)).all

-- the mentions in equations one behind the other
pub eqns-follow : (vars : List VarInfo) (known : ℕ → Option Size) (valued started : List ℕ) (es : List Eqn) →
    AllFollow vars (eqns_mentions vars known es) (number.in_turn (map (eqn_numbering vars known) es)) (eqns_size vars known es) (list_from valued started (map eqn_outline es)).entries (all_spots eqn_spots es)
eqns-follow vars known valued started [] n = follows-none vars n
eqns-follow vars known valued started (e ∷ es) n = follows-both vars (eqn-follows vars known e) (eqns-follow vars known (with_ids valued (eqn_outline e).valued) (with_ids started (eqn_outline e).started) es) n

-- ---- numbers

params-own : (n : ℕ) (ps : List Param) → (number.in_turn (map (λ (p : Param). number.a_variable) ps) n).own ≡ numbers (param_mentions n ps)
params-own n [] = refl
params-own n (p ∷ ps) = ap (λ xs. n ∷ xs) (params-own (n + 1) ps)

params-next : (n : ℕ) (ps : List Param) → (number.in_turn (map (λ (p : Param). number.a_variable) ps) n).next ≡ n + length ps
params-next n [] = omega arith
params-next n (p ∷ ps) = let e = params-next (n + 1) ps in e ∙ one_more n (length ps)
  where
    one_more : (n m : ℕ) → n + 1 + m ≡ n + suc m
    one_more n m = omega arith

-- the numbers of a declaration's variables are those of the first mentions
pub decl-own : (vars : List VarInfo) (known : ℕ → Option Size) (d : Decl) (n : ℕ) → (decl_numbering vars known d n).own ≡ numbers (own_mentions vars known d n)
unfolding decl_numbering
decl-own vars known d n =
    let params = number.in_turn (map (λ (p : Param). number.a_variable) d.params) n in
    let eqs = number.in_turn (map (eqn_numbering vars known) d.eqs) in
    let m = behind_results vars known d n in
    let own = (eqns-follow vars known [] [] d.eqs m).own in
    let same = ap (λ t. (eqs (t + (exprs_size vars known d.results).places)).own) (params-next n d.params) in
    ap (λ xs. xs ++ (eqs (params.next + (exprs_size vars known d.results).places)).own) (params-own n d.params) ∙
    (ap (λ xs. numbers (param_mentions n d.params) ++ xs) (same ∙ own) ∙ sym (map-append (λ (x : Mention). x.number) (param_mentions n d.params) (firsts vars (eqns_mentions vars known d.eqs m).all)))

-- ---- variables

first-entries-sub : (seen : List ℕ) (vs : List VarInfo) → Sublist (first_entries seen vs) vs
first-entries-sub seen [] = end
first-entries-sub seen (v ∷ vs) = by_seen (is_defined v && among seen v.name) (first-entries-sub (if is_defined v then with_id seen v.name else seen) vs)
  where
    by_seen : (b : Bool) {xs : List VarInfo} → Sublist xs vs → Sublist ((if b then [] else v ∷ []) ++ xs) (v ∷ vs)
    by_seen true s = drop s
    by_seen false s = keep s

param-entries : (n : ℕ) (ps : List Param) → as_entries (param_mentions n ps) ≡ map parameter ps
param-entries n [] = refl
param-entries n (p ∷ ps) = ap (λ xs. parameter p ∷ xs) (param-entries (n + 1) ps)

abbrev param_places : List Param → List Pos
param_places ps = map (λ (p : Param). p.name.at) ps

params-in-text : (ps : List Param) → places (all_spots param_spots ps) ≡ param_places ps
params-in-text [] = refl
params-in-text (p ∷ ps) = ap (λ xs. p.name.at ∷ xs) (params-in-text ps)

params-apart : (ps : List Param) (ms : List Mention) → Grow (param_places ps ++ places_in_text ms) → Apart (map parameter ps) ms × Grow (places_in_text ms)
params-apart [] ms g = (tt, g)
params-apart (p ∷ ps) ms g = let rest = params-apart ps ms g.1 in ((later-differ p.name.at ms (behind ps g.0), rest.0), rest.1)
  where
    behind : (qs : List Param) → AllByRecursion (Before p.name.at) (param_places qs ++ places_in_text ms) → AllByRecursion (Before p.name.at) (places_in_text ms)
    behind [] h = h
    behind (q ∷ qs) h = behind qs h.1

-- parameters and what equations mention stand in the order of the text
in-order : (d : Decl) (ms : List Mention) → Sublist (places_in_text ms) (places (all_spots eqn_spots d.eqs)) → Grow (places (decl_spots d)) → Grow (param_places d.params ++ places_in_text ms)
in-order d ms s g =
    let params = all_spots param_spots d.params in
    let results = all_spots expr_spots d.results in
    let eqs = all_spots eqn_spots d.eqs in
    let split = map-append (λ (x : Spot). x.at) params (results ++ eqs) ∙ ap (λ xs. places params ++ xs) (map-append (λ (x : Spot). x.at) results eqs) in
    let all = subst Grow split g.1 in
    sub-grows (sub-both (subst (λ xs. Sublist (param_places d.params) xs) (sym (params-in-text d.params)) (sub-same (param_places d.params))) (sub-both (sub-none (places results)) s)) all

-- the first mentions are the variables, one by one
pub decl-entries : (vars : List VarInfo) (known : ℕ → Option Size) (d : Decl) (n : ℕ) → vars ≡ scope.variables d → Distinct vars → Grow (places (decl_spots d)) → as_entries (own_mentions vars known d n) ≡ vars
unfolding scope.variables
decl-entries vars known d n e distinct grow =
    let all = eqns_mentions vars known d.eqs (behind_results vars known d n) in
    let follows = eqns-follow vars known [] [] d.eqs (behind_results vars known d n) in
    let own = first_entries (with_ids [] (param_ids d.params)) (eqns_outline d.eqs).entries in
    let apart = params-apart d.params all.all (in-order d all.all follows.in_text grow) in
    let first = firsts-are vars (map parameter d.params) own all.all e (sub-through (first-entries-sub (with_ids [] (param_ids d.params)) (eqns_outline d.eqs).entries) follows.entries) apart.0 apart.1 distinct in
    map-append as_entry (param_mentions n d.params) (firsts vars all.all) ∙ (ap (λ xs. xs ++ as_entries (firsts vars all.all)) (param-entries n d.params) ∙ (ap (λ xs. map parameter d.params ++ xs) first ∙ sym e))

-- as many as were mapped
pub length-map : {A B : Type 0} (f : A → B) (xs : List A) → length (map f xs) ≡ length xs
length-map f [] = refl
length-map f (x ∷ xs) = ap suc (length-map f xs)

-- each variable has one place
pub one-place-each : (vars : List VarInfo) (known : ℕ → Option Size) (d : Decl) (n : ℕ) → vars ≡ scope.variables d → Distinct vars → Grow (places (decl_spots d)) → length (decl_numbering vars known d n).own ≡ length vars
one-place-each vars known d n e distinct grow =
    let ms = own_mentions vars known d n in
    ap length (decl-own vars known d n) ∙ (length-map (λ (m : Mention). m.number) ms ∙ (sym (length-map as_entry ms) ∙ ap length (decl-entries vars known d n e distinct grow)))

-- each variable has the place of its first mention
pub decl-numbers : (vars : List VarInfo) (types : List Ty) (known : ℕ → Option Size) (d : Decl) (n : ℕ) → vars ≡ scope.variables d → Distinct vars → Grow (places (decl_spots d)) → length types ≡ length vars →
    AllByRecursion (λ (m : Mention). HasNumber (variables vars types (decl_numbering vars known d n).own) m.name.id m.number) (own_mentions vars known d n)
decl-numbers vars types known d n e distinct grow count =
    let ms = own_mentions vars known d n in
    let same = decl-entries vars known d n e distinct grow in
    subst (λ ks. AllByRecursion (λ (m : Mention). HasNumber (variables vars types ks) m.name.id m.number) ms) (sym (decl-own vars known d n))
    (subst (λ vs. AllByRecursion (λ (m : Mention). HasNumber (variables vs types (numbers ms)) m.name.id m.number) ms) same
    (have-numbers ms types (count ∙ sym (ap length same)) (subst Distinct (sym same) distinct)))
