-- What `main` expands to uses each of its occurrences at most once, where no rule of names is broken.
use Rattle.std.proofs.Common.{◌≡◌, ℕ, ◌+◌, ◌≤◌, List, [], ◌∷◌, map, Option, Some, None, refl, arith}
use Rattle.std.specs.List.{AllByRecursion}
use Rattle.zl_ast.specs.declared.program.Decl.{Decl}
use Rattle.zl_ast.specs.declared.program.Param.{Param}
use Rattle.zl_ast.specs.NamesRules.{built_in}
use Rattle.zl_flat.specs.declared.here.Here.{Here}
use Rattle.zl_flat.specs.declared.here.Root.{Root}
use Rattle.zl_flat.specs.declared.given.Given.{Given}
use Rattle.zl_flat.specs.Operators.{value_type}
use Rattle.zl_flat.specs.Parts.{Parts, Counters, joined, some_places, some_definers, after, past_block, start}
use Rattle.zl_flat.specs.Instances.{Instance}
use Rattle.zl_flat.specs.Expressions.{Walk, expr_walk, exprs_walk}
use Rattle.zl_flat.specs.Equations.{eqn_walk, eqns_walk}
use Rattle.zl_flat.specs.Expansion.{found, with_callees, argument_definers, input_definers, param_place, body_copy, instance, decl_copy, main_here, main_block, main_parts, MainOf, sizes_of, main_size}
use Rattle.zl_flat.proofs.WellFormedDecls.{known_after, IsMainKept}
use Rattle.zl_flat.proofs.WellFormedParts.{Each}
use Rattle.zl_flat.proofs.UsesCount.{total, in_roots, in_kind, in_moves, in_given, count, owned}
use Rattle.zl_flat.proofs.UsesBalance.{Owes, paying, relax, owes-joined, owes-some_places, owes-some_definers, owes-block}
use Rattle.zl_flat.proofs.UsesExprs.{WalkOwes, LinkOwes, CopyOwes, walk_all-owes, leaf-owes, chain-owes, built_in-owes, prefixed-owes, link-owes, conditional-owes, flow-owes, call-owes}
use Rattle.zl_flat.proofs.UsesEqns.{IsResetWalk, IsMoveWalk, IsStart, IsOther, in_turn-owes, crossing-owes, event-owes, tested-owes, plain-owes, der-owes, init-owes, reset-owes, arm-owes, present-owes, state-owes, automaton-owes, body-owes}
use Rattle.zl_flat.proofs.UsesExprTrees.{Kinds, Copied, OfForms}
use Rattle.zl_flat.proofs.UsesEqnTrees.{EqnKinds, OfStart, OfOther, OfReset, OfMove, OfEquations}
use Rattle.zl_flat.proofs.UsesDecls.{roots-length, inside-of, OfDecl, decl-holds, nothing-known, has-calls, no_facts, all-facts, Copies, callees-hold}
use Rattle.zl_flat.specs.Equations.{Making, ResetWalk, MoveWalk}

module _ (v w : ℕ → ℕ) (base : ℕ) (le : (n : ℕ) → w n ≤ v n) where
  -- what is shown of expressions
  abbrev owing_exprs : Kinds
  owing_exprs = record { walked = λ here s e. WalkOwes v w base s e; linked = λ here left s e. LinkOwes v w base left s e }

  -- what is shown of copies
  abbrev owing_copies : Copied
  owing_copies here roots s c = CopyOwes v w base roots s c

  -- what is shown of equations
  abbrev owing : EqnKinds
  owing = record {
    exprs = owing_exprs;
    made = λ here s p. Owes v w base 0 0 s p;
    tested = λ here s t. Owes v w base 0 (v t.test) s t.parts;
    crossed = λ here s t. Owes v w base 0 (v t.test) s t.parts;
    armed = λ of number here s t. Owes v w base 0 (v t.test) s t.parts;
    stated = λ of number states here s m. Owes v w base 0 (in_moves v m.moves) s m.parts;
  }

  module _ (names : List (List ℕ)) where
    -- it holds of each form of expression
    forms-owe : (i : Instance) → OfForms owing_exprs owing_copies base names i
    forms-owe i = record {
      literal = λ x at here s. leaf-owes v w base le (value_type x) at _ refl here s;
      reading = λ x name is here s. leaf-owes v w base le x.ty name.at _ refl here s;
      lasting = λ x name at is here s. leaf-owes v w base le x.ty at _ refl here s;
      building = λ op at args hs here s. built_in-owes v w base le names i op at args hs here s;
      calling = λ x args c is hc hs here s. call-owes v w base le names i x args c is hc hs here s;
      prefixing = λ op at x hx here s. prefixed-owes v w base le names i op at x hx here s;
      chaining = λ x ls hx hls here s. chain-owes v w base le x ls hx hls here s;
      linking = λ l hx here left s. link-owes v w base le l.op l.at l.arg hx here left s;
      flowing = λ op at x y hx hy here s. flow-owes v w base le names i op at x y hx hy here s;
      choosing = λ at c x y hc hx hy here s. conditional-owes v w base le names i at c x y hc hx hy here s;
    }

    -- reset arms of which it holds
    resets-too : (rs : List ResetWalk) → AllByRecursion (OfReset owing) rs → AllByRecursion (IsResetWalk v w base) rs
    resets-too [] h = tt
    resets-too (r ∷ rs) h = let a = h.0 in (record { event = a.event; value = a.value }, resets-too rs h.1)

    -- moves of which it holds
    moves-too : (i : Instance) (ms : List MoveWalk) → AllByRecursion (OfMove owing) ms → AllByRecursion (IsMoveWalk v w base names i) ms
    moves-too i [] h = tt
    moves-too i (m ∷ ms) h = let a = h.0 in (record { test = a.test }, moves-too i ms h.1)

    -- an `init` value of which it holds
    start-too : (i : Instance) (start : Option Walk) → OfStart owing start → IsStart v w base names i start
    start-too i None h = tt
    start-too i (Some x) h = h

    -- an `else` body of which it holds
    other-too : (i : Instance) (other : Option Making) → OfOther owing other → IsOther v w base names i other
    other-too i None h = tt
    other-too i (Some b) h = h

    -- it holds of each form of equation
    equations-owe : (i : Instance) → OfEquations owing base names i
    equations-owe i = record {
      crossing = λ at x hx here s. crossing-owes v w base names i at x hx here s;
      event = λ at ts hs here s. event-owes v w base names i at ts hs here s;
      testing = λ x hx here s. tested-owes v w base names i x hx here s;
      plain = λ left right known hr here s. plain-owes v w base names i le left right hr here s;
      der = λ x slope start resets known hslope hstart hresets here s. der-owes v w base names i x slope start resets hslope (start-too i start hstart) (resets-too resets hresets) here s;
      init = λ x value known hr here s. init-owes v w base names i x value hr here s;
      present = λ arms other ha ho here s. present-owes v w base names i arms other ha (other-too i other ho) here s;
      arm = λ c body hc hb of number here s. arm-owes v w base names i c body hc hb of number here s;
      automaton = λ states hs here s. automaton-owes v w base names i states hs here s;
      state = λ name body moves hb hm of number states here s. state-owes v w base names i name body moves hb (moves-too i moves hm) of number states here s;
      reset = λ eqs c heqs hc here s. reset-owes v w base names i eqs c heqs hc here s;
      body = λ locals eqs known hs here s. body-owes v w base names i locals eqs hs here s;
    }

    -- a copy of a body pays for its parameters' definers by what is free before it
    body_copy-owes : (i : Instance) (d : Decl) (definers : List Given) → OfDecl owing base names i d → (here : Here) (s : Counters) →
        Owes v w base (total (in_given v w) definers) (in_roots v (body_copy base names i d definers here s).results) s (body_copy base names i d definers here s).parts
    body_copy-owes i d definers h here s =
        let places = some_places (map (param_place i here) d.params) in
        let params = joined places (some_definers definers) in
        let needs = total (in_given v w) definers in
        let t = after s params in
        let results = exprs_walk base names i d.results here t in
        let gives = in_roots v results.roots in
        let u = after t results.parts in
        let eqs = eqns_walk base names i d.eqs here u in
        let a = owes-joined v w base 0 0 (needs + 0) 0 s places (some_definers definers) (owes-some_places v w base 0 s (map (param_place i here) d.params)) (owes-some_definers v w base 0 (after s places) definers) in
        let b = owes-joined v w base 0 gives 0 0 t results.parts eqs (walk_all-owes v w base (map (expr_walk base names i) d.results) h.results here t) (in_turn-owes v w base (map (eqn_walk base names i) d.eqs) h.equations here u) in
        relax v w base (0 + (needs + 0) + (0 + 0)) (0 + 0 + (gives + 0)) needs gives s (joined params (joined results.parts eqs)) (omega arith)
        (owes-joined v w base (0 + (needs + 0)) (0 + 0) (0 + 0) (gives + 0) s params (joined results.parts eqs) a b)

    -- the definers of parameters use no more than the arguments
    in-arguments : (here : Here) (n : ℕ) (ps : List Param) (rs : List Root) → total (in_given v w) (argument_definers here n ps rs) ≤ in_roots w rs
    in-arguments here n [] rs = omega arith
    in-arguments here n (p ∷ ps) [] = omega arith
    in-arguments here n (p ∷ ps) (r ∷ rs) = let e = in-arguments here (n + 1) ps rs in omega (arith, e)

    -- an input uses nothing
    in-inputs : (n : ℕ) (ps : List Param) → total (in_given v w) (input_definers n ps) ≡ 0
    in-inputs n [] = refl
    in-inputs n (p ∷ ps) = let e = in-inputs (n + 1) ps in omega (arith, e)

    -- it holds of the copy of each declaration
    copies-owe : Copies owing_copies no_facts base names
    unfolding decl_copy
    copies-owe cs sizes d kn counted kept more all known here roots s =
        let i = instance base names (found cs) sizes d here.block s.places in
        let a = inside-of base names (found cs) sizes d here.block s.places kn counted kept in
        let h = decl-holds owing owing_copies base names i kn d.decl (forms-owe i) (equations-owe i) (has-calls owing_copies names cs i kn refl all known) a in
        let definers = argument_definers here s.places d.decl.params roots in
        let copy = body_copy base names i d.decl definers here s in
        let needs = total (in_given v w) definers in
        let less = in-arguments here s.places d.decl.params roots in
        let count = roots-length base names d.decl.results i here (after s (joined (some_places (map (param_place i here) d.decl.params)) (some_definers definers))) in
        let some = counted.some in
        record { some = omega (arith, count, some); parts = relax v w base needs (in_roots v copy.results) (in_roots w roots) (in_roots v copy.results) s copy.parts (omega (arith, less)) (body_copy-owes i d.decl definers h here s) }

-- what `main` expands to, where its occurrences that have a token are counted by `main_size`
abbrev pub parts_of : List (List ℕ) → MainOf → Parts
parts_of names m = main_parts (main_size m).occs names (found (with_callees (main_size m).occs names [] [] m.before)) (sizes_of m) m.main

-- what is used in what `main` expands to weighs no more than its occurrences do
pub main-owes : (v w : ℕ → ℕ) → ((n : ℕ) → w n ≤ v n) → (names : List (List ℕ)) (m : MainOf) → IsMainKept names m → Each (paying v w) start (parts_of names m) →
    count v w (parts_of names m) ≤ owned v (main_size m).occs start (parts_of names m)
unfolding main_parts
main-owes v w le names m kept pays =
    let base = (main_size m).occs in
    let cs = with_callees base names [] [] m.before in
    let sizes = sizes_of m in
    let d = m.main.decl in
    let i = instance base names (found cs) sizes m.main 0 0 in
    let here = main_here base names d in
    let r = owing_copies v w base le in
    let callees = callees-hold r no_facts base names (copies-owe v w base le names) [] [] (built_in names) m.before tt (nothing-known names) kept.counted kept.before (all-facts base names [] [] m.before) in
    let kn = known_after (built_in names) m.before in
    let a = inside-of base names (found cs) sizes m.main 0 0 kn kept.counted_main kept.main in
    let h = decl-holds (owing v w base le) r base names i kn d (forms-owe v w base le names i) (equations-owe v w base le names i) (has-calls r names cs i kn refl callees.0 callees.1) a in
    let definers = input_definers 0 d.params in
    let copy = body_copy base names i d definers here (past_block start) in
    let needs = total (in_given v w) definers in
    let none = in-inputs v w base le names 0 d.params in
    let own = main_block base names d in
    let c = owes-block v w base 0 0 start own copy.parts
    (relax v w base needs (in_roots v copy.results) 0 (in_kind v own.kind + 0) (past_block start) copy.parts (omega (arith, none)) (body_copy-owes v w base le names i d definers h here (past_block start))) pays in
    omega (arith, c)
