-- A violation of the rules of names is of one of the eight.
use Rattle.std.proofs.Common.{◌≡◌, ℕ, Bool, true, false, not, cond, nat_eq, List, [], ◌∷◌, ◌++◌, map, filter, Some, None, refl, sym, ◌∙◌, ap, subst, arith}
use Rattle.std.specs.List.{AllByRecursion, Contains}
use Rattle.zl_value.specs.declared.position.Pos.{Pos}
use Rattle.zl_value.specs.declared.rule.Refusal.{Refusal}
use Rattle.zl_value.specs.declared.rule.Refusal.TheVariants.{Broken, Memory}
use Rattle.zl_value.specs.declared.rule.Rule.{Rule}
use Rattle.zl_value.specs.declared.rule.Rule.TheVariants as rule
use Rattle.zl_ast.specs.declared.expr.Expr.{Expr}
use Rattle.zl_ast.specs.declared.eqn.Eqn.{Eqn, roll-Eqn}
use Rattle.zl_ast.specs.declared.eqn.Arm.{Arm, roll-Arm}
use Rattle.zl_ast.specs.declared.eqn.Body.{Body, roll-Body}
use Rattle.zl_ast.specs.declared.eqn.State.{State, roll-State}
use Rattle.zl_ast.specs.declared.eqn.Eqn.TheOpen.{Eqn-F, Body-F}
use Rattle.zl_ast.specs.declared.eqn.Eqn.TheOpen as open_eqn
use Rattle.zl_ast.specs.declared.eqn.Eqn.TheFolds.{fold-roll-Eqn, fold-roll-Arm, fold-roll-Body, fold-roll-State, ind-Eqn, map-Eqn, map-Arm, map-Body, map-State}
use Rattle.zl_ast.specs.declared.program.Decl.{Decl}
use Rattle.zl_ast.specs.declared.program.Program.{Program}
use Rattle.zl_ast.specs.Names.{Violation, broken_if, with_ids, ids_of, is_main, repeats, strangers}
use Rattle.zl_ast.specs.NamesDefined as defined
use Rattle.zl_ast.specs.NamesDefined.{Outline, StateOutline, first_places, with_defined, together, clashing, list_from, states_among, state_names, eqn_outline, arm_outline, body_outline, state_outline, eqns_outline}
use Rattle.zl_ast.specs.NamesUsed.{Known, values_uses, eqns_uses}
use Rattle.zl_ast.specs.NamesRules.{turn, twice, is_variable, place_of, results_broken, main_broken, has_main, is_hybrid, is_declared, with_visible, variables_broken, uses_broken, inside_of, declared_with, decls_broken, built_in, violations, violations_of, IsRefusedAt, IsRefusedBy}
use Rattle.zl_ast.specs.Scopes.{param_ids, variables}
use Rattle.zl_compile.specs.FirstBroken.{IsFirstBroken, IsBrokenBy}
use Rattle.zl_compile.proofs.RuledUses.{IsOfNames, AllOfNames, one_if, joined, more, each, every, repeats_of_names, strangers_of_names, first_places_of_names, twice_of_names, values_of_names, eqns_uses_of_names}

-- ---- outlines

abbrev OutlineOfNames : Outline → Type 0
OutlineOfNames o = AllOfNames o.broken

together_of_names : (os : List Outline) → AllByRecursion OutlineOfNames os → OutlineOfNames (together os)
together_of_names [] h = tt
together_of_names (o ∷ os) h = joined o.broken (together os).broken h.0 (together_of_names os h.1)

list_of_names : (valued started : List ℕ) (os : List Outline) → AllByRecursion OutlineOfNames os → OutlineOfNames (list_from valued started os)
list_of_names valued started [] h = tt
list_of_names valued started (o ∷ os) h =
    let here = first_places (clashing valued started o) [] o.entries in
    let later = list_from (with_ids valued o.valued) (with_ids started o.started) os in
    joined (o.broken ++ here) later.broken (joined o.broken here h.0 (first_places_of_names (clashing valued started o) [] o.entries))
    (list_of_names (with_ids valued o.valued) (with_ids started o.started) os h.1)

abbrev StateOutlineOfNames : StateOutline → Type 0
StateOutlineOfNames s = OutlineOfNames s.outline

states_of_names : (ids : List ℕ) (ss : List StateOutline) → AllByRecursion StateOutlineOfNames ss → OutlineOfNames (states_among ids ss)
states_of_names ids [] h = tt
states_of_names ids (s ∷ ss) h =
    let here = strangers rule.Branch ids s.targets in
    joined (here ++ s.outline.broken) (states_among ids ss).broken
    (joined here s.outline.broken (strangers_of_names rule.Branch ids s.targets tt) h.0) (states_of_names ids ss h.1)

abbrev EqnOfNames : Eqn → Type 0
EqnOfNames e = OutlineOfNames (eqn_outline e)

abbrev ArmOfNames : Arm → Type 0
ArmOfNames a = OutlineOfNames (arm_outline a)

abbrev BodyOfNames : Body → Type 0
BodyOfNames b = OutlineOfNames (body_outline b)

abbrev StateOfNames : State → Type 0
StateOfNames s = StateOutlineOfNames (state_outline s)

-- what is known of the parts of an equation
abbrev AnEqn : Type 0
AnEqn = (e : Eqn) × EqnOfNames e

abbrev AnArm : Type 0
AnArm = (a : Arm) × ArmOfNames a

abbrev ABody : Type 0
ABody = (b : Body) × BodyOfNames b

abbrev AState : Type 0
AState = (s : State) × StateOfNames s

outline_layer : (e : Eqn-F AnEqn AnArm ABody AState) → OutlineOfNames (defined.eqn_step (map-Eqn Eqn Arm Body State Outline Outline Outline StateOutline eqn_outline arm_outline body_outline state_outline (map-Eqn AnEqn AnArm ABody AState Eqn Arm Body State (λ e. e.0) (λ a. a.0) (λ b. b.0) (λ s. s.0) e)))
outline_layer (open_eqn.Plain left right) = repeats_of_names rule.DefinedTwice [] left tt
outline_layer (open_eqn.Der at x slope start resets) = tt
outline_layer (open_eqn.Start at x value) = tt
outline_layer (open_eqn.Present at arms None) =
    joined (together (map arm_outline (map (λ a. a.0) arms))).broken [] (together_of_names (map arm_outline (map (λ a. a.0) arms)) (each OutlineOfNames arm_outline arms)) tt
outline_layer (open_eqn.Present at arms (Some b)) =
    joined (together (map arm_outline (map (λ a. a.0) arms))).broken (body_outline b.0).broken (together_of_names (map arm_outline (map (λ a. a.0) arms)) (each OutlineOfNames arm_outline arms)) b.1
outline_layer (open_eqn.Automaton at states) =
    let ss = map state_outline (map (λ s. s.0) states) in
    let ids = with_ids [] (ids_of (state_names ss)) in
    joined (repeats rule.Branch [] (state_names ss)) (states_among ids ss).broken (repeats_of_names rule.Branch [] (state_names ss) tt)
    (states_of_names ids ss (each StateOutlineOfNames state_outline states))
outline_layer (open_eqn.Reset at eqs c) = list_of_names [] [] (map eqn_outline (map (λ e. e.0) eqs)) (each OutlineOfNames eqn_outline eqs)

body_outline_layer : (b : Body-F AnEqn AnArm ABody AState) → OutlineOfNames (defined.body_step (map-Body Eqn Arm Body State Outline Outline Outline StateOutline eqn_outline arm_outline body_outline state_outline (map-Body AnEqn AnArm ABody AState Eqn Arm Body State (λ e. e.0) (λ a. a.0) (λ b. b.0) (λ s. s.0) b)))
body_outline_layer b =
    let inner = list_from [] [] (map eqn_outline (map (λ e. e.0) b.eqs)) in
    joined inner.broken (strangers rule.Undefined (with_defined [] inner.entries) b.locals) (list_of_names [] [] (map eqn_outline (map (λ e. e.0) b.eqs)) (each OutlineOfNames eqn_outline b.eqs))
    (strangers_of_names rule.Undefined (with_defined [] inner.entries) b.locals tt)

eqn_of_names : (e : Eqn) → EqnOfNames e
unfolding eqn_outline arm_outline body_outline state_outline
eqn_of_names = ind-Eqn EqnOfNames ArmOfNames BodyOfNames StateOfNames
    (λ x y is.
    subst (λ z. EqnOfNames (roll-Eqn z)) is
    (subst OutlineOfNames (sym (fold-roll-Eqn Outline Outline Outline StateOutline defined.eqn_step defined.arm_step defined.body_step defined.state_step (map-Eqn AnEqn AnArm ABody AState Eqn Arm Body State (λ e. e.0) (λ a. a.0) (λ b. b.0) (λ s. s.0) y)))
    (outline_layer y)))
    (λ x y is.
    subst (λ z. ArmOfNames (roll-Arm z)) is
    (subst OutlineOfNames (sym (fold-roll-Arm Outline Outline Outline StateOutline defined.eqn_step defined.arm_step defined.body_step defined.state_step (map-Arm AnEqn AnArm ABody AState Eqn Arm Body State (λ e. e.0) (λ a. a.0) (λ b. b.0) (λ s. s.0) y)))
    y.body.1))
    (λ x y is.
    subst (λ z. BodyOfNames (roll-Body z)) is
    (subst OutlineOfNames (sym (fold-roll-Body Outline Outline Outline StateOutline defined.eqn_step defined.arm_step defined.body_step defined.state_step (map-Body AnEqn AnArm ABody AState Eqn Arm Body State (λ e. e.0) (λ a. a.0) (λ b. b.0) (λ s. s.0) y)))
    (body_outline_layer y)))
    (λ x y is.
    subst (λ z. StateOfNames (roll-State z)) is
    (subst StateOutlineOfNames (sym (fold-roll-State Outline Outline Outline StateOutline defined.eqn_step defined.arm_step defined.body_step defined.state_step (map-State AnEqn AnArm ABody AState Eqn Arm Body State (λ e. e.0) (λ a. a.0) (λ b. b.0) (λ s. s.0) y)))
    y.body.1))

-- ---- declarations

results_of_names : (visible : List ℕ) (xs : List Expr) → AllOfNames (results_broken visible xs)
results_of_names visible [] = tt
results_of_names visible (x ∷ xs) = more (not (is_variable visible x)) rule.Main (place_of x) (results_broken visible xs) tt (results_of_names visible xs)

main_of_names : (visible : List ℕ) (d : Decl) → AllOfNames (main_broken visible d)
main_of_names visible d = more (not (is_hybrid d.kind)) rule.Main d.name.at (results_broken visible d.results) tt (results_of_names visible d.results)

if_main_of_names : (b : Bool) (visible : List ℕ) (d : Decl) → AllOfNames (cond b (main_broken visible d) [])
if_main_of_names true visible d = main_of_names visible d
if_main_of_names false visible d = tt

variables_of_names : (k : Known) (d : Decl) → AllOfNames (variables_broken k d)
unfolding variables_broken
variables_of_names k d =
    let outline = eqns_outline d.eqs in
    let places = first_places (with_ids [] (param_ids d.params)) [] outline.entries in
    let two = twice k.constants [] (variables d) in
    more (is_declared k d.name.id) rule.NameTwice d.name.at (outline.broken ++ (places ++ two)) tt
    (joined outline.broken (places ++ two) (list_of_names [] [] (map eqn_outline d.eqs) (every OutlineOfNames eqn_outline eqn_of_names d.eqs))
    (joined places two (first_places_of_names (with_ids [] (param_ids d.params)) [] outline.entries) (twice_of_names k.constants [] (variables d))))

uses_of_names : (names : List (List ℕ)) (k : Known) (d : Decl) → AllOfNames (uses_broken names k d)
unfolding uses_broken
uses_of_names names k d =
    let visible = with_visible [] (variables d) in
    let main = cond (is_main names d.name.id) (main_broken visible d) [] in
    joined (values_uses k d.results visible) (eqns_uses k d.eqs visible ++ main) (values_of_names k d.results visible)
    (joined (eqns_uses k d.eqs visible) main (eqns_uses_of_names k d.eqs visible) (if_main_of_names (is_main names d.name.id) visible d))

decls_of_names : (names : List (List ℕ)) (k : Known) (ds : List Decl) → AllOfNames (decls_broken names k ds)
decls_of_names names k [] = tt
decls_of_names names k (d ∷ ds) =
    let here = variables_broken k d in
    let uses = uses_broken names (inside_of k d) d in
    joined (here ++ uses) (decls_broken names (declared_with k d) ds) (joined here uses (variables_of_names k d) (uses_of_names names (inside_of k d) d))
    (decls_of_names names (declared_with k d) ds)

violations_of_names : (p : Program) → AllOfNames (violations p)
violations_of_names p =
    let absent = broken_if (not (has_main p.names p.decls)) rule.Main (record { line = 1; column = 1 }) in
    joined (decls_broken p.names (built_in p.names) p.decls) absent (decls_of_names p.names (built_in p.names) p.decls)
    (one_if (not (has_main p.names p.decls)) rule.Main (record { line = 1; column = 1 }) tt)

-- ---- other rules

-- no violation of a rule of names has the turn of the others
not_last : (r : Rule) → IsOfNames r → nat_eq (turn r) 8 ≡ false
not_last rule.NameUnknown h = refl
not_last rule.NameTwice h = refl
not_last rule.DefinedTwice h = refl
not_last rule.Undefined h = refl
not_last rule.Arity h = refl
not_last rule.Branch h = refl
not_last rule.Main h = refl
not_last rule.Last h = refl
not_last rule.Size h = absurd h
not_last rule.Utf8 h = absurd h
not_last rule.Token h = absurd h
not_last rule.Literal h = absurd h
not_last rule.Parse h = absurd h
not_last rule.Deep h = absurd h
not_last rule.TypeClash h = absurd h
not_last rule.TypeOpen h = absurd h
not_last rule.Kind h = absurd h
not_last rule.Init h = absurd h
not_last rule.ExpandSize h = absurd h
not_last rule.Causality h = absurd h
not_last rule.Grade h = absurd h
not_last rule.Unbuilt h = absurd h

none_last : (vs : List Violation) → AllOfNames vs → map (λ v. v.1) (filter (λ v. nat_eq (turn v.0) 8) vs) ≡ []
none_last [] h = refl
none_last (v ∷ vs) h =
    ap (λ b. map (λ w. w.1) (cond b (v ∷ filter (λ w. nat_eq (turn w.0) 8) vs) (filter (λ w. nat_eq (turn w.0) 8) vs))) (not_last v.0 h.0) ∙ none_last vs h.1

pub none_in : (ps : List Pos) (at : Pos) → ps ≡ [] → Contains ps at → ⊥
none_in [] at e c = absurd (omega (arith, c.1))
none_in (p ∷ ps) at e c = cc

-- a rule of a later turn refuses no program
not_refused : (p : Program) (r : Rule) (at : Pos) → turn r ≡ 8 → IsRefusedAt p r at → ⊥
not_refused p r at e refused =
    none_in (violations_of r p) at (ap (λ n. map (λ v. v.1) (filter (λ v. nat_eq (turn v.0) n) (violations p))) e ∙ none_last (violations p) (violations_of_names p)) refused.broken

-- The rule by which the names of a tree are refused is the first that the tree breaks.
names_refused : (p : Program) (r : Rule) (at : Pos) → IsRefusedAt p r at → IsFirstBroken p r at
names_refused p rule.Size at h = not_refused p rule.Size at refl h
names_refused p rule.Utf8 at h = not_refused p rule.Utf8 at refl h
names_refused p rule.Token at h = not_refused p rule.Token at refl h
names_refused p rule.Literal at h = not_refused p rule.Literal at refl h
names_refused p rule.Parse at h = not_refused p rule.Parse at refl h
names_refused p rule.Deep at h = not_refused p rule.Deep at refl h
names_refused p rule.NameUnknown at h = h
names_refused p rule.NameTwice at h = h
names_refused p rule.DefinedTwice at h = h
names_refused p rule.Undefined at h = h
names_refused p rule.Arity at h = h
names_refused p rule.Branch at h = h
names_refused p rule.Main at h = h
names_refused p rule.Last at h = h
names_refused p rule.TypeClash at h = absurd (not_refused p rule.TypeClash at refl h)
names_refused p rule.TypeOpen at h = absurd (not_refused p rule.TypeOpen at refl h)
names_refused p rule.Kind at h = absurd (not_refused p rule.Kind at refl h)
names_refused p rule.Init at h = absurd (not_refused p rule.Init at refl h)
names_refused p rule.ExpandSize at h = absurd (not_refused p rule.ExpandSize at refl h)
names_refused p rule.Causality at h = absurd (not_refused p rule.Causality at refl h)
names_refused p rule.Grade at h = absurd (not_refused p rule.Grade at refl h)
names_refused p rule.Unbuilt at h = not_refused p rule.Unbuilt at refl h

pub names_broken : (p : Program) (why : Refusal) → IsRefusedBy p why → IsBrokenBy p why
names_broken p (Broken r at) refused = names_refused p r at refused
names_broken p Memory refused = tt
