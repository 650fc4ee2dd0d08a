-- Down an equation that breaks no rule of names, under an assignment that meets its equalities of types: what its walk makes
-- keeps what a flat form keeps of types.
use Rattle.std.proofs.Common.{◌≡◌, ℕ, suc, Bool, true, false, if◌then◌else◌, nat_eq, List, [], ◌∷◌, ◌++◌, map, length, Option, Some, None, refl, sym, subst, ◌∙◌, arith}
use Rattle.std.specs.List.{AllByRecursion}
use Rattle.std.proofs.lemmas.Bool.{eqb-true}
use Rattle.zl_value.specs.declared.position.Pos.{Pos}
use Rattle.zl_value.specs.declared.value.Ty.{Ty}
use Rattle.zl_value.specs.declared.value.Ty.TheVariants.{Bool as BoolTy, Float, Zero}
use Rattle.zl_ast.specs.declared.name.Name.{Name}
use Rattle.zl_ast.specs.declared.scope.VarInfo.{VarInfo}
use Rattle.zl_ast.specs.declared.scope.VarClass.TheVariants as class
use Rattle.zl_ast.specs.declared.expr.Expr.{Expr}
use Rattle.zl_ast.specs.declared.eqn.Eqn.{Eqn, roll-Eqn}
use Rattle.zl_ast.specs.declared.eqn.Arm.{Arm, roll-Arm}
use Rattle.zl_ast.specs.declared.eqn.Body.{Body, roll-Body}
use Rattle.zl_ast.specs.declared.eqn.State.{State, roll-State}
use Rattle.zl_ast.specs.declared.eqn.Cond.{Cond}
use Rattle.zl_ast.specs.declared.eqn.Cond.TheVariants.{Event, Test}
use Rattle.zl_ast.specs.declared.eqn.Up.{Up}
use Rattle.zl_ast.specs.declared.eqn.ResetArm.{ResetArm}
use Rattle.zl_ast.specs.declared.eqn.Move.{Move}
use Rattle.zl_ast.specs.declared.eqn.Eqn.TheOpen.{Eqn-F, Arm-F, Body-F, State-F}
use Rattle.zl_ast.specs.declared.eqn.Eqn.TheOpen as open_eqn
use Rattle.zl_ast.specs.declared.eqn.Eqn.TheFolds.{fold-roll-Eqn, fold-roll-Arm, fold-roll-Body, fold-roll-State, ind-Eqn, map-Eqn, map-Arm, map-Body, map-State}
use Rattle.zl_ast.specs.Names.{Violation, with_ids, ids_of}
use Rattle.zl_ast.specs.NamesRules.{place_of}
use Rattle.zl_ast.specs.NamesDefined as defined
use Rattle.zl_ast.specs.NamesDefined.{Outline, StateOutline, entry, free_entries, together, list_from, eqn_outline, arm_outline, body_outline, state_outline}
use Rattle.zl_ast.specs.NamesUsed as used
use Rattle.zl_ast.specs.NamesUsed.{Known, Uses, BodyUses, all_uses, value_uses, expr_uses, ups_uses, cond_uses, start_uses, reset_arm_uses, moves_uses, same_strength, within, inside, eqn_uses, arm_uses, body_uses, state_uses}
use Rattle.zl_ast.specs.Assignments.{Assignment, Meets, Solves, joined}
use Rattle.zl_ast.specs.TypeEqualities as types
use Rattle.zl_ast.specs.TypeEqualities.{Signature, Environment, same_as_found, expr_part, expr_equalities, called, results_of, start_places, reset_places, der_places, names_equalities, several_equalities, sides_equalities, up_equalities, ups_equalities, cond_equalities, start_equalities, reset_arm_equalities, moves_equalities, eqn_equalities, arm_equalities, body_equalities, state_equalities}
use Rattle.zl_ast.specs.declared.constraint.Equality.{Equality}
use Rattle.zl_meaning.specs.FlatForm.{FlatForm}
use Rattle.zl_meaning.specs.WellFormed.{HasType}
use Rattle.zl_flat.specs.declared.variable.Variable.{Variable}
use Rattle.zl_flat.specs.Variables.{variable_of}
use Rattle.zl_flat.specs.Instances.{Instance}
use Rattle.zl_flat.specs.Expressions.{Walk, expr_walk}
use Rattle.zl_flat.specs.Equations as make
use Rattle.zl_flat.specs.Equations.{Making, Testing, ArmWalk, StateWalk, place_number, place_type, up_walk, first_at, event_walk, cond_walk, reset_arm_walk, start_walk, move_walk, eqn_walk, arm_walk, body_walk, one_state_walk}
use Rattle.zl_flat.proofs.WellFormedParts.{all-left, all-right}
use Rattle.zl_flat.proofs.RulesKept.{none-left, none-right, IsVariable, Covers}
use Rattle.zl_flat.proofs.WellFormedEntries.{EntriesKnown, NamesKnown, names-known, covers-names, covers-none, free-known, list-known, together-known, states-known}
use Rattle.zl_flat.proofs.WellFormedGrammar as grammar
use Rattle.zl_flat.proofs.WellFormedGrammar.{Written, IsWritten, AllWritten, IsLeftOf, left_side, some_states, expr_written, ups_written, event_written, cond_written, start_written, reset_arm_written, moves_written, eqn_written, arm_written, body_written, state_written}
use Rattle.zl_flat.proofs.WellFormedTypesExprs.{WalkTyped, walk-at-type}
use Rattle.zl_flat.proofs.WellFormedTypesExprTrees.{same-length, KnowsTypes, NoZero, ExprKeeps, SeveralTyped, found-type, expr-typed}
use Rattle.zl_flat.proofs.WellFormedTypesPlaces.{part-at}
use Rattle.zl_flat.proofs.WellFormedTypesEqns.{MakingTyped, TestingTyped, ArmWalkTyped, StateWalkTyped, ResetWalkTyped, MoveWalkTyped, NameTyped, NamesTyped, LeftTyped, StartTyped, crossing-typed, event-typed, tested-typed, plain-typed, init-typed, der-typed, reset-typed, arm-typed, present-typed, state-typed, automaton-typed, body-typed}

module _ (f : FlatForm) (base : ℕ) (names : List (List ℕ)) (i : Instance) (k : Known) (e : Environment) (a : Assignment) (nz : NoZero a) (knows : KnowsTypes f base names i k e a) where
  -- what is known of an expression, at its place
  value-kept : (x : Expr) (wanted : ℕ) (visible : List ℕ) → Covers i visible → expr_uses k x wanted visible ≡ [] → AllWritten (expr_written x) → Solves (expr_equalities e x) a → ExprKeeps f base names i k e a nz knows (place_of x) (called x) wanted (expr_walk base names i x)
  value-kept x wanted visible c h w m = subst (λ p. ExprKeeps f base names i k e a nz knows p (called x) wanted (expr_walk base names i x)) (part-at e x) (expr-typed f base names i k e a nz knows x wanted visible c h w m)

  -- an expression of which one result is wanted, at the type of its place
  pub value-typed : (x : Expr) (ty : Ty) (visible : List ℕ) → a (place_of x) ≡ ty → Covers i visible → value_uses k x visible ≡ [] → AllWritten (expr_written x) → Solves (expr_equalities e x) a → WalkTyped f base ty (expr_walk base names i x)
  value-typed x ty visible is c h w m = let b = value-kept x 1 visible c h w m in walk-at-type f base (a (place_of x)) ty (expr_walk base names i x) is b.walk

  -- ---- variables

  -- no variable has the type of an `up`
  pub no-zero : (id : ℕ) → place_type (variable_of i.variables id) ≡ Zero → ⊥
  no-zero id = by_variable (variable_of i.variables id) refl
    where
      by_variable : (o : Option Variable) → variable_of i.variables id ≡ o → place_type o ≡ Zero → ⊥
      by_variable None is z = cc
      by_variable (Some v) is z = let b = knows.variables id v is in nz b.at (b.typed ∙ z)

  -- the variable has the type that is given to the place that its name finds
  name-typed : (x : Name) (at node : Pos) → IsVariable i x.id → Solves (same_as_found at node (e.variables x.id)) a → NameTyped f base names i (a node) x
  name-typed x at node h m =
      let v = h.variable in
      let b = knows.variables x.id v h.is in
      let own : v.ty ≡ a node = sym (found-type a at node b.at (e.variables x.id) b.is m ∙ b.typed) in
      subst (λ o. HasType f (a node) (place_number o)) (sym h.is) (subst (λ t. HasType f t v.place) own b.place)

  -- the variables on the left have the types of the results
  names-typed : (xs : List Name) (at : Pos) (rs : List Pos) → NamesKnown i xs → Solves (names_equalities e at xs rs) a → NamesTyped f base names i (map a rs) xs
  names-typed [] at [] h m = tt
  names-typed [] at (r ∷ rs) h m = tt
  names-typed (x ∷ xs) at [] h m = tt
  names-typed (x ∷ xs) at (r ∷ rs) h m =
      let own = same_as_found at r (e.variables x.id) in
      (name-typed x at r h.0 (all-left (Meets a) own (names_equalities e at xs rs) m), names-typed xs at rs h.1 (all-right (Meets a) own (names_equalities e at xs rs) m))

  -- ---- conditions

  -- each `up` of an event has its type
  ups-typed : (us : List Up) (visible : List ℕ) → Covers i visible → ups_uses k us visible ≡ [] → AllWritten (ups_written us) → Solves (ups_equalities e us) a → AllByRecursion (TestingTyped f base Zero) (map (up_walk base names i) us)
  ups-typed [] visible c h w m = tt
  ups-typed (u ∷ us) visible c h w m =
      let first = value_uses k u.arg visible in
      let rest = ups_uses k us visible in
      let own = up_equalities e u in
      let b = all-left (Meets a) own (ups_equalities e us) m in (
        crossing-typed f base names i u.at (expr_walk base names i u.arg) (value-typed u.arg Float visible b.0 c (none-left first rest h) (all-left IsWritten (expr_written u.arg) (ups_written us) w) b.1),
        ups-typed us visible c (none-right first rest h) (all-right IsWritten (expr_written u.arg) (ups_written us) w) (all-right (Meets a) own (ups_equalities e us) m),
      )

  -- an event is bool
  event_walk-typed : (us : List Up) (visible : List ℕ) → Covers i visible → ups_uses k us visible ≡ [] → AllWritten (event_written us) → Solves (ups_equalities e us) a → TestingTyped f base BoolTy (event_walk base names i us)
  event_walk-typed us visible c h w m = event-typed f base names i (first_at us) (map (up_walk base names i) us) (ups-typed us visible c h w.1 m)

  -- a condition is bool
  cond-typed : (z : Cond) (visible : List ℕ) → Covers i visible → cond_uses k z visible ≡ [] → AllWritten (cond_written z) → Solves (cond_equalities e z) a → TestingTyped f base BoolTy (cond_walk base names i z)
  cond-typed (Event us) visible c h w m = event_walk-typed us visible c h w m
  cond-typed (Test at x) visible c h w m = tested-typed f base names i (expr_walk base names i x) (value-typed x BoolTy visible m.0 c h w m.1)

  -- ---- `der`

  -- what a `der` speaks of is float
  record DerTypes (x : Name) (slope : Expr) (start : Option Expr) (resets : List ResetArm) : Type 0 where
    pub variable : NameTyped f base names i Float x
    pub of_slope : a (place_of slope) ≡ Float
    pub of_start : AllByRecursion (λ p. a p ≡ Float) (start_places start)
    pub of_resets : AllByRecursion (λ p. a p ≡ Float) (reset_places resets)

  -- what is fixed to float is float
  all-fixed : (at : Pos) (ps : List Pos) → Solves (map (types.fixed at Float) ps) a → AllByRecursion (λ p. a p ≡ Float) ps
  all-fixed at [] m = tt
  all-fixed at (p ∷ ps) m = (m.0, all-fixed at ps m.1)

  -- what the equalities of a `der` say
  der-types : (at : Pos) (x : Name) (slope : Expr) (start : Option Expr) (resets : List ResetArm) (v : Variable) → variable_of i.variables x.id ≡ Some v → Solves (map (types.fixed at Float) (der_places (e.variables x.id) slope start resets)) a → DerTypes x slope start resets
  der-types at x slope start resets v is m =
      let b = knows.variables x.id v is in
      let all = all-fixed at (b.at ∷ (place_of slope ∷ (start_places start ++ reset_places resets))) (subst (λ o. Solves (map (types.fixed at Float) (der_places o slope start resets)) a) b.is m) in
      record {
        variable = subst (λ o. HasType f Float (place_number o)) (sym is) (subst (λ t. HasType f t v.place) (sym b.typed ∙ all.0) b.place);
        of_slope = all.1.0;
        of_start = all-left (λ p. a p ≡ Float) (start_places start) (reset_places resets) all.1.1;
        of_resets = all-right (λ p. a p ≡ Float) (start_places start) (reset_places resets) all.1.1;
      }

  -- the value of an `init` behind a `der` is float
  start_walk-typed : (start : Option Expr) (visible : List ℕ) → AllByRecursion (λ p. a p ≡ Float) (start_places start) → Covers i visible → start_uses k start visible ≡ [] → AllWritten (start_written start) → Solves (start_equalities e start) a →
      StartTyped f base names i (start_walk base names i start)
  start_walk-typed None visible is c h w m = tt
  start_walk-typed (Some x) visible is c h w m = value-typed x Float visible is.0 c h w m

  -- events of reset arms are bool, and their values float
  resets-typed : (rs : List ResetArm) (visible : List ℕ) → AllByRecursion (λ p. a p ≡ Float) (reset_places rs) → Covers i visible → all_uses (map (reset_arm_uses k) rs) visible ≡ [] → AllWritten (joined (map reset_arm_written rs)) → Solves (joined (map (reset_arm_equalities e) rs)) a →
      AllByRecursion (ResetWalkTyped f base) (map (reset_arm_walk base names i) rs)
  resets-typed [] visible is c h w m = tt
  resets-typed (r ∷ rs) visible is c h w m =
      let rest = all_uses (map (reset_arm_uses k) rs) visible in
      let uses = none-left (reset_arm_uses k r visible) rest h in
      let others = joined (map reset_arm_written rs) in
      let written = all-left IsWritten (reset_arm_written r) others w in
      let more = joined (map (reset_arm_equalities e) rs) in
      let met = all-left (Meets a) (reset_arm_equalities e r) more m in
      let events = ups_equalities e r.event in
      let value = expr_equalities e r.value in (
        record {
          event = event_walk-typed r.event visible c (none-left (ups_uses k r.event visible) (value_uses k r.value visible) uses) (all-left IsWritten (event_written r.event) (expr_written r.value) written) (all-left (Meets a) events value met);
          value = value-typed r.value Float visible is.0 c (none-right (ups_uses k r.event visible) (value_uses k r.value visible) uses) (all-right IsWritten (event_written r.event) (expr_written r.value) written) (all-right (Meets a) events value met);
        },
        resets-typed rs visible is.1 c (none-right (reset_arm_uses k r visible) rest h) (all-right IsWritten (reset_arm_written r) others w) (all-right (Meets a) (reset_arm_equalities e r) more m),
      )

  -- ---- moves

  -- the condition of a move is bool
  one_move-typed : (z : Move) (strong : Bool) (inner visible : List ℕ) (rest rest2 : List Violation) → Covers i inner → Covers i visible →
      (if same_strength false strong then cond_uses k z.cond inner else []) ++ rest ≡ [] → (if same_strength true strong then cond_uses k z.cond visible else []) ++ rest2 ≡ [] → AllWritten (cond_written z.cond) → Solves (cond_equalities e z.cond) a →
      MoveWalkTyped f base (move_walk base names i z)
  one_move-typed z true inner visible rest rest2 ci cv hi hv w m = record { test = cond-typed z.cond visible cv (none-left (cond_uses k z.cond visible) rest2 hv) w m }
  one_move-typed z false inner visible rest rest2 ci cv hi hv w m = record { test = cond-typed z.cond inner ci (none-left (cond_uses k z.cond inner) rest hi) w m }

  -- the conditions of moves are bool
  moves-typed : (zs : List Move) (inner visible : List ℕ) → Covers i inner → Covers i visible → moves_uses k false zs inner ≡ [] → moves_uses k true zs visible ≡ [] → AllWritten (moves_written zs) → Solves (moves_equalities e zs) a →
      AllByRecursion (MoveWalkTyped f base) (map (move_walk base names i) zs)
  moves-typed [] inner visible ci cv hi hv w m = tt
  moves-typed (z ∷ zs) inner visible ci cv hi hv w m = (
    one_move-typed z z.strong inner visible (moves_uses k false zs inner) (moves_uses k true zs visible) ci cv hi hv (all-left IsWritten (cond_written z.cond) (moves_written zs) w) (all-left (Meets a) (cond_equalities e z.cond) (moves_equalities e zs) m),
    moves-typed zs inner visible ci cv
        (none-right (if same_strength false z.strong then cond_uses k z.cond inner else []) (moves_uses k false zs inner) hi)
        (none-right (if same_strength true z.strong then cond_uses k z.cond visible else []) (moves_uses k true zs visible) hv)
        (all-right IsWritten (cond_written z.cond) (moves_written zs) w) (all-right (Meets a) (cond_equalities e z.cond) (moves_equalities e zs) m),
  )

  -- ---- plain equations

  -- two results or more are not one
  one-wanted : (n : ℕ) → nat_eq (suc (suc n)) 1 ≡ false
  one-wanted n = by_equal (nat_eq (suc (suc n)) 1) refl
    where
      two : suc (suc n) ≡ 1 → ⊥
      two e = omega (arith, e)

      by_equal : (b : Bool) → nat_eq (suc (suc n)) 1 ≡ b → b ≡ false
      by_equal true is = absurd (two (eqb-true (suc (suc n)) 1 is))
      by_equal false is = refl

  -- several names have the types of the results of the call on the right
  several-typed : (x y : Name) (xs : List Name) (c : Option Name) (w : Walk) → NamesKnown i (x ∷ y ∷ xs) → IsLeftOf (x ∷ y ∷ xs) c → Solves (several_equalities e (x ∷ y ∷ xs) c) a →
      ((g : Name) → c ≡ Some g → SeveralTyped f base names i k e a nz knows g w) → (ty : Ty) → LeftTyped f base names i (x ∷ y ∷ xs) ty w
  several-typed x y xs None w n l m h ty = absurd l
  several-typed x y xs (Some g) w n l m h ty =
      let b = h g refl in
      let sig : Signature = record { params = b.params; results = b.results } in
      (map a b.results, names-typed (x ∷ y ∷ xs) g.at b.results n (subst (λ o. Solves (names_equalities e g.at (x ∷ y ∷ xs) (results_of o)) a) b.declared_is m), b.typed)

  -- the left side has the types of the right side
  left-typed : (left : List Name) (right : Expr) → NamesKnown i left → IsLeftOf left (called right) → Solves (sides_equalities e left right) a →
      ExprKeeps f base names i k e a nz knows (place_of right) (called right) (length left) (expr_walk base names i right) → LeftTyped f base names i left (a (place_of right)) (expr_walk base names i right)
  left-typed [] right n l m h = tt
  left-typed (x ∷ []) right n l m h = name-typed x x.at (place_of right) n.0 m
  left-typed (x ∷ y ∷ xs) right n l m h = several-typed x y xs (called right) (expr_walk base names i right) n l m (λ g is. h.several g is (one-wanted (length xs))) (a (place_of right))

  -- ---- trees

  abbrev pub EqnTyped : Eqn → Type 0
  EqnTyped x = (visible : List ℕ) → Covers i visible → eqn_uses k x visible ≡ [] → EntriesKnown i (eqn_outline x).entries → AllWritten (eqn_written x) → Solves (eqn_equalities e x) a → MakingTyped f base (eqn_walk base names i x)

  abbrev pub ArmTreeTyped : Arm → Type 0
  ArmTreeTyped x = (visible : List ℕ) → Covers i visible → arm_uses k x visible ≡ [] → EntriesKnown i (arm_outline x).entries → AllWritten (arm_written x) → Solves (arm_equalities e x) a → ArmWalkTyped f base (arm_walk base names i x)

  abbrev pub BodyTreeTyped : Body → Type 0
  BodyTreeTyped x = (visible : List ℕ) → Covers i visible → inside (body_uses k x) visible ≡ [] → EntriesKnown i (body_outline x).entries → AllWritten (body_written x) → Solves (body_equalities e x) a →
      MakingTyped f base (body_walk base names i x) × Covers i (within (body_uses k x).locals visible)

  abbrev pub StateTreeTyped : State → Type 0
  StateTreeTyped x = (visible : List ℕ) → Covers i visible → state_uses k x visible ≡ [] → EntriesKnown i (state_outline x).outline.entries → AllWritten (state_written x) → Solves (state_equalities e x) a → StateWalkTyped f base (one_state_walk base names i x)

  abbrev TheEqn : Type 0
  TheEqn = (x : Eqn) × EqnTyped x

  abbrev TheArm : Type 0
  TheArm = (x : Arm) × ArmTreeTyped x

  abbrev TheBody : Type 0
  TheBody = (x : Body) × BodyTreeTyped x

  abbrev TheState : Type 0
  TheState = (x : State) × StateTreeTyped x

  -- the layer without its facts
  abbrev bare_eqn : Eqn-F TheEqn TheArm TheBody TheState → Eqn-F Eqn Arm Body State
  bare_eqn = map-Eqn TheEqn TheArm TheBody TheState Eqn Arm Body State (λ x. x.0) (λ x. x.0) (λ x. x.0) (λ x. x.0)

  abbrev bare_arm : Arm-F TheEqn TheArm TheBody TheState → Arm-F Eqn Arm Body State
  bare_arm = map-Arm TheEqn TheArm TheBody TheState Eqn Arm Body State (λ x. x.0) (λ x. x.0) (λ x. x.0) (λ x. x.0)

  abbrev bare_body : Body-F TheEqn TheArm TheBody TheState → Body-F Eqn Arm Body State
  bare_body = map-Body TheEqn TheArm TheBody TheState Eqn Arm Body State (λ x. x.0) (λ x. x.0) (λ x. x.0) (λ x. x.0)

  abbrev bare_state : State-F TheEqn TheArm TheBody TheState → State-F Eqn Arm Body State
  bare_state = map-State TheEqn TheArm TheBody TheState Eqn Arm Body State (λ x. x.0) (λ x. x.0) (λ x. x.0) (λ x. x.0)

  -- each of these equations keeps types
  eqs-typed : (xs : List TheEqn) (visible : List ℕ) → Covers i visible → all_uses (map (eqn_uses k) (map (λ x. x.0) xs)) visible ≡ [] → AllByRecursion (λ (o : Outline). EntriesKnown i o.entries) (map eqn_outline (map (λ x. x.0) xs)) →
      AllWritten (joined (map eqn_written (map (λ x. x.0) xs))) → Solves (joined (map (eqn_equalities e) (map (λ x. x.0) xs))) a → AllByRecursion (MakingTyped f base) (map (eqn_walk base names i) (map (λ x. x.0) xs))
  eqs-typed [] visible c h l w m = tt
  eqs-typed (x ∷ xs) visible c h l w m =
      let uses = all_uses (map (eqn_uses k) (map (λ x. x.0) xs)) visible in
      let written = joined (map eqn_written (map (λ x. x.0) xs)) in
      let met = joined (map (eqn_equalities e) (map (λ x. x.0) xs)) in (
        x.1 visible c (none-left (eqn_uses k x.0 visible) uses h) l.0 (all-left IsWritten (eqn_written x.0) written w) (all-left (Meets a) (eqn_equalities e x.0) met m),
        eqs-typed xs visible c (none-right (eqn_uses k x.0 visible) uses h) l.1 (all-right IsWritten (eqn_written x.0) written w) (all-right (Meets a) (eqn_equalities e x.0) met m),
      )

  -- each of these arms keeps types
  arms-typed : (xs : List TheArm) (visible : List ℕ) → Covers i visible → all_uses (map (arm_uses k) (map (λ x. x.0) xs)) visible ≡ [] → AllByRecursion (λ (o : Outline). EntriesKnown i o.entries) (map arm_outline (map (λ x. x.0) xs)) →
      AllWritten (joined (map arm_written (map (λ x. x.0) xs))) → Solves (joined (map (arm_equalities e) (map (λ x. x.0) xs))) a → AllByRecursion (ArmWalkTyped f base) (map (arm_walk base names i) (map (λ x. x.0) xs))
  arms-typed [] visible c h l w m = tt
  arms-typed (x ∷ xs) visible c h l w m =
      let uses = all_uses (map (arm_uses k) (map (λ x. x.0) xs)) visible in
      let written = joined (map arm_written (map (λ x. x.0) xs)) in
      let met = joined (map (arm_equalities e) (map (λ x. x.0) xs)) in (
        x.1 visible c (none-left (arm_uses k x.0 visible) uses h) l.0 (all-left IsWritten (arm_written x.0) written w) (all-left (Meets a) (arm_equalities e x.0) met m),
        arms-typed xs visible c (none-right (arm_uses k x.0 visible) uses h) l.1 (all-right IsWritten (arm_written x.0) written w) (all-right (Meets a) (arm_equalities e x.0) met m),
      )

  -- each of these states keeps types
  states-typed : (xs : List TheState) (visible : List ℕ) → Covers i visible → all_uses (map (state_uses k) (map (λ x. x.0) xs)) visible ≡ [] → AllByRecursion (λ (o : StateOutline). EntriesKnown i o.outline.entries) (map state_outline (map (λ x. x.0) xs)) →
      AllWritten (joined (map state_written (map (λ x. x.0) xs))) → Solves (joined (map (state_equalities e) (map (λ x. x.0) xs))) a → AllByRecursion (StateWalkTyped f base) (map (one_state_walk base names i) (map (λ x. x.0) xs))
  states-typed [] visible c h l w m = tt
  states-typed (x ∷ xs) visible c h l w m =
      let uses = all_uses (map (state_uses k) (map (λ x. x.0) xs)) visible in
      let written = joined (map state_written (map (λ x. x.0) xs)) in
      let met = joined (map (state_equalities e) (map (λ x. x.0) xs)) in (
        x.1 visible c (none-left (state_uses k x.0 visible) uses h) l.0 (all-left IsWritten (state_written x.0) written w) (all-left (Meets a) (state_equalities e x.0) met m),
        states-typed xs visible c (none-right (state_uses k x.0 visible) uses h) l.1 (all-right IsWritten (state_written x.0) written w) (all-right (Meets a) (state_equalities e x.0) met m),
      )

  -- one form of an equation, where what it is made of keeps types
  eqn-layer : (y : Eqn-F TheEqn TheArm TheBody TheState) (visible : List ℕ) → Covers i visible →
      used.eqn_step k (map-Eqn Eqn Arm Body State Uses Uses BodyUses Uses (eqn_uses k) (arm_uses k) (body_uses k) (state_uses k) (bare_eqn y)) visible ≡ [] →
      EntriesKnown i (defined.eqn_step (map-Eqn Eqn Arm Body State Outline Outline Outline StateOutline eqn_outline arm_outline body_outline state_outline (bare_eqn y))).entries →
      AllWritten (grammar.eqn_step (map-Eqn Eqn Arm Body State (List Written) (List Written) (List Written) (List Written) eqn_written arm_written body_written state_written (bare_eqn y))) →
      Solves (types.eqn_step e (map-Eqn Eqn Arm Body State (List Equality) (List Equality) (List Equality) (List Equality) (eqn_equalities e) (arm_equalities e) (body_equalities e) (state_equalities e) (bare_eqn y))) a →
      MakingTyped f base (make.eqn_step base names i (map-Eqn Eqn Arm Body State Making ArmWalk Making StateWalk (eqn_walk base names i) (arm_walk base names i) (body_walk base names i) (one_state_walk base names i) (bare_eqn y)))
  eqn-layer (open_eqn.Plain left right) visible c h l w m =
      let b = value-kept right (length left) visible c h w.1 (all-right (Meets a) (sides_equalities e left right) (expr_equalities e right) m) in
      plain-typed f base names i no-zero left (a (place_of right)) (expr_walk base names i right) b.walk (left-typed left right (names-known i class.Top left l) w.0 (all-left (Meets a) (sides_equalities e left right) (expr_equalities e right) m) b)
  eqn-layer (open_eqn.Der at x slope start resets) visible c h l w m =
      let uses2 = start_uses k start visible ++ all_uses (map (reset_arm_uses k) resets) visible in
      let uses = none-right (value_uses k slope visible) uses2 h in
      let written2 = start_written start ++ joined (map reset_arm_written resets) in
      let written = all-right IsWritten (expr_written slope) written2 w in
      let fixed = map (types.fixed at Float) (der_places (e.variables x.id) slope start resets) in
      let met2 = start_equalities e start ++ joined (map (reset_arm_equalities e) resets) in
      let met1 = expr_equalities e slope ++ met2 in
      let inside1 = all-right (Meets a) fixed met1 m in
      let inside2 = all-right (Meets a) (expr_equalities e slope) met2 inside1 in
      let v = l.0 in
      let b = der-types at x slope start resets v.variable v.is (all-left (Meets a) fixed met1 m) in
      der-typed f base names i no-zero x (expr_walk base names i slope) (start_walk base names i start) (map (reset_arm_walk base names i) resets) b.variable
      (value-typed slope Float visible b.of_slope c (none-left (value_uses k slope visible) uses2 h) (all-left IsWritten (expr_written slope) written2 w) (all-left (Meets a) (expr_equalities e slope) met2 inside1))
      (start_walk-typed start visible b.of_start c (none-left (start_uses k start visible) (all_uses (map (reset_arm_uses k) resets) visible) uses) (all-left IsWritten (start_written start) (joined (map reset_arm_written resets)) written) (all-left (Meets a) (start_equalities e start) (joined (map (reset_arm_equalities e) resets)) inside2))
      (resets-typed resets visible b.of_resets c (none-right (start_uses k start visible) (all_uses (map (reset_arm_uses k) resets) visible) uses) (all-right IsWritten (start_written start) (joined (map reset_arm_written resets)) written) (all-right (Meets a) (start_equalities e start) (joined (map (reset_arm_equalities e) resets)) inside2))
  eqn-layer (open_eqn.Start at x value) visible c h l w m =
      let own = same_as_found at (place_of value) (e.variables x.id) in
      init-typed f base names i no-zero x (a (place_of value)) (expr_walk base names i value) (value-typed value (a (place_of value)) visible refl c h w (all-right (Meets a) own (expr_equalities e value) m)) (name-typed x at (place_of value) l.0 (all-left (Meets a) own (expr_equalities e value) m))
  eqn-layer (open_eqn.Present at arms None) visible c h l w m =
      let os = map arm_outline (map (λ x. x.0) arms) in
      let uses = all_uses (map (arm_uses k) (map (λ x. x.0) arms)) visible in
      present-typed f base names i (map (arm_walk base names i) (map (λ x. x.0) arms)) None
      (arms-typed arms visible c (none-left uses [] h) (together-known i os (all-left (λ (v : VarInfo). IsVariable i v.name) (together os).entries [] l))
      (all-left IsWritten (joined (map arm_written (map (λ x. x.0) arms))) [] w.1) (all-left (Meets a) (joined (map (arm_equalities e) (map (λ x. x.0) arms))) [] m)) tt
  eqn-layer (open_eqn.Present at arms (Some b)) visible c h l w m =
      let os = map arm_outline (map (λ x. x.0) arms) in
      let uses = all_uses (map (arm_uses k) (map (λ x. x.0) arms)) visible in
      let other = inside (body_uses k b.0) visible in
      let written = joined (map arm_written (map (λ x. x.0) arms)) in
      let met = joined (map (arm_equalities e) (map (λ x. x.0) arms)) in
      present-typed f base names i (map (arm_walk base names i) (map (λ x. x.0) arms)) (Some (body_walk base names i b.0))
      (arms-typed arms visible c (none-left uses other h) (together-known i os (all-left (λ (v : VarInfo). IsVariable i v.name) (together os).entries (body_outline b.0).entries l)) (all-left IsWritten written (body_written b.0) w.1) (all-left (Meets a) met (body_equalities e b.0) m))
      (b.1 visible c (none-right uses other h) (all-right (λ (v : VarInfo). IsVariable i v.name) (together os).entries (body_outline b.0).entries l) (all-right IsWritten written (body_written b.0) w.1) (all-right (Meets a) met (body_equalities e b.0) m)).0
  eqn-layer (open_eqn.Automaton at states) visible c h l w m =
      let os = map state_outline (map (λ x. x.0) states) in
      let some = w.0 in
      let count = same-length state_written (one_state_walk base names i) (map (λ x. x.0) states) in
      automaton-typed f base names i (map (one_state_walk base names i) (map (λ x. x.0) states)) (omega (arith, some, count)) (states-typed states visible c h (states-known i (with_ids [] (ids_of (defined.state_names os))) os l) w.1 m)
  eqn-layer (open_eqn.Reset at eqs z) visible c h l w m =
      let uses = all_uses (map (eqn_uses k) (map (λ x. x.0) eqs)) visible in
      let written = joined (map eqn_written (map (λ x. x.0) eqs)) in
      let met = joined (map (eqn_equalities e) (map (λ x. x.0) eqs)) in
      reset-typed f base names i (map (eqn_walk base names i) (map (λ x. x.0) eqs)) (cond_walk base names i z)
      (eqs-typed eqs visible c (none-left uses (cond_uses k z visible) h) (list-known i [] [] (map eqn_outline (map (λ x. x.0) eqs)) l) (all-left IsWritten written (cond_written z) w) (all-left (Meets a) met (cond_equalities e z) m))
      (cond-typed z visible c (none-right uses (cond_uses k z visible) h) (all-right IsWritten written (cond_written z) w) (all-right (Meets a) met (cond_equalities e z) m))

  -- an arm, where its body keeps types
  arm-layer : (y : Arm-F TheEqn TheArm TheBody TheState) (visible : List ℕ) → Covers i visible →
      used.arm_step k (map-Arm Eqn Arm Body State Uses Uses BodyUses Uses (eqn_uses k) (arm_uses k) (body_uses k) (state_uses k) (bare_arm y)) visible ≡ [] →
      EntriesKnown i (defined.arm_step (map-Arm Eqn Arm Body State Outline Outline Outline StateOutline eqn_outline arm_outline body_outline state_outline (bare_arm y))).entries →
      AllWritten (grammar.arm_step (map-Arm Eqn Arm Body State (List Written) (List Written) (List Written) (List Written) eqn_written arm_written body_written state_written (bare_arm y))) →
      Solves (types.arm_step e (map-Arm Eqn Arm Body State (List Equality) (List Equality) (List Equality) (List Equality) (eqn_equalities e) (arm_equalities e) (body_equalities e) (state_equalities e) (bare_arm y))) a →
      ArmWalkTyped f base (make.arm_step base names i (map-Arm Eqn Arm Body State Making ArmWalk Making StateWalk (eqn_walk base names i) (arm_walk base names i) (body_walk base names i) (one_state_walk base names i) (bare_arm y)))
  arm-layer y visible c h l w m =
      let uses = cond_uses k y.cond visible in
      let rest = inside (body_uses k y.body.0) visible in
      arm-typed f base names i (cond_walk base names i y.cond) (body_walk base names i y.body.0)
      (cond-typed y.cond visible c (none-left uses rest h) (all-left IsWritten (cond_written y.cond) (body_written y.body.0) w) (all-left (Meets a) (cond_equalities e y.cond) (body_equalities e y.body.0) m))
      (y.body.1 visible c (none-right uses rest h) l (all-right IsWritten (cond_written y.cond) (body_written y.body.0) w) (all-right (Meets a) (cond_equalities e y.cond) (body_equalities e y.body.0) m)).0

  -- a body, where its equations keep types
  body-layer : (y : Body-F TheEqn TheArm TheBody TheState) (visible : List ℕ) → Covers i visible →
      inside (used.body_step k (map-Body Eqn Arm Body State Uses Uses BodyUses Uses (eqn_uses k) (arm_uses k) (body_uses k) (state_uses k) (bare_body y))) visible ≡ [] →
      EntriesKnown i (defined.body_step (map-Body Eqn Arm Body State Outline Outline Outline StateOutline eqn_outline arm_outline body_outline state_outline (bare_body y))).entries →
      AllWritten (grammar.body_step (map-Body Eqn Arm Body State (List Written) (List Written) (List Written) (List Written) eqn_written arm_written body_written state_written (bare_body y))) →
      Solves (types.body_step e (map-Body Eqn Arm Body State (List Equality) (List Equality) (List Equality) (List Equality) (eqn_equalities e) (arm_equalities e) (body_equalities e) (state_equalities e) (bare_body y))) a →
      MakingTyped f base (make.body_step base names i (map-Body Eqn Arm Body State Making ArmWalk Making StateWalk (eqn_walk base names i) (arm_walk base names i) (body_walk base names i) (one_state_walk base names i) (bare_body y))) × Covers i (within y.locals visible)
  body-layer y visible c h l w m =
      let own = map (entry class.Local) y.locals in
      let o = list_from [] [] (map eqn_outline (map (λ x. x.0) y.eqs)) in
      let held = with_ids [] (ids_of y.locals) in
      let locals = names-known i class.Local y.locals (all-left (λ (v : VarInfo). IsVariable i v.name) own (free_entries held o.entries) l) in
      let inner = covers-names i y.locals visible locals c in
      let below = free-known i held o.entries (covers-names i y.locals [] locals (covers-none i)) (all-right (λ (v : VarInfo). IsVariable i v.name) own (free_entries held o.entries) l) in (
        body-typed f base names i no-zero y.locals (map (eqn_walk base names i) (map (λ x. x.0) y.eqs))
            (eqs-typed y.eqs (within y.locals visible) inner h (list-known i [] [] (map eqn_outline (map (λ x. x.0) y.eqs)) below) w m),
        inner,
      )

  -- a state, where its body keeps types
  state-layer : (y : State-F TheEqn TheArm TheBody TheState) (visible : List ℕ) → Covers i visible →
      used.state_step k (map-State Eqn Arm Body State Uses Uses BodyUses Uses (eqn_uses k) (arm_uses k) (body_uses k) (state_uses k) (bare_state y)) visible ≡ [] →
      EntriesKnown i (defined.state_step (map-State Eqn Arm Body State Outline Outline Outline StateOutline eqn_outline arm_outline body_outline state_outline (bare_state y))).outline.entries →
      AllWritten (grammar.state_step (map-State Eqn Arm Body State (List Written) (List Written) (List Written) (List Written) eqn_written arm_written body_written state_written (bare_state y))) →
      Solves (types.state_step e (map-State Eqn Arm Body State (List Equality) (List Equality) (List Equality) (List Equality) (eqn_equalities e) (arm_equalities e) (body_equalities e) (state_equalities e) (bare_state y))) a →
      StateWalkTyped f base (make.state_step base names i (map-State Eqn Arm Body State Making ArmWalk Making StateWalk (eqn_walk base names i) (arm_walk base names i) (body_walk base names i) (one_state_walk base names i) (bare_state y)))
  state-layer y visible c h l w m =
      let inner = within (body_uses k y.body.0).locals visible in
      let uses = inside (body_uses k y.body.0) visible in
      let weak = moves_uses k false y.moves inner in
      let strong = moves_uses k true y.moves visible in
      let behind = none-right uses (weak ++ strong) h in
      let body = y.body.1 visible c (none-left uses (weak ++ strong) h) l (all-left IsWritten (body_written y.body.0) (moves_written y.moves) w) (all-left (Meets a) (body_equalities e y.body.0) (moves_equalities e y.moves) m) in
      state-typed f base names i y.name (body_walk base names i y.body.0) (map (move_walk base names i) y.moves) body.0
      (moves-typed y.moves inner visible body.1 c (none-left weak strong behind) (none-right weak strong behind) (all-right IsWritten (body_written y.body.0) (moves_written y.moves) w) (all-right (Meets a) (body_equalities e y.body.0) (moves_equalities e y.moves) m))

  -- an equation that breaks no rule of names, all of whose names are variables of the instance
  pub eqn-typed : (x : Eqn) → EqnTyped x
  unfolding eqn_uses arm_uses body_uses state_uses eqn_walk arm_walk body_walk one_state_walk eqn_outline arm_outline body_outline state_outline eqn_written arm_written body_written state_written eqn_equalities arm_equalities body_equalities state_equalities
  eqn-typed = ind-Eqn EqnTyped ArmTreeTyped BodyTreeTyped StateTreeTyped
      (λ x y is. subst (λ z. EqnTyped (roll-Eqn z)) is (λ visible c h l w m.
      subst (MakingTyped f base) (sym (fold-roll-Eqn Making ArmWalk Making StateWalk (make.eqn_step base names i) (make.arm_step base names i) (make.body_step base names i) (make.state_step base names i) (bare_eqn y)))
      (eqn-layer y visible c
      (subst (λ (u : Uses). u visible ≡ []) (fold-roll-Eqn Uses Uses BodyUses Uses (used.eqn_step k) (used.arm_step k) (used.body_step k) (used.state_step k) (bare_eqn y)) h)
      (subst (λ (o : Outline). EntriesKnown i o.entries) (fold-roll-Eqn Outline Outline Outline StateOutline defined.eqn_step defined.arm_step defined.body_step defined.state_step (bare_eqn y)) l)
      (subst AllWritten (fold-roll-Eqn (List Written) (List Written) (List Written) (List Written) grammar.eqn_step grammar.arm_step grammar.body_step grammar.state_step (bare_eqn y)) w)
      (subst (λ es. Solves es a) (fold-roll-Eqn (List Equality) (List Equality) (List Equality) (List Equality) (types.eqn_step e) (types.arm_step e) (types.body_step e) (types.state_step e) (bare_eqn y)) m))))
      (λ x y is. subst (λ z. ArmTreeTyped (roll-Arm z)) is (λ visible c h l w m.
      subst (ArmWalkTyped f base) (sym (fold-roll-Arm Making ArmWalk Making StateWalk (make.eqn_step base names i) (make.arm_step base names i) (make.body_step base names i) (make.state_step base names i) (bare_arm y)))
      (arm-layer y visible c
      (subst (λ (u : Uses). u visible ≡ []) (fold-roll-Arm Uses Uses BodyUses Uses (used.eqn_step k) (used.arm_step k) (used.body_step k) (used.state_step k) (bare_arm y)) h)
      (subst (λ (o : Outline). EntriesKnown i o.entries) (fold-roll-Arm Outline Outline Outline StateOutline defined.eqn_step defined.arm_step defined.body_step defined.state_step (bare_arm y)) l)
      (subst AllWritten (fold-roll-Arm (List Written) (List Written) (List Written) (List Written) grammar.eqn_step grammar.arm_step grammar.body_step grammar.state_step (bare_arm y)) w)
      (subst (λ es. Solves es a) (fold-roll-Arm (List Equality) (List Equality) (List Equality) (List Equality) (types.eqn_step e) (types.arm_step e) (types.body_step e) (types.state_step e) (bare_arm y)) m))))
      (λ x y is. subst (λ z. BodyTreeTyped (roll-Body z)) is (λ visible c h l w m.
      let uses = fold-roll-Body Uses Uses BodyUses Uses (used.eqn_step k) (used.arm_step k) (used.body_step k) (used.state_step k) (bare_body y) in
      let b = body-layer y visible c
      (subst (λ (u : BodyUses). inside u visible ≡ []) uses h)
      (subst (λ (o : Outline). EntriesKnown i o.entries) (fold-roll-Body Outline Outline Outline StateOutline defined.eqn_step defined.arm_step defined.body_step defined.state_step (bare_body y)) l)
      (subst AllWritten (fold-roll-Body (List Written) (List Written) (List Written) (List Written) grammar.eqn_step grammar.arm_step grammar.body_step grammar.state_step (bare_body y)) w)
      (subst (λ es. Solves es a) (fold-roll-Body (List Equality) (List Equality) (List Equality) (List Equality) (types.eqn_step e) (types.arm_step e) (types.body_step e) (types.state_step e) (bare_body y)) m) in (
        subst (MakingTyped f base) (sym (fold-roll-Body Making ArmWalk Making StateWalk (make.eqn_step base names i) (make.arm_step base names i) (make.body_step base names i) (make.state_step base names i) (bare_body y))) b.0,
        subst (λ (u : BodyUses). Covers i (within u.locals visible)) (sym uses) b.1,
      )))
      (λ x y is. subst (λ z. StateTreeTyped (roll-State z)) is (λ visible c h l w m.
      subst (StateWalkTyped f base) (sym (fold-roll-State Making ArmWalk Making StateWalk (make.eqn_step base names i) (make.arm_step base names i) (make.body_step base names i) (make.state_step base names i) (bare_state y)))
      (state-layer y visible c
      (subst (λ (u : Uses). u visible ≡ []) (fold-roll-State Uses Uses BodyUses Uses (used.eqn_step k) (used.arm_step k) (used.body_step k) (used.state_step k) (bare_state y)) h)
      (subst (λ (o : StateOutline). EntriesKnown i o.outline.entries) (fold-roll-State Outline Outline Outline StateOutline defined.eqn_step defined.arm_step defined.body_step defined.state_step (bare_state y)) l)
      (subst AllWritten (fold-roll-State (List Written) (List Written) (List Written) (List Written) grammar.eqn_step grammar.arm_step grammar.body_step grammar.state_step (bare_state y)) w)
      (subst (λ es. Solves es a) (fold-roll-State (List Equality) (List Equality) (List Equality) (List Equality) (types.eqn_step e) (types.arm_step e) (types.body_step e) (types.state_step e) (bare_state y)) m))))
