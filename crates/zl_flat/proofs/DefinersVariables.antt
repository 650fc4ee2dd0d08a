-- The places of a copy's variables: those of different names are different, and parameters have the first ones.
use Rattle.std.proofs.Common.{◌≡◌, ◌⊎◌, inl, inr, ℕ, suc, ◌+◌, ◌≤◌, Bool, true, false, if◌then◌else◌, nat_eq, List, [], ◌∷◌, ◌++◌, map, length, Option, Some, None, refl, sym, ap, subst, ◌∙◌, arith}
use Rattle.std.specs.List.{AllByRecursion}
use Rattle.std.proofs.lemmas.Bool.{eqb-true, eq-eqb}
use Rattle.zl_value.specs.declared.value.Ty.{Ty}
use Rattle.zl_ast.specs.declared.name.Name.{Name}
use Rattle.zl_ast.specs.declared.scope.VarInfo.{VarInfo}
use Rattle.zl_ast.specs.declared.eqn.Eqn.{Eqn, roll-Eqn}
use Rattle.zl_ast.specs.declared.eqn.Arm.{Arm, roll-Arm}
use Rattle.zl_ast.specs.declared.eqn.Body.{Body, roll-Body}
use Rattle.zl_ast.specs.declared.eqn.State.{State, roll-State}
use Rattle.zl_ast.specs.declared.eqn.Eqn.TheOpen.{Eqn-F, Arm-F, Body-F, State-F}
use Rattle.zl_ast.specs.declared.eqn.Eqn.TheOpen as open_eqn
use Rattle.zl_ast.specs.declared.eqn.Eqn.TheFolds.{fold-roll-Eqn, fold-roll-Arm, fold-roll-Body, fold-roll-State, ind-Eqn, map-Eqn, map-Arm, map-Body, map-State}
use Rattle.zl_ast.specs.declared.program.Decl.{Decl}
use Rattle.zl_ast.specs.declared.program.Param.{Param}
use Rattle.zl_ast.specs.Names.{among}
use Rattle.zl_ast.specs.NamesDefined.{is_defined}
use Rattle.zl_ast.specs.Scopes.{param_ids, parameter}
use Rattle.zl_flat.specs.declared.variable.Variable.{Variable}
use Rattle.zl_flat.specs.declared.size.Size.{Size}
use Rattle.zl_flat.specs.Variables.{variable_of, variables, is_first}
use Rattle.zl_flat.specs.Sizes.{expr_size, exprs_size, start_size, reset_arm_size, cond_size, move_size, total}
use Rattle.zl_flat.specs.Numbering as numbering
use Rattle.zl_flat.specs.Numbering.{Numbering, no_places, both, in_turn, a_variable, of_calls, of_name, of_names, of_other, eqn_numbering, arm_numbering, body_numbering, state_numbering, decl_numbering}
use Rattle.zl_flat.proofs.WellFormedDecls.{Finds}
use Rattle.zl_flat.proofs.DefinersNames.{not-both, Entry}
use Rattle.zl_flat.proofs.DefinersDeclared.{neither-left, neither-right}

-- ---- numbers that rise

-- these numbers rise, from `lo` on, and are below `hi`
abbrev pub Rising : ℕ → List ℕ → ℕ → Type 0
Rising lo [] hi = lo ≤ hi
Rising lo (n ∷ ns) hi = (lo ≤ n) × Rising (n + 1) ns hi

-- from a lower number on
rising-lower : (lo mid : ℕ) (ns : List ℕ) (hi : ℕ) → lo ≤ mid → Rising mid ns hi → Rising lo ns hi
rising-lower lo mid [] hi le h = omega (arith, le, h)
rising-lower lo mid (n ∷ ns) hi le h = let first = h.0 in (omega (arith, le, first), h.1)

-- numbers of two lists, the ones behind the others
rising-append : (lo mid hi : ℕ) (ns ms : List ℕ) → Rising lo ns mid → Rising mid ms hi → Rising lo (ns ++ ms) hi
rising-append lo mid hi [] ms h k = rising-lower lo mid ms hi h k
rising-append lo mid hi (n ∷ ns) ms h k = (h.0, rising-append (n + 1) mid hi ns ms h.1 k)

-- the places of variables rise, from the next place on
abbrev pub IsRising : Numbering → Type 0
IsRising f = (n : ℕ) → Rising n (f n).own (f n).next

-- numberings
rising-none : IsRising no_places
rising-none n = omega arith

rising-variable : IsRising a_variable
rising-variable n = (omega arith, omega arith)

rising-calls : (z : Size) → IsRising (of_calls z)
rising-calls z n = omega arith

rising-both : (f g : Numbering) → IsRising f → IsRising g → IsRising (both f g)
rising-both f g hf hg n = rising-append n (f n).next (g (f n).next).next (f n).own (g (f n).next).own (hf n) (hg (f n).next)

rising-in_turn : (fs : List Numbering) → AllByRecursion IsRising fs → IsRising (in_turn fs)
rising-in_turn [] h n = rising-none n
rising-in_turn (f ∷ fs) h n = rising-both f (in_turn fs) h.0 (rising-in_turn fs h.1) n

module _ (vars : List VarInfo) (known : ℕ → Option Size) where
  -- names that are declared or defined
  rising-name : (x : Name) → IsRising (of_name vars known x)
  rising-name x n = by_first (is_first vars x)
    where
      by_first : (b : Bool) → Rising n ((if b then a_variable else no_places) n).own ((if b then a_variable else no_places) n).next
      by_first true = rising-variable n
      by_first false = rising-none n

  all-names : (xs : List Name) → AllByRecursion IsRising (map (of_name vars known) xs)
  all-names [] = tt
  all-names (x ∷ xs) = (rising-name x, all-names xs)

  rising-names : (xs : List Name) → IsRising (of_names vars known xs)
  rising-names xs = rising-in_turn (map (of_name vars known) xs) (all-names xs)

  -- the numbers of an equation, an arm, a body, a state rise
  abbrev EqnRises : Eqn → Type 0
  EqnRises e = IsRising (eqn_numbering vars known e)

  abbrev ArmRises : Arm → Type 0
  ArmRises a = IsRising (arm_numbering vars known a)

  abbrev BodyRises : Body → Type 0
  BodyRises b = IsRising (body_numbering vars known b)

  abbrev StateRises : State → Type 0
  StateRises s = IsRising (state_numbering vars known s)

  abbrev TheEqn : Type 0
  TheEqn = (e : Eqn) × EqnRises e

  abbrev TheArm : Type 0
  TheArm = (a : Arm) × ArmRises a

  abbrev TheBody : Type 0
  TheBody = (b : Body) × BodyRises b

  abbrev TheState : Type 0
  TheState = (s : State) × StateRises s

  -- equations, arms and states one behind the other
  eqs-rise : (es : List TheEqn) → AllByRecursion IsRising (map (eqn_numbering vars known) (map (λ e. e.0) es))
  eqs-rise [] = tt
  eqs-rise (e ∷ es) = (e.1, eqs-rise es)

  arms-rise : (es : List TheArm) → AllByRecursion IsRising (map (arm_numbering vars known) (map (λ e. e.0) es))
  arms-rise [] = tt
  arms-rise (e ∷ es) = (e.1, arms-rise es)

  states-rise : (es : List TheState) → AllByRecursion IsRising (map (state_numbering vars known) (map (λ e. e.0) es))
  states-rise [] = tt
  states-rise (e ∷ es) = (e.1, states-rise es)

  -- one layer of a tree
  eqn-layer : (e : Eqn-F TheEqn TheArm TheBody TheState) →
      IsRising (numbering.eqn_step vars known (map-Eqn Eqn Arm Body State Numbering Numbering Numbering Numbering (eqn_numbering vars known) (arm_numbering vars known) (body_numbering vars known) (state_numbering vars known) (map-Eqn TheEqn TheArm TheBody TheState Eqn Arm Body State (λ e. e.0) (λ a. a.0) (λ b. b.0) (λ s. s.0) e)))
  eqn-layer (open_eqn.Plain left right) n = rising-both (of_names vars known left) (of_calls (expr_size vars known right)) (rising-names left) (rising-calls (expr_size vars known right)) n
  eqn-layer (open_eqn.Der at x slope start resets) n =
      let a = of_calls (expr_size vars known slope) in
      let b = of_calls (start_size vars known start) in
      let c = of_calls (total (map (reset_arm_size vars known) resets)) in
      rising-both (of_name vars known x) (both a (both b c)) (rising-name x)
      (rising-both a (both b c) (rising-calls (expr_size vars known slope)) (rising-both b c (rising-calls (start_size vars known start)) (rising-calls (total (map (reset_arm_size vars known) resets))))) n
  eqn-layer (open_eqn.Start at x value) n = rising-both (of_name vars known x) (of_calls (expr_size vars known value)) (rising-name x) (rising-calls (expr_size vars known value)) n
  eqn-layer (open_eqn.Present at arms None) n =
      let fs = map (arm_numbering vars known) (map (λ a. a.0) arms) in
      rising-both (in_turn fs) no_places (rising-in_turn fs (arms-rise arms)) rising-none n
  eqn-layer (open_eqn.Present at arms (Some b)) n =
      let fs = map (arm_numbering vars known) (map (λ a. a.0) arms) in
      rising-both (in_turn fs) (body_numbering vars known b.0) (rising-in_turn fs (arms-rise arms)) b.1 n
  eqn-layer (open_eqn.Automaton at states) n = rising-in_turn (map (state_numbering vars known) (map (λ s. s.0) states)) (states-rise states) n
  eqn-layer (open_eqn.Reset at eqs z) n =
      let fs = map (eqn_numbering vars known) (map (λ e. e.0) eqs) in
      rising-both (in_turn fs) (of_calls (cond_size vars known z)) (rising-in_turn fs (eqs-rise eqs)) (rising-calls (cond_size vars known z)) n

  arm-layer : (a : Arm-F TheEqn TheArm TheBody TheState) →
      IsRising (numbering.arm_step vars known (map-Arm Eqn Arm Body State Numbering Numbering Numbering Numbering (eqn_numbering vars known) (arm_numbering vars known) (body_numbering vars known) (state_numbering vars known) (map-Arm TheEqn TheArm TheBody TheState Eqn Arm Body State (λ e. e.0) (λ a. a.0) (λ b. b.0) (λ s. s.0) a)))
  arm-layer a n = rising-both (of_calls (cond_size vars known a.cond)) (body_numbering vars known a.body.0) (rising-calls (cond_size vars known a.cond)) a.body.1 n

  body-layer : (b : Body-F TheEqn TheArm TheBody TheState) →
      IsRising (numbering.body_step vars known (map-Body Eqn Arm Body State Numbering Numbering Numbering Numbering (eqn_numbering vars known) (arm_numbering vars known) (body_numbering vars known) (state_numbering vars known) (map-Body TheEqn TheArm TheBody TheState Eqn Arm Body State (λ e. e.0) (λ a. a.0) (λ b. b.0) (λ s. s.0) b)))
  body-layer b n =
      let fs = map (eqn_numbering vars known) (map (λ e. e.0) b.eqs) in
      rising-both (of_names vars known b.locals) (in_turn fs) (rising-names b.locals) (rising-in_turn fs (eqs-rise b.eqs)) n

  state-layer : (s : State-F TheEqn TheArm TheBody TheState) →
      IsRising (numbering.state_step vars known (map-State Eqn Arm Body State Numbering Numbering Numbering Numbering (eqn_numbering vars known) (arm_numbering vars known) (body_numbering vars known) (state_numbering vars known) (map-State TheEqn TheArm TheBody TheState Eqn Arm Body State (λ e. e.0) (λ a. a.0) (λ b. b.0) (λ s. s.0) s)))
  state-layer s n = let z = total (map (move_size vars known) s.moves) in rising-both (body_numbering vars known s.body.0) (of_calls z) s.body.1 (rising-calls z) n

  eqn-rises : (e : Eqn) → EqnRises e
  unfolding eqn_numbering arm_numbering body_numbering state_numbering
  eqn-rises = ind-Eqn EqnRises ArmRises BodyRises StateRises
      (λ x y is. subst (λ z. EqnRises (roll-Eqn z)) is
      (subst IsRising (sym (fold-roll-Eqn Numbering Numbering Numbering Numbering (numbering.eqn_step vars known) (numbering.arm_step vars known) (numbering.body_step vars known) (numbering.state_step vars known) (map-Eqn TheEqn TheArm TheBody TheState Eqn Arm Body State (λ e. e.0) (λ a. a.0) (λ b. b.0) (λ s. s.0) y))) (eqn-layer y)))
      (λ x y is. subst (λ z. ArmRises (roll-Arm z)) is
      (subst IsRising (sym (fold-roll-Arm Numbering Numbering Numbering Numbering (numbering.eqn_step vars known) (numbering.arm_step vars known) (numbering.body_step vars known) (numbering.state_step vars known) (map-Arm TheEqn TheArm TheBody TheState Eqn Arm Body State (λ e. e.0) (λ a. a.0) (λ b. b.0) (λ s. s.0) y))) (arm-layer y)))
      (λ x y is. subst (λ z. BodyRises (roll-Body z)) is
      (subst IsRising (sym (fold-roll-Body Numbering Numbering Numbering Numbering (numbering.eqn_step vars known) (numbering.arm_step vars known) (numbering.body_step vars known) (numbering.state_step vars known) (map-Body TheEqn TheArm TheBody TheState Eqn Arm Body State (λ e. e.0) (λ a. a.0) (λ b. b.0) (λ s. s.0) y))) (body-layer y)))
      (λ x y is. subst (λ z. StateRises (roll-State z)) is
      (subst IsRising (sym (fold-roll-State Numbering Numbering Numbering Numbering (numbering.eqn_step vars known) (numbering.arm_step vars known) (numbering.body_step vars known) (numbering.state_step vars known) (map-State TheEqn TheArm TheBody TheState Eqn Arm Body State (λ e. e.0) (λ a. a.0) (λ b. b.0) (λ s. s.0) y))) (state-layer y)))

  all-eqns : (es : List Eqn) → AllByRecursion IsRising (map (eqn_numbering vars known) es)
  all-eqns [] = tt
  all-eqns (e ∷ es) = (eqn-rises e, all-eqns es)

  -- the numbers behind those of the parameters
  abbrev after_params : Decl → Numbering
  after_params d = both (of_calls (exprs_size vars known d.results)) (in_turn (map (eqn_numbering vars known) d.eqs))

  rising-after : (d : Decl) → IsRising (after_params d)
  rising-after d = rising-both (of_calls (exprs_size vars known d.results)) (in_turn (map (eqn_numbering vars known) d.eqs)) (rising-calls (exprs_size vars known d.results)) (rising-in_turn (map (eqn_numbering vars known) d.eqs) (all-eqns d.eqs))

  -- the numbers of the parameters
  rising-params : (ps : List Param) → IsRising (in_turn (map (λ p. a_variable) ps))
  rising-params [] n = rising-none n
  rising-params (p ∷ ps) n = rising-both a_variable (in_turn (map (λ p. a_variable) ps)) rising-variable (rising-params ps) n

  -- the places of the variables of a declaration rise
  pub decl-rises : (d : Decl) → IsRising (decl_numbering vars known d)
  unfolding decl_numbering
  decl-rises d n = rising-both (in_turn (map (λ p. a_variable) d.params)) (after_params d) (rising-params d.params) (rising-after d) n

-- ---- variables with their places

same-variable : (v w : Variable) → Some v ≡ Some w → v.place ≡ w.place
same-variable v w e = cc

-- where places rise from a number on, none is less
at-least : (lo hi : ℕ) (infos : List VarInfo) (types : List Ty) (own : List ℕ) → Rising lo own hi → (id : ℕ) (v : Variable) → variable_of (variables infos types own) id ≡ Some v → lo ≤ v.place
at-least lo hi [] types own h id v is = absurd (cc)
at-least lo hi (x ∷ infos) [] own h id v is = absurd (cc)
at-least lo hi (x ∷ infos) (ty ∷ types) [] h id v is = absurd (cc)
at-least lo hi (x ∷ infos) (ty ∷ types) (n ∷ own) h id v is = by_equal (nat_eq x.name id) is (at-least (n + 1) hi infos types own h.1 id v)
  where
    by_equal : (b : Bool) → (if b then Some (record { name = x.name; ty = ty; place = n }) else variable_of (variables infos types own) id) ≡ Some v → (variable_of (variables infos types own) id ≡ Some v → n + 1 ≤ v.place) → lo ≤ v.place
    by_equal true e more = let same = same-variable (record { name = x.name; ty = ty; place = n }) v e in let le = h.0 in omega (arith, same, le)
    by_equal false e more = let le = h.0 in let rest = more e in omega (arith, le, rest)

-- variables of one place have one name
pub places-differ : (lo hi : ℕ) (infos : List VarInfo) (types : List Ty) (own : List ℕ) → Rising lo own hi → (a b : ℕ) (v w : Variable) →
    variable_of (variables infos types own) a ≡ Some v → variable_of (variables infos types own) b ≡ Some w → v.place ≡ w.place → a ≡ b
places-differ lo hi [] types own h a b v w is js e = absurd (cc)
places-differ lo hi (x ∷ infos) [] own h a b v w is js e = absurd (cc)
places-differ lo hi (x ∷ infos) (ty ∷ types) [] h a b v w is js e = absurd (cc)
places-differ lo hi (x ∷ infos) (ty ∷ types) (n ∷ own) h a b v w is js e = by_equal (nat_eq x.name a) (nat_eq x.name b) refl refl is js (λ j k. places-differ (n + 1) hi infos types own h.1 a b v w j k e)
  where
    first : Variable
    first = record { name = x.name; ty = ty; place = n }

    rest : ℕ → Option Variable
    rest id = variable_of (variables infos types own) id

    by_equal : (c d : Bool) → nat_eq x.name a ≡ c → nat_eq x.name b ≡ d → (if c then Some first else rest a) ≡ Some v → (if d then Some first else rest b) ≡ Some w → (rest a ≡ Some v → rest b ≡ Some w → a ≡ b) → a ≡ b
    by_equal true true f g j k more = sym (eqb-true x.name a f) ∙ eqb-true x.name b g
    by_equal true false f g j k more = let le = at-least (n + 1) hi infos types own h.1 b w k in let same = same-variable first v j in absurd (omega (arith, le, same, e))
    by_equal false true f g j k more = let le = at-least (n + 1) hi infos types own h.1 a v j in let same = same-variable first w k in absurd (omega (arith, le, same, e))
    by_equal false false f g j k more = more j k

-- behind the parameters: as many numbers later
pub count-params : (ps : List Param) (n : ℕ) → (in_turn (map (λ p. a_variable) ps) n).next ≡ n + length ps
count-params [] n = omega arith
count-params (p ∷ ps) n = let rest = count-params ps (n + 1) in omega (arith, rest)

-- a variable that is none of these parameters has a place behind theirs
behind-them : (ps : List Param) (infos : List VarInfo) (types : List Ty) (more : List ℕ) (n hi : ℕ) → Rising (n + length ps) more hi → (id : ℕ) → among (param_ids ps) id ≡ false → (v : Variable) →
    variable_of (variables (map parameter ps ++ infos) types ((in_turn (map (λ p. a_variable) ps) n).own ++ more)) id ≡ Some v → n + length ps ≤ v.place
behind-them [] infos types more n hi h id m v is = at-least (n + 0) hi infos types more h id v is
behind-them (p ∷ ps) infos [] more n hi h id m v is = absurd (cc)
behind-them (p ∷ ps) infos (ty ∷ types) more n hi h id m v is =
    by_equal (nat_eq p.name.id id) refl is
    (λ e. let le = behind-them ps infos types more (n + 1) hi (subst (λ k. Rising k more hi) (one_more n (length ps)) h) id (neither-right (nat_eq id p.name.id) (among (param_ids ps) id) m) v e in omega (arith, le))
  where
    one_more : (n k : ℕ) → n + suc k ≡ n + 1 + k
    one_more n k = omega arith

    rest : Option Variable
    rest = variable_of (variables (map parameter ps ++ infos) types ((in_turn (map (λ p. a_variable) ps) (n + 1)).own ++ more)) id

    by_equal : (b : Bool) → nat_eq p.name.id id ≡ b → (if b then Some (record { name = p.name.id; ty = ty; place = n }) else rest) ≡ Some v → (rest ≡ Some v → n + suc (length ps) ≤ v.place) → n + suc (length ps) ≤ v.place
    by_equal true f e more = absurd (not-both (nat_eq id p.name.id) (eq-eqb id p.name.id (sym (eqb-true p.name.id id f))) (neither-left (nat_eq id p.name.id) (among (param_ids ps) id) m))
    by_equal false f e more = more e

-- a variable that is no parameter has a place behind those of the parameters
pub behind-params : (vars : List VarInfo) (known : ℕ → Option Size) (d : Decl) (infos : List VarInfo) (types : List Ty) (n id : ℕ) → among (param_ids d.params) id ≡ false → (v : Variable) →
    variable_of (variables (map parameter d.params ++ infos) types (decl_numbering vars known d n).own) id ≡ Some v → n + length d.params ≤ v.place
unfolding decl_numbering
behind-params vars known d infos types n id m v is =
    let f = after_params vars known d in
    let next = (in_turn (map (λ p. a_variable) d.params) n).next in
    behind-them d.params infos types (f next).own n (f next).next (subst (λ k. Rising k (f next).own (f next).next) (count-params d.params n) (rising-after vars known d next)) id m v is

-- ---- variables that are there

-- a name that is that of the first variable or of a later one
first-or-later : (v : Variable) (vs : List Variable) (id : ℕ) → (v.name ≡ id) ⊎ Finds vs id → Finds (v ∷ vs) id
first-or-later v vs id h = by_equal (nat_eq v.name id) refl h
  where
    by_equal : (b : Bool) → nat_eq v.name id ≡ b → (v.name ≡ id) ⊎ Finds vs id → Finds (v ∷ vs) id
    by_equal true e h = record { variable = v; is = ap (λ b. if b then Some v else variable_of vs id) e }
    by_equal false e (inl h) = absurd (not-both (nat_eq v.name id) (eq-eqb v.name id h) e)
    by_equal false e (inr h) = record { variable = h.variable; is = ap (λ b. if b then Some v else variable_of vs id) e ∙ h.is }

-- each name of the infos is that of a variable
has-variable : (infos : List VarInfo) (types : List Ty) (own : List ℕ) → length types ≡ length infos → length own ≡ length infos → (d : Bool) (id : ℕ) → Entry d id infos → Finds (variables infos types own) id
has-variable [] types own t p d id h = absurd h
has-variable (x ∷ infos) [] own t p d id h = absurd (omega (arith, t))
has-variable (x ∷ infos) (ty ∷ types) [] t p d id h = absurd (omega (arith, p))
has-variable (x ∷ infos) (ty ∷ types) (n ∷ own) t p d id (inl h) = first-or-later (record { name = x.name; ty = ty; place = n }) (variables infos types own) id (inl h.1)
has-variable (x ∷ infos) (ty ∷ types) (n ∷ own) t p d id (inr h) = first-or-later (record { name = x.name; ty = ty; place = n }) (variables infos types own) id (inr (has-variable infos types own (omega (arith, t)) (omega (arith, p)) d id h))

-- what holds of the name of any entry holds of each
each-entry : (K : ℕ → Type 0) (vs : List VarInfo) → ((d : Bool) (id : ℕ) → Entry d id vs → K id) → AllByRecursion (λ (v : VarInfo). K v.name) vs
each-entry K [] h = tt
each-entry K (v ∷ vs) h = (h (is_defined v) v.name (inl (refl, refl)), each-entry K vs (λ d id k. h d id (inr k)))

-- each name of the infos is found
pub each-found : (infos : List VarInfo) (types : List Ty) (own : List ℕ) → length types ≡ length infos → length own ≡ length infos → AllByRecursion (λ (v : VarInfo). Finds (variables infos types own) v.name) infos
each-found infos types own t p = each-entry (Finds (variables infos types own)) infos (has-variable infos types own t p)
