-- The places that numbering gives to the variables of a copy are made in it: they have its call.
use Rattle.std.proofs.Common.{◌≡◌, ℕ, ◌+◌, Bool, true, false, if◌then◌else◌, List, [], ◌∷◌, map, length, Option, Some, None, refl, sym, ap, subst, ◌∙◌, arith}
use Rattle.std.specs.List.{AllByRecursion}
use Rattle.std.specs.Option.{option_and_then}
use Rattle.std.proofs.lemmas.List.{length-append}
use Rattle.zl_ast.specs.declared.name.Name.{Name}
use Rattle.zl_ast.specs.declared.expr.Expr.{Expr}
use Rattle.zl_ast.specs.declared.eqn.Eqn.{Eqn, roll-Eqn}
use Rattle.zl_ast.specs.declared.eqn.Arm.{Arm, roll-Arm}
use Rattle.zl_ast.specs.declared.eqn.Body.{Body, roll-Body}
use Rattle.zl_ast.specs.declared.eqn.State.{State, roll-State}
use Rattle.zl_ast.specs.declared.eqn.Cond.{Cond}
use Rattle.zl_ast.specs.declared.eqn.Cond.TheVariants.{Event}
use Rattle.zl_ast.specs.declared.eqn.ResetArm.{ResetArm}
use Rattle.zl_ast.specs.declared.eqn.Move.{Move}
use Rattle.zl_ast.specs.declared.eqn.Eqn.TheOpen.{Eqn-F, Arm-F, Body-F, State-F}
use Rattle.zl_ast.specs.declared.eqn.Eqn.TheOpen as open_eqn
use Rattle.zl_ast.specs.declared.eqn.Eqn.TheFolds.{fold-roll-Eqn, fold-roll-Arm, fold-roll-Body, fold-roll-State, ind-Eqn, map-Eqn, map-Arm, map-Body, map-State}
use Rattle.zl_meaning.specs.FlatForm.{FlatForm, place_call}
use Rattle.zl_meaning.specs.declared.block.Block.{Block}
use Rattle.zl_meaning.specs.declared.block.Choice.{Choice}
use Rattle.zl_meaning.specs.declared.block.Auto.{Auto}
use Rattle.zl_meaning.specs.declared.place.PlaceInfo.{PlaceInfo}
use Rattle.zl_flat.specs.declared.here.Here.{Here}
use Rattle.zl_flat.specs.declared.size.Size.{Size}
use Rattle.zl_flat.specs.declared.given.Given.{Given}
use Rattle.zl_flat.specs.Parts.{Parts, Counters, nothing, joined, one_block, one_place, some_definers, one_choice, one_automaton, after, past_block, past_choice, past_automaton}
use Rattle.zl_flat.specs.Variables.{variable_of, is_first}
use Rattle.zl_flat.specs.Sizes.{none, plus, expr_size, start_size, reset_arm_size, cond_size, move_size, ups_size, total}
use Rattle.zl_flat.specs.Numbering as numbering
use Rattle.zl_flat.specs.Numbering.{Numbering, no_places, both, a_variable, of_calls, of_name, of_names, eqn_numbering, arm_numbering, body_numbering, state_numbering}
use Rattle.zl_flat.specs.Instances.{Instance, in_body, in_block, place_here}
use Rattle.zl_flat.specs.Expressions.{expr_walk}
use Rattle.zl_flat.specs.Equations as make
use Rattle.zl_flat.specs.Equations.{Making, in_turn, ArmWalk, StateWalk, arms_made, states_made, place_type, name_made, names_made, cond_walk, reset_arm_walk, start_walk, start_made, resets_made, moves_made, move_walk, condition_place, eqn_walk, arm_walk, body_walk, one_state_walk}
use Rattle.zl_flat.proofs.PartsLaws.{after-block, after-choice, after-automaton}
use Rattle.zl_flat.proofs.WellFormedParts.{all-append, each-left, each-right, the_place}
use Rattle.zl_flat.proofs.WellFormedGround.{IsPlaceAt, standing, Sits}
use Rattle.zl_flat.proofs.WellFormedSizes.{IsSized, expr-makes}
use Rattle.zl_flat.proofs.WellFormedSizesEqns.{cond-makes}
use Rattle.zl_flat.proofs.DefinersOwn.{of-both}

-- ---- the words

-- the places are as many as this numbering says, and those of variables have this call where the parts stand in the form
abbrev pub Numbers : FlatForm → ℕ → Option ℕ → Numbering → Counters → Parts → Type 0
Numbers f base call n s p = ((n s.places).next ≡ s.places + length p.places) × (Sits f base s p → AllByRecursion (λ k. place_call f k ≡ call) (n s.places).own)

-- how many places there are
pub joined-places : (p q : Parts) → length (joined p q).places ≡ length p.places + length q.places
unfolding joined
joined-places p q = length-append p.places q.places

plus-places : (y z : Size) → (plus y z).places ≡ y.places + z.places
unfolding plus
plus-places y z = refl

definers-places : (xs : List Given) → (some_definers xs).places ≡ []
unfolding some_definers
definers-places xs = refl

nothing-places : nothing.places ≡ []
unfolding nothing
nothing-places = refl

no-places : length nothing.places ≡ none.places
unfolding nothing none
no-places = refl

block-places : (x : Block) → (one_block x).places ≡ []
unfolding one_block
block-places x = refl

choice-places : (x : Choice) → (one_choice x).places ≡ []
unfolding one_choice
choice-places x = refl

automaton-places : (x : Auto) → (one_automaton x).places ≡ []
unfolding one_automaton
automaton-places x = refl

place-places : (x : PlaceInfo) → length (one_place x).places ≡ 1
unfolding one_place
place-places x = refl

-- the call of a place that stands in the form
pub call-at : (f : FlatForm) (n : ℕ) (x : PlaceInfo) → IsPlaceAt f n x → place_call f n ≡ x.call
call-at f n x h = ap (option_and_then (λ (place : PlaceInfo). place.call)) h.is ∙ h.call

module _ (f : FlatForm) (base : ℕ) (call : Option ℕ) where
  -- what is made one behind the other
  pub numbers-joined : (n m : Numbering) (s : Counters) (p q : Parts) → Numbers f base call n s p → Numbers f base call m (after s p) q → Numbers f base call (both n m) s (joined p q)
  unfolding after
  numbers-joined n m s p q h k =
      let count = joined-places p q in
      let next = k.0 in (
        ap (λ j. (m j).next) h.0 ∙ omega (arith, count, next),
        λ sits. all-append (λ j. place_call f j ≡ call) (n s.places).own (m (n s.places).next).own (h.1 (each-left (standing f base) s p q sits))
            (subst (λ j. AllByRecursion (λ l. place_call f l ≡ call) (m j).own) (sym h.0) (k.1 (each-right (standing f base) s p q sits))),
      )

  -- what makes no place
  numbers-flat : (s : Counters) (p : Parts) → p.places ≡ [] → Numbers f base call no_places s p
  numbers-flat s p e = let count : length p.places ≡ 0 = ap length e in (omega (arith, count), λ sits. tt)

  pub numbers-nothing : (s : Counters) → Numbers f base call no_places s nothing
  numbers-nothing s = numbers-flat s nothing nothing-places

  -- what makes places of calls alone
  pub numbers-calls : (z : Size) (s : Counters) (p : Parts) → length p.places ≡ z.places → Numbers f base call (of_calls z) s p
  numbers-calls z s p e = (omega (arith, e), λ sits. tt)

  -- what makes no place first
  numbers-behind : (n : Numbering) (s t : Counters) (p q : Parts) → p.places ≡ [] → after s p ≡ t → Numbers f base call n t q → Numbers f base call n s (joined p q)
  numbers-behind n s t p q e same h = numbers-joined no_places n s p q (numbers-flat s p e) (subst (λ u. Numbers f base call n u q) (sym same) h)

  -- a block, a choice or an automaton, and what is made behind it
  numbers-block : (n : Numbering) (s : Counters) (x : Block) (q : Parts) → Numbers f base call n (past_block s) q → Numbers f base call n s (joined (one_block x) q)
  numbers-block n s x q h = numbers-behind n s (past_block s) (one_block x) q (block-places x) (after-block s x) h

  numbers-choice : (n : Numbering) (s : Counters) (x : Choice) (q : Parts) → Numbers f base call n (past_choice s) q → Numbers f base call n s (joined (one_choice x) q)
  numbers-choice n s x q h = numbers-behind n s (past_choice s) (one_choice x) q (choice-places x) (after-choice s x) h

  numbers-automaton : (n : Numbering) (s : Counters) (x : Auto) (q : Parts) → Numbers f base call n (past_automaton s) q → Numbers f base call n s (joined (one_automaton x) q)
  numbers-automaton n s x q h = numbers-behind n s (past_automaton s) (one_automaton x) q (automaton-places x) (after-automaton s x) h

  -- what calls make, and then definers
  numbers-definers : (z : Size) (s : Counters) (p : Parts) (xs : List Given) → length p.places ≡ z.places → Numbers f base call (of_calls z) s (joined p (some_definers xs))
  numbers-definers z s p xs e = numbers-joined (of_calls z) no_places s p (some_definers xs) (numbers-calls z s p e) (numbers-flat (after s p) (some_definers xs) (definers-places xs))

  -- the place of a variable
  numbers-one : (s : Counters) (x : PlaceInfo) → x.call ≡ call → Numbers f base call a_variable s (one_place x)
  numbers-one s x e = let count = place-places x in (omega (arith, count), λ sits. (call-at f s.places x (the_place (standing f base) s x sits) ∙ e, tt))

-- ---- walks

module _ (f : FlatForm) (base : ℕ) where
  -- what is made numbers its places so
  abbrev pub MakingNumbers : Making → Numbering → Type 0
  MakingNumbers m n = (here : Here) (s : Counters) → Numbers f base here.call n s (m here s)

  abbrev pub ArmWalkNumbers : ArmWalk → Numbering → Type 0
  ArmWalkNumbers w n = (of number : ℕ) (here : Here) (s : Counters) → Numbers f base here.call n s (w of number here s).parts

  abbrev pub StateWalkNumbers : StateWalk → Numbering → Type 0
  StateWalkNumbers w n = (of number : ℕ) (states : List ℕ) (here : Here) (s : Counters) → Numbers f base here.call n s (w.walk of number states here s).parts

  module _ (names : List (List ℕ)) (i : Instance) (known : ℕ → Option Size) where
    -- names that are declared or defined
    name-numbers : (x : Name) → MakingNumbers (name_made base names i x) (of_name i.infos known x)
    name-numbers x here s = by_first (is_first i.infos x)
      where
        by_first : (b : Bool) → Numbers f base here.call (if b then a_variable else no_places) s (if b then one_place (place_here here (place_type (variable_of i.variables x.id)) x.id x.at) else nothing)
        by_first true = numbers-one f base here.call s (place_here here (place_type (variable_of i.variables x.id)) x.id x.at) refl
        by_first false = numbers-nothing f base here.call s

    names-number : (xs : List Name) → MakingNumbers (names_made base names i xs) (of_names i.infos known xs)
    names-number [] here s = numbers-nothing f base here.call s
    names-number (x ∷ xs) here s =
        let first = name_made base names i x here s in
        numbers-joined f base here.call (of_name i.infos known x) (of_names i.infos known xs) s first (names_made base names i xs here (after s first)) (name-numbers x here s) (names-number xs here (after s first))

    module _ (sized : IsSized names i known) where
      -- ---- places of calls alone

      expr-places : (x : Expr) (here : Here) (s : Counters) → length (expr_walk base names i x here s).parts.places ≡ (expr_size i.infos known x).places
      expr-places x here s = (expr-makes base names i known sized x here s).places

      cond-places : (z : Cond) (here : Here) (s : Counters) → length (cond_walk base names i z here s).parts.places ≡ (cond_size i.infos known z).places
      cond-places z here s = (cond-makes base names i known sized z here s).places

      start-places : (start : Option Expr) (here : Here) (s : Counters) → length (start_made base names i (start_walk base names i start) here s).parts.places ≡ (start_size i.infos known start).places
      start-places None here s = no-places
      start-places (Some x) here s = expr-places x here s

      resets-places : (rs : List ResetArm) (here : Here) (s : Counters) → length (resets_made base names i (map (reset_arm_walk base names i) rs) here s).parts.places ≡ (total (map (reset_arm_size i.infos known) rs)).places
      resets-places [] here s = no-places
      resets-places (r ∷ rs) here s =
          let test = cond_walk base names i (Event r.event) here s in
          let t = after s test.parts in
          let value = expr_walk base names i r.value here t in
          let u = after t value.parts in
          let rest = resets_made base names i (map (reset_arm_walk base names i) rs) here u in
          let a = joined-places test.parts (joined value.parts rest.parts) in
          let b = joined-places value.parts rest.parts in
          let c = plus-places (reset_arm_size i.infos known r) (total (map (reset_arm_size i.infos known) rs)) in
          let d = plus-places (ups_size i.infos known r.event) (expr_size i.infos known r.value) in
          let e = cond-places (Event r.event) here s in
          let g = expr-places r.value here t in
          let h = resets-places rs here u in
          omega (arith, a, b, c, d, e, g, h)

      moves-places : (ms : List Move) (guard body : ℕ) (states : List ℕ) (here : Here) (s : Counters) → length (moves_made base names i (map (move_walk base names i) ms) guard body states here s).parts.places ≡ (total (map (move_size i.infos known) ms)).places
      moves-places [] guard body states here s = no-places
      moves-places (m ∷ ms) guard body states here s =
          let inside = condition_place m.strong guard body here in
          let test = cond_walk base names i m.cond inside s in
          let rest = moves_made base names i (map (move_walk base names i) ms) guard body states here (after s test.parts) in
          let a = joined-places test.parts rest.parts in
          let b = plus-places (move_size i.infos known m) (total (map (move_size i.infos known) ms)) in
          let c = cond-places m.cond inside s in
          let d = moves-places ms guard body states here (after s test.parts) in
          omega (arith, a, b, c, d)

      -- ---- down the tree

      -- it holds of an equation, an arm, a body, a state
      abbrev EqnNumbers : Eqn → Type 0
      EqnNumbers e = MakingNumbers (eqn_walk base names i e) (eqn_numbering i.infos known e)

      abbrev ArmNumbers : Arm → Type 0
      ArmNumbers a = ArmWalkNumbers (arm_walk base names i a) (arm_numbering i.infos known a)

      abbrev BodyNumbers : Body → Type 0
      BodyNumbers b = MakingNumbers (body_walk base names i b) (body_numbering i.infos known b)

      abbrev StateNumbers : State → Type 0
      StateNumbers s = StateWalkNumbers (one_state_walk base names i s) (state_numbering i.infos known s)

      abbrev TheEqn : Type 0
      TheEqn = (e : Eqn) × EqnNumbers e

      abbrev TheArm : Type 0
      TheArm = (a : Arm) × ArmNumbers a

      abbrev TheBody : Type 0
      TheBody = (b : Body) × BodyNumbers b

      abbrev TheState : Type 0
      TheState = (s : State) × StateNumbers s

      -- equations, arms and states one behind the other
      eqs-number : (es : List TheEqn) → MakingNumbers (in_turn (map (eqn_walk base names i) (map (λ e. e.0) es))) (numbering.in_turn (map (eqn_numbering i.infos known) (map (λ e. e.0) es)))
      eqs-number [] here s = numbers-nothing f base here.call s
      eqs-number (e ∷ es) here s = numbers-joined f base here.call (eqn_numbering i.infos known e.0) (numbering.in_turn (map (eqn_numbering i.infos known) (map (λ e. e.0) es))) s _ _ (e.1 here s) (eqs-number es here _)

      arms-number : (es : List TheArm) (of number : ℕ) (here : Here) (s : Counters) →
          Numbers f base here.call (numbering.in_turn (map (arm_numbering i.infos known) (map (λ e. e.0) es))) s (arms_made (map (arm_walk base names i) (map (λ e. e.0) es)) of number here s).parts
      arms-number [] of number here s = numbers-nothing f base here.call s
      arms-number (e ∷ es) of number here s = numbers-joined f base here.call (arm_numbering i.infos known e.0) (numbering.in_turn (map (arm_numbering i.infos known) (map (λ e. e.0) es))) s _ _ (e.1 of number here s) (arms-number es of (number + 1) here _)

      states-number : (es : List TheState) (of number : ℕ) (all : List ℕ) (here : Here) (s : Counters) →
          Numbers f base here.call (numbering.in_turn (map (state_numbering i.infos known) (map (λ e. e.0) es))) s (states_made (map (one_state_walk base names i) (map (λ e. e.0) es)) of number all here s).parts
      states-number [] of number all here s = numbers-nothing f base here.call s
      states-number (e ∷ es) of number all here s = numbers-joined f base here.call (state_numbering i.infos known e.0) (numbering.in_turn (map (state_numbering i.infos known) (map (λ e. e.0) es))) s _ _ (e.1 of number all here s) (states-number es of (number + 1) all here _)

      -- what is made of one layer of a tree, and its numbering
      abbrev eqn_made : Eqn-F TheEqn TheArm TheBody TheState → Making
      eqn_made e = make.eqn_step base names i (map-Eqn Eqn Arm Body State Making ArmWalk Making StateWalk (eqn_walk base names i) (arm_walk base names i) (body_walk base names i) (one_state_walk base names i) (map-Eqn TheEqn TheArm TheBody TheState Eqn Arm Body State (λ e. e.0) (λ a. a.0) (λ b. b.0) (λ s. s.0) e))

      abbrev eqn_numbered : Eqn-F TheEqn TheArm TheBody TheState → Numbering
      eqn_numbered e = numbering.eqn_step i.infos known (map-Eqn Eqn Arm Body State Numbering Numbering Numbering Numbering (eqn_numbering i.infos known) (arm_numbering i.infos known) (body_numbering i.infos known) (state_numbering i.infos known) (map-Eqn TheEqn TheArm TheBody TheState Eqn Arm Body State (λ e. e.0) (λ a. a.0) (λ b. b.0) (λ s. s.0) e))

      abbrev arm_walked : Arm-F TheEqn TheArm TheBody TheState → ArmWalk
      arm_walked a = make.arm_step base names i (map-Arm Eqn Arm Body State Making ArmWalk Making StateWalk (eqn_walk base names i) (arm_walk base names i) (body_walk base names i) (one_state_walk base names i) (map-Arm TheEqn TheArm TheBody TheState Eqn Arm Body State (λ e. e.0) (λ a. a.0) (λ b. b.0) (λ s. s.0) a))

      abbrev arm_numbered : Arm-F TheEqn TheArm TheBody TheState → Numbering
      arm_numbered a = numbering.arm_step i.infos known (map-Arm Eqn Arm Body State Numbering Numbering Numbering Numbering (eqn_numbering i.infos known) (arm_numbering i.infos known) (body_numbering i.infos known) (state_numbering i.infos known) (map-Arm TheEqn TheArm TheBody TheState Eqn Arm Body State (λ e. e.0) (λ a. a.0) (λ b. b.0) (λ s. s.0) a))

      abbrev body_walked : Body-F TheEqn TheArm TheBody TheState → Making
      body_walked b = make.body_step base names i (map-Body Eqn Arm Body State Making ArmWalk Making StateWalk (eqn_walk base names i) (arm_walk base names i) (body_walk base names i) (one_state_walk base names i) (map-Body TheEqn TheArm TheBody TheState Eqn Arm Body State (λ e. e.0) (λ a. a.0) (λ b. b.0) (λ s. s.0) b))

      abbrev body_numbered : Body-F TheEqn TheArm TheBody TheState → Numbering
      body_numbered b = numbering.body_step i.infos known (map-Body Eqn Arm Body State Numbering Numbering Numbering Numbering (eqn_numbering i.infos known) (arm_numbering i.infos known) (body_numbering i.infos known) (state_numbering i.infos known) (map-Body TheEqn TheArm TheBody TheState Eqn Arm Body State (λ e. e.0) (λ a. a.0) (λ b. b.0) (λ s. s.0) b))

      abbrev state_walked : State-F TheEqn TheArm TheBody TheState → StateWalk
      state_walked s = make.state_step base names i (map-State Eqn Arm Body State Making ArmWalk Making StateWalk (eqn_walk base names i) (arm_walk base names i) (body_walk base names i) (one_state_walk base names i) (map-State TheEqn TheArm TheBody TheState Eqn Arm Body State (λ e. e.0) (λ a. a.0) (λ b. b.0) (λ s. s.0) s))

      abbrev state_numbered : State-F TheEqn TheArm TheBody TheState → Numbering
      state_numbered s = numbering.state_step i.infos known (map-State Eqn Arm Body State Numbering Numbering Numbering Numbering (eqn_numbering i.infos known) (arm_numbering i.infos known) (body_numbering i.infos known) (state_numbering i.infos known) (map-State TheEqn TheArm TheBody TheState Eqn Arm Body State (λ e. e.0) (λ a. a.0) (λ b. b.0) (λ s. s.0) s))

      -- one layer of a tree
      eqn-layer : (e : Eqn-F TheEqn TheArm TheBody TheState) → MakingNumbers (eqn_made e) (eqn_numbered e)
      eqn-layer (open_eqn.Plain left right) here s =
          let z = expr_size i.infos known right in
          numbers-joined f base here.call (of_names i.infos known left) (of_calls z) s _ _ (names-number left (in_body i here) s) (numbers-definers f base here.call z _ _ _ (expr-places right here _))
      eqn-layer (open_eqn.Der at x slope start resets) here s =
          let a = expr_size i.infos known slope in
          let b = start_size i.infos known start in
          let c = total (map (reset_arm_size i.infos known) resets) in
          numbers-joined f base here.call (of_name i.infos known x) (both (of_calls a) (both (of_calls b) (of_calls c))) s _ _ (name-numbers x (in_body i here) s)
          (numbers-joined f base here.call (of_calls a) (both (of_calls b) (of_calls c)) _ _ _ (numbers-calls f base here.call a _ _ (expr-places slope here _))
          (numbers-joined f base here.call (of_calls b) (of_calls c) _ _ _ (numbers-calls f base here.call b _ _ (start-places start here _)) (numbers-definers f base here.call c _ _ _ (resets-places resets here _))))
      eqn-layer (open_eqn.Start at x value) here s =
          let z = expr_size i.infos known value in
          numbers-joined f base here.call (of_name i.infos known x) (of_calls z) s _ _ (name-numbers x (in_body i here) s) (numbers-definers f base here.call z _ _ _ (expr-places value here _))
      eqn-layer (open_eqn.Present at arms None) here s =
          let n = numbering.in_turn (map (arm_numbering i.infos known) (map (λ e. e.0) arms)) in
          numbers-choice f base here.call (both n no_places) s _ _ (numbers-joined f base here.call n no_places (past_choice s) _ _ (arms-number arms s.choices 0 here (past_choice s)) (numbers-nothing f base here.call _))
      eqn-layer (open_eqn.Present at arms (Some b)) here s =
          let n = numbering.in_turn (map (arm_numbering i.infos known) (map (λ e. e.0) arms)) in
          let m = body_numbering i.infos known b.0 in
          numbers-choice f base here.call (both n m) s _ _ (numbers-joined f base here.call n m (past_choice s) _ _ (arms-number arms s.choices 0 here (past_choice s)) (numbers-block f base here.call m _ _ _ (b.1 _ _)))
      eqn-layer (open_eqn.Automaton at states) here s =
          numbers-automaton f base here.call (numbering.in_turn (map (state_numbering i.infos known) (map (λ e. e.0) states))) s _ _ (states-number states s.automata 0 _ here (past_automaton s))
      eqn-layer (open_eqn.Reset at eqs z) here s =
          let n = numbering.in_turn (map (eqn_numbering i.infos known) (map (λ e. e.0) eqs)) in
          let c = cond_size i.infos known z in
          numbers-block f base here.call (both n (of_calls c)) s _ _ (numbers-joined f base here.call n (of_calls c) (past_block s) _ _ (eqs-number eqs (in_block s.blocks here.hybrid here) (past_block s)) (numbers-calls f base here.call c _ _ (cond-places z here _)))

      arm-layer : (a : Arm-F TheEqn TheArm TheBody TheState) → ArmWalkNumbers (arm_walked a) (arm_numbered a)
      arm-layer a of number here s =
          let c = cond_size i.infos known a.cond in
          let m = body_numbering i.infos known a.body.0 in
          numbers-joined f base here.call (of_calls c) m s _ _ (numbers-calls f base here.call c s _ (cond-places a.cond here s)) (numbers-block f base here.call m _ _ _ (a.body.1 _ _))

      body-layer : (b : Body-F TheEqn TheArm TheBody TheState) → MakingNumbers (body_walked b) (body_numbered b)
      body-layer b here s = numbers-joined f base here.call (of_names i.infos known b.locals) (numbering.in_turn (map (eqn_numbering i.infos known) (map (λ e. e.0) b.eqs))) s _ _ (names-number b.locals here s) (eqs-number b.eqs here _)

      state-layer : (s : State-F TheEqn TheArm TheBody TheState) → StateWalkNumbers (state_walked s) (state_numbered s)
      state-layer st of number states here s =
          let z = total (map (move_size i.infos known) st.moves) in
          let m = body_numbering i.infos known st.body.0 in
          numbers-block f base here.call (both m (of_calls z)) s _ _ (numbers-block f base here.call (both m (of_calls z)) (past_block s) _ _
          (numbers-joined f base here.call m (of_calls z) _ _ _ (st.body.1 _ _) (numbers-calls f base here.call z _ _ (moves-places st.moves _ _ states here _))))

      -- the walk of an equation makes the places that numbering gives its variables
      pub eqn-numbers : (e : Eqn) → EqnNumbers e
      unfolding eqn_walk arm_walk body_walk one_state_walk eqn_numbering arm_numbering body_numbering state_numbering
      eqn-numbers = ind-Eqn EqnNumbers ArmNumbers BodyNumbers StateNumbers
          (λ x y is. subst (λ z. EqnNumbers (roll-Eqn z)) is (of-both MakingNumbers _ (eqn_made y) _ (eqn_numbered y)
          (fold-roll-Eqn Making ArmWalk Making StateWalk (make.eqn_step base names i) (make.arm_step base names i) (make.body_step base names i) (make.state_step base names i) (map-Eqn TheEqn TheArm TheBody TheState Eqn Arm Body State (λ e. e.0) (λ a. a.0) (λ b. b.0) (λ s. s.0) y))
          (fold-roll-Eqn Numbering Numbering Numbering Numbering (numbering.eqn_step i.infos known) (numbering.arm_step i.infos known) (numbering.body_step i.infos known) (numbering.state_step i.infos known) (map-Eqn TheEqn TheArm TheBody TheState Eqn Arm Body State (λ e. e.0) (λ a. a.0) (λ b. b.0) (λ s. s.0) y)) (eqn-layer y)))
          (λ x y is. subst (λ z. ArmNumbers (roll-Arm z)) is (of-both ArmWalkNumbers _ (arm_walked y) _ (arm_numbered y)
          (fold-roll-Arm Making ArmWalk Making StateWalk (make.eqn_step base names i) (make.arm_step base names i) (make.body_step base names i) (make.state_step base names i) (map-Arm TheEqn TheArm TheBody TheState Eqn Arm Body State (λ e. e.0) (λ a. a.0) (λ b. b.0) (λ s. s.0) y))
          (fold-roll-Arm Numbering Numbering Numbering Numbering (numbering.eqn_step i.infos known) (numbering.arm_step i.infos known) (numbering.body_step i.infos known) (numbering.state_step i.infos known) (map-Arm TheEqn TheArm TheBody TheState Eqn Arm Body State (λ e. e.0) (λ a. a.0) (λ b. b.0) (λ s. s.0) y)) (arm-layer y)))
          (λ x y is. subst (λ z. BodyNumbers (roll-Body z)) is (of-both MakingNumbers _ (body_walked y) _ (body_numbered y)
          (fold-roll-Body Making ArmWalk Making StateWalk (make.eqn_step base names i) (make.arm_step base names i) (make.body_step base names i) (make.state_step base names i) (map-Body TheEqn TheArm TheBody TheState Eqn Arm Body State (λ e. e.0) (λ a. a.0) (λ b. b.0) (λ s. s.0) y))
          (fold-roll-Body Numbering Numbering Numbering Numbering (numbering.eqn_step i.infos known) (numbering.arm_step i.infos known) (numbering.body_step i.infos known) (numbering.state_step i.infos known) (map-Body TheEqn TheArm TheBody TheState Eqn Arm Body State (λ e. e.0) (λ a. a.0) (λ b. b.0) (λ s. s.0) y)) (body-layer y)))
          (λ x y is. subst (λ z. StateNumbers (roll-State z)) is (of-both StateWalkNumbers _ (state_walked y) _ (state_numbered y)
          (fold-roll-State Making ArmWalk Making StateWalk (make.eqn_step base names i) (make.arm_step base names i) (make.body_step base names i) (make.state_step base names i) (map-State TheEqn TheArm TheBody TheState Eqn Arm Body State (λ e. e.0) (λ a. a.0) (λ b. b.0) (λ s. s.0) y))
          (fold-roll-State Numbering Numbering Numbering Numbering (numbering.eqn_step i.infos known) (numbering.arm_step i.infos known) (numbering.body_step i.infos known) (numbering.state_step i.infos known) (map-State TheEqn TheArm TheBody TheState Eqn Arm Body State (λ e. e.0) (λ a. a.0) (λ b. b.0) (λ s. s.0) y)) (state-layer y)))
