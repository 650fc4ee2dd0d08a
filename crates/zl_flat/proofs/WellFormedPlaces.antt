-- Each first mention of a variable has its place in the form, with the variable's type.
use Rattle.std.proofs.Common.{◌≡◌, ℕ, ◌+◌, true, false, if◌then◌else◌, List, [], ◌∷◌, map, slice_get, Option, Some, None, refl, sym, ap, subst, ◌∙◌, arith}
use Rattle.std.specs.List.{AllByRecursion}
use Rattle.zl_ast.specs.declared.name.Name.{Name}
use Rattle.zl_ast.specs.declared.scope.VarClass.{VarClass}
use Rattle.zl_ast.specs.declared.scope.VarClass.TheVariants as class
use Rattle.zl_ast.specs.declared.eqn.Eqn.{Eqn, roll-Eqn}
use Rattle.zl_ast.specs.declared.eqn.Arm.{Arm, roll-Arm}
use Rattle.zl_ast.specs.declared.eqn.Body.{Body, roll-Body}
use Rattle.zl_ast.specs.declared.eqn.State.{State, roll-State}
use Rattle.zl_ast.specs.declared.eqn.Cond.{Cond}
use Rattle.zl_ast.specs.declared.eqn.Eqn.TheOpen.{Eqn-F, Arm-F, Body-F, State-F}
use Rattle.zl_ast.specs.declared.eqn.Eqn.TheOpen as open_eqn
use Rattle.zl_ast.specs.declared.eqn.Eqn.TheFolds.{fold-roll-Eqn, fold-roll-Arm, fold-roll-Body, fold-roll-State, ind-Eqn, map-Eqn, map-Arm, map-Body, map-State}
use Rattle.zl_ast.specs.NamesRules.{is_local}
use Rattle.zl_meaning.specs.FlatForm.{FlatForm}
use Rattle.zl_meaning.specs.declared.block.BlockKind.TheVariants.{Arm as ArmOf}
use Rattle.zl_meaning.specs.declared.place.PlaceInfo.{PlaceInfo}
use Rattle.zl_flat.specs.declared.here.Here.{Here}
use Rattle.zl_flat.specs.declared.size.Size.{Size}
use Rattle.zl_flat.specs.Parts.{Parts, Counters, nothing, one_place, after, past_block, past_choice, past_automaton}
use Rattle.zl_flat.specs.Variables.{variable_of, is_first}
use Rattle.zl_flat.specs.Sizes.{eqn_size, arm_size, state_size, name_size, cond_size}
use Rattle.zl_flat.specs.Instances.{Instance, in_body, in_block, inner_block, place_here}
use Rattle.zl_flat.specs.Equations as make
use Rattle.zl_flat.specs.Equations.{Making, in_turn, ArmWalk, arms_made, StateWalk, states_made, body_of_choice, place_type, name_made, names_made, cond_walk, eqn_walk, arm_walk, body_walk, one_state_walk, moves_made}
use Rattle.zl_flat.proofs.PartsLaws.{after-joined, after-nothing}
use Rattle.zl_flat.proofs.WellFormedParts.{all-append, each-left, each-right, the_place, behind-block, behind-choice, behind-automaton}
use Rattle.zl_flat.proofs.WellFormedGround.{IsPlaceAt, standing, Sits}
use Rattle.zl_flat.proofs.WellFormedSizes.{AsMany, IsSized}
use Rattle.zl_flat.proofs.WellFormedSizesEqns.{name-makes, cond-makes, eqn-makes, arm-makes, state-makes}
use Rattle.zl_flat.proofs.WellFormedMentions as mention
use Rattle.zl_flat.proofs.WellFormedMentions.{Mention, Mentioned, Mentioning, eqn_mentions, arm_mentions, body_mentions, state_mentions}
use Rattle.zl_flat.proofs.WellFormedNumbering.{eqn-follows, arm-follows, state-follows}

-- the place of a mention is in the form and in the copy of this call, and in the block of the copy's body if no `local`
-- declares it
pub record MentionPlaced (f : FlatForm) (i : Instance) (call : Option ℕ) (m : Mention) : Type 0 where
  pub place : PlaceInfo
  pub is : slice_get f.places m.number ≡ Some place
  pub typed : place.ty ≡ place_type (variable_of i.variables m.name.id)
  pub block : is_local m.class ≡ false → place.block ≡ i.block
  pub in_copy : place.call ≡ call
  pub named : place.name ≡ m.name.id

-- where the next numbers are those of the mentions
pub next-places : (s : Counters) (n : ℕ) (p : Parts) (z : Size) (next : ℕ) → s.places ≡ n → AsMany p z → next ≡ n + z.places → (after s p).places ≡ next
unfolding after
next-places s n p z next at many e = let count = many.places in omega (arith, at, count, e)

-- a block, a choice and an automaton have no place
pub past_block-places : (s : Counters) → (past_block s).places ≡ s.places
unfolding past_block
past_block-places s = refl

pub past_choice-places : (s : Counters) → (past_choice s).places ≡ s.places
unfolding past_choice
past_choice-places s = refl

pub past_automaton-places : (s : Counters) → (past_automaton s).places ≡ s.places
unfolding past_automaton
past_automaton-places s = refl

module _ (f : FlatForm) (base : ℕ) (names : List (List ℕ)) (i : Instance) (known : ℕ → Option Size) where
  -- a mention that is the first of its variable has its place
  abbrev pub FirstPlaced : Option ℕ → Mention → Type 0
  FirstPlaced call m = is_first i.infos m.name ≡ true → MentionPlaced f i call m

  -- of these mentions each first one has its place, where what is made is part of the form
  abbrev pub AllPlaced : Option ℕ → List Mention → Type 0
  AllPlaced call ms = AllByRecursion (FirstPlaced call) ms

  abbrev pub MakingPlaces : Mentioning → Making → Type 0
  MakingPlaces g m = (here : Here) (s : Counters) (n : ℕ) → s.places ≡ n → Sits f base s (m here s) → AllPlaced here.call (g n).all

  abbrev pub ArmWalkPlaces : Mentioning → ArmWalk → Type 0
  ArmWalkPlaces g w = (of number : ℕ) (here : Here) (s : Counters) (n : ℕ) → s.places ≡ n → Sits f base s (w of number here s).parts → AllPlaced here.call (g n).all

  abbrev pub StateWalkPlaces : Mentioning → StateWalk → Type 0
  StateWalkPlaces g w = (of number : ℕ) (states : List ℕ) (here : Here) (s : Counters) (n : ℕ) → s.places ≡ n → Sits f base s (w.walk of number states here s).parts → AllPlaced here.call (g n).all

  -- ---- names

  -- a name that is declared or defined
  pub name-placed : (c : VarClass) (x : Name) (here : Here) → (is_local c ≡ false → here.block ≡ i.block) → (s : Counters) (n : ℕ) → s.places ≡ n → Sits f base s (name_made base names i x here s) → AllPlaced here.call (mention.of_name i.infos known c x n).all
  name-placed c x here inside s n at sits = (placed, tt)
    where
      placed : FirstPlaced here.call (record { name = x; class = c; number = n })
      placed first =
          let own = place_here here (place_type (variable_of i.variables x.id)) x.id x.at in
          let a : IsPlaceAt f s.places own = the_place (standing f base) s own (subst (λ b. Sits f base s (if b then one_place own else nothing)) first sits) in
          record { place = a.place; is = subst (λ k. slice_get f.places k ≡ Some a.place) at a.is; typed = a.typed; block = λ e. a.block ∙ inside e; in_copy = a.call; named = a.named }

  -- names one behind the other
  pub names-placed : (c : VarClass) (xs : List Name) (here : Here) → (is_local c ≡ false → here.block ≡ i.block) → (s : Counters) (n : ℕ) → s.places ≡ n → Sits f base s (names_made base names i xs here s) → AllPlaced here.call (mention.of_names i.infos known c xs n).all
  names-placed c [] here inside s n at sits = tt
  names-placed c (x ∷ xs) here inside s n at sits =
      let first = name_made base names i x here s in
      let rest = names_made base names i xs here (after s first) in
      let next = n + (name_size i.infos known x).places in
      let a = name-placed c x here inside s n at (each-left (standing f base) s first rest sits) in
      (a.0, names-placed c xs here inside (after s first) next (next-places s n first (name_size i.infos known x) next at (name-makes base names i known x here s) refl) (each-right (standing f base) s first rest sits))

  -- behind names the next numbers are those of the mentions
  pub name-next : (c : VarClass) (x : Name) (here : Here) (s : Counters) (n : ℕ) → s.places ≡ n → (after s (name_made base names i x here s)).places ≡ (mention.of_name i.infos known c x n).next
  name-next c x here s n at = next-places s n (name_made base names i x here s) (name_size i.infos known x) (n + (name_size i.infos known x).places) at (name-makes base names i known x here s) refl

  pub names-next : (c : VarClass) (xs : List Name) (here : Here) (s : Counters) (n : ℕ) → s.places ≡ n → (after s (names_made base names i xs here s)).places ≡ (mention.of_names i.infos known c xs n).next
  names-next c [] here s n at = ap (λ (t : Counters). t.places) (after-nothing s) ∙ at
  names-next c (x ∷ xs) here s n at =
      let first = name_made base names i x here s in
      ap (λ (t : Counters). t.places) (after-joined s first (names_made base names i xs here (after s first))) ∙ names-next c xs here (after s first) (n + (name_size i.infos known x).places) (name-next c x here s n at)

  module _ (sized : IsSized names i known) where
    -- ---- where the next numbers are

    -- so they are behind an equation, an arm, a state and a condition
    pub eqn-next : (e : Eqn) (here : Here) (s : Counters) (n : ℕ) → s.places ≡ n → (after s (eqn_walk base names i e here s)).places ≡ (eqn_mentions i.infos known e n).next
    eqn-next e here s n at =
        let follows = eqn-follows i.infos known e n in
        next-places s n (eqn_walk base names i e here s) (eqn_size i.infos known e) (eqn_mentions i.infos known e n).next at (eqn-makes base names i known sized e here s) follows.size

    pub arm-next : (a : Arm) (of number : ℕ) (here : Here) (s : Counters) (n : ℕ) → s.places ≡ n → (after s (arm_walk base names i a of number here s).parts).places ≡ (arm_mentions i.infos known a n).next
    arm-next a of number here s n at =
        let follows = arm-follows i.infos known a n in
        next-places s n (arm_walk base names i a of number here s).parts (arm_size i.infos known a) (arm_mentions i.infos known a n).next at (arm-makes base names i known sized a of number here s) follows.size

    pub state-next : (st : State) (of number : ℕ) (states : List ℕ) (here : Here) (s : Counters) (n : ℕ) → s.places ≡ n → (after s ((one_state_walk base names i st).walk of number states here s).parts).places ≡ (state_mentions i.infos known st n).next
    state-next st of number states here s n at =
        let follows = state-follows i.infos known st n in
        next-places s n ((one_state_walk base names i st).walk of number states here s).parts (state_size i.infos known st) (state_mentions i.infos known st n).next at (state-makes base names i known sized st of number states here s) follows.size

    pub arms-next : (ws : List Arm) (of number : ℕ) (here : Here) (s : Counters) (n : ℕ) → s.places ≡ n → (after s (arms_made (map (arm_walk base names i) ws) of number here s).parts).places ≡ (mention.in_turn (map (arm_mentions i.infos known) ws) n).next
    arms-next [] of number here s n at = ap (λ (t : Counters). t.places) (after-nothing s) ∙ at
    arms-next (a ∷ ws) of number here s n at =
        let first = (arm_walk base names i a of number here s).parts in
        let rest = (arms_made (map (arm_walk base names i) ws) of (number + 1) here (after s first)).parts in
        ap (λ (t : Counters). t.places) (after-joined s first rest) ∙ arms-next ws of (number + 1) here (after s first) (arm_mentions i.infos known a n).next (arm-next a of number here s n at)

    pub cond-next : (z : Cond) (here : Here) (s : Counters) (n : ℕ) → s.places ≡ n → (after s (cond_walk base names i z here s).parts).places ≡ (mention.of_calls (cond_size i.infos known z) n).next
    cond-next z here s n at = next-places s n (cond_walk base names i z here s).parts (cond_size i.infos known z) (n + (cond_size i.infos known z).places) at (cond-makes base names i known sized z here s) refl

    -- ---- down the tree

    abbrev pub EqnPlaces : Eqn → Type 0
    EqnPlaces e = MakingPlaces (eqn_mentions i.infos known e) (eqn_walk base names i e)

    abbrev pub ArmPlaces : Arm → Type 0
    ArmPlaces a = ArmWalkPlaces (arm_mentions i.infos known a) (arm_walk base names i a)

    abbrev pub BodyPlaces : Body → Type 0
    BodyPlaces b = MakingPlaces (body_mentions i.infos known b) (body_walk base names i b)

    abbrev pub StatePlaces : State → Type 0
    StatePlaces s = StateWalkPlaces (state_mentions i.infos known s) (one_state_walk base names i s)

    abbrev TheEqn : Type 0
    TheEqn = (e : Eqn) × EqnPlaces e

    abbrev TheArm : Type 0
    TheArm = (a : Arm) × ArmPlaces a

    abbrev TheBody : Type 0
    TheBody = (b : Body) × BodyPlaces b

    abbrev TheState : Type 0
    TheState = (s : State) × StatePlaces s

    eqs-placed : (es : List TheEqn) → MakingPlaces (mention.in_turn (map (eqn_mentions i.infos known) (map (λ e. e.0) es))) (in_turn (map (eqn_walk base names i) (map (λ e. e.0) es)))
    eqs-placed [] here s n at sits = tt
    eqs-placed (e ∷ es) here s n at sits =
        let first = eqn_walk base names i e.0 here s in
        let rest = in_turn (map (eqn_walk base names i) (map (λ e. e.0) es)) here (after s first) in
        let next = (eqn_mentions i.infos known e.0 n).next in
        all-append (FirstPlaced here.call) (eqn_mentions i.infos known e.0 n).all (mention.in_turn (map (eqn_mentions i.infos known) (map (λ e. e.0) es)) next).all
        (e.1 here s n at (each-left (standing f base) s first rest sits)) (eqs-placed es here (after s first) next (eqn-next e.0 here s n at) (each-right (standing f base) s first rest sits))

    arms-placed : (es : List TheArm) → (of number : ℕ) (here : Here) (s : Counters) (n : ℕ) → s.places ≡ n → Sits f base s (arms_made (map (arm_walk base names i) (map (λ e. e.0) es)) of number here s).parts →
        AllPlaced here.call (mention.in_turn (map (arm_mentions i.infos known) (map (λ e. e.0) es)) n).all
    arms-placed [] of number here s n at sits = tt
    arms-placed (e ∷ es) of number here s n at sits =
        let first = (arm_walk base names i e.0 of number here s).parts in
        let rest = (arms_made (map (arm_walk base names i) (map (λ e. e.0) es)) of (number + 1) here (after s first)).parts in
        let next = (arm_mentions i.infos known e.0 n).next in
        all-append (FirstPlaced here.call) (arm_mentions i.infos known e.0 n).all (mention.in_turn (map (arm_mentions i.infos known) (map (λ e. e.0) es)) next).all
        (e.1 of number here s n at (each-left (standing f base) s first rest sits)) (arms-placed es of (number + 1) here (after s first) next (arm-next e.0 of number here s n at) (each-right (standing f base) s first rest sits))

    states-placed : (es : List TheState) → (of number : ℕ) (states : List ℕ) (here : Here) (s : Counters) (n : ℕ) → s.places ≡ n → Sits f base s (states_made (map (one_state_walk base names i) (map (λ e. e.0) es)) of number states here s).parts →
        AllPlaced here.call (mention.in_turn (map (state_mentions i.infos known) (map (λ e. e.0) es)) n).all
    states-placed [] of number states here s n at sits = tt
    states-placed (e ∷ es) of number states here s n at sits =
        let first = ((one_state_walk base names i e.0).walk of number states here s).parts in
        let rest = (states_made (map (one_state_walk base names i) (map (λ e. e.0) es)) of (number + 1) states here (after s first)).parts in
        let next = (state_mentions i.infos known e.0 n).next in
        all-append (FirstPlaced here.call) (state_mentions i.infos known e.0 n).all (mention.in_turn (map (state_mentions i.infos known) (map (λ e. e.0) es)) next).all
        (e.1 of number states here s n at (each-left (standing f base) s first rest sits)) (states-placed es of (number + 1) states here (after s first) next (state-next e.0 of number states here s n at) (each-right (standing f base) s first rest sits))

    -- in a block of its own
    body-placed : (g : Mentioning) (body : Making) → MakingPlaces g body → (of number : ℕ) (here : Here) (s : Counters) (n : ℕ) → s.places ≡ n → Sits f base s (body_of_choice body of number here s) → AllPlaced here.call (g n).all
    body-placed g body h of number here s n at sits =
        let own = inner_block here (ArmOf of number) false in
        let below = in_block s.blocks false here in
        h below (past_block s) n (past_block-places s ∙ at) (behind-block (standing f base) s own (body below (past_block s)) sits).1

    eqn-layer : (x : Eqn-F TheEqn TheArm TheBody TheState) →
        (let step = map-Eqn TheEqn TheArm TheBody TheState Eqn Arm Body State (λ e. e.0) (λ a. a.0) (λ b. b.0) (λ s. s.0) x in
        MakingPlaces (mention.eqn_step i.infos known (map-Eqn Eqn Arm Body State Mentioning Mentioning Mentioning Mentioning (eqn_mentions i.infos known) (arm_mentions i.infos known) (body_mentions i.infos known) (state_mentions i.infos known) step))
        (make.eqn_step base names i (map-Eqn Eqn Arm Body State Making ArmWalk Making StateWalk (eqn_walk base names i) (arm_walk base names i) (body_walk base names i) (one_state_walk base names i) step)))
    eqn-layer (open_eqn.Plain left right) here s n at sits =
        all-append (FirstPlaced here.call) (mention.of_names i.infos known class.Top left n).all [] (names-placed class.Top left (in_body i here) (λ e. refl) s n at (each-left (standing f base) s _ _ sits)) tt
    eqn-layer (open_eqn.Der at x slope start resets) here s n e sits = name-placed class.Top x (in_body i here) (λ e. refl) s n e (each-left (standing f base) s _ _ sits)
    eqn-layer (open_eqn.Start at x value) here s n e sits = name-placed class.Top x (in_body i here) (λ e. refl) s n e (each-left (standing f base) s _ _ sits)
    eqn-layer (open_eqn.Present at arms None) here s n e sits =
        let t = past_choice s in
        let both = behind-choice (standing f base) s _ _ sits in
        all-append (FirstPlaced here.call) _ [] (arms-placed arms s.choices 0 here t n (past_choice-places s ∙ e) (each-left (standing f base) t _ _ both.1)) tt
    eqn-layer (open_eqn.Present at arms (Some b)) here s n e sits =
        let t = past_choice s in
        let ws = map (λ a. a.0) arms in
        let both = behind-choice (standing f base) s _ _ sits in
        let behind = arms-next ws s.choices 0 here t n (past_choice-places s ∙ e) in
        all-append (FirstPlaced here.call) _ _ (arms-placed arms s.choices 0 here t n (past_choice-places s ∙ e) (each-left (standing f base) t _ _ both.1))
        (body-placed (body_mentions i.infos known b.0) (body_walk base names i b.0) b.1 s.choices _ here _ (mention.in_turn (map (arm_mentions i.infos known) ws) n).next behind (each-right (standing f base) t _ _ both.1))
    eqn-layer (open_eqn.Automaton at states) here s n e sits =
        let both = behind-automaton (standing f base) s _ _ sits in
        states-placed states s.automata 0 _ here (past_automaton s) n (past_automaton-places s ∙ e) both.1
    eqn-layer (open_eqn.Reset at eqs z) here s n e sits =
        let t = past_block s in
        let both = behind-block (standing f base) s _ _ sits in
        all-append (FirstPlaced here.call) _ [] (eqs-placed eqs (in_block s.blocks here.hybrid here) t n (past_block-places s ∙ e) (each-left (standing f base) t _ _ both.1)) tt

    arm-layer : (x : Arm-F TheEqn TheArm TheBody TheState) →
        (let step = map-Arm TheEqn TheArm TheBody TheState Eqn Arm Body State (λ e. e.0) (λ a. a.0) (λ b. b.0) (λ s. s.0) x in
        ArmWalkPlaces (mention.arm_step i.infos known (map-Arm Eqn Arm Body State Mentioning Mentioning Mentioning Mentioning (eqn_mentions i.infos known) (arm_mentions i.infos known) (body_mentions i.infos known) (state_mentions i.infos known) step))
        (make.arm_step base names i (map-Arm Eqn Arm Body State Making ArmWalk Making StateWalk (eqn_walk base names i) (arm_walk base names i) (body_walk base names i) (one_state_walk base names i) step)))
    arm-layer a of number here s n e sits =
        body-placed (body_mentions i.infos known a.body.0) (body_walk base names i a.body.0) a.body.1 of number here _ (n + (cond_size i.infos known a.cond).places) (cond-next a.cond here s n e) (each-right (standing f base) s _ _ sits)

    body-layer : (x : Body-F TheEqn TheArm TheBody TheState) →
        (let step = map-Body TheEqn TheArm TheBody TheState Eqn Arm Body State (λ e. e.0) (λ a. a.0) (λ b. b.0) (λ s. s.0) x in
        MakingPlaces (mention.body_step i.infos known (map-Body Eqn Arm Body State Mentioning Mentioning Mentioning Mentioning (eqn_mentions i.infos known) (arm_mentions i.infos known) (body_mentions i.infos known) (state_mentions i.infos known) step))
        (make.body_step base names i (map-Body Eqn Arm Body State Making ArmWalk Making StateWalk (eqn_walk base names i) (arm_walk base names i) (body_walk base names i) (one_state_walk base names i) step)))
    body-layer b here s n e sits =
        all-append (FirstPlaced here.call) _ _ (names-placed class.Local b.locals here (λ u. absurd (cc)) s n e (each-left (standing f base) s _ _ sits))
        (eqs-placed b.eqs here _ (mention.of_names i.infos known class.Local b.locals n).next (names-next class.Local b.locals here s n e) (each-right (standing f base) s _ _ sits))

    state-layer : (x : State-F TheEqn TheArm TheBody TheState) →
        (let step = map-State TheEqn TheArm TheBody TheState Eqn Arm Body State (λ e. e.0) (λ a. a.0) (λ b. b.0) (λ s. s.0) x in
        StateWalkPlaces (mention.state_step i.infos known (map-State Eqn Arm Body State Mentioning Mentioning Mentioning Mentioning (eqn_mentions i.infos known) (arm_mentions i.infos known) (body_mentions i.infos known) (state_mentions i.infos known) step))
        (make.state_step base names i (map-State Eqn Arm Body State Making ArmWalk Making StateWalk (eqn_walk base names i) (arm_walk base names i) (body_walk base names i) (one_state_walk base names i) step)))
    state-layer st of number states here s n e sits =
        let t = past_block s in
        let u = past_block t in
        let first = behind-block (standing f base) s _ _ sits in
        let second = behind-block (standing f base) t _ _ first.1 in
        all-append (FirstPlaced here.call) _ [] (st.body.1 (in_block (s.blocks + 1) here.hybrid here) u n (past_block-places t ∙ (past_block-places s ∙ e)) (each-left (standing f base) u _ _ second.1)) tt

    eqn-case : (x : Eqn-F Eqn Arm Body State) (y : Eqn-F TheEqn TheArm TheBody TheState) → map-Eqn TheEqn TheArm TheBody TheState Eqn Arm Body State (λ e. e.0) (λ a. a.0) (λ b. b.0) (λ s. s.0) y ≡ x → EqnPlaces (roll-Eqn x)
    unfolding eqn_mentions arm_mentions body_mentions state_mentions eqn_walk arm_walk body_walk one_state_walk
    eqn-case x y is =
        let step = map-Eqn TheEqn TheArm TheBody TheState Eqn Arm Body State (λ e. e.0) (λ a. a.0) (λ b. b.0) (λ s. s.0) y in
        subst (λ z. EqnPlaces (roll-Eqn z)) is
        (subst (λ g. MakingPlaces g (eqn_walk base names i (roll-Eqn step))) (sym (fold-roll-Eqn Mentioning Mentioning Mentioning Mentioning (mention.eqn_step i.infos known) (mention.arm_step i.infos known) (mention.body_step i.infos known) (mention.state_step i.infos known) step))
        (subst (λ w. MakingPlaces (mention.eqn_step i.infos known (map-Eqn Eqn Arm Body State Mentioning Mentioning Mentioning Mentioning (eqn_mentions i.infos known) (arm_mentions i.infos known) (body_mentions i.infos known) (state_mentions i.infos known) step)) w) (sym (fold-roll-Eqn Making ArmWalk Making StateWalk (make.eqn_step base names i) (make.arm_step base names i) (make.body_step base names i) (make.state_step base names i) step))
        (eqn-layer y)))

    arm-case : (x : Arm-F Eqn Arm Body State) (y : Arm-F TheEqn TheArm TheBody TheState) → map-Arm TheEqn TheArm TheBody TheState Eqn Arm Body State (λ e. e.0) (λ a. a.0) (λ b. b.0) (λ s. s.0) y ≡ x → ArmPlaces (roll-Arm x)
    unfolding eqn_mentions arm_mentions body_mentions state_mentions eqn_walk arm_walk body_walk one_state_walk
    arm-case x y is =
        let step = map-Arm TheEqn TheArm TheBody TheState Eqn Arm Body State (λ e. e.0) (λ a. a.0) (λ b. b.0) (λ s. s.0) y in
        subst (λ z. ArmPlaces (roll-Arm z)) is
        (subst (λ g. ArmWalkPlaces g (arm_walk base names i (roll-Arm step))) (sym (fold-roll-Arm Mentioning Mentioning Mentioning Mentioning (mention.eqn_step i.infos known) (mention.arm_step i.infos known) (mention.body_step i.infos known) (mention.state_step i.infos known) step))
        (subst (λ w. ArmWalkPlaces (mention.arm_step i.infos known (map-Arm Eqn Arm Body State Mentioning Mentioning Mentioning Mentioning (eqn_mentions i.infos known) (arm_mentions i.infos known) (body_mentions i.infos known) (state_mentions i.infos known) step)) w) (sym (fold-roll-Arm Making ArmWalk Making StateWalk (make.eqn_step base names i) (make.arm_step base names i) (make.body_step base names i) (make.state_step base names i) step))
        (arm-layer y)))

    body-case : (x : Body-F Eqn Arm Body State) (y : Body-F TheEqn TheArm TheBody TheState) → map-Body TheEqn TheArm TheBody TheState Eqn Arm Body State (λ e. e.0) (λ a. a.0) (λ b. b.0) (λ s. s.0) y ≡ x → BodyPlaces (roll-Body x)
    unfolding eqn_mentions arm_mentions body_mentions state_mentions eqn_walk arm_walk body_walk one_state_walk
    body-case x y is =
        let step = map-Body TheEqn TheArm TheBody TheState Eqn Arm Body State (λ e. e.0) (λ a. a.0) (λ b. b.0) (λ s. s.0) y in
        subst (λ z. BodyPlaces (roll-Body z)) is
        (subst (λ g. MakingPlaces g (body_walk base names i (roll-Body step))) (sym (fold-roll-Body Mentioning Mentioning Mentioning Mentioning (mention.eqn_step i.infos known) (mention.arm_step i.infos known) (mention.body_step i.infos known) (mention.state_step i.infos known) step))
        (subst (λ w. MakingPlaces (mention.body_step i.infos known (map-Body Eqn Arm Body State Mentioning Mentioning Mentioning Mentioning (eqn_mentions i.infos known) (arm_mentions i.infos known) (body_mentions i.infos known) (state_mentions i.infos known) step)) w) (sym (fold-roll-Body Making ArmWalk Making StateWalk (make.eqn_step base names i) (make.arm_step base names i) (make.body_step base names i) (make.state_step base names i) step))
        (body-layer y)))

    state-case : (x : State-F Eqn Arm Body State) (y : State-F TheEqn TheArm TheBody TheState) → map-State TheEqn TheArm TheBody TheState Eqn Arm Body State (λ e. e.0) (λ a. a.0) (λ b. b.0) (λ s. s.0) y ≡ x → StatePlaces (roll-State x)
    unfolding eqn_mentions arm_mentions body_mentions state_mentions eqn_walk arm_walk body_walk one_state_walk
    state-case x y is =
        let step = map-State TheEqn TheArm TheBody TheState Eqn Arm Body State (λ e. e.0) (λ a. a.0) (λ b. b.0) (λ s. s.0) y in
        subst (λ z. StatePlaces (roll-State z)) is
        (subst (λ g. StateWalkPlaces g (one_state_walk base names i (roll-State step))) (sym (fold-roll-State Mentioning Mentioning Mentioning Mentioning (mention.eqn_step i.infos known) (mention.arm_step i.infos known) (mention.body_step i.infos known) (mention.state_step i.infos known) step))
        (subst (λ w. StateWalkPlaces (mention.state_step i.infos known (map-State Eqn Arm Body State Mentioning Mentioning Mentioning Mentioning (eqn_mentions i.infos known) (arm_mentions i.infos known) (body_mentions i.infos known) (state_mentions i.infos known) step)) w) (sym (fold-roll-State Making ArmWalk Making StateWalk (make.eqn_step base names i) (make.arm_step base names i) (make.body_step base names i) (make.state_step base names i) step))
        (state-layer y)))

    -- each first mention in an equation has its place, where the equation's parts are those of the form
    pub eqn-places : (e : Eqn) → EqnPlaces e
    eqn-places = ind-Eqn EqnPlaces ArmPlaces BodyPlaces StatePlaces eqn-case arm-case body-case state-case
