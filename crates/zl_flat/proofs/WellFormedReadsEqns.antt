-- What equations read and define has its place in the form: definers stand where their place is declared, or inside it.
use Rattle.std.proofs.Common.{◌≡◌, ℕ, ◌+◌, Bool, true, false, if◌then◌else◌, List, [], ◌∷◌, ◌++◌, map, length, slice_get, Option, Some, None, refl, sym, ap, subst, ◌∙◌}
use Rattle.std.specs.List.{AllByRecursion}
use Rattle.std.specs.Option.{option_and_then}
use Rattle.zl_ast.specs.declared.name.Name.{Name}
use Rattle.zl_ast.specs.declared.scope.VarClass.TheVariants as class
use Rattle.zl_ast.specs.declared.expr.Expr.{Expr}
use Rattle.zl_ast.specs.declared.eqn.Eqn.{Eqn, roll-Eqn}
use Rattle.zl_ast.specs.declared.eqn.Arm.{Arm, roll-Arm}
use Rattle.zl_ast.specs.declared.eqn.Body.{Body, roll-Body}
use Rattle.zl_ast.specs.declared.eqn.State.{State, roll-State}
use Rattle.zl_ast.specs.declared.eqn.Cond.{Cond}
use Rattle.zl_ast.specs.declared.eqn.Cond.TheVariants.{Event, Test}
use Rattle.zl_ast.specs.declared.eqn.Up.{Up}
use Rattle.zl_ast.specs.declared.eqn.ResetArm.{ResetArm}
use Rattle.zl_ast.specs.declared.eqn.Move.{Move}
use Rattle.zl_ast.specs.declared.eqn.Eqn.TheOpen.{Eqn-F, Arm-F, Body-F, State-F}
use Rattle.zl_ast.specs.declared.eqn.Eqn.TheOpen as open_eqn
use Rattle.zl_ast.specs.declared.eqn.Eqn.TheFolds.{fold-roll-Eqn, fold-roll-Arm, fold-roll-Body, fold-roll-State, ind-Eqn, map-Eqn, map-Arm, map-Body, map-State}
use Rattle.zl_ast.specs.Names.{Violation, among, with_ids, ids_of}
use Rattle.zl_ast.specs.NamesDefined as defined
use Rattle.zl_ast.specs.NamesDefined.{Outline, StateOutline, entry, is_defined, free_entries, together, list_from, states_among, eqn_outline, arm_outline, body_outline, state_outline}
use Rattle.zl_ast.specs.NamesUsed as used
use Rattle.zl_ast.specs.NamesUsed.{Known, Uses, BodyUses, all_uses, expr_uses, value_uses, ups_uses, cond_uses, start_uses, reset_arm_uses, moves_uses, same_strength, within, inside, other_uses, eqn_uses, arm_uses, body_uses, state_uses}
use Rattle.zl_meaning.specs.FlatForm.{FlatForm, IsWithin, Same}
use Rattle.zl_meaning.specs.WellFormed.{IsDeclared}
use Rattle.zl_meaning.specs.declared.block.Block.{Block}
use Rattle.zl_meaning.specs.declared.block.BlockKind.{BlockKind}
use Rattle.zl_meaning.specs.declared.block.BlockKind.TheVariants.{Arm as ArmOf, Guard, State as StateOf}
use Rattle.zl_flat.specs.declared.here.Here.{Here}
use Rattle.zl_flat.specs.declared.here.Root.{Root}
use Rattle.zl_flat.specs.declared.variable.Variable.{Variable}
use Rattle.zl_flat.specs.declared.given.Given.{Given}
use Rattle.zl_flat.specs.declared.size.Size.{Size}
use Rattle.zl_flat.specs.Parts.{Counters, nothing, one_place, after, past_block, past_choice, past_automaton}
use Rattle.zl_flat.specs.Variables.{variable_of, is_first}
use Rattle.zl_flat.specs.Sizes.{cond_size, name_size}
use Rattle.zl_flat.specs.Instances.{Callee, Instance, in_body, in_block, inner_block, place_here}
use Rattle.zl_flat.specs.Expressions.{expr_walk}
use Rattle.zl_flat.specs.Equations as make
use Rattle.zl_flat.specs.Equations.{Making, in_turn, Testing, test_all, ArmWalk, arms_made, StateWalk, states_made, body_of_choice, condition_place, place_number, place_type, plain_definers, right_roots, start_definers, name_made, names_made, up_walk, event_walk, cond_walk, reset_arm_walk, start_walk, start_made, resets_made, moves_made, move_walk, eqn_walk, arm_walk, body_walk, one_state_walk}
use Rattle.zl_flat.proofs.WellFormedParts.{all-left, all-right, each-nothing, each-left, each-right, each-one_place, each-some_definers, the_place, block-first, behind-block, choice-first, behind-choice, automaton-first, behind-automaton, site-first, behind-site}
use Rattle.zl_flat.proofs.WellFormedGround.{IsPlaceAt, standing, Sits}
use Rattle.zl_flat.proofs.RulesKept.{none-left, none-right}
use Rattle.zl_flat.proofs.RulesKept.{covers-one}
use Rattle.zl_flat.proofs.WellFormedSizes.{IsSized}
use Rattle.zl_flat.proofs.WellFormedMentions as mention
use Rattle.zl_flat.proofs.WellFormedMentions.{Mention, Mentioning, eqn_mentions, arm_mentions, body_mentions, state_mentions}
use Rattle.zl_flat.proofs.WellFormedFirsts.{HasNumber}
use Rattle.zl_flat.proofs.WellFormedPlaces.{past_block-places, past_choice-places, past_automaton-places, name-next, names-next, eqn-next, arm-next, state-next, arms-next, cond-next}
use Rattle.zl_flat.proofs.WellFormedVisible.{EntryFine, EntriesFine, all-of-list, all-together, all-states, under-fine}
use Rattle.zl_flat.proofs.WellFormedReads.{placing, Places, DefinerPlaced, DeclaredHere, IsOwn, CoversPlaces, covers-inside, both-place, occ-places, hidden-places, CalleePlaces, expr-places}

-- what is visible in a block is visible in those that stand in it
covers-in_block : (f : FlatForm) (i : Instance) (b : ℕ) (hybrid : Bool) (kind : BlockKind) (here : Here) (visible : List ℕ) → slice_get f.blocks b ≡ Some (inner_block here kind hybrid) → CoversPlaces f i here.block visible → CoversPlaces f i b visible
covers-in_block f i b hybrid kind here visible is c = covers-inside f i here.block b visible (ap (option_and_then (λ (block : Block). block.parent)) is) c

next-block : (s : Counters) → (past_block s).blocks ≡ s.blocks + 1
unfolding past_block
next-block s = refl

-- the variables have the numbers of their first mentions
abbrev pub IsNumbered : Instance → Mention → Type 0
IsNumbered i m = is_first i.infos m.name ≡ true → HasNumber i.variables m.name.id m.number

-- so have all of these
abbrev pub AllNumbered : Instance → List Mention → Type 0
AllNumbered i ms = AllByRecursion (IsNumbered i) ms

module _ (f : FlatForm) (base : ℕ) (names : List (List ℕ)) (i : Instance) (known : ℕ → Option Size) (sized : IsSized names i known) (k : Known) (callees : (id : ℕ) (c : Callee) → i.callees id ≡ Some c → CalleePlaces f base c)
    (stands : (id : ℕ) (v : Variable) → variable_of i.variables id ≡ Some v → IsOwn f k id v) where
  -- what reads and definers have of what is made where these names are visible
  abbrev pub TestingPlaces : List ℕ → Testing → Type 0
  TestingPlaces visible t = (here : Here) (s : Counters) → CoversPlaces f i here.block visible → Sits f base s (t here s).parts → Places f s (t here s).parts

  abbrev pub MakingReads : List ℕ → Mentioning → Making → Type 0
  MakingReads visible g m = (here : Here) (s : Counters) (n : ℕ) → s.places ≡ n → CoversPlaces f i here.block visible → AllNumbered i (g n).all → Sits f base s (m here s) → Places f s (m here s)

  abbrev pub ArmWalkReads : List ℕ → Mentioning → ArmWalk → Type 0
  ArmWalkReads visible g w = (of number : ℕ) (here : Here) (s : Counters) (n : ℕ) → s.places ≡ n → CoversPlaces f i here.block visible → AllNumbered i (g n).all → Sits f base s (w of number here s).parts → Places f s (w of number here s).parts

  abbrev pub StateWalkReads : List ℕ → Mentioning → StateWalk → Type 0
  StateWalkReads visible g w = (of number : ℕ) (states : List ℕ) (here : Here) (s : Counters) (n : ℕ) → s.places ≡ n → CoversPlaces f i here.block visible → AllNumbered i (g n).all → Sits f base s (w.walk of number states here s).parts → Places f s (w.walk of number states here s).parts

  -- a body: what it makes, and what is visible inside it
  abbrev pub BodyMakingReads : List ℕ → List ℕ → Mentioning → Making → Type 0
  BodyMakingReads visible inner g m = (here : Here) (s : Counters) (n : ℕ) → s.places ≡ n → CoversPlaces f i here.block visible → AllNumbered i (g n).all → Sits f base s (m here s) → Places f s (m here s) × CoversPlaces f i here.block inner

  -- ---- conditions

  value-places : (x : Expr) (visible : List ℕ) → value_uses k x visible ≡ [] → (here : Here) (s : Counters) → CoversPlaces f i here.block visible → Sits f base s (expr_walk base names i x here s).parts → Places f s (expr_walk base names i x here s).parts
  value-places x visible h here s c sits = expr-places f base names i k callees stands x 1 visible h here s c sits

  ups-place : (us : List Up) (visible : List ℕ) → ups_uses k us visible ≡ [] → (here : Here) (s : Counters) → CoversPlaces f i here.block visible → Sits f base s (test_all (map (up_walk base names i) us) here s).parts → Places f s (test_all (map (up_walk base names i) us) here s).parts
  ups-place [] visible h here s c sits = each-nothing (placing f) s
  ups-place (u ∷ us) visible h here s c sits =
      let own = value_uses k u.arg visible in
      let rest = ups_uses k us visible in
      both-place f base s _ _ sits
      (λ p. occ-places f base s _ _ p tt
      (λ q. site-first (placing f) _ _ _ tt (value-places u.arg visible (none-left own rest h) here _ c (behind-site (standing f base) _ _ _ q).1)))
      (ups-place us visible (none-right own rest h) here _ c)

  event-places : (us : List Up) (visible : List ℕ) → ups_uses k us visible ≡ [] → TestingPlaces visible (event_walk base names i us)
  event-places us visible h here s c sits = hidden-places f base s _ _ sits tt (ups-place us visible h here _ c)

  cond-places : (z : Cond) (visible : List ℕ) → cond_uses k z visible ≡ [] → TestingPlaces visible (cond_walk base names i z)
  cond-places (Event us) visible h here s c sits = event-places us visible h here s c sits
  cond-places (Test at x) visible h here s c sits = value-places x visible h here s c sits

  start-places : (start : Option Expr) (visible : List ℕ) → start_uses k start visible ≡ [] → (here : Here) (s : Counters) → CoversPlaces f i here.block visible → Sits f base s (start_made base names i (start_walk base names i start) here s).parts →
      Places f s (start_made base names i (start_walk base names i start) here s).parts
  start-places None visible h here s c sits = each-nothing (placing f) s
  start-places (Some x) visible h here s c sits = value-places x visible h here s c sits

  resets-place : (rs : List ResetArm) (visible : List ℕ) → all_uses (map (reset_arm_uses k) rs) visible ≡ [] → (here : Here) (s : Counters) → CoversPlaces f i here.block visible → Sits f base s (resets_made base names i (map (reset_arm_walk base names i) rs) here s).parts →
      Places f s (resets_made base names i (map (reset_arm_walk base names i) rs) here s).parts
  resets-place [] visible h here s c sits = each-nothing (placing f) s
  resets-place (r ∷ rs) visible h here s c sits =
      let rest = all_uses (map (reset_arm_uses k) rs) visible in
      let one = none-left (reset_arm_uses k r visible) rest h in
      both-place f base s _ _ sits (event-places r.event visible (none-left (ups_uses k r.event visible) (value_uses k r.value visible) one) here s c)
      (λ p. both-place f base _ _ _ p (value-places r.value visible (none-right (ups_uses k r.event visible) (value_uses k r.value visible) one) here _ c)
      (resets-place rs visible (none-right (reset_arm_uses k r visible) rest h) here _ c))

  one_move-places : (m : Move) (strong : Bool) (guard body : ℕ) (here : Here) (inner visible : List ℕ) (rest rest2 : List Violation) → CoversPlaces f i body inner → CoversPlaces f i guard visible →
      (if same_strength false strong then cond_uses k m.cond inner else []) ++ rest ≡ [] → (if same_strength true strong then cond_uses k m.cond visible else []) ++ rest2 ≡ [] →
      (s : Counters) → Sits f base s (cond_walk base names i m.cond (condition_place strong guard body here) s).parts → Places f s (cond_walk base names i m.cond (condition_place strong guard body here) s).parts
  one_move-places m true guard body here inner visible rest rest2 ci cv hi hv s sits = cond-places m.cond visible (none-left (cond_uses k m.cond visible) rest2 hv) (in_block guard here.hybrid here) s cv sits
  one_move-places m false guard body here inner visible rest rest2 ci cv hi hv s sits = cond-places m.cond inner (none-left (cond_uses k m.cond inner) rest hi) (in_block body here.hybrid here) s ci sits

  moves-place : (ms : List Move) (guard body : ℕ) (states : List ℕ) (here : Here) (inner visible : List ℕ) → CoversPlaces f i body inner → CoversPlaces f i guard visible → moves_uses k false ms inner ≡ [] → moves_uses k true ms visible ≡ [] →
      (s : Counters) → Sits f base s (moves_made base names i (map (move_walk base names i) ms) guard body states here s).parts → Places f s (moves_made base names i (map (move_walk base names i) ms) guard body states here s).parts
  moves-place [] guard body states here inner visible ci cv hi hv s sits = each-nothing (placing f) s
  moves-place (m ∷ ms) guard body states here inner visible ci cv hi hv s sits =
      both-place f base s _ _ sits (one_move-places m m.strong guard body here inner visible (moves_uses k false ms inner) (moves_uses k true ms visible) ci cv hi hv s)
      (moves-place ms guard body states here inner visible ci cv
      (none-right (if same_strength false m.strong then cond_uses k m.cond inner else []) (moves_uses k false ms inner) hi)
      (none-right (if same_strength true m.strong then cond_uses k m.cond visible else []) (moves_uses k true ms visible) hv) _)

  -- ---- names

  name-reads : (x : Name) (here : Here) (s : Counters) → Places f s (name_made base names i x here s)
  name-reads x here s = by_first (is_first i.infos x)
    where
      by_first : (b : Bool) → Places f s (if b then one_place (place_here here (place_type (variable_of i.variables x.id)) x.id x.at) else nothing)
      by_first true = each-one_place (placing f) s (place_here here (place_type (variable_of i.variables x.id)) x.id x.at) tt
      by_first false = each-nothing (placing f) s

  names-read : (xs : List Name) (here : Here) (s : Counters) → Sits f base s (names_made base names i xs here s) → Places f s (names_made base names i xs here s)
  names-read [] here s sits = each-nothing (placing f) s
  names-read (x ∷ xs) here s sits = both-place f base s _ _ sits (λ p. name-reads x here s) (names-read xs here _)

  -- a local is declared by the block in which its place is made
  local-declared : (x : Name) (here : Here) (s : Counters) (n : ℕ) → s.places ≡ n → is_first i.infos x ≡ true → HasNumber i.variables x.id n → Sits f base s (name_made base names i x here s) → DeclaredHere f i here.block x.id
  local-declared x here s n at first h sits =
      let own = place_here here (place_type (variable_of i.variables x.id)) x.id x.at in
      let a : IsPlaceAt f s.places own = the_place (standing f base) s own (subst (λ b. Sits f base s (if b then one_place own else nothing)) first sits) in
      record {
        variable = h.variable;
        is = h.is;
        place = a.place;
        place_is = subst (λ p. slice_get f.places p ≡ Some a.place) (at ∙ sym h.place) a.is;
        within = subst (λ b. IsWithin f b here.block) (sym a.block) Same;
        named = a.named;
      }

  locals-declared : (xs : List Name) (here : Here) (s : Counters) (n : ℕ) → s.places ≡ n → AllByRecursion (λ (x : Name). is_first i.infos x ≡ true) xs → AllNumbered i (mention.of_names i.infos known class.Local xs n).all →
      Sits f base s (names_made base names i xs here s) → AllByRecursion (λ (x : Name). DeclaredHere f i here.block x.id) xs
  locals-declared [] here s n at first h sits = tt
  locals-declared (x ∷ xs) here s n at first h sits =
      let one = name_made base names i x here s in
      let rest = names_made base names i xs here (after s one) in (
        local-declared x here s n at first.0 (h.0 first.0) (each-left (standing f base) s one rest sits),
        locals-declared xs here (after s one) (n + (name_size i.infos known x).places) (name-next f base names i known class.Local x here s n at) first.1 h.1 (each-right (standing f base) s one rest sits),
      )

  covers-locals : (b : ℕ) (xs : List Name) (visible : List ℕ) → AllByRecursion (λ (x : Name). DeclaredHere f i b x.id) xs → CoversPlaces f i b visible → CoversPlaces f i b (with_ids visible (ids_of xs))
  covers-locals b [] visible h c = c
  covers-locals b (x ∷ xs) visible h c = covers-locals b xs (if among visible x.id then visible else visible ++ x.id ∷ []) h.1 (covers-one (DeclaredHere f i b) visible x.id (among visible x.id) c h.0)

  -- ---- definers

  place-declared : (b id : ℕ) → DeclaredHere f i b id → IsDeclared f b (place_number (variable_of i.variables id))
  place-declared b id d = subst (λ v. IsDeclared f b (place_number v)) (sym d.is) (d.place, d.place_is, d.within)

  top-shown : (visible : List ℕ) (x : Name) → EntryFine i.infos visible (entry class.Top x) → among visible x.id ≡ true
  top-shown visible x h = h.shown refl

  plain-place : (here : Here) (visible : List ℕ) (xs : List Name) (rs : List Root) → EntriesFine i.infos visible (map (entry class.Top) xs) → CoversPlaces f i here.block visible → AllByRecursion (λ (g : Given). DefinerPlaced f g.place g.definer) (plain_definers i here xs rs)
  plain-place here visible [] rs h c = tt
  plain-place here visible (x ∷ xs) [] h c = tt
  plain-place here visible (x ∷ xs) (r ∷ rs) h c = (place-declared here.block x.id (c x.id (top-shown visible x h.0)), plain-place here visible xs rs h.1 c)

  start-place : (here : Here) (p : ℕ) (value : Option ℕ) → IsDeclared f here.block p → AllByRecursion (λ (g : Given). DefinerPlaced f g.place g.definer) (start_definers p here value)
  start-place here p None h = tt
  start-place here p (Some x) h = (h, tt)

  -- ---- down the tree

  abbrev pub EqnReads : Eqn → Type 0
  EqnReads e = (visible : List ℕ) → eqn_uses k e visible ≡ [] → EntriesFine i.infos visible (eqn_outline e).entries → MakingReads visible (eqn_mentions i.infos known e) (eqn_walk base names i e)

  abbrev pub ArmReads : Arm → Type 0
  ArmReads a = (visible : List ℕ) → arm_uses k a visible ≡ [] → EntriesFine i.infos visible (arm_outline a).entries → ArmWalkReads visible (arm_mentions i.infos known a) (arm_walk base names i a)

  abbrev pub BodyReads : Body → Type 0
  BodyReads b = (visible : List ℕ) → inside (body_uses k b) visible ≡ [] → EntriesFine i.infos visible (body_outline b).entries → BodyMakingReads visible (within (body_uses k b).locals visible) (body_mentions i.infos known b) (body_walk base names i b)

  abbrev pub StateReads : State → Type 0
  StateReads s = (visible : List ℕ) → state_uses k s visible ≡ [] → EntriesFine i.infos visible (state_outline s).outline.entries → StateWalkReads visible (state_mentions i.infos known s) (one_state_walk base names i s)

  abbrev TheEqn : Type 0
  TheEqn = (e : Eqn) × EqnReads e

  abbrev TheArm : Type 0
  TheArm = (a : Arm) × ArmReads a

  abbrev TheBody : Type 0
  TheBody = (b : Body) × BodyReads b

  abbrev TheState : Type 0
  TheState = (s : State) × StateReads s

  abbrev IsFine : List ℕ → Outline → Type 0
  IsFine visible o = EntriesFine i.infos visible o.entries

  eqs-read : (es : List TheEqn) (visible : List ℕ) → all_uses (map (eqn_uses k) (map (λ e. e.0) es)) visible ≡ [] → AllByRecursion (IsFine visible) (map eqn_outline (map (λ e. e.0) es)) →
      MakingReads visible (mention.in_turn (map (eqn_mentions i.infos known) (map (λ e. e.0) es))) (in_turn (map (eqn_walk base names i) (map (λ e. e.0) es)))
  eqs-read [] visible h l here s n at c a sits = each-nothing (placing f) s
  eqs-read (e ∷ es) visible h l here s n at c a sits =
      let rest = all_uses (map (eqn_uses k) (map (λ e. e.0) es)) visible in
      let first = (eqn_mentions i.infos known e.0 n).all in
      let next = (eqn_mentions i.infos known e.0 n).next in
      let later = (mention.in_turn (map (eqn_mentions i.infos known) (map (λ e. e.0) es)) next).all in
      both-place f base s _ _ sits (e.1 visible (none-left (eqn_uses k e.0 visible) rest h) l.0 here s n at c (all-left (IsNumbered i) first later a))
      (eqs-read es visible (none-right (eqn_uses k e.0 visible) rest h) l.1 here _ next (eqn-next f base names i known sized e.0 here s n at) c (all-right (IsNumbered i) first later a))

  arms-read : (es : List TheArm) (visible : List ℕ) → all_uses (map (arm_uses k) (map (λ e. e.0) es)) visible ≡ [] → AllByRecursion (IsFine visible) (map arm_outline (map (λ e. e.0) es)) →
      (of number : ℕ) (here : Here) (s : Counters) (n : ℕ) → s.places ≡ n → CoversPlaces f i here.block visible → AllNumbered i (mention.in_turn (map (arm_mentions i.infos known) (map (λ e. e.0) es)) n).all →
      Sits f base s (arms_made (map (arm_walk base names i) (map (λ e. e.0) es)) of number here s).parts → Places f s (arms_made (map (arm_walk base names i) (map (λ e. e.0) es)) of number here s).parts
  arms-read [] visible h l of number here s n at c a sits = each-nothing (placing f) s
  arms-read (e ∷ es) visible h l of number here s n at c a sits =
      let rest = all_uses (map (arm_uses k) (map (λ e. e.0) es)) visible in
      let first = (arm_mentions i.infos known e.0 n).all in
      let next = (arm_mentions i.infos known e.0 n).next in
      let later = (mention.in_turn (map (arm_mentions i.infos known) (map (λ e. e.0) es)) next).all in
      both-place f base s _ _ sits (e.1 visible (none-left (arm_uses k e.0 visible) rest h) l.0 of number here s n at c (all-left (IsNumbered i) first later a))
      (arms-read es visible (none-right (arm_uses k e.0 visible) rest h) l.1 of (number + 1) here _ next (arm-next f base names i known sized e.0 of number here s n at) c (all-right (IsNumbered i) first later a))

  states-read : (es : List TheState) (visible : List ℕ) → all_uses (map (state_uses k) (map (λ e. e.0) es)) visible ≡ [] → AllByRecursion (λ (o : StateOutline). IsFine visible o.outline) (map state_outline (map (λ e. e.0) es)) →
      (of number : ℕ) (states : List ℕ) (here : Here) (s : Counters) (n : ℕ) → s.places ≡ n → CoversPlaces f i here.block visible → AllNumbered i (mention.in_turn (map (state_mentions i.infos known) (map (λ e. e.0) es)) n).all →
      Sits f base s (states_made (map (one_state_walk base names i) (map (λ e. e.0) es)) of number states here s).parts → Places f s (states_made (map (one_state_walk base names i) (map (λ e. e.0) es)) of number states here s).parts
  states-read [] visible h l of number states here s n at c a sits = each-nothing (placing f) s
  states-read (e ∷ es) visible h l of number states here s n at c a sits =
      let rest = all_uses (map (state_uses k) (map (λ e. e.0) es)) visible in
      let first = (state_mentions i.infos known e.0 n).all in
      let next = (state_mentions i.infos known e.0 n).next in
      let later = (mention.in_turn (map (state_mentions i.infos known) (map (λ e. e.0) es)) next).all in
      both-place f base s _ _ sits (e.1 visible (none-left (state_uses k e.0 visible) rest h) l.0 of number states here s n at c (all-left (IsNumbered i) first later a))
      (states-read es visible (none-right (state_uses k e.0 visible) rest h) l.1 of (number + 1) states here _ next (state-next f base names i known sized e.0 of number states here s n at) c (all-right (IsNumbered i) first later a))

  -- a body of a choice, in a block of its own
  choice-reads : (visible inner : List ℕ) (g : Mentioning) (body : Making) → BodyMakingReads visible inner g body → (of number : ℕ) (here : Here) (s : Counters) (n : ℕ) → s.places ≡ n → CoversPlaces f i here.block visible → AllNumbered i (g n).all →
      Sits f base s (body_of_choice body of number here s) → Places f s (body_of_choice body of number here s)
  choice-reads visible inner g body h of number here s n at c a sits =
      let t = past_block s in
      let own = inner_block here (ArmOf of number) false in
      let below = in_block s.blocks false here in
      let both = behind-block (standing f base) s own (body below t) sits in
      let made = h below t n (past_block-places s ∙ at) (covers-in_block f i s.blocks false (ArmOf of number) here visible both.0 c) a both.1 in
      block-first (placing f) s own (body below t) tt made.0

  eqn-layer : (x : Eqn-F TheEqn TheArm TheBody TheState) (visible : List ℕ) →
      (let step = map-Eqn TheEqn TheArm TheBody TheState Eqn Arm Body State (λ e. e.0) (λ a. a.0) (λ b. b.0) (λ s. s.0) x in
      used.eqn_step k (map-Eqn Eqn Arm Body State Uses Uses BodyUses Uses (eqn_uses k) (arm_uses k) (body_uses k) (state_uses k) step) visible ≡ [] → EntriesFine i.infos visible (defined.eqn_step (map-Eqn Eqn Arm Body State Outline Outline Outline StateOutline eqn_outline arm_outline body_outline state_outline step)).entries →
      MakingReads visible
      (mention.eqn_step i.infos known (map-Eqn Eqn Arm Body State Mentioning Mentioning Mentioning Mentioning (eqn_mentions i.infos known) (arm_mentions i.infos known) (body_mentions i.infos known) (state_mentions i.infos known) step))
      (make.eqn_step base names i (map-Eqn Eqn Arm Body State Making ArmWalk Making StateWalk (eqn_walk base names i) (arm_walk base names i) (body_walk base names i) (one_state_walk base names i) step)))
  eqn-layer (open_eqn.Plain left right) visible h l here s n e c a sits =
      both-place f base s _ _ sits (names-read left (in_body i here) s)
      (λ p. both-place f base _ _ _ p (expr-places f base names i k callees stands right (length left) visible h here _ c)
      (λ q. each-some_definers (placing f) _ _ (plain-place here visible left _ l c)))
  eqn-layer (open_eqn.Der at x slope start resets) visible h l here s n e c a sits =
      let resets_broken = all_uses (map (reset_arm_uses k) resets) visible in
      let rest = start_uses k start visible ++ resets_broken in
      let behind = none-right (value_uses k slope visible) rest h in
      let own = place-declared here.block x.id (c x.id (top-shown visible x l.0)) in
      both-place f base s _ _ sits (λ p. name-reads x (in_body i here) s)
      (λ p. both-place f base _ _ _ p (value-places slope visible (none-left (value_uses k slope visible) rest h) here _ c)
      (λ q. both-place f base _ _ _ q (start-places start visible (none-left (start_uses k start visible) resets_broken behind) here _ c)
      (λ r. both-place f base _ _ _ r (resets-place resets visible (none-right (start_uses k start visible) resets_broken behind) here _ c)
      (λ t. each-some_definers (placing f) _ _ (own, start-place here _ _ own)))))
  eqn-layer (open_eqn.Start at x value) visible h l here s n e c a sits =
      both-place f base s _ _ sits (λ p. name-reads x (in_body i here) s)
      (λ p. both-place f base _ _ _ p (value-places value visible h here _ c)
      (λ q. each-some_definers (placing f) _ _ (place-declared here.block x.id (c x.id (top-shown visible x l.0)), tt)))
  eqn-layer (open_eqn.Present at arms None) visible h l here s n e c a sits =
      let ws = map (λ a. a.0) arms in
      let os = map arm_outline ws in
      let uses = all_uses (map (arm_uses k) ws) visible in
      let t = past_choice s in
      let first = (mention.in_turn (map (arm_mentions i.infos known) ws) n).all in
      choice-first (placing f) s _ _ tt
      (both-place f base t _ _ (behind-choice (standing f base) s _ _ sits).1
      (arms-read arms visible (none-left uses [] h) (all-together (EntryFine i.infos visible) os (all-left (EntryFine i.infos visible) (together os).entries [] l)) s.choices 0 here t n (past_choice-places s ∙ e) c (all-left (IsNumbered i) first [] a))
      (λ p. each-nothing (placing f) _))
  eqn-layer (open_eqn.Present at arms (Some b)) visible h l here s n e c a sits =
      let ws = map (λ a. a.0) arms in
      let os = map arm_outline ws in
      let uses = all_uses (map (arm_uses k) ws) visible in
      let other = inside (body_uses k b.0) visible in
      let t = past_choice s in
      let first = (mention.in_turn (map (arm_mentions i.infos known) ws) n).all in
      let next = (mention.in_turn (map (arm_mentions i.infos known) ws) n).next in
      let later = (body_mentions i.infos known b.0 next).all in
      let at_t = past_choice-places s ∙ e in
      choice-first (placing f) s _ _ tt
      (both-place f base t _ _ (behind-choice (standing f base) s _ _ sits).1
      (arms-read arms visible (none-left uses other h) (all-together (EntryFine i.infos visible) os (all-left (EntryFine i.infos visible) (together os).entries (body_outline b.0).entries l)) s.choices 0 here t n at_t c (all-left (IsNumbered i) first later a))
      (choice-reads visible (within (body_uses k b.0).locals visible) (body_mentions i.infos known b.0) (body_walk base names i b.0)
      (b.1 visible (none-right uses other h) (all-right (EntryFine i.infos visible) (together os).entries (body_outline b.0).entries l))
      s.choices _ here _ next (arms-next f base names i known sized ws s.choices 0 here t n at_t) c (all-right (IsNumbered i) first later a)))
  eqn-layer (open_eqn.Automaton at states) visible h l here s n e c a sits =
      let os = map state_outline (map (λ s. s.0) states) in
      automaton-first (placing f) s _ _ tt
      (states-read states visible h (all-states (EntryFine i.infos visible) (with_ids [] (ids_of (defined.state_names os))) os l) s.automata 0 _ here (past_automaton s) n (past_automaton-places s ∙ e) c a (behind-automaton (standing f base) s _ _ sits).1)
  eqn-layer (open_eqn.Reset at eqs z) visible h l here s n e c a sits =
      let es = map (λ e. e.0) eqs in
      let uses = all_uses (map (eqn_uses k) es) visible in
      let t = past_block s in
      let both = behind-block (standing f base) s _ _ sits in
      let first = (mention.in_turn (map (eqn_mentions i.infos known) es) n).all in
      block-first (placing f) s _ _ tt
      (both-place f base t _ _ both.1
      (eqs-read eqs visible (none-left uses (cond_uses k z visible) h) (all-of-list (EntryFine i.infos visible) [] [] (map eqn_outline es) l) (in_block s.blocks here.hybrid here) t n (past_block-places s ∙ e) (covers-in_block f i s.blocks here.hybrid _ here visible both.0 c) (all-left (IsNumbered i) first [] a))
      (cond-places z visible (none-right uses (cond_uses k z visible) h) here _ c))

  arm-layer : (x : Arm-F TheEqn TheArm TheBody TheState) (visible : List ℕ) →
      (let step = map-Arm TheEqn TheArm TheBody TheState Eqn Arm Body State (λ e. e.0) (λ a. a.0) (λ b. b.0) (λ s. s.0) x in
      used.arm_step k (map-Arm Eqn Arm Body State Uses Uses BodyUses Uses (eqn_uses k) (arm_uses k) (body_uses k) (state_uses k) step) visible ≡ [] → EntriesFine i.infos visible (defined.arm_step (map-Arm Eqn Arm Body State Outline Outline Outline StateOutline eqn_outline arm_outline body_outline state_outline step)).entries →
      ArmWalkReads visible
      (mention.arm_step i.infos known (map-Arm Eqn Arm Body State Mentioning Mentioning Mentioning Mentioning (eqn_mentions i.infos known) (arm_mentions i.infos known) (body_mentions i.infos known) (state_mentions i.infos known) step))
      (make.arm_step base names i (map-Arm Eqn Arm Body State Making ArmWalk Making StateWalk (eqn_walk base names i) (arm_walk base names i) (body_walk base names i) (one_state_walk base names i) step)))
  arm-layer x visible h l of number here s n e c a sits =
      let uses = cond_uses k x.cond visible in
      let rest = inside (body_uses k x.body.0) visible in
      both-place f base s _ _ sits (cond-places x.cond visible (none-left uses rest h) here s c)
      (choice-reads visible (within (body_uses k x.body.0).locals visible) (body_mentions i.infos known x.body.0) (body_walk base names i x.body.0) (x.body.1 visible (none-right uses rest h) l)
      of number here _ (n + (cond_size i.infos known x.cond).places) (cond-next f base names i known sized x.cond here s n e) c a)

  body-layer : (x : Body-F TheEqn TheArm TheBody TheState) (visible : List ℕ) →
      (let step = map-Body TheEqn TheArm TheBody TheState Eqn Arm Body State (λ e. e.0) (λ a. a.0) (λ b. b.0) (λ s. s.0) x in
      inside (used.body_step k (map-Body Eqn Arm Body State Uses Uses BodyUses Uses (eqn_uses k) (arm_uses k) (body_uses k) (state_uses k) step)) visible ≡ [] → EntriesFine i.infos visible (defined.body_step (map-Body Eqn Arm Body State Outline Outline Outline StateOutline eqn_outline arm_outline body_outline state_outline step)).entries →
      BodyMakingReads visible (within x.locals visible)
      (mention.body_step i.infos known (map-Body Eqn Arm Body State Mentioning Mentioning Mentioning Mentioning (eqn_mentions i.infos known) (arm_mentions i.infos known) (body_mentions i.infos known) (state_mentions i.infos known) step))
      (make.body_step base names i (map-Body Eqn Arm Body State Making ArmWalk Making StateWalk (eqn_walk base names i) (arm_walk base names i) (body_walk base names i) (one_state_walk base names i) step)))
  body-layer x visible h l here s n e c a sits =
      let es = map (λ e. e.0) x.eqs in
      let o = list_from [] [] (map eqn_outline es) in
      let fine = under-fine i.infos visible x.locals o.entries l in
      let own = names_made base names i x.locals here s in
      let rest = in_turn (map (eqn_walk base names i) es) here (after s own) in
      let first = (mention.of_names i.infos known class.Local x.locals n).all in
      let next = (mention.of_names i.infos known class.Local x.locals n).next in
      let later = (mention.in_turn (map (eqn_mentions i.infos known) es) next).all in
      let left = each-left (standing f base) s own rest sits in
      let inner = covers-locals here.block x.locals visible (locals-declared x.locals here s n e fine.0 (all-left (IsNumbered i) first later a) left) c in (
        both-place f base s own rest sits (names-read x.locals here s)
            (eqs-read x.eqs (within x.locals visible) h (all-of-list (EntryFine i.infos (within x.locals visible)) [] [] (map eqn_outline es) fine.1) here (after s own) next (names-next f base names i known class.Local x.locals here s n e) inner (all-right (IsNumbered i) first later a)),
        inner,
      )

  state-layer : (x : State-F TheEqn TheArm TheBody TheState) (visible : List ℕ) →
      (let step = map-State TheEqn TheArm TheBody TheState Eqn Arm Body State (λ e. e.0) (λ a. a.0) (λ b. b.0) (λ s. s.0) x in
      used.state_step k (map-State Eqn Arm Body State Uses Uses BodyUses Uses (eqn_uses k) (arm_uses k) (body_uses k) (state_uses k) step) visible ≡ [] → EntriesFine i.infos visible (defined.state_step (map-State Eqn Arm Body State Outline Outline Outline StateOutline eqn_outline arm_outline body_outline state_outline step)).outline.entries →
      StateWalkReads visible
      (mention.state_step i.infos known (map-State Eqn Arm Body State Mentioning Mentioning Mentioning Mentioning (eqn_mentions i.infos known) (arm_mentions i.infos known) (body_mentions i.infos known) (state_mentions i.infos known) step))
      (make.state_step base names i (map-State Eqn Arm Body State Making ArmWalk Making StateWalk (eqn_walk base names i) (arm_walk base names i) (body_walk base names i) (one_state_walk base names i) step)))
  state-layer x visible h l of number states here s n e c a sits =
      let inner = within (body_uses k x.body.0).locals visible in
      let uses = inside (body_uses k x.body.0) visible in
      let weak = moves_uses k false x.moves inner in
      let strong = moves_uses k true x.moves visible in
      let behind = none-right uses (weak ++ strong) h in
      let t = past_block s in
      let u = past_block t in
      let own_body = s.blocks + 1 in
      let below = in_block own_body here.hybrid here in
      let guard_block = inner_block here (Guard of number) here.hybrid in
      let body_block = inner_block here (StateOf of number) here.hybrid in
      let first = behind-block (standing f base) s guard_block _ sits in
      let second = behind-block (standing f base) t body_block _ first.1 in
      let body_is = subst (λ b. slice_get f.blocks b ≡ Some body_block) (next-block s) second.0 in
      let in_guard = covers-in_block f i s.blocks here.hybrid (Guard of number) here visible first.0 c in
      let in_own_body = covers-in_block f i own_body here.hybrid (StateOf of number) here visible body_is c in
      let inside_sits = each-left (standing f base) u _ _ second.1 in
      let made = x.body.1 visible (none-left uses (weak ++ strong) h) l below u n (past_block-places t ∙ (past_block-places s ∙ e)) in_own_body (all-left (IsNumbered i) (body_mentions i.infos known x.body.0 n).all [] a) inside_sits in
      block-first (placing f) s _ _ tt
      (block-first (placing f) t _ _ tt
      (both-place f base u _ _ second.1 (λ p. made.0)
      (moves-place x.moves s.blocks own_body states here inner visible made.1 in_guard (none-left weak strong behind) (none-right weak strong behind) _)))

  eqn-case : (x : Eqn-F Eqn Arm Body State) (y : Eqn-F TheEqn TheArm TheBody TheState) → map-Eqn TheEqn TheArm TheBody TheState Eqn Arm Body State (λ e. e.0) (λ a. a.0) (λ b. b.0) (λ s. s.0) y ≡ x → EqnReads (roll-Eqn x)
  unfolding eqn_uses arm_uses body_uses state_uses eqn_outline arm_outline body_outline state_outline eqn_mentions arm_mentions body_mentions state_mentions eqn_walk arm_walk body_walk one_state_walk
  eqn-case x y is =
      let step = map-Eqn TheEqn TheArm TheBody TheState Eqn Arm Body State (λ e. e.0) (λ a. a.0) (λ b. b.0) (λ s. s.0) y in
      subst (λ z. EqnReads (roll-Eqn z)) is
      (λ visible h l.
      (subst (λ g. MakingReads visible g (eqn_walk base names i (roll-Eqn step))) (sym (fold-roll-Eqn Mentioning Mentioning Mentioning Mentioning (mention.eqn_step i.infos known) (mention.arm_step i.infos known) (mention.body_step i.infos known) (mention.state_step i.infos known) step))
      (subst (λ w. MakingReads visible (mention.eqn_step i.infos known (map-Eqn Eqn Arm Body State Mentioning Mentioning Mentioning Mentioning (eqn_mentions i.infos known) (arm_mentions i.infos known) (body_mentions i.infos known) (state_mentions i.infos known) step)) w) (sym (fold-roll-Eqn Making ArmWalk Making StateWalk (make.eqn_step base names i) (make.arm_step base names i) (make.body_step base names i) (make.state_step base names i) step))
      (eqn-layer y visible (subst (λ (u : Uses). u visible ≡ []) (fold-roll-Eqn Uses Uses BodyUses Uses (used.eqn_step k) (used.arm_step k) (used.body_step k) (used.state_step k) step) h)
      (subst (λ (o : Outline). IsFine visible o) (fold-roll-Eqn Outline Outline Outline StateOutline defined.eqn_step defined.arm_step defined.body_step defined.state_step step) l)))))

  arm-case : (x : Arm-F Eqn Arm Body State) (y : Arm-F TheEqn TheArm TheBody TheState) → map-Arm TheEqn TheArm TheBody TheState Eqn Arm Body State (λ e. e.0) (λ a. a.0) (λ b. b.0) (λ s. s.0) y ≡ x → ArmReads (roll-Arm x)
  unfolding eqn_uses arm_uses body_uses state_uses eqn_outline arm_outline body_outline state_outline eqn_mentions arm_mentions body_mentions state_mentions eqn_walk arm_walk body_walk one_state_walk
  arm-case x y is =
      let step = map-Arm TheEqn TheArm TheBody TheState Eqn Arm Body State (λ e. e.0) (λ a. a.0) (λ b. b.0) (λ s. s.0) y in
      subst (λ z. ArmReads (roll-Arm z)) is
      (λ visible h l.
      (subst (λ g. ArmWalkReads visible g (arm_walk base names i (roll-Arm step))) (sym (fold-roll-Arm Mentioning Mentioning Mentioning Mentioning (mention.eqn_step i.infos known) (mention.arm_step i.infos known) (mention.body_step i.infos known) (mention.state_step i.infos known) step))
      (subst (λ w. ArmWalkReads visible (mention.arm_step i.infos known (map-Arm Eqn Arm Body State Mentioning Mentioning Mentioning Mentioning (eqn_mentions i.infos known) (arm_mentions i.infos known) (body_mentions i.infos known) (state_mentions i.infos known) step)) w) (sym (fold-roll-Arm Making ArmWalk Making StateWalk (make.eqn_step base names i) (make.arm_step base names i) (make.body_step base names i) (make.state_step base names i) step))
      (arm-layer y visible (subst (λ (u : Uses). u visible ≡ []) (fold-roll-Arm Uses Uses BodyUses Uses (used.eqn_step k) (used.arm_step k) (used.body_step k) (used.state_step k) step) h)
      (subst (λ (o : Outline). IsFine visible o) (fold-roll-Arm Outline Outline Outline StateOutline defined.eqn_step defined.arm_step defined.body_step defined.state_step step) l)))))

  body-case : (x : Body-F Eqn Arm Body State) (y : Body-F TheEqn TheArm TheBody TheState) → map-Body TheEqn TheArm TheBody TheState Eqn Arm Body State (λ e. e.0) (λ a. a.0) (λ b. b.0) (λ s. s.0) y ≡ x → BodyReads (roll-Body x)
  unfolding eqn_uses arm_uses body_uses state_uses eqn_outline arm_outline body_outline state_outline eqn_mentions arm_mentions body_mentions state_mentions eqn_walk arm_walk body_walk one_state_walk
  body-case x y is =
      let step = map-Body TheEqn TheArm TheBody TheState Eqn Arm Body State (λ e. e.0) (λ a. a.0) (λ b. b.0) (λ s. s.0) y in
      subst (λ z. BodyReads (roll-Body z)) is
      (λ visible h l.
      subst (λ (u : BodyUses). BodyMakingReads visible (within u.locals visible) (body_mentions i.infos known (roll-Body step)) (body_walk base names i (roll-Body step))) (sym (fold-roll-Body Uses Uses BodyUses Uses (used.eqn_step k) (used.arm_step k) (used.body_step k) (used.state_step k) step))
      (subst (λ g. BodyMakingReads visible (within y.locals visible) g (body_walk base names i (roll-Body step))) (sym (fold-roll-Body Mentioning Mentioning Mentioning Mentioning (mention.eqn_step i.infos known) (mention.arm_step i.infos known) (mention.body_step i.infos known) (mention.state_step i.infos known) step))
      (subst (λ w. BodyMakingReads visible (within y.locals visible) (mention.body_step i.infos known (map-Body Eqn Arm Body State Mentioning Mentioning Mentioning Mentioning (eqn_mentions i.infos known) (arm_mentions i.infos known) (body_mentions i.infos known) (state_mentions i.infos known) step)) w) (sym (fold-roll-Body Making ArmWalk Making StateWalk (make.eqn_step base names i) (make.arm_step base names i) (make.body_step base names i) (make.state_step base names i) step))
      (body-layer y visible (subst (λ (u : BodyUses). inside u visible ≡ []) (fold-roll-Body Uses Uses BodyUses Uses (used.eqn_step k) (used.arm_step k) (used.body_step k) (used.state_step k) step) h)
      (subst (λ (o : Outline). IsFine visible o) (fold-roll-Body Outline Outline Outline StateOutline defined.eqn_step defined.arm_step defined.body_step defined.state_step step) l)))))

  state-case : (x : State-F Eqn Arm Body State) (y : State-F TheEqn TheArm TheBody TheState) → map-State TheEqn TheArm TheBody TheState Eqn Arm Body State (λ e. e.0) (λ a. a.0) (λ b. b.0) (λ s. s.0) y ≡ x → StateReads (roll-State x)
  unfolding eqn_uses arm_uses body_uses state_uses eqn_outline arm_outline body_outline state_outline eqn_mentions arm_mentions body_mentions state_mentions eqn_walk arm_walk body_walk one_state_walk
  state-case x y is =
      let step = map-State TheEqn TheArm TheBody TheState Eqn Arm Body State (λ e. e.0) (λ a. a.0) (λ b. b.0) (λ s. s.0) y in
      subst (λ z. StateReads (roll-State z)) is
      (λ visible h l.
      (subst (λ g. StateWalkReads visible g (one_state_walk base names i (roll-State step))) (sym (fold-roll-State Mentioning Mentioning Mentioning Mentioning (mention.eqn_step i.infos known) (mention.arm_step i.infos known) (mention.body_step i.infos known) (mention.state_step i.infos known) step))
      (subst (λ w. StateWalkReads visible (mention.state_step i.infos known (map-State Eqn Arm Body State Mentioning Mentioning Mentioning Mentioning (eqn_mentions i.infos known) (arm_mentions i.infos known) (body_mentions i.infos known) (state_mentions i.infos known) step)) w) (sym (fold-roll-State Making ArmWalk Making StateWalk (make.eqn_step base names i) (make.arm_step base names i) (make.body_step base names i) (make.state_step base names i) step))
      (state-layer y visible (subst (λ (u : Uses). u visible ≡ []) (fold-roll-State Uses Uses BodyUses Uses (used.eqn_step k) (used.arm_step k) (used.body_step k) (used.state_step k) step) h)
      (subst (λ (o : StateOutline). IsFine visible o.outline) (fold-roll-State Outline Outline Outline StateOutline defined.eqn_step defined.arm_step defined.body_step defined.state_step step) l)))))

  -- an equation that breaks no rule of names
  pub eqn-reads : (e : Eqn) → EqnReads e
  eqn-reads = ind-Eqn EqnReads ArmReads BodyReads StateReads eqn-case arm-case body-case state-case
