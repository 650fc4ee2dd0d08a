-- What the walks of `present`, automata and `reset` blocks make stands in its context.
use Rattle.std.proofs.Common.{◌≡◌, ℕ, ◌+◌, Bool, true, false, is_some, List, [], ◌∷◌, length, slice_get, Option, Some, None, refl, sym, ap, subst, ◌∙◌}
use Rattle.std.specs.List.{AllByRecursion}
use Rattle.zl_ast.specs.declared.name.Name.{Name}
use Rattle.zl_ast.specs.Kinds as kinds
use Rattle.zl_meaning.specs.FlatForm.{FlatForm}
use Rattle.zl_meaning.specs.Regular.{Context}
use Rattle.zl_meaning.specs.declared.block.BlockKind.TheVariants.{Arm as ArmOf, Guard, State as StateOf, Reset}
use Rattle.zl_meaning.specs.declared.block.Choice.{Choice}
use Rattle.zl_meaning.specs.declared.block.Auto.{Auto}
use Rattle.zl_flat.specs.declared.here.Here.{Here}
use Rattle.zl_flat.specs.Parts.{Counters, nothing, joined, one_block, one_choice, one_automaton, after, past_block, past_choice, past_automaton}
use Rattle.zl_flat.specs.Instances.{Instance, in_block, inner_block}
use Rattle.zl_flat.specs.Equations.{Making, in_turn, Testing, StateWalk, states_made, state_names, ArmWalk, arms_made, body_of_choice, MoveWalk, condition_place, names_made, other_made, present, automaton, reset, moves_made, state_made, arm_made, body_made}
use Rattle.zl_flat.proofs.WellFormedParts.{each-nothing, each-joined, each-left, each-right, block-first, behind-block, choice-first, behind-choice, automaton-first, behind-automaton}
use Rattle.zl_flat.proofs.RegularGround.{Suits, Assigned, assigned-map, assigned-joined, assigned-nothing, assigned-block_first, assigned-choice_first, assigned-automaton_first, lying, regular, Lies, IsRegularIn, AtBlock, BodyIs, block-at}
use Rattle.zl_flat.proofs.RegularUses.{choice-takes, reset-takes, automaton-takes}
use Rattle.zl_flat.proofs.RegularEqns.{discrete-body, Placed, TestHolds, TestsHold, StateHolds, StatesHold, TestingIn, MakingIn, ArmIn, StateIn, in_turn-regular, names-regular}

module _ (f : FlatForm) (base : ℕ) (know : (ℕ → Context) → Type 0) (names : List (List ℕ)) (i : Instance) where
  -- ---- `reset`

  -- a `reset` block
  pub reset-regular : (c : kinds.Context) (eqs : List Making) (z : Testing) → AllByRecursion (MakingIn f base know names i c) eqs → TestingIn f base know c z → MakingIn f base know names i c (reset base names i eqs z)
  reset-regular c eqs z heqs hz here s hb hs placed lies =
      let t = past_block s in
      let below = in_block s.blocks here.hybrid here in
      let inside = in_turn eqs below t in
      let u = after t inside in
      let test = z here u in
      let own = inner_block here (Reset test.test) here.hybrid in
      let q = joined inside test.parts in
      let both = behind-block (lying f base) s own q lies in
      let a = in_turn-regular f base know names i c eqs heqs below t (block-at f s.blocks own both.0) hs placed (each-left (lying f base) t inside test.parts both.1) in
      let b = hz here u hb hs (each-right (lying f base) t inside test.parts both.1) in
      let A : (ℕ → Context) → Type 0 = λ context. BodyIs f context here c → IsRegularIn f base context t inside in
      let B : (ℕ → Context) → Type 0 = λ context. BodyIs f context here c → TestHolds f base context u test in
      assigned-map base know s (joined (one_block own) q) (λ context. A context × B context) (λ context. BodyIs f context here c → IsRegularIn f base context s (joined (one_block own) q))
      (λ context g body.
      let h = g.1 body in
      block-first (regular f base context) s own q (ap Some hb, h.test) (each-joined (regular f base context) t inside test.parts (g.0 body) (h.parts (reset-takes f s.blocks test.test own both.0 refl))))
      (assigned-block_first base know s q (λ context. A context × B context) own (assigned-joined base know t inside test.parts A B a b))

  -- ---- `present`

  -- a body of a choice
  pub body_of_choice-regular : (c : kinds.Context) (body : Making) → kinds.allows_state c ≡ true → MakingIn f base know names i kinds.discrete body → (of number : ℕ) → MakingIn f base know names i c (body_of_choice body of number)
  body_of_choice-regular c body ok hbody of number here s hb hs placed lies =
      let t = past_block s in
      let below = in_block s.blocks false here in
      let inside = body below t in
      let own = inner_block here (ArmOf of number) false in
      let both = behind-block (lying f base) s own inside lies in
      let a = hbody below t (block-at f s.blocks own both.0) refl placed both.1 in
      let A : (ℕ → Context) → Type 0 = λ context. BodyIs f context below kinds.discrete → IsRegularIn f base context t inside in
      assigned-map base know s (joined (one_block own) inside) A (λ context. BodyIs f context here c → IsRegularIn f base context s (joined (one_block own) inside))
      (λ context g b. block-first (regular f base context) s own inside (refl, tt) (g (discrete-body f context here s.blocks c ok b)))
      (assigned-block_first base know s inside A own a)

  -- an arm, and arms
  pub arm-regular : (c : kinds.Context) (z : Testing) (body : Making) → kinds.allows_state c ≡ true → TestingIn f base know c z → MakingIn f base know names i kinds.discrete body → ArmIn f base know names i c (arm_made base names i z body)
  arm-regular c z body ok hz hbody of number here s hb hs placed lies =
      let test = z here s in
      let t = after s test.parts in
      let rest = body_of_choice body of number here t in
      let a = hz here s hb hs (each-left (lying f base) s test.parts rest lies) in
      let b = body_of_choice-regular c body ok hbody of number here t hb hs placed (each-right (lying f base) s test.parts rest lies) in
      let A : (ℕ → Context) → Type 0 = λ context. BodyIs f context here c → TestHolds f base context s test in
      let B : (ℕ → Context) → Type 0 = λ context. BodyIs f context here c → IsRegularIn f base context t rest in
      assigned-map base know s (joined test.parts rest) (λ context. A context × B context) (λ context. BodyIs f context here c → TestHolds f base context s (arm_made base names i z body of number here s))
      (λ context g body.
      let h = g.0 body in
      record { test = h.test; parts = λ taken. each-joined (regular f base context) s test.parts rest (h.parts taken) (g.1 body) })
      (assigned-joined base know s test.parts rest A B a b)

  pub arms-regular : (c : kinds.Context) (ws : List ArmWalk) → AllByRecursion (ArmIn f base know names i c) ws → (of number : ℕ) (here : Here) (s : Counters) → AtBlock f here → Suits here.hybrid c → Placed f i here.call → Lies f base s (arms_made ws of number here s).parts →
      Assigned base know s (arms_made ws of number here s).parts (λ context. BodyIs f context here c → TestsHold f base context s (arms_made ws of number here s))
  arms-regular c [] h of number here s hb hs placed lies = assigned-map base know s nothing (λ context. Unit {0}) (λ context. BodyIs f context here c → TestsHold f base context s (arms_made [] of number here s))
      (λ context g body. record { tests = tt; parts = λ taken. each-nothing (regular f base context) s }) (assigned-nothing base know s)
  arms-regular c (w ∷ ws) h of number here s hb hs placed lies =
      let first = w of number here s in
      let t = after s first.parts in
      let rest = arms_made ws of (number + 1) here t in
      let A : (ℕ → Context) → Type 0 = λ context. BodyIs f context here c → TestHolds f base context s first in
      let B : (ℕ → Context) → Type 0 = λ context. BodyIs f context here c → TestsHold f base context t rest in
      assigned-map base know s (joined first.parts rest.parts) (λ context. A context × B context) (λ context. BodyIs f context here c → TestsHold f base context s (arms_made (w ∷ ws) of number here s))
      (λ context g body.
      let x = g.0 body in
      let y = g.1 body in
      record { tests = (x.test, y.tests); parts = λ taken. each-joined (regular f base context) s first.parts rest.parts (x.parts taken.0) (y.parts taken.1) })
      (assigned-joined base know s first.parts rest.parts A B (h.0 of number here s hb hs placed (each-left (lying f base) s first.parts rest.parts lies))
      (arms-regular c ws h.1 of (number + 1) here t hb hs placed (each-right (lying f base) s first.parts rest.parts lies)))

  -- an `else` body, if there is one
  abbrev pub OtherIn : Option Making → Type 0
  OtherIn None = Unit {0}
  OtherIn (Some b) = MakingIn f base know names i kinds.discrete b

  -- it stands in its context
  other-regular : (c : kinds.Context) (other : Option Making) → kinds.allows_state c ≡ true → OtherIn other → (of number : ℕ) → MakingIn f base know names i c (other_made base names i other of number)
  other-regular c None ok ho of number here s hb hs placed lies = assigned-map base know s nothing (λ context. Unit {0}) (λ context. BodyIs f context here c → IsRegularIn f base context s nothing) (λ context g body. each-nothing (regular f base context) s) (assigned-nothing base know s)
  other-regular c (Some b) ok ho of number here s hb hs placed lies = body_of_choice-regular c b ok ho of number here s hb hs placed lies

  -- where a `present` may stand, states may
  pub present-state : (o : Bool) (c : kinds.Context) → kinds.allows_present o c ≡ true → kinds.allows_state c ≡ true
  unfolding kinds.allows_present
  present-state true kinds.combinatorial ok = absurd (cc)
  present-state false kinds.combinatorial ok = absurd (cc)
  present-state true kinds.recalling ok = absurd (cc)
  present-state false kinds.recalling ok = absurd (cc)
  present-state o kinds.discrete ok = refl
  present-state o kinds.hybrid ok = refl

  -- a choice of a hybrid block has no `else`
  no-other : (o h : Bool) (c : kinds.Context) → kinds.allows_present o c ≡ true → Suits h c → h ≡ true → o ≡ false
  unfolding kinds.allows_present
  no-other false h c ok s e = refl
  no-other true h kinds.combinatorial ok s e = absurd (cc)
  no-other true h kinds.recalling ok s e = absurd (cc)
  no-other true h kinds.discrete ok s e = absurd (cc)
  no-other true h kinds.hybrid ok s e = absurd (cc)

  -- `present`
  pub present-regular : (c : kinds.Context) (arms : List ArmWalk) (other : Option Making) → kinds.allows_present (is_some other) c ≡ true → AllByRecursion (ArmIn f base know names i c) arms → OtherIn other → MakingIn f base know names i c (present base names i arms other)
  present-regular c arms other ok ha ho here s hb hs placed lies =
      let t = past_choice s in
      let bodies = arms_made arms s.choices 0 here t in
      let u = after t bodies.parts in
      let last_body = other_made base names i other s.choices (length arms) here u in
      let q = joined bodies.parts last_body in
      let own : Choice = record { block = here.block; conds = bodies.tests; other = is_some other } in
      let both = behind-choice (lying f base) s own q lies in
      let a = arms-regular c arms ha s.choices 0 here t hb hs placed (each-left (lying f base) t bodies.parts last_body both.1) in
      let b = other-regular c other (present-state (is_some other) c ok) ho s.choices (length arms) here u hb hs placed (each-right (lying f base) t bodies.parts last_body both.1) in
      let A : (ℕ → Context) → Type 0 = λ context. BodyIs f context here c → TestsHold f base context t bodies in
      let B : (ℕ → Context) → Type 0 = λ context. BodyIs f context here c → IsRegularIn f base context u last_body in
      assigned-map base know s (joined (one_choice own) q) (λ context. A context × B context) (λ context. BodyIs f context here c → IsRegularIn f base context s (joined (one_choice own) q))
      (λ context g body.
      let x = g.0 body in
      choice-first (regular f base context) s own q (record { tests = x.tests; other = λ e. no-other (is_some other) here.hybrid c ok hs (sym hb ∙ e) })
      (each-joined (regular f base context) t bodies.parts last_body (x.parts (choice-takes f s.choices own both.0)) (g.1 body)))
      (assigned-choice_first base know s q (λ context. A context × B context) own (assigned-joined base know t bodies.parts last_body A B a b))

  -- ---- `automaton`

  -- a move whose condition stands in this context
  pub record MoveIn (c : kinds.Context) (m : MoveWalk) : Type 0 where
    pub test : TestingIn f base know c m.test

  -- the condition of a move, in the guard or the body
  move-regular : (c : kinds.Context) (strong : Bool) (z : Testing) (guard body : ℕ) (here : Here) (s : Counters) → TestingIn f base know c z → AtBlock f (in_block guard here.hybrid here) → AtBlock f (in_block body here.hybrid here) → Suits here.hybrid c →
      Lies f base s (z (condition_place strong guard body here) s).parts → Assigned base know s (z (condition_place strong guard body here) s).parts (λ context. BodyIs f context here c → TestHolds f base context s (z (condition_place strong guard body here) s))
  move-regular c true z guard body here s hz hg hb hs lies = hz (in_block guard here.hybrid here) s hg hs lies
  move-regular c false z guard body here s hz hg hb hs lies = hz (in_block body here.hybrid here) s hb hs lies

  -- the moves of a state
  moves-regular : (c : kinds.Context) (ms : List MoveWalk) → AllByRecursion (MoveIn c) ms → (guard body : ℕ) (states : List ℕ) (here : Here) (s : Counters) → AtBlock f (in_block guard here.hybrid here) → AtBlock f (in_block body here.hybrid here) → Suits here.hybrid c →
      Lies f base s (moves_made base names i ms guard body states here s).parts → Assigned base know s (moves_made base names i ms guard body states here s).parts (λ context. BodyIs f context here c → StateHolds f base context s (moves_made base names i ms guard body states here s))
  moves-regular c [] h guard body states here s hg hb hs lies = assigned-map base know s nothing (λ context. Unit {0}) (λ context. BodyIs f context here c → StateHolds f base context s (moves_made base names i [] guard body states here s))
      (λ context g b. record { moves = tt; parts = λ taken. each-nothing (regular f base context) s }) (assigned-nothing base know s)
  moves-regular c (m ∷ ms) h guard body states here s hg hb hs lies =
      let test = m.test (condition_place m.strong guard body here) s in
      let t = after s test.parts in
      let rest = moves_made base names i ms guard body states here t in
      let A : (ℕ → Context) → Type 0 = λ context. BodyIs f context here c → TestHolds f base context s test in
      let B : (ℕ → Context) → Type 0 = λ context. BodyIs f context here c → StateHolds f base context t rest in
      assigned-map base know s (joined test.parts rest.parts) (λ context. A context × B context) (λ context. BodyIs f context here c → StateHolds f base context s (moves_made base names i (m ∷ ms) guard body states here s))
      (λ context g b.
      let x = g.0 b in
      let y = g.1 b in
      record { moves = (x.test, y.moves); parts = λ taken. each-joined (regular f base context) s test.parts rest.parts (x.parts taken.0) (y.parts taken.1) })
      (assigned-joined base know s test.parts rest.parts A B (move-regular c m.strong m.test guard body here s h.0.test hg hb hs (each-left (lying f base) s test.parts rest.parts lies))
      (moves-regular c ms h.1 guard body states here t hg hb hs (each-right (lying f base) s test.parts rest.parts lies)))

  -- the next block has the next number
  next-block : (s : Counters) → (past_block s).blocks ≡ s.blocks + 1
  unfolding past_block
  next-block s = refl

  -- a state, with its guard
  pub state-regular : (c : kinds.Context) (name : Name) (body : Making) (moves : List MoveWalk) → MakingIn f base know names i c body → AllByRecursion (MoveIn c) moves → StateIn f base know names i c (record { name = name; walk = state_made base names i body moves })
  state-regular c name body moves hbody hmoves of number states here s hb hs placed lies =
      let t = past_block s in
      let u = past_block t in
      let guard = s.blocks in
      let own_body = s.blocks + 1 in
      let below = in_block own_body here.hybrid here in
      let inside = body below u in
      let v = after u inside in
      let rest = moves_made base names i moves guard own_body states here v in
      let guard_block = inner_block here (Guard of number) here.hybrid in
      let body_block = inner_block here (StateOf of number) here.hybrid in
      let inner = joined inside rest.parts in
      let outer = joined (one_block body_block) inner in
      let first = behind-block (lying f base) s guard_block outer lies in
      let second = behind-block (lying f base) t body_block inner first.1 in
      let body_is = subst (λ n. slice_get f.blocks n ≡ Some body_block) (next-block s) second.0 in
      let at_guard = block-at f guard guard_block first.0 in
      let at_body = block-at f own_body body_block body_is in
      let a = hbody below u at_body hs placed (each-left (lying f base) u inside rest.parts second.1) in
      let b = moves-regular c moves hmoves guard own_body states here v at_guard at_body hs (each-right (lying f base) u inside rest.parts second.1) in
      let A : (ℕ → Context) → Type 0 = λ context. BodyIs f context here c → IsRegularIn f base context u inside in
      let B : (ℕ → Context) → Type 0 = λ context. BodyIs f context here c → StateHolds f base context v rest in
      let Q : (ℕ → Context) → Type 0 = λ context. A context × B context in
      assigned-map base know s (joined (one_block guard_block) outer) Q (λ context. BodyIs f context here c → StateHolds f base context s (state_made base names i body moves of number states here s))
      (λ context g b.
      let y = g.1 b in
      record {
        moves = y.moves;
        parts = λ taken. block-first (regular f base context) s guard_block outer (ap Some hb, tt)
            (block-first (regular f base context) t body_block inner (ap Some hb, tt) (each-joined (regular f base context) u inside rest.parts (g.0 b) (y.parts taken)));
      })
      (assigned-block_first base know s outer Q guard_block (assigned-block_first base know t inner Q body_block (assigned-joined base know u inside rest.parts A B a b)))

  -- states one behind the other
  states-regular : (c : kinds.Context) (ws : List StateWalk) → AllByRecursion (StateIn f base know names i c) ws → (of number : ℕ) (all : List ℕ) (here : Here) (s : Counters) → AtBlock f here → Suits here.hybrid c → Placed f i here.call → Lies f base s (states_made ws of number all here s).parts →
      Assigned base know s (states_made ws of number all here s).parts (λ context. BodyIs f context here c → StatesHold f base context s (states_made ws of number all here s))
  states-regular c [] h of number all here s hb hs placed lies = assigned-map base know s nothing (λ context. Unit {0}) (λ context. BodyIs f context here c → StatesHold f base context s (states_made [] of number all here s))
      (λ context g body. record { states = tt; parts = λ taken. each-nothing (regular f base context) s }) (assigned-nothing base know s)
  states-regular c (w ∷ ws) h of number all here s hb hs placed lies =
      let first = w.walk of number all here s in
      let t = after s first.parts in
      let rest = states_made ws of (number + 1) all here t in
      let A : (ℕ → Context) → Type 0 = λ context. BodyIs f context here c → StateHolds f base context s first in
      let B : (ℕ → Context) → Type 0 = λ context. BodyIs f context here c → StatesHold f base context t rest in
      assigned-map base know s (joined first.parts rest.parts) (λ context. A context × B context) (λ context. BodyIs f context here c → StatesHold f base context s (states_made (w ∷ ws) of number all here s))
      (λ context g body.
      let x = g.0 body in
      let y = g.1 body in
      record { states = (x.moves, y.states); parts = λ taken. each-joined (regular f base context) s first.parts rest.parts (x.parts taken.0) (y.parts taken.1) })
      (assigned-joined base know s first.parts rest.parts A B (h.0 of number all here s hb hs placed (each-left (lying f base) s first.parts rest.parts lies))
      (states-regular c ws h.1 of (number + 1) all here t hb hs placed (each-right (lying f base) s first.parts rest.parts lies)))

  -- an automaton
  pub automaton-regular : (c : kinds.Context) (states : List StateWalk) → AllByRecursion (StateIn f base know names i c) states → MakingIn f base know names i c (automaton base names i states)
  automaton-regular c states h here s hb hs placed lies =
      let t = past_automaton s in
      let all = state_names states in
      let made = states_made states s.automata 0 all here t in
      let own : Auto = record { block = here.block; states = made.states } in
      let both = behind-automaton (lying f base) s own made.parts lies in
      let a = states-regular c states h s.automata 0 all here t hb hs placed both.1 in
      let A : (ℕ → Context) → Type 0 = λ context. BodyIs f context here c → StatesHold f base context t made in
      assigned-map base know s (joined (one_automaton own) made.parts) A (λ context. BodyIs f context here c → IsRegularIn f base context s (joined (one_automaton own) made.parts))
      (λ context g body.
      let x = g body in
      automaton-first (regular f base context) s own made.parts x.states (x.parts (automaton-takes f s.automata own both.0)))
      (assigned-automaton_first base know s made.parts A own a)

  -- ---- bodies

  -- a body: its locals, and its equations
  pub body-regular : (c : kinds.Context) (locals : List Name) (eqs : List Making) → AllByRecursion (MakingIn f base know names i c) eqs → MakingIn f base know names i c (body_made base names i locals eqs)
  body-regular c locals eqs h here s hb hs placed lies =
      let first = names_made base names i locals here s in
      let t = after s first in
      let rest = in_turn eqs here t in
      let A : (ℕ → Context) → Type 0 = λ context. IsRegularIn f base context s first in
      let B : (ℕ → Context) → Type 0 = λ context. BodyIs f context here c → IsRegularIn f base context t rest in
      assigned-map base know s (joined first rest) (λ context. A context × B context) (λ context. BodyIs f context here c → IsRegularIn f base context s (joined first rest))
      (λ context g body. each-joined (regular f base context) s first rest g.0 (g.1 body))
      (assigned-joined base know s first rest A B (names-regular f base know names i locals here s) (in_turn-regular f base know names i c eqs h here t hb hs placed (each-right (lying f base) s first rest lies)))
