-- The walk of equations makes no body of a choice or automaton twice.
use Rattle.std.proofs.Common.{◌≡◌, ℕ, suc, ◌+◌, ◌<◌, Bool, true, false, if◌then◌else◌, is_some, List, [], ◌∷◌, map, length, Option, Some, None, refl, subst, arith}
use Rattle.std.specs.List.{AllByRecursion}
use Rattle.zl_value.specs.declared.position.Pos.{Pos}
use Rattle.zl_value.specs.declared.value.Ty.{Ty}
use Rattle.zl_value.specs.declared.value.Ty.TheVariants.{Bool as BoolTy, Zero}
use Rattle.zl_ast.specs.declared.name.Name.{Name}
use Rattle.zl_meaning.specs.declared.block.BlockKind.TheVariants.{Arm as ArmOf, Guard, State as StateOf, Reset}
use Rattle.zl_meaning.specs.declared.block.Choice.{Choice}
use Rattle.zl_meaning.specs.declared.block.Auto.{Auto}
use Rattle.zl_meaning.specs.declared.place.Definer.TheVariants.{Der}
use Rattle.zl_meaning.specs.declared.occurrence.Form.TheVariants.{Up as UpOf, Fired}
use Rattle.zl_flat.specs.declared.here.Here.{Here}
use Rattle.zl_flat.specs.declared.given.Given.{Given}
use Rattle.zl_flat.specs.Parts.{Parts, Counters, nothing, joined, one_block, one_place, some_definers, one_site, after, past_block, past_occ, past_hidden, past_site, past_choice, past_automaton}
use Rattle.zl_flat.specs.Variables.{variable_of, is_first}
use Rattle.zl_flat.specs.Instances.{Instance, in_body, in_block, inner_block, place_here, occ_here, site_here}
use Rattle.zl_flat.specs.Expressions.{Walk}
use Rattle.zl_flat.specs.Equations.{Making, in_turn, Testing, test_all, place_number, place_type, plain_definers, right_roots, StateWalk, states_made, state_names, ArmWalk, arms_made, body_of_choice, ResetWalk, start_definers, MoveWalk, name_made, names_made, crossing, event, tested, plain, resets_made, start_made, der, init, other_made, present, automaton, reset, condition_place, moves_made, state_made, arm_made, body_made}
use Rattle.zl_flat.proofs.WellFormedOnce.{Once, once-joined, once-nothing, once-flat, occ-once, hidden-once, site-once}
use Rattle.zl_flat.proofs.WellFormedOwn.{OfChoice, OfAutomaton, OnceOr, or-joined, or-none, or-more, block-or, choice-once, automaton-once, reset-once}
use Rattle.zl_flat.proofs.WellFormedOnceExprs.{WalkOnce}

abbrev pub MakingOnce : Making → Type 0
MakingOnce m = (here : Here) (s : Counters) → Once s (m here s)

abbrev pub TestingOnce : Testing → Type 0
TestingOnce t = (here : Here) (s : Counters) → Once s (t here s).parts

abbrev pub ArmWalkOnce : ArmWalk → Type 0
ArmWalkOnce w = (of number : ℕ) (here : Here) (s : Counters) → of < s.choices → OnceOr OfChoice of number (number + 1) s (w of number here s).parts

abbrev pub StateWalkOnce : StateWalk → Type 0
StateWalkOnce w = (of number : ℕ) (states : List ℕ) (here : Here) (s : Counters) → of < s.automata → OnceOr OfAutomaton of (number + number) (number + number + 2) s (w.walk of number states here s).parts

pub record ResetWalkOnce (w : ResetWalk) : Type 0 where
  pub event : TestingOnce w.event
  pub value : WalkOnce w.value

pub record MoveWalkOnce (m : MoveWalk) : Type 0 where
  pub test : TestingOnce m.test

pub in_turn-once : (ms : List Making) → AllByRecursion MakingOnce ms → MakingOnce (in_turn ms)
in_turn-once [] hs here s = once-nothing s
in_turn-once (m ∷ ms) hs here s = let first = m here s in once-joined s first (in_turn ms here (after s first)) (hs.0 here s) (in_turn-once ms hs.1 here (after s first))

pub test_all-once : (ts : List Testing) → AllByRecursion TestingOnce ts → (here : Here) (s : Counters) → Once s (test_all ts here s).parts
test_all-once [] hs here s = once-nothing s
test_all-once (t ∷ ts) hs here s = let first = (t here s).parts in once-joined s first (test_all ts here (after s first)).parts (hs.0 here s) (test_all-once ts hs.1 here (after s first))

pub once-some_definers : (s : Counters) (xs : List Given) → Once s (some_definers xs)
unfolding some_definers
once-some_definers s xs = once-flat s (some_definers xs) refl

once-place : (b : Bool) (ty : Ty) (name : ℕ) (at : Pos) (here : Here) (s : Counters) → Once s (if b then one_place (place_here here ty name at) else nothing)
unfolding one_place
once-place true ty name at here s = once-flat s (one_place (place_here here ty name at)) refl
once-place false ty name at here s = once-nothing s

same-automata : (of : ℕ) (s : Counters) → of < s.automata → of < (past_block s).automata
unfolding past_block
same-automata of s h = h

later-choices : (of : ℕ) (s : Counters) (p : Parts) → of < s.choices → of < (after s p).choices
unfolding after
later-choices of s p h = omega (arith, h)

later-automata : (of : ℕ) (s : Counters) (p : Parts) → of < s.automata → of < (after s p).automata
unfolding after
later-automata of s p h = omega (arith, h)

own-choice : (s : Counters) → s.choices < (past_choice s).choices
unfolding past_choice
own-choice s = omega arith

own-automaton : (s : Counters) → s.automata < (past_automaton s).automata
unfolding past_automaton
own-automaton s = omega arith

module _ (base : ℕ) (names : List (List ℕ)) (i : Instance) where
  pub name-once : (x : Name) → MakingOnce (name_made base names i x)
  name-once x here s = once-place (is_first i.infos x) (place_type (variable_of i.variables x.id)) x.id x.at here s

  each-name : (xs : List Name) → AllByRecursion MakingOnce (map (name_made base names i) xs)
  each-name [] = tt
  each-name (x ∷ xs) = (name-once x, each-name xs)

  pub names-once : (xs : List Name) → MakingOnce (names_made base names i xs)
  names-once xs = in_turn-once (map (name_made base names i) xs) (each-name xs)

  pub crossing-once : (at : Pos) (x : Walk) → WalkOnce x → TestingOnce (crossing base names i at x)
  crossing-once at x hx here s =
      let t = past_site (past_occ s) in
      let arg = x here t in
      occ-once s (occ_here here Zero at (UpOf s.sites)) (joined (one_site (site_here here arg.root.occ at)) arg.parts) (site-once (past_occ s) (site_here here arg.root.occ at) arg.parts (hx here t))

  pub event-once : (at : Pos) (ts : List Testing) → AllByRecursion TestingOnce ts → TestingOnce (event base names i at ts)
  event-once at ts hs here s =
      let ups = test_all ts here (past_hidden s) in
      hidden-once s (occ_here here BoolTy at (Fired ups.tests)) ups.parts (test_all-once ts hs here (past_hidden s))

  pub plain-once : (left : List Name) (right : Walk) → WalkOnce right → MakingOnce (plain base names i left right)
  plain-once left right hr here s =
      let first = names_made base names i left (in_body i here) s in
      let t = after s first in
      let e = right here t in
      let definers = some_definers (plain_definers i here left (right_roots left e)) in
      once-joined s first (joined e.parts definers) (names-once left (in_body i here) s) (once-joined t e.parts definers (hr here t) (once-some_definers (after t e.parts) (plain_definers i here left (right_roots left e))))

  pub init-once : (x : Name) (value : Walk) → WalkOnce value → MakingOnce (init base names i x value)
  init-once x value hr here s =
      let first = name_made base names i x (in_body i here) s in
      let t = after s first in
      let e = value here t in
      let definers = start_definers (place_number (variable_of i.variables x.id)) here (Some e.root.occ) in
      once-joined s first (joined e.parts (some_definers definers)) (name-once x (in_body i here) s) (once-joined t e.parts (some_definers definers) (hr here t) (once-some_definers (after t e.parts) definers))

  resets-once : (rs : List ResetWalk) → AllByRecursion ResetWalkOnce rs → (here : Here) (s : Counters) → Once s (resets_made base names i rs here s).parts
  resets-once [] hs here s = once-nothing s
  resets-once (r ∷ rs) hs here s =
      let test = r.event here s in
      let t = after s test.parts in
      let value = r.value here t in
      let u = after t value.parts in
      let rest = resets_made base names i rs here u in
      once-joined s test.parts (joined value.parts rest.parts) (hs.0.event here s) (once-joined t value.parts rest.parts (hs.0.value here t) (resets-once rs hs.1 here u))

  abbrev pub StartOnce : Option Walk → Type 0
  StartOnce None = Unit {0}
  StartOnce (Some x) = WalkOnce x

  start-once : (start : Option Walk) → StartOnce start → (here : Here) (s : Counters) → Once s (start_made base names i start here s).parts
  start-once None h here s = once-nothing s
  start-once (Some x) h here s = h here s

  pub der-once : (x : Name) (slope : Walk) (start : Option Walk) (resets : List ResetWalk) → WalkOnce slope → StartOnce start → AllByRecursion ResetWalkOnce resets → MakingOnce (der base names i x slope start resets)
  der-once x slope start resets hslope hstart hresets here s =
      let first = name_made base names i x (in_body i here) s in
      let p = place_number (variable_of i.variables x.id) in
      let t = after s first in
      let e = slope here t in
      let u = after t e.parts in
      let begin = start_made base names i start here u in
      let v = after u begin.parts in
      let arms = resets_made base names i resets here v in
      let definers = record { place = p; definer = Der here.block e.root.occ arms.arms } ∷ start_definers p here begin.value in
      let rest4 = joined arms.parts (some_definers definers) in
      let rest3 = joined begin.parts rest4 in
      once-joined s first (joined e.parts rest3) (name-once x (in_body i here) s)
      (once-joined t e.parts rest3 (hslope here t)
      (once-joined u begin.parts rest4 (start-once start hstart here u)
      (once-joined v arms.parts (some_definers definers) (resets-once resets hresets here v) (once-some_definers (after v arms.parts) definers))))

  pub resetting-once : (eqs : List Making) (c : Testing) → AllByRecursion MakingOnce eqs → TestingOnce c → MakingOnce (reset base names i eqs c)
  resetting-once eqs c heqs hc here s =
      let t = past_block s in
      let inside = in_turn eqs (in_block s.blocks here.hybrid here) t in
      let test = c here (after t inside) in
      reset-once s (inner_block here (Reset test.test) here.hybrid) (joined inside test.parts) (λ u. tt)
      (once-joined t inside test.parts (in_turn-once eqs heqs (in_block s.blocks here.hybrid here) t) (hc here (after t inside)))

  body_of_choice-once : (body : Making) → MakingOnce body → (of number : ℕ) (here : Here) (s : Counters) → of < s.choices → OnceOr OfChoice of number (number + 1) s (body_of_choice body of number here s)
  body_of_choice-once body hb of number here s h =
      let t = past_block s in
      let below = in_block s.blocks false here in
      block-or OfChoice of number (number + 1) (number + 1) s (inner_block here (ArmOf of number) false) (body below t) (omega arith) (omega arith) h (refl, omega arith, omega arith)
      (or-none OfChoice of (number + 1) t (body below t) (hb below t))

  pub arm-once : (c : Testing) (body : Making) → TestingOnce c → MakingOnce body → ArmWalkOnce (arm_made base names i c body)
  arm-once c body hc hb of number here s h =
      let test = c here s in
      let t = after s test.parts in
      or-joined OfChoice of number number (number + 1) s test.parts (body_of_choice body of number here t) (omega arith) (omega arith) h
      (or-none OfChoice of number s test.parts (hc here s)) (body_of_choice-once body hb of number here t (later-choices of s test.parts h))

  arms-once : (ws : List ArmWalk) → AllByRecursion ArmWalkOnce ws → (of number : ℕ) (here : Here) (s : Counters) → of < s.choices → OnceOr OfChoice of number (number + length ws) s (arms_made ws of number here s).parts
  arms-once [] hs of number here s h = subst (λ n. OnceOr OfChoice of number n s nothing) (no_more number) (or-none OfChoice of number s nothing (once-nothing s))
    where
      no_more : (n : ℕ) → n ≡ n + 0
      no_more n = omega arith
  arms-once (w ∷ ws) hs of number here s h =
      let first = (w of number here s).parts in
      let t = after s first in
      or-joined OfChoice of number (number + 1) (number + suc (length ws)) s first (arms_made ws of (number + 1) here t).parts (omega arith) (omega arith) h (hs.0 of number here s h)
      (subst (λ n. OnceOr OfChoice of (number + 1) n t (arms_made ws of (number + 1) here t).parts) (one_more number (length ws)) (arms-once ws hs.1 of (number + 1) here t (later-choices of s first h)))
    where
      one_more : (n m : ℕ) → n + 1 + m ≡ n + suc m
      one_more n m = omega arith

  abbrev pub OtherOnce : Option Making → Type 0
  OtherOnce None = Unit {0}
  OtherOnce (Some b) = MakingOnce b

  other-once : (other : Option Making) → OtherOnce other → (of number : ℕ) (here : Here) (s : Counters) → of < s.choices → OnceOr OfChoice of number (number + 1) s (other_made base names i other of number here s)
  other-once None hb of number here s h = or-more OfChoice of number number (number + 1) s nothing (omega arith) (or-none OfChoice of number s nothing (once-nothing s))
  other-once (Some b) hb of number here s h = body_of_choice-once b hb of number here s h

  pub present-once : (arms : List ArmWalk) (other : Option Making) → AllByRecursion ArmWalkOnce arms → OtherOnce other → MakingOnce (present base names i arms other)
  present-once arms other ha ho here s =
      let t = past_choice s in
      let bodies = arms_made arms s.choices 0 here t in
      let u = after t bodies.parts in
      let last_body = other_made base names i other s.choices (length arms) here u in
      let own : Choice = record { block = here.block; conds = bodies.tests; other = is_some other } in
      choice-once s own 0 (length arms + 1) (joined bodies.parts last_body)
      (or-joined OfChoice s.choices 0 (length arms) (length arms + 1) t bodies.parts last_body (omega arith) (omega arith) (own-choice s)
      (subst (λ n. OnceOr OfChoice s.choices 0 n t bodies.parts) (no_zero (length arms)) (arms-once arms ha s.choices 0 here t (own-choice s)))
      (other-once other ho s.choices (length arms) here u (later-choices s.choices t bodies.parts (own-choice s))))
    where
      no_zero : (n : ℕ) → 0 + n ≡ n
      no_zero n = omega arith

  moves-once : (ms : List MoveWalk) → AllByRecursion MoveWalkOnce ms → (guard body : ℕ) (states : List ℕ) (here : Here) (s : Counters) → Once s (moves_made base names i ms guard body states here s).parts
  moves-once [] hs guard body states here s = once-nothing s
  moves-once (m ∷ ms) hs guard body states here s =
      let test = m.test (condition_place m.strong guard body here) s in
      let t = after s test.parts in
      once-joined s test.parts (moves_made base names i ms guard body states here t).parts (hs.0.test (condition_place m.strong guard body here) s) (moves-once ms hs.1 guard body states here t)

  pub state-once : (name : Name) (body : Making) (moves : List MoveWalk) → MakingOnce body → AllByRecursion MoveWalkOnce moves → StateWalkOnce (record { name = name; walk = state_made base names i body moves })
  state-once name body moves hb hm of number states here s h =
      let t = past_block s in
      let u = past_block t in
      let low = number + number in
      let below_body = in_block (s.blocks + 1) here.hybrid here in
      let inside = body below_body u in
      let v = after u inside in
      let rest = moves_made base names i moves s.blocks (s.blocks + 1) states here v in
      block-or OfAutomaton of low (low + 1) (low + 2) s (inner_block here (Guard of number) here.hybrid) (joined (one_block (inner_block here (StateOf of number) here.hybrid)) (joined inside rest.parts)) (omega arith) (omega arith) h (refl, omega arith, omega arith)
      (block-or OfAutomaton of (low + 1) (low + 2) (low + 2) t (inner_block here (StateOf of number) here.hybrid) (joined inside rest.parts) (omega arith) (omega arith) (same-automata of s h) (refl, omega arith, omega arith)
      (or-none OfAutomaton of (low + 2) u (joined inside rest.parts) (once-joined u inside rest.parts (hb below_body u) (moves-once moves hm s.blocks (s.blocks + 1) states here v))))

  states-once : (ws : List StateWalk) → AllByRecursion StateWalkOnce ws → (of number : ℕ) (all : List ℕ) (here : Here) (s : Counters) → of < s.automata →
      OnceOr OfAutomaton of (number + number) (number + length ws + (number + length ws)) s (states_made ws of number all here s).parts
  states-once [] hs of number all here s h = subst (λ n. OnceOr OfAutomaton of (number + number) n s nothing) (no_more number) (or-none OfAutomaton of (number + number) s nothing (once-nothing s))
    where
      no_more : (n : ℕ) → n + n ≡ n + 0 + (n + 0)
      no_more n = omega arith
  states-once (w ∷ ws) hs of number all here s h =
      let first = (w.walk of number all here s).parts in
      let t = after s first in
      let rest = (states_made ws of (number + 1) all here t).parts in
      let hi = number + suc (length ws) + (number + suc (length ws)) in
      or-joined OfAutomaton of (number + number) (number + number + 2) hi s first rest (omega arith) (omega arith) h (hs.0 of number all here s h)
      (subst (λ n. OnceOr OfAutomaton of n hi t rest) (two_more number)
      (subst (λ n. OnceOr OfAutomaton of (number + 1 + (number + 1)) n t rest) (one_more number (length ws)) (states-once ws hs.1 of (number + 1) all here t (later-automata of s first h))))
    where
      two_more : (n : ℕ) → n + 1 + (n + 1) ≡ n + n + 2
      two_more n = omega arith

      one_more : (n m : ℕ) → n + 1 + m + (n + 1 + m) ≡ n + suc m + (n + suc m)
      one_more n m = omega arith

  pub automaton_made-once : (states : List StateWalk) → AllByRecursion StateWalkOnce states → MakingOnce (automaton base names i states)
  automaton_made-once states hs here s =
      let t = past_automaton s in
      let made = states_made states s.automata 0 (state_names states) here t in
      let own : Auto = record { block = here.block; states = made.states } in
      automaton-once s own (0 + 0) (0 + length states + (0 + length states)) made.parts (states-once states hs s.automata 0 (state_names states) here t (own-automaton s))

  pub body-once : (locals : List Name) (eqs : List Making) → AllByRecursion MakingOnce eqs → MakingOnce (body_made base names i locals eqs)
  body-once locals eqs hs here s =
      let first = names_made base names i locals here s in
      once-joined s first (in_turn eqs here (after s first)) (names-once locals here s) (in_turn-once eqs hs here (after s first))

  pub tested-once : (x : Walk) → WalkOnce x → TestingOnce (tested base names i x)
  tested-once x hx here s = hx here s
