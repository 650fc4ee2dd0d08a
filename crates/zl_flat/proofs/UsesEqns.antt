-- What the walk of equations uses weighs no more than what is its own.
use Rattle.std.proofs.Common.{ℕ, ◌+◌, ◌≤◌, Bool, true, false, if◌then◌else◌, is_some, List, [], ◌∷◌, map, length, Option, Some, None, arith}
use Rattle.std.specs.List.{AllByRecursion}
use Rattle.zl_value.specs.declared.position.Pos.{Pos}
use Rattle.zl_value.specs.declared.value.Ty.{Ty}
use Rattle.zl_value.specs.declared.value.Ty.TheVariants.{Bool as BoolTy, Zero}
use Rattle.zl_ast.specs.declared.name.Name.{Name}
use Rattle.zl_meaning.specs.declared.block.BlockKind.TheVariants.{Arm as ArmOf, Guard, State as StateOf, Reset}
use Rattle.zl_meaning.specs.declared.block.Choice.{Choice}
use Rattle.zl_meaning.specs.declared.block.Auto.{Auto}
use Rattle.zl_meaning.specs.declared.place.Definer.TheVariants.{Der}
use Rattle.zl_meaning.specs.declared.occurrence.Form.TheVariants.{Up as UpOf, Fired}
use Rattle.zl_flat.specs.declared.here.Here.{Here}
use Rattle.zl_flat.specs.declared.here.Root.{Root}
use Rattle.zl_flat.specs.declared.given.Given.{Given}
use Rattle.zl_flat.specs.Parts.{Parts, Counters, nothing, joined, one_block, one_place, some_definers, one_occ, one_hidden, one_site, after, past_block, past_occ, past_hidden, past_site, past_choice, past_automaton}
use Rattle.zl_flat.specs.Variables.{variable_of, is_first}
use Rattle.zl_flat.specs.Instances.{Instance, in_body, in_block, inner_block, place_here, occ_here, site_here}
use Rattle.zl_flat.specs.Expressions.{Walk, Walked}
use Rattle.zl_flat.specs.Equations.{Making, in_turn, Testing, test_all, place_number, place_type, plain_definers, right_roots, StateWalk, states_made, state_names, ArmWalk, arms_made, body_of_choice, ResetWalk, start_definers, MoveWalk, name_made, names_made, crossing, event, tested, plain, resets_made, start_made, der, init, other_made, present, automaton, reset, condition_place, moves_made, state_made, arm_made, body_made}
use Rattle.zl_flat.proofs.UsesCount.{total, in_roots, in_form, in_arm, in_kind, in_moves, in_given}
use Rattle.zl_flat.proofs.UsesBalance.{Owes, relax, owes-joined, owes-nothing, owes-one_place, owes-some_definers, owes-block, owes-occ, owes-hidden, owes-site, owes-choice, owes-automaton}
use Rattle.zl_flat.proofs.UsesExprs.{IsWalk, WalkOwes}

module _ (v w : ℕ → ℕ) (base : ℕ) where
  -- of equations
  abbrev pub IsMaking : Making → Type 0
  IsMaking m = (here : Here) (s : Counters) → Owes v w base 0 0 s (m here s)

  -- of a condition
  abbrev pub IsTesting : Testing → Type 0
  IsTesting t = (here : Here) (s : Counters) → Owes v w base 0 (v (t here s).test) s (t here s).parts

  -- of an arm
  abbrev pub IsArmWalk : ArmWalk → Type 0
  IsArmWalk a = (of number : ℕ) (here : Here) (s : Counters) → Owes v w base 0 (v (a of number here s).test) s (a of number here s).parts

  -- of a state
  abbrev pub IsStateWalk : StateWalk → Type 0
  IsStateWalk x = (of number : ℕ) (states : List ℕ) (here : Here) (s : Counters) → Owes v w base 0 (in_moves v (x.walk of number states here s).moves) s (x.walk of number states here s).parts

  -- of a reset arm
  pub record IsResetWalk (r : ResetWalk) : Type 0 where
    pub event : IsTesting r.event
    pub value : IsWalk v w base r.value

  -- one behind the other, both without debts
  both : (s : Counters) (p q : Parts) → Owes v w base 0 0 s p → Owes v w base 0 0 (after s p) q → Owes v w base 0 0 s (joined p q)
  both s p q h g = relax v w base (0 + 0) (0 + 0) 0 0 s (joined p q) (omega arith) (owes-joined v w base 0 0 0 0 s p q h g)

  -- ---- one behind the other

  -- equations one behind the other
  pub in_turn-owes : (ms : List Making) → AllByRecursion IsMaking ms → IsMaking (in_turn ms)
  in_turn-owes [] hs here s = owes-nothing v w base 0 s
  in_turn-owes (m ∷ ms) hs here s = let first = m here s in both s first (in_turn ms here (after s first)) (hs.0 here s) (in_turn-owes ms hs.1 here (after s first))

  -- conditions one behind the other
  test_all-owes : (ts : List Testing) → AllByRecursion IsTesting ts → (here : Here) (s : Counters) → Owes v w base 0 (total v (test_all ts here s).tests) s (test_all ts here s).parts
  test_all-owes [] hs here s = owes-nothing v w base 0 s
  test_all-owes (t ∷ ts) hs here s =
      let first = t here s in
      let u = after s first.parts in
      let rest = test_all ts here u in
      owes-joined v w base 0 (v first.test) 0 (total v rest.tests) s first.parts rest.parts (hs.0 here s) (test_all-owes ts hs.1 here u)

  -- ---- names

  -- the place of a name, if it is made here
  place-owes : (b : Bool) (ty : Ty) (name : ℕ) (at : Pos) (here : Here) (s : Counters) → Owes v w base 0 0 s (if b then one_place (place_here here ty name at) else nothing)
  place-owes true ty name at here s = owes-one_place v w base 0 s (place_here here ty name at)
  place-owes false ty name at here s = owes-nothing v w base 0 s

  module _ (names : List (List ℕ)) (i : Instance) where
    -- a name that is declared or defined
    name-owes : (x : Name) → IsMaking (name_made base names i x)
    name-owes x here s = place-owes (is_first i.infos x) (place_type (variable_of i.variables x.id)) x.id x.at here s

    -- each of several names
    all-names : (xs : List Name) → AllByRecursion IsMaking (map (name_made base names i) xs)
    all-names [] = tt
    all-names (x ∷ xs) = (name-owes x, all-names xs)

    -- names that are declared or defined
    names-owe : (xs : List Name) → IsMaking (names_made base names i xs)
    names-owe xs = in_turn-owes (map (name_made base names i) xs) (all-names xs)

    -- ---- conditions

    -- an `up`
    pub crossing-owes : (at : Pos) (x : Walk) → IsWalk v w base x → IsTesting (crossing base names i at x)
    crossing-owes at x hx here s =
        let u = past_occ s in
        let t = past_site u in
        let arg = x here t in
        let own = occ_here here Zero at (UpOf s.sites) in
        let site = site_here here arg.root.occ at in
        let q = joined (one_site site) arg.parts in
        let b = owes-site v w base 0 0 u site arg.parts (relax v w base 0 (v arg.root.occ) 0 (v arg.root.occ + 0) t arg.parts (omega arith) (hx here t).root) in
        relax v w base 0 (v s.occs + 0) 0 (v s.occs) s (joined (one_occ own) q) (omega arith)
        (owes-occ v w base 0 0 s own q (λ pays. relax v w base 0 0 0 (in_form v own.form + 0) u q (omega arith) b))

    -- an event
    pub event-owes : (at : Pos) (ts : List Testing) → AllByRecursion IsTesting ts → IsTesting (event base names i at ts)
    event-owes at ts hs here s =
        let t = past_hidden s in
        let ups = test_all ts here t in
        let own = occ_here here BoolTy at (Fired ups.tests) in
        relax v w base 0 (v (base + s.hidden) + 0) 0 (v (base + s.hidden)) s (joined (one_hidden own) ups.parts) (omega arith)
        (owes-hidden v w base 0 0 s own ups.parts (relax v w base 0 (total v ups.tests) 0 (in_form v own.form + 0) t ups.parts (omega arith) (test_all-owes ts hs here t)))

    -- a condition that is an expression
    pub tested-owes : (x : Walk) → IsWalk v w base x → IsTesting (tested base names i x)
    tested-owes x hx here s = (hx here s).root

    -- ---- plain equations

    -- the definers of names use no more than the roots
    in-plain : (here : Here) (xs : List Name) (rs : List Root) → total (in_given v w) (plain_definers i here xs rs) ≤ in_roots w rs
    in-plain here [] rs = omega arith
    in-plain here (x ∷ xs) [] = omega arith
    in-plain here (x ∷ xs) (r ∷ rs) = let e = in-plain here xs rs in omega (arith, e)

    -- what a plain equation names is owed
    right-owes : ((n : ℕ) → w n ≤ v n) → (xs : List Name) (e : Walked) (s : Counters) → WalkOwes v w base s e → Owes v w base 0 (in_roots w (right_roots xs e)) s e.parts
    right-owes le [] e s h = h.results
    right-owes le (x ∷ []) e s h = let less = le e.root.occ in relax v w base 0 (v e.root.occ) 0 (w e.root.occ + 0) s e.parts (omega (arith, less)) h.root
    right-owes le (x ∷ y ∷ xs) e s h = h.results

    -- parts that pay for these definers
    pay : (gs : List Given) (owed : ℕ) (s : Counters) (p : Parts) → total (in_given v w) gs ≤ owed → Owes v w base 0 owed s p → Owes v w base 0 0 s (joined p (some_definers gs))
    pay gs owed s p le h =
        let needs = total (in_given v w) gs in
        relax v w base (0 + (needs + 0)) (owed + 0) 0 0 s (joined p (some_definers gs)) (omega (arith, le))
        (owes-joined v w base 0 owed (needs + 0) 0 s p (some_definers gs) h (owes-some_definers v w base 0 (after s p) gs))

    -- a plain equation
    pub plain-owes : ((n : ℕ) → w n ≤ v n) → (left : List Name) (right : Walk) → IsWalk v w base right → IsMaking (plain base names i left right)
    plain-owes le left right hr here s =
        let first = names_made base names i left (in_body i here) s in
        let t = after s first in
        let e = right here t in
        let roots = right_roots left e in
        let definers = plain_definers i here left roots in
        both s first (joined e.parts (some_definers definers)) (names-owe left (in_body i here) s)
        (pay definers (in_roots w roots) t e.parts (in-plain here left roots) (right-owes le left e t (hr here t)))

    -- an `init`
    pub init-owes : (x : Name) (value : Walk) → IsWalk v w base value → IsMaking (init base names i x value)
    init-owes x value hr here s =
        let first = name_made base names i x (in_body i here) s in
        let t = after s first in
        let e = value here t in
        let definers = start_definers (place_number (variable_of i.variables x.id)) here (Some e.root.occ) in
        both s first (joined e.parts (some_definers definers)) (name-owes x (in_body i here) s)
        (pay definers (v e.root.occ) t e.parts (omega arith) (hr here t).root)

    -- ---- `der`

    -- the reset arms of a `der`
    resets-owe : (rs : List ResetWalk) → AllByRecursion IsResetWalk rs → (here : Here) (s : Counters) → Owes v w base 0 (total (in_arm v) (resets_made base names i rs here s).arms) s (resets_made base names i rs here s).parts
    resets-owe [] hs here s = owes-nothing v w base 0 s
    resets-owe (r ∷ rs) hs here s =
        let test = r.event here s in
        let t = after s test.parts in
        let value = r.value here t in
        let u = after t value.parts in
        let rest = resets_made base names i rs here u in
        let owed = total (in_arm v) rest.arms in
        let b = owes-joined v w base 0 (v value.root.occ) 0 owed t value.parts rest.parts (hs.0.value here t).root (resets-owe rs hs.1 here u) in
        relax v w base (0 + (0 + 0)) (v test.test + (v value.root.occ + owed)) 0 (v test.test + v value.root.occ + owed) s (joined test.parts (joined value.parts rest.parts)) (omega arith)
        (owes-joined v w base 0 (v test.test) (0 + 0) (v value.root.occ + owed) s test.parts (joined value.parts rest.parts) (hs.0.event here s) b)

    -- of the `init` value behind a `der`
    abbrev pub IsStart : Option Walk → Type 0
    IsStart None = Unit {0}
    IsStart (Some x) = IsWalk v w base x

    -- what the `init` value weighs
    abbrev in_start : Option ℕ → ℕ
    in_start None = 0
    in_start (Some occ) = v occ

    -- the `init` value behind a `der`
    start-owes : (start : Option Walk) → IsStart start → (here : Here) (s : Counters) → Owes v w base 0 (in_start (start_made base names i start here s).value) s (start_made base names i start here s).parts
    start-owes None h here s = owes-nothing v w base 0 s
    start-owes (Some x) h here s = (h here s).root

    -- its definer uses no more
    in-start : (p : ℕ) (here : Here) (value : Option ℕ) → total (in_given v w) (start_definers p here value) ≤ in_start value
    in-start p here None = omega arith
    in-start p here (Some occ) = omega arith

    -- a `der`
    pub der-owes : (x : Name) (slope : Walk) (start : Option Walk) (resets : List ResetWalk) → IsWalk v w base slope → IsStart start → AllByRecursion IsResetWalk resets → IsMaking (der base names i x slope start resets)
    der-owes x slope start resets hslope hstart hresets here s =
        let first = name_made base names i x (in_body i here) s in
        let p = place_number (variable_of i.variables x.id) in
        let t = after s first in
        let e = slope here t in
        let u = after t e.parts in
        let begin = start_made base names i start here u in
        let z = after u begin.parts in
        let arms = resets_made base names i resets here z in
        let own : Given = record { place = p; definer = Der here.block e.root.occ arms.arms } in
        let definers = own ∷ start_definers p here begin.value in
        let in_arms = total (in_arm v) arms.arms in
        let began = in_start begin.value in
        let needs = total (in_given v w) definers in
        let le = in-start p here begin.value in
        let rest4 = joined arms.parts (some_definers definers) in
        let rest3 = joined begin.parts rest4 in
        let d = owes-joined v w base 0 in_arms (needs + 0) 0 z arms.parts (some_definers definers) (resets-owe resets hresets here z) (owes-some_definers v w base 0 (after z arms.parts) definers) in
        let c = owes-joined v w base 0 began (0 + (needs + 0)) (in_arms + 0) u begin.parts rest4 (start-owes start hstart here u) d in
        let b = owes-joined v w base 0 (v e.root.occ) (0 + (0 + (needs + 0))) (began + (in_arms + 0)) t e.parts rest3 (hslope here t).root c in
        both s first (joined e.parts rest3) (name-owes x (in_body i here) s)
        (relax v w base (0 + (0 + (0 + (needs + 0)))) (v e.root.occ + (began + (in_arms + 0))) 0 0 t (joined e.parts rest3) (omega (arith, le)) b)

    -- ---- `reset`, `present`

    -- a `reset`
    pub reset-owes : (eqs : List Making) (c : Testing) → AllByRecursion IsMaking eqs → IsTesting c → IsMaking (reset base names i eqs c)
    reset-owes eqs c heqs hc here s =
        let t = past_block s in
        let below = in_block s.blocks here.hybrid here in
        let inside = in_turn eqs below t in
        let test = c here (after t inside) in
        let own = inner_block here (Reset test.test) here.hybrid in
        let q = joined inside test.parts in
        owes-block v w base 0 0 s own q
        (relax v w base (0 + 0) (0 + v test.test) 0 (in_kind v own.kind + 0) t q (omega arith)
        (owes-joined v w base 0 0 0 (v test.test) t inside test.parts (in_turn-owes eqs heqs below t) (hc here (after t inside))))

    -- a body of a choice
    choice_body-owes : (body : Making) → IsMaking body → (of number : ℕ) → IsMaking (body_of_choice body of number)
    choice_body-owes body hb of number here s =
        let t = past_block s in
        let below = in_block s.blocks false here in
        let own = inner_block here (ArmOf of number) false in
        owes-block v w base 0 0 s own (body below t) (relax v w base 0 0 0 (in_kind v own.kind + 0) t (body below t) (omega arith) (hb below t))

    -- an arm of a `present`
    pub arm-owes : (c : Testing) (body : Making) → IsTesting c → IsMaking body → IsArmWalk (arm_made base names i c body)
    arm-owes c body hc hb of number here s =
        let test = c here s in
        let t = after s test.parts in
        let q = body_of_choice body of number here t in
        relax v w base (0 + 0) (v test.test + 0) 0 (v test.test) s (joined test.parts q) (omega arith)
        (owes-joined v w base 0 (v test.test) 0 0 s test.parts q (hc here s) (choice_body-owes body hb of number here t))

    -- arms one behind the other
    arms-owe : (ws : List ArmWalk) → AllByRecursion IsArmWalk ws → (of number : ℕ) (here : Here) (s : Counters) → Owes v w base 0 (total v (arms_made ws of number here s).tests) s (arms_made ws of number here s).parts
    arms-owe [] hs of number here s = owes-nothing v w base 0 s
    arms-owe (a ∷ ws) hs of number here s =
        let first = a of number here s in
        let t = after s first.parts in
        let rest = arms_made ws of (number + 1) here t in
        owes-joined v w base 0 (v first.test) 0 (total v rest.tests) s first.parts rest.parts (hs.0 of number here s) (arms-owe ws hs.1 of (number + 1) here t)

    -- of the `else` body
    abbrev pub IsOther : Option Making → Type 0
    IsOther None = Unit {0}
    IsOther (Some b) = IsMaking b

    -- the `else` body, if there is one
    other-owes : (other : Option Making) → IsOther other → (of number : ℕ) → IsMaking (other_made base names i other of number)
    other-owes None hb of number here s = owes-nothing v w base 0 s
    other-owes (Some b) hb of number here s = choice_body-owes b hb of number here s

    -- a `present`
    pub present-owes : (arms : List ArmWalk) (other : Option Making) → AllByRecursion IsArmWalk arms → IsOther other → IsMaking (present base names i arms other)
    present-owes arms other ha ho here s =
        let t = past_choice s in
        let bodies = arms_made arms s.choices 0 here t in
        let u = after t bodies.parts in
        let last_body = other_made base names i other s.choices (length arms) here u in
        let own : Choice = record { block = here.block; conds = bodies.tests; other = is_some other } in
        let tests = total v bodies.tests in
        owes-choice v w base 0 0 s own (joined bodies.parts last_body)
        (relax v w base (0 + 0) (tests + 0) 0 (tests + 0) t (joined bodies.parts last_body) (omega arith)
        (owes-joined v w base 0 tests 0 0 t bodies.parts last_body (arms-owe arms ha s.choices 0 here t) (other-owes other ho s.choices (length arms) here u)))

    -- ---- `automaton`

    -- of the condition of a move
    pub record IsMoveWalk (m : MoveWalk) : Type 0 where
      pub test : IsTesting m.test

    -- the moves of a state
    moves-owe : (ms : List MoveWalk) → AllByRecursion IsMoveWalk ms → (guard body : ℕ) (states : List ℕ) (here : Here) (s : Counters) → Owes v w base 0 (in_moves v (moves_made base names i ms guard body states here s).moves) s (moves_made base names i ms guard body states here s).parts
    moves-owe [] hs guard body states here s = owes-nothing v w base 0 s
    moves-owe (m ∷ ms) hs guard body states here s =
        let there = condition_place m.strong guard body here in
        let test = m.test there s in
        let t = after s test.parts in
        let rest = moves_made base names i ms guard body states here t in
        owes-joined v w base 0 (v test.test) 0 (in_moves v rest.moves) s test.parts rest.parts (hs.0.test there s) (moves-owe ms hs.1 guard body states here t)

    -- a state of an automaton
    pub state-owes : (name : Name) (body : Making) (moves : List MoveWalk) → IsMaking body → AllByRecursion IsMoveWalk moves → IsStateWalk (record { name = name; walk = state_made base names i body moves })
    state-owes name body moves hb hm of number states here s =
        let t = past_block s in
        let u = past_block t in
        let below = in_block (s.blocks + 1) here.hybrid here in
        let inside = body below u in
        let rest = moves_made base names i moves s.blocks (s.blocks + 1) states here (after u inside) in
        let owed = in_moves v rest.moves in
        let guard_block = inner_block here (Guard of number) here.hybrid in
        let body_block = inner_block here (StateOf of number) here.hybrid in
        let q = joined inside rest.parts in
        let b = owes-block v w base 0 owed t body_block q
        (relax v w base (0 + 0) (0 + owed) 0 (in_kind v body_block.kind + owed) u q (omega arith)
        (owes-joined v w base 0 0 0 owed u inside rest.parts (hb below u) (moves-owe moves hm s.blocks (s.blocks + 1) states here (after u inside)))) in
        owes-block v w base 0 owed s guard_block (joined (one_block body_block) q) (relax v w base 0 owed 0 (in_kind v guard_block.kind + owed) t (joined (one_block body_block) q) (omega arith) b)

    -- states one behind the other
    states-owe : (ws : List StateWalk) → AllByRecursion IsStateWalk ws → (of number : ℕ) (all : List ℕ) (here : Here) (s : Counters) → Owes v w base 0 (total (in_moves v) (states_made ws of number all here s).states) s (states_made ws of number all here s).parts
    states-owe [] hs of number all here s = owes-nothing v w base 0 s
    states-owe (x ∷ ws) hs of number all here s =
        let first = x.walk of number all here s in
        let t = after s first.parts in
        let rest = states_made ws of (number + 1) all here t in
        owes-joined v w base 0 (in_moves v first.moves) 0 (total (in_moves v) rest.states) s first.parts rest.parts (hs.0 of number all here s) (states-owe ws hs.1 of (number + 1) all here t)

    -- an automaton
    pub automaton-owes : (states : List StateWalk) → AllByRecursion IsStateWalk states → IsMaking (automaton base names i states)
    automaton-owes states hs here s =
        let t = past_automaton s in
        let all = state_names states in
        let made = states_made states s.automata 0 all here t in
        let own : Auto = record { block = here.block; states = made.states } in
        let owed = total (in_moves v) made.states in
        owes-automaton v w base 0 0 s own made.parts (relax v w base 0 owed 0 (owed + 0) t made.parts (omega arith) (states-owe states hs s.automata 0 all here t))

    -- ---- bodies

    -- locals, and then equations
    pub body-owes : (locals : List Name) (eqs : List Making) → AllByRecursion IsMaking eqs → IsMaking (body_made base names i locals eqs)
    body-owes locals eqs hs here s =
        let first = names_made base names i locals here s in
        both s first (in_turn eqs here (after s first)) (names-owe locals here s) (in_turn-owes eqs hs here (after s first))
