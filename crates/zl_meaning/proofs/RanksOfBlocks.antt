-- Ranks by levels, and what the equations of blocks and automata read is below them.
use Rattle.std.specs.Prelude.{◌≡◌, ℕ, suc, ◌+◌, ◌<◌, ◌≤◌, max, true, if◌then◌else◌, List, [], length, slice_get, get_or, Option, Some, None, ⊤}
use Rattle.std.specs.Option.{option_map, option_and_then}
use Rattle.std.proofs.Common.{refl, ap, ◌∙◌, subst, arith}
use Rattle.std.proofs.lemmas.Option.{slice_get_within}
use Rattle.zl_value.specs.Lists.{Has}
use Rattle.zl_meaning.specs.FlatForm.{FlatForm, kind_of, parent_of}
use Rattle.zl_meaning.specs.State.{Node, AtControl, AtReset, AtLater, AtEntry, AtRunning, AtStrong, AtWeak, AtPlace, AtUsed, AtValue}
use Rattle.zl_meaning.specs.Automata.{strong_moves, weak_moves}
use Rattle.zl_meaning.specs.WellFormed.{IsWellFormed, IsParent, IsBlock, IsMove, Stands}
use Rattle.zl_meaning.specs.Reading.{Entries, ReadsChoice, ReadsOwnControl, ReadsParent, ReadsControl, ReadsOwnReset, ReadsResetUnder, ReadsReset, ReadsOwnLater, ReadsLaterUnder, ReadsLater, ReadsMoves, ReadsEntry, ReadsRunning, ReadsStrong, ReadsWeak}
use Rattle.zl_meaning.specs.Levels.{HasLevels}
use Rattle.zl_meaning.specs.declared.block.Block.{Block}
use Rattle.zl_meaning.specs.declared.block.BlockKind.{BlockKind}
use Rattle.zl_meaning.specs.declared.block.BlockKind.TheVariants.{Main, Arm, Guard, State as Body, Reset}
use Rattle.zl_meaning.specs.declared.block.Choice.{Choice}
use Rattle.zl_meaning.specs.declared.block.Auto.{Auto}
use Rattle.zl_meaning.specs.declared.block.AutoMove.{AutoMove}
use Rattle.zl_meaning.proofs.Greatest.{most_of, most_below, max-less, max-left, max-right, most-less, in-most, below-most}
use Rattle.zl_meaning.proofs.Members.{all-has}
use Rattle.zl_meaning.proofs.LevelLists.{each, each-test, of-state, spot, jump, stay, if-less}

module _ (f : FlatForm) (well : IsWellFormed f) (v : HasLevels f) where
  -- the greatest level of the tests of an automaton's `unless` moves
  abbrev pub strong_level : AutoMove → ℕ
  strong_level move = if move.strong then v.value move.cond else 0

  abbrev pub tests_level : List (List AutoMove) → ℕ
  tests_level states = most_of (λ moves. most_of strong_level moves) states

  abbrev pub entry_level : Option Auto → ℕ
  entry_level None = 0
  entry_level (Some auto) = v.block auto.block

  abbrev pub moves_level : Option Auto → ℕ
  moves_level None = 0
  moves_level (Some auto) = max (v.block auto.block) (tests_level auto.states)

  -- no block and no value has a greater level
  abbrev pub top : ℕ
  top = max (most_below v.block (length f.blocks)) (most_below v.value (length f.occs))

  -- an automaton's entry state comes after its block, the state that runs and the strong transition after the tests, the weak
  -- transition after all values, and a reset at the end of the step after those of the blocks around it
  abbrev pub rank : Node → ℕ
  rank (AtPlace p) = spot (v.place p) 0
  rank (AtControl b) = spot (v.block b) 0
  rank (AtReset b) = spot (v.block b) 1
  rank (AtEntry a) = spot (entry_level (slice_get f.automata a)) 2
  rank (AtRunning a) = spot (moves_level (slice_get f.automata a)) 3
  rank (AtStrong a) = spot (moves_level (slice_get f.automata a)) 3
  rank (AtValue k) = spot (v.value k) 0
  rank (AtUsed k) = spot (v.used k) 0
  rank (AtWeak a) = spot (suc top) 0
  rank (AtLater b) = spot (suc top + b) 0

  abbrev pub Below : Node → Node → Type 0
  Below a b = rank b < rank a

  abbrev pub Any : Entries
  Any = λ b. ⊤

  -- ---- blocks

  parent-is : (b parent : ℕ) (x : Block) → slice_get f.blocks b ≡ Some x → x.parent ≡ Some parent → parent_of f b ≡ Some parent
  parent-is b parent x is up = ap (option_and_then (λ (y : Block). y.parent)) is ∙ up

  kind-is : (b : ℕ) (x : Block) (kind : BlockKind) → slice_get f.blocks b ≡ Some x → x.kind ≡ kind → kind_of f b ≡ Some kind
  kind-is b x kind is e = ap (option_map (λ (y : Block). y.kind)) is ∙ ap (λ z. Some z) e

  above : (b parent : ℕ) (x : Block) → slice_get f.blocks b ≡ Some x → x.parent ≡ Some parent → v.block parent < v.block b
  above b parent x is up = v.parents b parent (parent-is b parent x is up)

  block-top : (b : ℕ) → b < length f.blocks → v.block b ≤ top
  block-top b low = let most = below-most v.block (length f.blocks) b low in let more = max-left (most_below v.block (length f.blocks)) (most_below v.value (length f.occs)) in omega (arith, most, more)

  value-top : (k b : ℕ) (ty : _) → Stands f b ty k → v.value k ≤ top
  value-top k b ty s =
      let most = below-most v.value (length f.occs) k (slice_get_within f.occs k s.occ s.is) in
      let more = max-right (most_below v.block (length f.blocks)) (most_below v.value (length f.occs)) in
      omega (arith, most, more)

  -- what a well-formed form says of a block that has a parent
  block-kind : (b parent : ℕ) (x : Block) → slice_get f.blocks b ≡ Some x → x.parent ≡ Some parent → (parent < b) × IsParent f parent x.kind
  block-kind b parent x is up = let T : Option ℕ → Type 0 = λ q. IsBlock f b q x.kind in subst T up (well.blocks b x is)

  module _ (b parent : ℕ) (x : Block) (is : slice_get f.blocks b ≡ Some x) (up : x.parent ≡ Some parent) where
    some-level : 0 < v.block b
    some-level = let low = above b parent x is up in omega (arith, low)

    parent-of : (kind : BlockKind) → x.kind ≡ kind → IsParent f parent kind
    parent-of kind e = subst (IsParent f parent) e (block-kind b parent x is up).1

    guard-after : (of state : ℕ) → x.kind ≡ Guard of state → entry_level (slice_get f.automata of) < v.block b
    guard-after of state e =
        let there = parent-of (Guard of state) e in
        let same : entry_level (slice_get f.automata of) ≡ v.block parent = ap entry_level there.1 ∙ ap v.block there.2 in
        let low = above b parent x is up in
        omega (arith, same, low)

    body-after : (of state : ℕ) → x.kind ≡ Body of state → moves_level (slice_get f.automata of) < v.block b
    body-after of state e =
        let there = parent-of (Body of state) e in
        let auto : Auto = there.0 in
        let same : moves_level (slice_get f.automata of) ≡ max (v.block auto.block) (tests_level auto.states) = ap moves_level there.1 in
        let at : v.block auto.block ≡ v.block parent = ap v.block there.2 in
        let low = above b parent x is up in
        let own : v.block auto.block < v.block b = omega (arith, at, low) in
        let tests : tests_level auto.states < v.block b =
        most-less (λ moves. most_of strong_level moves) auto.states (v.block b) some-level
        (λ moves h. most-less strong_level moves (v.block b) some-level
        (λ move m. if-less move.strong (v.value move.cond) (v.block b) some-level
        (λ strong. v.bodies b of state move.cond (kind-is b x (Body of state) is e) (record { auto = auto; is = there.1; state = h.index; moves = moves; in_state = h.is; move = move; among = m; strong = strong; test = refl })))) in
        let both : max (v.block auto.block) (tests_level auto.states) < v.block b = max-less own tests in
        omega (arith, same, both)

    own-control : (kind : BlockKind) → x.kind ≡ kind → ReadsOwnControl f (Below (AtControl b)) Any b kind
    own-control Main e = tt
    own-control (Arm of arm) e = by_choice (slice_get f.choices of) refl
      where
        by_choice : (c : Option Choice) → slice_get f.choices of ≡ c → ReadsChoice (Below (AtControl b)) c
        by_choice None there = tt
        by_choice (Some choice) there = each (λ k. Below (AtControl b) (AtValue k)) choice.conds (λ k h. jump (v.value k) (v.block b) 0 0 (v.arms b of arm k (kind-is b x (Arm of arm) is e) (record { choice = choice; is = there; test = h })) (omega arith))
    own-control (Guard of state) e = jump (entry_level (slice_get f.automata of)) (v.block b) 2 0 (guard-after of state e) (omega arith)
    own-control (Body of state) e = jump (moves_level (slice_get f.automata of)) (v.block b) 3 0 (body-after of state e) (omega arith)
    own-control (Reset k) e = (jump (v.value k) (v.block b) 0 0 (v.resets b k (kind-is b x (Reset k) is e)) (omega arith), tt)

    parent-active : Below (AtReset b) (AtControl parent)
    parent-active = jump (v.block parent) (v.block b) 0 1 (above b parent x is up) (omega arith)

    parent-reset : Below (AtReset b) (AtReset parent)
    parent-reset = jump (v.block parent) (v.block b) 1 1 (above b parent x is up) (omega arith)

    own-reset : (kind : BlockKind) → x.kind ≡ kind → ReadsOwnReset (Below (AtReset b)) Any parent kind
    own-reset Main e = tt
    own-reset (Arm of arm) e = tt
    own-reset (Guard of state) e = ((parent-active, parent-reset, tt), tt)
    own-reset (Body of state) e = ((parent-active, parent-reset, tt), tt, jump (moves_level (slice_get f.automata of)) (v.block b) 3 1 (body-after of state e) (omega arith))
    own-reset (Reset k) e = jump (v.value k) (v.block b) 0 1 (v.resets b k (kind-is b x (Reset k) is e)) (omega arith)

  -- ---- automata

  module _ (a : ℕ) (auto : Auto) (is : slice_get f.automata a ≡ Some auto) where
    entry-is : entry_level (slice_get f.automata a) ≡ v.block auto.block
    entry-is = ap entry_level is

    block-entry : v.block auto.block ≤ entry_level (slice_get f.automata a)
    block-entry = let e = entry-is in omega (arith, e)

    moves-are : moves_level (slice_get f.automata a) ≡ max (v.block auto.block) (tests_level auto.states)
    moves-are = ap moves_level is

    block-moves : v.block auto.block ≤ moves_level (slice_get f.automata a)
    block-moves = let e = moves-are in let low = max-left (v.block auto.block) (tests_level auto.states) in omega (arith, e, low)

    entry-moves : entry_level (slice_get f.automata a) ≤ moves_level (slice_get f.automata a)
    entry-moves = let e = entry-is in let low = block-moves in omega (arith, e, low)

    test-moves : (moves : List AutoMove) (move : AutoMove) → Has auto.states moves → Has moves move → move.strong ≡ true → v.value move.cond ≤ moves_level (slice_get f.automata a)
    test-moves moves move in_states among strong =
        let same : strong_level move ≡ v.value move.cond = ap (λ b. if b then v.value move.cond else 0) strong in
        let one : strong_level move ≤ most_of strong_level moves = in-most strong_level moves move among in
        let more : most_of strong_level moves ≤ tests_level auto.states = in-most (λ ms. most_of strong_level ms) auto.states moves in_states in
        let all = max-right (v.block auto.block) (tests_level auto.states) in
        let e = moves-are in
        omega (arith, same, one, more, all, e)

    strong-below : (state : ℕ) → ReadsMoves (λ n. rank n < spot (moves_level (slice_get f.automata a)) 3) (strong_moves auto state)
    strong-below state =
        each-test (λ k. rank (AtValue k) < spot (moves_level (slice_get f.automata a)) 3) (λ (move : AutoMove). move.strong) (get_or auto.states state [])
        (λ move h strong.
        let s = of-state auto.states state move h in
        stay (v.value move.cond) (moves_level (slice_get f.automata a)) 0 3 (test-moves s.0 move (record { index = state; is = s.1 }) s.2 strong) (omega arith))

    -- all tests of the automaton stand in the form
    test-top : (moves : List AutoMove) (move : AutoMove) (state : ℕ) → slice_get auto.states state ≡ Some moves → Has moves move → v.value move.cond ≤ top
    test-top moves move state there among =
        let m : IsMove f auto a state move = all-has (IsMove f auto a state) moves move ((well.automata a auto is).moves state moves there) among in
        value-top move.cond m.block _ m.test

    moves-top : moves_level (slice_get f.automata a) ≤ top
    moves-top =
        let e = moves-are in
        let own = block-top auto.block (well.automata a auto is).block in
        let tests : tests_level auto.states < suc top =
        most-less (λ moves. most_of strong_level moves) auto.states (suc top) (omega arith)
        (λ moves h. most-less strong_level moves (suc top) (omega arith)
        (λ move m. if-less move.strong (v.value move.cond) (suc top) (omega arith) (λ strong. let low = test-top moves move h.index h.is m in omega (arith, low)))) in
        let both : max (v.block auto.block) (tests_level auto.states) < suc top = max-less (omega (arith, own)) tests in
        omega (arith, e, both)

    weak-below : (state : ℕ) → ReadsMoves (Below (AtWeak a)) (weak_moves auto state)
    weak-below state =
        each-test (λ k. Below (AtWeak a) (AtValue k)) _ (get_or auto.states state [])
        (λ move h weak.
        let s = of-state auto.states state move h in
        let low = test-top s.0 move state s.1 s.2 in
        jump (v.value move.cond) (suc top) 0 0 (omega (arith, low)) (omega arith))

    entry-below : ReadsEntry (Below (AtEntry a)) Any a (Some auto)
    entry-below = ((stay _ _ 0 2 block-entry (omega arith), stay _ _ 1 2 block-entry (omega arith), tt), tt, tt, tt)

    running-below : ReadsRunning (Below (AtRunning a)) Any a (Some auto)
    running-below = (stay _ _ 0 3 block-moves (omega arith), stay _ _ 2 3 entry-moves (omega arith), tt, strong-below)

    strong-move-below : ReadsStrong (Below (AtStrong a)) a (Some auto)
    strong-move-below = (stay _ _ 0 3 block-moves (omega arith), stay _ _ 2 3 entry-moves (omega arith), strong-below)

    weak-move-below : ReadsWeak (Below (AtWeak a)) a (Some auto)
    weak-move-below =
        let own = block-moves in
        let low = moves-top in
        (jump _ _ 0 0 (omega (arith, own, low)) (omega arith), jump _ _ 3 0 (omega (arith, low)) (omega arith), weak-below)

  pub entry : (a : ℕ) (x : Option Auto) → slice_get f.automata a ≡ x → ReadsEntry (Below (AtEntry a)) Any a x
  entry a None is = tt
  entry a (Some auto) is = entry-below a auto is

  pub running : (a : ℕ) (x : Option Auto) → slice_get f.automata a ≡ x → ReadsRunning (Below (AtRunning a)) Any a x
  running a None is = tt
  running a (Some auto) is = running-below a auto is

  pub strong : (a : ℕ) (x : Option Auto) → slice_get f.automata a ≡ x → ReadsStrong (Below (AtStrong a)) a x
  strong a None is = tt
  strong a (Some auto) is = strong-move-below a auto is

  pub weak : (a : ℕ) (x : Option Auto) → slice_get f.automata a ≡ x → ReadsWeak (Below (AtWeak a)) a x
  weak a None is = tt
  weak a (Some auto) is = weak-move-below a auto is

  -- ---- the entries of blocks

  main-alone : (b : ℕ) (x : Block) → slice_get f.blocks b ≡ Some x → x.parent ≡ None → IsBlock f b None x.kind
  main-alone b x is up = let T : Option ℕ → Type 0 = λ q. IsBlock f b q x.kind in subst T up (well.blocks b x is)

  main-control : (b : ℕ) (kind : BlockKind) → IsBlock f b None kind → ReadsOwnControl f (Below (AtControl b)) Any b kind
  main-control b Main alone = tt
  main-control b (Arm of arm) alone = absurd alone
  main-control b (Guard of state) alone = absurd alone
  main-control b (Body of state) alone = absurd alone
  main-control b (Reset k) alone = absurd alone

  control-under : (b : ℕ) (x : Block) → slice_get f.blocks b ≡ Some x → (q : Option ℕ) → x.parent ≡ q → ReadsParent (Below (AtControl b)) q × ReadsOwnControl f (Below (AtControl b)) Any b x.kind
  control-under b x is None up = (tt, main-control b x.kind (main-alone b x is up))
  control-under b x is (Some parent) up = (jump (v.block parent) (v.block b) 0 0 (above b parent x is up) (omega arith), own-control b parent x is up x.kind refl)

  pub control : (b : ℕ) (x : Option Block) → slice_get f.blocks b ≡ x → ReadsControl f (Below (AtControl b)) Any b x
  control b None is = tt
  control b (Some x) is = control-under b x is x.parent refl

  reset-under : (b : ℕ) (x : Block) → slice_get f.blocks b ≡ Some x → (q : Option ℕ) → x.parent ≡ q → ReadsResetUnder (Below (AtReset b)) Any q x.kind
  reset-under b x is None up = tt
  reset-under b x is (Some parent) up = (parent-reset b parent x is up, parent-active b parent x is up, own-reset b parent x is up x.kind refl)

  pub reset : (b : ℕ) (x : Option Block) → slice_get f.blocks b ≡ x → ReadsReset (Below (AtReset b)) Any x
  reset b None is = tt
  reset b (Some x) is = reset-under b x is x.parent refl

  own-later : (b : ℕ) (kind : BlockKind) → ReadsOwnLater (Below (AtLater b)) kind
  own-later b Main = tt
  own-later b (Arm of arm) = tt
  own-later b (Guard of state) = by_auto (slice_get f.automata of) refl
    where
      by_auto : (x : Option Auto) → slice_get f.automata of ≡ x → Below (AtLater b) (AtStrong of)
      by_auto None is = let e : moves_level (slice_get f.automata of) ≡ 0 = ap moves_level is in jump _ (suc top + b) 3 0 (omega (arith, e)) (omega arith)
      by_auto (Some auto) is = let low = moves-top of auto is in jump _ (suc top + b) 3 0 (omega (arith, low)) (omega arith)
  own-later b (Body of state) = tt
  own-later b (Reset k) = tt

  later-under : (b : ℕ) (x : Block) → slice_get f.blocks b ≡ Some x → (q : Option ℕ) → x.parent ≡ q → ReadsLaterUnder (Below (AtLater b)) q x.kind
  later-under b x is None up = tt
  later-under b x is (Some parent) up =
      let before = (block-kind b parent x is up).0 in
      let here = slice_get_within f.blocks b x is in
      let low = block-top parent (omega (arith, before, here)) in
      (jump (suc top + parent) (suc top + b) 0 0 (omega (arith, before)) (omega arith), jump (v.block parent) (suc top + b) 0 0 (omega (arith, low)) (omega arith), own-later b x.kind)

  pub later : (b : ℕ) (x : Option Block) → slice_get f.blocks b ≡ x → ReadsLater (Below (AtLater b)) x
  later b None is = tt
  later b (Some x) is = later-under b x is x.parent refl
