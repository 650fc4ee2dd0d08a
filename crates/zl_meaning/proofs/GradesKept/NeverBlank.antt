-- No block is blank at an instant without a fault, in runs in which each evaluated test has a value.
use Rattle.std.specs.Prelude.{◌≡◌, ℕ, zero, suc, ◌<◌, nat_eq, Bool, true, false, not, ◌&&◌, ◌||◌, if◌then◌else◌, List, [], ◌∷◌, map, slice_get, get_or, IsSome, Option, Some, None, ⊤}
use Rattle.std.specs.Option.{option_map}
use Rattle.std.proofs.Common.{refl, sym, ap, ap₂, ◌∙◌, ⊎_elim, subst, arith}
use Rattle.std.proofs.lemmas.Bool.{eq-eqb}
use Rattle.zl_value.specs.Fraction.{Fraction}
use Rattle.zl_value.specs.Lists.{Has}
use Rattle.zl_value.specs.Loop.{Next, Ends, Steps, Flows, next_after}
use Rattle.zl_value.specs.Script.{IsScriptFor}
use Rattle.zl_value.specs.declared.script.Script.{Script}
use Rattle.zl_value.specs.declared.script.Mark.{Mark}
use Rattle.zl_value.specs.declared.script.Ending.{Ending}
use Rattle.zl_value.specs.declared.value.Fault.{Fault}
use Rattle.zl_value.specs.declared.value.Value.{Value}
use Rattle.zl_value.specs.declared.value.Value.TheVariants.{B, I, F}
use Rattle.zl_value.specs.declared.value.Ty.TheVariants.{Bool as BoolTy}
use Rattle.zl_value.specs.Instants.{Kind, Step, Left, steps_in, mark_of}
use Rattle.zl_value.specs.Runs.{StepAfter, LeftAfter}
use Rattle.zl_value.specs.System.{next, is_demanded}
use Rattle.zl_meaning.specs.FlatForm.{FlatForm, kind_of}
use Rattle.zl_meaning.specs.State.{Node, AtControl, AtReset, AtLater, AtEntry, AtRunning, AtStrong, AtWeak, AtPlace, AtUsed, AtValue, Control, Active, Idle, Blank, State, is_active}
use Rattle.zl_meaning.specs.History.{Instant, History, state_of, last_active, is_live}
use Rattle.zl_meaning.specs.Moment.{Moment, is_at_step, is_in_flow, is_fresh, decide_by, decide}
use Rattle.zl_meaning.specs.Uses.{AsTest, IsTest, OfChoice, OfReset, OfMove, TestOf, IsUse}
use Rattle.zl_meaning.specs.Blocks.{chosen, arm_control, if_value, reset_control, under, under_parent, own_control, control_of}
use Rattle.zl_meaning.specs.Automata.{strong_moves, decide_move, goes_to, entry_in, runs_by, runs_from, running_in, entry_of, running_of}
use Rattle.zl_meaning.specs.Occurrences.{used_of}
use Rattle.zl_meaning.specs.Solves.{moment_of, mode_of, state_at, block_of_auto, instant_fault}
use Rattle.zl_meaning.specs.Equation.{equation}
use Rattle.zl_meaning.specs.System.{system_of}
use Rattle.zl_meaning.specs.Run.{IsPrefix}
use Rattle.zl_meaning.specs.Inputs.{input_types}
use Rattle.zl_meaning.specs.Decided.{IsThere, HasTests}
use Rattle.zl_meaning.specs.Reading.{ReadsControl, ReadsOwnControl, ReadsParent, ReadsRunning, HasNodeRanks}
use Rattle.zl_meaning.specs.WellFormed.{Stands, IsBlock, IsParent, IsMove, IsWellFormed, tests_of}
use Rattle.zl_meaning.specs.declared.block.Block.{Block}
use Rattle.zl_meaning.specs.declared.block.BlockKind.{BlockKind}
use Rattle.zl_meaning.specs.declared.block.BlockKind.TheVariants.{Main, Arm, Guard, State as Body, Reset}
use Rattle.zl_meaning.specs.declared.block.Choice.{Choice}
use Rattle.zl_meaning.specs.declared.block.Auto.{Auto}
use Rattle.zl_meaning.specs.declared.block.AutoMove.{AutoMove}
use Rattle.zl_meaning.proofs.LevelLists.{each-test, of-state}
use Rattle.zl_meaning.proofs.Beginnings.{IsSolved, at-instant, latest-solved}
use Rattle.zl_meaning.proofs.Members.{all-has}
use Rattle.zl_meaning.proofs.WrittenForms.{some-same, true-false}
use Rattle.zl_meaning.proofs.GradesKept.OfTypes.{IsOf}
use Rattle.zl_meaning.proofs.GradesKept.Typed.{IsTyped}
use Rattle.zl_meaning.proofs.GradesKept.TypedRuns.{prefix_typed}
use Rattle.zl_meaning.proofs.GradesKept.UsedFlow.{none_some, and_second}
use Rattle.zl_meaning.proofs.GradesKept.UsesSay.{asked-by}

-- something is there
abbrev Given : {X : Type 0} → Option X → Type 0
Given {X} o = (x : X) × (o ≡ Some x)

-- no block is blank, and each active automaton runs in a state
pub record IsGood (f : FlatForm) (i : Instant) : Type 0 where
  pub blocks : (b : ℕ) → state_of i (AtControl b) ≡ Blank → ⊥
  pub running : (a : ℕ) (auto : Auto) → slice_get f.automata a ≡ Some auto → is_active (state_of i (AtControl auto.block)) ≡ true → Given (state_of i (AtRunning a))

-- at all instants
abbrev AllGood : FlatForm → History → Type 0
AllGood f [] = Unit {0}
AllGood f (i ∷ h) = IsGood f i × AllGood f h

-- idle isn't blank, nor is active
idle_blank : Idle ≡ Blank → ⊥
idle_blank p = cc

active_blank : Active ≡ Blank → ⊥
active_blank p = cc

-- what goes on has no fault
no_fault_by : (script : Script) (time : Fraction) (mark : Mark) (o : Option Fault) (d : Bool) (n : ℕ) (v : Next) → ((e : Ending) → Ends e ≡ v → ⊥) → next_after script time mark o d n ≡ v → o ≡ None
no_fault_by script time mark None d n v apart e = refl
no_fault_by script time mark (Some x) d n v apart e = absurd (apart _ e)

-- what is chosen by a number that is there isn't blank
chosen_not : (n : ℕ) (o : Option ℕ) → Given o → chosen n o ≡ Blank → ⊥
chosen_not n o given e = go (nat_eq given.0 n) (sym (ap (λ x. chosen n x) given.1) ∙ e)
  where
    go : (t : Bool) → (if t then Active else Idle) ≡ Blank → ⊥
    go true p = active_blank p
    go false p = idle_blank p

-- it is decided where each test is true or false
decided_given : (s : State) (ks : List ℕ) → ((k : ℕ) → Has ks k → (b : Bool) × (s (AtValue k) ≡ Some (B b))) → Given (decide s ks)
decided_given s [] all = (0, refl)
decided_given s (k ∷ ks) all =
    let x = all k (record { index = 0; is = refl }) in
    let rest = decided_given s ks (λ j h. all j (record { index = suc h.index; is = h.is })) in
    go x.0 x.1 rest
  where
    go : (b : Bool) → s (AtValue k) ≡ Some (B b) → Given (decide s ks) → Given (decide s (k ∷ ks))
    go true e rest = (0, ap (λ v. decide_by v (decide s ks)) e)
    go false e rest = (suc rest.0, ap (λ v. decide_by v (decide s ks)) e ∙ ap (λ o. option_map (λ n. suc n) o) rest.1)

-- what isn't false is true
not_false : (b : Bool) → not b ≡ false → b ≡ true
not_false true e = refl
not_false false e = absurd (true-false refl e)

-- neither of two tests
or_none : (a b : Bool) → (a || b) ≡ false → (a ≡ false) × (b ≡ false)
or_none false b e = (refl, e)
or_none true b e = absurd (true-false refl e)

-- a value of type bool that is there is true or false
bool_there : (v : Option Value) → IsOf BoolTy v → IsSome v → (b : Bool) × (v ≡ Some (B b))
bool_there (Some (B b)) t some = (b, refl)
bool_there (Some (I n)) t some = absurd t
bool_there (Some (F x)) t some = absurd t
bool_there None t some = absurd (true-false some refl)

-- a move goes somewhere
given_goes : (o : Option AutoMove) (x : Option ℕ) → Given x → Given (goes_to o x)
given_goes (Some move) x g = (move.target, refl)
given_goes None x g = g

module _ (f : FlatForm) (w : IsWellFormed f) (r : HasNodeRanks f) (h : History) (i : Instant) (good : AllGood f h) (solved : IsSolved f h i) (typed : IsTyped f (state_of i)) (tests : (k : ℕ) → IsUse f k TestOf → IsThere (state_of i) k) where
  abbrev S0 : State
  S0 = state_of i

  abbrev N0 : Moment
  N0 = moment_of f h solved.passed i

  solves : (a : Node) → S0 a ≡ equation f N0 S0 a
  solves a = at-instant f h i solved a

  -- it is true or false
  abbrev HasBool : ℕ → Type 0
  HasBool k = (c : Bool) × (S0 (AtValue k) ≡ Some (B c))

  -- an evaluated test, at a step
  test_value : (b k : ℕ) → i.kind ≡ Step → Stands f b BoolTy k → is_active (S0 (AtControl b)) ≡ true → IsTest f k → HasBool k
  unfolding equation
  test_value b k step st on test =
      let used : S0 (AtUsed k) ≡ true = solves (AtUsed k) ∙ ap (λ o. used_of f N0 S0 k o) st.is
      ∙ ap₂ (λ x y. x && y) (ap (λ c. is_active (S0 (AtControl c))) st.block ∙ on) (asked-by f k N0 S0 st.occ.call TestOf (AsTest test) (ap (λ kind. is_at_step (mode_of kind)) step)) in
      bool_there (S0 (AtValue k)) (subst (λ t. IsOf t (S0 (AtValue k))) st.typed (typed (AtValue k) st.occ st.is)) (tests k (AsTest test) used)

  -- an automaton that is live has run in a state
  live_running : (a b : ℕ) (auto : Auto) → slice_get f.automata a ≡ Some auto → auto.block ≡ b → (h : History) → AllGood f h → is_live b h ≡ true → Given (state_at (last_active b h) (AtRunning a))
  live_running a b auto is e [] g live = absurd (true-false live refl)
  live_running a b auto is e (j ∷ h) g live = go (is_active (state_of j (AtControl b))) refl live (λ x. live_running a b auto is e h g.1 x)
    where
      go : (t : Bool) → is_active (state_of j (AtControl b)) ≡ t → (not (state_of j (AtLater b)) && (t || (not (state_of j (AtReset b)) && is_live b h))) ≡ true → (is_live b h ≡ true → Given (state_at (last_active b h) (AtRunning a))) → Given (state_at (if t then Some j else last_active b h) (AtRunning a))
      go true on x rest = g.0.running a auto is (ap (λ c. is_active (state_of j (AtControl c))) e ∙ on)
      go false off x rest = rest (and_second (not (state_of j (AtReset b))) (is_live b h) (and_second (not (state_of j (AtLater b))) (not (state_of j (AtReset b)) && is_live b h) x))

  GoodAt : Node → Type 0
  GoodAt (AtControl b) = S0 (AtControl b) ≡ Blank → ⊥
  GoodAt (AtEntry a) = (auto : Auto) → slice_get f.automata a ≡ Some auto → is_active (S0 (AtControl auto.block)) ≡ true → Given (S0 (AtEntry a))
  GoodAt (AtRunning a) = (auto : Auto) → slice_get f.automata a ≡ Some auto → is_active (S0 (AtControl auto.block)) ≡ true → Given (S0 (AtRunning a))
  GoodAt _ = Unit {0}

  module _ (n : ℕ) (below : (a : Node) → r.rank a < n → GoodAt a) where
    -- a body of a choice
    arm_not : (kind : Kind) → i.kind ≡ kind → (q of arm : ℕ) → is_active (S0 (AtControl q)) ≡ true → (choice : Choice) → slice_get f.choices of ≡ Some choice → choice.block ≡ q → arm_control S0 (mode_of kind) arm (Some choice) ≡ Blank → ⊥
    arm_not Left e q of arm on choice is at = idle_blank
    arm_not Step e q of arm on choice is at =
        chosen_not arm (decide S0 choice.conds) (decided_given S0 choice.conds (λ k has.
        let st : Stands f choice.block BoolTy k = all-has (Stands f choice.block BoolTy) choice.conds k (w.choices of choice is).tests has in
        test_value choice.block k e st (ap (λ c. is_active (S0 (AtControl c))) at ∙ on) (OfChoice of choice is has)))

    -- a `reset` body
    reset_not : (kind : Kind) → i.kind ≡ kind → (b q cond : ℕ) (x : Block) → slice_get f.blocks b ≡ Some x → x.kind ≡ Reset cond → is_active (S0 (AtControl q)) ≡ true → Stands f q BoolTy cond → reset_control N0 S0 (mode_of kind) b cond ≡ Blank → ⊥
    reset_not Left e b q cond x is k on st = active_blank
    reset_not Step e b q cond x is k on st = λ p.
        let v = test_value q cond e st on (OfReset b (ap (option_map (λ (block : Block). block.kind)) is ∙ ap (λ kind. Some kind) k)) in
        active_blank (sym (ap (λ o. if_value o) v.1) ∙ p)

    -- a block by itself
    own_not : (b : ℕ) (x : Block) → slice_get f.blocks b ≡ Some x → (q : ℕ) (kind : BlockKind) → x.kind ≡ kind → IsParent f q kind → ReadsOwnControl f (λ a. r.rank a < n) (λ a. ⊤) b kind → is_active (S0 (AtControl q)) ≡ true → own_control f N0 S0 b kind ≡ Blank → ⊥
    unfolding GoodAt
    own_not b x is q Main k up l on = absurd up
    own_not b x is q (Arm of arm) k up l on = λ p. arm_not i.kind refl q of arm on up.0 up.1 up.2 (sym (ap (λ o. arm_control S0 (mode_of i.kind) arm o) up.1) ∙ p)
    own_not b x is q (Guard of state) k up l on = chosen_not state (S0 (AtEntry of)) (below (AtEntry of) l up.0 up.1 (ap (λ c. is_active (S0 (AtControl c))) up.2 ∙ on))
    own_not b x is q (Body of state) k up l on = chosen_not state (S0 (AtRunning of)) (below (AtRunning of) l up.0 up.1 (ap (λ c. is_active (S0 (AtControl c))) up.2 ∙ on))
    own_not b x is q (Reset cond) k up l on = reset_not i.kind refl b q cond x is k on up

    -- under its parent
    under_not : (c own : Control) → (c ≡ Blank → ⊥) → (is_active c ≡ true → own ≡ Blank → ⊥) → under c own ≡ Blank → ⊥
    under_not Active own p q e = q refl e
    under_not Idle own p q e = idle_blank e
    under_not Blank own p q e = p refl

    -- by its parent
    control_not : (b : ℕ) (x : Block) → slice_get f.blocks b ≡ Some x → (q : Option ℕ) (kind : BlockKind) → x.kind ≡ kind → IsBlock f b q kind → ReadsParent (λ a. r.rank a < n) q → ReadsOwnControl f (λ a. r.rank a < n) (λ a. ⊤) b kind → under_parent S0 q (own_control f N0 S0 b kind) ≡ Blank → ⊥
    unfolding GoodAt
    control_not b x is None Main k wf lp l = active_blank
    control_not b x is None (Arm of arm) k wf lp l = absurd wf
    control_not b x is None (Guard of arm) k wf lp l = absurd wf
    control_not b x is None (Body of arm) k wf lp l = absurd wf
    control_not b x is None (Reset cond) k wf lp l = absurd wf
    control_not b x is (Some q) kind k wf lp l = under_not (S0 (AtControl q)) (own_control f N0 S0 b kind) (below (AtControl q) lp) (λ on. own_not b x is q kind k wf.1 l on)

    -- of what stands at a number
    block_not : (b : ℕ) (o : Option Block) → slice_get f.blocks b ≡ o → ReadsControl f (λ a. r.rank a < n) (λ a. ⊤) b o → control_of f N0 S0 b o ≡ Blank → ⊥
    block_not b None is l = idle_blank
    block_not b (Some x) is l = control_not b x is x.parent x.kind refl (w.blocks b x is) l.0 l.1

    -- an active automaton has a state of entry
    entry_given : (a : ℕ) (auto : Auto) → slice_get f.automata a ≡ Some auto → is_active (S0 (AtControl auto.block)) ≡ true → (kind : Kind) → i.kind ≡ kind → Given (entry_in N0 S0 a auto (mode_of kind))
    entry_given a auto is on kind e = go kind (is_fresh N0 S0 auto.block) refl
      where
        from_before : is_fresh N0 S0 auto.block ≡ false → Given (goes_to (N0.before (AtWeak a)) (N0.before (AtRunning a)))
        from_before old =
            given_goes (N0.before (AtWeak a)) (N0.before (AtRunning a))
            (subst (λ b. Given (state_at (last_active b h) (AtRunning a))) (sym (ap (λ o. block_of_auto o) is)) (live_running a auto.block auto is refl h good (is_lively i.kind old)))
          where
            is_lively : (kind : Kind) → (not (is_in_flow (mode_of kind)) && (is_active (S0 (AtControl auto.block)) && (not (is_live auto.block h) || S0 (AtReset auto.block)))) ≡ false → is_live auto.block h ≡ true
            is_lively Step x = not_false (is_live auto.block h) (or_none (not (is_live auto.block h)) (S0 (AtReset auto.block)) (sym (ap (λ b. b && (not (is_live auto.block h) || S0 (AtReset auto.block))) on) ∙ x)).0
            is_lively Left x = not_false (is_live auto.block h) (or_none (not (is_live auto.block h)) (S0 (AtReset auto.block)) (sym (ap (λ b. b && (not (is_live auto.block h) || S0 (AtReset auto.block))) on) ∙ x)).0

        go : (k : Kind) (t : Bool) → is_fresh N0 S0 auto.block ≡ t → Given (entry_in N0 S0 a auto (mode_of k))
        go Step true x = (0, ap (λ b. if b then Some 0 else goes_to (N0.before (AtWeak a)) (N0.before (AtRunning a))) x)
        go Step false x = let q = from_before x in (q.0, ap (λ b. if b then Some 0 else goes_to (N0.before (AtWeak a)) (N0.before (AtRunning a))) x ∙ q.1)
        go Left true x = (0, ap (λ b. if b then Some 0 else goes_to (N0.before (AtWeak a)) (N0.before (AtRunning a))) x)
        go Left false x = let q = from_before x in (q.0, ap (λ b. if b then Some 0 else goes_to (N0.before (AtWeak a)) (N0.before (AtRunning a))) x ∙ q.1)

    -- the tests of the entry state are evaluated: its guard is active
    guard_active : (a e b : ℕ) (auto : Auto) → slice_get f.automata a ≡ Some auto → is_active (S0 (AtControl auto.block)) ≡ true → S0 (AtEntry a) ≡ Some e → kind_of f b ≡ Some (Guard a e) → is_active (S0 (AtControl b)) ≡ true
    unfolding equation
    guard_active a e b auto is on entry kind = by_block (slice_get f.blocks b) refl
      where
        by_parent : (x : Block) → slice_get f.blocks b ≡ Some x → (q : Option ℕ) → x.parent ≡ q → IsBlock f b q (Guard a e) → x.kind ≡ Guard a e → is_active (S0 (AtControl b)) ≡ true
        by_parent x there None up wf k = absurd wf
        by_parent x there (Some q) up wf k =
            let same : wf.1.0 ≡ auto = some-same (sym wf.1.1 ∙ is) in
            let at : auto.block ≡ q = ap (λ (y : Auto). y.block) (sym same) ∙ wf.1.2 in
            let own : own_control f N0 S0 b x.kind ≡ Active = ap (λ y. own_control f N0 S0 b y) k ∙ ap (λ o. chosen e o) entry ∙ ap (λ t. if t then Active else Idle) (eq-eqb e e refl) in
            ap (λ c. is_active c) (solves (AtControl b) ∙ ap (λ o. control_of f N0 S0 b o) there ∙ ap₂ (λ p c. under_parent S0 p c) up own)
            ∙ under_on (S0 (AtControl q)) (ap (λ c. is_active (S0 (AtControl c))) (sym at) ∙ on)
          where
            under_on : (c : Control) → is_active c ≡ true → is_active (under c Active) ≡ true
            under_on Active p = refl
            under_on Idle p = p
            under_on Blank p = p

        by_block : (o : Option Block) → slice_get f.blocks b ≡ o → is_active (S0 (AtControl b)) ≡ true
        by_block None there = absurd (none_some (sym (ap (λ o. option_map (λ (x : Block). x.kind) o) there) ∙ kind))
        by_block (Some x) there =
            let k : x.kind ≡ Guard a e = some-same (sym (ap (λ o. option_map (λ (y : Block). y.kind) o) there) ∙ kind) in
            by_parent x there x.parent refl (subst (λ y. IsBlock f b x.parent y) k (w.blocks b x there)) k

    -- its strong transitions are decided
    moves_given : (a e : ℕ) (auto : Auto) → slice_get f.automata a ≡ Some auto → is_active (S0 (AtControl auto.block)) ≡ true → i.kind ≡ Step → S0 (AtEntry a) ≡ Some e → Given (decide_move S0 (strong_moves auto e))
    moves_given a e auto is on step entry =
        decided_given S0 (map (λ (move : AutoMove). move.cond) (strong_moves auto e)) (λ k has. all-has HasBool (map (λ (move : AutoMove). move.cond) (strong_moves auto e)) k (each-test HasBool (λ (move : AutoMove). move.strong) (get_or auto.states e []) strong_test) has)
      where
        strong_test : (move : AutoMove) → Has (get_or auto.states e []) move → move.strong ≡ true → HasBool move.cond
        strong_test move has strong =
            let there = of-state auto.states e move has in
            let is_move = all-has (IsMove f auto a e) there.0 move ((w.automata a auto is).moves e there.0 there.1) there.2 in
            let guard = guard_active a e is_move.block auto is on entry (is_move.is ∙ ap (λ b. Some (tests_of b a e)) strong) in
            test_value is_move.block move.cond step is_move.test guard (OfMove a auto there.0 move is (record { index = e; is = there.1 }) there.2 refl)

    -- so it runs in a state
    running_given : (a : ℕ) (auto : Auto) → slice_get f.automata a ≡ Some auto → is_active (S0 (AtControl auto.block)) ≡ true → Given (S0 (AtEntry a)) → (kind : Kind) → i.kind ≡ kind → Given (running_in N0 S0 a auto (mode_of kind))
    running_given a auto is on entry Left e = entry
    running_given a auto is on entry Step e =
        let d = moves_given a entry.0 auto is on e entry.1 in
        let g = given_goes (slice_get (strong_moves auto entry.0) d.0) (Some entry.0) (entry.0, refl) in
        (g.0, ap (λ o. runs_from S0 auto o) entry.1 ∙ ap (λ o. runs_by (strong_moves auto entry.0) entry.0 o) d.1 ∙ g.1)

  -- by rank
  good_below : (n : ℕ) (a : Node) → r.rank a < n → GoodAt a
  unfolding equation GoodAt
  good_below zero a l = absurd (omega (arith, l))
  good_below (suc n) (AtControl b) l = λ e.
      block_not (r.rank (AtControl b)) (λ a low. good_below n a (omega (arith, l, low))) b (slice_get f.blocks b) refl (r.lower (AtControl b)) (sym (solves (AtControl b)) ∙ e)
  good_below (suc n) (AtEntry a) l = λ auto is on.
      let q = entry_given (r.rank (AtEntry a)) (λ a low. good_below n a (omega (arith, l, low))) a auto is on i.kind refl in
      (q.0, solves (AtEntry a) ∙ ap (λ o. entry_of N0 S0 a o) is ∙ ap (λ b. if b then entry_in N0 S0 a auto N0.mode else None) on ∙ q.1)
  good_below (suc n) (AtRunning a) l = λ auto is on.
      let reads : ReadsRunning (λ b. r.rank b < r.rank (AtRunning a)) (λ b. ⊤) a (Some auto) = subst (λ o. ReadsRunning (λ b. r.rank b < r.rank (AtRunning a)) (λ b. ⊤) a o) is (r.lower (AtRunning a)) in
      let low = reads.1 in
      let q = running_given (r.rank (AtRunning a)) (λ a low. good_below n a (omega (arith, l, low))) a auto is on (good_below n (AtEntry a) (omega (arith, l, low)) auto is on) i.kind refl in
      (q.0, solves (AtRunning a) ∙ ap (λ o. running_of N0 S0 a o) is ∙ ap (λ b. if b then running_in N0 S0 a auto N0.mode else None) on ∙ q.1)
  good_below (suc n) (AtReset b) l = tt
  good_below (suc n) (AtLater b) l = tt
  good_below (suc n) (AtStrong b) l = tt
  good_below (suc n) (AtWeak b) l = tt
  good_below (suc n) (AtPlace b) l = tt
  good_below (suc n) (AtUsed b) l = tt
  good_below (suc n) (AtValue b) l = tt

  -- so each instant is good, if those before it are
  good_instant : IsGood f i
  unfolding GoodAt
  good_instant = record {
    blocks = λ b. good_below (suc (r.rank (AtControl b))) (AtControl b) (omega arith);
    running = λ a auto is on. good_below (suc (r.rank (AtRunning a))) (AtRunning a) (omega arith) auto is on;
  }

module _ (f : FlatForm) (w : IsWellFormed f) (r : HasNodeRanks f) (grades : List ℕ) (tests : HasTests f grades) (script : Script) (fits : IsScriptFor (input_types f) script) where
  -- an end is no step
  ends_steps : (e : Ending) → Ends e ≡ Steps → ⊥
  ends_steps e p = cc

  -- nor a flow
  ends_flows : (e : Ending) → Ends e ≡ Flows → ⊥
  ends_flows e p = cc

  -- an instant after which the run goes on has no fault
  fault_before : (j : Instant) (h : History) (v : Next) → ((e : Ending) → Ends e ≡ v → ⊥) → next (system_of f grades) script (j ∷ h) ≡ v → instant_fault f h j ≡ None
  fault_before j h v apart e = no_fault_by script j.time (mark_of h j) (instant_fault f h j) (is_demanded (system_of f grades) script (j ∷ h)) (steps_in (j ∷ h)) v apart e

  -- all instants of a beginning without a fault are good
  all_good : (h : History) (i : Instant) → IsPrefix f grades script (i ∷ h) → instant_fault f h i ≡ None → AllGood f (i ∷ h)
  all_good [] i p fine = (good_instant f w r [] i tt (latest-solved f grades script [] i p) (prefix_typed f script fits w r grades (i ∷ []) p).0 (tests script [] i fits p fine), tt)
  all_good (j ∷ h) i p fine =
      let due = ⊎_elim
      (λ (step : StepAfter (system_of f grades) script (j ∷ h) i). fault_before j h Steps ends_steps step.due)
      (λ (left : LeftAfter (system_of f grades) script h j i). fault_before j h Flows ends_flows left.move.flow.due) p.1 in
      let before = all_good h j p.0 due in
      (good_instant f w r (j ∷ h) i before (latest-solved f grades script (j ∷ h) i p) (prefix_typed f script fits w r grades (i ∷ j ∷ h) p).0 (tests script (j ∷ h) i fits p fine), before)

-- no block is blank at an instant without a fault
pub never_blank : (f : FlatForm) → IsWellFormed f → HasNodeRanks f → (grades : List ℕ) → HasTests f grades → (script : Script) (h : History) (i : Instant) → IsScriptFor (input_types f) script → IsPrefix f grades script (i ∷ h) → instant_fault f h i ≡ None → (b : ℕ) → state_of i (AtControl b) ≡ Blank → ⊥
never_blank f w r grades tests script h i fits p fine = (all_good f w r grades tests script fits h i p fine).0.blocks
