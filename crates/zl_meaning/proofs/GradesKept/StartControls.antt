-- At moment 0 of a flow each hybrid block is as it was at the instant, and any other is as it was, or idle. And of two blocks that
-- are apart one isn't active.
use Rattle.std.specs.Prelude.{◌≡◌, ◌⊎◌, ℕ, zero, suc, ◌<◌, nat_eq, Bool, true, false, if◌then◌else◌, slice_get, Option, Some, None}
use Rattle.std.specs.Option.{option_map, option_and_then}
use Rattle.std.proofs.Common.{refl, sym, ap, ◌∙◌, ⊎_elim, subst, arith, inl, inr, eqb-true}
use Rattle.zl_value.specs.Fraction.{Fraction}
use Rattle.zl_value.specs.Times.{nought}
use Rattle.zl_meaning.specs.FlatForm.{FlatForm, kind_of, parent_of, IsWithin, Same, Inside}
use Rattle.zl_meaning.specs.State.{Table, Node, AtControl, AtEntry, AtRunning, Control, Active, Idle, Blank, State, state_in, is_active}
use Rattle.zl_meaning.specs.History.{Instant, History, state_of}
use Rattle.zl_meaning.specs.Moment.{Mode, AtStep, AtLeft, InFlow, Moment, decide}
use Rattle.zl_meaning.specs.Blocks.{chosen, arm_control, under, under_parent, own_control, control_of}
use Rattle.zl_meaning.specs.Automata.{entry_of, running_of}
use Rattle.zl_meaning.specs.Solves.{moment_of}
use Rattle.zl_meaning.specs.Equation.{equation}
use Rattle.zl_meaning.specs.Flow.{Flow, flow_moment}
use Rattle.zl_meaning.specs.WellFormed.{IsBlock, IsWellFormed}
use Rattle.zl_meaning.specs.Regular.{is_hybrid_in, is_hybrid_block, IsHybridBy, IsRegular}
use Rattle.zl_meaning.specs.Single.{AreBodies, OfChoice, OfAutomaton, AreApart}
use Rattle.zl_meaning.specs.Reading.{HasNodeRanks}
use Rattle.zl_meaning.specs.declared.block.Block.{Block}
use Rattle.zl_meaning.specs.declared.block.BlockKind.{BlockKind}
use Rattle.zl_meaning.specs.declared.block.BlockKind.TheVariants.{Main, Arm, Guard, State as Body, Reset}
use Rattle.zl_meaning.specs.declared.block.Choice.{Choice}
use Rattle.zl_meaning.specs.declared.block.Auto.{Auto}
use Rattle.zl_meaning.proofs.WrittenForms.{at-start, some-same, true-false}
use Rattle.zl_meaning.proofs.Beginnings.{IsSolved, at-instant}
use Rattle.zl_meaning.proofs.GradesKept.StillFlow.{each}
use Rattle.zl_meaning.proofs.GradesKept.UsedFlow.{none_some, parent_active}

-- two controls under an equal parent
same_under : (c : Control) (x y : Control) → (is_active c ≡ true → x ≡ y) → under c x ≡ under c y
same_under Active x y e = e refl
same_under Idle x y e = refl
same_under Blank x y e = refl

-- what is active under a parent is active by itself
own_active : (c own : Control) → is_active (under c own) ≡ true → is_active own ≡ true
own_active Active own e = e
own_active Idle own e = absurd (true-false e refl)
own_active Blank own e = absurd (true-false e refl)

-- what is chosen is the number that was decided
chosen_is : (n : ℕ) (o : Option ℕ) → is_active (chosen n o) ≡ true → o ≡ Some n
chosen_is n None e = absurd (true-false e refl)
chosen_is n (Some d) e = go (nat_eq d n) refl e
  where
    go : (t : Bool) → nat_eq d n ≡ t → is_active (if t then Active else Idle) ≡ true → Some d ≡ Some n
    go true x y = ap (λ j. Some j) (eqb-true d n x)
    go false x y = absurd (true-false y refl)

-- a state that solves a moment
module _ (f : FlatForm) (m : Moment) (s : State) (solves : (a : Node) → s a ≡ equation f m s a) where
  -- a block's control
  control_is : (b : ℕ) (x : Block) → slice_get f.blocks b ≡ Some x → s (AtControl b) ≡ under_parent s x.parent (own_control f m s b x.kind)
  unfolding equation
  control_is b x is = solves (AtControl b) ∙ ap (λ o. control_of f m s b o) is

  -- an active block is active by itself
  own_is_active : (b : ℕ) (x : Block) → slice_get f.blocks b ≡ Some x → is_active (s (AtControl b)) ≡ true → is_active (own_control f m s b x.kind) ≡ true
  own_is_active b x is on = go x.parent (sym (ap (λ c. is_active c) (control_is b x is)) ∙ on)
    where
      go : (q : Option ℕ) → is_active (under_parent s q (own_control f m s b x.kind)) ≡ true → is_active (own_control f m s b x.kind) ≡ true
      go None e = e
      go (Some q) e = own_active (s (AtControl q)) _ e

  -- what an active block stands in is active
  outer_active : (outer b : ℕ) → IsWithin f outer b → is_active (s (AtControl b)) ≡ true → is_active (s (AtControl outer)) ≡ true
  outer_active outer _ Same on = on
  outer_active outer _ (Inside inner parent is within) on = outer_active outer parent within (by_block (slice_get f.blocks inner) refl)
    where
      -- of what stands at a number
      by_block : (o : Option Block) → slice_get f.blocks inner ≡ o → is_active (s (AtControl parent)) ≡ true
      by_block None there = absurd (none_some (sym (ap (λ o. option_and_then (λ (x : Block). x.parent) o) there) ∙ is))
      by_block (Some x) there =
          let up : x.parent ≡ Some parent = sym (ap (λ o. option_and_then (λ (x : Block). x.parent) o) there) ∙ is in
          parent_active (s (AtControl parent)) (own_control f m s inner x.kind)
          (sym (ap (λ c. is_active c) (control_is inner x there ∙ ap (λ q. under_parent s q (own_control f m s inner x.kind)) up)) ∙ on)

  -- by its kind
  block_of : (b : ℕ) (kind : BlockKind) → kind_of f b ≡ Some kind → is_active (s (AtControl b)) ≡ true → is_active (own_control f m s b kind) ≡ true
  block_of b kind is on = go (slice_get f.blocks b) refl
    where
      go : (o : Option Block) → slice_get f.blocks b ≡ o → is_active (own_control f m s b kind) ≡ true
      go None there = absurd (none_some (sym (ap (λ o. option_map (λ (x : Block). x.kind) o) there) ∙ is))
      go (Some x) there =
          let e : x.kind ≡ kind = some-same (sym (ap (λ o. option_map (λ (x : Block). x.kind) o) there) ∙ is) in
          subst (λ k. is_active (own_control f m s b k) ≡ true) e (own_is_active b x there on)

  -- the body of a choice that is active is the one decided
  arm_is : (mode : Mode) (n : ℕ) (o : Option Choice) → is_active (arm_control s mode n o) ≡ true → (choice : Choice) × (o ≡ Some choice) × (decide s choice.conds ≡ Some n)
  arm_is AtStep n None e = absurd (true-false e refl)
  arm_is AtStep n (Some choice) e = (choice, refl, chosen_is n (decide s choice.conds) e)
  arm_is AtLeft n o e = absurd (true-false e refl)
  arm_is InFlow n o e = absurd (true-false e refl)

  -- two bodies of one choice or automaton aren't both active
  bodies_apart : (a b : ℕ) (x y : BlockKind) → AreBodies x y → kind_of f a ≡ Some x → kind_of f b ≡ Some y → is_active (s (AtControl a)) ≡ true → is_active (s (AtControl b)) ≡ true → ⊥
  bodies_apart a b _ _ (OfChoice of n k other) is js p q =
      let u = arm_is m.mode n (slice_get f.choices of) (block_of a (Arm of n) is p) in
      let v = arm_is m.mode k (slice_get f.choices of) (block_of b (Arm of k) js q) in
      let same : u.0 ≡ v.0 = (let z : Some u.0 ≡ Some v.0 = sym u.1 ∙ v.1 in let g : u.0 ≡ v.0 = cc in g) in
      other (some-same (sym u.2 ∙ ap (λ (c : Choice). decide s c.conds) same ∙ v.2))
  bodies_apart a b _ _ (OfAutomaton of n k other) is js p q =
      other (some-same (sym (chosen_is n (s (AtRunning of)) (block_of a (Body of n) is p)) ∙ chosen_is k (s (AtRunning of)) (block_of b (Body of k) js q)))

  -- of two blocks that are apart one isn't active
  pub apart_blocks : (a b : ℕ) → AreApart f a b → is_active (s (AtControl a)) ≡ true → is_active (s (AtControl b)) ≡ true → ⊥
  apart_blocks a b x p q = bodies_apart x.left x.right x.left_kind x.right_kind x.bodies x.left_is x.right_is (outer_active x.left a x.left_holds p) (outer_active x.right b x.right_holds q)

-- hybrid goes outwards
module _ (f : FlatForm) (w : IsWellFormed f) (regular : IsRegular f) where
  -- the parent of a hybrid block is hybrid
  parent_hybrid : (inner parent : ℕ) → parent_of f inner ≡ Some parent → is_hybrid_block f inner ≡ true → is_hybrid_block f parent ≡ true
  parent_hybrid inner parent is hy = by_block (slice_get f.blocks inner) refl
    where
      -- by kind
      by_kind : (x : Block) (kind : BlockKind) → IsBlock f inner (Some parent) kind → IsHybridBy f x.hybrid (Some parent) kind → x.hybrid ≡ true → is_hybrid_block f parent ≡ true
      by_kind x Main wf h e = absurd wf.1
      by_kind x (Arm of n) wf h e = absurd (true-false e h)
      by_kind x (Guard of n) wf h e = some-same h ∙ e
      by_kind x (Body of n) wf h e = some-same h ∙ e
      by_kind x (Reset c) wf h e = some-same h ∙ e

      by_block : (o : Option Block) → slice_get f.blocks inner ≡ o → is_hybrid_block f parent ≡ true
      by_block None there = absurd (none_some (sym (ap (λ o. option_and_then (λ (x : Block). x.parent) o) there) ∙ is))
      by_block (Some x) there =
          let up : x.parent ≡ Some parent = sym (ap (λ o. option_and_then (λ (x : Block). x.parent) o) there) ∙ is in
          by_kind x x.kind (subst (λ q. IsBlock f inner q x.kind) up (w.blocks inner x there)) (subst (λ q. IsHybridBy f x.hybrid q x.kind) up (regular.blocks inner x there)) (sym (ap (λ o. is_hybrid_in o) there) ∙ hy)

  -- what a hybrid block stands in is hybrid
  pub outer_hybrid : (outer b : ℕ) → IsWithin f outer b → is_hybrid_block f b ≡ true → is_hybrid_block f outer ≡ true
  outer_hybrid outer _ Same hy = hy
  outer_hybrid outer _ (Inside inner parent is within) hy = outer_hybrid outer parent within (parent_hybrid inner parent is hy)

module _ (f : FlatForm) (w : IsWellFormed f) (regular : IsRegular f) (r : HasNodeRanks f) (h : History) (i : Instant) (at : Fraction → Table) (flow : Flow f h i at) (solved : IsSolved f h i) where
  abbrev V0 : State
  V0 = state_in (at nought)

  abbrev S0 : State
  S0 = state_of i

  -- a block is as it was at the instant, or is idle and not hybrid
  abbrev pub Kept : ℕ → Type 0
  Kept b = (V0 (AtControl b) ≡ S0 (AtControl b)) ⊎ ((V0 (AtControl b) ≡ Idle) × (is_hybrid_block f b ≡ false))

  solves : (a : Node) → S0 a ≡ equation f (moment_of f h solved.passed i) S0 a
  solves a = at-instant f h i solved a

  flow_is : (a : Node) → V0 a ≡ equation f (flow_moment f h i nought) V0 a
  flow_is a = each f r h i at flow nought at-start a

  -- the state of entry is as it was
  entry_is : (of q : ℕ) (auto : Auto) → slice_get f.automata of ≡ Some auto → auto.block ≡ q → is_active (V0 (AtControl q)) ≡ true → V0 (AtEntry of) ≡ S0 (AtEntry of)
  unfolding equation
  entry_is of q auto is e on =
      flow_is (AtEntry of) ∙ ap (λ o. entry_of (flow_moment f h i nought) V0 of o) is
      ∙ ap (λ t. if t then S0 (AtEntry of) else None) (ap (λ b. is_active (V0 (AtControl b))) e ∙ on)

  -- the running state is as it was
  running_is : (of q : ℕ) (auto : Auto) → slice_get f.automata of ≡ Some auto → auto.block ≡ q → is_active (V0 (AtControl q)) ≡ true → V0 (AtRunning of) ≡ S0 (AtRunning of)
  unfolding equation
  running_is of q auto is e on =
      flow_is (AtRunning of) ∙ ap (λ o. running_of (flow_moment f h i nought) V0 of o) is
      ∙ ap (λ t. if t then S0 (AtRunning of) else None) (ap (λ b. is_active (V0 (AtControl b))) e ∙ on)

  -- a control under its parent
  reset_same : (v c own : Control) → c ≡ under v own → under v c ≡ c
  reset_same Active c own e = refl
  reset_same Idle c own e = sym e
  reset_same Blank c own e = sym e

  -- by kind
  by_kind : (b : ℕ) (x : Block) → slice_get f.blocks b ≡ Some x → (q : Option ℕ) (kind : BlockKind) → IsBlock f b q kind → IsHybridBy f x.hybrid q kind → V0 (AtControl b) ≡ under_parent V0 q (own_control f (flow_moment f h i nought) V0 b kind) → S0 (AtControl b) ≡ under_parent S0 q (own_control f (moment_of f h solved.passed i) S0 b kind) → ((c : ℕ) → c < b → Kept c) → Kept b
  by_kind b x is None Main wf hy v s lower = inl (v ∙ sym s)
  by_kind b x is None (Arm of n) wf hy v s lower = absurd wf
  by_kind b x is None (Guard of n) wf hy v s lower = absurd wf
  by_kind b x is None (Body of n) wf hy v s lower = absurd wf
  by_kind b x is None (Reset n) wf hy v s lower = absurd wf
  by_kind b x is (Some q) Main wf hy v s lower = absurd wf.1
  by_kind b x is (Some q) (Arm of n) wf hy v s lower = ⊎_elim (λ e. go (S0 (AtControl q)) refl e) (λ e. inr (v ∙ ap (λ c. under c Idle) e.0, ap (λ o. is_hybrid_in o) is ∙ hy)) (lower q wf.0)
    where
      go : (c : Control) → S0 (AtControl q) ≡ c → V0 (AtControl q) ≡ S0 (AtControl q) → Kept b
      go Active d e = inr (v ∙ ap (λ c. under c Idle) (e ∙ d), ap (λ o. is_hybrid_in o) is ∙ hy)
      go Idle d e = inr (v ∙ ap (λ c. under c Idle) (e ∙ d), ap (λ o. is_hybrid_in o) is ∙ hy)
      go Blank d e = inl (v ∙ ap (λ c. under c Idle) (e ∙ d) ∙ sym (s ∙ ap (λ c. under c (own_control f (moment_of f h solved.passed i) S0 b (Arm of n))) d))
  by_kind b x is (Some q) (Guard of n) wf hy v s lower =
      ⊎_elim
      (λ e. inl (v ∙ same_under (V0 (AtControl q)) _ _ (λ on. ap (λ o. chosen n o) (entry_is of q wf.1.0 wf.1.1 wf.1.2 on)) ∙ ap (λ c. under c (chosen n (S0 (AtEntry of)))) e ∙ sym s))
      (λ e. inr (v ∙ ap (λ c. under c (own_control f (flow_moment f h i nought) V0 b (Guard of n))) e.0, ap (λ o. is_hybrid_in o) is ∙ sym (some-same hy) ∙ e.1)) (lower q wf.0)
  by_kind b x is (Some q) (Body of n) wf hy v s lower =
      ⊎_elim
      (λ e. inl (v ∙ same_under (V0 (AtControl q)) _ _ (λ on. ap (λ o. chosen n o) (running_is of q wf.1.0 wf.1.1 wf.1.2 on)) ∙ ap (λ c. under c (chosen n (S0 (AtRunning of)))) e ∙ sym s))
      (λ e. inr (v ∙ ap (λ c. under c (own_control f (flow_moment f h i nought) V0 b (Body of n))) e.0, ap (λ o. is_hybrid_in o) is ∙ sym (some-same hy) ∙ e.1)) (lower q wf.0)
  by_kind b x is (Some q) (Reset cond) wf hy v s lower =
      ⊎_elim
      (λ e. inl (v ∙ ap (λ c. under c (S0 (AtControl b))) e ∙ reset_same (S0 (AtControl q)) (S0 (AtControl b)) _ s))
      (λ e. inr (v ∙ ap (λ c. under c (own_control f (flow_moment f h i nought) V0 b (Reset cond))) e.0, ap (λ o. is_hybrid_in o) is ∙ sym (some-same hy) ∙ e.1)) (lower q wf.0)

  -- of what stands at a number
  by_block : (b : ℕ) (o : Option Block) → slice_get f.blocks b ≡ o → ((c : ℕ) → c < b → Kept c) → Kept b
  unfolding equation
  by_block b None is lower = inl (flow_is (AtControl b) ∙ ap (λ o. control_of f (flow_moment f h i nought) V0 b o) is ∙ sym (solves (AtControl b) ∙ ap (λ o. control_of f (moment_of f h solved.passed i) S0 b o) is))
  by_block b (Some x) is lower =
      by_kind b x is x.parent x.kind (w.blocks b x is) (regular.blocks b x is)
      (flow_is (AtControl b) ∙ ap (λ o. control_of f (flow_moment f h i nought) V0 b o) is)
      (solves (AtControl b) ∙ ap (λ o. control_of f (moment_of f h solved.passed i) S0 b o) is) lower

  -- by number
  kept_below : (n b : ℕ) → b < n → Kept b
  kept_below zero b l = absurd (omega (arith, l))
  kept_below (suc n) b l = by_block b (slice_get f.blocks b) refl (λ c low. kept_below n c (omega (arith, l, low)))

  -- each block
  pub kept_control : (b : ℕ) → Kept b
  kept_control b = kept_below (suc b) b (omega arith)

  -- a hybrid block is as it was
  pub hybrid_control : (b : ℕ) → is_hybrid_block f b ≡ true → V0 (AtControl b) ≡ S0 (AtControl b)
  hybrid_control b hy = ⊎_elim (λ e. e) (λ e. absurd (true-false hy e.1)) (kept_control b)
