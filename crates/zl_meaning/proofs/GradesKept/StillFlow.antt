-- In a flow the blocks and the states of automata stand still: no equation of theirs reads a value there.
use Rattle.std.specs.Prelude.{◌≡◌, ℕ, zero, suc, ◌<◌, if◌then◌else◌, slice_get, Option, Some, None, ⊤}
use Rattle.std.proofs.Common.{refl, sym, ap, ap₂, ◌∙◌, arith}
use Rattle.zl_value.specs.Fraction.{Fraction}
use Rattle.zl_meaning.specs.FlatForm.{FlatForm}
use Rattle.zl_meaning.specs.State.{Table, Node, AtControl, AtReset, AtLater, AtEntry, AtRunning, AtStrong, AtWeak, AtPlace, AtUsed, AtValue, Control, State, state_in, is_active}
use Rattle.zl_meaning.specs.History.{Instant, History}
use Rattle.zl_meaning.specs.Moment.{Moment}
use Rattle.zl_meaning.specs.Blocks.{chosen, under, under_parent, own_control, control_of}
use Rattle.zl_meaning.specs.Automata.{if_active, entry_of, running_of}
use Rattle.zl_meaning.specs.Equation.{equation}
use Rattle.zl_meaning.specs.Flow.{Flow, flow_moment}
use Rattle.zl_meaning.specs.Reading.{ReadsParent, ReadsControl, ReadsOwnControl, ReadsEntry, ReadsRunning, HasNodeRanks}
use Rattle.zl_meaning.specs.KeepsGrades.{IsMoment}
use Rattle.zl_meaning.specs.declared.block.Block.{Block}
use Rattle.zl_meaning.specs.declared.block.BlockKind.{BlockKind}
use Rattle.zl_meaning.specs.declared.block.BlockKind.TheVariants.{Main, Arm, Guard, State as Body, Reset}
use Rattle.zl_meaning.specs.declared.block.Auto.{Auto}
use Rattle.zl_meaning.proofs.OneTable.{solves_each}

-- entries that read no value in a flow
abbrev pub IsSteady : Node → Type 0
IsSteady (AtControl b) = Unit {0}
IsSteady (AtEntry a) = Unit {0}
IsSteady (AtRunning a) = Unit {0}
IsSteady _ = ⊥

module _ (f : FlatForm) (r : HasNodeRanks f) (h : History) (i : Instant) (at : Fraction → Table) (flow : Flow f h i at) where
  abbrev pub M : Fraction → Moment
  M s = flow_moment f h i s

  abbrev pub V : Fraction → State
  V s = state_in (at s)

  -- each entry is what its equation says
  pub each : (s : Fraction) → IsMoment s → (a : Node) → V s a ≡ equation f (M s) (V s) a
  each s t a = solves_each f (M s) (at s) (flow.table s t.reduced t.after) a

  -- two moments of the flow
  module _ (s t : Fraction) (p : IsMoment s) (q : IsMoment t) where
    module _ (n : ℕ) (same : (a : Node) → IsSteady a → r.rank a < n → V s a ≡ V t a) where
      -- a block's own control
      own_same : (b : ℕ) (kind : BlockKind) → ReadsOwnControl f (λ a. r.rank a < n) (λ a. ⊤) b kind → own_control f (M s) (V s) b kind ≡ own_control f (M t) (V t) b kind
      own_same b Main l = refl
      own_same b (Arm of arm) l = refl
      own_same b (Guard of state) l = ap (λ e. chosen state e) (same (AtEntry of) tt l)
      own_same b (Body of state) l = ap (λ e. chosen state e) (same (AtRunning of) tt l)
      own_same b (Reset cond) l = refl

      -- what stands under a parent
      under_same : (parent : Option ℕ) (x y : Control) → x ≡ y → ReadsParent (λ a. r.rank a < n) parent → under_parent (V s) parent x ≡ under_parent (V t) parent y
      under_same None x y e l = e
      under_same (Some b) x y e l = ap₂ (λ a c. under a c) (same (AtControl b) tt l) e

      -- the control of a block
      control_same : (b : ℕ) (o : Option Block) → ReadsControl f (λ a. r.rank a < n) (λ a. ⊤) b o → control_of f (M s) (V s) b o ≡ control_of f (M t) (V t) b o
      control_same b None l = refl
      control_same b (Some x) l = under_same x.parent _ _ (own_same b x.kind l.1) l.0

      -- what is there where a block is active
      if_same : {X : Type 0} (b : ℕ) (x : Option X) → r.rank (AtControl b) < n → if_active (V s) b x ≡ if_active (V t) b x
      if_same b x l = ap (λ c. if is_active c then x else None) (same (AtControl b) tt l)

      -- the state of entry
      entry_same : (a : ℕ) (o : Option Auto) → ReadsEntry (λ a. r.rank a < n) (λ a. ⊤) a o → entry_of (M s) (V s) a o ≡ entry_of (M t) (V t) a o
      entry_same a None l = refl
      entry_same a (Some auto) l = if_same auto.block _ l.0.0

      -- the running state
      running_same : (a : ℕ) (o : Option Auto) → ReadsRunning (λ a. r.rank a < n) (λ a. ⊤) a o → running_of (M s) (V s) a o ≡ running_of (M t) (V t) a o
      running_same a None l = refl
      running_same a (Some auto) l = if_same auto.block _ l.0

    -- by rank
    steady_below : (n : ℕ) (a : Node) → IsSteady a → r.rank a < n → V s a ≡ V t a
    unfolding equation
    steady_below zero a c l = absurd (omega (arith, l))
    steady_below (suc n) (AtControl b) c l =
        each s p (AtControl b) ∙ control_same (r.rank (AtControl b)) (λ x d low. steady_below n x d (omega (arith, l, low))) b (slice_get f.blocks b) (r.lower (AtControl b)) ∙ sym (each t q (AtControl b))
    steady_below (suc n) (AtEntry a) c l =
        each s p (AtEntry a) ∙ entry_same (r.rank (AtEntry a)) (λ x d low. steady_below n x d (omega (arith, l, low))) a (slice_get f.automata a) (r.lower (AtEntry a)) ∙ sym (each t q (AtEntry a))
    steady_below (suc n) (AtRunning a) c l =
        each s p (AtRunning a) ∙ running_same (r.rank (AtRunning a)) (λ x d low. steady_below n x d (omega (arith, l, low))) a (slice_get f.automata a) (r.lower (AtRunning a)) ∙ sym (each t q (AtRunning a))
    steady_below (suc n) (AtReset b) c l = absurd c
    steady_below (suc n) (AtLater b) c l = absurd c
    steady_below (suc n) (AtStrong b) c l = absurd c
    steady_below (suc n) (AtWeak b) c l = absurd c
    steady_below (suc n) (AtPlace b) c l = absurd c
    steady_below (suc n) (AtUsed b) c l = absurd c
    steady_below (suc n) (AtValue b) c l = absurd c

    -- two moments of a flow agree on such entries
    pub steady : (a : Node) → IsSteady a → V s a ≡ V t a
    steady a c = steady_below (suc (r.rank a)) a c (omega arith)
