-- In a flow what is evaluated stands in an active hybrid block, and not under an `init` or a reset value: so it is graded.
use Rattle.std.specs.Prelude.{◌≡◌, ℕ, zero, suc, ◌<◌, Bool, true, false, ◌&&◌, ◌||◌, List, [], ◌∷◌, slice_get, Option, Some, None, ⊤}
use Rattle.std.specs.List.{AllByRecursion, list_any}
use Rattle.std.specs.Option.{option_and_then}
use Rattle.std.proofs.Common.{refl, sym, ap, ap₂, ◌∙◌, subst, arith}
use Rattle.zl_value.specs.Fraction.{Fraction}
use Rattle.zl_value.specs.Lists.{Has}
use Rattle.zl_meaning.specs.FlatForm.{FlatForm, call_of}
use Rattle.zl_meaning.specs.State.{Table, AtControl, AtUsed, AtValue, Control, Active, Idle, Blank, State, state_in, is_active}
use Rattle.zl_meaning.specs.History.{Instant, History}
use Rattle.zl_meaning.specs.Moment.{Moment, is_fresh, is_called}
use Rattle.zl_meaning.specs.Blocks.{under, under_parent, own_control, control_of}
use Rattle.zl_meaning.specs.Uses.{Use, PartOf, BranchOf, DefinerOf, SlopeOf, EventOf, StartOf, ResetOf, TestOf, ArgumentOf, AgainOf, uses_of, IsUse, IsUnused}
use Rattle.zl_meaning.specs.Branches.{Under}
use Rattle.zl_meaning.specs.Occurrences.{takes, asks, is_asked, used_of}
use Rattle.zl_meaning.specs.Equation.{equation}
use Rattle.zl_meaning.specs.Flow.{Flow, flow_moment}
use Rattle.zl_meaning.specs.Reading.{ReadsCall, ReadsUse, ReadsAsked, ReadsUsed, HasNodeRanks}
use Rattle.zl_meaning.specs.WellFormed.{IsBlock, IsWellFormed}
use Rattle.zl_meaning.specs.Regular.{is_value, is_hybrid_in, is_hybrid_block, IsHybridBy, IsRegular}
use Rattle.zl_meaning.specs.Grades.{IsGraded}
use Rattle.zl_meaning.specs.KeepsGrades.{IsMoment}
use Rattle.zl_meaning.specs.declared.block.Block.{Block}
use Rattle.zl_meaning.specs.declared.block.BlockKind.{BlockKind}
use Rattle.zl_meaning.specs.declared.block.BlockKind.TheVariants.{Main, Arm, Guard, State as Body, Reset}
use Rattle.zl_meaning.specs.declared.occurrence.Occ.{Occ}
use Rattle.zl_meaning.proofs.WrittenForms.{some-same, true-false}
use Rattle.zl_meaning.proofs.UseCases.{use-of-listed}
use Rattle.zl_meaning.proofs.GradesKept.StillFlow.{each}
use Rattle.zl_meaning.proofs.GradesKept.UsesSay.{none-listed}

-- the uses that ask for nothing in a flow
pub data NeverAsks : Use → Type 0 where
  ByStart : (call : Option ℕ) (b : ℕ) → NeverAsks (StartOf call b)
  ByReset : (call : Option ℕ) (events : List ℕ) (arm : ℕ) → NeverAsks (ResetOf call events arm)

-- the call stands under this use
abbrev pub CallUnder : FlatForm → Use → Option ℕ → Type 0
CallUnder f of None = ⊥
CallUnder f of (Some c) = Under f of c

-- what uses it so stands under this use
abbrev pub UseUnder : FlatForm → Use → Use → Type 0
UseUnder f of (PartOf whole) = Under f of whole
UseUnder f of (BranchOf whole condition side) = Under f of whole
UseUnder f of (DefinerOf call) = CallUnder f of call
UseUnder f of (SlopeOf call) = CallUnder f of call
UseUnder f of (EventOf call) = CallUnder f of call
UseUnder f of (StartOf call b) = Unit {0}
UseUnder f of (ResetOf call events arm) = Unit {0}
UseUnder f of TestOf = Unit {0}
UseUnder f of ArgumentOf = ⊥
UseUnder f of AgainOf = ⊥

-- what stands under an `init` value or a reset value is used nowhere else: a use of it is one under it too, and what has no
-- use has its call there
pub record KeepsStarts (f : FlatForm) : Type 0 where
  pub uses : (of : Use) → NeverAsks of → (k : ℕ) → Under f of k → (u : Use) → IsUse f k u → UseUnder f of u
  pub unused : (of : Use) → NeverAsks of → (k : ℕ) → Under f of k → IsUnused f k → CallUnder f of (call_of f k)

-- both of two tests
and_false : (a b : Bool) → b ≡ false → (a && b) ≡ false
and_false true b e = e
and_false false b e = refl

-- the first of both
pub and_first : (a b : Bool) → (a && b) ≡ true → a ≡ true
and_first true b e = refl
and_first false b e = absurd (let g : ⊥ = cc in g)

-- the second of both
pub and_second : (a b : Bool) → (a && b) ≡ true → b ≡ true
and_second true b e = e
and_second false b e = absurd (let g : ⊥ = cc in g)

-- nothing is no thing
pub none_some : {X : Type 0} {x : X} → None ≡ Some x → ⊥
none_some p = cc

-- what is active under a parent has an active parent
pub parent_active : (c own : Control) → is_active (under c own) ≡ true → is_active c ≡ true
parent_active Active own e = refl
parent_active Idle own e = e
parent_active Blank own e = e

module _ (f : FlatForm) (r : HasNodeRanks f) (h : History) (i : Instant) (at : Fraction → Table) (flow : Flow f h i at) (s : Fraction) (t : IsMoment s) where
  abbrev W : State
  W = state_in (at s)

  abbrev N : Moment
  N = flow_moment f h i s

  module _ (starts : KeepsStarts f) (of : Use) (apart : NeverAsks of) where
    module _ (n : ℕ) (off : (j : ℕ) → r.rank (AtUsed j) < n → Under f of j → W (AtUsed j) ≡ false) where
      -- a call that stands there isn't evaluated
      call_off : (c : Option ℕ) → ReadsCall (λ a. r.rank a < n) c → CallUnder f of c → is_called W c ≡ false
      call_off None l u = absurd u
      call_off (Some c) l u = off c l u

      -- a use from there asks for nothing
      asks_off : (u : Use) → ReadsUse (λ a. r.rank a < n) (λ a. ⊤) u → UseUnder f of u → asks N W u ≡ false
      asks_off (PartOf whole) l u = off whole l u
      asks_off (BranchOf whole condition side) l u = ap (λ b. b && takes side (W (AtValue condition))) (off whole l.0 u)
      asks_off (DefinerOf call) l u = call_off call l u
      asks_off (SlopeOf call) l u = call_off call l u
      asks_off (EventOf call) l u = call_off call l u
      asks_off (StartOf call b) l u = and_false (is_called W call) (is_fresh N W b) refl
      asks_off (ResetOf call events arm) l u = and_false (is_called W call) _ refl
      asks_off TestOf l u = refl
      asks_off ArgumentOf l u = absurd u
      asks_off AgainOf l u = absurd u

      -- none of some uses does
      any_off : (us : List Use) → AllByRecursion (ReadsUse (λ a. r.rank a < n) (λ a. ⊤)) us → ((u : Use) → Has us u → UseUnder f of u) → list_any (asks N W) us ≡ false
      any_off [] l all = refl
      any_off (u ∷ us) l all =
          let a = asks_off u l.0 (all u (record { index = 0; is = refl })) in
          let b = any_off us l.1 (λ v g. all v (record { index = suc g.index; is = g.is })) in
          ap₂ (λ x y. x || y) a b

      -- nothing asks for it
      asked_off : (call : Option ℕ) (us : List Use) → ReadsAsked (λ a. r.rank a < n) (λ a. ⊤) call us → ((u : Use) → Has us u → UseUnder f of u) → (us ≡ [] → CallUnder f of call) → is_asked N W call us ≡ false
      asked_off call [] l all none = call_off call l (none refl)
      asked_off call (u ∷ us) l all none = any_off (u ∷ us) l all

      -- so it isn't evaluated
      used_off : (k : ℕ) (o : Option Occ) → slice_get f.occs k ≡ o → ReadsUsed f (λ a. r.rank a < n) (λ a. ⊤) k o → Under f of k → used_of f N W k o ≡ false
      used_off k None is l u = refl
      used_off k (Some occ) is l u =
          and_false (is_active (W (AtControl occ.block))) _
          (asked_off occ.call (uses_of f k) l.1 (λ v g. starts.uses of apart k u v (use-of-listed f k v g))
          (λ e. subst (λ c. CallUnder f of c) (ap (λ o. option_and_then (λ (x : Occ). x.call) o) is) (starts.unused of apart k u (none-listed f k e))))

    -- by rank
    off_below : (n k : ℕ) → r.rank (AtUsed k) < n → Under f of k → W (AtUsed k) ≡ false
    unfolding equation
    off_below zero k l u = absurd (omega (arith, l))
    off_below (suc n) k l u =
        each f r h i at flow s t (AtUsed k)
        ∙ used_off (r.rank (AtUsed k)) (λ j low v. off_below n j (omega (arith, l, low)) v) k (slice_get f.occs k) refl (r.lower (AtUsed k)) u

    -- what stands under an `init` value or a reset value isn't evaluated
    isnt_used : (k : ℕ) → Under f of k → W (AtUsed k) ≡ false
    isnt_used k u = off_below (suc (r.rank (AtUsed k))) k (omega arith) u

  -- what is active is hybrid
  module _ (w : IsWellFormed f) (regular : IsRegular f) (main : is_hybrid_block f 0 ≡ true) where
    -- what is idle is never active
    not_idle : (c : Control) → is_active (under c Idle) ≡ true → ⊥
    not_idle Active e = let g : ⊥ = cc in g
    not_idle Idle e = let g : ⊥ = cc in g
    not_idle Blank e = let g : ⊥ = cc in g

    -- an active block is hybrid if its parent is
    by_parent : (b : ℕ) (x : Block) → slice_get f.blocks b ≡ Some x → (q : Option ℕ) → (kind : BlockKind) → IsBlock f b q kind → IsHybridBy f x.hybrid q kind → is_active (under_parent W q (own_control f N W b kind)) ≡ true → ((c : ℕ) → c < b → is_active (W (AtControl c)) ≡ true → is_hybrid_block f c ≡ true) → x.hybrid ≡ true
    by_parent b x is None Main wf hy on lower = sym (ap (λ o. is_hybrid_in o) is) ∙ ap (λ j. is_hybrid_block f j) wf ∙ main
    by_parent b x is None (Arm of arm) wf hy on lower = absurd wf
    by_parent b x is None (Guard of state) wf hy on lower = absurd wf
    by_parent b x is None (Body of state) wf hy on lower = absurd wf
    by_parent b x is None (Reset cond) wf hy on lower = absurd wf
    by_parent b x is (Some c) Main wf hy on lower = absurd wf.1
    by_parent b x is (Some c) (Arm of arm) wf hy on lower = absurd (not_idle (W (AtControl c)) on)
    by_parent b x is (Some c) (Guard of state) wf hy on lower = sym (some-same hy) ∙ lower c wf.0 (parent_active (W (AtControl c)) _ on)
    by_parent b x is (Some c) (Body of state) wf hy on lower = sym (some-same hy) ∙ lower c wf.0 (parent_active (W (AtControl c)) _ on)
    by_parent b x is (Some c) (Reset cond) wf hy on lower = sym (some-same hy) ∙ lower c wf.0 (parent_active (W (AtControl c)) _ on)

    -- of what stands at a number
    by_block : (b : ℕ) (o : Option Block) → slice_get f.blocks b ≡ o → is_active (control_of f N W b o) ≡ true → ((c : ℕ) → c < b → is_active (W (AtControl c)) ≡ true → is_hybrid_block f c ≡ true) → is_hybrid_in o ≡ true
    by_block b None is on lower = absurd (let g : ⊥ = cc in g)
    by_block b (Some x) is on lower = by_parent b x is x.parent x.kind (w.blocks b x is) (regular.blocks b x is) on lower

    -- by number
    hybrid_below : (n b : ℕ) → b < n → is_active (W (AtControl b)) ≡ true → is_hybrid_block f b ≡ true
    unfolding equation
    hybrid_below zero b l on = absurd (omega (arith, l))
    hybrid_below (suc n) b l on =
        by_block b (slice_get f.blocks b) refl (sym (ap (λ c. is_active c) (each f r h i at flow s t (AtControl b))) ∙ on) (λ c low active. hybrid_below n c (omega (arith, l, low)) active)

    -- each active block is hybrid
    pub active_hybrid : (b : ℕ) → is_active (W (AtControl b)) ≡ true → is_hybrid_block f b ≡ true
    active_hybrid b on = hybrid_below (suc b) b (omega arith) on

    -- what is evaluated is so by its equation
    used_is : (k : ℕ) → W (AtUsed k) ≡ true → used_of f N W k (slice_get f.occs k) ≡ true
    unfolding equation
    used_is k e = sym (each f r h i at flow s t (AtUsed k)) ∙ e

    -- what is evaluated stands in an active block
    pub used_active : (k : ℕ) (occ : Occ) → slice_get f.occs k ≡ Some occ → W (AtUsed k) ≡ true → is_active (W (AtControl occ.block)) ≡ true
    used_active k occ is e = and_first (is_active (W (AtControl occ.block))) (is_asked N W occ.call (uses_of f k)) (sym (ap (λ o. used_of f N W k o) is) ∙ used_is k e)

    -- what is evaluated is graded, if it isn't an event
    pub used_graded : KeepsStarts f → (k : ℕ) (occ : Occ) → slice_get f.occs k ≡ Some occ → is_value occ.form ≡ true → W (AtUsed k) ≡ true → IsGraded f k
    used_graded starts k occ is value e = record {
      occ = occ;
      is = is;
      hybrid = active_hybrid occ.block (used_active k occ is e);
      value = value;
      start = λ call b u. true-false e (isnt_used starts (StartOf call b) (ByStart call b) k u);
      reset = λ call events arm u. true-false e (isnt_used starts (ResetOf call events arm) (ByReset call events arm) k u);
    }
