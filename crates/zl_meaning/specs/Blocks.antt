-- The blocks at a moment: which are active, and which are reset.
use Rattle.std.specs.Prelude.{ℕ, nat_eq, Bool, false, not, ◌&&◌, ◌||◌, if◌then◌else◌, slice_get, Option, Some, None}
use Rattle.zl_value.specs.Times.{holds}
use Rattle.zl_value.specs.declared.value.Value.{Value}
use Rattle.zl_meaning.specs.FlatForm.{FlatForm}
use Rattle.zl_meaning.specs.State.{Control, Active, Idle, Blank, State, AtControl, AtReset, AtLater, AtEntry, AtRunning, AtStrong, AtWeak, AtValue, is_active}
use Rattle.zl_meaning.specs.Moment.{Mode, AtStep, AtLeft, InFlow, Moment, is_at_step, is_in_flow, is_fresh, decide}
use Rattle.zl_meaning.specs.declared.block.Block.{Block}
use Rattle.zl_meaning.specs.declared.block.BlockKind.{BlockKind}
use Rattle.zl_meaning.specs.declared.block.BlockKind.TheVariants.{Main, Arm, Guard, State as Body, Reset}
use Rattle.zl_meaning.specs.declared.block.Choice.{Choice}
use Rattle.zl_meaning.specs.declared.block.AutoMove.{AutoMove}

-- a body among several, one of which is chosen: all are blank where that isn't decided
abbrev pub chosen : ℕ → Option ℕ → Control
chosen n None = Blank
chosen n (Some d) = if nat_eq d n then Active else Idle

-- the arm whose test is the first that isn't false, at a step; the `else` body is numbered behind the last arm
abbrev pub arm_control : State → Mode → ℕ → Option Choice → Control
arm_control s AtStep arm None = Idle
arm_control s AtStep arm (Some choice) = chosen arm (decide s choice.conds)
arm_control s AtLeft arm choice = Idle
arm_control s InFlow arm choice = Idle

-- the body of a `reset` is active; at a step at which its test has no value it is blank, and in the flow after that step
abbrev pub if_value : Option Value → Control
if_value None = Blank
if_value (Some v) = Active

abbrev pub reset_control : Moment → State → Mode → ℕ → ℕ → Control
reset_control m s AtStep b cond = if_value (s (AtValue cond))
reset_control m s AtLeft b cond = Active
reset_control m s InFlow b cond = m.start (AtControl b)

-- the control that a block has under an active parent
abbrev pub own_control : FlatForm → Moment → State → ℕ → BlockKind → Control
own_control f m s b Main = Active
own_control f m s b (Arm of arm) = arm_control s m.mode arm (slice_get f.choices of)
own_control f m s b (Guard of state) = chosen state (s (AtEntry of))
own_control f m s b (Body of state) = chosen state (s (AtRunning of))
own_control f m s b (Reset cond) = reset_control m s m.mode b cond

-- under an idle parent a block is idle, under a blank one blank
abbrev pub under : Control → Control → Control
under Active own = own
under Idle own = Idle
under Blank own = Blank

abbrev pub under_parent : State → Option ℕ → Control → Control
under_parent s None own = own
under_parent s (Some parent) own = under (s (AtControl parent)) own

abbrev pub control_of : FlatForm → Moment → State → ℕ → Option Block → Control
control_of f m s b None = Idle
control_of f m s b (Some block) = under_parent s block.parent (own_control f m s b block.kind)

-- the transition leads to this state by `then`
abbrev pub restarts : ℕ → Option AutoMove → Bool
restarts state None = false
restarts state (Some move) = move.reset && nat_eq move.target state

-- state number `state` of automaton `of`, which stands in block `parent`, is entered by a weak `then` of the automaton's
-- last active instant
abbrev pub is_entered : Moment → State → ℕ → ℕ → ℕ → Bool
is_entered m s parent of state = not (is_in_flow m.mode) && (not (is_fresh m s parent) && restarts state (m.before (AtWeak of)))

-- the block is reset by itself: a guard and a body by the weak transition that enters the state, a body also by a strong
-- one at its own step, a `reset` body where its test holds at a step
abbrev pub own_reset : Moment → State → ℕ → BlockKind → Bool
own_reset m s parent Main = false
own_reset m s parent (Arm of arm) = false
own_reset m s parent (Guard of state) = is_entered m s parent of state
own_reset m s parent (Body of state) = is_entered m s parent of state || restarts state (s (AtStrong of))
own_reset m s parent (Reset cond) = is_at_step m.mode && holds (s (AtValue cond))

-- a block is reset where its parent is, or by itself under an active parent
abbrev pub reset_under : Moment → State → Option ℕ → BlockKind → Bool
reset_under m s None kind = false
reset_under m s (Some parent) kind = s (AtReset parent) || (is_active (s (AtControl parent)) && own_reset m s parent kind)

abbrev pub reset_of : Moment → State → Option Block → Bool
reset_of m s None = false
reset_of m s (Some block) = reset_under m s block.parent block.kind

-- the reset that a strong transition by `then` makes at the end of its step: that of its target's guard, whose test took
-- it, and of the blocks inside
abbrev pub own_later : State → BlockKind → Bool
own_later s (Guard of state) = restarts state (s (AtStrong of))
own_later s Main = false
own_later s (Arm of arm) = false
own_later s (Body of state) = false
own_later s (Reset cond) = false

abbrev pub later_under : State → Option ℕ → BlockKind → Bool
later_under s None kind = false
later_under s (Some parent) kind = s (AtLater parent) || (is_active (s (AtControl parent)) && own_later s kind)

abbrev pub later_of : State → Option Block → Bool
later_of s None = false
later_of s (Some block) = later_under s block.parent block.kind
