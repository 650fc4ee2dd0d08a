-- What stands at an instant: for each block, automaton, place and occurrence what it is or has then.
use Rattle.std.specs.Prelude.{ℕ, Bool, true, false, List, [], get_or, Option, None}
use Rattle.zl_value.specs.declared.value.Value.{Value}
use Rattle.zl_meaning.specs.declared.block.AutoMove.{AutoMove}

-- a block is active, or isn't, or has no control because a test that decides it has no value
pub data Control : Type 0 where
  Active Idle Blank : Control

abbrev pub is_active : Control → Bool
is_active Active = true
is_active Idle = false
is_active Blank = false

abbrev pub is_blank : Control → Bool
is_blank Active = false
is_blank Idle = false
is_blank Blank = true

-- the entries of an instant, by number
pub record Table : Type 0 where
  pub controls : List Control
  pub resets : List Bool
  pub later : List Bool
  pub entries : List (Option ℕ)
  pub running : List (Option ℕ)
  pub strong : List (Option AutoMove)
  pub weak : List (Option AutoMove)
  pub places : List (Option Value)
  pub used : List Bool
  pub values : List (Option Value)

-- one entry: a block's control, whether it is reset, and whether it is reset at the end of the step; an automaton's entry
-- state, the state whose body runs, and the transitions that it takes; a place's value; whether an occurrence is
-- evaluated, and the value that its operands give it
pub data Node : Type 0 where
  AtControl AtReset AtLater : ℕ → Node
  AtEntry AtRunning AtStrong AtWeak : ℕ → Node
  AtPlace AtUsed AtValue : ℕ → Node

abbrev pub Entry : Node → Type 0
Entry (AtControl b) = Control
Entry (AtReset b) = Bool
Entry (AtLater b) = Bool
Entry (AtEntry a) = Option ℕ
Entry (AtRunning a) = Option ℕ
Entry (AtStrong a) = Option AutoMove
Entry (AtWeak a) = Option AutoMove
Entry (AtPlace p) = Option Value
Entry (AtUsed k) = Bool
Entry (AtValue k) = Option Value

abbrev pub State : Type 0
State = (a : Node) → Entry a

abbrev pub state_in : Table → State
state_in t (AtControl b) = get_or t.controls b Idle
state_in t (AtReset b) = get_or t.resets b false
state_in t (AtLater b) = get_or t.later b false
state_in t (AtEntry a) = get_or t.entries a None
state_in t (AtRunning a) = get_or t.running a None
state_in t (AtStrong a) = get_or t.strong a None
state_in t (AtWeak a) = get_or t.weak a None
state_in t (AtPlace p) = get_or t.places p None
state_in t (AtUsed k) = get_or t.used k false
state_in t (AtValue k) = get_or t.values k None

abbrev pub empty_table : Table
empty_table = record { controls = []; resets = []; later = []; entries = []; running = []; strong = []; weak = []; places = []; used = []; values = [] }

-- what stands where there is no instant
abbrev pub nothing : State
nothing = state_in empty_table

abbrev pub if_used : Bool → Option Value → Option Value
if_used true v = v
if_used false v = None

-- the value of an occurrence that is evaluated
abbrev pub value_in : State → ℕ → Option Value
value_in s k = if_used (s (AtUsed k)) (s (AtValue k))
