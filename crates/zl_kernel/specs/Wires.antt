-- What the wires of a kernel hold at an instant and in a flow.
use Rattle.std.specs.Prelude.{ℕ, Bool, true, false, not, ◌&&◌, ◌||◌, if◌then◌else◌, List, [], ◌∷◌, slice_get, length, get_or, Option, Some, None}
use Rattle.std.specs.Option.{option_map, option_and_then}
use Rattle.zl_value.specs.Lists.{listed, among}
use Rattle.zl_value.specs.Times.{holds}
use Rattle.zl_value.specs.Operators.{Answer, Gives, Nothing, answered, operate}
use Rattle.zl_value.specs.declared.value.Value.{Value}
use Rattle.zl_value.specs.declared.value.Value.TheVariants.{B}
use Rattle.zl_value.specs.declared.op.Op.{Op}
use Rattle.zl_kernel.specs.KernelForm.{KernelForm}
use Rattle.zl_kernel.specs.FlowWires.{is_of_flows}
use Rattle.zl_kernel.specs.declared.wire.Def.{Def}
use Rattle.zl_kernel.specs.declared.wire.Def.TheVariants.{Lit, Copy, Mem, In, Event, Step, Op as Apply, If}
use Rattle.zl_kernel.specs.declared.wire.Wire.{Wire}

-- what each wire holds, or each memory
abbrev pub Registers : Type 0
Registers = List (Option Value)

abbrev pub held : Registers → ℕ → Option Value
held r n = get_or r n None

-- a step, a left end, or a flow
pub data Mode : Type 0 where
  AtStep AtLeft InFlow : Mode

abbrev pub is_at_step : Mode → Bool
is_at_step AtStep = true
is_at_step AtLeft = false
is_at_step InFlow = false

abbrev pub is_in_flow : Mode → Bool
is_in_flow AtStep = false
is_in_flow AtLeft = false
is_in_flow InFlow = true

-- what the wires read beside each other
pub record Moment : Type 0 where
  pub mode : Mode
  pub inputs : Registers
  pub fired : List ℕ
  pub memories : Registers

-- the wire is solved: in a flow each is
abbrev pub is_solved : KernelForm → Mode → ℕ → Bool
is_solved k mode n = is_in_flow mode || not (is_of_flows k n)

-- a wire without guard, or one whose guard is true
abbrev pub is_open : (ℕ → Option Value) → Option ℕ → Bool
is_open s None = true
is_open s (Some guard) = holds (s guard)

-- a value that is there already
abbrev pub given : Option Value → Answer
given None = Nothing
given (Some v) = Gives v

-- what the side holds that the condition takes
abbrev pub branch : Option Value → Option Value → Option Value → Option Value
branch (Some (B true)) x y = x
branch (Some (B false)) x y = y
branch _ x y = None

-- what these wires hold, if none is empty
abbrev pub gathered : (ℕ → Option Value) → List ℕ → Option (List Value)
gathered s [] = Some []
gathered s (n ∷ ns) = option_and_then (λ v. option_map (λ vs. v ∷ vs) (gathered s ns)) (s n)

abbrev pub applied : Op → Option (List Value) → Answer
applied op None = Nothing
applied op (Some values) = operate op values

-- what is answered to a wire whose guard is true; `s` says what the wires hold
abbrev pub answer : Moment → (ℕ → Option Value) → Def → Answer
answer m s (Lit v) = Gives v
answer m s (Copy n) = given (s n)
answer m s (Mem n) = given (held m.memories n)
answer m s (In n) = given (held m.inputs n)
answer m s (Event site) = Gives (B (is_at_step m.mode && among site m.fired))
answer m s Step = Gives (B (is_at_step m.mode))
answer m s (Apply op ns) = applied op (gathered s ns)
answer m s (If c x y) = given (branch (s c) (s x) (s y))

-- what is answered to wire `n`: nothing where it isn't solved, or its guard isn't true
abbrev pub wire_answer : KernelForm → Moment → (ℕ → Option Value) → ℕ → Wire → Answer
wire_answer k m s n wire = if is_solved k m.mode n && is_open s wire.guard then answer m s wire.def else Nothing

abbrev pub wire_value : KernelForm → Moment → (ℕ → Option Value) → ℕ → Option Wire → Option Value
wire_value k m s n None = None
wire_value k m s n (Some wire) = answered (wire_answer k m s n wire)

-- each wire as its definition says; the wires are solved where this is what they hold already
unfoldable pub turn : KernelForm → Moment → Registers → Registers
turn k m r = listed (length k.wires) 0 (λ n. wire_value k m (held r) n (slice_get k.wires n))
