-- What instructions do, and when they stand for statements.
use Rattle.std.specs.Prelude.{◌≡◌, ℕ, suc, ◌<◌, ◌≤◌, true, false, List, [], ◌∷◌, get_or, length, slice_get, Option, Some, None}
use Rattle.zl_value.specs.Operators.{operate}
use Rattle.zl_value.specs.declared.value.Value.{Value}
use Rattle.zl_value.specs.declared.value.Value.TheVariants.{B}
use Rattle.zl_value.specs.declared.op.Op.TheVariants.{SubFloat as SubFloatOp, NegFloat as NegFloatOp, EqInt as EqIntOp, Or as OrOp, Not as NotOp}
use Rattle.zl_code.specs.declared.stmt.Stmt.{Stmt}
use Rattle.zl_code.specs.Method.{Cells, cell, Given, Doing, put, keep, answer, applied, Runs, run}
use Rattle.zl_machine.specs.declared.instr.Instr.{Instr}
use Rattle.zl_machine.specs.declared.instr.Instr.TheVariants.{Lit, Get, Mem, In, Event, One, OneFault, Two, TwoFault, SubFloat, NegFloat, EqInt, Or, Not, Set, If, Jump, Choose}

-- what is left to do from a place in the code, which is the number of instructions that are left there
abbrev pub Rest : Type 0
Rest = ℕ → Doing → Doing

-- one of three, by a value: where it is true, false, or neither
abbrev pub by : {X : Type 0} → Option Value → X → X → X → X
by (Some (B true)) x y z = x
by (Some (B false)) x y z = y
by _ x y z = z

-- what an instruction does that goes on with the next one
abbrev pub act : Cells → Given → Instr → Doing → Doing
act lits g (Lit to n) d = put d to (cell lits n)
act lits g (Get to from) d = put d to (cell d.regs from)
act lits g (Mem to m) d = put d to (cell g.mems m)
act lits g (In to i) d = put d to (cell g.inputs i)
act lits g (Event to site) d = put d to (Some (B (get_or g.events site false)))
act lits g (One to op a) d = applied d to (answer d.regs (operate op) (a ∷ [])) None
act lits g (OneFault to op a fault) d = applied d to (answer d.regs (operate op) (a ∷ [])) (Some fault)
act lits g (Two to op a b) d = applied d to (answer d.regs (operate op) (a ∷ b ∷ [])) None
act lits g (TwoFault to op a b fault) d = applied d to (answer d.regs (operate op) (a ∷ b ∷ [])) (Some fault)
act lits g (SubFloat to a b fault) d = applied d to (answer d.regs (operate SubFloatOp) (a ∷ b ∷ [])) (Some fault)
act lits g (NegFloat to a) d = applied d to (answer d.regs (operate NegFloatOp) (a ∷ [])) None
act lits g (EqInt to a b) d = applied d to (answer d.regs (operate EqIntOp) (a ∷ b ∷ [])) None
act lits g (Or to a b) d = applied d to (answer d.regs (operate OrOp) (a ∷ b ∷ [])) None
act lits g (Not to a) d = applied d to (answer d.regs (operate NotOp) (a ∷ [])) None
act lits g (Set m from) d = keep d m (cell d.regs from)
act lits g (Choose to c x y) d = by (cell d.regs c) (put d to (cell d.regs x)) (put d to (cell d.regs y)) d
act lits g _ d = d

-- what is left at an instruction, `k` instructions being left behind it
abbrev pub goes_on : Cells → Given → Instr → Rest → ℕ → Doing → Doing
goes_on lits g (If r other end) rest k d = by (cell d.regs r) (rest k d) (rest other d) (rest end d)
goes_on lits g (Jump to) rest k d = rest to d
goes_on lits g i rest k d = rest k (act lits g i d)

-- an instruction with `k` behind it leads to one of them, and its literal is one of `count`
abbrev pub IsDown : ℕ → ℕ → Instr → Type 0
IsDown count k (If r other end) = (other ≤ k) × (end ≤ k)
IsDown count k (Jump to) = to ≤ k
IsDown count k (Lit to n) = n < count
IsDown count k i = Unit {0}

-- the instructions do, from the last one down, what is left of the statements
pub record Means (code : List Instr) (lits : Cells) (rest : Given → Rest) : Type 0 where
  pub done : (g : Given) (d : Doing) → rest g 0 d ≡ d
  pub each : (k : ℕ) (i : Instr) → slice_get code k ≡ Some i → (g : Given) (d : Doing) → rest g (suc k) d ≡ goes_on lits g i (rest g) k d

-- each instruction leads further down, and its literal is there
pub record GoesDown (code : List Instr) (lits : Cells) : Type 0 where
  pub down : (k : ℕ) (i : Instr) → slice_get code k ≡ Some i → IsDown (length lits) k i

-- what is left to do from place `pc` is all that was to do at first
abbrev pub AsBegun : List Instr → Cells → Given → Doing → ℕ → Doing → Type 0
AsBegun code lits g begun pc d = (rest : Given → Rest) → Means code lits rest → rest g pc d ≡ rest g (length code) begun

-- the instructions made this of registers, memories and fault
abbrev pub Does : List Instr → Cells → Given → Doing → Doing → Type 0
Does code lits g begun d = AsBegun code lits g begun 0 d

-- the instructions do what the statements say
pub record StandsFor (code : List Instr) (lits : Cells) (stmts : List Stmt) : Type 0 where
  pub rest : Given → Rest
  pub means : Means code lits rest
  pub down : GoesDown code lits
  pub whole : (g : Given) (d : Doing) → rest g (length code) d ≡ run g Runs stmts d
