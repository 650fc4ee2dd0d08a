-- Instructions that are made from the last statement back: what they do so far.
use Rattle.std.specs.Prelude.{◌≡◌, ℕ, zero, suc, ◌≤◌, List, [], ◌∷◌, length, reverse}
use Rattle.zl_value.specs.OperatorTypes.{type_of}
use Rattle.zl_code.specs.declared.stmt.Stmt.{Stmt}
use Rattle.zl_code.specs.declared.stmt.Stmt.TheVariants.{Op as Apply}
use Rattle.zl_code.specs.Method.{Cells, Given, Doing, Runs, ToElse, ToFi, run}
use Rattle.zl_machine.specs.declared.instr.Instr.{Instr}
use Rattle.zl_machine.specs.declared.decoding.Frame.{Frame}
use Rattle.zl_machine.specs.declared.decoding.Builder.{Builder}
use Rattle.zl_machine.specs.Instructions.{Rest, goes_on, Means, GoesDown, IsDown}

-- an operator's registers are as many as it has operands
abbrev pub HasOperands : Stmt → Type 0
HasOperands (Apply to op args fault) = length args ≡ length (type_of op).operands
HasOperands stmt = Unit {0}

-- the `n`th `if` that is open, from the innermost; past the outermost, the end of the method closes it
abbrev pub frame_at : List Frame → ℕ → Frame
frame_at [] n = record { end = 0; other = 0 }
frame_at (f ∷ fs) zero = f
frame_at (f ∷ fs) (suc n) = frame_at fs n

-- each open `if` knows where its other part and what follows it begin
pub record AreOpen (rest : Given → Rest) (count : ℕ) (stmts : List Stmt) (frames : List Frame) : Type 0 where
  pub ends : (n : ℕ) → (frame_at frames n).end ≤ count
  pub others : (n : ℕ) → (frame_at frames n).other ≤ count
  pub to_end : (n : ℕ) (g : Given) (d : Doing) → rest g (frame_at frames n).end d ≡ run g (ToFi n) stmts d
  pub to_other : (n : ℕ) (g : Given) (d : Doing) → rest g (frame_at frames n).other d ≡ run g (ToElse n) stmts d

-- from place `next` on, the instructions do what is left of the statements
pub record Built (code : List Instr) (lits : Cells) (stmts : List Stmt) (next : ℕ) (frames : List Frame) : Type 0 where
  pub rest : Given → Rest
  pub means : Means code lits rest
  pub down : GoesDown code lits
  pub low : next ≤ length code
  pub here : (g : Given) (d : Doing) → rest g next d ≡ run g Runs stmts d
  pub opened : AreOpen rest (length code) stmts frames

abbrev pub IsBuilt : Builder → List Stmt → Type 0
IsBuilt b stmts = Built b.code.items b.lits.items stmts b.next (reverse b.frames.items)

-- and the last instruction is what they begin with
abbrev pub IsLinked : Builder → List Stmt → Type 0
IsLinked b stmts = IsBuilt b stmts × (b.next ≡ length b.code.items)

-- an instruction before those of `old` does what `new` says, and an `if` that is passed over passes over both alike
pub record Leads (lits : Cells) (i : Instr) (old new : List Stmt) : Type 0 where
  pub down : (k : ℕ) → IsDown (length lits) k i
  pub to_end : (n : ℕ) (g : Given) (d : Doing) → run g (ToFi n) new d ≡ run g (ToFi n) old d
  pub to_other : (n : ℕ) (g : Given) (d : Doing) → run g (ToElse n) new d ≡ run g (ToElse n) old d
  pub does : (g : Given) (rest : Rest) (k : ℕ) (d : Doing) → ((e : Doing) → rest k e ≡ run g Runs old e) → goes_on lits g i rest k d ≡ run g Runs new d

-- the instruction does what the statement says, whatever follows
abbrev pub DoesAs : Cells → Instr → Stmt → Type 0
DoesAs lits i stmt = (old : List Stmt) → Leads lits i old (stmt ∷ old)
