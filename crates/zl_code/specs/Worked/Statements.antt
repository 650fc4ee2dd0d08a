-- Short methods, each with what it leaves behind. They pin what the statements do.
use Rattle.std.specs.Prelude.{◌≡◌, ◌∷◌, [], ℕ, true, false, List, pos, Option, Some, None}
use Rattle.zl_value.specs.declared.arith.Arith.TheVariants.{Range, Division}
use Rattle.zl_value.specs.declared.value.Value.{Value}
use Rattle.zl_value.specs.declared.value.Value.TheVariants.{B, I}
use Rattle.zl_value.specs.declared.op.Op.TheVariants.{AddInt, DivInt, Not}
use Rattle.zl_code.specs.declared.stmt.Stmt.{Stmt}
use Rattle.zl_code.specs.declared.stmt.Stmt.TheVariants.{Lit, Get, Mem, In, Event, Op as Apply, Set, If, Else, Fi}
use Rattle.zl_code.specs.Method.{Cells, Given, Doing, method}
use Rattle.zl_code.specs.Worked.{at}

abbrev pub int : ℕ → Option Value
int n = Some (I (pos n))

-- memory 0 holds 1 and memory 1 is empty; input 0 is 2; site 0 fired and site 1 didn't
abbrev pub given : Given
given = record { mems = int 1 ∷ None ∷ []; inputs = int 2 ∷ []; events = true ∷ false ∷ [] }

-- with this many registers, the statements leave this behind
abbrev pub Leaves : ℕ → List Stmt → Doing → Type 0
Leaves count stmts after = method count stmts given ≡ after

-- `mem` reads a memory as it was before, whatever was set, and the last `set` that is run wins
abbrev pub MemoriesAreReadAsBefore : Type 0
MemoriesAreReadAsBefore =
    Leaves 3
    (In 0 0 ∷ Set 0 0 ∷ Mem 1 0 ∷ Lit 2 (I (pos 3)) ∷ Set 0 2 ∷ Set 1 1 ∷ [])
    (record { regs = int 2 ∷ int 1 ∷ int 3 ∷ []; mems = int 3 ∷ int 1 ∷ []; found = None })

-- an empty memory empties the register that reads it, and an empty register empties the memory that it is set to
abbrev pub NothingIsRead : Type 0
NothingIsRead =
    Leaves 2
    (In 0 0 ∷ Mem 0 1 ∷ Get 1 0 ∷ Set 0 1 ∷ [])
    (record { regs = None ∷ None ∷ []; mems = None ∷ None ∷ []; found = None })

-- one part of an `if` is run, with what stands in it; behind an `if` on nothing, neither
abbrev pub OnePartIsRun : Type 0
OnePartIsRun =
    Leaves 5
    (Event 0 0
    ∷ If 0 ∷ Event 1 1 ∷ If 1 ∷ Lit 2 (I (pos 7)) ∷ Else ∷ Lit 2 (I (pos 8)) ∷ Fi ∷ Else ∷ Lit 3 (I (pos 9)) ∷ Fi
    ∷ If 4 ∷ Lit 3 (I (pos 5)) ∷ Else ∷ If 0 ∷ Else ∷ Fi ∷ Lit 3 (I (pos 6)) ∷ Fi
    ∷ [])
    (record { regs = Some (B true) ∷ Some (B false) ∷ int 8 ∷ None ∷ None ∷ []; mems = int 1 ∷ None ∷ []; found = None })

-- the fault of least number is reported, and the first of two with one number; a fault leaves its register empty, the
-- statements behind it are run, and an operator on nothing gives nothing
abbrev pub LeastFaultIsReported : Type 0
LeastFaultIsReported =
    Leaves 3
    (Lit 0 (I (pos 9223372036854775807))
    ∷ Lit 1 (I (pos 0))
    ∷ Lit 2 (B true)
    ∷ Apply 1 DivInt (0 ∷ 1 ∷ []) (Some (record { ord = 5; at = at 1 1 }))
    ∷ Lit 1 (I (pos 1))
    ∷ Apply 1 AddInt (0 ∷ 1 ∷ []) (Some (record { ord = 3; at = at 1 2 }))
    ∷ Lit 1 (I (pos 0))
    ∷ Apply 0 DivInt (0 ∷ 1 ∷ []) (Some (record { ord = 3; at = at 1 3 }))
    ∷ Apply 0 AddInt (0 ∷ 1 ∷ []) (Some (record { ord = 1; at = at 1 4 }))
    ∷ Apply 2 Not (2 ∷ []) None
    ∷ [])
    (record { regs = None ∷ int 0 ∷ Some (B false) ∷ []; mems = int 1 ∷ None ∷ []; found = Some (record { ord = 3; fault = record { kind = Range; at = at 1 2 } }) })

-- what the short methods leave behind
pub record StatementsDo : Type 0 where
  pub memories : MemoriesAreReadAsBefore
  pub nothing : NothingIsRead
  pub parts : OnePartIsRun
  pub faults : LeastFaultIsReported
