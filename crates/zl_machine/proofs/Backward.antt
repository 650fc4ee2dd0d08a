-- An `if` as one of three, and the choice between two registers.
use Rattle.std.specs.Prelude.{◌≡◌, ℕ, true, false, List, ◌∷◌, Option, Some, None}
use Rattle.std.proofs.Common.{refl}
use Rattle.zl_value.specs.declared.value.Value.{Value}
use Rattle.zl_value.specs.declared.value.Value.TheVariants.{B, I, F}
use Rattle.zl_code.specs.declared.stmt.Stmt.{Stmt}
use Rattle.zl_code.specs.declared.stmt.Stmt.TheVariants.{Get, If, Else, Fi}
use Rattle.zl_code.specs.Method.{cell, Given, Doing, put, choose, Runs, ToElse, ToFi, run}
use Rattle.zl_machine.specs.Instructions.{by}

chosen : (g : Given) (v : Option Value) (rest : List Stmt) (d : Doing) → run g (choose v) rest d ≡ by v (run g Runs rest d) (run g (ToElse 0) rest d) (run g (ToFi 0) rest d)
chosen g None rest d = refl
chosen g (Some (B true)) rest d = refl
chosen g (Some (B false)) rest d = refl
chosen g (Some (I n)) rest d = refl
chosen g (Some (F f)) rest d = refl

-- an `if` is an instruction with three places
pub if_runs : (g : Given) (r : ℕ) (rest : List Stmt) (d : Doing) → run g Runs (If r ∷ rest) d ≡ by (cell d.regs r) (run g Runs rest d) (run g (ToElse 0) rest d) (run g (ToFi 0) rest d)
if_runs g r rest d = chosen g (cell d.regs r) rest d

-- the fused choice
fused : (g : Given) (v : Option Value) (to x y : ℕ) (rest : List Stmt) (d : Doing) → run g (choose v) (Get to x ∷ Else ∷ Get to y ∷ Fi ∷ rest) d ≡ run g Runs rest (by v (put d to (cell d.regs x)) (put d to (cell d.regs y)) d)
fused g None to x y rest d = refl
fused g (Some (B true)) to x y rest d = refl
fused g (Some (B false)) to x y rest d = refl
fused g (Some (I n)) to x y rest d = refl
fused g (Some (F f)) to x y rest d = refl

pub choice_runs : (g : Given) (c to x y : ℕ) (rest : List Stmt) (d : Doing) → run g Runs (If c ∷ Get to x ∷ Else ∷ Get to y ∷ Fi ∷ rest) d ≡ run g Runs rest (by (cell d.regs c) (put d to (cell d.regs x)) (put d to (cell d.regs y)) d)
choice_runs g c to x y rest d = fused g (cell d.regs c) to x y rest d
