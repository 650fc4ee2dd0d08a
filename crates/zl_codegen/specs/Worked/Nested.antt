-- Guards of guards: what is open for one wire stays open for the next, a part of its chain is closed, and the other part opened.
use Rattle.std.specs.Prelude.{◌≡◌, ◌∷◌, [], true, false, List, replicate, Some, None}
use Rattle.zl_value.specs.declared.value.Value.TheVariants.{B}
use Rattle.zl_value.specs.declared.value.Ty.TheVariants.{Bool as BoolTy}
use Rattle.zl_kernel.specs.Worked.{wire}
use Rattle.zl_kernel.specs.declared.wire.Def.TheVariants as is
use Rattle.zl_kernel.specs.declared.wire.Wire.{Wire}
use Rattle.zl_code.specs.declared.stmt.Stmt.{Stmt}
use Rattle.zl_code.specs.declared.stmt.Stmt.TheVariants.{Lit, Get, If, Else, Fi}
use Rattle.zl_codegen.specs.Guards.{chain}
use Rattle.zl_codegen.specs.Statements.{body}

-- wire 2 stands under 0, wires 3 and 4 under 2, wire 5 under 1
abbrev pub wires : List Wire
wires = wire BoolTy (is.Lit (B true)) None ∷ wire BoolTy (is.Lit (B false)) None ∷ wire BoolTy (is.Copy 1) (Some 0) ∷ wire BoolTy (is.Copy 1) (Some 2) ∷ wire BoolTy (is.Copy 3) (Some 2) ∷ wire BoolTy (is.Copy 1) (Some 1) ∷ []

abbrev pub stmts : List Stmt
stmts =
    Lit 0 (B true)
    ∷ Lit 1 (B false)
    ∷ If 0
    ∷ Get 2 1
    ∷ If 2
    ∷ Get 3 1
    ∷ Get 4 3
    ∷ Else
    ∷ Fi
    ∷ Else
    ∷ Fi
    ∷ If 1
    ∷ Get 5 1
    ∷ Else
    ∷ Fi
    ∷ []

-- each is the guard of the next one: a wire under the last would stand under nine, of which the innermost alone is left
abbrev pub steps : List Wire
steps =
    wire BoolTy is.Step None
    ∷ wire BoolTy is.Step (Some 0)
    ∷ wire BoolTy is.Step (Some 1)
    ∷ wire BoolTy is.Step (Some 2)
    ∷ wire BoolTy is.Step (Some 3)
    ∷ wire BoolTy is.Step (Some 4)
    ∷ wire BoolTy is.Step (Some 5)
    ∷ wire BoolTy is.Step (Some 6)
    ∷ wire BoolTy is.Step (Some 7)
    ∷ []

pub record AreNested : Type 0 where
  pub body : body wires true (replicate 6 true) [] [] (0 ∷ 1 ∷ 2 ∷ 3 ∷ 4 ∷ 5 ∷ []) [] ≡ stmts
  pub eight : chain steps (Some 7) ≡ 0 ∷ 1 ∷ 2 ∷ 3 ∷ 4 ∷ 5 ∷ 6 ∷ 7 ∷ []
  pub nine : chain steps (Some 8) ≡ 8 ∷ []
