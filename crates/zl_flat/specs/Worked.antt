-- Worked programs and their flat forms.
use Rattle.std.specs.Prelude.{ℕ, pos, negsuc, true, List, [], ◌∷◌, Some, None, codes}
use Rattle.zl_value.specs.Fraction.{whole}
use Rattle.zl_value.specs.declared.value.Ty.TheVariants.{Bool as BoolTy, Float, Zero}
use Rattle.zl_value.specs.declared.value.Value.TheVariants.{F}
use Rattle.zl_value.specs.declared.op.Op.TheVariants.{NegFloat}
use Rattle.zl_ast.specs.declared.name.Name.{Name}
use Rattle.zl_ast.specs.declared.operator.Prefix.TheVariants as prefix
use Rattle.zl_ast.specs.declared.expr.Expr.{Expr}
use Rattle.zl_ast.specs.declared.expr.Expr.TheVariants as tree
use Rattle.zl_ast.specs.declared.eqn.Eqn.{Eqn}
use Rattle.zl_ast.specs.declared.eqn.Eqn.TheVariants as eqn
use Rattle.zl_ast.specs.declared.eqn.ResetArm.{ResetArm}
use Rattle.zl_ast.specs.declared.program.Decl.{Decl}
use Rattle.zl_ast.specs.declared.program.DeclKind.TheVariants as kind
use Rattle.zl_ast.specs.declared.program.Program.{Program}
use Rattle.zl_ast.specs.declared.scope.VarInfo.{VarInfo}
use Rattle.zl_ast.specs.declared.scope.VarClass.{VarClass}
use Rattle.zl_ast.specs.declared.scope.VarClass.TheVariants.{Param, Top}
use Rattle.zl_meaning.specs.FlatForm.{FlatForm}
use Rattle.zl_meaning.specs.Worked.{at, block, place, occ, site}
use Rattle.zl_meaning.specs.declared.block.BlockKind.TheVariants.{Main}
use Rattle.zl_meaning.specs.declared.place.Definer.TheVariants.{Plain, Der, Start}
use Rattle.zl_meaning.specs.declared.occurrence.Form.TheVariants.{Lit, Read, Op as Apply, Result, Up, Fired}
use Rattle.zl_flat.specs.Flat.{IsFlatOf}

abbrev pub name : ℕ → ℕ → ℕ → Name
name id line column = record { id = id; at = at line column }

abbrev pub variable : ℕ → ℕ → ℕ → VarClass → VarInfo
variable id line column class = record { name = id; at = at line column; class = class }

abbrev pub float : ℕ → ℕ → ℕ → Expr
float n line column = tree.Lit (F (whole (pos n))) (at line column)

-- ---- a variable that is reset

-- let hybrid main() = x where rec der x = -1.0 init 1.0 reset up(-. x) -> 1.0
abbrev pub falling_resets : List ResetArm
falling_resets = record { event = record { at = at 1 61; arg = tree.Prefix prefix.MinusDot (at 1 64) (tree.Var (name 1 1 67)) } ∷ []; value = float 1 1 73 } ∷ []

abbrev pub falls : Eqn
falls = eqn.Der (at 1 33) (name 1 1 37) (tree.Lit (F (whole (negsuc 0))) (at 1 41)) (Some (float 1 1 51)) falling_resets

abbrev pub falling_main : Decl
falling_main = record { kind = kind.Hybrid; name = name 0 1 12; params = []; results = tree.Var (name 1 1 21) ∷ []; eqs = falls ∷ [] }

abbrev pub falling : Program
falling = record { decls = falling_main ∷ []; names = codes "main" ∷ codes "x" ∷ [] }

-- the event of the reset is hidden: it is numbered behind the occurrences that have a token
abbrev pub falling_form : FlatForm
falling_form = record {
  blocks = block None Main true ∷ [];
  places = place 0 None Float 1 (at 1 37) (Der 0 1 (record { event = 7; value = 6 } ∷ []) ∷ Start 0 2 ∷ []) ∷ [];
  occs =
      occ 0 None Float (at 1 21) (Read 0)
      ∷ occ 0 None Float (at 1 41) (Lit (F (whole (negsuc 0))))
      ∷ occ 0 None Float (at 1 51) (Lit (F (whole (pos 1))))
      ∷ occ 0 None Zero (at 1 61) (Up 0)
      ∷ occ 0 None Float (at 1 64) (Apply NegFloat (5 ∷ []))
      ∷ occ 0 None Float (at 1 67) (Read 0)
      ∷ occ 0 None Float (at 1 73) (Lit (F (whole (pos 1))))
      ∷ occ 0 None BoolTy (at 1 61) (Fired (3 ∷ []))
      ∷ [];
  sites = site 0 4 (at 1 61) ∷ [];
  choices = [];
  automata = [];
  again = [];
  ins = [];
  outs = 0 ∷ [];
}

abbrev pub FallingExpands : Type 0
FallingExpands = IsFlatOf falling ((variable 1 1 37 Top ∷ []) ∷ []) ((Float ∷ []) ∷ []) falling_form

-- ---- a call

-- let hybrid ramp(a) = x where rec der x = a init 0.0
abbrev pub rises : Eqn
rises = eqn.Der (at 1 34) (name 2 1 38) (tree.Var (name 1 1 42)) (Some (float 0 1 49)) []

abbrev pub ramp : Decl
ramp = record { kind = kind.Hybrid; name = name 0 1 12; params = record { name = name 1 1 17; ty = None } ∷ []; results = tree.Var (name 2 1 22) ∷ []; eqs = rises ∷ [] }

-- let hybrid main() = y where rec y = ramp(2.0)
abbrev pub calls : Eqn
calls = eqn.Plain (name 4 2 33 ∷ []) (tree.Call (name 0 2 37) (float 2 2 42 ∷ []))

abbrev pub calling_main : Decl
calling_main = record { kind = kind.Hybrid; name = name 3 2 12; params = []; results = tree.Var (name 4 2 21) ∷ []; eqs = calls ∷ [] }

abbrev pub calling : Program
calling = record { decls = ramp ∷ calling_main ∷ []; names = codes "ramp" ∷ codes "a" ∷ codes "x" ∷ codes "main" ∷ codes "y" ∷ [] }

-- the argument and the copy of the called body stand in the call, and the parameter is defined by the argument
abbrev pub calling_form : FlatForm
calling_form = record {
  blocks = block None Main true ∷ [];
  places =
      place 0 None Float 4 (at 2 33) (Plain 0 1 ∷ [])
      ∷ place 0 (Some 1) Float 1 (at 1 17) (Plain 0 2 ∷ [])
      ∷ place 0 (Some 1) Float 2 (at 1 38) (Der 0 4 [] ∷ Start 0 5 ∷ [])
      ∷ [];
  occs =
      occ 0 None Float (at 2 21) (Read 0)
      ∷ occ 0 None Float (at 2 37) (Result 3)
      ∷ occ 0 (Some 1) Float (at 2 42) (Lit (F (whole (pos 2))))
      ∷ occ 0 (Some 1) Float (at 1 22) (Read 2)
      ∷ occ 0 (Some 1) Float (at 1 42) (Read 1)
      ∷ occ 0 (Some 1) Float (at 1 49) (Lit (F (whole (pos 0))))
      ∷ [];
  sites = [];
  choices = [];
  automata = [];
  again = [];
  ins = [];
  outs = 0 ∷ [];
}

abbrev pub CallingExpands : Type 0
CallingExpands =
    IsFlatOf calling
    ((variable 1 1 17 Param ∷ variable 2 1 38 Top ∷ []) ∷ (variable 4 2 33 Top ∷ []) ∷ [])
    ((Float ∷ Float ∷ []) ∷ (Float ∷ []) ∷ [])
    calling_form
