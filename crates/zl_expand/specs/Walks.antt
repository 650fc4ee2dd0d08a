-- Function values that walk expressions and equations, where they stand this deep in other walks and there is room.
use Rattle.std.specs.Prelude.{◌≡◌, ℕ, ◌+◌, List, Result, OnOk, IfOk}
use Rattle.std.specs.declared.alloc.Global.{Global}
use Rattle.std.specs.declared.alloc.AllocError.{AllocError}
use denote.Bor.{Bor}
use denote.Ref.{MutBor}
use Rattle.zl_ast.specs.declared.expr.Expr.{Expr}
use Rattle.zl_ast.specs.declared.eqn.Eqn.{Eqn}
use Rattle.zl_flat.specs.declared.here.Here.{Here}
use Rattle.zl_flat.specs.declared.here.Root.{Root}
use Rattle.zl_expand.specs.declared.instance.Instance.{Instance as TheInstance}
use Rattle.zl_flat.specs.Parts.{Parts, joined}
use Rattle.zl_flat.specs.Expressions.{expr_walk}
use Rattle.zl_flat.specs.Equations.{eqns_walk}
use Rattle.zl_expand.specs.Room.{HasRoom}
use Rattle.zl_expand.specs.Kept.{counters, instance_in, names_in}

pub record Walks (depth : ℕ)
    (expr-pre : Global → Bor TheInstance → Here → ℕ → Bor Expr → MutBor Parts → Type 0)
    (expr-post : Global → Bor TheInstance → Here → ℕ → Bor Expr → MutBor Parts → Result Root AllocError → MutBor Parts → Type 0)
    (eqns-pre : Global → Bor TheInstance → Here → ℕ → Bor (List Eqn) → MutBor Parts → Type 0)
    (eqns-post : Global → Bor TheInstance → Here → ℕ → Bor (List Eqn) → MutBor Parts → Result (Unit {0}) AllocError → MutBor Parts → Type 0) : Type 0 where
  pub expr_callable : (alloc : Global) (i : Bor TheInstance) (here : Here) (e : Bor Expr) (out : MutBor Parts) → HasRoom (depth + 1) i.now.base out.now (expr_walk i.now.base (names_in i.now) (instance_in i.now) e.now here (counters out.now)).parts → expr-pre alloc i here depth e out
  pub expr_made : (alloc : Global) (i : Bor TheInstance) (here : Here) (e : Bor Expr) (out : MutBor Parts) (r : Result Root AllocError) (new : MutBor Parts) → expr-post alloc i here depth e out r new
      → OnOk r (new.now ≡ joined out.now (expr_walk i.now.base (names_in i.now) (instance_in i.now) e.now here (counters out.now)).parts)
  pub expr_root : (alloc : Global) (i : Bor TheInstance) (here : Here) (e : Bor Expr) (out : MutBor Parts) (r : Result Root AllocError) (new : MutBor Parts) → expr-post alloc i here depth e out r new
      → IfOk r (λ x. x ≡ (expr_walk i.now.base (names_in i.now) (instance_in i.now) e.now here (counters out.now)).root)
  pub eqns_callable : (alloc : Global) (i : Bor TheInstance) (here : Here) (qs : Bor (List Eqn)) (out : MutBor Parts) → HasRoom (depth + 2) i.now.base out.now (eqns_walk i.now.base (names_in i.now) (instance_in i.now) qs.now here (counters out.now)) → eqns-pre alloc i here depth qs out
  pub eqns_made : (alloc : Global) (i : Bor TheInstance) (here : Here) (qs : Bor (List Eqn)) (out : MutBor Parts) (r : Result (Unit {0}) AllocError) (new : MutBor Parts) → eqns-post alloc i here depth qs out r new
      → OnOk r (new.now ≡ joined out.now (eqns_walk i.now.base (names_in i.now) (instance_in i.now) qs.now here (counters out.now)))
