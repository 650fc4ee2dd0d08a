-- What a well-formed code gives the machine.
use Rattle.std.specs.Prelude.{◌≡◌, ℕ, suc, List, [], ◌∷◌, length}
use Rattle.std.specs.List.{AllByRecursion}
use Rattle.std.proofs.Common.{refl, ap}
use Rattle.zl_value.specs.declared.value.Ty.{Ty}
use Rattle.zl_code.specs.declared.stmt.Stmt.{Stmt}
use Rattle.zl_code.specs.declared.stmt.Stmt.TheVariants.{Lit, Get, Mem, In, Event, Op as Apply, Set, If, Else, Fi}
use Rattle.zl_code.specs.CodeForm.{CodeForm}
use Rattle.zl_code.specs.WellFormed.{Method, AllHold, IsStmt, IsMethod}
use Rattle.zl_machine.specs.Building.{HasOperands}

all_held : (c : CodeForm) (tys : List Ty) (rs : List ℕ) → AllHold c tys rs → length rs ≡ length tys
all_held c [] [] h = refl
all_held c (t ∷ ts) (r ∷ rs) h = ap suc (all_held c ts rs h.1)
all_held c [] (r ∷ rs) h = absurd h
all_held c (t ∷ ts) [] h = absurd h

has_operands : (c : CodeForm) (m : Method) (s : Stmt) → IsStmt c m s → HasOperands s
has_operands c m (Lit to value) h = tt
has_operands c m (Get to from) h = tt
has_operands c m (Mem to mem) h = tt
has_operands c m (In to input) h = tt
has_operands c m (Event to site) h = tt
has_operands c m (Apply to op args fault) h = all_held c _ args h.1
has_operands c m (Set mem from) h = tt
has_operands c m (If r) h = tt
has_operands c m Else h = tt
has_operands c m Fi h = tt

-- the statements of a method have as many registers as their operators take
all_operands : (c : CodeForm) (m : Method) (ss : List Stmt) → AllByRecursion (IsStmt c m) ss → AllByRecursion HasOperands ss
all_operands c m [] h = tt
all_operands c m (s ∷ ss) h = (has_operands c m s h.0, all_operands c m ss h.1)

pub method_operands : {c : CodeForm} {m : Method} {ss : List Stmt} → IsMethod c m ss → AllByRecursion HasOperands ss
method_operands {c} {m} {ss} h = all_operands c m ss h.each
