-- The statements of an order agree in their types.
use Rattle.std.specs.Prelude.{◌≡◌, ℕ, zero, suc, ◌+◌, nat_eq, nat_le, Bool, true, false, if◌then◌else◌, List, [], ◌∷◌, length, get_or, slice_get, map, reverse, Option, Some, None}
use Rattle.std.specs.List.{AllByRecursion}
use Rattle.std.specs.Option.{option_and_then}
use Rattle.std.proofs.Common.{refl, sym, ap, ◌∙◌, arith, subst}
use Rattle.std.proofs.lemmas.List.Elements.{All-from_recursion, recursion_from_All, All-get_or}
use Rattle.std.proofs.lemmas.List.Sorted.{IsPermutation-reverse, All-permutation as permuted}
use Rattle.zl_value.specs.OperatorTypes.{type_of, can_fault}
use Rattle.zl_value.specs.declared.value.Ty.{Ty}
use Rattle.zl_value.specs.declared.value.Ty.TheVariants.{Bool as BoolTy}
use Rattle.zl_value.specs.declared.op.Op.{Op}
use Rattle.zl_kernel.specs.KernelForm.{KernelForm}
use Rattle.zl_kernel.specs.FlowWires.{listed_in}
use Rattle.zl_kernel.specs.WellFormed.{HasWire, HaveWires, HasMemory, HasInput, IsWellFormed, IsWire, IsDef, IsGuard, IsMemory}
use Rattle.zl_kernel.specs.declared.wire.Def.{Def}
use Rattle.zl_kernel.specs.declared.wire.Def.TheVariants as is
use Rattle.zl_kernel.specs.declared.wire.Wire.{Wire}
use Rattle.zl_kernel.specs.declared.memory.KMem.{KMem}
use Rattle.zl_kernel.specs.declared.site.KSite.{KSite}
use Rattle.zl_code.specs.CodeForm.{CodeForm}
use Rattle.zl_code.specs.WellFormed.{Method, AtStep, AtLeft, InFlow, HoldsReg, HoldsMem, HoldsIn, AllHold, IsFaultFor, IsStmt}
use Rattle.zl_code.specs.declared.stmt.Stmt.{Stmt}
use Rattle.zl_code.specs.declared.stmt.Stmt.TheVariants.{Set}
use Rattle.zl_codegen.specs.CodeOf.{memory_of, site_of, code_of}
use Rattle.zl_codegen.specs.Guards.{guard_of, guards_up, cut, chain, close, enter, change}
use Rattle.zl_codegen.specs.Needs.{is_needed_memory, is_taken}
use Rattle.zl_codegen.specs.Statements.{fault_of, define, define_in, body, sets}
use Rattle.zl_codegen.proofs.Listed.{get_from, get_to, within_from}

-- an entry of what is made one by one
pub slice_get-map : {X Y : Type 0} (f : X → Y) (xs : List X) (i : ℕ) (x : X) → slice_get xs i ≡ Some x → slice_get (map f xs) i ≡ Some (f x)
slice_get-map f [] i x is = absurd cc
slice_get-map f (y ∷ xs) zero x is = let e : y ≡ x = cc in ap (λ z. Some (f z)) e
slice_get-map f (y ∷ xs) (suc i) x is = slice_get-map f xs i x is

-- an entry of a list of which something holds throughout
pub entry_has : {X : Type 0} (P : X → Type 0) (xs : List X) (i : ℕ) (x : X) → AllByRecursion P xs → slice_get xs i ≡ Some x → P x
entry_has P xs i x all is = subst P (get_from xs i x x is) (All-get_or P xs i x (within_from xs i x is) (All-from_recursion P xs all))

module _ (k : KernelForm) (list : List ℕ) (well : IsWellFormed k) where
  abbrev pub made : CodeForm
  made = code_of k list

  pub holds_reg : (ty : Ty) (n : ℕ) → HasWire k ty n → HoldsReg made ty n
  holds_reg ty n has = slice_get-map (λ (w : Wire). w.ty) k.wires n has.wire has.is ∙ ap Some has.typed

  holds_mem : (ty : Ty) (n : ℕ) → HasMemory k ty n → HoldsMem made ty n
  holds_mem ty n has = (memory_of has.mem, slice_get-map memory_of k.mems n has.mem has.is, has.typed)

  holds_in : (ty : Ty) (n : ℕ) → HasInput k ty n → HoldsIn made ty n
  holds_in ty n has = (has.input, has.is, has.typed)

  all_hold : (tys : List Ty) (ns : List ℕ) → HaveWires k tys ns → AllHold made tys ns
  all_hold [] [] have = have
  all_hold [] (n ∷ ns) have = have
  all_hold (ty ∷ tys) [] have = have
  all_hold (ty ∷ tys) (n ∷ ns) have = (holds_reg ty n have.0, all_hold tys ns have.1)

  fault_for : (wire : Wire) (op : Op) → IsFaultFor (can_fault op) (fault_of wire op)
  fault_for wire op = by (can_fault op)
    where
      by : (t : Bool) → IsFaultFor t (if t then Some (record { ord = wire.ord; at = wire.at }) else None)
      by true = tt
      by false = tt

  -- the method of a mode knows whether it is that of steps
  abbrev pub stepping : Method → Bool
  stepping AtStep = true
  stepping AtLeft = false
  stepping InFlow = false

  module _ (m : Method) where
    abbrev Are : List Stmt → Type 0
    Are stmts = AllByRecursion (IsStmt made m) stmts

    closed : (guards : List ℕ) (rest : List Stmt) → Are rest → Are (close guards rest)
    closed [] rest are = are
    closed (g ∷ guards) rest are = (tt, (tt, closed guards rest are))

    abbrev IsBool : ℕ → Type 0
    IsBool n = HoldsReg made BoolTy n

    entered : (guards : List ℕ) (rest : List Stmt) → AllByRecursion IsBool guards → Are rest → Are (enter guards rest)
    entered [] rest bools are = are
    entered (g ∷ guards) rest bools are = (bools.0, entered guards rest bools.1 are)

    changed : (now next : List ℕ) (rest : List Stmt) → AllByRecursion IsBool next → Are rest → Are (change now next rest)
    changed [] next rest bools are = entered next rest bools are
    changed (a ∷ now) [] rest bools are = closed (a ∷ now) rest are
    changed (a ∷ now) (b ∷ next) rest bools are = by (nat_eq a b) (changed now next rest bools.1 are) (closed (a ∷ now) (enter (b ∷ next) rest) (entered (b ∷ next) rest bools are))
      where
        by : (t : Bool) → Are (change now next rest) → Are (close (a ∷ now) (enter (b ∷ next) rest)) → Are (if t then change now next rest else close (a ∷ now) (enter (b ∷ next) rest))
        by true p q = p
        by false p q = q

    defined : (n : ℕ) (wire : Wire) (def : Def) (rest : List Stmt) → HoldsReg made wire.ty n → IsDef k wire.ty def → Are rest → Are (define (stepping m) n wire def rest)
    defined n wire (is.Lit v) rest reg ok are = ((wire.ty, reg, ok), are)
    defined n wire (is.Copy j) rest reg ok are = ((wire.ty, reg, holds_reg wire.ty j ok), are)
    defined n wire (is.Mem j) rest reg ok are = ((wire.ty, reg, holds_mem wire.ty j ok), are)
    defined n wire (is.In j) rest reg ok are = ((wire.ty, reg, holds_in wire.ty j ok), are)
    defined n wire (is.Event site) rest reg ok are = by m are
      where
        here : HoldsReg made BoolTy n
        here = reg ∙ ap Some ok.1

        by : (m : Method) → AllByRecursion (IsStmt made m) rest → AllByRecursion (IsStmt made m) (define (stepping m) n wire (is.Event site) rest)
        by AtStep are = let d : KSite = record { value = 0; fresh = 0; slope = 0 } in ((here, site_of (get_or k.sites site d), slice_get-map site_of k.sites site (get_or k.sites site d) (get_to k.sites site d ok.0)), are)
        by AtLeft are = ((BoolTy, here, tt), are)
        by InFlow are = ((BoolTy, here, tt), are)
    defined n wire is.Step rest reg ok are = ((BoolTy, reg ∙ ap Some ok, tt), are)
    defined n wire (is.Op op ns) rest reg ok are = ((reg ∙ ap Some (sym ok.1), all_hold (type_of op).operands ns ok.0, fault_for wire op), are)
    defined n wire (is.If c x y) rest reg ok are = (holds_reg BoolTy c ok.0, ((wire.ty, reg, holds_reg wire.ty x ok.1), (tt, ((wire.ty, reg, holds_reg wire.ty y ok.2), (tt, are)))))

    wire_is : (n : ℕ) (wire : Wire) → slice_get k.wires n ≡ Some wire → IsWire k wire
    wire_is n wire at = entry_has (IsWire k) k.wires n wire well.wires at

    defined_in : (n : ℕ) (wire : Option Wire) (rest : List Stmt) → slice_get k.wires n ≡ wire → Are rest → Are (define_in (stepping m) n wire rest)
    defined_in n None rest at are = are
    defined_in n (Some wire) rest at are = defined n wire wire.def rest (slice_get-map (λ (w : Wire). w.ty) k.wires n wire at) (wire_is n wire at).def are

    -- what guards guard is a bool
    guard_is : (n : ℕ) (wire : Option Wire) → slice_get k.wires n ≡ wire → IsGuard k (option_and_then (λ (w : Wire). w.guard) wire)
    guard_is n None at = tt
    guard_is n (Some wire) at = (wire_is n wire at).guard

    ups_are : (room : ℕ) (guard : Option ℕ) → IsGuard k guard → AllByRecursion IsBool (guards_up k.wires room guard)
    ups_are zero guard ok = tt
    ups_are (suc room) None ok = tt
    ups_are (suc room) (Some g) ok = (holds_reg BoolTy g ok, ups_are room (guard_of k.wires g) (guard_is g (slice_get k.wires g) refl))

    own_is : (guard : Option ℕ) → IsGuard k guard → AllByRecursion IsBool (listed_in guard)
    own_is None ok = tt
    own_is (Some g) ok = (holds_reg BoolTy g ok, tt)

    cut_is : (guards : List ℕ) (own : Option ℕ) → AllByRecursion IsBool guards → AllByRecursion IsBool (listed_in own) → AllByRecursion IsBool (cut guards own)
    cut_is guards own all one = by (nat_le (length guards) 8)
      where
        by : (t : Bool) → AllByRecursion IsBool (if t then reverse guards else listed_in own)
        by true = recursion_from_All IsBool (reverse guards) (permuted IsBool guards (reverse guards) (IsPermutation-reverse guards) (All-from_recursion IsBool guards all))
        by false = one

    chain_is : (n : ℕ) → AllByRecursion IsBool (chain k.wires (guard_of k.wires n))
    chain_is n =
        let ok = guard_is n (slice_get k.wires n) refl in
        cut_is (guards_up k.wires 9 (guard_of k.wires n)) (guard_of k.wires n) (ups_are 9 (guard_of k.wires n) ok) (own_is (guard_of k.wires n) ok)

    pub body_is : (marks out : List Bool) (opened ns : List ℕ) (rest : List Stmt) → Are rest → Are (body k.wires (stepping m) marks out opened ns rest)
    body_is marks out opened [] rest are = closed opened rest are
    body_is marks out opened (n ∷ behind) rest are =
        by (is_taken marks out n)
        (changed opened next _ (chain_is n) (defined_in n (slice_get k.wires n) _ refl (body_is marks out next behind rest are)))
        (body_is marks out opened behind rest are)
      where
        next : List ℕ
        next = chain k.wires (guard_of k.wires n)

        by : (t : Bool) → Are (change opened next (define_in (stepping m) n (slice_get k.wires n) (body k.wires (stepping m) marks out next behind rest))) → Are (body k.wires (stepping m) marks out opened behind rest) → Are (if t then change opened next (define_in (stepping m) n (slice_get k.wires n) (body k.wires (stepping m) marks out next behind rest)) else body k.wires (stepping m) marks out opened behind rest)
        by true p q = p
        by false p q = q

  -- a memory takes a wire of its type
  module _ (m : Method) (sets_is : (mem from : ℕ) (ty : Ty) → HoldsMem made ty mem → HoldsReg made ty from → IsStmt made m (Set mem from)) where
    pub sets_are : (held : List Bool) (n : ℕ) (mems : List KMem) → ((i : ℕ) (mem : KMem) → slice_get mems i ≡ Some mem → slice_get k.mems (n + i) ≡ Some mem) → AllByRecursion (IsMemory k) mems → AllByRecursion (IsStmt made m) (sets held n mems)
    sets_are held n [] at all = tt
    sets_are held n (mem ∷ mems) at all =
        by (is_needed_memory held n mem) (sets_are held (suc n) mems (λ i other is. (let e : suc n + i ≡ n + suc i = omega arith in ap (λ j. slice_get k.mems j) e) ∙ at (suc i) other is) all.1)
      where
        here : HoldsMem made mem.ty n
        here = (memory_of mem, slice_get-map memory_of k.mems n mem ((let e : n ≡ n + 0 = omega arith in ap (λ j. slice_get k.mems j) e) ∙ at 0 mem refl), refl)

        by : (t : Bool) → AllByRecursion (IsStmt made m) (sets held (suc n) mems) → AllByRecursion (IsStmt made m) (if t then Set n mem.next ∷ sets held (suc n) mems else sets held (suc n) mems)
        by true p = (sets_is n mem.next mem.ty here (holds_reg mem.ty mem.next all.0.next), p)
        by false p = p
