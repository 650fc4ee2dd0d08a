-- The code of an order keeps what codes keep.
use Rattle.std.specs.Prelude.{◌≡◌, ℕ, suc, ◌<◌, ◌≤◌, ◌+◌, true, false, List, [], ◌∷◌, length, get_or, slice_get, map, Option, Some, None}
use Rattle.std.specs.List.{AllByRecursion}
use Rattle.std.proofs.Common.{refl, sym, ap, ap₂, ◌∙◌, arith, subst}
use Rattle.zl_value.specs.Widths.{nowhere}
use Rattle.zl_value.specs.declared.value.Ty.{Ty}
use Rattle.zl_value.specs.declared.value.Ty.TheVariants.{Bool as BoolTy, Float, Zero}
use Rattle.zl_value.specs.declared.value.Value.{Value}
use Rattle.zl_value.specs.declared.script.Input.{Input}
use Rattle.zl_value.specs.declared.script.Output.{Output}
use Rattle.zl_kernel.specs.KernelForm.{KernelForm}
use Rattle.zl_kernel.specs.WellFormed.{IsWellFormed, IsWire, IsMemory, IsSite, IsInput, IsOutput, IsSlope, IsStart, AreDifferent}
use Rattle.zl_kernel.specs.Wires as mode
use Rattle.zl_kernel.specs.declared.wire.Def.TheVariants.{Step}
use Rattle.zl_kernel.specs.declared.wire.Wire.{Wire}
use Rattle.zl_kernel.specs.declared.memory.KMem.{KMem}
use Rattle.zl_kernel.specs.declared.site.KSite.{KSite}
use Rattle.zl_code.specs.declared.stmt.Stmt.{Stmt}
use Rattle.zl_code.specs.declared.code.CMem.{CMem}
use Rattle.zl_code.specs.declared.code.CSite.{CSite}
use Rattle.zl_code.specs.CodeForm.{CodeForm}
use Rattle.zl_code.specs.WellFormed.{AtStep, AtLeft, InFlow, AreNamedOnce, IsCode, IsMethod, IsStmt, IsMem as IsCodeMem, IsSite as IsCodeSite, IsInput as IsCodeInput, IsOutput as IsCodeOutput, IsSlope as IsCodeSlope, IsStart as IsCodeStart}
use Rattle.zl_codegen.specs.Counts.{AreCounted}
use Rattle.zl_codegen.specs.CodeOf.{memory_of, position_of, site_of, sets_of, code_of, method_of}
use Rattle.zl_codegen.specs.Needs.{held_memories, needs, left_out}
use Rattle.zl_codegen.proofs.Listed.{get_to}
use Rattle.zl_codegen.proofs.Nested.{body_nested, sets_nested}
use Rattle.zl_codegen.proofs.Typed.{slice_get-map, holds_reg, body_is, sets_are}

-- what is made one by one keeps what its parts keep
mapped : {X Y : Type 0} (P : X → Type 0) (Q : Y → Type 0) (f : X → Y) → ((x : X) → P x → Q (f x)) → (xs : List X) → AllByRecursion P xs → AllByRecursion Q (map f xs)
mapped P Q f keeps [] all = tt
mapped P Q f keeps (x ∷ xs) all = (keeps x all.0, mapped P Q f keeps xs all.1)

each : {X : Type 0} (P Q : X → Type 0) → ((x : X) → P x → Q x) → (xs : List X) → AllByRecursion P xs → AllByRecursion Q xs
each P Q keeps [] all = tt
each P Q keeps (x ∷ xs) all = (keeps x all.0, each P Q keeps xs all.1)

length-mapped : {X Y : Type 0} (f : X → Y) (xs : List X) → length (map f xs) ≡ length xs
length-mapped f [] = refl
length-mapped f (x ∷ xs) = ap suc (length-mapped f xs)

named : (ins : List Input) → AreDifferent ins → AreNamedOnce ins
named [] all = tt
named (i ∷ ins) all = (all.0, named ins all.1)

started : (ty : Ty) (start : Option Value) → IsStart ty start → IsCodeStart ty start
started ty None ok = tt
started ty (Some v) ok = ok

module _ (k : KernelForm) (list : List ℕ) (well : IsWellFormed k) (counted : AreCounted k) where
  abbrev made : CodeForm
  made = code_of k list

  sloped : (mem : KMem) (slope : Option ℕ) → mem.slope ≡ slope → IsSlope k mem.ty slope → IsCodeSlope made (memory_of mem) slope
  sloped mem None is ok = ap (λ s. position_of mem.at s) is
  sloped mem (Some r) is ok = (ok.0, holds_reg k list well Float r ok.1)

  mem_is : (mem : KMem) → IsMemory k mem → IsCodeMem made (memory_of mem)
  mem_is mem ok = record { ty = ok.value; start = started mem.ty mem.start ok.start; slope = sloped mem mem.slope refl ok.slope }

  site_is : (site : KSite) → IsSite k site → IsCodeSite made (site_of site)
  site_is site ok = record { value = holds_reg k list well Float site.value ok.value; fresh = holds_reg k list well BoolTy site.fresh ok.fresh; slope = holds_reg k list well Float site.slope ok.slope }

  output_is : (out : Output) → IsOutput k out → IsCodeOutput made out
  output_is out ok =
      let d : Wire = record { ty = BoolTy; def = Step; guard = None; slope = None; ord = 0; at = nowhere } in
      record { ty = (get_or k.wires out.«from» d).ty; «from» = slice_get-map (λ (w : Wire). w.ty) k.wires out.«from» (get_or k.wires out.«from» d) (get_to k.wires out.«from» d ok.wire); name = ok.name }

  some_out : k.outs ≡ [] → ⊥
  some_out none = let few : 0 < length k.outs = well.some in let e : length k.outs ≡ 0 = ap (λ (os : List Output). length os) none in absurd (omega arith)

  step_sets : AllByRecursion (IsStmt made AtStep) (sets_of k)
  step_sets = sets_are k list well AtStep (λ mem of ty m r. (ty, m, r)) (held_memories k) 0 k.mems (λ i mem is. (let e : 0 + i ≡ i = omega arith in ap (λ j. slice_get k.mems j) e) ∙ is) well.mems

  left_sets : AllByRecursion (IsStmt made AtLeft) (sets_of k)
  left_sets = sets_are k list well AtLeft (λ mem of ty m r. (ty, m, r)) (held_memories k) 0 k.mems (λ i mem is. (let e : 0 + i ≡ i = omega arith in ap (λ j. slice_get k.mems j) e) ∙ is) well.mems

  step_is : IsMethod made AtStep (method_of k mode.AtStep list (sets_of k))
  step_is = record {
    each = body_is k list well AtStep (needs k mode.AtStep list) (left_out k mode.AtStep) [] list (sets_of k) step_sets;
    nested = body_nested k.wires true (needs k mode.AtStep list) (left_out k mode.AtStep) [] list (sets_of k) ∙ sets_nested (held_memories k) 0 k.mems;
  }

  left_is : IsMethod made AtLeft (method_of k mode.AtLeft list (sets_of k))
  left_is = record {
    each = body_is k list well AtLeft (needs k mode.AtLeft list) (left_out k mode.AtLeft) [] list (sets_of k) left_sets;
    nested = body_nested k.wires false (needs k mode.AtLeft list) (left_out k mode.AtLeft) [] list (sets_of k) ∙ sets_nested (held_memories k) 0 k.mems;
  }

  flow_is : IsMethod made InFlow (method_of k mode.InFlow list [])
  flow_is = record {
    each = body_is k list well InFlow (needs k mode.InFlow list) (left_out k mode.InFlow) [] list [] tt;
    nested = body_nested k.wires false (needs k mode.InFlow list) (left_out k mode.InFlow) [] list [];
  }

  pub code_is : IsCode (code_of k list)
  code_is = record {
    counts = record {
      regs = subst (λ n. n ≤ 4294967296) (sym (length-mapped (λ (w : Wire). w.ty) k.wires)) counted.wires;
      mems = subst (λ n. n ≤ 4294967296) (sym (length-mapped memory_of k.mems)) counted.mems;
      ins = counted.ins;
      sites = subst (λ n. n ≤ 4294967296) (sym (length-mapped site_of k.sites)) counted.sites;
    };
    regs = mapped (IsWire k) (λ (ty : Ty). ty ≡ Zero → ⊥) (λ (w : Wire). w.ty) (λ w ok. ok.value) k.wires well.wires;
    mems = mapped (IsMemory k) (IsCodeMem made) memory_of mem_is k.mems well.mems;
    ins = each IsInput IsCodeInput (λ i ok. record { ty = ok.value; name = ok.name }) k.ins well.ins;
    names = named k.ins well.names;
    some_out = some_out;
    outs = each (IsOutput k) (IsCodeOutput made) output_is k.outs well.outs;
    sites = mapped (IsSite k) (IsCodeSite made) site_of site_is k.sites well.sites;
    again = holds_reg k list well BoolTy k.again well.again;
    step = step_is;
    left = left_is;
    flow = flow_is;
  }

-- a code by its parts
pub same_code : (k : KernelForm) (list : List ℕ) (regs : List Ty) (mems : List CMem) (ins : List Input) (outs : List Output) (sites : List CSite) (again : ℕ) (step left flow : List Stmt) → regs ≡ (code_of k list).regs → mems ≡ (code_of k list).mems → ins ≡ k.ins → outs ≡ k.outs → sites ≡ (code_of k list).sites → again ≡ k.again → step ≡ (code_of k list).step → left ≡ (code_of k list).left → flow ≡ (code_of k list).flow → ◌≡◌ {A = CodeForm} (record { regs = regs; mems = mems; ins = ins; outs = outs; sites = sites; again = again; step = step; left = left; flow = flow }) (code_of k list)
same_code k list regs mems ins outs sites again step left flow r m i o s a x y z =
    ap₂ (λ (rs : List Ty) (ms : List CMem). record { regs = rs; mems = ms; ins = ins; outs = outs; sites = sites; again = again; step = step; left = left; flow = flow }) r m
    ∙ ap₂ (λ (is : List Input) (os : List Output). record { regs = (code_of k list).regs; mems = (code_of k list).mems; ins = is; outs = os; sites = sites; again = again; step = step; left = left; flow = flow }) i o
    ∙ ap₂ (λ (ss : List CSite) (n : ℕ). record { regs = (code_of k list).regs; mems = (code_of k list).mems; ins = k.ins; outs = k.outs; sites = ss; again = n; step = step; left = left; flow = flow }) s a
    ∙ ap₂ (λ (p : List Stmt) (q : List Stmt). record { regs = (code_of k list).regs; mems = (code_of k list).mems; ins = k.ins; outs = k.outs; sites = (code_of k list).sites; again = k.again; step = p; left = q; flow = flow }) x y
    ∙ ap (λ (p : List Stmt). record { regs = (code_of k list).regs; mems = (code_of k list).mems; ins = k.ins; outs = k.outs; sites = (code_of k list).sites; again = k.again; step = (code_of k list).step; left = (code_of k list).left; flow = p }) z
