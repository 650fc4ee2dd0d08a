-- After a method stands what stands in the kernel: in the registers of the wires that it needs, and in the memories that it sets.
use Rattle.std.specs.Prelude.{◌≡◌, ℕ, zero, suc, ◌<◌, ◌+◌, Bool, true, false, not, ◌&&◌, if◌then◌else◌, List, [], ◌∷◌, length, slice_get, Some, None}
use Rattle.std.proofs.Common.{refl, sym, ap, ap₂, ◌∙◌, arith}
use Rattle.std.proofs.lemmas.List.{get_or-set_same, get_or-set_other, length-set}
use Rattle.zl_kernel.specs.KernelForm.{KernelForm}
use Rattle.zl_kernel.specs.WellFormed.{IsWellFormed}
use Rattle.zl_kernel.specs.Wires.{Registers, held, Moment, turn}
use Rattle.zl_kernel.specs.Faults.{fault_of as kernel_fault}
use Rattle.zl_kernel.specs.WireRanks.{AreWireRanks}
use Rattle.zl_kernel.specs.declared.memory.KMem.{KMem}
use Rattle.zl_code.specs.Method.{cell, Given, Doing, Runs, run, method, keep}
use Rattle.zl_code.specs.System.{fault_of as code_fault}
use Rattle.zl_code.specs.declared.stmt.Stmt.TheVariants.{Set}
use Rattle.zl_codegen.specs.Orders.{IsOrder}
use Rattle.zl_codegen.specs.Needs.{is_marked, is_taken, is_needed_memory, needs, left_out}
use Rattle.zl_codegen.specs.Statements.{sets}
use Rattle.zl_codegen.specs.CodeOf.{method_of}
use Rattle.zl_codegen.specs.Laws.{IsGiven}
use Rattle.zl_codegen.proofs.Closed.{needs_closed}
use Rattle.zl_codegen.proofs.FaultKept.{methods_report}
use Rattle.zl_codegen.proofs.MomentTypes.{ReadsTypes, hold_types, sound}
use Rattle.zl_codegen.proofs.Solved.{Ends, solved_all, unsolved}
use Rattle.zl_codegen.proofs.Solving.{true_or}

-- what ends a method: the registers stay
sets_regs : (g : Given) (marks : List Bool) (n : ℕ) (mems : List KMem) (d : Doing) → (run g Runs (sets marks n mems) d).regs ≡ d.regs
sets_regs g marks n [] d = refl
sets_regs g marks n (mem ∷ mems) d = by (is_needed_memory marks n mem) (λ e. sets_regs g marks (suc n) mems e)
  where
    by : (t : Bool) → ((e : Doing) → (run g Runs (sets marks (suc n) mems) e).regs ≡ e.regs) → (run g Runs (if t then Set n mem.next ∷ sets marks (suc n) mems else sets marks (suc n) mems) d).regs ≡ d.regs
    by true more = more _
    by false more = more d

-- there are as many memories
sets_count : (g : Given) (marks : List Bool) (n : ℕ) (mems : List KMem) (d : Doing) → length (run g Runs (sets marks n mems) d).mems ≡ length d.mems
sets_count g marks n [] d = refl
sets_count g marks n (mem ∷ mems) d = by (is_needed_memory marks n mem) (λ e. sets_count g marks (suc n) mems e)
  where
    by : (t : Bool) → ((e : Doing) → length (run g Runs (sets marks (suc n) mems) e).mems ≡ length e.mems) → length (run g Runs (if t then Set n mem.next ∷ sets marks (suc n) mems else sets marks (suc n) mems) d).mems ≡ length d.mems
    by true more = more _ ∙ length-set d.mems n (cell d.regs mem.next)
    by false more = more d

-- those in front stay
sets_before : (g : Given) (marks : List Bool) (n : ℕ) (mems : List KMem) (d : Doing) (j : ℕ) → j < n → cell (run g Runs (sets marks n mems) d).mems j ≡ cell d.mems j
sets_before g marks n [] d j less = refl
sets_before g marks n (mem ∷ mems) d j less = by (is_needed_memory marks n mem) (λ e. sets_before g marks (suc n) mems e j (omega arith))
  where
    by : (t : Bool) → ((e : Doing) → cell (run g Runs (sets marks (suc n) mems) e).mems j ≡ cell e.mems j) → cell (run g Runs (if t then Set n mem.next ∷ sets marks (suc n) mems else sets marks (suc n) mems) d).mems j ≡ cell d.mems j
    by true more = more _ ∙ get_or-set_other d.mems n j (cell d.regs mem.next) None (λ e. omega (arith, e, less))
    by false more = more d

-- and each that something needs takes its register
sets_take : (g : Given) (marks : List Bool) (n : ℕ) (mems : List KMem) (d : Doing) (i : ℕ) (mem : KMem) → slice_get mems i ≡ Some mem → is_needed_memory marks (n + i) mem ≡ true → n + i < length d.mems → cell (run g Runs (sets marks n mems) d).mems (n + i) ≡ cell d.regs mem.next
sets_take g marks n [] d i mem at is less = absurd cc
sets_take g marks n (x ∷ mems) d zero mem at is less =
    let same : x ≡ mem = cc in
    let here : n + 0 ≡ n = omega arith in
    let low : n < length d.mems = omega (arith, less) in
    ap (λ t. cell (run g Runs (if t then Set n x.next ∷ sets marks (suc n) mems else sets marks (suc n) mems) d).mems (n + 0)) (ap (λ y. is_needed_memory marks n y) same ∙ ap (λ j. is_needed_memory marks j mem) (sym here) ∙ is)
    ∙ ap (λ j. cell (run g Runs (sets marks (suc n) mems) (keep d n (cell d.regs x.next))).mems j) here
    ∙ sets_before g marks (suc n) mems (keep d n (cell d.regs x.next)) n (omega arith)
    ∙ get_or-set_same d.mems n (cell d.regs x.next) None low
    ∙ ap (λ (y : KMem). cell d.regs y.next) same
sets_take g marks n (x ∷ mems) d (suc i) mem at is less =
    let shift : n + suc i ≡ suc n + i = omega arith in
    by (is_needed_memory marks n x)
    (λ e regs count.
    ap (λ j. cell (run g Runs (sets marks (suc n) mems) e).mems j) shift
    ∙ sets_take g marks (suc n) mems e i mem at (ap (λ j. is_needed_memory marks j mem) (sym shift) ∙ is) (omega (arith, less, count, shift))
    ∙ ap (λ rs. cell rs mem.next) regs)
  where
    by : (t : Bool) → ((e : Doing) → e.regs ≡ d.regs → length e.mems ≡ length d.mems → cell (run g Runs (sets marks (suc n) mems) e).mems (n + suc i) ≡ cell d.regs mem.next) → cell (run g Runs (if t then Set n x.next ∷ sets marks (suc n) mems else sets marks (suc n) mems) d).mems (n + suc i) ≡ cell d.regs mem.next
    by true next_is = next_is (keep d n (cell d.regs x.next)) refl (length-set d.mems n (cell d.regs x.next))
    by false next_is = next_is d refl refl

-- a method that ends with these sets, beside a moment of the kernel
pub record Agrees (k : KernelForm) (list : List ℕ) (m : Moment) (r : Registers) (g : Given) (marks : List Bool) (ms : List KMem) (d : Doing) : Type 0 where
  pub regs : (n : ℕ) → n < length k.wires → is_marked (needs k m.mode list) n ≡ true → cell d.regs n ≡ held r n
  pub fault : kernel_fault k m r ≡ code_fault d
  pub count : length d.mems ≡ length g.mems
  pub mems : (n : ℕ) (mem : KMem) → slice_get ms n ≡ Some mem → is_needed_memory marks n mem ≡ true → n < length g.mems → mem.next < length k.wires → is_marked (needs k m.mode list) mem.next ≡ true → cell d.mems n ≡ held r mem.next

module _ (k : KernelForm) (ranks list : List ℕ) (well : IsWellFormed k) (are : AreWireRanks k ranks) (order : IsOrder k list) (m : Moment) (reads_types : ReadsTypes k m) (r : Registers) (solves : r ≡ turn k m r) (g : Given) (given : IsGiven k m g) where
  pub agrees : (marks : List Bool) (mems : List KMem) → Agrees k list m r g marks mems (method (length k.wires) (method_of k m.mode list (sets marks 0 mems)) g)
  agrees marks mems = record {
    regs = λ n less is. ap (λ (d : Doing). cell d.regs n) it.runs ∙ ap (λ rs. cell rs n) (sets_regs g marks 0 mems it.after) ∙ here n less is;
    fault = sym (methods_report k list well order m r solves (sound k well m reads_types r solves (hold_types k well m reads_types r solves ranks are)) g given marks mems);
    count = ap (λ (d : Doing). length d.mems) it.runs ∙ sets_count g marks 0 mems it.after ∙ ap (λ ms. length ms) it.mems;
    mems = λ n mem at is low less sure.
        let z : 0 + n ≡ n = omega arith in
        let there : 0 + n < length it.after.mems = omega (arith, low, ap (λ ms. length ms) it.mems) in
        ap (λ (d : Doing). cell d.mems n) it.runs
        ∙ ap (λ j. cell (run g Runs (sets marks 0 mems) it.after).mems j) (sym z)
        ∙ sets_take g marks 0 mems it.after n mem at (ap (λ j. is_needed_memory marks j mem) z ∙ is) there
        ∙ here mem.next less sure;
  }
    where
      it : Ends k list well order m r solves g given (needs k m.mode list) (needs_closed k list well order m.mode).reads (sets marks 0 mems)
      it = solved_all k list well order m r solves g given (needs k m.mode list) (needs_closed k list well order m.mode).reads (sets marks 0 mems)

      here : (n : ℕ) → n < length k.wires → is_marked (needs k m.mode list) n ≡ true → cell it.after.regs n ≡ held r n
      here n less is =
          it.regs n less
          ∙ true_or (is_marked (left_out k m.mode) n) ((if is_taken (needs k m.mode list) (left_out k m.mode) n then held r n else None) ≡ held r n)
          (λ out. ap₂ (λ a b. if a && not b then held r n else None) is out ∙ sym (unsolved k list well order m r solves g given (needs k m.mode list) (needs_closed k list well order m.mode).reads n less out))
          (λ stays. ap₂ (λ a b. if a && not b then held r n else None) is stays)
