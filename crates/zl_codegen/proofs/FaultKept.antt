-- After a method the fault to report is that of the kernel: each method solves all wires that can fault.
use Rattle.std.specs.Prelude.{◌≡◌, ℕ, zero, suc, ◌<◌, ◌≤◌, ◌+◌, nat_eq, nat_le, Bool, true, false, not, ◌&&◌, ◌||◌, if◌then◌else◌, List, [], ◌∷◌, length, map, replicate, slice_get, Option, Some, None}
use Rattle.std.specs.List.{flat_map}
use Rattle.std.specs.Option.{option_map}
use Rattle.std.proofs.Common.{refl, sym, ap, ap₂, ◌∙◌, arith, subst}
use Rattle.std.proofs.lemmas.Bool.{eqb-true, eq-eqb, leb-true, leb-false}
use Rattle.std.proofs.lemmas.List.{length-replicate}
use Rattle.zl_value.specs.Lists.{listed, among}
use Rattle.zl_value.specs.Operators.{Answer, Gives, Faults, Nothing}
use Rattle.zl_value.specs.declared.arith.Arith.{Arith}
use Rattle.zl_value.specs.declared.script.Output.{Output}
use Rattle.zl_kernel.specs.KernelForm.{KernelForm}
use Rattle.zl_kernel.specs.FlowWires.{listed_in}
use Rattle.zl_kernel.specs.WellFormed.{IsWellFormed, can_fail}
use Rattle.zl_kernel.specs.Wires.{Registers, held, Mode, AtStep, AtLeft, InFlow, is_open, answer as answer_in, wire_answer, Moment, turn}
use Rattle.zl_kernel.specs.Faults.{Ranked, ranked, lower, least_from, fault_of as kernel_fault}
use Rattle.zl_kernel.specs.declared.wire.Def.{Def}
use Rattle.zl_kernel.specs.declared.wire.Def.TheVariants as is
use Rattle.zl_kernel.specs.declared.wire.Wire.{Wire}
use Rattle.zl_kernel.specs.declared.memory.KMem.{KMem}
use Rattle.zl_kernel.specs.declared.site.KSite.{KSite}
use Rattle.zl_code.specs.Method.{Given, Doing, Runs, run, method}
use Rattle.zl_code.specs.System.{fault_of as code_fault}
use Rattle.zl_code.specs.declared.stmt.Found.{Found}
use Rattle.zl_code.specs.declared.stmt.Stmt.TheVariants.{Set}
use Rattle.zl_codegen.specs.Orders.{IsOrder, numbers}
use Rattle.zl_codegen.specs.Needs.{marked, is_marked, is_taken, is_needed_memory, held_memories, nexts_from, failing_from, faults_marked, instant_marked, roots, needs, left_out}
use Rattle.zl_codegen.specs.Statements.{sets}
use Rattle.zl_codegen.specs.CodeOf.{method_of}
use Rattle.zl_codegen.specs.Laws.{IsGiven, IsSound, MethodsReport}
use Rattle.zl_codegen.proofs.AnyOrder.{fault_of_wire}
use Rattle.zl_codegen.proofs.Closed.{needs_closed}
use Rattle.zl_codegen.proofs.Least.{over, IsLeast, over_least, two_least}
use Rattle.zl_codegen.proofs.Listed.{within_from}
use Rattle.zl_codegen.proofs.MarkTests.{marked_is, length-marked}
use Rattle.zl_codegen.proofs.OneNeed.{roots_marked}
use Rattle.zl_codegen.proofs.Places.{order_has, numbers_have}
use Rattle.zl_codegen.proofs.Reports.{fault_in, fault_at}
use Rattle.zl_codegen.proofs.Solved.{solved_all, solved_is}
use Rattle.zl_codegen.proofs.Solving.{reported, report, true_or}

-- what ends a method sets memories alone
pub sets_keep : (g : Given) (held : List Bool) (n : ℕ) (mems : List KMem) (d : Doing) → (run g Runs (sets held n mems) d).found ≡ d.found
sets_keep g held n [] d = refl
sets_keep g held n (mem ∷ mems) d = by (is_needed_memory held n mem) (λ e. sets_keep g held (suc n) mems e)
  where
    by : (t : Bool) → ((e : Doing) → (run g Runs (sets held (suc n) mems) e).found ≡ e.found) → (run g Runs (if t then Set n mem.next ∷ sets held (suc n) mems else sets held (suc n) mems) d).found ≡ d.found
    by true more = more _
    by false more = more d

-- the wires that can fault are marked
failing : (j : ℕ) (wires : List Wire) (i : ℕ) (wire : Wire) → slice_get wires i ≡ Some wire → can_fail wire.def ≡ true → among (j + i) (failing_from j wires) ≡ true
failing j [] i wire at fails = absurd cc
failing j (w ∷ wires) zero wire at fails =
    let same : w ≡ wire = cc in
    ap (λ t. among (j + 0) (if t then j ∷ failing_from (suc j) wires else failing_from (suc j) wires)) (ap (λ (v : Wire). can_fail v.def) same ∙ fails)
    ∙ ap (λ b. b || among (j + 0) (failing_from (suc j) wires)) (eq-eqb j (j + 0) (omega arith))
failing j (w ∷ wires) (suc i) wire at fails = by (can_fail w.def) (let e : suc j + i ≡ j + suc i = omega arith in ap (λ n. among n (failing_from (suc j) wires)) (sym e) ∙ failing (suc j) wires i wire at fails)
  where
    by : (t : Bool) → among (j + suc i) (failing_from (suc j) wires) ≡ true → among (j + suc i) (if t then j ∷ failing_from (suc j) wires else failing_from (suc j) wires) ≡ true
    by false p = p
    by true p = ap (λ b. nat_eq j (j + suc i) || b) p ∙ last (nat_eq j (j + suc i))
      where
        last : (b : Bool) → (b || true) ≡ true
        last true = refl
        last false = refl

pub or_true : (a b : Bool) → b ≡ true → (a || b) ≡ true
or_true true b is = refl
or_true false b is = is

pub still_marked : (count : ℕ) (ns : List ℕ) (marks : List Bool) (n : ℕ) → n < count → (length marks ≡ count) × (is_marked marks n ≡ true) → (length (marked ns marks) ≡ count) × (is_marked (marked ns marks) n ≡ true)
still_marked count ns marks n less it = (length-marked ns marks ∙ it.0, marked_is ns marks n (subst (λ m. n < m) (sym it.0) less) ∙ or_true (among n ns) (is_marked marks n) it.1)

fails_marked : (k : KernelForm) (mode : Mode) (n : ℕ) (wire : Wire) → slice_get k.wires n ≡ Some wire → can_fail wire.def ≡ true → is_marked (roots k mode) n ≡ true
fails_marked k mode n wire at fails = by mode
  where
    less : n < length k.wires
    less = within_from k.wires n wire at

    none : length (replicate (length k.wires) false) ≡ length k.wires
    none = length-replicate (length k.wires) false

    first : (length (faults_marked k) ≡ length k.wires) × (is_marked (faults_marked k) n ≡ true)
    first = (
      length-marked (failing_from 0 k.wires) (replicate (length k.wires) false) ∙ none,
      marked_is (failing_from 0 k.wires) (replicate (length k.wires) false) n (subst (λ m. n < m) (sym none) less)
          ∙ ap (λ b. b || is_marked (replicate (length k.wires) false) n) ((let e : n ≡ 0 + n = omega arith in ap (λ i. among i (failing_from 0 k.wires)) e) ∙ failing 0 k.wires n wire at fails),
    )

    instants : (length (instant_marked k) ≡ length k.wires) × (is_marked (instant_marked k) n ≡ true)
    instants =
        still_marked (length k.wires) (map (λ (out : Output). out.«from») k.outs) _ n less
        (still_marked (length k.wires) (map (λ (site : KSite). site.value) k.sites) _ n less
        (still_marked (length k.wires) (map (λ (site : KSite). site.fresh) k.sites) _ n less (still_marked (length k.wires) (nexts_from (held_memories k) 0 k.mems) (faults_marked k) n less first)))

    by : (mode : Mode) → is_marked (roots k mode) n ≡ true
    by AtStep = (still_marked (length k.wires) (k.again ∷ []) (instant_marked k) n less instants).1
    by AtLeft = instants.1
    by InFlow = (still_marked (length k.wires) (map (λ (site : KSite). site.slope) k.sites) _ n less (still_marked (length k.wires) (flat_map (λ (mem : KMem). listed_in mem.slope) k.mems) (faults_marked k) n less first)).1

abbrev to_found : Ranked → Found
to_found a = record { ord = a.ord; fault = a.fault }

either : (a b : Bool) → (a || b) ≡ true → (P : Type 0) → (a ≡ true → P) → (b ≡ true → P) → P
either true b is P p q = p refl
either false b is P p q = q is

-- of a wire and of those behind it the fault of least number
front_least : (V : ℕ → Option Found) (n : ℕ) (ns : List ℕ) (a b : Option Ranked) → V n ≡ option_map to_found a → IsLeast V ns (option_map to_found b) → IsLeast V (n ∷ ns) (option_map to_found (lower a b))
front_least V n ns None b is least = record {
  of = least.of;
  below = λ j y in' f. either (nat_eq n j) (among j ns) in' ((x : Found) × (option_map to_found b ≡ Some x) × (x.ord ≤ y.ord)) (λ same. absurd (let z : None ≡ Some y = sym is ∙ ap V (eqb-true n j same) ∙ f in cc)) (λ old. least.below j y old f);
}
front_least V n ns (Some a) None is least = record {
  of = λ x e. (n, is ∙ e);
  below = λ j y in' f.
      either (nat_eq n j) (among j ns) in' ((x : Found) × (Some (to_found a) ≡ Some x) × (x.ord ≤ y.ord)) (λ same. (to_found a, refl, let z : Some (to_found a) ≡ Some y = sym is ∙ ap V (eqb-true n j same) ∙ f in let w : to_found a ≡ y = cc in let u : a.ord ≡ y.ord = ap (λ (x : Found). x.ord) w in omega arith))
      (λ old. let u = least.below j y old f in absurd (let z : None ≡ Some u.0 = u.1 in cc));
}
front_least V n ns (Some a) (Some b) is least = by (nat_le a.ord b.ord) refl
  where
    by : (t : Bool) → nat_le a.ord b.ord ≡ t → IsLeast V (n ∷ ns) (option_map to_found (if t then Some a else Some b))
    by true e = record {
      of = λ x p. (n, is ∙ p);
      below = λ j y in' f.
          either (nat_eq n j) (among j ns) in' ((x : Found) × (Some (to_found a) ≡ Some x) × (x.ord ≤ y.ord)) (λ same. (to_found a, refl, let z : Some (to_found a) ≡ Some y = sym is ∙ ap V (eqb-true n j same) ∙ f in let w : to_found a ≡ y = cc in let u : a.ord ≡ y.ord = ap (λ (x : Found). x.ord) w in omega arith))
          (λ old.
          let u = least.below j y old f in
          let z : Some (to_found b) ≡ Some u.0 = u.1 in
          let w : to_found b ≡ u.0 = cc in
          let v : b.ord ≡ u.0.ord = ap (λ (x : Found). x.ord) w in
          let l : a.ord ≤ b.ord = leb-true a.ord b.ord e in
          let m : u.0.ord ≤ y.ord = u.2 in (to_found a, refl, omega arith));
    }
    by false e = record {
      of = least.of;
      below = λ j y in' f.
          either (nat_eq n j) (among j ns) in' ((x : Found) × (Some (to_found b) ≡ Some x) × (x.ord ≤ y.ord))
          (λ same.
          let z : Some (to_found a) ≡ Some y = sym is ∙ ap V (eqb-true n j same) ∙ f in
          let w : to_found a ≡ y = cc in
          let u : a.ord ≡ y.ord = ap (λ (x : Found). x.ord) w in
          let l : b.ord < a.ord = leb-false a.ord b.ord e in (to_found b, refl, omega arith))
          (λ old. least.below j y old f);
    }

no_fault : (a : Answer) (wire : Wire) → ((kind : Arith) → a ≡ Faults kind → ⊥) → ranked wire a ≡ None
no_fault (Gives v) wire never = refl
no_fault (Faults kind) wire never = absurd (never kind refl)
no_fault Nothing wire never = refl

-- a wire that can fault reports its fault, and no other one does
report_is : (wire : Wire) (def : Def) (a : Answer) → can_fail def ≡ true → report wire def a ≡ option_map to_found (ranked wire a)
report_is wire (is.Op op ns) a fails = ap (λ t. reported a (if t then Some (record { ord = wire.ord; at = wire.at }) else None)) fails ∙ by a
  where
    by : (a : Answer) → reported a (Some (record { ord = wire.ord; at = wire.at })) ≡ option_map to_found (ranked wire a)
    by (Gives v) = refl
    by (Faults kind) = refl
    by Nothing = refl
report_is wire (is.Lit v) a fails = absurd cc
report_is wire (is.Copy v) a fails = absurd cc
report_is wire (is.Mem v) a fails = absurd cc
report_is wire (is.In v) a fails = absurd cc
report_is wire (is.Event v) a fails = absurd cc
report_is wire is.Step a fails = absurd cc
report_is wire (is.If c x y) a fails = absurd cc

silent : (wire : Wire) (def : Def) (a : Answer) → can_fail def ≡ false → report wire def a ≡ None
silent wire (is.Op op ns) a fails = ap (λ t. reported a (if t then Some (record { ord = wire.ord; at = wire.at }) else None)) fails
silent wire (is.Lit v) a fails = refl
silent wire (is.Copy v) a fails = refl
silent wire (is.Mem v) a fails = refl
silent wire (is.In v) a fails = refl
silent wire (is.Event v) a fails = refl
silent wire is.Step a fails = refl
silent wire (is.If c x y) a fails = refl

module _ (k : KernelForm) (list : List ℕ) (well : IsWellFormed k) (order : IsOrder k list) (m : Moment) (r : Registers) (solves : r ≡ turn k m r) (sound : IsSound k m r) (g : Given) (given : IsGiven k m g) where
  abbrev marks : List Bool
  marks = needs k m.mode list

  abbrev V : ℕ → Option Found
  V n = fault_at k m r (needs k m.mode list) n

  never_solved : (n : ℕ) (wire : Wire) → slice_get k.wires n ≡ Some wire → is_marked (left_out k m.mode) n ≡ true → wire_answer k m (held r) n wire ≡ Nothing
  never_solved n wire at is =
      ap (λ b. if b && is_open (held r) wire.guard then answer_in m (held r) wire.def else Nothing)
      (sym (solved_is k list well order m r solves g given (needs k m.mode list) (needs_closed k list well order m.mode).reads n (within_from k.wires n wire at)) ∙ ap not is)

  V_is : (n : ℕ) (wire : Wire) → slice_get k.wires n ≡ Some wire → V n ≡ option_map to_found (ranked wire (wire_answer k m (held r) n wire))
  V_is n wire at = true_or (can_fail wire.def) (V n ≡ option_map to_found (ranked wire (wire_answer k m (held r) n wire))) can cannot
    where
      in_marks : can_fail wire.def ≡ true → is_marked (needs k m.mode list) n ≡ true
      in_marks fails = roots_marked k list well order m.mode list n (within_from k.wires n wire at) (fails_marked k m.mode n wire at fails)

      can : can_fail wire.def ≡ true → V n ≡ option_map to_found (ranked wire (wire_answer k m (held r) n wire))
      can fails = true_or (is_marked (left_out k m.mode) n) (V n ≡ option_map to_found (ranked wire (wire_answer k m (held r) n wire)))
          (λ left.
          ap₂ (λ a b. if a && not b then fault_in k m r n (slice_get k.wires n) else None) (in_marks fails) left
          ∙ sym (ap (λ a. option_map to_found (ranked wire a)) (never_solved n wire at left)))
          (λ stays.
          ap₂ (λ a b. if a && not b then fault_in k m r n (slice_get k.wires n) else None) (in_marks fails) stays
          ∙ ap (λ w. fault_in k m r n w) at ∙ report_is wire wire.def (wire_answer k m (held r) n wire) fails)

      cannot : can_fail wire.def ≡ false → V n ≡ option_map to_found (ranked wire (wire_answer k m (held r) n wire))
      cannot fails =
          ap (λ w. if is_taken (needs k m.mode list) (left_out k m.mode) n then fault_in k m r n w else None) at
          ∙ ap (λ f. if is_taken (needs k m.mode list) (left_out k m.mode) n then f else None) (silent wire wire.def (wire_answer k m (held r) n wire) fails)
          ∙ by (is_taken (needs k m.mode list) (left_out k m.mode) n)
          ∙ sym (ap (λ a. option_map to_found a) (no_fault (wire_answer k m (held r) n wire) wire (λ kind is. sound.never n wire kind at fails is)))
        where
          by : (t : Bool) → if◌then◌else◌ {A = Option Found} t None None ≡ None
          by true = refl
          by false = refl

  kernel_least : (base : ℕ) (wires : List Wire) → ((i : ℕ) (wire : Wire) → slice_get wires i ≡ Some wire → slice_get k.wires (base + i) ≡ Some wire) → IsLeast V (listed (length wires) base (λ n. n)) (option_map to_found (least_from k m (held r) base wires))
  kernel_least base [] at = record { of = λ x e. absurd cc; below = λ n y in' e. absurd cc }
  kernel_least base (wire ∷ wires) at =
      front_least V base (listed (length wires) (suc base) (λ n. n)) (ranked wire (wire_answer k m (held r) base wire)) (least_from k m (held r) (suc base) wires)
      (V_is base wire ((let e : base ≡ base + 0 = omega arith in ap (λ n. slice_get k.wires n) e) ∙ at 0 wire refl))
      (kernel_least (suc base) wires (λ i w is. (let e : suc base + i ≡ base + suc i = omega arith in ap (λ n. slice_get k.wires n) e) ∙ at (suc i) w is))

  found_same : (rest_held : List Bool) (mems : List KMem) → code_fault (method (length k.wires) (method_of k m.mode list (sets rest_held 0 mems)) g) ≡ kernel_fault k m r
  found_same rest_held mems =
      let it = solved_all k list well order m r solves g given (needs k m.mode list) (needs_closed k list well order m.mode).reads (sets rest_held 0 mems) in
      ap (λ (d : Doing). code_fault d) it.runs
      ∙ ap (λ f. option_map (λ (x : Found). x.fault) f)
      (sets_keep g rest_held 0 mems it.after ∙ it.found
      ∙ two_least V list (numbers k) (over V None list) (option_map to_found (least_from k m (held r) 0 k.wires)) has apart (over_least V list)
      (kernel_least 0 k.wires (λ i wire is. (let e : 0 + i ≡ i = omega arith in ap (λ n. slice_get k.wires n) e) ∙ is)))
      ∙ by (least_from k m (held r) 0 k.wires)
    where
      by : (a : Option Ranked) → option_map (λ (x : Found). x.fault) (option_map to_found a) ≡ option_map (λ (x : Ranked). x.fault) a
      by None = refl
      by (Some a) = refl

      has : (n : ℕ) (x : Found) → V n ≡ Some x → (among n list ≡ true) × (among n (numbers k) ≡ true)
      has n x is =
          let f = fault_of_wire k m r (needs k m.mode list) n x is in
          let less = within_from k.wires n f.wire f.is in (order_has k list order n less, numbers_have k n less)

      apart : (i n : ℕ) (x y : Found) → V i ≡ Some x → V n ≡ Some y → x.ord ≡ y.ord → i ≡ n
      apart i n x y a b e =
          let u = fault_of_wire k m r (needs k m.mode list) i x a in
          let v = fault_of_wire k m r (needs k m.mode list) n y b in
          well.order i n u.wire v.wire u.is v.is u.fails v.fails (u.ord ∙ e ∙ sym v.ord)

pub methods_report : MethodsReport
methods_report k list well order m r solves sound g given held mems = found_same k list well order m r solves sound g given held mems
