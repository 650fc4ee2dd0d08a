-- What is looked at after a method is marked for it.
use Rattle.std.specs.Prelude.{◌≡◌, ℕ, zero, suc, ◌<◌, ◌+◌, nat_eq, Bool, true, false, ◌||◌, if◌then◌else◌, List, [], ◌∷◌, length, map, replicate, slice_get, Some}
use Rattle.std.specs.List.{list_any, flat_map}
use Rattle.std.proofs.Common.{refl, sym, ap, ◌∙◌, arith, subst}
use Rattle.std.proofs.lemmas.Bool.{eq-eqb}
use Rattle.std.proofs.lemmas.List.{length-replicate}
use Rattle.zl_value.specs.Lists.{among}
use Rattle.zl_value.specs.Instants.{Kind, Step, Left}
use Rattle.zl_value.specs.declared.script.Output.{Output}
use Rattle.zl_kernel.specs.KernelForm.{KernelForm}
use Rattle.zl_kernel.specs.FlowWires.{listed_in}
use Rattle.zl_kernel.specs.WellFormed.{IsWellFormed}
use Rattle.zl_kernel.specs.Wires.{Mode, AtStep, InFlow}
use Rattle.zl_kernel.specs.System.{mode_of}
use Rattle.zl_kernel.specs.declared.wire.Def.TheVariants as is
use Rattle.zl_kernel.specs.declared.wire.Wire.{Wire}
use Rattle.zl_kernel.specs.declared.memory.KMem.{KMem}
use Rattle.zl_kernel.specs.declared.site.KSite.{KSite}
use Rattle.zl_codegen.specs.Orders.{IsOrder}
use Rattle.zl_codegen.specs.Needs.{marked, is_marked, memory_in, is_needed_memory, held_memories, nexts_from, failing_from, faults_marked, instant_marked, roots, needs}
use Rattle.zl_codegen.proofs.FaultKept.{still_marked, or_true}
use Rattle.zl_codegen.proofs.MarkTests.{marked_is, length-marked, among-flat_map}
use Rattle.zl_codegen.proofs.OneNeed.{roots_marked}
use Rattle.zl_codegen.proofs.Solving.{among_at}
use Rattle.zl_codegen.proofs.Typed.{slice_get-map}

-- these numbers are marked
now_marked : (count : ℕ) (ns : List ℕ) (marks : List Bool) (n : ℕ) → n < count → length marks ≡ count → among n ns ≡ true → (length (marked ns marks) ≡ count) × (is_marked (marked ns marks) n ≡ true)
now_marked count ns marks n less long in' = (length-marked ns marks ∙ long, marked_is ns marks n (subst (λ m. n < m) (sym long) less) ∙ ap (λ b. b || is_marked marks n) in')

among_map : {X : Type 0} (f : X → ℕ) (xs : List X) (i : ℕ) (x : X) → slice_get xs i ≡ Some x → among (f x) (map f xs) ≡ true
among_map f xs i x at = among_at (map f xs) i (f x) (slice_get-map f xs i x at)

any_at : {X : Type 0} (p : X → Bool) (xs : List X) (i : ℕ) (x : X) → slice_get xs i ≡ Some x → p x ≡ true → list_any p xs ≡ true
any_at p [] i x at is = absurd cc
any_at p (y ∷ xs) zero x at is = let e : y ≡ x = cc in ap (λ b. b || list_any p xs) (ap p e ∙ is)
any_at p (y ∷ xs) (suc i) x at is = or_true (p y) (list_any p xs) (any_at p xs i x at is)

among_flat : {X : Type 0} (f : X → List ℕ) (n : ℕ) (xs : List X) (i : ℕ) (x : X) → slice_get xs i ≡ Some x → among n (f x) ≡ true → among n (flat_map f xs) ≡ true
among_flat f n xs i x at is = among-flat_map f n xs ∙ any_at (λ y. among n (f y)) xs i x at is

among_one : (n : ℕ) → among n (n ∷ []) ≡ true
among_one n = ap (λ b. b || false) (eq-eqb n n refl)

-- what a memory takes that something needs
among_nexts : (held : List Bool) (base : ℕ) (mems : List KMem) (i : ℕ) (mem : KMem) → slice_get mems i ≡ Some mem → is_needed_memory held (base + i) mem ≡ true → among mem.next (nexts_from held base mems) ≡ true
among_nexts held base [] i mem at is = absurd cc
among_nexts held base (x ∷ mems) zero mem at is =
    let e : x ≡ mem = cc in
    let z : base + 0 ≡ base = omega arith in
    ap (λ t. among mem.next (if t then x.next ∷ nexts_from held (suc base) mems else nexts_from held (suc base) mems)) (ap (λ y. is_needed_memory held base y) e ∙ ap (λ n. is_needed_memory held n mem) (sym z) ∙ is)
    ∙ ap (λ (y : KMem). among mem.next (y.next ∷ nexts_from held (suc base) mems)) e
    ∙ ap (λ b. b || among mem.next (nexts_from held (suc base) mems)) (eq-eqb mem.next mem.next refl)
among_nexts held base (x ∷ mems) (suc i) mem at is =
    by (is_needed_memory held base x) (among_nexts held (suc base) mems i mem at ((let z : suc base + i ≡ base + suc i = omega arith in ap (λ n. is_needed_memory held n mem) z) ∙ is))
  where
    by : (t : Bool) → among mem.next (nexts_from held (suc base) mems) ≡ true → among mem.next (if t then x.next ∷ nexts_from held (suc base) mems else nexts_from held (suc base) mems) ≡ true
    by true e = or_true (nat_eq x.next mem.next) (among mem.next (nexts_from held (suc base) mems)) e
    by false e = e

-- a memory that some wire holds
pub memory_held : (k : KernelForm) (n j : ℕ) (wire : Wire) → slice_get k.wires n ≡ Some wire → wire.def ≡ is.Mem j → j < length k.mems → is_marked (held_memories k) j ≡ true
memory_held k n j wire at of less =
    (now_marked (length k.mems) (flat_map (λ (w : Wire). memory_in w.def) k.wires) (replicate (length k.mems) false) j less (length-replicate (length k.mems) false)
    (among_flat (λ (w : Wire). memory_in w.def) j k.wires n wire at (ap (λ def. among j (memory_in def)) of ∙ among_one j))).1

module _ (k : KernelForm) where
  abbrev count : ℕ
  count = length k.wires

  abbrev IsIn : List Bool → ℕ → Type 0
  IsIn marks n = (length marks ≡ count) × (is_marked marks n ≡ true)

  long_faults : length (faults_marked k) ≡ count
  long_faults = length-marked (failing_from 0 k.wires) (replicate count false) ∙ length-replicate count false

  abbrev with_nexts : List Bool
  with_nexts = marked (nexts_from (held_memories k) 0 k.mems) (faults_marked k)

  long_nexts : length with_nexts ≡ count
  long_nexts = length-marked (nexts_from (held_memories k) 0 k.mems) (faults_marked k) ∙ long_faults

  abbrev with_fresh : List Bool
  with_fresh = marked (map (λ (site : KSite). site.fresh) k.sites) with_nexts

  long_fresh : length with_fresh ≡ count
  long_fresh = length-marked (map (λ (site : KSite). site.fresh) k.sites) with_nexts ∙ long_nexts

  abbrev with_values : List Bool
  with_values = marked (map (λ (site : KSite). site.value) k.sites) with_fresh

  long_values : length with_values ≡ count
  long_values = length-marked (map (λ (site : KSite). site.value) k.sites) with_fresh ∙ long_fresh

  long_instant : length (instant_marked k) ≡ count
  long_instant = length-marked (map (λ (out : Output). out.«from») k.outs) with_values ∙ long_values

  -- up to the roots of an instant
  at_instant : (kind : Kind) (n : ℕ) → n < count → IsIn (instant_marked k) n → is_marked (roots k (mode_of kind)) n ≡ true
  at_instant Step n less it = (still_marked count (k.again ∷ []) (instant_marked k) n less it).1
  at_instant Left n less it = it.1

  over_values : (n : ℕ) → n < count → IsIn with_values n → IsIn (instant_marked k) n
  over_values n less it = still_marked count (map (λ (out : Output). out.«from») k.outs) with_values n less it

  over_fresh : (n : ℕ) → n < count → IsIn with_fresh n → IsIn (instant_marked k) n
  over_fresh n less it = over_values n less (still_marked count (map (λ (site : KSite). site.value) k.sites) with_fresh n less it)

  module _ (list : List ℕ) (well : IsWellFormed k) (order : IsOrder k list) where
    from_roots : (mode : Mode) (n : ℕ) → n < count → is_marked (roots k mode) n ≡ true → is_marked (needs k mode list) n ≡ true
    from_roots mode n less it = roots_marked k list well order mode list n less it

    pub marked_out : (kind : Kind) (i : ℕ) (out : Output) → slice_get k.outs i ≡ Some out → out.«from» < count → is_marked (needs k (mode_of kind) list) out.«from» ≡ true
    marked_out kind i out at less =
        from_roots (mode_of kind) out.«from» less
        (at_instant kind out.«from» less
        (now_marked count (map (λ (o : Output). o.«from») k.outs) with_values out.«from» less long_values (among_map (λ (o : Output). o.«from») k.outs i out at)))

    pub marked_value : (kind : Kind) (i : ℕ) (site : KSite) → slice_get k.sites i ≡ Some site → site.value < count → is_marked (needs k (mode_of kind) list) site.value ≡ true
    marked_value kind i site at less =
        from_roots (mode_of kind) site.value less
        (at_instant kind site.value less
        (over_values site.value less
        (now_marked count (map (λ (s : KSite). s.value) k.sites) with_fresh site.value less long_fresh (among_map (λ (s : KSite). s.value) k.sites i site at))))

    pub marked_fresh : (kind : Kind) (i : ℕ) (site : KSite) → slice_get k.sites i ≡ Some site → site.fresh < count → is_marked (needs k (mode_of kind) list) site.fresh ≡ true
    marked_fresh kind i site at less =
        from_roots (mode_of kind) site.fresh less
        (at_instant kind site.fresh less
        (over_fresh site.fresh less
        (now_marked count (map (λ (s : KSite). s.fresh) k.sites) with_nexts site.fresh less long_nexts (among_map (λ (s : KSite). s.fresh) k.sites i site at))))

    pub marked_next : (kind : Kind) (i : ℕ) (mem : KMem) → slice_get k.mems i ≡ Some mem → is_needed_memory (held_memories k) i mem ≡ true → mem.next < count → is_marked (needs k (mode_of kind) list) mem.next ≡ true
    marked_next kind i mem at needed less =
        from_roots (mode_of kind) mem.next less
        (at_instant kind mem.next less
        (over_fresh mem.next less
        (still_marked count (map (λ (s : KSite). s.fresh) k.sites) with_nexts mem.next less
        (now_marked count (nexts_from (held_memories k) 0 k.mems) (faults_marked k) mem.next less long_faults
        (among_nexts (held_memories k) 0 k.mems i mem at ((let z : 0 + i ≡ i = omega arith in ap (λ n. is_needed_memory (held_memories k) n mem) z) ∙ needed))))))

    pub marked_again : k.again < count → is_marked (needs k AtStep list) k.again ≡ true
    marked_again less = from_roots AtStep k.again less (now_marked count (k.again ∷ []) (instant_marked k) k.again less long_instant (among_one k.again)).1

    -- and in a flow
    abbrev with_rates : List Bool
    with_rates = marked (flat_map (λ (mem : KMem). listed_in mem.slope) k.mems) (faults_marked k)

    pub marked_slope : (i : ℕ) (site : KSite) → slice_get k.sites i ≡ Some site → site.slope < count → is_marked (needs k InFlow list) site.slope ≡ true
    marked_slope i site at less =
        from_roots InFlow site.slope less
        (now_marked count (map (λ (s : KSite). s.slope) k.sites) with_rates site.slope less (length-marked (flat_map (λ (mem : KMem). listed_in mem.slope) k.mems) (faults_marked k) ∙ long_faults) (among_map (λ (s : KSite). s.slope) k.sites i site at)).1

    pub marked_rate : (i n : ℕ) (mem : KMem) → slice_get k.mems i ≡ Some mem → mem.slope ≡ Some n → n < count → is_marked (needs k InFlow list) n ≡ true
    marked_rate i n mem at by less =
        from_roots InFlow n less
        (still_marked count (map (λ (s : KSite). s.slope) k.sites) with_rates n less
        (now_marked count (flat_map (λ (m : KMem). listed_in m.slope) k.mems) (faults_marked k) n less long_faults (among_flat (λ (m : KMem). listed_in m.slope) n k.mems i mem at (ap (λ o. among n (listed_in o)) by ∙ among_one n)))).1
