-- The instants of a code correspond to those of its kernel.
use Rattle.std.specs.Prelude.{◌≡◌, ℕ, suc, ◌<◌, ◌+◌, Bool, true, false, ◌&&◌, ◌||◌, is_some, is_none, List, [], ◌∷◌, length, map, get_or, slice_get, Option, Some, None}
use Rattle.std.specs.List.{list_any, filter}
use Rattle.std.specs.Option.{option_map, option_and_then}
use Rattle.std.proofs.Common.{refl, sym, ap, ap₂, ◌∙◌, arith, subst}
use Rattle.std.proofs.lemmas.Option.{slice_get-map}
use mathlib.Core.Path.{fun_ext}
use Rattle.zl_value.specs.Lists.{among, listed}
use Rattle.zl_value.specs.Times.{holds}
use Rattle.zl_value.specs.Crossings.{fires}
use Rattle.zl_value.specs.Instants.{Kind, Step, Left, is_step, Instant, History, latest_inputs, steps_at}
use Rattle.zl_value.specs.System.{System, fired_after, asks, is_some_site}
use Rattle.zl_value.specs.Runs.{StepAfter}
use Rattle.zl_value.specs.Script.{IsScriptFor}
use Rattle.zl_value.specs.Correspondence.{IsWhole, IsSoFar, Corresponds, AreReached, StepBeside, SameInstant}
use Rattle.zl_value.specs.declared.value.Ty.{Ty}
use Rattle.zl_value.specs.declared.value.Value.{Value}
use Rattle.zl_value.specs.declared.script.Script.{Script}
use Rattle.zl_value.specs.declared.script.Output.{Output}
use Rattle.zl_kernel.specs.KernelForm.{KernelForm}
use Rattle.zl_kernel.specs.WellFormed.{IsWellFormed, IsWire, IsDef, IsSite, IsMemory, IsOutput, HasWire}
use Rattle.zl_kernel.specs.Wires.{Registers, held, Mode, is_at_step, Moment, turn}
use Rattle.zl_kernel.specs.Faults.{fault_of as kernel_fault}
use Rattle.zl_kernel.specs.Memories.{starts as kernel_starts, after, memories_of}
use Rattle.zl_kernel.specs.Missing.{is_active, lacks as kernel_lacks}
use Rattle.zl_kernel.specs.System.{mode_of, in_site, site_wire, system_of_kernel}
use Rattle.zl_kernel.specs.WireRanks.{AreWireRanks}
use Rattle.zl_kernel.specs.declared.wire.Wire.{Wire}
use Rattle.zl_kernel.specs.declared.memory.KMem.{KMem}
use Rattle.zl_kernel.specs.declared.site.KSite.{KSite}
use Rattle.zl_kernel.proofs.OneSolution.{has_one_registers}
use Rattle.zl_code.specs.CodeForm.{CodeForm}
use Rattle.zl_code.specs.Method.{Cells, cell, Doing, method}
use Rattle.zl_code.specs.System.{events_of, instant_of, starts, mems_after, of_site, lacks_of, lacks_again, lacks_output, lacks, fault_of as code_fault, system_of}
use Rattle.zl_code.specs.declared.code.CSite.{CSite}
use Rattle.zl_codegen.specs.Orders.{IsOrder}
use Rattle.zl_codegen.specs.Needs.{is_marked, is_needed_memory, held_memories}
use Rattle.zl_codegen.specs.CodeOf.{memory_of, site_of, method_of, sets_of, code_of}
use Rattle.zl_codegen.specs.Laws.{IsGiven}
use Rattle.zl_codegen.specs.RunLaws.{HoldsSame, SaysSame, same_sites, input_types}
use Rattle.zl_codegen.proofs.AnyOrder.{length_map}
use Rattle.zl_codegen.proofs.FaultKept.{or_true}
use Rattle.zl_codegen.proofs.Listed.{get-listed, within_from}
use Rattle.zl_codegen.proofs.MethodAgrees.{Agrees, agrees}
use Rattle.zl_codegen.proofs.RootMarks.{memory_held, marked_out, marked_value, marked_fresh, marked_next, marked_again}
use Rattle.zl_codegen.proofs.RunTypes.{InputTypes, MemoryTypes, TypedSoFar, mapped_held, none_held, inputs_held, memories_held, prefix_typed}
use Rattle.zl_codegen.proofs.Typed.{entry_has}

-- a test on each of a list, and on each of what is made from it
pub any_mapped : {X Y : Type 0} (p : X → Bool) (q : Y → Bool) (f : X → Y) (xs : List X) → ((n : ℕ) (x : X) → slice_get xs n ≡ Some x → p x ≡ q (f x)) → list_any p xs ≡ list_any q (map f xs)
any_mapped p q f [] e = refl
any_mapped p q f (x ∷ xs) e = ap₂ (λ a b. a || b) (e 0 x refl) (any_mapped p q f xs (λ n y at. e (suc n) y at))

pub any_each : {X : Type 0} (p q : X → Bool) (xs : List X) → ((n : ℕ) (x : X) → slice_get xs n ≡ Some x → p x ≡ q x) → list_any p xs ≡ list_any q xs
any_each p q [] e = refl
any_each p q (x ∷ xs) e = ap₂ (λ a b. a || b) (e 0 x refl) (any_each p q xs (λ n y at. e (suc n) y at))

swapped : (a b c : Bool) → ((a || b) || c) ≡ (a || (c || b))
swapped true b c = refl
swapped false true true = refl
swapped false true false = refl
swapped false false true = refl
swapped false false false = refl

module _ (k : KernelForm) (ranks list : List ℕ) (well : IsWellFormed k) (are : AreWireRanks k ranks) (order : IsOrder k list) where
  abbrev c : CodeForm
  c = code_of k list

  abbrev pub A : System Doing Doing
  A = system_of (code_of k list)

  abbrev pub B : System Registers Registers
  B = system_of_kernel k

  -- memories of the code hold what those of the kernel do that something needs
  pub record SameMemories (mems : Cells) (memories : Registers) : Type 0 where
    pub count : length mems ≡ length k.mems
    pub each : (n : ℕ) (mem : KMem) → slice_get k.mems n ≡ Some mem → is_needed_memory (held_memories k) n mem ≡ true → cell mems n ≡ held memories n

  pub there : {ty : Ty} {n : ℕ} → HasWire k ty n → n < length k.wires
  there {ty} {n} has = within_from k.wires n has.wire has.is

  pub site_at : (n : ℕ) (site : KSite) → slice_get k.sites n ≡ Some site → IsSite k site
  site_at n site at = entry_has (IsSite k) k.sites n site well.sites at

  pub memory_at : (n : ℕ) (mem : KMem) → slice_get k.mems n ≡ Some mem → IsMemory k mem
  memory_at n mem at = entry_has (IsMemory k) k.mems n mem well.mems at

  -- what a method is given
  pub is_given : (mode : Mode) (mems : Cells) (inputs : List (Option Value)) (events : List Bool) (fired : List ℕ) (memories : Registers) → SameMemories mems memories → ((site : ℕ) → site < length k.sites → is_at_step mode ≡ true → get_or events site false ≡ among site fired) → IsGiven k (record { mode = mode; inputs = inputs; fired = fired; memories = memories }) (record { mems = mems; inputs = inputs; events = events })
  is_given mode mems inputs events fired memories same told = record {
    inputs = refl;
    mems = λ n j wire at of.
        let has = subst (λ def. IsDef k wire.ty def) of (entry_has (IsWire k) k.wires n wire well.wires at).def in
        same.each j has.mem has.is (or_true (is_some has.mem.slope) (is_marked (held_memories k) j) (memory_held k n j wire at of (within_from k.mems j has.mem has.is)));
    events = λ n site wire at of stepping.
        told site (subst (λ def. IsDef k wire.ty def) of (entry_has (IsWire k) k.wires n wire well.wires at).def).0 stepping;
  }

  same_starts : SameMemories (starts c) (kernel_starts k)
  same_starts = record {
    count = length_map (λ mem. mem.start) (map memory_of k.mems) ∙ length_map memory_of k.mems;
    each = λ n mem at needed. ap (λ l. held l n) (both k.mems);
  }
    where
      both : (ms : List KMem) → map (λ mem. mem.start) (map memory_of ms) ≡ map (λ (mem : KMem). mem.start) ms
      both [] = refl
      both (mem ∷ ms) = ap (λ l. mem.start ∷ l) (both ms)

  pub same_after : (kind : Kind) (d : Doing) (r : Registers) → HoldsSame k list kind d r → SameMemories d.mems (after k r)
  same_after kind d r same = record {
    count = same.count;
    each = λ n mem at needed. same.mems n mem at needed ∙ sym (mapped_held (λ (x : KMem). held r x.next) k.mems n mem at);
  }

  -- after the method of an instant
  pub instant_same : (kind : Kind) (mems : Cells) (inputs : List (Option Value)) (events : List Bool) (fired : List ℕ) (memories r : Registers) → SameMemories mems memories → ((site : ℕ) → site < length k.sites → is_at_step (mode_of kind) ≡ true → get_or events site false ≡ among site fired) → InputTypes k inputs → MemoryTypes k memories → r ≡ turn k (record { mode = mode_of kind; inputs = inputs; fired = fired; memories = memories }) r → HoldsSame k list kind (instant_of c kind mems inputs events) r × (kernel_fault k (record { mode = mode_of kind; inputs = inputs; fired = fired; memories = memories }) r ≡ code_fault (instant_of c kind mems inputs events))
  instant_same kind mems inputs events fired memories r same told input_held memory_types solves =
      subst (λ d. HoldsSame k list kind d r × (kernel_fault k (record { mode = mode_of kind; inputs = inputs; fired = fired; memories = memories }) r ≡ code_fault d)) (sym (made kind)) (
        record {
          regs = it.regs;
          mems = λ n mem at needed.
              it.mems n mem at needed (subst (λ l. n < l) (sym same.count) (within_from k.mems n mem at)) (there (memory_at n mem at).next)
              (marked_next k list well order kind n mem at needed (there (memory_at n mem at).next));
          count = it.count ∙ same.count;
        },
        it.fault,
      )
    where
      made : (kind : Kind) → instant_of c kind mems inputs events ≡ method (length k.wires) (method_of k (mode_of kind) list (sets_of k)) (record { mems = mems; inputs = inputs; events = events })
      made Step = ap (λ n. method n c.step (record { mems = mems; inputs = inputs; events = events })) (length_map (λ (wire : Wire). wire.ty) k.wires)
      made Left = ap (λ n. method n c.left (record { mems = mems; inputs = inputs; events = events })) (length_map (λ (wire : Wire). wire.ty) k.wires)

      it : Agrees k list (record { mode = mode_of kind; inputs = inputs; fired = fired; memories = memories }) r (record { mems = mems; inputs = inputs; events = events }) (held_memories k) k.mems (method (length k.wires) (method_of k (mode_of kind) list (sets_of k)) (record { mems = mems; inputs = inputs; events = events }))
      it =
          agrees k ranks list well are order (record { mode = mode_of kind; inputs = inputs; fired = fired; memories = memories }) (record { inputs = input_held; memories = memory_types }) r solves
          (record { mems = mems; inputs = inputs; events = events }) (is_given (mode_of kind) mems inputs events fired memories same told) (held_memories k) k.mems

  -- ---- What is looked at after an instant

  -- a wire of a site
  pub of_sites : (which : KSite → ℕ) (other : CSite → ℕ) (regs : Cells) (r : Registers) → ((n : ℕ) (site : KSite) → slice_get k.sites n ≡ Some site → held r (which site) ≡ cell regs (other (site_of site))) → (n : ℕ) → site_wire which k r n ≡ of_site c other regs n
  of_sites which other regs r e n = by (slice_get k.sites n) refl
    where
      by : (o : Option KSite) → slice_get k.sites n ≡ o → site_wire which k r n ≡ of_site c other regs n
      by None at =
          ap (λ o. in_site which r o) at
          ∙ sym (ap (λ o. option_and_then (λ (site : CSite). cell regs (other site)) o) (slice_get-map site_of k.sites n ∙ ap (λ o. option_map site_of o) at))
      by (Some site) at =
          ap (λ o. in_site which r o) at ∙ e n site at
          ∙ sym (ap (λ o. option_and_then (λ (site : CSite). cell regs (other site)) o) (slice_get-map site_of k.sites n ∙ ap (λ o. option_map site_of o) at))

  module _ (kind : Kind) (d : Doing) (r : Registers) (same : HoldsSame k list kind d r) where
    pub value_is : (n : ℕ) (site : KSite) → slice_get k.sites n ≡ Some site → held r site.value ≡ cell d.regs site.value
    value_is n site at = let low = there (site_at n site at).value in sym (same.regs site.value low (marked_value k list well order kind n site at low))

    pub fresh_is : (n : ℕ) (site : KSite) → slice_get k.sites n ≡ Some site → held r site.fresh ≡ cell d.regs site.fresh
    fresh_is n site at = let low = there (site_at n site at).fresh in sym (same.regs site.fresh low (marked_fresh k list well order kind n site at low))

    pub out_is : (n : ℕ) (out : Output) → slice_get k.outs n ≡ Some out → held r out.«from» ≡ cell d.regs out.«from»
    out_is n out at =
        let low : out.«from» < length k.wires = (entry_has (IsOutput k) k.outs n out well.outs at).wire in
        sym (same.regs out.«from» low (marked_out k list well order kind n out at low))

  again_is : (d : Doing) (r : Registers) → HoldsSame k list Step d r → held r k.again ≡ cell d.regs k.again
  again_is d r same = let low = there well.again in sym (same.regs k.again low (marked_again k list well order low))

  again_lacks : (kind : Kind) (d : Doing) (r : Registers) → HoldsSame k list kind d r → (is_step kind && is_none (held r k.again)) ≡ lacks_again kind (cell d.regs k.again)
  again_lacks Step d r same = ap (λ v. is_none v) (again_is d r same)
  again_lacks Left d r same = refl

  again_demands : (kind : Kind) (d : Doing) (r : Registers) → HoldsSame k list kind d r → (is_step kind && holds (held r k.again)) ≡ (is_step kind && holds (cell d.regs k.again))
  again_demands Step d r same = ap (λ v. holds v) (again_is d r same)
  again_demands Left d r same = refl

  -- nothing is missing in the kernel that isn't in the code
  pub lacks_same : (i : Instant Doing) (j : Instant Registers) → j.kind ≡ i.kind → HoldsSame k list i.kind i.table j.table → kernel_lacks k j ≡ lacks c i.kind i.table.regs
  lacks_same i j e same =
      swapped (list_any (λ (out : Output). is_none (held j.table out.«from»)) k.outs) (is_step j.kind && is_none (held j.table k.again)) (list_any (λ (site : KSite). is_active j.table site && is_none (held j.table site.fresh)) k.sites)
      ∙ ap₂ (λ a b. a || b) (any_each _ (lacks_output i.table.regs) k.outs (λ n out at. ap (λ v. is_none v) (out_is i.kind i.table j.table same n out at)))
      (ap₂ (λ a b. a || b)
      (any_mapped (λ (site : KSite). is_active j.table site && is_none (held j.table site.fresh)) (lacks_of (λ site. site.fresh) i.table.regs i.table.regs) site_of k.sites
      (λ n site at. ap₂ (λ v w. is_some v && is_none w) (value_is i.kind i.table j.table same n site at) (fresh_is i.kind i.table j.table same n site at)))
      (ap (λ t. is_step t && is_none (held j.table k.again)) e ∙ again_lacks i.kind i.table j.table same))

  module _ (script : Script) where
    abbrev pub Pair : History Doing → History Registers → Type 0
    Pair h g = Corresponds A B script same_sites (SaysSame k list) h g

    abbrev pub Reached : History Doing → History Registers → Type 0
    Reached h g = AreReached A B script same_sites (SaysSame k list) h g

    pub same_memories : (h : History Doing) (g : History Registers) → Pair h g → SameMemories (mems_after c h) (memories_of k g)
    same_memories [] [] e = same_starts
    same_memories [] (j ∷ g) e = absurd e
    same_memories (i ∷ h) [] e = absurd e
    same_memories (i ∷ h) (j ∷ g) e = same_after i.kind i.table j.table e.0.1.0

    -- the same sites fire
    pub fired_same : (h : History Doing) (g : History Registers) → Pair h g → fired_after B g ≡ fired_after A h
    fired_same [] [] e = refl
    fired_same [] (j ∷ g) e = absurd e
    fired_same (i ∷ h) [] e = absurd e
    fired_same (i ∷ []) (j ∷ []) e = refl
    fired_same (i ∷ i0 ∷ h) (j ∷ []) e = absurd e.1
    fired_same (i ∷ []) (j ∷ j0 ∷ g) e = absurd e.1
    fired_same (i ∷ i0 ∷ h) (j ∷ j0 ∷ g) e =
        ap₂ (λ p n. filter p (listed n 0 (λ x. x)))
        (fun_ext
        (λ n.
        ap₂ (λ v w. fires v w (holds (site_wire (λ (site : KSite). site.fresh) k j.table n)))
        (of_sites (λ site. site.value) (λ site. site.value) i0.table.regs j0.table (value_is i0.kind i0.table j0.table e.1.0.1.0) n)
        (of_sites (λ site. site.value) (λ site. site.value) i.table.regs j.table (value_is i.kind i.table j.table e.0.1.0) n)
        ∙ ap (λ v. fires (of_site c (λ site. site.value) i0.table.regs n) (of_site c (λ site. site.value) i.table.regs n) (holds v))
        (of_sites (λ site. site.fresh) (λ site. site.fresh) i.table.regs j.table (fresh_is i.kind i.table j.table e.0.1.0) n)))
        (sym (length_map site_of k.sites))

    pub asks_same : (h : History Doing) (g : History Registers) (i : Instant Doing) (j : Instant Registers) → Pair (i ∷ h) (j ∷ g) → asks B (j ∷ g) ≡ asks A (i ∷ h)
    asks_same h g i j e =
        ap₂ (λ f kind. is_some_site f || (is_step kind && holds (held j.table k.again))) (fired_same (i ∷ h) (j ∷ g) e) e.0.0.kind
        ∙ ap (λ b. is_some_site (fired_after A (i ∷ h)) || b) (again_demands i.kind i.table j.table e.0.1.0)

    pub instants_same : (h : History Doing) (g : History Registers) (i : Instant Doing) (j : Instant Registers) → Reached (i ∷ h) (j ∷ g) → IsWhole (A.fault h i) (A.lacks i) → SameInstant A B script same_sites (SaysSame k list) h g i j
    instants_same h g i j at whole =
        let e = at.corresponds in
        record {
          fault = e.0.1.1;
          whole = λ none. lacks_same i j e.0.0.kind e.0.1.0 ∙ whole none;
          fired = λ none. fired_same (i ∷ h) (j ∷ g) e;
          demand = λ none. asks_same h g i j e;
        }

    module _ (suits : IsScriptFor (input_types k) script) where
      pub typed_so_far : (g : History Registers) → IsSoFar B script g → TypedSoFar k g
      typed_so_far [] so = tt
      typed_so_far (j ∷ g) so = prefix_typed k ranks well are script suits (j ∷ g) so

      latest_types : (h : History Doing) (g : History Registers) → Pair h g → TypedSoFar k g → InputTypes k (latest_inputs h)
      latest_types [] [] e t = none_held k
      latest_types [] (j ∷ g) e t = absurd e
      latest_types (i ∷ h) [] e t = absurd e
      latest_types (i ∷ h) (j ∷ g) e t = subst (λ l. InputTypes k l) e.0.0.inputs t.1

      pub step_beside : (h : History Doing) (g : History Registers) → Reached h g → (i : Instant Doing) → StepAfter A script h i → StepBeside A B script same_sites (SaysSame k list) h g i
      step_beside h g at i step =
          let t = typed_so_far g at.second in
          let inputs : InputTypes k i.inputs =
          subst (λ l. InputTypes k l) (sym step.inputs)
          (inputs_held k script suits i.time (steps_at i.time h) (latest_inputs h) (latest_types h g at.corresponds t)) in
          let m : Moment = record { mode = mode_of i.kind; inputs = i.inputs; fired = i.fired; memories = memories_of k g } in
          let sol = has_one_registers k m ranks are in
          record {
            table = sol.registers;
            solves = sol.solves;
            says =
                subst (λ d. HoldsSame k list i.kind d sol.registers × (kernel_fault k m sol.registers ≡ code_fault d))
                (ap (λ kind. instant_of c kind (mems_after c h) i.inputs (events_of c i.fired)) step.kind ∙ sym step.solves)
                (instant_same i.kind (mems_after c h) i.inputs (events_of c i.fired) i.fired (memories_of k g) sol.registers (same_memories h g at.corresponds)
                (λ site low stepping. get-listed (length c.sites) 0 (λ n. among n i.fired) false site (subst (λ n. site < n) (sym (length_map site_of k.sites)) low) ∙ ap (λ n. among n i.fired) (let z : 0 + site ≡ site = omega arith in z))
                inputs (memories_held k ranks well are g t) sol.solves);
          }
