-- The flows of a code correspond to those of its kernel.
use Rattle.std.specs.Prelude.{◌≡◌, ℕ, ◌<◌, Bool, true, false, ◌&&◌, ◌||◌, is_some, is_none, List, [], length, map, slice_get, Option, Some, None}
use Rattle.std.proofs.Common.{refl, sym, ap, ap₂, ◌∙◌, subst}
use mathlib.Core.Path.{fun_ext}
use Rattle.zl_value.specs.Fraction.{Fraction, IsReduced}
use Rattle.zl_value.specs.Widths.{first_wide}
use Rattle.zl_value.specs.Instants.{Kind, Left, Instant}
use Rattle.zl_value.specs.System.{move_tests}
use Rattle.zl_value.specs.declared.value.Value.{Value}
use Rattle.zl_value.specs.declared.value.Ty.TheVariants.{Float}
use Rattle.zl_kernel.specs.KernelForm.{KernelForm}
use Rattle.zl_kernel.specs.WellFormed.{IsWellFormed, IsSlope, HasWire}
use Rattle.zl_kernel.specs.Wires.{Registers, held, InFlow, is_at_step, turn}
use Rattle.zl_kernel.specs.Faults.{fault_of as kernel_fault}
use Rattle.zl_kernel.specs.Memories.{after as after_instant, moved as kernel_moved, moved_memory}
use Rattle.zl_kernel.specs.Missing.{is_active, stands_still, flow_lacks as kernel_flow_lacks}
use Rattle.zl_kernel.specs.Motions.{motions as kernel_motions}
use Rattle.zl_kernel.specs.System.{mode_of, flow_moment, in_site}
use Rattle.zl_kernel.specs.WireRanks.{AreWireRanks}
use Rattle.zl_kernel.specs.Laws.{IsOneSolution}
use Rattle.zl_kernel.specs.declared.memory.KMem.{KMem}
use Rattle.zl_kernel.specs.declared.site.KSite.{KSite}
use Rattle.zl_kernel.proofs.OneSolution.{has_one_registers}
use Rattle.zl_code.specs.CodeForm.{CodeForm}
use Rattle.zl_code.specs.Method.{cell, Given, Doing, method}
use Rattle.zl_code.specs.System.{instant_of, flow_of, moved_value, all_moved, lacks_of, flow_lacks, motions, fault_of as code_fault}
use Rattle.zl_codegen.specs.Orders.{IsOrder}
use Rattle.zl_codegen.specs.Needs.{is_marked, held_memories, needs}
use Rattle.zl_codegen.specs.CodeOf.{site_of, method_of, code_of}
use Rattle.zl_codegen.specs.Laws.{IsGiven}
use Rattle.zl_codegen.specs.RunLaws.{IsHeld, HoldTypes, HoldsSame}
use Rattle.zl_codegen.proofs.AnyOrder.{length_map}
use Rattle.zl_codegen.proofs.FlowMemories.{moved_same, none_at, moved_count, AreBeside, motions_same, slopes_same, moved_is, fault_same}
use Rattle.zl_codegen.proofs.InstantsAgree.{A, B, SameMemories, there, site_at, memory_at, any_mapped, is_given, same_after, instant_same, of_sites, value_is}
use Rattle.zl_codegen.proofs.MethodAgrees.{Agrees, agrees}
use Rattle.zl_codegen.proofs.MomentTypes.{ReadsTypes, held_same, hold_types}
use Rattle.zl_codegen.proofs.RootMarks.{marked_slope, marked_rate}
use Rattle.zl_codegen.proofs.RunTypes.{InputTypes, mapped_held, after_held, left_held}

-- an instant of the code and one of the kernel, beside each other
pub record AtOneInstant (k : KernelForm) (list : List ℕ) (i : Instant Doing) (j : Instant Registers) : Type 0 where
  pub inputs : j.inputs ≡ i.inputs
  pub time : j.time ≡ i.time
  pub same : HoldsSame k list i.kind i.table j.table
  pub types : HoldTypes k j.table
  pub input_types : InputTypes k j.inputs

right_end : (a b : Bool) → (a || b) ≡ false → b ≡ false
right_end true b e = absurd cc
right_end false b e = e

left_end : (a b : Bool) → (a || b) ≡ false → a ≡ false
left_end true b e = absurd cc
left_end false b e = refl

module _ (k : KernelForm) (ranks list : List ℕ) (well : IsWellFormed k) (are : AreWireRanks k ranks) (order : IsOrder k list) (i : Instant Doing) (j : Instant Registers) (at : AtOneInstant k list i j) where
  abbrev c : CodeForm
  c = code_of k list

  abbrev sol : IsOneSolution k (flow_moment k j)
  sol = has_one_registers k (flow_moment k j) ranks are

  -- what the wires of the kernel hold in the flow
  abbrev pub rates : Registers
  rates = (has_one_registers k (flow_moment k j) ranks are).registers

  reads_types : ReadsTypes k (flow_moment k j)
  reads_types = record { inputs = at.input_types; memories = after_held k well j.table at.types }

  pub rates_held : HoldTypes k rates
  rates_held = hold_types k well (flow_moment k j) reads_types rates sol.solves ranks are

  abbrev g0 : Given
  g0 = record { mems = i.table.mems; inputs = i.inputs; events = [] }

  given : IsGiven k (flow_moment k j) g0
  given =
      let it = is_given k ranks list well are order InFlow i.table.mems i.inputs [] [] (after_instant k j.table) (same_after k ranks list well are order i.kind i.table j.table at.same) (λ site low stepping. absurd (let z : false ≡ true = stepping in cc)) in
      record { inputs = sym at.inputs; mems = it.mems; events = it.events }

  it : Agrees k list (flow_moment k j) rates g0 [] [] (method (length k.wires) (method_of k InFlow list []) g0)
  it = agrees k ranks list well are order (flow_moment k j) reads_types rates sol.solves g0 given [] []

  typed_wire : (r : Registers) → HoldTypes k r → (n : ℕ) → HasWire k Float n → IsHeld Float (held r n)
  typed_wire r types n has = held_same (held r n) has.typed (types n has.wire has.is)

  -- `y` is what the code's flow method does
  module _ (y : Doing) (solved : y ≡ flow_of c i.table.mems i.inputs) where
    flow_is : y ≡ method (length k.wires) (method_of k InFlow list []) g0
    flow_is = solved ∙ ap (λ n. method n c.flow g0) (length_map (λ wire. wire.ty) k.wires)

    rate_is : (n : ℕ) → n < length k.wires → is_marked (needs k InFlow list) n ≡ true → cell y.regs n ≡ held rates n
    rate_is n low marked = ap (λ (d : Doing). cell d.regs n) flow_is ∙ it.regs n low marked

    pub flow_fault_same : kernel_fault k (flow_moment k j) rates ≡ code_fault y
    flow_fault_same = it.fault ∙ ap (λ d. code_fault d) (sym flow_is)

    slope_at : (n slope : ℕ) (mem : KMem) → slice_get k.mems n ≡ Some mem → mem.slope ≡ Some slope → IsSlope k mem.ty (Some slope)
    slope_at n slope mem is by = subst (λ o. IsSlope k mem.ty o) by (memory_at k ranks list well are order n mem is).slope

    slope_is : (n slope : ℕ) (mem : KMem) → slice_get k.mems n ≡ Some mem → mem.slope ≡ Some slope → cell y.regs slope ≡ held rates slope
    slope_is n slope mem is by =
        let low = there k ranks list well are order (slope_at n slope mem is by).1 in
        rate_is slope low (marked_rate k list well order n slope mem is by low)

    memories_beside : AreBeside j.table rates y.regs k.mems i.table.mems
    memories_beside n slope mem is by = (at.same.mems n mem is (ap (λ o. is_some o || is_marked (held_memories k) n) by), slope_is n slope mem is by)

    site_slope_is : (n : ℕ) (site : KSite) → slice_get k.sites n ≡ Some site → held rates site.slope ≡ cell y.regs site.slope
    site_slope_is n site is =
        let low = there k ranks list well are order (site_at k ranks list well are order n site is).slope in
        sym (rate_is site.slope low (marked_slope k list well order n site is low))

    pub flow_lacks_same : kernel_flow_lacks k j rates ≡ flow_lacks c i.table.regs i.table.mems y.regs
    flow_lacks_same =
        ap₂ (λ a b. a || b)
        (any_mapped (λ (site : KSite). is_active j.table site && is_none (held rates site.slope)) (lacks_of (λ site. site.slope) i.table.regs y.regs) site_of k.sites
        (λ n site is. ap₂ (λ v w. is_some v && is_none w) (value_is k ranks list well are order i.kind i.table j.table at.same n site is) (site_slope_is n site is)))
        (slopes_same j.table rates y.regs k.mems i.table.mems at.same.count memories_beside)

    pub moves_same : (d : Fraction) → first_wide (move_tests j.time d (kernel_motions j.table rates k.mems)) ≡ first_wide (move_tests i.time d (motions y.regs c.mems i.table.mems))
    moves_same d =
        ap₂ (λ t ms. first_wide (move_tests t d ms)) at.time
        (motions_same j.table rates y.regs k.mems i.table.mems at.same.count memories_beside)

    -- where no slope is missing
    module _ (whole : flow_lacks c i.table.regs i.table.mems y.regs ≡ false) where
      whole_too : kernel_flow_lacks k j rates ≡ false
      whole_too = flow_lacks_same ∙ whole

      site_moved : (s : Fraction) (n : ℕ) (o : Option KSite) → slice_get k.sites n ≡ o → kernel_moved (in_site (λ (site : KSite). site.value) j.table o) (in_site (λ (site : KSite). site.slope) rates o) s ≡ moved_value s (in_site (λ (site : KSite). site.value) j.table o) (in_site (λ (site : KSite). site.slope) rates o)
      site_moved s n None is = refl
      site_moved s n (Some site) is =
          let has = site_at k ranks list well are order n site is in
          moved_same s (held j.table site.value) (held rates site.slope) (typed_wire j.table at.types site.value has.value) (typed_wire rates rates_held site.slope has.slope)
          (none_at (λ (x : KSite). is_active j.table x && is_none (held rates x.slope)) k.sites n site (left_end _ _ whole_too) is)

      -- the sites have the same values
      pub values_same : (B k ranks list well are order).values j (λ s. rates) ≡ (A k ranks list well are order).values i (λ s. y)
      values_same =
          fun_ext
          (λ s.
          fun_ext
          (λ n.
          site_moved s n (slice_get k.sites n) refl
          ∙ ap₂ (λ v w. moved_value s v w)
          (of_sites k ranks list well are order (λ site. site.value) (λ site. site.value) i.table.regs j.table (value_is k ranks list well are order i.kind i.table j.table at.same) n)
          (of_sites k ranks list well are order (λ site. site.slope) (λ site. site.slope) y.regs rates site_slope_is n)))

      memories_moved : (d : Fraction) → SameMemories k ranks list well are order (all_moved y.regs d c.mems i.table.mems) (map (moved_memory j.table rates d) k.mems)
      memories_moved d = record {
        count = moved_count y.regs d c.mems i.table.mems ∙ at.same.count;
        each = λ n mem is needed.
            moved_is j.table rates y.regs d k.mems i.table.mems n mem at.same.count is (at.same.mems n mem is needed)
            (λ slope by.
            let has = slope_at n slope mem is by in (
              slope_is n slope mem is by,
              held_same (held j.table mem.next) ((memory_at k ranks list well are order n mem is).next.typed ∙ has.0) (at.types mem.next (memory_at k ranks list well are order n mem is).next.wire (memory_at k ranks list well are order n mem is).next.is),
              typed_wire rates rates_held slope has.1,
              ap (λ o. stands_still j.table rates mem o) (sym by) ∙ none_at (λ (x : KMem). stands_still j.table rates x x.slope) k.mems n mem (right_end _ _ whole_too) is,
            ))
            ∙ sym (mapped_held (moved_memory j.table rates d) k.mems n mem is);
      }

      -- the left end of the flow, if the move is in the width
      pub left_same : (d : Fraction) → IsReduced d → first_wide (move_tests i.time d (motions y.regs c.mems i.table.mems)) ≡ None → (kind : Kind) → kind ≡ Left → (inputs : List (Option Value)) → inputs ≡ i.inputs → (fired : List ℕ) (memories r : Registers) → r ≡ turn k (record { mode = mode_of kind; inputs = inputs; fired = fired; memories = map (moved_memory j.table rates d) k.mems }) r → HoldsSame k list kind (instant_of c Left (all_moved y.regs d c.mems i.table.mems) inputs []) r × (kernel_fault k (record { mode = mode_of kind; inputs = inputs; fired = fired; memories = memories }) r ≡ code_fault (instant_of c Left (all_moved y.regs d c.mems i.table.mems) inputs []))
      left_same d low fits kind is inputs given_too fired memories r solves =
          let said =
          instant_same k ranks list well are order kind (all_moved y.regs d c.mems i.table.mems) inputs [] fired (map (moved_memory j.table rates d) k.mems) r
          (memories_moved d)
          (λ site less stepping. absurd (let z : false ≡ true = sym (ap (λ t. is_at_step (mode_of t)) is) ∙ stepping in cc))
          (subst (λ l. InputTypes k l) (at.inputs ∙ sym given_too) at.input_types) (left_held k well j.time d j.table rates at.types rates_held low (moves_same d ∙ fits)) solves in
          subst (λ x. HoldsSame k list kind x r × (kernel_fault k (record { mode = mode_of kind; inputs = inputs; fired = fired; memories = memories }) r ≡ code_fault x))
          (ap (λ t. instant_of c t (all_moved y.regs d c.mems i.table.mems) inputs []) is)
          (said.0, fault_same k (mode_of kind) inputs fired memories (map (moved_memory j.table rates d) k.mems) r ∙ said.1)
