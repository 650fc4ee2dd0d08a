-- The kernel that is made of a form is normal at instants, and has the form's inputs and outputs.
use Rattle.std.specs.Prelude.{◌≡◌, ℕ, zero, suc, ◌<◌, true, false, List, [], ◌∷◌, map, slice_get, length, Option, Some, None}
use Rattle.std.specs.List.{AllByRecursion}
use Rattle.std.proofs.Common.{refl, sym, ap, arith, subst}
use Rattle.zl_value.specs.declared.value.Value.TheVariants.{B}
use Rattle.zl_meaning.specs.FlatForm.{FlatForm}
use Rattle.zl_meaning.specs.Reading.{HasNodeRanks}
use Rattle.zl_meaning.specs.Single.{IsSingle}
use Rattle.zl_meaning.specs.WellFormed.{IsWellFormed}
use Rattle.zl_meaning.specs.declared.place.PlaceInfo.{PlaceInfo}
use Rattle.zl_kernel.specs.KernelForm.{KernelForm}
use Rattle.zl_kernel.specs.FlowWires.{is_of_flows}
use Rattle.zl_kernel.specs.declared.wire.Def.TheVariants.{Mem}
use Rattle.zl_normal.specs.KernelParts.{IsWire, IsLit, IsMemory}
use Rattle.zl_normal.specs.Interface.{IsInputOf, AreInputs, IsOutputOf, AreOutputs}
use Rattle.zl_normal.specs.Normal.{IsNormalAtInstants}
use Rattle.zl_normal.specs.MainBlock.{IsMain}
use Rattle.zl_normal.specs.MadeKernel.{IsMadeAtInstants}
use Rattle.zl_normal.specs.Layout.{IsLayout}
use Rattle.zl_normal.specs.Roles.{AreRoles}
use Rattle.zl_normal.specs.Tables.{Tables}
use Rattle.zl_normal.specs.Keys.{keys}
use Rattle.zl_normal.specs.KernelOf.{Numbers, memory_of, input_of, name_of, output_of, kernel_of}
use Rattle.zl_normal.specs.declared.key.Key.{Key}
use Rattle.zl_normal.specs.declared.key.Key.TheVariants.{Step, Fresh, No, Present, Slope}
use Rattle.zl_normal.specs.declared.key.Kept.TheVariants.{First}
use Rattle.zl_normal.proofs.MadeFlows.Kept.{kept}
use Rattle.zl_normal.proofs.MadeFlows.Alone.{slope_alone, present_alone}
use Rattle.zl_normal.proofs.MadeFlows.Placed.{step_there, fresh_there, no_there}
use Rattle.zl_normal.proofs.Made.Wires.{IsMade, has_first, solved_as, memory_as}
use Rattle.zl_normal.proofs.Made.Forms.{form_wire}
use Rattle.zl_normal.proofs.Made.Places.{place_wires, named_last}
use Rattle.zl_normal.proofs.Made.ByUses.{guard_wires}
use Rattle.zl_normal.proofs.Made.Sites.{site_count, site_wires, again_wires}
use Rattle.zl_normal.proofs.Made.Faults.{of_slopes, faults}

module _ (f : FlatForm) (grades : List ℕ) (t : Tables) (n : Numbers) where
  module _ (k : KernelForm) (made : IsMade f grades t n k) (alone : (number : ℕ) (key : Key) → slice_get (keys f grades t) number ≡ Some key → of_slopes key ≡ true → is_of_flows k number ≡ true) where
    first_wires : (m : ℕ) × IsLit k m (B false) × IsMemory k n.wiring.first (Some (B true)) m None
    first_wires = (
      n.wire No,
      solved_as f grades t n k made No (no_there f grades t) refl _ refl (n.wire No) refl,
      memory_as f grades t n k made First (has_first _ _) (memory_of f grades t n First) refl n.wiring.first made.layout.wired.first,
    )

    pub normal_at_instants : IsNormalAtInstants f k n.wiring
    normal_at_instants = record {
      step = solved_as f grades t n k made Step (step_there f grades t) refl _ refl n.wiring.step made.layout.wired.step;
      fresh = subst (λ m. IsWire k n.wiring.fresh (Mem m) None) (sym made.layout.wired.first) (solved_as f grades t n k made Fresh (fresh_there f grades t) refl _ refl n.wiring.fresh made.layout.wired.fresh);
      first = first_wires;
      forms = form_wire f grades t n k made;
      guards = guard_wires f grades t n k made;
      places = place_wires f grades t n k made;
      lasts = named_last f grades t n k made;
      faults = faults f grades t n k made alone;
      site_count = site_count f grades t n k made;
      sites = site_wires f grades t n k made;
      again = again_wires f grades t n k made;
    }

  -- the inputs and the outputs
  module _ (names : List (List ℕ)) where
    pub place_at : (p : ℕ) → p < length f.places → (place : PlaceInfo) × (slice_get f.places p ≡ Some place)
    place_at p below = by (slice_get f.places p) refl
      where
        by : (o : Option PlaceInfo) → slice_get f.places p ≡ o → (place : PlaceInfo) × (slice_get f.places p ≡ Some place)
        by None e = absurd (past f.places p below e)
          where
            past : {X : Type 0} (xs : List X) (p : ℕ) → p < length xs → slice_get xs p ≡ None → ⊥
            past [] p below e = omega (arith, below)
            past (x ∷ xs) zero below e = cc
            past (x ∷ xs) (suc p) below e = past xs p (omega (arith, below)) e
        by (Some place) e = (place, e)

    pub inputs : (ps : List ℕ) → AllByRecursion (λ p. p < length f.places) ps → AreInputs f names n.wiring ps (map (λ p. input_of f grades t n names (slice_get f.places p)) ps)
    inputs [] all = tt
    inputs (p ∷ ps) all = (one (place_at p all.0), inputs ps all.1)
      where
        one : ((place : PlaceInfo) × (slice_get f.places p ≡ Some place)) → IsInputOf f names n.wiring p (input_of f grades t n names (slice_get f.places p))
        one at = record {
          place = at.0;
          is = at.1;
          name = ap (λ o. (input_of f grades t n names o).name) at.1;
          typed = ap (λ o. (input_of f grades t n names o).ty) at.1;
        }

    pub outputs : (ps : List ℕ) → AllByRecursion (λ p. p < length f.places) ps → AreOutputs f names n.wiring ps (map (output_of f grades t n names) ps)
    outputs [] all = tt
    outputs (p ∷ ps) all = (one (place_at p all.0), outputs ps all.1)
      where
        one : ((place : PlaceInfo) × (slice_get f.places p ≡ Some place)) → IsOutputOf f names n.wiring p (output_of f grades t n names p)
        one at = record { place = at.0; is = at.1; name = ap (λ o. name_of f grades t n names o) at.1; wire = refl }

    -- the premises hold of the kernel that is made
    module _ (formed : IsWellFormed f) (main : IsMain f) (single : IsSingle f) (entries : HasNodeRanks f) (roles : AreRoles f t.roles) (layout : IsLayout f grades t n) where
      pub made_so : IsMade f grades t n (kernel_of f grades t n names)
      made_so = record {
        formed = formed;
        main = main;
        single = single;
        roles = roles;
        layout = layout;
        wires = refl;
        mems = refl;
        sites = refl;
        again = refl;
        kept = kept f grades t n names formed entries layout;
      }

      alone : (number : ℕ) (key : Key) → slice_get (keys f grades t) number ≡ Some key → of_slopes key ≡ true → is_of_flows (kernel_of f grades t n names) number ≡ true
      alone number (Present j) at e =
          subst (λ m. is_of_flows (kernel_of f grades t n names) m ≡ true) (layout.wires number (Present j) at)
          (present_alone f grades t n names formed main single entries roles layout j (record { index = number; is = at }))
      alone number (Slope j) at e = subst (λ m. is_of_flows (kernel_of f grades t n names) m ≡ true) (layout.wires number (Slope j) at) (slope_alone f grades t n names layout j (record { index = number; is = at }))
      alone number key at e = absurd cc

      pub made_at_instants : IsMadeAtInstants f grades t n names
      made_at_instants = record {
        instants = normal_at_instants (kernel_of f grades t n names) made_so alone;
        ins = inputs f.ins formed.ins;
        outs = outputs f.outs formed.outs;
      }
