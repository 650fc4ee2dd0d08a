-- The kernel that is made of a form is well formed.
use Rattle.std.specs.Prelude.{◌≡◌, ℕ, suc, ◌<◌, List, [], ◌∷◌, map, length, slice_get, Option, Some, None}
use Rattle.std.specs.List.{AllByRecursion}
use Rattle.std.specs.Option.{option_map}
use Rattle.std.proofs.Common.{refl, sym, ap, ◌∙◌, arith, subst}
use Rattle.std.proofs.lemmas.Option.{slice_get-map, slice_get_within}
use Rattle.zl_value.specs.Lists.{Has}
use Rattle.zl_value.specs.declared.value.Ty.TheVariants.{Zero as ZeroTy}
use Rattle.zl_value.specs.declared.script.Input.{Input}
use Rattle.zl_lexer.specs.Words.{IsIdentifier}
use Rattle.zl_meaning.specs.FlatForm.{FlatForm}
use Rattle.zl_meaning.specs.Reading.{HasNodeRanks}
use Rattle.zl_meaning.specs.Single.{IsSingle}
use Rattle.zl_meaning.specs.WellFormed.{IsWellFormed}
use Rattle.zl_meaning.specs.declared.place.PlaceInfo.{PlaceInfo}
use Rattle.zl_meaning.proofs.Members.{all-has}
use Rattle.zl_kernel.specs.KernelForm.{KernelForm}
use Rattle.zl_kernel.specs.WellFormed.{IsInput, IsOutput, HasInput, IsWire, IsMemory, IsSite, AreDifferent, IsWellFormed as IsKernel}
use Rattle.zl_normal.specs.MainBlock.{IsMain}
use Rattle.zl_normal.specs.Tables.{Tables}
use Rattle.zl_normal.specs.Keys.{keys, memories}
use Rattle.zl_normal.specs.HasSlopes.{HasSlopes}
use Rattle.zl_normal.specs.HasNames.{name_among, place_name, HasNames}
use Rattle.zl_normal.specs.KernelOf.{Numbers, wire_of, memory_of, site_of, input_of, name_of, output_of, kernel_of}
use Rattle.zl_normal.specs.Layout.{IsLayout}
use Rattle.zl_normal.specs.Roles.{AreRoles}
use Rattle.zl_normal.proofs.MadeFlows.InFlows.{normal_in_flows}
use Rattle.zl_normal.proofs.Made.Wires.{IsMade}
use Rattle.zl_normal.proofs.Made.Kernel.{place_at, made_so, made_at_instants}
use Rattle.zl_normal.proofs.Made.Sites.{map_length}
use Rattle.zl_normal.proofs.Made.Types.{place_typed}
use Rattle.zl_normal.proofs.Made.WireTypes.{wire_fits}
use Rattle.zl_normal.proofs.Made.MemoryTypes.{all_mapped, memory_fits, site_fits, again_typed}
use Rattle.zl_normal.proofs.Made.FaultOrder.{in_order}

-- lists of different names
different : {X : Type 0} (make : X → Input) (xs : List X) → ((m n : ℕ) (x y : X) → slice_get xs m ≡ Some x → slice_get xs n ≡ Some y → (make x).name ≡ (make y).name → m ≡ n) → AreDifferent (map make xs)
different make [] once = tt
different {X = X} make (x ∷ xs) once = (all_mapped _ make xs other, different make xs (λ m n y z at_m at_n e. let same = once (suc m) (suc n) y z at_m at_n e in omega (arith, same)))
  where
    other : (y : X) → Has xs y → (make y).name ≡ (make x).name → ⊥
    other y h e = let same = once (suc h.index) 0 y x h.is refl e in omega (arith, same)

module _ (f : FlatForm) (grades : List ℕ) (t : Tables) (n : Numbers) (names : List (List ℕ)) where
  abbrev input : ℕ → Input
  input p = input_of f grades t n names (slice_get f.places p)

  input_name : (p : ℕ) → (input_of f grades t n names (slice_get f.places p)).name ≡ place_name f names p
  input_name p = by (slice_get f.places p)
    where
      by : (o : Option PlaceInfo) → (input_of f grades t n names o).name ≡ name_among names o
      by None = refl
      by (Some place) = refl

  output_name : (p : ℕ) → (output_of f grades t n names p).name ≡ place_name f names p
  output_name p = by (slice_get f.places p)
    where
      by : (o : Option PlaceInfo) → name_of f grades t n names o ≡ name_among names o
      by None = refl
      by (Some place) = refl

  module _ (formed : IsWellFormed f) (named : HasNames f names) where
    -- the inputs
    input_value : (o : Option PlaceInfo) (p : ℕ) → slice_get f.places p ≡ o → (input_of f grades t n names o).ty ≡ ZeroTy → ⊥
    input_value None p is e = cc
    input_value (Some place) p is e = (formed.places p place is).value e

    inputs_fit : AllByRecursion IsInput (map input f.ins)
    inputs_fit = all_mapped IsInput input f.ins (λ p h. record {
      name = subst (λ name. IsIdentifier name) (sym (input_name p)) (all-has (λ p. IsIdentifier (place_name f names p)) f.ins p named.ins h);
      value = input_value (slice_get f.places p) p refl;
    })

    inputs_differ : AreDifferent (map input f.ins)
    inputs_differ = different input f.ins (λ a b p q at_a at_b e. named.differ a b p q at_a at_b (sym (input_name p) ∙ e ∙ input_name q))

  module _ (formed : IsWellFormed f) (main : IsMain f) (single : IsSingle f) (entries : HasNodeRanks f) (roles : AreRoles f t.roles) (has : HasSlopes f grades) (layout : IsLayout f grades t n) (named : HasNames f names) where
    abbrev k : KernelForm
    k = kernel_of f grades t n names

    made : IsMade f grades t n (kernel_of f grades t n names)
    made = made_so f grades t n names formed main single entries roles layout

    input_there : (i p : ℕ) (place : PlaceInfo) → slice_get f.ins i ≡ Some p → slice_get f.places p ≡ Some place → HasInput (kernel_of f grades t n names) place.ty i
    input_there i p place at is = record {
      input = input_of f grades t n names (slice_get f.places p);
      is = slice_get-map input f.ins i ∙ ap (λ o. option_map input o) at;
      typed = ap (λ o. (input_of f grades t n names o).ty) is;
    }

    outputs_fit : AllByRecursion (IsOutput (kernel_of f grades t n names)) (map (output_of f grades t n names) f.outs)
    outputs_fit = all_mapped (IsOutput (kernel_of f grades t n names)) (output_of f grades t n names) f.outs one
      where
        one : (p : ℕ) → Has f.outs p → IsOutput (kernel_of f grades t n names) (output_of f grades t n names p)
        one p h =
            let at = place_at f grades t n names p (all-has (λ p. p < length f.places) f.outs p formed.outs h) in
            let typed = place_typed f grades t n (kernel_of f grades t n names) made entries p at.0 at.1 in
            record {
              name = subst (λ name. IsIdentifier name) (sym (output_name p)) (all-has (λ p. IsIdentifier (place_name f names p)) f.outs p named.outs h);
              wire = slice_get_within (kernel_of f grades t n names).wires (n.wiring.P p) typed.wire typed.is;
            }

    pub formed_kernel : IsKernel (kernel_of f grades t n names)
    formed_kernel = record {
      wires = all_mapped (IsWire k) (wire_of f grades t n) (keys f grades t) (wire_fits f grades t n k made entries has input_there);
      mems = all_mapped (IsMemory k) (memory_of f grades t n) (memories f grades t) (memory_fits f grades t n k made entries);
      sites = all_mapped (IsSite k) (site_of f grades t n) f.sites (λ site h. site_fits f grades t n k made entries h.index site h.is);
      ins = inputs_fit formed named;
      names = inputs_differ formed named;
      outs = outputs_fit;
      some = let count = map_length (output_of f grades t n names) f.outs in let some = named.some in omega (arith, count, some);
      again = again_typed f grades t n k made entries f.again refl;
      order = in_order f grades k n.wiring (made_at_instants f grades t n names formed main single entries roles layout).instants (normal_in_flows f grades t n names formed main single entries roles has layout);
    }
