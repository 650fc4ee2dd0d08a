-- The wires and memories of the kernel that is made of a form, by what they stand for.
use Rattle.std.specs.Prelude.{◌≡◌, ℕ, suc, true, false, List, ◌∷◌, map, slice_get, Some}
use Rattle.std.specs.Option.{option_map}
use Rattle.std.proofs.Common.{refl, sym, ap, ◌∙◌, arith, subst}
use Rattle.std.proofs.lemmas.Option.{slice_get-map}
use Rattle.zl_value.specs.Lists.{Has}
use Rattle.zl_meaning.specs.FlatForm.{FlatForm}
use Rattle.zl_meaning.specs.Single.{IsSingle}
use Rattle.zl_meaning.specs.WellFormed.{IsWellFormed}
use Rattle.zl_meaning.specs.declared.place.PlaceInfo.{PlaceInfo}
use Rattle.zl_meaning.specs.declared.occurrence.Form.{Form}
use Rattle.zl_meaning.specs.declared.occurrence.Occ.{Occ}
use Rattle.zl_meaning.proofs.Members.{has-left, has-right}
use Rattle.zl_kernel.specs.KernelForm.{KernelForm}
use Rattle.zl_kernel.specs.FlowWires.{is_of_flows}
use Rattle.zl_kernel.specs.declared.wire.Wire.{Wire}
use Rattle.zl_kernel.specs.declared.memory.KMem.{KMem}
use Rattle.zl_normal.specs.KernelParts.{IsWire, IsMemory}
use Rattle.zl_normal.specs.MainBlock.{IsMain}
use Rattle.zl_normal.specs.Tables.{Tables}
use Rattle.zl_normal.specs.Keys.{each, keys, value_keys, guard_keys, place_memories, form_memories, occ_memories, memories}
use Rattle.zl_normal.specs.KernelOf.{Numbers, value_wire, rest_wire, next_wire, other_wire, guard_wire, wire_of, memory_of, site_of, any_again}
use Rattle.zl_normal.specs.Layout.{AreNumbered, IsLayout}
use Rattle.zl_normal.specs.Roles.{AreRoles}
use Rattle.zl_normal.specs.declared.role.Role.{Role}
use Rattle.zl_normal.specs.declared.key.Key.{Key}
use Rattle.zl_normal.specs.declared.key.Key.TheVariants.{Value, Rest, Next, Other, Guard}
use Rattle.zl_normal.specs.declared.key.Kept.{Kept}
use Rattle.zl_normal.proofs.MadeFlows.Placed.{at_instants, numbered, each-has, value_there, guard_there}

-- kernel `k` is made of the form by this layout
pub record IsMade (f : FlatForm) (grades : List ℕ) (t : Tables) (n : Numbers) (k : KernelForm) : Type 0 where
  pub formed : IsWellFormed f
  pub main : IsMain f
  pub single : IsSingle f
  pub roles : AreRoles f t.roles
  pub layout : IsLayout f grades t n
  pub wires : k.wires ≡ map (wire_of f grades t n) (keys f grades t)
  pub mems : k.mems ≡ map (memory_of f grades t n) (memories f grades t)
  pub sites : k.sites ≡ map (site_of f grades t n) f.sites
  pub again : k.again ≡ any_again f grades t n f.again
  pub kept : (number : ℕ) (key : Key) → slice_get (keys f grades t) number ≡ Some key → at_instants key ≡ true → is_of_flows k number ≡ false

-- wire number `m` is this one, and is solved at instants
pub record IsSolvedAt (k : KernelForm) (m : ℕ) (wire : Wire) : Type 0 where
  pub is : slice_get k.wires m ≡ Some wire
  pub kept : is_of_flows k m ≡ false

abbrev pub as_wire : (k : KernelForm) (m : ℕ) (wire : Wire) → IsSolvedAt k m wire → IsWire k m wire.def wire.guard
as_wire k m wire s = record { wire = wire; is = s.is; def_is = refl; guard_is = refl; kept = s.kept }

-- what is listed stands where its number says
numbered_kept : {X : Type 0} (xs : List X) (number : X → ℕ) → AreNumbered xs number → (x : X) → Has xs x → slice_get xs (number x) ≡ Some x
numbered_kept xs number are x h = subst (λ m. slice_get xs m ≡ Some x) (sym (are h.index x h.is)) h.is

-- the first of a list
pub has_first : {X : Type 0} (x : X) (xs : List X) → Has (x ∷ xs) x
has_first x xs = record { index = 0; is = refl }

module _ (f : FlatForm) (grades : List ℕ) (t : Tables) (n : Numbers) (k : KernelForm) (made : IsMade f grades t n k) where
  -- what is listed has a wire
  pub wire_there : (key : Key) → Has (keys f grades t) key → slice_get k.wires (n.wire key) ≡ Some (wire_of f grades t n key)
  wire_there key h =
      ap (λ ws. slice_get ws (n.wire key)) made.wires
      ∙ slice_get-map (wire_of f grades t n) (keys f grades t) (n.wire key)
      ∙ ap (λ o. option_map (wire_of f grades t n) o) (numbered (keys f grades t) n.wire made.layout.wires key h)

  pub solved_at : (key : Key) → Has (keys f grades t) key → at_instants key ≡ true → (wire : Wire) → wire_of f grades t n key ≡ wire → (m : ℕ) → m ≡ n.wire key → IsSolvedAt k m wire
  solved_at key h solved wire same m e = record {
    is = ap (λ i. slice_get k.wires i) e ∙ wire_there key h ∙ ap (λ v. Some v) same;
    kept = ap (λ i. is_of_flows k i) e ∙ made.kept (n.wire key) key (numbered (keys f grades t) n.wire made.layout.wires key h) solved;
  }

  pub solved_as : (key : Key) → Has (keys f grades t) key → at_instants key ≡ true → (wire : Wire) → wire_of f grades t n key ≡ wire → (m : ℕ) → m ≡ n.wire key → IsWire k m wire.def wire.guard
  solved_as key h solved wire same m e = as_wire k m wire (solved_at key h solved wire same m e)

  -- and a memory
  pub memory_as : (kept : Kept) → Has (memories f grades t) kept → (mem : KMem) → memory_of f grades t n kept ≡ mem → (m : ℕ) → m ≡ n.memory kept → IsMemory k m mem.start mem.next mem.slope
  memory_as kept h mem same m e = record {
    mem = mem;
    is = ap (λ i. slice_get k.mems i) e ∙ there ∙ ap (λ v. Some v) same;
    start_is = refl;
    next_is = refl;
    slope_is = refl;
  }
    where
      there : slice_get k.mems (n.memory kept) ≡ Some (memory_of f grades t n kept)
      there =
          ap (λ ms. slice_get ms (n.memory kept)) made.mems
          ∙ slice_get-map (memory_of f grades t n) (memories f grades t) (n.memory kept)
          ∙ ap (λ o. option_map (memory_of f grades t n) o) (numbered_kept (memories f grades t) n.memory made.layout.memories kept h)

  -- the value of an occurrence of this form
  module _ (j : ℕ) (occ : Occ) (is : slice_get f.occs j ≡ Some occ) (form : Form) (of : occ.form ≡ form) where
    listed_value : (key : Key) → Has (value_keys f grades t j form) key → Has (keys f grades t) key
    listed_value key h = value_there f grades t j occ key is (subst (λ form. Has (value_keys f grades t j form) key) (sym of) h)

    value_is : wire_of f grades t n (Value j) ≡ value_wire f grades t n j occ form
    value_is = rw is (ap (λ form. value_wire f grades t n j occ form) of)

    pub value_at : Has (value_keys f grades t j form) (Value j) → (m : ℕ) → m ≡ n.wire (Value j) → IsSolvedAt k m (value_wire f grades t n j occ form)
    value_at h m e = solved_at (Value j) (listed_value (Value j) h) refl (value_wire f grades t n j occ form) value_is m e

    pub value_as : Has (value_keys f grades t j form) (Value j) → (m : ℕ) → m ≡ n.wire (Value j) → IsWire k m (value_wire f grades t n j occ form).def (value_wire f grades t n j occ form).guard
    value_as h m e = solved_as (Value j) (listed_value (Value j) h) refl (value_wire f grades t n j occ form) value_is m e

    rest_is : (i : ℕ) → wire_of f grades t n (Rest j i) ≡ rest_wire f grades t n j i form
    rest_is i = rw is (ap (λ form. rest_wire f grades t n j i form) of)

    pub rest_as : (i : ℕ) → Has (value_keys f grades t j form) (Rest j i) → (m : ℕ) → m ≡ n.wire (Rest j i) → IsWire k m (rest_wire f grades t n j i form).def (rest_wire f grades t n j i form).guard
    rest_as i h m e = solved_as (Rest j i) (listed_value (Rest j i) h) refl (rest_wire f grades t n j i form) (rest_is i) m e

    next_is : wire_of f grades t n (Next j) ≡ next_wire f grades t n form occ.ty
    next_is = rw is (ap (λ form. next_wire f grades t n form occ.ty) of)

    pub next_as : Has (value_keys f grades t j form) (Next j) → (m : ℕ) → m ≡ n.wire (Next j) → IsWire k m (next_wire f grades t n form occ.ty).def (next_wire f grades t n form occ.ty).guard
    next_as h m e = solved_as (Next j) (listed_value (Next j) h) refl (next_wire f grades t n form occ.ty) next_is m e

    pub occ_memory_there : (kept : Kept) → Has (form_memories f grades t j form) kept → Has (memories f grades t) kept
    occ_memory_there kept h =
        let own : Has (occ_memories f grades t j occ) kept = subst (λ form. Has (form_memories f grades t j form) kept) (sym of) h in
        let there = has-right (each (place_memories f grades t) 0 f.places) (each (occ_memories f grades t) 0 f.occs) kept (each-has (occ_memories f grades t) 0 f.occs kept (record { index = j; number = j; entry = occ; is = is; counted = omega arith; has = own })) in
        record { index = suc there.index; is = there.is }

  -- the memories of a place
  pub place_memory_there : (p : ℕ) (place : PlaceInfo) (kept : Kept) → slice_get f.places p ≡ Some place → Has (place_memories f grades t p place) kept → Has (memories f grades t) kept
  place_memory_there p place kept is h =
      let there = has-left (each (place_memories f grades t) 0 f.places) (each (occ_memories f grades t) 0 f.occs) kept (each-has (place_memories f grades t) 0 f.places kept (record { index = p; number = p; entry = place; is = is; counted = omega arith; has = h })) in
      record { index = suc there.index; is = there.is }

  -- the guard of an occurrence that is used so
  module _ (j : ℕ) (occ : Occ) (is : slice_get f.occs j ≡ Some occ) (role : Role) (at : slice_get t.roles j ≡ Some role) where
    listed_guard : (key : Key) → Has (guard_keys f grades t j (Some role)) key → Has (keys f grades t) key
    listed_guard key h = guard_there f grades t j occ key is (subst (λ o. Has (guard_keys f grades t j o) key) (sym at) h)

    pub guard_as : Has (guard_keys f grades t j (Some role)) (Guard j) → (m : ℕ) → m ≡ n.wire (Guard j) → IsWire k m (guard_wire f grades t n j (Some role)).def (guard_wire f grades t n j (Some role)).guard
    guard_as h m e = solved_as (Guard j) (listed_guard (Guard j) h) refl (guard_wire f grades t n j (Some role)) (ap (λ o. guard_wire f grades t n j o) at) m e

    pub other_as : Has (guard_keys f grades t j (Some role)) (Other j) → (m : ℕ) → m ≡ n.wire (Other j) → IsWire k m (other_wire f grades t n (Some role)).def (other_wire f grades t n (Some role)).guard
    other_as h m e = solved_as (Other j) (listed_guard (Other j) h) refl (other_wire f grades t n (Some role)) (ap (λ o. other_wire f grades t n o) at) m e
