-- The marks find the wires of flows alone.
use Rattle.std.specs.Prelude.{◌≡◌, ℕ, zero, suc, ◌<◌, ◌+◌, Bool, true, false, nat_eq, not, ◌&&◌, ◌||◌, if◌then◌else◌, List, [], ◌∷◌, length, map}
use Rattle.std.specs.List.{list_any, flat_map}
use Rattle.std.proofs.Common.{refl, sym, ap, ap₂, ◌∙◌, arith, subst}
use Rattle.std.proofs.lemmas.List.{length-replicate}
use Rattle.zl_value.specs.Lists.{among, listed}
use Rattle.zl_value.specs.declared.script.Output.{Output}
use Rattle.zl_kernel.specs.KernelForm.{KernelForm}
use Rattle.zl_kernel.specs.FlowWires.{reads, listed_in, is_slope, is_kept, has_reader, are_slopes, is_of_flows}
use Rattle.zl_kernel.specs.declared.wire.Wire.{Wire}
use Rattle.zl_kernel.specs.declared.memory.KMem.{KMem}
use Rattle.zl_kernel.specs.declared.site.KSite.{KSite}
use Rattle.zl_codegen.specs.Needs.{marked, is_marked, flow_wires}
use Rattle.zl_codegen.specs.FlowTables.{none, slopes, kept, read, read_from, read_otherwise, is_found, found}
use Rattle.zl_codegen.proofs.MarkTests.{marked_is, length-marked, among-append, among-map, among-flat_map, any_or, none_marked, or_assoc, or-false}

-- lists that are made by number are equal where what is made is
listed_same : {X : Type 0} (n j : ℕ) (f g : ℕ → X) → ((i : ℕ) → i < j + n → f i ≡ g i) → listed n j f ≡ listed n j g
listed_same zero j f g same = refl
listed_same (suc n) j f g same = ap₂ (λ x xs. x ∷ xs) (same j (omega arith)) (listed_same n (suc j) f g (λ i less. same i (omega arith)))

module _ (k : KernelForm) (n : ℕ) (less : n < length k.wires) where
  there : (marks : List Bool) → length marks ≡ length k.wires → n < length marks
  there marks is = subst (λ m. n < m) (sym is) less

  length-none : length (none k) ≡ length k.wires
  length-none = length-replicate (length k.wires) false

  -- these and what was marked before, of which it is known what it says
  more : (ns : List ℕ) (marks : List Bool) (test before : Bool) → length marks ≡ length k.wires → among n ns ≡ test → is_marked marks n ≡ before → is_marked (marked ns marks) n ≡ (test || before)
  more ns marks test before long is was = marked_is ns marks n (there marks long) ∙ ap₂ (λ a b. a || b) is was

  slopes_is : is_marked (slopes k) n ≡ is_slope k n
  slopes_is =
      let sites = map (λ (site : KSite). site.slope) k.sites in
      let mems = flat_map (λ (mem : KMem). listed_in mem.slope) k.mems in
      let one = more sites (none k) _ _ length-none (among-map (λ (site : KSite). site.slope) n k.sites) (none_marked (length k.wires) n) ∙ or-false _ in
      let one-long = length-marked sites (none k) ∙ length-none in
      let two = more mems (marked sites (none k)) _ _ one-long (among-flat_map (λ (mem : KMem). listed_in mem.slope) n k.mems) one in
      more (flat_map (λ (wire : Wire). listed_in wire.slope) k.wires) (marked mems (marked sites (none k))) _ _ (length-marked mems (marked sites (none k)) ∙ one-long) (among-flat_map (λ (wire : Wire). listed_in wire.slope) n k.wires) two
      ∙ sym (or_assoc (list_any (λ (wire : Wire). among n (listed_in wire.slope)) k.wires) (list_any (λ (mem : KMem). among n (listed_in mem.slope)) k.mems) (list_any (λ (site : KSite). nat_eq site.slope n) k.sites))

  kept_is : is_marked (kept k) n ≡ is_kept k n
  kept_is =
      let mems = map (λ (mem : KMem). mem.next) k.mems in
      let fresh = map (λ (site : KSite). site.fresh) k.sites in
      let values = map (λ (site : KSite). site.value) k.sites in
      let m1 = marked mems (none k) in
      let m2 = marked (k.again ∷ []) m1 in
      let m3 = marked fresh m2 in
      let m4 = marked values m3 in
      let l1 = length-marked mems (none k) ∙ length-none in
      let l2 = length-marked (k.again ∷ []) m1 ∙ l1 in
      let l3 = length-marked fresh m2 ∙ l2 in
      let l4 = length-marked values m3 ∙ l3 in
      let one = more mems (none k) _ _ length-none (among-map (λ (mem : KMem). mem.next) n k.mems) (none_marked (length k.wires) n) ∙ or-false _ in
      let two = more (k.again ∷ []) m1 _ _ l1 (or-false (nat_eq k.again n)) one in
      let three = more fresh m2 _ _ l2 (among-map (λ (site : KSite). site.fresh) n k.sites) two in
      let four = more values m3 _ _ l3 (among-map (λ (site : KSite). site.value) n k.sites) three in
      let joined = sym (or_assoc (list_any (λ (site : KSite). nat_eq site.value n) k.sites) (list_any (λ (site : KSite). nat_eq site.fresh n) k.sites) (nat_eq k.again n || list_any (λ (mem : KMem). nat_eq mem.next n) k.mems))
      ∙ ap (λ b. b || (nat_eq k.again n || list_any (λ (mem : KMem). nat_eq mem.next n) k.mems)) (sym (any_or (λ (site : KSite). nat_eq site.value n) (λ (site : KSite). nat_eq site.fresh n) k.sites)) in
      more (map (λ (out : Output). out.«from») k.outs) m4 _ _ l4 (among-map (λ (out : Output). out.«from») n k.outs) (four ∙ joined)
      ∙ sym (or_assoc (list_any (λ (out : Output). nat_eq out.«from» n) k.outs) (list_any (λ (site : KSite). nat_eq site.value n || nat_eq site.fresh n) k.sites) (nat_eq k.again n || list_any (λ (mem : KMem). nat_eq mem.next n) k.mems))
      ∙ sym (or_assoc (list_any (λ (out : Output). nat_eq out.«from» n) k.outs || list_any (λ (site : KSite). nat_eq site.value n || nat_eq site.fresh n) k.sites) (nat_eq k.again n) (list_any (λ (mem : KMem). nat_eq mem.next n) k.mems))

  read_is : is_marked (read k) n ≡ has_reader n k.wires
  read_is = more (flat_map reads k.wires) (none k) _ _ length-none (among-flat_map reads n k.wires) (none_marked (length k.wires) n) ∙ or-false _

  turned : (a b c : Bool) → not ((if a then false else b) || c) ≡ ((not b || a) && not c)
  turned true true c = refl
  turned true false c = refl
  turned false true c = refl
  turned false false c = refl

  among_unless : (a : Bool) (ns : List ℕ) → among n (if a then [] else ns) ≡ (if a then false else among n ns)
  among_unless true ns = refl
  among_unless false ns = refl

  others_is : (j : ℕ) (wires : List Wire) → ((i : ℕ) → i < j + length wires → is_marked (slopes k) i ≡ is_slope k i) → not (among n (read_from (slopes k) j wires)) ≡ are_slopes k n j wires
  others_is j [] same = refl
  others_is j (wire ∷ wires) same =
      ap not (among-append n (if is_marked (slopes k) j then [] else reads wire) (read_from (slopes k) (suc j) wires) ∙ ap (λ b. b || among n (read_from (slopes k) (suc j) wires)) (among_unless (is_marked (slopes k) j) (reads wire)))
      ∙ turned (is_marked (slopes k) j) (among n (reads wire)) (among n (read_from (slopes k) (suc j) wires))
      ∙ ap₂ (λ a b. (not (among n (reads wire)) || a) && b) (same j (omega arith)) (others_is (suc j) wires (λ i below. same i (omega arith)))

  otherwise_is : ((i : ℕ) → i < length k.wires → is_marked (slopes k) i ≡ is_slope k i) → not (is_marked (read_otherwise k) n) ≡ are_slopes k n 0 k.wires
  otherwise_is same =
      ap not (more (read_from (slopes k) 0 k.wires) (none k) _ _ length-none refl (none_marked (length k.wires) n) ∙ or-false _)
      ∙ others_is 0 k.wires (λ i below. same i (omega arith))

pub found_is : (k : KernelForm) → found k ≡ flow_wires k
unfolding is_of_flows
found_is k = listed_same (length k.wires) 0 (is_found (slopes k) (kept k) (read k) (read_otherwise k)) (λ n. is_of_flows k n) (λ n below.
    let less : n < length k.wires = omega arith in
    ap₂ (λ a b. a || b) (slopes_is k n less) (ap₂ (λ a b. not a && b) (kept_is k n less) (ap₂ (λ a b. a && b) (read_is k n less) (otherwise_is k n less (λ i l. slopes_is k i l)))))

-- the marks of slopes, one kind after the other
pub slopes_by : (k : KernelForm) (sites : List KSite) (mems : List KMem) (wires : List Wire) (a b c d : List Bool) → sites ≡ k.sites → mems ≡ k.mems → wires ≡ k.wires → a ≡ none k → b ≡ marked (map (λ (site : KSite). site.slope) sites) a → c ≡ marked (flat_map (λ (mem : KMem). listed_in mem.slope) mems) b → d ≡ marked (flat_map (λ (wire : Wire). listed_in wire.slope) wires) c → d ≡ slopes k
slopes_by k sites mems wires a b c d s m w begin one two three =
    three
    ∙ ap₂ (λ ws marks. marked (flat_map (λ (wire : Wire). listed_in wire.slope) ws) marks) w
    (two ∙ ap₂ (λ ms marks. marked (flat_map (λ (mem : KMem). listed_in mem.slope) ms) marks) m (one ∙ ap₂ (λ ss marks. marked (map (λ (site : KSite). site.slope) ss) marks) s begin))
