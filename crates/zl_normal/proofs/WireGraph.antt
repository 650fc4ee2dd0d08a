-- Where a kernel's wires have ranks, the numbers of its graph are ranks too.
use Rattle.std.proofs.Common.{◌≡◌, ◌⊎◌, inl, inr, ℕ, zero, suc, ◌+◌, ◌<◌, ◌≤◌, Bool, List, [], ◌∷◌, length, get_or, slice_get, Some, refl, sym, ap, subst, arith}
use Rattle.std.specs.List.{flat_map}
use Rattle.std.proofs.lemmas.List.{get_or_past}
use Rattle.std.proofs.lemmas.Bool.{cases_lt}
use Rattle.std.proofs.lemmas.Option.{slice_get_within}
use Rattle.zl_value.specs.Lists.{Has}
use Rattle.zl_meaning.proofs.Members.{has-left, has-right, has-none, has-case, has-flat_map, has-flat_map_from, has-append_case}
use Rattle.zl_graph.specs.declared.graph.Link.{Link}
use Rattle.zl_graph.specs.Graph.{IsLinked}
use Rattle.zl_graph.specs.Circles.{AreCircles}
use Rattle.zl_graph.proofs.Falls.{ranked_falls}
use Rattle.zl_kernel.specs.KernelForm.{KernelForm}
use Rattle.zl_kernel.specs.FlowWires.{operands, listed_in, reads}
use Rattle.zl_kernel.specs.WireRanks.{AreWireRanks}
use Rattle.zl_kernel.specs.declared.wire.Wire.{Wire}
use Rattle.zl_normal.specs.WireLinks.{link_of, reading, wire_links, links_from, AreFirstNumbers}

-- ---- a wire is linked to what it reads

reading_link : (n j : ℕ) (ks : List ℕ) → Has ks j → Has (flat_map (reading n) ks) (link_of n j)
reading_link n j ks has = has-flat_map (reading n) ks j (link_of n j) has (record { index = 0; is = refl })

wire_link : (n j : ℕ) (wire : Wire) → Has (reads wire) j → Has (wire_links n wire) (link_of n j)
wire_link n j wire has = by_case (has-append_case (listed_in wire.guard) (operands wire.def) j has)
  where
    guards : List Link
    guards = flat_map (reading n) (listed_in wire.guard)

    made : List Link
    made = flat_map (reading n) (operands wire.def)

    by_case : Has (listed_in wire.guard) j ⊎ Has (operands wire.def) j → Has (wire_links n wire) (link_of n j)
    by_case (inl guard) = has-left guards made (link_of n j) (reading_link n j (listed_in wire.guard) guard)
    by_case (inr operand) = has-right guards made (link_of n j) (reading_link n j (operands wire.def) operand)

pub read_linked : (n i j : ℕ) (wires : List Wire) (wire : Wire) → slice_get wires i ≡ Some wire → Has (reads wire) j → IsLinked (links_from n wires) (n + i) j
read_linked n i j [] wire is has = absurd (has-none wire (record { index = i; is = is }))
read_linked n zero j (first ∷ wires) wire is has =
    let same : first ≡ wire = cc in
    let here : IsLinked (links_from n (first ∷ wires)) n j = has-left (wire_links n first) (links_from (n + 1) wires) (link_of n j) (wire_link n j first (subst (λ (w : Wire). Has (reads w) j) (sym same) has)) in
    subst (λ m. IsLinked (links_from n (first ∷ wires)) m j) (let e : n ≡ n + 0 = omega arith in e) here
read_linked n (suc i) j (first ∷ wires) wire is has =
    let later = has-right (wire_links n first) (links_from (n + 1) wires) (link_of (n + 1 + i) j) (read_linked (n + 1) i j wires wire is has) in
    subst (λ m. IsLinked (links_from n (first ∷ wires)) m j) (let e : n + 1 + i ≡ n + suc i = omega arith in e) later

-- ---- and to nothing else

link_read : (n a b : ℕ) (ks : List ℕ) → Has (flat_map (reading n) ks) (link_of a b) → (a ≡ n) × Has ks b
link_read n a b ks has =
    let h = has-flat_map_from (reading n) ks (link_of a b) has in
    by_case h.0 h.1 (has-case (link_of n h.0) [] (link_of a b) h.2)
  where
    by_case : (j : ℕ) → Has ks j → (link_of n j ≡ link_of a b) ⊎ Has [] (link_of a b) → (a ≡ n) × Has ks b
    by_case j has (inl e) = (ap (λ (l : Link). l.from) (sym e), subst (Has ks) (ap (λ (l : Link). l.to) e) has)
    by_case j has (inr none) = absurd (has-none (link_of a b) none)

link_wire : (n a b : ℕ) (wire : Wire) → Has (wire_links n wire) (link_of a b) → (a ≡ n) × Has (reads wire) b
link_wire n a b wire has = by_case (has-append_case (flat_map (reading n) (listed_in wire.guard)) (flat_map (reading n) (operands wire.def)) (link_of a b) has)
  where
    by_case : Has (flat_map (reading n) (listed_in wire.guard)) (link_of a b) ⊎ Has (flat_map (reading n) (operands wire.def)) (link_of a b) → (a ≡ n) × Has (reads wire) b
    by_case (inl guard) = let h = link_read n a b (listed_in wire.guard) guard in (h.0, has-left (listed_in wire.guard) (operands wire.def) b h.1)
    by_case (inr operand) = let h = link_read n a b (operands wire.def) operand in (h.0, has-right (listed_in wire.guard) (operands wire.def) b h.1)

-- wire number `i` of these, of which the first has the number `n`, reads `b`
pub record Reader (n : ℕ) (wires : List Wire) (a b : ℕ) : Type 0 where
  pub place : ℕ
  pub wire : Wire
  pub number : a ≡ n + place
  pub is : slice_get wires place ≡ Some wire
  pub has : Has (reads wire) b

pub linked_read : (n a b : ℕ) (wires : List Wire) → IsLinked (links_from n wires) a b → Reader n wires a b
linked_read n a b [] linked = absurd (has-none (link_of a b) linked)
linked_read n a b (first ∷ wires) linked = by_case (λ later. linked_read (n + 1) a b wires later) (has-append_case (wire_links n first) (links_from (n + 1) wires) (link_of a b) linked)
  where
    by_case : (IsLinked (links_from (n + 1) wires) a b → Reader (n + 1) wires a b) → Has (wire_links n first) (link_of a b) ⊎ Has (links_from (n + 1) wires) (link_of a b) → Reader n (first ∷ wires) a b
    by_case further (inl here) =
        let h = link_wire n a b first here in
        record { place = 0; wire = first; number = omega (arith, h.0); is = refl; has = h.1 }
    by_case further (inr later) =
        let r = further later in
        record { place = suc r.place; wire = r.wire; number = omega (arith, r.number); is = r.is; has = r.has }

-- ---- ranks

module _ (k : KernelForm) (some : List ℕ) (ranked : AreWireRanks k some) (numbers ranks : List ℕ) (marks : List Bool) (circles : AreCircles (links_from 0 k.wires) numbers marks)
    (first : AreFirstNumbers numbers (length k.wires) ranks) where
  lower : (a b : ℕ) → IsLinked (links_from 0 k.wires) a b → get_or some b 0 < get_or some a 0
  lower a b linked =
      let r = linked_read 0 a b k.wires linked in
      subst (λ m. get_or some b 0 < get_or some m 0) (let e : r.place ≡ a = omega (arith, r.number) in e) (ranked.lower r.place b r.wire r.is r.has)

  low : (j : ℕ) → get_or ranks j 0 ≤ get_or numbers j 0
  low j = by_place (cases_lt j (length k.wires))
    where
      by_place : (j < length k.wires) ⊎ (length k.wires ≤ j) → get_or ranks j 0 ≤ get_or numbers j 0
      by_place (inl l) = omega (arith, first.each j l)
      by_place (inr l) = omega (arith, get_or_past ranks j 0 (let past : length ranks ≤ j = omega (arith, l, first.size) in past))

  fall : (n j : ℕ) (wire : Wire) → slice_get k.wires n ≡ Some wire → Has (reads wire) j → get_or numbers j 0 < get_or numbers n 0
  fall n j wire is has =
      let linked : IsLinked (links_from 0 k.wires) n j = subst (λ m. IsLinked (links_from 0 k.wires) m j) (let e : 0 + n ≡ n = omega arith in e) (read_linked 0 n j k.wires wire is has) in
      ranked_falls (links_from 0 k.wires) (λ m. get_or some m 0) lower numbers marks circles n j linked

  pub numbers_are_ranks : AreWireRanks k ranks
  numbers_are_ranks = record {
    one_each = first.size;
    lower = λ n j wire is has. omega (arith, low j, first.each n (slice_get_within k.wires n wire is), fall n j wire is has);
  }
