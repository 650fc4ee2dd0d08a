-- Numbers of the parts of a form's graph are ranks, where no place and no block leads to itself.
use Rattle.std.proofs.Common.{◌≡◌, ◌⊎◌, inl, inr, ℕ, ◌<◌, ◌≤◌, Bool, true, false, List, length, get_or, slice_get, arith}
use Rattle.std.proofs.lemmas.List.{get_or_past}
use Rattle.std.proofs.lemmas.Bool.{cases_lt}
use Rattle.std.proofs.lemmas.Option.{slice_get_within}
use Rattle.zl_meaning.specs.FlatForm.{FlatForm}
use Rattle.zl_meaning.specs.Depends as depends
use Rattle.zl_meaning.specs.Depends.{Thing, PlaceThing, BlockThing, DependsAtOnce, LeadsTo, AreRanks, rank_in}
use Rattle.zl_meaning.specs.declared.block.Block.{Block as TheBlock}
use Rattle.zl_meaning.specs.declared.block.BlockKind.TheVariants.{Arm, State, Reset}
use Rattle.zl_meaning.specs.declared.place.PlaceInfo.{PlaceInfo}
use Rattle.zl_causal.specs.declared.node.Node.{Node}
use Rattle.zl_causal.specs.declared.node.Node.TheVariants.{Place, Block, Leads}
use Rattle.zl_causal.specs.Nodes.{number_of, node_of}
use Rattle.zl_causal.specs.FormLinks.{links_of}
use Rattle.zl_causal.specs.Edges as edges
use Rattle.zl_causal.specs.Edges.{Edge, Way, One, More}
use Rattle.zl_graph.specs.Circles.{AreCircles}
use Rattle.zl_causal.specs.Ranking.{NoPlace, NoBlock, ArePlaceNumbers, AreBlockNumbers}
use Rattle.zl_graph.proofs.Falls.{falls}
use Rattle.zl_causal.proofs.EdgeLinks.{by_option, by_kind}
use Rattle.zl_causal.proofs.NodeNumbers.{way_along}
use Rattle.zl_causal.proofs.WaysOfForms.{LeadsBack, dependency_way, leads_way}

-- ---- what has an edge is in the form

abbrev pub Within : FlatForm → Node → Type 0
Within f (Place p) = p < length f.places
Within f (Block b) = b < length f.blocks
Within f node = Unit {0}

edge_within : (f : FlatForm) (a m : Node) → Edge f a m → Within f a
edge_within f a m (edges.Declared p place is) = slice_get_within f.places p place is
edge_within f a m (edges.InBlock p b definer has is) = slice_get_within f.places p has.0 has.1
edge_within f a m (edges.Named p k definer has read) = slice_get_within f.places p has.0 has.1
edge_within f a m (edges.Called p call is) = let h = by_option (λ (place : PlaceInfo). place.call) (slice_get f.places p) call is in slice_get_within f.places p h.0 h.1
edge_within f a m (edges.Parent b parent is) = let h = by_option (λ (block : TheBlock). block.parent) (slice_get f.blocks b) parent is in slice_get_within f.blocks b h.0 h.1
edge_within f a m (edges.OfArm b of arm is) = let h = by_kind (slice_get f.blocks b) (Arm of arm) is in slice_get_within f.blocks b h.0 h.1
edge_within f a m (edges.OfBody b of state is) = let h = by_kind (slice_get f.blocks b) (State of state) is in slice_get_within f.blocks b h.0 h.1
edge_within f a m (edges.OfReset b k is) = let h = by_kind (slice_get f.blocks b) (Reset k) is in slice_get_within f.blocks b h.0 h.1
edge_within f a m (edges.StartBlock p b k definer) = tt
edge_within f a m (edges.StartValue p b k definer) = tt
edge_within f a m (edges.StartLeads p b k definer) = tt
edge_within f a m (edges.ArmUsed d resets arm is has) = tt
edge_within f a m (edges.ArmEvent d resets arm is has) = tt
edge_within f a m (edges.ChoiceTest of k test) = tt
edge_within f a m (edges.StrongTest of k test) = tt
edge_within f a m (edges.Name k p form) = tt
edge_within f a m (edges.LastOf k p form) = tt
edge_within f a m (edges.LastLeads k p form) = tt
edge_within f a m (edges.PartValue k j form has part) = tt
edge_within f a m (edges.PartLasts k j form has part) = tt
edge_within f a m (edges.PartUsed k j form has part) = tt
edge_within f a m (edges.YesUsed k c x y form) = tt
edge_within f a m (edges.NoUsed k c x y form) = tt
edge_within f a m (edges.CallUsed k call is) = tt

pub way_within : (f : FlatForm) (a b : Node) → Way f a b → Within f a
way_within f a b (One c d edge) = edge_within f a b edge
way_within f a b (More c d g edge way) = edge_within f a d edge

leads_within : (f : FlatForm) (p q : ℕ) → LeadsTo f p q → p < length f.places
leads_within f p q (depends.AtOnce r s b k definer reads) = slice_get_within f.places p definer.0 definer.1
leads_within f p q (depends.Further r s t b k definer reads rest) = slice_get_within f.places p definer.0 definer.1

module _ (f : FlatForm) (numbers places blocks : List ℕ) (marks : List Bool) (circles : AreCircles (links_of f) numbers marks) (no_place : NoPlace marks (length f.places))
    (no_block : NoBlock marks (length f.blocks)) (of_places : ArePlaceNumbers numbers (length f.places) places) (of_blocks : AreBlockNumbers numbers (length f.blocks) blocks) where
  low : (t : Thing) → rank_in places blocks t ≤ get_or numbers (number_of (node_of t)) 0
  low (PlaceThing p) = by_place (cases_lt p (length f.places))
    where
      by_place : (p < length f.places) ⊎ (length f.places ≤ p) → get_or places p 0 ≤ get_or numbers (number_of (Place p)) 0
      by_place (inl l) = omega (arith, of_places.each p l)
      by_place (inr l) = omega (arith, get_or_past places p 0 (let past : length places ≤ p = omega (arith, l, of_places.size) in past))
  low (BlockThing b) = by_place (cases_lt b (length f.blocks))
    where
      by_place : (b < length f.blocks) ⊎ (length f.blocks ≤ b) → get_or blocks b 0 ≤ get_or numbers (number_of (Block b)) 0
      by_place (inl l) = omega (arith, of_blocks.each b l)
      by_place (inr l) = omega (arith, get_or_past blocks b 0 (let past : length blocks ≤ b = omega (arith, l, of_blocks.size) in past))

  exact : (t : Thing) → Within f (node_of t) → rank_in places blocks t ≡ get_or numbers (number_of (node_of t)) 0
  exact (PlaceThing p) l = of_places.each p l
  exact (BlockThing b) l = of_blocks.each b l

  unmarked : (t : Thing) → Within f (node_of t) → get_or marks (number_of (node_of t)) false ≡ true → ⊥
  unmarked (PlaceThing p) l = no_place.place p l
  unmarked (BlockThing b) l = no_block b l

  grow : (a b : Thing) → DependsAtOnce f a b → rank_in places blocks b < rank_in places blocks a
  grow a b step = by_case (dependency_way f a b step)
    where
      by_case : Way f (node_of a) (node_of b) ⊎ LeadsBack f a b → rank_in places blocks b < rank_in places blocks a
      by_case (inl way) =
          let within = way_within f (node_of a) (node_of b) way in
          omega (arith, low b, exact a within, falls (links_of f) numbers marks circles (number_of (node_of a)) (number_of (node_of b)) (way_along f (node_of a) (node_of b) way) (unmarked a within))
      by_case (inr back) =
          absurd (no_place.leads back.0 (leads_within f back.0 back.0 back.3) (circles.full (number_of (Leads back.0)) (way_along f (Leads back.0) (Leads back.0) (leads_way f back.0 back.0 back.3))))

  pub are_ranks : AreRanks f places blocks
  are_ranks = record { places = of_places.size; blocks = of_blocks.size; grow = grow }
