-- The places that lead to themselves by the hub are those that depend on a block that depends on itself.
use Rattle.std.proofs.Common.{◌≡◌, ◌⊎◌, inl, inr, ℕ, ◌<◌, Bool, true, false, List, length, get_or, sym, ap, subst}
use Rattle.std.proofs.lemmas.Option.{slice_get_within}
use Rattle.zl_value.specs.Lists.{Has}
use Rattle.zl_value.specs.declared.position.Pos.{Pos}
use Rattle.zl_meaning.specs.FlatForm.{FlatForm}
use Rattle.zl_meaning.specs.Depends.{PlaceThing, BlockThing, IsOnCircle}
use Rattle.zl_graph.specs.declared.graph.Link.{Link}
use Rattle.zl_causal.specs.declared.node.Node.{Node}
use Rattle.zl_causal.specs.declared.node.Node.TheVariants.{Place, Block, Leads, Hub}
use Rattle.zl_graph.specs.Graph.{IsLinked, Reaches, Here, Along, Leads as LeadsAlong}
use Rattle.zl_causal.specs.Nodes.{number_of, link_of}
use Rattle.zl_causal.specs.FormLinks.{links_of}
use Rattle.zl_causal.specs.Edges as edges
use Rattle.zl_causal.specs.Edges.{Edge, Way}
use Rattle.zl_graph.specs.Circles.{AreCircles}
use Rattle.zl_causal.specs.Ranking.{NoPlace}
use Rattle.zl_causal.specs.Refused.{IsCircleAt, IsMarked, IsFirstMarked, ToHub, FromHub, HasBlocks, HasPlaces}
use Rattle.zl_meaning.specs.WellFormed.{IsWellFormed}
use Rattle.zl_causal.proofs.SomePlace.{some_place}
use Rattle.zl_graph.proofs.Ways.{Reaches-trans}
use Rattle.zl_causal.proofs.LinkEdges.{link_edge}
use Rattle.zl_causal.proofs.NodeNumbers.{same_node, way_along, along_way}
use Rattle.zl_causal.proofs.WaysOfForms.{LeadsBack}
use Rattle.zl_causal.proofs.Meanings.{way_depends, no_way_on}
use Rattle.zl_causal.proofs.RankLaws.{way_within}
use Rattle.zl_causal.proofs.Circling.{depends_way, none_before}

-- no edge leads to the hub
no_hub : (f : FlatForm) (a b : Node) → Edge f a b → b ≡ Hub → ⊥
no_hub f a b (edges.Declared p place is) e = cc
no_hub f a b (edges.InBlock p c definer has is) e = cc
no_hub f a b (edges.Named p k definer has read) e = cc
no_hub f a b (edges.Called p call is) e = cc
no_hub f a b (edges.StartBlock p c k definer) e = cc
no_hub f a b (edges.StartValue p c k definer) e = cc
no_hub f a b (edges.StartLeads p c k definer) e = cc
no_hub f a b (edges.ArmUsed d resets arm is has) e = cc
no_hub f a b (edges.ArmEvent d resets arm is has) e = cc
no_hub f a b (edges.Parent c parent is) e = cc
no_hub f a b (edges.OfArm c of arm is) e = cc
no_hub f a b (edges.OfBody c of state is) e = cc
no_hub f a b (edges.OfReset c k is) e = cc
no_hub f a b (edges.ChoiceTest of k test) e = cc
no_hub f a b (edges.StrongTest of k test) e = cc
no_hub f a b (edges.Name k p form) e = cc
no_hub f a b (edges.LastOf k p form) e = cc
no_hub f a b (edges.LastLeads k p form) e = cc
no_hub f a b (edges.PartValue k j form has part) e = cc
no_hub f a b (edges.PartLasts k j form has part) e = cc
no_hub f a b (edges.PartUsed k j form has part) e = cc
no_hub f a b (edges.YesUsed k c x y form) e = cc
no_hub f a b (edges.NoUsed k c x y form) e = cc
no_hub f a b (edges.CallUsed k call is) e = cc

no_link_to_hub : (f : FlatForm) (n : ℕ) → IsLinked (links_of f) n (number_of Hub) → ⊥
no_link_to_hub f n link =
    let e = link_edge f (record { from = n; to = number_of Hub }) link in
    no_hub f e.from e.to e.edge (same_node e.to Hub (ap (λ (l : Link). l.to) e.is))

-- a marked block to which a node leads
record ToMarked (f : FlatForm) (marks : List Bool) (n : ℕ) : Type 0 where
  block : ℕ
  marked : get_or marks (number_of (Block block)) false ≡ true
  reaches : Reaches (links_of f) n (number_of (Block block))

module _ (f : FlatForm) (numbers through_numbers : List ℕ) (marks through : List Bool) (some all : List Link) (circles : AreCircles (links_of f) numbers marks)
    (none : NoPlace marks (length f.places)) (blocks : HasBlocks marks (length f.blocks) (links_of f) some) (places : HasPlaces (length f.places) some all)
    (hub : AreCircles all through_numbers through) where
  kept : (l : Link) → Has (links_of f) l → Has all l
  kept l h = places.kept l (blocks.kept l h)

  kept_way : (a b : ℕ) → Reaches (links_of f) a b → Reaches all a b
  kept_way a b (Here c) = Here c
  kept_way a b (Along c d e link rest) = Along a d b (kept (record { from = a; to = d }) link) (kept_way d b rest)

  -- a link is one of the form's, or to the hub, or from it
  data IsOf (a b : ℕ) : Type 0 where
    OfForm : IsLinked (links_of f) a b → IsOf a b
    OfBlock : ToHub marks (length f.blocks) (record { from = a; to = b }) → IsOf a b
    OfHub : FromHub (record { from = a; to = b }) → IsOf a b

  is_of : (a b : ℕ) → IsLinked all a b → IsOf a b
  is_of a b link = by_place (places.only (record { from = a; to = b }) link)
    where
      by_block : Has (links_of f) (record { from = a; to = b }) ⊎ ToHub marks (length f.blocks) (record { from = a; to = b }) → IsOf a b
      by_block (inl h) = OfForm h
      by_block (inr h) = OfBlock h

      by_place : Has some (record { from = a; to = b }) ⊎ FromHub (record { from = a; to = b }) → IsOf a b
      by_place (inl h) = by_block (blocks.only (record { from = a; to = b }) h)
      by_place (inr h) = OfHub h

  -- a way from a node goes along the form's links, or to a marked block first, or begins at the hub
  data Goes (a b : ℕ) : Type 0 where
    ByForm : Reaches (links_of f) a b → Goes a b
    ByBlock : ToMarked f marks a → Goes a b
    AtHub : a ≡ number_of Hub → Goes a b

  goes : (a b : ℕ) → Reaches all a b → Goes a b
  goes a b (Here c) = ByForm (Here c)
  goes a b (Along c d e link rest) = by_link (is_of a d link) (goes d b rest)
    where
      on : IsLinked (links_of f) a d → Goes d b → Goes a b
      on l (ByForm way) = ByForm (Along a d b l way)
      on l (ByBlock m) = ByBlock (record { block = m.block; marked = m.marked; reaches = Along a d (number_of (Block m.block)) l m.reaches })
      on l (AtHub at) = absurd (no_link_to_hub f a (subst (IsLinked (links_of f) a) at l))

      by_link : IsOf a d → Goes d b → Goes a b
      by_link (OfForm l) g = on l g
      by_link (OfBlock h) g = let from : a ≡ number_of (Block h.block) = ap (λ (l : Link). l.from) h.is in
          ByBlock (record { block = h.block; marked = h.marked; reaches = subst (λ n. Reaches (links_of f) n (number_of (Block h.block))) (sym from) (Here (number_of (Block h.block))) })
      by_link (OfHub h) g = AtHub (ap (λ (l : Link). l.from) h.is)

  -- a node that isn't a block or the hub, and leads to itself along all links, does so along the form's, or leads to a marked block
  leads : (a : Node) → ((b : ℕ) → a ≡ Block b → ⊥) → (a ≡ Hub → ⊥) → LeadsAlong all (number_of a) (number_of a)
      → LeadsAlong (links_of f) (number_of a) (number_of a) ⊎ ((b : ℕ) × (get_or marks (number_of (Block b)) false ≡ true) × LeadsAlong (links_of f) (number_of a) (number_of (Block b)))
  leads a no_block no_hub h = by_link (is_of (number_of a) h.0 h.1) (goes h.0 (number_of a) h.2)
    where
      on : IsLinked (links_of f) (number_of a) h.0 → Goes h.0 (number_of a)
          → LeadsAlong (links_of f) (number_of a) (number_of a) ⊎ ((b : ℕ) × (get_or marks (number_of (Block b)) false ≡ true) × LeadsAlong (links_of f) (number_of a) (number_of (Block b)))
      on l (ByForm way) = inl (h.0, l, way)
      on l (ByBlock m) = inr (m.block, m.marked, (h.0, l, m.reaches))
      on l (AtHub at) = absurd (no_link_to_hub f (number_of a) (subst (IsLinked (links_of f) (number_of a)) at l))

      by_link : IsOf (number_of a) h.0 → Goes h.0 (number_of a)
          → LeadsAlong (links_of f) (number_of a) (number_of a) ⊎ ((b : ℕ) × (get_or marks (number_of (Block b)) false ≡ true) × LeadsAlong (links_of f) (number_of a) (number_of (Block b)))
      by_link (OfForm l) g = on l g
      by_link (OfBlock t) g = absurd (no_block t.block (same_node a (Block t.block) (ap (λ (l : Link). l.from) t.is)))
      by_link (OfHub t) g = absurd (no_hub (same_node a Hub (ap (λ (l : Link). l.from) t.is)))

  marked_on : (p : ℕ) → p < length f.places → IsMarked through p → IsOnCircle f p
  marked_on p l (inl e) = by_case (leads (Place p) (λ b g. cc) (λ g. cc) (hub.sound (number_of (Place p)) e))
    where
      by_case : LeadsAlong (links_of f) (number_of (Place p)) (number_of (Place p)) ⊎ ((b : ℕ) × (get_or marks (number_of (Block b)) false ≡ true) × LeadsAlong (links_of f) (number_of (Place p)) (number_of (Block b))) → IsOnCircle f p
      by_case (inl h) = absurd (none.place p l (circles.full (number_of (Place p)) h))
      by_case (inr h) = (h.0, way_depends f (PlaceThing p) (BlockThing h.0) (along_way f (Place p) (Block h.0) h.2), way_depends f (BlockThing h.0) (BlockThing h.0) (along_way f (Block h.0) (Block h.0) (circles.sound (number_of (Block h.0)) h.1)))
  marked_on p l (inr e) = by_case (leads (Leads p) (λ b g. cc) (λ g. cc) (hub.sound (number_of (Leads p)) e))
    where
      by_case : LeadsAlong (links_of f) (number_of (Leads p)) (number_of (Leads p)) ⊎ ((b : ℕ) × (get_or marks (number_of (Block b)) false ≡ true) × LeadsAlong (links_of f) (number_of (Leads p)) (number_of (Block b))) → IsOnCircle f p
      by_case (inl h) = absurd (none.leads p l (circles.full (number_of (Leads p)) h))
      by_case (inr h) = absurd (no_way_on f p (BlockThing h.0) (along_way f (Leads p) (Block h.0) h.2))

  on_marked : (p : ℕ) → IsOnCircle f p → get_or through (number_of (Place p)) false ≡ true
  on_marked p h = by_case (depends_way f (PlaceThing p) (BlockThing h.0) h.1) (depends_way f (BlockThing h.0) (BlockThing h.0) h.2)
    where
      by_case : Way f (Place p) (Block h.0) ⊎ LeadsBack f (PlaceThing p) (BlockThing h.0) → Way f (Block h.0) (Block h.0) ⊎ LeadsBack f (BlockThing h.0) (BlockThing h.0) → get_or through (number_of (Place p)) false ≡ true
      by_case (inr back) other = let e = back.2 in absurd (cc)
      by_case (inl way) (inr back) = let e = back.1 in absurd (cc)
      by_case (inl way) (inl around) =
          let marked = circles.full (number_of (Block h.0)) (way_along f (Block h.0) (Block h.0) around) in
          let to_hub : IsLinked all (number_of (Block h.0)) (number_of Hub) = places.kept (link_of (Block h.0) Hub) (blocks.marked h.0 (way_within f (Block h.0) (Block h.0) around) marked) in
          let back : IsLinked all (number_of Hub) (number_of (Place p)) = places.led p (way_within f (Place p) (Block h.0) way) in
          let there = way_along f (Place p) (Block h.0) way in
          hub.full (number_of (Place p)) (
            there.0,
            kept (record { from = number_of (Place p); to = there.0 }) there.1,
            Reaches-trans all there.0 (number_of (Block h.0)) (number_of (Place p)) (kept_way there.0 (number_of (Block h.0)) there.2)
                (Along (number_of (Block h.0)) (number_of Hub) (number_of (Place p)) to_hub (Along (number_of Hub) (number_of (Place p)) (number_of (Place p)) back (Here (number_of (Place p))))),
          )

  pub through_circle : (at : Pos) → IsFirstMarked through f.places at → IsCircleAt f at
  through_circle at h = record {
    place = h.place;
    info = h.info;
    is = h.is;
    stands = h.stands;
    first = inr (
      λ p l. none_before f numbers marks circles (length f.places) p none l,
      record { holds = marked_on h.place (slice_get_within f.places h.place h.info h.is) h.holds; before = λ q l on. h.before.place q l (on_marked q on) },
    );
  }

  -- where a block leads to itself, some place leads to itself by the hub
  pub not_none : IsWellFormed f → NoPlace through (length f.places) → (b : ℕ) → get_or marks (number_of (Block b)) false ≡ true → ⊥
  not_none w free b marked =
      let around = along_way f (Block b) (Block b) (circles.sound (number_of (Block b)) marked) in
      let found = some_place f w b around in
      free.place found.place found.within (on_marked found.place (b, way_depends f (PlaceThing found.place) (BlockThing b) found.way, way_depends f (BlockThing b) (BlockThing b) around))
