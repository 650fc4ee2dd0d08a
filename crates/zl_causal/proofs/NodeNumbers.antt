-- Nodes by their numbers, and ways by links.
use Rattle.std.proofs.Common.{◌≡◌, ◌⊎◌, inl, inr, ℕ, refl, sym, ap, ◌∙◌, subst, arith}
use Rattle.zl_meaning.specs.FlatForm.{FlatForm}
use Rattle.zl_graph.specs.declared.graph.Link.{Link}
use Rattle.zl_causal.specs.declared.node.Node.{Node}
use Rattle.zl_causal.specs.declared.node.Node.TheVariants.{Place, Block, Value, Used, Start, Lasts, Leads, Tests, Strong, Events, Hub}
use Rattle.zl_graph.specs.Graph.{IsLinked, Reaches, Here, Along, Leads as LeadsAlong}
use Rattle.zl_causal.specs.Nodes.{number_of}
use Rattle.zl_causal.specs.FormLinks.{links_of}
use Rattle.zl_causal.specs.Edges.{Edge, Way, One, More}
use Rattle.zl_causal.proofs.EdgeLinks.{edge_link}
use Rattle.zl_causal.proofs.LinkEdges.{link_edge}

same_place : (n : ℕ) (b : Node) → number_of (Place n) ≡ number_of b → Place n ≡ b
same_place n (Place m) e = let same : n ≡ m = omega (arith, e) in ap Place same
same_place n (Block m) e = absurd (omega (arith, e))
same_place n (Value m) e = absurd (omega (arith, e))
same_place n (Used m) e = absurd (omega (arith, e))
same_place n (Start m) e = absurd (omega (arith, e))
same_place n (Lasts m) e = absurd (omega (arith, e))
same_place n (Leads m) e = absurd (omega (arith, e))
same_place n (Tests m) e = absurd (omega (arith, e))
same_place n (Strong m) e = absurd (omega (arith, e))
same_place n (Events m) e = absurd (omega (arith, e))
same_place n Hub e = absurd (omega (arith, e))

same_block : (n : ℕ) (b : Node) → number_of (Block n) ≡ number_of b → Block n ≡ b
same_block n (Place m) e = absurd (omega (arith, e))
same_block n (Block m) e = let same : n ≡ m = omega (arith, e) in ap Block same
same_block n (Value m) e = absurd (omega (arith, e))
same_block n (Used m) e = absurd (omega (arith, e))
same_block n (Start m) e = absurd (omega (arith, e))
same_block n (Lasts m) e = absurd (omega (arith, e))
same_block n (Leads m) e = absurd (omega (arith, e))
same_block n (Tests m) e = absurd (omega (arith, e))
same_block n (Strong m) e = absurd (omega (arith, e))
same_block n (Events m) e = absurd (omega (arith, e))
same_block n Hub e = absurd (omega (arith, e))

same_value : (n : ℕ) (b : Node) → number_of (Value n) ≡ number_of b → Value n ≡ b
same_value n (Place m) e = absurd (omega (arith, e))
same_value n (Block m) e = absurd (omega (arith, e))
same_value n (Value m) e = let same : n ≡ m = omega (arith, e) in ap Value same
same_value n (Used m) e = absurd (omega (arith, e))
same_value n (Start m) e = absurd (omega (arith, e))
same_value n (Lasts m) e = absurd (omega (arith, e))
same_value n (Leads m) e = absurd (omega (arith, e))
same_value n (Tests m) e = absurd (omega (arith, e))
same_value n (Strong m) e = absurd (omega (arith, e))
same_value n (Events m) e = absurd (omega (arith, e))
same_value n Hub e = absurd (omega (arith, e))

same_used : (n : ℕ) (b : Node) → number_of (Used n) ≡ number_of b → Used n ≡ b
same_used n (Place m) e = absurd (omega (arith, e))
same_used n (Block m) e = absurd (omega (arith, e))
same_used n (Value m) e = absurd (omega (arith, e))
same_used n (Used m) e = let same : n ≡ m = omega (arith, e) in ap Used same
same_used n (Start m) e = absurd (omega (arith, e))
same_used n (Lasts m) e = absurd (omega (arith, e))
same_used n (Leads m) e = absurd (omega (arith, e))
same_used n (Tests m) e = absurd (omega (arith, e))
same_used n (Strong m) e = absurd (omega (arith, e))
same_used n (Events m) e = absurd (omega (arith, e))
same_used n Hub e = absurd (omega (arith, e))

same_start : (n : ℕ) (b : Node) → number_of (Start n) ≡ number_of b → Start n ≡ b
same_start n (Place m) e = absurd (omega (arith, e))
same_start n (Block m) e = absurd (omega (arith, e))
same_start n (Value m) e = absurd (omega (arith, e))
same_start n (Used m) e = absurd (omega (arith, e))
same_start n (Start m) e = let same : n ≡ m = omega (arith, e) in ap Start same
same_start n (Lasts m) e = absurd (omega (arith, e))
same_start n (Leads m) e = absurd (omega (arith, e))
same_start n (Tests m) e = absurd (omega (arith, e))
same_start n (Strong m) e = absurd (omega (arith, e))
same_start n (Events m) e = absurd (omega (arith, e))
same_start n Hub e = absurd (omega (arith, e))

same_lasts : (n : ℕ) (b : Node) → number_of (Lasts n) ≡ number_of b → Lasts n ≡ b
same_lasts n (Place m) e = absurd (omega (arith, e))
same_lasts n (Block m) e = absurd (omega (arith, e))
same_lasts n (Value m) e = absurd (omega (arith, e))
same_lasts n (Used m) e = absurd (omega (arith, e))
same_lasts n (Start m) e = absurd (omega (arith, e))
same_lasts n (Lasts m) e = let same : n ≡ m = omega (arith, e) in ap Lasts same
same_lasts n (Leads m) e = absurd (omega (arith, e))
same_lasts n (Tests m) e = absurd (omega (arith, e))
same_lasts n (Strong m) e = absurd (omega (arith, e))
same_lasts n (Events m) e = absurd (omega (arith, e))
same_lasts n Hub e = absurd (omega (arith, e))

same_leads : (n : ℕ) (b : Node) → number_of (Leads n) ≡ number_of b → Leads n ≡ b
same_leads n (Place m) e = absurd (omega (arith, e))
same_leads n (Block m) e = absurd (omega (arith, e))
same_leads n (Value m) e = absurd (omega (arith, e))
same_leads n (Used m) e = absurd (omega (arith, e))
same_leads n (Start m) e = absurd (omega (arith, e))
same_leads n (Lasts m) e = absurd (omega (arith, e))
same_leads n (Leads m) e = let same : n ≡ m = omega (arith, e) in ap Leads same
same_leads n (Tests m) e = absurd (omega (arith, e))
same_leads n (Strong m) e = absurd (omega (arith, e))
same_leads n (Events m) e = absurd (omega (arith, e))
same_leads n Hub e = absurd (omega (arith, e))

same_tests : (n : ℕ) (b : Node) → number_of (Tests n) ≡ number_of b → Tests n ≡ b
same_tests n (Place m) e = absurd (omega (arith, e))
same_tests n (Block m) e = absurd (omega (arith, e))
same_tests n (Value m) e = absurd (omega (arith, e))
same_tests n (Used m) e = absurd (omega (arith, e))
same_tests n (Start m) e = absurd (omega (arith, e))
same_tests n (Lasts m) e = absurd (omega (arith, e))
same_tests n (Leads m) e = absurd (omega (arith, e))
same_tests n (Tests m) e = let same : n ≡ m = omega (arith, e) in ap Tests same
same_tests n (Strong m) e = absurd (omega (arith, e))
same_tests n (Events m) e = absurd (omega (arith, e))
same_tests n Hub e = absurd (omega (arith, e))

same_strong : (n : ℕ) (b : Node) → number_of (Strong n) ≡ number_of b → Strong n ≡ b
same_strong n (Place m) e = absurd (omega (arith, e))
same_strong n (Block m) e = absurd (omega (arith, e))
same_strong n (Value m) e = absurd (omega (arith, e))
same_strong n (Used m) e = absurd (omega (arith, e))
same_strong n (Start m) e = absurd (omega (arith, e))
same_strong n (Lasts m) e = absurd (omega (arith, e))
same_strong n (Leads m) e = absurd (omega (arith, e))
same_strong n (Tests m) e = absurd (omega (arith, e))
same_strong n (Strong m) e = let same : n ≡ m = omega (arith, e) in ap Strong same
same_strong n (Events m) e = absurd (omega (arith, e))
same_strong n Hub e = absurd (omega (arith, e))

same_events : (n : ℕ) (b : Node) → number_of (Events n) ≡ number_of b → Events n ≡ b
same_events n (Place m) e = absurd (omega (arith, e))
same_events n (Block m) e = absurd (omega (arith, e))
same_events n (Value m) e = absurd (omega (arith, e))
same_events n (Used m) e = absurd (omega (arith, e))
same_events n (Start m) e = absurd (omega (arith, e))
same_events n (Lasts m) e = absurd (omega (arith, e))
same_events n (Leads m) e = absurd (omega (arith, e))
same_events n (Tests m) e = absurd (omega (arith, e))
same_events n (Strong m) e = absurd (omega (arith, e))
same_events n (Events m) e = let same : n ≡ m = omega (arith, e) in ap Events same
same_events n Hub e = absurd (omega (arith, e))

same_hub : (b : Node) → number_of Hub ≡ number_of b → Hub ≡ b
same_hub (Place m) e = absurd (omega (arith, e))
same_hub (Block m) e = absurd (omega (arith, e))
same_hub (Value m) e = absurd (omega (arith, e))
same_hub (Used m) e = absurd (omega (arith, e))
same_hub (Start m) e = absurd (omega (arith, e))
same_hub (Lasts m) e = absurd (omega (arith, e))
same_hub (Leads m) e = absurd (omega (arith, e))
same_hub (Tests m) e = absurd (omega (arith, e))
same_hub (Strong m) e = absurd (omega (arith, e))
same_hub (Events m) e = absurd (omega (arith, e))
same_hub Hub e = refl

-- nodes with one number are one
pub same_node : (a b : Node) → number_of a ≡ number_of b → a ≡ b
same_node (Place n) b e = same_place n b e
same_node (Block n) b e = same_block n b e
same_node (Value n) b e = same_value n b e
same_node (Used n) b e = same_used n b e
same_node (Start n) b e = same_start n b e
same_node (Lasts n) b e = same_lasts n b e
same_node (Leads n) b e = same_leads n b e
same_node (Tests n) b e = same_tests n b e
same_node (Strong n) b e = same_strong n b e
same_node (Events n) b e = same_events n b e
same_node Hub b e = same_hub b e

-- ---- ways

way_reaches : (f : FlatForm) (a b : Node) → Way f a b → Reaches (links_of f) (number_of a) (number_of b)
way_reaches f a b (One c d edge) = Along (number_of a) (number_of b) (number_of b) (edge_link f a b edge) (Here (number_of b))
way_reaches f a b (More c d g edge way) = Along (number_of a) (number_of d) (number_of b) (edge_link f a d edge) (way_reaches f d b way)

pub way_along : (f : FlatForm) (a b : Node) → Way f a b → LeadsAlong (links_of f) (number_of a) (number_of b)
way_along f a b (One c d edge) = (number_of b, edge_link f a b edge, Here (number_of b))
way_along f a b (More c d g edge way) = (number_of d, edge_link f a d edge, way_reaches f d b way)

link_way : (f : FlatForm) (a b : Node) (n : ℕ) → IsLinked (links_of f) (number_of a) n → ((c : Node) → number_of c ≡ n → (c ≡ b) ⊎ Way f c b) → Way f a b
link_way f a b n link rest =
    let e = link_edge f (record { from = number_of a; to = n }) link in
    let from : e.from ≡ a = same_node e.from a (ap (λ (l : Link). l.from) e.is) in
    let to : number_of e.to ≡ n = ap (λ (l : Link). l.to) e.is in
    let edge : Edge f a e.to = subst (λ c. Edge f c e.to) from e.edge in
    on_way e.to edge (rest e.to to)
  where
    on_way : (c : Node) → Edge f a c → (c ≡ b) ⊎ Way f c b → Way f a b
    on_way c edge (inl same) = One a b (subst (Edge f a) same edge)
    on_way c edge (inr way) = More a c b edge way

reaches_way : (f : FlatForm) (n m : ℕ) → Reaches (links_of f) n m → (a b : Node) → number_of a ≡ n → number_of b ≡ m → (a ≡ b) ⊎ Way f a b
reaches_way f n m (Here c) a b ea eb = inl (same_node a b (ea ∙ sym eb))
reaches_way f n m (Along c d g link rest) a b ea eb =
    inr (link_way f a b d (subst (λ k. IsLinked (links_of f) k d) (sym ea) link) (λ x ex. reaches_way f d m rest x b ex eb))

-- what leads along links is on a way
pub along_way : (f : FlatForm) (a b : Node) → LeadsAlong (links_of f) (number_of a) (number_of b) → Way f a b
along_way f a b h = link_way f a b h.0 h.1 (λ x ex. reaches_way f h.0 (number_of b) h.2 x b ex refl)
