-- For each node, a chain of the links that lead from it.
use Rattle.std.specs.Prelude.{◌≡◌, ◌⊎◌, ℕ, ◌+◌, ◌<◌, ◌≤◌, List, length, get_or, slice_get, Some}
use Rattle.zl_graph.specs.Graph.{IsLinked}
use Rattle.zl_graph.specs.declared.graph.Link.{Link}
use Rattle.zl_graph.specs.declared.graph.Graph.{Graph}

-- `m` is one more than the number of the last link from `a` among the first `n`, or 0 where there is none
pub record IsLast (links : List Link) (n a m : ℕ) : Type 0 where
  pub within : m ≤ n
  pub from : (i : ℕ) (link : Link) → m ≡ i + 1 → slice_get links i ≡ Some link → link.from ≡ a
  pub none : (i : ℕ) (link : Link) → m ≤ i → i < n → slice_get links i ≡ Some link → link.from ≡ a → ⊥

-- the chains of the first `n` links
pub record HasFirst (links : List Link) (nodes n : ℕ) (last before : List ℕ) : Type 0 where
  pub lasts : length last ≡ nodes
  pub befores : length before ≡ n
  pub of_nodes : (a : ℕ) → a < nodes → IsLast links n a (get_or last a 0)
  pub of_links : (i : ℕ) (link : Link) → i < n → slice_get links i ≡ Some link → IsLast links i link.from (get_or before i 0)

-- the chains of a graph hold these links
pub record HasChains (links : List Link) (nodes : ℕ) (g : Graph) : Type 0 where
  pub same : g.links.now ≡ links
  pub lasts : length g.last.items ≡ nodes
  pub befores : length g.before.items ≡ length links
  pub last : (a : ℕ) → a < nodes → IsLast links (length links) a (get_or g.last.items a 0)
  pub before : (i : ℕ) (link : Link) → slice_get links i ≡ Some link → IsLast links i link.from (get_or g.before.items i 0)

-- the list has further numbers: the nodes to which a link leads from `a`
pub record HasAdded (links : List Link) (a : ℕ) (old new : List ℕ) : Type 0 where
  pub more : length old ≤ length new
  pub few : length new ≤ length old + length links
  pub kept : (i b : ℕ) → slice_get old i ≡ Some b → slice_get new i ≡ Some b
  pub linked : (i b : ℕ) → slice_get new i ≡ Some b → (slice_get old i ≡ Some b) ⊎ ((length old ≤ i) × IsLinked links a b)
  pub all : (b : ℕ) → IsLinked links a b → (i : ℕ) × (length old ≤ i) × (slice_get new i ≡ Some b)
