-- The nodes of a graph that lead to themselves.
use Rattle.std.specs.Prelude.{◌≡◌, ℕ, Bool, true, false, List, get_or}
use Rattle.zl_graph.specs.declared.graph.Link.{Link}
use Rattle.zl_graph.specs.Graph.{IsLinked, Leads, AreParts}

-- the number of each node's part, and a mark for each node
pub record CircleTables : Type 0 where
  pub numbers : List ℕ
  pub marks : List Bool

-- a node is marked exactly where a link leads from it to its own part
pub record AreLoops (links : List Link) (numbers : List ℕ) (marks : List Bool) : Type 0 where
  pub sound : (a : ℕ) → get_or marks a false ≡ true → (b : ℕ) × IsLinked links a b × (get_or numbers a 0 ≡ get_or numbers b 0)
  pub full : (a b : ℕ) → IsLinked links a b → get_or numbers a 0 ≡ get_or numbers b 0 → get_or marks a false ≡ true

-- the parts of a graph, and a mark for each node: it leads to itself
pub record AreCircles (links : List Link) (numbers : List ℕ) (marks : List Bool) : Type 0 where
  pub parts : AreParts links numbers
  pub sound : (a : ℕ) → get_or marks a false ≡ true → Leads links a a
  pub full : (a : ℕ) → Leads links a a → get_or marks a false ≡ true
