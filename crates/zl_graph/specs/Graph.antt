-- Links between nodes, which are numbers, and the parts of a graph whose nodes all reach each other.
use Rattle.std.specs.Prelude.{◌≡◌, ℕ, ◌<◌, ◌≤◌, List, length, get_or}
use Rattle.zl_value.specs.Lists.{Has}
use Rattle.zl_graph.specs.declared.graph.Link.{Link}

-- a link leads from `a` to `b`
abbrev pub IsLinked : List Link → ℕ → ℕ → Type 0
IsLinked links a b = Has links (record { from = a; to = b })

-- by links, or at once
pub data Reaches (links : List Link) : ℕ → ℕ → Type 0 where
  Here : (a : ℕ) → Reaches links a a
  Along : (a b c : ℕ) → IsLinked links a b → Reaches links b c → Reaches links a c

-- by one link or more
abbrev pub Leads : List Link → ℕ → ℕ → Type 0
Leads links a c = (b : ℕ) × IsLinked links a b × Reaches links b c

-- all nodes with links are below `nodes`
pub record HasNodes (links : List Link) (nodes : ℕ) : Type 0 where
  pub from : (a b : ℕ) → IsLinked links a b → a < nodes
  pub to : (a b : ℕ) → IsLinked links a b → b < nodes

-- the numbers of the parts of the nodes: no link leads to a part with a greater number, and nodes of one part reach each other
pub record AreParts (links : List Link) (numbers : List ℕ) : Type 0 where
  pub nodes : HasNodes links (length numbers)
  pub fall : (a b : ℕ) → IsLinked links a b → get_or numbers b 0 ≤ get_or numbers a 0
  pub joined : (a b : ℕ) → a < length numbers → b < length numbers → get_or numbers a 0 ≡ get_or numbers b 0 → Reaches links a b
