-- Which places and blocks of a form are marked, and numbers of its places and blocks.
use Rattle.std.specs.Prelude.{◌≡◌, ℕ, ◌<◌, Bool, true, false, List, length, get_or}
use Rattle.zl_causal.specs.declared.node.Node.TheVariants.{Place, Block, Leads}
use Rattle.zl_causal.specs.Nodes.{number_of}

-- none of the first `n` places is marked, nor what its `init` values lead to
pub record NoPlace (marks : List Bool) (n : ℕ) : Type 0 where
  pub place : (p : ℕ) → p < n → get_or marks (number_of (Place p)) false ≡ true → ⊥
  pub leads : (p : ℕ) → p < n → get_or marks (number_of (Leads p)) false ≡ true → ⊥

-- none of the first `n` blocks is marked
abbrev pub NoBlock : List Bool → ℕ → Type 0
NoBlock marks n = (b : ℕ) → b < n → get_or marks (number_of (Block b)) false ≡ true → ⊥

-- these are the numbers of the nodes of the first places, and of the first blocks
pub record ArePlaceNumbers (numbers : List ℕ) (n : ℕ) (ranks : List ℕ) : Type 0 where
  pub size : length ranks ≡ n
  pub each : (p : ℕ) → p < n → get_or ranks p 0 ≡ get_or numbers (number_of (Place p)) 0

pub record AreBlockNumbers (numbers : List ℕ) (n : ℕ) (ranks : List ℕ) : Type 0 where
  pub size : length ranks ≡ n
  pub each : (b : ℕ) → b < n → get_or ranks b 0 ≡ get_or numbers (number_of (Block b)) 0
