-- The links of the graph of a kernel, from each wire to those that it reads, and numbers of its wires.
use Rattle.std.specs.Prelude.{◌≡◌, ℕ, ◌+◌, ◌<◌, List, [], ◌∷◌, ◌++◌, length, get_or}
use Rattle.std.specs.List.{flat_map}
use Rattle.zl_graph.specs.declared.graph.Link.{Link}
use Rattle.zl_kernel.specs.FlowWires.{operands, listed_in}
use Rattle.zl_kernel.specs.declared.wire.Wire.{Wire}

-- the link from wire `n` to wire `j`
abbrev pub link_of : ℕ → ℕ → Link
link_of n j = record { from = n; to = j }

abbrev pub reading : ℕ → ℕ → List Link
reading n j = link_of n j ∷ []

abbrev pub wire_links : ℕ → Wire → List Link
wire_links n wire = flat_map (reading n) (listed_in wire.guard) ++ flat_map (reading n) (operands wire.def)

-- the links of these wires, of which the first has the number `n`
abbrev pub links_from : ℕ → List Wire → List Link
links_from n [] = []
links_from n (wire ∷ wires) = wire_links n wire ++ links_from (n + 1) wires

-- these are the numbers of the first `n` nodes
pub record AreFirstNumbers (numbers : List ℕ) (n : ℕ) (ranks : List ℕ) : Type 0 where
  pub size : length ranks ≡ n
  pub each : (w : ℕ) → w < n → get_or ranks w 0 ≡ get_or numbers w 0
