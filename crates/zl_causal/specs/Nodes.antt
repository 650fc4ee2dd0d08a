-- The nodes of the graph of a form, and their numbers.
use Rattle.std.specs.Prelude.{ℕ, ◌+◌, ◌*◌}
use Rattle.zl_meaning.specs.Depends.{Thing, PlaceThing, BlockThing}
use Rattle.zl_graph.specs.declared.graph.Link.{Link}
use Rattle.zl_causal.specs.declared.node.Node.{Node}
use Rattle.zl_causal.specs.declared.node.Node.TheVariants.{Place, Block, Value, Used, Start, Lasts, Leads, Tests, Strong, Events, Hub}

abbrev pub number_of : Node → ℕ
number_of (Place n) = n * 11
number_of (Block n) = n * 11 + 1
number_of (Value n) = n * 11 + 2
number_of (Used n) = n * 11 + 3
number_of (Start n) = n * 11 + 4
number_of (Lasts n) = n * 11 + 5
number_of (Leads n) = n * 11 + 6
number_of (Tests n) = n * 11 + 7
number_of (Strong n) = n * 11 + 8
number_of (Events n) = n * 11 + 9
number_of Hub = 10

-- the link from one node to another
abbrev pub link_of : Node → Node → Link
link_of a b = record { from = number_of a; to = number_of b }

-- the node of a place or a block
abbrev pub node_of : Thing → Node
node_of (PlaceThing p) = Place p
node_of (BlockThing b) = Block b
