-- The links of the graph of a form, one by one as the form has its entries: from each node to what it depends on.
use Rattle.std.specs.Prelude.{ℕ, ◌+◌, Bool, true, false, List, [], ◌∷◌, ◌++◌, length, Option, Some, None}
use Rattle.std.specs.List.{flat_map}
use Rattle.zl_meaning.specs.FlatForm.{FlatForm}
use Rattle.zl_meaning.specs.declared.block.Block.{Block as TheBlock}
use Rattle.zl_meaning.specs.declared.block.BlockKind.{BlockKind}
use Rattle.zl_meaning.specs.declared.block.BlockKind.TheVariants.{Main, Arm, Guard, State, Reset}
use Rattle.zl_meaning.specs.declared.block.Choice.{Choice}
use Rattle.zl_meaning.specs.declared.block.Auto.{Auto}
use Rattle.zl_meaning.specs.declared.block.AutoMove.{AutoMove}
use Rattle.zl_meaning.specs.declared.place.Definer.{Definer}
use Rattle.zl_meaning.specs.declared.place.Definer.TheVariants.{Input, Plain, Der, Start as Init}
use Rattle.zl_meaning.specs.declared.place.DerArm.{DerArm}
use Rattle.zl_meaning.specs.declared.place.PlaceInfo.{PlaceInfo}
use Rattle.zl_meaning.specs.declared.occurrence.Form.{Form}
use Rattle.zl_meaning.specs.declared.occurrence.Form.TheVariants.{Lit, Read, Last, Op as Apply, If, Arrow, Pre, Result, Up, Fired, Step}
use Rattle.zl_meaning.specs.declared.occurrence.Occ.{Occ}
use Rattle.zl_graph.specs.declared.graph.Link.{Link}
use Rattle.zl_causal.specs.declared.node.Node.TheVariants.{Place, Block, Value, Used, Start, Lasts, Leads, Tests, Strong, Events}
use Rattle.zl_causal.specs.Nodes.{link_of}

-- the links of the entries of a list, of which the first has the number `n`
abbrev pub numbered : {X : Type 0} → (ℕ → X → List Link) → ℕ → List X → List Link
numbered links n [] = []
numbered links n (x ∷ xs) = links n x ++ numbered links (n + 1) xs

-- occurrence number `k` reads its part `j`
abbrev pub reading : ℕ → ℕ → List Link
reading k j = link_of (Value k) (Value j) ∷ link_of (Lasts k) (Lasts j) ∷ link_of (Used j) (Used k) ∷ []

-- the branches of an `if` are evaluated by its condition
abbrev pub branch_links : ℕ → ℕ → ℕ → List Link
branch_links c x y = link_of (Used x) (Value c) ∷ link_of (Used y) (Value c) ∷ []

abbrev pub form_links : ℕ → Form → List Link
form_links k (Lit v) = []
form_links k (Read p) = link_of (Value k) (Place p) ∷ []
form_links k (Last p) = link_of (Value k) (Start p) ∷ link_of (Lasts k) (Leads p) ∷ []
form_links k (Apply op ks) = flat_map (reading k) ks
form_links k (If c x y) = flat_map (reading k) (c ∷ x ∷ y ∷ []) ++ branch_links c x y
form_links k (Arrow x y) = flat_map (reading k) (x ∷ y ∷ [])
form_links k (Pre x) = link_of (Used x) (Used k) ∷ []
form_links k (Result x) = reading k x
form_links k (Up s) = []
form_links k (Fired ks) = flat_map (reading k) ks
form_links k Step = []

abbrev pub call_links : ℕ → Option ℕ → List Link
call_links k None = []
call_links k (Some call) = link_of (Used k) (Used call) ∷ []

abbrev pub occ_links : ℕ → Occ → List Link
occ_links k occ = call_links k occ.call ++ form_links k occ.form

abbrev pub occs_links : ℕ → List Occ → List Link
occs_links k occs = numbered occ_links k occs

-- a reset arm of definer number `d` of all, which is of place number `p`
abbrev pub arm_links : ℕ → ℕ → DerArm → List Link
arm_links p d arm = link_of (Place p) (Value arm.event) ∷ link_of (Place p) (Value arm.value) ∷ link_of (Used arm.value) (Events d) ∷ link_of (Events d) (Value arm.event) ∷ []

abbrev pub definer_links : ℕ → ℕ → Definer → List Link
definer_links p d (Input n) = []
definer_links p d (Plain b k) = link_of (Place p) (Block b) ∷ link_of (Place p) (Value k) ∷ []
definer_links p d (Der b slope resets) = link_of (Place p) (Block b) ∷ flat_map (arm_links p d) resets
definer_links p d (Init b k) = link_of (Place p) (Block b) ∷ link_of (Place p) (Value k) ∷ link_of (Start p) (Block b) ∷ link_of (Start p) (Value k) ∷ link_of (Leads p) (Lasts k) ∷ []

abbrev pub definers_links : ℕ → ℕ → List Definer → List Link
definers_links p d definers = numbered (definer_links p) d definers

abbrev pub place_call_links : ℕ → Option ℕ → List Link
place_call_links p None = []
place_call_links p (Some call) = link_of (Place p) (Used call) ∷ []

abbrev pub own_links : ℕ → PlaceInfo → List Link
own_links p place = link_of (Place p) (Block place.block) ∷ place_call_links p place.call

abbrev pub places_links : ℕ → ℕ → List PlaceInfo → List Link
places_links p d [] = []
places_links p d (place ∷ places) = (own_links p place ++ definers_links p d place.definers) ++ places_links (p + 1) (d + length place.definers) places

abbrev pub parent_links : ℕ → Option ℕ → List Link
parent_links b None = []
parent_links b (Some parent) = link_of (Block b) (Block parent) ∷ []

abbrev pub kind_links : ℕ → BlockKind → List Link
kind_links b Main = []
kind_links b (Arm of arm) = link_of (Block b) (Tests of) ∷ []
kind_links b (Guard of state) = []
kind_links b (State of state) = link_of (Block b) (Strong of) ∷ []
kind_links b (Reset k) = link_of (Block b) (Value k) ∷ []

abbrev pub block_links : ℕ → TheBlock → List Link
block_links b block = parent_links b block.parent ++ kind_links b block.kind

abbrev pub blocks_links : ℕ → List TheBlock → List Link
blocks_links b blocks = numbered block_links b blocks

abbrev pub test_links : ℕ → ℕ → List Link
test_links of k = link_of (Tests of) (Value k) ∷ []

abbrev pub choice_links : ℕ → Choice → List Link
choice_links of choice = flat_map (test_links of) choice.conds

abbrev pub choices_links : ℕ → List Choice → List Link
choices_links of choices = numbered choice_links of choices

abbrev pub strong_links : ℕ → ℕ → Bool → List Link
strong_links of k true = link_of (Strong of) (Value k) ∷ []
strong_links of k false = []

abbrev pub move_links : ℕ → AutoMove → List Link
move_links of move = strong_links of move.cond move.strong

abbrev pub automaton_links : ℕ → Auto → List Link
automaton_links of auto = flat_map (flat_map (move_links of)) auto.states

abbrev pub automata_links : ℕ → List Auto → List Link
automata_links of automata = numbered automaton_links of automata

-- the links of a form
abbrev pub links_of : FlatForm → List Link
links_of f = (((places_links 0 0 f.places ++ blocks_links 0 f.blocks) ++ occs_links 0 f.occs) ++ choices_links 0 f.choices) ++ automata_links 0 f.automata
