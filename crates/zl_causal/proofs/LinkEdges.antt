-- Each link of a form is an edge of its graph; so what is reached along links is reached along edges, and the other way round.
use Rattle.std.proofs.Common.{◌≡◌, ⊎_elim, ℕ, ◌+◌, Bool, true, false, List, [], ◌∷◌, ◌++◌, slice_get, Option, Some, None, refl, subst, arith}
use Rattle.std.specs.List.{flat_map}
use Rattle.zl_value.specs.Lists.{Has}
use Rattle.zl_meaning.specs.FlatForm.{FlatForm, HasForm, HasDefiner, kind_of, parent_of, call_of, place_call}
use Rattle.zl_meaning.specs.Depends.{IsStrongTest, read_parts}
use Rattle.zl_meaning.specs.Uses.{parts}
use Rattle.zl_meaning.proofs.LevelLists.{named-event, named-value}
use Rattle.zl_meaning.specs.declared.block.Block.{Block as TheBlock}
use Rattle.zl_meaning.specs.declared.block.BlockKind.{BlockKind}
use Rattle.zl_meaning.specs.declared.block.BlockKind.TheVariants.{Main, Arm, Guard, State, Reset}
use Rattle.zl_meaning.specs.declared.block.Choice.{Choice}
use Rattle.zl_meaning.specs.declared.block.Auto.{Auto}
use Rattle.zl_meaning.specs.declared.place.Definer.{Definer}
use Rattle.zl_meaning.specs.declared.place.Definer.TheVariants.{Input, Plain, Der, Start as Init}
use Rattle.zl_meaning.specs.declared.place.DerArm.{DerArm}
use Rattle.zl_meaning.specs.declared.place.PlaceInfo.{PlaceInfo}
use Rattle.zl_meaning.specs.declared.occurrence.Form.{Form}
use Rattle.zl_meaning.specs.declared.occurrence.Form.TheVariants.{Lit, Read, Last, Op as Apply, If, Arrow, Pre, Result, Up, Fired, Step}
use Rattle.zl_meaning.specs.declared.occurrence.Occ.{Occ}
use Rattle.zl_meaning.proofs.Members.{has-none, has-cases, has-append_case, has-flat_map_from}
use Rattle.zl_graph.specs.declared.graph.Link.{Link}
use Rattle.zl_causal.specs.declared.node.Node.{Node}
use Rattle.zl_causal.specs.declared.node.Node.TheVariants.{Place, Block, Value, Used, Start, Lasts, Leads, Tests, Strong, Events}
use Rattle.zl_causal.specs.Nodes.{link_of}
use Rattle.zl_causal.specs.FormLinks.{reading, branch_links, form_links, call_links, occ_links, arm_links, definer_links, own_links, block_links, kind_links, parent_links, choice_links, test_links, automaton_links, move_links, strong_links, place_call_links, places_links, blocks_links, occs_links, choices_links, automata_links, links_of}
use Rattle.zl_causal.specs.Edges as edges
use Rattle.zl_causal.specs.Edges.{Edge, IsDer, all_definers}
use Rattle.zl_causal.proofs.Numbered.{FromEntry, numbered-from, FromPlace, Own, OfDefiner, places-from}

-- a link is an edge
pub record IsEdge (f : FlatForm) (l : Link) : Type 0 where
  pub from : Node
  pub to : Node
  pub edge : Edge f from to
  pub is : link_of from to ≡ l

of_edge : (f : FlatForm) (l : Link) (a b : Node) → Edge f a b → link_of a b ≡ l → IsEdge f l
of_edge f l a b edge e = record { from = a; to = b; edge = edge; is = e }

one_link : (f : FlatForm) (x l : Link) → Has (x ∷ []) l → (x ≡ l → IsEdge f l) → IsEdge f l
one_link f x l h first = has-cases (IsEdge f l) x [] l h first (λ g. absurd (has-none l g))

two_links : (f : FlatForm) (x y l : Link) → Has (x ∷ y ∷ []) l → (x ≡ l → IsEdge f l) → (y ≡ l → IsEdge f l) → IsEdge f l
two_links f x y l h first second = has-cases (IsEdge f l) x (y ∷ []) l h first (λ g. one_link f y l g second)

three_links : (f : FlatForm) (x y z l : Link) → Has (x ∷ y ∷ z ∷ []) l → (x ≡ l → IsEdge f l) → (y ≡ l → IsEdge f l) → (z ≡ l → IsEdge f l) → IsEdge f l
three_links f x y z l h first second third = has-cases (IsEdge f l) x (y ∷ z ∷ []) l h first (λ g. two_links f y z l g second third)

-- ---- occurrences

reading_edge : (f : FlatForm) (k j : ℕ) (form : Form) (l : Link) → HasForm f k form → Has (read_parts form) j → Has (parts form) j → Has (reading k j) l → IsEdge f l
reading_edge f k j form l has reads part h =
    three_links f (link_of (Value k) (Value j)) (link_of (Lasts k) (Lasts j)) (link_of (Used j) (Used k)) l h
    (λ e. of_edge f l (Value k) (Value j) (edges.PartValue k j form has reads) e)
    (λ e. of_edge f l (Lasts k) (Lasts j) (edges.PartLasts k j form has reads) e)
    (λ e. of_edge f l (Used j) (Used k) (edges.PartUsed k j form has part) e)

form_edge : (f : FlatForm) (k : ℕ) (form : Form) (l : Link) → HasForm f k form → Has (form_links k form) l → IsEdge f l
form_edge f k (Lit v) l has h = absurd (has-none l h)
form_edge f k (Read p) l has h = one_link f (link_of (Value k) (Place p)) l h (λ e. of_edge f l (Value k) (Place p) (edges.Name k p has) e)
form_edge f k (Last p) l has h =
    two_links f (link_of (Value k) (Start p)) (link_of (Lasts k) (Leads p)) l h (λ e. of_edge f l (Value k) (Start p) (edges.LastOf k p has) e) (λ e. of_edge f l (Lasts k) (Leads p) (edges.LastLeads k p has) e)
form_edge f k (Apply op ks) l has h = let g = has-flat_map_from (reading k) ks l h in reading_edge f k g.0 (Apply op ks) l has g.1 g.1 g.2
form_edge f k (If c x y) l has h =
    ⊎_elim (λ p. let g = has-flat_map_from (reading k) (c ∷ x ∷ y ∷ []) l p in reading_edge f k g.0 (If c x y) l has g.1 g.1 g.2)
    (λ p. two_links f (link_of (Used x) (Value c)) (link_of (Used y) (Value c)) l p (λ e. of_edge f l (Used x) (Value c) (edges.YesUsed k c x y has) e) (λ e. of_edge f l (Used y) (Value c) (edges.NoUsed k c x y has) e))
    (has-append_case (flat_map (reading k) (c ∷ x ∷ y ∷ [])) (branch_links c x y) l h)
form_edge f k (Arrow x y) l has h = let g = has-flat_map_from (reading k) (x ∷ y ∷ []) l h in reading_edge f k g.0 (Arrow x y) l has g.1 g.1 g.2
form_edge f k (Pre x) l has h = one_link f (link_of (Used x) (Used k)) l h (λ e. of_edge f l (Used x) (Used k) (edges.PartUsed k x (Pre x) has (record { index = 0; is = refl })) e)
form_edge f k (Result x) l has h = reading_edge f k x (Result x) l has (record { index = 0; is = refl }) (record { index = 0; is = refl }) h
form_edge f k (Up s) l has h = absurd (has-none l h)
form_edge f k (Fired ks) l has h = let g = has-flat_map_from (reading k) ks l h in reading_edge f k g.0 (Fired ks) l has g.1 g.1 g.2
form_edge f k Step l has h = absurd (has-none l h)

call_edge : (f : FlatForm) (k : ℕ) (call : Option ℕ) (l : Link) → call_of f k ≡ call → Has (call_links k call) l → IsEdge f l
call_edge f k None l is h = absurd (has-none l h)
call_edge f k (Some call) l is h = one_link f (link_of (Used k) (Used call)) l h (λ e. of_edge f l (Used k) (Used call) (edges.CallUsed k call is) e)

occ_edge : (f : FlatForm) (k : ℕ) (occ : Occ) (l : Link) → slice_get f.occs k ≡ Some occ → Has (occ_links k occ) l → IsEdge f l
occ_edge f k occ l at h =
    ⊎_elim (λ g. call_edge f k occ.call l (let e : call_of f k ≡ occ.call = rw at refl in e) g) (λ g. form_edge f k occ.form l (occ, at, refl) g)
    (has-append_case (call_links k occ.call) (form_links k occ.form) l h)

-- ---- places

place_call_edge : (f : FlatForm) (p : ℕ) (call : Option ℕ) (l : Link) → place_call f p ≡ call → Has (place_call_links p call) l → IsEdge f l
place_call_edge f p None l is h = absurd (has-none l h)
place_call_edge f p (Some call) l is h = one_link f (link_of (Place p) (Used call)) l h (λ e. of_edge f l (Place p) (Used call) (edges.Called p call is) e)

own_edge : (f : FlatForm) (p : ℕ) (place : PlaceInfo) (l : Link) → slice_get f.places p ≡ Some place → Has (own_links p place) l → IsEdge f l
own_edge f p place l at h = has-cases (IsEdge f l) (link_of (Place p) (Block place.block)) (place_call_links p place.call) l h
    (λ e. of_edge f l (Place p) (Block place.block) (edges.Declared p place at) e)
    (λ g. place_call_edge f p place.call l (let e : place_call f p ≡ place.call = rw at refl in e) g)

arm_edge : (f : FlatForm) (p d b slope : ℕ) (resets : List DerArm) (arm : DerArm) (l : Link) → HasDefiner f p (Der b slope resets) → IsDer f d resets → Has resets arm → Has (arm_links p d arm) l → IsEdge f l
arm_edge f p d b slope resets arm l definer is has h =
    has-cases (IsEdge f l) (link_of (Place p) (Value arm.event)) (link_of (Place p) (Value arm.value) ∷ link_of (Used arm.value) (Events d) ∷ link_of (Events d) (Value arm.event) ∷ []) l h
    (λ e. of_edge f l (Place p) (Value arm.event) (edges.Named p arm.event (Der b slope resets) definer (named-event resets arm has)) e)
    (λ g. three_links f (link_of (Place p) (Value arm.value)) (link_of (Used arm.value) (Events d)) (link_of (Events d) (Value arm.event)) l g
    (λ e. of_edge f l (Place p) (Value arm.value) (edges.Named p arm.value (Der b slope resets) definer (named-value resets arm has)) e)
    (λ e. of_edge f l (Used arm.value) (Events d) (edges.ArmUsed d resets arm is has) e)
    (λ e. of_edge f l (Events d) (Value arm.event) (edges.ArmEvent d resets arm is has) e))

definer_edge : (f : FlatForm) (p d : ℕ) (definer : Definer) (l : Link) → HasDefiner f p definer → slice_get (all_definers f.places) d ≡ Some definer → Has (definer_links p d definer) l → IsEdge f l
definer_edge f p d (Input n) l has all h = absurd (has-none l h)
definer_edge f p d (Plain b k) l has all h =
    two_links f (link_of (Place p) (Block b)) (link_of (Place p) (Value k)) l h
    (λ e. of_edge f l (Place p) (Block b) (edges.InBlock p b (Plain b k) has refl) e)
    (λ e. of_edge f l (Place p) (Value k) (edges.Named p k (Plain b k) has (record { index = 0; is = refl })) e)
definer_edge f p d (Der b slope resets) l has all h =
    has-cases (IsEdge f l) (link_of (Place p) (Block b)) (flat_map (arm_links p d) resets) l h
    (λ e. of_edge f l (Place p) (Block b) (edges.InBlock p b (Der b slope resets) has refl) e)
    (λ g. let x = has-flat_map_from (arm_links p d) resets l g in arm_edge f p d b slope resets x.0 l has (b, slope, all) x.1 x.2)
definer_edge f p d (Init b k) l has all h =
    two_more (link_of (Place p) (Block b)) (link_of (Place p) (Value k)) h
    (λ e. of_edge f l (Place p) (Block b) (edges.InBlock p b (Init b k) has refl) e)
    (λ e. of_edge f l (Place p) (Value k) (edges.Named p k (Init b k) has (record { index = 0; is = refl })) e)
    (λ g. three_links f (link_of (Start p) (Block b)) (link_of (Start p) (Value k)) (link_of (Leads p) (Lasts k)) l g
    (λ e. of_edge f l (Start p) (Block b) (edges.StartBlock p b k has) e)
    (λ e. of_edge f l (Start p) (Value k) (edges.StartValue p b k has) e)
    (λ e. of_edge f l (Leads p) (Lasts k) (edges.StartLeads p b k has) e))
  where
    two_more : (x y : Link) → {rest : List Link} → Has (x ∷ y ∷ rest) l → (x ≡ l → IsEdge f l) → (y ≡ l → IsEdge f l) → (Has rest l → IsEdge f l) → IsEdge f l
    two_more x y {rest} g first second others = has-cases (IsEdge f l) x (y ∷ rest) l g first (λ k. has-cases (IsEdge f l) y rest l k second others)

zero_plus : (n i : ℕ) → n ≡ 0 + i → i ≡ n
zero_plus n i e = omega (arith, e)

place_edge : (f : FlatForm) (l : Link) → FromPlace 0 0 f.places l → IsEdge f l
place_edge f l (Own i n place at is has) = own_edge f n place l (subst (λ m. slice_get f.places m ≡ Some place) (zero_plus n i is) at) has
place_edge f l (OfDefiner i n m k place definer at is among all number has) =
    definer_edge f n k definer l (place, subst (λ j. slice_get f.places j ≡ Some place) (zero_plus n i is) at, among)
    (subst (λ j. slice_get (all_definers f.places) j ≡ Some definer) (zero_plus k m number) all) has

-- ---- blocks, choices, automata

parent_edge : (f : FlatForm) (b : ℕ) (parent : Option ℕ) (l : Link) → parent_of f b ≡ parent → Has (parent_links b parent) l → IsEdge f l
parent_edge f b None l is h = absurd (has-none l h)
parent_edge f b (Some parent) l is h = one_link f (link_of (Block b) (Block parent)) l h (λ e. of_edge f l (Block b) (Block parent) (edges.Parent b parent is) e)

kind_edge : (f : FlatForm) (b : ℕ) (kind : BlockKind) (l : Link) → kind_of f b ≡ Some kind → Has (kind_links b kind) l → IsEdge f l
kind_edge f b Main l is h = absurd (has-none l h)
kind_edge f b (Arm of arm) l is h = one_link f (link_of (Block b) (Tests of)) l h (λ e. of_edge f l (Block b) (Tests of) (edges.OfArm b of arm is) e)
kind_edge f b (Guard of state) l is h = absurd (has-none l h)
kind_edge f b (State of state) l is h = one_link f (link_of (Block b) (Strong of)) l h (λ e. of_edge f l (Block b) (Strong of) (edges.OfBody b of state is) e)
kind_edge f b (Reset k) l is h = one_link f (link_of (Block b) (Value k)) l h (λ e. of_edge f l (Block b) (Value k) (edges.OfReset b k is) e)

block_edge : (f : FlatForm) (b : ℕ) (block : TheBlock) (l : Link) → slice_get f.blocks b ≡ Some block → Has (block_links b block) l → IsEdge f l
block_edge f b block l at h =
    ⊎_elim (λ g. parent_edge f b block.parent l (let e : parent_of f b ≡ block.parent = rw at refl in e) g) (λ g. kind_edge f b block.kind l (let e : kind_of f b ≡ Some block.kind = rw at refl in e) g)
    (has-append_case (parent_links b block.parent) (kind_links b block.kind) l h)

choice_edge : (f : FlatForm) (of : ℕ) (choice : Choice) (l : Link) → slice_get f.choices of ≡ Some choice → Has (choice_links of choice) l → IsEdge f l
choice_edge f of choice l at h =
    let g = has-flat_map_from (test_links of) choice.conds l h in
    one_link f (link_of (Tests of) (Value g.0)) l g.2 (λ e. of_edge f l (Tests of) (Value g.0) (edges.ChoiceTest of g.0 (record { choice = choice; is = at; test = g.1 })) e)

strong_edge : (f : FlatForm) (of k : ℕ) (strong : Bool) (l : Link) → (strong ≡ true → IsStrongTest f of k) → Has (strong_links of k strong) l → IsEdge f l
strong_edge f of k true l test h = one_link f (link_of (Strong of) (Value k)) l h (λ e. of_edge f l (Strong of) (Value k) (edges.StrongTest of k (test refl)) e)
strong_edge f of k false l test h = absurd (has-none l h)

automaton_edge : (f : FlatForm) (of : ℕ) (auto : Auto) (l : Link) → slice_get f.automata of ≡ Some auto → Has (automaton_links of auto) l → IsEdge f l
automaton_edge f of auto l at h =
    let moves = has-flat_map_from (flat_map (move_links of)) auto.states l h in
    let move = has-flat_map_from (move_links of) moves.0 l moves.2 in
    strong_edge f of move.0.cond move.0.strong l
    (λ e. record { auto = auto; is = at; state = moves.1.index; moves = moves.0; in_state = moves.1.is; move = move.0; among = move.1; strong = e; test = refl }) move.2

-- ---- all

entry_at : {X : Type 0} (links : ℕ → X → List Link) (xs : List X) (l : Link) (h : FromEntry links 0 xs l) → slice_get xs h.number ≡ Some h.entry
entry_at links xs l h = subst (λ j. slice_get xs j ≡ Some h.entry) (zero_plus h.number h.index h.is) h.at

pub link_edge : (f : FlatForm) (l : Link) → Has (links_of f) l → IsEdge f l
link_edge f l h = ⊎_elim by_four (λ g. let e = numbered-from automaton_links 0 f.automata l g in automaton_edge f e.number e.entry l (entry_at automaton_links f.automata l e) e.has)
    (has-append_case (((places_links 0 0 f.places ++ blocks_links 0 f.blocks) ++ occs_links 0 f.occs) ++ choices_links 0 f.choices) (automata_links 0 f.automata) l h)
  where
    by_two : Has (places_links 0 0 f.places ++ blocks_links 0 f.blocks) l → IsEdge f l
    by_two g = ⊎_elim (λ k. place_edge f l (places-from 0 0 f.places l k)) (λ k. let e = numbered-from block_links 0 f.blocks l k in block_edge f e.number e.entry l (entry_at block_links f.blocks l e) e.has)
        (has-append_case (places_links 0 0 f.places) (blocks_links 0 f.blocks) l g)

    by_three : Has ((places_links 0 0 f.places ++ blocks_links 0 f.blocks) ++ occs_links 0 f.occs) l → IsEdge f l
    by_three g = ⊎_elim by_two (λ k. let e = numbered-from occ_links 0 f.occs l k in occ_edge f e.number e.entry l (entry_at occ_links f.occs l e) e.has)
        (has-append_case (places_links 0 0 f.places ++ blocks_links 0 f.blocks) (occs_links 0 f.occs) l g)

    by_four : Has (((places_links 0 0 f.places ++ blocks_links 0 f.blocks) ++ occs_links 0 f.occs) ++ choices_links 0 f.choices) l → IsEdge f l
    by_four g = ⊎_elim by_three (λ k. let e = numbered-from choice_links 0 f.choices l k in choice_edge f e.number e.entry l (entry_at choice_links f.choices l e) e.has)
        (has-append_case ((places_links 0 0 f.places ++ blocks_links 0 f.blocks) ++ occs_links 0 f.occs) (choices_links 0 f.choices) l g)
