-- Each edge of the graph of a form is one of its links.
use Rattle.std.proofs.Common.{◌≡◌, ◌⊎◌, inl, inr, ℕ, ◌+◌, List, [], ◌∷◌, ◌++◌, slice_get, Option, Some, None, refl, sym, ap, subst, arith}
use Rattle.std.specs.List.{flat_map}
use Rattle.std.specs.Option.{option_map, option_and_then}
use Rattle.zl_value.specs.Lists.{Has}
use Rattle.zl_meaning.specs.FlatForm.{FlatForm, HasForm, HasDefiner, kind_of}
use Rattle.zl_meaning.specs.Uses.{parts}
use Rattle.zl_meaning.specs.WellFormed.{named_in}
use Rattle.zl_meaning.specs.Depends.{IsBlockOf, read_by, read_parts}
use Rattle.zl_meaning.specs.declared.block.Block.{Block as TheBlock}
use Rattle.zl_meaning.specs.declared.block.BlockKind.{BlockKind}
use Rattle.zl_meaning.specs.declared.block.BlockKind.TheVariants.{Arm, State, Reset}
use Rattle.zl_meaning.specs.declared.place.Definer.{Definer}
use Rattle.zl_meaning.specs.declared.place.Definer.TheVariants.{Input, Plain, Der, Start as Init}
use Rattle.zl_meaning.specs.declared.place.DerArm.{DerArm}
use Rattle.zl_meaning.specs.declared.place.PlaceInfo.{PlaceInfo}
use Rattle.zl_meaning.specs.declared.occurrence.Form.{Form}
use Rattle.zl_meaning.specs.declared.occurrence.Form.TheVariants.{Lit, Read, Last, Op as Apply, If, Arrow, Pre, Result, Up, Fired, Step}
use Rattle.zl_meaning.specs.declared.occurrence.Occ.{Occ}
use Rattle.zl_meaning.proofs.Members.{has-left, has-right, has-later, has-none, has-case, has-cases, has-flat_map}
use Rattle.zl_graph.specs.declared.graph.Link.{Link}
use Rattle.zl_causal.specs.declared.node.Node.{Node}
use Rattle.zl_causal.specs.declared.node.Node.TheVariants.{Place, Block, Value, Used, Start, Lasts, Leads, Tests, Strong, Events}
use Rattle.zl_causal.specs.Nodes.{link_of}
use Rattle.zl_causal.specs.FormLinks.{reading, branch_links, form_links, call_links, occ_links, arm_links, definer_links, block_links, kind_links, parent_links, choice_links, test_links, automaton_links, move_links, strong_links, place_call_links, places_links, blocks_links, occs_links, choices_links, automata_links, links_of}
use Rattle.zl_causal.specs.Edges as edges
use Rattle.zl_causal.specs.Edges.{Edge, IsDer, all_definers}
use Rattle.zl_causal.proofs.Numbered.{numbered-has, own-has, one_of_place, one_of_all}

-- ---- where a link stands among all

module _ (f : FlatForm) (l : Link) where
  by_places : Has (places_links 0 0 f.places) l → Has (links_of f) l
  by_places h = has-left (((places_links 0 0 f.places ++ blocks_links 0 f.blocks) ++ occs_links 0 f.occs) ++ choices_links 0 f.choices) (automata_links 0 f.automata) l
      (has-left ((places_links 0 0 f.places ++ blocks_links 0 f.blocks) ++ occs_links 0 f.occs) (choices_links 0 f.choices) l
      (has-left (places_links 0 0 f.places ++ blocks_links 0 f.blocks) (occs_links 0 f.occs) l (has-left (places_links 0 0 f.places) (blocks_links 0 f.blocks) l h)))

  by_blocks : Has (blocks_links 0 f.blocks) l → Has (links_of f) l
  by_blocks h = has-left (((places_links 0 0 f.places ++ blocks_links 0 f.blocks) ++ occs_links 0 f.occs) ++ choices_links 0 f.choices) (automata_links 0 f.automata) l
      (has-left ((places_links 0 0 f.places ++ blocks_links 0 f.blocks) ++ occs_links 0 f.occs) (choices_links 0 f.choices) l
      (has-left (places_links 0 0 f.places ++ blocks_links 0 f.blocks) (occs_links 0 f.occs) l (has-right (places_links 0 0 f.places) (blocks_links 0 f.blocks) l h)))

  by_occs : Has (occs_links 0 f.occs) l → Has (links_of f) l
  by_occs h = has-left (((places_links 0 0 f.places ++ blocks_links 0 f.blocks) ++ occs_links 0 f.occs) ++ choices_links 0 f.choices) (automata_links 0 f.automata) l
      (has-left ((places_links 0 0 f.places ++ blocks_links 0 f.blocks) ++ occs_links 0 f.occs) (choices_links 0 f.choices) l
      (has-right (places_links 0 0 f.places ++ blocks_links 0 f.blocks) (occs_links 0 f.occs) l h))

  by_choices : Has (choices_links 0 f.choices) l → Has (links_of f) l
  by_choices h = has-left (((places_links 0 0 f.places ++ blocks_links 0 f.blocks) ++ occs_links 0 f.occs) ++ choices_links 0 f.choices) (automata_links 0 f.automata) l
      (has-right ((places_links 0 0 f.places ++ blocks_links 0 f.blocks) ++ occs_links 0 f.occs) (choices_links 0 f.choices) l h)

  by_automata : Has (automata_links 0 f.automata) l → Has (links_of f) l
  by_automata h = has-right (((places_links 0 0 f.places ++ blocks_links 0 f.blocks) ++ occs_links 0 f.occs) ++ choices_links 0 f.choices) (automata_links 0 f.automata) l h

-- ---- links of an entry

at_start : (n : ℕ) → n ≡ 0 + n
at_start n = omega arith

nth : {X : Type 0} (xs : List X) (n : ℕ) (x : X) → slice_get xs n ≡ Some x → Has xs x
nth xs n x e = record { index = n; is = e }

block_link : (p m b : ℕ) (definer : Definer) → IsBlockOf definer b → Has (definer_links p m definer) (link_of (Place p) (Block b))
block_link p m b (Input n) is = absurd is
block_link p m b (Plain c k) is = record { index = 0; is = ap (λ x. Some (link_of (Place p) (Block x))) is }
block_link p m b (Der c slope resets) is = record { index = 0; is = ap (λ x. Some (link_of (Place p) (Block x))) is }
block_link p m b (Init c k) is = record { index = 0; is = ap (λ x. Some (link_of (Place p) (Block x))) is }

arms_link : (p m k : ℕ) (arms : List DerArm) → Has (named_in arms) k → Has (flat_map (arm_links p m) arms) (link_of (Place p) (Value k))
arms_link p m k [] h = absurd (has-none k h)
arms_link p m k (arm ∷ arms) h = by_case (λ g. arms_link p m k arms g) (has-case arm.event (arm.value ∷ named_in arms) k h)
  where
    rest_of : (Has (named_in arms) k → Has (flat_map (arm_links p m) arms) (link_of (Place p) (Value k))) → (arm.value ≡ k) ⊎ Has (named_in arms) k
        → Has (flat_map (arm_links p m) (arm ∷ arms)) (link_of (Place p) (Value k))
    rest_of rest (inl e) = record { index = 1; is = ap (λ x. Some (link_of (Place p) (Value x))) e }
    rest_of rest (inr g) = has-right (arm_links p m arm) (flat_map (arm_links p m) arms) (link_of (Place p) (Value k)) (rest g)

    by_case : (Has (named_in arms) k → Has (flat_map (arm_links p m) arms) (link_of (Place p) (Value k))) → (arm.event ≡ k) ⊎ Has (arm.value ∷ named_in arms) k
        → Has (flat_map (arm_links p m) (arm ∷ arms)) (link_of (Place p) (Value k))
    by_case rest (inl e) = record { index = 0; is = ap (λ x. Some (link_of (Place p) (Value x))) e }
    by_case rest (inr g) = rest_of rest (has-case arm.value (named_in arms) k g)

only : (x y : ℕ) → Has (x ∷ []) y → x ≡ y
only x y h = has-cases (x ≡ y) x [] y h (λ e. e) (λ g. absurd (has-none y g))

named_link : (p m k : ℕ) (definer : Definer) → Has (read_by definer) k → Has (definer_links p m definer) (link_of (Place p) (Value k))
named_link p m k (Input n) h = absurd (has-none k h)
named_link p m k (Plain b j) h = record { index = 1; is = ap (λ x. Some (link_of (Place p) (Value x))) (only j k h) }
named_link p m k (Der b slope resets) h = has-later (link_of (Place p) (Block b)) (flat_map (arm_links p m) resets) (link_of (Place p) (Value k)) (arms_link p m k resets h)
named_link p m k (Init b j) h = record { index = 1; is = ap (λ x. Some (link_of (Place p) (Value x))) (only j k h) }

part_link : (k j : ℕ) (form : Form) (l : Link) → Has (read_parts form) j → Has (reading k j) l → Has (form_links k form) l
part_link k j (Lit v) l h g = absurd (has-none j h)
part_link k j (Read p) l h g = absurd (has-none j h)
part_link k j (Last p) l h g = absurd (has-none j h)
part_link k j (Apply op ks) l h g = has-flat_map (reading k) ks j l h g
part_link k j (If c x y) l h g = has-left (flat_map (reading k) (c ∷ x ∷ y ∷ [])) (branch_links c x y) l (has-flat_map (reading k) (c ∷ x ∷ y ∷ []) j l h g)
part_link k j (Arrow x y) l h g = has-flat_map (reading k) (x ∷ y ∷ []) j l h g
part_link k j (Pre x) l h g = absurd (has-none j h)
part_link k j (Result x) l h g = subst (λ i. Has (reading k i) l) (sym (only x j h)) g
part_link k j (Up s) l h g = absurd (has-none j h)
part_link k j (Fired ks) l h g = has-flat_map (reading k) ks j l h g
part_link k j Step l h g = absurd (has-none j h)

used_link : (k j : ℕ) (form : Form) → Has (parts form) j → Has (form_links k form) (link_of (Used j) (Used k))
used_link k j (Lit v) h = absurd (has-none j h)
used_link k j (Read p) h = absurd (has-none j h)
used_link k j (Last p) h = absurd (has-none j h)
used_link k j (Apply op ks) h = part_link k j (Apply op ks) (link_of (Used j) (Used k)) h (nth (reading k j) 2 (link_of (Used j) (Used k)) refl)
used_link k j (If c x y) h = part_link k j (If c x y) (link_of (Used j) (Used k)) h (nth (reading k j) 2 (link_of (Used j) (Used k)) refl)
used_link k j (Arrow x y) h = part_link k j (Arrow x y) (link_of (Used j) (Used k)) h (nth (reading k j) 2 (link_of (Used j) (Used k)) refl)
used_link k j (Pre x) h = record { index = 0; is = ap (λ i. Some (link_of (Used i) (Used k))) (only x j h) }
used_link k j (Result x) h = part_link k j (Result x) (link_of (Used j) (Used k)) h (nth (reading k j) 2 (link_of (Used j) (Used k)) refl)
used_link k j (Up s) h = absurd (has-none j h)
used_link k j (Fired ks) h = part_link k j (Fired ks) (link_of (Used j) (Used k)) h (nth (reading k j) 2 (link_of (Used j) (Used k)) refl)
used_link k j Step h = absurd (has-none j h)

-- ---- entries by what a form says of them

pub by_option : {X Y : Type 0} (g : X → Option Y) (o : Option X) (y : Y) → option_and_then g o ≡ Some y → (x : X) × (o ≡ Some x) × (g x ≡ Some y)
by_option g None y e = absurd (cc)
by_option g (Some x) y e = (x, refl, e)

pub by_kind : (o : Option TheBlock) (kind : BlockKind) → option_map (λ (block : TheBlock). block.kind) o ≡ Some kind → (block : TheBlock) × (o ≡ Some block) × (block.kind ≡ kind)
by_kind None kind e = absurd (cc)
by_kind (Some block) kind e = (block, refl, (let same : block.kind ≡ kind = cc in same))

module _ (f : FlatForm) where
  form_has : (k : ℕ) (form : Form) (l : Link) → HasForm f k form → Has (form_links k form) l → Has (links_of f) l
  form_has k form l h g = by_occs f l (numbered-has occ_links 0 k k f.occs h.0 l (at_start k) h.1
      (has-right (call_links k h.0.call) (form_links k h.0.form) l (subst (λ x. Has (form_links k x) l) (sym h.2) g)))

  definer_has : (p : ℕ) (definer : Definer) (l : Link) → HasDefiner f p definer → ((m : ℕ) → Has (definer_links p m definer) l) → Has (links_of f) l
  definer_has p definer l h g =
      let one = one_of_place 0 0 f.places p h.0 definer h.1 h.2 in
      by_places f l (one.has l (subst (λ n. Has (definer_links n one.m definer) l) (let e : p ≡ one.number = omega (arith, one.is) in e) (g one.m)))

  der_has : (d : ℕ) (resets : List DerArm) (arm : DerArm) (l : Link) → IsDer f d resets → Has resets arm → ((p : ℕ) → Has (arm_links p d arm) l) → Has (links_of f) l
  der_has d resets arm l is has g =
      let one = one_of_all 0 0 f.places d (Der is.0 is.1 resets) is.2 in
      by_places f l (one.has l (subst (λ m. Has (definer_links one.number m (Der is.0 is.1 resets)) l) (at_start d)
      (has-later (link_of (Place one.number) (Block is.0)) (flat_map (arm_links one.number d) resets) l (has-flat_map (arm_links one.number d) resets arm l has (g one.number)))))

  kind_has : (b : ℕ) (kind : BlockKind) (l : Link) → kind_of f b ≡ Some kind → Has (kind_links b kind) l → Has (links_of f) l
  kind_has b kind l is g =
      let h = by_kind (slice_get f.blocks b) kind is in
      by_blocks f l (numbered-has block_links 0 b b f.blocks h.0 l (at_start b) h.1
      (has-right (parent_links b h.0.parent) (kind_links b h.0.kind) l (subst (λ x. Has (kind_links b x) l) (sym h.2) g)))

  -- each edge is a link
  pub edge_link : (a b : Node) → Edge f a b → Has (links_of f) (link_of a b)
  edge_link a b (edges.Declared p place is) = by_places f (link_of (Place p) (Block place.block)) (own-has 0 0 f.places p p place (link_of (Place p) (Block place.block)) (at_start p) is (record { index = 0; is = refl }))
  edge_link a b (edges.InBlock p c definer has is) = definer_has p definer (link_of (Place p) (Block c)) has (λ m. block_link p m c definer is)
  edge_link a b (edges.Named p k definer has read) = definer_has p definer (link_of (Place p) (Value k)) has (λ m. named_link p m k definer read)
  edge_link a b (edges.Called p call is) =
      let h = by_option (λ (place : PlaceInfo). place.call) (slice_get f.places p) call is in
      by_places f (link_of (Place p) (Used call)) (own-has 0 0 f.places p p h.0 (link_of (Place p) (Used call)) (at_start p) h.1
      (has-later (link_of (Place p) (Block h.0.block)) (place_call_links p h.0.call) (link_of (Place p) (Used call)) (subst (λ c. Has (place_call_links p c) (link_of (Place p) (Used call))) (sym h.2) (record { index = 0; is = refl }))))
  edge_link a b (edges.StartBlock p c k definer) = definer_has p (Init c k) (link_of (Start p) (Block c)) definer (λ m. record { index = 2; is = refl })
  edge_link a b (edges.StartValue p c k definer) = definer_has p (Init c k) (link_of (Start p) (Value k)) definer (λ m. record { index = 3; is = refl })
  edge_link a b (edges.StartLeads p c k definer) = definer_has p (Init c k) (link_of (Leads p) (Lasts k)) definer (λ m. record { index = 4; is = refl })
  edge_link a b (edges.ArmUsed d resets arm is has) = der_has d resets arm (link_of (Used arm.value) (Events d)) is has (λ p. record { index = 2; is = refl })
  edge_link a b (edges.ArmEvent d resets arm is has) = der_has d resets arm (link_of (Events d) (Value arm.event)) is has (λ p. record { index = 3; is = refl })
  edge_link a b (edges.Parent c parent is) =
      let h = by_option (λ (block : TheBlock). block.parent) (slice_get f.blocks c) parent is in
      by_blocks f (link_of (Block c) (Block parent)) (numbered-has block_links 0 c c f.blocks h.0 (link_of (Block c) (Block parent)) (at_start c) h.1
      (has-left (parent_links c h.0.parent) (kind_links c h.0.kind) (link_of (Block c) (Block parent)) (subst (λ x. Has (parent_links c x) (link_of (Block c) (Block parent))) (sym h.2) (record { index = 0; is = refl }))))
  edge_link a b (edges.OfArm c of arm is) = kind_has c (Arm of arm) (link_of (Block c) (Tests of)) is (record { index = 0; is = refl })
  edge_link a b (edges.OfBody c of state is) = kind_has c (State of state) (link_of (Block c) (Strong of)) is (record { index = 0; is = refl })
  edge_link a b (edges.OfReset c k is) = kind_has c (Reset k) (link_of (Block c) (Value k)) is (record { index = 0; is = refl })
  edge_link a b (edges.ChoiceTest of k test) =
      by_choices f (link_of (Tests of) (Value k)) (numbered-has choice_links 0 of of f.choices test.choice (link_of (Tests of) (Value k)) (at_start of) test.is
      (has-flat_map (test_links of) test.choice.conds k (link_of (Tests of) (Value k)) test.test (record { index = 0; is = refl })))
  edge_link a b (edges.StrongTest of k test) =
      let l = link_of (Strong of) (Value k) in
      by_automata f l (numbered-has automaton_links 0 of of f.automata test.auto l (at_start of) test.is
      (has-flat_map (flat_map (move_links of)) test.auto.states test.moves l (record { index = test.state; is = test.in_state })
      (has-flat_map (move_links of) test.moves test.move l test.among
      (subst (λ s. Has (strong_links of test.move.cond s) l) (sym test.strong) (record { index = 0; is = ap (λ x. Some (link_of (Strong of) (Value x))) test.test })))))
  edge_link a b (edges.Name k p form) = form_has k (Read p) (link_of (Value k) (Place p)) form (record { index = 0; is = refl })
  edge_link a b (edges.LastOf k p form) = form_has k (Last p) (link_of (Value k) (Start p)) form (record { index = 0; is = refl })
  edge_link a b (edges.LastLeads k p form) = form_has k (Last p) (link_of (Lasts k) (Leads p)) form (record { index = 1; is = refl })
  edge_link a b (edges.PartValue k j form has part) = form_has k form (link_of (Value k) (Value j)) has (part_link k j form (link_of (Value k) (Value j)) part (record { index = 0; is = refl }))
  edge_link a b (edges.PartLasts k j form has part) = form_has k form (link_of (Lasts k) (Lasts j)) has (part_link k j form (link_of (Lasts k) (Lasts j)) part (record { index = 1; is = refl }))
  edge_link a b (edges.PartUsed k j form has part) = form_has k form (link_of (Used j) (Used k)) has (used_link k j form part)
  edge_link a b (edges.YesUsed k c x y form) =
      let l = link_of (Used x) (Value c) in form_has k (If c x y) l form (has-right (flat_map (reading k) (c ∷ x ∷ y ∷ [])) (branch_links c x y) l (record { index = 0; is = refl }))
  edge_link a b (edges.NoUsed k c x y form) =
      let l = link_of (Used y) (Value c) in form_has k (If c x y) l form (has-right (flat_map (reading k) (c ∷ x ∷ y ∷ [])) (branch_links c x y) l (record { index = 1; is = refl }))
  edge_link a b (edges.CallUsed k call is) =
      let h = by_option (λ (occ : Occ). occ.call) (slice_get f.occs k) call is in
      let l = link_of (Used k) (Used call) in
      by_occs f l (numbered-has occ_links 0 k k f.occs h.0 l (at_start k) h.1
      (has-left (call_links k h.0.call) (form_links k h.0.form) l (subst (λ c. Has (call_links k c) l) (sym h.2) (record { index = 0; is = refl }))))
