-- A way in the graph of a form, from a place or a block to another, is a dependency.
use Rattle.std.proofs.Common.{◌≡◌, ◌⊎◌, inl, inr, ℕ, Bool, true, false, List, slice_get, Option, Some, refl, sym, ap, ◌∙◌, subst}
use Rattle.zl_value.specs.Lists.{Has}
use Rattle.zl_meaning.specs.FlatForm.{FlatForm, HasForm, HasDefiner, call_of, place_call}
use Rattle.zl_meaning.specs.Uses.{BranchOf, ResetOf, AsBranch, AsReset, parts, events_of}
use Rattle.zl_meaning.specs.Branches.{IsPart, Under, Is as UnderIs, Part as UnderPart, Called as UnderCalled}
use Rattle.zl_meaning.specs.Depends as depends
use Rattle.zl_meaning.specs.Depends.{Thing, PlaceThing, BlockThing, OccReads, DependsAtOnce, Depends, IsChoiceTest, IsStrongTest}
use Rattle.zl_meaning.specs.declared.place.Definer.{Definer}
use Rattle.zl_meaning.specs.declared.place.Definer.TheVariants.{Der, Start as Init}
use Rattle.zl_meaning.specs.declared.place.DerArm.{DerArm}
use Rattle.zl_meaning.specs.declared.place.PlaceInfo.{PlaceInfo}
use Rattle.zl_meaning.specs.declared.occurrence.Form.{Form}
use Rattle.zl_meaning.specs.declared.occurrence.Form.TheVariants.{Last}
use Rattle.zl_causal.specs.declared.node.Node.{Node}
use Rattle.zl_causal.specs.declared.node.Node.TheVariants.{Place, Block, Value, Used, Start, Lasts, Leads, Tests, Strong, Events, Hub}
use Rattle.zl_meaning.proofs.Members.{has-map, has-flat_map_from}
use Rattle.zl_causal.specs.Nodes.{node_of}
use Rattle.zl_causal.specs.Edges as edges
use Rattle.zl_causal.specs.Edges.{Edge, Way, One, More, IsDer, all_definers}

-- a thing is `t`, or depends on it
abbrev IsOrDepends : FlatForm → Thing → Thing → Type 0
IsOrDepends f t s = (s ≡ t) ⊎ Depends f s t

-- the value of an occurrence reads what is `t` or depends on it
record ValueMeans (f : FlatForm) (t : Thing) (k : ℕ) : Type 0 where
  thing : Thing
  reads : OccReads f k thing
  then : IsOrDepends f t thing

-- an occurrence stands in a branch or a reset value, and the condition or an event does so
data UsedMeans (f : FlatForm) (t : Thing) (k : ℕ) : Type 0 where
  InBranch : (whole condition : ℕ) (side : Bool) → Under f (BranchOf whole condition side) k → ValueMeans f t condition → UsedMeans f t k
  InReset : (call : Option ℕ) (events : List ℕ) (arm event : ℕ) → Under f (ResetOf call events arm) k → Has events event → ValueMeans f t event → UsedMeans f t k

-- an `init` value does so, or its block
data StartMeans (f : FlatForm) (t : Thing) (p : ℕ) : Type 0 where
  ByBlock : (b k : ℕ) → HasDefiner f p (Init b k) → IsOrDepends f t (BlockThing b) → StartMeans f t p
  ByValue : (b k : ℕ) → HasDefiner f p (Init b k) → ValueMeans f t k → StartMeans f t p

record TestsMeans (f : FlatForm) (t : Thing) (of : ℕ) : Type 0 where
  test : ℕ
  is : IsChoiceTest f of test
  means : ValueMeans f t test

record StrongMeans (f : FlatForm) (t : Thing) (of : ℕ) : Type 0 where
  test : ℕ
  is : IsStrongTest f of test
  means : ValueMeans f t test

record EventsMeans (f : FlatForm) (t : Thing) (d : ℕ) : Type 0 where
  resets : List DerArm
  arm : DerArm
  is : IsDer f d resets
  among : Has resets arm
  means : ValueMeans f t arm.event

-- what a way to `t` means, node by node
Means : FlatForm → Thing → Node → Type 0
Means f t (Place p) = Depends f (PlaceThing p) t
Means f t (Block b) = Depends f (BlockThing b) t
Means f t (Value k) = ValueMeans f t k
Means f t (Used k) = UsedMeans f t k
Means f t (Start p) = StartMeans f t p
Means f t (Tests of) = TestsMeans f t of
Means f t (Strong of) = StrongMeans f t of
Means f t (Events d) = EventsMeans f t d
Means f t (Lasts k) = ⊥
Means f t (Leads p) = ⊥
Means f t Hub = ⊥

-- the node is that of `t`, or a way leads on
Reached : FlatForm → Thing → Node → Type 0
Reached f t m = (m ≡ node_of t) ⊎ Means f t m

on : (f : FlatForm) (t a s : Thing) → DependsAtOnce f a s → IsOrDepends f t s → Depends f a t
on f t a s step (inl e) = subst (Depends f a) e (depends.AtOnce a s step)
on f t a s step (inr rest) = depends.By a s t step rest

to_place : (f : FlatForm) (t : Thing) (p : ℕ) → Reached f t (Place p) → IsOrDepends f t (PlaceThing p)
unfolding Reached Means
to_place f t p (inr h) = inr h
to_place f (PlaceThing q) p (inl e) = let same : p ≡ q = cc in inl (ap PlaceThing same)
to_place f (BlockThing b) p (inl e) = absurd (cc)

to_block : (f : FlatForm) (t : Thing) (b : ℕ) → Reached f t (Block b) → IsOrDepends f t (BlockThing b)
unfolding Reached Means
to_block f t b (inr h) = inr h
to_block f (PlaceThing q) b (inl e) = absurd (cc)
to_block f (BlockThing c) b (inl e) = let same : b ≡ c = cc in inl (ap BlockThing same)

-- any other node isn't that of a place or a block
beyond : (f : FlatForm) (t : Thing) (m : Node) → ((q : ℕ) → m ≡ Place q → ⊥) → ((b : ℕ) → m ≡ Block b → ⊥) → Reached f t m → Means f t m
unfolding Reached
beyond f t m places blocks (inr h) = h
beyond f (PlaceThing q) m places blocks (inl e) = absurd (places q e)
beyond f (BlockThing b) m places blocks (inl e) = absurd (blocks b e)

value_means : (f : FlatForm) (t : Thing) (k : ℕ) → Reached f t (Value k) → ValueMeans f t k
unfolding Means
value_means f t k h = beyond f t (Value k) (λ q e. cc) (λ b e. cc) h

used_means : (f : FlatForm) (t : Thing) (k : ℕ) → Reached f t (Used k) → UsedMeans f t k
unfolding Means
used_means f t k h = beyond f t (Used k) (λ q e. cc) (λ b e. cc) h

-- what names a place's call depends on what decides whether it is evaluated
called_means : (f : FlatForm) (t : Thing) (p call : ℕ) → place_call f p ≡ Some call → UsedMeans f t call → Depends f (PlaceThing p) t
called_means f t p call is (InBranch whole condition side under v) = on f t (PlaceThing p) v.thing (depends.PlaceOnCondition p call whole condition side v.thing is under v.reads) v.then
called_means f t p call is (InReset of events arm event under has v) = on f t (PlaceThing p) v.thing (depends.PlaceOnEvent p call event arm of events v.thing is under has v.reads) v.then

start_means : (f : FlatForm) (t : Thing) (k p : ℕ) → HasForm f k (Last p) → StartMeans f t p → ValueMeans f t k
start_means f t k p form (ByBlock b i definer then) = record { thing = BlockThing b; reads = depends.LastBlock k p b i form definer; then = then }
start_means f t k p form (ByValue b i definer v) = record { thing = v.thing; reads = depends.LastOf k p b i v.thing form definer v.reads; then = v.then }

part_used : (f : FlatForm) (t : Thing) (k j : ℕ) (form : Form) → HasForm f k form → Has (parts form) j → UsedMeans f t k → UsedMeans f t j
part_used f t k j form has part means = by_case means
  where
    is_part : IsPart f j k
    is_part = record { occ = has.0; is = has.1; part = subst (λ g. Has (parts g) j) (sym has.2) part }

    by_case : UsedMeans f t k → UsedMeans f t j
    by_case (InBranch whole condition side under v) = InBranch whole condition side (UnderPart j k is_part under) v
    by_case (InReset call events arm event under has v) = InReset call events arm event (UnderPart j k is_part under) has v

call_used : (f : FlatForm) (t : Thing) (k call : ℕ) → call_of f k ≡ Some call → UsedMeans f t call → UsedMeans f t k
call_used f t k call is (InBranch whole condition side under v) = InBranch whole condition side (UnderCalled k call is under) v
call_used f t k call is (InReset of events arm event under has v) = InReset of events arm event (UnderCalled k call is under) has v

-- one of all definers is that of a place
of_place : (f : FlatForm) (d : ℕ) (definer : Definer) → slice_get (all_definers f.places) d ≡ Some definer → (p : ℕ) × HasDefiner f p definer
of_place f d definer is =
    let h = has-flat_map_from (λ (place : PlaceInfo). place.definers) f.places definer (record { index = d; is = is }) in
    (h.1.index, (h.0, h.1.is, h.2))

arm_used : (f : FlatForm) (t : Thing) (d : ℕ) (resets : List DerArm) (arm : DerArm) → IsDer f d resets → Has resets arm → EventsMeans f t d → UsedMeans f t arm.value
arm_used f t d resets arm is has m =
    let p = of_place f d (Der is.0 is.1 resets) is.2 in
    let both : Some (Der is.0 is.1 resets) ≡ Some (Der m.is.0 m.is.1 m.resets) = sym is.2 ∙ m.is.2 in
    let same : m.resets ≡ resets = cc in
    InReset (place_call f p.0) (events_of resets) has.index m.arm.event
    (UnderIs arm.value (AsReset p.0 is.0 is.1 has.index resets arm (place_call f p.0) p.1 has.is refl refl))
    (has-map (λ (a : DerArm). a.event) resets m.arm (subst (λ rs. Has rs m.arm) same m.among)) m.means

edge_means : (f : FlatForm) (t : Thing) (a m : Node) → Edge f a m → Reached f t m → Means f t a
unfolding Means
edge_means f t a m (edges.Declared p place is) h = on f t (PlaceThing p) (BlockThing place.block) (depends.PlaceOnBlock p place is) (to_block f t place.block h)
edge_means f t a m (edges.InBlock p b definer has is) h = on f t (PlaceThing p) (BlockThing b) (depends.PlaceOnDefiner p b definer has is) (to_block f t b h)
edge_means f t a m (edges.Named p k definer has read) h =
    let v = value_means f t k h in on f t (PlaceThing p) v.thing (depends.PlaceOnValue p k definer v.thing has read v.reads) v.then
edge_means f t a m (edges.Called p call is) h = called_means f t p call is (used_means f t call h)
edge_means f t a m (edges.StartBlock p b k definer) h = ByBlock b k definer (to_block f t b h)
edge_means f t a m (edges.StartValue p b k definer) h = ByValue b k definer (value_means f t k h)
edge_means f t a m (edges.StartLeads p b k definer) h = beyond f t (Lasts k) (λ q e. cc) (λ c e. cc) h
edge_means f t a m (edges.ArmUsed d resets arm is has) h = arm_used f t d resets arm is has (beyond f t (Events d) (λ q e. cc) (λ b e. cc) h)
edge_means f t a m (edges.ArmEvent d resets arm is has) h = record { resets = resets; arm = arm; is = is; among = has; means = value_means f t arm.event h }
edge_means f t a m (edges.Parent b parent is) h = on f t (BlockThing b) (BlockThing parent) (depends.BlockOnParent b parent is) (to_block f t parent h)
edge_means f t a m (edges.OfArm b of arm is) h =
    let v = beyond f t (Tests of) (λ q e. cc) (λ c e. cc) h in on f t (BlockThing b) v.means.thing (depends.ArmOnTest b of arm v.test v.means.thing is v.is v.means.reads) v.means.then
edge_means f t a m (edges.OfBody b of state is) h =
    let v = beyond f t (Strong of) (λ q e. cc) (λ c e. cc) h in on f t (BlockThing b) v.means.thing (depends.BodyOnTest b of state v.test v.means.thing is v.is v.means.reads) v.means.then
edge_means f t a m (edges.OfReset b k is) h =
    let v = value_means f t k h in on f t (BlockThing b) v.thing (depends.ResetOnTest b k v.thing is v.reads) v.then
edge_means f t a m (edges.ChoiceTest of k test) h = record { test = k; is = test; means = value_means f t k h }
edge_means f t a m (edges.StrongTest of k test) h = record { test = k; is = test; means = value_means f t k h }
edge_means f t a m (edges.Name k p form) h = record { thing = PlaceThing p; reads = depends.Name k p form; then = to_place f t p h }
edge_means f t a m (edges.LastOf k p form) h = start_means f t k p form (beyond f t (Start p) (λ q e. cc) (λ b e. cc) h)
edge_means f t a m (edges.LastLeads k p form) h = beyond f t (Leads p) (λ q e. cc) (λ b e. cc) h
edge_means f t a m (edges.PartValue k j form has part) h =
    let v = value_means f t j h in record { thing = v.thing; reads = depends.Part k j form v.thing has part v.reads; then = v.then }
edge_means f t a m (edges.PartLasts k j form has part) h = beyond f t (Lasts j) (λ q e. cc) (λ b e. cc) h
edge_means f t a m (edges.PartUsed k j form has part) h = part_used f t k j form has part (used_means f t k h)
edge_means f t a m (edges.YesUsed k c x y form) h = InBranch k c true (UnderIs x (AsBranch k c x y true form refl)) (value_means f t c h)
edge_means f t a m (edges.NoUsed k c x y form) h = InBranch k c false (UnderIs y (AsBranch k c x y false form refl)) (value_means f t c h)
edge_means f t a m (edges.CallUsed k call is) h = call_used f t k call is (used_means f t call h)

way_means : (f : FlatForm) (t : Thing) (a b : Node) → Way f a b → b ≡ node_of t → Means f t a
unfolding Reached
way_means f t a b (One c d edge) e = edge_means f t a b edge (inl e)
way_means f t a b (More c d g edge way) e = edge_means f t a d edge (inr (way_means f t d b way e))

-- a way from a place or a block to another is a dependency
pub way_depends : (f : FlatForm) (a b : Thing) → Way f (node_of a) (node_of b) → Depends f a b
unfolding Means
way_depends f (PlaceThing p) b way = way_means f b (Place p) (node_of b) way refl
way_depends f (BlockThing c) b way = way_means f b (Block c) (node_of b) way refl

-- no way leads from where `init` values lead to a place or a block
pub no_way_on : (f : FlatForm) (p : ℕ) (t : Thing) → Way f (Leads p) (node_of t) → ⊥
unfolding Means
no_way_on f p t way = way_means f t (Leads p) (node_of t) way refl
