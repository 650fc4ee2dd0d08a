-- The ways between places and blocks in the graph of a form are their dependencies.
use Rattle.std.proofs.Common.{◌≡◌, ◌⊎◌, inl, inr, ℕ, Bool, true, false, List, Option, refl, sym, subst}
use Rattle.std.specs.Prelude.{if◌then◌else◌}
use Rattle.zl_value.specs.Lists.{Has}
use Rattle.zl_meaning.specs.FlatForm.{FlatForm, HasForm, HasDefiner}
use Rattle.zl_meaning.specs.Uses.{Use, BranchOf, ResetOf, IsUse, AsBranch, AsReset, events_of}
use Rattle.zl_meaning.specs.Branches.{Under, Is as UnderIs, Part as UnderPart, Called as UnderCalled}
use Rattle.zl_meaning.specs.Depends as depends
use Rattle.zl_meaning.specs.Depends.{Thing, PlaceThing, BlockThing, OccReads, ReadsLast, LeadsTo, DependsAtOnce, Depends, IsBlockOf, IsChoiceTest, IsStrongTest, read_by, read_parts}
use Rattle.zl_meaning.specs.declared.place.Definer.TheVariants.{Der}
use Rattle.zl_meaning.specs.declared.place.DerArm.{DerArm}
use Rattle.zl_meaning.specs.declared.place.PlaceInfo.{PlaceInfo}
use Rattle.zl_meaning.specs.declared.occurrence.Form.TheVariants.{If}
use Rattle.zl_causal.specs.declared.node.Node.{Node}
use Rattle.zl_causal.specs.declared.node.Node.TheVariants.{Place, Block, Value, Used, Start, Lasts, Leads, Tests, Strong, Events}
use Rattle.zl_meaning.proofs.Members.{has-flat_map, has-map_from}
use Rattle.zl_causal.specs.Nodes.{node_of}
use Rattle.zl_causal.specs.Edges as edges
use Rattle.zl_causal.specs.Edges.{Edge, Way, One, More, IsDer, all_definers}

pub way-trans : (f : FlatForm) (a b c : Node) → Way f a b → Way f b c → Way f a c
way-trans f a b c (One d e edge) rest = More a e c edge rest
way-trans f a b c (More d e g edge way) rest = More a e c edge (way-trans f e g c way rest)

-- ---- what an occurrence reads is on a way from its value

reads_way : (f : FlatForm) (k : ℕ) (thing : Thing) → OccReads f k thing → Way f (Value k) (node_of thing)
reads_way f k thing (depends.Name j p form) = One (Value k) (Place p) (edges.Name k p form)
reads_way f k thing (depends.LastOf j p b i t form definer reads) = More (Value k) (Start p) (node_of thing) (edges.LastOf k p form) (More (Start p) (Value i) (node_of thing) (edges.StartValue p b i definer) (reads_way f i thing reads))
reads_way f k thing (depends.LastBlock j p b i form definer) = More (Value k) (Start p) (Block b) (edges.LastOf k p form) (One (Start p) (Block b) (edges.StartBlock p b i definer))
reads_way f k thing (depends.Part j i form t has part reads) = More (Value k) (Value i) (node_of thing) (edges.PartValue k i form has part) (reads_way f i thing reads)

-- ---- a dependency at once is a way, but where `init` values lead back

-- under a branch, and under a reset value
under_way : (f : FlatForm) (whole condition : ℕ) (side : Bool) (k : ℕ) → Under f (BranchOf whole condition side) k → Way f (Used k) (Value condition)
under_way f whole condition side k (UnderIs j named) = from_use j named
  where
    by_side : (j c x y : ℕ) (s : Bool) → HasForm f whole (If c x y) → j ≡ (if s then x else y) → Way f (Used j) (Value c)
    by_side j c x y true form e = subst (λ i. Way f (Used i) (Value c)) (sym e) (One (Used x) (Value c) (edges.YesUsed whole c x y form))
    by_side j c x y false form e = subst (λ i. Way f (Used i) (Value c)) (sym e) (One (Used y) (Value c) (edges.NoUsed whole c x y form))

    from_use : (j : ℕ) → IsUse f j (BranchOf whole condition side) → Way f (Used j) (Value condition)
    from_use j (AsBranch w c x y s form e) = by_side j condition x y side form e
under_way f whole condition side k (UnderPart j w part rest) =
    More (Used k) (Used w) (Value condition) (edges.PartUsed w k part.occ.form (part.occ, part.is, refl) part.part) (under_way f whole condition side w rest)
under_way f whole condition side k (UnderCalled j call is rest) = More (Used k) (Used call) (Value condition) (edges.CallUsed k call is) (under_way f whole condition side call rest)

-- a `der` is one of all definers
der_number : (f : FlatForm) (p b slope : ℕ) (resets : List DerArm) → HasDefiner f p (Der b slope resets) → (d : ℕ) × IsDer f d resets
der_number f p b slope resets definer =
    let h = has-flat_map (λ (place : PlaceInfo). place.definers) f.places definer.0 (Der b slope resets) (record { index = p; is = definer.1 }) definer.2 in
    (h.index, (b, slope, h.is))

event_way : (f : FlatForm) (call : Option ℕ) (events : List ℕ) (arm k event : ℕ) → Under f (ResetOf call events arm) k → Has events event → Way f (Used k) (Value event)
event_way f call events arm k event (UnderIs j named) has = from_use j (ResetOf call events arm) named refl
  where
    from_use : (j : ℕ) (kind : Use) → IsUse f j kind → kind ≡ ResetOf call events arm → Way f (Used j) (Value event)
    from_use j kind (AsReset p b slope n resets one c definer at is of) same =
        let d = der_number f p b slope resets definer in
        let these : events ≡ events_of resets = cc in
        let e = has-map_from (λ (a : DerArm). a.event) resets event (subst (λ es. Has es event) these has) in
        subst (λ i. Way f (Used i) (Value event)) is
        (More (Used one.value) (Events d.0) (Value event) (edges.ArmUsed d.0 resets one d.1 (record { index = n; is = at }))
        (subst (λ i. Way f (Events d.0) (Value i)) e.2 (One (Events d.0) (Value e.0.event) (edges.ArmEvent d.0 resets e.0 d.1 e.1))))
    from_use j kind other same = absurd (cc)
event_way f call events arm k event (UnderPart j w part rest) has =
    More (Used k) (Used w) (Value event) (edges.PartUsed w k part.occ.form (part.occ, part.is, refl) part.part) (event_way f call events arm w event rest has)
event_way f call events arm k event (UnderCalled j c is rest) has = More (Used k) (Used c) (Value event) (edges.CallUsed k c is) (event_way f call events arm c event rest has)

-- `init` values of a place lead back to it
abbrev pub LeadsBack : FlatForm → Thing → Thing → Type 0
LeadsBack f a b = (p : ℕ) × (a ≡ PlaceThing p) × (b ≡ PlaceThing p) × LeadsTo f p p

pub dependency_way : (f : FlatForm) (a b : Thing) → DependsAtOnce f a b → Way f (node_of a) (node_of b) ⊎ LeadsBack f a b
dependency_way f a b (depends.PlaceOnBlock p place is) = inl (One (Place p) (Block place.block) (edges.Declared p place is))
dependency_way f a b (depends.PlaceOnDefiner p block definer has is) = inl (One (Place p) (Block block) (edges.InBlock p block definer has is))
dependency_way f a b (depends.PlaceOnValue p k definer thing has read reads) = inl (More (Place p) (Value k) (node_of thing) (edges.Named p k definer has read) (reads_way f k thing reads))
dependency_way f a b (depends.PlaceOnCondition p call whole condition side thing is under reads) =
    inl (More (Place p) (Used call) (node_of thing) (edges.Called p call is) (way-trans f (Used call) (Value condition) (node_of thing) (under_way f whole condition side call under) (reads_way f condition thing reads)))
dependency_way f a b (depends.PlaceOnEvent p call event arm of events thing is under has reads) =
    inl (More (Place p) (Used call) (node_of thing) (edges.Called p call is) (way-trans f (Used call) (Value event) (node_of thing) (event_way f of events arm call event under has) (reads_way f event thing reads)))
dependency_way f a b (depends.PlaceOnItself p leads) = inr (p, refl, refl, leads)
dependency_way f a b (depends.BlockOnParent block parent is) = inl (One (Block block) (Block parent) (edges.Parent block parent is))
dependency_way f a b (depends.ArmOnTest block of arm k thing is test reads) =
    inl (More (Block block) (Tests of) (node_of thing) (edges.OfArm block of arm is) (More (Tests of) (Value k) (node_of thing) (edges.ChoiceTest of k test) (reads_way f k thing reads)))
dependency_way f a b (depends.BodyOnTest block of state k thing is test reads) =
    inl (More (Block block) (Strong of) (node_of thing) (edges.OfBody block of state is) (More (Strong of) (Value k) (node_of thing) (edges.StrongTest of k test) (reads_way f k thing reads)))
dependency_way f a b (depends.ResetOnTest block k thing is reads) = inl (More (Block block) (Value k) (node_of thing) (edges.OfReset block k is) (reads_way f k thing reads))

-- ---- ways of `last`

lasts_way : (f : FlatForm) (k p : ℕ) → ReadsLast f k p → Way f (Lasts k) (Leads p)
lasts_way f k p (depends.Is j q form) = One (Lasts k) (Leads p) (edges.LastLeads k p form)
lasts_way f k p (depends.InPart j i q form has part rest) = More (Lasts k) (Lasts i) (Leads p) (edges.PartLasts k i form has part) (lasts_way f i p rest)

pub leads_way : (f : FlatForm) (p q : ℕ) → LeadsTo f p q → Way f (Leads p) (Leads q)
leads_way f p q (depends.AtOnce r s b k definer reads) = More (Leads p) (Lasts k) (Leads q) (edges.StartLeads p b k definer) (lasts_way f k q reads)
leads_way f p q (depends.Further r s t b k definer reads rest) =
    More (Leads p) (Lasts k) (Leads q) (edges.StartLeads p b k definer) (way-trans f (Lasts k) (Leads s) (Leads q) (lasts_way f k s reads) (leads_way f s q rest))

-- what a way to `Leads q` means
LeadMeans : FlatForm → ℕ → Node → Type 0
LeadMeans f q (Lasts k) = (r : ℕ) × ReadsLast f k r × ((r ≡ q) ⊎ LeadsTo f r q)
LeadMeans f q (Leads p) = LeadsTo f p q
LeadMeans f q node = Unit {0}

lead_step : (f : FlatForm) (q : ℕ) (a m : Node) → Edge f a m → (m ≡ Leads q) ⊎ LeadMeans f q m → LeadMeans f q a
unfolding LeadMeans
lead_step f q a m (edges.StartLeads p b k definer) (inl e) = absurd (cc)
lead_step f q a m (edges.StartLeads p b k definer) (inr h) = further h.0 h.1 h.2
  where
    further : (r : ℕ) → ReadsLast f k r → (r ≡ q) ⊎ LeadsTo f r q → LeadsTo f p q
    further r reads (inl e) = depends.AtOnce p q b k definer (subst (ReadsLast f k) e reads)
    further r reads (inr rest) = depends.Further p r q b k definer reads rest
lead_step f q a m (edges.LastLeads k p form) (inl e) = (p, depends.Is k p form, inl (let same : p ≡ q = cc in same))
lead_step f q a m (edges.LastLeads k p form) (inr h) = (p, depends.Is k p form, inr h)
lead_step f q a m (edges.PartLasts k j form has part) (inl e) = absurd (cc)
lead_step f q a m (edges.PartLasts k j form has part) (inr h) = (h.0, depends.InPart k j h.0 form has part h.1, h.2)
lead_step f q a m (edges.Declared p place is) h = tt
lead_step f q a m (edges.InBlock p b definer has is) h = tt
lead_step f q a m (edges.Named p k definer has read) h = tt
lead_step f q a m (edges.Called p call is) h = tt
lead_step f q a m (edges.StartBlock p b k definer) h = tt
lead_step f q a m (edges.StartValue p b k definer) h = tt
lead_step f q a m (edges.ArmUsed d resets arm is has) h = tt
lead_step f q a m (edges.ArmEvent d resets arm is has) h = tt
lead_step f q a m (edges.Parent b parent is) h = tt
lead_step f q a m (edges.OfArm b of arm is) h = tt
lead_step f q a m (edges.OfBody b of state is) h = tt
lead_step f q a m (edges.OfReset b k is) h = tt
lead_step f q a m (edges.ChoiceTest of k test) h = tt
lead_step f q a m (edges.StrongTest of k test) h = tt
lead_step f q a m (edges.Name k p form) h = tt
lead_step f q a m (edges.LastOf k p form) h = tt
lead_step f q a m (edges.PartValue k j form has part) h = tt
lead_step f q a m (edges.PartUsed k j form has part) h = tt
lead_step f q a m (edges.YesUsed k c x y form) h = tt
lead_step f q a m (edges.NoUsed k c x y form) h = tt
lead_step f q a m (edges.CallUsed k call is) h = tt

lead_means : (f : FlatForm) (q : ℕ) (a b : Node) → Way f a b → b ≡ Leads q → LeadMeans f q a
lead_means f q a b (One c d edge) e = lead_step f q a b edge (inl e)
lead_means f q a b (More c d g edge way) e = lead_step f q a d edge (inr (lead_means f q d b way e))

pub way_leads : (f : FlatForm) (p q : ℕ) → Way f (Leads p) (Leads q) → LeadsTo f p q
unfolding LeadMeans
way_leads f p q way = lead_means f q (Leads p) (Leads q) way refl
