-- Where a block depends on itself, some place depends on such a block.
use Rattle.std.proofs.Common.{◌≡◌, ◌⊎◌, inl, inr, ℕ, ◌<◌, ◌≤◌, length, slice_get, Option, Some, refl, ap, ◌∙◌, subst, arith}
use Rattle.std.proofs.lemmas.Option.{slice_get_within}
use Rattle.zl_meaning.specs.FlatForm.{FlatForm}
use Rattle.zl_meaning.specs.WellFormed.{IsWellFormed, IsBlock}
use Rattle.zl_meaning.specs.declared.block.Block.{Block as TheBlock}
use Rattle.zl_meaning.specs.declared.place.Definer.TheVariants.{Start as Init}
use Rattle.zl_causal.specs.declared.node.Node.{Node}
use Rattle.zl_causal.specs.declared.node.Node.TheVariants.{Place, Block}
use Rattle.zl_causal.specs.Edges as edges
use Rattle.zl_causal.specs.Edges.{Edge, Way, One, More}
use Rattle.zl_causal.proofs.EdgeLinks.{by_option}

-- a place of the form that leads to block number `t`
pub record SomePlace (f : FlatForm) (t : ℕ) : Type 0 where
  pub place : ℕ
  pub within : place < length f.places
  pub way : Way f (Place place) (Block t)

-- it is a block with a greater number
record IsHigher (t : ℕ) (a : Node) : Type 0 where
  block : ℕ
  is : a ≡ Block block
  above : t < block

on_way : (f : FlatForm) (t c : ℕ) (a m : Node) → Edge f a m → m ≡ Block c → (c ≡ t) ⊎ Way f (Block c) (Block t) → Way f a (Block t)
on_way f t c a m edge e (inl same) = One a (Block t) (subst (Edge f a) (e ∙ ap Block same) edge)
on_way f t c a m edge e (inr way) = More a (Block c) (Block t) (subst (Edge f a) e edge) way

edge_down : (f : FlatForm) → IsWellFormed f → (t : ℕ) (a m : Node) → Edge f a m → (c : ℕ) → m ≡ Block c → t ≤ c → (c ≡ t) ⊎ Way f (Block c) (Block t) → SomePlace f t ⊎ IsHigher t a
edge_down f w t a m (edges.Declared p place is) c e le rest =
    inl (record { place = p; within = slice_get_within f.places p place is; way = on_way f t c (Place p) (Block place.block) (edges.Declared p place is) e rest })
edge_down f w t a m (edges.InBlock p b definer has is) c e le rest =
    inl (record { place = p; within = slice_get_within f.places p has.0 has.1; way = on_way f t c (Place p) (Block b) (edges.InBlock p b definer has is) e rest })
edge_down f w t a m (edges.StartBlock p b k has) c e le rest =
    inl (record { place = p; within = slice_get_within f.places p has.0 has.1; way = on_way f t c (Place p) (Block b) (edges.InBlock p b (Init b k) has refl) e rest })
edge_down f w t a m (edges.Parent b parent is) c e le rest =
    let h = by_option (λ (block : TheBlock). block.parent) (slice_get f.blocks b) parent is in
    let stands : IsBlock f b (Some parent) h.0.kind = subst (λ (o : Option ℕ). IsBlock f b o h.0.kind) h.2 (w.blocks b h.0 h.1) in
    let same : parent ≡ c = cc in
    inr (record { block = b; is = refl; above = omega (arith, stands.0, same, le) })
edge_down f w t a m (edges.Named p k definer has read) c e le rest = absurd (cc)
edge_down f w t a m (edges.Called p call is) c e le rest = absurd (cc)
edge_down f w t a m (edges.StartValue p b k definer) c e le rest = absurd (cc)
edge_down f w t a m (edges.StartLeads p b k definer) c e le rest = absurd (cc)
edge_down f w t a m (edges.ArmUsed d resets arm is has) c e le rest = absurd (cc)
edge_down f w t a m (edges.ArmEvent d resets arm is has) c e le rest = absurd (cc)
edge_down f w t a m (edges.OfArm b of arm is) c e le rest = absurd (cc)
edge_down f w t a m (edges.OfBody b of state is) c e le rest = absurd (cc)
edge_down f w t a m (edges.OfReset b k is) c e le rest = absurd (cc)
edge_down f w t a m (edges.ChoiceTest of k test) c e le rest = absurd (cc)
edge_down f w t a m (edges.StrongTest of k test) c e le rest = absurd (cc)
edge_down f w t a m (edges.Name k p form) c e le rest = absurd (cc)
edge_down f w t a m (edges.LastOf k p form) c e le rest = absurd (cc)
edge_down f w t a m (edges.LastLeads k p form) c e le rest = absurd (cc)
edge_down f w t a m (edges.PartValue k j form has part) c e le rest = absurd (cc)
edge_down f w t a m (edges.PartLasts k j form has part) c e le rest = absurd (cc)
edge_down f w t a m (edges.PartUsed k j form has part) c e le rest = absurd (cc)
edge_down f w t a m (edges.YesUsed k d x y form) c e le rest = absurd (cc)
edge_down f w t a m (edges.NoUsed k d x y form) c e le rest = absurd (cc)
edge_down f w t a m (edges.CallUsed k call is) c e le rest = absurd (cc)

-- a way to a block comes by a place, or from a block with a greater number down
way_down : (f : FlatForm) → IsWellFormed f → (t : ℕ) (a b : Node) → Way f a b → b ≡ Block t → SomePlace f t ⊎ IsHigher t a
way_down f w t a b (One c d edge) e = edge_down f w t a b edge t e (omega arith) (inl refl)
way_down f w t a b (More c d g edge way) e = from (way_down f w t d b way e)
  where
    from : SomePlace f t ⊎ IsHigher t d → SomePlace f t ⊎ IsHigher t a
    from (inl found) = inl found
    from (inr h) = edge_down f w t a d edge h.block h.is (let l : t ≤ h.block = omega (arith, h.above) in l)
        (inr (subst (λ n. Way f n (Block t)) h.is (subst (λ n. Way f d n) e way)))

-- so a block that leads to itself is led to by a place
pub some_place : (f : FlatForm) → IsWellFormed f → (t : ℕ) → Way f (Block t) (Block t) → SomePlace f t
some_place f w t way = from (way_down f w t (Block t) (Block t) way refl)
  where
    from : SomePlace f t ⊎ IsHigher t (Block t) → SomePlace f t
    from (inl found) = found
    from (inr h) = let e = h.is in let same : t ≡ h.block = cc in absurd (omega (arith, h.above, same))
