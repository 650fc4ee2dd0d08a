-- Things drawn from spots: each stands at the place of a spot, in the order of the spots, and several may stand at one.
use Rattle.std.proofs.Common.{◌≡◌, List, [], ◌∷◌, ◌++◌, map, refl, sym, subst, inl, inr}
use Rattle.std.specs.List.{AllByRecursion}
use Rattle.zl_value.specs.declared.position.Pos.{Pos}
use Rattle.zl_ast.specs.Spots.{Spot}
use Rattle.zl_ast.specs.Parsed.{Before, Grow, places}
use Rattle.zl_ast.specs.InOrder.{NotBehind, Rise}

pub data Drawn {C : Type 0} (at : C → Pos) : List C → List Spot → Type 0 where
  none : {ss : List Spot} → Drawn at [] ss
  again : {c : C} {cs : List C} {s : Spot} {ss : List Spot} → at c ≡ s.at → Drawn at cs (s ∷ ss) → Drawn at (c ∷ cs) (s ∷ ss)
  pass : {cs : List C} {s : Spot} {ss : List Spot} → Drawn at cs ss → Drawn at cs (s ∷ ss)

not_behind : (p : Pos) (ps : List Pos) → AllByRecursion (Before p) ps → AllByRecursion (NotBehind p) ps
not_behind p [] h = tt
not_behind p (q ∷ qs) h = (inl h.0, not_behind p qs h.1)

module _ {C : Type 0} {at : C → Pos} where
  -- what is drawn from spots is drawn from more of them
  pub behind_spots : (rs : List Spot) {cs : List C} {ss : List Spot} → Drawn at cs ss → Drawn at cs (rs ++ ss)
  behind_spots [] d = d
  behind_spots (r ∷ rs) d = pass (behind_spots rs d)

  pub before_spots : (ts : List Spot) {cs : List C} {ss : List Spot} → Drawn at cs ss → Drawn at cs (ss ++ ts)
  before_spots ts none = none
  before_spots ts (again same d) = again same (before_spots ts d)
  before_spots ts (pass d) = pass (before_spots ts d)

  infixr 20 ◌◂◌
  -- one after the other
  pub ◌◂◌ : {cs ds : List C} {ss ts : List Spot} → Drawn at cs ss → Drawn at ds ts → Drawn at (cs ++ ds) (ss ++ ts)
  (none {ss = ss}) ◂ e = behind_spots ss e
  (again same d) ◂ e = again same (d ◂ e)
  (pass d) ◂ e = pass (d ◂ e)

  -- before what is drawn, at its first spot
  pub before_it : {s : Spot} {ss : List Spot} (cs : List C) {ds : List C} → AllByRecursion (λ c. at c ≡ s.at) cs → Drawn at ds (s ∷ ss) → Drawn at (cs ++ ds) (s ∷ ss)
  before_it [] h d = d
  before_it (c ∷ cs) h d = again h.0 (before_it cs h.1 d)

  -- all at one spot, before any others
  pub all_at : {s : Spot} {ss : List Spot} (cs : List C) → AllByRecursion (λ c. at c ≡ s.at) cs → Drawn at cs (s ∷ ss)
  all_at [] h = none
  all_at (c ∷ cs) h = again h.0 (all_at cs h.1)

  drawn_all : (R : Pos → Type 0) (cs : List C) (ss : List Spot) → Drawn at cs ss → AllByRecursion R (places ss) → AllByRecursion R (map at cs)
  drawn_all R _ _ none h = tt
  drawn_all R _ _ (again {cs = cs} {s = s} {ss = ss} same d) h = (subst R (sym same) h.0, drawn_all R cs (s ∷ ss) d h)
  drawn_all R _ _ (pass {cs = cs} {ss = ss} d) h = drawn_all R cs ss d h.1

  -- What is drawn from spots whose places grow is in the order of its places.
  pub drawn_rises : (cs : List C) (ss : List Spot) → Drawn at cs ss → Grow (places ss) → Rise (map at cs)
  drawn_rises _ _ none h = tt
  drawn_rises _ _ (again {c = c} {cs = cs} {s = s} {ss = ss} same d) h =
      (subst (λ p. AllByRecursion (NotBehind p) (map at cs)) (sym same) (drawn_all (NotBehind s.at) cs (s ∷ ss) d (inr refl, not_behind s.at (places ss) h.0)), drawn_rises cs (s ∷ ss) d h)
  drawn_rises _ _ (pass {cs = cs} {ss = ss} d) h = drawn_rises cs ss d h.1
