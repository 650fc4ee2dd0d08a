-- Each operator of a chain, each arm and each state makes something.
use Rattle.std.proofs.Common.{◌≡◌, ℕ, ◌+◌, ◌<◌, ◌≤◌, List, [], ◌∷◌, map, length, ap, arith}
use Rattle.zl_ast.specs.declared.expr.Link.{Link}
use Rattle.zl_ast.specs.declared.eqn.Arm.{Arm}
use Rattle.zl_ast.specs.declared.eqn.State.{State}
use Rattle.zl_meaning.specs.declared.occurrence.Occ.{Occ}
use Rattle.zl_meaning.specs.declared.block.Block.{Block}
use Rattle.zl_flat.specs.declared.here.Here.{Here}
use Rattle.zl_flat.specs.declared.here.Root.{Root}
use Rattle.zl_flat.specs.Parts.{Parts, Counters, joined, one_occ, one_block, after}
use Rattle.zl_flat.specs.Counted.{count}
use Rattle.zl_flat.specs.Instances.{Instance}
use Rattle.zl_flat.specs.Expressions.{links, link_walk}
use Rattle.zl_flat.specs.Equations.{arms_made, arm_walk, states_made, one_state_walk}
use Rattle.zl_flat.proofs.ExprSteps.{walk-link}
use Rattle.zl_flat.proofs.EqnSteps.{make-arm, make-state_walk}
use Rattle.zl_expand.proofs.RoomLaws.{count-joined, count-occ, count-block}

-- something in front
some-occ : (x : Occ) (q : Parts) → 0 < count (joined (one_occ x) q)
some-occ x q = let e = count-joined (one_occ x) q in let f = count-occ x in omega (arith, e, f)

some-block : (x : Block) (q : Parts) → 0 < count (joined (one_block x) q)
some-block x q = let e = count-joined (one_block x) q in let f = count-block x in omega (arith, e, f)

some-behind : (p q : Parts) → 0 < count q → 0 < count (joined p q)
some-behind p q h = let e = count-joined p q in omega (arith, e, h)

same-count : (p q : Parts) → p ≡ q → 0 < count q → 0 < count p
same-count p q e h = let f : count p ≡ count q = ap count e in omega (arith, f, h)

module _ (base : ℕ) (names : List (List ℕ)) (i : Instance) where
  link-some : (l : Link) (here : Here) (left : Root) (s : Counters) → 0 < count (link_walk base names i l here left s).parts
  link-some l here left s = same-count _ _ (ap (λ w. w.parts) (walk-link base names i here s l left)) (some-occ _ _)

  -- operators make something
  pub links-some : (ls : List Link) (here : Here) (left : Root) (s : Counters) → 0 < length ls → 0 < count (links (map (link_walk base names i) ls) here left s).parts
  links-some [] here left s h = absurd (omega (arith, h))
  links-some (l ∷ ls) here left s h =
      let one = link_walk base names i l here left s in
      let rest = links (map (link_walk base names i) ls) here one.root (after s one.parts) in
      let e = count-joined one.parts rest.parts in
      let f = link-some l here left s in
      omega (arith, e, f)

  arm-some : (a : Arm) (of number : ℕ) (here : Here) (s : Counters) → 0 < count (arm_walk base names i a of number here s).parts
  arm-some a of number here s = same-count _ _ (ap (λ w. w.parts) (make-arm base names i here s a of number)) (some-behind _ _ (some-block _ _))

  -- arms are no more than what they make
  pub arms-counted : (xs : List Arm) (of number : ℕ) (here : Here) (s : Counters) → length xs ≤ count (arms_made (map (arm_walk base names i) xs) of number here s).parts
  arms-counted [] of number here s = omega arith
  arms-counted (a ∷ xs) of number here s =
      let one = arm_walk base names i a of number here s in
      let rest = arms_made (map (arm_walk base names i) xs) of (number + 1) here (after s one.parts) in
      let e = count-joined one.parts rest.parts in
      let f = arm-some a of number here s in
      let g = arms-counted xs of (number + 1) here (after s one.parts) in
      omega (arith, e, f, g)

  state-some : (t : State) (of number : ℕ) (ids : List ℕ) (here : Here) (s : Counters) → 0 < count ((one_state_walk base names i t).walk of number ids here s).parts
  state-some t of number ids here s = same-count _ _ (ap (λ w. w.parts) (make-state_walk base names i here s t of number ids)) (some-block _ _)

  -- states are no more than what they make
  pub states-counted : (ts : List State) (of number : ℕ) (ids : List ℕ) (here : Here) (s : Counters) → length ts ≤ count (states_made (map (one_state_walk base names i) ts) of number ids here s).parts
  states-counted [] of number ids here s = omega arith
  states-counted (t ∷ ts) of number ids here s =
      let one = (one_state_walk base names i t).walk of number ids here s in
      let rest = states_made (map (one_state_walk base names i) ts) of (number + 1) ids here (after s one.parts) in
      let e = count-joined one.parts rest.parts in
      let f = state-some t of number ids here s in
      let g = states-counted ts of (number + 1) ids here (after s one.parts) in
      omega (arith, e, f, g)
