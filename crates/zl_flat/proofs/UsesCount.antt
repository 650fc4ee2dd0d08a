-- How much what a walk makes uses occurrences, and how much these weigh that are its own.
use Rattle.std.proofs.Common.{◌≡◌, ℕ, suc, ◌+◌, List, [], ◌∷◌, ◌++◌, length, subst, arith}
use Rattle.zl_meaning.specs.Uses.{parts}
use Rattle.zl_meaning.specs.declared.block.Block.{Block}
use Rattle.zl_meaning.specs.declared.block.BlockKind.{BlockKind}
use Rattle.zl_meaning.specs.declared.block.BlockKind.TheVariants.{Main, Arm, Guard, State, Reset}
use Rattle.zl_meaning.specs.declared.block.Choice.{Choice}
use Rattle.zl_meaning.specs.declared.block.Auto.{Auto}
use Rattle.zl_meaning.specs.declared.block.AutoMove.{AutoMove}
use Rattle.zl_meaning.specs.declared.place.Definer.{Definer}
use Rattle.zl_meaning.specs.declared.place.Definer.TheVariants.{Input, Plain, Der, Start}
use Rattle.zl_meaning.specs.declared.place.DerArm.{DerArm}
use Rattle.zl_meaning.specs.declared.occurrence.Form.{Form}
use Rattle.zl_meaning.specs.declared.occurrence.Occ.{Occ}
use Rattle.zl_meaning.specs.declared.occurrence.SiteInfo.{SiteInfo}
use Rattle.zl_flat.specs.declared.here.Root.{Root}
use Rattle.zl_flat.specs.declared.given.Given.{Given}
use Rattle.zl_flat.specs.Parts.{Parts, Counters, joined, after}
use Rattle.zl_flat.specs.Instances.{root_occs}

-- ---- lists

-- the sum over a list
abbrev pub total : {X : Type 0} → (X → ℕ) → List X → ℕ
total f [] = 0
total f (x ∷ xs) = f x + total f xs

-- the sum over two lists
pub total-append : {X : Type 0} (f : X → ℕ) (xs ys : List X) → total f (xs ++ ys) ≡ total f xs + total f ys
total-append f [] ys = omega arith
total-append f (x ∷ xs) ys = let e = total-append f xs ys in omega (arith, e)

-- the weights of the numbers from this one on, one for each entry of the list
abbrev pub numbered : {X : Type 0} → (ℕ → ℕ) → ℕ → List X → ℕ
numbered v n [] = 0
numbered v n (x ∷ xs) = v n + numbered v (n + 1) xs

-- the numbers of two lists
pub numbered-append : {X : Type 0} (v : ℕ → ℕ) (n : ℕ) (xs ys : List X) → numbered v n (xs ++ ys) ≡ numbered v n xs + numbered v (n + length xs) ys
numbered-append v n [] ys = subst (λ m. numbered v n ys ≡ 0 + numbered v m ys) (no_more n) (omega arith)
  where
    no_more : (n : ℕ) → n ≡ n + 0
    no_more n = omega arith
numbered-append v n (x ∷ xs) ys =
    let e = numbered-append v (n + 1) xs ys in
    subst (λ m. v n + numbered v (n + 1) (xs ++ ys) ≡ v n + numbered v (n + 1) xs + numbered v m ys) (one_more n (length xs)) (omega (arith, e))
  where
    one_more : (n m : ℕ) → n + 1 + m ≡ n + suc m
    one_more n m = omega arith

-- ---- what uses occurrences

-- what a use weighs, by the number of the occurrence that is used
module _ (v : ℕ → ℕ) where
  -- the weight of these roots
  abbrev pub in_roots : List Root → ℕ
  in_roots rs = total v (root_occs rs)

  -- what the parts of an occurrence weigh
  abbrev pub in_form : Form → ℕ
  in_form form = total v (parts form)

  -- what a reset arm names
  abbrev pub in_arm : DerArm → ℕ
  in_arm arm = v arm.event + v arm.value

  -- the test of a `reset` body
  abbrev pub in_kind : BlockKind → ℕ
  in_kind Main = 0
  in_kind (Arm of arm) = 0
  in_kind (Guard of state) = 0
  in_kind (State of state) = 0
  in_kind (Reset cond) = v cond

  -- the tests of moves
  abbrev pub in_moves : List AutoMove → ℕ
  in_moves moves = total (λ (m : AutoMove). v m.cond) moves

  -- what plain definers name weighs something else
  module _ (w : ℕ → ℕ) where
    -- what a definer names
    abbrev pub in_definer : Definer → ℕ
    in_definer (Input n) = 0
    in_definer (Plain b j) = w j
    in_definer (Der b slope resets) = v slope + total in_arm resets
    in_definer (Start b j) = v j

    -- what a definer that was given names
    abbrev pub in_given : Given → ℕ
    in_given g = in_definer g.definer

    -- what the uses in these parts weigh
    unfoldable pub count : Parts → ℕ
    count p =
        total (λ (x : Block). in_kind x.kind) p.blocks + total in_given p.definers + total (λ (x : Occ). in_form x.form) p.occs
        + total (λ (x : Occ). in_form x.form) p.hidden + total (λ (x : SiteInfo). v x.arg) p.sites + total (λ (x : Choice). total v x.conds) p.choices
        + total (λ (x : Auto). total in_moves x.states) p.automata

    -- the uses of parts one behind the other
    pub count-joined : (p q : Parts) → count (joined p q) ≡ count p + count q
    unfolding joined count
    count-joined p q = omega (
      arith,
      total-append (λ (x : Block). in_kind x.kind) p.blocks q.blocks,
      total-append in_given p.definers q.definers,
      total-append (λ (x : Occ). in_form x.form) p.occs q.occs,
      total-append (λ (x : Occ). in_form x.form) p.hidden q.hidden,
      total-append (λ (x : SiteInfo). v x.arg) p.sites q.sites,
      total-append (λ (x : Choice). total v x.conds) p.choices q.choices,
      total-append (λ (x : Auto). total in_moves x.states) p.automata q.automata,
    )

-- what the numbers of the parts' own occurrences weigh; hidden ones are numbered from `base` on
unfoldable pub owned : (ℕ → ℕ) → ℕ → Counters → Parts → ℕ
owned v base s p = numbered v s.occs p.occs + numbered v (base + s.hidden) p.hidden

-- what is the own of parts one behind the other
pub owned-joined : (v : ℕ → ℕ) (base : ℕ) (s : Counters) (p q : Parts) → owned v base s (joined p q) ≡ owned v base s p + owned v base (after s p) q
unfolding joined owned after
owned-joined v base s p q =
    let e = numbered-append v s.occs p.occs q.occs in
    let g = numbered-append v (base + s.hidden) p.hidden q.hidden in
    subst (λ m. numbered v s.occs (p.occs ++ q.occs) + numbered v (base + s.hidden) (p.hidden ++ q.hidden) ≡ numbered v s.occs p.occs + numbered v (base + s.hidden) p.hidden + (numbered v (s.occs + length p.occs) q.occs + numbered v m q.hidden))
    (regroup base s.hidden (length p.hidden)) (omega (arith, e, g))
  where
    regroup : (a b c : ℕ) → a + b + c ≡ a + (b + c)
    regroup a b c = omega arith
