-- What numbers the occurrences of parts have.
use Rattle.std.proofs.Common.{ℕ, ◌<◌, ◌≤◌, List, [], ◌∷◌, length, arith}
use Rattle.std.specs.List.{AllByRecursion}
use Rattle.std.proofs.lemmas.List.{length-append}
use Rattle.zl_meaning.specs.declared.occurrence.Occ.{Occ}
use Rattle.zl_flat.specs.declared.here.Root.{Root}
use Rattle.zl_flat.specs.Parts.{Parts, Counters, nothing, joined, one_occ, after, past_occ}
use Rattle.zl_flat.specs.Instances.{first_root}

-- the numbers go on behind what is made
pub number-end : (s : Counters) (p q : Parts) → (after (after s p) q).occs ≤ (after s (joined p q)).occs
unfolding after joined
number-end s p q = let e = length-append p.occs q.occs in omega (arith, e)

-- a number below the end of the first part is below that of both
pub below-first : (s : Counters) (p q : Parts) (k : ℕ) → k < (after s p).occs → k < (after s (joined p q)).occs
unfolding after joined
below-first s p q k lt = let e = length-append p.occs q.occs in omega (arith, e, lt)

-- so is one below the end of the second
pub below-second : (s : Counters) (p q : Parts) (k : ℕ) → k < (after (after s p) q).occs → k < (after s (joined p q)).occs
below-second s p q k lt = let le = number-end s p q in omega (arith, le, lt)

-- an occurrence is below the end
pub below-alone : (s : Counters) (x : Occ) → s.occs < (after s (one_occ x)).occs
unfolding after one_occ
below-alone s x = omega arith

pub below-others : (s : Counters) (x : Occ) (q : Parts) → s.occs < (after s (joined (one_occ x) q)).occs
unfolding after joined one_occ
below-others s x q = omega arith

-- what was below the end is where nothing is made
pub below-nothing : (s : Counters) (k : ℕ) → k < s.occs → k < (after s nothing).occs
unfolding after nothing
below-nothing s k lt = omega (arith, lt)

-- and don't go back
pub number-from : (s : Counters) (p : Parts) → s.occs ≤ (after s p).occs
unfolding after
number-from s p = omega arith

-- at most, through a third
pub at-most : (a b c : ℕ) → a ≤ b → b ≤ c → a ≤ c
at-most a b c h g = omega (arith, h, g)

-- a copy stands behind its call
pub call-before : (s : Counters) (p : Parts) → s.occs ≤ (after (past_occ s) p).occs
unfolding after past_occ
call-before s p = omega arith

-- the first of some roots is one of them
pub first-of : (P : Root → Type 0) (rs : List Root) → 0 < length rs → AllByRecursion P rs → P (first_root rs)
first-of P [] some h = absurd (omega (arith, some))
first-of P (r ∷ rs) some h = h.0
