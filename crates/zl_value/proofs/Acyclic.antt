-- A finite relation without cycles has ranks: a number's is how long a walk from it can be. And ranks exclude cycles.
use Rattle.std.specs.Prelude.{◌≡◌, ◌⊎◌, ℕ, zero, suc, ◌+◌, ◌<◌, ◌≤◌, Bool, true, false, ◌&&◌, ◌||◌, nat_eq, List, [], ◌∷◌, length, get_or}
use Rattle.std.specs.List.{All, AllByRecursion, IsDistinct, list_any}
use Rattle.std.proofs.Common.{refl, sym, ap, ◌∙◌, subst, inl, inr, ⊎_elim, arith, eqb, eqb-true}
use Rattle.std.proofs.lemmas.Bool.{and_parts, and_from, or_cases, or_parts, or_left, or_right, cases_Bool, ne_eqb, false≢true, cases_lt, false_from_ne_true}
use Rattle.std.proofs.lemmas.List.{get_or_past}
use Rattle.std.proofs.lemmas.List.Elements.{All-head, All-tail, All-get_or}
use Rattle.std.proofs.lemmas.Map.Steps.{length-le_from_distinct_below}
use Rattle.zl_value.specs.Relations.{needs_of, Leads, IsWithin, IsAcyclic, IsRanking, HasRanks, HasCycle}

-- ---- ranks exclude cycles

lower_by : (needs : ℕ → ℕ → Bool) (rank : ℕ → ℕ) → IsRanking needs rank → (m a b : ℕ) → Leads needs m a b → rank b < rank a
lower_by needs rank ranks zero a b l = ranks.lower a b l
lower_by needs rank ranks (suc m) a b l = omega (arith, ranks.lower a l.0 l.1, lower_by needs rank ranks m l.0 b l.2)

-- what has ranks has no cycles, since each step goes to a lower rank
pub IsAcyclic-from_ranks : (needs : ℕ → ℕ → Bool) (rank : ℕ → ℕ) → IsRanking needs rank → IsAcyclic needs
IsAcyclic-from_ranks needs rank ranks = record { apart = λ m a l. absurd (omega (arith, lower_by needs rank ranks m a a l)) }

-- ---- a test of some number below another, and how many there are

some_below : (ℕ → Bool) → ℕ → Bool
some_below f zero = false
some_below f (suc n) = f n || some_below f n

some_below_from : (f : ℕ → Bool) (n m : ℕ) → m < n → f m ≡ true → some_below f n ≡ true
unfolding some_below
some_below_from f zero m low e = absurd (omega arith)
some_below_from f (suc n) m low e =
    ⊎_elim (λ (same : m ≡ n). or_left (f n) (some_below f n) (ap f (sym same) ∙ e))
    (λ (less : m < n). or_right (f n) (some_below f n) (some_below_from f n m less e))
    (grind arith)

some_below_out : (f : ℕ → Bool) (n : ℕ) → some_below f n ≡ true → (m : ℕ) × (m < n) × (f m ≡ true)
unfolding some_below
some_below_out f zero e = absurd (false≢true e)
some_below_out f (suc n) e = last (some_below_out f n) (or_cases (f n) (some_below f n) e)
  where
    last : (some_below f n ≡ true → (m : ℕ) × (m < n) × (f m ≡ true)) → (f n ≡ true) ⊎ (some_below f n ≡ true) → (m : ℕ) × (m < suc n) × (f m ≡ true)
    last rest (inl here) = (n, omega arith, here)
    last rest (inr before) = let r = rest before in (r.0, omega arith, r.2)

bit : Bool → ℕ
bit true = 1
bit false = 0

count : (ℕ → Bool) → ℕ → ℕ
count f zero = 0
count f (suc n) = bit (f n) + count f n

bit_mono : (x y : Bool) → (x ≡ true → y ≡ true) → bit x ≤ bit y
unfolding bit
bit_mono true true h = omega arith
bit_mono true false h = absurd (false≢true (h refl))
bit_mono false y h = omega arith

count_mono : (f g : ℕ → Bool) (n : ℕ) → ((m : ℕ) → f m ≡ true → g m ≡ true) → count f n ≤ count g n
unfolding count
count_mono f g zero h = omega arith
count_mono f g (suc n) h = omega (arith, bit_mono (f n) (g n) (h n), count_mono f g n h)

count_shift : (f : ℕ → Bool) (n : ℕ) → bit (f 0) + count (λ m. f (suc m)) n ≡ count f (suc n)
unfolding count
count_shift f zero = refl
count_shift f (suc n) = omega (arith, count_shift f n)

count_most : (f : ℕ → Bool) (n : ℕ) → count f n ≤ n
unfolding count bit
count_most f zero = omega arith
count_most f (suc n) = omega (arith, bit_mono (f n) true (λ _. refl), count_most f n)

-- ---- walks

module _ (needs : ℕ → ℕ → Bool) (n : ℕ) where
  -- `m` steps can be made from `a`, each to a number below `n`
  long : ℕ → ℕ → Bool
  long zero a = true
  long (suc m) a = some_below (λ b. needs a b && long m b) n

  -- how many lengths up to `n` a walk from `a` can have
  pub rank_in : ℕ → ℕ
  rank_in a = count (λ m. long (suc m) a) n

  IsWalk : ℕ → List ℕ → Type 0
  IsWalk a [] = Unit {0}
  IsWalk a (x ∷ xs) = (needs a x ≡ true) × (x < n) × IsWalk x xs

  long_none : (a : ℕ) → long 0 a ≡ true
  unfolding long
  long_none a = refl

  long_more : (m a b : ℕ) → needs a b ≡ true → b < n → long m b ≡ true → long (suc m) a ≡ true
  unfolding long
  long_more m a b e low l = some_below_from (λ b. needs a b && long m b) n b low (and_from (needs a b) (long m b) e l)

  walk : (m a : ℕ) → long m a ≡ true → (xs : List ℕ) × (length xs ≡ m) × IsWalk a xs
  unfolding long IsWalk
  walk zero a l = ([], refl, tt)
  walk (suc m) a l =
      let step = some_below_out (λ b. needs a b && long m b) n l in
      let parts = and_parts (needs a step.0) (long m step.0) step.2 in
      let rest = walk m step.0 parts.1 in
      (step.0 ∷ rest.0, ap suc rest.1, (parts.0, step.1, rest.2))

  below_in_walk : (a : ℕ) (xs : List ℕ) → IsWalk a xs → (q : ℕ) → list_any (eqb q) xs ≡ true → q < n
  unfolding IsWalk
  below_in_walk a [] w q e = absurd (false≢true e)
  below_in_walk a (x ∷ xs) w q e =
      ⊎_elim (λ here. let same = eqb-true q x here in let low = w.1 in omega arith) (below_in_walk x xs w.2 q) (or_cases (eqb q x) (list_any (eqb q) xs) e)

lead_on : (needs : ℕ → ℕ → Bool) (m a b c : ℕ) → Leads needs m a b → needs b c ≡ true → Leads needs (suc m) a c
lead_on needs zero a b c l e = (b, l, e)
lead_on needs (suc m) a b c l e = (l.0, l.1, lead_on needs m l.0 b c l.2 e)

module _ (needs : ℕ → ℕ → Bool) (n : ℕ) (acyclic : IsAcyclic needs) where
  IsFrom : ℕ → ℕ → Type 0
  IsFrom x c = (x ≡ c) ⊎ ((m : ℕ) × Leads needs m x c)

  step_on : (x c y : ℕ) → IsFrom x c → needs c y ≡ true → (m : ℕ) × Leads needs m x y
  unfolding IsFrom
  step_on x c y (inl same) e = (0, ap (λ t. needs t y) same ∙ e)
  step_on x c y (inr l) e = (suc l.0, lead_on needs l.0 x c y l.1 e)

  apart_in_walk : (x c : ℕ) → IsFrom x c → (xs : List ℕ) → IsWalk needs n c xs → AllByRecursion (λ y. eqb x y ≡ false) xs
  unfolding IsWalk IsFrom
  apart_in_walk x c from [] w = tt
  apart_in_walk x c from (y ∷ ys) w =
      let l = step_on x c y from w.0 in
      (ne_eqb x y (λ same. acyclic.apart l.0 x (subst (Leads needs l.0 x) (sym same) l.1)), apart_in_walk x y (inr l) ys w.2)

  distinct_walk : (a : ℕ) (xs : List ℕ) → IsWalk needs n a xs → IsDistinct eqb xs
  unfolding IsWalk IsDistinct IsFrom
  distinct_walk a [] w = tt
  distinct_walk a (x ∷ xs) w = (apart_in_walk x x (inl refl) xs w.2, distinct_walk x xs w.2)

  too_long : (a : ℕ) → long needs n (suc n) a ≡ true → ⊥
  too_long a l =
      let w = walk needs n (suc n) a l in
      let most = length-le_from_distinct_below w.0 n (distinct_walk a w.0 w.2) (below_in_walk needs n a w.0 w.2) in
      let size = w.1 in
      absurd (omega arith)

  -- without cycles, and with all that is needed below `n`, the lengths of walks are ranks
  pub IsRanking-rank_in : IsWithin n needs → IsRanking needs (rank_in needs n)
  unfolding rank_in count bit
  IsRanking-rank_in inside = record {
    lower = λ a b e. (
        let mono = count_mono (λ m. long needs n (suc m) b) (λ m. long needs n (suc (suc m)) a) n (λ m l. long_more needs n (suc m) a b e (inside.within a b e) l) in
        let shift = count_shift (λ m. long needs n (suc m) a) n in
        let first : bit (long needs n 1 a) ≡ 1 = ap bit (long_more needs n 0 a b e (inside.within a b e) (long_none needs n b)) in
        let last : bit (long needs n (suc n) a) ≡ 0 = ap bit (false_from_ne_true (long needs n (suc n) a) (too_long a)) in
        omega arith);
  }

-- no rank is greater than the size
pub rank_in-le : (needs : ℕ → ℕ → Bool) (n a : ℕ) → rank_in needs n a ≤ n
unfolding rank_in
rank_in-le needs n a = count_most (λ m. long needs n (suc m) a) n

-- a finite relation without cycles has ranks up to its size
pub ranks_from_acyclic : (needs : ℕ → ℕ → Bool) (n : ℕ) → IsWithin n needs → IsAcyclic needs → HasRanks n needs
ranks_from_acyclic needs n inside acyclic = record {
  rank = rank_in needs n;
  ranks = IsRanking-rank_in needs n acyclic inside;
  most = rank_in-le needs n;
}

-- ---- either ranks or a cycle

module _ (needs : ℕ → ℕ → Bool) (n : ℕ) where
  lead_to_member : (c : ℕ) (xs : List ℕ) → IsWalk needs n c xs → (y : ℕ) → list_any (eqb y) xs ≡ true → (m : ℕ) × Leads needs m c y
  unfolding IsWalk
  lead_to_member c [] w y e = absurd (false≢true e)
  lead_to_member c (x ∷ xs) w y e =
      ⊎_elim (λ here. (0, ap (needs c) (eqb-true y x here) ∙ w.0))
      (λ later. let l = lead_to_member x xs w.2 y later in (suc l.0, (x, w.0, l.1)))
      (or_cases (eqb y x) (list_any (eqb y) xs) e)

  apart_from : (x : ℕ) (xs : List ℕ) → list_any (eqb x) xs ≡ false → AllByRecursion (λ y. eqb x y ≡ false) xs
  apart_from x [] e = tt
  apart_from x (y ∷ ys) e = let p = or_parts (eqb x y) (list_any (eqb x) ys) e in (p.0, apart_from x ys p.1)

  -- a walk comes to no number twice, or it goes round
  repeats : (a : ℕ) (xs : List ℕ) → IsWalk needs n a xs → IsDistinct eqb xs ⊎ HasCycle needs
  unfolding IsWalk IsDistinct
  repeats a [] w = inl tt
  repeats a (x ∷ xs) w = join (cases_Bool (list_any (eqb x) xs)) (repeats x xs w.2)
    where
      join : (list_any (eqb x) xs ≡ true) ⊎ (list_any (eqb x) xs ≡ false) → IsDistinct eqb xs ⊎ HasCycle needs → IsDistinct eqb (x ∷ xs) ⊎ HasCycle needs
      join (inl again) rest = inr (let l = lead_to_member x xs w.2 x again in record { steps = l.0; at = x; leads = l.1 })
      join (inr new) (inl distinct) = inl (apart_from x xs new, distinct)
      join (inr new) (inr cycle) = inr cycle

  -- a walk of more steps than there are numbers goes round
  cycle_from_long : (a : ℕ) → long needs n (suc n) a ≡ true → HasCycle needs
  cycle_from_long a l =
      let w = walk needs n (suc n) a l in
      let size = w.1 in
      ⊎_elim
      (λ distinct. let most = length-le_from_distinct_below w.0 n distinct (below_in_walk needs n a w.0 w.2) in absurd (omega arith))
      (λ cycle. cycle) (repeats a w.0 w.2)

  -- round a cycle any number of steps can be made
  long_on_cycle : IsWithin n needs → (m a : ℕ) → Leads needs m a a → (k j c : ℕ) → Leads needs j c a → long needs n k c ≡ true
  long_on_cycle inside m a round zero j c l = long_none needs n c
  long_on_cycle inside m a round (suc k) zero c l = long_more needs n k c a l (inside.within c a l) (long_on_cycle inside m a round k m a round)
  long_on_cycle inside m a round (suc k) (suc j) c l = long_more needs n k c l.0 l.1 (inside.within c l.0 l.1) (long_on_cycle inside m a round k j l.0 l.2)

  on_cycle : IsWithin n needs → (m a b : ℕ) → Leads needs m a b → b < n
  on_cycle inside zero a b l = inside.within a b l
  on_cycle inside (suc m) a b l = on_cycle inside m l.0 b l.2

-- a finite relation has ranks, or it has a cycle
pub ranks_or_cycle : (needs : ℕ → ℕ → Bool) (n : ℕ) → IsWithin n needs → HasRanks n needs ⊎ HasCycle needs
ranks_or_cycle needs n inside =
    ⊎_elim
    (λ found. let a = some_below_out (λ b. long needs n (suc n) b) n found in inr (cycle_from_long needs n a.0 a.2))
    (λ none. inl (ranks_from_acyclic needs n inside (record {
      apart = λ m a round. false≢true (sym none ∙ some_below_from (λ b. long needs n (suc n) b) n a (on_cycle needs n inside m a a round) (long_on_cycle needs n inside m a round (suc n) m a round));
    })))
    (cases_Bool (some_below (λ b. long needs n (suc n) b) n))

-- ---- lists of what is needed

-- a list that has `b` has an entry equal to it, so what holds of all entries holds of `b`
All-member : (P : ℕ → Type 0) (xs : List ℕ) (b : ℕ) → All P xs → list_any (nat_eq b) xs ≡ true → P b
All-member P [] b all e = absurd (false≢true e)
All-member P (x ∷ xs) b all e =
    ⊎_elim (λ here. subst P (sym (eqb-true b x here)) (All-head P x xs all)) (λ later. All-member P xs b (All-tail P x xs all) later)
    (or_cases (nat_eq b x) (list_any (nat_eq b) xs) e)

-- lists whose entries are all below `n` need nothing else
pub IsWithin-needs_of : (lists : List (List ℕ)) (n : ℕ) → All (λ xs. All (λ b. b < n) xs) lists → IsWithin n (needs_of lists)
IsWithin-needs_of lists n all = record {
  within = λ a b e. ⊎_elim
      (λ (low : a < length lists). All-member (λ b. b < n) (get_or lists a []) b (All-get_or (λ xs. All (λ b. b < n) xs) lists a [] low all) e)
      (λ (past : length lists ≤ a). absurd (false≢true (ap (list_any (nat_eq b)) (sym (get_or_past lists a [] past)) ∙ e)))
      (cases_lt a (length lists));
}

-- ---- numbers that all wait

stuck_below : (needs : ℕ → ℕ → Bool) (rank : ℕ → ℕ) → IsRanking needs rank → (waits : ℕ → Bool) → ((a : ℕ) → waits a ≡ true → (b : ℕ) × (needs a b ≡ true) × (waits b ≡ true)) → (n a : ℕ) → rank a < n → waits a ≡ true → ⊥
stuck_below needs rank ranks waits next zero a low e = absurd (omega arith)
stuck_below needs rank ranks waits next (suc n) a low e =
    let step = next a e in
    stuck_below needs rank ranks waits next n step.0 (omega (arith, ranks.lower a step.0 step.1)) step.2

-- where there are ranks, there are no numbers of which each needs another of them
pub none_stuck : (needs : ℕ → ℕ → Bool) (rank : ℕ → ℕ) → IsRanking needs rank → (waits : ℕ → Bool) → ((a : ℕ) → waits a ≡ true → (b : ℕ) × (needs a b ≡ true) × (waits b ≡ true)) → (a : ℕ) → waits a ≡ true → ⊥
none_stuck needs rank ranks waits next a = stuck_below needs rank ranks waits next (suc (rank a)) a (omega arith)

-- numbers below `n` of which each needs another of them have a cycle
pub cycle_from_stuck : (needs : ℕ → ℕ → Bool) (n : ℕ) → IsWithin n needs → (waits : ℕ → Bool) → ((a : ℕ) → waits a ≡ true → (b : ℕ) × (needs a b ≡ true) × (waits b ≡ true)) → (a : ℕ) → waits a ≡ true → HasCycle needs
cycle_from_stuck needs n inside waits next a e =
    ⊎_elim (λ (has : HasRanks n needs). absurd (none_stuck needs has.rank has.ranks waits next a e)) (λ cycle. cycle) (ranks_or_cycle needs n inside)
