-- Equations of which each reads nodes of a lower rank alone have exactly one solution.
use Rattle.std.specs.Prelude.{◌≡◌, ℕ, ◌<◌, zero, suc}
use Rattle.std.proofs.Common.{sym, ◌∙◌, arith}
use mathlib.Core.Path.{fun_ext}
use Rattle.zl_value.specs.FixedPoints.{Solves, IsRanked, HasOneSolution, turns}

module _ {Node : Type 0} {X : Node → Type 0} (rank : Node → ℕ) (equation : ((a : Node) → X a) → (a : Node) → X a) (ranked : IsRanked rank equation) where
  one_below : (s t : (a : Node) → X a) → Solves equation s → Solves equation t → (n : ℕ) (a : Node) → rank a < n → s a ≡ t a
  one_below s t p q zero a low = absurd (omega arith)
  one_below s t p q (suc n) a low = p a ∙ ranked.same s t a (λ b lower. one_below s t p q n b (omega arith)) ∙ sym (q a)

  -- two solutions have one value at each node
  pub one_value : (s t : (a : Node) → X a) → Solves equation s → Solves equation t → (a : Node) → s a ≡ t a
  one_value s t p q a = one_below s t p q (suc (rank a)) a (omega arith)

  -- two solutions are equal
  pub one_solution : (s t : (a : Node) → X a) → Solves equation s → Solves equation t → s ≡ t
  one_solution s t p q = fun_ext (one_value s t p q)

  -- a node has its value after more turns than its rank, whatever the turns begin with
  pub turns_same : (m n : ℕ) (s t : (a : Node) → X a) (a : Node) → rank a < m → rank a < n → turns equation m s a ≡ turns equation n t a
  turns_same zero n s t a p q = absurd (omega arith)
  turns_same (suc m) zero s t a p q = absurd (omega arith)
  turns_same (suc m) (suc n) s t a p q =
      ranked.same (turns equation m s) (turns equation n t) a (λ b lower. turns_same m n s t b (omega arith) (omega arith))

  -- where all ranks are below `n`, `n` turns give the solution
  pub turns_solve : (n : ℕ) (s : (a : Node) → X a) → ((a : Node) → rank a < n) → Solves equation (turns equation n s)
  turns_solve n s low a = turns_same n (suc n) s s a (low a) (omega (arith, low a))

  -- each node's value after one turn more than its rank
  settled : ((a : Node) → X a) → (a : Node) → X a
  settled s a = turns equation (suc (rank a)) s a

  settled_solves : (s : (a : Node) → X a) → Solves equation (settled s)
  unfolding settled
  settled_solves s a = ranked.same (turns equation (rank a) s) (settled s) a (λ b lower. turns_same (rank a) (suc (rank b)) s s b lower (omega arith))

  -- from any values there is a solution, also where the ranks have no bound, and it is the only one
  pub has_one_solution : ((a : Node) → X a) → HasOneSolution equation
  has_one_solution s = record {
    solution = settled s;
    solves = settled_solves s;
    one = λ t p. one_solution t (settled s) p (settled_solves s);
  }

  reach_below : (s t : (a : Node) → X a) → Solves equation t → ((a : Node) → ((b : Node) → rank b < rank a → s b ≡ t b) → s a ≡ equation s a) → (n : ℕ) (a : Node) → rank a < n → s a ≡ t a
  reach_below s t q keeps zero a low = absurd (omega arith)
  reach_below s t q keeps (suc n) a low =
      let lower = λ (b : Node) (l : rank b < rank a). reach_below s t q keeps n b (omega arith) in
      keeps a lower ∙ ranked.same s t a lower ∙ sym (q a)

  -- values that keep an equation as soon as all lower values are the solution's are the solution
  pub reach : (s t : (a : Node) → X a) → Solves equation t → ((a : Node) → ((b : Node) → rank b < rank a → s b ≡ t b) → s a ≡ equation s a) → (a : Node) → s a ≡ t a
  reach s t q keeps a = reach_below s t q keeps (suc (rank a)) a (omega arith)

-- where each equation reads only what its node needs, and that has a lower rank, the equations are ranked
pub IsRanked-from_needs : {Node : Type 0} {X : Node → Type 0} (needs : Node → Node → Type 0) (rank : Node → ℕ) (equation : ((a : Node) → X a) → (a : Node) → X a) → ((s t : (a : Node) → X a) (a : Node) → ((b : Node) → needs a b → s b ≡ t b) → equation s a ≡ equation t a) → ((a b : Node) → needs a b → rank b < rank a) → IsRanked rank equation
IsRanked-from_needs needs rank equation reads lower = record { same = λ s t a alike. reads s t a (λ b e. alike b (lower a b e)) }
