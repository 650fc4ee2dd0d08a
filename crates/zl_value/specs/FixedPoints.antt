-- Unknowns, one at each node, and an equation for each of them over the others. This project's own.
use Rattle.std.specs.Prelude.{◌≡◌, ℕ, ◌<◌, zero, suc}

-- `equation s a` is what the equation of the node `a` gives at the values `s`; these values solve the equations
abbrev pub Solves : {Node : Type 0} {X : Node → Type 0} → (((a : Node) → X a) → (a : Node) → X a) → ((a : Node) → X a) → Type 0
Solves {Node = Node} equation s = (a : Node) → s a ≡ equation s a

-- the equation of each node reads nodes of a lower rank alone
pub record IsRanked {Node : Type 0} {X : Node → Type 0} (rank : Node → ℕ) (equation : ((a : Node) → X a) → (a : Node) → X a) : Type 0 where
  pub same : (s t : (a : Node) → X a) (a : Node) → ((b : Node) → rank b < rank a → s b ≡ t b) → equation s a ≡ equation t a

-- there are values that solve the equations, and no others do
pub record HasOneSolution {Node : Type 0} {X : Node → Type 0} (equation : ((a : Node) → X a) → (a : Node) → X a) : Type 0 where
  pub solution : (a : Node) → X a
  pub solves : Solves equation solution
  pub one : (s : (a : Node) → X a) → Solves equation s → s ≡ solution

-- all equations taken at once, `n` times
abbrev pub turns : {Node : Type 0} {X : Node → Type 0} → (((a : Node) → X a) → (a : Node) → X a) → ℕ → ((a : Node) → X a) → (a : Node) → X a
turns equation zero s = s
turns equation (suc n) s = equation (turns equation n s)
