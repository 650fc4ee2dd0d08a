-- What is proved of the definitions themselves. Each statement is the contract of a function that does nothing.
use Rattle.std.specs.Prelude.{◌≡◌, ◌⊎◌, ℕ, ℤ, pos, Bool, true, false, List}
use Rattle.zl_value.specs.Fraction.{Fraction, IsReduced, add, sub, mul, neg, div, whole}
use Rattle.zl_value.specs.Order.{below}
use Rattle.zl_value.specs.FixedPoints.{IsRanked, HasOneSolution}
use Rattle.zl_value.specs.Relations.{IsWithin, IsAcyclic, IsRanking, HasRanks, HasCycle}
use Rattle.zl_value.specs.Instants.{History}
use Rattle.zl_value.specs.System.{System}
use Rattle.zl_value.specs.Correspondence.{Correspondence, KeepsRuns}
use Rattle.zl_value.specs.OneRun.{Determines, HasOneRun}
use Rattle.zl_value.specs.declared.script.Script.{Script}

-- fractions in lowest terms are a field: what is made from them is in lowest terms, sums and products commute and associate,
-- products go over sums, zero and one change nothing, a difference undoes a sum, and a quotient by what isn't zero undoes a product
pub record AreField : Type 0 where
  pub reduced-whole : (n : ℤ) → IsReduced (whole n)
  pub reduced-add : (a b : Fraction) → IsReduced a → IsReduced b → IsReduced (add a b)
  pub reduced-sub : (a b : Fraction) → IsReduced a → IsReduced b → IsReduced (sub a b)
  pub reduced-mul : (a b : Fraction) → IsReduced a → IsReduced b → IsReduced (mul a b)
  pub reduced-neg : (a : Fraction) → IsReduced a → IsReduced (neg a)
  pub reduced-div : (a b : Fraction) → IsReduced a → IsReduced b → (b.num ≡ pos 0 → ⊥) → IsReduced (div a b)
  pub add_comm : (a b : Fraction) → add a b ≡ add b a
  pub add_assoc : (a b c : Fraction) → IsReduced a → IsReduced b → IsReduced c → add (add a b) c ≡ add a (add b c)
  pub add-zero : (a : Fraction) → IsReduced a → add a (whole (pos 0)) ≡ a
  pub add-neg : (a b : Fraction) → add a (neg b) ≡ sub a b
  pub sub-self : (a : Fraction) → IsReduced a → sub a a ≡ whole (pos 0)
  pub sub-add : (a b : Fraction) → IsReduced a → IsReduced b → sub (add a b) b ≡ a
  pub mul_comm : (a b : Fraction) → mul a b ≡ mul b a
  pub mul_assoc : (a b c : Fraction) → IsReduced a → IsReduced b → IsReduced c → mul (mul a b) c ≡ mul a (mul b c)
  pub mul-one : (a : Fraction) → IsReduced a → mul a (whole (pos 1)) ≡ a
  pub mul-add : (s a b : Fraction) → IsReduced s → IsReduced a → IsReduced b → mul s (add a b) ≡ add (mul s a) (mul s b)
  pub mul-div : (a b : Fraction) → IsReduced a → IsReduced b → (b.num ≡ pos 0 → ⊥) → mul (div a b) b ≡ a
  pub div-mul : (a b : Fraction) → IsReduced a → IsReduced b → (b.num ≡ pos 0 → ⊥) → div (mul a b) b ≡ a

-- and they are in order: none is below itself, of two one is below the other or they are equal, and the order goes over
-- to what is below something further up, to sums, and to products with what is above zero
pub record AreOrdered : Type 0 where
  pub below-self : (a : Fraction) → below a a ≡ false
  pub below_cases : (a b : Fraction) → IsReduced a → IsReduced b → (below a b ≡ true) ⊎ ((a ≡ b) ⊎ (below b a ≡ true))
  pub below_trans : (a b c : Fraction) → IsReduced a → IsReduced b → IsReduced c → below a b ≡ true → below b c ≡ true → below a c ≡ true
  pub below-add : (t d e : Fraction) → IsReduced t → IsReduced d → IsReduced e → below (add t d) (add t e) ≡ below d e
  pub below-mul : (k a b : Fraction) → IsReduced k → IsReduced a → IsReduced b → below (whole (pos 0)) k ≡ true → below (mul k a) (mul k b) ≡ below a b

-- a line that is below zero at 0 and not above zero at `d` is below zero between
abbrev pub StaysNegative : Type 0
StaysNegative = (v k d s : Fraction) → IsReduced v → IsReduced k → IsReduced d → IsReduced s → below v (whole (pos 0)) ≡ true → below (whole (pos 0)) (add v (mul d k)) ≡ false → below s (whole (pos 0)) ≡ false → below s d ≡ true → below (add v (mul s k)) (whole (pos 0)) ≡ true

-- equations of which each reads nodes of a lower rank alone have one solution, where there are values to begin with
abbrev pub RankedHasOneSolution : Type 0 → Type 0 → Type 0
RankedHasOneSolution Node X = (rank : Node → ℕ) (equation : (Node → X) → Node → X) → IsRanked rank equation → (Node → X) → HasOneSolution equation

-- a finite relation without cycles has ranks
abbrev pub AcyclicHasRanks : Type 0
AcyclicHasRanks = (needs : ℕ → ℕ → Bool) (n : ℕ) → IsWithin n needs → IsAcyclic needs → HasRanks n needs

-- and one that may have cycles has ranks, or it has one
abbrev pub RanksOrCycle : Type 0
RanksOrCycle = (needs : ℕ → ℕ → Bool) (n : ℕ) → IsWithin n needs → HasRanks n needs ⊎ HasCycle needs

-- what has ranks has no cycles
abbrev pub RankedIsAcyclic : Type 0
RankedIsAcyclic = (needs : ℕ → ℕ → Bool) (rank : ℕ → ℕ) → IsRanking needs rank → IsAcyclic needs

-- the relation that is given by its pairs
abbrev pub Relates : {W P Q : Type 0} → (W → P) → (W → Q) → P → Q → Type 0
Relates {W} first second p q = (w : W) × (first w ≡ p) × (second w ≡ q)

-- where each step and each flow of `A` corresponds to one of `B`, each run of `A` does; the pairs `W` say what stands beside what
abbrev pub CorrespondingRuns : Type 0 → Type 0 → Type 0 → Type 0 → Type 0 → Type 0
CorrespondingRuns X Y U V W = (A : System X Y) (B : System U V) (script : Script) (pick : List ℕ → List ℕ) (first : W → History X) (second : W → History U) → Correspondence A B script pick (Relates first second) → KeepsRuns A B script pick (Relates first second)

-- where the steps and the flows of a system are the only ones, its runs are
abbrev pub DeterminedRuns : Type 0 → Type 0 → Type 0
DeterminedRuns X Y = (sys : System X Y) (script : Script) → Determines sys script → HasOneRun sys script
