-- What moves as its grade says, put together; and what a grade says of those of which it is made.
use Rattle.std.specs.Prelude.{◌≡◌, ◌⊎◌, ℕ, ◌≤◌, max, nat_eq, nat_le, Bool, true, false, if◌then◌else◌, Option, Some, None}
use Rattle.std.proofs.Common.{refl, sym, ap, ◌∙◌, arith, eqb-true, inl, inr}
use Rattle.std.proofs.lemmas.Bool.{leb-false}
use Rattle.zl_value.specs.Fraction.{Fraction}
use Rattle.zl_value.specs.Times.{nought}
use Rattle.zl_value.specs.Operators.{answered}
use Rattle.zl_value.specs.declared.value.Value.{Value}
use Rattle.zl_value.specs.declared.value.Value.TheVariants.{B, I, F}
use Rattle.zl_meaning.specs.Occurrences.{given, branch}
use Rattle.zl_meaning.specs.Grades.{product_grade, quotient_grade, if_graded}
use Rattle.zl_meaning.specs.KeepsGrades.{IsMoment, StandsStill}
use Rattle.zl_meaning.proofs.StraightLines.{answered-given}
use Rattle.zl_meaning.proofs.WrittenForms.{at-start}
use Rattle.zl_meaning.proofs.GradesKept.LineKinds.{Along, IsLine, LineStands, Runs}

-- a property of the grade: what has grade 0 stands still, what has grade 1 or 0 moves on a line
abbrev pub KeptBy : ℕ → Along → Type 0
KeptBy n x = (n ≡ 0 → StandsStill x) × (n ≤ 1 → IsLine x)

-- what is the same at each moment is kept alike
line_same : (x y : Along) → ((s : Fraction) → IsMoment s → x s ≡ y s) → IsLine x → IsLine y
line_same x y e (LineStands still) = LineStands (λ s m. sym (e s m) ∙ still s m ∙ e nought at-start)
line_same x y e (Runs a k p q is) = Runs a k p q (λ s m. sym (e s m) ∙ is s m)

still_same : (x y : Along) → ((s : Fraction) → IsMoment s → x s ≡ y s) → StandsStill x → StandsStill y
still_same x y e still s m = sym (e s m) ∙ still s m ∙ e nought at-start

pub kept_same : (n : ℕ) (x y : Along) → ((s : Fraction) → IsMoment s → x s ≡ y s) → KeptBy n x → KeptBy n y
kept_same n x y e k = (λ z. still_same x y e (k.0 z), λ l. line_same x y e (k.1 l))

-- what stands still is kept whatever its grade
pub kept_still : (n : ℕ) (x : Along) → StandsStill x → KeptBy n x
kept_still n x still = (λ z. still, λ l. LineStands still)

-- what is kept by a grade is kept by a greater one
pub kept_more : (n k : ℕ) (x : Along) → n ≤ k → KeptBy n x → KeptBy k x
kept_more n k x le h = (λ z. h.0 (omega (arith, le, z)), λ l. h.1 (omega (arith, le, l)))

-- a choice by what stands still
pub kept_if : (n : ℕ) (b : Fraction → Bool) (x y : Along) → ((s : Fraction) → IsMoment s → b s ≡ b nought) → (b nought ≡ true → KeptBy n x) → (b nought ≡ false → KeptBy n y) → KeptBy n (λ s. if b s then x s else y s)
kept_if n b x y still p q = go (b nought) refl
  where
    go : (t : Bool) → b nought ≡ t → KeptBy n (λ s. if b s then x s else y s)
    go true e = kept_same n x _ (λ s m. sym (ap (λ t. if t then x s else y s) (still s m ∙ e))) (p e)
    go false e = kept_same n y _ (λ s m. sym (ap (λ t. if t then x s else y s) (still s m ∙ e))) (q e)

-- the branch that a condition takes, which stands still
pub kept_branch : (n : ℕ) (c x y : Along) → StandsStill c → KeptBy n x → KeptBy n y → KeptBy n (λ s. branch (c s) (x s) (y s))
kept_branch n c x y still p q = go (c nought) refl
  where
    to : (v : Option Value) → c nought ≡ v → (s : Fraction) → IsMoment s → branch (c s) (x s) (y s) ≡ branch v (x s) (y s)
    to v e s m = ap (λ t. branch t (x s) (y s)) (still s m ∙ e)

    go : (v : Option Value) → c nought ≡ v → KeptBy n (λ s. branch (c s) (x s) (y s))
    go (Some (B true)) e = kept_same n x _ (λ s m. sym (to _ e s m)) p
    go (Some (B false)) e = kept_same n y _ (λ s m. sym (to _ e s m)) q
    go None e = kept_same n (λ s. None) _ (λ s m. sym (to _ e s m)) (kept_still n _ (λ s m. refl))
    go (Some (I a)) e = kept_same n (λ s. None) _ (λ s m. sym (to _ e s m)) (kept_still n _ (λ s m. refl))
    go (Some (F a)) e = kept_same n (λ s. None) _ (λ s m. sym (to _ e s m)) (kept_still n _ (λ s m. refl))

-- what is given
pub kept_given : (n : ℕ) (x : Along) → KeptBy n x → KeptBy n (λ s. answered (given (x s)))
kept_given n x k = kept_same n x _ (λ s m. sym (answered-given (x s))) k

-- of which grades sums, products and quotients have grade 0, or at most 1
pub zero_max : {a b : ℕ} → max a b ≡ 0 → (a ≡ 0) × (b ≡ 0)
zero_max p = (omega (arith, p), omega (arith, p))

pub max_one : {a b : ℕ} → max a b ≤ 1 → (a ≤ 1) × (b ≤ 1)
max_one p = (omega (arith, p), omega (arith, p))

pub product_zero : (a b : ℕ) → product_grade a b ≡ 0 → (a ≡ 0) × (b ≡ 0)
product_zero a b p = go (nat_eq a 0) refl (nat_eq b 0) refl p
  where
    go : (s : Bool) → nat_eq a 0 ≡ s → (t : Bool) → nat_eq b 0 ≡ t → (if s then b else (if t then a else 2)) ≡ 0 → (a ≡ 0) × (b ≡ 0)
    go true e t d q = (eqb-true a 0 e, q)
    go false e true d q = (q, eqb-true b 0 d)
    go false e false d q = absurd (let z : ⊥ = omega (arith, q) in z)

pub product_one : (a b : ℕ) → product_grade a b ≤ 1 → ((a ≡ 0) × (b ≤ 1)) ⊎ ((a ≤ 1) × (b ≡ 0))
product_one a b p = go (nat_eq a 0) refl (nat_eq b 0) refl p
  where
    go : (s : Bool) → nat_eq a 0 ≡ s → (t : Bool) → nat_eq b 0 ≡ t → (if s then b else (if t then a else 2)) ≤ 1 → ((a ≡ 0) × (b ≤ 1)) ⊎ ((a ≤ 1) × (b ≡ 0))
    go true e t d q = inl (eqb-true a 0 e, q)
    go false e true d q = inr (q, eqb-true b 0 d)
    go false e false d q = absurd (let z : ⊥ = omega (arith, q) in z)

pub quotient_one : (a b n : ℕ) → n ≤ 1 → quotient_grade a b ≤ n → (a ≤ n) × (b ≡ 0)
quotient_one a b n l p = go (nat_eq b 0) refl p
  where
    go : (t : Bool) → nat_eq b 0 ≡ t → (if t then a else 2) ≤ n → (a ≤ n) × (b ≡ 0)
    go true d q = (q, eqb-true b 0 d)
    go false d q = absurd (let z : ⊥ = omega (arith, q, l) in z)

-- a grade of at most 2 is that of a graded occurrence
pub plain_le : (n : ℕ) → n ≤ 2 → if_graded n ≡ n
plain_le n l = go (nat_le n 2) refl
  where
    go : (t : Bool) → nat_le n 2 ≡ t → (if t then n else 0) ≡ n
    go true e = refl
    go false e = absurd (let low = leb-false n 2 e in let z : ⊥ = omega (arith, l, low) in z)

-- each of two is at most the greater
pub left_max : (a b n : ℕ) → max a b ≤ n → a ≤ n
left_max a b n p = omega (arith, p)

pub right_max : (a b n : ℕ) → max a b ≤ n → b ≤ n
right_max a b n p = omega (arith, p)
