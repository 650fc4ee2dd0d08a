-- The grades of a table in which one node has risen.
use Rattle.std.proofs.Common.{◌≡◌, ◌⊎◌, inl, inr, ℕ, zero, suc, ◌+◌, ◌-◌, ◌<◌, ◌≤◌, List, [], ◌∷◌, length, set, get_or, refl, ap, arith, length-set}
use Rattle.std.proofs.lemmas.List.{get_or-set_same, get_or-set_other}
use Rattle.std.proofs.lemmas.Bool.Decides.{eqb_tells}
use Rattle.zl_meaning.specs.Grades.{Grading}
use Rattle.zl_grade.specs.Equations.{grade_at, IsInside, with_grade}
use Rattle.zl_grade.specs.declared.node.Node.{Node}
use Rattle.zl_grade.specs.declared.node.Node.TheVariants.{Occ, Place}

same_occ : (j k : ℕ) → Occ j ≡ Occ k → j ≡ k
same_occ j k e = cc

same_place : (j k : ℕ) → Place j ≡ Place k → j ≡ k
same_place j k e = cc

not_place : (j p : ℕ) → Occ j ≡ Place p → ⊥
not_place j p e = cc

not_occ : (p j : ℕ) → Place p ≡ Occ j → ⊥
not_occ p j e = cc

-- two nodes are the same, or not
pub node_tells : (a b : Node) → (a ≡ b) ⊎ (a ≡ b → ⊥)
node_tells (Occ j) (Place p) = inr (not_place j p)
node_tells (Place p) (Occ j) = inr (not_occ p j)
node_tells (Occ j) (Occ k) = elim (eqb_tells j k) [ inl e ↦ inl (ap (λ n. Occ n) e.1) | inr e ↦ inr (λ same. e.1 (same_occ j k same)) ]
node_tells (Place j) (Place k) = elim (eqb_tells j k) [ inl e ↦ inl (ap (λ n. Place n) e.1) | inr e ↦ inr (λ same. e.1 (same_place j k same)) ]

-- the grade of the node that has risen
pub grade-same : (g : Grading) (x : Node) (v : ℕ) → IsInside g x → grade_at (with_grade g x v) x ≡ v
grade-same g (Occ k) v l = get_or-set_same g.occs k v 3 l
grade-same g (Place p) v l = get_or-set_same g.places p v 0 l

-- the others' grades
pub grade-other : (g : Grading) (x m : Node) (v : ℕ) → (m ≡ x → ⊥) → grade_at (with_grade g x v) m ≡ grade_at g m
grade-other g (Occ k) (Occ j) v ne = get_or-set_other g.occs k j v 3 (λ e. ne (ap (λ n. Occ n) e))
grade-other g (Occ k) (Place p) v ne = refl
grade-other g (Place p) (Occ j) v ne = refl
grade-other g (Place p) (Place q) v ne = get_or-set_other g.places p q v 0 (λ e. ne (ap (λ n. Place n) e))

pub occs-length : (g : Grading) (x : Node) (v : ℕ) → length (with_grade g x v).occs ≡ length g.occs
occs-length g (Occ k) v = length-set g.occs k v
occs-length g (Place p) v = refl

pub places-length : (g : Grading) (x : Node) (v : ℕ) → length (with_grade g x v).places ≡ length g.places
places-length g (Occ k) v = refl
places-length g (Place p) v = length-set g.places p v

-- how far the grades can rise
abbrev pub left_in : List ℕ → ℕ
left_in [] = 0
left_in (n ∷ ns) = (3 - n) + left_in ns

abbrev pub left : Grading → ℕ
left g = left_in g.occs + left_in g.places

less_in : (ns : List ℕ) (k v d : ℕ) → k < length ns → get_or ns k d < v → v ≤ 3 → left_in (set ns k v) < left_in ns
less_in [] k v d l less le = absurd (omega (arith, l))
less_in (n ∷ ns) zero v d l less le = omega (arith, less, le)
less_in (n ∷ ns) (suc k) v d l less le = let rest = less_in ns k v d (omega (arith, l)) less le in omega (arith, rest)

-- one that rises leaves less
pub left_less : (g : Grading) (x : Node) (v : ℕ) → IsInside g x → grade_at g x < v → v ≤ 3 → left (with_grade g x v) < left g
left_less g (Occ k) v l less le = let few = less_in g.occs k v 3 l less le in omega (arith, few)
left_less g (Place p) v l less le = let few = less_in g.places p v 0 l less le in omega (arith, few)
