-- Properties of nodes in classes.
use Rattle.std.proofs.Common.{◌≡◌, ◌≢◌, ◌⊎◌, inl, inr, true, false, eqb, ℕ, ◌<◌, ◌≤◌, List, length, get_or, set, refl, sym, ◌∙◌, ap, subst, arith, length-set}
use Rattle.std.proofs.lemmas.List.{get_or-set_same, get_or-set_other, get_or_default}
use Rattle.std.proofs.lemmas.Bool.Decides.{eqb_tells}
use Rattle.zl_value.specs.declared.value.Ty.{Ty}
use Rattle.zl_types.specs.Forest.{link, IsForest, AreTied, IsSameClass, IsRelinked}

-- what a node is linked to after one link is written
pub link-set : (P : ℕ → Type 0) (links : List ℕ) (node to i : ℕ) → node < length links → (i ≡ node → P to) → ((i ≡ node → ⊥) → P (link links i))
    → P (link (set links node to) i)
link-set P links node to i within here there =
    elim (eqb_tells i node) [
      | inl h ↦ subst P (sym (ap (λ j. get_or (set links node to) j i) h.1 ∙ get_or-set_same links node to i within)) (here h.1)
      | inr h ↦ subst P (sym (get_or-set_other links node i to i h.1)) (there h.1)
    ]

pub within : (links : List ℕ) (i j : ℕ) → IsForest links → i < length links → j ≡ get_or links i j → (j ≡ link links i) × (j ≤ i) × (j < length links)
within links i j forest below is =
    let same : get_or links i i ≡ get_or links i j = get_or_default links i i j below in
    let e : j ≡ link links i = is ∙ sym same in
    (e, omega (arith, e, forest i), omega (arith, e, forest i))

-- a node linked to what its link is linked to
pub record IsHalved (links : List ℕ) (node further : ℕ) : Type 0 where
  pub relinked : IsRelinked links (set links node further)
  pub same : IsSameClass (set links node further) node further
  pub older : further ≤ link links node

pub halved : (links : List ℕ) (node next further : ℕ) → IsForest links → node < length links → next ≡ get_or links node next → further ≡ get_or links next further
    → IsHalved links node further
halved links node next further forest below is_next is_further =
    let a = within links node next forest below is_next in
    let b = within links next further forest a.2 is_further in
    let back : (type : ℕ → Ty) → AreTied (set links node further) type → type node ≡ type (link links node) = back_at a.0 b.0 a.1 in
    record {
      relinked = record {
        forest = λ i. link-set (λ j. j ≤ i) links node further i below (λ e. omega (arith, e, a.1, b.1)) (λ _. forest i);
        nodes = length-set links node further;
        roots = λ i root. link-set (λ j. j ≡ i) links node further i below (λ e. b.0 ∙ ap (link links) (a.0 ∙ ap (link links) (sym e) ∙ root) ∙ root) (λ _. root);
        ties = λ type tied i. link-set (λ j. type i ≡ type j) links node further i below
            (λ e. ap type e ∙ tied node ∙ ap type (sym a.0) ∙ tied next ∙ ap type (sym b.0)) (λ _. tied i);
        ties_back = λ type tied i. ties_back_at type tied back i (eqb_tells i node);
      };
      same = λ type tied. tied node ∙ link-set (λ j. type j ≡ type further) links node further node below (λ _. refl) (λ n. absurd (n refl));
      older = omega (arith, a.0, b.1);
    }
  where
    back_at : next ≡ link links node → further ≡ link links next → next ≤ node → (type : ℕ → Ty) → AreTied (set links node further) type → type node ≡ type (link links node)
    back_at en ef le type tied =
        elim (eqb_tells next node) [
          | inl h ↦ ap type (sym h.1 ∙ en)
          | inr h ↦ tied node ∙ link-set (λ j. type j ≡ type further) links node further node below (λ _. refl) (λ n. absurd (n refl))
              ∙ ap type ef ∙ sym (tied next ∙ link-set (λ j. type j ≡ type (link links next)) links node further next below (λ e. absurd (h.1 e)) (λ _. refl)) ∙ ap type en
        ]

    ties_back_at : (type : ℕ → Ty) → AreTied (set links node further) type → ((t : ℕ → Ty) → AreTied (set links node further) t → t node ≡ t (link links node)) → (i : ℕ)
        → ((eqb i node ≡ true) × (i ≡ node)) ⊎ ((eqb i node ≡ false) × (i ≢ node)) → type i ≡ type (link links i)
    ties_back_at type tied back i (inl h) = subst (λ j. type j ≡ type (link links j)) (sym h.1) (back type tied)
    ties_back_at type tied back i (inr h) = tied i ∙ link-set (λ j. type j ≡ type (link links i)) links node further i below (λ e. absurd (h.1 e)) (λ _. refl)

pub relinked_at_first : (links : List ℕ) → IsForest links → IsRelinked links links
relinked_at_first links forest =
    record { forest = forest; nodes = refl; roots = λ _ root. root; ties = λ _ tied. tied; ties_back = λ _ tied. tied }

pub relinked_again : (old between new : List ℕ) → IsRelinked old between → IsRelinked between new → IsRelinked old new
relinked_again old between new p q =
    record {
      forest = q.forest;
      nodes = q.nodes ∙ p.nodes;
      roots = λ i root. q.roots i (p.roots i root);
      ties = λ type tied. q.ties type (p.ties type tied);
      ties_back = λ type tied. p.ties_back type (q.ties_back type tied);
    }

-- nodes of one class stay so
pub same_after : (old new : List ℕ) (i j k : ℕ) → IsRelinked old new → IsSameClass old i j → IsSameClass new j k → IsSameClass new i k
same_after old new i j k p q r type tied = q type (p.ties_back type tied) ∙ r type tied
