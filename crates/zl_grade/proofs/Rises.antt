-- What the table keeps when a node rises to the grade of its equation.
use Rattle.std.proofs.Common.{◌≡◌, ◌⊎◌, inl, inr, ℕ, ◌<◌, ◌≤◌, nat_lt, Bool, true, false, List, length, get_or, refl, sym, ap, ◌∙◌, subst, arith, ⊎_elim}
use Rattle.std.proofs.lemmas.List.{get_or_past}
use Rattle.std.proofs.lemmas.Option.{slice_get_cases}
use Rattle.std.proofs.lemmas.Bool.{cases_lt, ltb-false}
use Rattle.zl_value.specs.Lists.{Has}
use Rattle.zl_meaning.specs.FlatForm.{FlatForm}
use Rattle.zl_meaning.specs.Grades.{Grading, grade_of, place_grade}
use Rattle.zl_grade.specs.Equations.{grade_at, IsInside, with_grade, given_place, given, may_rise}
use Rattle.zl_grade.specs.Links.{link, links_of}
use Rattle.zl_grade.specs.Chains.{HasReaders}
use Rattle.zl_grade.specs.Table.{AreInRange, AreClosed, IsBelow, AreSettled}
use Rattle.zl_grade.specs.declared.node.Node.{Node}
use Rattle.zl_grade.specs.declared.node.Node.TheVariants.{Occ, Place}
use Rattle.zl_grade.proofs.Rising.{node_tells, grade-same, grade-other, occs-length, places-length}
use Rattle.zl_grade.proofs.SameEquations.{given_same}
use Rattle.zl_grade.proofs.PlaceBounds.{place_bound}
use Rattle.zl_grade.proofs.GrowingEquations.{given_place_grows, given_occ_grows, given_up, given_other}

module _ (f : FlatForm) (marks : List Bool) (closed : AreClosed f marks) (g : Grading) (b : IsBelow f marks g) where
  same_up : (m : Node) → grade_at g m ≤ grade_at g m
  same_up m = omega arith

  -- an occurrence that isn't marked doesn't rise
  not_other : (k : ℕ) → get_or marks k false ≡ false → grade_of g k < given f marks g (Occ k) → ⊥
  not_other k e less =
      let now = b.range.others k e in
      let same = given_other f marks g k e in
      let none : ⊥ = omega (arith, less, now, same) in
      none

  -- no node that can rise has to rise above 2
  small : (x : Node) → grade_at g x < given f marks g x → given f marks g x ≤ 2
  small (Place p) less = (given_place_grows f marks closed g g b.range b.range same_up p).1
  small (Occ k) less = by_mark (get_or marks k false) refl
    where
      by_mark : (m : Bool) → get_or marks k false ≡ m → given f marks g (Occ k) ≤ 2
      by_mark true e = (given_occ_grows f marks closed g g b.range b.range same_up k e).1
      by_mark false e = absurd (not_other k e less)

  -- one that rises is there
  inside : (x : Node) → grade_at g x < given f marks g x → IsInside g x
  inside (Occ k) less = by_place (cases_lt k (length g.occs))
    where
      by_place : (k < length g.occs) ⊎ (length g.occs ≤ k) → k < length g.occs
      by_place (inl l) = l
      by_place (inr past) =
          let now = get_or_past g.occs k 3 past in
          let high = small (Occ k) less in
          let none : ⊥ = omega (arith, less, now, high) in
          absurd none
  inside (Place p) less =
      let size = b.places_length in
      ⊎_elim (λ there. let low = there.1 in let l : p < length g.places = omega (arith, size, low) in l)
      (λ past. let none : given f marks g (Place p) ≡ 0 = ap (λ o. given_place g o) past.1 in absurd (let x : ⊥ = omega (arith, none, less) in x)) (slice_get_cases f.places p).1

  module _ (x : Node) (v : ℕ) (is : v ≡ given f marks g x) (less : grade_at g x < v) where
    lower : grade_at g x < given f marks g x
    lower = omega (arith, is, less)

    pub rise_inside : IsInside g x
    rise_inside = inside x lower

    pub rise_small : v ≤ 2
    rise_small = let s = small x lower in omega (arith, s, is)

    -- the grade is the new one, or as before
    graded_as : (m : Node) → ((m ≡ x) × (grade_at (with_grade g x v) m ≡ v)) ⊎ ((m ≡ x → ⊥) × (grade_at (with_grade g x v) m ≡ grade_at g m))
    graded_as m = by_node (node_tells m x)
      where
        by_node : (m ≡ x) ⊎ (m ≡ x → ⊥) → ((m ≡ x) × (grade_at (with_grade g x v) m ≡ v)) ⊎ ((m ≡ x → ⊥) × (grade_at (with_grade g x v) m ≡ grade_at g m))
        by_node (inl e) = inl (e, ap (λ n. grade_at (with_grade g x v) n) e ∙ grade-same g x v rise_inside)
        by_node (inr ne) = inr (ne, grade-other g x m v ne)

    rise_up : (m : Node) → grade_at g m ≤ grade_at (with_grade g x v) m
    rise_up m = by_node (graded_as m)
      where
        by_node : ((m ≡ x) × (grade_at (with_grade g x v) m ≡ v)) ⊎ ((m ≡ x → ⊥) × (grade_at (with_grade g x v) m ≡ grade_at g m)) → grade_at g m ≤ grade_at (with_grade g x v) m
        by_node (inl e) = let old : grade_at g m ≡ grade_at g x = ap (λ n. grade_at g n) e.0 in let new = e.1 in omega (arith, old, new, less)
        by_node (inr e) = let new = e.1 in omega (arith, new)

    range_after : AreInRange marks (with_grade g x v)
    range_after = record {
      graded = λ k e. graded k e (graded_as (Occ k));
      others = λ k e. others k e (graded_as (Occ k));
      places = λ p. places p (graded_as (Place p));
    }
      where
        graded : (k : ℕ) → get_or marks k false ≡ true → ((Occ k ≡ x) × (grade_at (with_grade g x v) (Occ k) ≡ v)) ⊎ ((Occ k ≡ x → ⊥) × (grade_at (with_grade g x v) (Occ k) ≡ grade_at g (Occ k))) → grade_of (with_grade g x v) k ≤ 2
        graded k e (inl n) = let new = n.1 in let s = rise_small in omega (arith, new, s)
        graded k e (inr n) = let new = n.1 in let old = b.range.graded k e in omega (arith, new, old)

        others : (k : ℕ) → get_or marks k false ≡ false → ((Occ k ≡ x) × (grade_at (with_grade g x v) (Occ k) ≡ v)) ⊎ ((Occ k ≡ x → ⊥) × (grade_at (with_grade g x v) (Occ k) ≡ grade_at g (Occ k))) → grade_of (with_grade g x v) k ≡ 3
        others k e (inl n) = absurd (not_other k e (subst (λ m. grade_at g m < given f marks g m) (sym n.0) lower))
        others k e (inr n) = n.1 ∙ b.range.others k e

        places : (p : ℕ) → ((Place p ≡ x) × (grade_at (with_grade g x v) (Place p) ≡ v)) ⊎ ((Place p ≡ x → ⊥) × (grade_at (with_grade g x v) (Place p) ≡ grade_at g (Place p))) → grade_at (with_grade g x v) (Place p) ≤ 2
        places p (inl n) = let new = n.1 in let s = rise_small in omega (arith, new, s)
        places p (inr n) = let new = n.1 in let old = b.range.places p in omega (arith, new, old)

    -- no grade is above its equation
    pub rise_below : IsBelow f marks (with_grade g x v)
    rise_below = record {
      occs_length = occs-length g x v ∙ b.occs_length;
      places_length = places-length g x v ∙ b.places_length;
      range = range_after;
      below = λ m. below m (graded_as m);
    }
      where
        below : (m : Node) → ((m ≡ x) × (grade_at (with_grade g x v) m ≡ v)) ⊎ ((m ≡ x → ⊥) × (grade_at (with_grade g x v) m ≡ grade_at g m)) → grade_at (with_grade g x v) m ≤ given f marks (with_grade g x v) m
        below m (inl n) =
            let same : given f marks g m ≡ given f marks g x = ap (λ o. given f marks g o) n.0 in
            let up = given_up f marks closed g (with_grade g x v) b.range range_after rise_up m in
            let new = n.1 in
            omega (arith, same, up, new, is)
        below m (inr n) =
            let up = given_up f marks closed g (with_grade g x v) b.range range_after rise_up m in
            let new = n.1 in
            let old = b.below m in
            omega (arith, up, new, old)

    -- an occurrence has the new grade, or the one that it had
    occ_as : (k : ℕ) → (grade_of (with_grade g x v) k ≡ v) ⊎ (grade_of (with_grade g x v) k ≡ grade_of g k)
    occ_as k = ⊎_elim (λ n. inl n.1) (λ n. inr n.1) (graded_as (Occ k))

    -- none has to rise but those on the list, to which the readers were added
    module _ (waiting more : List Node) (rest : (m : Node) → (m ≡ x → ⊥) → (Has waiting m → ⊥) → given f marks g m ≤ grade_at g m) (readers : HasReaders (links_of f) g x v waiting more) where
      before : (m : Node) → (m ≡ x → ⊥) → (Has more m → ⊥) → given f marks g m ≤ grade_at g m
      before m ne not = rest m ne (λ has. not (record { index = has.index; is = readers.kept has.index m has.is }))

      -- a node that may have to rise doesn't read the one that rose, as it isn't on the list
      may_settled : (m : Node) → may_rise g m v ≡ true → (Has more m → ⊥) → given f marks (with_grade g x v) m ≤ grade_at (with_grade g x v) m
      may_settled m may not = by_node (graded_as m)
        where
          read_same : (y : Node) → Has (links_of f) (link y m) → (y ≡ x) ⊎ (y ≡ x → ⊥) → grade_at g y ≡ grade_at (with_grade g x v) y
          read_same y has (inl e) = absurd (let there = readers.all m (subst (λ n. Has (links_of f) (link n m)) e has) may in not (record { index = there.0; is = there.1 }))
          read_same y has (inr ne) = sym (grade-other g x y v ne)

          same : given f marks g m ≡ given f marks (with_grade g x v) m
          same = given_same g (with_grade g x v) f marks m (λ y has. read_same y has (node_tells y x))

          by_node : ((m ≡ x) × (grade_at (with_grade g x v) m ≡ v)) ⊎ ((m ≡ x → ⊥) × (grade_at (with_grade g x v) m ≡ grade_at g m)) → given f marks (with_grade g x v) m ≤ grade_at (with_grade g x v) m
          by_node (inl n) = let at : given f marks g m ≡ given f marks g x = ap (λ o. given f marks g o) n.0 in let new = n.1 in let s = same in omega (arith, s, at, new, is)
          by_node (inr n) = let old = before m n.0 not in let new = n.1 in let s = same in omega (arith, old, new, s)

      -- a place that has as great a grade keeps it
      great_settled : (p : ℕ) → v ≤ grade_at g (Place p) → (Has more (Place p) → ⊥) → given f marks (with_grade g x v) (Place p) ≤ grade_at (with_grade g x v) (Place p)
      great_settled p great not = by_node (graded_as (Place p))
        where
          by_node : ((Place p ≡ x) × (grade_at (with_grade g x v) (Place p) ≡ v)) ⊎ ((Place p ≡ x → ⊥) × (grade_at (with_grade g x v) (Place p) ≡ grade_at g (Place p))) → given f marks (with_grade g x v) (Place p) ≤ grade_at (with_grade g x v) (Place p)
          by_node (inl n) = let at : grade_at g (Place p) ≡ grade_at g x = ap (λ o. grade_at g o) n.0 in absurd (let none : ⊥ = omega (arith, at, great, less) in none)
          by_node (inr n) =
              let old = before (Place p) n.0 not in
              let new = n.1 in
              let bound = place_bound g (with_grade g x v) v occ_as f marks p in
              omega (arith, old, new, bound, great)

      pub rise_settled : AreSettled f marks (with_grade g x v) more
      rise_settled (Occ k) not = may_settled (Occ k) refl not
      rise_settled (Place p) not = by_test (nat_lt (place_grade g p) v) refl
        where
          by_test : (b : Bool) → nat_lt (place_grade g p) v ≡ b → given f marks (with_grade g x v) (Place p) ≤ grade_at (with_grade g x v) (Place p)
          by_test true e = may_settled (Place p) e not
          by_test false e = great_settled p (ltb-false (place_grade g p) v e) not
