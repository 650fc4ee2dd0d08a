-- How the making of a table begins and ends.
use Rattle.std.proofs.Common.{◌≡◌, ◌⊎◌, inl, inr, ℕ, zero, suc, ◌+◌, ◌<◌, ◌≤◌, Bool, true, false, List, [], ◌∷◌, ◌++◌, length, map, get_or, slice_get, refl, sym, ap, ◌∙◌, subst, arith, ⊎_elim}
use Rattle.std.proofs.lemmas.List.{get_or_past}
use Rattle.std.proofs.lemmas.Option.{slice_get_cases}
use Rattle.std.proofs.lemmas.Bool.{cases_lt}
use Rattle.zl_value.specs.Lists.{Has}
use Rattle.zl_meaning.specs.FlatForm.{FlatForm}
use Rattle.zl_meaning.specs.Grades.{Grading, grade_of, place_grade, AreGrades}
use Rattle.zl_meaning.proofs.Members.{has-left, has-none, has-cases, has-last, has-append_case}
use Rattle.zl_grade.specs.Equations.{grade_at, given_occ, given_place, given}
use Rattle.zl_grade.specs.Marks.{AreMarks}
use Rattle.zl_grade.specs.Table.{first_grade, IsBelow, AreSettled, HasNumbers, HasAll}
use Rattle.zl_grade.specs.declared.node.Node.{Node}
use Rattle.zl_grade.specs.declared.node.Node.TheVariants.{Occ, Place}
use Rattle.zl_grade.proofs.GrowingEquations.{given_other}
use Rattle.zl_grade.proofs.Rising.{node_tells}
use Rattle.zl_grade.proofs.MarkLaws.{graded_marked, unmarked}

-- the node of the next number is added
pub numbers_more : (make : ℕ → Node) (n : ℕ) (old mid : List Node) → HasNumbers make n old mid → HasNumbers make (n + 1) old (mid ++ make n ∷ [])
numbers_more make n old mid h = record {
  kept = λ node has. has-left mid (make n ∷ []) node (h.kept node has);
  all = λ k l. by_place k l (cases_lt k n);
}
  where
    by_place : (k : ℕ) → k < n + 1 → (k < n) ⊎ (n ≤ k) → Has (mid ++ make n ∷ []) (make k)
    by_place k l (inl less) = has-left mid (make n ∷ []) (make k) (h.all k less)
    by_place k l (inr past) =
        let here : n ≡ k = omega (arith, l, past) in
        subst (λ j. Has (mid ++ make n ∷ []) (make j)) here (has-last mid (make n))

-- the least grades
first_at : (ms : List Bool) (k : ℕ) → get_or (map first_grade ms) k 3 ≡ first_grade (get_or ms k false)
first_at [] k = refl
first_at (m ∷ ms) zero = refl
first_at (m ∷ ms) (suc k) = first_at ms k

first_length : (ms : List Bool) → length (map first_grade ms) ≡ length ms
first_length [] = refl
first_length (m ∷ ms) = ap suc (first_length ms)

pub least_below : (f : FlatForm) (marks : List Bool) (g : Grading) → length marks ≡ length f.occs → g.occs ≡ map first_grade marks → length g.places ≡ length f.places
    → ((p : ℕ) → place_grade g p ≡ 0) → IsBelow f marks g
least_below f marks g size occs places zeros = record {
  occs_length = ap length occs ∙ first_length marks ∙ size;
  places_length = places;
  range = record {
    graded = λ k e. let z = marked k e in let l : grade_of g k ≤ 2 = omega (arith, z) in l;
    others = λ k e. at k ∙ ap first_grade e;
    places = λ p. let z = zeros p in let l : place_grade g p ≤ 2 = omega (arith, z) in l;
  };
  below = below;
}
  where
    at : (k : ℕ) → grade_of g k ≡ first_grade (get_or marks k false)
    at k = ap (λ ns. get_or ns k 3) occs ∙ first_at marks k

    marked : (k : ℕ) → get_or marks k false ≡ true → grade_of g k ≡ 0
    marked k e = at k ∙ ap first_grade e

    below : (node : Node) → grade_at g node ≤ given f marks g node
    below (Place p) = let z = zeros p in omega (arith, z)
    below (Occ k) = by_mark (get_or marks k false) refl
      where
        by_mark : (b : Bool) → get_or marks k false ≡ b → grade_at g (Occ k) ≤ given f marks g (Occ k)
        by_mark true e = let z = marked k e in omega (arith, z)
        by_mark false e = let z = at k ∙ ap first_grade e in let same = given_other f marks g k e in omega (arith, z, same)

-- with all nodes on the list
pub all_settled : (f : FlatForm) (marks : List Bool) (g : Grading) (waiting : List Node) → length marks ≡ length f.occs → IsBelow f marks g → HasAll (length f.occs) (length f.places) waiting
    → AreSettled f marks g waiting
all_settled f marks g waiting size b all (Occ k) not = by_place (cases_lt k (length f.occs))
  where
    by_place : (k < length f.occs) ⊎ (length f.occs ≤ k) → given f marks g (Occ k) ≤ grade_of g k
    by_place (inl l) = absurd (not (all.of_occs k l))
    by_place (inr past) =
        let e : get_or marks k false ≡ false = get_or_past marks k false (omega (arith, past, size)) in
        let same = given_other f marks g k e in
        let now = b.range.others k e in
        omega (arith, same, now)
all_settled f marks g waiting size b all (Place p) not =
    ⊎_elim (λ there. absurd (not (all.of_places p there.1)))
    (λ past. let none : given f marks g (Place p) ≡ 0 = ap (λ o. given_place g o) past.1 in let l : given f marks g (Place p) ≤ place_grade g p = omega (arith, none) in l)
    (slice_get_cases f.places p).1

-- when no node has to rise, the table is that of the form
pub settled_grades : (f : FlatForm) (marks : List Bool) (g : Grading) → AreMarks f marks → IsBelow f marks g → AreSettled f marks g [] → AreGrades f g
settled_grades f marks g m b settled = record {
  occs_length = b.occs_length;
  places_length = b.places_length;
  graded = λ k occ is gr. exact (Occ k) ∙ ap (λ t. given_occ g t (slice_get f.occs k)) (graded_marked f marks m k gr) ∙ ap (λ o. given_occ g true o) is;
  others = λ k not. b.range.others k (unmarked f marks m k not);
  places = λ p place is. exact (Place p) ∙ ap (λ o. given_place g o) is;
}
  where
    exact : (node : Node) → grade_at g node ≡ given f marks g node
    exact node = let low = b.below node in let high = settled node (has-none node) in omega (arith, low, high)

-- the list without its last node, of which nothing is known
pub settled_others : (f : FlatForm) (marks : List Bool) (g : Grading) (items rest : List Node) (x : Node) → items ≡ rest ++ x ∷ [] → AreSettled f marks g items
    → (m : Node) → (m ≡ x → ⊥) → (Has rest m → ⊥) → given f marks g m ≤ grade_at g m
settled_others f marks g items rest x same settled m ne not = settled m (λ has. by_list (has-append_case rest (x ∷ []) m (subst (λ ns. Has ns m) same has)))
  where
    by_list : Has rest m ⊎ Has (x ∷ []) m → ⊥
    by_list (inl h) = not h
    by_list (inr h) = has-cases ⊥ x [] m h (λ e. ne (sym e)) (λ n. has-none m n)

-- or that it hasn't to rise
pub settled_rest : (f : FlatForm) (marks : List Bool) (g : Grading) (items rest : List Node) (x : Node) → items ≡ rest ++ x ∷ [] → AreSettled f marks g items
    → given f marks g x ≤ grade_at g x → AreSettled f marks g rest
settled_rest f marks g items rest x same settled low m not = by_node (node_tells m x)
  where
    by_node : (m ≡ x) ⊎ (m ≡ x → ⊥) → given f marks g m ≤ grade_at g m
    by_node (inl e) = subst (λ n. given f marks g n ≤ grade_at g n) (sym e) low
    by_node (inr ne) = settled_others f marks g items rest x same settled m ne not

-- occurrences, and then places
pub all_numbers : (occs places : ℕ) (start mid end : List Node) → HasNumbers Occ occs start mid → HasNumbers Place places mid end → HasAll occs places end
all_numbers occs places start mid end a b = record { of_occs = λ k l. b.kept (Occ k) (a.all k l); of_places = b.all }
