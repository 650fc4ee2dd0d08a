-- The marks of occurrences tell which are graded.
use Rattle.std.proofs.Common.{◌≡◌, ◌≢◌, ◌⊎◌, inl, inr, ℕ, zero, suc, ◌+◌, ◌<◌, Bool, true, false, nat_eq, ◌&&◌, not, List, [], ◌∷◌, ◌++◌, length, slice_get, Some, refl, sym, ap, ◌∙◌, subst, arith, length-append}
use Rattle.std.proofs.lemmas.Bool.Decides.{eqb_tells}
use Rattle.std.proofs.lemmas.Option.{slice_get_within}
use Rattle.zl_meaning.specs.FlatForm.{FlatForm}
use Rattle.zl_meaning.specs.Grades.{IsGraded}
use Rattle.zl_meaning.specs.Regular.{is_hybrid_in, is_value}
use Rattle.zl_meaning.specs.declared.block.Block.{Block}
use Rattle.zl_meaning.specs.declared.occurrence.Occ.{Occ}
use Rattle.zl_grade.specs.Marks.{mark_of, AreMarks, HasMarks}
use Rattle.zl_meaning.specs.Copies.{IsApart, InStart, InReset}
use Rattle.zl_grade.specs.Apart.{AreApart}

get-left : (xs ys : List Bool) (i : ℕ) (x : Bool) → slice_get xs i ≡ Some x → slice_get (xs ++ ys) i ≡ Some x
get-left [] ys i x e = absurd (cc)
get-left (y ∷ xs) ys zero x e = e
get-left (y ∷ xs) ys (suc i) x e = get-left xs ys i x e

get-push : (xs : List Bool) (x : Bool) → slice_get (xs ++ x ∷ []) (length xs) ≡ Some x
get-push [] x = refl
get-push (y ∷ xs) x = get-push xs x

get-inside : {X : Type 0} (xs : List X) (i : ℕ) → i < length xs → (x : X) × (slice_get xs i ≡ Some x)
get-inside [] i low = absurd (omega arith)
get-inside (x ∷ xs) zero low = (x, refl)
get-inside (x ∷ xs) (suc i) low = get-inside xs i (omega arith)

module _ (blocks : List Block) (occs : List Occ) (apart : List Bool) where
  pub marks_none : HasMarks blocks occs apart 0 []
  marks_none = record { size = refl; each = λ k occ is_apart l. absurd (omega arith) }

  -- one mark more
  pub marks_more : (n : ℕ) (marks : List Bool) (occ : Occ) (is_apart : Bool) → slice_get occs n ≡ Some occ → slice_get apart n ≡ Some is_apart → HasMarks blocks occs apart n marks
      → HasMarks blocks occs apart (n + 1) (marks ++ mark_of blocks occ is_apart ∷ [])
  marks_more n marks occ is_apart at mark h = record {
    size = omega (arith, h.size, length-append marks (mark_of blocks occ is_apart ∷ []));
    each = λ k other a l is marked. by_number k other a (eqb_tells k n) l is marked;
  }
    where
      by_number : (k : ℕ) (other : Occ) (a : Bool) → ((nat_eq k n ≡ true) × (k ≡ n)) ⊎ ((nat_eq k n ≡ false) × (k ≢ n)) → k < n + 1 → slice_get occs k ≡ Some other → slice_get apart k ≡ Some a
          → slice_get (marks ++ mark_of blocks occ is_apart ∷ []) k ≡ Some (mark_of blocks other a)
      by_number k other a (inl same) l is marked =
          let here : slice_get occs n ≡ Some other = subst (λ j. slice_get occs j ≡ Some other) same.1 is in
          let there : slice_get apart n ≡ Some a = subst (λ j. slice_get apart j ≡ Some a) same.1 marked in
          let occ_is : occ ≡ other = cc in
          let apart_is : is_apart ≡ a = cc in
          ap (λ j. slice_get (marks ++ mark_of blocks occ is_apart ∷ []) j) (same.1 ∙ sym h.size) ∙ get-push marks (mark_of blocks occ is_apart)
          ∙ ap (λ (o : Occ). Some (mark_of blocks o is_apart)) occ_is ∙ ap (λ b. Some (mark_of blocks other b)) apart_is
      by_number k other a (inr ne) l is marked = get-left marks (mark_of blocks occ is_apart ∷ []) k (mark_of blocks other a) (h.each k other a (omega (arith, ne.1)) is marked)

-- all three hold
all_hold : (hybrid value is_apart : Bool) → hybrid && value && not is_apart ≡ true → (hybrid ≡ true) × (value ≡ true) × (is_apart ≡ false)
all_hold true true false e = (refl, refl, refl)
all_hold true true true e = absurd (cc)
all_hold true false is_apart e = absurd (cc)
all_hold false value is_apart e = absurd (cc)

module _ (f : FlatForm) (apart : List Bool) (known : AreApart f apart) (marks : List Bool) (h : HasMarks f.blocks f.occs apart (length f.occs) marks) where
  mark_is : (k : ℕ) (occ : Occ) (mark : Bool) → slice_get f.occs k ≡ Some occ → slice_get marks k ≡ Some mark → (is_apart : Bool) × (slice_get apart k ≡ Some is_apart) × (mark_of f.blocks occ is_apart ≡ mark)
  mark_is k occ mark is at =
      let low = slice_get_within f.occs k occ is in
      let is_apart = get-inside apart k (omega (arith, low, known.size)) in
      let told = h.each k occ is_apart.0 low is is_apart.1 in
      (is_apart.0, is_apart.1, (cc))

  -- what is graded stands under no such value
  graded_not : (k : ℕ) → IsGraded f k → IsApart f k → ⊥
  graded_not k g (InStart call b under) = g.start call b under
  graded_not k g (InReset call events arm under) = g.reset call events arm under

  pub are_marks : AreMarks f marks
  are_marks = record {
    size = h.size;
    graded = λ k e.
        let there = get-inside f.occs k (omega (arith, slice_get_within marks k true e, h.size)) in
        let mark = mark_is k there.0 true there.1 e in
        let hold = all_hold (is_hybrid_in (slice_get f.blocks there.0.block)) (is_value there.0.form) mark.0 mark.2 in
        let not_apart : slice_get apart k ≡ Some false = mark.1 ∙ ap (λ b. Some b) hold.2 in
        record {
          occ = there.0;
          is = there.1;
          hybrid = hold.0;
          value = hold.1;
          start = λ call b u. known.others k not_apart (InStart call b u);
          reset = λ call events arm u. known.others k not_apart (InReset call events arm u);
        };
    others = λ k e g. let mark = mark_is k g.occ false g.is e in by_mark k g e mark.0 mark.1 mark.2;
  }
    where
      by_mark : (k : ℕ) (g : IsGraded f k) → slice_get marks k ≡ Some false → (is_apart : Bool) → slice_get apart k ≡ Some is_apart → mark_of f.blocks g.occ is_apart ≡ false → ⊥
      by_mark k g e true at mark = graded_not k g (known.sound k at)
      by_mark k g e false at mark =
          let both : mark_of f.blocks g.occ false ≡ true = ap (λ b. b && is_value g.occ.form && not false) g.hybrid ∙ ap (λ b. true && b && not false) g.value in
          cc
