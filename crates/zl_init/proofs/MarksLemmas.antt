-- Properties of marks.
use Rattle.std.proofs.Common.{◌≡◌, ℕ, suc, ◌+◌, ◌<◌, length, take, drop, get_or, drop-cons, Bool, true, false, cond, nat_eq, ◌&&◌, ◌⊎◌, inl, inr, List, [], ◌∷◌, ◌++◌, Option, Some, None, is_some, refl, sym, ◌∙◌, ap, subst, arith, append_assoc}
use Rattle.std.specs.Map.{lookup}
use Rattle.std.specs.List.{AllByRecursion}
use Rattle.std.proofs.lemmas.List.{append-nil, take_more, take-append-drop}
use Rattle.std.proofs.lemmas.Bool.Decides.{nat_tests}
use Rattle.indexmap.specs.IndexMap.{insert_entry}
use Rattle.zl_value.specs.declared.position.Pos.{Pos}
use Rattle.zl_ast.specs.Levels.{late, Levels}
use Rattle.zl_init.specs.declared.marks.Mark.{Mark}
use Rattle.zl_init.specs.declared.marks.Mark.TheVariants as mark
use Rattle.zl_init.specs.Marks.{key, is_key, Known, mark_at, with_mark, level_of, is_mark, Agree, AreLate, Late, Grows, MadeLate}

-- ---- keys

same_numbers : (a b c d : ℕ) → (nat_eq a b && nat_eq c d) ≡ true → (a ≡ b) × (c ≡ d)
same_numbers a b c d h = (grind (arith, nat_tests), grind (arith, nat_tests))

pub key_tells : (p q : Pos) → is_key (key p) (key q) ≡ true → p ≡ q
key_tells p q h =
    let same = same_numbers p.line q.line p.column q.column h in
    ap (λ (n : ℕ). record { line = n; column = p.column }) same.0 ∙ ap (λ (n : ℕ). record { line = q.line; column = n }) same.1

-- ---- look-ups

module _ {K X : Type 0} (test : K → Bool) where
  pub lookup-kept : (xs ys : List (K × X)) (x : X) → lookup test xs ≡ Some x → lookup test (xs ++ ys) ≡ Some x
  lookup-kept [] ys x h = absurd (cc)
  lookup-kept (e ∷ xs) ys x h = by_test (test e.0) (lookup-kept xs ys x) h
    where
      by_test : (b : Bool) → (lookup test xs ≡ Some x → lookup test (xs ++ ys) ≡ Some x) → cond b (Some e.1) (lookup test xs) ≡ Some x → cond b (Some e.1) (lookup test (xs ++ ys)) ≡ Some x
      by_test true rest h = h
      by_test false rest h = rest h

  pub lookup-missing : (xs ys : List (K × X)) → lookup test xs ≡ None → lookup test (xs ++ ys) ≡ lookup test ys
  lookup-missing [] ys h = refl
  lookup-missing (e ∷ xs) ys h = by_test (test e.0) (lookup-missing xs ys) h
    where
      by_test : (b : Bool) → (lookup test xs ≡ None → lookup test (xs ++ ys) ≡ lookup test ys) → cond b (Some e.1) (lookup test xs) ≡ None → cond b (Some e.1) (lookup test (xs ++ ys)) ≡ lookup test ys
      by_test true rest h = absurd (cc)
      by_test false rest h = rest h

pub insert_missing : (ms : Known) (k : ℕ × ℕ) (m : Mark) → lookup (is_key k) ms ≡ None → insert_entry is_key ms k m ≡ ms ++ (k, m) ∷ []
insert_missing [] k m h = refl
insert_missing (e ∷ ms) k m h = by_test (is_key k e.0) (insert_missing ms k m) h
  where
    by_test : (b : Bool) → (lookup (is_key k) ms ≡ None → insert_entry is_key ms k m ≡ ms ++ (k, m) ∷ []) → cond b (Some e.1) (lookup (is_key k) ms) ≡ None → cond b ((e.0, m) ∷ ms) (e ∷ insert_entry is_key ms k m) ≡ e ∷ (ms ++ (k, m) ∷ [])
    by_test true rest h = absurd (cc)
    by_test false rest h = ap (λ es. e ∷ es) (rest h)

-- what the table has after an insert at a place without a mark
pub inserting : (ms : Known) (p : Pos) (m : Mark) → mark_at ms p ≡ None → insert_entry is_key ms (key p) m ≡ with_mark ms p m
inserting ms p m h = insert_missing ms (key p) m h ∙ sym (ap (λ (o : Option Mark). cond (is_some o) ms (ms ++ (key p, m) ∷ [])) h)

-- ---- a mark more

marked_new : (ms : Known) (p : Pos) (m : Mark) (q : Pos) (n : Mark) → mark_at ms p ≡ None → mark_at (ms ++ (key p, m) ∷ []) q ≡ Some n → (mark_at ms q ≡ Some n) ⊎ ((q ≡ p) × (m ≡ n))
marked_new ms p m q n h g = by_mark (mark_at ms q) refl
  where
    by_test : (b : Bool) → is_key (key q) (key p) ≡ b → cond b (Some m) None ≡ Some n → (q ≡ p) × (m ≡ n)
    by_test true e g = (key_tells q p e, cc)
    by_test false e g = absurd (cc)

    by_mark : (o : Option Mark) → mark_at ms q ≡ o → (mark_at ms q ≡ Some n) ⊎ ((q ≡ p) × (m ≡ n))
    by_mark (Some k) e = inl (e ∙ sym (lookup-kept (is_key (key q)) ms ((key p, m) ∷ []) k e) ∙ g)
    by_mark None e = inr (by_test (is_key (key q) (key p)) refl (sym (lookup-missing (is_key (key q)) ms ((key p, m) ∷ []) e) ∙ g))

pub key_same : (p : Pos) → is_key (key p) (key p) ≡ true
key_same p = same_numbers_true p.line p.column
  where
    same_numbers_true : (a b : ℕ) → (nat_eq a a && nat_eq b b) ≡ true
    same_numbers_true a b = grind (arith, nat_tests)

-- what becomes of the marks, by what there was at the place
module _ (ms : Known) (p : Pos) (m : Mark) where
  with_mark_there : (n : Mark) → mark_at ms p ≡ Some n → with_mark ms p m ≡ ms
  with_mark_there n h = ap (λ (o : Option Mark). cond (is_some o) ms (ms ++ (key p, m) ∷ [])) h

  with_mark_new : mark_at ms p ≡ None → with_mark ms p m ≡ ms ++ (key p, m) ∷ []
  with_mark_new h = ap (λ (o : Option Mark). cond (is_some o) ms (ms ++ (key p, m) ∷ [])) h

  new_mark : mark_at ms p ≡ None → mark_at (with_mark ms p m) p ≡ Some m
  new_mark h = ap (λ (es : Known). mark_at es p) (with_mark_new h) ∙ lookup-missing (is_key (key p)) ms ((key p, m) ∷ []) h ∙ ap (λ b. cond b (Some m) None) (key_same p)

  pub with_mark_grows : Grows ms (with_mark ms p m)
  with_mark_grows = by_mark (mark_at ms p) refl
    where
      by_mark : (o : Option Mark) → mark_at ms p ≡ o → Grows ms (with_mark ms p m)
      by_mark (Some n) e = record { more = []; is = with_mark_there n e ∙ sym (append-nil ms) }
      by_mark None e = record { more = (key p, m) ∷ []; is = with_mark_new e }

  -- levels that are as the marks say, and as the new one does
  pub with_mark_agree : (levels : Levels) → Agree ms levels → levels p ≡ level_of m → Agree (with_mark ms p m) levels
  with_mark_agree levels agree here = by_mark (mark_at ms p) refl
    where
      at_new : (q : Pos) (n : Mark) → (mark_at ms q ≡ Some n) ⊎ ((q ≡ p) × (m ≡ n)) → levels q ≡ level_of n
      at_new q n (inl e) = agree q n e
      at_new q n (inr e) = ap levels e.0 ∙ here ∙ ap level_of e.1

      by_mark : (o : Option Mark) → mark_at ms p ≡ o → Agree (with_mark ms p m) levels
      by_mark (Some n) e = subst (λ (es : Known). Agree es levels) (sym (with_mark_there n e)) agree
      by_mark None e = subst (λ (es : Known). Agree es levels) (sym (with_mark_new e)) (λ q n g. at_new q n (marked_new ms p m q n e g))

pub is_mark_tells : (o : Option Mark) (m : Mark) → is_mark o m ≡ true → o ≡ Some m
is_mark_tells (Some mark.Early) mark.Early h = refl
is_mark_tells (Some mark.Late) mark.Late h = refl
is_mark_tells (Some mark.Early) mark.Late h = absurd (cc)
is_mark_tells (Some mark.Late) mark.Early h = absurd (cc)
is_mark_tells None m h = absurd (no_mark m h)
  where
    no_mark : (m : Mark) → is_mark None m ≡ true → ⊥
    no_mark mark.Early h = cc
    no_mark mark.Late h = cc

pub marked_at : (ms : Known) (p : Pos) (m : Mark) → is_mark (mark_at (with_mark ms p m) p) m ≡ true → mark_at (with_mark ms p m) p ≡ Some m
marked_at ms p m h = is_mark_tells (mark_at (with_mark ms p m) p) m h

is_mark_same : (m : Mark) → is_mark (Some m) m ≡ true
is_mark_same mark.Early = refl
is_mark_same mark.Late = refl

other_level : (n m : Mark) → is_mark (Some n) m ≡ false → level_of n ≡ level_of m → ⊥
other_level mark.Early mark.Early h e = cc
other_level mark.Late mark.Late h e = cc
other_level mark.Early mark.Late h e = cc
other_level mark.Late mark.Early h e = cc

-- a place that was given another mark before
pub mark_refused : (ms : Known) (p : Pos) (m : Mark) → is_mark (mark_at (with_mark ms p m) p) m ≡ false → (levels : Levels) → Agree ms levels → levels p ≡ level_of m → ⊥
mark_refused ms p m h levels agree here = by_mark (mark_at ms p) refl
  where
    by_mark : (o : Option Mark) → mark_at ms p ≡ o → ⊥
    by_mark (Some n) e =
        let there : is_mark (Some n) m ≡ false = ap (λ (o : Option Mark). is_mark o m) (sym (ap (λ (es : Known). mark_at es p) (with_mark_there ms p m n e) ∙ e)) ∙ h in
        other_level n m there (sym (agree p n e) ∙ here)
    by_mark None e =
        let is : true ≡ false = sym (is_mark_same m) ∙ ap (λ (o : Option Mark). is_mark o m) (sym (new_mark ms p m e)) ∙ h in
        cc

-- ---- growth

pub grows_mark : (old new : Known) (p : Pos) (m : Mark) → Grows old new → mark_at old p ≡ Some m → mark_at new p ≡ Some m
grows_mark old new p m g h = ap (λ (es : Known). mark_at es p) g.is ∙ lookup-kept (is_key (key p)) old g.more m h

pub grows_none : (ms : Known) → Grows ms ms
grows_none ms = record { more = []; is = sym (append-nil ms) }

pub grows_on : (a b c : Known) → Grows a b → Grows b c → Grows a c
grows_on a b c g h = record { more = g.more ++ h.more; is = h.is ∙ ap (λ es. es ++ h.more) g.is ∙ append_assoc a g.more h.more }

pub grows_late : (old new : Known) (ps : List Pos) → Grows old new → AreLate old ps → AreLate new ps
grows_late old new [] g h = tt
grows_late old new (p ∷ ps) g h = (grows_mark old new p mark.Late g h.0, grows_late old new ps g h.1)

pub grows_agree : (old new : Known) (levels : Levels) → Grows old new → Agree new levels → Agree old levels
grows_agree old new levels g agree p m h = agree p m (grows_mark old new p m g h)

-- ---- places made late one after another

module _ {X : Type 0} (P : X → Type 0) where
  pub all_more : (xs : List X) (x : X) → AllByRecursion P xs → P x → AllByRecursion P (xs ++ x ∷ [])
  all_more [] x h here = (here, tt)
  all_more (y ∷ xs) x h here = (h.0, all_more xs x h.1 here)

  pub all_front : (xs ys : List X) → AllByRecursion P (xs ++ ys) → AllByRecursion P xs
  all_front [] ys h = tt
  all_front (x ∷ xs) ys h = (h.0, all_front xs ys h.1)

  pub all_back : (xs ys : List X) → AllByRecursion P (xs ++ ys) → AllByRecursion P ys
  all_back [] ys h = h
  all_back (x ∷ xs) ys h = all_back xs ys h.1

pub made_more : (done : List Pos) (p : Pos) (old mid : Known) → MadeLate done old mid → is_mark (mark_at (with_mark mid p mark.Late) p) mark.Late ≡ true → MadeLate (done ++ p ∷ []) old (with_mark mid p mark.Late)
made_more done p old mid made fits =
    let new = with_mark mid p mark.Late in
    let grown = with_mark_grows mid p mark.Late in
    record {
      grows = grows_on old mid new made.grows grown;
      late = all_more (λ q. mark_at new q ≡ Some mark.Late) done p (grows_late mid new done grown made.late) (marked_at mid p mark.Late fits);
      no_more = λ levels agree all. with_mark_agree mid p mark.Late levels (made.no_more levels agree (all_front (λ q. levels q ≡ late) done (p ∷ []) all)) (all_back (λ q. levels q ≡ late) done (p ∷ []) all).0;
    }

pub made_refused : (done : List Pos) (p : Pos) (behind : List Pos) (old mid : Known) → MadeLate done old mid → is_mark (mark_at (with_mark mid p mark.Late) p) mark.Late ≡ false → (levels : Levels) → Agree old levels → Late levels (done ++ p ∷ behind) → ⊥
made_refused done p behind old mid made refused levels agree all = mark_refused mid p mark.Late refused levels (made.no_more levels agree (all_front (λ q. levels q ≡ late) done (p ∷ behind) all)) (all_back (λ q. levels q ≡ late) done (p ∷ behind) all).0

pub made_step : (ps : List Pos) (i : ℕ) (d : Pos) (old mid new : Known) → i < length ps → MadeLate (take i ps) old mid → new ≡ with_mark mid (get_or ps i d) mark.Late → is_mark (mark_at new (get_or ps i d)) mark.Late ≡ true → MadeLate (take (i + 1) ps) old new
made_step ps i d old mid new h made is fits =
    let p = get_or ps i d in
    let fits_here = ap (λ (es : Known). is_mark (mark_at es p) mark.Late) (sym is) ∙ fits in
    subst (λ (done : List Pos). MadeLate done old new) (sym (take_more ps i d h))
    (subst (λ (es : Known). MadeLate (take i ps ++ p ∷ []) old es) (sym is) (made_more (take i ps) p old mid made fits_here))

pub refused_step : (ps : List Pos) (i : ℕ) (d : Pos) (old mid new : Known) → i < length ps → MadeLate (take i ps) old mid → new ≡ with_mark mid (get_or ps i d) mark.Late → is_mark (mark_at new (get_or ps i d)) mark.Late ≡ false → (levels : Levels) → Agree old levels → Late levels ps → ⊥
refused_step ps i d old mid new h made is refused levels agree all =
    let p = get_or ps i d in
    let refused_here = ap (λ (es : Known). is_mark (mark_at es p) mark.Late) (sym is) ∙ refused in
    let parts : ps ≡ take i ps ++ p ∷ drop (suc i) ps = sym (take-append-drop i ps) ∙ ap (λ (xs : List Pos). take i ps ++ xs) (drop-cons ps i d h) in
    made_refused (take i ps) p (drop (suc i) ps) old mid made refused_here levels agree (subst (λ (xs : List Pos). Late levels xs) parts all)
