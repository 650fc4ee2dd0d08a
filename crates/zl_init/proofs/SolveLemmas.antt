-- How a solver goes on from one constraint to the next.
use Rattle.std.proofs.Common.{◌≡◌, ℕ, ◌+◌, ◌<◌, ◌≤◌, Bool, true, false, cond, ◌⊎◌, inl, inr, List, [], ◌∷◌, ◌++◌, length, take, drop, get_or, Option, Some, None, slice_get, Result, Ok, Err, IfOk, OnOk, suc, drop-cons, refl, sym, ◌∙◌, ap, subst, arith, length-append}
use Rattle.std.specs.Map.{lookup}
use Rattle.std.specs.List.{AllByRecursion}
use Rattle.std.proofs.lemmas.List.{take_more, take-append-drop, take-append-le, take_all}
use Rattle.std.proofs.lemmas.Option.{slice_get-get_or}
use Rattle.zl_value.specs.declared.position.Pos.{Pos}
use Rattle.zl_ast.specs.declared.constraint.Requirement.{Requirement}
use Rattle.zl_ast.specs.Levels.{Level, early, late, Levels, Meets, Allow, IsUnmet, HasLevels}
use Rattle.zl_init.specs.declared.marks.Mark.{Mark}
use Rattle.zl_init.specs.declared.marks.Mark.TheVariants as mark
use Rattle.zl_init.specs.declared.followers.Followers.{Followers}
use Rattle.zl_init.specs.declared.solve.Solver.{Solver}
use Rattle.zl_init.specs.Marks.{key, is_key, Known, mark_at, with_mark, level_of, is_mark, late_place, Agree, AreLate, Late, Grows, MadeLate, followers_at, with_follower}
use Rattle.zl_init.specs.Solve.{Allows, IsSpread, IsSettled, Narrows, Excludes, Anything, Knows}
use Rattle.zl_init.proofs.MarksLemmas.{key_tells, key_same, is_mark_tells, lookup-kept, lookup-missing, with_mark_grows, with_mark_agree, marked_at, mark_refused, grows_none, grows_late, grows_agree, all_more, all_front, all_back}

-- ---- what is spread stays so

-- the first marks stay the first ones
first_marks : (old new : Known) (n : ℕ) → n ≤ length old → Grows old new → take n new ≡ take n old
first_marks old new n within g = ap (take n) g.is ∙ take-append-le n old g.more within

within_more : (old new : Known) (n : ℕ) → n ≤ length old → Grows old new → n ≤ length new
within_more old new n within g = omega (arith, ap length g.is, length-append old g.more)

-- one of the first marks is a mark
mark_of_first : (ms : Known) (n : ℕ) (p : Pos) (m : Mark) → mark_at (take n ms) p ≡ Some m → mark_at ms p ≡ Some m
mark_of_first ms n p m h = ap (λ (es : Known). mark_at es p) (sym (take-append-drop n ms)) ∙ lookup-kept (is_key (key p)) (take n ms) (drop n ms) m h

-- ---- a level that is asked for

module _ (old new : Solver) (node : Pos) (m : Mark) where
  pub ask_fits : IsSpread old → new.marks ≡ with_mark old.marks node m → new.followers ≡ old.followers → new.spread ≡ old.spread → is_mark (mark_at new.marks node) m ≡ true → Narrows (λ levels. levels node ≡ level_of m) old new
  ask_fits spread marks followers count fits =
      let grows : Grows old.marks new.marks = subst (λ (es : Known). Grows old.marks es) (sym marks) (with_mark_grows old.marks node m) in
      let here : mark_at new.marks node ≡ Some m = ap (λ (es : Known). mark_at es node) marks ∙ marked_at old.marks node m (ap (λ (es : Known). is_mark (mark_at es node) m) (sym marks) ∙ fits) in
      record {
        allowed = λ levels a level. record {
          marks = subst (λ (es : Known). Agree es levels) (sym marks) (with_mark_agree old.marks node m levels a.marks level);
          followers = λ q is_late. subst (λ (f : Followers). Late levels (followers_at f q)) (sym followers) (a.followers q is_late);
        };
        kept = λ levels a. record {
          marks = grows_agree old.marks new.marks levels grows a.marks;
          followers = λ q is_late. subst (λ (f : Followers). Late levels (followers_at f q)) followers (a.followers q is_late);
        };
        condition = λ levels a. a.marks node m here;
        spread = record {
          within = subst (λ (n : ℕ). n ≤ length new.marks) (sym count) (within_more old.marks new.marks old.spread spread.within grows);
          each = λ q first.
              let first_old : mark_at (take old.spread old.marks) q ≡ Some mark.Late = ap (λ (es : Known). mark_at es q) (sym (ap (λ (n : ℕ). take n new.marks) count ∙ first_marks old.marks new.marks old.spread spread.within grows)) ∙ first in
              subst (λ (f : Followers). AreLate new.marks (followers_at f q)) (sym followers) (grows_late old.marks new.marks (followers_at old.followers q) grows (spread.each q first_old));
        };
      }

  pub ask_refused : new.marks ≡ with_mark old.marks node m → is_mark (mark_at new.marks node) m ≡ false → Excludes (λ levels. levels node ≡ level_of m) old
  ask_refused marks refused levels a level = mark_refused old.marks node m (ap (λ (es : Known). is_mark (mark_at es node) m) (sym marks) ∙ refused) levels a.marks level

-- ---- one that is to be late where the leader is

module _ (old new : Solver) (leader node : Pos) where
  abbrev Follows : Levels → Type 0
  Follows levels = levels leader ≡ late → levels node ≡ late

  -- each table of followers grows, and the leader's by this one
  late_before : (levels : Levels) → ((q : Pos) → followers_at new.followers q ≡ with_follower old.followers leader node q) → (q : Pos) → Late levels (followers_at new.followers q) → Late levels (followers_at old.followers q)
  late_before levels followers q all = by_test (is_key (key leader) (key q)) refl (subst (λ (ps : List Pos). Late levels ps) (followers q) all)
    where
      by_test : (b : Bool) → is_key (key leader) (key q) ≡ b → Late levels (cond b (followers_at old.followers leader ++ node ∷ []) (followers_at old.followers q)) → Late levels (followers_at old.followers q)
      by_test true e all = subst (λ (p : Pos). Late levels (followers_at old.followers p)) (key_tells leader q e) (all_front (λ p. levels p ≡ late) (followers_at old.followers leader) (node ∷ []) all)
      by_test false e all = all

  late_after : (P : Pos → Type 0) → ((q : Pos) → followers_at new.followers q ≡ with_follower old.followers leader node q) → (q : Pos) → AllByRecursion P (followers_at old.followers q) → (q ≡ leader → P node) → AllByRecursion P (followers_at new.followers q)
  late_after P followers q all here = subst (λ (ps : List Pos). AllByRecursion P ps) (sym (followers q)) (by_test (is_key (key leader) (key q)) refl)
    where
      by_test : (b : Bool) → is_key (key leader) (key q) ≡ b → AllByRecursion P (cond b (followers_at old.followers leader ++ node ∷ []) (followers_at old.followers q))
      by_test true e = all_more P (followers_at old.followers leader) node (subst (λ (p : Pos). AllByRecursion P (followers_at old.followers p)) (sym (key_tells leader q e)) all) (here (sym (key_tells leader q e)))
      by_test false e = all

  late_node : (levels : Levels) → ((q : Pos) → followers_at new.followers q ≡ with_follower old.followers leader node q) → Late levels (followers_at new.followers leader) → levels node ≡ late
  late_node levels followers all =
      let is : followers_at new.followers leader ≡ followers_at old.followers leader ++ node ∷ [] = followers leader ∙ ap (λ b. cond b (followers_at old.followers leader ++ node ∷ []) (followers_at old.followers leader)) (key_same leader) in
      (all_back (λ p. levels p ≡ late) (followers_at old.followers leader) (node ∷ []) (subst (λ (ps : List Pos). Late levels ps) is all)).0

  follow_narrows : IsSpread old → ((q : Pos) → followers_at new.followers q ≡ with_follower old.followers leader node q) → Grows old.marks new.marks → new.spread ≡ old.spread
      → ((levels : Levels) → Allows old levels → Follows levels → Agree new.marks levels)
      → (mark_at old.marks leader ≡ Some mark.Late → mark_at new.marks node ≡ Some mark.Late)
      → Narrows Follows old new
  follow_narrows spread followers grows count agree done =
      record {
        allowed = λ levels a follows. record {
          marks = agree levels a follows;
          followers = λ q is_late. late_after (λ p. levels p ≡ late) followers q (a.followers q is_late) (λ e. follows (ap levels (sym e) ∙ is_late));
        };
        kept = λ levels a. record {
          marks = grows_agree old.marks new.marks levels grows a.marks;
          followers = λ q is_late. late_before levels followers q (a.followers q is_late);
        };
        condition = λ levels a is_late. late_node levels followers (a.followers leader is_late);
        spread = record {
          within = subst (λ (n : ℕ). n ≤ length new.marks) (sym count) (within_more old.marks new.marks old.spread spread.within grows);
          each = λ q first.
              let first_old : mark_at (take old.spread old.marks) q ≡ Some mark.Late = ap (λ (es : Known). mark_at es q) (sym (ap (λ (n : ℕ). take n new.marks) count ∙ first_marks old.marks new.marks old.spread spread.within grows)) ∙ first in
              late_after (λ p. mark_at new.marks p ≡ Some mark.Late) followers q (grows_late old.marks new.marks (followers_at old.followers q) grows (spread.each q first_old))
              (λ e. done (ap (λ (p : Pos). mark_at old.marks p) (sym e) ∙ mark_of_first old.marks old.spread q mark.Late first_old));
        };
      }

  -- the leader is late already
  pub follow_late : IsSpread old → ((q : Pos) → followers_at new.followers q ≡ with_follower old.followers leader node q) → is_mark (mark_at old.marks leader) mark.Late ≡ true → new.marks ≡ with_mark old.marks node mark.Late → new.spread ≡ old.spread → is_mark (mark_at new.marks node) mark.Late ≡ true → Narrows Follows old new
  follow_late spread followers leading marks count fits =
      follow_narrows spread followers
      (subst (λ (es : Known). Grows old.marks es) (sym marks) (with_mark_grows old.marks node mark.Late)) count
      (λ levels a follows. subst (λ (es : Known). Agree es levels) (sym marks) (with_mark_agree old.marks node mark.Late levels a.marks (follows (a.marks leader mark.Late (is_mark_tells (mark_at old.marks leader) mark.Late leading)))))
      (λ _. ap (λ (es : Known). mark_at es node) marks ∙ marked_at old.marks node mark.Late (ap (λ (es : Known). is_mark (mark_at es node) mark.Late) (sym marks) ∙ fits))

  pub follow_refused : is_mark (mark_at old.marks leader) mark.Late ≡ true → new.marks ≡ with_mark old.marks node mark.Late → is_mark (mark_at new.marks node) mark.Late ≡ false → Excludes Follows old
  follow_refused leading marks refused levels a follows = mark_refused old.marks node mark.Late (ap (λ (es : Known). is_mark (mark_at es node) mark.Late) (sym marks) ∙ refused) levels a.marks (follows (a.marks leader mark.Late (is_mark_tells (mark_at old.marks leader) mark.Late leading)))

  -- the leader isn't late so far
  pub follow_open : IsSpread old → ((q : Pos) → followers_at new.followers q ≡ with_follower old.followers leader node q) → is_mark (mark_at old.marks leader) mark.Late ≡ false → new.marks ≡ old.marks → new.spread ≡ old.spread → Narrows Follows old new
  follow_open spread followers not_late marks count =
      follow_narrows spread followers
      (subst (λ (es : Known). Grows old.marks es) (sym marks) (grows_none old.marks)) count
      (λ levels a follows. subst (λ (es : Known). Agree es levels) (sym marks) a.marks)
      (λ leading. absurd (both_ways leading))
    where
      both_ways : mark_at old.marks leader ≡ Some mark.Late → ⊥
      both_ways leading =
          let is : is_mark (Some mark.Late) mark.Late ≡ false = ap (λ (o : Option Mark). is_mark o mark.Late) (sym leading) ∙ not_late in
          cc

-- ---- the followers of the next mark

late_entry : (e : (ℕ × ℕ) × Mark) (q : Pos) → lookup (is_key (key q)) (e ∷ []) ≡ Some mark.Late → late_place (Some e) ≡ Some q
late_entry e q h = by_test (is_key (key q) e.0) refl h
  where
    by_test : (b : Bool) → is_key (key q) e.0 ≡ b → cond b (Some e.1) None ≡ Some mark.Late → late_place (Some e) ≡ Some q
    by_test true same h =
        let is_late : is_mark (Some e.1) mark.Late ≡ true = ap (λ (o : Option Mark). is_mark o mark.Late) h in
        let place : Pos = record { line = e.0.0; column = e.0.1 } in
        ap (λ b. cond b (Some place) None) is_late ∙ ap (λ (p : Pos). Some p) (sym (key_tells q place same))
    by_test false same h = absurd (cc)

-- a place among the first late marks and one more was among the first ones, or is the place of the one more
one_more_mark : (ms : Known) (n : ℕ) (q : Pos) → n < length ms → mark_at (take (n + 1) ms) q ≡ Some mark.Late → (mark_at (take n ms) q ≡ Some mark.Late) ⊎ (late_place (slice_get ms n) ≡ Some q)
one_more_mark ms n q h first = by_mark (mark_at (take n ms) q) refl
  where
    nothing : (ℕ × ℕ) × Mark
    nothing = ((0, 0), mark.Early)

    split : mark_at (take n ms ++ get_or ms n nothing ∷ []) q ≡ Some mark.Late
    split = ap (λ (es : Known). mark_at es q) (sym (take_more ms n nothing h)) ∙ first

    by_mark : (o : Option Mark) → mark_at (take n ms) q ≡ o → (mark_at (take n ms) q ≡ Some mark.Late) ⊎ (late_place (slice_get ms n) ≡ Some q)
    by_mark (Some m) e = inl (e ∙ sym (lookup-kept (is_key (key q)) (take n ms) (get_or ms n nothing ∷ []) m e) ∙ split)
    by_mark None e = inr (ap late_place (slice_get-get_or ms n nothing h) ∙ late_entry (get_or ms n nothing) q (sym (lookup-missing (is_key (key q)) (take n ms) (get_or ms n nothing ∷ []) e) ∙ split))

module _ (old new : Solver) where
  -- where the next mark is late
  pub next_late : (leader : Pos) → IsSpread old → old.spread < length old.marks → late_place (slice_get old.marks old.spread) ≡ Some leader → mark_at old.marks leader ≡ Some mark.Late → MadeLate (followers_at old.followers leader) old.marks new.marks → new.followers ≡ old.followers → new.spread ≡ old.spread + 1 → Narrows Anything old new
  next_late leader spread left next leading made followers count =
      record {
        allowed = λ levels a _. record {
          marks = made.no_more levels a.marks (a.followers leader (a.marks leader mark.Late leading));
          followers = λ q is_late. subst (λ (f : Followers). Late levels (followers_at f q)) (sym followers) (a.followers q is_late);
        };
        kept = λ levels a. record {
          marks = grows_agree old.marks new.marks levels made.grows a.marks;
          followers = λ q is_late. subst (λ (f : Followers). Late levels (followers_at f q)) followers (a.followers q is_late);
        };
        condition = λ levels a. tt;
        spread = record {
          within = subst (λ (n : ℕ). n ≤ length new.marks) (sym count) (within_more old.marks new.marks (old.spread + 1) (omega arith) made.grows);
          each = λ q first.
              let first_old : mark_at (take (old.spread + 1) old.marks) q ≡ Some mark.Late = ap (λ (es : Known). mark_at es q) (sym (ap (λ (n : ℕ). take n new.marks) count ∙ first_marks old.marks new.marks (old.spread + 1) (omega arith) made.grows)) ∙ first in
              subst (λ (f : Followers). AreLate new.marks (followers_at f q)) (sym followers) (at_place q (one_more_mark old.marks old.spread q left first_old));
        };
      }
    where
      at_place : (q : Pos) → (mark_at (take old.spread old.marks) q ≡ Some mark.Late) ⊎ (late_place (slice_get old.marks old.spread) ≡ Some q) → AreLate new.marks (followers_at old.followers q)
      at_place q (inl e) = grows_late old.marks new.marks (followers_at old.followers q) made.grows (spread.each q e)
      at_place q (inr e) =
          let is : leader ≡ q = (cc) in
          subst (λ (p : Pos). AreLate new.marks (followers_at old.followers p)) is made.late

  -- where the next mark is early
  pub next_early : IsSpread old → old.spread < length old.marks → late_place (slice_get old.marks old.spread) ≡ None → new.marks ≡ old.marks → new.followers ≡ old.followers → new.spread ≡ old.spread + 1 → Narrows Anything old new
  next_early spread left next marks followers count =
      record {
        allowed = λ levels a _. record {
          marks = subst (λ (es : Known). Agree es levels) (sym marks) a.marks;
          followers = λ q is_late. subst (λ (f : Followers). Late levels (followers_at f q)) (sym followers) (a.followers q is_late);
        };
        kept = λ levels a. record {
          marks = subst (λ (es : Known). Agree es levels) marks a.marks;
          followers = λ q is_late. subst (λ (f : Followers). Late levels (followers_at f q)) followers (a.followers q is_late);
        };
        condition = λ levels a. tt;
        spread = record {
          within = omega (arith, count, ap length marks);
          each = λ q first.
              let first_old : mark_at (take (old.spread + 1) old.marks) q ≡ Some mark.Late = ap (λ (es : Known). mark_at es q) (sym (ap (λ (n : ℕ). take n new.marks) count ∙ ap (take (old.spread + 1)) marks)) ∙ first in
              subst (λ (f : Followers). AreLate new.marks (followers_at f q)) (sym followers) (subst (λ (es : Known). AreLate es (followers_at old.followers q)) (sym marks) (at_place q (one_more_mark old.marks old.spread q left first_old)));
        };
      }
    where
      at_place : (q : Pos) → (mark_at (take old.spread old.marks) q ≡ Some mark.Late) ⊎ (late_place (slice_get old.marks old.spread) ≡ Some q) → AreLate old.marks (followers_at old.followers q)
      at_place q (inl e) = spread.each q e
      at_place q (inr e) = absurd (cc)

-- ---- one after another

pub narrows_on : (Condition : Levels → Type 0) (a b c : Solver) → Narrows Condition a b → Narrows Anything b c → Narrows Condition a c
narrows_on Condition a b c n o = record {
  allowed = λ levels h condition. o.allowed levels (n.allowed levels h condition) tt;
  kept = λ levels h. n.kept levels (o.kept levels h);
  condition = λ levels h. n.condition levels (o.kept levels h);
  spread = o.spread;
}

pub excludes_on : (Condition : Levels → Type 0) (a b : Solver) → Narrows Condition a b → Excludes Anything b → Excludes Condition a
excludes_on Condition a b n e levels h condition = e levels (n.allowed levels h condition) tt

-- ---- what the marks say meets the constraints

level_or_early : Option Mark → Level
level_or_early None = early
level_or_early (Some m) = level_of m

-- late where the mark is, and early elsewhere
solution : Solver → Levels
solution s p = level_or_early (mark_at s.marks p)

marked_late : (o : Option Mark) → level_or_early o ≡ late → o ≡ Some mark.Late
unfolding level_or_early
marked_late None h = absurd (cc)
marked_late (Some mark.Early) h = absurd (cc)
marked_late (Some mark.Late) h = refl

solution_late : (s : Solver) (ps : List Pos) → AreLate s.marks ps → Late (solution s) ps
unfolding solution level_or_early
solution_late s [] all = tt
solution_late s (p ∷ ps) all = (ap level_or_early all.0, solution_late s ps all.1)

settled_allows : (s : Solver) → IsSettled s → Allows s (solution s)
unfolding solution level_or_early
settled_allows s settled = record {
  marks = λ p m h. ap level_or_early h;
  followers = λ q is_late.
      let marked : mark_at s.marks q ≡ Some mark.Late = marked_late (mark_at s.marks q) is_late in
      let whole : take s.spread s.marks ≡ s.marks = take_all s.spread s.marks (omega (arith, settled.all)) in
      solution_late s (followers_at s.followers q) (settled.spread.each q (ap (λ (es : Known). mark_at es q) whole ∙ marked));
}

-- ---- the constraints so far

module _ (rs : List Requirement) (i : ℕ) (d : Requirement) where
  pub knows_more : (old new : Solver) → i < length rs → Knows (take i rs) old → Narrows (λ levels. Meets levels (get_or rs i d)) old new → Knows (take (i + 1) rs) new
  knows_more old new h knows narrows =
      let r = get_or rs i d in
      subst (λ (front : List Requirement). Knows front new) (sym (take_more rs i d h)) (record {
        allowed = λ levels met. narrows.allowed levels (knows.allowed levels (all_front (λ r. Meets levels r) (take i rs) (r ∷ []) met)) (all_back (λ r. Meets levels r) (take i rs) (r ∷ []) met).0;
        only = λ levels a. all_more (λ r. Meets levels r) (take i rs) r (knows.only levels (narrows.kept levels a)) (narrows.condition levels a);
      })

  pub unmet : (s : Solver) → i < length rs → Knows (take i rs) s → IsSettled s → Excludes (λ levels. Meets levels (get_or rs i d)) s → IsUnmet rs (get_or rs i d).at
  unmet s h knows settled excludes =
      let r = get_or rs i d in
      record {
        before = take i rs;
        one = r;
        behind = drop (suc i) rs;
        parts = sym (take-append-drop i rs) ∙ ap (λ (back : List Requirement). take i rs ++ back) (drop-cons rs i d h);
        place_of_one = refl;
        solution = solution s;
        meets_before = knows.only (solution s) (settled_allows s settled);
        none = λ levels met. excludes levels (knows.allowed levels (all_front (λ r. Meets levels r) (take i rs) (r ∷ []) met)) (all_back (λ r. Meets levels r) (take i rs) (r ∷ []) met).0;
      }

pub met : (rs : List Requirement) (i : ℕ) (s : Solver) → length rs ≤ i → Knows (take i rs) s → IsSettled s → HasLevels rs
met rs i s h knows settled = record {
  levels = solution s;
  allow = subst (λ (front : List Requirement). Allow front (solution s)) (take_all i rs h) (knows.only (solution s) (settled_allows s settled));
}

-- ---- what a call answered, if memory sufficed

module _ {T E : Type 0} {P Q : T → Type 0} where
  pub if_ok : (r : Result T E) → IfOk r P → ((x : T) → P x → Q x) → IfOk r Q
  if_ok (Ok x) p f = f x p
  if_ok (Err e) p f = tt

module _ {T E A : Type 0} {P Q : T → Type 0} where
  pub if_ok_and : (r : Result T E) → OnOk r A → IfOk r P → ((x : T) → A → P x → Q x) → IfOk r Q
  if_ok_and (Ok x) a p f = f x a p
  if_ok_and (Err e) a p f = tt
