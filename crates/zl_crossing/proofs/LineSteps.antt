-- The first crossing of lines and one more.
use Rattle.std.specs.Prelude.{◌≡◌, Bool, true, false, not, ◌||◌, if◌then◌else◌, List, [], ◌∷◌, ◌++◌, Option}
use Rattle.std.proofs.Common.{refl, sym, ap, ◌∙◌}
use Rattle.std.proofs.lemmas.List.Folds.{list_any-append}
use Rattle.zl_value.specs.Fraction.{Fraction, IsReduced}
use Rattle.zl_value.specs.Order.{below}
use Rattle.zl_value.specs.Times.{nought, is_negative}
use Rattle.zl_value.specs.declared.line.Line.{Line}
use Rattle.zl_value.proofs.FractionOrder.{below-self, below-zero, below_trans, below_le_trans, le_trans, below_asym}
use Rattle.zl_crossing.specs.declared.answer.By.{By}
use Rattle.zl_crossing.specs.declared.answer.By.TheVariants.{Crossing, Cap}
use Rattle.zl_crossing.specs.declared.answer.First.{First}
use Rattle.zl_crossing.specs.FirstCrossing.{has_crossed, any_crossed, EndsBy, IsFirst, NeverCrosses, CrossesFrom}

or_false : (b : Bool) → (b || false) ≡ b
or_false true = refl
or_false false = refl

or_true : (b : Bool) → (b || true) ≡ true
or_true true = refl
or_true false = refl

-- no line at all
pub first_of_none : (cap : Fraction) → IsReduced cap → below nought cap ≡ true → IsFirst [] cap (record { duration = cap; by = Cap })
first_of_none cap low above = record { lowest = low; positive = above; within = below-self cap; before = λ s low from to. refl; ends = (refl, refl) }

-- a moment after 0 isn't negative
pub not_negative : (d : Fraction) → below nought d ≡ true → is_negative d ≡ false
not_negative d above = sym (below-zero d) ∙ below_asym nought d above

one_more : (lines : List (Option Line)) (line : Option Line) (s : Fraction) → any_crossed (lines ++ line ∷ []) s ≡ (any_crossed lines s || has_crossed s line)
one_more lines line s = list_any-append (has_crossed s) lines (line ∷ []) ∙ ap (λ b. any_crossed lines s || b) (or_false (has_crossed s line))

-- a line that hasn't crossed at a moment adds nothing there
unchanged : (lines : List (Option Line)) (line : Option Line) (s : Fraction) → has_crossed s line ≡ false → any_crossed (lines ++ line ∷ []) s ≡ any_crossed lines s
unchanged lines line s e = one_more lines line s ∙ ap (λ b. any_crossed lines s || b) e ∙ or_false (any_crossed lines s)

-- the answer stays where the line has crossed at no moment before it, and not at it
stays : (lines : List (Option Line)) (line : Option Line) (cap : Fraction) (first : First) → IsFirst lines cap first
    → ((s : Fraction) → IsReduced s → is_negative s ≡ false → below s first.duration ≡ true → has_crossed s line ≡ false) → has_crossed first.duration line ≡ false
    → IsFirst (lines ++ line ∷ []) cap first
stays lines line cap first is earlier now = record {
  lowest = is.lowest;
  positive = is.positive;
  within = is.within;
  before = λ s low from to. unchanged lines line s (earlier s low from to) ∙ is.before s low from to;
  ends = at_end first.by first.duration is.ends now;
}
  where
    at_end : (by : By) (d : Fraction) → EndsBy lines cap d by → has_crossed d line ≡ false → EndsBy (lines ++ line ∷ []) cap d by
    at_end Crossing d e f = unchanged lines line d f ∙ e
    at_end Cap d e f = (e.0, unchanged lines line cap (ap (λ s. has_crossed s line) (sym e.0) ∙ f) ∙ e.1)

-- a line that never crosses
pub step_never : (lines : List (Option Line)) (line : Option Line) (cap : Fraction) (first : First) → NeverCrosses line → IsFirst lines cap first → IsFirst (lines ++ line ∷ []) cap first
step_never lines line cap first never is =
    stays lines line cap first is (λ s low from to. never s low from) (never first.duration is.lowest (not_negative first.duration is.positive))

-- a line that crosses later than the flow ends
step_later : (lines : List (Option Line)) (line : Option Line) (cap root : Fraction) (first : First) → CrossesFrom line root → IsFirst lines cap first → below first.duration root ≡ true
    → IsFirst (lines ++ line ∷ []) cap first
step_later lines line cap root first from is later =
    stays lines line cap first is
    (λ s low start to. from.crossed s low start ∙ ap not (below_trans s first.duration root low.above is.lowest.above from.lowest.above to later))
    (from.crossed first.duration is.lowest (not_negative first.duration is.positive) ∙ ap not later)

-- a line that crosses by then
step_earlier : (lines : List (Option Line)) (line : Option Line) (cap root : Fraction) (first : First) → IsReduced cap → CrossesFrom line root → IsFirst lines cap first → below first.duration root ≡ false
    → IsFirst (lines ++ line ∷ []) cap (record { duration = root; by = Crossing })
step_earlier lines line cap root first cap_low from is by_then = record {
  lowest = from.lowest;
  positive = from.positive;
  within = le_trans root first.duration cap from.lowest.above is.lowest.above cap_low.above by_then is.within;
  before = λ s low start to.
      unchanged lines line s (from.crossed s low start ∙ ap not to)
      ∙ is.before s low start (below_le_trans s root first.duration low.above from.lowest.above is.lowest.above to by_then);
  ends =
      one_more lines line root ∙ ap (λ b. any_crossed lines root || b) (from.crossed root from.lowest (not_negative root from.positive) ∙ ap not (below-self root))
      ∙ or_true (any_crossed lines root);
}

pub step_crossing : (lines : List (Option Line)) (line : Option Line) (cap root : Fraction) (first : First) → IsReduced cap → CrossesFrom line root → IsFirst lines cap first
    → IsFirst (lines ++ line ∷ []) cap (if below first.duration root then first else (record { duration = root; by = Crossing }))
step_crossing lines line cap root first cap_low from is = go (below first.duration root) refl
  where
    go : (b : Bool) → below first.duration root ≡ b → IsFirst (lines ++ line ∷ []) cap (if b then first else (record { duration = root; by = Crossing }))
    go true e = step_later lines line cap root first from is e
    go false e = step_earlier lines line cap root first cap_low from is e
