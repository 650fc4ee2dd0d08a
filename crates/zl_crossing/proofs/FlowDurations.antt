-- A flow along lines lasts until their first crossing, and there is one.
use Rattle.std.specs.Prelude.{◌≡◌, ◌<◌, Bool, true, false, not, ◌&&◌, ◌||◌, List, [], ◌∷◌, length, Option}
use Rattle.std.specs.List.{list_all, AllByRecursion}
use Rattle.std.proofs.Common.{refl, sym, ap, ap₂, ◌∙◌, ⊎_elim, subst}
use Rattle.std.proofs.lemmas.Bool.{and_parts, and_from, both_ways}
use Rattle.zl_value.specs.Fraction.{Fraction, IsReduced, add, sub}
use Rattle.zl_value.specs.Order.{below}
use Rattle.zl_value.specs.Stops.{stops, is_stop}
use Rattle.zl_value.specs.Crossings.{any_reached}
use Rattle.zl_value.specs.declared.line.Line.{Line}
use Rattle.zl_value.proofs.FractionLaws.{IsReduced-add, IsReduced-sub, add_comm, add-sub}
use Rattle.zl_value.proofs.FractionOrder.{below-add, below_cases, below_le_trans}
use Rattle.zl_crossing.specs.declared.answer.By.{By}
use Rattle.zl_crossing.specs.declared.answer.By.TheVariants.{Crossing, Cap}
use Rattle.zl_crossing.specs.declared.answer.First.{First}
use Rattle.zl_crossing.specs.FirstCrossing.{any_crossed, EndsBy, IsFirst}
use Rattle.zl_crossing.specs.Laws.{FirstLasts, OneFirst}
use Rattle.zl_crossing.proofs.LineSteps.{not_negative}
use Rattle.zl_crossing.proofs.SiteCourses.{any_reached_is, all_kept_where}

-- ---- the time to a stop

-- from `t` the time to `stop` leads to it
to_stop : (t stop : Fraction) → IsReduced t → IsReduced stop → add t (sub stop t) ≡ stop
to_stop t stop t_low stop_low = add_comm t (sub stop t) ∙ add-sub stop t stop_low t_low.above

-- what is clear up to `stop` is clear up to what isn't later
earlier_clear : (xs : List Fraction) (t u stop : Fraction) → AllByRecursion IsReduced xs → 0 < u.den → 0 < stop.den → below stop u ≡ false
    → list_all (λ x. not (below t x && below x stop)) xs ≡ true → list_all (λ x. not (below t x && below x u)) xs ≡ true
earlier_clear [] t u stop low p q early all = refl
earlier_clear (x ∷ xs) t u stop low p q early all =
    let parts = and_parts (not (below t x && below x stop)) (list_all (λ y. not (below t y && below y stop)) xs) all in
    and_from _ _ (go (below t x) (below x u) refl parts.0) (earlier_clear xs t u stop low.1 p q early parts.1)
  where
    go : (a b : Bool) → below x u ≡ b → not (a && below x stop) ≡ true → not (a && b) ≡ true
    go false b e clear = refl
    go true false e clear = refl
    go true true e clear = absurd (clash (below_le_trans x u stop low.0.above p q e early) clear)
      where
        clash : below x stop ≡ true → not (below x stop) ≡ true → ⊥
        clash f g = cc

-- ---- how long a flow lasts

or_right : (a b : Bool) → b ≡ true → (a || b) ≡ true
or_right true b e = refl
or_right false b e = e

or_left : (a b : Bool) → a ≡ true → (a || b) ≡ true
or_left a b e = ap (λ x. x || b) e

pub first_lasts : FirstLasts
first_lasts script value lines t stop first t_low next are is = record {
  reduced = is.lowest;
  positive = is.positive;
  reached = at_end first.by is.ends;
  clear = earlier_clear (stops script) t (add t first.duration) stop next.reduced (IsReduced-add t first.duration t_low.above is.lowest.above).above next.lowest.above up_to next.clear;
  first = λ s low from to. all_kept_where lines value are s low from (is.before s low from to);
}
  where
    cap : Fraction
    cap = sub stop t

    up_to : below stop (add t first.duration) ≡ false
    up_to =
        ap (λ x. below x (add t first.duration)) (sym (to_stop t stop t_low next.lowest))
        ∙ below-add t cap first.duration t_low.above (IsReduced-sub stop t next.lowest.above t_low.above).above is.lowest.above ∙ is.within

    at_end : (by : By) → EndsBy lines cap first.duration by → (is_stop script (add t first.duration) || any_reached value (length lines) first.duration) ≡ true
    at_end Crossing e =
        or_right _ _ (sym (any_reached_is lines value are first.duration is.lowest (not_negative first.duration is.positive)) ∙ e)
    at_end Cap e = or_left _ _ (ap (λ d. is_stop script (add t d)) e.0 ∙ ap (is_stop script) (to_stop t stop t_low next.lowest) ∙ next.is)

-- ---- one first crossing

-- no other lasts longer
none_later : (lines : List (Option Line)) (cap : Fraction) (a b : First) → IsFirst lines cap a → IsFirst lines cap b → below a.duration b.duration ≡ true → ⊥
none_later lines cap a b is_a is_b e = go a.by is_a.ends
  where
    go : (by : By) → EndsBy lines cap a.duration by → ⊥
    go Crossing crossed = both_ways (any_crossed lines a.duration) (is_b.before a.duration is_a.lowest (not_negative a.duration is_a.positive) e) crossed
    go Cap at_cap = both_ways (below cap b.duration) is_b.within (ap (λ d. below d b.duration) (sym at_cap.0) ∙ e)

one_by : (lines : List (Option Line)) (cap : Fraction) (d : Fraction) (x y : By) → EndsBy lines cap d x → EndsBy lines cap d y → x ≡ y
one_by lines cap d Crossing Crossing e f = refl
one_by lines cap d Cap Cap e f = refl
one_by lines cap d Crossing Cap e f = absurd (both_ways (any_crossed lines cap) f.1 (ap (any_crossed lines) (sym f.0) ∙ e))
one_by lines cap d Cap Crossing e f = absurd (both_ways (any_crossed lines cap) e.1 (ap (any_crossed lines) (sym e.0) ∙ f))

pub first_is_one : OneFirst
first_is_one lines cap a b is_a is_b =
    ⊎_elim (λ e. absurd (none_later lines cap a b is_a is_b e))
    (λ o. ⊎_elim same (λ e. absurd (none_later lines cap b a is_b is_a e)) o)
    (below_cases a.duration b.duration is_a.lowest is_b.lowest)
  where
    same : a.duration ≡ b.duration → a ≡ b
    same e =
        let by : a.by ≡ b.by = one_by lines cap b.duration a.by b.by (subst (λ d. EndsBy lines cap d a.by) e is_a.ends) is_b.ends in
        ap₂ (λ d y. record { duration = d; by = y }) e by
