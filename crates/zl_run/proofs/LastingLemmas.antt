-- A flow of the machine lasts until the first crossing of the lines of its sites.
use Rattle.std.specs.Prelude.{◌≡◌, ℕ, zero, suc, ◌+◌, ◌<◌, Bool, not, ◌&&◌, ◌||◌, List, length, get_or, Option, Some, None}
use Rattle.std.specs.List.{list_any, list_all}
use Rattle.std.proofs.Common.{refl, sym, ap, ap₂, ◌∙◌, subst, arith}
use Rattle.zl_value.specs.Fraction.{Fraction, IsReduced, add, mul}
use Rattle.zl_value.specs.Lists.{listed}
use Rattle.zl_value.specs.Times.{nought, is_below, is_above}
use Rattle.zl_value.specs.Stops.{is_stop}
use Rattle.zl_value.specs.Crossings.{SiteValues, is_reached, is_kept, Lasts}
use Rattle.zl_value.specs.declared.line.Line.{Line}
use Rattle.zl_value.specs.declared.script.Script.{Script}
use Rattle.zl_value.specs.declared.value.Value.{Value}
use Rattle.zl_value.specs.declared.value.Value.TheVariants.{B, I, F}
use Rattle.zl_value.proofs.FractionLaws.{add-zero, mul-zero}
use Rattle.zl_code.specs.System.{site_value, site_slope, moved_value}
use Rattle.zl_machine.specs.Answers.{float_of, slope_of}
use Rattle.zl_machine.specs.Calls.{line_from, site_line}
use Rattle.zl_crossing.specs.Courses.{value_on, IsLine}
use Rattle.zl_crossing.specs.Laws.{FirstLasts}
use Rattle.zl_run.specs.Flowing.{lines_of}
use Rattle.zl_run.specs.Laws.{FlowLasts}
use Rattle.zl_run.proofs.FiredLemmas.{numbers, get_listed}

-- two values that are below zero alike, and from zero on alike
pub record AreAlike (v w : Option Value) : Type 0 where
  pub under : is_below v ≡ is_below w
  pub over : is_above v ≡ is_above w

still : (s x : Fraction) → 0 < s.den → IsReduced x → x ≡ add x (mul s nought)
still s x above low = sym (ap (add x) (mul-zero s above) ∙ add-zero x low)

alike_self : {v w : Option Value} → v ≡ w → AreAlike v w
alike_self e = record { under = ap is_below e; over = ap is_above e }

-- a site moves along its line
on_line : (v a : Option Value) (s : Fraction) → 0 < s.den → IsLine (line_from (float_of v) (slope_of a)) → AreAlike (moved_value s v a) (value_on s (line_from (float_of v) (slope_of a)))
on_line None a s above low = record { under = refl; over = refl }
on_line (Some (B b)) a s above low = record { under = refl; over = refl }
on_line (Some (I n)) a s above low = record { under = refl; over = refl }
on_line (Some (F x)) (Some (F y)) s above low = record { under = refl; over = refl }
on_line (Some (F x)) None s above low = alike_self (ap (λ z. Some (F z)) (still s x above low.0))
on_line (Some (F x)) (Some (B b)) s above low = alike_self (ap (λ z. Some (F z)) (still s x above low.0))
on_line (Some (F x)) (Some (I n)) s above low = alike_self (ap (λ z. Some (F z)) (still s x above low.0))

any_same : (count k : ℕ) (p q : ℕ → Bool) → ((i : ℕ) → i < count → p (k + i) ≡ q (k + i)) → list_any p (numbers count k) ≡ list_any q (numbers count k)
any_same zero k p q same = refl
any_same (suc count) k p q same =
    ap₂ (λ a b. a || b) (ap p {x = k} {y = k + 0} (omega arith) ∙ same 0 (omega arith) ∙ ap q {x = k + 0} {y = k} (omega arith))
    (any_same count (suc k) p q (λ i inside. ap p {x = suc k + i} {y = k + suc i} (omega arith) ∙ same (suc i) (omega arith) ∙ ap q {x = k + suc i} {y = suc k + i} (omega arith)))

all_same : (count k : ℕ) (p q : ℕ → Bool) → ((i : ℕ) → i < count → p (k + i) ≡ q (k + i)) → list_all p (numbers count k) ≡ list_all q (numbers count k)
all_same zero k p q same = refl
all_same (suc count) k p q same =
    ap₂ (λ a b. a && b) (ap p {x = k} {y = k + 0} (omega arith) ∙ same 0 (omega arith) ∙ ap q {x = k + 0} {y = k} (omega arith))
    (all_same count (suc k) p q (λ i inside. ap p {x = suc k + i} {y = k + suc i} (omega arith) ∙ same (suc i) (omega arith) ∙ ap q {x = k + suc i} {y = suc k + i} (omega arith)))

-- where two courses are alike, a flow lasts alike
lasts_alike : (script : Script) (x y : SiteValues) (count : ℕ) (t d : Fraction) → ((s : Fraction) → 0 < s.den → (n : ℕ) → n < count → AreAlike (x s n) (y s n)) → Lasts script y count t d → Lasts script x count t d
lasts_alike script x y count t d alike is = record {
  reduced = is.reduced;
  positive = is.positive;
  reached = ap (λ b. is_stop script (add t d) || b) (any_same count 0 (is_reached x d) (is_reached y d) (λ n inside.
      ap₂ (λ a b. a && b) (alike nought (omega arith) (0 + n) (omega (arith, inside))).under (alike d is.reduced.above (0 + n) (omega (arith, inside))).over)) ∙ is.reached;
  clear = is.clear;
  first = λ s low from to. all_same count 0 (is_kept x s) (is_kept y s) (λ n inside.
      ap₂ (λ a b. not a || b) (alike nought (omega arith) (0 + n) (omega (arith, inside))).under (alike s low.above (0 + n) (omega (arith, inside))).under) ∙ is.first s low from to;
}

length-listed : {X : Type 0} (count k : ℕ) (f : ℕ → X) → length (listed count k f) ≡ count
length-listed zero k f = refl
length-listed (suc count) k f = ap (λ n. suc n) (length-listed count (suc k) f)

pub flow_lasts : FirstLasts → FlowLasts
flow_lasts first_lasts script m t stop first low next lines is =
    let all : List (Option Line) = lines_of m in
    let count : ℕ = length m.code.sites in
    let on : SiteValues = λ s n. value_on s (get_or all n None) in
    let at : (n : ℕ) → n < count → get_or all n None ≡ site_line m n = λ n inside. get_listed count 0 n (λ k. site_line m k) None inside ∙ ap (site_line m) {x = 0 + n} {y = n} (omega arith) in
    let size : length all ≡ count = length-listed count 0 (λ k. site_line m k) in
    let along : Lasts script on (length all) t first.duration = first_lasts script on all t stop first low next
    (record {
      line = λ n inside. subst IsLine (sym (at n (subst (λ k. n < k) size inside))) (lines n (subst (λ k. n < k) size inside));
      on = λ n inside s low from. refl;
    }) is in
    lasts_alike script _ on count t first.duration
    (λ s above n inside. subst (λ l. AreAlike (moved_value s (site_value m.code m.regs n) (site_slope m.code m.rates n)) (value_on s l)) (sym (at n inside))
    (on_line (site_value m.code m.regs n) (site_slope m.code m.rates n) s above (lines n inside)))
    (subst (λ k. Lasts script on k t first.duration) size along)
