-- The flow after an instant: how what is evaluated at its start has moved at moment 1.
use Rattle.std.specs.Prelude.{◌≡◌, ℕ, Bool, true, ◌&&◌, List, [], ◌∷◌, slice_get, get_or, Option, Some, None}
use Rattle.std.specs.Option.{option_map, option_and_then}
use Rattle.std.proofs.Common.{refl, ap, ◌∙◌}
use Rattle.zl_value.specs.Fraction.{Fraction, IsReduced, fits}
use Rattle.zl_value.specs.Times.{nought, unit}
use Rattle.zl_value.specs.Operators.{answered}
use Rattle.zl_value.specs.declared.value.Value.{Value}
use Rattle.zl_value.specs.declared.value.Value.TheVariants.{B, I, F}
use Rattle.zl_value.specs.declared.value.Ty.TheVariants.{Float}
use Rattle.zl_value.specs.declared.op.Op.{Op}
use Rattle.zl_meaning.specs.FlatForm.{FlatForm}
use Rattle.zl_meaning.specs.Uses.{Use, PartOf, SlopeOf, IsUse}
use Rattle.zl_meaning.specs.State.{Table, Node, State, state_in, AtUsed, AtValue}
use Rattle.zl_meaning.specs.History.{Instant, History, state_of, is_live}
use Rattle.zl_meaning.specs.Moment.{Moment, InFlow}
use Rattle.zl_meaning.specs.Equation.{equation}
use Rattle.zl_meaning.specs.Flow.{flow_moment}
use Rattle.zl_meaning.specs.Occurrences.{gathered, applied, asks, answer}
use Rattle.zl_meaning.specs.Slopes.{slope_of, slope_fits, all_fine, sources, is_fine, fine_turn}
use Rattle.zl_meaning.specs.Grades.{Grading}
use Rattle.zl_meaning.specs.KeepsGrades.{IsMoment, FormKeeps, FlowKeeps}
use Rattle.zl_meaning.specs.declared.occurrence.Form.{Form}
use Rattle.zl_meaning.specs.declared.occurrence.Occ.{Occ}
use Rattle.zl_meaning.proofs.OneTable.{made_at}
use Rattle.zl_meaning.proofs.GradesKept.OfTypes.{IsOf}
use Rattle.zl_meaning.proofs.GradesKept.Typed.{IsTyped}
use Rattle.zl_meaning.proofs.GradesKept.UsesSay.{asked-by}
use Rattle.zl_normal.specs.Starts.{GradesMoving}
use Rattle.zl_normal.specs.MainBlock.{IsMain}
use Rattle.zl_normal.proofs.Values.Entries.{value_if, used_if}

-- a flow of a form after an instant of a run: `at` is what stands at its moments, `fine` says which slopes are fine
pub record InFlowOf (f : FlatForm) (g : Grading) : Type 0 where
  pub h : History
  pub j : Instant
  pub at : Fraction → Table
  pub demanded : Bool
  pub whole : Grading
  pub fine : List Bool
  pub solves : (s : Fraction) → IsMoment s → (a : Node) → state_in (at s) a ≡ equation f (flow_moment f h j s) (state_in (at s)) a
  pub live : is_live 0 (j ∷ h) ≡ true
  pub typed : (s : Fraction) → IsMoment s → IsTyped f (state_in (at s))
  pub instant_typed : IsTyped f (state_of j)
  pub form : FormKeeps f g whole
  pub keeps : FlowKeeps f g whole j demanded at
  pub moving : GradesMoving f whole
  pub fine_is : fine ≡ fine_turn f (at nought) (at unit) fine
  pub derivatives : (k : ℕ) (call : Option ℕ) → IsUse f k (SlopeOf call) → state_of j (AtUsed k) ≡ true → (slope : Fraction) × (state_of j (AtValue k) ≡ Some (F slope)) × (fits slope ≡ true)

-- a value of type float is a number in lowest terms
pub record IsNumber (x : Option Value) : Type 0 where
  pub number : Fraction
  pub is : x ≡ Some (F number)
  pub reduced : IsReduced number

pub is_number : (x : Option Value) (v : Value) → IsOf Float x → x ≡ Some v → IsNumber x
is_number None v of e = absurd cc
is_number (Some (F a)) v of e = record { number = a; is = refl; reduced = of }
is_number (Some (B a)) v of e = absurd of
is_number (Some (I a)) v of e = absurd of

pub some_f : (a b : Fraction) → Some (F a) ≡ Some (F b) → a ≡ b
some_f a b e = ap (λ x. number_in x) e
  where
    number_in : Option Value → Fraction
    number_in (Some (F x)) = x
    number_in _ = a

-- the operands of an operator that has a value have some
pub two_there : (op : Op) (V : State) (x y : ℕ) (v : Value) → answered (applied InFlow op (gathered V (x ∷ y ∷ []))) ≡ Some v → ((p : Value) × (V (AtValue x) ≡ Some p)) × ((q : Value) × (V (AtValue y) ≡ Some q))
two_there op V x y v e = by (V (AtValue x)) (V (AtValue y)) refl refl e
  where
    by : (p q : Option Value) → V (AtValue x) ≡ p → V (AtValue y) ≡ q → answered (applied InFlow op (option_and_then (λ v. option_map (λ vs. v ∷ vs) (option_and_then (λ w. option_map (λ ws. w ∷ ws) (Some [])) q)) p)) ≡ Some v → ((p : Value) × (V (AtValue x) ≡ Some p)) × ((q : Value) × (V (AtValue y) ≡ Some q))
    by None q a b e = absurd cc
    by (Some p) None a b e = absurd cc
    by (Some p) (Some q) a b e = ((p, a), (q, b))

pub one_there : (op : Op) (V : State) (x : ℕ) (v : Value) → answered (applied InFlow op (gathered V (x ∷ []))) ≡ Some v → (p : Value) × (V (AtValue x) ≡ Some p)
one_there op V x v e = by (V (AtValue x)) refl e
  where
    by : (p : Option Value) → V (AtValue x) ≡ p → answered (applied InFlow op (option_and_then (λ v. option_map (λ vs. v ∷ vs) (Some [])) p)) ≡ Some v → (p : Value) × (V (AtValue x) ≡ Some p)
    by None a e = absurd cc
    by (Some p) a e = (p, a)

module _ (f : FlatForm) (g : Grading) (main : IsMain f) (c : InFlowOf f g) where
  abbrev pub V : Fraction → State
  V s = state_in (c.at s)

  abbrev pub M : Fraction → Moment
  M s = flow_moment f c.h c.j s

  pub live_then : (s : Fraction) → true ≡ true → is_live 0 (c.j ∷ c.h) ≡ true
  live_then s e = c.live

  -- the value of an occurrence by its form, and whether it is evaluated
  pub value_by : (s : Fraction) → IsMoment s → (k : ℕ) (occ : Occ) → slice_get f.occs k ≡ Some occ → (form : Form) → occ.form ≡ form → V s (AtValue k) ≡ answered (answer f (M s) (V s) 0 form)
  value_by s m k occ is form e = value_if f main (M s) (V s) (c.solves s m) (live_then s) k occ is ∙ ap (λ x. answered (answer f (M s) (V s) 0 x)) e

  pub used_by : (s : Fraction) → IsMoment s → (k : ℕ) (occ : Occ) (of : Use) → slice_get f.occs k ≡ Some occ → IsUse f k of → asks (M s) (V s) of ≡ true → V s (AtUsed k) ≡ true
  used_by s m k occ of is used e = used_if f main (M s) (V s) (c.solves s m) (live_then s) k occ is ∙ asked-by f k (M s) (V s) occ.call of used e

  -- a part that is evaluated where its whole is
  pub part_used : (s : Fraction) → IsMoment s → (k whole : ℕ) (occ wocc : Occ) (form : Form) → slice_get f.occs k ≡ Some occ → slice_get f.occs whole ≡ Some wocc → wocc.form ≡ form → IsUse f k (PartOf whole) → V s (AtUsed whole) ≡ true → V s (AtUsed k) ≡ true
  part_used s m k whole occ wocc form is at e used on = used_by s m k occ (PartOf whole) is used on

  -- the slope of an occurrence is fine where it is in the width and what it is made from is fine
  pub fine_at : (k : ℕ) (occ : Occ) (form : Form) → slice_get f.occs k ≡ Some occ → occ.form ≡ form → get_or c.fine k true ≡ (slope_fits (slope_of (c.at nought) (c.at unit) k) && all_fine c.fine (sources f (V nought) form))
  fine_at k occ form is e =
      ap (λ l. get_or l k true) c.fine_is
      ∙ made_at f.occs true (λ n o. is_fine f (c.at nought) (c.at unit) c.fine n o) (λ n. refl) k
      ∙ ap (λ o. is_fine f (c.at nought) (c.at unit) c.fine k o) is
      ∙ ap (λ x. slope_fits (slope_of (c.at nought) (c.at unit) k) && all_fine c.fine (sources f (V nought) x)) e
