-- In a flow of a form with ranks it is decided which slopes are fine: exactly one list says it.
use Rattle.std.specs.Prelude.{◌≡◌, ℕ, ◌<◌, Bool, true, false, ◌&&◌, if◌then◌else◌, List, [], ◌∷◌, ◌++◌, length, get_or, slice_get, Option, Some, None, ⊤}
use Rattle.std.specs.List.{AllByRecursion, list_all}
use mathlib.Core.Path.{fun_ext}
use Rattle.std.proofs.Common.{refl, sym, ap, ◌∙◌, arith}
use Rattle.zl_value.specs.Lists.{listed, when}
use Rattle.zl_value.specs.Times.{holds, fails}
use Rattle.zl_value.specs.FixedPoints.{IsRanked}
use Rattle.zl_value.proofs.Fixed.{one_value, has_one_solution}
use Rattle.zl_meaning.specs.FlatForm.{FlatForm}
use Rattle.zl_meaning.specs.State.{Table, AtControl, AtPlace, AtValue, State, state_in, is_active}
use Rattle.zl_meaning.specs.Grades.{keeps_lines}
use Rattle.zl_meaning.specs.Slopes.{plain_by, plain_of, sources, slope_of, slope_fits, is_fine, fine_turn}
use Rattle.zl_meaning.specs.Reading.{ReadsDefiner, ReadsPlace, ReadsForm, ReadsValue, HasNodeRanks}
use Rattle.zl_meaning.specs.declared.place.Definer.{Definer}
use Rattle.zl_meaning.specs.declared.place.Definer.TheVariants.{Input, Plain, Der, Start}
use Rattle.zl_meaning.specs.declared.place.PlaceInfo.{PlaceInfo}
use Rattle.zl_meaning.specs.declared.occurrence.Form.{Form}
use Rattle.zl_meaning.specs.declared.occurrence.Form.TheVariants.{Lit, Read, Last, Op as Apply, If, Arrow, Pre, Result, Up, Fired, Step}
use Rattle.zl_meaning.specs.declared.occurrence.Occ.{Occ}
use Rattle.zl_meaning.proofs.OneTable.{made_at, held}

module _ (f : FlatForm) (r : HasNodeRanks f) (s : State) where
  -- all of these occurrences have a value of a rank below `n`
  AreLow : ℕ → List ℕ → Type 0
  AreLow n ks = AllByRecursion (λ j. r.rank (AtValue j) < n) ks

  when_low : (n : ℕ) (b : Bool) (k : ℕ) → r.rank (AtValue k) < n → AreLow n (when b k)
  unfolding AreLow
  when_low n true k l = (l, tt)
  when_low n false k l = tt

  append_low : (n : ℕ) (ks js : List ℕ) → AreLow n ks → AreLow n js → AreLow n (ks ++ js)
  unfolding AreLow
  append_low n [] js p q = q
  append_low n (k ∷ ks) js p q = (p.0, append_low n ks js p.1 q)

  plain_low : (n h p : ℕ) (definers : List Definer) → h < n → AllByRecursion (ReadsDefiner (λ b. r.rank b < h) (λ b. ⊤) p) definers → AreLow n (plain_by s definers)
  unfolding AreLow
  plain_low n h p [] l read = tt
  plain_low n h p (Input j ∷ definers) l read = plain_low n h p definers l read.1
  plain_low n h p (Plain b k ∷ definers) l read = go (is_active (s (AtControl b))) (plain_low n h p definers l read.1)
    where
      go : (t : Bool) → AllByRecursion (λ j. r.rank (AtValue j) < n) (plain_by s definers) → AllByRecursion (λ j. r.rank (AtValue j) < n) (if t then k ∷ [] else plain_by s definers)
      go true rest = (omega (arith, l, read.0.1), tt)
      go false rest = rest
  plain_low n h p (Der b slope resets ∷ definers) l read = plain_low n h p definers l read.1
  plain_low n h p (Start b k ∷ definers) l read = plain_low n h p definers l read.1

  place_low : (n h p : ℕ) (place : Option PlaceInfo) → h < n → ReadsPlace (λ b. r.rank b < h) (λ b. ⊤) p place → AreLow n (plain_of s place)
  unfolding AreLow
  place_low n h p None l read = tt
  place_low n h p (Some place) l read = plain_low n h p place.definers l read.2

  sources_low : (n b : ℕ) (form : Form) → ReadsForm f (λ a. r.rank a < n) (λ a. ⊤) b form → AreLow n (sources f s form)
  unfolding AreLow
  sources_low n b (Lit v) read = tt
  sources_low n b (Read p) read = place_low n (r.rank (AtPlace p)) p (slice_get f.places p) read (r.lower (AtPlace p))
  sources_low n b (Last p) read = tt
  sources_low n b (Apply op ks) read = go (keeps_lines op)
    where
      go : (t : Bool) → AllByRecursion (λ j. r.rank (AtValue j) < n) (if t then ks else [])
      go true = read
      go false = tt
  sources_low n b (If c x y) read = append_low n (when (holds (s (AtValue c))) x) (when (fails (s (AtValue c))) y) (when_low n (holds (s (AtValue c))) x read.1) (when_low n (fails (s (AtValue c))) y read.2)
  sources_low n b (Arrow x y) read = (read.2, tt)
  sources_low n b (Pre x) read = tt
  sources_low n b (Result x) read = (read, tt)
  sources_low n b (Up site) read = tt
  sources_low n b (Fired ks) read = tt
  sources_low n b Step read = tt

-- which slopes are fine, as a function of the number
module _ (f : FlatForm) (r : HasNodeRanks f) (t u : Table) where
  rank_at : ℕ → ℕ
  rank_at k = r.rank (AtValue k)

  by_form : (ℕ → Bool) → ℕ → Option Occ → Bool
  by_form fine k None = true
  by_form fine k (Some occ) = slope_fits (slope_of t u k) && list_all fine (sources f (state_in t) occ.form)

  step : (ℕ → Bool) → ℕ → Bool
  step fine k = by_form fine k (slice_get f.occs k)

  all_same : (x y : ℕ → Bool) (n : ℕ) (ks : List ℕ) → AreLow f r (state_in t) n ks → ((j : ℕ) → r.rank (AtValue j) < n → x j ≡ y j) → list_all x ks ≡ list_all y ks
  unfolding AreLow
  all_same x y n [] low same = refl
  all_same x y n (k ∷ ks) low same = let a = same k low.0 in let b = all_same x y n ks low.1 same in cc

  form_same : (x y : ℕ → Bool) (k : ℕ) (occ : Option Occ) → ReadsValue f (λ b. r.rank b < r.rank (AtValue k)) (λ b. ⊤) occ → ((j : ℕ) → r.rank (AtValue j) < r.rank (AtValue k) → x j ≡ y j) → by_form x k occ ≡ by_form y k occ
  unfolding by_form
  form_same x y k None read same = refl
  form_same x y k (Some occ) read same =
      ap (λ b. slope_fits (slope_of t u k) && b) (all_same x y (r.rank (AtValue k)) (sources f (state_in t) occ.form) (sources_low f r (state_in t) (r.rank (AtValue k)) occ.block occ.form read.1) same)

  step_ranked : IsRanked {X = λ _. Bool} rank_at step
  unfolding step rank_at
  step_ranked = record { same = λ x y k below. form_same x y k (slice_get f.occs k) (r.lower (AtValue k)) below }

  -- a list that solves the equations of its entries
  solved_at : (fine : List Bool) → fine ≡ fine_turn f t u fine → (k : ℕ) → get_or fine k true ≡ step (λ j. get_or fine j true) k
  unfolding step by_form
  solved_at fine is k = ap (λ l. get_or l k true) is ∙ made_at f.occs true (λ j occ. is_fine f t u fine j occ) (λ j. refl) k ∙ same (slice_get f.occs k)
    where
      same : (occ : Option Occ) → is_fine f t u fine k occ ≡ by_form (λ j. get_or fine j true) k occ
      same None = refl
      same (Some occ) = refl

  turn_by : (fine : List Bool) → fine_turn f t u fine ≡ listed (length f.occs) 0 (step (λ j. get_or fine j true))
  unfolding step by_form
  turn_by fine = ap (λ g. listed (length f.occs) 0 g) (fun_ext (λ k. same k (slice_get f.occs k)))
    where
      same : (k : ℕ) (occ : Option Occ) → is_fine f t u fine k occ ≡ by_form (λ j. get_or fine j true) k occ
      same k None = refl
      same k (Some occ) = refl

  pub one_fine : (x y : List Bool) → x ≡ fine_turn f t u x → y ≡ fine_turn f t u y → x ≡ y
  one_fine x y p q =
      let same = fun_ext (one_value rank_at step step_ranked (λ j. get_or x j true) (λ j. get_or y j true) (solved_at x p) (solved_at y q)) in
      p ∙ turn_by x ∙ ap (λ g. listed (length f.occs) 0 (step g)) same ∙ sym (turn_by y) ∙ sym q

  -- and there is such a list
  pub some_fine : (fine : List Bool) × (fine ≡ fine_turn f t u fine)
  unfolding step by_form
  some_fine =
      let one = has_one_solution rank_at step step_ranked (λ k. true) in
      let fine = listed (length f.occs) 0 one.solution in
      let kept = fun_ext (held f.occs true one.solution (λ k occ. by_form one.solution k occ) (λ k. refl) one.solves) in (
        fine,
        ap (λ g. listed (length f.occs) 0 g) (fun_ext one.solves)
            ∙ ap (λ g. listed (length f.occs) 0 (step g)) (sym kept) ∙ sym (turn_by fine),
      )
