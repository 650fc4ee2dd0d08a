-- Where numbers grow from parts to wholes, and from `init` values to each `last` of their place, no `init` values lead back.
use Rattle.std.specs.Prelude.{ℕ, ◌<◌}
use Rattle.std.proofs.Common.{arith}
use Rattle.zl_value.specs.Lists.{Has}
use Rattle.zl_meaning.specs.FlatForm.{FlatForm, HasForm, HasDefiner}
use Rattle.zl_meaning.specs.Depends.{read_parts, ReadsLast, Is, InPart, LeadsTo, AtOnce, Further}
use Rattle.zl_meaning.specs.declared.place.Definer.TheVariants.{Start}
use Rattle.zl_meaning.specs.declared.occurrence.Form.{Form}
use Rattle.zl_meaning.specs.declared.occurrence.Form.TheVariants.{Last}

module _ (f : FlatForm) (number : ℕ → ℕ) (parts : (k part : ℕ) (form : Form) → HasForm f k form → Has (read_parts form) part → number part < number k) (lasts : (k p b start : ℕ) → HasForm f k (Last p) → HasDefiner f p (Start b start) → number start < number k) where
  -- a value is after the `init` values of each place whose `last` it reads
  last-low : (k p : ℕ) → ReadsLast f k p → (b j : ℕ) → HasDefiner f p (Start b j) → number j < number k
  last-low k p (Is _ _ is) b j has = lasts k p b j is has
  last-low k p (InPart _ i _ form is has reads) b j start = let up = parts k i form is has in let low = last-low i p reads b j start in omega (arith, up, low)

  -- some `init` value of the first is after each of the place that it leads to
  pub record IsAfterStarts (p q : ℕ) : Type 0 where
    pub block : ℕ
    pub start : ℕ
    pub has : HasDefiner f p (Start block start)
    pub after : (b j : ℕ) → HasDefiner f q (Start b j) → number j < number start

  led-low : (p q : ℕ) → LeadsTo f p q → IsAfterStarts p q
  led-low p q (AtOnce _ _ b k has reads) = record { block = b; start = k; has = has; after = λ c j is. last-low k q reads c j is }
  led-low p q (Further _ r _ b k has reads leads) =
      let rest = led-low r q leads in
      let low = last-low k r reads rest.block rest.start rest.has in
      record { block = b; start = k; has = has; after = λ c j is. let more = rest.after c j is in omega (arith, low, more) }

  -- so none leads to itself
  pub no-circle : (p : ℕ) → LeadsTo f p p → ⊥
  no-circle p leads = let low = led-low p p leads in let less = low.after low.block low.start low.has in omega (arith, less)
