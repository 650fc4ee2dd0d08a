-- The first moment at which a line reaches zero from below. The rule is this project's own, after Zélus' `up`.
use Rattle.std.specs.Prelude.{◌≡◌, Bool, true, false, not, ◌&&◌, List, Option, Some, None}
use Rattle.std.specs.List.{list_any}
use Rattle.zl_value.specs.Fraction.{Fraction, IsReduced, add, mul}
use Rattle.zl_value.specs.Order.{below}
use Rattle.zl_value.specs.Times.{nought, is_negative}
use Rattle.zl_value.specs.declared.line.Line.{Line}
use Rattle.zl_crossing.specs.declared.answer.By.{By}
use Rattle.zl_crossing.specs.declared.answer.By.TheVariants.{Crossing, Cap}
use Rattle.zl_crossing.specs.declared.answer.First.{First}

-- the value of a line at moment `s`
abbrev pub value_at : Line → Fraction → Fraction
value_at line s = add line.value (mul s line.slope)

-- the line begins below zero, and at moment `s` it isn't below zero
abbrev pub has_crossed : Fraction → Option Line → Bool
has_crossed s None = false
has_crossed s (Some line) = is_negative line.value && not (is_negative (value_at line s))

abbrev pub any_crossed : List (Option Line) → Fraction → Bool
any_crossed lines s = list_any (has_crossed s) lines

-- what holds at moment `d`: a line has crossed, or it is the cap and none has
abbrev pub EndsBy : List (Option Line) → Fraction → Fraction → By → Type 0
EndsBy lines cap d Crossing = any_crossed lines d ≡ true
EndsBy lines cap d Cap = (d ≡ cap) × (any_crossed lines cap ≡ false)

-- up to the cap, the first moment at which a line has crossed; where none has, the cap
pub record IsFirst (lines : List (Option Line)) (cap : Fraction) (first : First) : Type 0 where
  pub lowest : IsReduced first.duration
  pub positive : below nought first.duration ≡ true
  pub within : below cap first.duration ≡ false
  pub before : (s : Fraction) → IsReduced s → is_negative s ≡ false → below s first.duration ≡ true → any_crossed lines s ≡ false
  pub ends : EndsBy lines cap first.duration first.by

-- the line has crossed at no moment
abbrev pub NeverCrosses : Option Line → Type 0
NeverCrosses line = (s : Fraction) → IsReduced s → is_negative s ≡ false → has_crossed s line ≡ false

-- the line has crossed from moment `root` on, which is after 0
pub record CrossesFrom (line : Option Line) (root : Fraction) : Type 0 where
  pub lowest : IsReduced root
  pub positive : below nought root ≡ true
  pub crossed : (s : Fraction) → IsReduced s → is_negative s ≡ false → has_crossed s line ≡ not (below s root)
