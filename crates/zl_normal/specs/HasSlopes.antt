-- What the slopes of operators ask of the grades of a form.
use Rattle.std.specs.Prelude.{◌≡◌, ℕ, ◌≤◌, ◌⊎◌, true, List, [], ◌∷◌, slice_get, get_or, Some}
use Rattle.zl_value.specs.declared.op.Op.{Op}
use Rattle.zl_value.specs.declared.op.Op.TheVariants.{AddFloat, SubFloat, MulFloat, DivFloat, NegFloat}
use Rattle.zl_meaning.specs.FlatForm.{FlatForm}
use Rattle.zl_meaning.specs.declared.occurrence.Form.TheVariants.{Op as Apply}
use Rattle.zl_meaning.specs.declared.occurrence.Occ.{Occ}
use Rattle.zl_normal.specs.Tables.{moves}

-- an operator on these operands has a slope that is made of theirs: of two factors one stands still
pub data HasSlope (grades : List ℕ) : Op → List ℕ → Type 0 where
  OfNegated : (a : ℕ) → HasSlope grades NegFloat (a ∷ [])
  OfSum : (a b : ℕ) → HasSlope grades AddFloat (a ∷ b ∷ [])
  OfDifference : (a b : ℕ) → HasSlope grades SubFloat (a ∷ b ∷ [])
  OfProduct : (a b : ℕ) → (get_or grades a 3 ≡ 0) ⊎ (get_or grades b 3 ≡ 0) → HasSlope grades MulFloat (a ∷ b ∷ [])
  OfQuotient : (a b : ℕ) → HasSlope grades DivFloat (a ∷ b ∷ [])

-- each operator that may move has a grade, and has a slope
pub record HasSlopes (f : FlatForm) (grades : List ℕ) : Type 0 where
  pub graded : (j : ℕ) (occ : Occ) (op : Op) (ks : List ℕ) → slice_get f.occs j ≡ Some occ → occ.form ≡ Apply op ks → moves grades j occ ≡ true → get_or grades j 3 ≤ 1
  pub operators : (j : ℕ) (occ : Occ) (op : Op) (ks : List ℕ) → slice_get f.occs j ≡ Some occ → occ.form ≡ Apply op ks → moves grades j occ ≡ true → HasSlope grades op ks
