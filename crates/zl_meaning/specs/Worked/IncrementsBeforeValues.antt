-- All increments are tested before all new values: the second increment is the fault, not the first value.
--     let hybrid main() = (x, y) where rec der x = 1.0 init 9223372036854775807.0
--       and der y = 9223372036854775807.0 init 0.0
use Rattle.std.specs.Prelude.{◌∷◌, [], ◌++◌, ℕ, true, List, pos, codes, None}
use Rattle.zl_value.specs.Fraction.{whole}
use Rattle.zl_value.specs.declared.value.Value.TheVariants.{F}
use Rattle.zl_value.specs.declared.value.Ty.TheVariants.{Float}
use Rattle.zl_value.specs.declared.script.Script.{Script}
use Rattle.zl_meaning.specs.FlatForm.{FlatForm}
use Rattle.zl_meaning.specs.Worked.{at, block, place, occ, HasTrace}
use Rattle.zl_meaning.specs.declared.block.BlockKind.TheVariants.{Main}
use Rattle.zl_meaning.specs.declared.place.Definer.TheVariants.{Der, Start}
use Rattle.zl_meaning.specs.declared.occurrence.Form.TheVariants.{Lit, Read}

abbrev pub form : FlatForm
form = record {
  blocks =
      block None Main true
      ∷ [];
  places =
      place 0 None Float 1 (at 1 42) (Der 0 2 [] ∷ Start 0 3 ∷ [])
      ∷ place 0 None Float 2 (at 1 85) (Der 0 4 [] ∷ Start 0 5 ∷ [])
      ∷ [];
  occs =
      occ 0 None Float (at 1 22) (Read 0)
      ∷ occ 0 None Float (at 1 25) (Read 1)
      ∷ occ 0 None Float (at 1 46) (Lit (F (whole (pos 1))))
      ∷ occ 0 None Float (at 1 55) (Lit (F (whole (pos 9223372036854775807))))
      ∷ occ 0 None Float (at 1 89) (Lit (F (whole (pos 9223372036854775807))))
      ∷ occ 0 None Float (at 1 116) (Lit (F (whole (pos 0))))
      ∷ [];
  sites = [];
  choices = [];
  automata = [];
  again = [];
  ins = [];
  outs = 0 ∷ 1 ∷ [];
}

abbrev pub grades : List ℕ
grades = 1 ∷ 1 ∷ 0 ∷ 3 ∷ 0 ∷ 3 ∷ []

abbrev pub names : List (List ℕ)
names = codes "main" ∷ codes "x" ∷ codes "y" ∷ []

abbrev pub script : Script
script = record { horizon = whole (pos 2); steps = 1000000; lines = [] }

abbrev pub text : List ℕ
text =
    codes "0 #0 x=9223372036854775807 y=0\n"
    ++ codes "fault range 0 ~ 1:85\n"

abbrev pub IncrementsBeforeValuesRuns : Type 0
IncrementsBeforeValuesRuns = HasTrace form grades names script text
