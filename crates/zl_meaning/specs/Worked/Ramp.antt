-- A variable with slope one.
--     let hybrid main() = x where rec der x = 1.0 init 0.0
use Rattle.std.specs.Prelude.{◌∷◌, [], ◌++◌, ℕ, true, List, pos, codes, None}
use Rattle.zl_value.specs.Fraction.{whole, over}
use Rattle.zl_value.specs.declared.value.Value.TheVariants.{F}
use Rattle.zl_value.specs.declared.value.Ty.TheVariants.{Float}
use Rattle.zl_value.specs.declared.script.Script.{Script}
use Rattle.zl_meaning.specs.FlatForm.{FlatForm}
use Rattle.zl_meaning.specs.Worked.{at, block, place, occ, HasTrace}
use Rattle.zl_meaning.specs.declared.block.BlockKind.TheVariants.{Main}
use Rattle.zl_meaning.specs.declared.place.Definer.TheVariants.{Der, Start}
use Rattle.zl_meaning.specs.declared.occurrence.Form.TheVariants.{Lit, Read}

abbrev pub form : FlatForm
form = record {
  blocks =
      block None Main true
      ∷ [];
  places =
      place 0 None Float 0 (at 1 37) (Der 0 1 [] ∷ Start 0 2 ∷ [])
      ∷ [];
  occs =
      occ 0 None Float (at 1 21) (Read 0)
      ∷ occ 0 None Float (at 1 41) (Lit (F (whole (pos 1))))
      ∷ occ 0 None Float (at 1 50) (Lit (F (whole (pos 0))))
      ∷ [];
  sites = [];
  choices = [];
  automata = [];
  again = [];
  ins = [];
  outs = 0 ∷ [];
}

abbrev pub grades : List ℕ
grades = 1 ∷ 0 ∷ 3 ∷ []

abbrev pub names : List (List ℕ)
names = codes "x" ∷ []

abbrev pub script : Script
script = record { horizon = over (pos 3) 2; steps = 1000000; lines = [] }

abbrev pub text : List ℕ
text =
    codes "0 #0 x=0\n"
    ++ codes "3/2 - x=3/2\n"
    ++ codes "end horizon\n"

abbrev pub RampRuns : Type 0
RampRuns = HasTrace form grades names script text
