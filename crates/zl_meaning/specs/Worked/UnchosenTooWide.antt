-- A crossing that isn't reached needn't be in the width.
--     let hybrid main() = y where rec der y = 1e-10 init -10000000000.0 reset up(y) -> 0.0
use Rattle.std.specs.Prelude.{◌∷◌, [], ◌++◌, ℕ, true, List, pos, negsuc, codes, None}
use Rattle.zl_value.specs.Fraction.{whole, over}
use Rattle.zl_value.specs.declared.value.Value.TheVariants.{F}
use Rattle.zl_value.specs.declared.value.Ty.TheVariants.{Bool as BoolTy, Float, Zero}
use Rattle.zl_value.specs.declared.script.Script.{Script}
use Rattle.zl_meaning.specs.FlatForm.{FlatForm}
use Rattle.zl_meaning.specs.Worked.{at, block, place, occ, site, reset_arm, HasTrace}
use Rattle.zl_meaning.specs.declared.block.BlockKind.TheVariants.{Main}
use Rattle.zl_meaning.specs.declared.place.Definer.TheVariants.{Der, Start}
use Rattle.zl_meaning.specs.declared.occurrence.Form.TheVariants.{Lit, Read, Up, Fired}

abbrev pub form : FlatForm
form = record {
  blocks =
      block None Main true
      ∷ [];
  places =
      place 0 None Float 0 (at 1 37) (Der 0 1 (reset_arm 6 5 ∷ []) ∷ Start 0 2 ∷ [])
      ∷ [];
  occs =
      occ 0 None Float (at 1 21) (Read 0)
      ∷ occ 0 None Float (at 1 41) (Lit (F (over (pos 1) 10000000000)))
      ∷ occ 0 None Float (at 1 52) (Lit (F (whole (negsuc 9999999999))))
      ∷ occ 0 None Zero (at 1 73) (Up 0)
      ∷ occ 0 None Float (at 1 76) (Read 0)
      ∷ occ 0 None Float (at 1 82) (Lit (F (whole (pos 0))))
      ∷ occ 0 None BoolTy (at 1 73) (Fired (3 ∷ []))
      ∷ [];
  sites =
      site 0 4 (at 1 73)
      ∷ [];
  choices = [];
  automata = [];
  again = [];
  ins = [];
  outs = 0 ∷ [];
}

abbrev pub grades : List ℕ
grades = 1 ∷ 0 ∷ 3 ∷ 3 ∷ 1 ∷ 3 ∷ 3 ∷ []

abbrev pub names : List (List ℕ)
names = codes "y" ∷ []

abbrev pub script : Script
script = record { horizon = whole (pos 10000000000); steps = 1000000; lines = [] }

abbrev pub text : List ℕ
text =
    codes "0 #0 y=-10000000000\n"
    ++ codes "10000000000 - y=-9999999999\n"
    ++ codes "end horizon\n"

abbrev pub UnchosenTooWideRuns : Type 0
UnchosenTooWideRuns = HasTrace form grades names script text
