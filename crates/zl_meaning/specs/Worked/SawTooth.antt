-- A variable that is reset where it reaches one.
--     let hybrid main() = x where rec der x = 1.0 init 0.0 reset up(x -. 1.0) -> 0.0
use Rattle.std.specs.Prelude.{◌∷◌, [], ◌++◌, ℕ, true, List, pos, codes, None}
use Rattle.zl_value.specs.Fraction.{whole, over}
use Rattle.zl_value.specs.declared.value.Value.TheVariants.{F}
use Rattle.zl_value.specs.declared.value.Ty.TheVariants.{Bool as BoolTy, Float, Zero}
use Rattle.zl_value.specs.declared.op.Op.TheVariants.{SubFloat}
use Rattle.zl_value.specs.declared.script.Script.{Script}
use Rattle.zl_meaning.specs.FlatForm.{FlatForm}
use Rattle.zl_meaning.specs.Worked.{at, block, place, occ, site, reset_arm, HasTrace}
use Rattle.zl_meaning.specs.declared.block.BlockKind.TheVariants.{Main}
use Rattle.zl_meaning.specs.declared.place.Definer.TheVariants.{Der, Start}
use Rattle.zl_meaning.specs.declared.occurrence.Form.TheVariants.{Lit, Read, Op as Apply, Up, Fired}

abbrev pub form : FlatForm
form = record {
  blocks =
      block None Main true
      ∷ [];
  places =
      place 0 None Float 0 (at 1 37) (Der 0 1 (reset_arm 8 7 ∷ []) ∷ Start 0 2 ∷ [])
      ∷ [];
  occs =
      occ 0 None Float (at 1 21) (Read 0)
      ∷ occ 0 None Float (at 1 41) (Lit (F (whole (pos 1))))
      ∷ occ 0 None Float (at 1 50) (Lit (F (whole (pos 0))))
      ∷ occ 0 None Zero (at 1 60) (Up 0)
      ∷ occ 0 None Float (at 1 63) (Read 0)
      ∷ occ 0 None Float (at 1 65) (Apply SubFloat (4 ∷ 6 ∷ []))
      ∷ occ 0 None Float (at 1 68) (Lit (F (whole (pos 1))))
      ∷ occ 0 None Float (at 1 76) (Lit (F (whole (pos 0))))
      ∷ occ 0 None BoolTy (at 1 60) (Fired (3 ∷ []))
      ∷ [];
  sites =
      site 0 5 (at 1 60)
      ∷ [];
  choices = [];
  automata = [];
  again = [];
  ins = [];
  outs = 0 ∷ [];
}

abbrev pub grades : List ℕ
grades = 1 ∷ 0 ∷ 3 ∷ 3 ∷ 1 ∷ 1 ∷ 0 ∷ 3 ∷ 3 ∷ []

abbrev pub names : List (List ℕ)
names = codes "x" ∷ []

abbrev pub script : Script
script = record { horizon = over (pos 5) 2; steps = 1000000; lines = [] }

abbrev pub text : List ℕ
text =
    codes "0 #0 x=0\n"
    ++ codes "1 - x=1\n"
    ++ codes "1 #0 x=0\n"
    ++ codes "2 - x=1\n"
    ++ codes "2 #0 x=0\n"
    ++ codes "5/2 - x=1/2\n"
    ++ codes "end horizon\n"

abbrev pub SawToothRuns : Type 0
SawToothRuns = HasTrace form grades names script text
