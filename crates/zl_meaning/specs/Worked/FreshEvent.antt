-- `up` doesn't hold in a fresh block.
--     let hybrid main() = n where rec der t = 1.0 init 0.0 and init n = 0 and reset present up(t -. 1.0) -> do n = last n + 1 done every up(t -. 1.0)
use Rattle.std.specs.Prelude.{◌∷◌, [], ◌++◌, ℕ, true, false, List, pos, codes, Some, None}
use Rattle.zl_value.specs.Fraction.{whole}
use Rattle.zl_value.specs.declared.value.Value.TheVariants.{I, F}
use Rattle.zl_value.specs.declared.value.Ty.TheVariants.{Bool as BoolTy, Int, Float, Zero}
use Rattle.zl_value.specs.declared.op.Op.TheVariants.{AddInt, SubFloat}
use Rattle.zl_value.specs.declared.script.Script.{Script}
use Rattle.zl_meaning.specs.FlatForm.{FlatForm}
use Rattle.zl_meaning.specs.Worked.{at, block, place, occ, site, HasTrace}
use Rattle.zl_meaning.specs.declared.block.BlockKind.TheVariants.{Main, Arm, Reset}
use Rattle.zl_meaning.specs.declared.place.Definer.TheVariants.{Plain, Der, Start}
use Rattle.zl_meaning.specs.declared.occurrence.Form.TheVariants.{Lit, Read, Last, Op as Apply, Up, Fired}

abbrev pub form : FlatForm
form = record {
  blocks =
      block None Main true
      ∷ block (Some 0) (Reset 16) true
      ∷ block (Some 1) (Arm 0 0) false
      ∷ [];
  places =
      place 0 None Float 0 (at 1 37) (Der 0 1 [] ∷ Start 0 2 ∷ [])
      ∷ place 0 None Int 1 (at 1 63) (Start 0 3 ∷ Plain 2 9 ∷ [])
      ∷ [];
  occs =
      occ 0 None Int (at 1 21) (Read 1)
      ∷ occ 0 None Float (at 1 41) (Lit (F (whole (pos 1))))
      ∷ occ 0 None Float (at 1 50) (Lit (F (whole (pos 0))))
      ∷ occ 0 None Int (at 1 67) (Lit (I (pos 0)))
      ∷ occ 1 None Zero (at 1 87) (Up 0)
      ∷ occ 1 None Float (at 1 90) (Read 0)
      ∷ occ 1 None Float (at 1 92) (Apply SubFloat (5 ∷ 7 ∷ []))
      ∷ occ 1 None Float (at 1 95) (Lit (F (whole (pos 1))))
      ∷ occ 2 None Int (at 1 110) (Last 1)
      ∷ occ 2 None Int (at 1 117) (Apply AddInt (8 ∷ 10 ∷ []))
      ∷ occ 2 None Int (at 1 119) (Lit (I (pos 1)))
      ∷ occ 0 None Zero (at 1 132) (Up 1)
      ∷ occ 0 None Float (at 1 135) (Read 0)
      ∷ occ 0 None Float (at 1 137) (Apply SubFloat (12 ∷ 14 ∷ []))
      ∷ occ 0 None Float (at 1 140) (Lit (F (whole (pos 1))))
      ∷ occ 1 None BoolTy (at 1 87) (Fired (4 ∷ []))
      ∷ occ 0 None BoolTy (at 1 132) (Fired (11 ∷ []))
      ∷ [];
  sites =
      site 1 6 (at 1 87)
      ∷ site 0 13 (at 1 132)
      ∷ [];
  choices =
      record { block = 1; conds = 15 ∷ []; other = false }
      ∷ [];
  automata = [];
  again = [];
  ins = [];
  outs = 1 ∷ [];
}

abbrev pub grades : List ℕ
grades = 0 ∷ 0 ∷ 3 ∷ 3 ∷ 3 ∷ 1 ∷ 1 ∷ 0 ∷ 3 ∷ 3 ∷ 3 ∷ 3 ∷ 1 ∷ 1 ∷ 0 ∷ 3 ∷ 3 ∷ []

abbrev pub names : List (List ℕ)
names = codes "t" ∷ codes "n" ∷ []

abbrev pub script : Script
script = record { horizon = whole (pos 1); steps = 1000000; lines = [] }

abbrev pub text : List ℕ
text =
    codes "0 #0 n=0\n"
    ++ codes "1 - n=0\n"
    ++ codes "1 #0 n=0\n"
    ++ codes "end horizon\n"

abbrev pub FreshEventRuns : Type 0
FreshEventRuns = HasTrace form grades names script text
