-- A site in a fresh block doesn't fire.
--     let hybrid main() = (y, n) where rec der t = 1.0 init 0.0 and init y = -1.0 and present up(t -. 1.0) -> do y = 1.0 done and init n = 0 and reset present up(y) -> do n = last n + 1 done every up(t -. 1.0)
use Rattle.std.specs.Prelude.{◌∷◌, [], ◌++◌, ℕ, true, false, List, pos, negsuc, codes, Some, None}
use Rattle.zl_value.specs.Fraction.{whole}
use Rattle.zl_value.specs.declared.value.Value.TheVariants.{I, F}
use Rattle.zl_value.specs.declared.value.Ty.TheVariants.{Bool as BoolTy, Int, Float, Zero}
use Rattle.zl_value.specs.declared.op.Op.TheVariants.{AddInt, SubFloat}
use Rattle.zl_value.specs.declared.script.Script.{Script}
use Rattle.zl_meaning.specs.FlatForm.{FlatForm}
use Rattle.zl_meaning.specs.Worked.{at, block, place, occ, site, HasTrace}
use Rattle.zl_meaning.specs.declared.block.BlockKind.TheVariants.{Main, Arm, Reset}
use Rattle.zl_meaning.specs.declared.place.Definer.TheVariants.{Plain, Der, Start}
use Rattle.zl_meaning.specs.declared.occurrence.Form.TheVariants.{Lit, Read, Last, Op as Apply, Up, Fired}

abbrev pub form : FlatForm
form = record {
  blocks =
      block None Main true
      ∷ block (Some 0) (Arm 0 0) false
      ∷ block (Some 0) (Reset 22) true
      ∷ block (Some 2) (Arm 1 0) false
      ∷ [];
  places =
      place 0 None Float 0 (at 1 42) (Der 0 2 [] ∷ Start 0 3 ∷ [])
      ∷ place 0 None Float 1 (at 1 68) (Start 0 4 ∷ Plain 1 9 ∷ [])
      ∷ place 0 None Int 2 (at 1 130) (Start 0 10 ∷ Plain 3 14 ∷ [])
      ∷ [];
  occs =
      occ 0 None Float (at 1 22) (Read 1)
      ∷ occ 0 None Int (at 1 25) (Read 2)
      ∷ occ 0 None Float (at 1 46) (Lit (F (whole (pos 1))))
      ∷ occ 0 None Float (at 1 55) (Lit (F (whole (pos 0))))
      ∷ occ 0 None Float (at 1 72) (Lit (F (whole (negsuc 0))))
      ∷ occ 0 None Zero (at 1 89) (Up 0)
      ∷ occ 0 None Float (at 1 92) (Read 0)
      ∷ occ 0 None Float (at 1 94) (Apply SubFloat (6 ∷ 8 ∷ []))
      ∷ occ 0 None Float (at 1 97) (Lit (F (whole (pos 1))))
      ∷ occ 1 None Float (at 1 112) (Lit (F (whole (pos 1))))
      ∷ occ 0 None Int (at 1 134) (Lit (I (pos 0)))
      ∷ occ 2 None Zero (at 1 154) (Up 1)
      ∷ occ 2 None Float (at 1 157) (Read 1)
      ∷ occ 3 None Int (at 1 170) (Last 2)
      ∷ occ 3 None Int (at 1 177) (Apply AddInt (13 ∷ 15 ∷ []))
      ∷ occ 3 None Int (at 1 179) (Lit (I (pos 1)))
      ∷ occ 0 None Zero (at 1 192) (Up 2)
      ∷ occ 0 None Float (at 1 195) (Read 0)
      ∷ occ 0 None Float (at 1 197) (Apply SubFloat (17 ∷ 19 ∷ []))
      ∷ occ 0 None Float (at 1 200) (Lit (F (whole (pos 1))))
      ∷ occ 0 None BoolTy (at 1 89) (Fired (5 ∷ []))
      ∷ occ 2 None BoolTy (at 1 154) (Fired (11 ∷ []))
      ∷ occ 0 None BoolTy (at 1 192) (Fired (16 ∷ []))
      ∷ [];
  sites =
      site 0 7 (at 1 89)
      ∷ site 2 12 (at 1 154)
      ∷ site 0 18 (at 1 192)
      ∷ [];
  choices =
      record { block = 0; conds = 20 ∷ []; other = false }
      ∷ record { block = 2; conds = 21 ∷ []; other = false }
      ∷ [];
  automata = [];
  again = [];
  ins = [];
  outs = 1 ∷ 2 ∷ [];
}

abbrev pub grades : List ℕ
grades = 0 ∷ 0 ∷ 0 ∷ 3 ∷ 3 ∷ 3 ∷ 1 ∷ 1 ∷ 0 ∷ 3 ∷ 3 ∷ 3 ∷ 0 ∷ 3 ∷ 3 ∷ 3 ∷ 3 ∷ 1 ∷ 1 ∷ 0 ∷ 3 ∷ 3 ∷ 3 ∷ []

abbrev pub names : List (List ℕ)
names = codes "t" ∷ codes "y" ∷ codes "n" ∷ []

abbrev pub script : Script
script = record { horizon = whole (pos 1); steps = 1000000; lines = [] }

abbrev pub text : List ℕ
text =
    codes "0 #0 y=-1 n=0\n"
    ++ codes "1 - y=-1 n=0\n"
    ++ codes "1 #0 y=1 n=0\n"
    ++ codes "end horizon\n"

abbrev pub FreshSiteRuns : Type 0
FreshSiteRuns = HasTrace form grades names script text
