-- A step makes a further site fire, so that a second step follows at the same time.
--     let hybrid main() = (y, w) where rec
--       der x = 1.0 init 0.0
--       and init y = -1.0 and present up(x -. 1.0) -> do y = 1.0 done
--       and init w = 0 and present up(y) -> do w = last w + 1 done
use Rattle.std.specs.Prelude.{◌∷◌, [], ◌++◌, ℕ, true, false, List, pos, negsuc, codes, Some, None}
use Rattle.zl_value.specs.Fraction.{whole}
use Rattle.zl_value.specs.declared.value.Value.TheVariants.{I, F}
use Rattle.zl_value.specs.declared.value.Ty.TheVariants.{Bool as BoolTy, Int, Float, Zero}
use Rattle.zl_value.specs.declared.op.Op.TheVariants.{AddInt, SubFloat}
use Rattle.zl_value.specs.declared.script.Script.{Script}
use Rattle.zl_meaning.specs.FlatForm.{FlatForm}
use Rattle.zl_meaning.specs.Worked.{at, block, place, occ, site, HasTrace}
use Rattle.zl_meaning.specs.declared.block.BlockKind.TheVariants.{Main, Arm}
use Rattle.zl_meaning.specs.declared.place.Definer.TheVariants.{Plain, Der, Start}
use Rattle.zl_meaning.specs.declared.occurrence.Form.TheVariants.{Lit, Read, Last, Op as Apply, Up, Fired}

abbrev pub form : FlatForm
form = record {
  blocks =
      block None Main true
      ∷ block (Some 0) (Arm 0 0) false
      ∷ block (Some 0) (Arm 1 0) false
      ∷ [];
  places =
      place 0 None Float 0 (at 2 7) (Der 0 2 [] ∷ Start 0 3 ∷ [])
      ∷ place 0 None Float 1 (at 3 12) (Start 0 4 ∷ Plain 1 9 ∷ [])
      ∷ place 0 None Int 2 (at 4 12) (Start 0 10 ∷ Plain 2 14 ∷ [])
      ∷ [];
  occs =
      occ 0 None Float (at 1 22) (Read 1)
      ∷ occ 0 None Int (at 1 25) (Read 2)
      ∷ occ 0 None Float (at 2 11) (Lit (F (whole (pos 1))))
      ∷ occ 0 None Float (at 2 20) (Lit (F (whole (pos 0))))
      ∷ occ 0 None Float (at 3 16) (Lit (F (whole (negsuc 0))))
      ∷ occ 0 None Zero (at 3 33) (Up 0)
      ∷ occ 0 None Float (at 3 36) (Read 0)
      ∷ occ 0 None Float (at 3 38) (Apply SubFloat (6 ∷ 8 ∷ []))
      ∷ occ 0 None Float (at 3 41) (Lit (F (whole (pos 1))))
      ∷ occ 1 None Float (at 3 56) (Lit (F (whole (pos 1))))
      ∷ occ 0 None Int (at 4 16) (Lit (I (pos 0)))
      ∷ occ 0 None Zero (at 4 30) (Up 1)
      ∷ occ 0 None Float (at 4 33) (Read 1)
      ∷ occ 2 None Int (at 4 46) (Last 2)
      ∷ occ 2 None Int (at 4 53) (Apply AddInt (13 ∷ 15 ∷ []))
      ∷ occ 2 None Int (at 4 55) (Lit (I (pos 1)))
      ∷ occ 0 None BoolTy (at 3 33) (Fired (5 ∷ []))
      ∷ occ 0 None BoolTy (at 4 30) (Fired (11 ∷ []))
      ∷ [];
  sites =
      site 0 7 (at 3 33)
      ∷ site 0 12 (at 4 30)
      ∷ [];
  choices =
      record { block = 0; conds = 16 ∷ []; other = false }
      ∷ record { block = 0; conds = 17 ∷ []; other = false }
      ∷ [];
  automata = [];
  again = [];
  ins = [];
  outs = 1 ∷ 2 ∷ [];
}

abbrev pub grades : List ℕ
grades = 0 ∷ 0 ∷ 0 ∷ 3 ∷ 3 ∷ 3 ∷ 1 ∷ 1 ∷ 0 ∷ 3 ∷ 3 ∷ 3 ∷ 0 ∷ 3 ∷ 3 ∷ 3 ∷ 3 ∷ 3 ∷ []

abbrev pub names : List (List ℕ)
names = codes "x" ∷ codes "y" ∷ codes "w" ∷ []

abbrev pub script : Script
script = record { horizon = whole (pos 1); steps = 1000000; lines = [] }

abbrev pub text : List ℕ
text =
    codes "0 #0 y=-1 w=0\n"
    ++ codes "1 - y=-1 w=0\n"
    ++ codes "1 #0 y=1 w=0\n"
    ++ codes "1 #1 y=1 w=1\n"
    ++ codes "end horizon\n"

abbrev pub CascadeRuns : Type 0
CascadeRuns = HasTrace form grades names script text

-- no run goes on before the second step is made
abbrev pub CascadeIsDue : Type 0
CascadeIsDue =
    HasTrace form grades names script
    (codes "0 #0 y=-1 w=0\n"
    ++ codes "1 - y=-1 w=0\n"
    ++ codes "1 #0 y=1 w=0\n"
    ++ codes "end horizon\n") → ⊥
