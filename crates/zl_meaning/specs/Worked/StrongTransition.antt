-- A strong transition: the step runs the target.
--     let hybrid main() = x where rec init x = 0.0 and automaton
--       | A -> do der x = 1.0 unless up(x -. 1.0) then B
--       | B -> do x = 5.0 done
use Rattle.std.specs.Prelude.{◌∷◌, [], ◌++◌, ℕ, true, List, pos, codes, Some, None}
use Rattle.zl_value.specs.Fraction.{whole}
use Rattle.zl_value.specs.declared.value.Value.TheVariants.{F}
use Rattle.zl_value.specs.declared.value.Ty.TheVariants.{Bool as BoolTy, Float, Zero}
use Rattle.zl_value.specs.declared.op.Op.TheVariants.{SubFloat}
use Rattle.zl_value.specs.declared.script.Script.{Script}
use Rattle.zl_meaning.specs.FlatForm.{FlatForm}
use Rattle.zl_meaning.specs.Worked.{at, block, place, occ, site, HasTrace}
use Rattle.zl_meaning.specs.declared.block.BlockKind.TheVariants.{Main, Guard, State as Body}
use Rattle.zl_meaning.specs.declared.place.Definer.TheVariants.{Plain, Der, Start}
use Rattle.zl_meaning.specs.declared.occurrence.Form.TheVariants.{Lit, Read, Op as Apply, Up, Fired}

abbrev pub form : FlatForm
form = record {
  blocks =
      block None Main true
      ∷ block (Some 0) (Guard 0 0) true
      ∷ block (Some 0) (Body 0 0) true
      ∷ block (Some 0) (Guard 0 1) true
      ∷ block (Some 0) (Body 0 1) true
      ∷ [];
  places =
      place 0 None Float 0 (at 1 38) (Start 0 1 ∷ Der 2 2 [] ∷ Plain 4 7 ∷ [])
      ∷ [];
  occs =
      occ 0 None Float (at 1 21) (Read 0)
      ∷ occ 0 None Float (at 1 42) (Lit (F (whole (pos 0))))
      ∷ occ 2 None Float (at 2 21) (Lit (F (whole (pos 1))))
      ∷ occ 1 None Zero (at 2 32) (Up 0)
      ∷ occ 1 None Float (at 2 35) (Read 0)
      ∷ occ 1 None Float (at 2 37) (Apply SubFloat (4 ∷ 6 ∷ []))
      ∷ occ 1 None Float (at 2 40) (Lit (F (whole (pos 1))))
      ∷ occ 4 None Float (at 3 17) (Lit (F (whole (pos 5))))
      ∷ occ 1 None BoolTy (at 2 32) (Fired (3 ∷ []))
      ∷ [];
  sites =
      site 1 5 (at 2 32)
      ∷ [];
  choices = [];
  automata =
      record { block = 0; states = (record { strong = true; reset = true; cond = 8; target = 1 } ∷ []) ∷ [] ∷ [] }
      ∷ [];
  again = [];
  ins = [];
  outs = 0 ∷ [];
}

abbrev pub grades : List ℕ
grades = 1 ∷ 3 ∷ 0 ∷ 3 ∷ 1 ∷ 1 ∷ 0 ∷ 0 ∷ 3 ∷ []

abbrev pub names : List (List ℕ)
names = codes "x" ∷ []

abbrev pub script : Script
script = record { horizon = whole (pos 1); steps = 1000000; lines = [] }

abbrev pub text : List ℕ
text =
    codes "0 #0 x=0\n"
    ++ codes "1 - x=1\n"
    ++ codes "1 #0 x=5\n"
    ++ codes "1 #1 x=5\n"
    ++ codes "end horizon\n"

abbrev pub StrongTransitionRuns : Type 0
StrongTransitionRuns = HasTrace form grades names script text
