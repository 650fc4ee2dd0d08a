-- A slope that isn't in the width is a fault once, at the product that it comes from.
--     let hybrid main() = y where rec y = z and z = 4611686018427387904.0 *. x and der x = 4.0 init 0.0
use Rattle.std.specs.Prelude.{◌∷◌, [], ◌++◌, ℕ, true, List, pos, codes, None}
use Rattle.zl_value.specs.Fraction.{whole}
use Rattle.zl_value.specs.declared.value.Value.TheVariants.{F}
use Rattle.zl_value.specs.declared.value.Ty.TheVariants.{Float}
use Rattle.zl_value.specs.declared.op.Op.TheVariants.{MulFloat}
use Rattle.zl_value.specs.declared.script.Script.{Script}
use Rattle.zl_meaning.specs.FlatForm.{FlatForm}
use Rattle.zl_meaning.specs.Worked.{at, block, place, occ, HasTrace}
use Rattle.zl_meaning.specs.declared.block.BlockKind.TheVariants.{Main}
use Rattle.zl_meaning.specs.declared.place.Definer.TheVariants.{Plain, Der, Start}
use Rattle.zl_meaning.specs.declared.occurrence.Form.TheVariants.{Lit, Read, Op as Apply}

abbrev pub form : FlatForm
form = record {
  blocks =
      block None Main true
      ∷ [];
  places =
      place 0 None Float 0 (at 1 33) (Plain 0 1 ∷ [])
      ∷ place 0 None Float 1 (at 1 43) (Plain 0 3 ∷ [])
      ∷ place 0 None Float 2 (at 1 82) (Der 0 5 [] ∷ Start 0 6 ∷ [])
      ∷ [];
  occs =
      occ 0 None Float (at 1 21) (Read 0)
      ∷ occ 0 None Float (at 1 37) (Read 1)
      ∷ occ 0 None Float (at 1 47) (Lit (F (whole (pos 4611686018427387904))))
      ∷ occ 0 None Float (at 1 69) (Apply MulFloat (2 ∷ 4 ∷ []))
      ∷ occ 0 None Float (at 1 72) (Read 2)
      ∷ occ 0 None Float (at 1 86) (Lit (F (whole (pos 4))))
      ∷ occ 0 None Float (at 1 95) (Lit (F (whole (pos 0))))
      ∷ [];
  sites = [];
  choices = [];
  automata = [];
  again = [];
  ins = [];
  outs = 0 ∷ [];
}

abbrev pub grades : List ℕ
grades = 1 ∷ 1 ∷ 0 ∷ 1 ∷ 1 ∷ 0 ∷ 3 ∷ []

abbrev pub names : List (List ℕ)
names = codes "y" ∷ codes "z" ∷ codes "x" ∷ []

abbrev pub script : Script
script = record { horizon = whole (pos 1); steps = 1000000; lines = [] }

abbrev pub text : List ℕ
text =
    codes "0 #0 y=0\n"
    ++ codes "fault range 0 ~ 1:69\n"

abbrev pub SlopeTooWideRuns : Type 0
SlopeTooWideRuns = HasTrace form grades names script text
