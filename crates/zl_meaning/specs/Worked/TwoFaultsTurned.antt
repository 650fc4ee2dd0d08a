-- The same two faults, the other way round.
--     let hybrid main(u, v) = (a, b) where rec
--       b = u /. v and a = u *. u
use Rattle.std.specs.Prelude.{◌∷◌, [], ℕ, true, List, pos, codes, None}
use Rattle.zl_value.specs.Fraction.{whole}
use Rattle.zl_value.specs.declared.value.Value.TheVariants.{F}
use Rattle.zl_value.specs.declared.value.Ty.TheVariants.{Float}
use Rattle.zl_value.specs.declared.op.Op.TheVariants.{DivFloat, MulFloat}
use Rattle.zl_value.specs.declared.script.Script.{Script}
use Rattle.zl_meaning.specs.FlatForm.{FlatForm}
use Rattle.zl_meaning.specs.Worked.{at, block, place, occ, HasTrace}
use Rattle.zl_meaning.specs.declared.block.BlockKind.TheVariants.{Main}
use Rattle.zl_meaning.specs.declared.place.Definer.TheVariants.{Input, Plain}
use Rattle.zl_meaning.specs.declared.occurrence.Form.TheVariants.{Read, Op as Apply}

abbrev pub form : FlatForm
form = record {
  blocks =
      block None Main true
      ∷ [];
  places =
      place 0 None Float 0 (at 1 17) (Input 0 ∷ [])
      ∷ place 0 None Float 1 (at 1 20) (Input 1 ∷ [])
      ∷ place 0 None Float 2 (at 2 3) (Plain 0 3 ∷ [])
      ∷ place 0 None Float 3 (at 2 18) (Plain 0 6 ∷ [])
      ∷ [];
  occs =
      occ 0 None Float (at 1 26) (Read 3)
      ∷ occ 0 None Float (at 1 29) (Read 2)
      ∷ occ 0 None Float (at 2 7) (Read 0)
      ∷ occ 0 None Float (at 2 9) (Apply DivFloat (2 ∷ 4 ∷ []))
      ∷ occ 0 None Float (at 2 12) (Read 1)
      ∷ occ 0 None Float (at 2 22) (Read 0)
      ∷ occ 0 None Float (at 2 24) (Apply MulFloat (5 ∷ 7 ∷ []))
      ∷ occ 0 None Float (at 2 27) (Read 0)
      ∷ [];
  sites = [];
  choices = [];
  automata = [];
  again = [];
  ins = 0 ∷ 1 ∷ [];
  outs = 3 ∷ 2 ∷ [];
}

abbrev pub grades : List ℕ
grades = 0 ∷ 0 ∷ 0 ∷ 0 ∷ 0 ∷ 0 ∷ 0 ∷ 0 ∷ []

abbrev pub names : List (List ℕ)
names = codes "u" ∷ codes "v" ∷ codes "b" ∷ codes "a" ∷ []

abbrev pub script : Script
script = record { horizon = whole (pos 1); steps = 1000000; lines = record { time = whole (pos 0); sets = (record { input = 0; value = F (whole (pos 9223372036854775807)) } ∷ record { input = 1; value = F (whole (pos 0)) } ∷ []) } ∷ [] }

abbrev pub text : List ℕ
text =
    codes "fault division 0 #0 2:9\n"

abbrev pub TwoFaultsTurnedRuns : Type 0
TwoFaultsTurnedRuns = HasTrace form grades names script text
