-- A discrete main keeps no grades: its operators are evaluated in flows, and none of them is graded.
--     let node main() = s where rec s = 1 + 2
use Rattle.std.specs.Prelude.{◌∷◌, [], false, pos, None}
use Rattle.zl_value.specs.declared.value.Value.TheVariants.{I}
use Rattle.zl_value.specs.declared.value.Ty.TheVariants.{Int}
use Rattle.zl_value.specs.declared.op.Op.TheVariants.{AddInt}
use Rattle.zl_meaning.specs.FlatForm.{FlatForm}
use Rattle.zl_meaning.specs.Grades.{Grading, AreGrades}
use Rattle.zl_meaning.specs.KeepsGrades.{KeepsGrades}
use Rattle.zl_meaning.specs.Worked.{at, block, place, occ}
use Rattle.zl_meaning.specs.declared.block.BlockKind.TheVariants.{Main}
use Rattle.zl_meaning.specs.declared.place.Definer.TheVariants.{Plain}
use Rattle.zl_meaning.specs.declared.occurrence.Form.TheVariants.{Lit, Read, Op as Apply}

abbrev pub form : FlatForm
form = record {
  blocks = block None Main false ∷ [];
  places = place 0 None Int 0 (at 1 31) (Plain 0 2 ∷ []) ∷ [];
  occs =
      occ 0 None Int (at 1 19) (Read 0)
      ∷ occ 0 None Int (at 1 35) (Lit (I (pos 1)))
      ∷ occ 0 None Int (at 1 37) (Apply AddInt (1 ∷ 3 ∷ []))
      ∷ occ 0 None Int (at 1 39) (Lit (I (pos 2)))
      ∷ [];
  sites = [];
  choices = [];
  automata = [];
  again = [];
  ins = [];
  outs = 0 ∷ [];
}

abbrev pub DiscreteMainKeepsNoGrades : Type 0
DiscreteMainKeepsNoGrades = (grading : Grading) → AreGrades form grading → KeepsGrades form grading → ⊥
