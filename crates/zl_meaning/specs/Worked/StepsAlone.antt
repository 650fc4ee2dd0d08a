-- An occurrence that tells steps: true at a step, false at the left end of a flow. No program's text has it; passes make it.
use Rattle.std.specs.Prelude.{◌∷◌, [], ◌++◌, ℕ, true, List, pos, codes, None}
use Rattle.zl_value.specs.Fraction.{whole}
use Rattle.zl_value.specs.declared.value.Ty.TheVariants.{Bool as BoolTy}
use Rattle.zl_value.specs.declared.script.Script.{Script}
use Rattle.zl_meaning.specs.FlatForm.{FlatForm}
use Rattle.zl_meaning.specs.Worked.{at, block, place, occ, HasTrace}
use Rattle.zl_meaning.specs.declared.block.BlockKind.TheVariants.{Main}
use Rattle.zl_meaning.specs.declared.place.Definer.TheVariants.{Plain}
use Rattle.zl_meaning.specs.declared.occurrence.Form.TheVariants.{Read, Step}

abbrev pub form : FlatForm
form = record {
  blocks = block None Main true ∷ [];
  places = place 0 None BoolTy 0 (at 1 33) (Plain 0 1 ∷ []) ∷ [];
  occs =
      occ 0 None BoolTy (at 1 21) (Read 0)
      ∷ occ 0 None BoolTy (at 1 37) Step
      ∷ [];
  sites = [];
  choices = [];
  automata = [];
  again = [];
  ins = [];
  outs = 0 ∷ [];
}

abbrev pub grades : List ℕ
grades = 0 ∷ 0 ∷ []

abbrev pub names : List (List ℕ)
names = codes "s" ∷ []

abbrev pub script : Script
script = record { horizon = whole (pos 1); steps = 1000000; lines = [] }

abbrev pub text : List ℕ
text =
    codes "0 #0 s=true\n"
    ++ codes "1 - s=false\n"
    ++ codes "end horizon\n"

abbrev pub StepsAloneRuns : Type 0
StepsAloneRuns = HasTrace form grades names script text
