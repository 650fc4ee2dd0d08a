-- A site that is at zero doesn't fire.
--     let hybrid main() = x where rec der x = 1.0 init 0.0 reset up(x) -> 5.0
use Rattle.std.specs.Prelude.{◌∷◌, [], ◌++◌, ℕ, true, List, pos, codes, None}
use Rattle.zl_value.specs.Fraction.{whole}
use Rattle.zl_value.specs.declared.value.Value.TheVariants.{F}
use Rattle.zl_value.specs.declared.value.Ty.TheVariants.{Bool as BoolTy, Float, Zero}
use Rattle.zl_value.specs.declared.script.Script.{Script}
use Rattle.zl_meaning.specs.FlatForm.{FlatForm}
use Rattle.zl_meaning.specs.Worked.{at, block, place, occ, site, reset_arm, HasTrace}
use Rattle.zl_meaning.specs.declared.block.BlockKind.TheVariants.{Main}
use Rattle.zl_meaning.specs.declared.place.Definer.TheVariants.{Der, Start}
use Rattle.zl_meaning.specs.declared.occurrence.Form.TheVariants.{Lit, Read, Up, Fired}

abbrev pub form : FlatForm
form = record {
  blocks =
      block None Main true
      ∷ [];
  places =
      place 0 None Float 0 (at 1 37) (Der 0 1 (reset_arm 6 5 ∷ []) ∷ Start 0 2 ∷ [])
      ∷ [];
  occs =
      occ 0 None Float (at 1 21) (Read 0)
      ∷ occ 0 None Float (at 1 41) (Lit (F (whole (pos 1))))
      ∷ occ 0 None Float (at 1 50) (Lit (F (whole (pos 0))))
      ∷ occ 0 None Zero (at 1 60) (Up 0)
      ∷ occ 0 None Float (at 1 63) (Read 0)
      ∷ occ 0 None Float (at 1 69) (Lit (F (whole (pos 5))))
      ∷ occ 0 None BoolTy (at 1 60) (Fired (3 ∷ []))
      ∷ [];
  sites =
      site 0 4 (at 1 60)
      ∷ [];
  choices = [];
  automata = [];
  again = [];
  ins = [];
  outs = 0 ∷ [];
}

abbrev pub grades : List ℕ
grades = 1 ∷ 0 ∷ 3 ∷ 3 ∷ 1 ∷ 3 ∷ 3 ∷ []

abbrev pub names : List (List ℕ)
names = codes "x" ∷ []

abbrev pub script : Script
script = record { horizon = whole (pos 1); steps = 1000000; lines = [] }

abbrev pub text : List ℕ
text =
    codes "0 #0 x=0\n"
    ++ codes "1 - x=1\n"
    ++ codes "end horizon\n"

abbrev pub SiteAtZeroRuns : Type 0
SiteAtZeroRuns = HasTrace form grades names script text

-- no run fires the site: it comes from zero, not from below
abbrev pub SiteAtZeroStays : Type 0
SiteAtZeroStays =
    HasTrace form grades names script
    (codes "0 #0 x=0\n"
    ++ codes "1 - x=1\n"
    ++ codes "1 #0 x=5\n"
    ++ codes "end horizon\n") → ⊥
