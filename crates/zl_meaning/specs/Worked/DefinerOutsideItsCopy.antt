-- A form that isn't well-formed, though nothing in it depends on itself: its place stands in the copy of a call, and its
-- definer, of which that call is a part, outside. Two instants solve the empty history.
use Rattle.std.specs.Prelude.{◌≡◌, ℕ, true, false, [], ◌∷◌, Some, None}
use Rattle.zl_value.specs.declared.value.Value.TheVariants.{B}
use Rattle.zl_value.specs.declared.value.Ty.TheVariants.{Bool as BoolTy}
use Rattle.zl_value.specs.declared.op.Op.TheVariants.{Not}
use Rattle.zl_meaning.specs.FlatForm.{FlatForm}
use Rattle.zl_meaning.specs.State.{Table, Active}
use Rattle.zl_meaning.specs.WellFormed.{IsWellFormed}
use Rattle.zl_meaning.specs.Worked.{at, block, place, occ, HasTwoInstants}
use Rattle.zl_meaning.specs.declared.block.BlockKind.TheVariants.{Main}
use Rattle.zl_meaning.specs.declared.place.Definer.TheVariants.{Plain}
use Rattle.zl_meaning.specs.declared.occurrence.Form.TheVariants.{Lit, Op as Apply}

-- `p = not true`: the call is occurrence 1
abbrev pub form : FlatForm
form = record {
  blocks = block None Main true ∷ [];
  places = place 0 (Some 1) BoolTy 0 (at 1 1) (Plain 0 0 ∷ []) ∷ [];
  occs =
      occ 0 None BoolTy (at 1 1) (Apply Not (1 ∷ []))
      ∷ occ 0 None BoolTy (at 1 2) (Lit (B true))
      ∷ [];
  sites = [];
  choices = [];
  automata = [];
  again = [];
  ins = [];
  outs = 0 ∷ [];
}

-- the definer is evaluated, and with it the call; or neither is
abbrev pub evaluated : Table
evaluated = record {
  controls = Active ∷ [];
  resets = false ∷ [];
  later = false ∷ [];
  entries = [];
  running = [];
  strong = [];
  weak = [];
  places = Some (B false) ∷ [];
  used = true ∷ true ∷ [];
  values = Some (B false) ∷ Some (B true) ∷ [];
}

abbrev pub left_out : Table
left_out = record {
  controls = Active ∷ [];
  resets = false ∷ [];
  later = false ∷ [];
  entries = [];
  running = [];
  strong = [];
  weak = [];
  places = None ∷ [];
  used = false ∷ false ∷ [];
  values = Some (B false) ∷ Some (B true) ∷ [];
}

abbrev pub DefinerOutsideItsCopyIsRefused : Type 0
DefinerOutsideItsCopyIsRefused = IsWellFormed form → ⊥

abbrev pub DefinerOutsideItsCopyIsTwo : Type 0
DefinerOutsideItsCopyIsTwo = HasTwoInstants form evaluated left_out
