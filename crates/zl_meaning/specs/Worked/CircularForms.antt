-- Forms that aren't causal, each by one clause of the relation: a variable depends on itself.
use Rattle.std.specs.Prelude.{◌∷◌, [], true, false, pos, Some, None}
use Rattle.zl_value.specs.Fraction.{whole}
use Rattle.zl_value.specs.declared.value.Value.TheVariants.{B, F}
use Rattle.zl_value.specs.declared.value.Ty.TheVariants.{Bool as BoolTy, Int, Float}
use Rattle.zl_value.specs.declared.op.Op.TheVariants.{GtFloat}
use Rattle.zl_meaning.specs.FlatForm.{FlatForm}
use Rattle.zl_meaning.specs.Depends.{IsInCircle}
use Rattle.zl_meaning.specs.Worked.{at, block, place, occ}
use Rattle.zl_meaning.specs.declared.block.BlockKind.TheVariants.{Main, Guard, State as Body}
use Rattle.zl_meaning.specs.declared.place.Definer.TheVariants.{Plain, Start}
use Rattle.zl_meaning.specs.declared.occurrence.Form.TheVariants.{Lit, Read, Last, Op as Apply, If, Result}

-- An `unless` test that reads what its body defines.
--     let node main() = b where rec automaton
--       | A -> do b = true unless (b) then B
--       | B -> do b = false done
abbrev pub leaves : FlatForm
leaves = record {
  blocks =
      block None Main false
      ∷ block (Some 0) (Guard 0 0) false
      ∷ block (Some 0) (Body 0 0) false
      ∷ block (Some 0) (Guard 0 1) false
      ∷ block (Some 0) (Body 0 1) false
      ∷ [];
  places = place 0 None BoolTy 0 (at 2 13) (Plain 2 1 ∷ Plain 4 3 ∷ []) ∷ [];
  occs =
      occ 0 None BoolTy (at 1 19) (Read 0)
      ∷ occ 2 None BoolTy (at 2 17) (Lit (B true))
      ∷ occ 1 None BoolTy (at 2 30) (Read 0)
      ∷ occ 4 None BoolTy (at 3 17) (Lit (B false))
      ∷ [];
  sites = [];
  choices = [];
  automata = record { block = 0; states = (record { strong = true; reset = true; cond = 2; target = 1 } ∷ []) ∷ [] ∷ [] } ∷ [];
  again = [];
  ins = [];
  outs = 0 ∷ [];
}

-- `init` values that lead back by `last`.
--     let node main() = x where rec init x = last y and init y = last x
abbrev pub starts : FlatForm
starts = record {
  blocks = block None Main false ∷ [];
  places =
      place 0 None Int 0 (at 1 36) (Start 0 1 ∷ [])
      ∷ place 0 None Int 1 (at 1 56) (Start 0 2 ∷ [])
      ∷ [];
  occs =
      occ 0 None Int (at 1 19) (Read 0)
      ∷ occ 0 None Int (at 1 40) (Last 1)
      ∷ occ 0 None Int (at 1 60) (Last 0)
      ∷ [];
  sites = [];
  choices = [];
  automata = [];
  again = [];
  ins = [];
  outs = 0 ∷ [];
}

-- A call in a branch whose condition reads what is called there: `y` reads nothing, but isn't evaluated unless `z` is positive.
--     let f(x) = y where rec y = x
--     let hybrid main() = z where rec z = if z > 0.0 then f(1.0) else 0.0
abbrev pub calls : FlatForm
calls = record {
  blocks = block None Main true ∷ [];
  places =
      place 0 None Float 0 (at 2 33) (Plain 0 1 ∷ [])
      ∷ place 0 (Some 5) Float 1 (at 1 7) (Plain 0 6 ∷ [])
      ∷ place 0 (Some 5) Float 2 (at 1 24) (Plain 0 8 ∷ [])
      ∷ [];
  occs =
      occ 0 None Float (at 2 21) (Read 0)
      ∷ occ 0 None Float (at 2 37) (If 3 5 9)
      ∷ occ 0 None Float (at 2 40) (Read 0)
      ∷ occ 0 None BoolTy (at 2 42) (Apply GtFloat (2 ∷ 4 ∷ []))
      ∷ occ 0 None Float (at 2 44) (Lit (F (whole (pos 0))))
      ∷ occ 0 None Float (at 2 53) (Result 7)
      ∷ occ 0 (Some 5) Float (at 2 55) (Lit (F (whole (pos 1))))
      ∷ occ 0 (Some 5) Float (at 1 12) (Read 2)
      ∷ occ 0 (Some 5) Float (at 1 28) (Read 1)
      ∷ occ 0 None Float (at 2 65) (Lit (F (whole (pos 0))))
      ∷ [];
  sites = [];
  choices = [];
  automata = [];
  again = [];
  ins = [];
  outs = 0 ∷ [];
}

abbrev pub UnlessOfItsBodyIsCircular : Type 0
UnlessOfItsBodyIsCircular = IsInCircle leaves 0

abbrev pub LastLeadsBackIsCircular : Type 0
LastLeadsBackIsCircular = IsInCircle starts 0

abbrev pub CallInItsBranchIsCircular : Type 0
CallInItsBranchIsCircular = IsInCircle calls 2
