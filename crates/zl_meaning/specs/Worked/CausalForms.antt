-- Forms in which something seems to read itself, and that are causal: `pre`, a derivative and an `until` test give no
-- dependency, and feedback goes through a variable with a derivative.
use Rattle.std.specs.Prelude.{◌∷◌, [], true, false, pos, Some, None}
use Rattle.zl_value.specs.Fraction.{whole}
use Rattle.zl_value.specs.declared.value.Value.TheVariants.{B, I, F}
use Rattle.zl_value.specs.declared.value.Ty.TheVariants.{Bool as BoolTy, Int, Float}
use Rattle.zl_value.specs.declared.op.Op.TheVariants.{AddInt}
use Rattle.zl_meaning.specs.FlatForm.{FlatForm}
use Rattle.zl_meaning.specs.Depends.{IsCausal}
use Rattle.zl_meaning.specs.Worked.{at, block, place, occ}
use Rattle.zl_meaning.specs.Worked.FeedbackThroughDeclarations.{form as feedback}
use Rattle.zl_meaning.specs.declared.block.BlockKind.TheVariants.{Main, Guard, State as Body}
use Rattle.zl_meaning.specs.declared.place.Definer.TheVariants.{Plain, Der, Start}
use Rattle.zl_meaning.specs.declared.occurrence.Form.TheVariants.{Lit, Read, Op as Apply, Arrow, Pre}

-- `pre` under `->` of the variable that they define.
--     let node main() = n where rec n = 0 -> pre n + 1
abbrev pub counts : FlatForm
counts = record {
  blocks = block None Main false ∷ [];
  places = place 0 None Int 0 (at 1 31) (Plain 0 2 ∷ []) ∷ [];
  occs =
      occ 0 None Int (at 1 19) (Read 0)
      ∷ occ 0 None Int (at 1 35) (Lit (I (pos 0)))
      ∷ occ 0 None Int (at 1 37) (Arrow 1 5)
      ∷ occ 0 None Int (at 1 40) (Pre 4)
      ∷ occ 0 None Int (at 1 44) (Read 0)
      ∷ occ 0 None Int (at 1 46) (Apply AddInt (3 ∷ 6 ∷ []))
      ∷ occ 0 None Int (at 1 48) (Lit (I (pos 1)))
      ∷ [];
  sites = [];
  choices = [];
  automata = [];
  again = [];
  ins = [];
  outs = 0 ∷ [];
}

-- A derivative that reads its own variable.
--     let hybrid main() = x where rec der x = x init 1.0
abbrev pub grows : FlatForm
grows = record {
  blocks = block None Main true ∷ [];
  places = place 0 None Float 0 (at 1 37) (Der 0 1 [] ∷ Start 0 2 ∷ []) ∷ [];
  occs =
      occ 0 None Float (at 1 21) (Read 0)
      ∷ occ 0 None Float (at 1 41) (Read 0)
      ∷ occ 0 None Float (at 1 48) (Lit (F (whole (pos 1))))
      ∷ [];
  sites = [];
  choices = [];
  automata = [];
  again = [];
  ins = [];
  outs = 0 ∷ [];
}

-- An `until` test that reads what its body defines.
--     let node main() = b where rec automaton
--       | A -> do b = true until (b) then B
--       | B -> do b = false done
abbrev pub leaves : FlatForm
leaves = record {
  blocks =
      block None Main false
      ∷ block (Some 0) (Guard 0 0) false
      ∷ block (Some 0) (Body 0 0) false
      ∷ block (Some 0) (Guard 0 1) false
      ∷ block (Some 0) (Body 0 1) false
      ∷ [];
  places = place 0 None BoolTy 0 (at 2 13) (Plain 2 1 ∷ Plain 4 3 ∷ []) ∷ [];
  occs =
      occ 0 None BoolTy (at 1 19) (Read 0)
      ∷ occ 2 None BoolTy (at 2 17) (Lit (B true))
      ∷ occ 2 None BoolTy (at 2 29) (Read 0)
      ∷ occ 4 None BoolTy (at 3 17) (Lit (B false))
      ∷ [];
  sites = [];
  choices = [];
  automata = record { block = 0; states = (record { strong = false; reset = true; cond = 2; target = 1 } ∷ []) ∷ [] ∷ [] } ∷ [];
  again = [];
  ins = [];
  outs = 0 ∷ [];
}

abbrev pub PreOfItselfIsCausal : Type 0
PreOfItselfIsCausal = IsCausal counts

abbrev pub DerivativeOfItselfIsCausal : Type 0
DerivativeOfItselfIsCausal = IsCausal grows

abbrev pub UntilOfItsBodyIsCausal : Type 0
UntilOfItsBodyIsCausal = IsCausal leaves

abbrev pub FeedbackIsCausal : Type 0
FeedbackIsCausal = IsCausal feedback
