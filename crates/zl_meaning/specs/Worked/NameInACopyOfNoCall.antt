-- A form that isn't regular: `p = x` stands in the copy of an `init` value, which is no call, and `p` does not. By the table
-- of grades `p` would have grade 0, and it moves.
use Rattle.std.specs.Prelude.{ℕ, true, [], ◌∷◌, pos, Some, None}
use Rattle.zl_value.specs.Fraction.{whole}
use Rattle.zl_value.specs.declared.value.Value.TheVariants.{F}
use Rattle.zl_value.specs.declared.value.Ty.TheVariants.{Float}
use Rattle.zl_meaning.specs.FlatForm.{FlatForm}
use Rattle.zl_meaning.specs.Regular.{IsRegular}
use Rattle.zl_meaning.specs.Worked.{at, block, place, occ}
use Rattle.zl_meaning.specs.declared.block.BlockKind.TheVariants.{Main}
use Rattle.zl_meaning.specs.declared.place.Definer.TheVariants.{Der, Start, Plain}
use Rattle.zl_meaning.specs.declared.occurrence.Form.TheVariants.{Lit, Read}

-- der x = 1.0 init 0.0, p = x, init q = 0.0: occurrence 2, the name `x`, has the call 3, which is the `init` value of q
abbrev pub form : FlatForm
form = record {
  blocks = block None Main true ∷ [];
  places =
      place 0 None Float 0 (at 1 1) (Der 0 0 [] ∷ Start 0 1 ∷ [])
      ∷ place 0 None Float 1 (at 1 2) (Plain 0 2 ∷ [])
      ∷ place 0 None Float 2 (at 1 3) (Start 0 3 ∷ [])
      ∷ [];
  occs =
      occ 0 None Float (at 1 4) (Lit (F (whole (pos 1))))
      ∷ occ 0 None Float (at 1 5) (Lit (F (whole (pos 0))))
      ∷ occ 0 (Some 3) Float (at 1 6) (Read 0)
      ∷ occ 0 None Float (at 1 7) (Lit (F (whole (pos 0))))
      ∷ [];
  sites = [];
  choices = [];
  automata = [];
  again = [];
  ins = [];
  outs = 1 ∷ [];
}

abbrev pub NameInACopyOfNoCallIsRefused : Type 0
NameInACopyOfNoCallIsRefused = IsRegular form → ⊥
