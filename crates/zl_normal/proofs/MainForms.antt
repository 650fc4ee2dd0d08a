-- A form with one block and no automaton has the main block alone.
use Rattle.std.specs.Prelude.{◌≡◌, ℕ, suc, zero, ◌<◌, List, [], ◌∷◌, length, slice_get, Option, Some, None}
use Rattle.std.specs.List.{AllByRecursion}
use Rattle.std.proofs.Common.{refl, sym, ap, ◌∙◌, arith, subst}
use Rattle.zl_meaning.specs.FlatForm.{FlatForm}
use Rattle.zl_meaning.specs.WellFormed.{IsBlock, IsPlace, IsDefiner, IsWellFormed, Stands}
use Rattle.zl_value.specs.declared.value.Ty.{Ty}
use Rattle.zl_meaning.specs.declared.block.Auto.{Auto}
use Rattle.zl_meaning.specs.declared.block.Block.{Block}
use Rattle.zl_meaning.specs.declared.block.BlockKind.{BlockKind}
use Rattle.zl_meaning.specs.declared.block.BlockKind.TheVariants.{Main, Arm, Guard, State, Reset}
use Rattle.zl_meaning.specs.declared.place.Definer.{Definer}
use Rattle.zl_meaning.specs.declared.place.Definer.TheVariants.{Input, Plain, Der, Start}
use Rattle.zl_meaning.specs.declared.place.PlaceInfo.{PlaceInfo}
use Rattle.zl_normal.specs.MainBlock.{InMain, IsMain}

-- a list of one entry
only : {X : Type 0} (xs : List X) → length xs ≡ 1 → (x : X) × (xs ≡ x ∷ [])
only [] e = absurd (omega (arith, e))
only (x ∷ []) e = (x, refl)
only (x ∷ y ∷ xs) e = absurd (omega (arith, e))

empty : {X : Type 0} (xs : List X) → length xs ≡ 0 → xs ≡ []
empty [] e = refl
empty (x ∷ xs) e = absurd (omega (arith, e))

module _ (f : FlatForm) (formed : IsWellFormed f) (one : length f.blocks ≡ 1) where
  at_zero : (b : ℕ) → b < length f.blocks → b ≡ 0
  at_zero b l = omega (arith, one, l)

  stands_at_zero : (b k : ℕ) (ty : Ty) → Stands f b ty k → b ≡ 0
  stands_at_zero b k ty s = sym s.block ∙ at_zero s.occ.block (formed.occs k s.occ s.is).block

  first_block : (parent : Option ℕ) (kind : BlockKind) → IsBlock f 0 parent kind → (parent ≡ None) × (kind ≡ Main)
  first_block None Main is = (refl, refl)
  first_block None (Arm of arm) is = absurd is
  first_block None (Guard of state) is = absurd is
  first_block None (State of state) is = absurd is
  first_block None (Reset cond) is = absurd is
  first_block (Some parent) kind is = absurd (omega (arith, is.0))

  in_main : (p : ℕ) (place : PlaceInfo) (definer : Definer) → IsDefiner f p place definer → InMain definer
  in_main p place (Input n) is = tt
  in_main p place (Plain b k) is = stands_at_zero b k place.ty is.1
  in_main p place (Der b k arms) is = stands_at_zero b k _ is.2
  in_main p place (Start b k) is = stands_at_zero b k place.ty is.1

  all_in_main : (p : ℕ) (place : PlaceInfo) (definers : List Definer) → AllByRecursion (IsDefiner f p place) definers → AllByRecursion InMain definers
  all_in_main p place [] all = tt
  all_in_main p place (d ∷ ds) all = (in_main p place d all.0, all_in_main p place ds all.1)

  pub main_alone : length f.automata ≡ 0 → IsMain f
  main_alone none =
      let o = only f.blocks one in
      let is : slice_get f.blocks 0 ≡ Some o.0 = ap (λ (bs : List Block). slice_get bs 0) o.1 in
      let first = first_block o.0.parent o.0.kind (formed.blocks 0 o.0 is) in
      record {
        block = o.0;
        blocks = o.1;
        parent = first.0;
        kind = first.1;
        automata = empty f.automata none;
        sites = λ n site e. at_zero site.block (formed.sites n site e).block;
        occs = λ j occ e. at_zero occ.block (formed.occs j occ e).block;
        places = λ p place e. (at_zero place.block (formed.places p place e).block, all_in_main p place place.definers (formed.places p place e).definers);
      }

-- a form that has the main block alone has one block
pub one_block : (f : FlatForm) → IsMain f → (length f.blocks ≡ 1) × (length f.automata ≡ 0)
one_block f main = (ap (λ (bs : List Block). length bs) main.blocks, ap (λ (autos : List Auto). length autos) main.automata)
