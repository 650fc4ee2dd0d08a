-- A form that has the main block alone has no tests and no bodies that are apart.
use Rattle.std.specs.Prelude.{◌≡◌, ℕ, zero, suc, ◌+◌, ◌<◌, Bool, true, false, if◌then◌else◌, List, [], ◌∷◌, length, slice_get, Some, None}
use Rattle.std.specs.Option.{option_map}
use Rattle.std.proofs.Common.{sym, ◌∙◌, subst, arith}
use Rattle.std.proofs.lemmas.Option.{slice_get_within}
use Rattle.zl_meaning.specs.FlatForm.{FlatForm, kind_of}
use Rattle.zl_meaning.specs.Uses.{TestOf, IsUse, AsTest, OfChoice, OfReset, OfMove}
use Rattle.zl_meaning.specs.Single.{AreBodies, OfChoice as BodiesOfChoice, OfAutomaton, AreApart}
use Rattle.zl_meaning.specs.WellFormed.{IsWellFormed, body_count}
use Rattle.zl_meaning.specs.declared.block.Auto.{Auto}
use Rattle.zl_meaning.specs.declared.block.Block.{Block}
use Rattle.zl_meaning.specs.declared.block.BlockKind.{BlockKind}
use Rattle.zl_meaning.specs.declared.block.BlockKind.TheVariants.{Main, Arm, State as Body, Reset}
use Rattle.zl_meaning.specs.declared.block.Choice.{Choice}
use Rattle.zl_meaning.proofs.WrittenForms.{some-same}
use Rattle.zl_levels.specs.MainForm.{IsMainForm}

pub none_there : {X : Type 0} {x : X} → None ≡ Some x → ⊥
none_there e = cc

bodies_not_main : (x y : BlockKind) → AreBodies x y → x ≡ Main → ⊥
bodies_not_main _ _ (BodiesOfChoice of m n ne) e = let z : Arm of m ≡ Main = e in let g : ⊥ = cc in g
bodies_not_main _ _ (OfAutomaton of m n ne) e = let z : Body of m ≡ Main = e in let g : ⊥ = cc in g

module _ (f : FlatForm) (main : IsMainForm f) where
  -- each block is the main one
  pub only_main : (b : ℕ) (kind : BlockKind) → kind_of f b ≡ Some kind → kind ≡ Main
  only_main b kind e = by b (subst (λ blocks. option_map (λ (x : Block). x.kind) (slice_get blocks b) ≡ Some kind) main.blocks e)
    where
      by : (n : ℕ) → option_map (λ (x : Block). x.kind) (slice_get (main.block ∷ []) n) ≡ Some kind → kind ≡ Main
      by zero q = some-same (sym q) ∙ main.kind
      by (suc n) q = absurd (none_there q)

  pub no_arm : (b of arm : ℕ) → kind_of f b ≡ Some (Arm of arm) → ⊥
  no_arm b of arm e = let z : Arm of arm ≡ Main = only_main b (Arm of arm) e in let g : ⊥ = cc in g

  pub no_reset : (b k : ℕ) → kind_of f b ≡ Some (Reset k) → ⊥
  no_reset b k e = let z : Reset k ≡ Main = only_main b (Reset k) e in let g : ⊥ = cc in g

  -- a choice with a test has a body
  some_body : (choice : Choice) → 0 < length choice.conds → 0 < body_count choice
  some_body choice low = by choice.other
    where
      by : (other : Bool) → 0 < (if other then length choice.conds + 1 else length choice.conds)
      by true = omega arith
      by false = low

  -- so nothing is a test
  pub no_test : IsWellFormed f → (k : ℕ) → IsUse f k TestOf → ⊥
  no_test well k (AsTest (OfReset b e)) = no_reset b k e
  no_test well k (AsTest (OfMove of auto moves move is _ _ _)) = none_there (subst (λ (autos : List Auto). slice_get autos of ≡ Some auto) main.automata is)
  no_test well k (AsTest (OfChoice of choice is has)) =
      let within : has.index < length choice.conds = slice_get_within choice.conds has.index k has.is in
      let body = (well.choices of choice is).bodies 0 (some_body choice (omega (arith, within))) in
      no_arm body.body of 0 body.is

  -- no two blocks are apart
  pub no_apart : (a b : ℕ) → AreApart f a b → ⊥
  no_apart a b apart = bodies_not_main apart.left_kind apart.right_kind apart.bodies (only_main apart.left apart.left_kind apart.left_is)
