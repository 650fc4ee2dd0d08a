-- Each choice and each automaton of the flat form of a program has each of its bodies, and has it once.
use Rattle.std.proofs.Common.{◌≡◌, ℕ, ◌<◌, List, length, slice_get, Option, Some, None, refl, sym, subst, ◌∙◌, arith}
use Rattle.std.specs.Option.{option_map}
use Rattle.std.specs.List.{AllByRecursion}
use Rattle.zl_meaning.specs.FlatForm.{FlatForm, kind_of}
use Rattle.zl_meaning.specs.WellFormed.{HasBody, IsAgain, body_count}
use Rattle.zl_meaning.specs.declared.block.Block.{Block}
use Rattle.zl_meaning.specs.declared.block.BlockKind.{BlockKind}
use Rattle.zl_meaning.specs.declared.block.BlockKind.TheVariants.{Arm, Guard, State}
use Rattle.zl_meaning.specs.declared.block.Choice.{Choice}
use Rattle.zl_meaning.specs.declared.block.Auto.{Auto}
use Rattle.zl_flat.specs.Parts.{joined, one_block}
use Rattle.zl_flat.specs.Expansion.{MainOf, main_form, main_parts}
use Rattle.zl_flat.proofs.WellFormedGround.{HasKind}
use Rattle.zl_flat.proofs.WellFormedOnce.{Apart}
use Rattle.zl_flat.proofs.WellFormedOnceForm.{IsBody, only-one, main-apart}
use Rattle.zl_flat.proofs.WellFormedDecls.{IsMainKept, main-stands}

-- a block of this kind
record IsOfKind (f : FlatForm) (b : ℕ) (kind : BlockKind) : Type 0 where
  pub block : Block
  pub is : slice_get f.blocks b ≡ Some block
  pub kind_is : block.kind ≡ kind

of-kind : (f : FlatForm) (b : ℕ) (kind : BlockKind) → kind_of f b ≡ Some kind → IsOfKind f b kind
of-kind f b kind h = by_entry (slice_get f.blocks b) refl h
  where
    same : (k : BlockKind) → Some k ≡ Some kind → k ≡ kind
    same k e = cc

    no_kind : None ≡ Some kind → ⊥
    no_kind e = cc

    by_entry : (o : Option Block) → slice_get f.blocks b ≡ o → option_map (λ (block : Block). block.kind) o ≡ Some kind → IsOfKind f b kind
    by_entry None e h = absurd (no_kind h)
    by_entry (Some x) e h = record { block = x; is = e; kind_is = same x.kind h }

pub has-body : (f : FlatForm) (kind : BlockKind) → Apart f.blocks → IsBody kind → HasKind f kind → HasBody f kind
has-body f kind apart body h = record {
  body = h.body;
  is = h.is;
  only = λ b is.
      let x = of-kind f b kind is in
      let y = of-kind f h.body kind h.is in
      only-one f.blocks apart b h.body x.block y.block x.is y.is (subst IsBody (sym x.kind_is) body) (x.kind_is ∙ sym y.kind_is);
}

-- what `main` expands to has a block
pub main-some : (names : List (List ℕ)) (m : MainOf) → 0 < length (main_form names m).blocks
unfolding main_form main_parts joined one_block
main-some names m = omega arith

pub main-again : (names : List (List ℕ)) (m : MainOf) → AllByRecursion (IsAgain (main_form names m)) (main_form names m).again
unfolding main_form
main-again names m = tt

module _ (names : List (List ℕ)) (m : MainOf) (h : IsMainKept names m) where
  pub choice-bodies : (n : ℕ) (choice : Choice) → slice_get (main_form names m).choices n ≡ Some choice → (arm : ℕ) → arm < body_count choice → HasBody (main_form names m) (Arm n arm)
  choice-bodies n choice is arm lt =
      let f = main_form names m in
      let stands = main-stands names m h in
      has-body f (Arm n arm) (main-apart names m) tt ((stands.choices n choice is).bodies arm lt)

  pub automaton-guards : (n : ℕ) (auto : Auto) → slice_get (main_form names m).automata n ≡ Some auto → (state : ℕ) → state < length auto.states → HasBody (main_form names m) (Guard n state)
  automaton-guards n auto is state lt =
      let f = main_form names m in
      let stands = main-stands names m h in
      has-body f (Guard n state) (main-apart names m) tt ((stands.automata n auto is).guards state lt)

  pub automaton-bodies : (n : ℕ) (auto : Auto) → slice_get (main_form names m).automata n ≡ Some auto → (state : ℕ) → state < length auto.states → HasBody (main_form names m) (State n state)
  automaton-bodies n auto is state lt =
      let f = main_form names m in
      let stands = main-stands names m h in
      has-body f (State n state) (main-apart names m) tt ((stands.automata n auto is).bodies state lt)
