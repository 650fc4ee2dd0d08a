use Rattle.std.proofs.Common.{rules, ◌≡◌, ℕ, ◌+◌, List, [], ◌∷◌, ◌⊎◌, inl, inr, length, refl, sym, ap, ◌∙◌, arith}
use Rattle.std.proofs.lemmas.Slice.Zip.{either_empty_from_Zip}
use Rattle.std.specs.Iterator.Adapters.{zip_first, zip_second}
use Rattle.std.specs.Slice.Iter.{iter_rest}
use Rattle.zl_meaning.specs.declared.place.Definer.TheVariants.{Plain}
use Rattle.zl_ast.specs.declared.program.Param.{Param}
use Rattle.zl_flat.specs.declared.here.Here.{Here}
use Rattle.zl_flat.specs.declared.here.Root.{Root}
use Rattle.zl_flat.specs.Parts.{Parts, joined, some_definers}
use Rattle.zl_flat.specs.Equations.{given}
use Rattle.zl_flat.specs.Expansion.{argument_definers}
use Rattle.zl_expand.proofs.PartsLaws.{more-definers, joined-nothing, some-no_definers}
use Rattle.zl_expand.proofs.copy.add_arguments.Goals as goal

module _ (here : Here) where
  -- one definer more
  one-more : (out new whole : Parts) (n m : ℕ) (xs ys : List Param) (rs qs : List Root) (x : Param) (r : Root) → new ≡ joined out (some_definers (given n (Plain here.block r.occ) ∷ [])) → m ≡ n + 1 → xs ≡ x ∷ ys → rs ≡ r ∷ qs → joined out (some_definers (argument_definers here n xs rs)) ≡ whole → joined new (some_definers (argument_definers here m ys qs)) ≡ whole
  one-more out new whole n m xs ys rs qs x r e f a b w =
      (λ j. joined (e j) (some_definers (argument_definers here (f j) ys qs)))
      ∙ more-definers out (given n (Plain here.block r.occ) ∷ []) (argument_definers here (n + 1) ys qs)
      ∙ (λ j. joined out (some_definers (argument_definers here n (sym a j) (sym b j))))
      ∙ w

  no-roots : (n : ℕ) (xs : List Param) → argument_definers here n xs [] ≡ []
  no-roots n [] = refl
  no-roots n (x ∷ xs) = refl

  none-left : (n : ℕ) (xs : List Param) (rs : List Root) → (xs ≡ []) ⊎ (rs ≡ []) → argument_definers here n xs rs ≡ []
  none-left n xs rs (inl e) = ap (λ ys. argument_definers here n ys rs) e
  none-left n xs rs (inr e) = ap (λ qs. argument_definers here n xs qs) e ∙ no-roots n xs

  -- no definer is left
  all-made : (out whole : Parts) (n : ℕ) (xs : List Param) (rs : List Root) → (xs ≡ []) ⊎ (rs ≡ []) → joined out (some_definers (argument_definers here n xs rs)) ≡ whole → out ≡ whole
  all-made out whole n xs rs e w = sym (ap (λ gs. joined out (some_definers gs)) (none-left n xs rs e) ∙ ap (joined out) some-no_definers ∙ joined-nothing out) ∙ w

pub loop-argument-init : goal.loop-argument-init
loop-argument-init c =
    let first : iter_rest (zip_first c.into_iter-argument-iterator.result) ≡ c.args.arguments.now = search rules in
    let second : iter_rest (zip_second c.into_iter-argument-iterator.result) ≡ c.args.params.now = search rules in
    ((λ j. joined c.args.out.now (some_definers (argument_definers c.args.here c.args.first (second j) (first j)))), ap (λ ps. c.args.first + length ps) second)

pub loop-argument-preserved : goal.loop-argument-preserved
loop-argument-preserved c =
    let s = c.loop-argument.argument-iterator in
    let t = c.next.new.self in
    let first : iter_rest (zip_first s) ≡ c.in-Some.argument.now ∷ iter_rest (zip_first t) = search rules in
    let second : iter_rest (zip_second s) ≡ c.in-Some._param.now ∷ iter_rest (zip_second t) = search rules in
    let behind = ap length second in
    let all = c.loop-argument.invariant.1 in
    (one-more c.args.here c.loop-argument.out c.define.new.self _ c.loop-argument.place (c.loop-argument.place + 1) _ _ _ _ c.in-Some._param.now c.in-Some.argument.now c.in_ok-define.ensures refl second first c.loop-argument.invariant.0, omega (arith, behind, all))

pub overflow_add-place : goal.overflow_add-place
overflow_add-place c =
    let s = c.loop-argument.argument-iterator in
    let t = c.next.new.self in
    let second : iter_rest (zip_second s) ≡ c.in-Some._param.now ∷ iter_rest (zip_second t) = search rules in
    let behind = ap length second in
    let all = c.loop-argument.invariant.1 in
    let h = c.requires in
    omega (arith, behind, all, h)

swapped : {P Q : Type 0} → P ⊎ Q → Q ⊎ P
swapped (inl p) = inr p
swapped (inr q) = inl q

pub returns : goal.returns
returns c =
    let s = c.loop-argument.argument-iterator in
    let t = c.next.new.self in
    let left : (iter_rest (zip_first s) ≡ []) ⊎ (iter_rest (zip_second s) ≡ []) = either_empty_from_Zip s t c.next.result c.in-None.is c.next.ensures.steps in
    all-made c.args.here c.loop-argument.out _ c.loop-argument.place _ _ (swapped left) c.loop-argument.invariant.0
