use Rattle.std.proofs.Common.{rules, ◌≡◌, ℕ, List, [], ◌∷◌, ◌⊎◌, inl, inr, refl, sym, ap, ◌∙◌}
use Rattle.std.proofs.lemmas.Slice.Zip.{either_empty_from_Zip}
use Rattle.std.specs.Iterator.Adapters.{zip_first, zip_second}
use Rattle.std.specs.Slice.Iter.{iter_rest}
use Rattle.zl_ast.specs.declared.name.Name.{Name}
use Rattle.zl_meaning.specs.declared.place.Definer.TheVariants.{Plain}
use Rattle.zl_flat.specs.declared.here.Here.{Here}
use Rattle.zl_flat.specs.declared.here.Root.{Root}
use Rattle.zl_flat.specs.Parts.{Parts, joined, some_definers}
use Rattle.zl_flat.specs.Variables.{variable_of}
use Rattle.zl_flat.specs.Instances.{Instance}
use Rattle.zl_flat.specs.Equations.{given, place_number, plain_definers}
use Rattle.zl_expand.specs.Kept.{instance_in}
use Rattle.zl_expand.proofs.PartsLaws.{more-definers, joined-nothing, some-no_definers}
use Rattle.zl_expand.proofs.eqns.define_names.Goals as goal

module _ (i : Instance) (here : Here) where
  -- one definer more
  one-more : (out new whole : Parts) (xs ys : List Name) (rs qs : List Root) (x : Name) (r : Root) (p : ℕ) → new ≡ joined out (some_definers (given p (Plain here.block r.occ) ∷ [])) → p ≡ place_number (variable_of i.variables x.id) → xs ≡ x ∷ ys → rs ≡ r ∷ qs → joined out (some_definers (plain_definers i here xs rs)) ≡ whole → joined new (some_definers (plain_definers i here ys qs)) ≡ whole
  one-more out new whole xs ys rs qs x r p e n a b w =
      (λ j. joined (e j) (some_definers (plain_definers i here ys qs)))
      ∙ more-definers out (given p (Plain here.block r.occ) ∷ []) (plain_definers i here ys qs)
      ∙ ap (λ q. joined out (some_definers (given q (Plain here.block r.occ) ∷ plain_definers i here ys qs))) n
      ∙ (λ j. joined out (some_definers (plain_definers i here (sym a j) (sym b j))))
      ∙ w

  no-roots : (xs : List Name) → plain_definers i here xs [] ≡ []
  no-roots [] = refl
  no-roots (x ∷ xs) = refl

  none-left : (xs : List Name) (rs : List Root) → (xs ≡ []) ⊎ (rs ≡ []) → plain_definers i here xs rs ≡ []
  none-left xs rs (inl e) = ap (λ ys. plain_definers i here ys rs) e
  none-left xs rs (inr e) = ap (λ qs. plain_definers i here xs qs) e ∙ no-roots xs

  -- no definer is left
  all-made : (out whole : Parts) (xs : List Name) (rs : List Root) → (xs ≡ []) ⊎ (rs ≡ []) → joined out (some_definers (plain_definers i here xs rs)) ≡ whole → out ≡ whole
  all-made out whole xs rs e w = sym (ap (λ gs. joined out (some_definers gs)) (none-left xs rs e) ∙ ap (joined out) some-no_definers ∙ joined-nothing out) ∙ w

pub loop-name-init : goal.loop-name-init
loop-name-init c =
    let first : iter_rest (zip_first c.into_iter-name-iterator.result) ≡ c.args.names.now = search rules in
    let second : iter_rest (zip_second c.into_iter-name-iterator.result) ≡ c.args.roots.now = search rules in
    λ j. joined c.args.out.now (some_definers (plain_definers (instance_in c.args.instance.now) c.args.here (first j) (second j)))

pub loop-name-preserved : goal.loop-name-preserved
loop-name-preserved c =
    let s = c.loop-name.name-iterator in
    let t = c.next.new.self in
    let first : iter_rest (zip_first s) ≡ c.in-Some.name.now ∷ iter_rest (zip_first t) = search rules in
    let second : iter_rest (zip_second s) ≡ c.in-Some.root.now ∷ iter_rest (zip_second t) = search rules in
    one-more (instance_in c.args.instance.now) c.args.here c.loop-name.out c.define.new.self _ _ _ _ _ c.in-Some.name.now c.in-Some.root.now c.in_ok-place.place c.in_ok-define.ensures c.in_ok-place.ensures first second c.loop-name.invariant

pub returns : goal.returns
returns c =
    let s = c.loop-name.name-iterator in
    let t = c.next.new.self in
    let left : (iter_rest (zip_first s) ≡ []) ⊎ (iter_rest (zip_second s) ≡ []) = either_empty_from_Zip s t c.next.result c.in-None.is c.next.ensures.steps in
    all-made (instance_in c.args.instance.now) c.args.here c.loop-name.out _ _ _ left c.loop-name.invariant
