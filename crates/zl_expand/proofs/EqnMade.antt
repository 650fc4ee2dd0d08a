-- What equations make, step by step: a `der`, and names that are defined by results.
use Rattle.std.proofs.Common.{◌≡◌, ℕ, List, [], ◌∷◌, length, Option, refl, sym, ap, ◌∙◌}
use Rattle.std.specs.Prelude.{OnOk}
use Rattle.std.specs.declared.result.Result.{Result}
use Rattle.zl_ast.specs.declared.name.Name.{Name}
use Rattle.zl_meaning.specs.declared.place.DerArm.{DerArm}
use Rattle.zl_flat.specs.declared.here.Here.{Here}
use Rattle.zl_flat.specs.declared.here.Root.{Root}
use Rattle.zl_flat.specs.Parts.{Parts, Counters, joined, some_definers, after}
use Rattle.zl_flat.specs.Variables.{variable_of}
use Rattle.zl_flat.specs.Instances.{Instance, in_body}
use Rattle.zl_flat.specs.Expressions.{Walk, Walked}
use Rattle.zl_flat.specs.Equations.{ResetWalk, given, derivative, start_definers, place_number, plain_definers, right_roots, name_made, names_made, start_made, resets_made, plain, der}
use Rattle.zl_expand.specs.Kept.{counters}
use Rattle.zl_expand.proofs.PartsLaws.{joined-assoc, counters-joined}
use Rattle.zl_expand.proofs.StateLemmas.{on-ok}

-- the numbers behind what is made next
behind : (out o p : Parts) (s : Counters) → o ≡ joined out p → counters out ≡ s → counters o ≡ after s p
behind out o p s e c = ap counters e ∙ counters-joined out p ∙ ap (λ s. after s p) c

module _ (base : ℕ) (names : List (List ℕ)) (i : Instance) (here : Here) where
  -- ---- a `der`

  module _ (x : Name) (slope : Walk) (start : Option Walk) (resets : List ResetWalk) (out o1 o2 o3 o4 o5 : Parts) (place occ : ℕ) (value : Option ℕ) (arms : List DerArm) where
    pub record IsDer : Type 0 where
      pub named : o1 ≡ joined out (name_made base names i x (in_body i here) (counters out))
      pub placed : place ≡ place_number (variable_of i.variables x.id)
      pub sloped : o2 ≡ joined o1 (slope here (counters o1)).parts
      pub slope_is : occ ≡ (slope here (counters o1)).root.occ
      pub started : o3 ≡ joined o2 (start_made base names i start here (counters o2)).parts
      pub start_is : value ≡ (start_made base names i start here (counters o2)).value
      pub armed : o4 ≡ joined o3 (resets_made base names i resets here (counters o3)).parts
      pub arms_are : arms ≡ (resets_made base names i resets here (counters o3)).arms

    module _ (w : IsDer) where
      abbrev first : Parts
      first = name_made base names i x (in_body i here) (counters out)

      abbrev s1 : Counters
      s1 = after (counters out) first

      abbrev e : Walked
      e = slope here s1

      abbrev s2 : Counters
      s2 = after s1 e.parts

      c1 : counters o1 ≡ s1
      c1 = behind out o1 first (counters out) w.named refl

      o2-is : o2 ≡ joined o1 e.parts
      o2-is = w.sloped ∙ ap (λ s. joined o1 (slope here s).parts) c1

      c2 : counters o2 ≡ s2
      c2 = behind o1 o2 e.parts s1 o2-is c1

      abbrev begin : Parts
      begin = (start_made base names i start here s2).parts

      o3-is : o3 ≡ joined o2 begin
      o3-is = w.started ∙ ap (λ s. joined o2 (start_made base names i start here s).parts) c2

      abbrev s3 : Counters
      s3 = after s2 begin

      c3 : counters o3 ≡ s3
      c3 = behind o2 o3 begin s2 o3-is c2

      abbrev rest : Parts
      rest = (resets_made base names i resets here s3).parts

      o4-is : o4 ≡ joined o3 rest
      o4-is = w.armed ∙ ap (λ s. joined o3 (resets_made base names i resets here s).parts) c3

      in-order : (d : Parts) → joined o4 d ≡ joined out (joined first (joined e.parts (joined begin (joined rest d))))
      in-order d =
          ap (λ o. joined o d) o4-is
          ∙ joined-assoc o3 rest d
          ∙ ap (λ o. joined o (joined rest d)) o3-is
          ∙ joined-assoc o2 begin (joined rest d)
          ∙ ap (λ o. joined o (joined begin (joined rest d))) o2-is
          ∙ joined-assoc o1 e.parts (joined begin (joined rest d))
          ∙ ap (λ o. joined o (joined e.parts (joined begin (joined rest d)))) w.named
          ∙ joined-assoc out first (joined e.parts (joined begin (joined rest d)))

      occ-is : occ ≡ e.root.occ
      occ-is = w.slope_is ∙ ap (λ s. (slope here s).root.occ) c1

      value-is : value ≡ (start_made base names i start here s2).value
      value-is = w.start_is ∙ ap (λ s. (start_made base names i start here s).value) c2

      arms-are : arms ≡ (resets_made base names i resets here s3).arms
      arms-are = w.arms_are ∙ ap (λ s. (resets_made base names i resets here s).arms) c3

      made-der : o5 ≡ joined o4 (some_definers (given place (derivative here.block occ arms) ∷ start_definers place here value)) → o5 ≡ joined out (der base names i x slope start resets here (counters out))
      made-der h =
          h
          ∙ (λ t. joined o4 (some_definers (given (w.placed t) (derivative here.block (occ-is t) (arms-are t)) ∷ start_definers (w.placed t) here (value-is t))))
          ∙ in-order _

      pub der-made : {T E : Type 0} (r : Result T E) → OnOk r (o5 ≡ joined o4 (some_definers (given place (derivative here.block occ arms) ∷ start_definers place here value))) → OnOk r (o5 ≡ joined out (der base names i x slope start resets here (counters out)))
      der-made r h = on-ok r _ _ made-der h

  -- ---- names that are defined by results

  several : (left : List Name) (e : Walked) → (length left ≡ 1 → ⊥) → right_roots left e ≡ e.results
  several [] e h = refl
  several (x ∷ []) e h = absurd (h refl)
  several (x ∷ y ∷ ys) e h = refl

  plain-in-order : (out o1 o2 o3 : Parts) (left : List Name) (right : Walk) (results : List Root) → o1 ≡ joined out (names_made base names i left (in_body i here) (counters out)) → o2 ≡ joined o1 (right here (counters o1)).parts → results ≡ right_roots left (right here (counters o1)) → o3 ≡ joined o2 (some_definers (plain_definers i here left results)) → o3 ≡ joined out (plain base names i left right here (counters out))
  plain-in-order out o1 o2 o3 left right results a b c d =
      let first = names_made base names i left (in_body i here) (counters out) in
      let c1 = behind out o1 first (counters out) a refl in
      let e = right here (after (counters out) first) in
      let b2 : o2 ≡ joined o1 e.parts = b ∙ ap (λ s. joined o1 (right here s).parts) c1 in
      let r2 : results ≡ right_roots left e = c ∙ ap (λ s. right_roots left (right here s)) c1 in
      d
      ∙ (λ t. joined (b2 t) (some_definers (plain_definers i here left (r2 t))))
      ∙ joined-assoc o1 e.parts (some_definers (plain_definers i here left (right_roots left e)))
      ∙ ap (λ o. joined o (joined e.parts (some_definers (plain_definers i here left (right_roots left e))))) a
      ∙ joined-assoc out first (joined e.parts (some_definers (plain_definers i here left (right_roots left e))))

  module _ (left : List Name) (right : Walk) (out o1 o2 o3 : Parts) (results : List Root) where
    pub record AreResults : Type 0 where
      pub named : o1 ≡ joined out (names_made base names i left (in_body i here) (counters out))
      pub many : length left ≡ 1 → ⊥
      pub made : o2 ≡ joined o1 (right here (counters o1)).parts
      pub results_are : results ≡ (right here (counters o1)).results

    pub results-define : {T E : Type 0} (r : Result T E) → AreResults → OnOk r (o3 ≡ joined o2 (some_definers (plain_definers i here left results))) → OnOk r (o3 ≡ joined out (plain base names i left right here (counters out)))
    results-define r w h =
        on-ok r _ _ (plain-in-order out o1 o2 o3 left right results w.named w.made (w.results_are ∙ sym (several left (right here (counters o1)) w.many))) h
