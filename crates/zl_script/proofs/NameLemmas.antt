-- Names that stand twice, and the inputs that names name.
use Rattle.std.proofs.Common.{◌≡◌, ℕ, ◌<◌, Bool, true, false, ◌||◌, List, [], ◌∷◌, ◌++◌, length, map, Option, Some, None, option_map, refl, sym, ap, ap₂, ◌∙◌}
use Rattle.std.specs.Prelude.{◌==◌, option_and_then, slice_get}
use Rattle.std.specs.List.{list_any}
use Rattle.std.specs.Str.{bytes_eq}
use Rattle.std.proofs.lemmas.Bool.{or_parts, or_left, or_right, eq-eqb, eqb-true}
use Rattle.std.proofs.lemmas.List.Folds.{list_any-append}
use Rattle.std.proofs.lemmas.Slice.Eq.{bytes_eq-Decides}
use Rattle.zl_value.specs.declared.script.Input.{Input}
use Rattle.zl_value.specs.declared.script.Set.{Set}
use Rattle.zl_value.specs.declared.value.Value.{Value}
use Rattle.zl_script.specs.Assignments.{Assignment, input_of, set_at, set_of, has_twice}
use Rattle.zl_script.specs.Faults.{is_set}
use Rattle.zl_script.specs.Lists.{each}
use Rattle.zl_script.specs.Numbers.{value_for}
use Rattle.zl_script.proofs.ListLemmas.{each_first, any_at, at_position}

-- a name stands before
pub twice_at : (front : List (List ℕ)) (name : List ℕ) (more : List (List ℕ)) → list_any (bytes_eq name) front ≡ true → has_twice (front ++ name ∷ more) ≡ true
twice_at [] name more e = absurd (cc)
twice_at (n ∷ ns) name more e = go (bytes_eq name n) refl e (twice_at ns name more)
  where
    go : (b : Bool) → bytes_eq name n ≡ b → (b || list_any (bytes_eq name) ns) ≡ true → (list_any (bytes_eq name) ns ≡ true → has_twice (ns ++ name ∷ more) ≡ true)
        → (list_any (λ other. bytes_eq other n) (ns ++ name ∷ more) || has_twice (ns ++ name ∷ more)) ≡ true
    go true h e further = or_left _ (has_twice (ns ++ name ∷ more)) (any_at (λ other. bytes_eq other n) ns name more h)
    go false h e further = or_right (list_any (λ other. bytes_eq other n) (ns ++ name ∷ more)) _ (further e)

-- or doesn't
pub twice_push : (front : List (List ℕ)) (name : List ℕ) → has_twice front ≡ false → list_any (bytes_eq name) front ≡ false → has_twice (front ++ name ∷ []) ≡ false
twice_push [] name e h = refl
twice_push (n ∷ ns) name e h =
    let here = or_parts (list_any (λ other. bytes_eq other n) ns) (has_twice ns) e in
    let apart = or_parts (bytes_eq name n) (list_any (bytes_eq name) ns) h in
    let others : list_any (λ other. bytes_eq other n) (ns ++ name ∷ []) ≡ false =
    list_any-append (λ other. bytes_eq other n) ns (name ∷ []) ∙ ap₂ (λ a b. a || (b || false)) here.0 apart.0 in
    ap₂ (λ a b. a || b) others (twice_push ns name here.1 apart.1)

-- two names name one input where they are equal
pub same_input : (inputs : List Input) (m n : List ℕ) (j k : ℕ) → input_of inputs m ≡ Some j → input_of inputs n ≡ Some k → (j == k) ≡ bytes_eq n m
same_input inputs m n j k e h = go (bytes_eq n m) refl (j == k) refl
  where
    go : (a : Bool) → bytes_eq n m ≡ a → (b : Bool) → (j == k) ≡ b → b ≡ a
    go true x true y = refl
    go false x false y = refl
    go true x false y =
        let names : n ≡ m = (bytes_eq-Decides n m).0 x in
        let numbers : Some k ≡ Some j = sym h ∙ ap (input_of inputs) names ∙ e in
        let same : j ≡ k = cc in
        absurd (let f : true ≡ false = sym (eq-eqb j k same) ∙ y in cc)
    go false x true y =
        let same : j ≡ k = eqb-true j k y in
        let first = at_position (λ i. bytes_eq m i.name) inputs j e in
        let second = at_position (λ i. bytes_eq n i.name) inputs k h in
        let items : Some first.item ≡ Some second.item = sym first.is ∙ ap (slice_get inputs) same ∙ second.is in
        let item : first.item ≡ second.item = cc in
        let left : m ≡ first.item.name = (bytes_eq-Decides m first.item.name).0 first.passes in
        let right : n ≡ second.item.name = (bytes_eq-Decides n second.item.name).0 second.passes in
        let names : n ≡ m = right ∙ ap (λ i. i.name) (sym item) ∙ sym left in
        absurd (let f : true ≡ false = sym ((bytes_eq-Decides n m).1 names) ∙ x in cc)

-- what a set says of its input
pub record IsSetOf (inputs : List Input) (a : Assignment) (set : Set) : Type 0 where
  pub number : input_of inputs a.name ≡ Some set.input
  pub item : Input
  pub there : slice_get inputs set.input ≡ Some item
  pub value : value_for item.ty a.value ≡ Some set.value
  pub within : set.input < length inputs

pub set_parts : (inputs : List Input) (a : Assignment) (set : Set) → set_of inputs a ≡ Some set → IsSetOf inputs a set
set_parts inputs a set e = go (input_of inputs a.name) refl e
  where
    at : (n : ℕ) → input_of inputs a.name ≡ Some n → (i : Option Input) → slice_get inputs n ≡ i
        → option_and_then (λ i. option_map (λ v. record { input = n; value = v }) (value_for i.ty a.value)) i ≡ Some set → IsSetOf inputs a set
    at n number None there e = absurd (cc)
    at n number (Some i) there e = with_value (value_for i.ty a.value) refl e
      where
        with_value : (v : Option Value) → value_for i.ty a.value ≡ v → option_map (λ v. record { input = n; value = v }) v ≡ Some set → IsSetOf inputs a set
        with_value None h e = absurd (cc)
        with_value (Some v) h e =
            let is : record { input = n; value = v } ≡ set = cc in
            rw (← is) (record {
              number = number;
              item = i;
              there = there;
              value = h;
              within = (at_position (λ i. bytes_eq a.name i.name) inputs n number).within;
            })

    go : (n : Option ℕ) → input_of inputs a.name ≡ n → option_and_then (λ n. set_at inputs n a.value) n ≡ Some set → IsSetOf inputs a set
    go None number e = absurd (cc)
    go (Some n) number e = at n number (slice_get inputs n) refl e

-- an input is set where its name stands among the assignments
pub set_where_named : (inputs : List Input) (list : List Assignment) (sets : List Set) (name : List ℕ) (k : ℕ) → each (set_of inputs) list ≡ Some sets → input_of inputs name ≡ Some k
    → is_set sets k ≡ list_any (bytes_eq name) (map (λ a. a.name) list)
set_where_named inputs [] sets name k e h = let none : sets ≡ [] = cc in ap (λ s. is_set s k) none
set_where_named inputs (a ∷ list) sets name k e h =
    let parts = each_first (set_of inputs) a list sets e in
    ap (λ s. is_set s k) parts.is
    ∙ ap₂ (λ x y. x || y) (same_input inputs a.name name parts.first.input k (set_parts inputs a parts.first parts.at).number h)
    (set_where_named inputs list parts.rest name k parts.others h)
