-- Properties of the list of names: its words on a set of strings, and one more name.
use Rattle.std.proofs.Common.{◌≡◌, ℕ, suc, ◌+◌, ◌<◌, ◌≤◌, Bool, true, false, not, ◌||◌, cond, List, [], ◌∷◌, ◌++◌, length, map, filter, Some, None, refl, sym, ◌∙◌, ap, arith}
use Rattle.std.specs.List.{list_any, position, position_or_len, AllByRecursion, IsDistinct}
use Rattle.std.specs.Prelude.{String}
use Rattle.std.specs.String.{string_bytes, string_eq}
use Rattle.std.specs.Str.{bytes_eq}
use Rattle.std.proofs.lemmas.Bool.{cond-true, cond-false, ltb-true, or_parts, or_left, or_right, eq-eqb}
use Rattle.std.proofs.lemmas.List.{length-map, length-append, map-append, append-nil}
use Rattle.std.proofs.lemmas.List.Elements.{filter-append}
use Rattle.std.proofs.lemmas.List.Folds.{list_any-append, position_or_len_push}
use Rattle.std.proofs.lemmas.Slice.Eq.{bytes_eq-Decides}
use Rattle.indexmap.specs.IndexSet.{insert_key}
use Rattle.zl_lexer.specs.Names.{firsts, number_of, with_name}

list_any-map : {X Y : Type 0} (p : Y → Bool) (f : X → Y) (xs : List X) → list_any p (map f xs) ≡ list_any (λ x. p (f x)) xs
list_any-map p f [] = refl
list_any-map p f (x ∷ xs) = ap (λ b. p (f x) || b) (list_any-map p f xs)

position_or_len-map : {X Y : Type 0} (p : Y → Bool) (f : X → Y) (xs : List X) → position_or_len p (map f xs) ≡ position_or_len (λ x. p (f x)) xs
position_or_len-map p f [] = refl
position_or_len-map p f (x ∷ xs) = ap (λ n. cond (not (p (f x))) (1 + n) 0) (position_or_len-map p f xs)

any_before_end : {X : Type 0} (p : X → Bool) (xs : List X) → position_or_len p xs < length xs → list_any p xs ≡ true
any_before_end p [] h = absurd (omega arith)
any_before_end p (x ∷ xs) h = any_at p x xs (p x) refl (any_before_end p xs) h
  where
    any_at : {X : Type 0} (p : X → Bool) (x : X) (xs : List X) (b : Bool) → p x ≡ b → (position_or_len p xs < length xs → list_any p xs ≡ true)
        → cond (not b) (1 + position_or_len p xs) 0 < suc (length xs) → (b || list_any p xs) ≡ true
    any_at p x xs true e further h = refl
    any_at p x xs false e further h = further (omega arith)

end_where_none : {X : Type 0} (p : X → Bool) (xs : List X) → list_any p xs ≡ false → position_or_len p xs ≡ length xs
end_where_none p [] e = refl
end_where_none p (x ∷ xs) e =
    let parts = or_parts (p x) (list_any p xs) e in
    ap (λ b. cond (not b) (1 + position_or_len p xs) 0) parts.0 ∙ omega (arith, end_where_none p xs parts.1)

some_cond : (b : Bool) (a i : ℕ) → cond b (Some a) None ≡ Some i → (b ≡ true) × (a ≡ i)
some_cond true a i e = (refl, cc)
some_cond false a i e = absurd (cc)

-- a name that is found
pub record IsFound (names : List (List ℕ)) (name : List ℕ) (at : ℕ) : Type 0 where
  pub number : at ≡ number_of names name
  pub names_stay : names ≡ with_name names name

pub found : {Z : Type 0} (keys : List (String Z)) (names : List (List ℕ)) (name : List ℕ) (at : ℕ) → map string_bytes keys ≡ names
    → Some at ≡ position (λ k. bytes_eq name (string_bytes k)) keys → IsFound names name at
found keys names name at view e =
    let known = some_cond _ (position_or_len (λ k. bytes_eq name (string_bytes k)) keys) at (sym e) in
    let below : position_or_len (λ k. bytes_eq name (string_bytes k)) keys < length keys = ltb-true _ _ known.0 in
    let there : list_any (bytes_eq name) names ≡ true =
    ap (list_any (bytes_eq name)) (sym view) ∙ list_any-map (bytes_eq name) string_bytes keys ∙ any_before_end (λ k. bytes_eq name (string_bytes k)) keys below in
    record {
      number = sym known.1 ∙ sym (position_or_len-map (bytes_eq name) string_bytes keys) ∙ ap (λ ns. number_of ns name) view;
      names_stay = sym (cond-true (list_any (bytes_eq name) names) names (names ++ name ∷ []) there);
    }

-- the number of a name that isn't found
pub number_of_new : {Z : Type 0} (keys : List (String Z)) (names : List (List ℕ)) (name : List ℕ) (n : ℕ) → map string_bytes keys ≡ names
    → false ≡ list_any (λ k. bytes_eq name (string_bytes k)) keys → n ≡ length keys → n ≡ number_of names name
number_of_new keys names name n view none is =
    let absent : list_any (bytes_eq name) names ≡ false =
    ap (list_any (bytes_eq name)) (sym view) ∙ list_any-map (bytes_eq name) string_bytes keys ∙ sym none in
    is ∙ sym (length-map keys string_bytes) ∙ ap length view ∙ sym (end_where_none (bytes_eq name) names absent)

-- the names once a string is inserted
pub inserted : {Z : Type 0} (old new : List (String Z)) (names : List (List ℕ)) (name : List ℕ) (owned : String Z) → map string_bytes old ≡ names
    → string_bytes owned ≡ name → new ≡ insert_key string_eq old owned → map string_bytes new ≡ with_name names name
inserted old new names name owned view is e =
    ap (map string_bytes) e
    ∙ inserted_at old owned (list_any (string_eq owned) old) refl
    ∙ ap (λ ns. with_name ns (string_bytes owned)) view ∙ ap (with_name names) is
  where
    inserted_at : {Z : Type 0} (old : List (String Z)) (owned : String Z) (b : Bool) → list_any (string_eq owned) old ≡ b
        → map string_bytes (cond b old (old ++ owned ∷ [])) ≡ with_name (map string_bytes old) (string_bytes owned)
    inserted_at old owned true e = sym (cond-true _ _ _ (list_any-map (bytes_eq (string_bytes owned)) string_bytes old ∙ e))
    inserted_at old owned false e =
        map-append string_bytes old (owned ∷ []) ∙ sym (cond-false _ _ _ (list_any-map (bytes_eq (string_bytes owned)) string_bytes old ∙ e))

-- equality of names goes both ways
bytes_eq_flip : (xs ys : List ℕ) → bytes_eq xs ys ≡ bytes_eq ys xs
bytes_eq_flip xs ys = flip_at xs ys (bytes_eq xs ys) (bytes_eq ys xs) refl refl
  where
    flip_at : (xs ys : List ℕ) (a b : Bool) → bytes_eq xs ys ≡ a → bytes_eq ys xs ≡ b → a ≡ b
    flip_at xs ys true true e h = refl
    flip_at xs ys true false e h = let back : bytes_eq ys xs ≡ true = (bytes_eq-Decides ys xs).1 (sym ((bytes_eq-Decides xs ys).0 e)) in absurd (cc)
    flip_at xs ys false true e h = let back : bytes_eq xs ys ≡ true = (bytes_eq-Decides xs ys).1 (sym ((bytes_eq-Decides ys xs).0 h)) in absurd (cc)
    flip_at xs ys false false e h = refl

-- a list without a name has every other name
list_any-without : (x y : List ℕ) (names : List (List ℕ)) → bytes_eq x y ≡ false
    → list_any (bytes_eq x) (filter (λ other. not (bytes_eq y other)) names) ≡ list_any (bytes_eq x) names
list_any-without x y [] e = refl
list_any-without x y (name ∷ names) e = without_at x y name names (bytes_eq y name) refl e (list_any-without x y names e)
  where
    without_at : (x y name : List ℕ) (names : List (List ℕ)) (b : Bool) → bytes_eq y name ≡ b → bytes_eq x y ≡ false
        → list_any (bytes_eq x) (filter (λ other. not (bytes_eq y other)) names) ≡ list_any (bytes_eq x) names
        → list_any (bytes_eq x) (cond (not b) (name ∷ filter (λ other. not (bytes_eq y other)) names) (filter (λ other. not (bytes_eq y other)) names))
        ≡ (bytes_eq x name || list_any (bytes_eq x) names)
    without_at x y name names true is e further =
        let apart : bytes_eq x name ≡ false = ap (bytes_eq x) (sym ((bytes_eq-Decides y name).0 is)) ∙ e in
        further ∙ sym (ap (λ b. b || list_any (bytes_eq x) names) apart)
    without_at x y name names false is e further = ap (λ b. bytes_eq x name || b) further

push_at : (first name : List ℕ) (names : List (List ℕ)) (b a : Bool) → bytes_eq name first ≡ b → list_any (bytes_eq name) names ≡ a
    → first ∷ filter (λ other. not (bytes_eq first other)) (cond a names (names ++ name ∷ []))
    ≡ cond (b || list_any (bytes_eq name) (filter (λ other. not (bytes_eq first other)) names)) (first ∷ filter (λ other. not (bytes_eq first other)) names) ((first ∷ filter (λ other. not (bytes_eq first other)) names) ++ name ∷ [])
push_at first name names true true e h = refl
push_at first name names false true e h = sym (cond-true _ _ _ (list_any-without name first names e ∙ h))
push_at first name names true false e h =
    let same : bytes_eq first name ≡ true = bytes_eq_flip first name ∙ e in
    ap (λ rest. first ∷ rest) (filter-append (λ other. not (bytes_eq first other)) names (name ∷ [])
    ∙ ap (λ b. filter (λ other. not (bytes_eq first other)) names ++ cond (not b) (name ∷ []) []) same
    ∙ append-nil (filter (λ other. not (bytes_eq first other)) names))
push_at first name names false false e h =
    let apart : bytes_eq first name ≡ false = bytes_eq_flip first name ∙ e in
    ap (λ rest. first ∷ rest) (filter-append (λ other. not (bytes_eq first other)) names (name ∷ [])
    ∙ ap (λ b. filter (λ other. not (bytes_eq first other)) names ++ cond (not b) (name ∷ []) []) apart)
    ∙ sym (cond-false _ _ _ (list_any-without name first names e ∙ h))

-- one more name at the end of a list
pub firsts-push : (names : List (List ℕ)) (name : List ℕ) → firsts (names ++ name ∷ []) ≡ with_name (firsts names) name
unfolding firsts
firsts-push [] name = refl
firsts-push (first ∷ names) name =
    ap (λ ns. first ∷ filter (λ other. not (bytes_eq first other)) ns) (firsts-push names name)
    ∙ push_at first name (firsts names) (bytes_eq name first) (list_any (bytes_eq name) (firsts names)) refl refl

-- the names of a list are distinct
all-filter : {X : Type 0} (P : X → Type 0) (p : X → Bool) (xs : List X) → AllByRecursion P xs → AllByRecursion P (filter p xs)
all-filter P p [] h = tt
all-filter P p (x ∷ xs) h = all_at P p x xs (p x) h.0 (all-filter P p xs h.1)
  where
    all_at : {X : Type 0} (P : X → Type 0) (p : X → Bool) (x : X) (xs : List X) (b : Bool) → P x → AllByRecursion P (filter p xs) → AllByRecursion P (cond b (x ∷ filter p xs) (filter p xs))
    all_at P p x xs true here further = (here, further)
    all_at P p x xs false here further = further

IsDistinct-filter : {X : Type 0} (e : X → X → Bool) (p : X → Bool) (xs : List X) → IsDistinct e xs → IsDistinct e (filter p xs)
unfolding IsDistinct
IsDistinct-filter e p [] h = tt
IsDistinct-filter e p (x ∷ xs) h = distinct_at e p x xs (p x) (all-filter (λ y. e x y ≡ false) p xs h.0) (IsDistinct-filter e p xs h.1)
  where
    distinct_at : {X : Type 0} (e : X → X → Bool) (p : X → Bool) (x : X) (xs : List X) (b : Bool) → AllByRecursion (λ y. e x y ≡ false) (filter p xs) → IsDistinct e (filter p xs) → IsDistinct e (cond b (x ∷ filter p xs) (filter p xs))
    distinct_at e p x xs true here further = (here, further)
    distinct_at e p x xs false here further = further

others : (name : List ℕ) (names : List (List ℕ)) → AllByRecursion (λ y. bytes_eq name y ≡ false) (filter (λ other. not (bytes_eq name other)) names)
others name [] = tt
others name (other ∷ names) = others_at name other names (bytes_eq name other) refl (others name names)
  where
    others_at : (name other : List ℕ) (names : List (List ℕ)) (b : Bool) → bytes_eq name other ≡ b
        → AllByRecursion (λ y. bytes_eq name y ≡ false) (filter (λ o. not (bytes_eq name o)) names)
        → AllByRecursion (λ y. bytes_eq name y ≡ false) (cond (not b) (other ∷ filter (λ o. not (bytes_eq name o)) names) (filter (λ o. not (bytes_eq name o)) names))
    others_at name other names true e further = further
    others_at name other names false e further = (e, further)

pub IsDistinct-firsts : (names : List (List ℕ)) → IsDistinct bytes_eq (firsts names)
unfolding firsts IsDistinct
IsDistinct-firsts [] = tt
IsDistinct-firsts (name ∷ names) =
    (others name (firsts names), IsDistinct-filter bytes_eq (λ other. not (bytes_eq name other)) (firsts names) (IsDistinct-firsts names))

-- a name keeps its number
position_or_len-append : {X : Type 0} (p : X → Bool) (xs ys : List X) → list_any p xs ≡ true → position_or_len p (xs ++ ys) ≡ position_or_len p xs
position_or_len-append p [] ys e = absurd (cc)
position_or_len-append p (x ∷ xs) ys e = append_at p x xs ys (p x) e (position_or_len-append p xs ys)
  where
    append_at : {X : Type 0} (p : X → Bool) (x : X) (xs ys : List X) (b : Bool) → (b || list_any p xs) ≡ true → (list_any p xs ≡ true → position_or_len p (xs ++ ys) ≡ position_or_len p xs)
        → cond (not b) (1 + position_or_len p (xs ++ ys)) 0 ≡ cond (not b) (1 + position_or_len p xs) 0
    append_at p x xs ys true e further = refl
    append_at p x xs ys false e further = ap (λ n. 1 + n) (further e)

pub number_of-with_name : (names : List (List ℕ)) (name other : List ℕ) → list_any (bytes_eq name) names ≡ true → number_of (with_name names other) name ≡ number_of names name
number_of-with_name names name other e = kept_at names name other (list_any (bytes_eq other) names) e
  where
    kept_at : (names : List (List ℕ)) (name other : List ℕ) (b : Bool) → list_any (bytes_eq name) names ≡ true → number_of (cond b names (names ++ other ∷ [])) name ≡ number_of names name
    kept_at names name other true e = refl
    kept_at names name other false e = position_or_len-append (bytes_eq name) names (other ∷ []) e

-- and stays in the list
pub stays : (names : List (List ℕ)) (name other : List ℕ) → list_any (bytes_eq name) names ≡ true → list_any (bytes_eq name) (with_name names other) ≡ true
stays names name other e = stays_at names name other (list_any (bytes_eq other) names) e
  where
    stays_at : (names : List (List ℕ)) (name other : List ℕ) (b : Bool) → list_any (bytes_eq name) names ≡ true → list_any (bytes_eq name) (cond b names (names ++ other ∷ [])) ≡ true
    stays_at names name other true e = e
    stays_at names name other false e = list_any-append (bytes_eq name) names (other ∷ []) ∙ or_left _ _ e

pub is_there : (names : List (List ℕ)) (name : List ℕ) → list_any (bytes_eq name) (with_name names name) ≡ true
is_there names name = there_at names name (list_any (bytes_eq name) names) refl
  where
    there_at : (names : List (List ℕ)) (name : List ℕ) (b : Bool) → list_any (bytes_eq name) names ≡ b → list_any (bytes_eq name) (cond b names (names ++ name ∷ [])) ≡ true
    there_at names name true e = e
    there_at names name false e =
        list_any-append (bytes_eq name) names (name ∷ []) ∙ or_right (list_any (bytes_eq name) names) (bytes_eq name name || false) (or_left _ _ ((bytes_eq-Decides name name).1 refl))

pub number_of-below : (names : List (List ℕ)) (name : List ℕ) → list_any (bytes_eq name) names ≡ true → number_of names name < length names
number_of-below [] name e = absurd (cc)
number_of-below (first ∷ names) name e = below_at first names name (bytes_eq name first) e (number_of-below names name)
  where
    below_at : (first : List ℕ) (names : List (List ℕ)) (name : List ℕ) (b : Bool) → (b || list_any (bytes_eq name) names) ≡ true
        → (list_any (bytes_eq name) names ≡ true → number_of names name < length names) → cond (not b) (1 + number_of names name) 0 < suc (length names)
    below_at first names name true e further = omega arith
    below_at first names name false e further = omega (arith, further e)

pub length-with_name : (names : List (List ℕ)) (name : List ℕ) → (length names ≤ length (with_name names name)) × (length (with_name names name) ≤ length names + 1)
length-with_name names name = length_at names name (list_any (bytes_eq name) names)
  where
    length_at : (names : List (List ℕ)) (name : List ℕ) (b : Bool) → (length names ≤ length (cond b names (names ++ name ∷ []))) × (length (cond b names (names ++ name ∷ [])) ≤ length names + 1)
    length_at names name true = (omega arith, omega arith)
    length_at names name false = (omega (arith, length-append names (name ∷ [])), omega (arith, length-append names (name ∷ [])))

-- a new name gets the number that it has in the longer list
pub number_of_added : (names : List (List ℕ)) (name : List ℕ) → number_of (with_name names name) name ≡ number_of names name
number_of_added names name = added_at names name (list_any (bytes_eq name) names) refl
  where
    added_at : (names : List (List ℕ)) (name : List ℕ) (b : Bool) → list_any (bytes_eq name) names ≡ b → number_of (cond b names (names ++ name ∷ [])) name ≡ number_of names name
    added_at names name true e = refl
    added_at names name false e =
        let at_end = end_where_none (bytes_eq name) names e in
        let same : bytes_eq name name ≡ true = (bytes_eq-Decides name name).1 refl in
        position_or_len_push (bytes_eq name) names name
        ∙ cond-true _ _ _ (eq-eqb _ _ at_end)
        ∙ ap (λ b. length names + cond b 0 1) same
        ∙ omega (arith, at_end)

-- a name's number is one of the list that has it
pub number_fits : (names more : List (List ℕ)) (name : List ℕ) (n : ℕ) → n ≡ number_of names name → more ≡ with_name names name → n < length more
number_fits names more name n is e =
    omega (arith, number_of-below (with_name names name) name (is_there names name), number_of_added names name, ap length e)
