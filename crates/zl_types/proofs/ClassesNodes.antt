-- Properties of the nodes of places, and of one more node.
use Rattle.std.proofs.Common.{◌≡◌, ◌≢◌, ◌⊎◌, inl, inr, Bool, true, false, not, cond, eqb, ℕ, ◌+◌, ◌-◌, ◌<◌, ◌≤◌, List, [], ◌∷◌, ◌++◌, Option, Some, None, length, get_or, refl, sym, ◌∙◌, ap, subst, arith, length-append}
use Rattle.std.specs.List.{list_any, slice_get}
use Rattle.std.proofs.lemmas.List.{get_or_past, get_or_append_left, get_or-append_right}
use Rattle.std.proofs.lemmas.List.Folds.{position_or_len_push}
use Rattle.std.proofs.lemmas.Option.{slice_get_within, get_or_from_slice_get}
use Rattle.std.proofs.lemmas.Bool.{cases_lt, cond-true, cond-false, eq-eqb, eqb-true, or_parts, and_parts, and_from}
use Rattle.std.proofs.lemmas.Bool.Decides.{eqb_tells}
use Rattle.zl_value.specs.declared.position.Pos.{Pos}
use Rattle.zl_value.specs.declared.value.Ty.{Ty}
use Rattle.zl_ast.specs.Assignments.{Assignment}
use Rattle.zl_types.specs.declared.classes.Key.{Key}
use Rattle.zl_types.specs.Forest.{link, IsForest}
use Rattle.zl_types.specs.Classes.{SuitsOf, IsSoundOf, same_key, key_of, place_of, number_of, place_at}

-- Types that agree at the nodes suit together.

module _ (links : List ℕ) (known : List (Option Ty)) (forest : IsForest links) (alike : length known ≡ length links) (t u : ℕ → Ty)
    (agree : (i : ℕ) → i < length links → t i ≡ u i) where
  pub suits_agreeing : SuitsOf links known t → SuitsOf links known u
  suits_agreeing s =
      record {
        ties = λ i. elim (cases_lt i (length links)) [
          | inl below ↦ sym (agree i below) ∙ s.ties i ∙ agree (link links i) (omega (arith, below, forest i))
          | inr past ↦ ap u (sym (get_or_past links i i past))
        ];
        types = λ i v e. elim (cases_lt i (length links)) [
          | inl below ↦ sym (agree i below) ∙ s.types i v e
          | inr past ↦ (let clash : None ≡ Some v = sym (get_or_past known i None (omega (arith, past, alike))) ∙ e in absurd (cc))
        ];
      }

-- One more node.

-- reads of a list are as before where one more element is the default there
push-default : {X : Type 0} (xs : List X) (y d : X) (i : ℕ) → (i ≡ length xs → y ≡ d) → get_or (xs ++ y ∷ []) i d ≡ get_or xs i d
push-default xs y d i at_end =
    elim (cases_lt i (length xs)) [
      | inl below ↦ get_or_append_left xs (y ∷ []) d i below
      | inr past ↦ get_or-append_right xs (y ∷ []) (length xs) i d refl past ∙ last_at past (eqb_tells (i - length xs) 0) ∙ sym (get_or_past xs i d past)
    ]
  where
    last_at : length xs ≤ i → ((eqb (i - length xs) 0 ≡ true) × (i - length xs ≡ 0)) ⊎ ((eqb (i - length xs) 0 ≡ false) × (i - length xs ≢ 0)) → get_or (y ∷ []) (i - length xs) d ≡ d
    last_at le (inl e) = ap (λ n. get_or (y ∷ []) n d) e.1 ∙ at_end (omega (arith, e.1, le))
    last_at le (inr e) = get_or_past (y ∷ []) (i - length xs) d (omega (arith, e.1))

-- equal keys are of one place
same_place : (j k : Key) → same_key j k ≡ true → place_of k ≡ place_of j
same_place j k e =
    let parts = and_parts _ _ e in
    ap (λ l. place_of (record { line = l; column = k.column })) (sym (eqb-true j.line k.line parts.0))
    ∙ ap (λ c. place_of (record { line = j.line; column = c })) (sym (eqb-true j.column k.column parts.1))

same_itself : (k : Key) → same_key k k ≡ true
same_itself k = and_from _ _ (eq-eqb k.line k.line refl) (eq-eqb k.column k.column refl)

-- a place that has no node yet gets the number behind all
new_number : (keys : List Key) (p : Pos) → list_any (same_key (key_of p)) keys ≡ false → number_of keys p ≡ length keys
new_number [] p e = refl
new_number (k ∷ keys) p e =
    let parts = or_parts (same_key (key_of p) k) (list_any (same_key (key_of p)) keys) e in
    ap (λ b. cond (not b) (1 + number_of keys p) 0) parts.0 ∙ omega (arith, new_number keys p parts.1)

number-push : (keys : List Key) (p q : Pos)
    → number_of (keys ++ key_of p ∷ []) q ≡ cond (eqb (number_of keys q) (length keys)) (length keys + cond (same_key (key_of q) (key_of p)) 0 1) (number_of keys q)
number-push keys p q = position_or_len_push (same_key (key_of q)) keys (key_of p)

-- what a node for a place leaves
pub record IsMore (keys : List Key) (links : List ℕ) (known : List (Option Ty)) (place : Pos) (more : List Key) (longer : List ℕ) (now : List (Option Ty)) (node : ℕ) : Type 0 where
  pub sound : IsSoundOf more longer now
  pub within : node < length more
  pub here : place_at more node ≡ place
  pub grown : length keys ≤ length more
  pub places : (i : ℕ) → i < length keys → place_at more i ≡ place_at keys i
  pub fits : (a : Assignment) → SuitsOf links known (λ i. a (place_at keys i)) → SuitsOf longer now (λ i. a (place_at more i))
  pub fits_back : (a : Assignment) → SuitsOf longer now (λ i. a (place_at more i)) → SuitsOf links known (λ i. a (place_at keys i))

-- the place had a node
pub same_nodes_found : (keys : List Key) (links : List ℕ) (known : List (Option Ty)) (place : Pos) (node : ℕ) (k : Key) → IsSoundOf keys links known
    → slice_get keys node ≡ Some k → same_key (key_of place) k ≡ true → IsMore keys links known place keys links known node
same_nodes_found keys links known place node k sound at same =
    record {
      sound = sound;
      within = slice_get_within keys node k at;
      here = ap place_of (get_or_from_slice_get keys node k (record { line = 0; column = 0 }) at) ∙ same_place (key_of place) k same;
      grown = omega arith;
      places = λ i _. refl;
      fits = λ a s. s;
      fits_back = λ a s. s;
    }

module _ (keys : List Key) (links : List ℕ) (known : List (Option Ty)) (place : Pos) (sound : IsSoundOf keys links known) (absent : list_any (same_key (key_of place)) keys ≡ false) where
  new_links : (i : ℕ) → link (links ++ length keys ∷ []) i ≡ link links i
  new_links i = push-default links (length keys) i i (λ e. omega (arith, e, sound.linked))

  new_known : (i : ℕ) → get_or (known ++ None ∷ []) i None ≡ get_or known i None
  new_known i = push-default known None None i (λ _. refl)

  new_place : place_at (keys ++ key_of place ∷ []) (length keys) ≡ place
  new_place = ap place_of (get_or-append_right keys (key_of place ∷ []) (length keys) (length keys) (record { line = 0; column = 0 }) refl (omega arith)
      ∙ (let e : length keys - length keys ≡ 0 = omega arith in ap (λ n. get_or (key_of place ∷ []) n (record { line = 0; column = 0 })) e))

  old_places : (i : ℕ) → i < length keys → place_at (keys ++ key_of place ∷ []) i ≡ place_at keys i
  old_places i below = ap place_of (get_or_append_left keys (key_of place ∷ []) (record { line = 0; column = 0 }) i below)

  new_numbers : (i : ℕ) → i < length (keys ++ key_of place ∷ []) → number_of (keys ++ key_of place ∷ []) (place_at (keys ++ key_of place ∷ []) i) ≡ i
  new_numbers i below =
      elim (eqb_tells i (length keys)) [
        | inl e ↦ ap (λ j. number_of (keys ++ key_of place ∷ []) (place_at (keys ++ key_of place ∷ []) j)) e.1
            ∙ ap (number_of (keys ++ key_of place ∷ [])) new_place ∙ number-push keys place place
            ∙ cond-true _ _ _ (eq-eqb _ _ (new_number keys place absent))
            ∙ ap (λ b. length keys + cond b 0 1) (same_itself (key_of place)) ∙ omega (arith, e.1)
        | inr e ↦
            let low : i < length keys = omega (arith, below, e.1, length-append keys (key_of place ∷ [])) in
            ap (number_of (keys ++ key_of place ∷ [])) (old_places i low) ∙ number-push keys place (place_at keys i)
            ∙ cond-false _ _ _ (ap (λ n. eqb n (length keys)) (sound.numbered i low) ∙ e.0) ∙ sound.numbered i low
      ]

  suits_more : (type : ℕ → Ty) → SuitsOf links known type → SuitsOf (links ++ length keys ∷ []) (known ++ None ∷ []) type
  suits_more type s = record { ties = λ i. s.ties i ∙ ap type (sym (new_links i)); types = λ i t e. s.types i t (sym (new_known i) ∙ e) }

  suits_fewer : (type : ℕ → Ty) → SuitsOf (links ++ length keys ∷ []) (known ++ None ∷ []) type → SuitsOf links known type
  suits_fewer type s = record { ties = λ i. s.ties i ∙ ap type (new_links i); types = λ i t e. s.types i t (new_known i ∙ e) }

  agreeing : (a : Assignment) (i : ℕ) → i < length links → a (place_at (keys ++ key_of place ∷ []) i) ≡ a (place_at keys i)
  agreeing a i below = ap a (old_places i (omega (arith, below, sound.linked)))

  same_lengths : length known ≡ length links
  same_lengths = sound.typed ∙ sym sound.linked

  -- the place gets a node behind all
  pub more_nodes : IsMore keys links known place (keys ++ key_of place ∷ []) (links ++ length keys ∷ []) (known ++ None ∷ []) (length keys)
  more_nodes =
      record {
        sound = record {
          forest = λ i. omega (arith, new_links i, sound.forest i);
          linked = omega (arith, length-append links (length keys ∷ []), length-append keys (key_of place ∷ []), sound.linked);
          typed = length-append known (None ∷ []) ∙ ap (λ n. n + 1) sound.typed ∙ sym (length-append keys (key_of place ∷ []));
          at_roots = λ i t e. new_links i ∙ sound.at_roots i t (sym (new_known i) ∙ e);
          numbered = new_numbers;
        };
        within = omega (arith, length-append keys (key_of place ∷ []));
        here = new_place;
        grown = omega (arith, length-append keys (key_of place ∷ []));
        places = old_places;
        fits = λ a s. suits_more _ (suits_agreeing links known sound.forest same_lengths _ _ (λ i below. sym (agreeing a i below)) s);
        fits_back = λ a s. suits_agreeing links known sound.forest same_lengths _ _ (agreeing a) (suits_fewer _ s);
      }

pub not_there : (is_new there : Bool) → is_new ≡ not there → is_new ≡ true → there ≡ false
not_there is_new true e h = let clash : true ≡ false = sym h ∙ e in absurd (cc)
not_there is_new false e h = refl

pub there_already : (is_new there : Bool) → is_new ≡ not there → is_new ≡ false → there ≡ true
there_already is_new true e h = refl
there_already is_new false e h = let clash : true ≡ false = sym e ∙ h in absurd (cc)

-- the keys, links and known types of a new node, under other names
pub new_nodes : (keys more : List Key) (links longer : List ℕ) (known now : List (Option Ty)) (place : Pos) (node : ℕ) → IsSoundOf keys links known
    → list_any (same_key (key_of place)) keys ≡ false → node ≡ number_of keys place
    → more ≡ cond (list_any (same_key (key_of place)) keys) keys (keys ++ key_of place ∷ []) → longer ≡ links ++ node ∷ [] → now ≡ known ++ None ∷ []
    → IsMore keys links known place more longer now node
new_nodes keys more links longer known now place node sound absent is_node is_more is_longer is_now =
    let at : node ≡ length keys = is_node ∙ new_number keys place absent in
    subst (λ n. IsMore keys links known place more longer n node) (sym is_now)
    (subst (λ l. IsMore keys links known place more l (known ++ None ∷ []) node) (sym is_longer)
    (subst (λ k. IsMore keys links known place k (links ++ node ∷ []) (known ++ None ∷ []) node) (sym (is_more ∙ cond-false _ _ _ absent))
    (subst (λ n. IsMore keys links known place (keys ++ key_of place ∷ []) (links ++ n ∷ []) (known ++ None ∷ []) n) (sym at) (more_nodes keys links known place sound absent))))

-- the keys of a place that had a node, under another name
pub found_nodes : (keys more : List Key) (links : List ℕ) (known : List (Option Ty)) (place : Pos) (node : ℕ) (k : Key) → IsSoundOf keys links known
    → list_any (same_key (key_of place)) keys ≡ true → more ≡ cond (list_any (same_key (key_of place)) keys) keys (keys ++ key_of place ∷ [])
    → slice_get more node ≡ Some k → same_key (key_of place) k ≡ true → IsMore keys links known place more links known node
found_nodes keys more links known place node k sound there is_more at same =
    let e : more ≡ keys = is_more ∙ cond-true _ _ _ there in
    subst (λ ks. IsMore keys links known place ks links known node) (sym e)
    (same_nodes_found keys links known place node k sound (ap (λ ks. slice_get ks node) (sym e) ∙ at) same)
