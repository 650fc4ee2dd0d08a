-- The uses that a flat form records of an occurrence are no more than its parts count.
use Rattle.std.proofs.Common.{◌≡◌, ℕ, suc, ◌+◌, ◌<◌, ◌≤◌, Bool, true, false, ◌||◌, if◌then◌else◌, nat_eq, List, [], ◌∷◌, ◌++◌, length, Option, refl, arith}
use Rattle.std.specs.List.{list_any, flat_map}
use Rattle.std.proofs.lemmas.Bool.{eqb-true}
use Rattle.zl_value.specs.Lists.{among, when}
use Rattle.zl_meaning.specs.FlatForm.{FlatForm}
use Rattle.zl_meaning.specs.Uses.{PartOf, BranchOf, DefinerOf, SlopeOf, EventOf, StartOf, ResetOf, TestOf, ArgumentOf, parts, part_uses, uses_in_occs, events_of, arm_uses, definer_uses, place_uses, is_choice_test, is_reset_test, is_move_test, is_test, is_argument}
use Rattle.zl_meaning.specs.declared.block.Block.{Block}
use Rattle.zl_meaning.specs.declared.block.BlockKind.{BlockKind}
use Rattle.zl_meaning.specs.declared.block.BlockKind.TheVariants.{Main, Arm, Guard, State, Reset}
use Rattle.zl_meaning.specs.declared.block.Choice.{Choice}
use Rattle.zl_meaning.specs.declared.block.Auto.{Auto}
use Rattle.zl_meaning.specs.declared.block.AutoMove.{AutoMove}
use Rattle.zl_meaning.specs.declared.place.Definer.{Definer}
use Rattle.zl_meaning.specs.declared.place.Definer.TheVariants.{Input, Plain, Der, Start}
use Rattle.zl_meaning.specs.declared.place.DerArm.{DerArm}
use Rattle.zl_meaning.specs.declared.place.PlaceInfo.{PlaceInfo}
use Rattle.zl_meaning.specs.declared.occurrence.Form.{Form}
use Rattle.zl_meaning.specs.declared.occurrence.Form.TheVariants.{If}
use Rattle.zl_meaning.specs.declared.occurrence.Occ.{Occ}
use Rattle.zl_meaning.specs.declared.occurrence.SiteInfo.{SiteInfo}
use Rattle.zl_flat.specs.declared.given.Given.{Given}
use Rattle.zl_flat.specs.Expansion.{definers_of, with_definers, defined_places}
use Rattle.zl_flat.proofs.UsesCount.{total, numbered, in_form, in_arm, in_definer, in_given, in_kind, in_moves}

-- ---- lists

-- one, if the test holds
abbrev one_if : Bool → ℕ
one_if b = if b then 1 else 0

-- one for the number `k`, and none for any other
abbrev pub same : ℕ → ℕ → ℕ
same k n = one_if (nat_eq n k)

-- two lists
pub length-append : {X : Type 0} (xs ys : List X) → length (xs ++ ys) ≡ length xs + length ys
length-append [] ys = omega arith
length-append (x ∷ xs) ys = let e = length-append xs ys in omega (arith, e)

-- three lists
length-three : {X : Type 0} (xs ys zs : List X) → length (xs ++ ys ++ zs) ≡ length xs + length ys + length zs
length-three xs ys zs = let a = length-append (xs ++ ys) zs in let b = length-append xs ys in omega (arith, a, b)

-- one, or none
length-when : {X : Type 0} (b : Bool) (x : X) → length (when b x) ≡ one_if b
length-when true x = refl
length-when false x = refl

-- a sum of less
total-le : {X : Type 0} (f g : X → ℕ) → ((x : X) → f x ≤ g x) → (xs : List X) → total f xs ≤ total g xs
total-le f g h [] = omega arith
total-le f g h (x ∷ xs) = let a = h x in let b = total-le f g h xs in omega (arith, a, b)

-- one of two tests
one-or : (a b : Bool) → one_if (a || b) ≤ one_if a + one_if b
one-or true b = omega arith
one-or false b = omega arith

-- a test of some entry
one-any : {X : Type 0} (p : X → Bool) (xs : List X) → one_if (list_any p xs) ≤ total (λ x. one_if (p x)) xs
one-any p [] = omega arith
one-any p (x ∷ xs) = let a = one-or (p x) (list_any p xs) in let b = one-any p xs in omega (arith, a, b)

-- as often as the numbers from `n` on, one for each entry, are `k`, this number
hits : {X : Type 0} → ℕ → ℕ → ℕ → List X → ℕ
hits c k n [] = 0
hits c k n (x ∷ xs) = (if nat_eq k n then c else 0) + hits c k (n + 1) xs

-- no later number is it
hits-below : {X : Type 0} (c k n : ℕ) (xs : List X) → k < n → hits c k n xs ≡ 0
unfolding hits
hits-below c k n [] h = refl
hits-below c k n (x ∷ xs) h = by_equal (nat_eq k n) refl (hits-below c k (n + 1) xs (omega (arith, h)))
  where
    by_equal : (b : Bool) → nat_eq k n ≡ b → hits c k (n + 1) xs ≡ 0 → (if b then c else 0) + hits c k (n + 1) xs ≡ 0
    by_equal true e g = let same_number = eqb-true k n e in absurd (omega (arith, same_number, h))
    by_equal false e g = omega (arith, g)

-- at most one is
hits-le : {X : Type 0} (c k n : ℕ) (xs : List X) → hits c k n xs ≤ c
unfolding hits
hits-le c k n [] = omega arith
hits-le c k n (x ∷ xs) = by_equal (nat_eq k n) refl (hits-le c k (n + 1) xs)
  where
    by_equal : (b : Bool) → nat_eq k n ≡ b → hits c k (n + 1) xs ≤ c → (if b then c else 0) + hits c k (n + 1) xs ≤ c
    by_equal true e g =
        let same_number = eqb-true k n e in
        let none = hits-below c k (n + 1) xs (omega (arith, same_number)) in
        omega (arith, none)
    by_equal false e g = omega (arith, g)

-- a greater number is another
same-below : (k n : ℕ) → k < n → same k n ≡ 0
same-below k n h = by_equal (nat_eq n k) refl
  where
    by_equal : (b : Bool) → nat_eq n k ≡ b → one_if b ≡ 0
    by_equal true e = let same_number = eqb-true n k e in absurd (omega (arith, same_number, h))
    by_equal false e = refl

-- no later number weighs
numbered-below : {X : Type 0} (k n : ℕ) (xs : List X) → k < n → numbered (same k) n xs ≡ 0
numbered-below k n [] h = refl
numbered-below k n (x ∷ xs) h = let a = same-below k n h in let b = numbered-below k (n + 1) xs (omega (arith, h)) in omega (arith, a, b)

-- no two entries have the same number
pub numbered-once : {X : Type 0} (k n : ℕ) (xs : List X) → numbered (same k) n xs ≤ 1
numbered-once k n [] = omega arith
numbered-once k n (x ∷ xs) = by_equal (nat_eq n k) refl (numbered-once k (n + 1) xs)
  where
    by_equal : (b : Bool) → nat_eq n k ≡ b → numbered (same k) (n + 1) xs ≤ 1 → (if b then 1 else 0) + numbered (same k) (n + 1) xs ≤ 1
    by_equal true e g =
        let same_number = eqb-true n k e in
        let none = numbered-below k (n + 1) xs (omega (arith, same_number)) in
        omega (arith, none)
    by_equal false e g = omega (arith, g)

-- ---- uses are no more than counted

module _ (k : ℕ) where
  -- one of the numbers is it only if it is counted
  among-times : (ns : List ℕ) → one_if (among k ns) ≤ total (same k) ns
  among-times ns = one-any (λ j. nat_eq j k) ns

  -- a use as a part
  parts-counted : (whole : ℕ) (form : Form) → length (when (among k (parts form)) (PartOf whole)) ≤ total (same k) (parts form)
  parts-counted whole form = let a = length-when (among k (parts form)) (PartOf whole) in let b = among-times (parts form) in omega (arith, a, b)

  -- the uses by one occurrence
  pub form-counted : (whole : ℕ) (form : Form) → length (part_uses k whole form) ≤ in_form (same k) form
  form-counted whole (If c a b) =
      let x = length-when (nat_eq c k) (PartOf whole) in
      let y = length-when (nat_eq a k) (BranchOf whole c true) in
      let z = length-when (nat_eq b k) (BranchOf whole c false) in
      let e : length (part_uses k whole (If c a b)) ≡ length (when (nat_eq c k) (PartOf whole)) + length (when (nat_eq a k) (BranchOf whole c true)) + length (when (nat_eq b k) (BranchOf whole c false)) =
      length-three (when (nat_eq c k) (PartOf whole)) (when (nat_eq a k) (BranchOf whole c true)) (when (nat_eq b k) (BranchOf whole c false)) in
      omega (arith, x, y, z, e)
  form-counted whole form = parts-counted whole form

  -- the uses by occurrences
  pub occs-counted : (whole : ℕ) (occs : List Occ) → length (uses_in_occs k whole occs) ≤ total (λ (x : Occ). in_form (same k) x.form) occs
  occs-counted whole [] = omega arith
  occs-counted whole (x ∷ occs) =
      let a = form-counted whole x.form in
      let b = occs-counted (suc whole) occs in
      let e : length (uses_in_occs k whole (x ∷ occs)) ≡ length (part_uses k whole x.form) + length (uses_in_occs k (suc whole) occs) = length-append (part_uses k whole x.form) (uses_in_occs k (suc whole) occs) in
      omega (arith, a, b, e)

  -- the uses by reset arms
  arms-counted : (call : Option ℕ) (events : List ℕ) (n : ℕ) (arms : List DerArm) → length (arm_uses k call events n arms) ≤ total (in_arm (same k)) arms
  arms-counted call events n [] = omega arith
  arms-counted call events n (a ∷ arms) =
      let x = length-when (nat_eq a.event k) (EventOf call) in
      let y = length-when (nat_eq a.value k) (ResetOf call events n) in
      let z = arms-counted call events (suc n) arms in
      let e : length (arm_uses k call events n (a ∷ arms)) ≡ length (when (nat_eq a.event k) (EventOf call)) + length (when (nat_eq a.value k) (ResetOf call events n)) + length (arm_uses k call events (suc n) arms) =
      length-three (when (nat_eq a.event k) (EventOf call)) (when (nat_eq a.value k) (ResetOf call events n)) (arm_uses k call events (suc n) arms) in
      omega (arith, x, y, z, e)

  -- the uses by a definer
  pub definer-counted : (call : Option ℕ) (d : Definer) → length (definer_uses k call d) ≤ in_definer (same k) (same k) d
  definer-counted call (Input n) = omega arith
  definer-counted call (Plain b j) = let a = length-when (nat_eq j k) (DefinerOf call) in omega (arith, a)
  definer-counted call (Der b slope resets) =
      let x = length-when (nat_eq slope k) (SlopeOf call) in
      let y = arms-counted call (events_of resets) 0 resets in
      let e : length (definer_uses k call (Der b slope resets)) ≡ length (when (nat_eq slope k) (SlopeOf call)) + length (arm_uses k call (events_of resets) 0 resets) = length-append (when (nat_eq slope k) (SlopeOf call)) (arm_uses k call (events_of resets) 0 resets) in
      omega (arith, x, y, e)
  definer-counted call (Start b j) = let a = length-when (nat_eq j k) (StartOf call b) in omega (arith, a)

  -- the definers of one place, and of the places from this number on
  at_place : ℕ → List Given → ℕ
  at_place p [] = 0
  at_place p (g ∷ gs) = (if nat_eq g.place p then in_definer (same k) (same k) g.definer else 0) + at_place p gs

  -- the definers of the places from this number on
  at_places : ℕ → List PlaceInfo → List Given → ℕ
  at_places p [] gs = 0
  at_places p (x ∷ xs) gs = at_place p gs + at_places (p + 1) xs gs

  -- without definers
  no-definers : (p : ℕ) (xs : List PlaceInfo) → at_places p xs [] ≡ 0
  unfolding at_places at_place
  no-definers p [] = refl
  no-definers p (x ∷ xs) = let e = no-definers (p + 1) xs in omega (arith, e)

  -- with one definer more
  one-definer : (p : ℕ) (xs : List PlaceInfo) (g : Given) (gs : List Given) → at_places p xs (g ∷ gs) ≡ hits (in_definer (same k) (same k) g.definer) g.place p xs + at_places p xs gs
  unfolding at_places at_place hits
  one-definer p [] g gs = refl
  one-definer p (x ∷ xs) g gs = let e = one-definer (p + 1) xs g gs in omega (arith, e)

  -- each definer is one of one place
  each-once : (p : ℕ) (xs : List PlaceInfo) (gs : List Given) → at_places p xs gs ≤ total (in_given (same k) (same k)) gs
  each-once p xs [] = let e = no-definers p xs in omega (arith, e)
  each-once p xs (g ∷ gs) =
      let e = one-definer p xs g gs in
      let a = hits-le (in_definer (same k) (same k) g.definer) g.place p xs in
      let b = each-once p xs gs in
      omega (arith, e, a, b)

  -- the uses by the definers of a place
  place-counted : (call : Option ℕ) (p : ℕ) (gs : List Given) → length (flat_map (definer_uses k call) (definers_of p gs)) ≤ at_place p gs
  unfolding at_place
  place-counted call p [] = omega arith
  place-counted call p (g ∷ gs) = by_equal (nat_eq g.place p) (place-counted call p gs)
    where
      by_equal : (b : Bool) → length (flat_map (definer_uses k call) (definers_of p gs)) ≤ at_place p gs →
          length (flat_map (definer_uses k call) (if b then g.definer ∷ definers_of p gs else definers_of p gs)) ≤ (if b then in_definer (same k) (same k) g.definer else 0) + at_place p gs
      by_equal true h =
          let a = definer-counted call g.definer in
          let e = length-append (definer_uses k call g.definer) (flat_map (definer_uses k call) (definers_of p gs)) in
          omega (arith, a, e, h)
      by_equal false h = omega (arith, h)

  -- the uses by the definers of places
  places-counted : (gs : List Given) (p : ℕ) (xs : List PlaceInfo) → length (flat_map (place_uses k) (defined_places gs p xs)) ≤ at_places p xs gs
  unfolding at_places
  places-counted gs p [] = omega arith
  places-counted gs p (x ∷ xs) =
      let a = place-counted x.call p gs in
      let b = places-counted gs (p + 1) xs in
      let e = length-append (place_uses k (with_definers x (definers_of p gs))) (flat_map (place_uses k) (defined_places gs (p + 1) xs)) in
      omega (arith, a, b, e)

  -- the definers of places
  pub definers-counted : (gs : List Given) (p : ℕ) (xs : List PlaceInfo) → length (flat_map (place_uses k) (defined_places gs p xs)) ≤ total (in_given (same k) (same k)) gs
  definers-counted gs p xs = let a = places-counted gs p xs in let b = each-once p xs gs in omega (arith, a, b)

  -- ---- tests and arguments

  -- the test of a `reset` body
  kind-counted : (kind : BlockKind) → one_if (is_reset_test k kind) ≤ in_kind (same k) kind
  kind-counted Main = omega arith
  kind-counted (Arm of arm) = omega arith
  kind-counted (Guard of state) = omega arith
  kind-counted (State of state) = omega arith
  kind-counted (Reset cond) = omega arith

  -- the tests of moves
  moves-counted : (moves : List AutoMove) → one_if (list_any (λ (m : AutoMove). nat_eq m.cond k) moves) ≤ in_moves (same k) moves
  moves-counted moves = one-any (λ (m : AutoMove). nat_eq m.cond k) moves

  -- the tests of an automaton
  auto-counted : (auto : Auto) → one_if (is_move_test k auto) ≤ total (in_moves (same k)) auto.states
  auto-counted auto =
      let a = one-any (λ moves. list_any (λ (m : AutoMove). nat_eq m.cond k) moves) auto.states in
      let b = total-le (λ moves. one_if (list_any (λ (m : AutoMove). nat_eq m.cond k) moves)) (in_moves (same k)) moves-counted auto.states in
      omega (arith, a, b)

  module _ (f : FlatForm) where
    -- the tests of a form
    abbrev pub in_tests : ℕ
    in_tests = total (λ (x : Choice). total (same k) x.conds) f.choices + total (λ (x : Block). in_kind (same k) x.kind) f.blocks + total (λ (x : Auto). total (in_moves (same k)) x.states) f.automata

    -- a use as a test
    pub tests-counted : length (when (is_test f k) TestOf) ≤ in_tests
    tests-counted =
        let c = list_any (is_choice_test k) f.choices in
        let b = list_any (λ (x : Block). is_reset_test k x.kind) f.blocks in
        let a = list_any (is_move_test k) f.automata in
        let e = length-when (is_test f k) TestOf in
        let outer : one_if (is_test f k) ≤ one_if (c || b) + one_if a = one-or (c || b) a in
        let inner = one-or c b in
        let x = one-any (is_choice_test k) f.choices in
        let x2 = total-le (λ (z : Choice). one_if (is_choice_test k z)) (λ (z : Choice). total (same k) z.conds) (λ z. among-times z.conds) f.choices in
        let y = one-any (λ (z : Block). is_reset_test k z.kind) f.blocks in
        let y2 = total-le (λ (z : Block). one_if (is_reset_test k z.kind)) (λ (z : Block). in_kind (same k) z.kind) (λ z. kind-counted z.kind) f.blocks in
        let z = one-any (is_move_test k) f.automata in
        let z2 = total-le (λ (w : Auto). one_if (is_move_test k w)) (λ (w : Auto). total (in_moves (same k)) w.states) auto-counted f.automata in
        omega (arith, e, outer, inner, x, x2, y, y2, z, z2)

    -- a use as the argument of a site
    pub arguments-counted : length (when (is_argument f k) ArgumentOf) ≤ total (λ (x : SiteInfo). same k x.arg) f.sites
    arguments-counted =
        let e = length-when (is_argument f k) ArgumentOf in
        let a = one-any (λ (x : SiteInfo). nat_eq x.arg k) f.sites in
        omega (arith, e, a)
