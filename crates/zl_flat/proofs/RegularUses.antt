-- From the entries of a flat form to the uses of its occurrences, and back.
use Rattle.std.proofs.Common.{◌≡◌, ℕ, zero, suc, ◌+◌, Bool, true, false, ◌||◌, nat_eq, List, [], ◌∷◌, ◌++◌, slice_get, Option, Some, refl, sym, ap, subst, ◌∙◌, arith}
use Rattle.std.specs.List.{AllByRecursion, list_any, flat_map}
use Rattle.std.proofs.lemmas.Bool.{eqb-true, eq-eqb}
use Rattle.zl_value.specs.Lists.{among, when}
use Rattle.zl_meaning.specs.FlatForm.{FlatForm}
use Rattle.zl_meaning.specs.Uses.{Use, PartOf, BranchOf, EventOf, ResetOf, TestOf, ArgumentOf, AgainOf, part_uses, uses_in_occs, arm_uses, definer_uses, place_uses, is_choice_test, is_reset_test, is_move_test, is_test, is_argument, events_of, uses_of}
use Rattle.zl_meaning.specs.Regular.{Context}
use Rattle.zl_meaning.specs.declared.block.Block.{Block}
use Rattle.zl_meaning.specs.declared.block.BlockKind.{BlockKind}
use Rattle.zl_meaning.specs.declared.block.BlockKind.TheVariants.{Main, Arm, Guard, State, Reset}
use Rattle.zl_meaning.specs.declared.block.Choice.{Choice}
use Rattle.zl_meaning.specs.declared.block.Auto.{Auto}
use Rattle.zl_meaning.specs.declared.block.AutoMove.{AutoMove}
use Rattle.zl_meaning.specs.declared.place.Definer.{Definer}
use Rattle.zl_meaning.specs.declared.place.Definer.TheVariants.{Input, Plain, Der, Start}
use Rattle.zl_meaning.specs.declared.place.DerArm.{DerArm}
use Rattle.zl_meaning.specs.declared.place.PlaceInfo.{PlaceInfo}
use Rattle.zl_meaning.specs.declared.occurrence.Form.{Form}
use Rattle.zl_meaning.specs.declared.occurrence.Form.TheVariants.{Lit, Read, Last, Op as Apply, If, Arrow, Pre, Result, Up, Fired, Step}
use Rattle.zl_meaning.specs.declared.occurrence.Occ.{Occ}
use Rattle.zl_meaning.specs.declared.occurrence.SiteInfo.{SiteInfo}
use Rattle.zl_flat.proofs.WellFormedParts.{AllFrom, all-append}
use Rattle.zl_flat.proofs.RulesKept.{none-left, none-right}
use Rattle.zl_flat.proofs.RegularGround.{UsedSo, PartsUsed, ArmsUsed, DefinerUsed, TestUsed, KindUsed, MovesRegular}

-- ---- lists

-- what follows from what holds of each
pub all-map : {X : Type 0} (P Q : X → Type 0) → ((x : X) → P x → Q x) → (xs : List X) → AllByRecursion P xs → AllByRecursion Q xs
all-map P Q g [] h = tt
all-map P Q g (x ∷ xs) h = (g x h.0, all-map P Q g xs h.1)

-- one of two truths is enough
or-right : (a b : Bool) → b ≡ true → (a || b) ≡ true
or-right true b h = refl
or-right false b h = h

or-left : (a b : Bool) → a ≡ true → (a || b) ≡ true
or-left a b h = ap (λ c. c || b) h

-- each entry of a list decides a test of the list
pub each-any : {X : Type 0} (xs : List X) → AllByRecursion (λ x. (p : X → Bool) → p x ≡ true → list_any p xs ≡ true) xs
each-any [] = tt
each-any {X = X} (x ∷ xs) = (
  λ p h. or-left (p x) (list_any p xs) h,
  all-map (λ y. (p : X → Bool) → p y ≡ true → list_any p xs ≡ true) (λ y. (p : X → Bool) → p y ≡ true → list_any p (x ∷ xs) ≡ true)
      (λ y h p e. or-right (p x) (list_any p xs) (h p e)) xs (each-any xs),
)

-- an entry that is found decides a test of the list
get-any : {X : Type 0} (xs : List X) (n : ℕ) (x : X) (p : X → Bool) → slice_get xs n ≡ Some x → p x ≡ true → list_any p xs ≡ true
get-any [] n x p is h = absurd (cc)
get-any {X = X} (y ∷ ys) zero x p is h = or-left (p y) (list_any p ys) (ap p (the-same is) ∙ h)
  where
    the-same : Some y ≡ Some x → y ≡ x
    the-same e = cc
get-any (y ∷ ys) (suc n) x p is h = or-right (p y) (list_any p ys) (get-any ys n x p is h)

-- what decides a test of a list is one of its entries
any-case : {X : Type 0} (R : Type 0) (p : X → Bool) (Q : X → Type 0) (xs : List X) → ((x : X) → p x ≡ true → Q x → R) → AllByRecursion Q xs → list_any p xs ≡ true → R
any-case R p Q [] g h e = absurd (cc)
any-case R p Q (x ∷ xs) g h e = by_first (p x) refl e (any-case R p Q xs g h.1)
  where
    by_first : (b : Bool) → p x ≡ b → (b || list_any p xs) ≡ true → (list_any p xs ≡ true → R) → R
    by_first true is e more = g x is h.0
    by_first false is e more = more e

-- what holds of the one, if it is there
when-all : {X : Type 0} (P : X → Type 0) (b : Bool) (x : X) → (b ≡ true → P x) → AllByRecursion P (when b x)
when-all P true x h = (h refl, tt)
when-all P false x h = tt

-- it is there where the test holds
not-when : {X : Type 0} (b : Bool) (x : X) → b ≡ true → when b x ≡ [] → ⊥
not-when true x h e = cc
not-when false x h e = cc

-- ---- what names an occurrence uses it

-- nothing uses occurrence number `k`
abbrev pub Free : FlatForm → ℕ → Type 0
Free f k = uses_of f k ≡ []

-- something does
abbrev pub Taken : FlatForm → ℕ → Type 0
Taken f k = Free f k → ⊥

module _ (f : FlatForm) (k : ℕ) (free : Free f k) where
  -- the uses by definers, tests, sites and `again`
  abbrev definers : List Use
  definers = flat_map (place_uses k) f.places

  abbrev tests : List Use
  tests = when (is_test f k) TestOf

  abbrev arguments : List Use
  arguments = when (is_argument f k) ArgumentOf

  abbrev again : List Use
  again = when (among k f.again) AgainOf

  -- none of them is there
  free-arguments : (uses_in_occs k 0 f.occs ++ definers ++ tests) ++ arguments ≡ []
  free-arguments = none-left ((uses_in_occs k 0 f.occs ++ definers ++ tests) ++ arguments) again free

  free-tests : uses_in_occs k 0 f.occs ++ definers ++ tests ≡ []
  free-tests = none-left (uses_in_occs k 0 f.occs ++ definers ++ tests) arguments free-arguments

  free-definers : uses_in_occs k 0 f.occs ++ definers ≡ []
  free-definers = none-left (uses_in_occs k 0 f.occs ++ definers) tests free-tests

  -- behind any number of occurrences
  in-occs : (xs : List Occ) (m n : ℕ) (occ : Occ) → uses_in_occs k m xs ≡ [] → slice_get xs n ≡ Some occ → part_uses k (m + n) occ.form ≡ []
  in-occs [] m n occ h is = absurd (cc)
  in-occs (x ∷ xs) m zero occ h is = subst (λ j. part_uses k j occ.form ≡ []) (no_more m) (subst (λ (o : Occ). part_uses k m o.form ≡ []) (the-same is) (none-left (part_uses k m x.form) (uses_in_occs k (suc m) xs) h))
    where
      no_more : (m : ℕ) → m ≡ m + 0
      no_more m = omega arith

      the-same : Some x ≡ Some occ → x ≡ occ
      the-same e = cc
  in-occs (x ∷ xs) m (suc n) occ h is = subst (λ j. part_uses k j occ.form ≡ []) (one_more m n) (in-occs xs (suc m) n occ (none-right (part_uses k m x.form) (uses_in_occs k (suc m) xs) h) is)
    where
      one_more : (m n : ℕ) → suc m + n ≡ m + suc n
      one_more m n = omega arith

  -- it is no part of an occurrence
  pub no-part : (n : ℕ) (occ : Occ) → slice_get f.occs n ≡ Some occ → part_uses k n occ.form ≡ []
  no-part n occ is = subst (λ j. part_uses k j occ.form ≡ []) (none_more n) (in-occs f.occs 0 n occ (none-left (uses_in_occs k 0 f.occs) definers free-definers) is)
    where
      none_more : (n : ℕ) → 0 + n ≡ n
      none_more n = omega arith

  -- and places
  in-places : (xs : List PlaceInfo) (p : ℕ) (place : PlaceInfo) → flat_map (place_uses k) xs ≡ [] → slice_get xs p ≡ Some place → place_uses k place ≡ []
  in-places [] p place h is = absurd (cc)
  in-places (x ∷ xs) zero place h is = subst (λ (q : PlaceInfo). place_uses k q ≡ []) (the-same is) (none-left (place_uses k x) (flat_map (place_uses k) xs) h)
    where
      the-same : Some x ≡ Some place → x ≡ place
      the-same e = cc
  in-places (x ∷ xs) (suc p) place h is = in-places xs p place (none-right (place_uses k x) (flat_map (place_uses k) xs) h) is

  -- no definer of a place names it
  pub no-definer : (p : ℕ) (place : PlaceInfo) → slice_get f.places p ≡ Some place → place_uses k place ≡ []
  no-definer p place is = in-places f.places p place (none-right (uses_in_occs k 0 f.occs) definers free-definers) is

  -- nothing tests it
  no-test : is_test f k ≡ true → ⊥
  no-test h = not-when (is_test f k) TestOf h (none-right (uses_in_occs k 0 f.occs ++ definers) tests free-tests)

  -- no site has it as argument
  no-argument : is_argument f k ≡ true → ⊥
  no-argument h = not-when (is_argument f k) ArgumentOf h (none-right (uses_in_occs k 0 f.occs ++ definers ++ tests) arguments free-arguments)

module _ (f : FlatForm) where
  -- a number is itself
  same : (k : ℕ) → nat_eq k k ≡ true
  same k = eq-eqb k k refl

  -- a test of a choice, of a `reset` body, of a move
  by-choice : (k : ℕ) → list_any (is_choice_test k) f.choices ≡ true → is_test f k ≡ true
  by-choice k h =
      or-left (list_any (is_choice_test k) f.choices || list_any (λ (block : Block). is_reset_test k block.kind) f.blocks) (list_any (is_move_test k) f.automata)
      (or-left (list_any (is_choice_test k) f.choices) (list_any (λ (block : Block). is_reset_test k block.kind) f.blocks) h)

  by-reset : (k : ℕ) → list_any (λ (block : Block). is_reset_test k block.kind) f.blocks ≡ true → is_test f k ≡ true
  by-reset k h =
      or-left (list_any (is_choice_test k) f.choices || list_any (λ (block : Block). is_reset_test k block.kind) f.blocks) (list_any (is_move_test k) f.automata)
      (or-right (list_any (is_choice_test k) f.choices) (list_any (λ (block : Block). is_reset_test k block.kind) f.blocks) h)

  by-move : (k : ℕ) → list_any (is_move_test k) f.automata ≡ true → is_test f k ≡ true
  by-move k h = or-right (list_any (is_choice_test k) f.choices || list_any (λ (block : Block). is_reset_test k block.kind) f.blocks) (list_any (is_move_test k) f.automata) h

  -- the tests of a choice are used
  pub choice-takes : (n : ℕ) (choice : Choice) → slice_get f.choices n ≡ Some choice → AllByRecursion (Taken f) choice.conds
  choice-takes n choice is = all-map (λ k. (p : ℕ → Bool) → p k ≡ true → list_any p choice.conds ≡ true) (Taken f)
      (λ k h free. no-test f k free (by-choice k (get-any f.choices n choice (is_choice_test k) is (h (λ j. nat_eq j k) (same k)))))
      choice.conds (each-any choice.conds)

  -- the test of a `reset` body is
  pub reset-takes : (b k : ℕ) (block : Block) → slice_get f.blocks b ≡ Some block → block.kind ≡ Reset k → Taken f k
  reset-takes b k block is kind free = no-test f k free (by-reset k (get-any f.blocks b block (λ (block : Block). is_reset_test k block.kind) is (ap (is_reset_test k) kind ∙ same k)))

  -- the tests of these moves are used
  abbrev pub MovesTaken : List AutoMove → Type 0
  MovesTaken moves = AllByRecursion (λ (move : AutoMove). Taken f move.cond) moves

  -- the tests of the moves of an automaton are
  pub automaton-takes : (n : ℕ) (auto : Auto) → slice_get f.automata n ≡ Some auto → AllByRecursion MovesTaken auto.states
  automaton-takes n auto is = all-map (λ moves. (p : List AutoMove → Bool) → p moves ≡ true → list_any p auto.states ≡ true) MovesTaken
      (λ moves h. all-map (λ move. (p : AutoMove → Bool) → p move ≡ true → list_any p moves ≡ true) (λ (move : AutoMove). Taken f move.cond)
      (λ move g free. no-test f move.cond free (by-move move.cond (get-any f.automata n auto (is_move_test move.cond) is
      (h (λ moves. list_any (λ (other : AutoMove). nat_eq other.cond move.cond) moves) (g (λ (other : AutoMove). nat_eq other.cond move.cond) (same move.cond))))))
      moves (each-any moves))
      auto.states (each-any auto.states)

  -- the argument of a site is
  pub site-takes : (n : ℕ) (site : SiteInfo) → slice_get f.sites n ≡ Some site → Taken f site.arg
  site-takes n site is free = no-argument f site.arg free (get-any f.sites n site (λ (other : SiteInfo). nat_eq other.arg site.arg) is (same site.arg))

  -- a number of a list is used by what names the list
  not-among : (k : ℕ) (n : ℕ) (ks : List ℕ) → among k ks ≡ true → when (among k ks) (PartOf n) ≡ [] → ⊥
  not-among k n ks h e = not-when (among k ks) (PartOf n) h e

  -- the operands of an operator are, and so are the zero-crossings of an event
  pub operands-taken : (n : ℕ) (occ : Occ) (ks : List ℕ) → slice_get f.occs n ≡ Some occ → ((k : ℕ) → part_uses k n occ.form ≡ when (among k ks) (PartOf n)) → AllByRecursion (Taken f) ks
  operands-taken n occ ks is form = all-map (λ k. (p : ℕ → Bool) → p k ≡ true → list_any p ks ≡ true) (Taken f)
      (λ k h free. not-among k n ks (h (λ j. nat_eq j k) (same k)) (sym (form k) ∙ no-part f k free n occ is)) ks (each-any ks)

  -- the condition and the branches of an `if` are
  pub condition-taken : (n : ℕ) (occ : Occ) (c x y : ℕ) → slice_get f.occs n ≡ Some occ → occ.form ≡ If c x y → Taken f c × Taken f x × Taken f y
  condition-taken n occ c x y is form = (
    λ free. not-when (nat_eq c c) (PartOf n) (same c) (none-left (when (nat_eq c c) (PartOf n)) (when (nat_eq x c) (BranchOf n c true)) (none-left (when (nat_eq c c) (PartOf n) ++ when (nat_eq x c) (BranchOf n c true)) (when (nat_eq y c) (BranchOf n c false)) (found c free))),
    λ free. not-when (nat_eq x x) (BranchOf n c true) (same x) (none-right (when (nat_eq c x) (PartOf n)) (when (nat_eq x x) (BranchOf n c true)) (none-left (when (nat_eq c x) (PartOf n) ++ when (nat_eq x x) (BranchOf n c true)) (when (nat_eq y x) (BranchOf n c false)) (found x free))),
    λ free. not-when (nat_eq y y) (BranchOf n c false) (same y) (none-right (when (nat_eq c y) (PartOf n) ++ when (nat_eq x y) (BranchOf n c true)) (when (nat_eq y y) (BranchOf n c false)) (found y free)),
  )
    where
      found : (k : ℕ) → Free f k → part_uses k n (If c x y) ≡ []
      found k free = ap (part_uses k n) (sym form) ∙ no-part f k free n occ is

-- ---- what is used is named

module _ (f : FlatForm) (context : ℕ → Context) (k : ℕ) where
  -- the occurrence fits each of these uses
  abbrev AllUsed : List Use → Type 0
  AllUsed uses = AllByRecursion (UsedSo f context k) uses

  -- what is named fits its use, whichever number names it
  named : (j : ℕ) (of : Use) → UsedSo f context j of → nat_eq j k ≡ true → UsedSo f context k of
  named j of h e = subst (λ n. UsedSo f context n of) (eqb-true j k e) h

  one-used : (j : ℕ) (of : Use) → UsedSo f context j of → AllUsed (when (nat_eq j k) of)
  one-used j of h = when-all (UsedSo f context k) (nat_eq j k) of (named j of h)

  -- one of several operands fits its use
  operands-used : (n : ℕ) (ks : List ℕ) → AllByRecursion (λ j. UsedSo f context j (PartOf n)) ks → AllUsed (when (among k ks) (PartOf n))
  operands-used n ks h = when-all (UsedSo f context k) (among k ks) (PartOf n)
      (any-case (UsedSo f context k (PartOf n)) (λ j. nat_eq j k) (λ j. UsedSo f context j (PartOf n)) ks (λ j e g. named j (PartOf n) g e) h)

  -- a part of an occurrence fits its use
  parts-used : (n : ℕ) (form : Form) → PartsUsed f context n form → AllUsed (part_uses k n form)
  parts-used n (Lit v) h = operands-used n [] h
  parts-used n (Read p) h = operands-used n [] h
  parts-used n (Last p) h = operands-used n [] h
  parts-used n (Apply op ks) h = operands-used n ks h
  parts-used n (If c x y) h =
      all-append (UsedSo f context k) (when (nat_eq c k) (PartOf n) ++ when (nat_eq x k) (BranchOf n c true)) (when (nat_eq y k) (BranchOf n c false))
      (all-append (UsedSo f context k) (when (nat_eq c k) (PartOf n)) (when (nat_eq x k) (BranchOf n c true)) (one-used c (PartOf n) h.0) (one-used x (BranchOf n c true) h.1))
      (one-used y (BranchOf n c false) h.2)
  parts-used n (Arrow x y) h = operands-used n (x ∷ y ∷ []) h
  parts-used n (Pre x) h = operands-used n (x ∷ []) h
  parts-used n (Result x) h = operands-used n (x ∷ []) h
  parts-used n (Up s) h = operands-used n [] h
  parts-used n (Fired ks) h = operands-used n ks h
  parts-used n Step h = operands-used n [] h

  -- so does a part of one of several
  occs-used : (m n : ℕ) → m ≡ n → (xs : List Occ) → AllFrom (λ j (x : Occ). PartsUsed f context j x.form) m xs → AllUsed (uses_in_occs k n xs)
  occs-used m n e [] h = tt
  occs-used m n e (x ∷ xs) h =
      all-append (UsedSo f context k) (part_uses k n x.form) (uses_in_occs k (suc n) xs) (parts-used n x.form (subst (λ j. PartsUsed f context j x.form) e h.0))
      (occs-used (m + 1) (suc n) (omega (arith, e)) xs h.1)

  -- what a reset arm names fits its use
  arms-used : (call : Option ℕ) (events : List ℕ) (n : ℕ) (arms : List DerArm) → ArmsUsed f context call events n arms → AllUsed (arm_uses k call events n arms)
  arms-used call events n [] h = tt
  arms-used call events n (arm ∷ arms) h =
      all-append (UsedSo f context k) (when (nat_eq arm.event k) (EventOf call) ++ when (nat_eq arm.value k) (ResetOf call events n)) (arm_uses k call events (suc n) arms)
      (all-append (UsedSo f context k) (when (nat_eq arm.event k) (EventOf call)) (when (nat_eq arm.value k) (ResetOf call events n)) (one-used arm.event (EventOf call) h.0) (one-used arm.value (ResetOf call events n) h.1))
      (arms-used call events (suc n) arms h.2)

  -- so does what a definer names
  definer-used : (call : Option ℕ) (definer : Definer) → DefinerUsed f context call definer → AllUsed (definer_uses k call definer)
  definer-used call (Input n) h = tt
  definer-used call (Plain b j) h = one-used j _ h
  definer-used call (Der b slope resets) h =
      all-append (UsedSo f context k) _ (arm_uses k call (events_of resets) 0 resets) (one-used slope _ h.0) (arms-used call (events_of resets) 0 resets h.1)
  definer-used call (Start b j) h = one-used j _ h

  -- the uses of several things, one behind the other
  all-flat_map : {X : Type 0} (g : X → List Use) (xs : List X) → AllByRecursion (λ x. AllUsed (g x)) xs → AllUsed (flat_map g xs)
  all-flat_map g [] h = tt
  all-flat_map g (x ∷ xs) h = all-append (UsedSo f context k) (g x) (flat_map g xs) h.0 (all-flat_map g xs h.1)

  -- what the definers of a place name fits its use
  abbrev pub PlaceUsed : PlaceInfo → Type 0
  PlaceUsed place = AllByRecursion (DefinerUsed f context place.call) place.definers

  -- then so does each use by them
  place-used : (place : PlaceInfo) → PlaceUsed place → AllUsed (place_uses k place)
  place-used place h = all-flat_map (definer_uses k place.call) place.definers
      (all-map (DefinerUsed f context place.call) (λ d. AllUsed (definer_uses k place.call d)) (definer-used place.call) place.definers h)

  -- the test of a `reset` body fits its use
  kind-used : (kind : BlockKind) → is_reset_test k kind ≡ true → KindUsed f context kind → UsedSo f context k TestOf
  kind-used Main e h = absurd (cc)
  kind-used (Arm of arm) e h = absurd (cc)
  kind-used (Guard of state) e h = absurd (cc)
  kind-used (State of state) e h = absurd (cc)
  kind-used (Reset cond) e h = named cond TestOf h e

  -- what the entries of the form ask of what they name
  pub record EntriesUsed : Type 0 where
    pub occs : AllFrom (λ j (x : Occ). PartsUsed f context j x.form) 0 f.occs
    pub places : AllByRecursion PlaceUsed f.places
    pub blocks : AllByRecursion (λ (x : Block). KindUsed f context x.kind) f.blocks
    pub choices : AllByRecursion (λ (x : Choice). AllByRecursion (TestUsed f context) x.conds) f.choices
    pub automata : AllByRecursion (λ (x : Auto). AllByRecursion (MovesRegular f context) x.states) f.automata
    pub sites : AllByRecursion (λ (x : SiteInfo). UsedSo f context x.arg ArgumentOf) f.sites
    pub again : f.again ≡ []

  module _ (h : EntriesUsed) where
    -- so do those of choices and of moves
    choice-used : (x : Choice) → is_choice_test k x ≡ true → AllByRecursion (TestUsed f context) x.conds → UsedSo f context k TestOf
    choice-used x e g = any-case (UsedSo f context k TestOf) (λ j. nat_eq j k) (TestUsed f context) x.conds (λ j e g. named j TestOf g e) g e

    moves-used : (moves : List AutoMove) → list_any (λ (move : AutoMove). nat_eq move.cond k) moves ≡ true → MovesRegular f context moves → UsedSo f context k TestOf
    moves-used moves e g = any-case (UsedSo f context k TestOf) (λ (move : AutoMove). nat_eq move.cond k) (λ (move : AutoMove). TestUsed f context move.cond) moves (λ move e g. named move.cond TestOf g e) g e

    automaton-used : (x : Auto) → is_move_test k x ≡ true → AllByRecursion (MovesRegular f context) x.states → UsedSo f context k TestOf
    automaton-used x e g = any-case (UsedSo f context k TestOf) (λ moves. list_any (λ (move : AutoMove). nat_eq move.cond k) moves) (MovesRegular f context) x.states moves-used g e

    -- an occurrence that is a test fits that use
    test-used : is_test f k ≡ true → UsedSo f context k TestOf
    test-used e = by_choice (list_any (is_choice_test k) f.choices) refl e
      where
        by_automaton : list_any (is_move_test k) f.automata ≡ true → UsedSo f context k TestOf
        by_automaton e = any-case (UsedSo f context k TestOf) (is_move_test k) (λ (x : Auto). AllByRecursion (MovesRegular f context) x.states) f.automata automaton-used h.automata e

        by_block : (b : Bool) → list_any (λ (block : Block). is_reset_test k block.kind) f.blocks ≡ b → (b || list_any (is_move_test k) f.automata) ≡ true → UsedSo f context k TestOf
        by_block true is e = any-case (UsedSo f context k TestOf) (λ (block : Block). is_reset_test k block.kind) (λ (x : Block). KindUsed f context x.kind) f.blocks (λ x e g. kind-used x.kind e g) h.blocks is
        by_block false is e = by_automaton e

        by_choice : (b : Bool) → list_any (is_choice_test k) f.choices ≡ b → (b || list_any (λ (block : Block). is_reset_test k block.kind) f.blocks || list_any (is_move_test k) f.automata) ≡ true → UsedSo f context k TestOf
        by_choice true is e = any-case (UsedSo f context k TestOf) (is_choice_test k) (λ (x : Choice). AllByRecursion (TestUsed f context) x.conds) f.choices choice-used h.choices is
        by_choice false is e = by_block (list_any (λ (block : Block). is_reset_test k block.kind) f.blocks) refl e

    -- so does an argument of a site
    argument-used : is_argument f k ≡ true → UsedSo f context k ArgumentOf
    argument-used e = any-case (UsedSo f context k ArgumentOf) (λ (site : SiteInfo). nat_eq site.arg k) (λ (x : SiteInfo). UsedSo f context x.arg ArgumentOf) f.sites (λ x e g. named x.arg ArgumentOf g e) h.sites e

    -- so is each use of an occurrence
    pub uses-used : AllByRecursion (UsedSo f context k) (uses_of f k)
    uses-used =
        let again = when (among k f.again) AgainOf in
        let arguments = when (is_argument f k) ArgumentOf in
        let tests = when (is_test f k) TestOf in
        let places = flat_map (place_uses k) f.places in
        let occs = uses_in_occs k 0 f.occs in
        let P = UsedSo f context k in
        all-append P (occs ++ places ++ tests ++ arguments) again
        (all-append P (occs ++ places ++ tests) arguments
        (all-append P (occs ++ places) tests
        (all-append P occs places (occs-used 0 0 refl f.occs h.occs) (all-flat_map (place_uses k) f.places (all-map PlaceUsed (λ x. AllUsed (place_uses k x)) place-used f.places h.places)))
        (when-all P (is_test f k) TestOf test-used))
        (when-all P (is_argument f k) ArgumentOf argument-used))
        (when-all P (among k f.again) AgainOf (λ e. absurd (not_again f.again h.again e)))
      where
        not_again : (ks : List ℕ) → ks ≡ [] → among k ks ≡ true → ⊥
        not_again [] e g = cc
        not_again (j ∷ ks) e g = cc
