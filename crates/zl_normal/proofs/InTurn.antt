-- Which lists stand in turn: those of one entry that count, and lists of different entries behind each other.
use Rattle.std.proofs.Common.{◌≡◌, ◌⊎◌, inl, inr, ℕ, zero, suc, ◌+◌, ◌<◌, ◌≤◌, Bool, true, false, List, [], ◌∷◌, ◌++◌, length, slice_get, Some, refl, sym, ap, subst, ◌∙◌, arith}
use Rattle.std.specs.List.{AllByRecursion}
use Rattle.zl_value.specs.Lists.{Has, when}
use Rattle.zl_meaning.proofs.Members.{all-has, all-append, all-map}
use Rattle.zl_normal.specs.Keys.{each}
use Rattle.zl_normal.specs.declared.slot.Slot.{Slot}

none-there : {X : Type 0} {x : X} (n : ℕ) → slice_get [] n ≡ Some x → ⊥
none-there n e = cc

-- where one of two lists has it
pub which-list : {X : Type 0} (xs ys : List X) (n : ℕ) (x : X) → slice_get (xs ++ ys) n ≡ Some x → (slice_get xs n ≡ Some x) ⊎ ((i : ℕ) × (n ≡ length xs + i) × (slice_get ys i ≡ Some x))
which-list [] ys n x e = inr (n, omega arith, e)
which-list (y ∷ xs) ys zero x e = inl e
which-list {X = X} (y ∷ xs) ys (suc n) x e = further (which-list xs ys n x e)
  where
    further : (slice_get xs n ≡ Some x) ⊎ ((i : ℕ) × (n ≡ length xs + i) × (slice_get ys i ≡ Some x)) → (slice_get (y ∷ xs) (suc n) ≡ Some x) ⊎ ((i : ℕ) × (suc n ≡ length (y ∷ xs) + i) × (slice_get ys i ≡ Some x))
    further (inl h) = inl h
    further (inr h) = inr (h.0, (let e = h.1 in omega arith), h.2)

module _ {X : Type 0} (slot : X → Slot) (offset : X → ℕ) where
  pub record InTurn (xs : List X) : Type 0 where
    pub same : (m n : ℕ) (a b : X) → slice_get xs m ≡ Some a → slice_get xs n ≡ Some b → slot a ≡ slot b → m + offset b ≡ n + offset a
    pub after : (n : ℕ) (b : X) → slice_get xs n ≡ Some b → offset b ≤ n

  -- no entry is of both lists
  abbrev pub Apart : List X → List X → Type 0
  Apart xs ys = (m n : ℕ) (a b : X) → slice_get xs m ≡ Some a → slice_get ys n ≡ Some b → slot a ≡ slot b → ⊥

  pub none_in_turn : InTurn []
  none_in_turn = record { same = λ m n a b p q e. absurd (none-there m p); after = λ n b q. absurd (none-there n q) }

  -- a list of one entry that counts from 0
  pub run : (s : Slot) (xs : List X) → ((m : ℕ) (x : X) → slice_get xs m ≡ Some x → (slot x ≡ s) × (offset x ≡ m)) → InTurn xs
  run s xs h = record {
    same = λ m n a b p q e. let x : offset a ≡ m = (h m a p).1 in let y : offset b ≡ n = (h n b q).1 in omega arith;
    after = λ n b q. let y : offset b ≡ n = (h n b q).1 in omega arith;
  }

  pub one : (x : X) → offset x ≡ 0 → InTurn (x ∷ [])
  one x none = run (slot x) (x ∷ []) alone
    where
      alone : (m : ℕ) (y : X) → slice_get (x ∷ []) m ≡ Some y → (slot y ≡ slot x) × (offset y ≡ m)
      alone zero y e = let same : y ≡ x = cc in (ap slot same, ap offset same ∙ none)
      alone (suc m) y e = absurd (none-there m e)

  pub one_if : (wanted : Bool) (x : X) → offset x ≡ 0 → InTurn (when wanted x)
  one_if true x none = one x none
  one_if false x none = none_in_turn

  pub behind : (xs ys : List X) → InTurn xs → InTurn ys → Apart xs ys → InTurn (xs ++ ys)
  behind xs ys l r apart = record {
    same = λ m n a b p q e. both m n a b e (which-list xs ys m a p) (which-list xs ys n b q);
    after = λ n b q. late n b (which-list xs ys n b q);
  }
    where
      both : (m n : ℕ) (a b : X) → slot a ≡ slot b → (slice_get xs m ≡ Some a) ⊎ ((i : ℕ) × (m ≡ length xs + i) × (slice_get ys i ≡ Some a)) → (slice_get xs n ≡ Some b) ⊎ ((i : ℕ) × (n ≡ length xs + i) × (slice_get ys i ≡ Some b)) → m + offset b ≡ n + offset a
      both m n a b e (inl p) (inl q) = l.same m n a b p q e
      both m n a b e (inl p) (inr q) = absurd (apart m q.0 a b p q.2 e)
      both m n a b e (inr p) (inl q) = absurd (apart n p.0 b a q p.2 (sym e))
      both m n a b e (inr p) (inr q) =
          let h : p.0 + offset b ≡ q.0 + offset a = r.same p.0 q.0 a b p.2 q.2 e in
          let i : m ≡ length xs + p.0 = p.1 in
          let k : n ≡ length xs + q.0 = q.1 in
          omega arith

      late : (n : ℕ) (b : X) → (slice_get xs n ≡ Some b) ⊎ ((i : ℕ) × (n ≡ length xs + i) × (slice_get ys i ≡ Some b)) → offset b ≤ n
      late n b (inl q) = l.after n b q
      late n b (inr q) =
          let h : offset b ≤ q.0 = r.after q.0 b q.2 in
          let k : n ≡ length xs + q.0 = q.1 in
          omega arith

  -- what holds of the entries of one list, and of none of the other
  pub apart_by : (P Q : Slot → Type 0) → ((s : Slot) → P s → Q s → ⊥) → (xs ys : List X) → AllByRecursion (λ x. P (slot x)) xs → AllByRecursion (λ x. Q (slot x)) ys → Apart xs ys
  apart_by P Q clash xs ys all others m n a b p q e =
      let here : P (slot a) = all-has (λ x. P (slot x)) xs a all (record { index = m; is = p }) in
      let there : Q (slot b) = all-has (λ x. Q (slot x)) ys b others (record { index = n; is = q }) in
      clash (slot b) (subst P e here) there

  module _ {Y : Type 0} (g : ℕ → Y → List X) where
    pub all_each : (P : X → Type 0) → ((i : ℕ) (y : Y) → AllByRecursion P (g i y)) → (i : ℕ) (ys : List Y) → AllByRecursion P (each g i ys)
    all_each P h i [] = tt
    all_each P h i (y ∷ ys) = all-append P (g i y) (each g (suc i) ys) (h i y) (all_each P h (suc i) ys)

    module _ (number : Slot → ℕ) (own : (i : ℕ) (y : Y) → AllByRecursion (λ x. number (slot x) ≡ i) (g i y)) where
      from : (i k : ℕ) (ys : List Y) → k ≤ i → AllByRecursion (λ x. k ≤ number (slot x)) (each g i ys)
      from i k [] le = tt
      from i k (y ∷ ys) le =
          all-append (λ x. k ≤ number (slot x)) (g i y) (each g (suc i) ys)
          (all-map (λ x. number (slot x) ≡ i) (λ x. k ≤ number (slot x)) (λ x e. omega arith) (g i y) (own i y))
          (from (suc i) k ys (omega arith))

      -- each entry's list, where they have different numbers
      pub each_in_turn : ((i : ℕ) (y : Y) → InTurn (g i y)) → (i : ℕ) (ys : List Y) → InTurn (each g i ys)
      each_in_turn h i [] = none_in_turn
      each_in_turn h i (y ∷ ys) =
          behind (g i y) (each g (suc i) ys) (h i y) (each_in_turn h (suc i) ys)
          (apart_by (λ s. number s ≡ i) (λ s. suc i ≤ number s) (λ s e le. omega arith) (g i y) (each g (suc i) ys) (own i y) (from (suc i) (suc i) ys (omega arith)))
