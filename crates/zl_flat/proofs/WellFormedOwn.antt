-- The bodies of one choice or of one automaton, beside those that are made inside them: none is made twice.
use Rattle.std.proofs.Common.{◌≡◌, ℕ, ◌+◌, ◌<◌, ◌≤◌, ◌⊎◌, inl, inr, List, [], ◌∷◌, ◌++◌, refl, sym, ap, subst, ◌∙◌, arith}
use Rattle.std.specs.List.{AllByRecursion}
use Rattle.zl_meaning.specs.declared.block.Block.{Block}
use Rattle.zl_meaning.specs.declared.block.BlockKind.{BlockKind}
use Rattle.zl_meaning.specs.declared.block.BlockKind.TheVariants.{Main, Arm, Guard, State, Reset}
use Rattle.zl_meaning.specs.declared.block.Choice.{Choice}
use Rattle.zl_meaning.specs.declared.block.Auto.{Auto}
use Rattle.zl_flat.specs.Parts.{Parts, Counters, joined, one_block, one_choice, one_automaton, after, past_block, past_choice, past_automaton}
use Rattle.zl_flat.proofs.PartsLaws.{after-joined, after-block, after-choice, after-automaton}
use Rattle.zl_flat.proofs.WellFormedParts.{all-append}
use Rattle.zl_flat.proofs.WellFormedOnce.{KindIn, KindsIn, Differs, DiffersFrom, Apart, Cross, owner, kinds-differ, Before, before-self, before-after, kind-wider, apart-append, Once, once-joined, arm-differs, guard-differs, state-differs}

pub data Family : Type 0 where
  OfChoice : Family
  OfAutomaton : Family

-- the next number of a choice or an automaton
abbrev pub next_of : Family → Counters → ℕ
next_of OfChoice s = s.choices
next_of OfAutomaton s = s.automata

-- the bodies of one choice or automaton in a row: a guard comes just before its state's body
abbrev pub turn : BlockKind → ℕ
turn Main = 0
turn (Arm of arm) = arm
turn (Guard of state) = state + state
turn (State of state) = state + state + 1
turn (Reset c) = 0

-- a body of choice or automaton number `of`, with a turn from `lo` on and before `hi`
abbrev pub IsOwn : Family → ℕ → ℕ → ℕ → BlockKind → Type 0
IsOwn OfChoice of lo hi (Arm of2 n) = (of2 ≡ of) × (lo ≤ n) × (n < hi)
IsOwn OfAutomaton of lo hi (Guard of2 n) = (of2 ≡ of) × (lo ≤ n + n) × (n + n < hi)
IsOwn OfAutomaton of lo hi (State of2 n) = (of2 ≡ of) × (lo ≤ n + n + 1) × (n + n + 1 < hi)
IsOwn _ of lo hi _ = ⊥

own-own : (fam : Family) (of lo mid hi : ℕ) (k l : BlockKind) → IsOwn fam of lo mid k → IsOwn fam of mid hi l → Differs k l
own-own OfChoice of lo mid hi Main l h g = absurd h
own-own OfChoice of lo mid hi (Arm of2 n) Main h g = absurd g
own-own OfChoice of lo mid hi (Arm of2 n) (Arm of3 m) h g = λ e. let same : turn (Arm of2 n) ≡ turn (Arm of3 m) = ap turn e in let a = h.2 in let b = g.1 in omega (arith, same, a, b)
own-own OfChoice of lo mid hi (Arm of2 n) (Guard of3 m) h g = absurd g
own-own OfChoice of lo mid hi (Arm of2 n) (State of3 m) h g = absurd g
own-own OfChoice of lo mid hi (Arm of2 n) (Reset d) h g = absurd g
own-own OfChoice of lo mid hi (Guard of2 n) l h g = absurd h
own-own OfChoice of lo mid hi (State of2 n) l h g = absurd h
own-own OfChoice of lo mid hi (Reset c) l h g = absurd h
own-own OfAutomaton of lo mid hi Main l h g = absurd h
own-own OfAutomaton of lo mid hi (Arm of2 n) l h g = absurd h
own-own OfAutomaton of lo mid hi (Guard of2 n) Main h g = absurd g
own-own OfAutomaton of lo mid hi (Guard of2 n) (Arm of3 m) h g = absurd g
own-own OfAutomaton of lo mid hi (Guard of2 n) (Guard of3 m) h g = λ e. let same : turn (Guard of2 n) ≡ turn (Guard of3 m) = ap turn e in let a = h.2 in let b = g.1 in omega (arith, same, a, b)
own-own OfAutomaton of lo mid hi (Guard of2 n) (State of3 m) h g = λ e. cc
own-own OfAutomaton of lo mid hi (Guard of2 n) (Reset d) h g = absurd g
own-own OfAutomaton of lo mid hi (State of2 n) Main h g = absurd g
own-own OfAutomaton of lo mid hi (State of2 n) (Arm of3 m) h g = absurd g
own-own OfAutomaton of lo mid hi (State of2 n) (Guard of3 m) h g = λ e. cc
own-own OfAutomaton of lo mid hi (State of2 n) (State of3 m) h g = λ e. let same : turn (State of2 n) ≡ turn (State of3 m) = ap turn e in let a = h.2 in let b = g.1 in omega (arith, same, a, b)
own-own OfAutomaton of lo mid hi (State of2 n) (Reset d) h g = absurd g
own-own OfAutomaton of lo mid hi (Reset c) l h g = absurd h

own-in : (fam : Family) (of lo hi : ℕ) (t u : Counters) (k l : BlockKind) → of < next_of fam t → IsOwn fam of lo hi k → KindIn t u l → Differs k l
own-in OfChoice of lo hi t u Main l le h g = absurd h
own-in OfChoice of lo hi t u (Arm of2 n) l le h g = λ e. let a = h.0 in arm-differs t t u of2 n l (omega (arith, a, le)) g e
own-in OfChoice of lo hi t u (Guard of2 n) l le h g = absurd h
own-in OfChoice of lo hi t u (State of2 n) l le h g = absurd h
own-in OfChoice of lo hi t u (Reset c) l le h g = absurd h
own-in OfAutomaton of lo hi t u Main l le h g = absurd h
own-in OfAutomaton of lo hi t u (Arm of2 n) l le h g = absurd h
own-in OfAutomaton of lo hi t u (Guard of2 n) l le h g = λ e. let a = h.0 in guard-differs t t u of2 n l (omega (arith, a, le)) g e
own-in OfAutomaton of lo hi t u (State of2 n) l le h g = λ e. let a = h.0 in state-differs t t u of2 n l (omega (arith, a, le)) g e
own-in OfAutomaton of lo hi t u (Reset c) l le h g = absurd h

in-own : (fam : Family) (of lo hi : ℕ) (s t : Counters) (k l : BlockKind) → of < next_of fam s → KindIn s t k → IsOwn fam of lo hi l → Differs k l
in-own OfChoice of lo hi s t Main l le h g = tt
in-own OfChoice of lo hi s t (Arm of2 n) Main le h g = absurd g
in-own OfChoice of lo hi s t (Arm of2 n) (Arm of3 m) le h g = λ e. let same : of2 ≡ of3 = ap owner e in let a = h.0 in let b = g.0 in omega (arith, same, a, b, le)
in-own OfChoice of lo hi s t (Arm of2 n) (Guard of3 m) le h g = absurd g
in-own OfChoice of lo hi s t (Arm of2 n) (State of3 m) le h g = absurd g
in-own OfChoice of lo hi s t (Arm of2 n) (Reset d) le h g = absurd g
in-own OfChoice of lo hi s t (Guard of2 n) Main le h g = absurd g
in-own OfChoice of lo hi s t (Guard of2 n) (Arm of3 m) le h g = λ e. cc
in-own OfChoice of lo hi s t (Guard of2 n) (Guard of3 m) le h g = absurd g
in-own OfChoice of lo hi s t (Guard of2 n) (State of3 m) le h g = absurd g
in-own OfChoice of lo hi s t (Guard of2 n) (Reset d) le h g = absurd g
in-own OfChoice of lo hi s t (State of2 n) Main le h g = absurd g
in-own OfChoice of lo hi s t (State of2 n) (Arm of3 m) le h g = λ e. cc
in-own OfChoice of lo hi s t (State of2 n) (Guard of3 m) le h g = absurd g
in-own OfChoice of lo hi s t (State of2 n) (State of3 m) le h g = absurd g
in-own OfChoice of lo hi s t (State of2 n) (Reset d) le h g = absurd g
in-own OfChoice of lo hi s t (Reset c) l le h g = tt
in-own OfAutomaton of lo hi s t Main l le h g = tt
in-own OfAutomaton of lo hi s t (Arm of2 n) Main le h g = absurd g
in-own OfAutomaton of lo hi s t (Arm of2 n) (Arm of3 m) le h g = absurd g
in-own OfAutomaton of lo hi s t (Arm of2 n) (Guard of3 m) le h g = λ e. cc
in-own OfAutomaton of lo hi s t (Arm of2 n) (State of3 m) le h g = λ e. cc
in-own OfAutomaton of lo hi s t (Arm of2 n) (Reset d) le h g = absurd g
in-own OfAutomaton of lo hi s t (Guard of2 n) Main le h g = absurd g
in-own OfAutomaton of lo hi s t (Guard of2 n) (Arm of3 m) le h g = absurd g
in-own OfAutomaton of lo hi s t (Guard of2 n) (Guard of3 m) le h g = λ e. let same : of2 ≡ of3 = ap owner e in let a = h.0 in let b = g.0 in omega (arith, same, a, b, le)
in-own OfAutomaton of lo hi s t (Guard of2 n) (State of3 m) le h g = λ e. cc
in-own OfAutomaton of lo hi s t (Guard of2 n) (Reset d) le h g = absurd g
in-own OfAutomaton of lo hi s t (State of2 n) Main le h g = absurd g
in-own OfAutomaton of lo hi s t (State of2 n) (Arm of3 m) le h g = absurd g
in-own OfAutomaton of lo hi s t (State of2 n) (Guard of3 m) le h g = λ e. cc
in-own OfAutomaton of lo hi s t (State of2 n) (State of3 m) le h g = λ e. let same : of2 ≡ of3 = ap owner e in let a = h.0 in let b = g.0 in omega (arith, same, a, b, le)
in-own OfAutomaton of lo hi s t (State of2 n) (Reset d) le h g = absurd g
in-own OfAutomaton of lo hi s t (Reset c) l le h g = tt

own-wider : (fam : Family) (of lo hi lo2 hi2 : ℕ) (k : BlockKind) → lo2 ≤ lo → hi ≤ hi2 → IsOwn fam of lo hi k → IsOwn fam of lo2 hi2 k
own-wider OfChoice of lo hi lo2 hi2 Main a b h = absurd h
own-wider OfChoice of lo hi lo2 hi2 (Arm of2 n) a b h = let x = h.1 in let y = h.2 in (h.0, omega (arith, x, a), omega (arith, y, b))
own-wider OfChoice of lo hi lo2 hi2 (Guard of2 n) a b h = absurd h
own-wider OfChoice of lo hi lo2 hi2 (State of2 n) a b h = absurd h
own-wider OfChoice of lo hi lo2 hi2 (Reset c) a b h = absurd h
own-wider OfAutomaton of lo hi lo2 hi2 Main a b h = absurd h
own-wider OfAutomaton of lo hi lo2 hi2 (Arm of2 n) a b h = absurd h
own-wider OfAutomaton of lo hi lo2 hi2 (Guard of2 n) a b h = let x = h.1 in let y = h.2 in (h.0, omega (arith, x, a), omega (arith, y, b))
own-wider OfAutomaton of lo hi lo2 hi2 (State of2 n) a b h = let x = h.1 in let y = h.2 in (h.0, omega (arith, x, a), omega (arith, y, b))
own-wider OfAutomaton of lo hi lo2 hi2 (Reset c) a b h = absurd h

-- the bodies of the one choice or automaton make it one of those that are numbered from its own number on
own-is-in : (fam : Family) (of lo hi : ℕ) (s t : Counters) (k : BlockKind) → next_of fam s ≤ of → of < next_of fam t → IsOwn fam of lo hi k → KindIn s t k
own-is-in OfChoice of lo hi s t Main a b h = absurd h
own-is-in OfChoice of lo hi s t (Arm of2 n) a b h = let e = h.0 in (omega (arith, e, a), omega (arith, e, b))
own-is-in OfChoice of lo hi s t (Guard of2 n) a b h = absurd h
own-is-in OfChoice of lo hi s t (State of2 n) a b h = absurd h
own-is-in OfChoice of lo hi s t (Reset c) a b h = absurd h
own-is-in OfAutomaton of lo hi s t Main a b h = absurd h
own-is-in OfAutomaton of lo hi s t (Arm of2 n) a b h = absurd h
own-is-in OfAutomaton of lo hi s t (Guard of2 n) a b h = let e = h.0 in (omega (arith, e, a), omega (arith, e, b))
own-is-in OfAutomaton of lo hi s t (State of2 n) a b h = let e = h.0 in (omega (arith, e, a), omega (arith, e, b))
own-is-in OfAutomaton of lo hi s t (Reset c) a b h = absurd h

-- ---- its own bodies and others

module _ (fam : Family) (of : ℕ) where
  abbrev pub KindOr : ℕ → ℕ → Counters → Counters → BlockKind → Type 0
  KindOr lo hi s t k = IsOwn fam of lo hi k ⊎ KindIn s t k

  abbrev pub KindsOr : ℕ → ℕ → Counters → Counters → List Block → Type 0
  KindsOr lo hi s t xs = AllByRecursion (λ (x : Block). KindOr lo hi s t x.kind) xs

  or-differ : (lo mid hi : ℕ) (s t u : Counters) (k l : BlockKind) → of < next_of fam s → of < next_of fam t → KindOr lo mid s t k → KindOr mid hi t u l → Differs k l
  or-differ lo mid hi s t u k l a b (inl h) (inl g) = own-own fam of lo mid hi k l h g
  or-differ lo mid hi s t u k l a b (inl h) (inr g) = own-in fam of lo mid t u k l b h g
  or-differ lo mid hi s t u k l a b (inr h) (inl g) = in-own fam of mid hi s t k l a h g
  or-differ lo mid hi s t u k l a b (inr h) (inr g) = kinds-differ s t u k l h g

  or-wider : (lo hi lo2 hi2 : ℕ) (s t u v : Counters) (k : BlockKind) → lo2 ≤ lo → hi ≤ hi2 → Before u s → Before t v → KindOr lo hi s t k → KindOr lo2 hi2 u v k
  or-wider lo hi lo2 hi2 s t u v k a b c d (inl h) = inl (own-wider fam of lo hi lo2 hi2 k a b h)
  or-wider lo hi lo2 hi2 s t u v k a b c d (inr h) = inr (kind-wider s t u v k c d h)

  all-wider : (lo hi lo2 hi2 : ℕ) (s t u v : Counters) (xs : List Block) → lo2 ≤ lo → hi ≤ hi2 → Before u s → Before t v → KindsOr lo hi s t xs → KindsOr lo2 hi2 u v xs
  all-wider lo hi lo2 hi2 s t u v [] a b c d h = tt
  all-wider lo hi lo2 hi2 s t u v (x ∷ xs) a b c d h = (or-wider lo hi lo2 hi2 s t u v x.kind a b c d h.0, all-wider lo hi lo2 hi2 s t u v xs a b c d h.1)

  from-one : (lo mid hi : ℕ) (s t u : Counters) (k : BlockKind) (ys : List Block) → of < next_of fam s → of < next_of fam t → KindOr lo mid s t k → KindsOr mid hi t u ys → DiffersFrom k ys
  from-one lo mid hi s t u k [] a b h g = tt
  from-one lo mid hi s t u k (y ∷ ys) a b h g = (or-differ lo mid hi s t u k y.kind a b h g.0, from-one lo mid hi s t u k ys a b h g.1)

  or-cross : (lo mid hi : ℕ) (s t u : Counters) (xs ys : List Block) → of < next_of fam s → of < next_of fam t → KindsOr lo mid s t xs → KindsOr mid hi t u ys → Cross xs ys
  or-cross lo mid hi s t u [] ys a b h g = tt
  or-cross lo mid hi s t u (x ∷ xs) ys a b h g = (from-one lo mid hi s t u x.kind ys a b h.0 g, or-cross lo mid hi s t u xs ys a b h.1 g)

  pub record OnceOr (lo hi : ℕ) (s : Counters) (p : Parts) : Type 0 where
    pub owned : KindsOr lo hi s (after s p) p.blocks
    pub apart : Apart p.blocks

  later-next : (s : Counters) (p : Parts) → of < next_of fam s → of < next_of fam (after s p)
  later-next s p h = by_family fam h
    where
      by_family : (g : Family) → of < next_of g s → of < next_of g (after s p)
      by_family OfChoice h = let b = before-after s p in let le = b.choices in omega (arith, h, le)
      by_family OfAutomaton h = let b = before-after s p in let le = b.automata in omega (arith, h, le)

  same-blocks : (p q : Parts) → (joined p q).blocks ≡ p.blocks ++ q.blocks
  unfolding joined
  same-blocks p q = refl

  pub or-joined : (lo mid hi : ℕ) (s : Counters) (p q : Parts) → lo ≤ mid → mid ≤ hi → of < next_of fam s → OnceOr lo mid s p → OnceOr mid hi (after s p) q → OnceOr lo hi s (joined p q)
  or-joined lo mid hi s p q a b le h k =
      let t = after s p in
      let u = after t q in
      let owned = all-append (λ (x : Block). KindOr lo hi s u x.kind) p.blocks q.blocks
      (all-wider lo mid lo hi s t s u p.blocks (omega arith) b (before-self s) (before-after t q) h.owned)
      (all-wider mid hi lo hi t u s u q.blocks a (omega arith) (before-after s p) (before-self u) k.owned) in
      record {
        owned = subst (λ v. KindsOr lo hi s v (joined p q).blocks) (sym (after-joined s p q)) (subst (KindsOr lo hi s u) (sym (same-blocks p q)) owned);
        apart = subst Apart (sym (same-blocks p q)) (apart-append p.blocks q.blocks h.apart k.apart (or-cross lo mid hi s t u p.blocks q.blocks le (later-next s p le) h.owned k.owned));
      }

  or-other : (lo : ℕ) (s t : Counters) (xs : List Block) → KindsIn s t xs → KindsOr lo lo s t xs
  or-other lo s t [] h = tt
  or-other lo s t (x ∷ xs) h = (inr h.0, or-other lo s t xs h.1)

  -- what has no body of this choice or automaton
  pub or-none : (lo : ℕ) (s : Counters) (p : Parts) → Once s p → OnceOr lo lo s p
  or-none lo s p h = record { owned = or-other lo s (after s p) p.blocks h.owned; apart = h.apart }

  pub or-more : (lo hi hi2 : ℕ) (s : Counters) (p : Parts) → hi ≤ hi2 → OnceOr lo hi s p → OnceOr lo hi2 s p
  or-more lo hi hi2 s p le h = record { owned = all-wider lo hi lo hi2 s (after s p) s (after s p) p.blocks (omega arith) le (before-self s) (before-self (after s p)) h.owned; apart = h.apart }

  pub or-block : (lo hi : ℕ) (s : Counters) (x : Block) → IsOwn fam of lo hi x.kind → OnceOr lo hi s (one_block x)
  unfolding one_block
  or-block lo hi s x h = record { owned = (inl h, tt); apart = (tt, tt) }

  -- a body before others
  pub block-or : (lo mid hi : ℕ) (s : Counters) (x : Block) (q : Parts) → lo ≤ mid → mid ≤ hi → of < next_of fam s → IsOwn fam of lo mid x.kind → OnceOr mid hi (past_block s) q → OnceOr lo hi s (joined (one_block x) q)
  block-or lo mid hi s x q a b le h k = or-joined lo mid hi s (one_block x) q a b le (or-block lo mid s x h) (subst (λ t. OnceOr mid hi t q) (sym (after-block s x)) k)

  all-in : (lo hi : ℕ) (s t u : Counters) (xs : List Block) → next_of fam s ≤ of → of < next_of fam u → Before s t → KindsOr lo hi t u xs → KindsIn s u xs
  all-in lo hi s t u [] a b c h = tt
  all-in lo hi s t u (x ∷ xs) a b c h = (one h.0, all-in lo hi s t u xs a b c h.1)
    where
      one : KindOr lo hi t u x.kind → KindIn s u x.kind
      one (inl g) = own-is-in fam of lo hi s u x.kind a b g
      one (inr g) = kind-wider t u s u x.kind c (before-self u) g

-- ---- a choice or an automaton before its bodies

past-choice-next : (s : Counters) → (past_choice s).choices ≡ s.choices + 1
unfolding past_choice
past-choice-next s = refl

past-automaton-next : (s : Counters) → (past_automaton s).automata ≡ s.automata + 1
unfolding past_automaton
past-automaton-next s = refl

before-past_choice : (s : Counters) → Before s (past_choice s)
unfolding past_choice
before-past_choice s = record { choices = omega arith; automata = omega arith }

before-past_automaton : (s : Counters) → Before s (past_automaton s)
unfolding past_automaton
before-past_automaton s = record { choices = omega arith; automata = omega arith }

choice-blocks : (x : Choice) (q : Parts) → q.blocks ≡ (joined (one_choice x) q).blocks
unfolding joined one_choice
choice-blocks x q = refl

automaton-blocks : (x : Auto) (q : Parts) → q.blocks ≡ (joined (one_automaton x) q).blocks
unfolding joined one_automaton
automaton-blocks x q = refl

pub choice-once : (s : Counters) (x : Choice) (lo hi : ℕ) (q : Parts) → OnceOr OfChoice s.choices lo hi (past_choice s) q → Once s (joined (one_choice x) q)
choice-once s x lo hi q h =
    let t = past_choice s in
    let u = after t q in
    let e = past-choice-next s in
    let b = before-after t q in
    let le = b.choices in
    let owned = all-in OfChoice s.choices lo hi s t u q.blocks (omega arith) (omega (arith, e, le)) (before-past_choice s) h.owned in
    let same : u ≡ after s (joined (one_choice x) q) = ap (λ v. after v q) (sym (after-choice s x)) ∙ sym (after-joined s (one_choice x) q) in
    record { owned = subst (λ v. KindsIn s v (joined (one_choice x) q).blocks) same (subst (KindsIn s u) (choice-blocks x q) owned); apart = subst Apart (choice-blocks x q) h.apart }

pub automaton-once : (s : Counters) (x : Auto) (lo hi : ℕ) (q : Parts) → OnceOr OfAutomaton s.automata lo hi (past_automaton s) q → Once s (joined (one_automaton x) q)
automaton-once s x lo hi q h =
    let t = past_automaton s in
    let u = after t q in
    let e = past-automaton-next s in
    let b = before-after t q in
    let le = b.automata in
    let owned = all-in OfAutomaton s.automata lo hi s t u q.blocks (omega arith) (omega (arith, e, le)) (before-past_automaton s) h.owned in
    let same : u ≡ after s (joined (one_automaton x) q) = ap (λ v. after v q) (sym (after-automaton s x)) ∙ sym (after-joined s (one_automaton x) q) in
    record { owned = subst (λ v. KindsIn s v (joined (one_automaton x) q).blocks) same (subst (KindsIn s u) (automaton-blocks x q) owned); apart = subst Apart (automaton-blocks x q) h.apart }

-- a `reset` body before others
reset-alone : (s : Counters) (x : Block) → KindIn s s x.kind → ((t : Counters) → KindIn s t x.kind) → Once s (one_block x)
unfolding one_block
reset-alone s x h k = record { owned = (k (after s (one_block x)), tt); apart = (tt, tt) }

pub reset-once : (s : Counters) (x : Block) (q : Parts) → ((t : Counters) → KindIn s t x.kind) → Once (past_block s) q → Once s (joined (one_block x) q)
reset-once s x q k h = once-joined s (one_block x) q (reset-alone s x (k s) k) (subst (λ t. Once t q) (sym (after-block s x)) h)
