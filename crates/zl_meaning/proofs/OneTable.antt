-- A moment has one table: two tables that solve all equations of a form with ranks are equal.
use Rattle.std.specs.Prelude.{◌≡◌, ℕ, zero, suc, ◌+◌, ◌<◌, List, [], ◌∷◌, length, get_or, slice_get, Option, None, false, ⊤}
use Rattle.std.proofs.Common.{refl, sym, ap, ◌∙◌, arith}
use mathlib.Core.Path.{fun_ext}
use Rattle.zl_value.specs.Lists.{listed}
use Rattle.zl_value.specs.FixedPoints.{IsRanked}
use Rattle.zl_value.proofs.Fixed.{one_solution, has_one_solution}
use Rattle.zl_meaning.specs.FlatForm.{FlatForm}
use Rattle.zl_meaning.specs.State.{Table, Node, AtControl, AtReset, AtLater, AtEntry, AtRunning, AtStrong, AtWeak, AtPlace, AtUsed, AtValue, Idle, State, state_in, nothing}
use Rattle.zl_meaning.specs.Moment.{Moment}
use Rattle.zl_meaning.specs.Blocks.{control_of, reset_of, later_of}
use Rattle.zl_meaning.specs.Automata.{entry_of, running_of, strong_of, weak_of}
use Rattle.zl_meaning.specs.Places.{place_of}
use Rattle.zl_meaning.specs.Occurrences.{used_of, value_of}
use Rattle.zl_meaning.specs.Equation.{equation, turn, table_of}
use Rattle.zl_meaning.specs.Reading.{AreAlike, HasNodeRanks}
use Rattle.zl_meaning.specs.Laws.{IsOneTable}
use Rattle.zl_meaning.proofs.Congruence.{equation_same}

-- an entry of a list that is made by number: past the end it is the one that is made of nothing
listed_at : {A X : Type 0} (xs : List A) (j : ℕ) (make : ℕ → X) (d : X) (of : ℕ → Option A → X) → ((k : ℕ) → of k None ≡ d) → ((k : ℕ) → make (j + k) ≡ of (j + k) (slice_get xs k)) → (k : ℕ) → get_or (listed (length xs) j make) k d ≡ of (j + k) (slice_get xs k)
listed_at [] j make d of none is k = sym (none (j + k))
listed_at (x ∷ xs) j make d of none is zero = ap make (let e : j ≡ j + 0 = omega arith in e) ∙ is 0
listed_at (x ∷ xs) j make d of none is (suc k) =
    listed_at xs (suc j) make d of none (λ i. ap make (shift j i) ∙ is (suc i) ∙ ap (λ n. of n (slice_get xs i)) (sym (shift j i))) k
    ∙ ap (λ n. of n (slice_get xs k)) (shift j k)
  where
    shift : (j k : ℕ) → suc j + k ≡ j + suc k
    shift j k = omega arith

-- the same, from the first number on
pub made_at : {A X : Type 0} (xs : List A) (d : X) (of : ℕ → Option A → X) → ((k : ℕ) → of k None ≡ d) → (k : ℕ) → get_or (listed (length xs) 0 (λ n. of n (slice_get xs n))) k d ≡ of k (slice_get xs k)
made_at xs d of none k =
    listed_at xs 0 (λ n. of n (slice_get xs n)) d of none (λ i. ap (λ n. of n (slice_get xs n)) (from_zero i) ∙ ap (λ n. of n (slice_get xs i)) (sym (from_zero i))) k
    ∙ ap (λ n. of n (slice_get xs k)) (from_zero k)
  where
    from_zero : (k : ℕ) → 0 + k ≡ k
    from_zero k = omega arith

-- the same of entries that are what is made of the elements
pub held : {A X : Type 0} (xs : List A) (d : X) (make : ℕ → X) (of : ℕ → Option A → X) → ((k : ℕ) → of k None ≡ d) → ((k : ℕ) → make k ≡ of k (slice_get xs k)) → (k : ℕ) → get_or (listed (length xs) 0 make) k d ≡ make k
held xs d make of none is k =
    listed_at xs 0 make d of none (λ i. ap make (from_zero i) ∙ is i ∙ ap (λ n. of n (slice_get xs i)) (sym (from_zero i))) k
    ∙ ap (λ n. of n (slice_get xs k)) (from_zero k) ∙ sym (is k)
  where
    from_zero : (k : ℕ) → 0 + k ≡ k
    from_zero k = omega arith

-- an entry of a turn is what its equation gives
pub turn_at : (f : FlatForm) (m : Moment) (t : Table) (a : Node) → state_in (turn f m t) a ≡ equation f m (state_in t) a
unfolding equation turn
turn_at f m t (AtControl b) = made_at f.blocks Idle (λ k block. control_of f m (state_in t) k block) (λ k. refl) b
turn_at f m t (AtReset b) = made_at f.blocks false (λ k block. reset_of m (state_in t) block) (λ k. refl) b
turn_at f m t (AtLater b) = made_at f.blocks false (λ k block. later_of (state_in t) block) (λ k. refl) b
turn_at f m t (AtEntry a) = made_at f.automata None (λ k auto. entry_of m (state_in t) k auto) (λ k. refl) a
turn_at f m t (AtRunning a) = made_at f.automata None (λ k auto. running_of m (state_in t) k auto) (λ k. refl) a
turn_at f m t (AtStrong a) = made_at f.automata None (λ k auto. strong_of m (state_in t) k auto) (λ k. refl) a
turn_at f m t (AtWeak a) = made_at f.automata None (λ k auto. weak_of m (state_in t) k auto) (λ k. refl) a
turn_at f m t (AtPlace p) = made_at f.places None (λ k place. place_of m (state_in t) k place) (λ k. refl) p
turn_at f m t (AtUsed k) = made_at f.occs false (λ j occ. used_of f m (state_in t) j occ) (λ j. refl) k
turn_at f m t (AtValue k) = made_at f.occs None (λ j occ. value_of f m (state_in t) occ) (λ j. refl) k

-- a table that is its own turn solves each equation
pub solves_each : (f : FlatForm) (m : Moment) (t : Table) → t ≡ turn f m t → (a : Node) → state_in t a ≡ equation f m (state_in t) a
solves_each f m t is a = ap (λ u. state_in u a) is ∙ turn_at f m t a

-- a moment is like itself
pub alike_self : (m : Moment) → AreAlike (λ b. ⊤) m m
alike_self m = record { mode = refl; inputs = refl; fired = refl; live = λ b q. refl; before = λ a q. refl; start = λ a q. refl; passed = refl }

ranked : (f : FlatForm) (m : Moment) (r : HasNodeRanks f) → IsRanked r.rank (equation f m)
ranked f m r = record { same = λ s t a below. equation_same (λ b. r.rank b < r.rank a) (λ b. ⊤) f m m s t (alike_self m) below a (r.lower a) }

-- what stands at a moment is the one solution of its equations
pub one_state : (f : FlatForm) (m : Moment) → HasNodeRanks f → (s t : State) → ((a : Node) → s a ≡ equation f m s a) → ((a : Node) → t a ≡ equation f m t a) → s ≡ t
one_state f m r s t p q = one_solution r.rank (equation f m) (ranked f m r) s t p q

-- a moment has one table
pub one_table : (f : FlatForm) (m : Moment) → HasNodeRanks f → (t u : Table) → t ≡ turn f m t → u ≡ turn f m u → t ≡ u
unfolding turn
one_table f m r t u p q =
    p ∙ ap (λ s. table_of f (equation f m s)) (one_state f m r (state_in t) (state_in u) (solves_each f m t p) (solves_each f m u q)) ∙ sym q

-- values that solve all equations are those of a table
table_holds : (f : FlatForm) (m : Moment) (s : State) → ((a : Node) → s a ≡ equation f m s a) → (a : Node) → state_in (table_of f s) a ≡ s a
unfolding equation
table_holds f m s is (AtControl b) = held f.blocks Idle (λ k. s (AtControl k)) (λ k block. control_of f m s k block) (λ k. refl) (λ k. is (AtControl k)) b
table_holds f m s is (AtReset b) = held f.blocks false (λ k. s (AtReset k)) (λ k block. reset_of m s block) (λ k. refl) (λ k. is (AtReset k)) b
table_holds f m s is (AtLater b) = held f.blocks false (λ k. s (AtLater k)) (λ k block. later_of s block) (λ k. refl) (λ k. is (AtLater k)) b
table_holds f m s is (AtEntry a) = held f.automata None (λ k. s (AtEntry k)) (λ k auto. entry_of m s k auto) (λ k. refl) (λ k. is (AtEntry k)) a
table_holds f m s is (AtRunning a) = held f.automata None (λ k. s (AtRunning k)) (λ k auto. running_of m s k auto) (λ k. refl) (λ k. is (AtRunning k)) a
table_holds f m s is (AtStrong a) = held f.automata None (λ k. s (AtStrong k)) (λ k auto. strong_of m s k auto) (λ k. refl) (λ k. is (AtStrong k)) a
table_holds f m s is (AtWeak a) = held f.automata None (λ k. s (AtWeak k)) (λ k auto. weak_of m s k auto) (λ k. refl) (λ k. is (AtWeak k)) a
table_holds f m s is (AtPlace p) = held f.places None (λ k. s (AtPlace k)) (λ k place. place_of m s k place) (λ k. refl) (λ k. is (AtPlace k)) p
table_holds f m s is (AtUsed k) = held f.occs false (λ j. s (AtUsed j)) (λ j occ. used_of f m s j occ) (λ j. refl) (λ j. is (AtUsed j)) k
table_holds f m s is (AtValue k) = held f.occs None (λ j. s (AtValue j)) (λ j occ. value_of f m s occ) (λ j. refl) (λ j. is (AtValue j)) k

-- a moment of a form with ranks has a table
pub some_table : (f : FlatForm) (m : Moment) → HasNodeRanks f → (t : Table) × (t ≡ turn f m t)
unfolding turn
some_table f m r =
    let one = has_one_solution r.rank (equation f m) (ranked f m r) nothing in
    let s = one.solution in
    let kept : state_in (table_of f s) ≡ s = fun_ext (table_holds f m s one.solves) in
    let solved : s ≡ equation f m s = fun_ext one.solves in
    (table_of f s, ap (λ x. table_of f x) solved ∙ ap (λ x. table_of f (equation f m x)) (sym kept))

-- it has exactly one
pub exactly_one_table : (f : FlatForm) (m : Moment) → HasNodeRanks f → IsOneTable f m
exactly_one_table f m r =
    let some = some_table f m r in
    record { table = some.0; solves = some.1; only = λ t is. one_table f m r t some.0 is some.1 }
