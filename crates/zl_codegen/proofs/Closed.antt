-- What a method needs is closed: all that its wires read is marked.
use Rattle.std.specs.Prelude.{◌≡◌, ℕ, zero, suc, ◌<◌, ◌+◌, nat_eq, Bool, true, false, not, ◌&&◌, ◌||◌, if◌then◌else◌, List, [], ◌∷◌, length, map, replicate, slice_get, Option, Some, None}
use Rattle.std.specs.List.{flat_map}
use Rattle.std.proofs.Common.{refl, sym, ap, ◌∙◌, arith, subst}
use Rattle.std.proofs.lemmas.Bool.{eqb-true, eq-eqb}
use Rattle.std.proofs.lemmas.List.{length-replicate}
use Rattle.zl_value.specs.Lists.{Has, among}
use Rattle.zl_value.specs.declared.script.Output.{Output}
use Rattle.zl_kernel.specs.KernelForm.{KernelForm}
use Rattle.zl_kernel.specs.FlowWires.{reads, listed_in}
use Rattle.zl_kernel.specs.WellFormed.{IsWellFormed}
use Rattle.zl_kernel.specs.Wires.{Mode, AtStep, AtLeft, InFlow}
use Rattle.zl_kernel.specs.declared.wire.Wire.{Wire}
use Rattle.zl_kernel.specs.declared.memory.KMem.{KMem}
use Rattle.zl_kernel.specs.declared.site.KSite.{KSite}
use Rattle.zl_codegen.specs.Orders.{IsOrder}
use Rattle.zl_codegen.specs.Needs.{marked, is_marked, is_taken, reads_of, spread, needed, roots, instant_marked, faults_marked, failing_from, nexts_from, held_memories, left_out}
use Rattle.zl_codegen.specs.Laws.{NeedsAreClosed}
use Rattle.zl_codegen.proofs.Listed.{within_from}
use Rattle.zl_codegen.proofs.MarkTests.{marked_is, length-marked}
use Rattle.zl_codegen.proofs.Ranked.{read_there}
use Rattle.zl_codegen.proofs.Solving.{true_or, both_ways, among_at, at_among}
use Rattle.zl_codegen.proofs.Places.{order_has}

-- where a number stands first
first_at : (xs : List ℕ) (j : ℕ) → among j xs ≡ true → (i : ℕ) × (slice_get xs i ≡ Some j) × ((h : ℕ) → h < i → slice_get xs h ≡ Some j → ⊥)
first_at [] j is = absurd cc
first_at (x ∷ xs) j is = by (nat_eq x j) refl is (λ more. first_at xs j more)
  where
    by : (b : Bool) → nat_eq x j ≡ b → (b || among j xs) ≡ true → (among j xs ≡ true → (i : ℕ) × (slice_get xs i ≡ Some j) × ((h : ℕ) → h < i → slice_get xs h ≡ Some j → ⊥)) → (i : ℕ) × (slice_get (x ∷ xs) i ≡ Some j) × ((h : ℕ) → h < i → slice_get (x ∷ xs) h ≡ Some j → ⊥)
    by true e p more = (zero, ap Some (eqb-true x j e), λ h less at. omega arith)
    by false e p more = let found = more p in (suc found.0, found.1, earlier found.0 found.2)
      where
        earlier : (i : ℕ) → ((h : ℕ) → h < i → slice_get xs h ≡ Some j → ⊥) → (h : ℕ) → h < suc i → slice_get (x ∷ xs) h ≡ Some j → ⊥
        earlier i none zero less at = both_ways (nat_eq x j) (eq-eqb x j (let q : x ≡ j = cc in q)) e
        earlier i none (suc h) less at = none h (omega arith) at

module _ (k : KernelForm) (list : List ℕ) (well : IsWellFormed k) (order : IsOrder k list) (out begun : List Bool) (long : length begun ≡ length k.wires) where
  long_spread : (n : ℕ) (marks : List Bool) → length (spread k.wires out n marks) ≡ length marks
  long_spread n marks = by (is_taken marks out n)
    where
      by : (t : Bool) → length (if t then marked (reads_of (slice_get k.wires n)) marks else marks) ≡ length marks
      by true = length-marked (reads_of (slice_get k.wires n)) marks
      by false = refl

  pub long_all : (l : List ℕ) → length (needed k.wires out l begun) ≡ length k.wires
  long_all [] = long
  long_all (n ∷ l) = long_spread n (needed k.wires out l begun) ∙ long_all l

  or_right : (a b : Bool) → b ≡ true → (a || b) ≡ true
  or_right true b is = refl
  or_right false b is = is

  or_left : (a b : Bool) → a ≡ true → (a || b) ≡ true
  or_left true b is = refl
  or_left false b is = absurd cc

  -- what is marked stays marked
  pub grows : (n j : ℕ) (marks : List Bool) → j < length marks → is_marked marks j ≡ true → is_marked (spread k.wires out n marks) j ≡ true
  grows n j marks less is = by (is_taken marks out n)
    where
      by : (t : Bool) → is_marked (if t then marked (reads_of (slice_get k.wires n)) marks else marks) j ≡ true
      by true = marked_is (reads_of (slice_get k.wires n)) marks j less ∙ or_right (among j (reads_of (slice_get k.wires n))) (is_marked marks j) is
      by false = is

  has_among : (xs : List ℕ) (j : ℕ) → Has xs j → among j xs ≡ true
  has_among xs j has = among_at xs has.index j has.is

  among_has : (xs : List ℕ) (j : ℕ) → among j xs ≡ true → Has xs j
  among_has xs j is = let found = at_among xs j is in record { index = found.0; is = found.1 }

  -- a wire that is taken marks what it reads
  spreads : (n j : ℕ) (wire : Wire) (marks : List Bool) → slice_get k.wires n ≡ Some wire → j < length marks → Has (reads wire) j → is_taken (spread k.wires out n marks) out n ≡ true → is_marked (spread k.wires out n marks) j ≡ true
  spreads n j wire marks at less has = by (is_taken marks out n) refl
    where
      by : (t : Bool) → is_taken marks out n ≡ t → is_taken (if t then marked (reads_of (slice_get k.wires n)) marks else marks) out n ≡ true → is_marked (if t then marked (reads_of (slice_get k.wires n)) marks else marks) j ≡ true
      by true e is = marked_is (reads_of (slice_get k.wires n)) marks j less ∙ or_left (among j (reads_of (slice_get k.wires n))) (is_marked marks j) (ap (λ w. among j (reads_of w)) at ∙ has_among (reads wire) j has)
      by false e is = absurd (both_ways (is_taken marks out n) is e)

  -- a wire that another doesn't read was marked before
  was_taken : (x n : ℕ) (marks : List Bool) → n < length marks → (among n (reads_of (slice_get k.wires x)) ≡ true → ⊥) → is_taken (spread k.wires out x marks) out n ≡ true → is_taken marks out n ≡ true
  was_taken x n marks less unread = by (is_taken marks out x)
    where
      unread_is : among n (reads_of (slice_get k.wires x)) ≡ false
      unread_is = true_or (among n (reads_of (slice_get k.wires x))) (among n (reads_of (slice_get k.wires x)) ≡ false) (λ e. absurd (unread e)) (λ e. e)

      by : (t : Bool) → is_taken (if t then marked (reads_of (slice_get k.wires x)) marks else marks) out n ≡ true → is_taken marks out n ≡ true
      by true is = sym (ap (λ b. b && not (is_marked out n)) (marked_is (reads_of (slice_get k.wires x)) marks n less ∙ ap (λ b. b || is_marked marks n) unread_is)) ∙ is
      by false is = is

  -- of the part of the order from place `s` on
  closed_from : (s : ℕ) (l : List ℕ) → ((i : ℕ) (x : ℕ) → slice_get l i ≡ Some x → slice_get list (s + i) ≡ Some x) → (i n j : ℕ) (wire : Wire) → slice_get l i ≡ Some n → ((h : ℕ) → h < s + i → slice_get list h ≡ Some n → ⊥) → slice_get k.wires n ≡ Some wire → Has (reads wire) j → is_taken (needed k.wires out l begun) out n ≡ true → is_marked (needed k.wires out l begun) j ≡ true
  closed_from s [] same i n j wire at first w has is = absurd cc
  closed_from s (x ∷ l) same zero n j wire at first w has is =
      let e : x ≡ n = cc in
      let less : j < length (needed k.wires out l begun) = subst (λ m. j < m) (sym (long_all l)) (read_there k well n j wire w has) in
      subst (λ y. is_marked (spread k.wires out y (needed k.wires out l begun)) j ≡ true) (sym e)
      (spreads n j wire (needed k.wires out l begun) w less has (subst (λ y. is_taken (spread k.wires out y (needed k.wires out l begun)) out n ≡ true) e is))
  closed_from s (x ∷ l) same (suc i) n j wire at first w has is =
      let long' = long_all l in
      let j_less : j < length (needed k.wires out l begun) = subst (λ m. j < m) (sym long') (read_there k well n j wire w has) in
      let n_less : n < length (needed k.wires out l begun) = subst (λ m. n < m) (sym long') (within_from k.wires n wire w) in
      let here : slice_get list s ≡ Some x = (let e : s ≡ s + 0 = omega arith in ap (λ p. slice_get list p) e) ∙ same zero x refl in
      let shift : s + suc i ≡ suc s + i = omega arith in
      let before = was_taken x n (needed k.wires out l begun) n_less (unread here) is in
      grows x j (needed k.wires out l begun) j_less
      (closed_from (suc s) l (λ h y e. (let q : suc s + h ≡ s + suc h = omega arith in ap (λ p. slice_get list p) q) ∙ same (suc h) y e) i n j wire at (λ h less e. first h (subst (λ p. h < p) (sym shift) less) e) w has before)
    where
      unread : slice_get list s ≡ Some x → among n (reads_of (slice_get k.wires x)) ≡ true → ⊥
      unread here = by (slice_get k.wires x) refl
        where
          by : (v : Option Wire) → slice_get k.wires x ≡ v → among n (reads_of v) ≡ true → ⊥
          by None e is = cc
          by (Some v) e is =
              let stands = order.behind s x n v here e (among_has (reads v) n is) in
              let less : stands.place < s = stands.before in
              first stands.place (omega arith) stands.is

  pub closed_all : (n j : ℕ) (wire : Wire) → slice_get k.wires n ≡ Some wire → is_taken (needed k.wires out list begun) out n ≡ true → Has (reads wire) j → is_marked (needed k.wires out list begun) j ≡ true
  closed_all n j wire at is has =
      let found = first_at list n (order_has k list order n (within_from k.wires n wire at)) in
      closed_from 0 list (λ i x e. (let q : 0 + i ≡ i = omega arith in ap (λ p. slice_get list p) q) ∙ e) found.0 n j wire found.1 (λ h less e. found.2 h (let q : h < found.0 = omega arith in q) e) at has is

-- as many marks as wires
pub long_roots : (k : KernelForm) (mode : Mode) → length (roots k mode) ≡ length k.wires
long_roots k mode = by mode
  where
    none : length (replicate (length k.wires) false) ≡ length k.wires
    none = length-replicate (length k.wires) false

    faults : length (faults_marked k) ≡ length k.wires
    faults = length-marked (failing_from 0 k.wires) (replicate (length k.wires) false) ∙ none

    instants : length (instant_marked k) ≡ length k.wires
    instants =
        length-marked (map (λ (out : Output). out.«from») k.outs) _ ∙ length-marked (map (λ (site : KSite). site.value) k.sites) _
        ∙ length-marked (map (λ (site : KSite). site.fresh) k.sites) _ ∙ length-marked (nexts_from (held_memories k) 0 k.mems) (faults_marked k) ∙ faults

    by : (mode : Mode) → length (roots k mode) ≡ length k.wires
    by AtStep = length-marked (k.again ∷ []) (instant_marked k) ∙ instants
    by AtLeft = instants
    by InFlow = length-marked (map (λ (site : KSite). site.slope) k.sites) _ ∙ length-marked (flat_map (λ (mem : KMem). listed_in mem.slope) k.mems) (faults_marked k) ∙ faults

pub needs_closed : NeedsAreClosed
needs_closed k list well order mode = record { reads = λ n j wire at is has. closed_all k list well order (left_out k mode) (roots k mode) (long_roots k mode) n j wire at is has }
