-- What is marked, as a test on the numbers.
use Rattle.std.specs.Prelude.{◌≡◌, ℕ, zero, suc, ◌<◌, ◌+◌, Bool, true, false, nat_eq, ◌||◌, if◌then◌else◌, List, [], ◌∷◌, ◌++◌, length, get_or, set, replicate, map, drop}
use Rattle.std.specs.List.{list_any, flat_map}
use Rattle.std.proofs.Common.{refl, sym, ap, ap₂, ◌∙◌, arith, subst, inl, inr}
use Rattle.std.proofs.lemmas.Bool.{cases_eq, eq-eqb, ne_eqb}
use Rattle.std.proofs.lemmas.List.{get_or-set_same, get_or-set_other, length-set, drop_more}
use Rattle.zl_value.specs.Lists.{among}
use Rattle.zl_kernel.specs.FlowWires.{reads}
use Rattle.zl_kernel.specs.declared.wire.Wire.{Wire}
use Rattle.zl_codegen.specs.Needs.{marked, is_marked}
use Rattle.zl_codegen.specs.FlowTables.{read_from}
use Rattle.zl_codegen.proofs.MarkLists.{marked_append}

swapped : (a b c : Bool) → (a || (b || c)) ≡ ((b || a) || c)
swapped true true c = refl
swapped true false c = refl
swapped false true c = refl
swapped false false c = refl

pub or_assoc : (a b c : Bool) → ((a || b) || c) ≡ (a || (b || c))
or_assoc true b c = refl
or_assoc false b c = refl

pub or-false : (a : Bool) → (a || false) ≡ a
or-false true = refl
or-false false = refl

pub length-marked : (ns : List ℕ) (marks : List Bool) → length (marked ns marks) ≡ length marks
length-marked [] marks = refl
length-marked (n ∷ ns) marks = length-marked ns (set marks n true) ∙ length-set marks n true

pub set_is : (marks : List Bool) (j n : ℕ) → n < length marks → is_marked (set marks j true) n ≡ (nat_eq j n || is_marked marks n)
set_is marks j n less = elim (cases_eq j n) [
  | inl same ↦ (
      subst (λ i. is_marked (set marks i true) n ≡ (nat_eq j n || is_marked marks n)) (sym same)
      (get_or-set_same marks n true false less ∙ ap (λ b. b || is_marked marks n) (sym (eq-eqb j n same))))
  | inr other ↦ get_or-set_other marks j n true false (λ e. other (sym e)) ∙ ap (λ b. b || is_marked marks n) (sym (ne_eqb j n other))
]

-- a number is marked if it is one of those, or was
pub marked_is : (ns : List ℕ) (marks : List Bool) (n : ℕ) → n < length marks → is_marked (marked ns marks) n ≡ (among n ns || is_marked marks n)
marked_is [] marks n less = refl
marked_is (j ∷ ns) marks n less =
    marked_is ns (set marks j true) n (subst (λ m. n < m) (sym (length-set marks j true)) less)
    ∙ ap (λ b. among n ns || b) (set_is marks j n less) ∙ swapped (among n ns) (nat_eq j n) (is_marked marks n)

pub among-append : (n : ℕ) (xs ys : List ℕ) → among n (xs ++ ys) ≡ (among n xs || among n ys)
among-append n [] ys = refl
among-append n (x ∷ xs) ys = ap (λ b. nat_eq x n || b) (among-append n xs ys) ∙ sym (or_assoc (nat_eq x n) (among n xs) (among n ys))

pub among-map : {X : Type 0} (f : X → ℕ) (n : ℕ) (xs : List X) → among n (map f xs) ≡ list_any (λ x. nat_eq (f x) n) xs
among-map f n [] = refl
among-map f n (x ∷ xs) = ap (λ b. nat_eq (f x) n || b) (among-map f n xs)

pub among-flat_map : {X : Type 0} (f : X → List ℕ) (n : ℕ) (xs : List X) → among n (flat_map f xs) ≡ list_any (λ x. among n (f x)) xs
among-flat_map f n [] = refl
among-flat_map f n (x ∷ xs) = among-append n (f x) (flat_map f xs) ∙ ap (λ b. among n (f x) || b) (among-flat_map f n xs)

pub any_or : {X : Type 0} (p q : X → Bool) (xs : List X) → list_any (λ x. p x || q x) xs ≡ (list_any p xs || list_any q xs)
any_or p q [] = refl
any_or p q (x ∷ xs) = ap (λ b. (p x || q x) || b) (any_or p q xs) ∙ four (p x) (q x) (list_any p xs) (list_any q xs)
  where
    four : (a b c d : Bool) → ((a || b) || (c || d)) ≡ ((a || c) || (b || d))
    four true b c d = refl
    four false true true d = refl
    four false true false d = refl
    four false false c d = refl

-- none is marked
pub none_marked : (count n : ℕ) → is_marked (replicate count false) n ≡ false
none_marked zero n = refl
none_marked (suc count) zero = refl
none_marked (suc count) (suc n) = none_marked count n

-- a loop's step over what wires read
pub reads_more : (wires : List Wire) (i : ℕ) (wire : Wire) (marks new : List Bool) → i < length wires → wire ≡ get_or wires i wire → new ≡ marked (reads wire) marks → marked (flat_map reads (drop (i + 1) wires)) new ≡ marked (flat_map reads (drop i wires)) marks
reads_more wires i wire marks new less is done =
    ap (λ m. marked (flat_map reads (drop (i + 1) wires)) m) done
    ∙ sym (marked_append (reads wire) (flat_map reads (drop (i + 1) wires)) marks)
    ∙ ap (λ w. marked (reads w ++ flat_map reads (drop (i + 1) wires)) marks) is
    ∙ sym (ap (λ ws. marked (flat_map reads ws) marks) (drop_more wires i wire less))

abbrev pub unless : Bool → List ℕ → List ℕ
unless slope ns = if slope then [] else ns

pub others_more : (slopes : List Bool) (wires : List Wire) (i : ℕ) (wire : Wire) (slope : Bool) (marks new : List Bool) → i < length wires → wire ≡ get_or wires i wire → slope ≡ is_marked slopes i → new ≡ marked (unless slope (reads wire)) marks → marked (read_from slopes (i + 1) (drop (i + 1) wires)) new ≡ marked (read_from slopes i (drop i wires)) marks
others_more slopes wires i wire slope marks new less is test done =
    ap (λ m. marked (read_from slopes (i + 1) (drop (i + 1) wires)) m) done
    ∙ sym (marked_append (unless slope (reads wire)) (read_from slopes (i + 1) (drop (i + 1) wires)) marks)
    ∙ ap₂ (λ t w. marked (unless t (reads w) ++ read_from slopes (i + 1) (drop (i + 1) wires)) marks) test is
    ∙ ap (λ n. marked (unless (is_marked slopes i) (reads (get_or wires i wire)) ++ read_from slopes n (drop (i + 1) wires)) marks) (let e : i + 1 ≡ suc i = omega arith in e)
    ∙ sym (ap (λ ws. marked (read_from slopes i ws) marks) (drop_more wires i wire less))
