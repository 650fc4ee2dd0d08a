-- Sums of sizes whose counts stay at the greatest number.
use Rattle.std.proofs.Common.{◌≡◌, ℕ, zero, suc, ◌+◌, max, ◌<◌, List, [], ◌∷◌, map, drop, length, get_or, refl, sym, ap, ◌∙◌, arith}
use Rattle.std.proofs.lemmas.Grind.{common_steps}
use Rattle.std.proofs.lemmas.List.{drop_more}
use Rattle.zl_flat.specs.declared.size.Size.{Size}
use Rattle.zl_flat.specs.Sizes.{none, plus, total}
use Rattle.zl_flat.specs.Capped.{cap, capped}
use Rattle.zl_flat.proofs.SizeSteps.{size_steps}

size-eq : {a b : Size} → a.places ≡ b.places → a.occs ≡ b.occs → a.sites ≡ b.sites → a.blocks ≡ b.blocks → a.calls ≡ b.calls → a ≡ b
size-eq p o s k c = λ i. record { places = p i; occs = o i; sites = s i; blocks = k i; calls = c i }

cap-left : (a b : ℕ) → cap (cap a + b) ≡ cap (a + b)
cap-left a b = omega arith

cap-right : (a b : ℕ) → cap (a + cap b) ≡ cap (a + b)
cap-right a b = omega arith

cap-max-left : (a b : ℕ) → cap (max (cap a) b) ≡ cap (max a b)
cap-max-left a b = omega arith

cap-max-right : (a b : ℕ) → cap (max a (cap b)) ≡ cap (max a b)
cap-max-right a b = omega arith

pub capped-left : (a b : Size) → capped (plus (capped a) b) ≡ capped (plus a b)
unfolding capped plus
capped-left a b = size-eq (cap-left _ _) (cap-left _ _) (cap-left _ _) (cap-left _ _) (cap-max-left _ _)

pub capped-right : (a b : Size) → capped (plus a (capped b)) ≡ capped (plus a b)
unfolding capped plus
capped-right a b = size-eq (cap-right _ _) (cap-right _ _) (cap-right _ _) (cap-right _ _) (cap-max-right _ _)

cap-cap : (a : ℕ) → cap (cap a) ≡ cap a
cap-cap a = omega arith

pub capped-capped : (a : Size) → capped (capped a) ≡ capped a
unfolding capped
capped-capped a = size-eq (cap-cap _) (cap-cap _) (cap-cap _) (cap-cap _) (cap-cap _)

sum-assoc : (a b c : ℕ) → a + b + c ≡ a + (b + c)
sum-assoc a b c = omega arith

max-assoc : (a b c : ℕ) → max (max a b) c ≡ max a (max b c)
max-assoc a b c = omega arith

pub plus-assoc : (a b c : Size) → plus (plus a b) c ≡ plus a (plus b c)
unfolding plus
plus-assoc a b c = size-eq (sum-assoc _ _ _) (sum-assoc _ _ _) (sum-assoc _ _ _) (sum-assoc _ _ _) (max-assoc _ _ _)

zero-sum : (a : ℕ) → 0 + a ≡ a
zero-sum a = omega arith

sum-zero : (a : ℕ) → a + 0 ≡ a
sum-zero a = omega arith

zero-max : (a : ℕ) → max 0 a ≡ a
zero-max a = omega arith

max-zero : (a : ℕ) → max a 0 ≡ a
max-zero a = omega arith

pub none-plus : (a : Size) → plus none a ≡ a
unfolding plus none
none-plus a = size-eq (zero-sum _) (zero-sum _) (zero-sum _) (zero-sum _) (zero-max _)

pub plus-none : (a : Size) → plus a none ≡ a
unfolding plus none
plus-none a = size-eq (sum-zero _) (sum-zero _) (sum-zero _) (sum-zero _) (max-zero _)

suc-more : (i : ℕ) → suc (i + 1) ≡ suc i + 1
suc-more i = omega arith

inner-left : (a b r : Size) → capped (plus a (plus (capped b) r)) ≡ capped (plus a (plus b r))
inner-left a b r = sym (capped-right a (plus (capped b) r)) ∙ ap (λ s. capped (plus a s)) (capped-left b r) ∙ capped-right a (plus b r)

-- one more of a list is added
pub sum-step : {A : Type 0} (f : A → Size) (xs : List A) (i : ℕ) (x : A) (old one new all : Size) → i < length xs → x ≡ get_or xs i x → one ≡ capped (f x) → new ≡ capped (plus old one) → capped (plus old (total (map f (drop i xs)))) ≡ all → (capped (plus new (total (map f (drop (i + 1) xs)))) ≡ all) × (new ≡ capped new)
sum-step f xs i x old one new all h g o n e = (
  ap (λ s. capped (plus s (total (map f (drop (i + 1) xs))))) n
      ∙ capped-left (plus old one) (total (map f (drop (i + 1) xs)))
      ∙ ap (λ s. capped s) (plus-assoc old one (total (map f (drop (i + 1) xs))))
      ∙ ap (λ s. capped (plus old (plus s (total (map f (drop (i + 1) xs)))))) o
      ∙ inner-left old (f x) (total (map f (drop (i + 1) xs)))
      ∙ ap (λ y. capped (plus old (plus (f y) (total (map f (drop (i + 1) xs)))))) g
      ∙ ap (λ ys. capped (plus old (total (map f ys)))) (sym (drop_more xs i x h))
      ∙ e,
  sym (ap (λ s. capped s) n ∙ capped-capped (plus old one) ∙ sym n),
)

capped-two : (a b : Size) → capped (plus (capped a) (capped b)) ≡ capped (plus a b)
capped-two a b = capped-left a (capped b) ∙ capped-right a b

pub capped-four : (a b c d : Size) → capped (plus (capped a) (capped (plus (capped b) (capped (plus (capped c) (capped d)))))) ≡ capped (plus a (plus b (plus c d)))
capped-four a b c d =
    ap (λ s. capped (plus (capped a) (capped (plus (capped b) s)))) (capped-two c d)
    ∙ ap (λ s. capped (plus (capped a) s)) (capped-two b (plus c d))
    ∙ capped-two a (plus b (plus c d))

pub chain-four : {a b c d r s t : Size} (A B C D : Size) → a ≡ capped A → b ≡ capped B → c ≡ capped C → d ≡ capped D → r ≡ capped (plus c d) → s ≡ capped (plus b r) → t ≡ capped (plus a s) → t ≡ capped (plus A (plus B (plus C D)))
chain-four A B C D ea eb ec ed er es et =
    et
    ∙ (λ i. capped (plus (ea i) (es i)))
    ∙ (λ i. capped (plus (capped A) (capped (plus (eb i) (er i)))))
    ∙ (λ i. capped (plus (capped A) (capped (plus (capped B) (capped (plus (ec i) (ed i)))))))
    ∙ capped-four A B C D

-- the same on each of a list
repeated-more : {A : Type 0} (x : Size) (xs : List A) (i : ℕ) → i < length xs → total (map (λ p. x) (drop i xs)) ≡ plus x (total (map (λ p. x) (drop (i + 1) xs)))
repeated-more x [] i h = absurd (omega arith)
repeated-more x (y ∷ xs) zero h = refl
repeated-more x (y ∷ xs) (suc i) h = repeated-more x xs i (omega arith) ∙ ap (λ k. plus x (total (map (λ p. x) (drop k (y ∷ xs))))) (suc-more i)

pub repeated-step : {A : Type 0} (x : Size) (xs : List A) (i : ℕ) (old new all : Size) → i < length xs → new ≡ capped (plus old (capped x)) → capped (plus old (total (map (λ p. x) (drop i xs)))) ≡ all → (capped (plus new (total (map (λ p. x) (drop (i + 1) xs)))) ≡ all) × (new ≡ capped new)
repeated-step x xs i old new all h n e = (
  ap (λ s. capped (plus s (total (map (λ p. x) (drop (i + 1) xs))))) n
      ∙ capped-left (plus old (capped x)) (total (map (λ p. x) (drop (i + 1) xs)))
      ∙ ap (λ s. capped s) (plus-assoc old (capped x) (total (map (λ p. x) (drop (i + 1) xs))))
      ∙ inner-left old x (total (map (λ p. x) (drop (i + 1) xs)))
      ∙ ap (λ s. capped (plus old s)) (sym (repeated-more x xs i h))
      ∙ e,
  sym (ap (λ s. capped s) n ∙ capped-capped (plus old (capped x)) ∙ sym n),
)

pub ruleset sizes = (common_steps, capped-left, capped-right, capped-capped, plus-assoc, none-plus, plus-none, size_steps)
