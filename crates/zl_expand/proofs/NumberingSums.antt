-- The places of variables, one thing behind the other.
use Rattle.std.proofs.Common.{◌≡◌, ℕ, zero, suc, ◌+◌, ◌^◌, ◌<◌, ◌≤◌, List, [], ◌∷◌, ◌++◌, map, drop, length, get_or, Result, Ok, Err, OnOk, refl, sym, ap, ◌∙◌, arith}
use Rattle.std.proofs.lemmas.Grind.{common_steps}
use Rattle.std.proofs.lemmas.List.{append_assoc, append-nil, drop_all, drop_more}
use Rattle.zl_expand.specs.declared.numbering.Places.{Places}
use Rattle.zl_flat.specs.declared.size.Size.{Size}
use Rattle.zl_flat.specs.Capped.{cap, capped}
use Rattle.zl_flat.specs.Sizes.{plus}
use Rattle.zl_flat.specs.Numbering.{Numbering, in_turn, both, of_calls}
use Rattle.zl_expand.specs.Kept.{Numbers, NumbersWithin}
use Rattle.zl_flat.proofs.NumberingEnds.{Ends, turn-ends}
use Rattle.zl_flat.proofs.NumberingSteps.{numbering_steps}

same-places : (n a b : ℕ) → a ≡ cap b → n + b < 2 ^ 32 → a ≡ b
same-places n a b e h = omega (arith, e, h)

-- a count of places that fits is the exact one
pub pass-exact : (old new : Places) (size exact : Size) → size ≡ capped exact → NumbersWithin old new (of_calls size) → NumbersWithin old new (of_calls exact)
unfolding capped
pass-exact old new size exact e made = record {
  within = λ h.
      let same = same-places old.next size.places exact.places (ap (λ z. z.places) e) h in
      let m = made.within (omega (arith, same, h)) in
      record { own = m.own; next = m.next ∙ ap (λ p. old.next + p) same };
}

both-made : (a b c : Places) (f g : Numbering) → Numbers a b f → Numbers b c g → Numbers a c (both f g)
both-made a b c f g p q = record {
  own = q.own ∙ ap (λ xs. xs ++ (g b.next).own) p.own ∙ ap (λ n. (a.own.items ++ (f a.next).own) ++ (g n).own) p.next ∙ append_assoc a.own.items (f a.next).own (g (f a.next).next).own;
  next = q.next ∙ ap (λ n. (g n).next) p.next;
}

as-numbered : (a b : Places) (f g : Numbering) → f a.next ≡ g a.next → Numbers a b f → Numbers a b g
as-numbered a b f g e p = record { own = p.own ∙ ap (λ r. a.own.items ++ r.own) e; next = p.next ∙ ap (λ r. r.next) e }

-- what goes on by as many places as a size says
pub both-within : (a b c : Places) (f g : Numbering) (z : Size) → Ends g z → NumbersWithin a b f → NumbersWithin b c g → NumbersWithin a c (both f g)
both-within a b c f g z ends p q = record {
  within = λ h.
      let end = ends.next (f a.next).next in
      let first = p.within (omega (arith, end, h)) in
      let same : (g b.next).next ≡ (g (f a.next).next).next = ap (λ n. (g n).next) first.next in
      both-made a b c f g first (q.within (omega (arith, same, h)));
}

pub as-within : (a b : Places) (f g : Numbering) → f a.next ≡ g a.next → NumbersWithin a b f → NumbersWithin a b g
as-within a b f g e p = record {
  within = λ h.
      let same : (f a.next).next ≡ (g a.next).next = ap (λ r. r.next) e in
      as-numbered a b f g e (p.within (omega (arith, same, h)));
}

-- two and three things that hold calls alone
pub both-end : (y z : Size) → Ends (both (of_calls y) (of_calls z)) (plus y z)
unfolding plus
both-end y z = record { next = λ n. omega arith }

pub all-end : (x y z : Size) → Ends (both (of_calls x) (both (of_calls y) (of_calls z))) (plus x (plus y z))
unfolding plus
all-end x y z = record { next = λ n. omega arith }

pub on-ok : {T E : Type 0} (r : Result T E) (P Q : Type 0) → (P → Q) → OnOk r P → OnOk r Q
on-ok (Ok x) P Q f h = f h
on-ok (Err e) P Q f h = h

turn-more : {A : Type 0} (f : A → Numbering) (xs : List A) (i : ℕ) (x : A) (n : ℕ) → i < length xs → x ≡ get_or xs i x → in_turn (map f (drop i xs)) n ≡ both (f x) (in_turn (map f (drop (i + 1) xs))) n
turn-more f xs i x n h g = ap (λ ys. in_turn (map f ys) n) (drop_more xs i x h) ∙ ap (λ y. both (f y) (in_turn (map f (drop (i + 1) xs))) n) (sym g)

turn-step : {A : Type 0} (f : A → Numbering) (xs : List A) (i : ℕ) (x : A) (old new : Places) (all : List ℕ) (last : ℕ) → i < length xs → x ≡ get_or xs i x → Numbers old new (f x) → old.own.items ++ (in_turn (map f (drop i xs)) old.next).own ≡ all → (in_turn (map f (drop i xs)) old.next).next ≡ last → (new.own.items ++ (in_turn (map f (drop (i + 1) xs)) new.next).own ≡ all) × ((in_turn (map f (drop (i + 1) xs)) new.next).next ≡ last)
turn-step f xs i x old new all last h g made p q = (
  ap (λ own. own ++ (in_turn (map f (drop (i + 1) xs)) new.next).own) made.own
      ∙ ap (λ n. (old.own.items ++ (f x old.next).own) ++ (in_turn (map f (drop (i + 1) xs)) n).own) made.next
      ∙ append_assoc old.own.items (f x old.next).own (in_turn (map f (drop (i + 1) xs)) (f x old.next).next).own
      ∙ ap (λ r. old.own.items ++ r.own) (sym (turn-more f xs i x old.next h g))
      ∙ p,
  ap (λ n. (in_turn (map f (drop (i + 1) xs)) n).next) made.next ∙ ap (λ r. r.next) (sym (turn-more f xs i x old.next h g)) ∙ q,
)

-- From the first on, those of a list up to the i-th are numbered.
pub record TurnWithin {A : Type 0} (f : A → Numbering) (xs : List A) (i : ℕ) (first now : Places) : Type 0 where
  pub within : (in_turn (map f xs) first.next).next < 2 ^ 32 → (now.own.items ++ (in_turn (map f (drop i xs)) now.next).own ≡ first.own.items ++ (in_turn (map f xs) first.next).own) × ((in_turn (map f (drop i xs)) now.next).next ≡ (in_turn (map f xs) first.next).next)

pub turn-begins : {A : Type 0} (f : A → Numbering) (xs : List A) (first : Places) → TurnWithin f xs 0 first first
turn-begins f xs first = record { within = λ h. (refl, refl) }

pub turn-within : {A : Type 0} (f : A → Numbering) (z : A → Size) (each : (x : A) → Ends (f x) (z x)) (xs : List A) (i : ℕ) (x : A) (first old new : Places) → NumbersWithin old new (f x) → TurnWithin f xs i first old → i < length xs → x ≡ get_or xs i x → TurnWithin f xs (i + 1) first new
turn-within f z each xs i x first old new made turn lt is = record {
  within = λ h.
      let so_far = turn.within h in
      let step : (in_turn (map f (drop i xs)) old.next).next ≡ (in_turn (map f (drop (i + 1) xs)) (f x old.next).next).next = ap (λ r. r.next) (turn-more f xs i x old.next lt is) in
      let rest = (turn-ends f z each (drop (i + 1) xs)).next (f x old.next).next in
      let end = so_far.1 in
      turn-step f xs i x old new _ _ lt is (made.within (omega (arith, step, rest, end, h))) so_far.0 end;
}

-- each number below the length is that of something in the list
pub something-there : {A : Type 0} (xs : List A) (i : ℕ) → i < length xs → (x : A) × (x ≡ get_or xs i x)
something-there [] i h = absurd (omega arith)
something-there (x ∷ xs) zero h = (x, refl)
something-there (x ∷ xs) (suc i) h = something-there xs i (omega arith)

pub turn-made : {A : Type 0} (f : A → Numbering) (xs : List A) (i : ℕ) (first now : Places) → length xs ≤ i → TurnWithin f xs i first now → NumbersWithin first now (in_turn (map f xs))
turn-made f xs i first now all turn = record {
  within = λ h.
      let so_far = turn.within h in
      let left = drop_all i xs all in
      record {
        own = sym (append-nil now.own.items) ∙ ap (λ ys. now.own.items ++ (in_turn (map f ys) now.next).own) (sym left) ∙ so_far.0;
        next = ap (λ ys. (in_turn (map f ys) now.next).next) (sym left) ∙ so_far.1;
      };
}

pub ruleset exact_sizes = (common_steps, pass-exact)

pub ruleset numbering = (common_steps, numbering_steps)
