-- Properties of the first place.
use Rattle.std.proofs.Common.{◌≡◌, ℕ, zero, suc, ◌<◌, Bool, true, false, ◌&&◌, ◌||◌, cond, nat_eq, nat_lt, ◌⊎◌, inl, inr, List, [], ◌∷◌, ◌++◌, Option, Some, None, refl, ◌∙◌, ap, subst, arith}
use Rattle.std.specs.List.{AllByRecursion, Contains}
use Rattle.std.proofs.lemmas.Bool.Decides.{nat_tests}
use Rattle.std.proofs.lemmas.Grind.{common_steps}
use Rattle.zl_value.specs.declared.position.Pos.{Pos}
use Rattle.zl_ast.specs.declared.program.Program.{Program}
use Rattle.zl_ast.specs.Parsed.{Before}
use Rattle.zl_ast.specs.Kinds.{misplaced, IsFirstMisplaced}
use Rattle.zl_types.specs.ContextsFirst.{stands_before, sooner, earliest}

-- ---- noting one place after the other

pub earliest-append : (found : Option Pos) (ps qs : List Pos) → earliest found (ps ++ qs) ≡ earliest (earliest found ps) qs
unfolding earliest
earliest-append found [] qs = refl
earliest-append found (p ∷ ps) qs = earliest-append (Some (sooner found p)) ps qs

pub earliest-none : (found : Option Pos) → earliest found [] ≡ found
unfolding earliest
earliest-none found = refl

pub ruleset noting = (common_steps, earliest-append, earliest-none)

-- ---- the order of places

-- one pair of numbers comes before another
abbrev lex : ℕ → ℕ → ℕ → ℕ → Bool
lex l c m d = nat_lt l m || (nat_eq l m && nat_lt c d)

after_both : (l c m d n f : ℕ) → lex l c m d ≡ true → lex l c n f ≡ false → lex m d n f ≡ false
after_both l c m d n f x y = grind (arith, nat_tests)

before_neither : (l c m d n f : ℕ) → lex l c m d ≡ false → lex m d n f ≡ false → lex l c n f ≡ false
before_neither l c m d n f x y = grind (arith, nat_tests)

irreflexive : (l c : ℕ) → lex l c l c ≡ false
irreflexive l c = grind (arith, nat_tests)

not_before : (l c m d : ℕ) → lex l c m d ≡ false → (l < m) ⊎ ((l ≡ m) × (c < d)) → ⊥
not_before l c m d x (inl h) = grind (arith, nat_tests)
not_before l c m d x (inr h) = grind (arith, nat_tests)

-- ---- the first of a list

-- none of the list stands before p
abbrev NoneBefore : Pos → List Pos → Type 0
NoneBefore p ps = AllByRecursion (λ q. stands_before q p ≡ false) ps

record IsFirst (p : Pos) (ps : List Pos) : Type 0 where
  among : Contains ps p
  none_before : NoneBefore p ps

record Found (q : Pos) (ps : List Pos) : Type 0 where
  first : Pos
  is : earliest (Some q) ps ≡ Some first
  holds : IsFirst first (q ∷ ps)

contains_here : (p : Pos) (ps : List Pos) → Contains (p ∷ ps) p
contains_here p ps = (0, omega arith, refl)

contains_later : (p q : Pos) (ps : List Pos) → Contains ps p → Contains (q ∷ ps) p
contains_later p q ps h = (suc h.0, omega arith, h.2)

-- what is in a list with its head is in it behind one more
skipped : (q r p : Pos) (ps : List Pos) → Contains (q ∷ ps) p → Contains (q ∷ (r ∷ ps)) p
skipped q r p ps (zero, h, e) = (0, omega arith, e)
skipped q r p ps (suc n, h, e) = (suc (suc n), omega arith, e)

found : (q : Pos) (ps : List Pos) → Found q ps
unfolding earliest
found q [] = record { first = q; is = refl; holds = record { among = contains_here q []; none_before = (irreflexive q.line q.column, tt) } }
found q (r ∷ ps) = one_more q r ps (stands_before r q) refl (found r ps) (found q ps)
  where
    one_more : (q r : Pos) (ps : List Pos) (b : Bool) → stands_before r q ≡ b → Found r ps → Found q ps → Found q (r ∷ ps)
    one_more q r ps true e fr fq =
        let p = fr.first in
        let r_after : stands_before r p ≡ false = fr.holds.none_before.0 in
        let q_after : stands_before q p ≡ false = after_both r.line r.column q.line q.column p.line p.column e r_after in
        record {
          first = p;
          is = ap (λ b. earliest (Some (cond b r q)) ps) e ∙ fr.is;
          holds = record { among = contains_later p q (r ∷ ps) fr.holds.among; none_before = (q_after, (r_after, fr.holds.none_before.1)) };
        }
    one_more q r ps false e fr fq =
        let p = fq.first in
        let q_after : stands_before q p ≡ false = fq.holds.none_before.0 in
        let r_after : stands_before r p ≡ false = before_neither r.line r.column q.line q.column p.line p.column e q_after in
        record {
          first = p;
          is = ap (λ b. earliest (Some (cond b r q)) ps) e ∙ fq.is;
          holds = record { among = skipped q r p ps fq.holds.among; none_before = (q_after, (r_after, fq.holds.none_before.1)) };
        }

first_of : (p : Pos) (ps : List Pos) → earliest None ps ≡ Some p → IsFirst p ps
unfolding earliest
first_of p [] e = absurd (cc)
first_of p (q ∷ ps) e =
    let f = found q ps in
    let same : f.first ≡ p = cc in
    subst (λ u. IsFirst u (q ∷ ps)) same f.holds

none_least : (at : Pos) (ps : List Pos) → NoneBefore at ps → AllByRecursion (λ other. Before other at → ⊥) ps
none_least at [] h = tt
none_least at (p ∷ ps) h = (not_before p.line p.column at.line at.column h.0, none_least at ps h.1)

some_found : (p : Pos) (ps : List Pos) → earliest (Some p) ps ≡ None → ⊥
some_found p ps e = let f = found p ps in cc

nothing_found : (ps : List Pos) → earliest None ps ≡ None → ps ≡ []
unfolding earliest
nothing_found [] e = refl
nothing_found (p ∷ ps) e = absurd (some_found p ps e)

-- what the walk over a program finds
pub first_misplaced : (p : Program) (found : Option Pos) → found ≡ earliest None (misplaced p) → IsFirstMisplaced p found
first_misplaced p None e = nothing_found (misplaced p) (cc)
first_misplaced p (Some at) e =
    let f = first_of at (misplaced p) (cc) in
    record { broken = f.among; least = none_least at (misplaced p) f.none_before }
