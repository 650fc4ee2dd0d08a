-- The first violation is the refusal.
use Rattle.std.proofs.Common.{◌≡◌, ℕ, suc, ◌<◌, Bool, true, false, ◌&&◌, ◌||◌, cond, nat_eq, nat_lt, ◌⊎◌, inl, inr, List, [], ◌∷◌, map, filter, Some, None, refl, ◌∙◌, ap, subst, arith}
use Rattle.std.specs.List.{AllByRecursion, Contains}
use Rattle.std.proofs.lemmas.Bool.Decides.{nat_tests}
use Rattle.zl_value.specs.declared.position.Pos.{Pos}
use Rattle.zl_value.specs.declared.rule.Rule.{Rule}
use Rattle.zl_ast.specs.declared.program.Program.{Program}
use Rattle.zl_ast.specs.Names.{Violation}
use Rattle.zl_ast.specs.Parsed.{Before}
use Rattle.zl_ast.specs.NamesRules.{turn, violations, IsRefusedAt}
use Rattle.zl_names.specs.Earliest.{precedes, earliest}

-- ---- the order of violations

-- one triple of numbers comes before another
abbrev lex : ℕ → ℕ → ℕ → ℕ → ℕ → ℕ → Bool
lex a l c b m d = nat_lt a b || (nat_eq a b && (nat_lt l m || (nat_eq l m && nat_lt c d)))

after_both : (a l c b m d e n f : ℕ) → lex a l c b m d ≡ true → lex a l c e n f ≡ false → lex b m d e n f ≡ false
after_both a l c b m d e n f x y = grind (arith, nat_tests)

before_neither : (a l c b m d e n f : ℕ) → lex a l c b m d ≡ false → lex b m d e n f ≡ false → lex a l c e n f ≡ false
before_neither a l c b m d e n f x y = grind (arith, nat_tests)

irreflexive : (a l c : ℕ) → lex a l c a l c ≡ false
irreflexive a l c = grind (arith, nat_tests)

-- ---- the first of a list

-- v is in the list, or is this one
abbrev In : Violation → List Violation → Type 0
In v [] = ⊥
In v (w ∷ vs) = (w ≡ v) ⊎ In v vs

-- none of the list precedes v
abbrev NonePrecedes : Violation → List Violation → Type 0
NonePrecedes v vs = AllByRecursion (λ w. precedes w v ≡ false) vs

record IsFirst (v : Violation) (vs : List Violation) : Type 0 where
  among : In v vs
  none_before : NonePrecedes v vs

record Found (w : Violation) (vs : List Violation) : Type 0 where
  first : Violation
  is : earliest (Some w) vs ≡ Some first
  holds : IsFirst first (w ∷ vs)

skipped : (w x v : Violation) (vs : List Violation) → (w ≡ v) ⊎ In v vs → (w ≡ v) ⊎ ((x ≡ v) ⊎ In v vs)
skipped w x v vs (inl e) = inl e
skipped w x v vs (inr e) = inr (inr e)

found : (w : Violation) (vs : List Violation) → Found w vs
unfolding earliest
found w [] = record { first = w; is = refl; holds = record { among = inl refl; none_before = (irreflexive (turn w.0) w.1.line w.1.column, tt) } }
found w (x ∷ vs) = one_more w x vs (precedes x w) refl (found x vs) (found w vs)
  where
    one_more : (w x : Violation) (vs : List Violation) (b : Bool) → precedes x w ≡ b → Found x vs → Found w vs → Found w (x ∷ vs)
    one_more w x vs true e fx fw =
        let v = fx.first in
        let x_after : precedes x v ≡ false = fx.holds.none_before.0 in
        let w_after : precedes w v ≡ false = after_both (turn x.0) x.1.line x.1.column (turn w.0) w.1.line w.1.column (turn v.0) v.1.line v.1.column e x_after in
        record {
          first = v;
          is = ap (λ b. earliest (Some (cond b x w)) vs) e ∙ fx.is;
          holds = record { among = inr fx.holds.among; none_before = (w_after, (x_after, fx.holds.none_before.1)) };
        }
    one_more w x vs false e fx fw =
        let v = fw.first in
        let w_after : precedes w v ≡ false = fw.holds.none_before.0 in
        let x_after : precedes x v ≡ false = before_neither (turn x.0) x.1.line x.1.column (turn w.0) w.1.line w.1.column (turn v.0) v.1.line v.1.column e w_after in
        record {
          first = v;
          is = ap (λ b. earliest (Some (cond b x w)) vs) e ∙ fw.is;
          holds = record { among = skipped w x v vs fw.holds.among; none_before = (w_after, (x_after, fw.holds.none_before.1)) };
        }

first_of : (v : Violation) (vs : List Violation) → earliest None vs ≡ Some v → IsFirst v vs
unfolding earliest
first_of v [] e = absurd (cc)
first_of v (w ∷ vs) e =
    let f = found w vs in
    let same : f.first ≡ v = cc in
    subst (λ u. IsFirst u (w ∷ vs)) same f.holds

-- ---- by rules

-- the places of the violations of one rule
abbrev places : Rule → List Violation → List Pos
places r vs = map (λ v. v.1) (filter (λ v. nat_eq (turn v.0) (turn r)) vs)

contains_later : (p q : Pos) (ps : List Pos) → Contains ps p → Contains (q ∷ ps) p
contains_later p q ps h = (suc h.0, omega arith, h.2)

-- one more violation, and whether it is of the rule
abbrev chosen : Bool → Violation → List Violation → List Pos
chosen b v vs = map (λ w. w.1) (cond b (v ∷ vs) vs)

same_turn : (n : ℕ) → nat_eq n n ≡ true
same_turn n = grind (arith, nat_tests)

contains_here : (b : Bool) (v : Violation) (vs : List Violation) (at : Pos) → b ≡ true → v.1 ≡ at → Contains (chosen b v vs) at
contains_here true v vs at is e = (0, omega arith, e)
contains_here false v vs at is e = absurd (cc)

contains_more : (b : Bool) (v : Violation) (vs : List Violation) (at : Pos) → Contains (map (λ w. w.1) vs) at → Contains (chosen b v vs) at
contains_more true v vs at h = contains_later at v.1 (map (λ w. w.1) vs) h
contains_more false v vs at h = h

in_places : (r : Rule) (at : Pos) (vs : List Violation) → In (r, at) vs → Contains (places r vs) at
in_places r at [] h = absurd h
in_places r at (v ∷ vs) (inl e) =
    contains_here (nat_eq (turn v.0) (turn r)) v (filter (λ w. nat_eq (turn w.0) (turn r)) vs) at (ap (λ w. nat_eq (turn w.0) (turn r)) e ∙ same_turn (turn r)) (ap (λ w. w.1) e)
in_places r at (v ∷ vs) (inr h) = contains_more (nat_eq (turn v.0) (turn r)) v (filter (λ w. nat_eq (turn w.0) (turn r)) vs) at (in_places r at vs h)

no_lesser : (a l c b m d : ℕ) → lex a l c b m d ≡ false → nat_eq a b ≡ true → (l < m) ⊎ ((l ≡ m) × (c < d)) → ⊥
no_lesser a l c b m d x e (inl h) = grind (arith, nat_tests)
no_lesser a l c b m d x e (inr h) = grind (arith, nat_tests)

least_at : (b : Bool) (v : Violation) (vs : List Violation) (at : Pos) → (b ≡ true → Before v.1 at → ⊥)
    → AllByRecursion (λ other. Before other at → ⊥) (map (λ w. w.1) vs) → AllByRecursion (λ other. Before other at → ⊥) (chosen b v vs)
least_at true v vs at here rest = (here refl, rest)
least_at false v vs at here rest = rest

none_least : (r : Rule) (at : Pos) (vs : List Violation) → NonePrecedes (r, at) vs → AllByRecursion (λ other. Before other at → ⊥) (places r vs)
none_least r at [] h = tt
none_least r at (v ∷ vs) h =
    least_at (nat_eq (turn v.0) (turn r)) v (filter (λ w. nat_eq (turn w.0) (turn r)) vs) at
    (λ e. no_lesser (turn v.0) v.1.line v.1.column (turn r) at.line at.column h.0 e) (none_least r at vs h.1)

no_sooner : (a l c b m d s : ℕ) → lex a l c b m d ≡ false → s < b → nat_eq a s ≡ true → ⊥
no_sooner a l c b m d s x less e = grind (arith, nat_tests)

none_at : (b : Bool) (v : Violation) (vs : List Violation) → (b ≡ true → ⊥) → map (λ w. w.1) vs ≡ [] → chosen b v vs ≡ []
none_at true v vs here rest = absurd (here refl)
none_at false v vs here rest = rest

none_earlier : (r s : Rule) (at : Pos) (vs : List Violation) → NonePrecedes (r, at) vs → turn s < turn r → places s vs ≡ []
none_earlier r s at [] h less = refl
none_earlier r s at (v ∷ vs) h less =
    none_at (nat_eq (turn v.0) (turn s)) v (filter (λ w. nat_eq (turn w.0) (turn s)) vs)
    (no_sooner (turn v.0) v.1.line v.1.column (turn r) at.line at.column (turn s) h.0 less) (none_earlier r s at vs h.1 less)

pub refused_at : (p : Program) (r : Rule) (at : Pos) → earliest None (violations p) ≡ Some (r, at) → IsRefusedAt p r at
refused_at p r at e =
    let f = first_of (r, at) (violations p) e in
    record {
      broken = in_places r at (violations p) f.among;
      least = none_least r at (violations p) f.none_before;
      earlier = λ s less. none_earlier r s at (violations p) f.none_before less;
    }

some_found : (v : Violation) (vs : List Violation) → earliest (Some v) vs ≡ None → ⊥
some_found v vs e = let f = found v vs in cc

nothing_found : (vs : List Violation) → earliest None vs ≡ None → vs ≡ []
unfolding earliest
nothing_found [] e = refl
nothing_found (v ∷ vs) e = absurd (some_found v vs e)

pub kept_by : (p : Program) → earliest None (violations p) ≡ None → violations p ≡ []
kept_by p e = nothing_found (violations p) e
