-- What is known where no rule of names is broken: nothing in a list of violations, and which names are variables.
use Rattle.std.proofs.Common.{◌≡◌, ℕ, Bool, true, false, ◌||◌, if◌then◌else◌, nat_eq, List, [], ◌∷◌, ◌++◌, Some, refl, sym, ap, subst, ◌∙◌}
use Rattle.std.proofs.lemmas.Bool.{eqb-true}
use Rattle.zl_value.specs.declared.position.Pos.{Pos}
use Rattle.zl_value.specs.declared.rule.Rule.{Rule}
use Rattle.zl_ast.specs.Names.{broken_if, among}
use Rattle.zl_flat.specs.declared.variable.Variable.{Variable}
use Rattle.zl_flat.specs.Variables.{variable_of}
use Rattle.zl_flat.specs.Instances.{Instance}

-- ---- nothing is broken

pub none-left : {X : Type 0} (xs ys : List X) → xs ++ ys ≡ [] → xs ≡ []
none-left [] ys h = refl
none-left (x ∷ xs) ys h = cc

pub none-right : {X : Type 0} (xs ys : List X) → xs ++ ys ≡ [] → ys ≡ []
none-right [] ys h = h
none-right (x ∷ xs) ys h = cc

pub kept-if : (b : Bool) (r : Rule) (at : Pos) → broken_if b r at ≡ [] → b ≡ false
kept-if true r at h = cc
kept-if false r at h = refl

-- ---- variables

-- the name is that of a variable of the instance
pub record IsVariable (i : Instance) (id : ℕ) : Type 0 where
  pub variable : Variable
  pub is : variable_of i.variables id ≡ Some variable

abbrev pub Covers : Instance → List ℕ → Type 0
Covers i visible = (id : ℕ) → among visible id ≡ true → IsVariable i id

last-or-before : (P : ℕ → Type 0) (id q : ℕ) (visible : List ℕ) → among (visible ++ id ∷ []) q ≡ true → (among visible q ≡ true → P q) → P id → P q
last-or-before P id q [] h before last = by_equal (nat_eq q id) refl h
  where
    by_equal : (b : Bool) → nat_eq q id ≡ b → (b || false) ≡ true → P q
    by_equal true e h = subst P (sym (eqb-true q id e)) last
    by_equal false e h = absurd (cc)
last-or-before P id q (v ∷ vs) h before last = by_equal (nat_eq q v) refl h (λ k g. last-or-before P id q vs k g last)
  where
    by_equal : (b : Bool) → nat_eq q v ≡ b → (b || among (vs ++ id ∷ []) q) ≡ true → (among (vs ++ id ∷ []) q ≡ true → (among vs q ≡ true → P q) → P q) → P q
    by_equal true e h more = before (ap (λ c. c || among vs q) e)
    by_equal false e h more = more h (λ k. before (ap (λ c. c || among vs q) e ∙ k))

-- what holds of the numbers of a list and of one more holds of those of the list with that one
pub covers-one : (P : ℕ → Type 0) (visible : List ℕ) (id : ℕ) (b : Bool) → ((q : ℕ) → among visible q ≡ true → P q) → P id → (q : ℕ) → among (if b then visible else visible ++ id ∷ []) q ≡ true → P q
covers-one P visible id true c v q h = c q h
covers-one P visible id false c v q h = last-or-before P id q visible h (c q) v
