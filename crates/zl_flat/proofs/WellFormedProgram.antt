-- From the rules of names of a program to what is asked of its `main`.
use Rattle.std.proofs.Common.{◌≡◌, ℕ, Bool, true, false, if◌then◌else◌, List, [], ◌∷◌, ◌++◌, map, Option, Some, None, refl, ap, subst, ◌∙◌}
use Rattle.std.specs.List.{AllByRecursion}
use Rattle.zl_ast.specs.Names.{is_main}
use Rattle.zl_ast.specs.NamesUsed.{Known}
use Rattle.zl_ast.specs.NamesRules.{declared_with, decl_broken, decls_broken}
use Rattle.zl_flat.specs.Expansion.{Scoped, MainOf, behind, main_of}
use Rattle.zl_flat.proofs.RulesKept.{none-left, none-right}
use Rattle.zl_flat.proofs.WellFormedDecls.{IsCounted, known_after}

-- what holds of declarations holds of `main` and of those before it
pub record IsSplit (names : List (List ℕ)) (k : Known) (m : MainOf) : Type 0 where
  pub before : decls_broken names k (map (λ (d : Scoped). d.decl) m.before) ≡ []
  pub main : decl_broken names (known_after k m.before) m.main.decl ≡ []
  pub counted : AllByRecursion IsCounted m.before
  pub counted_main : IsCounted m.main

the-same : (m n : MainOf) → Some m ≡ Some n → m ≡ n
the-same m n h = cc

split-behind : (names : List (List ℕ)) (k : Known) (d : Scoped) (o : Option MainOf) (m : MainOf) → behind d o ≡ Some m → decl_broken names k d.decl ≡ [] → IsCounted d →
    ((n : MainOf) → o ≡ Some n → IsSplit names (declared_with k d.decl) n) → IsSplit names k m
split-behind names k d None m h kept counted more = absurd (no_main m h)
  where
    no_main : (m : MainOf) → None ≡ Some m → ⊥
    no_main m h = cc
split-behind names k d (Some n) m h kept counted more =
    let a = more n refl in
    subst (IsSplit names k) (the-same (record { before = d ∷ n.before; main = n.main }) m h)
    (record { before = both (decl_broken names k d.decl) (decls_broken names (declared_with k d.decl) (map (λ (e : Scoped). e.decl) n.before)) kept a.before; main = a.main; counted = (counted, a.counted); counted_main = a.counted_main })
  where
    both : {X : Type 0} (xs ys : List X) → xs ≡ [] → ys ≡ [] → xs ++ ys ≡ []
    both xs ys e g = ap (λ zs. zs ++ ys) e ∙ g

split-here : (names : List (List ℕ)) (k : Known) (d : Scoped) (m : MainOf) → Some (record { before = []; main = d }) ≡ Some m → decl_broken names k d.decl ≡ [] → IsCounted d → IsSplit names k m
split-here names k d m h kept counted = subst (IsSplit names k) (the-same (record { before = []; main = d }) m h) (record { before = refl; main = kept; counted = tt; counted_main = counted })

pub main-split : (names : List (List ℕ)) (k : Known) (ds : List Scoped) (m : MainOf) → main_of names ds ≡ Some m → decls_broken names k (map (λ (d : Scoped). d.decl) ds) ≡ [] → AllByRecursion IsCounted ds → IsSplit names k m
main-split names k [] m h kept counted = absurd (no_main m h)
  where
    no_main : (m : MainOf) → None ≡ Some m → ⊥
    no_main m h = cc
main-split names k (d ∷ ds) m h kept counted =
    by_name (is_main names d.decl.name.id) h
    (none-left (decl_broken names k d.decl) (decls_broken names (declared_with k d.decl) (map (λ (e : Scoped). e.decl) ds)) kept)
    (λ n e. main-split names (declared_with k d.decl) ds n e (none-right (decl_broken names k d.decl) (decls_broken names (declared_with k d.decl) (map (λ (e : Scoped). e.decl) ds)) kept) counted.1)
  where
    by_name : (b : Bool) → (if b then Some (record { before = []; main = d }) else behind d (main_of names ds)) ≡ Some m → decl_broken names k d.decl ≡ [] → ((n : MainOf) → main_of names ds ≡ Some n → IsSplit names (declared_with k d.decl) n) → IsSplit names k m
    by_name true e one more = split-here names k d m e one counted.0
    by_name false e one more = split-behind names k d (main_of names ds) m e one counted.0 more
