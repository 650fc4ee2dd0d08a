-- The variable of a copy, by the place of its name among others.
use Rattle.std.proofs.Common.{◌≡◌, ℕ, suc, Bool, true, false, cond, nat_eq, List, [], ◌∷◌, map, Option, Some, None, slice_get, refl, sym, ap, ◌∙◌}
use Rattle.std.specs.List.{position}
use Rattle.std.specs.Option.{option_map}
use Rattle.std.proofs.lemmas.Bool.{eqb-true}
use Rattle.zl_value.specs.declared.value.Ty.{Ty}
use Rattle.zl_ast.specs.declared.scope.VarInfo.{VarInfo}
use Rattle.zl_flat.specs.declared.variable.Variable.{Variable}
use Rattle.zl_flat.specs.Variables.{variables, variable_of}
use Rattle.zl_expand.proofs.KnownLemmas.{first_place, place, position-place, both-ways, names_of}

-- ---- the variable of a copy

unfoldable pub made : ℕ → Option Ty → Option ℕ → Option Variable
made id (Some t) (Some p) = Some (record { name = id; ty = t; place = p })
made id _ _ = None

unfoldable pub picked : ℕ → List Ty → List ℕ → Option ℕ → Option Variable
picked id ts ps None = None
picked id ts ps (Some k) = made id (slice_get ts k) (slice_get ps k)

made-none : (id : ℕ) (o : Option Ty) → made id o None ≡ None
unfolding made
made-none id None = refl
made-none id (Some t) = refl

no-types : (id : ℕ) (ps : List ℕ) (q : Option ℕ) → None ≡ picked id [] ps q
unfolding picked made
no-types id ps None = refl
no-types id ps (Some k) = refl

no-places : (id : ℕ) (ts : List Ty) (q : Option ℕ) → None ≡ picked id ts [] q
unfolding picked
no-places id ts None = refl
no-places id ts (Some k) = sym (made-none id (slice_get ts k))

picked-step : (id n : ℕ) (b : Bool) → nat_eq n id ≡ b → (t : Ty) (ts : List Ty) (p : ℕ) (ps : List ℕ) (r : Option Variable) (q : Option ℕ) → r ≡ picked id ts ps q → cond b (Some (record { name = n; ty = t; place = p })) r ≡ picked id (t ∷ ts) (p ∷ ps) (cond b (Some 0) (option_map suc q))
unfolding picked made
picked-step id n true h t ts p ps r q e = ap (λ m. Some (record { name = m; ty = t; place = p })) (eqb-true n id h)
picked-step id n false h t ts p ps r None e = e
picked-step id n false h t ts p ps r (Some k) e = e

none-picked : (ts : List Ty) (ps : List ℕ) (id : ℕ) → None ≡ picked id ts ps None
unfolding picked
none-picked ts ps id = refl

pub variable-place : (vs : List VarInfo) (ts : List Ty) (ps : List ℕ) (id : ℕ) → variable_of (variables vs ts ps) id ≡ picked id ts ps (place id (map (λ v. v.name) vs))
unfolding first_place
variable-place [] ts ps id = none-picked ts ps id
variable-place (v ∷ vs) [] ps id = no-types id ps _
variable-place (v ∷ vs) (t ∷ ts) [] id = no-places id (t ∷ ts) _
variable-place (v ∷ vs) (t ∷ ts) (p ∷ ps) id =
    picked-step id v.name (nat_eq v.name id) refl t ts p ps (variable_of (variables vs ts ps) id) (place id (map (λ v. v.name) vs)) (variable-place vs ts ps id)
    ∙ ap (λ b. picked id (t ∷ ts) (p ∷ ps) (cond b (Some 0) (option_map suc (place id (map (λ v. v.name) vs))))) (both-ways v.name id)

-- ---- the variable of a copy, by its place

module _ (vs : List VarInfo) (ts : List Ty) (ps : List ℕ) (id : ℕ) where
  at-its-place : (o : Option ℕ) → o ≡ position (nat_eq id) (names_of vs) → variable_of (variables vs ts ps) id ≡ picked id ts ps o
  at-its-place o e = variable-place vs ts ps id ∙ ap (λ q. picked id ts ps q) (sym (e ∙ position-place id (names_of vs)))

  pub variable-found : (k : ℕ) (t : Ty) (p : ℕ) → Some k ≡ position (nat_eq id) (names_of vs) → slice_get ts k ≡ Some t → slice_get ps k ≡ Some p → Some (record { name = id; ty = t; place = p }) ≡ variable_of (variables vs ts ps) id
  unfolding picked made
  variable-found k t p e g h = sym (at-its-place (Some k) e ∙ ap (λ o. made id o (slice_get ps k)) g ∙ ap (λ o. made id (Some t) o) h)

  pub variable-none : None ≡ position (nat_eq id) (names_of vs) → None ≡ variable_of (variables vs ts ps) id
  unfolding picked
  variable-none e = sym (at-its-place None e)

  pub variable-untyped : (k : ℕ) → Some k ≡ position (nat_eq id) (names_of vs) → slice_get ts k ≡ None → None ≡ variable_of (variables vs ts ps) id
  unfolding picked made
  variable-untyped k e g = sym (at-its-place (Some k) e ∙ ap (λ o. made id o (slice_get ps k)) g)

  pub variable-unplaced : (k : ℕ) → Some k ≡ position (nat_eq id) (names_of vs) → slice_get ps k ≡ None → None ≡ variable_of (variables vs ts ps) id
  unfolding picked
  variable-unplaced k e g = sym (at-its-place (Some k) e ∙ ap (λ o. made id (slice_get ts k) o) g ∙ made-none id (slice_get ts k))
