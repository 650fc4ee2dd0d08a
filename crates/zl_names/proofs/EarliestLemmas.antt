-- Properties of the first violation.
use Rattle.std.proofs.Common.{◌≡◌, Bool, true, false, ◌||◌, ℕ, ◌+◌, ◌<◌, ◌≤◌, List, [], ◌∷◌, ◌++◌, length, drop, get_or, Option, Some, refl, sym, ◌∙◌, ap}
use Rattle.std.proofs.lemmas.List.{at_drop_more, at_drop_all}
use Rattle.std.proofs.lemmas.Grind.{common_steps}
use Rattle.zl_ast.specs.Names.{Violation}
use Rattle.zl_names.specs.Earliest.{sooner, earliest}

pub earliest-append : (found : Option Violation) (vs ws : List Violation) → earliest found (vs ++ ws) ≡ earliest (earliest found vs) ws
unfolding earliest
earliest-append found [] ws = refl
earliest-append found (v ∷ vs) ws = earliest-append (Some (sooner found v)) vs ws

pub earliest-none : (found : Option Violation) → earliest found [] ≡ found
unfolding earliest
earliest-none found = refl

-- a walk over a list, one step on: what stands here is noted, and then what is left
pub noted_more : {X : Type 0} (V : List X → List Violation) (here : X → List Violation) (W : X → List X → List Violation)
    (xs : List X) (i : ℕ) (d : X) (f g : Option Violation) → i < length xs
    → ((x : X) (ys : List X) → V (x ∷ ys) ≡ here x ++ W x ys) → g ≡ earliest f (here (get_or xs i d))
    → earliest g (W (get_or xs i d) (drop (i + 1) xs)) ≡ earliest f (V (drop i xs))
noted_more V here W xs i d f g h step e =
    ap (λ r. earliest r (W (get_or xs i d) (drop (i + 1) xs))) e
    ∙ sym (earliest-append f (here (get_or xs i d)) (W (get_or xs i d) (drop (i + 1) xs)))
    ∙ ap (earliest f) (sym (step (get_or xs i d) (drop (i + 1) xs)))
    ∙ sym (at_drop_more (λ ys. earliest f (V ys)) xs i d h)

-- a walk over a list at its end
pub noted_all : {X : Type 0} (V : List X → List Violation) (xs : List X) (i : ℕ) (f g : Option Violation) → length xs ≤ i
    → V [] ≡ [] → earliest f (V (drop i xs)) ≡ g → f ≡ g
noted_all V xs i f g h done e =
    sym (earliest-none f) ∙ ap (earliest f) (sym done) ∙ sym (at_drop_all (λ ys. earliest f (V ys)) xs i h) ∙ e

pub ruleset noting = (common_steps, earliest-append, earliest-none)

pub or_nothing : (b : Bool) → (b || false) ≡ b
or_nothing true = refl
or_nothing false = refl

pub ruleset deciding = (noting, or_nothing)
