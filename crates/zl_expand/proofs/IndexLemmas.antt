-- The first place of each name, as names are gone over one by one.
use Rattle.std.proofs.Common.{◌≡◌, ℕ, zero, suc, ◌+◌, ◌<◌, Bool, true, false, cond, nat_eq, List, [], ◌∷◌, ◌++◌, length, take, Option, Some, None, get_or, refl, sym, ap, ◌∙◌, arith}
use Rattle.std.specs.List.{position}
use Rattle.std.specs.Option.{option_map}
use Rattle.std.proofs.lemmas.Grind.{common_steps}
use Rattle.std.proofs.lemmas.List.{take_more, take_all, length-take}
use Rattle.zl_expand.specs.FirstOf.{or_here}
use Rattle.zl_expand.proofs.KnownLemmas.{place, first_place, position-place}

more-step : (b c : Bool) (q : Option ℕ) (n : ℕ) → cond b (Some 0) (option_map suc (or_here q c n)) ≡ or_here (cond b (Some 0) (option_map suc q)) c (suc n)
more-step true c q n = refl
more-step false c (Some k) n = refl
more-step false true None n = refl
more-step false false None n = refl

-- one name more
place-more : (id : ℕ) (xs : List ℕ) (x : ℕ) → place id (xs ++ x ∷ []) ≡ or_here (place id xs) (nat_eq id x) (length xs)
unfolding first_place
place-more id [] x = here (nat_eq id x)
  where
    here : (b : Bool) → cond b (Some 0) (option_map suc None) ≡ or_here None b 0
    here true = refl
    here false = refl
place-more id (y ∷ ys) x =
    ap (λ q. cond (nat_eq id y) (Some 0) (option_map suc q)) (place-more id ys x)
    ∙ more-step (nat_eq id y) (nat_eq id x) (place id ys) (length ys)

taken-length : (xs : List ℕ) (i : ℕ) → i < length xs → length (take i xs) ≡ i
taken-length xs i h = omega (arith, h, length-take i xs)

-- the first places among the first names and one more
pub first-more : (id : ℕ) (xs : List ℕ) (i d : ℕ) → i < length xs → position (nat_eq id) (take (i + 1) xs) ≡ or_here (position (nat_eq id) (take i xs)) (nat_eq id (get_or xs i d)) i
first-more id xs i d h =
    ap (λ ys. position (nat_eq id) ys) (take_more xs i d h)
    ∙ position-place id (take i xs ++ get_or xs i d ∷ [])
    ∙ place-more id (take i xs) (get_or xs i d)
    ∙ ap (λ q. or_here q (nat_eq id (get_or xs i d)) (length (take i xs))) (sym (position-place id (take i xs)))
    ∙ ap (λ n. or_here (position (nat_eq id) (take i xs)) (nat_eq id (get_or xs i d)) n) (taken-length xs i h)

pub ruleset indexing = (common_steps, take_all)
