-- The definers of each place, and the places with them.
use Rattle.std.proofs.Common.{◌≡◌, ℕ, zero, suc, ◌+◌, ◌-◌, ◌<◌, ◌≤◌, Bool, true, false, cond, nat_eq, List, [], ◌∷◌, ◌++◌, map, length, set, get_or, refl, sym, ap, ◌∙◌, arith}
use Rattle.std.proofs.lemmas.Grind.{common_steps}
use Rattle.std.proofs.lemmas.Bool.{eqb-true, eq-eqb}
use Rattle.std.proofs.lemmas.List.{append_assoc, append-nil, map-append}
use Rattle.zl_value.specs.Lists.{listed}
use Rattle.zl_meaning.specs.declared.place.Definer.{Definer}
use Rattle.zl_meaning.specs.declared.place.PlaceInfo.{PlaceInfo}
use Rattle.zl_flat.specs.declared.given.Given.{Given}
use Rattle.zl_flat.specs.Expansion.{definers_of, with_definers, defined_places}
use Rattle.zl_expand.specs.Tables.{given_more, by_place, with_lists}

-- ---- numbered lists

succ-is : (k : ℕ) → suc k ≡ k + 1
succ-is k = omega arith

-- the first of those that are left
pub listed-left : {X : Type 0} (n k : ℕ) (f : ℕ → X) → k < n → listed (n - k) k f ≡ f k ∷ listed (n - (k + 1)) (k + 1) f
listed-left n k f h =
    let e : n - k ≡ suc (n - (k + 1)) = omega arith in
    ap (λ m. listed m k f) e ∙ ap (λ m. f k ∷ listed (n - (k + 1)) m f) (succ-is k)

pub listed-same : {X : Type 0} (n k : ℕ) (f g : ℕ → X) → ((p : ℕ) → f p ≡ g p) → listed n k f ≡ listed n k g
listed-same n k f g e = ap (λ h. listed n k h) (λ j p. e p j)

-- ---- one definer more

abbrev with_one : (ℕ → List Definer) → ℕ → Definer → ℕ → List Definer
with_one f p d q = cond (nat_eq p q) (f q ++ d ∷ []) (f q)

differs : (p k : ℕ) (b : Bool) → nat_eq p k ≡ b → (p ≡ k → ⊥) → b ≡ false
differs p k true e h = absurd (h (eqb-true p k e))
differs p k false e h = refl

past-first : (k p : ℕ) → nat_eq (k + suc p) k ≡ false
past-first k p = differs (k + suc p) k _ refl (λ e. omega (arith, e))

zero-plus : (k : ℕ) → 0 + k ≡ k
zero-plus k = omega arith

plus-zero : (k : ℕ) → k + 0 ≡ k
plus-zero k = omega arith

plus-suc : (k p : ℕ) → suc k + p ≡ k + suc p
plus-suc k p = omega arith

not-later : (k n : ℕ) (f : ℕ → List Definer) (p : ℕ) (d : Definer) → p < k → listed n k (with_one f p d) ≡ listed n k f
not-later k zero f p d h = refl
not-later k (suc n) f p d h =
    ap (λ b. cond b (f k ++ d ∷ []) (f k) ∷ listed n (suc k) (with_one f p d)) (differs p k _ refl (λ e. omega (arith, h, e)))
    ∙ ap (λ xs. f k ∷ xs) (not-later (suc k) n f p d (omega arith))

given-listed : (n k p : ℕ) (f : ℕ → List Definer) (d : Definer) → given_more (listed n k f) p d ≡ listed n k (with_one f (k + p) d)
given-listed zero k p f d = refl
given-listed (suc n) k zero f d =
    ap (λ b. cond b (f k ++ d ∷ []) (f k) ∷ listed n (suc k) f) (sym (eq-eqb (k + 0) k (plus-zero k)))
    ∙ ap (λ xs. with_one f (k + 0) d k ∷ xs) (sym (not-later (suc k) n f (k + 0) d (omega arith)))
given-listed (suc n) k (suc p) f d =
    ap (λ b. cond b (f k ++ d ∷ []) (f k) ∷ given_more (listed n (suc k) f) p d) (sym (past-first k p))
    ∙ ap (λ xs. with_one f (k + suc p) d k ∷ xs) (given-listed n (suc k) p f d ∙ ap (λ m. listed n (suc k) (with_one f m d)) (plus-suc k p))

-- the list of a place was read, and is written back with one definer more
pub given-set : {X : Type 0} (f : X → List Definer) (ls : List X) (p : ℕ) (old new : X) (d : Definer) → p < length ls → old ≡ get_or ls p old → f new ≡ f old ++ d ∷ [] → map f (set ls p new) ≡ given_more (map f ls) p d
given-set f [] p old new d h e g = absurd (omega arith)
given-set f (x ∷ xs) zero old new d h e g = ap (λ ds. ds ∷ map f xs) (g ∙ ap (λ o. f o ++ d ∷ []) e)
given-set f (x ∷ xs) (suc p) old new d h e g = ap (λ dss. f x ∷ dss) (given-set f xs p old new d (omega arith) e g)

-- a place that isn't there takes nothing
pub given-past : (dss : List (List Definer)) (p : ℕ) (d : Definer) → length dss ≤ p → given_more dss p d ≡ dss
given-past [] p d h = refl
given-past (ds ∷ dss) zero d h = absurd (omega arith)
given-past (ds ∷ dss) (suc p) d h = ap (λ xs. ds ∷ xs) (given-past dss p d (omega arith))

-- a place more without definers
pub none-more : {X : Type 0} (f : X → List Definer) (ls ms : List X) (x : X) (n k : ℕ) → k < n → ms ≡ ls ++ x ∷ [] → f x ≡ [] → map f ms ++ listed (n - (k + 1)) (k + 1) (λ p. []) ≡ map f ls ++ listed (n - k) k (λ p. [])
none-more f ls ms x n k h g e =
    ap (λ l. map f l ++ listed (n - (k + 1)) (k + 1) (λ p. [])) g
    ∙ ap (λ dss. dss ++ listed (n - (k + 1)) (k + 1) (λ p. [])) (map-append f ls (x ∷ []))
    ∙ append_assoc (map f ls) (f x ∷ []) (listed (n - (k + 1)) (k + 1) (λ p. []))
    ∙ ap (λ ds. map f ls ++ ds ∷ listed (n - (k + 1)) (k + 1) (λ p. [])) e
    ∙ ap (λ dss. map f ls ++ dss) (sym (listed-left n k (λ p. []) h))

-- ---- all definers

unfoldable pub give_all : List (List Definer) → List Given → List (List Definer)
give_all dss [] = dss
give_all dss (g ∷ gs) = give_all (given_more dss g.place g.definer) gs

more-of : (b : Bool) (ds gs : List Definer) (d : Definer) → cond b (ds ++ d ∷ []) ds ++ gs ≡ ds ++ cond b (d ∷ gs) gs
more-of true ds gs d = append_assoc ds (d ∷ []) gs
more-of false ds gs d = refl

all-given : (n : ℕ) (f : ℕ → List Definer) (gs : List Given) → give_all (listed n 0 f) gs ≡ listed n 0 (λ p. f p ++ definers_of p gs)
unfolding give_all
all-given n f [] = listed-same n 0 f (λ p. f p ++ []) (λ p. sym (append-nil (f p)))
all-given n f (g ∷ gs) =
    ap (λ dss. give_all dss gs) (given-listed n 0 g.place f g.definer ∙ ap (λ p. listed n 0 (with_one f p g.definer)) (zero-plus g.place))
    ∙ all-given n (with_one f g.place g.definer) gs
    ∙ listed-same n 0 _ _ (λ p. more-of (nat_eq g.place p) (f p) (definers_of p gs) g.definer)

-- all that are given to places without definers
pub from-none : (n : ℕ) (gs : List Given) → give_all (listed n 0 (λ p. [])) gs ≡ by_place n gs
from-none n gs = all-given n (λ p. []) gs

pub give-none : (dss : List (List Definer)) → give_all dss [] ≡ dss
unfolding give_all
give-none dss = refl

pub give-next : (dss : List (List Definer)) (g : Given) (gs : List Given) → give_all dss (g ∷ gs) ≡ give_all (given_more dss g.place g.definer) gs
unfolding give_all
give-next dss g gs = refl

-- ---- places with their definers

lists-defined : (xs : List PlaceInfo) (gs : List Given) (p : ℕ) → with_lists xs (listed (length xs) p (λ q. definers_of q gs)) ≡ defined_places gs p xs
lists-defined [] gs p = refl
lists-defined (x ∷ xs) gs p = ap (λ ys. with_definers x (definers_of p gs) ∷ ys) (lists-defined xs gs (suc p) ∙ ap (λ m. defined_places gs m xs) (succ-is p))

pub places-defined : (xs : List PlaceInfo) (gs : List Given) → with_lists xs (by_place (length xs) gs) ≡ defined_places gs 0 xs
places-defined xs gs = lists-defined xs gs 0

pub ruleset tabling = (common_steps, from-none, give-none, give-next, places-defined, append_assoc, append-nil)
