-- The first claim on an occurrence gives its role, and no later one changes it.
use Rattle.std.proofs.Common.{◌≡◌, ◌⊎◌, inl, inr, ℕ, zero, suc, Bool, true, false, if◌then◌else◌, List, [], ◌∷◌, length, set, slice_get, Option, Some, refl, sym, ap, subst, ◌∙◌}
use Rattle.zl_value.specs.Lists.{Has}
use Rattle.zl_meaning.proofs.Members.{has-none, has-case, has-later}
use Rattle.zl_normal.specs.declared.role.Role.{Role}
use Rattle.zl_normal.specs.Claims.{Claim, claim, is_free, claimed, claim_all}

-- an entry of a list with one entry set is that one, or was there
pub set-case : {X : Type 0} (xs : List X) (i j : ℕ) (y x : X) → slice_get (set xs i y) j ≡ Some x → (slice_get xs j ≡ Some x) ⊎ ((i ≡ j) × (y ≡ x))
set-case [] i j y x h = inl h
set-case (z ∷ xs) zero zero y x h = inr (refl, cc)
set-case (z ∷ xs) zero (suc j) y x h = inl h
set-case (z ∷ xs) (suc i) zero y x h = inl h
set-case {X = X} (z ∷ xs) (suc i) (suc j) y x h = later (set-case xs i j y x h)
  where
    later : (slice_get xs j ≡ Some x) ⊎ ((i ≡ j) × (y ≡ x)) → (slice_get xs j ≡ Some x) ⊎ ((suc i ≡ suc j) × (y ≡ x))
    later (inl g) = inl g
    later (inr g) = inr (ap suc g.0, g.1)

pub set-other : {X : Type 0} (xs : List X) (i j : ℕ) (y x : X) → slice_get xs j ≡ Some x → (i ≡ j → ⊥) → slice_get (set xs i y) j ≡ Some x
set-other [] i j y x h n = absurd (cc)
set-other (z ∷ xs) zero zero y x h n = absurd (n refl)
set-other (z ∷ xs) zero (suc j) y x h n = h
set-other (z ∷ xs) (suc i) zero y x h n = h
set-other (z ∷ xs) (suc i) (suc j) y x h n = set-other xs i j y x h (λ e. n (ap suc e))

pub set-there : {X : Type 0} (xs : List X) (i j : ℕ) (y z : X) → slice_get xs j ≡ Some z → (x : X) × (slice_get (set xs i y) j ≡ Some x)
set-there [] i j y z h = absurd (cc)
set-there (a ∷ xs) zero zero y z h = (y, refl)
set-there (a ∷ xs) zero (suc j) y z h = (z, h)
set-there (a ∷ xs) (suc i) zero y z h = (z, h)
set-there (a ∷ xs) (suc i) (suc j) y z h = set-there xs i j y z h

pub set-own : {X : Type 0} (xs : List X) (i : ℕ) (y z : X) → slice_get xs i ≡ Some z → slice_get (set xs i y) i ≡ Some y
set-own [] i y z h = absurd (cc)
set-own (a ∷ xs) zero y z h = refl
set-own (a ∷ xs) (suc i) y z h = set-own xs i y z h

pub set-size : {X : Type 0} (xs : List X) (i : ℕ) (y : X) → length (set xs i y) ≡ length xs
set-size [] i y = refl
set-size (a ∷ xs) zero y = refl
set-size (a ∷ xs) (suc i) y = ap suc (set-size xs i y)

claimed-case : (c : Claim) (r : List Role) (j : ℕ) (x : Role) → slice_get (claimed c r) j ≡ Some x → (slice_get r j ≡ Some x) ⊎ ((c.occ ≡ j) × (c.role ≡ x))
claimed-case c r j x h = by_free (is_free (slice_get r c.occ)) h
  where
    by_free : (b : Bool) → slice_get (if b then set r c.occ c.role else r) j ≡ Some x → (slice_get r j ≡ Some x) ⊎ ((c.occ ≡ j) × (c.role ≡ x))
    by_free true g = set-case r c.occ j c.role x g
    by_free false g = inl g

claimed-stays : (c : Claim) (r : List Role) (j : ℕ) (x : Role) → slice_get r j ≡ Some x → is_free (Some x) ≡ false → slice_get (claimed c r) j ≡ Some x
claimed-stays c r j x h taken = by_free (is_free (slice_get r c.occ)) refl
  where
    clash : (o : Option Role) → o ≡ Some x → is_free o ≡ true → ⊥
    clash o e g = let t : is_free (Some x) ≡ true = sym (ap is_free e) ∙ g in let bad : true ≡ false = sym t ∙ taken in cc

    by_free : (b : Bool) → is_free (slice_get r c.occ) ≡ b → slice_get (if b then set r c.occ c.role else r) j ≡ Some x
    by_free true e = set-other r c.occ j c.role x h (λ same. clash (slice_get r c.occ) (ap (λ i. slice_get r i) same ∙ h) e)
    by_free false e = h

claimed-there : (c : Claim) (r : List Role) (j : ℕ) (z : Role) → slice_get r j ≡ Some z → (x : Role) × (slice_get (claimed c r) j ≡ Some x)
claimed-there c r j z h = by_free (is_free (slice_get r c.occ))
  where
    by_free : (b : Bool) → (x : Role) × (slice_get (if b then set r c.occ c.role else r) j ≡ Some x)
    by_free true = set-there r c.occ j c.role z h
    by_free false = (z, h)

claimed-own : (c : Claim) (r : List Role) (z : Role) → is_free (Some c.role) ≡ false → slice_get r c.occ ≡ Some z → (x : Role) × (slice_get (claimed c r) c.occ ≡ Some x) × (is_free (Some x) ≡ false)
claimed-own c r z taken h = by_free (is_free (slice_get r c.occ)) refl
  where
    by_free : (b : Bool) → is_free (slice_get r c.occ) ≡ b → (x : Role) × (slice_get (if b then set r c.occ c.role else r) c.occ ≡ Some x) × (is_free (Some x) ≡ false)
    by_free true e = (c.role, set-own r c.occ c.role z h, taken)
    by_free false e = (z, h, ap is_free (sym h) ∙ e)

claimed-size : (c : Claim) (r : List Role) → length (claimed c r) ≡ length r
claimed-size c r = by_free (is_free (slice_get r c.occ))
  where
    by_free : (b : Bool) → length (if b then set r c.occ c.role else r) ≡ length r
    by_free true = set-size r c.occ c.role
    by_free false = refl

pub all-size : (cs : List Claim) (r : List Role) → length (claim_all cs r) ≡ length r
all-size [] r = refl
all-size (c ∷ cs) r = all-size cs (claimed c r) ∙ claimed-size c r

-- what has a role keeps it
pub all-stays : (cs : List Claim) (r : List Role) (j : ℕ) (x : Role) → slice_get r j ≡ Some x → is_free (Some x) ≡ false → slice_get (claim_all cs r) j ≡ Some x
all-stays [] r j x h taken = h
all-stays (c ∷ cs) r j x h taken = all-stays cs (claimed c r) j x (claimed-stays c r j x h taken) taken

pub all-there : (cs : List Claim) (r : List Role) (j : ℕ) (z : Role) → slice_get r j ≡ Some z → (x : Role) × (slice_get (claim_all cs r) j ≡ Some x)
all-there [] r j z h = (z, h)
all-there (c ∷ cs) r j z h = let next = claimed-there c r j z h in all-there cs (claimed c r) j next.0 next.1

-- a role was claimed, or was there
pub all-from : (cs : List Claim) (r : List Role) (j : ℕ) (x : Role) → slice_get (claim_all cs r) j ≡ Some x → Has cs (claim j x) ⊎ (slice_get r j ≡ Some x)
all-from [] r j x h = inr h
all-from (c ∷ cs) r j x h = by_rest (all-from cs (claimed c r) j x h)
  where
    same : c.occ ≡ j → c.role ≡ x → c ≡ claim j x
    same e g = ap (λ k. claim k c.role) e ∙ ap (λ r. claim j r) g

    by_first : (slice_get r j ≡ Some x) ⊎ ((c.occ ≡ j) × (c.role ≡ x)) → Has (c ∷ cs) (claim j x) ⊎ (slice_get r j ≡ Some x)
    by_first (inl g) = inr g
    by_first (inr g) = inl (record { index = 0; is = ap (λ d. Some d) (same g.0 g.1) })

    by_rest : Has cs (claim j x) ⊎ (slice_get (claimed c r) j ≡ Some x) → Has (c ∷ cs) (claim j x) ⊎ (slice_get r j ≡ Some x)
    by_rest (inl g) = inl (has-later c cs (claim j x) g)
    by_rest (inr g) = by_first (claimed-case c r j x g)

-- what is claimed gets a role
pub all-taken : (cs : List Claim) (r : List Role) (c : Claim) (z x : Role) → Has cs c → is_free (Some c.role) ≡ false → slice_get r c.occ ≡ Some z → slice_get (claim_all cs r) c.occ ≡ Some x → is_free (Some x) ≡ false
all-taken [] r c z x has taken h g = absurd (has-none c has)
all-taken (d ∷ cs) r c z x has taken h g = by_case (λ later y there. all-taken cs (claimed d r) c y x later taken there g) (has-case d cs c has)
  where
    the_same : (o : Option Role) (y : Role) → o ≡ Some x → o ≡ Some y → is_free (Some y) ≡ false → is_free (Some x) ≡ false
    the_same o y e e' t = let s : Some y ≡ Some x = sym e' ∙ e in ap is_free (sym s) ∙ t

    by_case : (Has cs c → (y : Role) → slice_get (claimed d r) c.occ ≡ Some y → is_free (Some x) ≡ false) → (d ≡ c) ⊎ Has cs c → is_free (Some x) ≡ false
    by_case rest (inl e) =
        let own = claimed-own c r z taken h in
        the_same (slice_get (claim_all cs (claimed c r)) c.occ) own.0 (subst (λ (b : Claim). slice_get (claim_all cs (claimed b r)) c.occ ≡ Some x) e g) (all-stays cs (claimed c r) c.occ own.0 own.1 own.2) own.2
    by_case rest (inr later) = let next = claimed-there d r c.occ z h in rest later next.0 next.1
