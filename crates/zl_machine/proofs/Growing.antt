-- Instructions to which one is added, or a literal: what is left to do from the old places stays, and from the new one the
-- added instruction comes first.
use Rattle.std.specs.Prelude.{◌≡◌, ℕ, zero, suc, ◌+◌, ◌<◌, ◌≤◌, Bool, true, false, nat_eq, if◌then◌else◌, List, [], ◌∷◌, ◌++◌, length, slice_get, Option, Some, None, ◌⊎◌}
use Rattle.std.proofs.Common.{refl, sym, ap, ◌∙◌, subst, arith, inl, inr, ⊎_elim}
use Rattle.std.proofs.Math.Nat.{le_refl}
use Rattle.std.proofs.lemmas.Bool.{eqb-true, eqb-false}
use Rattle.std.proofs.lemmas.List.{length-append, get_or_append_left}
use Rattle.zl_value.specs.declared.value.Value.{Value}
use Rattle.zl_code.specs.Method.{Cells, cell, Given, Doing, put}
use Rattle.zl_machine.specs.declared.instr.Instr.{Instr}
use Rattle.zl_machine.specs.declared.instr.Instr.TheVariants.{Lit, Get, Mem, In, Event, One, OneFault, Two, TwoFault, SubFloat, NegFloat, EqInt, Or, Not, Set, If, Jump, Choose}
use Rattle.zl_machine.specs.Instructions.{Rest, by, goes_on, Means, GoesDown, IsDown}

-- an instruction reads what is left at the places behind it alone
pub reads_behind : (lits : Cells) (g : Given) (i : Instr) (k : ℕ) (r s : Rest) (d : Doing) → IsDown (length lits) k i → ((j : ℕ) → j ≤ k → (e : Doing) → r j e ≡ s j e) → goes_on lits g i r k d ≡ goes_on lits g i s k d
reads_behind lits g (Lit to n) k r s d down same = same k (le_refl k) _
reads_behind lits g (Get to from) k r s d down same = same k (le_refl k) _
reads_behind lits g (Mem to m) k r s d down same = same k (le_refl k) _
reads_behind lits g (In to i) k r s d down same = same k (le_refl k) _
reads_behind lits g (Event to site) k r s d down same = same k (le_refl k) _
reads_behind lits g (One to op a) k r s d down same = same k (le_refl k) _
reads_behind lits g (OneFault to op a fault) k r s d down same = same k (le_refl k) _
reads_behind lits g (Two to op a b) k r s d down same = same k (le_refl k) _
reads_behind lits g (TwoFault to op a b fault) k r s d down same = same k (le_refl k) _
reads_behind lits g (SubFloat to a b fault) k r s d down same = same k (le_refl k) _
reads_behind lits g (NegFloat to a) k r s d down same = same k (le_refl k) _
reads_behind lits g (EqInt to a b) k r s d down same = same k (le_refl k) _
reads_behind lits g (Or to a b) k r s d down same = same k (le_refl k) _
reads_behind lits g (Not to a) k r s d down same = same k (le_refl k) _
reads_behind lits g (Set m from) k r s d down same = same k (le_refl k) _
reads_behind lits g (Choose to c x y) k r s d down same = same k (le_refl k) _
reads_behind lits g (Jump to) k r s d down same = same to down d
reads_behind lits g (If c other end) k r s d down same =
    ap (λ u. by (cell d.regs c) u (r other d) (r end d)) (same k (le_refl k) d)
    ∙ ap (λ u. by (cell d.regs c) (s k d) u (r end d)) (same other down.0 d)
    ∙ ap (λ u. by (cell d.regs c) (s k d) (s other d) u) (same end down.1 d)

split : (xs : List Instr) (x i : Instr) (k : ℕ) → slice_get (xs ++ x ∷ []) k ≡ Some i → ((k < length xs) × (slice_get xs k ≡ Some i)) ⊎ ((k ≡ length xs) × (x ≡ i))
split [] x i zero e = inr (refl, cc)
split [] x i (suc k) e = absurd cc
split (y ∷ xs) x i zero e = inl (omega arith, e)
split (y ∷ xs) x i (suc k) e = ⊎_elim (λ p. inl (omega (arith, p.0), p.1)) (λ p. inr (ap suc p.0, p.1)) (split xs x i k e)

-- what is left to do once `i` is added
abbrev pub more : Cells → List Instr → Instr → (Given → Rest) → Given → Rest
more lits code i rest g k d = if nat_eq k (suc (length code)) then goes_on lits g i (rest g) (length code) d else rest g k d

pub more_old : (lits : Cells) (code : List Instr) (i : Instr) (rest : Given → Rest) (g : Given) (k : ℕ) (d : Doing) → k ≤ length code → more lits code i rest g k d ≡ rest g k d
more_old lits code i rest g k d low = go (nat_eq k (suc (length code))) refl
  where
    go : (b : Bool) → nat_eq k (suc (length code)) ≡ b → (if b then goes_on lits g i (rest g) (length code) d else rest g k d) ≡ rest g k d
    go true e = absurd (omega (arith, low, eqb-true k (suc (length code)) e))
    go false e = refl

pub more_new : (lits : Cells) (code : List Instr) (i : Instr) (rest : Given → Rest) (g : Given) (d : Doing) → more lits code i rest g (suc (length code)) d ≡ goes_on lits g i (rest g) (length code) d
more_new lits code i rest g d = go (nat_eq (suc (length code)) (suc (length code))) refl
  where
    go : (b : Bool) → nat_eq (suc (length code)) (suc (length code)) ≡ b → (if b then goes_on lits g i (rest g) (length code) d else rest g (suc (length code)) d) ≡ goes_on lits g i (rest g) (length code) d
    go true e = refl
    go false e = absurd (eqb-false (suc (length code)) (suc (length code)) e refl)

pub means_more : (lits : Cells) (code : List Instr) (i : Instr) (rest : Given → Rest) → Means code lits rest → GoesDown code lits → IsDown (length lits) (length code) i → Means (code ++ i ∷ []) lits (more lits code i rest)
means_more lits code i rest means down here = record {
  done = λ g d. more_old lits code i rest g 0 d (omega arith) ∙ means.done g d;
  each = λ k j at g d. ⊎_elim (λ p. old k j g d p.0 p.1) (λ p. new k j g d p.0 p.1) (split code i j k at);
}
  where
    old : (k : ℕ) (j : Instr) (g : Given) (d : Doing) → k < length code → slice_get code k ≡ Some j → more lits code i rest g (suc k) d ≡ goes_on lits g j (more lits code i rest g) k d
    old k j g d low at =
        more_old lits code i rest g (suc k) d (omega (arith, low)) ∙ means.each k j at g d
        ∙ reads_behind lits g j k (rest g) (more lits code i rest g) d (down.down k j at) (λ n le e. sym (more_old lits code i rest g n e (omega (arith, le, low))))

    new : (k : ℕ) (j : Instr) (g : Given) (d : Doing) → k ≡ length code → i ≡ j → more lits code i rest g (suc k) d ≡ goes_on lits g j (more lits code i rest g) k d
    new k j g d p q =
        ap (λ n. more lits code i rest g (suc n) d) p ∙ more_new lits code i rest g d
        ∙ reads_behind lits g i (length code) (rest g) (more lits code i rest g) d here (λ n le e. sym (more_old lits code i rest g n e le))
        ∙ ap (λ (u : Instr). goes_on lits g u (more lits code i rest g) (length code) d) q ∙ ap (λ n. goes_on lits g j (more lits code i rest g) n d) (sym p)

pub down_more : (lits : Cells) (code : List Instr) (i : Instr) → GoesDown code lits → IsDown (length lits) (length code) i → GoesDown (code ++ i ∷ []) lits
down_more lits code i down here = record {
  down = λ k j at. ⊎_elim (λ p. down.down k j p.1) (λ p. subst (λ n. IsDown (length lits) n j) (sym p.0) (subst (λ (u : Instr). IsDown (length lits) (length code) u) p.1 here)) (split code i j k at);
}

-- a literal is added
module _ (lits : Cells) (v : Option Value) where
  down_wider : (k : ℕ) (i : Instr) → IsDown (length lits) k i → IsDown (length (lits ++ v ∷ [])) k i
  down_wider k (Lit to n) down = let w : length (lits ++ v ∷ []) ≡ length lits + 1 = length-append lits (v ∷ []) in omega (arith, down, w)
  down_wider k (Get to from) down = down
  down_wider k (Mem to m) down = down
  down_wider k (In to i) down = down
  down_wider k (Event to site) down = down
  down_wider k (One to op a) down = down
  down_wider k (OneFault to op a fault) down = down
  down_wider k (Two to op a b) down = down
  down_wider k (TwoFault to op a b fault) down = down
  down_wider k (SubFloat to a b fault) down = down
  down_wider k (NegFloat to a) down = down
  down_wider k (EqInt to a b) down = down
  down_wider k (Or to a b) down = down
  down_wider k (Not to a) down = down
  down_wider k (Set m from) down = down
  down_wider k (Choose to c x y) down = down
  down_wider k (Jump to) down = down
  down_wider k (If c other end) down = down

  same_wider : (g : Given) (i : Instr) (k : ℕ) (r : Rest) (d : Doing) → IsDown (length lits) k i → goes_on lits g i r k d ≡ goes_on (lits ++ v ∷ []) g i r k d
  same_wider g (Lit to n) k r d down = ap (λ x. r k (put d to x)) (sym (get_or_append_left lits (v ∷ []) None n down))
  same_wider g (Get to from) k r d down = refl
  same_wider g (Mem to m) k r d down = refl
  same_wider g (In to i) k r d down = refl
  same_wider g (Event to site) k r d down = refl
  same_wider g (One to op a) k r d down = refl
  same_wider g (OneFault to op a fault) k r d down = refl
  same_wider g (Two to op a b) k r d down = refl
  same_wider g (TwoFault to op a b fault) k r d down = refl
  same_wider g (SubFloat to a b fault) k r d down = refl
  same_wider g (NegFloat to a) k r d down = refl
  same_wider g (EqInt to a b) k r d down = refl
  same_wider g (Or to a b) k r d down = refl
  same_wider g (Not to a) k r d down = refl
  same_wider g (Set m from) k r d down = refl
  same_wider g (Choose to c x y) k r d down = refl
  same_wider g (Jump to) k r d down = refl
  same_wider g (If c other end) k r d down = refl

  pub means_wider : (code : List Instr) (rest : Given → Rest) → Means code lits rest → GoesDown code lits → Means code (lits ++ v ∷ []) rest
  means_wider code rest means down = record {
    done = means.done;
    each = λ k i at g d. means.each k i at g d ∙ same_wider g i k (rest g) d (down.down k i at);
  }

  pub goes_wider : (code : List Instr) → GoesDown code lits → GoesDown code (lits ++ v ∷ [])
  goes_wider code down = record { down = λ k i at. down_wider k i (down.down k i at) }
