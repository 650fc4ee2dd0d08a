-- Chains of guards, guard by guard.
use Rattle.std.specs.Prelude.{◌≡◌, ℕ, zero, suc, ◌+◌, ◌-◌, ◌<◌, ◌≤◌, false, nat_eq, if◌then◌else◌, List, [], ◌∷◌, ◌++◌, length, drop, get_or, Option, Some, None}
use Rattle.std.proofs.Common.{refl, sym, ap, ap₂, ◌∙◌, arith}
use Rattle.std.proofs.lemmas.List.{drop_more, append_assoc}
use Rattle.zl_code.specs.declared.stmt.Stmt.{Stmt}
use Rattle.zl_code.specs.declared.stmt.Stmt.TheVariants.{Else, Fi}
use Rattle.zl_kernel.specs.declared.wire.Wire.{Wire}
use Rattle.zl_codegen.specs.Guards.{guard_of, guards_up, close, enter, change}

pub guards_none : (wires : List Wire) (room : ℕ) → guards_up wires room None ≡ []
guards_none wires zero = refl
guards_none wires (suc room) = refl

pub guards_some : (wires : List Wire) (room guard : ℕ) → 0 < room → guards_up wires room (Some guard) ≡ guard ∷ guards_up wires (room - 1) (guard_of wires guard)
guards_some wires zero guard above = absurd (omega arith)
guards_some wires (suc room) guard above = ap (λ r. guard ∷ guards_up wires r (guard_of wires guard)) (let e : room ≡ suc room - 1 = omega arith in e)

pub drop_at : (xs : List ℕ) (i : ℕ) → i < length xs → drop i xs ≡ get_or xs i 0 ∷ drop (i + 1) xs
drop_at xs i less = drop_more xs i 0 less

-- one guard more is closed
pub close_at : (guards : List ℕ) (i : ℕ) (rest : List Stmt) → i < length guards → close (drop i guards) rest ≡ Else ∷ Fi ∷ close (drop (i + 1) guards) rest
close_at guards i rest less = ap (λ xs. close xs rest) (drop_at guards i less)

-- where the one list is at its end, or the lists part
pub change_end : (now next : List ℕ) (rest : List Stmt) → next ≡ [] → change now next rest ≡ close now (enter next rest)
change_end [] next rest is = refl
change_end (a ∷ now) [] rest is = refl
change_end (a ∷ now) (b ∷ next) rest is = absurd cc

change_by : (a b : ℕ) (now next : List ℕ) (rest : List Stmt) → nat_eq a b ≡ false → change (a ∷ now) (b ∷ next) rest ≡ close (a ∷ now) (enter (b ∷ next) rest)
change_by a b now next rest other = ap (λ t. if t then change now next rest else close (a ∷ now) (enter (b ∷ next) rest)) other

pub change_at : (now next : List ℕ) (i : ℕ) (rest : List Stmt) → i < length now → i < length next → nat_eq (get_or now i 0) (get_or next i 0) ≡ false → change (drop i now) (drop i next) rest ≡ close (drop i now) (enter (drop i next) rest)
change_at now next i rest p q other =
    ap₂ (λ xs ys. change xs ys rest) (drop_at now i p) (drop_at next i q) ∙ change_by _ _ _ _ rest other
    ∙ sym (ap₂ (λ xs ys. close xs (enter ys rest)) (drop_at now i p) (drop_at next i q))

pub guards_up_more : (wires : List Wire) (guards new : List ℕ) (room guard : ℕ) (was next : Option ℕ) → was ≡ Some guard → next ≡ guard_of wires guard → new ≡ guards ++ guard ∷ [] → 0 < room → new ++ guards_up wires (room - 1) next ≡ guards ++ guards_up wires room was
guards_up_more wires guards new room guard was next is of pushed above =
    ap₂ (λ xs n. xs ++ guards_up wires (room - 1) n) pushed of ∙ append_assoc guards (guard ∷ []) (guards_up wires (room - 1) (guard_of wires guard))
    ∙ ap (λ xs. guards ++ xs) (sym (guards_some wires room guard above)) ∙ ap (λ w. guards ++ guards_up wires room w) (sym is)

pub drop_end : (xs : List ℕ) (i : ℕ) → length xs ≤ i → drop i xs ≡ []
drop_end [] zero past = refl
drop_end [] (suc i) past = refl
drop_end (x ∷ xs) zero past = absurd (omega arith)
drop_end (x ∷ xs) (suc i) past = drop_end xs i (omega arith)
