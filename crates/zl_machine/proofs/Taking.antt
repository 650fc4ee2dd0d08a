-- The instruction of each statement does what it says.
use Rattle.std.specs.Prelude.{◌≡◌, ℕ, ◌+◌, ◌-◌, ◌<◌, ◌≤◌, List, [], ◌∷◌, ◌++◌, drop, length, get_or, OnOk, Result, Ok, Err, Some, None}
use Rattle.std.proofs.Common.{refl, sym, ap, ◌∙◌, subst, arith}
use Rattle.std.proofs.lemmas.List.{length-append, drop_more, get_or-append_right}
use Rattle.zl_value.specs.declared.value.Value.{Value}
use Rattle.zl_code.specs.declared.stmt.Stmt.{Stmt}
use Rattle.zl_code.specs.declared.stmt.Stmt.TheVariants as stmt
use Rattle.zl_code.specs.Method.{Cells, cell, put}
use Rattle.zl_machine.specs.declared.instr.Instr.TheVariants.{Lit, Get, Mem, In, Event, Set, Choose}
use Rattle.zl_machine.specs.Building.{Leads, DoesAs}
use Rattle.zl_machine.proofs.Backward.{choice_runs}

-- what holds on success, by what does
pub on_ok : {X E P Q : Type 0} (r : Result X E) → (P → Q) → OnOk r P → OnOk r Q
on_ok (Ok x) f p = f p
on_ok (Err e) f p = tt

pub get_leads : (lits : Cells) (to from : ℕ) → DoesAs lits (Get to from) (stmt.Get to from)
get_leads lits to from old = record { down = λ k. tt; to_end = λ n g d. refl; to_other = λ n g d. refl; does = λ g rest k d h. h _ }

pub mem_leads : (lits : Cells) (to m : ℕ) → DoesAs lits (Mem to m) (stmt.Mem to m)
mem_leads lits to m old = record { down = λ k. tt; to_end = λ n g d. refl; to_other = λ n g d. refl; does = λ g rest k d h. h _ }

pub in_leads : (lits : Cells) (to i : ℕ) → DoesAs lits (In to i) (stmt.In to i)
in_leads lits to i old = record { down = λ k. tt; to_end = λ n g d. refl; to_other = λ n g d. refl; does = λ g rest k d h. h _ }

pub event_leads : (lits : Cells) (to site : ℕ) → DoesAs lits (Event to site) (stmt.Event to site)
event_leads lits to site old = record { down = λ k. tt; to_end = λ n g d. refl; to_other = λ n g d. refl; does = λ g rest k d h. h _ }

pub set_leads : (lits : Cells) (m from : ℕ) → DoesAs lits (Set m from) (stmt.Set m from)
set_leads lits m from old = record { down = λ k. tt; to_end = λ n g d. refl; to_other = λ n g d. refl; does = λ g rest k d h. h _ }

-- the literal that was added last
pub lit_leads : (lits : Cells) (to n : ℕ) (v : Value) → n ≡ length lits → DoesAs (lits ++ Some v ∷ []) (Lit to n) (stmt.Lit to v)
lit_leads lits to n v last old =
    let longer : length (lits ++ Some v ∷ []) ≡ length lits + 1 = length-append lits (Some v ∷ []) in
    let none_left : n - n ≡ 0 = omega arith in
    let at : cell (lits ++ Some v ∷ []) n ≡ Some v = get_or-append_right lits (Some v ∷ []) n n None (sym last) (omega arith) ∙ ap (λ k. get_or (Some v ∷ []) k None) none_left in
    record {
      down = λ k. omega (arith, longer, last);
      to_end = λ n g d. refl;
      to_other = λ n g d. refl;
      does = λ g rest k d h. ap (λ x. rest k (put d to x)) at ∙ h _;
    }

-- what stands at a place, and what behind it
pub drop_at : (xs : List Stmt) (i : ℕ) (d x : Stmt) → i < length xs → get_or xs i d ≡ x → drop i xs ≡ x ∷ drop (i + 1) xs
drop_at xs i d x low is = drop_more xs i d low ∙ ap (λ (s : Stmt). s ∷ drop (i + 1) xs) is

-- the five statements of a choice between two registers
pub choice_leads : (lits : Cells) (to c x y : ℕ) (old : List Stmt) → Leads lits (Choose to c x y) old (stmt.If c ∷ stmt.Get to x ∷ stmt.Else ∷ stmt.Get to y ∷ stmt.Fi ∷ old)
choice_leads lits to c x y old = record { down = λ k. tt; to_end = λ n g d. refl; to_other = λ n g d. refl; does = λ g rest k d h. h _ ∙ sym (choice_runs g c to x y old d) }

pub choice_at : (xs : List Stmt) (i : ℕ) (d0 d1 d2 d3 d4 : Stmt) (c to also x y : ℕ) → 5 ≤ i → i ≤ length xs → get_or xs (i - 5) d0 ≡ stmt.If c → get_or xs (i - 4) d1 ≡ stmt.Get to x → get_or xs (i - 3) d2 ≡ stmt.Else → get_or xs (i - 2) d3 ≡ stmt.Get also y → get_or xs (i - 1) d4 ≡ stmt.Fi → to ≡ also → (lits : Cells) → Leads lits (Choose to c x y) (drop i xs) (drop (i - 5) xs)
choice_at xs i d0 d1 d2 d3 d4 c to also x y from low a0 a1 a2 a3 a4 same lits =
    let n4 : i - 5 + 1 ≡ i - 4 = omega (arith, from) in
    let n3 : i - 4 + 1 ≡ i - 3 = omega (arith, from) in
    let n2 : i - 3 + 1 ≡ i - 2 = omega (arith, from) in
    let n1 : i - 2 + 1 ≡ i - 1 = omega (arith, from) in
    let n0 : i - 1 + 1 ≡ i = omega (arith, from) in
    let p0 : drop (i - 5) xs ≡ stmt.If c ∷ drop (i - 4) xs = drop_at xs (i - 5) d0 _ (omega (arith, from, low)) a0 ∙ ap (λ n. stmt.If c ∷ drop n xs) n4 in
    let p1 : drop (i - 4) xs ≡ stmt.Get to x ∷ drop (i - 3) xs = drop_at xs (i - 4) d1 _ (omega (arith, from, low)) a1 ∙ ap (λ n. stmt.Get to x ∷ drop n xs) n3 in
    let p2 : drop (i - 3) xs ≡ stmt.Else ∷ drop (i - 2) xs = drop_at xs (i - 3) d2 _ (omega (arith, from, low)) a2 ∙ ap (λ n. stmt.Else ∷ drop n xs) n2 in
    let p3 : drop (i - 2) xs ≡ stmt.Get also y ∷ drop (i - 1) xs = drop_at xs (i - 2) d3 _ (omega (arith, from, low)) a3 ∙ ap (λ n. stmt.Get also y ∷ drop n xs) n1 in
    let p4 : drop (i - 1) xs ≡ stmt.Fi ∷ drop i xs = drop_at xs (i - 1) d4 _ (omega (arith, from, low)) a4 ∙ ap (λ n. stmt.Fi ∷ drop n xs) n0 in
    let all : drop (i - 5) xs ≡ stmt.If c ∷ stmt.Get to x ∷ stmt.Else ∷ stmt.Get to y ∷ stmt.Fi ∷ drop i xs =
    p0 ∙ ap (λ r. stmt.If c ∷ r) p1 ∙ ap (λ r. stmt.If c ∷ stmt.Get to x ∷ r) p2 ∙ ap (λ r. stmt.If c ∷ stmt.Get to x ∷ stmt.Else ∷ r) p3
    ∙ ap (λ r. stmt.If c ∷ stmt.Get to x ∷ stmt.Else ∷ stmt.Get also y ∷ r) p4
    ∙ ap (λ n. stmt.If c ∷ stmt.Get to x ∷ stmt.Else ∷ stmt.Get n y ∷ stmt.Fi ∷ drop i xs) (sym same) in
    subst (λ new. Leads lits (Choose to c x y) (drop i xs) new) (sym all) (choice_leads lits to c x y (drop i xs))
