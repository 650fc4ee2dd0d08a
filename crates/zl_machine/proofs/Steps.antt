-- One turn of the loop over instructions.
use Rattle.std.specs.Prelude.{◌≡◌, ℕ, suc, ◌-◌, ◌<◌, ◌≤◌, Bool, true, false, List, [], ◌∷◌, set, get_or, length, slice_get, Option, Some, None}
use Rattle.std.proofs.Common.{refl, sym, ap, ◌∙◌, subst, arith}
use Rattle.std.specs.Option.{option_map, option_and_then}
use Rattle.std.proofs.lemmas.Option.{slice_get-get_or}
use Rattle.zl_value.specs.Operators.{Answer, answered}
use Rattle.zl_value.specs.declared.value.Value.{Value}
use Rattle.zl_value.specs.declared.value.Value.TheVariants.{B, I, F}
use Rattle.zl_code.specs.declared.stmt.OpFault.{OpFault}
use Rattle.zl_code.specs.declared.stmt.Found.{Found}
use Rattle.zl_code.specs.Method.{Cells, cell, Given, Doing, put, noted, by_values, answer}
use Rattle.zl_machine.specs.declared.instr.Instr.{Instr}
use Rattle.zl_machine.specs.declared.instr.Instr.TheVariants.{Lit}
use Rattle.zl_machine.specs.Answers.{alone, both, bool_of}
use Rattle.zl_machine.specs.Instructions.{Rest, by, goes_on, GoesDown, IsDown, AsBegun}

pub at_place : (code : List Instr) (pc : ℕ) (i : Instr) → 0 < pc → pc ≤ length code → get_or code (pc - 1) (Lit 0 0) ≡ i → slice_get code (pc - 1) ≡ Some i
at_place code pc i above low is =
    let inside : pc - 1 < length code = omega arith in
    slice_get-get_or code (pc - 1) (Lit 0 0) inside ∙ ap (λ (x : Instr). Some x) is

pub leads_down : (code : List Instr) (lits : Cells) (pc : ℕ) (i : Instr) → 0 < pc → pc ≤ length code → get_or code (pc - 1) (Lit 0 0) ≡ i → GoesDown code lits → IsDown (length lits) (pc - 1) i
leads_down code lits pc i above low is down = down.down (pc - 1) i (at_place code pc i above low is)

-- an instruction at the place before `pc` is done
pub after : (code : List Instr) (lits : Cells) (g : Given) (begun : Doing) (pc : ℕ) (i : Instr) (d d' : Doing) (pc' : ℕ) → 0 < pc → pc ≤ length code → get_or code (pc - 1) (Lit 0 0) ≡ i → AsBegun code lits g begun pc d → ((rest : Rest) → goes_on lits g i rest (pc - 1) d ≡ rest pc' d') → AsBegun code lits g begun pc' d'
after code lits g begun pc i d d' pc' above low is begun_so same rest m =
    let behind : suc (pc - 1) ≡ pc = omega arith in
    sym (same (rest g)) ∙ sym (m.each (pc - 1) i (at_place code pc i above low is) g d) ∙ ap (λ k. rest g k d) behind ∙ begun_so rest m

pub putting : (rest : Rest) (k : ℕ) (d : Doing) (to : ℕ) (v v' : Option Value) (regs : Cells) → regs ≡ set d.regs to v' → v' ≡ v → rest k (put d to v) ≡ rest k (record { regs = regs; mems = d.mems; found = d.found })
putting rest k d to v v' regs e w = ap (λ rs. rest k (record { regs = rs; mems = d.mems; found = d.found })) (ap (λ x. set d.regs to x) (sym w) ∙ sym e)

pub settling : (rest : Rest) (k : ℕ) (d : Doing) (to : ℕ) (a a' : Answer) (at : Option OpFault) (v : Option Value) (regs : Cells) (found : Option Found) → regs ≡ set d.regs to v → v ≡ answered a' → found ≡ noted d.found a' at → a' ≡ a → rest k (record { regs = set d.regs to (answered a); mems = d.mems; found = noted d.found a at }) ≡ rest k (record { regs = regs; mems = d.mems; found = found })
settling rest k d to a a' at v regs found e w f same =
    ap (λ x. rest k (record { regs = set d.regs to (answered x); mems = d.mems; found = noted d.found x at })) (sym same)
    ∙ ap (λ rs. rest k (record { regs = rs; mems = d.mems; found = noted d.found a' at })) (ap (λ x. set d.regs to x) (sym w) ∙ sym e)
    ∙ ap (λ x. rest k (record { regs = regs; mems = d.mems; found = x })) (sym f)

two_values : (x y : Option Value) → both x y ≡ option_and_then (λ v. option_map (λ vs. v ∷ vs) (option_and_then (λ w. option_map (λ ws. w ∷ ws) (Some [])) y)) x
two_values None y = refl
two_values (Some x) None = refl
two_values (Some x) (Some y) = refl

one_value : (x : Option Value) → alone x ≡ option_and_then (λ v. option_map (λ vs. v ∷ vs) (Some [])) x
one_value None = refl
one_value (Some x) = refl

pub two_answer : (regs : Cells) (make : List Value → Answer) (a b : ℕ) (x y : Option Value) (r : Answer) → r ≡ by_values make (both x y) → x ≡ cell regs a → y ≡ cell regs b → r ≡ answer regs make (a ∷ b ∷ [])
two_answer regs make a b x y r e p q = e ∙ ap (λ u. by_values make (both u y)) p ∙ ap (λ u. by_values make (both (cell regs a) u)) q ∙ ap (by_values make) (two_values (cell regs a) (cell regs b))

pub one_answer : (regs : Cells) (make : List Value → Answer) (a : ℕ) (x : Option Value) (r : Answer) → r ≡ by_values make (alone x) → x ≡ cell regs a → r ≡ answer regs make (a ∷ [])
one_answer regs make a x r e p = e ∙ ap (λ u. by_values make (alone u)) p ∙ ap (by_values make) (one_value (cell regs a))

pub by_true : {X : Type 0} (v w : Option Value) (b : Bool) (x y z : X) → w ≡ v → Some b ≡ bool_of w → b ≡ true → by v x y z ≡ x
by_true v None b x y z p e t = absurd cc
by_true v (Some (B c)) b x y z p e t = let q : Some (B true) ≡ v = cc in subst (λ u. by u x y z ≡ x) q refl
by_true v (Some (I n)) b x y z p e t = absurd cc
by_true v (Some (F f)) b x y z p e t = absurd cc

pub by_false : {X : Type 0} (v w : Option Value) (b : Bool) (x y z : X) → w ≡ v → Some b ≡ bool_of w → b ≡ false → by v x y z ≡ y
by_false v None b x y z p e t = absurd cc
by_false v (Some (B c)) b x y z p e t = let q : Some (B false) ≡ v = cc in subst (λ u. by u x y z ≡ y) q refl
by_false v (Some (I n)) b x y z p e t = absurd cc
by_false v (Some (F f)) b x y z p e t = absurd cc

pub by_none : {X : Type 0} (v w : Option Value) (x y z : X) → w ≡ v → None ≡ bool_of w → by v x y z ≡ z
by_none v None x y z p e = subst (λ u. by u x y z ≡ z) p refl
by_none v (Some (B c)) x y z p e = absurd cc
by_none v (Some (I n)) x y z p e = subst (λ u. by u x y z ≡ z) p refl
by_none v (Some (F f)) x y z p e = subst (λ u. by u x y z ≡ z) p refl
