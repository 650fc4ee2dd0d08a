-- The wires of slopes in a flow: what an operator makes of the slopes of its operands.
use Rattle.std.specs.Prelude.{◌≡◌, ℕ, ◌*ℤ◌, pos, nat_eq, unsigned_abs, Bool, true, false, ◌&&◌, if◌then◌else◌, [], ◌∷◌, Option, Some, None}
use Rattle.std.specs.Option.{option_map, option_and_then}
use Rattle.std.specs.Ordering.{is_eq}
use Rattle.std.specs.Cmp.{int_cmp_is}
use Rattle.std.specs.declared.cmp.Ordering.TheVariants.{Equal}
use Rattle.std.proofs.Common.{refl, sym, ap, ap₂, ◌∙◌}
use Rattle.zl_value.specs.Fraction.{Fraction, div, compare, fits}
use Rattle.zl_value.specs.Operators.{Answer, Gives, Faults, Nothing, answered, operate, within}
use Rattle.zl_value.specs.declared.arith.Arith.TheVariants.{Range, Division}
use Rattle.zl_value.specs.declared.value.Value.{Value}
use Rattle.zl_value.specs.declared.value.Value.TheVariants.{F}
use Rattle.zl_value.specs.declared.op.Op.{Op}
use Rattle.zl_value.specs.declared.op.Op.TheVariants.{DivFloat}
use Rattle.zl_meaning.specs.State.{if_used}
use Rattle.zl_kernel.specs.KernelForm.{KernelForm}
use Rattle.zl_kernel.specs.Wires.{Registers, held, is_open, turn, applied as worked, wire_value, answer as wire_says}
use Rattle.zl_kernel.specs.System.{flow_moment}
use Rattle.zl_kernel.specs.declared.wire.Def.{Def}
use Rattle.zl_value.specs.Instants.{Instant}
use Rattle.zl_normal.specs.KernelParts.{IsFlowWire}
use Rattle.zl_normal.proofs.Wires.Solved.{turned}

gate : (b : Bool) (a : Answer) → answered (if b then a else Nothing) ≡ if_used b (answered a)
gate true a = refl
gate false a = refl

-- what a wire holds in a flow
pub flow_wire_is : (k : KernelForm) (i : Instant Registers) (y : Registers) → y ≡ turn k (flow_moment k i) y → (n : ℕ) (def : Def) (guard : Option ℕ) → IsFlowWire k n def guard → held y n ≡ if_used (is_open (held y) guard) (answered (wire_says (flow_moment k i) (held y) def))
flow_wire_is k i y wired n def guard is =
    ap (λ x. held x n) wired
    ∙ turned k (flow_moment k i) y wired tt n
    ∙ ap (λ w. wire_value k (flow_moment k i) (held y) n w) is.is
    ∙ ap₂ (λ o d. answered (if is_open (held y) o then wire_says (flow_moment k i) (held y) d else Nothing)) is.guard_is is.def_is
    ∙ gate (is_open (held y) guard) (wire_says (flow_moment k i) (held y) def)

-- a number is equal to itself
pub same_number : (a : Fraction) → is_eq (compare a a) ≡ true
unfolding compare
same_number a = ap (λ o. is_eq o) (sym (int_cmp_is (a.num *ℤ pos a.den) (a.num *ℤ pos a.den) Equal refl))

-- a slope where it is fine
abbrev pub if_fine : Bool → Fraction → Option Value
if_fine b d = if b then Some (F d) else None

pub if_fine_same : (b : Bool) (d e : Fraction) → d ≡ e → if_fine b d ≡ if_fine b e
if_fine_same b d e q = ap (λ x. if_fine b x) q

-- a slope that is there is fine, and is this one
pub there_fine : (b : Bool) (d e : Fraction) → Some (F e) ≡ if_fine b d → (b ≡ true) × (d ≡ e)
there_fine true d e q = (refl, by (sym q))
  where
    number_in : Option Value → Fraction
    number_in (Some (F x)) = x
    number_in _ = d

    by : Some (F d) ≡ Some (F e) → d ≡ e
    by q = ap (λ x. number_in x) q
there_fine false d e q = absurd cc

-- operators on slopes
pub on_two : (op : Op) (b c : Bool) (u v : Value) → worked op (option_and_then (λ x. option_map (λ xs. x ∷ xs) (option_and_then (λ w. option_map (λ ws. w ∷ ws) (Some [])) (if c then Some v else None))) (if b then Some u else None)) ≡ (if b && (c && true) then operate op (u ∷ v ∷ []) else Nothing)
on_two op true true u v = refl
on_two op true false u v = refl
on_two op false c u v = refl

pub on_one : (op : Op) (b : Bool) (u : Value) → worked op (option_and_then (λ x. option_map (λ xs. x ∷ xs) (Some [])) (if b then Some u else None)) ≡ (if b && true then operate op (u ∷ []) else Nothing)
on_one op true u = refl
on_one op false u = refl

-- what an operator says of a slope: the slope where it is in the width and what it is made from is fine
abbrev pub says_slope : Bool → Fraction → Answer
says_slope all d = if all then within (Gives (F d)) else Nothing

pub settled : (all : Bool) (d : Fraction) → answered (says_slope all d) ≡ if_fine (fits d && all) d
settled false d = by (fits d)
  where
    by : (b : Bool) → None ≡ if_fine (b && false) d
    by true = refl
    by false = refl
settled true d = by (fits d)
  where
    by : (b : Bool) → answered (if b then Gives (F d) else Faults Range) ≡ if_fine (b && true) d
    by true = refl
    by false = refl

-- the slope of what has that of a part
pub passed_on : (b r : Bool) (d : Fraction) → (b ≡ true → fits d ≡ true) → r ≡ true → if_fine b d ≡ if_fine (fits d && (b && r)) d
passed_on true r d q e = ap (λ x. if_fine x d) (sym (all_true (fits d) r (q refl) e))
  where
    all_true : (a r : Bool) → a ≡ true → r ≡ true → (a && (true && r)) ≡ true
    all_true a r p q = rw (p, q) refl
passed_on false r d q e = by (fits d)
  where
    by : (b : Bool) → None ≡ if_fine (b && false) d
    by true = refl
    by false = refl

pub passed_right : (b r : Bool) (d : Fraction) → (b ≡ true → fits d ≡ true) → r ≡ true → if_fine b d ≡ if_fine (fits d && (r && (b && true))) d
passed_right b r d q e = passed_on b true d q refl ∙ ap (λ x. if_fine (fits d && (x && (b && true))) d) (sym e)

pub quotient_says : (p q d : Fraction) → nat_eq (unsigned_abs q.num) 0 ≡ false → div p q ≡ d → operate DivFloat (F p ∷ F q ∷ []) ≡ within (Gives (F d))
quotient_says p q d z e = ap (λ b. within (if b then Faults Division else Gives (F (div p q)))) z ∙ ap (λ x. within (Gives (F x))) e

pub not_zero : (q : Fraction) → nat_eq (unsigned_abs q.num) 0 ≡ false → q.num ≡ pos 0 → ⊥
not_zero q z e = let w : true ≡ false = sym (ap (λ n. nat_eq (unsigned_abs n) 0) e) ∙ z in absurd (let v = w in cc)
