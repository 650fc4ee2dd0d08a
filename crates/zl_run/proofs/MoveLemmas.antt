-- How far the machine moves, and where the run is then.
use Rattle.std.specs.Prelude.{◌≡◌, Bool, true, false, if◌then◌else◌, Option, Some, None, Ok, Err}
use Rattle.std.proofs.Common.{refl, sym, ap, ap₂, ◌∙◌}
use Rattle.zl_value.specs.Fraction.{Fraction, IsFrac, add, fits, fitted}
use Rattle.zl_value.specs.Decimal.{if_fits}
use Rattle.zl_value.specs.Widths.{nowhere}
use Rattle.zl_value.specs.declared.arith.Arith.{Arith}
use Rattle.zl_value.specs.declared.arith.Arith.TheVariants.{Range}
use Rattle.zl_value.specs.declared.value.Fault.{Fault}
use Rattle.zl_machine.specs.Calls.{move_fault, move_answer, after_move}
use Rattle.zl_machine.specs.MachineForm.{MachineForm}
use Rattle.zl_run.specs.Flowing.{move_test, HasGone}

-- ---- numbers in the width

narrowed : (d by : Fraction) → Some by ≡ if_fits d → (fits d ≡ true) × (by ≡ d)
narrowed d by = go (fits d) refl
  where
    go : (b : Bool) → fits d ≡ b → Some by ≡ (if b then Some d else None) → (fits d ≡ true) × (by ≡ d)
    go true f e = (f, cc)
    go false f e = absurd cc

not_narrowed : (d : Fraction) → None ≡ if_fits d → fits d ≡ false
not_narrowed d = go (fits d)
  where
    go : (b : Bool) → None ≡ (if b then Some d else None) → b ≡ false
    go true e = absurd cc
    go false e = refl

fitted_ok : (f g : Fraction) → Ok g ≡ fitted f → (fits f ≡ true) × (g ≡ f)
unfolding fitted
fitted_ok f g = go (fits f) refl
  where
    go : (b : Bool) → fits f ≡ b → Ok g ≡ (if b then Ok f else Err Range) → (fits f ≡ true) × (g ≡ f)
    go true p e = (p, cc)
    go false p e = absurd cc

fitted_err : (f : Fraction) (kind : Arith) → Err kind ≡ fitted f → fits f ≡ false
unfolding fitted
fitted_err f kind = go (fits f)
  where
    go : (b : Bool) → Err kind ≡ (if b then Ok f else Err Range) → b ≡ false
    go true e = absurd cc
    go false e = refl

moves : (x : Option Fault) → Ok tt ≡ move_answer x → x ≡ None
moves None e = refl
moves (Some fault) e = absurd cc

moves_not : (x : Option Fault) (fault : Fault) → Err fault ≡ move_answer x → x ≡ Some fault
moves_not None fault e = absurd cc
moves_not (Some other) fault e = cc

-- ---- the numbers of a move

-- the duration and the time then are in the width, so what is tested is what the machine tests
both_fit : (m : MachineForm) (t d : Fraction) → fits d ≡ true → fits (add t d) ≡ true → move_test m t d ≡ move_fault m d
both_fit m t d p q = rw (p, q) refl

pub too_long : (m : MachineForm) (t d : Fraction) → None ≡ if_fits d → move_test m t d ≡ Some (record { kind = Range; at = nowhere })
too_long m t d e = rw (not_narrowed d e) refl

pub too_late : (m : MachineForm) (t d by : Fraction) (kind : Arith) → Some by ≡ if_fits d → Err kind ≡ fitted (add t by)
    → move_test m t d ≡ Some (record { kind = Range; at = nowhere })
too_late m t d by kind e f =
    let one = narrowed d by e in
    let two : fits (add t d) ≡ false = ap (λ x. fits (add t x)) (sym one.1) ∙ fitted_err (add t by) kind f in
    rw (one.0, two) refl

pub too_far : (m : MachineForm) (t d by late : Fraction) (fault : Fault) → Some by ≡ if_fits d → Ok late ≡ fitted (add t by) → Err fault ≡ move_answer (move_fault m by)
    → move_test m t d ≡ Some fault
too_far m t d by late fault e f a =
    let one = narrowed d by e in
    let two = fitted_ok (add t by) late f in
    both_fit m t d one.0 (ap (λ x. fits (add t x)) (sym one.1) ∙ two.0)
    ∙ ap (move_fault m) (sym one.1)
    ∙ moves_not (move_fault m by) fault a

pub gone : (m new : MachineForm) (t d by late : Fraction) → Some by ≡ if_fits d → Ok late ≡ fitted (add t by) → IsFrac late → Ok tt ≡ move_answer (move_fault m by)
    → new ≡ after_move m by (move_fault m by) → HasGone t d m new late
gone m new t d by late e f kept a after =
    let one = narrowed d by e in
    let two = fitted_ok (add t by) late f in
    let none = moves (move_fault m by) a in
    record {
      fits = both_fit m t d one.0 (ap (λ x. fits (add t x)) (sym one.1) ∙ two.0) ∙ ap (move_fault m) (sym one.1) ∙ none;
      time = two.1 ∙ ap (add t) one.1;
      kept = kept;
      machine = after ∙ ap₂ (after_move m) one.1 none;
    }
