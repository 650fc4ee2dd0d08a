-- With ranks the wires have exactly one solution.
use Rattle.std.specs.Prelude.{◌≡◌, ℕ, List, get_or, slice_get, length, Option, None}
use Rattle.std.proofs.Common.{refl, sym, ap, ◌∙◌}
use mathlib.Core.Path.{fun_ext}
use Rattle.zl_value.specs.FixedPoints.{IsRanked, HasOneSolution}
use Rattle.zl_value.specs.Lists.{listed}
use Rattle.zl_value.proofs.Fixed.{one_solution, has_one_solution}
use Rattle.zl_value.specs.declared.value.Value.{Value}
use Rattle.zl_kernel.specs.KernelForm.{KernelForm}
use Rattle.zl_kernel.specs.Wires.{Registers, held, Moment, wire_value, turn}
use Rattle.zl_kernel.specs.WireRanks.{AreWireRanks}
use Rattle.zl_kernel.specs.Laws.{IsOneSolution}
use Rattle.zl_kernel.proofs.WireLists.{made_at}
use Rattle.zl_kernel.proofs.WireReads.{value_same}

module _ (k : KernelForm) (m : Moment) where
  -- what wire `n` holds by its definition, over what the wires hold
  abbrev pub defined : (ℕ → Option Value) → ℕ → Option Value
  defined s n = wire_value k m s n (slice_get k.wires n)

  -- what a wire holds after a turn
  pub turn_at : (r : Registers) (n : ℕ) → held (turn k m r) n ≡ defined (held r) n
  unfolding turn
  turn_at r n = made_at k.wires None (defined (held r)) (λ j wire. wire_value k m (held r) j wire) (λ j. refl) (λ j. refl) n

  -- what solves the wires is what their definitions say
  pub solved_at : (r : Registers) → r ≡ turn k m r → (n : ℕ) → held r n ≡ defined (held r) n
  solved_at r is n = ap (λ x. held x n) is ∙ turn_at r n

  module _ (ranks : List ℕ) (are : AreWireRanks k ranks) where
    abbrev rank : ℕ → ℕ
    rank n = get_or ranks n 0

    is_ranked : IsRanked rank defined
    is_ranked = record {
      same = λ s t a below. value_same s t k m a (slice_get k.wires a) (λ wire is j has. below j (are.lower a j wire is has));
    }

    pub one_registers : (r t : Registers) → r ≡ turn k m r → t ≡ turn k m t → r ≡ t
    unfolding turn
    one_registers r t p q =
        p ∙ ap (λ s. listed (length k.wires) 0 (defined s)) (one_solution rank defined is_ranked (held r) (held t) (solved_at r p) (solved_at t q)) ∙ sym q

    solution : HasOneSolution defined
    solution = has_one_solution rank defined is_ranked (λ n. None)

    registers : Registers
    registers = listed (length k.wires) 0 solution.solution

    registers_hold : (n : ℕ) → held registers n ≡ solution.solution n
    unfolding registers
    registers_hold n =
        made_at k.wires None solution.solution (λ j wire. wire_value k m solution.solution j wire) (λ j. refl) solution.solves n
        ∙ sym (solution.solves n)

    registers_solve : registers ≡ turn k m registers
    unfolding registers turn
    registers_solve =
        ap (λ s. listed (length k.wires) 0 s) (fun_ext solution.solves)
        ∙ ap (λ s. listed (length k.wires) 0 (defined s)) (sym (fun_ext registers_hold))

    pub has_one_registers : IsOneSolution k m
    has_one_registers = record {
      registers = registers;
      solves = registers_solve;
      only = λ r is. one_registers r registers is registers_solve;
    }
