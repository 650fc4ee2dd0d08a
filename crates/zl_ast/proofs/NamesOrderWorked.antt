-- The worked programs of NamesOrderWorked, by computation of their violations.
use Rattle.std.proofs.Common.{◌≡◌, [], ◌∷◌, refl, arith}
use Rattle.zl_value.specs.declared.rule.Rule.TheVariants.{NameUnknown, NameTwice, DefinedTwice, Undefined, Arity, Branch, Main, Last}
use Rattle.zl_ast.specs.Scopes.{variables}
use Rattle.zl_ast.specs.NamesRules.{violations, IsRefusedAt, variables_broken, uses_broken}
use Rattle.zl_ast.specs.WorkedTrees.{at}
use Rattle.zl_ast.specs.NamesOrderWorked.{unknown_first, twice_next, defined_next, undefined_next, arity_next, branch_next, main_next, first_place, NamesOrderWorked}
use Rattle.zl_ast.proofs.NamesSteps.{outline_steps, rolled_places, uses_steps}
use Rattle.zl_ast.proofs.FirstPlaces.{in_line, refused_at, one_is_refused}

of_unknown_first : violations unknown_first ≡ (NameTwice, at 1 10) ∷ (NameUnknown, at 1 15) ∷ []
unfolding variables_broken uses_broken variables
of_unknown_first = simp (uses_steps, outline_steps, rolled_places)

is_unknown_first_refused : IsRefusedAt unknown_first NameUnknown (at 1 15)
is_unknown_first_refused = refused_at unknown_first NameUnknown (at 1 15) _ of_unknown_first (0, omega arith, refl) (in_line 1 15 15 (omega arith), tt) (omega arith, (omega arith, tt))

of_twice_next : violations twice_next ≡ (DefinedTwice, at 1 20) ∷ (NameTwice, at 2 5) ∷ []
unfolding variables_broken uses_broken variables
of_twice_next = simp (uses_steps, outline_steps, rolled_places)

is_twice_next_refused : IsRefusedAt twice_next NameTwice (at 2 5)
is_twice_next_refused = refused_at twice_next NameTwice (at 2 5) _ of_twice_next (0, omega arith, refl) (in_line 2 5 5 (omega arith), tt) (omega arith, (omega arith, tt))

of_defined_next : violations defined_next ≡ (Undefined, at 1 46) ∷ (DefinedTwice, at 1 73) ∷ []
unfolding variables_broken uses_broken variables
of_defined_next = simp (uses_steps, outline_steps, rolled_places)

is_defined_next_refused : IsRefusedAt defined_next DefinedTwice (at 1 73)
is_defined_next_refused = refused_at defined_next DefinedTwice (at 1 73) _ of_defined_next (0, omega arith, refl) (in_line 1 73 73 (omega arith), tt) (omega arith, (omega arith, tt))

of_undefined_next : violations undefined_next ≡ (Undefined, at 2 48) ∷ (Arity, at 2 17) ∷ []
unfolding variables_broken uses_broken variables
of_undefined_next = simp (uses_steps, outline_steps, rolled_places)

is_undefined_next_refused : IsRefusedAt undefined_next Undefined (at 2 48)
is_undefined_next_refused = refused_at undefined_next Undefined (at 2 48) _ of_undefined_next (0, omega arith, refl) (in_line 2 48 48 (omega arith), tt) (omega arith, (omega arith, tt))

of_arity_next : violations arity_next ≡ (Branch, at 2 58) ∷ (Arity, at 2 72) ∷ []
unfolding variables_broken uses_broken variables
of_arity_next = simp (uses_steps, outline_steps, rolled_places)

is_arity_next_refused : IsRefusedAt arity_next Arity (at 2 72)
is_arity_next_refused = refused_at arity_next Arity (at 2 72) _ of_arity_next (0, omega arith, refl) (in_line 2 72 72 (omega arith), tt) (omega arith, (omega arith, tt))

of_branch_next : violations branch_next ≡ (Branch, at 1 58) ∷ (Main, at 1 1) ∷ []
unfolding variables_broken uses_broken variables
of_branch_next = simp (uses_steps, outline_steps, rolled_places)

is_branch_next_refused : IsRefusedAt branch_next Branch (at 1 58)
is_branch_next_refused = refused_at branch_next Branch (at 1 58) _ of_branch_next (0, omega arith, refl) (in_line 1 58 58 (omega arith), tt) (omega arith, (omega arith, tt))

of_main_next : violations main_next ≡ (Last, at 1 17) ∷ (Main, at 1 1) ∷ []
unfolding variables_broken uses_broken variables
of_main_next = simp (uses_steps, outline_steps, rolled_places)

is_main_next_refused : IsRefusedAt main_next Main (at 1 1)
is_main_next_refused = refused_at main_next Main (at 1 1) _ of_main_next (0, omega arith, refl) (in_line 1 1 1 (omega arith), tt) (omega arith, (omega arith, tt))

of_first_place : violations first_place ≡ (NameUnknown, at 1 68) ∷ (NameUnknown, at 1 51) ∷ []
unfolding variables_broken uses_broken variables
of_first_place = simp (uses_steps, outline_steps, rolled_places)

is_first_place_refused : IsRefusedAt first_place NameUnknown (at 1 51)
is_first_place_refused = refused_at first_place NameUnknown (at 1 51) _ of_first_place (1, omega arith, refl) (in_line 1 51 68 (omega arith), (in_line 1 51 51 (omega arith), tt)) (omega arith, (omega arith, tt))

pub names_order_worked : NamesOrderWorked
names_order_worked = record {
  one_is_refused = one_is_refused;
  unknown_first_refused = is_unknown_first_refused;
  twice_next_refused = is_twice_next_refused;
  defined_next_refused = is_defined_next_refused;
  undefined_next_refused = is_undefined_next_refused;
  arity_next_refused = is_arity_next_refused;
  branch_next_refused = is_branch_next_refused;
  main_next_refused = is_main_next_refused;
  first_place_refused = is_first_place_refused;
}
