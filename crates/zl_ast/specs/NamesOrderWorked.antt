-- Worked programs of the order of the rules of names: each breaks two rules, or one at two places.
use Rattle.std.specs.Prelude.{[], ◌∷◌, None, codes}
use Rattle.zl_value.specs.declared.rule.Rule.TheVariants.{NameUnknown, NameTwice, DefinedTwice, Undefined, Arity, Branch, Main}
use Rattle.zl_ast.specs.declared.program.DeclKind.TheVariants.{Function, Node}
use Rattle.zl_ast.specs.declared.program.Program.{Program}
use Rattle.zl_ast.specs.Equations.{body, arm, state}
use Rattle.zl_ast.specs.WorkedTrees.{at, name, int, var, last, call, plain, test, present, automaton, until_then, unless_then, param, declared, least_main, program}
use Rattle.zl_ast.specs.NamesRules.{IsRefusedAt}
use Rattle.zl_ast.specs.Verdicts.{OneIsRefused}

-- ---- `name-unknown` comes before `name-twice`

-- let f(a, a) = y
-- let hybrid main() = m where m = 1
abbrev pub unknown_first : Program
unknown_first =
    program
    (declared Function (name 0 1 5) (param (name 1 1 7) None ∷ param (name 1 1 10) None ∷ []) (var 2 1 15 ∷ []) []
    ∷ least_main 3 2
    ∷ [])
    (codes "f" ∷ codes "a" ∷ codes "y" ∷ codes "main" ∷ codes "m" ∷ [])

-- ---- `name-twice` comes before `defined-twice`

-- let f(a) = a where a = 1
-- let f(b) = b
-- let hybrid main() = m where m = 1
abbrev pub twice_next : Program
twice_next =
    program
    (declared Function (name 0 1 5) (param (name 1 1 7) None ∷ []) (var 1 1 12 ∷ [])
    (plain (name 1 1 20) (int 1 1 24) ∷ [])
    ∷ declared Function (name 0 2 5) (param (name 2 2 7) None ∷ []) (var 2 2 12 ∷ []) []
    ∷ least_main 3 3
    ∷ [])
    (codes "f" ∷ codes "a" ∷ codes "b" ∷ codes "main" ∷ codes "m" ∷ [])

-- ---- `defined-twice` comes before `undefined`

-- let node f(a) = x where present (a) -> local b in do done and x = a and x = 1
-- let hybrid main() = m where m = 1
abbrev pub defined_next : Program
defined_next =
    program
    (declared Node (name 0 1 10) (param (name 1 1 12) None ∷ []) (var 2 1 17 ∷ [])
    (present 1 25 (arm (test 1 33 (var 1 1 34)) (body (name 3 1 46 ∷ []) []) ∷ []) None
    ∷ plain (name 2 1 63) (var 1 1 67)
    ∷ plain (name 2 1 73) (int 1 1 77)
    ∷ [])
    ∷ least_main 4 2
    ∷ [])
    (codes "f" ∷ codes "a" ∷ codes "x" ∷ codes "b" ∷ codes "main" ∷ codes "m" ∷ [])

-- ---- `undefined` comes before `arity`

-- let f(a) = a
-- let node g(a) = f() where present (a) -> local b in do done
-- let hybrid main() = m where m = 1
abbrev pub undefined_next : Program
undefined_next =
    program
    (declared Function (name 0 1 5) (param (name 1 1 7) None ∷ []) (var 1 1 12 ∷ []) []
    ∷ declared Node (name 2 2 10) (param (name 1 2 12) None ∷ []) (call (name 0 2 17) [] ∷ [])
    (present 2 27 (arm (test 2 35 (var 1 2 36)) (body (name 3 2 48 ∷ []) []) ∷ []) None ∷ [])
    ∷ least_main 4 3
    ∷ [])
    (codes "f" ∷ codes "a" ∷ codes "g" ∷ codes "b" ∷ codes "main" ∷ codes "m" ∷ [])

-- ---- `arity` comes before `branch`

-- let f(a) = a
-- let node g(a) = x where automaton A -> do until (a) then B end and x = f()
-- let hybrid main() = m where m = 1
abbrev pub arity_next : Program
arity_next =
    program
    (declared Function (name 0 1 5) (param (name 1 1 7) None ∷ []) (var 1 1 12 ∷ []) []
    ∷ declared Node (name 2 2 10) (param (name 1 2 12) None ∷ []) (var 3 2 17 ∷ [])
    (automaton 2 25
    (state (name 4 2 35) (body [] []) (until_then 2 43 (test 2 49 (var 1 2 50)) (name 5 2 58) ∷ []) ∷ [])
    ∷ plain (name 3 2 68) (call (name 0 2 72) [])
    ∷ [])
    ∷ least_main 6 3
    ∷ [])
    (codes "f" ∷ codes "a" ∷ codes "g" ∷ codes "x" ∷ codes "A" ∷ codes "B" ∷ codes "main" ∷ codes "m" ∷ [])

-- ---- `branch` comes before `main`

-- let node f(a) = a where automaton A -> do until (a) then B
abbrev pub branch_next : Program
branch_next =
    program
    (declared Node (name 0 1 10) (param (name 1 1 12) None ∷ []) (var 1 1 17 ∷ [])
    (automaton 1 25
    (state (name 2 1 35) (body [] []) (until_then 1 43 (test 1 49 (var 1 1 50)) (name 3 1 58) ∷ []) ∷ [])
    ∷ [])
    ∷ [])
    (codes "f" ∷ codes "a" ∷ codes "A" ∷ codes "B" ∷ [])

-- ---- `main` comes before `last`

-- let node f(a) = last a
abbrev pub main_next : Program
main_next =
    program (declared Node (name 0 1 10) (param (name 1 1 12) None ∷ []) (last 1 17 (name 1 1 22) ∷ []) [] ∷ [])
    (codes "f" ∷ codes "a" ∷ [])

-- ---- of two places at which one rule is broken, the first in the text counts

-- let node f(a) = a where automaton A -> do unless (y) then A until (z) then A
-- let hybrid main() = m where m = 1
abbrev pub first_place : Program
first_place =
    program
    (declared Node (name 0 1 10) (param (name 1 1 12) None ∷ []) (var 1 1 17 ∷ [])
    (automaton 1 25
    (state (name 2 1 35) (body [] [])
    (unless_then 1 43 (test 1 50 (var 3 1 51)) (name 2 1 59)
    ∷ until_then 1 61 (test 1 67 (var 4 1 68)) (name 2 1 76)
    ∷ [])
    ∷ [])
    ∷ [])
    ∷ least_main 5 2
    ∷ [])
    (codes "f" ∷ codes "a" ∷ codes "A" ∷ codes "y" ∷ codes "z" ∷ codes "main" ∷ codes "m" ∷ [])

-- ---- the laws

pub record NamesOrderWorked : Type 0 where
  pub one_is_refused : OneIsRefused
  pub unknown_first_refused : IsRefusedAt unknown_first NameUnknown (at 1 15)
  pub twice_next_refused : IsRefusedAt twice_next NameTwice (at 2 5)
  pub defined_next_refused : IsRefusedAt defined_next DefinedTwice (at 1 73)
  pub undefined_next_refused : IsRefusedAt undefined_next Undefined (at 2 48)
  pub arity_next_refused : IsRefusedAt arity_next Arity (at 2 72)
  pub branch_next_refused : IsRefusedAt branch_next Branch (at 1 58)
  pub main_next_refused : IsRefusedAt main_next Main (at 1 1)
  pub first_place_refused : IsRefusedAt first_place NameUnknown (at 1 51)
