-- Worked programs of the rules of names: which names are known, and which may be given twice.
use Rattle.std.specs.Prelude.{[], ◌∷◌, Some, None, codes}
use Rattle.zl_value.specs.declared.value.Ty.TheVariants.{Int}
use Rattle.zl_value.specs.declared.rule.Rule.TheVariants.{NameUnknown, NameTwice, DefinedTwice}
use Rattle.zl_ast.specs.declared.program.DeclKind.TheVariants.{Function, Node, Hybrid}
use Rattle.zl_ast.specs.declared.program.Program.{Program}
use Rattle.zl_ast.specs.Equations.{body, arm, state}
use Rattle.zl_ast.specs.WorkedTrees.{at, name, int, var, last, call, plain, init, test, present, automaton, until_then, unless_then, constant, param, declared, least_main, program}
use Rattle.zl_ast.specs.Verdicts.{KeepsNames, BreaksNames}

-- ---- a variable is visible in the whole declaration, before its equation too

-- let hybrid main() = x where x = y and y = 1
abbrev pub read_before : Program
read_before =
    program
    (declared Hybrid (name 0 1 12) [] (var 1 1 21 ∷ [])
    (plain (name 1 1 29) (var 2 1 33) ∷ plain (name 2 1 39) (int 1 1 43) ∷ [])
    ∷ [])
    (codes "main" ∷ codes "x" ∷ codes "y" ∷ [])

-- let hybrid main() = x where x = y
abbrev pub read_unknown : Program
read_unknown =
    program (declared Hybrid (name 0 1 12) [] (var 1 1 21 ∷ []) (plain (name 1 1 29) (var 2 1 33) ∷ []) ∷ [])
    (codes "main" ∷ codes "x" ∷ codes "y" ∷ [])

-- let hybrid main() = x where x = last y
-- `last` reads a variable
abbrev pub last_unknown : Program
last_unknown =
    program
    (declared Hybrid (name 0 1 12) [] (var 1 1 21 ∷ []) (plain (name 1 1 29) (last 1 33 (name 2 1 38)) ∷ []) ∷ [])
    (codes "main" ∷ codes "x" ∷ codes "y" ∷ [])

-- ---- a constant is visible behind its declaration, and only there

-- let k = 1
-- let hybrid main() = x where x = k
abbrev pub constant_behind : Program
constant_behind =
    program
    (constant (name 0 1 5) (int 1 1 9)
    ∷ declared Hybrid (name 1 2 12) [] (var 2 2 21 ∷ []) (plain (name 2 2 29) (var 0 2 33) ∷ [])
    ∷ [])
    (codes "k" ∷ codes "main" ∷ codes "x" ∷ [])

-- let hybrid main() = x where x = k
-- let k = 1
abbrev pub constant_before : Program
constant_before =
    program
    (declared Hybrid (name 0 1 12) [] (var 1 1 21 ∷ []) (plain (name 1 1 29) (var 2 1 33) ∷ [])
    ∷ constant (name 2 2 5) (int 1 2 9)
    ∷ [])
    (codes "main" ∷ codes "x" ∷ codes "k" ∷ [])

-- let k = 1
-- let hybrid main() = x where x = last k
-- a constant has no `last`, and the refusal stands at the name
abbrev pub last_of_constant : Program
last_of_constant =
    program
    (constant (name 0 1 5) (int 1 1 9)
    ∷ declared Hybrid (name 1 2 12) [] (var 2 2 21 ∷ []) (plain (name 2 2 29) (last 2 33 (name 0 2 38)) ∷ [])
    ∷ [])
    (codes "k" ∷ codes "main" ∷ codes "x" ∷ [])

-- ---- a called name is a function, a node or a hybrid declaration declared before

-- let f(a) = a
-- let hybrid main() = x where x = f(1)
abbrev pub call_behind : Program
call_behind =
    program
    (declared Function (name 0 1 5) (param (name 1 1 7) None ∷ []) (var 1 1 12 ∷ []) []
    ∷ declared Hybrid (name 2 2 12) [] (var 3 2 21 ∷ [])
    (plain (name 3 2 29) (call (name 0 2 33) (int 1 2 35 ∷ [])) ∷ [])
    ∷ [])
    (codes "f" ∷ codes "a" ∷ codes "main" ∷ codes "x" ∷ [])

-- let hybrid main() = x where x = f(1)
-- let f(a) = a
abbrev pub call_before : Program
call_before =
    program
    (declared Hybrid (name 0 1 12) [] (var 1 1 21 ∷ [])
    (plain (name 1 1 29) (call (name 2 1 33) (int 1 1 35 ∷ [])) ∷ [])
    ∷ declared Function (name 2 2 5) (param (name 3 2 7) None ∷ []) (var 3 2 12 ∷ []) []
    ∷ [])
    (codes "main" ∷ codes "x" ∷ codes "f" ∷ codes "a" ∷ [])

-- let f(a) = f(a)
-- let hybrid main() = m where m = 1
-- a declaration can't call itself
abbrev pub call_inside : Program
call_inside =
    program
    (declared Function (name 0 1 5) (param (name 1 1 7) None ∷ []) (call (name 0 1 12) (var 1 1 14 ∷ []) ∷ []) []
    ∷ least_main 2 2
    ∷ [])
    (codes "f" ∷ codes "a" ∷ codes "main" ∷ codes "m" ∷ [])

-- let f(a) = a(1)
-- let hybrid main() = m where m = 1
-- a variable is no function
abbrev pub call_of_variable : Program
call_of_variable =
    program
    (declared Function (name 0 1 5) (param (name 1 1 7) None ∷ []) (call (name 1 1 12) (int 1 1 14 ∷ []) ∷ []) []
    ∷ least_main 2 2
    ∷ [])
    (codes "f" ∷ codes "a" ∷ codes "main" ∷ codes "m" ∷ [])

-- let k = 1
-- let f(a) = k(a)
-- let hybrid main() = m where m = 1
-- nor is a constant
abbrev pub call_of_constant : Program
call_of_constant =
    program
    (constant (name 0 1 5) (int 1 1 9)
    ∷ declared Function (name 1 2 5) (param (name 2 2 7) None ∷ []) (call (name 0 2 12) (var 2 2 14 ∷ []) ∷ [])
    []
    ∷ least_main 3 3
    ∷ [])
    (codes "k" ∷ codes "f" ∷ codes "a" ∷ codes "main" ∷ codes "m" ∷ [])

-- let f(a) = a
-- let g(a) = f
-- let hybrid main() = m where m = 1
-- and a function is no value
abbrev pub function_read : Program
function_read =
    program
    (declared Function (name 0 1 5) (param (name 1 1 7) None ∷ []) (var 1 1 12 ∷ []) []
    ∷ declared Function (name 2 2 5) (param (name 1 2 7) None ∷ []) (var 0 2 12 ∷ []) []
    ∷ least_main 3 3
    ∷ [])
    (codes "f" ∷ codes "a" ∷ codes "g" ∷ codes "main" ∷ codes "m" ∷ [])

-- ---- `float_of_int` and `truncate` are functions of every program

-- let f(a) = truncate(float_of_int(a))
-- let hybrid main() = m where m = 1
abbrev pub built_in_called : Program
built_in_called =
    program
    (declared Function (name 0 1 5) (param (name 1 1 7) None ∷ [])
    (call (name 2 1 12) (call (name 3 1 21) (var 1 1 34 ∷ []) ∷ []) ∷ []) []
    ∷ least_main 4 2
    ∷ [])
    (codes "f" ∷ codes "a" ∷ codes "truncate" ∷ codes "float_of_int" ∷ codes "main" ∷ codes "m" ∷ [])

-- let f(a) = truncate
-- let hybrid main() = m where m = 1
-- and no values
abbrev pub built_in_read : Program
built_in_read =
    program
    (declared Function (name 0 1 5) (param (name 1 1 7) None ∷ []) (var 2 1 12 ∷ []) [] ∷ least_main 3 2 ∷ [])
    (codes "f" ∷ codes "a" ∷ codes "truncate" ∷ codes "main" ∷ codes "m" ∷ [])

-- ---- a local is visible in its body, and in the bodies inside

-- let node f(a) = a where present (a) -> local b in do b = a and present (b) -> do x = b done else do x = a done done else do x = a done
-- let hybrid main() = m where m = 1
abbrev pub local_inside : Program
local_inside =
    program
    (declared Node (name 0 1 10) (param (name 1 1 12) None ∷ []) (var 1 1 17 ∷ [])
    (present 1 25
    (arm (test 1 33 (var 1 1 34))
    (body (name 2 1 46 ∷ [])
    (plain (name 2 1 54) (var 1 1 58)
    ∷ present 1 64
    (arm (test 1 72 (var 2 1 73)) (body [] (plain (name 3 1 82) (var 2 1 86) ∷ [])) ∷ [])
    (Some (body [] (plain (name 3 1 101) (var 1 1 105) ∷ [])))
    ∷ []))
    ∷ [])
    (Some (body [] (plain (name 3 1 125) (var 1 1 129) ∷ [])))
    ∷ [])
    ∷ least_main 4 2
    ∷ [])
    (codes "f" ∷ codes "a" ∷ codes "b" ∷ codes "x" ∷ codes "main" ∷ codes "m" ∷ [])

-- let node f(a) = b where present (a) -> local b in do b = a done
-- let hybrid main() = m where m = 1
abbrev pub local_outside : Program
local_outside =
    program
    (declared Node (name 0 1 10) (param (name 1 1 12) None ∷ []) (var 2 1 17 ∷ [])
    (present 1 25
    (arm (test 1 33 (var 1 1 34)) (body (name 2 1 46 ∷ []) (plain (name 2 1 54) (var 1 1 58) ∷ [])) ∷ [])
    None
    ∷ [])
    ∷ least_main 3 2
    ∷ [])
    (codes "f" ∷ codes "a" ∷ codes "b" ∷ codes "main" ∷ codes "m" ∷ [])

-- let node f(a) = a where present (b) -> local b in do b = a done
-- let hybrid main() = m where m = 1
-- the test of an arm stands outside its body
abbrev pub local_in_its_test : Program
local_in_its_test =
    program
    (declared Node (name 0 1 10) (param (name 1 1 12) None ∷ []) (var 1 1 17 ∷ [])
    (present 1 25
    (arm (test 1 33 (var 2 1 34)) (body (name 2 1 46 ∷ []) (plain (name 2 1 54) (var 1 1 58) ∷ [])) ∷ [])
    None
    ∷ [])
    ∷ least_main 3 2
    ∷ [])
    (codes "f" ∷ codes "a" ∷ codes "b" ∷ codes "main" ∷ codes "m" ∷ [])

-- ---- a local of a state is visible in its `until` conditions, and not in its `unless` conditions

-- let node f(a) = a where automaton A -> local b in do b = a until (b) then A
-- let hybrid main() = m where m = 1
abbrev pub until_sees_local : Program
until_sees_local =
    program
    (declared Node (name 0 1 10) (param (name 1 1 12) None ∷ []) (var 1 1 17 ∷ [])
    (automaton 1 25
    (state (name 2 1 35) (body (name 3 1 46 ∷ []) (plain (name 3 1 54) (var 1 1 58) ∷ []))
    (until_then 1 60 (test 1 66 (var 3 1 67)) (name 2 1 75) ∷ [])
    ∷ [])
    ∷ [])
    ∷ least_main 4 2
    ∷ [])
    (codes "f" ∷ codes "a" ∷ codes "A" ∷ codes "b" ∷ codes "main" ∷ codes "m" ∷ [])

-- let node f(a) = a where automaton A -> local b in do b = a unless (b) then A
-- let hybrid main() = m where m = 1
abbrev pub unless_sees_none : Program
unless_sees_none =
    program
    (declared Node (name 0 1 10) (param (name 1 1 12) None ∷ []) (var 1 1 17 ∷ [])
    (automaton 1 25
    (state (name 2 1 35) (body (name 3 1 46 ∷ []) (plain (name 3 1 54) (var 1 1 58) ∷ []))
    (unless_then 1 60 (test 1 67 (var 3 1 68)) (name 2 1 76) ∷ [])
    ∷ [])
    ∷ [])
    ∷ least_main 4 2
    ∷ [])
    (codes "f" ∷ codes "a" ∷ codes "A" ∷ codes "b" ∷ codes "main" ∷ codes "m" ∷ [])

-- let node f(a) = a where automaton A -> local b in do b = a done | B -> do until (b) then A
-- let hybrid main() = m where m = 1
-- a condition of another state doesn't see it either
abbrev pub other_state_sees_none : Program
other_state_sees_none =
    program
    (declared Node (name 0 1 10) (param (name 1 1 12) None ∷ []) (var 1 1 17 ∷ [])
    (automaton 1 25
    (state (name 2 1 35) (body (name 3 1 46 ∷ []) (plain (name 3 1 54) (var 1 1 58) ∷ [])) []
    ∷ state (name 4 1 67) (body [] []) (until_then 1 75 (test 1 81 (var 3 1 82)) (name 2 1 90) ∷ [])
    ∷ [])
    ∷ [])
    ∷ least_main 5 2
    ∷ [])
    (codes "f" ∷ codes "a" ∷ codes "A" ∷ codes "b" ∷ codes "B" ∷ codes "main" ∷ codes "m" ∷ [])

-- ---- no two declarations have one name, and none that of a built-in function

-- let f(a : int) = a
-- let g(a : int) = a
-- let hybrid main() = m where m = 1
-- two declarations may have variables of one name
abbrev pub two_names : Program
two_names =
    program
    (declared Function (name 0 1 5) (param (name 1 1 7) (Some Int) ∷ []) (var 1 1 18 ∷ []) []
    ∷ declared Function (name 2 2 5) (param (name 1 2 7) (Some Int) ∷ []) (var 1 2 18 ∷ []) []
    ∷ least_main 3 3
    ∷ [])
    (codes "f" ∷ codes "a" ∷ codes "g" ∷ codes "main" ∷ codes "m" ∷ [])

-- let f(a) = a
-- let f(b) = b
-- let hybrid main() = m where m = 1
abbrev pub name_again : Program
name_again =
    program
    (declared Function (name 0 1 5) (param (name 1 1 7) None ∷ []) (var 1 1 12 ∷ []) []
    ∷ declared Function (name 0 2 5) (param (name 2 2 7) None ∷ []) (var 2 2 12 ∷ []) []
    ∷ least_main 3 3
    ∷ [])
    (codes "f" ∷ codes "a" ∷ codes "b" ∷ codes "main" ∷ codes "m" ∷ [])

-- let k = 1
-- let k(a) = a
-- let hybrid main() = m where m = 1
-- a constant's name counts too
abbrev pub constant_again : Program
constant_again =
    program
    (constant (name 0 1 5) (int 1 1 9)
    ∷ declared Function (name 0 2 5) (param (name 1 2 7) None ∷ []) (var 1 2 12 ∷ []) []
    ∷ least_main 2 3
    ∷ [])
    (codes "k" ∷ codes "a" ∷ codes "main" ∷ codes "m" ∷ [])

-- let truncate(a) = a
-- let hybrid main() = m where m = 1
abbrev pub built_in_again : Program
built_in_again =
    program
    (declared Function (name 0 1 5) (param (name 1 1 14) None ∷ []) (var 1 1 19 ∷ []) [] ∷ least_main 2 2 ∷ [])
    (codes "truncate" ∷ codes "a" ∷ codes "main" ∷ codes "m" ∷ [])

-- ---- no two variables of a declaration have one name, locals of all bodies included

-- let node f(a) = x where present (a) -> do x = 1 done else do x = 2 done
-- let hybrid main() = m where m = 1
-- a name that two arms define is one variable
abbrev pub defined_in_two_arms : Program
defined_in_two_arms =
    program
    (declared Node (name 0 1 10) (param (name 1 1 12) None ∷ []) (var 2 1 17 ∷ [])
    (present 1 25 (arm (test 1 33 (var 1 1 34)) (body [] (plain (name 2 1 43) (int 1 1 47) ∷ [])) ∷ [])
    (Some (body [] (plain (name 2 1 62) (int 2 1 66) ∷ [])))
    ∷ [])
    ∷ least_main 3 2
    ∷ [])
    (codes "f" ∷ codes "a" ∷ codes "x" ∷ codes "main" ∷ codes "m" ∷ [])

-- let f(a, a) = a
-- let hybrid main() = m where m = 1
abbrev pub two_parameters : Program
two_parameters =
    program
    (declared Function (name 0 1 5) (param (name 1 1 7) None ∷ param (name 1 1 10) None ∷ []) (var 1 1 15 ∷ []) []
    ∷ least_main 2 2
    ∷ [])
    (codes "f" ∷ codes "a" ∷ codes "main" ∷ codes "m" ∷ [])

-- let node f(a) = x where x = a and present (a) -> local x in do x = a done
-- let hybrid main() = m where m = 1
abbrev pub local_of_top : Program
local_of_top =
    program
    (declared Node (name 0 1 10) (param (name 1 1 12) None ∷ []) (var 2 1 17 ∷ [])
    (plain (name 2 1 25) (var 1 1 29)
    ∷ present 1 35
    (arm (test 1 43 (var 1 1 44)) (body (name 2 1 56 ∷ []) (plain (name 2 1 64) (var 1 1 68) ∷ [])) ∷ [])
    None
    ∷ [])
    ∷ least_main 3 2
    ∷ [])
    (codes "f" ∷ codes "a" ∷ codes "x" ∷ codes "main" ∷ codes "m" ∷ [])

-- let node f(a) = a where present (a) -> local b in do b = 1 done else local b in do b = 2 done
-- let hybrid main() = m where m = 1
-- also in two bodies that never run together
abbrev pub two_locals : Program
two_locals =
    program
    (declared Node (name 0 1 10) (param (name 1 1 12) None ∷ []) (var 1 1 17 ∷ [])
    (present 1 25
    (arm (test 1 33 (var 1 1 34)) (body (name 2 1 46 ∷ []) (plain (name 2 1 54) (int 1 1 58) ∷ [])) ∷ [])
    (Some (body (name 2 1 76 ∷ []) (plain (name 2 1 84) (int 2 1 88) ∷ [])))
    ∷ [])
    ∷ least_main 3 2
    ∷ [])
    (codes "f" ∷ codes "a" ∷ codes "b" ∷ codes "main" ∷ codes "m" ∷ [])

-- ---- no variable has the name of a constant declared before

-- let f(k : int) = k
-- let k = 1
-- let g(f : int) = f
-- let hybrid main() = m where m = 1
-- a constant declared later, and a function, may have it
abbrev pub constant_comes_later : Program
constant_comes_later =
    program
    (declared Function (name 0 1 5) (param (name 1 1 7) (Some Int) ∷ []) (var 1 1 18 ∷ []) []
    ∷ constant (name 1 2 5) (int 1 2 9)
    ∷ declared Function (name 2 3 5) (param (name 0 3 7) (Some Int) ∷ []) (var 0 3 18 ∷ []) []
    ∷ least_main 3 4
    ∷ [])
    (codes "f" ∷ codes "k" ∷ codes "g" ∷ codes "main" ∷ codes "m" ∷ [])

-- let k = 1
-- let f(k) = k
-- let hybrid main() = m where m = 1
abbrev pub constant_came_before : Program
constant_came_before =
    program
    (constant (name 0 1 5) (int 1 1 9)
    ∷ declared Function (name 1 2 5) (param (name 0 2 7) None ∷ []) (var 0 2 12 ∷ []) []
    ∷ least_main 2 3
    ∷ [])
    (codes "k" ∷ codes "f" ∷ codes "main" ∷ codes "m" ∷ [])

-- ---- a parameter isn't defined

-- let f(a : int) = x where x = a
-- let hybrid main() = m where m = 1
abbrev pub parameter_read : Program
parameter_read =
    program
    (declared Function (name 0 1 5) (param (name 1 1 7) (Some Int) ∷ []) (var 2 1 18 ∷ [])
    (plain (name 2 1 26) (var 1 1 30) ∷ [])
    ∷ least_main 3 2
    ∷ [])
    (codes "f" ∷ codes "a" ∷ codes "x" ∷ codes "main" ∷ codes "m" ∷ [])

-- let f(a) = a where a = 1
-- let hybrid main() = m where m = 1
-- the refusal stands at its first defining name
abbrev pub parameter_defined : Program
parameter_defined =
    program
    (declared Function (name 0 1 5) (param (name 1 1 7) None ∷ []) (var 1 1 12 ∷ [])
    (plain (name 1 1 20) (int 1 1 24) ∷ [])
    ∷ least_main 2 2
    ∷ [])
    (codes "f" ∷ codes "a" ∷ codes "main" ∷ codes "m" ∷ [])

-- let node f(a) = a where init a = 1
-- let hybrid main() = m where m = 1
-- an `init` defines too
abbrev pub parameter_started : Program
parameter_started =
    program
    (declared Node (name 0 1 10) (param (name 1 1 12) None ∷ []) (var 1 1 17 ∷ [])
    (init 1 25 (name 1 1 30) (int 1 1 34) ∷ [])
    ∷ least_main 2 2
    ∷ [])
    (codes "f" ∷ codes "a" ∷ codes "main" ∷ codes "m" ∷ [])

-- let node f(a, b) = a where present (b) -> do a = 1 done
-- let hybrid main() = m where m = 1
-- and so does an equation inside
abbrev pub parameter_in_arm : Program
parameter_in_arm =
    program
    (declared Node (name 0 1 10) (param (name 1 1 12) None ∷ param (name 2 1 15) None ∷ []) (var 1 1 20 ∷ [])
    (present 1 28 (arm (test 1 36 (var 2 1 37)) (body [] (plain (name 1 1 46) (int 1 1 50) ∷ [])) ∷ []) None
    ∷ [])
    ∷ least_main 3 2
    ∷ [])
    (codes "f" ∷ codes "a" ∷ codes "b" ∷ codes "main" ∷ codes "m" ∷ [])

-- ---- the laws

pub record ReadNamesWorked : Type 0 where
  pub read_before_keeps : KeepsNames read_before
  pub read_unknown_breaks : BreaksNames NameUnknown (at 1 33) read_unknown
  pub last_unknown_breaks : BreaksNames NameUnknown (at 1 38) last_unknown
  pub constant_behind_keeps : KeepsNames constant_behind
  pub constant_before_breaks : BreaksNames NameUnknown (at 1 33) constant_before
  pub last_of_constant_breaks : BreaksNames NameUnknown (at 2 38) last_of_constant
  pub call_behind_keeps : KeepsNames call_behind
  pub call_before_breaks : BreaksNames NameUnknown (at 1 33) call_before
  pub call_inside_breaks : BreaksNames NameUnknown (at 1 12) call_inside
  pub call_of_variable_breaks : BreaksNames NameUnknown (at 1 12) call_of_variable
  pub call_of_constant_breaks : BreaksNames NameUnknown (at 2 12) call_of_constant
  pub function_read_breaks : BreaksNames NameUnknown (at 2 12) function_read
  pub built_in_called_keeps : KeepsNames built_in_called
  pub built_in_read_breaks : BreaksNames NameUnknown (at 1 12) built_in_read
  pub local_inside_keeps : KeepsNames local_inside
  pub local_outside_breaks : BreaksNames NameUnknown (at 1 17) local_outside
  pub local_in_its_test_breaks : BreaksNames NameUnknown (at 1 34) local_in_its_test
  pub until_sees_local_keeps : KeepsNames until_sees_local
  pub unless_sees_none_breaks : BreaksNames NameUnknown (at 1 68) unless_sees_none
  pub other_state_sees_none_breaks : BreaksNames NameUnknown (at 1 82) other_state_sees_none
  pub two_names_keeps : KeepsNames two_names
  pub name_again_breaks : BreaksNames NameTwice (at 2 5) name_again
  pub constant_again_breaks : BreaksNames NameTwice (at 2 5) constant_again
  pub built_in_again_breaks : BreaksNames NameTwice (at 1 5) built_in_again
  pub defined_in_two_arms_keeps : KeepsNames defined_in_two_arms
  pub two_parameters_breaks : BreaksNames NameTwice (at 1 10) two_parameters
  pub local_of_top_breaks : BreaksNames NameTwice (at 1 56) local_of_top
  pub two_locals_breaks : BreaksNames NameTwice (at 1 76) two_locals
  pub constant_comes_later_keeps : KeepsNames constant_comes_later
  pub constant_came_before_breaks : BreaksNames NameTwice (at 2 7) constant_came_before
  pub parameter_read_keeps : KeepsNames parameter_read
  pub parameter_defined_breaks : BreaksNames DefinedTwice (at 1 20) parameter_defined
  pub parameter_started_breaks : BreaksNames DefinedTwice (at 1 30) parameter_started
  pub parameter_in_arm_breaks : BreaksNames DefinedTwice (at 1 46) parameter_in_arm
