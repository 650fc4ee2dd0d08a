-- Worked programs of the rule of initialisation: equations, and variables that are anchored or surely defined.
use Rattle.std.specs.Prelude.{true, [], ◌∷◌, Some, None, codes}
use Rattle.zl_value.specs.declared.value.Ty.TheVariants.{Bool, Int, Float}
use Rattle.zl_ast.specs.declared.operator.Infix.TheVariants.{MinusDot}
use Rattle.zl_ast.specs.declared.program.DeclKind.TheVariants.{Function, Node, Hybrid}
use Rattle.zl_ast.specs.declared.program.Program.{Program}
use Rattle.zl_ast.specs.Equations.{body, arm, state}
use Rattle.zl_ast.specs.WorkedTrees.{at, name, int, float, bool, var, last, call, before, op, chain, arrow, plain, plains, init, up, event, test, becomes, der, present, automaton, reset, until_then, unless_then, param, declared, program}
use Rattle.zl_ast.specs.Verdicts.{KeepsInit, BreaksInit}

-- ---- in an arm in hybrid context `last` is early of what isn't declared inside the arm

-- let hybrid f() = y where x = 0 and init y = 0 and present up(1.0) -> do present (true) -> do y = last x done done
-- also in an arm inside
abbrev pub last_in_arm : Program
last_in_arm =
    program
    (declared Hybrid (name 0 1 12) [] (var 1 1 18 ∷ [])
    (plain (name 2 1 26) (int 0 1 30)
    ∷ init 1 36 (name 1 1 41) (int 0 1 45)
    ∷ present 1 51
    (arm (event (up 1 59 (float 1 1 62) ∷ []))
    (body []
    (present 1 73
    (arm (test 1 81 (bool true 1 82))
    (body [] (plain (name 1 1 94) (last 1 98 (name 2 1 103)) ∷ []))
    ∷ [])
    None
    ∷ []))
    ∷ [])
    None
    ∷ [])
    ∷ [])
    (codes "f" ∷ codes "y" ∷ codes "x" ∷ [])

-- let hybrid f() = y where init y = 0
--   and automaton A -> local z in do z = 1 and present up(1.0) -> do y = last z done done
-- a local of a state around the arm isn't declared inside it
abbrev pub last_of_outer_local : Program
last_of_outer_local =
    program
    (declared Hybrid (name 0 1 12) [] (var 1 1 18 ∷ [])
    (init 1 26 (name 1 1 31) (int 0 1 35)
    ∷ automaton 2 7
    (state (name 2 2 17)
    (body (name 3 2 28 ∷ [])
    (plain (name 3 2 36) (int 1 2 40)
    ∷ present 2 46
    (arm (event (up 2 54 (float 1 2 57) ∷ []))
    (body [] (plain (name 1 2 68) (last 2 72 (name 3 2 77)) ∷ []))
    ∷ [])
    None
    ∷ []))
    []
    ∷ [])
    ∷ [])
    ∷ [])
    (codes "f" ∷ codes "y" ∷ codes "A" ∷ codes "z" ∷ [])

-- let hybrid f() = y where init y = 0 and present up(1.0) -> local z in do z = 1 and y = last z done
abbrev pub last_of_inner_local : Program
last_of_inner_local =
    program
    (declared Hybrid (name 0 1 12) [] (var 1 1 18 ∷ [])
    (init 1 26 (name 1 1 31) (int 0 1 35)
    ∷ present 1 41
    (arm (event (up 1 49 (float 1 1 52) ∷ []))
    (body (name 2 1 66 ∷ [])
    (plain (name 2 1 74) (int 1 1 78) ∷ plain (name 1 1 84) (last 1 88 (name 2 1 93)) ∷ []))
    ∷ [])
    None
    ∷ [])
    ∷ [])
    (codes "f" ∷ codes "y" ∷ codes "z" ∷ [])

-- let node f(b : bool) = y where x = 0 and init y = 0 and present (b) -> do y = last x done
-- not so in an arm of a node
abbrev pub last_in_node_arm : Program
last_in_node_arm =
    program
    (declared Node (name 0 1 10) (param (name 1 1 12) (Some Bool) ∷ []) (var 2 1 24 ∷ [])
    (plain (name 3 1 32) (int 0 1 36)
    ∷ init 1 42 (name 2 1 47) (int 0 1 51)
    ∷ present 1 57
    (arm (test 1 65 (var 1 1 66)) (body [] (plain (name 2 1 75) (last 1 79 (name 3 1 84)) ∷ [])) ∷ [])
    None
    ∷ [])
    ∷ [])
    (codes "f" ∷ codes "b" ∷ codes "y" ∷ codes "x" ∷ [])

-- ---- in a reset value `last` is early, and in the `init` of a derivative it isn't

-- let hybrid f() = x where y = 1.0 and der x = 1.0 init 0.0 reset up(x -. 1.0) -> last y
abbrev pub last_in_reset_value : Program
last_in_reset_value =
    program
    (declared Hybrid (name 0 1 12) [] (var 1 1 18 ∷ [])
    (plain (name 2 1 26) (float 1 1 30)
    ∷ der 1 38 (name 1 1 42) (float 1 1 46) (Some (float 0 1 55))
    (becomes (up 1 65 (chain (var 1 1 68) (op MinusDot 1 70 (float 1 1 73) ∷ [])) ∷ [])
    (last 1 81 (name 2 1 86))
    ∷ [])
    ∷ [])
    ∷ [])
    (codes "f" ∷ codes "x" ∷ codes "y" ∷ [])

-- let hybrid f() = x where y = 1.0 and der x = 1.0 init last y
abbrev pub last_in_start : Program
last_in_start =
    program
    (declared Hybrid (name 0 1 12) [] (var 1 1 18 ∷ [])
    (plain (name 2 1 26) (float 1 1 30)
    ∷ der 1 38 (name 1 1 42) (float 1 1 46) (Some (last 1 55 (name 2 1 60))) []
    ∷ [])
    ∷ [])
    (codes "f" ∷ codes "x" ∷ codes "y" ∷ [])

-- ---- in the list of the body that declares it a variable may be late, and in any other list the right side is early

-- let node f(a : int) = 0 -> x where x = pre a and automaton A -> local y in do y = pre a and z = 0 -> y done
abbrev pub late_in_own_list : Program
late_in_own_list =
    program
    (declared Node (name 0 1 10) (param (name 1 1 12) (Some Int) ∷ []) (arrow 1 25 (int 0 1 23) (var 2 1 28) ∷ [])
    (plain (name 2 1 36) (before 1 40 (var 1 1 44))
    ∷ automaton 1 50
    (state (name 3 1 60)
    (body (name 4 1 71 ∷ [])
    (plain (name 4 1 79) (before 1 83 (var 1 1 87))
    ∷ plain (name 5 1 93) (arrow 1 99 (int 0 1 97) (var 4 1 102))
    ∷ []))
    []
    ∷ [])
    ∷ [])
    ∷ [])
    (codes "f" ∷ codes "a" ∷ codes "x" ∷ codes "A" ∷ codes "y" ∷ codes "z" ∷ [])

-- let node f(a : int, b : bool) = 0 -> x where present (b) -> do x = pre a done else do x = 0 done
abbrev pub late_in_arm : Program
late_in_arm =
    program
    (declared Node (name 0 1 10) (param (name 1 1 12) (Some Int) ∷ param (name 2 1 21) (Some Bool) ∷ [])
    (arrow 1 35 (int 0 1 33) (var 3 1 38) ∷ [])
    (present 1 46
    (arm (test 1 54 (var 2 1 55)) (body [] (plain (name 3 1 64) (before 1 68 (var 1 1 72)) ∷ [])) ∷ [])
    (Some (body [] (plain (name 3 1 87) (int 0 1 91) ∷ [])))
    ∷ [])
    ∷ [])
    (codes "f" ∷ codes "a" ∷ codes "b" ∷ codes "x" ∷ [])

-- let node f(a : int, b : bool) = 0 -> x where present (b) -> do x = 0 done else do x = pre a done
abbrev pub late_in_else : Program
late_in_else =
    program
    (declared Node (name 0 1 10) (param (name 1 1 12) (Some Int) ∷ param (name 2 1 21) (Some Bool) ∷ [])
    (arrow 1 35 (int 0 1 33) (var 3 1 38) ∷ [])
    (present 1 46 (arm (test 1 54 (var 2 1 55)) (body [] (plain (name 3 1 64) (int 0 1 68) ∷ [])) ∷ [])
    (Some (body [] (plain (name 3 1 83) (before 1 87 (var 1 1 91)) ∷ [])))
    ∷ [])
    ∷ [])
    (codes "f" ∷ codes "a" ∷ codes "b" ∷ codes "x" ∷ [])

-- let node f(a : int) = 0 -> x where automaton A -> do x = pre a done
abbrev pub late_in_state : Program
late_in_state =
    program
    (declared Node (name 0 1 10) (param (name 1 1 12) (Some Int) ∷ []) (arrow 1 25 (int 0 1 23) (var 2 1 28) ∷ [])
    (automaton 1 36
    (state (name 3 1 46) (body [] (plain (name 2 1 54) (before 1 58 (var 1 1 62)) ∷ [])) [] ∷ [])
    ∷ [])
    ∷ [])
    (codes "f" ∷ codes "a" ∷ codes "x" ∷ codes "A" ∷ [])

-- let node f(a : int, b : bool) = 0 -> x where reset x = pre a every (b)
abbrev pub late_in_reset : Program
late_in_reset =
    program
    (declared Node (name 0 1 10) (param (name 1 1 12) (Some Int) ∷ param (name 2 1 21) (Some Bool) ∷ [])
    (arrow 1 35 (int 0 1 33) (var 3 1 38) ∷ [])
    (reset 1 46 (plain (name 3 1 52) (before 1 56 (var 1 1 60)) ∷ []) (test 1 68 (var 2 1 69)) ∷ [])
    ∷ [])
    (codes "f" ∷ codes "a" ∷ codes "b" ∷ codes "x" ∷ [])

-- let node f(a : int, b : bool) = a where
--   present (b) -> local y in do present (b) -> do y = pre a done else do y = 0 done done
abbrev pub late_local_in_arm : Program
late_local_in_arm =
    program
    (declared Node (name 0 1 10) (param (name 1 1 12) (Some Int) ∷ param (name 2 1 21) (Some Bool) ∷ [])
    (var 1 1 33 ∷ [])
    (present 2 3
    (arm (test 2 11 (var 2 2 12))
    (body (name 3 2 24 ∷ [])
    (present 2 32
    (arm (test 2 40 (var 2 2 41)) (body [] (plain (name 3 2 50) (before 2 54 (var 1 2 58)) ∷ []))
    ∷ [])
    (Some (body [] (plain (name 3 2 73) (int 0 2 77) ∷ [])))
    ∷ []))
    ∷ [])
    None
    ∷ [])
    ∷ [])
    (codes "f" ∷ codes "a" ∷ codes "b" ∷ codes "y" ∷ [])

-- ---- the value of an `init` is early

-- let node f(a : int) = x where init x = a
abbrev pub early_init : Program
early_init =
    program
    (declared Node (name 0 1 10) (param (name 1 1 12) (Some Int) ∷ []) (var 2 1 23 ∷ [])
    (init 1 31 (name 2 1 36) (var 1 1 40) ∷ [])
    ∷ [])
    (codes "f" ∷ codes "a" ∷ codes "x" ∷ [])

-- let node f(a : int) = x where y = pre a and init x = y
abbrev pub late_init : Program
late_init =
    program
    (declared Node (name 0 1 10) (param (name 1 1 12) (Some Int) ∷ []) (var 2 1 23 ∷ [])
    (plain (name 3 1 31) (before 1 35 (var 1 1 39)) ∷ init 1 45 (name 2 1 50) (var 3 1 54) ∷ [])
    ∷ [])
    (codes "f" ∷ codes "a" ∷ codes "x" ∷ codes "y" ∷ [])

-- ---- tests are early

-- let node f(b : bool) = b where present (b) -> do done
--   and automaton A -> do until (b) then A end and reset x = 1 every (b)
abbrev pub early_tests : Program
early_tests =
    program
    (declared Node (name 0 1 10) (param (name 1 1 12) (Some Bool) ∷ []) (var 1 1 24 ∷ [])
    (present 1 32 (arm (test 1 40 (var 1 1 41)) (body [] []) ∷ []) None
    ∷ automaton 2 7
    (state (name 2 2 17) (body [] []) (until_then 2 25 (test 2 31 (var 1 2 32)) (name 2 2 40) ∷ []) ∷ [])
    ∷ reset 2 50 (plain (name 3 2 56) (int 1 2 60) ∷ []) (test 2 68 (var 1 2 69))
    ∷ [])
    ∷ [])
    (codes "f" ∷ codes "b" ∷ codes "A" ∷ codes "x" ∷ [])

-- let node f(b : bool) = b where c = pre b and present (c) -> do done
abbrev pub late_present : Program
late_present =
    program
    (declared Node (name 0 1 10) (param (name 1 1 12) (Some Bool) ∷ []) (var 1 1 24 ∷ [])
    (plain (name 2 1 32) (before 1 36 (var 1 1 40))
    ∷ present 1 46 (arm (test 1 54 (var 2 1 55)) (body [] []) ∷ []) None
    ∷ [])
    ∷ [])
    (codes "f" ∷ codes "b" ∷ codes "c" ∷ [])

-- let node f(b : bool) = b where c = pre b and automaton A -> do until (c) then A
abbrev pub late_until : Program
late_until =
    program
    (declared Node (name 0 1 10) (param (name 1 1 12) (Some Bool) ∷ []) (var 1 1 24 ∷ [])
    (plain (name 2 1 32) (before 1 36 (var 1 1 40))
    ∷ automaton 1 46
    (state (name 3 1 56) (body [] []) (until_then 1 64 (test 1 70 (var 2 1 71)) (name 3 1 79) ∷ []) ∷ [])
    ∷ [])
    ∷ [])
    (codes "f" ∷ codes "b" ∷ codes "c" ∷ codes "A" ∷ [])

-- let node f(b : bool) = b where c = pre b and automaton A -> do unless (c) then A
abbrev pub late_unless : Program
late_unless =
    program
    (declared Node (name 0 1 10) (param (name 1 1 12) (Some Bool) ∷ []) (var 1 1 24 ∷ [])
    (plain (name 2 1 32) (before 1 36 (var 1 1 40))
    ∷ automaton 1 46
    (state (name 3 1 56) (body [] []) (unless_then 1 64 (test 1 71 (var 2 1 72)) (name 3 1 80) ∷ []) ∷ [])
    ∷ [])
    ∷ [])
    (codes "f" ∷ codes "b" ∷ codes "c" ∷ codes "A" ∷ [])

-- let node f(b : bool) = b where c = pre b and reset x = 1 every (c)
abbrev pub late_every : Program
late_every =
    program
    (declared Node (name 0 1 10) (param (name 1 1 12) (Some Bool) ∷ []) (var 1 1 24 ∷ [])
    (plain (name 2 1 32) (before 1 36 (var 1 1 40))
    ∷ reset 1 46 (plain (name 3 1 52) (int 1 1 56) ∷ []) (test 1 64 (var 2 1 65))
    ∷ [])
    ∷ [])
    (codes "f" ∷ codes "b" ∷ codes "c" ∷ codes "x" ∷ [])

-- ---- derivatives, their `init` and reset values and the arguments of `up` are early

-- let hybrid f(a : float) = x where der x = a init a reset up(a) -> a
abbrev pub early_derivative : Program
early_derivative =
    program
    (declared Hybrid (name 0 1 12) (param (name 1 1 14) (Some Float) ∷ []) (var 2 1 27 ∷ [])
    (der 1 35 (name 2 1 39) (var 1 1 43) (Some (var 1 1 50))
    (becomes (up 1 58 (var 1 1 61) ∷ []) (var 1 1 67) ∷ [])
    ∷ [])
    ∷ [])
    (codes "f" ∷ codes "a" ∷ codes "x" ∷ [])

-- let hybrid f(a : float) = 1 where y = pre a and der x = y init 0.0
abbrev pub late_slope : Program
late_slope =
    program
    (declared Hybrid (name 0 1 12) (param (name 1 1 14) (Some Float) ∷ []) (int 1 1 27 ∷ [])
    (plain (name 2 1 35) (before 1 39 (var 1 1 43))
    ∷ der 1 49 (name 3 1 53) (var 2 1 57) (Some (float 0 1 64)) []
    ∷ [])
    ∷ [])
    (codes "f" ∷ codes "a" ∷ codes "y" ∷ codes "x" ∷ [])

-- let hybrid f(a : float) = 1 where y = pre a and der x = 1.0 init y
abbrev pub late_start : Program
late_start =
    program
    (declared Hybrid (name 0 1 12) (param (name 1 1 14) (Some Float) ∷ []) (int 1 1 27 ∷ [])
    (plain (name 2 1 35) (before 1 39 (var 1 1 43))
    ∷ der 1 49 (name 3 1 53) (float 1 1 57) (Some (var 2 1 66)) []
    ∷ [])
    ∷ [])
    (codes "f" ∷ codes "a" ∷ codes "y" ∷ codes "x" ∷ [])

-- let hybrid f(a : float) = 1 where y = pre a and der x = 1.0 init 0.0 reset up(a) -> y
abbrev pub late_reset_value : Program
late_reset_value =
    program
    (declared Hybrid (name 0 1 12) (param (name 1 1 14) (Some Float) ∷ []) (int 1 1 27 ∷ [])
    (plain (name 2 1 35) (before 1 39 (var 1 1 43))
    ∷ der 1 49 (name 3 1 53) (float 1 1 57) (Some (float 0 1 66))
    (becomes (up 1 76 (var 1 1 79) ∷ []) (var 2 1 85) ∷ [])
    ∷ [])
    ∷ [])
    (codes "f" ∷ codes "a" ∷ codes "y" ∷ codes "x" ∷ [])

-- let hybrid f(a : float) = 1 where y = pre a and der x = 1.0 init 0.0 reset up(y) -> a
abbrev pub late_reset_up : Program
late_reset_up =
    program
    (declared Hybrid (name 0 1 12) (param (name 1 1 14) (Some Float) ∷ []) (int 1 1 27 ∷ [])
    (plain (name 2 1 35) (before 1 39 (var 1 1 43))
    ∷ der 1 49 (name 3 1 53) (float 1 1 57) (Some (float 0 1 66))
    (becomes (up 1 76 (var 2 1 79) ∷ []) (var 1 1 85) ∷ [])
    ∷ [])
    ∷ [])
    (codes "f" ∷ codes "a" ∷ codes "y" ∷ codes "x" ∷ [])

-- let hybrid f(a : float) = 1 where y = pre a and present up(y) -> do done
abbrev pub late_up : Program
late_up =
    program
    (declared Hybrid (name 0 1 12) (param (name 1 1 14) (Some Float) ∷ []) (int 1 1 27 ∷ [])
    (plain (name 2 1 35) (before 1 39 (var 1 1 43))
    ∷ present 1 49 (arm (event (up 1 57 (var 2 1 60) ∷ [])) (body [] []) ∷ []) None
    ∷ [])
    ∷ [])
    (codes "f" ∷ codes "a" ∷ codes "y" ∷ [])

-- ---- a variable is anchored or surely defined, and so is a local

-- let node f(b : bool) = z where init x = 0
--   and automaton A -> do y = 1 until (b) then B | B -> do y = 2 done end and reset z = y every (b)
-- by an `init`, by each state of an automaton, by a `reset` block
abbrev pub settled : Program
settled =
    program
    (declared Node (name 0 1 10) (param (name 1 1 12) (Some Bool) ∷ []) (var 2 1 24 ∷ [])
    (init 1 32 (name 3 1 37) (int 0 1 41)
    ∷ automaton 2 7
    (state (name 4 2 17) (body [] (plain (name 5 2 25) (int 1 2 29) ∷ []))
    (until_then 2 31 (test 2 37 (var 1 2 38)) (name 6 2 46) ∷ [])
    ∷ state (name 6 2 50) (body [] (plain (name 5 2 58) (int 2 2 62) ∷ [])) []
    ∷ [])
    ∷ reset 2 77 (plain (name 2 2 83) (var 5 2 87) ∷ []) (test 2 95 (var 1 2 96))
    ∷ [])
    ∷ [])
    (codes "f" ∷ codes "b" ∷ codes "z" ∷ codes "x" ∷ codes "A" ∷ codes "y" ∷ codes "B" ∷ [])

-- let node f(b : bool) = x where present (b) -> do x = 1 done else do x = 2 done
-- by all bodies of a `present` with `else`
abbrev pub settled_by_else : Program
settled_by_else =
    program
    (declared Node (name 0 1 10) (param (name 1 1 12) (Some Bool) ∷ []) (var 2 1 24 ∷ [])
    (present 1 32 (arm (test 1 40 (var 1 1 41)) (body [] (plain (name 2 1 50) (int 1 1 54) ∷ [])) ∷ [])
    (Some (body [] (plain (name 2 1 69) (int 2 1 73) ∷ [])))
    ∷ [])
    ∷ [])
    (codes "f" ∷ codes "b" ∷ codes "x" ∷ [])

-- let h(a : int) = (a, b) where b = a
-- let node f(c : bool) = y where present (c) -> do (x, y) = h(1) done else do (y, x) = h(2) done
-- by an equation with several names
abbrev pub settled_by_names : Program
settled_by_names =
    program
    (declared Function (name 0 1 5) (param (name 1 1 7) (Some Int) ∷ []) (var 1 1 19 ∷ var 2 1 22 ∷ [])
    (plain (name 2 1 31) (var 1 1 35) ∷ [])
    ∷ declared Node (name 3 2 10) (param (name 4 2 12) (Some Bool) ∷ []) (var 5 2 24 ∷ [])
    (present 2 32
    (arm (test 2 40 (var 4 2 41))
    (body [] (plains (name 6 2 51 ∷ name 5 2 54 ∷ []) (call (name 0 2 59) (int 1 2 61 ∷ [])) ∷ []))
    ∷ [])
    (Some (body [] (plains (name 5 2 78 ∷ name 6 2 81 ∷ []) (call (name 0 2 86) (int 2 2 88 ∷ [])) ∷ [])))
    ∷ [])
    ∷ [])
    (codes "h" ∷ codes "a" ∷ codes "b" ∷ codes "f" ∷ codes "c" ∷ codes "y" ∷ codes "x" ∷ [])

-- let hybrid f() = x where automaton A -> do der x = 1.0 init 0.0 until up(x -. 1.0) then B | B -> do x = 1.0 done
-- by a derivative with `init`
abbrev pub settled_by_starts : Program
settled_by_starts =
    program
    (declared Hybrid (name 0 1 12) [] (var 1 1 18 ∷ [])
    (automaton 1 26
    (state (name 2 1 36) (body [] (der 1 44 (name 1 1 48) (float 1 1 52) (Some (float 0 1 61)) [] ∷ []))
    (until_then 1 65 (event (up 1 71 (chain (var 1 1 74) (op MinusDot 1 76 (float 1 1 79) ∷ [])) ∷ []))
    (name 3 1 89)
    ∷ [])
    ∷ state (name 3 1 93) (body [] (plain (name 1 1 101) (float 1 1 105) ∷ [])) []
    ∷ [])
    ∷ [])
    ∷ [])
    (codes "f" ∷ codes "x" ∷ codes "A" ∷ codes "B" ∷ [])

-- let node f(b : bool) = b where present (b) -> do x = 1 done
abbrev pub without_else : Program
without_else =
    program
    (declared Node (name 0 1 10) (param (name 1 1 12) (Some Bool) ∷ []) (var 1 1 24 ∷ [])
    (present 1 32 (arm (test 1 40 (var 1 1 41)) (body [] (plain (name 2 1 50) (int 1 1 54) ∷ [])) ∷ []) None
    ∷ [])
    ∷ [])
    (codes "f" ∷ codes "b" ∷ codes "x" ∷ [])

-- let node f(b : bool) = b where present (b) -> do x = 1 done | (b) -> do done else do x = 2 done
abbrev pub not_in_all_arms : Program
not_in_all_arms =
    program
    (declared Node (name 0 1 10) (param (name 1 1 12) (Some Bool) ∷ []) (var 1 1 24 ∷ [])
    (present 1 32
    (arm (test 1 40 (var 1 1 41)) (body [] (plain (name 2 1 50) (int 1 1 54) ∷ []))
    ∷ arm (test 1 63 (var 1 1 64)) (body [] [])
    ∷ [])
    (Some (body [] (plain (name 2 1 86) (int 2 1 90) ∷ [])))
    ∷ [])
    ∷ [])
    (codes "f" ∷ codes "b" ∷ codes "x" ∷ [])

-- let node f(b : bool) = b where present (b) -> do x = 1 done else do done
abbrev pub not_in_else : Program
not_in_else =
    program
    (declared Node (name 0 1 10) (param (name 1 1 12) (Some Bool) ∷ []) (var 1 1 24 ∷ [])
    (present 1 32 (arm (test 1 40 (var 1 1 41)) (body [] (plain (name 2 1 50) (int 1 1 54) ∷ [])) ∷ [])
    (Some (body [] []))
    ∷ [])
    ∷ [])
    (codes "f" ∷ codes "b" ∷ codes "x" ∷ [])

-- let node f(b : bool) = b where automaton A -> do x = 1 until (b) then B | B -> do done
abbrev pub not_in_all_states : Program
not_in_all_states =
    program
    (declared Node (name 0 1 10) (param (name 1 1 12) (Some Bool) ∷ []) (var 1 1 24 ∷ [])
    (automaton 1 32
    (state (name 2 1 42) (body [] (plain (name 3 1 50) (int 1 1 54) ∷ []))
    (until_then 1 56 (test 1 62 (var 1 1 63)) (name 4 1 71) ∷ [])
    ∷ state (name 4 1 75) (body [] []) []
    ∷ [])
    ∷ [])
    ∷ [])
    (codes "f" ∷ codes "b" ∷ codes "A" ∷ codes "x" ∷ codes "B" ∷ [])

-- let h(a : int) = (a, b) where b = a
-- let node f(c : bool) = c where automaton A -> do (x, y) = h(1) until (c) then B | B -> do x = 1 done
-- also the second of two names
abbrev pub second_name_unsettled : Program
second_name_unsettled =
    program
    (declared Function (name 0 1 5) (param (name 1 1 7) (Some Int) ∷ []) (var 1 1 19 ∷ var 2 1 22 ∷ [])
    (plain (name 2 1 31) (var 1 1 35) ∷ [])
    ∷ declared Node (name 3 2 10) (param (name 4 2 12) (Some Bool) ∷ []) (var 4 2 24 ∷ [])
    (automaton 2 32
    (state (name 5 2 42)
    (body [] (plains (name 6 2 51 ∷ name 7 2 54 ∷ []) (call (name 0 2 59) (int 1 2 61 ∷ [])) ∷ []))
    (until_then 2 64 (test 2 70 (var 4 2 71)) (name 8 2 79) ∷ [])
    ∷ state (name 8 2 83) (body [] (plain (name 6 2 91) (int 1 2 95) ∷ [])) []
    ∷ [])
    ∷ [])
    ∷ [])
    (codes "h"
    ∷ codes "a"
    ∷ codes "b"
    ∷ codes "f"
    ∷ codes "c"
    ∷ codes "A"
    ∷ codes "x"
    ∷ codes "y"
    ∷ codes "B"
    ∷ [])

-- let hybrid f() = 1 where der x = 1.0
abbrev pub derivative_without_start : Program
derivative_without_start =
    program
    (declared Hybrid (name 0 1 12) [] (int 1 1 18 ∷ []) (der 1 26 (name 1 1 30) (float 1 1 34) None [] ∷ []) ∷ [])
    (codes "f" ∷ codes "x" ∷ [])

-- let node f(b : bool) = b where present (b) -> local y in do present (b) -> do y = 1 done done
abbrev pub local_unsettled : Program
local_unsettled =
    program
    (declared Node (name 0 1 10) (param (name 1 1 12) (Some Bool) ∷ []) (var 1 1 24 ∷ [])
    (present 1 32
    (arm (test 1 40 (var 1 1 41))
    (body (name 2 1 53 ∷ [])
    (present 1 61
    (arm (test 1 69 (var 1 1 70)) (body [] (plain (name 2 1 79) (int 1 1 83) ∷ [])) ∷ []) None
    ∷ []))
    ∷ [])
    None
    ∷ [])
    ∷ [])
    (codes "f" ∷ codes "b" ∷ codes "y" ∷ [])

-- ---- the laws

pub record EquationLevelsWorked : Type 0 where
  pub last_in_arm_keeps : KeepsInit last_in_arm
  pub last_of_outer_local_keeps : KeepsInit last_of_outer_local
  pub last_of_inner_local_breaks : BreaksInit (at 1 88) last_of_inner_local
  pub last_in_node_arm_breaks : BreaksInit (at 1 79) last_in_node_arm
  pub last_in_reset_value_keeps : KeepsInit last_in_reset_value
  pub last_in_start_breaks : BreaksInit (at 1 55) last_in_start
  pub late_in_own_list_keeps : KeepsInit late_in_own_list
  pub late_in_arm_breaks : BreaksInit (at 1 68) late_in_arm
  pub late_in_else_breaks : BreaksInit (at 1 87) late_in_else
  pub late_in_state_breaks : BreaksInit (at 1 58) late_in_state
  pub late_in_reset_breaks : BreaksInit (at 1 56) late_in_reset
  pub late_local_in_arm_breaks : BreaksInit (at 2 54) late_local_in_arm
  pub early_init_keeps : KeepsInit early_init
  pub late_init_breaks : BreaksInit (at 1 54) late_init
  pub early_tests_keeps : KeepsInit early_tests
  pub late_present_breaks : BreaksInit (at 1 55) late_present
  pub late_until_breaks : BreaksInit (at 1 71) late_until
  pub late_unless_breaks : BreaksInit (at 1 72) late_unless
  pub late_every_breaks : BreaksInit (at 1 65) late_every
  pub early_derivative_keeps : KeepsInit early_derivative
  pub late_slope_breaks : BreaksInit (at 1 57) late_slope
  pub late_start_breaks : BreaksInit (at 1 66) late_start
  pub late_reset_value_breaks : BreaksInit (at 1 85) late_reset_value
  pub late_reset_up_breaks : BreaksInit (at 1 79) late_reset_up
  pub late_up_breaks : BreaksInit (at 1 60) late_up
  pub settled_keeps : KeepsInit settled
  pub settled_by_else_keeps : KeepsInit settled_by_else
  pub settled_by_names_keeps : KeepsInit settled_by_names
  pub settled_by_starts_keeps : KeepsInit settled_by_starts
  pub without_else_breaks : BreaksInit (at 1 50) without_else
  pub not_in_all_arms_breaks : BreaksInit (at 1 50) not_in_all_arms
  pub not_in_else_breaks : BreaksInit (at 1 50) not_in_else
  pub not_in_all_states_breaks : BreaksInit (at 1 50) not_in_all_states
  pub second_name_unsettled_breaks : BreaksInit (at 2 54) second_name_unsettled
  pub derivative_without_start_breaks : BreaksInit (at 1 30) derivative_without_start
  pub local_unsettled_breaks : BreaksInit (at 1 53) local_unsettled
