-- Worked programs of the rule of contexts: equations.
use Rattle.std.specs.Prelude.{true, false, [], ◌∷◌, Some, None, codes}
use Rattle.zl_value.specs.declared.value.Ty.TheVariants.{Bool, Int}
use Rattle.zl_ast.specs.declared.operator.Infix.TheVariants.{MinusDot}
use Rattle.zl_ast.specs.declared.program.DeclKind.TheVariants.{Function, Node, Hybrid}
use Rattle.zl_ast.specs.declared.program.Program.{Program}
use Rattle.zl_ast.specs.Equations.{body, arm, state}
use Rattle.zl_ast.specs.WorkedTrees.{at, name, int, float, bool, var, last, call, before, op, chain, arrow, followed, plain, init, up, event, test, becomes, der, present, automaton, reset, until_then, unless_then, param, declared, program}
use Rattle.zl_ast.specs.Verdicts.{KeepsContexts, BreaksContexts}
use Rattle.zl_ast.specs.Kinds.{IsMisplacedAt}

-- ---- the `init` and the reset values of a derivative hold `last`, and the arguments of its `up` don't

-- let hybrid f() = x where init y = 0.0 and der x = 1.0 init last y reset up(x -. 1.0) -> last x
abbrev pub values_with_last : Program
values_with_last =
    program
    (declared Hybrid (name 0 1 12) [] (var 1 1 18 ∷ [])
    (init 1 26 (name 2 1 31) (float 0 1 35)
    ∷ der 1 43 (name 1 1 47) (float 1 1 51) (Some (last 1 60 (name 2 1 65)))
    (becomes (up 1 73 (chain (var 1 1 76) (op MinusDot 1 78 (float 1 1 81) ∷ [])) ∷ [])
    (last 1 89 (name 1 1 94))
    ∷ [])
    ∷ [])
    ∷ [])
    (codes "f" ∷ codes "x" ∷ codes "y" ∷ [])

-- let hybrid f() = x where der x = 1.0 init pre 1.0
abbrev pub start_with_pre : Program
start_with_pre =
    program
    (declared Hybrid (name 0 1 12) [] (var 1 1 18 ∷ [])
    (der 1 26 (name 1 1 30) (float 1 1 34) (Some (before 1 43 (float 1 1 47))) [] ∷ [])
    ∷ [])
    (codes "f" ∷ codes "x" ∷ [])

-- let hybrid h() = x where der x = 1.0 init 0.0
-- let hybrid f() = x where der x = 1.0 init h()
abbrev pub start_with_hybrid : Program
start_with_hybrid =
    program
    (declared Hybrid (name 0 1 12) [] (var 1 1 18 ∷ [])
    (der 1 26 (name 1 1 30) (float 1 1 34) (Some (float 0 1 43)) [] ∷ [])
    ∷ declared Hybrid (name 2 2 12) [] (var 1 2 18 ∷ [])
    (der 2 26 (name 1 2 30) (float 1 2 34) (Some (call (name 0 2 43) [])) [] ∷ [])
    ∷ [])
    (codes "h" ∷ codes "x" ∷ codes "f" ∷ [])

-- let hybrid f() = x where der x = 1.0 init 0.0 reset up(1.0) -> pre 1.0
abbrev pub reset_value_with_pre : Program
reset_value_with_pre =
    program
    (declared Hybrid (name 0 1 12) [] (var 1 1 18 ∷ [])
    (der 1 26 (name 1 1 30) (float 1 1 34) (Some (float 0 1 43))
    (becomes (up 1 53 (float 1 1 56) ∷ []) (before 1 64 (float 1 1 68)) ∷ [])
    ∷ [])
    ∷ [])
    (codes "f" ∷ codes "x" ∷ [])

-- let hybrid f() = x where der x = 1.0 init 0.0 reset up(last x) -> 0.0
abbrev pub reset_up_with_last : Program
reset_up_with_last =
    program
    (declared Hybrid (name 0 1 12) [] (var 1 1 18 ∷ [])
    (der 1 26 (name 1 1 30) (float 1 1 34) (Some (float 0 1 43))
    (becomes (up 1 53 (last 1 56 (name 1 1 61)) ∷ []) (float 0 1 67) ∷ [])
    ∷ [])
    ∷ [])
    (codes "f" ∷ codes "x" ∷ [])

-- ---- an `init` stands in discrete and in hybrid context, and its value holds `last`

-- let node f() = x where init x = 0 and init y = last x
-- let hybrid h() = x where init x = 0 and init y = last x
abbrev pub init_with_last : Program
init_with_last =
    program
    (declared Node (name 0 1 10) [] (var 1 1 16 ∷ [])
    (init 1 24 (name 1 1 29) (int 0 1 33) ∷ init 1 39 (name 2 1 44) (last 1 48 (name 1 1 53)) ∷ [])
    ∷ declared Hybrid (name 3 2 12) [] (var 1 2 18 ∷ [])
    (init 2 26 (name 1 2 31) (int 0 2 35) ∷ init 2 41 (name 2 2 46) (last 2 50 (name 1 2 55)) ∷ [])
    ∷ [])
    (codes "f" ∷ codes "x" ∷ codes "y" ∷ codes "h" ∷ [])

-- let f(a : int) = x where x = a and init x = a
abbrev pub init_in_function : Program
init_in_function =
    program
    (declared Function (name 0 1 5) (param (name 1 1 7) (Some Int) ∷ []) (var 2 1 18 ∷ [])
    (plain (name 2 1 26) (var 1 1 30) ∷ init 1 36 (name 2 1 41) (var 1 1 45) ∷ [])
    ∷ [])
    (codes "f" ∷ codes "a" ∷ codes "x" ∷ [])

-- let node f(a : int) = x where init x = pre a
abbrev pub init_with_pre : Program
init_with_pre =
    program
    (declared Node (name 0 1 10) (param (name 1 1 12) (Some Int) ∷ []) (var 2 1 23 ∷ [])
    (init 1 31 (name 2 1 36) (before 1 40 (var 1 1 44)) ∷ [])
    ∷ [])
    (codes "f" ∷ codes "a" ∷ codes "x" ∷ [])

-- ---- in discrete context the tests of a `present` hold `last`, and its bodies are discrete, that behind `else` too

-- let node f(a : int) = x where init b = false and present (last b) -> do x = 0 -> pre a done else do x = 0 fby a done
abbrev pub present_in_node : Program
present_in_node =
    program
    (declared Node (name 0 1 10) (param (name 1 1 12) (Some Int) ∷ []) (var 2 1 23 ∷ [])
    (init 1 31 (name 3 1 36) (bool false 1 40)
    ∷ present 1 50
    (arm (test 1 58 (last 1 59 (name 3 1 64)))
    (body [] (plain (name 2 1 73) (arrow 1 79 (int 0 1 77) (before 1 82 (var 1 1 86))) ∷ []))
    ∷ [])
    (Some (body [] (plain (name 2 1 101) (followed 1 107 (int 0 1 105) (var 1 1 111)) ∷ [])))
    ∷ [])
    ∷ [])
    (codes "f" ∷ codes "a" ∷ codes "x" ∷ codes "b" ∷ [])

-- let f(a : bool) = a where present (a) -> do done
abbrev pub present_in_function : Program
present_in_function =
    program
    (declared Function (name 0 1 5) (param (name 1 1 7) (Some Bool) ∷ []) (var 1 1 19 ∷ [])
    (present 1 27 (arm (test 1 35 (var 1 1 36)) (body [] []) ∷ []) None ∷ [])
    ∷ [])
    (codes "f" ∷ codes "a" ∷ [])

-- let node f(a : bool) = a where present (pre a) -> do done
abbrev pub present_test_with_pre : Program
present_test_with_pre =
    program
    (declared Node (name 0 1 10) (param (name 1 1 12) (Some Bool) ∷ []) (var 1 1 24 ∷ [])
    (present 1 32 (arm (test 1 40 (before 1 41 (var 1 1 45))) (body [] []) ∷ []) None ∷ [])
    ∷ [])
    (codes "f" ∷ codes "a" ∷ [])

-- let node f(a : bool) = a where present up(1.0) | up(2.0) -> do done
-- an event is refused at its first `up`, once
abbrev pub present_event_in_node : Program
present_event_in_node =
    program
    (declared Node (name 0 1 10) (param (name 1 1 12) (Some Bool) ∷ []) (var 1 1 24 ∷ [])
    (present 1 32 (arm (event (up 1 40 (float 1 1 43) ∷ up 1 50 (float 2 1 53) ∷ [])) (body [] []) ∷ []) None
    ∷ [])
    ∷ [])
    (codes "f" ∷ codes "a" ∷ [])

-- ---- in hybrid context a `present` has events, discrete bodies and no `else`

-- let hybrid f() = x where init x = 0 and present up(1.0) -> do x = 0 -> pre (last x) done
abbrev pub present_in_hybrid : Program
present_in_hybrid =
    program
    (declared Hybrid (name 0 1 12) [] (var 1 1 18 ∷ [])
    (init 1 26 (name 1 1 31) (int 0 1 35)
    ∷ present 1 41
    (arm (event (up 1 49 (float 1 1 52) ∷ []))
    (body []
    (plain (name 1 1 63) (arrow 1 69 (int 0 1 67) (before 1 72 (last 1 77 (name 1 1 82)))) ∷ []))
    ∷ [])
    None
    ∷ [])
    ∷ [])
    (codes "f" ∷ codes "x" ∷ [])

-- let hybrid f() = x where init x = 0.0 and present up(1.0) -> do der x = 1.0 done
abbrev pub arm_with_derivative : Program
arm_with_derivative =
    program
    (declared Hybrid (name 0 1 12) [] (var 1 1 18 ∷ [])
    (init 1 26 (name 1 1 31) (float 0 1 35)
    ∷ present 1 43
    (arm (event (up 1 51 (float 1 1 54) ∷ []))
    (body [] (der 1 65 (name 1 1 69) (float 1 1 73) None [] ∷ []))
    ∷ [])
    None
    ∷ [])
    ∷ [])
    (codes "f" ∷ codes "x" ∷ [])

-- let hybrid h() = x where der x = 1.0 init 0.0
-- let hybrid f() = x where init x = 0.0 and present up(1.0) -> do x = h() done
abbrev pub arm_with_hybrid : Program
arm_with_hybrid =
    program
    (declared Hybrid (name 0 1 12) [] (var 1 1 18 ∷ [])
    (der 1 26 (name 1 1 30) (float 1 1 34) (Some (float 0 1 43)) [] ∷ [])
    ∷ declared Hybrid (name 2 2 12) [] (var 1 2 18 ∷ [])
    (init 2 26 (name 1 2 31) (float 0 2 35)
    ∷ present 2 43
    (arm (event (up 2 51 (float 1 2 54) ∷ []))
    (body [] (plain (name 1 2 65) (call (name 0 2 69) []) ∷ []))
    ∷ [])
    None
    ∷ [])
    ∷ [])
    (codes "h" ∷ codes "x" ∷ codes "f" ∷ [])

-- let hybrid f() = x where present up(1.0) -> do x = 1 done else do x = 0 fby 2 done
-- the refusal stands at the `present`
abbrev pub else_in_hybrid : Program
else_in_hybrid =
    program
    (declared Hybrid (name 0 1 12) [] (var 1 1 18 ∷ [])
    (present 1 26
    (arm (event (up 1 34 (float 1 1 37) ∷ [])) (body [] (plain (name 1 1 48) (int 1 1 52) ∷ [])) ∷ [])
    (Some (body [] (plain (name 1 1 67) (followed 1 73 (int 0 1 71) (int 2 1 77)) ∷ [])))
    ∷ [])
    ∷ [])
    (codes "f" ∷ codes "x" ∷ [])

-- let hybrid f() = 1 where present (true) -> do done
-- a test is refused at its parenthesis
abbrev pub test_in_hybrid : Program
test_in_hybrid =
    program
    (declared Hybrid (name 0 1 12) [] (int 1 1 18 ∷ [])
    (present 1 26 (arm (test 1 34 (bool true 1 35)) (body [] []) ∷ []) None ∷ [])
    ∷ [])
    (codes "f" ∷ [])

-- ---- the argument of `up` in a condition is without memory, in hybrid context too

-- let hybrid f() = x where der x = 1.0 init 0.0 and present up(x -. 1.0) -> do done
abbrev pub up_of_sum : Program
up_of_sum =
    program
    (declared Hybrid (name 0 1 12) [] (var 1 1 18 ∷ [])
    (der 1 26 (name 1 1 30) (float 1 1 34) (Some (float 0 1 43)) []
    ∷ present 1 51
    (arm (event (up 1 59 (chain (var 1 1 62) (op MinusDot 1 64 (float 1 1 67) ∷ [])) ∷ [])) (body [] [])
    ∷ [])
    None
    ∷ [])
    ∷ [])
    (codes "f" ∷ codes "x" ∷ [])

-- let hybrid f() = x where der x = 1.0 init 0.0 and present up(last x) -> do done
abbrev pub up_with_last : Program
up_with_last =
    program
    (declared Hybrid (name 0 1 12) [] (var 1 1 18 ∷ [])
    (der 1 26 (name 1 1 30) (float 1 1 34) (Some (float 0 1 43)) []
    ∷ present 1 51 (arm (event (up 1 59 (last 1 62 (name 1 1 67)) ∷ [])) (body [] []) ∷ []) None
    ∷ [])
    ∷ [])
    (codes "f" ∷ codes "x" ∷ [])

-- let hybrid h() = x where der x = 1.0 init 0.0
-- let hybrid f() = 1 where present up(h()) -> do done
abbrev pub up_with_hybrid : Program
up_with_hybrid =
    program
    (declared Hybrid (name 0 1 12) [] (var 1 1 18 ∷ [])
    (der 1 26 (name 1 1 30) (float 1 1 34) (Some (float 0 1 43)) [] ∷ [])
    ∷ declared Hybrid (name 2 2 12) [] (int 1 2 18 ∷ [])
    (present 2 26 (arm (event (up 2 34 (call (name 0 2 37) []) ∷ [])) (body [] []) ∷ []) None ∷ [])
    ∷ [])
    (codes "h" ∷ codes "x" ∷ codes "f" ∷ [])

-- ---- in discrete context an automaton's tests hold `last`, and its bodies are discrete

-- let node f(a : int) = x where init b = false and automaton A -> do x = 0 -> pre a until (last b) then A
abbrev pub automaton_in_node : Program
automaton_in_node =
    program
    (declared Node (name 0 1 10) (param (name 1 1 12) (Some Int) ∷ []) (var 2 1 23 ∷ [])
    (init 1 31 (name 3 1 36) (bool false 1 40)
    ∷ automaton 1 50
    (state (name 4 1 60)
    (body [] (plain (name 2 1 68) (arrow 1 74 (int 0 1 72) (before 1 77 (var 1 1 81))) ∷ []))
    (until_then 1 83 (test 1 89 (last 1 90 (name 3 1 95))) (name 4 1 103) ∷ [])
    ∷ [])
    ∷ [])
    ∷ [])
    (codes "f" ∷ codes "a" ∷ codes "x" ∷ codes "b" ∷ codes "A" ∷ [])

-- let f(a : int) = a where automaton A -> do done
abbrev pub automaton_in_function : Program
automaton_in_function =
    program
    (declared Function (name 0 1 5) (param (name 1 1 7) (Some Int) ∷ []) (var 1 1 18 ∷ [])
    (automaton 1 26 (state (name 2 1 36) (body [] []) [] ∷ []) ∷ [])
    ∷ [])
    (codes "f" ∷ codes "a" ∷ codes "A" ∷ [])

-- let node f(a : bool) = a where automaton A -> do until (pre a) then A
abbrev pub until_with_pre : Program
until_with_pre =
    program
    (declared Node (name 0 1 10) (param (name 1 1 12) (Some Bool) ∷ []) (var 1 1 24 ∷ [])
    (automaton 1 32
    (state (name 2 1 42) (body [] [])
    (until_then 1 50 (test 1 56 (before 1 57 (var 1 1 61))) (name 2 1 69) ∷ [])
    ∷ [])
    ∷ [])
    ∷ [])
    (codes "f" ∷ codes "a" ∷ codes "A" ∷ [])

-- let node f(a : bool) = a where automaton A -> do unless (pre a) then A
abbrev pub unless_with_pre : Program
unless_with_pre =
    program
    (declared Node (name 0 1 10) (param (name 1 1 12) (Some Bool) ∷ []) (var 1 1 24 ∷ [])
    (automaton 1 32
    (state (name 2 1 42) (body [] [])
    (unless_then 1 50 (test 1 57 (before 1 58 (var 1 1 62))) (name 2 1 70) ∷ [])
    ∷ [])
    ∷ [])
    ∷ [])
    (codes "f" ∷ codes "a" ∷ codes "A" ∷ [])

-- let node f(a : int) = a where automaton A -> do until up(1.0) then A
abbrev pub until_event_in_node : Program
until_event_in_node =
    program
    (declared Node (name 0 1 10) (param (name 1 1 12) (Some Int) ∷ []) (var 1 1 23 ∷ [])
    (automaton 1 31
    (state (name 2 1 41) (body [] [])
    (until_then 1 49 (event (up 1 55 (float 1 1 58) ∷ [])) (name 2 1 68) ∷ [])
    ∷ [])
    ∷ [])
    ∷ [])
    (codes "f" ∷ codes "a" ∷ codes "A" ∷ [])

-- ---- in hybrid context an automaton has events, and its bodies are hybrid

-- let hybrid f() = x where automaton A -> do der x = 1.0 init 0.0 until up(x -. 1.0) then A
abbrev pub automaton_in_hybrid : Program
automaton_in_hybrid =
    program
    (declared Hybrid (name 0 1 12) [] (var 1 1 18 ∷ [])
    (automaton 1 26
    (state (name 2 1 36) (body [] (der 1 44 (name 1 1 48) (float 1 1 52) (Some (float 0 1 61)) [] ∷ []))
    (until_then 1 65 (event (up 1 71 (chain (var 1 1 74) (op MinusDot 1 76 (float 1 1 79) ∷ [])) ∷ []))
    (name 2 1 89)
    ∷ [])
    ∷ [])
    ∷ [])
    ∷ [])
    (codes "f" ∷ codes "x" ∷ codes "A" ∷ [])

-- let hybrid f() = x where automaton A -> do x = pre 1 done
abbrev pub state_with_pre : Program
state_with_pre =
    program
    (declared Hybrid (name 0 1 12) [] (var 1 1 18 ∷ [])
    (automaton 1 26
    (state (name 2 1 36) (body [] (plain (name 1 1 44) (before 1 48 (int 1 1 52)) ∷ [])) [] ∷ [])
    ∷ [])
    ∷ [])
    (codes "f" ∷ codes "x" ∷ codes "A" ∷ [])

-- let hybrid f() = 1 where automaton A -> do until (true) then A
abbrev pub until_test_in_hybrid : Program
until_test_in_hybrid =
    program
    (declared Hybrid (name 0 1 12) [] (int 1 1 18 ∷ [])
    (automaton 1 26
    (state (name 1 1 36) (body [] []) (until_then 1 44 (test 1 50 (bool true 1 51)) (name 1 1 62) ∷ []) ∷ [])
    ∷ [])
    ∷ [])
    (codes "f" ∷ codes "A" ∷ [])

-- let hybrid f() = 1 where automaton A -> do unless (true) then A
abbrev pub unless_test_in_hybrid : Program
unless_test_in_hybrid =
    program
    (declared Hybrid (name 0 1 12) [] (int 1 1 18 ∷ [])
    (automaton 1 26
    (state (name 1 1 36) (body [] []) (unless_then 1 44 (test 1 51 (bool true 1 52)) (name 1 1 63) ∷ [])
    ∷ [])
    ∷ [])
    ∷ [])
    (codes "f" ∷ codes "A" ∷ [])

-- ---- in discrete context the test of a `reset` block holds `last`, and its equations are discrete

-- let node f(a : int) = x where init b = false and reset x = 0 -> pre a every (last b)
abbrev pub reset_in_node : Program
reset_in_node =
    program
    (declared Node (name 0 1 10) (param (name 1 1 12) (Some Int) ∷ []) (var 2 1 23 ∷ [])
    (init 1 31 (name 3 1 36) (bool false 1 40)
    ∷ reset 1 50 (plain (name 2 1 56) (arrow 1 62 (int 0 1 60) (before 1 65 (var 1 1 69))) ∷ [])
    (test 1 77 (last 1 78 (name 3 1 83)))
    ∷ [])
    ∷ [])
    (codes "f" ∷ codes "a" ∷ codes "x" ∷ codes "b" ∷ [])

-- let f(a : bool) = x where reset x = 1 every (a)
abbrev pub reset_in_function : Program
reset_in_function =
    program
    (declared Function (name 0 1 5) (param (name 1 1 7) (Some Bool) ∷ []) (var 2 1 19 ∷ [])
    (reset 1 27 (plain (name 2 1 33) (int 1 1 37) ∷ []) (test 1 45 (var 1 1 46)) ∷ [])
    ∷ [])
    (codes "f" ∷ codes "a" ∷ codes "x" ∷ [])

-- let node f(a : bool) = x where reset x = 1 every (pre a)
abbrev pub reset_test_with_pre : Program
reset_test_with_pre =
    program
    (declared Node (name 0 1 10) (param (name 1 1 12) (Some Bool) ∷ []) (var 2 1 24 ∷ [])
    (reset 1 32 (plain (name 2 1 38) (int 1 1 42) ∷ []) (test 1 50 (before 1 51 (var 1 1 55))) ∷ [])
    ∷ [])
    (codes "f" ∷ codes "a" ∷ codes "x" ∷ [])

-- let node f() = x where reset x = 1 every up(1.0)
abbrev pub reset_event_in_node : Program
reset_event_in_node =
    program
    (declared Node (name 0 1 10) [] (var 1 1 16 ∷ [])
    (reset 1 24 (plain (name 1 1 30) (int 1 1 34) ∷ []) (event (up 1 42 (float 1 1 45) ∷ [])) ∷ [])
    ∷ [])
    (codes "f" ∷ codes "x" ∷ [])

-- ---- in hybrid context a `reset` block has an event, and its equations are hybrid

-- let hybrid f() = x where reset der x = 1.0 init 0.0 every up(x -. 1.0)
abbrev pub reset_in_hybrid : Program
reset_in_hybrid =
    program
    (declared Hybrid (name 0 1 12) [] (var 1 1 18 ∷ [])
    (reset 1 26 (der 1 32 (name 1 1 36) (float 1 1 40) (Some (float 0 1 49)) [] ∷ [])
    (event (up 1 59 (chain (var 1 1 62) (op MinusDot 1 64 (float 1 1 67) ∷ [])) ∷ []))
    ∷ [])
    ∷ [])
    (codes "f" ∷ codes "x" ∷ [])

-- let hybrid f() = x where reset x = pre 1 every up(1.0)
abbrev pub reset_with_pre : Program
reset_with_pre =
    program
    (declared Hybrid (name 0 1 12) [] (var 1 1 18 ∷ [])
    (reset 1 26 (plain (name 1 1 32) (before 1 36 (int 1 1 40)) ∷ []) (event (up 1 48 (float 1 1 51) ∷ []))
    ∷ [])
    ∷ [])
    (codes "f" ∷ codes "x" ∷ [])

-- let hybrid f() = x where reset x = 1 every (true)
abbrev pub reset_test_in_hybrid : Program
reset_test_in_hybrid =
    program
    (declared Hybrid (name 0 1 12) [] (var 1 1 18 ∷ [])
    (reset 1 26 (plain (name 1 1 32) (int 1 1 36) ∷ []) (test 1 44 (bool true 1 45)) ∷ [])
    ∷ [])
    (codes "f" ∷ codes "x" ∷ [])

-- ---- the first misplaced construct is refused

-- let f(a : int) = pre x where x = pre a
-- results come before equations
abbrev pub two_misplaced : Program
two_misplaced =
    program
    (declared Function (name 0 1 5) (param (name 1 1 7) (Some Int) ∷ []) (before 1 18 (var 2 1 22) ∷ [])
    (plain (name 2 1 30) (before 1 34 (var 1 1 38)) ∷ [])
    ∷ [])
    (codes "f" ∷ codes "a" ∷ codes "x" ∷ [])

-- ---- the laws

pub record EquationContextWorked : Type 0 where
  pub values_with_last_keeps : KeepsContexts values_with_last
  pub start_with_pre_breaks : BreaksContexts (at 1 43 ∷ []) start_with_pre
  pub start_with_hybrid_breaks : BreaksContexts (at 2 43 ∷ []) start_with_hybrid
  pub reset_value_with_pre_breaks : BreaksContexts (at 1 64 ∷ []) reset_value_with_pre
  pub reset_up_with_last_breaks : BreaksContexts (at 1 56 ∷ []) reset_up_with_last
  pub init_with_last_keeps : KeepsContexts init_with_last
  pub init_in_function_breaks : BreaksContexts (at 1 36 ∷ []) init_in_function
  pub init_with_pre_breaks : BreaksContexts (at 1 40 ∷ []) init_with_pre
  pub present_in_node_keeps : KeepsContexts present_in_node
  pub present_in_function_breaks : BreaksContexts (at 1 27 ∷ []) present_in_function
  pub present_test_with_pre_breaks : BreaksContexts (at 1 41 ∷ []) present_test_with_pre
  pub present_event_in_node_breaks : BreaksContexts (at 1 40 ∷ []) present_event_in_node
  pub present_in_hybrid_keeps : KeepsContexts present_in_hybrid
  pub arm_with_derivative_breaks : BreaksContexts (at 1 65 ∷ []) arm_with_derivative
  pub arm_with_hybrid_breaks : BreaksContexts (at 2 69 ∷ []) arm_with_hybrid
  pub else_in_hybrid_breaks : BreaksContexts (at 1 26 ∷ []) else_in_hybrid
  pub test_in_hybrid_breaks : BreaksContexts (at 1 34 ∷ []) test_in_hybrid
  pub up_of_sum_keeps : KeepsContexts up_of_sum
  pub up_with_last_breaks : BreaksContexts (at 1 62 ∷ []) up_with_last
  pub up_with_hybrid_breaks : BreaksContexts (at 2 37 ∷ []) up_with_hybrid
  pub automaton_in_node_keeps : KeepsContexts automaton_in_node
  pub automaton_in_function_breaks : BreaksContexts (at 1 26 ∷ []) automaton_in_function
  pub until_with_pre_breaks : BreaksContexts (at 1 57 ∷ []) until_with_pre
  pub unless_with_pre_breaks : BreaksContexts (at 1 58 ∷ []) unless_with_pre
  pub until_event_in_node_breaks : BreaksContexts (at 1 55 ∷ []) until_event_in_node
  pub automaton_in_hybrid_keeps : KeepsContexts automaton_in_hybrid
  pub state_with_pre_breaks : BreaksContexts (at 1 48 ∷ []) state_with_pre
  pub until_test_in_hybrid_breaks : BreaksContexts (at 1 50 ∷ []) until_test_in_hybrid
  pub unless_test_in_hybrid_breaks : BreaksContexts (at 1 51 ∷ []) unless_test_in_hybrid
  pub reset_in_node_keeps : KeepsContexts reset_in_node
  pub reset_in_function_breaks : BreaksContexts (at 1 27 ∷ []) reset_in_function
  pub reset_test_with_pre_breaks : BreaksContexts (at 1 51 ∷ []) reset_test_with_pre
  pub reset_event_in_node_breaks : BreaksContexts (at 1 42 ∷ []) reset_event_in_node
  pub reset_in_hybrid_keeps : KeepsContexts reset_in_hybrid
  pub reset_with_pre_breaks : BreaksContexts (at 1 36 ∷ []) reset_with_pre
  pub reset_test_in_hybrid_breaks : BreaksContexts (at 1 44 ∷ []) reset_test_in_hybrid
  pub two_misplaced_breaks : BreaksContexts (at 1 18 ∷ at 1 34 ∷ []) two_misplaced
  pub two_misplaced_first : IsMisplacedAt two_misplaced (at 1 18)
