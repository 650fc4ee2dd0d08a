-- Worked programs of the rule of initialisation: expressions.
use Rattle.std.specs.Prelude.{true, [], ◌∷◌, Some, None, codes}
use Rattle.zl_value.specs.declared.value.Ty.TheVariants.{Bool, Int, Float}
use Rattle.zl_ast.specs.declared.operator.Infix.TheVariants.{Greater, Minus, Plus}
use Rattle.zl_ast.specs.declared.program.DeclKind.TheVariants.{Function, Node, Hybrid}
use Rattle.zl_ast.specs.declared.program.Program.{Program}
use Rattle.zl_ast.specs.Equations.{body, arm, state}
use Rattle.zl_ast.specs.WorkedTrees.{at, name, int, float, bool, var, last, call, minus, before, op, chain, arrow, followed, choice, plain, init, test, der, present, automaton, reset, until_then, constant, param, declared, program}
use Rattle.zl_ast.specs.Verdicts.{KeepsInit, BreaksInit}

-- ---- literals, parameters, constants and calls are early, and so are results

-- let k = 1
-- let node g(a : int) = 0 -> pre a
-- let node f(a : int) = g(a) + k
abbrev pub early_parts : Program
early_parts =
    program
    (constant (name 0 1 5) (int 1 1 9)
    ∷ declared Node (name 1 2 10) (param (name 2 2 12) (Some Int) ∷ [])
    (arrow 2 25 (int 0 2 23) (before 2 28 (var 2 2 32)) ∷ []) []
    ∷ declared Node (name 3 3 10) (param (name 2 3 12) (Some Int) ∷ [])
    (chain (call (name 1 3 23) (var 2 3 25 ∷ [])) (op Plus 3 28 (var 0 3 30) ∷ []) ∷ []) []
    ∷ [])
    (codes "k" ∷ codes "g" ∷ codes "a" ∷ codes "f" ∷ [])

-- let node f(a : int) = pre a
abbrev pub late_result : Program
late_result =
    program
    (declared Node (name 0 1 10) (param (name 1 1 12) (Some Int) ∷ []) (before 1 23 (var 1 1 27) ∷ []) [] ∷ [])
    (codes "f" ∷ codes "a" ∷ [])

-- let node f(a : int) = (a, x) where x = pre a
-- also the second
abbrev pub second_late_result : Program
second_late_result =
    program
    (declared Node (name 0 1 10) (param (name 1 1 12) (Some Int) ∷ []) (var 1 1 24 ∷ var 2 1 27 ∷ [])
    (plain (name 2 1 36) (before 1 40 (var 1 1 44)) ∷ [])
    ∷ [])
    (codes "f" ∷ codes "a" ∷ codes "x" ∷ [])

-- ---- an operator is late where an operand is

-- let node f(a : int) = x where x = 0 -> - y and y = 1 + pre a
-- what is late may stand where nothing wants it early
abbrev pub late_operands : Program
late_operands =
    program
    (declared Node (name 0 1 10) (param (name 1 1 12) (Some Int) ∷ []) (var 2 1 23 ∷ [])
    (plain (name 2 1 31) (arrow 1 37 (int 0 1 35) (minus 1 40 (var 3 1 42)))
    ∷ plain (name 3 1 48) (chain (int 1 1 52) (op Plus 1 54 (before 1 56 (var 1 1 60)) ∷ []))
    ∷ [])
    ∷ [])
    (codes "f" ∷ codes "a" ∷ codes "x" ∷ codes "y" ∷ [])

-- let node f(a : int) = 1 + pre a
abbrev pub late_right_operand : Program
late_right_operand =
    program
    (declared Node (name 0 1 10) (param (name 1 1 12) (Some Int) ∷ [])
    (chain (int 1 1 23) (op Plus 1 25 (before 1 27 (var 1 1 31)) ∷ []) ∷ []) []
    ∷ [])
    (codes "f" ∷ codes "a" ∷ [])

-- let node f(a : int) = pre a + 1
abbrev pub late_left_operand : Program
late_left_operand =
    program
    (declared Node (name 0 1 10) (param (name 1 1 12) (Some Int) ∷ [])
    (chain (before 1 23 (var 1 1 27)) (op Plus 1 29 (int 1 1 31) ∷ []) ∷ []) []
    ∷ [])
    (codes "f" ∷ codes "a" ∷ [])

-- let node f(a : int) = pre a + 1 - 2
-- the first of three too
abbrev pub late_first_operand : Program
late_first_operand =
    program
    (declared Node (name 0 1 10) (param (name 1 1 12) (Some Int) ∷ [])
    (chain (before 1 23 (var 1 1 27)) (op Plus 1 29 (int 1 1 31) ∷ op Minus 1 33 (int 2 1 35) ∷ []) ∷ []) []
    ∷ [])
    (codes "f" ∷ codes "a" ∷ [])

-- let node f(a : int) = - pre a
abbrev pub late_under_minus : Program
late_under_minus =
    program
    (declared Node (name 0 1 10) (param (name 1 1 12) (Some Int) ∷ [])
    (minus 1 23 (before 1 25 (var 1 1 29)) ∷ []) []
    ∷ [])
    (codes "f" ∷ codes "a" ∷ [])

-- ---- an `if` is late where its condition or a branch is

-- let node f(a : int) = if (0 -> pre a) > 0 then a else 1
abbrev pub early_if : Program
early_if =
    program
    (declared Node (name 0 1 10) (param (name 1 1 12) (Some Int) ∷ [])
    (choice 1 23
    (chain (arrow 1 29 (int 0 1 27) (before 1 32 (var 1 1 36))) (op Greater 1 39 (int 0 1 41) ∷ []))
    (var 1 1 48) (int 1 1 55)
    ∷ [])
    []
    ∷ [])
    (codes "f" ∷ codes "a" ∷ [])

-- let node f(a : int) = if pre a > 0 then 1 else 2
abbrev pub late_condition : Program
late_condition =
    program
    (declared Node (name 0 1 10) (param (name 1 1 12) (Some Int) ∷ [])
    (choice 1 23 (chain (before 1 26 (var 1 1 30)) (op Greater 1 32 (int 0 1 34) ∷ [])) (int 1 1 41)
    (int 2 1 48)
    ∷ [])
    []
    ∷ [])
    (codes "f" ∷ codes "a" ∷ [])

-- let node f(a : int) = if true then x else 1 where x = pre a
abbrev pub late_branch : Program
late_branch =
    program
    (declared Node (name 0 1 10) (param (name 1 1 12) (Some Int) ∷ [])
    (choice 1 23 (bool true 1 26) (var 2 1 36) (int 1 1 43) ∷ [])
    (plain (name 2 1 51) (before 1 55 (var 1 1 59)) ∷ [])
    ∷ [])
    (codes "f" ∷ codes "a" ∷ codes "x" ∷ [])

-- let node f(a : int) = if true then 1 else x where x = pre a
abbrev pub late_other_branch : Program
late_other_branch =
    program
    (declared Node (name 0 1 10) (param (name 1 1 12) (Some Int) ∷ [])
    (choice 1 23 (bool true 1 26) (int 1 1 36) (var 2 1 43) ∷ [])
    (plain (name 2 1 51) (before 1 55 (var 1 1 59)) ∷ [])
    ∷ [])
    (codes "f" ∷ codes "a" ∷ codes "x" ∷ [])

-- ---- a built-in function is late where its argument is, and any other call wants early arguments

-- let g(a : float) = a
-- let node f(a : float) = 0 -> truncate(pre a) + truncate(g(a))
abbrev pub calls_early : Program
calls_early =
    program
    (declared Function (name 0 1 5) (param (name 1 1 7) (Some Float) ∷ []) (var 1 1 20 ∷ []) []
    ∷ declared Node (name 2 2 10) (param (name 1 2 12) (Some Float) ∷ [])
    (arrow 2 27 (int 0 2 25)
    (chain (call (name 3 2 30) (before 2 39 (var 1 2 43) ∷ []))
    (op Plus 2 46 (call (name 3 2 48) (call (name 0 2 57) (var 1 2 59 ∷ []) ∷ [])) ∷ []))
    ∷ [])
    []
    ∷ [])
    (codes "g" ∷ codes "a" ∷ codes "f" ∷ codes "truncate" ∷ [])

-- let node f(a : float) = truncate(pre a)
abbrev pub late_built_in : Program
late_built_in =
    program
    (declared Node (name 0 1 10) (param (name 1 1 12) (Some Float) ∷ [])
    (call (name 2 1 25) (before 1 34 (var 1 1 38) ∷ []) ∷ []) []
    ∷ [])
    (codes "f" ∷ codes "a" ∷ codes "truncate" ∷ [])

-- let g(a : int) = a
-- let node f(a : int) = 0 -> g(pre a)
-- even where the call is behind an `->`
abbrev pub late_argument : Program
late_argument =
    program
    (declared Function (name 0 1 5) (param (name 1 1 7) (Some Int) ∷ []) (var 1 1 18 ∷ []) []
    ∷ declared Node (name 2 2 10) (param (name 1 2 12) (Some Int) ∷ [])
    (arrow 2 25 (int 0 2 23) (call (name 0 2 28) (before 2 30 (var 1 2 34) ∷ [])) ∷ []) []
    ∷ [])
    (codes "g" ∷ codes "a" ∷ codes "f" ∷ [])

-- ---- `pre e` is late, and wants e early

-- let node f(a : int) = 0 -> pre (0 -> pre a)
abbrev pub pre_behind_arrow : Program
pre_behind_arrow =
    program
    (declared Node (name 0 1 10) (param (name 1 1 12) (Some Int) ∷ [])
    (arrow 1 25 (int 0 1 23) (before 1 28 (arrow 1 35 (int 0 1 33) (before 1 38 (var 1 1 42)))) ∷ []) []
    ∷ [])
    (codes "f" ∷ codes "a" ∷ [])

-- let node f(a : int) = 0 -> pre (pre a)
abbrev pub pre_of_pre : Program
pre_of_pre =
    program
    (declared Node (name 0 1 10) (param (name 1 1 12) (Some Int) ∷ [])
    (arrow 1 25 (int 0 1 23) (before 1 28 (before 1 33 (var 1 1 37))) ∷ []) []
    ∷ [])
    (codes "f" ∷ codes "a" ∷ [])

-- ---- `->` and `fby` have the level of their left side, and `fby` wants its right side early

-- let node f(a : int) = (0 -> pre a) + (0 fby a)
abbrev pub flows_early : Program
flows_early =
    program
    (declared Node (name 0 1 10) (param (name 1 1 12) (Some Int) ∷ [])
    (chain (arrow 1 26 (int 0 1 24) (before 1 29 (var 1 1 33)))
    (op Plus 1 36 (followed 1 41 (int 0 1 39) (var 1 1 45)) ∷ [])
    ∷ [])
    []
    ∷ [])
    (codes "f" ∷ codes "a" ∷ [])

-- let node f(a : int) = pre a -> 0
abbrev pub late_arrow : Program
late_arrow =
    program
    (declared Node (name 0 1 10) (param (name 1 1 12) (Some Int) ∷ [])
    (arrow 1 29 (before 1 23 (var 1 1 27)) (int 0 1 32) ∷ []) []
    ∷ [])
    (codes "f" ∷ codes "a" ∷ [])

-- let node f(a : int) = pre a fby 0
abbrev pub late_fby : Program
late_fby =
    program
    (declared Node (name 0 1 10) (param (name 1 1 12) (Some Int) ∷ [])
    (followed 1 29 (before 1 23 (var 1 1 27)) (int 0 1 33) ∷ []) []
    ∷ [])
    (codes "f" ∷ codes "a" ∷ [])

-- let node f(a : int) = 0 fby pre a
abbrev pub fby_of_late : Program
fby_of_late =
    program
    (declared Node (name 0 1 10) (param (name 1 1 12) (Some Int) ∷ [])
    (followed 1 25 (int 0 1 23) (before 1 29 (var 1 1 33)) ∷ []) []
    ∷ [])
    (codes "f" ∷ codes "a" ∷ [])

-- ---- `last x` wants x early, and is early where x is anchored

-- let node f(b : bool) = x where init x = 0 and x = last x + last y and reset init y = 0 and y = last y + 1 every (b)
-- `init` anchors, in a `reset` block too, and so does that of a derivative
abbrev pub last_anchored : Program
last_anchored =
    program
    (declared Node (name 0 1 10) (param (name 1 1 12) (Some Bool) ∷ []) (var 2 1 24 ∷ [])
    (init 1 32 (name 2 1 37) (int 0 1 41)
    ∷ plain (name 2 1 47) (chain (last 1 51 (name 2 1 56)) (op Plus 1 58 (last 1 60 (name 3 1 65)) ∷ []))
    ∷ reset 1 71
    (init 1 77 (name 3 1 82) (int 0 1 86)
    ∷ plain (name 3 1 92) (chain (last 1 96 (name 3 1 101)) (op Plus 1 103 (int 1 1 105) ∷ []))
    ∷ [])
    (test 1 113 (var 1 1 114))
    ∷ [])
    ∷ [])
    (codes "f" ∷ codes "b" ∷ codes "x" ∷ codes "y" ∷ [])

-- let hybrid f() = x where der y = 1.0 init 0.0 and der x = 1.0 init last y
abbrev pub last_of_derivative : Program
last_of_derivative =
    program
    (declared Hybrid (name 0 1 12) [] (var 1 1 18 ∷ [])
    (der 1 26 (name 2 1 30) (float 1 1 34) (Some (float 0 1 43)) []
    ∷ der 1 51 (name 1 1 55) (float 1 1 59) (Some (last 1 68 (name 2 1 73))) []
    ∷ [])
    ∷ [])
    (codes "f" ∷ codes "x" ∷ codes "y" ∷ [])

-- let node f() = x where x = 0 -> last x
-- a variable that isn't anchored has a late `last`
abbrev pub last_behind_arrow : Program
last_behind_arrow =
    program
    (declared Node (name 0 1 10) [] (var 1 1 16 ∷ [])
    (plain (name 1 1 24) (arrow 1 30 (int 0 1 28) (last 1 33 (name 1 1 38))) ∷ [])
    ∷ [])
    (codes "f" ∷ codes "x" ∷ [])

-- let node f() = x where x = last x + 0
abbrev pub last_unanchored : Program
last_unanchored =
    program
    (declared Node (name 0 1 10) [] (var 1 1 16 ∷ [])
    (plain (name 1 1 24) (chain (last 1 28 (name 1 1 33)) (op Plus 1 35 (int 0 1 37) ∷ [])) ∷ [])
    ∷ [])
    (codes "f" ∷ codes "x" ∷ [])

-- let node f(a : int) = 0 -> last x where x = pre a
abbrev pub last_of_late : Program
last_of_late =
    program
    (declared Node (name 0 1 10) (param (name 1 1 12) (Some Int) ∷ [])
    (arrow 1 25 (int 0 1 23) (last 1 28 (name 2 1 33)) ∷ [])
    (plain (name 2 1 41) (before 1 45 (var 1 1 49)) ∷ [])
    ∷ [])
    (codes "f" ∷ codes "a" ∷ codes "x" ∷ [])

-- let node f(b : bool) = x where present (b) -> do init x = 0 and x = last x done else do x = 0 done
-- an `init` in an arm doesn't anchor a variable of the body around it
abbrev pub arm_anchors_not : Program
arm_anchors_not =
    program
    (declared Node (name 0 1 10) (param (name 1 1 12) (Some Bool) ∷ []) (var 2 1 24 ∷ [])
    (present 1 32
    (arm (test 1 40 (var 1 1 41))
    (body [] (init 1 50 (name 2 1 55) (int 0 1 59) ∷ plain (name 2 1 65) (last 1 69 (name 2 1 74)) ∷ []))
    ∷ [])
    (Some (body [] (plain (name 2 1 89) (int 0 1 93) ∷ [])))
    ∷ [])
    ∷ [])
    (codes "f" ∷ codes "b" ∷ codes "x" ∷ [])

-- let node f(b : bool) = x where automaton A -> do init x = 0 and x = last x until (b) then A
-- nor one in a state
abbrev pub state_anchors_not : Program
state_anchors_not =
    program
    (declared Node (name 0 1 10) (param (name 1 1 12) (Some Bool) ∷ []) (var 2 1 24 ∷ [])
    (automaton 1 32
    (state (name 3 1 42)
    (body [] (init 1 50 (name 2 1 55) (int 0 1 59) ∷ plain (name 2 1 65) (last 1 69 (name 2 1 74)) ∷ []))
    (until_then 1 76 (test 1 82 (var 1 1 83)) (name 3 1 91) ∷ [])
    ∷ [])
    ∷ [])
    ∷ [])
    (codes "f" ∷ codes "b" ∷ codes "x" ∷ codes "A" ∷ [])

-- let node f(b : bool) = x where init x = 0 and present (b) -> local y in do init y = 0 and y = last y + 1 and x = last y done
-- it anchors a local of its own body
abbrev pub local_anchored : Program
local_anchored =
    program
    (declared Node (name 0 1 10) (param (name 1 1 12) (Some Bool) ∷ []) (var 2 1 24 ∷ [])
    (init 1 32 (name 2 1 37) (int 0 1 41)
    ∷ present 1 47
    (arm (test 1 55 (var 1 1 56))
    (body (name 3 1 68 ∷ [])
    (init 1 76 (name 3 1 81) (int 0 1 85)
    ∷ plain (name 3 1 91) (chain (last 1 95 (name 3 1 100)) (op Plus 1 102 (int 1 1 104) ∷ []))
    ∷ plain (name 2 1 110) (last 1 114 (name 3 1 119))
    ∷ []))
    ∷ [])
    None
    ∷ [])
    ∷ [])
    (codes "f" ∷ codes "b" ∷ codes "x" ∷ codes "y" ∷ [])

-- ---- the laws

pub record ExpressionLevelsWorked : Type 0 where
  pub early_parts_keeps : KeepsInit early_parts
  pub late_result_breaks : BreaksInit (at 1 23) late_result
  pub second_late_result_breaks : BreaksInit (at 1 40) second_late_result
  pub late_operands_keeps : KeepsInit late_operands
  pub late_right_operand_breaks : BreaksInit (at 1 27) late_right_operand
  pub late_left_operand_breaks : BreaksInit (at 1 29) late_left_operand
  pub late_first_operand_breaks : BreaksInit (at 1 33) late_first_operand
  pub late_under_minus_breaks : BreaksInit (at 1 25) late_under_minus
  pub early_if_keeps : KeepsInit early_if
  pub late_condition_breaks : BreaksInit (at 1 32) late_condition
  pub late_branch_breaks : BreaksInit (at 1 55) late_branch
  pub late_other_branch_breaks : BreaksInit (at 1 55) late_other_branch
  pub calls_early_keeps : KeepsInit calls_early
  pub late_built_in_breaks : BreaksInit (at 1 34) late_built_in
  pub late_argument_breaks : BreaksInit (at 2 30) late_argument
  pub pre_behind_arrow_keeps : KeepsInit pre_behind_arrow
  pub pre_of_pre_breaks : BreaksInit (at 1 33) pre_of_pre
  pub flows_early_keeps : KeepsInit flows_early
  pub late_arrow_breaks : BreaksInit (at 1 29) late_arrow
  pub late_fby_breaks : BreaksInit (at 1 29) late_fby
  pub fby_of_late_breaks : BreaksInit (at 1 29) fby_of_late
  pub last_anchored_keeps : KeepsInit last_anchored
  pub last_of_derivative_keeps : KeepsInit last_of_derivative
  pub last_behind_arrow_keeps : KeepsInit last_behind_arrow
  pub last_unanchored_breaks : BreaksInit (at 1 35) last_unanchored
  pub last_of_late_breaks : BreaksInit (at 1 45) last_of_late
  pub arm_anchors_not_breaks : BreaksInit (at 1 69) arm_anchors_not
  pub state_anchors_not_breaks : BreaksInit (at 1 69) state_anchors_not
  pub local_anchored_keeps : KeepsInit local_anchored
