-- Worked programs of the rule of contexts: expressions.
use Rattle.std.specs.Prelude.{true, false, [], ◌∷◌, Some, codes}
use Rattle.zl_value.specs.declared.value.Ty.TheVariants.{Bool, Int, Float}
use Rattle.zl_ast.specs.declared.operator.Infix.TheVariants.{Greater, Plus}
use Rattle.zl_ast.specs.declared.program.DeclKind.TheVariants.{Function, Node, Hybrid}
use Rattle.zl_ast.specs.declared.program.Program.{Program}
use Rattle.zl_ast.specs.WorkedTrees.{at, name, int, float, bool, var, last, call, minus, before, op, chain, arrow, followed, choice, plain, init, der, constant, param, declared, program}
use Rattle.zl_ast.specs.Verdicts.{KeepsContexts, BreaksContexts}

-- ---- a constant and a function are without memory

-- let k = 1 + 2
-- let f(a : int) = x where x = if a > k then a else 1
abbrev pub without_memory : Program
without_memory =
    program
    (constant (name 0 1 5) (chain (int 1 1 9) (op Plus 1 11 (int 2 1 13) ∷ []))
    ∷ declared Function (name 1 2 5) (param (name 2 2 7) (Some Int) ∷ []) (var 3 2 18 ∷ [])
    (plain (name 3 2 26)
    (choice 2 30 (chain (var 2 2 33) (op Greater 2 35 (var 0 2 37) ∷ [])) (var 2 2 44) (int 1 2 51))
    ∷ [])
    ∷ [])
    (codes "k" ∷ codes "f" ∷ codes "a" ∷ codes "x" ∷ [])

-- let k = pre 1
abbrev pub constant_with_pre : Program
constant_with_pre =
    program (constant (name 0 1 5) (before 1 9 (int 1 1 13)) ∷ []) (codes "k" ∷ [])

-- let f(a : int) = pre a
abbrev pub function_with_pre : Program
function_with_pre =
    program
    (declared Function (name 0 1 5) (param (name 1 1 7) (Some Int) ∷ []) (before 1 18 (var 1 1 22) ∷ []) [] ∷ [])
    (codes "f" ∷ codes "a" ∷ [])

-- let f(a : int) = 0 -> a
-- the refusal stands at the operator
abbrev pub function_with_arrow : Program
function_with_arrow =
    program
    (declared Function (name 0 1 5) (param (name 1 1 7) (Some Int) ∷ [])
    (arrow 1 20 (int 0 1 18) (var 1 1 23) ∷ []) []
    ∷ [])
    (codes "f" ∷ codes "a" ∷ [])

-- let f(a : int) = 0 fby a
abbrev pub function_with_fby : Program
function_with_fby =
    program
    (declared Function (name 0 1 5) (param (name 1 1 7) (Some Int) ∷ [])
    (followed 1 20 (int 0 1 18) (var 1 1 24) ∷ []) []
    ∷ [])
    (codes "f" ∷ codes "a" ∷ [])

-- let f(a : int) = x where x = a and y = last x
abbrev pub function_with_last : Program
function_with_last =
    program
    (declared Function (name 0 1 5) (param (name 1 1 7) (Some Int) ∷ []) (var 2 1 18 ∷ [])
    (plain (name 2 1 26) (var 1 1 30) ∷ plain (name 3 1 36) (last 1 40 (name 2 1 45)) ∷ [])
    ∷ [])
    (codes "f" ∷ codes "a" ∷ codes "x" ∷ codes "y" ∷ [])

-- ---- a node may hold `pre`, `->`, `fby` and `last`

-- let node f(a : int) = x where init x = 0 and x = (0 -> pre a) + (0 fby a) + last x
abbrev pub node_with_memory : Program
node_with_memory =
    program
    (declared Node (name 0 1 10) (param (name 1 1 12) (Some Int) ∷ []) (var 2 1 23 ∷ [])
    (init 1 31 (name 2 1 36) (int 0 1 40)
    ∷ plain (name 2 1 46)
    (chain (arrow 1 53 (int 0 1 51) (before 1 56 (var 1 1 60)))
    (op Plus 1 63 (followed 1 68 (int 0 1 66) (var 1 1 72))
    ∷ op Plus 1 75 (last 1 77 (name 2 1 82))
    ∷ []))
    ∷ [])
    ∷ [])
    (codes "f" ∷ codes "a" ∷ codes "x" ∷ [])

-- let hybrid f(a : int) = pre a
-- a hybrid declaration may not
abbrev pub hybrid_with_pre : Program
hybrid_with_pre =
    program
    (declared Hybrid (name 0 1 12) (param (name 1 1 14) (Some Int) ∷ []) (before 1 25 (var 1 1 29) ∷ []) [] ∷ [])
    (codes "f" ∷ codes "a" ∷ [])

-- let hybrid f(a : int) = 0 -> a
abbrev pub hybrid_with_arrow : Program
hybrid_with_arrow =
    program
    (declared Hybrid (name 0 1 12) (param (name 1 1 14) (Some Int) ∷ [])
    (arrow 1 27 (int 0 1 25) (var 1 1 30) ∷ []) []
    ∷ [])
    (codes "f" ∷ codes "a" ∷ [])

-- let hybrid f(a : int) = 0 fby a
abbrev pub hybrid_with_fby : Program
hybrid_with_fby =
    program
    (declared Hybrid (name 0 1 12) (param (name 1 1 14) (Some Int) ∷ [])
    (followed 1 27 (int 0 1 25) (var 1 1 31) ∷ []) []
    ∷ [])
    (codes "f" ∷ codes "a" ∷ [])

-- let hybrid f() = x where init x = 0 and x = last x
abbrev pub hybrid_with_last : Program
hybrid_with_last =
    program
    (declared Hybrid (name 0 1 12) [] (var 1 1 18 ∷ [])
    (init 1 26 (name 1 1 31) (int 0 1 35) ∷ plain (name 1 1 41) (last 1 45 (name 1 1 50)) ∷ [])
    ∷ [])
    (codes "f" ∷ codes "x" ∷ [])

-- ---- the parts of `pre`, `->` and `fby` are discrete, wherever these stand

-- let node f(a : int) = 0 -> pre (0 -> pre a)
abbrev pub parts_in_node : Program
parts_in_node =
    program
    (declared Node (name 0 1 10) (param (name 1 1 12) (Some Int) ∷ [])
    (arrow 1 25 (int 0 1 23) (before 1 28 (arrow 1 35 (int 0 1 33) (before 1 38 (var 1 1 42)))) ∷ []) []
    ∷ [])
    (codes "f" ∷ codes "a" ∷ [])

-- let f(a : int) = pre (pre a)
-- only the outer one is refused
abbrev pub parts_of_pre : Program
parts_of_pre =
    program
    (declared Function (name 0 1 5) (param (name 1 1 7) (Some Int) ∷ [])
    (before 1 18 (before 1 23 (var 1 1 27)) ∷ []) []
    ∷ [])
    (codes "f" ∷ codes "a" ∷ [])

-- let f(a : int) = pre a -> pre a
-- neither part is refused
abbrev pub parts_of_arrow : Program
parts_of_arrow =
    program
    (declared Function (name 0 1 5) (param (name 1 1 7) (Some Int) ∷ [])
    (arrow 1 24 (before 1 18 (var 1 1 22)) (before 1 27 (var 1 1 31)) ∷ []) []
    ∷ [])
    (codes "f" ∷ codes "a" ∷ [])

-- ---- a node is called in discrete context, and its arguments are discrete

-- let node n(a : int) = a
-- let node f(a : int) = n(0 -> pre a)
abbrev pub node_called : Program
node_called =
    program
    (declared Node (name 0 1 10) (param (name 1 1 12) (Some Int) ∷ []) (var 1 1 23 ∷ []) []
    ∷ declared Node (name 2 2 10) (param (name 1 2 12) (Some Int) ∷ [])
    (call (name 0 2 23) (arrow 2 27 (int 0 2 25) (before 2 30 (var 1 2 34)) ∷ []) ∷ []) []
    ∷ [])
    (codes "n" ∷ codes "a" ∷ codes "f" ∷ [])

-- let node n(a : int) = a
-- let f(a : int) = n(pre a)
-- the argument isn't refused
abbrev pub node_in_function : Program
node_in_function =
    program
    (declared Node (name 0 1 10) (param (name 1 1 12) (Some Int) ∷ []) (var 1 1 23 ∷ []) []
    ∷ declared Function (name 2 2 5) (param (name 1 2 7) (Some Int) ∷ [])
    (call (name 0 2 18) (before 2 20 (var 1 2 24) ∷ []) ∷ []) []
    ∷ [])
    (codes "n" ∷ codes "a" ∷ codes "f" ∷ [])

-- let node n(a : int) = a
-- let hybrid f(a : int) = n(a)
abbrev pub node_in_hybrid : Program
node_in_hybrid =
    program
    (declared Node (name 0 1 10) (param (name 1 1 12) (Some Int) ∷ []) (var 1 1 23 ∷ []) []
    ∷ declared Hybrid (name 2 2 12) (param (name 1 2 14) (Some Int) ∷ [])
    (call (name 0 2 25) (var 1 2 27 ∷ []) ∷ []) []
    ∷ [])
    (codes "n" ∷ codes "a" ∷ codes "f" ∷ [])

-- ---- a hybrid declaration is called in hybrid context, and its arguments are hybrid

-- let hybrid h(a : float) = x where der x = a init 0.0
-- let hybrid f() = h(h(1.0))
abbrev pub hybrid_called : Program
hybrid_called =
    program
    (declared Hybrid (name 0 1 12) (param (name 1 1 14) (Some Float) ∷ []) (var 2 1 27 ∷ [])
    (der 1 35 (name 2 1 39) (var 1 1 43) (Some (float 0 1 50)) [] ∷ [])
    ∷ declared Hybrid (name 3 2 12) [] (call (name 0 2 18) (call (name 0 2 20) (float 1 2 22 ∷ []) ∷ []) ∷ []) []
    ∷ [])
    (codes "h" ∷ codes "a" ∷ codes "x" ∷ codes "f" ∷ [])

-- let hybrid h(a : float) = x where der x = a init 0.0
-- let f() = h(1.0)
abbrev pub hybrid_in_function : Program
hybrid_in_function =
    program
    (declared Hybrid (name 0 1 12) (param (name 1 1 14) (Some Float) ∷ []) (var 2 1 27 ∷ [])
    (der 1 35 (name 2 1 39) (var 1 1 43) (Some (float 0 1 50)) [] ∷ [])
    ∷ declared Function (name 3 2 5) [] (call (name 0 2 11) (float 1 2 13 ∷ []) ∷ []) []
    ∷ [])
    (codes "h" ∷ codes "a" ∷ codes "x" ∷ codes "f" ∷ [])

-- let hybrid h(a : float) = x where der x = a init 0.0
-- let node f() = h(pre 1.0)
-- the argument is hybrid there too, where no `pre` may stand
abbrev pub hybrid_in_node : Program
hybrid_in_node =
    program
    (declared Hybrid (name 0 1 12) (param (name 1 1 14) (Some Float) ∷ []) (var 2 1 27 ∷ [])
    (der 1 35 (name 2 1 39) (var 1 1 43) (Some (float 0 1 50)) [] ∷ [])
    ∷ declared Node (name 3 2 10) [] (call (name 0 2 16) (before 2 18 (float 1 2 22) ∷ []) ∷ []) []
    ∷ [])
    (codes "h" ∷ codes "a" ∷ codes "x" ∷ codes "f" ∷ [])

-- ---- a function is called everywhere, and its arguments stand where the call does

-- let g(a : int) = a
-- let hybrid h() = x where der x = 1.0 init 0.0
-- let node f(a : int) = g(0 -> pre a)
-- let hybrid k() = g(truncate(h()))
abbrev pub function_called : Program
function_called =
    program
    (declared Function (name 0 1 5) (param (name 1 1 7) (Some Int) ∷ []) (var 1 1 18 ∷ []) []
    ∷ declared Hybrid (name 2 2 12) [] (var 3 2 18 ∷ [])
    (der 2 26 (name 3 2 30) (float 1 2 34) (Some (float 0 2 43)) [] ∷ [])
    ∷ declared Node (name 4 3 10) (param (name 1 3 12) (Some Int) ∷ [])
    (call (name 0 3 23) (arrow 3 27 (int 0 3 25) (before 3 30 (var 1 3 34)) ∷ []) ∷ []) []
    ∷ declared Hybrid (name 5 4 12) []
    (call (name 0 4 18) (call (name 6 4 20) (call (name 2 4 29) [] ∷ []) ∷ []) ∷ []) []
    ∷ [])
    (codes "g" ∷ codes "a" ∷ codes "h" ∷ codes "x" ∷ codes "f" ∷ codes "k" ∷ codes "truncate" ∷ [])

-- let g(a : int) = a
-- let f(a : int) = g(pre a)
abbrev pub argument_of_function : Program
argument_of_function =
    program
    (declared Function (name 0 1 5) (param (name 1 1 7) (Some Int) ∷ []) (var 1 1 18 ∷ []) []
    ∷ declared Function (name 2 2 5) (param (name 1 2 7) (Some Int) ∷ [])
    (call (name 0 2 18) (before 2 20 (var 1 2 24) ∷ []) ∷ []) []
    ∷ [])
    (codes "g" ∷ codes "a" ∷ codes "f" ∷ [])

-- let f(a : float) = truncate(pre a)
abbrev pub argument_of_built_in : Program
argument_of_built_in =
    program
    (declared Function (name 0 1 5) (param (name 1 1 7) (Some Float) ∷ [])
    (call (name 2 1 20) (before 1 29 (var 1 1 33) ∷ []) ∷ []) []
    ∷ [])
    (codes "f" ∷ codes "a" ∷ codes "truncate" ∷ [])

-- ---- operators stand everywhere, and their operands where they do

-- let node f(a : int) = - (0 -> pre a) + (1 fby a)
abbrev pub operands_in_node : Program
operands_in_node =
    program
    (declared Node (name 0 1 10) (param (name 1 1 12) (Some Int) ∷ [])
    (chain (minus 1 23 (arrow 1 28 (int 0 1 26) (before 1 31 (var 1 1 35))))
    (op Plus 1 38 (followed 1 43 (int 1 1 41) (var 1 1 47)) ∷ [])
    ∷ [])
    []
    ∷ [])
    (codes "f" ∷ codes "a" ∷ [])

-- let f(a : int) = - pre a
abbrev pub operand_of_minus : Program
operand_of_minus =
    program
    (declared Function (name 0 1 5) (param (name 1 1 7) (Some Int) ∷ [])
    (minus 1 18 (before 1 20 (var 1 1 24)) ∷ []) []
    ∷ [])
    (codes "f" ∷ codes "a" ∷ [])

-- let f(a : int) = a + pre a
abbrev pub operand_of_plus : Program
operand_of_plus =
    program
    (declared Function (name 0 1 5) (param (name 1 1 7) (Some Int) ∷ [])
    (chain (var 1 1 18) (op Plus 1 20 (before 1 22 (var 1 1 26)) ∷ []) ∷ []) []
    ∷ [])
    (codes "f" ∷ codes "a" ∷ [])

-- ---- in a node the condition of an `if` is discrete, and its branches hold `last`, but no `pre`, `->`, `fby` or call of a node

-- let node f(c : bool) = x where init x = 0 and x = if false -> pre c then last x else (if c then last x else 1)
-- also in a branch of a branch
abbrev pub if_in_node : Program
if_in_node =
    program
    (declared Node (name 0 1 10) (param (name 1 1 12) (Some Bool) ∷ []) (var 2 1 24 ∷ [])
    (init 1 32 (name 2 1 37) (int 0 1 41)
    ∷ plain (name 2 1 47)
    (choice 1 51 (arrow 1 60 (bool false 1 54) (before 1 63 (var 1 1 67))) (last 1 74 (name 2 1 79))
    (choice 1 87 (var 1 1 90) (last 1 97 (name 2 1 102)) (int 1 1 109)))
    ∷ [])
    ∷ [])
    (codes "f" ∷ codes "c" ∷ codes "x" ∷ [])

-- let node f(c : bool, a : int) = if c then pre a else a
abbrev pub branch_with_pre : Program
branch_with_pre =
    program
    (declared Node (name 0 1 10) (param (name 1 1 12) (Some Bool) ∷ param (name 2 1 22) (Some Int) ∷ [])
    (choice 1 33 (var 1 1 36) (before 1 43 (var 2 1 47)) (var 2 1 54) ∷ []) []
    ∷ [])
    (codes "f" ∷ codes "c" ∷ codes "a" ∷ [])

-- let node f(c : bool, a : int) = if c then a else 0 fby a
abbrev pub branch_with_fby : Program
branch_with_fby =
    program
    (declared Node (name 0 1 10) (param (name 1 1 12) (Some Bool) ∷ param (name 2 1 22) (Some Int) ∷ [])
    (choice 1 33 (var 1 1 36) (var 2 1 43) (followed 1 52 (int 0 1 50) (var 2 1 56)) ∷ []) []
    ∷ [])
    (codes "f" ∷ codes "c" ∷ codes "a" ∷ [])

-- let node n(a : int) = a
-- let node f(c : bool, a : int) = if c then a else n(a)
abbrev pub branch_with_node : Program
branch_with_node =
    program
    (declared Node (name 0 1 10) (param (name 1 1 12) (Some Int) ∷ []) (var 1 1 23 ∷ []) []
    ∷ declared Node (name 2 2 10) (param (name 3 2 12) (Some Bool) ∷ param (name 1 2 22) (Some Int) ∷ [])
    (choice 2 33 (var 3 2 36) (var 1 2 43) (call (name 0 2 50) (var 1 2 52 ∷ [])) ∷ []) []
    ∷ [])
    (codes "n" ∷ codes "a" ∷ codes "f" ∷ codes "c" ∷ [])

-- let node f(c : bool) = if c then (if pre c then 1 else 2) else 3
-- the condition of an `if` in a branch is no more than the branch
abbrev pub branch_of_branch : Program
branch_of_branch =
    program
    (declared Node (name 0 1 10) (param (name 1 1 12) (Some Bool) ∷ [])
    (choice 1 24 (var 1 1 27) (choice 1 35 (before 1 38 (var 1 1 42)) (int 1 1 49) (int 2 1 56)) (int 3 1 64)
    ∷ [])
    []
    ∷ [])
    (codes "f" ∷ codes "c" ∷ [])

-- ---- in a hybrid declaration the condition of an `if` is hybrid, and its branches are without memory

-- let hybrid h() = x where der x = 1.0 init 0.0
-- let hybrid f() = if h() > 0.0 then 1 else 2
abbrev pub if_in_hybrid : Program
if_in_hybrid =
    program
    (declared Hybrid (name 0 1 12) [] (var 1 1 18 ∷ [])
    (der 1 26 (name 1 1 30) (float 1 1 34) (Some (float 0 1 43)) [] ∷ [])
    ∷ declared Hybrid (name 2 2 12) []
    (choice 2 18 (chain (call (name 0 2 21) []) (op Greater 2 25 (float 0 2 27) ∷ [])) (int 1 2 36)
    (int 2 2 43)
    ∷ [])
    []
    ∷ [])
    (codes "h" ∷ codes "x" ∷ codes "f" ∷ [])

-- let hybrid h() = x where der x = 1.0 init 0.0
-- let hybrid f() = if true then h() else 0.0
abbrev pub branch_with_hybrid : Program
branch_with_hybrid =
    program
    (declared Hybrid (name 0 1 12) [] (var 1 1 18 ∷ [])
    (der 1 26 (name 1 1 30) (float 1 1 34) (Some (float 0 1 43)) [] ∷ [])
    ∷ declared Hybrid (name 2 2 12) [] (choice 2 18 (bool true 2 21) (call (name 0 2 31) []) (float 0 2 40) ∷ [])
    []
    ∷ [])
    (codes "h" ∷ codes "x" ∷ codes "f" ∷ [])

-- let hybrid f() = x where init x = 0 and x = if true then last x else 1
abbrev pub branch_with_last : Program
branch_with_last =
    program
    (declared Hybrid (name 0 1 12) [] (var 1 1 18 ∷ [])
    (init 1 26 (name 1 1 31) (int 0 1 35)
    ∷ plain (name 1 1 41) (choice 1 45 (bool true 1 48) (last 1 58 (name 1 1 63)) (int 1 1 70))
    ∷ [])
    ∷ [])
    (codes "f" ∷ codes "x" ∷ [])

-- ---- a derivative stands in hybrid context, and so does its right side

-- let hybrid h() = x where der x = 1.0 init 0.0
-- let hybrid f() = x where der x = h() init 0.0
abbrev pub derivative : Program
derivative =
    program
    (declared Hybrid (name 0 1 12) [] (var 1 1 18 ∷ [])
    (der 1 26 (name 1 1 30) (float 1 1 34) (Some (float 0 1 43)) [] ∷ [])
    ∷ declared Hybrid (name 2 2 12) [] (var 1 2 18 ∷ [])
    (der 2 26 (name 1 2 30) (call (name 0 2 34) []) (Some (float 0 2 43)) [] ∷ [])
    ∷ [])
    (codes "h" ∷ codes "x" ∷ codes "f" ∷ [])

-- let node f() = x where der x = 1.0 init 0.0
abbrev pub derivative_in_node : Program
derivative_in_node =
    program
    (declared Node (name 0 1 10) [] (var 1 1 16 ∷ [])
    (der 1 24 (name 1 1 28) (float 1 1 32) (Some (float 0 1 41)) [] ∷ [])
    ∷ [])
    (codes "f" ∷ codes "x" ∷ [])

-- let f() = x where der x = 1.0 init 0.0
abbrev pub derivative_in_function : Program
derivative_in_function =
    program
    (declared Function (name 0 1 5) [] (var 1 1 11 ∷ [])
    (der 1 19 (name 1 1 23) (float 1 1 27) (Some (float 0 1 36)) [] ∷ [])
    ∷ [])
    (codes "f" ∷ codes "x" ∷ [])

-- let hybrid f() = x where der x = pre 1.0 init 0.0
abbrev pub slope_with_pre : Program
slope_with_pre =
    program
    (declared Hybrid (name 0 1 12) [] (var 1 1 18 ∷ [])
    (der 1 26 (name 1 1 30) (before 1 34 (float 1 1 38)) (Some (float 0 1 47)) [] ∷ [])
    ∷ [])
    (codes "f" ∷ codes "x" ∷ [])

-- ---- the laws

pub record ContextWorked : Type 0 where
  pub without_memory_keeps : KeepsContexts without_memory
  pub constant_with_pre_breaks : BreaksContexts (at 1 9 ∷ []) constant_with_pre
  pub function_with_pre_breaks : BreaksContexts (at 1 18 ∷ []) function_with_pre
  pub function_with_arrow_breaks : BreaksContexts (at 1 20 ∷ []) function_with_arrow
  pub function_with_fby_breaks : BreaksContexts (at 1 20 ∷ []) function_with_fby
  pub function_with_last_breaks : BreaksContexts (at 1 40 ∷ []) function_with_last
  pub node_with_memory_keeps : KeepsContexts node_with_memory
  pub hybrid_with_pre_breaks : BreaksContexts (at 1 25 ∷ []) hybrid_with_pre
  pub hybrid_with_arrow_breaks : BreaksContexts (at 1 27 ∷ []) hybrid_with_arrow
  pub hybrid_with_fby_breaks : BreaksContexts (at 1 27 ∷ []) hybrid_with_fby
  pub hybrid_with_last_breaks : BreaksContexts (at 1 45 ∷ []) hybrid_with_last
  pub parts_in_node_keeps : KeepsContexts parts_in_node
  pub parts_of_pre_breaks : BreaksContexts (at 1 18 ∷ []) parts_of_pre
  pub parts_of_arrow_breaks : BreaksContexts (at 1 24 ∷ []) parts_of_arrow
  pub node_called_keeps : KeepsContexts node_called
  pub node_in_function_breaks : BreaksContexts (at 2 18 ∷ []) node_in_function
  pub node_in_hybrid_breaks : BreaksContexts (at 2 25 ∷ []) node_in_hybrid
  pub hybrid_called_keeps : KeepsContexts hybrid_called
  pub hybrid_in_function_breaks : BreaksContexts (at 2 11 ∷ []) hybrid_in_function
  pub hybrid_in_node_breaks : BreaksContexts (at 2 16 ∷ at 2 18 ∷ []) hybrid_in_node
  pub function_called_keeps : KeepsContexts function_called
  pub argument_of_function_breaks : BreaksContexts (at 2 20 ∷ []) argument_of_function
  pub argument_of_built_in_breaks : BreaksContexts (at 1 29 ∷ []) argument_of_built_in
  pub operands_in_node_keeps : KeepsContexts operands_in_node
  pub operand_of_minus_breaks : BreaksContexts (at 1 20 ∷ []) operand_of_minus
  pub operand_of_plus_breaks : BreaksContexts (at 1 22 ∷ []) operand_of_plus
  pub if_in_node_keeps : KeepsContexts if_in_node
  pub branch_with_pre_breaks : BreaksContexts (at 1 43 ∷ []) branch_with_pre
  pub branch_with_fby_breaks : BreaksContexts (at 1 52 ∷ []) branch_with_fby
  pub branch_with_node_breaks : BreaksContexts (at 2 50 ∷ []) branch_with_node
  pub branch_of_branch_breaks : BreaksContexts (at 1 38 ∷ []) branch_of_branch
  pub if_in_hybrid_keeps : KeepsContexts if_in_hybrid
  pub branch_with_hybrid_breaks : BreaksContexts (at 2 31 ∷ []) branch_with_hybrid
  pub branch_with_last_breaks : BreaksContexts (at 1 58 ∷ []) branch_with_last
  pub derivative_keeps : KeepsContexts derivative
  pub derivative_in_node_breaks : BreaksContexts (at 1 24 ∷ []) derivative_in_node
  pub derivative_in_function_breaks : BreaksContexts (at 1 19 ∷ []) derivative_in_function
  pub slope_with_pre_breaks : BreaksContexts (at 1 34 ∷ []) slope_with_pre
