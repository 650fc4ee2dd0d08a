-- What a tree of one variable whose derivative is a number expands to.
use Rattle.std.proofs.Common.{◌≡◌, ℕ, Bool, true, ◌&&◌, if◌then◌else◌, nat_eq, is_some, List, [], ◌∷◌, ◌++◌, map, Option, Some, None, refl, sym, ap, ap₂, ◌∙◌, subst, arith}
use Rattle.std.proofs.lemmas.Bool.{eq-eqb}
use Rattle.zl_value.specs.declared.value.Value.{Value}
use Rattle.zl_value.specs.declared.value.Value.TheVariants.{F}
use Rattle.zl_value.specs.declared.value.Ty.{Ty}
use Rattle.zl_value.specs.declared.value.Ty.TheVariants.{Float}
use Rattle.zl_value.specs.declared.position.Pos.{Pos}
use Rattle.zl_value.specs.declared.thin.Thin.{Thin}
use Rattle.zl_ast.specs.declared.name.Name.{Name}
use Rattle.zl_ast.specs.declared.expr.Expr.TheVariants as tree
use Rattle.zl_ast.specs.declared.expr.Expr.TheOpen as open_expr
use Rattle.zl_ast.specs.declared.expr.Expr.TheFolds.{fold-roll-Expr}
use Rattle.zl_ast.specs.declared.eqn.Eqn.{Eqn}
use Rattle.zl_ast.specs.declared.eqn.Eqn.TheVariants as eqn
use Rattle.zl_ast.specs.declared.eqn.Eqn.TheOpen as open_eqn
use Rattle.zl_ast.specs.declared.eqn.Eqn.TheFolds.{fold-roll-Eqn}
use Rattle.zl_ast.specs.declared.scope.VarInfo.{VarInfo}
use Rattle.zl_ast.specs.declared.scope.VarClass.TheVariants.{Top}
use Rattle.zl_ast.specs.declared.program.Decl.{Decl}
use Rattle.zl_ast.specs.declared.program.Program.{Program}
use Rattle.zl_ast.specs.declared.constraint.Equality.{Equality}
use Rattle.zl_ast.specs.Assignments as typing
use Rattle.zl_ast.specs.Assignments.{Assignment, Solves, Meets, HaveTypesInEach, IsTyping}
use Rattle.zl_ast.specs.Names.{is_main}
use Rattle.zl_ast.specs.NamesDefined as defined
use Rattle.zl_ast.specs.NamesDefined.{Outline, StateOutline, one_defined, list_from, eqn_outline}
use Rattle.zl_ast.specs.Scopes as scope
use Rattle.zl_ast.specs.Scopes.{first_entries, scopes}
use Rattle.zl_ast.specs.TypeEqualities as type
use Rattle.zl_ast.specs.TypeEqualities.{Environment, eqn_equalities, exprs_equalities, equalities, with_variables, before_all, fixed, der_places, start_equalities, expr_equalities}
use Rattle.zl_meaning.specs.FlatForm.{FlatForm}
use Rattle.zl_meaning.specs.ThinForm.{ThinText, thin_form}
use Rattle.zl_meaning.specs.declared.occurrence.Form.TheVariants.{Lit}
use Rattle.zl_flat.specs.declared.size.Size.{Size}
use Rattle.zl_flat.specs.declared.variable.Variable.{Variable}
use Rattle.zl_flat.specs.Parts.{Parts, nothing, joined, some_places, some_definers, one_block, one_place, one_occ, after, past_block, past_occ, start}
use Rattle.zl_flat.specs.Variables.{variable_of, variables, place_in_text, is_there, is_first}
use Rattle.zl_flat.specs.Sizes.{none, plus, a_place, an_occ, a_block, called_size, expr_size, eqn_size, decl_size}
use Rattle.zl_flat.specs.Numbering.{both, in_turn, no_places, a_variable, of_calls, eqn_numbering, decl_numbering}
use Rattle.zl_flat.specs.Operators.{value_type}
use Rattle.zl_flat.specs.Instances.{Instance, in_body, place_here}
use Rattle.zl_flat.specs.Expressions.{Walk, walk_all, leaf, read, expr_walk}
use Rattle.zl_flat.specs.Equations.{Making, place_number, place_type, derivative, given, start_made, start_definers, in_turn as walk_in_turn, eqn_walk}
use Rattle.zl_flat.specs.Expansion.{MainOf, behind, found, main_block, main_here, form_of, result_step, result_place, main_of, main_size, main_parts, main_form}
use Rattle.zl_flat.specs.Limits.{Fits}
use Rattle.zl_flat.specs.Flat.{IsFlatOf}
use Rattle.zl_flat.specs.ThinTree.{thin_variable, thin_result, thin_equation, thin_declaration, thin_program, ThinExpands}
use Rattle.zl_flat.proofs.SizeSteps.{size-lit, size-var, size-der}
use Rattle.zl_flat.proofs.NumberingSteps.{numbering-der}
use Rattle.zl_flat.proofs.ExprSteps.{walk-lit, walk-var}
use Rattle.zl_flat.proofs.EqnSteps.{make-der}

-- a number is the same as itself
same : (n : ℕ) → nat_eq n n ≡ true
same n = eq-eqb n n refl

module _ (main : Name) (at : Pos) (thin : Thin) (text : ThinText) where
  abbrev declaration : Decl
  declaration = thin_declaration main at thin text

  abbrev equation : Eqn
  equation = thin_equation at thin text

  abbrev x : Name
  x = thin_variable thin text

  abbrev info : VarInfo
  info = record { name = text.name; at = thin.at; class = Top }

  -- ---- the variable

  -- the equation defines the variable, as a value and by an `init`
  outline-is : eqn_outline equation ≡ one_defined x true true
  unfolding eqn_outline
  outline-is = ap eqn_outline (sym (eqn.rolls-Der at x _ _ _)) ∙ fold-roll-Eqn Outline Outline Outline StateOutline defined.eqn_step defined.arm_step defined.body_step defined.state_step (open_eqn.Der at x _ _ _)

  -- it is the one variable of the declaration
  variables-are : scope.variables declaration ≡ info ∷ []
  unfolding scope.variables
  variables-are = ap (λ o. first_entries [] (list_from [] [] (o ∷ [])).entries) outline-is

  -- the place at which the variable is found, and that it is first there
  found-at : place_in_text (info ∷ []) text.name ≡ Some thin.at
  found-at = ap (λ b. if b then Some thin.at else None) (same text.name)

  first-there : is_first (info ∷ []) x ≡ true
  first-there = ap (λ o. is_there o thin.at) found-at ∙ ap₂ (λ a b. a && b) (same thin.at.line) (same thin.at.column)

  -- ---- its type

  -- what the equation says of types
  moving : (e : Environment) → eqn_equalities e equation ≡ type.eqn_step e (open_eqn.Der at x (tree.Lit (F thin.slope) text.slope) (Some (tree.Lit (F thin.start) text.start)) [])
  unfolding eqn_equalities
  moving e = ap (eqn_equalities e) (sym (eqn.rolls-Der at x _ _ _)) ∙ fold-roll-Eqn (List Equality) (List Equality) (List Equality) (List Equality) (type.eqn_step e) (type.arm_step e) (type.body_step e) (type.state_step e) (open_eqn.Der at x _ _ _)

  module _ (names : List (List ℕ)) where
    abbrev program : Program
    program = thin_program names main at thin text

    abbrev inside : List VarInfo → Environment
    inside vs = with_variables (before_all names) vs

    -- the equalities of the program, but for those that don't speak of the variable
    scopes-are : scopes program ≡ (info ∷ []) ∷ []
    scopes-are = ap (λ vs. vs ∷ []) variables-are

    all-right : (a : Assignment) (es fs : List Equality) → Solves (es ++ fs) a → Solves fs a
    all-right a [] fs h = h
    all-right a (e ∷ es) fs h = all-right a es fs h.1

    all-left : (a : Assignment) (es fs : List Equality) → Solves (es ++ fs) a → Solves es a
    all-left a [] fs h = tt
    all-left a (e ∷ es) fs h = (h.0, all-left a es fs h.1)

    -- the equation says that the variable is a float
    is-float : (a : Assignment) → Solves (equalities program) a → a thin.at ≡ Float
    is-float a h =
        let e = inside (scope.variables declaration) in
        let one : Solves (exprs_equalities e declaration.results ++ (eqn_equalities e equation ++ [])) a = all-left a _ [] h in
        let two = all-left a (eqn_equalities e equation) [] (all-right a (exprs_equalities e declaration.results) (eqn_equalities e equation ++ []) one) in
        let three = subst (λ es. Solves es a) (moving e) two in
        let known : e.variables text.name ≡ Some thin.at = ap (λ vs. (inside vs).variables text.name) variables-are ∙ ap (λ b. if b then Some thin.at else None) (same text.name) in
        (subst (λ o. Solves (map (fixed at Float) (der_places o (tree.Lit (F thin.slope) text.slope) (Some (tree.Lit (F thin.start) text.start)) []) ++ (expr_equalities e (tree.Lit (F thin.slope) text.slope) ++ (start_equalities e (Some (tree.Lit (F thin.start) text.start)) ++ []))) a) known three).0

    -- so a typing gives it this type alone
    types-are : (types : List (List Ty)) → IsTyping (equalities program) (scopes program) types → types ≡ (Float ∷ []) ∷ []
    types-are types h = read_types types (subst (λ vss. HaveTypesInEach (equalities program) vss types) scopes-are h.types_of_variables)
      where
        read_types : (tss : List (List Ty)) → HaveTypesInEach (equalities program) ((info ∷ []) ∷ []) tss → tss ≡ (Float ∷ []) ∷ []
        read_types _ (typing.next_of_all (typing.next k typing.end) typing.end_of_all) = ap (λ t. (t ∷ []) ∷ []) (sym (k h.solution h.solves) ∙ is-float h.solution h.solves)

  -- ---- its size

  -- `main`, with no declaration before it
  abbrev thin_main : MainOf
  thin_main = record { before = []; main = record { decl = declaration; infos = info ∷ []; types = Float ∷ [] } }

  module _ (known : ℕ → Option Size) where
    of-result : expr_size (info ∷ []) known (tree.Var (thin_result text)) ≡ an_occ
    of-result = size-var (info ∷ []) known (thin_result text) ∙ ap (λ o. if is_some o then an_occ else plus an_occ (called_size (known text.name))) found-at

    of-lit : (v : Value) (p : Pos) → expr_size (info ∷ []) known (tree.Lit v p) ≡ an_occ
    of-lit v p = size-lit (info ∷ []) known v p

    -- the equation is one place and two numbers
    of-equation : eqn_size (info ∷ []) known equation ≡ plus a_place (plus an_occ (plus an_occ none))
    of-equation =
        size-der (info ∷ []) known at x _ _ _
        ∙ (λ j. plus (if first-there j then a_place else none) (plus (of-lit (F thin.slope) text.slope j) (plus (of-lit (F thin.start) text.start j) none)))

    -- of its places the first is the variable's
    numbers-equation : eqn_numbering (info ∷ []) known equation ≡ both a_variable (both (of_calls an_occ) (both (of_calls an_occ) (of_calls none)))
    numbers-equation =
        (λ j n. numbering-der (info ∷ []) known n at x (tree.Lit (F thin.slope) text.slope) (Some (tree.Lit (F thin.start) text.start)) [] j)
        ∙ (λ j. both (if first-there j then a_variable else no_places) (both (of_calls (of-lit (F thin.slope) text.slope j)) (both (of_calls (of-lit (F thin.start) text.start j)) (of_calls none))))

    -- the whole is one place and three occurrences
    size-is : decl_size (info ∷ []) known declaration ≡ record { places = 1; occs = 3; sites = 0; blocks = 0; calls = 0 }
    unfolding decl_size plus none a_place an_occ
    size-is = λ j. plus none (plus (plus (of-result j) none) (plus (of-equation j) none))

    -- the variable has place 0
    numbers-are : decl_numbering (info ∷ []) known declaration 0 ≡ record { own = 0 ∷ []; next = 1 }
    unfolding decl_numbering plus none a_place an_occ
    numbers-are = λ j. both (in_turn []) (both (of_calls (plus (of-result j) none)) (in_turn (numbers-equation j ∷ []))) 0

  -- ---- its walk

  -- the variable in the copy, and the copy whose variables have these places
  abbrev own_variable : Variable
  own_variable = record { name = text.name; ty = Float; place = 0 }

  found-variable : variable_of (own_variable ∷ []) text.name ≡ Some own_variable
  found-variable = ap (λ b. if b then Some own_variable else None) (same text.name)

  abbrev in_copy : List ℕ → Instance
  in_copy own = record { block = 0; infos = info ∷ []; variables = variables (info ∷ []) (Float ∷ []) own; callees = found [] }

  abbrev lit_walk : Value → Pos → Walk
  lit_walk v p here s = leaf here (value_type v) p (Lit v) s

  -- the equation, by whether the variable is first there, and by what is found of it
  abbrev equation_by : (names : List (List ℕ)) → Bool → Option Variable → Walk → Walk → Making
  equation_by names b o slope begin here s =
      let first = if b then one_place (place_here (in_body (in_copy (0 ∷ [])) here) (place_type o) text.name thin.at) else nothing in
      let e = slope here (after s first) in
      let begun = start_made 3 names (in_copy (0 ∷ [])) (Some begin) here (after (after s first) e.parts) in
      joined first (joined e.parts (joined begun.parts (joined nothing
      (some_definers (given (place_number o) (derivative here.block e.root.occ []) ∷ start_definers (place_number o) here begun.value)))))

  -- what is made for `main`, by the walks of its result and its equation
  abbrev copy_by : (names : List (List ℕ)) → Walk → Making → Parts
  copy_by names value eqs =
      let params = joined (some_places []) (some_definers []) in
      let here = main_here 3 names declaration in
      let results = walk_all (value ∷ []) here (after (past_block start) params) in
      joined (one_block (main_block 3 names declaration)) (joined params (joined results.parts (walk_in_turn (eqs ∷ []) here (after (after (past_block start) params) results.parts))))

  module _ (names : List (List ℕ)) where
    on-lit : (v : Value) (p : Pos) → expr_walk 3 names (in_copy (0 ∷ [])) (tree.Lit v p) ≡ lit_walk v p
    on-lit v p = λ j here s. walk-lit 3 names (in_copy (0 ∷ [])) here s v p j

    on-var : expr_walk 3 names (in_copy (0 ∷ [])) (tree.Var (thin_result text)) ≡ read 3 names (in_copy (0 ∷ [])) (variable_of (own_variable ∷ []) text.name) (thin_result text)
    on-var = λ j here s. walk-var 3 names (in_copy (0 ∷ [])) here s (thin_result text) j

    on-equation : eqn_walk 3 names (in_copy (0 ∷ [])) equation ≡ equation_by names true (Some own_variable) (lit_walk (F thin.slope) text.slope) (lit_walk (F thin.start) text.start)
    on-equation =
        (λ j here s. make-der 3 names (in_copy (0 ∷ [])) here s at x (tree.Lit (F thin.slope) text.slope) (Some (tree.Lit (F thin.start) text.start)) [] j)
        ∙ (λ j. equation_by names (first-there j) (found-variable j) (on-lit (F thin.slope) text.slope j) (on-lit (F thin.start) text.start j))

    on-result : (vs : List Variable) (r : Name) → result_place vs (tree.Var r) ≡ result_step vs (open_expr.Var r)
    unfolding result_place
    on-result vs r = ap (result_place vs) (sym (tree.rolls-Var r)) ∙ fold-roll-Expr (List ℕ) (List ℕ) (result_step vs) (λ l. []) (open_expr.Var r)

    -- with the counts, with the places, and with the walks written out
    by-counts : main_form names thin_main ≡ form_of (main_parts 3 names (found []) (found []) thin_main.main) [] (result_place (own_variable ∷ []) (tree.Var (thin_result text)) ++ [])
    unfolding main_form main_size plus none a_block
    by-counts = λ j.
        form_of (main_parts (plus a_block (size-is (found []) j)).occs names (found []) (found []) thin_main.main) []
        (result_place (variables (info ∷ []) (Float ∷ []) (numbers-are (found []) j).own) (tree.Var (thin_result text)) ++ [])

    by-places : main_parts 3 names (found []) (found []) thin_main.main ≡ copy_by names (expr_walk 3 names (in_copy (0 ∷ [])) (tree.Var (thin_result text))) (eqn_walk 3 names (in_copy (0 ∷ [])) equation)
    unfolding main_parts
    by-places = λ j. copy_by names (expr_walk 3 names (in_copy (numbers-are (found []) j).own) (tree.Var (thin_result text))) (eqn_walk 3 names (in_copy (numbers-are (found []) j).own) equation)

    abbrev by_variable : Option Variable → Making → FlatForm
    by_variable o eqs = form_of (copy_by names (read 3 names (in_copy (0 ∷ [])) o (thin_result text)) eqs) [] (place_number o ∷ [])

    by-walks : form_of (copy_by names (expr_walk 3 names (in_copy (0 ∷ [])) (tree.Var (thin_result text))) (eqn_walk 3 names (in_copy (0 ∷ [])) equation)) [] (result_place (own_variable ∷ []) (tree.Var (thin_result text)) ++ [])
        ≡ by_variable (Some own_variable) (equation_by names true (Some own_variable) (lit_walk (F thin.slope) text.slope) (lit_walk (F thin.start) text.start))
    by-walks =
        (λ j. form_of (copy_by names (on-var j) (on-equation j)) [] (on-result (own_variable ∷ []) (thin_result text) j ++ []))
        ∙ (λ j. by_variable (found-variable j) (equation_by names true (Some own_variable) (lit_walk (F thin.slope) text.slope) (lit_walk (F thin.start) text.start)))

    -- what is written out is the form
    computed : by_variable (Some own_variable) (equation_by names true (Some own_variable) (lit_walk (F thin.slope) text.slope) (lit_walk (F thin.start) text.start)) ≡ thin_form thin text
    unfolding joined nothing some_places some_definers one_block one_place one_occ after past_block past_occ
    computed = refl

    form-is : main_form names thin_main ≡ thin_form thin text
    form-is = by-counts ∙ ap (λ p. form_of p [] (result_place (own_variable ∷ []) (tree.Var (thin_result text)) ++ [])) by-places ∙ by-walks ∙ computed

    fits : Fits (main_size thin_main)
    unfolding main_size plus a_block
    fits = subst (λ s. Fits (plus a_block s)) (sym (size-is (found []))) (record { places = omega arith; occs = omega arith; sites = omega arith; blocks = omega arith; calls = omega arith })

    -- `main` is found
    main-is : is_main names main.id ≡ true → main_of names (thin_main.main ∷ []) ≡ Some thin_main
    main-is h = ap (λ b. if b then Some thin_main else behind thin_main.main None) h

-- the flat form of such a tree is that of one variable whose derivative is a number, within the limits
pub thin-expands : ThinExpands
thin-expands names main at thin text types named typed =
    let program = thin_program names main at thin text in
    let one : IsFlatOf program ((info main at thin text ∷ []) ∷ []) ((Float ∷ []) ∷ []) (thin_form thin text) =
    record { main = thin_main main at thin text; is_main = main-is main at thin text names named; fits = fits main at thin text names; is = sym (form-is main at thin text names) } in
    let two = subst (λ vss. IsFlatOf program vss ((Float ∷ []) ∷ []) (thin_form thin text)) (sym (scopes-are main at thin text names)) one in
    subst (λ tss. IsFlatOf program (scopes program) tss (thin_form thin text)) (sym (types-are main at thin text names types typed)) two
