-- A tree of one variable whose derivative is a number expands to the form of that variable.
use Rattle.std.proofs.Common.{◌≡◌, ℕ, Bool, true, false, ◌&&◌, if◌then◌else◌, rules, List, [], ◌∷◌, Option, Some, None, refl, sym, ap, ◌∙◌, subst}
use Rattle.std.specs.Prelude.{codes, slice_get, ◌==◌}
use Rattle.std.specs.Str.{bytes_eq}
use Rattle.std.specs.Option.{option_map_or}
use Rattle.std.proofs.lemmas.Bool.{eqb-true}
use Rattle.zl_value.specs.Fraction.{Fraction}
use Rattle.zl_value.specs.declared.position.Pos.{Pos}
use Rattle.zl_value.specs.declared.thin.Thin.{Thin}
use Rattle.zl_value.specs.declared.value.Ty.{Ty}
use Rattle.zl_value.specs.declared.value.Value.TheVariants.{F, B, I}
use Rattle.zl_ast.specs.declared.name.Name.{Name}
use Rattle.zl_ast.specs.declared.expr.Expr.{Expr, roll-Expr, out-Expr}
use Rattle.zl_ast.specs.declared.expr.Link.{Link}
use Rattle.zl_ast.specs.declared.expr.Expr.TheVariants as tree
use Rattle.zl_ast.specs.declared.expr.Expr.TheViews.{roll-out-Expr}
use Rattle.zl_ast.specs.declared.expr.Expr.TheOpen.{Expr-F, Link-F}
use Rattle.zl_ast.specs.declared.expr.Expr.TheOpen as open_expr
use Rattle.zl_ast.specs.declared.expr.Expr.TheFolds.{fold-roll-Expr}
use Rattle.zl_ast.specs.declared.eqn.Eqn.{Eqn, roll-Eqn, out-Eqn}
use Rattle.zl_ast.specs.declared.eqn.Arm.{Arm}
use Rattle.zl_ast.specs.declared.eqn.Body.{Body}
use Rattle.zl_ast.specs.declared.eqn.State.{State}
use Rattle.zl_ast.specs.declared.eqn.Eqn.TheVariants as eqn
use Rattle.zl_ast.specs.declared.eqn.Eqn.TheViews.{roll-out-Eqn}
use Rattle.zl_ast.specs.declared.eqn.Eqn.TheOpen.{Eqn-F, Arm-F, Body-F, State-F}
use Rattle.zl_ast.specs.declared.eqn.Eqn.TheOpen as open_eqn
use Rattle.zl_ast.specs.declared.eqn.Eqn.TheFolds.{fold-roll-Eqn}
use Rattle.zl_ast.specs.declared.program.Decl.{Decl}
use Rattle.zl_ast.specs.declared.program.DeclKind.{DeclKind}
use Rattle.zl_ast.specs.declared.program.DeclKind.TheVariants as decl
use Rattle.zl_ast.specs.declared.program.Param.{Param}
use Rattle.zl_ast.specs.declared.program.Program.{Program}
use Rattle.zl_ast.specs.Names as name
use Rattle.zl_meaning.specs.ThinForm.{ThinText}
use Rattle.zl_flat.specs.ThinTree.{thin_program}
use Rattle.zl_ast.specs.Assignments.{IsTyping}
use Rattle.zl_ast.specs.Scopes.{scopes}
use Rattle.zl_ast.specs.TypeEqualities.{equalities}
use Rattle.zl_meaning.specs.ThinForm.{thin_form}
use Rattle.zl_flat.specs.Flat.{IsFlatOf}
use Rattle.zl_flat.proofs.ThinTree.{thin-expands}
use Rattle.std.proofs.lemmas.Option.{get_or_from_slice_get}
use Rattle.zl_cli.specs.declared.thin.Motion.{Motion}
use Rattle.zl_cli.specs.ThinTree.{number_step, number_of, variable_step, variable_of, with_numbers, motion_step, motion_of, is_main, named_motion, thin_from, thin_declaration, thin_declarations, thin_tree}
use Rattle.zl_cli.specs.ThinExpansion.{HasThinForm, IsTreeAsMeant}
use Rattle.zl_cli.proofs.ThinMeaning.{run_as_meant}

-- ---- what is found

-- the expression is this number, at this place
record IsNumber (x : Expr) (f : Fraction) : Type 0 where
  at : Pos
  is : x ≡ tree.Lit (F f) at

number-step : (o : Expr-F Expr Link) (f : Fraction) → number_of (roll-Expr o) ≡ Some f → IsNumber (roll-Expr o) f
unfolding number_of
number-step (open_expr.Lit (F g) at) f h =
    let e : Some g ≡ Some f = sym (fold-roll-Expr (Option Fraction) (Option Fraction) number_step (λ l. None) (open_expr.Lit (F g) at)) ∙ h in
    let same : g ≡ f = cc in
    record { at = at; is = tree.rolls-Lit (F g) at ∙ ap (λ z. tree.Lit (F z) at) same }
number-step (open_expr.Lit (B b) at) f h = absurd (let e = sym (fold-roll-Expr (Option Fraction) (Option Fraction) number_step (λ l. None) (open_expr.Lit (B b) at)) ∙ h in cc)
number-step (open_expr.Lit (I n) at) f h = absurd (let e = sym (fold-roll-Expr (Option Fraction) (Option Fraction) number_step (λ l. None) (open_expr.Lit (I n) at)) ∙ h in cc)
number-step o f h = absurd (let e = sym (fold-roll-Expr (Option Fraction) (Option Fraction) number_step (λ l. None) o) ∙ h in cc)

number-is : (x : Expr) (f : Fraction) → number_of x ≡ Some f → IsNumber x f
number-is x f h = subst (λ y. IsNumber y f) (roll-out-Expr x) (number-step (out-Expr x) f (ap number_of (roll-out-Expr x) ∙ h))

variable-step : (o : Expr-F Expr Link) (x : Name) → variable_of (roll-Expr o) ≡ Some x → roll-Expr o ≡ tree.Var x
unfolding variable_of
variable-step (open_expr.Var y) x h =
    let e : Some y ≡ Some x = sym (fold-roll-Expr (Option Name) (Option Name) variable_step (λ l. None) (open_expr.Var y)) ∙ h in
    let same : y ≡ x = cc in
    tree.rolls-Var y ∙ ap tree.Var same
variable-step o x h = absurd (let e = sym (fold-roll-Expr (Option Name) (Option Name) variable_step (λ l. None) o) ∙ h in cc)

variable-is : (r : Expr) (x : Name) → variable_of r ≡ Some x → r ≡ tree.Var x
variable-is r x h = sym (roll-out-Expr r) ∙ variable-step (out-Expr r) x (ap variable_of (roll-out-Expr r) ∙ h)

-- the equation gives this motion, with the equation and its numbers at these places
record IsMotion (e : Eqn) (m : Motion) : Type 0 where
  at : Pos
  slope : Pos
  start : Pos
  is : e ≡ eqn.Der at m.name (tree.Lit (F m.slope) slope) (Some (tree.Lit (F m.start) start)) []

with-numbers : (x : Name) (o p : Option Fraction) (m : Motion) → with_numbers x o p ≡ Some m → (o ≡ Some m.slope) × (p ≡ Some m.start) × (x ≡ m.name)
with-numbers x (Some f) (Some g) m h = (ap (λ o. slope_in o) h, ap (λ o. start_in o) h, cc)
  where
    slope_in : Option Motion → Option Fraction
    slope_in None = None
    slope_in (Some m) = Some m.slope

    start_in : Option Motion → Option Fraction
    start_in None = None
    start_in (Some m) = Some m.start
with-numbers x (Some f) None m h = absurd cc
with-numbers x None p m h = absurd cc

motion-step : (o : Eqn-F Eqn Arm Body State) (m : Motion) → motion_of (roll-Eqn o) ≡ Some m → IsMotion (roll-Eqn o) m
unfolding motion_of
motion-step (open_eqn.Der at x slope (Some start) []) m h =
    let e = sym (fold-roll-Eqn (Option Motion) (Option Motion) (Option Motion) (Option Motion) motion_step (λ a. None) (λ b. None) (λ s. None) (open_eqn.Der at x slope (Some start) [])) ∙ h in
    let numbers = with-numbers x (number_of slope) (number_of start) m e in
    let s = number-is slope m.slope numbers.0 in
    let t = number-is start m.start numbers.1 in
    record { at = at; slope = s.at; start = t.at; is = eqn.rolls-Der at x slope (Some start) [] ∙ (λ j. eqn.Der at (numbers.2 j) (s.is j) (Some (t.is j)) []) }
motion-step (open_eqn.Der at x slope (Some start) (r ∷ rs)) m h = absurd (let e = sym (fold-roll-Eqn (Option Motion) (Option Motion) (Option Motion) (Option Motion) motion_step (λ a. None) (λ b. None) (λ s. None) (open_eqn.Der at x slope (Some start) (r ∷ rs))) ∙ h in cc)
motion-step (open_eqn.Der at x slope None rs) m h = absurd (let e = sym (fold-roll-Eqn (Option Motion) (Option Motion) (Option Motion) (Option Motion) motion_step (λ a. None) (λ b. None) (λ s. None) (open_eqn.Der at x slope None rs)) ∙ h in cc)
motion-step o m h = absurd (let e = sym (fold-roll-Eqn (Option Motion) (Option Motion) (Option Motion) (Option Motion) motion_step (λ a. None) (λ b. None) (λ s. None) o) ∙ h in cc)

motion-is : (e : Eqn) (m : Motion) → motion_of e ≡ Some m → IsMotion e m
motion-is e m h = subst (λ y. IsMotion y m) (roll-out-Eqn e) (motion-step (out-Eqn e) m (ap motion_of (roll-out-Eqn e) ∙ h))

-- the program is the tree of this variable, and has a name for it
record IsThinTree (p : Program) (thin : Thin) : Type 0 where
  main : Name
  at : Pos
  text : ThinText
  is_main : name.is_main p.names main.id ≡ true
  named : slice_get p.names text.name ≡ Some thin.name
  is : p ≡ thin_program p.names main at thin text

same-bytes : (xs ys : List ℕ) → bytes_eq xs ys ≡ true → bytes_eq ys xs ≡ true
same-bytes xs ys h = search rules

main-is : (o : Option (List ℕ)) → is_main o ≡ true → option_map_or (bytes_eq (codes "main")) o false ≡ true
main-is None h = absurd cc
main-is (Some t) h = same-bytes t (codes "main") h

-- the name of a motion is found, and is that of the variable
record IsNamed (m : Motion) (o : Option (List ℕ)) (thin : Thin) : Type 0 where
  named : o ≡ Some thin.name
  is : thin ≡ record { name = thin.name; at = m.name.at; slope = m.slope; start = m.start }

named-is : (m : Motion) (o : Option (List ℕ)) (thin : Thin) → named_motion m o ≡ Some thin → IsNamed m o thin
named-is m None thin h = absurd cc
named-is m (Some t) thin h =
    let e : record { name = t; at = m.name.at; slope = m.slope; start = m.start } ≡ thin = cc in
    subst (IsNamed m (Some t)) e (record { named = refl; is = refl })

if-true : {A : Type 0} (b : Bool) (o : Option A) (x : A) → (if b then o else None) ≡ Some x → (b ≡ true) × (o ≡ Some x)
if-true true o x h = (refl, h)
if-true false o x h = absurd cc

and-both : (a b : Bool) → (a && b) ≡ true → (a ≡ true) × (b ≡ true)
and-both true b h = (refl, h)
and-both false b h = absurd cc

module _ (names : List (List ℕ)) where
  declaration-is : (main : Name) (r : Expr) (e : Eqn) (thin : Thin) → thin_from names main (variable_of r) (motion_of e) ≡ Some thin →
      IsThinTree (record { decls = record { kind = decl.Hybrid; name = main; params = []; results = r ∷ []; eqs = e ∷ [] } ∷ []; names = names }) thin
  declaration-is main r e thin h = by_parts (variable_of r) (motion_of e) refl refl h
    where
      by_parts : (o : Option Name) (q : Option Motion) → variable_of r ≡ o → motion_of e ≡ q → thin_from names main o q ≡ Some thin →
          IsThinTree (record { decls = record { kind = decl.Hybrid; name = main; params = []; results = r ∷ []; eqs = e ∷ [] } ∷ []; names = names }) thin
      by_parts (Some x) (Some m) er em h =
          let both = if-true (is_main (slice_get names main.id) && x.id == m.name.id) (named_motion m (slice_get names m.name.id)) thin h in
          let tests = and-both (is_main (slice_get names main.id)) (x.id == m.name.id) both.0 in
          let called = main-is (slice_get names main.id) tests.0 in
          let same = eqb-true x.id m.name.id tests.1 in
          let n = named-is m (slice_get names m.name.id) thin both.1 in
          let moving = motion-is e m em in
          let result : r ≡ tree.Var (record { id = m.name.id; at = x.at }) = variable-is r x er ∙ ap (λ id. tree.Var (record { id = id; at = x.at })) same in
          let text : ThinText = record { name = m.name.id; result = x.at; slope = moving.slope; start = moving.start } in
          record {
            main = main;
            at = moving.at;
            text = text;
            is_main = called;
            named = n.named;
            is =
                (λ j. record { decls = record { kind = decl.Hybrid; name = main; params = []; results = result j ∷ []; eqs = moving.is j ∷ [] } ∷ []; names = names })
                ∙ ap (λ t. thin_program names main moving.at (record { name = thin.name; at = t.at; slope = t.slope; start = t.start }) text) (sym n.is);
          }
      by_parts None q er em h = absurd cc
      by_parts (Some x) None er em h = absurd cc

  parts-are : (d : Decl) (thin : Thin) → thin_declaration names d.name d.kind d.params d.results d.eqs ≡ Some thin → IsThinTree (record { decls = d ∷ []; names = names }) thin
  parts-are d thin h = by_kind d.kind d.params d.results d.eqs h
    where
      by_kind : (k : DeclKind) (ps : List Param) (rs : List Expr) (es : List Eqn) → thin_declaration names d.name k ps rs es ≡ Some thin →
          IsThinTree (record { decls = record { kind = k; name = d.name; params = ps; results = rs; eqs = es } ∷ []; names = names }) thin
      by_kind decl.Hybrid [] (r ∷ []) (e ∷ []) h = declaration-is d.name r e thin h
      by_kind k ps rs es h = absurd cc

-- a tree that says such a variable is its tree
thin-tree-is : (p : Program) (thin : Thin) → thin_tree p ≡ Some thin → IsThinTree p thin
thin-tree-is p thin h = by_decls p.decls h
  where
    by_decls : (ds : List Decl) → thin_declarations p.names ds ≡ Some thin → IsThinTree (record { decls = ds; names = p.names }) thin
    by_decls (d ∷ []) h = parts-are p.names d thin h
    by_decls [] h = absurd cc
    by_decls (d ∷ e ∷ ds) h = absurd cc

-- its flat form is that of the variable, under any typing
thin-tree-expands : (p : Program) (thin : Thin) (types : List (List Ty)) → thin_tree p ≡ Some thin → IsTyping (equalities p) (scopes p) types → HasThinForm p types thin
thin-tree-expands p thin types h typed =
    let tree = thin-tree-is p thin h in
    let program = thin_program p.names tree.main tree.at thin tree.text in
    record {
      text = tree.text;
      form =
          subst (λ (q : Program). IsFlatOf q (scopes q) types (thin_form thin tree.text)) (sym tree.is)
          (thin-expands p.names tree.main tree.at thin tree.text types tree.is_main (subst (λ (q : Program). IsTyping (equalities q) (scopes q) types) tree.is typed));
      named = get_or_from_slice_get p.names tree.text.name thin.name [] tree.named;
    }

-- what is put for such a tree is the trace of the one run of its flat form
pub tree_as_meant : IsTreeAsMeant
tree_as_meant p thin types horizon steps tree typed a b t =
    let h = thin-tree-expands p thin types tree typed in
    record { form = thin_form thin h.text; is_flat = h.form; trace = run_as_meant thin h.text p.names horizon steps a b t h.named }
