-- Down an expression that breaks no rule of names, under an assignment that meets its equalities of types: what its walk makes
-- keeps what a flat form keeps of types, and what it gives has the type of the expression's place.
use Rattle.std.proofs.Common.{◌≡◌, ℕ, suc, Bool, true, false, not, ◌&&◌, ◌||◌, if◌then◌else◌, nat_eq, List, [], ◌∷◌, ◌++◌, map, length, Option, Some, None, refl, sym, ap, subst, ◌∙◌, arith}
use Rattle.std.specs.Prelude.{codes}
use Rattle.std.specs.List.{AllByRecursion}
use Rattle.std.proofs.lemmas.Bool.{eqb-true}
use Rattle.zl_value.specs.declared.position.Pos.{Pos}
use Rattle.zl_value.specs.declared.rule.Rule.TheVariants as rule
use Rattle.zl_value.specs.declared.value.Ty.{Ty}
use Rattle.zl_value.specs.declared.value.Ty.TheVariants.{Bool as BoolTy, Int, Float, Zero}
use Rattle.zl_value.specs.declared.value.Value.{Value}
use Rattle.zl_value.specs.declared.value.Value.TheVariants.{B, I, F}
use Rattle.zl_value.specs.declared.op.Op.{Op}
use Rattle.zl_value.specs.declared.op.Op.TheVariants.{FloatOfInt, Truncate}
use Rattle.zl_value.specs.OperatorTypes.{type_of}
use Rattle.zl_value.specs.Script.{IsOfType}
use Rattle.zl_ast.specs.declared.name.Name.{Name}
use Rattle.zl_ast.specs.declared.operator.Prefix.{Prefix}
use Rattle.zl_ast.specs.declared.operator.Prefix.TheVariants as prefix
use Rattle.zl_ast.specs.declared.expr.Expr.{Expr, roll-Expr}
use Rattle.zl_ast.specs.declared.expr.Link.{Link, roll-Link}
use Rattle.zl_ast.specs.declared.expr.Expr.TheOpen.{Expr-F, Link-F}
use Rattle.zl_ast.specs.declared.expr.Expr.TheOpen as open_expr
use Rattle.zl_ast.specs.declared.expr.Expr.TheFolds.{fold-Link, fold-roll-Expr, fold-roll-Link, ind-Expr, map-Expr, map-Link}
use Rattle.zl_ast.specs.Names.{broken_if, among, has_text}
use Rattle.zl_ast.specs.NamesRules.{last_place}
use Rattle.zl_ast.specs.NamesUsed as used
use Rattle.zl_ast.specs.NamesUsed.{Known, Uses, all_uses, each_value, call_broken, expr_uses, link_uses}
use Rattle.zl_ast.specs.Assignments.{Assignment, Meets, Solves, joined}
use Rattle.zl_ast.specs.TypeEqualities as types
use Rattle.zl_ast.specs.TypeEqualities.{Signature, Table, Environment, Part, LinkPart, same_pairs, same_as_found, first_result, from_to, built_in_call, call_equalities, infix_equalities, type_of_all, both_same, if_equalities, prefix_equalities, places, all_equalities, links_equalities, or_constant, expr_part, link_part, called_step, called}
use Rattle.zl_meaning.specs.FlatForm.{FlatForm}
use Rattle.zl_meaning.specs.WellFormed.{HasType}
use Rattle.zl_meaning.specs.declared.occurrence.Form.TheVariants.{Lit, Read, Last}
use Rattle.zl_flat.specs.declared.variable.Variable.{Variable}
use Rattle.zl_flat.specs.declared.here.Root.{Root}
use Rattle.zl_flat.specs.Variables.{variable_of}
use Rattle.zl_flat.specs.Instances.{Callee, Instance}
use Rattle.zl_flat.specs.Operators.{value_type, built_in_op}
use Rattle.zl_flat.specs.Expressions as walk
use Rattle.zl_flat.specs.Expressions.{Walk, LinkWalk, call_or_built_in, last_of, read, expr_walk, link_walk}
use Rattle.zl_flat.proofs.WellFormedParts.{all-left, all-right}
use Rattle.zl_flat.proofs.RulesKept.{none-left, none-right, kept-if, Covers}
use Rattle.zl_flat.proofs.WellFormedGrammar as grammar
use Rattle.zl_flat.proofs.WellFormedGrammar.{Written, IsWritten, AllWritten, expr_written, link_written}
use Rattle.zl_flat.proofs.WellFormedTypes.{RootsTyped, ArgumentsTyped, root-at-type}
use Rattle.zl_flat.proofs.WellFormedTypesExprs.{InfixTypes, PrefixTypes, WalkTyped, ResultsTyped, AllWalksTyped, LinkTyped, LinksTyped, CalleeTyped, last_type, walk-at-type, leaf-typed, chain-typed, built_in-typed, prefixed-typed, link-typed, conditional-typed, flow-typed, call-typed}

-- ---- what is known

-- A variable of a copy has the type that the assignment gives to its place in the text, and so has its place in the form.
pub record VariableTyped (f : FlatForm) (e : Environment) (a : Assignment) (id : ℕ) (v : Variable) : Type 0 where
  pub at : Pos
  pub is : e.variables id ≡ Some at
  pub typed : a at ≡ v.ty
  pub place : HasType f v.ty v.place

-- what the name stands for can be called, and its parameters and results have the types of their places in the text
pub record CanCallTyped (f : FlatForm) (base : ℕ) (callees : ℕ → Option Callee) (declared : Table Signature) (a : Assignment) (id : ℕ) : Type 0 where
  pub copy : Callee
  pub is : callees id ≡ Some copy
  pub params : List Pos
  pub first : Pos
  pub more : List Pos
  pub declared_is : declared id ≡ Some (record { params = params; results = first ∷ more })
  pub typed : CalleeTyped f base (map a params) (map a (first ∷ more)) copy

-- what is known of names, the instance has too, with its types
pub record KnowsTypes (f : FlatForm) (base : ℕ) (names : List (List ℕ)) (i : Instance) (k : Known) (e : Environment) (a : Assignment) : Type 0 where
  pub texts : e.names ≡ names
  pub variables : (id : ℕ) (v : Variable) → variable_of i.variables id ≡ Some v → VariableTyped f e a id v
  pub others : (id : ℕ) → variable_of i.variables id ≡ None → e.variables id ≡ None
  pub signatures : (id : ℕ) (s : used.Signature) → k.signature id ≡ Some s → built_in_op names id ≡ None → CanCallTyped f base i.callees e.declared a id
  pub constants : (id : ℕ) → among k.constants id ≡ true → CanCallTyped f base i.callees e.declared a id
  pub built_ins : (id : ℕ) (op : Op) → built_in_op names id ≡ Some op → (e.declared id ≡ None) × (k.signature id ≡ Some (1, 1))

-- no place has the type of an `up`
abbrev pub NoZero : Assignment → Type 0
NoZero a = (p : Pos) → a p ≡ Zero → ⊥

-- ---- lists

-- lists made of one list are of one length
pub same-length : {A B C : Type 0} (g : A → B) (h : A → C) (xs : List A) → length (map g xs) ≡ length (map h xs)
same-length g h [] = refl
same-length g h (x ∷ xs) = let e = same-length g h xs in omega (arith, e)

-- the last of some types is that of the last place
last-of-types : (a : Assignment) (p : Pos) (ps : List Pos) → last_type (a p) (map a ps) ≡ a (last_place p ps)
last-of-types a p [] = refl
last-of-types a p (q ∷ qs) = last-of-types a q qs

-- arguments have the types of parameters
arguments-typed : (f : FlatForm) (a : Assignment) (at : Pos) (ps qs : List Pos) (rs : List Root) → Solves (same_pairs at ps qs) a → RootsTyped f (map a ps) rs → ArgumentsTyped f (map a qs) rs
arguments-typed f a at [] [] rs m h = tt
arguments-typed f a at [] (q ∷ qs) [] m h = tt
arguments-typed f a at [] (q ∷ qs) (r ∷ rs) m h = absurd h
arguments-typed f a at (p ∷ ps) [] rs m h = tt
arguments-typed f a at (p ∷ ps) (q ∷ qs) [] m h = absurd h
arguments-typed f a at (p ∷ ps) (q ∷ qs) (r ∷ rs) m h = (root-at-type f (a p) (a q) r m.0 h.0, arguments-typed f a at ps qs rs m.1 h.1)

-- what the equalities of an infix operator say of types
infix-types : (a : Assignment) (o : Option Ty) (left at right : Pos) → Solves (infix_equalities o left at right) a → InfixTypes o (a left) (a right) (a at)
infix-types a (Some t) left at right m = (m.0, m.1.0, m.1.1.0, tt)
infix-types a None left at right m = (m.0, m.1.0, tt)

-- what the equalities of a prefix operator say of types
prefix-types : (a : Assignment) (op : Prefix) (at x : Pos) → Solves (prefix_equalities op at x) a → PrefixTypes op (a x) (a at)
prefix-types a prefix.Minus at x m = (m.0, m.1.0)
prefix-types a prefix.MinusDot at x m = (m.0, m.1.0)
prefix-types a prefix.Not at x m = (m.0, m.1.0)
prefix-types a prefix.Pre at x m = m.0

-- a node has the type of the place that was found
pub found-type : (a : Assignment) (at node p : Pos) (o : Option Pos) → o ≡ Some p → Solves (same_as_found at node o) a → a node ≡ a p
found-type a at node p None e m = absurd (none p e)
  where
    none : (p : Pos) → None ≡ Some p → ⊥
    none p e = cc
found-type a at node p (Some q) e m = m.0 ∙ ap a (same q e)
  where
    same : (q : Pos) → Some q ≡ Some p → q ≡ p
    same q e = cc

-- ---- built-in functions

-- the operator takes one operand, and has its types
record OneToOne (op : Op) (from to : Ty) : Type 0 where
  pub operands : (type_of op).operands ≡ from ∷ []
  pub result : (type_of op).result ≡ to

record BuiltIn (a : Assignment) (op : Op) (at : Pos) (args : List Pos) : Type 0 where
  pub from : Ty
  pub to : Ty
  pub types : OneToOne op from to
  pub arguments : AllByRecursion (λ p. a p ≡ from) args
  pub call : a at ≡ to

-- what is fixed to a type has it
fixed-types : (a : Assignment) (at : Pos) (t : Ty) (ps : List Pos) → Solves (map (types.fixed at t) ps) a → AllByRecursion (λ p. a p ≡ t) ps
fixed-types a at t [] m = tt
fixed-types a at t (p ∷ ps) m = (m.0, fixed-types a at t ps m.1)

-- what the equalities of a function from one type to another say
from-to : (a : Assignment) (op : Op) (at : Pos) (from to : Ty) (args : List Pos) → OneToOne op from to → Solves (from_to from to at args) a → BuiltIn a op at args
from-to a op at from to args o m = record {
  from = from;
  to = to;
  types = o;
  arguments = fixed-types a at from args (all-left (Meets a) (map (types.fixed at from) args) (types.fixed at to at ∷ []) m);
  call = (all-right (Meets a) (map (types.fixed at from) args) (types.fixed at to at ∷ []) m).0;
}

-- what the equalities of a call of a built-in function say
built-in : (a : Assignment) (names : List (List ℕ)) (x : Name) (args : List Pos) (op : Op) → built_in_op names x.id ≡ Some op → Solves (built_in_call names x args) a → BuiltIn a op x.at args
built-in a names x args op is m = by_text (has_text names x.id (codes "float_of_int")) (has_text names x.id (codes "truncate")) is m
  where
    same : (o : Op) → Some o ≡ Some op → o ≡ op
    same o e = cc

    none : None ≡ Some op → ⊥
    none e = cc

    by_text : (b c : Bool) → (if b then Some FloatOfInt else (if c then Some Truncate else None)) ≡ Some op → Solves (if b then from_to Int Float x.at args else (if c then from_to Float Int x.at args else [])) a → BuiltIn a op x.at args
    by_text true c e m = subst (λ o. BuiltIn a o x.at args) (same FloatOfInt e) (from-to a FloatOfInt x.at Int Float args (record { operands = refl; result = refl }) m)
    by_text false true e m = subst (λ o. BuiltIn a o x.at args) (same Truncate e) (from-to a Truncate x.at Float Int args (record { operands = refl; result = refl }) m)
    by_text false false e m = absurd (none e)

module _ (f : FlatForm) (base : ℕ) (names : List (List ℕ)) (i : Instance) (k : Known) (e : Environment) (a : Assignment) (nz : NoZero a) (knows : KnowsTypes f base names i k e a) where
  -- the results of the call that it is have the types of the called declaration's results
  pub record SeveralTyped (g : Name) (w : Walk) : Type 0 where
    pub params : List Pos
    pub results : List Pos
    pub declared_is : e.declared g.id ≡ Some (record { params = params; results = results })
    pub typed : ResultsTyped f base (map a results) w

  -- What is known of the walk of an expression with this place, which calls this, and of which so many results are wanted.
  pub record ExprKeeps (at : Pos) (c : Option Name) (wanted : ℕ) (w : Walk) : Type 0 where
    pub walk : WalkTyped f base (a at) w
    pub several : (g : Name) → c ≡ Some g → nat_eq wanted 1 ≡ false → SeveralTyped g w

  -- of what calls nothing the type alone is asked
  no-call : (at : Pos) (wanted : ℕ) (w : Walk) → WalkTyped f base (a at) w → ExprKeeps at None wanted w
  no-call at wanted w h = record { walk = h; several = λ g is d. absurd (none g is) }
    where
      none : (g : Name) → None ≡ Some g → ⊥
      none g is = cc

  -- ---- calls

  -- the argument of a built-in function has its type
  one-typed : (op : Op) (from to : Ty) (ps : List Pos) (ws : List Walk) → OneToOne op from to → AllByRecursion (λ p. a p ≡ from) ps → nat_eq (length ws) 1 ≡ true → AllWalksTyped f base (map a ps) ws → AllWalksTyped f base (type_of op).operands ws
  one-typed op from to ps [] o all one h = absurd (cc)
  one-typed op from to [] (w ∷ ws) o all one h = absurd h
  one-typed op from to (p ∷ []) (w ∷ []) o all one h = subst (λ ts. AllWalksTyped f base ts (w ∷ [])) (sym o.operands) (walk-at-type f base (a p) from w all.0 h.0, tt)
  one-typed op from to (p ∷ q ∷ ps) (w ∷ []) o all one h = absurd h.1
  one-typed op from to (p ∷ ps) (w ∷ v ∷ ws) o all one h = absurd (two (length ws) (eqb-true (length (w ∷ v ∷ ws)) 1 one))
    where
      two : (n : ℕ) → suc (suc n) ≡ 1 → ⊥
      two n e = omega (arith, e)

  -- two tests that hold together hold
  both-hold : (b c : Bool) → not (b && c) ≡ false → (b ≡ true) × (c ≡ true)
  both-hold true true h = (refl, refl)
  both-hold true false h = absurd (cc)
  both-hold false c h = absurd (cc)

  -- a call of a built-in function has the type of its place
  call-built_in : (op : Op) (x : Name) (ps : List Pos) (args : List Walk) (wanted : ℕ) → BuiltIn a op x.at ps → (nat_eq (length args) 1 ≡ true) × (nat_eq wanted 1 ≡ true) → AllWalksTyped f base (map a ps) args → ExprKeeps x.at (Some x) wanted (call_or_built_in base names i (Some op) x args)
  call-built_in op x ps args wanted b arity hs =
      let o = b.types in
      let to_call : (type_of op).result ≡ a x.at = o.result ∙ sym b.call in
      record {
        walk = walk-at-type f base (type_of op).result (a x.at) (λ here t. call_or_built_in base names i (Some op) x args here t) to_call
            (λ here t. built_in-typed f base names i op x.at args (λ z. nz x.at (sym to_call ∙ z)) (one-typed op b.from b.to ps args o b.arguments arity.0 hs) here t);
        several = λ g is d. absurd (differ (nat_eq wanted 1) arity.1 d);
      }
    where
      differ : (b : Bool) → b ≡ true → b ≡ false → ⊥
      differ b e d = cc

  -- a declaration with these places of parameters and results, as the environment has it
  call-declared : (x : Name) (ps : List Pos) (args : List Walk) (wanted : ℕ) (s : Option Signature) → e.declared x.id ≡ s → (c : CanCallTyped f base i.callees e.declared a x.id) → Solves (call_equalities e x ps s) a → AllWalksTyped f base (map a ps) args →
      ExprKeeps x.at (Some x) wanted (walk.call base names i x args)
  call-declared x ps args wanted None is c m hs = absurd (none (record { params = c.params; results = c.first ∷ c.more }) (sym is ∙ c.declared_is))
    where
      none : (s : Signature) → None ≡ Some s → ⊥
      none s e = cc
  call-declared x ps args wanted (Some s) is c m hs =
      let sig : Signature = record { params = c.params; results = c.first ∷ c.more } in
      let m2 = subst (λ t. Solves (call_equalities e x ps (Some t)) a) (same s sig (sym is ∙ c.declared_is)) m in
      let to_call : a c.first ≡ a x.at = sym (all-right (Meets a) (same_pairs x.at ps c.params) (types.same x.at x.at c.first ∷ []) m2).0 in
      let b = call-typed f base names i x args c.copy (map a ps) (map a c.params) (a c.first) (map a c.more) (nz c.first) c.is hs
      (λ rs h. arguments-typed f a x.at ps c.params rs (all-left (Meets a) (same_pairs x.at ps c.params) (types.same x.at x.at c.first ∷ []) m2) h) c.typed in
      record {
        walk = walk-at-type f base (a c.first) (a x.at) (walk.call base names i x args) to_call b.walk;
        several = λ g is d. subst (λ y. SeveralTyped y (walk.call base names i x args)) (same_name g is) (record { params = c.params; results = c.first ∷ c.more; declared_is = c.declared_is; typed = b.results });
      }
    where
      same : (s t : Signature) → Some s ≡ Some t → s ≡ t
      same s t e = cc

      same_name : (g : Name) → Some x ≡ Some g → x ≡ g
      same_name g e = cc

  -- a call that breaks no rule of names has the type of its place
  call-found : (o : Option Op) (x : Name) (ps : List Pos) (args : List Walk) (wanted : ℕ) (s : Option used.Signature) → built_in_op names x.id ≡ o → k.signature x.id ≡ s → call_broken s x (length args) wanted ≡ [] →
      Solves (call_equalities e x ps (e.declared x.id)) a → AllWalksTyped f base (map a ps) args → ExprKeeps x.at (Some x) wanted (call_or_built_in base names i o x args)
  call-found (Some op) x ps args wanted s is sig h m hs =
      let b = knows.built_ins x.id op is in
      let m2 = subst (λ d. Solves (call_equalities e x ps d) a) b.0 m in
      let m3 = subst (λ ns. Solves (built_in_call ns x ps) a) knows.texts m2 in
      let h2 = subst (λ t. call_broken t x (length args) wanted ≡ []) (sym sig ∙ b.1) h in
      call-built_in op x ps args wanted (built-in a names x ps op is m3)
      (both-hold (nat_eq (length args) 1) (nat_eq wanted 1) (kept-if (not (nat_eq (length args) 1 && nat_eq wanted 1)) rule.Arity x.at h2)) hs
  call-found None x ps args wanted None is sig h m hs = absurd (cc)
  call-found None x ps args wanted (Some s) is sig h m hs = call-declared x ps args wanted (e.declared x.id) refl (knows.signatures x.id s sig is) m hs

  -- ---- names

  -- a name that finds no variable is a constant
  or-constant : (s : Option Signature) (o : Option Pos) → o ≡ None → or_constant o s ≡ first_result s
  or-constant s None is = refl
  or-constant s (Some p) is = absurd (some p is)
    where
      some : (p : Pos) → Some p ≡ None → ⊥
      some p e = cc

  -- a name that finds a variable is that
  variable-of : (s : Option Signature) (p : Pos) (o : Option Pos) → o ≡ Some p → or_constant o s ≡ Some p
  variable-of s p None is = absurd (none p is)
    where
      none : (p : Pos) → None ≡ Some p → ⊥
      none p e = cc
  variable-of s p (Some q) is = is

  -- a constant has the type of its place
  constant-typed : (x : Name) → CanCallTyped f base i.callees e.declared a x.id → e.variables x.id ≡ None → Solves (same_as_found x.at x.at (or_constant (e.variables x.id) (e.declared x.id))) a → WalkTyped f base (a x.at) (walk.call base names i x [])
  constant-typed x c free m =
      let m2 = subst (λ o. Solves (same_as_found x.at x.at o) a) (or-constant (e.declared x.id) (e.variables x.id) free ∙ ap first_result c.declared_is) m in
      let b = call-typed f base names i x [] c.copy [] (map a c.params) (a c.first) (map a c.more) (nz c.first) c.is tt (λ rs h. no_arguments (map a c.params) rs h) c.typed in
      walk-at-type f base (a c.first) (a x.at) (walk.call base names i x []) (sym m2.0) b.walk
    where
      no_arguments : (tys : List Ty) (rs : List Root) → RootsTyped f [] rs → ArgumentsTyped f tys rs
      no_arguments [] rs h = tt
      no_arguments (ty ∷ tys) [] h = tt
      no_arguments (ty ∷ tys) (r ∷ rs) h = absurd h

  -- a name that is read has the type of its place
  read-found : (v : Option Variable) (x : Name) (visible : List ℕ) (b c : Bool) → variable_of i.variables x.id ≡ v → among visible x.id ≡ b → among k.constants x.id ≡ c → not (b || c) ≡ false → Covers i visible →
      Solves (same_as_found x.at x.at (or_constant (e.variables x.id) (e.declared x.id))) a → WalkTyped f base (a x.at) (read base names i v x)
  read-found (Some v) x visible b c is eb ec h covers m =
      let t = knows.variables x.id v is in
      let own : v.ty ≡ a x.at = sym (found-type a x.at x.at t.at (or_constant (e.variables x.id) (e.declared x.id)) (variable-of (e.declared x.id) t.at (e.variables x.id) t.is) m ∙ t.typed) in
      walk-at-type f base v.ty (a x.at) (λ here s. read base names i (Some v) x here s) own (λ here s. leaf-typed f base v.ty x.at (Read v.place) (λ z. nz x.at (sym own ∙ z)) t.place here s)
  read-found None x visible true c is eb ec h covers m = let v = covers x.id eb in let e = v.is in absurd (no_variable v.variable (sym is ∙ e))
    where
      no_variable : (v : Variable) → None ≡ Some v → ⊥
      no_variable v h = cc
  read-found None x visible false true is eb ec h covers m = constant-typed x (knows.constants x.id ec) (knows.others x.id is) m
  read-found None x visible false false is eb ec h covers m = absurd (cc)

  -- a `last` has the type of its place
  last-found : (v : Option Variable) (x : Name) (at : Pos) (visible : List ℕ) (b : Bool) → variable_of i.variables x.id ≡ v → among visible x.id ≡ b → not b ≡ false → Covers i visible → Solves (same_as_found at at (e.variables x.id)) a →
      WalkTyped f base (a at) (λ here s. last_of v here at s)
  last-found (Some v) x at visible b is eb h covers m =
      let t = knows.variables x.id v is in
      let own : v.ty ≡ a at = sym (found-type a at at t.at (e.variables x.id) t.is m ∙ t.typed) in
      walk-at-type f base v.ty (a at) (λ here s. last_of (Some v) here at s) own (λ here s. leaf-typed f base v.ty at (Last v.place) (λ z. nz at (sym own ∙ z)) t.place here s)
  last-found None x at visible true is eb h covers m = let v = covers x.id eb in let e = v.is in absurd (no_variable v.variable (sym is ∙ e))
    where
      no_variable : (v : Variable) → None ≡ Some v → ⊥
      no_variable v h = cc
  last-found None x at visible false is eb h covers m = absurd (cc)

  -- ---- trees

  abbrev pub ExprTyped : Expr → Type 0
  ExprTyped x = (wanted : ℕ) (visible : List ℕ) → Covers i visible → expr_uses k x wanted visible ≡ [] → AllWritten (expr_written x) → Solves (expr_part e x).equalities a → ExprKeeps (expr_part e x).at (called x) wanted (expr_walk base names i x)

  abbrev pub LinkTreeTyped : Link → Type 0
  LinkTreeTyped l = (visible : List ℕ) → Covers i visible → link_uses k l visible ≡ [] → AllWritten (link_written l) → (left : Pos) → Solves (infix_equalities (type_of_all (link_part e l).op) left (link_part e l).at (link_part e l).right.at) a → Solves (link_part e l).right.equalities a →
      LinkTyped f base (a left) (a (link_part e l).at) (link_walk base names i l)

  -- what is known of the parts of an expression
  abbrev TheExpr : Type 0
  TheExpr = (x : Expr) × ExprTyped x

  abbrev TheLink : Type 0
  TheLink = (l : Link) × LinkTreeTyped l

  -- each argument has the type of its place
  args-typed : (xs : List TheExpr) (visible : List ℕ) → Covers i visible → each_value (map (expr_uses k) (map (λ x. x.0) xs)) visible ≡ [] → AllWritten (joined (map expr_written (map (λ x. x.0) xs))) → Solves (all_equalities (map (expr_part e) (map (λ x. x.0) xs))) a →
      AllWalksTyped f base (map a (places (map (expr_part e) (map (λ x. x.0) xs)))) (map (expr_walk base names i) (map (λ x. x.0) xs))
  args-typed [] visible c h w m = tt
  args-typed (x ∷ xs) visible c h w m =
      let first = expr_uses k x.0 1 visible in
      let rest = each_value (map (expr_uses k) (map (λ x. x.0) xs)) visible in
      let one = (expr_part e x.0).equalities in
      let others = all_equalities (map (expr_part e) (map (λ x. x.0) xs)) in
      let own = expr_written x.0 in
      let behind = joined (map expr_written (map (λ x. x.0) xs)) in
      let b = x.1 1 visible c (none-left first rest h) (all-left IsWritten own behind w) (all-left (Meets a) one others m) in
      (b.walk, args-typed xs visible c (none-right first rest h) (all-right IsWritten own behind w) (all-right (Meets a) one others m))

  -- each operator of a chain takes the type of the one before it
  links-of : (ls : List TheLink) (visible : List ℕ) → Covers i visible → all_uses (map (link_uses k) (map (λ l. l.0) ls)) visible ≡ [] → AllWritten (joined (map link_written (map (λ l. l.0) ls))) → (left : Pos) → Solves (links_equalities left (map (link_part e) (map (λ l. l.0) ls))) a →
      LinksTyped f base (a left) (map a (map (λ l. l.at) (map (link_part e) (map (λ l. l.0) ls)))) (map (link_walk base names i) (map (λ l. l.0) ls))
  links-of [] visible c h w left m = tt
  links-of (l ∷ ls) visible c h w left m =
      let first = link_uses k l.0 visible in
      let rest = all_uses (map (link_uses k) (map (λ l. l.0) ls)) visible in
      let p = link_part e l.0 in
      let own = infix_equalities (type_of_all p.op) left p.at p.right.at in
      let more = links_equalities p.at (map (link_part e) (map (λ l. l.0) ls)) in
      let behind = all-right (Meets a) own (p.right.equalities ++ more) m in
      let in_first = link_written l.0 in
      let in_rest = joined (map link_written (map (λ l. l.0) ls)) in (
        l.1 visible c (none-left first rest h) (all-left IsWritten in_first in_rest w) left (all-left (Meets a) own (p.right.equalities ++ more) m) (all-left (Meets a) p.right.equalities more behind),
        links-of ls visible c (none-right first rest h) (all-right IsWritten in_first in_rest w) p.at (all-right (Meets a) p.right.equalities more behind),
      )

  -- a literal has the type of its place
  value-typed : (v : Value) (at : Pos) → IsOfType (value_type v) v → a at ≡ types.type_of v → WalkTyped f base (a at) (λ here s. walk.leaf here (value_type v) at (Lit v) s)
  value-typed v at fits h =
      let own : value_type v ≡ a at = same v ∙ sym h in
      walk-at-type f base (value_type v) (a at) (λ here s. walk.leaf here (value_type v) at (Lit v) s) own (leaf-typed f base (value_type v) at (Lit v) (λ z. nz at (sym own ∙ z)) fits)
    where
      same : (v : Value) → value_type v ≡ types.type_of v
      same (B b) = refl
      same (I n) = refl
      same (F r) = refl

  -- one form of an expression, where its parts have the types of their places
  expr-layer : (y : Expr-F TheExpr TheLink) (wanted : ℕ) (visible : List ℕ) → Covers i visible →
      used.expr_step k (map-Expr Expr Link (ℕ → Uses) Uses (expr_uses k) (link_uses k) (map-Expr TheExpr TheLink Expr Link (λ x. x.0) (λ l. l.0) y)) wanted visible ≡ [] →
      AllWritten (grammar.expr_step (map-Expr Expr Link (List Written) (List Written) expr_written link_written (map-Expr TheExpr TheLink Expr Link (λ x. x.0) (λ l. l.0) y))) →
      Solves (types.expr_step e (map-Expr Expr Link Part LinkPart (expr_part e) (link_part e) (map-Expr TheExpr TheLink Expr Link (λ x. x.0) (λ l. l.0) y))).equalities a →
      ExprKeeps (types.expr_step e (map-Expr Expr Link Part LinkPart (expr_part e) (link_part e) (map-Expr TheExpr TheLink Expr Link (λ x. x.0) (λ l. l.0) y))).at
      (called_step (map-Expr Expr Link (Option Name) (Option Name) called (fold-Link (Option Name) (Option Name) called_step (λ l. None)) (map-Expr TheExpr TheLink Expr Link (λ x. x.0) (λ l. l.0) y))) wanted
      (walk.expr_step base names i (map-Expr Expr Link Walk LinkWalk (expr_walk base names i) (link_walk base names i) (map-Expr TheExpr TheLink Expr Link (λ x. x.0) (λ l. l.0) y)))
  expr-layer (open_expr.Lit v at) wanted visible c h w m = no-call at wanted (λ here s. walk.leaf here (value_type v) at (Lit v) s) (value-typed v at w.0 m.0)
  expr-layer (open_expr.Var x) wanted visible c h w m =
      no-call x.at wanted (λ here s. read base names i (variable_of i.variables x.id) x here s)
      (read-found (variable_of i.variables x.id) x visible (among visible x.id) (among k.constants x.id) refl refl refl (kept-if (not (among visible x.id || among k.constants x.id)) rule.NameUnknown x.at h) c m)
  expr-layer (open_expr.Last x at) wanted visible c h w m =
      no-call at wanted (λ here s. last_of (variable_of i.variables x.id) here at s)
      (last-found (variable_of i.variables x.id) x at visible (among visible x.id) refl refl
      (kept-if (not (among visible x.id)) rule.NameUnknown x.at (none-left (broken_if (not (among visible x.id)) rule.NameUnknown x.at) (broken_if (among k.parameters x.id) rule.Last at) h)) c m)
  expr-layer (open_expr.Call x args) wanted visible c h w m =
      let uses = map (expr_uses k) (map (λ x. x.0) args) in
      let walks = map (expr_walk base names i) (map (λ x. x.0) args) in
      let parts = map (expr_part e) (map (λ x. x.0) args) in
      let broken = call_broken (k.signature x.id) x (length uses) wanted in
      let rest = each_value uses visible in
      let own = call_equalities e x (places parts) (e.declared x.id) in
      call-found (built_in_op names x.id) x (places parts) walks wanted (k.signature x.id) refl refl
      (subst (λ n. call_broken (k.signature x.id) x n wanted ≡ []) (same-length (expr_uses k) (expr_walk base names i) (map (λ x. x.0) args)) (none-left broken rest h))
      (all-left (Meets a) own (all_equalities parts) m)
      (args-typed args visible c (none-right broken rest h) w (all-right (Meets a) own (all_equalities parts) m))
  expr-layer (open_expr.Prefix op at x) wanted visible c h w m =
      let p = expr_part e x.0 in
      let own = prefix_equalities op at p.at in
      no-call at wanted (λ here s. walk.prefixed base names i op at (expr_walk base names i x.0) here s)
      (prefixed-typed f base names i op at (a p.at) (a at) (expr_walk base names i x.0) (nz at) (prefix-types a op at p.at (all-left (Meets a) own p.equalities m)) (x.1 1 visible c h w (all-right (Meets a) own p.equalities m)).walk)
  expr-layer (open_expr.Chain x ls) wanted visible c h w m =
      let first = expr_uses k x.0 1 visible in
      let rest = all_uses (map (link_uses k) (map (λ l. l.0) ls)) visible in
      let p = expr_part e x.0 in
      let ats = map (λ l. l.at) (map (link_part e) (map (λ l. l.0) ls)) in
      let more = links_equalities p.at (map (link_part e) (map (λ l. l.0) ls)) in
      let own = expr_written x.0 in
      let others = joined (map link_written (map (λ l. l.0) ls)) in
      let chained : Walk = λ here s. walk.chain (expr_walk base names i x.0) (map (link_walk base names i) (map (λ l. l.0) ls)) here s in
      no-call (last_place p.at ats) wanted chained
      (walk-at-type f base (last_type (a p.at) (map a ats)) (a (last_place p.at ats)) chained (last-of-types a p.at ats)
      (chain-typed f base (a p.at) (map a ats) (expr_walk base names i x.0) (map (link_walk base names i) (map (λ l. l.0) ls))
      (x.1 1 visible c (none-left first rest h) (all-left IsWritten own others w) (all-left (Meets a) p.equalities more m)).walk
      (links-of ls visible c (none-right first rest h) (all-right IsWritten own others w) p.at (all-right (Meets a) p.equalities more m))))
  expr-layer (open_expr.Flow op at x y) wanted visible c h w m =
      let first = expr_uses k x.0 1 visible in
      let rest = expr_uses k y.0 1 visible in
      let p = expr_part e x.0 in
      let q = expr_part e y.0 in
      let own = both_same at p.at q.at in
      let behind = all-right (Meets a) p.equalities (own ++ q.equalities) m in
      let mine = all-left (Meets a) own q.equalities behind in
      let flow : Walk = λ here s. walk.flow_walk base names i op at (expr_walk base names i x.0) (expr_walk base names i y.0) here s in
      no-call at wanted flow
      (flow-typed f base names i op at (a at) (expr_walk base names i x.0) (expr_walk base names i y.0) (nz at)
      (walk-at-type f base (a p.at) (a at) (expr_walk base names i x.0) (sym mine.0) (x.1 1 visible c (none-left first rest h) (all-left IsWritten (expr_written x.0) (expr_written y.0) w) (all-left (Meets a) p.equalities (own ++ q.equalities) m)).walk)
      (walk-at-type f base (a q.at) (a at) (expr_walk base names i y.0) (sym mine.1.0) (y.1 1 visible c (none-right first rest h) (all-right IsWritten (expr_written x.0) (expr_written y.0) w) (all-right (Meets a) own q.equalities behind)).walk))
  expr-layer (open_expr.If at z x y) wanted visible c h w m =
      let test = expr_uses k z.0 1 visible in
      let first = expr_uses k x.0 1 visible in
      let rest = expr_uses k y.0 1 visible in
      let behind = none-right test (first ++ rest) h in
      let o = expr_part e z.0 in
      let p = expr_part e x.0 in
      let q = expr_part e y.0 in
      let own = if_equalities at o.at p.at q.at in
      let mine = all-left (Meets a) own (o.equalities ++ (p.equalities ++ q.equalities)) m in
      let parts = all-right (Meets a) own (o.equalities ++ (p.equalities ++ q.equalities)) m in
      let branches = all-right (Meets a) o.equalities (p.equalities ++ q.equalities) parts in
      let in_test = expr_written z.0 in
      let in_first = expr_written x.0 in
      let in_rest = expr_written y.0 in
      let written = all-right IsWritten in_test (in_first ++ in_rest) w in
      let conditional : Walk = λ here s. walk.conditional base names i at (expr_walk base names i z.0) (expr_walk base names i x.0) (expr_walk base names i y.0) here s in
      no-call at wanted conditional
      (conditional-typed f base names i at (a at) (expr_walk base names i z.0) (expr_walk base names i x.0) (expr_walk base names i y.0) (nz at)
      (walk-at-type f base (a o.at) BoolTy (expr_walk base names i z.0) mine.0 (z.1 1 visible c (none-left test (first ++ rest) h) (all-left IsWritten in_test (in_first ++ in_rest) w) (all-left (Meets a) o.equalities (p.equalities ++ q.equalities) parts)).walk)
      (walk-at-type f base (a p.at) (a at) (expr_walk base names i x.0) (sym mine.1.0) (x.1 1 visible c (none-left first rest behind) (all-left IsWritten in_first in_rest written) (all-left (Meets a) p.equalities q.equalities branches)).walk)
      (walk-at-type f base (a q.at) (a at) (expr_walk base names i y.0) (sym mine.1.1.0) (y.1 1 visible c (none-right first rest behind) (all-right IsWritten in_first in_rest written) (all-right (Meets a) p.equalities q.equalities branches)).walk))

  -- an operator with its right operand, where that has the type of its place
  link-layer : (y : Link-F TheExpr TheLink) (visible : List ℕ) → Covers i visible →
      used.link_step k (map-Link Expr Link (ℕ → Uses) Uses (expr_uses k) (link_uses k) (map-Link TheExpr TheLink Expr Link (λ x. x.0) (λ l. l.0) y)) visible ≡ [] →
      AllWritten (grammar.link_step (map-Link Expr Link (List Written) (List Written) expr_written link_written (map-Link TheExpr TheLink Expr Link (λ x. x.0) (λ l. l.0) y))) → (left : Pos) →
      Solves (infix_equalities (type_of_all y.op) left y.at (expr_part e y.arg.0).at) a → Solves (expr_part e y.arg.0).equalities a →
      LinkTyped f base (a left) (a y.at) (walk.link_step base names i (map-Link Expr Link Walk LinkWalk (expr_walk base names i) (link_walk base names i) (map-Link TheExpr TheLink Expr Link (λ x. x.0) (λ l. l.0) y)))
  link-layer y visible c h w left m n =
      link-typed f base y.op y.at (a left) (a (expr_part e y.arg.0).at) (a y.at) (expr_walk base names i y.arg.0) (nz left) (nz y.at) (infix-types a (type_of_all y.op) left y.at (expr_part e y.arg.0).at m) (y.arg.1 1 visible c h w n).walk

  -- an expression has the type of its place, and its walk keeps types
  pub expr-typed : (x : Expr) → ExprTyped x
  unfolding expr_uses link_uses expr_walk link_walk expr_part link_part called expr_written link_written
  expr-typed = ind-Expr ExprTyped LinkTreeTyped
      (λ x y is.
      subst (λ z. ExprTyped (roll-Expr z)) is
      (λ wanted visible c h w m.
      let z = map-Expr TheExpr TheLink Expr Link (λ e. e.0) (λ l. l.0) y in
      let p = fold-roll-Expr Part LinkPart (types.expr_step e) (types.link_step e) z in
      subst (λ v. ExprKeeps (expr_part e (roll-Expr z)).at (called (roll-Expr z)) wanted v) (sym (fold-roll-Expr Walk LinkWalk (walk.expr_step base names i) (walk.link_step base names i) z))
      (subst (λ v. ExprKeeps (expr_part e (roll-Expr z)).at v wanted (walk.expr_step base names i (map-Expr Expr Link Walk LinkWalk (expr_walk base names i) (link_walk base names i) z))) (sym (fold-roll-Expr (Option Name) (Option Name) called_step (λ l. None) z))
      (subst (λ (v : Part). ExprKeeps v.at (called_step (map-Expr Expr Link (Option Name) (Option Name) called (fold-Link (Option Name) (Option Name) called_step (λ l. None)) z)) wanted (walk.expr_step base names i (map-Expr Expr Link Walk LinkWalk (expr_walk base names i) (link_walk base names i) z))) (sym p)
      (expr-layer y wanted visible c
      (subst (λ (u : ℕ → Uses). u wanted visible ≡ []) (fold-roll-Expr (ℕ → Uses) Uses (used.expr_step k) (used.link_step k) z) h)
      (subst AllWritten (fold-roll-Expr (List Written) (List Written) grammar.expr_step grammar.link_step z) w)
      (subst (λ (v : Part). Solves v.equalities a) p m))))))
      (λ x y is.
      subst (λ z. LinkTreeTyped (roll-Link z)) is
      (λ visible c h w left m n.
      let z = map-Link TheExpr TheLink Expr Link (λ e. e.0) (λ l. l.0) y in
      let p = fold-roll-Link Part LinkPart (types.expr_step e) (types.link_step e) z in
      subst (λ v. LinkTyped f base (a left) (a (link_part e (roll-Link z)).at) v) (sym (fold-roll-Link Walk LinkWalk (walk.expr_step base names i) (walk.link_step base names i) z))
      (subst (λ (v : LinkPart). LinkTyped f base (a left) (a v.at) (walk.link_step base names i (map-Link Expr Link Walk LinkWalk (expr_walk base names i) (link_walk base names i) z))) (sym p)
      (link-layer y visible c
      (subst (λ (u : Uses). u visible ≡ []) (fold-roll-Link (ℕ → Uses) Uses (used.expr_step k) (used.link_step k) z) h)
      (subst AllWritten (fold-roll-Link (List Written) (List Written) grammar.expr_step grammar.link_step z) w)
      left
      (subst (λ (v : LinkPart). Solves (infix_equalities (type_of_all v.op) left v.at v.right.at) a) p m)
      (subst (λ (v : LinkPart). Solves v.right.equalities a) p n)))))
