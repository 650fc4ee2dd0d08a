-- What the walk of an expression makes keeps what a flat form keeps of types, form by form.
use Rattle.std.proofs.Common.{◌≡◌, ℕ, ◌+◌, List, [], ◌∷◌, slice_get, Option, Some, None, refl, sym, subst, ◌∙◌}
use Rattle.zl_value.specs.declared.position.Pos.{Pos}
use Rattle.zl_value.specs.declared.value.Ty.{Ty}
use Rattle.zl_value.specs.declared.value.Ty.TheVariants.{Bool as BoolTy, Int, Float, Zero}
use Rattle.zl_value.specs.declared.op.Op.{Op}
use Rattle.zl_value.specs.OperatorTypes.{type_of}
use Rattle.zl_ast.specs.declared.name.Name.{Name}
use Rattle.zl_ast.specs.declared.operator.Prefix.{Prefix}
use Rattle.zl_ast.specs.declared.operator.Prefix.TheVariants as prefix
use Rattle.zl_ast.specs.declared.operator.Infix.{Infix}
use Rattle.zl_ast.specs.declared.operator.Infix.TheVariants as infix_op
use Rattle.zl_ast.specs.declared.operator.FlowOp.{FlowOp}
use Rattle.zl_ast.specs.declared.operator.FlowOp.TheVariants as flow
use Rattle.zl_ast.specs.TypeEqualities.{type_of_all}
use Rattle.zl_meaning.specs.FlatForm.{FlatForm}
use Rattle.zl_meaning.specs.declared.occurrence.Form.{Form}
use Rattle.zl_meaning.specs.declared.occurrence.Form.TheVariants.{Op as Apply, If, Arrow, Pre, Result}
use Rattle.zl_meaning.specs.declared.occurrence.Occ.{Occ}
use Rattle.zl_flat.specs.declared.here.Here.{Here}
use Rattle.zl_flat.specs.declared.here.Root.{Root}
use Rattle.zl_flat.specs.Parts.{Parts, Counters, joined, one_occ, one_hidden, after, past_occ, past_hidden}
use Rattle.zl_flat.specs.Instances.{Copy, Callee, Instance, in_call, occ_here, callee, first_root, root_occs}
use Rattle.zl_flat.specs.Operators.{infix_form, prefix_form, prefix_type}
use Rattle.zl_flat.specs.Expressions.{Walk, Walked, WalkedAll, walk_all, one_result, leaf, LinkWalk, Linked, links, chain, call, built_in, prefixed, arrow, followed, flow_walk, conditional}
use Rattle.zl_flat.proofs.WellFormedParts.{each-nothing, each-joined, each-left, each-right, occ-first, behind-occ, hidden-first, behind-hidden, each-one_occ, the_occ}
use Rattle.zl_flat.proofs.WellFormedGround.{standing, Sits}
use Rattle.zl_flat.proofs.WellFormedTypes.{OfType, AllOfType, FormTyped, OccurrenceTyped, typing, KeepsTypes, RootTyped, RootsTyped, ArgumentsTyped, at-type, root-at-type}

-- ---- operators

-- what is said of the types of an operator's operands and result, where all of them have the one type, or else of those of a
-- comparison
abbrev pub InfixTypes : Option Ty → Ty → Ty → Ty → Type 0
InfixTypes (Some t) left right to = (left ≡ t) × (right ≡ t) × (to ≡ t) × Unit {0}
InfixTypes None left right to = (left ≡ right) × (to ≡ BoolTy) × Unit {0}

-- the operator that stands for it takes operands of these types and gives the result's
pub record Takes (op : Op) (left right to : Ty) : Type 0 where
  pub operands : (type_of op).operands ≡ left ∷ right ∷ []
  pub result : (type_of op).result ≡ to

-- an operator of one type
all-of : (op : Op) (t left right to : Ty) → (type_of op).operands ≡ t ∷ t ∷ [] → (type_of op).result ≡ t → InfixTypes (Some t) left right to → Takes op left right to
all-of op t left right to os r h = record { operands = os ∙ two_of (sym h.0) (sym h.1); result = r ∙ sym h.2 }
  where
    two_of : t ≡ left → t ≡ right → t ∷ t ∷ [] ≡ left ∷ right ∷ []
    two_of e d = cc

-- a comparison of two values of one type
comparison-of : (op : Op) (left right to : Ty) → (type_of op).operands ≡ left ∷ left ∷ [] → (type_of op).result ≡ BoolTy → InfixTypes None left right to → Takes op left right to
comparison-of op left right to os r h = record { operands = os ∙ second h.0; result = r ∙ sym h.1 }
  where
    second : left ≡ right → left ∷ left ∷ [] ≡ left ∷ right ∷ []
    second e = cc

-- an infix operator stands for one that takes these types
pub infix-takes : (op : Infix) (left right to : Ty) → (left ≡ Zero → ⊥) → InfixTypes (type_of_all op) left right to → Takes (infix_form op left) left right to
infix-takes infix_op.Or left right to z h = all-of (infix_form infix_op.Or left) BoolTy left right to refl refl h
infix-takes infix_op.And left right to z h = all-of (infix_form infix_op.And left) BoolTy left right to refl refl h
infix-takes infix_op.Equal BoolTy right to z h = comparison-of (infix_form infix_op.Equal BoolTy) BoolTy right to refl refl h
infix-takes infix_op.Equal Int right to z h = comparison-of (infix_form infix_op.Equal Int) Int right to refl refl h
infix-takes infix_op.Equal Float right to z h = comparison-of (infix_form infix_op.Equal Float) Float right to refl refl h
infix-takes infix_op.Equal Zero right to z h = absurd (z refl)
infix-takes infix_op.Unequal BoolTy right to z h = comparison-of (infix_form infix_op.Unequal BoolTy) BoolTy right to refl refl h
infix-takes infix_op.Unequal Int right to z h = comparison-of (infix_form infix_op.Unequal Int) Int right to refl refl h
infix-takes infix_op.Unequal Float right to z h = comparison-of (infix_form infix_op.Unequal Float) Float right to refl refl h
infix-takes infix_op.Unequal Zero right to z h = absurd (z refl)
infix-takes infix_op.Less BoolTy right to z h = comparison-of (infix_form infix_op.Less BoolTy) BoolTy right to refl refl h
infix-takes infix_op.Less Int right to z h = comparison-of (infix_form infix_op.Less Int) Int right to refl refl h
infix-takes infix_op.Less Float right to z h = comparison-of (infix_form infix_op.Less Float) Float right to refl refl h
infix-takes infix_op.Less Zero right to z h = absurd (z refl)
infix-takes infix_op.AtMost BoolTy right to z h = comparison-of (infix_form infix_op.AtMost BoolTy) BoolTy right to refl refl h
infix-takes infix_op.AtMost Int right to z h = comparison-of (infix_form infix_op.AtMost Int) Int right to refl refl h
infix-takes infix_op.AtMost Float right to z h = comparison-of (infix_form infix_op.AtMost Float) Float right to refl refl h
infix-takes infix_op.AtMost Zero right to z h = absurd (z refl)
infix-takes infix_op.Greater BoolTy right to z h = comparison-of (infix_form infix_op.Greater BoolTy) BoolTy right to refl refl h
infix-takes infix_op.Greater Int right to z h = comparison-of (infix_form infix_op.Greater Int) Int right to refl refl h
infix-takes infix_op.Greater Float right to z h = comparison-of (infix_form infix_op.Greater Float) Float right to refl refl h
infix-takes infix_op.Greater Zero right to z h = absurd (z refl)
infix-takes infix_op.AtLeast BoolTy right to z h = comparison-of (infix_form infix_op.AtLeast BoolTy) BoolTy right to refl refl h
infix-takes infix_op.AtLeast Int right to z h = comparison-of (infix_form infix_op.AtLeast Int) Int right to refl refl h
infix-takes infix_op.AtLeast Float right to z h = comparison-of (infix_form infix_op.AtLeast Float) Float right to refl refl h
infix-takes infix_op.AtLeast Zero right to z h = absurd (z refl)
infix-takes infix_op.Plus left right to z h = all-of (infix_form infix_op.Plus left) Int left right to refl refl h
infix-takes infix_op.Minus left right to z h = all-of (infix_form infix_op.Minus left) Int left right to refl refl h
infix-takes infix_op.PlusDot left right to z h = all-of (infix_form infix_op.PlusDot left) Float left right to refl refl h
infix-takes infix_op.MinusDot left right to z h = all-of (infix_form infix_op.MinusDot left) Float left right to refl refl h
infix-takes infix_op.Star left right to z h = all-of (infix_form infix_op.Star left) Int left right to refl refl h
infix-takes infix_op.Slash left right to z h = all-of (infix_form infix_op.Slash left) Int left right to refl refl h
infix-takes infix_op.Mod left right to z h = all-of (infix_form infix_op.Mod left) Int left right to refl refl h
infix-takes infix_op.StarDot left right to z h = all-of (infix_form infix_op.StarDot left) Float left right to refl refl h
infix-takes infix_op.SlashDot left right to z h = all-of (infix_form infix_op.SlashDot left) Float left right to refl refl h

-- the type of a prefix operator's operand, and of its result
abbrev pub PrefixTypes : Prefix → Ty → Ty → Type 0
PrefixTypes prefix.Minus of to = (of ≡ Int) × (to ≡ Int)
PrefixTypes prefix.MinusDot of to = (of ≡ Float) × (to ≡ Float)
PrefixTypes prefix.Not of to = (of ≡ BoolTy) × (to ≡ BoolTy)
PrefixTypes prefix.Pre of to = to ≡ of

-- ---- what a walk keeps

pub record WalkTypes (f : FlatForm) (ty : Ty) (s : Counters) (w : Walked) : Type 0 where
  pub parts : KeepsTypes f s w.parts
  pub root : RootTyped f ty w.root

pub record AllTypes (f : FlatForm) (tys : List Ty) (s : Counters) (w : WalkedAll) : Type 0 where
  pub parts : KeepsTypes f s w.parts
  pub roots : RootsTyped f tys w.roots

pub record LinkedTypes (f : FlatForm) (ty : Ty) (s : Counters) (w : Linked) : Type 0 where
  pub parts : KeepsTypes f s w.parts
  pub root : RootTyped f ty w.root

pub record CopyTypes (f : FlatForm) (tys : List Ty) (s : Counters) (c : Copy) : Type 0 where
  pub parts : KeepsTypes f s c.parts
  pub results : RootsTyped f tys c.results

-- the type of the last result, or of what stands before the operators where there is none
abbrev pub last_type : Ty → List Ty → Ty
last_type from [] = from
last_type from (to ∷ tys) = last_type to tys

module _ (f : FlatForm) (base : ℕ) where
  -- what the walk gives has this type
  abbrev pub WalkTyped : Ty → Walk → Type 0
  WalkTyped ty w = (here : Here) (s : Counters) → Sits f base s (w here s).parts → WalkTypes f ty s (w here s)

  -- the results of the call that it is have these types
  abbrev pub ResultsTyped : List Ty → Walk → Type 0
  ResultsTyped tys w = (here : Here) (s : Counters) → Sits f base s (w here s).parts → RootsTyped f tys (w here s).results

  -- one by one
  abbrev pub AllWalksTyped : List Ty → List Walk → Type 0
  AllWalksTyped [] [] = Unit {0}
  AllWalksTyped (ty ∷ tys) (w ∷ ws) = WalkTyped ty w × AllWalksTyped tys ws
  AllWalksTyped _ _ = ⊥

  -- an operator with its right operand, between a left operand of the one type and a result of the other
  abbrev pub LinkTyped : Ty → Ty → LinkWalk → Type 0
  LinkTyped from to l = (here : Here) (left : Root) (s : Counters) → RootTyped f from left → Sits f base s (l here left s).parts → WalkTypes f to s (l here left s)

  -- operators one behind the other, with the types of their results
  abbrev pub LinksTyped : Ty → List Ty → List LinkWalk → Type 0
  LinksTyped from [] [] = Unit {0}
  LinksTyped from (to ∷ tys) (l ∷ ls) = LinkTyped from to l × LinksTyped to tys ls
  LinksTyped from _ _ = ⊥

  -- a declaration that can be called, with the types of its parameters and results
  abbrev pub CalleeTyped : List Ty → List Ty → Callee → Type 0
  CalleeTyped params results c = (here : Here) (roots : List Root) (s : Counters) → ArgumentsTyped f params roots → Sits f base s (c here roots s).parts → CopyTypes f results s (c here roots s)

  -- at a type equal to its own
  pub walk-at-type : (ty to : Ty) (w : Walk) → ty ≡ to → WalkTyped ty w → WalkTyped to w
  walk-at-type ty to w e h here s sits = let a = h here s sits in record { parts = a.parts; root = root-at-type f ty to (w here s).root e a.root }

  -- walks one behind the other have their types
  pub walk_all-typed : (tys : List Ty) (ws : List Walk) → AllWalksTyped tys ws → (here : Here) (s : Counters) → Sits f base s (walk_all ws here s).parts → AllTypes f tys s (walk_all ws here s)
  walk_all-typed [] [] h here s sits = record { parts = each-nothing (typing f) s; roots = tt }
  walk_all-typed [] (w ∷ ws) h here s sits = absurd h
  walk_all-typed (ty ∷ tys) [] h here s sits = absurd h
  walk_all-typed (ty ∷ tys) (w ∷ ws) h here s sits =
      let first = w here s in
      let rest = walk_all ws here (after s first.parts) in
      let a = h.0 here s (each-left (standing f base) s first.parts rest.parts sits) in
      let b = walk_all-typed tys ws h.1 here (after s first.parts) (each-right (standing f base) s first.parts rest.parts sits) in
      record { parts = each-joined (typing f) s first.parts rest.parts a.parts b.parts; roots = (a.root, b.roots) }

  -- operators one behind the other have the type of the last
  pub links-typed : (from : Ty) (tys : List Ty) (ls : List LinkWalk) → LinksTyped from tys ls → (here : Here) (left : Root) (s : Counters) → RootTyped f from left → Sits f base s (links ls here left s).parts →
      LinkedTypes f (last_type from tys) s (links ls here left s)
  links-typed from [] [] h here left s r sits = record { parts = each-nothing (typing f) s; root = r }
  links-typed from [] (l ∷ ls) h here left s r sits = absurd h
  links-typed from (to ∷ tys) [] h here left s r sits = absurd h
  links-typed from (to ∷ tys) (l ∷ ls) h here left s r sits =
      let one = l here left s in
      let rest = links ls here one.root (after s one.parts) in
      let a = h.0 here left s r (each-left (standing f base) s one.parts rest.parts sits) in
      let b = links-typed to tys ls h.1 here one.root (after s one.parts) a.root (each-right (standing f base) s one.parts rest.parts sits) in
      record { parts = each-joined (typing f) s one.parts rest.parts a.parts b.parts; root = b.root }

  -- ---- forms of expressions

  -- an occurrence that stands here has the type that it was made with
  pub here-of-type : (k : ℕ) (here : Here) (ty : Ty) (at : Pos) (form : Form) → slice_get f.occs k ≡ Some (occ_here here ty at form) → OfType f ty k
  here-of-type k here ty at form is = record { occ = occ_here here ty at form; is = is; typed = refl }

  -- an occurrence whose type isn't that of an `up`
  pub occ-typed : (here : Here) (ty : Ty) (at : Pos) (form : Form) → (ty ≡ Zero → ⊥) → FormTyped f ty form → OccurrenceTyped f (occ_here here ty at form)
  occ-typed here ty at form z h = record { form = h; crossing = λ e. absurd (z e) }

  -- an occurrence without parts
  pub leaf-typed : (ty : Ty) (at : Pos) (form : Form) → (ty ≡ Zero → ⊥) → FormTyped f ty form → WalkTyped ty (λ here s. leaf here ty at form s)
  leaf-typed ty at form z h here s sits =
      let is = the_occ (standing f base) s (occ_here here ty at form) sits in
      record {
        parts = each-one_occ (typing f) s (occ_here here ty at form) (occ-typed here ty at form z h);
        root = record { occ = here-of-type s.occs here ty at form is; typed = refl };
      }

  -- a chain has the type of its last operator
  pub chain-typed : (from : Ty) (tys : List Ty) (x : Walk) (ls : List LinkWalk) → WalkTyped from x → LinksTyped from tys ls → WalkTyped (last_type from tys) (chain x ls)
  chain-typed from tys x ls hx hls here s sits =
      let first = x here s in
      let rest = links ls here first.root (after s first.parts) in
      let a = hx here s (each-left (standing f base) s first.parts rest.parts sits) in
      let b = links-typed from tys ls hls here first.root (after s first.parts) a.root (each-right (standing f base) s first.parts rest.parts sits) in
      record { parts = each-joined (typing f) s first.parts rest.parts a.parts b.parts; root = b.root }

  -- an occurrence of this type, which is what is made first, before these parts
  whole-typed : (ty to : Ty) (at : Pos) (form : Form) (q : Parts) (here : Here) (s : Counters) → ty ≡ to → (to ≡ Zero → ⊥) → slice_get f.occs s.occs ≡ Some (occ_here here ty at form) → FormTyped f to form → KeepsTypes f (past_occ s) q →
      WalkTypes f to s (one_result (joined (one_occ (occ_here here ty at form)) q) s.occs ty)
  whole-typed ty to at form q here s e z is h keeps = record {
    parts = occ-first (typing f) s (occ_here here ty at form) q (occ-typed here ty at form (λ d. z (sym e ∙ d)) (subst (λ t. FormTyped f t form) (sym e) h)) keeps;
    root = record { occ = at-type f ty to s.occs e (here-of-type s.occs here ty at form is); typed = e };
  }

  -- the occurrences that roots are have the types of the roots
  root_occs-typed : (tys : List Ty) (rs : List Root) → RootsTyped f tys rs → AllOfType f tys (root_occs rs)
  root_occs-typed [] [] h = tt
  root_occs-typed [] (r ∷ rs) h = absurd h
  root_occs-typed (ty ∷ tys) [] h = absurd h
  root_occs-typed (ty ∷ tys) (r ∷ rs) h = let a = h.0 in (a.occ, root_occs-typed tys rs h.1)

  -- an operator that is written as a function
  pub built_in-typed : (names : List (List ℕ)) (i : Instance) (op : Op) (at : Pos) (args : List Walk) → ((type_of op).result ≡ Zero → ⊥) → AllWalksTyped (type_of op).operands args → WalkTyped (type_of op).result (built_in base names i op at args)
  built_in-typed names i op at args z hs here s sits =
      let arguments = walk_all args here (past_occ s) in
      let form = Apply op (root_occs arguments.roots) in
      let both = behind-occ (standing f base) s (occ_here here (type_of op).result at form) arguments.parts sits in
      let a = walk_all-typed (type_of op).operands args hs here (past_occ s) both.1 in
      whole-typed (type_of op).result (type_of op).result at form arguments.parts here s refl z both.0 (root_occs-typed (type_of op).operands arguments.roots a.roots, refl) a.parts

  -- the form of a prefix operator agrees with its type
  prefix-form : (op : Prefix) (of to : Ty) (k : ℕ) → PrefixTypes op of to → OfType f of k → FormTyped f to (prefix_form op k)
  prefix-form prefix.Minus of to k h o = ((at-type f of Int k h.0 o, tt), sym h.1)
  prefix-form prefix.MinusDot of to k h o = ((at-type f of Float k h.0 o, tt), sym h.1)
  prefix-form prefix.Not of to k h o = ((at-type f of BoolTy k h.0 o, tt), sym h.1)
  prefix-form prefix.Pre of to k h o = at-type f of to k (sym h) o

  -- a prefix operator gives the type of its result
  prefix-result : (op : Prefix) (of to ty : Ty) → PrefixTypes op of to → ty ≡ of → prefix_type op ty ≡ to
  prefix-result prefix.Minus of to ty h e = sym h.1
  prefix-result prefix.MinusDot of to ty h e = sym h.1
  prefix-result prefix.Not of to ty h e = sym h.1
  prefix-result prefix.Pre of to ty h e = e ∙ sym h

  -- an operator before its operand
  pub prefixed-typed : (names : List (List ℕ)) (i : Instance) (op : Prefix) (at : Pos) (of to : Ty) (x : Walk) → (to ≡ Zero → ⊥) → PrefixTypes op of to → WalkTyped of x → WalkTyped to (prefixed base names i op at x)
  prefixed-typed names i op at of to x z h hx here s sits =
      let operand = x here (past_occ s) in
      let ty = prefix_type op operand.root.ty in
      let form = prefix_form op operand.root.occ in
      let both = behind-occ (standing f base) s (occ_here here ty at form) operand.parts sits in
      let a = hx here (past_occ s) both.1 in
      whole-typed ty to at form operand.parts here s (prefix-result op of to operand.root.ty h a.root.typed) z both.0 (prefix-form op of to operand.root.occ h a.root.occ) a.parts

  -- two operands have the types of an operator that takes two
  two-typed : (tys : List Ty) (left right : Ty) (j k : ℕ) → tys ≡ left ∷ right ∷ [] → OfType f left j → OfType f right k → AllOfType f tys (j ∷ k ∷ [])
  two-typed tys left right j k e a b = subst (λ ts. AllOfType f ts (j ∷ k ∷ [])) (sym e) (a, (b, tt))

  -- an operator of a chain with its right operand
  pub link-typed : (op : Infix) (at : Pos) (from right to : Ty) (x : Walk) → (from ≡ Zero → ⊥) → (to ≡ Zero → ⊥) → InfixTypes (type_of_all op) from right to → WalkTyped right x →
      LinkTyped from to (λ here left s. one_result (joined (one_occ (occ_here here (type_of (infix_form op left.ty)).result at (Apply (infix_form op left.ty) (left.occ ∷ (x here (past_occ s)).root.occ ∷ [])))) (x here (past_occ s)).parts) s.occs (type_of (infix_form op left.ty)).result)
  link-typed op at from right to x zf zt h hx here left s r sits =
      let operand = x here (past_occ s) in
      let o = infix_form op left.ty in
      let form = Apply o (left.occ ∷ operand.root.occ ∷ []) in
      let both = behind-occ (standing f base) s (occ_here here (type_of o).result at form) operand.parts sits in
      let a = hx here (past_occ s) both.1 in
      let takes : Takes o from right to = subst (λ t. Takes (infix_form op t) from right to) (sym r.typed) (infix-takes op from right to zf h) in
      whole-typed (type_of o).result to at form operand.parts here s takes.result zt both.0
      (two-typed (type_of o).operands from right left.occ operand.root.occ takes.operands r.occ a.root.occ, takes.result) a.parts

  -- an `if` has the type of its branches
  pub conditional-typed : (names : List (List ℕ)) (i : Instance) (at : Pos) (ty : Ty) (c x y : Walk) → (ty ≡ Zero → ⊥) → WalkTyped BoolTy c → WalkTyped ty x → WalkTyped ty y → WalkTyped ty (conditional base names i at c x y)
  conditional-typed names i at ty c x y z hc hx hy here s sits =
      let t = past_occ s in
      let test = c here t in
      let left = x here (after t test.parts) in
      let right = y here (after (after t test.parts) left.parts) in
      let form = If test.root.occ left.root.occ right.root.occ in
      let both = behind-occ (standing f base) s (occ_here here left.root.ty at form) (joined test.parts (joined left.parts right.parts)) sits in
      let behind = each-right (standing f base) t test.parts (joined left.parts right.parts) both.1 in
      let a = hc here t (each-left (standing f base) t test.parts (joined left.parts right.parts) both.1) in
      let b = hx here (after t test.parts) (each-left (standing f base) (after t test.parts) left.parts right.parts behind) in
      let d = hy here (after (after t test.parts) left.parts) (each-right (standing f base) (after t test.parts) left.parts right.parts behind) in
      whole-typed left.root.ty ty at form (joined test.parts (joined left.parts right.parts)) here s b.root.typed z both.0 (a.root.occ, b.root.occ, d.root.occ)
      (each-joined (typing f) t test.parts (joined left.parts right.parts) a.parts (each-joined (typing f) (after t test.parts) left.parts right.parts b.parts d.parts))

  -- an arrow has the type of its parts
  pub arrow-typed : (names : List (List ℕ)) (i : Instance) (at : Pos) (ty : Ty) (x y : Walk) → (ty ≡ Zero → ⊥) → WalkTyped ty x → WalkTyped ty y → WalkTyped ty (arrow base names i at x y)
  arrow-typed names i at ty x y z hx hy here s sits =
      let left = x here s in
      let t = after s left.parts in
      let right = y here (past_occ t) in
      let form = Arrow left.root.occ right.root.occ in
      let own = occ_here here left.root.ty at form in
      let rest = joined (one_occ own) right.parts in
      let a = hx here s (each-left (standing f base) s left.parts rest sits) in
      let both = behind-occ (standing f base) t own right.parts (each-right (standing f base) s left.parts rest sits) in
      let d = hy here (past_occ t) both.1 in
      let b = whole-typed left.root.ty ty at form right.parts here t a.root.typed z both.0 (a.root.occ, d.root.occ) d.parts in
      record { parts = each-joined (typing f) s left.parts rest a.parts b.parts; root = b.root }

  -- an occurrence behind another has no other hidden number
  hidden-number : (t : Counters) (x : Occ) → slice_get f.occs (base + (past_occ t).hidden) ≡ Some x → slice_get f.occs (base + t.hidden) ≡ Some x
  unfolding past_occ
  hidden-number t x h = h

  -- a `fby` has the type of its parts
  pub followed-typed : (names : List (List ℕ)) (i : Instance) (at : Pos) (ty : Ty) (x y : Walk) → (ty ≡ Zero → ⊥) → WalkTyped ty x → WalkTyped ty y → WalkTyped ty (followed base names i at x y)
  followed-typed names i at ty x y z hx hy here s sits =
      let left = x here s in
      let t = after s left.parts in
      let right = y here (past_hidden (past_occ t)) in
      let form = Arrow left.root.occ (base + t.hidden) in
      let own = occ_here here left.root.ty at form in
      let pre = occ_here here left.root.ty at (Pre right.root.occ) in
      let inner = joined (one_hidden pre) right.parts in
      let rest = joined (one_occ own) inner in
      let a = hx here s (each-left (standing f base) s left.parts rest sits) in
      let both = behind-occ (standing f base) t own inner (each-right (standing f base) s left.parts rest sits) in
      let deeper = behind-hidden (standing f base) (past_occ t) pre right.parts both.1 in
      let d = hy here (past_hidden (past_occ t)) deeper.1 in
      let e = a.root.typed in
      let pre_is = at-type f left.root.ty ty (base + t.hidden) e (here-of-type (base + t.hidden) here left.root.ty at (Pre right.root.occ) (hidden-number t pre deeper.0)) in
      let b = whole-typed left.root.ty ty at form inner here t e z both.0 (a.root.occ, pre_is)
      (hidden-first (typing f) (past_occ t) pre right.parts (occ-typed here left.root.ty at (Pre right.root.occ) (λ g. z (sym e ∙ g)) (at-type f ty left.root.ty right.root.occ (sym e) d.root.occ)) d.parts) in
      record { parts = each-joined (typing f) s left.parts rest a.parts b.parts; root = b.root }

  -- an operator between a first value and later ones
  pub flow-typed : (names : List (List ℕ)) (i : Instance) (op : FlowOp) (at : Pos) (ty : Ty) (x y : Walk) → (ty ≡ Zero → ⊥) → WalkTyped ty x → WalkTyped ty y → WalkTyped ty (flow_walk base names i op at x y)
  flow-typed names i flow.Arrow at ty x y z hx hy here s sits = arrow-typed names i at ty x y z hx hy here s sits
  flow-typed names i flow.Fby at ty x y z hx hy here s sits = followed-typed names i at ty x y z hx hy here s sits

  -- ---- calls

  -- the first of some results has its type
  first-typed : (ty : Ty) (tys : List Ty) (rs : List Root) → RootsTyped f (ty ∷ tys) rs → RootTyped f ty (first_root rs)
  first-typed ty tys [] h = absurd h
  first-typed ty tys (r ∷ rs) h = h.0

  -- a call of what was found by the name
  abbrev called : Option Callee → Pos → List Walk → Walk
  called o at args here s =
      let inside = in_call s.occs here in
      let arguments = walk_all args inside (past_occ s) in
      let copy = callee o inside arguments.roots (after (past_occ s) arguments.parts) in
      let result = first_root copy.results in
      record {
        parts = joined (one_occ (occ_here here result.ty at (Result result.occ))) (joined arguments.parts copy.parts);
        root = record { occ = s.occs; ty = result.ty };
        results = copy.results;
      }

  -- what is known of a call whose arguments and results have these types
  pub record CallTyped (ty : Ty) (tys : List Ty) (w : Walk) : Type 0 where
    pub walk : WalkTyped ty w
    pub results : ResultsTyped (ty ∷ tys) w

  -- the arguments' types are those of the parameters, as far as both go
  pub called-typed : (c : Callee) (at : Pos) (args : List Walk) (tys params : List Ty) (ty : Ty) (more : List Ty) → (ty ≡ Zero → ⊥) → AllWalksTyped tys args → ((rs : List Root) → RootsTyped f tys rs → ArgumentsTyped f params rs) → CalleeTyped params (ty ∷ more) c →
      CallTyped ty more (called (Some c) at args)
  called-typed c at args tys params ty more z hs fit hc = record {
    walk = λ here s sits.
        let inside = in_call s.occs here in
        let t = past_occ s in
        let arguments = walk_all args inside t in
        let copy = c inside arguments.roots (after t arguments.parts) in
        let result = first_root copy.results in
        let form = Result result.occ in
        let both = behind-occ (standing f base) s (occ_here here result.ty at form) (joined arguments.parts copy.parts) sits in
        let a = walk_all-typed tys args hs inside t (each-left (standing f base) t arguments.parts copy.parts both.1) in
        let d = hc inside arguments.roots (after t arguments.parts) (fit arguments.roots a.roots) (each-right (standing f base) t arguments.parts copy.parts both.1) in
        let first = first-typed ty more copy.results d.results in
        let b = whole-typed result.ty ty at form (joined arguments.parts copy.parts) here s first.typed z both.0 first.occ (each-joined (typing f) t arguments.parts copy.parts a.parts d.parts) in
        record { parts = b.parts; root = b.root };
    results = λ here s sits.
        let inside = in_call s.occs here in
        let t = past_occ s in
        let arguments = walk_all args inside t in
        let copy = c inside arguments.roots (after t arguments.parts) in
        let result = first_root copy.results in
        let both = behind-occ (standing f base) s (occ_here here result.ty at (Result result.occ)) (joined arguments.parts copy.parts) sits in
        let a = walk_all-typed tys args hs inside t (each-left (standing f base) t arguments.parts copy.parts both.1) in
        let d = hc inside arguments.roots (after t arguments.parts) (fit arguments.roots a.roots) (each-right (standing f base) t arguments.parts copy.parts both.1) in
        d.results;
  }

  -- a call of what is known by its name has the type of the first result
  pub call-typed : (names : List (List ℕ)) (i : Instance) (x : Name) (args : List Walk) (c : Callee) (tys params : List Ty) (ty : Ty) (more : List Ty) → (ty ≡ Zero → ⊥) → i.callees x.id ≡ Some c → AllWalksTyped tys args →
      ((rs : List Root) → RootsTyped f tys rs → ArgumentsTyped f params rs) → CalleeTyped params (ty ∷ more) c → CallTyped ty more (call base names i x args)
  call-typed names i x args c tys params ty more z is hs fit hc = subst (λ o. CallTyped ty more (called o x.at args)) (sym is) (called-typed c x.at args tys params ty more z hs fit hc)
