-- Where the variables have a typing, it is the only one, each has one type, and the constraints before none are unmet.
use Rattle.std.proofs.Common.{◌≡◌, List, [], ◌∷◌, ◌++◌, map, refl, sym, subst, ◌∙◌}
use Rattle.std.specs.List.{AllByRecursion}
use Rattle.zl_value.specs.declared.position.Pos.{Pos}
use Rattle.zl_value.specs.declared.value.Ty.{Ty}
use Rattle.zl_ast.specs.declared.constraint.Equality.{Equality}
use Rattle.zl_ast.specs.declared.scope.VarInfo.{VarInfo}
use Rattle.zl_ast.specs.Assignments.{Assignment, Solves, HasOneType, IsOpen, variable_places, joined, HaveTypes, end, next, HaveTypesInEach, end_of_all, next_of_all, IsTyping}
use Rattle.zl_ast.specs.Unsolved.{MeetsAll, IsFirstUnsolved}

-- ---- constraints

module _ {A C : Type 0} (Meets : A → C → Type 0) where
  met_up_to : (a : A) (before behind : List C) (one : C) → AllByRecursion (Meets a) (before ++ one ∷ behind) → AllByRecursion (Meets a) (before ++ one ∷ [])
  met_up_to a [] behind one h = (h.0, tt)
  met_up_to a (c ∷ before) behind one h = (h.0, met_up_to a before behind one h.1)

  -- constraints that are met have no first that isn't
  pub all_met : (place : C → Pos) (cs : List C) (at : Pos) (a : A) → MeetsAll Meets cs a → IsFirstUnsolved Meets place cs at → ⊥
  all_met place cs at a met first =
      first.none a (met_up_to a first.before first.behind first.one (subst (λ cs. AllByRecursion (Meets a) cs) first.parts met))

-- ---- types

module _ (es : List Equality) where
  typed_row : (vs : List VarInfo) (ts : List Ty) (rest : List VarInfo) → HaveTypes es vs ts →
      AllByRecursion (HasOneType es) (map (λ v. v.at) rest) → AllByRecursion (HasOneType es) (map (λ v. v.at) (vs ++ rest))
  typed_row [] _ rest end h = h
  typed_row (v ∷ vs) [] rest k h = elim k [ ]
  typed_row (v ∷ vs) (t ∷ ts) rest (next k ks) h = (record { type = t; has_type = k }, typed_row vs ts rest ks h)

  typed : (vss : List (List VarInfo)) (tss : List (List Ty)) → HaveTypesInEach es vss tss → AllByRecursion (HasOneType es) (variable_places vss)
  typed [] _ end_of_all = tt
  typed (vs ∷ vss) [] h = elim h [ ]
  typed (vs ∷ vss) (ts ∷ tss) (next_of_all h hs) = typed_row vs ts (joined vss) h (typed vss tss hs)

  one_of : (at : Pos) (before behind : List Pos) → AllByRecursion (HasOneType es) (before ++ at ∷ behind) → HasOneType es at
  one_of at [] behind h = h.0
  one_of at (b ∷ before) behind h = one_of at before behind h.1

  -- no variable has two types
  pub none_open : (vars : List (List VarInfo)) (types : List (List Ty)) (at : Pos) → IsTyping es vars types → IsOpen es (variable_places vars) at → ⊥
  none_open vars types at typing h =
      let one = one_of at h.before h.behind (subst (AllByRecursion (HasOneType es)) h.parts (typed vars types typing.types_of_variables)) in
      let two = h.has_two in
      two.differ (one.has_type two.one two.one_solves ∙ sym (one.has_type two.other two.other_solves))

module _ (es : List Equality) (a : Assignment) (s : Solves es a) where
  one_type_each : (vs : List VarInfo) (ts us : List Ty) → HaveTypes es vs ts → HaveTypes es vs us → ts ≡ us
  one_type_each [] _ _ end end = refl
  one_type_each (v ∷ vs) [] us h _ = elim h [ ]
  one_type_each (v ∷ vs) (t ∷ ts) [] _ k = elim k [ ]
  one_type_each (v ∷ vs) (t ∷ ts) (u ∷ us) (next h hs) (next k ks) = λ j. (sym (h a s) ∙ k a s) j ∷ one_type_each vs ts us hs ks j

  one_type_in_each : (vss : List (List VarInfo)) (tss uss : List (List Ty)) → HaveTypesInEach es vss tss → HaveTypesInEach es vss uss → tss ≡ uss
  one_type_in_each [] _ _ end_of_all end_of_all = refl
  one_type_in_each (vs ∷ vss) [] uss h _ = elim h [ ]
  one_type_in_each (vs ∷ vss) (ts ∷ tss) [] _ k = elim k [ ]
  one_type_in_each (vs ∷ vss) (ts ∷ tss) (us ∷ uss) (next_of_all h hs) (next_of_all k ks) = λ j. one_type_each vs ts us h k j ∷ one_type_in_each vss tss uss hs ks j

-- two typings are one
pub one_typing : (es : List Equality) (vars : List (List VarInfo)) (types more : List (List Ty)) → IsTyping es vars types → IsTyping es vars more → more ≡ types
one_typing es vars types more x y = one_type_in_each es x.solution x.solves vars more types y.types_of_variables x.types_of_variables
