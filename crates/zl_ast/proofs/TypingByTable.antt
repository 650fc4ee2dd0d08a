-- Typings, clashes and open types of lists of equalities by computation: a table of types that the equalities force, place by
-- place, and a table that meets them.
use Rattle.std.proofs.Common.{◌≡◌, ℕ, zero, suc, Bool, true, false, ◌&&◌, ◌||◌, nat_eq, List, [], ◌∷◌, ◌++◌, Option, Some, None, refl, sym, ap, ◌∙◌, subst, arith}
use Rattle.std.proofs.lemmas.Bool.Decides.{nat_tests}
use Rattle.std.specs.List.{AllByRecursion}
use Rattle.zl_value.specs.declared.position.Pos.{Pos}
use Rattle.zl_value.specs.declared.value.Ty.{Ty}
use Rattle.zl_value.specs.declared.value.Ty.TheVariants as ty
use Rattle.zl_ast.specs.declared.constraint.Side.{Side}
use Rattle.zl_ast.specs.declared.constraint.Side.TheVariants as side
use Rattle.zl_ast.specs.declared.constraint.Equality.{Equality}
use Rattle.zl_ast.specs.declared.scope.VarInfo.{VarInfo}
use Rattle.zl_ast.specs.Assignments.{Assignment, side_type, Solves, IsClash, HasType, HasOneType, IsOpen, HaveTypes, end, next, HaveTypesInEach, end_of_all, next_of_all, IsTyping, variable_places}
use Rattle.zl_ast.specs.Initialised.{same_place}
use Rattle.zl_ast.specs.TypeEqualities.{equalities}
use Rattle.zl_ast.specs.Scopes.{scopes}
use Rattle.zl_ast.specs.declared.program.Program.{Program}

-- ---- truth values

pub left_true : (b c : Bool) → b && c ≡ true → b ≡ true
left_true true c e = refl
left_true false c e = absurd (cc)

pub right_true : (b c : Bool) → b && c ≡ true → c ≡ true
right_true true c e = e
right_true false c e = absurd (cc)

pub either_true : (b c : Bool) {A : Type 0} → b || c ≡ true → (b ≡ true → A) → (c ≡ true → A) → A
either_true true c e f g = f refl
either_true false c e f g = g e

same_numbers : (m n : ℕ) → nat_eq m n ≡ true → m ≡ n
same_numbers m n e = grind (arith, nat_tests)

pub one_place : (p q : Pos) → same_place p q ≡ true → p ≡ q
one_place p q e =
    let l = same_numbers p.line q.line (left_true _ _ e) in
    let c = same_numbers p.column q.column (right_true _ _ e) in
    λ j. record { line = l j; column = c j }

abbrev same_type : Ty → Ty → Bool
same_type ty.Bool ty.Bool = true
same_type ty.Int ty.Int = true
same_type ty.Float ty.Float = true
same_type _ _ = false

one_type : (t u : Ty) → same_type t u ≡ true → t ≡ u
one_type ty.Bool ty.Bool e = refl
one_type ty.Int ty.Int e = refl
one_type ty.Float ty.Float e = refl
one_type _ _ e = absurd (cc)

abbrev other_type : Ty → Ty → Bool
other_type ty.Bool ty.Int = true
other_type ty.Bool ty.Float = true
other_type ty.Int ty.Bool = true
other_type ty.Int ty.Float = true
other_type ty.Float ty.Bool = true
other_type ty.Float ty.Int = true
other_type _ _ = false

two_types : (t u : Ty) → other_type t u ≡ true → t ≡ u → ⊥
two_types ty.Bool ty.Int e h = absurd (cc)
two_types ty.Bool ty.Float e h = absurd (cc)
two_types ty.Int ty.Bool e h = absurd (cc)
two_types ty.Int ty.Float e h = absurd (cc)
two_types ty.Float ty.Bool e h = absurd (cc)
two_types ty.Float ty.Int e h = absurd (cc)
two_types _ _ e h = absurd (cc)

-- ---- tables

abbrev pub Table : Type 0
Table = List (Pos × Ty)

abbrev pick : Bool → Ty → Option Ty → Option Ty
pick true t rest = Some t
pick false t rest = rest

-- the type of a place in a table
abbrev look : Table → Pos → Option Ty
look [] p = None
look (x ∷ t) p = pick (same_place x.0 p) x.1 (look t p)

abbrev Holds : Assignment → Table → Type 0
Holds a t = AllByRecursion (λ (x : Pos × Ty). a x.0 ≡ x.1) t

pick_holds : (a : Assignment) (b : Bool) (q p : Pos) (v u : Ty) (rest : Option Ty) → a q ≡ v → (b ≡ true → q ≡ p) → (rest ≡ Some u → a p ≡ u) → pick b v rest ≡ Some u → a p ≡ u
pick_holds a true q p v u rest h same more e = let s = same refl in cc
pick_holds a false q p v u rest h same more e = more e

look_holds : (a : Assignment) (t : Table) (p : Pos) (u : Ty) → Holds a t → look t p ≡ Some u → a p ≡ u
look_holds a [] p u h e = absurd (cc)
look_holds a (x ∷ t) p u h e = pick_holds a (same_place x.0 p) x.0 p x.1 u (look t p) h.0 (one_place x.0 p) (look_holds a t p u h.1) e

-- ---- what equalities force

abbrev learn_from : Option Ty → Pos → Table → Table
learn_from None p t = t
learn_from (Some u) p t = (p, u) ∷ t

abbrev learn_side : Table → Pos → Side → Table
learn_side t p (side.Fixed u) = (p, u) ∷ t
learn_side t p (side.SameAs q) = learn_from (look t q) p (learn_from (look t p) q t)

abbrev pass : List Equality → Table → Table
pass [] t = t
pass (e ∷ es) t = pass es (learn_side t e.node e.side)

-- what so many passes over the equalities find
abbrev pub forced : ℕ → List Equality → Table
forced zero es = []
forced (suc n) es = pass es (forced n es)

from_holds : (a : Assignment) (found : Option Ty) (p : Pos) (t : Table) → ((u : Ty) → found ≡ Some u → a p ≡ u) → Holds a t → Holds a (learn_from found p t)
from_holds a None p t h k = k
from_holds a (Some u) p t h k = (h u refl, k)

side_holds : (a : Assignment) (t : Table) (p : Pos) (s : Side) → a p ≡ side_type a s → Holds a t → Holds a (learn_side t p s)
side_holds a t p (side.Fixed u) e h = (e, h)
side_holds a t p (side.SameAs q) e h =
    from_holds a (look t q) p (learn_from (look t p) q t) (λ u f. e ∙ look_holds a t q u h f) (from_holds a (look t p) q t (λ u f. sym e ∙ look_holds a t p u h f) h)

pass_holds : (a : Assignment) (es : List Equality) (t : Table) → Solves es a → Holds a t → Holds a (pass es t)
pass_holds a [] t s h = h
pass_holds a (e ∷ es) t s h = pass_holds a es (learn_side t e.node e.side) s.1 (side_holds a t e.node e.side s.0 h)

forced_holds : (a : Assignment) (n : ℕ) (es : List Equality) → Solves es a → Holds a (forced n es)
forced_holds a zero es s = tt
forced_holds a (suc n) es s = pass_holds a es (forced n es) s (forced_holds a n es s)

has_type : (n : ℕ) (es : List Equality) (p : Pos) (u : Ty) → look (forced n es) p ≡ Some u → HasType es p u
has_type n es p u e a s = look_holds a (forced n es) p u (forced_holds a n es s) e

-- ---- assignments that meet equalities

abbrev or_bool : Option Ty → Ty
or_bool None = ty.Bool
or_bool (Some t) = t

-- the assignment of a table, and bool where it has nothing
abbrev pub by_table : Table → Assignment
by_table t p = or_bool (look t p)

abbrev all_met : Assignment → List Equality → Bool
all_met a [] = true
all_met a (e ∷ es) = same_type (a e.node) (side_type a e.side) && all_met a es

met : (a : Assignment) (es : List Equality) → all_met a es ≡ true → Solves es a
met a [] h = tt
met a (e ∷ es) h = (one_type _ _ (left_true _ _ h), met a es (right_true (same_type (a e.node) (side_type a e.side)) _ h))

-- ---- equalities that nothing meets

abbrev differ : Option Ty → Option Ty → Bool
differ (Some t) (Some u) = other_type t u
differ _ _ = false

abbrev look_side : Table → Side → Option Ty
look_side t (side.Fixed u) = Some u
look_side t (side.SameAs q) = look t q

abbrev some_clash : Table → List Equality → Bool
some_clash t [] = false
some_clash t (e ∷ es) = differ (look t e.node) (look_side t e.side) || some_clash t es

no_two : (x y : Ty) (s u : Option Ty) → ((v : Ty) → s ≡ Some v → x ≡ v) → ((v : Ty) → u ≡ Some v → y ≡ v) → x ≡ y → differ s u ≡ true → ⊥
no_two x y (Some t) (Some u) f g e d = two_types t u d (sym (f t refl) ∙ e ∙ g u refl)
no_two x y (Some t) None f g e d = absurd (cc)
no_two x y None u f g e d = absurd (cc)

side_looked : (a : Assignment) (t : Table) (s : Side) (v : Ty) → Holds a t → look_side t s ≡ Some v → side_type a s ≡ v
side_looked a t (side.Fixed u) v h e = cc
side_looked a t (side.SameAs q) v h e = look_holds a t q v h e

no_clash : (a : Assignment) (t : Table) (es : List Equality) → Holds a t → Solves es a → some_clash t es ≡ true → ⊥
no_clash a t [] h s e = absurd (cc)
no_clash a t (x ∷ es) h s e =
    either_true (differ (look t x.node) (look_side t x.side)) (some_clash t es) e
    (no_two (a x.node) (side_type a x.side) (look t x.node) (look_side t x.side) (λ v f. look_holds a t x.node v h f) (λ v f. side_looked a t x.side v h f) s.0)
    (no_clash a t es h s.1)

-- a clash at the constraint between those before and behind it
pub clash_at : (n : ℕ) (solution : Table) (es before behind : List Equality) (one : Equality) → es ≡ before ++ one ∷ behind
    → all_met (by_table solution) before ≡ true → some_clash (forced n (before ++ one ∷ [])) (before ++ one ∷ []) ≡ true → IsClash es one.at
clash_at n solution es before behind one parts fits clashes =
    record {
      before = before;
      one = one;
      behind = behind;
      parts = parts;
      place_of_one = refl;
      solution = by_table solution;
      meets_before = met (by_table solution) before fits;
      none = λ a s. no_clash a (forced n (before ++ one ∷ [])) (before ++ one ∷ []) (forced_holds a n (before ++ one ∷ []) s) s clashes;
    }

-- ---- typings

abbrev is_type : Option Ty → Ty → Bool
is_type None t = false
is_type (Some u) t = same_type u t

is_typed : (o : Option Ty) (t : Ty) → is_type o t ≡ true → o ≡ Some t
is_typed None t e = absurd (cc)
is_typed (Some u) t e = ap Some (one_type u t e)

abbrev typed : Table → List VarInfo → List Ty → Bool
typed t [] [] = true
typed t (v ∷ vs) (u ∷ us) = is_type (look t v.at) u && typed t vs us
typed t _ _ = false

abbrev typed_each : Table → List (List VarInfo) → List (List Ty) → Bool
typed_each t [] [] = true
typed_each t (vs ∷ vss) (us ∷ uss) = typed t vs us && typed_each t vss uss
typed_each t _ _ = false

have_types : (n : ℕ) (es : List Equality) (vs : List VarInfo) (us : List Ty) → typed (forced n es) vs us ≡ true → HaveTypes es vs us
have_types n es [] [] e = end
have_types n es (v ∷ vs) (u ∷ us) e =
    next (has_type n es v.at u (is_typed _ _ (left_true _ _ e))) (have_types n es vs us (right_true (is_type (look (forced n es) v.at) u) _ e))
have_types n es [] (u ∷ us) e = absurd (cc)
have_types n es (v ∷ vs) [] e = absurd (cc)

have_types_in_each : (n : ℕ) (es : List Equality) (vss : List (List VarInfo)) (uss : List (List Ty)) → typed_each (forced n es) vss uss ≡ true → HaveTypesInEach es vss uss
have_types_in_each n es [] [] e = end_of_all
have_types_in_each n es (vs ∷ vss) (us ∷ uss) e =
    next_of_all (have_types n es vs us (left_true _ _ e)) (have_types_in_each n es vss uss (right_true (typed (forced n es) vs us) _ e))
have_types_in_each n es [] (us ∷ uss) e = absurd (cc)
have_types_in_each n es (vs ∷ vss) [] e = absurd (cc)

-- these types are the one typing
pub is_typing : (n : ℕ) (es : List Equality) (vss : List (List VarInfo)) (uss : List (List Ty)) → all_met (by_table (forced n es)) es ≡ true
    → typed_each (forced n es) vss uss ≡ true → IsTyping es vss uss
is_typing n es vss uss fits types = record {
  solution = by_table (forced n es);
  solves = met (by_table (forced n es)) es fits;
  types_of_variables = have_types_in_each n es vss uss types;
}

-- ---- open types

abbrev is_some : Option Ty → Bool
is_some None = false
is_some (Some u) = true

abbrev closed : Table → List Pos → Bool
closed t [] = true
closed t (p ∷ ps) = is_some (look t p) && closed t ps

one_looked : (n : ℕ) (es : List Equality) (p : Pos) (o : Option Ty) → look (forced n es) p ≡ o → is_some o ≡ true → HasOneType es p
one_looked n es p None e h = absurd (cc)
one_looked n es p (Some u) e h = record { type = u; has_type = has_type n es p u e }

all_closed : (n : ℕ) (es : List Equality) (ps : List Pos) → closed (forced n es) ps ≡ true → AllByRecursion (HasOneType es) ps
all_closed n es [] e = tt
all_closed n es (p ∷ ps) e =
    (one_looked n es p (look (forced n es) p) refl (left_true _ _ e), all_closed n es ps (right_true (is_some (look (forced n es) p)) _ e))

-- the place has two types, by these two tables, and those before it have one
pub open_at : (n : ℕ) (one other : Table) (es : List Equality) (nodes before behind : List Pos) (at : Pos) → nodes ≡ before ++ at ∷ behind
    → all_met (by_table one) es ≡ true → all_met (by_table other) es ≡ true → closed (forced n es) before ≡ true
    → other_type (by_table one at) (by_table other at) ≡ true → IsOpen es nodes at
open_at n one other es nodes before behind at parts fits fits_too each two =
    record {
      solution = by_table one;
      solves = met (by_table one) es fits;
      before = before;
      behind = behind;
      parts = parts;
      closed_before = all_closed n es before each;
      has_two =
          record {
            one = by_table one;
            other = by_table other;
            one_solves = met (by_table one) es fits;
            other_solves = met (by_table other) es fits_too;
            differ = two_types (by_table one at) (by_table other at) two;
          };
    }

-- ---- a program's equalities and scopes, once they are known

pub typed_by : (p : Program) {es : List Equality} {vss : List (List VarInfo)} {uss : List (List Ty)} → equalities p ≡ es → scopes p ≡ vss → IsTyping es vss uss → IsTyping (equalities p) (scopes p) uss
typed_by p {es} {vss} {uss} e v h = subst (λ fs. IsTyping fs (scopes p) uss) (sym e) (subst (λ wss. IsTyping es wss uss) (sym v) h)

pub open_by : (p : Program) {es : List Equality} {vss : List (List VarInfo)} {place : Pos} → equalities p ≡ es → scopes p ≡ vss → IsOpen es (variable_places vss) place
    → IsOpen (equalities p) (variable_places (scopes p)) place
open_by p {es} {vss} {place} e v h =
    subst (λ fs. IsOpen fs (variable_places (scopes p)) place) (sym e) (subst (λ wss. IsOpen es (variable_places wss) place) (sym v) h)
