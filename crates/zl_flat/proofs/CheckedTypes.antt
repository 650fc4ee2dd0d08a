-- A typing is found by computation: an assignment is tried on each equality, and what the equalities say of types is collected.
use Rattle.std.proofs.Common.{◌≡◌, Bool, true, false, ◌&&◌, nat_eq, if◌then◌else◌, List, [], ◌∷◌, Option, Some, None, refl, sym, subst, ◌∙◌}
use Rattle.std.specs.List.{AllByRecursion}
use Rattle.std.proofs.lemmas.Bool.{and_parts, eqb-true}
use Rattle.zl_value.specs.declared.position.Pos.{Pos}
use Rattle.zl_value.specs.declared.value.Ty.{Ty}
use Rattle.zl_value.specs.declared.value.Ty.TheVariants as ty
use Rattle.zl_ast.specs.declared.scope.VarInfo.{VarInfo}
use Rattle.zl_ast.specs.declared.constraint.Side.{Side}
use Rattle.zl_ast.specs.declared.constraint.Side.TheVariants as side
use Rattle.zl_ast.specs.declared.constraint.Equality.{Equality}
use Rattle.zl_ast.specs.Assignments.{Assignment, side_type, Solves, HasType, HaveTypes, end, next, HaveTypesInEach, end_of_all, next_of_all, IsTyping}
use Rattle.zl_flat.specs.FirstPlaces.{same_pos}

abbrev same_type : Ty → Ty → Bool
same_type ty.Bool ty.Bool = true
same_type ty.Int ty.Int = true
same_type ty.Float ty.Float = true
same_type ty.Zero ty.Zero = true
same_type _ _ = false

same_type-true : (t u : Ty) → same_type t u ≡ true → t ≡ u
same_type-true ty.Bool ty.Bool e = refl
same_type-true ty.Int ty.Int e = refl
same_type-true ty.Float ty.Float e = refl
same_type-true ty.Zero ty.Zero e = refl
same_type-true ty.Bool ty.Int e = absurd (cc)
same_type-true ty.Bool ty.Float e = absurd (cc)
same_type-true ty.Bool ty.Zero e = absurd (cc)
same_type-true ty.Int ty.Bool e = absurd (cc)
same_type-true ty.Int ty.Float e = absurd (cc)
same_type-true ty.Int ty.Zero e = absurd (cc)
same_type-true ty.Float ty.Bool e = absurd (cc)
same_type-true ty.Float ty.Int e = absurd (cc)
same_type-true ty.Float ty.Zero e = absurd (cc)
same_type-true ty.Zero ty.Bool e = absurd (cc)
same_type-true ty.Zero ty.Int e = absurd (cc)
same_type-true ty.Zero ty.Float e = absurd (cc)

same_pos-true : (p q : Pos) → same_pos p q ≡ true → p ≡ q
same_pos-true p q e =
    let parts = and_parts (nat_eq p.line q.line) (nat_eq p.column q.column) e in
    λ j. record { line = eqb-true p.line q.line parts.0 j; column = eqb-true p.column q.column parts.1 j }

-- ---- an assignment that meets the equalities

abbrev all_met : Assignment → List Equality → Bool
all_met a [] = true
all_met a (e ∷ es) = same_type (a e.node) (side_type a e.side) && all_met a es

all_met-solves : (a : Assignment) (es : List Equality) → all_met a es ≡ true → Solves es a
all_met-solves a [] h = tt
all_met-solves a (e ∷ es) h =
    let parts = and_parts (same_type (a e.node) (side_type a e.side)) (all_met a es) h in
    (same_type-true (a e.node) (side_type a e.side) parts.0, all_met-solves a es parts.1)

-- ---- what the equalities say

-- that what stands at a place has a type
pub record Fact : Type 0 where
  pub place : Pos
  pub type : Ty

abbrev type_at : List Fact → Pos → Option Ty
type_at [] p = None
type_at (f ∷ fs) p = if same_pos f.place p then Some f.type else type_at fs p

abbrev with_fact : List Fact → Pos → Option Ty → List Fact
with_fact fs p None = fs
with_fact fs p (Some t) = record { place = p; type = t } ∷ fs

-- with what one more equality says
abbrev learned : List Fact → Pos → Side → List Fact
learned fs p (side.Fixed t) = with_fact fs p (Some t)
learned fs p (side.SameAs q) = with_fact (with_fact fs p (type_at fs q)) q (type_at fs p)

abbrev all_learned : List Fact → List Equality → List Fact
all_learned fs [] = fs
all_learned fs (e ∷ es) = all_learned (learned fs e.node e.side) es

module _ (all : List Equality) where
  abbrev AreFacts : List Fact → Type 0
  AreFacts fs = AllByRecursion (λ (f : Fact). HasType all f.place f.type) fs

  some_same : (t u : Ty) → Some t ≡ Some u → t ≡ u
  some_same t u e = cc

  type_at-has : (fs : List Fact) (p : Pos) (t : Ty) → AreFacts fs → type_at fs p ≡ Some t → HasType all p t
  type_at-has [] p t h e = absurd (cc)
  type_at-has (f ∷ fs) p t h e = at_first (same_pos f.place p) refl e (type_at-has fs p t h.1)
    where
      at_first : (b : Bool) → same_pos f.place p ≡ b → (if b then Some f.type else type_at fs p) ≡ Some t → (type_at fs p ≡ Some t → HasType all p t) → HasType all p t
      at_first true is e further = subst (λ q. HasType all q t) (same_pos-true f.place p is) (subst (HasType all f.place) (some_same f.type t e) h.0)
      at_first false is e further = further e

  with_fact-are : (fs : List Fact) (p : Pos) (o : Option Ty) → AreFacts fs → ((t : Ty) → o ≡ Some t → HasType all p t) → AreFacts (with_fact fs p o)
  with_fact-are fs p None h k = h
  with_fact-are fs p (Some t) h k = (k t refl, h)

  learned-are : (fs : List Fact) (p : Pos) (s : Side) → AreFacts fs → ((a : Assignment) → Solves all a → a p ≡ side_type a s) → AreFacts (learned fs p s)
  learned-are fs p (side.Fixed t) h m = (m, h)
  learned-are fs p (side.SameAs q) h m =
      with_fact-are (with_fact fs p (type_at fs q)) q (type_at fs p)
      (with_fact-are fs p (type_at fs q) h (λ t e a s. m a s ∙ type_at-has fs q t h e a s))
      (λ t e a s. sym (m a s) ∙ type_at-has fs p t h e a s)

  all_learned-are : (fs : List Fact) (es : List Equality) → AreFacts fs → ((a : Assignment) → Solves all a → Solves es a) → AreFacts (all_learned fs es)
  all_learned-are fs [] h m = h
  all_learned-are fs (e ∷ es) h m = all_learned-are (learned fs e.node e.side) es (learned-are fs e.node e.side h (λ a s. (m a s).0)) (λ a s. (m a s).1)

  -- ---- the types of variables

  abbrev has_type : List Fact → Pos → Ty → Option Ty → Bool
  has_type fs p t None = false
  has_type fs p t (Some u) = same_type u t

  has_type-has : (fs : List Fact) (p : Pos) (t : Ty) (o : Option Ty) → AreFacts fs → type_at fs p ≡ o → has_type fs p t o ≡ true → HasType all p t
  has_type-has fs p t None h e k = absurd (cc)
  has_type-has fs p t (Some u) h e k = subst (HasType all p) (same_type-true u t k) (type_at-has fs p u h e)

  abbrev have_types : List Fact → List VarInfo → List Ty → Bool
  have_types fs [] [] = true
  have_types fs (v ∷ vs) (t ∷ ts) = has_type fs v.at t (type_at fs v.at) && have_types fs vs ts
  have_types fs _ _ = false

  have_types-have : (fs : List Fact) (vs : List VarInfo) (ts : List Ty) → AreFacts fs → have_types fs vs ts ≡ true → HaveTypes all vs ts
  have_types-have fs [] [] h e = end
  have_types-have fs [] (t ∷ ts) h e = absurd (cc)
  have_types-have fs (v ∷ vs) [] h e = absurd (cc)
  have_types-have fs (v ∷ vs) (t ∷ ts) h e =
      let parts = and_parts (has_type fs v.at t (type_at fs v.at)) (have_types fs vs ts) e in
      next (has_type-has fs v.at t (type_at fs v.at) h refl parts.0) (have_types-have fs vs ts h parts.1)

  abbrev have_types_each : List Fact → List (List VarInfo) → List (List Ty) → Bool
  have_types_each fs [] [] = true
  have_types_each fs (vs ∷ vss) (ts ∷ tss) = have_types fs vs ts && have_types_each fs vss tss
  have_types_each fs _ _ = false

  have_types_each-have : (fs : List Fact) (vss : List (List VarInfo)) (tss : List (List Ty)) → AreFacts fs → have_types_each fs vss tss ≡ true → HaveTypesInEach all vss tss
  have_types_each-have fs [] [] h e = end_of_all
  have_types_each-have fs [] (ts ∷ tss) h e = absurd (cc)
  have_types_each-have fs (vs ∷ vss) [] h e = absurd (cc)
  have_types_each-have fs (vs ∷ vss) (ts ∷ tss) h e =
      let parts = and_parts (have_types fs vs ts) (have_types_each fs vss tss) e in
      next_of_all (have_types-have fs vs ts h parts.0) (have_types_each-have fs vss tss h parts.1)

-- the equalities are gone through twice, since the type of a call's result may stand behind the call
abbrev pub is_typed : List Equality → Assignment → List (List VarInfo) → List (List Ty) → Bool
is_typed es a vss tss = all_met a es && have_types_each es (all_learned (all_learned [] es) es) vss tss

pub is_typed-typing : (es : List Equality) (a : Assignment) (vss : List (List VarInfo)) (tss : List (List Ty)) → is_typed es a vss tss ≡ true → IsTyping es vss tss
is_typed-typing es a vss tss h =
    let parts = and_parts (all_met a es) (have_types_each es (all_learned (all_learned [] es) es) vss tss) h in
    record {
      solution = a;
      solves = all_met-solves a es parts.0;
      types_of_variables = have_types_each-have es (all_learned (all_learned [] es) es) vss tss
          (all_learned-are es (all_learned [] es) es (all_learned-are es [] es tt (λ a s. s)) (λ a s. s)) parts.1;
    }
