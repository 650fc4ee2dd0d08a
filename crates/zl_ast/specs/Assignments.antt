-- Assignments of types to the variables and occurrences of a program, each named by its place, and what equalities of types
-- say of them.
use Rattle.std.specs.Prelude.{◌≡◌, List, [], ◌∷◌, ◌++◌, map}
use Rattle.std.specs.List.{AllByRecursion}
use Rattle.zl_value.specs.declared.position.Pos.{Pos}
use Rattle.zl_value.specs.declared.value.Ty.{Ty}
use Rattle.zl_value.specs.declared.rule.Refusal.{Refusal}
use Rattle.zl_value.specs.declared.rule.Refusal.TheVariants.{Broken, Memory}
use Rattle.zl_value.specs.declared.rule.Rule.{Rule}
use Rattle.zl_value.specs.declared.rule.Rule.TheVariants as rule
use Rattle.zl_ast.specs.declared.scope.VarInfo.{VarInfo}
use Rattle.zl_ast.specs.declared.constraint.Side.{Side}
use Rattle.zl_ast.specs.declared.constraint.Side.TheVariants as side
use Rattle.zl_ast.specs.declared.constraint.Equality.{Equality}
use Rattle.zl_ast.specs.Unsolved.{MeetsAll, IsFirstUnsolved}

abbrev pub Assignment : Type 0
Assignment = Pos → Ty

abbrev pub side_type : Assignment → Side → Ty
side_type a (side.Fixed t) = t
side_type a (side.SameAs p) = a p

abbrev pub Meets : Assignment → Equality → Type 0
Meets a e = a e.node ≡ side_type a e.side

-- the assignment meets all the equalities
abbrev pub Solves : List Equality → Assignment → Type 0
Solves es a = MeetsAll Meets es a

-- no assignment meets the equalities up to this place
abbrev pub IsClash : List Equality → Pos → Type 0
IsClash es at = IsFirstUnsolved Meets (λ e. e.at) es at

-- what stands at the place has this type in each assignment that meets the equalities
abbrev pub HasType : List Equality → Pos → Ty → Type 0
HasType es p t = (a : Assignment) → Solves es a → a p ≡ t

-- what stands at the place has different types in two assignments that meet the equalities
pub record HasTwoTypes (es : List Equality) (p : Pos) : Type 0 where
  pub one : Assignment
  pub other : Assignment
  pub one_solves : Solves es one
  pub other_solves : Solves es other
  pub differ : one p ≡ other p → ⊥

pub record HasOneType (es : List Equality) (p : Pos) : Type 0 where
  pub type : Ty
  pub has_type : HasType es p type

-- The equalities can be met, and the place is that of the first of these that has two types.
pub record IsOpen (es : List Equality) (nodes : List Pos) (at : Pos) : Type 0 where
  pub solution : Assignment
  pub solves : Solves es solution
  pub before : List Pos
  pub behind : List Pos
  pub parts : nodes ≡ before ++ at ∷ behind
  pub closed_before : AllByRecursion (HasOneType es) before
  pub has_two : HasTwoTypes es at

abbrev pub joined : {A : Type 0} → List (List A) → List A
joined [] = []
joined (xs ∷ xss) = xs ++ joined xss

-- the places of variables, declaration by declaration
abbrev pub variable_places : List (List VarInfo) → List Pos
variable_places vars = map (λ v. v.at) (joined vars)

-- the variables have these types, one by one
pub data HaveTypes (es : List Equality) : List VarInfo → List Ty → Type 0 where
  end : HaveTypes es [] []
  next : {v : VarInfo} {t : Ty} {vs : List VarInfo} {ts : List Ty} → HasType es v.at t → HaveTypes es vs ts → HaveTypes es (v ∷ vs) (t ∷ ts)

pub data HaveTypesInEach (es : List Equality) : List (List VarInfo) → List (List Ty) → Type 0 where
  end_of_all : HaveTypesInEach es [] []
  next_of_all : {vs : List VarInfo} {ts : List Ty} {vss : List (List VarInfo)} {tss : List (List Ty)}
      → HaveTypes es vs ts → HaveTypesInEach es vss tss → HaveTypesInEach es (vs ∷ vss) (ts ∷ tss)

-- The one typing of the variables: the equalities can be met, and each variable has its type wherever they are.
pub record IsTyping (es : List Equality) (vars : List (List VarInfo)) (types : List (List Ty)) : Type 0 where
  pub solution : Assignment
  pub solves : Solves es solution
  pub types_of_variables : HaveTypesInEach es vars types

-- a broken rule of types, and its place
abbrev pub IsUntyped : List Equality → List (List VarInfo) → Rule → Pos → Type 0
IsUntyped es vars rule.TypeClash at = IsClash es at
IsUntyped es vars rule.TypeOpen at = IsOpen es (variable_places vars) at
IsUntyped es vars _ at = ⊥

abbrev pub IsUntypedBy : List Equality → List (List VarInfo) → Refusal → Type 0
IsUntypedBy es vars (Broken r at) = IsUntyped es vars r at
IsUntypedBy es vars Memory = Unit {0}
