-- What classes of variables and occurrences say of assignments.
use Rattle.std.specs.Prelude.{◌≡◌, ℕ, ◌<◌, ◌≤◌, Bool, ◌&&◌, nat_eq, List, length, get_or, Option, Some, None}
use Rattle.std.specs.List.{position_or_len}
use Rattle.zl_value.specs.declared.position.Pos.{Pos}
use Rattle.zl_value.specs.declared.value.Ty.{Ty}
use Rattle.zl_ast.specs.declared.constraint.Equality.{Equality}
use Rattle.zl_ast.specs.Assignments.{Assignment, Meets, Solves}
use Rattle.zl_types.specs.declared.classes.Key.{Key}
use Rattle.zl_types.specs.declared.classes.Classes.{Classes}
use Rattle.zl_types.specs.Forest.{IsForest, IsRoot, AreTied}

-- the key of a place, the place of a key, and whether two keys are of one place
abbrev pub key_of : Pos → Key
key_of p = record { line = p.line; column = p.column }

abbrev pub place_of : Key → Pos
place_of k = record { line = k.line; column = k.column }

abbrev pub same_key : Key → Key → Bool
same_key j k = nat_eq j.line k.line && nat_eq j.column k.column

-- the number of the node that stands for a place
abbrev pub number_of : List Key → Pos → ℕ
number_of keys p = position_or_len (same_key (key_of p)) keys

-- the place that a node stands for
abbrev pub place_at : List Key → ℕ → Pos
place_at keys i = place_of (get_or keys i (record { line = 0; column = 0 }))

-- the types that are known are those of the nodes
abbrev pub HaveKnown : List (Option Ty) → (ℕ → Ty) → Type 0
HaveKnown known type = (i : ℕ) (t : Ty) → get_or known i None ≡ Some t → type i ≡ t

-- a type is known at roots alone
abbrev pub AreKnownAtRoots : List ℕ → List (Option Ty) → Type 0
AreKnownAtRoots links known = (i : ℕ) (t : Ty) → get_or known i None ≡ Some t → IsRoot links i

-- each place has one node, and each node a link and what is known of its class
pub record IsSoundOf (keys : List Key) (links : List ℕ) (known : List (Option Ty)) : Type 0 where
  pub forest : IsForest links
  pub linked : length links ≡ length keys
  pub typed : length known ≡ length keys
  pub at_roots : AreKnownAtRoots links known
  pub numbered : (i : ℕ) → i < length keys → number_of keys (place_at keys i) ≡ i

abbrev pub IsSound : Classes → Type 0
IsSound c = IsSoundOf c.keys.keys c.links.items c.known.items

-- each class has one type, and the known one where there is one
pub record SuitsOf (links : List ℕ) (known : List (Option Ty)) (type : ℕ → Ty) : Type 0 where
  pub ties : AreTied links type
  pub types : HaveKnown known type

abbrev pub Suits : Classes → (ℕ → Ty) → Type 0
Suits c type = SuitsOf c.links.items c.known.items type

-- the types of the nodes in an assignment
abbrev pub types_in : Classes → Assignment → ℕ → Ty
types_in c a i = a (place_at c.keys.keys i)

-- the assignment gives the nodes types that suit
abbrev pub Fits : Classes → Assignment → Type 0
Fits c a = Suits c (types_in c a)

-- the assignments that fit are those that meet the equalities
pub record Represents (es : List Equality) (c : Classes) : Type 0 where
  pub fits : (a : Assignment) → Solves es a → Fits c a
  pub solves : (a : Assignment) → Fits c a → Solves es a

-- the node has the place, and the same assignments fit as before
pub record Numbers (place : Pos) (old new : Classes) (node : ℕ) : Type 0 where
  pub sound : IsSound new
  pub within : node < length new.keys.keys
  pub here : place_at new.keys.keys node ≡ place
  pub longer : length old.keys.keys ≤ length new.keys.keys
  pub places : (i : ℕ) → i < length old.keys.keys → place_at new.keys.keys i ≡ place_at old.keys.keys i
  pub fits : (a : Assignment) → Fits old a → Fits new a
  pub fits_back : (a : Assignment) → Fits new a → Fits old a

-- what is known goes with the same types as before if they give this one to the node
pub record Learns (node : ℕ) (ty : Ty) (old new : List (Option Ty)) : Type 0 where
  pub nodes : length new ≡ length old
  pub others : (i : ℕ) (t : Ty) → get_or new i None ≡ Some t → (i ≡ node → ⊥) → get_or old i None ≡ Some t
  pub to : (type : ℕ → Ty) → HaveKnown old type → type node ≡ ty → HaveKnown new type
  pub back : (type : ℕ → Ty) → HaveKnown new type → HaveKnown old type
  pub learned : (type : ℕ → Ty) → HaveKnown new type → type node ≡ ty

-- of the types that suited those suit that have the property
pub record Narrows (P : (ℕ → Ty) → Type 0) (old new : Classes) : Type 0 where
  pub sound : IsSound new
  pub keys : new.keys.keys ≡ old.keys.keys
  pub to : (type : ℕ → Ty) → Suits old type → P type → Suits new type
  pub back : (type : ℕ → Ty) → Suits new type → Suits old type
  pub property : (type : ℕ → Ty) → Suits new type → P type

-- no types that suit have the property
abbrev pub Excludes : ((ℕ → Ty) → Type 0) → Classes → Type 0
Excludes P c = (type : ℕ → Ty) → Suits c type → P type → ⊥

-- the equality is met by the assignments that fit now, and by no other that fitted
pub record Meeting (e : Equality) (old new : Classes) : Type 0 where
  pub sound : IsSound new
  pub fits : (a : Assignment) → Fits old a → Meets a e → Fits new a
  pub fits_back : (a : Assignment) → Fits new a → Fits old a
  pub meets : (a : Assignment) → Fits new a → Meets a e

-- no assignment that fits meets the equality
abbrev pub Clashes : Equality → Classes → Type 0
Clashes e c = (a : Assignment) → Fits c a → Meets a e → ⊥

-- an assignment that fits and gives this type to the place
pub record CanBe (c : Classes) (place : Pos) (ty : Ty) : Type 0 where
  pub assignment : Assignment
  pub fits : Fits c assignment
  pub is : assignment place ≡ ty

-- the type of the place, or nothing where it can be any
pub record IsTypeAt (place : Pos) (old new : Classes) (type : Option Ty) : Type 0 where
  pub sound : IsSound new
  pub fits : (a : Assignment) → Fits old a → Fits new a
  pub fits_back : (a : Assignment) → Fits new a → Fits old a
  pub closed : (t : Ty) → type ≡ Some t → (a : Assignment) → Fits new a → a place ≡ t
  pub any : type ≡ None → (t : Ty) → CanBe new place t
