-- Nodes in classes: each node is linked to an older one of its class, and the oldest, the root, to itself.
use Rattle.std.specs.Prelude.{◌≡◌, ℕ, ◌≤◌, List, length, get_or}
use Rattle.zl_value.specs.declared.value.Ty.{Ty}

-- what the node is linked to
abbrev pub link : List ℕ → ℕ → ℕ
link links i = get_or links i i

-- the node is linked to itself
abbrev pub IsRoot : List ℕ → ℕ → Type 0
IsRoot links i = link links i ≡ i

-- no node is linked to a younger one
abbrev pub IsForest : List ℕ → Type 0
IsForest links = (i : ℕ) → link links i ≤ i

-- nodes of one class have one type
abbrev pub AreTied : List ℕ → (ℕ → Ty) → Type 0
AreTied links type = (i : ℕ) → type i ≡ type (link links i)

-- two nodes are of one class
abbrev pub IsSameClass : List ℕ → ℕ → ℕ → Type 0
IsSameClass links i j = (type : ℕ → Ty) → AreTied links type → type i ≡ type j

-- the same classes with the same roots, linked in another way
pub record IsRelinked (old new : List ℕ) : Type 0 where
  pub forest : IsForest new
  pub nodes : length new ≡ length old
  pub roots : (i : ℕ) → IsRoot old i → IsRoot new i
  pub ties : (type : ℕ → Ty) → AreTied old type → AreTied new type
  pub ties_back : (type : ℕ → Ty) → AreTied new type → AreTied old type
