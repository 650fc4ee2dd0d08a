-- For each node, a chain of the links that lead from it.
use Rattle.std.specs.Prelude.{◌≡◌, ℕ, ◌+◌, ◌<◌, ◌≤◌, true, List, length, get_or, slice_get, slice_set, Some}
use Rattle.zl_value.specs.Lists.{Has}
use Rattle.zl_meaning.specs.Grades.{Grading}
use Rattle.zl_grade.specs.Equations.{may_rise}
use Rattle.zl_grade.specs.Links.{link}
use Rattle.zl_grade.specs.declared.node.Link.{Link}
use Rattle.zl_grade.specs.declared.node.Node.{Node}
use Rattle.zl_grade.specs.declared.node.Node.TheVariants.{Occ, Place}
use Rattle.zl_grade.specs.declared.readers.Readers.{Readers}

-- where the chain of a node begins, by the lists of those of occurrences and of places
abbrev pub start_of : List ℕ → List ℕ → Node → ℕ
start_of occs places (Occ k) = get_or occs k 0
start_of occs places (Place p) = get_or places p 0

-- the lists have such a node
abbrev pub HasNode : List ℕ → List ℕ → Node → Type 0
HasNode occs places (Occ k) = k < length occs
HasNode occs places (Place p) = p < length places

-- with this beginning for the node
abbrev pub occs_with : Node → ℕ → List ℕ → List ℕ
occs_with (Occ k) start occs = slice_set occs k start
occs_with (Place p) start occs = occs

abbrev pub places_with : Node → ℕ → List ℕ → List ℕ
places_with (Occ k) start places = places
places_with (Place p) start places = slice_set places p start

-- `m` is one more than the number of the last link from the node among the first `n`, or 0 where there is none
pub record IsLast (links : List Link) (n : ℕ) (node : Node) (m : ℕ) : Type 0 where
  pub within : m ≤ n
  pub from : (i : ℕ) (one : Link) → m ≡ i + 1 → slice_get links i ≡ Some one → one.from ≡ node
  pub none : (i : ℕ) (one : Link) → m ≤ i → i < n → slice_get links i ≡ Some one → one.from ≡ node → ⊥

-- the chains of the first `n` links
pub record HasFirst (links : List Link) (n : ℕ) (occs places before : List ℕ) : Type 0 where
  pub befores : length before ≡ n
  pub of_nodes : (node : Node) → HasNode occs places node → IsLast links n node (start_of occs places node)
  pub of_links : (i : ℕ) (one : Link) → i < n → slice_get links i ≡ Some one → HasNode occs places one.from → IsLast links i one.from (get_or before i 0)

-- these are the chains of the links, for so many occurrences and places
pub record HasChains (links : List Link) (occs places : ℕ) (r : Readers) : Type 0 where
  pub same : r.links.now ≡ links
  pub occs_length : length r.occs.items ≡ occs
  pub places_length : length r.places.items ≡ places
  pub chains : HasFirst links (length links) r.occs.items r.places.items r.before.items

-- the list keeps its nodes and has each that reads this one and may have to rise where this one rises to the grade
pub record HasReaders (links : List Link) (g : Grading) (node : Node) (grade : ℕ) (old new : List Node) : Type 0 where
  pub kept : (i : ℕ) (other : Node) → slice_get old i ≡ Some other → slice_get new i ≡ Some other
  pub all : (reader : Node) → Has links (link node reader) → may_rise g reader grade ≡ true → (i : ℕ) × (slice_get new i ≡ Some reader)
