-- How the chains of the links grow.
use Rattle.std.proofs.Common.{◌≡◌, ◌⊎◌, inl, inr, ℕ, ◌+◌, ◌<◌, ◌≤◌, List, [], ◌∷◌, ◌++◌, length, get_or, slice_get, Some, refl, sym, ap, ◌∙◌, subst, arith, length-set, length-append}
use Rattle.std.proofs.lemmas.List.{get_or-set_same, get_or-set_other, get_or_append_left, get_or_push}
use Rattle.std.proofs.lemmas.Bool.{cases_lt}
use Rattle.zl_grade.specs.Chains.{start_of, HasNode, occs_with, places_with, IsLast, HasFirst}
use Rattle.zl_grade.specs.declared.node.Link.{Link}
use Rattle.zl_grade.specs.declared.node.Node.{Node}
use Rattle.zl_grade.specs.declared.node.Node.TheVariants.{Occ, Place}
use Rattle.zl_grade.proofs.Rising.{node_tells}

-- where the chain of a node begins that has a new beginning
start-same : (occs places : List ℕ) (x : Node) (n : ℕ) → HasNode occs places x → start_of (occs_with x n occs) (places_with x n places) x ≡ n
start-same occs places (Occ k) n l = get_or-set_same occs k n 0 l
start-same occs places (Place p) n l = get_or-set_same places p n 0 l

start-other : (occs places : List ℕ) (x m : Node) (n : ℕ) → (m ≡ x → ⊥) → start_of (occs_with x n occs) (places_with x n places) m ≡ start_of occs places m
start-other occs places (Occ k) (Occ j) n ne = get_or-set_other occs k j n 0 (λ e. ne (ap (λ i. Occ i) e))
start-other occs places (Occ k) (Place p) n ne = refl
start-other occs places (Place p) (Occ j) n ne = refl
start-other occs places (Place p) (Place q) n ne = get_or-set_other places p q n 0 (λ e. ne (ap (λ i. Place i) e))

pub occs-same : (occs : List ℕ) (x : Node) (n : ℕ) → length (occs_with x n occs) ≡ length occs
occs-same occs (Occ k) n = length-set occs k n
occs-same occs (Place p) n = refl

pub places-same : (places : List ℕ) (x : Node) (n : ℕ) → length (places_with x n places) ≡ length places
places-same places (Occ k) n = refl
places-same places (Place p) n = length-set places p n

node-before : (occs places : List ℕ) (x m : Node) (n : ℕ) → HasNode (occs_with x n occs) (places_with x n places) m → HasNode occs places m
node-before occs places x (Occ k) n l = let e = occs-same occs x n in omega (arith, l, e)
node-before occs places x (Place p) n l = let e = places-same places x n in omega (arith, l, e)

-- one link more
pub chains_more : (links : List Link) (n : ℕ) (occs places before : List ℕ) (one : Link) → HasFirst links n occs places before → slice_get links n ≡ Some one
    → HasFirst links (n + 1) (occs_with one.from (n + 1) occs) (places_with one.from (n + 1) places) (before ++ start_of occs places one.from ∷ [])
chains_more links n occs places before one h at = record {
  befores = length-append before (start_of occs places one.from ∷ []) ∙ ap (λ k. k + 1) h.befores;
  of_nodes = λ node l. of_nodes_more node (node-before occs places one.from node (n + 1) l) (node_tells node one.from);
  of_links = λ i other l is inside. of_links_more i other is (node-before occs places one.from other.from (n + 1) inside) (cases_lt i n) l;
}
  where
    the_same : (i : ℕ) (other : Link) → i ≡ n → slice_get links i ≡ Some other → one ≡ other
    the_same i other e is = let there : slice_get links n ≡ Some other = subst (λ j. slice_get links j ≡ Some other) e is in cc

    here : (node : Node) → node ≡ one.from → IsLast links (n + 1) node (n + 1)
    here node e = record {
      within = omega arith;
      from = λ i other same is. ap (λ (l : Link). l.from) (sym (the_same i other (let place : i ≡ n = omega (arith, same) in place) is)) ∙ sym e;
      none = λ i other ge less is. absurd (omega (arith, ge, less));
    }

    there : (node : Node) → (node ≡ one.from → ⊥) → IsLast links n node (start_of occs places node) → IsLast links (n + 1) node (start_of occs places node)
    there node ne k = record {
      within = omega (arith, k.within);
      from = k.from;
      none = λ i other ge less is from. by_place i other ge is from (cases_lt i n) less;
    }
      where
        by_place : (i : ℕ) (other : Link) → start_of occs places node ≤ i → slice_get links i ≡ Some other → other.from ≡ node → (i < n) ⊎ (n ≤ i) → i < n + 1 → ⊥
        by_place i other ge is from (inl l) less = k.none i other ge l is from
        by_place i other ge is from (inr l) less = ne (sym from ∙ ap (λ (o : Link). o.from) (sym (the_same i other (let place : i ≡ n = omega (arith, l, less) in place) is)))

    of_nodes_more : (node : Node) → HasNode occs places node → (node ≡ one.from) ⊎ (node ≡ one.from → ⊥)
        → IsLast links (n + 1) node (start_of (occs_with one.from (n + 1) occs) (places_with one.from (n + 1) places) node)
    of_nodes_more node l (inl e) =
        let begin = ap (λ m. start_of (occs_with one.from (n + 1) occs) (places_with one.from (n + 1) places) m) e ∙ start-same occs places one.from (n + 1) (subst (HasNode occs places) e l) in
        subst (IsLast links (n + 1) node) (sym begin) (here node e)
    of_nodes_more node l (inr ne) = subst (IsLast links (n + 1) node) (sym (start-other occs places one.from node (n + 1) ne)) (there node ne (h.of_nodes node l))

    of_links_more : (i : ℕ) (other : Link) → slice_get links i ≡ Some other → HasNode occs places other.from → (i < n) ⊎ (n ≤ i) → i < n + 1
        → IsLast links i other.from (get_or (before ++ start_of occs places one.from ∷ []) i 0)
    of_links_more i other is inside (inl l) less =
        subst (IsLast links i other.from) (sym (get_or_append_left before (start_of occs places one.from ∷ []) 0 i (let g : i < length before = omega (arith, l, h.befores) in g))) (h.of_links i other l is inside)
    of_links_more i other is inside (inr l) less =
        let at_n : i ≡ n = omega (arith, l, less) in
        let same : one ≡ other = the_same i other at_n is in
        let end : get_or (before ++ start_of occs places one.from ∷ []) i 0 ≡ start_of occs places one.from = get_or_push before (start_of occs places one.from) 0 i (h.befores ∙ sym at_n) in
        let mine : HasNode occs places one.from = subst (λ (o : Link). HasNode occs places o.from) (sym same) inside in
        subst (IsLast links i other.from) (sym end)
        (subst (λ (o : Link). IsLast links i o.from (start_of occs places one.from)) same
        (subst (λ j. IsLast links j one.from (start_of occs places one.from)) (sym at_n) (h.of_nodes one.from mine)))
