-- What the chains of the links say where readers are looked for.
use Rattle.std.proofs.Common.{◌≡◌, ◌⊎◌, inl, inr, ℕ, zero, suc, ◌-◌, ◌<◌, ◌≤◌, Bool, true, false, if◌then◌else◌, List, [], ◌∷◌, ◌++◌, length, get_or, slice_get, Some, refl, sym, ap, ◌∙◌, subst, arith}
use Rattle.std.proofs.lemmas.Bool.{cases_lt}
use Rattle.std.proofs.lemmas.Option.{slice_get-get_or}
use Rattle.zl_meaning.proofs.WrittenForms.{some-same}
use Rattle.zl_meaning.specs.Grades.{Grading}
use Rattle.zl_grade.specs.Equations.{IsInside, may_rise, with_reader}
use Rattle.zl_grade.specs.Chains.{HasNode, IsLast, HasFirst, HasChains}
use Rattle.zl_grade.specs.declared.node.Link.{Link}
use Rattle.zl_grade.specs.declared.node.Node.{Node}
use Rattle.zl_grade.specs.declared.node.Node.TheVariants.{Occ, Place}
use Rattle.zl_grade.specs.declared.readers.Readers.{Readers}

pub same_chains : (links : List Link) (occs places : ℕ) (r : Readers) → HasChains links occs places r → HasChains r.links.now (length r.occs.items) (length r.places.items) r
same_chains links occs places r h = record {
  same = refl;
  occs_length = refl;
  places_length = refl;
  chains = subst (λ ls. HasFirst ls (length ls) r.occs.items r.places.items r.before.items) (sym h.same) h.chains;
}

-- a node that has a grade has a chain
pub node_there : (g : Grading) (occs places : List ℕ) (x : Node) → length occs ≡ length g.occs → length places ≡ length g.places → IsInside g x → HasNode occs places x
node_there g occs places (Occ k) e d l = omega (arith, e, l)
node_there g occs places (Place p) e d l = omega (arith, d, l)

-- what stands at a position of a list that grows
pub get-left : {X : Type 0} (xs ys : List X) (i : ℕ) (x : X) → slice_get xs i ≡ Some x → slice_get (xs ++ ys) i ≡ Some x
get-left [] ys i x e = absurd (cc)
get-left (z ∷ xs) ys zero x e = e
get-left (z ∷ xs) ys (suc i) x e = get-left xs ys i x e

get-push : {X : Type 0} (xs : List X) (y : X) → slice_get (xs ++ y ∷ []) (length xs) ≡ Some y
get-push [] y = refl
get-push (z ∷ xs) y = get-push xs y

-- a list keeps its nodes where a reader is added to it
pub with_kept : (g : Grading) (grade : ℕ) (reader : Node) (nodes : List Node) (i : ℕ) (other : Node) → slice_get nodes i ≡ Some other → slice_get (with_reader g grade reader nodes) i ≡ Some other
with_kept g grade reader nodes i other e = by_test (may_rise g reader grade)
  where
    by_test : (b : Bool) → slice_get (if b then nodes ++ reader ∷ [] else nodes) i ≡ Some other
    by_test true = get-left nodes (reader ∷ []) i other e
    by_test false = e

module _ (links : List Link) (node : Node) (at : ℕ) (d : Link) (some : 0 < at) (le : at ≤ length links) where
  low : at - 1 < length links
  low = omega (arith, some, le)

  -- the chain goes on from the link before
  pub next_last : (occs places before : List ℕ) → HasFirst links (length links) occs places before → HasNode occs places node → IsLast links at node at → IsLast links (at - 1) node (get_or before (at - 1) 0)
  next_last occs places before h inside last =
      let there = slice_get-get_or links (at - 1) d low in
      let from : (get_or links (at - 1) d).from ≡ node = last.from (at - 1) (get_or links (at - 1) d) (omega (arith, some)) there in
      subst (λ n. IsLast links (at - 1) n (get_or before (at - 1) 0)) from (h.of_links (at - 1) (get_or links (at - 1) d) low there (subst (HasNode occs places) (sym from) inside))

  -- with its reader, all readers from there on that may have to rise are on the list
  pub readers_more : (g : Grading) (grade m : ℕ) (nodes : List Node) → IsLast links (at - 1) node m
      → ((j : ℕ) (one : Link) → at ≤ j → slice_get links j ≡ Some one → one.from ≡ node → may_rise g one.to grade ≡ true → (i : ℕ) × (slice_get nodes i ≡ Some one.to))
      → (j : ℕ) (one : Link) → m ≤ j → slice_get links j ≡ Some one → one.from ≡ node → may_rise g one.to grade ≡ true → (i : ℕ) × (slice_get (with_reader g grade (get_or links (at - 1) d).to nodes) i ≡ Some one.to)
  readers_more g grade m nodes last all j one ge is from may = by_place (cases_lt (at - 1) j) (cases_lt j (at - 1))
    where
      reader : Node
      reader = (get_or links (at - 1) d).to

      by_place : (at - 1 < j) ⊎ (j ≤ at - 1) → (j < at - 1) ⊎ (at - 1 ≤ j) → (i : ℕ) × (slice_get (with_reader g grade reader nodes) i ≡ Some one.to)
      by_place (inl l) other =
          let old = all j one (omega (arith, l)) is from may in
          (old.0, with_kept g grade reader nodes old.0 one.to old.1)
      by_place (inr l) (inl less) = absurd (last.none j one ge less is from)
      by_place (inr l) (inr more) =
          let here : j ≡ at - 1 = omega (arith, l, more) in
          let same : get_or links (at - 1) d ≡ one = some-same (sym (slice_get-get_or links (at - 1) d low) ∙ ap (λ n. slice_get links n) (sym here) ∙ is) in
          let rises : may_rise g reader grade ≡ true = ap (λ (o : Link). may_rise g o.to grade) same ∙ may in
          (length nodes, subst (λ (b : Bool). slice_get (if b then nodes ++ reader ∷ [] else nodes) (length nodes) ≡ Some one.to) (sym rises) (get-push nodes reader ∙ ap (λ (o : Link). Some o.to) same))
