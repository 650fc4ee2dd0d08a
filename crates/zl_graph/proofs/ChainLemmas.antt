-- How the chains of a graph grow with its links.
use Rattle.std.proofs.Common.{◌≡◌, ◌⊎◌, inl, inr, ℕ, ◌+◌, ◌<◌, ◌≤◌, List, [], ◌∷◌, ◌++◌, length, take, set, get_or, slice_get, Some, sym, ap, ◌∙◌, subst, arith, length-set, length-append}
use Rattle.std.proofs.lemmas.List.{take_more, get_or-set_same, get_or-set_other, get_or_append_left, get_or_push}
use Rattle.std.proofs.lemmas.Option.{slice_get-get_or}
use Rattle.std.proofs.lemmas.Bool.{cases_lt}
use Rattle.std.proofs.lemmas.Bool.Decides.{eqb_tells}
use Rattle.zl_graph.specs.declared.graph.Link.{Link}
use Rattle.zl_graph.specs.Graph.{IsLinked, HasNodes}
use Rattle.zl_graph.specs.Chains.{IsLast, HasFirst}
use Rattle.zl_graph.proofs.Positions.{get-push_cases}

-- a link of the list
pub link_at : (links : List Link) (i : ℕ) (d : Link) → i < length links → IsLinked links (get_or links i d).from (get_or links i d).to
link_at links i d l = record { index = i; is = slice_get-get_or links i d l }

pub nodes_more : (links : List Link) (i count more : ℕ) (d : Link) → i < length links → HasNodes (take i links) count → count ≤ more
    → (get_or links i d).from < more → (get_or links i d).to < more → HasNodes (take (i + 1) links) more
nodes_more links i count more d l h le from to = subst (λ ls. HasNodes ls more) (sym (take_more links i d l)) (record {
  from = λ a b linked. by_case a b (λ x y. x < more) (λ x y k. omega (arith, le, h.from x y k)) from (get-push_cases (take i links) (get_or links i d) linked.index _ linked.is);
  to = λ a b linked. by_case a b (λ x y. y < more) (λ x y k. omega (arith, le, h.to x y k)) to (get-push_cases (take i links) (get_or links i d) linked.index _ linked.is);
})
  where
    by_case : (a b : ℕ) (P : ℕ → ℕ → Type 0) → ((x y : ℕ) → IsLinked (take i links) x y → P x y) → P (get_or links i d).from (get_or links i d).to → {n : ℕ}
        → (slice_get (take i links) n ≡ Some (record { from = a; to = b })) ⊎ ((n ≡ length (take i links)) × (record { from = a; to = b } ≡ get_or links i d)) → P a b
    by_case a b P old new {n} (inl e) = old a b (record { index = n; is = e })
    by_case a b P old new {n} (inr e) = subst (λ (k : Link). P k.from k.to) (sym e.1) new

-- one link more
pub chains_more : (links : List Link) (nodes n : ℕ) (last before : List ℕ) (link : Link) → HasFirst links nodes n last before → slice_get links n ≡ Some link
    → link.from < nodes → HasFirst links nodes (n + 1) (set last link.from (n + 1)) (before ++ get_or last link.from 0 ∷ [])
chains_more links nodes n last before link h at low = record {
  lasts = length-set last link.from (n + 1) ∙ h.lasts;
  befores = length-append before (get_or last link.from 0 ∷ []) ∙ ap (λ k. k + 1) h.befores;
  of_nodes = of_nodes_more;
  of_links = λ i one l e. of_links_more i one e (cases_lt i n) l;
}
  where
    the_same : (i : ℕ) (one : Link) → i ≡ n → slice_get links i ≡ Some one → link ≡ one
    the_same i one e is = let there : slice_get links n ≡ Some one = subst (λ j. slice_get links j ≡ Some one) e is in cc

    here : (a : ℕ) → a ≡ link.from → IsLast links (n + 1) a (n + 1)
    here a e = record {
      within = omega arith;
      from = λ i one same is. ap (λ (k : Link). k.from) (sym (the_same i one (let at : i ≡ n = omega (arith, same) in at) is)) ∙ sym e;
      none = λ i one ge less is. absurd (omega (arith, ge, less));
    }

    there : (a : ℕ) → (a ≡ link.from → ⊥) → IsLast links n a (get_or last a 0) → IsLast links (n + 1) a (get_or last a 0)
    there a ne k = record {
      within = omega (arith, k.within);
      from = k.from;
      none = λ i one ge less is from. by_place i one ge is from (cases_lt i n) less;
    }
      where
        by_place : (i : ℕ) (one : Link) → get_or last a 0 ≤ i → slice_get links i ≡ Some one → one.from ≡ a → (i < n) ⊎ (n ≤ i) → i < n + 1 → ⊥
        by_place i one ge is from (inl l) less = k.none i one ge l is from
        by_place i one ge is from (inr l) less = ne (sym from ∙ ap (λ (o : Link). o.from) (sym (the_same i one (let at : i ≡ n = omega (arith, l, less) in at) is)))

    of_nodes_more : (a : ℕ) → a < nodes → IsLast links (n + 1) a (get_or (set last link.from (n + 1)) a 0)
    of_nodes_more a l =
        elim (eqb_tells a link.from) [
          | inl e ↦ subst (IsLast links (n + 1) a) (sym (ap (λ j. get_or (set last link.from (n + 1)) j 0) e.1 ∙ get_or-set_same last link.from (n + 1) 0 (let g : link.from < length last = omega (arith, low, h.lasts) in g))) (here a e.1)
          | inr e ↦ subst (IsLast links (n + 1) a) (sym (get_or-set_other last link.from a (n + 1) 0 e.1)) (there a e.1 (h.of_nodes a l))
        ]

    of_links_more : (i : ℕ) (one : Link) → slice_get links i ≡ Some one → (i < n) ⊎ (n ≤ i) → i < n + 1 → IsLast links i one.from (get_or (before ++ get_or last link.from 0 ∷ []) i 0)
    of_links_more i one is (inl l) less =
        subst (IsLast links i one.from) (sym (get_or_append_left before (get_or last link.from 0 ∷ []) 0 i (let g : i < length before = omega (arith, l, h.befores) in g))) (h.of_links i one l is)
    of_links_more i one is (inr l) less =
        let at_n : i ≡ n = omega (arith, l, less) in
        let same : link ≡ one = the_same i one at_n is in
        let end : get_or (before ++ get_or last link.from 0 ∷ []) i 0 ≡ get_or last link.from 0 = get_or_push before (get_or last link.from 0) 0 i (h.befores ∙ sym at_n) in
        subst (IsLast links i one.from) (sym end)
        (subst (λ (o : Link). IsLast links i o.from (get_or last link.from 0)) same
        (subst (λ j. IsLast links j link.from (get_or last link.from 0)) (sym at_n) (h.of_nodes link.from low)))
