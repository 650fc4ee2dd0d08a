-- Nodes from which a link leads to their own part.
use Rattle.std.proofs.Common.{◌≡◌, ◌⊎◌, inl, inr, ℕ, ◌+◌, ◌<◌, ◌≤◌, Bool, true, false, List, [], ◌∷◌, ◌++◌, length, length-set, take, set, get_or, slice_get, Some, sym, ap, ◌∙◌, subst, arith}
use Rattle.std.proofs.lemmas.List.{take_more, get_or-set_same, get_or-set_other}
use Rattle.std.proofs.lemmas.Bool.Decides.{eqb_tells}
use Rattle.zl_graph.specs.declared.graph.Link.{Link}
use Rattle.zl_graph.specs.Graph.{IsLinked, Reaches, Here, Along, AreParts}
use Rattle.zl_graph.specs.Circles.{AreLoops, AreCircles}
use Rattle.zl_graph.proofs.Positions.{get-left, get-push, get-push_cases}

last_link : (links : List Link) (i : ℕ) (d : Link) (a b : ℕ) → IsLinked (take i links ++ get_or links i d ∷ []) a b → IsLinked (take i links) a b ⊎ (record { from = a; to = b } ≡ get_or links i d)
last_link links i d a b h = by_case (get-push_cases (take i links) (get_or links i d) h.index (record { from = a; to = b }) h.is)
  where
    by_case : (slice_get (take i links) h.index ≡ Some (record { from = a; to = b })) ⊎ ((h.index ≡ length (take i links)) × (record { from = a; to = b } ≡ get_or links i d))
        → IsLinked (take i links) a b ⊎ (record { from = a; to = b } ≡ get_or links i d)
    by_case (inl e) = inl (record { index = h.index; is = e })
    by_case (inr e) = inr e.1

tells : (a b : ℕ) → (a ≡ b) ⊎ (a ≡ b → ⊥)
tells a b = elim (eqb_tells a b) [ inl h ↦ inl h.1 | inr h ↦ inr h.1 ]

-- one link more, which leads to another part
pub loops_same : (links : List Link) (numbers : List ℕ) (marks : List Bool) (i : ℕ) (d : Link) → i < length links → AreLoops (take i links) numbers marks
    → (get_or numbers (get_or links i d).from 0 ≡ get_or numbers (get_or links i d).to 0 → ⊥) → AreLoops (take (i + 1) links) numbers marks
loops_same links numbers marks i d l h apart = subst (λ ls. AreLoops ls numbers marks) (sym (take_more links i d l)) (record {
  sound = λ a e. let g = h.sound a e in (g.0, record { index = g.1.index; is = get-left (take i links) (get_or links i d ∷ []) g.1.index (record { from = a; to = g.0 }) g.1.is }, g.2);
  full = λ a b linked same. by_case a b same (last_link links i d a b linked);
})
  where
    by_case : (a b : ℕ) → get_or numbers a 0 ≡ get_or numbers b 0 → IsLinked (take i links) a b ⊎ (record { from = a; to = b } ≡ get_or links i d) → get_or marks a false ≡ true
    by_case a b same (inl linked) = h.full a b linked same
    by_case a b same (inr e) = absurd (apart (subst (λ (k : Link). get_or numbers k.from 0 ≡ get_or numbers k.to 0) e same))

-- one link more, which leads to its own part
pub loops_more : (links : List Link) (numbers : List ℕ) (marks : List Bool) (i : ℕ) (d : Link) → i < length links → AreLoops (take i links) numbers marks
    → (get_or links i d).from < length marks → get_or numbers (get_or links i d).from 0 ≡ get_or numbers (get_or links i d).to 0 → AreLoops (take (i + 1) links) numbers (set marks (get_or links i d).from true)
loops_more links numbers marks i d l h low loop = subst (λ ls. AreLoops ls numbers (set marks (get_or links i d).from true)) (sym (take_more links i d l)) (record {
  sound = λ a e. by_node a e (tells a (get_or links i d).from);
  full = λ a b linked same. marked a (by_case a b same (last_link links i d a b linked));
})
  where
    by_node : (a : ℕ) → get_or (set marks (get_or links i d).from true) a false ≡ true → (a ≡ (get_or links i d).from) ⊎ (a ≡ (get_or links i d).from → ⊥) → (b : ℕ) × IsLinked (take i links ++ get_or links i d ∷ []) a b × (get_or numbers a 0 ≡ get_or numbers b 0)
    by_node a e (inl here) = (
      (get_or links i d).to,
      record { index = length (take i links); is = get-push (take i links) (get_or links i d) ∙ ap (λ (x : ℕ). Some (record { from = x; to = (get_or links i d).to })) (sym here) },
      ap (λ x. get_or numbers x 0) here ∙ loop,
    )
    by_node a e (inr there) =
        let g = h.sound a (sym (get_or-set_other marks (get_or links i d).from a true false there) ∙ e) in
        (g.0, record { index = g.1.index; is = get-left (take i links) (get_or links i d ∷ []) g.1.index (record { from = a; to = g.0 }) g.1.is }, g.2)

    kept : (a : ℕ) → get_or marks a false ≡ true → (a ≡ (get_or links i d).from) ⊎ (a ≡ (get_or links i d).from → ⊥) → get_or (set marks (get_or links i d).from true) a false ≡ true
    kept a was (inl here) = ap (λ x. get_or (set marks (get_or links i d).from true) x false) here ∙ get_or-set_same marks (get_or links i d).from true false low
    kept a was (inr there) = get_or-set_other marks (get_or links i d).from a true false there ∙ was

    marked : (a : ℕ) → (get_or marks a false ≡ true) ⊎ (a ≡ (get_or links i d).from) → get_or (set marks (get_or links i d).from true) a false ≡ true
    marked a (inr here) = ap (λ x. get_or (set marks (get_or links i d).from true) x false) here ∙ get_or-set_same marks (get_or links i d).from true false low
    marked a (inl was) = kept a was (tells a (get_or links i d).from)

    by_case : (a b : ℕ) → get_or numbers a 0 ≡ get_or numbers b 0 → IsLinked (take i links) a b ⊎ (record { from = a; to = b } ≡ get_or links i d) → (get_or marks a false ≡ true) ⊎ (a ≡ (get_or links i d).from)
    by_case a b same (inl linked) = inl (h.full a b linked same)
    by_case a b same (inr e) = inr (ap (λ (k : Link). k.from) e)

-- along links numbers fall
pub falls_along : (links : List Link) (numbers : List ℕ) → AreParts links numbers → (a b : ℕ) → Reaches links a b → get_or numbers b 0 ≤ get_or numbers a 0
falls_along links numbers parts a b (Here c) = omega arith
falls_along links numbers parts a b (Along c d e link rest) = omega (arith, parts.fall a d link, falls_along links numbers parts d b rest)

-- so a node leads to itself exactly where a link leads from it to its own part
pub circles_are : (links : List Link) (numbers : List ℕ) (marks : List Bool) → AreParts links numbers → AreLoops links numbers marks → AreCircles links numbers marks
circles_are links numbers marks parts loops = record {
  parts = parts;
  sound = λ a e.
      let g = loops.sound a e in
      (g.0, g.1, parts.joined g.0 a (parts.nodes.to a g.0 g.1) (parts.nodes.from a g.0 g.1) (sym g.2));
  full = λ a h.
      let down = parts.fall a h.0 h.1 in
      let back = falls_along links numbers parts h.0 a h.2 in
      loops.full a h.0 h.1 (omega (arith, down, back));
}

pub no_loops : (numbers : List ℕ) (marks : List Bool) → ((a : ℕ) → get_or marks a false ≡ true → ⊥) → AreLoops [] numbers marks
no_loops numbers marks none = record { sound = λ a e. absurd (none a e); full = λ a b linked same. absurd (nothing linked.index linked.is) }
  where
    nothing : {x : Link} (n : ℕ) → slice_get [] n ≡ Some x → ⊥
    nothing n e = cc

-- one link more, as the code takes it
pub record StepsOn (links : List Link) (numbers : List ℕ) (old new : List Bool) (i : ℕ) : Type 0 where
  pub size : length new ≡ length old
  pub loops : AreLoops (take (i + 1) links) numbers new

pub loops_step : (links : List Link) (numbers : List ℕ) (old new : List Bool) (i : ℕ) (d : Link) → i < length links → AreLoops (take i links) numbers old → (get_or links i d).from < length old
    → (get_or numbers (get_or links i d).from 0 ≡ get_or numbers (get_or links i d).to 0 → new ≡ set old (get_or links i d).from true)
    → ((get_or numbers (get_or links i d).from 0 ≡ get_or numbers (get_or links i d).to 0 → ⊥) → new ≡ old) → StepsOn links numbers old new i
loops_step links numbers old new i d l h low looped other = by_case (tells (get_or numbers (get_or links i d).from 0) (get_or numbers (get_or links i d).to 0))
  where
    by_case : (get_or numbers (get_or links i d).from 0 ≡ get_or numbers (get_or links i d).to 0) ⊎ (get_or numbers (get_or links i d).from 0 ≡ get_or numbers (get_or links i d).to 0 → ⊥) → StepsOn links numbers old new i
    by_case (inl e) = record {
      size = ap length (looped e) ∙ length-set old (get_or links i d).from true;
      loops = subst (AreLoops (take (i + 1) links) numbers) (sym (looped e)) (loops_more links numbers old i d l h low e);
    }
    by_case (inr e) = record {
      size = ap length (other e);
      loops = subst (AreLoops (take (i + 1) links) numbers) (sym (other e)) (loops_same links numbers old i d l h e);
    }
