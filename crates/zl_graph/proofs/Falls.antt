-- Numbers of parts fall along links from nodes that don't lead to themselves.
use Rattle.std.proofs.Common.{◌≡◌, ◌⊎◌, inl, inr, ℕ, ◌<◌, ◌≤◌, Bool, true, false, List, length, get_or, arith}
use Rattle.std.proofs.lemmas.Bool.{cases_lt}
use Rattle.zl_graph.specs.declared.graph.Link.{Link}
use Rattle.zl_graph.specs.Graph.{IsLinked, Reaches, Here, Along, HasNodes, Leads}
use Rattle.zl_graph.specs.Circles.{AreCircles}
use Rattle.zl_graph.proofs.Ways.{Reaches-trans}
use Rattle.zl_graph.proofs.Loops.{falls_along}

reaches_within : (links : List Link) (n : ℕ) → HasNodes links n → (a b : ℕ) → Reaches links a b → a < n → b < n
reaches_within links n nodes a b (Here c) l = l
reaches_within links n nodes a b (Along c d e link rest) l = reaches_within links n nodes d b rest (nodes.to a d link)

-- along links from a node that doesn't lead to itself, numbers fall
pub falls : (links : List Link) (numbers : List ℕ) (marks : List Bool) → AreCircles links numbers marks → (a b : ℕ) → Leads links a b → (get_or marks a false ≡ true → ⊥) → get_or numbers b 0 < get_or numbers a 0
falls links numbers marks circles a b h none = by_place (cases_lt (get_or numbers b 0) (get_or numbers a 0))
  where
    by_place : (get_or numbers b 0 < get_or numbers a 0) ⊎ (get_or numbers a 0 ≤ get_or numbers b 0) → get_or numbers b 0 < get_or numbers a 0
    by_place (inl l) = l
    by_place (inr l) =
        let down = circles.parts.fall a h.0 h.1 in
        let on = falls_along links numbers circles.parts h.0 b h.2 in
        let same : get_or numbers b 0 ≡ get_or numbers a 0 = omega (arith, l, down, on) in
        let back = circles.parts.joined b a (reaches_within links (length numbers) circles.parts.nodes h.0 b h.2 (circles.parts.nodes.to a h.0 h.1)) (circles.parts.nodes.from a h.0 h.1) same in
        absurd (none (circles.full a (h.0, h.1, Reaches-trans links h.0 b a h.2 back)))

-- other numbers that fall along links
module _ (links : List Link) (rank : ℕ → ℕ) (lower : (a b : ℕ) → IsLinked links a b → rank b < rank a) where
  lower_along : (a b : ℕ) → Reaches links a b → rank b ≤ rank a
  lower_along a b (Here c) = omega arith
  lower_along a b (Along c d e link rest) = omega (arith, lower a d link, lower_along d b rest)

  no_circle : (a : ℕ) → Leads links a a → ⊥
  no_circle a h = absurd (omega (arith, lower a h.0 h.1, lower_along h.0 a h.2))

  -- where there are such numbers, those of the parts are such numbers too
  pub ranked_falls : (numbers : List ℕ) (marks : List Bool) → AreCircles links numbers marks → (a b : ℕ) → IsLinked links a b → get_or numbers b 0 < get_or numbers a 0
  ranked_falls numbers marks circles a b link = falls links numbers marks circles a b (b, link, Here b) (λ e. no_circle a (circles.sound a e))
