-- What the walk of an equation keeps of a flat form but for types, as one of the things that hold of walks.
use Rattle.std.proofs.Common.{ℕ, ◌+◌, ◌<◌, List, [], ◌∷◌, length, Option, Some, None}
use Rattle.std.specs.List.{AllByRecursion}
use Rattle.zl_meaning.specs.FlatForm.{FlatForm}
use Rattle.zl_flat.specs.Instances.{Instance}
use Rattle.zl_flat.specs.Expressions.{Walk}
use Rattle.zl_flat.specs.Equations.{Making, ResetWalk, MoveWalk}
use Rattle.zl_flat.proofs.WellFormedGround.{Sits, Keeps, IsHere}
use Rattle.zl_flat.proofs.WellFormedEqns.{TestKeeps, ArmKeeps, StateKeeps, IsInside, IsChoiceOf, IsAutomatonOf, ResetWalkStands, MoveWalkStands, StartStands, OtherStands, crossing-stands, event-stands, tested-stands, plain-stands, init-stands, der-stands, reset-stands, arm-stands, present-stands, state-stands, automaton-stands, body-stands}
use Rattle.zl_flat.proofs.WellFormedExprTrees.{standing_exprs}
use Rattle.zl_flat.proofs.UsesEqnTrees.{EqnKinds, OfStart, OfOther, OfReset, OfMove, OfEquations}

module _ (f : FlatForm) (base : ℕ) (names : List (List ℕ)) (i : Instance) where
  abbrev pub standing_eqns : EqnKinds
  standing_eqns = record {
    exprs = standing_exprs f base;
    made = λ here s p. IsHere f s here → IsInside f i.block here → Sits f base s p → Keeps f s p;
    tested = λ here s t. IsHere f s here → Sits f base s t.parts → TestKeeps f here s t;
    crossed = λ here s t. IsHere f s here → Sits f base s t.parts → TestKeeps f here s t;
    armed = λ of number here s t. IsHere f s here → IsInside f i.block here → IsChoiceOf f of here.block (number + 1) → Sits f base s t.parts → ArmKeeps f of number here s t;
    stated = λ of number states here s m. IsHere f s here → IsInside f i.block here → IsAutomatonOf f of here.block (length states) → number < length states → Sits f base s m.parts → StateKeeps f (length states) of number s m;
  }

  resets-too : (rs : List ResetWalk) → AllByRecursion (OfReset standing_eqns) rs → AllByRecursion (ResetWalkStands f base) rs
  resets-too [] h = tt
  resets-too (r ∷ rs) h = let a = h.0 in (record { event = a.event; value = a.value }, resets-too rs h.1)

  moves-too : (ms : List MoveWalk) → AllByRecursion (OfMove standing_eqns) ms → AllByRecursion (MoveWalkStands f base names i) ms
  moves-too [] h = tt
  moves-too (m ∷ ms) h = let a = h.0 in (record { test = a.test }, moves-too ms h.1)

  start-too : (start : Option Walk) → OfStart standing_eqns start → StartStands f base names i start
  start-too None h = tt
  start-too (Some x) h = h

  other-too : (other : Option Making) → OfOther standing_eqns other → OtherStands f base names i other
  other-too None h = tt
  other-too (Some b) h = h

  pub equations-stand : OfEquations standing_eqns base names i
  equations-stand = record {
    crossing = λ at x hx here s. crossing-stands f base names i at x hx here s;
    event = λ at ts hs here s. event-stands f base names i at ts hs here s;
    testing = λ x hx here s. tested-stands f base names i x hx here s;
    plain = λ left right known hr here s. plain-stands f base names i left right hr here s;
    der = λ x slope start resets known hslope hstart hresets here s. der-stands f base names i x slope start resets hslope (start-too start hstart) (resets-too resets hresets) here s;
    init = λ x value known hr here s. init-stands f base names i x value hr here s;
    present = λ arms other ha ho here s. present-stands f base names i arms other ha (other-too other ho) here s;
    arm = λ c body hc hb of number here s. arm-stands f base names i c body hc hb of number here s;
    automaton = λ states hs here s. automaton-stands f base names i states hs here s;
    state = λ name body moves hb hm of number states here s. state-stands f base names i name body moves hb (moves-too moves hm) of number states here s;
    reset = λ eqs c heqs hc here s. reset-stands f base names i eqs c heqs hc here s;
    body = λ locals eqs known hs here s. body-stands f base names i locals eqs hs here s;
  }
