-- Refusals by lists of violations or of places that are known.
use Rattle.std.proofs.Common.{◌≡◌, ℕ, ◌<◌, ◌≤◌, true, false, cond, inl, inr, nat_eq, List, [], ◌∷◌, map, filter, refl, sym, ap, ◌∙◌, subst, arith}
use Rattle.std.proofs.lemmas.Bool.Decides.{nat_tests}
use Rattle.std.specs.List.{AllByRecursion, Contains}
use Rattle.zl_value.specs.declared.position.Pos.{Pos}
use Rattle.zl_value.specs.declared.rule.Rule.{Rule}
use Rattle.zl_ast.specs.declared.program.Program.{Program}
use Rattle.zl_ast.specs.Parsed.{Before}
use Rattle.zl_ast.specs.Names.{Violation}
use Rattle.zl_ast.specs.NamesRules.{violations, turn, IsRefusedAt}
use Rattle.zl_ast.specs.Kinds.{misplaced, IsMisplacedAt}
use Rattle.zl_ast.specs.WorkedTrees.{at}
use Rattle.zl_ast.specs.Verdicts.{OneIsRefused}

-- ---- places

pub in_line : (line column more : ℕ) → column ≤ more → Before (at line more) (at line column) → ⊥
in_line line column more h (inl e) = omega (arith, e)
in_line line column more h (inr e) = omega (arith, h, e.1)

pub in_later_line : (line column below more : ℕ) → line < below → Before (at below more) (at line column) → ⊥
in_later_line line column below more h (inl e) = omega (arith, h, e)
in_later_line line column below more h (inr e) = omega (arith, h, e.0)

-- the first of the misplaced constructs
pub misplaced_at : (p : Program) (place : Pos) (ps : List Pos) → misplaced p ≡ ps → Contains ps place → AllByRecursion (λ other. Before other place → ⊥) ps → IsMisplacedAt p place
misplaced_at p place ps e h k =
    record { broken = subst (λ qs. Contains qs place) (sym e) h; least = subst (λ qs. AllByRecursion (λ other. Before other place → ⊥) qs) (sym e) k }

-- ---- violations

-- the places of the violations of one rule
abbrev pub places : Rule → List Violation → List Pos
places r vs = map (λ v. v.1) (filter (λ v. nat_eq (turn v.0) (turn r)) vs)

-- no rule before this one is broken
abbrev pub NoneEarlier : Rule → List Violation → Type 0
NoneEarlier r vs = AllByRecursion (λ (v : Violation). turn r ≤ turn v.0) vs

other_turn : (n r s : ℕ) → s < r → r ≤ n → nat_eq n s ≡ false
other_turn n r s h k = grind (arith, nat_tests)

none_earlier : (r s : Rule) (vs : List Violation) → turn s < turn r → NoneEarlier r vs → places s vs ≡ []
none_earlier r s [] h k = refl
none_earlier r s (v ∷ vs) h k =
    ap (λ b. map (λ w. w.1) (cond b (v ∷ filter (λ w. nat_eq (turn w.0) (turn s)) vs) (filter (λ w. nat_eq (turn w.0) (turn s)) vs))) (other_turn (turn v.0) (turn r) (turn s) h k.0)
    ∙ none_earlier r s vs h k.1

-- refused by the first rule that is broken, at the first of its places
pub refused_at : (p : Program) (r : Rule) (place : Pos) (vs : List Violation) → violations p ≡ vs → Contains (places r vs) place
    → AllByRecursion (λ other. Before other place → ⊥) (places r vs) → NoneEarlier r vs → IsRefusedAt p r place
refused_at p r place vs e h k none =
    record {
      broken = subst (λ ws. Contains (places r ws) place) (sym e) h;
      least = subst (λ ws. AllByRecursion (λ other. Before other place → ⊥) (places r ws)) (sym e) k;
      earlier = λ s below. ap (places s) e ∙ none_earlier r s vs below none;
    }

same_turn : (n : ℕ) → nat_eq n n ≡ true
same_turn n = grind (arith, nat_tests)

one_place_of : (r : Rule) (place : Pos) → places r ((r, place) ∷ []) ≡ place ∷ []
one_place_of r place = ap (λ b. map (λ (w : Violation). w.1) (cond b ((r, place) ∷ []) [])) (same_turn (turn r))

itself : (place : Pos) → Before place place → ⊥
itself place (inl e) = omega (arith, e)
itself place (inr e) = omega (arith, e.1)

pub one_is_refused : OneIsRefused
one_is_refused p r place e =
    refused_at p r place ((r, place) ∷ []) e (subst (λ ps. Contains ps place) (sym (one_place_of r place)) (0, omega arith, refl))
    (subst (λ ps. AllByRecursion (λ other. Before other place → ⊥) ps) (sym (one_place_of r place)) (itself place, tt)) (omega arith, tt)
