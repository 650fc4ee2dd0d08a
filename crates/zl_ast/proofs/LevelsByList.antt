-- Levels that meet a list of constraints, and constraints that none meet, by computation: a list of the places that are late.
use Rattle.std.proofs.Common.{◌≡◌, ℕ, zero, suc, Bool, true, false, not, ◌&&◌, ◌||◌, List, [], ◌∷◌, ◌++◌, refl}
use Rattle.std.specs.List.{AllByRecursion}
use Rattle.zl_value.specs.declared.position.Pos.{Pos}
use Rattle.zl_ast.specs.declared.constraint.Asked.{Asked}
use Rattle.zl_ast.specs.declared.constraint.Asked.TheVariants as asked
use Rattle.zl_ast.specs.declared.constraint.Requirement.{Requirement}
use Rattle.zl_ast.specs.Levels.{Level, early, late, Levels, Grants, Allow, IsUnmet, HasLevels}
use Rattle.zl_ast.specs.Initialised.{same_place}
use Rattle.zl_ast.proofs.TypingByTable.{left_true, right_true, either_true, one_place}

abbrev has : List Pos → Pos → Bool
has [] p = false
has (q ∷ qs) p = same_place q p || has qs p

abbrev AreLate : Levels → List Pos → Type 0
AreLate levels ps = AllByRecursion (λ p. levels p ≡ late) ps

has_late : (levels : Levels) (ps : List Pos) (p : Pos) → AreLate levels ps → has ps p ≡ true → levels p ≡ late
has_late levels [] p h e = absurd (cc)
has_late levels (q ∷ qs) p h e = either_true (same_place q p) (has qs p) e (λ s. let o = one_place q p s in cc) (has_late levels qs p h.1)

-- ---- what constraints force

abbrev add_if : Bool → Pos → List Pos → List Pos
add_if true p ps = p ∷ ps
add_if false p ps = ps

abbrev learn : List Pos → Pos → Asked → List Pos
learn ps p asked.Early = ps
learn ps p asked.Late = p ∷ ps
learn ps p (asked.LateWhere q) = add_if (has ps q) p ps
learn ps p asked.Never = ps

abbrev pass : List Requirement → List Pos → List Pos
pass [] ps = ps
pass (r ∷ rs) ps = pass rs (learn ps r.node r.asked)

-- the places that so many passes over the constraints find late
abbrev pub forced : ℕ → List Requirement → List Pos
forced zero rs = []
forced (suc n) rs = pass rs (forced n rs)

added_late : (levels : Levels) (b : Bool) (p : Pos) (ps : List Pos) → (b ≡ true → levels p ≡ late) → AreLate levels ps → AreLate levels (add_if b p ps)
added_late levels true p ps h k = (h refl, k)
added_late levels false p ps h k = k

learnt_late : (levels : Levels) (ps : List Pos) (p : Pos) (a : Asked) → Grants levels p a → AreLate levels ps → AreLate levels (learn ps p a)
learnt_late levels ps p asked.Early g h = h
learnt_late levels ps p asked.Late g h = (g, h)
learnt_late levels ps p (asked.LateWhere q) g h = added_late levels (has ps q) p ps (λ e. g (has_late levels ps q h e)) h
learnt_late levels ps p asked.Never g h = absurd g

pass_late : (levels : Levels) (rs : List Requirement) (ps : List Pos) → Allow rs levels → AreLate levels ps → AreLate levels (pass rs ps)
pass_late levels [] ps a h = h
pass_late levels (r ∷ rs) ps a h = pass_late levels rs (learn ps r.node r.asked) a.1 (learnt_late levels ps r.node r.asked a.0 h)

forced_late : (levels : Levels) (n : ℕ) (rs : List Requirement) → Allow rs levels → AreLate levels (forced n rs)
forced_late levels zero rs a = tt
forced_late levels (suc n) rs a = pass_late levels rs (forced n rs) a (forced_late levels n rs a)

-- ---- levels that meet constraints

abbrev level_if : Bool → Level
level_if true = late
level_if false = early

-- late in the list, and early elsewhere
abbrev by_list : List Pos → Levels
by_list ps p = level_if (has ps p)

abbrev grants : List Pos → Pos → Asked → Bool
grants ps p asked.Early = not (has ps p)
grants ps p asked.Late = has ps p
grants ps p (asked.LateWhere q) = not (has ps q) || has ps p
grants ps p asked.Never = false

abbrev all_granted : List Pos → List Requirement → Bool
all_granted ps [] = true
all_granted ps (r ∷ rs) = grants ps r.node r.asked && all_granted ps rs

is_early : (b : Bool) → not b ≡ true → level_if b ≡ early
is_early true e = absurd (cc)
is_early false e = refl

is_late : (b : Bool) → b ≡ true → level_if b ≡ late
is_late true e = refl
is_late false e = absurd (cc)

late_too : (b c : Bool) → not b || c ≡ true → level_if b ≡ late → level_if c ≡ late
late_too true c e h = is_late c e
late_too false c e h = absurd (cc)

granted : (ps : List Pos) (p : Pos) (a : Asked) → grants ps p a ≡ true → Grants (by_list ps) p a
granted ps p asked.Early e = is_early (has ps p) e
granted ps p asked.Late e = is_late (has ps p) e
granted ps p (asked.LateWhere q) e = late_too (has ps q) (has ps p) e
granted ps p asked.Never e = absurd (cc)

allowed : (ps : List Pos) (rs : List Requirement) → all_granted ps rs ≡ true → Allow rs (by_list ps)
allowed ps [] e = tt
allowed ps (r ∷ rs) e = (granted ps r.node r.asked (left_true _ _ e), allowed ps rs (right_true (grants ps r.node r.asked) _ e))

pub has_levels : (late_ones : List Pos) (rs : List Requirement) → all_granted late_ones rs ≡ true → HasLevels rs
has_levels late_ones rs e = record { levels = by_list late_ones; allow = allowed late_ones rs e }

-- ---- constraints that no levels meet

abbrev refuses : List Pos → Pos → Asked → Bool
refuses ps p asked.Early = has ps p
refuses ps p asked.Late = false
refuses ps p (asked.LateWhere q) = false
refuses ps p asked.Never = true

abbrev some_refused : List Pos → List Requirement → Bool
some_refused ps [] = false
some_refused ps (r ∷ rs) = refuses ps r.node r.asked || some_refused ps rs

refused : (levels : Levels) (ps : List Pos) (p : Pos) (a : Asked) → AreLate levels ps → Grants levels p a → refuses ps p a ≡ true → ⊥
refused levels ps p asked.Early h g e = let l = has_late levels ps p h e in absurd (cc)
refused levels ps p asked.Late h g e = absurd (cc)
refused levels ps p (asked.LateWhere q) h g e = absurd (cc)
refused levels ps p asked.Never h g e = g

none_allow : (levels : Levels) (ps : List Pos) (rs : List Requirement) → AreLate levels ps → Allow rs levels → some_refused ps rs ≡ true → ⊥
none_allow levels ps [] h a e = absurd (cc)
none_allow levels ps (r ∷ rs) h a e =
    either_true (refuses ps r.node r.asked) (some_refused ps rs) e (refused levels ps r.node r.asked h a.0) (none_allow levels ps rs h a.1)

-- the constraint between those before and behind it is the first that can't be met
pub unmet_at : (n : ℕ) (late_ones : List Pos) (rs before behind : List Requirement) (one : Requirement) → rs ≡ before ++ one ∷ behind
    → all_granted late_ones before ≡ true → some_refused (forced n (before ++ one ∷ [])) (before ++ one ∷ []) ≡ true → IsUnmet rs one.at
unmet_at n late_ones rs before behind one parts fits refuses =
    record {
      before = before;
      one = one;
      behind = behind;
      parts = parts;
      place_of_one = refl;
      solution = by_list late_ones;
      meets_before = allowed late_ones before fits;
      none = λ levels a. none_allow levels (forced n (before ++ one ∷ [])) (before ++ one ∷ []) (forced_late levels n (before ++ one ∷ []) a) a refuses;
    }
