-- What is known of the levels of single places, and what is late where a place is late.
use Rattle.std.specs.Prelude.{◌≡◌, ℕ, Bool, true, false, nat_eq, ◌&&◌, if◌then◌else◌, List, [], ◌∷◌, ◌++◌, Option, None, Some, is_some, Vec}
use Rattle.std.specs.Map.{lookup}
use Rattle.std.specs.List.{AllByRecursion}
use Rattle.indexmap.specs.IndexMap.{get}
use Rattle.zl_value.specs.declared.position.Pos.{Pos}
use Rattle.zl_ast.specs.Levels.{Level, early, late, Levels}
use Rattle.zl_init.specs.declared.marks.Mark.{Mark}
use Rattle.zl_init.specs.declared.marks.Mark.TheVariants as mark
use Rattle.zl_init.specs.declared.followers.Followers.{Followers}

-- a place as the tables have it
abbrev pub key : Pos → ℕ × ℕ
key p = (p.line, p.column)

abbrev pub is_key : ℕ × ℕ → ℕ × ℕ → Bool
is_key a b = nat_eq a.0 b.0 && nat_eq a.1 b.1

-- marks with their places, in the order in which they came
abbrev pub Known : Type 0
Known = List ((ℕ × ℕ) × Mark)

abbrev pub mark_at : Known → Pos → Option Mark
mark_at ms p = lookup (is_key (key p)) ms

-- with this mark at the place, unless it has one
abbrev pub with_mark : Known → Pos → Mark → Known
with_mark ms p m = if is_some (mark_at ms p) then ms else ms ++ (key p, m) ∷ []

-- whether it is this mark
abbrev pub is_mark : Option Mark → Mark → Bool
is_mark (Some mark.Early) mark.Early = true
is_mark (Some mark.Late) mark.Late = true
is_mark _ _ = false

-- the place of an entry that is marked late
abbrev pub late_place : Option ((ℕ × ℕ) × Mark) → Option Pos
late_place None = None
late_place (Some e) = if is_mark (Some e.1) mark.Late then Some (record { line = e.0.0; column = e.0.1 }) else None

abbrev pub level_of : Mark → Level
level_of mark.Early = early
level_of mark.Late = late

-- the levels are as the marks say
abbrev pub Agree : Known → Levels → Type 0
Agree ms levels = (p : Pos) (m : Mark) → mark_at ms p ≡ Some m → levels p ≡ level_of m

-- each of these places is marked late
abbrev pub AreLate : Known → List Pos → Type 0
AreLate ms ps = AllByRecursion (λ p. mark_at ms p ≡ Some mark.Late) ps

-- each of these places has the level late
abbrev pub Late : Levels → List Pos → Type 0
Late levels ps = AllByRecursion (λ p. levels p ≡ late) ps

-- marks went behind those that were there
pub record Grows (old new : Known) : Type 0 where
  pub more : Known
  pub is : new ≡ old ++ more

-- The places were made late: each is marked so, and nothing else than follows is known.
pub record MadeLate (ps : List Pos) (old new : Known) : Type 0 where
  pub grows : Grows old new
  pub late : AreLate new ps
  pub no_more : (levels : Levels) → Agree old levels → Late levels ps → Agree new levels

abbrev pub places_of : {A : Type 0} → Option (Vec Pos A) → List Pos
places_of None = []
places_of (Some v) = v.items

-- the places that are late where this one is
abbrev pub followers_at : Followers → Pos → List Pos
followers_at f q = places_of (get is_key f.table (key q))

-- what the table has at a place once one more follows the leader
abbrev pub with_follower : Followers → Pos → Pos → Pos → List Pos
with_follower f leader follower q = if is_key (key leader) (key q) then followers_at f leader ++ follower ∷ [] else followers_at f q
