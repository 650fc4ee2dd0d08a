-- What a solver knows of levels.
use Rattle.std.specs.Prelude.{◌≡◌, ◌≤◌, List, take, length, Option, None, Some}
use Rattle.zl_value.specs.declared.position.Pos.{Pos}
use Rattle.zl_ast.specs.declared.constraint.Requirement.{Requirement}
use Rattle.zl_ast.specs.Levels.{late, Levels, Allow, IsUnmet, HasLevels}
use Rattle.zl_init.specs.declared.marks.Mark.TheVariants as mark
use Rattle.zl_init.specs.declared.solve.Solver.{Solver}
use Rattle.zl_init.specs.Marks.{mark_at, Agree, AreLate, Late, followers_at}

-- The levels are as the marks say, and what follows a late place is late.
pub record Allows (s : Solver) (levels : Levels) : Type 0 where
  pub marks : Agree s.marks levels
  pub followers : (q : Pos) → levels q ≡ late → Late levels (followers_at s.followers q)

-- the followers of the first late marks, as many as are counted, are marked late
pub record IsSpread (s : Solver) : Type 0 where
  pub within : s.spread ≤ length s.marks
  pub each : (q : Pos) → mark_at (take s.spread s.marks) q ≡ Some mark.Late → AreLate s.marks (followers_at s.followers q)

-- the followers of all late marks are
pub record IsSettled (s : Solver) : Type 0 where
  pub spread : IsSpread s
  pub all : s.spread ≡ length s.marks

-- The new solver allows the levels that the old one allows and that meet the condition, and no others.
pub record Narrows (Condition : Levels → Type 0) (old new : Solver) : Type 0 where
  pub allowed : (levels : Levels) → Allows old levels → Condition levels → Allows new levels
  pub kept : (levels : Levels) → Allows new levels → Allows old levels
  pub condition : (levels : Levels) → Allows new levels → Condition levels
  pub spread : IsSpread new

-- none of the levels that the solver allows meets the condition
abbrev pub Excludes : (Levels → Type 0) → Solver → Type 0
Excludes Condition s = (levels : Levels) → Allows s levels → Condition levels → ⊥

-- no condition
abbrev pub Anything : Levels → Type 0
Anything levels = Unit {0}

-- the solver allows the levels that meet the constraints, and no others
pub record Knows (rs : List Requirement) (s : Solver) : Type 0 where
  pub allowed : (levels : Levels) → Allow rs levels → Allows s levels
  pub only : (levels : Levels) → Allows s levels → Allow rs levels

-- levels that meet all the constraints where there are some, or the place of the first constraint up to which none do
abbrev pub Solves : List Requirement → Option Pos → Type 0
Solves rs None = HasLevels rs
Solves rs (Some at) = IsUnmet rs at
