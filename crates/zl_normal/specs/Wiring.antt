-- Which wires of a kernel stand for what of a flat form.
use Rattle.std.specs.Prelude.{ℕ, Option, Some, None}

pub record Wiring : Type 0 where
  -- the wire of an occurrence, and its guard: where that is true, the occurrence is evaluated
  pub w : ℕ → ℕ
  pub G : ℕ → Option ℕ
  -- the wire of a place, and of `last` of it
  pub P : ℕ → ℕ
  pub L : ℕ → ℕ
  -- the wires of the slopes of an occurrence and of a place
  pub S : ℕ → ℕ
  pub D : ℕ → ℕ
  -- the wires that are true at steps and at the first instant, the memory of the latter, and a slope of zero
  pub step : ℕ
  pub fresh : ℕ
  pub first : ℕ
  pub zero : ℕ

-- the guard of what stands in the copy of a call
abbrev pub call_guard : Wiring → Option ℕ → Option ℕ
call_guard N None = None
call_guard N (Some call) = N.G call
