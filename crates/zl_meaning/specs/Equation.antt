-- The equation of each entry of a moment. What stands at the moment is a solution of all of them.
use Rattle.std.specs.Prelude.{length, slice_get}
use Rattle.zl_value.specs.Lists.{listed}
use Rattle.zl_meaning.specs.FlatForm.{FlatForm}
use Rattle.zl_meaning.specs.State.{Table, State, AtControl, AtReset, AtLater, AtEntry, AtRunning, AtStrong, AtWeak, AtPlace, AtUsed, AtValue, state_in}
use Rattle.zl_meaning.specs.Moment.{Moment}
use Rattle.zl_meaning.specs.Blocks.{control_of, reset_of, later_of}
use Rattle.zl_meaning.specs.Automata.{entry_of, running_of, strong_of, weak_of}
use Rattle.zl_meaning.specs.Places.{place_of}
use Rattle.zl_meaning.specs.Occurrences.{used_of, value_of}

-- what the entry must be, if the others are as `s` says
unfoldable pub equation : FlatForm → Moment → State → State
equation f m s (AtControl b) = control_of f m s b (slice_get f.blocks b)
equation f m s (AtReset b) = reset_of m s (slice_get f.blocks b)
equation f m s (AtLater b) = later_of s (slice_get f.blocks b)
equation f m s (AtEntry a) = entry_of m s a (slice_get f.automata a)
equation f m s (AtRunning a) = running_of m s a (slice_get f.automata a)
equation f m s (AtStrong a) = strong_of m s a (slice_get f.automata a)
equation f m s (AtWeak a) = weak_of m s a (slice_get f.automata a)
equation f m s (AtPlace p) = place_of m s p (slice_get f.places p)
equation f m s (AtUsed k) = used_of f m s k (slice_get f.occs k)
equation f m s (AtValue k) = value_of f m s (slice_get f.occs k)

-- the entries of the form's blocks, automata, places and occurrences, as a table
abbrev pub table_of : FlatForm → State → Table
table_of f s = record {
  controls = listed (length f.blocks) 0 (λ b. s (AtControl b));
  resets = listed (length f.blocks) 0 (λ b. s (AtReset b));
  later = listed (length f.blocks) 0 (λ b. s (AtLater b));
  entries = listed (length f.automata) 0 (λ a. s (AtEntry a));
  running = listed (length f.automata) 0 (λ a. s (AtRunning a));
  strong = listed (length f.automata) 0 (λ a. s (AtStrong a));
  weak = listed (length f.automata) 0 (λ a. s (AtWeak a));
  places = listed (length f.places) 0 (λ p. s (AtPlace p));
  used = listed (length f.occs) 0 (λ k. s (AtUsed k));
  values = listed (length f.occs) 0 (λ k. s (AtValue k));
}

-- each entry of a table as its equation says; a table that is its own turn solves them all
unfoldable pub turn : FlatForm → Moment → Table → Table
turn f m t = table_of f (equation f m (state_in t))
