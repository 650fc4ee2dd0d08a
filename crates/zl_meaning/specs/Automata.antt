-- The states and transitions of an automaton at a moment.
use Rattle.std.specs.Prelude.{ℕ, not, if◌then◌else◌, List, [], map, slice_get, get_or, Option, Some, None}
use Rattle.std.specs.List.{filter}
use Rattle.zl_meaning.specs.State.{State, AtControl, AtEntry, AtRunning, AtWeak, is_active}
use Rattle.zl_meaning.specs.Moment.{Mode, AtStep, AtLeft, InFlow, Moment, is_fresh, decide}
use Rattle.zl_meaning.specs.declared.block.Auto.{Auto}
use Rattle.zl_meaning.specs.declared.block.AutoMove.{AutoMove}

-- the `unless` moves of a state, its `until` moves
abbrev pub strong_moves : Auto → ℕ → List AutoMove
strong_moves auto state = filter (λ (move : AutoMove). move.strong) (get_or auto.states state [])

abbrev pub weak_moves : Auto → ℕ → List AutoMove
weak_moves auto state = filter (λ (move : AutoMove). not move.strong) (get_or auto.states state [])

abbrev pub decide_move : State → List AutoMove → Option ℕ
decide_move s moves = decide s (map (λ (move : AutoMove). move.cond) moves)

-- the move of this number; none past the last, where all tests were false
abbrev pub move_at : List AutoMove → Option ℕ → Option AutoMove
move_at moves None = None
move_at moves (Some n) = slice_get moves n

-- where a move leads, and where the automaton stays without one
abbrev pub goes_to : Option AutoMove → Option ℕ → Option ℕ
goes_to (Some move) stays = Some move.target
goes_to None stays = stays

-- the entry state: the first, where the automaton's block is fresh; else where the weak transition of its last active
-- instant led, or the state whose body ran then
abbrev pub entry_in : Moment → State → ℕ → Auto → Mode → Option ℕ
entry_in m s a auto InFlow = m.start (AtEntry a)
entry_in m s a auto _ = if is_fresh m s auto.block then Some 0 else goes_to (m.before (AtWeak a)) (m.before (AtRunning a))

-- the strong transition at a step: the first `unless` test of the entry state that isn't false, where it is true
abbrev pub strong_from : State → Auto → Option ℕ → Option AutoMove
strong_from s auto None = None
strong_from s auto (Some entry) = move_at (strong_moves auto entry) (decide_move s (strong_moves auto entry))

abbrev pub strong_in : State → ℕ → Auto → Mode → Option AutoMove
strong_in s a auto AtStep = strong_from s auto (s (AtEntry a))
strong_in s a auto AtLeft = None
strong_in s a auto InFlow = None

-- the state whose body runs at a step: where the strong transition leads, else the entry state; none, where the test that
-- decides has no value
abbrev pub runs_by : List AutoMove → ℕ → Option ℕ → Option ℕ
runs_by moves entry None = None
runs_by moves entry (Some n) = goes_to (slice_get moves n) (Some entry)

abbrev pub runs_from : State → Auto → Option ℕ → Option ℕ
runs_from s auto None = None
runs_from s auto (Some entry) = runs_by (strong_moves auto entry) entry (decide_move s (strong_moves auto entry))

abbrev pub running_in : Moment → State → ℕ → Auto → Mode → Option ℕ
running_in m s a auto AtStep = runs_from s auto (s (AtEntry a))
running_in m s a auto AtLeft = s (AtEntry a)
running_in m s a auto InFlow = m.start (AtRunning a)

-- the weak transition at a step: the first `until` test of the running state that isn't false, where it is true
abbrev pub weak_from : State → Auto → Option ℕ → Option AutoMove
weak_from s auto None = None
weak_from s auto (Some running) = move_at (weak_moves auto running) (decide_move s (weak_moves auto running))

abbrev pub weak_in : State → ℕ → Auto → Mode → Option AutoMove
weak_in s a auto AtStep = weak_from s auto (s (AtRunning a))
weak_in s a auto AtLeft = None
weak_in s a auto InFlow = None

-- what an automaton has where its block is active
abbrev pub if_active : {X : Type 0} → State → ℕ → Option X → Option X
if_active s b x = if is_active (s (AtControl b)) then x else None

abbrev pub entry_of : Moment → State → ℕ → Option Auto → Option ℕ
entry_of m s a None = None
entry_of m s a (Some auto) = if_active s auto.block (entry_in m s a auto m.mode)

abbrev pub running_of : Moment → State → ℕ → Option Auto → Option ℕ
running_of m s a None = None
running_of m s a (Some auto) = if_active s auto.block (running_in m s a auto m.mode)

abbrev pub strong_of : Moment → State → ℕ → Option Auto → Option AutoMove
strong_of m s a None = None
strong_of m s a (Some auto) = if_active s auto.block (strong_in s a auto m.mode)

abbrev pub weak_of : Moment → State → ℕ → Option Auto → Option AutoMove
weak_of m s a None = None
weak_of m s a (Some auto) = if_active s auto.block (weak_in s a auto m.mode)
