-- Words on lists and on answers.
use Rattle.std.specs.Prelude.{List, [], ◌∷◌, Option, Some, option_and_then, option_map, Result, Ok, Err}

-- what `f` gives of each element, if it gives something of each
abbrev pub each : {X Y : Type 0} → (X → Option Y) → List X → Option (List Y)
each f [] = Some []
each f (x ∷ xs) = option_and_then (λ y. option_map (λ ys. y ∷ ys) (each f xs)) (f x)

-- what `f` makes of what is there, and else the error
abbrev pub if_ok : {X Y E : Type 0} → (X → Y) → Result X E → Result Y E
if_ok f (Ok x) = Ok (f x)
if_ok f (Err e) = Err e
