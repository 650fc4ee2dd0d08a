-- What the entries of a list give, one by one.
use Rattle.std.specs.Prelude.{ℕ, ◌+◌, List, [], ◌∷◌, ◌++◌}

-- what the entries give, of which the first has the number `n`
abbrev pub numbered : {X Y : Type 0} → (ℕ → X → List Y) → ℕ → List X → List Y
numbered give n [] = []
numbered give n (x ∷ xs) = give n x ++ numbered give (n + 1) xs
