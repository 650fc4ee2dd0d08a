-- How the lists of pieces that a sink stands for grow.
use Rattle.std.specs.Prelude.{◌≡◌, ◌⊎◌, ℕ, List, [], ◌∷◌, ◌++◌}

-- what a sink stands for: the pieces that were put, in order
abbrev pub StandsFor : Type 1
StandsFor = List (List ℕ) → Type 0

-- nothing is known of the pieces that were put
abbrev pub any_pieces : StandsFor
any_pieces pieces = Unit {0}

-- `front` stands at the front of `piece`
abbrev pub IsFront : List ℕ → List ℕ → Type 0
IsFront front piece = (rest : List ℕ) × (piece ≡ front ++ rest)

-- each list has the piece behind it
abbrev pub Grows : StandsFor → StandsFor → List ℕ → Type 0
Grows before now piece = (pieces : List (List ℕ)) → before pieces → now (pieces ++ piece ∷ [])

-- each list is as it was, or has a front of the piece behind it
abbrev pub GrowsInPart : StandsFor → StandsFor → List ℕ → Type 0
GrowsInPart before now piece = (pieces : List (List ℕ)) → before pieces →
    now pieces ⊎ ((front : List ℕ) × IsFront front piece × now (pieces ++ front ∷ []))
