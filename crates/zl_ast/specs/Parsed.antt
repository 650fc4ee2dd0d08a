-- What is known of every tree that was made of tokens.
use Rattle.std.specs.Prelude.{◌≡◌, Bool, true, false, if◌then◌else◌, ℕ, ◌<◌, ◌⊎◌, List, [], ◌∷◌, map, Option, Some, None}
use Rattle.std.specs.List.{AllByRecursion}
use Rattle.zl_lexer.specs.declared.token.Token.{Token}
use Rattle.zl_lexer.specs.Facts.{AreTokens}
use Rattle.zl_value.specs.declared.position.Pos.{Pos}
use Rattle.zl_ast.specs.declared.program.Program.{Program}
use Rattle.zl_ast.specs.Declarations.{IsProgram, nesting_limit}
use Rattle.zl_ast.specs.Spots.{Sort, occurrence, equation, bare_name, other_thing, Spot, id_of, all_spots, decl_spots}

-- the one place stands before the other in the text
abbrev pub Before : Pos → Pos → Type 0
Before p q = (p.line < q.line) ⊎ ((p.line ≡ q.line) × (p.column < q.column))

-- each place stands before all that follow in the list
abbrev pub Grow : List Pos → Type 0
Grow [] = Unit {0}
Grow (p ∷ ps) = AllByRecursion (Before p) ps × Grow ps

-- the spots of a program, in the order of the text
abbrev pub spots : Program → List Spot
spots p = all_spots decl_spots p.decls

-- the places of spots
abbrev pub places : List Spot → List Pos
places xs = map (λ s. s.at) xs

abbrev pub same_sort : Sort → Sort → Bool
same_sort occurrence occurrence = true
same_sort equation equation = true
same_sort bare_name bare_name = true
same_sort other_thing other_thing = true
same_sort _ _ = false

-- those of one sort
abbrev pub of_sort : Sort → List Spot → List Spot
of_sort s [] = []
of_sort s (x ∷ xs) = if same_sort s x.sort then x ∷ of_sort s xs else of_sort s xs

-- the places of all occurrences of a program's expressions, in the order of the text
abbrev pub occurrences : Program → List Pos
occurrences p = places (of_sort occurrence (spots p))

-- the places of all equations of a program, in the order of the text
abbrev pub equations : Program → List Pos
equations p = places (of_sort equation (spots p))

abbrev pub with_id : Option ℕ → List ℕ → List ℕ
with_id None ids = ids
with_id (Some id) ids = id ∷ ids

-- the numbers of the names in a tree
abbrev pub spot_ids : List Spot → List ℕ
spot_ids [] = []
spot_ids (x ∷ xs) = with_id x.id (spot_ids xs)

-- the numbers of the names among tokens
abbrev pub token_ids : List Token → List ℕ
token_ids [] = []
token_ids (t ∷ ts) = with_id (id_of t.kind) (token_ids ts)

-- the places of tokens
abbrev pub token_places : List Token → List Pos
token_places ts = map (λ t. t.at) ts

-- The program is the tree of the tokens of a text: they stand in order before its end, their numbers are within their ranges,
-- and their names are those in the program's list of names.
pub record IsParsed (p : Program) : Type 0 where
  pub tokens : List Token
  pub end : Pos
  pub facts : AreTokens tokens p.names end
  pub is_program : IsProgram nesting_limit tokens p
