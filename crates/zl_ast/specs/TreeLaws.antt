-- The laws of the grammar.
use Rattle.std.specs.Prelude.{◌≡◌, ℕ, ◌<◌, ◌≤◌, List, length, Ok, Err}
use Rattle.std.specs.List.{AllByRecursion}
use Rattle.zl_lexer.specs.declared.token.Token.{Token}
use Rattle.zl_ast.specs.declared.program.Program.{Program}
use Rattle.zl_ast.specs.declared.program.Decl.{Decl}
use Rattle.zl_ast.specs.Declarations.{IsProgram, IsDecls}
use Rattle.zl_ast.specs.ReadingDeclarations.{read_program}
use Rattle.zl_value.specs.declared.position.Pos.{Pos}
use Rattle.zl_ast.specs.Reading.{parse, deep}
use Rattle.zl_ast.specs.Spots.{Sublist}
use Rattle.zl_ast.specs.Parsed.{IsParsed, Grow, spots, places, occurrences, equations, spot_ids}

-- Tokens have at most one tree, whatever the limits on its nesting.
abbrev pub OneTree : Type 0
OneTree = (n m : ℕ) (ts : List Token) (p q : Program) → IsProgram n ts p → IsProgram m ts q → p.decls ≡ q.decls

-- What may be nested n deep may be nested deeper.
abbrev pub Deeper : Type 0
Deeper = (n m : ℕ) (ts : List Token) (p : Program) → n ≤ m → IsProgram n ts p → IsProgram m ts p

-- Each place that a parsed tree keeps stands before all later ones in the order of the text, and so do those of its
-- occurrences and of its equations.
abbrev pub PlacesGrow : Type 0
PlacesGrow = (p : Program) → IsParsed p → Grow (places (spots p)) × Grow (occurrences p) × Grow (equations p)

-- Each number of a name in a parsed tree is in the program's list of names.
abbrev pub NamesKnown : Type 0
NamesKnown = (p : Program) → IsParsed p → AllByRecursion (λ id. id < length p.names) (spot_ids (spots p))

-- The reading of tokens finds the tree of those that have one, and nothing else.
abbrev pub ReadingIsExact : Type 0
ReadingIsExact = (n : ℕ) (ts : List Token) (ds : List Decl) → (read_program n ts ≡ Ok ds → IsDecls n ts ds) × (IsDecls n ts ds → read_program n ts ≡ Ok ds)

-- Where reading stops at a token that can't follow, no program has these tokens, whatever its nesting.
abbrev pub NoTreeAtAnyDepth : Type 0
NoTreeAtAnyDepth = (n left : ℕ) (ts : List Token) → read_program n ts ≡ Err (parse left) → (m : ℕ) (ds : List Decl) → IsDecls m ts ds → ⊥

-- Places that are some of those of a list that grows grow as well.
abbrev pub SomePlacesGrow : Type 0
SomePlacesGrow = (ps qs : List Pos) → Sublist ps qs → Grow qs → Grow ps

-- A token that can't follow is one of those that are read, or the end behind them; one that opens a construct too many is
-- one of those that are read.
abbrev pub FaultsAreInside : Type 0
FaultsAreInside = (n left : ℕ) (ts : List Token) →
    (read_program n ts ≡ Err (parse left) → left ≤ length ts) × (read_program n ts ≡ Err (deep left) → (1 ≤ left) × (left ≤ length ts))
