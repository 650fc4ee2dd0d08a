-- What `parse` answers for tokens. It may be without memory at any tokens.
use Rattle.std.specs.Prelude.{◌≡◌, ℕ, suc, ◌<◌, ◌≤◌, ◌-◌, List, length, take, slice_get, Result, Ok, Err}
use Rattle.std.specs.Option.{option_map_or}
use Rattle.zl_lexer.specs.declared.token.Token.{Token}
use Rattle.zl_value.specs.declared.position.Pos.{Pos}
use Rattle.zl_ast.specs.declared.program.Decl.{Decl}
use Rattle.zl_ast.specs.declared.program.Program.{Program}
use Rattle.zl_ast.specs.Declarations.{IsDecls, nesting_limit, BeginsWithin, Begins}
use Rattle.zl_ast.specs.DeepTokens.{OpensAt, ReadsPast}
use Rattle.zl_ast.specs.Reading.{parse, deep}
use Rattle.zl_ast.specs.ReadingDeclarations.{read_program}
use Rattle.zl_parser.specs.declared.answer.ParseAnswer.{ParseAnswer}
use Rattle.zl_parser.specs.declared.answer.ParseAnswer.TheVariants as answer
use Rattle.zl_parser.specs.declared.stop.Stop.{Stop}
use Rattle.zl_parser.specs.declared.stop.Stop.TheVariants as stop

-- these declarations are the answer
abbrev pub IsAnswered : Result Program ParseAnswer → List Decl → Type 0
IsAnswered (Ok p) ds = p.decls ≡ ds
IsAnswered (Err answer.Memory) ds = Unit {0}
IsAnswered (Err (answer.Parse token at)) ds = ⊥
IsAnswered (Err (answer.Deep token at)) ds = ⊥

-- A token that can't follow is answered only where no program has the tokens, whatever its nesting, and a construct too
-- many only where none within the limit has them.
abbrev pub HasNoTree : List Token → ParseAnswer → Type 0
HasNoTree ts answer.Memory = Unit {0}
HasNoTree ts (answer.Parse token at) = (n : ℕ) (ds : List Decl) → IsDecls n ts ds → ⊥
HasNoTree ts (answer.Deep token at) = (ds : List Decl) → IsDecls nesting_limit ts ds → ⊥

-- the place of a token, where the number of tokens stands for the end of the text
abbrev pub place_of : List Token → Pos → ℕ → Pos
place_of ts end token = option_map_or (λ t. t.at) (slice_get ts token) end

-- The token answered is one of the tokens, or the end where none can follow, and the place is its place.
abbrev pub StandsAt : List Token → Pos → ParseAnswer → Type 0
StandsAt ts end answer.Memory = Unit {0}
StandsAt ts end (answer.Parse token at) = (token ≤ length ts) × (at ≡ place_of ts end token)
StandsAt ts end (answer.Deep token at) = (token < length ts) × (at ≡ place_of ts end token)

-- Reading from the left, by one token of look-ahead, stops at the token answered. One that opens a construct too many opens a
-- construct that is counted, and with one more of them reading takes it.
abbrev pub ReadingStops : List Token → ParseAnswer → Type 0
ReadingStops ts answer.Memory = Unit {0}
ReadingStops ts (answer.Parse token at) = read_program nesting_limit ts ≡ Err (parse (length ts - token))
ReadingStops ts (answer.Deep token at) =
    (read_program nesting_limit ts ≡ Err (deep (length ts - token))) × OpensAt ts token × ReadsPast (suc nesting_limit) ts token

-- No program goes on from the token answered: those up to it begin none, whatever its nesting, or for a construct too many
-- none within the limit. There the token behind it counts as well, since a "-" before a FLOAT opens no construct.
abbrev pub NoneGoesOn : List Token → ParseAnswer → Type 0
NoneGoesOn ts answer.Memory = Unit {0}
NoneGoesOn ts (answer.Parse token at) = token < length ts → Begins (take (suc token) ts) → ⊥
NoneGoesOn ts (answer.Deep token at) = suc token < length ts → BeginsWithin nesting_limit (take (suc (suc token)) ts) → ⊥

-- a stop is at one of so many tokens, or behind them
abbrev pub IsWithin : Stop → ℕ → Type 0
IsWithin stop.Memory count = Unit {0}
IsWithin (stop.Parse left) count = left ≤ count
IsWithin (stop.Deep left) count = left ≤ count

-- the answer for a stop, by the token at which it stands
abbrev pub answer_of : List Token → Pos → Stop → ParseAnswer
answer_of ts end stop.Memory = answer.Memory
answer_of ts end (stop.Parse left) = answer.Parse (length ts - left) (place_of ts end (length ts - left))
answer_of ts end (stop.Deep left) = answer.Deep (length ts - left) (place_of ts end (length ts - left))
