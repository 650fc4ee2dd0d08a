-- Reading of tokens from left to right, with one token of look-ahead: the forms of a grammar's lines.
-- A reader takes the tokens that are left, and gives a thing and the tokens left behind it, or the fault at which it
-- stops. A fault says how many tokens were left there, the one at fault included.
use Rattle.std.specs.Prelude.{ℕ, zero, suc, Bool, true, false, List, [], ◌∷◌, length, Option, Some, None, Result, Ok, Err}
use denote.Enum.Bare.{sameb}
use Rattle.zl_lexer.specs.contracts.token.Word.{the_type as word_type}
use Rattle.zl_lexer.specs.contracts.token.Sign.{the_type as sign_type}
use Rattle.zl_lexer.specs.declared.token.Token.{Token}
use Rattle.zl_lexer.specs.declared.token.TokenKind.{TokenKind}
use Rattle.zl_lexer.specs.declared.token.TokenKind.TheVariants as kind
use Rattle.zl_lexer.specs.declared.token.Sign.TheVariants as sign
use Rattle.zl_value.specs.declared.position.Pos.{Pos}
use Rattle.zl_ast.specs.declared.name.Name.{Name}

pub data Fault : Type 0 where
  -- with this token the tokens begin no program
  parse : ℕ → Fault
  -- this token would open a construct too many
  deep : ℕ → Fault

abbrev pub Reader : Type 0 → Type 0
Reader A = List Token → Result (A × List Token) Fault

infixl 10 ◌>>=◌
unfoldable pub ◌>>=◌ : {A B : Type 0} → Result A Fault → (A → Result B Fault) → Result B Fault
(Ok x) >>= f = f x
(Err e) >>= f = Err e

-- What would stand inside a construct that may not be opened: the fault is at the token just before.
abbrev pub nothing : {A : Type 0} → Reader A
nothing ts = Err (deep (suc (length ts)))

-- These are one reserved word, or one sign.
abbrev pub same_mark : TokenKind → TokenKind → Bool
same_mark (kind.Word w) (kind.Word v) = sameb word_type w v
same_mark (kind.Sign s) (kind.Sign r) = sameb sign_type s r
same_mark _ _ = false

-- this word or sign is next
unfoldable pub next_is : TokenKind → List Token → Bool
next_is mark [] = false
next_is mark (t ∷ ts) = same_mark mark t.kind

-- what the table has for the next token
unfoldable pub next_in : {A : Type 0} → (TokenKind → Option A) → List Token → Option A
next_in table [] = None
next_in table (t ∷ ts) = table t.kind

abbrev pub take_at : Bool → Token → Reader Pos
take_at true t ts = Ok (t.at, ts)
take_at false t ts = Err (parse (suc (length ts)))

-- this word or sign
unfoldable pub take : TokenKind → Reader Pos
take mark [] = Err (parse 0)
take mark (t ∷ ts) = take_at (same_mark mark t.kind) t ts

abbrev pub find_at : {A : Type 0} → Option A → Token → Reader (A × Pos)
find_at (Some a) t ts = Ok ((a, t.at), ts)
find_at None t ts = Err (parse (suc (length ts)))

-- a token of the table
unfoldable pub find : {A : Type 0} → (TokenKind → Option A) → Reader (A × Pos)
find table [] = Err (parse 0)
find table (t ∷ ts) = find_at (table t.kind) t ts

abbrev pub name_at : TokenKind → Token → Reader Name
name_at (kind.Name id) t ts = Ok (record { id = id; at = t.at }, ts)
name_at _ t ts = Err (parse (suc (length ts)))

-- NAME
unfoldable pub name : Reader Name
name [] = Err (parse 0)
name (t ∷ ts) = name_at t.kind t ts

-- What stands inside a construct that the token just before opens: none may be opened where n is 0.
unfoldable pub inside : {A : Type 0} → ℕ → Reader A → Reader A
inside zero read ts = Err (deep (suc (length ts)))
inside (suc n) read ts = read ts

abbrev pub others_at : {A : Type 0} → Bool → Reader A → Reader (List A) → Token → Reader (List A)
others_at true read again t ts = read ts >>= λ x. again x.1 >>= λ xs. Ok (x.0 ∷ xs.0, xs.1)
others_at false read again t ts = Ok ([], t ∷ ts)

-- { separator X }, at most as many as the number says
unfoldable pub others : {A : Type 0} → TokenKind → Reader A → ℕ → Reader (List A)
others separator read zero ts = Ok ([], ts)
others separator read (suc most) [] = Ok ([], [])
others separator read (suc most) (t ∷ ts) = others_at (same_mark separator t.kind) read (others separator read most) t ts

-- X { separator X }
unfoldable pub list_of : {A : Type 0} → TokenKind → Reader A → Reader (List A)
list_of separator read ts = read ts >>= λ x. others separator read (length x.1) x.1 >>= λ xs. Ok (x.0 ∷ xs.0, xs.1)

abbrev pub maybe_at : {A : Type 0} → Bool → TokenKind → Reader A → Reader (Option A)
maybe_at true opening read ts = take opening ts >>= λ o. read o.1 >>= λ x. Ok (Some x.0, x.1)
maybe_at false opening read ts = Ok (None, ts)

-- [ opening X ]
unfoldable pub maybe : {A : Type 0} → TokenKind → Reader A → Reader (Option A)
maybe opening read ts = maybe_at (next_is opening ts) opening read ts

abbrev pub pass_at : Bool → List Token → List Token
pass_at true [] = []
pass_at true (t ∷ ts) = ts
pass_at false ts = ts

-- [ mark ]: what is left
unfoldable pub pass : TokenKind → List Token → List Token
pass mark ts = pass_at (next_is mark ts) ts

abbrev pub to_close_at : {A : Type 0} → Bool → Reader A → Reader (List A)
to_close_at true read ts = take (kind.Sign sign.Close) ts >>= λ c. Ok ([], c.1)
to_close_at false read ts = list_of (kind.Sign sign.Comma) read ts >>= λ xs. take (kind.Sign sign.Close) xs.1 >>= λ c. Ok (xs.0, c.1)

-- [ X {"," X} ] ")"
unfoldable pub to_close : {A : Type 0} → Reader A → Reader (List A)
to_close read ts = to_close_at (next_is (kind.Sign sign.Close) ts) read ts

-- "(" NAME "," NAME {"," NAME} ")"
unfoldable pub tuple : ℕ → Reader (List Name)
tuple n ts =
    take (kind.Sign sign.Open) ts >>= λ o. inside n name o.1 >>= λ x. take (kind.Sign sign.Comma) x.1 >>= λ c.
    list_of (kind.Sign sign.Comma) name c.1 >>= λ xs. take (kind.Sign sign.Close) xs.1 >>= λ d. Ok (x.0 ∷ xs.0, d.1)
