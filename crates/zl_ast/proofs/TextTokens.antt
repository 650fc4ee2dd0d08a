-- The places of a text's tokens grow, and their names are known.
use Rattle.std.proofs.Common.{ℕ, ◌<◌, List, [], ◌∷◌}
use Rattle.std.specs.List.{AllByRecursion}
use Rattle.zl_lexer.specs.declared.token.Token.{Token}
use Rattle.zl_lexer.specs.declared.token.TokenKind.{TokenKind}
use Rattle.zl_lexer.specs.declared.token.TokenKind.TheVariants as kind
use Rattle.zl_lexer.specs.Facts.{InOrder, IsKind}
use Rattle.zl_value.specs.declared.position.Pos.{Pos}
use Rattle.zl_ast.specs.Parsed.{Before, Grow, with_id, token_ids, token_places}
use Rattle.zl_ast.specs.Spots.{id_of}

all_places : (p : Pos) (ts : List Token) → AllByRecursion (λ t. Before p t.at) ts → AllByRecursion (Before p) (token_places ts)
all_places p [] h = tt
all_places p (t ∷ ts) h = (h.0, all_places p ts h.1)

-- the places of tokens grow
pub tokens_grow : (ts : List Token) (end : Pos) → InOrder ts end → Grow (token_places ts)
tokens_grow [] end h = tt
tokens_grow (t ∷ ts) end h = (all_places t.at ts h.1, tokens_grow ts end h.2)

known_at : (count : ℕ) (k : TokenKind) (ids : List ℕ) → IsKind count k → AllByRecursion (λ id. id < count) ids → AllByRecursion (λ id. id < count) (with_id (id_of k) ids)
known_at count (kind.Name id) ids h all = (h, all)
known_at count (kind.Int i) ids h all = all
known_at count (kind.Float f) ids h all = all
known_at count (kind.Word w) ids h all = all
known_at count (kind.Sign s) ids h all = all

-- their names are known
pub tokens_known : (count : ℕ) (ts : List Token) → AllByRecursion (λ t. IsKind count t.kind) ts → AllByRecursion (λ id. id < count) (token_ids ts)
tokens_known count [] h = tt
tokens_known count (t ∷ ts) h = known_at count t.kind (token_ids ts) h.0 (tokens_known count ts h.1)
