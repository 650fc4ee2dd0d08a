-- The forms of a grammar's lines. A phrase says which token lists begin with a thing, which thing that is,
-- and which tokens are left behind it. So what may follow is the next token of what is left.
use Rattle.std.specs.Prelude.{◌≡◌, ℕ, List, [], ◌∷◌, Option, Some, None}
use Rattle.zl_lexer.specs.declared.token.Token.{Token}
use Rattle.zl_lexer.specs.declared.token.TokenKind.{TokenKind}
use Rattle.zl_lexer.specs.declared.token.TokenKind.TheVariants as kind
use Rattle.zl_lexer.specs.declared.token.Sign.TheVariants as sign
use Rattle.zl_value.specs.declared.position.Pos.{Pos}
use Rattle.zl_ast.specs.declared.name.Name.{Name}

-- the tokens, what they begin with, and the tokens left
abbrev pub Phrase : Type 0 → Type 1
Phrase A = List Token → A → List Token → Type 0

-- no phrase at all
pub data Nothing {A : Type 0} : List Token → A → List Token → Type 0 where

-- a token of this kind, with its place
pub data Takes (wanted : TokenKind) : List Token → Pos → List Token → Type 0 where
  takes : (t : Token) {ts : List Token} → t.kind ≡ wanted → Takes wanted (t ∷ ts) t.at ts

-- the next token, if there is one, isn't of this kind
abbrev pub NotNext : TokenKind → List Token → Type 0
NotNext k [] = Unit {0}
NotNext k (t ∷ ts) = t.kind ≡ k → ⊥

-- a token that stands for a thing in a table of kinds, with that thing and its place
pub data Finds {A : Type 0} (table : TokenKind → Option A) : List Token → A → Pos → List Token → Type 0 where
  finds : (t : Token) {ts : List Token} (a : A) → table t.kind ≡ Some a → Finds table (t ∷ ts) a t.at ts

-- the next token, if there is one, isn't in the table
abbrev pub NoneNext : {A : Type 0} → (TokenKind → Option A) → List Token → Type 0
NoneNext table [] = Unit {0}
NoneNext table (t ∷ ts) = table t.kind ≡ None

-- NAME
pub data IsName : List Token → Name → List Token → Type 0 where
  name : {ts rest : List Token} {at : Pos} (id : ℕ) → Takes (kind.Name id) ts at rest → IsName ts (record { id = id; at = at }) rest

-- X { separator X }: it goes on as long as a separator follows
pub data ListOf {A : Type 0} (separator : TokenKind) (X : Phrase A) : List Token → List A → List Token → Type 0 where
  last : {ts rest : List Token} {x : A} → X ts x rest → NotNext separator rest → ListOf separator X ts (x ∷ []) rest
  more : {ts us vs rest : List Token} {x : A} {at : Pos} {xs : List A} →
      X ts x us → Takes separator us at vs → ListOf separator X vs xs rest → ListOf separator X ts (x ∷ xs) rest

-- [ opening X ]: it is there if its opening follows
pub data Maybe {A : Type 0} (opening : TokenKind) (X : Phrase A) : List Token → Option A → List Token → Type 0 where
  absent : {ts : List Token} → NotNext opening ts → Maybe opening X ts None ts
  present : {ts us rest : List Token} {at : Pos} {x : A} → Takes opening ts at us → X us x rest → Maybe opening X ts (Some x) rest

-- [ mark ]: it is passed if it follows
pub data Passes (mark : TokenKind) : List Token → List Token → Type 0 where
  without : {ts : List Token} → NotNext mark ts → Passes mark ts ts
  with_it : {ts rest : List Token} {at : Pos} → Takes mark ts at rest → Passes mark ts rest

-- [ X {"," X} ] ")", behind its "("
pub data ToClose {A : Type 0} (X : Phrase A) : List Token → List A → List Token → Type 0 where
  empty : {ts rest : List Token} {at : Pos} → Takes (kind.Sign sign.Close) ts at rest → ToClose X ts [] rest
  items : {ts us rest : List Token} {at : Pos} {xs : List A} →
      ListOf (kind.Sign sign.Comma) X ts xs us → Takes (kind.Sign sign.Close) us at rest → ToClose X ts xs rest

-- "(" NAME "," NAME {"," NAME} ")"
pub data IsTuple : List Token → List Name → List Token → Type 0 where
  tuple : {ts us vs ws xs rest : List Token} {at comma_at to : Pos} {x : Name} {names : List Name} →
      Takes (kind.Sign sign.Open) ts at us → IsName us x vs → Takes (kind.Sign sign.Comma) vs comma_at ws →
      ListOf (kind.Sign sign.Comma) IsName ws names xs → Takes (kind.Sign sign.Close) xs to rest → IsTuple ts (x ∷ names) rest

-- what an optional list holds
abbrev pub listed : {A : Type 0} → Option (List A) → List A
listed None = []
listed (Some xs) = xs
