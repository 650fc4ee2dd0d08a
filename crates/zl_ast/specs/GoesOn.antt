-- Where reading stops at a token, no program goes on from there.
use Rattle.std.specs.Prelude.{◌≡◌, ℕ, suc, ◌≤◌, ◌-◌, List, length, take, Err}
use Rattle.zl_lexer.specs.declared.token.Token.{Token}
use Rattle.zl_ast.specs.Declarations.{BeginsWithin, Begins}
use Rattle.zl_ast.specs.Reading.{parse, deep}
use Rattle.zl_ast.specs.ReadingDeclarations.{read_program}

-- The tokens up to one that can't follow begin no program, whatever its nesting.
abbrev pub NoneGoesOn : Type 0
NoneGoesOn = (n left : ℕ) (ts : List Token) → read_program n ts ≡ Err (parse left) → 1 ≤ left →
    Begins (take (suc (length ts - left)) ts) → ⊥

-- The tokens up to one that opens a construct too many, and the one behind it, begin no program with so few of them open. The
-- one behind it counts, since a "-" before a FLOAT opens none.
abbrev pub NoneGoesOnWithin : Type 0
NoneGoesOnWithin = (n left : ℕ) (ts : List Token) → read_program n ts ≡ Err (deep left) → 2 ≤ left →
    BeginsWithin n (take (suc (suc (length ts - left))) ts) → ⊥
