-- Which tokens stand for which operator, by the level at which it stands, and for which value or type.
use Rattle.std.specs.Prelude.{Option, Some, None, Bool, true, false}
use Rattle.zl_lexer.specs.declared.token.TokenKind.{TokenKind}
use Rattle.zl_lexer.specs.declared.token.TokenKind.TheVariants.{Word, Sign}
use Rattle.zl_lexer.specs.declared.token.Word.TheVariants as word
use Rattle.zl_lexer.specs.declared.token.Sign.TheVariants as sign
use Rattle.zl_value.specs.declared.value.Ty.{Ty}
use Rattle.zl_value.specs.declared.value.Ty.TheVariants as ty
use Rattle.zl_ast.specs.declared.program.DeclKind.{DeclKind}
use Rattle.zl_ast.specs.declared.program.DeclKind.TheVariants as decl
use Rattle.zl_ast.specs.declared.operator.Prefix.{Prefix}
use Rattle.zl_ast.specs.declared.operator.Prefix.TheVariants as pre
use Rattle.zl_ast.specs.declared.operator.Infix.{Infix}
use Rattle.zl_ast.specs.declared.operator.Infix.TheVariants as op
use Rattle.zl_ast.specs.declared.operator.FlowOp.{FlowOp}
use Rattle.zl_ast.specs.declared.operator.FlowOp.TheVariants as flow

-- "||" | "or"
abbrev pub disjunction : TokenKind → Option Infix
disjunction (Sign sign.Bars) = Some op.Or
disjunction (Word word.Or) = Some op.Or
disjunction _ = None

-- "&&" | "&"
abbrev pub conjunction : TokenKind → Option Infix
conjunction (Sign sign.Ampersands) = Some op.And
conjunction (Sign sign.Ampersand) = Some op.And
conjunction _ = None

-- "=" | "<>" | "<" | "<=" | ">" | ">="
abbrev pub comparison : TokenKind → Option Infix
comparison (Sign sign.Equal) = Some op.Equal
comparison (Sign sign.Unequal) = Some op.Unequal
comparison (Sign sign.Less) = Some op.Less
comparison (Sign sign.AtMost) = Some op.AtMost
comparison (Sign sign.Greater) = Some op.Greater
comparison (Sign sign.AtLeast) = Some op.AtLeast
comparison _ = None

-- "+" | "-" | "+." | "-."
abbrev pub addition : TokenKind → Option Infix
addition (Sign sign.Plus) = Some op.Plus
addition (Sign sign.Minus) = Some op.Minus
addition (Sign sign.PlusDot) = Some op.PlusDot
addition (Sign sign.MinusDot) = Some op.MinusDot
addition _ = None

-- "*" | "/" | "mod" | "*." | "/."
abbrev pub multiplication : TokenKind → Option Infix
multiplication (Sign sign.Star) = Some op.Star
multiplication (Sign sign.Slash) = Some op.Slash
multiplication (Word word.Mod) = Some op.Mod
multiplication (Sign sign.StarDot) = Some op.StarDot
multiplication (Sign sign.SlashDot) = Some op.SlashDot
multiplication _ = None

-- "->" | "fby"
abbrev pub flow_operator : TokenKind → Option FlowOp
flow_operator (Sign sign.Arrow) = Some flow.Arrow
flow_operator (Word word.Fby) = Some flow.Fby
flow_operator _ = None

-- "-" | "-." | "not" | "pre"
abbrev pub prefix : TokenKind → Option Prefix
prefix (Sign sign.Minus) = Some pre.Minus
prefix (Sign sign.MinusDot) = Some pre.MinusDot
prefix (Word word.Not) = Some pre.Not
prefix (Word word.Pre) = Some pre.Pre
prefix _ = None

-- "bool" | "int" | "float"
abbrev pub type_name : TokenKind → Option Ty
type_name (Word word.Bool) = Some ty.Bool
type_name (Word word.Int) = Some ty.Int
type_name (Word word.Float) = Some ty.Float
type_name _ = None

-- "until" | "unless": whether the move is strong
abbrev pub move_word : TokenKind → Option Bool
move_word (Word word.Until) = Some false
move_word (Word word.Unless) = Some true
move_word _ = None

-- "then" | "continue": whether the move starts its target anew
abbrev pub entry_word : TokenKind → Option Bool
entry_word (Word word.Then) = Some true
entry_word (Word word.Continue) = Some false
entry_word _ = None

-- "node" | "hybrid"
abbrev pub decl_word : TokenKind → Option DeclKind
decl_word (Word word.Node) = Some decl.Node
decl_word (Word word.Hybrid) = Some decl.Hybrid
decl_word _ = None
