-- What tree the text of a file has.
use Rattle.std.specs.Prelude.{ℕ, List}
use Rattle.zl_value.specs.declared.position.Pos.{Pos}
use Rattle.zl_lexer.specs.declared.token.Token.{Token}
use Rattle.zl_lexer.specs.Tokens.{IsLexed}
use Rattle.zl_ast.specs.declared.program.Program.{Program}
use Rattle.zl_ast.specs.Declarations.{IsProgram, nesting_limit}
use Rattle.zl_parser.specs.declared.answer.ParseAnswer.{ParseAnswer}
use Rattle.zl_parser.specs.ParseAnswers.{HasNoTree, StandsAt, ReadingStops, NoneGoesOn}
use Rattle.zl_compile.specs.FileText.{IsText}

-- the text has tokens, and this is the tree of them
pub record IsTreeOf (bytes : List ℕ) (program : Program) : Type 0 where
  pub text : IsText bytes
  pub tokens : List Token
  pub end : Pos
  pub lexed : IsLexed bytes tokens program.names end
  pub tree : IsProgram nesting_limit tokens program

-- There is no tree of the tokens. The answer says why: at which token reading stops, and where that stands.
pub record IsTreeless (tokens : List Token) (end : Pos) (why : ParseAnswer) : Type 0 where
  pub none : HasNoTree tokens why
  pub place : StandsAt tokens end why
  pub stops : ReadingStops tokens why
  pub ends : NoneGoesOn tokens why

-- the text has tokens, and there is no tree of them
pub record StopsAtToken (bytes : List ℕ) (why : ParseAnswer) : Type 0 where
  pub text : IsText bytes
  pub tokens : List Token
  pub names : List (List ℕ)
  pub end : Pos
  pub lexed : IsLexed bytes tokens names end
  pub treeless : IsTreeless tokens end why
