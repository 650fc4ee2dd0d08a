-- What the steps from the bytes of a file to its grades answer. What `accept` answers is made of these.
use Rattle.std.specs.Prelude.{◌≡◌, ⊤, ℕ, true, List, [], Result, Ok, Err}
use Rattle.zl_value.specs.declared.position.Pos.{Pos}
use Rattle.zl_value.specs.declared.value.Ty.{Ty}
use Rattle.zl_value.specs.declared.rule.Refusal.{Refusal}
use Rattle.zl_value.specs.declared.rule.Rule.TheVariants as rule
use Rattle.zl_lexer.specs.declared.token.LexAnswer.TheVariants as answer
use Rattle.zl_lexer.specs.declared.token.Lexed.{Lexed}
use Rattle.zl_lexer.specs.declared.token.Token.{Token}
use Rattle.zl_lexer.specs.Tokens.{IsLexed, StopsAt}
use Rattle.zl_ast.specs.declared.program.Program.{Program}
use Rattle.zl_ast.specs.declared.scope.Typing.{Typing}
use Rattle.zl_ast.specs.Declarations.{IsProgram, nesting_limit}
use Rattle.zl_ast.specs.Scopes.{scopes}
use Rattle.zl_ast.specs.Assignments.{IsTyping}
use Rattle.zl_ast.specs.TypeEqualities.{equalities}
use Rattle.zl_ast.specs.Kinds.{misplaced}
use Rattle.zl_parser.specs.declared.answer.ParseAnswer.TheVariants as parse_answer
use Rattle.zl_meaning.specs.FlatForm.{FlatForm}
use Rattle.zl_meaning.specs.Regular.{is_hybrid_block, IsRegular}
use Rattle.zl_meaning.specs.Single.{IsSingle}
use Rattle.zl_flat.specs.Flat.{IsFlatOf}
use Rattle.zl_compile.specs.declared.file.Accepted.{Accepted}
use Rattle.zl_compile.specs.declared.answer.CompileAnswer.{CompileAnswer}
use Rattle.zl_compile.specs.declared.answer.CompileAnswer.TheVariants.{Refused, Memory}
use Rattle.zl_compile.specs.FileTree.{IsTreeless}
use Rattle.zl_compile.specs.FirstBroken.{IsFirstBroken, IsBrokenBy}
use Rattle.zl_compile.specs.Rules.{KeepsInitialisation, KeepsRules}

-- the text has tokens
abbrev pub GivesTokens : List ℕ → Result Lexed CompileAnswer → Type 0
GivesTokens text (Ok l) = IsLexed text l.tokens l.names l.end
GivesTokens text (Err (Refused rule.Token at)) = StopsAt text (answer.BadToken at)
GivesTokens text (Err (Refused rule.Literal at)) = StopsAt text (answer.Literal at)
GivesTokens text (Err (Refused _ at)) = ⊥
GivesTokens text (Err Memory) = Unit {0}

-- the tokens have a tree
abbrev pub GivesTree : List Token → List (List ℕ) → Pos → Result Program CompileAnswer → Type 0
GivesTree tokens names end (Ok program) = IsProgram nesting_limit tokens program × (program.names ≡ names)
GivesTree tokens names end (Err (Refused rule.Parse at)) = (token : ℕ) × IsTreeless tokens end (parse_answer.Parse token at)
GivesTree tokens names end (Err (Refused rule.Deep at)) = (token : ℕ) × IsTreeless tokens end (parse_answer.Deep token at)
GivesTree tokens names end (Err (Refused _ at)) = ⊥
GivesTree tokens names end (Err Memory) = Unit {0}

-- a tree that keeps the rules of names is tried by those of types
abbrev pub GivesTypes : Program → Result Typing Refusal → Type 0
GivesTypes p (Ok typing) = IsTyping (equalities p) (scopes p) typing.decls × (misplaced p ≡ [])
GivesTypes p (Err refusal) = IsBrokenBy p refusal

-- a tree that keeps the rules of names and of types is tried by that of initialisation
abbrev pub GivesLevels : Program → Result ⊤ Refusal → Type 0
GivesLevels p (Ok _) = KeepsInitialisation p
GivesLevels p (Err refusal) = IsBrokenBy p refusal

-- the flat form of a tree with these types, of which ranks and grades can be asked
pub record IsExpanded (p : Program) (types : List (List Ty)) (form : FlatForm) : Type 0 where
  pub flat : IsFlatOf p (scopes p) types form
  pub single : IsSingle form
  pub regular : IsRegular form
  pub hybrid : is_hybrid_block form 0 ≡ true

-- a tree that keeps the rules before is expanded, unless it passes the limits
abbrev pub GivesFlat : Program → List (List Ty) → Result FlatForm Refusal → Type 0
GivesFlat p types (Ok form) = IsExpanded p types form
GivesFlat p types (Err refusal) = IsBrokenBy p refusal

-- a tree is accepted, or breaks a rule
abbrev pub GivesAccepted : Program → Result Accepted CompileAnswer → Type 0
GivesAccepted p (Ok a) = (a.program ≡ p) × KeepsRules a
GivesAccepted p (Err (Refused r at)) = IsFirstBroken p r at
GivesAccepted p (Err Memory) = Unit {0}
