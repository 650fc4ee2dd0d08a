-- A declaration whose kind is written.
use Rattle.std.proofs.Common.{◌≡◌, ℕ, List, drop, Ok, sym, ap, subst, ◌∙◌}
use Rattle.zl_lexer.specs.declared.token.Token.{Token}
use Rattle.zl_lexer.specs.declared.token.TokenKind.TheVariants as kind
use Rattle.zl_lexer.specs.declared.token.Word.TheVariants as word
use Rattle.zl_value.specs.declared.position.Pos.{Pos}
use Rattle.zl_ast.specs.declared.name.Name.{Name}
use Rattle.zl_ast.specs.declared.program.DeclKind.{DeclKind}
use Rattle.zl_ast.specs.Operators.{decl_word}
use Rattle.zl_ast.specs.Reading.{◌>>=◌, next_in, take, name}
use Rattle.zl_ast.specs.ReadingDeclarations.{function, decl_at, decl}
use Rattle.zl_parser.specs.declared.stop.Stop.{Stop}
use Rattle.zl_parser.specs.Giving.{Fails}
use Rattle.zl_parser.specs.Levels.{IsNext}
use Rattle.zl_parser.proofs.Loops.{bound_fails}
use Rattle.zl_parser.proofs.Links.{found}

module _ (n : ℕ) (ts us : List Token) (let_at at : Pos) (k : DeclKind) (rest : List Token) (taken : take (kind.Word word.Let) ts ≡ Ok (let_at, us)) (next : IsNext decl_word us k at rest) where
  marked : decl n ts ≡ (name rest >>= λ x. function n k x.0 x.1)
  unfolding decl ◌>>=◌
  marked =
      ap (λ r. r >>= λ l. decl_at (next_in decl_word l.1) n l.1) taken ∙ ap (λ o. decl_at o n us) next.is_next
      ∙ ap (λ q. name (drop 1 q) >>= λ x. function n k x.0 x.1) (found decl_word us k at rest next.found).tokens

  pub marked_fails : (e : Stop) → Fails e (name rest) → Fails e (decl n ts)
  marked_fails e f = subst (Fails e) (sym marked) (bound_fails e (name rest) _ f)

  pub marked_is : (x : Name) (left : List Token) → name rest ≡ Ok (x, left) → decl n ts ≡ function n k x left
  unfolding ◌>>=◌
  marked_is x left e = marked ∙ ap (λ r. r >>= λ y. function n k y.0 y.1) e
