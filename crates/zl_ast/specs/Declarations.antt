-- The grammar of declarations and programs, a constructor for each form of a line. The number says how many
-- constructs may still be opened.
use Rattle.std.specs.Prelude.{◌≡◌, ℕ, suc, Bool, true, false, ◌&&◌, List, [], ◌∷◌, ◌++◌, map, Option}
use Rattle.zl_lexer.specs.declared.token.Token.{Token}
use Rattle.zl_lexer.specs.declared.token.TokenKind.{TokenKind}
use Rattle.zl_lexer.specs.declared.token.TokenKind.TheVariants as kind
use Rattle.zl_lexer.specs.declared.token.Word.TheVariants as word
use Rattle.zl_lexer.specs.declared.token.Sign.TheVariants as sign
use Rattle.zl_value.specs.declared.position.Pos.{Pos}
use Rattle.zl_value.specs.declared.value.Ty.{Ty}
use Rattle.zl_ast.specs.declared.name.Name.{Name}
use Rattle.zl_ast.specs.declared.expr.Expr.{Expr}
use Rattle.zl_ast.specs.declared.expr.Expr.TheVariants as tree
use Rattle.zl_ast.specs.declared.eqn.Eqn.{Eqn}
use Rattle.zl_ast.specs.declared.program.Decl.{Decl}
use Rattle.zl_ast.specs.declared.program.DeclKind.{DeclKind}
use Rattle.zl_ast.specs.declared.program.DeclKind.TheVariants as decl
use Rattle.zl_ast.specs.declared.program.Param.{Param}
use Rattle.zl_ast.specs.declared.program.Program.{Program}
use Rattle.zl_ast.specs.Phrases.{Takes, Finds, NoneNext, IsName, Maybe, Passes, ToClose, IsTuple, listed}
use Rattle.zl_ast.specs.Operators.{type_name, decl_word}
use Rattle.zl_ast.specs.Expressions.{IsExpr}
use Rattle.zl_ast.specs.Equations.{IsEqs}

-- "bool" | "int" | "float"
pub data IsTypeName : List Token → Ty → List Token → Type 0 where
  named : {ts rest : List Token} {at : Pos} {ty : Ty} → Finds type_name ts ty at rest → IsTypeName ts ty rest

-- param = NAME [":" ("bool" | "int" | "float")]
pub data IsParam : List Token → Param → List Token → Type 0 where
  param : {ts us rest : List Token} {x : Name} {ty : Option Ty} →
      IsName ts x us → Maybe (kind.Sign sign.Colon) IsTypeName us ty rest → IsParam ts (record { name = x; ty = ty }) rest

abbrev pub is_open : TokenKind → Bool
is_open (kind.Sign sign.Open) = true
is_open _ = false

abbrev pub is_name : TokenKind → Bool
is_name (kind.Name id) = true
is_name _ = false

abbrev pub is_comma : TokenKind → Bool
is_comma (kind.Sign sign.Comma) = true
is_comma _ = false

-- "(" NAME "," is next
abbrev pub tuple_next : List Token → Bool
tuple_next (o ∷ x ∷ c ∷ ts) = is_open o.kind && (is_name x.kind && is_comma c.kind)
tuple_next _ = false

-- result = expr | "(" NAME "," NAME {"," NAME} ")": always the second where it begins as that does
pub data IsResult : ℕ → List Token → List Expr → List Token → Type 0 where
  value : {n : ℕ} {ts rest : List Token} {x : Expr} → tuple_next ts ≡ false → IsExpr n ts x rest → IsResult n ts (x ∷ []) rest
  names : {n : ℕ} {ts rest : List Token} {xs : List Name} → IsTuple ts xs rest → IsResult (suc n) ts (map tree.Var xs) rest

-- ["rec"] eqs, behind "where"
pub data IsWhere (n : ℕ) : List Token → List Eqn → List Token → Type 0 where
  where_eqs : {ts us rest : List Token} {es : List Eqn} → Passes (kind.Word word.Rec) ts us → IsEqs n us es rest → IsWhere n ts es rest

-- ["node" | "hybrid"]
pub data IsKind : List Token → DeclKind → List Token → Type 0 where
  function : {ts : List Token} → NoneNext decl_word ts → IsKind ts decl.Function ts
  marked : {ts rest : List Token} {at : Pos} {k : DeclKind} → Finds decl_word ts k at rest → IsKind ts k rest

-- decl = "let" NAME "=" expr
--      | "let" ["node" | "hybrid"] NAME "(" [param {"," param}] ")" "=" result ["where" ["rec"] eqs]
pub data IsDecl : ℕ → List Token → Decl → List Token → Type 0 where
  constant : {n : ℕ} {ts us vs ws rest : List Token} {at equal_at : Pos} {x : Name} {e : Expr} →
      Takes (kind.Word word.Let) ts at us → IsName us x vs → Takes (kind.Sign sign.Equal) vs equal_at ws → IsExpr n ws e rest →
      IsDecl n ts (record { kind = decl.Constant; name = x; params = []; results = e ∷ []; eqs = [] }) rest
  function_of : {n : ℕ} {ts us vs ws xs ys zs os rest : List Token} {let_at at equal_at : Pos} {k : DeclKind} {x : Name} {params : List Param} {results : List Expr} {es : Option (List Eqn)} →
      Takes (kind.Word word.Let) ts let_at us → IsKind us k vs → IsName vs x ws → Takes (kind.Sign sign.Open) ws at xs →
      ToClose IsParam xs params ys → Takes (kind.Sign sign.Equal) ys equal_at zs → IsResult (suc n) zs results os →
      Maybe (kind.Word word.Where) (IsWhere (suc n)) os es rest →
      IsDecl (suc n) ts (record { kind = k; name = x; params = params; results = results; eqs = listed es }) rest

-- program = { decl }
pub data IsDecls (n : ℕ) : List Token → List Decl → Type 0 where
  no_decls : IsDecls n [] []
  some_decls : {ts us : List Token} {d : Decl} {ds : List Decl} → IsDecl n ts d us → IsDecls n us ds → IsDecls n ts (d ∷ ds)

-- These tokens, all of them, are those of the program, with at most n constructs opened one inside the other.
abbrev pub IsProgram : ℕ → List Token → Program → Type 0
IsProgram n ts p = IsDecls n ts p.decls

-- how many constructs may be open at a token of a program
abbrev pub nesting_limit : ℕ
nesting_limit = 64

-- These tokens begin a program with at most n constructs opened one inside the other.
pub record BeginsWithin (n : ℕ) (ts : List Token) : Type 0 where
  pub more : List Token
  pub decls : List Decl
  pub is_program : IsDecls n (ts ++ more) decls

-- These tokens begin a program, whatever its nesting.
pub record Begins (ts : List Token) : Type 0 where
  pub depth : ℕ
  pub within : BeginsWithin depth ts
