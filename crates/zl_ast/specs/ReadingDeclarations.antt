-- Reading of declarations and programs. An opening parenthesis of a result needs two tokens more of look-ahead.
use Rattle.std.specs.Prelude.{ℕ, zero, suc, Bool, true, false, List, [], ◌∷◌, length, map, drop, Option, Some, None, Result, Ok, Err}
use Rattle.zl_lexer.specs.declared.token.Token.{Token}
use Rattle.zl_lexer.specs.declared.token.TokenKind.TheVariants as kind
use Rattle.zl_lexer.specs.declared.token.Word.TheVariants as word
use Rattle.zl_lexer.specs.declared.token.Sign.TheVariants as sign
use Rattle.zl_value.specs.declared.value.Ty.{Ty}
use Rattle.zl_ast.specs.declared.name.Name.{Name}
use Rattle.zl_ast.specs.declared.expr.Expr.{Expr}
use Rattle.zl_ast.specs.declared.expr.Expr.TheVariants as tree
use Rattle.zl_ast.specs.declared.eqn.Eqn.{Eqn}
use Rattle.zl_ast.specs.declared.program.Decl.{Decl}
use Rattle.zl_ast.specs.declared.program.DeclKind.{DeclKind}
use Rattle.zl_ast.specs.declared.program.DeclKind.TheVariants as declared
use Rattle.zl_ast.specs.declared.program.Param.{Param}
use Rattle.zl_ast.specs.Phrases.{listed}
use Rattle.zl_ast.specs.Operators.{type_name, decl_word}
use Rattle.zl_ast.specs.Declarations.{tuple_next}
use Rattle.zl_ast.specs.Reading.{Fault, parse, Reader, ◌>>=◌, next_is, next_in, take, find, name, inside, maybe, pass, to_close, tuple}
use Rattle.zl_ast.specs.ReadingExpressions.{read_expr}
use Rattle.zl_ast.specs.ReadingEquations.{read_eqs}

-- "bool" | "int" | "float"
unfoldable pub type_of : Reader Ty
type_of ts = find type_name ts >>= λ w. Ok (w.0.0, w.1)

-- NAME [":" type]
unfoldable pub param : Reader Param
param ts = name ts >>= λ x. maybe (kind.Sign sign.Colon) type_of x.1 >>= λ ty. Ok (record { name = x.0; ty = ty.0 }, ty.1)

abbrev pub result_at : Bool → ℕ → Reader (List Expr)
result_at true n ts = tuple n ts >>= λ xs. Ok (map tree.Var xs.0, xs.1)
result_at false n ts = read_expr n ts >>= λ x. Ok (x.0 ∷ [], x.1)

-- expr | "(" NAME "," NAME {"," NAME} ")"
unfoldable pub result : ℕ → Reader (List Expr)
result n ts = result_at (tuple_next ts) n ts

-- ["rec"] eqs
unfoldable pub where_part : ℕ → Reader (List Eqn)
where_part n ts = read_eqs n (pass (kind.Word word.Rec) ts)

-- "=" expr, of a constant
abbrev pub constant : ℕ → Name → Reader Decl
constant n x ts =
    take (kind.Sign sign.Equal) ts >>= λ q. read_expr n q.1 >>= λ v.
    Ok (record { kind = declared.Constant; name = x; params = []; results = v.0 ∷ []; eqs = [] }, v.1)

-- "(" [param {"," param}] ")" "=" result ["where" ["rec"] eqs]
abbrev pub function : ℕ → DeclKind → Name → Reader Decl
function n k x ts =
    take (kind.Sign sign.Open) ts >>= λ o. inside n (to_close param) o.1 >>= λ ps. take (kind.Sign sign.Equal) ps.1 >>= λ q.
    result n q.1 >>= λ r. maybe (kind.Word word.Where) (where_part n) r.1 >>= λ es.
    Ok (record { kind = k; name = x; params = ps.0; results = r.0; eqs = listed es.0 }, es.1)

abbrev pub unmarked_at : Bool → ℕ → Name → Reader Decl
unmarked_at true n x ts = constant n x ts
unmarked_at false n x ts = function n declared.Function x ts

-- what stands behind "let"
abbrev pub decl_at : Option DeclKind → ℕ → Reader Decl
decl_at (Some k) n ts = name (drop 1 ts) >>= λ x. function n k x.0 x.1
decl_at None n ts = name ts >>= λ x. unmarked_at (next_is (kind.Sign sign.Equal) x.1) n x.0 x.1

unfoldable pub decl : ℕ → Reader Decl
decl n ts = take (kind.Word word.Let) ts >>= λ l. decl_at (next_in decl_word l.1) n l.1

-- { decl }, at most as many as the second number says
unfoldable pub decls : ℕ → ℕ → List Token → Result (List Decl) Fault
decls n most [] = Ok []
decls n zero (t ∷ ts) = Err (parse (suc (length ts)))
decls n (suc most) (t ∷ ts) = decl n (t ∷ ts) >>= λ d. decls n most d.1 >>= λ ds. Ok (d.0 ∷ ds)

-- the declarations of a program with at most n constructs opened one inside the other
unfoldable pub read_program : ℕ → List Token → Result (List Decl) Fault
read_program n ts = decls n (length ts) ts
