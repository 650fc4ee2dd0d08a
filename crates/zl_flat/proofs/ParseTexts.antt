-- A text is read as a program by computation.
use Rattle.std.proofs.Common.{◌≡◌, ℕ, true, false, is_some, List, Option, Some, None, Result, Ok, subst}
use Rattle.zl_lexer.specs.declared.token.Token.{Token}
use Rattle.zl_lexer.specs.Facts.{AreTokens}
use Rattle.zl_lexer.proofs.ReadTexts.{TokensOf}
use Rattle.zl_ast.specs.declared.program.Decl.{Decl}
use Rattle.zl_ast.specs.declared.program.Program.{Program}
use Rattle.zl_ast.specs.Declarations.{IsDecls, nesting_limit}
use Rattle.zl_ast.specs.Reading.{Fault, ◌>>=◌, next_is, next_in, take, find, name, inside, others, list_of, maybe, pass, to_close, tuple}
use Rattle.zl_ast.specs.ReadingExpressions.{atom_at, atom, pref, links, level, cmp, expr_of, read_expr}
use Rattle.zl_ast.specs.ReadingEquations.{up, cond, reset_arm, alt, alts, move_from, moves, state_end, locals, do_ends, do_eqs, body, arm, state, eqn_at, eqn, read_eqs}
use Rattle.zl_ast.specs.ReadingDeclarations.{type_of, param, result, where_part, decl, decls, read_program}
use Rattle.zl_ast.proofs.AgreeingDeclarations.{program_sound}
use Rattle.zl_ast.specs.Parsed.{IsParsed}

pub no_some : {A : Type 0} → false ≡ true → A
no_some e = absurd (cc)

-- what there is
abbrev pub the_some : {A : Type 0} (o : Option A) → is_some o ≡ true → A
the_some (Some a) e = a
the_some None e = no_some e

-- the reading with all that it computes by
unfoldable pub read : List Token → Result (List Decl) Fault
unfolding ◌>>=◌ next_is next_in take find name inside others list_of maybe pass to_close tuple atom_at atom pref links level cmp expr_of read_expr up cond reset_arm alt alts move_from moves state_end locals do_ends do_eqs body arm state eqn_at eqn read_eqs type_of param result where_part decl decls read_program
read ts = read_program nesting_limit ts

pub read-sound : (ts : List Token) (ds : List Decl) → read ts ≡ Ok ds → IsDecls nesting_limit ts ds
unfolding read
read-sound ts ds e = program_sound nesting_limit ts ds e

-- the program is the tree of the tokens, and has their names
abbrev pub is_read : (text : List ℕ) (p : Program) (t : TokensOf text) → t.names ≡ p.names → read t.tokens ≡ Ok p.decls → IsParsed p
is_read text p t named parsed = record {
  tokens = t.tokens;
  end = t.end;
  facts = subst (λ ns. AreTokens t.tokens ns t.end) named t.facts;
  is_program = read-sound t.tokens p.decls parsed;
}
