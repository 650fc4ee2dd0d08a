-- The tree of tokens, and what a stop says of tokens that have none.
use Rattle.std.proofs.Common.{◌≡◌, ℕ, ◌-◌, ◌≤◌, List, length, Result, Ok, Err, arith, refl, subst}
use Rattle.zl_lexer.specs.declared.token.Token.{Token}
use Rattle.zl_lexer.specs.Facts.{AreTokens}
use Rattle.zl_value.specs.declared.position.Pos.{Pos}
use Rattle.zl_ast.specs.declared.program.Decl.{Decl}
use Rattle.zl_ast.specs.Declarations.{IsDecls, nesting_limit}
use Rattle.zl_ast.specs.Parsed.{IsParsed}
use Rattle.zl_ast.specs.Reading.{Fault, parse, deep}
use Rattle.zl_ast.specs.ReadingDeclarations.{read_program}
use Rattle.zl_ast.proofs.GoesOn.{none_goes_on, none_goes_on_within}
use Rattle.zl_ast.proofs.OneDeeperEquations.{deep_tokens}
use Rattle.zl_ast.proofs.TreeLaws.{reading_is_exact, no_tree_at_any_depth, faults_are_inside}
use Rattle.zl_parser.specs.declared.stop.Stop.{Stop}
use Rattle.zl_parser.specs.declared.stop.Stop.TheVariants as stop
use Rattle.zl_parser.specs.Giving.{Fails}
use Rattle.zl_parser.specs.ParseAnswers.{IsAnswered, HasNoTree, StandsAt, ReadingStops, NoneGoesOn, IsWithin, answer_of}

same_tree : (read : Result (List Decl) Fault) (ds es : List Decl) → read ≡ Ok ds → read ≡ Ok es → ds ≡ es
same_tree read ds es p q = cc

no_tree : (read : Result (List Decl) Fault) (ds : List Decl) (f : Fault) → read ≡ Err f → read ≡ Ok ds → ⊥
no_tree read ds f p q = cc

module _ (ts : List Token) where
  pub is_found : (ds : List Decl) → read_program nesting_limit ts ≡ Ok ds → IsDecls nesting_limit ts ds
  is_found ds e = (reading_is_exact nesting_limit ts ds).0 e

  pub is_only : (ds es : List Decl) → read_program nesting_limit ts ≡ Ok ds → IsDecls nesting_limit ts es → ds ≡ es
  is_only ds es e h = same_tree (read_program nesting_limit ts) ds es e ((reading_is_exact nesting_limit ts es).1 h)

  pub is_within : (e : Stop) → Fails e (read_program nesting_limit ts) → IsWithin e (length ts)
  is_within stop.Memory f = tt
  is_within (stop.Parse left) f = (faults_are_inside nesting_limit left ts).0 f
  is_within (stop.Deep left) f = ((faults_are_inside nesting_limit left ts).1 f).1

  pub not_answered : (e : Stop) (end : Pos) (ds : List Decl) → Fails e (read_program nesting_limit ts) → IsDecls nesting_limit ts ds → IsAnswered (Err (answer_of ts end e)) ds
  not_answered stop.Memory end ds f h = tt
  not_answered (stop.Parse left) end ds f h = no_tree (read_program nesting_limit ts) ds (parse left) f ((reading_is_exact nesting_limit ts ds).1 h)
  not_answered (stop.Deep left) end ds f h = no_tree (read_program nesting_limit ts) ds (deep left) f ((reading_is_exact nesting_limit ts ds).1 h)

  pub has_no_tree : (e : Stop) (end : Pos) → Fails e (read_program nesting_limit ts) → HasNoTree ts (answer_of ts end e)
  has_no_tree stop.Memory end f = tt
  has_no_tree (stop.Parse left) end f = λ n ds h. no_tree_at_any_depth nesting_limit left ts f n ds h
  has_no_tree (stop.Deep left) end f = λ ds h. no_tree (read_program nesting_limit ts) ds (deep left) f ((reading_is_exact nesting_limit ts ds).1 h)

  pub stands : (e : Stop) (end : Pos) → Fails e (read_program nesting_limit ts) → StandsAt ts end (answer_of ts end e)
  stands stop.Memory end f = tt
  stands (stop.Parse left) end f = (omega arith, refl)
  stands (stop.Deep left) end f = let some = (faults_are_inside nesting_limit left ts).1 f in (omega arith, refl)

  back : (left : ℕ) → left ≤ length ts → left ≡ length ts - (length ts - left)
  back left le = omega arith

  pub stops : (e : Stop) (end : Pos) → Fails e (read_program nesting_limit ts) → ReadingStops ts (answer_of ts end e)
  stops stop.Memory end f = tt
  stops (stop.Parse left) end f =
      subst (λ l. read_program nesting_limit ts ≡ Err (parse l)) (back left ((faults_are_inside nesting_limit left ts).0 f)) f
  stops (stop.Deep left) end f =
      let taken = deep_tokens nesting_limit left ts f in
      (subst (λ l. read_program nesting_limit ts ≡ Err (deep l)) (back left ((faults_are_inside nesting_limit left ts).1 f).1) f, taken.0, taken.1)

  pub ends : (e : Stop) (end : Pos) → Fails e (read_program nesting_limit ts) → NoneGoesOn ts (answer_of ts end e)
  ends stop.Memory end f = tt
  ends (stop.Parse left) end f = λ lt. none_goes_on nesting_limit left ts f (let le = (faults_are_inside nesting_limit left ts).0 f in omega arith)
  ends (stop.Deep left) end f = λ lt. none_goes_on_within nesting_limit left ts f (let le = ((faults_are_inside nesting_limit left ts).1 f).1 in omega arith)

-- ---- the tokens of a text

pub is_parsed : (ts : List Token) (names : List (List ℕ)) (end : Pos) (ds : List Decl) → read_program nesting_limit ts ≡ Ok ds → AreTokens ts names end → IsParsed (record { decls = ds; names = names })
is_parsed ts names end ds e h = record { tokens = ts; end = end; facts = h; is_program = is_found ts ds e }
