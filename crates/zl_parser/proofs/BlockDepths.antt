-- Equations inside a construct, and where none may be opened.
use Rattle.std.proofs.Common.{◌≡◌, ℕ, zero, suc, ◌-◌, ◌<◌, Bool, true, false, List, [], Ok, arith, refl, ap, ◌∙◌}
use Rattle.zl_lexer.specs.declared.token.Token.{Token}
use Rattle.zl_lexer.specs.declared.token.TokenKind.TheVariants as kind
use Rattle.zl_lexer.specs.declared.token.Word.TheVariants as word
use Rattle.zl_ast.specs.Reading.{inside, list_of}
use Rattle.zl_ast.specs.ReadingEquations.{less, read_eqs, eqn, do_ends, do_eqs_at, do_eqs}
use Rattle.zl_parser.specs.Blocks.{eqs_below}
use Rattle.zl_parser.proofs.Depths.{read_inside}

pub less_is : (n : ℕ) → less n ≡ n - 1
less_is zero = omega arith
less_is (suc n) = omega arith

pub read_eqs_is : (n : ℕ) (ts : List Token) → read_eqs n ts ≡ list_of (kind.Word word.And) (eqn n (eqs_below n)) ts
unfolding read_eqs
read_eqs_is zero ts = refl
read_eqs_is (suc n) ts = refl

pub eqs_below_is : (n : ℕ) (ts : List Token) → 0 < n → eqs_below n ts ≡ read_eqs (n - 1) ts
eqs_below_is zero ts h = absurd (omega arith)
eqs_below_is (suc n) ts h = let e : n ≡ suc n - 1 = omega arith in ap (λ k. read_eqs k ts) e

pub eqs_inside : (n : ℕ) (ts : List Token) → 0 < n → inside n (eqs_below n) ts ≡ read_eqs (n - 1) ts
eqs_inside n ts h = read_inside n (eqs_below n) ts h ∙ eqs_below_is n ts h

do_eqs_is : (n : ℕ) (ts : List Token) (b : Bool) → 0 < n → do_ends ts ≡ b → inside n (do_eqs (eqs_below n)) ts ≡ do_eqs_at b (eqs_below n) ts
unfolding do_eqs
do_eqs_is n ts b h e = read_inside n (do_eqs (eqs_below n)) ts h ∙ ap (λ c. do_eqs_at c (eqs_below n) ts) e

pub no_eqs : (n : ℕ) (ts : List Token) → 0 < n → do_ends ts ≡ true → inside n (do_eqs (eqs_below n)) ts ≡ Ok ([], ts)
no_eqs n ts h e = do_eqs_is n ts true h e

pub some_eqs : (n : ℕ) (ts : List Token) → 0 < n → do_ends ts ≡ false → inside n (do_eqs (eqs_below n)) ts ≡ read_eqs (n - 1) ts
some_eqs n ts h e = do_eqs_is n ts false h e ∙ eqs_below_is n ts h
