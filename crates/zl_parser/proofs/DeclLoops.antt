-- The loop over the declarations of a program.
use Rattle.std.specs.Prelude.{◌==◌}
use Rattle.std.proofs.Common.{◌≡◌, ℕ, suc, ◌-◌, ◌+◌, ◌<◌, true, false, List, [], ◌∷◌, ◌++◌, length, Result, Ok, Err, arith, refl, sym, ap, subst, ◌∙◌, append_assoc}
use Rattle.std.proofs.lemmas.List.{append-nil}
use Rattle.std.proofs.lemmas.Bool.{eqb-true, eqb-false}
use Rattle.zl_lexer.specs.declared.token.Token.{Token}
use Rattle.zl_ast.specs.declared.program.Decl.{Decl}
use Rattle.zl_ast.specs.Reading.{Fault, parse, ◌>>=◌}
use Rattle.zl_ast.specs.ReadingDeclarations.{decl, decls, read_program}
use Rattle.zl_parser.specs.declared.stop.Stop.{Stop}
use Rattle.zl_parser.specs.declared.stop.Stop.TheVariants as stop
use Rattle.zl_parser.specs.Giving.{Fails}
use Rattle.zl_parser.proofs.Loops.{one_turn}

-- what was read before, and the declarations that are read now
abbrev pub with_decls : List Decl → Result (List Decl) Fault → Result (List Decl) Fault
with_decls front read = read >>= λ ds. Ok (front ++ ds)

pub decls_begin : (n : ℕ) (ts : List Token) → with_decls [] (decls n (length ts) ts) ≡ read_program n ts
unfolding read_program ◌>>=◌
decls_begin n ts = same (decls n (length ts) ts)
  where
    same : (r : Result (List Decl) Fault) → (r >>= λ ds. Ok ([] ++ ds)) ≡ r
    same (Ok ds) = refl
    same (Err e) = refl

failed : (e : Stop) (front : List Decl) (read whole : Result (List Decl) Fault) → Fails e read → with_decls front read ≡ whole → Fails e whole
unfolding ◌>>=◌
failed stop.Memory front read whole f h = tt
failed (stop.Parse left) front read whole f h = sym h ∙ ap (with_decls front) f
failed (stop.Deep left) front read whole f h = sym h ∙ ap (with_decls front) f

bound_fails : {A : Type 0} (e : Stop) (r : Result A Fault) (f : A → Result (List Decl) Fault) → Fails e r → Fails e (r >>= f)
unfolding ◌>>=◌
bound_fails stop.Memory r f h = tt
bound_fails (stop.Parse left) r f h = ap (λ q. q >>= f) h
bound_fails (stop.Deep left) r f h = ap (λ q. q >>= f) h

one_before : (front : List Decl) (d : Decl) (more : Result (List Decl) Fault) → with_decls (front ++ d ∷ []) more ≡ with_decls front (more >>= λ ds. Ok (d ∷ ds))
unfolding ◌>>=◌
one_before front d (Ok ds) = ap Ok (append_assoc front (d ∷ []) ds)
one_before front d (Err e) = refl

none_left : (n most : ℕ) (rest : List Token) → length rest ≡ 0 → decls n most rest ≡ Ok []
unfolding decls
none_left n most [] e = refl
none_left n most (t ∷ ts) e = absurd (omega arith)

some_left : (n : ℕ) (rest : List Token) → 0 < length rest → decls n 0 rest ≡ Err (parse (length rest))
unfolding decls
some_left n [] h = absurd (omega arith)
some_left n (t ∷ ts) h = refl

one_more : (n most : ℕ) (rest : List Token) → 0 < length rest → decls n (suc most) rest ≡ (decl n rest >>= λ d. decls n most d.1 >>= λ ds. Ok (d.0 ∷ ds))
unfolding decls
one_more n most [] h = absurd (omega arith)
one_more n most (t ∷ ts) h = refl

step : (n turn end : ℕ) (rest : List Token) → turn < end → 0 < length rest →
    decls n (end - turn) rest ≡ (decl n rest >>= λ d. decls n (end - (turn + 1)) d.1 >>= λ ds. Ok (d.0 ∷ ds))
step n turn end rest lt h = ap (λ k. decls n k rest) (one_turn turn end lt) ∙ one_more n (end - (turn + 1)) rest h

module _ (n : ℕ) (front : List Decl) (whole : Result (List Decl) Fault) where
  pub decls_end : (most : ℕ) (rest : List Token) → length rest ≡ 0 → with_decls front (decls n most rest) ≡ whole → whole ≡ Ok front
  unfolding ◌>>=◌
  decls_end most rest e h = sym h ∙ ap (with_decls front) (none_left n most rest e) ∙ ap Ok (append-nil front)

  pub decls_left : (turn end : ℕ) (rest : List Token) → end - turn ≡ 0 → 0 < length rest → with_decls front (decls n (end - turn) rest) ≡ whole → whole ≡ Err (parse (length rest))
  unfolding ◌>>=◌
  decls_left turn end rest e l h = sym h ∙ ap (λ k. with_decls front (decls n k rest)) e ∙ ap (with_decls front) (some_left n rest l)

  pub decl_fails : (e : Stop) (turn end : ℕ) (rest : List Token) → turn < end → 0 < length rest → Fails e (decl n rest) → with_decls front (decls n (end - turn) rest) ≡ whole → Fails e whole
  decl_fails e turn end rest lt l f h = failed e front _ whole (subst (Fails e) (sym (step n turn end rest lt l)) (bound_fails e (decl n rest) _ f)) h

  pub decls_go_on : (turn end : ℕ) (rest : List Token) (d : Decl) (after : List Token) → turn < end → 0 < length rest → decl n rest ≡ Ok (d, after) →
      with_decls front (decls n (end - turn) rest) ≡ whole → with_decls (front ++ d ∷ []) (decls n (end - (turn + 1)) after) ≡ whole
  unfolding ◌>>=◌
  decls_go_on turn end rest d after lt l e h =
      one_before front d (decls n (end - (turn + 1)) after)
      ∙ sym (ap (with_decls front) (step n turn end rest lt l ∙ ap (λ r. r >>= λ x. decls n (end - (turn + 1)) x.1 >>= λ ds. Ok (x.0 ∷ ds)) e)) ∙ h

pub is_empty : (ts : List Token) → (length ts == 0) ≡ true → length ts ≡ 0
is_empty ts e = eqb-true (length ts) 0 e

pub not_empty : (ts : List Token) → (length ts == 0) ≡ false → 0 < length ts
not_empty ts e = let some = eqb-false (length ts) 0 e in omega arith
