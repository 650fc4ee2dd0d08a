-- Where reading stops at a token, no program goes on from there.
use Rattle.std.proofs.Common.{◌≡◌, ℕ, zero, suc, ◌<◌, ◌-◌, List, [], ◌∷◌, ◌++◌, length, take, drop, Result, Ok, Err, arith, refl, ap, subst}
use Rattle.zl_lexer.specs.declared.token.Token.{Token}
use Rattle.zl_ast.specs.declared.program.Decl.{Decl}
use Rattle.zl_ast.specs.Reading.{Fault, parse, deep}
use Rattle.zl_ast.specs.ReadingDeclarations.{read_program}
use Rattle.zl_ast.specs.GoesOn.{NoneGoesOn, NoneGoesOnWithin}
use Rattle.zl_ast.proofs.LocalPrograms.{LocalEnd, stops_alike, stops_deep, ends, ReachedEnd, end_ok, end_parse, end_deep, program_local}
use Rattle.zl_ast.proofs.TreeLaws.{reading_is_exact, no_tree_at_any_depth}

halves : (k : ℕ) (ts : List Token) → take k ts ++ drop k ts ≡ ts
halves zero ts = refl
halves (suc k) [] = refl
halves (suc k) (t ∷ ts) = ap (λ us. t ∷ us) (halves k ts)

dropped : (k : ℕ) (ts : List Token) → length (drop k ts) ≡ length ts - k
dropped zero ts = omega arith
dropped (suc k) [] = omega arith
dropped (suc k) (t ∷ ts) = let e = dropped k ts in omega arith

reached_parse : {A : Type 0} (n left : ℕ) {r : Result A Fault} → ReachedEnd n r → r ≡ Err (parse left) → n < left → ⊥
reached_parse n left (end_ok x) e lt = cc
reached_parse n left (end_parse k le) e lt = let q : k ≡ left = cc in absurd (omega arith)
reached_parse n left (end_deep k le) e lt = cc

reached_deep : {A : Type 0} (n left : ℕ) {r : Result A Fault} → ReachedEnd n r → r ≡ Err (deep left) → suc n < left → ⊥
reached_deep n left (end_ok x) e lt = cc
reached_deep n left (end_parse k le) e lt = cc
reached_deep n left (end_deep k le) e lt = let q : k ≡ left = cc in absurd (omega arith)

parse_again : {A : Type 0} (all us vs : List Token) (left : ℕ) {r s : Result A Fault} → LocalEnd all us vs r s → r ≡ Err (parse left) → length us < left → (k : ℕ) × (s ≡ Err (parse k))
parse_again all us vs left (stops_alike t f h) e lt = (suc (length (f ++ vs)), refl)
parse_again all us vs left (stops_deep t u f h) e lt = absurd cc
parse_again all us vs left (ends h) e lt = absurd (reached_parse (length us) left h e lt)

deep_again : {A : Type 0} (all us vs : List Token) (left : ℕ) {r s : Result A Fault} → LocalEnd all us vs r s → r ≡ Err (deep left) → suc (length us) < left → (k : ℕ) × (s ≡ Err (deep k))
deep_again all us vs left (stops_alike t f h) e lt = absurd cc
deep_again all us vs left (stops_deep t u f h) e lt = (suc (suc (length (f ++ vs))), refl)
deep_again all us vs left (ends h) e lt = absurd (reached_deep (length us) left h e lt)

not_both : (r : Result (List Decl) Fault) (ds : List Decl) (f : Fault) → r ≡ Ok ds → r ≡ Err f → ⊥
not_both r ds f p q = cc

-- reading of the first tokens with others behind them
again : (n k : ℕ) (ts more : List Token) → LocalEnd (take k ts) (drop k ts) more (read_program n ts) (read_program n (take k ts ++ more))
again n k ts more =
    subst (λ us. LocalEnd (take k ts) (drop k ts) more (read_program n us) (read_program n (take k ts ++ more))) (halves k ts) (program_local n (drop k ts) more (take k ts))

pub none_goes_on : NoneGoesOn
none_goes_on n left ts e one b =
    let k = suc (length ts - left) in
    let more = b.within.more in
    let d = dropped k ts in
    let stop = parse_again (take k ts) (drop k ts) more left (again n k ts more) e (omega arith) in
    no_tree_at_any_depth n stop.0 (take k ts ++ more) stop.1 b.depth b.within.decls b.within.is_program

pub none_goes_on_within : NoneGoesOnWithin
none_goes_on_within n left ts e two b =
    let k = suc (suc (length ts - left)) in
    let d = dropped k ts in
    let stop = deep_again (take k ts) (drop k ts) b.more left (again n k ts b.more) e (omega arith) in
    not_both (read_program n (take k ts ++ b.more)) b.decls (deep stop.0) ((reading_is_exact n (take k ts ++ b.more) b.decls).1 b.is_program) stop.1
