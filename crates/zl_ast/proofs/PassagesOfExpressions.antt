-- What expressions keep of their tokens.
use Rattle.std.proofs.Common.{◌≡◌, ℕ, zero, suc, List, [], ◌∷◌, ◌++◌, Option, None, refl, sym}
use Rattle.zl_lexer.specs.declared.token.Token.{Token}
use Rattle.zl_lexer.specs.declared.token.TokenKind.{TokenKind}
use Rattle.zl_lexer.specs.declared.token.TokenKind.TheVariants as kind
use Rattle.zl_ast.specs.declared.operator.Infix.{Infix}
use Rattle.zl_ast.specs.declared.expr.Expr.{Expr}
use Rattle.zl_ast.specs.declared.expr.Link.{Link}
use Rattle.zl_ast.specs.Phrases.{Phrase, Nothing}
use Rattle.zl_ast.specs.Expressions.{link, chained, Links, Level, IsAtom, PrefOf, TermOf, SumOf, CmpOf, ConjOf, DisjOf, ExprOf, IsExpr, IsPref}
use Rattle.zl_ast.specs.Expressions as e
use Rattle.zl_ast.specs.Spots as spots
use Rattle.zl_ast.specs.Spots.{Spot, expr_spots, link_spots, joined, all_spots}
use Rattle.zl_ast.proofs.Passages.{Passage, here, ◌▸◌, moved, Within, skipped, placed, found, a_name, up_to_close, append_none}
use Rattle.zl_ast.proofs.SpotsOf.{spots-Lit, spots-Var, spots-Last, spots-Call, spots-Prefix, spots-Chain, spots-Flow, spots-If, spots-link}

pub nothing_within : {A : Type 0} (s : A → List Spot) → Within s Nothing
nothing_within s ts x us h = elim h [ ]

abbrev pub NoNames : {A : Type 0} → (TokenKind → Option A) → Type 0
NoNames table = (id : ℕ) → table (kind.Name id) ≡ None

pub links_within : {operator : TokenKind → Option Infix} {Part : Phrase Expr} → NoNames operator → Within expr_spots Part →
    (ts : List Token) (ls : List Link) (us : List Token) → Links operator Part ts ls us → Passage (all_spots link_spots ls) ts us
links_within n w _ _ _ (e.none {ts = ts} _) = here ts
links_within n w _ _ _ (e.some {op = op} {at = at} {x = x} o h ls) =
    moved (sym (spots-link op at x)) (found spots.occurrence n o ▸ w _ _ _ h) ▸ links_within n w _ _ _ ls

chained_spots : (x : Expr) (ls : List Link) → expr_spots x ++ all_spots link_spots ls ≡ expr_spots (chained x ls)
chained_spots x [] = append_none (expr_spots x)
chained_spots x (l ∷ ls) = sym (spots-Chain x (l ∷ ls))

pub level_within : {operator : TokenKind → Option Infix} {Part : Phrase Expr} → NoNames operator → Within expr_spots Part → Within expr_spots (Level operator Part)
level_within n w _ _ _ (e.level {x = x} {ls = ls} h hs) = moved (chained_spots x ls) (w _ _ _ h ▸ links_within n w _ _ _ hs)

module _ (Inside : Phrase Expr) (within : Within expr_spots Inside) where
  pub atom_within : (n : ℕ) → Within expr_spots (IsAtom Inside n)
  atom_within n _ _ _ (e.int i h) = moved (sym (spots-Lit _ _)) (placed spots.occurrence refl h)
  atom_within n _ _ _ (e.float f h) = moved (sym (spots-Lit _ _)) (placed spots.occurrence refl h)
  atom_within n _ _ _ (e.is_true h) = moved (sym (spots-Lit _ _)) (placed spots.occurrence refl h)
  atom_within n _ _ _ (e.is_false h) = moved (sym (spots-Lit _ _)) (placed spots.occurrence refl h)
  atom_within n _ _ _ (e.var h _) = moved (sym (spots-Var _)) (a_name spots.occurrence h)
  atom_within n _ _ _ (e.call h o hs) = moved (sym (spots-Call _ _)) (a_name spots.occurrence h ▸ (skipped o ▸ up_to_close expr_spots within _ _ _ hs))
  atom_within n _ _ _ (e.last_of h k) = moved (sym (spots-Last _ _)) (placed spots.occurrence refl h ▸ a_name spots.bare_name k)
  atom_within n _ _ _ (e.parens o h c) = skipped o ▸ moved (append_none _) (within _ _ _ h ▸ skipped c)

  module _ (Operand : Phrase Expr) (operand : Within expr_spots Operand) where
    pub pref_within : (n : ℕ) → Within expr_spots (PrefOf Inside Operand n)
    pref_within n _ _ _ (e.negative f m h) = moved (sym (spots-Lit _ _)) (placed spots.occurrence refl m ▸ skipped h)
    pref_within n _ _ _ (e.prefixed o _ h) = moved (sym (spots-Prefix _ _ _)) (found spots.occurrence (λ id. refl) o ▸ operand _ _ _ h)
    pref_within n _ _ _ (e.atom h) = atom_within n _ _ _ h

    pub sum_within : (n : ℕ) → Within expr_spots (SumOf Inside Operand n)
    sum_within n = level_within (λ id. refl) (level_within (λ id. refl) (pref_within n))

    pub cmp_within : (n : ℕ) → Within expr_spots (CmpOf Inside Operand n)
    cmp_within n _ _ _ (e.alone h _) = sum_within n _ _ _ h
    cmp_within n _ _ _ (e.compared {x = x} {y = y} {op = op} {at = at} h o k) =
        moved (sym (spots-Chain x (link op at y ∷ [])))
        (sum_within n _ _ _ h ▸ moved (sym (append_none _)) (moved (sym (spots-link op at y)) (found spots.occurrence (λ id. refl) o ▸ sum_within n _ _ _ k)))

    pub disj_within : (n : ℕ) → Within expr_spots (DisjOf Inside Operand n)
    disj_within n = level_within (λ id. refl) (level_within (λ id. refl) (cmp_within n))

    pub expr_of_within : (n : ℕ) → Within expr_spots (ExprOf Inside Operand n)
    expr_of_within n _ _ _ (e.choice i c a x b y) =
        moved (sym (spots-If _ _ _ _)) (placed spots.occurrence refl i ▸ (within _ _ _ c ▸ (skipped a ▸ (within _ _ _ x ▸ (skipped b ▸ within _ _ _ y)))))
    expr_of_within n _ _ _ (e.plain h _) = disj_within n _ _ _ h
    expr_of_within n _ _ _ (e.flow {n = m} h o k) = moved (sym (spots-Flow _ _ _ _)) (disj_within (suc m) _ _ _ h ▸ (found spots.occurrence (λ id. refl) o ▸ within _ _ _ k))

mutual
  unfolding IsExpr

  pub expr_within : (n : ℕ) → Within expr_spots (IsExpr n)
  expr_within zero = expr_of_within Nothing (nothing_within expr_spots) Nothing (nothing_within expr_spots) zero
  expr_within (suc n) = expr_of_within (IsExpr n) (expr_within n) (IsPref n) (pref_of_within n) (suc n)

  pub pref_of_within : (n : ℕ) → Within expr_spots (IsPref n)
  pref_of_within zero = pref_within Nothing (nothing_within expr_spots) Nothing (nothing_within expr_spots) zero
  pref_of_within (suc n) = pref_within (IsExpr n) (expr_within n) (IsPref n) (pref_of_within n) (suc n)
