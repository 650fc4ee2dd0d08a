-- With which tokens expressions begin.
use Rattle.std.proofs.Common.{◌≡◌, ℕ, zero, suc, Bool, true, false, List, [], ◌∷◌, Option, Some, None, refl, ap, ◌∙◌}
use Rattle.zl_lexer.specs.declared.token.Token.{Token}
use Rattle.zl_lexer.specs.declared.token.TokenKind.{TokenKind}
use Rattle.zl_lexer.specs.declared.token.TokenKind.TheVariants as kind
use Rattle.zl_lexer.specs.declared.token.Word.TheVariants as word
use Rattle.zl_lexer.specs.declared.token.Sign.TheVariants as sign
use Rattle.zl_value.specs.declared.position.Pos.{Pos}
use Rattle.zl_ast.specs.declared.name.Name.{Name}
use Rattle.zl_ast.specs.declared.operator.Infix.{Infix}
use Rattle.zl_ast.specs.declared.operator.Prefix.{Prefix}
use Rattle.zl_ast.specs.declared.expr.Expr.{Expr}
use Rattle.zl_ast.specs.Operators.{prefix}
use Rattle.zl_ast.specs.Phrases.{Phrase, Nothing, Takes, takes, Finds, finds, NotNext, IsName, ListOf}
use Rattle.zl_ast.specs.Phrases as phrases
use Rattle.zl_ast.specs.Expressions.{Level, IsAtom, PrefOf, TermOf, SumOf, CmpOf, ConjOf, DisjOf, ExprOf, IsExpr, IsPref}
use Rattle.zl_ast.specs.Expressions as e

abbrev pub starts_atom : TokenKind → Bool
starts_atom (kind.Name id) = true
starts_atom (kind.Int i) = true
starts_atom (kind.Float f) = true
starts_atom (kind.Word word.True) = true
starts_atom (kind.Word word.False) = true
starts_atom (kind.Word word.Last) = true
starts_atom (kind.Sign sign.Open) = true
starts_atom _ = false

abbrev pub starts_pref : TokenKind → Bool
starts_pref (kind.Sign sign.Minus) = true
starts_pref (kind.Sign sign.MinusDot) = true
starts_pref (kind.Word word.Not) = true
starts_pref (kind.Word word.Pre) = true
starts_pref k = starts_atom k

abbrev pub starts_expr : TokenKind → Bool
starts_expr (kind.Word word.If) = true
starts_expr k = starts_pref k

-- the first token is one of these
abbrev pub FirstIs : (TokenKind → Bool) → List Token → Type 0
FirstIs test [] = ⊥
FirstIs test (t ∷ ts) = test t.kind ≡ true

abbrev pub Begins : {A : Type 0} → (TokenKind → Bool) → Phrase A → Type 0
Begins {A = A} test X = (ts : List Token) (x : A) (rest : List Token) → X ts x rest → FirstIs test ts

pub first_taken : {k : TokenKind} {ts rest : List Token} {at : Pos} (test : TokenKind → Bool) → test k ≡ true → Takes k ts at rest → FirstIs test ts
first_taken test h (takes t e) = ap test e ∙ h

pub first_name : {ts rest : List Token} {x : Name} (test : TokenKind → Bool) → ((id : ℕ) → test (kind.Name id) ≡ true) → IsName ts x rest → FirstIs test ts
first_name test h (phrases.name id t) = first_taken test (h id) t

pub first_weaker : (p q : TokenKind → Bool) → ((k : TokenKind) → p k ≡ true → q k ≡ true) → (ts : List Token) → FirstIs p ts → FirstIs q ts
first_weaker p q h [] f = f
first_weaker p q h (t ∷ ts) f = h t.kind f

pub never_first : (test : TokenKind → Bool) (k : TokenKind) → test k ≡ false → (ts : List Token) → FirstIs test ts → NotNext k ts
never_first test k h [] f = tt
never_first test k h (t ∷ ts) f = λ e. let g = ap test e in cc

pub begins_list : {A : Type 0} (test : TokenKind → Bool) (X : Phrase A) → Begins test X → (k : TokenKind) → Begins test (ListOf k X)
begins_list test X b k _ _ _ (phrases.last h _) = b _ _ _ h
begins_list test X b k _ _ _ (phrases.more h _ _) = b _ _ _ h

atom_is_pref : (k : TokenKind) → starts_atom k ≡ true → starts_pref k ≡ true
atom_is_pref (kind.Sign sign.Minus) e = refl
atom_is_pref (kind.Sign sign.MinusDot) e = refl
atom_is_pref (kind.Word word.Not) e = refl
atom_is_pref (kind.Word word.Pre) e = refl
atom_is_pref k e = e

pref_is_expr : (k : TokenKind) → starts_pref k ≡ true → starts_expr k ≡ true
pref_is_expr (kind.Word word.If) e = refl
pref_is_expr k e = e

pub atom_no_prefix : (k : TokenKind) → starts_atom k ≡ true → prefix k ≡ None
atom_no_prefix (kind.Sign sign.Minus) e = cc
atom_no_prefix (kind.Sign sign.MinusDot) e = cc
atom_no_prefix (kind.Word word.Not) e = cc
atom_no_prefix (kind.Word word.Pre) e = cc
atom_no_prefix k e = refl

prefix_starts : (k : TokenKind) (op : Prefix) → prefix k ≡ Some op → starts_pref k ≡ true
prefix_starts (kind.Sign sign.Minus) op e = refl
prefix_starts (kind.Sign sign.MinusDot) op e = refl
prefix_starts (kind.Word word.Not) op e = refl
prefix_starts (kind.Word word.Pre) op e = refl
prefix_starts k op e = cc

first_prefix : {ts rest : List Token} {op : Prefix} {at : Pos} → Finds prefix ts op at rest → FirstIs starts_pref ts
first_prefix (finds t op e) = prefix_starts t.kind op e

pub begins_atom : (Inside : Phrase Expr) (n : ℕ) → Begins starts_atom (IsAtom Inside n)
begins_atom Inside n _ _ _ (e.int i h) = first_taken starts_atom refl h
begins_atom Inside n _ _ _ (e.float f h) = first_taken starts_atom refl h
begins_atom Inside n _ _ _ (e.is_true h) = first_taken starts_atom refl h
begins_atom Inside n _ _ _ (e.is_false h) = first_taken starts_atom refl h
begins_atom Inside n _ _ _ (e.var h _) = first_name starts_atom (λ id. refl) h
begins_atom Inside n _ _ _ (e.call h _ _) = first_name starts_atom (λ id. refl) h
begins_atom Inside n _ _ _ (e.last_of h _) = first_taken starts_atom refl h
begins_atom Inside n _ _ _ (e.parens h _ _) = first_taken starts_atom refl h

begins_pref : (Inside Operand : Phrase Expr) (n : ℕ) → Begins starts_pref (PrefOf Inside Operand n)
begins_pref Inside Operand n _ _ _ (e.negative f m h) = first_taken starts_pref refl m
begins_pref Inside Operand n _ _ _ (e.prefixed o _ _) = first_prefix o
begins_pref Inside Operand n _ _ _ (e.atom h) = first_weaker starts_atom starts_pref atom_is_pref _ (begins_atom Inside n _ _ _ h)

begins_level : (op : TokenKind → Option Infix) (Part : Phrase Expr) → Begins starts_pref Part → Begins starts_pref (Level op Part)
begins_level op Part b _ _ _ (e.level h _) = b _ _ _ h

begins_sum : (Inside Operand : Phrase Expr) (n : ℕ) → Begins starts_pref (SumOf Inside Operand n)
begins_sum Inside Operand n = begins_level _ _ (begins_level _ _ (begins_pref Inside Operand n))

begins_cmp : (Inside Operand : Phrase Expr) (n : ℕ) → Begins starts_pref (CmpOf Inside Operand n)
begins_cmp Inside Operand n _ _ _ (e.alone h _) = begins_sum Inside Operand n _ _ _ h
begins_cmp Inside Operand n _ _ _ (e.compared h _ _) = begins_sum Inside Operand n _ _ _ h

pub begins_disj : (Inside Operand : Phrase Expr) (n : ℕ) → Begins starts_pref (DisjOf Inside Operand n)
begins_disj Inside Operand n = begins_level _ _ (begins_level _ _ (begins_cmp Inside Operand n))

begins_expr_of : (Inside Operand : Phrase Expr) (n : ℕ) → Begins starts_expr (ExprOf Inside Operand n)
begins_expr_of Inside Operand n _ _ _ (e.choice i _ _ _ _ _) = first_taken starts_expr refl i
begins_expr_of Inside Operand n _ _ _ (e.plain h _) = first_weaker starts_pref starts_expr pref_is_expr _ (begins_disj Inside Operand n _ _ _ h)
begins_expr_of Inside Operand n _ _ _ (e.flow {n = m} h _ _) = first_weaker starts_pref starts_expr pref_is_expr _ (begins_disj Inside Operand (suc m) _ _ _ h)

pub begins_expr : (n : ℕ) → Begins starts_expr (IsExpr n)
unfolding IsExpr
begins_expr zero = begins_expr_of Nothing Nothing zero
begins_expr (suc n) = begins_expr_of (IsExpr n) (IsPref n) (suc n)
