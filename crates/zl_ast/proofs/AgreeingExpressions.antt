-- The reading of expressions agrees with their grammar.
use Rattle.std.proofs.Common.{◌≡◌, ℕ, zero, suc, ◌≤◌, Bool, true, false, List, [], ◌∷◌, length, drop, Option, Some, None, Ok, arith, refl, ap, ◌∙◌}
use Rattle.zl_lexer.specs.declared.token.Token.{Token}
use Rattle.zl_lexer.specs.declared.token.TokenKind.{TokenKind}
use Rattle.zl_lexer.specs.declared.token.TokenKind.TheVariants as kind
use Rattle.zl_lexer.specs.declared.token.Word.TheVariants as word
use Rattle.zl_lexer.specs.declared.token.Sign.TheVariants as sign
use Rattle.zl_value.specs.declared.position.Pos.{Pos}
use Rattle.zl_value.specs.declared.value.Value.TheVariants as value
use Rattle.zl_value.specs.Fraction.{Fraction, neg}
use Rattle.zl_ast.specs.declared.name.Name.{Name}
use Rattle.zl_ast.specs.declared.operator.Infix.{Infix}
use Rattle.zl_ast.specs.declared.operator.Prefix.{Prefix}
use Rattle.zl_ast.specs.declared.operator.Prefix.TheVariants as pre
use Rattle.zl_ast.specs.declared.operator.FlowOp.{FlowOp}
use Rattle.zl_ast.specs.declared.expr.Expr.{Expr}
use Rattle.zl_ast.specs.declared.expr.Expr.TheVariants as tree
use Rattle.zl_ast.specs.declared.expr.Link.{Link}
use Rattle.zl_ast.specs.Operators.{disjunction, conjunction, comparison, addition, multiplication, flow_operator, prefix}
use Rattle.zl_ast.specs.Phrases.{Phrase, Nothing, Takes, takes, NotNext, Finds, finds, NoneNext, IsName, ListOf, ToClose}
use Rattle.zl_ast.specs.Phrases as phrases
use Rattle.zl_ast.specs.Expressions.{link, chained, Links, Level, IsAtom, FloatNext, PrefOf, TermOf, SumOf, CmpOf, ConjOf, DisjOf, ExprOf, IsExpr, IsPref}
use Rattle.zl_ast.specs.Expressions as e
use Rattle.zl_ast.specs.Reading.{Reader, ◌>>=◌, nothing, next_is, next_in, take, inside, to_close}
use Rattle.zl_ast.specs.ReadingExpressions.{name_or_call, atom_at, atom, float_of, negated, operand_at, pref_at, pref, links_at, links, level, sum, cmp_at, cmp, disj, flow_at, expr_at, expr_of, read_expr, read_pref}
use Rattle.zl_ast.specs.Spots.{Spot, expr_spots}
use Rattle.zl_ast.proofs.Passages.{Within, no_longer}
use Rattle.zl_ast.proofs.PassagesOfExpressions.{NoNames, nothing_within, level_within, pref_within, cmp_within, expr_within, pref_of_within}
use Rattle.zl_ast.proofs.FirstTokens.{FirstIs, starts_pref, starts_expr, starts_atom, never_first, atom_no_prefix, begins_atom, begins_disj, begins_expr}
use Rattle.zl_ast.proofs.Readers.{Only, is, fault, ◌then◌, ◌then_is◌, gives, Sound, Complete, Shrinks, Agrees, nothing_agrees, take_sound, take_complete, next_true, next_false, not_next, none_next, next_none, next_some, find_sound, find_complete, name_sound, name_complete, none_inside, inside_sound, inside_complete, NeverFirst, to_close_agrees}

pub shrinks_of : {A : Type 0} (s : A → List Spot) (X : Phrase A) → Within s X → Shrinks X
shrinks_of s X w ts x rest h = no_longer (w ts x rest h)

module _ (Inside : Phrase Expr) (expr : Reader Expr) (agrees : Agrees Inside expr) (within : Within expr_spots Inside) (never : NeverFirst (kind.Sign sign.Close) Inside) where
  args_agree : Agrees (ToClose Inside) (to_close expr)
  args_agree = to_close_agrees Inside expr agrees (shrinks_of expr_spots Inside within) never

  name_or_call_sound : (n : ℕ) (b : Bool) (f : Name) (ts us : List Token) → IsName ts f us → next_is (kind.Sign sign.Open) us ≡ b →
      Only (λ y. IsAtom Inside n ts y.0 y.1) (name_or_call b n expr f us)
  name_or_call_sound n false f ts us h eq = is (e.var h (not_next (kind.Sign sign.Open) us tt eq))
  name_or_call_sound zero true f ts us h eq = take_sound (kind.Sign sign.Open) tt us then λ o ho. none_inside _ (to_close expr) o.1
  name_or_call_sound (suc n) true f ts us h eq =
      take_sound (kind.Sign sign.Open) tt us then λ o ho. inside_sound n (to_close expr) o.1 (args_agree.sound o.1) then λ xs hxs. is (e.call h ho hxs)

  parens_sound : (n : ℕ) (at : Pos) (ts us : List Token) → Takes (kind.Sign sign.Open) ts at us →
      Only (λ (y : Expr × List Token). IsAtom Inside n ts y.0 y.1) (inside n expr us >>= λ x. take (kind.Sign sign.Close) x.1 >>= λ c. Ok (x.0, c.1))
  parens_sound zero at ts us o = none_inside _ expr us
  parens_sound (suc n) at ts us o =
      inside_sound n expr us (agrees.sound us) then λ x hx. take_sound (kind.Sign sign.Close) tt x.1 then λ c hc. is (e.parens o hx hc)

  atom_at_sound : (n : ℕ) (t : Token) (ts : List Token) (k : TokenKind) → t.kind ≡ k → Only (λ y. IsAtom Inside n (t ∷ ts) y.0 y.1) (atom_at n expr t.at ts k)
  unfolding atom_at
  atom_at_sound n t ts (kind.Int i) h = is (e.int i (takes t h))
  atom_at_sound n t ts (kind.Float f) h = is (e.float f (takes t h))
  atom_at_sound n t ts (kind.Word word.True) h = is (e.is_true (takes t h))
  atom_at_sound n t ts (kind.Word word.False) h = is (e.is_false (takes t h))
  atom_at_sound n t ts (kind.Name id) h =
      name_or_call_sound n (next_is (kind.Sign sign.Open) ts) (record { id = id; at = t.at }) (t ∷ ts) ts (phrases.name id (takes t h)) refl
  atom_at_sound n t ts (kind.Word word.Last) h = name_sound ts then λ x hx. is (e.last_of (takes t h) hx)
  atom_at_sound n t ts (kind.Sign sign.Open) h = parens_sound n t.at (t ∷ ts) ts (takes t h)
  atom_at_sound n t ts _ h = fault

  atom_sound : (n : ℕ) → Sound (IsAtom Inside n) (atom n expr)
  unfolding atom
  atom_sound n [] = fault
  atom_sound n (t ∷ ts) = atom_at_sound n t ts t.kind refl

  atom_first : (n : ℕ) {k : TokenKind} {ts rest : List Token} {at : Pos} → Takes k ts at rest → atom n expr ts ≡ atom_at n expr at rest k
  unfolding atom
  atom_first n (takes t {ts = ts} h) = ap (atom_at n expr t.at ts) h

  atom_name : (n : ℕ) {ts rest : List Token} {f : Name} → IsName ts f rest → atom n expr ts ≡ name_or_call (next_is (kind.Sign sign.Open) rest) n expr f rest
  unfolding atom_at
  atom_name n (phrases.name id h) = atom_first n h

  atom_complete : (n : ℕ) → Complete (IsAtom Inside n) (atom n expr)
  unfolding atom_at
  atom_complete n _ _ _ (e.int i h) = atom_first n h
  atom_complete n _ _ _ (e.float f h) = atom_first n h
  atom_complete n _ _ _ (e.is_true h) = atom_first n h
  atom_complete n _ _ _ (e.is_false h) = atom_first n h
  atom_complete n _ x rest (e.var {x = f} h closed) = atom_name n h ∙ ap (λ b. name_or_call b n expr f rest) (next_false (kind.Sign sign.Open) rest tt closed)
  atom_complete _ _ _ _ (e.call {n = m} {us = us} {f = f} h o hs) =
      atom_name (suc m) h ∙ (ap (λ b. name_or_call b (suc m) expr f us) (next_true tt o) ∙
      gives _ (take_complete tt o) (gives _ (inside_complete m (to_close expr) _ (args_agree.complete _ _ _ hs)) refl))
  atom_complete n _ _ _ (e.last_of h k) = atom_first n h ∙ gives _ (name_complete _ _ _ k) refl
  atom_complete _ _ _ _ (e.parens {n = m} o h c) =
      atom_first (suc m) o ∙ gives _ (inside_complete m expr _ (agrees.complete _ _ _ h)) (gives _ (take_complete tt c) refl)

  module _ (Operand : Phrase Expr) (operand : Reader Expr) (operand_agrees : Agrees Operand operand) (operand_within : Within expr_spots Operand) where
    -- ---- prefixes

    is_minus : (k : TokenKind) → prefix k ≡ Some pre.Minus → k ≡ kind.Sign sign.Minus
    is_minus (kind.Sign sign.Minus) h = refl
    is_minus (kind.Sign sign.MinusDot) h = cc
    is_minus (kind.Word word.Not) h = cc
    is_minus (kind.Word word.Pre) h = cc
    is_minus _ h = cc

    is_float : (k : TokenKind) (f : Fraction) → float_of k ≡ Some f → k ≡ kind.Float f
    is_float (kind.Float g) f h = let eq : g ≡ f = cc in ap kind.Float eq
    is_float _ f h = cc

    float_next : (f : Fraction) (ts : List Token) → next_in float_of ts ≡ Some f → (to : Pos) × Takes (kind.Float f) ts to (drop 1 ts)
    unfolding next_in
    float_next f [] h = cc
    float_next f (t ∷ ts) h = (t.at, takes t (is_float t.kind f h))

    no_float : (ts : List Token) → next_in float_of ts ≡ None → FloatNext ts → ⊥
    unfolding next_in
    no_float [] h f = f
    no_float (t ∷ ts) h f = let g = ap float_of f.1 in cc

    float_none : (ts : List Token) → (FloatNext ts → ⊥) → next_in float_of ts ≡ None
    unfolding next_in
    float_none [] h = refl
    float_none (t ∷ ts) h = go (float_of t.kind) refl
      where
        go : (o : Option Fraction) → float_of t.kind ≡ o → float_of t.kind ≡ None
        go None q = q
        go (Some f) q = absurd (h (f, is_float t.kind f q))

    negated_none : (op : Prefix) (ts : List Token) → (op ≡ pre.Minus → FloatNext ts → ⊥) → negated op ts ≡ None
    negated_none pre.Minus ts h = float_none ts (h refl)
    negated_none pre.MinusDot ts h = refl
    negated_none pre.Not ts h = refl
    negated_none pre.Pre ts h = refl

    none_negated : (op : Prefix) (ts : List Token) → negated op ts ≡ None → op ≡ pre.Minus → FloatNext ts → ⊥
    none_negated pre.Minus ts h q f = no_float ts h f
    none_negated pre.MinusDot ts h q f = cc
    none_negated pre.Not ts h q f = cc
    none_negated pre.Pre ts h q f = cc

    prefixed_sound : (n : ℕ) (op : Prefix) (t : Token) (ts : List Token) → prefix t.kind ≡ Some op → negated op ts ≡ None →
        Only (λ y. PrefOf Inside Operand n (t ∷ ts) y.0 y.1) (operand_at n operand op t.at ts None)
    prefixed_sound zero op t ts h plain = none_inside _ operand ts
    prefixed_sound (suc n) op t ts h plain =
        inside_sound n operand ts (operand_agrees.sound ts) then λ x hx. is (e.prefixed (finds t op h) (none_negated op ts plain) hx)

    negative_sound : (n : ℕ) (op : Prefix) (t : Token) (ts : List Token) (f : Fraction) → prefix t.kind ≡ Some op → negated op ts ≡ Some f →
        Only (λ y. PrefOf Inside Operand n (t ∷ ts) y.0 y.1) (operand_at n operand op t.at ts (Some f))
    negative_sound n pre.Minus t ts f h neg_is = let g = float_next f ts neg_is in is (e.negative f (takes t (is_minus t.kind h)) g.1)
    negative_sound n pre.MinusDot t ts f h neg_is = cc
    negative_sound n pre.Not t ts f h neg_is = cc
    negative_sound n pre.Pre t ts f h neg_is = cc

    operand_at_sound : (n : ℕ) (op : Prefix) (t : Token) (ts : List Token) → prefix t.kind ≡ Some op → (o : Option Fraction) → negated op ts ≡ o →
        Only (λ y. PrefOf Inside Operand n (t ∷ ts) y.0 y.1) (operand_at n operand op t.at ts o)
    operand_at_sound n op t ts h None q = prefixed_sound n op t ts h q
    operand_at_sound n op t ts h (Some f) q = negative_sound n op t ts f h q

    pref_at_sound : (n : ℕ) (t : Token) (ts : List Token) (o : Option Prefix) → prefix t.kind ≡ o → Only (λ y. PrefOf Inside Operand n (t ∷ ts) y.0 y.1) (pref_at n expr operand t ts o)
    pref_at_sound n t ts None h = atom_sound n (t ∷ ts) then_is λ x hx. e.atom hx
    pref_at_sound n t ts (Some op) h = operand_at_sound n op t ts h (negated op ts) refl

    pref_sound : (n : ℕ) → Sound (PrefOf Inside Operand n) (pref n expr operand)
    unfolding pref
    pref_sound n [] = fault
    pref_sound n (t ∷ ts) = pref_at_sound n t ts (prefix t.kind) refl

    pref_first : (n : ℕ) {ts rest : List Token} {op : Prefix} {at : Pos} → Finds prefix ts op at rest → pref n expr operand ts ≡ operand_at n operand op at rest (negated op rest)
    unfolding pref
    pref_first n (finds t {ts = ts} op h) = ap (pref_at n expr operand t ts) h

    minus_found : {ts rest : List Token} {at : Pos} → Takes (kind.Sign sign.Minus) ts at rest → Finds prefix ts pre.Minus at rest
    minus_found (takes t h) = finds t pre.Minus (ap prefix h)

    next_float : {ts rest : List Token} {f : Fraction} {to : Pos} → Takes (kind.Float f) ts to rest → (next_in float_of ts ≡ Some f) × (drop 1 ts ≡ rest)
    unfolding next_in
    next_float (takes t h) = (ap float_of h, refl)

    pref_atom : (n : ℕ) (ts : List Token) → FirstIs starts_atom ts → pref n expr operand ts ≡ atom n expr ts
    unfolding pref
    pref_atom n [] h = absurd h
    pref_atom n (t ∷ ts) h = ap (pref_at n expr operand t ts) (atom_no_prefix t.kind h)

    pref_complete : (n : ℕ) → Complete (PrefOf Inside Operand n) (pref n expr operand)
    pref_complete n _ _ _ (e.negative {us = us} {at = at} f m h) =
        let g = next_float h in
        pref_first n (minus_found m) ∙ (ap (operand_at n operand pre.Minus at us) g.0 ∙ ap (λ vs. Ok (tree.Lit (value.F (neg f)) at, vs)) g.1)
    pref_complete _ _ _ _ (e.prefixed {n = m} {us = us} {at = at} {op = op} o plain h) =
        pref_first (suc m) o ∙ (ap (operand_at (suc m) operand op at us) (negated_none op us plain) ∙
        gives _ (inside_complete m operand us (operand_agrees.complete _ _ _ h)) refl)
    pref_complete n ts x rest (e.atom h) = pref_atom n ts (begins_atom Inside n ts x rest h) ∙ atom_complete n ts x rest h

    pub pref_agrees : (n : ℕ) → Agrees (PrefOf Inside Operand n) (pref n expr operand)
    pref_agrees n = record { sound = pref_sound n; complete = pref_complete n }

-- ---- levels of operators

module _ (operator : TokenKind → Option Infix) (none_named : NoNames operator) (Part : Phrase Expr) (part : Reader Expr) (agrees : Agrees Part part) (within : Within expr_spots Part) where
  links_at_sound : (most : ℕ) (t : Token) (ts : List Token) → length ts ≤ most → (o : Option Infix) → operator t.kind ≡ o →
      ((vs : List Token) → length vs ≤ most → Only (λ y. Links operator Part vs y.0 y.1) (links operator part most vs)) →
      Only (λ y. Links operator Part (t ∷ ts) y.0 y.1) (links_at o part (links operator part most) t ts)
  links_at_sound most t ts le None h again = is (e.none h)
  links_at_sound most t ts le (Some op) h again =
      agrees.sound ts then λ x hx. again x.1 (let s = no_longer (within _ _ _ hx) in omega arith) then λ ls hls. is (e.some (finds t op h) hx hls)

  links_sound : (most : ℕ) (ts : List Token) → length ts ≤ most → Only (λ y. Links operator Part ts y.0 y.1) (links operator part most ts)
  unfolding links
  links_sound zero [] le = is (e.none tt)
  links_sound zero (t ∷ ts) le = absurd (omega arith)
  links_sound (suc most) [] le = is (e.none tt)
  links_sound (suc most) (t ∷ ts) le = links_at_sound most t ts (omega arith) (operator t.kind) refl (λ vs lv. links_sound most vs lv)

  found_less : {A : Type 0} {table : TokenKind → Option A} {ts rest : List Token} {a : A} {at : Pos} → Finds table ts a at rest → suc (length rest) ≤ length ts
  found_less (finds t a h) = omega arith

  links_none : (most : ℕ) (ts : List Token) → NoneNext operator ts → links operator part most ts ≡ Ok ([], ts)
  unfolding links
  links_none zero ts h = refl
  links_none (suc most) [] h = refl
  links_none (suc most) (t ∷ ts) h = ap (λ o. links_at o part (links operator part most) t ts) h

  links_step : (most : ℕ) {ts us vs rest : List Token} {op : Infix} {at : Pos} {x : Expr} {ls : List Link} → Finds operator ts op at us → part us ≡ Ok (x, vs) →
      links operator part most vs ≡ Ok (ls, rest) → links operator part (suc most) ts ≡ Ok (link op at x ∷ ls, rest)
  unfolding links
  links_step most (finds t {ts = ts} op h) hx again = ap (λ o. links_at o part (links operator part most) t ts) h ∙ gives _ hx (gives _ again refl)

  links_complete : (most : ℕ) (ts : List Token) (ls : List Link) (rest : List Token) → Links operator Part ts ls rest → length ts ≤ most →
      links operator part most ts ≡ Ok (ls, rest)
  links_complete most _ _ _ (e.none {ts = ts} h) le = links_none most ts h
  links_complete zero _ _ _ (e.some o h hs) le = absurd (let a = found_less o in omega arith)
  links_complete (suc most) _ _ _ (e.some o h hs) le =
      let a = found_less o in
      let b = no_longer (within _ _ _ h) in
      links_step most o (agrees.complete _ _ _ h) (links_complete most _ _ _ hs (omega arith))

  level_complete : Complete (Level operator Part) (level operator part)
  unfolding level
  level_complete _ _ _ (e.level {us = us} h hs) = gives _ (agrees.complete _ _ _ h) (gives _ (links_complete (length us) _ _ _ hs (omega arith)) refl)

  pub level_agrees : Agrees (Level operator Part) (level operator part)
  unfolding level
  level_agrees = record {
    sound = λ ts. agrees.sound ts then λ x hx. links_sound (length x.1) x.1 (omega arith) then λ ls hls. is (e.level hx hls);
    complete = level_complete;
  }

-- ---- whole expressions

module _ (Inside : Phrase Expr) (expr : Reader Expr) (agrees : Agrees Inside expr) (within : Within expr_spots Inside) (never : NeverFirst (kind.Sign sign.Close) Inside)
    (Operand : Phrase Expr) (operand : Reader Expr) (operand_agrees : Agrees Operand operand) (operand_within : Within expr_spots Operand) where
  term_agrees : (n : ℕ) → Agrees (TermOf Inside Operand n) (level multiplication (pref n expr operand))
  term_agrees n =
      level_agrees multiplication (λ id. refl) _ _ (pref_agrees Inside expr agrees within never Operand operand operand_agrees operand_within n) (pref_within Inside within Operand operand_within n)

  sum_agrees : (n : ℕ) → Agrees (SumOf Inside Operand n) (sum n expr operand)
  sum_agrees n = level_agrees addition (λ id. refl) _ _ (term_agrees n) (level_within (λ id. refl) (pref_within Inside within Operand operand_within n))

  cmp_at_sound : (n : ℕ) (ts us : List Token) (x : Expr) → SumOf Inside Operand n ts x us → (o : Option Infix) → next_in comparison us ≡ o →
      Only (λ y. CmpOf Inside Operand n ts y.0 y.1) (cmp_at (sum n expr operand) x us o)
  cmp_at_sound n ts us x h None q = is (e.alone h (none_next comparison us q))
  cmp_at_sound n ts us x h (Some op) q = find_sound comparison us then λ o ho. (sum_agrees n).sound o.1 then λ y hy. is (e.compared h ho hy)

  cmp_complete : (n : ℕ) → Complete (CmpOf Inside Operand n) (cmp (sum n expr operand))
  unfolding cmp
  cmp_complete n _ _ _ (e.alone {rest = rest} {x = x} h q) =
      gives _ ((sum_agrees n).complete _ _ _ h) (ap (cmp_at (sum n expr operand) x rest) (next_none comparison rest q))
  cmp_complete n _ _ _ (e.compared {us = us} {x = x} h o k) =
      gives _ ((sum_agrees n).complete _ _ _ h) (ap (cmp_at (sum n expr operand) x us) (next_some o) ∙
      gives _ (find_complete o) (gives _ ((sum_agrees n).complete _ _ _ k) refl))

  cmp_agrees : (n : ℕ) → Agrees (CmpOf Inside Operand n) (cmp (sum n expr operand))
  unfolding cmp
  cmp_agrees n = record {
    sound = λ ts. (sum_agrees n).sound ts then λ x hx. cmp_at_sound n ts x.1 x.0 hx (next_in comparison x.1) refl;
    complete = cmp_complete n;
  }

  disj_agrees : (n : ℕ) → Agrees (DisjOf Inside Operand n) (disj n expr operand)
  disj_agrees n =
      level_agrees disjunction (λ id. refl) _ _
      (level_agrees conjunction (λ id. refl) _ _ (cmp_agrees n) (cmp_within Inside within Operand operand_within n))
      (level_within (λ id. refl) (cmp_within Inside within Operand operand_within n))

  flow_at_sound : (n : ℕ) (ts us : List Token) (x : Expr) → DisjOf Inside Operand n ts x us → (o : Option FlowOp) → next_in flow_operator us ≡ o →
      Only (λ y. ExprOf Inside Operand n ts y.0 y.1) (flow_at n expr x us o)
  flow_at_sound n ts us x h None q = is (e.plain h (none_next flow_operator us q))
  flow_at_sound zero ts us x h (Some op) q = find_sound flow_operator us then λ o ho. none_inside _ expr o.1
  flow_at_sound (suc n) ts us x h (Some op) q =
      find_sound flow_operator us then λ o ho. inside_sound n expr o.1 (agrees.sound o.1) then λ y hy. is (e.flow h ho hy)

  expr_at_sound : (n : ℕ) (ts : List Token) (b : Bool) → Only (λ y. ExprOf Inside Operand n ts y.0 y.1) (expr_at b n expr operand ts)
  expr_at_sound n ts false = (disj_agrees n).sound ts then λ x hx. flow_at_sound n ts x.1 x.0 hx (next_in flow_operator x.1) refl
  expr_at_sound zero ts true = take_sound (kind.Word word.If) tt ts then λ i hi. none_inside _ expr i.1
  expr_at_sound (suc n) ts true =
      take_sound (kind.Word word.If) tt ts then λ i hi. inside_sound n expr i.1 (agrees.sound i.1) then λ c hc.
      take_sound (kind.Word word.Then) tt c.1 then λ a ha. agrees.sound a.1 then λ x hx.
      take_sound (kind.Word word.Else) tt x.1 then λ b hb. agrees.sound b.1 then λ y hy. is (e.choice hi hc ha hx hb hy)

  not_if : (n : ℕ) (ts : List Token) (x : Expr) (rest : List Token) → DisjOf Inside Operand n ts x rest → next_is (kind.Word word.If) ts ≡ false
  not_if n ts x rest h = next_false (kind.Word word.If) ts tt (never_first starts_pref (kind.Word word.If) refl ts (begins_disj Inside Operand n ts x rest h))

  expr_complete : (n : ℕ) → Complete (ExprOf Inside Operand n) (expr_of n expr operand)
  unfolding expr_of
  expr_complete _ _ _ _ (e.choice {n = m} {ts = ts} i c a x b y) =
      ap (λ q. expr_at q (suc m) expr operand ts) (next_true tt i) ∙
      gives _ (take_complete tt i) (gives _ (inside_complete m expr _ (agrees.complete _ _ _ c)) (gives _ (take_complete tt a)
      (gives _ (agrees.complete _ _ _ x) (gives _ (take_complete tt b) (gives _ (agrees.complete _ _ _ y) refl)))))
  expr_complete n ts x rest (e.plain h q) =
      ap (λ b. expr_at b n expr operand ts) (not_if n ts x rest h) ∙ gives _ ((disj_agrees n).complete _ _ _ h) (ap (flow_at n expr x rest) (next_none flow_operator rest q))
  expr_complete _ _ _ _ (e.flow {n = m} {ts = ts} {us = us} {x = x} h o k) =
      ap (λ b. expr_at b (suc m) expr operand ts) (not_if (suc m) ts x us h) ∙
      gives _ ((disj_agrees (suc m)).complete _ _ _ h) (ap (flow_at (suc m) expr x us) (next_some o) ∙
      gives _ (find_complete o) (gives _ (inside_complete m expr _ (agrees.complete _ _ _ k)) refl))

  pub expr_of_agrees : (n : ℕ) → Agrees (ExprOf Inside Operand n) (expr_of n expr operand)
  unfolding expr_of
  expr_of_agrees n = record { sound = λ ts. expr_at_sound n ts (next_is (kind.Word word.If) ts); complete = expr_complete n }

-- ---- at every depth

nothing_first : {A : Type 0} (k : TokenKind) → NeverFirst {A = A} k Nothing
nothing_first k ts x rest h = elim h [ ]

pub close_never_first : (n : ℕ) → NeverFirst (kind.Sign sign.Close) (IsExpr n)
close_never_first n ts x rest h = never_first starts_expr (kind.Sign sign.Close) refl ts (begins_expr n ts x rest h)

mutual
  unfolding IsExpr read_expr

  pub expr_agrees : (n : ℕ) → Agrees (IsExpr n) (read_expr n)
  expr_agrees zero =
      expr_of_agrees Nothing nothing nothing_agrees (nothing_within expr_spots) (nothing_first _) Nothing nothing nothing_agrees (nothing_within expr_spots) zero
  expr_agrees (suc n) =
      expr_of_agrees (IsExpr n) (read_expr n) (expr_agrees n) (expr_within n) (close_never_first n) (IsPref n) (read_pref n) (pref_of_agrees n) (pref_of_within n) (suc n)

  pref_of_agrees : (n : ℕ) → Agrees (IsPref n) (read_pref n)
  pref_of_agrees zero =
      pref_agrees Nothing nothing nothing_agrees (nothing_within expr_spots) (nothing_first _) Nothing nothing nothing_agrees (nothing_within expr_spots) zero
  pref_of_agrees (suc n) =
      pref_agrees (IsExpr n) (read_expr n) (expr_agrees n) (expr_within n) (close_never_first n) (IsPref n) (read_pref n) (pref_of_agrees n) (pref_of_within n) (suc n)
