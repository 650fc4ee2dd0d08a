-- The grammar of equations, a constructor for each form of a line. The number says how many constructs may still
-- be opened. A form that opens one has an index above 0, and Inside gives the equation lists that may stand in it.
-- A "|", "end", "until", "unless" or "else" is taken by the innermost form that can take it: every other form that
-- could go on with it ends only where it isn't next.
use Rattle.std.specs.Prelude.{◌≡◌, ℕ, zero, suc, Bool, true, false, List, [], ◌∷◌, ◌++◌, Option}
use Rattle.zl_lexer.specs.declared.token.Token.{Token}
use Rattle.zl_lexer.specs.declared.token.TokenKind.{TokenKind}
use Rattle.zl_lexer.specs.declared.token.TokenKind.TheVariants as kind
use Rattle.zl_lexer.specs.declared.token.Word.TheVariants as word
use Rattle.zl_lexer.specs.declared.token.Sign.TheVariants as sign
use Rattle.zl_value.specs.declared.position.Pos.{Pos}
use Rattle.zl_ast.specs.declared.name.Name.{Name}
use Rattle.zl_ast.specs.declared.expr.Expr.{Expr}
use Rattle.zl_ast.specs.declared.expr.Expr.TheVariants as tree
use Rattle.zl_ast.specs.declared.eqn.Eqn.{Eqn}
use Rattle.zl_ast.specs.declared.eqn.Eqn.TheVariants as eqn
use Rattle.zl_ast.specs.declared.eqn.Cond.{Cond}
use Rattle.zl_ast.specs.declared.eqn.Cond.TheVariants as cond
use Rattle.zl_ast.specs.declared.eqn.Up.{Up}
use Rattle.zl_ast.specs.declared.eqn.ResetArm.{ResetArm}
use Rattle.zl_ast.specs.declared.eqn.Move.{Move}
use Rattle.zl_ast.specs.declared.eqn.Arm.{Arm, roll-Arm}
use Rattle.zl_ast.specs.declared.eqn.Body.{Body, roll-Body}
use Rattle.zl_ast.specs.declared.eqn.State.{State, roll-State}
use Rattle.zl_ast.specs.Phrases.{Phrase, Nothing, Takes, NotNext, Finds, NoneNext, IsName, ListOf, Maybe, Passes, ToClose, IsTuple, listed}
use Rattle.zl_ast.specs.Operators.{move_word, entry_word}
use Rattle.zl_ast.specs.Expressions.{IsExpr}

abbrev pub body : List Name → List Eqn → Body
body locals eqs = roll-Body (record { locals = locals; eqs = eqs })

abbrev pub arm : Cond → Body → Arm
arm c b = roll-Arm (record { cond = c; body = b })

abbrev pub state : Name → Body → List Move → State
state name b moves = roll-State (record { name = name; body = b; moves = moves })

-- up = "up" "(" expr ")"
pub data IsUp : ℕ → List Token → Up → List Token → Type 0 where
  up : {n : ℕ} {ts us vs ws rest : List Token} {at from to : Pos} {x : Expr} →
      Takes (kind.Word word.Up) ts at us → Takes (kind.Sign sign.Open) us from vs → IsExpr n vs x ws →
      Takes (kind.Sign sign.Close) ws to rest → IsUp (suc n) ts (record { at = at; arg = x }) rest

-- event = up {"|" up}
abbrev pub IsEvent : ℕ → Phrase (List Up)
IsEvent n = ListOf (kind.Sign sign.Bar) (IsUp n)

-- cond = event | "(" expr ")"
pub data IsCond : ℕ → List Token → Cond → List Token → Type 0 where
  event : {n : ℕ} {ts rest : List Token} {ups : List Up} → IsEvent n ts ups rest → IsCond n ts (cond.Event ups) rest
  test : {n : ℕ} {ts us vs rest : List Token} {at to : Pos} {x : Expr} →
      Takes (kind.Sign sign.Open) ts at us → IsExpr n us x vs → Takes (kind.Sign sign.Close) vs to rest → IsCond (suc n) ts (cond.Test at x) rest

-- rarm = event "->" expr
pub data IsResetArm (n : ℕ) : List Token → ResetArm → List Token → Type 0 where
  reset_arm : {ts us vs rest : List Token} {at : Pos} {ups : List Up} {x : Expr} →
      IsEvent n ts ups us → Takes (kind.Sign sign.Arrow) us at vs → IsExpr n vs x rest → IsResetArm n ts (record { event = ups; value = x }) rest

-- alt = cond ("then" | "continue") NAME, in a move whose first word says strong
pub data IsAlt (n : ℕ) (strong : Bool) (at : Pos) : List Token → Move → List Token → Type 0 where
  alt : {ts us vs rest : List Token} {entry_at : Pos} {c : Cond} {anew : Bool} {x : Name} →
      IsCond n ts c us → Finds entry_word us anew entry_at vs → IsName vs x rest →
      IsAlt n strong at ts (record { strong = strong; reset = anew; at = at; cond = c; target = x }) rest

-- {"else" alt}: a further one has the kind of the move, and the place of its "else"
pub data MoreAlts (n : ℕ) (strong : Bool) : List Token → List Move → List Token → Type 0 where
  no_alts : {ts : List Token} → NotNext (kind.Word word.Else) ts → MoreAlts n strong ts [] ts
  more_alts : {at : Pos} {ts us vs rest : List Token} {m : Move} {ms : List Move} →
      Takes (kind.Word word.Else) ts at us → IsAlt n strong at us m vs → MoreAlts n strong vs ms rest → MoreAlts n strong ts (m ∷ ms) rest

-- move = ("until" | "unless") alt {"else" alt}
pub data IsMove (n : ℕ) : List Token → List Move → List Token → Type 0 where
  move : {at : Pos} {ts us vs rest : List Token} {strong : Bool} {m : Move} {ms : List Move} →
      Finds move_word ts strong at us → IsAlt n strong at us m vs → MoreAlts n strong vs ms rest → IsMove n ts (m ∷ ms) rest

-- {move}
pub data MoreMoves (n : ℕ) : List Token → List Move → List Token → Type 0 where
  no_moves : {ts : List Token} → NoneNext move_word ts → MoreMoves n ts [] ts
  more_moves : {ts us rest : List Token} {ms others : List Move} →
      IsMove n ts ms us → MoreMoves n us others rest → MoreMoves n ts (ms ++ others) rest

-- "done" | move {move}
pub data IsStateEnd (n : ℕ) : List Token → List Move → List Token → Type 0 where
  done : {ts rest : List Token} {at : Pos} → Takes (kind.Word word.Done) ts at rest → IsStateEnd n ts [] rest
  moves : {ts us rest : List Token} {ms others : List Move} →
      IsMove n ts ms us → MoreMoves n us others rest → IsStateEnd n ts (ms ++ others) rest

-- NAME {"," NAME} "in", behind "local"
pub data IsLocals : List Token → List Name → List Token → Type 0 where
  locals : {ts us rest : List Token} {at : Pos} {names : List Name} →
      ListOf (kind.Sign sign.Comma) IsName ts names us → Takes (kind.Word word.In) us at rest → IsLocals ts names rest

-- "done", "until" or "unless", which end the equations behind a "do", is next
abbrev pub ends_do : TokenKind → Bool
ends_do (kind.Word word.Done) = true
ends_do (kind.Word word.Until) = true
ends_do (kind.Word word.Unless) = true
ends_do _ = false

-- [eqs], behind "do"
pub data DoEqs (Inside : Phrase (List Eqn)) : List Token → List Eqn → List Token → Type 0 where
  no_eqs : (t : Token) {ts : List Token} → ends_do t.kind ≡ true → DoEqs Inside (t ∷ ts) [] (t ∷ ts)
  some_eqs : {ts rest : List Token} {es : List Eqn} → Inside ts es rest → DoEqs Inside ts es rest

-- body = ["local" NAME {"," NAME} "in"] "do" [eqs] "done"
pub data BodyOf (Inside : Phrase (List Eqn)) : ℕ → List Token → Body → List Token → Type 0 where
  body_of : {n : ℕ} {ts us vs ws rest : List Token} {at to : Pos} {names : Option (List Name)} {es : List Eqn} →
      Maybe (kind.Word word.Local) IsLocals ts names us → Takes (kind.Word word.Do) us at vs → DoEqs Inside vs es ws →
      Takes (kind.Word word.Done) ws to rest → BodyOf Inside (suc n) ts (body (listed names) es) rest

-- arm = cond "->" body
pub data ArmOf (Inside : Phrase (List Eqn)) (n : ℕ) : List Token → Arm → List Token → Type 0 where
  arm_of : {ts us vs rest : List Token} {at : Pos} {c : Cond} {b : Body} →
      IsCond n ts c us → Takes (kind.Sign sign.Arrow) us at vs → BodyOf Inside n vs b rest → ArmOf Inside n ts (arm c b) rest

-- state = NAME "->" ["local" NAME {"," NAME} "in"] "do" [eqs] ("done" | move {move})
pub data StateOf (Inside : Phrase (List Eqn)) : ℕ → List Token → State → List Token → Type 0 where
  state_of : {n : ℕ} {ts us vs ws xs ys rest : List Token} {arrow_at at : Pos} {x : Name} {names : Option (List Name)} {es : List Eqn} {ms : List Move} →
      IsName ts x us → Takes (kind.Sign sign.Arrow) us arrow_at vs → Maybe (kind.Word word.Local) IsLocals vs names ws →
      Takes (kind.Word word.Do) ws at xs → DoEqs Inside xs es ys → IsStateEnd n ys ms rest →
      StateOf Inside (suc n) ts (state x (body (listed names) es) ms) rest

-- eq = NAME "=" expr
--    | "(" NAME "," NAME {"," NAME} ")" "=" NAME "(" [args] ")"
--    | "der" NAME "=" expr ["init" expr] ["reset" rarm {"|" rarm}]
--    | "init" NAME "=" expr
--    | "present" ["|"] arm {"|" arm} ["else" body] ["end"]
--    | "automaton" ["|"] state {"|" state} ["end"]
--    | "reset" eqs "every" cond
pub data EqnOf (Inside : Phrase (List Eqn)) : ℕ → List Token → Eqn → List Token → Type 0 where
  one : {n : ℕ} {ts us vs rest : List Token} {at : Pos} {x : Name} {e : Expr} →
      IsName ts x us → Takes (kind.Sign sign.Equal) us at vs → IsExpr n vs e rest → EqnOf Inside n ts (eqn.Plain (x ∷ []) e) rest
  several : {n : ℕ} {ts us vs ws xs rest : List Token} {equal_at at : Pos} {names : List Name} {f : Name} {args : List Expr} →
      IsTuple ts names us → Takes (kind.Sign sign.Equal) us equal_at vs → IsName vs f ws → Takes (kind.Sign sign.Open) ws at xs →
      ToClose (IsExpr n) xs args rest → EqnOf Inside (suc n) ts (eqn.Plain names (tree.Call f args)) rest
  der : {n : ℕ} {ts us vs ws xs ys rest : List Token} {at equal_at : Pos} {x : Name} {slope : Expr} {start : Option Expr} {resets : Option (List ResetArm)} →
      Takes (kind.Word word.Der) ts at us → IsName us x vs → Takes (kind.Sign sign.Equal) vs equal_at ws → IsExpr n ws slope xs →
      Maybe (kind.Word word.Init) (IsExpr n) xs start ys →
      Maybe (kind.Word word.Reset) (ListOf (kind.Sign sign.Bar) (IsResetArm n)) ys resets rest →
      EqnOf Inside n ts (eqn.Der at x slope start (listed resets)) rest
  start : {n : ℕ} {ts us vs ws rest : List Token} {at equal_at : Pos} {x : Name} {e : Expr} →
      Takes (kind.Word word.Init) ts at us → IsName us x vs → Takes (kind.Sign sign.Equal) vs equal_at ws → IsExpr n ws e rest →
      EqnOf Inside n ts (eqn.Start at x e) rest
  present_of : {n : ℕ} {ts us vs ws xs rest : List Token} {at : Pos} {arms : List Arm} {other : Option Body} →
      Takes (kind.Word word.Present) ts at us → Passes (kind.Sign sign.Bar) us vs → ListOf (kind.Sign sign.Bar) (ArmOf Inside n) vs arms ws →
      Maybe (kind.Word word.Else) (BodyOf Inside n) ws other xs → Passes (kind.Word word.End) xs rest →
      EqnOf Inside n ts (eqn.Present at arms other) rest
  automaton : {n : ℕ} {ts us vs ws rest : List Token} {at : Pos} {states : List State} →
      Takes (kind.Word word.Automaton) ts at us → Passes (kind.Sign sign.Bar) us vs → ListOf (kind.Sign sign.Bar) (StateOf Inside n) vs states ws →
      Passes (kind.Word word.End) ws rest → EqnOf Inside n ts (eqn.Automaton at states) rest
  reset : {n : ℕ} {ts us vs ws rest : List Token} {at every_at : Pos} {es : List Eqn} {c : Cond} →
      Takes (kind.Word word.Reset) ts at us → Inside us es vs → Takes (kind.Word word.Every) vs every_at ws → IsCond n ws c rest →
      EqnOf Inside (suc n) ts (eqn.Reset at es c) rest

-- eqs = eq { "and" eq }, with at most n constructs opened one inside the other
unfoldable pub IsEqs : ℕ → Phrase (List Eqn)
IsEqs zero = ListOf (kind.Word word.And) (EqnOf Nothing zero)
IsEqs (suc n) = ListOf (kind.Word word.And) (EqnOf (IsEqs n) (suc n))
