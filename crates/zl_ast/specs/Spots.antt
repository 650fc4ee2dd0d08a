-- What a tree keeps of the text, in the order of the text: each place that is stored in it, and the number of the
-- name where the place is that of a name.
use Rattle.std.specs.Prelude.{ℕ, List, [], ◌∷◌, ◌++◌, map, Option, Some, None}
use Rattle.zl_lexer.specs.declared.token.Token.{Token}
use Rattle.zl_lexer.specs.declared.token.TokenKind.{TokenKind}
use Rattle.zl_lexer.specs.declared.token.TokenKind.TheVariants as kind
use Rattle.zl_value.specs.declared.position.Pos.{Pos}
use Rattle.zl_ast.specs.declared.name.Name.{Name}
use Rattle.zl_ast.specs.declared.expr.Expr.{Expr}
use Rattle.zl_ast.specs.declared.expr.Expr.TheOpen.{Expr-F, Link-F}
use Rattle.zl_ast.specs.declared.expr.Expr.TheOpen as open_expr
use Rattle.zl_ast.specs.declared.expr.Expr.TheFolds.{fold-Expr, fold-Link}
use Rattle.zl_ast.specs.declared.expr.Link.{Link}
use Rattle.zl_ast.specs.declared.eqn.Eqn.{Eqn}
use Rattle.zl_ast.specs.declared.eqn.Eqn.TheOpen.{Eqn-F, Arm-F, Body-F, State-F}
use Rattle.zl_ast.specs.declared.eqn.Eqn.TheOpen as open_eqn
use Rattle.zl_ast.specs.declared.eqn.Eqn.TheFolds.{fold-Eqn, fold-Arm, fold-Body, fold-State}
use Rattle.zl_ast.specs.declared.eqn.Cond.{Cond}
use Rattle.zl_ast.specs.declared.eqn.Cond.TheVariants.{Event, Test}
use Rattle.zl_ast.specs.declared.eqn.Up.{Up}
use Rattle.zl_ast.specs.declared.eqn.ResetArm.{ResetArm}
use Rattle.zl_ast.specs.declared.eqn.Move.{Move}
use Rattle.zl_ast.specs.declared.eqn.Arm.{Arm}
use Rattle.zl_ast.specs.declared.eqn.Body.{Body}
use Rattle.zl_ast.specs.declared.eqn.State.{State}
use Rattle.zl_ast.specs.declared.program.Decl.{Decl}
use Rattle.zl_ast.specs.declared.program.Param.{Param}

-- what stands at a place: an occurrence of an expression, an equation, a name that is no occurrence, or another thing
pub data Sort : Type 0 where
  occurrence : Sort
  equation : Sort
  bare_name : Sort
  other_thing : Sort

pub record Spot : Type 0 where
  pub sort : Sort
  pub id : Option ℕ
  pub at : Pos

abbrev pub place : Sort → Pos → Spot
place s at = record { sort = s; id = None; at = at }

abbrev pub named : Sort → Name → Spot
named s x = record { sort = s; id = Some x.id; at = x.at }

abbrev pub joined : {A : Type 0} → List (List A) → List A
joined [] = []
joined (xs ∷ xss) = xs ++ joined xss

abbrev pub expr_step : Expr-F (List Spot) (List Spot) → List Spot
expr_step (open_expr.Lit v at) = place occurrence at ∷ []
expr_step (open_expr.Var x) = named occurrence x ∷ []
expr_step (open_expr.Last x at) = place occurrence at ∷ named bare_name x ∷ []
expr_step (open_expr.Call f args) = named occurrence f ∷ joined args
expr_step (open_expr.Prefix op at x) = place occurrence at ∷ x
expr_step (open_expr.Chain x ls) = x ++ joined ls
expr_step (open_expr.Flow op at x y) = x ++ (place occurrence at ∷ y)
expr_step (open_expr.If at c x y) = place occurrence at ∷ (c ++ (x ++ y))

abbrev pub link_step : Link-F (List Spot) (List Spot) → List Spot
link_step l = place occurrence l.at ∷ l.arg

unfoldable pub expr_spots : Expr → List Spot
expr_spots = fold-Expr (List Spot) (List Spot) expr_step link_step

unfoldable pub link_spots : Link → List Spot
link_spots = fold-Link (List Spot) (List Spot) expr_step link_step

abbrev pub all_spots : {A : Type 0} → (A → List Spot) → List A → List Spot
all_spots s xs = joined (map s xs)

abbrev pub some_spots : {A : Type 0} → (A → List Spot) → Option A → List Spot
some_spots s None = []
some_spots s (Some x) = s x

abbrev pub one_name : Name → List Spot
one_name x = named bare_name x ∷ []

-- A plain equation has the place of its first name; with several names the tree keeps none of the parenthesis before it.
abbrev pub left_spots : List Name → List Spot
left_spots [] = []
left_spots (x ∷ xs) = named equation x ∷ all_spots one_name xs

abbrev pub up_spots : Up → List Spot
up_spots u = place occurrence u.at ∷ expr_spots u.arg

abbrev pub cond_spots : Cond → List Spot
cond_spots (Event ups) = all_spots up_spots ups
cond_spots (Test at x) = place other_thing at ∷ expr_spots x

abbrev pub reset_arm_spots : ResetArm → List Spot
reset_arm_spots r = all_spots up_spots r.event ++ expr_spots r.value

abbrev pub move_spots : Move → List Spot
move_spots m = place other_thing m.at ∷ (cond_spots m.cond ++ one_name m.target)

abbrev pub eqn_step : Eqn-F (List Spot) (List Spot) (List Spot) (List Spot) → List Spot
eqn_step (open_eqn.Plain left right) = left_spots left ++ expr_spots right
eqn_step (open_eqn.Der at x slope start resets) = place equation at ∷ named bare_name x ∷ (expr_spots slope ++ (some_spots expr_spots start ++ all_spots reset_arm_spots resets))
eqn_step (open_eqn.Start at x value) = place equation at ∷ named bare_name x ∷ expr_spots value
eqn_step (open_eqn.Present at arms other) = place equation at ∷ (joined arms ++ some_spots (λ b. b) other)
eqn_step (open_eqn.Automaton at states) = place equation at ∷ joined states
eqn_step (open_eqn.Reset at eqs c) = place equation at ∷ (joined eqs ++ cond_spots c)

abbrev pub arm_step : Arm-F (List Spot) (List Spot) (List Spot) (List Spot) → List Spot
arm_step a = cond_spots a.cond ++ a.body

abbrev pub body_step : Body-F (List Spot) (List Spot) (List Spot) (List Spot) → List Spot
body_step b = all_spots one_name b.locals ++ joined b.eqs

abbrev pub state_step : State-F (List Spot) (List Spot) (List Spot) (List Spot) → List Spot
state_step s = named bare_name s.name ∷ (s.body ++ all_spots move_spots s.moves)

unfoldable pub eqn_spots : Eqn → List Spot
eqn_spots = fold-Eqn (List Spot) (List Spot) (List Spot) (List Spot) eqn_step arm_step body_step state_step

unfoldable pub arm_spots : Arm → List Spot
arm_spots = fold-Arm (List Spot) (List Spot) (List Spot) (List Spot) eqn_step arm_step body_step state_step

unfoldable pub body_spots : Body → List Spot
body_spots = fold-Body (List Spot) (List Spot) (List Spot) (List Spot) eqn_step arm_step body_step state_step

unfoldable pub state_spots : State → List Spot
state_spots = fold-State (List Spot) (List Spot) (List Spot) (List Spot) eqn_step arm_step body_step state_step

abbrev pub param_spots : Param → List Spot
param_spots p = named bare_name p.name ∷ []

abbrev pub decl_spots : Decl → List Spot
decl_spots d = named bare_name d.name ∷ (all_spots param_spots d.params ++ (all_spots expr_spots d.results ++ all_spots eqn_spots d.eqs))

-- the number of a NAME
abbrev pub id_of : TokenKind → Option ℕ
id_of (kind.Name id) = Some id
id_of _ = None

-- what a token and a spot have in common
pub record Mark : Type 0 where
  pub id : Option ℕ
  pub at : Pos

abbrev pub token_mark : Token → Mark
token_mark t = record { id = id_of t.kind; at = t.at }

abbrev pub spot_mark : Spot → Mark
spot_mark s = record { id = s.id; at = s.at }

-- the first list is what is left of the second when some of its elements are dropped
pub data Sublist {A : Type 0} : List A → List A → Type 0 where
  end : Sublist [] []
  keep : {x : A} {xs ys : List A} → Sublist xs ys → Sublist (x ∷ xs) (x ∷ ys)
  drop : {y : A} {xs ys : List A} → Sublist xs ys → Sublist xs (y ∷ ys)
