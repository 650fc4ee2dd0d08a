-- How much a program expands to.
use Rattle.std.specs.Prelude.{ℕ, ◌+◌, max, if◌then◌else◌, is_some, List, [], ◌∷◌, map, Option, Some, None}
use Rattle.zl_ast.specs.declared.name.Name.{Name}
use Rattle.zl_ast.specs.declared.scope.VarInfo.{VarInfo}
use Rattle.zl_ast.specs.declared.expr.Expr.{Expr}
use Rattle.zl_ast.specs.declared.expr.Link.{Link}
use Rattle.zl_ast.specs.declared.expr.Expr.TheOpen.{Expr-F, Link-F}
use Rattle.zl_ast.specs.declared.expr.Expr.TheOpen as open_expr
use Rattle.zl_ast.specs.declared.expr.Expr.TheFolds.{fold-Expr, fold-Link}
use Rattle.zl_ast.specs.declared.eqn.Eqn.{Eqn}
use Rattle.zl_ast.specs.declared.eqn.Arm.{Arm}
use Rattle.zl_ast.specs.declared.eqn.Body.{Body}
use Rattle.zl_ast.specs.declared.eqn.State.{State}
use Rattle.zl_ast.specs.declared.eqn.Cond.{Cond}
use Rattle.zl_ast.specs.declared.eqn.Cond.TheVariants.{Event, Test}
use Rattle.zl_ast.specs.declared.eqn.Up.{Up}
use Rattle.zl_ast.specs.declared.eqn.ResetArm.{ResetArm}
use Rattle.zl_ast.specs.declared.eqn.Move.{Move}
use Rattle.zl_ast.specs.declared.eqn.Eqn.TheOpen.{Eqn-F, Arm-F, Body-F, State-F}
use Rattle.zl_ast.specs.declared.eqn.Eqn.TheOpen as open_eqn
use Rattle.zl_ast.specs.declared.eqn.Eqn.TheFolds.{fold-Eqn, fold-Arm, fold-Body, fold-State}
use Rattle.zl_ast.specs.declared.program.Decl.{Decl}
use Rattle.zl_flat.specs.declared.size.Size.{Size}
use Rattle.zl_flat.specs.FirstPlaces.{place_in_text, is_first}

-- The counts that have a limit: hidden occurrences aren't counted, and `calls` is the greatest number of calls inside each
-- other.
unfoldable pub none : Size
none = record { places = 0; occs = 0; sites = 0; blocks = 0; calls = 0 }

unfoldable pub plus : Size → Size → Size
plus a b = record { places = a.places + b.places; occs = a.occs + b.occs; sites = a.sites + b.sites; blocks = a.blocks + b.blocks; calls = max a.calls b.calls }

abbrev pub total : List Size → Size
total [] = none
total (x ∷ xs) = plus x (total xs)

unfoldable pub a_place : Size
a_place = record { places = 1; occs = 0; sites = 0; blocks = 0; calls = 0 }

unfoldable pub an_occ : Size
an_occ = record { places = 0; occs = 1; sites = 0; blocks = 0; calls = 0 }

-- an `up`: an occurrence and a site
unfoldable pub an_up : Size
an_up = record { places = 0; occs = 1; sites = 1; blocks = 0; calls = 0 }

unfoldable pub a_block : Size
a_block = record { places = 0; occs = 0; sites = 0; blocks = 1; calls = 0 }

-- the copy that a call makes, where the called declaration has this size
unfoldable pub in_call : Size → Size
in_call s = record { places = s.places; occs = s.occs; sites = s.sites; blocks = s.blocks; calls = s.calls + 1 }

abbrev pub called_size : Option Size → Size
called_size None = none
called_size (Some s) = in_call s

-- A declaration with these variables, where these are the sizes of the declarations before.
module _ (vars : List VarInfo) (known : ℕ → Option Size) where
  -- a name that is read: a variable, or a constant, which is called
  abbrev pub read_size : Name → Size
  read_size x = if is_some (place_in_text vars x.id) then an_occ else plus an_occ (called_size (known x.id))

  abbrev pub expr_step : Expr-F Size Size → Size
  expr_step (open_expr.Lit v at) = an_occ
  expr_step (open_expr.Var x) = read_size x
  expr_step (open_expr.Last x at) = an_occ
  expr_step (open_expr.Call f args) = plus an_occ (plus (total args) (called_size (known f.id)))
  expr_step (open_expr.Prefix op at x) = plus an_occ x
  expr_step (open_expr.Chain x ls) = plus x (total ls)
  expr_step (open_expr.Flow op at x y) = plus an_occ (plus x y)
  expr_step (open_expr.If at c x y) = plus an_occ (plus c (plus x y))

  abbrev pub link_step : Link-F Size Size → Size
  link_step l = plus an_occ l.arg

  unfoldable pub expr_size : Expr → Size
  expr_size = fold-Expr Size Size expr_step link_step

  unfoldable pub link_size : Link → Size
  link_size = fold-Link Size Size expr_step link_step

  abbrev pub exprs_size : List Expr → Size
  exprs_size xs = total (map expr_size xs)

  abbrev pub up_size : Up → Size
  up_size u = plus an_up (expr_size u.arg)

  abbrev pub ups_size : List Up → Size
  ups_size us = total (map up_size us)

  abbrev pub cond_size : Cond → Size
  cond_size (Event us) = ups_size us
  cond_size (Test at x) = expr_size x

  abbrev pub start_size : Option Expr → Size
  start_size None = none
  start_size (Some x) = expr_size x

  abbrev pub reset_arm_size : ResetArm → Size
  reset_arm_size r = plus (ups_size r.event) (expr_size r.value)

  abbrev pub move_size : Move → Size
  move_size m = cond_size m.cond

  -- a name that is declared or defined
  abbrev pub name_size : Name → Size
  name_size x = if is_first vars x then a_place else none

  abbrev pub names_size : List Name → Size
  names_size xs = total (map name_size xs)

  abbrev pub other_size : Option Size → Size
  other_size None = none
  other_size (Some b) = plus a_block b

  abbrev pub eqn_step : Eqn-F Size Size Size Size → Size
  eqn_step (open_eqn.Plain left right) = plus (names_size left) (expr_size right)
  eqn_step (open_eqn.Der at x slope start resets) = plus (name_size x) (plus (expr_size slope) (plus (start_size start) (total (map reset_arm_size resets))))
  eqn_step (open_eqn.Start at x value) = plus (name_size x) (expr_size value)
  eqn_step (open_eqn.Present at arms other) = plus (total arms) (other_size other)
  eqn_step (open_eqn.Automaton at states) = total states
  eqn_step (open_eqn.Reset at eqs c) = plus a_block (plus (total eqs) (cond_size c))

  abbrev pub arm_step : Arm-F Size Size Size Size → Size
  arm_step a = plus (cond_size a.cond) (plus a_block a.body)

  abbrev pub body_step : Body-F Size Size Size Size → Size
  body_step b = plus (names_size b.locals) (total b.eqs)

  -- a state's guard and body are blocks
  abbrev pub state_step : State-F Size Size Size Size → Size
  state_step s = plus a_block (plus a_block (plus s.body (total (map move_size s.moves))))

  unfoldable pub eqn_size : Eqn → Size
  eqn_size = fold-Eqn Size Size Size Size eqn_step arm_step body_step state_step

  unfoldable pub arm_size : Arm → Size
  arm_size = fold-Arm Size Size Size Size eqn_step arm_step body_step state_step

  unfoldable pub body_size : Body → Size
  body_size = fold-Body Size Size Size Size eqn_step arm_step body_step state_step

  unfoldable pub state_size : State → Size
  state_size = fold-State Size Size Size Size eqn_step arm_step body_step state_step

  abbrev pub eqns_size : List Eqn → Size
  eqns_size es = total (map eqn_size es)

  -- a copy of the declaration's body
  unfoldable pub decl_size : Decl → Size
  decl_size d = plus (total (map (λ p. a_place) d.params)) (plus (exprs_size d.results) (eqns_size d.eqs))
