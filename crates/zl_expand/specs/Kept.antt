-- What the code keeps, in the words of the definitions.
use Rattle.zl_meaning.specs.declared.block.AutoMove.{AutoMove}
use Rattle.std.specs.Prelude.{◌≡◌, ℕ, ◌^◌, ◌<◌, Bool, false, List, [], ◌++◌, length, set, take, None}
use Rattle.zl_value.specs.declared.position.Pos.{Pos}
use Rattle.zl_value.specs.declared.value.Ty.TheVariants.{Bool as BoolTy}
use Rattle.zl_meaning.specs.declared.block.Block.{Block}
use Rattle.zl_meaning.specs.declared.block.BlockKind.TheVariants.{Main}
use Rattle.zl_meaning.specs.declared.block.Choice.{Choice}
use Rattle.zl_meaning.specs.declared.block.Auto.{Auto}
use Rattle.zl_meaning.specs.declared.place.Definer.{Definer}
use Rattle.zl_meaning.specs.declared.occurrence.Form.TheVariants.{Fired}
use Rattle.zl_meaning.specs.declared.occurrence.Occ.{Occ}
use Rattle.zl_meaning.specs.declared.occurrence.SiteInfo.{SiteInfo}
use Rattle.zl_flat.specs.declared.given.Given.{Given}
use Rattle.zl_expand.specs.declared.numbering.Places.{Places}
use Rattle.zl_expand.specs.declared.instance.Instance.{Instance as TheInstance}
use Rattle.zl_ast.specs.declared.program.Decl.{Decl}
use Rattle.zl_flat.specs.declared.here.Here.{Here}
use Rattle.zl_flat.specs.Parts.{Parts, Counters, joined, after}
use Rattle.zl_flat.specs.Equations.{eqns_walk}
use Rattle.zl_flat.specs.Numbering.{Numbering}
use Rattle.zl_flat.specs.Variables.{variables}
use Rattle.zl_flat.specs.Instances.{Instance, Copy}
use Rattle.zl_ast.specs.declared.expr.Expr.{Expr}
use Rattle.zl_flat.specs.Expressions.{Walk, expr_walk, exprs_walk}
use Rattle.zl_flat.specs.Expansion.{found, with_callees}
pub use Rattle.zl_expand.specs.KeptDecls.{scoped_in, infos_in, types_in, known_in}

-- ---- numbering

-- places of variables were taken as this says
pub record Numbers (old new : Places) (numbering : Numbering) : Type 0 where
  pub own : new.own.items ≡ old.own.items ++ (numbering old.next).own
  pub next : new.next ≡ (numbering old.next).next

-- So they were where the numbers have 32 bits, also the one behind them.
pub record NumbersWithin (old new : Places) (numbering : Numbering) : Type 0 where
  pub within : (numbering old.next).next < 2 ^ 32 → Numbers old new numbering

-- ---- what stands in place of parts that aren't known yet

abbrev pub no_pos : Pos
no_pos = record { line = 0; column = 0 }

abbrev pub unset_block : Block
unset_block = record { parent = None; kind = Main; hybrid = false }

abbrev pub unset_occ : Occ
unset_occ = record { block = 0; call = None; ty = BoolTy; at = no_pos; form = Fired [] }

abbrev pub unset_site : SiteInfo
unset_site = record { block = 0; arg = 0; at = no_pos }

abbrev pub unset_choice : Choice
unset_choice = record { block = 0; conds = []; other = false }

abbrev pub unset_automaton : Auto
unset_automaton = record { block = 0; states = [] }

abbrev pub given_to : ℕ → Definer → Given
given_to place definer = record { place = place; definer = definer }

-- a part that is known now
unfoldable pub with_block : Parts → ℕ → Block → Parts
with_block p n x = record p { blocks = set p.blocks n x }

unfoldable pub with_occ : Parts → ℕ → Occ → Parts
with_occ p n x = record p { occs = set p.occs n x }

unfoldable pub with_hidden : Parts → ℕ → Occ → Parts
with_hidden p n x = record p { hidden = set p.hidden n x }

unfoldable pub with_site : Parts → ℕ → SiteInfo → Parts
with_site p n x = record p { sites = set p.sites n x }

unfoldable pub with_choice : Parts → ℕ → Choice → Parts
with_choice p n x = record p { choices = set p.choices n x }

unfoldable pub with_automaton : Parts → ℕ → Auto → Parts
with_automaton p n x = record p { automata = set p.automata n x }

-- the next numbers
unfoldable pub counters : Parts → Counters
counters p = record { blocks = length p.blocks; places = length p.places; occs = length p.occs; hidden = length p.hidden; sites = length p.sites; choices = length p.choices; automata = length p.automata }

-- ---- copies

-- a copy of the declaration's body in which the variables have these places
unfoldable pub instance_in : TheInstance → Instance
instance_in i = record {
  block = i.block;
  infos = infos_in i.known.now;
  variables = variables (infos_in i.known.now) (types_in i.known.now) i.own.now;
  callees = found (with_callees i.base i.known.now.declared.now.names.now [] [] (take i.known.now.number (scoped_in i.known.now.declared.now)));
}

abbrev pub walk_in : TheInstance → Expr → Walk
walk_in i = expr_walk i.base i.known.now.declared.now.names.now (instance_in i)

-- ---- walks in a copy

abbrev pub names_in : TheInstance → List (List ℕ)
names_in i = i.known.now.declared.now.names.now

-- the results and the equations of a copy whose parameters are made
abbrev pub inside_in : TheInstance → Decl → Here → Counters → Copy
inside_in i d here s =
    let results = exprs_walk i.base (names_in i) (instance_in i) d.results here s in
    let eqs = eqns_walk i.base (names_in i) (instance_in i) d.eqs here (after s results.parts) in
    record { parts = joined results.parts eqs; results = results.roots }

abbrev pub made_move : Bool → Bool → ℕ → ℕ → AutoMove
made_move strong reset cond target = record { strong = strong; reset = reset; cond = cond; target = target }
