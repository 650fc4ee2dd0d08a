-- The machine that runs a code is a system: runs are said of it as of any other. This project's own.
use Rattle.std.specs.Prelude.{ℕ, Bool, false, ◌&&◌, ◌||◌, List, [], ◌∷◌, ◌++◌, length, slice_get, map, is_none, is_some, Option, Some, None}
use Rattle.std.specs.List.{list_any}
use Rattle.std.specs.Option.{option_map, option_and_then}
use Rattle.zl_value.specs.Fraction.{Fraction, add, mul}
use Rattle.zl_value.specs.Lists.{listed, among}
use Rattle.zl_value.specs.Times.{nought, holds}
use Rattle.zl_value.specs.Instants.{Kind, Step, Left, Instant, History}
use Rattle.zl_value.specs.System.{System, Motion}
use Rattle.zl_value.specs.declared.position.Pos.{Pos}
use Rattle.zl_value.specs.declared.value.Value.{Value}
use Rattle.zl_value.specs.declared.value.Value.TheVariants.{F}
use Rattle.zl_value.specs.declared.value.Fault.{Fault}
use Rattle.zl_value.specs.declared.script.Output.{Output}
use Rattle.zl_code.specs.declared.code.CMem.{CMem}
use Rattle.zl_code.specs.declared.code.CSite.{CSite}
use Rattle.zl_code.specs.declared.stmt.Stmt.{Stmt}
use Rattle.zl_code.specs.declared.stmt.Found.{Found}
use Rattle.zl_code.specs.CodeForm.{CodeForm}
use Rattle.zl_code.specs.Method.{Cells, cell, Given, Doing, method}

-- the method of an instant
abbrev pub statements : CodeForm → Kind → List Stmt
statements c Step = c.step
statements c Left = c.left

-- of each site, whether it is one of those that fired; left ends and flows have no events
abbrev pub events_of : CodeForm → List ℕ → List Bool
events_of c fired = listed (length c.sites) 0 (λ n. among n fired)

-- what an instant's method does, from these memories
abbrev pub instant_of : CodeForm → Kind → Cells → List (Option Value) → List Bool → Doing
instant_of c kind mems inputs events = method (length c.regs) (statements c kind) (record { mems = mems; inputs = inputs; events = events })

-- what the flow method does after an instant, from the memories that it left
abbrev pub flow_of : CodeForm → Cells → List (Option Value) → Doing
flow_of c mems inputs = method (length c.regs) c.flow (record { mems = mems; inputs = inputs; events = [] })

-- what each memory holds at first
abbrev pub starts : CodeForm → Cells
starts c = map (λ (mem : CMem). mem.start) c.mems

-- the memories after the latest instant
abbrev pub mems_after : CodeForm → History Doing → Cells
mems_after c [] = starts c
mems_after c (i ∷ h) = i.table.mems

-- where a number is once it moved for `d` with a slope
abbrev pub moved_value : Fraction → Option Value → Option Value → Option Value
moved_value d (Some (F from)) (Some (F slope)) = Some (F (add from (mul d slope)))
moved_value d from slope = from

-- a memory that has a slope's register, after a flow that lasted `d`
abbrev pub moved : Cells → Fraction → Option ℕ → Option Value → Option Value
moved rates d None from = from
moved rates d (Some r) from = moved_value d from (cell rates r)

abbrev pub all_moved : Cells → Fraction → List CMem → Cells → Cells
all_moved rates d (mem ∷ mems) (v ∷ vs) = moved rates d mem.slope v ∷ all_moved rates d mems vs
all_moved rates d _ vs = vs

-- what the register of a site holds, that of the value, of whether it is fresh, or of the slope
abbrev pub of_site : CodeForm → (CSite → ℕ) → Cells → ℕ → Option Value
of_site c which regs n = option_and_then (λ (site : CSite). cell regs (which site)) (slice_get c.sites n)

abbrev pub site_value : CodeForm → Cells → ℕ → Option Value
site_value c regs n = of_site c (λ site. site.value) regs n

abbrev pub site_fresh : CodeForm → Cells → ℕ → Option Value
site_fresh c regs n = of_site c (λ site. site.fresh) regs n

abbrev pub site_slope : CodeForm → Cells → ℕ → Option Value
site_slope c rates n = of_site c (λ site. site.slope) rates n

-- the site is active, and nothing is in this other register of it
abbrev pub lacks_of : (CSite → ℕ) → Cells → Cells → CSite → Bool
lacks_of which regs others site = is_some (cell regs site.value) && is_none (cell others (which site))

abbrev pub lacks_again : Kind → Option Value → Bool
lacks_again Step again = is_none again
lacks_again Left again = false

-- the register of an output is empty
abbrev pub lacks_output : Cells → Output → Bool
lacks_output regs output = is_none (cell regs output.from)

-- after a step or a left end a register is empty that must not be: that of an output, that which says whether an active site
-- is fresh, and after a step that which demands a further one
abbrev pub lacks : CodeForm → Kind → Cells → Bool
lacks c kind regs =
    list_any (lacks_output regs) c.outs || (list_any (lacks_of (λ site. site.fresh) regs regs) c.sites || lacks_again kind (cell regs c.again))

-- a memory that moves holds a value, and the register of its slope is empty
abbrev pub lacks_slope : Cells → Option ℕ → Option Value → Bool
lacks_slope rates (Some r) (Some v) = is_none (cell rates r)
lacks_slope rates _ _ = false

abbrev pub lack_slopes : Cells → List CMem → Cells → Bool
lack_slopes rates (mem ∷ mems) (v ∷ vs) = lacks_slope rates mem.slope v || lack_slopes rates mems vs
lack_slopes rates _ _ = false

-- in a flow a slope is empty that must not be: that of an active site, or of a memory that moves
abbrev pub flow_lacks : CodeForm → Cells → Cells → Cells → Bool
flow_lacks c regs mems rates = list_any (lacks_of (λ site. site.slope) regs rates) c.sites || lack_slopes rates c.mems mems

abbrev pub fault_of : Doing → Option Fault
fault_of d = option_map (λ (f : Found). f.fault) d.found

-- what moves: the memories that hold a value and have a slope, in their order
abbrev pub motion : Pos → Option Value → Option Value → List Motion
motion at (Some (F from)) (Some (F slope)) = record { from = from; slope = slope; at = at } ∷ []
motion at _ _ = []

abbrev pub motion_of : Cells → CMem → Option ℕ → Option Value → List Motion
motion_of rates mem None from = []
motion_of rates mem (Some r) from = motion mem.at from (cell rates r)

abbrev pub motions : Cells → List CMem → Cells → List Motion
motions rates (mem ∷ mems) (v ∷ vs) = motion_of rates mem mem.slope v ++ motions rates mems vs
motions rates _ _ = []

-- the flow is the same at each of its moments, and stands for its slopes
abbrev pub system_of : CodeForm → System Doing Doing
system_of c = record {
  inputs = length c.ins;
  sites = length c.sites;
  step = λ h i. instant_of c Step (mems_after c h) i.inputs (events_of c i.fired);
  flow = λ h i y s. flow_of c i.table.mems i.inputs;
  left = λ h y d i. instant_of c Left (all_moved (y nought).regs d c.mems (mems_after c h)) i.inputs [];
  fault = λ h i. fault_of i.table;
  flow_fault = λ h i y. fault_of (y nought);
  lacks = λ i. lacks c i.kind i.table.regs;
  flow_lacks = λ i y. flow_lacks c i.table.regs i.table.mems (y nought).regs;
  demands = λ d. holds (cell d.regs c.again);
  value = λ d n. site_value c d.regs n;
  fresh = λ h i n. holds (site_fresh c i.table.regs n);
  values = λ i y s n. moved_value s (site_value c i.table.regs n) (site_slope c (y nought).regs n);
  motions = λ i y. motions (y nought).regs c.mems i.table.mems;
}
