-- The codes of two orders of one kernel are one system: each method of the one does what that of the other does.
use Rattle.std.specs.Prelude.{◌≡◌, ℕ, suc, ◌<◌, ◌+◌, Bool, true, false, if◌then◌else◌, List, [], ◌∷◌, length, get_or, slice_get, map, Option, Some, None}
use Rattle.std.proofs.Common.{refl, sym, ap, ap₂, ◌∙◌, arith, subst}
use mathlib.Core.Path.{fun_ext}
use Rattle.zl_value.specs.Fraction.{Fraction}
use Rattle.zl_value.specs.Lists.{among}
use Rattle.zl_value.specs.Operators.{Answer, Gives, Faults, Nothing}
use Rattle.zl_value.specs.OperatorTypes.{can_fault}
use Rattle.zl_value.specs.Times.{nought}
use Rattle.zl_value.specs.Instants.{Instant, History, Step, Left}
use Rattle.zl_value.specs.System.{Course, System}
use Rattle.zl_value.specs.Runs.{IsRun}
use Rattle.zl_value.specs.declared.value.Value.{Value}
use Rattle.zl_kernel.specs.KernelForm.{KernelForm}
use Rattle.zl_kernel.specs.WellFormed.{IsWellFormed, IsWire, IsDef, can_fail}
use Rattle.zl_kernel.specs.Wires.{Registers, Mode, AtStep, AtLeft, InFlow, is_at_step, Moment}
use Rattle.zl_kernel.specs.WireRanks.{AreWireRanks}
use Rattle.zl_kernel.specs.declared.wire.Def.{Def}
use Rattle.zl_kernel.specs.declared.wire.Def.TheVariants as is
use Rattle.zl_kernel.specs.declared.wire.Wire.{Wire}
use Rattle.zl_kernel.proofs.OneSolution.{has_one_registers}
use Rattle.zl_code.specs.CodeForm.{CodeForm}
use Rattle.zl_code.specs.Method.{Cells, Given, Doing, Runs, run, method}
use Rattle.zl_code.specs.System.{events_of, mems_after, all_moved, instant_of, flow_of, system_of}
use Rattle.zl_code.specs.declared.stmt.Stmt.{Stmt}
use Rattle.zl_code.specs.declared.stmt.Found.{Found}
use Rattle.zl_codegen.specs.Orders.{IsOrder}
use Rattle.zl_codegen.specs.Needs.{is_taken, needs, left_out}
use Rattle.zl_codegen.specs.Statements.{fault_of, body}
use Rattle.zl_codegen.specs.CodeOf.{site_of, method_of, sets_of, code_of}
use Rattle.zl_codegen.specs.Laws.{IsGiven, AnyOrder}
use Rattle.zl_codegen.proofs.Closed.{needs_closed}
use Rattle.zl_codegen.proofs.Least.{least_same}
use Rattle.zl_codegen.proofs.Listed.{get-listed, within_from}
use Rattle.zl_codegen.proofs.OneNeed.{lists_same, one_need}
use Rattle.zl_codegen.proofs.Places.{order_has}
use Rattle.zl_codegen.proofs.Reports.{fault_in, fault_at}
use Rattle.zl_codegen.proofs.Solved.{solved_all}
use Rattle.zl_codegen.proofs.Solving.{reported, report}
use Rattle.zl_codegen.proofs.Typed.{entry_has}

-- a wire that has a fault, and its number
pub record HasFault (k : KernelForm) (n : ℕ) (x : Found) : Type 0 where
  pub wire : Wire
  pub is : slice_get k.wires n ≡ Some wire
  pub fails : can_fail wire.def ≡ true
  pub ord : wire.ord ≡ x.ord

reported_ord : (wire : Wire) (op : _) (a : Answer) (x : Found) → reported a (fault_of wire op) ≡ Some x → (can_fault op ≡ true) × (wire.ord ≡ x.ord)
reported_ord wire op a x = by (can_fault op) refl a
  where
    by : (t : Bool) → can_fault op ≡ t → (a : Answer) → reported a (if t then Some (record { ord = wire.ord; at = wire.at }) else None) ≡ Some x → (can_fault op ≡ true) × (wire.ord ≡ x.ord)
    by true e (Gives v) is = absurd cc
    by true e (Faults kind) is = let z : record { ord = wire.ord; fault = record { kind = kind; at = wire.at } } ≡ x = cc in (e, ap (λ (y : Found). y.ord) z)
    by true e Nothing is = absurd cc
    by false e a is = absurd cc

report_of : (k : KernelForm) (n : ℕ) (x : Found) (wire : Wire) → slice_get k.wires n ≡ Some wire → (def : Def) → wire.def ≡ def → (a : Answer) → report wire def a ≡ Some x → HasFault k n x
report_of k n x wire at (is.Lit v) of a is = absurd cc
report_of k n x wire at (is.Copy j) of a is = absurd cc
report_of k n x wire at (is.Mem j) of a is = absurd cc
report_of k n x wire at (is.In j) of a is = absurd cc
report_of k n x wire at (is.Event j) of a is = absurd cc
report_of k n x wire at is.Step of a is = absurd cc
report_of k n x wire at (is.If c p q) of a is = absurd cc
report_of k n x wire at (is.Op op ns) of a is = let it = reported_ord wire op a x is in record { wire = wire; is = at; fails = ap can_fail of ∙ it.0; ord = it.1 }

pub fault_of_wire : (k : KernelForm) (m : Moment) (r : Registers) (marks : List Bool) (n : ℕ) (x : Found) → fault_at k m r marks n ≡ Some x → HasFault k n x
fault_of_wire k m r marks n x = by (is_taken marks (left_out k m.mode) n) (slice_get k.wires n) refl
  where
    by : (t : Bool) (w : Option Wire) → slice_get k.wires n ≡ w → (if t then fault_in k m r n w else None) ≡ Some x → HasFault k n x
    by false w at is = absurd cc
    by true None at is = absurd cc
    by true (Some w) at is = report_of k n x w at w.def refl _ is

pub doing_same : (a b : Doing) → a.regs ≡ b.regs → a.mems ≡ b.mems → a.found ≡ b.found → a ≡ b
doing_same a b p q s =
    ap₂ (λ r m. let d : Doing = record { regs = r; mems = m; found = a.found } in d) p q
    ∙ ap (λ f. let d : Doing = record { regs = b.regs; mems = b.mems; found = f } in d) s

pub length_map : {X Y : Type 0} (f : X → Y) (l : List X) → length (map f l) ≡ length l
length_map f [] = refl
length_map f (x ∷ l) = ap (λ i. suc i) (length_map f l)

module _ (k : KernelForm) (ranks xs ys : List ℕ) (well : IsWellFormed k) (are : AreWireRanks k ranks) (p : IsOrder k xs) (q : IsOrder k ys) where
  module _ (mode : Mode) (g : Given) (fired : List ℕ) (events : (site : ℕ) → site < length k.sites → is_at_step mode ≡ true → get_or g.events site false ≡ among site fired) where
    abbrev m : Moment
    m = record { mode = mode; inputs = g.inputs; fired = fired; memories = g.mems }

    given : IsGiven k m g
    given = record {
      inputs = refl;
      mems = λ n j wire at of. refl;
      events = λ n site wire at of stepping. events site (site_there n site wire at of) stepping;
    }
      where
        site_there : (n site : ℕ) (wire : Wire) → slice_get k.wires n ≡ Some wire → wire.def ≡ is.Event site → site < length k.sites
        site_there n site wire at of = (subst (λ def. IsDef k wire.ty def) of (entry_has (IsWire k) k.wires n wire well.wires at).def).0

    pub same_method : (rest : List Stmt) → method (length k.wires) (method_of k mode xs rest) g ≡ method (length k.wires) (method_of k mode ys rest) g
    same_method rest =
        let sol = has_one_registers k m ranks are in
        let marks = needs k mode xs in
        let a = solved_all k xs well p m sol.registers sol.solves g given marks (needs_closed k xs well p mode).reads rest in
        let b = solved_all k ys well q m sol.registers sol.solves g given marks (needs_closed k xs well p mode).reads rest in
        let after : a.after ≡ b.after =
        doing_same a.after b.after
        (lists_same None a.after.regs b.after.regs (a.long ∙ sym b.long) (λ j less. let low : j < length k.wires = subst (λ l. j < l) a.long less in a.regs j low ∙ sym (b.regs j low)))
        (a.mems ∙ sym b.mems)
        (a.found ∙ least_same (fault_at k m sol.registers marks) xs ys has apart ∙ sym b.found) in
        a.runs ∙ ap (λ d. run g Runs rest d) after ∙ sym b.runs
        ∙ ap (λ w. method (length k.wires) (body k.wires (is_at_step mode) w (left_out k mode) [] ys rest) g) (one_need k xs ys well p q mode)
      where
        has : (n : ℕ) (x : Found) → fault_at k m (has_one_registers k m ranks are).registers (needs k mode xs) n ≡ Some x → (among n xs ≡ true) × (among n ys ≡ true)
        has n x is =
            let f = fault_of_wire k m (has_one_registers k m ranks are).registers (needs k mode xs) n x is in
            let less = within_from k.wires n f.wire f.is in (order_has k xs p n less, order_has k ys q n less)

        apart : (i n : ℕ) (x y : Found) → fault_at k m (has_one_registers k m ranks are).registers (needs k mode xs) i ≡ Some x → fault_at k m (has_one_registers k m ranks are).registers (needs k mode xs) n ≡ Some y → x.ord ≡ y.ord → i ≡ n
        apart i n x y a b e =
            let u = fault_of_wire k m (has_one_registers k m ranks are).registers (needs k mode xs) i x a in
            let v = fault_of_wire k m (has_one_registers k m ranks are).registers (needs k mode xs) n y b in
            well.order i n u.wire v.wire u.is v.is u.fails v.fails (u.ord ∙ e ∙ sym v.ord)

  events_are : (c : CodeForm) (fired : List ℕ) (site : ℕ) → site < length c.sites → get_or (events_of c fired) site false ≡ among site fired
  events_are c fired site less = get-listed (length c.sites) 0 (λ n. among n fired) false site less ∙ ap (λ n. among n fired) (let e : 0 + site ≡ site = omega arith in e)

  abbrev a : CodeForm
  a = code_of k xs

  abbrev b : CodeForm
  b = code_of k ys

  same_step : (mems : Cells) (inputs : List (Option Value)) (fired : List ℕ) → instant_of a Step mems inputs (events_of a fired) ≡ instant_of b Step mems inputs (events_of b fired)
  same_step mems inputs fired =
      ap (λ c. method c a.step (record { mems = mems; inputs = inputs; events = events_of a fired })) (length_map (λ (wire : Wire). wire.ty) k.wires)
      ∙ same_method AtStep (record { mems = mems; inputs = inputs; events = events_of a fired }) fired (λ site less stepping. events_are a fired site (subst (λ n. site < n) (sym (length_map site_of k.sites)) less)) (sets_of k)
      ∙ ap (λ c. method c b.step (record { mems = mems; inputs = inputs; events = events_of a fired })) (sym (length_map (λ (wire : Wire). wire.ty) k.wires))

  same_left : (mems : Cells) (inputs : List (Option Value)) → instant_of a Left mems inputs [] ≡ instant_of b Left mems inputs []
  same_left mems inputs =
      ap (λ c. method c a.left (record { mems = mems; inputs = inputs; events = [] })) (length_map (λ (wire : Wire). wire.ty) k.wires)
      ∙ same_method AtLeft (record { mems = mems; inputs = inputs; events = [] }) [] (λ site less stepping. absurd (let z : false ≡ true = stepping in cc)) (sets_of k)
      ∙ ap (λ c. method c b.left (record { mems = mems; inputs = inputs; events = [] })) (sym (length_map (λ (wire : Wire). wire.ty) k.wires))

  same_flow : (mems : Cells) (inputs : List (Option Value)) → flow_of a mems inputs ≡ flow_of b mems inputs
  same_flow mems inputs =
      ap (λ c. method c a.flow (record { mems = mems; inputs = inputs; events = [] })) (length_map (λ (wire : Wire). wire.ty) k.wires)
      ∙ same_method InFlow (record { mems = mems; inputs = inputs; events = [] }) [] (λ site less stepping. absurd (let z : false ≡ true = stepping in cc)) []
      ∙ ap (λ c. method c b.flow (record { mems = mems; inputs = inputs; events = [] })) (sym (length_map (λ (wire : Wire). wire.ty) k.wires))

  abbrev with_methods : (History Doing → Instant Doing → Doing) → (History Doing → Instant Doing → Course Doing → Fraction → Doing) → (History Doing → Course Doing → Fraction → Instant Doing → Doing) → System Doing Doing
  with_methods step flow left = record {
    inputs = (system_of a).inputs;
    sites = (system_of a).sites;
    step = step;
    flow = flow;
    left = left;
    fault = (system_of a).fault;
    flow_fault = (system_of a).flow_fault;
    lacks = (system_of a).lacks;
    flow_lacks = (system_of a).flow_lacks;
    demands = (system_of a).demands;
    value = (system_of a).value;
    fresh = (system_of a).fresh;
    values = (system_of a).values;
    motions = (system_of a).motions;
  }

  steps_same : (system_of a).step ≡ (system_of b).step
  steps_same = fun_ext (λ h. fun_ext (λ i. same_step (mems_after a h) i.inputs i.fired))

  flows_same : (system_of a).flow ≡ (system_of b).flow
  flows_same = fun_ext (λ h. fun_ext (λ i. fun_ext (λ y. fun_ext (λ s. same_flow i.table.mems i.inputs))))

  lefts_same : (system_of a).left ≡ (system_of b).left
  lefts_same = fun_ext (λ h. fun_ext (λ y. fun_ext (λ d. fun_ext (λ i. same_left (all_moved (y nought).regs d a.mems (mems_after a h)) i.inputs))))

  systems_same : system_of a ≡ system_of b
  systems_same =
      ap₂ (λ s f. with_methods s f (system_of a).left) steps_same flows_same
      ∙ ap (λ l. with_methods (system_of b).step (system_of b).flow l) lefts_same

pub one_system : AnyOrder
one_system k ranks xs ys well are p q =
    let e = systems_same k ranks xs ys well are p q in
    record {
      systems = e;
      runs = λ script h ending is. subst (λ s. IsRun s script h ending) e is;
      traces = λ h ending. refl;
    }
