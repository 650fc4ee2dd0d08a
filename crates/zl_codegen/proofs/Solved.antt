-- A method solves its wires, whatever their order.
use Rattle.std.specs.Prelude.{◌≡◌, ℕ, zero, suc, ◌<◌, ◌+◌, Bool, true, false, not, ◌&&◌, ◌||◌, if◌then◌else◌, List, [], ◌∷◌, ◌++◌, length, replicate, slice_get, Option, Some, None}
use Rattle.std.specs.List.{list_all, AllByRecursion}
use Rattle.std.specs.Option.{option_and_then}
use Rattle.std.proofs.Common.{refl, sym, ap, ap₂, ◌∙◌, arith, subst, inl, inr}
use Rattle.std.proofs.lemmas.Bool.{cases_eq, eq-eqb, ne_eqb, and_parts, and_from}
use Rattle.std.proofs.lemmas.List.{length-replicate}
use Rattle.zl_value.specs.Lists.{Has, among}
use Rattle.zl_value.specs.Times.{holds}
use Rattle.zl_value.specs.Operators.{Nothing, answered}
use Rattle.zl_value.specs.declared.value.Value.{Value}
use Rattle.zl_kernel.specs.KernelForm.{KernelForm}
use Rattle.zl_kernel.specs.FlowWires.{listed_in, reads, is_of_flows}
use Rattle.zl_kernel.specs.WellFormed.{IsWellFormed}
use Rattle.zl_kernel.specs.Wires.{Registers, held, Mode as ModeOf, AtStep, AtLeft, InFlow, is_at_step, is_solved, is_open, answer as answer_in, wire_answer, wire_value, Moment, turn}
use Rattle.zl_kernel.specs.declared.wire.Wire.{Wire}
use Rattle.zl_kernel.proofs.WireReads.{value_same}
use Rattle.zl_kernel.proofs.OneSolution.{solved_at}
use Rattle.zl_code.specs.Method.{cell, Given, Doing, Mode, Runs, run, fresh}
use Rattle.zl_code.specs.declared.stmt.Stmt.{Stmt}
use Rattle.zl_codegen.specs.Orders.{IsOrder}
use Rattle.zl_codegen.specs.Guards.{guard_of, guards_up, chain, change}
use Rattle.zl_codegen.specs.Needs.{is_marked, is_taken, left_out, flow_wires}
use Rattle.zl_codegen.specs.Statements.{define, define_in, body}
use Rattle.zl_codegen.specs.Laws.{IsGiven}
use Rattle.zl_codegen.proofs.Listed.{get-listed, within_from}
use Rattle.zl_codegen.proofs.MarkLists.{append_none}
use Rattle.zl_codegen.proofs.Ranked.{read_there}
use Rattle.zl_codegen.proofs.Modes.{mode_in, is_running, running-in, runs_if, run_close, run_change, passed, mode_same}
use Rattle.zl_codegen.proofs.Solving.{cut_all, cut_each, true_or, among_at, at_among, front, middle, moved_on, among-last, open_from, IsStep, kept_is, met, report, does}
use Rattle.zl_codegen.proofs.Least.{over, over_last}
use Rattle.zl_codegen.proofs.Places.{wire_at, guard_read, order_within, order_has}
use Rattle.zl_codegen.proofs.Reports.{operand_read, report_same, report_none, fault_in, fault_at}

module _ (k : KernelForm) (list : List ℕ) (well : IsWellFormed k) (order : IsOrder k list) (m : Moment) (r : Registers) (solves : r ≡ turn k m r) (g : Given) (given : IsGiven k m g) (marks : List Bool) (spread : (n j : ℕ) (wire : Wire) → slice_get k.wires n ≡ Some wire → is_taken marks (left_out k m.mode) n ≡ true → Has (reads wire) j → is_marked marks j ≡ true) where
  abbrev out : List Bool
  out = left_out k m.mode

  abbrev taken : ℕ → Bool
  taken n = is_taken marks out n

  -- what is left out isn't solved
  pub solved_is : (n : ℕ) → n < length k.wires → not (is_marked out n) ≡ is_solved k m.mode n
  solved_is n less = by m.mode
    where
      flows : is_marked (flow_wires k) n ≡ is_of_flows k n
      flows = get-listed (length k.wires) 0 (λ i. is_of_flows k i) false n less ∙ ap (λ i. is_of_flows k i) (let e : 0 + n ≡ n = omega arith in e)

      by : (mode : ModeOf) → not (is_marked (left_out k mode) n) ≡ is_solved k mode n
      by AtStep = ap not flows
      by AtLeft = ap not flows
      by InFlow = refl

  value_is : (n : ℕ) (wire : Wire) → slice_get k.wires n ≡ Some wire → held r n ≡ wire_value k m (held r) n (Some wire)
  value_is n wire at = solved_at k m r solves n ∙ ap (λ w. wire_value k m (held r) n w) at

  -- what a register holds once these wires are passed
  abbrev now : List ℕ → ℕ → Option Value
  now done n = if among n done && taken n then held r n else None

  record Are (done : List ℕ) (d : Doing) : Type 0 where
    long : length d.regs ≡ length k.wires
    each : (n : ℕ) → n < length k.wires → cell d.regs n ≡ now done n
    mems : d.mems ≡ g.mems
    found : d.found ≡ over (fault_at k m r marks) None done

  -- a wire that is solved nowhere is empty
  pub unsolved : (n : ℕ) → n < length k.wires → is_marked out n ≡ true → held r n ≡ None
  unsolved n less is =
      let w = wire_at k n less in
      let never : is_solved k m.mode n ≡ false = sym (solved_is n less) ∙ ap not is in
      value_is n w.0 w.1 ∙ ap (λ b. answered (if b && is_open (held r) w.0.guard then answer_in m (held r) w.0.def else Nothing)) never

  now_is : (done : List ℕ) (n : ℕ) → among n done ≡ true → taken n ≡ true → now done n ≡ held r n
  now_is done n p q = ap₂ (λ a b. if a && b then held r n else None) p q

  now_none : (done : List ℕ) (n : ℕ) → taken n ≡ false → now done n ≡ None
  now_none done n q = ap (λ b. if among n done && b then held r n else None) q ∙ by (among n done)
    where
      by : (a : Bool) → (if a && false then held r n else None) ≡ None
      by true = refl
      by false = refl

  taken_if : (n : ℕ) → is_marked marks n ≡ true → is_marked out n ≡ false → taken n ≡ true
  taken_if n p q = ap₂ (λ a b. a && not b) p q

  not_taken : (n : ℕ) → is_marked out n ≡ true → taken n ≡ false
  not_taken n q = ap (λ b. is_marked marks n && not b) q ∙ by (is_marked marks n)
    where
      by : (a : Bool) → (a && false) ≡ false
      by true = refl
      by false = refl

  -- a marked wire that is passed stands in its register as in the kernel
  same_at : (done : List ℕ) (d : Doing) → Are done d → (n : ℕ) → n < length k.wires → among n done ≡ true → is_marked marks n ≡ true → cell d.regs n ≡ held r n
  same_at done d are n less in' marked = true_or (is_marked out n) (cell d.regs n ≡ held r n)
      (λ left. are.each n less ∙ now_none done n (not_taken n left) ∙ sym (unsolved n less left))
      (λ stays. are.each n less ∙ now_is done n in' (taken_if n marked stays))

  -- what stands in front of the rest of the order
  module _ (done behind : List ℕ) (parts : list ≡ done ++ behind) where
    placed : (i j : ℕ) → i < length done → slice_get list i ≡ Some j → among j done ≡ true
    placed i j less is = among_at done i j (sym (front done behind i less) ∙ ap (λ l. slice_get l i) (sym parts) ∙ is)

    -- with a wire stands all that it reads
    reads_in : (n j : ℕ) (wire : Wire) → among n done ≡ true → slice_get k.wires n ≡ Some wire → Has (reads wire) j → among j done ≡ true
    reads_in n j wire in' at has =
        let p = at_among done n in' in
        let less = within_from done p.0 n p.1 in
        let s = order.behind p.0 n j wire (ap (λ l. slice_get l p.0) parts ∙ front done behind p.0 less ∙ p.1) at has in
        let before : s.place < p.0 = s.before in
        placed s.place j (omega arith) s.is

    module _ (d : Doing) (are : Are done d) where
      abbrev hold : ℕ → Bool
      hold j = holds (cell d.regs j)

      -- passed, a wire, and marked
      record IsReady (j : ℕ) : Type 0 where
        passed : among j done ≡ true
        there : j < length k.wires
        marked : is_marked marks j ≡ true

      open_same : (guard : Option ℕ) → ((j : ℕ) → Has (listed_in guard) j → IsReady j) → is_open (cell d.regs) guard ≡ is_open (held r) guard
      open_same None ready = refl
      open_same (Some j) ready = let is = ready j (record { index = 0; is = refl }) in ap holds (same_at done d are j is.there is.passed is.marked)

      -- a guard that holds is a wire that the method solves, whose guard holds
      above_ready : (j : ℕ) (wire : Wire) → slice_get k.wires j ≡ Some wire → IsReady j → hold j ≡ true → ((i : ℕ) → Has (listed_in wire.guard) i → IsReady i) × (is_open (held r) wire.guard ≡ true)
      above_ready j wire at ready holding =
          let true' : holds (held r j) ≡ true = ap holds (sym (same_at done d are j ready.there ready.passed ready.marked)) ∙ holding in
          let both = open_from (is_solved k m.mode j) (is_open (held r) wire.guard) (answer_in m (held r) wire.def) (ap holds (sym (value_is j wire at)) ∙ true') in
          let mine : taken j ≡ true = and_from (is_marked marks j) (not (is_marked out j)) ready.marked (solved_is j ready.there ∙ both.0) in
          ((λ i has. let read = guard_read wire i has in record { passed = reads_in j i wire ready.passed at read; there = read_there k well j i wire at read; marked = spread j i wire at mine read }), both.1)

      guard_at : (j : ℕ) (wire : Wire) → slice_get k.wires j ≡ Some wire → guard_of k.wires j ≡ wire.guard
      guard_at j wire at = ap (λ w. option_and_then (λ (v : Wire). v.guard) w) at

      -- all above a guard hold if it does
      up : (room : ℕ) (guard : Option ℕ) → ((j : ℕ) → Has (listed_in guard) j → IsReady j) → is_open (cell d.regs) guard ≡ true → list_all hold (guards_up k.wires room guard) ≡ true
      up zero guard ready opened = refl
      up (suc room) None ready opened = refl
      up (suc room) (Some j) ready opened =
          let is = ready j (record { index = 0; is = refl }) in
          let w = wire_at k j is.there in
          let more = above_ready j w.0 w.1 is opened in
          and_from (hold j) (list_all hold (guards_up k.wires room (guard_of k.wires j))) opened
          (ap (λ o. list_all hold (guards_up k.wires room o)) (guard_at j w.0 w.1) ∙ up room w.0.guard more.0 (open_same w.0.guard more.0 ∙ more.1))

      chain_opens : (guard : Option ℕ) → ((j : ℕ) → Has (listed_in guard) j → IsReady j) → list_all hold (chain k.wires guard) ≡ is_open (cell d.regs) guard
      chain_opens None ready = refl
      chain_opens (Some j) ready =
          let is = ready j (record { index = 0; is = refl }) in
          let w = wire_at k j is.there in
          cut_all hold j (guards_up k.wires 8 (guard_of k.wires j)) (λ opened. let more = above_ready j w.0 w.1 is opened in ap (λ o. list_all hold (guards_up k.wires 8 o)) (guard_at j w.0 w.1) ∙ up 8 w.0.guard more.0 (open_same w.0.guard more.0 ∙ more.1))

    -- the guards of a chain are passed
    ups_in : (room : ℕ) (guard : Option ℕ) → ((j : ℕ) → Has (listed_in guard) j → (among j done ≡ true) × (j < length k.wires)) → AllByRecursion (λ j. (among j done ≡ true) × (j < length k.wires)) (guards_up k.wires room guard)
    ups_in zero guard in' = tt
    ups_in (suc room) None in' = tt
    ups_in (suc room) (Some j) in' =
        let is = in' j (record { index = 0; is = refl }) in
        let w = wire_at k j is.1 in (
          is,
          subst (λ o. AllByRecursion (λ i. (among i done ≡ true) × (i < length k.wires)) (guards_up k.wires room o)) (sym (ap (λ v. option_and_then (λ (x : Wire). x.guard) v) w.1))
              (ups_in room w.0.guard (λ i has. let read = guard_read w.0 i has in (reads_in j i w.0 is.0 w.1 read, read_there k well j i w.0 w.1 read))),
        )

    chain_in : (guard : Option ℕ) → ((j : ℕ) → Has (listed_in guard) j → (among j done ≡ true) × (j < length k.wires)) → AllByRecursion (λ j. (among j done ≡ true) × (j < length k.wires)) (chain k.wires guard)
    chain_in guard in' = cut_each (λ j. (among j done ≡ true) × (j < length k.wires)) (guards_up k.wires 9 guard) guard (ups_in 9 guard in') (own guard in')
      where
        own : (guard : Option ℕ) → ((j : ℕ) → Has (listed_in guard) j → (among j done ≡ true) × (j < length k.wires)) → AllByRecursion (λ j. (among j done ≡ true) × (j < length k.wires)) (listed_in guard)
        own None in' = tt
        own (Some j) in' = (in' j (record { index = 0; is = refl }), tt)

  now_empty : (done : List ℕ) (n : ℕ) → held r n ≡ None → now done n ≡ None
  now_empty done n none = by (among n done && taken n)
    where
      by : (t : Bool) → (if t then held r n else None) ≡ None
      by true = none
      by false = refl

  -- one wire more is passed
  now_other : (done : List ℕ) (n j : ℕ) → (j ≡ n → ⊥) → now done j ≡ now (done ++ n ∷ []) j
  now_other done n j other = ap (λ b. if b && taken j then held r j else None) (sym (among-last done n j ∙ ap (λ b. among j done || b) (ne_eqb n j (λ e. other (sym e))) ∙ none (among j done)))
    where
      none : (b : Bool) → (b || false) ≡ b
      none true = refl
      none false = refl

  last_in : (done : List ℕ) (n : ℕ) → among n (done ++ n ∷ []) ≡ true
  last_in done n = among-last done n n ∙ ap (λ b. among n done || b) (eq-eqb n n refl) ∙ by (among n done)
    where
      by : (b : Bool) → (b || true) ≡ true
      by true = refl
      by false = refl

  skipped : (done : List ℕ) (n : ℕ) (d : Doing) → Are done d → taken n ≡ false → Are (done ++ n ∷ []) d
  skipped done n d are never = record {
    long = are.long;
    each = λ j less. are.each j less ∙ by j;
    mems = are.mems;
    found = are.found ∙ sym (over_last (fault_at k m r marks) None done n ∙ ap (λ t. met (over (fault_at k m r marks) None done) (if t then fault_in k m r n (slice_get k.wires n) else None)) never);
  }
    where
      by : (j : ℕ) → now done j ≡ now (done ++ n ∷ []) j
      by j = elim (cases_eq j n) [
        | inl same ↦ subst (λ i. now done i ≡ now (done ++ n ∷ []) i) (sym same) (now_none done n never ∙ sym (now_none (done ++ n ∷ []) n never))
        | inr other ↦ now_other done n j other
      ]

  stepped : (done : List ℕ) (n : ℕ) (d after : Doing) → Are done d → taken n ≡ true → IsStep d after n (held r n) → after.mems ≡ d.mems → after.found ≡ met d.found (fault_in k m r n (slice_get k.wires n)) → Are (done ++ n ∷ []) after
  stepped done n d after are sure step mems found = record {
    long = step.long ∙ are.long;
    each = λ j less. elim (cases_eq j n) [
      | inl same ↦ subst (λ i. cell after.regs i ≡ now (done ++ n ∷ []) i) (sym same) (step.new ∙ sym (now_is (done ++ n ∷ []) n (last_in done n) sure))
      | inr other ↦ step.others j other ∙ are.each j less ∙ now_other done n j other
    ];
    mems = mems ∙ are.mems;
    found =
        found ∙ ap (λ f. met f (fault_in k m r n (slice_get k.wires n))) are.found
        ∙ sym (over_last (fault_at k m r marks) None done n ∙ ap (λ t. met (over (fault_at k m r marks) None done) (if t then fault_in k m r n (slice_get k.wires n) else None)) sure);
  }

  -- the wire does what the kernel says, or is passed over
  record Stepped (mode : Mode) (d : Doing) (stmts rest : List Stmt) (n : ℕ) (wire : Wire) : Type 0 where
    after : Doing
    runs : run g mode stmts d ≡ run g mode rest after
    step : IsStep d after n (held r n)
    mems : after.mems ≡ d.mems
    found : after.found ≡ met d.found (report wire wire.def (wire_answer k m (held r) n wire))

  module _ (done behind : List ℕ) (n : ℕ) (parts : list ≡ done ++ n ∷ behind) (d : Doing) (are : Are done d) (wire : Wire) (at : slice_get k.wires n ≡ Some wire) (sure : taken n ≡ true) where
    less : n < length k.wires
    less = within_from k.wires n wire at

    read_ready : (j : ℕ) → Has (reads wire) j → IsReady done (n ∷ behind) parts d are j
    read_ready j has =
        let s = order.behind (length done) n j wire (ap (λ l. slice_get l (length done)) parts ∙ middle done behind n) at has in
        record { passed = placed done (n ∷ behind) parts s.place j s.before s.is; there = read_there k well n j wire at has; marked = spread n j wire at sure has }

    guard_ready : (j : ℕ) → Has (listed_in wire.guard) j → IsReady done (n ∷ behind) parts d are j
    guard_ready j has = read_ready j (guard_read wire j has)

    agrees : held r n ≡ wire_value k m (cell d.regs) n (Some wire)
    agrees =
        value_is n wire at
        ∙ value_same (held r) (cell d.regs) k m n (Some wire) (λ w e j has. let has' : Has (reads wire) j = subst (λ v. Has (reads v) j) (let q : w ≡ wire = cc in q) has in let is = read_ready j has' in sym (same_at done d are j is.there is.passed is.marked))

    solved : is_solved k m.mode n ≡ true
    solved = sym (solved_is n less) ∙ (and_parts (is_marked marks n) (not (is_marked out n)) sure).1

    chained : is_running (mode_in d.regs (chain k.wires wire.guard) Runs) ≡ is_open (cell d.regs) wire.guard
    chained = running-in d.regs (chain k.wires wire.guard) Runs ∙ chain_opens done (n ∷ behind) parts d are wire.guard guard_ready

    open_value : is_open (cell d.regs) wire.guard ≡ true → held r n ≡ answered (answer_in m (cell d.regs) wire.def)
    open_value opened = agrees ∙ ap₂ (λ a b. answered (if a && b then answer_in m (cell d.regs) wire.def else Nothing)) solved opened

    shut_value : is_open (cell d.regs) wire.guard ≡ false → held r n ≡ None
    shut_value shut = agrees ∙ ap₂ (λ a b. answered (if a && b then answer_in m (cell d.regs) wire.def else Nothing)) solved shut

    holds_same : (j : ℕ) → Has (reads wire) j → cell d.regs j ≡ held r j
    holds_same j has = let is = read_ready j has in same_at done d are j is.there is.passed is.marked

    guard_same : is_open (cell d.regs) wire.guard ≡ is_open (held r) wire.guard
    guard_same = open_same done (n ∷ behind) parts d are wire.guard guard_ready

    -- the wire's fault
    report_open : is_open (cell d.regs) wire.guard ≡ true → report wire wire.def (answer_in m (cell d.regs) wire.def) ≡ report wire wire.def (wire_answer k m (held r) n wire)
    report_open opened =
        report_same (cell d.regs) (held r) m wire wire.def (λ j has. holds_same j (operand_read wire j has))
        ∙ sym (ap₂ (λ a b. report wire wire.def (if a && b then answer_in m (held r) wire.def else Nothing)) solved (sym guard_same ∙ opened))

    report_shut : is_open (cell d.regs) wire.guard ≡ false → None ≡ report wire wire.def (wire_answer k m (held r) n wire)
    report_shut shut =
        sym (report_none wire wire.def)
        ∙ sym (ap₂ (λ a b. report wire wire.def (if a && b then answer_in m (held r) wire.def else Nothing)) solved (sym guard_same ∙ shut))

    one_wire : (rest : List Stmt) → Stepped (mode_in d.regs (chain k.wires wire.guard) Runs) d (define (is_at_step m.mode) n wire wire.def rest) rest n wire
    one_wire rest = true_or (is_open (cell d.regs) wire.guard) (Stepped mode d (define (is_at_step m.mode) n wire wire.def rest) rest n wire) opened shut
      where
        mode : Mode
        mode = mode_in d.regs (chain k.wires wire.guard) Runs

        opened : is_open (cell d.regs) wire.guard ≡ true → Stepped mode d (define (is_at_step m.mode) n wire wire.def rest) rest n wire
        opened is =
            let runs : mode ≡ Runs = runs_if mode (chained ∙ is) in
            let it = does k m g given d n wire wire.def rest at refl (subst (λ l. n < l) (sym are.long) less) (λ none. are.each n less ∙ now_empty done n (open_value is ∙ none)) in
            record {
              after = it.after;
              runs = ap (λ x. run g x (define (is_at_step m.mode) n wire wire.def rest) d) runs ∙ it.runs ∙ sym (ap (λ x. run g x rest it.after) runs);
              step = subst (λ v. IsStep d it.after n v) (sym (open_value is)) it.step;
              mems = it.mems;
              found = it.found ∙ ap (λ f. met d.found f) (report_open is);
            }

        shut : is_open (cell d.regs) wire.guard ≡ false → Stepped mode d (define (is_at_step m.mode) n wire wire.def rest) rest n wire
        shut is = record {
          after = d;
          runs = passed g mode (chained ∙ is) (is_at_step m.mode) n wire wire.def rest d;
          step = kept_is d n (held r n) (are.each n less ∙ now_empty done n (shut_value is) ∙ sym (shut_value is));
          mems = refl;
          found = ap (λ f. met d.found f) (report_shut is);
        }

    -- what guards the wire stays as it is
    still : (after : Doing) → IsStep d after n (held r n) → mode_in d.regs (chain k.wires wire.guard) Runs ≡ mode_in after.regs (chain k.wires wire.guard) Runs
    still after step =
        mode_same d.regs after.regs (λ j. (among j done ≡ true) × (j < length k.wires)) by (chain k.wires wire.guard) Runs
        (chain_in done (n ∷ behind) parts wire.guard (λ j has. let is = guard_ready j has in (is.passed, is.there)))
      where
        by : (j : ℕ) → (among j done ≡ true) × (j < length k.wires) → cell d.regs j ≡ cell after.regs j
        by j is = elim (cases_eq j n) [
          | inl same ↦ subst (λ i. cell d.regs i ≡ cell after.regs i) (sym same) (are.each n less ∙ now_is done n (subst (λ i. among i done ≡ true) same is.0) sure ∙ sym step.new)
          | inr other ↦ sym (step.others j other)
        ]

  record Ran (opened behind : List ℕ) (rest : List Stmt) (d : Doing) : Type 0 where
    after : Doing
    runs : run g (mode_in d.regs opened Runs) (body k.wires (is_at_step m.mode) marks out opened behind rest) d ≡ run g Runs rest after
    are : Are list after

  in_order : (done behind : List ℕ) (n : ℕ) → list ≡ done ++ n ∷ behind → n < length k.wires
  in_order done behind n parts =
      let at = ap (λ l. slice_get l (length done)) parts ∙ middle done behind n in
      order_within k list order (length done) n at

  -- a wire that the method solves, and then the rest
  one_more : (done behind : List ℕ) (n : ℕ) (parts : list ≡ done ++ n ∷ behind) (opened : List ℕ) (rest : List Stmt) (d : Doing) (are : Are done d) → taken n ≡ true → ((after : Doing) → Are (done ++ n ∷ []) after → Ran (chain k.wires (guard_of k.wires n)) behind rest after) → Ran opened (n ∷ behind) rest d
  one_more done behind n parts opened rest d are is next_ran =
      let w = wire_at k n (in_order done behind n parts) in
      let guard : guard_of k.wires n ≡ w.0.guard = ap (λ v. option_and_then (λ (x : Wire). x.guard) v) w.1 in
      let left : List Stmt = body k.wires (is_at_step m.mode) marks out (chain k.wires (guard_of k.wires n)) behind rest in
      let one = one_wire done behind n parts d are w.0 w.1 is left in
      let it = next_ran one.after (stepped done n d one.after are is one.step one.mems (one.found ∙ ap (λ v. met d.found (fault_in k m r n v)) (sym w.1))) in
      record {
        after = it.after;
        runs =
            ap (λ t. run g (mode_in d.regs opened Runs) (if t then change opened (chain k.wires (guard_of k.wires n)) (define_in (is_at_step m.mode) n (slice_get k.wires n) left) else body k.wires (is_at_step m.mode) marks out opened behind rest) d) is
            ∙ run_change g opened (chain k.wires (guard_of k.wires n)) Runs (define_in (is_at_step m.mode) n (slice_get k.wires n) left) d
            ∙ ap₂ (λ o v. run g (mode_in d.regs (chain k.wires o) Runs) (define_in (is_at_step m.mode) n v left) d) guard w.1
            ∙ one.runs
            ∙ ap (λ x. run g x left one.after) (still done behind n parts d are w.0 w.1 is one.after one.step)
            ∙ ap (λ o. run g (mode_in one.after.regs (chain k.wires o) Runs) left one.after) (sym guard)
            ∙ it.runs;
        are = it.are;
      }

  none_more : (done behind : List ℕ) (n : ℕ) (opened : List ℕ) (rest : List Stmt) (d : Doing) → taken n ≡ false → Ran opened behind rest d → Ran opened (n ∷ behind) rest d
  none_more done behind n opened rest d is it = record {
    after = it.after;
    runs = ap (λ t. run g (mode_in d.regs opened Runs) (if t then change opened (chain k.wires (guard_of k.wires n)) (define_in (is_at_step m.mode) n (slice_get k.wires n) (body k.wires (is_at_step m.mode) marks out (chain k.wires (guard_of k.wires n)) behind rest)) else body k.wires (is_at_step m.mode) marks out opened behind rest) d) is ∙ it.runs;
    are = it.are;
  }

  all_wires : (done behind : List ℕ) → list ≡ done ++ behind → (opened : List ℕ) (rest : List Stmt) (d : Doing) → Are done d → Ran opened behind rest d
  all_wires done [] parts opened rest d are = record { after = d; runs = run_close g opened Runs rest d; are = subst (λ l. Are l d) (sym (parts ∙ append_none done)) are }
  all_wires done (n ∷ behind) parts opened rest d are =
      true_or (taken n) (Ran opened (n ∷ behind) rest d)
      (λ is. one_more done behind n parts opened rest d are is (λ after now. all_wires (done ++ n ∷ []) behind (parts ∙ moved_on done n behind) (chain k.wires (guard_of k.wires n)) rest after now))
      (λ is. none_more done behind n opened rest d is (all_wires (done ++ n ∷ []) behind (parts ∙ moved_on done n behind) opened rest d (skipped done n d are is)))

  blank : Are [] (fresh (length k.wires) g)
  blank = record { long = length-replicate (length k.wires) None; each = λ n less. nothing (length k.wires) n; mems = refl; found = refl }
    where
      nothing : (count n : ℕ) → cell (replicate count None) n ≡ None
      nothing zero n = refl
      nothing (suc count) zero = refl
      nothing (suc count) (suc n) = nothing count n

  -- in the end all is passed
  pub record Ends (rest : List Stmt) : Type 0 where
    pub after : Doing
    pub runs : run g Runs (body k.wires (is_at_step m.mode) marks out [] list rest) (fresh (length k.wires) g) ≡ run g Runs rest after
    pub long : length after.regs ≡ length k.wires
    pub regs : (n : ℕ) → n < length k.wires → cell after.regs n ≡ (if taken n then held r n else None)
    pub mems : after.mems ≡ g.mems
    pub found : after.found ≡ over (fault_at k m r marks) None list

  pub solved_all : (rest : List Stmt) → Ends rest
  solved_all rest =
      let it = all_wires [] list refl [] rest (fresh (length k.wires) g) blank in
      record {
        after = it.after;
        runs = it.runs;
        long = it.are.long;
        regs = λ n less. it.are.each n less ∙ ap (λ b. if b && taken n then held r n else None) (order_has k list order n less);
        mems = it.are.mems;
        found = it.are.found;
      }
