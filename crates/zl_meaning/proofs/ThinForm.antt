-- The run of the simplest form with a flow.
use Rattle.std.specs.Prelude.{◌≡◌, ℕ, ◌+◌, ◌<◌, pos, Bool, true, false, not, ◌&&◌, ◌||◌, if◌then◌else◌, List, [], ◌∷◌, ◌++◌, get_or, is_some, Option, Some, None, ⊤}
use Rattle.std.specs.List.{concat}
use Rattle.std.proofs.Common.{lit<, refl, sym, ap, ap₂, ◌∙◌, ⊎_elim, inl, inr, append-nil, append_assoc}
use Rattle.zl_value.specs.Fraction.{Fraction, IsReduced, IsFrac, add, sub, mul, fits}
use Rattle.zl_value.specs.Order.{below}
use Rattle.zl_value.specs.Lines.{instant_line, ending_line}
use Rattle.zl_value.specs.Instants.{Step, Left, one_if}
use Rattle.zl_value.specs.Lists.{when}
use Rattle.zl_value.specs.Loop.{Ends, Flows, step_or_bound}
use Rattle.zl_value.specs.System.{Course, System, next, move_fault}
use Rattle.zl_value.specs.Runs.{StepAfter, FlowAfter, MoveAfter, LeftAfter, ByMove}
use Rattle.zl_value.specs.Traces.{line_of}
use Rattle.zl_value.specs.Script.{IsTime}
use Rattle.zl_value.specs.Stops.{line_for, is_stop, is_clear}
use Rattle.zl_value.specs.Times.{nought, unit, is_same}
use Rattle.zl_value.specs.Widths.{nowhere}
use Rattle.zl_value.specs.declared.arith.Arith.TheVariants.{Range}
use Rattle.zl_value.specs.declared.script.Ending.{Ending}
use Rattle.zl_value.specs.declared.script.Ending.TheVariants.{Horizon, Fault as EndsInFault}
use Rattle.zl_value.specs.declared.script.Mark.TheVariants.{Step as StepMark, Left as LeftMark, Flow as FlowMark}
use Rattle.zl_value.specs.declared.script.Script.{Script}
use Rattle.zl_value.specs.declared.thin.Thin.{Thin}
use Rattle.zl_value.specs.declared.value.Fault.{Fault}
use Rattle.zl_value.specs.declared.value.Value.TheVariants.{F}
use Rattle.zl_value.proofs.FractionLaws.{IsReduced-whole, add-zero, zero-add, mul-zero, mul_comm, sub-self}
use Rattle.zl_value.proofs.FractionOrder.{below-self, below-zero, below_cases, same_parts, same_parts-self}
use Rattle.zl_value.proofs.LinearLaws.{line_slope}
use Rattle.zl_meaning.specs.FlatForm.{FlatForm}
use Rattle.zl_meaning.specs.State.{Active, Table, Node, AtControl, AtReset, AtLater, AtEntry, AtRunning, AtStrong, AtWeak, AtPlace, AtUsed, AtValue}
use Rattle.zl_meaning.specs.History.{Instant, History}
use Rattle.zl_meaning.specs.Equation.{equation, turn}
use Rattle.zl_meaning.specs.Flow.{FlowTable}
use Rattle.zl_meaning.specs.System.{system_of}
use Rattle.zl_meaning.specs.Run.{IsRun}
use Rattle.zl_meaning.specs.Trace.{outputs, trace}
use Rattle.zl_meaning.specs.Reading.{ReadsControl, ReadsReset, ReadsLater, ReadsPlace, ReadsUsed, ReadsValue, Reads, HasNodeRanks}
use Rattle.zl_meaning.specs.ThinForm.{ThinText, thin_form, thin_grades, horizon_script, increment, arrival, thin_run_end, thin_line, thin_run_lines, ThinRuns}
use Rattle.zl_meaning.proofs.NodeRanks.{numbered}
use Rattle.zl_meaning.proofs.OneRun.{one_run}

-- what stands where the variable has this value, at the first step and in the flow
abbrev table_at : Thin → Bool → Fraction → Table
table_at thin fresh value = record {
  controls = Active ∷ [];
  resets = false ∷ [];
  later = false ∷ [];
  entries = [];
  running = [];
  strong = [];
  weak = [];
  places = Some (F value) ∷ [];
  used = true ∷ true ∷ fresh ∷ [];
  values = Some (F value) ∷ Some (F thin.slope) ∷ Some (F thin.start) ∷ [];
}

abbrev flow_table : Thin → Fraction → Table
flow_table thin s = table_at thin false (add thin.start (mul s thin.slope))

-- the flow: all its slopes are fine
abbrev flow_of : Thin → Course FlowTable
flow_of thin s = record { table = flow_table thin s; fine = true ∷ true ∷ true ∷ [] }

abbrev thin_system : Thin → ThinText → System Table FlowTable
thin_system thin text = system_of (thin_form thin text) thin_grades

-- the first step, and the left end of the flow to the horizon
abbrev first_step : Thin → Instant
first_step thin = record { kind = Step; time = nought; inputs = []; fired = []; table = table_at thin true thin.start }

abbrev left_end : Thin → Fraction → Instant
left_end thin horizon = record { kind = Left; time = horizon; inputs = []; fired = []; table = flow_table thin horizon }

step_is : (thin : Thin) (text : ThinText) (horizon : Fraction) (steps : ℕ) → StepAfter (thin_system thin text) (horizon_script horizon steps) [] (first_step thin)
unfolding equation turn
step_is thin text horizon steps = record { due = refl; kind = refl; time = refl; inputs = refl; fired = refl; solves = refl }

-- what follows the first step, and what follows the left end
after_step : (thin : Thin) (text : ThinText) (horizon : Fraction) (steps : ℕ) (b : Bool) → is_same nought horizon ≡ b → next (thin_system thin text) (horizon_script horizon steps) (first_step thin ∷ []) ≡ (if b then Ends Horizon else Flows)
after_step thin text horizon steps b e = ap (λ x. if x then Ends Horizon else Flows) e

after_left : (thin : Thin) (text : ThinText) (horizon : Fraction) (steps : ℕ) → is_same nought horizon ≡ false → next (thin_system thin text) (horizon_script horizon steps) (left_end thin horizon ∷ first_step thin ∷ []) ≡ Ends Horizon
after_left thin text horizon steps e =
    ap (λ x. if is_some (line_for (horizon_script horizon steps) horizon (0 + (one_if x + 0))) then step_or_bound (horizon_script horizon steps) 1 else (if is_same horizon horizon then Ends Horizon else Flows)) e
    ∙ ap (λ x. if x then Ends Horizon else Flows) (same_parts-self horizon)

-- numbers in the width
nought_fits : fits nought ≡ true
unfolding fits
nought_fits = refl

slope_is : (thin : Thin) → IsFrac thin.start → IsFrac thin.slope → fits (sub (add thin.start (mul unit thin.slope)) (add thin.start (mul nought thin.slope))) ≡ true
slope_is thin a k = ap (λ x. fits x) (line_slope thin.start thin.slope a.reduced k.reduced) ∙ k.fits

still_is : (x : Fraction) → IsReduced x → fits (sub x x) ≡ true
still_is x r = ap (λ y. fits y) (sub-self x r.above) ∙ nought_fits

all_three : {a b c : Bool} → a ≡ true → b ≡ true → c ≡ true → true ∷ true ∷ true ∷ [] ≡ (a && true) ∷ (b && true) ∷ (c && true) ∷ []
all_three p q r = rw (p, q, r) refl

flow_is : (thin : Thin) (text : ThinText) (horizon : Fraction) (steps : ℕ) → IsFrac thin.start → IsFrac thin.slope → is_same nought horizon ≡ false → FlowAfter (thin_system thin text) (horizon_script horizon steps) [] (first_step thin) (flow_of thin)
unfolding equation turn
flow_is thin text horizon steps a k e = record {
  due = after_step thin text horizon steps false e;
  solves = λ s r l.
      ap (λ l. let x : FlowTable = record { table = flow_table thin s; fine = l } in x)
      (all_three (slope_is thin a k) (still_is thin.slope k.reduced) (still_is thin.start a.reduced));
}

-- the flow lasts up to the horizon
later_than_zero : (horizon : Fraction) → IsTime horizon → is_same nought horizon ≡ false → below nought horizon ≡ true
later_than_zero horizon t e =
    ⊎_elim (λ less. less)
    (λ rest. ⊎_elim
    (λ same. let clash : true ≡ false = sym (same_parts-self nought) ∙ ap (λ x. is_same nought x) same ∙ e in absurd cc)
    (λ more. let clash : true ≡ false = sym more ∙ below-zero horizon ∙ t.start in absurd cc) rest)
    (below_cases nought horizon (IsReduced-whole (pos 0)) t.number.reduced)

stops_there : (horizon : Fraction) (steps : ℕ) (to : Fraction) → to ≡ horizon → (is_stop (horizon_script horizon steps) to || false) ≡ true
stops_there horizon steps to e = ap (λ x. (is_same x horizon || false) || false) e ∙ ap (λ b. (b || false) || false) (same_parts-self horizon)

clear_up_to : (horizon : Fraction) (steps : ℕ) (to : Fraction) → to ≡ horizon → below nought horizon ≡ true → is_clear (horizon_script horizon steps) nought to ≡ true
clear_up_to horizon steps to e p =
    ap (λ x. not (below nought horizon && below horizon x) && true) e ∙ ap₂ (λ x y. not (x && y) && true) p (below-self horizon)

first_two : {a b : Bool} (x y : Option Fault) → a ≡ true → b ≡ true → (if a then (if b then None else y) else x) ≡ None
first_two x y p q = rw (p, q) refl

move_is : (thin : Thin) (text : ThinText) (horizon : Fraction) (steps : ℕ) → IsFrac thin.start → IsFrac thin.slope → IsTime horizon → is_same nought horizon ≡ false → MoveAfter (thin_system thin text) (horizon_script horizon steps) [] (first_step thin) (flow_of thin) horizon
unfolding flow_is
move_is thin text horizon steps a k t e =
    let positive = later_than_zero horizon t e in
    let to = zero-add horizon t.number.reduced in
    record {
      flow = flow_is thin text horizon steps a k e;
      right = first_two (Some (record { kind = Range; at = text.result })) (Some (record { kind = Range; at = text.slope })) (slope_is thin a k) (still_is thin.slope k.reduced);
      whole = refl;
      lasts = record {
        reduced = t.number.reduced;
        positive = positive;
        reached = stops_there horizon steps (add nought horizon) to;
        clear = clear_up_to horizon steps (add nought horizon) to positive;
        first = λ s r l u. refl;
      };
    }

-- what moves, and whether it stays in the width
moves_or : (thin : Thin) (text : ThinText) (horizon : Fraction) (a b : Bool) → fits horizon ≡ true → fits (add nought horizon) ≡ true → fits (mul horizon thin.slope) ≡ a → fits (add thin.start (mul horizon thin.slope)) ≡ b → move_fault (thin_system thin text) (first_step thin) (flow_of thin) horizon ≡ (if a && b then None else Some (record { kind = Range; at = thin.at }))
moves_or thin text horizon a b p q r s = tests (fits horizon) (fits (add nought horizon)) (fits (mul horizon thin.slope)) (fits (add thin.start (mul horizon thin.slope))) a b (Some (record { kind = Range; at = nowhere })) (Some (record { kind = Range; at = thin.at })) p q r s
  where
    tests : (w x y z a b : Bool) (early there : Option Fault) → w ≡ true → x ≡ true → y ≡ a → z ≡ b → (if w then (if x then (if y then (if z then None else there) else there) else early) else early) ≡ (if a && b then None else there)
    tests w x y z true true early there p q r s = rw (p, q, r, s) refl
    tests w x y z true false early there p q r s = rw (p, q, r, s) refl
    tests w x y z false b early there p q r s = rw (p, q, r) refl

-- what the form has
abbrev Traced : FlatForm → List (List ℕ) → Script → Ending → List ℕ → Type 0
Traced f names script ending lines = (h : History) × IsRun f thin_grades script h ending × (trace f names h ending ≡ lines)

abbrev fault_end : Thin → Ending
fault_end thin = EndsInFault (record { kind = Range; at = thin.at }) nought FlowMark

first_line : (thin : Thin) (text : ThinText) (names : List (List ℕ)) → get_or names text.name [] ≡ thin.name → line_of (outputs (thin_form thin text) names) [] (first_step thin) ≡ thin_line thin nought (StepMark 0) thin.start
first_line thin text names e = ap (λ n. instant_line nought (StepMark 0) (record { name = n; value = F thin.start } ∷ [])) e

left_line : (thin : Thin) (text : ThinText) (names : List (List ℕ)) (horizon : Fraction) → get_or names text.name [] ≡ thin.name → line_of (outputs (thin_form thin text) names) (first_step thin ∷ []) (left_end thin horizon) ≡ thin_line thin horizon LeftMark (arrival thin horizon)
left_line thin text names horizon e =
    ap (λ n. instant_line horizon LeftMark (record { name = n; value = F (add thin.start (mul horizon thin.slope)) } ∷ [])) e
    ∙ ap (λ x. thin_line thin horizon LeftMark (add thin.start x)) (mul_comm horizon thin.slope)

-- one line, or two, and the end
one_and : (a b c : List ℕ) → a ≡ b → a ++ c ≡ concat (b ∷ c ∷ [])
one_and a b c e = ap₂ (λ x y. x ++ y) e (sym (append-nil c))

two_and : (a b c d e : List ℕ) → a ≡ c → b ≡ d → (a ++ b) ++ e ≡ concat (c ∷ d ∷ e ∷ [])
two_and a b c d e p q = append_assoc a b e ∙ ap₂ (λ x y. x ++ y) p (ap₂ (λ x y. x ++ y) q (sym (append-nil e)))

-- at horizon 0 the run ends with the first step
at_zero : (thin : Thin) (text : ThinText) (names : List (List ℕ)) (horizon : Fraction) (steps : ℕ) → get_or names text.name [] ≡ thin.name → is_same nought horizon ≡ true → Traced (thin_form thin text) names (horizon_script horizon steps) Horizon (concat (thin_line thin nought (StepMark 0) thin.start ∷ ending_line Horizon ∷ []))
at_zero thin text names horizon steps named e = (
  first_step thin ∷ [],
  record { instants = step_is thin text horizon steps; ends = inl (after_step thin text horizon steps true e) },
  one_and (line_of (outputs (thin_form thin text) names) [] (first_step thin)) (thin_line thin nought (StepMark 0) thin.start) (ending_line Horizon) (first_line thin text names named),
)

-- the flow ends in a fault
too_wide : (thin : Thin) (text : ThinText) (names : List (List ℕ)) (horizon : Fraction) (steps : ℕ) → get_or names text.name [] ≡ thin.name → IsFrac thin.start → IsFrac thin.slope → IsTime horizon → is_same nought horizon ≡ false → move_fault (thin_system thin text) (first_step thin) (flow_of thin) horizon ≡ Some (record { kind = Range; at = thin.at }) → Traced (thin_form thin text) names (horizon_script horizon steps) (fault_end thin) (concat (thin_line thin nought (StepMark 0) thin.start ∷ ending_line (fault_end thin) ∷ []))
too_wide thin text names horizon steps named a k t e wide = (
  first_step thin ∷ [],
  record {
    instants = step_is thin text horizon steps;
    ends = inr (ByMove (flow_of thin) horizon (record { kind = Range; at = thin.at }) (move_is thin text horizon steps a k t e) wide);
  },
  one_and (line_of (outputs (thin_form thin text) names) [] (first_step thin)) (thin_line thin nought (StepMark 0) thin.start) (ending_line (fault_end thin)) (first_line thin text names named),
)

-- the flow comes to the horizon
left_is : (thin : Thin) (text : ThinText) (horizon : Fraction) (steps : ℕ) → IsFrac thin.start → IsFrac thin.slope → IsTime horizon → is_same nought horizon ≡ false → move_fault (thin_system thin text) (first_step thin) (flow_of thin) horizon ≡ None → LeftAfter (thin_system thin text) (horizon_script horizon steps) [] (first_step thin) (left_end thin horizon)
unfolding equation turn
left_is thin text horizon steps a k t e fits = record {
  flow = flow_of thin;
  duration = horizon;
  move = move_is thin text horizon steps a k t e;
  fits = fits;
  kind = refl;
  time = sym (zero-add horizon t.number.reduced);
  inputs = refl;
  fired = refl;
  solves = refl;
}

arrives : (thin : Thin) (text : ThinText) (names : List (List ℕ)) (horizon : Fraction) (steps : ℕ) → get_or names text.name [] ≡ thin.name → IsFrac thin.start → IsFrac thin.slope → IsTime horizon → is_same nought horizon ≡ false → move_fault (thin_system thin text) (first_step thin) (flow_of thin) horizon ≡ None → Traced (thin_form thin text) names (horizon_script horizon steps) Horizon (concat (thin_line thin nought (StepMark 0) thin.start ∷ thin_line thin horizon LeftMark (arrival thin horizon) ∷ ending_line Horizon ∷ []))
arrives thin text names horizon steps named a k t e fits = (
  left_end thin horizon ∷ first_step thin ∷ [],
  record { instants = (step_is thin text horizon steps, inr (left_is thin text horizon steps a k t e fits)); ends = inl (after_left thin text horizon steps e) },
  two_and (line_of (outputs (thin_form thin text) names) [] (first_step thin)) (line_of (outputs (thin_form thin text) names) (first_step thin ∷ []) (left_end thin horizon)) (thin_line thin nought (StepMark 0) thin.start) (thin_line thin horizon LeftMark (arrival thin horizon)) (ending_line Horizon) (first_line thin text names named) (left_line thin text names horizon named),
)

-- the end and the lines, by whether the horizon is 0 and whether what moves is in the width
abbrev pub end_by : Thin → Bool → Ending
end_by thin b = if b then Horizon else fault_end thin

abbrev pub lines_by : Thin → Fraction → Bool → Bool → List ℕ
lines_by thin horizon z b =
    concat (thin_line thin nought (StepMark 0) thin.start ∷ when (not z && b) (thin_line thin horizon LeftMark (arrival thin horizon)) ++ ending_line (end_by thin b) ∷ [])

-- at horizon 0 nothing moves
pub stays_at_zero : (thin : Thin) (horizon : Fraction) → IsFrac thin.start → IsFrac thin.slope → is_same nought horizon ≡ true → (fits (increment thin horizon) && fits (arrival thin horizon)) ≡ true
stays_at_zero thin horizon a k e =
    let none : increment thin horizon ≡ nought = ap (λ t. mul thin.slope t) (sym (same_parts nought horizon e)) ∙ mul-zero thin.slope k.reduced.above in
    ap (λ x. fits x && fits (add thin.start x)) none
    ∙ ap₂ (λ x y. x && y) nought_fits (ap (λ x. fits x) (add-zero thin.start a.reduced) ∙ a.fits)

module _ (thin : Thin) (text : ThinText) (names : List (List ℕ)) (horizon : Fraction) (steps : ℕ) (named : get_or names text.name [] ≡ thin.name) (a : IsFrac thin.start) (k : IsFrac thin.slope) (t : IsTime horizon) where
  time_fits : fits (add nought horizon) ≡ true
  time_fits = ap (λ x. fits x) (zero-add horizon t.number.reduced) ∙ t.number.fits

  moves_if : (x y : Bool) → fits (increment thin horizon) ≡ x → fits (arrival thin horizon) ≡ y → move_fault (thin_system thin text) (first_step thin) (flow_of thin) horizon ≡ (if x && y then None else Some (record { kind = Range; at = thin.at }))
  moves_if x y p q =
      moves_or thin text horizon x y t.number.fits time_fits
      (ap (λ m. fits m) (mul_comm horizon thin.slope) ∙ p) (ap (λ m. fits (add thin.start m)) (mul_comm horizon thin.slope) ∙ q)

  by_cases : (z x y : Bool) → is_same nought horizon ≡ z → fits (increment thin horizon) ≡ x → fits (arrival thin horizon) ≡ y → Traced (thin_form thin text) names (horizon_script horizon steps) (end_by thin (x && y)) (lines_by thin horizon z (x && y))
  by_cases true true true e p q = at_zero thin text names horizon steps named e
  by_cases true true false e p q =
      let clash : true && false ≡ true = sym (ap₂ (λ v w. v && w) p q) ∙ stays_at_zero thin horizon a k e in absurd cc
  by_cases true false y e p q =
      let clash : false && y ≡ true = sym (ap₂ (λ v w. v && w) p q) ∙ stays_at_zero thin horizon a k e in absurd cc
  by_cases false true true e p q = arrives thin text names horizon steps named a k t e (moves_if true true p q)
  by_cases false true false e p q = too_wide thin text names horizon steps named a k t e (moves_if true false p q)
  by_cases false false y e p q = too_wide thin text names horizon steps named a k t e (moves_if false y p q)

  pub thin_traced : Traced (thin_form thin text) names (horizon_script horizon steps) (thin_run_end thin horizon) (concat (thin_run_lines thin horizon))
  thin_traced = by_cases (is_same nought horizon) (fits (increment thin horizon)) (fits (arrival thin horizon)) refl refl refl

-- ranks of the entries
abbrev rank : Node → ℕ
rank (AtControl n) = 0
rank (AtReset n) = 0
rank (AtLater n) = 0
rank (AtEntry n) = 0
rank (AtRunning n) = 0
rank (AtStrong n) = 0
rank (AtWeak n) = 0
rank (AtPlace n) = get_or (2 ∷ []) n 0
rank (AtUsed n) = get_or (1 ∷ 1 ∷ 1 ∷ []) n 0
rank (AtValue n) = get_or (3 ∷ 1 ∷ 1 ∷ []) n 0

module _ (thin : Thin) (text : ThinText) where
  lower : (a : Node) → Reads (thin_form thin text) (λ b. rank b < rank a) (λ b. ⊤) a
  lower (AtControl b) = numbered (λ b block. ReadsControl (thin_form thin text) (λ c. rank c < rank (AtControl b)) (λ c. ⊤) b block) (thin_form thin text).blocks (λ k. tt) ((tt, tt), tt) b
  lower (AtReset b) = numbered (λ b block. ReadsReset (λ c. rank c < rank (AtReset b)) (λ c. ⊤) block) (thin_form thin text).blocks (λ k. tt) (tt, tt) b
  lower (AtLater b) = numbered (λ b block. ReadsLater (λ c. rank c < rank (AtLater b)) block) (thin_form thin text).blocks (λ k. tt) (tt, tt) b
  lower (AtEntry a) = tt
  lower (AtRunning a) = tt
  lower (AtStrong a) = tt
  lower (AtWeak a) = tt
  lower (AtPlace p) = numbered (λ p place. ReadsPlace (λ c. rank c < rank (AtPlace p)) (λ c. ⊤) p place) (thin_form thin text).places (λ k. tt) ((lit< tt, tt, ((lit< tt, tt, tt, tt), (lit< tt, tt)), ((lit< tt, lit< tt, tt), tt, (tt, (((lit< tt, lit< tt, tt), lit< tt), tt)))), tt) p
  lower (AtUsed k) = numbered (λ k occ. ReadsUsed (thin_form thin text) (λ c. rank c < rank (AtUsed k)) (λ c. ⊤) k occ) (thin_form thin text).occs (λ k. tt) ((lit< tt, tt), ((lit< tt, (tt, tt)), ((lit< tt, ((tt, (lit< tt, lit< tt, tt)), tt)), tt))) k
  lower (AtValue k) = numbered (λ k occ. ReadsValue (thin_form thin text) (λ c. rank c < rank (AtValue k)) (λ c. ⊤) occ) (thin_form thin text).occs (λ k. tt) ((lit< tt, lit< tt), ((lit< tt, tt), ((lit< tt, tt), tt))) k

  pub thin_ranks : HasNodeRanks (thin_form thin text)
  thin_ranks = record { rank = rank; lower = lower }

-- the run is the only one
pub thin_runs : ThinRuns
thin_runs thin text names horizon steps k a t named =
    let some = thin_traced thin text names horizon steps named a k t in
    record {
      history = some.0;
      run = some.1;
      printed = some.2;
      only = λ h e run.
          let same = (one_run (thin_form thin text) (thin_ranks thin text) thin_grades (horizon_script horizon steps)).runs h some.0 e (thin_run_end thin horizon) run some.1 in
          (same.1, ap₂ (λ g x. trace (thin_form thin text) names g x) same.0 same.1 ∙ some.2);
    }
