-- The instructions of a method, run from empty registers, do what the method does; and what the calls that run one answer and
-- leave behind.
use Rattle.std.specs.Prelude.{◌≡◌, ℕ, Bool, List}
use Rattle.std.proofs.Common.{sym, ap, ap₂, ◌∙◌}
use Rattle.zl_value.specs.Instants.{Kind}
use Rattle.zl_code.specs.CodeForm.{CodeForm}
use Rattle.zl_code.specs.declared.stmt.Stmt.{Stmt}
use Rattle.zl_code.specs.Method.{Cells, Given, Doing, fresh, method, run, Runs}
use Rattle.zl_code.specs.System.{lacks, flow_lacks, fault_of}
use Rattle.zl_machine.specs.declared.instr.Instr.{Instr}
use Rattle.zl_machine.specs.declared.mode.Mode.{Mode}
use Rattle.zl_machine.specs.declared.outcome.Outcome.{Outcome}
use Rattle.zl_machine.specs.declared.outcome.FlowOutcome.{FlowOutcome}
use Rattle.zl_machine.specs.Calls.{outcome_by, outcome, mode_after, flow_on, flow_outcome_by, flow_outcome, flow_mode_after, after_flow}
use Rattle.zl_machine.specs.Instructions.{Does, StandsFor}
use Rattle.zl_machine.specs.MachineForm.{MachineForm}

pub method_done : (code : List Instr) (lits : Cells) (stmts : List Stmt) (g : Given) (begun done : Doing) (count : ℕ) → StandsFor code lits stmts → Does code lits g begun done → begun ≡ fresh count g → done ≡ method count stmts g
method_done code lits stmts g begun done count s does from =
    sym (s.means.done g done) ∙ does s.rest s.means ∙ s.whole g begun ∙ ap (λ d. run g Runs stmts d) from

-- a method, by what its run was given
pub given_as : (stmts : List Stmt) (count number : ℕ) (mems mems' inputs inputs' : Cells) (events events' : List Bool) (d : Doing) → d ≡ method count stmts (record { mems = mems; inputs = inputs; events = events }) → count ≡ number → mems ≡ mems' → inputs ≡ inputs' → events ≡ events' → d ≡ method number stmts (record { mems = mems'; inputs = inputs'; events = events' })
given_as stmts count number mems mems' inputs inputs' events events' d e n m i v =
    e ∙ ap₂ (λ k ms. method k stmts (record { mems = ms; inputs = inputs; events = events })) n m
    ∙ ap₂ (λ xs vs. method number stmts (record { mems = mems'; inputs = xs; events = vs })) i v

pub answers_as : (c : CodeForm) (kind : Kind) (regs : Cells) (d d' : Doing) (r : Outcome) → r ≡ outcome_by c kind regs (fault_of d) (lacks c kind regs) → regs ≡ d.regs → d ≡ d' → r ≡ outcome c kind d'
answers_as c kind regs d d' r e p q =
    e ∙ ap (λ rs. outcome_by c kind rs (fault_of d) (lacks c kind rs)) p ∙ ap (λ x. outcome c kind x) q

abbrev form : CodeForm → Mode → Cells → Cells → Cells → Cells → MachineForm
form c mode mems inputs regs rates = record { code = c; mode = mode; mems = mems; inputs = inputs; regs = regs; rates = rates }

pub stands_as : (c : CodeForm) (kind : Kind) (mode : Mode) (mems inputs inputs' regs rates : Cells) (d d' : Doing) (r : Outcome) → mode ≡ mode_after r → r ≡ outcome c kind d' → mems ≡ d.mems → inputs ≡ inputs' → regs ≡ d.regs → d ≡ d' → form c mode mems inputs regs rates ≡ form c (mode_after (outcome c kind d')) d'.mems inputs' d'.regs rates
stands_as c kind mode mems inputs inputs' regs rates d d' r p q ms is rs e =
    ap₂ (λ x y. form c x y inputs regs rates) (p ∙ ap mode_after q) (ms ∙ ap (λ (x : Doing). x.mems) e)
    ∙ ap₂ (λ x y. form c (mode_after (outcome c kind d')) d'.mems x y rates) is (rs ∙ ap (λ (x : Doing). x.regs) e)

pub flows_as : (m : MachineForm) (regs mems rates : Cells) (d : Doing) (r : FlowOutcome) → r ≡ flow_outcome_by (fault_of d) (flow_lacks m.code regs mems rates) → regs ≡ m.regs → mems ≡ m.mems → rates ≡ d.regs → d ≡ flow_on m → r ≡ flow_outcome m
flows_as m regs mems rates d r e p q s t =
    e ∙ ap₂ (λ x y. flow_outcome_by (fault_of d) (flow_lacks m.code x y rates)) p q
    ∙ ap (λ z. flow_outcome_by (fault_of d) (flow_lacks m.code m.regs m.mems z)) s
    ∙ ap (λ (x : Doing). flow_outcome_by (fault_of x) (flow_lacks m.code m.regs m.mems x.regs)) t

pub moves_as : (m : MachineForm) (mode : Mode) (rates : Cells) (d : Doing) (r : FlowOutcome) → mode ≡ flow_mode_after r → r ≡ flow_outcome m → rates ≡ d.regs → d ≡ flow_on m → form m.code mode m.mems m.inputs m.regs rates ≡ after_flow m
moves_as m mode rates d r p q s t =
    ap₂ (λ x y. form m.code x m.mems m.inputs m.regs y) (p ∙ ap flow_mode_after q) (s ∙ ap (λ (x : Doing). x.regs) t)
