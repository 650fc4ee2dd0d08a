-- What the flow's method did is what a flow does.
use Rattle.std.specs.Prelude.{◌≡◌, [], length}
use Rattle.std.specs.Vec.{with_items}
use Rattle.std.proofs.Common.{refl, ap, ◌∙◌, rules}
use Rattle.std.proofs.lemmas.List.{with_items_is}
use Rattle.zl_machine.specs.Calls.{flow_on, flow_outcome}
use Rattle.zl_machine.specs.MachineForm.{MachineForm}
use Rattle.zl_machine.proofs.Methods.{given_as, flows_as, moves_as}
use Rattle.zl_machine.proofs.machine.Machine.flow.Goals as goal

pub returns : goal.returns
returns c =
    let m : MachineForm = record { code = c.self.inside.code.now; mode = c.self.inside.mode; mems = c.self.inside.mems.items; inputs = c.self.inside.inputs.items; regs = c.self.inside.regs.items; rates = c.self.inside.rates.items } in
    let room : length c.run_method-found.new.regs ≡ c.self.inside.rates.len = search rules in
    let rates : (with_items c.self.inside.rates c.run_method-found.new.regs).items ≡ c.run_method-found.new.regs = with_items_is c.self.inside.rates c.run_method-found.new.regs room in
    let ran : record { regs = c.run_method-found.new.regs; mems = c.run_method-found.new.next; found = c.run_method-found.result } ≡ flow_on m =
    given_as m.code.flow _ _ _ _ _ _ [] [] _ (c.run_method-found.ensures m.code.flow c.self.invariant.flow) (ap length c.as_mut_slice.ensures.value ∙ c.self.invariant.rates) c.as_slice-2.ensures.value c.as_slice-3.ensures.value refl in
    let answer : c.in_flow-outcome.result ≡ flow_outcome m =
    flows_as m _ _ _ _ _ c.in_flow-outcome.ensures c.as_slice-4.ensures.value c.as_slice-5.ensures.value (c.as_slice-6.ensures.value ∙ rates) ran in
    record {
      answer = rw (← c.self.view_is) answer;
      after = rw (← c.self.view_is) (moves_as m _ _ _ _ c.flow_mode_of-self-inside.ensures answer rates ran);
    }
