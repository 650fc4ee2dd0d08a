-- What a step's method did is what a step does.
use Rattle.std.specs.Prelude.{◌≡◌, length, map, Some}
use Rattle.std.specs.Vec.{with_items}
use Rattle.std.proofs.Common.{refl, ap, ◌∙◌, rules}
use Rattle.std.proofs.lemmas.List.{with_items_is}
use Rattle.zl_value.specs.Instants.{Step}
use Rattle.zl_code.specs.System.{instant_of}
use Rattle.zl_machine.specs.Calls.{outcome}
use Rattle.zl_machine.proofs.Methods.{given_as, answers_as, stands_as}
use Rattle.zl_machine.proofs.machine.Machine.step.Goals as goal

pub returns : goal.returns
returns c =
    let regs_room : length c.run_method-found.new.regs ≡ c.self.inside.regs.len = search rules in
    let next_room : length c.run_method-found.new.next ≡ c.self.inside.next.len = search rules in
    let inputs_room : length c.set_values.new.cells ≡ c.self.inside.inputs.len = search rules in
    let inputs : (with_items c.self.inside.inputs c.set_values.new.cells).items ≡ map Some c.args.inputs.now = with_items_is c.self.inside.inputs c.set_values.new.cells inputs_room ∙ c.set_values.ensures in
    let regs : (with_items c.self.inside.regs c.run_method-found.new.regs).items ≡ c.run_method-found.new.regs = with_items_is c.self.inside.regs c.run_method-found.new.regs regs_room in
    let ran : record { regs = c.run_method-found.new.regs; mems = c.run_method-found.new.next; found = c.run_method-found.result } ≡ instant_of c.self.inside.code.now Step c.self.inside.mems.items (map Some c.args.inputs.now) c.args.events.now =
    given_as c.self.inside.code.now.step _ _ _ _ _ _ _ _ _ (c.run_method-found.ensures c.self.inside.code.now.step c.self.invariant.step) (ap length c.as_mut_slice-2.ensures.value ∙ c.self.invariant.regs) c.as_slice-2.ensures.value (c.as_slice-3.ensures.value ∙ inputs) refl in
    let answer : c.after_step-outcome.result ≡ outcome c.self.inside.code.now Step (instant_of c.self.inside.code.now Step c.self.inside.mems.items (map Some c.args.inputs.now) c.args.events.now) =
    answers_as c.self.inside.code.now Step _ _ _ _ c.after_step-outcome.ensures (c.as_slice-4.ensures.value ∙ regs) ran in
    record {
      answer = rw (← c.self.view_is) answer;
      after = rw (← c.self.view_is) (stands_as c.self.inside.code.now Step _ _ _ _ _ _ _ _ _ c.mode_of-self-inside.ensures answer (ap (λ v. v.items) c.swap.ensures.x_after ∙ with_items_is c.self.inside.next c.run_method-found.new.next next_room) inputs regs ran);
    }
