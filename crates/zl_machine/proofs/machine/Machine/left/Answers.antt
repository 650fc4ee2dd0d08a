-- What a left end's method did is what a left end does.
use Rattle.std.specs.Prelude.{◌≡◌, [], length}
use Rattle.std.specs.Vec.{with_items}
use Rattle.std.proofs.Common.{refl, ap, ◌∙◌, rules}
use Rattle.std.proofs.lemmas.List.{with_items_is}
use Rattle.zl_value.specs.Instants.{Left}
use Rattle.zl_code.specs.System.{instant_of}
use Rattle.zl_machine.specs.Calls.{outcome}
use Rattle.zl_machine.proofs.Methods.{given_as, answers_as, stands_as}
use Rattle.zl_machine.proofs.machine.Machine.left.Goals as goal

pub returns : goal.returns
returns c =
    let regs_room : length c.run_method-found.new.regs ≡ c.self.inside.regs.len = search rules in
    let next_room : length c.run_method-found.new.next ≡ c.self.inside.next.len = search rules in
    let regs : (with_items c.self.inside.regs c.run_method-found.new.regs).items ≡ c.run_method-found.new.regs = with_items_is c.self.inside.regs c.run_method-found.new.regs regs_room in
    let ran : record { regs = c.run_method-found.new.regs; mems = c.run_method-found.new.next; found = c.run_method-found.result } ≡ instant_of c.self.inside.code.now Left c.self.inside.mems.items c.self.inside.inputs.items [] =
    given_as c.self.inside.code.now.left _ _ _ _ _ _ [] [] _ (c.run_method-found.ensures c.self.inside.code.now.left c.self.invariant.left) (ap length c.as_mut_slice.ensures.value ∙ c.self.invariant.regs) c.as_slice-2.ensures.value c.as_slice-3.ensures.value refl in
    let answer : c.after_left-outcome.result ≡ outcome c.self.inside.code.now Left (instant_of c.self.inside.code.now Left c.self.inside.mems.items c.self.inside.inputs.items []) =
    answers_as c.self.inside.code.now Left _ _ _ _ c.after_left-outcome.ensures (c.as_slice-4.ensures.value ∙ regs) ran in
    record {
      answer = rw (← c.self.view_is) answer;
      after = rw (← c.self.view_is) (stands_as c.self.inside.code.now Left _ _ _ _ _ _ _ _ _ c.mode_of-self-inside.ensures answer (ap (λ v. v.items) c.swap.ensures.x_after ∙ with_items_is c.self.inside.next c.run_method-found.new.next next_room) refl regs ran);
    }
