-- The parts are those of the code that is well formed.
use Rattle.std.proofs.Common.{◌∙◌}
use Rattle.zl_tests.proofs.SawTooth.{made_of_its_parts}
use Rattle.zl_tests.proofs.machines.saw_tooth.Goals as goal

pub invariant_of-result : goal.invariant_of-result
invariant_of-result c =
    made_of_its_parts _ _ _ _ _ _ _ _
    c.in_ok-regs.ensures
    c.in_ok-mems.ensures
    (c.from_vec-ins.ensures ∙ c.new.ensures.items)
    c.in_ok-outs.ensures
    c.in_ok-sites.ensures
    c.in_ok-step.ensures
    c.in_ok-left.ensures
    c.in_ok-flow.ensures
