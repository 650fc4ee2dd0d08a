use Rattle.std.proofs.Common.{Option, ap, ◌∙◌}
use Rattle.std.specs.Prelude.{ℕ, option_and_then, position}
use Rattle.std.specs.Str.{bytes_eq}
use Rattle.zl_script.specs.Assignments.{set_at}
use Rattle.zl_script.proofs.ListLemmas.{position_map}
use Rattle.zl_script.proofs.assignment.set_for.Goals as goal

pub returns-in-Some : goal.returns-in-Some
returns-in-Some c =
    c.set_at.ensures
    ∙ ap (λ (n : Option ℕ). option_and_then (λ n. set_at c.args.inputs.now n c.args.value) n)
    (c.in-Some.ensures ∙ ap (position (bytes_eq c.args.name.now)) c.requires.table ∙ position_map (bytes_eq c.args.name.now) (λ i. i.name) c.args.inputs.now)

pub returns-in-None : goal.returns-in-None
returns-in-None c =
    ap (λ (n : Option ℕ). option_and_then (λ n. set_at c.args.inputs.now n c.args.value) n)
    (c.in-None.ensures ∙ ap (position (bytes_eq c.args.name.now)) c.requires.table ∙ position_map (bytes_eq c.args.name.now) (λ i. i.name) c.args.inputs.now)
