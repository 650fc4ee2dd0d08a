use Rattle.std.proofs.Common.{rules, ◌≡◌, map, is_some, ◌++◌, ap, ◌∙◌, sym}
use Rattle.zl_ast.specs.declared.eqn.Eqn.TheVariants.{Present}
use Rattle.zl_ast.specs.Kinds.{unless_allowed, allows_present, all_misplaced, eqn_misplaced, arm_misplaced, in_other}
use Rattle.zl_types.proofs.KindEqnLemmas.{eqn_steps, misplaced-present}
use Rattle.zl_types.specs.Contexts.{context_of, declared_of}
use Rattle.zl_types.specs.ContextsFirst.{earliest}
use Rattle.zl_types.proofs.kind_eqn.+misplaced_equations.Goals as goal

pub note_eqn-returns-in-Present : goal.note_eqn-returns-in-Present
note_eqn-returns-in-Present t c =
    let p = c.in-Present in
    let d = declared_of c.args.declared.now in
    let k = context_of c.args.context in
    let first = c.args.first.now.found in
    let noted : c.note_other.new.first.found ≡ earliest first (unless_allowed (allows_present (is_some p.other) k) p.at ++ (all_misplaced (map (arm_misplaced d) p.arms) k ++ in_other d p.other)) = search (rules, eqn_steps) in
    let form : eqn_misplaced d c.args.eqn.now k ≡ eqn_misplaced d (Present p.at p.arms p.other) k = search rules in
    noted ∙ ap (earliest first) (sym (form ∙ misplaced-present d k p.at p.arms p.other))
