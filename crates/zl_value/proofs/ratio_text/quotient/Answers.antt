use Rattle.std.proofs.Common.{rules, ◌∙◌}
use Rattle.std.proofs.lemmas.Int.{to_z-of_z}
use mir.Syntax.{w128}
use Rattle.zl_value.proofs.RatioLemmas.{quotient_from}
use Rattle.zl_value.proofs.ratio_text.quotient.Goals as goal

pub returns-clause-value : goal.returns-clause-value
returns-clause-value c =
    quotient_from _ _ c.args.num c.args.den _ _ c.ok.ensures.value c.make.ensures.value (to_z-of_z w128 _ (search rules) ∙ c.to_signed.ensures) (to_z-of_z w128 _ (search rules) ∙ c.to_signed-2.ensures)
