use Rattle.zl_value.proofs.FractionOrder.{line_negative}
use Rattle.zl_value.proofs.laws.line_stays_negative.Goals as goal

pub returns : goal.returns
returns c = λ v k d s low_v low_k low_d low_s. line_negative v k d s low_v low_s low_k.above low_d.above
