use Rattle.zl_script.proofs.ReadLemmas.{steps_end}
use Rattle.zl_script.proofs.reading.split_steps.Goals as goal

pub returns-in-Err-clause-steps : goal.returns-in-Err-clause-steps
returns-in-Err-clause-steps c = λ inputs line horizon. steps_end inputs line horizon _ c.in-Err.ensures.items
