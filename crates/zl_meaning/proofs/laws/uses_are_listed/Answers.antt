use Rattle.zl_meaning.proofs.UseCases.{use-of-listed, listed-of-use}
use Rattle.zl_meaning.proofs.laws.uses_are_listed.Goals as goal

pub returns : goal.returns
returns c = λ f k of. (listed-of-use f k of, use-of-listed f k of)
