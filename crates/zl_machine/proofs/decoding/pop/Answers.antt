-- The innermost open `if` stands last.
use Rattle.zl_machine.proofs.Popping.{top_is}
use Rattle.zl_machine.proofs.decoding.pop.Goals as goal

pub returns-in-Some-clause-top : goal.returns-in-Some-clause-top
returns-in-Some-clause-top c = (top_is _ _ _ _ c.pop.ensures.items c.in-Some.is).0

pub returns-in-Some-clause-rest : goal.returns-in-Some-clause-rest
returns-in-Some-clause-rest c = (top_is _ _ _ _ c.pop.ensures.items c.in-Some.is).1
