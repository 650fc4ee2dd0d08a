-- What a method needs is closed.
use Rattle.zl_codegen.proofs.Closed.{needs_closed}
use Rattle.zl_codegen.proofs.laws.needs_are_closed.Goals as goal

pub returns : goal.returns
returns c = needs_closed
