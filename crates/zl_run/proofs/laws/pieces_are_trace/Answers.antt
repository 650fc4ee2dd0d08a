use Rattle.zl_run.proofs.PieceLemmas.{pieces_are_trace}
use Rattle.zl_run.proofs.laws.pieces_are_trace.Goals as goal

pub returns : goal.returns
returns c = pieces_are_trace
