use Rattle.zl_lexer.proofs.ReadingLemmas.{one_list, one_stop, never_both}
use Rattle.zl_lexer.proofs.lexer.one_reading.Goals as goal

pub returns-clause-tokens : goal.returns-clause-tokens
returns-clause-tokens c = one_list

pub returns-clause-stop : goal.returns-clause-stop
returns-clause-stop c = one_stop

pub returns-clause-either : goal.returns-clause-either
returns-clause-either c = never_both
