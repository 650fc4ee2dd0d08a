-- The numbers of the statuses. This project's own.
use Rattle.std.specs.Prelude.{ℕ}
use Rattle.zl_cli.specs.declared.status.Status.{Status}
use Rattle.zl_cli.specs.declared.status.Status.TheVariants as status

abbrev pub number_of : Status → ℕ
number_of status.Done = 0
number_of status.RefusedFile = 1
number_of status.RefusedScript = 2
number_of status.ArithFault = 3
number_of status.Bound = 4
number_of status.Usage = 5
number_of status.ReadFault = 6
number_of status.WriteFault = 7
number_of status.NoMemory = 8
number_of status.Empty = 9
