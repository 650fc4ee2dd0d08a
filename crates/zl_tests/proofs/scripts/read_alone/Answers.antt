use Rattle.std.specs.List.{IsDistinct}
use Rattle.zl_tests.proofs.scripts.read_alone.Goals as goal

pub read_script-requires : goal.read_script-requires
unfolding IsDistinct
read_script-requires c = tt
