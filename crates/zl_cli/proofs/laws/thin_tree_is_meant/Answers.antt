use Rattle.zl_cli.proofs.ThinExpansion.{tree_as_meant}
use Rattle.zl_cli.proofs.laws.thin_tree_is_meant.Goals as goal

pub returns : goal.returns
returns c = tree_as_meant
