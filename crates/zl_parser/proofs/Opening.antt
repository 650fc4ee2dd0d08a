-- Steps that may fail, opened: for functions that read one thing after another.
use Rattle.zl_ast.specs.Reading.{◌>>=◌}

unfoldable pub steps : Unit {0}
unfolding ◌>>=◌
steps = tt
