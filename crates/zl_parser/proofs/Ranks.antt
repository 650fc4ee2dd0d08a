-- How many more functions may be called in turn before one takes a token or goes into a construct.
use Rattle.std.proofs.Common.{ℕ}
use Rattle.zl_parser.specs.declared.operator.Level.{Level}
use Rattle.zl_parser.specs.declared.operator.Level.TheVariants as levels

abbrev pub rank : Level → ℕ
rank levels.Disjunction = 28
rank levels.Conjunction = 26
rank levels.Comparison = 24
rank levels.Addition = 22
rank levels.Multiplication = 20
