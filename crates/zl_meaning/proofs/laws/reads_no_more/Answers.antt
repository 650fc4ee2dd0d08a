use Rattle.std.specs.Prelude.{◌≡◌, true}
use Rattle.zl_meaning.proofs.Congruence.{equation_same}
use Rattle.zl_meaning.proofs.laws.reads_no_more.Goals as goal

pub returns : goal.returns
returns c = λ p q f m n s t. equation_same (λ a. p a ≡ true) (λ a. q a ≡ true) f m n s t
