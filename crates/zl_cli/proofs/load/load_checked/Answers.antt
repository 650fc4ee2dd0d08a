use Rattle.std.proofs.Common.{ℕ, List, subst}
use Rattle.zl_cli.specs.Loading.{GivesChecked}
use Rattle.zl_cli.proofs.Loads.{loads_checked}
use Rattle.zl_cli.proofs.load.load_checked.Goals as goal

pub returns-in-Ok-clause-checked : goal.returns-in-Ok-clause-checked
returns-in-Ok-clause-checked g c =
    loads_checked (g.S.Shelf.told c.args.shelf.now) (g.S.Shelf.failed c.args.shelf.now) (g.S.Shelf.failed c.read.new.self)
    c.args.name.now c.read.new.out.items c.in-Ok.ensures.failed c.in-Ok.ensures.holds c.checked.result
    (subst (λ (bytes : List ℕ). GivesChecked bytes c.checked.result) c.deref.ensures.value c.checked.ensures)
