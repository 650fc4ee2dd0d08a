use Rattle.std.proofs.Common.{ℕ, List, subst}
use Rattle.zl_cli.specs.Loading.{GivesProgram}
use Rattle.zl_cli.proofs.Loads.{loads_program}
use Rattle.zl_cli.proofs.load.load_program.Goals as goal

pub returns-in-Ok-clause-program : goal.returns-in-Ok-clause-program
returns-in-Ok-clause-program g c =
    loads_program (g.S.Shelf.told c.args.shelf.now) (g.S.Shelf.failed c.args.shelf.now) (g.S.Shelf.failed c.read.new.self)
    c.args.name.now c.read.new.out.items c.in-Ok.ensures.failed c.in-Ok.ensures.holds c.program_of.result
    (subst (λ (bytes : List ℕ). GivesProgram bytes c.program_of.result) c.deref.ensures.value c.program_of.ensures)
