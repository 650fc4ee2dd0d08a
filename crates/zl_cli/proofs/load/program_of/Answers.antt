use Rattle.zl_cli.proofs.Loads.{gives_program}
use Rattle.zl_cli.proofs.load.program_of.Goals as goal

pub returns-in-Ok : goal.returns-in-Ok
returns-in-Ok c =
    gives_program c.args.bytes.now c.in-Ok.accepted c.in-Ok.ensures.accepted c.built.result c.built.ensures
