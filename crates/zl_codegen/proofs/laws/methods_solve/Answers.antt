-- A method's registers hold what the kernel says of their wires.
use Rattle.std.specs.Prelude.{[]}
use Rattle.std.proofs.Common.{ap, ◌∙◌}
use Rattle.zl_code.specs.Method.{Doing, cell}
use Rattle.zl_codegen.proofs.Solved.{solved_all}
use Rattle.zl_codegen.proofs.laws.methods_solve.Goals as goal

pub returns : goal.returns
returns c k list well order m r solves g given marks closed n less =
    let it = solved_all k list well order m r solves g given marks closed.reads [] in
    ap (λ (d : Doing). cell d.regs n) it.runs ∙ it.regs n less
