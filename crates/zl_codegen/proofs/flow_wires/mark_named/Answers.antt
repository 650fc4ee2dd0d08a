-- The slopes of sites, of memories and of wires.
use Rattle.std.specs.Prelude.{◌≡◌}
use Rattle.std.proofs.Common.{rules}
use Rattle.zl_codegen.proofs.FlowMarks.{slopes_by}
use Rattle.zl_codegen.proofs.flow_wires.mark_named.Goals as goal

pub returns : goal.returns
returns c =
    let sites : c.as_slice.result.now ≡ c.args.kernel.now.sites = search rules in
    let mems : c.as_slice-2.result.now ≡ c.args.kernel.now.mems = search rules in
    let wires : c.as_slice-3.result.now ≡ c.args.kernel.now.wires = search rules in
    slopes_by c.args.kernel.now _ _ _ _ _ _ _ sites mems wires c.requires c.mark_slopes.ensures c.mark_rates.ensures c.mark_wire_slopes.ensures
