use Rattle.zl_normal.proofs.Normalising.{well_formed, has_ranks}
use Rattle.zl_normal.proofs.normal.made.Goals as goal

pub kernel-requires-clause-whole : goal.kernel-requires-clause-whole
kernel-requires-clause-whole c =
    well_formed c.args.flat.now c.args.grades.now c.args.names.now c.in_ok-laid.laid c.is_well_formed.ensures c.requires.main c.requires.single c.requires.guards c.in_ok-laid.ensures c.requires.slopes c.requires.names

pub wire_ranks-requires : goal.wire_ranks-requires
wire_ranks-requires c = record {
  ranked = has_ranks c.args.flat.now c.args.grades.now c.args.names.now c.in_ok-laid.laid c.is_well_formed.ensures c.requires.main c.requires.single c.requires.guards c.in_ok-laid.ensures c.in_ok-kernel.kernel c.in_ok-kernel.ensures;
}
