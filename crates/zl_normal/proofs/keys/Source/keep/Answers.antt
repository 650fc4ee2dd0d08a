use Rattle.std.proofs.Common.{OnOk, sym, subst}
use Rattle.zl_normal.specs.Layout.{AreNumbered}
use Rattle.zl_normal.specs.NumberTables.{memory_number}
use Rattle.zl_normal.specs.Slots.{kept_slot, no_offset, AreInTurn}
use Rattle.zl_normal.proofs.MemoriesInTurn.{memories_in_turn}
use Rattle.zl_normal.proofs.keys.Source.keep.Goals as goal

pub keep_all-requires : goal.keep_all-requires
keep_all-requires c = subst (λ ks. AreInTurn kept_slot no_offset ks) (sym c.requires) (memories_in_turn c.args.self.now.flat.now c.args.self.now.grades.now c.args.self.now.tables.now)

pub returns-clause-memories : goal.returns-clause-memories
returns-clause-memories c = subst (λ ks. OnOk c.keep_all.result (AreNumbered ks (memory_number c.keep_all.new.self))) c.requires c.keep_all.ensures.memories
