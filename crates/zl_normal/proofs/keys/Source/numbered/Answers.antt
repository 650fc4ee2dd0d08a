use Rattle.std.proofs.Common.{IfOk, sym, subst}
use Rattle.zl_normal.specs.Layout.{AreNumbered}
use Rattle.zl_normal.specs.NumberTables.{wire_number}
use Rattle.zl_normal.specs.Slots.{slot, offset, AreInTurn}
use Rattle.zl_normal.proofs.PlacesInTurn.{keys_in_turn}
use Rattle.zl_normal.proofs.keys.Source.numbered.Goals as goal

pub of_keys-requires : goal.of_keys-requires
of_keys-requires c = subst (λ ks. AreInTurn slot offset ks) (sym c.requires) (keys_in_turn c.args.self.now.flat.now c.args.self.now.grades.now c.args.self.now.tables.now)

pub returns : goal.returns
returns c = subst (λ ks. IfOk c.of_keys.result (λ tables. AreNumbered ks (wire_number tables))) c.requires c.of_keys.ensures
