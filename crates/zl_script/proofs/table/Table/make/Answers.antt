use Rattle.std.proofs.Common.{refl, ◌∙◌}
use Rattle.zl_script.proofs.TableLemmas.{table_more}
use Rattle.zl_script.proofs.table.Table.make.Goals as goal

pub loop-input-preserved : goal.loop-input-preserved
loop-input-preserved c =
    table_more (λ name. name.items) _ (λ a b. refl) c.args.inputs.now c.loop-input.input-index c.input-item.result c.loop-input.names.keys _ c.in_ok-name.name c.requires
    c.loop-input-test.true c.input-item.is c.loop-input.invariant (c.in_ok-name.ensures.items ∙ c.bytes.ensures) c.in_ok-insert.ensures.keys
