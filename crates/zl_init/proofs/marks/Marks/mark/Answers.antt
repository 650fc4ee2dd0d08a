use Rattle.std.proofs.Common.{◌∙◌, sym, ap}
use Rattle.indexmap.specs.IndexMap.{insert_entry}
use Rattle.zl_init.specs.Marks.{Known, key, is_key}
use Rattle.zl_init.proofs.MarksLemmas.{inserting}
use Rattle.zl_init.proofs.marks.Marks.mark.Goals as goal

pub returns-clause-marked : goal.returns-clause-marked
returns-clause-marked c = c.in_ok-insert.ensures.entries ∙ ap (λ (es : Known). insert_entry is_key es (key c.args.place) c.args.mark) c.self.view_is ∙ inserting c.args.self.now c.args.place c.args.mark (sym c.at.ensures ∙ c.in_default.is)
