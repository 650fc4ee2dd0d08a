use Rattle.std.proofs.Common.{rules, ◌≡◌, ◌++◌, [], ◌∷◌, ◌∙◌, arith}
use Rattle.zl_expand.proofs.TableLemmas.{none-more}
use Rattle.zl_expand.proofs.tables.no_definers.Goals as goal

pub loop-place-preserved : goal.loop-place-preserved
loop-place-preserved c =
    let pushed : c.push.new.self.items ≡ c.loop-place.lists.items ++ c.new.result ∷ [] = search rules in
    none-more (λ ds. ds.items) c.loop-place.lists.items c.push.new.self.items c.new.result c.args.places c.loop-place._place (omega arith) pushed c.new.ensures.items
    ∙ c.loop-place.invariant
