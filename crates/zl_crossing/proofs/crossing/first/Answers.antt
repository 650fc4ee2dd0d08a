use Rattle.std.proofs.Common.{subst, take, ◌++◌, [], ◌∷◌}
use Rattle.std.proofs.lemmas.List.{take_more}
use Rattle.zl_crossing.specs.FirstCrossing.{IsFirst}
use Rattle.zl_crossing.proofs.LineSteps.{first_of_none}
use Rattle.zl_crossing.proofs.crossing.first.Goals as goal

pub loop-line-init : goal.loop-line-init
loop-line-init c = first_of_none c.args.cap c.requires.lowest c.requires.positive

pub loop-line-preserved : goal.loop-line-preserved
loop-line-preserved c =
    let lines = c.args.lines.now in
    let i = c.loop-line.line-index in
    let step = c.with_line-first.ensures (take i lines) c.args.cap c.requires.lowest c.loop-line.invariant in
    let named = subst (λ line. IsFirst (take i lines ++ line ∷ []) c.args.cap c.with_line-first.result) c.line-item.is step in
    rw (take_more lines i c.line-item.result c.loop-line-test.true) named
