use Rattle.std.proofs.Common.{◌∷◌, ◌+◌, drop, Some, sym, ap, ◌∙◌}
use Rattle.zl_normal.specs.PlaceWires.{definer_of}
use Rattle.zl_normal.proofs.KeyLists.{definer_here}
use Rattle.zl_normal.proofs.tables.definer_at.Goals as goal

pub returns-in-Input-clause-some : goal.returns-in-Input-clause-some
returns-in-Input-clause-some c = λ other same. definer_here c.args.definers.now c.loop-i.i c.index-definers-i.result other c.loop-i-test.true c.index-definers-i.is (ap (λ d. definer_of (d ∷ drop (c.loop-i.i + 1) c.args.definers.now)) c.in-Input.is ∙ sym (ap Some c.in-Input.is)) c.loop-i.invariant same

pub returns-in-Plain-clause-some : goal.returns-in-Plain-clause-some
returns-in-Plain-clause-some c = λ other same. definer_here c.args.definers.now c.loop-i.i c.index-definers-i.result other c.loop-i-test.true c.index-definers-i.is (ap (λ d. definer_of (d ∷ drop (c.loop-i.i + 1) c.args.definers.now)) c.in-Plain.is ∙ sym (ap Some c.in-Plain.is)) c.loop-i.invariant same

pub returns-in-Der-clause-some : goal.returns-in-Der-clause-some
returns-in-Der-clause-some c = λ other same. definer_here c.args.definers.now c.loop-i.i c.index-definers-i.result other c.loop-i-test.true c.index-definers-i.is (ap (λ d. definer_of (d ∷ drop (c.loop-i.i + 1) c.args.definers.now)) c.in-Der.is ∙ sym (ap Some c.in-Der.is)) c.loop-i.invariant same
