use Rattle.std.proofs.Common.{◌≡◌, ℕ, List, length, ap, sym, subst, Option, arith}
use Rattle.zl_normal.specs.Roots.{root_of, AreChained}
use Rattle.zl_normal.specs.Table.{IsTable}
use Rattle.zl_normal.proofs.AreTables.{none_chained, chains_give_roots}
use Rattle.zl_normal.proofs.roots.roots.Goals as goal

pub loop-i-init : goal.loop-i-init
loop-i-init c =
    (ap (λ (es : List ℕ). length es) c.new-ends.ensures.items, subst (AreChained c.args.links.now c.in_ok-marks.marks.items) (sym c.new-ends.ensures.items) (none_chained c.args.links.now c.in_ok-marks.marks.items c.in_ok-marks.ensures))

pub returns : goal.returns
returns c =
    let roots = c.in_ok-roots.roots.items in
    let marks = c.loop-i.marks.items in
    let ends = c.loop-i.ends.items in
    let all : length ends ≡ length c.args.links.now = omega (arith, c.loop-i.invariant.0, c.loop-i-test.false, c.loop-i.auto.i-end) in
    let by_marks = subst (λ (ms : List (Option ℕ)). IsTable roots (length ms) (root_of ms c.as_slice-3.result.now)) c.as_slice-2.ensures.value c.in_ok-roots.ensures in
    let table : IsTable roots (length marks) (root_of marks ends) = subst (λ (es : List ℕ). IsTable roots (length marks) (root_of marks es)) c.as_slice-3.ensures.value by_marks in
    chains_give_roots c.args.links.now marks ends roots all c.loop-i.invariant.1 table
