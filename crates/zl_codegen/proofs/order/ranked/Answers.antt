-- The sorted wires are an order.
use Rattle.std.specs.Prelude.{◌≡◌, map, length}
use Rattle.std.proofs.Common.{rules, sym, subst}
use Rattle.std.proofs.lemmas.List.Sorted.{IsNonDecreasingBy-from_sort_by_key}
use Rattle.zl_codegen.specs.Orders.{IsOrder}
use Rattle.zl_codegen.specs.Ranking.{AreEntries, wire_of}
use Rattle.zl_codegen.specs.declared.entry.Entry.{Entry}
use Rattle.zl_codegen.proofs.Ranked.{sorted_order}
use Rattle.zl_codegen.proofs.order.ranked.Goals as goal

pub returns : goal.returns
returns c =
    let key : Entry → _ = λ e. e.key in
    let made : AreEntries c.args.ranks.now (length c.args.kernel.now.wires) c.in_ok-sorted.sorted.items = search rules in
    let rises = IsNonDecreasingBy-from_sort_by_key key _ c.in_ok-sort_by_key.ensures.sorted (λ a r q k. search rules) in
    let list : c.in_ok-list.list.items ≡ map wire_of c.sort_by_key.new.self.items = search rules in
    subst (λ l. IsOrder c.args.kernel.now l) (sym list) (sorted_order c.args.kernel.now c.args.ranks.now c.is_well_formed.ensures c.requires.ranks c.in_ok-sorted.sorted.items c.sort_by_key.new.self.items made c.in_ok-sort_by_key.ensures.permutation rises)
