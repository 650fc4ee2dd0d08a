use Rattle.std.proofs.Common.{rules, ◌≡◌, nat_eq, ◌+◌, ◌<◌, length, take, get_or, sym, ap, ◌∙◌}
use Rattle.std.specs.List.{position}
use Rattle.zl_expand.specs.FirstOf.{or_here}
use Rattle.zl_expand.proofs.IndexLemmas.{first-more}
use Rattle.zl_expand.proofs.name_index.NameIndex.new.Goals as goal

pub loop-place-preserved : goal.loop-place-preserved
loop-place-preserved c = λ id.
    let n = c.loop-place.place in
    let ids = c.deref-id-items.result.now in
    let same : c.deref-id-items.result.now ≡ c.args.ids.items = search rules in
    let within : n < length ids = search rules in
    c.in_ok-note_first.ensures id
    ∙ ap (λ q. or_here q (nat_eq id (get_or ids n 0)) n) (c.loop-place.invariant id ∙ ap (λ xs. position (nat_eq id) (take n xs)) (sym same))
    ∙ sym (first-more id ids n 0 within)
    ∙ ap (λ xs. position (nat_eq id) (take (n + 1) xs)) same
