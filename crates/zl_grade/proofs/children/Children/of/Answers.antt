use Rattle.std.proofs.Common.{◌≡◌, ◌<◌, length, Some, None, refl, ◌∙◌, subst, arith}
use Rattle.std.proofs.lemmas.List.{get_or_default}
use Rattle.zl_grade.specs.Children.{HasChains, call_at}
use Rattle.zl_grade.proofs.Chains.{call_read, chains_none, chains_some}
use Rattle.zl_grade.proofs.children.Children.of.Goals as goal
use Rattle.zl_grade.proofs.children.Children.of.Goals.{in-Some+in_ok-push-in-Some, in-None+in_ok-push-in-None}

pub loop-k-preserved : goal.loop-k-preserved
loop-k-preserved c =
    let occs = c.args.occs.now in
    let k = c.loop-k.k in
    let last = c.loop-k.last.items in
    let before = c.loop-k.before.items in
    elim c.match-occ.branch [
      | in-Some+in_ok-push-in-Some w ↦ rw (w.last-is, w.before-is) (let call = w.in-Some.call in
          let is : call_at occs k ≡ Some call = call_read occs k c.index-occs-k.result (Some call) (omega arith) c.index-occs-k.is w.in-Some.is in
          let low : call < length occs = c.requires k call is in
          let read = w.index.ensures ∙ get_or_default last call w.index.result.now None (omega (arith, c.loop-k.invariant.lasts)) in
          rw (w.in_ok-push-in-Some.ensures.items, read) (chains_some occs k call last before is low c.loop-k.invariant))
      | in-None+in_ok-push-in-None w ↦ rw (w.last-is, w.before-is) (let is : call_at occs k ≡ None = call_read occs k c.index-occs-k.result None (omega arith) c.index-occs-k.is w.in-None.is in
          rw w.in_ok-push-in-None.ensures.items (chains_none occs k last before is c.loop-k.invariant))
    ]

pub returns : goal.returns
returns c =
    let all : c.loop-k.k ≡ length c.args.occs.now = omega arith in
    record { same = refl; chains = subst (λ n. HasChains c.args.occs.now n c.loop-k.last.items c.loop-k.before.items) all c.loop-k.invariant }
