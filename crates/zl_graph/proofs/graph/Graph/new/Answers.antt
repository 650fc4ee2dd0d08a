use Rattle.std.proofs.Common.{arith, refl, ◌≡◌, ◌+◌, ◌<◌, ◌∙◌, ◌∷◌, ◌++◌, [], sym, ap, subst, length, set, get_or}
use Rattle.std.proofs.lemmas.List.{get_or_default}
use Rattle.std.proofs.lemmas.Option.{slice_get-get_or, slice_get_within}
use Rattle.zl_graph.specs.declared.graph.Link.{Link}
use Rattle.zl_graph.specs.Chains.{HasFirst, IsLast}
use Rattle.zl_graph.proofs.ChainLemmas.{link_at, chains_more}
use Rattle.zl_graph.proofs.graph.Graph.new.Goals as goal

pub index-requires : goal.index-requires
index-requires c =
    let d : Link = record { from = 0; to = 0 } in
    let low : (get_or c.args.links.now c.loop-link.link-index d).from < c.args.nodes = c.requires.from _ _ (link_at c.args.links.now c.loop-link.link-index d (omega arith)) in
    let h = c.loop-link.invariant.lasts in
    omega arith

pub index_mut-requires : goal.index_mut-requires
index_mut-requires c =
    let d : Link = record { from = 0; to = 0 } in
    let low : (get_or c.args.links.now c.loop-link.link-index d).from < c.args.nodes = c.requires.from _ _ (link_at c.args.links.now c.loop-link.link-index d (omega arith)) in
    let h = c.loop-link.invariant.lasts in
    omega arith

pub loop-link-preserved : goal.loop-link-preserved
loop-link-preserved c =
    let d : Link = record { from = 0; to = 0 } in
    let n = c.loop-link.link-index in
    let link : Link = get_or c.args.links.now n d in
    let low : link.from < c.args.nodes = c.requires.from _ _ (link_at c.args.links.now n d (omega arith)) in
    let h = c.loop-link.invariant in
    let within : link.from < length c.loop-link.last.items = omega (arith, h.lasts) in
    let read : c.index.result.now ≡ get_or c.loop-link.last.items link.from 0 = c.index.ensures ∙ get_or_default c.loop-link.last.items link.from c.index.result.now 0 within in
    let number : c.in_ok-number.number ≡ n + 1 = omega (arith, c.in_ok-number.ensures.next, c.len.ensures, h.befores) in
    let pushed : c.push.new.self.items ≡ c.loop-link.before.items ++ get_or c.loop-link.last.items link.from 0 ∷ [] = c.in_ok-push.ensures.items ∙ ap (λ x. c.loop-link.before.items ++ x ∷ []) read in
    let more = chains_more c.args.links.now c.args.nodes n c.loop-link.last.items c.loop-link.before.items link h (slice_get-get_or c.args.links.now n d (omega arith)) low in
    subst (λ items. HasFirst c.args.links.now c.args.nodes (n + 1) (set c.loop-link.last.items link.from c.in_ok-number.number) items) (sym pushed)
    (subst (λ m. HasFirst c.args.links.now c.args.nodes (n + 1) (set c.loop-link.last.items link.from m) (c.loop-link.before.items ++ get_or c.loop-link.last.items link.from 0 ∷ [])) (sym number) more)

pub returns : goal.returns
returns c =
    let h = c.loop-link.invariant in
    let all : c.loop-link.link-index ≡ length c.args.links.now = omega arith in
    record {
      same = refl;
      lasts = h.lasts;
      befores = h.befores ∙ all;
      last = λ a l. subst (λ n. IsLast c.args.links.now n a (get_or c.loop-link.last.items a 0)) all (h.of_nodes a l);
      before = λ i link e. h.of_links i link (let l : i < c.loop-link.link-index = omega (arith, slice_get_within c.args.links.now i link e, all) in l) e;
    }
