use Rattle.std.proofs.Common.{◌≡◌, ◌∙◌, length, get_or, sym, ap, subst}
use Rattle.std.specs.Prelude.{OnOk}
use Rattle.std.proofs.lemmas.List.Sums.{fold-append}
use Rattle.zl_meaning.specs.Uses.{parts}
use Rattle.zl_grade.specs.Children.{children, members}
use Rattle.zl_grade.specs.Reached.{Reach, with_all, with_one}
use Rattle.zl_grade.proofs.Chains.{children_read}
use Rattle.zl_grade.proofs.children.Children.add_to.Goals as goal

pub returns : goal.returns
returns c =
    let occs = c.args.self.now.occs.now in
    let k = c.args.k in
    let old = c.args.reached.now in
    let own = parts (get_or occs k c.index-self-k.result).form in
    let called = members occs k (length occs) in
    let same : with_all c.add_parts.new.reached called ≡ with_all old (children occs k) =
    ap (λ (r : Reach). with_all r called) c.in_ok-add_parts.ensures ∙ sym (fold-append with_one old own called) ∙ ap (with_all old) (children_read occs k c.index-self-k.result c.requires.within) in
    subst (λ r. OnOk c.add_members.result (c.add_members.new.reached ≡ r)) same c.add_members.ensures
