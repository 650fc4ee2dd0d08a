use Rattle.std.proofs.Common.{◌≡◌, ◌++◌, ◌∷◌, [], sym, ap, ◌∙◌, append_assoc}
use Rattle.std.specs.List.{flat_map}
use Rattle.zl_causal.specs.FormLinks as spec
use Rattle.zl_graph.proofs.Ways.{on_ok}
use Rattle.zl_causal.proofs.links.add_form.Goals as goal

pub returns-in_ok-add_parts-in-If : goal.returns-in_ok-add_parts-in-If
returns-in_ok-add_parts-in-If c =
    let old = c.args.links.now.items in
    let k = c.args.k in
    let parts = flat_map (spec.reading k) (c.in-If.c ∷ c.in-If.x ∷ c.in-If.y ∷ []) in
    let branches = spec.branch_links c.in-If.c c.in-If.x c.in-If.y in
    on_ok c.add_branches.result (c.add_branches.new.links.items ≡ c.add_parts-in-If.new.links.items ++ branches) (c.add_branches.new.links.items ≡ old ++ spec.form_links k c.args.form.now)
    (λ e. e ∙ ap (λ l. l ++ branches) c.in_ok-add_parts-in-If.ensures ∙ append_assoc old parts branches ∙ ap (λ f. old ++ spec.form_links k f) (sym c.in-If.is))
    c.add_branches.ensures
