use Rattle.std.proofs.Common.{rules, ◌≡◌, ◌++◌, List, [], map, ap, ◌∙◌}
use Rattle.std.proofs.lemmas.List.{append-nil}
use Rattle.zl_ast.specs.declared.expr.Expr.{Expr}
use Rattle.zl_ast.specs.declared.eqn.Eqn.{Eqn}
use Rattle.zl_ast.specs.declared.program.Param.{Param}
use Rattle.zl_expand.specs.declared.numbering.Places.{Places}
use Rattle.zl_flat.specs.Sizes as sizes
use Rattle.zl_flat.specs.Numbering as spec
use Rattle.zl_flat.specs.Numbering.{decl_numbering}
use Rattle.zl_expand.specs.Kept.{infos_in, known_in, NumbersWithin}
use Rattle.zl_flat.proofs.NumberingEnds.{ends-calls, eqn-ends, turn-ends}
use Rattle.zl_expand.proofs.NumberingSums.{both-within, as-within}
use Rattle.zl_expand.proofs.numbering.own_places.Goals as goal

pub returns : goal.returns
unfolding decl_numbering
returns c =
    let infos = infos_in c.args.known.now in
    let known = known_in c.args.known.now in
    let d = c.args.decl.now in
    let params : c.as_slice.result.now ≡ d.params = search rules in
    let results : c.as_slice-2.result.now ≡ d.results = search rules in
    let eqs : c.as_slice-3.result.now ≡ d.eqs = search rules in
    let of_params = λ (ps : List Param). spec.in_turn (map (λ p. spec.a_variable) ps) in
    let of_results = λ (xs : List Expr). spec.of_calls (sizes.exprs_size infos known xs) in
    let of_eqs = λ (es : List Eqn). spec.in_turn (map (spec.eqn_numbering infos known) es) in
    let size = sizes.exprs_size infos known c.as_slice-2.result.now in
    let first = both-within _ _ _ (of_params c.as_slice.result.now) (of_results c.as_slice-2.result.now) size (ends-calls size) c.in_ok-number_params.ensures c.pass_exprs.ensures in
    let all = both-within _ _ _ (spec.both (of_params c.as_slice.result.now) (of_results c.as_slice-2.result.now)) (of_eqs c.as_slice-3.result.now) _ (turn-ends (spec.eqn_numbering infos known) (sizes.eqn_size infos known) (eqn-ends infos known) c.as_slice-3.result.now) first c.in_ok-number_eqns.ensures in
    let of_slices = spec.both (spec.both (of_params c.as_slice.result.now) (of_results c.as_slice-2.result.now)) (of_eqs c.as_slice-3.result.now) in
    let of_decl = spec.both (spec.both (of_params d.params) (of_results d.results)) (of_eqs d.eqs) in
    let same : of_slices c.args.next ≡ of_decl c.args.next = λ t. spec.both (spec.both (of_params (params t)) (of_results (results t))) (of_eqs (eqs t)) c.args.next in
    let start : Places = record { own = c.new.result; next = c.args.next } in
    let every : NumbersWithin start c.number_eqns.new.places of_decl = as-within start c.number_eqns.new.places of_slices of_decl same all in
    let made = every.within c.requires in
    let none : c.new.result.items ≡ [] = search rules in
    let first_places = of_params d.params c.args.next in
    let last_places = of_eqs d.eqs (of_results d.results first_places.next).next in
    made.own ∙ ap (λ xs. xs ++ ((first_places.own ++ []) ++ last_places.own)) none ∙ ap (λ xs. xs ++ last_places.own) (append-nil first_places.own)
