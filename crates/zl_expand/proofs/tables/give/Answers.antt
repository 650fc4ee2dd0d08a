use Rattle.std.proofs.Common.{rules, ◌≡◌, ◌++◌, ◌<◌, ◌≤◌, [], ◌∷◌, map, length, sym, arith}
use Rattle.std.proofs.lemmas.List.{length-map}
use Rattle.zl_expand.proofs.TableLemmas.{given-set, given-past}
use Rattle.zl_expand.proofs.tables.give.Goals as goal

pub returns-in_ok-push-in-Some : goal.returns-in_ok-push-in-Some
returns-in_ok-push-in-Some c =
    let within : c.args.given.place < length c.args.lists.now.items = search rules in
    let pushed : c.push.new.self.items ≡ c.in-Some.list.now.items ++ c.args.given.definer ∷ [] = search rules in
    given-set (λ ds. ds.items) c.args.lists.now.items c.args.given.place c.in-Some.list.now c.push.new.self c.args.given.definer within c.in-Some.ensures.value pushed

pub returns-in-None : goal.returns-in-None
returns-in-None c =
    let past : length c.args.lists.now.items ≤ c.args.given.place = search rules in
    sym (given-past (map (λ ds. ds.items) c.args.lists.now.items) c.args.given.place c.args.given.definer (omega (arith, past, length-map c.args.lists.now.items (λ ds. ds.items))))
