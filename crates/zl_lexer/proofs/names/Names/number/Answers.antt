use Rattle.std.proofs.Common.{map}
use Rattle.std.specs.String.{string_bytes}
use Rattle.zl_lexer.proofs.NameLemmas.{found, number_of_new, inserted, number_fits}
use Rattle.zl_lexer.proofs.names.Names.number.Goals as goal

pub returns-in-Some-clause-number : goal.returns-in-Some-clause-number
returns-in-Some-clause-number c =
    (found c.self.inside.set.keys c.args.self.now c.args.name.now c.in-Some.at c.self.view_is c.in-Some.ensures.index).number

pub returns-in-Some-clause-names : goal.returns-in-Some-clause-names
returns-in-Some-clause-names c =
    (found c.self.inside.set.keys c.args.self.now c.args.name.now c.in-Some.at c.self.view_is c.in-Some.ensures.index).names_stay

pub returns-clause-number : goal.returns-clause-number
returns-clause-number c =
    number_of_new c.self.inside.set.keys c.args.self.now c.args.name.now c.len-at.result c.self.view_is c.in_default.ensures.found c.len-at.ensures.len

pub returns-clause-names : goal.returns-clause-names
returns-clause-names c =
    inserted c.self.inside.set.keys c.insert.new.self.keys c.args.self.now c.args.name.now c.in_ok-owned.owned c.self.view_is
    c.in_ok-owned.ensures.ok c.in_ok-insert.ensures.keys

pub returns-clause-within : goal.returns-clause-within
returns-clause-within c =
    number_fits c.args.self.now (map string_bytes c.insert.new.self.keys) c.args.name.now c.len-at.result (returns-clause-number c) (returns-clause-names c)
