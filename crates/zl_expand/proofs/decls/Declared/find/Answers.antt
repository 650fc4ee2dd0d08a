use Rattle.std.proofs.Common.{◌≡◌, ℕ, ◌<◌, List, map, length, nat_eq, Option, Some, None, IfSome, sym, ap, ◌∙◌, arith}
use Rattle.std.specs.List.{position}
use Rattle.std.proofs.lemmas.List.{length-map}
use Rattle.zl_ast.specs.declared.program.Decl.{Decl}
use Rattle.zl_expand.proofs.LimitLemmas.{position-within}
use Rattle.zl_expand.proofs.decls.Declared.find.Goals as goal

-- what is found by its name is there
found-within : (ds : List Decl) (id : ℕ) (r : Option ℕ) → r ≡ position (nat_eq id) (map (λ d. d.name.id) ds) → IfSome r (λ n. n < length ds)
found-within ds id None e = tt
found-within ds id (Some n) e = omega (arith, position-within (nat_eq id) (map (λ d. d.name.id) ds) n (sym e), length-map ds (λ (d : Decl). d.name.id))

pub returns-clause-is : goal.returns-clause-is
returns-clause-is c = c.find.ensures ∙ ap (λ ys. position (nat_eq c.args.id) ys) c.args.self.now.of_decls

pub returns-clause-within : goal.returns-clause-within
returns-clause-within c = found-within c.args.self.now.decls.now c.args.id c.find.result (returns-clause-is c)
