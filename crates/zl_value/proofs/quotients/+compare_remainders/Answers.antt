use Rattle.std.proofs.Common.{◌≡◌, inl, inr, ◌∙◌, ◌*◌, ◌%◌}
use Rattle.std.specs.Ordering.{nat_cmp}
use Rattle.zl_value.proofs.QuotientOrder.{no_remainder, same_quotients}
use Rattle.zl_value.proofs.quotients.+compare_remainders.Goals as goal
use Rattle.zl_value.proofs.quotients.+compare_remainders.Goals.{then-rest-eq0-via-then-rest-eq0, then-rest-eq0-via-else-rest-eq0+then-other-eq0}

pub returns-then-rest-eq0 : goal.returns-then-rest-eq0
returns-then-rest-eq0 t c =
    let a = c.args.a in let b = c.args.b in let n = c.args.c in let d = c.args.d in
    let none : nat_cmp (a % b) (n % d) ≡ nat_cmp ((a % b) * d) ((n % d) * b) = elim c.then-rest-eq0.branch [
      | then-rest-eq0-via-then-rest-eq0 w ↦ no_remainder (a % b) b (n % d) d c.requires.first c.requires.second (inl w.if-rest-eq0.true)
      | then-rest-eq0-via-else-rest-eq0+then-other-eq0 w ↦ no_remainder (a % b) b (n % d) d c.requires.first c.requires.second (inr w.if-other-eq0.true)
    ] in
    c.cmp-then-rest-eq0.ensures ∙ none ∙ same_quotients a b n d c.if-a-b.false
