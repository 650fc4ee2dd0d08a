use Rattle.std.proofs.Common.{◌≡◌, ◌++◌, map, drop}
use Rattle.zl_grade.specs.Needs as spec
use Rattle.zl_grade.proofs.needs.add_sites.Given as goal

abbrev pub invariant-loop-site : goal.invariant-loop-site
invariant-loop-site l = l.needs.items ++ map spec.site_need (drop l.site-index l.sites) ≡ l.initial.needs.items ++ map spec.site_need l.sites
