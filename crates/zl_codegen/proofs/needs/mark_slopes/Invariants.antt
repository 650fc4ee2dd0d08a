-- The marks of what is left lead to all.
use Rattle.std.specs.Prelude.{◌≡◌, drop, map}
use Rattle.zl_kernel.specs.declared.site.KSite.{KSite}
use Rattle.zl_codegen.specs.Needs.{marked}
use Rattle.zl_codegen.proofs.needs.mark_slopes.Given as goal

abbrev pub invariant-loop-i : goal.invariant-loop-i
invariant-loop-i l =
    marked (map (λ (site : KSite). site.slope) (drop l.i l.sites)) l.marks ≡ marked (map (λ (site : KSite). site.slope) l.sites) l.initial.marks
