-- What the pass makes is a normal form.
use Rattle.std.specs.Prelude.{◌≡◌, ℕ, List}
use Rattle.std.proofs.Common.{refl, sym, subst}
use Rattle.zl_meaning.specs.FlatForm.{FlatForm}
use Rattle.zl_meaning.specs.Single.{IsSingle}
use Rattle.zl_meaning.specs.WellFormed.{IsWellFormed}
use Rattle.zl_kernel.specs.KernelForm.{KernelForm}
use Rattle.zl_kernel.specs.WellFormed.{IsWellFormed as IsKernel}
use Rattle.zl_kernel.specs.WireRanks.{AreWireRanks}
use Rattle.zl_normal.specs.Evaluated.{HasGuardRanks}
use Rattle.zl_normal.specs.HasNames.{HasNames}
use Rattle.zl_normal.specs.HasSlopes.{HasSlopes}
use Rattle.zl_normal.specs.KernelOf.{kernel_of}
use Rattle.zl_normal.specs.Laid.{IsLaid}
use Rattle.zl_normal.specs.MainBlock.{IsMain}
use Rattle.zl_normal.specs.Normal.{IsNormal}
use Rattle.zl_normal.specs.Normalised.{IsNormalised}
use Rattle.zl_normal.specs.NumberTables.{numbers_of}
use Rattle.zl_normal.specs.declared.laid.Laid.{Laid}
use Rattle.std.specs.Prelude.{map}
use Rattle.zl_normal.specs.Keys.{keys}
use Rattle.zl_normal.specs.MadeKernel.{IsMadeAtInstants}
use Rattle.zl_normal.proofs.Made.FormedKernel.{formed_kernel}
use Rattle.zl_normal.proofs.Made.Kernel.{made_at_instants}
use Rattle.zl_normal.proofs.MadeFlows.InFlows.{normal_in_flows}
use Rattle.zl_normal.proofs.MadeFlows.Levels.{key_rank}
use Rattle.zl_normal.proofs.MadeFlows.MadeRanks.{made_ranks}

module _ (f : FlatForm) (grades : List ℕ) (names : List (List ℕ)) (l : Laid) (formed : IsWellFormed f) (main : IsMain f) (single : IsSingle f) (ranks : HasGuardRanks f) (laid : IsLaid f grades l) where
  abbrev made : KernelForm
  made = kernel_of f grades l.tables (numbers_of l.numbers l.wires) names

  pub well_formed : HasSlopes f grades → HasNames f names → IsKernel (kernel_of f grades l.tables (numbers_of l.numbers l.wires) names)
  well_formed slopes named = formed_kernel f grades l.tables (numbers_of l.numbers l.wires) names formed main single ranks.entries laid.roles slopes laid.layout named

  pub has_ranks : (k : KernelForm) → k ≡ kernel_of f grades l.tables (numbers_of l.numbers l.wires) names → (rs : List ℕ) × AreWireRanks k rs
  has_ranks k e = subst (λ k. (rs : List ℕ) × AreWireRanks k rs) (sym e) (map (key_rank f ranks.entries) (keys f grades l.tables), made_ranks f grades l.tables (numbers_of l.numbers l.wires) names formed main single ranks laid.roles laid.layout)

  is_normal : HasSlopes f grades → IsNormal f grades names made (numbers_of l.numbers l.wires).wiring
  is_normal slopes =
      let at : IsMadeAtInstants f grades l.tables (numbers_of l.numbers l.wires) names = made_at_instants f grades l.tables (numbers_of l.numbers l.wires) names formed main single ranks.entries laid.roles laid.layout in
      record { instants = at.instants; flows = normal_in_flows f grades l.tables (numbers_of l.numbers l.wires) names formed main single ranks.entries laid.roles slopes laid.layout; ins = at.ins; outs = at.outs }

  pub normalised : (k : KernelForm) (rs : List ℕ) → k ≡ kernel_of f grades l.tables (numbers_of l.numbers l.wires) names → AreWireRanks k rs → HasSlopes f grades → IsNormalised f grades names k rs
  normalised k rs e ranked slopes = record {
    wiring = (numbers_of l.numbers l.wires).wiring;
    normal = subst (λ k. IsNormal f grades names k (numbers_of l.numbers l.wires).wiring) (sym e) (is_normal slopes);
    ranked = ranked;
  }
