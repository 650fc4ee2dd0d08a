-- The wires of sites.
use Rattle.std.specs.Prelude.{◌≡◌, ℕ, ◌⊎◌, slice_get, Some, None}
use Rattle.zl_meaning.specs.FlatForm.{FlatForm}
use Rattle.zl_meaning.specs.declared.occurrence.Form.{Form}
use Rattle.zl_meaning.specs.declared.occurrence.Form.TheVariants.{If}
use Rattle.zl_meaning.specs.declared.occurrence.Occ.{Occ}
use Rattle.zl_meaning.specs.declared.occurrence.SiteInfo.{SiteInfo}
use Rattle.zl_kernel.specs.KernelForm.{KernelForm}
use Rattle.zl_kernel.specs.declared.site.KSite.{KSite}
use Rattle.zl_normal.specs.Wiring.{Wiring}
use Rattle.zl_normal.specs.FormWires.{IsOcc}

module _ (f : FlatForm) (k : KernelForm) (N : Wiring) where
  -- whether a site is fresh: by the test of an `if` whose branches are one occurrence, else at the first instant
  abbrev pub IsFresh : Form → ℕ → Type 0
  IsFresh (If c x y) n = ((x ≡ y) × IsOcc f c × (N.G c ≡ None) × (n ≡ N.w c)) ⊎ ((x ≡ y → ⊥) × (n ≡ N.fresh))
  IsFresh form n = n ≡ N.fresh

  -- site number `n`
  pub record IsSiteWire (n : ℕ) (site : SiteInfo) : Type 0 where
    pub wires : KSite
    pub is : slice_get k.sites n ≡ Some wires
    pub occ : Occ
    pub argument : slice_get f.occs site.arg ≡ Some occ
    pub guard : N.G site.arg ≡ None
    pub value : wires.value ≡ N.w site.arg
    pub fresh : IsFresh occ.form wires.fresh
    pub slope : wires.slope ≡ N.S site.arg
