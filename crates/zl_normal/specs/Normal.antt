-- When a kernel is a normal form of a flat form that has the main block alone: there is a wire for each occurrence and place,
-- as its row says. A row says what a wire is and not where it stands.
use Rattle.std.specs.Prelude.{◌≡◌, ℕ, ◌⊎◌, true, false, List, length, map, slice_get, Option, Some, None, pos}
use Rattle.std.specs.List.{AllByRecursion}
use Rattle.zl_value.specs.Fraction.{whole}
use Rattle.zl_value.specs.declared.value.Ty.TheVariants.{Float}
use Rattle.zl_value.specs.declared.value.Value.{Value}
use Rattle.zl_value.specs.declared.value.Value.TheVariants.{B, F}
use Rattle.zl_value.specs.declared.op.Op.{Op}
use Rattle.zl_value.specs.declared.op.Op.TheVariants.{Or, Not, EqFloat}
use Rattle.zl_meaning.specs.FlatForm.{FlatForm}
use Rattle.zl_meaning.specs.Uses.{uses_of}
use Rattle.zl_meaning.specs.declared.place.Definer.TheVariants.{Der}
use Rattle.zl_meaning.specs.declared.place.DerArm.{DerArm}
use Rattle.zl_meaning.specs.declared.place.PlaceInfo.{PlaceInfo}
use Rattle.zl_meaning.specs.declared.occurrence.Form.TheVariants.{Last, Op as Apply}
use Rattle.zl_meaning.specs.declared.occurrence.Occ.{Occ}
use Rattle.zl_meaning.specs.declared.occurrence.SiteInfo.{SiteInfo}
use Rattle.zl_kernel.specs.KernelForm.{KernelForm}
use Rattle.zl_kernel.specs.FlowWires.{is_of_flows}
use Rattle.zl_kernel.specs.declared.wire.Def.TheVariants.{Lit as LitWire, Mem, Step, Op as OpWire}
use Rattle.zl_kernel.specs.declared.wire.Wire.{Wire}
use Rattle.zl_normal.specs.Wiring.{Wiring}
use Rattle.zl_normal.specs.KernelParts.{IsWire, IsFlowWire, IsLit, IsMemory}
use Rattle.zl_normal.specs.Guards.{IsAny}
use Rattle.zl_normal.specs.FormWires.{IsOcc, IsCall, IsFormWire}
use Rattle.zl_normal.specs.UseGuards.{IsGuardBy}
use Rattle.zl_normal.specs.PlaceWires.{definer_of, start_of, IsLast, IsDefined, IsDer}
use Rattle.zl_normal.specs.SiteWires.{IsSiteWire}
use Rattle.zl_normal.specs.SlopeWires.{Moves, IsAppended, IsSlope, IsPlaceSlope, IsOwnSlope, AreMotions}
use Rattle.zl_normal.specs.Interface.{AreInputs, AreOutputs}

-- wire number `n` is that of the operator at whose turn it has its fault
pub record IsOwn (f : FlatForm) (N : Wiring) (n : ℕ) (wire : Wire) (op : Op) : Type 0 where
  pub occ : Occ
  pub ks : List ℕ
  pub is : slice_get f.occs wire.ord ≡ Some occ
  pub form : occ.form ≡ Apply op ks
  pub same : N.w wire.ord ≡ n

-- `last` of a place that an occurrence names
abbrev pub HasLast : FlatForm → KernelForm → Wiring → ℕ → Type 0
HasLast f k N p = (place : PlaceInfo) × (slice_get f.places p ≡ Some place) × IsLast f k N p place.call (start_of place.definers) (N.L p)

-- what holds of instants: occurrences, their guards, places, `last` where an occurrence names it; sites and `again`
pub record IsNormalAtInstants (f : FlatForm) (k : KernelForm) (N : Wiring) : Type 0 where
  pub step : IsWire k N.step Step None
  pub fresh : IsWire k N.fresh (Mem N.first) None
  pub first : (n : ℕ) × IsLit k n (B false) × IsMemory k N.first (Some (B true)) n None
  pub forms : (j : ℕ) (occ : Occ) → slice_get f.occs j ≡ Some occ → IsFormWire f k N j occ occ.form
  pub guards : (j : ℕ) (occ : Occ) → slice_get f.occs j ≡ Some occ → IsGuardBy f k N occ.call (N.G j) (uses_of f j)
  pub places : (p : ℕ) (place : PlaceInfo) → slice_get f.places p ≡ Some place → IsCall f place.call × IsDefined f k N p place (definer_of place.definers)
  pub lasts : (j p : ℕ) (occ : Occ) → slice_get f.occs j ≡ Some occ → occ.form ≡ Last p → HasLast f k N p
  -- a wire that can fault at instants is that of its turn
  pub faults : (n : ℕ) (wire : Wire) (op : Op) (ns : List ℕ) → slice_get k.wires n ≡ Some wire → is_of_flows k n ≡ false → wire.def ≡ OpWire op ns → ((op ≡ Not) ⊎ (op ≡ Or)) ⊎ IsOwn f N n wire op
  pub site_count : length k.sites ≡ length f.sites
  pub sites : (n : ℕ) (site : SiteInfo) → slice_get f.sites n ≡ Some site → IsSiteWire f k N n site
  pub again : AllByRecursion (λ a. IsOcc f a × (N.G a ≡ None)) f.again × IsAny k (map N.w f.again) k.again

-- what holds of flows: slopes of what moves, of places and of memories
pub record IsNormalInFlows (f : FlatForm) (grades : List ℕ) (k : KernelForm) (N : Wiring) : Type 0 where
  pub zero : IsFlowWire k N.zero (LitWire (F (whole (pos 0)))) None
  pub slopes : (j : ℕ) (occ : Occ) → slice_get f.occs j ≡ Some occ → occ.ty ≡ Float → Moves f grades k N j ⊎ IsAppended f grades k N j → IsSlope f grades k N j occ
  pub place_slopes : (p : ℕ) (place : PlaceInfo) → slice_get f.places p ≡ Some place → place.ty ≡ Float → IsPlaceSlope f grades k N p (definer_of place.definers)
  pub ders : (p : ℕ) (place : PlaceInfo) (b a n slope : ℕ) (arms : List DerArm) (start : Option Value) → slice_get f.places p ≡ Some place → definer_of place.definers ≡ Some (Der b a arms) → IsMemory k n start (N.P p) (Some slope) → (slope ≡ N.D p) × IsDer f k N place a slope
  pub motions : AreMotions f grades k N k.mems 0 f.places
  -- an operator that is solved in flows alone asks for a number, or is the slope of its turn
  pub faults : (n : ℕ) (wire : Wire) (op : Op) (ns : List ℕ) → slice_get k.wires n ≡ Some wire → is_of_flows k n ≡ true → wire.def ≡ OpWire op ns → (op ≡ EqFloat) ⊎ IsOwnSlope f grades k N n

-- the kernel is the normal form, with these wires, of a form with these grades. `names` are the names of the file
pub record IsNormal (f : FlatForm) (grades : List ℕ) (names : List (List ℕ)) (k : KernelForm) (N : Wiring) : Type 0 where
  pub instants : IsNormalAtInstants f k N
  pub flows : IsNormalInFlows f grades k N
  pub ins : AreInputs f names N f.ins k.ins
  pub outs : AreOutputs f names N f.outs k.outs
