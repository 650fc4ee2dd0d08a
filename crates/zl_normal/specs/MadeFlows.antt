-- What is proved of the kernel that is made of a form: that it is the normal form, that it is well formed, and that its wires
-- can be ordered.
use Rattle.std.specs.Prelude.{ℕ, List}
use Rattle.zl_meaning.specs.FlatForm.{FlatForm}
use Rattle.zl_meaning.specs.WellFormed.{IsWellFormed}
use Rattle.zl_meaning.specs.Single.{IsSingle}
use Rattle.zl_meaning.specs.Grades.{Grading, AreGrades}
use Rattle.zl_kernel.specs.WireRanks.{AreWireRanks}
use Rattle.zl_kernel.specs.WellFormed.{IsWellFormed as IsKernel}
use Rattle.zl_normal.specs.MainBlock.{IsMain}
use Rattle.zl_normal.specs.Evaluated.{HasGuardRanks}
use Rattle.zl_normal.specs.Tables.{Tables}
use Rattle.zl_normal.specs.Roles.{AreRoles}
use Rattle.zl_normal.specs.HasSlopes.{HasSlopes}
use Rattle.zl_normal.specs.HasNames.{HasNames}
use Rattle.zl_normal.specs.KernelOf.{Numbers, kernel_of}
use Rattle.zl_normal.specs.Layout.{IsLayout}
use Rattle.zl_normal.specs.Normal.{IsNormal}

-- of a well-formed form that has the main block alone, is single and has ranks and slopes, by the roles of its occurrences and
-- any layout. `names` are the names of the file
abbrev pub MadeKernelIsNormal : Type 0
MadeKernelIsNormal = (f : FlatForm) (grades : List ℕ) (t : Tables) (n : Numbers) (names : List (List ℕ)) → IsWellFormed f → IsMain f → IsSingle f → AreRoles f t.roles → HasGuardRanks f → HasSlopes f grades → IsLayout f grades t n → IsNormal f grades names (kernel_of f grades t n names) n.wiring

-- it is well formed, where the form's inputs and outputs are named as a kernel asks
abbrev pub MadeKernelIsWellFormed : Type 0
MadeKernelIsWellFormed = (f : FlatForm) (grades : List ℕ) (t : Tables) (n : Numbers) (names : List (List ℕ)) → IsWellFormed f → IsMain f → IsSingle f → AreRoles f t.roles → HasGuardRanks f → HasSlopes f grades → IsLayout f grades t n → HasNames f names → IsKernel (kernel_of f grades t n names)

-- its wires have ranks, so there is an order in which they can be solved
abbrev pub MadeKernelHasRanks : Type 0
MadeKernelHasRanks = (f : FlatForm) (grades : List ℕ) (t : Tables) (n : Numbers) (names : List (List ℕ)) → IsWellFormed f → IsMain f → IsSingle f → AreRoles f t.roles → HasGuardRanks f → IsLayout f grades t n → (ranks : List ℕ) × AreWireRanks (kernel_of f grades t n names) ranks

-- the grades of a form give its operators slopes
abbrev pub GradesGiveSlopes : Type 0
GradesGiveSlopes = (f : FlatForm) (g : Grading) → IsWellFormed f → AreGrades f g → HasSlopes f g.occs
