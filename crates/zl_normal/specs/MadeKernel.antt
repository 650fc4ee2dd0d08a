-- What is proved of the kernel that is made of a form.
use Rattle.std.specs.Prelude.{ℕ, List}
use Rattle.zl_meaning.specs.FlatForm.{FlatForm}
use Rattle.zl_meaning.specs.Single.{IsSingle}
use Rattle.zl_meaning.specs.WellFormed.{IsWellFormed}
use Rattle.zl_normal.specs.MainBlock.{IsMain}
use Rattle.zl_normal.specs.Evaluated.{HasGuardRanks}
use Rattle.zl_normal.specs.Interface.{AreInputs, AreOutputs}
use Rattle.zl_normal.specs.Normal.{IsNormalAtInstants}
use Rattle.zl_normal.specs.Tables.{Tables}
use Rattle.zl_normal.specs.KernelOf.{Numbers, kernel_of}
use Rattle.zl_normal.specs.Layout.{IsLayout}
use Rattle.zl_normal.specs.Roles.{AreRoles}

-- at instants it is a normal form of the form, and it has the form's inputs and outputs. `names` are the names of the file
pub record IsMadeAtInstants (f : FlatForm) (grades : List ℕ) (t : Tables) (n : Numbers) (names : List (List ℕ)) : Type 0 where
  pub instants : IsNormalAtInstants f (kernel_of f grades t n names) n.wiring
  pub ins : AreInputs f names n.wiring f.ins (kernel_of f grades t n names).ins
  pub outs : AreOutputs f names n.wiring f.outs (kernel_of f grades t n names).outs

-- of a well-formed form that has the main block alone, is single and has ranks, by the roles of its occurrences and any layout
abbrev pub MadeKernelIsNormalAtInstants : Type 0
MadeKernelIsNormalAtInstants = (f : FlatForm) (grades : List ℕ) (t : Tables) (n : Numbers) (names : List (List ℕ)) → IsWellFormed f → IsMain f → IsSingle f → AreRoles f t.roles → HasGuardRanks f → IsLayout f grades t n → IsMadeAtInstants f grades t n names
