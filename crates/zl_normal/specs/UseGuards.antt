-- The guards of occurrences, by their uses.
use Rattle.std.specs.Prelude.{◌≡◌, ℕ, suc, true, false, List, [], ◌∷◌, Option, Some, None}
use Rattle.std.specs.List.{AllByRecursion}
use Rattle.zl_value.specs.declared.value.Value.TheVariants.{B}
use Rattle.zl_meaning.specs.FlatForm.{FlatForm}
use Rattle.zl_meaning.specs.Uses.{Use, PartOf, BranchOf, DefinerOf, SlopeOf, EventOf, StartOf, ResetOf, TestOf, ArgumentOf, AgainOf}
use Rattle.zl_kernel.specs.KernelForm.{KernelForm}
use Rattle.zl_normal.specs.Wiring.{Wiring, call_guard}
use Rattle.zl_normal.specs.KernelParts.{IsLit}
use Rattle.zl_normal.specs.Guards.{IsUnder, IsBut, IsEither}
use Rattle.zl_normal.specs.FormWires.{IsOcc, IsCall, IsPart}

module _ (f : FlatForm) (k : KernelForm) (N : Wiring) where
  -- the whole of a branch, and its test
  pub record IsBranch (whole condition : ℕ) : Type 0 where
    pub there : IsOcc f whole
    pub test : IsPart f k N whole condition

  -- what a definer of a place in the copy of this call names
  pub record IsPartOf (call : Option ℕ) (j : ℕ) : Type 0 where
    pub there : IsOcc f j
    pub guard : N.G j ≡ call_guard N call

  -- where `rest` is true, `h` is true exactly where event number `n` is the first that isn't false and is true
  pub data IsTaken : List ℕ → ℕ → ℕ → ℕ → Type 0 where
    Here : (e : ℕ) (es : List ℕ) (rest h : ℕ) → IsUnder k (Some rest) (N.w e) (Some h) → IsTaken (e ∷ es) 0 rest h
    Later : (e : ℕ) (es : List ℕ) (n rest but h : ℕ) → IsBut k (Some rest) (N.w e) (Some but) → IsTaken es n but h → IsTaken (e ∷ es) (suc n) rest h
    Never : (e : ℕ) (es : List ℕ) (n rest h : ℕ) → IsLit k (N.w e) (B true) → IsLit k h (B false) → IsTaken (e ∷ es) (suc n) rest h

  -- the guard of what is used so
  abbrev pub IsGuardFor : Use → Option ℕ → Type 0
  IsGuardFor (PartOf whole) g = IsOcc f whole × (g ≡ N.G whole)
  IsGuardFor (BranchOf whole condition true) g = IsBranch whole condition × IsUnder k (N.G whole) (N.w condition) g
  IsGuardFor (BranchOf whole condition false) g = IsBranch whole condition × IsBut k (N.G whole) (N.w condition) g
  IsGuardFor (DefinerOf call) g = IsCall f call × (g ≡ call_guard N call)
  IsGuardFor (SlopeOf call) g = IsCall f call × (g ≡ call_guard N call)
  IsGuardFor (EventOf call) g = IsCall f call × (g ≡ call_guard N call)
  IsGuardFor (StartOf call b) g = (b ≡ 0) × IsCall f call × IsUnder k (call_guard N call) N.fresh g
  IsGuardFor (ResetOf call events n) g = IsCall f call × AllByRecursion (IsPartOf call) events × ((h : ℕ) × IsTaken events n N.step h × IsUnder k (call_guard N call) h g)
  IsGuardFor TestOf g = ⊥
  IsGuardFor ArgumentOf g = g ≡ None
  IsGuardFor AgainOf g = g ≡ None

  -- the guard of an occurrence by its uses: by its one use; by its call, where it has none; the result of a call that a definer
  -- names too; both branches of one `if`, which is asked for where the test has a value
  pub data IsGuardBy (call : Option ℕ) (g : Option ℕ) : List Use → Type 0 where
    Unused : IsCall f call → g ≡ call_guard N call → IsGuardBy call g []
    Once : (of : Use) → IsGuardFor of g → IsGuardBy call g (of ∷ [])
    OfCall : (whole : ℕ) (of : Option ℕ) → IsGuardFor (PartOf whole) g → IsGuardFor (DefinerOf of) g → IsGuardBy call g (PartOf whole ∷ DefinerOf of ∷ [])
    OfBranches : (whole condition : ℕ) → IsBranch whole condition → IsEither k (N.G whole) (N.w condition) g → IsGuardBy call g (BranchOf whole condition true ∷ BranchOf whole condition false ∷ [])
