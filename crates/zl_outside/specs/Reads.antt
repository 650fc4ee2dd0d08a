-- A read of a shelf.
use Rattle.std.specs.Prelude.{◌≡◌, ℕ, List, [], ◌∷◌, ◌++◌, Option, Result, Ok, Err, OnOk}
use Rattle.zl_outside.specs.declared.error.ReadAnswer.{ReadAnswer}
use Rattle.zl_outside.specs.declared.error.ReadAnswer.TheVariants.{Failed, Memory}
use Rattle.zl_outside.specs.FileMap.{FileMap, HoldsFile}

-- the names of the failed calls after one more read: a failure adds the name that was read
abbrev pub failed_after : {T : Type 0} → List (List ℕ) → List ℕ → Result T ReadAnswer → List (List ℕ)
failed_after before name (Ok done) = before
failed_after before name (Err Failed) = before ++ name ∷ []
failed_after before name (Err Memory) = before

-- what a read gives, and what it changes
pub record Reads {T : Type 0} (told_before told_now : Option FileMap) (failed_before failed_now : List (List ℕ)) (name : List ℕ) (cap : ℕ) (out : List ℕ) (result : Result T ReadAnswer) : Type 0 where
  pub told : told_now ≡ told_before
  pub failed : failed_now ≡ failed_after failed_before name result
  pub holds : OnOk result (HoldsFile told_before name cap out)
