-- How the counts of failed calls and of faults grow.
use Rattle.std.proofs.Common.{◌≡◌, ◌≢◌, ℕ, ◌+◌, ◌<◌, ◌≤◌, List, [], ◌∷◌, ◌++◌, Bool, true, false, cond, Result, Ok, Err, Option, arith, refl, ap, ◌∙◌}
use Rattle.std.proofs.lemmas.List.Sums.{sum_by_push}
use Rattle.std.proofs.lemmas.Slice.Eq.{bytes_eq-Decides}
use Rattle.std.specs.Str.{bytes_eq}
use Rattle.zl_outside.specs.declared.error.ReadAnswer.{ReadAnswer}
use Rattle.zl_outside.specs.declared.error.ReadAnswer.TheVariants.{Failed, Memory}
use Rattle.zl_outside.specs.Counts.{count_of, Rose}
use Rattle.zl_outside.specs.FileMap.{FileMap}
use Rattle.zl_outside.specs.Reads.{Reads, failed_after}

-- one more failed call of the name
pub count_of-same : (name : List ℕ) (failed : List (List ℕ)) → count_of name (failed ++ name ∷ []) ≡ count_of name failed + 1
count_of-same name failed =
    sum_by_push (λ other. cond {A = ℕ} (bytes_eq other name) 1 0) failed name
    ∙ ap (λ (b : Bool). count_of name failed + cond {A = ℕ} b 1 0) ((bytes_eq-Decides name name).1 refl)

-- a failed call of another name
pub count_of-other : (other name : List ℕ) (failed : List (List ℕ)) → name ≢ other → count_of other (failed ++ name ∷ []) ≡ count_of other failed
count_of-other other name failed differs =
    sum_by_push (λ each. cond {A = ℕ} (bytes_eq each other) 1 0) failed name
    ∙ without (bytes_eq name other) (λ is_same. differs ((bytes_eq-Decides name other).0 is_same))
  where
    without : (b : Bool) → (b ≡ true → ⊥) → count_of other failed + cond {A = ℕ} b 1 0 ≡ count_of other failed
    without true never = absurd (never refl)
    without false never = omega arith

-- after a failed read the count of its name rose
pub failed_read : {T : Type 0} {told_before told_now : Option FileMap} {before now : List (List ℕ)} {name : List ℕ} {cap : ℕ} {out : List ℕ} {result : Result T ReadAnswer} → Reads told_before told_now before now name cap out result → result ≡ Err Failed → count_of name before < count_of name now
failed_read {T} {before = before} {now = now} {name = name} reads failed =
    let noted : now ≡ before ++ name ∷ [] = reads.failed ∙ ap (failed_after {T = T} before name) failed in
    omega (arith, ap (count_of name) noted, count_of-same name before)

-- a read raises the count of no other name
pub other_read : {T : Type 0} {told_before told_now : Option FileMap} {before now : List (List ℕ)} {name : List ℕ} {cap : ℕ} {out : List ℕ} {result : Result T ReadAnswer} → Reads told_before told_now before now name cap out result → (other : List ℕ) → name ≢ other → count_of other now ≡ count_of other before
other_read {before = before} {name = name} {result = result} reads other differs =
    ap (count_of other) reads.failed ∙ kept result
  where
    kept : {T : Type 0} (answer : Result T ReadAnswer) → count_of other (failed_after before name answer) ≡ count_of other before
    kept (Ok done) = refl
    kept (Err Failed) = count_of-other other name before differs
    kept (Err Memory) = refl

-- what rose in the first of two calls rose
pub rose_first : (before mid now : ℕ) → Rose before mid → mid ≤ now → Rose before now
rose_first before mid now rose later = omega arith

-- what rose in the second of two calls rose
pub rose_second : (before mid now : ℕ) → before ≤ mid → Rose mid now → Rose before now
rose_second before mid now earlier rose = omega arith
