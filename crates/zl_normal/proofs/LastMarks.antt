-- Places whose `last` is asked for are marked.
use Rattle.std.proofs.Common.{◌≡◌, ℕ, zero, suc, ◌<◌, ◌≤◌, Bool, true, false, List, [], ◌∷◌, length, replicate, set, slice_get, get_or, Some, refl, sym, ap, subst, ◌∙◌, arith}
use Rattle.std.proofs.lemmas.List.{length-replicate}
use Rattle.zl_meaning.specs.FlatForm.{FlatForm}
use Rattle.zl_meaning.specs.WellFormed.{IsWellFormed, IsForm}
use Rattle.zl_meaning.specs.declared.occurrence.Form.{Form}
use Rattle.zl_meaning.specs.declared.occurrence.Form.TheVariants.{Last as LastOf}
use Rattle.zl_meaning.specs.declared.occurrence.Occ.{Occ}
use Rattle.std.proofs.lemmas.Option.{slice_get_within}
use Rattle.zl_normal.specs.GuardRoots.{marked_last, marked_lasts, AreLasts}

pub set_past : {X : Type 0} (xs : List X) (i : ℕ) (y : X) → length xs ≤ i → set xs i y ≡ xs
set_past [] i y l = refl
set_past (x ∷ xs) zero y l = absurd (omega (arith, l))
set_past (x ∷ xs) (suc i) y l = ap (λ ys. x ∷ ys) (set_past xs i y (omega (arith, l)))

set_marks : (xs : List Bool) (i : ℕ) → i < length xs → get_or (set xs i true) i false ≡ true
set_marks [] i l = absurd (omega (arith, l))
set_marks (x ∷ xs) zero l = refl
set_marks (x ∷ xs) (suc i) l = set_marks xs i (omega (arith, l))

set_keeps : (xs : List Bool) (i j : ℕ) → get_or xs j false ≡ true → get_or (set xs i true) j false ≡ true
set_keeps [] i j e = e
set_keeps (x ∷ xs) zero zero e = refl
set_keeps (x ∷ xs) zero (suc j) e = e
set_keeps (x ∷ xs) (suc i) zero e = e
set_keeps (x ∷ xs) (suc i) (suc j) e = set_keeps xs i j e

set_length : (xs : List Bool) (i : ℕ) → length (set xs i true) ≡ length xs
set_length [] i = refl
set_length (x ∷ xs) zero = refl
set_length (x ∷ xs) (suc i) = ap suc (set_length xs i)

form_keeps : (form : Form) (marks : List Bool) (p : ℕ) → get_or marks p false ≡ true → get_or (marked_last form marks) p false ≡ true
form_keeps (LastOf q) marks p e = set_keeps marks q p e
form_keeps form marks p e = e

form_length : (form : Form) (marks : List Bool) → length (marked_last form marks) ≡ length marks
form_length (LastOf q) marks = set_length marks q
form_length form marks = refl

all_keep : (occs : List Occ) (marks : List Bool) (p : ℕ) → get_or marks p false ≡ true → get_or (marked_lasts occs marks) p false ≡ true
all_keep [] marks p e = e
all_keep (occ ∷ occs) marks p e = all_keep occs (marked_last occ.form marks) p (form_keeps occ.form marks p e)

all_mark : (occs : List Occ) (marks : List Bool) (j p : ℕ) (occ : Occ) → slice_get occs j ≡ Some occ → occ.form ≡ LastOf p → p < length marks → get_or (marked_lasts occs marks) p false ≡ true
all_mark [] marks j p occ is e l = absurd (cc)
all_mark (first ∷ occs) marks zero p occ is e l = all_keep occs (marked_last first.form marks) p (subst (λ form. get_or (marked_last form marks) p false ≡ true) (sym here) (set_marks marks p l))
  where
    same : Some first ≡ Some occ → first ≡ occ
    same g = cc

    here : first.form ≡ LastOf p
    here = ap (λ (o : Occ). o.form) (same is) ∙ e
all_mark (first ∷ occs) marks (suc j) p occ is e l = all_mark occs (marked_last first.form marks) j p occ is e (subst (λ n. p < n) (sym (form_length first.form marks)) l)

pub lasts_marked : (f : FlatForm) → IsWellFormed f → AreLasts f (marked_lasts f.occs (replicate (length f.places) false))
lasts_marked f well j p (occ, is, e) = all_mark f.occs (replicate (length f.places) false) j p occ is e (subst (λ n. p < n) (sym (length-replicate (length f.places) false)) within)
  where
    form : IsForm f occ.block occ.ty (LastOf p)
    form = subst (λ g. IsForm f occ.block occ.ty g) e (well.occs j occ is).form

    within : p < length f.places
    within = slice_get_within f.places p form.0.place form.0.is
