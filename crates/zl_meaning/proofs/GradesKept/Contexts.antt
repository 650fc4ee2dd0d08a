-- In hybrid context, outside `init` and reset values, nothing reads an earlier instant: no `last`, no `pre`, no `->` is graded.
use Rattle.std.specs.Prelude.{◌≡◌, ◌⊎◌, ℕ, zero, suc, ◌<◌, List, [], ◌∷◌, slice_get, Option, Some, None, ⊤}
use Rattle.std.specs.Option.{option_map, option_and_then}
use Rattle.std.proofs.Common.{refl, sym, ap, ◌∙◌, ⊎_elim, subst, arith, inl, inr}
use Rattle.zl_value.specs.Lists.{Has}
use Rattle.zl_meaning.specs.FlatForm.{FlatForm, Here}
use Rattle.zl_meaning.specs.State.{AtUsed}
use Rattle.zl_meaning.specs.Uses.{Use, PartOf, BranchOf, DefinerOf, SlopeOf, EventOf, StartOf, ResetOf, TestOf, ArgumentOf, AgainOf, uses_of, IsUse}
use Rattle.zl_meaning.specs.Branches.{Is}
use Rattle.zl_meaning.specs.WellFormed.{IsWellFormed}
use Rattle.zl_meaning.specs.Regular.{Context, Plainly, WithLast, Discrete, Hybrid, context_of_block, is_hybrid_block, body_context, called_context, branch_context, part_context, form_in, use_context, IsAllowed, IsRegularAt, IsRegular}
use Rattle.zl_meaning.specs.Reading.{Entries, ReadsCall, ReadsUse, ReadsAsked, ReadsUsed, HasNodeRanks}
use Rattle.zl_meaning.specs.Grades.{IsGraded}
use Rattle.zl_meaning.specs.declared.occurrence.Form.{Form}
use Rattle.zl_meaning.specs.declared.occurrence.Form.TheVariants.{Lit, Read, Last, Op as Apply, If, Arrow, Pre, Result, Up, Fired, Step}
use Rattle.zl_meaning.specs.declared.occurrence.Occ.{Occ}
use Rattle.zl_meaning.proofs.UseCases.{use-of-listed}
use Rattle.zl_meaning.proofs.GradesKept.Outer.{IsOuter, call-outer, definer-in-copy, outer-of, whole-outer}
use Rattle.zl_meaning.proofs.GradesKept.UsesSay.{none-listed, whole-of-branch, whole-of-part}

-- in hybrid context nothing reads an earlier instant
pub record ReadsNow (f : FlatForm) : Type 0 where
  pub last : (k p : ℕ) (occ : Occ) → IsGraded f k → slice_get f.occs k ≡ Some occ → occ.form ≡ Last p → ⊥
  pub pre : (k x : ℕ) (occ : Occ) → IsGraded f k → slice_get f.occs k ≡ Some occ → occ.form ≡ Pre x → ⊥
  pub arrow : (k x y : ℕ) (occ : Occ) → IsGraded f k → slice_get f.occs k ≡ Some occ → occ.form ≡ Arrow x y → ⊥

-- the contexts in which it stands
abbrev IsFree : Context → Type 0
IsFree c = (c ≡ Hybrid) ⊎ (c ≡ Plainly)

-- nothing stands there with `last`
free_last : (c : Context) → IsFree c → c ≡ WithLast → ⊥
free_last c (inl p) q = let z : Hybrid ≡ WithLast = sym p ∙ q in let g : ⊥ = cc in g
free_last c (inr p) q = let z : Plainly ≡ WithLast = sym p ∙ q in let g : ⊥ = cc in g

-- nothing stands there as in a discrete body
free_discrete : (c : Context) → IsFree c → c ≡ Discrete → ⊥
free_discrete c (inl p) q = let z : Hybrid ≡ Discrete = sym p ∙ q in let g : ⊥ = cc in g
free_discrete c (inr p) q = let z : Plainly ≡ Discrete = sym p ∙ q in let g : ⊥ = cc in g

-- a body that is called there, a branch, a part
free_body : (c : Context) → IsFree c → IsFree (body_context Hybrid c)
free_body c (inl p) = inl (ap (λ x. body_context Hybrid x) p)
free_body c (inr p) = inr (ap (λ x. body_context Hybrid x) p)

free_branch : (c : Context) → IsFree c → IsFree (branch_context c)
free_branch c (inl p) = inr (ap (λ x. branch_context x) p)
free_branch c (inr p) = inr (ap (λ x. branch_context x) p)

free_part : (c : Context) (form : Form) → IsAllowed c form → IsFree c → IsFree (part_context Hybrid c (Some form))
free_part c (Arrow x y) a e = absurd (free_discrete c e a)
free_part c (Pre x) a e = absurd (free_discrete c e a)
free_part c (Result x) a e = free_body c e
free_part c (Lit v) a e = e
free_part c (Read v) a e = e
free_part c (Last v) a e = e
free_part c (Apply op ks) a e = e
free_part c (If x y z) a e = e
free_part c (Up v) a e = e
free_part c (Fired v) a e = e
free_part c Step a e = absurd a

module _ (f : FlatForm) (w : IsWellFormed f) (regular : IsRegular f) (r : HasNodeRanks f) where
  module _ (n : ℕ) (below : (k : ℕ) → r.rank (AtUsed k) < n → IsOuter f k → IsFree (regular.context k)) where
    abbrev P : Entries
    P a = r.rank a < n

    -- what is called
    call_free : (c : Option ℕ) → ReadsCall P c → ((d : ℕ) → c ≡ Some d → IsOuter f d) → IsFree (called_context regular.context Hybrid c)
    call_free None l out = inl refl
    call_free (Some c) l out = free_body (regular.context c) (below c l (out c refl))

    -- what is used so
    use_free : (k : ℕ) (out : IsOuter f k) (u : Use) → IsUse f k u → ReadsUse P (λ a. ⊤) u → IsFree (use_context regular.context (form_in f) Hybrid u)
    use_free k out (PartOf whole) has l =
        let part = whole-of-part f k whole has in
        let o = whole-outer f w regular k whole part out in
        subst (λ x. IsFree (part_context Hybrid (regular.context whole) x)) (sym (ap (λ y. option_map (λ (z : Occ). z.form) y) o.is))
        (free_part (regular.context whole) o.occ.form (regular.occs whole o.occ o.is).allowed (below whole l o))
    use_free k out (BranchOf whole c side) has l = free_branch (regular.context whole) (below whole l.0 (whole-outer f w regular k whole (whole-of-branch f k whole c side has) out))
    use_free k out (DefinerOf call) has l = call_free call l (λ d e. call-outer f w regular d k (definer-in-copy f w regular k d (DefinerOf call) call has refl e) out)
    use_free k out (SlopeOf call) has l = call_free call l (λ d e. call-outer f w regular d k (definer-in-copy f w regular k d (SlopeOf call) call has refl e) out)
    use_free k out (EventOf call) has l = inl refl
    use_free k out (StartOf call b) has l = absurd (out.start call b (Is k has))
    use_free k out (ResetOf call events arm) has l = absurd (out.reset call events arm (Is k has))
    use_free k out TestOf has l = inl refl
    use_free k out ArgumentOf has l = inr refl
    use_free k out AgainOf has l = inl refl

    -- all that stands there
    outer_free : (k : ℕ) (out : IsOuter f k) → ReadsUsed f P (λ a. ⊤) k (Some out.occ) → IsFree (regular.context k)
    outer_free k out l = go (uses_of f k) refl l.1
      where
        at : IsRegularAt f regular.context (is_hybrid_block f out.occ.block) k out.occ
        at = regular.occs k out.occ out.is

        go : (us : List Use) → uses_of f k ≡ us → ReadsAsked P (λ a. ⊤) out.occ.call us → IsFree (regular.context k)
        go [] e q =
            subst (λ c. IsFree c) (sym (at.unused (none-listed f k e) ∙ ap (λ b. called_context regular.context (context_of_block b) out.occ.call) out.hybrid))
            (call_free out.occ.call q (λ d x. call-outer f w regular d k (Here k (ap (λ o. option_and_then (λ (y : Occ). y.call) o) out.is ∙ x)) out))
        go (u ∷ us) e q =
            let has = use-of-listed f k u (subst (λ l. Has l u) (sym e) (record { index = 0; is = refl })) in
            subst (λ c. IsFree c) (sym (at.contexts u has ∙ ap (λ b. use_context regular.context (form_in f) (context_of_block b) u) out.hybrid)) (use_free k out u has q.0)

  -- by rank
  free_below : (n k : ℕ) → r.rank (AtUsed k) < n → IsOuter f k → IsFree (regular.context k)
  free_below zero k l out = absurd (omega (arith, l))
  free_below (suc n) k l out =
      outer_free (r.rank (AtUsed k)) (λ j low o. free_below n j (omega (arith, l, low)) o) k out (subst (λ o. ReadsUsed f (λ a. r.rank a < r.rank (AtUsed k)) (λ a. ⊤) k o) out.is (r.lower (AtUsed k)))

  -- what is graded
  free : (k : ℕ) → IsGraded f k → IsFree (regular.context k)
  free k gr = free_below (suc (r.rank (AtUsed k))) k (omega arith) (outer-of f k gr)

  -- what may stand there by its form
  allowed : (k : ℕ) (occ : Occ) (form : Form) → slice_get f.occs k ≡ Some occ → occ.form ≡ form → IsAllowed (regular.context k) form
  allowed k occ form is e = subst (λ x. IsAllowed (regular.context k) x) e (regular.occs k occ is).allowed

  -- nothing that is graded reads an earlier instant
  pub reads_now : ReadsNow f
  reads_now = record {
    last = λ k p occ gr is e. ⊎_elim (λ q. free_last (regular.context k) (free k gr) q) (λ q. free_discrete (regular.context k) (free k gr) q) (allowed k occ (Last p) is e);
    pre = λ k x occ gr is e. free_discrete (regular.context k) (free k gr) (allowed k occ (Pre x) is e);
    arrow = λ k x y occ gr is e. free_discrete (regular.context k) (free k gr) (allowed k occ (Arrow x y) is e);
  }
