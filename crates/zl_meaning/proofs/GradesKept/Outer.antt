-- What stands in a hybrid block, and not under an `init` value or a reset value: its whole and its call do too.
use Rattle.std.specs.Option.{option_and_then}
use Rattle.std.specs.Prelude.{◌≡◌, ℕ, true, List, slice_get, Option, Some}
use Rattle.std.proofs.Common.{refl, sym, ap, ◌∙◌, ⊎_elim, subst}
use Rattle.zl_value.specs.Lists.{Has}
use Rattle.zl_value.specs.declared.value.Ty.{Ty}
use Rattle.zl_value.specs.declared.value.Ty.TheVariants.{Zero}
use Rattle.zl_meaning.specs.FlatForm.{FlatForm, HasForm, CalledIn, Here, Inside, call_of, IsWithin}
use Rattle.zl_meaning.specs.Uses.{Use, StartOf, ResetOf, IsUse, parts}
use Rattle.zl_meaning.specs.Branches.{IsPart, Under, Part, Called}
use Rattle.zl_meaning.specs.Copies.{IsByDefiner, IsOfUnused}
use Rattle.zl_meaning.specs.WellFormed.{Stands, IsForm, IsCalled, IsWellFormed}
use Rattle.zl_meaning.specs.Regular.{is_hybrid_block, is_value, IsRegular}
use Rattle.zl_meaning.specs.Grades.{IsGraded}
use Rattle.zl_meaning.specs.declared.occurrence.Form.{Form}
use Rattle.zl_meaning.specs.declared.occurrence.Form.TheVariants.{Result, Up, Fired}
use Rattle.zl_meaning.specs.declared.occurrence.Occ.{Occ}
use Rattle.zl_meaning.proofs.Members.{all-has, has-none}
use Rattle.zl_meaning.proofs.Standing.{part-in}
use Rattle.zl_meaning.proofs.WrittenForms.{some-same, true-false}
use Rattle.zl_meaning.proofs.GradesKept.StartControls.{outer_hybrid}

-- it stands in a hybrid block, and not under an `init` value or a reset value
pub record IsOuter (f : FlatForm) (k : ℕ) : Type 0 where
  pub occ : Occ
  pub is : slice_get f.occs k ≡ Some occ
  pub hybrid : is_hybrid_block f occ.block ≡ true
  pub start : (call : Option ℕ) (b : ℕ) → Under f (StartOf call b) k → ⊥
  pub reset : (call : Option ℕ) (events : List ℕ) (arm : ℕ) → Under f (ResetOf call events arm) k → ⊥

-- what is graded is such, and is a value
pub outer-of : (f : FlatForm) (k : ℕ) → IsGraded f k → IsOuter f k
outer-of f k gr = record { occ = gr.occ; is = gr.is; hybrid = gr.hybrid; start = gr.start; reset = gr.reset }

graded-of-outer : (f : FlatForm) (k : ℕ) (out : IsOuter f k) → is_value out.occ.form ≡ true → IsGraded f k
graded-of-outer f k out value = record { occ = out.occ; is = out.is; hybrid = out.hybrid; value = value; start = out.start; reset = out.reset }

-- what stands in the copy of a call stands under what the call does
under-called : (f : FlatForm) (of : Use) (c k : ℕ) → CalledIn f c k → Under f of c → Under f of k
under-called f of c _ (Here k e) u = Called k c e u
under-called f of c _ (Inside k d e inner) u = Called k d e (under-called f of c d inner u)

module _ (f : FlatForm) (w : IsWellFormed f) (regular : IsRegular f) where
  -- the whole of a part
  pub whole-outer : (k whole : ℕ) → IsPart f k whole → IsOuter f k → IsOuter f whole
  whole-outer k whole part out =
      let stands = part-in f w k whole part in
      record {
        occ = part.occ;
        is = part.is;
        hybrid = ap (λ b. is_hybrid_block f b) (sym stands.1.block ∙ ap (λ (o : Occ). o.block) (some-same (sym stands.1.is ∙ out.is))) ∙ out.hybrid;
        start = λ call b u. out.start call b (Part k whole part u);
        reset = λ call events arm u. out.reset call events arm (Part k whole part u);
      }

  -- the block of a call is that of what stands in its copy, or outside it
  call-there : (b : ℕ) (call : Option ℕ) (c : ℕ) → IsCalled f b call → call ≡ Some c → (occ : Occ) × (slice_get f.occs c ≡ Some occ) × IsWithin f occ.block b
  call-there b call c is e = subst (λ o. IsCalled f b o) e is

  -- its call
  own-call : (k c : ℕ) (occ : Occ) → slice_get f.occs k ≡ Some occ → call_of f k ≡ Some c → occ.call ≡ Some c
  own-call k c occ is e = sym (ap (λ o. option_and_then (λ (y : Occ). y.call) o) is) ∙ e

  -- a call is in a hybrid block if something in its copy is
  called-hybrid : (c k : ℕ) (occ : Occ) → CalledIn f c k → slice_get f.occs k ≡ Some occ → is_hybrid_block f occ.block ≡ true → (o : Occ) × (slice_get f.occs c ≡ Some o) × (is_hybrid_block f o.block ≡ true)
  called-hybrid c _ occ (Here k e) is hybrid =
      let x = call-there occ.block occ.call c (w.occs k occ is).call (own-call k c occ is e) in
      (x.0, x.1, outer_hybrid f w regular x.0.block occ.block x.2 hybrid)
  called-hybrid c _ occ (Inside k d e inner) is hybrid =
      let x = call-there occ.block occ.call d (w.occs k occ is).call (own-call k d occ is e) in
      called-hybrid c d x.0 inner x.1 (outer_hybrid f w regular x.0.block occ.block x.2 hybrid)

  -- the call in whose copy it stands
  pub call-outer : (c k : ℕ) → CalledIn f c k → IsOuter f k → IsOuter f c
  call-outer c k inner out =
      let x = called-hybrid c k out.occ inner out.is out.hybrid in
      record {
        occ = x.0;
        is = x.1;
        hybrid = x.2;
        start = λ call b u. out.start call b (under-called f (StartOf call b) c k inner u);
        reset = λ call events arm u. out.reset call events arm (under-called f (ResetOf call events arm) c k inner u);
      }

  -- a call is a value
  call-value : (c k : ℕ) (occ : Occ) → CalledIn f c k → slice_get f.occs c ≡ Some occ → is_value occ.form ≡ true
  call-value c _ occ (Here k e) is =
      let result = regular.copies.calls k c e in
      let whole : HasForm f c (Result result.0) = result.1 in
      ap (λ (o : Occ). is_value o.form) (some-same (sym is ∙ whole.1)) ∙ ap (λ form. is_value form) whole.2
  call-value c _ occ (Inside k d e inner) is = call-value c d occ inner is

  -- the call of what is graded is graded
  pub call-graded : (c k : ℕ) → CalledIn f c k → IsGraded f k → IsGraded f c
  call-graded c k inner gr = let out = call-outer c k inner (outer-of f k gr) in graded-of-outer f c out (call-value c k out.occ inner out.is)

  -- a value is no part of an event
  whole-value : (form : Form) (k b : ℕ) (ty : Ty) → IsForm f b ty form → Has (parts form) k → IsGraded f k → is_value form ≡ true
  whole-value (Up site) k b ty is has gr = absurd (has-none k has)
  whole-value (Fired ks) k b ty is has gr =
      let stands : Stands f b Zero k = all-has (Stands f b Zero) ks k is.0 has in
      let same : stands.occ ≡ gr.occ = some-same (sym stands.is ∙ gr.is) in
      let up = (w.occs k gr.occ gr.is).crossing (ap (λ (o : Occ). o.ty) (sym same) ∙ stands.typed) in
      true-false gr.value (ap (λ form. is_value form) up.1)
  whole-value form k b ty is has gr = refl

  -- its whole is graded
  pub whole-graded : (k whole : ℕ) → IsPart f k whole → IsGraded f k → IsGraded f whole
  whole-graded k whole part gr =
      let out = whole-outer k whole part (outer-of f k gr) in
      let has = subst (λ (o : Occ). Has (parts o.form) k) (some-same (sym part.is ∙ out.is)) part.part in
      graded-of-outer f whole out (whole-value out.occ.form k out.occ.block out.occ.ty (w.occs whole out.occ out.is).form has gr)

  -- what a definer names stands in the copy of its place's call
  pub definer-in-copy : (k c : ℕ) (of : Use) (call : Option ℕ) → IsUse f k of → IsByDefiner of call → call ≡ Some c → CalledIn f c k
  definer-in-copy k c of call is by e =
      ⊎_elim (λ own. Here k (own ∙ e)) (λ (result : IsOfUnused f call k). Inside k result.whole result.of (Here result.whole (result.outer ∙ e))) (regular.copies.definers k of call is by)
