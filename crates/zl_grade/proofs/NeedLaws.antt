-- What is listed as needed is needed, and no more.
use Rattle.std.proofs.Common.{◌≡◌, ◌⊎◌, inl, inr, ℕ, Bool, true, false, List, [], ◌∷◌, ◌++◌, get_or, map, slice_get, Some, refl, sym, ap, ◌∙◌, subst, arith, if◌then◌else◌}
use Rattle.std.specs.Prelude.{Option}
use Rattle.std.specs.List.{flat_map}
use Rattle.zl_value.specs.Lists.{Has}
use Rattle.zl_value.specs.declared.op.Op.{Op}
use Rattle.zl_meaning.specs.FlatForm.{FlatForm, place_call}
use Rattle.zl_meaning.specs.Uses.{SlopeOf, ArgumentOf, IsUse, AsSlope, AsArgument}
use Rattle.zl_meaning.specs.Grades.{IsGraded, keeps_lines, IsNeeded, Condition, Operand, Derivative, Argument}
use Rattle.zl_meaning.specs.declared.occurrence.Form.{Form}
use Rattle.zl_meaning.specs.declared.occurrence.Form.TheVariants.{Lit, Read, Last, Op as Apply, If, Arrow, Pre, Result, Up, Fired, Step}
use Rattle.zl_meaning.specs.declared.occurrence.Occ.{Occ}
use Rattle.zl_meaning.specs.declared.place.Definer.{Definer}
use Rattle.zl_meaning.specs.declared.place.Definer.TheVariants.{Input, Plain, Der, Start}
use Rattle.zl_meaning.specs.declared.place.PlaceInfo.{PlaceInfo}
use Rattle.zl_meaning.proofs.Members.{has-left, has-right, has-none, has-cases, has-flat_map, has-append_case, has-flat_map_from, has-map, has-map_from}
use Rattle.zl_grade.specs.Marks.{AreMarks}
use Rattle.zl_grade.specs.Needs.{need, still, form_needs, occ_needs, definer_needs, place_needs, site_need, needs_of}
use Rattle.zl_grade.specs.Numbered.{numbered}
use Rattle.zl_grade.specs.declared.needs.Need.{Need}
use Rattle.zl_grade.proofs.NumberedEntries.{numbered-has, numbered-from}
use Rattle.zl_grade.proofs.MarkLaws.{marked, graded_marked}

module _ (f : FlatForm) (marks : List Bool) (m : AreMarks f marks) where
  -- that of a list of one
  only : (k n : ℕ) (one : Need) → IsNeeded f k n → Has (need k n ∷ []) one → IsNeeded f one.occ one.limit
  only k n one needed has = has-cases (IsNeeded f one.occ one.limit) (need k n) [] one has (λ e. subst (λ (o : Need). IsNeeded f o.occ o.limit) e needed) (λ h. absurd (has-none one h))

  -- an operand of a graded operator
  operand_needed : (k : ℕ) (op : Op) (ks : List ℕ) (occ : Occ) (one : Need) → IsGraded f k → slice_get f.occs k ≡ Some occ → occ.form ≡ Apply op ks → (keeps : Bool) → keeps_lines op ≡ keeps
      → Has (if keeps then [] else map still ks) one → IsNeeded f one.occ one.limit
  operand_needed k op ks occ one gr is e true keeps has = absurd (has-none one has)
  operand_needed k op ks occ one gr is e false keeps has =
      let from = has-map_from still ks one has in
      subst (λ (o : Need). IsNeeded f o.occ o.limit) from.2 (Operand from.0 k op ks occ gr is e keeps from.1)

  -- a part of a graded occurrence
  form_needed : (k : ℕ) (occ : Occ) (one : Need) → IsGraded f k → slice_get f.occs k ≡ Some occ → (form : Form) → occ.form ≡ form → Has (form_needs form) one → IsNeeded f one.occ one.limit
  form_needed k occ one gr is (Lit v) e has = absurd (has-none one has)
  form_needed k occ one gr is (Read p) e has = absurd (has-none one has)
  form_needed k occ one gr is (Last p) e has = absurd (has-none one has)
  form_needed k occ one gr is (Apply op ks) e has = operand_needed k op ks occ one gr is e (keeps_lines op) refl has
  form_needed k occ one gr is (If c x y) e has = only c 0 one (Condition c k x y occ gr is e) has
  form_needed k occ one gr is (Arrow x y) e has = absurd (has-none one has)
  form_needed k occ one gr is (Pre x) e has = absurd (has-none one has)
  form_needed k occ one gr is (Result x) e has = absurd (has-none one has)
  form_needed k occ one gr is (Up s) e has = absurd (has-none one has)
  form_needed k occ one gr is (Fired ks) e has = absurd (has-none one has)
  form_needed k occ one gr is Step e has = absurd (has-none one has)

  occ_needed : (k : ℕ) (occ : Occ) (one : Need) → slice_get f.occs k ≡ Some occ → Has (occ_needs marks k occ) one → IsNeeded f one.occ one.limit
  occ_needed k occ one is has = by_mark (get_or marks k false) refl has
    where
      by_mark : (b : Bool) → get_or marks k false ≡ b → Has (if b then form_needs occ.form else []) one → IsNeeded f one.occ one.limit
      by_mark true e h = form_needed k occ one (marked f marks m k e) is occ.form refl h
      by_mark false e h = absurd (has-none one h)

  definer_needed : (p : ℕ) (place : PlaceInfo) (definer : Definer) (one : Need) → slice_get f.places p ≡ Some place → Has place.definers definer → Has (definer_needs definer) one → IsNeeded f one.occ one.limit
  definer_needed p place (Input n) one is has h = absurd (has-none one h)
  definer_needed p place (Plain b k) one is has h = absurd (has-none one h)
  definer_needed p place (Der b slope arms) one is has h = only slope 0 one (Derivative slope (place_call f p) (AsSlope p b arms (place_call f p) (place, is, has) refl)) h
  definer_needed p place (Start b k) one is has h = absurd (has-none one h)

  -- what is listed is needed
  pub listed_needed : (one : Need) → Has (needs_of f marks) one → IsNeeded f one.occ one.limit
  listed_needed one has = by_list (has-append_case (numbered (occ_needs marks) 0 f.occs) (flat_map place_needs f.places ++ map site_need f.sites) one has)
    where
      by_rest : Has (flat_map place_needs f.places) one ⊎ Has (map site_need f.sites) one → IsNeeded f one.occ one.limit
      by_rest (inl h) =
          let of_place = has-flat_map_from place_needs f.places one h in
          let of_definer = has-flat_map_from definer_needs of_place.0.definers one of_place.2 in
          definer_needed of_place.1.index of_place.0 of_definer.0 one of_place.1.is of_definer.1 of_definer.2
      by_rest (inr h) =
          let of_site = has-map_from site_need f.sites one h in
          subst (λ (o : Need). IsNeeded f o.occ o.limit) of_site.2 (Argument of_site.0.arg (AsArgument of_site.1.index of_site.0 of_site.1.is refl))

      by_list : Has (numbered (occ_needs marks) 0 f.occs) one ⊎ Has (flat_map place_needs f.places ++ map site_need f.sites) one → IsNeeded f one.occ one.limit
      by_list (inl h) =
          let from = numbered-from (occ_needs marks) 0 f.occs one h in
          let same : from.number ≡ from.index = omega (arith, from.is) in
          occ_needed from.number from.entry one (ap (λ n. slice_get f.occs n) same ∙ from.at) from.has
      by_list (inr h) = by_rest (has-append_case (flat_map place_needs f.places) (map site_need f.sites) one h)

  -- what a graded occurrence needs is listed
  of_occ : (k : ℕ) (occ : Occ) (one : Need) → IsGraded f k → slice_get f.occs k ≡ Some occ → Has (form_needs occ.form) one → Has (needs_of f marks) one
  of_occ k occ one gr is has =
      let mark = graded_marked f marks m k gr in
      let there : Has (occ_needs marks k occ) one = subst (λ b. Has (if b then form_needs occ.form else []) one) (sym mark) has in
      has-left (numbered (occ_needs marks) 0 f.occs) (flat_map place_needs f.places ++ map site_need f.sites) one (numbered-has (occ_needs marks) 0 k k f.occs occ one (omega arith) is there)

  slope_listed : (k : ℕ) (call : Option ℕ) → IsUse f k (SlopeOf call) → Has (needs_of f marks) (need k 0)
  slope_listed k _ (AsSlope p b arms call has at) =
      let definer : Has (place_needs has.0) (need k 0) = has-flat_map definer_needs has.0.definers (Der b k arms) (need k 0) has.2 (record { index = 0; is = refl }) in
      let place : Has (flat_map place_needs f.places) (need k 0) = has-flat_map place_needs f.places has.0 (need k 0) (record { index = p; is = has.1 }) definer in
      has-right (numbered (occ_needs marks) 0 f.occs) (flat_map place_needs f.places ++ map site_need f.sites) (need k 0) (has-left (flat_map place_needs f.places) (map site_need f.sites) (need k 0) place)

  argument_listed : (k : ℕ) → IsUse f k ArgumentOf → Has (needs_of f marks) (need k 1)
  argument_listed k (AsArgument n site is e) =
      let of_site : Has (map site_need f.sites) (need k 1) = subst (λ j. Has (map site_need f.sites) (need j 1)) e (has-map site_need f.sites site (record { index = n; is = is })) in
      has-right (numbered (occ_needs marks) 0 f.occs) (flat_map place_needs f.places ++ map site_need f.sites) (need k 1) (has-right (flat_map place_needs f.places) (map site_need f.sites) (need k 1) of_site)

  -- what is needed is listed
  pub needed_listed : (k limit : ℕ) → IsNeeded f k limit → Has (needs_of f marks) (need k limit)
  needed_listed _ _ (Condition k whole x y occ gr is e) = of_occ whole occ (need k 0) gr is (subst (λ form. Has (form_needs form) (need k 0)) (sym e) (record { index = 0; is = refl }))
  needed_listed _ _ (Operand k whole op ks occ gr is e keeps has) =
      let there : Has (form_needs (Apply op ks)) (need k 0) = subst (λ b. Has (if b then [] else map still ks) (need k 0)) (sym keeps) (has-map still ks k has) in
      of_occ whole occ (need k 0) gr is (subst (λ form. Has (form_needs form) (need k 0)) (sym e) there)
  needed_listed _ _ (Derivative k call used) = slope_listed k call used
  needed_listed _ _ (Argument k used) = argument_listed k used
