-- In the flat form of a program each occurrence has at most one use, but for the result of a call that an equation with
-- several names also names; that call has none.
use Rattle.std.proofs.Common.{◌≡◌, ◌⊎◌, inl, inr, ℕ, zero, suc, ◌+◌, ◌≤◌, Bool, true, false, ◌||◌, if◌then◌else◌, nat_eq, List, [], ◌∷◌, ◌++◌, length, slice_get, Option, Some, refl, sym, ap, subst, ◌∙◌, arith}
use Rattle.std.specs.List.{AllByRecursion, flat_map}
use Rattle.std.proofs.lemmas.Bool.{eqb-true, eq-eqb}
use Rattle.zl_value.specs.Lists.{when, listed}
use Rattle.zl_meaning.specs.FlatForm.{FlatForm, HasForm}
use Rattle.zl_meaning.specs.Uses.{Use, PartOf, BranchOf, DefinerOf, SlopeOf, EventOf, StartOf, ResetOf, TestOf, ArgumentOf, AgainOf, part_uses, uses_in_occs, definer_uses, place_uses, is_test, is_argument, uses_of}
use Rattle.zl_meaning.specs.declared.place.Definer.{Definer}
use Rattle.zl_meaning.specs.declared.place.Definer.TheVariants.{Input, Plain, Der, Start}
use Rattle.zl_meaning.specs.declared.place.PlaceInfo.{PlaceInfo}
use Rattle.zl_meaning.specs.declared.occurrence.Form.{Form}
use Rattle.zl_meaning.specs.declared.occurrence.Form.TheVariants.{Lit, Read, Last, Op as Apply, If, Arrow, Pre, Result, Up, Fired, Step}
use Rattle.zl_meaning.specs.declared.occurrence.Occ.{Occ}
use Rattle.zl_meaning.specs.declared.occurrence.SiteInfo.{SiteInfo}
use Rattle.zl_flat.specs.declared.given.Given.{Given}
use Rattle.zl_flat.specs.Parts.{Parts, start}
use Rattle.zl_flat.specs.Expansion.{definers_of, with_definers, defined_places, form_of, variables_from, result_places, MainOf, sizes_of, main_size, main_form}
use Rattle.zl_flat.proofs.WellFormedParts.{Each, all-append}
use Rattle.zl_flat.proofs.WellFormedDecls.{IsMainKept}
use Rattle.zl_flat.proofs.UsesCount.{total, total-append, numbered, numbered-append, in_form, in_definer, in_given, count, owned}
use Rattle.zl_flat.proofs.UsesBalance.{paying}
use Rattle.zl_flat.proofs.UsesWeights.{plus, count-split, owned-split, each-pays}
use Rattle.zl_flat.proofs.UsesForm.{same, length-append, numbered-once, occs-counted, definer-counted, definers-counted, in_tests, tests-counted, arguments-counted}
use Rattle.zl_flat.proofs.UsesMain.{parts_of, main-owes}

-- ---- lists

-- of no entries all holds
all-of-none : {X : Type 0} (P : X → Type 0) (xs : List X) → length xs ≤ 0 → AllByRecursion P xs
all-of-none P [] h = tt
all-of-none P (x ∷ xs) h = absurd (omega (arith, h))

-- a list without entries
no-entries : {X : Type 0} (xs : List X) → length xs ≤ 0 → xs ≡ []
no-entries [] h = refl
no-entries (x ∷ xs) h = absurd (omega (arith, h))

-- an entry of a longer list
in-longer : {X : Type 0} (xs ys : List X) (n : ℕ) (x : X) → slice_get xs n ≡ Some x → slice_get (xs ++ ys) n ≡ Some x
in-longer [] ys n x h = absurd (cc)
in-longer (y ∷ xs) ys zero x h = h
in-longer (y ∷ xs) ys (suc n) x h = in-longer xs ys n x h

-- ---- calls

-- nothing weighs
abbrev nothing : ℕ → ℕ
nothing n = 0

-- a number is itself
same-self : (n : ℕ) → same n n ≡ 1
same-self n = ap (λ b. if b then 1 else 0) (eq-eqb n n refl)

-- what holds where the numbers are equal
same-case : (P : ℕ → Type 0) (k x : ℕ) → (k ≡ x → P 1) → P 0 → P (same k x)
same-case P k x equal other = by_equal (nat_eq x k) refl
  where
    by_equal : (b : Bool) → nat_eq x k ≡ b → P (if b then 1 else 0)
    by_equal true e = equal (sym (eqb-true x k e))
    by_equal false e = other

-- the occurrence of which a use is a part
abbrev whole_of : Use → ℕ
whole_of (PartOf whole) = whole
whole_of (BranchOf whole condition side) = whole
whole_of (DefinerOf call) = 0
whole_of (SlopeOf call) = 0
whole_of (EventOf call) = 0
whole_of (StartOf call b) = 0
whole_of (ResetOf call events arm) = 0
whole_of TestOf = 0
whole_of ArgumentOf = 0
whole_of AgainOf = 0

-- that of the first use
abbrev first_whole : List Use → ℕ
first_whole [] = 0
first_whole (u ∷ us) = whole_of u

-- occurrence number `number` of the list is a call with this result
pub record IsCallOf (k : ℕ) (occs : List Occ) : Type 0 where
  pub number : ℕ
  pub occ : Occ
  pub is : slice_get occs number ≡ Some occ
  pub form : occ.form ≡ Result k

-- none of the list is a call with this result
abbrev NoCallOf : ℕ → List Occ → Type 0
NoCallOf k occs = (n : ℕ) (occ : Occ) → slice_get occs n ≡ Some occ → occ.form ≡ Result k → ⊥

-- the result of a call
abbrev the_result : ℕ → Form → ℕ
the_result k (Result x) = x
the_result k form = k

-- a call has one result
pub result-equal : (k x y : ℕ) → Result x ≡ Result y → x ≡ y
result-equal k x y h = ap (the_result k) h

module _ (k : ℕ) where
  -- the result is this one, or another
  result-case : (x : ℕ) → (Result x ≡ Result k) ⊎ (Result x ≡ Result k → ⊥)
  result-case x = by_equal (nat_eq x k) refl
    where
      differ : nat_eq x k ≡ false → nat_eq x k ≡ true → ⊥
      differ e g = cc

      by_equal : (b : Bool) → nat_eq x k ≡ b → (Result x ≡ Result k) ⊎ (Result x ≡ Result k → ⊥)
      by_equal true e = inl (ap (λ n. Result n) (eqb-true x k e))
      by_equal false e = inr (λ h. differ e (eq-eqb x k (result-equal k x k h)))

  -- an occurrence is a call with this result, or not
  is-result : (form : Form) → (form ≡ Result k) ⊎ (form ≡ Result k → ⊥)
  is-result (Lit v) = inr (λ h. cc)
  is-result (Read p) = inr (λ h. cc)
  is-result (Last p) = inr (λ h. cc)
  is-result (Apply op ks) = inr (λ h. cc)
  is-result (If c x y) = inr (λ h. cc)
  is-result (Arrow x y) = inr (λ h. cc)
  is-result (Pre x) = inr (λ h. cc)
  is-result (Result x) = result-case x
  is-result (Up s) = inr (λ h. cc)
  is-result (Fired ks) = inr (λ h. cc)
  is-result Step = inr (λ h. cc)

  -- one of the list is a call with this result, or none is
  find-call : (occs : List Occ) → IsCallOf k occs ⊎ NoCallOf k occs
  find-call [] = inr (λ n occ is. absurd (cc))
  find-call (x ∷ occs) = by_first (is-result x.form) (find-call occs)
    where
      the_same : (occ : Occ) → Some x ≡ Some occ → x ≡ occ
      the_same occ e = cc

      neither : (x.form ≡ Result k → ⊥) → NoCallOf k occs → NoCallOf k (x ∷ occs)
      neither other none zero occ is form = other (ap (λ (o : Occ). o.form) (the_same occ is) ∙ form)
      neither other none (suc n) occ is form = none n occ is form

      by_first : (x.form ≡ Result k) ⊎ (x.form ≡ Result k → ⊥) → IsCallOf k occs ⊎ NoCallOf k occs → IsCallOf k (x ∷ occs) ⊎ NoCallOf k (x ∷ occs)
      by_first (inl form) rest = inl (record { number = 0; occ = x; is = refl; form = form })
      by_first (inr other) (inl c) = inl (record { number = suc c.number; occ = c.occ; is = c.is; form = c.form })
      by_first (inr other) (inr none) = inr (neither other none)

  -- the result is used as its part
  part-of-call : (m : ℕ) (form : Form) → form ≡ Result k → part_uses k m form ≡ PartOf m ∷ []
  part-of-call m form e = ap (part_uses k m) e ∙ ap (λ b. when (b || false) (PartOf m)) (eq-eqb k k refl)

  -- where it has one use as a part, and a call has it as its result, that is this use
  call-alone : (m : ℕ) (occs : List Occ) (n : ℕ) (occ : Occ) → slice_get occs n ≡ Some occ → occ.form ≡ Result k → length (uses_in_occs k m occs) ≤ 1 → uses_in_occs k m occs ≡ PartOf (m + n) ∷ []
  call-alone m [] n occ is form h = absurd (cc)
  call-alone m (x ∷ occs) zero occ is form h =
      let rest = uses_in_occs k (suc m) occs in
      let first = part-of-call m x.form (ap (λ (o : Occ). o.form) (the_same is) ∙ form) in
      let e : uses_in_occs k m (x ∷ occs) ≡ PartOf m ∷ rest = ap (λ us. us ++ rest) first in
      let short : length (PartOf m ∷ rest) ≤ 1 = subst (λ us. length us ≤ 1) e h in
      e ∙ ap (λ us. PartOf m ∷ us) (no-entries rest (omega (arith, short))) ∙ ap (λ j. PartOf j ∷ []) (no_more m)
    where
      the_same : Some x ≡ Some occ → x ≡ occ
      the_same e = cc

      no_more : (m : ℕ) → m ≡ m + 0
      no_more m = omega arith
  call-alone m (x ∷ occs) (suc n) occ is form h =
      let first = part_uses k m x.form in
      let rest = uses_in_occs k (suc m) occs in
      let total : length (first ++ rest) ≤ 1 = h in
      let e = length-append first rest in
      let a = call-alone (suc m) occs n occ is form (omega (arith, total, e)) in
      let one = ap length a in
      let none = no-entries first (omega (arith, total, e, one)) in
      ap (λ us. us ++ rest) none ∙ a ∙ ap (λ j. PartOf j ∷ []) (one_more m n)
    where
      one_more : (m n : ℕ) → suc m + n ≡ m + suc n
      one_more m n = omega arith

-- ---- uses by plain definers

-- the use by a plain definer
pub record IsDefinerUse (of : Use) : Type 0 where
  pub call : Option ℕ
  pub use_is : of ≡ DefinerOf call

module _ (k : ℕ) where
  -- a use by a plain definer
  definer-when : (call : Option ℕ) (b : Bool) → AllByRecursion IsDefinerUse (when b (DefinerOf call))
  definer-when call true = (record { call = call; use_is = refl }, tt)
  definer-when call false = tt

  -- where nothing but plain definers uses it
  by-plain : (call : Option ℕ) (d : Definer) → in_definer (same k) nothing d ≡ 0 → AllByRecursion IsDefinerUse (definer_uses k call d)
  by-plain call (Input n) h = tt
  by-plain call (Plain b j) h = definer-when call (nat_eq j k)
  by-plain call (Der b slope resets) h = let a = definer-counted k call (Der b slope resets) in all-of-none IsDefinerUse (definer_uses k call (Der b slope resets)) (omega (arith, a, h))
  by-plain call (Start b j) h = let a = definer-counted k call (Start b j) in all-of-none IsDefinerUse (definer_uses k call (Start b j)) (omega (arith, a, h))

  -- the uses by the definers of a place
  by-plain-at : (call : Option ℕ) (p : ℕ) (gs : List Given) → total (in_given (same k) nothing) gs ≡ 0 → AllByRecursion IsDefinerUse (flat_map (definer_uses k call) (definers_of p gs))
  by-plain-at call p [] h = tt
  by-plain-at call p (g ∷ gs) h = by_equal (nat_eq g.place p) (by-plain-at call p gs (omega (arith, h)))
    where
      by_equal : (b : Bool) → AllByRecursion IsDefinerUse (flat_map (definer_uses k call) (definers_of p gs)) → AllByRecursion IsDefinerUse (flat_map (definer_uses k call) (if b then g.definer ∷ definers_of p gs else definers_of p gs))
      by_equal true rest = all-append IsDefinerUse (definer_uses k call g.definer) (flat_map (definer_uses k call) (definers_of p gs)) (by-plain call g.definer (omega (arith, h))) rest
      by_equal false rest = rest

  -- the uses by the definers of places
  all-by-plain : (gs : List Given) (p : ℕ) (xs : List PlaceInfo) → total (in_given (same k) nothing) gs ≡ 0 → AllByRecursion IsDefinerUse (flat_map (place_uses k) (defined_places gs p xs))
  all-by-plain gs p [] h = tt
  all-by-plain gs p (x ∷ xs) h =
      all-append IsDefinerUse (place_uses k (with_definers x (definers_of p gs))) (flat_map (place_uses k) (defined_places gs (p + 1) xs)) (by-plain-at x.call p gs h) (all-by-plain gs (p + 1) xs h)

-- ---- parts that weigh no more than their occurrences

-- parts of which this holds, as of what `main` expands to
pub record Fits (base : ℕ) (p : Parts) : Type 1 where
  pub behind : base ≡ length p.occs
  pub fits : (v w : ℕ → ℕ) → ((n : ℕ) → w n ≤ v n) → Each (paying v w) start p → count v w p ≤ owned v base start p

-- each number is had once
owned-once : (base k : ℕ) (p : Parts) → base ≡ length p.occs → owned (same k) base start p ≤ 1
unfolding owned
owned-once base k p h =
    let e = numbered-append (same k) 0 p.occs p.hidden in
    let a = numbered-once k 0 (p.occs ++ p.hidden) in
    subst (λ n. numbered (same k) 0 p.occs + numbered (same k) n p.hidden ≤ 1) (start_is (length p.occs) base h) (omega (arith, e, a))
  where
    start_is : (n base : ℕ) → base ≡ n → 0 + n ≡ base + 0
    start_is n base h = omega (arith, h)

module _ (base : ℕ) (p : Parts) (h : Fits base p) where
  -- all occurrences
  abbrev occs : List Occ
  occs = p.occs ++ p.hidden

  -- without plain definers
  without-plain : (k : ℕ) → count (same k) nothing p ≤ 1
  without-plain k =
      let le = owned-once base k p h.behind in
      let fits = h.fits (same k) nothing (λ n. omega arith) (each-pays (same k) nothing p (λ n occ is x form. omega arith)) in
      omega (arith, le, fits)

  -- the parts of all are counted
  in-occs : (k : ℕ) → total (λ (x : Occ). in_form (same k) x.form) occs ≤ count (same k) nothing p
  unfolding count
  in-occs k = let e = total-append (λ (x : Occ). in_form (same k) x.form) p.occs p.hidden in omega (arith, e)

  -- each is used at most once as a part
  one-part : (k : ℕ) → length (uses_in_occs k 0 occs) ≤ 1
  one-part k = let a = occs-counted k 0 occs in let b = in-occs k in let c = without-plain k in omega (arith, a, b, c)

  -- two calls don't have the same result
  same-call : (k m n : ℕ) (a b : Occ) → slice_get occs m ≡ Some a → a.form ≡ Result k → slice_get occs n ≡ Some b → b.form ≡ Result k → m ≡ n
  same-call k m n a b ha fa hb fb =
      let e = call-alone k 0 occs m a ha fa (one-part k) in
      let g = call-alone k 0 occs n b hb fb (one-part k) in
      let i : 0 + m ≡ 0 + n = ap first_whole (sym e ∙ g) in
      omega (arith, i)

  -- all uses, of what isn't the result of a call
  with-plain : (k : ℕ) → NoCallOf k occs → count (same k) (same k) p ≤ 1
  with-plain k none =
      let le = owned-once base k p h.behind in
      let fits = h.fits (same k) (same k) (λ n. omega arith) (each-pays (same k) (same k) p (λ n occ is x form. same-case (λ j. j ≤ same k n) k x (λ e. absurd (none n occ (in-longer p.occs p.hidden n occ is) (form ∙ ap (λ j. Result j) (sym e)))) (omega arith))) in
      omega (arith, le, fits)

  -- all uses of the result of a call, and those of the call but by plain definers
  with-call : (k : ℕ) (c : IsCallOf k occs) → count (same k) (same k) p + count (same c.number) nothing p ≤ 2
  with-call k c =
      let v = plus (same k) (same c.number) in
      let w = plus (same k) nothing in
      let one = owned-once base k p h.behind in
      let two = owned-once base c.number p h.behind in
      let e = count-split (same k) (same c.number) (same k) nothing p in
      let g = owned-split (same k) (same c.number) base start p in
      let fits = h.fits v w (λ n. omega arith) (each-pays v w p (λ n occ is x form. same-case (λ j. j + 0 ≤ v n) k x
      (λ e. let m = same-call k c.number n c.occ occ c.is c.form (in-longer p.occs p.hidden n occ is) (form ∙ ap (λ j. Result j) (sym e)) in
      let s = same-self c.number in let t : same c.number n ≡ same c.number c.number = ap (same c.number) (sym m) in omega (arith, s, t))
      (omega arith))) in
      omega (arith, one, two, e, g, fits)

  -- all uses of both, where the call isn't itself a result
  with-both : (k : ℕ) (c : IsCallOf k occs) → NoCallOf c.number occs → count (same k) (same k) p + count (same c.number) (same c.number) p ≤ 2
  with-both k c none =
      let v = plus (same k) (same c.number) in
      let one = owned-once base k p h.behind in
      let two = owned-once base c.number p h.behind in
      let e = count-split (same k) (same c.number) (same k) (same c.number) p in
      let g = owned-split (same k) (same c.number) base start p in
      let fits = h.fits v v (λ n. omega arith) (each-pays v v p (λ n occ is x form.
      let here = in-longer p.occs p.hidden n occ is in
      let second : same c.number x ≤ 0 = same-case (λ j. j ≤ 0) c.number x (λ e. absurd (none n occ here (form ∙ ap (λ j. Result j) (sym e)))) (omega arith) in
      let first : same k x ≤ same c.number n = same-case (λ j. j ≤ same c.number n) k x
      (λ e. let m = same-call k c.number n c.occ occ c.is c.form here (form ∙ ap (λ j. Result j) (sym e)) in
      let s = same-self c.number in let t : same c.number n ≡ same c.number c.number = ap (same c.number) (sym m) in omega (arith, s, t))
      (omega arith) in
      omega (arith, first, second))) in
      omega (arith, one, two, e, g, fits)

-- ---- one use

-- the uses of an occurrence, as they are counted: one alone, or as the result of a call and by a definer
pub data AreUses (f : FlatForm) (k : ℕ) : List Use → Type 0 where
  Unused : AreUses f k []
  Once : (of : Use) → AreUses f k (of ∷ [])
  OfCall : (whole : ℕ) (call : Option ℕ) → HasForm f whole (Result k) → AreUses f k (PartOf whole ∷ DefinerOf call ∷ [])

module _ (f : FlatForm) (k : ℕ) where
  -- no use, or one
  at-most-one : (us : List Use) → length us ≤ 1 → AreUses f k us
  at-most-one [] h = Unused
  at-most-one (u ∷ []) h = Once u
  at-most-one (u ∷ v ∷ us) h = absurd (omega (arith, h))

  -- the uses of all kinds
  length-five : (us vs ts gs : List Use) → length (us ++ vs ++ ts ++ gs ++ []) ≡ length us + length vs + length ts + length gs
  length-five us vs ts gs =
      let a = length-append (us ++ vs ++ ts ++ gs) [] in
      let b = length-append (us ++ vs ++ ts) gs in
      let c = length-append (us ++ vs) ts in
      let d = length-append us vs in
      omega (arith, a, b, c, d)

  -- as the part of a call, and by a plain definer
  of-call : (whole : ℕ) (occ : Occ) (v : Use) → slice_get f.occs whole ≡ Some occ → occ.form ≡ Result k → IsDefinerUse v → AreUses f k (PartOf whole ∷ v ∷ [])
  of-call whole occ v is form b = subst (λ y. AreUses f k (PartOf whole ∷ y ∷ [])) (sym b.use_is) (OfCall whole b.call (occ, is, form))

  -- the result of a call, which has one use as a part, no test and no site, and otherwise plain definers alone
  result-uses : (whole : ℕ) (occ : Occ) (us vs ts gs : List Use) → slice_get f.occs whole ≡ Some occ → occ.form ≡ Result k → us ≡ PartOf whole ∷ [] → length vs ≤ 1 → length ts + length gs ≤ 0 → AllByRecursion IsDefinerUse vs → AreUses f k (us ++ vs ++ ts ++ gs ++ [])
  result-uses whole occ us [] ts gs is form e hv hm all = let g = length-five us [] ts gs in let i = ap length e in at-most-one (us ++ [] ++ ts ++ gs ++ []) (omega (arith, g, i, hm))
  result-uses whole occ us (v ∷ v2 ∷ vs) ts gs is form e hv hm all = absurd (omega (arith, hv))
  result-uses whole occ us (v ∷ []) (t ∷ ts) gs is form e hv hm all = absurd (omega (arith, hm))
  result-uses whole occ us (v ∷ []) [] (g ∷ gs) is form e hv hm all = absurd (omega (arith, hm))
  result-uses whole occ us (v ∷ []) [] [] is form e hv hm all = subst (λ xs. AreUses f k (xs ++ (v ∷ []) ++ [] ++ [] ++ [])) (sym e) (of-call whole occ v is form all.0)

module _ (base : ℕ) (p : Parts) (h : Fits base p) (ins outs : List ℕ) where
  -- what the uses that the form records weigh
  module _ (k : ℕ) where
    -- the form of the parts
    abbrev the_form : FlatForm
    the_form = form_of p ins outs

    -- its tests and arguments
    abbrev in_tests_and_sites : ℕ
    in_tests_and_sites = in_tests k the_form + total (λ (x : SiteInfo). same k x.arg) the_form.sites

    -- the uses of one number, by kinds
    all-counted : count (same k) (same k) p ≡ total (λ (x : Occ). in_form (same k) x.form) the_form.occs + total (in_given (same k) (same k)) p.definers + in_tests_and_sites
    unfolding count
    all-counted = let e = total-append (λ (x : Occ). in_form (same k) x.form) p.occs p.hidden in omega (arith, e)

    -- without plain definers
    but-plain-counted : count (same k) nothing p ≡ total (λ (x : Occ). in_form (same k) x.form) the_form.occs + total (in_given (same k) nothing) p.definers + in_tests_and_sites
    unfolding count
    but-plain-counted = let e = total-append (λ (x : Occ). in_form (same k) x.form) p.occs p.hidden in omega (arith, e)

    -- the form records no more uses than are counted
    uses-counted : length (uses_of the_form k) ≤ count (same k) (same k) p
    uses-counted =
        let us = uses_in_occs k 0 the_form.occs in
        let vs = flat_map (place_uses k) the_form.places in
        let e = length-five the_form k us vs (when (is_test the_form k) TestOf) (when (is_argument the_form k) ArgumentOf) in
        let g : length (uses_of the_form k) ≡ length us + length vs + length (when (is_test the_form k) TestOf) + length (when (is_argument the_form k) ArgumentOf) = e in
        let all = all-counted in
        let a = occs-counted k 0 the_form.occs in
        let b = definers-counted k p.definers 0 p.places in
        let t = tests-counted k the_form in
        let c = arguments-counted k the_form in
        omega (arith, g, all, a, b, t, c)

  -- each occurrence has at most one use
  pub form-once : (k : ℕ) → AreUses (form_of p ins outs) k (uses_of (form_of p ins outs) k)
  form-once k = by_call (find-call k (p.occs ++ p.hidden))
    where
      by_call : IsCallOf k (p.occs ++ p.hidden) ⊎ NoCallOf k (p.occs ++ p.hidden) → AreUses (form_of p ins outs) k (uses_of (form_of p ins outs) k)
      by_call (inr none) =
          let a = uses-counted k in
          let b = with-plain base p h k none in
          at-most-one (form_of p ins outs) k (uses_of (form_of p ins outs) k) (omega (arith, a, b))
      by_call (inl c) =
          let f = form_of p ins outs in
          let us = uses_in_occs k 0 f.occs in
          let vs = flat_map (place_uses k) f.places in
          let ts = when (is_test f k) TestOf in
          let gs = when (is_argument f k) ArgumentOf in
          let alone = call-alone k 0 f.occs c.number c.occ c.is c.form (one-part base p h k) in
          let us_one = ap length alone in
          let a = occs-counted k 0 f.occs in
          let b = definers-counted k p.definers 0 p.places in
          let t = tests-counted k f in
          let g = arguments-counted k f in
          let one = without-plain base p h k in
          let two = with-call base p h k c in
          let e = all-counted k in
          let i = but-plain-counted k in
          let same_number : 0 + c.number ≡ c.number = omega arith in
          result-uses f k c.number c.occ us vs ts gs c.is c.form (alone ∙ ap (λ j. PartOf j ∷ []) same_number)
          (omega (arith, us_one, a, b, e, two)) (omega (arith, us_one, a, t, g, i, one)) (all-by-plain k p.definers 0 p.places (omega (arith, us_one, a, i, one)))

  -- a plain definer names it
  named-counted : (k : ℕ) (gs : List Given) (g : Given) (b : ℕ) (n : ℕ) → slice_get gs n ≡ Some g → g.definer ≡ Plain b k → 1 ≤ total (in_given (same k) (same k)) gs
  named-counted k [] g b n is e = absurd (cc)
  named-counted k (x ∷ gs) g b zero is e =
      let one : in_definer (same k) (same k) x.definer ≡ same k k = ap (in_definer (same k) (same k)) (ap (λ (o : Given). o.definer) (the_same is) ∙ e) in
      let s = same-self k in
      omega (arith, one, s)
    where
      the_same : Some x ≡ Some g → x ≡ g
      the_same e = cc
  named-counted k (x ∷ gs) g b (suc n) is e = let a = named-counted k gs g b n is e in omega (arith, a)

  -- a call whose result a plain definer names has no use
  pub call-unused : (k : ℕ) (c : IsCallOf k (p.occs ++ p.hidden)) (g : Given) (b n : ℕ) → slice_get p.definers n ≡ Some g → g.definer ≡ Plain b k → uses_of (form_of p ins outs) c.number ≡ []
  call-unused k c g b n is e =
      let f = form_of p ins outs in
      let us = uses_in_occs k 0 f.occs in
      let us_one = ap length (call-alone k 0 f.occs c.number c.occ c.is c.form (one-part base p h k)) in
      let a = occs-counted k 0 f.occs in
      let named = named-counted k p.definers g b n is e in
      let all = all-counted k in
      let two = with-call base p h k c in
      by_call (omega (arith, us_one, a, named, all)) (omega (arith, us_one, a, named, all, two)) (find-call c.number (p.occs ++ p.hidden))
    where
      by_call : 2 ≤ count (same k) (same k) p → count (same c.number) nothing p ≤ 0 → IsCallOf c.number (p.occs ++ p.hidden) ⊎ NoCallOf c.number (p.occs ++ p.hidden) → uses_of (form_of p ins outs) c.number ≡ []
      by_call two no_part (inl d) =
          let one = ap length (call-alone c.number 0 (p.occs ++ p.hidden) d.number d.occ d.is d.form (one-part base p h c.number)) in
          let a = occs-counted c.number 0 (p.occs ++ p.hidden) in
          let b = in-occs base p h c.number in
          absurd (omega (arith, one, a, b, no_part))
      by_call two no_part (inr none) =
          let all = with-both base p h k c none in
          let a = uses-counted c.number in
          no-entries (uses_of (form_of p ins outs) c.number) (omega (arith, all, a, two))

-- ---- the form of a program

-- what `main` expands to weighs no more than its occurrences
pub main-fits : (names : List (List ℕ)) (m : MainOf) → IsMainKept names m → Fits (main_size m).occs (parts_of names m)
main-fits names m kept = record { behind = kept.hidden_behind; fits = λ v w le pays. main-owes v w le names m kept pays }

-- so are the uses of each occurrence counted
pub main-counted : (names : List (List ℕ)) (m : MainOf) → IsMainKept names m → (k : ℕ) (occ : Occ) → slice_get (main_form names m).occs k ≡ Some occ → AreUses (main_form names m) k (uses_of (main_form names m) k)
unfolding main_form
main-counted names m kept k occ is =
    form-once (main_size m).occs (parts_of names m) (main-fits names m kept) (listed (length m.main.decl.params) 0 (λ n. n)) (result_places (variables_from (sizes_of m) m.main 0) m.main.decl.results) k
