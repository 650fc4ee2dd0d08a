-- What stands in a branch of an `if` is combinatorial, and what a definer or a `last` names stands where its place does.
use Rattle.std.proofs.Common.{◌≡◌, ◌⊎◌, inl, inr, ℕ, zero, suc, ◌+◌, ◌≤◌, Bool, true, false, List, [], ◌∷◌, slice_get, Option, Some, None, refl, sym, ap, subst, ◌∙◌, arith}
use Rattle.std.specs.List.{AllByRecursion}
use Rattle.std.specs.Option.{option_map, option_and_then}
use Rattle.zl_value.specs.Lists.{Has}
use Rattle.zl_meaning.specs.FlatForm.{FlatForm, HasForm, call_of, place_call}
use Rattle.zl_meaning.specs.Uses.{Use, PartOf, BranchOf, DefinerOf, SlopeOf, EventOf, StartOf, ResetOf, TestOf, ArgumentOf, AgainOf, IsUse, parts, uses_of}
use Rattle.zl_meaning.specs.WellFormed.{named_in, named_by, HasHeights, KeepsBranches}
use Rattle.zl_meaning.specs.Branches.{IsPart, Under, Is, Part, Called, InBranch, CallInBranch}
use Rattle.zl_meaning.specs.Single.{IsOneUse, Unused, Once, OfCall, OfBranches}
use Rattle.zl_meaning.specs.Regular.{Context, Plainly, WithLast, Discrete, Hybrid, context_of_block, is_hybrid_block, body_context, called_context, branch_context, part_context, form_in, IsAllowed, IsUseIn, IsRegularAt}
use Rattle.zl_meaning.specs.declared.place.Definer.{Definer}
use Rattle.zl_meaning.specs.declared.place.Definer.TheVariants.{Input, Plain, Der, Start}
use Rattle.zl_meaning.specs.declared.place.PlaceInfo.{PlaceInfo}
use Rattle.zl_meaning.specs.declared.occurrence.Form.{Form}
use Rattle.zl_meaning.specs.declared.occurrence.Form.TheVariants.{Lit, Read, Last, Op as Apply, If, Arrow, Pre, Result, Up, Fired, Step}
use Rattle.zl_meaning.specs.declared.occurrence.Occ.{Occ}
use Rattle.zl_meaning.specs.declared.occurrence.SiteInfo.{SiteInfo}
use Rattle.zl_meaning.proofs.UseCases.{use-of-listed, listed-of-use}
use Rattle.zl_flat.proofs.UsesNamed.{listed-unused, has-none, has-cases, all-has, IsPartUse, IsDefinerUse, part-used, named-used, slope-used, Source, all-sources}

-- ---- calls

-- the occurrence has this call
pub record HasCall (f : FlatForm) (call : Option ℕ) (k : ℕ) : Type 0 where
  pub occ : Occ
  pub is : slice_get f.occs k ≡ Some occ
  pub call_is : occ.call ≡ call

-- the result of a call has that call, any other part that of its whole
abbrev pub PartsCalled : FlatForm → ℕ → Option ℕ → Form → Type 0
PartsCalled f n call (Result x) = HasCall f (Some n) x
PartsCalled f n call form = AllByRecursion (HasCall f call) (parts form)

-- the occurrence is a result of a call that nothing uses, and that has this call
pub record IsOfUnused (f : FlatForm) (call : Option ℕ) (k : ℕ) : Type 0 where
  pub whole : ℕ
  pub occ : Occ
  pub is : slice_get f.occs k ≡ Some occ
  pub call_is : occ.call ≡ Some whole
  pub own : Occ
  pub own_is : slice_get f.occs whole ≡ Some own
  pub own_call : own.call ≡ call
  pub block : occ.block ≡ own.block
  pub unused : uses_of f whole ≡ []

-- what a definer names has the call of the place
abbrev pub DefinerCalled : FlatForm → Option ℕ → Definer → Type 0
DefinerCalled f call (Input n) = Unit {0}
DefinerCalled f call (Plain b k) = HasCall f call k ⊎ IsOfUnused f call k
DefinerCalled f call (Der b slope resets) = AllByRecursion (HasCall f call) (slope ∷ named_in resets)
DefinerCalled f call (Start b k) = HasCall f call k

-- from a call outwards one comes to this one
pub data Reaches (f : FlatForm) (target : Option ℕ) : Option ℕ → Type 0 where
  There : Reaches f target target
  Outer : (c : ℕ) (occ : Occ) → slice_get f.occs c ≡ Some occ → Reaches f target occ.call → Reaches f target (Some c)

-- this call, if there is one, is an occurrence that is a call
abbrev pub IsCall : FlatForm → Option ℕ → Type 0
IsCall f None = Unit {0}
IsCall f (Some call) = (result : ℕ) × HasForm f call (Result result)

-- the argument of site number `n` has the call of an `up` that has this site
pub record SiteCalled (f : FlatForm) (n arg : ℕ) : Type 0 where
  pub number : ℕ
  pub occ : Occ
  pub is : slice_get f.occs number ≡ Some occ
  pub form : occ.form ≡ Up n
  pub called : HasCall f occ.call arg

-- a plain definer of a place in the copy of a call doesn't name the result of that call
abbrev pub IsNoResult : FlatForm → Option ℕ → Definer → Type 0
IsNoResult f call d = (n k b : ℕ) → call ≡ Some n → HasForm f n (Result k) → d ≡ Plain b k → ⊥

-- occurrences, definers, names and `last`s stand in the calls of what they belong to
pub record KeepsCalls (f : FlatForm) : Type 0 where
  pub again : f.again ≡ []
  pub parts : (n : ℕ) (occ : Occ) → slice_get f.occs n ≡ Some occ → PartsCalled f n occ.call occ.form
  pub definers : (p : ℕ) (place : PlaceInfo) → slice_get f.places p ≡ Some place → AllByRecursion (DefinerCalled f place.call) place.definers
  pub lasts : (k p : ℕ) (occ : Occ) → slice_get f.occs k ≡ Some occ → occ.form ≡ Last p → Reaches f (place_call f p) occ.call
  pub names : (k p : ℕ) (occ : Occ) → slice_get f.occs k ≡ Some occ → occ.form ≡ Read p → Reaches f (place_call f p) occ.call
  pub calls : (k : ℕ) (occ : Occ) → slice_get f.occs k ≡ Some occ → IsCall f occ.call
  pub sites : (n : ℕ) (site : SiteInfo) → slice_get f.sites n ≡ Some site → SiteCalled f n site.arg
  pub results : (p : ℕ) (place : PlaceInfo) → slice_get f.places p ≡ Some place → AllByRecursion (IsNoResult f place.call) place.definers

-- ---- contexts

-- occurrences have contexts, as the tables say
pub record HasContexts (f : FlatForm) : Type 0 where
  pub context : ℕ → Context
  pub occs : (k : ℕ) (occ : Occ) → slice_get f.occs k ≡ Some occ → IsRegularAt f context (is_hybrid_block f occ.block) k occ

-- combinatorial, with `last` or without
abbrev pub IsCalm : Context → Type 0
IsCalm Plainly = Unit {0}
IsCalm WithLast = Unit {0}
IsCalm Discrete = ⊥
IsCalm Hybrid = ⊥

-- the body of a calm call is calm
calm-body : (block c : Context) → IsCalm c → IsCalm (body_context block c)
calm-body block Plainly h = tt
calm-body block WithLast h = tt
calm-body block Discrete h = absurd h
calm-body block Hybrid h = absurd h

-- and has no test
no-test-in : (block c : Context) → IsCalm c → IsUseIn (body_context block c) TestOf → ⊥
no-test-in block Plainly h g = grind (arith, g)
no-test-in block WithLast h g = grind (arith, g)
no-test-in block Discrete h g = absurd h
no-test-in block Hybrid h g = absurd h

-- a branch is calm
pub calm-branch : (c : Context) → IsCalm (branch_context c)
calm-branch Plainly = tt
calm-branch WithLast = tt
calm-branch Discrete = tt
calm-branch Hybrid = tt

-- the parts of what is calm are
pub calm-part : (block c : Context) (form : Form) → IsCalm c → IsAllowed c form → IsCalm (part_context block c (Some form))
calm-part block c (Lit v) h a = h
calm-part block c (Read p) h a = h
calm-part block c (Last p) h a = h
calm-part block c (Apply op ks) h a = h
calm-part block c (If x y z) h a = h
calm-part block c (Arrow x y) h a = absurd (subst IsCalm a h)
calm-part block c (Pre x) h a = absurd (subst IsCalm a h)
calm-part block c (Result x) h a = calm-body block c h
calm-part block c (Up s) h a = h
calm-part block c (Fired ks) h a = h
calm-part block c Step h a = absurd a

-- ---- one use

-- no use is both as a part and by a definer
differ-parts : (n : ℕ) (c : Option ℕ) (u : Use) → IsPartUse n u → IsDefinerUse c u → ⊥
differ-parts n c (PartOf whole) h g = g
differ-parts n c (BranchOf whole condition side) h g = g
differ-parts n c (DefinerOf call) h g = h
differ-parts n c (SlopeOf call) h g = h
differ-parts n c (EventOf call) h g = h
differ-parts n c (StartOf call b) h g = h
differ-parts n c (ResetOf call events arm) h g = h
differ-parts n c TestOf h g = h
differ-parts n c ArgumentOf h g = h
differ-parts n c AgainOf h g = h

-- one of two
pub of-two : (R : Type 0) (x y u : Use) → Has (x ∷ y ∷ []) u → (x ≡ u → R) → (y ≡ u → R) → R
of-two R x y u h first second = has-cases R x (y ∷ []) u h first (λ i. has-cases R y [] u i second (λ j. absurd (has-none u j)))

-- the only one
pub of-one : (x u : Use) → Has (x ∷ []) u → x ≡ u
of-one x u h = has-cases (x ≡ u) x [] u h (λ e. e) (λ i. absurd (has-none u i))

-- a test has no other use
only-test : (f : FlatForm) (k : ℕ) (us : List Use) (u : Use) → IsOneUse f k us → Has us TestOf → Has us u → u ≡ TestOf
only-test f k us u Unused h i = absurd (has-none TestOf h)
only-test f k us u (Once of) h i = sym (of-one of u i) ∙ of-one of TestOf h
only-test f k us u (OfCall whole is unused) h i = absurd (of-two ⊥ (PartOf whole) (DefinerOf (call_of f whole)) TestOf h (λ e. cc) (λ e. cc))
only-test f k us u (OfBranches whole condition p is) h i = absurd (of-two ⊥ (BranchOf whole condition true) (BranchOf whole condition false) TestOf h (λ e. cc) (λ e. cc))

-- a part that a definer names too is the result of a call
pub record IsResultOf (f : FlatForm) (k n : ℕ) (u : Use) : Type 0 where
  pub occ : Occ
  pub is : slice_get f.occs n ≡ Some occ
  pub form : occ.form ≡ Result k
  pub use_is : u ≡ PartOf n

-- of the two uses the first is as the part of a call
part-and-definer : (f : FlatForm) (k n : ℕ) (c : Option ℕ) (us : List Use) (u v : Use) → IsOneUse f k us → Has us u → IsPartUse n u → Has us v → IsDefinerUse c v → IsResultOf f k n u
part-and-definer f k n c us u v Unused h p i d = absurd (has-none u h)
part-and-definer f k n c us u v (Once of) h p i d = absurd (differ-parts n c of (subst (IsPartUse n) (sym (of-one of u h)) p) (subst (IsDefinerUse c) (sym (of-one of v i)) d))
part-and-definer f k n c us u v (OfCall whole is unused) h p i d =
    of-two (IsResultOf f k n u) (PartOf whole) (DefinerOf (call_of f whole)) u h
    (λ e. let same : whole ≡ n = subst (IsPartUse n) (sym e) p in record { occ = is.0; is = subst (λ m. slice_get f.occs m ≡ Some is.0) same is.1; form = is.2; use_is = sym e ∙ ap (λ m. PartOf m) same })
    (λ e. absurd (subst (IsPartUse n) (sym e) p))
part-and-definer f k n c us u v (OfBranches whole condition q is) h p i d =
    absurd (of-two ⊥ (BranchOf whole condition true) (BranchOf whole condition false) v i (λ e. subst (IsDefinerUse c) (sym e) d) (λ e. subst (IsDefinerUse c) (sym e) d))

-- ---- a form that keeps calls

-- what has a call is there
pub the-call : (f : FlatForm) (k c : ℕ) → call_of f k ≡ Some c → HasCall f (Some c) k
the-call f k c e = by_occ (slice_get f.occs k) refl e
  where
    by_occ : (o : Option Occ) → slice_get f.occs k ≡ o → option_and_then (λ (occ : Occ). occ.call) o ≡ Some c → HasCall f (Some c) k
    by_occ None is g = absurd (cc)
    by_occ (Some occ) is g = record { occ = occ; is = is; call_is = g }

-- one number has one occurrence
pub same-occ : (a b : Occ) (o : Option Occ) → o ≡ Some a → o ≡ Some b → a ≡ b
same-occ a b o h g = cc

-- one option has one number
pub same-number : (a b : ℕ) → Some a ≡ Some b → a ≡ b
same-number a b h = cc

module _ (f : FlatForm) (keeps : KeepsCalls f) where
  -- a part has its whole's call, or is the result of the call that is the whole
  pub part-call : (k n : ℕ) (h : IsPart f k n) → HasCall f h.occ.call k ⊎ HasCall f (Some n) k
  part-call k n h = by_form h.occ.form refl (keeps.parts n h.occ h.is) h.part
    where
      others : (form : Form) → AllByRecursion (HasCall f h.occ.call) (parts form) → Has (parts form) k → HasCall f h.occ.call k ⊎ HasCall f (Some n) k
      others form a i = inl (all-has (HasCall f h.occ.call) (parts form) k a i)

      by_form : (form : Form) → h.occ.form ≡ form → PartsCalled f n h.occ.call form → Has (parts form) k → HasCall f h.occ.call k ⊎ HasCall f (Some n) k
      by_form (Result x) e a i = inr (has-cases (HasCall f (Some n) k) x [] k i (λ g. subst (HasCall f (Some n)) g a) (λ j. absurd (has-none k j)))
      by_form form e a i = others form a i

  -- the result of a call has it
  pub result-call : (k n : ℕ) (occ : Occ) → slice_get f.occs n ≡ Some occ → occ.form ≡ Result k → HasCall f (Some n) k
  result-call k n occ is form = subst (PartsCalled f n occ.call) form (keeps.parts n occ is)

  -- what a definer names has the call of the place, or is a result of a call that has
  pub named-call : (p k : ℕ) (place : PlaceInfo) (d : Definer) → slice_get f.places p ≡ Some place → Has place.definers d → Has (named_by d) k → HasCall f place.call k ⊎ IsOfUnused f place.call k
  named-call p k place d is has named = by_definer d (all-has (DefinerCalled f place.call) place.definers d (keeps.definers p place is) has) named
    where
      by_definer : (d : Definer) → DefinerCalled f place.call d → Has (named_by d) k → HasCall f place.call k ⊎ IsOfUnused f place.call k
      by_definer (Input n) a i = absurd (has-none k i)
      by_definer (Plain b j) a i = has-cases (HasCall f place.call k ⊎ IsOfUnused f place.call k) j [] k i (λ e. subst (λ n. HasCall f place.call n ⊎ IsOfUnused f place.call n) e a) (λ j. absurd (has-none k j))
      by_definer (Der b slope resets) a i = inl (all-has (HasCall f place.call) (slope ∷ named_in resets) k a i)
      by_definer (Start b j) a i = inl (has-cases (HasCall f place.call k) j [] k i (λ e. subst (HasCall f place.call) e a) (λ j. absurd (has-none k j)))

  -- a part is there
  part-there : (k n : ℕ) → IsPart f k n → (occ : Occ) × (slice_get f.occs k ≡ Some occ)
  part-there k n h = by_call (part-call k n h)
    where
      by_call : HasCall f h.occ.call k ⊎ HasCall f (Some n) k → (occ : Occ) × (slice_get f.occs k ≡ Some occ)
      by_call (inl a) = (a.occ, a.is)
      by_call (inr a) = (a.occ, a.is)

  -- ---- contexts

  module _ (regular : HasContexts f) (heights : HasHeights f) where
    -- the contexts of occurrences
    abbrev context : ℕ → Context
    context = regular.context

    -- in the copy of a calm call an equation's context is calm
    calm-called : (block : Context) (c : ℕ) (call : Option ℕ) → call ≡ Some c → IsCalm (context c) → IsCalm (called_context context block call)
    calm-called block c call e h = subst (λ o. IsCalm (called_context context block o)) (sym e) (calm-body block (context c) h)

    -- and it has no test
    no-test-called : (block : Context) (c : ℕ) (call : Option ℕ) → call ≡ Some c → IsCalm (context c) → IsUseIn (called_context context block call) TestOf → ⊥
    no-test-called block c call e h g = no-test-in block (context c) h (subst (λ o. IsUseIn (called_context context block o) TestOf) e g)

    -- a part of what is calm
    calm-of-part : (k n : ℕ) (occ whole : Occ) (u : Use) → slice_get f.occs k ≡ Some occ → slice_get f.occs n ≡ Some whole → Has (uses_of f k) u → IsPartUse n u → IsCalm (context n) → IsCalm (context k)
    calm-of-part k n occ whole (PartOf m) is there has e h =
        let a = regular.occs k occ is in
        let block = context_of_block (is_hybrid_block f occ.block) in
        let w = regular.occs n whole there in
        let form : form_in f m ≡ Some whole.form = ap (form_in f) e ∙ ap (option_map (λ (o : Occ). o.form)) there in
        subst IsCalm (sym (a.contexts (PartOf m) (use-of-listed f k (PartOf m) has) ∙ ap (λ j. part_context block (context j) (form_in f m)) e ∙ ap (part_context block (context n)) form)) (calm-part block (context n) whole.form h w.allowed)
    calm-of-part k n occ whole (BranchOf m condition side) is there has e h = let a = regular.occs k occ is in subst IsCalm (sym (a.contexts (BranchOf m condition side) (use-of-listed f k (BranchOf m condition side) has))) (calm-branch (context m))
    calm-of-part k n occ whole (DefinerOf call) is there has e h = absurd e
    calm-of-part k n occ whole (SlopeOf call) is there has e h = absurd e
    calm-of-part k n occ whole (EventOf call) is there has e h = absurd e
    calm-of-part k n occ whole (StartOf call b) is there has e h = absurd e
    calm-of-part k n occ whole (ResetOf call events arm) is there has e h = absurd e
    calm-of-part k n occ whole TestOf is there has e h = absurd e
    calm-of-part k n occ whole ArgumentOf is there has e h = absurd e
    calm-of-part k n occ whole AgainOf is there has e h = absurd e

    -- what a definer names, as a value or a slope, in the copy of a calm call
    calm-of-definer : (k c : ℕ) (occ : Occ) (call : Option ℕ) → slice_get f.occs k ≡ Some occ → occ.call ≡ Some c → IsCalm (context c) → HasCall f call k ⊎ IsOfUnused f call k →
        context k ≡ called_context context (context_of_block (is_hybrid_block f occ.block)) call → IsCalm (context k)
    calm-of-definer k c occ call is e h (inl a) g =
        let same = same-occ a.occ occ (slice_get f.occs k) a.is is in
        let call_is : call ≡ Some c = sym a.call_is ∙ ap (λ (o : Occ). o.call) same ∙ e in
        subst IsCalm (sym g) (calm-called (context_of_block (is_hybrid_block f occ.block)) c call call_is h)
    calm-of-definer k c occ call is e h (inr a) g =
        let same = same-occ a.occ occ (slice_get f.occs k) a.is is in
        let whole_is : a.whole ≡ c = same-number a.whole c (sym a.call_is ∙ ap (λ (o : Occ). o.call) same ∙ e) in
        let w = regular.occs a.whole a.own a.own_is in
        let block : occ.block ≡ a.own.block = ap (λ (o : Occ). o.block) (sym same) ∙ a.block in
        let same_context : context k ≡ context a.whole = g ∙ ap (λ b. called_context context (context_of_block (is_hybrid_block f b)) call) block ∙ ap (called_context context (context_of_block (is_hybrid_block f a.own.block))) (sym a.own_call) ∙ sym (w.unused (listed-unused f a.whole a.unused)) in
        subst IsCalm (sym (same_context ∙ ap context whole_is)) h

    -- no reset arm stands in the copy of a calm call
    no-reset : (k c : ℕ) (occ : Occ) (call : Option ℕ) → slice_get f.occs k ≡ Some occ → occ.call ≡ Some c → IsCalm (context c) → Source f k (EventOf call) → ⊥
    no-reset k c occ call is e h s =
        let all : AllByRecursion (HasCall f s.place.call) (s.slope ∷ named_in s.resets) = all-has (DefinerCalled f s.place.call) s.place.definers (Der s.block s.slope s.resets) (keeps.definers s.number s.place s.is) s.has in
        let own = all-has (HasCall f s.place.call) (named_in s.resets) k all.1 s.named in
        let slope = all.0 in
        let same = same-occ own.occ occ (slice_get f.occs k) own.is is in
        let call_is : s.place.call ≡ Some c = sym own.call_is ∙ ap (λ (o : Occ). o.call) same ∙ e in
        let r = regular.occs s.slope slope.occ slope.is in
        let block = context_of_block (is_hybrid_block f slope.occ.block) in
        subst IsCalm (r.equations (SlopeOf s.place.call) (use-of-listed f s.slope (SlopeOf s.place.call) (slope-used f s.number s.place s.block s.slope s.resets s.is s.has))) (calm-called block c s.place.call call_is h)

    -- what stands in the copy of a calm call is calm
    pub calm-inside : (n k c : ℕ) (occ : Occ) → slice_get f.occs k ≡ Some occ → occ.call ≡ Some c → IsCalm (context c) → heights.height c ≤ heights.height k + n → IsCalm (context k)
    calm-inside zero k c occ is e h le = let lt = heights.calls k c occ is e in absurd (omega (arith, lt, le))
    calm-inside (suc n) k c occ is e h le = by_uses (uses_of f k) refl (λ m whole there call_is more. calm-inside n m c whole there call_is h more)
      where
        Later : Type 0
        Later = (m : ℕ) (whole : Occ) → slice_get f.occs m ≡ Some whole → whole.call ≡ Some c → heights.height c ≤ heights.height m + n → IsCalm (context m)

        at : IsRegularAt f context (is_hybrid_block f occ.block) k occ
        at = regular.occs k occ is

        block : Context
        block = context_of_block (is_hybrid_block f occ.block)

        calm-whole : (m : ℕ) (part : IsPart f k m) → Later → HasCall f part.occ.call k ⊎ HasCall f (Some m) k → IsCalm (context m)
        calm-whole m part later (inl a) =
            let same = same-occ a.occ occ (slice_get f.occs k) a.is is in
            let lt = heights.parts m k part.occ part.is part.part in
            later m part.occ part.is (sym a.call_is ∙ ap (λ (o : Occ). o.call) same ∙ e) (omega (arith, le, lt))
        calm-whole m part later (inr a) =
            let same = same-occ a.occ occ (slice_get f.occs k) a.is is in
            subst (λ j. IsCalm (context j)) (same-number c m (sym e ∙ ap (λ (o : Occ). o.call) (sym same) ∙ a.call_is)) h

        by_use : (u : Use) → Has (uses_of f k) u → Source f k u → Later → IsCalm (context k)
        by_use (PartOf m) has s later = calm-of-part k m occ s.occ (PartOf m) is s.is has refl (calm-whole m s later (part-call k m s))
        by_use (BranchOf m condition side) has s later = subst IsCalm (sym (at.contexts (BranchOf m condition side) (use-of-listed f k (BranchOf m condition side) has))) (calm-branch (context m))
        by_use (DefinerOf call) has s later = calm-of-definer k c occ call is e h (subst (λ o. HasCall f o k ⊎ IsOfUnused f o k) s.call_is (named-call s.number k s.place s.definer s.is s.has s.named)) (at.contexts (DefinerOf call) (use-of-listed f k (DefinerOf call) has))
        by_use (SlopeOf call) has s later = calm-of-definer k c occ call is e h (subst (λ o. HasCall f o k ⊎ IsOfUnused f o k) s.call_is (named-call s.number k s.place s.definer s.is s.has s.named)) (at.contexts (SlopeOf call) (use-of-listed f k (SlopeOf call) has))
        by_use (EventOf call) has s later = absurd (no-reset k c occ call is e h s)
        by_use (StartOf call b) has s later = subst IsCalm (sym (at.contexts (StartOf call b) (use-of-listed f k (StartOf call b) has))) tt
        by_use (ResetOf call events arm) has s later = subst IsCalm (sym (at.contexts (ResetOf call events arm) (use-of-listed f k (ResetOf call events arm) has))) tt
        by_use TestOf has s later = absurd (no-test-called block c occ.call e h (at.equations TestOf (use-of-listed f k TestOf has)))
        by_use ArgumentOf has s later = subst IsCalm (sym (at.contexts ArgumentOf (use-of-listed f k ArgumentOf has))) tt
        by_use AgainOf has s later = absurd s

        by_uses : (us : List Use) → uses_of f k ≡ us → Later → IsCalm (context k)
        by_uses [] none later = subst IsCalm (sym (at.unused (listed-unused f k none))) (calm-called block c occ.call e h)
        by_uses (u ∷ us) some later =
            let has : Has (uses_of f k) u = subst (λ xs. Has xs u) (sym some) (record { index = 0; is = refl }) in
            by_use u has (all-has (Source f k) (uses_of f k) u (all-sources f k keeps.again) has) later

    -- what stands in a branch is calm
    calm-under : (whole condition : ℕ) (side : Bool) (k : ℕ) → Under f (BranchOf whole condition side) k → IsCalm (context k)
    calm-under whole condition side k (Is j named) =
        let has = listed-of-use f k (BranchOf whole condition side) named in
        let s : Source f k (BranchOf whole condition side) = all-has (Source f k) (uses_of f k) (BranchOf whole condition side) (all-sources f k keeps.again) has in
        let there = part-there k whole s in
        calm-of-branch there.0 there.1
      where
        calm-of-branch : (occ : Occ) → slice_get f.occs k ≡ Some occ → IsCalm (context k)
        calm-of-branch occ is = let a = regular.occs k occ is in subst IsCalm (sym (a.contexts (BranchOf whole condition side) named)) (calm-branch (context whole))
    calm-under whole condition side k (Part j n part under) =
        let u = part-used f k n part in
        let there = part-there k n part in
        calm-of-part k n there.0 part.occ u.use_is there.1 part.is u.has u.holds (calm-under whole condition side n under)
    calm-under whole condition side k (Called j c e under) =
        let a = the-call f k c e in
        calm-inside (heights.height c) k c a.occ a.is a.call_is (calm-under whole condition side c under) (omega arith)

    -- ---- the fields

    module _ (once : (k : ℕ) (occ : Occ) → slice_get f.occs k ≡ Some occ → IsOneUse f k (uses_of f k)) where
      -- no test stands in a branch
      no-test : (k whole condition : ℕ) (side : Bool) → IsUse f k TestOf → Under f (BranchOf whole condition side) k → ⊥
      no-test k whole condition side test (Is j named) =
          let has = listed-of-use f k (BranchOf whole condition side) named in
          let s : Source f k (BranchOf whole condition side) = all-has (Source f k) (uses_of f k) (BranchOf whole condition side) (all-sources f k keeps.again) has in
          let there = part-there k whole s in
          differ (only-test f k (uses_of f k) (BranchOf whole condition side) (once k there.0 there.1) (listed-of-use f k TestOf test) has)
        where
          differ : BranchOf whole condition side ≡ TestOf → ⊥
          differ e = cc
      no-test k whole condition side test (Part j n part under) =
          let u = part-used f k n part in
          let there = part-there k n part in
          subst (IsPartUse n) (only-test f k (uses_of f k) u.use_is (once k there.0 there.1) (listed-of-use f k TestOf test) u.has) u.holds
      no-test k whole condition side test (Called j c e under) =
          let a = the-call f k c e in
          let r = regular.occs k a.occ a.is in
          no-test-called (context_of_block (is_hybrid_block f a.occ.block)) c a.occ.call a.call_is (calm-under whole condition side c under) (r.equations TestOf test)

      -- what nothing uses stands in a branch only with its call
      unused-under : (whole condition : ℕ) (side : Bool) (k : ℕ) (occ : Occ) → slice_get f.occs k ≡ Some occ → uses_of f k ≡ [] → Under f (BranchOf whole condition side) k → CallInBranch f whole side occ.call
      unused-under whole condition side k occ is none (Is j named) = absurd (has-none (BranchOf whole condition side) (subst (λ us. Has us (BranchOf whole condition side)) none (listed-of-use f k (BranchOf whole condition side) named)))
      unused-under whole condition side k occ is none (Part j n part under) = let u = part-used f k n part in absurd (has-none u.use_is (subst (λ us. Has us u.use_is) none u.has))
      unused-under whole condition side k occ is none (Called j c e under) =
          let a = the-call f k c e in
          let same = same-occ a.occ occ (slice_get f.occs k) a.is is in
          (c, sym (ap (λ (o : Occ). o.call) same) ∙ a.call_is, (condition, under))

      -- a call in the branch, which the named occurrence has
      by-call : (whole condition : ℕ) (side : Bool) (k c : ℕ) (call : Option ℕ) → HasCall f (Some c) k → Under f (BranchOf whole condition side) c → HasCall f call k ⊎ IsOfUnused f call k → CallInBranch f whole side call
      by-call whole condition side k c call own under (inl a) =
          let same = same-occ a.occ own.occ (slice_get f.occs k) a.is own.is in
          (c, sym a.call_is ∙ ap (λ (o : Occ). o.call) same ∙ own.call_is, (condition, under))
      by-call whole condition side k c call own under (inr a) =
          let same = same-occ a.occ own.occ (slice_get f.occs k) a.is own.is in
          let whole_is : c ≡ a.whole = same-number c a.whole (sym own.call_is ∙ ap (λ (o : Occ). o.call) (sym same) ∙ a.call_is) in
          subst (CallInBranch f whole side) a.own_call (unused-under whole condition side a.whole a.own a.own_is a.unused (subst (Under f (BranchOf whole condition side)) whole_is under))

      -- what a definer names is there
      there-of : (k : ℕ) (call : Option ℕ) → HasCall f call k ⊎ IsOfUnused f call k → (occ : Occ) × (slice_get f.occs k ≡ Some occ)
      there-of k call (inl a) = (a.occ, a.is)
      there-of k call (inr a) = (a.occ, a.is)

      -- what a definer names stands in a branch only with the place
      named-under : (p : ℕ) (place : PlaceInfo) (d : Definer) (k whole condition : ℕ) (side : Bool) → slice_get f.places p ≡ Some place → Has place.definers d → Has (named_by d) k → Under f (BranchOf whole condition side) k → CallInBranch f whole side place.call
      named-under p place d k whole condition side is has named (Is j under) =
          let branch = listed-of-use f k (BranchOf whole condition side) under in
          let v = named-used f k p place d is has named in
          let there = there-of k place.call (named-call p k place d is has named) in
          let r = part-and-definer f k whole place.call (uses_of f k) (BranchOf whole condition side) v.use_is (once k there.0 there.1) branch refl v.has v.holds in
          absurd (differ r.use_is)
        where
          differ : BranchOf whole condition side ≡ PartOf whole → ⊥
          differ e = cc
      named-under p place d k whole condition side is has named (Part j n part under) =
          let v = named-used f k p place d is has named in
          let u = part-used f k n part in
          let call = named-call p k place d is has named in
          let there = there-of k place.call call in
          let r = part-and-definer f k n place.call (uses_of f k) u.use_is v.use_is (once k there.0 there.1) u.has u.holds v.has v.holds in
          by-call whole condition side k n place.call (result-call k n r.occ r.is r.form) under call
      named-under p place d k whole condition side is has named (Called j c e under) = by-call whole condition side k c place.call (the-call f k c e) under (named-call p k place d is has named)

      -- what is reached from a call in the branch stands in it
      call-under : (whole condition : ℕ) (side : Bool) (target : Option ℕ) (c : ℕ) → target ≡ Some c → Under f (BranchOf whole condition side) c → (call : Option ℕ) → Reaches f target call → CallInBranch f whole side call
      call-under whole condition side target c e under call There = (c, e, (condition, under))
      call-under whole condition side target c e under call (Outer d occ is more) =
          let a = call-under whole condition side target c e under occ.call more in
          let up = a.2 in
          (d, refl, (up.0, Called d a.0 (ap (option_and_then (λ (o : Occ). o.call)) is ∙ a.1) up.1))

      -- a `last` stands in the branches in which its place does
      last-under : (k p whole : ℕ) (occ : Occ) (side : Bool) → slice_get f.occs k ≡ Some occ → occ.form ≡ Last p → CallInBranch f whole side (place_call f p) → InBranch f whole side k
      last-under k p whole occ side is form b =
          let inner = b.2 in
          let a = call-under whole inner.0 side (place_call f p) b.0 b.1 inner.1 occ.call (keeps.lasts k p occ is form) in
          let up = a.2 in
          (up.0, Called k a.0 (ap (option_and_then (λ (o : Occ). o.call)) is ∙ a.1) up.1)

      -- the field `branches` of what is well-formed
      pub keeps-branches : KeepsBranches f
      keeps-branches = record {
        tests = λ k whole side test b. no-test k whole b.0 side test b.1;
        definers = λ p place d k whole side is has named b. named-under p place d k whole b.0 side is has named b.1;
        lasts = λ k p whole occ side is form b. last-under k p whole occ side is form b;
      }
