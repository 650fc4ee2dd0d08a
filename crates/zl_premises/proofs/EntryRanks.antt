-- Ranks of all entries from levels, with the rank that each has: what an equation reads at its own instant has a lower one.
use Rattle.std.specs.Prelude.{◌≡◌, ℕ, ◌<◌, ◌≤◌, List, [], ◌∷◌, slice_get, Option, Some, None, ⊤}
use Rattle.std.specs.Option.{option_and_then}
use Rattle.std.proofs.Common.{refl, sym, ap, ◌∙◌, subst, arith}
use Rattle.zl_value.specs.Lists.{Has}
use Rattle.zl_meaning.specs.FlatForm.{FlatForm, HasDefiner, CalledIn, Here, Inside as Further, IsWithin, Same, IsWithin.Inside as Within, place_call}
use Rattle.zl_meaning.specs.Uses.{Use, IsUse, AsPart, AsBranch, AsDefiner, AsSlope, AsEvent, AsStart, AsReset, AsTest, AsArgument, AsAgain, events_of, uses_of}
use Rattle.zl_meaning.specs.State.{Node, AtControl, AtReset, AtLater, AtEntry, AtRunning, AtStrong, AtWeak, AtPlace, AtUsed, AtValue}
use Rattle.zl_meaning.specs.WellFormed.{IsWellFormed, IsForm, IsInCopy, named_by, named_in}
use Rattle.zl_meaning.specs.Depends.{IsBlockOf, read_parts, read_by}
use Rattle.zl_meaning.specs.Reading.{Entries, ReadsCall, ReadsFresh, ReadsStart, ReadsLastOf, ReadsArm, ReadsDefiner, ReadsPlace, ReadsForm, ReadsValue, ReadsUse, ReadsAsked, ReadsUsed, Reads}
use Rattle.zl_meaning.specs.Levels.{HasLevels}
use Rattle.zl_meaning.specs.declared.place.Definer.{Definer}
use Rattle.zl_meaning.specs.declared.place.Definer.TheVariants.{Input, Plain, Der, Start}
use Rattle.zl_meaning.specs.declared.place.PlaceInfo.{PlaceInfo}
use Rattle.zl_meaning.specs.declared.occurrence.Form.{Form}
use Rattle.zl_meaning.specs.declared.occurrence.Form.TheVariants.{Lit, Read, Last, Op as Apply, If, Arrow, Pre, Result, Up, Fired, Step}
use Rattle.zl_meaning.specs.declared.occurrence.Occ.{Occ}
use Rattle.zl_meaning.proofs.Members.{all-has, has-later}
use Rattle.zl_meaning.proofs.LevelsGrow.{start-stands, stands-after}
use Rattle.zl_meaning.proofs.Standing.{part-of-form, steady-part, branch-part}
use Rattle.zl_meaning.proofs.UseCases.{use-of-listed}
use Rattle.zl_meaning.proofs.LevelLists.{each, named-event, named-value, jump}
use Rattle.zl_meaning.proofs.RanksOfBlocks.{Below as BelowIn, control, reset, later, entry, running, strong, weak}

module _ (f : FlatForm) (well : IsWellFormed f) (v : HasLevels f) where
  abbrev Below : Node → Node → Type 0
  Below = BelowIn f well v

  abbrev Any : Entries
  Any = λ b. ⊤

  -- ---- places

  module _ (p : ℕ) (x : PlaceInfo) (is : slice_get f.places p ≡ Some x) where
    block-below : (b : ℕ) (d : Definer) → Has x.definers d → IsBlockOf d b → v.block b < v.place p
    block-below b d h of = v.definers p b d (x, is, h) of

    value-below : (d : Definer) (k : ℕ) → Has x.definers d → Has (read_by d) k → Below (AtPlace p) (AtValue k)
    value-below d k h named = jump (v.value k) (v.place p) 0 0 (v.named p k d (x, is, h) named) (omega arith)

    place-call : (c : Option ℕ) → x.call ≡ c → ReadsCall (Below (AtPlace p)) c
    place-call None e = tt
    place-call (Some c) e = jump (v.used c) (v.place p) 0 0 (v.called p c (ap (option_and_then (λ (y : PlaceInfo). y.call)) is ∙ e)) (omega arith)

    definer-below : (d : Definer) → Has x.definers d → ReadsDefiner (Below (AtPlace p)) Any p d
    definer-below (Input n) h = tt
    definer-below (Plain b k) h = (jump (v.block b) (v.place p) 0 0 (block-below b (Plain b k) h refl) (omega arith), value-below (Plain b k) k h (record { index = 0; is = refl }))
    definer-below (Der b slope arms) h = (
      jump (v.block b) (v.place p) 0 0 (block-below b (Der b slope arms) h refl) (omega arith),
      tt,
      tt,
      each (ReadsArm (Below (AtPlace p))) arms (λ arm i. (value-below (Der b slope arms) arm.event h (named-event arms arm i), value-below (Der b slope arms) arm.value h (named-value arms arm i))),
    )
    definer-below (Start b k) h = jump (v.block b) (v.place p) 0 0 (block-below b (Start b k) h refl) (omega arith)

    start-below : (d : Definer) → Has x.definers d → ReadsStart (Below (AtPlace p)) Any d
    start-below (Input n) h = tt
    start-below (Plain b k) h = tt
    start-below (Der b slope arms) h = tt
    start-below (Start b k) h =
        let low = block-below b (Start b k) h refl in
        ((jump (v.block b) (v.place p) 0 0 low (omega arith), jump (v.block b) (v.place p) 1 0 low (omega arith), tt), value-below (Start b k) k h (record { index = 0; is = refl }))

    place-below : ReadsPlace (Below (AtPlace p)) Any p (Some x)
    place-below =
        let low = v.declared p x is in (
          jump (v.block x.block) (v.place p) 0 0 low (omega arith),
          place-call x.call refl,
          each (ReadsDefiner (Below (AtPlace p)) Any p) x.definers definer-below,
          ((jump (v.block x.block) (v.place p) 0 0 low (omega arith), jump (v.block x.block) (v.place p) 1 0 low (omega arith), tt), tt, each (ReadsStart (Below (AtPlace p)) Any) x.definers start-below),
        )

  place : (p : ℕ) (x : Option PlaceInfo) → slice_get f.places p ≡ x → ReadsPlace (Below (AtPlace p)) Any p x
  place p None is = tt
  place p (Some x) is = place-below p x is

  -- ---- values

  -- a block that stands inside another is not before it
  within-level : (outer inner : ℕ) → IsWithin f outer inner → v.block outer ≤ v.block inner
  within-level outer _ Same = omega arith
  within-level outer _ (Within inner parent up within) = let low = v.parents inner parent up in let rest = within-level outer parent within in omega (arith, low, rest)

  module _ (k : ℕ) (occ : Occ) (is : slice_get f.occs k ≡ Some occ) where
    stands-fresh : (b : ℕ) → v.block b < v.value k → ReadsFresh (Below (AtValue k)) Any b
    stands-fresh b low = (jump (v.block b) (v.value k) 0 0 low (omega arith), jump (v.block b) (v.value k) 1 0 low (omega arith), tt)

    own-fresh : ReadsFresh (Below (AtValue k)) Any occ.block
    own-fresh = stands-fresh occ.block (v.stands k occ is)

    part-below : (form : Form) → occ.form ≡ form → (j : ℕ) → Has (read_parts form) j → Below (AtValue k) (AtValue j)
    part-below form e j h = jump (v.value j) (v.value k) 0 0 (v.parts k j form (occ, is, e) h) (omega arith)

    init-below : (p : ℕ) → occ.form ≡ Last p → (x : PlaceInfo) → slice_get f.places p ≡ Some x → (d : Definer) → Has x.definers d → ReadsStart (Below (AtValue k)) Any d
    init-below p e x there (Input n) h = tt
    init-below p e x there (Plain b j) h = tt
    init-below p e x there (Der b slope arms) h = tt
    init-below p e x there (Start b j) h =
        let low : v.value j < v.value k = v.lasts k p b j (occ, is, e) (x, there, h) in
        let own = stands-after f v j b _ (start-stands f well p b j (x, there, h)) in
        (stands-fresh b (omega (arith, low, own)), jump (v.value j) (v.value k) 0 0 low (omega arith))

    last-below : (p : ℕ) → occ.form ≡ Last p → (x : Option PlaceInfo) → slice_get f.places p ≡ x → ReadsLastOf (Below (AtValue k)) Any p x
    last-below p e None there = tt
    last-below p e (Some x) there =
        let form : IsForm f occ.block occ.ty (Last p) = subst (IsForm f occ.block occ.ty) e (well.occs k occ is).form in
        let at : form.1.0 ≡ x = same-place (sym form.1.1 ∙ there) in
        let low = within-level x.block occ.block (subst (λ (y : PlaceInfo). IsWithin f y.block occ.block) at form.1.2) in
        let own = v.stands k occ is in
        (stands-fresh x.block (omega (arith, low, own)), tt, each (ReadsStart (Below (AtValue k)) Any) x.definers (init-below p e x there))
      where
        same-place : {y z : PlaceInfo} → Some y ≡ Some z → y ≡ z
        same-place q = cc

    form-below : (form : Form) → occ.form ≡ form → ReadsForm f (Below (AtValue k)) Any occ.block form
    form-below (Lit x) e = tt
    form-below (Read p) e = jump (v.place p) (v.value k) 0 0 (v.names k p (occ, is, e)) (omega arith)
    form-below (Last p) e = last-below p e (slice_get f.places p) refl
    form-below (Apply op ks) e = each (λ j. Below (AtValue k) (AtValue j)) ks (part-below (Apply op ks) e)
    form-below (If c x y) e =
        (part-below (If c x y) e c (record { index = 0; is = refl }), part-below (If c x y) e x (record { index = 1; is = refl }), part-below (If c x y) e y (record { index = 2; is = refl }))
    form-below (Arrow x y) e = (own-fresh, part-below (Arrow x y) e x (record { index = 0; is = refl }), part-below (Arrow x y) e y (record { index = 1; is = refl }))
    form-below (Pre x) e = (own-fresh, tt, tt)
    form-below (Result x) e = part-below (Result x) e x (record { index = 0; is = refl })
    form-below (Up site) e = own-fresh
    form-below (Fired ks) e = each (λ j. Below (AtValue k) (AtValue j)) ks (part-below (Fired ks) e)
    form-below Step e = tt

  value : (k : ℕ) (x : Option Occ) → slice_get f.occs k ≡ x → ReadsValue f (Below (AtValue k)) Any x
  value k None is = tt
  value k (Some occ) is = ((own-fresh k occ is).0, form-below k occ is occ.form refl)

  -- ---- uses

  -- the copy of a call is used after the call
  in-copy : (call k : ℕ) → CalledIn f call k → v.used call < v.used k
  in-copy call _ (Here k at) = v.calls k call at
  in-copy call _ (Further k inner at rest) = let low = v.calls k inner at in let more = in-copy call inner rest in omega (arith, low, more)

  call-below : (k p : ℕ) (call : Option ℕ) (d : Definer) → HasDefiner f p d → Has (named_by d) k → place_call f p ≡ call → ReadsCall (Below (AtUsed k)) call
  call-below k p None d has named at = tt
  call-below k p (Some c) d has named at =
      let copies : IsInCopy f has.0.call d = all-has (IsInCopy f has.0.call) has.0.definers d (well.places p has.0 has.1).copies has.2 in
      let called : has.0.call ≡ Some c = sym (ap (option_and_then (λ (y : PlaceInfo). y.call)) has.1) ∙ at in
      let all : IsInCopy f (Some c) d = subst (λ call. IsInCopy f call d) called copies in
      jump (v.used c) (v.used k) 0 0 (in-copy c k (all-has (CalledIn f c) (named_by d) k all named)) (omega arith)

  use-below : (k : ℕ) (of : Use) → IsUse f k of → ReadsUse (Below (AtUsed k)) Any of
  use-below k _ (AsPart whole form there h) = jump (v.used whole) (v.used k) 0 0 (v.wholes k whole (part-of-form f k whole form there (steady-part form k h))) (omega arith)
  use-below k _ (AsBranch whole c x y side there e) =
      (jump (v.used whole) (v.used k) 0 0 (v.wholes k whole (branch-part f side k whole c x y there e)) (omega arith), jump (v.value c) (v.used k) 0 0 (v.branches k whole c side (AsBranch whole c x y side there e)) (omega arith))
  use-below k _ (AsDefiner p b call has at) = call-below k p call (Plain b k) has (record { index = 0; is = refl }) at
  use-below k _ (AsSlope p b arms call has at) = call-below k p call (Der b k arms) has (record { index = 0; is = refl }) at
  use-below k _ (AsEvent p b slope arms arm call has h e at) =
      call-below k p call (Der b slope arms) has (subst (Has (slope ∷ named_in arms)) e (has-later slope (named_in arms) arm.event (named-event arms arm h))) at
  use-below k _ (AsStart p b call has at) =
      let s = start-stands f well p b k has in
      let low : v.block b < v.used k = subst (λ c. v.block c < v.used k) s.block (v.asked k s.occ s.is) in
      (call-below k p call (Start b k) has (record { index = 0; is = refl }) at, (jump (v.block b) (v.used k) 0 0 low (omega arith), jump (v.block b) (v.used k) 1 0 low (omega arith), tt))
  use-below k _ (AsReset p b slope n arms arm call has there e at) = (
    call-below k p call (Der b slope arms) has (subst (Has (slope ∷ named_in arms)) e (has-later slope (named_in arms) arm.value (named-value arms arm (record { index = n; is = there })))) at,
    each (λ j. Below (AtUsed k) (AtValue j)) (events_of arms) (λ j h. jump (v.value j) (v.used k) 0 0 (v.events k j n call (events_of arms) (AsReset p b slope n arms arm call has there e at) h) (omega arith)),
  )
  use-below k _ (AsTest t) = tt
  use-below k _ (AsArgument n site there e) = tt
  use-below k _ (AsAgain h) = tt

  unused-below : (k : ℕ) (occ : Occ) → slice_get f.occs k ≡ Some occ → (call : Option ℕ) → occ.call ≡ call → ReadsCall (Below (AtUsed k)) call
  unused-below k occ is None e = tt
  unused-below k occ is (Some c) e = jump (v.used c) (v.used k) 0 0 (v.calls k c (ap (option_and_then (λ (o : Occ). o.call)) is ∙ e)) (omega arith)

  asked-below : (k : ℕ) (occ : Occ) → slice_get f.occs k ≡ Some occ → (uses : List Use) → uses_of f k ≡ uses → ReadsAsked (Below (AtUsed k)) Any occ.call uses
  asked-below k occ is [] e = unused-below k occ is occ.call refl
  asked-below k occ is (first ∷ others) e = each (ReadsUse (Below (AtUsed k)) Any) (first ∷ others) (λ of h. use-below k of (use-of-listed f k of (subst (λ uses. Has uses of) (sym e) h)))

  used : (k : ℕ) (x : Option Occ) → slice_get f.occs k ≡ x → ReadsUsed f (Below (AtUsed k)) Any k x
  used k None is = tt
  used k (Some occ) is = (jump (v.block occ.block) (v.used k) 0 0 (v.asked k occ is) (omega arith), asked-below k occ is (uses_of f k) refl)

  pub lower : (a : Node) → Reads f (Below a) Any a
  lower (AtControl b) = control f well v b (slice_get f.blocks b) refl
  lower (AtReset b) = reset f well v b (slice_get f.blocks b) refl
  lower (AtLater b) = later f well v b (slice_get f.blocks b) refl
  lower (AtEntry a) = entry f well v a (slice_get f.automata a) refl
  lower (AtRunning a) = running f well v a (slice_get f.automata a) refl
  lower (AtStrong a) = strong f well v a (slice_get f.automata a) refl
  lower (AtWeak a) = weak f well v a (slice_get f.automata a) refl
  lower (AtPlace p) = place p (slice_get f.places p) refl
  lower (AtUsed k) = used k (slice_get f.occs k) refl
  lower (AtValue k) = value k (slice_get f.occs k) refl
