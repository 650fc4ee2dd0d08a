-- What gives a place its value, in a form of the main block alone: an `init`, or an equation or an input.
use Rattle.std.specs.Prelude.{◌≡◌, ◌⊎◌, ℕ, ◌+◌, ◌<◌, true, false, if◌then◌else◌, List, length, slice_get, Some}
use Rattle.std.proofs.Common.{refl, sym, ap, ◌∙◌, subst, inl, inr, ⊎_elim, arith}
use Rattle.zl_value.specs.Lists.{Has}
use Rattle.zl_meaning.specs.FlatForm.{FlatForm, HasDefiner}
use Rattle.zl_meaning.specs.Single.{IsSingle, is_start}
use Rattle.zl_meaning.specs.WellFormed.{IsWellFormed, body_count}
use Rattle.zl_meaning.specs.declared.block.Auto.{Auto}
use Rattle.zl_meaning.specs.declared.block.Choice.{Choice}
use Rattle.zl_meaning.specs.declared.place.Definer.{Definer}
use Rattle.zl_meaning.specs.declared.place.Definer.TheVariants.{Input, Plain, Der, Start}
use Rattle.zl_meaning.specs.declared.place.DerArm.{DerArm}
use Rattle.zl_meaning.specs.declared.place.PlaceInfo.{PlaceInfo}
use Rattle.zl_meaning.proofs.WrittenForms.{some-same}
use Rattle.zl_levels.specs.Levels.{IsAnchoredIn, ByStart, InReset, IsSurelyDefinedIn, ByPlain, ByDer, ByReset, ByChoice, ByAutomaton, IsAnchored, IsGiven, AsInput, Anchored, Surely}
use Rattle.zl_levels.specs.MainForm.{IsMainForm}
use Rattle.zl_levels.proofs.Untested.{none_there, no_arm, no_reset, no_apart}

abbrev pub HasStart : List Definer → Type 0
HasStart ds = (b : ℕ) × (k : ℕ) × Has ds (Start b k)

abbrev pub HasNoPlain : List Definer → Type 0
HasNoPlain ds = (b k : ℕ) → Has ds (Plain b k) → ⊥

-- an equation `x = e` or an input
abbrev pub IsOwn : Definer → Type 0
IsOwn (Input n) = Unit {0}
IsOwn (Plain b k) = Unit {0}
IsOwn (Der b slope arms) = ⊥
IsOwn (Start b k) = ⊥

pub record HasOwn (ds : List Definer) : Type 0 where
  pub definer : Definer
  pub has : Has ds definer
  pub own : IsOwn definer

pub own_no_start : (d : Definer) → IsOwn d → is_start d ≡ false
own_no_start (Input n) o = refl
own_no_start (Plain b k) o = refl
own_no_start (Der b slope arms) o = refl
own_no_start (Start b k) o = absurd o

module _ (f : FlatForm) (w : IsWellFormed f) (main : IsMainForm f) (p : ℕ) (place : PlaceInfo) (is : slice_get f.places p ≡ Some place) where
  here : (d : Definer) → HasDefiner f p d → Has place.definers d
  here d has = subst (λ (x : PlaceInfo). Has x.definers d) (some-same (sym has.1 ∙ is)) has.2

  anchored_start : (b : ℕ) → IsAnchoredIn f p b → HasStart place.definers
  anchored_start _ (ByStart b k has) = (b, k, here (Start b k) has)
  anchored_start _ (InReset b inner condition kind parent rest) = absurd (no_reset f main inner condition kind)

  pub start_of : IsAnchored f p → HasStart place.definers
  start_of a = subst (λ (x : PlaceInfo). HasStart x.definers) (some-same (sym a.1 ∙ is)) (by a.0 a.1 a.2)
    where
      by : (x : PlaceInfo) → slice_get f.places p ≡ Some x → IsAnchoredIn f p x.block → HasStart x.definers
      by x at (ByStart b k has) = (b, k, subst (λ (y : PlaceInfo). Has y.definers (Start b k)) (some-same (sym has.1 ∙ at)) has.2)
      by x at (InReset b inner condition kind parent rest) = absurd (no_reset f main inner condition kind)

  body_there : (choice : Choice) → choice.other ≡ true → 0 < body_count choice
  body_there choice e = subst (λ t. 0 < (if t then length choice.conds + 1 else length choice.conds)) (sym e) (omega arith)

  surely_given : (b : ℕ) → IsSurelyDefinedIn f p b → HasStart place.definers ⊎ HasOwn place.definers
  surely_given _ (ByPlain b k has) = inr (record { definer = Plain b k; has = here (Plain b k) has; own = tt })
  surely_given _ (ByDer b slope k resets has start) = inl (b, k, here (Start b k) start)
  surely_given _ (ByReset b inner condition kind parent rest) = absurd (no_reset f main inner condition kind)
  surely_given _ (ByChoice of choice at other each) =
      let body = (w.choices of choice at).bodies 0 (body_there choice other) in absurd (no_arm f main body.body of 0 body.is)
  surely_given _ (ByAutomaton of auto at each) = absurd (none_there (subst (λ (autos : List Auto). slice_get autos of ≡ Some auto) main.automata at))

  -- a place that is given has an `init`, or an equation or an input
  pub given_by : IsGiven f p place → HasStart place.definers ⊎ HasOwn place.definers
  given_by (AsInput n has) = inr (record { definer = Input n; has = has; own = tt })
  given_by (Anchored a) = inl (anchored_start place.block a)
  given_by (Surely s) = surely_given place.block s

  module _ (single : IsSingle f) (b slope : ℕ) (arms : List DerArm) (has : Has place.definers (Der b slope arms)) where
    -- beside a `der` there is neither
    pub der_alone : (d : Definer) → Has place.definers d → IsOwn d → ⊥
    der_alone d at own =
        no_apart f main _ _
        (single.definers p at.index has.index place d (Der b slope arms) is at.is has.is
        (λ e. let same : d ≡ Der b slope arms = some-same (sym at.is ∙ ap (λ n. slice_get place.definers n) e ∙ has.is) in subst (λ x. IsOwn x) same own)
        (own_no_start d own))

    pub der_no_plain : HasNoPlain place.definers
    der_no_plain c k at = der_alone (Plain c k) at tt

    -- so a `der` has an `init` beside it
    pub der_started : IsGiven f p place → HasStart place.definers
    der_started g = ⊎_elim (λ s. s) (λ (o : HasOwn place.definers). absurd (der_alone o.definer o.has o.own)) (given_by g)
