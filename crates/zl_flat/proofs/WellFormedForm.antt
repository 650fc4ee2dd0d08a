-- A flat form made of parts that keep what a flat form does, but for types.
use Rattle.std.proofs.Common.{◌≡◌, ℕ, zero, suc, ◌+◌, Bool, true, false, if◌then◌else◌, nat_eq, List, [], ◌∷◌, ◌++◌, length, slice_get, Some, refl, sym, subst, arith}
use Rattle.std.specs.List.{AllByRecursion}
use Rattle.zl_meaning.specs.FlatForm.{FlatForm}
use Rattle.zl_meaning.specs.declared.block.Block.{Block}
use Rattle.zl_meaning.specs.declared.block.Choice.{Choice}
use Rattle.zl_meaning.specs.declared.block.Auto.{Auto}
use Rattle.zl_meaning.specs.declared.place.Definer.{Definer}
use Rattle.zl_meaning.specs.declared.place.PlaceInfo.{PlaceInfo}
use Rattle.zl_meaning.specs.declared.occurrence.Occ.{Occ}
use Rattle.zl_meaning.specs.declared.occurrence.SiteInfo.{SiteInfo}
use Rattle.zl_flat.specs.declared.given.Given.{Given}
use Rattle.zl_flat.specs.Parts.{Parts, start}
use Rattle.zl_flat.specs.Expansion.{definers_of, with_definers, defined_places, form_of}
use Rattle.zl_flat.proofs.WellFormedParts.{AllFrom, from-append, all-stand}
use Rattle.zl_flat.proofs.WellFormedGround.{IsPlaceAt, OccurrenceStands, SiteStands, PlaceStands, ChoiceStands, AutomatonStands, DefinerStands, BlockStands, Sits, Keeps}

-- what a flat form keeps, but for types, heights and branches, and for what is to be there once only
pub record FormStands (f : FlatForm) : Type 0 where
  pub blocks : (b : ℕ) (block : Block) → slice_get f.blocks b ≡ Some block → BlockStands f b block.parent block.kind
  pub choices : (n : ℕ) (choice : Choice) → slice_get f.choices n ≡ Some choice → ChoiceStands f n choice
  pub automata : (n : ℕ) (auto : Auto) → slice_get f.automata n ≡ Some auto → AutomatonStands f n auto
  pub places : (p : ℕ) (place : PlaceInfo) → slice_get f.places p ≡ Some place → PlaceStands f place
  pub definers : (p : ℕ) (place : PlaceInfo) → slice_get f.places p ≡ Some place → AllByRecursion (DefinerStands f) place.definers
  pub occs : (k : ℕ) (occ : Occ) → slice_get f.occs k ≡ Some occ → OccurrenceStands f occ
  pub sites : (s : ℕ) (site : SiteInfo) → slice_get f.sites s ≡ Some site → SiteStands f site

-- ---- lists

pub from-get : {X : Type 0} (P : ℕ → X → Type 0) (n : ℕ) (xs : List X) → AllFrom P n xs → (k : ℕ) (x : X) → slice_get xs k ≡ Some x → P (n + k) x
from-get P n [] h k x is = absurd (cc)
from-get {X = X} P n (y ∷ ys) h zero x is = subst (λ m. P m x) (no_more n) (subst (P n) (same_some y x is) h.0)
  where
    no_more : (n : ℕ) → n ≡ n + 0
    no_more n = omega arith

    same_some : (y x : X) → Some y ≡ Some x → y ≡ x
    same_some y x e = cc
from-get P n (y ∷ ys) h (suc k) x is = subst (λ m. P m x) (one_more n k) (from-get P (n + 1) ys h.1 k x is)
  where
    one_more : (n k : ℕ) → n + 1 + k ≡ n + suc k
    one_more n k = omega arith

from-zero : {X : Type 0} (P : ℕ → X → Type 0) (xs : List X) → AllFrom P 0 xs → (k : ℕ) (x : X) → slice_get xs k ≡ Some x → P k x
from-zero P xs h k x is = subst (λ m. P m x) (none_more k) (from-get P 0 xs h k x is)
  where
    none_more : (k : ℕ) → 0 + k ≡ k
    none_more k = omega arith

from-shift : {X : Type 0} (P : ℕ → X → Type 0) (m n : ℕ) (xs : List X) → AllFrom P (m + n) xs → AllFrom (λ j x. P (m + j) x) n xs
from-shift P m n [] h = tt
from-shift P m n (x ∷ xs) h = (h.0, from-shift P m (n + 1) xs (subst (λ j. AllFrom P j xs) (one_more m n) h.1))
  where
    one_more : (m n : ℕ) → m + n + 1 ≡ m + (n + 1)
    one_more m n = omega arith

from-any : {X : Type 0} (P : X → Type 0) (n m : ℕ) (xs : List X) → AllFrom (λ j x. P x) n xs → AllFrom (λ j x. P x) m xs
from-any P n m [] h = tt
from-any P n m (x ∷ xs) h = (h.0, from-any P (n + 1) (m + 1) xs h.1)

-- ---- places

place-at : (f : FlatForm) (n : ℕ) (x : PlaceInfo) (ds : List Definer) → slice_get f.places n ≡ Some (with_definers x ds) → IsPlaceAt f n x
place-at f n x ds is = record { place = with_definers x ds; is = is; block = refl; call = refl; typed = refl; named = refl }

places-sit : (f : FlatForm) (gs : List Given) (n : ℕ) (xs : List PlaceInfo) → AllFrom (λ m x. slice_get f.places m ≡ Some x) n (defined_places gs n xs) → AllFrom (λ m x. IsPlaceAt f m x) n xs
places-sit f gs n [] h = tt
places-sit f gs n (x ∷ xs) h = (place-at f n x (definers_of n gs) h.0, places-sit f gs (n + 1) xs h.1)

definers-stand : (f : FlatForm) (p : ℕ) (gs : List Given) → AllByRecursion (λ (g : Given). DefinerStands f g.definer) gs → AllByRecursion (DefinerStands f) (definers_of p gs)
definers-stand f p [] h = tt
definers-stand f p (g ∷ gs) h = one (nat_eq g.place p) (definers-stand f p gs h.1)
  where
    one : (b : Bool) → AllByRecursion (DefinerStands f) (definers_of p gs) → AllByRecursion (DefinerStands f) (if b then g.definer ∷ definers_of p gs else definers_of p gs)
    one true k = (h.0, k)
    one false k = k

places-stand : (f : FlatForm) (gs : List Given) (n : ℕ) (xs : List PlaceInfo) → AllByRecursion (λ (g : Given). DefinerStands f g.definer) gs → AllFrom (λ m x. PlaceStands f x) n xs →
    AllFrom (λ m (x : PlaceInfo). PlaceStands f x × AllByRecursion (DefinerStands f) x.definers) n (defined_places gs n xs)
places-stand f gs n [] h k = tt
places-stand f gs n (x ∷ xs) h k = let a = k.0 in ((record { block = a.block; call = a.call }, definers-stand f n gs h), places-stand f gs (n + 1) xs h k.1)

-- ---- the form

module _ (p : Parts) (ins outs : List ℕ) where
  -- the parts are the entries of the form
  pub parts-sit : (base : ℕ) → base ≡ length p.occs → Sits (form_of p ins outs) base start p
  parts-sit base e =
      let f = form_of p ins outs in
      record {
        blocks = all-stand [] p.blocks;
        places = places-sit f p.definers 0 p.places (all-stand [] (defined_places p.definers 0 p.places));
        definers = no_law p.definers;
        occs = in_front p.occs p.hidden;
        hidden = subst (λ b. AllFrom (λ n x. slice_get f.occs (b + n) ≡ Some x) 0 p.hidden) (sym e)
            (from-shift (λ n x. slice_get f.occs n ≡ Some x) (length p.occs) 0 p.hidden
            (subst (λ m. AllFrom (λ n x. slice_get f.occs n ≡ Some x) m p.hidden) (more_none (length p.occs)) (all-stand p.occs p.hidden)));
        sites = all-stand [] p.sites;
        choices = all-stand [] p.choices;
        automata = all-stand [] p.automata;
      }
    where
      no_law : (gs : List Given) → AllByRecursion (λ (g : Given). Unit {0}) gs
      no_law [] = tt
      no_law (g ∷ gs) = (tt, no_law gs)

      more_none : (n : ℕ) → n ≡ n + 0
      more_none n = omega arith

      weaken : (ys : List Occ) (n : ℕ) (xs : List Occ) (zs : List Occ) → AllFrom (λ m x. slice_get zs m ≡ Some x) n xs → AllFrom (λ m x. slice_get (zs ++ ys) m ≡ Some x) n xs
      weaken ys n [] zs h = tt
      weaken ys n (x ∷ xs) zs h = (in_longer zs ys n x h.0, weaken ys (n + 1) xs zs h.1)
        where
          in_longer : (zs ys : List Occ) (m : ℕ) (x : Occ) → slice_get zs m ≡ Some x → slice_get (zs ++ ys) m ≡ Some x
          in_longer [] ys m x h = absurd (cc)
          in_longer (z ∷ zs) ys zero x h = h
          in_longer (z ∷ zs) ys (suc m) x h = in_longer zs ys m x h

      in_front : (xs ys : List Occ) → AllFrom (λ n x. slice_get (xs ++ ys) n ≡ Some x) 0 xs
      in_front xs ys = weaken ys 0 xs xs (all-stand [] xs)

  pub form-stands : Keeps (form_of p ins outs) start p → FormStands (form_of p ins outs)
  form-stands h =
      let f = form_of p ins outs in
      let places = places-stand f p.definers 0 p.places h.definers h.places in
      record {
        blocks = λ b x is. from-zero (λ n (y : Block). BlockStands f n y.parent y.kind) p.blocks h.blocks b x is;
        choices = λ n x is. from-zero (λ m (y : Choice). ChoiceStands f m y) p.choices h.choices n x is;
        automata = λ n x is. from-zero (λ m (y : Auto). AutomatonStands f m y) p.automata h.automata n x is;
        places = λ n x is. (from-zero (λ m (y : PlaceInfo). PlaceStands f y × AllByRecursion (DefinerStands f) y.definers) f.places places n x is).0;
        definers = λ n x is. (from-zero (λ m (y : PlaceInfo). PlaceStands f y × AllByRecursion (DefinerStands f) y.definers) f.places places n x is).1;
        occs = λ n x is. from-zero (λ m (y : Occ). OccurrenceStands f y) (p.occs ++ p.hidden)
            (from-append (λ m (y : Occ). OccurrenceStands f y) 0 p.occs p.hidden h.occs (from-any (OccurrenceStands f) 0 (0 + length p.occs) p.hidden h.hidden)) n x is;
        sites = λ n x is. from-zero (λ m (y : SiteInfo). SiteStands f y) p.sites h.sites n x is;
      }
