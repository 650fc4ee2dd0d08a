-- In the flat form of a program no two definers of one place are ever active together, if both start it, or both don't.
use Rattle.std.proofs.Common.{◌≡◌, ℕ, zero, suc, ◌+◌, Bool, true, false, if◌then◌else◌, nat_eq, List, [], ◌∷◌, length, slice_get, Some, refl, sym, ap, subst, ◌∙◌, arith}
use Rattle.std.specs.List.{AllByRecursion}
use Rattle.std.proofs.lemmas.Bool.{eqb-true}
use Rattle.zl_value.specs.Lists.{listed}
use Rattle.zl_meaning.specs.FlatForm.{FlatForm}
use Rattle.zl_meaning.specs.Single.{IsSingle, IsOneUse, AreBodies, OfChoice, OfAutomaton, AreApart, definer_block, is_start}
use Rattle.zl_meaning.specs.Uses.{uses_of}
use Rattle.zl_meaning.specs.declared.block.BlockKind.{BlockKind}
use Rattle.zl_meaning.specs.declared.occurrence.Occ.{Occ}
use Rattle.zl_meaning.specs.declared.place.Definer.{Definer}
use Rattle.zl_meaning.specs.declared.place.PlaceInfo.{PlaceInfo}
use Rattle.zl_flat.specs.declared.given.Given.{Given}
use Rattle.zl_flat.specs.Expansion.{found, with_callees, variables_from, main_parts, definers_of, defined_places, form_of, result_places, MainOf, sizes_of, main_size, main_form}
use Rattle.zl_ast.specs.NamesRules.{built_in}
use Rattle.zl_flat.proofs.WellFormedParts.{AllFrom}
use Rattle.zl_flat.proofs.WellFormedForm.{parts-sit, from-get}
use Rattle.zl_flat.proofs.WellFormedDecls.{known_after, IsMainKept}
use Rattle.zl_flat.proofs.DefinersSpread.{Clear, Spaced}
use Rattle.zl_flat.proofs.DefinersDecls.{callees-define, main-defines}
use Rattle.zl_flat.proofs.DefinersCalled.{main-called}

-- ---- the definers of one place

-- if both start their place, or both don't, they are never active together
abbrev pub KeepApart : FlatForm → Definer → Definer → Type 0
KeepApart f a b = is_start a ≡ is_start b → AreApart f (definer_block a) (definer_block b)

-- each is apart from those behind it
abbrev pub AllApart : FlatForm → List Definer → Type 0
AllApart f [] = Unit {0}
AllApart f (a ∷ ds) = AllByRecursion (KeepApart f a) ds × AllApart f ds

-- of definers that are clear of one of a place, those of the place are apart from it
others-apart : (f : FlatForm) (p : ℕ) (g : Given) (gs : List Given) → g.place ≡ p → AllByRecursion (Clear f g) gs → AllByRecursion (KeepApart f g.definer) (definers_of p gs)
others-apart f p g [] e h = tt
others-apart f p g (k ∷ gs) e h = by_place (nat_eq k.place p) refl (others-apart f p g gs e h.1)
  where
    by_place : (b : Bool) → nat_eq k.place p ≡ b → AllByRecursion (KeepApart f g.definer) (definers_of p gs) → AllByRecursion (KeepApart f g.definer) (if b then k.definer ∷ definers_of p gs else definers_of p gs)
    by_place true is more = (h.0 (e ∙ sym (eqb-true k.place p is)), more)
    by_place false is more = more

-- the definers of one place are apart
place-apart : (f : FlatForm) (p : ℕ) (gs : List Given) → Spaced f gs → AllApart f (definers_of p gs)
place-apart f p [] h = tt
place-apart f p (g ∷ gs) h = by_place (nat_eq g.place p) refl (place-apart f p gs h.1)
  where
    by_place : (b : Bool) → nat_eq g.place p ≡ b → AllApart f (definers_of p gs) → AllApart f (if b then g.definer ∷ definers_of p gs else definers_of p gs)
    by_place true is more = (others-apart f p g gs (eqb-true g.place p is) h.0, more)
    by_place false is more = more

-- the other way round
bodies-turned : (k l : BlockKind) → AreBodies k l → AreBodies l k
bodies-turned _ _ (OfChoice of m n h) = OfChoice of n m (λ e. h (sym e))
bodies-turned _ _ (OfAutomaton of m n h) = OfAutomaton of n m (λ e. h (sym e))

apart-turned : (f : FlatForm) (a b : ℕ) → AreApart f a b → AreApart f b a
apart-turned f a b h = record {
  left = h.right;
  right = h.left;
  left_kind = h.right_kind;
  right_kind = h.left_kind;
  left_is = h.right_is;
  right_is = h.left_is;
  bodies = bodies-turned h.left_kind h.right_kind h.bodies;
  left_holds = h.right_holds;
  right_holds = h.left_holds;
}

same-definer : (a b : Definer) → Some a ≡ Some b → a ≡ b
same-definer a b e = cc

-- what holds of all holds of one
one-of : (P : Definer → Type 0) (ds : List Definer) (n : ℕ) (d : Definer) → AllByRecursion P ds → slice_get ds n ≡ Some d → P d
one-of P [] n d h is = absurd (cc)
one-of P (x ∷ ds) zero d h is = subst P (same-definer x d is) h.0
one-of P (x ∷ ds) (suc n) d h is = one-of P ds n d h.1 is

-- of definers that are apart any two are
two-apart : (f : FlatForm) (ds : List Definer) → AllApart f ds → (m n : ℕ) (a b : Definer) → slice_get ds m ≡ Some a → slice_get ds n ≡ Some b → (m ≡ n → ⊥) → is_start a ≡ is_start b → AreApart f (definer_block a) (definer_block b)
two-apart f [] h m n a b is js differ e = absurd (cc)
two-apart f (x ∷ ds) h zero zero a b is js differ e = absurd (differ refl)
two-apart f (x ∷ ds) h zero (suc n) a b is js differ e = subst (λ y. KeepApart f y b) (same-definer x a is) (one-of (KeepApart f x) ds n b h.0 js) e
two-apart f (x ∷ ds) h (suc m) zero a b is js differ e = apart-turned f (definer_block b) (definer_block a) (subst (λ y. KeepApart f y a) (same-definer x b js) (one-of (KeepApart f x) ds m a h.0 is) (sym e))
two-apart f (x ∷ ds) h (suc m) (suc n) a b is js differ e = two-apart f ds h.1 m n a b is js (λ same. differ (ap suc same)) e

-- a place has the definers that were given to it
places-defined : (gs : List Given) (n : ℕ) (xs : List PlaceInfo) → AllFrom (λ m (x : PlaceInfo). x.definers ≡ definers_of m gs) n (defined_places gs n xs)
places-defined gs n [] = tt
places-defined gs n (x ∷ xs) = (refl, places-defined gs (n + 1) xs)

-- ---- main

-- every two definers of one place that are both `init`, or both not, are never active together
pub main-definers : (names : List (List ℕ)) (m : MainOf) → IsMainKept names m →
    (p i j : ℕ) (place : PlaceInfo) (a b : Definer) → slice_get (main_form names m).places p ≡ Some place → slice_get place.definers i ≡ Some a → slice_get place.definers j ≡ Some b → (i ≡ j → ⊥) → is_start a ≡ is_start b →
    AreApart (main_form names m) (definer_block a) (definer_block b)
unfolding main_form
main-definers names m h p i j place a b is ia jb differ starts =
    let base = (main_size m).occs in
    let cs = with_callees base names [] [] m.before in
    let parts = main_parts base names (found cs) (sizes_of m) m.main in
    let ins = listed (length m.main.decl.params) 0 (λ n. n) in
    let outs = result_places (variables_from (sizes_of m) m.main 0) m.main.decl.results in
    let f = form_of parts ins outs in
    let called = main-called f names m h in
    let callees = callees-define f base names [] [] (built_in names) m.before tt h.counted h.before called.before in
    let spread = main-defines f base names cs (sizes_of m) m.main (known_after (built_in names) m.before) h.counted_main callees h.main called.main tt (parts-sit parts ins outs base h.hidden_behind) in
    let all = place-apart f p parts.definers spread.spaced in
    let e = from-get (λ n (x : PlaceInfo). x.definers ≡ definers_of n parts.definers) 0 f.places (places-defined parts.definers 0 parts.places) p place is in
    two-apart f place.definers (subst (AllApart f) (sym (subst (λ n. place.definers ≡ definers_of n parts.definers) (none_more p) e)) all) i j a b ia jb differ starts
  where
    none_more : (n : ℕ) → 0 + n ≡ n
    none_more n = omega arith

-- the form of `main` is single, if no occurrence of it is shared
pub main-single : (names : List (List ℕ)) (m : MainOf) → IsMainKept names m → ((k : ℕ) (occ : Occ) → slice_get (main_form names m).occs k ≡ Some occ → IsOneUse (main_form names m) k (uses_of (main_form names m) k)) → IsSingle (main_form names m)
main-single names m h uses = record { definers = main-definers names m h; uses = uses }
