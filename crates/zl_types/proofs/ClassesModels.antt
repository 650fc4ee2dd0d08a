-- Assignments that fit classes, and what equalities of types do to them.
use Rattle.std.proofs.Common.{◌≡◌, ◌≢◌, Bool, true, false, cond, eqb, ℕ, zero, suc, ◌<◌, ◌≤◌, List, Option, None, unwrap_or, length, get_or, refl, sym, ◌∙◌, ap, subst, arith}
use Rattle.std.proofs.lemmas.List.{get_or_read}
use Rattle.std.proofs.lemmas.Bool.{cond-true, cond-false, eq-eqb, eqb-true, eqb-false}
use Rattle.zl_value.specs.declared.position.Pos.{Pos}
use Rattle.zl_value.specs.declared.value.Ty.{Ty}
use Rattle.zl_ast.specs.declared.constraint.Equality.{Equality}
use Rattle.zl_ast.specs.Assignments.{Assignment, Meets}
use Rattle.zl_types.specs.declared.classes.Key.{Key}
use Rattle.zl_types.specs.declared.classes.Classes.{Classes}
use Rattle.zl_types.specs.Forest.{link, IsRoot, IsForest, AreTied, IsSameClass}
use Rattle.zl_types.specs.Classes.{SuitsOf, IsSoundOf, IsSound, Suits, Fits, types_in, number_of, place_at, Narrows, Excludes, Meeting, Clashes, IsTypeAt}
use Rattle.zl_types.proofs.ClassesNodes.{suits_agreeing}

-- Types for the nodes: that of the root, or one and the same where none is known.

module _ (links : List ℕ) (known : List (Option Ty)) (t : Ty) where
  -- the type of a node whose root is reached within so many links
  abbrev type_within : ℕ → ℕ → Ty
  type_within zero i = t
  type_within (suc n) i = cond (eqb (link links i) i) (unwrap_or (get_or known i None) t) (type_within n (link links i))

  abbrev pub type_of : ℕ → Ty
  type_of i = type_within (suc i) i

  enough : (m n i : ℕ) → IsForest links → i < m → i < n → type_within m i ≡ type_within n i
  enough zero n i forest lm ln = absurd (omega (arith, lm))
  enough (suc m) zero i forest lm ln = absurd (omega (arith, ln))
  enough (suc m) (suc n) i forest lm ln = enough_at (eqb (link links i) i) refl (λ differ. enough m n (link links i) forest (omega (arith, forest i, differ, lm)) (omega (arith, forest i, differ, ln)))
    where
      enough_at : (b : Bool) → eqb (link links i) i ≡ b → (link links i ≢ i → type_within m (link links i) ≡ type_within n (link links i))
          → cond b (unwrap_or (get_or known i None) t) (type_within m (link links i)) ≡ cond b (unwrap_or (get_or known i None) t) (type_within n (link links i))
      enough_at true e further = refl
      enough_at false e further = further (eqb-false (link links i) i e)

  at_root : (i : ℕ) → IsRoot links i → type_of i ≡ unwrap_or (get_or known i None) t
  at_root i root = cond-true _ _ _ (eq-eqb (link links i) i root)

  type_of-tied : IsForest links → AreTied links type_of
  type_of-tied forest i = tied_at (eqb (link links i) i) refl
    where
      tied_at : (b : Bool) → eqb (link links i) i ≡ b → type_of i ≡ type_of (link links i)
      tied_at true e = ap type_of (sym (eqb-true (link links i) i e))
      tied_at false e =
          let differ : link links i ≢ i = eqb-false (link links i) i e in
          cond-false _ _ _ e ∙ enough i (suc (link links i)) (link links i) forest (omega (arith, forest i, differ)) (omega arith)

  pub type_of-suits : (keys : List Key) → IsSoundOf keys links known → SuitsOf links known type_of
  type_of-suits keys sound =
      record { ties = type_of-tied sound.forest; types = λ i u e. at_root i (sound.at_roots i u e) ∙ ap (λ o. unwrap_or o t) e }

  pub type_of-unknown : (i : ℕ) → IsRoot links i → get_or known i None ≡ None → type_of i ≡ t
  type_of-unknown i root e = at_root i root ∙ ap (λ o. unwrap_or o t) e

-- the assignment of these types
abbrev pub assigned : Classes → Ty → Assignment
assigned c t p = type_of c.links.items c.known.items t (number_of c.keys.keys p)

pub assigned-type : (c : Classes) (t : Ty) → IsSound c → (i : ℕ) → i < length c.keys.keys → assigned c t (place_at c.keys.keys i) ≡ type_of c.links.items c.known.items t i
assigned-type c t sound i below = ap (type_of c.links.items c.known.items t) (sound.numbered i below)

pub assigned-fits : (c : Classes) (t : Ty) → IsSound c → Fits c (assigned c t)
assigned-fits c t sound =
    suits_agreeing c.links.items c.known.items sound.forest (sound.typed ∙ sym sound.linked) _ _
    (λ i below. sym (assigned-type c t sound i (omega (arith, below, sound.linked)))) (type_of-suits c.links.items c.known.items t c.keys.keys sound)

-- An equality.

fits_under : (old new : Classes) → new.keys.keys ≡ old.keys.keys → (a : Assignment) → Suits new (types_in old a) → Fits new a
fits_under old new e a s = subst (λ ks. SuitsOf new.links.items new.known.items (λ i. a (place_at ks i))) (sym e) s

fits_under_old : (old new : Classes) → new.keys.keys ≡ old.keys.keys → (a : Assignment) → Fits new a → Suits new (types_in old a)
fits_under_old old new e a s = subst (λ ks. SuitsOf new.links.items new.known.items (λ i. a (place_at ks i))) e s

-- an equality, and what it says of the types of nodes
module _ (e : Equality) (P : (ℕ → Ty) → Type 0) (old mid : Classes)
    (fits : (a : Assignment) → Fits old a → Fits mid a) (fits_back : (a : Assignment) → Fits mid a → Fits old a)
    (says : (a : Assignment) → Meets a e → P (types_in mid a)) where
  pub meeting : (new : Classes) → ((a : Assignment) → P (types_in mid a) → Meets a e) → Narrows P mid new → Meeting e old new
  meeting new said n =
      record {
        sound = n.sound;
        fits = λ a f m. fits_under mid new n.keys a (n.to (types_in mid a) (fits a f) (says a m));
        fits_back = λ a f. fits_back a (n.back (types_in mid a) (fits_under_old mid new n.keys a f));
        meets = λ a f. said a (n.property (types_in mid a) (fits_under_old mid new n.keys a f));
      }

  pub clashing : Excludes P mid → Clashes e old
  clashing none a f m = none (types_in mid a) (fits a f) (says a m)

-- The type of a place.

pub type_found : (place : Pos) (old new : Classes) (node root : ℕ) (found : Option Ty) → IsSound new → ((a : Assignment) → Fits old a → Fits new a)
    → ((a : Assignment) → Fits new a → Fits old a) → place_at new.keys.keys node ≡ place → node < length new.keys.keys → IsSameClass new.links.items node root
    → IsRoot new.links.items root → root ≤ node → found ≡ get_or new.known.items root found → IsTypeAt place old new found
type_found place old new node root found sound fits fits_back here within same is_root older read =
    let known : found ≡ get_or new.known.items root None = get_or_read new.known.items root found (omega (arith, older, within, sound.typed)) read None in
    record {
      sound = sound;
      fits = fits;
      fits_back = fits_back;
      closed = λ t e a s. ap a (sym here) ∙ same (types_in new a) s.ties ∙ s.types root t (sym known ∙ e);
      any = λ e t. record {
        assignment = assigned new t;
        fits = assigned-fits new t sound;
        is = ap (assigned new t) (sym here) ∙ assigned-type new t sound node within ∙ same _ (type_of-suits _ _ t _ sound).ties
            ∙ type_of-unknown new.links.items new.known.items t root is_root (sym known ∙ e);
      };
    }
