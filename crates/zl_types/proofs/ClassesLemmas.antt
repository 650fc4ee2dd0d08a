-- Properties of classes of variables and occurrences.
use Rattle.std.proofs.Common.{◌≡◌, ◌≢◌, ◌⊎◌, inl, inr, true, false, eqb, ℕ, ◌<◌, ◌≤◌, List, Option, Some, None, length, get_or, set, refl, sym, ◌∙◌, ap, subst, arith, length-set}
use Rattle.std.proofs.lemmas.List.{get_or-set_same, get_or-set_other, get_or_read}
use Rattle.std.proofs.lemmas.Bool.Decides.{eqb_tells}
use Rattle.zl_value.specs.declared.value.Ty.{Ty}
use Rattle.zl_types.specs.declared.classes.Key.{Key}
use Rattle.zl_types.specs.Forest.{link, IsRoot, IsForest, AreTied, IsSameClass, IsRelinked}
use Rattle.zl_types.specs.Classes.{HaveKnown, AreKnownAtRoots, Learns, SuitsOf, IsSoundOf}
use Rattle.zl_types.proofs.ForestLemmas.{link-set, relinked_again}

-- What is known.

-- what is known of a node after one type is written
known-set : (P : Option Ty → Type 0) (known : List (Option Ty)) (node : ℕ) (to : Option Ty) (i : ℕ) → node < length known → (i ≡ node → P to)
    → ((i ≡ node → ⊥) → P (get_or known i None)) → P (get_or (set known node to) i None)
known-set P known node to i within here there =
    elim (eqb_tells i node) [
      | inl h ↦ subst P (sym (ap (λ j. get_or (set known node to) j None) h.1 ∙ get_or-set_same known node to None within)) (here h.1)
      | inr h ↦ subst P (sym (get_or-set_other known node i to None h.1)) (there h.1)
    ]

same_types : {t u : Ty} → Some t ≡ Some u → t ≡ u
same_types e = cc

pub learns_new : (known : List (Option Ty)) (node : ℕ) (ty : Ty) → node < length known → None ≡ get_or known node None → Learns node ty known (set known node (Some ty))
learns_new known node ty within none =
    record {
      nodes = length-set known node (Some ty);
      others = λ i t e ne. sym (get_or-set_other known node i (Some ty) None ne) ∙ e;
      to = λ type h is i t. known-set (λ o. o ≡ Some t → type i ≡ t) known node (Some ty) i within (λ e f. ap type e ∙ is ∙ same_types f) (λ _ f. h i t f);
      back = λ type h i t f. back_at type h i t f (eqb_tells i node);
      learned = λ type h. h node ty (get_or-set_same known node (Some ty) None within);
    }
  where
    back_at : (type : ℕ → Ty) → HaveKnown (set known node (Some ty)) type → (i : ℕ) (t : Ty) → get_or known i None ≡ Some t
        → ((eqb i node ≡ true) × (i ≡ node)) ⊎ ((eqb i node ≡ false) × (i ≢ node)) → type i ≡ t
    back_at type h i t f (inl e) = let clash : None ≡ Some t = none ∙ ap (λ j. get_or known j None) (sym e.1) ∙ f in absurd (cc)
    back_at type h i t f (inr e) = h i t (get_or-set_other known node i (Some ty) None e.1 ∙ f)

-- the type is known already
pub learns_same : (known : List (Option Ty)) (node : ℕ) (other ty : Ty) → Some other ≡ get_or known node None → other ≡ ty → Learns node ty known known
learns_same known node other ty is same =
    record {
      nodes = refl;
      others = λ i t e ne. e;
      to = λ type h _. h;
      back = λ type h. h;
      learned = λ type h. h node other (sym is) ∙ same;
    }

pub never_other : (known : List (Option Ty)) (node : ℕ) (other ty : Ty) → Some other ≡ get_or known node None → (other ≡ ty → ⊥)
    → (type : ℕ → Ty) → HaveKnown known type → type node ≡ ty → ⊥
never_other known node other ty is differ type h e = differ (sym (h node other (sym is)) ∙ e)

pub known-read : (known : List (Option Ty)) (node : ℕ) (read option : Option Ty) → node < length known → read ≡ get_or known node read → read ≡ option → option ≡ get_or known node None
known-read known node read option within is e = sym e ∙ get_or_read known node read within is None

-- Two classes made one.

-- what is known once nothing is known of one node
fewer : (known : List (Option Ty)) (node : ℕ) (type : ℕ → Ty) → node < length known → HaveKnown known type → HaveKnown (set known node None) type
fewer known node type within h i t = known-set (λ o. o ≡ Some t → type i ≡ t) known node None i within (λ _ e. absurd (cc)) (λ _. h i t)

all_but_one : (known : List (Option Ty)) (node : ℕ) (type : ℕ → Ty) → node < length known → HaveKnown (set known node None) type
    → ((t : Ty) → get_or known node None ≡ Some t → type node ≡ t) → HaveKnown known type
all_but_one known node type within h here i t e =
    elim (eqb_tells i node) [
      | inl f ↦ ap type f.1 ∙ here t (ap (λ j. get_or known j None) (sym f.1) ∙ e)
      | inr f ↦ h i t (get_or-set_other known node i None None f.1 ∙ e)
    ]

pub tied_to : (links : List ℕ) (older younger : ℕ) (type : ℕ → Ty) → younger < length links → AreTied links type → type older ≡ type younger
    → AreTied (set links younger older) type
tied_to links older younger type within tied same i = link-set (λ j. type i ≡ type j) links younger older i within (λ e. ap type e ∙ sym same) (λ _. tied i)

pub tied_same : (links : List ℕ) (older younger : ℕ) (type : ℕ → Ty) → younger < length links → AreTied (set links younger older) type → type older ≡ type younger
tied_same links older younger type within tied =
    sym (tied younger ∙ link-set (λ j. type j ≡ type older) links younger older younger within (λ _. refl) (λ n. absurd (n refl)))

pub tied_back : (links : List ℕ) (older younger : ℕ) (type : ℕ → Ty) → younger < length links → IsRoot links younger → AreTied (set links younger older) type → AreTied links type
tied_back links older younger type within root tied i =
    elim (eqb_tells i younger) [
      | inl e ↦ ap type (e.1 ∙ sym root ∙ ap (link links) (sym e.1))
      | inr e ↦ tied i ∙ link-set (λ j. type j ≡ type (link links i)) links younger older i within (λ f. absurd (e.1 f)) (λ _. refl)
    ]

roots_to : (links : List ℕ) (older younger i : ℕ) → younger < length links → IsRoot links i → (i ≡ younger → older ≡ younger) → IsRoot (set links younger older) i
roots_to links older younger i within root same = link-set (λ j. j ≡ i) links younger older i within (λ e. same e ∙ sym e) (λ _. root)

-- where the younger class is linked to the older, and what was known of it is forgotten
known_roots : (links : List ℕ) (known : List (Option Ty)) (older younger : ℕ) → younger < length links → younger < length known → AreKnownAtRoots links known
    → AreKnownAtRoots (set links younger older) (set known younger None)
known_roots links known older younger wl wk roots i t =
    known-set (λ o. o ≡ Some t → IsRoot (set links younger older) i) known younger None i wk (λ _ e. absurd (cc))
    (λ n e. roots_to links older younger i wl (roots i t e) (λ f. absurd (n f)))

-- the classes of two roots made one
pub record IsJoint (keys : List Key) (links : List ℕ) (known : List (Option Ty)) (older younger : ℕ) (now : List (Option Ty)) : Type 0 where
  pub sound : IsSoundOf keys (set links younger older) now
  pub to : (type : ℕ → Ty) → SuitsOf links known type → type older ≡ type younger → SuitsOf (set links younger older) now type
  pub back : (type : ℕ → Ty) → SuitsOf (set links younger older) now type → SuitsOf links known type

module _ (keys : List Key) (links : List ℕ) (known : List (Option Ty)) (older younger : ℕ) (sound : IsSoundOf keys links known)
    (root_older : IsRoot links older) (root_younger : IsRoot links younger) (order : older ≤ younger) (within : younger < length links) where
  pub within_known : younger < length known
  within_known = omega (arith, within, sound.linked, sound.typed)

  forest : IsForest (set links younger older)
  forest i = link-set (λ j. j ≤ i) links younger older i within (λ e. omega (arith, e, order)) (λ _. sound.forest i)

  -- nothing was known of the younger
  pub joint_unknown : None ≡ get_or known younger None → IsJoint keys links known older younger (set known younger None)
  joint_unknown none =
      record {
        sound = record {
          forest = forest;
          linked = length-set links younger older ∙ sound.linked;
          typed = length-set known younger None ∙ sound.typed;
          at_roots = known_roots links known older younger within within_known sound.at_roots;
          numbered = sound.numbered;
        };
        to = λ type s same. record { ties = tied_to links older younger type within s.ties same; types = fewer known younger type within_known s.types };
        back = λ type s. record {
          ties = tied_back links older younger type within root_younger s.ties;
          types = all_but_one known younger type within_known s.types (λ t e. let clash : None ≡ Some t = none ∙ e in absurd (cc));
        };
      }

  -- the younger had a type, and the older has it now
  pub joint_known : (t : Ty) (now : List (Option Ty)) → get_or known younger None ≡ Some t → Learns older t (set known younger None) now → IsJoint keys links known older younger now
  joint_known t now e learns =
      record {
        sound = record {
          forest = forest;
          linked = length-set links younger older ∙ sound.linked;
          typed = learns.nodes ∙ length-set known younger None ∙ sound.typed;
          at_roots = λ i u f. roots_at i u f (eqb_tells i older);
          numbered = sound.numbered;
        };
        to = λ type s same. record {
          ties = tied_to links older younger type within s.ties same;
          types = learns.to type (fewer known younger type within_known s.types) (same ∙ s.types younger t e);
        };
        back = λ type s. record {
          ties = tied_back links older younger type within root_younger s.ties;
          types = all_but_one known younger type within_known (learns.back type s.types)
              (λ u f. sym (tied_same links older younger type within s.ties) ∙ learns.learned type s.types ∙ same_types (sym e ∙ f));
        };
      }
    where
      roots_at : (i : ℕ) (u : Ty) → get_or now i None ≡ Some u → ((eqb i older ≡ true) × (i ≡ older)) ⊎ ((eqb i older ≡ false) × (i ≢ older)) → IsRoot (set links younger older) i
      roots_at i u f (inl h) = roots_to links older younger i within (ap (link links) h.1 ∙ root_older ∙ sym h.1) (λ g. sym h.1 ∙ g)
      roots_at i u f (inr h) = known_roots links known older younger within within_known sound.at_roots i u (learns.others i u f h.1)

  pub not_joint : (t : Ty) → get_or known younger None ≡ Some t → ((type : ℕ → Ty) → HaveKnown (set known younger None) type → type older ≡ t → ⊥)
      → (type : ℕ → Ty) → SuitsOf links known type → type older ≡ type younger → ⊥
  not_joint t e none type s same = none type (fewer known younger type within_known s.types) (same ∙ s.types younger t e)

-- Classes linked in another way.

pub sound_relinked : (keys : List Key) (links new : List ℕ) (known : List (Option Ty)) → IsSoundOf keys links known → IsRelinked links new → IsSoundOf keys new known
sound_relinked keys links new known sound r =
    record {
      forest = r.forest;
      linked = r.nodes ∙ sound.linked;
      typed = sound.typed;
      at_roots = λ i t e. r.roots i (sound.at_roots i t e);
      numbered = sound.numbered;
    }

pub suits_relinked : (links new : List ℕ) (known : List (Option Ty)) (type : ℕ → Ty) → IsRelinked links new → SuitsOf links known type → SuitsOf new known type
suits_relinked links new known type r s = record { ties = r.ties type s.ties; types = s.types }

pub suits_relinked_back : (links new : List ℕ) (known : List (Option Ty)) (type : ℕ → Ty) → IsRelinked links new → SuitsOf new known type → SuitsOf links known type
suits_relinked_back links new known type r s = record { ties = r.ties_back type s.ties; types = s.types }

-- A type learned at a root.

pub sound_learned : (keys : List Key) (links : List ℕ) (known now : List (Option Ty)) (root : ℕ) (ty : Ty) → IsSoundOf keys links known → IsRoot links root
    → Learns root ty known now → IsSoundOf keys links now
sound_learned keys links known now root ty sound is_root learns =
    record {
      forest = sound.forest;
      linked = sound.linked;
      typed = learns.nodes ∙ sound.typed;
      at_roots = λ i t e. elim (eqb_tells i root) [
        | inl h ↦ ap (link links) h.1 ∙ is_root ∙ sym h.1
        | inr h ↦ sound.at_roots i t (learns.others i t e h.1)
      ];
      numbered = sound.numbered;
    }

-- Two nodes whose roots are joined.

-- the links, written again, with the roots of two nodes
pub record AreRootsOf (links new : List ℕ) (i j root_i root_j : ℕ) : Type 0 where
  pub relinked : IsRelinked links new
  pub one : IsSameClass new i root_i
  pub other : IsSameClass new j root_j

pub roots_of : (links between new : List ℕ) (one other root_one root_other : ℕ) → IsRelinked links between → IsSameClass between one root_one → IsRelinked between new
    → IsSameClass new other root_other → AreRootsOf links new one other root_one root_other
roots_of links between new one other root_one root_other p is_one q is_other =
    record { relinked = relinked_again _ _ _ p q; one = λ type tied. is_one type (q.ties_back type tied); other = is_other }

module _ (links new : List ℕ) (known : List (Option Ty)) (one other root_one root_other : ℕ) (r : AreRootsOf links new one other root_one root_other) (type : ℕ → Ty) where
  pub same_roots : AreTied new type → type one ≡ type other → type root_one ≡ type root_other
  same_roots tied is = sym (r.one type tied) ∙ is ∙ r.other type tied

  pub same_nodes : AreTied new type → type root_one ≡ type root_other → type one ≡ type other
  same_nodes tied is = r.one type tied ∙ is ∙ sym (r.other type tied)

  pub suits_now : SuitsOf links known type → SuitsOf new known type
  suits_now s = record { ties = r.relinked.ties type s.ties; types = s.types }

  pub suits_before : SuitsOf new known type → SuitsOf links known type
  suits_before s = record { ties = r.relinked.ties_back type s.ties; types = s.types }
