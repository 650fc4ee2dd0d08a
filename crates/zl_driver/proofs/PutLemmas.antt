-- Lines that are put one by one.
use Rattle.std.proofs.Common.{◌≡◌, ℕ, ◌+◌, ◌<◌, List, [], ◌∷◌, ◌++◌, length, take, drop, get_or, suc, append_assoc, subst, sym, ap, ◌∙◌, refl}
use Rattle.std.proofs.lemmas.List.{append-nil, take-append-drop}
use Rattle.std.proofs.lemmas.List.Folds.{concat-append}
use Rattle.std.proofs.Math.Seq.{drop-cons, take-suc}
use Rattle.std.specs.List.{concat}
use Rattle.zl_outside.specs.Pieces.{StandsFor, IsFront, Grows, GrowsInPart}
use Rattle.zl_outside.specs.Writes.{Writes}
use Rattle.zl_outside.proofs.WriteLemmas.{writes_front, writes_then, front_behind, front_longer}
use Rattle.zl_driver.specs.Puts.{GrowsBy}

-- the lines before `i` are put
pub record ArePut (before mid : StandsFor) (faults_before faults_mid : ℕ) (lines : List (List ℕ)) (i : ℕ) : Type 0 where
  pub grown : GrowsBy before mid (take i lines)
  pub kept : faults_mid ≡ faults_before

pub grows_nothing : (before : StandsFor) → GrowsBy before before []
grows_nothing before pieces was = subst before (sym (append-nil pieces)) was

pub grows_more : (before mid now : StandsFor) (xs : List (List ℕ)) (x : List ℕ) → GrowsBy before mid xs → Grows mid now x → GrowsBy before now (xs ++ x ∷ [])
grows_more before mid now xs x first then pieces was =
    subst now (append_assoc pieces xs (x ∷ [])) (then (pieces ++ xs) (first pieces was))

pub writes_grown : (before now : StandsFor) (xs : List (List ℕ)) → GrowsBy before now xs → Writes before now (λ bytes. bytes ≡ concat xs)
writes_grown before now xs grows pieces was = (xs, grows pieces was, refl)

-- the lines are those before one, that line, and those behind it
pub concat-split : (lines : List (List ℕ)) (i : ℕ) (x : List ℕ) → i < length lines → x ≡ get_or lines i x
    → concat lines ≡ concat (take i lines) ++ (x ++ concat (drop (suc i) lines))
concat-split lines i x below is =
    ap concat (sym (take-append-drop i lines))
    ∙ (concat-append (take i lines) (drop i lines)
    ∙ ap (λ (bytes : List ℕ). concat (take i lines) ++ bytes)
    (ap concat (drop-cons lines i x below) ∙ ap (λ (bytes : List ℕ). bytes ++ concat (drop (suc i) lines)) (sym is)))

-- a put failed after the lines before it
pub writes_cut : (before mid now : StandsFor) (lines : List (List ℕ)) (i : ℕ) (x : List ℕ) → i < length lines → x ≡ get_or lines i x
    → GrowsBy before mid (take i lines) → GrowsInPart mid now x → Writes before now (λ bytes. IsFront bytes (concat lines))
writes_cut before mid now lines i x below is grown part =
    writes_then before mid now (λ bytes. bytes ≡ concat (take i lines)) (λ bytes. IsFront bytes x) (λ bytes. IsFront bytes (concat lines))
    (writes_grown before mid (take i lines) grown) (writes_front mid now x part) joined
  where
    joined : (xs ys : List ℕ) → xs ≡ concat (take i lines) → IsFront ys x → IsFront (xs ++ ys) (concat lines)
    joined xs ys e front =
        subst (λ (bytes : List ℕ). IsFront (bytes ++ ys) (concat lines)) (sym e)
        (subst (λ (whole : List ℕ). IsFront (concat (take i lines) ++ ys) whole) (sym (concat-split lines i x below is))
        (front_behind (concat (take i lines)) ys (x ++ concat (drop (suc i) lines)) (front_longer ys x (concat (drop (suc i) lines)) front)))
