-- The bytes of a sink in memory, with one piece more.
use Rattle.std.proofs.Common.{◌≡◌, ℕ, List, [], ◌∷◌, ◌++◌, sym, ap, ◌∙◌}
use Rattle.std.proofs.lemmas.List.{append-nil}
use Rattle.std.proofs.lemmas.List.Folds.{concat-append}
use Rattle.std.specs.List.{concat}

pub concat_push : (pieces : List (List ℕ)) (piece : List ℕ) → concat (pieces ++ piece ∷ []) ≡ concat pieces ++ piece
concat_push pieces piece =
    concat-append pieces (piece ∷ []) ∙ ap (λ (bytes : List ℕ). concat pieces ++ bytes) (append-nil piece)

pub holds_pushed : (before now piece : List ℕ) → now ≡ before ++ piece → (pieces : List (List ℕ)) → before ≡ concat pieces → now ≡ concat (pieces ++ piece ∷ [])
holds_pushed before now piece added pieces was =
    added ∙ ap (λ (bytes : List ℕ). bytes ++ piece) was ∙ sym (concat_push pieces piece)

pub holds_empty : (before piece : List ℕ) → piece ≡ [] → (pieces : List (List ℕ)) → before ≡ concat pieces → before ≡ concat (pieces ++ piece ∷ [])
holds_empty before piece empty =
    holds_pushed before before piece (sym (ap (λ (bytes : List ℕ). before ++ bytes) empty ∙ append-nil before))
