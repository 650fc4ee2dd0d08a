-- How the bytes that calls wrote are joined.
use Rattle.std.proofs.Common.{ℕ, List, [], ◌∷◌, ◌++◌, append_assoc, subst, sym, ap, ◌∙◌, refl, inl, inr}
use Rattle.std.proofs.lemmas.List.{append-nil}
use Rattle.std.proofs.lemmas.List.Folds.{concat-append}
use Rattle.std.specs.List.{concat}
use Rattle.zl_outside.specs.Pieces.{StandsFor, IsFront, Grows, GrowsInPart}
use Rattle.zl_outside.specs.Writes.{Writes}

pub front_nothing : (bytes : List ℕ) → IsFront [] bytes
front_nothing bytes = (bytes, refl)

pub front_all : (bytes : List ℕ) → IsFront bytes bytes
front_all bytes = ([], sym (append-nil bytes))

-- a front of what follows, behind what was before
pub front_behind : (before front bytes : List ℕ) → IsFront front bytes → IsFront (before ++ front) (before ++ bytes)
front_behind before front bytes is =
    (is.0, ap (λ (more : List ℕ). before ++ more) is.1 ∙ sym (append_assoc before front is.0))

-- a front stays one where more follows
pub front_longer : (front bytes more : List ℕ) → IsFront front bytes → IsFront front (bytes ++ more)
front_longer front bytes more is =
    (is.0 ++ more, ap (λ (xs : List ℕ). xs ++ more) is.1 ∙ append_assoc front is.0 more)

-- no piece, no byte
pub writes_nothing : (before : StandsFor) (IsWritten : List ℕ → Type 0) → IsWritten [] → Writes before before IsWritten
writes_nothing before IsWritten none pieces was =
    ([], subst before (sym (append-nil pieces)) was, none)

-- a piece that was taken is written
pub writes_piece : (before now : StandsFor) (piece : List ℕ) (IsWritten : List ℕ → Type 0) → Grows before now piece → IsWritten piece → Writes before now IsWritten
writes_piece before now piece IsWritten grows written pieces was =
    (piece ∷ [], grows pieces was, subst IsWritten (sym (append-nil piece)) written)

-- of a piece that failed a front is written
pub writes_front : (before now : StandsFor) (piece : List ℕ) → GrowsInPart before now piece → Writes before now (λ bytes. IsFront bytes piece)
writes_front before now piece grows pieces was =
    elim (grows pieces was) [
      | inl same ↦ ([], subst now (sym (append-nil pieces)) same, (piece, refl))
      | inr more ↦ (more.0 ∷ [], more.2, subst (λ bytes. IsFront bytes piece) (sym (append-nil more.0)) more.1)
    ]

-- two calls in a row
pub writes_then : (before mid now : StandsFor) (First Second IsWritten : List ℕ → Type 0) → Writes before mid First → Writes mid now Second → ((xs ys : List ℕ) → First xs → Second ys → IsWritten (xs ++ ys)) → Writes before now IsWritten
writes_then before mid now First Second IsWritten first second joined pieces was =
    let one = first pieces was in
    let two = second (pieces ++ one.0) one.1 in (
      one.0 ++ two.0,
      subst now (append_assoc pieces one.0 two.0) two.1,
      subst IsWritten (sym (concat-append one.0 two.0)) (joined (concat one.0) (concat two.0) one.2 two.2),
    )

-- what was written, said in other words
pub writes_as : (before now : StandsFor) (First IsWritten : List ℕ → Type 0) → Writes before now First → ((bytes : List ℕ) → First bytes → IsWritten bytes) → Writes before now IsWritten
writes_as before now First IsWritten writes said pieces was =
    let one = writes pieces was in
    (one.0, one.1, said (concat one.0) one.2)
