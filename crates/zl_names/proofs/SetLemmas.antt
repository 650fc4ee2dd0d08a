-- Properties of lists of name numbers.
use Rattle.std.proofs.Common.{◌≡◌, ℕ, Bool, true, false, cond, List, [], ◌∷◌, ◌++◌, length, take, refl, sym, ◌∙◌, ap, append_assoc}
use Rattle.std.proofs.lemmas.List.{append-nil}
use Rattle.std.proofs.Math.Seq.{take-append_seam}
use Rattle.zl_ast.specs.Names.{among, with_id, with_ids}

-- more numbers go behind those that are there
record GrowsTo (ids all : List ℕ) : Type 0 where
  more : List ℕ
  is : all ≡ ids ++ more

with_id_grows : (ids : List ℕ) (id : ℕ) → GrowsTo ids (with_id ids id)
with_id_grows ids id = grows_at ids id (among ids id)
  where
    grows_at : (ids : List ℕ) (id : ℕ) (b : Bool) → GrowsTo ids (cond b ids (ids ++ id ∷ []))
    grows_at ids id true = record { more = []; is = sym (append-nil ids) }
    grows_at ids id false = record { more = id ∷ []; is = refl }

with_ids_grows : (ids xs : List ℕ) → GrowsTo ids (with_ids ids xs)
with_ids_grows ids [] = record { more = []; is = sym (append-nil ids) }
with_ids_grows ids (x ∷ xs) =
    let one = with_id_grows ids x in
    let rest = with_ids_grows (with_id ids x) xs in
    record { more = one.more ++ rest.more; is = rest.is ∙ ap (λ ys. ys ++ rest.more) one.is ∙ append_assoc ids one.more rest.more }

-- those that were there are the first ones
pub take-with_ids : (ids xs : List ℕ) → take (length ids) (with_ids ids xs) ≡ ids
take-with_ids ids xs = let grown = with_ids_grows ids xs in ap (take (length ids)) grown.is ∙ take-append_seam ids grown.more
