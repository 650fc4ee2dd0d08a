-- Tables that are made one entry at a time, and chains that are all marked.
use Rattle.std.proofs.Common.{◌≡◌, ◌⊎◌, inl, inr, ℕ, zero, suc, ◌+◌, ◌<◌, ◌≤◌, List, [], ◌∷◌, ◌++◌, length, slice_get, get_or, Option, Some, None, refl, sym, ap, subst, ◌∙◌, arith, length-append}
use Rattle.std.proofs.lemmas.Bool.{cases_lt}
use Rattle.std.proofs.lemmas.Option.{slice_get_within, get_or_from_slice_get}
use Rattle.zl_normal.specs.Table.{IsTable}
use Rattle.zl_normal.specs.Roots.{root_by, root_of, HasEnd, Past, Found, AreChained, AreRoots}

stays : {X : Type 0} (xs : List X) (y x : X) (i : ℕ) → slice_get xs i ≡ Some x → slice_get (xs ++ y ∷ []) i ≡ Some x
stays [] y x i h = absurd (cc)
stays (z ∷ xs) y x zero h = h
stays (z ∷ xs) y x (suc i) h = stays xs y x i h

added : {X : Type 0} (xs : List X) (y : X) (i : ℕ) → i ≡ length xs → slice_get (xs ++ y ∷ []) i ≡ Some y
added [] y zero e = refl
added [] y (suc i) e = absurd (omega (arith, e))
added (z ∷ xs) y zero e = absurd (omega (arith, e))
added (z ∷ xs) y (suc i) e = added xs y i (omega (arith, e))

pub no_table : {X : Type 0} (g : ℕ → X) → IsTable [] 0 g
no_table g = record { size = refl; each = λ i l. absurd (omega (arith, l)) }

pub more_table : {X : Type 0} (xs : List X) (n : ℕ) (g : ℕ → X) (x : X) → IsTable xs n g → x ≡ g n → IsTable (xs ++ x ∷ []) (n + 1) g
more_table {X = X} xs n g x table e = record { size = length-append xs (x ∷ []) ∙ ap (λ k. k + 1) table.size; each = each }
  where
    by_case : (i : ℕ) → i < n + 1 → (i < n) ⊎ (n ≤ i) → slice_get (xs ++ x ∷ []) i ≡ Some (g i)
    by_case i l (inl g) = stays xs x _ i (table.each i g)
    by_case i l (inr h) =
        let same : i ≡ n = omega (arith, l, h) in
        added xs x i (same ∙ sym table.size) ∙ ap (λ (y : X). Some y) e ∙ ap (λ k. Some (g k)) (sym same)

    each : (i : ℕ) → i < n + 1 → slice_get (xs ++ x ∷ []) i ≡ Some (g i)
    each i l = by_case i l (cases_lt i n)

-- an entry by another default
pub table_entry : {X : Type 0} (xs : List X) (n : ℕ) (g : ℕ → X) → IsTable xs n g → (i : ℕ) (d : X) → i < n → get_or xs i d ≡ g i
table_entry xs n g table i d l = get_or_from_slice_get xs i (g i) d (table.each i l)

pub past : {X : Type 0} (xs : List X) (i : ℕ) (d : X) → slice_get xs i ≡ None → get_or xs i d ≡ d
past [] i d e = refl
past (x ∷ xs) zero d e = absurd (cc)
past (x ∷ xs) (suc i) d e = past xs i d e

-- where no entry is in a chain
pub none_chained : (links marks : List (Option ℕ)) → IsTable marks (length links) (λ i. None) → AreChained links marks []
none_chained links marks table = record { size = table.size; each = λ i c is. absurd (unmarked i c is); done = λ i l. absurd (omega (arith, l)) }
  where
    unmarked : (i c : ℕ) → slice_get marks i ≡ Some (Some c) → ⊥
    unmarked i c is =
        let within : i < length links = subst (λ n. i < n) table.size (slice_get_within marks i (Some c) is) in
        let bad : Some (Some c) ≡ Some None = sym is ∙ table.each i within in
        cc

-- where each entry is in a chain, the roots are those of the chains
pub chains_give_roots : (links marks : List (Option ℕ)) (ends roots : List ℕ) → length ends ≡ length links → AreChained links marks ends → IsTable roots (length marks) (root_of marks ends) → AreRoots links roots
chains_give_roots links marks ends roots all chained table = record { size = table.size ∙ chained.size; own = own; same = same }
  where
    -- what is no entry is its own root
    past_root : (i : ℕ) (o : Option ℕ) → slice_get roots i ≡ o → slice_get marks i ≡ None → get_or roots i i ≡ i
    past_root i None e none = past roots i i e
    past_root i (Some x) e none =
        let l : i < length marks = subst (λ n. i < n) table.size (slice_get_within roots i x e) in
        get_or_from_slice_get roots i (root_of marks ends i) i (table.each i l) ∙ ap (root_by ends i) none

    marked_root : (i c : ℕ) → slice_get marks i ≡ Some (Some c) → get_or roots i i ≡ get_or ends c 0
    marked_root i c is = get_or_from_slice_get roots i (root_of marks ends i) i (table.each i (slice_get_within marks i (Some c) is)) ∙ ap (root_by ends i) is

    own : (i : ℕ) → slice_get links i ≡ Some None → get_or roots i i ≡ i
    own i link =
        let mark = chained.done i (subst (λ n. i < n) (sym all) (slice_get_within links i None link)) in
        marked_root i mark.0 mark.1 ∙ (chained.each i mark.0 mark.1).1.own link

    same : (i t : ℕ) → slice_get links i ≡ Some (Some t) → get_or roots i i ≡ get_or roots t t
    same i t link =
        let mark = chained.done i (subst (λ n. i < n) (sym all) (slice_get_within links i (Some t) link)) in
        marked_root i mark.0 mark.1 ∙ by_end (get_or ends mark.0 0) ((chained.each i mark.0 mark.1).1.next t link)
      where
        by_end : (e : ℕ) → HasEnd marks ends t e → e ≡ get_or roots t t
        by_end e (Past none g) = sym (past_root t (slice_get roots t) refl none ∙ g)
        by_end e (Found c is l g) = sym (marked_root t c is ∙ g)
