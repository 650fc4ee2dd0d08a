-- The wires of occurrences and places by the roots of their origins.
use Rattle.std.proofs.Common.{◌≡◌, ◌⊎◌, inl, inr, ℕ, zero, suc, ◌+◌, ◌-◌, ◌<◌, ◌≤◌, nat_lt, Bool, true, false, if◌then◌else◌, List, [], ◌∷◌, ◌++◌, length, slice_get, get_or, Option, Some, None, refl, sym, ap, subst, ◌∙◌, arith, length-append}
use Rattle.std.proofs.lemmas.Bool.{cases_lt, lt-ltb, le-ltb}
use Rattle.std.proofs.lemmas.Option.{slice_get_within, slice_get_past, get_or_from_slice_get}
use Rattle.zl_normal.specs.Table.{IsTable}
use Rattle.zl_normal.specs.Roots.{AreRoots}
use Rattle.zl_normal.specs.Joined.{IsFrom, AreJoined, link_of, own_number, number_by}
use Rattle.zl_normal.specs.declared.joined.Origin.{Origin}
use Rattle.zl_normal.specs.declared.joined.Origin.TheVariants.{Own, OfOcc, OfPlace}
use Rattle.zl_normal.proofs.AreTables.{past, table_entry}

in_left : {X : Type 0} (xs ys : List X) (i : ℕ) → i < length xs → slice_get (xs ++ ys) i ≡ slice_get xs i
in_left [] ys i l = absurd (omega (arith, l))
in_left (x ∷ xs) ys zero l = refl
in_left (x ∷ xs) ys (suc i) l = in_left xs ys i (omega (arith, l))

in_right : {X : Type 0} (xs ys : List X) (i j : ℕ) → i ≡ length xs + j → slice_get (xs ++ ys) i ≡ slice_get ys j
in_right [] ys i j e = ap (λ k. slice_get ys k) (omega (arith, e))
in_right (x ∷ xs) ys zero j e = absurd (omega (arith, e))
in_right (x ∷ xs) ys (suc i) j e = in_right xs ys i j (omega (arith, e))

pub in_both : {X : Type 0} (xs ys : List X) (i : ℕ) → (i < length xs → slice_get (xs ++ ys) i ≡ slice_get xs i) × (length xs ≤ i → slice_get (xs ++ ys) i ≡ slice_get ys (i - length xs))
in_both xs ys i = (in_left xs ys i, λ l. in_right xs ys i (i - length xs) (omega (arith, l)))

module _ (os ps : List Origin) (links : List (Option ℕ)) (roots occs places : List ℕ) (table : IsTable links (length os + length ps) (λ i. link_of (length os) (slice_get (os ++ ps) i))) (rooted : AreRoots links roots) (of_occs : IsTable occs (length os) (λ i. number_by (os ++ ps) roots (0 + i))) (of_places : IsTable places (length ps) (λ i. number_by (os ++ ps) roots (length os + i))) where
  abbrev number : ℕ → ℕ
  number i = number_by (os ++ ps) roots i

  link : (i : ℕ) (origin : Origin) → slice_get (os ++ ps) i ≡ Some origin → slice_get links i ≡ Some (link_of (length os) (Some origin))
  link i origin is = table.each i (subst (λ n. i < n) (length-append os ps) (slice_get_within (os ++ ps) i origin is)) ∙ ap (λ s. Some (link_of (length os) s)) is

  own : (i : ℕ) (origin : Origin) → slice_get (os ++ ps) i ≡ Some origin → link_of (length os) (Some origin) ≡ None → number i ≡ own_number (Some origin)
  own i origin is none =
      let root : get_or roots i i ≡ i = rooted.own i (link i origin is ∙ ap (λ (l : Option ℕ). Some l) none) in
      ap (λ k. own_number (slice_get (os ++ ps) k)) root ∙ ap own_number is

  same : (i t : ℕ) (origin : Origin) → slice_get (os ++ ps) i ≡ Some origin → link_of (length os) (Some origin) ≡ Some t → number i ≡ number t
  same i t origin is to = ap (λ k. own_number (slice_get (os ++ ps) k)) (rooted.same i t (link i origin is ∙ ap (λ (l : Option ℕ). Some l) to))

  occ_number : (j : ℕ) → j < length os → get_or occs j 0 ≡ number j
  occ_number j l = table_entry occs (length os) _ of_occs j 0 l ∙ ap number (from_none j)
    where
      from_none : (n : ℕ) → 0 + n ≡ n
      from_none n = omega arith

  no_occ : (j : ℕ) → length os ≤ j → get_or occs j 0 ≡ 0
  no_occ j l = past occs j 0 (slice_get_past occs j (omega (arith, of_occs.size, l)))

  no_number : (i : ℕ) → length os + length ps ≤ i → number i ≡ 0
  no_number i l =
      let root : get_or roots i i ≡ i = past roots i i (slice_get_past roots i (omega (arith, rooted.size, table.size, l))) in
      ap (λ k. own_number (slice_get (os ++ ps) k)) root ∙ ap own_number (slice_get_past (os ++ ps) i (omega (arith, length-append os ps, l)))

  place_number : (p : ℕ) → get_or places p 0 ≡ number (length os + p)
  place_number p = by_case (cases_lt p (length ps))
    where
      by_case : (p < length ps) ⊎ (length ps ≤ p) → get_or places p 0 ≡ number (length os + p)
      by_case (inl l) = table_entry places (length ps) _ of_places p 0 l
      by_case (inr l) = past places p 0 (slice_get_past places p (omega (arith, of_places.size, l))) ∙ sym (no_number (length os + p) (omega (arith, l)))

  from : (i : ℕ) (origin : Origin) → slice_get (os ++ ps) i ≡ Some origin → IsFrom occs places origin (number i)
  from i (Own w) is = own i (Own w) is refl
  from i (OfPlace p) is = same i (length os + p) (OfPlace p) is refl ∙ sym (place_number p)
  from i (OfOcc j) is = by_case (cases_lt j (length os))
    where
      by_case : (j < length os) ⊎ (length os ≤ j) → number i ≡ get_or occs j 0
      by_case (inl l) = same i j (OfOcc j) is (ap (λ b. if b then Some j else None) (lt-ltb j (length os) l)) ∙ sym (occ_number j l)
      by_case (inr l) = own i (OfOcc j) is (ap (λ b. if b then Some j else None) (le-ltb j (length os) l)) ∙ sym (no_occ j l)

  pub origins_join : AreJoined os ps occs places
  origins_join = record {
    of_occs = λ j origin is.
        let l : j < length os = slice_get_within os j origin is in
        subst (IsFrom occs places origin) (sym (occ_number j l)) (from j origin (in_left os ps j l ∙ is));
    of_places = λ p origin is. subst (IsFrom occs places origin) (sym (place_number p)) (from (length os + p) origin (in_right os ps (length os + p) p refl ∙ is));
  }
