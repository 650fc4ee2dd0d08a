-- What reaching further occurrences changes.
use Rattle.std.proofs.Common.{◌≡◌, ◌⊎◌, inl, inr, ℕ, zero, suc, ◌<◌, Bool, true, false, List, [], ◌∷◌, ◌++◌, length, set, slice_get, Option, Some, None, refl, sym, ap, ◌∙◌, subst, arith, length-set, length-append, append_assoc}
use Rattle.std.proofs.lemmas.Option.{slice_get_within}
use Rattle.std.proofs.lemmas.Bool.Decides.{eqb_tells}
use Rattle.zl_value.specs.Lists.{Has}
use Rattle.zl_meaning.proofs.Members.{has-left, has-right, has-none, has-cases, all-has, all-append, all-map, each-has}
use Rattle.zl_grade.specs.Reached.{Reach, with_mark, with_one, with_all, unreached, IsListed}

get-set_same : (marks : List Bool) (k : ℕ) → k < length marks → slice_get (set marks k true) k ≡ Some true
get-set_same [] k low = absurd (omega arith)
get-set_same (mark ∷ marks) zero low = refl
get-set_same (mark ∷ marks) (suc k) low = get-set_same marks k (omega arith)

get-set_other : (marks : List Bool) (k j : ℕ) → (j ≡ k → ⊥) → slice_get (set marks k true) j ≡ slice_get marks j
get-set_other [] k j apart = refl
get-set_other (mark ∷ marks) zero zero apart = absurd (apart refl)
get-set_other (mark ∷ marks) zero (suc j) apart = refl
get-set_other (mark ∷ marks) (suc k) zero apart = refl
get-set_other (mark ∷ marks) (suc k) (suc j) apart = get-set_other marks k j (λ e. apart (ap suc e))

-- one fewer isn't reached
unreached-set : (marks : List Bool) (k : ℕ) → slice_get marks k ≡ Some false → suc (unreached (set marks k true)) ≡ unreached marks
unreached-set [] k e = absurd (cc)
unreached-set (true ∷ marks) zero e = absurd (cc)
unreached-set (false ∷ marks) zero e = refl
unreached-set (true ∷ marks) (suc k) e = unreached-set marks k e
unreached-set (false ∷ marks) (suc k) e = ap suc (unreached-set marks k e)

-- none is reached
pub unreached-all : (marks : List Bool) → ((k : ℕ) → slice_get marks k ≡ Some true → ⊥) → unreached marks ≡ length marks
unreached-all [] none = refl
unreached-all (true ∷ marks) none = absurd (none 0 refl)
unreached-all (false ∷ marks) none = ap suc (unreached-all marks (λ k e. none (suc k) e))

-- these were reached too
pub record Adds (old : Reach) (ks : List ℕ) (new : Reach) : Type 0 where
  pub size : length new.marks ≡ length old.marks
  pub kept : (k : ℕ) → slice_get old.marks k ≡ Some true → slice_get new.marks k ≡ Some true
  pub was : (k : ℕ) → slice_get new.marks k ≡ Some false → slice_get old.marks k ≡ Some false
  pub met : (k : ℕ) → Has ks k → slice_get new.marks k ≡ Some false → ⊥
  pub from : (k : ℕ) → slice_get new.marks k ≡ Some true → (slice_get old.marks k ≡ Some true) ⊎ Has ks k
  pub order : (more : List ℕ) × (new.order ≡ old.order ++ more)
  pub listed : IsListed old → IsListed new

-- none
adds_none : (r : Reach) → Adds r [] r
adds_none r = record {
  size = refl;
  kept = λ k e. e;
  was = λ k e. e;
  met = λ k h. absurd (has-none k h);
  from = λ k e. inl e;
  order = ([], sym (append_nil r.order));
  listed = λ h. h;
}
  where
    append_nil : (xs : List ℕ) → xs ++ [] ≡ xs
    append_nil [] = refl
    append_nil (x ∷ xs) = ap (λ ys. x ∷ ys) (append_nil xs)

-- one that has no mark, or is marked
adds_nothing : (r : Reach) (k : ℕ) → (slice_get r.marks k ≡ Some false → ⊥) → Adds r (k ∷ []) r
adds_nothing r k marked = let h = adds_none r in record {
  size = refl;
  kept = h.kept;
  was = h.was;
  met = λ j has e. has-cases ⊥ k [] j has (λ same. marked (subst (λ x. slice_get r.marks x ≡ Some false) (sym same) e)) (λ g. has-none j g);
  from = λ j e. inl e;
  order = h.order;
  listed = h.listed;
}

-- one that isn't marked
module _ (r : Reach) (k : ℕ) (new : slice_get r.marks k ≡ Some false) where
  low : k < length r.marks
  low = slice_get_within r.marks k false new

  here : slice_get (set r.marks k true) k ≡ Some true
  here = get-set_same r.marks k low

  -- each mark is the new one, or an old one
  by_number : (P : ℕ → Type 0) (j : ℕ) → P k → ((j ≡ k → ⊥) → P j) → P j
  by_number P j at other = elim (eqb_tells j k) [ inl h ↦ subst P (sym h.1) at | inr h ↦ other h.1 ]

  abbrev IsMarked : ℕ → Type 0
  IsMarked j = slice_get (set r.marks k true) j ≡ Some true

  adds_new : Adds r (k ∷ []) (with_mark r k (Some false))
  adds_new = record {
    size = length-set r.marks k true;
    kept = λ j. by_number (λ j. slice_get r.marks j ≡ Some true → slice_get (set r.marks k true) j ≡ Some true) j (λ e. here) (λ apart e. get-set_other r.marks k j apart ∙ e);
    was = λ j. by_number (λ j. slice_get (set r.marks k true) j ≡ Some false → slice_get r.marks j ≡ Some false) j (λ e. new) (λ apart e. sym (get-set_other r.marks k j apart) ∙ e);
    met = λ j has e. has-cases ⊥ k [] j has (λ same. let there : slice_get (set r.marks k true) k ≡ Some false = subst (λ x. slice_get (set r.marks k true) x ≡ Some false) (sym same) e in cc here) (λ g. has-none j g);
    from = λ j. by_number (λ j. slice_get (set r.marks k true) j ≡ Some true → (slice_get r.marks j ≡ Some true) ⊎ Has (k ∷ []) j) j
        (λ e. inr (record { index = 0; is = refl })) (λ apart e. inl (sym (get-set_other r.marks k j apart) ∙ e));
    order = (k ∷ [], refl);
    listed = listed_after;
  }
    where
      behind : Has (r.order ++ k ∷ []) k
      behind = has-right r.order (k ∷ []) k (record { index = 0; is = refl })

      kept_marked : IsListed r → (j : ℕ) → Has r.order j → IsMarked j
      kept_marked h j has = by_number IsMarked j here (λ apart. get-set_other r.marks k j apart ∙ h.marked has.index j has.is)

      listed_after : IsListed r → IsListed (with_mark r k (Some false))
      listed_after h = record {
        listed = λ j. by_number (λ j. slice_get (set r.marks k true) j ≡ Some true → Has (r.order ++ k ∷ []) j) j (λ e. behind)
            (λ apart e. has-left r.order (k ∷ []) j (h.listed j (sym (get-set_other r.marks k j apart) ∙ e)));
        marked = λ i j e. all-has IsMarked (r.order ++ k ∷ []) j (all-append IsMarked r.order (k ∷ []) (all-map (Has r.order) IsMarked (kept_marked h) r.order (each-has r.order)) (here, tt)) (record { index = i; is = e });
        count = omega (arith, h.count, unreached-set r.marks k new, length-append r.order (k ∷ []), length-set r.marks k true);
      }

adds_one : (r : Reach) (k : ℕ) → Adds r (k ∷ []) (with_one r k)
adds_one r k = by_mark (slice_get r.marks k) refl
  where
    by_mark : (mark : Option Bool) → slice_get r.marks k ≡ mark → Adds r (k ∷ []) (with_mark r k mark)
    by_mark (Some false) e = adds_new r k e
    by_mark (Some true) e = adds_nothing r k (λ g. cc)
    by_mark None e = adds_nothing r k (λ g. cc)

-- these and then those
adds_both : (old mid new : Reach) (k : ℕ) (ks : List ℕ) → Adds old (k ∷ []) mid → Adds mid ks new → Adds old (k ∷ ks) new
adds_both old mid new k ks g h = record {
  size = h.size ∙ g.size;
  kept = λ j e. h.kept j (g.kept j e);
  was = λ j e. g.was j (h.was j e);
  met = λ j has e. has-cases ⊥ k ks j has (λ same. g.met j (record { index = 0; is = ap (λ x. Some x) same }) (h.was j e)) (λ later. h.met j later e);
  from = λ j e. by_case j (h.from j e);
  order = (g.order.0 ++ h.order.0, h.order.1 ∙ ap (λ xs. xs ++ h.order.0) g.order.1 ∙ append_assoc old.order g.order.0 h.order.0);
  listed = λ l. h.listed (g.listed l);
}
  where
    by_case : (j : ℕ) → (slice_get mid.marks j ≡ Some true) ⊎ Has ks j → (slice_get old.marks j ≡ Some true) ⊎ Has (k ∷ ks) j
    by_case j (inr later) = inr (has-right (k ∷ []) ks j later)
    by_case j (inl e) = elim (g.from j e) [ inl was ↦ inl was | inr first ↦ inr (has-left (k ∷ []) ks j first) ]

pub adds_all : (r : Reach) (ks : List ℕ) → Adds r ks (with_all r ks)
adds_all r [] = adds_none r
adds_all r (k ∷ ks) = adds_both r (with_one r k) (with_all (with_one r k) ks) k ks (adds_one r k) (adds_all (with_one r k) ks)
