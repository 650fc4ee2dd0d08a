-- Properties of lists of name numbers.
use Rattle.std.proofs.Common.{◌≡◌, ℕ, Bool, true, false, ◌||◌, ◌&&◌, cond, nat_eq, List, [], ◌∷◌, ◌++◌, filter, length, take, None, refl, sym, ◌∙◌, ap, append_assoc}
use Rattle.std.proofs.lemmas.Bool.{eqb-true}
use Rattle.std.proofs.lemmas.List.{append-nil}
use Rattle.std.proofs.lemmas.List.Folds.{list_any-append}
use Rattle.std.proofs.Math.Bool.{or-false, or-true}
use Rattle.std.proofs.Math.Seq.{take-append_seam}
use Rattle.zl_ast.specs.declared.name.Name.{Name}
use Rattle.zl_ast.specs.Names.{among, with_id, with_ids, ids_of}
use Rattle.zl_ast.specs.Anchored.{in_each, common, held}
use Rattle.zl_init.specs.Kept.{shared_with, shared_with_each, common_after}

-- ---- numbers, each once

-- more numbers go behind those that are there
record GrowsTo (ids all : List ℕ) : Type 0 where
  more : List ℕ
  is : all ≡ ids ++ more

with_id_grows : (ids : List ℕ) (id : ℕ) → GrowsTo ids (with_id ids id)
with_id_grows ids id = grows_at ids id (among ids id)
  where
    grows_at : (ids : List ℕ) (id : ℕ) (b : Bool) → GrowsTo ids (cond b ids (ids ++ id ∷ []))
    grows_at ids id true = record { more = []; is = sym (append-nil ids) }
    grows_at ids id false = record { more = id ∷ []; is = refl }

with_ids_grows : (ids xs : List ℕ) → GrowsTo ids (with_ids ids xs)
with_ids_grows ids [] = record { more = []; is = sym (append-nil ids) }
with_ids_grows ids (x ∷ xs) =
    let one = with_id_grows ids x in
    let rest = with_ids_grows (with_id ids x) xs in
    record { more = one.more ++ rest.more; is = rest.is ∙ ap (λ ys. ys ++ rest.more) one.is ∙ append_assoc ids one.more rest.more }

-- those that were there are the first ones
pub take-with_ids : (ids xs : List ℕ) → take (length ids) (with_ids ids xs) ≡ ids
take-with_ids ids xs = let grown = with_ids_grows ids xs in ap (take (length ids)) grown.is ∙ take-append_seam ids grown.more

pub with_ids-append : (ids xs ys : List ℕ) → with_ids ids (xs ++ ys) ≡ with_ids (with_ids ids xs) ys
with_ids-append ids [] ys = refl
with_ids-append ids (x ∷ xs) ys = with_ids-append (with_id ids x) xs ys

-- ---- membership

among-with_id : (ids : List ℕ) (x id : ℕ) → among (with_id ids x) id ≡ (among ids id || nat_eq id x)
among-with_id ids x id = at ids x id (among ids x) refl (nat_eq id x) refl
  where
    at : (ids : List ℕ) (x id : ℕ) (b : Bool) → among ids x ≡ b → (c : Bool) → nat_eq id x ≡ c → among (cond b ids (ids ++ x ∷ [])) id ≡ (among ids id || c)
    at ids x id true e true d = ap (among ids) (eqb-true id x d) ∙ e ∙ sym (or-true (among ids id))
    at ids x id true e false d = sym (or-false (among ids id))
    at ids x id false e c d = list_any-append (nat_eq id) ids (x ∷ []) ∙ ap (λ r. among ids id || r) (or-false (nat_eq id x) ∙ d)

pub among-with_ids : (ids xs : List ℕ) (id : ℕ) → among (with_ids ids xs) id ≡ among (ids ++ xs) id
among-with_ids ids [] id = ap (λ ys. among ys id) (sym (append-nil ids))
among-with_ids ids (x ∷ xs) id =
    among-with_ids (with_id ids x) xs id
    ∙ list_any-append (nat_eq id) (with_id ids x) xs
    ∙ ap (λ r. r || among xs id) (among-with_id ids x id)
    ∙ or_assoc (among ids id) (nat_eq id x) (among xs id)
    ∙ sym (list_any-append (nat_eq id) ids (x ∷ xs))
  where
    or_assoc : (a b c : Bool) → ((a || b) || c) ≡ (a || (b || c))
    or_assoc true b c = refl
    or_assoc false b c = refl

-- ---- numbers that pass a test

pub filter-same : (f g : ℕ → Bool) (xs : List ℕ) → ((x : ℕ) → f x ≡ g x) → filter f xs ≡ filter g xs
filter-same f g [] h = refl
filter-same f g (x ∷ xs) h = ap (λ b. cond b (x ∷ filter f xs) (filter f xs)) (h x) ∙ ap (λ ys. cond (g x) (x ∷ ys) ys) (filter-same f g xs h)

filter-both : (f g : ℕ → Bool) (xs : List ℕ) → filter g (filter f xs) ≡ filter (λ x. f x && g x) xs
filter-both f g [] = refl
filter-both f g (x ∷ xs) = at f g x xs (f x) (filter-both f g xs)
  where
    at : (f g : ℕ → Bool) (x : ℕ) (xs : List ℕ) (b : Bool) → filter g (filter f xs) ≡ filter (λ x. f x && g x) xs
        → filter g (cond b (x ∷ filter f xs) (filter f xs)) ≡ cond (b && g x) (x ∷ filter (λ x. f x && g x) xs) (filter (λ x. f x && g x) xs)
    at f g x xs true e = ap (λ ys. cond (g x) (x ∷ ys) ys) e
    at f g x xs false e = e

pub shared-set : (ids xs : List ℕ) → shared_with (with_ids [] ids) xs ≡ shared_with ids xs
unfolding shared_with
shared-set ids xs = filter-same (among (with_ids [] ids)) (among ids) xs (among-with_ids [] ids)

-- one list more
pub shared-more : (ids : List ℕ) (lists : List (List ℕ)) (xs : List ℕ) → shared_with_each (ids ∷ lists) xs ≡ shared_with_each lists (shared_with ids xs)
unfolding shared_with shared_with_each
shared-more ids lists xs = sym (filter-both (among ids) (in_each lists) xs)

-- no list more
pub shared-none : (xs : List ℕ) → shared_with_each [] xs ≡ xs
unfolding shared_with_each
shared-none [] = refl
shared-none (x ∷ xs) = ap (λ ys. x ∷ ys) (shared-none xs)

pub common-lists : (lists : List (List ℕ)) → common_after None lists ≡ common lists
unfolding shared_with_each
common-lists [] = refl
common-lists (ids ∷ lists) = refl

pub held-ids : (locals : List Name) (ids : List ℕ) → held locals ids ≡ shared_with ids (ids_of locals)
unfolding shared_with
held-ids locals ids = refl

pub ruleset number_steps = (with_ids-append, shared-set, shared-more, shared-none)
