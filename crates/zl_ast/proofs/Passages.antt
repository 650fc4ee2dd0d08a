-- What a phrase keeps of the tokens that it takes: of their spots some are dropped, and the order stays.
use Rattle.std.proofs.Common.{◌≡◌, ℕ, suc, ◌+◌, ◌≤◌, List, [], ◌∷◌, ◌++◌, map, length, Option, Some, None, arith, refl, ap, sym, ◌∙◌, subst, append_assoc, length-append}
use Rattle.zl_lexer.specs.declared.token.Token.{Token}
use Rattle.zl_lexer.specs.declared.token.TokenKind.{TokenKind}
use Rattle.zl_lexer.specs.declared.token.TokenKind.TheVariants as kind
use Rattle.zl_value.specs.declared.position.Pos.{Pos}
use Rattle.zl_ast.specs.declared.name.Name.{Name}
use Rattle.zl_ast.specs.Phrases.{Phrase, Nothing, Takes, takes, Finds, finds, IsName, ListOf, Maybe, Passes, ToClose, IsTuple, listed}
use Rattle.zl_ast.specs.Phrases as phrases
use Rattle.zl_ast.specs.Spots.{Sort, Spot, Mark, place, named, joined, all_spots, some_spots, one_name, left_spots, token_mark, spot_mark, id_of, Sublist, keep, drop}
use Rattle.zl_ast.specs.Spots as spots
use Rattle.zl_ast.proofs.Sublists.{same, through, behind, shorter}

abbrev pub token_marks : List Token → List Mark
token_marks ts = map token_mark ts

abbrev pub spot_marks : List Spot → List Mark
spot_marks xs = map spot_mark xs

pub record Passage (xs : List Spot) (ts us : List Token) : Type 0 where
  pub is : Sublist (spot_marks xs ++ token_marks us) (token_marks ts)

pub here : (ts : List Token) → Passage [] ts ts
here ts = record { is = same (token_marks ts) }

map_append : {A B : Type 0} (f : A → B) (xs ys : List A) → map f (xs ++ ys) ≡ map f xs ++ map f ys
map_append f [] ys = refl
map_append f (x ∷ xs) ys = ap (λ zs. f x ∷ zs) (map_append f xs ys)

infixr 20 ◌▸◌
pub ◌▸◌ : {xs ys : List Spot} {ts us vs : List Token} → Passage xs ts us → Passage ys us vs → Passage (xs ++ ys) ts vs
◌▸◌ {xs = xs} {ys = ys} {ts = ts} {us = us} {vs = vs} p q =
    let e : spot_marks xs ++ (spot_marks ys ++ token_marks vs) ≡ spot_marks (xs ++ ys) ++ token_marks vs =
    sym (ap (λ zs. zs ++ token_marks vs) (map_append spot_mark xs ys) ∙ append_assoc (spot_marks xs) (spot_marks ys) (token_marks vs)) in
    record { is = subst (λ zs. Sublist zs (token_marks ts)) e (through (behind (spot_marks xs) q.is) p.is) }

pub moved : {xs ys : List Spot} {ts us : List Token} → xs ≡ ys → Passage xs ts us → Passage ys ts us
moved {ts = ts} {us = us} e p = subst (λ zs. Passage zs ts us) e p

length_map : {A B : Type 0} (f : A → B) (xs : List A) → length (map f xs) ≡ length xs
length_map f [] = refl
length_map f (x ∷ xs) = ap suc (length_map f xs)

-- Where the marks are the same, the sorts don't matter.
pub resorted : {xs ys : List Spot} {ts us : List Token} → spot_marks xs ≡ spot_marks ys → Passage xs ts us → Passage ys ts us
resorted {ts = ts} {us = us} e p = record { is = subst (λ zs. Sublist (zs ++ token_marks us) (token_marks ts)) e p.is }

-- What is kept was taken.
pub kept_taken : {xs : List Spot} {ts us : List Token} → Passage xs ts us → length xs + length us ≤ length ts
kept_taken {xs = xs} {ts = ts} {us = us} p =
    let h = shorter p.is in
    let e = length-append (spot_marks xs) (token_marks us) in
    let f = length_map token_mark us in
    let g = length_map token_mark ts in
    let i = length_map spot_mark xs in
    omega arith

-- A phrase leaves no more tokens than there were.
pub no_longer : {xs : List Spot} {ts us : List Token} → Passage xs ts us → length us ≤ length ts
no_longer p = let h = kept_taken p in omega arith

abbrev pub Within : {A : Type 0} → (A → List Spot) → Phrase A → Type 0
Within {A = A} s X = (ts : List Token) (x : A) (rest : List Token) → X ts x rest → Passage (s x) ts rest

-- the kinds that aren't names
abbrev pub Mute : TokenKind → Type 0
Mute k = id_of k ≡ None

pub skipped : {k : TokenKind} {ts us : List Token} {at : Pos} → Takes k ts at us → Passage [] ts us
skipped (takes t {ts = ts} e) = record { is = drop (same (token_marks ts)) }

kept : (t : Token) (s : Spot) (ts : List Token) → token_mark t ≡ spot_mark s → Passage (s ∷ []) (t ∷ ts) ts
kept t s ts e = record { is = subst (λ m. Sublist (m ∷ token_marks ts) (token_marks (t ∷ ts))) e (keep (same (token_marks ts))) }

mute_mark : (s : Sort) (t : Token) → id_of t.kind ≡ None → token_mark t ≡ spot_mark (place s t.at)
mute_mark s t e = ap (λ i. record { id = i; at = t.at }) e

pub placed : {k : TokenKind} {ts us : List Token} {at : Pos} (s : Sort) → Mute k → Takes k ts at us → Passage (place s at ∷ []) ts us
placed s m (takes t {ts = ts} e) = kept t (place s t.at) ts (mute_mark s t (ap id_of e ∙ m))

pub mute_found : {A : Type 0} (table : TokenKind → Option A) → ((id : ℕ) → table (kind.Name id) ≡ None) → (k : TokenKind) (a : A) → table k ≡ Some a → id_of k ≡ None
mute_found table none (kind.Name id) a e = let h = none id in cc
mute_found table none (kind.Int i) a e = refl
mute_found table none (kind.Float f) a e = refl
mute_found table none (kind.Word w) a e = refl
mute_found table none (kind.Sign s) a e = refl

pub found : {A : Type 0} {table : TokenKind → Option A} {ts us : List Token} {a : A} {at : Pos} →
    (s : Sort) → ((id : ℕ) → table (kind.Name id) ≡ None) → Finds table ts a at us → Passage (place s at ∷ []) ts us
found {table = table} s none (finds t {ts = ts} a e) = kept t (place s t.at) ts (mute_mark s t (mute_found table none t.kind a e))

pub found_unkept : {A : Type 0} {table : TokenKind → Option A} {ts us : List Token} {a : A} {at : Pos} → Finds table ts a at us → Passage [] ts us
found_unkept (finds t {ts = ts} a e) = record { is = drop (same (token_marks ts)) }

name_taken : {id : ℕ} {ts us : List Token} {at : Pos} (s : Sort) → Takes (kind.Name id) ts at us → Passage (record { sort = s; id = Some id; at = at } ∷ []) ts us
name_taken {id = id} s (takes t {ts = ts} e) = kept t (record { sort = s; id = Some id; at = t.at }) ts (ap (λ k. record { id = id_of k; at = t.at }) e)

pub a_name : {ts us : List Token} {x : Name} (s : Sort) → IsName ts x us → Passage (named s x ∷ []) ts us
a_name s (phrases.name id h) = name_taken s h

pub append_none : (xs : List Spot) → xs ++ [] ≡ xs
append_none [] = refl
append_none (x ∷ xs) = ap (λ ys. x ∷ ys) (append_none xs)

pub a_list : {A : Type 0} {k : TokenKind} {X : Phrase A} (s : A → List Spot) → Within s X → (ts : List Token) (xs : List A) (us : List Token) →
    ListOf k X ts xs us → Passage (all_spots s xs) ts us
a_list s w _ _ _ (phrases.last {x = x} h _) = moved (sym (append_none (s x))) (w _ _ _ h)
a_list s w _ _ _ (phrases.more h k hs) = w _ _ _ h ▸ (skipped k ▸ a_list s w _ _ _ hs)

pub a_maybe : {A : Type 0} {k : TokenKind} {X : Phrase A} (s : A → List Spot) → Within s X → (ts : List Token) (x : Option A) (us : List Token) →
    Maybe k X ts x us → Passage (some_spots s x) ts us
a_maybe s w _ _ _ (phrases.absent {ts = ts} _) = here ts
a_maybe s w _ _ _ (phrases.present k h) = skipped k ▸ w _ _ _ h

pub a_pass : {k : TokenKind} {ts us : List Token} → Passes k ts us → Passage [] ts us
a_pass (phrases.without {ts = ts} _) = here ts
a_pass (phrases.with_it k) = skipped k

pub up_to_close : {A : Type 0} {X : Phrase A} (s : A → List Spot) → Within s X → (ts : List Token) (xs : List A) (us : List Token) →
    ToClose X ts xs us → Passage (all_spots s xs) ts us
up_to_close s w _ _ _ (phrases.empty k) = skipped k
up_to_close s w _ _ _ (phrases.items hs k) = moved (append_none _) (a_list s w _ _ _ hs ▸ skipped k)

pub names_within : Within one_name IsName
names_within ts x us h = a_name spots.bare_name h

pub a_tuple : (ts : List Token) (xs : List Name) (us : List Token) → IsTuple ts xs us → Passage (all_spots one_name xs) ts us
a_tuple _ _ _ (phrases.tuple o h k hs c) = skipped o ▸ (a_name spots.bare_name h ▸ (skipped k ▸ moved (append_none _) (a_list one_name names_within _ _ _ hs ▸ skipped c)))

-- what an optional list holds
pub some_listed : {A : Type 0} (s : A → List Spot) (xs : Option (List A)) → some_spots (all_spots s) xs ≡ all_spots s (listed xs)
some_listed s None = refl
some_listed s (Some xs) = refl

-- The first name of a left side stands for the equation.
pub a_left : (ts : List Token) (xs : List Name) (us : List Token) → Passage (all_spots one_name xs) ts us → Passage (left_spots xs) ts us
a_left ts [] us p = p
a_left ts (x ∷ xs) us p = resorted refl p
