-- The definers that a walk makes: where they come from, and that those of one place are never active together.
use Rattle.std.proofs.Common.{◌≡◌, ℕ, ◌+◌, ◌<◌, ◌≤◌, List, [], ◌∷◌, ◌++◌, length, Option, Some, None, refl, sym, ap, subst, ◌∙◌, arith}
use Rattle.std.specs.List.{AllByRecursion}
use Rattle.std.proofs.lemmas.List.{length-append}
use Rattle.zl_meaning.specs.FlatForm.{FlatForm, place_call}
use Rattle.zl_meaning.specs.Single.{AreApart, definer_block, is_start}
use Rattle.zl_meaning.specs.declared.occurrence.Occ.{Occ}
use Rattle.zl_meaning.specs.declared.occurrence.SiteInfo.{SiteInfo}
use Rattle.zl_flat.specs.declared.given.Given.{Given}
use Rattle.zl_flat.specs.Parts.{Parts, Counters, nothing, joined, one_occ, one_hidden, one_site, after, past_occ, past_hidden, past_site}
use Rattle.zl_flat.proofs.PartsLaws.{after-occ, after-hidden, after-site}
use Rattle.zl_flat.proofs.WellFormedParts.{all-append, each-left, each-right, behind-occ}
use Rattle.zl_flat.proofs.WellFormedGround.{standing, Sits}

-- ---- the words

-- two definers of one place that both start it, or both don't, are never active together
abbrev pub Clear : FlatForm → Given → Given → Type 0
Clear f g h = g.place ≡ h.place → is_start g.definer ≡ is_start h.definer → AreApart f (definer_block g.definer) (definer_block h.definer)

-- each is clear of those behind it
abbrev pub Spaced : FlatForm → List Given → Type 0
Spaced f [] = Unit {0}
Spaced f (g ∷ gs) = AllByRecursion (Clear f g) gs × Spaced f gs

-- where a definer comes from: it is one of a copy's own, whose places have this call, or was made in a call whose number
-- is one of those from `lo` on, before `hi`
pub data Comes (f : FlatForm) (call : Option ℕ) (P : Given → Type 0) (lo hi : ℕ) (g : Given) : Type 0 where
  Own : place_call f g.place ≡ call → P g → Comes f call P lo hi g
  InCall : (k : ℕ) → place_call f g.place ≡ Some k → lo ≤ k → k < hi → Comes f call P lo hi g

pub record Spread (f : FlatForm) (call : Option ℕ) (P : Given → Type 0) (s : Counters) (p : Parts) : Type 0 where
  pub each : AllByRecursion (Comes f call P s.occs (s.occs + length p.occs)) p.definers
  pub spaced : Spaced f p.definers

-- no definer, and any
abbrev pub Never : Given → Type 0
Never g = ⊥

abbrev pub Any : Given → Type 0
Any g = Unit {0}

-- the call has a number before this one
abbrev pub IsBefore : Option ℕ → ℕ → Type 0
IsBefore None n = Unit {0}
IsBefore (Some c) n = c < n

-- a call before a number is before a greater one
before-more : (call : Option ℕ) (n m : ℕ) → n ≤ m → IsBefore call n → IsBefore call m
before-more None n m le h = tt
before-more (Some c) n m le h = omega (arith, le, h)

-- a call is not before itself
not-before : (call : Option ℕ) (n k : ℕ) → IsBefore call n → call ≡ Some k → n ≤ k → ⊥
not-before None n k h e le = cc
not-before (Some c) n k h e le = let same = same_some c k e in omega (arith, h, same, le)
  where
    same_some : (c k : ℕ) → Some c ≡ Some k → c ≡ k
    same_some c k e = cc

-- ---- lists

-- what follows from what holds of all holds of all
all-map : {X : Type 0} (P Q : X → Type 0) → ((x : X) → P x → Q x) → (xs : List X) → AllByRecursion P xs → AllByRecursion Q xs
all-map P Q g [] h = tt
all-map P Q g (x ∷ xs) h = (g x h.0, all-map P Q g xs h.1)

-- definers of two lists, of which the ones are clear of the others
spaced-append : (f : FlatForm) (xs ys : List Given) → Spaced f xs → Spaced f ys → AllByRecursion (λ g. AllByRecursion (Clear f g) ys) xs → Spaced f (xs ++ ys)
spaced-append f [] ys h k c = k
spaced-append f (x ∷ xs) ys h k c = (all-append (Clear f x) xs ys h.0 c.0, spaced-append f xs ys h.1 k c.1)

-- ---- where definers come from

module _ (f : FlatForm) (call : Option ℕ) where
  -- from a wider range of calls, and with more own ones
  comes-more : (P Q : Given → Type 0) (lo hi lo2 hi2 : ℕ) → ((g : Given) → P g → Q g) → lo2 ≤ lo → hi ≤ hi2 → (g : Given) → Comes f call P lo hi g → Comes f call Q lo2 hi2 g
  comes-more P Q lo hi lo2 hi2 more low high g (Own c h) = Own c (more g h)
  comes-more P Q lo hi lo2 hi2 more low high g (InCall k c le lt) = InCall k c (omega (arith, low, le)) (omega (arith, high, lt))

  -- definers of two walks, the one behind the other, are clear if their own are
  across : (P Q : Given → Type 0) (lo mid hi : ℕ) → lo ≤ mid → IsBefore call lo → ((g h : Given) → P g → Q h → Clear f g h) → (g h : Given) → Comes f call P lo mid g → Comes f call Q mid hi h → Clear f g h
  across P Q lo mid hi le before clear g h (Own c p) (Own d q) e = clear g h p q e
  across P Q lo mid hi le before clear g h (Own c p) (InCall k d low high) e = absurd (not-before call lo k before (sym c ∙ ap (place_call f) e ∙ d) (omega (arith, le, low)))
  across P Q lo mid hi le before clear g h (InCall j c low high) (Own d q) e = absurd (not-before call lo j before (sym d ∙ ap (place_call f) (sym e) ∙ c) low)
  across P Q lo mid hi le before clear g h (InCall j c low high) (InCall k d low2 high2) e = let same = same_some j k (sym c ∙ ap (place_call f) e ∙ d) in absurd (omega (arith, same, high, low2))
    where
      same_some : (c k : ℕ) → Some c ≡ Some k → c ≡ k
      same_some c k e = cc

  all-across : (P Q : Given → Type 0) (lo mid hi : ℕ) → lo ≤ mid → IsBefore call lo → ((g h : Given) → P g → Q h → Clear f g h) → (xs ys : List Given) → AllByRecursion (Comes f call P lo mid) xs → AllByRecursion (Comes f call Q mid hi) ys →
      AllByRecursion (λ g. AllByRecursion (Clear f g) ys) xs
  all-across P Q lo mid hi le before clear [] ys h k = tt
  all-across P Q lo mid hi le before clear (x ∷ xs) ys h k = (all-map (Comes f call Q mid hi) (Clear f x) (λ y c. across P Q lo mid hi le before clear x y h.0 c) ys k, all-across P Q lo mid hi le before clear xs ys h.1 k)

  -- definers of which less is known
  pub spread-more : (P Q : Given → Type 0) (s : Counters) (p : Parts) → ((g : Given) → P g → Q g) → Spread f call P s p → Spread f call Q s p
  spread-more P Q s p more h = let hi = s.occs + length p.occs in record { each = all-map (Comes f call P s.occs hi) (Comes f call Q s.occs hi) (comes-more P Q s.occs hi s.occs hi more (omega arith) (omega arith)) p.definers h.each; spaced = h.spaced }

  -- what is made one behind the other, if the own definers of both are clear of each other
  spread-joined : (P Q R : Given → Type 0) (s : Counters) (p q : Parts) → ((g : Given) → P g → R g) → ((g : Given) → Q g → R g) → ((g h : Given) → P g → Q h → Clear f g h) → IsBefore call s.occs →
      Spread f call P s p → Spread f call Q (after s p) q → Spread f call R s (joined p q)
  unfolding joined after
  spread-joined P Q R s p q left right clear before h k =
      let mid = s.occs + length p.occs in
      let hi = mid + length q.occs in
      let end = s.occs + length (p.occs ++ q.occs) in
      let count = length-append p.occs q.occs in
      record {
        each = all-append (Comes f call R s.occs end) p.definers q.definers
            (all-map (Comes f call P s.occs mid) (Comes f call R s.occs end) (comes-more P R s.occs mid s.occs end left (omega arith) (omega (arith, count))) p.definers h.each)
            (all-map (Comes f call Q mid hi) (Comes f call R s.occs end) (comes-more Q R mid hi s.occs end right (omega arith) (omega (arith, count))) q.definers k.each);
        spaced = spaced-append f p.definers q.definers h.spaced k.spaced (all-across P Q s.occs mid hi (omega arith) before clear p.definers q.definers h.each k.each);
      }

  -- parts that have no definers
  pub spread-flat : (P : Given → Type 0) (s : Counters) (p : Parts) → p.definers ≡ [] → Spread f call P s p
  spread-flat P s p e = record { each = subst (AllByRecursion (Comes f call P s.occs (s.occs + length p.occs))) (sym e) tt; spaced = subst (Spaced f) (sym e) tt }

-- what is made in a call is, outside it, what comes from a call
pub spread-called : (f : FlatForm) (call : Option ℕ) (P : Given → Type 0) (s : Counters) (x : Occ) (q : Parts) → Spread f (Some s.occs) P (past_occ s) q → Spread f call Never s (joined (one_occ x) q)
unfolding joined one_occ past_occ
spread-called f call P s x q h =
    let hi = s.occs + 1 + length q.occs in
    let end = s.occs + length (x ∷ q.occs) in
    record { each = all-map (Comes f (Some s.occs) P (s.occs + 1) hi) (Comes f call Never s.occs end) outside q.definers h.each; spaced = h.spaced }
  where
    outside : (g : Given) → Comes f (Some s.occs) P (s.occs + 1) (s.occs + 1 + length q.occs) g → Comes f call Never s.occs (s.occs + length (x ∷ q.occs)) g
    outside g (Own c h) = InCall s.occs c (omega arith) (omega arith)
    outside g (InCall k c le lt) = InCall k c (omega (arith, le)) (omega (arith, lt))

-- ---- where parts are to stand

-- what these parts define, where they stand in the form with the numbers from here on
abbrev pub Defines : FlatForm → ℕ → Option ℕ → (Given → Type 0) → Counters → Parts → Type 0
Defines f base call P s p = IsBefore call s.occs → Sits f base s p → Spread f call P s p

-- a call before these parts is before what is behind them
before-after : (call : Option ℕ) (s : Counters) (p : Parts) → IsBefore call s.occs → IsBefore call (after s p).occs
unfolding after
before-after call s p h = before-more call s.occs (s.occs + length p.occs) (omega arith) h

-- a call is before what is made in it
in-own-call : (s : Counters) → IsBefore (Some s.occs) (past_occ s).occs
unfolding past_occ
in-own-call s = omega arith

-- parts of these kinds hold no definers
pub occ-free : (x : Occ) → (one_occ x).definers ≡ []
unfolding one_occ
occ-free x = refl

hidden-free : (x : Occ) → (one_hidden x).definers ≡ []
unfolding one_hidden
hidden-free x = refl

site-free : (x : SiteInfo) → (one_site x).definers ≡ []
unfolding one_site
site-free x = refl

pub nothing-free : nothing.definers ≡ []
unfolding nothing
nothing-free = refl

module _ (f : FlatForm) (base : ℕ) (call : Option ℕ) where
  -- parts without definers
  pub defines-flat : (P : Given → Type 0) (s : Counters) (p : Parts) → p.definers ≡ [] → Defines f base call P s p
  defines-flat P s p e before sits = spread-flat f call P s p e

  -- what is made one behind the other
  pub defines-joined : (P Q R : Given → Type 0) (s : Counters) (p q : Parts) → ((g : Given) → P g → R g) → ((g : Given) → Q g → R g) → ((g h : Given) → P g → Q h → Clear f g h) →
      Defines f base call P s p → Defines f base call Q (after s p) q → Defines f base call R s (joined p q)
  defines-joined P Q R s p q left right clear h k before sits =
      spread-joined f call P Q R s p q left right clear before (h before (each-left (standing f base) s p q sits)) (k (before-after call s p before) (each-right (standing f base) s p q sits))

  -- parts without definers of their own, and then others
  pub never-first : (P : Given → Type 0) (s : Counters) (p q : Parts) → Defines f base call Never s p → Defines f base call P (after s p) q → Defines f base call P s (joined p q)
  never-first P s p q h k = defines-joined Never P P s p q (λ g n. absurd n) (λ g m. m) (λ g m n. absurd n) h k

  -- parts, and then others without definers of their own
  pub never-last : (P : Given → Type 0) (s : Counters) (p q : Parts) → Defines f base call P s p → Defines f base call Never (after s p) q → Defines f base call P s (joined p q)
  never-last P s p q h k = defines-joined P Never P s p q (λ g m. m) (λ g n. absurd n) (λ g m p n. absurd n) h k

  -- an occurrence, or a site, and what is made behind it
  pub defines-occ : (P : Given → Type 0) (s : Counters) (x : Occ) (q : Parts) → Defines f base call P (past_occ s) q → Defines f base call P s (joined (one_occ x) q)
  defines-occ P s x q h = never-first P s (one_occ x) q (defines-flat Never s (one_occ x) (occ-free x)) (subst (λ t. Defines f base call P t q) (sym (after-occ s x)) h)

  pub defines-hidden : (P : Given → Type 0) (s : Counters) (x : Occ) (q : Parts) → Defines f base call P (past_hidden s) q → Defines f base call P s (joined (one_hidden x) q)
  defines-hidden P s x q h = never-first P s (one_hidden x) q (defines-flat Never s (one_hidden x) (hidden-free x)) (subst (λ t. Defines f base call P t q) (sym (after-hidden s x)) h)

  pub defines-site : (P : Given → Type 0) (s : Counters) (x : SiteInfo) (q : Parts) → Defines f base call P (past_site s) q → Defines f base call P s (joined (one_site x) q)
  defines-site P s x q h = never-first P s (one_site x) q (defines-flat Never s (one_site x) (site-free x)) (subst (λ t. Defines f base call P t q) (sym (after-site s x)) h)

  -- the occurrence of a call, and what is made in the call
  pub defines-called : (P : Given → Type 0) (s : Counters) (x : Occ) (p q : Parts) → Defines f base (Some s.occs) Never (past_occ s) p → Defines f base (Some s.occs) P (after (past_occ s) p) q → Defines f base call Never s (joined (one_occ x) (joined p q))
  defines-called P s x p q h k before sits =
      let inside = behind-occ (standing f base) s x (joined p q) sits in
      let t = past_occ s in
      spread-called f call P s x (joined p q)
      (spread-joined f (Some s.occs) Never P P t p q (λ g n. absurd n) (λ g m. m) (λ g m n. absurd n) (in-own-call s)
      (h (in-own-call s) (each-left (standing f base) t p q inside.1)) (k (before-after (Some s.occs) t p (in-own-call s)) (each-right (standing f base) t p q inside.1)))
