-- Depths for the occurrences that a walk makes: each part of an occurrence lies deeper than it, and what stands in the
-- arguments or the copy of a call deeper than the call.
use Rattle.std.proofs.Common.{◌≡◌, ℕ, suc, ◌+◌, ◌<◌, ◌≤◌, List, [], ◌∷◌, ◌++◌, length, Option, Some, None, refl, sym, ap, subst, arith}
use Rattle.std.specs.List.{AllByRecursion}
use Rattle.std.proofs.lemmas.List.{length-append}
use Rattle.zl_meaning.specs.Uses.{parts}
use Rattle.zl_meaning.specs.declared.block.Block.{Block}
use Rattle.zl_meaning.specs.declared.block.Choice.{Choice}
use Rattle.zl_meaning.specs.declared.block.Auto.{Auto}
use Rattle.zl_meaning.specs.declared.place.PlaceInfo.{PlaceInfo}
use Rattle.zl_meaning.specs.declared.occurrence.Occ.{Occ}
use Rattle.zl_meaning.specs.declared.occurrence.SiteInfo.{SiteInfo}
use Rattle.zl_flat.specs.declared.given.Given.{Given}
use Rattle.zl_flat.specs.Parts.{Parts, Counters, nothing, joined, one_block, one_place, some_places, some_definers, one_occ, one_hidden, one_site, one_choice, one_automaton, after, past_block, past_occ, past_hidden, past_site, past_choice, past_automaton}
use Rattle.zl_flat.proofs.PartsLaws.{after-block, after-site, after-choice, after-automaton}
use Rattle.zl_flat.proofs.WellFormedParts.{AllFrom, from-append, from-left, from-right}

-- ---- the words

-- this depth is below that of the call, if there is one
abbrev pub IsBelow : (ℕ → ℕ) → Option ℕ → ℕ → Type 0
IsBelow depth None d = Unit {0}
IsBelow depth (Some call) d = depth call < d

-- an occurrence with this number lies above its parts, and below the call that it stands in
pub record LiesDeep (depth : ℕ → ℕ) (k : ℕ) (occ : Occ) : Type 0 where
  pub parts : AllByRecursion (λ j. depth k < depth j) (parts occ.form)
  pub call : IsBelow depth occ.call (depth k)

-- each occurrence of these parts does, where these are the numbers of the first
pub record LieDeep (base : ℕ) (depth : ℕ → ℕ) (s : Counters) (p : Parts) : Type 0 where
  pub occs : AllFrom (LiesDeep depth) s.occs p.occs
  pub hidden : AllFrom (λ n x. LiesDeep depth (base + n) x) s.hidden p.hidden

-- the depths from these numbers on are those of the lists
pub record Agrees (base : ℕ) (depth : ℕ → ℕ) (s : Counters) (os hs : List ℕ) : Type 0 where
  pub occs : AllFrom (λ n d. depth n ≡ d) s.occs os
  pub hidden : AllFrom (λ n d. depth (base + n) ≡ d) s.hidden hs

-- Depths for what a walk makes: where all depths agree with them, and with what the walk asks, its occurrences lie as they
-- should, and so does what it gives.
pub record Depths (base : ℕ) (s : Counters) (p : Parts) (Asks Gives : (ℕ → ℕ) → Type 0) : Type 0 where
  pub occs : List ℕ
  pub hidden : List ℕ
  pub occs_length : length occs ≡ length p.occs
  pub hidden_length : length hidden ≡ length p.hidden
  pub laws : (depth : ℕ → ℕ) → Agrees base depth s occs hidden → Asks depth → LieDeep base depth s p
  pub gives : (depth : ℕ → ℕ) → Agrees base depth s occs hidden → Asks depth → Gives depth

-- both of two laws of depths
pub record Both (A B : (ℕ → ℕ) → Type 0) (depth : ℕ → ℕ) : Type 0 where
  pub first : A depth
  pub second : B depth

-- no law of depths
abbrev pub Nothing : (ℕ → ℕ) → Type 0
Nothing depth = Unit {0}

-- what lies deeper lies below the call, too
pub below-more : (depth : ℕ → ℕ) (call : Option ℕ) (d e : ℕ) → d ≤ e → IsBelow depth call d → IsBelow depth call e
below-more depth None d e le h = tt
below-more depth (Some call) d e le h = omega (arith, le, h)

-- ---- more and less of laws

module _ (base : ℕ) where
  -- a walk that asks more, and one that gives other laws that follow
  pub asking : {s : Counters} {p : Parts} {A B C : (ℕ → ℕ) → Type 0} → ((depth : ℕ → ℕ) → C depth → A depth) → Depths base s p A B → Depths base s p C B
  asking asks h = record {
    occs = h.occs;
    hidden = h.hidden;
    occs_length = h.occs_length;
    hidden_length = h.hidden_length;
    laws = λ depth agrees asked. h.laws depth agrees (asks depth asked);
    gives = λ depth agrees asked. h.gives depth agrees (asks depth asked);
  }

  pub giving : {s : Counters} {p : Parts} {A B C : (ℕ → ℕ) → Type 0} → ((depth : ℕ → ℕ) → A depth → B depth → C depth) → Depths base s p A B → Depths base s p A C
  giving gives h = record {
    occs = h.occs;
    hidden = h.hidden;
    occs_length = h.occs_length;
    hidden_length = h.hidden_length;
    laws = λ depth agrees asked. h.laws depth agrees asked;
    gives = λ depth agrees asked. gives depth asked (h.gives depth agrees asked);
  }

  -- parts without occurrences
  pub flat-depths : (s : Counters) (p : Parts) (A : (ℕ → ℕ) → Type 0) → [] ≡ p.occs → [] ≡ p.hidden → Depths base s p A Nothing
  flat-depths s p A e g = record {
    occs = [];
    hidden = [];
    occs_length = ap length e;
    hidden_length = ap length g;
    laws = λ depth agrees asked. record { occs = subst (AllFrom (LiesDeep depth) s.occs) e tt; hidden = subst (AllFrom (λ n x. LiesDeep depth (base + n) x) s.hidden) g tt };
    gives = λ depth agrees asked. tt;
  }

  -- nothing made
  pub nothing-depths : (s : Counters) (A : (ℕ → ℕ) → Type 0) → Depths base s nothing A Nothing
  unfolding nothing
  nothing-depths s A = flat-depths s nothing A refl refl

  -- ---- one behind the other

  agrees-left : (depth : ℕ → ℕ) (s : Counters) (os hs os2 hs2 : List ℕ) → Agrees base depth s (os ++ os2) (hs ++ hs2) → Agrees base depth s os hs
  agrees-left depth s os hs os2 hs2 h = record {
    occs = from-left (λ n d. depth n ≡ d) s.occs os os2 h.occs;
    hidden = from-left (λ n d. depth (base + n) ≡ d) s.hidden hs hs2 h.hidden;
  }

  agrees-right : (depth : ℕ → ℕ) (s : Counters) (p : Parts) (os hs os2 hs2 : List ℕ) → length os ≡ length p.occs → length hs ≡ length p.hidden → Agrees base depth s (os ++ os2) (hs ++ hs2) → Agrees base depth (after s p) os2 hs2
  unfolding after
  agrees-right depth s p os hs os2 hs2 e g h = record {
    occs = subst (λ n. AllFrom (λ n d. depth n ≡ d) (s.occs + n) os2) e (from-right (λ n d. depth n ≡ d) s.occs os os2 h.occs);
    hidden = subst (λ n. AllFrom (λ n d. depth (base + n) ≡ d) (s.hidden + n) hs2) g (from-right (λ n d. depth (base + n) ≡ d) s.hidden hs hs2 h.hidden);
  }

  lie-joined : (depth : ℕ → ℕ) (s : Counters) (p q : Parts) → LieDeep base depth s p → LieDeep base depth (after s p) q → LieDeep base depth s (joined p q)
  unfolding joined after
  lie-joined depth s p q h k = record {
    occs = from-append (LiesDeep depth) s.occs p.occs q.occs h.occs k.occs;
    hidden = from-append (λ n x. LiesDeep depth (base + n) x) s.hidden p.hidden q.hidden h.hidden k.hidden;
  }

  occs-joined : (p q : Parts) (os os2 : List ℕ) → length os ≡ length p.occs → length os2 ≡ length q.occs → length (os ++ os2) ≡ length (joined p q).occs
  unfolding joined
  occs-joined p q os os2 e g = omega (arith, length-append os os2, length-append p.occs q.occs, e, g)

  hidden-joined : (p q : Parts) (hs hs2 : List ℕ) → length hs ≡ length p.hidden → length hs2 ≡ length q.hidden → length (hs ++ hs2) ≡ length (joined p q).hidden
  unfolding joined
  hidden-joined p q hs hs2 e g = omega (arith, length-append hs hs2, length-append p.hidden q.hidden, e, g)

  -- one walk, and then another, which may ask what the first gives
  pub in-turn : {s : Counters} {p q : Parts} {A B C : (ℕ → ℕ) → Type 0} → Depths base s p A B → Depths base (after s p) q (Both A B) C → Depths base s (joined p q) A (Both B C)
  in-turn {s = s} {p = p} {q = q} {A = A} {B = B} {C = C} h k =
      let left = λ (depth : ℕ → ℕ) (agrees : Agrees base depth s (h.occs ++ k.occs) (h.hidden ++ k.hidden)). agrees-left depth s h.occs h.hidden k.occs k.hidden agrees in
      let right = λ (depth : ℕ → ℕ) (agrees : Agrees base depth s (h.occs ++ k.occs) (h.hidden ++ k.hidden)). agrees-right depth s p h.occs h.hidden k.occs k.hidden h.occs_length h.hidden_length agrees in
      let asked = λ (depth : ℕ → ℕ) (agrees : Agrees base depth s (h.occs ++ k.occs) (h.hidden ++ k.hidden)) (a : A depth). both depth a (h.gives depth (left depth agrees) a) in
      record {
        occs = h.occs ++ k.occs;
        hidden = h.hidden ++ k.hidden;
        occs_length = occs-joined p q h.occs k.occs h.occs_length k.occs_length;
        hidden_length = hidden-joined p q h.hidden k.hidden h.hidden_length k.hidden_length;
        laws = λ depth agrees a. lie-joined depth s p q (h.laws depth (left depth agrees) a) (k.laws depth (right depth agrees) (asked depth agrees a));
        gives = λ depth agrees a. record { first = h.gives depth (left depth agrees) a; second = k.gives depth (right depth agrees) (asked depth agrees a) };
      }
    where
      both : (depth : ℕ → ℕ) → A depth → B depth → Both A B depth
      both depth a b = record { first = a; second = b }

  -- ---- an occurrence

  -- occurrence number `k` has this depth
  abbrev pub IsAt : ℕ → ℕ → (ℕ → ℕ) → Type 0
  IsAt k d depth = depth k ≡ d

  -- an occurrence alone
  pub one-occ : {s : Counters} {x : Occ} {A : (ℕ → ℕ) → Type 0} (d : ℕ) → ((depth : ℕ → ℕ) → A depth → depth s.occs ≡ d → LiesDeep depth s.occs x) → Depths base s (one_occ x) A (IsAt s.occs d)
  unfolding one_occ
  one-occ {s = s} {x = x} {A = A} d lies = record {
    occs = d ∷ [];
    hidden = [];
    occs_length = refl;
    hidden_length = refl;
    laws = λ depth agrees a. record { occs = (lies depth a agrees.occs.0, tt); hidden = tt };
    gives = λ depth agrees a. agrees.occs.0;
  }

  -- an occurrence before what it is made of
  pub occ-before : {s : Counters} {x : Occ} {q : Parts} {A B : (ℕ → ℕ) → Type 0} (d : ℕ) → ((depth : ℕ → ℕ) → A depth → depth s.occs ≡ d → B depth → LiesDeep depth s.occs x) →
      Depths base (past_occ s) q (Both A (IsAt s.occs d)) B → Depths base s (joined (one_occ x) q) A (Both (IsAt s.occs d) B)
  unfolding joined one_occ past_occ
  occ-before {s = s} {x = x} {q = q} {A = A} {B = B} d lies h =
      let behind = λ (depth : ℕ → ℕ) (agrees : Agrees base depth s (d ∷ h.occs) h.hidden). later depth agrees in
      let asked = λ (depth : ℕ → ℕ) (agrees : Agrees base depth s (d ∷ h.occs) h.hidden) (a : A depth). both depth a agrees.occs.0 in
      record {
        occs = d ∷ h.occs;
        hidden = h.hidden;
        occs_length = ap (λ n. suc n) h.occs_length;
        hidden_length = h.hidden_length;
        laws = λ depth agrees a.
            let rest = h.laws depth (behind depth agrees) (asked depth agrees a) in
            record { occs = (lies depth a agrees.occs.0 (h.gives depth (behind depth agrees) (asked depth agrees a)), rest.occs); hidden = rest.hidden };
        gives = λ depth agrees a. record { first = agrees.occs.0; second = h.gives depth (behind depth agrees) (asked depth agrees a) };
      }
    where
      both : (depth : ℕ → ℕ) → A depth → depth s.occs ≡ d → Both A (IsAt s.occs d) depth
      both depth a e = record { first = a; second = e }

      later : (depth : ℕ → ℕ) → Agrees base depth s (d ∷ h.occs) h.hidden → Agrees base depth (past_occ s) h.occs h.hidden
      later depth agrees = record { occs = agrees.occs.1; hidden = agrees.hidden }

  -- a hidden one before what it is made of
  pub hidden-before : {s : Counters} {x : Occ} {q : Parts} {A B : (ℕ → ℕ) → Type 0} (d : ℕ) → ((depth : ℕ → ℕ) → A depth → depth (base + s.hidden) ≡ d → B depth → LiesDeep depth (base + s.hidden) x) →
      Depths base (past_hidden s) q (Both A (IsAt (base + s.hidden) d)) B → Depths base s (joined (one_hidden x) q) A (Both (IsAt (base + s.hidden) d) B)
  unfolding joined one_hidden past_hidden
  hidden-before {s = s} {x = x} {q = q} {A = A} {B = B} d lies h =
      let behind = λ (depth : ℕ → ℕ) (agrees : Agrees base depth s h.occs (d ∷ h.hidden)). later depth agrees in
      let asked = λ (depth : ℕ → ℕ) (agrees : Agrees base depth s h.occs (d ∷ h.hidden)) (a : A depth). both depth a agrees.hidden.0 in
      record {
        occs = h.occs;
        hidden = d ∷ h.hidden;
        occs_length = h.occs_length;
        hidden_length = ap (λ n. suc n) h.hidden_length;
        laws = λ depth agrees a.
            let rest = h.laws depth (behind depth agrees) (asked depth agrees a) in
            record { occs = rest.occs; hidden = (lies depth a agrees.hidden.0 (h.gives depth (behind depth agrees) (asked depth agrees a)), rest.hidden) };
        gives = λ depth agrees a. record { first = agrees.hidden.0; second = h.gives depth (behind depth agrees) (asked depth agrees a) };
      }
    where
      both : (depth : ℕ → ℕ) → A depth → depth (base + s.hidden) ≡ d → Both A (IsAt (base + s.hidden) d) depth
      both depth a e = record { first = a; second = e }

      later : (depth : ℕ → ℕ) → Agrees base depth s h.occs (d ∷ h.hidden) → Agrees base depth (past_hidden s) h.occs h.hidden
      later depth agrees = record { occs = agrees.occs; hidden = agrees.hidden.1 }

  -- ---- parts that aren't occurrences

  -- one walk, and then another that asks nothing of it
  pub one-and-other : {s : Counters} {p q : Parts} {A B C : (ℕ → ℕ) → Type 0} → Depths base s p A B → Depths base (after s p) q A C → Depths base s (joined p q) A Nothing
  one-and-other h k = giving (λ depth a g. tt) (in-turn h (asking (λ depth a. a.first) k))

  -- parts without occurrences before others, from whose numbers the others go on
  flat-before : {s t : Counters} {q : Parts} {A B : (ℕ → ℕ) → Type 0} (p : Parts) → [] ≡ p.occs → [] ≡ p.hidden → after s p ≡ t → Depths base t q A B → Depths base s (joined p q) A B
  flat-before {s = s} {q = q} {A = A} {B = B} p e g behind h =
      giving (λ depth a g. g.second) (in-turn (flat-depths s p A e g) (asking (λ depth a. a.first) (subst (λ t. Depths base t q A B) (sym behind) h)))

  -- a block, a site, a choice and an automaton before others, and places and definers: none is an occurrence
  pub block-before : {s : Counters} {q : Parts} {A B : (ℕ → ℕ) → Type 0} (x : Block) → Depths base (past_block s) q A B → Depths base s (joined (one_block x) q) A B
  unfolding one_block
  block-before {s = s} x h = flat-before (one_block x) refl refl (after-block s x) h

  pub site-before : {s : Counters} {q : Parts} {A B : (ℕ → ℕ) → Type 0} (x : SiteInfo) → Depths base (past_site s) q A B → Depths base s (joined (one_site x) q) A B
  unfolding one_site
  site-before {s = s} x h = flat-before (one_site x) refl refl (after-site s x) h

  pub choice-before : {s : Counters} {q : Parts} {A B : (ℕ → ℕ) → Type 0} (x : Choice) → Depths base (past_choice s) q A B → Depths base s (joined (one_choice x) q) A B
  unfolding one_choice
  choice-before {s = s} x h = flat-before (one_choice x) refl refl (after-choice s x) h

  pub automaton-before : {s : Counters} {q : Parts} {A B : (ℕ → ℕ) → Type 0} (x : Auto) → Depths base (past_automaton s) q A B → Depths base s (joined (one_automaton x) q) A B
  unfolding one_automaton
  automaton-before {s = s} x h = flat-before (one_automaton x) refl refl (after-automaton s x) h

  pub place-depths : (s : Counters) (x : PlaceInfo) (A : (ℕ → ℕ) → Type 0) → Depths base s (one_place x) A Nothing
  unfolding one_place
  place-depths s x A = flat-depths s (one_place x) A refl refl

  pub places-depths : (s : Counters) (xs : List PlaceInfo) (A : (ℕ → ℕ) → Type 0) → Depths base s (some_places xs) A Nothing
  unfolding some_places
  places-depths s xs A = flat-depths s (some_places xs) A refl refl

  pub definers-depths : (s : Counters) (xs : List Given) (A : (ℕ → ℕ) → Type 0) → Depths base s (some_definers xs) A Nothing
  unfolding some_definers
  definers-depths s xs A = flat-depths s (some_definers xs) A refl refl
