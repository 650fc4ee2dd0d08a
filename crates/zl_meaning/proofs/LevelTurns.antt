-- Levels by turns: that of a value from those of what it is made of, that of a use from those of what decides it. Both stay
-- below what all that is read stays below.
use Rattle.std.specs.Prelude.{◌≡◌, ℕ, zero, suc, ◌+◌, ◌-◌, ◌<◌, ◌≤◌, max, Bool, List, ◌∷◌, slice_get, Option, Some, None}
use Rattle.std.specs.Option.{option_and_then}
use Rattle.std.proofs.Common.{refl, sym, ap, ◌∙◌, subst, arith}
use Rattle.zl_value.specs.Lists.{Has}
use Rattle.zl_meaning.specs.FlatForm.{FlatForm, IsWithin, Same, IsWithin.Inside as Within, call_of, parent_of}
use Rattle.zl_meaning.specs.Uses.{Use, PartOf, BranchOf, DefinerOf, SlopeOf, EventOf, StartOf, ResetOf, TestOf, ArgumentOf, AgainOf, IsUse, AsPart, AsBranch, AsReset, uses_of, events_of}
use Rattle.zl_meaning.specs.Branches.{IsPart, Under, Is, Part, Called}
use Rattle.zl_meaning.specs.WellFormed.{IsWellFormed, IsCalled, named_in}
use Rattle.zl_meaning.specs.Depends.{Thing, PlaceThing, BlockThing, OccReads, Name, LastOf, LastBlock, Part as ReadsPart}
use Rattle.zl_meaning.specs.declared.place.Definer.{Definer}
use Rattle.zl_meaning.specs.declared.place.Definer.TheVariants.{Der}
use Rattle.zl_meaning.specs.declared.occurrence.Form.{Form}
use Rattle.zl_meaning.specs.declared.occurrence.Form.TheVariants.{Lit, Read, Last, Op as Apply, If, Arrow, Pre, Result, Up, Fired, Step}
use Rattle.zl_meaning.specs.declared.occurrence.Occ.{Occ}
use Rattle.zl_meaning.proofs.Greatest.{most_of, max-less, max-more, most-less, most-more}
use Rattle.zl_meaning.proofs.LevelsGrow.{start-stands}
use Rattle.zl_meaning.proofs.LevelLists.{named-value}
use Rattle.zl_meaning.proofs.Members.{has-later}
use Rattle.zl_meaning.proofs.Standing.{IsIn, part-in, part-of-form, read-part, event-named, steady-part, branch-part, definer-in}
use Rattle.zl_meaning.proofs.UseCases.{use-of-listed}
use Rattle.zl_meaning.proofs.ValueOrder.{Needs, OfPart, OfStart, made_of, needs-made}

-- ---- turns

abbrev pub turns : ((ℕ → ℕ) → ℕ → ℕ) → ℕ → ℕ → ℕ
turns step zero k = 0
turns step (suc n) k = step (turns step n) k

-- more turns give no less, if more below gives no less
module _ (step : (ℕ → ℕ) → ℕ → ℕ) (more : (g h : ℕ → ℕ) → ((j : ℕ) → g j ≤ h j) → (k : ℕ) → step g k ≤ step h k) where
  turn-next : (n k : ℕ) → turns step n k ≤ turns step (suc n) k
  turn-next zero k = omega arith
  turn-next (suc n) k = more (turns step n) (turns step (suc n)) (turn-next n) k

  turn-more : (d n k : ℕ) → turns step n k ≤ turns step (d + n) k
  turn-more zero n k = let e : n ≡ 0 + n = omega arith in let q = ap (λ m. turns step m k) e in omega (arith, q)
  turn-more (suc d) n k =
      let p = turn-more d n k in
      let q = turn-next (d + n) k in
      let e : suc d + n ≡ suc (d + n) = omega arith in
      let s = ap (λ m. turns step m k) e in
      omega (arith, p, q, s)

  pub turn-least : (m n k : ℕ) → m ≤ n → turns step m k ≤ turns step n k
  turn-least m n k le =
      let e : n ≡ (n - m) + m = omega (arith, le) in
      let s = ap (λ i. turns step i k) e in
      let p = turn-more (n - m) m k in
      omega (arith, p, s)

-- ---- values

abbrev pub named_level : (ℕ → ℕ) → Form → ℕ
named_level place (Read p) = place p
named_level place form = 0

abbrev pub value_level : FlatForm → (ℕ → ℕ) → (ℕ → ℕ) → (ℕ → ℕ) → Option Occ → ℕ
value_level f place block below None = 0
value_level f place block below (Some occ) = max (block occ.block) (max (named_level place occ.form) (most_of below (made_of f occ.form)))

abbrev pub value_step : FlatForm → (ℕ → ℕ) → (ℕ → ℕ) → (ℕ → ℕ) → ℕ → ℕ
value_step f place block below k = value_level f place block below (slice_get f.occs k)

-- ---- uses

abbrev pub call_level : (ℕ → ℕ) → Option ℕ → ℕ
call_level below None = 0
call_level below (Some call) = below call

abbrev pub use_level : (ℕ → ℕ) → (ℕ → ℕ) → Use → ℕ
use_level value below (PartOf whole) = below whole
use_level value below (BranchOf whole c side) = max (below whole) (value c)
use_level value below (ResetOf call events arm) = most_of value events
use_level value below (DefinerOf call) = 0
use_level value below (SlopeOf call) = 0
use_level value below (EventOf call) = 0
use_level value below (StartOf call b) = 0
use_level value below TestOf = 0
use_level value below ArgumentOf = 0
use_level value below AgainOf = 0

abbrev pub used_level : FlatForm → (ℕ → ℕ) → (ℕ → ℕ) → (ℕ → ℕ) → ℕ → Option Occ → ℕ
used_level f block value below k None = 0
used_level f block value below k (Some occ) = max (block occ.block) (max (call_level below occ.call) (most_of (use_level value below) (uses_of f k)))

abbrev pub used_step : FlatForm → (ℕ → ℕ) → (ℕ → ℕ) → (ℕ → ℕ) → ℕ → ℕ
used_step f block value below k = used_level f block value below k (slice_get f.occs k)

module _ (f : FlatForm) (place block value : ℕ → ℕ) where
  pub value-more : (g h : ℕ → ℕ) → ((j : ℕ) → g j ≤ h j) → (k : ℕ) → value_step f place block g k ≤ value_step f place block h k
  value-more g h le k = by_occ (slice_get f.occs k)
    where
      by_occ : (o : Option Occ) → value_level f place block g o ≤ value_level f place block h o
      by_occ None = omega arith
      by_occ (Some occ) = let made = most-more g h (made_of f occ.form) le in max-more {a = block occ.block} {c = block occ.block} (omega arith) (max-more {a = named_level place occ.form} {c = named_level place occ.form} (omega arith) made)

  use-more : (g h : ℕ → ℕ) → ((j : ℕ) → g j ≤ h j) → (of : Use) → use_level value g of ≤ use_level value h of
  use-more g h le (PartOf whole) = le whole
  use-more g h le (BranchOf whole c side) = max-more {b = value c} {d = value c} (le whole) (omega arith)
  use-more g h le (ResetOf call events arm) = omega arith
  use-more g h le (DefinerOf call) = omega arith
  use-more g h le (SlopeOf call) = omega arith
  use-more g h le (EventOf call) = omega arith
  use-more g h le (StartOf call b) = omega arith
  use-more g h le TestOf = omega arith
  use-more g h le ArgumentOf = omega arith
  use-more g h le AgainOf = omega arith

  call-more : (g h : ℕ → ℕ) → ((j : ℕ) → g j ≤ h j) → (call : Option ℕ) → call_level g call ≤ call_level h call
  call-more g h le None = omega arith
  call-more g h le (Some call) = le call

  pub used-more : (g h : ℕ → ℕ) → ((j : ℕ) → g j ≤ h j) → (k : ℕ) → used_step f block value g k ≤ used_step f block value h k
  used-more g h le k = by_occ (slice_get f.occs k)
    where
      by_occ : (o : Option Occ) → used_level f block value g k o ≤ used_level f block value h k o
      by_occ None = omega arith
      by_occ (Some occ) = max-more {a = block occ.block} {c = block occ.block} (omega arith) (max-more (call-more g h le occ.call) (most-more (use_level value g) (use_level value h) (uses_of f k) (use-more g h le)))

-- ---- both are bounded

abbrev pub level_in : (ℕ → ℕ) → (ℕ → ℕ) → Thing → ℕ
level_in place block (PlaceThing p) = place p
level_in place block (BlockThing b) = block b

-- the block of occurrence number `k` is below `n`
abbrev pub StandsBelow : FlatForm → (ℕ → ℕ) → ℕ → ℕ → Type 0
StandsBelow f block n k = (occ : Occ) → slice_get f.occs k ≡ Some occ → block occ.block < n

-- `k` stands in a branch whose condition `t` is, or under a reset value beside whose events `t` is
pub data IsDecidedBy (f : FlatForm) (k t : ℕ) : Type 0 where
  ByCondition : (whole : ℕ) (side : Bool) → Under f (BranchOf whole t side) k → IsDecidedBy f k t
  ByEvent : (call : Option ℕ) (all : List ℕ) (arm : ℕ) → Under f (ResetOf call all arm) k → Has all t → IsDecidedBy f k t

module _ (f : FlatForm) (well : IsWellFormed f) (place block : ℕ → ℕ) (rise : (b parent : ℕ) → parent_of f b ≡ Some parent → block parent < block b) where
  pub within-rises : (outer inner : ℕ) → IsWithin f outer inner → block outer ≤ block inner
  within-rises outer _ Same = omega arith
  within-rises outer _ (Within inner parent up within) = let low = rise inner parent up in let rest = within-rises outer parent within in omega (arith, low, rest)

  pub below-in : (n k b : ℕ) → IsIn f b k → block b < n → StandsBelow f block n k
  below-in n k b s low occ is = let e = same s.1.occ s.1.is s.1.block in let at = ap block e in omega (arith, at, low)
    where
      same : (other : Occ) → slice_get f.occs k ≡ Some other → other.block ≡ b → occ.block ≡ b
      same other at e = cc

  pub part-below : (n k whole : ℕ) → IsPart f k whole → StandsBelow f block n whole → StandsBelow f block n k
  part-below n k whole part low = below-in n k part.occ.block (part-in f well k whole part) (low part.occ part.is)

  pub whole-below : (n k whole : ℕ) → IsPart f k whole → StandsBelow f block n k → StandsBelow f block n whole
  whole-below n k whole part low occ is =
      let s = part-in f well k whole part in
      let here = low s.1.occ s.1.is in
      let e = same part.occ part.is in
      let at = ap block (s.1.block ∙ sym e) in
      omega (arith, here, at)
    where
      same : (other : Occ) → slice_get f.occs whole ≡ Some other → occ.block ≡ other.block
      same other at = cc

  pub call-below : (n k call : ℕ) → call_of f k ≡ Some call → StandsBelow f block n k → StandsBelow f block n call
  call-below n k call at low = by_occ (slice_get f.occs k) refl at
    where
      outward : (occ : Occ) → slice_get f.occs k ≡ Some occ → IsCalled f occ.block (Some call) → StandsBelow f block n call
      outward occ is there =
          let inside = within-rises there.0.block occ.block there.2 in
          let here = low occ is in
          λ other is_other. (let e = same there.0 other there.1 is_other in let same_level = ap (λ (o : Occ). block o.block) e in omega (arith, inside, here, same_level))
        where
          same : (x y : Occ) → slice_get f.occs call ≡ Some x → slice_get f.occs call ≡ Some y → x ≡ y
          same x y p q = cc

      by_occ : (o : Option Occ) → slice_get f.occs k ≡ o → option_and_then (λ (occ : Occ). occ.call) o ≡ Some call → StandsBelow f block n call
      by_occ None is e = absurd (cc)
      by_occ (Some occ) is e = outward occ is (subst (IsCalled f occ.block) e (well.occs k occ is).call)

  -- ---- values

  abbrev pub IsBounded : (ℕ → ℕ) → Type 0
  IsBounded g = (n k : ℕ) → 0 < n → StandsBelow f block n k → ((thing : Thing) → OccReads f k thing → level_in place block thing < n) → g k < n

  module _ (g : ℕ → ℕ) (ih : IsBounded g) (n k : ℕ) (some : 0 < n) (own : StandsBelow f block n k) (reads : (thing : Thing) → OccReads f k thing → level_in place block thing < n) where
    made-bounded : (j : ℕ) → Needs f k j → g j < n
    made-bounded j (OfPart form there h) =
        ih n j some (part-below n j k (part-of-form f j k form there (read-part form j h)) own) (λ thing r. reads thing (ReadsPart k j form thing there h r))
    made-bounded j (OfStart p b there has) =
        ih n j some (below-in n j b (_, start-stands f well p b j has) (reads (BlockThing b) (LastBlock k p b j there has))) (λ thing r. reads thing (LastOf k p b j thing there has r))

    named-bounded : (occ : Occ) → slice_get f.occs k ≡ Some occ → (form : Form) → occ.form ≡ form → named_level place form < n
    named-bounded occ is (Read p) e = reads (PlaceThing p) (Name k p (occ, is, e))
    named-bounded occ is (Lit x) e = some
    named-bounded occ is (Last p) e = some
    named-bounded occ is (Apply op ks) e = some
    named-bounded occ is (If c x y) e = some
    named-bounded occ is (Arrow x y) e = some
    named-bounded occ is (Pre x) e = some
    named-bounded occ is (Result x) e = some
    named-bounded occ is (Up site) e = some
    named-bounded occ is (Fired ks) e = some
    named-bounded occ is Step e = some

    value-in-bound : (o : Option Occ) → slice_get f.occs k ≡ o → value_level f place block g o < n
    value-in-bound None is = some
    value-in-bound (Some occ) is =
        max-less (own occ is) (max-less (named-bounded occ is occ.form refl) (most-less g (made_of f occ.form) n some (λ j h. made-bounded j (needs-made f k j occ is h))))

  pub value-bounded : (m : ℕ) → IsBounded (turns (value_step f place block) m)
  value-bounded zero = λ n k some own reads. some
  value-bounded (suc m) = λ n k some own reads. value-in-bound (turns (value_step f place block) m) (value-bounded m) n k some own reads (slice_get f.occs k) refl

  -- ---- uses

  module _ (value : ℕ → ℕ) where
    abbrev pub IsUseBounded : (ℕ → ℕ) → Type 0
    IsUseBounded g = (n k : ℕ) → 0 < n → StandsBelow f block n k → ((t : ℕ) → IsDecidedBy f k t → value t < n) → g k < n

    decided-part : (k whole t : ℕ) → IsPart f k whole → IsDecidedBy f whole t → IsDecidedBy f k t
    decided-part k whole t part (ByCondition w side under) = ByCondition w side (Part k whole part under)
    decided-part k whole t part (ByEvent call all arm under h) = ByEvent call all arm (Part k whole part under) h

    decided-call : (k call t : ℕ) → call_of f k ≡ Some call → IsDecidedBy f call t → IsDecidedBy f k t
    decided-call k call t at (ByCondition w side under) = ByCondition w side (Called k call at under)
    decided-call k call t at (ByEvent of all arm under h) = ByEvent of all arm (Called k call at under) h

    module _ (g : ℕ → ℕ) (ih : IsUseBounded g) (n k : ℕ) (some : 0 < n) (own : StandsBelow f block n k) (decides : (t : ℕ) → IsDecidedBy f k t → value t < n) where
      whole-bounded : (whole : ℕ) → IsPart f k whole → g whole < n
      whole-bounded whole part = ih n whole some (whole-below n k whole part own) (λ t d. decides t (decided-part k whole t part d))

      use-bounded : (of : Use) → IsUse f k of → use_level value g of < n
      use-bounded _ (AsPart whole form there h) = whole-bounded whole (part-of-form f k whole form there (steady-part form k h))
      use-bounded _ (AsBranch whole c x y side there e) =
          max-less (whole-bounded whole (branch-part f side k whole c x y there e)) (decides c (ByCondition whole side (Is k (AsBranch whole c x y side there e))))
      use-bounded _ (AsReset p b slope m arms arm call has there e at) =
          most-less value (events_of arms) n some (λ t h. decides t (ByEvent call (events_of arms) m (Is k (AsReset p b slope m arms arm call has there e at)) h))
      use-bounded _ _ = some

      called-bounded : (occ : Occ) → slice_get f.occs k ≡ Some occ → (call : Option ℕ) → occ.call ≡ call → call_level g call < n
      called-bounded occ is None e = some
      called-bounded occ is (Some call) e =
          let at : call_of f k ≡ Some call = ap (option_and_then (λ (o : Occ). o.call)) is ∙ e in
          ih n call some (call-below n k call at own) (λ t d. decides t (decided-call k call t at d))

      used-in-bound : (o : Option Occ) → slice_get f.occs k ≡ o → used_level f block value g k o < n
      used-in-bound None is = some
      used-in-bound (Some occ) is =
          max-less (own occ is) (max-less (called-bounded occ is occ.call refl) (most-less (use_level value g) (uses_of f k) n some (λ of h. use-bounded of (use-of-listed f k of h))))

    pub used-bounded : (m : ℕ) → IsUseBounded (turns (used_step f block value) m)
    used-bounded zero = λ n k some own decides. some
    used-bounded (suc m) = λ n k some own decides. used-in-bound (turns (used_step f block value) m) (used-bounded m) n k some own decides (slice_get f.occs k) refl

  -- what decides an occurrence stands in a block around it
  pub in-below : (n k b : ℕ) → IsIn f b k → StandsBelow f block n k → block b < n
  in-below n k b s low = subst (λ c. block c < n) s.1.block (low s.1.occ s.1.is)

  condition-below : (n whole t : ℕ) (side : Bool) (k : ℕ) → Under f (BranchOf whole t side) k → StandsBelow f block n k → StandsBelow f block n t
  condition-below n whole t side _ (Is k (AsBranch _ _ x y _ there e)) low =
      part-below n t whole (part-of-form f t whole (If t x y) there (record { index = 0; is = refl })) (whole-below n k whole (branch-part f side k whole t x y there e) low)
  condition-below n whole t side _ (Part k outer part under) low = condition-below n whole t side outer under (whole-below n k outer part low)
  condition-below n whole t side _ (Called k call at under) low = condition-below n whole t side call under (call-below n k call at low)

  event-below : (n : ℕ) (of : Option ℕ) (all : List ℕ) (arm t : ℕ) → Has all t → (k : ℕ) → Under f (ResetOf of all arm) k → StandsBelow f block n k → StandsBelow f block n t
  event-below n of _ arm t h _ (Is k (AsReset p b slope _ arms the _ has there e at)) low =
      let definer : Definer = Der b slope arms in
      let value = definer-in f well p k definer has (subst (Has (slope ∷ named_in arms)) e (has-later slope (named_in arms) the.value (named-value arms the (record { index = arm; is = there })))) in
      let event = definer-in f well p t definer has (has-later slope (named_in arms) t (event-named arms t h)) in
      let same : value.0 ≡ event.0 = sym value.1 ∙ event.1 in
      below-in n t event.0 event.2 (subst (λ c. block c < n) same (in-below n k value.0 value.2 low))
  event-below n of all arm t h _ (Part k outer part under) low = event-below n of all arm t h outer under (whole-below n k outer part low)
  event-below n of all arm t h _ (Called k call at under) low = event-below n of all arm t h call under (call-below n k call at low)

  pub decided-below : (n k t : ℕ) → IsDecidedBy f k t → StandsBelow f block n k → StandsBelow f block n t
  decided-below n k t (ByCondition whole side under) low = condition-below n whole t side k under low
  decided-below n k t (ByEvent of all arm under h) low = event-below n of all arm t h k under low
