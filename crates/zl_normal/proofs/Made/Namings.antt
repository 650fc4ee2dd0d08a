-- One place alone names an occurrence that has one use.
use Rattle.std.specs.Prelude.{◌≡◌, ℕ, zero, suc, ◌+◌, ◌<◌, ◌≤◌, Bool, true, false, nat_eq, List, [], ◌∷◌, ◌++◌, length, slice_get, Option, Some}
use Rattle.std.specs.List.{AllByRecursion, flat_map}
use Rattle.std.proofs.Common.{refl, sym, ap, ◌∙◌, arith, subst, length-append}
use Rattle.std.proofs.lemmas.Bool.{eqb-true, eq-eqb}
use Rattle.zl_value.specs.Lists.{Has, among, when}
use Rattle.zl_meaning.specs.FlatForm.{FlatForm, HasDefiner}
use Rattle.zl_meaning.specs.Single.{is_start, IsSingle}
use Rattle.zl_meaning.specs.Uses.{Use, TestOf, ArgumentOf, AgainOf, SlopeOf, EventOf, ResetOf, arm_uses, definer_uses, place_uses, uses_in_occs, is_test, is_argument, events_of, uses_of}
use Rattle.zl_meaning.specs.declared.place.Definer.{Definer}
use Rattle.zl_meaning.specs.declared.place.Definer.TheVariants.{Input, Plain, Der, Start}
use Rattle.zl_meaning.specs.declared.place.DerArm.{DerArm}
use Rattle.zl_meaning.specs.declared.place.PlaceInfo.{PlaceInfo}
use Rattle.zl_meaning.proofs.Members.{has-none, has-cases}
use Rattle.zl_normal.specs.MainBlock.{IsMain}
use Rattle.zl_normal.specs.PlaceWires.{definer_of}
use Rattle.zl_normal.proofs.Instants.Follows.{some_is}
use Rattle.zl_normal.proofs.Flows.Motions.{IsAlone, alone}

-- what has an entry that gives something gives something
gives_some : {X Y : Type 0} (g : X → List Y) (xs : List X) (x : X) → Has xs x → 1 ≤ length (g x) → 1 ≤ length (flat_map g xs)
gives_some g [] x h some = absurd (has-none x h)
gives_some g (y ∷ ys) x h some =
    let both : length (g y ++ flat_map g ys) ≡ length (g y) + length (flat_map g ys) = length-append (g y) (flat_map g ys) in
    has-cases (1 ≤ length (flat_map g (y ∷ ys))) y ys x h (λ e. let first : 1 ≤ length (g y) = subst (λ z. 1 ≤ length (g z)) (sym e) some in omega (arith, both, first))
    (λ i. let later = gives_some g ys x i some in omega (arith, both, later))

-- two entries that give something give two
gives_two : {X Y : Type 0} (g : X → List Y) (xs : List X) (p q : ℕ) (x y : X) → slice_get xs p ≡ Some x → slice_get xs q ≡ Some y → p < q → 1 ≤ length (g x) → 1 ≤ length (g y) → 2 ≤ length (flat_map g xs)
gives_two g [] p q x y a b less some also = absurd cc
gives_two g (z ∷ zs) p zero x y a b less some also = absurd (omega (arith, less))
gives_two g (z ∷ zs) zero (suc q) x y a b less some also =
    let both : length (g z ++ flat_map g zs) ≡ length (g z) + length (flat_map g zs) = length-append (g z) (flat_map g zs) in
    let same : z ≡ x = some_is z x a in
    let first : 1 ≤ length (g z) = subst (λ v. 1 ≤ length (g v)) (sym same) some in
    let later = gives_some g zs y (record { index = q; is = b }) also in
    omega (arith, both, first, later)
gives_two g (z ∷ zs) (suc p) (suc q) x y a b less some also =
    let both : length (g z ++ flat_map g zs) ≡ length (g z) + length (flat_map g zs) = length-append (g z) (flat_map g zs) in
    let later = gives_two g zs p q x y a b (omega (arith, less)) some also in
    omega (arith, both, later)

behind : {Y : Type 0} (us vs : List Y) → 1 ≤ length vs → 1 ≤ length (us ++ vs)
behind us vs some = let both = length-append us vs in omega (arith, both, some)

ahead : {Y : Type 0} (us vs : List Y) → 1 ≤ length us → 1 ≤ length (us ++ vs)
ahead us vs some = let both = length-append us vs in omega (arith, both, some)

front : {Y : Type 0} (us vs : List Y) → length us ≤ length (us ++ vs)
front us vs = let both = length-append us vs in omega (arith, both)

back : {Y : Type 0} (us vs : List Y) → length vs ≤ length (us ++ vs)
back us vs = let both = length-append us vs in omega (arith, both)

steps : (a b c d e : ℕ) → a ≤ b → b ≤ c → c ≤ d → d ≤ e → a ≤ e
steps a b c d e g h i j = omega (arith, g, h, i, j)

when_true : {X : Type 0} (b : Bool) (x : X) → b ≡ true → 1 ≤ length (when b x)
when_true true x e = omega arith
when_true false x e = absurd cc

module _ (f : FlatForm) (j : ℕ) where
  -- the arm whose value it is gives a use
  arm_gives : (call : Option ℕ) (events : List ℕ) (m : ℕ) (arms : List DerArm) (i : ℕ) (arm : DerArm) → slice_get arms i ≡ Some arm → arm.value ≡ j → 1 ≤ length (arm_uses j call events m arms)
  arm_gives call events m [] i arm is e = absurd cc
  arm_gives call events m (a ∷ arms) zero arm is e =
      let same : a ≡ arm = some_is a arm is in
      ahead (when (nat_eq a.event j) (EventOf call) ++ when (nat_eq a.value j) (ResetOf call events m)) (arm_uses j call events (suc m) arms)
      (behind (when (nat_eq a.event j) (EventOf call)) (when (nat_eq a.value j) (ResetOf call events m)) (when_true (nat_eq a.value j) (ResetOf call events m) (eq-eqb a.value j (ap (λ (x : DerArm). x.value) same ∙ e))))
  arm_gives call events m (a ∷ arms) (suc i) arm is e =
      behind (when (nat_eq a.event j) (EventOf call) ++ when (nat_eq a.value j) (ResetOf call events m)) (arm_uses j call events (suc m) arms) (arm_gives call events (suc m) arms i arm is e)

  -- and so the place
  place_gives : (place : PlaceInfo) (b s : ℕ) (arms : List DerArm) → Has place.definers (Der b s arms) → (i : ℕ) (arm : DerArm) → slice_get arms i ≡ Some arm → arm.value ≡ j → 1 ≤ length (place_uses j place)
  place_gives place b s arms has i arm is e =
      gives_some (definer_uses j place.call) place.definers (Der b s arms) has
      (behind (when (nat_eq s j) (SlopeOf place.call)) (arm_uses j place.call (events_of arms) 0 arms) (arm_gives place.call (events_of arms) 0 arms i arm is e))

  places_within : length (flat_map (place_uses j) f.places) ≤ length (uses_of f j)
  places_within =
      let us = uses_in_occs j 0 f.occs in
      let vs = flat_map (place_uses j) f.places in
      let ts = when (is_test f j) TestOf in
      let gs = when (is_argument f j) ArgumentOf in
      let ns = when (among j f.again) AgainOf in
      let one : length (us ++ vs) ≤ length (us ++ vs ++ ts) = front (us ++ vs) ts in
      let two : length (us ++ vs ++ ts) ≤ length (us ++ vs ++ ts ++ gs) = front (us ++ vs ++ ts) gs in
      let three : length (us ++ vs ++ ts ++ gs) ≤ length (us ++ vs ++ ts ++ gs ++ ns) = front (us ++ vs ++ ts ++ gs) ns in
      let four : length vs ≤ length (us ++ vs) = back us vs in
      steps _ _ _ _ _ four one two three

  -- one place names it as the value of a reset arm
  pub one_place : (u : Use) → uses_of f j ≡ u ∷ [] → (p q b s c d : ℕ) (arms others : List DerArm) → HasDefiner f p (Der b s arms) → HasDefiner f q (Der c d others) → (i m : ℕ) (arm other : DerArm) → slice_get arms i ≡ Some arm → arm.value ≡ j → slice_get others m ≡ Some other → other.value ≡ j → p ≡ q
  one_place u e p q b s c d arms others has also i m arm other is value is2 value2 = by (nat_eq p q) refl
    where
      one : length (uses_of f j) ≡ 1
      one = ap (λ l. length l) e

      some : 1 ≤ length (place_uses j has.0)
      some = place_gives has.0 b s arms has.2 i arm is value

      more : 1 ≤ length (place_uses j also.0)
      more = place_gives also.0 c d others also.2 m other is2 value2

      never : (x y : ℕ) → x < y → (v z : PlaceInfo) → slice_get f.places x ≡ Some v → slice_get f.places y ≡ Some z → 1 ≤ length (place_uses j v) → 1 ≤ length (place_uses j z) → ⊥
      never x y less v z a b g h =
          let two = gives_two (place_uses j) f.places x y v z a b less g h in
          let within = places_within in
          let single = one in
          omega (arith, two, within, single)

      by : (r : Bool) → nat_eq p q ≡ r → p ≡ q
      by true e = eqb-true p q e
      by false e =
          let unlike : p ≡ q → ⊥ = λ s. let z = sym e ∙ eq-eqb p q s in absurd cc in
          let low : p < q → ⊥ = λ l. never p q l has.0 also.0 has.1 also.1 some more in
          let high : q < p → ⊥ = λ l. never q p l also.0 has.0 also.1 has.1 more some in
          absurd (trichotomy p q unlike low high)
        where
          trichotomy : (p q : ℕ) → (p ≡ q → ⊥) → (p < q → ⊥) → (q < p → ⊥) → ⊥
          trichotomy zero zero a b c = a refl
          trichotomy zero (suc q) a b c = b (omega arith)
          trichotomy (suc p) zero a b c = c (omega arith)
          trichotomy (suc p) (suc q) a b c = trichotomy p q (λ e. a (ap (λ m. suc m) e)) (λ l. b (omega (arith, l))) (λ l. c (omega (arith, l)))

-- the one definer beside `init`
starts_only : (definers : List Definer) → AllByRecursion (λ other. is_start other ≡ true) definers → (d : Definer) → Has definers d → is_start d ≡ false → ⊥
starts_only [] starts d h e = has-none d h
starts_only (x ∷ definers) starts d h e =
    has-cases ⊥ x definers d h (λ s. let z : is_start x ≡ false = ap (λ y. is_start y) s ∙ e in let a = starts.0 in absurd cc) (λ i. starts_only definers starts.1 d i e)

definer_found : (definers : List Definer) → IsAlone definers → (d : Definer) → Has definers d → is_start d ≡ false → definer_of definers ≡ Some d
definer_found [] one d h e = absurd (has-none d h)
definer_found (Input m ∷ definers) one d h e = has-cases (Some (Input m) ≡ Some d) (Input m) definers d h (λ s. ap (λ x. Some x) s) (λ i. absurd (starts_only definers one d i e))
definer_found (Plain b a ∷ definers) one d h e = has-cases (Some (Plain b a) ≡ Some d) (Plain b a) definers d h (λ s. ap (λ x. Some x) s) (λ i. absurd (starts_only definers one d i e))
definer_found (Der b a arms ∷ definers) one d h e = has-cases (Some (Der b a arms) ≡ Some d) (Der b a arms) definers d h (λ s. ap (λ x. Some x) s) (λ i. absurd (starts_only definers one d i e))
definer_found (Start b a ∷ definers) one d h e =
    has-cases (definer_of definers ≡ Some d) (Start b a) definers d h (λ s. let z : is_start (Start b a) ≡ false = ap (λ y. is_start y) s ∙ e in absurd cc) (λ i. definer_found definers one d i e)

pub one_definer : (f : FlatForm) → IsMain f → IsSingle f → (p : ℕ) (d : Definer) → (has : HasDefiner f p d) → is_start d ≡ false → definer_of has.0.definers ≡ Some d
one_definer f main single p d has e = definer_found has.0.definers (alone f main single p has.0 has.1) d has.2 e
