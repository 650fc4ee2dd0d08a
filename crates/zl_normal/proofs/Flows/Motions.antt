-- What moves in a flow of a normal form is what moves in the form's flow, in the same order.
use Rattle.std.specs.Prelude.{◌≡◌, ℕ, zero, suc, ◌+◌, Bool, true, false, List, [], ◌∷◌, ◌++◌, slice_get, Option, Some, None}
use Rattle.std.specs.List.{AllByRecursion}
use Rattle.std.specs.Option.{option_map}
use Rattle.std.proofs.Common.{refl, sym, ap, ap₂, ◌∙◌, arith, subst}
use Rattle.zl_value.specs.Instants.{Instant, History}
use Rattle.zl_value.specs.declared.position.Pos.{Pos}
use Rattle.zl_value.specs.declared.value.Value.{Value}
use Rattle.zl_value.specs.declared.value.Value.TheVariants.{B, I, F}
use Rattle.zl_meaning.specs.FlatForm.{FlatForm}
use Rattle.zl_normal.specs.Evaluated.{HasGuardRanks}
use Rattle.zl_meaning.specs.Single.{AreApart, AreBodies, OfChoice, OfAutomaton, is_start, IsSingle}
use Rattle.zl_meaning.specs.State.{Table, State, state_in, AtControl, AtPlace, AtValue, Active, is_active}
use Rattle.zl_meaning.specs.Slopes.{derivative_by, motion as place_motion, motion_by as place_motion_by, motions as place_motions}
use Rattle.zl_meaning.specs.declared.block.Block.{Block}
use Rattle.zl_meaning.specs.declared.block.BlockKind.{BlockKind}
use Rattle.zl_meaning.specs.declared.block.BlockKind.TheVariants.{Main}
use Rattle.zl_meaning.specs.declared.place.Definer.{Definer}
use Rattle.zl_meaning.specs.declared.place.Definer.TheVariants.{Input, Plain, Der, Start}
use Rattle.zl_meaning.specs.declared.place.DerArm.{DerArm}
use Rattle.zl_meaning.specs.declared.place.PlaceInfo.{PlaceInfo}
use Rattle.zl_kernel.specs.KernelForm.{KernelForm}
use Rattle.zl_kernel.specs.Wires.{Registers, held, is_open, turn}
use Rattle.zl_kernel.specs.Motions.{motion, motion_by, motions}
use Rattle.zl_kernel.specs.System.{flow_moment}
use Rattle.zl_kernel.specs.declared.memory.KMem.{KMem}
use Rattle.zl_normal.specs.Wiring.{Wiring}
use Rattle.zl_normal.specs.PlaceWires.{definer_of, IsDefined, IsDer}
use Rattle.zl_normal.specs.MainBlock.{InMain, IsMain}
use Rattle.zl_normal.specs.SlopeWires.{AreMotions, Done, StillMemory, StillPlace, Moving}
use Rattle.zl_normal.specs.Normal.{IsNormalAtInstants, IsNormalInFlows}
use Rattle.zl_normal.proofs.Instants.Follows.{Follow, some_is}
use Rattle.zl_normal.proofs.Flows.Beginnings.{slope_is, no_value}

motion_is : (at : Pos) (x y : Option Value) → motion at x y ≡ place_motion at x y
motion_is at (Some (F a)) (Some (F b)) = refl
motion_is at (Some (F a)) (Some (B b)) = refl
motion_is at (Some (F a)) (Some (I b)) = refl
motion_is at (Some (F a)) None = refl
motion_is at (Some (B a)) y = refl
motion_is at (Some (I a)) y = refl
motion_is at None y = refl

-- the derivative of a place whose definers are active
abbrev derivative_of : Option Definer → Option ℕ
derivative_of (Some (Der b a arms)) = Some a
derivative_of _ = None

-- no definer beside `init` stands behind the first
abbrev pub IsAlone : List Definer → Type 0
IsAlone [] = Unit {0}
IsAlone (Start b a ∷ definers) = IsAlone definers
IsAlone (definer ∷ definers) = AllByRecursion (λ other. is_start other ≡ true) definers

-- bodies apart don't stand in a form that has the main block alone
never_apart : (f : FlatForm) → IsMain f → (a b : ℕ) → AreApart f a b → ⊥
never_apart f main a b apart = by apart.left apart.left_kind apart.right_kind apart.bodies (sym (ap (λ l. option_map (λ (block : Block). block.kind) (slice_get l apart.left)) main.blocks) ∙ apart.left_is)
  where
    by : (n : ℕ) (x y : BlockKind) → AreBodies x y → option_map (λ (block : Block). block.kind) (slice_get (main.block ∷ []) n) ≡ Some x → ⊥
    by zero x y bodies e = apart_main x y bodies (sym main.kind ∙ some_is main.block.kind x e)
      where
        apart_main : (x y : BlockKind) → AreBodies x y → Main ≡ x → ⊥
        apart_main _ _ (OfChoice of m n d) q = absurd cc
        apart_main _ _ (OfAutomaton of m n d) q = absurd cc
    by (suc n) x y bodies e = absurd cc

module _ (f : FlatForm) (main : IsMain f) (single : IsSingle f) where
  -- what stands in a list of definers from a number on
  all_starts : (p : ℕ) (place : PlaceInfo) → slice_get f.places p ≡ Some place → (m : ℕ) (first : Definer) → slice_get place.definers m ≡ Some first → is_start first ≡ false → (n : ℕ) (rest : List Definer) → ((i : ℕ) (other : Definer) → slice_get rest i ≡ Some other → slice_get place.definers (suc m + (n + i)) ≡ Some other) → AllByRecursion (λ other. is_start other ≡ true) rest
  all_starts p place is m first at proper n [] there = tt
  all_starts p place is m first at proper n (other ∷ rest) there = (
    by (is_start other) refl,
    all_starts p place is m first at proper (suc n) rest (λ i x e. let z : n + suc i ≡ suc n + i = omega arith in subst (λ v. slice_get place.definers (suc m + v) ≡ Some x) z (there (suc i) x e)),
  )
    where
      by : (b : Bool) → is_start other ≡ b → is_start other ≡ true
      by true e = e
      by false e =
          absurd
          (never_apart f main _ _
          (single.definers p m (suc m + (n + 0)) place first other is at (there 0 other refl) (λ q. let z : suc m + (n + 0) ≡ suc (m + n) = omega arith in omega (arith, q, z)) (proper ∙ sym e)))

  rest_alone : (p : ℕ) (place : PlaceInfo) → slice_get f.places p ≡ Some place → (m : ℕ) (first : Definer) (rest : List Definer) → ((i : ℕ) (other : Definer) → slice_get (first ∷ rest) i ≡ Some other → slice_get place.definers (m + i) ≡ Some other) → is_start first ≡ false → AllByRecursion (λ other. is_start other ≡ true) rest
  rest_alone p place is m first rest there proper =
      all_starts p place is m first (let z : m + 0 ≡ m = omega arith in subst (λ v. slice_get place.definers v ≡ Some first) z (there 0 first refl)) proper 0 rest
      (λ i x e. let z : m + suc i ≡ suc m + (0 + i) = omega arith in subst (λ v. slice_get place.definers v ≡ Some x) z (there (suc i) x e))

  alone_from : (p : ℕ) (place : PlaceInfo) → slice_get f.places p ≡ Some place → (m : ℕ) (definers : List Definer) → ((i : ℕ) (other : Definer) → slice_get definers i ≡ Some other → slice_get place.definers (m + i) ≡ Some other) → IsAlone definers
  alone_from p place is m [] there = tt
  alone_from p place is m (Start b a ∷ definers) there = alone_from p place is (suc m) definers (λ i x e. let z : m + suc i ≡ suc m + i = omega arith in subst (λ v. slice_get place.definers v ≡ Some x) z (there (suc i) x e))
  alone_from p place is m (Input n ∷ definers) there = rest_alone p place is m (Input n) definers there refl
  alone_from p place is m (Plain b a ∷ definers) there = rest_alone p place is m (Plain b a) definers there refl
  alone_from p place is m (Der b a arms ∷ definers) there = rest_alone p place is m (Der b a arms) definers there refl

  pub alone : (p : ℕ) (place : PlaceInfo) → slice_get f.places p ≡ Some place → IsAlone place.definers
  alone p place is = alone_from p place is 0 place.definers (λ i x e. let z : i ≡ 0 + i = omega arith in subst (λ v. slice_get place.definers v ≡ Some x) z e)

-- the derivative in a state in which the main block is active
module _ (s : State) (running : s (AtControl 0) ≡ Active) where
  no_derivative : (definers : List Definer) → AllByRecursion (λ other. is_start other ≡ true) definers → derivative_by s definers ≡ None
  no_derivative [] starts = refl
  no_derivative (Input n ∷ definers) starts = let z = starts.0 in absurd cc
  no_derivative (Plain b a ∷ definers) starts = let z = starts.0 in absurd cc
  no_derivative (Der b a arms ∷ definers) starts = let z = starts.0 in absurd cc
  no_derivative (Start b a ∷ definers) starts = no_derivative definers starts.1

  derivative_is : (definers : List Definer) → AllByRecursion InMain definers → IsAlone definers → derivative_by s definers ≡ derivative_of (definer_of definers)
  derivative_is [] all alone = refl
  derivative_is (Input n ∷ definers) all alone = no_derivative definers alone
  derivative_is (Plain b a ∷ definers) all alone = no_derivative definers alone
  derivative_is (Der b a arms ∷ definers) all alone = let e = ap (λ x. is_active (s (AtControl x))) all.0 ∙ ap (λ c. is_active c) running in rw e refl
  derivative_is (Start b a ∷ definers) all alone = derivative_is definers all.1 alone

module _ (f : FlatForm) (k : KernelForm) (N : Wiring) (main : IsMain f) (single : IsSingle f) (normal : IsNormalAtInstants f k N) (grades : List ℕ) (moving : IsNormalInFlows f grades k N) (h : History Registers) (g : History Table) (i : Instant Registers) (j : Instant Table) (e : Follow f k N (i ∷ h) (j ∷ g)) (y : Registers) (flows : y ≡ turn k (flow_moment k i) y) (ranks : HasGuardRanks f) (s : State) (running : s (AtControl 0) ≡ Active) where
  here_is : (p : ℕ) (place : PlaceInfo) (places : List PlaceInfo) → ((n : ℕ) (x : PlaceInfo) → slice_get (place ∷ places) n ≡ Some x → slice_get f.places (p + n) ≡ Some x) → slice_get f.places p ≡ Some place
  here_is p place places there = let z : p + 0 ≡ p = omega arith in subst (λ v. slice_get f.places v ≡ Some place) z (there 0 place refl)

  behind : (p : ℕ) (place : PlaceInfo) (places : List PlaceInfo) → ((n : ℕ) (x : PlaceInfo) → slice_get (place ∷ places) n ≡ Some x → slice_get f.places (p + n) ≡ Some x) → (n : ℕ) (x : PlaceInfo) → slice_get places n ≡ Some x → slice_get f.places (suc p + n) ≡ Some x
  behind p place places there n x is = let z : p + suc n ≡ suc p + n = omega arith in subst (λ v. slice_get f.places v ≡ Some x) z (there (suc n) x is)

  derivative_at : (p : ℕ) (place : PlaceInfo) → slice_get f.places p ≡ Some place → derivative_by s place.definers ≡ derivative_of (definer_of place.definers)
  derivative_at p place is = derivative_is s running place.definers (main.places p place is).1 (alone f main single p place is)

  -- a place with a `der` moves as its memory does
  one_same : (p : ℕ) (place : PlaceInfo) (b a : ℕ) (arms : List DerArm) → slice_get f.places p ≡ Some place → definer_of place.definers ≡ Some (Der b a arms) → (at : Pos) → at ≡ place.at → place_motion place.at (state_in j.table (AtPlace p)) (state_in j.table (AtValue a)) ≡ motion at (held i.table (N.P p)) (held y (N.D p))
  one_same p place b a arms is der at same =
      let d : IsDefined f k N p place (Some (Der b a arms)) = subst (λ x. IsDefined f k N p place x) der (normal.places p place is).1 in
      let m = moving.ders p place b a d.memory d.slope arms None is der d.moves in
      ap (λ x. place_motion place.at x (state_in j.table (AtValue a))) (e.0.says.places p (place, is))
      ∙ by (is_open (held i.table) (N.G a)) refl m.1 d
      ∙ sym (motion_is place.at (held i.table (N.P p)) (held i.table (N.w a)))
      ∙ ap₂ (λ t x. motion t (held i.table (N.P p)) x) (sym same) (sym (ap (λ n. held y n) (sym m.0) ∙ slope_is f k N main normal grades moving ranks h g i j e y flows place a d.slope m.1))
    where
      by : (o : Bool) → is_open (held i.table) (N.G a) ≡ o → {slope : ℕ} → IsDer f k N place a slope → IsDefined f k N p place (Some (Der b a arms)) → place_motion place.at (held i.table (N.P p)) (state_in j.table (AtValue a)) ≡ place_motion place.at (held i.table (N.P p)) (held i.table (N.w a))
      by true q m d = ap (λ x. place_motion place.at (held i.table (N.P p)) x) (e.0.says.values a m.there q)
      by false q m d =
          let none = no_value f k N main normal grades moving ranks h g i j e y flows p place b a arms d (sym (ap (λ x. is_open (held i.table) x) m.guard) ∙ q) in
          ap (λ x. place_motion place.at x (state_in j.table (AtValue a))) none ∙ sym (ap (λ x. place_motion place.at x (held i.table (N.w a))) none)

  -- what moves, from place number `p` on
  motions_from : (mems : List KMem) (p : ℕ) (places : List PlaceInfo) → AreMotions f grades k N mems p places → ((n : ℕ) (place : PlaceInfo) → slice_get places n ≡ Some place → slice_get f.places (p + n) ≡ Some place) → place_motions s (state_in j.table) p places ≡ motions i.table y mems
  motions_from _ _ _ (Done p) there = refl
  motions_from _ _ _ (StillMemory mem mems p places still rest) there =
      motions_from mems p places rest there ∙ ap (λ o. motion_by i.table y mem o ++ motions i.table y mems) (sym still)
  motions_from _ _ _ (StillPlace mems p place places still rest) there =
      ap (λ o. place_motion_by (state_in j.table) p place o ++ place_motions s (state_in j.table) (suc p) places) (derivative_at p place (here_is p place places there) ∙ none (definer_of place.definers) still)
      ∙ motions_from mems (suc p) places rest (behind p place places there)
    where
      none : (o : Option Definer) → ((b a : ℕ) (arms : List DerArm) → o ≡ Some (Der b a arms) → ⊥) → derivative_of o ≡ None
      none None still = refl
      none (Some (Input n)) still = refl
      none (Some (Plain b a)) still = refl
      none (Some (Der b a arms)) still = absurd (still b a arms refl)
      none (Some (Start b a)) still = refl
  motions_from _ _ _ (Moving mem mems p place places b a arms der next slope at rest) there =
      let is = here_is p place places there in
      ap (λ o. place_motion_by (state_in j.table) p place o ++ place_motions s (state_in j.table) (suc p) places) (derivative_at p place is ∙ ap (λ o. derivative_of o) der)
      ∙ ap₂ (λ l r. l ++ r) (one_same p place b a arms is der mem.at at) (motions_from mems (suc p) places rest (behind p place places there))
      ∙ ap₂ (λ o n. motion_by i.table y (record mem { next = n }) o ++ motions i.table y mems) (sym slope) (sym next)

  pub motions_same : place_motions s (state_in j.table) 0 f.places ≡ motions i.table y k.mems
  motions_same = motions_from k.mems 0 f.places moving.motions (λ n place is. let z : n ≡ 0 + n = omega arith in subst (λ v. slice_get f.places v ≡ Some place) z is)
