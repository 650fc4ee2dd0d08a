-- A wire has one answer over any values that agree at the wires that it reads.
use Rattle.std.specs.Prelude.{◌≡◌, ℕ, zero, suc, ◌&&◌, if◌then◌else◌, List, [], ◌∷◌, ◌++◌, slice_get, Option, Some, None}
use Rattle.std.specs.Option.{option_map, option_and_then}
use Rattle.std.proofs.Common.{refl, ap, ap₂, ◌∙◌}
use Rattle.zl_value.specs.Lists.{Has}
use Rattle.zl_value.specs.Operators.{Nothing, answered}
use Rattle.zl_value.specs.declared.value.Value.{Value}
use Rattle.zl_kernel.specs.KernelForm.{KernelForm}
use Rattle.zl_kernel.specs.FlowWires.{operands, listed_in, reads}
use Rattle.zl_kernel.specs.Wires.{Moment, is_solved, is_open, given, branch, gathered, applied, answer, wire_value}
use Rattle.zl_kernel.specs.declared.wire.Def.{Def}
use Rattle.zl_kernel.specs.declared.wire.Def.TheVariants.{Lit, Copy, Mem, In, Event, Step, Op as Apply, If}
use Rattle.zl_kernel.specs.declared.wire.Wire.{Wire}

here : {X : Type 0} (x : X) (xs : List X) → Has (x ∷ xs) x
here x xs = record { index = 0; is = refl }

later : {X : Type 0} (x y : X) (xs : List X) → Has xs y → Has (x ∷ xs) y
later x y xs has = record { index = suc has.index; is = has.is }

behind : (xs ys : List ℕ) (y : ℕ) → Has ys y → Has (xs ++ ys) y
behind [] ys y has = has
behind (x ∷ xs) ys y has = later x y (xs ++ ys) (behind xs ys y has)

module _ (s t : ℕ → Option Value) where
  -- the values agree at these wires
  abbrev pub AgreeAt : List ℕ → Type 0
  AgreeAt ns = (n : ℕ) → Has ns n → s n ≡ t n

  gathered_same : (ns : List ℕ) → AgreeAt ns → gathered s ns ≡ gathered t ns
  gathered_same [] e = refl
  gathered_same (n ∷ ns) e =
      ap₂ (λ rest v. option_and_then (λ x. option_map (λ vs. x ∷ vs) rest) v) (gathered_same ns (λ j has. e j (later n j ns has))) (e n (here n ns))

  answer_same : (m : Moment) (def : Def) → AgreeAt (operands def) → answer m s def ≡ answer m t def
  answer_same m (Lit v) e = refl
  answer_same m (Copy n) e = ap (λ v. given v) (e n (here n []))
  answer_same m (Mem n) e = refl
  answer_same m (In n) e = refl
  answer_same m (Event site) e = refl
  answer_same m Step e = refl
  answer_same m (Apply op ns) e = ap (λ vs. applied op vs) (gathered_same ns e)
  answer_same m (If c x y) e =
      let p = e c (here c (x ∷ y ∷ [])) in
      let q = e x (later c x (x ∷ y ∷ []) (here x (y ∷ []))) in
      let r = e y (later c y (x ∷ y ∷ []) (later x y (y ∷ []) (here y []))) in
      ap (λ v. given (branch v (s x) (s y))) p ∙ ap₂ (λ v w. given (branch (t c) v w)) q r

  open_same : (guard : Option ℕ) → AgreeAt (listed_in guard) → is_open s guard ≡ is_open t guard
  open_same None e = refl
  open_same (Some n) e = ap (λ v. is_open (λ j. v) (Some n)) (e n (here n []))

  ahead : (guard : Option ℕ) (ns : List ℕ) → AgreeAt (listed_in guard ++ ns) → AgreeAt (listed_in guard)
  ahead None ns e = λ n has. absurd (let p = has.is in cc)
  ahead (Some g) ns e = λ n has. by n has.index has.is
    where
      by : (n index : ℕ) → slice_get (g ∷ []) index ≡ Some n → s n ≡ t n
      by n zero is = e n (record { index = 0; is = is })
      by n (suc index) is = absurd cc

  pub value_same : (k : KernelForm) (m : Moment) (n : ℕ) (wire : Option Wire) → ((w : Wire) → wire ≡ Some w → AgreeAt (reads w)) → wire_value k m s n wire ≡ wire_value k m t n wire
  value_same k m n None e = refl
  value_same k m n (Some wire) e =
      ap₂ (λ b a. answered (if is_solved k m.mode n && b then a else Nothing))
      (open_same wire.guard (ahead wire.guard (operands wire.def) (e wire refl)))
      (answer_same m wire.def (λ j has. e wire refl j (behind (listed_in wire.guard) (operands wire.def) j has)))
