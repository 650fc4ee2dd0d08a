-- What moves in a flow of a code is what moves in the flow of the kernel.
use Rattle.std.specs.Prelude.{◌≡◌, ℕ, zero, suc, Bool, true, false, ◌&&◌, ◌||◌, if◌then◌else◌, is_some, is_none, List, [], ◌∷◌, ◌++◌, length, map, slice_get, Option, Some, None}
use Rattle.std.specs.List.{list_any}
use Rattle.std.specs.Option.{option_map}
use Rattle.std.proofs.Common.{refl, sym, ap, ap₂, ◌∙◌, arith}
use Rattle.zl_value.specs.Fraction.{Fraction}
use Rattle.zl_value.specs.declared.position.Pos.{Pos}
use Rattle.zl_value.specs.declared.value.Value.{Value}
use Rattle.zl_value.specs.declared.value.Value.TheVariants.{B, I, F}
use Rattle.zl_value.specs.declared.value.Ty.TheVariants.{Float}
use Rattle.zl_kernel.specs.KernelForm.{KernelForm}
use Rattle.zl_kernel.specs.Wires.{Registers, held, is_solved, is_open, given, Moment, Mode, wire_answer, answer}
use Rattle.zl_kernel.specs.Faults.{Ranked, ranked, lower, least_from, fault_of as kernel_fault}
use Rattle.zl_kernel.specs.Memories.{moved as kernel_moved, moved_if}
use Rattle.zl_kernel.specs.Missing.{stands_still}
use Rattle.zl_kernel.specs.Motions.{motion as kernel_motion, motion_by, motions as kernel_motions}
use Rattle.zl_kernel.specs.declared.wire.Def.{Def}
use Rattle.zl_kernel.specs.declared.wire.Def.TheVariants as is
use Rattle.zl_kernel.specs.declared.wire.Wire.{Wire}
use Rattle.zl_kernel.specs.declared.memory.KMem.{KMem}
use Rattle.zl_value.specs.Operators.{Nothing}
use Rattle.zl_code.specs.Method.{Cells, cell}
use Rattle.zl_code.specs.System.{moved_value, moved, all_moved, lacks_slope, lack_slopes, motion, motion_of, motions}
use Rattle.zl_code.specs.declared.code.CMem.{CMem}
use Rattle.zl_codegen.specs.CodeOf.{memory_of, position_of}
use Rattle.zl_codegen.specs.RunLaws.{IsHeld}

-- a number whose slope isn't missing goes to one place in both
pub moved_same : (d : Fraction) (v x : Option Value) → IsHeld Float v → IsHeld Float x → (is_some v && is_none x) ≡ false → kernel_moved v x d ≡ moved_value d v x
moved_same d (Some (F a)) (Some (F b)) p q e = refl
moved_same d (Some (F a)) None p q e = absurd cc
moved_same d (Some (F a)) (Some (B b)) p q e = absurd q
moved_same d (Some (F a)) (Some (I b)) p q e = absurd q
moved_same d (Some (B a)) x p q e = absurd p
moved_same d (Some (I a)) x p q e = absurd p
moved_same d None x p q e = refl

motion_same : (at : Pos) (v x : Option Value) → kernel_motion at v x ≡ motion at v x
motion_same at (Some (F a)) (Some (F b)) = refl
motion_same at (Some (F a)) (Some (B b)) = refl
motion_same at (Some (F a)) (Some (I b)) = refl
motion_same at (Some (F a)) None = refl
motion_same at (Some (B a)) x = refl
motion_same at (Some (I a)) x = refl
motion_same at None x = refl

-- a test of all of a list, at one of them
pub none_at : {X : Type 0} (p : X → Bool) (xs : List X) (n : ℕ) (x : X) → list_any p xs ≡ false → slice_get xs n ≡ Some x → p x ≡ false
none_at p [] n x none at = absurd cc
none_at {X} p (y ∷ xs) n x none at = by n (p y) refl (list_any p xs) refl none at (λ i rest is. none_at p xs i x rest is)
  where
    by : (n : ℕ) (a : Bool) → p y ≡ a → (b : Bool) → list_any p xs ≡ b → (a || b) ≡ false → slice_get (y ∷ xs) n ≡ Some x → ((i : ℕ) → list_any p xs ≡ false → slice_get xs i ≡ Some x → p x ≡ false) → p x ≡ false
    by n true e b f none at rest = absurd cc
    by zero false e b f none at rest = let z : Some y ≡ Some x = at in let w : y ≡ x = cc in sym (ap p w) ∙ e
    by (suc i) false e b f none at rest = rest i (f ∙ none) at

-- there are as many memories
pub moved_count : (rates : Cells) (d : Fraction) (ms : List CMem) (vs : Cells) → length (all_moved rates d ms vs) ≡ length vs
moved_count rates d [] vs = refl
moved_count rates d (m ∷ ms) [] = refl
moved_count rates d (m ∷ ms) (v ∷ vs) = ap suc (moved_count rates d ms vs)

all_moved_at : (rates : Cells) (d : Fraction) (ms : List KMem) (vs : Cells) (n : ℕ) (mem : KMem) → length vs ≡ length ms → slice_get ms n ≡ Some mem → cell (all_moved rates d (map memory_of ms) vs) n ≡ moved rates d mem.slope (cell vs n)
all_moved_at rates d [] vs n mem long at = absurd cc
all_moved_at rates d (m ∷ ms) [] n mem long at = absurd (omega (arith, long))
all_moved_at rates d (m ∷ ms) (v ∷ vs) zero mem long at = let z : Some m ≡ Some mem = at in let w : m ≡ mem = cc in ap (λ (y : KMem). moved rates d y.slope v) w
all_moved_at rates d (m ∷ ms) (v ∷ vs) (suc n) mem long at = all_moved_at rates d ms vs n mem (omega (arith, long)) at

-- `r` is what the wires of the kernel hold at the instant before, `y` what they hold in the flow
module _ (r y : Registers) (rates : Cells) where
  -- the memories that move have the value of their wires, and their slopes that of theirs
  abbrev pub AreBeside : List KMem → Cells → Type 0
  AreBeside ms vs = (n slope : ℕ) (mem : KMem) → slice_get ms n ≡ Some mem → mem.slope ≡ Some slope → (cell vs n ≡ held r mem.next) × (cell rates slope ≡ held y slope)

  pub motions_same : (ms : List KMem) (vs : Cells) → length vs ≡ length ms → AreBeside ms vs → kernel_motions r y ms ≡ motions rates (map memory_of ms) vs
  motions_same [] [] long e = refl
  motions_same [] (v ∷ vs) long e = absurd (omega (arith, long))
  motions_same (mem ∷ ms) [] long e = absurd (omega (arith, long))
  motions_same (mem ∷ ms) (v ∷ vs) long e = ap₂ (λ a b. a ++ b) (one mem.slope refl) (motions_same ms vs (omega (arith, long)) (λ n slope m at by. e (suc n) slope m at by))
    where
      one : (slope : Option ℕ) → mem.slope ≡ slope → motion_by r y mem slope ≡ motion_of rates (memory_of mem) slope v
      one None q = refl
      one (Some s) q =
          let both = e 0 s mem refl q in
          motion_same mem.at (held r mem.next) (held y s) ∙ ap₂ (λ u w. motion mem.at u w) (sym both.0) (sym both.1)
          ∙ ap (λ o. motion (position_of mem.at o) v (cell rates s)) (sym q)

  pub slopes_same : (ms : List KMem) (vs : Cells) → length vs ≡ length ms → AreBeside ms vs → list_any (λ (mem : KMem). stands_still r y mem mem.slope) ms ≡ lack_slopes rates (map memory_of ms) vs
  slopes_same [] [] long e = refl
  slopes_same [] (v ∷ vs) long e = absurd (omega (arith, long))
  slopes_same (mem ∷ ms) [] long e = absurd (omega (arith, long))
  slopes_same (mem ∷ ms) (v ∷ vs) long e = ap₂ (λ a b. a || b) (one mem.slope refl) (slopes_same ms vs (omega (arith, long)) (λ n slope m at by. e (suc n) slope m at by))
    where
      lacking : (s : ℕ) (v : Option Value) → (is_some v && is_none (cell rates s)) ≡ lacks_slope rates (Some s) v
      lacking s None = refl
      lacking s (Some v) = refl

      one : (slope : Option ℕ) → mem.slope ≡ slope → stands_still r y mem slope ≡ lacks_slope rates slope v
      one None q = refl
      one (Some s) q = let both = e 0 s mem refl q in ap₂ (λ u w. is_some u && is_none w) (sym both.0) (sym both.1) ∙ lacking s v

  -- a memory at the left end
  pub moved_is : (d : Fraction) (ms : List KMem) (vs : Cells) (n : ℕ) (mem : KMem) → length vs ≡ length ms → slice_get ms n ≡ Some mem → cell vs n ≡ held r mem.next → ((slope : ℕ) → mem.slope ≡ Some slope → (cell rates slope ≡ held y slope) × IsHeld Float (held r mem.next) × IsHeld Float (held y slope) × (stands_still r y mem (Some slope) ≡ false)) → cell (all_moved rates d (map memory_of ms) vs) n ≡ moved_if mem.slope y d (held r mem.next)
  moved_is d ms vs n mem long at value by = all_moved_at rates d ms vs n mem long at ∙ one mem.slope refl
    where
      one : (slope : Option ℕ) → mem.slope ≡ slope → moved rates d slope (cell vs n) ≡ moved_if slope y d (held r mem.next)
      one None q = value
      one (Some s) q =
          let it = by s q in
          ap₂ (λ u w. moved_value d u w) value it.0 ∙ sym (moved_same d (held r mem.next) (held y s) it.1 it.2 it.3)

-- ---- Faults

-- no fault is read off a memory
module _ (k : KernelForm) (mode : Mode) (inputs : List (Option Value)) (fired : List ℕ) (a b : Registers) (s : ℕ → Option Value) where
  abbrev over : Registers → Moment
  over memories = record { mode = mode; inputs = inputs; fired = fired; memories = memories }

  gives : (wire : Wire) (v : Option Value) → ranked wire (given v) ≡ None
  gives wire None = refl
  gives wire (Some v) = refl

  answer_ranks : (wire : Wire) (def : Def) → ranked wire (answer (over a) s def) ≡ ranked wire (answer (over b) s def)
  answer_ranks wire (is.Lit v) = refl
  answer_ranks wire (is.Copy n) = refl
  answer_ranks wire (is.Mem n) = gives wire (held a n) ∙ sym (gives wire (held b n))
  answer_ranks wire (is.In n) = refl
  answer_ranks wire (is.Event n) = refl
  answer_ranks wire is.Step = refl
  answer_ranks wire (is.Op op ns) = refl
  answer_ranks wire (is.If c x z) = refl

  wire_ranks : (n : ℕ) (wire : Wire) → ranked wire (wire_answer k (over a) s n wire) ≡ ranked wire (wire_answer k (over b) s n wire)
  wire_ranks n wire = by (is_solved k mode n && is_open s wire.guard)
    where
      by : (t : Bool) → ranked wire (if t then answer (over a) s wire.def else Nothing) ≡ ranked wire (if t then answer (over b) s wire.def else Nothing)
      by true = answer_ranks wire wire.def
      by false = refl

  least_same : (n : ℕ) (wires : List Wire) → least_from k (over a) s n wires ≡ least_from k (over b) s n wires
  least_same n [] = refl
  least_same n (wire ∷ wires) = ap₂ lower (wire_ranks n wire) (least_same (suc n) wires)

pub fault_same : (k : KernelForm) (mode : Mode) (inputs : List (Option Value)) (fired : List ℕ) (a b r : Registers) → kernel_fault k (record { mode = mode; inputs = inputs; fired = fired; memories = a }) r ≡ kernel_fault k (record { mode = mode; inputs = inputs; fired = fired; memories = b }) r
fault_same k mode inputs fired a b r = ap (λ o. option_map (λ (x : Ranked). x.fault) o) (least_same k mode inputs fired a b (held r) 0 k.wires)
