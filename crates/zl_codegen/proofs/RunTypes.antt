-- Along each run of a kernel what its wires hold has their types.
use Rattle.std.specs.Prelude.{◌≡◌, ℕ, zero, suc, ◌+◌, pos, nat_eq, Bool, true, false, if◌then◌else◌, List, [], ◌∷◌, ◌++◌, length, map, slice_get, get_or, Option, Some, None}
use Rattle.std.specs.List.{AllByRecursion, find}
use Rattle.std.proofs.Common.{refl, sym, ap, ap₂, ◌∙◌, arith, subst, ⊎_elim}
use Rattle.std.proofs.lemmas.Bool.{eqb-true}
use Rattle.zl_value.specs.Fraction.{Fraction, IsReduced, add, mul, fits}
use Rattle.zl_value.specs.Lists.{Has}
use Rattle.zl_value.specs.Times.{nought, is_same}
use Rattle.zl_value.specs.Instants.{Instant, History, latest_inputs, steps_at}
use Rattle.zl_value.specs.Runs.{StepAfter, LeftAfter, IsPrefix}
use Rattle.zl_value.specs.Script.{IsOfType, IsSetFor, IsLineFor, IsScriptFor}
use Rattle.zl_value.specs.Stops.{line_at, line_for, set_by, sets_of, inputs_after}
use Rattle.zl_value.specs.System.{Motion, increments, arrivals, move_tests}
use Rattle.zl_value.specs.Widths.{Tested, first_wide}
use Rattle.zl_value.specs.declared.arith.Arith.TheVariants.{Range}
use Rattle.zl_value.specs.declared.value.Fault.{Fault}
use Rattle.zl_value.specs.declared.value.Value.{Value}
use Rattle.zl_value.specs.declared.value.Value.TheVariants.{B, I, F}
use Rattle.zl_value.specs.declared.value.Ty.{Ty}
use Rattle.zl_value.specs.declared.value.Ty.TheVariants.{Float}
use Rattle.zl_value.specs.declared.script.Script.{Script}
use Rattle.zl_value.specs.declared.script.ScriptLine.{ScriptLine}
use Rattle.zl_value.specs.declared.script.Set.{Set}
use Rattle.zl_value.specs.declared.script.Input.{Input}
use Rattle.zl_value.proofs.FractionLaws.{IsReduced-add, IsReduced-mul, IsReduced-whole}
use Rattle.zl_kernel.specs.KernelForm.{KernelForm}
use Rattle.zl_kernel.specs.WellFormed.{IsWellFormed, IsMemory, HasWire, IsStart, IsSlope}
use Rattle.zl_kernel.specs.Wires.{Registers, held, turn}
use Rattle.zl_kernel.specs.Memories.{starts, after, memories_of, memories_after, moved, moved_if, moved_memory}
use Rattle.zl_kernel.specs.Motions.{motion, motion_by, motions}
use Rattle.zl_kernel.specs.System.{moment_of, flow_moment, system_of_kernel}
use Rattle.zl_kernel.specs.WireRanks.{AreWireRanks}
use Rattle.zl_kernel.specs.declared.memory.KMem.{KMem}
use Rattle.zl_codegen.specs.RunLaws.{IsHeld, HoldTypes, input_types, WiresKeepTypes}
use Rattle.zl_codegen.proofs.Listed.{get-listed, within_from, get_from}
use Rattle.zl_codegen.proofs.MomentTypes.{held_same, hold_types}
use Rattle.zl_codegen.proofs.Ranked.{has_cases, has_none}
use Rattle.zl_codegen.proofs.Typed.{slice_get-map, entry_has}

some_same : {X : Type 0} {x y : X} → Some x ≡ Some y → x ≡ y
some_same {X} {x} {y} e = let z : Some x ≡ Some y = e in let g : x ≡ y = cc in g

pub type_held : (ty : Ty) (v : Option Value) → IsStart ty v → IsHeld ty v
type_held ty None is = tt
type_held ty (Some v) is = is

-- an entry of what is made one by one
pub mapped_held : (f : KMem → Option Value) (ms : List KMem) (n : ℕ) (mem : KMem) → slice_get ms n ≡ Some mem → held (map f ms) n ≡ f mem
mapped_held f ms n mem at = get_from (map f ms) n (f mem) None (slice_get-map f ms n mem at)

-- ---- Inputs

-- the inputs have their types
abbrev pub InputTypes : KernelForm → List (Option Value) → Type 0
InputTypes k inputs = (n : ℕ) (input : Input) → slice_get k.ins n ≡ Some input → IsHeld input.ty (held inputs n)

find_has : {X : Type 0} (P : X → Type 0) (test : X → Bool) (xs : List X) (x : X) → AllByRecursion P xs → find test xs ≡ Some x → P x
find_has {X = X} P test [] x all is = absurd (let z : None ≡ Some x = is in let g : ⊥ = cc in g)
find_has {X = X} P test (y ∷ xs) x all is = go (test y) is (find_has P test xs x all.1)
  where
    go : (t : Bool) → (if t then Some y else find test xs) ≡ Some x → (find test xs ≡ Some x → P x) → P x
    go true e rest = subst P (some_same e) all.0
    go false e rest = rest e

module _ (k : KernelForm) (script : Script) (suits : IsScriptFor (input_types k) script) where
  set_held : (n : ℕ) (input : Input) → slice_get k.ins n ≡ Some input → (sets : List Set) → AllByRecursion (IsSetFor (input_types k)) sets → (had : Option Value) → IsHeld input.ty had → IsHeld input.ty (set_by n sets had)
  set_held n input at [] all had t = t
  set_held n input at (set ∷ sets) all had t = go (nat_eq set.input n) refl (set_held n input at sets all.1 had t)
    where
      go : (c : Bool) → nat_eq set.input n ≡ c → IsHeld input.ty (set_by n sets had) → IsHeld input.ty (if c then Some set.value else set_by n sets had)
      go false e rest = rest
      go true e rest =
          let same : set.input ≡ n = eqb-true set.input n e in
          let a : slice_get (input_types k) n ≡ Some all.0.0 = ap (λ j. slice_get (input_types k) j) (sym same) ∙ all.0.1 in
          let b : slice_get (input_types k) n ≡ Some input.ty = slice_get-map (λ (x : Input). x.ty) k.ins n input at in
          subst (λ ty. IsOfType ty set.value) (some_same (sym a ∙ b)) all.0.2

  line_held : (o : Option ScriptLine) → ((line : ScriptLine) → o ≡ Some line → AllByRecursion (IsSetFor (input_types k)) line.sets) → AllByRecursion (IsSetFor (input_types k)) (sets_of o)
  line_held None all = tt
  line_held (Some line) all = all line refl

  line_sets : (time : Fraction) (n : ℕ) → AllByRecursion (IsSetFor (input_types k)) (sets_of (line_for script time n))
  line_sets time n = go (nat_eq n 0)
    where
      go : (t : Bool) → AllByRecursion (IsSetFor (input_types k)) (sets_of (if t then line_at script time else None))
      go false = tt
      go true = line_held (line_at script time) (λ line is. (find_has (IsLineFor (input_types k) script.horizon) (λ (x : ScriptLine). is_same x.time time) script.lines line suits.lines is).sets)

  -- the inputs of a step
  pub inputs_held : (time : Fraction) (n : ℕ) (had : List (Option Value)) → InputTypes k had → InputTypes k (inputs_after (length k.ins) (line_for script time n) had)
  inputs_held time n had t j input at =
      subst (λ v. IsHeld input.ty v) (sym (get-listed (length k.ins) 0 (λ i. set_by i (sets_of (line_for script time n)) (get_or had i None)) None j (within_from k.ins j input at)))
      (let e : j ≡ 0 + j = omega arith in subst (λ i. IsHeld input.ty (set_by i (sets_of (line_for script time n)) (get_or had i None))) e
      (set_held j input at (sets_of (line_for script time n)) (line_sets time n) (get_or had j None) (t j input at)))

pub none_held : (k : KernelForm) → InputTypes k []
none_held k n input at = tt

-- ---- Memories

abbrev pub MemoryTypes : KernelForm → Registers → Type 0
MemoryTypes k mems = (n : ℕ) (mem : KMem) → slice_get k.mems n ≡ Some mem → IsHeld mem.ty (held mems n)

has_left : {X : Type 0} (xs ys : List X) (x : X) → Has xs x → Has (xs ++ ys) x
has_left [] ys x has = absurd (has_none x has)
has_left (y ∷ xs) ys x has = has_cases (λ z. Has ((y ∷ xs) ++ ys) z) y xs x (record { index = 0; is = refl }) (λ later. let more = has_left xs ys x later in record { index = suc more.index; is = more.is }) has

has_right : {X : Type 0} (xs ys : List X) (x : X) → Has ys x → Has (xs ++ ys) x
has_right [] ys x has = has
has_right (y ∷ xs) ys x has = let more = has_right xs ys x has in record { index = suc more.index; is = more.is }

wide_none : (ts : List Tested) → first_wide ts ≡ None → (t : Tested) → Has ts t → fits t.number ≡ true
wide_none [] e t h = absurd (has_none t h)
wide_none (x ∷ ts) e t h = go (record { kind = Range; at = x.at }) (fits x.number) refl e (wide_none ts)
  where
    go : (fault : Fault) (b : Bool) → fits x.number ≡ b → (if b then first_wide ts else Some fault) ≡ None → (first_wide ts ≡ None → (u : Tested) → Has ts u → fits u.number ≡ true) → fits t.number ≡ true
    go fault true q p rest = has_cases (λ (u : Tested). fits u.number ≡ true) x ts t q (λ later. rest p t later) h
    go fault false q p rest = absurd (let z : Some fault ≡ None = p in cc)

motion_in : (r y : Registers) (ms : List KMem) (j slope : ℕ) (mem : KMem) (from s : Fraction) → slice_get ms j ≡ Some mem → mem.slope ≡ Some slope → held r mem.next ≡ Some (F from) → held y slope ≡ Some (F s) → Has (motions r y ms) (record { from = from; slope = s; at = mem.at })
motion_in r y [] j slope mem from s at by a b = absurd cc
motion_in r y (x ∷ ms) zero slope mem from s at by a b =
    let e : motion_by r y x x.slope ≡ record { from = from; slope = s; at = mem.at } ∷ [] =
    ap (λ (z : KMem). motion_by r y z z.slope) (some_same at) ∙ ap (λ o. motion_by r y mem o) by ∙ ap₂ (λ u v. motion mem.at u v) a b in
    has_left (motion_by r y x x.slope) (motions r y ms) (record { from = from; slope = s; at = mem.at }) (subst (λ l. Has l (record { from = from; slope = s; at = mem.at })) (sym e) (record { index = 0; is = refl }))
motion_in r y (x ∷ ms) (suc j) slope mem from s at by a b = has_right (motion_by r y x x.slope) (motions r y ms) (record { from = from; slope = s; at = mem.at }) (motion_in r y ms j slope mem from s at by a b)

has_mapped : {X Y : Type 0} (f : X → Y) (xs : List X) (x : X) → Has xs x → Has (map f xs) (f x)
has_mapped f xs x has = record { index = has.index; is = slice_get-map f xs has.index x has.is }

has_later : {X : Type 0} (x y : X) (xs : List X) → Has xs y → Has (x ∷ xs) y
has_later x y xs has = record { index = suc has.index; is = has.is }

-- what a motion comes to is in the width
arrival_fits : (t d : Fraction) (ms : List Motion) (mo : Motion) → first_wide (move_tests t d ms) ≡ None → Has ms mo → fits (add mo.from (mul d mo.slope)) ≡ true
arrival_fits t d ms mo e h =
    let the : Tested = record { number = add mo.from (mul d mo.slope); at = mo.at } in
    let among : Has (arrivals d ms) the = has_mapped (λ (x : Motion). record { number = add x.from (mul d x.slope); at = x.at }) ms mo h in
    wide_none (move_tests t d ms) e the (has_later _ the _ (has_later _ the _ (has_right (increments d ms) (arrivals d ms) the among)))

module _ (k : KernelForm) (well : IsWellFormed k) where
  memory_at : (n : ℕ) (mem : KMem) → slice_get k.mems n ≡ Some mem → IsMemory k mem
  memory_at n mem at = entry_has (IsMemory k) k.mems n mem well.mems at

  wire_typed : (r : Registers) → HoldTypes k r → (ty : Ty) (n : ℕ) → HasWire k ty n → IsHeld ty (held r n)
  wire_typed r types ty n has = held_same (held r n) has.typed (types n has.wire has.is)

  pub starts_held : MemoryTypes k (starts k)
  starts_held n mem at = subst (λ v. IsHeld mem.ty v) (sym (mapped_held (λ (x : KMem). x.start) k.mems n mem at)) (type_held mem.ty mem.start (memory_at n mem at).start)

  pub after_held : (r : Registers) → HoldTypes k r → MemoryTypes k (after k r)
  after_held r types n mem at = subst (λ v. IsHeld mem.ty v) (sym (mapped_held (λ (x : KMem). held r x.next) k.mems n mem at)) (wire_typed r types mem.ty mem.next (memory_at n mem at).next)

  moved_held : (t d : Fraction) (r y : Registers) (n slope : ℕ) (mem : KMem) → slice_get k.mems n ≡ Some mem → mem.slope ≡ Some slope → IsReduced d → first_wide (move_tests t d (motions r y k.mems)) ≡ None → (u v : Option Value) → held r mem.next ≡ u → held y slope ≡ v → IsHeld Float u → IsHeld Float v → IsHeld Float (moved u v d)
  moved_held t d r y n slope mem at by low fit (Some (F a)) (Some (F b)) p q is_a is_b = record {
    reduced = IsReduced-add a (mul d b) is_a.reduced.above (IsReduced-mul d b low.above is_b.reduced.above).above;
    fits = arrival_fits t d (motions r y k.mems) (record { from = a; slope = b; at = mem.at }) fit (motion_in r y k.mems n slope mem a b at by p q);
  }
  moved_held t d r y n slope mem at by low fit (Some (F a)) (Some (B b)) p q is_a is_b = tt
  moved_held t d r y n slope mem at by low fit (Some (F a)) (Some (I b)) p q is_a is_b = tt
  moved_held t d r y n slope mem at by low fit (Some (F a)) None p q is_a is_b = tt
  moved_held t d r y n slope mem at by low fit (Some (B a)) v p q is_a is_b = tt
  moved_held t d r y n slope mem at by low fit (Some (I a)) v p q is_a is_b = tt
  moved_held t d r y n slope mem at by low fit None v p q is_a is_b = tt

  -- what has moved to the left end of a flow, if the move is in the width
  pub left_held : (t d : Fraction) (r y : Registers) → HoldTypes k r → HoldTypes k y → IsReduced d → first_wide (move_tests t d (motions r y k.mems)) ≡ None → MemoryTypes k (map (moved_memory r y d) k.mems)
  left_held t d r y types rates low fit n mem at =
      subst (λ v. IsHeld mem.ty v) (sym (mapped_held (moved_memory r y d) k.mems n mem at)) (by mem.slope refl (memory_at n mem at).slope)
    where
      by : (slope : Option ℕ) → mem.slope ≡ slope → IsSlope k mem.ty slope → IsHeld mem.ty (moved_if slope y d (held r mem.next))
      by None e is = wire_typed r types mem.ty mem.next (memory_at n mem at).next
      by (Some slope) e is =
          held_same (moved (held r mem.next) (held y slope) d) (sym is.0)
          (moved_held t d r y n slope mem at e low fit (held r mem.next) (held y slope) refl refl (held_same (held r mem.next) is.0 (wire_typed r types mem.ty mem.next (memory_at n mem at).next)) (wire_typed y rates Float slope is.1))

-- ---- Runs

-- at each instant so far the wires hold their types, and so do the inputs
abbrev pub TypedSoFar : KernelForm → History Registers → Type 0
TypedSoFar k [] = Unit {0}
TypedSoFar k (i ∷ h) = HoldTypes k i.table × InputTypes k i.inputs × TypedSoFar k h

pub latest_held : (k : KernelForm) (h : History Registers) → TypedSoFar k h → InputTypes k (latest_inputs h)
latest_held k [] t = none_held k
latest_held k (i ∷ h) t = t.1

module _ (k : KernelForm) (ranks : List ℕ) (well : IsWellFormed k) (are : AreWireRanks k ranks) where
  pub memories_held : (h : History Registers) → TypedSoFar k h → MemoryTypes k (memories_of k h)
  memories_held [] t = starts_held k well
  memories_held (i ∷ h) t = after_held k well i.table t.0

  instant_typed : (h : History Registers) (i : Instant Registers) (mems : Registers) → TypedSoFar k h → InputTypes k i.inputs → MemoryTypes k mems → i.table ≡ turn k (moment_of mems i) i.table → TypedSoFar k (i ∷ h)
  instant_typed h i mems t inputs memories solves =
      (hold_types k well (moment_of mems i) (record { inputs = inputs; memories = memories }) i.table solves ranks are, inputs, t)

  -- the flow after an instant
  pub flow_typed : (h : History Registers) (i : Instant Registers) (y : Registers) → TypedSoFar k (i ∷ h) → y ≡ turn k (flow_moment k i) y → HoldTypes k y
  flow_typed h i y t solves =
      hold_types k well (flow_moment k i) (record { inputs = t.1; memories = after_held k well i.table t.0 }) y solves ranks are

  module _ (script : Script) (suits : IsScriptFor (input_types k) script) where
    pub at_step : (h : History Registers) (i : Instant Registers) → TypedSoFar k h → StepAfter (system_of_kernel k) script h i → TypedSoFar k (i ∷ h)
    at_step h i t step =
        instant_typed h i (memories_of k h) t (subst (λ l. InputTypes k l) (sym step.inputs) (inputs_held k script suits i.time (steps_at i.time h) (latest_inputs h) (latest_held k h t))) (memories_held h t) step.solves

    at_left : (h : History Registers) (j i : Instant Registers) → TypedSoFar k (j ∷ h) → LeftAfter (system_of_kernel k) script h j i → TypedSoFar k (i ∷ j ∷ h)
    at_left h j i t left =
        instant_typed (j ∷ h) i (memories_after k (j ∷ h) (left.flow nought) left.duration) t (subst (λ l. InputTypes k l) (sym left.inputs) t.1)
        (left_held k well j.time left.duration j.table (left.flow nought) t.0 (flow_typed h j (left.flow nought) t (left.move.flow.solves nought (IsReduced-whole (pos 0)) refl)) left.move.lasts.reduced left.fits)
        left.solves

    pub prefix_typed : (h : History Registers) → IsPrefix (system_of_kernel k) script h → TypedSoFar k h
    prefix_typed [] p = absurd p
    prefix_typed (i ∷ []) p = at_step [] i tt p
    prefix_typed (i ∷ j ∷ h) p =
        let t = prefix_typed (j ∷ h) p.0 in
        ⊎_elim (λ (step : StepAfter (system_of_kernel k) script (j ∷ h) i). at_step (j ∷ h) i t step) (λ (left : LeftAfter (system_of_kernel k) script h j i). at_left h j i t left) p.1

pub wires_keep_types : WiresKeepTypes
wires_keep_types k ranks well are script suits h i is = (prefix_typed k ranks well are script suits (i ∷ h) is).0
