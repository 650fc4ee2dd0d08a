-- The move of all memories, by the move of each.
use Rattle.std.specs.Prelude.{◌≡◌, ℕ, zero, suc, ◌+◌, ◌<◌, ◌≤◌, Bool, true, false, if◌then◌else◌, List, [], ◌∷◌, ◌++◌, drop, length, get_or, set, take, IfNone, Option, Some, None, Ok, Err}
use Rattle.std.proofs.Common.{refl, sym, ap, ap₂, ◌∙◌, subst, arith}
use Rattle.std.proofs.lemmas.List.{drop_more, map-append, take_all, take_more, take_more_set}
use Rattle.zl_value.specs.Fraction.{Fraction, add, mul, fits, fitted}
use Rattle.zl_value.specs.Widths.{Tested, first_wide}
use Rattle.zl_value.specs.System.{Motion, increments, arrivals}
use Rattle.zl_value.specs.declared.arith.Arith.{Arith}
use Rattle.zl_value.specs.declared.arith.Arith.TheVariants.{Range}
use Rattle.zl_value.specs.declared.position.Pos.{Pos}
use Rattle.zl_value.specs.declared.value.Value.{Value}
use Rattle.zl_value.specs.declared.value.Value.TheVariants.{F}
use Rattle.zl_value.specs.declared.value.Fault.{Fault}
use Rattle.zl_code.specs.declared.code.CMem.{CMem}
use Rattle.zl_code.specs.Method.{Cells, cell}
use Rattle.zl_code.specs.System.{moved, moved_value, all_moved, motion, motion_of, motions}
use Rattle.zl_machine.specs.declared.moving.Moved.{Moved}
use Rattle.zl_machine.specs.declared.moving.Moved.TheVariants.{To, Late}
use Rattle.zl_machine.specs.Moves.{out_of_width, first_of, HasMoved}

-- a number that is fitted is in the width, and is that number; one that isn't is not
pub fitted_ok : (f g : Fraction) → Ok g ≡ fitted f → (fits f ≡ true) × (g ≡ f)
unfolding fitted
fitted_ok f g = go (fits f)
  where
    go : (b : Bool) → Ok g ≡ (if b then Ok f else Err Range) → (b ≡ true) × (g ≡ f)
    go true e = (refl, cc)
    go false e = absurd cc

pub fitted_err : (f : Fraction) (kind : Arith) → Err kind ≡ fitted f → fits f ≡ false
unfolding fitted
fitted_err f kind = go (fits f)
  where
    go : (b : Bool) → Err kind ≡ (if b then Ok f else Err Range) → b ≡ false
    go true e = absurd cc
    go false e = refl

pub one_fits : (n : Fraction) (at : Pos) → fits n ≡ true → first_wide (record { number = n; at = at } ∷ []) ≡ None
one_fits n at e = ap (λ (b : Bool). if b then None else Some (out_of_width at)) e

pub one_wide : (n : Fraction) (at : Pos) → fits n ≡ false → first_wide (record { number = n; at = at } ∷ []) ≡ Some (out_of_width at)
one_wide n at e = ap (λ (b : Bool). if b then None else Some (out_of_width at)) e

-- what has no slope, or no value, or no slope's value stays
pub stays : (by : Fraction) (ms : List Motion) (at : Pos) (now there : Option Value) → ms ≡ [] → now ≡ there → HasMoved by ms at there (To now)
stays by ms at now there e p = (ap (λ ns. first_wide (increments by ns)) e, ap (λ ns. first_wide (arrivals by ns)) e, p)

-- lists of numbers one behind the other
first_wide_append : (xs ys : List Tested) → first_wide (xs ++ ys) ≡ first_of (first_wide xs) (first_wide ys)
first_wide_append [] ys = refl
first_wide_append (x ∷ xs) ys = go (fits x.number) (first_wide_append xs ys)
  where
    go : (b : Bool) → first_wide (xs ++ ys) ≡ first_of (first_wide xs) (first_wide ys) → (if b then first_wide (xs ++ ys) else Some (out_of_width x.at)) ≡ first_of (if b then first_wide xs else Some (out_of_width x.at)) (first_wide ys)
    go true rest = rest
    go false rest = refl

increments_append : (by : Fraction) (ms ns : List Motion) → first_wide (increments by (ms ++ ns)) ≡ first_of (first_wide (increments by ms)) (first_wide (increments by ns))
increments_append by ms ns = ap first_wide (map-append (λ (m : Motion). record { number = mul by m.slope; at = m.at }) ms ns) ∙ first_wide_append (increments by ms) (increments by ns)

arrivals_append : (by : Fraction) (ms ns : List Motion) → first_wide (arrivals by (ms ++ ns)) ≡ first_of (first_wide (arrivals by ms)) (first_wide (arrivals by ns))
arrivals_append by ms ns = ap first_wide (map-append (λ (m : Motion). record { number = add m.from (mul by m.slope); at = m.at }) ms ns) ∙ first_wide_append (arrivals by ms) (arrivals by ns)

-- the fault of a move, if `late` is the first of those that came to something out of the width
abbrev pub total : Fraction → Option Fault → List Motion → Option Fault
total by late ms = first_of (first_wide (increments by ms)) (first_of late (first_wide (arrivals by ms)))

total_append : (by : Fraction) (late : Option Fault) (ms ns : List Motion) → total by late (ms ++ ns) ≡ first_of (first_of (first_wide (increments by ms)) (first_wide (increments by ns))) (first_of late (first_of (first_wide (arrivals by ms)) (first_wide (arrivals by ns))))
total_append by late ms ns = ap₂ (λ a b. first_of a (first_of late b)) (increments_append by ms ns) (arrivals_append by ms ns)

pub total_begins : (by : Fraction) (ms : List Motion) → total by None ms ≡ first_wide (increments by ms ++ arrivals by ms)
total_begins by ms = sym (first_wide_append (increments by ms) (arrivals by ms))

keeps_first : (late other : Option Fault) (f : Fault) → first_of late (Some f) ≡ first_of (first_of late (Some f)) other
keeps_first (Some g) other f = refl
keeps_first None other f = refl

pub total_moves : (by : Fraction) (late : Option Fault) (ms ns : List Motion) → first_wide (increments by ms) ≡ None → first_wide (arrivals by ms) ≡ None → total by late (ms ++ ns) ≡ total by late ns
total_moves by late ms ns i a =
    total_append by late ms ns
    ∙ ap₂ (λ u v. first_of (first_of u (first_wide (increments by ns))) (first_of late (first_of v (first_wide (arrivals by ns))))) i a

pub total_late : (by : Fraction) (late : Option Fault) (ms ns : List Motion) (f : Fault) → first_wide (increments by ms) ≡ None → first_wide (arrivals by ms) ≡ Some f → total by late (ms ++ ns) ≡ total by (first_of late (Some f)) ns
total_late by late ms ns f i a =
    total_append by late ms ns
    ∙ ap₂ (λ u v. first_of (first_of u (first_wide (increments by ns))) (first_of late (first_of v (first_wide (arrivals by ns))))) i a
    ∙ ap (λ v. first_of (first_wide (increments by ns)) v) (keeps_first late (first_wide (arrivals by ns)) f)

pub total_wide : (by : Fraction) (late : Option Fault) (ms ns : List Motion) (f : Fault) → first_wide (increments by ms) ≡ Some f → total by late (ms ++ ns) ≡ Some f
total_wide by late ms ns f i =
    total_append by late ms ns
    ∙ ap (λ u. first_of (first_of u (first_wide (increments by ns))) (first_of late (first_of (first_wide (arrivals by ms)) (first_wide (arrivals by ns))))) i

-- the next memory comes to a place in the width, or doesn't, or how far it moves isn't in the width
pub turn_to : (by : Fraction) (late whole : Option Fault) (all ms rest : List Motion) (at : Pos) (there v : Option Value) (r : Moved) → r ≡ To v → HasMoved by ms at there r → all ≡ ms ++ rest → total by late all ≡ whole → (total by late rest ≡ whole) × (v ≡ there)
turn_to by late whole all ms rest at there v r is h parts so_far =
    let k : HasMoved by ms at there (To v) = subst (λ (x : Moved). HasMoved by ms at there x) is h in
    (sym (total_moves by late ms rest k.0 k.1) ∙ sym (ap (λ ns. total by late ns) parts) ∙ so_far, k.2)

pub turn_late : (by : Fraction) (late whole : Option Fault) (all ms rest : List Motion) (at : Pos) (there : Option Value) (r : Moved) → r ≡ Late → HasMoved by ms at there r → all ≡ ms ++ rest → total by late all ≡ whole → total by (first_of late (Some (out_of_width at))) rest ≡ whole
turn_late by late whole all ms rest at there r is h parts so_far =
    let k : HasMoved by ms at there Late = subst (λ (x : Moved). HasMoved by ms at there x) is h in
    sym (total_late by late ms rest (out_of_width at) k.0 k.1) ∙ sym (ap (λ ns. total by late ns) parts) ∙ so_far

pub is_late : (late : Option Fault) (f : Fault) → first_of late (Some f) ≡ None → ⊥
is_late (Some g) f e = absurd cc
is_late None f e = absurd cc

-- a memory that moves, by its register and its value
pub moves_by : (by : Fraction) (rates : Cells) (mem : CMem) (s : Option ℕ) (r : ℕ) (now : Option Value) (from slope : Fraction) (v : Moved) → s ≡ Some r → cell rates r ≡ Some (F slope) → now ≡ Some (F from) → HasMoved by (record { from = from; slope = slope; at = mem.at } ∷ []) mem.at (Some (F (add from (mul by slope)))) v → HasMoved by (motion_of rates mem s now) mem.at (moved rates by s now) v
moves_by by rates mem s r now from slope v p q e h =
    let ms : motion_of rates mem s now ≡ record { from = from; slope = slope; at = mem.at } ∷ [] = ap (λ (o : Option ℕ). motion_of rates mem o now) p ∙ ap₂ (λ x y. motion mem.at x y) e q in
    let there : moved rates by s now ≡ Some (F (add from (mul by slope))) = ap (λ (o : Option ℕ). moved rates by o now) p ∙ ap₂ (λ x y. moved_value by x y) e q in
    subst (λ ns. HasMoved by ns mem.at (moved rates by s now) v) (sym ms)
    (subst (λ t. HasMoved by (record { from = from; slope = slope; at = mem.at } ∷ []) mem.at t v) (sym there) h)

-- the memories from place `i` on
pub motions_more : (rates : Cells) (mems : List CMem) (now : Cells) (i : ℕ) (mem dm : CMem) (v dv : Option Value) → i < length mems → length now ≡ length mems → mem ≡ get_or mems i dm → v ≡ get_or now i dv → motions rates (drop i mems) (drop i now) ≡ motion_of rates mem mem.slope v ++ motions rates (drop (i + 1) mems) (drop (i + 1) now)
motions_more rates mems now i mem dm v dv low same mem_is v_is =
    ap₂ (λ ms vs. motions rates ms vs)
    (drop_more mems i dm low ∙ ap (λ (m : CMem). m ∷ drop (i + 1) mems) (sym mem_is))
    (drop_more now i dv (omega (arith, low, same)) ∙ ap (λ (x : Option Value). x ∷ drop (i + 1) now) (sym v_is))

-- where each is after the move
pub length-all_moved : (rates : Cells) (by : Fraction) (mems : List CMem) (now : Cells) → length (all_moved rates by mems now) ≡ length now
length-all_moved rates by [] [] = refl
length-all_moved rates by [] (v ∷ vs) = refl
length-all_moved rates by (m ∷ ms) [] = refl
length-all_moved rates by (m ∷ ms) (v ∷ vs) = ap suc (length-all_moved rates by ms vs)

moved_at : (rates : Cells) (by : Fraction) (mems : List CMem) (now : Cells) (i : ℕ) (dm : CMem) (dv : Option Value) → i < length mems → length now ≡ length mems → get_or (all_moved rates by mems now) i None ≡ moved rates by (get_or mems i dm).slope (get_or now i dv)
moved_at rates by [] now i dm dv low same = absurd (omega (arith, low))
moved_at rates by (m ∷ ms) [] i dm dv low same = absurd (omega (arith, same))
moved_at rates by (m ∷ ms) (v ∷ vs) zero dm dv low same = refl
moved_at rates by (m ∷ ms) (v ∷ vs) (suc i) dm dv low same = moved_at rates by ms vs i dm dv (omega (arith, low)) (omega (arith, same))

-- one more memory is where it comes to
pub there_more : (rates : Cells) (by : Fraction) (mems : List CMem) (now next : Cells) (i : ℕ) (mem dm : CMem) (v dv there : Option Value) → i < length mems → length now ≡ length mems → length next ≡ length mems → mem ≡ get_or mems i dm → v ≡ get_or now i dv → there ≡ moved rates by mem.slope v → take i next ≡ take i (all_moved rates by mems now) → take (i + 1) (set next i there) ≡ take (i + 1) (all_moved rates by mems now)
there_more rates by mems now next i mem dm v dv there low same room mem_is v_is is so_far =
    let long : length (all_moved rates by mems now) ≡ length now = length-all_moved rates by mems now in
    let at : there ≡ get_or (all_moved rates by mems now) i None = is ∙ ap₂ (λ (m : CMem) x. moved rates by m.slope x) mem_is v_is ∙ sym (moved_at rates by mems now i dm dv low same) in
    take_more_set next i there (omega (arith, low, room))
    ∙ ap₂ (λ xs x. xs ++ x ∷ []) so_far at
    ∙ sym (take_more (all_moved rates by mems now) i None (omega (arith, low, same, long)))

pub all_there : (rates : Cells) (by : Fraction) (mems : List CMem) (now next : Cells) (i : ℕ) (late : Option Fault) → length mems ≤ i → length now ≡ length mems → length next ≡ length mems → (late ≡ None → take i next ≡ take i (all_moved rates by mems now)) → IfNone late (next ≡ all_moved rates by mems now)
all_there rates by mems now next i (Some f) low same room so_far = tt
all_there rates by mems now next i None low same room so_far =
    let long : length (all_moved rates by mems now) ≡ length now = length-all_moved rates by mems now in
    sym (take_all i next (omega (arith, low, room))) ∙ so_far refl ∙ take_all i (all_moved rates by mems now) (omega (arith, low, same, long))
