-- Lists of keys, entry by entry.
use Rattle.std.proofs.Common.{◌≡◌, ℕ, suc, ◌+◌, ◌<◌, ◌≤◌, List, [], ◌∷◌, ◌++◌, length, get_or, map, drop, slice_get, unwrap_or, Some, None, refl, sym, ap, ◌∙◌, arith}
use Rattle.std.proofs.lemmas.List.{append_assoc, drop_more, drop_all}
use Rattle.std.proofs.lemmas.Option.{slice_get_read, unwrap_or-slice_get}
use Rattle.zl_meaning.specs.declared.place.Definer.{Definer}
use Rattle.zl_normal.specs.PlaceWires.{definer_of}
use Rattle.zl_meaning.specs.FlatForm.{FlatForm}
use Rattle.zl_meaning.specs.declared.place.DerArm.{DerArm}
use Rattle.zl_normal.specs.Tables.{Tables}
use Rattle.zl_normal.specs.Keys.{each, joints, arm_keys}
use Rattle.zl_normal.specs.declared.key.Key.TheVariants.{Taken, Passed, Chosen}
use Rattle.zl_normal.specs.declared.key.Key.{Key}

next : (i : ℕ) → i + 1 ≡ suc i
next i = omega arith

-- one entry more
pub each_more : {X Y : Type 0} (g : ℕ → X → List Y) (xs : List X) (i : ℕ) (x : X) (old new : List Y) → i < length xs → x ≡ get_or xs i x → new ≡ old ++ g i x → new ++ each g (i + 1) (drop (i + 1) xs) ≡ old ++ each g i (drop i xs)
each_more g xs i x old new less is grown =
    ap (λ ys. ys ++ each g (i + 1) (drop (i + 1) xs)) grown
    ∙ append_assoc old (g i x) (each g (i + 1) (drop (i + 1) xs))
    ∙ ap (λ k. old ++ (g i x ++ each g k (drop (i + 1) xs))) (next i)
    ∙ ap (λ y. old ++ each g i (y ∷ drop (i + 1) xs)) is
    ∙ ap (λ ys. old ++ each g i ys) (sym (drop_more xs i x less))

-- one number more, which is joined to the next
pub joints_more : (key : ℕ → Key) (xs : List ℕ) (i : ℕ) (old new : List Key) → i + 1 < length xs → new ≡ old ++ key i ∷ [] → new ++ joints key (i + 1) (drop (i + 1) xs) ≡ old ++ joints key i (drop i xs)
joints_more key xs i old new less grown =
    let rest = get_or xs (i + 1) 0 ∷ drop (i + 1 + 1) xs in
    let here : drop (i + 1) xs ≡ rest = drop_more xs (i + 1) 0 less in
    let inside : i < length xs = omega arith in
    ap (λ ys. new ++ joints key (i + 1) ys) here
    ∙ ap (λ ys. ys ++ joints key (i + 1) rest) grown
    ∙ append_assoc old (key i ∷ []) (joints key (i + 1) rest)
    ∙ ap (λ k. old ++ (key i ∷ joints key k rest)) (next i)
    ∙ ap (λ ys. old ++ joints key i (get_or xs i 0 ∷ ys)) (sym here)
    ∙ ap (λ ys. old ++ joints key i ys) (sym (drop_more xs i 0 inside))

-- the last one
pub joints_last : (key : ℕ → Key) (xs : List ℕ) (i : ℕ) (old : List Key) → i < length xs → length xs ≤ i + 1 → old ++ joints key (i + 1) (drop (i + 1) xs) ≡ old ++ joints key i (drop i xs)
joints_last key xs i old less past =
    ap (λ ys. old ++ joints key (i + 1) ys) (drop_all (i + 1) xs past)
    ∙ sym (ap (λ ys. old ++ joints key i (get_or xs i 0 ∷ ys)) (drop_all (i + 1) xs past))
    ∙ ap (λ ys. old ++ joints key i ys) (sym (drop_more xs i 0 less))

pub append_none : {A : Type 0} (xs : List A) → xs ++ [] ≡ xs
append_none [] = refl
append_none (x ∷ xs) = ap (λ ys. x ∷ ys) (append_none xs)

-- the definer that stands here is the first beside `init`, if it is none and those before it are
pub definer_here : (definers : List Definer) (i : ℕ) (definer other : Definer) → i < length definers → definer ≡ get_or definers i definer → definer_of (definer ∷ drop (i + 1) definers) ≡ Some definer → definer_of definers ≡ definer_of (drop i definers) → other ≡ get_or definers i other → definer_of definers ≡ Some other
definer_here definers i definer other less is first rest same =
    rest ∙ ap (λ ds. definer_of ds) (drop_more definers i definer less)
    ∙ sym (ap (λ d. definer_of (d ∷ drop (i + 1) definers)) is) ∙ first
    ∙ sym (slice_get_read definers (length definers) i definer refl less is)
    ∙ slice_get_read definers (length definers) i other refl less same

-- one arm more
pub arms_more : (f : FlatForm) (grades : List ℕ) (t : Tables) (p : ℕ) (xs : List DerArm) (i m : ℕ) (old new : List Key) → i < length xs → m ≡ i → new ≡ old ++ Taken p m ∷ Passed p m ∷ Chosen p m ∷ [] → new ++ each (arm_keys f grades t p) (i + 1) (drop (i + 1) xs) ≡ old ++ each (arm_keys f grades t p) i (drop i xs)
arms_more f grades t p xs i m old new less same grown =
    let none : DerArm = record { event = 0; value = 0 } in
    ap (λ ys. ys ++ each (arm_keys f grades t p) (i + 1) (drop (i + 1) xs)) (grown ∙ ap (λ k. old ++ Taken p k ∷ Passed p k ∷ Chosen p k ∷ []) same)
    ∙ append_assoc old (Taken p i ∷ Passed p i ∷ Chosen p i ∷ []) (each (arm_keys f grades t p) (i + 1) (drop (i + 1) xs))
    ∙ ap (λ k. old ++ (Taken p i ∷ Passed p i ∷ Chosen p i ∷ each (arm_keys f grades t p) k (drop (i + 1) xs))) (next i)
    ∙ ap (λ ys. old ++ each (arm_keys f grades t p) i ys) (sym (drop_more xs i none less))

-- one number more, which is looked up
pub map_more : (look : ℕ → ℕ) (xs : List ℕ) (i n : ℕ) (old new : List ℕ) → i < length xs → n ≡ look (get_or xs i 0) → new ≡ old ++ n ∷ [] → new ++ map look (drop (i + 1) xs) ≡ old ++ map look (drop i xs)
map_more look xs i n old new less is grown =
    ap (λ ys. ys ++ map look (drop (i + 1) xs)) grown
    ∙ append_assoc old (n ∷ []) (map look (drop (i + 1) xs))
    ∙ ap (λ m. old ++ (m ∷ map look (drop (i + 1) xs))) is
    ∙ ap (λ ys. old ++ map look ys) (sym (drop_more xs i 0 less))

-- one more, which is made of an entry
pub made_more : {X Y : Type 0} (make : X → Y) (xs : List X) (i : ℕ) (x : X) (y : Y) (old new : List Y) → i < length xs → x ≡ get_or xs i x → y ≡ make x → new ≡ old ++ y ∷ [] → new ++ map make (drop (i + 1) xs) ≡ old ++ map make (drop i xs)
made_more make xs i x y old new less is made grown =
    ap (λ ys. ys ++ map make (drop (i + 1) xs)) grown
    ∙ append_assoc old (y ∷ []) (map make (drop (i + 1) xs))
    ∙ ap (λ z. old ++ (z ∷ map make (drop (i + 1) xs))) made
    ∙ ap (λ z. old ++ map make (z ∷ drop (i + 1) xs)) is
    ∙ ap (λ ys. old ++ map make ys) (sym (drop_more xs i x less))

-- a number that isn't there
pub missing : {X : Type 0} (xs : List X) (i : ℕ) (d : X) → slice_get xs i ≡ None → d ≡ get_or xs i d
missing xs i d e = ap (λ o. unwrap_or o d) (sym e) ∙ unwrap_or-slice_get xs i d
