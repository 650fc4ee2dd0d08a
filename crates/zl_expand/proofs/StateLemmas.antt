-- What is made for a state, and room for a hidden occurrence.
use Rattle.std.proofs.Common.{◌≡◌, ℕ, ◌+◌, ◌<◌, List, [], ◌∷◌, ◌++◌, length, refl, sym, ap, ◌∙◌, arith}
use Rattle.std.proofs.lemmas.List.{length-append}
use Rattle.std.specs.Prelude.{OnOk, IfOk}
use Rattle.std.specs.declared.result.Result.{Result}
use Rattle.std.specs.declared.result.Result.TheVariants as result
use Rattle.zl_meaning.specs.declared.block.Block.{Block}
use Rattle.zl_meaning.specs.declared.block.BlockKind.TheVariants.{Guard, State as StateOf}
use Rattle.zl_meaning.specs.declared.occurrence.Occ.{Occ}
use Rattle.zl_flat.specs.declared.here.Here.{Here}
use Rattle.zl_flat.specs.Parts.{Parts, Counters, joined, one_block, one_hidden, after, past_block}
use Rattle.zl_flat.specs.Instances.{Instance, in_block, inner_block}
use Rattle.zl_flat.specs.Equations.{Making, MoveWalk, moves_made, state_made}
use Rattle.zl_expand.specs.Kept.{counters, with_occ}
use Rattle.zl_flat.specs.Counted.{count}
use Rattle.zl_expand.specs.Room.{HasRoom}
use Rattle.zl_expand.proofs.RoomLaws.{count-joined, count-block, room-left}
use Rattle.zl_expand.proofs.PartsLaws.{joined-assoc, counters-joined, after-block, counters-blocks}

-- ---- room for a hidden occurrence

-- the hidden occurrence that was left open is still there
pub hidden-room : (o2 o3 o4 o5 r : Parts) (h x : Occ) (n m : ℕ) → m ≡ length o2.hidden → o3 ≡ joined o2 (one_hidden h) → o4 ≡ joined o3 r → o5 ≡ with_occ o4 n x → m < length o5.hidden
unfolding joined one_hidden with_occ
hidden-room o2 o3 o4 o5 r h x n m a b c d =
    let e : o5.hidden ≡ (o2.hidden ++ h ∷ []) ++ r.hidden = ap (λ o. o.hidden) (d ∙ ap (λ o. with_occ o n x) (c ∙ ap (λ o. joined o r) b)) in
    omega (arith, a, ap length e, length-append (o2.hidden ++ h ∷ []) r.hidden, length-append o2.hidden (h ∷ []))

-- ---- a state

-- one block more, which has this number
one-block : (out o : Parts) (x : Block) → o ≡ joined out (one_block x) → counters o ≡ past_block (counters out)
one-block out o x e = ap counters e ∙ counters-joined out (one_block x) ∙ after-block (counters out) x

block-number : (s : Counters) → (past_block s).blocks ≡ s.blocks + 1
unfolding past_block
block-number s = refl

module _ (base : ℕ) (names : List (List ℕ)) (i : Instance) (here : Here) (body : Making) (moves : List MoveWalk) (number guard inner : ℕ) (ids : List ℕ) (out o1 o2 o3 : Parts) where
  -- the guard and the body, and then the moves
  pub record IsWalked (x y : Block) : Type 0 where
    pub guard_is : guard ≡ length out.blocks
    pub with_guard : o1 ≡ joined out (one_block x)
    pub body_is : inner ≡ length o1.blocks
    pub with_body : o2 ≡ joined o1 (one_block y)
    pub inside : o3 ≡ joined o2 (body (in_block inner here.hybrid here) (counters o2))

  abbrev both : Counters
  both = past_block (past_block (counters out))

  abbrev made_inside : Parts
  made_inside = body (in_block ((counters out).blocks + 1) here.hybrid here) both

  module _ (x y : Block) (w : IsWalked x y) where
    guard-number : guard ≡ (counters out).blocks
    guard-number = w.guard_is ∙ sym (counters-blocks out)

    inner-number : inner ≡ (counters out).blocks + 1
    inner-number = w.body_is ∙ sym (counters-blocks o1) ∙ ap (λ s. s.blocks) (one-block out o1 x w.with_guard) ∙ block-number (counters out)

    counted : counters o2 ≡ both
    counted = one-block o1 o2 y w.with_body ∙ ap past_block (one-block out o1 x w.with_guard)

    same-inside : body (in_block inner here.hybrid here) (counters o2) ≡ made_inside
    same-inside = λ t. body (in_block (inner-number t) here.hybrid here) (counted t)

    behind : o3 ≡ joined o2 made_inside
    behind = w.inside ∙ ap (joined o2) same-inside

    counted-behind : counters o3 ≡ after both made_inside
    counted-behind = ap counters behind ∙ counters-joined o2 made_inside ∙ ap (λ s. after s made_inside) counted

    same-moves : moves_made base names i moves guard inner ids here (counters o3) ≡ moves_made base names i moves (counters out).blocks ((counters out).blocks + 1) ids here (after both made_inside)
    same-moves = λ t. moves_made base names i moves (guard-number t) (inner-number t) ids here (counted-behind t)

    before : o2 ≡ joined (joined out (one_block x)) (one_block y)
    before = w.with_body ∙ ap (λ o. joined o (one_block y)) w.with_guard

    pub all-joined : (rest : Parts) → joined o3 rest ≡ joined out (joined (one_block x) (joined (one_block y) (joined made_inside rest)))
    all-joined rest =
        ap (λ o. joined o rest) behind
        ∙ joined-assoc o2 made_inside rest
        ∙ ap (λ o. joined o (joined made_inside rest)) before
        ∙ joined-assoc (joined out (one_block x)) (one_block y) (joined made_inside rest)
        ∙ joined-assoc out (one_block x) (joined (one_block y) (joined made_inside rest))

  module _ (of : ℕ) (w : IsWalked (inner_block here (Guard of number) here.hybrid) (inner_block here (StateOf of number) here.hybrid)) where
    pub state-parts : joined o3 (moves_made base names i moves guard inner ids here (counters o3)).parts ≡ joined out (state_made base names i body moves of number ids here (counters out)).parts
    state-parts =
        ap (λ m. joined o3 m.parts) (same-moves _ _ w)
        ∙ all-joined _ _ w (moves_made base names i moves (counters out).blocks ((counters out).blocks + 1) ids here (after both made_inside)).parts

    -- the body has room, and the moves behind it
    pub block-room : (d b : ℕ) → HasRoom (d + 1) b out (state_made base names i body moves of number ids here (counters out)).parts → HasRoom (d + 2) b o2 (body (in_block inner here.hybrid here) (counters o2))
    block-room d b h =
        let mine = moves_made base names i moves guard inner ids here (counters o3) in
        let whole = state_made base names i body moves of number ids here (counters out) in
        let inside = body (in_block inner here.hybrid here) (counters o2) in
        let e = sym (count-joined o3 mine.parts) ∙ ap count state-parts ∙ count-joined out whole.parts in
        let f = ap count w.inside ∙ count-joined o2 inside in
        let g = ap count w.with_body ∙ count-joined o1 (one_block (inner_block here (StateOf of number) here.hybrid)) in
        let k = ap count w.with_guard ∙ count-joined out (one_block (inner_block here (Guard of number) here.hybrid)) in
        let l = count-block (inner_block here (StateOf of number) here.hybrid) in
        let m = count-block (inner_block here (Guard of number) here.hybrid) in
        omega (arith, e, f, g, k, l, m, h)

    pub moves-room : (d b : ℕ) → HasRoom (d + 1) b out (state_made base names i body moves of number ids here (counters out)).parts → HasRoom (d + 1) b o3 (moves_made base names i moves guard inner ids here (counters o3)).parts
    moves-room d b h =
        let inside = body (in_block inner here.hybrid here) (counters o2) in
        let f = ap count w.inside ∙ count-joined o2 inside in
        let g = ap count w.with_body ∙ count-joined o1 (one_block (inner_block here (StateOf of number) here.hybrid)) in
        let k = ap count w.with_guard ∙ count-joined out (one_block (inner_block here (Guard of number) here.hybrid)) in
        room-left (d + 1) b out o3 _ _ state-parts (omega (arith, f, g, k)) h

    pub state-moves : (moves_made base names i moves guard inner ids here (counters o3)).moves ≡ (state_made base names i body moves of number ids here (counters out)).moves
    state-moves = ap (λ m. m.moves) (same-moves _ _ w)

-- ---- what a call gives

pub on-ok : {T E : Type 0} (r : Result T E) (P Q : Type 0) → (P → Q) → OnOk r P → OnOk r Q
on-ok (result.Ok x) P Q f h = f h
on-ok (result.Err e) P Q f h = h

pub if-ok : {T E : Type 0} (r : Result T E) (P Q : T → Type 0) → ((x : T) → P x → Q x) → IfOk r P → IfOk r Q
if-ok (result.Ok x) P Q f h = f x h
if-ok (result.Err e) P Q f h = h
