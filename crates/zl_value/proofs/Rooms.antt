-- Writes into a room: what stands where, and one write behind another.
use Rattle.std.proofs.Common.{◌≡◌, ℕ, ◌+◌, ◌≤◌, List, ◌++◌, length, take, drop, sym, ◌∙◌, ap, subst, arith, length-append, append_assoc}
use Rattle.std.proofs.lemmas.List.{take_at, drop_at, drop-drop, length-take-le}
use Rattle.zl_value.specs.Room.{WritesAt}

-- the new room is what stood before the text, the text, and what stood behind it
parted : {old new bytes : List ℕ} {start : ℕ} → WritesAt old start bytes new → new ≡ take start old ++ bytes ++ drop (start + length bytes) old
parted {old} {new} {bytes} {start} written = written.is ∙ sym (append_assoc (take start old) bytes (drop (start + length bytes) old))

length-front : (old bytes : List ℕ) (start : ℕ) → start ≤ length old → length (take start old ++ bytes) ≡ start + length bytes
length-front old bytes start room = omega (arith, length-append (take start old) bytes, length-take-le start old room)

-- up to its end: what stood before the text, and the text
pub take-written : {old new bytes : List ℕ} {start : ℕ} → WritesAt old start bytes new → start ≤ length old → take (start + length bytes) new ≡ take start old ++ bytes
take-written {old} {new} {bytes} {start} written room =
    ap (take (start + length bytes)) (parted written)
    ∙ take_at (take start old ++ bytes) (drop (start + length bytes) old) (start + length bytes) (length-front old bytes start room)

-- behind its end the room is as it was
pub drop-written : {old new bytes : List ℕ} {start : ℕ} → WritesAt old start bytes new → start ≤ length old → drop (start + length bytes) new ≡ drop (start + length bytes) old
drop-written {old} {new} {bytes} {start} written room =
    ap (drop (start + length bytes)) (parted written)
    ∙ drop_at (take start old ++ bytes) (drop (start + length bytes) old) (start + length bytes) (length-front old bytes start room)

-- a write right behind another is one write of both texts
pub writes_more : {old mid new xs ys : List ℕ} {start : ℕ} → WritesAt old start xs mid → WritesAt mid (start + length xs) ys new → start ≤ length old → WritesAt old start (xs ++ ys) new
writes_more {old} {mid} {new} {xs} {ys} {start} first second room =
    let both : start + length xs + length ys ≡ start + length (xs ++ ys) = omega (arith, length-append xs ys) in
    let behind : drop (start + length xs + length ys) mid ≡ drop (start + length (xs ++ ys)) old =
    sym (drop-drop (length ys) (start + length xs) mid) ∙ ap (drop (length ys)) (drop-written first room)
    ∙ drop-drop (length ys) (start + length xs) old ∙ ap (λ n. drop n old) both in
    let rest : List ℕ = drop (start + length (xs ++ ys)) old in
    record {
      is = second.is ∙ ap (λ l. l ++ (ys ++ drop (start + length xs + length ys) mid)) (take-written first room)
          ∙ ap (λ l. take start old ++ xs ++ (ys ++ l)) behind ∙ append_assoc (take start old) xs (ys ++ rest)
          ∙ ap (λ l. take start old ++ l) (sym (append_assoc xs ys rest));
    }

-- the same, where the end of the first write is known as a number
pub writes_on : {old mid new xs ys : List ℕ} {start end : ℕ} → WritesAt old start xs mid → end ≡ start + length xs → WritesAt mid end ys new → end ≤ length old → WritesAt old start (xs ++ ys) new
writes_on {old} {mid} {new} {xs} {ys} {start} {end} first there second room =
    let moved : WritesAt mid (start + length xs) ys new = subst (λ (n : ℕ). WritesAt mid n ys new) there second in
    writes_more first moved (omega arith)
