-- Lists that are left when elements are dropped.
use Rattle.std.proofs.Common.{◌≤◌, List, [], ◌∷◌, ◌++◌, length, arith}
use Rattle.zl_ast.specs.Spots.{Sublist, end, keep, drop}

pub same : {A : Type 0} (xs : List A) → Sublist xs xs
same [] = end
same (x ∷ xs) = keep (same xs)

pub through : {A : Type 0} {xs ys zs : List A} → Sublist xs ys → Sublist ys zs → Sublist xs zs
through a end = a
through a (drop b) = drop (through a b)
through (keep a) (keep b) = keep (through a b)
through (drop a) (keep b) = drop (through a b)

pub behind : {A : Type 0} (xs : List A) {ys zs : List A} → Sublist ys zs → Sublist (xs ++ ys) (xs ++ zs)
behind [] a = a
behind (x ∷ xs) a = keep (behind xs a)

pub shorter : {A : Type 0} {xs ys : List A} → Sublist xs ys → length xs ≤ length ys
shorter end = omega arith
shorter (keep a) = let h = shorter a in omega arith
shorter (drop a) = let h = shorter a in omega arith
