-- Of the faults of several wires the one of least number, in whatever order they are met.
use Rattle.std.specs.Prelude.{◌≡◌, ℕ, ◌<◌, ◌≤◌, nat_lt, nat_eq, Bool, true, false, ◌||◌, if◌then◌else◌, List, [], ◌∷◌, ◌++◌, Option, Some, None}
use Rattle.std.proofs.Common.{refl, sym, ap, ◌∙◌, arith, subst}
use Rattle.std.proofs.lemmas.Bool.{eqb-true, ltb-true, ltb-false}
use Rattle.zl_value.specs.Lists.{among}
use Rattle.zl_code.specs.Method.{least}
use Rattle.zl_code.specs.declared.stmt.Found.{Found}
use Rattle.zl_codegen.proofs.Solving.{among-last, moved_on, met}
use Rattle.zl_codegen.proofs.MarkLists.{append_none}

module _ (V : ℕ → Option Found) where
  -- what is found once these wires are passed
  abbrev pub over : Option Found → List ℕ → Option Found
  over f [] = f
  over f (n ∷ ns) = over (met f (V n)) ns

  pub over_last : (f : Option Found) (ns : List ℕ) (n : ℕ) → over f (ns ++ n ∷ []) ≡ met (over f ns) (V n)
  over_last f [] n = refl
  over_last f (a ∷ ns) n = over_last (met f (V a)) ns n

  -- it is the fault of one of them, and none has a lesser number
  pub record IsLeast (ns : List ℕ) (res : Option Found) : Type 0 where
    pub of : (x : Found) → res ≡ Some x → (n : ℕ) × (V n ≡ Some x)
    pub below : (n : ℕ) (y : Found) → among n ns ≡ true → V n ≡ Some y → (x : Found) × (res ≡ Some x) × (x.ord ≤ y.ord)

  none_least : IsLeast [] None
  none_least = record { of = λ x e. absurd cc; below = λ n y in' e. absurd cc }

  -- one wire more
  one_least : (ns : List ℕ) (res : Option Found) (n : ℕ) → IsLeast ns res → IsLeast (ns ++ n ∷ []) (met res (V n))
  one_least ns res n least = by (V n) refl res least
    where
      was : (j : ℕ) → among j (ns ++ n ∷ []) ≡ true → (P : Type 0) → (among j ns ≡ true → P) → (n ≡ j → P) → P
      was j in' P p q = split (among j ns) (nat_eq n j) (sym (among-last ns n j) ∙ in') p (λ e. q (eqb-true n j e))
        where
          split : (a b : Bool) → (a || b) ≡ true → (a ≡ true → P) → (b ≡ true → P) → P
          split true b is p q = p refl
          split false b is p q = q is

      by : (v : Option Found) → V n ≡ v → (res : Option Found) → IsLeast ns res → IsLeast (ns ++ n ∷ []) (met res v)
      by None e res least = record {
        of = least.of;
        below = λ j y in' f. was j in' ((x : Found) × (res ≡ Some x) × (x.ord ≤ y.ord)) (λ old. least.below j y old f) (λ same. absurd (let z : None ≡ Some y = sym e ∙ ap V same ∙ f in cc));
      }
      by (Some new) e None least = record {
        of = λ x is. (n, e ∙ is);
        below = λ j y in' f.
            was j in' ((x : Found) × (Some new ≡ Some x) × (x.ord ≤ y.ord))
            (λ old. let b = least.below j y old f in absurd (let z : None ≡ Some b.0 = b.1 in cc))
            (λ same. (new, refl, let z : Some new ≡ Some y = sym e ∙ ap V same ∙ f in let w : new ≡ y = cc in let u : new.ord ≡ y.ord = ap (λ (x : Found). x.ord) w in omega arith));
      }
      by (Some new) e (Some old) least = less (nat_lt new.ord old.ord) refl
        where
          less : (t : Bool) → nat_lt new.ord old.ord ≡ t → IsLeast (ns ++ n ∷ []) (if t then Some new else Some old)
          less true lower = record {
            of = λ x is. (n, e ∙ is);
            below = λ j y in' f.
                was j in' ((x : Found) × (Some new ≡ Some x) × (x.ord ≤ y.ord))
                (λ before.
                let b = least.below j y before f in
                let z : Some old ≡ Some b.0 = b.1 in
                let w : old ≡ b.0 = cc in
                let u : old.ord ≡ b.0.ord = ap (λ (x : Found). x.ord) w in
                let l : new.ord < old.ord = ltb-true new.ord old.ord lower in
                let m : b.0.ord ≤ y.ord = b.2 in (new, refl, omega arith))
                (λ same. (new, refl, let z : Some new ≡ Some y = sym e ∙ ap V same ∙ f in let w : new ≡ y = cc in let u : new.ord ≡ y.ord = ap (λ (x : Found). x.ord) w in omega arith));
          }
          less false higher = record {
            of = least.of;
            below = λ j y in' f.
                was j in' ((x : Found) × (Some old ≡ Some x) × (x.ord ≤ y.ord)) (λ before. least.below j y before f)
                (λ same.
                let z : Some new ≡ Some y = sym e ∙ ap V same ∙ f in
                let w : new ≡ y = cc in
                let u : new.ord ≡ y.ord = ap (λ (x : Found). x.ord) w in
                let l : old.ord ≤ new.ord = ltb-false new.ord old.ord higher in (old, refl, omega arith));
          }

  all_least : (done ns : List ℕ) (res : Option Found) → IsLeast done res → IsLeast (done ++ ns) (over res ns)
  all_least done [] res least = subst (λ l. IsLeast l res) (sym (append_none done)) least
  all_least done (n ∷ ns) res least = subst (λ l. IsLeast l (over (met res (V n)) ns)) (sym (moved_on done n ns)) (all_least (done ++ n ∷ []) ns (met res (V n)) (one_least done res n least))

  pub over_least : (ns : List ℕ) → IsLeast ns (over None ns)
  over_least ns = all_least [] ns None none_least

  -- two lists that have all that can have a fault have one least fault, if no two faults have one number
  pub two_least : (xs ys : List ℕ) (a b : Option Found) → ((n : ℕ) (x : Found) → V n ≡ Some x → (among n xs ≡ true) × (among n ys ≡ true)) → ((m n : ℕ) (x y : Found) → V m ≡ Some x → V n ≡ Some y → x.ord ≡ y.ord → m ≡ n) → IsLeast xs a → IsLeast ys b → a ≡ b
  two_least xs ys None None have apart p q = refl
  two_least xs ys None (Some y) have apart p q =
      let f = q.of y refl in
      let g = p.below f.0 y (have f.0 y f.1).0 f.1 in
      absurd (let z : None ≡ Some g.0 = g.1 in cc)
  two_least xs ys (Some x) None have apart p q =
      let f = p.of x refl in
      let g = q.below f.0 x (have f.0 x f.1).1 f.1 in
      absurd (let z : None ≡ Some g.0 = g.1 in cc)
  two_least xs ys (Some x) (Some y) have apart p q =
      let f = p.of x refl in
      let g = q.of y refl in
      let u = p.below g.0 y (have g.0 y g.1).0 g.1 in
      let v = q.below f.0 x (have f.0 x f.1).1 f.1 in
      let a : x ≡ u.0 = (let z : Some x ≡ Some u.0 = u.1 in cc) in
      let b : y ≡ v.0 = (let z : Some y ≡ Some v.0 = v.1 in cc) in
      let c : x.ord ≡ u.0.ord = ap (λ (w : Found). w.ord) a in
      let d : y.ord ≡ v.0.ord = ap (λ (w : Found). w.ord) b in
      let l : u.0.ord ≤ y.ord = u.2 in
      let m : v.0.ord ≤ x.ord = v.2 in
      let same : x.ord ≡ y.ord = omega arith in
      sym f.1 ∙ ap V (apart f.0 g.0 x y f.1 g.1 same) ∙ g.1

  pub least_same : (xs ys : List ℕ) → ((n : ℕ) (x : Found) → V n ≡ Some x → (among n xs ≡ true) × (among n ys ≡ true)) → ((m n : ℕ) (x y : Found) → V m ≡ Some x → V n ≡ Some y → x.ord ≡ y.ord → m ≡ n) → over None xs ≡ over None ys
  least_same xs ys have apart = two_least xs ys (over None xs) (over None ys) have apart (over_least xs) (over_least ys)
