-- What is noted of the sites says which fired.
use Rattle.std.specs.Prelude.{◌≡◌, ℕ, zero, suc, ◌+◌, ◌<◌, Bool, true, false, ◌&&◌, ◌||◌, nat_eq, List, [], ◌∷◌, length, get_or}
use Rattle.std.specs.List.{list_any, filter}
use Rattle.std.proofs.Common.{refl, sym, ap, ap₂, ◌∙◌, ⊎_elim, arith}
use Rattle.std.proofs.lemmas.Bool.Decides.{eqb_tells}
use Rattle.zl_value.specs.Lists.{listed, among}
use Rattle.zl_value.specs.Times.{is_below}
use Rattle.zl_value.specs.Instants.{Instant, History}
use Rattle.zl_value.specs.System.{is_some_site}
use Rattle.zl_code.specs.CodeForm.{CodeForm}
use Rattle.zl_code.specs.Method.{Doing}
use Rattle.zl_code.specs.System.{site_value}
use Rattle.zl_run.specs.Firing.{firings, fires_at}
use Rattle.zl_run.specs.Laws.{FiringsAreEvents}
use Rattle.zl_run.proofs.InputLemmas.{listed_same}

abbrev pub numbers : ℕ → ℕ → List ℕ
numbers count k = listed count k (λ n. n)

-- two numbers that are equal, two that aren't
same_number : (a b : ℕ) → a ≡ b → nat_eq a b ≡ true
same_number a b e = ⊎_elim (λ p. p.0) (λ p. absurd (p.1 e)) (eqb_tells a b)

other_number : (a b : ℕ) → (a ≡ b → ⊥) → nat_eq a b ≡ false
other_number a b never = ⊎_elim (λ p. absurd (never p.1)) (λ p. p.0) (eqb_tells a b)

-- an element at the front of a filtered list
front : (p : ℕ → Bool) (k n : ℕ) (ns : List ℕ) (b : Bool) → p k ≡ b → among n (filter p (k ∷ ns)) ≡ (b && nat_eq k n) || among n (filter p ns)
front p k n ns true e = rw e refl
front p k n ns false e = rw e refl

-- a number before all of them isn't one
none_before : (p : ℕ → Bool) (count k n : ℕ) → n < k → among n (filter p (numbers count k)) ≡ false
none_before p zero k n before = refl
none_before p (suc count) k n before =
    front p k n (numbers count (suc k)) (p k) refl
    ∙ ap₂ (λ a b. (p k && a) || b) (other_number k n (λ e. omega (arith, e, before))) (none_before p count (suc k) n (omega (arith, before)))
    ∙ nothing (p k)
  where
    nothing : (a : Bool) → ((a && false) || false) ≡ false
    nothing true = refl
    nothing false = refl

-- of the numbers those that pass are in the filtered list
passing : (p : ℕ → Bool) (count k i : ℕ) → i < count → among (k + i) (filter p (numbers count k)) ≡ p (k + i)
passing p zero k i inside = absurd (omega (arith, inside))
passing p (suc count) k zero inside =
    front p k (k + 0) (numbers count (suc k)) (p k) refl
    ∙ ap₂ (λ a b. (p k && a) || b) (same_number k (k + 0) (omega arith)) (none_before p count (suc k) (k + 0) (omega arith))
    ∙ alone (p k)
    ∙ ap p {x = k} {y = k + 0} (omega arith)
  where
    alone : (a : Bool) → ((a && true) || false) ≡ a
    alone true = refl
    alone false = refl
passing p (suc count) k (suc i) inside =
    front p k (k + suc i) (numbers count (suc k)) (p k) refl
    ∙ ap₂ (λ a b. (p k && a) || b) (other_number k (k + suc i) (λ e. omega (arith, e)))
    (ap (λ n. among n (filter p (numbers count (suc k)))) {x = k + suc i} {y = suc k + i} (omega arith) ∙ passing p count (suc k) i (omega (arith, inside)))
    ∙ rest (p k) (p (suc k + i))
    ∙ ap p {x = suc k + i} {y = k + suc i} (omega arith)
  where
    rest : (a b : Bool) → ((a && false) || b) ≡ b
    rest true b = refl
    rest false b = refl

-- one of the numbers passes where the filtered list isn't empty
some_passing : (p : ℕ → Bool) (count k : ℕ) → list_any (λ b. b) (listed count k p) ≡ is_some_site (filter p (numbers count k))
some_passing p zero k = refl
some_passing p (suc count) k = go (p k) refl (some_passing p count (suc k))
  where
    go : (b : Bool) → p k ≡ b → list_any (λ x. x) (listed count (suc k) p) ≡ is_some_site (filter p (numbers count (suc k))) → (p k || list_any (λ x. x) (listed count (suc k) p)) ≡ is_some_site (filter p (k ∷ numbers count (suc k)))
    go true e rest = rw e refl
    go false e rest = rw e rest

pub get_listed : {X : Type 0} (count k i : ℕ) (f : ℕ → X) (d : X) → i < count → get_or (listed count k f) i d ≡ f (k + i)
get_listed zero k i f d inside = absurd (omega (arith, inside))
get_listed (suc count) k zero f d inside = ap f {x = k} {y = k + 0} (omega arith)
get_listed (suc count) k (suc i) f d inside = get_listed count (suc k) i f d (omega (arith, inside)) ∙ ap f {x = suc k + i} {y = k + suc i} (omega arith)

none_listed : (count k : ℕ) → list_any (λ b. b) (listed count k (λ n. false)) ≡ false
none_listed zero k = refl
none_listed (suc count) k = none_listed count (suc k)

-- what is noted, site by site
noted_at : (c : CodeForm) (before : ℕ → Bool) (i : Instant Doing) → firings c (listed (length c.sites) 0 before) i.table.regs ≡ listed (length c.sites) 0 (λ n. fires_at c (before n) i.table.regs n)
noted_at c before i = listed_same (length c.sites) 0 _ _ (λ n inside.
    ap (λ was. fires_at c was i.table.regs (0 + n)) (ap (λ m. get_or (listed (length c.sites) 0 before) m false) {x = 0 + n} {y = n} (omega arith) ∙ get_listed (length c.sites) 0 n before false inside))

pub firings_are : (c : CodeForm) (h : History Doing) (i : Instant Doing) → FiringsAreEvents c h i
firings_are c [] i =
    let is = noted_at c (λ n. false) i in
    record { events = is; any = ap (list_any (λ b. b)) is ∙ none_listed (length c.sites) 0 }
firings_are c (j ∷ h) i =
    let before : ℕ → Bool = λ n. is_below (site_value c j.table.regs n) in
    let p : ℕ → Bool = λ n. fires_at c (before n) i.table.regs n in
    let is = noted_at c before i in
    record {
      events = is ∙ listed_same (length c.sites) 0 p (λ n. among n (filter p (numbers (length c.sites) 0))) (λ n inside. sym (passing p (length c.sites) 0 n inside));
      any = ap (list_any (λ b. b)) is ∙ some_passing p (length c.sites) 0;
    }
