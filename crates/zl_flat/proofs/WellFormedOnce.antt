-- No two blocks of what a walk makes are the same body of one choice or automaton: blocks and their numbers.
use Rattle.std.proofs.Common.{◌≡◌, ℕ, ◌<◌, ◌≤◌, List, [], ◌∷◌, ◌++◌, refl, sym, ap, subst, arith}
use Rattle.std.specs.List.{AllByRecursion}
use Rattle.zl_meaning.specs.declared.block.Block.{Block}
use Rattle.zl_meaning.specs.declared.block.BlockKind.{BlockKind}
use Rattle.zl_meaning.specs.declared.block.BlockKind.TheVariants.{Main, Arm, Guard, State, Reset}
use Rattle.zl_meaning.specs.declared.occurrence.Occ.{Occ}
use Rattle.zl_meaning.specs.declared.occurrence.SiteInfo.{SiteInfo}
use Rattle.zl_flat.specs.Parts.{Parts, Counters, nothing, joined, one_occ, one_hidden, one_site, after, past_occ, past_hidden, past_site}
use Rattle.zl_flat.proofs.PartsLaws.{after-joined, after-occ, after-hidden, after-site}
use Rattle.zl_flat.proofs.WellFormedParts.{all-append}

-- ---- kinds

-- the choice or automaton of a body is one of those from these numbers on, before those
abbrev pub KindIn : Counters → Counters → BlockKind → Type 0
KindIn s t Main = Unit {0}
KindIn s t (Arm of arm) = (s.choices ≤ of) × (of < t.choices)
KindIn s t (Guard of state) = (s.automata ≤ of) × (of < t.automata)
KindIn s t (State of state) = (s.automata ≤ of) × (of < t.automata)
KindIn s t (Reset c) = Unit {0}

-- they aren't the same body
abbrev pub Differs : BlockKind → BlockKind → Type 0
Differs Main l = Unit {0}
Differs (Arm of arm) l = Arm of arm ≡ l → ⊥
Differs (Guard of state) l = Guard of state ≡ l → ⊥
Differs (State of state) l = State of state ≡ l → ⊥
Differs (Reset c) l = Unit {0}

abbrev pub owner : BlockKind → ℕ
owner Main = 0
owner (Arm of arm) = of
owner (Guard of state) = of
owner (State of state) = of
owner (Reset c) = 0

pub arm-differs : (s t u : Counters) (of arm : ℕ) (l : BlockKind) → of < t.choices → KindIn t u l → Arm of arm ≡ l → ⊥
arm-differs s t u of arm Main h k e = cc
arm-differs s t u of arm (Arm of2 arm2) h k e = let same : of ≡ of2 = ap owner e in let le = k.0 in omega (arith, same, h, le)
arm-differs s t u of arm (Guard of2 state) h k e = cc
arm-differs s t u of arm (State of2 state) h k e = cc
arm-differs s t u of arm (Reset c) h k e = cc

pub guard-differs : (s t u : Counters) (of state : ℕ) (l : BlockKind) → of < t.automata → KindIn t u l → Guard of state ≡ l → ⊥
guard-differs s t u of state Main h k e = cc
guard-differs s t u of state (Arm of2 arm2) h k e = cc
guard-differs s t u of state (Guard of2 state2) h k e = let same : of ≡ of2 = ap owner e in let le = k.0 in omega (arith, same, h, le)
guard-differs s t u of state (State of2 state2) h k e = cc
guard-differs s t u of state (Reset c) h k e = cc

pub state-differs : (s t u : Counters) (of state : ℕ) (l : BlockKind) → of < t.automata → KindIn t u l → State of state ≡ l → ⊥
state-differs s t u of state Main h k e = cc
state-differs s t u of state (Arm of2 arm2) h k e = cc
state-differs s t u of state (Guard of2 state2) h k e = cc
state-differs s t u of state (State of2 state2) h k e = let same : of ≡ of2 = ap owner e in let le = k.0 in omega (arith, same, h, le)
state-differs s t u of state (Reset c) h k e = cc

pub kinds-differ : (s t u : Counters) (k l : BlockKind) → KindIn s t k → KindIn t u l → Differs k l
kinds-differ s t u Main l h g = tt
kinds-differ s t u (Arm of arm) l h g = λ e. arm-differs s t u of arm l h.1 g e
kinds-differ s t u (Guard of state) l h g = λ e. guard-differs s t u of state l h.1 g e
kinds-differ s t u (State of state) l h g = λ e. state-differs s t u of state l h.1 g e
kinds-differ s t u (Reset c) l h g = tt

-- ---- more of them

pub record Before (s t : Counters) : Type 0 where
  pub choices : s.choices ≤ t.choices
  pub automata : s.automata ≤ t.automata

pub before-self : (s : Counters) → Before s s
before-self s = record { choices = omega arith; automata = omega arith }

pub before-after : (s : Counters) (p : Parts) → Before s (after s p)
unfolding after
before-after s p = record { choices = omega arith; automata = omega arith }

pub kind-wider : (s t u v : Counters) (k : BlockKind) → Before u s → Before t v → KindIn s t k → KindIn u v k
kind-wider s t u v Main a b h = tt
kind-wider s t u v (Arm of arm) a b h = let la = a.choices in let lb = b.choices in let x = h.0 in let y = h.1 in (omega (arith, la, x), omega (arith, lb, y))
kind-wider s t u v (Guard of state) a b h = let la = a.automata in let lb = b.automata in let x = h.0 in let y = h.1 in (omega (arith, la, x), omega (arith, lb, y))
kind-wider s t u v (State of state) a b h = let la = a.automata in let lb = b.automata in let x = h.0 in let y = h.1 in (omega (arith, la, x), omega (arith, lb, y))
kind-wider s t u v (Reset c) a b h = tt

-- ---- lists of blocks

abbrev pub KindsIn : Counters → Counters → List Block → Type 0
KindsIn s t xs = AllByRecursion (λ (x : Block). KindIn s t x.kind) xs

abbrev pub DiffersFrom : BlockKind → List Block → Type 0
DiffersFrom k xs = AllByRecursion (λ (x : Block). Differs k x.kind) xs

abbrev pub Apart : List Block → Type 0
Apart [] = Unit {0}
Apart (x ∷ xs) = DiffersFrom x.kind xs × Apart xs

pub kinds-wider : (s t u v : Counters) (xs : List Block) → Before u s → Before t v → KindsIn s t xs → KindsIn u v xs
kinds-wider s t u v [] a b h = tt
kinds-wider s t u v (x ∷ xs) a b h = (kind-wider s t u v x.kind a b h.0, kinds-wider s t u v xs a b h.1)

pub differs-from : (s t u : Counters) (k : BlockKind) (xs : List Block) → KindIn s t k → KindsIn t u xs → DiffersFrom k xs
differs-from s t u k [] h g = tt
differs-from s t u k (x ∷ xs) h g = (kinds-differ s t u k x.kind h g.0, differs-from s t u k xs h g.1)

-- each of the first differs from each of the others
abbrev pub Cross : List Block → List Block → Type 0
Cross xs ys = AllByRecursion (λ (x : Block). DiffersFrom x.kind ys) xs

pub cross-apart : (s t u : Counters) (xs ys : List Block) → KindsIn s t xs → KindsIn t u ys → Cross xs ys
cross-apart s t u [] ys h g = tt
cross-apart s t u (x ∷ xs) ys h g = (differs-from s t u x.kind ys h.0 g, cross-apart s t u xs ys h.1 g)

pub apart-append : (xs ys : List Block) → Apart xs → Apart ys → Cross xs ys → Apart (xs ++ ys)
apart-append [] ys a b c = b
apart-append (x ∷ xs) ys a b c = (all-append (λ (y : Block). Differs x.kind y.kind) xs ys a.0 c.0, apart-append xs ys a.1 b c.1)

-- ---- parts

-- the bodies are those of the choices and automata that are made here, each once
pub record Once (s : Counters) (p : Parts) : Type 0 where
  pub owned : KindsIn s (after s p) p.blocks
  pub apart : Apart p.blocks

blocks-joined : (p q : Parts) → (joined p q).blocks ≡ p.blocks ++ q.blocks
unfolding joined
blocks-joined p q = refl

pub once-joined : (s : Counters) (p q : Parts) → Once s p → Once (after s p) q → Once s (joined p q)
once-joined s p q h k =
    let t = after s p in
    let u = after t q in
    let owned = all-append (λ (x : Block). KindIn s u x.kind) p.blocks q.blocks
    (kinds-wider s t s u p.blocks (before-self s) (before-after t q) h.owned) (kinds-wider t u s u q.blocks (before-after s p) (before-self u) k.owned) in
    record {
      owned = subst (λ v. KindsIn s v (joined p q).blocks) (sym (after-joined s p q)) (subst (KindsIn s u) (sym (blocks-joined p q)) owned);
      apart = subst Apart (sym (blocks-joined p q)) (apart-append p.blocks q.blocks h.apart k.apart (cross-apart s t u p.blocks q.blocks h.owned k.owned));
    }

-- parts without blocks
pub once-flat : (s : Counters) (p : Parts) → [] ≡ p.blocks → Once s p
once-flat s p e = record { owned = subst (KindsIn s (after s p)) e tt; apart = subst Apart e tt }

pub once-nothing : (s : Counters) → Once s nothing
unfolding nothing
once-nothing s = once-flat s nothing refl

pub once-one_occ : (s : Counters) (x : Occ) → Once s (one_occ x)
unfolding one_occ
once-one_occ s x = once-flat s (one_occ x) refl

once-one_hidden : (s : Counters) (x : Occ) → Once s (one_hidden x)
unfolding one_hidden
once-one_hidden s x = once-flat s (one_hidden x) refl

once-one_site : (s : Counters) (x : SiteInfo) → Once s (one_site x)
unfolding one_site
once-one_site s x = once-flat s (one_site x) refl

pub occ-once : (s : Counters) (x : Occ) (q : Parts) → Once (past_occ s) q → Once s (joined (one_occ x) q)
occ-once s x q h = once-joined s (one_occ x) q (once-one_occ s x) (subst (λ t. Once t q) (sym (after-occ s x)) h)

pub hidden-once : (s : Counters) (x : Occ) (q : Parts) → Once (past_hidden s) q → Once s (joined (one_hidden x) q)
hidden-once s x q h = once-joined s (one_hidden x) q (once-one_hidden s x) (subst (λ t. Once t q) (sym (after-hidden s x)) h)

pub site-once : (s : Counters) (x : SiteInfo) (q : Parts) → Once (past_site s) q → Once s (joined (one_site x) q)
site-once s x q h = once-joined s (one_site x) q (once-one_site s x) (subst (λ t. Once t q) (sym (after-site s x)) h)
