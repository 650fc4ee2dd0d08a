-- What the wires of a solved instant hold, by their definitions and guards.
use Rattle.std.specs.Prelude.{◌≡◌, ℕ, Bool, true, false, not, ◌&&◌, ◌||◌, if◌then◌else◌, List, [], ◌∷◌, slice_get, Option, Some, None}
use Rattle.std.proofs.Common.{refl, sym, ap, ap₂, ◌∙◌}
use Rattle.zl_value.specs.Times.{holds, fails}
use Rattle.zl_value.specs.Operators.{Answer, Nothing, answered}
use Rattle.zl_value.specs.declared.value.Value.{Value}
use Rattle.zl_value.specs.declared.value.Value.TheVariants.{B, I, F}
use Rattle.zl_value.specs.declared.op.Op.TheVariants.{Or, Not}
use Rattle.zl_meaning.specs.State.{if_used}
use Rattle.zl_meaning.specs.Occurrences.{branch}
use Rattle.zl_kernel.proofs.OneSolution.{turn_at}
use Rattle.zl_kernel.specs.KernelForm.{KernelForm}
use Rattle.zl_kernel.specs.Wires.{Registers, held, is_in_flow, Moment, is_open, given, branch as picked, gathered, applied, answer, wire_value, turn}
use Rattle.zl_normal.specs.KernelParts.{IsWire, IsLit}
use Rattle.zl_normal.specs.Guards.{InChain, Same, ByGuard, ByCopy, ByTest, ByYes, Implied, IsUnder, Chained, Copied, Known, IsBut, Turned, IsEither, Made, IsGuarded, Free, Literal, Never, IsAny, NoneOf, OneOf, SomeOf}
use Rattle.zl_kernel.specs.declared.wire.Def.{Def}
use Rattle.zl_kernel.specs.declared.wire.Def.TheVariants.{Lit as LitWire, Copy, Op as OpWire, If as IfWire}

pub given_is : (x : Option Value) → answered (given x) ≡ x
given_is None = refl
given_is (Some v) = refl

-- a wire's `if` takes the branch that the form's does
pub branch_is : (c x y : Option Value) → picked c x y ≡ branch c x y
branch_is None x y = refl
branch_is (Some (B true)) x y = refl
branch_is (Some (B false)) x y = refl
branch_is (Some (I n)) x y = refl
branch_is (Some (F n)) x y = refl

gate : (b : Bool) (a : Answer) → answered (if b then a else Nothing) ≡ if_used b (answered a)
gate true a = refl
gate false a = refl

pub gated_true : (b : Bool) (v : Option Value) → holds (if_used b v) ≡ true → (b ≡ true) × (holds v ≡ true)
gated_true true v e = (refl, e)
gated_true false v e = absurd cc

pub gated_holds : (b : Bool) (v : Option Value) → holds (if_used b v) ≡ (b && holds v)
gated_holds true v = refl
gated_holds false v = refl

pub true_or_false : (b : Bool) → (b ≡ false → ⊥) → b ≡ true
true_or_false true e = refl
true_or_false false e = absurd (e refl)

branch_true : (c x y : Option Value) → y ≡ Some (B false) → holds (branch c x y) ≡ true → (holds c ≡ true) × (holds x ≡ true)
branch_true (Some (B true)) x y e h = (refl, h)
branch_true (Some (B false)) x y e h = absurd (let p : holds y ≡ false = ap (λ v. holds v) e in cc)
branch_true (Some (I n)) x y e h = absurd cc
branch_true (Some (F n)) x y e h = absurd cc
branch_true None x y e h = absurd cc

implied_and : (b h : Bool) → (h ≡ true → b ≡ true) → h ≡ (b && h)
implied_and true h e = refl
implied_and false false e = refl
implied_and false true e = absurd (let p = e refl in cc)

and_true : (b c : Bool) → c ≡ true → b ≡ (b && c)
and_true true c e = sym e
and_true false c e = refl

not_is : (x : Option Value) (s : ℕ → Option Value) (c : ℕ) → s c ≡ x → holds (answered (applied Not (gathered s (c ∷ [])))) ≡ fails x
not_is None s c e = rw e refl
not_is (Some (B b)) s c e = rw e refl
not_is (Some (I n)) s c e = rw e refl
not_is (Some (F n)) s c e = rw e refl

or_is : (s : ℕ → Option Value) (a b : ℕ) (x y : Bool) → s a ≡ Some (B x) → s b ≡ Some (B y) → answered (applied Or (gathered s (a ∷ b ∷ []))) ≡ Some (B (x || y))
or_is s a b x y p q = rw (p, q) refl

or_not : (s : ℕ → Option Value) (c u : ℕ) (x : Option Value) → s c ≡ x → s u ≡ answered (applied Not (gathered s (c ∷ []))) → holds (answered (applied Or (gathered s (c ∷ u ∷ [])))) ≡ (holds x || fails x)
or_not s c u (Some (B b)) e d = let q : s u ≡ Some (B (not b)) = d ∙ rw e refl in rw (e, q) refl
or_not s c u (Some (I n)) e d = let q : s u ≡ None = d ∙ rw e refl in rw (e, q) refl
or_not s c u (Some (F n)) e d = let q : s u ≡ None = d ∙ rw e refl in rw (e, q) refl
or_not s c u None e d = rw e refl

if_used_none : (b : Bool) (v : Option Value) → b ≡ false → if_used b v ≡ None
if_used_none b v e = rw e refl

pub if_used_true : (b : Bool) (v : Option Value) → b ≡ true → if_used b v ≡ v
if_used_true b v e = rw e refl

-- the values of wires that all hold a bool
abbrev pub AreBools : (ℕ → Option Value) → List ℕ → List Bool → Type 0
AreBools s [] [] = Unit {0}
AreBools s (u ∷ us) (b ∷ bs) = (s u ≡ Some (B b)) × AreBools s us bs
AreBools s _ _ = ⊥

abbrev pub some_of : List Bool → Bool
some_of [] = false
some_of (b ∷ bs) = b || some_of bs

or_true : (b : Bool) → (b || true) ≡ true
or_true true = refl
or_true false = refl

or_false : (b : Bool) → b ≡ (b || false)
or_false true = refl
or_false false = refl

module _ (k : KernelForm) (m : Moment) (r : Registers) (solves : r ≡ turn k m r) (always : Unit {0}) where
  pub turned : (n : ℕ) → held (turn k m r) n ≡ wire_value k m (held r) n (slice_get k.wires n)
  turned n = turn_at k m r n

  -- what a wire holds
  pub wire_is : (n : ℕ) (def : Def) (guard : Option ℕ) → IsWire k n def guard → held r n ≡ if_used (is_open (held r) guard) (answered (answer m (held r) def))
  wire_is n def guard is =
      ap (λ x. held x n) solves
      ∙ turned n
      ∙ ap (λ wire. wire_value k m (held r) n wire) is.is
      ∙ ap (λ b. answered (if (is_in_flow m.mode || not b) && is_open (held r) is.wire.guard then answer m (held r) is.wire.def else Nothing)) is.kept
      ∙ ap (λ b. answered (if b && is_open (held r) is.wire.guard then answer m (held r) is.wire.def else Nothing)) (or_true (is_in_flow m.mode))
      ∙ ap₂ (λ g d. answered (if is_open (held r) g then answer m (held r) d else Nothing)) is.guard_is is.def_is
      ∙ gate (is_open (held r) guard) (answer m (held r) def)

  pub lit_is : (n : ℕ) (v : Value) → IsLit k n v → held r n ≡ Some v
  lit_is n v is = wire_is n (LitWire v) None is

  pub copy_is : (n c : ℕ) (guard : Option ℕ) → IsWire k n (Copy c) guard → held r n ≡ if_used (is_open (held r) guard) (held r c)
  copy_is n c guard is = wire_is n (Copy c) guard is ∙ ap (λ x. if_used (is_open (held r) guard) x) (given_is (held r c))

  pub if_is : (n c x y : ℕ) (guard : Option ℕ) → IsWire k n (IfWire c x y) guard → held r n ≡ if_used (is_open (held r) guard) (branch (held r c) (held r x) (held r y))
  if_is n c x y guard is =
      wire_is n (IfWire c x y) guard is
      ∙ ap (λ v. if_used (is_open (held r) guard) v) (given_is (picked (held r c) (held r x) (held r y)) ∙ branch_is (held r c) (held r x) (held r y))

  -- where a wire is true, those in its chain are
  chain : (g n : ℕ) → InChain k g n → holds (held r n) ≡ true → holds (held r g) ≡ true
  chain g _ Same e = e
  chain g _ (ByGuard n h def is of) e =
      chain g h of (gated_true (holds (held r h)) (answered (answer m (held r) def)) (ap (λ x. holds x) (sym (wire_is n def (Some h) is)) ∙ e)).0
  chain g _ (ByCopy n c guard is of) e =
      chain g c of (gated_true (is_open (held r) guard) (held r c) (ap (λ x. holds x) (sym (copy_is n c guard is)) ∙ e)).1
  chain g _ (ByTest n c x y guard is off of) e =
      chain g c of (branch_true (held r c) (held r x) (held r y) (lit_is y (B false) off) (gated_true (is_open (held r) guard) _ (ap (λ v. holds v) (sym (if_is n c x y guard is)) ∙ e)).1).0
  chain g _ (ByYes n c x y guard is off of) e =
      chain g x of (branch_true (held r c) (held r x) (held r y) (lit_is y (B false) off) (gated_true (is_open (held r) guard) _ (ap (λ v. holds v) (sym (if_is n c x y guard is)) ∙ e)).1).1

  implied : (g : Option ℕ) (n : ℕ) → Implied k g n → holds (held r n) ≡ true → is_open (held r) g ≡ true
  implied None n of e = refl
  implied (Some g) n of e = chain g n of e

  -- a wire that is true where a guard and another wire are
  pub under_is : (g : Option ℕ) (c : ℕ) (n : Option ℕ) → IsUnder k g c n → is_open (held r) n ≡ (is_open (held r) g && holds (held r c))
  under_is g c _ (Chained of) = implied_and (is_open (held r) g) (holds (held r c)) (implied g c of)
  under_is g c _ (Copied n is) = ap (λ x. holds x) (copy_is n c g is) ∙ gated_holds (is_open (held r) g) (held r c)
  under_is g c _ (Known is) = and_true (is_open (held r) g) (holds (held r c)) (ap (λ x. holds x) (lit_is c (B true) is))

  pub but_is : (g : Option ℕ) (c : ℕ) (n : Option ℕ) → IsBut k g c n → is_open (held r) n ≡ (is_open (held r) g && fails (held r c))
  but_is g c _ (Turned n is) =
      ap (λ x. holds x) (wire_is n (OpWire Not (c ∷ [])) g is)
      ∙ gated_holds (is_open (held r) g) (answered (applied Not (gathered (held r) (c ∷ []))))
      ∙ ap (λ b. is_open (held r) g && b) (not_is (held r c) (held r) c refl)
  but_is g c _ (Known is) = and_true (is_open (held r) g) (fails (held r c)) (ap (λ x. fails x) (lit_is c (B false) is))

  -- a wire that is true where a guard is and another wire holds a bool
  pub either_is : (g : Option ℕ) (c : ℕ) (n : Option ℕ) → IsEither k g c n → is_open (held r) n ≡ (is_open (held r) g && (holds (held r c) || fails (held r c)))
  either_is g c _ (Made n u off is) =
      ap (λ x. holds x) (wire_is n (OpWire Or (c ∷ u ∷ [])) g is)
      ∙ gated_holds (is_open (held r) g) (answered (applied Or (gathered (held r) (c ∷ u ∷ []))))
      ∙ by (is_open (held r) g) (wire_is u (OpWire Not (c ∷ [])) g off)
    where
      by : (b : Bool) → held r u ≡ if_used b (answered (applied Not (gathered (held r) (c ∷ [])))) → (b && holds (answered (applied Or (gathered (held r) (c ∷ u ∷ []))))) ≡ (b && (holds (held r c) || fails (held r c)))
      by true d = or_not (held r) c u (held r c) refl d
      by false d = refl

  -- a wire that holds what another does where a guard is true
  chained_is : (b : Bool) (g : Option ℕ) (x h : ℕ) (def : Def) → is_open (held r) g ≡ b → IsWire k x def (Some h) → Implied k g h → held r x ≡ if_used b (held r x)
  chained_is true g x h def e is of = refl
  chained_is false g x h def e is of =
      wire_is x def (Some h) is ∙ if_used_none (holds (held r h)) _ (none (holds (held r h)) refl)
    where
      none : (b : Bool) → holds (held r h) ≡ b → holds (held r h) ≡ false
      none false q = q
      none true q = absurd (let p = implied g h of q in cc)

  pub guarded_is : (x : ℕ) (g : Option ℕ) (n : ℕ) → IsGuarded k x g n → held r n ≡ if_used (is_open (held r) g) (held r x)
  guarded_is x g _ (Free e) = ap (λ o. if_used (is_open (held r) o) (held r x)) (sym e)
  guarded_is x g _ (Chained def h is of) = chained_is (is_open (held r) g) g x h def refl is of
  guarded_is x g _ (Copied n is) = copy_is n x g is
  guarded_is x g _ (Literal n v lit is) = wire_is n (LitWire v) g is ∙ ap (λ o. if_used (is_open (held r) g) o) (sym (lit_is x v lit))
  guarded_is x g _ (Never def u is off) =
      let e : held r x ≡ None = wire_is x def (Some u) is ∙ if_used_none (holds (held r u)) _ (ap (λ v. holds v) (lit_is u (B false) off)) in
      e ∙ sym (both_none (is_open (held r) g)) ∙ ap (λ v. if_used (is_open (held r) g) v) (sym e)
    where
      both_none : (b : Bool) → if_used b None ≡ None
      both_none true = refl
      both_none false = refl

  -- an `or` of wires that all hold a bool
  pub any_is : (us : List ℕ) (bs : List Bool) (n : ℕ) → IsAny k us n → AreBools (held r) us bs → held r n ≡ Some (B (some_of bs))
  any_is _ [] _ (NoneOf n is) are = lit_is n (B false) is
  any_is _ (b ∷ bs) _ (NoneOf n is) are = absurd are
  any_is _ [] _ (OneOf u) are = absurd are
  any_is _ (b ∷ []) _ (OneOf u) are = are.0 ∙ ap (λ x. Some (B x)) (or_false b)
  any_is _ (b ∷ c ∷ bs) _ (OneOf u) are = absurd are.1
  any_is _ [] _ (SomeOf u v n j us rest is) are = absurd are
  any_is _ (b ∷ bs) _ (SomeOf u v n j us rest is) are =
      wire_is n (OpWire Or (u ∷ j ∷ [])) None is ∙ or_is (held r) u j b (some_of bs) are.0 (any_is (v ∷ us) bs j rest are.1)
