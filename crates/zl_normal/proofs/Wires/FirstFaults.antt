-- The first fault of a list of occurrences, and the fault of least order among wires.
use Rattle.std.specs.Prelude.{◌≡◌, ℕ, zero, suc, ◌<◌, ◌≤◌, ◌+◌, nat_le, Bool, true, false, if◌then◌else◌, List, [], ◌∷◌, slice_get, Option, Some, None}
use Rattle.std.specs.Option.{option_map}
use Rattle.std.proofs.Common.{refl, sym, ap, ap₂, ◌∙◌, arith, subst, ⊎_elim}
use Rattle.std.proofs.lemmas.Bool.Decides.{leb_tells}
use Rattle.zl_value.specs.Operators.{Answer, Gives, Faults, Nothing}
use Rattle.zl_value.specs.declared.value.Value.{Value}
use Rattle.zl_value.specs.declared.value.Fault.{Fault}
use Rattle.zl_meaning.specs.Solves.{fault_of, or_later}
use Rattle.zl_meaning.specs.declared.occurrence.Occ.{Occ}
use Rattle.zl_kernel.specs.KernelForm.{KernelForm}
use Rattle.zl_kernel.specs.Wires.{Moment as KernelMoment, wire_answer}
use Rattle.zl_kernel.specs.Faults.{Ranked, ranked, lower, least_from}
use Rattle.zl_kernel.specs.declared.wire.Wire.{Wire}
use Rattle.zl_normal.proofs.Instants.Follows.{some_is}

pub clash : {X : Type 0} (x : X) → None ≡ Some x → ⊥
clash x e = absurd cc

shift : (j i : ℕ) → suc j + i ≡ j + suc i
shift j i = omega arith

pub zero_more : (j : ℕ) → 0 + j ≡ j
zero_more j = omega arith

start : (j : ℕ) → j + 0 ≡ j
start j = omega arith

abbrev pub at_ord : ℕ → Option Fault → Option Ranked
at_ord j o = option_map (λ (x : Fault). record { ord = j; fault = x }) o

pub ranked_is : (wire : Wire) (a : Answer) → ranked wire a ≡ option_map (λ (x : Fault). record { ord = wire.ord; fault = x }) (fault_of wire.at a)
ranked_is wire (Gives v) = refl
ranked_is wire (Faults kind) = refl
ranked_is wire Nothing = refl

-- `F` says what fault an occurrence has, by its number. The first number is `base`
module _ (F : ℕ → Occ → Option Fault) where
  abbrev pub first_from : ℕ → List Occ → Option Fault
  first_from base [] = None
  first_from base (occ ∷ occs) = or_later (F base occ) (first_from (suc base) occs)

  record FirstAt (base : ℕ) (occs : List Occ) (fault : Fault) : Type 0 where
    at : ℕ
    occ : Occ
    is : slice_get occs at ≡ Some occ
    has : F (base + at) occ ≡ Some fault
    before : (i : ℕ) (o : Occ) → slice_get occs i ≡ Some o → i < at → F (base + i) o ≡ None

  pub first_none : (base : ℕ) (occs : List Occ) → first_from base occs ≡ None → (i : ℕ) (o : Occ) → slice_get occs i ≡ Some o → F (base + i) o ≡ None
  first_none base [] e i o is = absurd cc
  first_none base (occ ∷ occs) e zero o is =
      ap₂ (λ n x. F n x) (start base) (sym (some_is occ o is)) ∙ by (F base occ) (first_from (suc base) occs) e
    where
      by : (a b : Option Fault) → or_later a b ≡ None → a ≡ None
      by None b e = refl
      by (Some x) b e = absurd cc
  first_none base (occ ∷ occs) e (suc i) o is =
      ap (λ n. F n o) (sym (shift base i)) ∙ first_none (suc base) occs (by (F base occ) (first_from (suc base) occs) e) i o is
    where
      by : (a b : Option Fault) → or_later a b ≡ None → b ≡ None
      by None b e = e
      by (Some x) b e = absurd cc

  first_some : (base : ℕ) (occs : List Occ) (fault : Fault) → first_from base occs ≡ Some fault → FirstAt base occs fault
  first_some base [] fault e = absurd cc
  first_some base (occ ∷ occs) fault e = by (F base occ) refl e (λ q. first_some (suc base) occs fault q)
    where
      by : (a : Option Fault) → F base occ ≡ a → or_later a (first_from (suc base) occs) ≡ Some fault → (first_from (suc base) occs ≡ Some fault → FirstAt (suc base) occs fault) → FirstAt base (occ ∷ occs) fault
      by (Some x) q e rest = record { at = 0; occ = occ; is = refl; has = ap (λ n. F n occ) (start base) ∙ q ∙ e; before = λ i o is low. absurd (omega (arith, low)) }
      by None q e rest =
          let r = rest e in
          record { at = suc r.at; occ = r.occ; is = r.is; has = ap (λ n. F n r.occ) (sym (shift base r.at)) ∙ r.has; before = λ i o is low. earlier r i o is low }
        where
          earlier : (r : FirstAt (suc base) occs fault) (i : ℕ) (o : Occ) → slice_get (occ ∷ occs) i ≡ Some o → i < suc r.at → F (base + i) o ≡ None
          earlier r zero o is low = ap₂ (λ n x. F n x) (start base) (sym (some_is occ o is)) ∙ q
          earlier r (suc i) o is low = ap (λ n. F n o) (sym (shift base i)) ∙ r.before i o is (omega (arith, low))

module _ (k : KernelForm) (km : KernelMoment) (s : ℕ → Option Value) where
  abbrev pub at_wire : ℕ → Wire → Option Ranked
  at_wire n wire = ranked wire (wire_answer k km s n wire)

  lower_none : (a b : Option Ranked) → lower a b ≡ None → (a ≡ None) × (b ≡ None)
  lower_none None b e = (refl, e)
  lower_none (Some a) None e = absurd cc
  lower_none (Some a) (Some b) e = absurd (by (nat_le a.ord b.ord) e)
    where
      by : (t : Bool) → (if t then Some a else Some b) ≡ None → ⊥
      by true e = absurd cc
      by false e = absurd cc

  least_none : (base : ℕ) (wires : List Wire) → least_from k km s base wires ≡ None → (i : ℕ) (wire : Wire) → slice_get wires i ≡ Some wire → at_wire (base + i) wire ≡ None
  least_none base [] e i wire is = absurd cc
  least_none base (w ∷ wires) e zero wire is = ap₂ (λ n x. at_wire n x) (start base) (sym (some_is w wire is)) ∙ (lower_none (at_wire base w) (least_from k km s (suc base) wires) e).0
  least_none base (w ∷ wires) e (suc i) wire is =
      ap (λ n. at_wire n wire) (sym (shift base i)) ∙ least_none (suc base) wires (lower_none (at_wire base w) (least_from k km s (suc base) wires) e).1 i wire is

  -- the one of least order is one of them, and no other is of a lower order
  record LeastAt (base : ℕ) (wires : List Wire) (a : Ranked) : Type 0 where
    at : ℕ
    wire : Wire
    is : slice_get wires at ≡ Some wire
    has : at_wire (base + at) wire ≡ Some a
    least : (i : ℕ) (o : Wire) (b : Ranked) → slice_get wires i ≡ Some o → at_wire (base + i) o ≡ Some b → a.ord ≤ b.ord

  least_some : (base : ℕ) (wires : List Wire) (a : Ranked) → least_from k km s base wires ≡ Some a → LeastAt base wires a
  least_some base [] a e = absurd cc
  least_some base (w ∷ wires) a e = by (at_wire base w) (least_from k km s (suc base) wires) refl refl e (λ b q. least_some (suc base) wires b q)
    where
      here : (x : Ranked) → at_wire base w ≡ Some x → (c : Option Ranked) → least_from k km s (suc base) wires ≡ c → ((b : Ranked) → c ≡ Some b → (x.ord ≤ b.ord)) → ((b : Ranked) → least_from k km s (suc base) wires ≡ Some b → LeastAt (suc base) wires b) → LeastAt base (w ∷ wires) x
      here x q c p low rest = record { at = 0; wire = w; is = refl; has = ap (λ n. at_wire n w) (start base) ∙ q; least = λ i o b is has. all i o b is has c p low }
        where
          all : (i : ℕ) (o : Wire) (b : Ranked) → slice_get (w ∷ wires) i ≡ Some o → at_wire (base + i) o ≡ Some b → (c : Option Ranked) → least_from k km s (suc base) wires ≡ c → ((b : Ranked) → c ≡ Some b → x.ord ≤ b.ord) → x.ord ≤ b.ord
          all zero o b is has c p low =
              let e : x ≡ b = some_is x b (sym q ∙ sym (ap₂ (λ n y. at_wire n y) (start base) (sym (some_is w o is))) ∙ has) in
              let d : x.ord ≡ b.ord = ap (λ (y : Ranked). y.ord) e in omega (arith, d)
          all (suc i) o b is has None p low =
              let z : None ≡ Some b = sym (least_none (suc base) wires p i o is) ∙ ap (λ n. at_wire n o) (shift base i) ∙ has in absurd cc
          all (suc i) o b is has (Some y) p low =
              let first = low y refl in
              let others = (rest y p).least i o b is (ap (λ n. at_wire n o) (shift base i) ∙ has) in omega (arith, first, others)

      there : (y : Ranked) → least_from k km s (suc base) wires ≡ Some y → ((x : Ranked) → at_wire base w ≡ Some x → y.ord ≤ x.ord) → ((b : Ranked) → least_from k km s (suc base) wires ≡ Some b → LeastAt (suc base) wires b) → LeastAt base (w ∷ wires) y
      there y p low rest =
          let r = rest y p in
          record { at = suc r.at; wire = r.wire; is = r.is; has = ap (λ n. at_wire n r.wire) (sym (shift base r.at)) ∙ r.has; least = λ i o b is has. all r i o b is has }
        where
          all : (r : LeastAt (suc base) wires y) (i : ℕ) (o : Wire) (b : Ranked) → slice_get (w ∷ wires) i ≡ Some o → at_wire (base + i) o ≡ Some b → y.ord ≤ b.ord
          all r zero o b is has = low b (sym (ap₂ (λ n z. at_wire n z) (start base) (sym (some_is w o is))) ∙ has)
          all r (suc i) o b is has = r.least i o b is (ap (λ n. at_wire n o) (shift base i) ∙ has)

      by : (x y : Option Ranked) → at_wire base w ≡ x → least_from k km s (suc base) wires ≡ y → lower x y ≡ Some a → ((b : Ranked) → least_from k km s (suc base) wires ≡ Some b → LeastAt (suc base) wires b) → LeastAt base (w ∷ wires) a
      by None y q p e rest = there a (p ∙ e) (λ x z. let w : None ≡ Some x = sym q ∙ z in absurd cc) rest
      by (Some x) None q p e rest = subst (λ z. LeastAt base (w ∷ wires) z) (some_is x a e) (here x q None p (λ b z. absurd cc) rest)
      by (Some x) (Some y) q p e rest =
          ⊎_elim
          (λ yes. subst (λ z. LeastAt base (w ∷ wires) z) (some_is x a (sym (ap (λ t. if t then Some x else Some y) yes.0) ∙ e)) (here x q (Some y) p (λ b z. let d : y.ord ≡ b.ord = ap (λ (v : Ranked). v.ord) (some_is y b z) in let l = yes.1 in omega (arith, d, l)) rest))
          (λ other. subst (λ z. LeastAt base (w ∷ wires) z) (some_is y a (sym (ap (λ t. if t then Some x else Some y) other.0) ∙ e)) (there y p (λ b z. let d : x.ord ≡ b.ord = ap (λ (v : Ranked). v.ord) (some_is x b (sym q ∙ z)) in let l = other.1 in omega (arith, d, l)) rest))
          (leb_tells x.ord y.ord)

  -- a wire that has this fault; an occurrence that has the fault of a wire, at whose turn, past `past`, it comes
  pub record WireOf (ord : ℕ) (fault : Fault) : Type 0 where
    pub n : ℕ
    pub wire : Wire
    pub is : slice_get k.wires n ≡ Some wire
    pub has : at_wire n wire ≡ Some (record { ord = ord; fault = fault })

  pub record TurnOf (F : ℕ → Occ → Option Fault) (occs : List Occ) (past : ℕ) (a : Ranked) : Type 0 where
    pub j : ℕ
    pub occ : Occ
    pub is : slice_get occs j ≡ Some occ
    pub ord : a.ord ≡ past + j
    pub has : F j occ ≡ Some a.fault

  -- where the faults of wires are those of occurrences, each at its turn, the fault of the wires is the first of the occurrences
  pub same_first : (F : ℕ → Occ → Option Fault) (occs : List Occ) (past : ℕ) → ((j : ℕ) (occ : Occ) (fault : Fault) → slice_get occs j ≡ Some occ → F j occ ≡ Some fault → WireOf (past + j) fault) → ((n : ℕ) (wire : Wire) (a : Ranked) → slice_get k.wires n ≡ Some wire → at_wire n wire ≡ Some a → TurnOf F occs past a) → option_map (λ (a : Ranked). a.fault) (least_from k km s 0 k.wires) ≡ first_from F 0 occs
  same_first F occs past to from = by (least_from k km s 0 k.wires) (first_from F 0 occs) refl refl
    where
      to_wire : (x : Fault) (first : FirstAt F 0 occs x) → WireOf (past + first.at) x
      to_wire x first = to first.at first.occ x first.is (ap (λ n. F n first.occ) (sym (zero_more first.at)) ∙ first.has)

      to_turn : (a : Ranked) → LeastAt 0 k.wires a → TurnOf F occs past a
      to_turn a least = from least.at least.wire a least.is (ap (λ n. at_wire n least.wire) (sym (zero_more least.at)) ∙ least.has)

      by : (a : Option Ranked) (b : Option Fault) → least_from k km s 0 k.wires ≡ a → first_from F 0 occs ≡ b → option_map (λ (a : Ranked). a.fault) a ≡ b
      by None None p q = refl
      by None (Some x) p q =
          let wire = to_wire x (first_some F 0 occs x q) in
          absurd (clash _ (sym (least_none 0 k.wires p wire.n wire.wire wire.is) ∙ ap (λ n. at_wire n wire.wire) (zero_more wire.n) ∙ wire.has))
      by (Some a) None p q =
          let turn = to_turn a (least_some 0 k.wires a p) in
          absurd (clash _ (sym (first_none F 0 occs q turn.j turn.occ turn.is) ∙ ap (λ n. F n turn.occ) (zero_more turn.j) ∙ turn.has))
      by (Some a) (Some x) p q =
          let first = first_some F 0 occs x q in
          let wire = to_wire x first in
          let least = least_some 0 k.wires a p in
          let turn = to_turn a least in
          let low = least.least wire.n wire.wire (record { ord = past + first.at; fault = x }) wire.is (ap (λ n. at_wire n wire.wire) (zero_more wire.n) ∙ wire.has) in
          let ord = turn.ord in
          ⊎_elim
          (λ up.
          let l = up.1 in
          let at : turn.j ≡ first.at = omega (arith, l, low, ord) in
          let occ : turn.occ ≡ first.occ = some_is turn.occ first.occ (sym turn.is ∙ ap (λ n. slice_get occs n) at ∙ first.is) in
          sym turn.has ∙ ap₂ (λ n o. F n o) (at ∙ sym (zero_more first.at)) occ ∙ first.has)
          (λ down. absurd (clash _ (sym (first.before turn.j turn.occ turn.is down.1) ∙ ap (λ n. F n turn.occ) (zero_more turn.j) ∙ turn.has)))
          (leb_tells first.at turn.j)
