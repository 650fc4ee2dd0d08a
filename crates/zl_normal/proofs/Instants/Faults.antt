-- An instant of a normal form has the fault of the form's instant.
use Rattle.std.specs.Prelude.{◌≡◌, ℕ, suc, Bool, true, false, not, ◌&&◌, ◌||◌, if◌then◌else◌, List, [], ◌∷◌, map, slice_get, Option, Some, None}
use Rattle.std.specs.Option.{option_map}
use Rattle.std.proofs.Common.{refl, sym, ap, ap₂, ◌∙◌, subst}
use Rattle.zl_value.specs.Operators.{Answer, Nothing}
use Rattle.zl_value.specs.declared.value.Value.{Value}
use Rattle.zl_value.specs.declared.value.Value.TheVariants.{B, I, F}
use Rattle.zl_value.specs.declared.op.Op.{Op}
use Rattle.zl_meaning.specs.FlatForm.{FlatForm}
use Rattle.zl_meaning.specs.State.{AtPlace, AtUsed, AtValue, State, value_in}
use Rattle.zl_meaning.specs.Moment.{Mode, AtStep, AtLeft, InFlow, Moment, is_in_flow, is_fresh}
use Rattle.zl_meaning.specs.Places.{last_of}
use Rattle.zl_meaning.specs.Occurrences.{gathered, given, branch, any_holds, fired_answer, answer}
use Rattle.zl_meaning.specs.declared.occurrence.Form.{Form}
use Rattle.zl_meaning.specs.declared.occurrence.Form.TheVariants.{Lit, Read, Last, Op as Apply, If, Arrow, Pre, Result, Up, Fired, Step as AtSteps}
use Rattle.zl_meaning.specs.declared.occurrence.Occ.{Occ}
use Rattle.zl_kernel.specs.KernelForm.{KernelForm}
use Rattle.zl_kernel.specs.Wires.{Registers, held, is_open, turn, Moment as KernelMoment, is_in_flow as in_flow, gathered as collected, applied as worked}
use Rattle.zl_normal.specs.KernelParts.{IsWire}
use Rattle.zl_normal.specs.Wiring.{Wiring}
use Rattle.zl_normal.specs.FormWires.{AreParts, AreLits, IsApplied, Made, Folded, IsFormWire}
use Rattle.zl_normal.specs.Normal.{IsNormalAtInstants}
use Rattle.zl_kernel.specs.declared.wire.Def.TheVariants.{Lit as LitWire, Copy, Mem, In, Event, Step, Op as OpWire, If as IfWire}
use Rattle.zl_normal.proofs.Wires.Solved.{lit_is}
use Rattle.zl_normal.proofs.Instants.Follows.{some_is}
use Rattle.zl_normal.proofs.Wires.FirstFaults.{clash, at_ord, zero_more, ranked_is, first_from, same_first}
use Rattle.zl_normal.specs.MainBlock.{IsMain}
use Rattle.zl_normal.proofs.Values.Entries.{Agrees, mode_as, applied_same, mode_flow}
use Rattle.std.specs.Prelude.{◌⊎◌}
use Rattle.std.proofs.Common.{⊎_elim, inl, inr}
use Rattle.zl_value.specs.declared.position.Pos.{Pos}
use Rattle.zl_value.specs.declared.value.Fault.{Fault}
use Rattle.zl_value.specs.declared.op.Op.TheVariants.{Or, Not}
use Rattle.zl_meaning.specs.Solves.{fault_of, if_evaluated, or_later, own_fault, fault_from}
use Rattle.zl_kernel.specs.Faults.{Ranked, ranked, least_from}
use Rattle.zl_kernel.specs.FlowWires.{is_of_flows}
use Rattle.zl_kernel.specs.Wires.{wire_answer, answer as wire_says}
use Rattle.zl_normal.specs.Normal.{IsOwn}
use Rattle.zl_kernel.specs.declared.wire.Wire.{Wire}
use Rattle.zl_kernel.specs.declared.wire.Def.{Def}

-- answers that have no fault
pub given_right : (at : Pos) (x : Option Value) → fault_of at (given x) ≡ None
given_right at None = refl
given_right at (Some v) = refl

pub not_right : (at : Pos) (vs : Option (List Value)) → fault_of at (worked Not vs) ≡ None
not_right at None = refl
not_right at (Some []) = refl
not_right at (Some (B b ∷ [])) = refl
not_right at (Some (I i ∷ [])) = refl
not_right at (Some (F i ∷ [])) = refl
not_right at (Some (B b ∷ v ∷ vs)) = refl
not_right at (Some (I b ∷ v ∷ vs)) = refl
not_right at (Some (F b ∷ v ∷ vs)) = refl

pub or_right : (at : Pos) (vs : Option (List Value)) → fault_of at (worked Or vs) ≡ None
or_right at None = refl
or_right at (Some []) = refl
or_right at (Some (B a ∷ B b ∷ [])) = refl
or_right at (Some _) = refl

-- a wire that has no operator has no fault
pub operators : (km : KernelMoment) (r : Registers) (def : Def) → ((op : Op) × (ns : List ℕ) × (def ≡ OpWire op ns)) ⊎ ((p : Pos) → fault_of p (wire_says km (held r) def) ≡ None)
operators km r (OpWire op ns) = inl (op, ns, refl)
operators km r (LitWire v) = inr (λ p. refl)
operators km r (Copy n) = inr (λ p. given_right p (held r n))
operators km r (Mem n) = inr (λ p. given_right p (held km.memories n))
operators km r (In n) = inr (λ p. given_right p (held km.inputs n))
operators km r (Event n) = inr (λ p. refl)
operators km r Step = inr (λ p. refl)
operators km r (IfWire c x y) = inr (λ p. given_right p (branch (held r c) (held r x) (held r y)))

pub gate_fault : (at : Pos) (b : Bool) (a : Answer) → fault_of at (if b then a else Nothing) ≡ if_evaluated b (fault_of at a)
gate_fault at true a = refl
gate_fault at false a = refl

evaluated_same : (a b : Bool) (x y : Option Fault) → a ≡ b → (b ≡ true → x ≡ y) → if_evaluated a x ≡ if_evaluated b y
evaluated_same a true x y e q = rw e (q refl)
evaluated_same a false x y e q = rw e refl

module _ (f : FlatForm) (k : KernelForm) (N : Wiring) (main : IsMain f) (normal : IsNormalAtInstants f k N) (m : Moment) (km : KernelMoment) (mode : km.mode ≡ mode_as m.mode) (instant : is_in_flow m.mode ≡ false) (s : State) (r : Registers) (pm : KernelMoment) (pm_instant : in_flow pm.mode ≡ false) (wired : r ≡ turn k pm r) (same : Agrees f N s r) where
  all_gathered : (whole : ℕ) (js : List ℕ) → AreParts f k N whole js → is_open (held r) (N.G whole) ≡ true → gathered s js ≡ collected (held r) (map N.w js)
  all_gathered whole [] parts o = refl
  all_gathered whole (j ∷ js) parts o =
      let x = same.values j parts.0.there (ap (λ g. is_open (held r) g) parts.0.guard ∙ o) in let y = all_gathered whole js parts.1 o in rw (x, y) refl

  -- a wire that is solved at instants
  says : (n : ℕ) (def : Def) (guard : Option ℕ) (is : IsWire k n def guard) → ranked is.wire (wire_answer k km (held r) n is.wire) ≡ option_map (λ (x : Fault). record { ord = is.wire.ord; fault = x }) (if_evaluated (is_open (held r) guard) (fault_of is.wire.at (wire_says km (held r) def)))
  says n def guard is =
      ranked_is is.wire (wire_answer k km (held r) n is.wire)
      ∙ ap (λ b. option_map (λ (x : Fault). record { ord = is.wire.ord; fault = x }) (fault_of is.wire.at (if b && is_open (held r) is.wire.guard then wire_says km (held r) is.wire.def else Nothing)))
      (ap₂ (λ b c. b || not c) (ap (λ x. in_flow x) mode ∙ mode_flow m.mode ∙ instant) is.kept)
      ∙ ap₂ (λ g d. option_map (λ (x : Fault). record { ord = is.wire.ord; fault = x }) (fault_of is.wire.at (if is_open (held r) g then wire_says km (held r) d else Nothing))) is.guard_is is.def_is
      ∙ ap (λ x. option_map (λ (x : Fault). record { ord = is.wire.ord; fault = x }) x) (gate_fault is.wire.at (is_open (held r) guard) (wire_says km (held r) def))

  -- the fault of an operator's occurrence, by its wires
  own_by : (j : ℕ) (occ : Occ) (op : Op) (ks : List ℕ) → slice_get f.occs j ≡ Some occ → occ.form ≡ Apply op ks → AreParts f k N j ks → own_fault f m s j occ ≡ if_evaluated (is_open (held r) (N.G j)) (fault_of occ.at (worked op (collected (held r) (map N.w ks))))
  own_by j occ op ks at form parts =
      evaluated_same (s (AtUsed j)) (is_open (held r) (N.G j)) (fault_of occ.at (answer f m s occ.block occ.form)) (fault_of occ.at (worked op (collected (held r) (map N.w ks)))) (same.used j (occ, at))
      (λ o. ap (λ x. fault_of occ.at (answer f m s occ.block x)) form ∙ ap (λ x. fault_of occ.at x) (applied_same m.mode op (gathered s ks) instant) ∙ ap (λ x. fault_of occ.at (worked op x)) (all_gathered j ks parts o))

  instant_km : in_flow km.mode ≡ false
  instant_km = ap (λ x. in_flow x) mode ∙ mode_flow m.mode ∙ instant

  all_lits : (js : List ℕ) (vs : List Value) → AreLits f k N js vs → collected (held r) (map N.w js) ≡ Some vs
  all_lits [] [] are = refl
  all_lits [] (v ∷ vs) are = absurd are
  all_lits (j ∷ js) [] are = absurd are
  all_lits (j ∷ js) (v ∷ vs) are = let x = lit_is k pm r wired tt (N.w j) v are.0 in let y = all_lits js vs are.1 in rw (x, y) refl

  -- an occurrence of an operator and its wire
  made_is : (j : ℕ) (occ : Occ) (op : Op) (ks : List ℕ) → slice_get f.occs j ≡ Some occ → occ.form ≡ Apply op ks → AreParts f k N j ks → (is : IsWire k (N.w j) (OpWire op (map N.w ks)) (N.G j)) → is.wire.ord ≡ j → is.wire.at ≡ occ.at → ranked is.wire (wire_answer k km (held r) (N.w j) is.wire) ≡ option_map (λ (x : Fault). record { ord = j; fault = x }) (own_fault f m s j occ)
  made_is j occ op ks at form parts is ord pos =
      says (N.w j) (OpWire op (map N.w ks)) (N.G j) is
      ∙ ap₂ (λ o p. option_map (λ (x : Fault). record { ord = o; fault = x }) (if_evaluated (is_open (held r) (N.G j)) (fault_of p (worked op (collected (held r) (map N.w ks)))))) ord pos
      ∙ ap (λ x. option_map (λ (x : Fault). record { ord = j; fault = x }) x)
      (sym (own_by j occ op ks at form parts))

  -- no other occurrence has a fault
  Operator : Form → Type 0
  Operator form = (op : Op) × (ks : List ℕ) × (form ≡ Apply op ks)

  right : (j : ℕ) (occ : Occ) (form : Form) → occ.form ≡ form → ((b : ℕ) → fault_of occ.at (answer f m s b form) ≡ None) → own_fault f m s j occ ≡ None
  right j occ form e q = ap (λ x. if_evaluated (s (AtUsed j)) (fault_of occ.at (answer f m s occ.block x))) e ∙ ap (λ x. if_evaluated (s (AtUsed j)) x) (q occ.block) ∙ none (s (AtUsed j))
    where
      none : (b : Bool) → if_evaluated b None ≡ None
      none true = refl
      none false = refl

  other_right : (j : ℕ) (occ : Occ) (form : Form) → occ.form ≡ form → Operator form ⊎ (own_fault f m s j occ ≡ None)
  unfolding Operator
  other_right j occ (Apply op ks) e = inl (op, ks, refl)
  other_right j occ (Lit v) e = inr (right j occ (Lit v) e (λ b. refl))
  other_right j occ (Read p) e = inr (right j occ (Read p) e (λ b. given_right occ.at (s (AtPlace p))))
  other_right j occ (Last p) e = inr (right j occ (Last p) e (λ b. given_right occ.at (last_of m s p (slice_get f.places p))))
  other_right j occ (If c x y) e = inr (right j occ (If c x y) e (λ b. given_right occ.at (branch (s (AtValue c)) (s (AtValue x)) (s (AtValue y)))))
  other_right j occ (Arrow x y) e = inr (right j occ (Arrow x y) e (λ b. given_right occ.at (if is_fresh m s b then s (AtValue x) else s (AtValue y))))
  other_right j occ (Pre x) e = inr (right j occ (Pre x) e (λ b. given_right occ.at (if is_fresh m s b then None else value_in m.before x)))
  other_right j occ (Result x) e = inr (right j occ (Result x) e (λ b. given_right occ.at (s (AtValue x))))
  other_right j occ (Up site) e = inr (right j occ (Up site) e (λ b. refl))
  other_right j occ AtSteps e = inr (right j occ AtSteps e (λ b. refl))
  other_right j occ (Fired ks) e = inr (right j occ (Fired ks) e (λ b. fired m.mode))
    where
      any : (vs : Option (List Value)) → fault_of occ.at (any_holds vs) ≡ None
      any None = refl
      any (Some vs) = refl

      fired : (mode : Mode) → fault_of occ.at (fired_answer mode s ks) ≡ None
      fired AtStep = any (gathered s ks)
      fired AtLeft = refl
      fired InFlow = refl

  -- a fault of an occurrence is one of its wire, and a fault of a wire one of its occurrence
  record AtItsWire (j : ℕ) (fault : Fault) : Type 0 where
    n : ℕ
    wire : Wire
    is : slice_get k.wires n ≡ Some wire
    has : ranked wire (wire_answer k km (held r) n wire) ≡ Some (record { ord = j; fault = fault })

  to_wire : (j : ℕ) (occ : Occ) (fault : Fault) → slice_get f.occs j ≡ Some occ → own_fault f m s j occ ≡ Some fault → AtItsWire j fault
  unfolding Operator
  to_wire j occ fault at has =
      ⊎_elim
      (λ o. by o.0 o.1 o.2 (subst (λ x. IsFormWire f k N j occ x) o.2 (normal.forms j occ at)))
      (λ none. let z : None ≡ Some fault = sym none ∙ has in absurd cc)
      (other_right j occ occ.form refl)
    where
      applied_wire : (op : Op) (ks : List ℕ) → occ.form ≡ Apply op ks → AreParts f k N j ks → IsApplied f k N j occ op ks → AtItsWire j fault
      applied_wire op ks e parts (Made is ord pos) =
          record { n = N.w j; wire = is.wire; is = is.is; has = made_is j occ op ks at e parts is ord pos ∙ ap (λ x. option_map (λ (x : Fault). record { ord = j; fault = x }) x) has }
      applied_wire op ks e parts (Folded v vs lits fits lit) =
          let z : None ≡ Some fault =
          sym
          (own_by j occ op ks at e parts
          ∙ ap (λ x. if_evaluated (is_open (held r) (N.G j)) (fault_of occ.at (worked op x))) (all_lits ks vs lits)
          ∙ ap (λ x. if_evaluated (is_open (held r) (N.G j)) (fault_of occ.at x)) fits ∙ none (is_open (held r) (N.G j)))
          ∙ has in
          absurd cc
        where
          none : (b : Bool) → if_evaluated b None ≡ None
          none true = refl
          none false = refl

      by : (op : Op) (ks : List ℕ) → occ.form ≡ Apply op ks → IsFormWire f k N j occ (Apply op ks) → AtItsWire j fault
      by op ks e fm = applied_wire op ks e fm.0 fm.1

  apart : (v : Value) (op : Op) (ns : List ℕ) → LitWire v ≡ OpWire op ns → ⊥
  apart v op ns e = absurd cc

  inverted : (o : Option Fault) (j : ℕ) (a : Ranked) → option_map (λ (x : Fault). record { ord = j; fault = x }) o ≡ Some a → (o ≡ Some a.fault) × (j ≡ a.ord)
  inverted None j a e = absurd (clash a e)
  inverted (Some x) j a e = let same = some_is (record { ord = j; fault = x }) a e in (ap (λ (y : Ranked). Some y.fault) same, ap (λ (y : Ranked). y.ord) same)

  record AtItsTurn (a : Ranked) : Type 0 where
    occ : Occ
    is : slice_get f.occs a.ord ≡ Some occ
    has : own_fault f m s a.ord occ ≡ Some a.fault

  ask_solved : (a b c : Bool) (x : Answer) (wire : Wire) (y : Ranked) → a ≡ false → ranked wire (if (a || not b) && c then x else Nothing) ≡ Some y → b ≡ false
  ask_solved true b c x wire y p e = absurd cc
  ask_solved false false c x wire y p e = refl
  ask_solved false true c x wire y p e = absurd cc

  from_wire : (n : ℕ) (wire : Wire) (a : Ranked) → slice_get k.wires n ≡ Some wire → ranked wire (wire_answer k km (held r) n wire) ≡ Some a → AtItsTurn a
  from_wire n wire a is has =
      ⊎_elim
      (λ o. ⊎_elim
      (λ neither. absurd (clash a (sym (silent (λ p. ⊎_elim
      (λ e. ap₂ (λ d x. fault_of p (wire_says km (held r) d)) o.2 e ∙ ap (λ x. fault_of p (worked x (collected (held r) o.1))) e ∙ not_right p (collected (held r) o.1))
      (λ e. ap₂ (λ d x. fault_of p (wire_says km (held r) d)) o.2 e ∙ ap (λ x. fault_of p (worked x (collected (held r) o.1))) e ∙ or_right p (collected (held r) o.1))
      neither)) ∙ has)))
      (λ own. by o.0 o.1 o.2 own (subst (λ x. IsFormWire f k N wire.ord own.occ x) own.form (normal.forms wire.ord own.occ own.is)))
      (normal.faults n wire o.0 o.1 is kept o.2))
      (λ none. absurd (clash a (sym (silent none) ∙ has)))
      (operators km r wire.def)
    where
      kept : is_of_flows k n ≡ false
      kept = ask_solved (in_flow km.mode) (is_of_flows k n) (is_open (held r) wire.guard) (wire_says km (held r) wire.def) wire a instant_km has

      here : IsWire k n wire.def wire.guard
      here = record { wire = wire; is = is; def_is = refl; guard_is = refl; kept = kept }

      silent : ((p : Pos) → fault_of p (wire_says km (held r) wire.def) ≡ None) → ranked wire (wire_answer k km (held r) n wire) ≡ None
      silent none = says n wire.def wire.guard here ∙ ap (λ x. option_map (λ (x : Fault). record { ord = wire.ord; fault = x }) (if_evaluated (is_open (held r) wire.guard) x)) (none wire.at) ∙ nothing (is_open (held r) wire.guard)
        where
          nothing : (b : Bool) → at_ord wire.ord (if_evaluated b None) ≡ None
          nothing true = refl
          nothing false = refl

      by : (op : Op) (ns : List ℕ) → wire.def ≡ OpWire op ns → (own : IsOwn f N n wire op) → IsFormWire f k N wire.ord own.occ (Apply op own.ks) → AtItsTurn a
      by op ns e own fm = applied_wire fm.0 fm.1
        where
          applied_wire : AreParts f k N wire.ord own.ks → IsApplied f k N wire.ord own.occ op own.ks → AtItsTurn a
          applied_wire parts (Made made ord at) =
              let twin : made.wire ≡ wire = some_is made.wire wire (sym made.is ∙ ap (λ x. slice_get k.wires x) own.same ∙ is) in
              let fault : option_map (λ (x : Fault). record { ord = wire.ord; fault = x }) (own_fault f m s wire.ord own.occ) ≡ Some a =
              sym (made_is wire.ord own.occ op own.ks own.is own.form parts made ord at) ∙ ap₂ (λ x w. ranked w (wire_answer k km (held r) x w)) own.same twin ∙ has in
              let parts_of = inverted (own_fault f m s wire.ord own.occ) wire.ord a fault in
              record { occ = own.occ; is = ap (λ x. slice_get f.occs x) (sym parts_of.1) ∙ own.is; has = ap (λ x. own_fault f m s x own.occ) (sym parts_of.1) ∙ parts_of.0 }
          applied_wire parts (Folded v vs lits fits lit) =
              let twin : lit.wire ≡ wire = some_is lit.wire wire (sym lit.is ∙ ap (λ x. slice_get k.wires x) own.same ∙ is) in
              let z : LitWire v ≡ OpWire op ns = sym lit.def_is ∙ ap (λ (w : Wire). w.def) twin ∙ e in
              absurd (apart v op ns z)

  own_first : (base : ℕ) (occs : List Occ) → first_from (λ j occ. own_fault f m s j occ) base occs ≡ fault_from f m s base occs
  own_first base [] = refl
  own_first base (occ ∷ occs) = ap (λ x. or_later (own_fault f m s base occ) x) (own_first (suc base) occs)

  -- the fault of the wires is that of the occurrences
  pub same_fault : option_map (λ (a : Ranked). a.fault) (least_from k km (held r) 0 k.wires) ≡ fault_from f m s 0 f.occs
  same_fault =
      same_first k km (held r) (λ j occ. own_fault f m s j occ) f.occs 0
      (λ j occ fault is has.
      let w = to_wire j occ fault is has in
      record { n = w.n; wire = w.wire; is = w.is; has = w.has ∙ ap (λ n. Some (record { ord = n; fault = fault })) (sym (zero_more j)) })
      (λ n wire a is has. let t = from_wire n wire a is has in record { j = a.ord; occ = t.occ; is = t.is; ord = sym (zero_more a.ord); has = t.has })
      ∙ own_first 0 f.occs
