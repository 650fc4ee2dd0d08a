-- The wires of values agree in types with what they are made from, in the kernel that is made of a form.
use Rattle.std.specs.Prelude.{◌≡◌, ℕ, zero, suc, Bool, true, false, if◌then◌else◌, List, [], ◌∷◌, map, drop, slice_get, Option, Some, None}
use Rattle.std.specs.List.{AllByRecursion}
use Rattle.std.specs.Option.{option_map}
use Rattle.std.proofs.Common.{refl, sym, ap, ◌∙◌, arith, subst}
use Rattle.std.proofs.lemmas.Bool.{and_parts}
use Rattle.std.proofs.lemmas.Option.{slice_get-map, slice_get_within}
use Rattle.zl_value.specs.Lists.{Has}
use Rattle.zl_value.specs.OperatorTypes.{type_of}
use Rattle.zl_value.specs.declared.value.Ty.{Ty}
use Rattle.zl_value.specs.declared.value.Ty.TheVariants.{Bool as BoolTy, Float, Zero as ZeroTy}
use Rattle.zl_value.specs.declared.op.Op.{Op}
use Rattle.zl_value.specs.declared.op.Op.TheVariants.{AddInt, SubInt, MulInt, DivInt, ModInt, NegInt, AddFloat, SubFloat, MulFloat, DivFloat, NegFloat, FloatOfInt, Truncate, EqBool, NeBool, LtBool, LeBool, GtBool, GeBool, EqInt, NeInt, LtInt, LeInt, GtInt, GeInt, EqFloat, NeFloat, LtFloat, LeFloat, GtFloat, GeFloat, And, Or, Not}
use Rattle.zl_meaning.specs.FlatForm.{FlatForm}
use Rattle.zl_meaning.specs.WellFormed.{Stands, AllStand, IsForm}
use Rattle.zl_meaning.specs.Reading.{HasNodeRanks}
use Rattle.zl_meaning.specs.declared.occurrence.Form.{Form}
use Rattle.zl_meaning.specs.declared.occurrence.Form.TheVariants.{Lit, Read, Last as LastOf, Op as Apply, If as IfOf, Arrow, Pre, Result, Up, Fired, Step as AtSteps}
use Rattle.zl_meaning.specs.declared.occurrence.Occ.{Occ}
use Rattle.zl_meaning.proofs.Members.{all-has}
use Rattle.zl_kernel.specs.KernelForm.{KernelForm}
use Rattle.zl_kernel.specs.WellFormed.{IsOfValues, HasWire, HasMemory, HaveWires, IsDef, IsGuard, IsSlope, IsWire}
use Rattle.zl_kernel.specs.declared.wire.Def.{Def}
use Rattle.zl_kernel.specs.declared.wire.Def.TheVariants.{Op as OpWire, If}
use Rattle.zl_normal.specs.Tables.{Tables, is_float, moves, has_form_slope, has_own_slope}
use Rattle.zl_normal.specs.Keys.{keys, value_keys, memories}
use Rattle.zl_normal.specs.KernelOf.{Numbers, blank, plain, joined, solved, value_wire, rest_wire, next_wire, memory_of, pre_memory}
use Rattle.zl_normal.specs.declared.key.Key.{Key}
use Rattle.zl_normal.specs.declared.key.Key.TheVariants.{Rest, Slope}
use Rattle.zl_normal.specs.declared.key.Kept.{Kept}
use Rattle.zl_normal.specs.declared.key.Kept.TheVariants.{Pre as OfPre}
use Rattle.zl_normal.proofs.MadeFlows.Placed.{numbered, value_there, slope_there}
use Rattle.zl_normal.proofs.MadeFlows.SlopeRoots.{float_type}
use Rattle.zl_normal.proofs.MadeFlows.Named.{slope_key}
use Rattle.zl_normal.proofs.Made.Wires.{IsMade, occ_memory_there}
use Rattle.zl_normal.proofs.Made.Forms.{joint_there, drop_next}
use Rattle.zl_normal.proofs.Made.Sites.{site_count}
use Rattle.zl_normal.proofs.Made.Types.{shown_same, typed_as, moved_to, plain_type, stands_typed, as_float, joined_type}
use Rattle.zl_normal.proofs.Made.GuardTypes.{fresh_typed, guard_typed}

-- operators take values
pub values_taken : (op : Op) → AllByRecursion IsOfValues (type_of op).operands
values_taken AddInt = (λ e. cc, (λ e. cc, tt))
values_taken SubInt = (λ e. cc, (λ e. cc, tt))
values_taken MulInt = (λ e. cc, (λ e. cc, tt))
values_taken DivInt = (λ e. cc, (λ e. cc, tt))
values_taken ModInt = (λ e. cc, (λ e. cc, tt))
values_taken NegInt = (λ e. cc, tt)
values_taken AddFloat = (λ e. cc, (λ e. cc, tt))
values_taken SubFloat = (λ e. cc, (λ e. cc, tt))
values_taken MulFloat = (λ e. cc, (λ e. cc, tt))
values_taken DivFloat = (λ e. cc, (λ e. cc, tt))
values_taken NegFloat = (λ e. cc, tt)
values_taken FloatOfInt = (λ e. cc, tt)
values_taken Truncate = (λ e. cc, tt)
values_taken EqBool = (λ e. cc, (λ e. cc, tt))
values_taken NeBool = (λ e. cc, (λ e. cc, tt))
values_taken LtBool = (λ e. cc, (λ e. cc, tt))
values_taken LeBool = (λ e. cc, (λ e. cc, tt))
values_taken GtBool = (λ e. cc, (λ e. cc, tt))
values_taken GeBool = (λ e. cc, (λ e. cc, tt))
values_taken EqInt = (λ e. cc, (λ e. cc, tt))
values_taken NeInt = (λ e. cc, (λ e. cc, tt))
values_taken LtInt = (λ e. cc, (λ e. cc, tt))
values_taken LeInt = (λ e. cc, (λ e. cc, tt))
values_taken GtInt = (λ e. cc, (λ e. cc, tt))
values_taken GeInt = (λ e. cc, (λ e. cc, tt))
values_taken EqFloat = (λ e. cc, (λ e. cc, tt))
values_taken NeFloat = (λ e. cc, (λ e. cc, tt))
values_taken LtFloat = (λ e. cc, (λ e. cc, tt))
values_taken LeFloat = (λ e. cc, (λ e. cc, tt))
values_taken GtFloat = (λ e. cc, (λ e. cc, tt))
values_taken GeFloat = (λ e. cc, (λ e. cc, tt))
values_taken And = (λ e. cc, (λ e. cc, tt))
values_taken Or = (λ e. cc, (λ e. cc, tt))
values_taken Not = (λ e. cc, tt)

-- what isn't solved names no slope
pub plain_fits : (k : KernelForm) (ty : Ty) (def : Def) (guard : Option ℕ) → (ty ≡ ZeroTy → ⊥) → IsDef k ty def → IsGuard k guard → IsWire k (plain ty def guard)
plain_fits k ty def guard value typed guarded = record { value = value; def = typed; guard = guarded; slope = tt }

pub bool_fits : (k : KernelForm) (def : Def) (guard : Option ℕ) → IsDef k BoolTy def → IsGuard k guard → IsWire k (plain BoolTy def guard)
bool_fits k def guard typed guarded = plain_fits k BoolTy def guard (λ e. cc) typed guarded

pub float_fits : (k : KernelForm) (def : Def) (guard : Option ℕ) → IsDef k Float def → IsGuard k guard → IsWire k (plain Float def guard)
float_fits k def guard typed guarded = plain_fits k Float def guard (λ e. cc) typed guarded

pub blank_fits : (k : KernelForm) → IsWire k blank
blank_fits k = bool_fits k _ None tt tt

pub joined_fits : (k : KernelForm) (w : ℕ → ℕ) (rest : ℕ) (ks : List ℕ) → ((u : ℕ) → Has ks u → HasWire k BoolTy (w u)) → ((u v x : ℕ) (us : List ℕ) → ks ≡ u ∷ v ∷ x ∷ us → HasWire k BoolTy rest) → IsWire k (joined w rest ks)
joined_fits k w rest [] each more = blank_fits k
joined_fits k w rest (u ∷ []) each more = blank_fits k
joined_fits k w rest (u ∷ v ∷ []) each more = bool_fits k _ None ((each u (record { index = 0; is = refl }), (each v (record { index = 1; is = refl }), tt)), refl) tt
joined_fits k w rest (u ∷ v ∷ x ∷ us) each more = bool_fits k _ None ((each u (record { index = 0; is = refl }), (more u v x us refl, tt)), refl) tt

pub dropped_has : (ks : List ℕ) (i u : ℕ) → Has (drop i ks) u → Has ks u
dropped_has ks i u h = by ks i h
  where
    by : (ks : List ℕ) (i : ℕ) → Has (drop i ks) u → Has ks u
    by ks zero h = h
    by [] (suc i) h = h
    by (x ∷ xs) (suc i) h = let k = by xs i h in record { index = suc k.index; is = k.is }

module _ (f : FlatForm) (grades : List ℕ) (t : Tables) (n : Numbers) (k : KernelForm) (made : IsMade f grades t n k) (entries : HasNodeRanks f) where
  -- what is named, where its type isn't that of a crossing
  pub value_stands : (b : ℕ) (ty : Ty) (j : ℕ) → (ty ≡ ZeroTy → ⊥) → Stands f b ty j → HasWire k ty (n.wiring.w j)
  value_stands b ty j value s = moved_to f grades t n k made entries _ _ _ _ refl (shown_same ty value) (stands_typed f grades t n k made entries b ty j s)

  pub test_stands : (b j : ℕ) → Stands f b BoolTy j → HasWire k BoolTy (n.wiring.w j)
  test_stands b j s = value_stands b BoolTy j (λ e. cc) s

  pub number_stands : (b j : ℕ) → Stands f b Float j → HasWire k Float (n.wiring.w j)
  number_stands b j s = value_stands b Float j (λ e. cc) s

  pub operands_typed : (b : ℕ) (tys : List Ty) (ks : List ℕ) → AllByRecursion IsOfValues tys → AllStand f b tys ks → HaveWires k tys (map n.wiring.w ks)
  operands_typed b [] [] values st = tt
  operands_typed b (ty ∷ tys) (j ∷ ks) values st = (value_stands b ty j values.0 st.0, operands_typed b tys ks values.1 st.1)
  operands_typed b [] (j ∷ ks) values st = absurd st
  operands_typed b (ty ∷ tys) [] values st = absurd st

  -- a memory that is listed
  pub memory_typed : (kept : Kept) → Has (memories f grades t) kept → (ty : Ty) → (memory_of f grades t n kept).ty ≡ ty → HasMemory k ty (n.memory kept)
  memory_typed kept h ty typed = record { mem = memory_of f grades t n kept; is = there; typed = typed }
    where
      listed : slice_get (memories f grades t) (n.memory kept) ≡ Some kept
      listed = subst (λ m. slice_get (memories f grades t) m ≡ Some kept) (sym (made.layout.memories h.index kept h.is)) h.is

      there : slice_get k.mems (n.memory kept) ≡ Some (memory_of f grades t n kept)
      there =
          ap (λ ms. slice_get ms (n.memory kept)) made.mems
          ∙ slice_get-map (memory_of f grades t n) (memories f grades t) (n.memory kept)
          ∙ ap (λ o. option_map (memory_of f grades t n) o) listed

  module _ (j : ℕ) (occ : Occ) (is : slice_get f.occs j ≡ Some occ) where
    slope_fits : (b : Bool) → has_own_slope f grades j occ ≡ b → IsSlope k occ.ty (if b then Some (n.wire (Slope j)) else None)
    slope_fits false own = tt
    slope_fits true own = (float_type occ.ty (and_parts (is_float occ.ty) _ (and_parts (moves grades j occ) (has_form_slope f grades occ.form) own).0).0, as_float f grades t n k made entries (n.wire (Slope j)) (Slope j) at refl)
      where
        at : slice_get (keys f grades t) (n.wire (Slope j)) ≡ Some (Slope j)
        at = numbered (keys f grades t) n.wire made.layout.wires (Slope j) (slope_there f grades t j occ (Slope j) is own (slope_key f grades t j occ.form))

    -- a value that is solved
    solved_fits : (def : Def) → (occ.ty ≡ ZeroTy → ⊥) → IsDef k occ.ty def → IsWire k (solved f grades t n j occ def)
    solved_fits def value typed = record {
      value = value;
      def = typed;
      guard = guard_typed f grades t n k made entries j occ is;
      slope = slope_fits (has_own_slope f grades j occ) refl;
    }

    -- the wires of an occurrence of this form
    module _ (form : Form) (of : occ.form ≡ form) where
      no_crossing : ((s : ℕ) → form ≡ Up s → ⊥) → occ.ty ≡ ZeroTy → ⊥
      no_crossing other = plain_type f grades t n k made entries j occ is form of other

      listed_value : (key : Key) → Has (value_keys f grades t j form) key → Has (keys f grades t) key
      listed_value key h = value_there f grades t j occ key is (subst (λ form. Has (value_keys f grades t j form) key) (sym of) h)

    pub value_fits : (form : Form) → occ.form ≡ form → IsForm f occ.block occ.ty form → IsWire k (value_wire f grades t n j occ form)
    value_fits (Lit v) of st = plain_fits k occ.ty _ None (no_crossing (Lit v) of (λ s e. cc)) st tt
    value_fits (Read p) of st = blank_fits k
    value_fits (LastOf p) of st = blank_fits k
    value_fits (Apply op ks) of st =
        solved_fits (OpWire op (map n.wiring.w ks)) (no_crossing (Apply op ks) of (λ s e. cc)) (operands_typed occ.block (type_of op).operands ks (values_taken op) st.0, st.1)
    value_fits (IfOf c x y) of st =
        let value = no_crossing (IfOf c x y) of (λ s e. cc) in
        solved_fits (If (n.wiring.w c) (n.wiring.w x) (n.wiring.w y)) value (test_stands occ.block c st.0, value_stands occ.block occ.ty x value st.1, value_stands occ.block occ.ty y value st.2)
    value_fits (Arrow x y) of st =
        let value = no_crossing (Arrow x y) of (λ s e. cc) in
        solved_fits (If n.wiring.fresh (n.wiring.w x) (n.wiring.w y)) value (fresh_typed f grades t n k made entries, value_stands occ.block occ.ty x value st.0, value_stands occ.block occ.ty y value st.1)
    value_fits (Pre x) of st =
        plain_fits k occ.ty _ None (no_crossing (Pre x) of (λ s e. cc))
        (memory_typed (OfPre j) (occ_memory_there f grades t n k made j occ is (Pre x) of (OfPre j) (record { index = 0; is = refl })) occ.ty memory_type) tt
      where
        memory_type : (memory_of f grades t n (OfPre j)).ty ≡ occ.ty
        memory_type = rw is (ap (λ form. (pre_memory f grades t n j form occ.ty).ty) of)
    value_fits (Result x) of st = blank_fits k
    value_fits (Up s) of st =
        let inside = slice_get_within f.sites s st.0 st.1 in
        let count = site_count f grades t n k made in
        bool_fits k _ None (omega (arith, inside, count), refl) tt
    value_fits (Fired ks) of st = blank_fits k
    value_fits AtSteps of st = blank_fits k

    pub rest_fits : (i : ℕ) (form : Form) → occ.form ≡ form → IsForm f occ.block occ.ty form → IsWire k (rest_wire f grades t n j i form)
    rest_fits i (Fired ks) of st =
        joined_fits k n.wiring.w (n.wire (Rest j (suc i))) (drop i ks)
        (λ u h. stands_typed f grades t n k made entries occ.block ZeroTy u (all-has (Stands f occ.block ZeroTy) ks u st.0 (dropped_has ks i u h)))
        (λ u v x us q. rest_typed u v x us q)
      where
        rest_typed : (u v x : ℕ) (us : List ℕ) → drop i ks ≡ u ∷ v ∷ x ∷ us → HasWire k BoolTy (n.wire (Rest j (suc i)))
        rest_typed u v x us q =
            typed_as f grades t n k made entries (Rest j (suc i))
            (listed_value (Fired ks) of (Rest j (suc i)) (joint_there (Rest j) 0 (suc i) (suc i) ks v x us (drop_next i ks u (v ∷ x ∷ us) q) (omega arith))) BoolTy
            (rw is (ap (λ form. (rest_wire f grades t n j (suc i) form).ty) of ∙ joined_type n.wiring.w (n.wire (Rest j (suc (suc i)))) (drop (suc i) ks))) (n.wire (Rest j (suc i))) refl
    rest_fits i form of st = blank_fits k

    pub next_fits : (form : Form) → occ.form ≡ form → IsForm f occ.block occ.ty form → IsWire k (next_wire f grades t n form occ.ty)
    next_fits (Pre x) of st =
        let value = no_crossing (Pre x) of (λ s e. cc) in
        plain_fits k occ.ty _ (n.wiring.G x) value (value_stands occ.block occ.ty x value st) (guard_typed f grades t n k made entries x st.occ st.is)
    next_fits form of st = blank_fits k
