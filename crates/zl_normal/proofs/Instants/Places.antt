-- The law of a moment: what is assumed of entries of lower rank, and with it the values of places and of `last`.
use Rattle.std.specs.Prelude.{◌≡◌, ℕ, suc, Bool, true, false, not, if◌then◌else◌, List, [], ◌∷◌, map, slice_get, get_or, Option, Some, None}
use Rattle.std.specs.List.{AllByRecursion}
use Rattle.std.specs.Option.{option_map}
use Rattle.std.proofs.Common.{refl, sym, ap, ◌∙◌, subst}
use Rattle.zl_value.specs.Times.{holds, fails}
use Rattle.zl_value.specs.Operators.{answered}
use Rattle.zl_value.specs.declared.value.Value.{Value}
use Rattle.zl_value.specs.declared.value.Value.TheVariants.{B, I, F}
use Rattle.zl_value.specs.declared.op.Op.{Op}
use Rattle.zl_meaning.specs.FlatForm.{FlatForm}
use Rattle.zl_meaning.specs.Uses.{events_of}
use Rattle.zl_meaning.specs.State.{Node, AtControl, AtReset, AtLater, AtEntry, AtRunning, AtStrong, AtWeak, AtPlace, AtUsed, AtValue, State, if_used}
use Rattle.zl_meaning.specs.Moment.{Mode, AtStep, AtLeft, InFlow, Moment, is_at_step, is_called, decide, decide_by}
use Rattle.zl_meaning.specs.Places.{last_of, reset_value, der_value}
use Rattle.zl_meaning.specs.Occurrences.{gathered, applied, branch, answer}
use Rattle.zl_meaning.specs.Equation.{equation}
use Rattle.zl_meaning.specs.Reading.{Entries, ReadsValues, ReadsCall, ReadsStart, ReadsArm, ReadsDefiner, ReadsPlace}
use Rattle.zl_meaning.specs.declared.place.Definer.{Definer}
use Rattle.zl_meaning.specs.declared.place.Definer.TheVariants.{Input, Plain, Der, Start}
use Rattle.zl_meaning.specs.declared.place.DerArm.{DerArm}
use Rattle.zl_meaning.specs.declared.place.PlaceInfo.{PlaceInfo}
use Rattle.zl_meaning.specs.declared.occurrence.Form.TheVariants.{Op as Apply}
use Rattle.zl_meaning.specs.declared.occurrence.Occ.{Occ}
use Rattle.zl_kernel.specs.KernelForm.{KernelForm}
use Rattle.zl_kernel.specs.Wires.{Registers, held, is_open, turn, Moment as KernelMoment, is_at_step as at_step, gathered as collected, applied as worked}
use Rattle.zl_normal.specs.KernelParts.{IsWire}
use Rattle.zl_normal.specs.Guards.{IsUnder, Chained, Copied, Known}
use Rattle.zl_normal.specs.Wiring.{Wiring, call_guard}
use Rattle.zl_normal.specs.FormWires.{IsOcc, IsCall, IsPlaceOf, IsPart, AreParts, AreLits, IsBlankName}
use Rattle.zl_normal.specs.PlaceWires.{definer_of, start_of, IsLast, NoStart, LitStart, ByStart, IsReset, Stays, Sure, Tested, IsDefined}
use Rattle.zl_normal.specs.Normal.{IsNormalAtInstants}
use Rattle.zl_kernel.specs.declared.wire.Def.TheVariants.{Mem, In, Step}
use Rattle.zl_normal.proofs.Wires.Solved.{given_is, if_used_true, wire_is, lit_is, copy_is, if_is, under_is, but_is, guarded_is}
use Rattle.zl_normal.specs.MainBlock.{IsMain}
use Rattle.zl_normal.proofs.Values.Entries.{Together, if_same, and_both, mode_step, holds_is, started_by, defined_by, last_if, place_if, value_if}

some_or : {X : Type 0} → Option X → X → X
some_or None d = d
some_or (Some y) d = y

the : {X : Type 0} (a b : X) → Some a ≡ Some b → a ≡ b
unfolding some_or
the a b e = ap (λ x. some_or x a) e

left_apart : AtLeft ≡ AtStep → ⊥
left_apart e = absurd cc

flow_apart : InFlow ≡ AtStep → ⊥
flow_apart e = absurd cc

module _ (f : FlatForm) (k : KernelForm) (N : Wiring) (main : IsMain f) (normal : IsNormalAtInstants f k N) (m : Moment) (km : KernelMoment) (rp : Registers) (pm : KernelMoment) (with : Together f k N m km rp pm) (s : State) (solved : (a : Node) → s a ≡ equation f m s a) (r : Registers) (wired : r ≡ turn k km r) (exact : (j : ℕ) (occ : Occ) (op : Op) (ks : List ℕ) → slice_get f.occs j ≡ Some occ → occ.form ≡ Apply op ks → s (AtUsed j) ≡ true → applied m.mode op (gathered s ks) ≡ worked op (gathered s ks)) where
  abbrev pub Claim : Node → Type 0
  Claim (AtControl b) = Unit {0}
  Claim (AtReset b) = Unit {0}
  Claim (AtLater b) = Unit {0}
  Claim (AtEntry a) = Unit {0}
  Claim (AtRunning a) = Unit {0}
  Claim (AtStrong a) = Unit {0}
  Claim (AtWeak a) = Unit {0}
  Claim (AtPlace p) = IsPlaceOf f p → s (AtPlace p) ≡ held r (N.P p)
  Claim (AtUsed j) = IsOcc f j → s (AtUsed j) ≡ is_open (held r) (N.G j)
  Claim (AtValue j) = IsOcc f j → is_open (held r) (N.G j) ≡ true → s (AtValue j) ≡ held r (N.w j)

  pub instant_too : Unit {0}
  instant_too = tt

  -- the wires that are true at a step and at the first instant
  pub step_is : held r N.step ≡ Some (B (is_at_step m.mode))
  step_is = wire_is k km r wired instant_too N.step Step None normal.step ∙ ap (λ x. Some (B (at_step x))) with.mode ∙ ap (λ x. Some (B x)) (mode_step m.mode)

  pub memory_is : (n c : ℕ) → IsWire k n (Mem c) None → held r n ≡ held km.memories c
  memory_is n c is = wire_is k km r wired instant_too n (Mem c) None is ∙ given_is (held km.memories c)

  pub fresh_wire : held r N.fresh ≡ Some (B (not (m.live 0)))
  fresh_wire = memory_is N.fresh N.first normal.fresh ∙ with.memories N.first (Some (B true)) normal.first.0 normal.first.2 ∙ by (m.live 0) refl
    where
      by : (b : Bool) → m.live 0 ≡ b → (if b then held rp normal.first.0 else Some (B true)) ≡ Some (B (not b))
      by true e = let q = with.before e in lit_is k pm rp q.1 tt normal.first.0 (B false) normal.first.1
      by false e = refl

  module _ (P Q : Entries) (ih : (b : Node) → P b → Claim b) where
    pub called_is : (call : Option ℕ) → IsCall f call → ReadsCall P call → is_called s call ≡ is_open (held r) (call_guard N call)
    called_is None there rd = refl
    called_is (Some call) there rd = ih (AtUsed call) rd there

    pub part_is : (whole j : ℕ) → IsPart f k N whole j → P (AtValue j) → is_open (held r) (N.G whole) ≡ true → s (AtValue j) ≡ held r (N.w j)
    part_is whole j part rd o = ih (AtValue j) rd part.there (ap (λ g. is_open (held r) g) part.guard ∙ o)

    pub gathered_is : (whole : ℕ) (js : List ℕ) → AreParts f k N whole js → ReadsValues P js → is_open (held r) (N.G whole) ≡ true → gathered s js ≡ collected (held r) (map N.w js)
    gathered_is whole [] parts rd o = refl
    gathered_is whole (j ∷ js) parts rd o = let x = part_is whole j parts.0 rd.0 o in let y = gathered_is whole js parts.1 rd.1 o in rw (x, y) refl

    pub lits_are : (js : List ℕ) (vs : List Value) → AreLits f k N js vs → collected (held r) (map N.w js) ≡ Some vs
    lits_are [] [] are = refl
    lits_are [] (v ∷ vs) are = absurd are
    lits_are (j ∷ js) [] are = absurd are
    lits_are (j ∷ js) (v ∷ vs) are = let x = lit_is k km r wired instant_too (N.w j) v are.0 in let y = lits_are js vs are.1 in rw (x, y) refl

    -- the value of `last`, if the place's call is evaluated where its `init` is asked for
    pub last_is : (p : ℕ) (place : PlaceInfo) → slice_get f.places p ≡ Some place → IsLast f k N p place.call (start_of place.definers) (N.L p) → ((j : ℕ) → start_of place.definers ≡ Some j → P (AtValue j)) → (m.live 0 ≡ false → is_open (held r) (call_guard N place.call) ≡ true) → last_of m s p (Some place) ≡ held r (N.L p)
    last_is p place is of rd opens = last_if f main m s solved with.instant p place is ∙ by (start_of place.definers) (N.L p) of rd
      where
        before : (b : Bool) → m.live 0 ≡ b → b ≡ true → m.before (AtPlace p) ≡ held rp (N.P p)
        before b e t = (with.before (e ∙ t)).0.places p (place, is)

        remembered : (b : Bool) (start : Option Value) (x : Option Value) → m.live 0 ≡ b → (b ≡ false → x ≡ start) → (if not b then x else m.before (AtPlace p)) ≡ (if b then held rp (N.P p) else start)
        remembered true start x e q = before true e refl
        remembered false start x e q = q refl

        by : (j : Option ℕ) (n : ℕ) → IsLast f k N p place.call j n → ((i : ℕ) → j ≡ Some i → P (AtValue i)) → (if not (m.live 0) then started_by f main m s solved with.instant j None else m.before (AtPlace p)) ≡ held r n
        by _ _ (NoStart n c wire mem) rd = remembered (m.live 0) None None refl (λ e. refl) ∙ sym (memory_is n c wire ∙ with.memories c None (N.P p) mem)
        by _ _ (LitStart j n c occ v at form wire mem) rd =
            remembered (m.live 0) (Some v) (s (AtValue j)) refl (λ e. value_if f main m s solved with.instant j occ at ∙ ap (λ x. answered (answer f m s 0 x)) form)
            ∙ sym (memory_is n c wire ∙ with.memories c (Some v) (N.P p) mem)
        by _ _ (ByStart j n x c there under wire old mem) rd =
            choose (m.live 0) refl
            ∙ sym (if_is k km r wired instant_too n N.fresh (N.w j) x None wire ∙ ap (λ v. branch v (held r (N.w j)) (held r x)) fresh_wire)
          where
            choose : (b : Bool) → m.live 0 ≡ b → (if not b then s (AtValue j) else m.before (AtPlace p)) ≡ branch (Some (B (not b))) (held r (N.w j)) (held r x)
            choose true e = before true e refl ∙ sym (memory_is x c old ∙ with.memories c None (N.P p) mem ∙ ap (λ b. if b then held rp (N.P p) else None) e)
            choose false e =
                ih (AtValue j) (rd j refl) there
                (under_is k km r wired instant_too (call_guard N place.call) N.fresh (N.G j) under
                ∙ and_both _ _ (opens e) (ap (λ x. holds x) fresh_wire ∙ ap (λ b. not b) e))

    -- what reads what
    pub start_read : (definers : List Definer) (j : ℕ) → AllByRecursion (ReadsStart P Q) definers → start_of definers ≡ Some j → P (AtValue j)
    start_read [] j rd e = absurd cc
    start_read (Input n ∷ definers) j rd e = start_read definers j rd.1 e
    start_read (Plain b i ∷ definers) j rd e = start_read definers j rd.1 e
    start_read (Der b i arms ∷ definers) j rd e = start_read definers j rd.1 e
    start_read (Start b i ∷ definers) j rd e = subst (λ x. P (AtValue x)) (the i j e) rd.0.1

    definer_read : (p : ℕ) (definers : List Definer) (definer : Definer) → AllByRecursion (ReadsDefiner P Q p) definers → definer_of definers ≡ Some definer → ReadsDefiner P Q p definer
    definer_read p [] definer rd e = absurd cc
    definer_read p (Input n ∷ definers) definer rd e = subst (λ x. ReadsDefiner P Q p x) (the (Input n) definer e) rd.0
    definer_read p (Plain b i ∷ definers) definer rd e = subst (λ x. ReadsDefiner P Q p x) (the (Plain b i) definer e) rd.0
    definer_read p (Der b i arms ∷ definers) definer rd e = subst (λ x. ReadsDefiner P Q p x) (the (Der b i arms) definer e) rd.0
    definer_read p (Start b i ∷ definers) definer rd e = definer_read p definers definer rd.1 e

    -- reset arms: `h` holds what the event does where no arm before is taken
    test_is : (rest c h : ℕ) → IsUnder k (Some rest) c (Some h) → holds (held r rest) ≡ true → held r h ≡ held r c
    test_is rest c h under o = by (Some h) h under refl
      where
        by : (g : Option ℕ) (n : ℕ) → IsUnder k (Some rest) c g → g ≡ Some n → held r n ≡ held r c
        by _ n (Chained of) e = ap (λ x. held r x) (sym (the c n e))
        by _ n (Copied x is) e = ap (λ y. held r y) (sym (the x n e)) ∙ copy_is k km r wired instant_too x c (Some rest) is ∙ if_used_true (holds (held r rest)) (held r c) o
        by _ n (Known is) e = ap (λ y. held r y) (sym (the rest n e)) ∙ holds_is (held r rest) o ∙ sym (lit_is k km r wired instant_too c (B true) is)

    skips : (arm : DerArm) (arms : List DerArm) (d : Option ℕ) (last : Option Value) → reset_value s (arm ∷ arms) (option_map (λ n. suc n) d) last ≡ reset_value s arms d last
    skips arm arms None last = refl
    skips arm arms (Some n) last = refl

    reset_is : (call : Option ℕ) (last : ℕ) (arms : List DerArm) (rest x : ℕ) → IsReset f k N last call arms rest x → AllByRecursion (ReadsArm P) arms → is_open (held r) (call_guard N call) ≡ true → holds (held r rest) ≡ true → (v : Option Value) → v ≡ held r last → reset_value s arms (decide s (events_of arms)) v ≡ held r x
    reset_is call last _ _ _ (Stays rest) rd o h v e = e
    reset_is call last _ _ _ (Sure arm arms rest event lit there under) rd o h v e =
        let ev : s (AtValue arm.event) ≡ Some (B true) = ih (AtValue arm.event) rd.0.0 event.there (ap (λ g. is_open (held r) g) event.guard ∙ o) ∙ lit_is k km r wired instant_too (N.w arm.event) (B true) lit in
        ap (λ t. reset_value s (arm ∷ arms) (decide_by t (decide s (events_of arms))) v) ev
        ∙ ih (AtValue arm.value) rd.0.1 there (under_is k km r wired instant_too (call_guard N call) rest (N.G arm.value) under ∙ and_both _ _ o h)
    reset_is call last _ _ _ (Tested arm arms rest h n x y event test but there under more wire) rd o hr v e =
        ap (λ t. reset_value s (arm ∷ arms) (decide_by t (decide s (events_of arms))) v) ev
        ∙ by (λ q. reset_is call last arms n y more rd.1 o q v e) (held r (N.w arm.event)) refl
        ∙ sym (if_is k km r wired instant_too x h (N.w arm.value) y None wire ∙ ap (λ t. branch t (held r (N.w arm.value)) (held r y)) (test_is rest (N.w arm.event) h test hr))
      where
        ev : s (AtValue arm.event) ≡ held r (N.w arm.event)
        ev = ih (AtValue arm.event) rd.0.0 event.there (ap (λ g. is_open (held r) g) event.guard ∙ o)

        by : (holds (held r n) ≡ true → reset_value s arms (decide s (events_of arms)) v ≡ held r y) → (t : Option Value) → held r (N.w arm.event) ≡ t → reset_value s (arm ∷ arms) (decide_by t (decide s (events_of arms))) v ≡ branch t (held r (N.w arm.value)) (held r y)
        by more_is (Some (B true)) q =
            ih (AtValue arm.value) rd.0.1 there (under_is k km r wired instant_too (call_guard N call) h (N.G arm.value) under ∙ and_both _ _ o (ap (λ w. holds w) (test_is rest (N.w arm.event) h test hr ∙ q)))
        by more_is (Some (B false)) q =
            skips arm arms (decide s (events_of arms)) v
            ∙ more_is (but_is k km r wired instant_too (Some rest) (N.w arm.event) (Some n) but ∙ and_both _ _ hr (ap (λ w. fails w) q))
        by more_is (Some (I i)) q = refl
        by more_is (Some (F i)) q = refl
        by more_is None q = refl

    -- the value of a place
    defined_same : (p : ℕ) (place : PlaceInfo) → slice_get f.places p ≡ Some place → (definer : Option Definer) → definer_of place.definers ≡ definer → IsDefined f k N p place definer → ReadsPlace P Q p (Some place) → is_open (held r) (call_guard N place.call) ≡ true → defined_by f main m s solved with.instant p definer (last_of m s p (Some place)) ≡ held r (N.P p)
    defined_same p place is None e d rd o =
        last_is p place is d.0 (λ j q. start_read place.definers j rd.3.2 q) (λ q. o)
        ∙ sym (guarded_is k km r wired instant_too (N.L p) (call_guard N place.call) (N.P p) d.1 ∙ if_used_true _ _ o)
    defined_same p place is (Some (Input n)) e d rd o =
        ap (λ l. get_or l n None) (sym with.inputs) ∙ sym (wire_is k km r wired instant_too (N.P p) (In n) (call_guard N place.call) d ∙ if_used_true _ _ o ∙ given_is (held km.inputs n))
    defined_same p place is (Some (Plain b j)) e d rd o =
        ih (AtValue j) (definer_read p place.definers (Plain b j) rd.2 e).1 d.0 (ap (λ g. is_open (held r) g) d.1 ∙ o)
        ∙ sym (guarded_is k km r wired instant_too (N.w j) (call_guard N place.call) (N.P p) d.2 ∙ if_used_true _ _ o)
    defined_same p place is (Some (Start b j)) e d rd o = absurd d
    defined_same p place is (Some (Der b j arms)) e d rd o =
        by m.mode refl
        ∙ sym (if_is k km r wired instant_too (N.P p) N.step d.at_step d.between (call_guard N place.call) d.wire ∙ if_used_true _ _ o ∙ ap (λ t. branch t (held r d.at_step) (held r d.between)) step_is)
      where
        by : (mode : Mode) → m.mode ≡ mode → der_value m s mode p j arms (last_of m s p (Some place)) ≡ branch (Some (B (is_at_step mode))) (held r d.at_step) (held r d.between)
        by AtStep q =
            reset_is place.call (N.L p) arms N.step d.at_step d.reset (definer_read p place.definers (Der b j arms) rd.2 e).3 o (ap (λ x. holds x) step_is ∙ ap (λ x. is_at_step x) q) (last_of m s p (Some place))
            (last_is p place is d.last (λ i w. start_read place.definers i rd.3.2 w) (λ w. o))
        by AtLeft q = sym (memory_is d.between d.memory d.kept ∙ with.moves p place b j d.memory d.slope arms None is e d.moves (λ z. let w : AtLeft ≡ AtStep = sym q ∙ z in absurd (left_apart w)))
        by InFlow q = sym (memory_is d.between d.memory d.kept ∙ with.moves p place b j d.memory d.slope arms None is e d.moves (λ z. let w : InFlow ≡ AtStep = sym q ∙ z in absurd (flow_apart w)))

    pub place_is : (p : ℕ) → ReadsPlace P Q p (slice_get f.places p) → IsPlaceOf f p → s (AtPlace p) ≡ held r (N.P p)
    place_is p rd there =
        let place = there.0 in
        let is = there.1 in
        let reads : ReadsPlace P Q p (Some place) = subst (λ x. ReadsPlace P Q p x) is rd in
        let d = normal.places p place is in
        place_if f main m s solved with.instant p place is
        ∙ ap (λ b. if b then defined_by f main m s solved with.instant p (definer_of place.definers) (last_of m s p (Some place)) else None) (called_is place.call d.0 reads.1)
        ∙ if_same (is_open (held r) (call_guard N place.call)) _ (held r (N.P p)) (λ o. defined_same p place is (definer_of place.definers) refl d.1 reads o)
        ∙ closed p place.call (definer_of place.definers) place d.1
      where
        twice : (b : Bool) (x y : Option Value) → x ≡ if_used b y → if_used b x ≡ x
        twice true x y e = refl
        twice false x y e = sym e

        closed : (p : ℕ) (call : Option ℕ) (definer : Option Definer) (place : PlaceInfo) → IsDefined f k N p place definer → if_used (is_open (held r) (call_guard N place.call)) (held r (N.P p)) ≡ held r (N.P p)
        closed p call None place d = twice _ _ _ (guarded_is k km r wired instant_too (N.L p) (call_guard N place.call) (N.P p) d.1)
        closed p call (Some (Input n)) place d = twice _ _ _ (wire_is k km r wired instant_too (N.P p) (In n) (call_guard N place.call) d)
        closed p call (Some (Plain b j)) place d = twice _ _ _ (guarded_is k km r wired instant_too (N.w j) (call_guard N place.call) (N.P p) d.2)
        closed p call (Some (Der b j arms)) place d = twice _ _ _ (if_is k km r wired instant_too (N.P p) N.step d.at_step d.between (call_guard N place.call) d.wire)
        closed p call (Some (Start b j)) place d = absurd d

    -- a name of a place that is never defined has no value
    pub blank_is : (y : ℕ) → IsBlankName f y → s (AtValue y) ≡ None
    blank_is y blank =
        value_if f main m s solved with.instant y blank.occ blank.is
        ∙ ap (λ x. answered (answer f m s 0 x)) blank.form
        ∙ given_is (s (AtPlace blank.p))
        ∙ place_if f main m s solved with.instant blank.p blank.place blank.place_is
        ∙ ap (λ x. if is_called s blank.place.call then defined_by f main m s solved with.instant blank.p (definer_of x) (last_of m s blank.p (Some blank.place)) else None) blank.definers
        ∙ none_too (is_called s blank.place.call) (last_of m s blank.p (Some blank.place))
        (last_if f main m s solved with.instant blank.p blank.place blank.place_is ∙ ap (λ x. if not (m.live 0) then started_by f main m s solved with.instant (start_of x) None else m.before (AtPlace blank.p)) blank.definers ∙ none (m.live 0) (m.before (AtPlace blank.p)) (with.blank blank.p blank.place blank.place_is blank.definers))
      where
        none : (b : Bool) (x : Option Value) → x ≡ None → (if not b then None else x) ≡ None
        none true x e = e
        none false x e = refl

        none_too : (b : Bool) (x : Option Value) → x ≡ None → (if b then x else None) ≡ None
        none_too true x e = e
        none_too false x e = refl
