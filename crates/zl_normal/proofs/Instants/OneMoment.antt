-- The law of a moment: a solution of a normal form's wires, read at its names, is the solution of the form's equations, at instants and at moment 0 of flows (there if exact results are in the width).
use Rattle.std.specs.Prelude.{◌≡◌, ℕ, zero, suc, ◌<◌, Bool, true, false, not, ◌&&◌, ◌||◌, if◌then◌else◌, List, [], ◌∷◌, map, slice_get, Option, Some, None, ⊤}
use Rattle.std.specs.List.{AllByRecursion}
use Rattle.std.specs.Option.{option_map, option_and_then}
use Rattle.std.proofs.Common.{refl, sym, ap, ap₂, ◌∙◌, arith, subst}
use Rattle.std.proofs.Math.Dec.{eqb-suc-zero, eqb-zero-suc, eqb-suc-suc}
use Rattle.zl_value.specs.Lists.{among}
use Rattle.zl_value.specs.Times.{holds, fails}
use Rattle.zl_value.specs.Operators.{Answer, Gives, answered}
use Rattle.zl_value.specs.declared.value.Value.{Value}
use Rattle.zl_value.specs.declared.value.Value.TheVariants.{B, I, F}
use Rattle.zl_value.specs.declared.op.Op.{Op}
use Rattle.zl_meaning.specs.FlatForm.{FlatForm}
use Rattle.zl_meaning.specs.Uses.{Use, PartOf, BranchOf, DefinerOf, SlopeOf, EventOf, StartOf, ResetOf, TestOf, ArgumentOf, AgainOf, uses_of}
use Rattle.zl_meaning.specs.State.{Node, AtControl, AtReset, AtLater, AtEntry, AtRunning, AtStrong, AtWeak, AtPlace, AtUsed, AtValue, State, value_in}
use Rattle.zl_meaning.specs.Moment.{Mode, AtStep, AtLeft, InFlow, Moment, is_at_step, is_fresh, is_called, decide, decide_by, is_number}
use Rattle.zl_meaning.specs.Places.{last_of}
use Rattle.zl_meaning.specs.Occurrences.{gathered, applied, branch, any_holds, fired_answer, answer, asks, is_asked, takes}
use Rattle.zl_meaning.specs.Equation.{equation}
use Rattle.zl_meaning.specs.Reading.{Entries, ReadsValues, ReadsLastOf, ReadsForm, ReadsValue, ReadsUse, ReadsAsked, ReadsUsed, Reads}
use Rattle.zl_meaning.specs.declared.place.PlaceInfo.{PlaceInfo}
use Rattle.zl_meaning.specs.declared.occurrence.Form.{Form}
use Rattle.zl_meaning.specs.declared.occurrence.Form.TheVariants.{Lit, Read, Last, Op as Apply, If, Arrow, Pre, Result, Up, Fired, Step as AtSteps}
use Rattle.zl_meaning.specs.declared.occurrence.Occ.{Occ}
use Rattle.zl_kernel.specs.KernelForm.{KernelForm}
use Rattle.zl_kernel.specs.Wires.{Registers, held, is_open, turn, Moment as KernelMoment, is_at_step as at_step, gathered as collected, applied as worked}
use Rattle.zl_normal.specs.KernelParts.{IsWire}
use Rattle.zl_normal.specs.Wiring.{Wiring, call_guard}
use Rattle.zl_normal.specs.FormWires.{IsOcc, IsPart, AreParts, IsApplied, Made, Folded, AreBranches, Apart, Either, IsUp, IsChosen, Yes, No, Keeper, IsFormWire}
use Rattle.zl_normal.specs.UseGuards.{IsBranch, IsPartOf, IsGuardFor, IsGuardBy, Unused, Once, OfCall, OfBranches, IsTaken, Here, Later, Never}
use Rattle.zl_normal.specs.Evaluated.{HasGuardRanks}
use Rattle.zl_normal.specs.Normal.{IsNormalAtInstants}
use Rattle.zl_kernel.specs.declared.wire.Def.TheVariants.{Event, Op as OpWire}
use Rattle.zl_normal.proofs.Wires.Solved.{given_is, if_used_true, AreBools, some_of, wire_is, lit_is, if_is, under_is, but_is, either_is, guarded_is, any_is}
use Rattle.zl_normal.specs.MainBlock.{IsMain}
use Rattle.zl_normal.proofs.Values.Entries.{Agrees, Together, used_same, branch_same, branch_none, and_same, and_both, mode_step, fresh_is, value_if, used_if}
use Rattle.zl_normal.proofs.Instants.Places.{Claim, blank_is, called_is, fresh_wire, gathered_is, last_is, lits_are, memory_is, part_is, place_is, start_read, step_is}

first_number : (v : Option Value) (d : Option ℕ) → is_number 0 (decide_by v d) ≡ holds v
first_number (Some (B true)) d = refl
first_number (Some (B false)) None = refl
first_number (Some (B false)) (Some n) = eqb-suc-zero n
first_number (Some (I n)) d = refl
first_number (Some (F n)) d = refl
first_number None d = refl

next_number : (n : ℕ) (v : Option Value) (d : Option ℕ) → is_number (suc n) (decide_by v d) ≡ (fails v && is_number n d)
next_number n (Some (B true)) d = eqb-zero-suc n
next_number n (Some (B false)) None = refl
next_number n (Some (B false)) (Some j) = eqb-suc-suc j n
next_number n (Some (I i)) d = refl
next_number n (Some (F i)) d = refl
next_number n None d = refl

regroup : (a b c : Bool) → (a && (b && c)) ≡ (a && b && c)
regroup true b c = refl
regroup false b c = refl

never : (a : Bool) → (a && false) ≡ false
never true = refl
never false = refl

module _ (f : FlatForm) (k : KernelForm) (N : Wiring) (main : IsMain f) (normal : IsNormalAtInstants f k N) (m : Moment) (km : KernelMoment) (rp : Registers) (pm : KernelMoment) (with : Together f k N m km rp pm) (s : State) (solved : (a : Node) → s a ≡ equation f m s a) (r : Registers) (wired : r ≡ turn k km r) (exact : (j : ℕ) (occ : Occ) (op : Op) (ks : List ℕ) → slice_get f.occs j ≡ Some occ → occ.form ≡ Apply op ks → s (AtUsed j) ≡ true → applied m.mode op (gathered s ks) ≡ worked op (gathered s ks)) where
  module _ (P Q : Entries) (ih : (b : Node) → P b → Claim f k N main normal m km rp pm with s solved r wired exact b) where
    -- events
    ups_are : (whole : ℕ) (js : List ℕ) → AreParts f k N whole js → AllByRecursion (IsUp f) js → ReadsValues P js → is_open (held r) (N.G whole) ≡ true → (bs : List Bool) × AreBools (held r) (map N.w js) bs × (any_holds (gathered s js) ≡ Gives (B (some_of bs))) × (is_at_step m.mode ≡ false → some_of bs ≡ false)
    ups_are whole [] parts ups rd o = ([], tt, refl, λ e. refl)
    ups_are whole (j ∷ js) parts ups rd o =
        let rest = ups_are whole js parts.1 ups.1 rd.1 o in
        let up = normal.forms j ups.0.1 ups.0.2 in
        let wire : IsWire k (N.w j) (Event ups.0.0) None = subst (λ x. IsFormWire f k N j ups.0.1 x) ups.0.3 up in
        let b = at_step km.mode && among ups.0.0 km.fired in
        let is : held r (N.w j) ≡ Some (B b) = wire_is k km r wired tt (N.w j) (Event ups.0.0) None wire in
        let v : s (AtValue j) ≡ Some (B b) = part_is f k N main normal m km rp pm with s solved r wired exact P Q ih whole j parts.0 rd.0 o ∙ is in
        (b ∷ rest.0, (is, rest.1), more (gathered s js) (s (AtValue j)) b (some_of rest.0) v rest.2, λ e. none (at_step km.mode) (among ups.0.0 km.fired) (some_of rest.0) (ap (λ x. at_step x) with.mode ∙ mode_step m.mode ∙ e) (rest.3 e))
      where
        more : (vs : Option (List Value)) (x : Option Value) (b c : Bool) → x ≡ Some (B b) → any_holds vs ≡ Gives (B c) → any_holds (option_and_then (λ v. option_map (λ ws. v ∷ ws) vs) x) ≡ Gives (B (b || c))
        more None x b c e q = absurd (let w = ap (λ a. answered a) q in cc)
        more (Some vs) x b c e q = rw e (ap (λ a. or_answer b a) q)
          where
            or_answer : Bool → Answer → Answer
            or_answer b (Gives (B c)) = Gives (B (b || c))
            or_answer b a = a

        none : (a b c : Bool) → a ≡ false → c ≡ false → (a && b || c) ≡ false
        none a b c e q = rw (e, q) refl

    -- a branch is evaluated where its side is taken
    yes_is : (j c x y : ℕ) → AreBranches f k N j c x y → is_open (held r) (N.G j) ≡ true → holds (held r (N.w c)) ≡ true → is_open (held r) (N.G x) ≡ true
    yes_is j c x y (Apart under but) o e = under_is k km r wired tt (N.G j) (N.w c) (N.G x) under ∙ and_both _ _ o e
    yes_is j c x y (Either same either) o e =
        either_is k km r wired tt (N.G j) (N.w c) (N.G x) either ∙ and_both _ _ o (ap (λ b. b || fails (held r (N.w c))) e)

    no_is : (j c x y : ℕ) → AreBranches f k N j c x y → is_open (held r) (N.G j) ≡ true → fails (held r (N.w c)) ≡ true → is_open (held r) (N.G y) ≡ true
    no_is j c x y (Apart under but) o e = but_is k km r wired tt (N.G j) (N.w c) (N.G y) but ∙ and_both _ _ o e
    no_is j c x y (Either same either) o e =
        ap (λ z. is_open (held r) (N.G z)) (sym same)
        ∙ either_is k km r wired tt (N.G j) (N.w c) (N.G x) either ∙ and_both _ _ o (ap (λ b. holds (held r (N.w c)) || b) e ∙ or_true (holds (held r (N.w c))))
      where
        or_true : (b : Bool) → (b || true) ≡ true
        or_true true = refl
        or_true false = refl

    -- the value of an occurrence that is evaluated
    if_true : (j c x y : ℕ) → IsPart f k N j c → IsOcc f x → IsOcc f y → AreBranches f k N j c x y → P (AtValue c) → P (AtValue x) → P (AtValue y) → is_open (held r) (N.G j) ≡ true → branch (s (AtValue c)) (s (AtValue x)) (s (AtValue y)) ≡ branch (held r (N.w c)) (held r (N.w x)) (held r (N.w y))
    if_true j c x y part thex they sides pc px py o =
        ap (λ t. branch t (s (AtValue x)) (s (AtValue y))) (part_is f k N main normal m km rp pm with s solved r wired exact P Q ih j c part pc o)
        ∙ branch_same (held r (N.w c)) _ _ _ _
        (λ e. ih (AtValue x) px thex (yes_is j c x y sides o e))
        (λ e. ih (AtValue y) py they (no_is j c x y sides o e))

    choose_is : (j c x y : ℕ) → IsChosen f k N j c x y → is_open (held r) (N.G j) ≡ true → (P (AtValue y) → s (AtValue y) ≡ s (AtValue y)) → branch (s (AtValue c)) (s (AtValue x)) (s (AtValue y)) ≡ branch (held r (N.w c)) (held r (N.w x)) (held r (N.w y)) → (holds (held r (N.w c)) ≡ true → s (AtValue x) ≡ held r (N.w x)) → s (AtValue c) ≡ held r (N.w c) → branch (s (AtValue c)) (s (AtValue x)) (s (AtValue y)) ≡ held r (N.w j)
    choose_is j c x y (Made wire) o t e ex ec = e ∙ sym (if_is k km r wired tt (N.w j) (N.w c) (N.w x) (N.w y) (N.G j) wire ∙ if_used_true _ _ o)
    choose_is j c x y (Yes lit same) o t e ex ec = e ∙ ap (λ b. branch b (held r (N.w x)) (held r (N.w y))) (lit_is k km r wired tt (N.w c) (B true) lit) ∙ ap (λ n. held r n) (sym same)
    choose_is j c x y (No lit same) o t e ex ec = e ∙ ap (λ b. branch b (held r (N.w x)) (held r (N.w y))) (lit_is k km r wired tt (N.w c) (B false) lit) ∙ ap (λ n. held r n) (sym same)
    choose_is j c x y (Keeper blank wire) o t e ex ec =
        branch_none (s (AtValue c)) (s (AtValue x)) (s (AtValue y)) (blank_is f k N main normal m km rp pm with s solved r wired exact P Q ih y blank)
        ∙ used_same (holds (s (AtValue c))) (holds (held r (N.w c))) (s (AtValue x)) (held r (N.w x)) (ap (λ v. holds v) ec) ex
        ∙ sym (guarded_is k km r wired tt (N.w x) (Some (N.w c)) (N.w j) wire)

    applied_is : (j : ℕ) (occ : Occ) (op : Op) (ks : List ℕ) → slice_get f.occs j ≡ Some occ → occ.form ≡ Apply op ks → IsApplied f k N j occ op ks → gathered s ks ≡ collected (held r) (map N.w ks) → is_open (held r) (N.G j) ≡ true → s (AtUsed j) ≡ true → answered (applied m.mode op (gathered s ks)) ≡ held r (N.w j)
    applied_is j occ op ks here form (Made wire ord at) e o used =
        ap (λ v. answered v) (exact j occ op ks here form used)
        ∙ ap (λ v. answered (worked op v)) e
        ∙ sym (wire_is k km r wired tt (N.w j) (OpWire op (map N.w ks)) (N.G j) wire ∙ if_used_true _ _ o)
    applied_is j occ op ks here form (Folded v vs lits fits lit) e o used =
        ap (λ v. answered v) (exact j occ op ks here form used)
        ∙ ap (λ v. answered (worked op v)) (e ∙ lits_are f k N main normal m km rp pm with s solved r wired exact P Q ih ks vs lits)
        ∙ ap (λ v. answered v) fits
        ∙ sym (lit_is k km r wired tt (N.w j) v lit)

    form_is : (j : ℕ) (occ : Occ) → slice_get f.occs j ≡ Some occ → (form : Form) → occ.form ≡ form → IsFormWire f k N j occ form → ReadsForm f P Q 0 form → is_open (held r) (N.G j) ≡ true → s (AtUsed j) ≡ true → ((p : ℕ) (place : PlaceInfo) → form ≡ Last p → slice_get f.places p ≡ Some place → m.live 0 ≡ false → is_open (held r) (call_guard N place.call) ≡ true) → answered (answer f m s 0 form) ≡ held r (N.w j)
    form_is j occ at (Lit v) q fm rd o used lasts = sym (lit_is k km r wired tt (N.w j) v fm)
    form_is j occ at (Read p) q fm rd o used lasts = given_is (s (AtPlace p)) ∙ ih (AtPlace p) rd fm.0 ∙ ap (λ n. held r n) (sym fm.1)
    form_is j occ at (Last p) q fm rd o used lasts =
        let l = normal.lasts j p occ at q in
        let reads : ReadsLastOf P Q p (Some l.0) = subst (λ x. ReadsLastOf P Q p x) l.1 rd in
        given_is (last_of m s p (slice_get f.places p))
        ∙ ap (λ x. last_of m s p x) l.1
        ∙ last_is f k N main normal m km rp pm with s solved r wired exact P Q ih p l.0 l.1 l.2 (λ i w. start_read f k N main normal m km rp pm with s solved r wired exact P Q ih l.0.definers i reads.2 w) (λ w. lasts p l.0 refl l.1 w)
        ∙ ap (λ n. held r n) (sym fm)
    form_is j occ at (Apply op ks) q fm rd o used lasts = applied_is j occ op ks at q fm.1 (gathered_is f k N main normal m km rp pm with s solved r wired exact P Q ih j ks fm.0 rd o) o used
    form_is j occ at (If c x y) q fm rd o used lasts =
        given_is (branch (s (AtValue c)) (s (AtValue x)) (s (AtValue y)))
        ∙ choose_is j c x y fm.4 o (λ z. refl) (if_true j c x y fm.0 fm.1 fm.2 fm.3 rd.0 rd.1 rd.2 o)
        (λ e. ih (AtValue x) rd.1 fm.1 (yes_is j c x y fm.3 o e))
        (part_is f k N main normal m km rp pm with s solved r wired exact P Q ih j c fm.0 rd.0 o)
    form_is j occ at (Arrow x y) q fm rd o used lasts =
        given_is (if is_fresh m s 0 then s (AtValue x) else s (AtValue y))
        ∙ ap (λ b. if b then s (AtValue x) else s (AtValue y)) (fresh_is f main m s solved with.instant)
        ∙ chosen (not (m.live 0)) _ _ _ _ (part_is f k N main normal m km rp pm with s solved r wired exact P Q ih j x fm.0 rd.1 o) (part_is f k N main normal m km rp pm with s solved r wired exact P Q ih j y fm.1 rd.2 o)
        ∙ sym (if_is k km r wired tt (N.w j) N.fresh (N.w x) (N.w y) (N.G j) fm.2 ∙ if_used_true _ _ o ∙ ap (λ v. branch v (held r (N.w x)) (held r (N.w y))) (fresh_wire f k N main normal m km rp pm with s solved r wired exact))
      where
        chosen : (b : Bool) (x y u v : Option Value) → x ≡ u → y ≡ v → (if b then x else y) ≡ branch (Some (B b)) u v
        chosen true x y u v p q = p
        chosen false x y u v p q = q
    form_is j occ at (Pre x) q fm rd o used lasts =
        given_is (if is_fresh m s 0 then None else value_in m.before x)
        ∙ ap (λ b. if b then None else value_in m.before x) (fresh_is f main m s solved with.instant)
        ∙ by (m.live 0) refl
        ∙ sym (memory_is f k N main normal m km rp pm with s solved r wired exact (N.w j) fm.1.memory fm.1.wire ∙ with.memories fm.1.memory None fm.1.next fm.1.is)
      where
        by : (b : Bool) → m.live 0 ≡ b → (if not b then None else value_in m.before x) ≡ (if b then held rp fm.1.next else None)
        by true e =
            let q = with.before e in
            used_same (m.before (AtUsed x)) (is_open (held rp) (N.G x)) (m.before (AtValue x)) (held rp (N.w x)) (q.0.used x fm.0) (λ w. q.0.values x fm.0 w)
            ∙ sym (guarded_is k pm rp q.1 tt (N.w x) (N.G x) fm.1.next fm.1.holds)
        by false e = refl
    form_is j occ at (Result x) q fm rd o used lasts = given_is (s (AtValue x)) ∙ part_is f k N main normal m km rp pm with s solved r wired exact P Q ih j x fm.0 rd o ∙ ap (λ n. held r n) (sym fm.1)
    form_is j occ at (Up site) q fm rd o used lasts =
        ap (λ b. Some (B (is_at_step m.mode && (among site m.fired && not b)))) (fresh_is f main m s solved with.instant)
        ∙ ap (λ b. Some (B (is_at_step m.mode && b))) (unfresh (m.live 0) (among site m.fired) (λ e. ap (λ l. among site l) (with.none_first e)))
        ∙ sym (wire_is k km r wired tt (N.w j) (Event site) None fm ∙ ap₂ (λ b l. Some (B (b && among site l))) (ap (λ x. at_step x) with.mode ∙ mode_step m.mode) with.fired)
      where
        unfresh : (b c : Bool) → (b ≡ false → c ≡ false) → (c && not (not b)) ≡ c
        unfresh true true e = refl
        unfresh true false e = refl
        unfresh false true e = let z = e refl in absurd cc
        unfresh false false e = refl
    form_is j occ at AtSteps q fm rd o used lasts = sym (ap (λ n. held r n) fm ∙ step_is f k N main normal m km rp pm with s solved r wired exact)
    form_is j occ at (Fired ks) q fm rd o used lasts =
        let up = ups_are j ks fm.0 fm.1 rd o in
        by m.mode refl up.0 up.2 up.3 ∙ sym (any_is k km r wired tt (map N.w ks) up.0 (N.w j) fm.2 up.1)
      where
        by : (mode : Mode) → m.mode ≡ mode → (bs : List Bool) → any_holds (gathered s ks) ≡ Gives (B (some_of bs)) → (is_at_step m.mode ≡ false → some_of bs ≡ false) → answered (fired_answer mode s ks) ≡ Some (B (some_of bs))
        by AtStep e bs p q = ap (λ a. answered a) p
        by AtLeft e bs p q = ap (λ b. Some (B b)) (sym (q (ap (λ x. is_at_step x) e)))
        by InFlow e bs p q = ap (λ b. Some (B b)) (sym (q (ap (λ x. is_at_step x) e)))

    -- which arm is taken
    abbrev AreHeld : List ℕ → Type 0
    AreHeld es = AllByRecursion (λ e. s (AtValue e) ≡ held r (N.w e)) es

    events_are : (call : Option ℕ) (es : List ℕ) → AllByRecursion (IsPartOf f k N call) es → ReadsValues P es → is_open (held r) (call_guard N call) ≡ true → AreHeld es
    events_are call [] parts rd o = tt
    events_are call (e ∷ es) parts rd o = (ih (AtValue e) rd.0 parts.0.there (ap (λ g. is_open (held r) g) parts.0.guard ∙ o), events_are call es parts.1 rd.1 o)

    taken_is : (es : List ℕ) (n rest h : ℕ) → IsTaken f k N es n rest h → AreHeld es → (holds (held r rest) && is_number n (decide s es)) ≡ holds (held r h)
    taken_is _ _ _ _ (Here e es rest h under) are =
        ap (λ b. holds (held r rest) && b) (first_number (s (AtValue e)) (decide s es) ∙ ap (λ v. holds v) are.0) ∙ sym (under_is k km r wired tt (Some rest) (N.w e) (Some h) under)
    taken_is _ _ _ _ (Later e es n rest but h is more) are =
        ap (λ b. holds (held r rest) && b) (next_number n (s (AtValue e)) (decide s es) ∙ ap (λ v. fails v && is_number n (decide s es)) are.0)
        ∙ regroup (holds (held r rest)) (fails (held r (N.w e))) (is_number n (decide s es))
        ∙ ap (λ b. b && is_number n (decide s es)) (sym (but_is k km r wired tt (Some rest) (N.w e) (Some but) is))
        ∙ taken_is es n but h more are.1
    taken_is _ _ _ _ (Never e es n rest h lit off) are =
        ap (λ v. holds (held r rest) && is_number (suc n) (decide_by v (decide s es))) (are.0 ∙ lit_is k km r wired tt (N.w e) (B true) lit)
        ∙ ap (λ b. holds (held r rest) && b) (eqb-zero-suc n)
        ∙ never (holds (held r rest)) ∙ sym (ap (λ v. holds v) (lit_is k km r wired tt h (B false) off))

    -- whether an occurrence is evaluated
    takes_true : (x : Option Value) → takes true x ≡ holds x
    takes_true x = refl

    guard_is : (of : Use) (g : Option ℕ) → IsGuardFor f k N of g → ReadsUse P Q of → asks m s of ≡ is_open (held r) g
    guard_is (PartOf whole) g is rd = ih (AtUsed whole) rd is.0 ∙ ap (λ x. is_open (held r) x) (sym is.1)
    guard_is (BranchOf whole c true) g is rd =
        and_same (s (AtUsed whole)) (is_open (held r) (N.G whole)) (holds (s (AtValue c))) (holds (held r (N.w c))) (ih (AtUsed whole) rd.0 is.0.there) (λ o. ap (λ v. holds v) (part_is f k N main normal m km rp pm with s solved r wired exact P Q ih whole c is.0.test rd.1 o))
        ∙ sym (under_is k km r wired tt (N.G whole) (N.w c) g is.1)
    guard_is (BranchOf whole c false) g is rd =
        and_same (s (AtUsed whole)) (is_open (held r) (N.G whole)) (fails (s (AtValue c))) (fails (held r (N.w c))) (ih (AtUsed whole) rd.0 is.0.there) (λ o. ap (λ v. fails v) (part_is f k N main normal m km rp pm with s solved r wired exact P Q ih whole c is.0.test rd.1 o))
        ∙ sym (but_is k km r wired tt (N.G whole) (N.w c) g is.1)
    guard_is (DefinerOf call) g is rd = called_is f k N main normal m km rp pm with s solved r wired exact P Q ih call is.0 rd ∙ ap (λ x. is_open (held r) x) (sym is.1)
    guard_is (SlopeOf call) g is rd = called_is f k N main normal m km rp pm with s solved r wired exact P Q ih call is.0 rd ∙ ap (λ x. is_open (held r) x) (sym is.1)
    guard_is (EventOf call) g is rd = called_is f k N main normal m km rp pm with s solved r wired exact P Q ih call is.0 rd ∙ ap (λ x. is_open (held r) x) (sym is.1)
    guard_is (StartOf call b) g is rd =
        ap (λ x. is_called s call && is_fresh m s x) is.0
        ∙ and_same (is_called s call) (is_open (held r) (call_guard N call)) (is_fresh m s 0) (holds (held r N.fresh)) (called_is f k N main normal m km rp pm with s solved r wired exact P Q ih call is.1 rd.0) (λ o. fresh_is f main m s solved with.instant ∙ sym (ap (λ v. holds v) (fresh_wire f k N main normal m km rp pm with s solved r wired exact)))
        ∙ sym (under_is k km r wired tt (call_guard N call) N.fresh g is.2)
    guard_is (ResetOf call events arm) g is rd =
        and_same (is_called s call) (is_open (held r) (call_guard N call)) (is_at_step m.mode && is_number arm (decide s events)) (holds (held r is.2.0)) (called_is f k N main normal m km rp pm with s solved r wired exact P Q ih call is.0 rd.0)
        (λ o. ap (λ v. holds v && is_number arm (decide s events)) (sym (step_is f k N main normal m km rp pm with s solved r wired exact)) ∙ taken_is events arm N.step is.2.0 is.2.1 (events_are call events is.1 rd.1 o))
        ∙ sym (under_is k km r wired tt (call_guard N call) is.2.0 g is.2.2)
    guard_is TestOf g is rd = absurd is
    guard_is ArgumentOf g is rd = ap (λ x. is_open (held r) x) (sym is)
    guard_is AgainOf g is rd = ap (λ x. is_open (held r) x) (sym is)

    side_is : (whole c : ℕ) → IsBranch f k N whole c → P (AtUsed whole) × P (AtValue c) → (side : Bool) → asks m s (BranchOf whole c side) ≡ (is_open (held r) (N.G whole) && takes side (held r (N.w c)))
    side_is whole c branch rd side =
        and_same (s (AtUsed whole)) (is_open (held r) (N.G whole)) (takes side (s (AtValue c))) (takes side (held r (N.w c))) (ih (AtUsed whole) rd.0 branch.there) (λ o. ap (λ v. takes side v) (part_is f k N main normal m km rp pm with s solved r wired exact P Q ih whole c branch.test rd.1 o))

    asked_is : (call g : Option ℕ) (uses : List Use) → IsGuardBy f k N call g uses → ReadsAsked P Q call uses → is_asked m s call uses ≡ is_open (held r) g
    asked_is call g _ (Unused there e) rd = called_is f k N main normal m km rp pm with s solved r wired exact P Q ih call there rd ∙ ap (λ x. is_open (held r) x) (sym e)
    asked_is call g _ (Once of is) rd = or_false (asks m s of) ∙ guard_is of g is rd.0
      where
        or_false : (b : Bool) → (b || false) ≡ b
        or_false true = refl
        or_false false = refl
    asked_is call g _ (OfCall whole of is also) rd = let x = guard_is (PartOf whole) g is rd.0 in let y = guard_is (DefinerOf of) g also rd.1.0 in ap₂ (λ a b. a || (b || false)) x y ∙ thrice (is_open (held r) g)
      where
        thrice : (b : Bool) → (b || (b || false)) ≡ b
        thrice true = refl
        thrice false = refl
    asked_is call g _ (OfBranches whole c branch either) rd =
        ap₂ (λ a b. a || (b || false)) (side_is whole c branch rd.0 true) (side_is whole c branch rd.0 false)
        ∙ both (is_open (held r) (N.G whole)) (holds (held r (N.w c))) (fails (held r (N.w c)))
        ∙ sym (either_is k km r wired tt (N.G whole) (N.w c) g either)
      where
        both : (a b c : Bool) → (a && b || ((a && c) || false)) ≡ (a && (b || c))
        both true b c = ap (λ x. b || x) (or_nothing c)
          where
            or_nothing : (b : Bool) → (b || false) ≡ b
            or_nothing true = refl
            or_nothing false = refl
        both false b c = refl

    used_is : (j : ℕ) → ReadsUsed f P Q j (slice_get f.occs j) → IsOcc f j → s (AtUsed j) ≡ is_open (held r) (N.G j)
    used_is j rd there =
        let reads : ReadsUsed f P Q j (Some there.0) = subst (λ x. ReadsUsed f P Q j x) there.1 rd in
        used_if f main m s solved with.instant j there.0 there.1 ∙ asked_is there.0.call (N.G j) (uses_of f j) (normal.guards j there.0 there.1) reads.1

    value_is : (j : ℕ) → ReadsValue f P Q (slice_get f.occs j) → P (AtUsed j) → IsOcc f j → is_open (held r) (N.G j) ≡ true → ((p : ℕ) (place : PlaceInfo) (occ : Occ) → slice_get f.occs j ≡ Some occ → occ.form ≡ Last p → slice_get f.places p ≡ Some place → m.live 0 ≡ false → is_open (held r) (call_guard N place.call) ≡ true) → s (AtValue j) ≡ held r (N.w j)
    value_is j rd below there o lasts =
        let reads : ReadsValue f P Q (Some there.0) = subst (λ x. ReadsValue f P Q x) there.1 rd in
        value_if f main m s solved with.instant j there.0 there.1
        ∙ form_is j there.0 there.1 there.0.form refl (normal.forms j there.0 there.1) (subst (λ b. ReadsForm f P Q b there.0.form) (main.occs j there.0 there.1) reads.1) o (ih (AtUsed j) below there ∙ o) (λ p place q w. lasts p place there.0 there.1 q w)

  -- at the first instant a name behind `last` is evaluated only where the call of its place is
  abbrev pub LastsAreCalled : Type 0
  LastsAreCalled = (j p : ℕ) (occ : Occ) (place : PlaceInfo) → slice_get f.occs j ≡ Some occ → occ.form ≡ Last p → slice_get f.places p ≡ Some place → is_open (held r) (N.G j) ≡ true → is_open (held r) (call_guard N place.call) ≡ true

  module _ (ranks : HasGuardRanks f) (lasts : m.live 0 ≡ false → LastsAreCalled) where
    claim_at : (P Q : Entries) → ((b : Node) → P b → Claim f k N main normal m km rp pm with s solved r wired exact b) → (a : Node) → Reads f P Q a → ((j : ℕ) → a ≡ AtValue j → P (AtUsed j)) → Claim f k N main normal m km rp pm with s solved r wired exact a
    claim_at P Q ih (AtControl b) rd below = tt
    claim_at P Q ih (AtReset b) rd below = tt
    claim_at P Q ih (AtLater b) rd below = tt
    claim_at P Q ih (AtEntry b) rd below = tt
    claim_at P Q ih (AtRunning b) rd below = tt
    claim_at P Q ih (AtStrong b) rd below = tt
    claim_at P Q ih (AtWeak b) rd below = tt
    claim_at P Q ih (AtPlace p) rd below = λ there. place_is f k N main normal m km rp pm with s solved r wired exact P Q ih p rd there
    claim_at P Q ih (AtUsed j) rd below = λ there. used_is P Q ih j rd there
    claim_at P Q ih (AtValue j) rd below = λ there o. value_is P Q ih j rd (below j refl) there o (λ p place occ at q w first. lasts first j p occ place at q w o)

    claim_below : (n : ℕ) (a : Node) → ranks.entries.rank a < n → Claim f k N main normal m km rp pm with s solved r wired exact a
    claim_below zero a low = absurd (omega arith)
    claim_below (suc n) a low = claim_at (λ b. ranks.entries.rank b < ranks.entries.rank a) (λ b. ⊤) (λ b lower. claim_below n b (omega arith)) a (ranks.entries.lower a) (λ j e. subst (λ b. ranks.entries.rank (AtUsed j) < ranks.entries.rank b) (sym e) (ranks.guards j))

    -- the registers of a solution of the wires say what the form's equations say
    pub agrees : Agrees f N s r
    agrees = record {
      places = λ p there. claim_below (suc (ranks.entries.rank (AtPlace p))) (AtPlace p) (omega arith) there;
      used = λ j there. claim_below (suc (ranks.entries.rank (AtUsed j))) (AtUsed j) (omega arith) there;
      values = λ j there o. claim_below (suc (ranks.entries.rank (AtValue j))) (AtValue j) (omega arith) there o;
    }
