-- A system whose steps and flows are the only ones has at most one run with a script.
use Rattle.std.specs.Prelude.{◌≡◌, ◌⊎◌, ℕ, ◌<◌, pos, Bool, true, false, List, [], ◌∷◌, length, Option, Some, None}
use Rattle.std.proofs.Common.{refl, sym, ap, ap₂, ◌∙◌, ⊎_elim, subst, arith}
use Rattle.std.proofs.lemmas.Bool.{cases_lt}
use Rattle.zl_value.specs.Fraction.{Fraction, IsReduced, add}
use Rattle.zl_value.specs.Stops.{line_for, inputs_after}
use Rattle.zl_value.specs.Loop.{Next, Ends, Steps, Flows}
use Rattle.zl_value.specs.declared.value.Fault.{Fault}
use Rattle.zl_value.specs.declared.value.Value.{Value}
use Rattle.zl_value.specs.declared.script.Script.{Script}
use Rattle.zl_value.specs.declared.script.Mark.TheVariants.{Flow as FlowMark}
use Rattle.zl_value.specs.declared.script.Ending.{Ending}
use Rattle.zl_value.specs.declared.script.Ending.TheVariants.{Fault as EndsInFault}
use Rattle.zl_value.proofs.FractionLaws.{IsReduced-whole, IsReduced-add}
use Rattle.zl_value.proofs.Durations.{one_duration}
use Rattle.zl_value.specs.Instants.{Kind, Instant, History, latest_inputs, time_of, steps_at}
use Rattle.zl_value.specs.System.{Course, System, next, move_fault}
use Rattle.zl_value.specs.Runs.{StepAfter, MoveAfter, LeftAfter, EndsInFlow, ByFault, ByLack, ByMove, IsPrefix, IsEnd, IsRun}
use Rattle.zl_value.specs.OneRun.{Determines, HasOneRun}

-- an instant by its parts
made : {X : Type 0} → Kind → Fraction → List (Option Value) → List ℕ → X → Instant X
made kind time inputs fired table = record { kind = kind; time = time; inputs = inputs; fired = fired; table = table }

whole_instant : {X : Type 0} (i : Instant X) → i ≡ made i.kind i.time i.inputs i.fired i.table
unfolding made
whole_instant i = refl

instant_same : {X : Type 0} (i j : Instant X) → i.kind ≡ j.kind → i.time ≡ j.time → i.inputs ≡ j.inputs → i.fired ≡ j.fired → i.table ≡ j.table → i ≡ j
instant_same i j a b c d e = whole_instant i ∙ (let x : made i.kind i.time i.inputs i.fired i.table ≡ made j.kind j.time j.inputs j.fired j.table = cc in x) ∙ sym (whole_instant j)

ends_steps : {n : Next} {e : Ending} → n ≡ Ends e → n ≡ Steps → ⊥
ends_steps p q = cc

ends_flows : {n : Next} {e : Ending} → n ≡ Ends e → n ≡ Flows → ⊥
ends_flows p q = cc

steps_flows : {n : Next} → n ≡ Steps → n ≡ Flows → ⊥
steps_flows p q = cc

end_of : Next → Ending → Ending
end_of (Ends e) other = e
end_of Steps other = other
end_of Flows other = other

ends_same : {n : Next} {a b : Ending} → n ≡ Ends a → n ≡ Ends b → a ≡ b
unfolding end_of
ends_same {n} {a} {b} p q = ap (λ x. end_of x a) (sym p ∙ q)

some_same : {a b : Fault} {x : Option Fault} → x ≡ Some a → x ≡ Some b → a ≡ b
some_same {a} {b} {x} p q = ap (λ o. fault_in o a) (sym p ∙ q)
  where
    fault_in : Option Fault → Fault → Fault
    fault_in None d = d
    fault_in (Some f) d = f

some_none : {a : Fault} {x : Option Fault} → x ≡ Some a → x ≡ None → ⊥
some_none p q = cc

unlacking : {x : Bool} → x ≡ true → x ≡ false → ⊥
unlacking p q = let z : true ≡ false = sym p ∙ q in absurd cc

module _ {X Y : Type 0} (sys : System X Y) (script : Script) (one : Determines sys script) where
  one_step : (h : History X) (i j : Instant X) → StepAfter sys script h i → StepAfter sys script h j → i ≡ j
  one_step h i j p q =
      let kind = p.kind ∙ sym q.kind in
      let time = p.time ∙ sym q.time in
      let inputs : i.inputs ≡ j.inputs = p.inputs ∙ ap (λ t. inputs_after sys.inputs (line_for script t (steps_at t h)) (latest_inputs h)) time ∙ sym q.inputs in
      let fired = p.fired ∙ sym q.fired in
      instant_same i j kind time inputs fired (one.step h i j p q inputs fired)

  duration_same : (h : History X) (i : Instant X) (x y : Course Y) (d e : Fraction) → IsReduced i.time → MoveAfter sys script h i x d → MoveAfter sys script h i y e → d ≡ e
  duration_same h i x y d e red p q =
      one_duration script (sys.values i x) (sys.values i y) sys.sites i.time d e red (one.flow h i x y p.flow q.flow).values p.lasts q.lasts

  move_same : (h : History X) (i : Instant X) (x y : Course Y) (d e : Fraction) → IsReduced i.time → MoveAfter sys script h i x d → MoveAfter sys script h i y e → move_fault sys i x d ≡ move_fault sys i y e
  move_same h i x y d e red p q =
      (one.flow h i x y p.flow q.flow).moves d ∙ ap (λ t. move_fault sys i y t) (duration_same h i x y d e red p q)

  one_left : (h : History X) (i a b : Instant X) → IsReduced i.time → LeftAfter sys script h i a → LeftAfter sys script h i b → a ≡ b
  one_left h i a b red p q =
      let d = duration_same h i p.flow q.flow p.duration q.duration red p.move q.move in
      let kind = p.kind ∙ sym q.kind in
      let time : a.time ≡ b.time = p.time ∙ ap (λ e. add i.time e) d ∙ sym q.time in
      let inputs = p.inputs ∙ sym q.inputs in
      let fired = p.fired ∙ sym q.fired in
      instant_same a b kind time inputs fired ((one.flow h i p.flow q.flow p.move.flow q.move.flow).left a b p q refl refl d inputs fired)

  -- what follows the instants of a history: a step, or a left end
  Follows : History X → Instant X → Type 0
  Follows [] i = StepAfter sys script [] i
  Follows (j ∷ h) i = StepAfter sys script (j ∷ h) i ⊎ LeftAfter sys script h j i

  -- times are in lowest terms
  step_reduced : (h : History X) (i : Instant X) → IsReduced (time_of h) → StepAfter sys script h i → IsReduced i.time
  step_reduced h i red p = let R : Fraction → Type 0 = λ t. IsReduced t in subst R (sym p.time) red

  left_reduced : (h : History X) (j i : Instant X) → IsReduced j.time → LeftAfter sys script h j i → IsReduced i.time
  left_reduced h j i red p = let R : Fraction → Type 0 = λ t. IsReduced t in subst R (sym p.time) (IsReduced-add j.time p.duration red.above p.move.lasts.reduced.above)

  prefix_reduced : (h : History X) → IsPrefix sys script h → IsReduced (time_of h)
  prefix_reduced [] p = absurd p
  prefix_reduced (i ∷ []) p = step_reduced [] i (IsReduced-whole (pos 0)) p
  prefix_reduced (i ∷ j ∷ h) p = let red = prefix_reduced (j ∷ h) p.0 in ⊎_elim (λ s. step_reduced (j ∷ h) i red s) (λ l. left_reduced h j i red l) p.1

  one_follower : (h : History X) (j a b : Instant X) → IsReduced j.time → Follows (j ∷ h) a → Follows (j ∷ h) b → a ≡ b
  unfolding Follows
  one_follower h j a b red p q =
      ⊎_elim (λ s. ⊎_elim (λ s'. one_step (j ∷ h) a b s s') (λ l'. absurd (steps_flows s.due l'.move.flow.due)) q)
      (λ l. ⊎_elim (λ s'. absurd (steps_flows s'.due l.move.flow.due)) (λ l'. one_left h j a b red l l') q) p

  -- two beginnings of runs of one length are equal
  one_prefix : (h k : History X) → IsPrefix sys script h → IsPrefix sys script k → length h ≡ length k → h ≡ k
  unfolding Follows
  one_prefix [] k p q e = absurd p
  one_prefix (i ∷ h) [] p q e = absurd q
  one_prefix (i ∷ []) (j ∷ []) p q e = ap (λ x. x ∷ []) (one_step [] i j p q)
  one_prefix (i ∷ []) (j ∷ j' ∷ k) p q e = absurd (omega (arith, e))
  one_prefix (i ∷ i' ∷ h) (j ∷ []) p q e = absurd (omega (arith, e))
  one_prefix (i ∷ i' ∷ h) (j ∷ j' ∷ k) p q e =
      let lower : i' ∷ h ≡ j' ∷ k = one_prefix (i' ∷ h) (j' ∷ k) p.0 q.0 (omega (arith, e)) in
      let G : History X → Type 0 = λ g. Follows g j in
      ap₂ (λ x g. x ∷ g) (one_follower h i' i j (prefix_reduced (i' ∷ h) p.0) p.1 (subst G (sym lower) q.1)) lower

  flow_due : (h : History X) (i : Instant X) (e : Ending) → EndsInFlow sys script h i e → next sys script (i ∷ h) ≡ Flows
  flow_due h i _ (ByFault y fault flow is) = flow.due
  flow_due h i _ (ByLack y flow fine lacks) = flow.due
  flow_due h i _ (ByMove y d fault move is) = move.flow.due

  -- a flow has one end
  one_flow_end : (h : History X) (i : Instant X) (a b : Ending) → IsReduced i.time → EndsInFlow sys script h i a → EndsInFlow sys script h i b → a ≡ b
  one_flow_end h i _ _ red (ByFault y f p e) (ByFault z g q e') = ap (λ x. EndsInFault x i.time FlowMark) (some_same e ((one.flow h i y z p q).fault ∙ e'))
  one_flow_end h i _ _ red (ByFault y f p e) (ByLack z q fine lacks) = absurd (some_none e ((one.flow h i y z p q).fault ∙ fine))
  one_flow_end h i _ _ red (ByFault y f p e) (ByMove z d g m e') = absurd (some_none e ((one.flow h i y z p m.flow).fault ∙ m.right))
  one_flow_end h i _ _ red (ByLack y p fine lacks) (ByFault z g q e') = absurd (some_none e' ((one.flow h i z y q p).fault ∙ fine))
  one_flow_end h i _ _ red (ByLack y p fine lacks) (ByLack z q fine' lacks') = refl
  one_flow_end h i _ _ red (ByLack y p fine lacks) (ByMove z d g m e') = absurd (unlacking lacks ((one.flow h i y z p m.flow).lacks ∙ m.whole))
  one_flow_end h i _ _ red (ByMove y d f m e) (ByFault z g q e') = absurd (some_none e' ((one.flow h i z y q m.flow).fault ∙ m.right))
  one_flow_end h i _ _ red (ByMove y d f m e) (ByLack z q fine lacks) = absurd (unlacking lacks ((one.flow h i z y q m.flow).lacks ∙ m.whole))
  one_flow_end h i _ _ red (ByMove y d f m e) (ByMove z d' g m' e') = ap (λ x. EndsInFault x i.time FlowMark) (some_same e (move_same h i y z d d' red m m' ∙ e'))

  -- a flow that ends the run has no left end
  no_left : (h : History X) (i j : Instant X) (a : Ending) → IsReduced i.time → EndsInFlow sys script h i a → LeftAfter sys script h i j → ⊥
  no_left h i j _ red (ByFault y f p e) l = some_none e ((one.flow h i y l.flow p l.move.flow).fault ∙ l.move.right)
  no_left h i j _ red (ByLack y p fine lacks) l = unlacking lacks ((one.flow h i y l.flow p l.move.flow).lacks ∙ l.move.whole)
  no_left h i j _ red (ByMove y d f m e) l = some_none e (move_same h i y l.flow d l.duration red m l.move ∙ l.fits)

  -- a history has one end
  one_end : (i : Instant X) (h : History X) (a b : Ending) → IsReduced i.time → IsEnd sys script (i ∷ h) a → IsEnd sys script (i ∷ h) b → a ≡ b
  one_end i h a b red p q =
      ⊎_elim (λ n. ⊎_elim (λ n'. ends_same n n') (λ w'. absurd (ends_flows n (flow_due h i b w'))) q)
      (λ w. ⊎_elim (λ n'. absurd (ends_flows n' (flow_due h i a w))) (λ w'. one_flow_end h i a b red w w') q) p

  -- after its end nothing follows
  no_more : (i : Instant X) (h : History X) (e : Ending) (j : Instant X) → IsReduced i.time → IsEnd sys script (i ∷ h) e → Follows (i ∷ h) j → ⊥
  unfolding Follows
  no_more i h e j red p q =
      ⊎_elim (λ n. ⊎_elim (λ s. ends_steps n s.due) (λ l. ends_flows n l.move.flow.due) q)
      (λ w. ⊎_elim (λ s. steps_flows s.due (flow_due h i e w)) (λ l. no_left h i j e red w l) q) p

  -- no beginning of a run is longer than a run
  not_longer : (i : Instant X) (h : History X) (e : Ending) (k : History X) → IsPrefix sys script (i ∷ h) → IsEnd sys script (i ∷ h) e → IsPrefix sys script k → length (i ∷ h) < length k → ⊥
  unfolding Follows
  not_longer i h e [] p n q l = q
  not_longer i h e (j ∷ []) p n q l = omega (arith, l)
  not_longer i h e (j ∷ j' ∷ k) p n q l =
      ⊎_elim (λ less. not_longer i h e (j' ∷ k) p n q.0 less)
      (λ more.
      let same : i ∷ h ≡ j' ∷ k = one_prefix (i ∷ h) (j' ∷ k) p q.0 (omega (arith, l, more)) in
      let G : History X → Type 0 = λ g. Follows g j in
      no_more i h e j (prefix_reduced (i ∷ h) p) n (subst G (sym same) q.1))
      (cases_lt (length (i ∷ h)) (length (j' ∷ k)))

  ends_alike : (i : Instant X) (h k : History X) (a b : Ending) → i ∷ h ≡ k → IsReduced i.time → IsEnd sys script (i ∷ h) a → IsEnd sys script k b → a ≡ b
  ends_alike i h k a b same red p q =
      let E : History X → Type 0 = λ g. IsEnd sys script g b in
      one_end i h a b red p (subst E (sym same) q)

  -- two runs are equal, and so are their ends
  one_run : (h k : History X) (a b : Ending) → IsRun sys script h a → IsRun sys script k b → (h ≡ k) × (a ≡ b)
  one_run [] k a b p q = absurd p.instants
  one_run (i ∷ h) [] a b p q = absurd q.instants
  one_run (i ∷ h) (j ∷ k) a b p q =
      ⊎_elim (λ less. absurd (not_longer i h a (j ∷ k) p.instants p.ends q.instants less))
      (λ more. ⊎_elim (λ less. absurd (not_longer j k b (i ∷ h) q.instants q.ends p.instants less))
      (λ more'.
      let same : i ∷ h ≡ j ∷ k = one_prefix (i ∷ h) (j ∷ k) p.instants q.instants (omega (arith, more, more')) in
      (same, ends_alike i h (j ∷ k) a b same (prefix_reduced (i ∷ h) p.instants) p.ends q.ends))
      (cases_lt (length (j ∷ k)) (length (i ∷ h))))
      (cases_lt (length (i ∷ h)) (length (j ∷ k)))

  pub has_one_run : HasOneRun sys script
  has_one_run = record { prefixes = one_prefix; runs = one_run }
