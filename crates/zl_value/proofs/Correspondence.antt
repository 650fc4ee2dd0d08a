-- The law of correspondence: each beginning of a run of the first system has one of the second beside it, and so has each run.
use Rattle.std.specs.Prelude.{◌≡◌, ℕ, suc, ◌+◌, Bool, true, false, ◌&&◌, ◌||◌, List, [], ◌∷◌, ◌++◌, length, is_some, ◌⊎◌, Option, Some, None}
use Rattle.std.proofs.Common.{refl, sym, ap, ap₂, ◌∙◌, subst, ⊎_elim, inl, inr}
use Rattle.zl_value.specs.Fraction.{Fraction, add}
use Rattle.zl_value.specs.Times.{is_same}
use Rattle.zl_value.specs.Stops.{line_for, inputs_after}
use Rattle.zl_value.specs.Crossings.{Lasts}
use Rattle.zl_value.specs.Lines.{Shown, instant_line, ending_line}
use Rattle.zl_value.specs.Loop.{Next, Ends, Steps, Flows, next_after}
use Rattle.zl_value.specs.declared.value.Fault.{Fault}
use Rattle.zl_value.specs.declared.script.Script.{Script}
use Rattle.zl_value.specs.declared.script.Mark.{Mark}
use Rattle.zl_value.specs.declared.script.Mark.TheVariants.{Flow as FlowMark}
use Rattle.zl_value.specs.declared.script.Ending.{Ending}
use Rattle.zl_value.specs.declared.script.Ending.TheVariants.{Empty, Fault as EndsInFault}
use Rattle.zl_value.specs.Instants.{is_step, one_if, Instant, History, latest_inputs, time_of, steps_in, steps_at, mark_of, mark_by}
use Rattle.zl_value.specs.System.{Course, System, asks, fired_after, is_demanded, unless_lacking, next}
use Rattle.zl_value.specs.Runs.{StepAfter, FlowAfter, MoveAfter, LeftAfter, EndsInFlow, ByFault, ByLack, ByMove, IsPrefix, IsEnd, IsRun}
use Rattle.zl_value.specs.Correspondence.{IsWhole, IsSoFar, beside, Corresponds, AreReached, SameInstant, FlowBeside, Correspondence, PrefixBeside, ShowsSame, RunBeside, KeepsRuns}
use Rattle.zl_value.specs.Traces.{line_of, if_right, lines}

-- a run that goes on or doesn't end for want of a value has what it needs
whole_there : {X Y : Type 0} (sys : System X Y) (script : Script) (i : Instant X) (h : History X) (to : Next) → (Ends Empty ≡ to → ⊥) → next sys script (i ∷ h) ≡ to → IsWhole (sys.fault h i) (sys.lacks i)
whole_there sys script i h to apart due none = by (sys.lacks i) refl
  where
    by : (b : Bool) → sys.lacks i ≡ b → sys.lacks i ≡ false
    by false e = e
    by true e = absurd (apart (sym (ap₂ (λ b f. unless_lacking b f (next_after script i.time (mark_of h i) f (is_demanded sys script (i ∷ h)) (steps_in (i ∷ h)))) e none) ∙ due))

unlacking : (b : Bool) (f : Option Fault) (other : Next) → IsWhole f b → unless_lacking b f other ≡ other
unlacking true None other whole = let z : true ≡ false = whole refl in absurd cc
unlacking true (Some f) other whole = refl
unlacking false None other whole = refl
unlacking false (Some f) other whole = refl

-- what is demanded matters where there is no fault
after_same : (script : Script) (t : Fraction) (m : Mark) (f : Option Fault) (a b : Bool) (made : ℕ) → (f ≡ None → a ≡ b) → next_after script t m f a made ≡ next_after script t m f b made
after_same script t m (Some f) a b made e = refl
after_same script t m None a b made e = ap (λ d. next_after script t m None d made) (e refl)

-- where a step or a flow follows there is no fault
goes_on : Next → Bool
goes_on (Ends e) = false
goes_on Steps = true
goes_on Flows = true

faultless : {X Y : Type 0} (sys : System X Y) (script : Script) (i : Instant X) (h : History X) (to : Next) → goes_on to ≡ true → next sys script (i ∷ h) ≡ to → sys.fault h i ≡ None
unfolding goes_on
faultless sys script i h to on due = by (sys.fault h i) (sys.lacks i) refl refl
  where
    ends : (x : Ending) → next sys script (i ∷ h) ≡ Ends x → ⊥
    ends x q = let z : false ≡ true = ap (λ y. goes_on y) (sym q ∙ due) ∙ on in absurd (let y = z in cc)

    by : (f : Option Fault) (b : Bool) → sys.fault h i ≡ f → sys.lacks i ≡ b → sys.fault h i ≡ None
    by None b e l = e
    by (Some x) b e l =
        absurd
        (ends _
        (ap (λ f. unless_lacking (sys.lacks i) f (next_after script i.time (mark_of h i) f (is_demanded sys script (i ∷ h)) (steps_in (i ∷ h)))) e
        ∙ unlacking (sys.lacks i) (Some x) _ (λ none. let z : Some x ≡ None = none in absurd cc)))

-- one end for want of a value
ended : {ending : Ending} → Ends Empty ≡ Ends ending → ending ≡ Empty
ended q = sym (ap (λ x. the_end x) q)
  where
    the_end : Next → Ending
    the_end (Ends x) = x
    the_end _ = Empty

none_some : (f : Fault) (o : Option Fault) (b : Bool) → o ≡ Some f → IsWhole o b
none_some f o b e none = let z : None ≡ Some f = sym none ∙ e in absurd cc

module _ {X Y U V : Type 0} (A : System X Y) (B : System U V) (script : Script) (pick : List ℕ → List ℕ) (Says : History X → History U → Type 0) where
  abbrev Pair : History X → History U → Type 0
  Pair h g = Corresponds A B script pick Says h g

  abbrev Reached : History X → History U → Type 0
  Reached h g = AreReached A B script pick Says h g

  same_time : (h : History X) (g : History U) → Pair h g → time_of g ≡ time_of h
  same_time [] [] e = refl
  same_time [] (j ∷ g) e = absurd e
  same_time (i ∷ h) [] e = absurd e
  same_time (i ∷ h) (j ∷ g) e = e.0.0.time

  same_inputs : (h : History X) (g : History U) → Pair h g → latest_inputs g ≡ latest_inputs h
  same_inputs [] [] e = refl
  same_inputs [] (j ∷ g) e = absurd e
  same_inputs (i ∷ h) [] e = absurd e
  same_inputs (i ∷ h) (j ∷ g) e = e.0.0.inputs

  same_steps : (h : History X) (g : History U) → Pair h g → steps_in g ≡ steps_in h
  same_steps [] [] e = refl
  same_steps [] (j ∷ g) e = absurd e
  same_steps (i ∷ h) [] e = absurd e
  same_steps (i ∷ h) (j ∷ g) e = ap₂ (λ a b. one_if (is_step a) + b) e.0.0.kind (same_steps h g e.1)

  same_steps_at : (t : Fraction) (h : History X) (g : History U) → Pair h g → steps_at t g ≡ steps_at t h
  same_steps_at t [] [] e = refl
  same_steps_at t [] (j ∷ g) e = absurd e
  same_steps_at t (i ∷ h) [] e = absurd e
  same_steps_at t (i ∷ h) (j ∷ g) e =
      ap₂ (λ a b. one_if (is_step a && is_same b t) + steps_at t g) e.0.0.kind e.0.0.time
      ∙ ap (λ n. one_if (is_step i.kind && is_same i.time t) + n) (same_steps_at t h g e.1)

  same_mark : (h : History X) (g : History U) (i : Instant X) (j : Instant U) → Pair (i ∷ h) (j ∷ g) → mark_of g j ≡ mark_of h i
  same_mark h g i j e =
      ap₂ (λ a t. mark_by a (steps_at t g)) e.0.0.kind e.0.0.time
      ∙ ap (λ n. mark_by i.kind n) (same_steps_at i.time h g e.1)

  -- corresponding histories are equally long
  same_length : (h : History X) (g : History U) → Pair h g → length g ≡ length h
  same_length [] [] e = refl
  same_length [] (j ∷ g) e = absurd e
  same_length (i ∷ h) [] e = absurd e
  same_length (i ∷ h) (j ∷ g) e = ap (λ n. suc n) (same_length h g e.1)

  module _ (law : Correspondence A B script pick Says) where
    same_demanded : (h : History X) (g : History U) (i : Instant X) (j : Instant U) → Pair (i ∷ h) (j ∷ g) → SameInstant A B script pick Says h g i j → A.fault h i ≡ None → is_demanded B script (j ∷ g) ≡ is_demanded A script (i ∷ h)
    same_demanded h g i j e same none =
        ap₂ (λ a t. a || is_some (line_for script t (steps_at t (j ∷ g)))) (same.demand none) e.0.0.time
        ∙ ap (λ n. asks A (i ∷ h) || is_some (line_for script i.time n)) (same_steps_at i.time (i ∷ h) (j ∷ g) e)

    -- what follows is the same, where nothing is missing in the first
    same_next : (h : History X) (g : History U) (i : Instant X) (j : Instant U) → Reached (i ∷ h) (j ∷ g) → IsWhole (A.fault h i) (A.lacks i) → next B script (j ∷ g) ≡ next A script (i ∷ h)
    same_next h g i j r whole =
        let e = r.corresponds in
        let same = law.instant h g i j r whole in
        unlacking (B.lacks j) (B.fault g j) _ (λ none. same.whole (sym same.fault ∙ none))
        ∙ ap₂ (λ t m. next_after script t m (B.fault g j) (is_demanded B script (j ∷ g)) (steps_in (j ∷ g))) e.0.0.time (same_mark h g i j e)
        ∙ ap₂ (λ f n. next_after script i.time (mark_of h i) f (is_demanded B script (j ∷ g)) n) same.fault (same_steps (i ∷ h) (j ∷ g) e)
        ∙ after_same script i.time (mark_of h i) (A.fault h i) (is_demanded B script (j ∷ g)) (is_demanded A script (i ∷ h)) (steps_in (i ∷ h)) (λ none. same_demanded h g i j e same none)
        ∙ sym (unlacking (A.lacks i) (A.fault h i) _ whole)

    follows : (h : History X) (g : History U) (i : Instant X) (j : Instant U) → Reached (i ∷ h) (j ∷ g) → (to : Next) → (Ends Empty ≡ to → ⊥) → next A script (i ∷ h) ≡ to → next B script (j ∷ g) ≡ to
    follows h g i j r to apart due = same_next h g i j r (whole_there A script i h to apart due) ∙ due

    steps_on : Ends Empty ≡ Steps → ⊥
    steps_on q = absurd cc

    flows_on : Ends Empty ≡ Flows → ⊥
    flows_on q = absurd cc

    due_same : (h : History X) (g : History U) → Reached h g → next A script h ≡ Steps → next B script g ≡ Steps
    due_same [] [] r due = refl
    due_same [] (j ∷ g) r due = absurd r.corresponds
    due_same (i ∷ h) [] r due = absurd r.corresponds
    due_same (i ∷ h) (j ∷ g) r due = follows h g i j r Steps steps_on due

    fired_same : (h : History X) (g : History U) → Reached h g → (to : Next) → goes_on to ≡ true → (Ends Empty ≡ to → ⊥) → next A script h ≡ to → fired_after B g ≡ pick (fired_after A h)
    unfolding goes_on
    fired_same [] [] r to on apart due = sym law.nothing
    fired_same [] (j ∷ g) r to on apart due = absurd r.corresponds
    fired_same (i ∷ h) [] r to on apart due = absurd r.corresponds
    fired_same (i ∷ h) (j ∷ g) r to on apart due = (law.instant h g i j r (whole_there A script i h to apart due)).fired (faultless A script i h to on due)

    -- a beginning with a step behind it is one
    with_step : {P Q : Type 0} (sys : System P Q) (h : History P) (i : Instant P) → IsSoFar sys script h → StepAfter sys script h i → IsPrefix sys script (i ∷ h)
    with_step sys [] i so_far step = step
    with_step sys (j ∷ h) i so_far step = (so_far, inl step)

    -- a step
    step_beside : (h : History X) (g : History U) → Reached h g → (i : Instant X) → StepAfter A script h i → (j : Instant U) × Reached (i ∷ h) (j ∷ g)
    unfolding goes_on
    step_beside h g r i step =
        let e = r.corresponds in
        let s = law.step h g r i step in
        let j = beside A B script pick Says i s.table in
        let after : StepAfter B script g j = record {
          due = due_same h g r step.due;
          kind = step.kind;
          time = step.time ∙ sym (same_time h g e);
          inputs =
              step.inputs
              ∙ ap₂ (λ c n. inputs_after c (line_for script i.time n) (latest_inputs h)) (sym law.inputs) (sym (same_steps_at i.time h g e))
              ∙ ap (λ l. inputs_after B.inputs (line_for script i.time (steps_at i.time g)) l) (sym (same_inputs h g e));
          fired = ap pick step.fired ∙ sym (fired_same h g r Steps refl steps_on step.due);
          solves = s.solves;
        } in (
          j,
          record {
            first = with_step A h i r.first step;
            second = with_step B g j r.second after;
            corresponds = ((record { kind = refl; time = refl; inputs = refl; fired = refl }, s.says), e);
          },
        )

    -- a flow
    flow_beside : (h : History X) (g : History U) (i : Instant X) (j : Instant U) (y : Course Y) → Reached (i ∷ h) (j ∷ g) → FlowAfter A script h i y → (w : FlowBeside A B script pick Says h g i j y) → FlowAfter B script g j w.flow
    flow_beside h g i j y r flow w = record { due = follows h g i j r Flows flows_on flow.due; solves = w.solves }

    move_beside : (h : History X) (g : History U) (i : Instant X) (j : Instant U) (y : Course Y) (d : Fraction) → Reached (i ∷ h) (j ∷ g) → MoveAfter A script h i y d → (w : FlowBeside A B script pick Says h g i j y) → MoveAfter B script g j w.flow d
    move_beside h g i j y d r move w = record {
      flow = flow_beside h g i j y r move.flow w;
      right = w.fault ∙ move.right;
      whole = w.whole move.right;
      lasts = subst (λ t. Lasts script (B.values j w.flow) B.sites t d) (sym r.corresponds.0.0.time) (w.lasts move.right d move.lasts);
    }

    -- its left end
    left_beside : (h : History X) (g : History U) (i : Instant X) (j : Instant U) → Reached (i ∷ h) (j ∷ g) → (next : Instant X) → LeftAfter A script h i next → (j' : Instant U) × Reached (next ∷ i ∷ h) (j' ∷ j ∷ g)
    unfolding goes_on
    left_beside h g i j r next left =
        let e = r.corresponds in
        let w = law.flow h g i j left.flow r left.move.flow (λ none. left.move.whole) in
        let s = w.left next left refl in
        let j' = beside A B script pick Says next s.table in
        let after : LeftAfter B script g j j' = record {
          flow = w.flow;
          duration = left.duration;
          move = move_beside h g i j left.flow left.duration r left.move w;
          fits = w.moves left.move.right left.duration left.move.lasts ∙ left.fits;
          kind = left.kind;
          time = left.time ∙ ap (λ t. add t left.duration) (sym e.0.0.time);
          inputs = left.inputs ∙ sym e.0.0.inputs;
          fired = ap pick left.fired ∙ sym (fired_same (i ∷ h) (j ∷ g) r Flows refl flows_on left.move.flow.due);
          solves = s.solves;
        } in (
          j',
          record {
            first = (r.first, inr left);
            second = (r.second, inr after);
            corresponds = ((record { kind = refl; time = refl; inputs = refl; fired = refl }, s.says), e);
          },
        )

    -- beginnings
    beginning : (h : History X) → IsPrefix A script h → (g : History U) × Reached h g
    beginning [] p = absurd p
    beginning (i ∷ []) p = let s = step_beside [] [] (record { first = tt; second = tt; corresponds = tt }) i p in (s.0 ∷ [], s.1)
    beginning (i ∷ i0 ∷ h) p = extend (beginning (i0 ∷ h) p.0) p.1
      where
        extend : (g : History U) × Reached (i0 ∷ h) g → StepAfter A script (i0 ∷ h) i ⊎ LeftAfter A script h i0 i → (g : History U) × Reached (i ∷ i0 ∷ h) g
        extend ([], r) to = absurd r.corresponds
        extend (j ∷ g, r) to =
            ⊎_elim
            (λ step. let s = step_beside (i0 ∷ h) (j ∷ g) r i step in (s.0 ∷ j ∷ g, s.1))
            (λ left. let s = left_beside h g i0 j r i left in (s.0 ∷ j ∷ g, s.1)) to

    -- one that has an instant
    is_prefix : (h : History X) (g : History U) → IsPrefix A script h → Reached h g → IsPrefix B script g
    is_prefix [] g p r = absurd p
    is_prefix (i ∷ h) [] p r = absurd r.corresponds
    is_prefix (i ∷ h) (j ∷ g) p r = r.second

    prefix_beside : (h : History X) → IsPrefix A script h → PrefixBeside A B script pick Says h
    prefix_beside h p =
        let b = beginning h p in record { history = b.0; is = is_prefix h b.0 p b.1; corresponds = b.1.corresponds; long = same_length h b.0 b.1.corresponds }

    -- the end
    in_flow : (h : History X) (g : History U) (i : Instant X) (j : Instant U) → Reached (i ∷ h) (j ∷ g) → (ending : Ending) → (ending ≡ Empty → ⊥) → EndsInFlow A script h i ending → EndsInFlow B script g j ending
    in_flow h g i j r _ apart (ByFault y fault flow is) =
        let w = law.flow h g i j y r flow (none_some fault _ _ is) in
        subst (λ t. EndsInFlow B script g j (EndsInFault fault t FlowMark)) r.corresponds.0.0.time (ByFault w.flow fault (flow_beside h g i j y r flow w) (w.fault ∙ is))
    in_flow h g i j r _ apart (ByLack y flow fine lacks) = absurd (apart refl)
    in_flow h g i j r _ apart (ByMove y d fault move is) =
        let w = law.flow h g i j y r move.flow (λ none. move.whole) in
        subst (λ t. EndsInFlow B script g j (EndsInFault fault t FlowMark)) r.corresponds.0.0.time (ByMove w.flow d fault (move_beside h g i j y d r move w) (w.moves move.right d move.lasts ∙ is))

    end_same : (h : History X) (g : History U) → Reached h g → (ending : Ending) → (ending ≡ Empty → ⊥) → IsEnd A script h ending → IsEnd B script g ending
    end_same [] g r ending apart end = absurd end
    end_same (i ∷ h) [] r ending apart end = absurd r.corresponds
    end_same (i ∷ h) (j ∷ g) r ending apart end =
        ⊎_elim
        (λ due. inl (follows h g i j r (Ends ending) (λ q. apart (ended q)) due))
        (λ in_it. inr (in_flow h g i j r ending apart in_it)) end

    -- nothing is missing at the latest instant, unless there is a fault
    abbrev IsWholeAt : History X → Type 0
    IsWholeAt [] = Unit {0}
    IsWholeAt (i ∷ h) = IsWhole (A.fault h i) (A.lacks i)

    -- where something follows nothing is missing
    went_on : (h : History X) (j i : Instant X) → StepAfter A script (j ∷ h) i ⊎ LeftAfter A script h j i → IsWholeAt (j ∷ h)
    went_on h j i to = ⊎_elim (λ step. whole_there A script j h Steps steps_on step.due) (λ left. whole_there A script j h Flows flows_on left.move.flow.due) to

    -- the lines of corresponding instants, where the same is shown of them
    module _ (p : X → List Shown) (q : U → List Shown) (same : ShowsSame A B script pick Says p q) where
      line_same : (h : History X) (g : History U) (i : Instant X) (j : Instant U) → Reached (i ∷ h) (j ∷ g) → IsWhole (A.fault h i) (A.lacks i) → if_right (B.fault g j) (B.lacks j) (line_of q g j) ≡ if_right (A.fault h i) (A.lacks i) (line_of p h i)
      line_same h g i j r whole = by (A.fault h i) (A.lacks i) (B.fault g j) (B.lacks j) refl refl (law.instant h g i j r whole).fault whole (law.instant h g i j r whole).whole
        where
          there : A.fault h i ≡ None → A.lacks i ≡ false → line_of q g j ≡ line_of p h i
          there none full =
              ap₂ (λ t m. instant_line t m (q j.table)) r.corresponds.0.0.time (same_mark h g i j r.corresponds)
              ∙ ap (λ l. instant_line i.time (mark_of h i) l) (same h g i j r none full)

          by : (f : Option Fault) (a : Bool) (e : Option Fault) (b : Bool) → A.fault h i ≡ f → A.lacks i ≡ a → e ≡ f → IsWhole f a → IsWhole f b → if_right e b (line_of q g j) ≡ if_right f a (line_of p h i)
          by None true e b at full is w v = let z : true ≡ false = w refl in absurd (let y = z in cc)
          by None false None true at full is w v = let z : true ≡ false = v refl in absurd (let y = z in cc)
          by None false None false at full is w v = there at full
          by None false (Some x) b at full is w v = let z : Some x ≡ None = is in absurd (let y = z in cc)
          by (Some x) a None b at full is w v = let z : None ≡ Some x = is in absurd (let y = z in cc)
          by (Some x) a (Some y) b at full is w v = refl

      lines_same : (h : History X) (g : History U) → IsPrefix A script h → Reached h g → IsWholeAt h → lines B.fault B.lacks q g ≡ lines A.fault A.lacks p h
      lines_same [] g b r whole = absurd b
      lines_same (i ∷ []) [] b r whole = absurd r.corresponds
      lines_same (i ∷ []) (j ∷ []) b r whole = line_same [] [] i j r whole
      lines_same (i ∷ []) (j ∷ j0 ∷ g) b r whole = absurd r.corresponds.1
      lines_same (i ∷ i0 ∷ h) [] b r whole = absurd r.corresponds
      lines_same (i ∷ i0 ∷ h) (j ∷ []) b r whole = absurd r.corresponds.1
      lines_same (i ∷ i0 ∷ h) (j ∷ j0 ∷ g) b r whole =
          ap₂ (λ a b. a ++ b)
          (lines_same (i0 ∷ h) (j0 ∷ g) b.0 (record { first = r.first.0; second = r.second.0; corresponds = r.corresponds.1 }) (went_on h i0 i b.1))
          (line_same (i0 ∷ h) (j0 ∷ g) i j r whole)

    -- where a run ends otherwise than for want of a value nothing is missing at its latest instant
    end_whole : (h : History X) (ending : Ending) → (ending ≡ Empty → ⊥) → IsEnd A script h ending → IsWholeAt h
    end_whole [] ending apart end = tt
    end_whole (i ∷ h) ending apart end =
        ⊎_elim (λ due. whole_there A script i h (Ends ending) (λ q. apart (ended q)) due) (λ in_it. whole_there A script i h Flows flows_on (flow_due in_it)) end
      where
        flow_due : {e : Ending} → EndsInFlow A script h i e → next A script (i ∷ h) ≡ Flows
        flow_due (ByFault y fault flow is) = flow.due
        flow_due (ByLack y flow fine lacks) = flow.due
        flow_due (ByMove y d fault move is) = move.flow.due

    run_beside : (h : History X) (ending : Ending) → IsRun A script h ending → (ending ≡ Empty → ⊥) → RunBeside A B script pick Says h ending
    run_beside h ending run apart =
        let b = beginning h run.instants in record {
          history = b.0;
          is = record { instants = is_prefix h b.0 run.instants b.1; ends = end_same h b.0 b.1 ending apart run.ends };
          corresponds = b.1.corresponds;
          long = same_length h b.0 b.1.corresponds;
          prints = λ p q same. ap (λ l. l ++ ending_line ending) (lines_same p q same h b.0 run.instants b.1 (end_whole h ending apart run.ends));
        }

    pub keeps_runs : KeepsRuns A B script pick Says
    keeps_runs = record { prefixes = prefix_beside; runs = run_beside }
