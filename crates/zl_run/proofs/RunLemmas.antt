-- What a run answers.
use Rattle.std.specs.Prelude.{◌≡◌, ◌⊎◌, ℕ, Bool, List, [], ◌∷◌, ◌++◌, map, Some, Result, Ok, Err, IfOk}
use Rattle.std.specs.List.{concat}
use Rattle.std.proofs.Common.{refl, sym, ap, ◌∙◌, subst, inl, inr}
use Rattle.zl_outside.specs.Counts.{Rose}
use Rattle.zl_outside.specs.Pieces.{StandsFor, IsFront, GrowsInPart}
use Rattle.zl_outside.specs.Writes.{Writes}
use Rattle.zl_outside.proofs.WriteLemmas.{writes_as, writes_nothing}
use Rattle.zl_value.specs.Lines.{instant_line, ending_line}
use Rattle.zl_value.specs.Script.{IsScriptFor}
use Rattle.zl_value.specs.Instants.{Instant, History}
use Rattle.zl_value.specs.Runs.{IsPrefix, IsRun}
use Rattle.zl_value.specs.declared.script.Script.{Script}
use Rattle.zl_value.specs.declared.script.Ending.{Ending}
use Rattle.zl_code.specs.CodeForm.{CodeForm}
use Rattle.zl_code.specs.Method.{Doing}
use Rattle.zl_code.specs.System.{system_of}
use Rattle.zl_machine.specs.Calls.{made, outcome}
use Rattle.zl_machine.specs.MachineForm.{MachineForm}
use Rattle.zl_machine.specs.declared.outcome.Outcome.{Outcome}
use Rattle.zl_machine.specs.declared.outcome.Outcome.TheVariants.{Ready, Fault as Faulty, Empty as NoValue}
use Rattle.zl_lines.specs.RoomForm.{RoomForm, IsRoomFor, shown_by}
use Rattle.zl_run.specs.Answers.{pieces, GrowsBy, IsBeginning, StandsAtEnd, Runs, end_of}
use Rattle.zl_run.specs.Putting.{Stays, IsPut}
use Rattle.zl_run.specs.Standing.{the_step}
use Rattle.zl_run.specs.Stepping.{HasStepped}
use Rattle.zl_run.specs.Tracks.{IsNewTrack}
use Rattle.zl_run.specs.Driving.{answered, Followed}
use Rattle.zl_run.specs.Looping.{AtInstant}
use Rattle.zl_run.specs.declared.clock.Clock.{Clock}
use Rattle.zl_run.specs.declared.end.End.{End}
use Rattle.zl_run.specs.declared.end.RunAnswer.{RunAnswer}
use Rattle.zl_run.specs.declared.end.RunAnswer.TheVariants.{WriteFault, Memory}
use Rattle.zl_run.specs.declared.track.Track.{Track}
use Rattle.zl_run.proofs.NextLemmas.{stands_at_end, stands_here, one_more_piece, over_here, no_more_piece}
use Rattle.zl_run.proofs.PieceLemmas.{grows_nothing, grows_more, writes_cut, begins, begins_whole}
use Rattle.zl_run.proofs.ScriptLemmas.{types_of, ordered}
use Rattle.zl_run.proofs.StandLemmas.{first_due, stands_after_step, step_outcome}
use Rattle.zl_run.proofs.TurnLemmas.{GoesOn, goes_on, is_ended}

pub ready_from : (o : Outcome) (k : Clock) (again : Bool) → Ok again ≡ answered o k → Ready again ≡ o
ready_from (Ready more) k again e = cc
ready_from (Faulty fault) k again e = absurd cc
ready_from NoValue k again e = absurd cc

-- nothing was put
in_part : (before now : StandsFor) (piece : List ℕ) → Stays before now → GrowsInPart before now piece
in_part before now piece stays given was = inl (stays given was)

rose_from : (a b d : ℕ) → b ≡ a → Rose b d → Rose a d
rose_from a b d e rose = subst (λ (n : ℕ). Rose n d) e rose

-- there was no memory at first
pub nothing_done : (c : CodeForm) (script : Script) (before : StandsFor) (faults : ℕ) (m : MachineForm) → Runs c script before before faults faults m (Err Memory)
nothing_done c script before faults m = (writes_nothing before (λ bytes. (bytes ≡ []) ⊎ IsBeginning c script bytes) (inl refl), refl)

-- the last line is put, or not
pub closes : (c : CodeForm) (script : Script) (before mid now : StandsFor) (faults_before faults_mid faults_now : ℕ) (h : History Doing) (ending : Ending) (m : MachineForm) (result : Result End RunAnswer)
    → IsRun (system_of c) script h ending → StandsAtEnd ending h m → GrowsBy before mid (pieces c h) → faults_mid ≡ faults_before
    → IsPut mid now faults_mid faults_now (ending_line ending) result → IfOk result (λ end. end ≡ end_of ending) → Runs c script before now faults_before faults_now m result
closes c script before mid now fb fm fn h ending m (Ok end) is stands grown kept put answer =
    (record { history = h; ending = ending; run = is; answer = answer; written = grows_more before mid now (pieces c h) (ending_line ending) grown put.0; machine = stands }, put.1 ∙ kept)
closes c script before mid now fb fm fn h ending m (Err WriteFault) is stands grown kept put answer =
    (begins_whole c script before now h ending is (writes_cut before mid now (pieces c h) (ending_line ending) grown put.0), rose_from fb fm fn kept put.1)
closes c script before mid now fb fm fn h ending m (Err Memory) is stands grown kept put answer = (
  writes_as before now (IsBeginning c script) (λ bytes. (bytes ≡ []) ⊎ IsBeginning c script bytes) (begins_whole c script before now h ending is (writes_cut before mid now (pieces c h) (ending_line ending) grown (in_part mid now (ending_line ending) put.0))) (λ bytes begun. inr begun),
  put.1 ∙ kept,
)

-- the line of an instant isn't put
cut : (c : CodeForm) (script : Script) (before mid now : StandsFor) (faults_before faults_mid faults_now : ℕ) (h : History Doing) (i : Instant Doing) (piece : List ℕ) (m : MachineForm) (why : RunAnswer)
    → IsPrefix (system_of c) script (i ∷ h) → GrowsBy before mid (pieces c h) → pieces c (i ∷ h) ≡ pieces c h ++ piece ∷ [] → faults_mid ≡ faults_before
    → IsPut {T = Unit {0}} mid now faults_mid faults_now piece (Err why) → Runs c script before now faults_before faults_now m (Err why)
cut c script before mid now fb fm fn h i piece m WriteFault is grown e kept put = (
  begins c script before now (i ∷ h) is (subst (λ (ps : List (List ℕ)). Writes before now (λ bytes. IsFront bytes (concat ps))) (sym e) (writes_cut before mid now (pieces c h) piece grown put.0)),
  rose_from fb fm fn kept put.1,
)
cut c script before mid now fb fm fn h i piece m Memory is grown e kept put = (
  writes_as before now (IsBeginning c script) (λ bytes. (bytes ≡ []) ⊎ IsBeginning c script bytes) (begins c script before now (i ∷ h) is
      (subst (λ (ps : List (List ℕ)). Writes before now (λ bytes. IsFront bytes (concat ps))) (sym e) (writes_cut before mid now (pieces c h) piece grown (in_part mid now piece put.0)))) (λ bytes begun. inr begun),
  put.1 ∙ kept,
)

-- before the loop
pub first_at : (c : CodeForm) (script : Script) (before : StandsFor) (faults : ℕ) (line : RoomForm) (t new : Track) (m after : MachineForm) (o : Outcome) → IsScriptFor (types_of c.ins) script → IsNewTrack c t → m ≡ made c
    → HasStepped script t new m after o → IsRoomFor c line → AtInstant c script before before faults faults line o new after
first_at c script before faults line t new m after o is fresh e stepped room =
    let low = ordered (types_of c.ins) script is in
    let due = first_due c script t m is fresh e in
    record {
      history = [];
      instant = the_step c [] (map Some new.inputs.items);
      stands = stands_after_step c script [] t new m after o low due stepped;
      answer = step_outcome c script [] t new m after o low due stepped;
      written = grows_nothing before;
      kept = refl;
      room = room;
    }

module _ (c : CodeForm) (script : Script) (before mid : StandsFor) (faults_before faults_mid : ℕ) (line : RoomForm) (o : Outcome) (t : Track) (m : MachineForm) (is : IsScriptFor (types_of c.ins) script)
    (at : AtInstant c script before mid faults_before faults_mid line o t m) where
  -- the instant isn't ready
  pub over : (now : StandsFor) (faults_now : ℕ) (ending : Ending) (result : Result End RunAnswer) → Err ending ≡ answered o t.clock → IsPut mid now faults_mid faults_now (ending_line ending) result
      → IfOk result (λ end. end ≡ end_of ending) → Runs c script before now faults_before faults_now m result
  over now faults_now ending result e put answer =
      let not_ready : Err ending ≡ answered (outcome c at.instant.kind at.instant.table) t.clock = e ∙ ap (λ (x : Outcome). answered x t.clock) at.answer in
      closes c script before mid now faults_before faults_mid faults_now (at.instant ∷ at.history) ending m result
      (record { instants = at.stands.prefix; ends = inl (over_here c script is at.history at.instant t m at.stands ending not_ready) })
      (stands_at_end ending (at.instant ∷ at.history) m (stands_here c script is at.history at.instant t m at.stands))
      (subst (GrowsBy before mid) (sym (no_more_piece c script is at.history at.instant t m at.stands ending not_ready)) at.written)
      at.kept put answer

  module _ (again : Bool) (e : Ready again ≡ o) where
    abbrev piece : List ℕ
    piece = instant_line t.clock.time t.clock.mark (shown_by m)

    ready : Ready again ≡ outcome c at.instant.kind at.instant.table
    ready = e ∙ at.answer

    more : pieces c (at.instant ∷ at.history) ≡ pieces c at.history ++ piece ∷ []
    more = one_more_piece c script is at.history at.instant t m at.stands again ready

    -- its line isn't put
    pub cut_here : (now : StandsFor) (faults_now : ℕ) (why : RunAnswer) → IsPut {T = Unit {0}} mid now faults_mid faults_now (instant_line t.clock.time t.clock.mark (shown_by m)) (Err why)
        → Runs c script before now faults_before faults_now m (Err why)
    cut_here now faults_now why put =
        cut c script before mid now faults_before faults_mid faults_now at.history at.instant piece m why at.stands.prefix at.written more at.kept put

    module _ (put : StandsFor) (faults_put : ℕ) (is_put : IsPut {T = Unit {0}} mid put faults_mid faults_put (instant_line t.clock.time t.clock.mark (shown_by m)) (Ok tt)) (new : Track) (after : MachineForm) where
      written : GrowsBy before put (pieces c (at.instant ∷ at.history))
      written = subst (GrowsBy before put) (sym more) (grows_more before mid put (pieces c at.history) piece at.written is_put.0)

      -- the run ends behind it
      pub ends_here : (now : StandsFor) (faults_now : ℕ) (ending : Ending) (result : Result End RunAnswer) → Followed script t new m after again (Err ending)
          → IsPut put now faults_put faults_now (ending_line ending) result → IfOk result (λ end. end ≡ end_of ending) → Runs c script before now faults_before faults_now after result
      ends_here now faults_now ending result followed last answer =
          let ended = is_ended c script is at.history at.instant t m at.stands again ready new after ending followed in
          closes c script before put now faults_before faults_put faults_now (at.instant ∷ at.history) ending after result
          (record { instants = at.stands.prefix; ends = ended.ends }) ended.machine written (is_put.1 ∙ at.kept) last answer

      pub next_goes : (o_next : Outcome) → Followed script t new m after again (Ok o_next) → GoesOn c script (at.instant ∷ at.history) t new after o_next
      next_goes o_next followed = goes_on c script is at.history at.instant t m at.stands again ready new after o_next followed

      -- or the next instant follows
      pub next_at : (line_next : RoomForm) (o_next : Outcome) → IsRoomFor c line_next → Followed script t new m after again (Ok o_next)
          → AtInstant c script before put faults_before faults_put line_next o_next new after
      next_at line_next o_next room followed =
          let go = next_goes o_next followed in
          record {
            history = at.instant ∷ at.history;
            instant = go.instant;
            stands = go.stands;
            answer = go.answer;
            written = written;
            kept = is_put.1 ∙ at.kept;
            room = room;
          }
