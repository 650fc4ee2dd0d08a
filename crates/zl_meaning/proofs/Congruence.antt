-- Two moments that agree where an equation reads give it one value.
use Rattle.std.specs.Prelude.{◌≡◌, ℕ, zero, suc, List, [], ◌∷◌, map, slice_get, Option, Some, None}
use Rattle.std.specs.List.{AllByRecursion, list_any}
use Rattle.std.proofs.Common.{refl, ap, ap₂, ◌∙◌}
use Rattle.zl_value.specs.declared.value.Value.{Value}
use Rattle.zl_meaning.specs.FlatForm.{FlatForm}
use Rattle.zl_meaning.specs.Uses.{Use, PartOf, BranchOf, DefinerOf, SlopeOf, EventOf, StartOf, ResetOf, TestOf, ArgumentOf, AgainOf, uses_of, events_of}
use Rattle.zl_meaning.specs.State.{Node, AtControl, AtReset, AtLater, AtEntry, AtRunning, AtStrong, AtWeak, AtPlace, AtUsed, AtValue, State}
use Rattle.zl_meaning.specs.Moment.{Mode, AtStep, AtLeft, InFlow, Moment, is_fresh, is_called, decide}
use Rattle.zl_meaning.specs.Automata.{strong_moves, weak_moves, decide_move, entry_in, entry_of, strong_from, strong_in, strong_of, runs_from, running_in, running_of, weak_from, weak_in, weak_of}
use Rattle.zl_meaning.specs.Blocks.{arm_control, reset_control, own_control, under_parent, control_of, is_entered, own_reset, reset_under, reset_of, own_later, later_under, later_of}
use Rattle.zl_meaning.specs.Places.{has_blank_start, started, value_before, last_of, arm_value, reset_value, der_value, defined, has_blank, is_present, place_of}
use Rattle.zl_meaning.specs.Occurrences.{gathered, fired_answer, answer, value_of, asks, is_asked, used_of}
use Rattle.zl_meaning.specs.Equation.{equation}
use Rattle.zl_meaning.specs.Reading.{Entries, ReadsValues, ReadsCall, ReadsFresh, ReadsChoice, ReadsOwnControl, ReadsParent, ReadsControl, ReadsOwnReset, ReadsResetUnder, ReadsReset, ReadsOwnLater, ReadsLaterUnder, ReadsLater, ReadsMoves, ReadsEntry, ReadsRunning, ReadsStrong, ReadsWeak, ReadsStart, ReadsLastOf, ReadsArm, ReadsDefiner, ReadsPlace, ReadsForm, ReadsValue, ReadsUse, ReadsAsked, ReadsUsed, Reads, AreAlike}
use Rattle.zl_meaning.specs.declared.block.Block.{Block}
use Rattle.zl_meaning.specs.declared.block.BlockKind.{BlockKind}
use Rattle.zl_meaning.specs.declared.block.BlockKind.TheVariants.{Main, Arm, Guard, State as Body, Reset}
use Rattle.zl_meaning.specs.declared.block.Choice.{Choice}
use Rattle.zl_meaning.specs.declared.block.Auto.{Auto}
use Rattle.zl_meaning.specs.declared.block.AutoMove.{AutoMove}
use Rattle.zl_meaning.specs.declared.place.Definer.{Definer}
use Rattle.zl_meaning.specs.declared.place.Definer.TheVariants.{Input, Plain, Der, Start}
use Rattle.zl_meaning.specs.declared.place.DerArm.{DerArm}
use Rattle.zl_meaning.specs.declared.place.PlaceInfo.{PlaceInfo}
use Rattle.zl_meaning.specs.declared.occurrence.Form.{Form}
use Rattle.zl_meaning.specs.declared.occurrence.Form.TheVariants.{Lit, Read, Last, Op as Apply, If, Arrow, Pre, Result, Up, Fired, Step}
use Rattle.zl_meaning.specs.declared.occurrence.Occ.{Occ}

module _ (P Q : Entries) (f : FlatForm) (m n : Moment) (s t : State) (alike : AreAlike Q m n) (same : (a : Node) → P a → s a ≡ t a) where
  decide_same : (ks : List ℕ) → ReadsValues P ks → decide s ks ≡ decide t ks
  decide_same [] r = refl
  decide_same (k ∷ ks) r = let x = same (AtValue k) r.0 in let y = decide_same ks r.1 in rw (x, y) refl

  gathered_same : (ks : List ℕ) → ReadsValues P ks → gathered s ks ≡ gathered t ks
  gathered_same [] r = refl
  gathered_same (k ∷ ks) r = let x = same (AtValue k) r.0 in let y = gathered_same ks r.1 in rw (x, y) refl

  called_same : (call : Option ℕ) → ReadsCall P call → is_called s call ≡ is_called t call
  called_same None r = refl
  called_same (Some call) r = same (AtUsed call) r

  fresh_same : (b : ℕ) → ReadsFresh P Q b → is_fresh m s b ≡ is_fresh n t b
  fresh_same b r = let x = alike.mode in let y = same (AtControl b) r.0 in let z = same (AtReset b) r.1 in let w = alike.live b r.2 in cc

  -- blocks
  arm_same : (mode : Mode) (arm : ℕ) (choice : Option Choice) → ReadsChoice P choice → arm_control s mode arm choice ≡ arm_control t mode arm choice
  arm_same AtStep arm None r = refl
  arm_same AtStep arm (Some choice) r = let x = decide_same choice.conds r in cc
  arm_same AtLeft arm choice r = refl
  arm_same InFlow arm choice r = refl

  reset_control_same : (mode : Mode) (b cond : ℕ) → P (AtValue cond) → Q (AtControl b) → reset_control m s mode b cond ≡ reset_control n t mode b cond
  reset_control_same AtStep b cond r q = let x = same (AtValue cond) r in cc
  reset_control_same AtLeft b cond r q = refl
  reset_control_same InFlow b cond r q = alike.start (AtControl b) q

  own_control_same : (b : ℕ) (kind : BlockKind) → ReadsOwnControl f P Q b kind → own_control f m s b kind ≡ own_control f n t b kind
  own_control_same b Main r = refl
  own_control_same b (Arm of arm) r = let x = alike.mode in let y = arm_same n.mode arm (slice_get f.choices of) r in cc
  own_control_same b (Guard of state) r = let x = same (AtEntry of) r in cc
  own_control_same b (Body of state) r = let x = same (AtRunning of) r in cc
  own_control_same b (Reset cond) r = let x = alike.mode in let y = reset_control_same n.mode b cond r.0 r.1 in cc

  control_same : (b : ℕ) (block : Option Block) → ReadsControl f P Q b block → control_of f m s b block ≡ control_of f n t b block
  control_same b None r = refl
  control_same b (Some block) r = parent block.parent r.0 (own_control_same b block.kind r.1)
    where
      parent : (parent : Option ℕ) → ReadsParent P parent → own_control f m s b block.kind ≡ own_control f n t b block.kind → under_parent s parent (own_control f m s b block.kind) ≡ under_parent t parent (own_control f n t b block.kind)
      parent None r e = e
      parent (Some q) r e = let x = same (AtControl q) r in cc

  entered_same : (parent of state : ℕ) → ReadsFresh P Q parent → Q (AtWeak of) → is_entered m s parent of state ≡ is_entered n t parent of state
  entered_same parent of state r q = let x = alike.mode in let y = fresh_same parent r in let z = alike.before (AtWeak of) q in cc

  own_reset_same : (parent : ℕ) (kind : BlockKind) → ReadsOwnReset P Q parent kind → own_reset m s parent kind ≡ own_reset n t parent kind
  own_reset_same parent Main r = refl
  own_reset_same parent (Arm of arm) r = refl
  own_reset_same parent (Guard of state) r = entered_same parent of state r.0 r.1
  own_reset_same parent (Body of state) r = let x = entered_same parent of state r.0 r.1 in let y = same (AtStrong of) r.2 in cc
  own_reset_same parent (Reset cond) r = let x = alike.mode in let y = same (AtValue cond) r in cc

  reset_under_same : (parent : Option ℕ) (kind : BlockKind) → ReadsResetUnder P Q parent kind → reset_under m s parent kind ≡ reset_under n t parent kind
  reset_under_same None kind r = refl
  reset_under_same (Some q) kind r = let x = same (AtReset q) r.0 in let y = same (AtControl q) r.1 in let z = own_reset_same q kind r.2 in cc

  reset_same : (block : Option Block) → ReadsReset P Q block → reset_of m s block ≡ reset_of n t block
  reset_same None r = refl
  reset_same (Some block) r = reset_under_same block.parent block.kind r

  own_later_same : (kind : BlockKind) → ReadsOwnLater P kind → own_later s kind ≡ own_later t kind
  own_later_same Main r = refl
  own_later_same (Arm of arm) r = refl
  own_later_same (Guard of state) r = let x = same (AtStrong of) r in cc
  own_later_same (Body of state) r = refl
  own_later_same (Reset cond) r = refl

  later_under_same : (parent : Option ℕ) (kind : BlockKind) → ReadsLaterUnder P parent kind → later_under s parent kind ≡ later_under t parent kind
  later_under_same None kind r = refl
  later_under_same (Some q) kind r = let x = same (AtLater q) r.0 in let y = same (AtControl q) r.1 in let z = own_later_same kind r.2 in cc

  later_same : (block : Option Block) → ReadsLater P block → later_of s block ≡ later_of t block
  later_same None r = refl
  later_same (Some block) r = later_under_same block.parent block.kind r

  -- automata
  entry_in_same : (a : ℕ) (auto : Auto) (mode : Mode) → ReadsEntry P Q a (Some auto) → entry_in m s a auto mode ≡ entry_in n t a auto mode
  entry_in_same a auto AtStep r = let x = fresh_same auto.block r.0 in let y = alike.before (AtWeak a) r.2 in let z = alike.before (AtRunning a) r.3 in cc
  entry_in_same a auto AtLeft r = let x = fresh_same auto.block r.0 in let y = alike.before (AtWeak a) r.2 in let z = alike.before (AtRunning a) r.3 in cc
  entry_in_same a auto InFlow r = alike.start (AtEntry a) r.1

  entry_same : (a : ℕ) (auto : Option Auto) → ReadsEntry P Q a auto → entry_of m s a auto ≡ entry_of n t a auto
  entry_same a None r = refl
  entry_same a (Some auto) r = let x = alike.mode in let y = same (AtControl auto.block) r.0.0 in let z = entry_in_same a auto n.mode r in cc

  decide_move_same : (moves : List AutoMove) → ReadsMoves P moves → decide_move s moves ≡ decide_move t moves
  decide_move_same moves r = decide_same (map (λ (move : AutoMove). move.cond) moves) r

  strong_from_same : (auto : Auto) (entry : Option ℕ) → ((state : ℕ) → ReadsMoves P (strong_moves auto state)) → strong_from s auto entry ≡ strong_from t auto entry
  strong_from_same auto None r = refl
  strong_from_same auto (Some entry) r = let x = decide_move_same (strong_moves auto entry) (r entry) in rw x refl

  runs_from_same : (auto : Auto) (entry : Option ℕ) → ((state : ℕ) → ReadsMoves P (strong_moves auto state)) → runs_from s auto entry ≡ runs_from t auto entry
  runs_from_same auto None r = refl
  runs_from_same auto (Some entry) r = let x = decide_move_same (strong_moves auto entry) (r entry) in rw x refl

  weak_from_same : (auto : Auto) (running : Option ℕ) → ((state : ℕ) → ReadsMoves P (weak_moves auto state)) → weak_from s auto running ≡ weak_from t auto running
  weak_from_same auto None r = refl
  weak_from_same auto (Some running) r = let x = decide_move_same (weak_moves auto running) (r running) in rw x refl

  running_in_same : (a : ℕ) (auto : Auto) (mode : Mode) → ReadsRunning P Q a (Some auto) → running_in m s a auto mode ≡ running_in n t a auto mode
  running_in_same a auto AtStep r = ap (λ e. runs_from s auto e) (same (AtEntry a) r.1) ∙ runs_from_same auto (t (AtEntry a)) r.3
  running_in_same a auto AtLeft r = same (AtEntry a) r.1
  running_in_same a auto InFlow r = alike.start (AtRunning a) r.2

  running_same : (a : ℕ) (auto : Option Auto) → ReadsRunning P Q a auto → running_of m s a auto ≡ running_of n t a auto
  running_same a None r = refl
  running_same a (Some auto) r = let x = alike.mode in let y = same (AtControl auto.block) r.0 in let z = running_in_same a auto n.mode r in cc

  strong_in_same : (a : ℕ) (auto : Auto) (mode : Mode) → ReadsStrong P a (Some auto) → strong_in s a auto mode ≡ strong_in t a auto mode
  strong_in_same a auto AtStep r = ap (λ e. strong_from s auto e) (same (AtEntry a) r.1) ∙ strong_from_same auto (t (AtEntry a)) r.2
  strong_in_same a auto AtLeft r = refl
  strong_in_same a auto InFlow r = refl

  strong_same : (a : ℕ) (auto : Option Auto) → ReadsStrong P a auto → strong_of m s a auto ≡ strong_of n t a auto
  strong_same a None r = refl
  strong_same a (Some auto) r = let x = alike.mode in let y = same (AtControl auto.block) r.0 in let z = strong_in_same a auto n.mode r in cc

  weak_in_same : (a : ℕ) (auto : Auto) (mode : Mode) → ReadsWeak P a (Some auto) → weak_in s a auto mode ≡ weak_in t a auto mode
  weak_in_same a auto AtStep r = ap (λ e. weak_from s auto e) (same (AtRunning a) r.1) ∙ weak_from_same auto (t (AtRunning a)) r.2
  weak_in_same a auto AtLeft r = refl
  weak_in_same a auto InFlow r = refl

  weak_same : (a : ℕ) (auto : Option Auto) → ReadsWeak P a auto → weak_of m s a auto ≡ weak_of n t a auto
  weak_same a None r = refl
  weak_same a (Some auto) r = let x = alike.mode in let y = same (AtControl auto.block) r.0 in let z = weak_in_same a auto n.mode r in cc

  -- places
  started_same : (definers : List Definer) (x y : Option Value) → AllByRecursion (ReadsStart P Q) definers → x ≡ y → started m s definers x ≡ started n t definers y
  started_same [] x y r e = e
  started_same (Input j ∷ definers) x y r e = started_same definers x y r.1 e
  started_same (Plain b k ∷ definers) x y r e = started_same definers x y r.1 e
  started_same (Der b slope resets ∷ definers) x y r e = started_same definers x y r.1 e
  started_same (Start b k ∷ definers) x y r e = let v = fresh_same b r.0.0 in let w = same (AtValue k) r.0.1 in let z = started_same definers x y r.1 e in cc

  blank_start_same : (definer : Definer) → ReadsStart P Q definer → has_blank_start s definer ≡ has_blank_start t definer
  blank_start_same (Input j) r = refl
  blank_start_same (Plain b k) r = refl
  blank_start_same (Der b slope resets) r = refl
  blank_start_same (Start b k) r = let u = same (AtControl b) r.0.0 in cc

  blank_starts_same : (definers : List Definer) → AllByRecursion (ReadsStart P Q) definers → list_any (has_blank_start s) definers ≡ list_any (has_blank_start t) definers
  blank_starts_same [] r = refl
  blank_starts_same (definer ∷ definers) r = let u = blank_start_same definer r.0 in let v = blank_starts_same definers r.1 in cc

  last_same : (p : ℕ) (place : Option PlaceInfo) → ReadsLastOf P Q p place → last_of m s p place ≡ last_of n t p place
  last_same p None r = refl
  last_same p (Some place) r =
      let x = fresh_same place.block r.0 in
      let y = alike.before (AtPlace p) r.1 in
      let b = blank_starts_same place.definers r.2 in
      let v = started_same place.definers (value_before m s p place) (value_before n t p place) r.2 cc in
      cc

  events_read : (arms : List DerArm) → AllByRecursion (ReadsArm P) arms → ReadsValues P (events_of arms)
  events_read [] r = r
  events_read (arm ∷ arms) r = (r.0.0, events_read arms r.1)

  arm_value_same : (arms : List DerArm) (k : ℕ) (x : Option Value) → AllByRecursion (ReadsArm P) arms → arm_value s (slice_get arms k) x ≡ arm_value t (slice_get arms k) x
  arm_value_same [] k x r = refl
  arm_value_same (arm ∷ arms) zero x r = same (AtValue arm.value) r.0.1
  arm_value_same (arm ∷ arms) (suc k) x r = arm_value_same arms k x r.1

  reset_value_same : (arms : List DerArm) (d : Option ℕ) (x : Option Value) → AllByRecursion (ReadsArm P) arms → reset_value s arms d x ≡ reset_value t arms d x
  reset_value_same arms None x r = refl
  reset_value_same arms (Some k) x r = arm_value_same arms k x r

  der_same : (mode : Mode) (p slope : ℕ) (arms : List DerArm) (x y : Option Value) → Q (AtPlace p) → Q (AtValue slope) → AllByRecursion (ReadsArm P) arms → x ≡ y → der_value m s mode p slope arms x ≡ der_value n t mode p slope arms y
  der_same AtStep p slope arms x y q1 q2 r e =
      ap₂ (λ d l. reset_value s arms d l) (decide_same (events_of arms) (events_read arms r)) e ∙ reset_value_same arms (decide t (events_of arms)) y r
  der_same AtLeft p slope arms x y q1 q2 r e = let u = alike.start (AtPlace p) q1 in let v = alike.start (AtValue slope) q2 in let w = alike.passed in cc
  der_same InFlow p slope arms x y q1 q2 r e = let u = alike.start (AtPlace p) q1 in let v = alike.start (AtValue slope) q2 in let w = alike.passed in cc

  defined_same : (p : ℕ) (definers : List Definer) (x y : Option Value) → AllByRecursion (ReadsDefiner P Q p) definers → x ≡ y → defined m s p definers x ≡ defined n t p definers y
  defined_same p [] x y r e = e
  defined_same p (Input j ∷ definers) x y r e = let u = alike.inputs in cc
  defined_same p (Plain b k ∷ definers) x y r e = let u = same (AtControl b) r.0.0 in let v = same (AtValue k) r.0.1 in let w = defined_same p definers x y r.1 e in cc
  defined_same p (Der b slope arms ∷ definers) x y r e =
      let u = same (AtControl b) r.0.0 in let mo = alike.mode in let v = der_same n.mode p slope arms x y r.0.1 r.0.2 r.0.3 e in let w = defined_same p definers x y r.1 e in cc
  defined_same p (Start b k ∷ definers) x y r e = defined_same p definers x y r.1 e

  blank_same : (p : ℕ) (definer : Definer) → ReadsDefiner P Q p definer → has_blank s definer ≡ has_blank t definer
  blank_same p (Input j) r = refl
  blank_same p (Plain b k) r = let u = same (AtControl b) r.0 in cc
  blank_same p (Der b slope arms) r = let u = same (AtControl b) r.0 in cc
  blank_same p (Start b k) r = let u = same (AtControl b) r in cc

  blanks_same : (p : ℕ) (definers : List Definer) → AllByRecursion (ReadsDefiner P Q p) definers → list_any (has_blank s) definers ≡ list_any (has_blank t) definers
  blanks_same p [] r = refl
  blanks_same p (definer ∷ definers) r = let u = blank_same p definer r.0 in let v = blanks_same p definers r.1 in cc

  present_same : (p : ℕ) (place : PlaceInfo) → ReadsPlace P Q p (Some place) → is_present s place ≡ is_present t place
  present_same p place r = let u = same (AtControl place.block) r.0 in let v = called_same place.call r.1 in let w = blanks_same p place.definers r.2 in cc

  place_same : (p : ℕ) (place : Option PlaceInfo) → ReadsPlace P Q p place → place_of m s p place ≡ place_of n t p place
  place_same p None r = refl
  place_same p (Some place) r = let u = present_same p place r in let v = defined_same p place.definers _ _ r.2 (last_same p (Some place) r.3) in cc

  -- occurrences
  fired_same : (mode : Mode) (ks : List ℕ) → ReadsValues P ks → fired_answer mode s ks ≡ fired_answer mode t ks
  fired_same AtStep ks r = let u = gathered_same ks r in cc
  fired_same AtLeft ks r = refl
  fired_same InFlow ks r = refl

  answer_same : (b : ℕ) (form : Form) → ReadsForm f P Q b form → answer f m s b form ≡ answer f n t b form
  answer_same b (Lit v) r = refl
  answer_same b (Read p) r = let u = same (AtPlace p) r in cc
  answer_same b (Last p) r = let u = last_same p (slice_get f.places p) r in cc
  answer_same b (Apply op ks) r = let u = alike.mode in let v = gathered_same ks r in cc
  answer_same b (If c x y) r = let u = same (AtValue c) r.0 in let v = same (AtValue x) r.1 in let w = same (AtValue y) r.2 in cc
  answer_same b (Arrow x y) r = let u = fresh_same b r.0 in let v = same (AtValue x) r.1 in let w = same (AtValue y) r.2 in cc
  answer_same b (Pre x) r = let u = fresh_same b r.0 in let v = alike.before (AtUsed x) r.1 in let w = alike.before (AtValue x) r.2 in cc
  answer_same b (Result x) r = let u = same (AtValue x) r in cc
  answer_same b (Up site) r = let u = alike.mode in let v = alike.fired in let w = fresh_same b r in cc
  answer_same b (Fired ks) r = let u = alike.mode in let v = fired_same n.mode ks r in cc
  answer_same b Step r = let u = alike.mode in cc

  value_same : (occ : Option Occ) → ReadsValue f P Q occ → value_of f m s occ ≡ value_of f n t occ
  value_same None r = refl
  value_same (Some occ) r = let u = same (AtControl occ.block) r.0 in let v = answer_same occ.block occ.form r.1 in cc

  asks_same : (of : Use) → ReadsUse P Q of → asks m s of ≡ asks n t of
  asks_same (PartOf whole) r = same (AtUsed whole) r
  asks_same (BranchOf whole condition side) r = let u = same (AtUsed whole) r.0 in let v = same (AtValue condition) r.1 in cc
  asks_same (DefinerOf call) r = called_same call r
  asks_same (SlopeOf call) r = called_same call r
  asks_same (EventOf call) r = called_same call r
  asks_same (StartOf call b) r = let u = called_same call r.0 in let v = fresh_same b r.1 in cc
  asks_same (ResetOf call events arm) r = let u = called_same call r.0 in let v = decide_same events r.1 in let w = alike.mode in cc
  asks_same TestOf r = let w = alike.mode in cc
  asks_same ArgumentOf r = refl
  asks_same AgainOf r = refl

  any_asks_same : (uses : List Use) → AllByRecursion (ReadsUse P Q) uses → list_any (asks m s) uses ≡ list_any (asks n t) uses
  any_asks_same [] r = refl
  any_asks_same (of ∷ uses) r = let u = asks_same of r.0 in let v = any_asks_same uses r.1 in cc

  asked_same : (call : Option ℕ) (uses : List Use) → ReadsAsked P Q call uses → is_asked m s call uses ≡ is_asked n t call uses
  asked_same call [] r = called_same call r
  asked_same call (of ∷ uses) r = any_asks_same (of ∷ uses) r

  used_same : (k : ℕ) (occ : Option Occ) → ReadsUsed f P Q k occ → used_of f m s k occ ≡ used_of f n t k occ
  used_same k None r = refl
  used_same k (Some occ) r = let u = same (AtControl occ.block) r.0 in let v = asked_same occ.call (uses_of f k) r.1 in cc

  -- an equation has one value at both moments
  pub equation_same : (a : Node) → Reads f P Q a → equation f m s a ≡ equation f n t a
  unfolding equation
  equation_same (AtControl b) r = control_same b (slice_get f.blocks b) r
  equation_same (AtReset b) r = reset_same (slice_get f.blocks b) r
  equation_same (AtLater b) r = later_same (slice_get f.blocks b) r
  equation_same (AtEntry a) r = entry_same a (slice_get f.automata a) r
  equation_same (AtRunning a) r = running_same a (slice_get f.automata a) r
  equation_same (AtStrong a) r = strong_same a (slice_get f.automata a) r
  equation_same (AtWeak a) r = weak_same a (slice_get f.automata a) r
  equation_same (AtPlace p) r = place_same p (slice_get f.places p) r
  equation_same (AtUsed k) r = used_same k (slice_get f.occs k) r
  equation_same (AtValue k) r = value_same (slice_get f.occs k) r
