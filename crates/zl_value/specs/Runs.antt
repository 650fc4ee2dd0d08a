-- The runs of a system with a script. This project's own.
use Rattle.std.specs.Prelude.{◌≡◌, false, true, [], ◌∷◌, ◌⊎◌, Some, None}
use Rattle.zl_value.specs.Fraction.{Fraction, add}
use Rattle.zl_value.specs.Stops.{line_for, inputs_after}
use Rattle.zl_value.specs.Crossings.{Lasts}
use Rattle.zl_value.specs.Loop.{Ends, Steps, Flows}
use Rattle.zl_value.specs.Instants.{Step, Left, Instant, History, latest_inputs, time_of, steps_at}
use Rattle.zl_value.specs.System.{Course, System, fired_after, next, IsFlow, move_fault}
use Rattle.zl_value.specs.declared.value.Fault.{Fault}
use Rattle.zl_value.specs.declared.script.Mark.TheVariants.{Flow as FlowMark}
use Rattle.zl_value.specs.declared.script.Script.{Script}
use Rattle.zl_value.specs.declared.script.Ending.{Ending}
use Rattle.zl_value.specs.declared.script.Ending.TheVariants.{Empty, Fault as EndsInFault}

module _ {X Y : Type 0} (sys : System X Y) (script : Script) where
  -- a step follows, at the same time; it takes the script line of this time, if no step took it. The first instant is one
  pub record StepAfter (h : History X) (i : Instant X) : Type 0 where
    pub due : next sys script h ≡ Steps
    pub kind : i.kind ≡ Step
    pub time : i.time ≡ time_of h
    pub inputs : i.inputs ≡ inputs_after sys.inputs (line_for script i.time (steps_at i.time h)) (latest_inputs h)
    pub fired : i.fired ≡ fired_after sys h
    pub solves : i.table ≡ sys.step h i

  -- the flow `y` follows instant `i`
  pub record FlowAfter (h : History X) (i : Instant X) (y : Course Y) : Type 0 where
    pub due : next sys script (i ∷ h) ≡ Flows
    pub solves : IsFlow sys h i y

  -- it has no fault, no value is missing in it, and it lasts `d`
  pub record MoveAfter (h : History X) (i : Instant X) (y : Course Y) (d : Fraction) : Type 0 where
    pub flow : FlowAfter h i y
    pub right : sys.flow_fault h i y ≡ None
    pub whole : sys.flow_lacks i y ≡ false
    pub lasts : Lasts script (sys.values i y) sys.sites i.time d

  -- the left end `next` of the flow after instant `i`: the moment at which the flow is over
  pub record LeftAfter (h : History X) (i next : Instant X) : Type 0 where
    pub flow : Course Y
    pub duration : Fraction
    pub move : MoveAfter h i flow duration
    pub fits : move_fault sys i flow duration ≡ None
    pub kind : next.kind ≡ Left
    pub time : next.time ≡ add i.time duration
    pub inputs : next.inputs ≡ i.inputs
    pub fired : next.fired ≡ fired_after sys (i ∷ h)
    pub solves : next.table ≡ sys.left (i ∷ h) flow duration next

  -- the flow after instant `i` ends the run: by a fault in it, by a value that is missing, or by the move
  pub data EndsInFlow (h : History X) (i : Instant X) : Ending → Type 0 where
    ByFault : (y : Course Y) (fault : Fault) → FlowAfter h i y → sys.flow_fault h i y ≡ Some fault → EndsInFlow h i (EndsInFault fault i.time FlowMark)
    ByLack : (y : Course Y) → FlowAfter h i y → sys.flow_fault h i y ≡ None → sys.flow_lacks i y ≡ true → EndsInFlow h i Empty
    ByMove : (y : Course Y) (d : Fraction) (fault : Fault) → MoveAfter h i y d → move_fault sys i y d ≡ Some fault → EndsInFlow h i (EndsInFault fault i.time FlowMark)

  -- the beginning of a run: one instant at least, each the one that follows those before it
  abbrev pub IsPrefix : History X → Type 0
  IsPrefix [] = ⊥
  IsPrefix (i ∷ []) = StepAfter [] i
  IsPrefix (i ∷ j ∷ h) = IsPrefix (j ∷ h) × (StepAfter (j ∷ h) i ⊎ LeftAfter h j i)

  abbrev pub IsEnd : History X → Ending → Type 0
  IsEnd [] ending = ⊥
  IsEnd (i ∷ h) ending = (next sys script (i ∷ h) ≡ Ends ending) ⊎ EndsInFlow h i ending

  -- a run: the whole history, with its end
  pub record IsRun (h : History X) (ending : Ending) : Type 0 where
    pub instants : IsPrefix h
    pub ends : IsEnd h ending
