-- The value of an occurrence at a moment, and whether it is evaluated.
use Rattle.std.specs.Prelude.{ℕ, Bool, true, false, not, ◌&&◌, if◌then◌else◌, List, [], ◌∷◌, slice_get, Option, Some, None}
use Rattle.std.specs.List.{list_any}
use Rattle.std.specs.Option.{option_map, option_and_then}
use Rattle.zl_value.specs.Lists.{among}
use Rattle.zl_value.specs.Times.{holds, fails}
use Rattle.zl_value.specs.Operators.{Answer, Gives, Nothing, answered, exact, operate}
use Rattle.zl_value.specs.declared.value.Value.{Value}
use Rattle.zl_value.specs.declared.value.Value.TheVariants.{B}
use Rattle.zl_value.specs.declared.op.Op.{Op}
use Rattle.zl_meaning.specs.FlatForm.{FlatForm}
use Rattle.zl_meaning.specs.Uses.{Use, PartOf, BranchOf, DefinerOf, SlopeOf, EventOf, StartOf, ResetOf, TestOf, ArgumentOf, AgainOf, uses_of}
use Rattle.zl_meaning.specs.State.{State, AtControl, AtPlace, AtUsed, AtValue, is_active, value_in}
use Rattle.zl_meaning.specs.Moment.{Mode, AtStep, AtLeft, InFlow, Moment, is_at_step, is_fresh, is_called, decide, is_number}
use Rattle.zl_meaning.specs.Places.{last_of}
use Rattle.zl_meaning.specs.declared.occurrence.Form.{Form}
use Rattle.zl_meaning.specs.declared.occurrence.Form.TheVariants.{Lit, Read, Last, Op as Apply, If, Arrow, Pre, Result, Up, Fired, Step}
use Rattle.zl_meaning.specs.declared.occurrence.Occ.{Occ}

-- the values of these occurrences, if each has one
abbrev pub gathered : State → List ℕ → Option (List Value)
gathered s [] = Some []
gathered s (k ∷ ks) = option_and_then (λ v. option_map (λ vs. v ∷ vs) (gathered s ks)) (s (AtValue k))

-- a value that is there already
abbrev pub given : Option Value → Answer
given None = Nothing
given (Some v) = Gives v

-- an operator's answer: in a flow numbers have no width
abbrev pub applied : Mode → Op → Option (List Value) → Answer
applied mode op None = Nothing
applied AtStep op (Some values) = operate op values
applied AtLeft op (Some values) = operate op values
applied InFlow op (Some values) = exact op values

-- the branch that the condition takes
abbrev pub branch : Option Value → Option Value → Option Value → Option Value
branch (Some (B true)) x y = x
branch (Some (B false)) x y = y
branch _ x y = None

-- one of the events holds; there is no value where one has none
abbrev pub any_holds : Option (List Value) → Answer
any_holds None = Nothing
any_holds (Some values) = Gives (B (list_any (λ v. holds (Some v)) values))

-- events hold at steps alone
abbrev pub fired_answer : Mode → State → List ℕ → Answer
fired_answer AtStep s ks = any_holds (gathered s ks)
fired_answer AtLeft s ks = Gives (B false)
fired_answer InFlow s ks = Gives (B false)

-- `up(e)` holds at a step if its site fired after the instant before, and its block isn't fresh
abbrev pub up_holds : Moment → State → ℕ → ℕ → Bool
up_holds m s b site = is_at_step m.mode && (among site m.fired && not (is_fresh m s b))

-- what an occurrence of this form in block `b` answers
abbrev pub answer : FlatForm → Moment → State → ℕ → Form → Answer
answer f m s b (Lit v) = Gives v
answer f m s b (Read p) = given (s (AtPlace p))
answer f m s b (Last p) = given (last_of m s p (slice_get f.places p))
answer f m s b (Apply op ks) = applied m.mode op (gathered s ks)
answer f m s b (If c x y) = given (branch (s (AtValue c)) (s (AtValue x)) (s (AtValue y)))
answer f m s b (Arrow x y) = given (if is_fresh m s b then s (AtValue x) else s (AtValue y))
answer f m s b (Pre x) = given (if is_fresh m s b then None else value_in m.before x)
answer f m s b (Result x) = given (s (AtValue x))
answer f m s b (Up site) = Gives (B (up_holds m s b site))
answer f m s b (Fired ks) = fired_answer m.mode s ks
answer f m s b Step = Gives (B (is_at_step m.mode))

-- the value of an occurrence, whether or not it is evaluated: there is none where its block isn't active
abbrev pub value_of : FlatForm → Moment → State → Option Occ → Option Value
value_of f m s None = None
value_of f m s (Some occ) = if is_active (s (AtControl occ.block)) then answered (answer f m s occ.block occ.form) else None

-- the condition of an `if` takes the branch
abbrev pub takes : Bool → Option Value → Bool
takes true condition = holds condition
takes false condition = fails condition

-- the use asks for the occurrence: a part where its whole is evaluated, a branch where the condition takes it, what a
-- definer names where the definer's call is evaluated; an `init` value where its block is fresh, a reset value at a step
-- at which its arm is the first whose event holds, a test at steps, and an argument of a site or of `again` always
abbrev pub asks : Moment → State → Use → Bool
asks m s (PartOf whole) = s (AtUsed whole)
asks m s (BranchOf whole condition side) = s (AtUsed whole) && takes side (s (AtValue condition))
asks m s (DefinerOf call) = is_called s call
asks m s (SlopeOf call) = is_called s call
asks m s (EventOf call) = is_called s call
asks m s (StartOf call block) = is_called s call && is_fresh m s block
asks m s (ResetOf call events arm) = is_called s call && (is_at_step m.mode && is_number arm (decide s events))
asks m s TestOf = is_at_step m.mode
asks m s ArgumentOf = true
asks m s AgainOf = true

-- some use asks for it; where it has none, its call is evaluated
abbrev pub is_asked : Moment → State → Option ℕ → List Use → Bool
is_asked m s call [] = is_called s call
is_asked m s call (first ∷ others) = list_any (asks m s) (first ∷ others)

-- the occurrence is evaluated: its block is active, and some use asks for it
abbrev pub used_of : FlatForm → Moment → State → ℕ → Option Occ → Bool
used_of f m s k None = false
used_of f m s k (Some occ) = is_active (s (AtControl occ.block)) && is_asked m s occ.call (uses_of f k)
