-- The kernel that is made of a form, wire by wire.
use Rattle.std.specs.Prelude.{ℕ, suc, ◌+◌, nat_eq, Bool, true, false, not, ◌&&◌, ◌||◌, if◌then◌else◌, List, [], ◌∷◌, map, drop, length, slice_get, get_or, Option, Some, None, pos}
use Rattle.zl_value.specs.Fraction.{whole}
use Rattle.zl_value.specs.declared.position.Pos.{Pos}
use Rattle.zl_value.specs.declared.value.Ty.{Ty}
use Rattle.zl_value.specs.declared.value.Ty.TheVariants.{Bool as BoolTy, Float}
use Rattle.zl_value.specs.declared.value.Value.{Value as AValue}
use Rattle.zl_value.specs.declared.value.Value.TheVariants.{B, F}
use Rattle.zl_value.specs.declared.op.Op.{Op}
use Rattle.zl_value.specs.declared.op.Op.TheVariants.{Or, Not, EqFloat, SubFloat, MulFloat, DivFloat, NegFloat}
use Rattle.zl_value.specs.declared.script.Input.{Input}
use Rattle.zl_value.specs.declared.script.Output.{Output}
use Rattle.zl_meaning.specs.FlatForm.{FlatForm, place_call}
use Rattle.zl_meaning.specs.declared.place.Definer.{Definer}
use Rattle.zl_meaning.specs.declared.place.Definer.TheVariants.{Input as InputOf, Plain, Der, Start}
use Rattle.zl_meaning.specs.declared.place.DerArm.{DerArm}
use Rattle.zl_meaning.specs.declared.place.PlaceInfo.{PlaceInfo}
use Rattle.zl_meaning.specs.declared.occurrence.Form.{Form}
use Rattle.zl_meaning.specs.declared.occurrence.Form.TheVariants.{Lit as LitOf, Op as Apply, If as IfOf, Arrow, Pre, Up, Fired}
use Rattle.zl_meaning.specs.declared.occurrence.Occ.{Occ}
use Rattle.zl_meaning.specs.declared.occurrence.SiteInfo.{SiteInfo}
use Rattle.zl_kernel.specs.KernelForm.{KernelForm}
use Rattle.zl_kernel.specs.declared.wire.Def.{Def}
use Rattle.zl_kernel.specs.declared.wire.Def.TheVariants.{Lit, Copy, Mem, In, Event, Step as AtSteps, Op as OpWire, If}
use Rattle.zl_kernel.specs.declared.wire.Wire.{Wire}
use Rattle.zl_kernel.specs.declared.memory.KMem.{KMem}
use Rattle.zl_kernel.specs.declared.site.KSite.{KSite}
use Rattle.zl_normal.specs.Wiring.{Wiring, call_guard}
use Rattle.zl_normal.specs.PlaceWires.{definer_of, start_of}
use Rattle.zl_normal.specs.Tables.{Tables, is_guarded, is_literal, is_still, has_own_slope}
use Rattle.zl_normal.specs.Keys.{keys, memories}
use Rattle.zl_normal.specs.declared.role.Role.{Role}
use Rattle.zl_normal.specs.declared.role.Role.TheVariants.{Branch, Both, Start as OfStart, Reset as OfReset}
use Rattle.zl_normal.specs.declared.key.Key.{Key}
use Rattle.zl_normal.specs.declared.key.Key.TheVariants.{Step, Fresh, No, Zero, Value, Rest, Next, Other, Guard, Place, Between, Taken, Passed, Chosen, Last, Remembered, Again, Present, Slope, Motion}
use Rattle.zl_normal.specs.declared.key.Kept.{Kept}
use Rattle.zl_normal.specs.declared.key.Kept.TheVariants.{First, Before, Moving, Derivative, Pre as OfPre}

-- the numbers of wires and memories by what they stand for, and the wires of occurrences and places
pub record Numbers : Type 0 where
  pub wire : Key → ℕ
  pub memory : Kept → ℕ
  pub wiring : Wiring

abbrev pub nowhere : Pos
nowhere = record { line = 0; column = 0 }

-- a wire that can't fault and names no slope
abbrev pub plain : Ty → Def → Option ℕ → Wire
plain ty def guard = record { ty = ty; def = def; guard = guard; slope = None; ord = 0; at = nowhere }

-- what no wire stands for
abbrev pub blank : Wire
blank = plain BoolTy (Lit (B false)) None

-- the first of these parts, or one of the others, which wire `rest` joins
abbrev pub joined : (ℕ → ℕ) → ℕ → List ℕ → Wire
joined w rest (u ∷ v ∷ []) = plain BoolTy (OpWire Or (w u ∷ w v ∷ [])) None
joined w rest (u ∷ v ∷ x ∷ us) = plain BoolTy (OpWire Or (w u ∷ rest ∷ [])) None
joined w rest us = blank

module _ (f : FlatForm) (grades : List ℕ) (t : Tables) (n : Numbers) where
  abbrev pub w : ℕ → ℕ
  w = n.wiring.w

  abbrev pub S : ℕ → ℕ
  S = n.wiring.S

  abbrev pub own_slope : ℕ → Occ → Option ℕ
  own_slope j occ = if has_own_slope f grades j occ then Some (n.wire (Slope j)) else None

  -- a wire with this definition for the value of occurrence `j`
  abbrev pub solved : ℕ → Occ → Def → Wire
  solved j occ def = record { ty = occ.ty; def = def; guard = n.wiring.G j; slope = own_slope j occ; ord = j; at = occ.at }

  abbrev pub value_wire : ℕ → Occ → Form → Wire
  value_wire j occ (LitOf v) = plain occ.ty (Lit v) None
  value_wire j occ (Apply op ks) = solved j occ (OpWire op (map w ks))
  value_wire j occ (IfOf c x y) = solved j occ (If (w c) (w x) (w y))
  value_wire j occ (Arrow x y) = solved j occ (If n.wiring.fresh (w x) (w y))
  value_wire j occ (Pre x) = plain occ.ty (Mem (n.memory (OfPre j))) None
  value_wire j occ (Up s) = plain BoolTy (Event s) None
  value_wire j occ form = blank

  -- the slope of an operator
  abbrev pub slope_def : Op → List ℕ → Def
  slope_def SubFloat (a ∷ b ∷ []) = if is_still grades a then OpWire NegFloat (S b ∷ []) else OpWire SubFloat (S a ∷ S b ∷ [])
  slope_def MulFloat (a ∷ b ∷ []) = if is_still grades a then OpWire MulFloat (w a ∷ S b ∷ []) else OpWire MulFloat (S a ∷ w b ∷ [])
  slope_def DivFloat (a ∷ b ∷ []) = OpWire DivFloat (S a ∷ w b ∷ [])
  slope_def op ks = OpWire op (map S ks)

  -- its fault counts behind those of all values
  abbrev pub slope_wire : ℕ → Occ → Form → Wire
  slope_wire j occ (Apply op ks) =
      record { ty = Float; def = slope_def op ks; guard = Some (n.wire (Present j)); slope = None; ord = length f.occs + j; at = occ.at }
  slope_wire j occ (IfOf c x y) = plain Float (If (w c) (S x) (S y)) None
  slope_wire j occ form = blank

  abbrev pub rest_wire : ℕ → ℕ → Form → Wire
  rest_wire j i (Fired ks) = joined w (n.wire (Rest j (suc i))) (drop i ks)
  rest_wire j i form = blank

  abbrev pub next_wire : Form → Ty → Wire
  next_wire (Pre x) ty = plain ty (Copy (w x)) (n.wiring.G x)
  next_wire form ty = blank

  -- the wires of the guard of occurrence `j`, which is used so
  abbrev pub other_wire : Option Role → Wire
  other_wire (Some (Both whole c)) = plain BoolTy (OpWire Not (w c ∷ [])) (n.wiring.G whole)
  other_wire role = blank

  abbrev pub guard_wire : ℕ → Option Role → Wire
  guard_wire j (Some (Branch whole c true)) = plain BoolTy (Copy (w c)) (n.wiring.G whole)
  guard_wire j (Some (Branch whole c false)) = plain BoolTy (OpWire Not (w c ∷ [])) (n.wiring.G whole)
  guard_wire j (Some (Both whole c)) = plain BoolTy (OpWire Or (w c ∷ n.wire (Other j) ∷ [])) (n.wiring.G whole)
  guard_wire j (Some (OfStart p)) = plain BoolTy (Copy n.wiring.fresh) (call_guard n.wiring (place_call f p))
  guard_wire j (Some (OfReset p arm)) = plain BoolTy (Copy (n.wire (Taken p arm))) (call_guard n.wiring (place_call f p))
  guard_wire j role = blank

  -- the wire of what place `p` has by its arms from number `i` on, which are these
  abbrev pub by_arms : ℕ → ℕ → List DerArm → ℕ
  by_arms p i [] = n.wiring.L p
  by_arms p i (arm ∷ arms) = n.wire (Chosen p i)

  -- the wire that is true where no arm before number `i` is taken
  abbrev pub before_arm : ℕ → ℕ → ℕ
  before_arm p ℕ.zero = n.wiring.step
  before_arm p (suc i) = n.wire (Passed p i)

  abbrev pub defined_wire : ℕ → PlaceInfo → Option Definer → Wire
  defined_wire p place None = plain place.ty (Copy (n.wiring.L p)) (call_guard n.wiring place.call)
  defined_wire p place (Some (InputOf i)) = plain place.ty (In i) (call_guard n.wiring place.call)
  defined_wire p place (Some (Plain b j)) = plain place.ty (Copy (w j)) (call_guard n.wiring place.call)
  defined_wire p place (Some (Der b j arms)) =
      plain place.ty (If n.wiring.step (by_arms p 0 arms) (n.wire (Between p))) (call_guard n.wiring place.call)
  defined_wire p place (Some (Start b j)) = blank

  abbrev pub arms_of : Option Definer → List DerArm
  arms_of (Some (Der b j arms)) = arms
  arms_of definer = []

  abbrev pub taken_wire : ℕ → ℕ → List DerArm → Wire
  taken_wire p i [] = blank
  taken_wire p i (arm ∷ arms) = plain BoolTy (Copy (w arm.event)) (Some (before_arm p i))

  abbrev pub passed_wire : ℕ → ℕ → List DerArm → Wire
  passed_wire p i [] = blank
  passed_wire p i (arm ∷ arms) = plain BoolTy (OpWire Not (w arm.event ∷ [])) (Some (before_arm p i))

  abbrev pub chosen_wire : ℕ → ℕ → List DerArm → Wire
  chosen_wire p i [] = blank
  chosen_wire p i (arm ∷ arms) = plain Float (If (n.wire (Taken p i)) (w arm.value) (by_arms p (suc i) arms)) None

  abbrev pub last_wire : ℕ → PlaceInfo → Option ℕ → Wire
  last_wire p place None = plain place.ty (Mem (n.memory (Before p))) None
  last_wire p place (Some j) =
      if is_literal f j then plain place.ty (Mem (n.memory (Before p))) None else plain place.ty (If n.wiring.fresh (w j) (n.wire (Remembered p))) None

  -- what these make of an occurrence or a place, which there is
  abbrev pub of_occ : (Occ → Wire) → ℕ → Wire
  of_occ make j = of (slice_get f.occs j) where
    of : Option Occ → Wire
    of None = blank
    of (Some occ) = make occ

  abbrev pub of_place : (PlaceInfo → Wire) → ℕ → Wire
  of_place make p = of (slice_get f.places p) where
    of : Option PlaceInfo → Wire
    of None = blank
    of (Some place) = make place

  -- the wire that stands for this
  abbrev pub wire_of : Key → Wire
  wire_of Step = plain BoolTy AtSteps None
  wire_of Fresh = plain BoolTy (Mem (n.memory First)) None
  wire_of No = plain BoolTy (Lit (B false)) None
  wire_of Zero = plain Float (Lit (F (whole (pos 0)))) None
  wire_of (Value j) = of_occ (λ occ. value_wire j occ occ.form) j
  wire_of (Rest j i) = of_occ (λ occ. rest_wire j i occ.form) j
  wire_of (Next j) = of_occ (λ occ. next_wire occ.form occ.ty) j
  wire_of (Other j) = other_wire (slice_get t.roles j)
  wire_of (Guard j) = guard_wire j (slice_get t.roles j)
  wire_of (Place p) = of_place (λ place. defined_wire p place (definer_of place.definers)) p
  wire_of (Between p) = plain Float (Mem (n.memory (Moving p))) None
  wire_of (Taken p i) = of_place (λ place. taken_wire p i (drop i (arms_of (definer_of place.definers)))) p
  wire_of (Passed p i) = of_place (λ place. passed_wire p i (drop i (arms_of (definer_of place.definers)))) p
  wire_of (Chosen p i) = of_place (λ place. chosen_wire p i (drop i (arms_of (definer_of place.definers)))) p
  wire_of (Last p) = of_place (λ place. last_wire p place (start_of place.definers)) p
  wire_of (Remembered p) = of_place (λ place. plain place.ty (Mem (n.memory (Before p))) None) p
  wire_of (Again i) = joined w (n.wire (Again (suc i))) (drop i f.again)
  wire_of (Present j) = plain BoolTy (OpWire EqFloat (w j ∷ w j ∷ [])) None
  wire_of (Slope j) = of_occ (λ occ. slope_wire j occ occ.form) j
  wire_of (Motion p) = plain Float (Mem (n.memory (Derivative p))) None

  -- a memory that doesn't move
  abbrev pub still : Ty → Option AValue → ℕ → KMem
  still ty start next = record { ty = ty; start = start; next = next; slope = None; at = nowhere }

  abbrev pub no_memory : KMem
  no_memory = still BoolTy None (n.wire No)

  abbrev pub literal_form : Form → Option AValue
  literal_form (LitOf v) = Some v
  literal_form form = None

  abbrev pub literal_occ : Option Occ → Option AValue
  literal_occ None = None
  literal_occ (Some occ) = literal_form occ.form

  -- the `init` value of a place, if it is a literal
  abbrev pub literal_start : Option ℕ → Option AValue
  literal_start None = None
  literal_start (Some j) = literal_occ (slice_get f.occs j)

  abbrev pub moving_memory : ℕ → PlaceInfo → KMem
  moving_memory p place = record { ty = Float; start = None; next = n.wiring.P p; slope = Some (n.wiring.D p); at = place.at }

  abbrev pub derivative_memory : Option Definer → KMem
  derivative_memory (Some (Der b j arms)) = still Float None (w j)
  derivative_memory definer = no_memory

  abbrev pub pre_memory : ℕ → Form → Ty → KMem
  pre_memory j (Pre x) ty = still ty None (if is_guarded f t x then w x else n.wire (Next j))
  pre_memory j form ty = no_memory

  abbrev pub memory_of_occ : (Occ → KMem) → Option Occ → KMem
  memory_of_occ make None = no_memory
  memory_of_occ make (Some occ) = make occ

  abbrev pub memory_of_place : (PlaceInfo → KMem) → Option PlaceInfo → KMem
  memory_of_place make None = no_memory
  memory_of_place make (Some place) = make place

  -- the memory that stands for this
  abbrev pub memory_of : Kept → KMem
  memory_of First = still BoolTy (Some (B true)) (n.wire No)
  memory_of (Before p) = memory_of_place (λ place. still place.ty (literal_start (start_of place.definers)) (n.wiring.P p)) (slice_get f.places p)
  memory_of (Moving p) = memory_of_place (moving_memory p) (slice_get f.places p)
  memory_of (Derivative p) = memory_of_place (λ place. derivative_memory (definer_of place.definers)) (slice_get f.places p)
  memory_of (OfPre j) = memory_of_occ (λ occ. pre_memory j occ.form occ.ty) (slice_get f.occs j)

  -- whether a site is fresh: by the test of an `if` whose branches are one occurrence, else at the first instant
  abbrev pub fresh_form : Form → ℕ
  fresh_form (IfOf c x y) = if nat_eq x y then w c else n.wiring.fresh
  fresh_form form = n.wiring.fresh

  abbrev pub fresh_occ : Option Occ → ℕ
  fresh_occ None = n.wiring.fresh
  fresh_occ (Some occ) = fresh_form occ.form

  abbrev pub site_of : SiteInfo → KSite
  site_of site = record { value = w site.arg; fresh = fresh_occ (slice_get f.occs site.arg); slope = S site.arg }

  -- the wire that is true where one of these occurrences is
  abbrev pub any_again : List ℕ → ℕ
  any_again [] = n.wire No
  any_again (k ∷ []) = w k
  any_again (k ∷ j ∷ ks) = n.wire (Again 0)

  module _ (names : List (List ℕ)) where
    abbrev pub input_of : Option PlaceInfo → Input
    input_of None = record { name = []; ty = BoolTy }
    input_of (Some place) = record { name = get_or names place.name []; ty = place.ty }

    abbrev pub name_of : Option PlaceInfo → List ℕ
    name_of None = []
    name_of (Some place) = get_or names place.name []

    abbrev pub output_of : ℕ → Output
    output_of p = record { name = name_of (slice_get f.places p); «from» = n.wiring.P p }

    -- the kernel. `names` are the names of the file
    abbrev pub kernel_of : KernelForm
    kernel_of = record {
      wires = map wire_of (keys f grades t);
      mems = map memory_of (memories f grades t);
      ins = map (λ p. input_of (slice_get f.places p)) f.ins;
      outs = map output_of f.outs;
      sites = map site_of f.sites;
      again = any_again f.again;
    }
