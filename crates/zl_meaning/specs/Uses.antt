-- Where an occurrence is used: what names it, and how. `IsUse` says it by cases; `uses_of` is the same as a list, with which
-- the meaning computes.
use Rattle.std.specs.Prelude.{◌≡◌, ℕ, suc, Bool, true, false, if◌then◌else◌, ◌||◌, nat_eq, List, [], ◌∷◌, ◌++◌, slice_get, Option, Some, map}
use Rattle.std.specs.List.{list_any, flat_map}
use Rattle.zl_value.specs.Lists.{Has, among, when}
use Rattle.zl_meaning.specs.FlatForm.{FlatForm, HasForm, HasDefiner, kind_of, place_call}
use Rattle.zl_meaning.specs.declared.block.BlockKind.{BlockKind}
use Rattle.zl_meaning.specs.declared.block.BlockKind.TheVariants.{Main, Arm, Guard, State, Reset}
use Rattle.zl_meaning.specs.declared.block.Block.{Block}
use Rattle.zl_meaning.specs.declared.block.Choice.{Choice}
use Rattle.zl_meaning.specs.declared.block.Auto.{Auto}
use Rattle.zl_meaning.specs.declared.block.AutoMove.{AutoMove}
use Rattle.zl_meaning.specs.declared.place.Definer.{Definer}
use Rattle.zl_meaning.specs.declared.place.Definer.TheVariants.{Input, Plain, Der, Start}
use Rattle.zl_meaning.specs.declared.place.DerArm.{DerArm}
use Rattle.zl_meaning.specs.declared.place.PlaceInfo.{PlaceInfo}
use Rattle.zl_meaning.specs.declared.occurrence.Form.{Form}
use Rattle.zl_meaning.specs.declared.occurrence.Form.TheVariants.{Lit, Read, Last, Op as Apply, If, Arrow, Pre, Result, Up, Fired, Step}
use Rattle.zl_meaning.specs.declared.occurrence.Occ.{Occ}
use Rattle.zl_meaning.specs.declared.occurrence.SiteInfo.{SiteInfo}

pub data Use : Type 0 where
  PartOf : (whole : ℕ) → Use
  BranchOf : (whole condition : ℕ) → (side : Bool) → Use
  DefinerOf : (call : Option ℕ) → Use
  SlopeOf : (call : Option ℕ) → Use
  EventOf : (call : Option ℕ) → Use
  StartOf : (call : Option ℕ) → (block : ℕ) → Use
  ResetOf : (call : Option ℕ) → (events : List ℕ) → (arm : ℕ) → Use
  TestOf : Use
  ArgumentOf : Use
  AgainOf : Use

-- the parts of an occurrence of this form
abbrev pub parts : Form → List ℕ
parts (Lit v) = []
parts (Read p) = []
parts (Last p) = []
parts (Apply op ks) = ks
parts (If c a b) = c ∷ a ∷ b ∷ []
parts (Arrow a b) = a ∷ b ∷ []
parts (Pre a) = a ∷ []
parts (Result a) = a ∷ []
parts (Up s) = []
parts (Fired ks) = ks
parts Step = []

-- the parts that are evaluated wherever the whole is: all but the branches of an `if`
abbrev pub steady_parts : Form → List ℕ
steady_parts (If c a b) = c ∷ []
steady_parts form = parts form

-- the events of these reset arms
abbrev pub events_of : List DerArm → List ℕ
events_of resets = map (λ (arm : DerArm). arm.event) resets

-- `k` is the test of a choice, of a `reset` body, of a move
pub data IsTest (f : FlatForm) (k : ℕ) : Type 0 where
  OfChoice : (of : ℕ) (choice : Choice) → slice_get f.choices of ≡ Some choice → Has choice.conds k → IsTest f k
  OfReset : (b : ℕ) → kind_of f b ≡ Some (Reset k) → IsTest f k
  OfMove : (of : ℕ) (auto : Auto) (moves : List AutoMove) (move : AutoMove) → slice_get f.automata of ≡ Some auto → Has auto.states moves → Has moves move → move.cond ≡ k → IsTest f k

-- occurrence number `k` is used so
pub data IsUse (f : FlatForm) (k : ℕ) : Use → Type 0 where
  AsPart : (whole : ℕ) (form : Form) → HasForm f whole form → Has (steady_parts form) k → IsUse f k (PartOf whole)
  AsBranch : (whole c x y : ℕ) (side : Bool) → HasForm f whole (If c x y) → k ≡ (if side then x else y) → IsUse f k (BranchOf whole c side)
  AsDefiner : (p b : ℕ) (call : Option ℕ) → HasDefiner f p (Plain b k) → place_call f p ≡ call → IsUse f k (DefinerOf call)
  AsSlope : (p b : ℕ) (resets : List DerArm) (call : Option ℕ) → HasDefiner f p (Der b k resets) → place_call f p ≡ call → IsUse f k (SlopeOf call)
  AsEvent : (p b slope : ℕ) (resets : List DerArm) (arm : DerArm) (call : Option ℕ) → HasDefiner f p (Der b slope resets) → Has resets arm → arm.event ≡ k → place_call f p ≡ call → IsUse f k (EventOf call)
  AsStart : (p b : ℕ) (call : Option ℕ) → HasDefiner f p (Start b k) → place_call f p ≡ call → IsUse f k (StartOf call b)
  AsReset : (p b slope n : ℕ) (resets : List DerArm) (arm : DerArm) (call : Option ℕ) → HasDefiner f p (Der b slope resets) → slice_get resets n ≡ Some arm → arm.value ≡ k → place_call f p ≡ call → IsUse f k (ResetOf call (events_of resets) n)
  AsTest : IsTest f k → IsUse f k TestOf
  AsArgument : (n : ℕ) (site : SiteInfo) → slice_get f.sites n ≡ Some site → site.arg ≡ k → IsUse f k ArgumentOf
  AsAgain : Has f.again k → IsUse f k AgainOf

-- nothing uses occurrence number `k`
abbrev pub IsUnused : FlatForm → ℕ → Type 0
IsUnused f k = (of : Use) → IsUse f k of → ⊥

-- the uses of `k` as a part of occurrence `whole`, which has this form
abbrev pub part_uses : ℕ → ℕ → Form → List Use
part_uses k whole (If c a b) = when (nat_eq c k) (PartOf whole) ++ when (nat_eq a k) (BranchOf whole c true) ++ when (nat_eq b k) (BranchOf whole c false)
part_uses k whole form = when (among k (parts form)) (PartOf whole)

-- its uses as a part of these occurrences, of which the first has the number `whole`
abbrev pub uses_in_occs : ℕ → ℕ → List Occ → List Use
uses_in_occs k whole [] = []
uses_in_occs k whole (occ ∷ occs) = part_uses k whole occ.form ++ uses_in_occs k (suc whole) occs

-- its uses in the reset arms of a `der`, of which the first has the number `n`; `events` are the events of all
abbrev pub arm_uses : ℕ → Option ℕ → List ℕ → ℕ → List DerArm → List Use
arm_uses k call events n [] = []
arm_uses k call events n (arm ∷ arms) =
    when (nat_eq arm.event k) (EventOf call) ++ when (nat_eq arm.value k) (ResetOf call events n) ++ arm_uses k call events (suc n) arms

-- its uses by a definer of a place in the copy of this call
abbrev pub definer_uses : ℕ → Option ℕ → Definer → List Use
definer_uses k call (Input n) = []
definer_uses k call (Plain b j) = when (nat_eq j k) (DefinerOf call)
definer_uses k call (Der b slope resets) = when (nat_eq slope k) (SlopeOf call) ++ arm_uses k call (events_of resets) 0 resets
definer_uses k call (Start b j) = when (nat_eq j k) (StartOf call b)

abbrev pub place_uses : ℕ → PlaceInfo → List Use
place_uses k place = flat_map (definer_uses k place.call) place.definers

-- it is the test of a choice, of a `reset` body, of a move
abbrev pub is_choice_test : ℕ → Choice → Bool
is_choice_test k choice = among k choice.conds

abbrev pub is_reset_test : ℕ → BlockKind → Bool
is_reset_test k (Reset cond) = nat_eq cond k
is_reset_test k Main = false
is_reset_test k (Arm of arm) = false
is_reset_test k (Guard of state) = false
is_reset_test k (State of state) = false

abbrev pub is_move_test : ℕ → Auto → Bool
is_move_test k auto = list_any (λ moves. list_any (λ (move : AutoMove). nat_eq move.cond k) moves) auto.states

abbrev pub is_test : FlatForm → ℕ → Bool
is_test f k = list_any (is_choice_test k) f.choices || list_any (λ (block : Block). is_reset_test k block.kind) f.blocks || list_any (is_move_test k) f.automata

abbrev pub is_argument : FlatForm → ℕ → Bool
is_argument f k = list_any (λ (site : SiteInfo). nat_eq site.arg k) f.sites

-- the uses of occurrence number `k`; that it is a test, or the argument of a site, counts once
abbrev pub uses_of : FlatForm → ℕ → List Use
uses_of f k =
    uses_in_occs k 0 f.occs ++ flat_map (place_uses k) f.places ++ when (is_test f k) TestOf ++ when (is_argument f k) ArgumentOf ++ when (among k f.again) AgainOf
