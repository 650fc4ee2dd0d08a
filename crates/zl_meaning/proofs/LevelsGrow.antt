-- Levels of a well-formed form grow along every dependency.
use Rattle.std.specs.Prelude.{ℕ, ◌<◌, Bool, List, Option}
use Rattle.std.proofs.Common.{subst, arith}
use Rattle.zl_value.specs.Lists.{Has}
use Rattle.zl_value.specs.declared.value.Ty.{Ty}
use Rattle.zl_meaning.specs.FlatForm.{FlatForm, HasDefiner}
use Rattle.zl_meaning.specs.Uses.{BranchOf, ResetOf}
use Rattle.zl_meaning.specs.Branches.{Under, Is, Part, Called}
use Rattle.zl_meaning.specs.WellFormed.{IsWellFormed, IsDefiner, Stands}
use Rattle.zl_meaning.specs.Depends.{Thing, OccReads, Name, LastOf, LastBlock, Part as ReadsPart, DependsAtOnce, PlaceOnBlock, PlaceOnDefiner, PlaceOnValue, PlaceOnCondition, PlaceOnEvent, PlaceOnItself, BlockOnParent, ArmOnTest, BodyOnTest, ResetOnTest}
use Rattle.zl_meaning.specs.Levels.{HasLevels, level_of}
use Rattle.zl_meaning.specs.declared.place.Definer.TheVariants.{Start}
use Rattle.zl_meaning.proofs.Members.{all-has}
use Rattle.zl_meaning.proofs.StartOrder.{no-circle}

-- what an `init` names stands in its block
pub start-stands : (f : FlatForm) → IsWellFormed f → (p b k : ℕ) → (has : HasDefiner f p (Start b k)) → Stands f b (has.0).ty k
start-stands f well p b k has = (all-has (IsDefiner f p has.0) has.0.definers (Start b k) (well.places p has.0 has.1).definers has.2).1

-- what stands in a block has a value after it
pub stands-after : (f : FlatForm) (v : HasLevels f) (k b : ℕ) (ty : Ty) → Stands f b ty k → v.block b < v.value k
stands-after f v k b ty s = subst (λ c. v.block c < v.value k) s.block (v.stands k s.occ s.is)

module _ (f : FlatForm) (starts : (p b k : ℕ) → HasDefiner f p (Start b k) → (ty : Ty) × Stands f b ty k) (v : HasLevels f) where
  -- a value is after all that it reads
  read-low : (k : ℕ) (thing : Thing) → OccReads f k thing → level_of f v thing < v.value k
  read-low k _ (Name _ p is) = v.names k p is
  read-low k thing (LastOf _ p b j _ is has reads) = let low = read-low j thing reads in let up = v.lasts k p b j is has in omega (arith, low, up)
  read-low k _ (LastBlock _ p b j is has) = let low = (let s = starts p b j has in stands-after f v j b s.0 s.1) in let up = v.lasts k p b j is has in omega (arith, low, up)
  read-low k thing (ReadsPart _ j form _ is has reads) = let low = read-low j thing reads in let up = v.parts k j form is has in omega (arith, low, up)

  -- a use is after the conditions of the branches in which it stands
  branch-low : (whole c : ℕ) (side : Bool) (k : ℕ) → Under f (BranchOf whole c side) k → v.value c < v.used k
  branch-low whole c side _ (Is k is) = v.branches k whole c side is
  branch-low whole c side _ (Part k outer part under) = let up = v.wholes k outer part in let low = branch-low whole c side outer under in omega (arith, up, low)
  branch-low whole c side _ (Called k call at under) = let up = v.calls k call at in let low = branch-low whole c side call under in omega (arith, up, low)

  -- and after the events of the reset values under which it stands
  event-low : (of : Option ℕ) (all : List ℕ) (arm e : ℕ) → Has all e → (k : ℕ) → Under f (ResetOf of all arm) k → v.value e < v.used k
  event-low of all arm e has _ (Is k is) = v.events k e arm of all is has
  event-low of all arm e has _ (Part k outer part under) = let up = v.wholes k outer part in let low = event-low of all arm e has outer under in omega (arith, up, low)
  event-low of all arm e has _ (Called k call at under) = let up = v.calls k call at in let low = event-low of all arm e has call under in omega (arith, up, low)

  -- levels grow where each `init` value stands in its block
  pub levels-rise : (a b : Thing) → DependsAtOnce f a b → level_of f v b < level_of f v a
  levels-rise _ _ (PlaceOnBlock p x is) = v.declared p x is
  levels-rise _ _ (PlaceOnDefiner p b definer has is) = v.definers p b definer has is
  levels-rise _ thing (PlaceOnValue p k definer _ has named reads) = let up = v.named p k definer has named in let low = read-low k thing reads in omega (arith, up, low)
  levels-rise _ thing (PlaceOnCondition p call whole c side _ is under reads) =
      let up = v.called p call is in
      let middle = branch-low whole c side call under in
      let low = read-low c thing reads in
      omega (arith, up, middle, low)
  levels-rise _ thing (PlaceOnEvent p call e arm of all _ is under has reads) =
      let up = v.called p call is in
      let middle = event-low of all arm e has call under in
      let low = read-low e thing reads in
      omega (arith, up, middle, low)
  levels-rise _ _ (PlaceOnItself p leads) = absurd (no-circle f v.value v.parts v.lasts p leads)
  levels-rise _ _ (BlockOnParent b parent is) = v.parents b parent is
  levels-rise _ thing (ArmOnTest b of arm k _ is test reads) = let up = v.arms b of arm k is test in let low = read-low k thing reads in omega (arith, up, low)
  levels-rise _ thing (BodyOnTest b of state k _ is test reads) = let up = v.bodies b of state k is test in let low = read-low k thing reads in omega (arith, up, low)
  levels-rise _ thing (ResetOnTest b k _ is reads) = let up = v.resets b k is in let low = read-low k thing reads in omega (arith, up, low)

pub levels-grow : (f : FlatForm) → IsWellFormed f → (v : HasLevels f) (a b : Thing) → DependsAtOnce f a b → level_of f v b < level_of f v a
levels-grow f well v a b d = levels-rise f (λ p b k has. ((has.0).ty, start-stands f well p b k has)) v a b d
