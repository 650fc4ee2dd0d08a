-- The inputs and outputs of a kernel: those of a flat form, in order, with their names and types.
use Rattle.std.specs.Prelude.{◌≡◌, ℕ, List, [], ◌∷◌, slice_get, get_or, Some}
use Rattle.zl_value.specs.declared.script.Input.{Input}
use Rattle.zl_value.specs.declared.script.Output.{Output}
use Rattle.zl_meaning.specs.FlatForm.{FlatForm}
use Rattle.zl_meaning.specs.declared.place.PlaceInfo.{PlaceInfo}
use Rattle.zl_normal.specs.Wiring.{Wiring}

-- `names` are the names of the file
module _ (f : FlatForm) (names : List (List ℕ)) (N : Wiring) where
  pub record IsInputOf (p : ℕ) (input : Input) : Type 0 where
    pub place : PlaceInfo
    pub is : slice_get f.places p ≡ Some place
    pub name : input.name ≡ get_or names place.name []
    pub typed : input.ty ≡ place.ty

  abbrev pub AreInputs : List ℕ → List Input → Type 0
  AreInputs [] [] = Unit {0}
  AreInputs (p ∷ ps) (input ∷ inputs) = IsInputOf p input × AreInputs ps inputs
  AreInputs _ _ = ⊥

  pub record IsOutputOf (p : ℕ) (out : Output) : Type 0 where
    pub place : PlaceInfo
    pub is : slice_get f.places p ≡ Some place
    pub name : out.name ≡ get_or names place.name []
    pub wire : out.«from» ≡ N.P p

  abbrev pub AreOutputs : List ℕ → List Output → Type 0
  AreOutputs [] [] = Unit {0}
  AreOutputs (p ∷ ps) (out ∷ outs) = IsOutputOf p out × AreOutputs ps outs
  AreOutputs _ _ = ⊥
