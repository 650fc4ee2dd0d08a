-- Constraints in order, and the first of them up to which nothing meets them all.
use Rattle.std.specs.Prelude.{◌≡◌, List, [], ◌∷◌, ◌++◌}
use Rattle.std.specs.List.{AllByRecursion}
use Rattle.zl_value.specs.declared.position.Pos.{Pos}

module _ {A C : Type 0} (Meets : A → C → Type 0) where
  abbrev pub MeetsAll : List C → A → Type 0
  MeetsAll cs a = AllByRecursion (Meets a) cs

  -- The constraints before this one can be met together, and with it they can't. It stands at the place.
  pub record IsFirstUnsolved (place : C → Pos) (cs : List C) (at : Pos) : Type 0 where
    pub before : List C
    pub one : C
    pub behind : List C
    pub parts : cs ≡ before ++ one ∷ behind
    pub place_of_one : at ≡ place one
    pub solution : A
    pub meets_before : MeetsAll before solution
    pub none : (a : A) → MeetsAll (before ++ one ∷ []) a → ⊥
