-- The kernel of the saw tooth is a normal form of the saw tooth's flat form.
use Rattle.std.specs.Prelude.{[], ◌∷◌, get_or, Some, None}
use Rattle.zl_meaning.specs.Worked.SawTooth.{form, grades, names}
use Rattle.zl_kernel.specs.Worked.SawTooth.{kernel}
use Rattle.zl_normal.specs.Wiring.{Wiring}
use Rattle.zl_normal.specs.Normal.{IsNormal}

abbrev pub wiring : Wiring
wiring = record {
  w = λ n. get_or (11 ∷ 3 ∷ 4 ∷ 5 ∷ 11 ∷ 12 ∷ 3 ∷ 4 ∷ 5 ∷ []) n 0;
  G = λ n. get_or (None ∷ None ∷ Some 1 ∷ None ∷ None ∷ None ∷ None ∷ Some 6 ∷ None ∷ []) n None;
  P = λ n. 11;
  L = λ n. 9;
  S = λ n. get_or (13 ∷ 4 ∷ 4 ∷ 4 ∷ 13 ∷ 13 ∷ 4 ∷ 4 ∷ 4 ∷ []) n 0;
  D = λ n. 13;
  step = 0;
  fresh = 1;
  first = 0;
  zero = 4;
}

abbrev pub SawToothIsNormal : Type 0
SawToothIsNormal = IsNormal form grades names kernel wiring
