use Rattle.std.proofs.Common.{◌≡◌, ℕ, List, [], ◌∷◌, codes, refl}
use Rattle.std.specs.List.{IsDistinct}
use Rattle.std.specs.Str.{bytes_eq}
use Rattle.zl_tests.proofs.scripts.read_for_three.Goals as goal

three_names : (a b c : List ℕ) → a ≡ codes "v" → b ≡ codes "n" → c ≡ codes "b" → IsDistinct bytes_eq (a ∷ b ∷ c ∷ [])
unfolding IsDistinct
three_names a b c e h k = rw (e, h, k) ((refl, (refl, tt)), ((refl, tt), (tt, tt)))

pub read_script-requires : goal.read_script-requires
read_script-requires c =
    three_names c.in_ok-make.field-0 c.in_ok-make-2.field-0 c.in_ok-make-3.field-0 c.in_ok-make.ensures c.in_ok-make-2.ensures c.in_ok-make-3.ensures
