-- Whether bytes are UTF-8, as a test.
use Rattle.std.proofs.Common.{◌≡◌, ℕ, Bool, true, false, List, refl}
use Rattle.std.specs.Str.{IsUtf8, is_utf8}
use Rattle.std.proofs.lemmas.Str.{IsUtf8-from_is_utf8}

pub is_utf8-not : (bs : List ℕ) → (IsUtf8 bs → ⊥) → is_utf8 bs ≡ false
is_utf8-not bs bad = go (is_utf8 bs) refl
  where
    go : (b : Bool) → is_utf8 bs ≡ b → b ≡ false
    go true e = absurd (bad (IsUtf8-from_is_utf8 bs e))
    go false e = refl
