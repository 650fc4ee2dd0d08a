-- The innermost open `if`, and those around it.
use Rattle.std.specs.Prelude.{◌≡◌, ℕ, suc, List, [], ◌∷◌, ◌++◌, reverse, Option, Some}
use Rattle.std.specs.Option.{option_to_list}
use Rattle.std.proofs.Common.{sym, ap, ◌∙◌}
use Rattle.std.proofs.lemmas.List.{reverse-append}
use Rattle.zl_machine.specs.declared.decoding.Frame.{Frame}
use Rattle.zl_machine.specs.Building.{frame_at}

pub top_is : (old new : List Frame) (f : Frame) (r : Option Frame) → old ≡ new ++ option_to_list r → r ≡ Some f → (f ≡ frame_at (reverse old) 0) × ((n : ℕ) → frame_at (reverse new) n ≡ frame_at (reverse old) (suc n))
top_is old new f r parts is =
    let e : reverse old ≡ f ∷ reverse new = ap reverse (parts ∙ ap (λ o. new ++ option_to_list o) is) ∙ reverse-append new (f ∷ []) in
    (sym (ap (λ fs. frame_at fs 0) e), λ n. sym (ap (λ fs. frame_at fs (suc n)) e))
