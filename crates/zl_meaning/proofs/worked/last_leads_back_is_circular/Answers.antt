use Rattle.std.proofs.Common.{refl}
use Rattle.zl_meaning.specs.Depends.{PlaceThing, Is, LeadsTo, AtOnce as LeadsAtOnce, Further, PlaceOnItself, AtOnce}
use Rattle.zl_meaning.specs.Worked.CircularForms.{starts}
use Rattle.zl_meaning.proofs.worked.last_leads_back_is_circular.Goals as goal

-- the `init` value of `x` reads `last y`, that of `y` reads `last x`
leads_back : LeadsTo starts 0 0
leads_back =
    Further 0 1 0 0 1 (_, refl, record { index = 0; is = refl }) (Is 1 1 (_, refl, refl))
    (LeadsAtOnce 1 0 0 2 (_, refl, record { index = 0; is = refl }) (Is 2 0 (_, refl, refl)))

pub returns : goal.returns
returns c = AtOnce (PlaceThing 0) (PlaceThing 0) (PlaceOnItself 0 leads_back)
