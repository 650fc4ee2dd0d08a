use Rattle.zl_normal.proofs.Runs.NothingMissing.{lacks_nothing}
use Rattle.zl_normal.proofs.laws.normal_form_lacks_nothing.Goals as goal

pub returns : goal.returns
returns c = λ f g names k N formed main single ranks lasts keeps normal outputs again script suits h ending run e. lacks_nothing f g names k N script main normal single ranks lasts formed keeps suits outputs again h ending run e
